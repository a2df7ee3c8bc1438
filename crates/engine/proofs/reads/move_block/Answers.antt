-- `engine::reads::move_block` meets its contract: its steps together are one read more, by the laws of `ReadLaws`. Assumes nothing.
use native.Mathlib.Omega.{arith}
use Rattle.card.proofs.StretchBounds.{places_fall}
use Rattle.engine.proofs.reads.ReadLaws.{lost_within, held_moved, summed_moved, held_still, summed_still}
use Rattle.engine.proofs.reads.move_block.Goals as goal

-- a read whose block is in no card and is put in none
pub returns-then-is_bypass : goal.returns-then-is_bypass
returns-then-is_bypass c =
    let pre = c.requires in
    let past = c.is_bypass.ensures.0 c.if-is_bypass.true in record {
      held = (λ rs r ek ep held. held_still _ _ _ _ _ _ _ pre.keyed rs held (pre.found rs held) r ek ep past.1 past.0 pre.areas.places);
      summed = λ rs r ek ep held covered. summed_still _ _ _ _ _ _ _ pre.keyed rs held (pre.found rs held) r ek ep past.1 past.0 _ covered;
    }

pub renew_all-changes-requires : goal.renew_all-changes-requires
renew_all-changes-requires c =
    let start = c in
    let pre = start.requires in
    let areas = pre.areas in
    let rs = pre.underway.rs in
    let there = (pre.found rs pre.underway.held).there in
    let moves = c.is_bypass.ensures.1 c.if-is_bypass.false in
    record {
      some = areas.some;
      in_range = areas.within;
      read_at = pre.somewhere;
      within = omega (arith, there, (places_fall rs start.args.key pre.keyed).fits start.args.n);
      put_in = moves;
      room = omega (arith, areas.rows);
      listed = pre.list_wide;
      spare = pre.scratch_wide;
    }

pub summed-requires : goal.summed-requires
summed-requires c =
    let pre = c.requires in
    let so = pre.underway in
    let renewed = c.renew_all-changes in
    (lost_within _ _ _ _ _ _ _ pre.keyed so.rs so.held (pre.found so.rs so.held) _ renewed.result so.covered renewed.ensures.changes, omega (arith, renewed.ensures.small, so.covered.low))

pub returns : goal.returns
returns c =
    let pre = c.requires in
    let renewed = c.renew_all-changes.ensures in record {
      held = (λ rs r ek ep held. held_moved _ _ _ _ _ _ _ pre.keyed rs held (pre.found rs held) r ek ep _ _ pre.somewhere c.move_from.ensures renewed.rows);
      summed = λ rs r ek ep held covered. summed_moved _ _ _ _ _ _ _ pre.keyed rs held (pre.found rs held) r ek ep _ _ _ renewed.changes renewed.longest c.summed.ensures covered;
    }
