-- `sizes::run::Areas::read_records` meets its contract: the reads so far and those still to come are all the reads. Assumes nothing.
use mathlib.Core.Path.{refl, sym}
use native.Mathlib.Omega.{arith}
use Rattle.std.proofs.lemmas.Result.{err_from_is_err_and}
use Rattle.trace.proofs.Parts.{given_good}
use Rattle.card.proofs.ReadKeys.{key_positive}
use Rattle.engine.proofs.Widths.{list_room_lem}
use Rattle.sizes.proofs.run.Totals.{totals_covered}
use Rattle.sizes.proofs.run.Turns.{sofar_none, sofar_counted, turn, turn_refused}
use Rattle.sizes.proofs.run.Areas.read_records.Goals as goal

pub loop-at-init : goal.loop-at-init
loop-at-init c =
    record {
      within = omega arith;
      few = omega arith;
      same = search arith;
      fitting = c.requires.fitting;
      room = refl;
      sofar = sofar_none _ _ _ c.args.self.now c.default-sums.result refl c.requires.untouched c.default-sums.ensures;
    }

pub returns-in_err-record-clause-answer : goal.returns-in_err-record-clause-answer
returns-in_err-record-clause-answer c =
    let p = err_from_is_err_and c.from_residual.result c.from_residual.ensures.1 in
    rw (p.1, p.2) (turn_refused _ _ _ _ _ _ _ _ _ c.loop-at.invariant.sofar c.loop-at-test.true _ _ c.in_err-record.ensures).0

pub returns-in_err-record-clause-tallied : goal.returns-in_err-record-clause-tallied
returns-in_err-record-clause-tallied c = (turn_refused _ _ _ _ _ _ _ _ _ c.loop-at.invariant.sofar c.loop-at-test.true _ _ c.in_err-record.ensures).1

pub read-sums-requires : goal.read-sums-requires
read-sums-requires c =
    let l = c.loop-at in
    let so = sofar_counted _ _ _ _ _ _ _ _ _ l.invariant.sofar in
    record {
      areas = record { some = l.invariant.fitting.some; within = l.invariant.fitting.within; places = l.invariant.fitting.places; rows = l.invariant.fitting.rows };
      keyed = key_positive _ _ _ c.key_of-key.ensures;
      scratch_wide = omega (arith, l.invariant.room, list_room_lem c.loop-at.self.n l.invariant.fitting.within);
      columns = l.invariant.fitting.columns;
      low = λ x. omega (arith, so.1.low x);
      underway = record { rs = so.0; held = so.1.held; covered = totals_covered _ _ _ so.1.totals l.invariant.fitting.within };
    }

pub loop-at-preserved : goal.loop-at-preserved
loop-at-preserved c =
    let l = c.loop-at.invariant in
    let good = given_good _ _ _ _ l.within (sym c.in_ok-record.ensures) in
    let kept = c.read-sums.ensures in
    record {
      within = omega arith;
      few = omega arith;
      same = search arith;
      fitting = search arith;
      room = omega arith;
      sofar = turn _ _ _ _ _ _ _ _ _ l.sofar c.loop-at-test.true _ _ c.in_ok-record.ensures _ c.key_of-key.ensures l.fitting.within _ _ _ _ kept.held kept.tallied kept.summed kept.small;
    }
