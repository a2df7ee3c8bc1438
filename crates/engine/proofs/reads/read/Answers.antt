-- `engine::reads::read` meets its contract: a block is found, moved and tallied. Assumes nothing.
use mathlib.Core.Path.{sym, ◌∙◌}
use native.Mathlib.Omega.{arith}
use Rattle.terms.proofs.Areas.{zeros_at}
use Rattle.engine.proofs.reads.ReadLaws.{tallied_found}
use Rattle.engine.proofs.Widths.{list_room, list_room_lem}
use Rattle.engine.proofs.reads.read.Goals as goal

pub find-j-requires : goal.find-j-requires
find-j-requires c =
    record {
      areas = c.requires.areas;
      keyed = c.requires.keyed;
      list_wide = list_room_lem c.args.n c.requires.areas.within;
      blank = λ x. zeros_at list_room x;
    }

pub move_block-after-requires : goal.move_block-after-requires
move_block-after-requires c =
    let find = c.find-j in
    record {
      areas = c.requires.areas;
      keyed = c.requires.keyed;
      somewhere = omega (arith, c.at_least_one-p.ensures);
      list_wide = omega (arith, find.auto, list_room_lem c.args.n c.requires.areas.within);
      found = find.ensures;
      scratch_wide = c.requires.scratch_wide;
      underway = c.requires.underway;
    }

pub returns-clause-tallied : goal.returns-clause-tallied
returns-clause-tallied c rs held =
    tallied_found _ _ _ _ _ rs _ _ _ c.requires.keyed (c.find-j.ensures rs held) c.tally_list.ensures.tallied c.at_least_one-p.ensures

pub returns-clause-summed : goal.returns-clause-summed
returns-clause-summed c rs r ek ew held covered = c.move_block-after.ensures.summed rs r ek (ew ∙ sym c.at_least_one-p.ensures) held covered
