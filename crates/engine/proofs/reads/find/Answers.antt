-- `engine::reads::find` meets its contract. Assumes nothing.
use native.Mathlib.Omega.{arith}
use Rattle.card.proofs.OutcomeCases.{place_in}
use Rattle.engine.proofs.reads.ReadLaws.{found_at}
use Rattle.engine.proofs.Widths.{list_room_lem}
use Rattle.engine.proofs.reads.find.Goals as goal

pub load-requires : goal.load-requires
load-requires c =
    let start = c in
    let areas = start.requires.areas in
    record {
      within = omega (arith, c.place_of-j.ensures, place_in start.args.blocks.now start.args.key, areas.places);
      narrow = omega (arith, list_room_lem start.args.n areas.within);
      room = omega (arith, areas.rows);
      wide = start.requires.list_wide;
      blank = start.requires.blank;
    }

pub returns : goal.returns
returns c rs held =
    let start = c in
    found_at _ _ rs _ _ start.requires.keyed held _ _ c.place_of-j.ensures c.load.ensures
