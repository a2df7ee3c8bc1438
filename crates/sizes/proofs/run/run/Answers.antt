-- `sizes::run::run` meets its contract: where there is room, what the pass leaves in the fronts of the areas is the outcome. Assumes nothing.
use mathlib.Core.Path.{◌∙◌}
use native.Mathlib.Omega.{arith}
use lib.ListN.{length}
use lib.Seq.{length-take-le}
use Rattle.terms.specs.Ranges.{size}
use Rattle.trace.specs.Trace.{reads_from}
use Rattle.sizes.specs.Answers.{areas_of}
use Rattle.sizes.proofs.run.WaysOut.{fronts_out, header_in, out_passed, room_in}
use Rattle.sizes.proofs.run.run.Goals as goal

pub pass-requires-clause-fitting : goal.pass-requires-clause-fitting
unfolding size
pass-requires-clause-fitting c =
    let args = c.args in
    let in_range = header_in args.trace.now _ _ c.in_ok-header.ensures in
    let long = room_in _ _ _ _ _ c.is_room.ensures c.if-not-is_room.false in
    record {
      some = in_range.0;
      within = in_range.1;
      places = length-take-le _ args.blocks.now long.0;
      rows = length-take-le _ args.stretches.now (omega (arith, long.1, c.stretches_length.ensures)) ∙ c.stretches_length.ensures;
      columns = length-take-le _ args.counts.now long.2;
    }

pub returns : goal.returns
unfolding size
returns c =
    let args = c.args in
    let s = args.trace.now in
    let said = c.pass.ensures in
    let out = fronts_out args.blocks.now args.stretches.now args.counts.now _ (reads_from (length s) s _) _
    (out_passed s (areas_of args.blocks.now args.stretches.now args.counts.now) _ _ c.in_ok-header.ensures _ c.is_room.ensures c.if-not-is_room.false)
    _ _ _ _ _ said.answer said.areas.0 said.areas.1 said.areas.2 c.stretches_length.ensures in
    record { answer = out.0; areas = (out.1, out.2, out.3) }
