-- Each arm is a case of the run's answer.
use mathlib.Core.Path.{ap, ◌∙◌}
use native.Mathlib.Omega.{arith}
use Rattle.std.proofs.Common.{rules}
use Rattle.sizes.specs.Answers.{areas_of}
use Rattle.sheet_text.specs.Sheet.{sheet_of}
use Rattle.sheet_text.specs.Writing.{Takes}
use Rattle.sheet_text.proofs.sheet.Bounds.{lines_short}
use Rattle.sheet_text.proofs.sheet.WaysOut.{lines_ready, sheet_done, sheet_refused, whole}
use Rattle.sheet_text.proofs.sheet.sheet.Goals as goal
use Rattle.sheet_text.proofs.sheet.sheet.Goals.{in-Ok, in-Err}

pub put_lines-requires : goal.put_lines-requires
put_lines-requires c =
    let at = c.args in
    let said = c.run.ensures in
    let ready = lines_ready at.trace.now (areas_of at.blocks.now at.stretches.now at.counts.now) _ said.answer _ c.in-Ok.is _ said.areas.2 _ c.size_in.ensures (omega arith) in record {
      room = omega (arith, lines_short at.trace.now);
      all = ready.0;
      misses = ready.1;
    }

pub returns-clause-text : goal.returns-clause-text
returns-clause-text c =
    let at = c.args in
    let said = c.run.ensures in
    let areas = areas_of at.blocks.now at.stretches.now at.counts.now in
    let takes : Takes c.new-text.result c.match-run.text (sheet_of at.trace.now areas) = elim c.match-run.branch [
      | in-Ok w ↦ rw w.text-is (sheet_done at.trace.now areas _ said.answer _ w.in-Ok.is _ said.areas.2 _ w.size_in.ensures w.put_heading.ensures.takes w.put_lines.ensures.takes)
      | in-Err w ↦ rw w.text-is (sheet_refused at.trace.now areas _ said.answer _ w.in-Err.is w.put_refused.ensures.takes)
    ] in
    let shows = whole c.new-text.ensures.empty takes in
    let same = takes.same ∙ c.new-text.ensures.same in
    (c.length.ensures ∙ shows.0, search rules)

pub returns-clause-short : goal.returns-clause-short
returns-clause-short c =
    elim c.match-run.branch [
      | in-Ok w ↦ omega (arith, ap (λ t. t.length) w.text-is, lines_short c.args.trace.now)
      | in-Err w ↦ omega (arith, ap (λ t. t.length) w.text-is)
    ]
