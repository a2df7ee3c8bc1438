use Prim.Native.Nat.{◌+◌, ◌*◌, ◌≤◌}
use Rattle.std.proofs.Common.{slice_index}
use Rattle.sheet_text.specs.Sheet.{spaced_row}
use Rattle.sheet_text.specs.Writing.{Takes}
use Rattle.sheet_text.proofs.sheet.put_line.Given as goal

-- the counts so far are put in
abbrev pub invariant-loop-count : goal.invariant-loop-count
invariant-loop-count l = (l.text.length ≤ l.initial.text.length + l.count-index * 21) × Takes l.initial.text l.text (spaced_row l.count-index (slice_index l.counts))
