use Prim.Native.Nat.{◌+◌, ◌*◌, ◌≤◌}
use Rattle.sheet_text.specs.Sheet.{cell, lines_of}
use Rattle.sheet_text.specs.Writing.{Takes}
use Rattle.sheet_text.proofs.sheet.put_lines.Given as goal

-- the lines so far are put in
abbrev pub invariant-loop-m : goal.invariant-loop-m
invariant-loop-m l = (l.text.length ≤ l.initial.text.length + l.m * 256) × Takes l.initial.text l.text (lines_of (cell l.counts) l.m)
