use mathlib.Core.Path.{◌≡◌}
use Prim.Native.Nat.{◌+◌}
use lib.ListN.{length, take}
use Rattle.trace.specs.Spelling.{spellings}
use Rattle.trace.specs.Writing.{put}
use Rattle.trace.proofs.spelling.put_numbers.Given as goal

abbrev pub invariant-loop-value : goal.invariant-loop-value
invariant-loop-value l = record {
  place : l.next ≡ l.at + length (spellings (take l.value-index l.values));
  written : l.buffer ≡ put l.initial.buffer l.at (spellings (take l.value-index l.values));
}
