-- `sheet::read_some`: an interrupted read consumes nothing, and the part keeps its length.
use Rattle.std.proofs.Common.{◌≡◌, length}
use Rattle.std.specs.Io.KnownBytes.{Keeps}
use Rattle.sheet.proofs.read_some.Given as goal

abbrev pub invariant-loop : goal.invariant-loop
invariant-loop g l = (length l.part ≡ length l.initial.part) × Keeps (g.R.Read.remaining l.initial.reader) (g.R.Read.remaining l.reader)
