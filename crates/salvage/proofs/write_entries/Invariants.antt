use Rattle.std.proofs.Common.{◌≡◌, ◌-◌, ◌≤◌, length}
use Rattle.salvage.specs.Steps.{written}
use Rattle.salvage.proofs.write_entries.Given as goal

-- the entries that are left, written from here on, make the list that was asked for
abbrev pub invariant-loop-k : goal.invariant-loop-k
invariant-loop-k l = record {
  room : l.n ≤ length l.list;
  goes_on : written (l.n - l.k) l.trace l.at l.k l.list ≡ written l.n l.trace l.from 0 l.initial.list;
}
