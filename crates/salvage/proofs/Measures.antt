-- How much there is to write: the good trace is no longer than the bytes, and there are no more entries than bytes.
use mathlib.Core.Path.{◌≡◌, ap}
use mathlib.Core.List.{List}
use Prim.Native.Nat.{ℕ, ◌+◌, ◌≤◌}
use native.Mathlib.Omega.{arith}
use lib.ListN.{length, take, length-append}
use lib.Seq.{length-take-le}
use Rattle.salvage.specs.Steps.{told_from, kept_from, good_after, entries_from}
use Rattle.salvage.proofs.Covers.{kept_within}
use Rattle.salvage.proofs.Rooms.{entries_few}
use Rattle.salvage.proofs.Turns.{kept_told, listed_told, in_from, kept_told_from, listed_told_from}

module _ (s : List ℕ) (at : ℕ) (h : at ≤ length s) where
  pub good_length : length (good_after s at) ≡ at + length (kept_told s (told_from s at))
  unfolding good_after kept_from
  good_length = omega (arith, ap length (kept_told_from s at), length-take-le at s h, length-append (take at s) (kept_from s at))

  pub good_within : length (good_after s at) ≤ length s
  good_within = omega (arith, good_length, ap length (kept_told_from s at), kept_within s at h)

  pub entries_within : length (entries_from s at) ≤ length s
  entries_within = omega (arith, entries_few s at h)

pub ruleset measures = (in_from, listed_told_from, good_length, good_within, entries_within)
