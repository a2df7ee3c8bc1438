-- The rows below the blocks that move, where a read touches none of them.
use mathlib.Core.Path.{◌≡◌, refl, sym, ◌∙◌, subst}
use mathlib.Core.Logic.{◌⊎◌, ⊎_elim}
use mathlib.Core.List.{List}
use Prim.Native.Nat.{ℕ, zero, suc, ◌+◌, ◌-◌, ◌≤◌, ◌<◌}
use native.Mathlib.Omega.{arith}
use lib.ListN.{get_or}
use Rattle.engine.specs.Moves.{other_after}
use Rattle.engine.specs.Rows.{pairs}
use Rattle.engine.specs.Renewals.{Finds}
use Rattle.engine.specs.Sweeps.{Halfway}
use Rattle.engine.specs.declared.rows.Changes.{Changes}
use Rattle.engine.specs.declared.renewals.RowRead.{RowRead}
use Rattle.engine.proofs.rows.RowLaws.{after_none}
use Rattle.engine.proofs.rows.RowSkips.{first_bound, keep_below}
use Rattle.engine.proofs.sweeps.Halfways.{halfway_down}
use Rattle.engine.proofs.renewals.Ways.{way_below}
use Rattle.engine.proofs.renewals.RowSteps.{still_row}

module _ (read : RowRead) (left : ℕ) (J : ℕ → ℕ) (L : ℕ → ℕ → ℕ) (list : List ℕ) (finds : Finds list read J L) (pos : 0 < read.p) (present : 0 < read.j) (first : get_or list 0 0 ≡ read.j) where
  -- a block read whose first size is its place is at this place of each card that has it
  first_place : get_or (pairs J read.n) 1 0 ≡ read.j
  first_place =
      let b = first_bound J read.n read.n finds.falling (omega arith) (omega (arith, finds.there)) in
      omega (arith, b.2, b.3, finds.there, finds.falling.fits (get_or (pairs J read.n) 0 0), finds.begins 0 (omega arith))

  -- and so it is above each block below it wherever that is
  still_below : (k : ℕ) → read.j < k → read.p < k → (m : ℕ) → m ≤ read.n → other_after J read.p (L k) m ≡ L k m
  still_below k jk pk =
      let good = finds.family.good k in
      ⊎_elim
      (λ here.
      let b = first_bound (L k) read.n read.n good (omega arith) (omega arith) in
      keep_below J (L k) read.p read.n read.j k _ _ _ pos finds.falling good finds.there here refl refl refl present
      (omega (arith, b.2, b.3, good.fits (get_or (pairs (L k) read.n) 0 0), finds.begins 0 (omega arith)))
      pk (omega (arith, first_place)))
      (λ none m h. after_none J read.p (L k) pos none m ∙ sym (none m))
      (finds.family.last k)

  -- all rows below stay
  pub halfway_still : (a bottom : ℕ) (changes : Changes) (area : List ℕ) → a ≤ bottom → read.j ≤ bottom → bottom ≤ read.n → (read.p ≤ bottom) ⊎ (read.n ≤ bottom) → Halfway read left a read.n changes area J L → Halfway read left a bottom changes area J L
  halfway_still a bottom changes area ab jb bn side half =
      down (read.n - bottom) (omega arith) (subst (λ (z : ℕ). Halfway read left a z changes area J L) (omega arith) half)
    where
      down : (d : ℕ) → bottom + d ≤ read.n → Halfway read left a (bottom + d) changes area J L → Halfway read left a bottom changes area J L
      down zero le half = let e : bottom + 0 ≡ bottom = omega arith in subst (λ (z : ℕ). Halfway read left a z changes area J L) e half
      down (suc d) le half =
          let k = bottom + suc d in
          let pk : read.p < k = ⊎_elim (λ h. omega arith) (λ h. absurd (omega arith)) side in
          let e : k - 1 ≡ bottom + d = omega arith in
          let still = still_row (way_below read k refl (record { present = present; past = omega arith; lower = pk; within = omega arith })) J L changes area (still_below k (omega arith) pk) (half.old k (omega arith) (omega arith)) in
          down d (omega arith) (subst (λ (z : ℕ). Halfway read left a z changes area J L) e (halfway_down read left J L k changes changes area area pos (omega arith) le finds.family still a (omega arith) half))
