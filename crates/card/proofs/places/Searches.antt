-- The place of a block is one past the first index that holds its key, and fours that do not hold it may be passed over.
use mathlib.Core.Path.{◌≡◌, refl, sym}
use mathlib.Core.List.{List, [], ◌∷◌, ◌++◌}
use mathlib.Core.Bool.{false, cond}
use Prim.Native.Nat.{ℕ, zero, suc, ◌+◌, ◌*◌, ◌/◌, ◌≤◌, ◌<◌}
use native.Mathlib.Omega.{arith}
use lib.Dec.{ltb, eqb}
use lib.ListN.{length, take, drop, get_or}
use denote.Ref.{Bor}
use Rattle.std.specs.Prelude.{Option, None, Some, MatchOption, position, ◌==◌, IsTrue}
use Rattle.std.specs.List.{position_or_len, list_any, IsSubsliceAt}
use Rattle.std.specs.Option.{unwrap_or, option_map, IfSome, IsSomeAnd}
use Rattle.std.specs.Slice.Iter.{chunks_exact_steps}
use Rattle.std.specs.Iterator.Runs.{Run, IsChunksExactRun, AllItems, AllItemsBelow}
use Rattle.std.proofs.Math.Seq.{take-add, length-take-le}
use Rattle.std.proofs.lemmas.Bool.Decides.{nat_tests}
use Rattle.std.proofs.lemmas.List.{take-append-drop}
use Rattle.std.proofs.lemmas.List.Folds.{list_any-append}
use Rattle.card.specs.Rule.{place}

place_first : (c : List ℕ) (x : ℕ) → place c x ≡ cond (ltb (position_or_len (λ y. y == x) c) (length c)) (position_or_len (λ y. y == x) c + 1) 0
place_first [] x = refl
place_first (y ∷ ys) x = let e = place_first ys x in grind (arith, nat_tests)

past : (a b : List ℕ) (x : ℕ) → list_any (λ y. y == x) a ≡ false → place (a ++ b) x ≡ cond (eqb (place b x) 0) 0 (length a + place b x)
past [] b x h = grind (arith, nat_tests)
past (y ∷ ys) b x h = let e = past ys b x in grind (arith, nat_tests)

-- the place of a block that is at none of the first n places, by the index of its key among those below
pub place_is : (c : List ℕ) (x n j : ℕ) (found : Option ℕ) → n ≤ length c → list_any (λ y. y == x) (take n c) ≡ false
    → found ≡ position (λ y. y == x) (drop n c) → MatchOption found (j ≡ 0) (λ i. j ≡ n + i + 1) → j ≡ place c x
place_is c x n j found l h e m =
    let p = past (take n c) (drop n c) x h in
    let q = place_first (drop n c) x in
    let a = take-append-drop n c in
    let t = length-take-le n c l in grind (arith, nat_tests)

fours_lack : (c : List ℕ) (x n : ℕ) → ((k : ℕ) → k < n → list_any (λ y. y == x) (take 4 (drop (k * 4) c)) ≡ false) → list_any (λ y. y == x) (take (n * 4) c) ≡ false
fours_lack c x zero h = refl
fours_lack c x (suc n) h =
    let e : suc n * 4 ≡ n * 4 + 4 = omega arith in
    let f = fours_lack c x n (λ k l. h k (omega arith)) in
    let g = h n (omega arith) in
    let a = list_any-append (λ y. y == x) (take (n * 4) c) (take 4 (drop (n * 4) c)) in
    rw (e, take-add (n * 4) 4 c, a, f, g)

module _ {Passed : Bor (List ℕ) → Type 0} (c : List ℕ) (x : ℕ) (lacks : (four : Bor (List ℕ)) → Passed four → list_any (λ y. y == x) four.now ≡ false) where
  one_lacks : (k : ℕ) (o : Option (Bor (List ℕ))) → IfSome o (λ four. (length four.now ≡ 4) × (k * 4 + 4 ≤ length c) × IsSubsliceAt 4 c (k * 4) four.now)
      → IsSomeAnd o Passed → list_any (λ y. y == x) (take 4 (drop (k * 4) c)) ≡ false
  one_lacks k None s h = absurd h
  one_lacks k (Some four) s h = rw (sym s.2.0) (lacks four h)

  is_there : (o : Option (Bor (List ℕ))) (k : ℕ) (fours : List (Bor (List ℕ))) → ((d : Bor (List ℕ)) → option_map (λ y. y) o ≡ Some (get_or fours k d)) → k < length fours
      → IfSome o Passed → IsSomeAnd o Passed
  is_there o k [] e l h = absurd (omega arith)
  is_there None k (d ∷ fours) e l h = let f = e d in grind arith
  is_there (Some four) k (d ∷ fours) e l h = h

  -- no place in the fours that a search passed holds the key
  pub passed_lack : {Keeps : Type 0} (Hit : ℕ → Type 0) (p : Run (chunks_exact_steps {A = ℕ})) (found : Option ℕ) → IsChunksExactRun p 4 c
      → MatchOption found (IsTrue p.whole × (Keeps → AllItems p Passed)) (λ i. (p.len ≡ i + 1) × (Keeps → Hit i × AllItemsBelow p i Passed)) → Keeps
      → (unwrap_or found (length c / 4) * 4 ≤ length c) × (list_any (λ y. y == x) (take (unwrap_or found (length c / 4) * 4) c) ≡ false)
  passed_lack Hit p None r m keeps =
      let e = r.1 (search m) in
      let n = p.long in
      (omega arith, fours_lack c x (length c / 4) (λ k l. one_lacks k (p.at k) (r.2 k) (is_there (p.at k) k p.items (λ d. p.reads k d (omega arith)) (omega arith) (m.1 keeps k))))
  passed_lack Hit p (Some i) r m keeps = (omega arith, fours_lack c x i (λ k l. one_lacks k (p.at k) (r.2 k) ((m.1 keeps).1 k l)))
