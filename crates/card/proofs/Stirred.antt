-- How much moves on one read.
use mathlib.Core.Path.{◌≡◌, ap, ◌∙◌}
use mathlib.Core.Bool.{Bool, true, false, cond}
use mathlib.Core.Logic.{◌≢◌}
use mathlib.Core.List.{List, [], ◌∷◌}
use Prim.Native.Nat.{ℕ, zero, suc, ◌+◌, ◌-◌, ◌*◌, ◌/◌, ◌≤◌, ◌<◌}
use native.Mathlib.Omega.{arith}
use lib.Dec.{eqb}
use lib.ListN.{length, get_or}
use Rattle.terms.specs.Reads.{Read}
use Rattle.card.specs.Rule.{place, after_read}
use Rattle.card.specs.Moves.{put_in}
use Rattle.card.specs.Run.{block_read, asked, card_after}
use Rattle.card.specs.Stretches.{sum_over}
use Rattle.card.proofs.Tests.{by_lt, by_eq, tests}
use Rattle.card.proofs.TwoMoves.Moves.{Apart, place_get_or}
use Rattle.card.proofs.AfterRead.{place_other}
use Rattle.card.proofs.Asked.{asked_some}
use Rattle.card.proofs.Inclusion.{length_card, card_apart}
use Rattle.card.proofs.Blocks.{among_rest, among_get_or, sum_ones}

-- 1 where the block k is another than x and in both cards, at two places
abbrev pub stirs : (c d : List ℕ) → (x k : ℕ) → ℕ
stirs c d x k = cond (eqb k 0) 0 (cond (eqb k x) 0 (cond (eqb (place d k) 0) 0 (cond (eqb (place d k) (place c k)) 0 1)))

-- the other blocks that are present before and after the read, and whose place changed
abbrev pub stirred_on : List ℕ → (x p : ℕ) → ℕ
stirred_on c x p = sum_over (stirs c (after_read c x p) x) c

-- what one read moves, over sizes 1 to N
abbrev pub stirred : List Read → Read → ℕ → ℕ
stirred rs r zero = 0
stirred rs r (suc n) = stirred rs r n + stirred_on (card_after (suc n) rs) (block_read r) (asked (suc n) r)

unless_one : (t : Bool) (n : ℕ) → n ≤ 1 → cond t 0 n ≤ 1
unless_one true n h = omega arith
unless_one false n h = h

stirs_one : (c d : List ℕ) (x k : ℕ) → stirs c d x k ≤ 1
stirs_one c d x k = unless_one (eqb k 0) _ (unless_one (eqb k x) _ (unless_one (eqb (place d k) 0) _ (unless_one (eqb (place d k) (place c k)) 1 (omega arith))))

-- where one of them rests, fewer move than there are
but_one : (w : ℕ → ℕ) → ((k : ℕ) → w k ≤ 1) → (l : List ℕ) (x : ℕ) → 0 < place l x → w x ≡ 0 → sum_over w l < length l
but_one w h [] x i e = absurd (omega arith)
but_one w h (y ∷ ys) x i e =
    by_eq y x
    (λ f. omega (arith, ap w f, sum_ones w h ys))
    (λ f. omega (arith, h y, but_one w h ys x (among_rest y x ys f i) e))

module _ (c : List ℕ) (x p : ℕ) (h : 1 ≤ p) where
  -- the block that is read does not count
  own_rests : stirs c (after_read c x p) x x ≡ 0
  own_rests = by_eq x 0 (λ e. simp tests) (λ e. simp tests)

  -- on a miss the block in the last place leaves, or stays where it is
  last_rests : Apart c → 0 < length c → place c x ≡ 0 → stirs c (after_read c x p) x (get_or c (length c - 1) 0) ≡ 0
  last_rests a l e =
      let k = get_or c (length c - 1) 0 in
      by_eq k 0 (λ f. simp tests) (λ f. by_eq k x (λ g. simp tests) (λ g.
      let w = place_get_or c (length c - 1) a (omega arith) f in
      let v : place c k ≡ length c = omega arith in
      let o : place (after_read c x p) k ≡ put_in p (length c) (length c) = place_other c x p k h (omega arith) g ∙ rw (e, v) in
      by_lt (length c) p
      (λ b. let u : place (after_read c x p) k ≡ place c k = o ∙ simp tests (omega arith) in
      let n : place (after_read c x p) k ≢ 0 = omega arith in simp tests)
      (λ b. let u : place (after_read c x p) k ≡ 0 = o ∙ by_lt (length c) p (λ i. absurd (omega arith)) (λ i. let m : length c ≤ length c = omega arith in simp tests) in simp tests)))

  -- one block at least rests
  stirred_less : Apart c → 0 < length c → stirred_on c x p < length c
  stirred_less a l =
      by_eq (place c x) 0
      (λ e. but_one (stirs c (after_read c x p) x) (stirs_one c (after_read c x p) x) c (get_or c (length c - 1) 0) (among_get_or c (length c - 1) (omega arith)) (last_rests a l e))
      (λ e. but_one (stirs c (after_read c x p) x) (stirs_one c (after_read c x p) x) c x (omega arith) own_rests)

-- twice what one read moves
stirred_twice : (rs : List Read) (r : Read) (N : ℕ) → 2 * stirred rs r N + N ≤ N * N
stirred_twice rs r zero = omega arith
stirred_twice rs r (suc n) =
    let l = length_card (suc n) rs in
    omega (arith, stirred_twice rs r n, stirred_less (card_after (suc n) rs) (block_read r) (asked (suc n) r) (asked_some (suc n) r) (card_apart (suc n) rs) (omega arith))

-- one read moves no more than this
pub stirred_bound : (rs : List Read) (r : Read) (N : ℕ) → stirred rs r N ≤ N * (N - 1) / 2
stirred_bound rs r zero = omega arith
stirred_bound rs r (suc n) = let e : suc n - 1 ≡ n = omega arith in rw e (omega (arith, stirred_twice rs r (suc n)))
