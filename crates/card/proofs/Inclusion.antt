-- A smaller card is included in a larger one.
use mathlib.Core.Path.{◌≡◌, refl, ◌∙◌}
use mathlib.Core.Bool.{true}
use mathlib.Core.Logic.{◌≢◌}
use mathlib.Core.List.{List, [], ◌∷◌}
use Prim.Native.Nat.{ℕ, zero, suc, ◌-◌, ◌≤◌, ◌<◌}
use native.Mathlib.Omega.{arith}
use lib.ListN.{length, length-replicate}
use Rattle.terms.specs.Reads.{Read}
use Rattle.card.specs.Rule.{key_of, place, after_read}
use Rattle.card.specs.Run.{block_read, asked, empty, next, run, card_after}
use Rattle.card.specs.State.{apart}
use Rattle.card.proofs.Tests.{by_lt, by_eq, tests}
use Rattle.card.proofs.TwoMoves.Shifts.{out, out_mono, out_lo, out_le, put_mono}
use Rattle.card.proofs.TwoMoves.Moves.{depth, moved, Apart, depth_le, length_moved, apart_moved, depth_apart, depth_moved, depth_moved_same, depth_moved_absent, place_there, depth_there}
use Rattle.card.proofs.TwoMoves.{two_moves}
use Rattle.card.proofs.AfterRead.{apart_test}
use Rattle.card.proofs.Discards.{discarded, discard_read}
use Rattle.card.proofs.Asked.{asked_some, length_next, read_upto}

-- no key is 0
pub key_some : (r : Read) → 0 < block_read r
unfolding key_of
key_some r = omega arith

-- a card and a larger one: each block of the smaller is in the larger, at the same place or nearer the top
pub record Under (c d : List ℕ) : Type 0 where
  pub fits : length c ≤ length d
  pub apart : Apart c
  pub apart' : Apart d
  pub near : (k : ℕ) → k ≢ 0 → depth c k < length c → depth d k ≤ depth c k

module _ (c d : List ℕ) (x q : ℕ) (z : x ≢ 0) (u : Under c d) where
  near_moved : (k : ℕ) → k ≢ 0 → depth (moved c x q) k < length c → depth (moved d x q) k ≤ depth (moved c x q) k
  near_moved k y h =
      by_eq k x
      (λ e. rw e (omega (arith, u.fits, depth_moved_same c x q z u.apart, depth_moved_same d x q z u.apart', rw e at h)))
      (λ n. by_lt (depth c k) (length c)
      (λ a. let b = u.near k y a in
      let f = depth_moved c x q k y n a in
      let g = depth_moved d x q k y n (omega (arith, u.fits)) in
      let o : out (depth d x) (depth d k) ≤ out (depth c x) (depth c k) =
      by_lt (depth c x) (length c)
      (λ i. out_mono (depth c x) (depth d x) (depth c k) (depth d k) (depth_apart c k x n a) (depth_apart d k x n (omega (arith, u.fits))) b (u.near x z i))
      (λ i. omega (arith, out_lo (depth c x) (depth c k) (omega arith), out_le (depth d x) (depth d k))) in
      omega (arith, f, g, put_mono q (out (depth c x) (depth c k)) (out (depth d x) (depth d k)) o))
      (λ a. absurd (omega (arith, depth_moved_absent c x q k y n (omega (arith, depth_le c k))))))

  under_moved : Under (moved c x q) (moved d x q)
  under_moved = record {
    fits = omega (arith, u.fits, length_moved c x q, length_moved d x q);
    apart = apart_moved c x q z u.apart;
    apart' = apart_moved d x q z u.apart';
    near = λ k y h. near_moved k y (omega (arith, h, length_moved c x q));
  }

-- one read more
pub under_after : (c d : List ℕ) (x p : ℕ) → 0 < x → 1 ≤ p → Under c d → Under (after_read c x p) (after_read d x p)
under_after c d x p z h u = rw (two_moves c x p h, two_moves d x p h) (under_moved c d x (p - 1) (omega arith) u)

pub under_next : (c d : List ℕ) (r : Read) → Under c d → Under (next c r) (next d r)
under_next c d r u =
    rw (read_upto c (block_read r) (length d) u.fits r)
    (under_after c d (block_read r) (asked (length d) r) (key_some r) (asked_some (length d) r) u)

-- a discard keeps a smaller card within a larger
pub under_discard : (c d : List ℕ) (x : ℕ) → 0 < x → Under c d → Under (discarded c x) (discarded d x)
under_discard c d x z u =
    let l = u.fits in
    let a : length c < suc (length d) = omega arith in
    let b : length d < suc (length d) = omega arith in
    rw (← discard_read c x (suc (length d)) a, ← discard_read d x (suc (length d)) b) (under_after c d x (suc (length d)) z (omega arith) u)

under_run : (rs : List Read) (c d : List ℕ) → Under c d → Under (run c rs) (run d rs)
under_run [] c d u = u
under_run (r ∷ rs) c d u = under_run rs (next c r) (next d r) (under_next c d r u)

-- the empty card
pub place_empty : (m x : ℕ) → 0 < x → place (empty m) x ≡ 0
place_empty zero x z = refl
place_empty (suc m) x z = let e : 0 ≢ x = omega arith in let ih = place_empty m x z in simp (tests, ih)

apart_empty : (m : ℕ) → Apart (empty m)
apart_empty zero = tt
apart_empty (suc m) = ((λ n. absurd (n refl)), apart_empty m)

-- a card keeps its size
length_run : (rs : List Read) (c : List ℕ) → length (run c rs) ≡ length c
length_run [] c = refl
length_run (r ∷ rs) c = length_run rs (next c r) ∙ length_next c r

pub length_card : (m : ℕ) (rs : List Read) → length (card_after m rs) ≡ m
length_card m rs = length_run rs (empty m) ∙ length-replicate m 0

pub under_empty : (m n : ℕ) → m ≤ n → Under (empty m) (empty n)
under_empty m n h = record {
  fits = simp length-replicate h;
  apart = apart_empty m;
  apart' = apart_empty n;
  near = λ k y p. absurd (omega (arith, place_there (empty m) k p, place_empty m k (omega arith)));
}

pub under_card : (m n : ℕ) → m ≤ n → (rs : List Read) → Under (card_after m rs) (card_after n rs)
under_card m n h rs = under_run rs (empty m) (empty n) (under_empty m n h)

-- no block is in two places of a card
pub card_apart : (m : ℕ) (rs : List Read) → Apart (card_after m rs)
card_apart m rs = (under_card m m (omega arith) rs).apart

pub apart_card : (m : ℕ) (rs : List Read) → apart (card_after m rs) ≡ true
apart_card m rs = apart_test (card_after m rs) (card_apart m rs)

-- the same in places
pub place_under : (c d : List ℕ) (x : ℕ) → 0 < x → Under c d → 0 < place c x → (0 < place d x) × (place d x ≤ place c x)
place_under c d x z u h =
    let (a, e) = depth_there c x h in
    let b = u.near x (omega arith) a in
    let f = place_there d x (omega (arith, u.fits)) in (omega arith, omega arith)

-- after any reads, a block of the smaller card is in the larger, at the same place or nearer the top
pub inclusion : (m n : ℕ) → m ≤ n → (rs : List Read) (x : ℕ) → 0 < x → 0 < place (card_after m rs) x
    → (0 < place (card_after n rs) x) × (place (card_after n rs) x ≤ place (card_after m rs) x)
inclusion m n h rs x z = place_under (card_after m rs) (card_after n rs) x z (under_card m n h rs)
