-- The six rows of the table are the two moves.
pub mod Shifts
pub mod Moves
pub mod Forms
use mathlib.Core.Path.{◌≡◌, refl, sym, ap, ◌∙◌}
use mathlib.Core.List.{List, [], ◌∷◌, ◌++◌, append_assoc, append-nil}
use Prim.Native.Nat.{ℕ, zero, suc, ◌+◌, ◌-◌, ◌≤◌, ◌<◌}
use native.Mathlib.Omega.{arith}
use lib.ListN.{length, get_or, take, drop, length-take, length-drop}
use lib.Seq.{take-take, take-append-le, drop-append-le, take-append-add, drop-append-add, drop-drop, split_at, take_all, length-take-le, take-nil, take_at, drop_at, drop-length}
use Rattle.card.specs.Rule.{place, lowered, raised, effects, after_read}
use Rattle.card.proofs.Tests.{by_eq, tests}
use Rattle.card.proofs.OutcomeCases.{by_outcome}
use Rattle.card.proofs.TwoMoves.Moves.{depth_there, depth_absent, depth, without, insert_at, moved, get_or_depth, length_without}
use Rattle.card.proofs.TwoMoves.Shifts.{out_hi}
use Rattle.card.proofs.TwoMoves.Forms.{hit_in, hit_by, miss_in, miss_by}

-- the lists of the two moves in parts
drop_take : (q j : ℕ) (l : List ℕ) → drop q (take j l) ≡ take (j - q) (drop q l)
drop_take zero j l = let e : j ≡ j - 0 = omega arith in ap (λ (n : ℕ). take n l) e
drop_take (suc q) zero l = let e : 0 ≡ 0 - suc q = omega arith in ap (λ (n : ℕ). take n (drop (suc q) l)) e
drop_take (suc q) (suc j) [] = sym (take-nil (suc j - suc q))
drop_take (suc q) (suc j) (y ∷ ys) = let e : j - q ≡ suc j - suc q = omega arith in drop_take q j ys ∙ ap (λ (n : ℕ). take n (drop q ys)) e

insert_split : (q x : ℕ) (l : List ℕ) → q ≤ length l → insert_at q x l ≡ take q l ++ (x ∷ drop q l)
insert_split zero x l h = refl
insert_split (suc q) x [] h = absurd (omega arith)
insert_split (suc q) x (y ∷ ys) h = ap (λ (r : List ℕ). y ∷ r) (insert_split q x ys (omega arith))

without_split : (c : List ℕ) (x : ℕ) → depth c x < length c → without x c ≡ take (depth c x) c ++ drop (suc (depth c x)) c
without_split [] x h = absurd (omega arith)
without_split (y ∷ ys) x h =
    by_eq y x
    (λ e. simp tests)
    (λ e. let g = simp tests at h in simp tests (ap (λ (r : List ℕ). y ∷ r) (without_split ys x (omega arith))))

-- a block that is there
module _ (c : List ℕ) (x p : ℕ) (h : 1 ≤ p) (a : depth c x < length c) where
  front : length (take (depth c x) c) ≡ depth c x
  front = length-take-le (depth c x) c (omega arith)

  split_moved : p ≤ length c → moved c x (p - 1) ≡ take (p - 1) (take (depth c x) c ++ drop (suc (depth c x)) c) ++ (x ∷ drop (p - 1) (take (depth c x) c ++ drop (suc (depth c x)) c))
  split_moved b =
      let l : p - 1 ≤ length (without x c) = omega (arith, length_without c x, out_hi (depth c x) (length c) a) in
      rw (hit_in c x (p - 1) a (omega arith), insert_split (p - 1) x (without x c) l, without_split c x a)

  up : p ≤ depth c x → lowered c p (suc (depth c x)) x ≡ moved c x (p - 1)
  up b =
      let l : p - 1 ≤ length (take (depth c x) c) = omega (arith, front) in
      let e : suc (depth c x) - p ≡ depth c x - (p - 1) = omega arith in
      let g : p - 1 ≤ depth c x = omega arith in
      let s = drop (suc (depth c x)) c in
      rw (split_moved (omega arith), take-append-le (p - 1) (take (depth c x) c) s l, drop-append-le (p - 1) (take (depth c x) c) s l, take-take (p - 1) (depth c x) c g, drop_take (p - 1) (depth c x) c, e)

  same : p ≡ suc (depth c x) → c ≡ moved c x (p - 1)
  same b = let e : p - 1 ≡ depth c x = omega arith in
      split_at c (depth c x) 0 a ∙ rw (split_moved (omega arith), e, take_at (take (depth c x) c) (drop (suc (depth c x)) c) (depth c x) front, drop_at (take (depth c x) c) (drop (suc (depth c x)) c) (depth c x) front, get_or_depth c x a)

  down : suc (depth c x) < p → p ≤ length c → raised c (suc (depth c x)) p x ≡ moved c x (p - 1)
  down b d =
      let e : p - 1 ≡ length (take (depth c x) c) + (p - suc (depth c x)) = omega (arith, front) in
      let f : suc (depth c x) - 1 ≡ depth c x = omega arith in
      let g : suc (depth c x) + (p - suc (depth c x)) ≡ p = omega arith in
      rw f (sym (split_moved d ∙ rw e (rw (take-append-add, drop-append-add, drop-drop, g) (append_assoc (take (depth c x) c) (take (p - suc (depth c x)) (drop (suc (depth c x)) c)) (x ∷ drop p c)))))

  leave : length c < p → raised c (suc (depth c x)) (length c) 0 ≡ moved c x (p - 1)
  leave b =
      let f : suc (depth c x) - 1 ≡ depth c x = omega arith in
      let t = take_all (length c - suc (depth c x)) (drop (suc (depth c x)) c) (omega (arith, length-drop (suc (depth c x)) c)) in
      let d : drop (length c) c ≡ [] = drop-length c in
      rw (f, hit_by c x (p - 1) a (omega arith), without_split c x a, t, d) (sym (append_assoc (take (depth c x) c) (drop (suc (depth c x)) c) (0 ∷ [])))

-- a block that is not
module _ (c : List ℕ) (x p : ℕ) (h : 1 ≤ p) (a : depth c x ≡ length c) where
  insert : p ≤ length c → lowered c p (length c) x ≡ moved c x (p - 1)
  insert b =
      let l : p - 1 ≤ length (take (length c - 1) c) = omega (arith, length-take (length c - 1) c) in
      let g : p - 1 ≤ length c - 1 = omega arith in
      let e : length c - 1 - (p - 1) ≡ length c - p = omega arith in
      let d : drop (length c) c ≡ [] = drop-length c in
      rw (miss_in c x (p - 1) a (omega arith), insert_split (p - 1) x (take (length c - 1) c) l, take-take (p - 1) (length c - 1), drop_take, e, d, append-nil)

  pass : length c < p → c ≡ moved c x (p - 1)
  pass b = sym (miss_by c x (p - 1) a (omega arith))

-- the card after a read is the card after the two moves
pub two_moves : (c : List ℕ) (x p : ℕ) → 1 ≤ p → after_read c x p ≡ moved c x (p - 1)
unfolding after_read
two_moves c x p h =
    by_outcome (λ n. get_or (effects c x (place c x) p) n c ≡ moved c x (p - 1)) (length c) (place c x) p
    (λ a b. let (d, e) = depth_there c x a in rw e (up c x p h d (omega arith)))
    (λ a b. let (d, e) = depth_there c x a in same c x p h d (omega arith))
    (λ a b l. let (d, e) = depth_there c x a in rw e (down c x p h d (omega arith) l))
    (λ a b l. let (d, e) = depth_there c x a in rw e (leave c x p h d l))
    (λ a l. insert c x p h (depth_absent c x a) l)
    (λ a l. pass c x p h (depth_absent c x a) l)
