-- What a copy of places within the card, and the write of a key after it, leave: a shift.
use mathlib.Core.Path.{◌≡◌, ap₂, ◌∙◌}
use mathlib.Core.List.{List, ◌∷◌, ◌++◌, append_assoc}
use Prim.Native.Nat.{ℕ, suc, ◌+◌, ◌-◌, ◌≤◌, ◌<◌}
use native.Mathlib.Omega.{arith}
use lib.ListN.{length, take, drop, set, length-drop}
use lib.Seq.{paste, length-paste, length_paste_head, set_split, set_at, take-append-le, take-take, drop_at, drop-cons, length-take-le}
use Rattle.std.specs.List.{copy_within}
use Rattle.card.specs.Rule.{lowered, raised}

-- n places move one lower, or one higher, next to the first k, and the key comes to the place that is left
module _ (c : List ℕ) (k n key : ℕ) (room : suc k + n ≤ length c) where
  lower_copy : set (paste c (suc k) (drop k c) n) k key ≡ take k c ++ (key ∷ (take n (drop k c) ++ drop (suc k + n) c))
  lower_copy =
      set_split (paste c (suc k) (drop k c) n) k key (omega (arith, length-paste c (suc k) (drop k c) n, length-drop k c))
      ∙ ap₂ (λ (above below : List ℕ). above ++ key ∷ below) above below
    where
      above : take k (paste c (suc k) (drop k c) n) ≡ take k c
      above = rw append_assoc (take-append-le k (take (suc k) c) _ (omega (arith, length-take-le (suc k) c)) ∙ take-take k (suc k) c (omega arith))

      below : drop (suc k) (paste c (suc k) (drop k c) n) ≡ take n (drop k c) ++ drop (suc k + n) c
      below = rw append_assoc (drop_at (take (suc k) c) _ (suc k) (length-take-le (suc k) c (omega arith)))

  raise_copy : set (paste c k (drop (suc k) c) n) (k + n) key ≡ take k c ++ (take n (drop (suc k) c) ++ (key ∷ drop (suc k + n) c))
  raise_copy =
      let h : k + n < length c = omega arith in
      let last : suc (k + n) ≡ suc k + n = omega arith in
      rw (drop-cons c (k + n) 0 h, set_at (take k c ++ take n (drop (suc k) c)) _ _ key (k + n) (length_paste_head c k (drop (suc k) c) n (omega arith) (omega (arith, length-drop (suc k) c))), append_assoc, last)

module _ (c : List ℕ) (first last key : ℕ) (some : 1 ≤ first) (order : first ≤ last) (room : last ≤ length c) where
  moved : last - 1 - (first - 1) ≡ last - first
  moved = omega arith

  pub lowered_copy : set (copy_within c (first - 1) (last - 1) first) (first - 1) key ≡ lowered c first last key
  lowered_copy =
      let f : suc (first - 1) ≡ first = omega arith in
      let g : suc (first - 1) + (last - first) ≡ last = omega arith in
      let e = lower_copy c (first - 1) (last - first) key (omega arith) in
      cc (moved, f, g, e)

  pub raised_copy : set (copy_within c first last (first - 1)) (last - 1) key ≡ raised c first last key
  raised_copy =
      let f : suc (first - 1) ≡ first = omega arith in
      let g : suc (first - 1) + (last - first) ≡ last = omega arith in
      let h : first - 1 + (last - first) ≡ last - 1 = omega arith in
      let e = raise_copy c (first - 1) (last - first) key (omega arith) in
      cc (f, g, h, e)
