-- A list that is copied up to its first zero.
use mathlib.Core.Path.{◌≡◌, sym, ap, ◌∙◌}
use mathlib.Core.List.{List}
use mathlib.Core.Logic.{◌⊎◌, inl, inr, ⊎_elim}
use Prim.Native.Nat.{ℕ, ◌≤◌, ◌<◌}
use native.Mathlib.Omega.{arith}
use lib.ListN.{length, get_or, set, take, get_or-eq_default}
use lib.Seq.{get_or-set_same, get_or-set_other, get_or-take, length-take-le}
use Rattle.std.proofs.Common.{Option, Some, None, MatchOption, unwrap_or}
use Rattle.std.specs.List.{AllWithin, HoldsAt}
use Rattle.card.proofs.Tests.{by_lt, by_eq}
use Rattle.engine.specs.Rows.{pairs}
use Rattle.engine.specs.Lists.{Holds, Begins}
use Rattle.engine.proofs.lists.PairFacts.{entries}

-- as many entries as there are before the first zero
pub entries_counted : (list : List ℕ) (x : ℕ) (R : ℕ → ℕ) (n : ℕ) → ((k : ℕ) → k < x → 0 < get_or list k 0) → (get_or list x 0 ≡ 0) ⊎ (length (pairs R n) ≤ x) → Begins list R n → x ≡ length (pairs R n)
entries_counted list x R n some end begins =
    let hi : length (pairs R n) ≤ x = by_lt x (length (pairs R n))
    (λ lt. ⊎_elim (λ z. absurd (omega (arith, entries R n x lt, begins x (omega arith)))) (λ le. le) end) (λ ge. ge) in
    by_lt (length (pairs R n)) x
    (λ lt. absurd (omega (arith, some (length (pairs R n)) lt, begins (length (pairs R n)) (omega arith), get_or-eq_default (pairs R n) 0 {n = length (pairs R n)} (omega arith))))
    (λ ge. omega arith)

-- a search for the first zero among the first entries, that many and no fewer than the list has, stops at the list's end
pub entries_found : (list : List ℕ) (most : ℕ) (R : ℕ → ℕ) (n : ℕ) (o : Option ℕ) → most ≤ length list → length (pairs R n) ≤ most → Begins list R n
    → MatchOption o (AllWithin (λ v. 0 < v) (take most list) 0 (length (take most list))) (λ i. (i < length (take most list)) × HoldsAt (λ v. v ≡ 0) (take most list) i × AllWithin (λ v. 0 < v) (take most list) 0 i)
    → unwrap_or o most ≡ length (pairs R n)
entries_found list most R n None within fits begins none =
    entries_counted list most R n (λ k lt. rw (← get_or-take most list k 0 lt) (none k 0 (omega arith) (omega (arith, length-take-le most list within)))) (inr fits) begins
entries_found list most R n (Some i) within fits begins found =
    let inside : i < most = omega (arith, length-take-le most list within) in
    entries_counted list i R n (λ k lt. rw (← get_or-take most list k 0 (omega arith)) (found.2 k 0 (omega arith) lt)) (inl (sym (get_or-take most list i 0 inside) ∙ found.1 0)) begins

-- the entries before a zero, with the zero put after them
pub copied : (row out : List ℕ) (x v : ℕ) → x < length out → ((k : ℕ) → k < x → 0 < get_or row k 0) → ((k : ℕ) → k < x → get_or out k 0 ≡ get_or row k 0) → v ≡ 0 → get_or row x 0 ≡ 0
    → (R : ℕ → ℕ) (n : ℕ) → Holds row R n → (x ≡ length (pairs R n)) × Begins (set out x v) R n
copied row out x v fit some same ev z R n holds =
    let e = entries_counted row x R n some (inl z) (λ q hq. holds q) in (
      e,
      λ q hq. by_eq q x
          (λ g. ap (λ (i : ℕ). get_or (set out x v) i 0) g ∙ get_or-set_same out x v 0 fit ∙ ev ∙ sym z ∙ sym (ap (λ (i : ℕ). get_or row i 0) g) ∙ holds q)
          (λ g. get_or-set_other out x q v 0 g ∙ same q (omega (arith, g)) ∙ holds q),
    )
