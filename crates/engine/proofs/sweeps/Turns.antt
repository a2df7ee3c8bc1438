-- The loops over rows: what a number of turns has done.
use mathlib.Core.Path.{◌≡◌, refl, subst}
use mathlib.Core.List.{List}
use Prim.Native.Nat.{ℕ, ◌+◌, ◌-◌, ◌≤◌, ◌<◌, min}
use native.Mathlib.Omega.{arith}
use Rattle.engine.specs.Moves.{Family}
use Rattle.engine.specs.Renewals.{Finds, Renewed, Renews, RowAt}
use Rattle.engine.specs.Sweeps.{FoundInRows, Halfway, Leads, AllRenewed, Fresh}
use Rattle.engine.specs.declared.rows.Changes.{Changes}
use Rattle.engine.specs.declared.renewals.RowRead.{RowRead}
use Rattle.engine.proofs.sweeps.Halfways.{halfway_none, halfway_all, halfway_up, halfway_down}

-- what a read finds, as its sweeps see it
pub found_finds : (read : RowRead) (list area : List ℕ) (J : ℕ → ℕ) (L : ℕ → ℕ → ℕ) → FoundInRows list area read.n read.j J L → Finds list read J L
found_finds read list area J L f = record { falling = f.falling; family = f.family; there = f.there; begins = λ q h. f.listed q }

-- all rows from nothing done on, with the last one that is left
pub leads_all : (list : List ℕ) (read : RowRead) (x : ℕ) (changes sum next : Changes) (area mid last : List ℕ) → 0 < read.p → 0 < read.n → Fresh changes → x ≡ min read.p read.n
    → Leads list read 0 read.n changes area (x - 1) x sum mid
    → ((J : ℕ → ℕ) (L : ℕ → ℕ → ℕ) → Family L read.n → RowAt mid read (min read.p read.n) (L (min read.p read.n)) → Renewed read J L (min read.p read.n) sum next mid last)
    → AllRenewed list read changes.lost next area last
leads_all list read x changes sum next area mid last pos some fresh e leads own J L finds rows =
    let all = (rw e at leads) changes.lost J L finds (halfway_none read changes.lost J L changes area fresh.0 refl fresh.2 rows) in
    let k = min read.p read.n in
    halfway_all read changes.lost J L k next last
    (halfway_up read changes.lost J L k sum next mid last pos (omega arith) (omega arith) finds.family (own J L finds.family (all.old k (omega arith) (omega arith))) k (omega arith) all)

-- one row more is renewed, from the first ones on
pub leads_up : {list : List ℕ} {read : RowRead} {a₀ b₀ b k : ℕ} {sum₀ sum next : Changes} {area₀ area last : List ℕ} (s : ℕ) → Leads list read a₀ b₀ sum₀ area₀ (k - 1) b sum area → Renews list read s k sum next area last
    → 0 < read.p → 0 < k → k ≤ read.n → k ≤ s → s ≤ b → Leads list read a₀ b₀ sum₀ area₀ (k + 1 - 1) b next last
leads_up {read = read} {b = b} {k = k} {sum = sum} {next = next} {area = area} {last = last} s leads renews pos some le ks sb left J L finds half =
    let e : k ≡ k + 1 - 1 = omega arith in
    let now = leads left J L finds half in
    subst (λ (z : ℕ). Halfway read left z b next last J L) e
    (halfway_up read left J L k sum next area last pos some le finds.family (renews J L finds (now.old s (omega arith) sb) (now.old k (omega arith) (omega arith))) b (omega arith) now)

-- and from the last ones on
pub leads_down : {list : List ℕ} {read : RowRead} {a b₀ k : ℕ} {sum₀ sum next : Changes} {area₀ area last : List ℕ} (s : ℕ) → Leads list read a b₀ sum₀ area₀ a k sum area → Renews list read s k sum next area last
    → 0 < read.p → k ≤ read.n → a < s → s ≤ k → Leads list read a b₀ sum₀ area₀ a (k - 1) next last
leads_down {read = read} {a = a} {k = k} {sum = sum} {next = next} {area = area} {last = last} s leads renews pos le lt sk left J L finds half =
    let now = leads left J L finds half in
    halfway_down read left J L k sum next area last pos (omega arith) le finds.family (renews J L finds (now.old s lt sk) (now.old k (omega arith) (omega arith))) a (omega arith) now
