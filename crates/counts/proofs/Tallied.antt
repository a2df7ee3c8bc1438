-- The tallies against the separate runs: before the first read, and after one read more.
use mathlib.Core.Path.{◌≡◌, refl, ap, ◌∙◌}
use mathlib.Core.Bool.{cond}
use mathlib.Core.List.{List, [], ◌∷◌, ◌++◌}
use Prim.Native.Nat.{ℕ, zero, suc, ◌+◌, ◌≤◌}
use native.Mathlib.Omega.{arith}
use lib.Dec.{eqb}
use lib.ListN.{length, length-append}
use Rattle.terms.specs.Areas.{zeros}
use Rattle.terms.specs.Reads.{Read}
use Rattle.terms.proofs.Areas.{zeros_at}
use Rattle.card.specs.Rule.{place, outcome_on}
use Rattle.card.specs.Run.{block_read, asked, empty, next, run, card_after, outcomes, occurrences, count}
use Rattle.card.proofs.Asked.{outcome_upto}
use Rattle.card.proofs.Inclusion.{length_card}
use Rattle.card.proofs.OutcomeCases.{place_in}
use Rattle.counts.specs.Columns.{counts_length, cell_of}
use Rattle.counts.specs.Tallies.{up_to, SumsGive, Tallied, is_outcome}
use Rattle.counts.specs.TallySteps.{ReadTallied}
use Rattle.counts.proofs.tallies.Sums.{sums_same}

-- ---- before the first read

sums_none : (n k m : ℕ) → up_to (zeros n) k m ≡ 0
sums_none n k zero = refl
sums_none n k (suc m) = omega (arith, sums_none n k m, zeros_at n (cell_of m k))

pub tallied_none : (n : ℕ) → Tallied n [] (zeros (counts_length n))
tallied_none n m h g =
    let none : SumsGive (λ k. 0) 0 (λ o. 0) = omega arith in
    sums_same (λ k l. sums_none (counts_length n) k m) (λ o l. refl) none

-- ---- one read more

occurrences_more : (o : ℕ) (rs : List Read) (r : Read) (c : List ℕ)
    → occurrences o (outcomes c (rs ++ (r ∷ []))) ≡ occurrences o (outcomes c rs) + cond (eqb (outcome_on (run c rs) (block_read r) (asked (length (run c rs)) r)) o) 1 0
occurrences_more o [] r c = omega arith
occurrences_more o (x ∷ rs) r c = omega (arith, occurrences_more o rs r (next c x))

count_more : (m o : ℕ) (rs : List Read) (r : Read) → count m o (rs ++ (r ∷ [])) ≡ count m o rs + is_outcome o m (place (card_after m rs) (block_read r)) (asked m r)
count_more m o rs r =
    occurrences_more o rs r (empty m)
    ∙ ap (λ (k : ℕ). count m o rs + is_outcome o k (place (card_after m rs) (block_read r)) (asked k r)) (length_card m rs)

pub tallied_more : (n p : ℕ) (rs : List Read) (r : Read) (entry exit : List ℕ) (J : ℕ → ℕ)
    → ((m : ℕ) → 1 ≤ m → m ≤ n → J m ≡ place (card_after m rs) (block_read r)) → p ≡ asked n r
    → ReadTallied entry exit J n p → Tallied n rs entry → Tallied n (rs ++ (r ∷ [])) exit
tallied_more n p rs r entry exit J places priority read old m some h =
    let same = outcome_upto m n (place (card_after m rs) (block_read r)) h (omega (arith, place_in (card_after m rs) (block_read r), length_card m rs)) r in
    rw (length-append rs (r ∷ []))
    (sums_same (λ k l. refl) (λ o l. rw (places m some h, priority, ← same) (count_more m o rs r)) (read (length rs) (λ m o. count m o rs) old m some h))
