-- The counts of a host that keeps one card: what its steps from the empty card add up is the run's.
use mathlib.Core.Path.{◌≡◌, refl, sym, ap, ◌∙◌}
use mathlib.Core.Logic.{◌≢◌}
use mathlib.Core.Bool.{true, not}
use mathlib.Core.List.{List, [], ◌∷◌, map}
use Prim.Native.Nat.{ℕ, suc, ◌+◌, ◌≤◌, ◌<◌}
use native.Mathlib.Omega.{arith}
use borrow.Author.Tests.{le-leb, lt-ltb}
use lib.Dec.{eqb}
use lib.ListN.{length, get_or, set, length-set}
use lib.Seq.{get_or-set_same, get_or-set_other, ext_get_or}
use Rattle.terms.specs.Ranges.{in_range, size}
use Rattle.terms.specs.Reads.{Read, ReadsOk}
use Rattle.card.specs.Rule.{place, outcome}
use Rattle.card.specs.Run.{block_read, asked, empty, next, outcomes, occurrences, count}
use Rattle.card.specs.State.{Answer, Outcome, Refused}
use Rattle.card.specs.Counts.{is_hit, slot_of, counts_lent, largest_count, counts_after}
use Rattle.card.proofs.Tests.{by_eq, tests}
use Rattle.card.proofs.OutcomeCases.{by_outcome}
use Rattle.card.proofs.Outcomes.{same, six_outcomes, six_at}
use Rattle.card.proofs.ValidStates.{answers, steps_answer}

-- a read is a hit exactly where its block is there
pub hit_there : (m j p : ℕ) → is_hit (outcome m j p) ≡ not (eqb j 0)
unfolding is_hit
hit_there m j p =
    by_outcome (λ n. is_hit n ≡ not (eqb j 0)) m j p (λ a b. hit a) (λ a b. hit a) (λ a b l. hit a) (λ a b l. hit a) (λ a l. simp tests) (λ a l. simp tests)
  where
    hit : 1 ≤ j → true ≡ not (eqb j 0)
    hit a = let e : j ≢ 0 = omega arith in simp tests

-- the counts after answers, each outcome added as it comes
abbrev pub added_up : List Answer → List ℕ → List ℕ
added_up [] counts = counts
added_up (Outcome o ∷ answered) counts = added_up answered (counts_after o counts)
added_up (Refused number ∷ answered) counts = added_up answered counts

-- the slot of an outcome is its number
slot_is : (o : ℕ) → o ≤ 5 → slot_of o ≡ o
unfolding slot_of
slot_is o h = six_at (λ i. i) counts_lent o (omega arith)

-- ---- outcomes that are added to counts with room for them

-- the counts are there, and none of them gets full by so many more
abbrev pub Roomy : List ℕ → ℕ → Type 0
Roomy counts more = (counts_lent ≤ length counts) × ((i : ℕ) → i < counts_lent → get_or counts i 0 + more ≤ largest_count)

-- each of the outcomes is one
abbrev Outcomes : List ℕ → Type 0
Outcomes [] = Unit
Outcomes (o ∷ os) = (o ≤ 5) × Outcomes os

same_low : (o i : ℕ) → same o i ≤ 1
same_low o i = by_eq o i (λ e. simp tests (omega arith)) (λ e. simp tests (omega arith))

module _ (counts : List ℕ) (o more : ℕ) (h : o ≤ 5) (room : Roomy counts (suc more)) where
  added : counts_after o counts ≡ set counts o (get_or counts o 0 + 1)
  unfolding counts_after
  added = rw (slot_is o h, le-leb counts_lent (length counts) room.0, lt-ltb o counts_lent (omega arith), lt-ltb (get_or counts o 0) largest_count (omega (arith, room.1 o (omega arith))))

  added_at : (i : ℕ) → get_or (counts_after o counts) i 0 ≡ get_or counts i 0 + same o i
  added_at i =
      rw added
      (by_eq o i
      (λ e. rw (← e) (get_or-set_same counts o (get_or counts o 0 + 1) 0 (omega (arith, room.0)) ∙ simp tests))
      (λ e. get_or-set_other counts o i (get_or counts o 0 + 1) 0 (λ f. e (sym f)) ∙ simp tests (omega arith)))

  added_length : length (counts_after o counts) ≡ length counts
  added_length = rw added (length-set counts o (get_or counts o 0 + 1))

  roomy_after : Roomy (counts_after o counts) more
  roomy_after = (omega (arith, room.0, added_length), λ i l. omega (arith, room.1 i l, added_at i, same_low o i))

added_up_lem : (os : List ℕ) (counts : List ℕ) → Outcomes os → Roomy counts (length os)
    → (length (added_up (map Outcome os) counts) ≡ length counts) × ((i : ℕ) → get_or (added_up (map Outcome os) counts) i 0 ≡ get_or counts i 0 + occurrences i os)
added_up_lem [] counts all room = (refl, λ i. omega arith)
added_up_lem (o ∷ os) counts all room =
    let more = added_up_lem os (counts_after o counts) all.1 (roomy_after counts o (length os) all.0 room) in
    (more.0 ∙ added_length counts o (length os) all.0 room, λ i. omega (arith, more.1 i, added_at counts o (length os) all.0 room i))

-- ---- the outcomes of a run

outcomes_six : (rs : List Read) (c : List ℕ) → Outcomes (outcomes c rs)
outcomes_six [] c = tt
outcomes_six (r ∷ rs) c = (six_outcomes (length c) (place c (block_read r)) (asked (length c) r), outcomes_six rs (next c r))

length_outcomes : (rs : List Read) (c : List ℕ) → length (outcomes c rs) ≡ length rs
length_outcomes [] c = refl
length_outcomes (r ∷ rs) c = ap suc (length_outcomes rs (next c r))

-- no outcome is past the six
none_past : (os : List ℕ) → Outcomes os → (i : ℕ) → counts_lent ≤ i → occurrences i os ≡ 0
none_past [] all i h = refl
none_past (o ∷ os) all i h = let e : o ≢ i = omega (arith, all.0) in simp tests (omega (arith, none_past os all.1 i h))

-- six counts from none
abbrev nothing : List ℕ
nothing = 0 ∷ 0 ∷ 0 ∷ 0 ∷ 0 ∷ 0 ∷ []

nothing_at : (i : ℕ) → i < counts_lent → get_or nothing i 0 ≡ 0
nothing_at i h = six_at (λ _. 0) 0 i h

-- ---- steps from the empty state

module _ (m k : ℕ) (h : in_range size m ≡ true) (rs : List Read) (ok : ReadsOk rs) where
  module _ (counts : List ℕ) (room : Roomy counts (length rs)) where
    all_added : (length (added_up (answers m (empty (m + k)) rs) counts) ≡ length counts)
        × ((i : ℕ) → get_or (added_up (answers m (empty (m + k)) rs) counts) i 0 ≡ get_or counts i 0 + count m i rs)
    all_added = rw (steps_answer m k h rs ok) (added_up_lem (outcomes (empty m) rs) counts (outcomes_six rs (empty m)) (rw (length_outcomes rs (empty m)) room))

    -- what steps add to the counts of a host is the run's counts
    pub steps_add : (i : ℕ) → i < counts_lent → get_or (added_up (answers m (empty (m + k)) rs) counts) i 0 ≡ get_or counts i 0 + count m i rs
    steps_add i l = all_added.1 i

    -- and what lies past the six is kept
    pub steps_keep : (i : ℕ) → counts_lent ≤ i → get_or (added_up (answers m (empty (m + k)) rs) counts) i 0 ≡ get_or counts i 0
    steps_keep i l = omega (arith, all_added.1 i, none_past (outcomes (empty m) rs) (outcomes_six rs (empty m)) i l)

  -- from six zeros they add up to the six counts of the run
  pub steps_count : length rs ≤ largest_count
      → added_up (answers m (empty (m + k)) rs) nothing ≡ count m 0 rs ∷ count m 1 rs ∷ count m 2 rs ∷ count m 3 rs ∷ count m 4 rs ∷ count m 5 rs ∷ []
  steps_count few =
      let all = all_added nothing (omega arith, λ i l. omega (arith, nothing_at i l)) in
      ext_get_or 0 _ _ all.0 (λ i l. let low : i < counts_lent = omega (arith, all.0) in all.1 i ∙ omega (arith, nothing_at i low) ∙ sym (six_at (λ o. count m o rs) 0 i low))
