-- The turns of the loop over the records: what the areas hold of the reads so far, by the laws of every such loop.
use mathlib.Core.Path.{◌≡◌, refl, sym, ap, ◌∙◌}
use mathlib.Core.Bool.{false}
use mathlib.Core.List.{List, [], ◌∷◌}
use Prim.Native.Nat.{ℕ, suc, ◌+◌, ◌-◌, ◌%◌, ◌≤◌, ◌<◌, max}
use native.Mathlib.Omega.{arith}
use lib.ListN.{length, get_or, length-append}
use borrow.Author.Tests.{le-leb, lt-leb, leb-false}
use Rattle.terms.specs.Ranges.{size, volume, block}
use Rattle.terms.specs.Reads.{Read}
use Rattle.terms.proofs.Areas.{zeros_at}
use Rattle.trace.specs.Reading.{Given, Refused, record_at}
use Rattle.trace.specs.Trace.{at_end, reads_from}
use Rattle.trace.proofs.Parts.{given_good}
use Rattle.card.specs.Rule.{key_of, place}
use Rattle.card.specs.Run.{card_after}
use Rattle.card.specs.Stretches.{places_of}
use Rattle.card.proofs.Asked.{asked_read}
use Rattle.card.proofs.ReadKeys.{key_same}
use Rattle.counts.specs.Columns.{counts_length}
use Rattle.counts.specs.Tallies.{Tallied}
use Rattle.counts.proofs.Tallied.{tallied_none, tallied_more}
use Rattle.engine.specs.Rows.{Held}
use Rattle.engine.specs.OneRead.{HeldMore, TalliedMore, SummedMore}
use Rattle.engine.specs.declared.reads.Sums.{Sums}
use Rattle.engine.proofs.HeldReads.{held_none}
use Rattle.pass.specs.Outcome as outcome
use Rattle.pass.proofs.Turns as turns
use Rattle.sizes.specs.Totals.{Totals}
use Rattle.sizes.specs.Passing.{Untouched, answer_after, TalliedBy}
use Rattle.sizes.specs.declared.run.Areas.{Areas}
use Rattle.sizes.proofs.run.Totals.{totals_none, totals_covered, totals_more}

-- what the areas and the numbers beside them hold of reads
pub record Counted (n : ℕ) (blocks stretches counts : List ℕ) (reads : ℕ) (sums : Sums) (rs : List Read) : Type 0 where
  pub held : Held n rs blocks stretches
  pub tallied : Tallied n rs counts
  pub totals : Totals n rs sums
  pub many : length rs ≡ reads
  pub low : (x : ℕ) → get_or counts x 0 ≤ reads

-- before the end of the bytes something is left
pub left_some : (s : List ℕ) (at : ℕ) → at_end s at ≡ false → 0 < length s - at
left_some s at h = omega (arith, leb-false (length s) at h)

-- the reads so far, at a place of a trace
unfoldable pub Sofar : (n : ℕ) (s : List ℕ) (start : ℕ) (blocks stretches counts : List ℕ) (at reads : ℕ) (sums : Sums) → Type 0
Sofar n s start blocks stretches counts at reads sums =
    turns.Sofar (at_end s) (record_at s) (λ i. length s - i) (left_some s) (reads_from (length s) s start) at (Counted n blocks stretches counts reads sums)

module _ (n : ℕ) (s : List ℕ) (start : ℕ) where
  pub sofar_none : (areas : Areas) (sums : Sums) → areas.n ≡ n → Untouched areas → (sums.now ≡ 0) × ((sums.most ≡ 0) × (sums.one ≡ 0))
      → Sofar n s start areas.blocks.now areas.stretches.now areas.counts.now start 0 sums
  unfolding Sofar reads_from
  sofar_none areas sums same untouched zero =
      turns.sofar_none (at_end s) (record_at s) (λ i. length s - i) (left_some s) (length s) start (Counted n _ _ _ 0 sums) (omega arith) record {
        held = rw (untouched.places, untouched.rows, same) (held_none n);
        tallied = rw (untouched.columns, same) (tallied_none n);
        totals = totals_none n sums zero;
        many = refl;
        low = λ x. rw (untouched.columns, zeros_at (counts_length areas.n) x) (omega arith);
      }

  module _ (blocks stretches counts : List ℕ) (at reads : ℕ) (sums : Sums) (so : Sofar n s start blocks stretches counts at reads sums) where
    -- what the next read finds
    pub sofar_counted : (rs : List Read) × Counted n blocks stretches counts reads sums rs
    unfolding Sofar
    sofar_counted = (so.events, so.holds)

    module _ (h : at < length s) where
      -- one record more, from what the read of it promises
      pub turn : (r : Read) (k : ℕ) → Given r (at + k) ≡ record_at s at
          → (key : ℕ) → key ≡ key_of (r.volume % suc volume.largest) (r.block % suc block.largest)
          → n ≤ size.largest → (blocks₁ stretches₁ counts₁ : List ℕ) (sums₁ : Sums)
          → HeldMore n key (max 1 r.priority) blocks stretches blocks₁ stretches₁
          → TalliedMore n key (max 1 r.priority) blocks stretches counts counts₁
          → SummedMore n key (max 1 r.priority) blocks stretches sums sums₁
          → ((x : ℕ) → get_or counts₁ x 0 ≤ get_or counts x 0 + 1)
          → Sofar n s start blocks₁ stretches₁ counts₁ (at + k) (reads + 1) sums₁
      unfolding Sofar
      turn r k e key f large blocks₁ stretches₁ counts₁ sums₁ held tallied summed low =
          let is = sym e in
          let good = given_good s at r (at + k) (omega arith) is in
          let same = key_same r key good.0 f in
          turns.sofar_more _ _ _ _ so (lt-leb (length s) at h) r (at + k) is (omega arith) (Counted n blocks₁ stretches₁ counts₁ (reads + 1) sums₁)
          (λ rs old. record {
            held = held rs r same (asked_read n r) old.held;
            tallied = tallied_more n (max 1 r.priority) rs r counts counts₁ (places_of rs key) (λ m i j. ap (place (card_after m rs)) (sym same)) (sym (asked_read n r)) (tallied rs old.held) old.tallied;
            totals = totals_more n rs sums old.totals r sums₁ (summed rs r same (asked_read n r) old.held (totals_covered n rs sums old.totals large));
            many = length-append rs (r ∷ []) ∙ ap (λ (i : ℕ). i + 1) old.many;
            low = λ x. omega (arith, low x, old.low x);
          })

      pub turn_refused : (number place : ℕ) → Refused number place ≡ record_at s at
          → (outcome.Refused number place ≡ answer_after n (reads_from (length s) s start)) × TalliedBy n (reads_from (length s) s start) counts
      unfolding Sofar
      turn_refused number place e =
          rw (turns.sofar_refused _ _ _ _ so (lt-leb (length s) at h) number place (sym e)) (refl, tt)

    pub turns_end : length s ≤ at
        → (outcome.Done (record { reads = reads; total = sums.most; one = sums.one }) ≡ answer_after n (reads_from (length s) s start)) × TalliedBy n (reads_from (length s) s start) counts
    unfolding Sofar
    turns_end h =
        let holds = so.holds in
        let many = holds.many in
        let totals = holds.totals in
        rw (turns.sofar_end _ _ _ _ so (le-leb (length s) at h)) (cc, holds.tallied)
