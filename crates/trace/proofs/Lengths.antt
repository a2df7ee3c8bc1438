-- A record is 3 to 10 bytes and a header is 2, as they are read and as they are spelled. Only what each number takes is computed from its range.
use mathlib.Core.Path.{◌≡◌, refl, subst}
use mathlib.Core.List.{List, [], ◌∷◌, map}
use mathlib.Core.Bool.{Bool, true, false, cond}
use Prim.Native.Nat.{ℕ, zero, suc, ◌+◌, ◌/◌, ◌%◌, ◌≤◌, ◌<◌}
use native.Mathlib.Omega.{arith}
use lib.ListN.{length, length-append}
use lib.Dec.{ltb}
use borrow.Author.Tests.{ltb-false, le-ltb}
use Rattle.terms.specs.declared.range.Range.{Range}
use Rattle.terms.specs.Ranges.{in_range, edition, size_up_to, size, volume, block, priority, volume_up_to, priority_up_to}
use Rattle.terms.specs.Reads.{Read, read_of, ReadOk}
use Rattle.trace.specs.Number.{Value, number_at, bytes_before}
use Rattle.trace.specs.Reading.{Given, Header, header_of, header_at, Placed, placed_in, placed_at, formed_at, record_at}
use Rattle.trace.specs.Spelling.{spell, spelling, spellings, header_values, read_values, records_spelling, trace_spelling}
use Rattle.terms.proofs.Ranges.{bounds}
use Rattle.trace.proofs.spelling.Laws.{spell_short, spelling_short, length_low, header_values_length, read_values_length}
use Rattle.trace.proofs.OneSpelling.{number_long, Gives, gives_field, gives_read, HeaderOk}

-- ---- a number

-- a spelling is no longer than that of a larger number
spell_rises : (left v w : ℕ) → v ≤ w → length (spell left v) ≤ length (spell left w)
unfolding spell
spell_rises zero v w h = omega arith
spell_rises (suc left) v w h = go (ltb v 128) refl (spell_rises left (v / 128) (w / 128) (omega arith))
  where
    go : (low : Bool) → ltb v 128 ≡ low → length (spell left (v / 128)) ≤ length (spell left (w / 128))
        → length (cond low (v ∷ []) ((128 + v % 128) ∷ spell left (v / 128))) ≤ length (spell (suc left) w)
    go true e ih = (spell_short (suc left) w).0
    go false e ih = rw (le-ltb w 128 (omega (arith, ltb-false v 128 e))) (omega arith)

-- so the two ends of its range bound how many bytes a number takes
takes : (range : Range) (v : ℕ) → in_range range v ≡ true
    → (length (spelling range.least) ≤ length (spelling v)) × (length (spelling v) ≤ length (spelling range.largest))
takes range v h =
    let ends = bounds range v h in
    (spell_rises bytes_before range.least v ends.0, spell_rises bytes_before v range.largest ends.1)

edition_takes : (v : ℕ) → in_range edition v ≡ true → (1 ≤ length (spelling v)) × (length (spelling v) ≤ 1)
unfolding edition spell
edition_takes = takes edition

size_takes : (largest v : ℕ) → largest ≤ size.largest → in_range (size_up_to largest) v ≡ true → (1 ≤ length (spelling v)) × (length (spelling v) ≤ 1)
unfolding size spell
size_takes largest v h e = omega (arith, takes (size_up_to largest) v e, spell_rises bytes_before largest size.largest h)

volume_takes : (v : ℕ) → in_range volume v ≡ true → (1 ≤ length (spelling v)) × (length (spelling v) ≤ 3)
unfolding volume spell
volume_takes = takes volume

block_takes : (v : ℕ) → in_range block v ≡ true → (1 ≤ length (spelling v)) × (length (spelling v) ≤ 5)
unfolding block spell
block_takes = takes block

priority_takes : (v : ℕ) → in_range priority v ≡ true → (1 ≤ length (spelling v)) × (length (spelling v) ≤ 2)
unfolding priority spell
priority_takes = takes priority

-- ---- what is spelled

pub header_spelling_length : (largest : ℕ) (h : Header) → largest ≤ size.largest → HeaderOk largest h → length (spellings (header_values h)) ≡ 2
header_spelling_length largest h low ok =
    omega (arith, header_values_length h, edition_takes h.edition ok.0, size_takes largest h.size low ok.1)

pub record_spelling_length : (r : Read) → ReadOk r → (3 ≤ length (spellings (read_values r))) × (length (spellings (read_values r)) ≤ 10)
record_spelling_length r ok =
    omega (arith, read_values_length r, volume_takes r.volume ok.0, block_takes r.block ok.1, priority_takes r.priority ok.2)

-- a priority of one byte in the place of another leaves a record as long as it was
pub record_as_long : (r : Read) (p : ℕ) → p < 128 → r.priority < 128
    → length (spellings (read_values (read_of r.volume r.block p))) ≡ length (spellings (read_values r))
record_as_long r p h g =
    omega (arith, read_values_length r, read_values_length (read_of r.volume r.block p), length_low p h, length_low r.priority g)

-- and a trace is as long where each of its records is
module _ (f : Read → Read) (same : (r : Read) → length (spellings (read_values (f r))) ≡ length (spellings (read_values r))) where
  records_as_long : (rs : List Read) → length (records_spelling (map f rs)) ≡ length (records_spelling rs)
  records_as_long [] = refl
  records_as_long (r ∷ rs) =
      omega (arith, length-append (spellings (read_values (f r))) (records_spelling (map f rs)), length-append (spellings (read_values r)) (records_spelling rs), same r, records_as_long rs)

  pub trace_as_long : (h : Header) (rs : List Read) → length (trace_spelling h (map f rs)) ≡ length (trace_spelling h rs)
  trace_as_long h rs =
      omega (arith, length-append (spellings (header_values h)) (records_spelling (map f rs)), length-append (spellings (header_values h)) (records_spelling rs), records_as_long rs)

-- ---- what is read

-- its numbers are in their ranges, and it is as long as its spelling
pub header_given : (largest : ℕ) (s : List ℕ) (at : ℕ) → Gives (λ h end. HeaderOk largest h × (end ≡ at + length (spellings (header_values h)))) (header_at largest s at)
unfolding header_at
header_given largest s at =
    gives_field _ edition s at _
    (λ e n₁ e₁ r₁. gives_field _ (size_up_to largest) s (at + n₁) _
    (λ n n₂ e₂ r₂. ((r₁, r₂), omega (arith, header_values_length (header_of e n), number_long s at e n₁ e₁, number_long s (at + n₁) n n₂ e₂))))

pub record_given : (s : List ℕ) (at : ℕ) → Gives (λ r end. ReadOk r × (end ≡ at + length (spellings (read_values r)))) (record_at s at)
unfolding placed_at placed_in
record_given s at =
    gives_read _ s at
    (gives_field _ volume s at _
    (λ v n₁ e₁ r₁. gives_field _ block s (at + n₁) _
    (λ b n₂ e₂ r₂. gives_field _ priority s (at + n₁ + n₂) _
    (λ p n₃ e₃ r₃. ((r₁, r₂, r₃), omega (arith, read_values_length (read_of v b p), number_long s at v n₁ e₁, number_long s (at + n₁) b n₂ e₂, number_long s (at + n₁ + n₂) p n₃ e₃))))))

-- three numbers have three bytes, in whatever ranges they are
formed_given : (s : List ℕ) (at : ℕ) → Gives (λ r end. at + 3 ≤ end) (formed_at s at)
unfolding formed_at placed_in
formed_given s at =
    gives_field (λ r end. at + 3 ≤ end) (volume_up_to block.largest) s at _
    (λ v n₁ e₁ r₁. gives_field (λ r end. at + 3 ≤ end) block s (at + n₁) _
    (λ b n₂ e₂ r₂. gives_field (λ r end. at + 3 ≤ end) (priority_up_to block.largest) s (at + n₁ + n₂) _
    (λ p n₃ e₃ r₃. omega (arith, number_short s at v n₁ e₁, number_short s (at + n₁) b n₂ e₂, number_short s (at + n₁ + n₂) p n₃ e₃))))
  where
    number_short : (s : List ℕ) (at v n : ℕ) → number_at s at ≡ Value v n → 1 ≤ n
    number_short s at v n e = omega (arith, number_long s at v n e, spelling_short v)

module _ (s : List ℕ) (at : ℕ) where
  pub formed_length : (r : Placed) (end : ℕ) → formed_at s at ≡ Given r end → at + 3 ≤ end
  formed_length r end e = subst (Gives _) e (formed_given s at)

  pub header_length : (largest : ℕ) (h : Header) (end : ℕ) → largest ≤ size.largest → header_at largest s at ≡ Given h end → end ≡ at + 2
  header_length largest h end low e =
      let given = subst (Gives _) e (header_given largest s at) in
      omega (arith, given.1, header_spelling_length largest h low given.0)

  pub record_length : (r : Read) (end : ℕ) → record_at s at ≡ Given r end → (at + 3 ≤ end) × (end ≤ at + 10)
  record_length r end e =
      let given = subst (Gives _) e (record_given s at) in
      omega (arith, given.1, record_spelling_length r given.0)
