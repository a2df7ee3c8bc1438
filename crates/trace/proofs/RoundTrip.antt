-- What is written reads back, with its length, whatever follows it.
use mathlib.Core.Path.{◌≡◌, refl, sym, ap, ap₂, ◌∙◌}
use mathlib.Core.List.{List, [], ◌∷◌, ◌++◌, append_assoc}
use mathlib.Core.Bool.{Bool, true, false, cond}
use Prim.Native.Nat.{ℕ, zero, suc, ◌+◌, ◌/◌, ◌%◌, ◌≤◌, ◌<◌}
use native.Mathlib.Numerals.{add-one}
use native.Mathlib.Omega.{arith}
use lib.ListN.{length, take, drop}
use lib.Seq.{drop-drop, drop-append_seam, drop_at, length-take-le}
use lib.Dec.{ltb, leb}
use borrow.Author.Tests.{le-ltb, le-leb, leb-true, ltb-false}
use Rattle.terms.specs.declared.range.Range.{Range}
use Rattle.terms.specs.Ranges.{in_range, edition, size_up_to, size, volume, block, priority}
use Rattle.trace.specs.Number.{Value, numeral, number_at, top_byte, bytes_before}
use Rattle.terms.specs.Reads.{Read, ReadOk}
use Rattle.trace.specs.Reading.{Reading, Given, field, Header, header_at, placed_of, placed_in, placed_at, record_at}
use Rattle.trace.specs.Spelling.{spell, spelling, spellings, header_values, read_values}
use Rattle.trace.specs.Writing.{Writing, Length, Refused, ranged, spaced, put, header_writing, record_writing}
use Rattle.trace.specs.Bounds.{limit, number_limit}
use Rattle.trace.proofs.number.Laws.{after_value}
use Rattle.trace.proofs.spelling.Laws.{header_values_length, read_values_length}
use Rattle.trace.proofs.Ranged.{in_range_low, ranges_low}
use Rattle.trace.proofs.OneSpelling.{HeaderOk}

-- ---- a number

numeral_back : (top left v : ℕ) (rest : List ℕ) → v < limit top left → numeral top left (spell left v ++ rest) ≡ Value v (length (spell left v))
unfolding numeral spell
numeral_back top zero v rest h = rw (le-leb v top (omega arith))
numeral_back top (suc left) v rest h = go (ltb v 128) refl (λ high. numeral_back top left (v / 128) rest (omega arith))
  where
    go : (low : Bool) → ltb v 128 ≡ low
        → (128 ≤ v → numeral top left (spell left (v / 128) ++ rest) ≡ Value (v / 128) (length (spell left (v / 128))))
        → numeral top (suc left) (spell (suc left) v ++ rest) ≡ Value v (length (spell (suc left) v))
    go true e ih = rw e (rw e)
    go false e ih =
        let high : 128 ≤ v = ltb-false v 128 e in
        rw e
        (rw (le-ltb (128 + v % 128) 128 (omega arith), ih high)
        (after_value (128 + v % 128) (v / 128) (length (spell left (v / 128))) (λ z. omega arith) ∙ ap₂ Value (omega arith) (add-one (length (spell left (v / 128))))))

-- the number whose spelling stands at a place
pub number_back : (s : List ℕ) (at v : ℕ) (rest : List ℕ) → v < number_limit → drop at s ≡ spelling v ++ rest → number_at s at ≡ Value v (length (spelling v))
unfolding number_limit
number_back s at v rest h e = rw e (numeral_back top_byte bytes_before v rest h)

-- ---- fields

-- the places after what stands at a place
pub drop_past : (s : List ℕ) (at : ℕ) (xs rest : List ℕ) → drop at s ≡ xs ++ rest → drop (at + length xs) s ≡ rest
drop_past s at xs rest e = sym (drop-drop (length xs) at s) ∙ ap (drop (length xs)) e ∙ drop-append_seam xs rest

module _ (s : List ℕ) (at v : ℕ) (vs rest : List ℕ) (e : drop at s ≡ spellings (v ∷ vs) ++ rest) where
  split : drop at s ≡ spelling v ++ (spellings vs ++ rest)
  split = e ∙ append_assoc (spelling v) (spellings vs) rest

  -- after a value stand the others
  rest_spelled : drop (at + length (spelling v)) s ≡ spellings vs ++ rest
  rest_spelled = drop_past s at (spelling v) (spellings vs ++ rest) split

  field_back : {A : Type 0} (range : Range) (next : ℕ → ℕ → Reading A) → range.largest < number_limit → in_range range v ≡ true
      → field range s at next ≡ next v (at + length (spelling v))
  field_back range next low h = rw (number_back s at v (spellings vs ++ rest) (in_range_low range v low h) split, h)

-- ---- headers and records

-- at any largest size that has a spelling
pub header_back : (largest : ℕ) (s : List ℕ) (at : ℕ) (h : Header) (rest : List ℕ) → largest < number_limit → HeaderOk largest h
    → drop at s ≡ spellings (header_values h) ++ rest → header_at largest s at ≡ Given h (at + length (spellings (header_values h)))
unfolding header_at
header_back largest s at h rest low ok e =
    let e₁ = rest_spelled s at h.edition (h.size ∷ []) rest e in
    field_back s at h.edition (h.size ∷ []) rest e edition _ ranges_low.0 ok.0
    ∙ field_back s (at + length (spelling h.edition)) h.size [] rest e₁ (size_up_to largest) _ low ok.1
    ∙ ap (Given h) (omega (arith, header_values_length h))

-- where the priority of a read stands whose record begins at a place
abbrev pub priority_place : Read → ℕ → ℕ
priority_place r at = at + length (spelling r.volume) + length (spelling r.block)

pub placed_back : (s : List ℕ) (at : ℕ) (r : Read) (rest : List ℕ) → ReadOk r → drop at s ≡ spellings (read_values r) ++ rest
    → placed_at s at ≡ Given (placed_of r (priority_place r at)) (at + length (spellings (read_values r)))
unfolding placed_at placed_in
placed_back s at r rest ok e =
    let e₁ = rest_spelled s at r.volume (r.block ∷ r.priority ∷ []) rest e in
    let e₂ = rest_spelled s (at + length (spelling r.volume)) r.block (r.priority ∷ []) rest e₁ in
    field_back s at r.volume (r.block ∷ r.priority ∷ []) rest e volume _ ranges_low.2 ok.0
    ∙ field_back s (at + length (spelling r.volume)) r.block (r.priority ∷ []) rest e₁ block _ ranges_low.3 ok.1
    ∙ field_back s (priority_place r at) r.priority [] rest e₂ priority _ ranges_low.4 ok.2
    ∙ ap (Given (placed_of r (priority_place r at))) (omega (arith, read_values_length r))

pub record_back : (s : List ℕ) (at : ℕ) (r : Read) (rest : List ℕ) → ReadOk r → drop at s ≡ spellings (read_values r) ++ rest
    → record_at s at ≡ Given r (at + length (spellings (read_values r)))
unfolding record_at
record_back s at r rest ok e = rw (placed_back s at r rest ok e)

-- ---- what a writer wrote

-- it holds of the length written, if that is the answer
abbrev Wrote : (ℕ → Type 0) → Writing → Type 0
Wrote P (Length n) = P n
Wrote P (Refused number) = Unit

wrote_cond : (P : ℕ → Type 0) (t : Bool) (x y : Writing) → (t ≡ true → Wrote P x) → (t ≡ false → Wrote P y) → Wrote P (cond t x y)
wrote_cond P true x y f g = f refl
wrote_cond P false x y f g = g refl

wrote_ranged : (P : ℕ → Type 0) (range : Range) (v : ℕ) (next : Writing) → (in_range range v ≡ true → Wrote P next) → Wrote P (ranged range v next)
wrote_ranged P range v next f = wrote_cond P (in_range range v) next _ f (λ t. tt)

wrote_spaced : (P : ℕ → Type 0) (room at n : ℕ) → (at + n ≤ room → P n) → Wrote P (spaced room at n)
wrote_spaced P room at n f = wrote_cond P (leb (at + n) room) (Length n) _ (λ t. f (leb-true (at + n) room t)) (λ t. tt)

-- what stands in a buffer after a write
put_here : (s : List ℕ) (at : ℕ) (xs : List ℕ) → at + length xs ≤ length s → drop at (put s at xs) ≡ xs ++ drop (at + length xs) s
put_here s at xs h = drop_at (take at s) (xs ++ drop (at + length xs) s) at (length-take-le at s (omega arith))

-- the writer's promise and the reader's: what was written reads back from its place, and ends where the writer said
pub header_written_back : (s : List ℕ) (at : ℕ) (h : Header)
    → Wrote (λ n. header_at size.largest (put s at (spellings (header_values h))) at ≡ Given h (at + n)) (header_writing h (length s) at)
unfolding header_writing size
header_written_back s at h =
    wrote_ranged _ edition h.edition _
    (λ r₁. wrote_ranged _ size h.size _
    (λ r₂. wrote_spaced _ (length s) at (length (spellings (header_values h)))
    (λ fits. header_back size.largest (put s at (spellings (header_values h))) at h (drop (at + length (spellings (header_values h))) s) ranges_low.1 (r₁, r₂) (put_here s at (spellings (header_values h)) fits))))

pub record_written_back : (s : List ℕ) (at : ℕ) (r : Read)
    → Wrote (λ n. record_at (put s at (spellings (read_values r))) at ≡ Given r (at + n)) (record_writing r (length s) at)
unfolding record_writing
record_written_back s at r =
    wrote_ranged _ volume r.volume _
    (λ r₁. wrote_ranged _ block r.block _
    (λ r₂. wrote_ranged _ priority r.priority _
    (λ r₃. wrote_spaced _ (length s) at (length (spellings (read_values r)))
    (λ fits. record_back (put s at (spellings (read_values r))) at r (drop (at + length (spellings (read_values r))) s) (r₁, r₂, r₃) (put_here s at (spellings (read_values r)) fits)))))
