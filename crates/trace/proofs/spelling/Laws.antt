-- Laws of a number's spelling, over both limits of the format, and of spellings one after the other.
use mathlib.Core.Path.{◌≡◌, refl, sym, ap, ◌∙◌}
use mathlib.Core.List.{List, [], ◌∷◌, ◌++◌, append-nil}
use mathlib.Core.Bool.{Bool, true, false, cond}
use Prim.Native.Nat.{ℕ, zero, suc, ◌+◌, ◌*◌, ◌/◌, ◌%◌, ◌≤◌, ◌<◌}
use native.Mathlib.Omega.{arith}
use lib.ListN.{length, get_or, take, length-append}
use lib.Dec.{ltb}
use borrow.Author.Rules.{part_to_end}
use borrow.Author.Tests.{lt-ltb, le-ltb, ltb-false}
use Rattle.std.proofs.lemmas.List.{take_more}
use Rattle.std.proofs.lemmas.List.Concat.{length-flat_map, flat_map-append}
use Rattle.std.proofs.lemmas.List.Folds.{length-flat_map-take}
use Rattle.terms.specs.Reads.{Read}
use Rattle.trace.specs.Number.{top_byte, bytes_before}
use Rattle.trace.specs.Reading.{Header}
use Rattle.trace.specs.Spelling.{spell, spelling, spellings, header_values, read_values}
use Rattle.trace.specs.Bounds.{limit, number_limit}
use Rattle.trace.proofs.Puts.{put_cons, put_one, put_put, put_part}

pub spell_low : (left v : ℕ) → v < 128 → spell left v ≡ v ∷ []
unfolding spell
spell_low zero v h = refl
spell_low (suc left) v h = rw (lt-ltb v 128 h)

-- one byte more than a number needs changes nothing
spell_enough : (top left v : ℕ) → top < 128 → v < limit top left → spell (suc left) v ≡ spell left v
unfolding spell
spell_enough top zero v t h = rw (lt-ltb v 128 (omega arith))
spell_enough top (suc left) v t h = go (ltb v 128) refl (λ g. spell_enough top left (v / 128) t (omega arith))
  where
    go : (low : Bool) → ltb v 128 ≡ low → (128 ≤ v → spell (suc left) (v / 128) ≡ spell left (v / 128))
        → cond (ltb v 128) (v ∷ []) ((128 + v % 128) ∷ spell (suc left) (v / 128)) ≡ cond (ltb v 128) (v ∷ []) ((128 + v % 128) ∷ spell left (v / 128))
    go true e ih = rw e
    go false e ih = rw (e, ih (ltb-false v 128 e))

pub spell_high : (top left v : ℕ) → top < 128 → v < limit top left → 128 ≤ v → spell left v ≡ (128 + v % 128) ∷ spell left (v / 128)
unfolding spell
spell_high top zero v t h g = absurd (omega arith)
spell_high top (suc left) v t h g = rw (le-ltb v 128 g) (ap (λ (l : List ℕ). (128 + v % 128) ∷ l) (sym (spell_enough top left (v / 128) t (omega arith))))

short_cond : (t : Bool) (k : ℕ) (xs ys : List ℕ) → (1 ≤ length xs) × (length xs ≤ k) → (1 ≤ length ys) × (length ys ≤ k)
    → (1 ≤ length (cond t xs ys)) × (length (cond t xs ys) ≤ k)
short_cond true k xs ys f g = f
short_cond false k xs ys f g = g

pub spell_short : (left v : ℕ) → (1 ≤ length (spell left v)) × (length (spell left v) ≤ suc left)
unfolding spell
spell_short zero v = omega arith
spell_short (suc left) v =
    short_cond (ltb v 128) (suc (suc left)) (v ∷ []) ((128 + v % 128) ∷ spell left (v / 128)) (omega arith) (let h = spell_short left (v / 128) in omega arith)

-- ---- the format's own limits

pub spelling_short : (v : ℕ) → (1 ≤ length (spelling v)) × (length (spelling v) ≤ suc bytes_before)
spelling_short v = spell_short bytes_before v

pub spelling_low : (v : ℕ) → v < 128 → spelling v ≡ v ∷ []
spelling_low v h = spell_low bytes_before v h

pub spelling_high : (v : ℕ) → v < number_limit → 128 ≤ v → spelling v ≡ (128 + v % 128) ∷ spelling (v / 128)
unfolding number_limit
spelling_high v h g = spell_high top_byte bytes_before v (omega arith) h g

pub length_low : (v : ℕ) → v < 128 → length (spelling v) ≡ 1
length_low v h = ap length (spelling_low v h)

pub length_high : (v : ℕ) → v < number_limit → 128 ≤ v → length (spelling v) ≡ suc (length (spelling (v / 128)))
length_high v h g = ap length (spelling_high v h g)

pub length_cons : (v : ℕ) (vs : List ℕ) → length (spellings (v ∷ vs)) ≡ length (spelling v) + length (spellings vs)
length_cons v vs = length-append (spelling v) (spellings vs)

pub spellings_short : (vs : List ℕ) → length (spellings vs) ≤ suc bytes_before * length vs
spellings_short [] = omega arith
spellings_short (v ∷ vs) = omega (arith, length_cons v vs, spelling_short v, spellings_short vs)

pub header_values_length : (h : Header) → length (spellings (header_values h)) ≡ length (spelling h.edition) + length (spelling h.size)
header_values_length h = omega (arith, length_cons h.edition (h.size ∷ []), length_cons h.size [])

pub read_values_length : (r : Read) → length (spellings (read_values r)) ≡ length (spelling r.volume) + length (spelling r.block) + length (spelling r.priority)
read_values_length r =
    omega (arith, length_cons r.volume (r.block ∷ r.priority ∷ []), length_cons r.block (r.priority ∷ []), length_cons r.priority [])

-- the values before an index and the one that stands there
pub spellings_more : (vs : List ℕ) (i : ℕ) → i < length vs → spellings (take (i + 1) vs) ≡ spellings (take i vs) ++ spelling (get_or vs i 0)
spellings_more vs i h =
    ap spellings (take_more vs i 0 h) ∙ flat_map-append spelling (take i vs) (get_or vs i 0 ∷ []) ∙ ap (λ (l : List ℕ). spellings (take i vs) ++ l) (append-nil (spelling (get_or vs i 0)))

-- what the lengths of numbers stand on
pub ruleset length_laws = (length-flat_map, spelling_short, length_low, length_high)

-- and what a number that is written stands on
pub ruleset written_laws = (spelling_short, spelling_low, spelling_high, length_low, length_high, put_cons, put_one)

-- and numbers that are written one after the other
pub ruleset one_more_laws = (spellings_more, length-flat_map-take, length-append, part_to_end, put_part, put_put)
