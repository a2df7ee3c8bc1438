-- The description's figures that are marked to be proved: each a question with its answer in numbers, all held by one statement over one list.
use Prim.Native.Nat.{ℕ}
use mathlib.Core.List.{List, [], ◌∷◌, map}
use mathlib.Core.Path.{◌≡◌, refl}
use Rattle.terms.specs.Ranges.{edition, size, block}
use Rattle.terms.specs.Reads.{Read, read_of}
use Rattle.trace.specs.Number as number
use Rattle.trace.specs.Reading as reading
use Rattle.trace.specs.Spelling.{spell, spelling}
use Rattle.card.specs.Rule.{key_of, outcome, after_read}
use Rattle.card.specs.Run.{asked, card_after, misses}

-- what is asked: the spelling of a number, the number or the header that bytes are, a card after reads, or its misses
pub data Question : Type 0 where
  spelled : ℕ → Question
  numbered : List ℕ → Question
  headed : List ℕ → Question
  carded : ℕ → List Read → Question
  missed : ℕ → List Read → Question

-- 0 and the values, or the refusal's number, and its place where it has one
abbrev numeral_answer : number.Numeral → List ℕ
numeral_answer (number.Value v n) = 0 ∷ v ∷ n ∷ []
numeral_answer (number.Fault n) = n ∷ []

abbrev header_answer : reading.Reading reading.Header → List ℕ
header_answer (reading.Given h at) = 0 ∷ h.edition ∷ h.size ∷ at ∷ []
header_answer (reading.Refused n place) = n ∷ place ∷ []

abbrev pub answer : Question → List ℕ
answer (spelled v) = spelling v
answer (numbered s) = numeral_answer (number.number_at s 0)
answer (headed s) = header_answer (reading.header_at size.largest s 0)
answer (carded m rs) = card_after m rs
answer (missed m rs) = misses m rs ∷ []

pub record Figure : Type 0 where
  pub asked : Question
  pub given : List ℕ

abbrev figure : Question → List ℕ → Figure
figure q a = record { asked = q; given = a }

abbrev pub figures : List Figure
figures =
    figure (spelled 127) (0x7f ∷ [])
    ∷ figure (spelled 128) (0x80 ∷ 0x01 ∷ [])
    ∷ figure (spelled 300) (0xac ∷ 0x02 ∷ [])
    ∷ figure (spelled 4294967295) (0xff ∷ 0xff ∷ 0xff ∷ 0xff ∷ 0x0f ∷ [])
    ∷ figure (numbered (0x80 ∷ 0x00 ∷ [])) (2 ∷ [])
    ∷ figure (numbered (0xff ∷ 0xff ∷ 0xff ∷ 0xff ∷ 0x10 ∷ [])) (2 ∷ [])
    ∷ figure (headed []) (1 ∷ 0 ∷ [])
    ∷ figure (headed (0x01 ∷ 0x00 ∷ [])) (4 ∷ 1 ∷ [])
    ∷ figure (headed (0x01 ∷ 0x80 ∷ 0x01 ∷ [])) (4 ∷ 1 ∷ [])
    ∷ figure (headed (0x01 ∷ 0x05 ∷ [])) (0 ∷ 1 ∷ 5 ∷ 2 ∷ [])
    ∷ figure (carded 3 (read_of 0 10 3 ∷ read_of 0 11 3 ∷ [])) (0 ∷ 0 ∷ 12 ∷ [])
    ∷ figure (missed 2 (read_of 1 7 1 ∷ read_of 2 7 1 ∷ [])) (2 ∷ [])
    ∷ []

-- every figure holds
pub figures_hold : map (λ (f : Figure). answer f.asked) figures ≡ map (λ (f : Figure). f.given) figures
unfolding number.numeral reading.header_at edition size block spell key_of outcome after_read asked
figures_hold = refl
