-- What reading a number finds.
use Rattle.std.specs.Prelude.{ℕ, zero, suc, ◌+◌, ◌*◌, ◌%◌, cond, List, [], ◌∷◌, drop, ltb, leb}
use Rattle.terms.specs.declared.Refusal.TheVariants.{Cut, Form}
use Rattle.terms.specs.Refusals.{number_of}

-- the value of a number and its length in bytes, or the number of the refusal of the bytes
pub data Numeral : Type 0 where
  Value : ℕ → ℕ → Numeral
  Fault : ℕ → Numeral

-- a byte with bit 7 set, and the number that the bytes after it spell: 0 would be a last byte of 0 after another byte
abbrev pub after : ℕ → Numeral → Numeral
after byte (Value zero n) = Fault (number_of Form)
after byte (Value (suc v) n) = Value (byte % 128 + 128 * suc v) (n + 1)
after byte (Fault number) = Fault number

-- the number at the front of the bytes, with at most `left` bytes before its last; after so many the last is at most `top`
unfoldable pub numeral : (top left : ℕ) → List ℕ → Numeral
numeral top zero [] = Fault (number_of Cut)
numeral top zero (byte ∷ s) = cond (leb byte top) (Value byte 1) (Fault (number_of Form))
numeral top (suc left) [] = Fault (number_of Cut)
numeral top (suc left) (byte ∷ s) = cond (ltb byte 128) (Value byte 1) (after byte (numeral top left s))

-- a number takes at most this many bytes before its last
abbrev pub bytes_before : ℕ
bytes_before = 4

-- and after so many its last byte is at most this
abbrev pub top_byte : ℕ
top_byte = 15

-- the number at a place of the bytes
abbrev pub number_at : List ℕ → ℕ → Numeral
number_at s at = numeral top_byte bytes_before (drop at s)

-- the refusal's number of what is no number; FORM where it is one, which has no refusal
abbrev pub fault_of : Numeral → ℕ
fault_of (Value v n) = number_of Form
fault_of (Fault number) = number
