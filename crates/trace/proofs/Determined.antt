-- The promises leave one answer: any two outcomes that a contract allows for the same input coincide.
use mathlib.Core.Path.{◌≡◌, refl}
use mathlib.Core.List.{List}
use Prim.Native.Nat.{ℕ}
use native.Mathlib.Omega.{arith}
use lib.ListN.{drop}
use Rattle.std.proofs.Common.{Result, Ok, Err, unwrap_or}
use Rattle.std.specs.Result.{result_err}
use Rattle.terms.specs.declared.Refusal.{Refusal}
use Rattle.terms.specs.declared.Refusal.TheVariants.{Form}
use Rattle.terms.specs.declared.Fault.{Fault}
use Rattle.terms.specs.Refusals.{number_of}
use Rattle.terms.proofs.Refusals.{one_refusal}
use Rattle.terms.proofs.Determined.{one_value}
use Rattle.trace.specs.declared.number.Number.{Number}
use Rattle.trace.specs.declared.header.Header.{Header}
use Rattle.trace.specs.declared.record.Record.{Record}
use Rattle.trace.specs.Number as number
use Rattle.trace.specs.Reading as reading
use Rattle.trace.specs.Writing as writing
use Rattle.trace.specs.Answers.{number_answer, header_answer, record_answer, written_answer}

pub read_number_determined : (s : List ℕ) (at : ℕ) (x y : Result Number Refusal) → number_answer x ≡ number.number_at s at → number_answer y ≡ number.number_at s at → x ≡ y
read_number_determined s at x y e f = grind (arith, one_refusal)

-- two refusals with one number are one
pub fault_determined : (answer : Result Number Refusal) (x y : Refusal)
    → number_of x ≡ number.fault_of (number_answer answer) → number_of y ≡ number.fault_of (number_answer answer) → x ≡ y
fault_determined answer x y e f = one_refusal x y (one_value e f)

-- and an answer has one: its error, or FORM where it is a number
pub fault_told : (answer : Result Number Refusal) → number_of (unwrap_or (result_err answer) Form) ≡ number.fault_of (number_answer answer)
fault_told (Ok n) = refl
fault_told (Err refusal) = refl

pub read_header_determined : (largest : ℕ) (s : List ℕ) (x y : Result Header Fault)
    → header_answer x ≡ reading.header_at largest s 0 → header_answer y ≡ reading.header_at largest s 0 → x ≡ y
read_header_determined largest s x y e f = grind (arith, one_refusal)

-- a record, and one with the ranges wide open, whatever the promise
pub read_record_determined : (promised : reading.Reading reading.Placed) (x y : Result Record Fault) → record_answer x ≡ promised → record_answer y ≡ promised → x ≡ y
read_record_determined promised x y e f = grind (arith, one_refusal)

-- the rest: its bytes and its pointer
pub rest_determined : (s : List ℕ) (pointer : ℕ × ℕ) (t u : List ℕ) (p q : ℕ × ℕ)
    → (t ≡ drop (reading.rest_start (reading.record_at s 0)) s) × (p ≡ reading.onwards (reading.rest_start (reading.record_at s 0)) pointer)
    → (u ≡ drop (reading.rest_start (reading.record_at s 0)) s) × (q ≡ reading.onwards (reading.rest_start (reading.record_at s 0)) pointer)
    → (t ≡ u) × (p ≡ q)
rest_determined s pointer t u p q e f = (one_value e.0 f.0, one_value e.1 f.1)

-- both writers: the answer and the buffer, whatever is to be written
pub write_determined : (promised : writing.Writing) (s : List ℕ) (at : ℕ) (xs : List ℕ) (x y : Result ℕ Refusal) (t u : List ℕ)
    → (written_answer x ≡ promised) × (t ≡ writing.buffer_after (written_answer x) s at xs)
    → (written_answer y ≡ promised) × (u ≡ writing.buffer_after (written_answer y) s at xs)
    → (x ≡ y) × (t ≡ u)
write_determined promised s at xs x y t u e f = grind (arith, one_refusal)
