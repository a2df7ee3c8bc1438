-- The ways out of the salvage of all but the list, from what the reader of the header answered.
use mathlib.Core.Path.{◌≡◌, sym, ap, ◌∙◌}
use mathlib.Core.List.{List}
use Prim.Native.Nat.{ℕ, ◌≤◌}
use lib.ListN.{length}
use Rattle.std.proofs.Common.{Result, Ok, Err}
use Rattle.terms.specs.declared.Fault.{Fault}
use Rattle.terms.specs.Refusals.{number_of}
use Rattle.terms.specs.Ranges.{size}
use Rattle.trace.specs.declared.header.Header.{Header}
use Rattle.trace.specs.Reading as reading
use Rattle.trace.specs.Reading.{header_of, header_at}
use Rattle.trace.specs.Answers.{header_answer}
use Rattle.salvage.specs.Pieces.{pieces_of}
use Rattle.salvage.specs.Good.{good_of}
use Rattle.salvage.specs.Answers.{Refused, spaced, salvaging}
use Rattle.salvage.specs.Steps.{good_after, entries_from, start_of}
use Rattle.salvage.proofs.Headers.{header_in, start_after, good_after_lem, salvaging_after, pieces_refused, salvaging_refused}

-- what there is to salvage after a header that ends at a place
pub record After (s : List ℕ) (at : ℕ) : Type 0 where
  pub within : at ≤ length s
  pub good : good_of s ≡ good_after s at
  pub start : start_of (pieces_of s) ≡ at
  pub answer : (space room : ℕ) → salvaging s space room ≡ spaced (length (good_after s at)) (length (entries_from s at)) space room

-- what there is after a header that is refused
pub record Nothing (s : List ℕ) (fault : Fault) : Type 0 where
  pub start : start_of (pieces_of s) ≡ 0
  pub answer : (space room : ℕ) → salvaging s space room ≡ Refused (number_of fault.refusal) fault.place

module _ (s : List ℕ) (a : Result Header Fault) (e : header_answer a ≡ header_at size.largest s 0) where
  pub header_read : (h : Header) → a ≡ Ok h → After s h.length
  header_read h g =
      let f : header_at size.largest s 0 ≡ reading.Given (header_of h.edition h.size) h.length = sym e ∙ ap header_answer g in
      let header = header_of h.edition h.size in
      record {
        within = header_in s header h.length f;
        good = good_after_lem s header h.length f;
        start = start_after s header h.length f;
        answer = salvaging_after s header h.length f;
      }

  pub header_refused : (fault : Fault) → a ≡ Err fault → Nothing s fault
  header_refused fault g =
      let f : header_at size.largest s 0 ≡ reading.Refused (number_of fault.refusal) fault.place = sym e ∙ ap header_answer g in
      record {
        start = ap start_of (pieces_refused s (number_of fault.refusal) fault.place f);
        answer = salvaging_refused s (number_of fault.refusal) fault.place f;
      }
