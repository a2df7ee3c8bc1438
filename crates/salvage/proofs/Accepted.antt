-- The good trace is accepted, with the kept reads; a good trace is handed back as it is.
use mathlib.Core.Path.{◌≡◌, refl, ap, ap₂, subst, ◌∙◌}
use mathlib.Core.List.{List, [], ◌∷◌, ◌++◌}
use mathlib.Core.Bool.{Bool, true, false, cond}
use Prim.Native.Nat.{ℕ, zero, suc, ◌-◌}
use native.Mathlib.Omega.{arith}
use lib.ListN.{length, take, drop, take-append-drop}
use lib.Seq.{take_at}
use Rattle.terms.specs.Ranges.{size}
use Rattle.terms.specs.Reads.{Read, ReadsOk}
use Rattle.trace.specs.Reading.{Reading, Given, Refused, and_then, Header, header_at, record_at, formed_at}
use Rattle.trace.specs.Spelling.{spellings, header_values, read_values, records_spelling, trace_spelling, Bytes}
use Rattle.trace.specs.Trace.{at_end, reads_from, Trace, trace_of}
use Rattle.trace.proofs.Ranged.{ranges_low}
use Rattle.trace.proofs.OneSpelling.{Spells, Gives, gives_then, HeaderOk, header_spelled, record_spelled}
use Rattle.trace.proofs.WholeTrace.{trace_back}
use Rattle.salvage.specs.Pieces.{Piece, form_end, sorted, piece_at, pieces_in, pieces_from}
use Rattle.salvage.specs.Good.{kept_bytes, kept_reads, good_of}
use Rattle.salvage.specs.Listing.{entries_of, list_of}
use Rattle.salvage.specs.Steps.{kept_from, good_after, entries_from}
use Rattle.salvage.proofs.Onward.{by_pieces}
use Rattle.salvage.proofs.Covers.{tiles, tiles_cover, none_listed}
use Rattle.salvage.proofs.Headers.{header_in, good_after_lem, list_after_header}

-- ---- the good trace is the spelling of the header and the kept reads

-- the bytes between two places where values are spelled are their spelling
spelled_part : (s : List ℕ) (at end : ℕ) (values : List ℕ) → Spells s at end values → take (end - at) (drop at s) ≡ spellings values
spelled_part s at end values h =
    ap (take (end - at)) h.1 ∙ take_at (spellings values) (drop end s) (end - at) (omega (arith, h.0))

-- what is kept of pieces is spelled, and their reads are in range
abbrev KeptSpelled : List ℕ → List Piece → Type 0
KeptSpelled s pieces = (kept_bytes s pieces ≡ records_spelling (kept_reads pieces)) × ReadsOk (kept_reads pieces)

kept_spelled : (s : List ℕ) → Bytes s → (at : ℕ) → KeptSpelled s (pieces_from s at)
unfolding piece_at
kept_spelled s y = by_pieces s (λ at pieces. KeptSpelled s pieces) (λ at past. (refl, tt)) (λ at l ih. go at (record_at s at) refl ih)
  where
    go : (at : ℕ) (r : Reading Read) → record_at s at ≡ r
        → KeptSpelled s (pieces_from s (sorted at r (form_end (length s) (formed_at s at))).end)
        → KeptSpelled s (sorted at r (form_end (length s) (formed_at s at)) ∷ pieces_from s (sorted at r (form_end (length s) (formed_at s at))).end)
    go at (Given r end) e ih =
        let spelled = subst (Gives (λ r end. Spells s at end (read_values r) × _)) e (record_spelled s y at) in
        (ap₂ (λ (k m : List ℕ). k ++ m) (spelled_part s at end (read_values r) spelled.0) ih.0, (spelled.1, ih.1))
    go at (Refused number place) e ih = ih

module _ (s : List ℕ) (y : Bytes s) (h : Header) (at : ℕ) (e : header_at size.largest s 0 ≡ Given h at) where
  head_spelled : Spells s 0 at (header_values h) × HeaderOk size.largest h
  head_spelled = subst (Gives _) e (header_spelled size.largest s y 0)

  good_spelled : good_of s ≡ trace_spelling h (kept_reads (pieces_from s at))
  unfolding good_after kept_from
  good_spelled =
      let from_start : at ≡ at - 0 = omega arith in
      good_after_lem s h at e
      ∙ ap₂ (λ (k m : List ℕ). k ++ m) (ap (λ (n : ℕ). take n s) from_start ∙ spelled_part s 0 at (header_values h) head_spelled.0) (kept_spelled s y at).0

  -- the good trace is read as the header and the reads that are kept, in their order
  pub good_accepted : trace_of size.largest (good_of s) ≡ Given (record { header = h; reads = kept_reads (pieces_from s at) }) (length (good_of s))
  good_accepted = rw good_spelled (trace_back size.largest h (kept_reads (pieces_from s at)) ranges_low.1 head_spelled.1 (kept_spelled s y at).1)

-- ---- a good trace

-- where the reads are read to the end, each piece is kept
all_kept : (steps : ℕ) (s : List ℕ) (at : ℕ) → Gives (λ rs end. entries_of (pieces_in steps s at) ≡ []) (reads_from steps s at)
unfolding reads_from piece_at
all_kept zero s at = refl
all_kept (suc steps) s at = go (at_end s at) (record_at s at) (λ at₁. all_kept steps s at₁)
  where
    go : (t : Bool) (r : Reading Read) → ((at₁ : ℕ) → Gives (λ rs end. entries_of (pieces_in steps s at₁) ≡ []) (reads_from steps s at₁))
        → Gives (λ rs end. entries_of (cond t [] (sorted at r (form_end (length s) (formed_at s at)) ∷ pieces_in steps s (sorted at r (form_end (length s) (formed_at s at))).end)) ≡ [])
        (cond t (Given [] at) (and_then r (λ read at₁. and_then (reads_from steps s at₁) (λ rs at₂. Given (read ∷ rs) at₂))))
    go true r ih = refl
    go false (Given r end) ih = gives_then (λ rs end₁. entries_of (pieces_in steps s end) ≡ []) _ (reads_from steps s end) _ (ih end) (λ rs end₁ p. p)
    go false (Refused number place) ih = tt

module _ (s : List ℕ) where
  -- what is read as a trace has no entry
  reads_kept : (at : ℕ) (rs : List Read) (end : ℕ) → reads_from (length s) s at ≡ Given rs end → entries_from s at ≡ []
  unfolding entries_from pieces_from
  reads_kept at rs end f = subst (Gives _) f (all_kept (length s) s at)

  nothing_listed : (h : Header) (at : ℕ) → header_at size.largest s 0 ≡ Given h at → entries_from s at ≡ [] → (good_of s ≡ s) × (list_of s ≡ [])
  unfolding good_after kept_from entries_from
  nothing_listed h at e none = (
    good_after_lem s h at e
        ∙ ap (λ (l : List ℕ). take at s ++ l) (none_listed s (pieces_from s at) none ∙ tiles_cover s at (pieces_from s at) (tiles s at (header_in s h at e)))
        ∙ take-append-drop at s,
    list_after_header s h at e ∙ none,
  )

  -- a good trace is handed back as it is, with no entry
  pub good_as_it_is : (t : Trace) (end : ℕ) → trace_of size.largest s ≡ Given t end → (good_of s ≡ s) × (list_of s ≡ [])
  unfolding trace_of
  good_as_it_is t end = header (header_at size.largest s 0) refl
    where
      records : (h : Header) (at : ℕ) → header_at size.largest s 0 ≡ Given h at → (r : Reading (List Read)) → reads_from (length s) s at ≡ r
          → and_then r (λ rs at₁. Given (record { header = h; reads = rs }) at₁) ≡ Given t end → (good_of s ≡ s) × (list_of s ≡ [])
      records h at e (Given rs end₁) f g = nothing_listed h at e (reads_kept at rs end₁ f)
      records h at e (Refused number place) f g = (cc, cc)

      header : (r : Reading Header) → header_at size.largest s 0 ≡ r
          → and_then r (λ h at. and_then (reads_from (length s) s at) (λ rs at₁. Given (record { header = h; reads = rs }) at₁)) ≡ Given t end → (good_of s ≡ s) × (list_of s ≡ [])
      header (Given h at) e g = records h at e (reads_from (length s) s at) refl g
      header (Refused number place) e g = (cc, cc)

-- salvaging what was salvaged changes nothing
pub salvaged_again : (s : List ℕ) → Bytes s → (h : Header) (at : ℕ) → header_at size.largest s 0 ≡ Given h at → (good_of (good_of s) ≡ good_of s) × (list_of (good_of s) ≡ [])
salvaged_again s y h at e = good_as_it_is (good_of s) _ _ (good_accepted s y h at e)
