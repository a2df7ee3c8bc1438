-- Whole traces: the bytes of an accepted trace are the spelling of what was read, so no other bytes read as the same; and a trace that is spelled reads back.
use mathlib.Core.Path.{◌≡◌, refl, sym, ap, subst, ◌∙◌}
use mathlib.Core.List.{List, [], ◌∷◌, ◌++◌}
use Prim.Native.Nat.{ℕ, zero, suc, ◌+◌, ◌≤◌, ◌<◌}
use native.Mathlib.Omega.{arith}
use lib.ListN.{length, drop, length-drop, length-append, drop_of_length-le}
use lib.Dec.{leb}
use borrow.Author.Tests.{le-leb, lt-leb, leb-true}
use Rattle.terms.specs.Reads.{Read, ReadOk, ReadsOk}
use Rattle.trace.specs.Reading.{Reading, Given, Refused, Header, header_at, record_at}
use Rattle.trace.specs.Spelling.{spellings, header_values, read_values, records_spelling, trace_spelling, Bytes}
use Rattle.trace.specs.Bounds.{number_limit}
use Rattle.trace.specs.Trace.{reads_from, Trace, trace_of}
use Rattle.trace.proofs.spelling.Laws.{read_values_length, spelling_short}
use Rattle.trace.proofs.Ends.{Within, header_within, record_within}
use Rattle.trace.proofs.OneSpelling.{Spells, Gives, gives_cond, gives_then, HeaderOk, header_spelled, record_spelled}
use Rattle.trace.proofs.RoundTrip.{drop_past, header_back, record_back}

-- what was read, with where it ends
module _ {A : Type 0} where
  abbrev Ended : (from room : ℕ) → (A → ℕ → Type 0) → A → ℕ → Type 0
  Ended from room P x end = (from < end) × (end ≤ room) × P x end

  gives_ended : (from room : ℕ) (P : A → ℕ → Type 0) (r : Reading A) → Within from room r → Gives P r → Gives (Ended from room P) r
  gives_ended from room P (Given x end) w h = (w.0, w.1, h)
  gives_ended from room P (Refused number place) w h = tt

-- ---- records to the end

-- from a place to the end of the bytes stand the records of reads
abbrev Recorded : List ℕ → ℕ → List Read → ℕ → Type 0
Recorded s at rs end = (end ≡ length s) × (drop at s ≡ records_spelling rs) × ReadsOk rs

recorded_none : (s : List ℕ) (at : ℕ) → at ≤ length s → length s ≤ at → Recorded s at [] at
recorded_none s at h g = (omega arith, drop_of_length-le s g, tt)

recorded_more : (s : List ℕ) (at end : ℕ) (r : Read) (rs : List Read) (at₁ : ℕ) → Spells s at at₁ (read_values r) → ReadOk r → Recorded s at₁ rs end → Recorded s at (r ∷ rs) end
recorded_more s at end r rs at₁ h ok g = (g.0, h.1 ∙ ap (λ (l : List ℕ). spellings (read_values r) ++ l) g.1, (ok, g.2))

reads_recorded : (steps : ℕ) (s : List ℕ) → Bytes s → (at : ℕ) → at ≤ length s → length s ≤ at + steps → Gives (Recorded s at) (reads_from steps s at)
unfolding reads_from
reads_recorded zero s y at h g = recorded_none s at h (omega arith)
reads_recorded (suc steps) s y at h g =
    gives_cond (Recorded s at) (leb (length s) at) (Given [] at) _
    (λ e. recorded_none s at h (leb-true (length s) at e))
    (λ e. gives_then (Ended at (length s) (λ r end. Spells s at end (read_values r) × ReadOk r)) (Recorded s at) (record_at s at) _
    (gives_ended at (length s) _ (record_at s at) (record_within s at h) (record_spelled s y at))
    (λ r at₁ p. gives_then (Recorded s at₁) (Recorded s at) (reads_from steps s at₁) _ (reads_recorded steps s y at₁ p.1 (omega arith))
    (λ rs end q. recorded_more s at end r rs at₁ p.2.0 p.2.1 q)))

record_length : (r : Read) (rs : List Read)
    → (length (records_spelling (r ∷ rs)) ≡ length (spellings (read_values r)) + length (records_spelling rs)) × (1 ≤ length (spellings (read_values r)))
record_length r rs = (
  length-append (spellings (read_values r)) (records_spelling rs),
  omega (arith, read_values_length r, spelling_short r.volume),
)

reads_back : (rs : List Read) (steps : ℕ) (s : List ℕ) (at : ℕ) → ReadsOk rs → at ≤ length s → length s ≤ at + steps → drop at s ≡ records_spelling rs
    → reads_from steps s at ≡ Given rs (length s)
unfolding reads_from
reads_back [] zero s at ok h g e = ap (Given []) (omega arith)
reads_back [] (suc steps) s at ok h g e =
    let past : length s ≤ at = omega (arith, length-drop at s, ap length e) in
    rw (le-leb (length s) at past) (ap (Given []) (omega arith))
reads_back (r ∷ rs) zero s at ok h g e = absurd (omega (arith, record_length r rs, length-drop at s, ap length e))
reads_back (r ∷ rs) (suc steps) s at ok h g e =
    let long = record_length r rs in
    let room : at + length (spellings (read_values r)) ≤ length s = omega (arith, long, length-drop at s, ap length e) in
    rw (lt-leb (length s) at (omega (arith, long, length-drop at s, ap length e)), record_back s at r (records_spelling rs) ok.0 e)
    (rw (reads_back rs steps s (at + length (spellings (read_values r))) ok.1 room (omega (arith, long)) (drop_past s at (spellings (read_values r)) (records_spelling rs) e)))

-- ---- the trace

pub trace_spelled : (largest : ℕ) (s : List ℕ) → Bytes s
    → Gives (λ t end. (end ≡ length s) × (s ≡ trace_spelling t.header t.reads) × HeaderOk largest t.header × ReadsOk t.reads) (trace_of largest s)
unfolding trace_of
trace_spelled largest s y =
    gives_then (Ended 0 (length s) (λ h end. Spells s 0 end (header_values h) × HeaderOk largest h)) _ (header_at largest s 0) _
    (gives_ended 0 (length s) _ (header_at largest s 0) (header_within largest s 0 (omega arith)) (header_spelled largest s y 0))
    (λ h at p. gives_then (Recorded s at) _ (reads_from (length s) s at) _ (reads_recorded (length s) s y at p.1 (omega arith))
    (λ rs end q. (q.0, p.2.0.1 ∙ ap (λ (l : List ℕ). spellings (header_values h) ++ l) q.1, p.2.1, q.2)))

-- the bytes of an accepted trace are the spelling of what was read
pub accepted_is_spelled : (largest : ℕ) (s : List ℕ) → Bytes s → (t : Trace) (end : ℕ) → trace_of largest s ≡ Given t end → s ≡ trace_spelling t.header t.reads
accepted_is_spelled largest s y t end e = (subst (Gives _) e (trace_spelled largest s y)).1

-- two different strings of bytes never read as the same header and reads
pub one_trace : (largest largest' : ℕ) (s s' : List ℕ) → Bytes s → Bytes s' → (t : Trace) (end end' : ℕ)
    → trace_of largest s ≡ Given t end → trace_of largest' s' ≡ Given t end' → s ≡ s'
one_trace largest largest' s s' y y' t end end' e e' = accepted_is_spelled largest s y t end e ∙ sym (accepted_is_spelled largest' s' y' t end' e')

-- a trace that is spelled reads back
pub trace_back : (largest : ℕ) (h : Header) (rs : List Read) → largest < number_limit → HeaderOk largest h → ReadsOk rs
    → trace_of largest (trace_spelling h rs) ≡ Given (record { header = h; reads = rs }) (length (trace_spelling h rs))
unfolding trace_of
trace_back largest h rs low ok oks =
    let long = length-append (spellings (header_values h)) (records_spelling rs) in
    rw (header_back largest (trace_spelling h rs) 0 h (records_spelling rs) low ok refl)
    (rw (reads_back rs (length (trace_spelling h rs)) (trace_spelling h rs) (0 + length (spellings (header_values h))) oks (omega (arith, long)) (omega arith) (drop_past (trace_spelling h rs) 0 (spellings (header_values h)) (records_spelling rs) refl)))
