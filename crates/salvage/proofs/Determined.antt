-- The promises leave one answer: any two outcomes that a contract allows for the same input coincide.
use mathlib.Core.Path.{◌≡◌, ap, ap₂, ◌∙◌}
use mathlib.Core.List.{List}
use Prim.Native.Nat.{ℕ}
use lib.ListN.{length}
use Rattle.std.proofs.Common.{Result, Ok, Err}
use Rattle.terms.specs.declared.Refusal.{Refusal}
use Rattle.terms.specs.declared.Fault.{Fault}
use Rattle.terms.specs.Refusals.{number_of}
use Rattle.terms.proofs.Refusals.{one_refusal}
use Rattle.terms.proofs.Determined.{one_value}
use Rattle.salvage.specs.declared.Entry.{Entry}
use Rattle.salvage.specs.declared.Salvaged.{Salvaged}
use Rattle.salvage.specs.declared.Unsalvaged.{Unsalvaged}
use Rattle.salvage.specs.declared.Unsalvaged.TheVariants.{Header, Short}
use Rattle.salvage.specs.declared.good.Kept.{Kept}
use Rattle.salvage.specs.declared.listing.Next.{Next}
use Rattle.salvage.specs.Pieces.{pieces_of}
use Rattle.salvage.specs.Good.{good_of}
use Rattle.salvage.specs.Listing.{list_of}
use Rattle.salvage.specs.Answers.{Salvaging, salvaging, salvaged_answer, area_after}
use Rattle.salvage.specs.Steps.{next_from, entries_told, start_of}

one_fault : (f g : Fault) → number_of f.refusal ≡ number_of g.refusal → f.place ≡ g.place → f ≡ g
one_fault f g h i = ap₂ (λ (r : Refusal) (p : ℕ). record { refusal = r; place = p }) (one_refusal f.refusal g.refusal h) i

one_count : (r s : Salvaged) → r.bytes ≡ s.bytes → r.entries ≡ s.entries → r ≡ s
one_count r s h i = ap₂ (λ (b e : ℕ). record { bytes = b; entries = e }) h i

-- an answer's number and values tell the answer
one_salvaged : (x y : Result Salvaged Unsalvaged) → salvaged_answer x ≡ salvaged_answer y → x ≡ y
one_salvaged (Ok r) (Ok s) q = ap Ok (one_count r s (cc) (cc))
one_salvaged (Ok r) (Err (Header f)) q = cc
one_salvaged (Ok r) (Err Short) q = cc
one_salvaged (Err (Header f)) (Ok s) q = cc
one_salvaged (Err (Header f)) (Err (Header g)) q = ap (λ (x : Fault). Err (Header x)) (one_fault f g (cc) (cc))
one_salvaged (Err (Header f)) (Err Short) q = cc
one_salvaged (Err Short) (Ok s) q = cc
one_salvaged (Err Short) (Err (Header g)) q = cc
one_salvaged (Err Short) (Err Short) q = cc

-- ---- the contracts

-- an area that is left by an answer that is promised
one_area : {A : Type 0} (promised : Salvaging) (x y : Result Salvaged Unsalvaged) → salvaged_answer x ≡ promised → salvaged_answer y ≡ promised → (written area t u : List A)
    → t ≡ area_after (salvaged_answer x) written area → u ≡ area_after (salvaged_answer y) written area → t ≡ u
one_area {A} promised x y e f written area t u g h =
    one_value (g ∙ ap (λ (a : Salvaging). area_after a written area) (one_value e f)) h

-- the answer, the output and the list
pub salvage_determined : (s out : List ℕ) (list : List Entry) (x y : Result Salvaged Unsalvaged) (t u : List ℕ) (l m : List Entry)
    → (salvaged_answer x ≡ salvaging s (length out) (length list)) × ((t ≡ area_after (salvaged_answer x) (good_of s) out) × (l ≡ area_after (salvaged_answer x) (list_of s) list))
    → (salvaged_answer y ≡ salvaging s (length out) (length list)) × ((u ≡ area_after (salvaged_answer y) (good_of s) out) × (m ≡ area_after (salvaged_answer y) (list_of s) list))
    → (x ≡ y) × (t ≡ u) × (l ≡ m)
salvage_determined s out list x y t u l m e f = (
  one_salvaged x y (one_value e.0 f.0),
  one_area (salvaging s (length out) (length list)) x y e.0 f.0 (good_of s) out t u e.1.0 f.1.0,
  one_area (salvaging s (length out) (length list)) x y e.0 f.0 (list_of s) list l m e.1.1 f.1.1,
)

-- all but the list
pub keep_bytes_determined : (s out : List ℕ) (room : ℕ) (x y : Kept) (t u : List ℕ)
    → (salvaged_answer x.answer ≡ salvaging s (length out) room) × (t ≡ area_after (salvaged_answer x.answer) (good_of s) out) × (x.start ≡ start_of (pieces_of s)) × (x.entries ≡ entries_told (salvaged_answer x.answer))
    → (salvaged_answer y.answer ≡ salvaging s (length out) room) × (u ≡ area_after (salvaged_answer y.answer) (good_of s) out) × (y.start ≡ start_of (pieces_of s)) × (y.entries ≡ entries_told (salvaged_answer y.answer))
    → (x.answer ≡ y.answer) × (x.start ≡ y.start) × (x.entries ≡ y.entries) × (t ≡ u)
keep_bytes_determined s out room x y t u e f = (
  one_salvaged x.answer y.answer (one_value e.0 f.0),
  one_value e.2 f.2,
  one_value (e.3 ∙ ap entries_told (one_value e.0 f.0)) f.3,
  one_area (salvaging s (length out) room) x.answer y.answer e.0 f.0 (good_of s) out t u e.1 f.1,
)

pub next_entry_determined : (s : List ℕ) (at : ℕ) (x y : Next) → x ≡ next_from s at → y ≡ next_from s at → x ≡ y
next_entry_determined s at x y e f = one_value e f
