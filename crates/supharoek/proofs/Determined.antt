-- The promises of the calls leave one answer, and one content for everything that is lent: any two outcomes that a contract allows coincide.
use mathlib.Core.Path.{◌≡◌}
use mathlib.Core.List.{List}
use Prim.Native.Nat.{ℕ}
use lib.Ieee.{Float}
use lib.ListN.{length}
use Rattle.terms.specs.Ranges.{size}
use Rattle.terms.specs.Reads.{Read}
use Rattle.terms.proofs.Determined.{one_value}
use Rattle.trace.specs.Reading.{Header, header_at, placed_at}
use Rattle.trace.specs.Writing.{header_writing, record_writing, header_buffer, record_buffer}
use Rattle.card.specs.Counts.{counting_of, counts_after}
use Rattle.card.specs.Ratio.{ratio_of}
use Rattle.salvage.specs.declared.Entry.{Entry}
use Rattle.salvage.specs.Answers.{salvaging, good_left, list_left}
use Rattle.sizes.specs.Outcome.{Areas, run_of}
use Rattle.sizes.specs.Answers.{AreasAre}
use Rattle.sizes.proofs.RanFacts.{areas_determined}
use Rattle.supharoek.specs.Told.{Told, Tells, header_told, record_told, writing_told, salvage_told, run_told, count_told, step_call, places_after}
use Rattle.supharoek.specs.Ratios.{ratio_number, ratio_after}

-- ---- what every call tells

-- the answer, and the caller's numbers
pub told_determined : (t : Told) (r r' : ℕ) (out last last' : List ℕ) → Tells t r out last → Tells t r' out last' → (r ≡ r') × (last ≡ last')
told_determined t r r' out last last' e f = (one_value e.0 f.0, one_value e.1 f.1)

-- the same, and one more slice that is lent
lent_determined : (t : Told) (left : List ℕ) (r r' : ℕ) (out last last' lent lent' : List ℕ)
    → Tells t r out last × (lent ≡ left) → Tells t r' out last' × (lent' ≡ left) → ((r ≡ r') × (last ≡ last')) × (lent ≡ lent')
lent_determined t left r r' out last last' lent lent' e f = (told_determined t r r' out last last' e.0 f.0, one_value e.1 f.1)

-- ---- each call

module _ (r r' : ℕ) (out last last' : List ℕ) where
  pub read_header_determined : (trace : List ℕ) → Tells (header_told (header_at size.largest trace 0)) r out last → Tells (header_told (header_at size.largest trace 0)) r' out last' → (r ≡ r') × (last ≡ last')
  read_header_determined trace = told_determined (header_told (header_at size.largest trace 0)) r r' out last last'

  pub read_record_determined : (part : List ℕ) → Tells (record_told (placed_at part 0)) r out last → Tells (record_told (placed_at part 0)) r' out last' → (r ≡ r') × (last ≡ last')
  read_record_determined part = told_determined (record_told (placed_at part 0)) r r' out last last'

  -- the salvage, its output and its list
  pub salvage_determined : (trace good : List ℕ) (entries : List Entry) (lent lent' : List ℕ) (list list' : List Entry)
      → Tells (salvage_told (salvaging trace (length good) (length entries))) r out last × ((lent ≡ good_left trace good (length entries)) × (list ≡ list_left trace (length good) entries))
      → Tells (salvage_told (salvaging trace (length good) (length entries))) r' out last' × ((lent' ≡ good_left trace good (length entries)) × (list' ≡ list_left trace (length good) entries))
      → ((r ≡ r') × (last ≡ last')) × ((lent ≡ lent') × (list ≡ list'))
  salvage_determined trace good entries lent lent' list list' e f =
      (told_determined (salvage_told (salvaging trace (length good) (length entries))) r r' out last last' e.0 f.0, (one_value e.1.0 f.1.0, one_value e.1.1 f.1.1))

  module _ (lent lent' : List ℕ) where
    -- the writers and their buffer
    pub write_header_determined : (h : Header) (buffer : List ℕ) (at : ℕ)
        → Tells (writing_told (header_writing h (length buffer) at)) r out last × (lent ≡ header_buffer h buffer at)
        → Tells (writing_told (header_writing h (length buffer) at)) r' out last' × (lent' ≡ header_buffer h buffer at)
        → ((r ≡ r') × (last ≡ last')) × (lent ≡ lent')
    write_header_determined h buffer at = lent_determined (writing_told (header_writing h (length buffer) at)) (header_buffer h buffer at) r r' out last last' lent lent'

    pub write_record_determined : (read : Read) (buffer : List ℕ) (at : ℕ)
        → Tells (writing_told (record_writing read (length buffer) at)) r out last × (lent ≡ record_buffer read buffer at)
        → Tells (writing_told (record_writing read (length buffer) at)) r' out last' × (lent' ≡ record_buffer read buffer at)
        → ((r ≡ r') × (last ≡ last')) × (lent ≡ lent')
    write_record_determined read buffer at = lent_determined (writing_told (record_writing read (length buffer) at)) (record_buffer read buffer at) r r' out last last' lent lent'

    -- the step and its places
    pub step_determined : (size : ℕ) (places : List ℕ) (v b p : ℕ)
        → Tells (step_call size places v b p) r out last × (lent ≡ places_after size places v b p)
        → Tells (step_call size places v b p) r' out last' × (lent' ≡ places_after size places v b p)
        → ((r ≡ r') × (last ≡ last')) × (lent ≡ lent')
    step_determined size places v b p = lent_determined (step_call size places v b p) (places_after size places v b p) r r' out last last' lent lent'

    -- an outcome counted, and the counts
    pub count_determined : (o : ℕ) (counts : List ℕ)
        → Tells (count_told (counting_of o counts)) r out last × (lent ≡ counts_after o counts)
        → Tells (count_told (counting_of o counts)) r' out last' × (lent' ≡ counts_after o counts)
        → ((r ≡ r') × (last ≡ last')) × (lent ≡ lent')
    count_determined o counts = lent_determined (count_told (counting_of o counts)) (counts_after o counts) r r' out last last' lent lent'

  -- the run and its three areas
  pub run_determined : (bytes : List ℕ) (areas : Areas) (b s c b' s' c' : List ℕ)
      → Tells (run_told (run_of bytes areas).answer) r out last × AreasAre (run_of bytes areas).areas b s c
      → Tells (run_told (run_of bytes areas).answer) r' out last' × AreasAre (run_of bytes areas).areas b' s' c'
      → ((r ≡ r') × (last ≡ last')) × ((b ≡ b') × (s ≡ s') × (c ≡ c'))
  run_determined bytes areas b s c b' s' c' e f = (told_determined (run_told (run_of bytes areas).answer) r r' out last last' e.0 f.0, areas_determined (run_of bytes areas).areas b s c b' s' c' e.1 f.1)

-- the miss ratio and the caller's number
pub ratio_determined : (misses reads r r' : ℕ) (before after after' : Float)
    → (r ≡ ratio_number (ratio_of misses reads)) × (after ≡ ratio_after (ratio_of misses reads) before)
    → (r' ≡ ratio_number (ratio_of misses reads)) × (after' ≡ ratio_after (ratio_of misses reads) before)
    → (r ≡ r') × (after ≡ after')
ratio_determined misses reads r r' before after after' e f = (one_value e.0 f.0, one_value e.1 f.1)
