-- The places of blocks at each size after one read more, by what it asks for at the largest of the sizes.
use mathlib.Core.Path.{◌≡◌, refl, ◌∙◌}
use mathlib.Core.Bool.{cond}
use mathlib.Core.Logic.{◌≢◌}
use mathlib.Core.List.{List, [], ◌∷◌, ◌++◌}
use Prim.Native.Nat.{ℕ, ◌≤◌, ◌<◌}
use native.Mathlib.Omega.{arith}
use lib.Dec.{leb}
use Rattle.terms.specs.Reads.{Read}
use Rattle.card.specs.Rule.{after_read}
use Rattle.card.specs.Moves.{taken_out, put_in}
use Rattle.card.specs.Run.{block_read, asked, empty, next, run, card_after}
use Rattle.card.specs.Stretches.{places_of}
use Rattle.card.proofs.AfterRead.{place_read, place_other}
use Rattle.card.proofs.Asked.{asked_some, read_upto}
use Rattle.card.proofs.Inclusion.{key_some, length_card, apart_card}

-- one read more
pub run_more : (rs : List Read) (c : List ℕ) (r : Read) → run c (rs ++ (r ∷ [])) ≡ next (run c rs) r
run_more [] c r = refl
run_more (s ∷ rs) c r = run_more rs (next c s) r

module _ (rs : List Read) (r : Read) (n m : ℕ) (h : m ≤ n) where
  card_more : card_after m (rs ++ (r ∷ [])) ≡ after_read (card_after m rs) (block_read r) (asked n r)
  card_more = run_more rs (empty m) r ∙ read_upto (card_after m rs) (block_read r) n (omega (arith, length_card m rs)) r

  -- of the block that is read
  pub places_read : places_of (rs ++ (r ∷ [])) (block_read r) m ≡ cond (leb (asked n r) m) (asked n r) 0
  places_read = rw card_more (place_read (card_after m rs) (block_read r) (asked n r) (key_some r) (asked_some n r) (apart_card m rs) ∙ rw (length_card m rs))

  -- of another block
  pub places_other : (k : ℕ) → 0 < k → k ≢ block_read r
      → places_of (rs ++ (r ∷ [])) k m ≡ put_in (asked n r) m (taken_out (places_of rs (block_read r) m) (places_of rs k m))
  places_other k z other = rw card_more (place_other (card_after m rs) (block_read r) (asked n r) k (asked_some n r) z other ∙ rw (length_card m rs))
