-- What the two areas of a card hold: nothing before the first read, and one read more after each.
use mathlib.Core.Path.{◌≡◌, refl, sym, ap, subst, ◌∙◌}
use mathlib.Core.List.{List, [], ◌∷◌, ◌++◌}
use Prim.Native.Nat.{ℕ, suc, ◌+◌, ◌<◌}
use native.Mathlib.Omega.{arith}
use lib.ListN.{get_or-replicate}
use Rattle.terms.specs.Areas.{zeros}
use Rattle.terms.specs.Reads.{Read}
use Rattle.terms.proofs.Areas.{zeros_at}
use Rattle.card.specs.Rule.{after_read}
use Rattle.card.specs.Run.{block_read, asked, card_after}
use Rattle.card.proofs.Inclusion.{length_card}
use Rattle.card.proofs.NextPlaces.{run_more}
use Rattle.engine.specs.Rows.{pairs, row_start, row_of, stretches_length, Row, places_at, Held}
use Rattle.engine.specs.Sweeps.{RowsOf}
use Rattle.engine.proofs.lists.PairLists.{pairs_same}
use Rattle.engine.proofs.rows.RowLaws.{row_none}
use Rattle.engine.proofs.reads.Families.{FamilyIs}

places_none : (n i : ℕ) → i < n → (m : ℕ) → places_at [] n i m ≡ 0
places_none n i h m = rw (get_or-replicate {A = ℕ} n i 0 0 h)

pub held_none : (n : ℕ) → Held n [] (zeros n) (zeros (stretches_length n))
held_none n = record {
  card = refl;
  rows = λ i h. row_none (zeros (stretches_length n)) (row_of n (suc i)) n (places_at [] n i) (λ q g. zeros_at (stretches_length n) (row_start n (suc i) + q)) (places_none n i h);
}

-- the card after the read, and for each of its places k the list of what then stands there, which has the places L k
pub held_more : (n : ℕ) (rs : List Read) (r : Read) (blocks area blocks' area' : List ℕ) (L : ℕ → ℕ → ℕ) → Held n rs blocks area
    → blocks' ≡ after_read blocks (block_read r) (asked n r) → FamilyIs n (rs ++ (r ∷ [])) L → RowsOf area' n L
    → Held n (rs ++ (r ∷ [])) blocks' area'
held_more n rs r blocks area blocks' area' L held after stands rows = record {
  card = after ∙ ap (λ (c : List ℕ). after_read c (block_read r) (asked n r)) held.card ∙ ap (λ (m : ℕ). after_read (card_after n rs) (block_read r) (asked m r)) (sym (length_card n rs)) ∙ sym (run_more rs _ r);
  rows = λ i h. new_row i h;
}
  where
    new_row : (i : ℕ) → i < n → Row area' (row_of n (suc i)) (pairs (places_at (rs ++ (r ∷ [])) n i) n)
    new_row i h =
        subst (λ (list : List ℕ). Row area' (row_of n (suc i)) list) (pairs_same (L (suc i)) (places_at (rs ++ (r ∷ [])) n i) n (stands (suc i) (omega arith) (omega arith)))
        (rows (suc i) (omega arith) (omega arith))
