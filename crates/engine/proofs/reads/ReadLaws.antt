-- One read on the areas: what is found of its block, and what the move of the block leaves.
use mathlib.Core.Path.{◌≡◌, sym, ap, subst, ◌∙◌}
use mathlib.Core.List.{List, [], ◌∷◌, ◌++◌}
use Prim.Native.Nat.{ℕ, zero, suc, ◌+◌, ◌≤◌, ◌<◌, max}
use native.Mathlib.Omega.{arith}
use lib.ListN.{length}
use Rattle.terms.specs.Reads.{Read}
use Rattle.card.specs.Rule.{place, moved_from}
use Rattle.card.specs.Run.{block_read, asked}
use Rattle.card.specs.Stretches.{places_of}
use Rattle.card.specs.Falling.{Falling}
use Rattle.card.proofs.OutcomeCases.{read_past, moved_read}
use Rattle.card.proofs.StretchBounds.{places_fall}
use Rattle.counts.specs.TallySteps.{ReadTallied}
use Rattle.engine.specs.Moves.{new_of}
use Rattle.engine.specs.Lists.{Holds}
use Rattle.engine.specs.Rows.{pairs, row_of, Row, Held}
use Rattle.engine.specs.RowMoves.{Loaded}
use Rattle.engine.specs.Sweeps.{RowsOf, FoundInRows, RowsRenewed, TotalChanged, LongestMade}
use Rattle.engine.specs.OneRead.{Covered, FoundAt, SumsAfter, ChangesSummed}
use Rattle.engine.specs.declared.reads.Sums.{Sums}
use Rattle.engine.specs.declared.rows.Changes.{Changes}
use Rattle.engine.proofs.lists.PairLists.{pairs_same}
use Rattle.engine.proofs.sweeps.Clamps.{bypassed}
use Rattle.engine.proofs.reads.Families.{family, family_is, FamilyIs}
use Rattle.engine.proofs.reads.Families.{family_at}
use Rattle.engine.proofs.NewPlaces.{new_places}
use Rattle.engine.proofs.reads.NewTotals.{one_bounds, lost_low, sums_after, still_after}
use Rattle.engine.proofs.HeldReads.{held_more}

module _ (n key : ℕ) (rs : List Read) (blocks area : List ℕ) (some : 0 < key) (held : Held n rs blocks area) where
  abbrev J : ℕ → ℕ
  J = places_of rs key

  falls : Falling J
  falls = places_fall rs key some

  -- the place of the block in the largest card
  pub place_there : place blocks key ≡ J n
  place_there = ap (λ (c : List ℕ). place c key) held.card

  -- the rows hold the lists of the family
  pub family_rows : RowsOf area n (family rs n)
  family_rows zero a b = absurd (omega arith)
  family_rows (suc i) a b = held.rows i (omega arith)

  -- the family at the place of the block is the block's
  own_family : 0 < J n → (m : ℕ) → family rs n (J n) m ≡ J m
  own_family h m = family_at rs n key (λ z. omega arith) h m

  -- and its row the block's list
  own_row : 0 < J n → Row area (row_of n (J n)) (pairs J n)
  own_row h =
      subst (λ (list : List ℕ). Row area (row_of n (J n)) list) (pairs_same (family rs n (J n)) J n (λ m a. own_family h m))
      (family_rows (J n) h (falls.fits n))

  -- what is found
  pub found_at : (j : ℕ) (list : List ℕ) → j ≡ place blocks key → Loaded area list n j → FoundAt n rs key j list
  found_at j list here loaded =
      let there = here ∙ place_there in
      record {
        there = there;
        listed = loaded J falls (λ e. sym there ∙ e) (λ h. rw there (own_row (rw there at h)));
      }

  -- and what the rows are told of it
  pub found_rows : (j : ℕ) (list : List ℕ) → FoundAt n rs key j list → FoundInRows list area n j J (family rs n)
  found_rows j list found = record {
    falling = falls;
    family = family_is rs n;
    there = found.there;
    same = λ h m. ap (λ (k : ℕ). family rs n k m) found.there ∙ own_family (omega (arith, found.there)) m;
    listed = found.listed;
    rows = family_rows;
  }

-- the tallies after a read of what was found
pub tallied_found : (n key p q j : ℕ) (rs : List Read) (list counts counts' : List ℕ) → 0 < key → FoundAt n rs key j list
    → ((J : ℕ → ℕ) → Falling J → Holds list J n → ReadTallied counts counts' J n p) → p ≡ q → ReadTallied counts counts' (places_of rs key) n q
tallied_found n key p q j rs list counts counts' some found tallied e =
    subst (λ (x : ℕ). ReadTallied counts counts' (places_of rs key) n x) e (tallied (places_of rs key) (places_fall rs key some) found.listed)

-- ---- the ways out of a move, by what its steps promise

module _ (n key p j : ℕ) (blocks area list : List ℕ) (some : 0 < key) (rs : List Read) (held : Held n rs blocks area) (found : FoundAt n rs key j list) where
  -- no more is lost than there was
  pub lost_within : (sums : Sums) (changes : Changes) → Covered n rs sums → TotalChanged list area n p j changes → changes.lost ≤ sums.now + changes.gained
  lost_within sums changes covered total =
      lost_low n rs sums covered changes (new_of (places_of rs key) p j (family rs n)) (total _ _ (found_rows n key rs blocks area some held j list found))

  module _ (r : Read) (ek : block_read r ≡ key) (ep : asked n r ≡ p) where
    -- the places after the read
    moved_family : FamilyIs n (rs ++ (r ∷ [])) (new_of (places_of rs key) p j (family rs n))
    moved_family zero a b m h = absurd (omega arith)
    moved_family (suc i) a b m h = rw (found.there, ← ek, ← ep) (new_places rs r n i (omega arith) m h)

    pub held_moved : (blocks' area' : List ℕ) → 1 ≤ p → blocks' ≡ moved_from blocks key j (max 1 p) → RowsRenewed list area area' n p j
        → Held n (rs ++ (r ∷ [])) blocks' area'
    held_moved blocks' area' one moved renewed =
        let same : max 1 p ≡ p = omega arith in
        let here = found.there ∙ sym (place_there n key rs blocks area some held) in
        held_more n rs r blocks area blocks' area' _ held
        (moved ∙ rw (same, ek, ep) (moved_read blocks key j p here))
        moved_family
        (renewed _ _ (found_rows n key rs blocks area some held j list found))

    pub summed_moved : (sums sums' : Sums) (changes : Changes) → TotalChanged list area n p j changes → LongestMade list area n p j changes
        → ChangesSummed sums changes sums' → Covered n rs sums → SumsAfter n rs r sums sums'
    summed_moved sums sums' changes total longest summed covered =
        let rows = found_rows n key rs blocks area some held j list found in
        sums_after n rs sums covered changes (new_of (places_of rs key) p j (family rs n)) (total _ _ rows) r moved_family
        (longest _ _ rows sums.one (one_bounds n rs sums covered)) sums' summed

    -- a read whose block is in no card and is put in none moves nothing
    module _ (past : n < p) (none : j ≡ 0) where
      still_family : FamilyIs n (rs ++ (r ∷ [])) (family rs n)
      still_family k a b m h =
          sym (bypassed (places_of rs key) j (family rs n) n k m b h p past none found.there (places_fall rs key some)) ∙ moved_family k a b m h

      pub held_still : length blocks ≡ n → Held n (rs ++ (r ∷ [])) blocks area
      held_still size =
          let absent = place_there n key rs blocks area some held ∙ sym found.there ∙ none in
          held_more n rs r blocks area blocks area (family rs n) held
          (rw (ek, ep) (read_past blocks key p absent (omega arith)))
          still_family
          (family_rows n key rs blocks area some held)

      pub summed_still : (sums : Sums) → Covered n rs sums → SumsAfter n rs r sums sums
      summed_still sums covered = still_after n rs sums covered r still_family
