-- What one read asks of the areas and the sums, and what it makes of them. The counts and the sums may be those of several cards together.
use Rattle.std.specs.Prelude.{ℕ, ◌+◌, ◌^◌, ◌≤◌, ◌<◌, max, ◌≡◌, List, [], ◌∷◌, ◌++◌, length, get_or}
use Rattle.terms.specs.Ranges.{size}
use Rattle.terms.specs.Reads.{Read}
use Rattle.card.specs.Run.{block_read, asked}
use Rattle.card.specs.Stretches.{places_of, total, most_of_one}
use Rattle.counts.specs.Columns.{counts_length}
use Rattle.counts.specs.TallySteps.{ReadTallied}
use Rattle.engine.specs.Rows.{Held, row_length, stretches_length}
use Rattle.engine.specs.Lists.{Holds}
use Rattle.engine.specs.declared.reads.Sums.{Sums}
use Rattle.engine.specs.declared.rows.Changes.{Changes}

-- the two areas of a card have the lengths that its size asks for
pub record CardAreas (n : ℕ) (blocks stretches : List ℕ) : Type 0 where
  pub some : 1 ≤ n
  pub within : n ≤ size.largest
  pub places : length blocks ≡ n
  pub rows : length stretches ≡ stretches_length n

-- the sums have this card's reads in them, and are small enough to add to
pub record Covered (n : ℕ) (rs : List Read) (sums : Sums) : Type 0 where
  pub now_covers : total n rs ≤ sums.now
  pub most_covers : sums.now ≤ sums.most
  pub one_covers : most_of_one n rs ≤ sums.one
  pub low : sums.now < 2 ^ 62

-- the areas hold some reads, and the sums have them in them
pub record Underway (n : ℕ) (blocks stretches : List ℕ) (sums : Sums) : Type 0 where
  pub rs : List Read
  pub held : Held n rs blocks stretches
  pub covered : Covered n rs sums

-- the place of a block in the largest card, and a list that holds its stretches
pub record FoundAt (n : ℕ) (rs : List Read) (key j : ℕ) (list : List ℕ) : Type 0 where
  pub there : j ≡ places_of rs key n
  pub listed : Holds list (places_of rs key) n

-- so they are, whatever reads the areas hold
abbrev pub Found : (n key : ℕ) (blocks stretches : List ℕ) (j : ℕ) (list : List ℕ) → Type 0
Found n key blocks stretches j list = (rs : List Read) → Held n rs blocks stretches → FoundAt n rs key j list

-- what it takes to find a block: its key, and a list of zeros with room for every stretch and two zeros more
pub record CanFind (n key : ℕ) (blocks stretches list : List ℕ) : Type 0 where
  pub areas : CardAreas n blocks stretches
  pub keyed : 0 < key
  pub list_wide : row_length n + 2 ≤ length list
  pub blank : (q : ℕ) → get_or list q 0 ≡ 0

-- what it takes to move a block to place p: where it was found, and room for another list
pub record CanMove (n key p j : ℕ) (blocks stretches list scratch : List ℕ) (sums : Sums) : Type 0 where
  pub areas : CardAreas n blocks stretches
  pub keyed : 0 < key
  pub somewhere : 1 ≤ p
  pub list_wide : row_length n + 2 ≤ length list
  pub found : Found n key blocks stretches j list
  pub scratch_wide : row_length n < length scratch
  pub underway : Underway n blocks stretches sums

-- what a read takes
pub record CanRead (n key : ℕ) (blocks stretches counts scratch : List ℕ) (sums : Sums) : Type 0 where
  pub areas : CardAreas n blocks stretches
  pub keyed : 0 < key
  pub scratch_wide : row_length n < length scratch
  pub columns : length counts ≡ counts_length n
  pub low : (x : ℕ) → get_or counts x 0 < 2 ^ 63
  pub underway : Underway n blocks stretches sums

-- the areas hold the reads that they held, and one more, of this block at p
abbrev pub HeldMore : (n key p : ℕ) (blocks stretches blocks' stretches' : List ℕ) → Type 0
HeldMore n key p blocks stretches blocks' stretches' =
    (rs : List Read) (r : Read) → block_read r ≡ key → asked n r ≡ p → Held n rs blocks stretches → Held n (rs ++ (r ∷ [])) blocks' stretches'

-- the tallies get those of one read more, whatever was in them
abbrev pub TalliedMore : (n key p : ℕ) (blocks stretches counts counts' : List ℕ) → Type 0
TalliedMore n key p blocks stretches counts counts' =
    (rs : List Read) → Held n rs blocks stretches → ReadTallied counts counts' (places_of rs key) n p

-- the sums after a read: the total changes as this card's does, and the peaks with it
pub record SumsAfter (n : ℕ) (rs : List Read) (r : Read) (sums sums' : Sums) : Type 0 where
  pub now_is : sums'.now + total n rs ≡ sums.now + total n (rs ++ (r ∷ []))
  pub most_is : sums'.most ≡ max sums.most sums'.now
  pub one_is : sums'.one ≡ max sums.one (most_of_one n (rs ++ (r ∷ [])))

-- so they are after one read more, of this block at p, whatever else is in them
abbrev pub SummedMore : (n key p : ℕ) (blocks stretches : List ℕ) (sums sums' : Sums) → Type 0
SummedMore n key p blocks stretches sums sums' =
    (rs : List Read) (r : Read) → block_read r ≡ key → asked n r ≡ p → Held n rs blocks stretches → Covered n rs sums → SumsAfter n rs r sums sums'

-- the sums after the changes of one card's rows, which is a promise within the crate
pub record ChangesSummed (sums : Sums) (changes : Changes) (sums' : Sums) : Type 0 where
  pub now_is : sums'.now + changes.lost ≡ sums.now + changes.gained
  pub most_is : sums'.most ≡ max sums.most sums'.now
  pub one_is : sums'.one ≡ max sums.one changes.longest
