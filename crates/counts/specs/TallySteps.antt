-- What the functions of the tallies ask for and promise each other: where a tally begins to count, and what is added to the area.
use Rattle.std.specs.Prelude.{ℕ, ◌+◌, ◌-◌, ◌^◌, ◌≤◌, ◌<◌, ◌≡◌, cond, List, ltb, leb, length, get_or, set}
use Rattle.counts.specs.Columns.{columns, counts_length, cell_of}
use Rattle.counts.specs.Tallies.{Tallies, is_outcome}
use Rattle.counts.specs.declared.tallies.Part.{Part}
use Rattle.counts.specs.declared.tallies.Part.TheVariants.{UpAfterInsert, Same, Down, HitBypass, Insert, UpAfterBypass}

-- ---- one read

-- an area with the tallies of sizes 1 to n, each with room for some ones more
pub record HasRoom (counts : List ℕ) (n more : ℕ) : Type 0 where
  pub long : counts_length n ≤ length counts
  pub low : (x : ℕ) → get_or counts x 0 + more < 2 ^ 64

-- the column of a part's tally
abbrev pub column_of : Part → ℕ
column_of UpAfterInsert = 0
column_of Same = 1
column_of Down = 2
column_of HitBypass = 3
column_of Insert = 4
column_of UpAfterBypass = 5

-- there is room for one more in a tally of a size
pub record BumpReady (counts : List ℕ) (n m : ℕ) : Type 0 where
  pub some : 1 ≤ m
  pub room : HasRoom counts n 1

-- there is room for the four ones of a read, wherever they fall
pub record ReadReady (counts : List ℕ) (n first p : ℕ) : Type 0 where
  pub some : 1 ≤ first
  pub least : 1 ≤ p
  pub room : HasRoom counts n 4

-- one more in tally k of size m, where m is a size
unfoldable pub bumped : List ℕ → (n k m : ℕ) → List ℕ
bumped counts n k m = cond (leb m n) (set counts (cell_of (m - 1) k) (get_or counts (cell_of (m - 1) k) 0 + 1)) counts

-- the two tallies that the first size of a block and the priority give, whichever comes first
unfoldable pub begun : List ℕ → (n first p : ℕ) → List ℕ
begun counts n first p =
    cond (ltb p first) (bumped (bumped counts n 4 p) n 0 first) (bumped (bumped counts n 3 first) n 5 p)

-- no tally has gained more than so many
abbrev pub GrownBy : (k : ℕ) (entry exit : List ℕ) → Type 0
GrownBy k entry exit = (x : ℕ) → get_or exit x 0 ≤ get_or entry x 0 + k

-- the block is present at a place up to `most` from a size on, and at no size before
pub record PresentFrom (J : ℕ → ℕ) (n most first : ℕ) : Type 0 where
  pub before : (m : ℕ) → m ≤ n → m < first → J m ≤ most → J m ≡ 0
  pub after : (m : ℕ) → m ≤ n → first ≤ m → (0 < J m) × (J m ≤ most)

-- where the parts of a read's outcomes begin: the sizes that have the block, those that have it no lower than p, and those that have it above p
pub record PartsBegin (J : ℕ → ℕ) (n p first reached above : ℕ) : Type 0 where
  pub most : ℕ
  pub wide : n ≤ most
  pub present : PresentFrom J n most first
  pub reaches : PresentFrom J n p reached
  pub rises : PresentFrom J n (p - 1) above

-- what one read with priority p of the block with these places adds, whatever was counted before
abbrev pub ReadTallied : (entry exit : List ℕ) (J : ℕ → ℕ) (n p : ℕ) → Type 0
ReadTallied entry exit J n p =
    (reads : ℕ) (c : ℕ → ℕ → ℕ) → Tallies n reads c entry
    → Tallies n (reads + 1) (λ m o. c m o + is_outcome o m (J m) p) exit

-- ---- the counts of one size

-- the sums can take in the tallies of one size more
pub record AddReady (sums tallies : List ℕ) : Type 0 where
  pub there : columns ≤ length tallies
  pub fits : (k : ℕ) → k < columns → get_or sums k 0 + get_or tallies k 0 < 2 ^ 64

-- and have taken them in
abbrev pub Added : (entry exit tallies : List ℕ) → Type 0
Added entry exit tallies = (k : ℕ) → k < columns → get_or exit k 0 ≡ get_or entry k 0 + get_or tallies k 0

-- ---- the counts of all sizes

-- an area of just the tallies of sizes 1 to n, which give some counts
pub record FinishReady (counts : List ℕ) (n reads : ℕ) : Type 0 where
  pub long : length counts ≡ counts_length n
  pub given : ℕ → ℕ → ℕ
  pub gives : Tallies n reads given counts
