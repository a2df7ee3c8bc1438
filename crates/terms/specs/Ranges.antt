-- The ranges of the numbers of a trace. Each bound stands here and nowhere else.
use Rattle.std.specs.Prelude.{ℕ, Bool, ◌&&◌, leb}
use Rattle.terms.specs.declared.Refusal.{Refusal}
use Rattle.terms.specs.declared.range.Range.{Range}
use Rattle.terms.specs.declared.Refusal.TheVariants.{Form, Edition, Size, Volume, Priority}

-- from the least to the largest, both included
abbrev pub in_range : Range → ℕ → Bool
in_range range value = leb range.least value && leb value range.largest

-- the range up to another largest value
abbrev pub up_to : Range → ℕ → Range
up_to range most = record { least = range.least; largest = most; refusal = range.refusal }

-- the edition of a trace
unfoldable pub edition : Range
edition = record { least = 1; largest = 1; refusal = Edition }

-- the size of a card, from 1 to a largest one
abbrev pub size_up_to : ℕ → Range
size_up_to most = record { least = 1; largest = most; refusal = Size }

-- the size of a card, up to the library's largest
unfoldable pub size : Range
size = size_up_to 127

-- the volume of a block, from 0 to a largest one
abbrev pub volume_up_to : ℕ → Range
volume_up_to most = record { least = 0; largest = most; refusal = Volume }

-- the volume of a block
unfoldable pub volume : Range
volume = volume_up_to 65535

-- the number of a block on its volume: each number is one, and a larger one has no spelling
unfoldable pub block : Range
block = record { least = 0; largest = 4294967295; refusal = Form }

-- the priority of a read, from 0, that of a read without a hint, to a largest one
abbrev pub priority_up_to : ℕ → Range
priority_up_to most = record { least = 0; largest = most; refusal = Priority }

-- the priority of a read
unfoldable pub priority : Range
priority = priority_up_to 16383
