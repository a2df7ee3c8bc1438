-- What a salvage answers, and what it leaves in the output and in the list.
use Rattle.std.specs.Prelude.{ℕ, Result, Ok, Err, cond, ◌&&◌, List, length, leb}
use Rattle.terms.specs.declared.Refusal.TheVariants.{Space}
use Rattle.terms.specs.Refusals.{number_of}
use Rattle.terms.specs.Areas.{fronted}
use Rattle.trace.specs.Reading as reading
use Rattle.trace.specs.Reading.{Reading}
use Rattle.salvage.specs.Pieces.{Piece, pieces_of}
use Rattle.salvage.specs.Good.{good_of}
use Rattle.salvage.specs.Listing.{list_of}
use Rattle.salvage.specs.declared.Entry.{Entry}
use Rattle.salvage.specs.declared.Salvaged.{Salvaged}
use Rattle.salvage.specs.declared.Unsalvaged.{Unsalvaged}
use Rattle.salvage.specs.declared.Unsalvaged.TheVariants.{Header, Short}

-- the bytes and the entries written; or the refusal's number, with its place if it has one
pub data Salvaging : Type 0 where
  Done : (bytes entries : ℕ) → Salvaging
  Refused : (number place : ℕ) → Salvaging
  Unplaced : (number : ℕ) → Salvaging

-- so many bytes and entries, where there is space for so many
abbrev pub spaced : (bytes entries space room : ℕ) → Salvaging
spaced bytes entries space room = cond (leb bytes space && leb entries room) (Done bytes entries) (Unplaced (number_of Space))

-- the header comes before the space
abbrev pub salvaging_from : Reading (List Piece) → Salvaging → Salvaging
salvaging_from (reading.Given pieces at) answer = answer
salvaging_from (reading.Refused number place) answer = Refused number place

-- the answer for an output of so many bytes and a list of so many entries
unfoldable pub salvaging : List ℕ → (space room : ℕ) → Salvaging
salvaging s space room = salvaging_from (pieces_of s) (spaced (length (good_of s)) (length (list_of s)) space room)

module _ {A : Type 0} where
  -- the output or the list after the answer: what lies beyond what is written keeps its values, and a refusal changes nothing
  abbrev pub area_after : Salvaging → List A → List A → List A
  area_after (Done bytes entries) written area = fronted written area
  area_after (Refused number place) written area = area
  area_after (Unplaced number) written area = area

-- the output after a salvage whose list has room for so many entries
abbrev pub good_left : List ℕ → (out : List ℕ) (room : ℕ) → List ℕ
good_left s out room = area_after (salvaging s (length out) room) (good_of s) out

-- the list after a salvage whose output has space for so many bytes
abbrev pub list_left : List ℕ → (space : ℕ) (list : List Entry) → List Entry
list_left s space list = area_after (salvaging s space (length list)) (list_of s) list

-- what an answer of the code says, in the table's numbers
abbrev pub salvaged_answer : Result Salvaged Unsalvaged → Salvaging
salvaged_answer (Ok salvaged) = Done salvaged.bytes salvaged.entries
salvaged_answer (Err (Header fault)) = Refused (number_of fault.refusal) fault.place
salvaged_answer (Err Short) = Unplaced (number_of Space)
