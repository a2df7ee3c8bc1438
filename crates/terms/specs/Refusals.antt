-- The table of refusals.
use Rattle.std.specs.Prelude.{ℕ}
use Rattle.terms.specs.declared.Refusal.{Refusal}
use Rattle.terms.specs.declared.Refusal.TheVariants.{Cut, Form, Edition, Size, Volume, Priority, Room, Space, State, Large, Ratio}

-- the number of a refusal
abbrev pub number_of : Refusal → ℕ
number_of Cut = 1
number_of Form = 2
number_of Edition = 3
number_of Size = 4
number_of Volume = 5
number_of Priority = 6
number_of Room = 7
number_of Space = 8
number_of State = 9
number_of Large = 10
number_of Ratio = 11
