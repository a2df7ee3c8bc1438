-- Where blocks stand after a read, at every size at once: what the crate's own functions promise each other.
use Rattle.std.specs.Prelude.{ℕ, ◌+◌, ◌-◌, ◌≤◌, ◌≡◌, ◌⊎◌, ◌≢◌, cond, ltb, leb, eqb}
use Rattle.card.specs.Falling.{Falling}
use Rattle.card.specs.Moves.{taken_out, put_in}

-- the places of another block after a read: J are those of the block that is read, L the other's
unfoldable pub other_after : (ℕ → ℕ) → ℕ → (ℕ → ℕ) → ℕ → ℕ
other_after J p L m = put_in p m (taken_out (J m) (L m))

-- R is S one place nearer the top of every card that has it, where it is nowhere at the top
abbrev pub Raised : (R S : ℕ → ℕ) → ℕ → Type 0
Raised R S n = (m : ℕ) → m ≤ n → (R m ≡ S m - 1) × (S m ≢ 1)

-- those of the block that was read
unfoldable pub own : ℕ → ℕ → ℕ
own p m = cond (leb p m) p 0

-- the place of another block before a block was put in at p
abbrev pub before_put_in : (p k : ℕ) → ℕ
before_put_in p k = cond (ltb p k) (k - 1) k

-- and before the block at place j, 0 where it was absent, was taken out
abbrev pub before_taken_out : (j x : ℕ) → ℕ
before_taken_out j x = cond (eqb j 0) x (cond (ltb x j) x (x + 1))

-- the old place, in the largest card, of what stands at place k after the read of a block at j
unfoldable pub source_of : (p j k : ℕ) → ℕ
source_of p j k = before_taken_out j (before_put_in p k)

-- the blocks of a card by their places: each one's places at every size, with no block at place 0 or past the last
pub record Family (L : ℕ → ℕ → ℕ) (n : ℕ) : Type 0 where
  pub good : (k : ℕ) → Falling (L k)
  pub none : (m : ℕ) → L 0 m ≡ 0
  pub past : (m : ℕ) → L (n + 1) m ≡ 0
  pub last : (k : ℕ) → (L k n ≡ k) ⊎ ((m : ℕ) → L k m ≡ 0)

-- the places of what stands at place k after the read
unfoldable pub new_of : (ℕ → ℕ) → (p j : ℕ) → (ℕ → ℕ → ℕ) → ℕ → ℕ → ℕ
new_of J p j L k = cond (eqb k p) (own p) (other_after J p (L (source_of p j k)))
