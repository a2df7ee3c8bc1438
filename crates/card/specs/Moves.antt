-- Where another block of a card goes when a block is taken out of it, and when one is put in.
use Rattle.std.specs.Prelude.{ℕ, ◌+◌, ◌-◌, cond, ltb, eqb}

-- the place of another block once the block at place j, 0 where it is absent, has been taken out
abbrev pub taken_out : ℕ → ℕ → ℕ
taken_out j l = cond (eqb j 0) l (cond (ltb j l) (l - 1) l)

-- the place of a block of a card of size m once a block has been put in at p
abbrev pub put_in : (p m l : ℕ) → ℕ
put_in p m l = cond (ltb m p) l (cond (ltb l p) l (cond (ltb l m) (l + 1) 0))
