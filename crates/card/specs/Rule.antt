-- The card rule. A card of size m is the list of its m places from the top, each 0 where it is empty, else the key of the block there.
use Rattle.std.specs.Prelude.{ℕ, zero, suc, ◌+◌, ◌-◌, ◌*◌, cond, List, [], ◌∷◌, ◌++◌, ltb, leb, eqb, length, get_or, take, drop}
use Rattle.terms.specs.Ranges.{block}

-- the key of a block: its volume and its number together, and never 0
unfoldable pub key_of : ℕ → ℕ → ℕ
key_of v b = v * suc block.largest + b + 1

-- one place lower, where there is a place
abbrev pub one_lower : ℕ → ℕ
one_lower zero = zero
one_lower (suc j) = suc (suc j)

-- the place of a block: 1 is the top, and 0 says that it is not there
abbrev pub place : List ℕ → ℕ → ℕ
place [] x = 0
place (y ∷ ys) x = cond (eqb y x) 1 (one_lower (place ys x))

-- x comes to place a; places a to e - 1 shift one lower, and what was at e leaves
abbrev pub lowered : List ℕ → (a e x : ℕ) → List ℕ
lowered c a e x = take (a - 1) c ++ (x ∷ (take (e - a) (drop (a - 1) c) ++ drop e c))

-- what was at place a leaves; places a + 1 to e shift one higher, and x comes to place e
abbrev pub raised : List ℕ → (a e x : ℕ) → List ℕ
raised c a e x = take (a - 1) c ++ (take (e - a) (drop a c) ++ (x ∷ drop e c))

-- the outcome of a read on a card of size m, for a block at place j and a priority p:
-- 0 up, 1 same, 2 down, 3 hit bypass, 4 insert, 5 miss bypass
unfoldable pub outcome : (m j p : ℕ) → ℕ
outcome m j p =
    cond (eqb j 0)
    (cond (leb p m) 4 5)
    (cond (ltb p j) 0 (cond (eqb p j) 1 (cond (leb p m) 2 3)))

-- the effects of the six outcomes in their order, for a block with key x at place j and a priority p
abbrev pub effects : List ℕ → (x j p : ℕ) → List (List ℕ)
effects c x j p =
    -- up: block to p; places p to j - 1 shift one lower
    lowered c p j x
    -- same: nothing
    ∷ c
    -- down: block to p; places j + 1 to p shift one higher
    ∷ raised c j p x
    -- hit bypass: block leaves; places j + 1 to m shift one higher; m is empty
    ∷ raised c j (length c) 0
    -- insert: block to p; places p to m - 1 shift one lower; what was at m leaves
    ∷ lowered c p (length c) x
    -- miss bypass: nothing
    ∷ c
    ∷ []

-- the card after a read of the block with key x, said to be at place j; a card that has no such place stays as it is
unfoldable pub moved_from : List ℕ → (x j p : ℕ) → List ℕ
moved_from c x j p = cond (leb j (length c)) (get_or (effects c x j p) (outcome (length c) j p) c) c

-- the outcome of a read of the block with key x
abbrev pub outcome_on : List ℕ → (x p : ℕ) → ℕ
outcome_on c x p = outcome (length c) (place c x) p

-- the card after it
unfoldable pub after_read : List ℕ → (x p : ℕ) → List ℕ
after_read c x p = get_or (effects c x (place c x) p) (outcome_on c x p) c
