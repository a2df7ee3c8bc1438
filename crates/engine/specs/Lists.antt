-- What the functions on lists of stretches promise each other. R m is a block's place at size m, 0 where it is absent.
use Rattle.std.specs.Prelude.{◌≡◌, cond, List, ℕ, suc, ◌+◌, ◌≤◌, ◌<◌, eqb, get_or, length}
use Rattle.card.specs.Falling.{Falling}
use Rattle.engine.specs.Moves.{other_after}
use Rattle.engine.specs.Rows.{pairs}
use Rattle.engine.specs.declared.lists.Cursor.{Cursor}

-- a slice holds the stretches of R, and zeros from there on
abbrev pub Holds : List ℕ → (ℕ → ℕ) → ℕ → Type 0
Holds xs R n = (q : ℕ) → get_or xs q 0 ≡ get_or (pairs R n) q 0

-- a slice begins with the stretches of R, and a zero after them: what comes then is not said
abbrev pub Begins : List ℕ → (ℕ → ℕ) → ℕ → Type 0
Begins xs R n = (q : ℕ) → q ≤ length (pairs R n) → get_or xs q 0 ≡ get_or (pairs R n) q 0

-- after the first zero, from q on, are only zeros
abbrev pub Ends : List ℕ → ℕ → Type 0
Ends xs q = (x y : ℕ) → q ≤ x → x ≤ y → get_or xs x 0 ≡ 0 → get_or xs y 0 ≡ 0

-- the first size of the stretch at entry i, past every size up to n where there is none
unfoldable pub next_size : List ℕ → (n i : ℕ) → ℕ
next_size xs n i = cond (eqb (get_or xs i 0) 0) (n + 1) (get_or xs i 0)

-- the first i entries are those of sizes 1 to t, v is the place at t, and x the first size of the next stretch
pub record At (R : ℕ → ℕ) (n t i v x : ℕ) : Type 0 where
  pub passed : i ≡ length (pairs R t)
  pub place : v ≡ R t
  pub next : x ≡ next_size (pairs R n) n i

-- a cursor is at size t of the list of R
abbrev pub CursorAt : (R : ℕ → ℕ) (n t : ℕ) → Cursor → Type 0
CursorAt R n t cursor = At R n t cursor.passed cursor.place cursor.next

-- a cursor goes over a list, and sizes up to n
pub record Over (list : List ℕ) (n : ℕ) (cursor : Cursor) : Type 0 where
  pub same : cursor.list.now ≡ list
  pub sizes : cursor.n ≡ n

-- whatever list it is: the cursor goes from any size to its next one
abbrev pub GoesOn : (list : List ℕ) (n : ℕ) (cursor next : Cursor) → Type 0
GoesOn list n cursor next =
    (R : ℕ → ℕ) (t : ℕ) → Falling R → Begins list R n → t ≤ n → cursor.next ≤ n → CursorAt R n t cursor → CursorAt R n cursor.next next

-- it goes from the size before s to s
abbrev pub GoesTo : (list : List ℕ) (n s : ℕ) (cursor next : Cursor) → Type 0
GoesTo list n s cursor next =
    (R : ℕ → ℕ) (t : ℕ) → Falling R → Begins list R n → s ≡ suc t → s ≤ n → CursorAt R n t cursor → CursorAt R n s next

-- R is one and the same from size s to e
abbrev pub Level : (ℕ → ℕ) → ℕ → ℕ → Type 0
Level R s e = (m : ℕ) → s ≤ m → m ≤ e → R m ≡ R s

-- the first q elements are the stretches of R over sizes 1 to t
pub record ListedUpTo (out : List ℕ) (q : ℕ) (R : ℕ → ℕ) (t : ℕ) : Type 0 where
  pub count : q ≡ length (pairs R t)
  pub same : (x : ℕ) → x < q → get_or out x 0 ≡ get_or (pairs R t) x 0

-- the first q elements become the first x, with size s, where the place is r and was last at the size before
abbrev pub ListedNext : (entry exit : List ℕ) (q x s r last : ℕ) → Type 0
ListedNext entry exit q x s r last =
    (R : ℕ → ℕ) (t : ℕ) → s ≡ suc t → r ≡ R s → last ≡ R t → length (pairs R s) ≤ length entry
    → ListedUpTo entry q R t → ListedUpTo exit x R s

-- the lists of the block read and of another give the other's list after the read, in room for it that holds a list or zeros, and how many entries it has
abbrev pub MergedInto : (list other entry exit : List ℕ) (p n x : ℕ) → Type 0
MergedInto list other entry exit p n x =
    (J L : ℕ → ℕ) → Falling J → Falling L → Begins list J n → Begins other L n → Ends entry 0 → length (pairs (other_after J p L) n) ≤ length entry
    → (x ≡ length (pairs (other_after J p L) n)) × Holds exit (other_after J p L) n
