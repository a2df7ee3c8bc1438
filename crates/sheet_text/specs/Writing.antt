-- What the methods that put bytes into a text promise each other.
use Rattle.std.specs.Prelude.{ℕ, ◌+◌, ◌≡◌, ◌^◌, ◌<◌, List, [], ◌∷◌, length, set}
use Rattle.sheet_text.specs.declared.text.Text.{Text}

-- bytes put into a text from a place on; what does not fit is left out
unfoldable pub put_from : (text : List ℕ) (at : ℕ) (bytes : List ℕ) → List ℕ
put_from text at [] = text
put_from text at (b ∷ bs) = put_from (set text at b) (at + 1) bs

-- the bytes are put in from a place on, and the next place is after all of them
pub record Wrote (entry exit : List ℕ) (at end : ℕ) (bytes : List ℕ) : Type 0 where
  pub text : exit ≡ put_from entry at bytes
  pub place : end ≡ at + length bytes

-- a text takes bytes after those that were put into it, and stays in the same lent bytes
pub record Takes (before after : Text) (bytes : List ℕ) : Type 0 where
  pub wrote : Wrote before.bytes.now after.bytes.now before.length after.length bytes
  pub same : after.bytes.ghost_name ≡ before.bytes.ghost_name

-- a text can count so many bytes more
abbrev pub CanCount : Text → ℕ → Type 0
CanCount text more = text.length + more < 2 ^ 64
