-- What a callee that was lent a part of a slice leaves in the whole.
use mathlib.Core.Path.{◌≡◌, sym, ap, ◌∙◌}
use mathlib.Core.List.{List, ◌++◌}
use Prim.Native.Nat.{ℕ, ◌+◌, ◌-◌, ◌≤◌, ◌<◌}
use native.Mathlib.Omega.{arith}
use lib.ListN.{length, get_or, take, drop, length-append, length-drop, get_or-append}
use lib.Seq.{get_or-append-add, get_or-take, get_or-drop, length-take-le}
use borrow.Rule.Slice.PartMut.{put_mid, mid_of, post_of}
use lib.ListN.{get_or-eq_default}
use Rattle.engine.specs.Rows.{pairs, Row}
use Rattle.engine.specs.Lists.{Holds, Ends}
use Rattle.engine.specs.RowMoves.{InArea}
use Rattle.engine.specs.declared.rows.Span.{Span}
use Rattle.card.proofs.Tests.{by_lt}
use Rattle.engine.proofs.lists.PairFacts.{ends}

-- a row that is lent as the part from a up to e
module _ (xs : List ℕ) (row : Span) {a e : ℕ} (is : (a ≡ row.start) × (e ≡ row.start + row.room)) (fit : InArea row xs) where
  abbrev lent : List ℕ
  lent = mid_of a (e - a) xs

  pub lent_length : length lent ≡ row.room
  lent_length = length-take-le (e - a) (drop a xs) (omega (arith, length-drop a xs)) ∙ omega arith

  pub lent_at : (q : ℕ) → q < row.room → get_or lent q 0 ≡ get_or xs (row.start + q) 0
  lent_at q h = get_or-take (e - a) (drop a xs) q 0 (omega arith) ∙ get_or-drop a xs q 0 ∙ ap (λ (z : ℕ). get_or xs (z + q) 0) is.0

  module _ (R : ℕ → ℕ) (n : ℕ) where
    lent_entry : length (pairs R n) ≤ row.room → (x : ℕ) → (x < row.room → get_or xs (row.start + x) 0 ≡ get_or (pairs R n) x 0) → get_or lent x 0 ≡ get_or (pairs R n) x 0
    lent_entry fits x same =
        by_lt x row.room (λ lt. lent_at x lt ∙ same lt)
        (λ ge. get_or-eq_default lent 0 {n = x} (omega (arith, lent_length)) ∙ sym (get_or-eq_default (pairs R n) 0 {n = x} (omega arith)))

    pub lent_holds : Row xs row (pairs R n) → Holds lent R n
    lent_holds held q = lent_entry held.fits q (held.same q)

    -- that holds a list from q on
    pub lent_ends : (q : ℕ) → length (pairs R n) ≤ row.room → ((x : ℕ) → q ≤ x → x < row.room → get_or xs (row.start + x) 0 ≡ get_or (pairs R n) x 0) → Ends lent q
    lent_ends q fits same = ends lent R n q (λ x h. lent_entry fits x (same x h))

    pub lent_list : Row xs row (pairs R n) → Ends lent 0
    lent_list held = lent_ends 0 held.fits (λ x h. held.same x)

  -- and given back
  module _ (ys : List ℕ) (ey : length ys ≡ length lent) where
    abbrev back : List ℕ
    back = put_mid a (e - a) xs ys

    pub back_within : (q : ℕ) → q < row.room → get_or back (row.start + q) 0 ≡ get_or ys q 0
    back_within q h =
        let head : length (take a xs) ≡ a = length-take-le a xs (omega arith) in
        ap (λ (z : ℕ). get_or back (z + q) 0) (sym is.0 ∙ sym head) ∙ get_or-append-add (take a xs) (ys ++ post_of a (e - a) xs) q 0
        ∙ get_or-append ys (post_of a (e - a) xs) 0 q (omega (arith, lent_length))

    pub back_row : (R : ℕ → ℕ) (n : ℕ) → length (pairs R n) ≤ row.room → Holds ys R n → Row back row (pairs R n)
    back_row R n fits holds = record { fits = fits; same = λ q h. back_within q h ∙ holds q }
