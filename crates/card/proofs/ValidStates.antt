-- A valid state stays valid, and the state that steps reach from the empty one is the run's.
use mathlib.Core.Path.{◌≡◌, refl, sym, ap, subst, ◌∙◌}
use mathlib.Core.Logic.{◌≢◌}
use mathlib.Core.Bool.{Bool, true, false, cond}
use mathlib.Core.List.{List, [], ◌∷◌, ◌++◌, map}
use Prim.Native.Nat.{ℕ, zero, suc, ◌+◌, ◌≤◌, ◌<◌}
use native.Mathlib.Nat.{mul-le-mul_right}
use native.Mathlib.Omega.{arith}
use lib.Dec.{eqb}
use lib.ListN.{length, take, drop, take-append-drop, length-append, length-replicate, replicate-append-replicate}
use lib.Seq.{drop_at, take_at, length-take-le}
use borrow.Author.Tests.{le-leb, eqb-true, ne_eqb}
use Rattle.std.specs.List.{list_all}
use Rattle.std.proofs.lemmas.List.Folds.{list_all-append}
use Rattle.terms.specs.Reads.{Read, read_of, ReadOk, ReadsOk}
use Rattle.terms.specs.Ranges.{in_range, size, volume, block, priority}
use Rattle.card.specs.Rule.{key_of, place, one_lower, outcome_on, after_read}
use Rattle.card.specs.Run.{block_read, asked, empty, next, run, card_after, outcomes}
use Rattle.card.specs.State.{is_empty, is_key, largest_key, apart, is_state, Answer, Outcome, Stepped, step_of, stepping, refusing}
use Rattle.terms.proofs.Ranges.{and_both, bounds}
use Rattle.card.proofs.Tests.{by_eq, tests, both_and}
use Rattle.card.proofs.AfterRead.{length_after, apart_after, all_after, all_take}
use Rattle.card.proofs.Asked.{asked_some, length_next}
use Rattle.card.proofs.Inclusion.{key_some, apart_card}

-- ---- a card and the empty places after it

all_append : (test : ℕ → Bool) (c es : List ℕ) → list_all test c ≡ true → list_all test es ≡ true → list_all test (c ++ es) ≡ true
all_append test c es h g = rw (list_all-append test c es, h, g)

all_drop : (test : ℕ → Bool) (n : ℕ) (c : List ℕ) → list_all test c ≡ true → list_all test (drop n c) ≡ true
all_drop test zero c h = h
all_drop test (suc n) [] h = refl
all_drop test (suc n) (y ∷ ys) h = all_drop test n ys (and_both (test y) (list_all test ys) h).1

all_empty : (test : ℕ → Bool) → test 0 ≡ true → (n : ℕ) → list_all test (empty n) ≡ true
all_empty test h zero = refl
all_empty test h (suc n) = both_and (test 0) (list_all test (empty n)) h (all_empty test h n)

empty_key : is_key 0 ≡ true
empty_key = le-leb 0 largest_key (omega arith)

-- no block stands in empty places
place_past : (c es : List ℕ) (x : ℕ) → x ≢ 0 → list_all is_empty es ≡ true → place (c ++ es) x ≡ place c x
place_past [] [] x n h = refl
place_past [] (e ∷ es) x n h =
    let (a, b) = and_both (is_empty e) (list_all is_empty es) h in
    let f : e ≡ 0 = eqb-true e 0 a in
    let d : e ≢ x = λ g. n (sym g ∙ f) in
    rw (ne_eqb e x d, place_past [] es x n b)
place_past (y ∷ ys) es x n h = ap (λ (j : ℕ). cond (eqb y x) 1 (one_lower j)) (place_past ys es x n h)

apart_past : (c es : List ℕ) → list_all is_empty es ≡ true → apart (c ++ es) ≡ apart c
apart_past [] [] h = refl
apart_past [] (e ∷ es) h =
    let (a, b) = and_both (is_empty e) (list_all is_empty es) h in
    rw (a, apart_past [] es b)
apart_past (y ∷ ys) es h =
    by_eq y 0
    (λ e. simp tests (apart_past ys es h))
    (λ e. rw (place_past ys es y e h, apart_past ys es h))

-- ---- a valid state stays valid

-- what a state is, in parts
record Valid (m : ℕ) (places : List ℕ) : Type 0 where
  ranged : in_range size m ≡ true
  past : list_all is_empty (drop m places) ≡ true
  keys : list_all is_key places ≡ true
  once : apart places ≡ true

valid_of : (m : ℕ) (places : List ℕ) → is_state m places ≡ true → Valid m places
unfolding is_state
valid_of m places h =
    let (a, b) = and_both (in_range size m) _ h in
    let (c, d) = and_both (list_all is_empty (drop m places)) _ b in
    let (e, f) = and_both (list_all is_key places) (apart places) d in
    record { ranged = a; past = c; keys = e; once = f }

of_valid : (m : ℕ) (places : List ℕ) → Valid m places → is_state m places ≡ true
unfolding is_state
of_valid m places v = rw (v.ranged, v.past, v.keys, v.once)

-- a volume and a block in their ranges make a key
key_most : (v b : ℕ) → v ≤ volume.largest → b ≤ block.largest → key_of v b ≤ largest_key
unfolding largest_key key_of
key_most v b h g = omega (arith, mul-le-mul_right (suc block.largest) h)

key_valid : (v b : ℕ) → in_range volume v ≡ true → b ≤ block.largest → is_key (key_of v b) ≡ true
key_valid v b h g = le-leb (key_of v b) largest_key (key_most v b (bounds volume v h).1 g)

module _ (m : ℕ) (places : List ℕ) (room : m ≤ length places) (ok : Valid m places) (x p : ℕ) (z : 0 < x) (one : 1 ≤ p) (k : is_key x ≡ true) where
  front : apart (take m places) ≡ true
  front = sym (apart_past (take m places) (drop m places) ok.past) ∙ ap apart (take-append-drop m places) ∙ ok.once

  after_past : drop m (after_read (take m places) x p ++ drop m places) ≡ drop m places
  after_past = drop_at (after_read (take m places) x p) (drop m places) m (length_after (take m places) x p one ∙ length-take-le m places room)

  all_past : list_all is_key (drop m places) ≡ true
  all_past = all_drop is_key m places ok.keys

  valid_after : Valid m (after_read (take m places) x p ++ drop m places)
  valid_after = record {
    ranged = ok.ranged;
    past = rw after_past ok.past;
    keys = all_append is_key (after_read (take m places) x p) (drop m places) (all_after is_key (take m places) x p one empty_key k (all_take is_key m places ok.keys)) all_past;
    once = apart_past (after_read (take m places) x p) (drop m places) ok.past ∙ apart_after (take m places) x p z one front;
  }

-- whatever a step answers, a valid state is followed by one of the same size
pub state_stays : (m : ℕ) (places : List ℕ) (v b p : ℕ) → m ≤ length places → b ≤ block.largest → is_state m places ≡ true
    → is_state (step_of m places v b p).size (step_of m places v b p).places ≡ true
unfolding step_of
state_stays m places v b p room low ok = rw ok (go (in_range volume v) (in_range priority p) refl)
  where
    go : (t u : Bool) → in_range volume v ≡ t → is_state (cond t (cond u (stepping m places (block_read (read_of v b p)) (asked m (read_of v b p))) (refusing priority.refusal m places)) (refusing volume.refusal m places)).size (cond t (cond u (stepping m places (block_read (read_of v b p)) (asked m (read_of v b p))) (refusing priority.refusal m places)) (refusing volume.refusal m places)).places ≡ true
    go true true e =
        of_valid m (after_read (take m places) (key_of v b) (asked m (read_of v b p)) ++ drop m places)
        (valid_after m places room (valid_of m places ok) (key_of v b) (asked m (read_of v b p)) (key_some (read_of v b p)) (asked_some m (read_of v b p)) (key_valid v b e low))
    go true false e = ok
    go false u e = ok

-- ---- steps from the empty state

-- the step of a read
abbrev step_for : ℕ → List ℕ → Read → Stepped
step_for m places r = step_of m places r.volume r.block r.priority

-- the places after steps
abbrev pub steps : ℕ → List ℕ → List Read → List ℕ
steps m places [] = places
steps m places (r ∷ rs) = steps m (step_for m places r).places rs

-- what they answered in turn
abbrev pub answers : ℕ → List ℕ → List Read → List Answer
answers m places [] = []
answers m places (r ∷ rs) = (step_for m places r).answer ∷ answers m (step_for m places r).places rs

module _ (m k : ℕ) where
  step_next : (c : List ℕ) (r : Read) → length c ≡ m → Valid m (c ++ empty k) → ReadOk r
      → step_for m (c ++ empty k) r ≡ record { answer = Outcome (outcome_on c (block_read r) (asked (length c) r)); size = m; places = next c r ++ empty k }
  unfolding step_of
  step_next c r e v ok = rw (of_valid m (c ++ empty k) v, ok.0, ok.2, take_at c (empty k) m e, drop_at c (empty k) m e, e)

  steps_from : (rs : List Read) (c : List ℕ) → length c ≡ m → Valid m (c ++ empty k) → ReadsOk rs
      → (steps m (c ++ empty k) rs ≡ run c rs ++ empty k) × (answers m (c ++ empty k) rs ≡ map Outcome (outcomes c rs))
  steps_from [] c e v ok = (refl, refl)
  steps_from (r ∷ rs) c e v ok =
      let here = step_next c r e v ok.0 in
      let more = steps_from rs (next c r) (length_next c r ∙ e) (subst (Valid m) (whole c r e) (valid_after m (c ++ empty k) (omega (arith, length-append c (empty k))) v (block_read r) (asked (length c) r) (key_some r) (asked_some (length c) r) (key_valid r.volume r.block ok.0.0 (bounds block r.block ok.0.1).1))) ok.1 in
      (ap (λ (s : Stepped). steps m s.places rs) here ∙ more.0, ap (λ (s : Stepped). s.answer ∷ answers m s.places rs) here ∙ ap (λ (l : List Answer). Outcome (outcome_on c (block_read r) (asked (length c) r)) ∷ l) more.1)
    where
      whole : (c : List ℕ) (r : Read) → length c ≡ m → after_read (take m (c ++ empty k)) (block_read r) (asked (length c) r) ++ drop m (c ++ empty k) ≡ next c r ++ empty k
      whole c r e = rw (take_at c (empty k) m e, drop_at c (empty k) m e)

  module _ (h : in_range size m ≡ true) (rs : List Read) (ok : ReadsOk rs) where
    from_empty : (steps m (empty m ++ empty k) rs ≡ card_after m rs ++ empty k) × (answers m (empty m ++ empty k) rs ≡ map Outcome (outcomes (empty m) rs))
    from_empty = steps_from rs (empty m) (length-replicate m 0) start ok
      where
        start : Valid m (empty m ++ empty k)
        start = record {
          ranged = h;
          past = rw (drop_at (empty m) (empty k) m (length-replicate m 0)) (all_empty is_empty refl k);
          keys = all_append is_key (empty m) (empty k) (all_empty is_key empty_key m) (all_empty is_key empty_key k);
          once = apart_past (empty m) (empty k) (all_empty is_empty refl k) ∙ apart_card m [];
        }

    -- the state that steps reach from the empty one is the run's card, with empty places after it
    pub steps_run : steps m (empty (m + k)) rs ≡ card_after m rs ++ empty k
    steps_run = ap (λ (l : List ℕ). steps m l rs) (sym (replicate-append-replicate m k 0)) ∙ from_empty.0

    -- and they answer the run's outcomes
    pub steps_answer : answers m (empty (m + k)) rs ≡ map Outcome (outcomes (empty m) rs)
    steps_answer = ap (λ (l : List ℕ). answers m l rs) (sym (replicate-append-replicate m k 0)) ∙ from_empty.1
