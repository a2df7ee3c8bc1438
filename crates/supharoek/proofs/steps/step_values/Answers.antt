-- `supharoek::steps::step_values`: the step is the card's, on the first of the places.
use mathlib.Core.Path.{◌≡◌, refl, sym, ap, ◌∙◌}
use mathlib.Core.Bool.{Bool, true, false, cond}
use Rattle.std.proofs.Common.{Err}
use Rattle.terms.specs.declared.Refusal.{Refusal}
use Rattle.terms.specs.declared.Refusal.TheVariants.{State}
use mathlib.Core.List.{List, ◌++◌}
use Prim.Native.Nat.{ℕ}
use borrow.Author.Rules.{rules}
use borrow.Author.Tests.{le-leb}
use lib.ListN.{length, drop}
use Rattle.std.specs.Array.{IsFirstChunk}
use Rattle.terms.specs.Ranges.{in_range, size, volume, priority}
use Rattle.card.specs.State as state
use Rattle.card.specs.State.{is_state, refusing, step_of}
use Rattle.card.specs.Answers.{answer_of, stepped_answer}
use Rattle.card.specs.declared.step.Stepped.{Stepped}
use Rattle.supharoek.specs.Told.{places_lent, step_told, step_call, places_after}
use Rattle.supharoek.proofs.steps.step_values.Goals as goal

-- what is told, and the places left
called : (m : ℕ) (places first : List ℕ) (v b p : ℕ) (s : Stepped) → IsFirstChunk places first places_lent → stepped_answer s ≡ step_of m first v b p
    → (step_told (answer_of s.answer) ≡ step_call m places v b p) × (s.card.places ++ drop places_lent places ≡ places_after m places v b p)
unfolding step_call places_after
called m places first v b p s chunk e = rw (le-leb places_lent (length places) chunk.enough, ← chunk.same, ← e) (refl, refl)

-- a refused step leaves the places as they were given, whichever test refuses it
stays_by : (t u w : Bool) (x y z : Refusal) (m : ℕ) (first : List ℕ) (done : state.Stepped) (n : ℕ) → done.answer ≡ state.Outcome n → (s : Stepped)
    → stepped_answer s ≡ cond t (cond u (cond w done (refusing x m first)) (refusing y m first)) (refusing z m first) → (r : Refusal) → s.answer ≡ Err r → first ≡ s.card.places
stays_by true true true x y z m first done n o s e r g = cc
stays_by true true false x y z m first done n o s e r g = sym (ap (λ (q : state.Stepped). q.places) e)
stays_by true false w x y z m first done n o s e r g = sym (ap (λ (q : state.Stepped). q.places) e)
stays_by false u w x y z m first done n o s e r g = sym (ap (λ (q : state.Stepped). q.places) e)

stays : (m : ℕ) (first : List ℕ) (v b p : ℕ) (s : Stepped) → stepped_answer s ≡ step_of m first v b p → (r : Refusal) → s.answer ≡ Err r → first ≡ s.card.places
unfolding step_of
stays m first v b p s e = stays_by (is_state m first) (in_range volume v) (in_range priority p) priority.refusal volume.refusal State m first _ _ refl s e

pub returns-in_err-outcome-clause-told : goal.returns-in_err-outcome-clause-told
unfolding size
returns-in_err-outcome-clause-told c =
    let s = (called _ _ _ _ _ _ _ c.in-Some.ensures.cases c.step-stepped.ensures).0 in search rules

pub returns-in_err-outcome-clause-places : goal.returns-in_err-outcome-clause-places
unfolding size
returns-in_err-outcome-clause-places c =
    ap (λ (first : List ℕ). first ++ drop places_lent c.args.places.now) (stays _ _ _ _ _ _ c.step-stepped.ensures c.in_err-outcome.field-0.0 c.in_err-outcome.was)
    ∙ (called _ _ _ _ _ _ _ c.in-Some.ensures.cases c.step-stepped.ensures).1

pub returns-clause-told : goal.returns-clause-told
unfolding size
returns-clause-told c =
    let s = (called _ _ _ _ _ _ _ c.in-Some.ensures.cases c.step-stepped.ensures).0 in search rules

pub returns-clause-places : goal.returns-clause-places
unfolding size
returns-clause-places c = (called _ _ _ _ _ _ _ c.in-Some.ensures.cases c.step-stepped.ensures).1
