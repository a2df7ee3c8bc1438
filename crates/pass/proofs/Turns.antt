-- Laws of a loop over events: the events so far, and those that are still to come.
use mathlib.Core.Path.{◌≡◌, refl, sym, ap, ◌∙◌}
use mathlib.Core.Bool.{Bool, true, false}
use mathlib.Core.List.{List, [], ◌∷◌, ◌++◌, append_assoc, append-nil}
use Prim.Native.Nat.{ℕ, zero, suc, ◌-◌, ◌≤◌, ◌<◌}
use native.Mathlib.Numerals.{sub-one}
use native.Mathlib.Omega.{arith}
use Rattle.trace.specs.Reading.{Found, Given, Refused, and_then}
use Rattle.trace.specs.Events.{events_from}

module _ {P L E : Type 0} where
  -- events, and then those that a reading gives
  abbrev pub prefixed : List E → Found P L (List E) → Found P L (List E)
  prefixed es (Given more end) = Given (es ++ more) end
  prefixed es (Refused number place) = Refused number place

  prefixed_none : (x : Found P L (List E)) → x ≡ prefixed [] x
  prefixed_none (Given es end) = refl
  prefixed_none (Refused number place) = refl

  prefixed_more : (es : List E) (e : E) (x : Found P L (List E)) → prefixed es (and_then x (λ more end. Given (e ∷ more) end)) ≡ prefixed (es ++ (e ∷ [])) x
  prefixed_more es e (Given more end) = ap (λ (l : List E). Given l end) (sym (append_assoc es (e ∷ []) more))
  prefixed_more es e (Refused number place) = refl

  -- what is left to read at a position, in steps; where reading has not ended there is something
  module _ (ended : P → Bool) (next : P → Found P L E) (left : P → ℕ) (some : (at : P) → ended at ≡ false → 0 < left at) where
    module _ (at : P) where
      events_end : (steps : ℕ) → ended at ≡ true → events_from ended next steps at ≡ Given [] at
      events_end zero h = refl
      events_end (suc steps) h = rw h

      module _ (h : ended at ≡ false) where
        events_on : (steps : ℕ) → left at ≤ steps → (es : List E) (e : E) (end : P) → next at ≡ Given e end
            → prefixed es (events_from ended next steps at) ≡ prefixed (es ++ (e ∷ [])) (events_from ended next (steps - 1) end)
        events_on zero g es e end f = absurd (omega (arith, some at h))
        events_on (suc steps) g es e end f = rw (h, f, sub-one) (prefixed_more es e (events_from ended next steps end))

        events_refused : (steps : ℕ) → left at ≤ steps → (es : List E) (number : ℕ) (place : L) → next at ≡ Refused number place
            → prefixed es (events_from ended next steps at) ≡ Refused number place
        events_refused zero g es number place f = absurd (omega (arith, some at h))
        events_refused (suc steps) g es number place f = rw (h, f)

    -- what a loop keeps at a position: the events so far and what it holds of them, and that all the events are these and those still to come
    pub record Sofar (all : Found P L (List E)) (at : P) (Holds : List E → Type 0) : Type 0 where
      pub events : List E
      pub steps : ℕ
      pub holds : Holds events
      pub enough : left at ≤ steps
      pub same : all ≡ prefixed events (events_from ended next steps at)

    pub sofar_none : (steps : ℕ) (start : P) (Holds : List E → Type 0) → left start ≤ steps → Holds [] → Sofar (events_from ended next steps start) start Holds
    sofar_none steps start Holds enough holds = record {
      events = [];
      steps = steps;
      holds = holds;
      enough = enough;
      same = prefixed_none (events_from ended next steps start);
    }

    module _ {all : Found P L (List E)} {at : P} {Holds : List E → Type 0} (sofar : Sofar all at Holds) where
      -- one event more, from what an engine promises for one
      pub sofar_more : ended at ≡ false → (e : E) (end : P) → next at ≡ Given e end → left end < left at
          → (Holds₁ : List E → Type 0) → ((es : List E) → Holds es → Holds₁ (es ++ (e ∷ []))) → Sofar all end Holds₁
      sofar_more h e end f less Holds₁ more = record {
        events = sofar.events ++ (e ∷ []);
        steps = sofar.steps - 1;
        holds = more sofar.events sofar.holds;
        enough = omega (arith, sofar.enough);
        same = sofar.same ∙ events_on at h sofar.steps sofar.enough sofar.events e end f;
      }

      -- an event that is refused
      pub sofar_refused : ended at ≡ false → (number : ℕ) (place : L) → next at ≡ Refused number place → all ≡ Refused number place
      sofar_refused h number place f = sofar.same ∙ events_refused at h sofar.steps sofar.enough sofar.events number place f

      -- the end
      pub sofar_end : ended at ≡ true → all ≡ Given sofar.events at
      sofar_end h =
          sofar.same ∙ ap (prefixed sofar.events) (events_end at sofar.steps h)
          ∙ ap (λ (l : List E). Given l at) (append-nil sofar.events)
