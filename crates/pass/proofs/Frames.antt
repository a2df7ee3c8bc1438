-- The ways out of a run, whatever it reads: done means accepted, accepted means done, and what a refusal leaves.
use mathlib.Core.Path.{◌≡◌, refl, ap, ◌∙◌}
use mathlib.Core.Logic.{◌⊎◌, inl, inr}
use mathlib.Core.List.{List}
use Prim.Native.Nat.{ℕ}
use native.Mathlib.Omega.{arith}
use Rattle.terms.proofs.Determined.{one_value}
use Rattle.trace.specs.Reading.{Found, Given, Refused}
use Rattle.pass.specs.Outcome as outcome
use Rattle.pass.specs.Outcome.{Answer, Outcome, Done, done, refused}
use Rattle.pass.specs.Frame.{Gate, Open, Shut, Frame, ended, entered, headed, ran}

module _ {P L H E T A : Type 0} (frame : Frame P L H E T A) (areas : A) where
  -- what was read of a run that is done
  pub record Accepted (told : T) : Type 0 where
    pub header : H
    pub start : P
    pub is_header : frame.header ≡ Given header start
    pub is_open : frame.gate header areas ≡ Open
    pub events : List E
    pub end : P
    pub are_events : frame.events header start ≡ Given events end
    pub is_told : told ≡ frame.told header events
    pub is_left : (ran frame areas).areas ≡ frame.left header events areas

  -- ---- each way out

  pub header_refused : (number : ℕ) (place : L) → frame.header ≡ Refused number place → ran frame areas ≡ refused number place areas
  unfolding ran
  header_refused number place e = ap (headed frame areas) e

  module _ (h : H) (at : P) (e : frame.header ≡ Given h at) where
    gated : (g : Gate L) → frame.gate h areas ≡ g → ran frame areas ≡ entered frame areas h at g
    unfolding ran
    gated g f = ap (headed frame areas) e ∙ ap (entered frame areas h at) f

    pub gate_shut : (number : ℕ) (place : L) → frame.gate h areas ≡ Shut number place → ran frame areas ≡ refused number place areas
    gate_shut number place f = gated (Shut number place) f

    module _ (f : frame.gate h areas ≡ Open) where
      pub after_events : (x : Found P L (List E)) → frame.events h at ≡ x → ran frame areas ≡ ended frame areas h x
      after_events x g = gated Open f ∙ ap (ended frame areas h) g

      pub event_refused : (number : ℕ) (place : L) → frame.events h at ≡ Refused number place → ran frame areas ≡ refused number place (frame.cleared h areas)
      event_refused number place g = after_events (Refused number place) g

      -- accepted means done
      pub accepted_done : (es : List E) (end : P) → frame.events h at ≡ Given es end → ran frame areas ≡ done (frame.told h es) (frame.left h es areas)
      accepted_done es end g = after_events (Given es end) g

  -- ---- done means accepted

  module _ (told : T) where
    abbrev Tells : Outcome T L A → Type 0
    Tells o = o.answer ≡ Done told

    by_events : (h : H) (at : P) → frame.header ≡ Given h at → frame.gate h areas ≡ Open
        → (x : Found P L (List E)) → frame.events h at ≡ x → Tells (ended frame areas h x) → Accepted told
    by_events h at e f (Given es end) g d = record {
      header = h;
      start = at;
      is_header = e;
      is_open = f;
      events = es;
      end = end;
      are_events = g;
      is_told = cc;
      is_left = ap (λ (o : Outcome T L A). o.areas) (accepted_done h at e f es end g);
    }
    by_events h at e f (Refused number place) g d = let z : ◌≡◌ {A = ℕ} 0 1 = cc in absurd (omega arith)

    by_gate : (h : H) (at : P) → frame.header ≡ Given h at → (g : Gate L) → frame.gate h areas ≡ g → Tells (entered frame areas h at g) → Accepted told
    by_gate h at e Open f d = by_events h at e f (frame.events h at) refl d
    by_gate h at e (Shut number place) f d = let z : ◌≡◌ {A = ℕ} 0 1 = cc in absurd (omega arith)

    by_header : (x : Found P L H) → frame.header ≡ x → Tells (headed frame areas x) → Accepted told
    by_header (Given h at) e d = by_gate h at e (frame.gate h areas) refl d
    by_header (Refused number place) e d = let z : ◌≡◌ {A = ℕ} 0 1 = cc in absurd (omega arith)

    pub done_accepted : (ran frame areas).answer ≡ Done told → Accepted told
    unfolding ran
    done_accepted d = by_header frame.header refl d

  -- ---- what a refusal leaves

  -- the areas as they were, or cleared for the header that was read
  abbrev pub Leaves : A → Type 0
  Leaves after = (after ≡ areas) ⊎ ((h : H) × (at : P) × (frame.header ≡ Given h at) × (frame.gate h areas ≡ Open) × (after ≡ frame.cleared h areas))

  module _ (number : ℕ) (place : L) where
    abbrev Refuses : Outcome T L A → Type 0
    Refuses o = o.answer ≡ outcome.Refused number place

    events_leave : (h : H) (at : P) → frame.header ≡ Given h at → frame.gate h areas ≡ Open
        → (x : Found P L (List E)) → Refuses (ended frame areas h x) → Leaves (ended frame areas h x).areas
    events_leave h at e f (Given es end) d = let z : ◌≡◌ {A = ℕ} 0 1 = cc in absurd (omega arith)
    events_leave h at e f (Refused n q) d = inr (h, at, e, f, refl)

    gate_leaves : (h : H) (at : P) → frame.header ≡ Given h at → (g : Gate L) → frame.gate h areas ≡ g
        → Refuses (entered frame areas h at g) → Leaves (entered frame areas h at g).areas
    gate_leaves h at e Open f d = events_leave h at e f (frame.events h at) d
    gate_leaves h at e (Shut n q) f d = inl refl

    header_leaves : (x : Found P L H) → frame.header ≡ x → Refuses (headed frame areas x) → Leaves (headed frame areas x).areas
    header_leaves (Given h at) e d = gate_leaves h at e (frame.gate h areas) refl d
    header_leaves (Refused n q) e d = inl refl

    pub refused_leaves : (ran frame areas).answer ≡ outcome.Refused number place → Leaves (ran frame areas).areas
    unfolding ran
    refused_leaves d = header_leaves frame.header refl d

-- ---- one outcome: what answers as a run does and leaves what it leaves is determined

module _ {R T L A : Type 0} (answer_of : R → Answer T L) (one : (x y : R) → answer_of x ≡ answer_of y → x ≡ y) where
  -- what a contract says of an answer and the areas after it
  abbrev pub Meets : Outcome T L A → R → A → Type 0
  Meets o r areas = (answer_of r ≡ o.answer) × (areas ≡ o.areas)

  pub determined : (o : Outcome T L A) (x y : R) (a b : A) → Meets o x a → Meets o y b → (x ≡ y) × (a ≡ b)
  determined o x y a b e f = (one x y (one_value e.0 f.0), one_value e.1 f.1)
