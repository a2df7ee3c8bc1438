-- A stretch is written where the place is another than before, and there is room.
use native.Mathlib.Omega.{arith}
use mathlib.Core.Path.{sym, ap, ◌∙◌}
use mathlib.Core.Logic.{inl, inr}
use mathlib.Core.List.{[], ◌∷◌}
use lib.ListN.{length, length-append}
use Rattle.engine.specs.Rows.{pairs}
use Rattle.engine.proofs.lists.PairLaws.{flat_s, start_s, listed_eq, listed_more}
use Rattle.engine.proofs.lists.push.Goals as goal
use Rattle.engine.proofs.lists.push.Goals.{then-r-eq0-via-then-r-eq0, then-r-eq0-via-else-r-eq0+then-r-last, then-r-eq0-via-else-r-eq0+else-r-last+then-out-q-lt2}

pub returns-then-r-eq0-clause-written : goal.returns-then-r-eq0-clause-written
returns-then-r-eq0-clause-written c R t es er el fits w =
    let at = c.args in
    elim c.then-r-eq0.branch [
      | then-r-eq0-via-then-r-eq0 w' ↦ listed_eq _ at.q R t at.s (flat_s R t at.s es (inl (sym er ∙ w'.if-r-eq0.true))) w
      | then-r-eq0-via-else-r-eq0+then-r-last w' ↦ listed_eq _ at.q R t at.s (flat_s R t at.s es (inr (sym el ∙ sym w'.if-r-last.true ∙ er))) w
      | then-r-eq0-via-else-r-eq0+else-r-last+then-out-q-lt2 w' ↦ absurd (omega (arith, w.count, fits, c.requires, w'.if-out-q-lt2.true, ap length (start_s R t at.s es (omega (arith, er, w'.if-r-eq0.false)) (λ z. w'.if-r-last.false (er ∙ sym z ∙ sym el))) ∙ length-append (pairs R t) (at.s ∷ R at.s ∷ [])))
    ]

pub returns-clause-written : goal.returns-clause-written
returns-clause-written c R t es er el fits w =
    let at = c.args in
    listed_more _ at.q R t at.s at.r (omega arith) er (start_s R t at.s es (omega (arith, er, c.if-r-eq0.false)) (λ z. c.if-r-last.false (er ∙ sym z ∙ sym el))) w
