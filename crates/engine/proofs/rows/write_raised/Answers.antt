-- Stretch by stretch, up to the first that has no place.
use native.Mathlib.Omega.{arith}
use mathlib.Core.Path.{◌≡◌, sym, ◌∙◌}
use Prim.Native.Nat.{◌/◌}
use Rattle.engine.proofs.rows.Raisings.{raising_all}
use Rattle.engine.proofs.rows.write_raised.Goals as goal

pub returns-then-place-eq0-clause-raised : goal.returns-then-place-eq0-clause-raised
returns-then-place-eq0-clause-raised c =
    let l = c.loop-h in
    raising_all c.args.area.now l.area c.args.from c.args.to l.h l.invariant (λ h. sym (l.invariant.kept.above _ (omega (arith, l.invariant.inside, c.requires.1))) ∙ c.if-place-eq0.true)

pub returns-clause-raised : goal.returns-clause-raised
returns-clause-raised c =
    let l = c.loop-h in
    let e : l.h ≡ c.args.from.room / 2 = omega arith in
    rw (← e) (raising_all c.args.area.now l.area c.args.from c.args.to l.h l.invariant (λ h. absurd (omega arith)))
