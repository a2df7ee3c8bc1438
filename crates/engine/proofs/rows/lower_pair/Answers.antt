-- The list's first place is the block's place in the largest card, so it is the only one.
use mathlib.Core.Path.{sym, ap, ◌∙◌}
use mathlib.Core.List.{[], ◌∷◌}
use Prim.Native.Nat.{ℕ, ◌+◌}
use lib.ListN.{get_or}
use Rattle.engine.specs.Moves.{other_after}
use Rattle.engine.proofs.rows.Singles.{single_row, pairs_lowered, stretches_still}
use Rattle.engine.proofs.rows.lower_pair.Goals as goal

pub returns-clause-moved : goal.returns-clause-moved
returns-clause-moved c _ n p j J S T pos ps sn gj gs es ej away src old fits =
    let at = c.args in
    let first = get_or at.area.now at.from.start 0 in
    let one = single_row at.area.now at.from n at.s S c.requires.0.source_room c.requires.1 c.if-area-from.false es gs src in
    let new = pairs_lowered J S p n j first at.s pos gj ej one away ps sn ∙ ap (λ (z : ℕ). z ∷ (at.s + 1) ∷ []) (sym c.lowered_first-first.ensures) in
    (c.write_row.ensures.holds (other_after J p S) T n new old, stretches_still S n first at.s one (other_after J p S) _ _ new)
