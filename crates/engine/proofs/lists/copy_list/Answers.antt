-- The list is copied up to its first zero, and the zero too.
use native.Mathlib.Omega.{arith}
use mathlib.Core.Path.{refl}
use lib.ListN.{get_or-eq_default}
use Rattle.engine.proofs.lists.Copies.{copied}
use Rattle.engine.proofs.lists.copy_list.Goals as goal

pub returns-then-v-eq0-clause-begins : goal.returns-then-v-eq0-clause-begins
returns-then-v-eq0-clause-begins c =
    let l = c.loop-x in
    copied c.args.row.now l.out l.x _ (omega arith) l.invariant.1 l.invariant.2 c.if-v-eq0.true c.if-v-eq0.true

pub returns-clause-begins : goal.returns-clause-begins
returns-clause-begins c =
    let l = c.loop-x in
    let row = c.args.row.now in
    copied row l.out _ 0 (omega arith) (λ k lt. l.invariant.1 k (omega arith)) (λ k lt. l.invariant.2 k (omega arith)) refl (get_or-eq_default row 0 (omega arith))
