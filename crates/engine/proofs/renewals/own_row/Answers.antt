-- The row where the block read is put in, or the last one, to which nothing comes.
use native.Mathlib.Omega.{arith}
use mathlib.Core.Path.{◌≡◌, refl}
use mathlib.Core.Logic.{⊎_elim}
use Prim.Native.Nat.{◌≤◌, ◌<◌, min}
use Rattle.engine.specs.Moves.{own}
use Rattle.engine.proofs.lists.PairFacts.{pairs_own}
use Rattle.engine.proofs.renewals.RowSteps.{emptied_row, own_row}
use Rattle.engine.proofs.renewals.own_row.Goals as goal

pub returns-then-read-clause-renewed : goal.returns-then-read-clause-renewed
returns-then-read-clause-renewed c J L fam was =
    let at = c.args in
    let pre = c.requires in
    let n = at.read.n in
    let cl = rw c.row.ensures.lies at c.close.ensures in
    let past : n < at.read.p = c.if-read.true in
    let j : 0 < at.read.j = ⊎_elim (λ z. absurd (omega arith)) (λ z. z) pre.1 in
    let e : min at.read.p n ≡ n = omega arith in
    let old = rw e at was in
    rw e (emptied_row at.read J L at.changes at.area.now _ pre.0 past j pre.2 fam cl.kept.0 (λ q. cl.closed (L n) n old.fits (λ x _. old.same x) q (omega arith)))

pub returns-clause-renewed : goal.returns-clause-renewed
returns-clause-renewed c J L fam was =
    let at = c.args in
    let pre = c.requires in
    let p = at.read.p in
    let wr = rw c.row-2.ensures.lies at c.write_row.ensures in
    let le : p ≤ at.read.n = omega (arith, c.if-read.false) in
    let e : min p at.read.n ≡ p = omega arith in
    rw e (own_row at.read J L at.changes c.with.result at.area.now _ pre.0.read_at le wr.kept
    (wr.holds (own p) (L p) at.read.n (pairs_own p at.read.n pre.0.read_at le) (rw e at was))
    _ refl refl refl c.with.ensures)
