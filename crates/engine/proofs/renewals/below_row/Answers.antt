-- A list stays where the block read was above it at each of its sizes.
use native.Mathlib.Omega.{arith}
use mathlib.Core.Path.{◌≡◌, refl, sym, ◌∙◌}
use mathlib.Core.Logic.{⊎_elim}
use Prim.Native.Nat.{ℕ, ◌≤◌}
use lib.ListN.{get_or}
use Rattle.engine.specs.Moves.{other_after}
use Rattle.engine.specs.Rows.{pairs, Row}
use Rattle.engine.proofs.rows.RowLaws.{row_first, after_none}
use Rattle.engine.proofs.rows.RowSkips.{first_bound, keep_below}
use Rattle.engine.proofs.renewals.Ways.{way_below}
use Rattle.engine.proofs.renewals.RowSteps.{still_row, renews_merged}
use Rattle.engine.proofs.renewals.below_row.Goals as goal

pub returns-then-is_below-clause-renews : goal.returns-then-is_below-clause-renews
returns-then-is_below-clause-renews c J L f source was =
    let at = c.args in
    let fits = c.requires.0.fits in
    let below = c.requires.1 in
    let n = at.read.n in
    let k = at.k in
    let row = c.row-row in
    let held : Row at.area.now row.result (pairs (L k) n) = rw row.ensures.lies was in
    let good = f.family.good k in
    let first = row_first at.area.now row.result n (L k) (omega (arith, row.ensures.inside below.within)) held in
    let fb = first_bound J n n f.falling (omega arith) (omega (arith, f.there, below.present)) in
    let same : (m : ℕ) → m ≤ n → other_after J at.read.p (L k) m ≡ L k m = ⊎_elim
    (λ there. ⊎_elim
    (λ z. absurd (omega (arith, z, first, (first_bound (L k) n n good (omega arith) (omega (arith, there, below.past))).0)))
    (λ z. keep_below J (L k) at.read.p n at.read.j k (get_or at.area.now row.result.start 0) (get_or at.list.now 0 0) (get_or at.list.now 1 0) fits.read_at f.falling good f.there there first (f.begins 0 (omega arith)) (f.begins 1 (omega (arith, fb.4))) below.present z.0 below.lower z.1)
    (c.is_below.ensures c.if-is_below.true))
    (λ z m hm. after_none J at.read.p (L k) fits.read_at z m ∙ sym (z m))
    (f.family.last k) in
    still_row (way_below at.read k row.ensures.lies below) J L at.changes at.area.now same was

pub returns-clause-renews : goal.returns-clause-renews
returns-clause-renews c =
    let at = c.args in
    let me = c.merge_row-more in
    renews_merged at.list.now (way_below at.read at.k c.row-row.ensures.lies c.requires.1) at.changes at.area.now c.requires.0.fits _ me.new.area refl me.result c.with.result me.ensures.kept.2 me.ensures.merged c.with.ensures
