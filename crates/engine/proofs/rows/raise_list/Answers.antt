-- A list that goes up as it is, and zeros where the row held a longer one.
use native.Mathlib.Omega.{arith}
use mathlib.Core.Path.{◌≡◌, sym, ◌∙◌}
use lib.ListN.{get_or, get_or-eq_default}
use Prim.Native.Nat.{ℕ, ◌+◌, ◌<◌}
use Rattle.card.proofs.Tests.{by_lt}
use Rattle.engine.specs.Moves.{other_after}
use Rattle.engine.specs.Rows.{pairs}
use Rattle.engine.proofs.rows.RowLaws.{row_first}
use Rattle.engine.proofs.rows.Raisings.{raised_after, raised_stretches}
use Rattle.engine.proofs.rows.raise_list.Goals as goal

pub returns-clause-moved : goal.returns-clause-moved
returns-clause-moved c _ n j J S T pos gj gs es ej some estart eplace src old fits =
    let at = c.args in
    let wide = c.requires.0.source_room in
    let write = c.write_raised-count in
    let close = c.close.ensures in
    let up = raised_after J S at.p n j at.s at.start at.place (get_or at.area.now at.from.start 0) (get_or at.area.now (at.from.start + 1) 0) pos gj gs es ej some estart eplace
    (row_first at.area.now at.from n S (omega (arith, wide)) src) (src.same 1 (omega (arith, wide))) (omega (arith, c.if-s-place.false)) c.if-area-from.false c.if-p-area.false in
    let new = write.ensures.raised (other_after J at.p S) S n up src in
    let held : (q : ℕ) → q < at.to.room → get_or c.close.new.area (at.to.start + q) 0 ≡ get_or (pairs (other_after J at.p S) n) q 0 = λ q hq. by_lt q write.result
    (λ lt. close.kept.1 q lt hq ∙ new.1 q lt)
    (λ ge. close.closed T n old.fits (λ x le h. write.ensures.kept.1.above (at.to.start + x) (omega arith) ∙ old.same x h) q ge hq ∙ sym (get_or-eq_default (pairs (other_after J at.p S) n) 0 {n = q} (omega (arith, new.0)))) in
    (record { fits = fits; same = held }, raised_stretches (other_after J at.p S) S n up)
