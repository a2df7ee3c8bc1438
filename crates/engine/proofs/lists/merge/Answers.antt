-- Size by size, with the sizes at which nothing changes passed over.
use native.Mathlib.Omega.{arith}
use mathlib.Core.Path.{◌≡◌, refl, sym, ◌∙◌, subst}
use mathlib.Core.List.{List}
use Prim.Native.Nat.{ℕ, ◌+◌, ◌≤◌}
use native.Mathlib.Numerals.{add-one}
use Rattle.engine.specs.Moves.{other_after}
use Rattle.engine.specs.Lists.{Over, ListedUpTo}
use Rattle.engine.specs.declared.lists.Cursor.{Cursor}
use Rattle.engine.proofs.lists.PairLaws.{merging_first, merging_next, at_later, rule_after, holds_all, len_le}
use Rattle.engine.proofs.lists.merge.Goals as goal

pub loop-t-init : goal.loop-t-init
loop-t-init c =
    let x = c.at-x in
    let y = c.new-y in (
      x.ensures.over,
      y.ensures.over,
      omega (arith, x.ensures.passed),
      omega (arith, y.ensures.passed),
      omega arith,
      refl,
      λ x h. refl,
      λ J L gj gl hd hb fits.
          let first = y.ensures.at L gl hb in
          merging_first J L c.args.p c.args.n _ _ _ _ _ _ _ _ c.requires.0 gl refl first (x.ensures.at J gj hd (omega (arith, at_later L c.args.n 0 _ _ _ (omega arith) first))),
    )

-- a cursor that goes on goes over the same list
over_next : {list : List ℕ} {n : ℕ} {x y : Cursor} → Over list n x → Over x.list.now x.n y → Over list n y
over_next over next = record { same = next.same ∙ over.same; sizes = next.sizes ∙ over.sizes }

pub loop-t-preserved : goal.loop-t-preserved
loop-t-preserved c =
    let at = c.args in
    let lp = c.loop-t in
    let inv = lp.invariant in
    let s = lp.t + 1 in
    let x = c.advance.ensures in
    let y = c.advance-in-loop-t.ensures in
    let pu = c.push-q in
    let up = c.last_still-t.ensures in
    let hs : s ≤ at.n = omega (arith, c.loop-t-test.true) in (
      over_next inv.0 x.over,
      over_next inv.1 y.over,
      omega (arith, x.passed, inv.2, up.range),
      omega (arith, y.passed, inv.3, up.range),
      omega (arith, pu.ensures.range.1, pu.auto.out),
      pu.auto.out ∙ inv.5,
      λ x h. pu.ensures.range.2 x h ∙ inv.6 x (omega (arith, pu.ensures.range.0)),
      λ J L gj gl hd hb fits.
          let st = inv.7 J L gj gl hd hb fits in
          let rd = (rw (inv.0.same, inv.0.sizes) at x.at) J lp.t gj hd (add-one lp.t) hs st.read in
          let ot = (rw (inv.1.same, inv.1.sizes) at y.at) L lp.t gl hb (add-one lp.t) hs st.other in
          let er = rule_after J L at.p at.n s _ _ _ _ _ _ _ rd ot c.new_place-r.ensures in
          let wr = pu.ensures.written (other_after J at.p L) lp.t (add-one lp.t) er st.place (omega (arith, len_le (other_after J at.p L) s at.n hs, inv.5)) st.done in
          merging_next J L at.p at.n _ s _ _ _ _ _ _ _ _ _ c.requires.0 gj gl hs up.range up.still up.pushed rd ot wr er,
    )

pub returns-clause-merged : goal.returns-clause-merged
returns-clause-merged c J L gj gl hd hb ends fits =
    let at = c.args in
    let lp = c.loop-t in
    let inv = lp.invariant in
    let st = inv.7 J L gj gl hd hb fits in
    let e : lp.t ≡ at.n = omega (arith, st.within, c.loop-t-test.false) in
    let w = subst (λ (z : ℕ). ListedUpTo lp.out lp.q (other_after J at.p L) z) e st.done in
    (w.count, holds_all lp.out c.fill.new.out lp.q (other_after J at.p L) at.n w c.fill.ensures.0 (c.fill.ensures.1 (λ x y hq hy z. inv.6 y (omega arith) ∙ ends x y (omega arith) hy (sym (inv.6 x hq) ∙ z))))
