-- The loop's invariant: no stretch before `i` has a place up to `most`.
use native.Mathlib.Omega.{arith}
use Rattle.engine.proofs.starts.TallyLists.{passed_more}
use Rattle.engine.proofs.starts.first_within.Goals as goal

pub loop-i-preserved : goal.loop-i-preserved
loop-i-preserved c J n fall holds old = let l = c.loop-i in passed_more c.args.list.now J n c.args.most l.i fall holds (omega (arith, c.if-list-i.false)) (l.invariant J n fall holds old)

pub returns-clause-passed : goal.returns-clause-passed
returns-clause-passed c J n fall holds old = let l = c.loop-i in λ m h few. l.invariant J n fall holds old m h (omega arith)
