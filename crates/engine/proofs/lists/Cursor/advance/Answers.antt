-- Where the next stretch begins later the cursor stays.
use native.Mathlib.Omega.{arith}
use Rattle.engine.proofs.lists.PairLaws.{at_later, at_still}
use Rattle.engine.proofs.lists.Cursor.advance.Goals as goal

pub returns-else-self-s-clause-at : goal.returns-else-self-s-clause-at
returns-else-self-s-clause-at c R t good begins es hs a =
    let x = c.args.self.now in
    at_still R x.n t x.passed x.place x.next c.args.s good (omega arith) a (omega arith) (omega (arith, c.if-self-s.false, at_later R x.n t x.passed x.place x.next (omega arith) a))
