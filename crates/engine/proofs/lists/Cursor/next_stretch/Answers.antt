-- The stretch at the next size.
use Rattle.engine.proofs.lists.PairLaws.{at_next}
use Rattle.engine.proofs.lists.Cursor.next_stretch.Goals as goal

pub returns-clause-at : goal.returns-clause-at
returns-clause-at c J t good begins h hx a =
    let x = c.args.self.now in
    at_next J x.list.now x.n t x.passed x.place x.next _ _ good begins h hx a c.entry-self.ensures c.next_size-self.ensures.1
