-- Before the first stretch.
use Rattle.engine.proofs.lists.PairLaws.{at_first}
use Rattle.engine.proofs.lists.Cursor.new.Goals as goal

pub returns-clause-at : goal.returns-clause-at
returns-clause-at c R good begins = at_first R c.args.list.now c.args.n c.next_size.result good begins c.next_size.ensures.1
