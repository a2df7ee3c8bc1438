-- `engine::starts::first_size` meets its contract.
use Prim.Native.Nat.{◌+◌, ◌*◌}
use native.Mathlib.Omega.{arith}
use lib.ListN.{get_or-eq_default}
use Rattle.engine.proofs.starts.TallyLists.{begins_at, begins_none, begins_out}
use Rattle.engine.proofs.starts.first_size.Goals as goal

pub returns-then-list-i-clause-begins : goal.returns-then-list-i-clause-begins
returns-then-list-i-clause-begins c J most fall holds high old = let a = c.args in begins_out a.list.now J a.n most a.i fall holds (get_or-eq_default a.list.now 0 {n = 2 * a.i + 1} (omega arith)) old

pub returns-then-first-eq0-clause-begins : goal.returns-then-first-eq0-clause-begins
returns-then-first-eq0-clause-begins c J most fall holds high old = let a = c.args in begins_none a.list.now J a.n most a.i fall holds c.if-first-eq0.true old

pub returns-clause-begins : goal.returns-clause-begins
returns-clause-begins c J most fall holds high old = let a = c.args in begins_at a.list.now J a.n most a.i fall holds high (omega (arith, c.if-first-eq0.false)) old
