-- The sizes found in the list are those where the parts of the read's outcomes begin.
use mathlib.Core.Path.{refl}
use Prim.Native.Nat.{◌+◌, ◌-◌}
use native.Mathlib.Omega.{arith}
use lib.ListN.{get_or}
use Rattle.engine.proofs.starts.TallyLists.{passed_none}
use Rattle.engine.proofs.starts.tally_list.Goals as goal

pub returns-clause-tallied : goal.returns-clause-tallied
returns-clause-tallied c J fall holds =
    let a = c.args in
    let same = c.first_within-same.ensures in
    let down = c.first_within-down.ensures in
    let none = passed_none a.list.now in
    let most = a.n + get_or a.list.now 1 0 in
    let passed = same.passed J a.n fall holds (none J a.n a.p 0 fall holds refl) in
    c.tally.ensures.tallied J fall record {
      most = most;
      wide = omega arith;
      present = c.first_size-first.ensures.begins J most fall holds (omega arith) (none J a.n most 0 fall holds refl);
      reaches = c.first_size-reached.ensures.begins J a.p fall holds same.place passed;
      rises = c.first_size-above.ensures.begins J (a.p - 1) fall holds down.place (down.passed J a.n fall holds (λ m h l k. passed m h l (omega arith)));
    }
