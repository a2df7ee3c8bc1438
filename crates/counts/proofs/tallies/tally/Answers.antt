-- `counts::tallies::tally` meets its contract: the four steps of a read. Assumes nothing.
use native.Mathlib.Omega.{arith}
use Rattle.counts.proofs.tallies.OneRead.{Steps, read_tallied, read_small}
use Rattle.counts.proofs.tallies.tally.Goals as goal

pub returns : goal.returns
returns c =
    let a = c.args in
    let steps : Steps a.counts.now c.begin.new.counts c.bump.new.counts c.bump-2.new.counts a.n a.first c.max.result c.max-2.result a.p = record {
      long = c.requires.room.long;
      some = c.requires.some;
      least = c.requires.least;
      one = omega (arith, c.max.ensures);
      two = omega (arith, c.max-2.ensures);
      begins = c.begin.ensures.exact;
      marks = c.bump.ensures.exact;
      ends = c.bump-2.ensures.exact;
    } in record {
      tallied = (λ J fall parts. read_tallied steps J a.reached a.above fall parts c.max.ensures c.max-2.ensures);
      small = read_small steps;
    }
