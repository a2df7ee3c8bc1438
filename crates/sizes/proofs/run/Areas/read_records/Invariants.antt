use Rattle.std.proofs.Common.{◌≡◌, ◌-◌, ◌*◌, ◌≤◌, length}
use Rattle.sizes.specs.Passing.{Fitting, Same}
use Rattle.sizes.proofs.run.Turns.{Sofar}
use Rattle.sizes.proofs.run.Areas.read_records.Given as goal

abbrev pub invariant-loop-at : goal.invariant-loop-at
invariant-loop-at l =
    record {
      within : l.at ≤ length l.trace;
      few : 2 * l.reads ≤ l.at;
      same : Same l.initial.self l.self;
      fitting : Fitting l.self;
      room : length l.scratch ≡ length l.initial.scratch;
      sofar : Sofar l.self.n l.trace l.start l.self.blocks.now l.self.stretches.now l.self.counts.now l.at l.reads l.sums;
    }

abbrev pub decreases-loop-at : goal.decreases-loop-at
decreases-loop-at l = length l.trace - l.at
