use Rattle.counts.proofs.tallies.Turns.{SizesCounted}
use Rattle.counts.proofs.tallies.finish.Given as goal

abbrev pub invariant-loop-m : goal.invariant-loop-m
invariant-loop-m l = SizesCounted l.initial.counts l.counts l.n l.m l.reads l.sums
