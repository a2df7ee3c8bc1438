-- `trace::record::write_record` meets its contract: what it writes is in its ranges, and has spellings. Assumes nothing.
use mathlib.Core.Path.{sym, subst}
use Rattle.std.proofs.Common.{arith}
use Rattle.std.proofs.lemmas.Bool.Decides.{nat_tests}
use Rattle.trace.specs.Bounds.{Spelled}
use Rattle.trace.specs.Writing.{record_writing}
use Rattle.trace.proofs.Ranged.{word_block, read_spelled}
use Rattle.trace.proofs.record.write_record.Goals as goal

pub returns-in_err-check-2 : goal.returns-in_err-check-2
unfolding record_writing
returns-in_err-check-2 c = grind (arith, nat_tests, word_block c.args.block c.ranges.block.fits)

pub write_numbers-requires : goal.write_numbers-requires
write_numbers-requires c =
    subst Spelled (sym c.values_of.ensures)
    (read_spelled c.args.volume c.args.block c.args.priority (grind (arith, nat_tests)) c.ranges.block.fits (grind (arith, nat_tests)))
