-- `salvage::good::keep_bytes` meets its contract, by what the reader of the header answered. Assumes nothing.
use Rattle.std.proofs.Common.{arith}
use Rattle.std.proofs.lemmas.Bool.Decides.{nat_tests}
use Rattle.terms.specs.Ranges.{size}
use Rattle.salvage.proofs.WaysOut.{After, Nothing, header_read, header_refused}
use Rattle.salvage.proofs.good.keep_bytes.Goals as goal
use Rattle.salvage.proofs.good.keep_bytes.Goals.{In-Ok, In-Err}

after_header : (c : In-Ok) → After c.args.trace.now c.in-Ok.header.length
unfolding size
after_header c = header_read c.args.trace.now c.read_header.result c.read_header.ensures c.in-Ok.header c.in-Ok.is

nothing_after : (c : In-Err) → Nothing c.args.trace.now c.in-Err.fault
unfolding size
nothing_after c = header_refused c.args.trace.now c.read_header.result c.read_header.ensures c.in-Err.fault c.in-Err.is

pub returns-in-Err : goal.returns-in-Err
returns-in-Err c = let nothing = nothing_after (goal.at.returns-in-Err c).In-Err in grind (arith, c.unwritten.ensures, nothing.answer, nothing.start)

pub measure-need-requires : goal.measure-need-requires
measure-need-requires c = (after_header (goal.at.measure-need-requires c).In-Ok).within

pub returns-then-out-need : goal.returns-then-out-need
returns-then-out-need c = let after = after_header (goal.at.returns-then-out-need c).In-Ok in grind (arith, nat_tests, c.unwritten-then-out-need.ensures, after.answer, after.start)

pub copy_kept-requires : goal.copy_kept-requires
copy_kept-requires c = let after = after_header (goal.at.copy_kept-requires c).In-Ok in omega arith

pub returns : goal.returns
returns c = let after = after_header (goal.at.returns c).In-Ok in grind (arith, nat_tests, after.answer, after.start)
