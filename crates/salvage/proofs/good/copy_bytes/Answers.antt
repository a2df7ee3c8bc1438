-- `salvage::good::copy_bytes` meets its contract, by the laws of `Copies`. Assumes nothing.
use native.Mathlib.Omega.{arith}
use Rattle.salvage.proofs.good.Copies.{left_all, left_none, left_turn}
use Rattle.salvage.proofs.good.copy_bytes.Goals as goal

pub loop-i-init : goal.loop-i-init
loop-i-init c = left_all c.args.buffer.now c.args.at c.args.bytes.now

pub loop-i-preserved : goal.loop-i-preserved
loop-i-preserved c = let l = c.loop-i in left_turn c.args.buffer.now c.args.at c.args.bytes.now l.buffer l.i l.invariant (omega arith) c.requires

pub returns : goal.returns
returns c = let l = c.loop-i in left_none c.args.buffer.now c.args.at c.args.bytes.now l.buffer l.i l.invariant (omega arith)
