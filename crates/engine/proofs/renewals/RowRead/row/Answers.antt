-- The layout's own.
use native.Mathlib.Omega.{arith}
use Rattle.engine.proofs.rows.RowLayout.{row_inside, room_some, room_most}
use Rattle.engine.proofs.renewals.RowRead.row.Goals as goal

pub returns : goal.returns
returns c =
    let read = c.args.self in
    let lies = c.of.ensures read.n c.requires.2 in record {
      lies = lies;
      inside = λ le. rw lies (room_some read.n c.args.k c.requires.0 le, row_inside read.n c.args.k c.requires.0 le);
      short = rw lies (omega (arith, room_most read.n c.args.k, c.requires.2), omega (arith, room_most read.n c.args.k));
    }
