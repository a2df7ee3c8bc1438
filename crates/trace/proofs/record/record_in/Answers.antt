-- `trace::record::record_in` meets its contract: where a field is refused, the ones before it were read. Assumes nothing.
use Rattle.std.proofs.lemmas.Result.{err_from_is_err_and}
use Rattle.trace.specs.Reading.{placed_in}
use Rattle.trace.proofs.Fields.{field_then}
use Rattle.trace.proofs.record.record_in.Goals as goal

pub returns-in_err-volume : goal.returns-in_err-volume
unfolding placed_in
returns-in_err-volume c =
    let p = err_from_is_err_and c.from_residual.result c.from_residual.ensures.1 in
    rw (p.1, p.2, field_then, ← c.in_err-volume.ensures)

pub returns-in_err-block : goal.returns-in_err-block
unfolding placed_in
returns-in_err-block c =
    let p = err_from_is_err_and c.from_residual-in_err-block.result c.from_residual-in_err-block.ensures.1 in
    rw (p.1, p.2, field_then, ← c.in_ok-volume.ensures, field_then, ← c.block.ensures, ← c.in_err-block.ensures)

pub returns-in_err-priority : goal.returns-in_err-priority
unfolding placed_in
returns-in_err-priority c =
    let p = err_from_is_err_and c.from_residual-in_err-priority.result c.from_residual-in_err-priority.ensures.1 in
    rw (p.1, p.2, field_then, ← c.in_ok-volume.ensures, field_then, ← c.block.ensures, ← c.in_ok-block.ensures, field_then, ← c.in_err-priority.ensures)
