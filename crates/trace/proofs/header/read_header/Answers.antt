-- `trace::header::read_header` meets its contract: a refused edition refuses the header. Assumes nothing.
use Rattle.std.proofs.lemmas.Result.{err_from_is_err_and}
use Rattle.trace.specs.Reading.{header_at}
use Rattle.trace.proofs.Fields.{field_then}
use Rattle.trace.proofs.header.read_header.Goals as goal

pub returns-in_err-edition : goal.returns-in_err-edition
unfolding header_at
returns-in_err-edition c =
    let p = err_from_is_err_and c.from_residual.result c.from_residual.ensures.1 in
    rw (p.1, p.2, field_then, ← c.edition.ensures, ← c.in_err-edition.ensures)
