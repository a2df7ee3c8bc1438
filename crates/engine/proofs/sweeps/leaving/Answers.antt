-- What leaves, by whether the block read was present, and where it goes.
use native.Mathlib.Omega.{arith}
use mathlib.Core.Path.{◌≡◌, sym, ◌∙◌}
use mathlib.Core.Logic.{inl}
use mathlib.Core.List.{List}
use Prim.Native.Nat.{ℕ, ◌≤◌}
use lib.ListN.{length, get_or}
use Rattle.engine.specs.Rows.{pairs, row_of}
use Rattle.engine.specs.Renewals.{RowAt}
use Rattle.engine.specs.declared.rows.Span.{Span}
use Rattle.engine.specs.declared.renewals.RowRead.{RowRead}
use Rattle.engine.proofs.rows.RowLayout.{row_fits}
use Rattle.engine.proofs.rows.RowLaws.{row_first}
use Rattle.engine.proofs.rows.RowCounts.{left_read, left_bypass, left_none, left_last}
use Rattle.engine.proofs.sweeps.leaving.Goals as goal

pub returns-then-read-gt0-clause-left : goal.returns-then-read-gt0-clause-left
returns-then-read-gt0-clause-left c J L f was =
    let read = c.args.read in
    let fits : length (pairs J read.n) ≤ c.row.result.room = rw c.row.ensures.lies (row_fits read.n J read.j f.falling (inl (sym f.there))) in
    left_read J L read.n read.p read.j _ (omega (arith, c.if-read-gt0.true)) (c.count_entries.ensures.counted J read.n fits f.begins)

pub returns-then-read-clause-left : goal.returns-then-read-clause-left
returns-then-read-clause-left c J L f was = let read = c.args.read in left_bypass J L read.n read.p read.j (omega (arith, c.if-read-gt0.false)) c.if-read.true

-- the row of the last place holds the list of what stands there
first_last : (area : List ℕ) (read : RowRead) (row : Span) (R : ℕ → ℕ) → row ≡ row_of read.n read.n → 2 ≤ row.room → RowAt area read read.n R → get_or area row.start 0 ≡ get_or (pairs R read.n) 0 0
first_last area read row R lies wide held = row_first area row read.n R (omega arith) (rw lies held)

pub returns-then-last-eq0-clause-left : goal.returns-then-last-eq0-clause-left
returns-then-last-eq0-clause-left c J L f was =
    let read = c.args.read in
    let row = c.row-2 in
    let first = first_last c.args.area.now read row.result (L read.n) row.ensures.lies (row.ensures.inside (omega arith)).0 was in
    left_none J L read.n read.p read.j (omega (arith, c.if-read-gt0.false)) (omega (arith, c.if-read.false)) (sym first ∙ c.if-last-eq0.true)

pub returns-else-last-eq0-clause-left : goal.returns-else-last-eq0-clause-left
returns-else-last-eq0-clause-left c J L f was =
    let read = c.args.read in
    let row = c.row-2 in
    let first = first_last c.args.area.now read row.result (L read.n) row.ensures.lies (row.ensures.inside (omega arith)).0 was in
    left_last J L read.n read.p read.j (omega (arith, c.if-read-gt0.false)) (omega (arith, c.if-read.false)) c.requires.0.some f.family (λ z. c.if-last-eq0.false (first ∙ z))
