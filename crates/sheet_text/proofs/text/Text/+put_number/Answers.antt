-- A number is its tenth and one more digit.
use mathlib.Core.Path.{sym, ap}
use native.Mathlib.Omega.{arith}
use Rattle.sheet_text.proofs.Decimals.{decimal_short, decimal_shorter}
use Rattle.sheet_text.proofs.Puts.{takes_digit, takes_digits}
use Rattle.sheet_text.proofs.text.Text.+put_number.Goals as goal
use Rattle.sheet_text.proofs.text.Text.+put_number.Goals.{then-n-ge10, else-n-ge10}

pub put-requires : goal.put-requires
put-requires t c =
    elim c.if-n-ge10.branch [ then-n-ge10 w ↦ omega (arith, w.put_number.ensures.takes.wrote.place, decimal_shorter, ap (λ t. t.length) w.self-is) | else-n-ge10 w ↦ omega (arith, ap (λ t. t.length) w.self-is) ]

pub returns-clause-takes : goal.returns-clause-takes
returns-clause-takes t c =
    elim c.if-n-ge10.branch [ then-n-ge10 w ↦ takes_digits _ w.if-n-ge10.true (rw (sym w.self-is) at w.put_number.ensures.takes) c.put.ensures | else-n-ge10 w ↦ takes_digit _ w.if-n-ge10.false (rw w.self-is at c.put.ensures) ]

pub returns-clause-short : goal.returns-clause-short
returns-clause-short t c = let takes = returns-clause-takes t c in omega (arith, takes.wrote.place, decimal_short c.args.n c.ranges.n.fits)
