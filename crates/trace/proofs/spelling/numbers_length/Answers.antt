-- `trace::spelling::numbers_length` meets its contract: a slice has too few values for the sum not to fit. Assumes nothing.
use Rattle.std.proofs.Common.{arith, ◌^◌}
use Rattle.std.proofs.lemmas.Iterator.{YieldsList-from_slice}
use Rattle.std.proofs.lemmas.Iterator.Adapters.{fits_from_length, at_most_from_yields_List}
use Rattle.trace.proofs.spelling.Laws.{spelling_short}
use Rattle.trace.proofs.spelling.numbers_length.Goals as goal

pub sum-requires-clause-fits : goal.sum-requires-clause-fits
sum-requires-clause-fits c =
    fits_from_length _ _ (2 ^ 60) (2 ^ 64) (at_most_from_yields_List (YieldsList-from_slice c.args.values.now cc) (omega arith)) c.map.ensures.closure (omega arith)
    (λ x r q k. grind (arith, spelling_short))
