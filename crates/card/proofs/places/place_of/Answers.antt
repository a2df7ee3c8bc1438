-- `card::places::place_of` meets its contract: the fours before the search do not hold the key, and then the first place that does, or none. Assumes nothing.
use mathlib.Core.Path.{◌∙◌}
use Prim.Native.Nat.{◌<◌}
use native.Mathlib.Omega.{arith}
use Rattle.std.specs.Slice.Iter.{chunks_exact_size, chunks_exact_rest}
use Rattle.std.specs.Iterator.Runs.{IsChunksExactRun}
use Rattle.std.proofs.Common.{◌==◌, ◌*◌, rules, tests}
use Rattle.std.proofs.lemmas.List.{take_rest}
use Rattle.std.proofs.lemmas.Iterator.{YieldsList-from_slice}
use Rattle.std.proofs.lemmas.Iterator.Search.{position_from_yields_List}
use Rattle.card.proofs.places.Searches.{place_is, passed_lack}
use Rattle.card.proofs.places.place_of.Goals as goal

pub returns : goal.returns
returns c =
    let below = position_from_yields_List (λ y. y == c.args.key) _ _ c.position-2.result c.position-2.ensures.ran (YieldsList-from_slice _ (c.iter.ensures.rest ∙ take_rest c.args.card.now (c.unwrap_or-fours.result * 4))) (λ x b q k. search (rules, tests)) in
    let (u, e, m) = c.position.ensures.runs in
    let run : 0 < chunks_exact_size u.from → IsChunksExactRun u (chunks_exact_size u.from) (chunks_exact_rest u.from) = c.chunks_exact.ensures.runs u u.seen in
    let fours = (rw (e, c.chunks_exact.ensures.size, c.chunks_exact.ensures.rest) at run) (omega arith) in
    let (l, h) = passed_lack c.args.card.now c.args.key (λ four q. search (rules, tests)) _ u c.position.result fours m (λ a r q k. search (rules, tests)) in
    place_is c.args.card.now c.args.key (c.unwrap_or-fours.result * 4) c.map_or.result c.position-2.result (rw c.unwrap_or-fours.ensures l) (rw c.unwrap_or-fours.ensures h) below (search rules)
