-- The entries before the first zero.
use lib.ListN.{take}
use Rattle.std.proofs.Common.{◌≡◌, ◌<◌, rules, tests, ◌∙◌}
use Rattle.std.proofs.lemmas.Iterator.{IsFirst-from_position, YieldsList-from_slice}
use Rattle.engine.proofs.lists.Copies.{entries_found}
use Rattle.engine.proofs.lists.count_entries.Goals as goal

pub returns-clause-counted : goal.returns-clause-counted
returns-clause-counted c R n fits begins =
    let first = IsFirst-from_position _ _ c.position.result (λ v. v ≡ 0) (λ v. 0 < v) c.position.ensures.ran (YieldsList-from_slice (take c.args.most c.args.list.now) cc) (λ x q k. search (rules, tests)) (λ x q k. search (rules, tests)) in
    c.unwrap_or.ensures ∙ entries_found c.args.list.now c.args.most R n c.position.result c.requires fits begins first
