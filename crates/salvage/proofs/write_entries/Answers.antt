-- `salvage::write_entries` meets its contract: in a turn the next entry is put where the list goes on. Assumes nothing.
use mathlib.Core.Path.{◌≡◌, ap, ◌∙◌}
use mathlib.Core.List.{List}
use Prim.Native.Nat.{ℕ, suc, ◌+◌, ◌-◌, ◌<◌}
use native.Mathlib.Omega.{arith}
use lib.ListN.{set, length-set}
use Rattle.salvage.specs.declared.Entry.{Entry}
use Rattle.salvage.specs.declared.listing.Next.{Next}
use Rattle.salvage.specs.Steps.{next_from, written}
use Rattle.salvage.proofs.write_entries.Goals as goal

-- a turn, at what the next entry was found to be
written_turn : (s : List ℕ) (n k at : ℕ) (list : List Entry) → k < n → (next : Next) → next ≡ next_from s at
    → written (n - (k + 1)) s next.at (k + 1) (set list k next.entry) ≡ written (n - k) s at k list
written_turn s n k at list h next e =
    let left : suc (n - (k + 1)) ≡ n - k = omega arith in
    ap (λ (r : Next). written (n - (k + 1)) s r.at (k + 1) (set list k r.entry)) e ∙ ap (λ (m : ℕ). written m s at k list) left

pub loop-k-preserved : goal.loop-k-preserved
loop-k-preserved c = record {
  room = omega (arith, length-set c.loop-k.list c.loop-k.k c.next_entry-next.result.entry, c.loop-k.invariant.room);
  goes_on = written_turn c.args.trace.now c.args.n c.loop-k.k c.loop-k.at c.loop-k.list c.loop-k-test.true c.next_entry-next.result c.next_entry-next.ensures ∙ c.loop-k.invariant.goes_on;
}
