-- `salvage::salvage` meets its contract: the entries that the answer asks for fit the list, and written they are the list after it. Assumes nothing.
use mathlib.Core.Path.{◌≡◌, sym, ap, subst, ◌∙◌}
use mathlib.Core.List.{List}
use Prim.Native.Nat.{ℕ, ◌≤◌}
use lib.ListN.{length}
use Rattle.salvage.specs.Pieces.{pieces_of}
use Rattle.salvage.specs.Listing.{list_of}
use Rattle.salvage.specs.Answers.{Salvaging, salvaging, salvaged_answer, area_after}
use Rattle.salvage.specs.Steps.{written, entries_told, start_of}
use Rattle.salvage.specs.declared.Entry.{Entry}
use Rattle.salvage.specs.declared.good.Kept.{Kept}
use Rattle.salvage.proofs.Listings.{told_fit, list_after}
use Rattle.salvage.proofs.salvage.Goals as goal

-- what is kept, for an output of so many bytes and a list
module _ (s : List ℕ) (space : ℕ) (list : List Entry) (r : Kept) (answered : salvaged_answer r.answer ≡ salvaging s space (length list)) (counted : r.entries ≡ entries_told (salvaged_answer r.answer)) where
  told : r.entries ≡ entries_told (salvaging s space (length list))
  told = counted ∙ ap entries_told answered

  fit : r.entries ≤ length list
  fit = subst (λ (n : ℕ). n ≤ length list) (sym told) (told_fit s space (length list))

  -- the list that is written, by the answer
  listed : r.start ≡ start_of (pieces_of s) → written r.entries s r.start 0 list ≡ area_after (salvaged_answer r.answer) (list_of s) list
  listed begins =
      ap (λ (n : ℕ). written n s r.start 0 list) told
      ∙ ap (λ (start : ℕ). written (entries_told (salvaging s space (length list))) s start 0 list) begins
      ∙ list_after s space list
      ∙ ap (λ (answer : Salvaging). area_after answer (list_of s) list) (sym answered)

pub write_entries-requires : goal.write_entries-requires
write_entries-requires c = fit c.args.trace.now (length c.args.out.now) c.args.list.now c.keep_bytes-kept.result c.keep_bytes-kept.ensures.0 c.keep_bytes-kept.ensures.3

pub returns : goal.returns
returns c = (
  c.keep_bytes-kept.ensures.0,
  (
    c.keep_bytes-kept.ensures.1,
    c.write_entries.ensures
        ∙ listed c.args.trace.now (length c.args.out.now) c.args.list.now c.keep_bytes-kept.result c.keep_bytes-kept.ensures.0 c.keep_bytes-kept.ensures.3 c.keep_bytes-kept.ensures.2,
  ),
)
