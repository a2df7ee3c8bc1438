-- How the row of one place is renewed, by the way its new list comes about.
use mathlib.Core.Path.{◌≡◌, refl, sym, ap, ◌∙◌}
use mathlib.Core.Logic.{◌≢◌, inl, inr, ⊎_elim}
use mathlib.Core.List.{List}
use Prim.Native.Nat.{ℕ, ◌+◌, ◌^◌, ◌≤◌, ◌<◌}
use native.Mathlib.Omega.{arith}
use lib.ListN.{length, get_or}
use Rattle.card.specs.Stretches.{stretches}
use Rattle.card.proofs.Tests.{tests}
use Rattle.engine.specs.Moves.{other_after, own, Family, source_of, new_of}
use Rattle.engine.specs.Rows.{pairs, row_start, row_room, row_of, span, Row}
use Rattle.engine.specs.RowMoves.{Kept, Carried, CarriedNone, Merged}
use Rattle.engine.specs.Renewals.{Together, ChangesBelow, Grown, Fits, RowAt, Finds, Renewed, Renews, comes, stands, moved_of}
use Rattle.engine.specs.declared.rows.Changes.{Changes}
use Rattle.engine.specs.declared.rows.Span.{Span}
use Rattle.engine.specs.declared.renewals.RowRead.{RowRead}
use Rattle.engine.proofs.lists.PairLists.{stretches_same}
use Rattle.engine.proofs.ListedStretches.{length_pairs}
use Rattle.engine.proofs.lists.PairFacts.{pairs_own}
use Rattle.engine.proofs.rows.RowLaws.{kept_same, pairs_none, after_none, row_first, row_none, row_eq, row_same, new_own, new_other, source_up}
use Rattle.engine.proofs.rows.RowCounts.{stretches_nowhere}
use Rattle.engine.proofs.renewals.Ways.{Way, row_room_lem, moved_fits}

-- a row that does not begin with 0 has a block
block_there : (L : ℕ → ℕ → ℕ) (area : List ℕ) (row : Span) (n s : ℕ) → Family L n → 0 < row.room → Row area row (pairs (L s) n) → 0 < get_or area row.start 0 → L s n ≡ s
block_there L area row n s fam wide held some =
    ⊎_elim (λ there. there)
    (λ none. absurd (omega (arith, some, row_first area row n (L s) wide held, ap (λ (l : List ℕ). get_or l 0 0) (pairs_none (L s) n none))))
    (fam.last s)

-- nothing is gained or lost
abbrev no_changes : Changes
no_changes = record { gained = 0; lost = 0; longest = 0 }

-- a block that comes from place s
module _ (read : RowRead) {s k : ℕ} (ne : k ≢ read.p) (es : s ≡ source_of read.p read.j k) (J : ℕ → ℕ) (L : ℕ → ℕ → ℕ) where
  comes_is : comes read L k ≡ stretches (L s) read.n
  unfolding moved_of
  comes_is = rw es (simp tests)

  moved_is : new_of J read.p read.j L k ≡ other_after J read.p (L s)
  moved_is = new_other J read.p read.j L k ne ∙ ap (λ (z : ℕ). other_after J read.p (L z)) (sym es)

  stands_is : stands read J L k ≡ stretches (other_after J read.p (L s)) read.n
  stands_is = ap (λ (F : ℕ → ℕ). stretches F read.n) moved_is

  -- with as many stretches as it had
  carried_row : (changes : Changes) (area last : List ℕ) → Kept area last (row_start read.n k) (row_room read.n k) → RowAt last read k (other_after J read.p (L s))
      → stretches (other_after J read.p (L s)) read.n ≡ stretches (L s) read.n → Renewed read J L k changes changes area last
  carried_row changes area last kept row same = record {
    kept = kept;
    row = row_eq last (row_of read.n k) read.n (other_after J read.p (L s)) (new_of J read.p read.j L k) moved_is row;
    more = no_changes;
    balance = omega (arith, comes_is, stands_is, same);
    most = λ B under. omega (arith, comes_is, stands_is, same);
    together = (omega arith, omega arith, omega arith);
  }

  -- with another number of them
  merged_row : (changes more next : Changes) (area last : List ℕ) → Kept area last (row_start read.n k) (row_room read.n k) → RowAt last read k (other_after J read.p (L s))
      → more.gained ≡ stretches (other_after J read.p (L s)) read.n → more.lost ≡ stretches (L s) read.n → more.longest ≡ more.gained → Together changes more next → Renewed read J L k changes next area last
  merged_row changes more next area last kept row eg el em together = record {
    kept = kept;
    row = row_eq last (row_of read.n k) read.n (other_after J read.p (L s)) (new_of J read.p read.j L k) moved_is row;
    more = more;
    balance = omega (arith, comes_is, stands_is);
    most = λ B under. omega (arith, stands_is);
    together = together;
  }

-- whatever a read finds
module _ (list : List ℕ) {read : RowRead} {s k : ℕ} {from to : Span} (way : Way read s k from to) (changes : Changes) (area : List ℕ) (fits : Fits read (length area)) where
  kept_there : (last : List ℕ) → Kept area last to.start to.room → Kept area last (row_start read.n k) (row_room read.n k)
  kept_there last kept = rw way.to_is at kept

  -- a list that is carried
  renews_carried : (last : List ℕ) → Kept area last to.start to.room
      → ((J : ℕ → ℕ) (L : ℕ → ℕ → ℕ) → Finds list read J L → RowAt area read s (L s) → Carried area last from to read.n read.p J (L s) (L k))
      → Renews list read s k changes changes area last
  renews_carried last kept carried J L finds source was =
      let new = (rw (way.from_is, way.to_is) at (carried J L finds source)) source was (moved_fits way list J L fits.read_at finds) in
      carried_row read way.other way.source J L changes area last (kept_there last kept) new.0 new.1

  -- none
  pub renews_none : (last : List ℕ) → Kept area last to.start to.room → CarriedNone area last from to → Renews list read s k changes changes area last
  renews_none last kept none =
      renews_carried last kept
      (λ J L finds row. none read.n read.p J (L s) (L k) fits.read_at (⊎_elim (λ there. inl (omega (arith, there, way.low))) (λ gone. inr gone) (finds.family.last s)) (finds.family.good s))

  -- one that a function carries where there is a block, in an area that is still as it was
  pub renews_block : (before last : List ℕ) → before ≡ area → 0 < get_or area from.start 0 → Kept before last to.start to.room
      → ((J : ℕ → ℕ) (L : ℕ → ℕ → ℕ) → Finds list read J L → L s read.n ≡ s → Carried before last from to read.n read.p J (L s) (L k))
      → Renews list read s k changes changes area last
  renews_block before last e some kept carried =
      renews_carried last (rw e at kept)
      (λ J L finds row. rw e at (carried J L finds (block_there L area (row_of read.n s) read.n s finds.family (omega (arith, row_room_lem read (length area) s fits way.low way.within)) row (rw way.from_is at some))))

  -- one that is merged
  pub renews_merged : (before last : List ℕ) → before ≡ area → (more next : Changes) → Kept before last to.start to.room
      → Merged list before last (span from.start from.room) (span to.start to.room) read.n read.p more → Together changes more next → Renews list read s k changes next area last
  renews_merged before last e more next kept merged together J L finds source was =
      let good = finds.family.good in
      let new = (rw (e, way.from_is, way.to_is) at merged) J (L s) (L k) finds.falling (good s) finds.begins source was (moved_fits way list J L fits.read_at finds) in
      merged_row read way.other way.source J L changes more next area last (kept_there last (rw e at kept)) new.0 new.1 new.2 new.3 together

-- a list that the read leaves as it is
pub still_row : {read : RowRead} {k : ℕ} {row : Span} → Way read k k row row → (J : ℕ → ℕ) (L : ℕ → ℕ → ℕ) (changes : Changes) (area : List ℕ) → ((m : ℕ) → m ≤ read.n → other_after J read.p (L k) m ≡ L k m) → RowAt area read k (L k) → Renewed read J L k changes changes area area
still_row {read} {k} way J L changes area same row =
    carried_row read way.other way.source J L changes area area (kept_same area (row_start read.n k) (row_room read.n k))
    (row_same (L k) (other_after J read.p (L k)) read.n (λ m h. sym (same m h)) row)
    (stretches_same (other_after J read.p (L k)) (L k) read.n same)

-- the last row, where the block read leaves the card that it is not put in
pub emptied_row : (read : RowRead) (J : ℕ → ℕ) (L : ℕ → ℕ → ℕ) (changes : Changes) (area last : List ℕ) → Fits read (length area) → read.n < read.p → 0 < read.j → read.j ≤ read.n → Family L read.n → Kept area last (row_start read.n read.n) (row_room read.n read.n)
    → ((q : ℕ) → q < row_room read.n read.n → get_or last (row_start read.n read.n + q) 0 ≡ 0) → Renewed read J L read.n changes changes area last
emptied_row read J L changes area last fits past present within fam kept zeros =
    let none = fam.past in
    let gone = after_none J read.p (L (read.n + 1)) fits.read_at none in
    carried_row read (λ e. omega arith) (sym (source_up read.p read.j read.n (omega arith) present within)) J L changes area last kept
    (row_none last (row_of read.n read.n) read.n (other_after J read.p (L (read.n + 1))) zeros gone)
    (stretches_nowhere (other_after J read.p (L (read.n + 1))) read.n gone ∙ sym (stretches_nowhere (L (read.n + 1)) read.n none))

-- the block read
pub own_row : (read : RowRead) (J : ℕ → ℕ) (L : ℕ → ℕ → ℕ) (changes next : Changes) (area last : List ℕ) → 0 < read.p → read.p ≤ read.n → Kept area last (row_start read.n read.p) (row_room read.n read.p) → RowAt last read read.p (own read.p)
    → (more : Changes) → more.gained ≡ 1 → more.lost ≡ 0 → more.longest ≡ 1 → Together changes more next → Renewed read J L read.p changes next area last
unfolding moved_of
own_row read J L changes next area last pos le kept row more eg el em together =
    let new = new_own J read.p read.j L read.p refl in
    let one : stands read J L read.p ≡ 1 = ap (λ (F : ℕ → ℕ). stretches F read.n) new ∙ omega (arith, length_pairs (own read.p) read.n, own_length) in
    let none : comes read L read.p ≡ 0 = simp tests in
    record {
      kept = kept;
      row = row_eq last (row_of read.n read.p) read.n (own read.p) (new_of J read.p read.j L read.p) new row;
      more = more;
      balance = omega (arith, one, none);
      most = λ B under. omega (arith, one);
      together = together;
    }
  where
    own_length : length (pairs (own read.p) read.n) ≡ 2
    own_length = ap length (pairs_own read.p read.n pos le)
