-- From which row a list comes to another, and that both lie in the area.
use mathlib.Core.Path.{◌≡◌, sym, ap₂, ◌∙◌}
use mathlib.Core.Logic.{◌⊎◌, ◌≢◌, inl, inr, ⊎_elim}
use mathlib.Core.List.{List}
use Prim.Native.Nat.{ℕ, ◌+◌, ◌-◌, ◌≤◌, ◌<◌}
use native.Mathlib.Omega.{arith}
use lib.ListN.{length}
use Rattle.card.specs.Moves.{taken_out, put_in}
use Rattle.engine.specs.Moves.{other_after, source_of}
use Rattle.engine.specs.Rows.{pairs, row_length, row_start, row_room, row_of, span}
use Rattle.engine.specs.RowMoves.{BothRows, MergeReady}
use Rattle.engine.specs.Renewals.{Fits, Above, Below, Sinks, Finds}
use Rattle.engine.specs.declared.rows.Span.{Span}
use Rattle.engine.specs.declared.renewals.RowRead.{RowRead}
use Rattle.engine.proofs.lists.PairLaws.{after_good}
use Rattle.engine.proofs.rows.RowLaws.{after_none, source_above, source_below, source_down, source_up}
use Rattle.engine.proofs.renewals.Sources.{source_from}
use Rattle.engine.proofs.rows.RowLayout.{row_inside, room_some, room_most, row_fits}

-- the row of a place lies in the area, and two numbers fit in it
pub row_room_lem : (read : RowRead) (area k : ℕ) → Fits read area → 0 < k → k ≤ read.n → (2 ≤ row_room read.n k) × (row_start read.n k + row_room read.n k ≤ area)
row_room_lem read area k fits some le = (room_some read.n k some le, omega (arith, row_inside read.n k some le, fits.room))

-- what comes to place k, which is not the block read, is at place s; these are their rows
pub record Way (read : RowRead) (s k : ℕ) (from to : Span) : Type 0 where
  pub low : 0 < s
  pub within : s ≤ read.n
  pub to_low : 0 < k
  pub to_within : k ≤ read.n
  pub other : k ≢ read.p
  pub source : s ≡ source_of read.p read.j k
  pub from_is : from ≡ row_of read.n s
  pub to_is : to ≡ row_of read.n k

module _ {read : RowRead} {s k : ℕ} {from to : Span} (way : Way read s k from to) where
  -- the list that comes to place k fits its row
  module _ (list : List ℕ) (J : ℕ → ℕ) (L : ℕ → ℕ → ℕ) (pos : 0 < read.p) (finds : Finds list read J L) where
    moved_there : (other_after J read.p (L s) read.n ≡ k) ⊎ ((m : ℕ) → other_after J read.p (L s) m ≡ 0)
    unfolding other_after
    moved_there = ⊎_elim
        (λ here. inl (ap₂ (λ (j l : ℕ). put_in read.p read.n (taken_out j l)) (sym finds.there) here
        ∙ (source_from read.p read.j read.n pos (omega (arith, finds.there, finds.falling.fits read.n)) s k way.source way.to_low way.to_within way.other way.low way.within).1))
        (λ none. inr (after_none J read.p (L s) pos none))
        (finds.family.last s)

    pub moved_fits : length (pairs (other_after J read.p (L s)) read.n) ≤ row_room read.n k
    moved_fits = row_fits read.n (other_after J read.p (L s)) k (after_good J (L s) read.p pos finds.falling (finds.family.good s)) moved_there

module _ (read : RowRead) (k : ℕ) where
  -- a row keeps its block
  way_still : {row : Span} → row ≡ row_of read.n k → 0 < k → k ≤ read.n → k ≢ read.p → source_of read.p read.j k ≡ k → Way read k k row row
  way_still is some le ne source = record {
    low = some;
    within = le;
    to_low = some;
    to_within = le;
    other = ne;
    source = sym source;
    from_is = is;
    to_is = is;
  }

  pub way_above : {row : Span} {lo : ℕ} → row ≡ row_of read.n k → Above read lo → 0 < k → k < lo → Way read k k row row
  way_above is above some lt =
      way_still is some (omega (arith, above.within)) (λ e. omega (arith, above.reach)) (source_above read.p read.j k (omega (arith, above.reach)) (⊎_elim (λ none. inl none) (λ le. inr (omega arith)) above.side))

  pub way_below : {row : Span} → row ≡ row_of read.n k → Below read k → Way read k k row row
  way_below is below = way_still is (omega (arith, below.past)) below.within (λ e. omega (arith, below.lower)) (source_below read.p read.j k below.present below.past below.lower)

  -- what comes from the place above, or from the one below
  pub way_down : {from to : Span} → from ≡ row_of read.n (k - 1) → to ≡ row_of read.n k → 0 < read.p → read.p < k → k ≤ read.n → (read.j ≡ 0) ⊎ (k ≤ read.j) → Way read (k - 1) k from to
  way_down from_is to_is pos pk le side = record {
    low = omega arith;
    within = omega arith;
    to_low = omega arith;
    to_within = le;
    other = λ e. omega arith;
    source = sym (source_down read.p read.j k pk side);
    from_is = from_is;
    to_is = to_is;
  }

  pub way_up : {from to : Span} → from ≡ row_of read.n (k + 1) → to ≡ row_of read.n k → Sinks read (k + 1) → read.j ≤ k → Way read (k + 1) k from to
  way_up from_is to_is sinks reached = record {
    low = omega arith;
    within = sinks.within;
    to_low = omega (arith, sinks.present);
    to_within = omega (arith, sinks.within);
    other = λ e. omega (arith, sinks.reach);
    source = sym (source_up read.p read.j k (omega (arith, sinks.reach)) sinks.present reached);
    from_is = from_is;
    to_is = to_is;
  }
