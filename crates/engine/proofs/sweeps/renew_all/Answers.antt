-- The rows are renewed at the priority in reach, which does the same up to the largest size.
use native.Mathlib.Omega.{arith}
use mathlib.Core.Path.{◌≡◌, refl, ap, ◌∙◌}
use Prim.Native.Nat.{ℕ, ◌+◌, ◌≤◌, max, min}
use Rattle.card.specs.Stretches.{stretches}
use Rattle.engine.specs.Moves.{new_of}
use Rattle.engine.proofs.lists.PairLists.{stretches_same}
use Rattle.engine.proofs.Widths.{list_room_lem}
use Rattle.engine.proofs.rows.RowLaws.{row_same}
use Rattle.engine.proofs.rows.RowCounts.{stretches_nowhere}
use Rattle.engine.proofs.sweeps.Exchanges.{sum_same, most_same, exchange}
use Rattle.engine.proofs.sweeps.Clamps.{clamped}
use Rattle.engine.proofs.sweeps.Turns.{found_finds}
use Rattle.engine.proofs.sweeps.renew_all.Goals as goal

pub overflow_cast-read : goal.overflow_cast-read
overflow_cast-read c = omega (arith, list_room_lem c.args.n c.requires.in_range)

pub overflow_cast-read-2 : goal.overflow_cast-read-2
overflow_cast-read-2 c = omega (arith, list_room_lem c.args.n c.requires.in_range, c.min.ensures)

pub overflow_cast-read-3 : goal.overflow_cast-read-3
overflow_cast-read-3 c = omega (arith, list_room_lem c.args.n c.requires.in_range, c.requires.within)

pub leaving-requires : goal.leaving-requires
leaving-requires c =
    let pre = c.requires in
    let low = list_room_lem c.args.n pre.in_range in
    let reach = c.min.ensures in
    let ew = c.row_length.ensures in
    (record { read_at = omega (arith, pre.read_at); some = pre.some; narrow = omega arith; wide = ew; room = pre.room }, pre.within, omega (arith, pre.listed))

pub renew_rows-requires : goal.renew_rows-requires
renew_rows-requires c =
    let pre = c.requires in
    let low = list_room_lem c.args.n pre.in_range in
    let reach = c.min.ensures in
    let ew = c.row_length.ensures in
    let left = c.leaving.ensures.range in (
      record {
        ready = record {
          fits = record { read_at = omega (arith, pre.read_at); some = pre.some; narrow = omega arith; wide = ew; room = pre.room };
          listed = omega (arith, pre.listed);
          spare = omega (arith, pre.spare);
          small = (omega arith, omega arith);
        };
        fresh = (refl, omega arith, refl);
      },
      pre.within,
      λ z. omega (arith, pre.put_in z),
    )

-- the priority in reach does the same up to the largest size
same_count : (J : ℕ → ℕ) (j : ℕ) (L : ℕ → ℕ → ℕ) (n p c : ℕ) → c ≡ min p (n + 1) → (k : ℕ) → 1 ≤ k → k ≤ n → stretches (new_of J c j L k) n ≡ stretches (new_of J p j L k) n
same_count J j L n p c reach k a b = stretches_same (new_of J c j L k) (new_of J p j L k) n (λ m hm. clamped J j L n k m b hm p c reach)

pub returns-clause-rows : goal.returns-clause-rows
returns-clause-rows c J L f k a b =
    let at = c.args in
    row_same (new_of J c.min.result at.j L k) (new_of J at.p at.j L k) at.n (λ m hm. clamped J at.j L at.n k m b hm at.p _ c.min.ensures) ((c.renew_rows.ensures.renewed J L (found_finds _ _ _ J L f) f.rows).0 k a b)

pub returns-clause-changes : goal.returns-clause-changes
returns-clause-changes c J L f =
    let at = c.args in
    let n = at.n in
    let pre = c.requires in
    omega (
      arith,
      (c.renew_rows.ensures.renewed J L (found_finds _ _ _ J L f) f.rows).1.0,
      c.leaving.ensures.left J L (found_finds _ _ _ J L f) (f.rows n pre.some (omega arith)),
      exchange (λ k. stretches (L k) n) (stretches J n) n c.min.result at.j (omega (arith, c.min.ensures, pre.read_at)) pre.some pre.within (stretches_nowhere (L (n + 1)) n f.family.past) (λ pos. stretches_same (L at.j) J n (λ m hm. f.same pos m)),
      sum_same (λ k. stretches (new_of J c.min.result at.j L k) n) (λ k. stretches (new_of J at.p at.j L k) n) n (same_count J at.j L n at.p _ c.min.ensures),
    )

pub returns-clause-longest : goal.returns-clause-longest
returns-clause-longest c J L f B h =
    let at = c.args in
    (c.renew_rows.ensures.renewed J L (found_finds _ _ _ J L f) f.rows).1.1 B h
    ∙ ap (max B) (most_same (λ k. stretches (new_of J c.min.result at.j L k) at.n) (λ k. stretches (new_of J at.p at.j L k) at.n) at.n (same_count J at.j L at.n at.p _ c.min.ensures))
