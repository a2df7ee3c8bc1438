-- Two reads that stand in the input one after the other consumed what stands there together.
use Rattle.std.proofs.Common.{◌≡◌, ℕ, ◌+◌, ◌≤◌, List, ◌++◌, rules, length, take, ap, ◌∙◌, length-take-le}
use Rattle.std.proofs.KnownBytes.{Consumes-trans}
use Rattle.std.proofs.Math.Seq.{take-append-add, take-append-le}
use borrow.Rule.Slice.PartMut.{put_mid, post_of}
use Rattle.sheet.proofs.read_input.Goals as goal

take_read : (a k n : ℕ) (xs ys : List ℕ) → a ≤ length xs → n ≤ length ys → take (a + n) (put_mid a k xs ys) ≡ take a xs ++ take n ys
take_read a k n xs ys h g =
    let joined = rw (length-take-le a xs h) at (take-append-add (take a xs) (ys ++ post_of a k xs) n) in
    joined ∙ ap (λ l. take a xs ++ l) (take-append-le n ys (post_of a k xs) g)

pub loop-length-preserved : goal.loop-length-preserved
loop-length-preserved g c =
    let loop = c.loop-length in
    let read = c.in_ok-more.ensures in
    (search rules, search rules, rw (take_read _ _ _ _ _ loop.invariant.0 read.within) (Consumes-trans _ _ _ _ _ loop.invariant.2 read.bytes))
