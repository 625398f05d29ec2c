-- `fill`: what one more read gave stands behind what was read before. Assumes nothing.
use Rattle.std.proofs.Common.{◌≡◌, ℕ, ◌+◌, ◌≤◌, List, ◌++◌, rules, length, take, sym, ap, ◌∙◌, subst, length-take-le}
use Rattle.std.proofs.Math.Seq.{take-append-add}
use Rattle.std.proofs.lemmas.List.{take-append-le}
use Rattle.std.specs.Io.KnownBytes.{Consumes}
use Rattle.std.proofs.KnownBytes.{Consumes-trans}
use Rattle.lent_file.proofs.fill.Goals as goal

behind : (a n : ℕ) (xs ys after : List ℕ) → a ≤ length xs → n ≤ length ys → take a xs ++ take n ys ≡ take (a + n) (take a xs ++ (ys ++ after))
behind a n xs ys after within fits =
    let front : length (take a xs) ≡ a = length-take-le a xs within in
    ap (λ l. take a xs ++ l) (sym (take-append-le n ys after fits)) ∙ sym (take-append-add (take a xs) (ys ++ after) n)
    ∙ ap (λ k. take (k + n) (take a xs ++ (ys ++ after))) front

pub loop-n-preserved : goal.loop-n-preserved
loop-n-preserved g c =
    let before = c.loop-n.invariant in
    let read = c.in-Ok.ensures in
    (search rules, subst (Consumes _ _) (behind _ _ _ _ _ before.0 read.bound.0) (Consumes-trans _ _ _ _ _ before.1 read.bytes.0))
