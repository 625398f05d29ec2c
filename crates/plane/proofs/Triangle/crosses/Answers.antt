-- `Triangle::crosses` meets its contract: a branch for a side that starts not above the height, and one for a side that starts above it. Assumes nothing.
use mathlib.Core.Path.{◌≡◌, ◌∙◌}
use borrow.Author.Rules.{rules}
use mir.Syntax.{w32, w64}
use mir.Val.{to_z, of_z}
use Rattle.plane.proofs.SideLaws.{crosses-rising, crosses-falling}
use Rattle.plane.proofs.Triangle.crosses.Goals as goal

pub returns-then-a-p : goal.returns-then-a-p
returns-then-a-p c =
    let x = c.args.self in
    let a : to_z w32 (of_z w32 x.a.y) ≡ x.a.y = search rules in
    let b : to_z w32 (of_z w32 x.b.y) ≡ x.b.y = search rules in
    let p : to_z w32 (of_z w32 x.p.y) ≡ x.p.y = search rules in
    let area : to_z w64 (of_z w64 x.area) ≡ x.area = search rules in
    crosses-rising x.a x.b x.p a b p (area ∙ x.twice) c.if-a-p.true

pub returns-else-a-p : goal.returns-else-a-p
returns-else-a-p c =
    let x = c.args.self in
    let a : to_z w32 (of_z w32 x.a.y) ≡ x.a.y = search rules in
    let b : to_z w32 (of_z w32 x.b.y) ≡ x.b.y = search rules in
    let p : to_z w32 (of_z w32 x.p.y) ≡ x.p.y = search rules in
    let area : to_z w64 (of_z w64 x.area) ≡ x.area = search rules in
    crosses-falling x.a x.b x.p a b p (area ∙ x.twice) c.if-a-p.false
