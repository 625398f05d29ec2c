-- `Triangle::on_segment` meets its contract: the box is tested where the cross product is 0. Assumes nothing.
use mathlib.Core.Path.{◌≡◌, ◌∙◌}
use borrow.Author.Rules.{rules}
use borrow.Author.Tests.{ne_eqb}
use mir.Syntax.{w32, w64}
use mir.Val.{SFits, to_z, of_z}
use Rattle.plane.proofs.SideLaws.{is_zero-of-bits, nonzero-of-bits, between-same, on_segment-in-line, on_segment-beside}
use Rattle.plane.proofs.Triangle.on_segment.Goals as goal

pub returns-then-area-eq0 : goal.returns-then-area-eq0
returns-then-area-eq0 c =
    let x = c.args.self in
    let ax : to_z w32 (of_z w32 x.a.x) ≡ x.a.x = search rules in
    let bx : to_z w32 (of_z w32 x.b.x) ≡ x.b.x = search rules in
    let px : to_z w32 (of_z w32 x.p.x) ≡ x.p.x = search rules in
    let ay : to_z w32 (of_z w32 x.a.y) ≡ x.a.y = search rules in
    let by : to_z w32 (of_z w32 x.b.y) ≡ x.b.y = search rules in
    let py : to_z w32 (of_z w32 x.p.y) ≡ x.p.y = search rules in
    let fits : SFits w64 x.area = search rules in
    let across = between-same c.between.ensures ax bx px in
    let up = between-same c.between-then-area-eq0.ensures ay by py in
    on_segment-in-line x.a x.b x.p x.twice (is_zero-of-bits x.area fits c.if-area-eq0.true) across up

pub returns-else-area-eq0 : goal.returns-else-area-eq0
returns-else-area-eq0 c =
    let x = c.args.self in
    ne_eqb _ 0 c.if-area-eq0.false ∙ on_segment-beside x.a x.b x.p x.twice (nonzero-of-bits x.area c.if-area-eq0.false)
