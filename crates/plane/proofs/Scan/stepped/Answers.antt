-- `plane::stepped` meets its contract: a branch for a corner that is nearer than all before it, and one for another. Assumes nothing.
use mathlib.Core.Path.{◌≡◌, ◌∙◌}
use borrow.Author.Rules.{rules}
use mir.Syntax.{w64}
use mir.Val.{to_z, of_z}
use mathlib.Core.Bool.{Bool}
use Rattle.geometry.specs.declared.Point.{Point}
use Rattle.geometry.specs.Tests.{on_segment, crosses}
use Rattle.plane.proofs.ScanLaws.{stepped-nearer, stepped-farther}
use Rattle.plane.proofs.Scan.stepped.Goals as goal

pub returns-then-far-self : goal.returns-then-far-self
returns-then-far-self c =
    let x = c.args in
    let far : to_z w64 (of_z w64 c.distance-far.result) ≡ c.distance-far.result = search rules in
    let known : to_z w64 (of_z w64 x.self.distance) ≡ x.self.distance = search rules in
    let t = c.new-t in
    let ends : (f : Point → Point → Point → Bool) → f t.result.a t.result.b t.result.p ≡ f x.self.before x.c x.p = λ f. rw (t.ensures.0, t.ensures.1, t.ensures.2) in
    stepped-nearer x.p x.i x.c x.self (c.on_segment.ensures ∙ ends on_segment) (c.crosses.ensures ∙ ends crosses) (far ∙ c.distance-far.ensures) known c.if-far-self.true

pub returns-else-far-self : goal.returns-else-far-self
returns-else-far-self c =
    let x = c.args in
    let far : to_z w64 (of_z w64 c.distance-far.result) ≡ c.distance-far.result = search rules in
    let known : to_z w64 (of_z w64 x.self.distance) ≡ x.self.distance = search rules in
    let t = c.new-t in
    let ends : (f : Point → Point → Point → Bool) → f t.result.a t.result.b t.result.p ≡ f x.self.before x.c x.p = λ f. rw (t.ensures.0, t.ensures.1, t.ensures.2) in
    stepped-farther x.p x.i x.c x.self (c.on_segment.ensures ∙ ends on_segment) (c.crosses.ensures ∙ ends crosses) (far ∙ c.distance-far.ensures) known c.if-far-self.false
