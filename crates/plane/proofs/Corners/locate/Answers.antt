-- `Corners::locate` meets its contract: what is known after i corners, with the corners that are left, gives where p lies. Assumes nothing.
use Rattle.std.proofs.Common.{◌≡◌, ℕ, ◌/◌, length, arith, ap, subst, ◌∙◌}
use Rattle.geometry.specs.declared.Point.{Point}
use Rattle.plane.specs.Lent.{corners_of}
use Rattle.plane.specs.Scan.{begun, stepped, Scanned}
use Rattle.plane.proofs.ScanLaws.{corner-in-range, scan-start, scan-on, scan-end}
use Rattle.plane.proofs.Corners.locate.Goals as goal

pub loop-i-init : goal.loop-i-init
loop-i-init c =
    let x = c.args.self.now in
    rw (c.begun-s.ensures ∙ ap begun c.corner.ensures) (scan-start x.numbers.now (length x.numbers.now / 2) c.args.p x.held c.requires)

pub stepped-s-requires : goal.stepped-s-requires
stepped-s-requires c =
    (c.loop-i.invariant.range, rw c.corner-c.ensures (corner-in-range c.args.self.now.held c.loop-i.i), c.requires)

pub loop-i-preserved : goal.loop-i-preserved
loop-i-preserved c =
    let x = c.args.self.now in
    let i = c.loop-i.i in
    rw
    (c.stepped-s.ensures ∙ ap (λ (q : Point). stepped c.args.p i q c.loop-i.s) c.corner-c.ensures)
    (scan-on x.numbers.now (length x.numbers.now / 2) c.args.p i c.loop-i.s x.held c.loop-i-test.true c.loop-i.invariant)

pub returns : goal.returns
unfolding corners_of
returns c =
    let l = c.args.self.now.numbers.now in
    let n = length l / 2 in
    let all : c.loop-i.i ≡ n = omega (arith, c.loop-i.invariant.most, c.loop-i-test.false) in
    c.answer.ensures ∙ scan-end l n c.args.p c.loop-i.s (subst (λ (i : ℕ). Scanned l n c.args.p i c.loop-i.s) all c.loop-i.invariant)
