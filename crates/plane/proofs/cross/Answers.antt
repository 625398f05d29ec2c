-- `plane::cross` meets its contract: the difference of two products fits 64 bits. Assumes nothing.
use Rattle.integers.proofs.BoundLaws.{difference-fits, reads-difference}
use Rattle.geometry.specs.Tests.{cross}
use Rattle.plane.proofs.WithinLaws.{reads-product}
use Rattle.plane.proofs.cross.Goals as goal

pub overflow_sub-result : goal.overflow_sub-result
overflow_sub-result c =
    let x = c.args in
    let h = c.requires in
    difference-fits
    (reads-product x.b.x x.a.x x.p.y x.a.y h.1.across h.0.across h.2.up h.0.up
    c.product.ensures)
    (reads-product x.b.y x.a.y x.p.x x.a.x h.1.up h.0.up h.2.across h.0.across
    c.product-2.ensures) tt

pub returns : goal.returns
unfolding cross
returns c =
    let x = c.args in
    let h = c.requires in
    (reads-difference
    (reads-product x.b.x x.a.x x.p.y x.a.y h.1.across h.0.across h.2.up h.0.up
    c.product.ensures)
    (reads-product x.b.y x.a.y x.p.x x.a.x h.1.up h.0.up h.2.across h.0.across
    c.product-2.ensures) tt).is
