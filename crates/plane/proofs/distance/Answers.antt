-- `plane::distance` meets its contract: the sum of two products fits 64 bits. Assumes nothing.
use Rattle.integers.proofs.BoundLaws.{sum_fits, reads-sum}
use Rattle.geometry.specs.Plane.{distance}
use Rattle.plane.proofs.WithinLaws.{reads-product}
use Rattle.plane.proofs.distance.Goals as goal

pub overflow_add-result : goal.overflow_add-result
overflow_add-result c =
    let x = c.args in
    let h = c.requires in
    sum_fits
    (reads-product x.c.x x.p.x x.c.x x.p.x h.0.across h.1.across h.0.across h.1.across
    c.product.ensures)
    (reads-product x.c.y x.p.y x.c.y x.p.y h.0.up h.1.up h.0.up h.1.up
    c.product-2.ensures) tt

pub returns : goal.returns
unfolding distance
returns c =
    let x = c.args in
    let h = c.requires in
    (reads-sum
    (reads-product x.c.x x.p.x x.c.x x.p.x h.0.across h.1.across h.0.across h.1.across
    c.product.ensures)
    (reads-product x.c.y x.p.y x.c.y x.p.y h.0.up h.1.up h.0.up h.1.up
    c.product-2.ensures) tt).is
