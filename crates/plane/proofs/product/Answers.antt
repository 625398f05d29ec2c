-- `plane::product` meets its contract: differences of numbers in range and their product fit 64 bits. Assumes nothing.
use Rattle.integers.proofs.BoundLaws.{product-fits, reads-product}
use Rattle.plane.proofs.WithinLaws.{reads-difference}
use Rattle.plane.proofs.product.Goals as goal

pub overflow_mul-result : goal.overflow_mul-result
overflow_mul-result c =
    let x = c.args in
    let h = c.requires in
    product-fits
    (reads-difference x.a x.b h.0 h.1 c.difference.ensures)
    (reads-difference x.c x.d h.2 h.3 c.difference-2.ensures) tt

pub returns : goal.returns
returns c =
    let x = c.args in
    let h = c.requires in
    (reads-product
    (reads-difference x.a x.b h.0 h.1 c.difference.ensures)
    (reads-difference x.c x.d h.2 h.3 c.difference-2.ensures) tt).is
