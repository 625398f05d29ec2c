-- `mask::mask_has` meets its contract. Assumes nothing.
use Rattle.frame.proofs.MaskLaws.{mask_has-apart}
use Rattle.frame.proofs.mask.mask_has.Goals as goal

pub returns-then-has_last_bits : goal.returns-then-has_last_bits
returns-then-has_last_bits c = rw (mask_has-apart, ← c.has_last_bits.ensures, c.if-has_last_bits.true)

pub returns-else-has_last_bits : goal.returns-else-has_last_bits
returns-else-has_last_bits c = rw (mask_has-apart, ← c.has_last_bits.ensures, c.if-has_last_bits.false)
