-- `mask::bit_if_fits` meets its contract: a law for a scalar that fits and one for a scalar that does not. Assumes nothing.
use native.Mathlib.Omega.{arith}
use Rattle.frame.proofs.MaskLaws.{plain-code-lt, plain-bit-le, bit-of-fit, bit-of-misfit}
use borrow.Author.Rules.{rules}
use Rattle.frame.proofs.mask.bit_if_fits.Goals as goal

pub overflow_shl-result : goal.overflow_shl-result
overflow_shl-result c = omega (arith, plain-code-lt _ _ c.code.ensures)

pub returns-then-fits : goal.returns-then-fits
returns-then-fits c = (search (rules, bit-of-fit), search (rules, plain-bit-le))

pub returns : goal.returns
returns c = (search (rules, bit-of-misfit), search rules)
