-- `mask::mask_of` meets its contract: a law for a scalar and one for a set of rules. Assumes nothing.
use native.Mathlib.Omega.{arith}
use Rattle.table.specs.Kind.{code_of}
use Rattle.frame.proofs.MaskLaws.{mask_has-scalar_mask, mask_has-rules-shl}
use borrow.Author.Rules.{rules}
use Rattle.frame.proofs.mask.mask_of.Goals as goal

pub overflow_shl-result : goal.overflow_shl-result
unfolding code_of
overflow_shl-result c = omega (arith, c.code.ensures)

pub returns-in-Scalar : goal.returns-in-Scalar
returns-in-Scalar c = λ code. rw (c.scalar_mask.ensures, c.in-Scalar.is) (mask_has-scalar_mask _ code)

pub returns-in-Rules : goal.returns-in-Rules
returns-in-Rules c = λ code. rw (c.in-Rules.is, c.from.ensures) (mask_has-rules-shl _ _ (search rules) c.code.ensures code)
