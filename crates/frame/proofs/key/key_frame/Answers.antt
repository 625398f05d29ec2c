-- `key::key_frame` meets its contract: a law for each of the three cases. Assumes nothing.
use Rattle.frame.proofs.KeyLaws.{keyed-unknown, keyed-again, keyed-new}
use mathlib.Core.Path.{sym, ◌∙◌}
use native.Mathlib.Omega.{arith}
use Rattle.frame.proofs.key.key_frame.Goals as goal

pub returns-then-get_bit : goal.returns-then-get_bit
returns-then-get_bit c = keyed-again _ _ (omega arith) (sym c.get_bit.ensures ∙ c.if-get_bit.true)

pub returns-else-get_bit : goal.returns-else-get_bit
returns-else-get_bit c =
    c.set_if.ensures ∙ keyed-new _ _ (omega arith) (sym c.get_bit.ensures ∙ c.if-get_bit.false)

pub returns-else-key-lt128 : goal.returns-else-key-lt128
returns-else-key-lt128 c = keyed-unknown _ _ (omega arith)
