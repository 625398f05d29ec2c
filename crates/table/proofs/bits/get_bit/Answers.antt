-- `bits::get_bit` meets its contract: in the list it is the shifted bit, past its end no bit is set. Assumes nothing.
use Rattle.laws.proofs.BitLaws.{bit_at-out}
use Rattle.laws.specs.Bits.{bit_at}
use mathlib.Core.Path.{refl, sym}
use Rattle.table.proofs.bits.get_bit.Goals as goal

pub returns-in-Some : goal.returns-in-Some
unfolding bit_at
returns-in-Some c = rw (c.in-Some.ensures.lookup.3.1 0) refl

pub returns-in-None : goal.returns-in-None
returns-in-None c = sym (bit_at-out _ _ c.in-None.ensures.lookup.3)
