-- `bits::set_if` meets its contract: in the list the bit is set, past its end nothing is. Assumes nothing.
use Prim.Native.Nat.{◌%◌}
use Rattle.laws.proofs.BitLaws.{one_shl, set_bit-out}
use Rattle.laws.specs.Bits.{set_bit}
use mathlib.Core.Path.{refl, sym}
use native.Mathlib.Omega.{arith}
use Rattle.table.proofs.bits.set_if.Goals as goal
use Rattle.table.proofs.bits.set_if.Goals.{else-on-via-then-on+else-i-s, else-on-via-else-on}

pub returns-then-i-s : goal.returns-then-i-s
unfolding set_bit
returns-then-i-s c = rw (c.if-on.true, one_shl 8 (c.args.i % 8) (omega arith)) refl

pub returns-else-on : goal.returns-else-on
returns-else-on c = elim c.else-on.branch [ else-on-via-then-on+else-i-s w ↦ rw w.if-on.true (sym (set_bit-out _ _ w.if-i-s.false)) | else-on-via-else-on w ↦ rw w.if-on.false refl ]
