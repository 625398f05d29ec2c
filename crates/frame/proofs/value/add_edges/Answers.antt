-- `value::add_edges` meets its contract. Assumes nothing.
use Rattle.laws.specs.Bits.{set_all}
use Rattle.laws.proofs.BitLaws.{set_all-more}
use borrow.Author.Rules.{rules}
use mathlib.Core.Path.{refl}
use Rattle.frame.proofs.value.add_edges.Goals as goal

pub loop-e-init : goal.loop-e-init
unfolding set_all
loop-e-init c = refl

pub loop-e-preserved : goal.loop-e-preserved
loop-e-preserved c = search (rules, set_all-more, refl)
