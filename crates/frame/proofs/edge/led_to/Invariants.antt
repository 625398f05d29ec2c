-- `edge::led_to` meets its contract. The loop has set the states of the edges below e. Assumes nothing.
use Rattle.std.proofs.Common.{Bool, ◌≡◌, ℕ, replicate}
use Rattle.laws.specs.Bits.{set_all}
use Rattle.frame.specs.InTable.{leads_to}
use Rattle.frame.proofs.edge.led_to.Given as goal

abbrev pub invariant-loop-e : goal.invariant-loop-e
invariant-loop-e g l =
    (p : ℕ → Bool) → ((e : ℕ) (b : Bool) → goal.F-post g l.taken e b → b ≡ p e) → l.states ≡ set_all p (leads_to l.table) l.e (replicate 64 0)
