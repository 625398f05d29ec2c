-- One byte that ends no record, with any step of it. Derived: with the byte's own step it is `step_mem` of crate progress (`turned-step_mem`). Assumes
-- nothing.
use Rattle.std.specs.Prelude.{Bool, cond, List, ◌≡◌, ℕ, ◌-◌, eqb}
use Rattle.table.specs.Kind.{rule_fits}
use Rattle.table.specs.declared.kind.Finished.TheVariants as Done
use Rattle.json_text.specs.declared.lexer.Step.{Step}
use Rattle.table.specs.Table.{Table}
use Rattle.progress.specs.Progress.{advanced}
use Rattle.progress.specs.Memory.{Mem, mem, rules_at, value_at, perform}
use Rattle.turn.specs.declared.Record.{Record}

-- the memory of an open record with its key, whose frames are in the buffer w
abbrev pub memory : Record → List ℕ → List ℕ → Mem
memory r key w = mem r.progress r.root key w

-- the value of level l is closed: what becomes of the root and of the buffer
pub record ClosedTo (t : Table) (w : List ℕ) (l : ℕ) (old new : Bool) (v : List ℕ) : Type 0 where
  pub root : new ≡ cond (eqb l 1) (rule_fits (rules_at t w l) 0) old
  pub work : v ≡ value_at t w (l - 1) (Done.Rules (rules_at t w l))

-- the memory after byte b, of which the lexer makes the step st, with n frames
abbrev pub turned : Table → ℕ → Mem → ℕ → Step → Mem
turned t n m b st = perform (advanced m.progress n b st).task t m (advanced m.progress n b st).progress
