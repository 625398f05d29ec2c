-- A task tells which byte it is, how the level moves and where it writes. Assumes nothing.
use Rattle.std.specs.Prelude.{Some, None}
use mathlib.Core.Bool.{Bool, true, false, cond}
use mathlib.Core.Path.{◌≡◌, refl, sym, ◌∙◌}
use Prim.Native.Nat.{ℕ, ◌+◌, ◌-◌}
use native.Mathlib.Omega.{arith}
use lib.Dec.{ltb}
use Rattle.laws.proofs.TestLaws.{true-neq-false, cond-elim}
use Rattle.json_text.specs.declared.lexer.Act.{Act}
use Rattle.json_text.specs.declared.lexer.Act.TheVariants as A
use Rattle.table.specs.Table.{Table}
use Rattle.table.specs.declared.kind.Finished.TheVariants as Done
use Rattle.frame.specs.Frame.{put_frame}
use Rattle.frame.specs.Ops.{opened}
use Rattle.whole.specs.declared.Decimal.{Decimal}
use Rattle.progress.specs.declared.Fault.TheVariants as F
use Rattle.progress.specs.declared.Progress.{Progress}
use Rattle.progress.specs.declared.Task.{Task}
use Rattle.progress.specs.declared.Task.TheVariants as To
use Rattle.progress.specs.Act.{open_fault, open_level, first_fault, level_after, key_task, task_of}
use Rattle.progress.specs.Memory.{Mem, value_at, rules_at, close_at, perform}
use Rattle.stream.specs.Lent.{with_value, rules_of, form_opened}
use Rattle.stream.proofs.LexerLaws.{OpensBy, Between}
use Rattle.stream.proofs.SpareLaws.{with_value-none}

-- ---- what a task tells of the byte and of the levels

-- how the level moves from l to k
abbrev pub LevelBy : Task → ℕ → ℕ → Type 0
LevelBy To.Idle l k = k ≡ l
LevelBy To.Begin l k = k ≡ l
LevelBy (To.Put c) l k = k ≡ l
LevelBy To.Named l k = k ≡ l
LevelBy (To.Open o) l k = k ≡ l + 1
LevelBy (To.Finish s) l k = k ≡ l
LevelBy To.Close l k = k ≡ l - 1
LevelBy (To.FinishClose s) l k = k ≡ l - 1

-- a byte that opens a value opens one of the task's form
abbrev pub FormBy : Task → ℕ → Type 0
FormBy To.Idle b = Unit {0}
FormBy To.Begin b = Unit {0}
FormBy (To.Put c) b = Unit {0}
FormBy To.Named b = Unit {0}
FormBy (To.Open o) b = o ≡ form_opened b
FormBy (To.Finish s) b = Unit {0}
FormBy To.Close b = Unit {0}
FormBy (To.FinishClose s) b = Unit {0}

-- a number and its value are finished at once only where the byte ends a number
abbrev pub EndsBy : Task → Bool → Type 0
EndsBy To.Idle e = Unit {0}
EndsBy To.Begin e = Unit {0}
EndsBy (To.Put c) e = Unit {0}
EndsBy To.Named e = Unit {0}
EndsBy (To.Open o) e = Unit {0}
EndsBy (To.Finish s) e = Unit {0}
EndsBy To.Close e = Unit {0}
EndsBy (To.FinishClose s) e = e ≡ true

-- what a task tells at level l, where the level is `next` after it and e says whether the byte b ends a number
pub record Told (k : Task) (b l next : ℕ) (e : Bool) : Type 0 where
  pub level : LevelBy k l next
  pub form : FormBy k b
  pub ends : EndsBy k e

-- a byte without a fault opens a level where there is a frame for it
open_level-of-sound : (l n p : ℕ) → open_fault l n p ≡ None → open_level l n ≡ l + 1
unfolding open_fault open_level
open_level-of-sound l n p = go (ltb l n)
  where
    go : (v : Bool) → cond v None (Some (F.TooDeep p)) ≡ None → cond v (l + 1) l ≡ l + 1
    go true e = refl
    go false e = let z : ◌≡◌ {A = ℕ} 0 1 = cc in absurd (omega arith)

module _ (b l n p : ℕ) (d : Decimal) (len c : ℕ) where
  pub told-of-act : (a : Act) (e : Bool) → first_fault a l n p ≡ None → OpensBy a b → Told (task_of a e d len c) b l (level_after a l n) e
  unfolding key_task
  told-of-act A.Fault e f o = record { level = refl; form = tt; ends = tt }
  told-of-act A.Pass true f o = record { level = refl; form = tt; ends = tt }
  told-of-act A.Pass false f o = record { level = refl; form = tt; ends = tt }
  told-of-act A.OpenArray e f o = record { level = open_level-of-sound l n p f; form = rw o; ends = tt }
  told-of-act A.OpenObject e f o = record { level = open_level-of-sound l n p f; form = rw o; ends = tt }
  told-of-act A.Close true f o = record { level = refl; form = tt; ends = refl }
  told-of-act A.Close false f o = record { level = refl; form = tt; ends = tt }
  told-of-act A.KeyStart e f o = record { level = refl; form = tt; ends = tt }
  told-of-act A.KeyChar e f o =
      let P : Task → Type 0 = λ k. Told k b l l e in
      cond-elim P (ltb len 32)
      (λ _. cond-elim P (ltb c 128) (λ _. record { level = refl; form = tt; ends = tt }) (λ _. record { level = refl; form = tt; ends = tt }))
      (λ _. record { level = refl; form = tt; ends = tt })
  told-of-act A.KeyEnd e f o = record { level = refl; form = tt; ends = tt }
  told-of-act A.TextStart e f o = record { level = refl; form = tt; ends = tt }
  told-of-act A.TextChar e f o = record { level = refl; form = tt; ends = tt }
  told-of-act A.TextEnd e f o = record { level = refl; form = tt; ends = tt }
  told-of-act A.NumberStart e f o = record { level = refl; form = tt; ends = tt }
  told-of-act A.NumberByte e f o = record { level = refl; form = tt; ends = tt }
  told-of-act (A.WordEnd v) e f o = record { level = refl; form = tt; ends = tt }

-- a task that finishes no key and no scalar alone
abbrev pub NoFinish : Task → Type 0
NoFinish To.Idle = Unit {0}
NoFinish To.Begin = Unit {0}
NoFinish (To.Put c) = Unit {0}
NoFinish To.Named = ⊥
NoFinish (To.Open o) = Unit {0}
NoFinish (To.Finish s) = ⊥
NoFinish To.Close = Unit {0}
NoFinish (To.FinishClose s) = Unit {0}

pub no_finish-of-between : (a : Act) (e : Bool) (d : Decimal) (len c : ℕ) → Between a → e ≡ false → NoFinish (task_of a e d len c)
unfolding key_task
no_finish-of-between A.Fault e d len c n f = tt
no_finish-of-between A.Pass true d len c n f = true-neq-false f
no_finish-of-between A.Pass false d len c n f = tt
no_finish-of-between A.OpenArray e d len c n f = tt
no_finish-of-between A.OpenObject e d len c n f = tt
no_finish-of-between A.Close true d len c n f = tt
no_finish-of-between A.Close false d len c n f = tt
no_finish-of-between A.KeyStart e d len c n f = tt
no_finish-of-between A.KeyChar e d len c n f =
    cond-elim NoFinish (ltb len 32) (λ _. cond-elim NoFinish (ltb c 128) (λ _. tt) (λ _. tt)) (λ _. tt)
no_finish-of-between A.KeyEnd e d len c n f = absurd n
no_finish-of-between A.TextStart e d len c n f = tt
no_finish-of-between A.TextChar e d len c n f = tt
no_finish-of-between A.TextEnd e d len c n f = absurd n
no_finish-of-between A.NumberStart e d len c n f = tt
no_finish-of-between A.NumberByte e d len c n f = tt
no_finish-of-between (A.WordEnd v) e d len c n f = absurd n

-- ---- what a task writes, by how the level moves

module _ (t : Table) (m : Mem) (y : Progress) (b : ℕ) (e : Bool) where
  abbrev pub l : ℕ
  l = m.progress.level

  -- a level more
  pub opens-of-task : (k : Task) → Told k b l y.level e → y.level ≡ l + 1
      → (perform k t m y).work ≡ put_frame m.work (l + 1) (opened t.forms (form_opened b))
  opens-of-task To.Idle i q = absurd (omega (arith, i.level))
  opens-of-task To.Begin i q = absurd (omega (arith, i.level))
  opens-of-task (To.Put c) i q = absurd (omega (arith, i.level))
  opens-of-task To.Named i q = absurd (omega (arith, i.level))
  opens-of-task (To.Open o) i q = rw (q, i.form)
  opens-of-task (To.Finish s) i q = absurd (omega (arith, i.level))
  opens-of-task To.Close i q = absurd (omega (arith, i.level))
  opens-of-task (To.FinishClose s) i q = absurd (omega (arith, i.level))

  -- a level less, and no number ends
  pub closes-of-task : (k : Task) → Told k b l y.level e → e ≡ false → l ≡ y.level + 1
      → (perform k t m y).work ≡ with_value t m.work (l - 1) (Done.Rules (rules_of t m.work l))
  unfolding close_at value_at rules_at
  closes-of-task To.Idle i f q = absurd (omega (arith, i.level))
  closes-of-task To.Begin i f q = absurd (omega (arith, i.level))
  closes-of-task (To.Put c) i f q = absurd (omega (arith, i.level))
  closes-of-task To.Named i f q = absurd (omega (arith, i.level))
  closes-of-task (To.Open o) i f q = absurd (omega (arith, i.level))
  closes-of-task (To.Finish s) i f q = absurd (omega (arith, i.level))
  closes-of-task To.Close i f q = refl
  closes-of-task (To.FinishClose s) i f q = true-neq-false (sym i.ends ∙ f)

  -- the level stays, and nothing is finished
  pub between-of-task : (k : Task) → NoFinish k → Told k b l y.level e → e ≡ false → y.level ≡ l → (perform k t m y).work ≡ m.work
  unfolding close_at value_at
  between-of-task To.Idle n i f q = refl
  between-of-task To.Begin n i f q = refl
  between-of-task (To.Put c) n i f q = refl
  between-of-task To.Named n i f q = absurd n
  between-of-task (To.Open o) n i f q = absurd (omega (arith, i.level))
  between-of-task (To.Finish s) n i f q = absurd n
  between-of-task To.Close n i f q = with_value-none t m.work (l - 1) _ (omega (arith, i.level))
  between-of-task (To.FinishClose s) n i f q = true-neq-false (sym i.ends ∙ f)
