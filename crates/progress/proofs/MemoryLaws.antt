-- What a task leaves of any memory: the length of the buffer, and what is known of the record; and what an RS makes of it. Assumes nothing.
use mathlib.Core.Bool.{Bool, true, false}
use mathlib.Core.List.{List}
use mathlib.Core.Path.{◌≡◌, refl, subst, ◌∙◌}
use Prim.Native.Nat.{ℕ, ◌-◌}
use lib.Dec.{eqb}
use lib.ListN.{length}
use Rattle.table.specs.Table.{Table}
use Rattle.table.specs.declared.kind.Form.{Form}
use Rattle.table.specs.declared.kind.Finished.{Finished}
use Rattle.table.specs.declared.kind.Finished.TheVariants as Done
use Rattle.table.specs.Keys.{key_found}
use Rattle.frame.specs.Edges.{edges_in}
use Rattle.frame.specs.Frame.{has_frame, frame_at, put_frame}
use Rattle.frame.specs.Ops.{opened, keyed, valued}
use Rattle.frame.proofs.LevelLaws.{put_frame-none, length-frame_at, length-put_frame}
use Rattle.frame.proofs.OpenLaws.{length-opened}
use Rattle.frame.proofs.KeyLaws.{length-keyed}
use Rattle.frame.proofs.ValueLaws.{length-valued}
use Rattle.progress.specs.declared.Progress.{Progress}
use Rattle.progress.specs.declared.Task.{Task}
use Rattle.progress.specs.declared.Task.TheVariants as To
use Rattle.progress.specs.Progress.{advanced}
use Rattle.progress.specs.Memory.{Mem, fresh_mem, value_at, rules_at, close_at, perform, advanced_at, step_mem}

-- ---- a frame that is worked on at its level

-- an operation that leaves the length of a frame
abbrev pub KeepsLength : (List ℕ → List ℕ) → Type 0
KeepsLength op = (f : List ℕ) → length f ≡ 96 → length (op f) ≡ 96

-- a claim about the buffer after an operation at a level: of the buffer itself where the level has no frame, else of it with 96 bytes put there
pub worked-elim : (P : List ℕ → Type 0) (w : List ℕ) (l : ℕ) (op : List ℕ → List ℕ) → KeepsLength op → P w
    → (has_frame (length w) l ≡ true → length (op (frame_at w l)) ≡ 96 → P (put_frame w l (op (frame_at w l)))) → P (put_frame w l (op (frame_at w l)))
worked-elim P w l op keeps none some = go (has_frame (length w) l) refl
  where
    go : (v : Bool) → has_frame (length w) l ≡ v → P (put_frame w l (op (frame_at w l)))
    go true e = some e (keeps (frame_at w l) (length-frame_at w l e))
    go false e = subst P (put_frame-none w (op (frame_at w l)) l e) none

-- an operation at a level leaves the length of the buffer
length-worked : (w : List ℕ) (l : ℕ) (op : List ℕ → List ℕ) → KeepsLength op → length (put_frame w l (op (frame_at w l))) ≡ length w
length-worked w l op keeps =
    worked-elim (λ (v : List ℕ). length v ≡ length w) w l op keeps refl (λ _ long. length-put_frame w (op (frame_at w l)) l long)

-- a finished value and a finished key are operations that leave the length of a frame
pub keeps-valued : (t : Table) (v : Finished) → KeepsLength (valued (edges_in t) t.edge_kind t.forms v)
keeps-valued t v f e = length-valued (edges_in t) t.edge_kind t.forms v f e

pub keeps-keyed : (k : ℕ) → KeepsLength (keyed k)
keeps-keyed k f e = length-keyed f k ∙ e

-- ---- the length of the buffer

pub length-value_at : (t : Table) (w : List ℕ) (l : ℕ) (v : Finished) → length (value_at t w l v) ≡ length w
unfolding value_at
length-value_at t w l v = length-worked w l (valued (edges_in t) t.edge_kind t.forms v) (keeps-valued t v)

pub length-opened-frame : (t : Table) (w : List ℕ) (l : ℕ) (form : Form) → length (put_frame w l (opened t.forms form)) ≡ length w
length-opened-frame t w l form = length-put_frame w (opened t.forms form) l (length-opened t.forms form)

pub length-keyed-frame : (w : List ℕ) (l c : ℕ) → length (put_frame w l (keyed c (frame_at w l))) ≡ length w
length-keyed-frame w l c = length-worked w l (keyed c) (keeps-keyed c)

-- no task changes the length of the buffer
pub length-perform : (x : Task) (t : Table) (m : Mem) (y : Progress) → length (perform x t m y).work ≡ length m.work
unfolding close_at
length-perform To.Idle t m y = refl
length-perform To.Begin t m y = refl
length-perform (To.Put c) t m y = refl
length-perform To.Named t m y = length-keyed-frame m.work m.progress.level (key_found t m.key m.progress.len)
length-perform (To.Open o) t m y = length-opened-frame t m.work y.level o
length-perform (To.Finish s) t m y = length-value_at t m.work m.progress.level (Done.Scalar s)
length-perform To.Close t m y = length-value_at t m.work (m.progress.level - 1) (Done.Rules (rules_at t m.work m.progress.level))
length-perform (To.FinishClose s) t m y =
    let w = value_at t m.work m.progress.level (Done.Scalar s) in
    length-value_at t w (m.progress.level - 1) (Done.Rules (rules_at t w m.progress.level)) ∙ length-value_at t m.work m.progress.level (Done.Scalar s)

-- no byte changes the length of the buffer
pub length-step_mem : (t : Table) (n : ℕ) (m : Mem) (b : ℕ) → length (step_mem t n m b).work ≡ length m.work
unfolding step_mem
length-step_mem t n m b = length-perform (advanced_at n m b).task t m (advanced_at n m b).progress

-- ---- what is known of the record

-- no task changes what is known of the record
pub progress-perform : (x : Task) (t : Table) (m : Mem) (y : Progress) → (perform x t m y).progress ≡ y
unfolding close_at
progress-perform To.Idle t m y = refl
progress-perform To.Begin t m y = refl
progress-perform (To.Put c) t m y = refl
progress-perform To.Named t m y = refl
progress-perform (To.Open o) t m y = refl
progress-perform (To.Finish s) t m y = refl
progress-perform To.Close t m y = refl
progress-perform (To.FinishClose s) t m y = refl

-- ---- an RS

-- an RS that ends no record gives the fresh one, whatever levels, fault, root or key there were, and leaves the buffer
pub fresh-of-RS : (t : Table) (n : ℕ) (m : Mem) (b : ℕ) → eqb b 0x1E ≡ true → step_mem t n m b ≡ fresh_mem false m.work
unfolding step_mem advanced
fresh-of-RS t n m b e = rw e
