-- Bytes of the buffer that are not written: how `Spares` is built up over the operations on frames, and what it tells of a frame. Assumes nothing.
use mathlib.Core.Bool.{Bool, true, false}
use mathlib.Core.List.{List}
use mathlib.Core.Logic.{inl, inr, ⊎_elim}
use mathlib.Core.Path.{◌≡◌, refl, sym, ap, ◌∙◌}
use Prim.Native.Nat.{ℕ, ◌+◌, ◌-◌, ◌≤◌}
use native.Mathlib.Omega.{arith}
use lib.ListN.{length, get_or, drop, length-drop}
use lib.Seq.{ext_get_or, get_or-drop}
use Rattle.table.specs.Table.{Table}
use Rattle.table.specs.declared.kind.Finished.{Finished}
use Rattle.table.specs.declared.kind.Finished.TheVariants as Done
use Rattle.table.specs.Keys.{key_found}
use Rattle.frame.specs.Frame.{has_frame, frame_start, frame_at, put_frame}
use Rattle.frame.specs.Edges.{edges_in}
use Rattle.frame.specs.Ops.{opened, keyed, valued}
use Rattle.frame.proofs.LevelLaws.{fits-of-has_frame, put_frame-none, length-put_frame, get_d-put_frame-other}
use Rattle.frame.proofs.OpenLaws.{length-opened}
use Rattle.progress.specs.declared.Progress.{Progress}
use Rattle.progress.specs.declared.Task.{Task}
use Rattle.progress.specs.declared.Task.TheVariants as To
use Rattle.progress.specs.Memory.{Mem, value_at, rules_at, close_at, perform}
use Rattle.progress.proofs.MemoryLaws.{KeepsLength, worked-elim, keeps-valued, keeps-keyed}
use Rattle.stream.specs.Lent.{Outside, Spares, with_value}

-- ---- nothing, one thing after another, and less

pub spares-all : (P : ℕ → Type 0) (w v : List ℕ) → v ≡ w → Spares P w v
spares-all P w v e = record { long = ap length e; byte = λ i _. ap (λ (x : List ℕ). get_or x i 0) e }

pub spares-after : {P : ℕ → Type 0} {u v w : List ℕ} → Spares P u v → Spares P v w → Spares P u w
spares-after a b = record { long = b.long ∙ a.long; byte = λ i p. b.byte i p ∙ a.byte i p }

pub spares-fewer : {P Q : ℕ → Type 0} {w v : List ℕ} → ((i : ℕ) → Q i → P i) → Spares P w v → Spares Q w v
spares-fewer f a = record { long = a.long; byte = λ i q. a.byte i (f i q) }

-- ---- a frame is put, or worked on

-- 96 bytes that are put at a level
pub spares-put : (w f : List ℕ) (l : ℕ) → length f ≡ 96 → Spares (Outside l) w (put_frame w l f)
spares-put w f l long = go (has_frame (length w) l) refl
  where
    go : (v : Bool) → has_frame (length w) l ≡ v → Spares (Outside l) w (put_frame w l f)
    go true e =
        let g = fits-of-has_frame (length w) l e in
        record {
          long = length-put_frame w f l long;
          byte = λ i o. get_d-put_frame-other w f l long i (⊎_elim (λ h. inl h) (λ h. inr (omega arith)) o);
        }
    go false e = spares-all (Outside l) w (put_frame w l f) (sym (put_frame-none w f l e))

pub spares-worked : (w : List ℕ) (l : ℕ) (op : List ℕ → List ℕ) → KeepsLength op → Spares (Outside l) w (put_frame w l (op (frame_at w l)))
spares-worked w l op keeps =
    worked-elim (λ (v : List ℕ). Spares (Outside l) w v) w l op keeps (spares-all (Outside l) w w refl)
    (λ _ long. spares-put w (op (frame_at w l)) l long)

-- at level 0 no value is finished
pub with_value-none : (t : Table) (w : List ℕ) (l : ℕ) (v : Finished) → l ≡ 0 → with_value t w l v ≡ w
unfolding has_frame
with_value-none t w l v e = sym (put_frame-none w _ l (rw e))

pub spares-with_value : (t : Table) (w : List ℕ) (l : ℕ) (v : Finished) → Spares (Outside l) w (with_value t w l v)
spares-with_value t w l v = spares-worked w l (valued (edges_in t) t.edge_kind t.forms v) (keeps-valued t v)

-- the places that a task does not write, at level l, where the level is k after it
abbrev pub Beyond : Task → ℕ → ℕ → ℕ → Type 0
Beyond To.Idle l k i = Unit {0}
Beyond To.Begin l k i = Unit {0}
Beyond (To.Put c) l k i = Unit {0}
Beyond To.Named l k i = Outside l i
Beyond (To.Open o) l k i = Outside k i
Beyond (To.Finish s) l k i = Outside l i
Beyond To.Close l k i = Outside (l - 1) i
Beyond (To.FinishClose s) l k i = Outside l i × Outside (l - 1) i

pub spares-perform : (x : Task) (t : Table) (m : Mem) (y : Progress) → Spares (Beyond x m.progress.level y.level) m.work (perform x t m y).work
unfolding close_at value_at
spares-perform To.Idle t m y = spares-all _ m.work m.work refl
spares-perform To.Begin t m y = spares-all _ m.work m.work refl
spares-perform (To.Put c) t m y = spares-all _ m.work m.work refl
spares-perform To.Named t m y =
    let k : ℕ = key_found t m.key m.progress.len in
    spares-worked m.work m.progress.level (keyed k) (keeps-keyed k)
spares-perform (To.Open o) t m y = spares-put m.work (opened t.forms o) y.level (length-opened t.forms o)
spares-perform (To.Finish s) t m y = spares-with_value t m.work m.progress.level (Done.Scalar s)
spares-perform To.Close t m y = spares-with_value t m.work (m.progress.level - 1) (Done.Rules (rules_at t m.work m.progress.level))
spares-perform (To.FinishClose s) t m y =
    let w = value_at t m.work m.progress.level (Done.Scalar s) in
    spares-after (spares-fewer (λ i o. o.0) (spares-with_value t m.work m.progress.level (Done.Scalar s)))
    (spares-fewer (λ i o. o.1) (spares-with_value t w (m.progress.level - 1) (Done.Rules (rules_at t w m.progress.level))))

-- no task writes outside the frames of the level l, of the level below and of the level k after the task
pub beyond-of-three : (x : Task) (l k i : ℕ) → Outside l i × Outside (l - 1) i × Outside k i → Beyond x l k i
beyond-of-three To.Idle l k i o = tt
beyond-of-three To.Begin l k i o = tt
beyond-of-three (To.Put c) l k i o = tt
beyond-of-three To.Named l k i o = o.0
beyond-of-three (To.Open v) l k i o = o.2
beyond-of-three (To.Finish s) l k i o = o.0
beyond-of-three To.Close l k i o = o.1
beyond-of-three (To.FinishClose s) l k i o = (o.0, o.1)

-- ---- the frame of a level from which on nothing is written

pub frame_at-of-spares : (P : ℕ → Type 0) (w v : List ℕ) (l : ℕ) → ((i : ℕ) → frame_start l ≤ i → P i) → Spares P w v → frame_at v l ≡ frame_at w l
unfolding frame_at
frame_at-of-spares P w v l all s =
    let a : ℕ = frame_start l in
    let byte : (i : ℕ) → get_or (drop a v) i 0 ≡ get_or (drop a w) i 0
    = λ i. get_or-drop a v i 0 ∙ s.byte (a + i) (all (a + i) (omega arith)) ∙ sym (get_or-drop a w i 0) in
    let same : drop a v ≡ drop a w = ext_get_or 0 (drop a v) (drop a w) (simp (length-drop, s.long)) (λ i _. byte i) in
    rw (s.long, same)
