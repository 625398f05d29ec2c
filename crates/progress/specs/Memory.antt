-- What a byte does to all that a reader remembers of the open record: what is known of it, whether its root fits rule 0, the characters of its
-- key, and the frames in the lent buffer: REQUIREMENT.md, section 5. Derived: crate follows joins it to the track of crate verdict. Assumes nothing.
use Rattle.std.specs.Prelude.{Bool, true, false, cond, ◌&&◌, List, [], ◌∷◌, ℕ, ◌+◌, ◌-◌, eqb, ltb}
use Rattle.json_text.specs.Lexer.{step_of}
use Rattle.json_text.specs.declared.lexer.Top.{Top}
use Rattle.table.specs.Table.{Table}
use Rattle.table.specs.declared.kind.Finished.{Finished}
use Rattle.table.specs.declared.kind.Finished.TheVariants as Done
use Rattle.table.specs.Kind.{rule_fits}
use Rattle.table.specs.Keys.{key_found}
use Rattle.frame.specs.Frame.{frame_at, put_frame, is_object}
use Rattle.frame.specs.Edges.{edges_of}
use Rattle.frame.specs.Ops.{opened, keyed, valued, closed}
use Rattle.progress.specs.declared.Progress.{Progress}
use Rattle.progress.specs.declared.Task.{Task}
use Rattle.progress.specs.declared.Task.TheVariants as To
use Rattle.progress.specs.declared.Advanced.{Advanced}
use Rattle.progress.specs.Act.{kept_in}
use Rattle.progress.specs.Fresh.{fresh_progress, fresh_key}
use Rattle.progress.specs.Progress.{advanced}

-- what a byte can change
pub record Mem : Type 0 where
  pub progress : Progress
  pub root : Bool
  pub key : List ℕ
  pub work : List ℕ

abbrev pub mem : Progress → Bool → List ℕ → List ℕ → Mem
mem x root key work = record { progress = x; root = root; key = key; work = work }

-- nothing is read of a record, in the head or not; the buffer is w
abbrev pub fresh_mem : Bool → List ℕ → Mem
fresh_mem head w = mem (fresh_progress head) false fresh_key w

-- the kind of the innermost open value, by its frame
unfoldable pub top_at : List ℕ → ℕ → Top
top_at w l = cond (eqb l 0) Top.Bare (cond (is_object (frame_at w l)) Top.Object Top.Array)

-- a finished value at a level
unfoldable pub value_at : Table → List ℕ → ℕ → Finished → List ℕ
value_at t w l v =
    put_frame w l (valued (edges_of t.edges t.edge_rule t.edge_state t.edge_key t.edge_next) t.edge_kind t.forms v (frame_at w l))

-- the rules that the value of a level fits
unfoldable pub rules_at : Table → List ℕ → ℕ → ℕ
rules_at t w l = closed (edges_of t.edges t.edge_rule t.edge_state t.edge_key t.edge_next) t.forms t.ends (frame_at w l)

-- the value of a level is closed: it joins the level below, and the root tells whether it fits rule 0
unfoldable pub close_at : Table → Progress → Bool → List ℕ → List ℕ → ℕ → Mem
close_at t x root key w l = mem x (cond (eqb l 1) (rule_fits (rules_at t w l) 0) root) key (value_at t w (l - 1) (Done.Rules (rules_at t w l)))

-- what is to be done at a byte, from the memory m; x is what is known after it
abbrev pub perform : Task → Table → Mem → Progress → Mem
perform To.Idle t m x = mem x m.root m.key m.work
perform To.Begin t m x = mem x false fresh_key m.work
perform (To.Put c) t m x = mem x m.root (kept_in m.key m.progress.len c) m.work
perform To.Named t m x =
    mem x m.root m.key (put_frame m.work m.progress.level (keyed (key_found t m.key m.progress.len) (frame_at m.work m.progress.level)))
perform (To.Open o) t m x = mem x m.root m.key (put_frame m.work x.level (opened t.forms o))
perform (To.Finish s) t m x = mem x m.root m.key (value_at t m.work m.progress.level (Done.Scalar s))
perform To.Close t m x = close_at t x m.root m.key m.work m.progress.level
perform (To.FinishClose s) t m x = close_at t x m.root m.key (value_at t m.work m.progress.level (Done.Scalar s)) m.progress.level

-- what the lexer and the limits make of a byte, with n frames
abbrev pub advanced_at : ℕ → Mem → ℕ → Advanced
advanced_at n m b = advanced m.progress n b (step_of m.progress.mode (top_at m.work m.progress.level) b)

-- a byte that ends no record
unfoldable pub step_mem : Table → ℕ → Mem → ℕ → Mem
step_mem t n m b = perform (advanced_at n m b).task t m (advanced_at n m b).progress

-- an RS after at least one byte of a record ends it
unfoldable pub ends_record : Progress → ℕ → Bool
ends_record x b = eqb b 0x1E && ltb 0 x.pos

-- how far a piece is read: the memory there, the bytes read, and whether an RS ended a record
pub record Ran : Type 0 where
  pub memory : Mem
  pub count : ℕ
  pub ended : Bool

-- the bytes of a piece, i of which are read already
unfoldable pub run_mem : Table → ℕ → Mem → ℕ → List ℕ → Ran
run_mem t n m i [] = record { memory = m; count = i; ended = false }
run_mem t n m i (b ∷ s) =
    cond (ends_record m.progress b) (record { memory = m; count = i + 1; ended = true }) (run_mem t n (step_mem t n m b) (i + 1) s)
