-- Why start, feed and close are refused, and in which order the reasons count: REQUIREMENT.md, section 7. Each call has a ladder of rungs, and its
-- first rung that does not hold refuses it. Stated. Assumes nothing.
use Rattle.std.specs.Prelude.{Bool, true, false, cond, ◌&&◌, List, [], ◌∷◌, ℕ, ◌*◌, leb, Result, Ok, Err}
use Rattle.table.specs.Table.{Table}
use Rattle.table.specs.Limits.{within_limits}
use Rattle.reader.specs.declared.Reader.{Reader}
use Rattle.reader.specs.declared.Refusal.{Refusal}
use Rattle.reader.specs.declared.Refusal.TheVariants as No

-- the number of each refusal
abbrev pub refusal_number : Refusal → ℕ
refusal_number No.SmallBuffer = 21
refusal_number No.ShortBuffer = 22
refusal_number No.AboveLimit = 23

-- the bounds of a reader's numbers: 1 to 64 frames, no more open levels than frames, at most 33 characters of a key
unfoldable pub fit_reader : ℕ → ℕ → ℕ → Bool
fit_reader frames level len = leb 1 frames && (leb frames 64 && (leb level frames && leb len 33))

-- a reader within its bounds
abbrev pub within_reader : Reader → Bool
within_reader r = fit_reader r.frames r.progress.level r.progress.len

-- ---- ladders

-- what must hold, and the refusal where it does not
pub record Rung : Type 0 where
  pub holds : Bool
  pub refusal : Refusal

-- whether a call is let in
abbrev pub Gate : Type 0
Gate = Result (Unit {0}) Refusal

abbrev pub let_in : Gate
let_in = Ok (tt {0})

-- the first rung that does not hold shuts the gate
unfoldable pub first_refusal : List Rung → Gate
first_refusal [] = let_in
first_refusal (g ∷ gs) = cond g.holds (first_refusal gs) (Err g.refusal)

-- 23 for a table with a number above its limit; every call asks this first
abbrev pub table_rung : Table → Rung
table_rung t = record { holds = within_limits t; refusal = No.AboveLimit }

-- 23 for a reader that is not within its bounds
abbrev pub reader_rung : Bool → Rung
reader_rung within = record { holds = within; refusal = No.AboveLimit }

-- 21 for a buffer of n bytes that is under 96
abbrev pub one_frame_rung : ℕ → Rung
one_frame_rung n = record { holds = leb 96 n; refusal = No.SmallBuffer }

-- 22 for a buffer of n bytes that is under 96 times the frames of the reader
abbrev pub frames_rung : ℕ → ℕ → Rung
frames_rung frames n = record { holds = leb (96 * frames) n; refusal = No.ShortBuffer }

-- a start with a table and a buffer of n bytes
unfoldable pub start_gate : Table → ℕ → Gate
start_gate t n = first_refusal (table_rung t ∷ one_frame_rung n ∷ [])

-- a feed or a close with a reader that is within its bounds or not and has so many frames, a table, and a buffer of n bytes
unfoldable pub call_gate : Bool → ℕ → Table → ℕ → Gate
call_gate within frames t n = first_refusal (table_rung t ∷ reader_rung within ∷ frames_rung frames n ∷ [])

-- ---- after a gate

-- what a call gives: where its gate is open what it does, else what its refusal says
abbrev pub through : {A : Type 0} → Gate → (Refusal → A) → A → A
through (Ok u) refused done = done
through (Err n) refused done = refused n

-- the gate of a call that is not refused
abbrev pub is_open : Gate → Bool
is_open (Ok u) = true
is_open (Err n) = false
