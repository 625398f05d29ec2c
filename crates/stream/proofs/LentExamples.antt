-- What is said of the lent bytes is said of something: after `[1`, in the first of two frames, `}` is a faulty byte, `]` ends the number and closes, and
-- `2` leaves the number open. Assumes nothing.
use Rattle.std.specs.Prelude.{None}
use mathlib.Core.Bool.{true, false}
use mathlib.Core.List.{List, [], ◌∷◌}
use mathlib.Core.Path.{◌≡◌, refl}
use Prim.Native.Nat.{ℕ}
use lib.ListN.{replicate}
use Rattle.json_text.specs.Bytes.{within, is_blank}
use Rattle.json_text.specs.Numbers.{is_digit, is_e}
use Rattle.json_text.specs.Lexer.{or_exp, after_zero, after_int, after_element}
use Rattle.json_text.specs.declared.number.NumberMode.TheVariants as N
use Rattle.json_text.specs.declared.lexer.Mode.TheVariants as M
use Rattle.whole.specs.Fresh.{fresh}
use Rattle.whole.specs.Count.{bounded, counted}
use Rattle.table.specs.Table.{Table}
use Rattle.table.specs.Limits.{within_limits}
use Rattle.frame.specs.Frame.{has_frame, frame_at, is_object}
use Rattle.laws.specs.Count.{bump}
use Rattle.progress.specs.Progress.{sound, advanced, judged}
use Rattle.progress.specs.Memory.{top_at, close_at, step_mem, ends_record, run_mem}
use Rattle.reader.specs.declared.Reader.{Reader}
use Rattle.reader.specs.Refusals.{fit_reader, first_refusal, call_gate}
use Rattle.reader.specs.Tally.{zero_tally}
use Rattle.reader.specs.Machine.{Outcome, feeding, feed_of, closing, close_of}
use Rattle.stream.specs.Lent.{level_of, mode_of, is_in_token, faulty_in, byte_fed, EndsToken}

-- a table without entries, and a buffer with an array open in its first frame
abbrev no_table : Table
no_table =
    record {
      edges = 0;
      keys = 0;
      spare = [];
      edge_rule = [];
      edge_state = [];
      edge_key = [];
      edge_kind = [];
      edge_next = [];
      edge_line = [];
      key_bytes = [];
      key_len = [];
      ends = [];
      forms = [];
    }

abbrev buffer : List ℕ
buffer = 2 ∷ replicate 191 0

-- a reader after `[1`
abbrev reader : Reader
reader =
    record {
      frames = 2;
      progress = record { mode = M.Number N.Int; fault = None; head = false; level = 1; pos = 2; bits = 0; high = 0; number = counted bounded N.Int fresh 0x31; len = 0 };
      root = false;
      key = replicate 32 0;
      tally = zero_tally;
    }

abbrev after : ℕ → Outcome
after b = byte_fed reader no_table buffer b

lent-example : (faulty_in (after 0x7D).reader no_table (after 0x7D).work ≡ true) × EndsToken 0x5D (after 0x5D) × (level_of (after 0x5D).reader ≡ 0)
    × (is_in_token (mode_of (after 0x32).reader) ≡ true)
unfolding feed_of feeding close_of closing call_gate first_refusal fit_reader within_limits run_mem step_mem ends_record advanced sound bump judged top_at close_at has_frame frame_at is_object within is_blank is_digit is_e or_exp after_zero after_int after_element
lent-example = (refl, (refl, refl), refl, refl)
