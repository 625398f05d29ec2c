-- A byte that ends a number does what it does after a value, in the buffer where the number is finished: `fed-of-number-end`. Assumes nothing.
use Rattle.std.specs.Prelude.{None}
use mathlib.Core.Bool.{false}
use mathlib.Core.List.{List}
use mathlib.Core.Path.{◌≡◌, refl, sym, ap, subst, ◌∙◌}
use Prim.Native.Nat.{ℕ}
use native.Mathlib.Omega.{arith}
use Rattle.json_text.specs.Lexer.{number_move, number_step, ended_before, after_value}
use Rattle.json_text.specs.declared.number.NumberMode.{NumberMode}
use Rattle.json_text.specs.declared.number.NumberMove.{NumberMove}
use Rattle.json_text.specs.declared.number.NumberMove.TheVariants as NM
use Rattle.json_text.specs.declared.lexer.Awaited.TheVariants as P
use Rattle.json_text.specs.declared.lexer.Mode.{Mode}
use Rattle.json_text.specs.declared.lexer.Mode.TheVariants as M
use Rattle.json_text.specs.declared.lexer.Top.{Top}
use Rattle.json_text.specs.declared.lexer.Step.{Step}
use Rattle.table.specs.Table.{Table}
use Rattle.table.specs.declared.kind.Finished.{Finished}
use Rattle.table.specs.declared.kind.Finished.TheVariants as Done
use Rattle.frame.specs.Frame.{frame_at}
use Rattle.frame.specs.Edges.{edges_in}
use Rattle.frame.specs.Ops.{valued}
use Rattle.frame.proofs.LevelLaws.{length-frame_at, frame_at-put_frame}
use Rattle.frame.proofs.ValueLaws.{is_object-valued}
use Rattle.progress.specs.declared.Progress.{Progress}
use Rattle.progress.specs.Act.{first_fault, number_kind}
use Rattle.progress.specs.Memory.{top_at, value_at, close_at}
use Rattle.progress.proofs.MemoryLaws.{worked-elim, keeps-valued}
use Rattle.reader.specs.declared.Reader.{Reader}
use Rattle.stream.specs.Lent.{with_value, level_of, mode_of, is_in_token, in_mode, byte_fed}
use Rattle.stream.proofs.LexerLaws.{after_value-elim, number-ended}
use Rattle.stream.proofs.FedLaws.{step_at, done, IsSound, fed-of-sound, progress-fed}
use Rattle.stream.proofs.SpareLaws.{spares-with_value}

-- a finished value leaves the kind of the value that it stands in
top_at-with_value : (t : Table) (w : List ℕ) (l : ℕ) (v : Finished) → top_at (with_value t w l v) l ≡ top_at w l
unfolding top_at
top_at-with_value t w l v =
    worked-elim (λ (u : List ℕ). top_at u l ≡ top_at w l) w l (valued (edges_in t) t.edge_kind t.forms v) (keeps-valued t v) refl
    (λ e long.
    rw (
      frame_at-put_frame w (valued (edges_in t) t.edge_kind t.forms v (frame_at w l)) l long e,
      is_object-valued (edges_in t) t.edge_kind t.forms v (frame_at w l) (length-frame_at w l e),
    ))

module _ (r : Reader) (t : Table) (w : List ℕ) (b : ℕ) (n : NumberMode) where
  -- the reader in the number and after it, and the buffer where the number is finished
  abbrev inside : Reader
  inside = in_mode (M.Number n) r

  abbrev behind : Reader
  behind = in_mode (M.At P.After) r

  abbrev finished : List ℕ
  finished = with_value t w (level_of r) (Done.Scalar (number_kind r.progress.number))

  -- the byte ends the number and has its own effect, or has that alone after the number
  Alike : Step → Type 0
  Alike st = first_fault st.act (level_of r) r.frames r.progress.pos ≡ None → done inside t w b (ended_before st) ≡ done behind t finished b st

  alike-after_value : (top : Top) → Alike (after_value top b)
  unfolding Alike close_at value_at
  alike-after_value top = after_value-elim b Alike top (λ f. let z : ◌≡◌ {A = ℕ} 0 1 = cc in absurd (omega arith)) (λ p f. refl) (λ f. refl)

  module _ (s : IsSound inside t w b) (e : is_in_token (mode_of (byte_fed inside t w b).reader) ≡ false) where
    ended : number_move n b ≡ NM.End
    ended =
        number-ended (number_move n b) (top_at w (level_of r)) b (level_of r) r.frames r.progress.pos s.first
        (ap (λ (x : Progress). is_in_token x.mode) (sym (progress-fed inside t w b s)) ∙ e)

    step-inside : step_at inside w b ≡ ended_before (after_value (top_at w (level_of r)) b)
    step-inside = ap (λ (k : NumberMove). number_step k (top_at w (level_of r)) b) ended

    step-behind : step_at behind finished b ≡ after_value (top_at w (level_of r)) b
    step-behind = ap (λ (k : Top). after_value k b) (top_at-with_value t w (level_of r) (Done.Scalar (number_kind r.progress.number)))

    no-fault : first_fault (after_value (top_at w (level_of r)) b).act (level_of r) r.frames r.progress.pos ≡ None
    no-fault = rw step-inside at s.first

    sound-behind : IsSound behind t finished b
    sound-behind =
        record {
          gate = rw (spares-with_value t w (level_of r) (Done.Scalar (number_kind r.progress.number))).long s.gate;
          byte = s.byte;
          head = s.head;
          fault = s.fault;
          short = s.short;
          first = rw step-behind no-fault;
        }

    alike-fed : byte_fed inside t w b ≡ byte_fed behind t finished b
    unfolding Alike
    alike-fed =
        fed-of-sound inside t w b s ∙ ap (done inside t w b) step-inside ∙ alike-after_value (top_at w (level_of r)) no-fault
        ∙ sym (fed-of-sound behind t finished b sound-behind ∙ ap (done behind t finished b) step-behind)

-- a byte that ends a number, fed to a reader in the number, does what it does after the number, in the buffer where the number is finished
pub fed-of-number-end : (r : Reader) (t : Table) (w : List ℕ) (b : ℕ) → IsSound r t w b → (n : NumberMode) → mode_of r ≡ M.Number n
    → is_in_token (mode_of (byte_fed r t w b).reader) ≡ false
    → byte_fed r t w b ≡ byte_fed (in_mode (M.At P.After) r) t (with_value t w (level_of r) (Done.Scalar (number_kind r.progress.number))) b
fed-of-number-end r t w b s n m e =
    let q : r ≡ in_mode (M.Number n) r = ap (λ (x : Mode). in_mode x r) m in
    let c : IsSound (in_mode (M.Number n) r) t w b = subst (λ (x : Reader). IsSound x t w b) q s in
    let f : is_in_token (mode_of (byte_fed (in_mode (M.Number n) r) t w b).reader) ≡ false
    = subst (λ (x : Reader). is_in_token (mode_of (byte_fed x t w b).reader) ≡ false) q e in
    ap (λ (x : Reader). byte_fed x t w b) q ∙ alike-fed r t w b n c f
