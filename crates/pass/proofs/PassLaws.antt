-- Passing over bytes gives what reading them one by one gives: laws in the form of the needs of `pass`. Assumes nothing.
use mathlib.Core.Bool.{Bool, true, false}
use mathlib.Core.List.{List}
use mathlib.Core.Path.{◌≡◌, refl, sym, ap, ◌∙◌}
use Prim.Native.Nat.{ℕ, suc, ◌+◌, ◌-◌, ◌<◌, ◌≤◌, min}
use native.Mathlib.Omega.{arith}
use lib.Dec.{ltb}
use lib.ListN.{length, get_or, take, drop}
use borrow.Author.Tests.{ltb-true, ltb-false, ne_eqb}
use Rattle.std.specs.Prelude.{Option, Some, None, MatchOption}
use Rattle.json_text.specs.Lexer.{number_move, number_step, step_to, step_of}
use Rattle.json_text.specs.declared.number.NumberMode.{NumberMode}
use Rattle.json_text.specs.declared.number.NumberMove.{NumberMove}
use Rattle.json_text.specs.declared.number.NumberMove.TheVariants as NM
use Rattle.json_text.specs.declared.lexer.Top.{Top}
use Rattle.json_text.specs.declared.lexer.Mode.{Mode}
use Rattle.json_text.specs.declared.lexer.Mode.TheVariants as M
use Rattle.json_text.specs.declared.lexer.Act.TheVariants as A
use Rattle.json_text.specs.declared.lexer.Step.{Step}
use Rattle.whole.specs.declared.Decimal.{Decimal}
use Rattle.whole.specs.Count.{bounded, counted_from, counted_all}
use Rattle.whole.proofs.RunLaws.{counted-part}
use Rattle.table.specs.Table.{Table}
use Rattle.progress.specs.declared.Progress.{Progress}
use Rattle.progress.specs.Act.{number_before, number_to}
use Rattle.progress.specs.Progress.{bits_in, high_in}
use Rattle.progress.specs.Memory.{mem, top_at, run_mem}
use Rattle.pass.specs.Pass.{StaysFor, StayedTo, bits_over, number_over}
use Rattle.pass.specs.Pass.{registers, registers_of, settled, registers_over, registers_after, Stands}
use Rattle.pass.specs.Pass.{passes, is_reading, placed, reached, passed_at, RunsTo, PassedTo}
use Rattle.pass.specs.declared.Passed.{Passed}
use Rattle.pass.specs.declared.Registers.{Registers}
use Rattle.pass.proofs.ByteLaws.{bump-below, next-run, passes-quiet, quiet_step, reads-told, rest-fits, byte_fits, count-more, in-piece}
use Rattle.pass.proofs.NumberLaws.{number-none, number-on, number_same, number-last, go-other}
use Rattle.pass.proofs.StayLaws.{stay-some, stayed-part}

-- ---- passing over: the record x is read

pub runs_none : (x : Progress) (top : Top) (s : List ℕ) (from : ℕ) → from ≤ length s → RunsTo x top s from x from
runs_none x top s from h = record { low = omega arith; high = h; level = refl; same = λ t n root key w e. refl }

-- one way over bytes after another
runs_on : {x y z : Progress} {top : Top} {s : List ℕ} {i j k : ℕ} → RunsTo x top s i y j → RunsTo y top s j z k → RunsTo x top s i z k
runs_on r q =
    record {
      low = omega (arith, r.low, q.low);
      high = q.high;
      level = q.level ∙ r.level;
      same = λ t n root key w e. q.same t n root key w (ap (top_at w) r.level ∙ e) ∙ r.same t n root key w e;
    }

-- the bytes of s from place i to place j leave the mode as it is: the registers at place j
abbrev stayed_at : Mode → Registers → List ℕ → ℕ → ℕ → ℕ → Registers
stayed_at m g s since i j = registers (bits_over (ltb i j) m g.bits) g.high (number_over m g.number s since (j - since))

-- a mode that is none of a number has none to count
other-over : (m : Mode) (g : Registers) (s : List ℕ) (since i j : ℕ) → ((n : NumberMode) → m ≡ M.Number n → ⊥) → registers_over (ltb i j) m g ≡ stayed_at m g s since i j
unfolding registers_over
other-over (M.At p) g s since i j e = refl
other-over (M.Key t) g s since i j e = refl
other-over (M.Text t) g s since i j e = refl
other-over (M.Number n) g s since i j e = absurd (e n refl)
other-over (M.Word w k) g s since i j e = refl

-- the bits of no character stay
number-over : (n : NumberMode) (g : Registers) (s : List ℕ) (since i j : ℕ)
    → registers g.bits g.high (counted_from bounded n g.number s since (j - since)) ≡ stayed_at (M.Number n) g s since i j
unfolding bits_over
number-over n g s since i j = go (ltb i j) refl
  where
    go : (v : Bool) → ltb i j ≡ v
        → registers g.bits g.high (counted_from bounded n g.number s since (j - since)) ≡ stayed_at (M.Number n) g s since i j
    go true e = rw e
    go false e = rw e

module _ (x : Progress) (top : Top) (s : List ℕ) (o : is_reading x ≡ true) where
  -- bytes that leave the mode as it is are passed over at once
  stay-on : (i end j : ℕ) → StayedTo x.mode s i end j → end ≤ length s → (i < end → x.pos + (end - i) ≤ 16777216)
      → RunsTo x top s i (placed x x.mode (stayed_at x.mode (registers_of x) s i i j) (x.pos + (j - i)) x.len) j
  unfolding bits_over
  stay-on i end j g l v =
      record { low = g.low; high = omega (arith, g.high); level = refl; same = λ t n root key w z. go (ltb i j) refl t n root key w }
    where
      go : (y : Bool) → ltb i j ≡ y → (t : Table) (n : ℕ) (root : Bool) (key w : List ℕ)
          → run_mem t n (mem (placed x x.mode (stayed_at x.mode (registers_of x) s i i j) (x.pos + (j - i)) x.len) root key w) j (drop j s)
          ≡ run_mem t n (mem x root key w) i (drop i s)
      go true y t n root key w =
          let less : i < j = ltb-true i j y in
          let fits = v (omega (arith, g.high)) in
          let d = j - i - 1 in
          let u : j - i ≡ suc d = omega arith in
          let c : j ≡ i + suc d = omega arith in
          let told = reads-told x o in
          let more = registers (bits_in x.mode x.bits 0x20) x.high (number_over x.mode x.number s i (suc d)) in
          rw (y, u)
          (ap (λ (k : ℕ). run_mem t n (mem (placed x x.mode more (x.pos + suc d) x.len) root key w) k (drop k s)) c
          ∙ stay-some t n x x.mode x.high x.len root key w s told.0 told.1 d x.bits x.number x.pos i (omega (arith, g.high))
          (omega (arith, g.high)) (λ k a b. g.stays k a (omega arith)))
      go false y t n root key w =
          let c : j ≡ i = omega (arith, ltb-false i j y, g.low) in
          let z : j - i ≡ 0 = omega arith in
          let u : x.pos + 0 ≡ x.pos = omega arith in
          rw (y, z, u, number-none x.mode x.number s i, c)

  -- a byte with a quiet act is passed over
  pass_on : (i : ℕ) (st : Step) → i < length s → x.pos < 16777216 → st ≡ step_of x.mode top (get_or s i 0)
      → passes st.act st.ends (get_or s i 0) ≡ true
      → RunsTo x top s i
      (placed x st.mode
      (settled st.mode (registers_after x.mode st.mode (registers_of x) (get_or s i 0)) s i (i + 1)) (x.pos + 1) x.len)
      (i + 1)
  unfolding registers_after
  pass_on i st l v e c =
      let told = reads-told x o in
      let b = get_or s i 0 in
      let d = number_before x.mode st.mode x.number in
      let y = registers (bits_in x.mode x.bits b) (high_in x.mode x.bits x.high b) (number_to st.mode d b) in
      rw (number-last st.mode d s i)
      record {
        low = omega arith;
        high = omega arith;
        level = refl;
        same = λ t n root key w z.
            next-run t n (mem x root key w) (mem (placed x st.mode y (x.pos + 1) x.len) root key w) s i l (passes-quiet st.act st.ends b c).0
            (rw (← bump-below x.pos v)
            (quiet_step t n x root key w b told.0 told.1 v st (e ∙ ap (λ (k : Top). step_of x.mode k b) (sym z)) c));
      }

-- ---- the loop, up to the end of the piece or of the longest record

pub stands-first : (x : Progress) (top : Top) (s : List ℕ) (from end : ℕ) (g : Registers) → from ≤ length s
    → end ≡ from + min (length s - from) (16777216 - x.pos) → g ≡ registers_of x → Stands x top s from end x.mode g from from
stands-first x top s from end g h d e =
    let z : x.pos + (from - from) ≡ x.pos = omega arith in
    record { below = omega arith; counted = omega arith; runs = rw (e, z, number_same x.mode x.number s from) (runs_none x top s from h) }

module _ (x : Progress) (top : Top) (s : List ℕ) (from end : ℕ) (o : is_reading x ≡ true) (w : from ≤ length s)
    (d : end ≡ from + min (length s - from) (16777216 - x.pos)) where
  -- from i the bytes up to j leave the mode as it is; more: the registers after them
  module _ (m : Mode) (c : Registers) (since i j : ℕ) (more : Registers) (r : Stands x top s from end m c since i) (g : StayedTo m s i end j)
      (e : more ≡ stayed_at m c s since i j) where
    stayed : RunsTo x top s from (reached x m more from j) j
    unfolding is_reading
    stayed =
        let z : x.pos + (j - from) ≡ x.pos + (i - from) + (j - i) = omega (arith, r.runs.low, g.low) in
        let l : end ≤ length s = omega arith in
        runs_on r.runs
        (rw (e, z, number-on m c.number s since i j r.counted g.low)
        (stay-on (reached x m (settled m c s since i) from i) top s o i end j g l (λ h. rest-fits (length s) from x.pos end i d r.runs.low h)))

    -- the byte at j, if there is one, is not passed over
    out : (y : Passed) (st : Option Step) → y ≡ passed_at x m more from j st
        → MatchOption st (j ≡ length s) (λ z. (j < length s) × (z ≡ step_of m top (get_or s j 0))) → PassedTo x top s from y.progress y.at y.step
    out y st f h = rw f record { runs = stayed; step = h }

    -- of the byte at j the lexer makes the step st
    module _ (st : Step) (a : st ≡ step_of m top (get_or s j 0)) where
      -- the byte at j is passed over
      byte-on : (next : Registers) → (j ≡ end → ⊥) → passes st.act st.ends (get_or s j 0) ≡ true
          → next ≡ registers_after m st.mode more (get_or s j 0) → Stands x top s from end st.mode next j (j + 1)
      unfolding is_reading
      byte-on next n q f =
          let less : j < end = omega (arith, g.high) in
          let z = count-more x.pos from j stayed.low in
          let short : x.pos + (j - from) < 16777216 = byte_fits (length s) from x.pos end j d stayed.low less in
          record {
            below = omega arith;
            counted = omega arith;
            runs = runs_on stayed (rw (z, f) (pass_on (reached x m more from j) top s o j st (in-piece (length s) from x.pos end j d w less) short a q));
          }

  -- ---- the loop over other bytes than those of a number

  -- the loop over other bytes than those of a number: k bytes from place i on leave the mode as it is
  module _ (m : Mode) (c : Registers) (since i k : ℕ) (more : Registers) (u : (n : NumberMode) → m ≡ M.Number n → ⊥)
      (r : Stands x top s from end m c since i) (q : StaysFor m (take (end - i) (drop i s)) k) (e : more ≡ registers_over (ltb i (i + k)) m c) where
    other-stay : StayedTo m s i end (i + k)
    other-stay = stayed-part m s i end k r.below (omega arith) q

    other-same : more ≡ stayed_at m c s since i (i + k)
    other-same = e ∙ other-over m c s since i (i + k) u

    -- up to the end of the piece
    pub other-end : (y : Passed) → y ≡ passed_at x m more from (i + k) None → length s ≤ i + k → PassedTo x top s from y.progress y.at y.step
    other-end y f l = out m c since i (i + k) more r other-stay other-same y None f (omega (arith, other-stay.high))

    module _ (b : ℕ) (a : b ≡ get_or s (i + k) 0) (st : Step) (t : st ≡ step_of m top b) where
      own : st ≡ step_of m top (get_or s (i + k) 0)
      own = t ∙ ap (step_of m top) a

      -- up to byte b
      pub other-at-byte : (y : Passed) → y ≡ passed_at x m more from (i + k) (Some st) → i + k < length s → PassedTo x top s from y.progress y.at y.step
      other-at-byte y f l = out m c since i (i + k) more r other-stay other-same y (Some st) f (l, own)

      -- byte b is passed over too
      pub other-goes : (next : Registers) (v : Bool) → (i + k ≡ end → ⊥) → v ≡ passes st.act st.ends b → v ≡ true → next ≡ registers_after m st.mode more b
          → Stands x top s from end st.mode next (i + k) (i + k + 1)
      other-goes next v n p h f =
          byte-on m c since i (i + k) more r other-stay other-same st own next n (ap (passes st.act st.ends) (sym a) ∙ sym p ∙ h) (f ∙ ap (registers_after m st.mode more) a)

  -- the loop over the bytes of a number: k bytes from place i on leave its mode as it is
  module _ (n : NumberMode) (c : Registers) (new : Decimal) (since i k : ℕ)
      (r : Stands x top s from end (M.Number n) c since i) (q : StaysFor (M.Number n) (take (end - i) (drop i s)) k)
      (e : new ≡ counted_all bounded n c.number (take (i + k - since) (drop since s))) where
    now : Registers
    now = registers c.bits c.high new

    number-stay : StayedTo (M.Number n) s i end (i + k)
    number-stay = stayed-part (M.Number n) s i end k r.below (omega arith) q

    number-now : now ≡ stayed_at (M.Number n) c s since i (i + k)
    unfolding now
    number-now =
        let l : since + (i + k - since) ≤ length s = omega (arith, number-stay.high, r.counted) in
        rw e (ap (λ (y : Decimal). registers c.bits c.high y) (counted-part n (i + k - since) c.number s since l) ∙ number-over n c s since i (i + k))

    -- up to the end of the piece
    pub number-end : (y : Passed) → y ≡ passed_at x (M.Number n) (registers c.bits c.high new) from (i + k) None → length s ≤ i + k
        → PassedTo x top s from y.progress y.at y.step
    unfolding now
    number-end y f l = out (M.Number n) c since i (i + k) now r number-stay number-now y None f (omega (arith, number-stay.high))

    module _ (b : ℕ) (a : b ≡ get_or s (i + k) 0) where
      -- up to byte b
      pub number-at-byte : (st : Step) (y : Passed) → st ≡ number_step (number_move n b) top b
          → y ≡ passed_at x (M.Number n) (registers c.bits c.high new) from (i + k) (Some st) → i + k < length s → PassedTo x top s from y.progress y.at y.step
      unfolding now
      number-at-byte st y t f l =
          out (M.Number n) c since i (i + k) now r number-stay number-now y (Some st) f (l, t ∙ ap (step_of (M.Number n) top) a)

      -- byte b is passed over too
      pub number-goes : (v : NumberMove) (next : NumberMode) → v ≡ number_move n b → v ≡ NM.Go next → i + k < end
          → Stands x top s from end (M.Number next) (registers c.bits c.high new) (i + k) (i + k + 1)
      unfolding now registers_after passes
      number-goes v next p h l =
          let goes : number_move n (get_or s (i + k) 0) ≡ NM.Go next = ap (number_move n) (sym a) ∙ sym p ∙ h in
          let other = go-other n next (get_or s (i + k) 0) goes in
          byte-on (M.Number n) c since i (i + k) now r number-stay number-now (step_to (M.Number next) A.NumberByte)
          (ap (λ (z : NumberMove). number_step z top (get_or s (i + k) 0)) (sym goes)) now (λ z. omega arith) (rw (ne_eqb (get_or s (i + k) 0) 0x1E other)) refl
