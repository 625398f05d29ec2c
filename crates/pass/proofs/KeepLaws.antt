-- Keeping the characters of a key gives what reading them one by one gives: laws in the form of the needs of `keep`. Assumes nothing.
use Rattle.std.specs.Prelude.{None}
use mathlib.Core.Bool.{Bool, true, false}
use mathlib.Core.List.{List}
use mathlib.Core.Path.{◌≡◌, refl, sym, ap, ◌∙◌}
use Prim.Native.Nat.{ℕ, ◌+◌, ◌-◌, ◌<◌, ◌≤◌, min}
use native.Mathlib.Omega.{arith}
use lib.Dec.{ltb}
use lib.ListN.{length, get_or, take, drop, length-drop}
use Rattle.std.proofs.lemmas.List.{length-take, get_or-take, get_or-drop}
use Rattle.json_text.specs.Classes.{class_of}
use Rattle.json_text.specs.Lexer.{lead_bits, step_to, key_step, step_of}
use Rattle.json_text.specs.declared.string.StringMode.TheVariants as S
use Rattle.json_text.specs.declared.string.StringMove.{StringMove}
use Rattle.json_text.specs.declared.lexer.Mode.{Mode}
use Rattle.json_text.specs.declared.lexer.Mode.TheVariants as M
use Rattle.json_text.specs.declared.lexer.Act.TheVariants as A
use Rattle.table.specs.Table.{Table}
use Rattle.progress.specs.declared.Progress.{Progress}
use Rattle.progress.specs.declared.Advanced.{Advanced}
use Rattle.progress.specs.Act.{kept_key_len, key_task, kept_in}
use Rattle.laws.specs.Count.{bump}
use Rattle.progress.specs.Progress.{advance, char_in, moved, advanced}
use Rattle.progress.specs.Memory.{mem, top_at, perform, step_mem}
use Rattle.progress.proofs.ActLaws.{length-kept_in}
use Rattle.pass.specs.Pass.{plain_class, awaits_char, with_bits, is_reading, keeps_in, keeps_chars, placed, StaysFor, KeptTo}
use Rattle.pass.proofs.ByteLaws.{advanced-acted, bump-below, never, next-run, reads-told}
use Rattle.pass.proofs.StayLaws.{char-awaited, both-true, stayed-part, plain-below, plain-char, plain-lead, plain_other}

-- ---- the characters of a key

keeps-by : (m : Mode) (x : Progress) → keeps_in m x ≡ true → (m ≡ M.Key S.Char) × (is_reading x ≡ true)
keeps-by (M.At p) x e = never e
keeps-by (M.Key s) x e = let told = both-true (awaits_char s) (is_reading x) e in (ap M.Key (char-awaited s told.0), told.1)
keeps-by (M.Text s) x e = never e
keeps-by (M.Number n) x e = never e
keeps-by (M.Word w i) x e = never e

keeps-told : (x : Progress) → keeps_chars x ≡ true → (x.mode ≡ M.Key S.Char) × (is_reading x ≡ true)
unfolding keeps_chars
keeps-told x e = keeps-by x.mode x e

key-char : (y : Progress) (t : Table) (b : ℕ) (root : Bool) (key w : List ℕ) (v : Bool) → ltb y.len 32 ≡ v → ltb b 128 ≡ true
    → perform (key_task y.len b) t (mem y root key w) (moved y b (M.Key S.Char) y.level (kept_key_len y.len b))
    ≡ mem (moved y b (M.Key S.Char) y.level (kept_key_len y.len b)) root (kept_in key y.len b) w
unfolding key_task kept_in
key-char y t b root key w true e l = simp (e, l)
key-char y t b root key w false e l = simp e

key_step-kept : (t : Table) (n : ℕ) (y : Progress) (root : Bool) (key w : List ℕ) (b : ℕ) → y.mode ≡ M.Key S.Char → y.head ≡ false → y.fault ≡ None
    → y.pos < 16777216 → b < 256 → plain_class (class_of b) ≡ true
    → step_mem t n (mem y root key w) b ≡ mem (moved y b (M.Key S.Char) y.level (kept_key_len y.len b)) root (kept_in key y.len b) w
unfolding step_mem
key_step-kept t n y root key w b m h f p l e =
    ap (λ (a : Advanced). perform a.task t (mem y root key w) a.progress)
    (ap (λ (k : Mode). advanced y n b (step_of k (top_at w y.level) b)) m
    ∙ ap (λ (k : StringMove). advanced y n b (key_step k)) (plain-char (class_of b) e)
    ∙ advanced-acted y n b (step_to (M.Key S.Char) A.KeyChar) h f p (plain_other b e)
    ∙ ap (λ (k : Mode).
    advance (moved y b (M.Key S.Char) y.level (kept_key_len y.len (char_in k y.bits y.high b)))
    (key_task y.len (char_in k y.bits y.high b))) m)
    ∙ key-char y t b root key w (ltb y.len 32) refl (plain-below b l e)

-- the record after a plain character of a key
key-place : (x : Progress) (m : Mode) (bits p len q more b : ℕ) (root : Bool) (key next w : List ℕ) → m ≡ M.Key S.Char → bump p ≡ q → lead_bits b ≡ 0
    → next ≡ kept_in key len b → more ≡ kept_key_len len b
    → mem (moved (placed x m (with_bits x bits) p len) b (M.Key S.Char) x.level (kept_key_len len b)) root (kept_in key len b) w
    ≡ mem (placed x m (with_bits x 0) q more) root next w
key-place x m bits p len q more b root key next w e f g h k = rw (e, f, h, k, g)

module _ (x : Progress) (s : List ℕ) (from : ℕ) (old : List ℕ) (o : keeps_chars x ≡ true) where
  -- a plain character of a key is kept
  pub keep-on : (bits p len i q more : ℕ) (key next : List ℕ) → KeptTo x s from old (placed x x.mode (with_bits x bits) p len) i key
      → i < length s → p < 16777216
      → get_or s i 0 < 256 → plain_class (class_of (get_or s i 0)) ≡ true → next ≡ kept_in key len (get_or s i 0) → more ≡ kept_key_len len (get_or s i 0) → q ≡ p + 1
      → KeptTo x s from old (placed x x.mode (with_bits x 0) q more) (i + 1) next
  keep-on bits p len i q more key next r l v c e d g u =
      let told = keeps-told x o in
      let read = reads-told x told.1 in
      let b = get_or s i 0 in
      let y = placed x x.mode (with_bits x bits) p len in
      record {
        low = omega (arith, r.low);
        high = omega arith;
        length = ap length d ∙ length-kept_in key len b ∙ r.length;
        same = λ t n root w.
            next-run t n (mem y root key w) (mem (placed x x.mode (with_bits x 0) q more) root next w) s i l (plain_other b e)
            (sym
            (key_step-kept t n y root key w b told.0 read.0 read.1 v c e
            ∙ key-place x x.mode bits p len q more b root key next w told.0 (bump-below p v ∙ sym u) (plain-lead b c e) d g))
            ∙ r.same t n root w;
      }

-- ---- the loop, up to the end of the piece or of the longest record

module _ (x : Progress) (s : List ℕ) (from end : ℕ) (old : List ℕ) (o : keeps_chars x ≡ true) (w : from ≤ length s)
    (d : end ≡ from + min (length s - from) (16777216 - x.pos)) where
  -- the first n bytes from place `from` on are plain characters
  module _ (n : ℕ) (g : StaysFor (M.Text S.Char) (take (end - from) (drop from s)) n) where
    pub kept_on : (bits len j more c : ℕ) (key next : List ℕ)
        → KeptTo x s from old (placed x x.mode (with_bits x bits) (x.pos + j) len) (from + j) key
        → j < length (take (from + n - from) (drop from s))
        → next ≡ kept_in key len (get_or (take (from + n - from) (drop from s)) j 0) → c ≡ get_or (take (from + n - from) (drop from s)) j 0
        → more ≡ kept_key_len len c → KeptTo x s from old (placed x x.mode (with_bits x 0) (x.pos + (j + 1)) more) (from + (j + 1)) next
    kept_on bits len j more c key next r l h b u =
        let a = stayed-part (M.Text S.Char) s from end n (omega arith) (omega arith) g in
        let size : length (take (from + n - from) (drop from s)) ≡ from + n - from = simp (length-take, length-drop) (omega (arith, a.high)) in
        let less : j < from + n - from = omega (arith, size, l) in
        let told = a.stays (from + j) (omega arith) (omega arith) in
        let at : get_or (take (from + n - from) (drop from s)) j 0 ≡ get_or s (from + j) 0 =
        get_or-take (from + n - from) (drop from s) j 0 less ∙ get_or-drop from s j 0 in
        let one : from + (j + 1) ≡ from + j + 1 = omega arith in
        rw one
        (keep-on x s from old o bits (x.pos + j) len (from + j) (x.pos + (j + 1)) more key next r (omega (arith, a.high)) (omega (arith, a.high)) told.0 told.1
        (h ∙ ap (kept_in key len) at) (u ∙ ap (kept_key_len len) (b ∙ at)) (omega arith))
