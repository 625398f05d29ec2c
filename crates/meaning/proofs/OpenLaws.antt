-- An opened frame, and one after a finished key, show what `runs` keeps of the open value. Assumes nothing.
use mathlib.Core.Bool.{Bool, not, cond, ◌&&◌, ◌||◌, or_comm, or-true}
use mathlib.Core.List.{List}
use mathlib.Core.Path.{◌≡◌, sym, ap, ◌∙◌}
use Prim.Native.Nat.{ℕ, ◌<◌, ◌≤◌}
use native.Mathlib.Decide.{dec_lt}
use native.Mathlib.Omega.{arith}
use lib.Dec.{T, eqb, eqb→eq, ltb, ltb→lt, lt→ltb}
use borrow.Author.Tests.{lt-ltb, le-ltb, eq-eqb}
use Rattle.laws.proofs.TestLaws.{T-of-true, T_and, T-and-left, T-and-right}
use Rattle.table.specs.Table.{Table}
use Rattle.table.specs.declared.kind.Form.TheVariants.{Object, Array}
use Rattle.book.specs.Entry.{arr, Entry}
use Rattle.book.specs.Holds.{form_code}
use Rattle.runs.specs.Walk.{OpenObject, start_of, key_count, number_in, at_opening, after_key}
use Rattle.runs.proofs.StepLaws.{in_keys-at_opening, in_keys-after_key}
use Rattle.frame.specs.Frame.{current_key, marked, seen_in, held_in}
use Rattle.frame.specs.Ops.{opened, keyed}
use Rattle.frame.proofs.OpenLaws.{length-opened, is_object-opened-object, is_object-opened-array, current_key-opened, marked-opened, seen_in-opened, held_in-opened-object, held_in-opened-array}
use Rattle.frame.proofs.KeyLaws.{length-keyed, is_object-keyed, held_in-keyed, current_key-keyed, marked-keyed-known, marked-keyed-unknown, seen_in-keyed}
use Rattle.meaning.specs.Shows.{Carries, ShowsArray, ShowsKey, ShowsObject}
use Rattle.meaning.proofs.EdgeLaws.{key_count-le}
use Rattle.meaning.proofs.StateLaws.{eq-of-iff, shows-start}

module _ {t : Table} {es : List Entry} (kept : Carries t es) where
  -- ---- opening

  -- an array that was just opened has state 0 of every `arr` rule
  pub shows-open-array : ShowsArray (opened t.forms Array) (start_of es arr)
  unfolding form_code
  shows-open-array = record {
    long = length-opened t.forms Array;
    array = is_object-opened-array t.forms;
    states = shows-start kept arr (held_in (opened t.forms Array)) (held_in-opened-array t.forms);
  }

  -- an object that was just opened has no key, no edge and no mark
  pub shows-open-object : ShowsObject es (opened t.forms Object) (at_opening es)
  unfolding at_opening
  shows-open-object = record {
    long = length-opened t.forms Object;
    object = is_object-opened-object t.forms;
    mark = marked-opened t.forms Object;
    current = rw (le-ltb (key_count es) (key_count es) (omega arith)) (current_key-opened t.forms);
    seen = seen_in-opened t.forms;
    held = λ e l. held_in-opened-object t.forms e;
    in_keys = in_keys-at_opening es;
  }

  -- ---- a finished key

  -- a known key sets byte 1 and its bit, or the mark where it was seen; an unknown one makes byte 1 255 and sets the mark
  pub shows-key : {f : List ℕ} {o : OpenObject} {k : List ℕ} {n : ℕ} → ShowsObject es f o → ShowsKey es k n → ShowsObject es (keyed n f) (after_key es o k)
  unfolding after_key
  shows-key {f} {o} {k} {n} h key = record {
    long = length-keyed f n ∙ h.long;
    object = is_object-keyed f n ∙ h.object;
    mark = mark (dec_lt c (key_count es));
    current = current (dec_lt c (key_count es));
    seen = seen;
    held = λ e l. held_in-keyed f n e ∙ h.held e l;
    in_keys = in_keys-after_key es k h.in_keys;
  }
    where
      c : ℕ
      c = number_in es k

      mark : Dec (c < key_count es) → marked (keyed n f) ≡ (o.marked || (not (ltb c (key_count es)) || o.seen c))
      mark (yes l) =
          let e = key.known l in
          let b : n < 128 = omega (arith, key_count-le kept) in
          rw (lt-ltb c (key_count es) l)
          (marked-keyed-known f n h.long b
          ∙ ap (λ (s : Bool). s || marked f) (h.seen n b ∙ ap o.seen e)
          ∙ ap (λ (s : Bool). o.seen c || s) h.mark
          ∙ or_comm (o.seen c) o.marked)
      mark (no l) =
          let g : key_count es ≤ c = omega arith in
          rw (le-ltb c (key_count es) g) (marked-keyed-unknown f n h.long (key.unknown g) ∙ sym (or-true o.marked))

      current : Dec (c < key_count es) → current_key (keyed n f) ≡ cond (ltb c (key_count es)) c 255
      current (yes l) =
          let e = key.known l in
          let b : n < 128 = omega (arith, key_count-le kept) in
          rw (lt-ltb c (key_count es) l) (current_key-keyed f n h.long ∙ rw (lt-ltb n 128 b) e)
      current (no l) =
          let g : key_count es ≤ c = omega arith in
          rw (le-ltb c (key_count es) g) (current_key-keyed f n h.long ∙ rw (le-ltb n 128 (key.unknown g)))

      -- the key finished is key j of the frame where it is key j of the book
      is_key : (j : ℕ) → j < 128 → Dec (c < key_count es) → n ≡ j → T (eqb j c && ltb j (key_count es))
      is_key j l (yes d) e =
          let a = key.known d in
          T_and (eqb j c) (ltb j (key_count es)) (T-of-true (eqb j c) (eq-eqb j c (omega arith))) (lt→ltb j (key_count es) (omega arith))
      is_key j l (no d) e = let a = key.unknown (omega arith) in absurd (omega arith)

      number : (j : ℕ) → T (eqb j c && ltb j (key_count es)) → n ≡ j
      number j b =
          let e : j ≡ c = eqb→eq j c (T-and-left (eqb j c) (ltb j (key_count es)) b) in
          let l : j < key_count es = ltb→lt j (key_count es) (T-and-right (eqb j c) (ltb j (key_count es)) b) in
          key.known (omega arith) ∙ sym e

      seen : (j : ℕ) → j < 128 → seen_in (keyed n f) j ≡ (o.seen j || (eqb j c && ltb j (key_count es)))
      seen j l =
          let this = eqb j c && ltb j (key_count es) in
          let e : eqb n j ≡ this =
          eq-of-iff (eqb n j) this ((λ b. is_key j l (dec_lt c (key_count es)) (eqb→eq n j b)), (λ b. T-of-true (eqb n j) (eq-eqb n j (number j b)))) in
          seen_in-keyed f n h.long j l ∙ ap (λ (b : Bool). b || seen_in f j) e ∙ ap (λ (b : Bool). this || b) (h.seen j l) ∙ or_comm this (o.seen j)
