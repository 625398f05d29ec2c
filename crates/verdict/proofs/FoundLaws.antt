-- The verdict that the machine finds is the verdict of the part: `judged-of-track`. Over the bytes: as long as those so far have no fault, the
-- machine is where they lead it. Assumes nothing.
use mathlib.Core.Bool.{Bool, true, false, cond, true≢false}
use mathlib.Core.List.{List, [], ◌∷◌, ◌++◌}
use mathlib.Core.Option.{Option, none, some}
use mathlib.Core.Path.{◌≡◌, refl, sym, ◌∙◌, ap}
use Prim.Native.Nat.{ℕ, suc, ◌≤◌, ◌<◌}
use native.Mathlib.Decide.{dec_lt}
use native.Mathlib.Omega.{arith}
use lib.ListN.{length, take, drop, get_or, length-drop}
use lib.Seq.{take_all, take-suc, drop-cons}
use Rattle.json_text.specs.Tree.{Json}
use Rattle.json_text.specs.Meaning.{Meaning, meaning}
use Rattle.json_text.specs.Grammar.{Text}
use Rattle.json_text.specs.Levels.{open_levels}
use Rattle.json_text.specs.Machine.{State, start, step, run, is_fault, depth_of, result}
use Rattle.laws.proofs.TestLaws.{none-neq-some}
use Rattle.json_text.proofs.Accepted.{accepted-of-text}
use Rattle.json_text.proofs.Sound.{Reads, reads, text-of-accepted}
use Rattle.json_text.proofs.Faults.{begins-of-alive, alive-of-begins}
use Rattle.json_text.proofs.LevelLaws.{depth-of-run}
use Rattle.table.specs.declared.kind.ValueKind.{ValueKind}
use Rattle.table.specs.declared.kind.ValueKind.TheVariants.{Rule}
use Rattle.book.specs.Entry.{Entry}
use Rattle.runs.specs.Sound.{Sound}
use Rattle.runs.specs.Walk.{judging}
use Rattle.runs.proofs.Judging.{valid-iff-judged, invalid-iff-judged}
use Rattle.verdict.specs.declared.Verdict.{Verdict}
use Rattle.verdict.specs.declared.Verdict.TheVariants as Is
use Rattle.verdict.specs.Verdict.{longest, Fault, Judged, by_end, by_book, not_by_book}
use Rattle.verdict.specs.Track.{Track, sound, stopped, track_to, track_byte, track, track_start, verdict_of, track_end}
use Rattle.verdict.proofs.FaultLaws.{Clean, le-of-fault, lt-length-of-fault, judged-too-long, judged-malformed, judged-too-deep, clean-suc}
use Rattle.verdict.proofs.TrackLaws.{track_byte-short, track_byte-long, track_to-fault, track_to-deep, track_to-sound, track-stopped}

-- ---- the machine, one byte on

run-snoc : (𝕄 : Meaning) (p : List ℕ) (b : ℕ) (q : State 𝕄) → run 𝕄 q (p ++ (b ∷ [])) ≡ step 𝕄 (run 𝕄 q p) b
run-snoc 𝕄 [] b q = refl
run-snoc 𝕄 (a ∷ p) b q = run-snoc 𝕄 p b (step 𝕄 q a)

-- p goes on with byte b at i, and with s after it
record Next (p : List ℕ) (i b : ℕ) (s : List ℕ) : Type 0 where
  inside : i < length p
  byte : take (suc i) p ≡ take i p ++ (b ∷ [])
  rest : drop (suc i) p ≡ s

next-of-drop : (p : List ℕ) (i b : ℕ) (s : List ℕ) → drop i p ≡ b ∷ s → Next p i b s
next-of-drop p i b s e =
    let h : i < length p = omega (arith, simp length-drop at (ap length e)) in
    let f : get_or p i 0 ∷ drop (suc i) p ≡ b ∷ s = sym (drop-cons p i 0 h) ∙ e in
    let g : get_or p i 0 ≡ b = cc in
    record { inside = h; byte = rw (take-suc p i 0 h, g); rest = cc }

module _ {es : List Entry} (sound-book : Sound es) (n : ℕ) (p : List ℕ) where
  -- ---- at the end

  -- a part without a fault is judged by the result of the machine
  judged-of-result : ((w : Verdict) (j : ℕ) → Fault n p w j → ⊥) → (o : Option (ValueKind → Bool))
      → result (judging es) (run (judging es) (start (judging es)) p) ≡ o → Judged es n p (verdict_of es o (length p))
  unfolding verdict_of
  judged-of-result f none e = by_end f (λ t x. none-neq-some (sym e ∙ accepted-of-text (judging es) x))
  judged-of-result f (some w) e = by_value (text-of-accepted (judging es) p w e)
    where
      by-test : (t : Json) → Text p t → (b : Bool) → meaning (judging es) t (Rule 0) ≡ b → Judged es n p (cond b Is.Valid Is.Invalid)
      by-test t x true e = by_book f x ((valid-iff-judged sound-book t).1 e)
      by-test t x false e = not_by_book f x ((invalid-iff-judged sound-book t).1 e)

      by_value : Reads (judging es) p w → Judged es n p (cond (w (Rule 0)) Is.Valid Is.Invalid)
      by_value (reads t x e) = by-test t x (w (Rule 0)) (ap (λ (m : ValueKind → Bool). m (Rule 0)) e)

  -- ---- from byte i on

  -- where the bytes s are left, the machine finds the verdict of the part from the track t on
  abbrev Finds : List ℕ → Track es → Type 0
  Finds s t = Judged es n p (track_end es (track es n t s))

  -- at a fault the verdict for it is found, whatever bytes follow
  finds-stopped : {v : Verdict} (s : List ℕ) → Judged es n p v → Finds s (stopped v)
  unfolding track_end
  finds-stopped {v} s j = rw (track-stopped es n v s) j

  -- the state after the first i bytes
  abbrev state_at : ℕ → State (judging es)
  state_at i = run (judging es) (start (judging es)) (take i p)

  module _ {i b : ℕ} {s : List ℕ} (c : Clean n p i) (x : Next p i b s) (more : Clean n p (suc i) → Finds s (sound (state_at (suc i)) (suc i))) where
    -- where some text begins with the bytes up to byte i, the levels decide
    finds-alive : i < longest → is_fault (judging es) (state_at (suc i)) ≡ false → Finds s (track_to es n (state_at (suc i)) i)
    finds-alive l f = by-levels (dec_lt n (open_levels (take (suc i) p)))
      where
        e : depth_of (judging es) (state_at (suc i)) ≡ open_levels (take (suc i) p)
        e = depth-of-run (judging es) (take (suc i) p) f

        by-levels : Dec (n < open_levels (take (suc i) p)) → Finds s (track_to es n (state_at (suc i)) i)
        by-levels (yes h) =
            rw (track_to-deep es n (state_at (suc i)) i f (omega (arith, e)))
            (finds-stopped s (judged-too-deep c x.inside l (begins-of-alive (judging es) (take (suc i) p) f) h))
        by-levels (no h) =
            rw (track_to-sound es n (state_at (suc i)) i f (omega (arith, e)))
            (more (clean-suc c x.inside l (begins-of-alive (judging es) (take (suc i) p) f) (omega arith)))

    -- within the most bytes: where no text begins with the bytes up to byte i the part is malformed, else the levels decide
    finds-to : i < longest → Finds s (track_to es n (state_at (suc i)) i)
    finds-to l = by_fault (is_fault (judging es) (state_at (suc i))) refl
      where
        by_fault : (v : Bool) → is_fault (judging es) (state_at (suc i)) ≡ v → Finds s (track_to es n (state_at (suc i)) i)
        by_fault true f =
            rw (track_to-fault es n (state_at (suc i)) i f)
            (finds-stopped s (judged-malformed c x.inside l (λ g. true≢false (sym f ∙ alive-of-begins (judging es) (take (suc i) p) g))))
        by_fault false f = finds-alive l f

    -- where byte i is one too many the part is too long, else the byte is read
    finds-byte : Finds s (track_byte es n (sound (state_at i) i) b)
    finds-byte = by_length (dec_lt i longest)
      where
        e : state_at (suc i) ≡ step (judging es) (state_at i) b
        e = rw x.byte (run-snoc (judging es) (take i p) b (start (judging es)))

        by_length : Dec (i < longest) → Finds s (track_byte es n (sound (state_at i) i) b)
        by_length (yes h) = rw (track_byte-short es n (state_at i) b h, ← e) (finds-to h)
        by_length (no h) =
            let g : longest ≤ i = omega arith in
            rw (track_byte-long es n (state_at i) b g) (finds-stopped s (judged-too-long c x.inside g))

  -- as long as the bytes so far have no fault, the machine finds the verdict of the part
  finds-from : (s : List ℕ) (i : ℕ) → drop i p ≡ s → Clean n p i → Finds s (sound (state_at i) i)
  unfolding track_end
  finds-from [] i e c =
      let h : length p ≤ i = omega (arith, simp length-drop at (ap length e)) in
      let f : i ≡ length p = omega (arith, c.inside) in
      rw (take_all i p h, f) (judged-of-result (λ w j y. omega (arith, le-of-fault c y, lt-length-of-fault y)) _ refl)
  finds-from (b ∷ s) i e c = let x = next-of-drop p i b s e in finds-byte c x (λ d. finds-from s (suc i) x.rest d)

  -- the verdict that the machine finds is the verdict of the part
  pub judged-of-track : Judged es n p (track_end es (track es n (track_start es) p))
  judged-of-track = finds-from p 0 refl (record {
    inside = omega arith;
    short = omega arith;
    begins = begins-of-alive (judging es) [] refl;
    shallow = λ j h. (let e : j ≡ 0 = omega arith in rw e (omega arith));
  })
