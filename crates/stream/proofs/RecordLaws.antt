-- The parts and verdicts of a stream's bytes, and the paper that goes through them. Assumes nothing.
use Rattle.std.specs.Prelude.{Ok, Some, None}
use mathlib.Core.Bool.{Bool, true, false, cond, not, ◌&&◌}
use mathlib.Core.List.{List, [], ◌∷◌, ◌++◌, append_assoc, append-nil}
use mathlib.Core.Path.{◌≡◌, refl, sym, ap, ◌∙◌}
use Prim.Native.Nat.{ℕ, ◌+◌}
use lib.Dec.{eqb}
use lib.ListN.{length, drop}
use lib.Seq.{drop-drop}
use Rattle.laws.specs.Lists.{all}
use Rattle.verdict.specs.declared.Verdict.{Verdict}
use Rattle.stream.specs.Paper.{Judge, Paper, nonempty, Said, goes, ends}
use Rattle.laws.proofs.TestLaws.{true-neq-false}
use Rattle.stream.specs.Records.{Parts, with_byte, cut_at_rs, no_rs, nonempties, records_of, given, given_all, verdicts_of, verdicts_behind, and_then}

-- ---- what stands after an RS

module _ (b : ℕ) (s : List ℕ) where
  pub cut_at_rs-of-RS : eqb b 0x1E ≡ true → cut_at_rs (b ∷ s) ≡ record { first = []; behind = (cut_at_rs s).first ∷ (cut_at_rs s).behind }
  unfolding cut_at_rs
  cut_at_rs-of-RS e = rw e

  pub cut_at_rs-of-byte : eqb b 0x1E ≡ false → cut_at_rs (b ∷ s) ≡ record { first = b ∷ (cut_at_rs s).first; behind = (cut_at_rs s).behind }
  unfolding cut_at_rs
  cut_at_rs-of-byte e = rw e

-- the parts on both sides of an RS
abbrev around : Parts → Parts → Parts
around x y = record { first = x.first; behind = x.behind ++ (y.first ∷ y.behind) }

with_byte-around : (b : ℕ) (x y : Parts) → with_byte b (around x y) ≡ around (with_byte b x) y
with_byte-around b x y = go (eqb b 0x1E) refl
  where
    go : (z : Bool) → eqb b 0x1E ≡ z → with_byte b (around x y) ≡ around (with_byte b x) y
    go true e = rw e
    go false e = rw e

-- the parts before an RS are those of the bytes before it
cut_at_rs-append : (a s : List ℕ) → cut_at_rs (a ++ (0x1E ∷ s)) ≡ around (cut_at_rs a) (cut_at_rs s)
unfolding cut_at_rs
cut_at_rs-append [] s = refl
cut_at_rs-append (b ∷ a) s = rw (cut_at_rs-append a s) (with_byte-around b (cut_at_rs a) (cut_at_rs s))

module _ (J : Judge) where
  given-append : (head : Bool) (p : List ℕ) (vs us : List Verdict) → given J head p (vs ++ us) ≡ given J head p vs ++ us
  given-append head p vs us = go (nonempty p)
    where
      go : (x : Bool) → cond x (J head p ∷ (vs ++ us)) (vs ++ us) ≡ cond x (J head p ∷ vs) vs ++ us
      go true = refl
      go false = refl

  given_all-append : (ps qs : List (List ℕ)) → given_all J (ps ++ qs) ≡ given_all J ps ++ given_all J qs
  unfolding given_all
  given_all-append [] qs = refl
  given_all-append (p ∷ ps) qs = rw (given_all-append ps qs) (given-append false p (given_all J ps) (given_all J qs))

  given_all-cut_at_rs : (s : List ℕ) → given_all J ((cut_at_rs s).first ∷ (cut_at_rs s).behind) ≡ verdicts_behind J s
  unfolding given_all
  given_all-cut_at_rs s = refl

  -- the verdicts before an RS, then those after it: neither depends on the other side
  pub verdicts_of-append : (a s : List ℕ) → verdicts_of J (a ++ (0x1E ∷ s)) ≡ verdicts_of J a ++ verdicts_behind J s
  verdicts_of-append a s =
      rw (cut_at_rs-append a s, given_all-append (cut_at_rs a).behind ((cut_at_rs s).first ∷ (cut_at_rs s).behind), given_all-cut_at_rs s)
      (given-append true (cut_at_rs a).first (given_all J (cut_at_rs a).behind) (verdicts_behind J s))

  -- bytes after an RS: the verdicts before a further RS, then those after it
  pub verdicts_behind-append : (a s : List ℕ) → verdicts_behind J (a ++ (0x1E ∷ s)) ≡ verdicts_behind J a ++ verdicts_behind J s
  verdicts_behind-append a s =
      rw (cut_at_rs-append a s, given_all-append (cut_at_rs a).behind ((cut_at_rs s).first ∷ (cut_at_rs s).behind), given_all-cut_at_rs s)
      (given-append false (cut_at_rs a).first (given_all J (cut_at_rs a).behind) (verdicts_behind J s))

-- bytes without RS are one part
cut_at_rs-of-no_rs : (p : List ℕ) → no_rs p ≡ true → cut_at_rs p ≡ record { first = p; behind = [] }
unfolding cut_at_rs all
cut_at_rs-of-no_rs [] h = refl
cut_at_rs-of-no_rs (b ∷ p) h = go (λ g. cut_at_rs-of-no_rs p g) (eqb b 0x1E) refl h
  where
    go : (no_rs p ≡ true → cut_at_rs p ≡ record { first = p; behind = [] }) → (x : Bool) → eqb b 0x1E ≡ x → not x && no_rs p ≡ true
        → with_byte b (cut_at_rs p) ≡ record { first = b ∷ p; behind = [] }
    go rest true e h = true-neq-false (sym h)
    go rest false e h = rw (e, rest h)

-- a record after an RS has one verdict
pub verdicts_behind-of-record : (J : Judge) (p : List ℕ) → nonempty p ≡ true → no_rs p ≡ true → verdicts_behind J p ≡ J false p ∷ []
unfolding given_all
verdicts_behind-of-record J p e h = rw (cut_at_rs-of-no_rs p h, e)

-- a record in the head has one verdict
pub verdicts_of-of-head : (J : Judge) (p : List ℕ) → nonempty p ≡ true → no_rs p ≡ true → verdicts_of J p ≡ J true p ∷ []
unfolding given_all
verdicts_of-of-head J p e h = rw (cut_at_rs-of-no_rs p h, e)

-- ---- how many verdicts there are

module _ (J : Judge) where
  length-given_all : (ps : List (List ℕ)) → length (given_all J ps) ≡ length (nonempties ps)
  unfolding given_all nonempties
  length-given_all [] = refl
  length-given_all (p ∷ ps) = go (nonempty p) (length-given_all ps)
    where
      go : (x : Bool) → length (given_all J ps) ≡ length (nonempties ps)
          → length (cond x (J false p ∷ given_all J ps) (given_all J ps)) ≡ length (cond x (p ∷ nonempties ps) (nonempties ps))
      go true e = rw e
      go false e = e

  -- there are as many verdicts as records
  pub length-verdicts_of : (s : List ℕ) → length (verdicts_of J s) ≡ length (records_of s)
  unfolding nonempties
  length-verdicts_of s = go (nonempty (cut_at_rs s).first) (length-given_all (cut_at_rs s).behind)
    where
      go : (x : Bool) → length (given_all J (cut_at_rs s).behind) ≡ length (nonempties (cut_at_rs s).behind)
          → length (cond x (J true (cut_at_rs s).first ∷ given_all J (cut_at_rs s).behind) (given_all J (cut_at_rs s).behind))
          ≡ length (cond x ((cut_at_rs s).first ∷ nonempties (cut_at_rs s).behind) (nonempties (cut_at_rs s).behind))
      go true e = rw e
      go false e = e

-- ---- the paper

module _ (J : Judge) where
  -- the verdicts of the bytes after what the paper holds
  abbrev pub verdicts_from : Paper → List ℕ → List Verdict
  verdicts_from p s = given J p.head (p.part ++ (cut_at_rs s).first) (given_all J (cut_at_rs s).behind)

  from_byte : (p : Paper) (b : ℕ) (s : List ℕ) → eqb b 0x1E ≡ false
      → verdicts_from p (b ∷ s) ≡ verdicts_from (record { head = p.head; part = p.part ++ (b ∷ []) }) s
  from_byte p b s e = rw (cut_at_rs-of-byte b s e, append_assoc p.part (b ∷ []) (cut_at_rs s).first)

  -- an RS gives the part its verdict, where it has one
  from-RS : (p : Paper) (b : ℕ) (s : List ℕ) → eqb b 0x1E ≡ true
      → verdicts_from p (b ∷ s) ≡ given J p.head p.part (verdicts_from (record { head = false; part = [] }) s)
  unfolding given_all
  from-RS p b s e = rw (cut_at_rs-of-RS b s e, append-nil p.part)

  -- a close gives the part its verdict, where it has one
  pub from-close : (p : Paper) → verdicts_from p [] ≡ and_then (ends J p).answer []
  unfolding cut_at_rs given_all
  from-close p = rw (append-nil p.part) (go (nonempty p.part))
    where
      go : (x : Bool) → cond x (J p.head p.part ∷ []) [] ≡ and_then (cond x (Ok (Some (J p.head p.part))) (Ok None)) []
      go true = refl
      go false = refl

  -- the bytes after the next one
  drop-next : (i : ℕ) (whole : List ℕ) (b : ℕ) (s : List ℕ) → drop i whole ≡ b ∷ s → drop (i + 1) whole ≡ s
  drop-next i whole b s e = sym (drop-drop 1 i whole) ∙ ap (drop 1) e

  module _ (whole u : List ℕ) where
    -- the verdicts are what the paper says to a piece, and then those of the unread rest and the bytes after the piece
    abbrev Given : Paper → List ℕ → Said → Type 0
    Given p s said = verdicts_from p (s ++ u) ≡ and_then said.answer (verdicts_from said.paper (drop said.count whole ++ u))

    module _ (p : Paper) (i : ℕ) (b : ℕ) (s : List ℕ) (e : drop i whole ≡ b ∷ s)
        (rest : (p : Paper) (i : ℕ) → drop i whole ≡ s → Given p s (goes J p i s)) where
      given-of-byte : (x : Bool) → eqb b 0x1E ≡ x → (y : Bool) → nonempty p.part ≡ y → Given p (b ∷ s) (goes J p i (b ∷ s))
      unfolding goes
      given-of-byte true d true h = from-RS p b (s ++ u) d ∙ rw (d, h, drop-next i whole b s e)
      given-of-byte true d false h =
          from-RS p b (s ++ u) d ∙ rw (d, h) (rest (record { head = false; part = [] }) (i + 1) (drop-next i whole b s e))
      given-of-byte false d y h =
          from_byte p b (s ++ u) d
          ∙ rw d (rest (record { head = p.head; part = p.part ++ (b ∷ []) }) (i + 1) (drop-next i whole b s e))

    given-of-piece : (s : List ℕ) (p : Paper) (i : ℕ) → drop i whole ≡ s → Given p s (goes J p i s)
    unfolding goes
    given-of-piece [] p i e = rw e
    given-of-piece (b ∷ s) p i e = given-of-byte p i b s e (λ p i e. given-of-piece s p i e) (eqb b 0x1E) refl (nonempty p.part) refl

  -- a feed gives the verdict that the paper says, and the unread rest stands before the bytes after the piece
  pub from-feed : (p : Paper) (s u : List ℕ)
      → verdicts_from p (s ++ u) ≡ and_then (goes J p 0 s).answer (verdicts_from (goes J p 0 s).paper (drop (goes J p 0 s).count s ++ u))
  from-feed p s u = given-of-piece s u s p 0 refl
