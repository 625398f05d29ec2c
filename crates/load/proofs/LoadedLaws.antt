-- What a loaded table is: its numbers in their ranges and within their limits, and holding the entries of the book, of which no two clash. Assumes
-- nothing.
use mathlib.Core.Bool.{Bool, true, false, not, cond, ◌||◌}
use mathlib.Core.List.{List, [], ◌∷◌, ◌++◌, append-nil, append_assoc}
use mathlib.Core.Path.{◌≡◌, refl, sym, ap, ◌∙◌}
use Prim.Native.Nat.{ℕ, suc}
use native.Mathlib.Omega.{arith}
use lib.Dec.{eqb}
use borrow.Author.Tests.{eqb-true, eqb-false, ne_eqb}
use Rattle.laws.specs.Lists.{all, any}
use Rattle.table.specs.Limits.{WithinLimits, within_limits}
use Rattle.table.proofs.LimitLaws.{within_limits-complete}
use Rattle.table.specs.Flat.{empty_table}
use Rattle.book.specs.Entry.{Entry, keys_of, clash}
use Rattle.book.specs.Load.{Read, refused, entries, read_book, has_rule, dangles, first_line, clashes, first_clash, PaperAnswer as Paper, refuse, check_book, checked, loads}
use Rattle.book.specs.Holds.{Holds}
use Rattle.book.proofs.HoldLaws.{Each, each_map, each_append}
use Rattle.book.proofs.TruthLaws.{or_parts}
use Rattle.store.specs.Proper.{Proper}
use Rattle.load.specs.Ranges.{Ranges}
use Rattle.store.specs.Store.{table_from, table_of}
use Rattle.load.specs.Step.{Loaded, take_book}
use Rattle.load.specs.declared.Refusal.{Refusal}
use Rattle.load.specs.declared.Refusal.TheVariants as No
use Rattle.load.specs.BookAnswer.{Numbered, number_line, refused_as, numbered}
use Rattle.load.specs.Loads.{book_table, LoadsAs}
use Rattle.load.proofs.RangeLaws.{within_limits-of-ranges}
use Rattle.load.proofs.KeptLaws.{Loading}
use Rattle.load.proofs.AgreeLaws.{Agree, kept-none, book-agrees, loads-numbered}

-- ---- no two entries clash
module _ (ks : List (List ℕ)) where
  -- no entry of the one list leads to one of the other without its key rising
  abbrev Apart : List Entry → List Entry → Type 0
  Apart l r = Each (λ a. Each (λ b. clash ks a b ≡ false) r) l

  none-of-any : (x : Entry) (l : List Entry) → any (clashes ks x) l ≡ false → Each (λ y. (clash ks y x ≡ false) × (clash ks x y ≡ false)) l
  unfolding any clashes
  none-of-any x [] e = tt
  none-of-any x (y ∷ l) e =
      let p = or_parts (clash ks y x || clash ks x y) (any (clashes ks x) l) e in
      (or_parts (clash ks y x) (clash ks x y) p.0, none-of-any x l p.1)

  each_left : (P : Entry → Type 0) (l r : List Entry) → Each P (l ++ r) → Each P l
  each_left P [] r h = tt
  each_left P (x ∷ l) r h = (h.0, each_left P l r h.1)

  apart-last : (seen l : List Entry) (x : Entry) → Apart l seen → Each (λ y. (clash ks y x ≡ false) × (clash ks x y ≡ false)) l → Apart l (seen ++ (x ∷ []))
  apart-last seen [] x a c = tt
  apart-last seen (y ∷ l) x a c = (each_append (λ b. clash ks y b ≡ false) seen (x ∷ []) a.0 (c.0.0, tt), apart-last seen l x a.1 c.1)

  apart-of-first_clash : (n : ℕ) (seen l : List Entry) → first_clash ks (suc n) seen l ≡ 0 → Apart seen seen → Apart (seen ++ l) (seen ++ l)
  unfolding first_clash
  apart-of-first_clash n seen [] e a = rw (append-nil seen) a
  apart-of-first_clash n seen (x ∷ l) e a = go (any (clashes ks x) (seen ++ (x ∷ []))) refl e (apart-of-first_clash (suc n) (seen ++ (x ∷ [])) l)
    where
      go : (b : Bool) → any (clashes ks x) (seen ++ (x ∷ [])) ≡ b → cond b (suc n) (first_clash ks (suc (suc n)) (seen ++ (x ∷ [])) l) ≡ 0
          → (first_clash ks (suc (suc n)) (seen ++ (x ∷ [])) l ≡ 0 → Apart (seen ++ (x ∷ [])) (seen ++ (x ∷ [])) → Apart ((seen ++ (x ∷ [])) ++ l) ((seen ++ (x ∷ [])) ++ l))
          → Apart (seen ++ (x ∷ l)) (seen ++ (x ∷ l))
      go true p z ih = absurd (omega arith)
      go false p z ih =
          let c = none-of-any x (seen ++ (x ∷ [])) p in
          let here : Apart (seen ++ (x ∷ [])) (seen ++ (x ∷ [])) =
          each_append (λ u. Each (λ b. clash ks u b ≡ false) (seen ++ (x ∷ []))) seen (x ∷ [])
          (apart-last seen seen x a (each_left _ seen (x ∷ []) c)) (each_map _ (λ b. clash ks x b ≡ false) (λ y q. q.1) (seen ++ (x ∷ [])) c, tt) in
          rw (append_assoc seen (x ∷ []) l) at (ih z here)

  -- where a test holds of each entry, the test `all` of the entries holds
  all_of_each : (f : Entry → Bool) (l : List Entry) → Each (λ x. f x ≡ true) l → all f l ≡ true
  unfolding all
  all_of_each f [] h = refl
  all_of_each f (x ∷ l) h = rw (h.0, all_of_each f l h.1)

  all_apart : (l r : List Entry) → Apart l r → all (λ a. all (λ b. not (clash ks a b)) r) l ≡ true
  all_apart l r h =
      all_of_each _ l
      (each_map _ _ (λ a p. all_of_each (λ b. not (clash ks a b)) r (each_map (λ b. clash ks a b ≡ false) _ (λ b q. ap not q) r p)) l h)

-- ---- the entries that load gives

-- what is true of no entries, and of the entries of a book that passes its checks, is true of those that load gives
checked-elim : (P : List Entry → Type 0) → P [] → (es : List Entry) → (first_clash (keys_of es) 2 [] es ≡ 0 → P es) → P (check_book es).entries
unfolding check_book
checked-elim P none es h = go (eqb (first_line (dangles es) 2 es) 0) (has_rule es 0) (eqb (first_clash (keys_of es) 2 [] es) 0) refl
  where
    c : ℕ
    c = first_clash (keys_of es) 2 [] es

    go : (x y z : Bool) → eqb c 0 ≡ z
        → P (cond x (cond y (cond z (record { number = 0; line = 0; entries = es }) (refuse 9 c)) (refuse 8 0)) (refuse 8 (first_line (dangles es) 2 es))).entries
    go true true true e = h (eqb-true c 0 e)
    go true true false e = none
    go true false z e = none
    go false y z e = none

loads-elim : (P : List Entry → Type 0) → P [] → ((es : List Entry) → Loading (table_of es) es → first_clash (keys_of es) 2 [] es ≡ 0 → P es) → (b : List ℕ) → P (loads b).entries
unfolding loads checked
loads-elim P none h b = go (read_book b) (book-agrees b)
  where
    go : (p : Read) → Agree (take_book b) p → P (checked p).entries
    go (refused k n) a = none
    go (entries es) a = checked-elim P none es (h es a.1)

-- all that is kept as a book is read
pub loads-kept : (b : List ℕ) → Loading (table_of (loads b).entries) (loads b).entries
loads-kept = loads-elim (λ es. Loading (table_of es) es) kept-none (λ es k e. k)

-- the table of the entries holds them
pub loads-held : (b : List ℕ) → Holds (table_of (loads b).entries) (loads b).entries
loads-held b = (loads-kept b).holds

-- each entry is within the limits of its fields
pub loads-proper : (b : List ℕ) → Each Proper (loads b).entries
loads-proper b = (loads-kept b).proper

-- refusal 9 leaves only entries of which no two clash
pub loads-apart : (b : List ℕ) → Apart (keys_of (loads b).entries) (loads b).entries (loads b).entries
loads-apart = loads-elim (λ es. Apart (keys_of es) es es) tt (λ es k e. apart-of-first_clash (keys_of es) 1 [] es e tt)

-- no two of the entries that load gives clash, as a test
pub loads-apart-test : (b : List ℕ) → all (λ a. all (λ c. not (clash (keys_of (loads b).entries) a c)) (loads b).entries) (loads b).entries ≡ true
loads-apart-test b = all_apart (keys_of (loads b).entries) (loads b).entries (loads b).entries (loads-apart b)

-- a refused book has no entries
pub loads-refused : (b : List ℕ) → ((loads b).number ≡ 0 → ⊥) → (loads b).entries ≡ []
unfolding loads checked check_book
loads-refused b = go (read_book b)
  where
    go : (p : Read) → ((checked p).number ≡ 0 → ⊥) → (checked p).entries ≡ []
    go (refused k n) h = refl
    go (entries es) h =
        cases (eqb (first_line (dangles es) 2 es) 0) (has_rule es 0) (eqb (first_clash (keys_of es) 2 [] es) 0) (first_line (dangles es) 2 es) (first_clash (keys_of es) 2 [] es) es h
      where
        answer : Bool → Bool → Bool → ℕ → ℕ → List Entry → Paper
        answer x y z d c l = cond x (cond y (cond z (record { number = 0; line = 0; entries = l }) (refuse 9 c)) (refuse 8 0)) (refuse 8 d)

        cases : (x y z : Bool) (d c : ℕ) (l : List Entry) → ((answer x y z d c l).number ≡ 0 → ⊥) → (answer x y z d c l).entries ≡ []
        cases true true true d c l k = absurd (k refl)
        cases true true false d c l k = refl
        cases true false z d c l k = refl
        cases false y z d c l k = refl

-- the table of a book is that of its entries: a refused book has none, and their table is the empty one
pub book_table-entries : (b : List ℕ) → book_table b ≡ table_of (loads b).entries
unfolding book_table table_of table_from
book_table-entries b = go (eqb (loads b).number 0) refl
  where
    go : (x : Bool) → eqb (loads b).number 0 ≡ x → cond x (table_of (loads b).entries) empty_table ≡ table_of (loads b).entries
    go true e = refl
    go false e = sym (ap table_of (loads-refused b (eqb-false (loads b).number 0 e)))

-- ---- what load gives
module _ (b : List ℕ) (r : Loaded) (l : LoadsAs b r) where
  -- number and line of the answer are the paper's
  loaded-numbered : numbered r.answer ≡ number_line (loads b).number (loads b).line
  loaded-numbered = ap numbered l.answer ∙ loads-numbered b

  pub number-of-book : (n : ℕ) → n ≡ (numbered r.answer).number → n ≡ (loads b).number
  number-of-book n e = e ∙ ap (λ (y : Numbered). y.number) loaded-numbered

  pub line-of-book : (n : ℕ) → n ≡ (numbered r.answer).line → n ≡ (loads b).line
  line-of-book n e = e ∙ ap (λ (y : Numbered). y.line) loaded-numbered

  -- the table is that of the entries
  pub table-of-entries : r.table ≡ table_of (loads b).entries
  table-of-entries = l.table ∙ book_table-entries b

  -- the loaded table holds the entries of the book
  pub loaded-holds : Holds r.table (loads b).entries
  loaded-holds = rw table-of-entries (loads-held b)

  -- a refusal has the empty table
  pub refused-table : ((loads b).number ≡ 0 → ⊥) → r.table ≡ empty_table
  unfolding book_table
  refused-table h = l.table ∙ rw (ne_eqb (loads b).number 0 h)

  -- the numbers of the loaded table are in their ranges
  pub loaded-ranges : Ranges r.table
  loaded-ranges = rw table-of-entries (loads-kept b).ranges

  -- the loaded table is within its limits, and so never meets refusal 23
  pub loaded-within : WithinLimits r.table
  loaded-within = within_limits-of-ranges r.table loaded-ranges

  pub loaded-within_limits : within_limits r.table ≡ true
  loaded-within_limits = within_limits-complete r.table loaded-within

-- ---- numbers of refusals

-- a refusal has a number above 0
pub refusal-above-0 : (r : Refusal) → (refused_as r).number ≡ 0 → ⊥
refusal-above-0 No.Size e = omega (arith, e)
refusal-above-0 No.Names e = omega (arith, e)
refusal-above-0 (No.Malformed n) e = omega (arith, e)
refusal-above-0 (No.AboveLimit n) e = omega (arith, e)
refusal-above-0 (No.TooMany n) e = omega (arith, e)
refusal-above-0 (No.FormChanged n) e = omega (arith, e)
refusal-above-0 (No.Repeated n) e = omega (arith, e)
refusal-above-0 (No.NoRule n) e = omega (arith, e)
refusal-above-0 No.NoRoot e = omega (arith, e)
refusal-above-0 (No.NotAscending n) e = omega (arith, e)
