-- Reading a book into a table is reading it on paper, and so is checking it. Assumes nothing.
use mathlib.Core.Bool.{Bool, true, false, not, cond, ◌||◌}
use mathlib.Core.List.{List, [], ◌∷◌, ◌++◌}
use mathlib.Core.Path.{◌≡◌, refl, sym, ap, ◌∙◌}
use Prim.Native.Nat.{ℕ, suc, ◌+◌}
use native.Mathlib.Omega.{arith}
use lib.Dec.{eqb, ltb}
use lib.ListN.{length, take, drop, length-append}
use borrow.Author.Tests.{ne_eqb, eqb-true, eqb-false}
use Rattle.laws.specs.Lists.{same, any}
use Rattle.table.specs.Table.{Table}
use Rattle.table.specs.Flat.{empty_table}
use Rattle.book.specs.Entry.{Entry, keys_of}
use Rattle.book.specs.Text.{is_empty, split}
use Rattle.book.specs.Line.{formed, small, entry_of, Said, bad, good, say_fields, say_parts, say_line}
use Rattle.book.specs.Load.{changes_form, same_entry, has_too_many, fault_of, Read, refused, entries, read_on, read_lines, names_line, read_book, dangles, first_line, first_clash, PaperAnswer as Paper, refuse, check_book, checked, loads}
use Rattle.book.specs.Holds.{rule_form}
use Rattle.book.proofs.HoldLaws.{has_rule-rule_form}
use Rattle.load.specs.BookAnswer.{BookAnswer}
use Rattle.std.proofs.Common.{Ok, Err}
use Rattle.load.specs.declared.Refusal.{Refusal}
use Rattle.load.specs.declared.Refusal.TheVariants.{Size, Names, Malformed, AboveLimit, TooMany, FormChanged, Repeated, NoRule, NoRoot, NotAscending}
use Rattle.load.specs.BookAnswer.{Numbered, number_line, refused_as, numbered, answer_for}
use Rattle.store.specs.Proper.{ProperSaid}
use Rattle.store.specs.Store.{take_entry, table_from, table_of}
use Rattle.std.specs.Result.{is_err}
use Rattle.load.specs.Step.{Loaded, loaded_as, answered, take_said, line_refusal, loaded, refusal, take_on, take_lines, take_book}
use Rattle.load.specs.Check.{check_table}
use Rattle.load.specs.Loads.{book_table, LoadsAs}
use Rattle.load.proofs.ProperLaws.{say_line-proper}
use Rattle.load.proofs.KeptLaws.{Loading, fault-same, entry_kept, kept-empty}
use Rattle.load.proofs.OrderLaws.{dangling-same, clashing-same}

-- ---- faults of a line have their answers

-- an answer is that of a number and a line, and has them
pub record Answers (a : BookAnswer) (k n : ℕ) : Type 0 where
  pub is : a ≡ answer_for k n
  pub has : numbered a ≡ number_line k n

abbrev HasAnswer : ℕ → Type 0
HasAnswer k = (n : ℕ) → Answers (Err (line_refusal k n)) k n

abbrev BadSaid : Said → Type 0
BadSaid (bad k) = HasAnswer k × (k ≡ 0 → ⊥)
BadSaid (good e) = Unit {0}

bad-3 : BadSaid (bad 3)
unfolding line_refusal answer_for
bad-3 = (λ n. record { is = refl; has = refl }, λ z. omega arith)

bad-4 : BadSaid (bad 4)
unfolding line_refusal answer_for
bad-4 = (λ n. record { is = refl; has = refl }, λ z. omega arith)

say_fields-bad : (r f q k v m : List ℕ) → BadSaid (say_fields r f q k v m)
unfolding say_fields
say_fields-bad r f q k v m = go (formed r f q k v m) (small r q v m)
  where
    go : (a b : Bool) → BadSaid (cond a (cond b (good (entry_of r f q k v m)) (bad 4)) (bad 3))
    go true true = tt
    go true false = bad-4
    go false b = bad-3

say_parts-bad : (ps : List (List ℕ)) → BadSaid (say_parts ps)
unfolding say_parts
say_parts-bad [] = bad-3
say_parts-bad (r ∷ []) = bad-3
say_parts-bad (r ∷ (f ∷ [])) = bad-3
say_parts-bad (r ∷ (f ∷ (q ∷ []))) = bad-3
say_parts-bad (r ∷ (f ∷ (q ∷ (k ∷ [])))) = bad-3
say_parts-bad (r ∷ (f ∷ (q ∷ (k ∷ (v ∷ []))))) = bad-3
say_parts-bad (r ∷ (f ∷ (q ∷ (k ∷ (v ∷ (m ∷ [])))))) = say_fields-bad r f q k v m
say_parts-bad (r ∷ (f ∷ (q ∷ (k ∷ (v ∷ (m ∷ (x ∷ ps))))))) = bad-3

say_line-bad : (l : List ℕ) → BadSaid (say_line l)
unfolding say_line
say_line-bad l = say_parts-bad (split 32 l)

fault_of-answer : (es : List Entry) (e : Entry) → (fault_of es e ≡ 0 → ⊥) → HasAnswer (fault_of es e)
unfolding fault_of line_refusal answer_for
fault_of-answer es e = go (any (changes_form e) es) (any (same_entry e) es) (has_too_many es e)
  where
    go : (a b c : Bool) → (◌≡◌ {A = ℕ} (cond a 6 (cond b 7 (cond c 5 0))) 0 → ⊥) → HasAnswer (cond a 6 (cond b 7 (cond c 5 0)))
    go true b c h = λ n. record { is = refl; has = refl }
    go false true c h = λ n. record { is = refl; has = refl }
    go false false true h = λ n. record { is = refl; has = refl }
    go false false false h = absurd (h refl)

-- ---- lines

-- the table of one entry more
table_from-last : (n : ℕ) (t : Table) (es : List Entry) (e : Entry) → table_from n t (es ++ (e ∷ [])) ≡ (take_entry (n + length es) (table_from n t es) e).table
unfolding table_from
table_from-last n t [] e = ap (λ (i : ℕ). (take_entry i t e).table) (omega arith)
table_from-last n t (x ∷ es) e =
    table_from-last (suc n) (take_entry n t x).table es e
    ∙ ap (λ (i : ℕ). (take_entry i (table_from (suc n) (take_entry n t x).table es) e).table) (omega arith)

table_of-last : (n : ℕ) (es : List Entry) (e : Entry) → n ≡ 2 + length es → table_of (es ++ (e ∷ [])) ≡ (take_entry n (table_of es) e).table
unfolding table_of
table_of-last n es e q = table_from-last 2 empty_table es e ∙ ap (λ (i : ℕ). (take_entry i (table_from 2 empty_table es) e).table) (sym q)

-- the code's answer is the paper's: the refusal with its number and line and the empty table, or the table of the entries
abbrev pub Agree : Loaded → Read → Type 0
Agree r (refused k n) = (a : Refusal) × (r ≡ refusal a) × Answers (Err a) k n × (k ≡ 0 → ⊥)
Agree r (entries es) = (r ≡ loaded (table_of es)) × Loading (table_of es) es

module _ (n : ℕ) (es : List Entry) (q : n ≡ 2 + length es) (kept : Loading (table_of es) es) (f : Table → Loaded) (g : Entry → Read)
    (ih : (e : Entry) → Loading (table_of (es ++ (e ∷ []))) (es ++ (e ∷ [])) → Agree (f (table_of (es ++ (e ∷ [])))) (g e)) where
  on_line : (a : Refusal) (k : ℕ) → Answers (Err a) k n → Answers (Err a) k (length es + 2)
  on_line a k h = let e : length es + 2 ≡ n = omega arith in rw e h

  said-agrees : (s : Said) → ProperSaid s → BadSaid s → Agree (take_on n (take_said n (table_of es) s) f) (read_on es (length es + 2) s g)
  unfolding take_on take_said read_on
  said-agrees (bad k) p b = (line_refusal k n, rw (ne_eqb k 0 b.1), on_line (line_refusal k n) k (b.0 n), b.1)
  said-agrees (good e) p b = rw (fault-same n (table_of es) es e kept p) (go (eqb (fault_of es e) 0) refl)
    where
      go : (c : Bool) → eqb (fault_of es e) 0 ≡ c
          → Agree (cond c (f (take_entry n (table_of es) e).table) (refusal (line_refusal (fault_of es e) n))) (cond c (g e) (refused (fault_of es e) (length es + 2)))
      go true z =
          let w : (take_entry n (table_of es) e).fault ≡ 0 = fault-same n (table_of es) es e kept p ∙ eqb-true (fault_of es e) 0 z in
          rw (sym (table_of-last n es e q)) (ih e (rw (table_of-last n es e q) (entry_kept n (table_of es) es e q kept p w)))
      go false z =
          let w = eqb-false (fault_of es e) 0 z in
          (line_refusal (fault_of es e) n, refl, on_line (line_refusal (fault_of es e) n) (fault_of es e) (fault_of-answer es e w n), w)

malformed : (n m : ℕ) → n ≡ m → Answers (Err (Malformed n)) 3 m
unfolding answer_for
malformed n m q = rw q (record { is = refl; has = refl })

lines-agree : (n : ℕ) (es : List Entry) (ls : List (List ℕ)) → n ≡ 2 + length es → Loading (table_of es) es → Agree (take_lines n (table_of es) ls) (read_lines es ls)
unfolding take_lines read_lines
lines-agree n es [] q kept = (refl, kept)
lines-agree n es (l ∷ []) q kept = go (is_empty l)
  where
    go : (b : Bool) → Agree (cond b (loaded (table_of es)) (refusal (Malformed n))) (cond b (entries es) (refused 3 (length es + 2)))
    go true = (refl, kept)
    go false = (Malformed n, refl, malformed n (length es + 2) (omega arith), λ z. omega arith)
lines-agree n es (l ∷ (x ∷ ls)) q kept =
    said-agrees n es q kept (λ u. take_lines (suc n) u (x ∷ ls)) (λ e. read_lines (es ++ (e ∷ [])) (x ∷ ls))
    (λ e k. lines-agree (suc n) (es ++ (e ∷ [])) (x ∷ ls) (rw (length-append es (e ∷ [])) (omega arith)) k) (say_line l) (say_line-proper l) (say_line-bad l)

-- ---- a book
-- no entries
pub kept-none : Loading (table_of []) []
unfolding table_of table_from
kept-none = kept-empty

pub book-agrees : (b : List ℕ) → Agree (take_book b) (read_book b)
unfolding take_book read_book table_of table_from answer_for
book-agrees b = go (is_empty b || ltb 65536 (length b)) (same (take 31 b) names_line)
  where
    go : (x y : Bool)
        → Agree (cond x (refusal Size) (cond y (take_lines 2 empty_table (split 10 (drop 31 b))) (refusal Names)))
        (cond x (refused 1 0) (cond y (read_lines [] (split 10 (drop 31 b))) (refused 2 1)))
    go true y = (Size, refl, record { is = refl; has = refl }, λ z. omega arith)
    go false false = (Names, refl, record { is = refl; has = refl }, λ z. omega arith)
    go false true = lines-agree 2 [] (split 10 (drop 31 b)) refl kept-none

-- ---- the checks

-- the table of what the paper gives
paper_table : Paper → Table
paper_table p = cond (eqb p.number 0) (table_of p.entries) empty_table

record As (r : Loaded) (p : Paper) : Type 0 where
  answers : Answers r.answer p.number p.line
  table : r.table ≡ paper_table p

refusal-as : (a : Refusal) (k n : ℕ) → Answers (Err a) k n → (k ≡ 0 → ⊥) → As (refusal a) (refuse k n)
unfolding paper_table
refusal-as a k n e h = record { answers = e; table = rw (ne_eqb k 0 h) }

check-as : (es : List Entry) → Loading (table_of es) es → As (check_table (table_of es)) (check_book es)
unfolding check_table check_book paper_table answer_for
check-as es kept =
    rw (clashing-same (table_of es) es kept NotAscending (loaded (table_of es)), dangling-same (table_of es) es kept NoRule, kept.holds.formed 0 (omega arith), has_rule-rule_form es 0)
    (go (eqb d 0) (eqb (rule_form es 0) 0) (eqb c 0) refl)
  where
    d : ℕ
    d = first_line (dangles es) 2 es

    c : ℕ
    c = first_clash (keys_of es) 2 [] es

    go : (x y z : Bool) → eqb d 0 ≡ x
        → As (cond x (cond y (refusal NoRoot) (cond z (loaded (table_of es)) (refusal (NotAscending c)))) (refusal (NoRule d)))
        (cond x (cond (not y) (cond z (record { number = 0; line = 0; entries = es }) (refuse 9 c)) (refuse 8 0)) (refuse 8 d))
    go false y z e = refusal-as (NoRule d) 8 d (record { is = rw e; has = refl }) (λ w. omega arith)
    go true true z e = refusal-as NoRoot 8 0 (record { is = refl; has = refl }) (λ w. omega arith)
    go true false true e = record { answers = record { is = refl; has = refl }; table = refl }
    go true false false e = refusal-as (NotAscending c) 9 c (record { is = refl; has = refl }) (λ w. omega arith)

-- ---- load

-- number and line of the answer for what the paper gives are those that the paper gives
pub loads-numbered : (b : List ℕ) → numbered (answer_for (loads b).number (loads b).line) ≡ number_line (loads b).number (loads b).line
unfolding loads checked
loads-numbered b = go (read_book b) (book-agrees b)
  where
    back : (a : BookAnswer) (k n : ℕ) → Answers a k n → numbered (answer_for k n) ≡ number_line k n
    back a k n h = ap numbered (sym h.is) ∙ h.has

    go : (p : Read) → Agree (take_book b) p → numbered (answer_for (checked p).number (checked p).line) ≡ number_line (checked p).number (checked p).line
    go (refused k n) a = back (Err a.0) k n a.2
    go (entries es) a = back _ _ _ (check-as es a.1).answers

-- a refusal has a number
pub refusal-some : (r : Refusal) → (refused_as r).number ≡ 0 → ⊥
refusal-some Size e = omega arith
refusal-some Names e = omega arith
refusal-some (Malformed n) e = omega arith
refusal-some (AboveLimit n) e = omega arith
refusal-some (TooMany n) e = omega arith
refusal-some (FormChanged n) e = omega arith
refusal-some (Repeated n) e = omega arith
refusal-some (NoRule n) e = omega arith
refusal-some NoRoot e = omega arith
refusal-some (NotAscending n) e = omega arith

module _ (b : List ℕ) (r : Loaded) (q : r ≡ take_book b) (k : ℕ) (w : k ≡ (numbered r.answer).number) where
  number_is : {a : Loaded} → take_book b ≡ a → k ≡ (numbered a.answer).number
  number_is e = w ∙ ap (λ (x : Loaded). (numbered x.answer).number) (q ∙ e)

  loads-as : (v : Loaded) → As v (checked (read_book b)) → LoadsAs b v
  unfolding loads book_table paper_table
  loads-as v z = record { answer = z.answers.is; table = z.table }

  -- a book that is read is checked
  pub load-checked : (v : Loaded) → k ≡ 0 → v ≡ check_table r.table → LoadsAs b v
  unfolding checked
  load-checked v h u = loads-as v (go (read_book b) (book-agrees b))
    where
      go : (p : Read) → Agree (take_book b) p → As v (checked p)
      go (refused i n) a = absurd (a.3 (sym (number_is a.1 ∙ ap (λ (x : Numbered). x.number) a.2.has) ∙ h))
      go (entries es) a = rw (u ∙ ap check_table (ap (λ (x : Loaded). x.table) (q ∙ a.0))) (check-as es a.1)

  -- a book that is refused as it is read stays refused
  pub load-refused : (k ≡ 0 → ⊥) → LoadsAs b r
  unfolding checked
  load-refused h = loads-as r (go (read_book b) (book-agrees b))
    where
      go : (p : Read) → Agree (take_book b) p → As r (checked p)
      go (refused i n) a = rw (q ∙ a.1) (refusal-as a.0 i n a.2 a.3)
      go (entries es) a = absurd (h (number_is a.0))

-- ---- the table of an answer

pub answered-refused : (a : BookAnswer) (t : Table) → is_err a ≡ true → answered a t ≡ loaded_as a empty_table
answered-refused (Ok u) t e = absurd (cc)
answered-refused (Err r) t e = refl

pub answered-accepted : (a : BookAnswer) (t : Table) → is_err a ≡ false → answered a t ≡ loaded_as a t
answered-accepted (Ok u) t e = refl
answered-accepted (Err r) t e = absurd (cc)
