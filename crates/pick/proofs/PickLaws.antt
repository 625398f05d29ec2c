-- The record that pick gives is the one to which the reader gives verdict n: `picked-has-verdict`, `picked_none`. Assumes nothing.
use mathlib.Core.Bool.{Bool, true, false, cond, ◌&&◌}
use mathlib.Core.List.{List, [], ◌∷◌}
use mathlib.Core.Path.{◌≡◌, refl, ◌∙◌}
use Prim.Native.Nat.{ℕ, zero, suc, ◌≤◌, ◌<◌}
use native.Mathlib.Omega.{arith}
use lib.Dec.{eqb, eqb-suc-zero}
use lib.ListN.{length, get_or, get_or-eq_default}
use Rattle.book.specs.Entry.{Entry}
use Rattle.verdict.specs.declared.Verdict.{Verdict}
use Rattle.verdict.specs.declared.Verdict.TheVariants as Is
use Rattle.reader.specs.declared.Reader.{Reader}
use Rattle.stream.specs.Paper.{Call, Judge, nonempty}
use Rattle.stream.specs.Claim.{answers}
use Rattle.stream.specs.Records.{cut_at_rs, nonempties, records_of, given_all, verdicts_of, verdicts_in, StreamOf}
use Rattle.stream.proofs.JudgeLaws.{judge_of}
use Rattle.stream.proofs.RecordLaws.{length-verdicts_of}
use Rattle.demand.specs.Book.{Book}
use Rattle.demand.proofs.Corollaries.{verdicts-of-stream, judge-of-stream}
use Rattle.pick.specs.Pick.{pick_of, is_head, HasVerdict}

-- ---- records and verdicts stand in the same order

module _ (J : Judge) where
  -- verdict k of parts after an RS is that of their record k
  given-at : (ps : List (List ℕ)) (k : ℕ) (d : Verdict) → k < length (nonempties ps) → get_or (given_all J ps) k d ≡ J false (get_or (nonempties ps) k [])
  unfolding given_all nonempties
  given-at [] k d h = absurd (omega (arith, h))
  given-at (p ∷ ps) k d h = go (nonempty p) k h (λ k h. given-at ps k d h)
    where
      go : (x : Bool) (k : ℕ) → k < length (cond x (p ∷ nonempties ps) (nonempties ps))
          → ((k : ℕ) → k < length (nonempties ps) → get_or (given_all J ps) k d ≡ J false (get_or (nonempties ps) k []))
          → get_or (cond x (J false p ∷ given_all J ps) (given_all J ps)) k d ≡ J false (get_or (cond x (p ∷ nonempties ps) (nonempties ps)) k [])
      go true zero h f = refl
      go true (suc k) h f = f k (omega (arith, h))
      go false k h f = f k h

  verdict-at : (s : List ℕ) (k : ℕ) (d : Verdict) → k < length (records_of s) → get_or (verdicts_of J s) k d ≡ J (is_head s k) (pick_of s k)
  unfolding nonempties pick_of
  verdict-at s k d h = go (nonempty (cut_at_rs s).first) k h
    where
      go : (x : Bool) (k : ℕ) → k < length (cond x ((cut_at_rs s).first ∷ nonempties (cut_at_rs s).behind) (nonempties (cut_at_rs s).behind))
          → get_or (cond x (J true (cut_at_rs s).first ∷ given_all J (cut_at_rs s).behind) (given_all J (cut_at_rs s).behind)) k d
          ≡ J (x && eqb k 0) (get_or (cond x ((cut_at_rs s).first ∷ nonempties (cut_at_rs s).behind) (nonempties (cut_at_rs s).behind)) k [])
      go true zero h = refl
      go true (suc k) h = rw (eqb-suc-zero k) (given-at (cut_at_rs s).behind k d (omega (arith, h)))
      go false k h = given-at (cut_at_rs s).behind k d h

-- ---- what is picked is nonempty

nonempty-at : (ps : List (List ℕ)) (k : ℕ) → k < length (nonempties ps) → nonempty (get_or (nonempties ps) k []) ≡ true
unfolding nonempties
nonempty-at [] k h = absurd (omega (arith, h))
nonempty-at (p ∷ ps) k h = go (nonempty p) refl k h (λ k h. nonempty-at ps k h)
  where
    go : (x : Bool) → nonempty p ≡ x → (k : ℕ) → k < length (cond x (p ∷ nonempties ps) (nonempties ps))
        → ((k : ℕ) → k < length (nonempties ps) → nonempty (get_or (nonempties ps) k []) ≡ true)
        → nonempty (get_or (cond x (p ∷ nonempties ps) (nonempties ps)) k []) ≡ true
    go true e zero h f = e
    go true e (suc k) h f = f k (omega (arith, h))
    go false e k h f = f k h

-- ---- a stream that hands over the bytes s and closes

module _ (es : List Entry) (n : ℕ) (least : 1 ≤ n) (most : n ≤ 64) {r : Reader} {cs : List Call} {s : List ℕ} (x : StreamOf Book es n r cs s) where
  abbrev vs : List Verdict
  vs = verdicts_in (answers r cs)

  J : Judge
  J = judge_of es n

  count-of-stream : length vs ≡ length (records_of s)
  unfolding J
  count-of-stream = rw (verdicts-of-stream es n least most x) (length-verdicts_of J s)

  -- verdict k is that of the record that pick gives for k
  pub picked-has-verdict : (k : ℕ) → k < length vs → HasVerdict es n (is_head s k) (pick_of s k) (get_or vs k Is.Valid)
  unfolding J pick_of
  picked-has-verdict k h =
      let inside : k < length (records_of s) = rw (count-of-stream) at h in
      let e : get_or vs k Is.Valid ≡ J (is_head s k) (pick_of s k) =
      rw (verdicts-of-stream es n least most x) (verdict-at J s k Is.Valid inside) in
      let judge = judge-of-stream es n least most x in
      record {
        is_record = nonempty-at ((cut_at_rs s).first ∷ (cut_at_rs s).behind) k inside;
        in_head = λ y. e ∙ rw y (judge.head (pick_of s k));
        behind = λ y. rw (e, y) (judge.part (pick_of s k));
      }

  -- where there is no verdict k, pick gives an empty part
  pub picked_none : (k : ℕ) → length vs ≤ k → pick_of s k ≡ []
  unfolding pick_of
  picked_none k h = get_or-eq_default (records_of s) [] (rw (count-of-stream) at h)
