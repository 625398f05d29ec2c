-- How far levels, the key and the counts of a number can grow at an act. Assumes nothing.
use mathlib.Core.Bool.{Bool, true, false, cond}
use mathlib.Core.List.{List}
use mathlib.Core.Path.{◌≡◌, refl}
use Prim.Native.Nat.{ℕ, ◌+◌, ◌≤◌}
use native.Mathlib.Omega.{arith}
use lib.Dec.{ltb}
use lib.ListN.{length, set, length-set}
use borrow.Author.Tests.{ltb-true}
use Rattle.json_text.specs.declared.lexer.Mode.{Mode}
use Rattle.json_text.specs.declared.lexer.Mode.TheVariants as M
use Rattle.json_text.specs.declared.lexer.Act.{Act}
use Rattle.json_text.specs.declared.lexer.Act.TheVariants as A
use Rattle.whole.specs.declared.Decimal.{Decimal}
use Rattle.whole.specs.Limits.{CountsWithin}
use Rattle.whole.proofs.LimitLaws.{counts-fresh}
use Rattle.progress.specs.Act.{open_level, kept_key_len, kept_in, level_after, len_after, number_in, number_before}

-- ---- how far levels, the key and the counts of a number grow

open_level-le : (level n : ℕ) → level ≤ n → open_level level n ≤ n
unfolding open_level
open_level-le level n h = go (ltb level n) refl
  where
    go : (v : Bool) → ltb level n ≡ v → cond v (level + 1) level ≤ n
    go true e = omega (arith, ltb-true level n e)
    go false e = h

-- no act opens more levels than there are frames
pub level_after-le : (a : Act) (level n : ℕ) → level ≤ n → level_after a level n ≤ n
level_after-le A.Fault level n h = h
level_after-le A.Pass level n h = h
level_after-le A.OpenArray level n h = open_level-le level n h
level_after-le A.OpenObject level n h = open_level-le level n h
level_after-le A.Close level n h = omega arith
level_after-le A.KeyStart level n h = h
level_after-le A.KeyChar level n h = h
level_after-le A.KeyEnd level n h = h
level_after-le A.TextStart level n h = h
level_after-le A.TextChar level n h = h
level_after-le A.TextEnd level n h = h
level_after-le A.NumberStart level n h = h
level_after-le A.NumberByte level n h = h
level_after-le (A.WordEnd w) level n h = h

key_len-le : (len c : ℕ) → kept_key_len len c ≤ 33
unfolding kept_key_len
key_len-le len c = go (ltb len 32) refl (ltb c 128)
  where
    go : (v : Bool) → ltb len 32 ≡ v → (u : Bool) → cond v (cond u (len + 1) 33) 33 ≤ 33
    go true e true = omega (arith, ltb-true len 32 e)
    go true e false = omega arith
    go false e u = omega arith

-- no act counts more than 33 characters of a key
pub len_after-le : (a : Act) (len c : ℕ) → len ≤ 33 → len_after a len c ≤ 33
len_after-le A.Fault len c h = h
len_after-le A.Pass len c h = h
len_after-le A.OpenArray len c h = h
len_after-le A.OpenObject len c h = h
len_after-le A.Close len c h = h
len_after-le A.KeyStart len c h = omega arith
len_after-le A.KeyChar len c h = key_len-le len c
len_after-le A.KeyEnd len c h = h
len_after-le A.TextStart len c h = h
len_after-le A.TextChar len c h = h
len_after-le A.TextEnd len c h = h
len_after-le A.NumberStart len c h = h
len_after-le A.NumberByte len c h = h
len_after-le (A.WordEnd w) len c h = h

-- before a byte the counts of a number are as they were, or fresh
number_in-counts : (from : Mode) {p : ℕ} {d : Decimal} → CountsWithin p d → CountsWithin p (number_in from d)
number_in-counts (M.At q) {p} f = counts-fresh p
number_in-counts (M.Key s) {p} f = counts-fresh p
number_in-counts (M.Text s) {p} f = counts-fresh p
number_in-counts (M.Number n) f = f
number_in-counts (M.Word w i) {p} f = counts-fresh p

pub number_before-counts : (from m : Mode) {p : ℕ} {d : Decimal} → CountsWithin p d → CountsWithin p (number_before from m d)
number_before-counts from (M.At q) f = f
number_before-counts from (M.Key s) f = f
number_before-counts from (M.Text s) f = f
number_before-counts from (M.Number n) f = number_in-counts from f
number_before-counts from (M.Word w i) f = f

-- ---- the characters of a key

pub length-kept_in : (key : List ℕ) (len c : ℕ) → length (kept_in key len c) ≡ length key
unfolding kept_in
length-kept_in key len c = go (ltb len 32)
  where
    go : (v : Bool) → length (cond v (set key len c) key) ≡ length key
    go true = length-set key len c
    go false = refl
