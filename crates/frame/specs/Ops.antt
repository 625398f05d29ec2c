-- What opening, a finished key, a finished value and closing do to a frame: REQUIREMENT.md, section 5. Stated. Assumes nothing.
use Rattle.std.specs.Prelude.{Bool, cond, ◌&&◌, List, ◌∷◌, ◌++◌, ℕ, zero, suc, ◌+◌, ◌*◌, ◌^◌, ltb, set, take, drop, replicate}
use Rattle.laws.specs.Bits.{bit_at, set_bit, set_all}
use Rattle.laws.specs.Lists.{any}
use Rattle.laws.specs.Tab.{tab}
use Rattle.table.specs.declared.kind.Finished.{Finished}
use Rattle.table.specs.declared.kind.Form.{Form}
use Rattle.table.specs.declared.kind.Form.TheVariants.{Object, Array}
use Rattle.frame.specs.Frame.{is_object, current_key, marked, seen_in}
use Rattle.frame.specs.Edges.{Edges, edge_count, has_form, state_number, fits_code, fitting, stepping, walking}

-- ---- opening

-- state 0 of every rule of a form
unfoldable pub start_states : List ℕ → ℕ → List ℕ
start_states forms form = set_all (has_form forms form) (λ r. 16 * r) 32 (replicate 64 0)

-- opening writes all 96 bytes: byte 1 is 255 in an object, and an array gets state 0 of every `arr` rule
unfoldable pub opened : List ℕ → Form → List ℕ
opened forms Object = 1 ∷ (255 ∷ replicate 94 0)
opened forms Array = 2 ∷ (replicate 31 0 ++ start_states forms 2)

-- ---- a finished key

-- byte 1 is set to the key and its bit is set, or byte 2 where it was seen already; an unknown key, a number above 127, sets byte 1 to 255 and byte 2
unfoldable pub keyed : ℕ → List ℕ → List ℕ
keyed k f =
    cond (ltb k 128)
    (cond (seen_in f k) (set (set f 1 k) 2 1) (set_bit (set f 1 k) (128 + k)))
    (set (set f 1 255) 2 1)

-- ---- a finished value

-- in an object the fitting edges of the current key are added; an unknown key has none
unfoldable pub with_edges : Edges → List ℕ → Finished → List ℕ → List ℕ
with_edges t kinds v f =
    cond (ltb (current_key f) 128) (set_all (fitting (fits_code v) t.keys kinds (current_key f)) (λ e. 256 + e) (edge_count t.count) f) f

-- in an array the states are replaced by those that the fitting edges lead to
unfoldable pub with_states : Edges → List ℕ → List ℕ → Finished → List ℕ → List ℕ
with_states t kinds forms v f =
    take 32 f
    ++ set_all (stepping (fits_code v) t.rules t.states kinds forms f) (state_number t.rules t.nexts) (edge_count t.count) (replicate 64 0)

-- a finished value in the frame of the open value that it stands in
unfoldable pub valued : Edges → List ℕ → List ℕ → Finished → List ℕ → List ℕ
valued t kinds forms v f = cond (is_object f) (with_edges t kinds v f) (with_states t kinds forms v f)

-- ---- closing

-- the states that the object's fitting edges of key k lead to from the states s
unfoldable pub key_states : Edges → List ℕ → List ℕ → ℕ → List ℕ
key_states t f s k =
    set_all (walking t.rules t.states t.keys f s k) (state_number t.rules t.nexts) (edge_count t.count) (replicate 64 0)

-- from the states s over the keys seen among a, a + 1, .., n of them, ascending, all of them used
unfoldable pub walked : Edges → List ℕ → ℕ → List ℕ → ℕ → List ℕ
walked t f a s zero = s
walked t f a s (suc n) = cond (seen_in f (a + n)) (key_states t f (walked t f a s n) (a + n)) (walked t f a s n)

-- rule r has an end state among the states s
unfoldable pub has_end : List ℕ → List ℕ → ℕ → Bool
has_end ends s r = any (λ q. bit_at s (16 * r + q) && bit_at ends (16 * r + q)) (tab (λ q. q) 0 16)

-- rule r is of the form, and has an end state among the states s
unfoldable pub accepting : List ℕ → List ℕ → ℕ → List ℕ → ℕ → Bool
accepting forms ends form s r = has_form forms form r && has_end ends s r

-- the number with bit r for each r below n of which p holds
unfoldable pub rule_set : (ℕ → Bool) → ℕ → ℕ
rule_set p zero = 0
rule_set p (suc n) = cond (p n) (2 ^ n + rule_set p n) (rule_set p n)

-- the rules that the value of a frame fits, rule N at bit N: of an object by the walk over its keys, and none with byte 2 at 1; of an array by its
-- states
unfoldable pub closed : Edges → List ℕ → List ℕ → List ℕ → ℕ
closed t forms ends f =
    cond (is_object f)
    (cond (marked f) 0 (rule_set (accepting forms ends 1 (walked t f 0 (start_states forms 1) 128)) 32))
    (rule_set (accepting forms ends 2 (drop 32 f)) 32)
