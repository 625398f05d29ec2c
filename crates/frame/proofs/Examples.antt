-- The work buffer under book B, byte by byte, along the steps of a few texts: computed, in one table. Assumes nothing.
use mathlib.Core.Bool.{Bool, ◌&&◌}
use mathlib.Core.List.{List, [], ◌∷◌}
use mathlib.Core.Path.{◌≡◌, refl}
use Prim.Native.Nat.{ℕ, suc, ◌-◌}
use lib.Dec.{T, eqb}
use lib.ListN.{get_or, set, replicate}
use Rattle.laws.specs.Bits.{bit_at, set_bit, set_all}
use Rattle.laws.specs.Lists.{same, all, any}
use Rattle.laws.specs.Tab.{tab}
use Rattle.table.specs.Kind.{kind_of, rule_fits}
use Rattle.table.specs.declared.kind.Scalar.TheVariants.{Null, Str, Num, Int}
use Rattle.table.specs.declared.kind.Finished.{Finished}
use Rattle.table.specs.declared.kind.Finished.TheVariants as Done
use Rattle.frame.specs.Edges.{Edges, edges_of, has_form, state_number, fits_code, fitting, stepping, walking}
use Rattle.table.specs.declared.kind.Form.{Form}
use Rattle.table.specs.declared.kind.Form.TheVariants.{Object, Array}
use Rattle.frame.specs.Frame.{has_frame, frame_at, put_frame, is_object, form_in, current_key, marked, seen_in, held_in}
use Rattle.frame.specs.Ops.{start_states, opened, keyed, with_edges, with_states, valued, key_states, walked, has_end, accepting, rule_set, closed}

-- ---- book B: the keys are corners, 0, and name, 1; the edges are `corners r1`, `name str`, `r2`, `int` and `int`

pub edges : Edges
edges = edges_of 5 (0 ∷ 0 ∷ 1 ∷ 2 ∷ 2 ∷ []) (0 ∷ 1 ∷ 0 ∷ 0 ∷ 1 ∷ []) (0 ∷ 1 ∷ 128 ∷ 128 ∷ 128 ∷ []) (1 ∷ 2 ∷ 0 ∷ 1 ∷ 2 ∷ [])

pub kinds : List ℕ
kinds = 7 ∷ 3 ∷ 8 ∷ 5 ∷ 5 ∷ []

-- rule 0 is obj, rules 1 and 2 are arr
pub forms : List ℕ
forms = 1 ∷ 2 ∷ 2 ∷ []

-- state 2 of rule 0, state 0 of rule 1 and state 2 of rule 2
pub ends : List ℕ
ends = 4 ∷ 0 ∷ 1 ∷ 0 ∷ 4 ∷ []

-- ---- the steps of a text

pub data Step : Type 0 where
  begin : Form → Step
  key : ℕ → Step
  value : Finished → Step
  close : Step

-- the buffer, the levels open, and the rules that the value closed last fits
pub record Reading : Type 0 where
  pub work : List ℕ
  pub level : ℕ
  pub fits : ℕ

-- what a step does: a closed value is finished in the level below
pub step : Step → Reading → Reading
step (begin form) r = record { work = put_frame r.work (suc r.level) (opened forms form); level = suc r.level; fits = r.fits }
step (key k) r = record { work = put_frame r.work r.level (keyed k (frame_at r.work r.level)); level = r.level; fits = r.fits }
step (value v) r = record { work = put_frame r.work r.level (valued edges kinds forms v (frame_at r.work r.level)); level = r.level; fits = r.fits }
step close r =
    let set = closed edges forms ends (frame_at r.work r.level) in
    let up = r.level - 1 in
    record { work = put_frame r.work up (valued edges kinds forms (Done.Rules set) (frame_at r.work up)); level = up; fits = set }

pub steps : List Step → Reading → Reading
steps [] r = r
steps (s ∷ ss) r = steps ss (step s r)

-- three frames of a buffer that was zero
pub fresh : Reading
fresh = record { work = replicate 288 0; level = 0; fits = 0 }

-- ---- the table: a text's steps, the bytes of the buffer that are not zero, and the rules that the value closed last fits

-- byte p is v
pub data At : Type 0 where
  at : ℕ → ℕ → At

-- n bytes, zero but for those named
pub bytes : ℕ → List At → List ℕ
bytes n [] = replicate n 0
bytes n (at p v ∷ more) = set (bytes n more) p v

pub record Row : Type 0 where
  pub text : List Step
  pub holds : List At
  pub fits : ℕ

pub right : Row → Bool
right row = let r = steps row.text fresh in same r.work (bytes 288 row.holds) && eqb r.fits row.fits

str : Step
str = value (Done.Scalar Str)

int : Step
int = value (Done.Scalar Int)

num : Step
num = value (Done.Scalar Num)

null : Step
null = value (Done.Scalar Null)

object : Step
object = begin Object

array : Step
array = begin Array

pub table : List Row
table =
    -- `{`
    record { text = object ∷ []; holds = at 0 1 ∷ at 1 255 ∷ []; fits = 0 }
    -- `{}`
    ∷ record { text = object ∷ close ∷ []; holds = at 0 1 ∷ at 1 255 ∷ []; fits = 0 }
    -- `[`
    ∷ record { text = array ∷ []; holds = at 0 2 ∷ at 34 1 ∷ at 36 1 ∷ []; fits = 0 }
    -- `{"name"`
    ∷ record { text = object ∷ key 1 ∷ []; holds = at 0 1 ∷ at 1 1 ∷ at 16 2 ∷ []; fits = 0 }
    -- `{"name":"N"`
    ∷ record { text = object ∷ key 1 ∷ str ∷ []; holds = at 0 1 ∷ at 1 1 ∷ at 16 2 ∷ at 32 2 ∷ []; fits = 0 }
    -- `{"name":"N"}`
    ∷ record { text = object ∷ key 1 ∷ str ∷ close ∷ []; holds = at 0 1 ∷ at 1 1 ∷ at 16 2 ∷ at 32 2 ∷ []; fits = 0 }
    -- `{"name":1`
    ∷ record { text = object ∷ key 1 ∷ int ∷ []; holds = at 0 1 ∷ at 1 1 ∷ at 16 2 ∷ []; fits = 0 }
    -- `{"name":"N","corners":[[`
    ∷ record {
      text = object ∷ key 1 ∷ str ∷ key 0 ∷ array ∷ array ∷ [];
      holds = at 0 1 ∷ at 1 0 ∷ at 16 3 ∷ at 32 2 ∷ at 96 2 ∷ at 130 1 ∷ at 132 1 ∷ at 192 2 ∷ at 226 1 ∷ at 228 1 ∷ [];
      fits = 0;
    }
    -- `{"name":"N","corners":[[1,`
    ∷ record {
      text = object ∷ key 1 ∷ str ∷ key 0 ∷ array ∷ array ∷ int ∷ [];
      holds = at 0 1 ∷ at 16 3 ∷ at 32 2 ∷ at 96 2 ∷ at 130 1 ∷ at 132 1 ∷ at 192 2 ∷ at 228 2 ∷ [];
      fits = 0;
    }
    -- `{"name":"N","corners":[[1,2]`: rule 2
    ∷ record {
      text = object ∷ key 1 ∷ str ∷ key 0 ∷ array ∷ array ∷ int ∷ int ∷ close ∷ [];
      holds = at 0 1 ∷ at 16 3 ∷ at 32 2 ∷ at 96 2 ∷ at 130 1 ∷ at 192 2 ∷ at 228 4 ∷ [];
      fits = 4;
    }
    -- `{"name":"N","corners":[[1,2]]`: rule 1
    ∷ record {
      text = object ∷ key 1 ∷ str ∷ key 0 ∷ array ∷ array ∷ int ∷ int ∷ close ∷ close ∷ [];
      holds = at 0 1 ∷ at 16 3 ∷ at 32 3 ∷ at 96 2 ∷ at 130 1 ∷ at 192 2 ∷ at 228 4 ∷ [];
      fits = 2;
    }
    -- `{"name":"N","corners":[[1,2]]}`: rule 0
    ∷ record {
      text = object ∷ key 1 ∷ str ∷ key 0 ∷ array ∷ array ∷ int ∷ int ∷ close ∷ close ∷ close ∷ [];
      holds = at 0 1 ∷ at 16 3 ∷ at 32 3 ∷ at 96 2 ∷ at 130 1 ∷ at 192 2 ∷ at 228 4 ∷ [];
      fits = 1;
    }
    -- `{"corners":[[1.5,2]`: 1.5 is no int, so that no state is left
    ∷ record {
      text = object ∷ key 0 ∷ array ∷ array ∷ num ∷ int ∷ close ∷ [];
      holds = at 0 1 ∷ at 16 1 ∷ at 96 2 ∷ at 192 2 ∷ [];
      fits = 0;
    }
    -- an unknown key, its value an array that rule 2 fits: no edge, and no rule fits the object
    ∷ record {
      text = object ∷ key 255 ∷ array ∷ int ∷ int ∷ close ∷ [];
      holds = at 0 1 ∷ at 1 255 ∷ at 2 1 ∷ at 96 2 ∷ at 132 4 ∷ [];
      fits = 4;
    }
    -- an unknown key between the known ones
    ∷ record {
      text = object ∷ key 0 ∷ array ∷ close ∷ key 128 ∷ null ∷ key 1 ∷ str ∷ close ∷ [];
      holds = at 0 1 ∷ at 1 1 ∷ at 2 1 ∷ at 16 3 ∷ at 32 3 ∷ at 96 2 ∷ at 130 1 ∷ at 132 1 ∷ [];
      fits = 0;
    }
    -- name twice, then corners: the second name's value still adds its edge
    ∷ record {
      text = object ∷ key 1 ∷ null ∷ key 1 ∷ str ∷ key 0 ∷ array ∷ close ∷ close ∷ [];
      holds = at 0 1 ∷ at 2 1 ∷ at 16 3 ∷ at 32 3 ∷ at 96 2 ∷ at 130 1 ∷ at 132 1 ∷ [];
      fits = 0;
    }
    ∷ []

-- ---- what counts of foreign bytes

-- a frame, zero but for the bytes named
pub frame : List At → List ℕ
frame holds = bytes 96 holds

pub frames : List (List At)
frames =
    (at 0 1 ∷ at 16 3 ∷ at 32 3 ∷ [])
    ∷ (at 0 1 ∷ at 2 9 ∷ at 16 3 ∷ at 32 3 ∷ [])
    ∷ (at 0 1 ∷ at 16 7 ∷ at 32 3 ∷ [])
    ∷ (at 0 1 ∷ at 16 3 ∷ at 32 7 ∷ [])
    ∷ (at 0 2 ∷ at 36 4 ∷ [])
    ∷ (at 0 2 ∷ at 32 4 ∷ [])
    ∷ []

-- a number of 7 in byte 0 is an array's
pub form-of-seven : form_in (frame (at 0 7 ∷ [])) ≡ Array
unfolding form_in is_object frame bytes
form-of-seven = refl

-- a current key of 128 is unknown: an array that rule 2 fits adds no edge, though edge 2 asks for rule 2 and has no key
pub no-edge-of-key-128 : T (same (valued edges kinds forms (Done.Rules 4) (frame (at 0 1 ∷ at 1 128 ∷ []))) (frame (at 0 1 ∷ at 1 128 ∷ [])))
unfolding is_object current_key fits_code fitting with_edges valued bit_at set_bit set_all same kind_of rule_fits edges kinds forms frame bytes
no-edge-of-key-128 = tt

-- the rules that each frame fits: both keys and their edges; the same with a mark of 9; with a third key that no edge has; with the third edge too;
-- an array in state 2 of rule 2; in state 2 of rule 0, an end state of an obj rule
pub closed-foreign : T (same (tab (λ i. closed edges forms ends (frame (get_or frames i []))) 0 6) (1 ∷ 0 ∷ 0 ∷ 1 ∷ 4 ∷ 0 ∷ []))
unfolding is_object marked seen_in held_in has_form state_number walking start_states key_states walked has_end accepting rule_set closed bit_at set_bit set_all any same edges forms ends frame frames bytes
closed-foreign = tt

-- every row of the table is right
pub frames-under-book-b : T (all right table)
unfolding has_frame frame_at put_frame is_object current_key marked seen_in held_in has_form state_number fits_code fitting stepping walking start_states opened keyed with_edges with_states valued key_states walked has_end accepting rule_set closed bit_at set_bit set_all any same all kind_of rule_fits edges kinds forms ends step steps fresh bytes right str int num null object array table
frames-under-book-b = tt
