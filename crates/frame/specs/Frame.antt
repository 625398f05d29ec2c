-- The frames of a work buffer and the parts of a frame: REQUIREMENT.md, section 5. Stated. Assumes nothing.
use Rattle.std.specs.Prelude.{Bool, cond, ◌&&◌, List, [], ◌++◌, ℕ, ◌+◌, ◌*◌, ◌-◌, ◌/◌, min, eqb, ltb, leb, length, get_or, take, drop}
use Rattle.laws.specs.Bits.{bit_at}
use Rattle.table.specs.declared.kind.Form.{Form}
use Rattle.table.specs.declared.kind.Form.TheVariants.{Object, Array}

-- ---- the buffer

-- the number of frames of a buffer of n bytes: the length divided by 96, rounded down, at most 64
abbrev pub frame_count : ℕ → ℕ
frame_count n = min (n / 96) 64

-- a buffer of n bytes has a frame of level l; the first is level 1
unfoldable pub has_frame : ℕ → ℕ → Bool
has_frame n l = ltb 0 l && leb l (frame_count n)

-- the place of a frame's first byte
abbrev pub frame_start : ℕ → ℕ
frame_start l = 96 * (l - 1)

-- the 96 bytes of a level; of a level without a frame nothing is read
unfoldable pub frame_at : List ℕ → ℕ → List ℕ
frame_at w l = cond (has_frame (length w) l) (take 96 (drop (frame_start l) w)) []

-- the buffer with the frame f at a level; at a level without a frame nothing changes
unfoldable pub put_frame : List ℕ → ℕ → List ℕ → List ℕ
put_frame w l f = cond (has_frame (length w) l) (take (frame_start l) w ++ (f ++ drop 96 (drop (frame_start l) w))) w

-- ---- the frame

-- byte 0, the number of the value's form, is 1 in an object; any other number counts as 2, an array
unfoldable pub is_object : List ℕ → Bool
is_object f = eqb (get_or f 0 0) 1

-- the form as it counts
unfoldable pub form_in : List ℕ → Form
form_in f = cond (is_object f) Object Array

-- byte 1: the current key's number; above 127 it counts as 255, unknown or none
unfoldable pub current_key : List ℕ → ℕ
current_key f = cond (ltb (get_or f 1 0) 128) (get_or f 1 0) 255

-- byte 2, the mark, is 1 once an unknown or repeated key was met; any number above 0 counts as 1
unfoldable pub marked : List ℕ → Bool
marked f = ltb 0 (get_or f 2 0)

-- bytes 16 to 31: the bits of the keys seen
unfoldable pub seen_in : List ℕ → ℕ → Bool
seen_in f k = bit_at f (128 + k)

-- bytes 32 to 95: the bits of an object's fitting edges by number, or of an array's states at 16 × rule + state
unfoldable pub held_in : List ℕ → ℕ → Bool
held_in f i = bit_at f (256 + i)
