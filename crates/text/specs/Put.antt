-- Bytes put into a lent buffer from a place on, as the lines of REQUIREMENT.md, section 8, are. Stated. Assumes nothing.
use Rattle.std.specs.Prelude.{Bool, cond, List, ◌≡◌, ℕ, ◌+◌, leb, length}
use Rattle.std.proofs.lemmas.List.Edits.{sets}

-- the buffer o with bs from the place at on, and the place after them
pub record Put (o : List ℕ) (at : ℕ) (bs : List ℕ) (now : List ℕ) (behind : ℕ) : Type 0 where
  pub bytes : now ≡ sets o at bs
  pub place : behind ≡ at + length bs

-- the most bytes that a line or a refused book's lines take
abbrev pub room : ℕ
room = 64

-- a buffer of n bytes has room for a line from the place on
unfoldable pub has_room : ℕ → ℕ → Bool
has_room n at = leb (at + room) n

-- the buffer and the place after what is put there; without room for a line nothing is put
pub record Written : Type 0 where
  pub out : List ℕ
  pub at : ℕ

unfoldable pub write : List ℕ → ℕ → List ℕ → Written
write o at bs = cond (has_room (length o) at) (record { out = sets o at bs; at = at + length bs }) (record { out = o; at = at })
