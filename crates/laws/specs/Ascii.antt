-- Texts as bytes: a byte string may be written as a quoted text. Stated. Assumes nothing.
use mathlib.Core.List as L
use Prim.Native.Char.{code}
use Rattle.std.specs.Prelude.{ℕ}
use Prim.Native.String.{String, [], ◌∷◌}

-- the bytes of a text of ASCII characters
abbrev pub ascii : String → L.List ℕ
ascii [] = L.[]
ascii (c ∷ s) = L.◌∷◌ (code c) (ascii s)
