-- A number read byte by byte: the part of it that the last byte stands in, and what is counted. Derived: `whole-iff-read` of `ReadLaws`
-- joins it to `Whole`. Assumes nothing.
use Rattle.std.specs.Prelude.{Bool, false, cond, ◌&&◌, ℕ, eqb}
use Rattle.json_text.specs.Numbers.{is_digit_1_9}
use Rattle.json_text.specs.Lexer.{number_move, may_end}
use Rattle.json_text.specs.declared.number.NumberMode.{NumberMode}
use Rattle.json_text.specs.declared.number.NumberMode.TheVariants as N
use Rattle.json_text.specs.declared.number.NumberMove.{NumberMove}
use Rattle.json_text.specs.declared.number.NumberMove.TheVariants as NM
use Rattle.whole.specs.declared.Decimal.{Decimal}
use Rattle.whole.specs.Fresh.{fresh}
use Rattle.whole.specs.Count.{Counting, counted, is_whole}

-- no byte of a number is read; some are; they are no beginning of a number
pub data Read : Type 0 where
  unread : Read
  reads : NumberMode → Decimal → Read
  broken : Read

module _ (c : Counting) where
  -- byte b leads to mode n
  abbrev pub gone_to : NumberMode → Decimal → ℕ → Read
  gone_to n d b = reads n (counted c n d b)

  -- the first byte
  unfoldable pub begins : ℕ → Read
  begins b =
      cond (is_digit_1_9 b) (gone_to N.Int fresh b)
      (cond (eqb b 0x30) (gone_to N.Zero fresh b)
      (cond (eqb b 0x2D) (gone_to N.Minus fresh b) broken))

  -- a byte of which the lexer makes a move
  abbrev pub reading_on : NumberMove → Decimal → ℕ → Read
  reading_on NM.Fault d b = broken
  reading_on NM.End d b = broken
  reading_on (NM.Go n) d b = gone_to n d b

  abbrev pub read_byte : Read → ℕ → Read
  read_byte unread b = begins b
  read_byte (reads n d) b = reading_on (number_move n b) d b
  read_byte broken b = broken

-- the bytes are a whole number
abbrev pub reads_whole : Read → Bool
reads_whole unread = false
reads_whole (reads n d) = may_end n && is_whole d
reads_whole broken = false
