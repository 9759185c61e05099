-- The words that instructions make of words, for each operator of values (ARM DDI 0419, A6.7).
use Rattle.std.specs.Prelude.{ℕ, ◌*◌, ◌%◌, ◌==◌, if◌then◌else◌, bit_and, bit_or, bit_xor}
use Rattle.std.specs.Int.{cast_signed, cast_unsigned, w32}
use Rattle.thumb_code.specs.RegisterFile.{word}
use Rattle.thumb_code.specs.Arithmetic.{bit_of, inverted, sum_of, sum_flags, shifted, lsl, lsr, asr, holds}
use Rattle.bank_model.specs.AllServices.{quotient, remainder}
use Rattle.sts_syntax.specs.declared.operators.TheConstants.{NEGATE, PLUS, NOT, COMPLEMENT, BIT_OR, BIT_XOR, BIT_AND, EQUAL, UNEQUAL, LESS, GREATER, AT_MOST, AT_LEAST, SHIFT_LEFT, SHIFT_RIGHT, SHIFT_RIGHT_UNSIGNED, ADD, SUBTRACT, MULTIPLY, DIVIDE}
use Rattle.flat_ir.specs.declared.operators.TheConstants.{INCREMENT}

-- 1 where a condition holds behind a comparison of two words, and else 0
abbrev pub compared : ℕ → ℕ → ℕ → ℕ
compared cond v w = bit_of (holds (sum_flags v (inverted w) 1) cond)

-- a shift by the five lowest bits of a word
abbrev pub shifted_by : ℕ → (ℕ → ℕ → ℕ × ℕ) → ℕ → ℕ → ℕ
shifted_by flags f v w = (shifted flags f v (bit_and w 31 % 256)).0

-- The word of an operator by its number: `|`, `^`, `&`; `==`, `!=`, `<`, `>`, `<=`, `>=` by the conditions EQ, NE, LT, GT, LE and GE; `<<`, `>>`, `>>>`;
-- `+`, `-`, `*`; `/` and `%`.
abbrev pub operated : ℕ → ℕ → ℕ → ℕ → ℕ
operated flags op v w =
    if op == BIT_OR then bit_or v w
    else if op == BIT_XOR then bit_xor v w
    else if op == BIT_AND then bit_and v w
    else if op == EQUAL then compared 0 v w
    else if op == UNEQUAL then compared 1 v w
    else if op == LESS then compared 11 v w
    else if op == GREATER then compared 12 v w
    else if op == AT_MOST then compared 13 v w
    else if op == AT_LEAST then compared 10 v w
    else if op == SHIFT_LEFT then shifted_by flags lsl v w
    else if op == SHIFT_RIGHT then shifted_by flags asr v w
    else if op == SHIFT_RIGHT_UNSIGNED then shifted_by flags lsr v w
    else if op == ADD then sum_of v w 0
    else if op == SUBTRACT then sum_of v (inverted w) 1
    else if op == MULTIPLY then word (v * w)
    else if op == DIVIDE then cast_unsigned w32 (quotient (cast_signed w32 v) (cast_signed w32 w))
    else cast_unsigned w32 (remainder (cast_signed w32 v) (cast_signed w32 w))

-- of a prefix operator: `-`, `+`, `!`, `~`, one more, one less
abbrev pub prefix_word : ℕ → ℕ → ℕ
prefix_word op v =
    if op == NEGATE then sum_of 0 (inverted v) 1
    else if op == PLUS then v
    else if op == NOT then compared 0 v 0
    else if op == COMPLEMENT then inverted v
    else if op == INCREMENT then sum_of v 1 0
    else sum_of v (inverted 1) 1
