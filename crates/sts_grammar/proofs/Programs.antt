-- A whole text: what is read of it is what it spells.
use Rattle.std.proofs.Common.{◌≡◌, ℕ, ◌+◌, [], length, sym, ◌∙◌, arith}
use Rattle.std.specs.Prelude.{Option, Some, None}
use Rattle.sts_syntax.specs.Programs.{Program}
use Rattle.sts_syntax.specs.Nesting.{deepest_top_level}
use Rattle.sts_grammar.specs.Source.{Source}
use Rattle.sts_grammar.specs.Units.{IsProgram}
use Rattle.sts_grammar.specs.ReadUnits.{read_program}
use Rattle.sts_grammar.specs.Laws.{OneProgram, ProgramIsRead}
use Rattle.sts_grammar.proofs.SoundUnits.{program_ok}
use Rattle.sts_grammar.proofs.CompleteUnits.{parts_read, program_reads}
use Rattle.sts_grammar.proofs.Below.{sound_below, complete_below}

pub what_is_read : (s : Source) (program : Program) → read_program s ≡ Some program → IsProgram s program
what_is_read s program h = program_ok s (sound_below s) program h

pub nothing_is_read : (s : Source) → read_program s ≡ None → (program : Program) → ¬ (IsProgram s program)
nothing_is_read s h program it = let e : ◌≡◌ {A = Option Program} None (Some program) = sym h ∙ program_reads s (complete_below s) program it in cc

pub one_program : OneProgram
one_program = record {
  one = λ s p q spelled other.
      (let room : ℕ = 2 + deepest_top_level p + deepest_top_level q in
      let a = parts_read s (complete_below s) room (length s.tokens) (omega arith) [] p 0 spelled (omega arith) (omega arith) in
      let b = parts_read s (complete_below s) room (length s.tokens) (omega arith) [] q 0 other (omega arith) (omega arith) in
      let e : ◌≡◌ {A = Option Program} (Some p) (Some q) = sym a ∙ b in cc);
}

pub program_is_read : ProgramIsRead
program_is_read = record { read = what_is_read; unread = nothing_is_read }
