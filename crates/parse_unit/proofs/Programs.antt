-- What reading the parts of a text tells of it.
use Rattle.std.proofs.Common.{◌≡◌, ℕ, [], length, subst}
use Rattle.std.specs.Prelude.{Option, Some, None}
use Rattle.sts_syntax.specs.Programs.{Program}
use Rattle.sts_grammar.specs.Limits.{part_nesting}
use Rattle.sts_grammar.specs.Source.{Source}
use Rattle.sts_grammar.specs.Units.{IsProgram}
use Rattle.sts_grammar.specs.ReadUnits.{read_parts, read_program}
use Rattle.sts_grammar.proofs.Laws as laws
use Rattle.parse_expr.specs.declared.reader.Unread.{Unread}
use Rattle.parse_expr.specs.declared.reader.Unread.TheVariants.{Syntax}
use Rattle.parse_expr.specs.Gives.{Fails}

pub what_is_read : (s : Source) (program : Program) → read_parts s part_nesting (length s.tokens) [] 0 ≡ Some program → IsProgram s program
unfolding read_program
what_is_read s program h = laws.what_is_read s program h

pub nothing_is_read : (s : Source) → read_parts s part_nesting (length s.tokens) [] 0 ≡ None → (program : Program) → ¬ (IsProgram s program)
unfolding read_program
nothing_is_read s h program it = laws.nothing_is_read s h program it

pub syntax_none : {Y : Type 0} (why : Unread) (at : ℕ) (read : Option Y) → why ≡ Syntax at → Fails why read → read ≡ None
syntax_none why at read e h = subst (λ u. Fails u read) e h
