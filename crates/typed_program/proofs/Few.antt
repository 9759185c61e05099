-- A library and a text have few functions, parameters and locals, declarations and classes.
use Rattle.std.proofs.Common.{◌≡◌, ℕ, ◌+◌, ◌^◌, ◌<◌, ◌≤◌, List, [], ◌∷◌, ◌++◌, length, ap, arith, length-append}
use Rattle.sts_base.specs.declared.tables.Tables.{Tables}
use Rattle.sts_lexer.specs.declared.token.Token.{Token}
use Rattle.sts_lexer.specs.Bytes.{most_bytes}
use Rattle.sts_syntax.specs.Programs.{TopLevel, Class, Function, Main, Program}
use Rattle.sts_grammar.specs.Texts.{source, no_entries}
use Rattle.sts_grammar.specs.Units.{IsProgram}
use Rattle.sts_prelude.specs.Spelled.{IsLibraryTree}
use Rattle.sts_scope.specs.declared.collect.Declared.{Declared}
use Rattle.sts_scope.specs.declared.known.Known.{Known}
use Rattle.sts_scope.specs.Entries.{Naming, classes_in, item_class, class_names, item_entries, entries_from}
use Rattle.sts_scope.specs.Scopes.{all_names}
use Rattle.text_sizes.proofs.Laws.{most_tokens, few_numbered, few_declarations}
use Rattle.derived_types.specs.Solved.{IsSolved}
use Rattle.typed_program.specs.Few.{HasFewParts, AreFew}
use Rattle.typed_program.proofs.Numbered.{entries_long}

-- what the tokens of a text spell has few parts
pub spelled_few : (tables : Tables) (tokens : List Token) (p : Program) → length tokens ≤ most_bytes + 1 → IsProgram (source tokens tables) p → HasFewParts p
spelled_few tables tokens p few h =
    record {
      numbers = (let a = few_numbered (source tokens tables) p h in omega (arith, a, few));
      declarations = λ names first. (let a = few_declarations (source tokens tables) p h names first in omega (arith, a, few));
    }

pub library_few : (first : Tables) (p : Program) → IsLibraryTree no_entries first p → HasFewParts p
library_few first p h = spelled_few first h.tokens p (most_tokens first _ h.tokens h.read) h.spelled

item_declares : (names : Naming) (c : ℕ) (i : TopLevel) → classes_in i ≤ length (item_entries names c i)
item_declares names c (Class at x base base_at members) = omega arith
item_declares names c (Function x r) = omega arith
item_declares names c (Main a) = omega arith

-- each class is a declaration
classes_declared : (names : Naming) (c : ℕ) (p : Program) → length (class_names p) ≤ length (entries_from names c p)
classes_declared names c [] = omega arith
classes_declared names c (i ∷ rest) =
    let here = item_declares names c i in
    let behind = classes_declared names (c + classes_in i) rest in
    let both = length-append (item_class i) (class_names rest) in
    let all = length-append (item_entries names c i) (entries_from names (c + classes_in i) rest) in
    omega (arith, here, behind, both, all)

pub both_few : (library text : Program) → HasFewParts library → HasFewParts text → AreFew library text
both_few library text a b =
    let names = all_names library text in
    let n = length (class_names library) in
    let long : length (entries_from names 0 (library ++ text)) ≡ length (entries_from names 0 library) + length (entries_from names (0 + n) text) = entries_long names 0 library text in
    let x = a.declarations names 0 in
    let y = b.declarations names (0 + n) in
    let z = classes_declared names 0 (library ++ text) in
    record {
      numbers = omega (arith, a.numbers, b.numbers);
      declarations = omega (arith, long, x, y);
      classes = omega (arith, long, x, y, z);
    }

-- the same of what is known of them
pub known_few : (tables : Tables) (library text : Program) (d : Declared) → IsSolved tables library text d → AreFew library text → length d.known.entries < 2 ^ 32
known_few tables library text d s f = (let e = ap (λ (k : Known). length k.entries) s.known_is in omega (arith, e, f.declarations))

pub classes_append : (xs ys : Program) → length (class_names (xs ++ ys)) ≡ length (class_names xs) + length (class_names ys)
classes_append [] ys = omega arith
classes_append (i ∷ xs) ys =
    let rest = classes_append xs ys in
    let here = length-append (item_class i) (class_names xs) in
    let all = length-append (item_class i) (class_names (xs ++ ys)) in
    omega (arith, rest, here, all)
