-- Each declaration takes a token.
use Rattle.std.proofs.Common.{ℕ, ◌+◌, ◌<◌, ◌≤◌, List, [], ◌∷◌, length, arith, length-append}
use Rattle.std.specs.Prelude.{Bool, true, false}
use Rattle.sts_syntax.specs.Trees.{Statement, Block, Let, IfOnly, IfElse, While, DoWhile, For, ForOf, Return, Break, Continue, Plain, Empty, Declarations, ended, next, Declare, Does}
use Rattle.sts_syntax.specs.Programs.{ClassMember, Field, Method, Constructor, TopLevel, Class, Function, Main, Program}
use Rattle.sts_grammar.specs.Source.{Source}
use Rattle.sts_grammar.specs.Spells.{IsStatement, AreDeclared}
use Rattle.sts_grammar.specs.Units.{AreMembers, IsPart, AreParts, IsProgram}
use Rattle.sts_scope.specs.Entries.{Naming, global_entries, main_entries, member_entry, member_entries, item_entries, classes_in, entries_from}
use Rattle.text_sizes.specs.Numbered.{member_numbered}
use Rattle.text_sizes.proofs.Headings.{ends_after}
use Rattle.text_sizes.proofs.Functions.{statement_over, declaration_over, member_over, base_after, part_over}

globals_over : (s : Source) (fixed flag : Bool) (each : Declarations) (i j : ℕ) → AreDeclared s fixed each i j → i + length (global_entries flag each) ≤ j
globals_over s fixed flag ended i j h = absurd h
globals_over s fixed flag (next (Declare at name shape first) ended) i j h = (let x = declaration_over s fixed (Declare at name shape first) i j h in omega (arith, x))
globals_over s fixed flag (next (Declare at name shape first) (next b rest)) i j h =
    let x = declaration_over s fixed (Declare at name shape first) i h.0 h.1 in
    let y = globals_over s fixed flag (next b rest) (h.0 + 1) j h.3 in
    omega (arith, x, y)

main_over : (s : Source) (a : Statement) (i j : ℕ) → IsStatement s false false a i j → i + length (main_entries a) < j
main_over s (Let at fixed each) i j h =
    let x = globals_over s fixed fixed each (i + 1) h.0 h.3 in
    let y = ends_after s _ h.0 j h.4 in
    omega (arith, x, y)
main_over s (Block at all) i j h = (let x = statement_over s false false (Block at all) i j h in omega (arith, x))
main_over s (IfOnly at c a) i j h = (let x = statement_over s false false (IfOnly at c a) i j h in omega (arith, x))
main_over s (IfElse at c a b) i j h = (let x = statement_over s false false (IfElse at c a b) i j h in omega (arith, x))
main_over s (While at c a) i j h = (let x = statement_over s false false (While at c a) i j h in omega (arith, x))
main_over s (DoWhile at a c) i j h = (let x = statement_over s false false (DoWhile at a c) i j h in omega (arith, x))
main_over s (For at first c step a) i j h = (let x = statement_over s false false (For at first c step a) i j h in omega (arith, x))
main_over s (ForOf at fixed name list a) i j h = (let x = statement_over s false false (ForOf at fixed name list a) i j h in omega (arith, x))
main_over s (Return at value) i j h = (let x = statement_over s false false (Return at value) i j h in omega (arith, x))
main_over s (Break at) i j h = (let x = statement_over s false false (Break at) i j h in omega (arith, x))
main_over s (Continue at) i j h = (let x = statement_over s false false (Continue at) i j h in omega (arith, x))
main_over s (Plain at a) i j h = (let x = statement_over s false false (Plain at a) i j h in omega (arith, x))
main_over s (Empty at) i j h = (let x = statement_over s false false (Empty at) i j h in omega (arith, x))

member_declares : (names : Naming) (c : ℕ) (member : ClassMember) → length (member_entry names c member) ≤ member_numbered member
member_declares names c (Field (Declare at name shape first)) = omega arith
member_declares names c (Method x r) = omega arith
member_declares names c (Constructor r) = omega arith

members_over : (s : Source) (names : Naming) (c : ℕ) (members : List ClassMember) (i j : ℕ) → AreMembers s members i j → i + length (member_entries names c members) < j
members_over s names c [] i j h = omega (arith, h.1.order, h.3)
members_over s names c (member ∷ rest) i j h =
    let a = member_over s member h.0 h.1 h.3 in
    let b = members_over s names c rest h.1 j h.4 in
    let one = member_declares names c member in
    let both = length-append (member_entry names c member) (member_entries names c rest) in
    omega (arith, h.2.order, a, b, one, both)

part_declares : (s : Source) (names : Naming) (c : ℕ) (part : TopLevel) (i j : ℕ) → IsPart s part i j → i + length (item_entries names c part) < j
part_declares s names c (Class at name base base_at members) i j h =
    let a = base_after s base base_at (i + 2) h.0 h.4 in
    let b = members_over s names c members (h.0 + 1) j h.6 in
    omega (arith, a, b)
part_declares s names c (Function name (Does at params gives all true)) i j h = absurd h
part_declares s names c (Function name (Does at params gives all false)) i j h =
    let a = part_over s (Function name (Does at params gives all false)) i j h in
    omega (arith, a)
part_declares s names c (Main a) i j h = main_over s a i j h

parts_declare : (s : Source) (names : Naming) (c : ℕ) (p : Program) (i : ℕ) → AreParts s p i → i + length (entries_from names c p) < length s.tokens
parts_declare s names c [] i h = omega (arith, h.1)
parts_declare s names c (part ∷ rest) i h =
    let a = part_declares s names c part i h.0 h.1 in
    let b = parts_declare s names (c + classes_in part) rest h.0 h.2 in
    let both = length-append (item_entries names c part) (entries_from names (c + classes_in part) rest) in
    omega (arith, a, b, both)

pub few_declarations : (s : Source) (p : Program) → IsProgram s p → (names : Naming) (first : ℕ) → length (entries_from names first p) < length s.tokens
few_declarations s p h names first = (let a = parts_declare s names first p 0 h.spelled in omega (arith, a))
