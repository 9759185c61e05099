-- Each function, parameter and local takes a token.
use Rattle.std.proofs.Common.{◌≡◌, ℕ, suc, ◌+◌, ◌<◌, ◌≤◌, List, [], ◌∷◌, length, arith, inl, inr}
use Rattle.std.specs.Prelude.{Bool, true, false, Option, Some, None, ◌⊎◌}
use Rattle.sts_lexer.specs.declared.marks.Mark.{Mark}
use Rattle.sts_lexer.specs.declared.marks.Mark.TheVariants as m
use Rattle.sts_syntax.specs.Trees.{Tree, Num, Text, Truth, Null, This, Name, Unary, Binary, Both, Either, Choice, Set, Bump, Member, Item, Call, SuperCall, Make, Items, Handler, Trees, none, more, OptionalTree, absent, present, Statement, Block, Let, IfOnly, IfElse, While, DoWhile, For, ForOf, Return, Break, Continue, Plain, Empty, Statements, done, also, OptionalStatement, omitted, written, Declaration, Declare, Declarations, ended, next, Routine, Does}
use Rattle.sts_syntax.specs.Programs.{ClassMember, Field, Method, Constructor, TopLevel, Class, Function, Main, Program}
use Rattle.sts_grammar.specs.Source.{Source, IsMark}
use Rattle.sts_grammar.specs.Operators.{infix_level}
use Rattle.sts_grammar.specs.Spells.{IsBare, AreListed, AreFurther, IsOptional, IsHandler, IsStatement, IsReturned, IsFirst, AreDeclared, IsDeclared, IsInitialised, InBlock}
use Rattle.sts_grammar.specs.Units.{HasModifier, IsMember, AreMembers, HasBase, IsPart, AreParts, IsProgram}
use Rattle.sts_scope.specs.Handlers.{unwritten}
use Rattle.text_sizes.specs.Numbered.{tree_numbered, trees_numbered, optional_numbered, routine_numbered, declared_numbered, declarations_numbered, statement_numbered, first_numbered, statements_numbered, member_numbered, members_numbered, item_numbered, all_numbered}
use Rattle.text_sizes.proofs.Headings.{has_type_after, ends_after, operand_over, routine_over}

do_over : (s : Source) (o j : ℕ) → ((IsMark s (o + 1) m.Semicolon × (j ≡ o + 2)) ⊎ (¬ (IsMark s (o + 1) m.Semicolon) × (j ≡ o + 1))) → o < j
do_over s o j (inl e) = omega (arith, e.1)
do_over s o j (inr e) = omega (arith, e.1)

mutual
  bare_over : (s : Source) (e : Tree) (i j : ℕ) → IsBare s e i j → i + tree_numbered e < j
  bare_over s (Num at value) i j h = omega (arith, h.2)
  bare_over s (Text at text) i j h = omega (arith, h.2)
  bare_over s (Truth at true) i j h = omega (arith, h.2)
  bare_over s (Truth at false) i j h = omega (arith, h.2)
  bare_over s (Null at) i j h = omega (arith, h.2)
  bare_over s (This at) i j h = omega (arith, h.2)
  bare_over s (Name at name) i j h = omega (arith, h.2)
  bare_over s (Unary at op a) i j h = (let x = operand_over s (tree_numbered a) 12 a (IsBare s a) (bare_over s a) (i + 1) j h.4 in omega (arith, x))
  bare_over s (Binary at op a b) i j h =
      let x = operand_over s (tree_numbered a) (infix_level op) a (IsBare s a) (bare_over s a) i h.0 h.3 in
      let y = operand_over s (tree_numbered b) (infix_level op + 1) b (IsBare s b) (bare_over s b) (h.0 + 1) j h.6 in
      omega (arith, x, y)
  bare_over s (Both at a b) i j h =
      let x = operand_over s (tree_numbered a) 3 a (IsBare s a) (bare_over s a) i h.0 h.2 in
      let y = operand_over s (tree_numbered b) 4 b (IsBare s b) (bare_over s b) (h.0 + 1) j h.4 in
      omega (arith, x, y)
  bare_over s (Either at a b) i j h =
      let x = operand_over s (tree_numbered a) 2 a (IsBare s a) (bare_over s a) i h.0 h.2 in
      let y = operand_over s (tree_numbered b) 3 b (IsBare s b) (bare_over s b) (h.0 + 1) j h.4 in
      omega (arith, x, y)
  bare_over s (Choice at c a b) i j h =
      let x = operand_over s (tree_numbered c) 2 c (IsBare s c) (bare_over s c) i h.0 h.3 in
      let y = operand_over s (tree_numbered a) 1 a (IsBare s a) (bare_over s a) (h.0 + 1) h.1 h.5 in
      let z = operand_over s (tree_numbered b) 1 b (IsBare s b) (bare_over s b) (h.1 + 1) j h.7 in
      omega (arith, x, y, z)
  bare_over s (Set at op x a) i j h =
      let y = operand_over s (tree_numbered x) 14 x (IsBare s x) (bare_over s x) i h.0 h.4 in
      let z = operand_over s (tree_numbered a) 1 a (IsBare s a) (bare_over s a) (h.0 + 1) j h.7 in
      omega (arith, y, z)
  bare_over s (Bump at x by false) i j h = (let y = operand_over s (tree_numbered x) 12 x (IsBare s x) (bare_over s x) (i + 1) j h.5 in omega (arith, y))
  bare_over s (Bump at x by true) i j h = (let y = operand_over s (tree_numbered x) 14 x (IsBare s x) (bare_over s x) i h.0 h.4 in omega (arith, y, h.8))
  bare_over s (Member at a name) i j h = (let x = operand_over s (tree_numbered a) 14 a (IsBare s a) (bare_over s a) i h.0 h.2 in omega (arith, x, h.5))
  bare_over s (Item at a b) i j h =
      let x = operand_over s (tree_numbered a) 14 a (IsBare s a) (bare_over s a) i h.0 h.3 in
      let y = operand_over s (tree_numbered b) 1 b (IsBare s b) (bare_over s b) (h.0 + 1) h.1 h.5 in
      omega (arith, x, y, h.7)
  bare_over s (Call at a args) i j h =
      let x = operand_over s (tree_numbered a) 14 a (IsBare s a) (bare_over s a) i h.0 h.2 in
      let y = listed_over s args m.CloseParenthesis (h.0 + 1) j h.4 in
      omega (arith, x, y)
  bare_over s (SuperCall at None args) i j h = (let y = listed_over s args m.CloseParenthesis (i + 2) j h.3 in omega (arith, y))
  bare_over s (SuperCall at (Some method) args) i j h = (let y = listed_over s args m.CloseParenthesis (i + 4) j h.5 in omega (arith, y))
  bare_over s (Make at class args) i j h = (let y = listed_over s args m.CloseParenthesis (i + 3) j h.4 in omega (arith, y))
  bare_over s (Items at items) i j h = (let y = listed_over s items m.CloseBracket (i + 1) j h.2 in omega (arith, y))
  bare_over s (Handler at handler) i j h = handler_over s handler i j h.1

  listed_over : (s : Source) (all : Trees) (close : Mark) (i j : ℕ) → AreListed s all close i j → i + trees_numbered all < j
  listed_over s none close i j h = omega (arith, h.1)
  listed_over s (more a rest) close i j h =
      let x = operand_over s (tree_numbered a) 1 a (IsBare s a) (bare_over s a) i h.0 h.1 in
      let y = further_over s rest close h.0 j h.2 in
      omega (arith, x, y)

  further_over : (s : Source) (all : Trees) (close : Mark) (i j : ℕ) → AreFurther s all close i j → i + trees_numbered all < j
  further_over s none close i j h = omega (arith, h.1)
  further_over s (more a rest) close i j h =
      let x = operand_over s (tree_numbered a) 1 a (IsBare s a) (bare_over s a) (i + 1) h.0 h.2 in
      let y = further_over s rest close h.0 j h.3 in
      omega (arith, x, y)

  optional_over : (s : Source) (a : OptionalTree) (i j : ℕ) → IsOptional s a i j → i + optional_numbered a ≤ j
  optional_over s absent i j h = omega (arith, h)
  optional_over s (present a) i j h = (let x = operand_over s (tree_numbered a) 1 a (IsBare s a) (bare_over s a) i j h in omega (arith, x))

  handler_over : (s : Source) (handler : Routine) (i j : ℕ) → IsHandler s handler i j → i + suc (routine_numbered handler) < j
  handler_over s (Does at params gives all true) i j h =
      routine_over s (statements_numbered all) params gives true (InBlock s true false all) (block_over s true false all) i j h.1
  handler_over s (Does at params gives all false) i j h =
      let x = routine_over s (statements_numbered all) params gives false (InBlock s true false all) (block_over s true false all) (i + 1) j h.2 in
      omega (arith, x)

  pub statement_over : (s : Source) (f l : Bool) (a : Statement) (i j : ℕ) → IsStatement s f l a i j → i + statement_numbered a < j
  statement_over s f l (Block at all) i j h = (let x = block_over s f l all (i + 1) j h.2 in omega (arith, x))
  statement_over s f l (Let at fixed each) i j h =
      let x = declarations_over s fixed each (i + 1) h.0 h.3 in
      let y = ends_after s _ h.0 j h.4 in
      omega (arith, x, y)
  statement_over s f l (IfOnly at c a) i j h =
      let x = operand_over s (tree_numbered c) 1 c (IsBare s c) (bare_over s c) (i + 2) h.0 h.4 in
      let y = statement_over s f l a (h.0 + 1) j h.6 in
      omega (arith, x, y)
  statement_over s f l (IfElse at c a b) i j h =
      let x = operand_over s (tree_numbered c) 1 c (IsBare s c) (bare_over s c) (i + 2) h.0 h.5 in
      let y = statement_over s f l a (h.0 + 1) h.1 h.7 in
      let z = statement_over s f l b (h.1 + 1) j h.9 in
      omega (arith, x, y, z)
  statement_over s f l (While at c a) i j h =
      let x = operand_over s (tree_numbered c) 1 c (IsBare s c) (bare_over s c) (i + 2) h.0 h.4 in
      let y = statement_over s f true a (h.0 + 1) j h.6 in
      omega (arith, x, y)
  statement_over s f l (DoWhile at a c) i j h =
      let x = statement_over s f true a (i + 1) h.0 h.4 in
      let y = operand_over s (tree_numbered c) 1 c (IsBare s c) (bare_over s c) (h.0 + 2) h.1 h.7 in
      let z = do_over s h.1 j h.9 in
      omega (arith, x, y, z)
  statement_over s f l (For at first c step a) i j h =
      let x = first_over s first (i + 2) h.0 h.6 in
      let y = optional_over s c (h.0 + 1) h.1 h.8 in
      let z = optional_over s step (h.1 + 1) h.2 h.10 in
      let w = statement_over s f true a (h.2 + 1) j h.12 in
      omega (arith, x, y, z, w)
  statement_over s f l (ForOf at fixed name list a) i j h =
      let x = operand_over s (tree_numbered list) 1 list (IsBare s list) (bare_over s list) (i + 5) h.0 h.7 in
      let y = statement_over s f true a (h.0 + 1) j h.9 in
      omega (arith, x, y)
  statement_over s f l (Return at value) i j h = (let x = returned_over s value (i + 1) j h.3 in omega (arith, x))
  statement_over s f l (Break at) i j h = (let x = ends_after s false (i + 1) j h.3 in omega (arith, x))
  statement_over s f l (Continue at) i j h = (let x = ends_after s false (i + 1) j h.3 in omega (arith, x))
  statement_over s f l (Plain at a) i j h =
      let x = operand_over s (tree_numbered a) 1 a (IsBare s a) (bare_over s a) i h.0 h.3 in
      let y = ends_after s _ h.0 j h.4 in
      omega (arith, x, y)
  statement_over s f l (Empty at) i j h = omega (arith, h.2)

  returned_over : (s : Source) (value : OptionalTree) (i j : ℕ) → IsReturned s value i j → i + optional_numbered value ≤ j
  returned_over s absent i j h = (let x = ends_after s false i j h in omega (arith, x))
  returned_over s (present a) i j h =
      let x = operand_over s (tree_numbered a) 1 a (IsBare s a) (bare_over s a) i h.0 h.2 in
      let y = ends_after s _ h.0 j h.3 in
      omega (arith, x, y)

  first_over : (s : Source) (first : OptionalStatement) (i j : ℕ) → IsFirst s first i j → i + first_numbered first ≤ j
  first_over s omitted i j h = omega (arith, h)
  first_over s (written (Let at fixed each)) i j h = (let x = declarations_over s fixed each (i + 1) j h.2 in omega (arith, x))
  first_over s (written (Plain at a)) i j h = (let x = operand_over s (tree_numbered a) 1 a (IsBare s a) (bare_over s a) i j h.1 in omega (arith, x))
  first_over s (written a) i j h = absurd h

  declarations_over : (s : Source) (fixed : Bool) (each : Declarations) (i j : ℕ) → AreDeclared s fixed each i j → i + declarations_numbered each ≤ j
  declarations_over s fixed ended i j h = absurd h
  declarations_over s fixed (next a ended) i j h = (let x = declaration_over s fixed a i j h in omega (arith, x))
  declarations_over s fixed (next a (next b rest)) i j h =
      let x = declaration_over s fixed a i h.0 h.1 in
      let y = declarations_over s fixed (next b rest) (h.0 + 1) j h.3 in
      omega (arith, x, y)

  pub declaration_over : (s : Source) (fixed : Bool) (a : Declaration) (i j : ℕ) → IsDeclared s fixed a i j → i + declared_numbered a ≤ j
  declaration_over s fixed (Declare at name shape first) i j h =
      let x = has_type_after s shape (i + 1) h.0 h.3 in
      let y = initialised_over s fixed first h.0 j h.4 in
      omega (arith, x, y)

  pub initialised_over : (s : Source) (fixed : Bool) (first : OptionalTree) (i j : ℕ) → IsInitialised s fixed first i j → i + optional_numbered first ≤ j
  initialised_over s fixed absent i j h = omega (arith, h.1)
  initialised_over s fixed (present a) i j h =
      let x = operand_over s (tree_numbered a) 1 a (IsBare s a) (bare_over s a) (i + 1) j h.1 in
      omega (arith, x)

  pub block_over : (s : Source) (f l : Bool) (all : Statements) (i j : ℕ) → InBlock s f l all i j → i + statements_numbered all < j
  block_over s f l done i j h = omega (arith, h.1)
  block_over s f l (also a rest) i j h =
      let x = statement_over s f l a i h.0 h.1 in
      let y = block_over s f l rest h.0 j h.2 in
      omega (arith, x, y)

pub modifier_after : (s : Source) (i j : ℕ) → HasModifier s i j → i ≤ j
modifier_after s i j (inl h) = omega (arith, h.1)
modifier_after s i j (inr h) = omega (arith, h.1)

pub member_over : (s : Source) (member : ClassMember) (i j : ℕ) → IsMember s member i j → i + member_numbered member ≤ j
member_over s (Field (Declare at name shape first)) i j h =
    let a = modifier_after s i h.0 h.3 in
    let b = has_type_after s shape (h.0 + 1) h.1 h.6 in
    let c = initialised_over s false first h.1 h.2 h.7 in
    let d = ends_after s _ h.2 j h.8 in
    omega (arith, a, b, c, d)
member_over s (Method name (Does at params gives all true)) i j h = absurd h
member_over s (Method name (Does at params gives all false)) i j h =
    let a = modifier_after s i h.0 h.1 in
    let b = routine_over s (statements_numbered all) params gives false (InBlock s true false all) (block_over s true false all) (h.0 + 1) j h.5 in
    omega (arith, a, b)
member_over s (Constructor (Does at params None all false)) i j h =
    let a = modifier_after s i h.0 h.1 in
    let b = routine_over s (statements_numbered all) params None false (InBlock s true false all) (block_over s true false all) (h.0 + 1) j h.4 in
    omega (arith, a, b)
member_over s (Constructor other) i j h = absurd h

members_over : (s : Source) (members : List ClassMember) (i j : ℕ) → AreMembers s members i j → i + members_numbered members < j
members_over s [] i j h = omega (arith, h.1.order, h.3)
members_over s (member ∷ rest) i j h =
    let a = member_over s member h.0 h.1 h.3 in
    let b = members_over s rest h.1 j h.4 in
    omega (arith, h.2.order, a, b)

pub base_after : (s : Source) (base : Option ℕ) (base_at i j : ℕ) → HasBase s base base_at i j → i ≤ j
base_after s None base_at i j h = omega (arith, h.1)
base_after s (Some base) base_at i j h = omega (arith, h.3)

one_unwritten : (members : List ClassMember) → unwritten members ≤ 1
one_unwritten [] = omega arith
one_unwritten (Field a ∷ rest) = one_unwritten rest
one_unwritten (Method x r ∷ rest) = one_unwritten rest
one_unwritten (Constructor r ∷ rest) = omega arith

pub part_over : (s : Source) (part : TopLevel) (i j : ℕ) → IsPart s part i j → i + item_numbered part < j
part_over s (Class at name base base_at members) i j h =
    let a = base_after s base base_at (i + 2) h.0 h.4 in
    let b = members_over s members (h.0 + 1) j h.6 in
    let c = one_unwritten members in
    omega (arith, a, b, c)
part_over s (Function name (Does at params gives all true)) i j h = absurd h
part_over s (Function name (Does at params gives all false)) i j h =
    let a = routine_over s (statements_numbered all) params gives false (InBlock s true false all) (block_over s true false all) (i + 2) j h.3 in
    omega (arith, a)
part_over s (Main a) i j h = statement_over s false false a i j h

parts_over : (s : Source) (p : Program) (i : ℕ) → AreParts s p i → i + all_numbered p < length s.tokens
parts_over s [] i h = omega (arith, h.1)
parts_over s (part ∷ rest) i h =
    let a = part_over s part i h.0 h.1 in
    let b = parts_over s rest h.0 h.2 in
    omega (arith, a, b)

pub few_numbered : (s : Source) (p : Program) → IsProgram s p → all_numbered p < length s.tokens
few_numbered s p h = (let a = parts_over s p 0 h.spelled in omega (arith, a))
