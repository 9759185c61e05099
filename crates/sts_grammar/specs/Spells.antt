-- Which tree the tokens from one number up to another spell (ECMA-262, sections 13 to 15), by cases on the tree.
use Rattle.std.specs.Prelude.{◌≡◌, ◌⊎◌, ℕ, ◌+◌, Bool, true, false, Some, None, IsTrue}
use lib.Chars.{codes}
use Rattle.sts_lexer.specs.declared.marks.Mark.{Mark}
use Rattle.sts_lexer.specs.declared.marks.Mark.TheVariants as m
use Rattle.sts_lexer.specs.declared.words.Word.TheVariants as w
use Rattle.sts_lexer.specs.declared.token.TokenKind.TheVariants as k
use Rattle.sts_syntax.specs.Trees.{Tree, Num, Text, Truth, Null, This, Name, Unary, Binary, Both, Either, Choice, Set, Bump, Member, Item, Call, SuperCall, Make, Items, Handler, Trees, none, more, OptionalTree, absent, present, Statement, Block, Let, IfOnly, IfElse, While, DoWhile, For, ForOf, Return, Break, Continue, Plain, Empty, Statements, done, also, OptionalStatement, omitted, written, Declaration, Declare, Declarations, ended, next, Routine, Does}
use Rattle.sts_grammar.specs.Precedence.{assignment_level, either_level, both_level, prefix_level, primary_level}
use Rattle.sts_grammar.specs.Source.{Source, kind, broken, place, IsMark, IsWord, IsName, IsMemberName, IsSpelled}
use Rattle.sts_grammar.specs.Operators.{infix_number, infix_level, prefix_number, bump_by, assignment}
use Rattle.sts_grammar.specs.Headings.{HasType}
use Rattle.sts_grammar.specs.Operands.{Stands, IsTarget, IsOperand, IsLet, IsRoutine, BeginsPlain}
use Rattle.sts_grammar.specs.Ends.{binds, continues, declarations_continue, Ends}

abbrev mutual
  -- an expression without parentheses round it, whose place is its first token's
  pub IsBare : Source → Tree → Stands
  IsBare s (Num at value) i j = (at ≡ place s i) × (kind s i ≡ k.Num value) × (j ≡ i + 1)
  IsBare s (Text at text) i j = (at ≡ place s i) × (kind s i ≡ k.Text text) × (j ≡ i + 1)
  IsBare s (Truth at true) i j = (at ≡ place s i) × IsWord s i w.True × (j ≡ i + 1)
  IsBare s (Truth at false) i j = (at ≡ place s i) × IsWord s i w.False × (j ≡ i + 1)
  IsBare s (Null at) i j = (at ≡ place s i) × IsWord s i w.Null × (j ≡ i + 1)
  IsBare s (This at) i j = (at ≡ place s i) × IsWord s i w.This × (j ≡ i + 1)
  IsBare s (Name at name) i j = (at ≡ place s i) × IsName s i name × (j ≡ i + 1)
  IsBare s (Unary at op a) i j =
      (mark : Mark) × (at ≡ place s i) × IsMark s i mark × (prefix_number mark ≡ Some op)
      × IsOperand s prefix_level a (IsBare s a) (i + 1) j
  IsBare s (Binary at op a b) i j =
      (n : ℕ) × (mark : Mark) × (at ≡ place s i) × IsOperand s (infix_level op) a (IsBare s a) i n × IsMark s n mark ×
      (infix_number mark ≡ Some op) × IsOperand s (infix_level op + 1) b (IsBare s b) (n + 1) j
  IsBare s (Both at a b) i j =
      (n : ℕ) × (at ≡ place s i) × IsOperand s both_level a (IsBare s a) i n × IsMark s n m.AmpersandAmpersand
      × IsOperand s (both_level + 1) b (IsBare s b) (n + 1) j
  IsBare s (Either at a b) i j =
      (n : ℕ) × (at ≡ place s i) × IsOperand s either_level a (IsBare s a) i n × IsMark s n m.BarBar
      × IsOperand s (either_level + 1) b (IsBare s b) (n + 1) j
  IsBare s (Choice at c a b) i j =
      (n o : ℕ) × (at ≡ place s i) × IsOperand s (assignment_level + 1) c (IsBare s c) i n × IsMark s n m.Question ×
      IsOperand s assignment_level a (IsBare s a) (n + 1) o ×
      IsMark s o m.Colon × IsOperand s assignment_level b (IsBare s b) (o + 1) j
  IsBare s (Set at op x a) i j =
      (n : ℕ) × (mark : Mark) × (at ≡ place s i) × IsTarget x × IsOperand s primary_level x (IsBare s x) i n ×
      IsMark s n mark × (assignment mark ≡ Some op) × IsOperand s assignment_level a (IsBare s a) (n + 1) j
  IsBare s (Bump at x by false) i j =
      (mark : Mark) × (at ≡ place s i) × IsMark s i mark × (bump_by mark ≡ Some by) × IsTarget x
      × IsOperand s prefix_level x (IsBare s x) (i + 1) j
  IsBare s (Bump at x by true) i j =
      (n : ℕ) × (mark : Mark) × (at ≡ place s i) × IsTarget x × IsOperand s primary_level x (IsBare s x) i n ×
      IsMark s n mark × (bump_by mark ≡ Some by) × (broken s n ≡ false) × (j ≡ n + 1)
  IsBare s (Member at a name) i j =
      (n : ℕ) × (at ≡ place s i) × IsOperand s primary_level a (IsBare s a) i n × IsMark s n m.Dot
      × IsMemberName s (n + 1) name × (j ≡ n + 2)
  IsBare s (Item at a b) i j =
      (n o : ℕ) × (at ≡ place s i) × IsOperand s primary_level a (IsBare s a) i n × IsMark s n m.OpenBracket ×
      IsOperand s assignment_level b (IsBare s b) (n + 1) o × IsMark s o m.CloseBracket × (j ≡ o + 1)
  IsBare s (Call at a args) i j =
      (n : ℕ) × (at ≡ place s i) × IsOperand s primary_level a (IsBare s a) i n × IsMark s n m.OpenParenthesis
      × AreListed s args m.CloseParenthesis (n + 1) j
  IsBare s (SuperCall at None args) i j =
      (at ≡ place s i) × IsWord s i w.Super × IsMark s (i + 1) m.OpenParenthesis
      × AreListed s args m.CloseParenthesis (i + 2) j
  IsBare s (SuperCall at (Some method) args) i j =
      (at ≡ place s i) × IsWord s i w.Super × IsMark s (i + 1) m.Dot × IsMemberName s (i + 2) method ×
      IsMark s (i + 3) m.OpenParenthesis × AreListed s args m.CloseParenthesis (i + 4) j
  IsBare s (Make at class args) i j =
      (at ≡ place s i) × IsWord s i w.New × IsName s (i + 1) class × IsMark s (i + 2) m.OpenParenthesis
      × AreListed s args m.CloseParenthesis (i + 3) j
  IsBare s (Items at items) i j =
      (at ≡ place s i) × IsMark s i m.OpenBracket × AreListed s items m.CloseBracket (i + 1) j
  IsBare s (Handler at handler) i j = (at ≡ place s i) × IsHandler s handler i j

  -- expressions with commas between them, and the bracket behind them
  pub AreListed : Source → Trees → Mark → Stands
  AreListed s none close i j = IsMark s i close × (j ≡ i + 1)
  AreListed s (more a rest) close i j =
      (n : ℕ) × IsOperand s assignment_level a (IsBare s a) i n × AreFurther s rest close n j

  -- further expressions, each behind a comma, and the bracket
  pub AreFurther : Source → Trees → Mark → Stands
  AreFurther s none close i j = IsMark s i close × (j ≡ i + 1)
  AreFurther s (more a rest) close i j =
      (n : ℕ) × IsMark s i m.Comma × IsOperand s assignment_level a (IsBare s a) (i + 1) n × AreFurther s rest close n j

  -- an expression that may be left out
  pub IsOptional : Source → OptionalTree → Stands
  IsOptional s absent i j = i ≡ j
  IsOptional s (present a) i j = IsOperand s assignment_level a (IsBare s a) i j

  -- A function expression or an arrow. Its place is its first token's.
  pub IsHandler : Source → Routine → Stands
  IsHandler s (Does at params gives all true) i j =
      (at ≡ place s i) × IsRoutine s params gives true (InBlock s true false all) i j
  IsHandler s (Does at params gives all false) i j =
      (at ≡ place s i) × IsWord s i w.Function × IsRoutine s params gives false (InBlock s true false all) (i + 1) j

  -- A statement, whose place is its first token's. f says that it stands in a function or handler, and l that it stands in a
  -- loop of the same one.
  pub IsStatement : Source → (f l : Bool) → Statement → Stands
  IsStatement s f l (Block at all) i j = (at ≡ place s i) × IsMark s i m.OpenBrace × InBlock s f l all (i + 1) j
  IsStatement s f l (Let at fixed each) i j =
      (n : ℕ) × (at ≡ place s i) × IsLet s fixed i × AreDeclared s fixed each (i + 1) n
      × Ends s (declarations_continue s each n) n j
  IsStatement s f l (IfOnly at c a) i j =
      (n : ℕ) × (at ≡ place s i) × IsWord s i w.If × IsMark s (i + 1) m.OpenParenthesis ×
      IsOperand s assignment_level c (IsBare s c) (i + 2) n ×
      IsMark s n m.CloseParenthesis × IsStatement s f l a (n + 1) j × ¬ (IsWord s j w.Else)
  IsStatement s f l (IfElse at c a b) i j =
      (n o : ℕ) × (at ≡ place s i) × IsWord s i w.If × IsMark s (i + 1) m.OpenParenthesis ×
      IsOperand s assignment_level c (IsBare s c) (i + 2) n ×
      IsMark s n m.CloseParenthesis × IsStatement s f l a (n + 1) o × IsWord s o w.Else × IsStatement s f l b (o + 1) j
  IsStatement s f l (While at c a) i j =
      (n : ℕ) × (at ≡ place s i) × IsWord s i w.While × IsMark s (i + 1) m.OpenParenthesis ×
      IsOperand s assignment_level c (IsBare s c) (i + 2) n ×
      IsMark s n m.CloseParenthesis × IsStatement s f true a (n + 1) j
  IsStatement s f l (DoWhile at a c) i j =
      (n o : ℕ) × (at ≡ place s i) × IsWord s i w.Do × IsStatement s f true a (i + 1) n × IsWord s n w.While ×
      IsMark s (n + 1) m.OpenParenthesis × IsOperand s assignment_level c (IsBare s c) (n + 2) o ×
      IsMark s o m.CloseParenthesis ×
      ((IsMark s (o + 1) m.Semicolon × (j ≡ o + 2)) ⊎ (¬ (IsMark s (o + 1) m.Semicolon) × (j ≡ o + 1)))
  IsStatement s f l (For at first c step a) i j =
      (n o p : ℕ) × (at ≡ place s i) × IsWord s i w.For × IsMark s (i + 1) m.OpenParenthesis ×
      IsFirst s first (i + 2) n ×
      IsMark s n m.Semicolon × IsOptional s c (n + 1) o × IsMark s o m.Semicolon × IsOptional s step (o + 1) p ×
      IsMark s p m.CloseParenthesis × IsStatement s f true a (p + 1) j
  IsStatement s f l (ForOf at fixed name list a) i j =
      (n : ℕ) × (at ≡ place s i) × IsWord s i w.For × IsMark s (i + 1) m.OpenParenthesis × IsLet s fixed (i + 2) ×
      IsName s (i + 3) name ×
      IsSpelled s (i + 4) (codes "of") × IsOperand s assignment_level list (IsBare s list) (i + 5) n ×
      IsMark s n m.CloseParenthesis × IsStatement s f true a (n + 1) j
  IsStatement s f l (Return at value) i j =
      (at ≡ place s i) × IsTrue f × IsWord s i w.Return × IsReturned s value (i + 1) j
  IsStatement s f l (Break at) i j = (at ≡ place s i) × IsTrue l × IsWord s i w.Break × Ends s false (i + 1) j
  IsStatement s f l (Continue at) i j = (at ≡ place s i) × IsTrue l × IsWord s i w.Continue × Ends s false (i + 1) j
  IsStatement s f l (Plain at a) i j =
      (n : ℕ) × (at ≡ place s i) × BeginsPlain s i × IsOperand s assignment_level a (IsBare s a) i n
      × Ends s (continues s n) n j
  IsStatement s f l (Empty at) i j = (at ≡ place s i) × IsMark s i m.Semicolon × (j ≡ i + 1)

  -- the value of a `return`, which begins on the same line
  pub IsReturned : Source → OptionalTree → Stands
  IsReturned s absent i j = Ends s false i j
  IsReturned s (present a) i j =
      (n : ℕ) × (broken s i ≡ false) × IsOperand s assignment_level a (IsBare s a) i n × Ends s (continues s n) n j

  -- what stands first in a `for`
  pub IsFirst : Source → OptionalStatement → Stands
  IsFirst s omitted i j = i ≡ j
  IsFirst s (written (Let at fixed each)) i j = (at ≡ place s i) × IsLet s fixed i × AreDeclared s fixed each (i + 1) j
  IsFirst s (written (Plain at a)) i j = (at ≡ place s i) × IsOperand s assignment_level a (IsBare s a) i j
  IsFirst s (written a) i j = ⊥

  -- declared names with commas between them, at least one
  pub AreDeclared : Source → (fixed : Bool) → Declarations → Stands
  AreDeclared s fixed ended i j = ⊥
  AreDeclared s fixed (next a ended) i j = IsDeclared s fixed a i j
  AreDeclared s fixed (next a (next b rest)) i j =
      (n : ℕ) × IsDeclared s fixed a i n × IsMark s n m.Comma × AreDeclared s fixed (next b rest) (n + 1) j

  -- a declared name, whose place is its own; a `const` has an initialiser
  pub IsDeclared : Source → (fixed : Bool) → Declaration → Stands
  IsDeclared s fixed (Declare at name shape first) i j =
      (n : ℕ) × (at ≡ place s i) × IsName s i name × HasType s shape (i + 1) n × IsInitialised s fixed first n j

  -- `=` and an initialiser, which `let` may lack
  pub IsInitialised : Source → (fixed : Bool) → OptionalTree → Stands
  IsInitialised s fixed absent i j = (fixed ≡ false) × (i ≡ j)
  IsInitialised s fixed (present a) i j = IsMark s i m.Assign × IsOperand s assignment_level a (IsBare s a) (i + 1) j

  -- statements and the `}` behind them
  pub InBlock : Source → (f l : Bool) → Statements → Stands
  InBlock s f l done i j = IsMark s i m.CloseBrace × (j ≡ i + 1)
  InBlock s f l (also a rest) i j = (n : ℕ) × IsStatement s f l a i n × InBlock s f l rest n j

-- an expression from i up to j, whatever stands behind it
abbrev pub IsExpression : Source → Tree → Stands
IsExpression s e i j = IsOperand s assignment_level e (IsBare s e) i j

-- an expression from i up to j that the token there doesn't go on with
abbrev pub IsWholeExpression : Source → Tree → Stands
IsWholeExpression s e i j = IsExpression s e i j × (binds s j ≡ 0)
