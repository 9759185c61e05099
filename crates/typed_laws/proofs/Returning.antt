-- Where a value is returned.
use Rattle.std.specs.Prelude.{Bool, true, false, ◌||◌}
use Rattle.sts_syntax.specs.Trees.{absent, present, Statement, Block, Let, IfOnly, IfElse, While, DoWhile, For, ForOf, Return, Break, Continue, Plain, Empty, Statements, done, also}

-- a value is returned somewhere in it; handlers in it return for themselves
abbrev mutual
  pub gives_value : Statement → Bool
  gives_value (Return at (present e)) = true
  gives_value (Return at absent) = false
  gives_value (Block at all) = give_value all
  gives_value (IfOnly at test a) = gives_value a
  gives_value (IfElse at test a b) = gives_value a || gives_value b
  gives_value (While at test a) = gives_value a
  gives_value (DoWhile at a test) = gives_value a
  gives_value (For at first test step a) = gives_value a
  gives_value (ForOf at fixed name list a) = gives_value a
  gives_value (Let at fixed each) = false
  gives_value (Break at) = false
  gives_value (Continue at) = false
  gives_value (Plain at e) = false
  gives_value (Empty at) = false

  pub give_value : Statements → Bool
  give_value done = false
  give_value (also s rest) = gives_value s || give_value rest
