use Rattle.parse_expr.proofs.readers.+grammar.Given as goal

abbrev pub decreases-expression : goal.decreases-expression
decreases-expression l = l.room

abbrev pub decreases-statement : goal.decreases-statement
decreases-statement l = l.room
