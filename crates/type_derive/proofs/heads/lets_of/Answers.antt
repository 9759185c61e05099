use Rattle.std.proofs.Common.{List, Option, Some, sym, ap, ◌∙◌}
use Rattle.sts_syntax.specs.declared.trees.Binding.{Binding}
use Rattle.sts_syntax.specs.Views.{declarations}
use Rattle.sts_scope.proofs.Laws.{let_is}
use Rattle.type_derive.specs.Heads.{Declares, lets_of}
use Rattle.type_derive.proofs.heads.lets_of.Goals as goal

pub returns-in-Let : goal.returns-in-Let
returns-in-Let c =
    let made : List Binding → Option Declares = λ xs. Some (record { fixed = c.in-Let.fixed; each = declarations xs }) in
    ap made c.as_slice.ensures ∙ sym (ap lets_of (let_is c.args.s.now c.in-Let.fixed c.in-Let.each c.in-Let.is))
