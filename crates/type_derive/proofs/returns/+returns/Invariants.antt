use Rattle.std.proofs.Common.{◌≡◌, drop}
use Rattle.sts_syntax.specs.Views.{statements}
use Rattle.type_derive.specs.Scopes.{place, Extends, naming}
use Rattle.type_derive.specs.Returns as given
use Rattle.type_derive.proofs.returns.+returns.Given as goal

abbrev pub invariant-returned_in_block-loop-i : goal.invariant-returned_in_block-loop-i
invariant-returned_in_block-loop-i l = record {
  value : given.all_returned l.context.tables.now (naming l.context) l.context.known.now (place l.scope) (statements (drop l.i l.all))
      ≡ given.all_returned l.context.tables.now (naming l.context) l.context.known.now (place l.initial.scope) (statements l.all);
  here : Extends (place l.initial.scope) (place l.scope);
}
