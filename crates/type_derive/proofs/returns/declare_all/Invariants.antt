use Rattle.std.proofs.Common.{◌≡◌, drop}
use Rattle.sts_syntax.specs.Views.{declarations}
use Rattle.type_derive.specs.Scopes.{naming, place}
use Rattle.type_derive.specs.Returns as given
use Rattle.type_derive.proofs.returns.declare_all.Given as goal

abbrev pub invariant-loop-i : goal.invariant-loop-i
invariant-loop-i l =
    given.all_declared l.context.tables.now (naming l.context) l.context.known.now (place l.scope) l.fixed (declarations (drop l.i l.each))
    ≡ given.all_declared l.context.tables.now (naming l.context) l.context.known.now (place l.initial.scope) l.fixed (declarations l.each)
