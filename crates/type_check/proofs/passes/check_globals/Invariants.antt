use Rattle.std.proofs.Common.{◌≡◌, drop}
use Rattle.sts_syntax.specs.Views.{declarations}
use Rattle.type_derive.specs.Passes as pass
use Rattle.type_derive.specs.Scopes.{naming}
use Rattle.type_check.proofs.passes.check_globals.Given as goal

abbrev pub invariant-loop-i : goal.invariant-loop-i
invariant-loop-i l =
    pass.globals_failure l.context.tables.now (naming l.context) l.context.known.now (declarations (drop l.i l.each)) ≡ pass.globals_failure l.context.tables.now (naming l.context) l.context.known.now (declarations l.each)
