use Rattle.std.proofs.Common.{◌≡◌, ◌++◌, drop}
use Rattle.sts_syntax.specs.Views.{parameters}
use Rattle.sts_scope.specs.Values.{value_at}
use Rattle.type_derive.specs.Scopes.{place}
use Rattle.type_derive.specs.Returns as given
use Rattle.derived_types.proofs.solving.within.Given as goal

abbrev pub invariant-loop-i : goal.invariant-loop-i
invariant-loop-i l = record {
  locals : (place l.scope).locals ++ given.parameter_locals (value_at l.classes.values.items) (parameters (drop l.i l.params))
      ≡ given.parameter_locals (value_at l.classes.values.items) (parameters l.params);
  same : place l.scope ≡ record (place l.initial.scope) { locals = (place l.scope).locals };
}
