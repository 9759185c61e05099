use Rattle.std.proofs.Common.{◌≡◌, drop, map}
use Rattle.sts_syntax.specs.BoardViews.{board_parameter}
use Rattle.sts_syntax.specs.Views.{trees}
use Rattle.type_derive.specs.Typing as typing
use Rattle.type_derive.specs.Scopes.{place}
use Rattle.type_check.specs.Seen.{kinds_given}
use Rattle.type_check.proofs.arguments.are_given.Given as goal

abbrev pub invariant-loop-i : goal.invariant-loop-i
invariant-loop-i l = record {
  rest : typing.are_given l.context.tables.now l.context.known.now (place l.scope) (map board_parameter (drop l.i l.takes)) (trees (drop l.i l.args))
      ≡ typing.are_given l.context.tables.now l.context.known.now (place l.scope) (map board_parameter l.takes) (trees l.args);
  kinds : drop l.i l.kinds ≡ kinds_given l.context.tables.now l.context.known.now (place l.scope) (map board_parameter (drop l.i l.takes)) (trees (drop l.i l.args));
}
