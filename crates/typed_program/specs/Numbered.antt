-- That what is numbered has numbers: those of declarations have 64 bits, and those of functions, parameters and locals 32.
use Rattle.std.specs.Prelude.{◌+◌, ◌^◌, ◌<◌, length}
use Rattle.sts_syntax.specs.Programs.{class_members}
use Rattle.sts_scope.specs.Entries.{member_entries}
use Rattle.sts_scope.specs.Rules.{maker_takes_of}
use Rattle.text_sizes.specs.Numbered.{members_numbered}
use Rattle.typed_trees.specs.declared.build_places.Plan.{Plan}
use Rattle.typed_trees.specs.Sites.{naming}
use Rattle.typed_program.specs.declared.build_parts.ClassParts.{ClassParts}

-- the members of a class, and what comes behind them
pub record AreNumbered (l : Plan) (a : ClassParts) : Type 0 where
  pub declarations : a.first.declaration
      + length (member_entries (naming l) a.class (class_members a.members.now)) < 2 ^ 64
  pub functions : a.first.function + members_numbered (class_members a.members.now) < 2 ^ 32
  pub takes : 1 + length (maker_takes_of l.known.now.classes a.class) < 2 ^ 32
