-- Going through a text: what fails at each of its members, and how a constructor begins.
use Rattle.std.specs.Prelude.{ℕ, Option, None, []}
use Rattle.sts_base.specs.declared.tables.Tables.{Tables}
use Rattle.sts_base.specs.declared.refused.Code.TheVariants.{Mismatch}
use Rattle.sts_syntax.specs.Trees.{Trees, Statements}
use Rattle.sts_syntax.specs.Programs.{ClassMember, Field, Method, Constructor, Program}
use Rattle.sts_scope.specs.declared.known.Known.{Known}
use Rattle.sts_scope.specs.declared.known.This.TheVariants as this
use Rattle.sts_scope.specs.Entries.{Naming}
use Rattle.sts_scope.specs.Failures.{Failure, ◌then◌, failure_at, unless}
use Rattle.sts_scope.specs.Headings.{routine_at}
use Rattle.sts_scope.specs.Lookup.{base_of, inherited}
use Rattle.sts_scope.specs.Rules.{kind_at, maker_takes_of}
use Rattle.sts_scope.specs.Places.{NameScope}
use Rattle.type_derive.specs.Typing.{types_of}
use Rattle.type_derive.specs.Nodes.{failures, statements_failure}
use Rattle.type_derive.specs.Passes.{agrees, outside_failure, own_super_call, body_failure, constructor_failure, all_overrides, nodes_failure}

-- a member against the bases of its class
abbrev pub override_failure : Known → ℕ → ℕ → ClassMember → Option Failure
override_failure k c d (Field a) = None
override_failure k c d (Method x r) = unless (agrees k d (inherited k.entries k.classes c x)) Mismatch (routine_at r)
override_failure k c d (Constructor r) = None

-- the nodes of a member
abbrev pub member_nodes : Tables → Naming → Known → ℕ → ℕ → ClassMember → Option Failure
member_nodes tables names k c d (Field a) = outside_failure tables names k (this.Object c) a
member_nodes tables names k c d (Method x r) = body_failure tables names k (this.Object c) (kind_at k d) r
member_nodes tables names k c d (Constructor r) =
    constructor_failure tables names k (this.Object c) (base_of k.classes c) r

-- the call of a base's constructor
abbrev pub super_failure : Tables → Naming → Known → NameScope → ℕ → ℕ → Trees → Option Failure
super_failure tables names k p at b args =
    failures tables names k p [] args
    then own_super_call k (types_of tables k p args) (maker_takes_of k.classes b) at

-- the statements of a constructor without it, of a class with a base
abbrev pub unmade_failure : Tables → Naming → Known → NameScope → ℕ → Statements → Option Failure
unmade_failure tables names k p at all = statements_failure tables names k p all then failure_at Mismatch at

-- the first failure behind the headings, of a text that begins with the class c
abbrev pub type_failure : Tables → Naming → Known → ℕ → Program → Option Failure
type_failure tables names k c text =
    all_overrides k names c k.library text then nodes_failure tables names k c k.library text
