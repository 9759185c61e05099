-- Formed trees: their numbers have 32 bits.
use Rattle.std.proofs.Common.{Bool, List}
use Rattle.sts_syntax.specs.Trees.{Tree, Trees, OptionalTree, Statement, Statements, OptionalStatement, Declaration, Declarations}
use Rattle.sts_syntax.specs.Programs.{ClassMember}
use Rattle.typed_laws.specs.Formed.{TreeHas, TreesHave, OptionHas, DeclarationHas, DeclarationsHave, StatementHas, FirstHas, StatementsHave, MembersHave, Is32, Any}

abbrev pub IsFormed : Tree → Type 0
IsFormed a = TreeHas Is32 Any a

abbrev pub AreFormed : Trees → Type 0
AreFormed a = TreesHave Is32 Any a

abbrev pub MayBeFormed : OptionalTree → Type 0
MayBeFormed a = OptionHas Is32 Any a

abbrev pub IsFormedDeclaration : Declaration → Type 0
IsFormedDeclaration a = DeclarationHas Is32 Any a

abbrev pub AreFormedDeclarations : Declarations → Type 0
AreFormedDeclarations a = DeclarationsHave Is32 Any a

abbrev pub IsFormedIn : Bool → Statement → Type 0
IsFormedIn looped a = StatementHas Is32 Any looped a

abbrev pub IsFormedFirst : OptionalStatement → Type 0
IsFormedFirst a = FirstHas Is32 Any a

abbrev pub AreFormedIn : Bool → Statements → Type 0
AreFormedIn looped a = StatementsHave Is32 Any looped a

abbrev pub AreFormedMembers : List ClassMember → Type 0
AreFormedMembers a = MembersHave Is32 Any a
