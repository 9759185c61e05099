-- What is known of a program while its declarations are put together.
use Rattle.std.specs.Prelude.{◌≡◌, ◌++◌, Option, List}
use Rattle.sts_scope.specs.declared.kinds.StaticType.{StaticType}
use Rattle.sts_scope.specs.declared.entries.Entry.{Entry}
use Rattle.sts_scope.specs.declared.entries.ClassHead.{ClassHead}
use Rattle.sts_scope.specs.declared.known.Known.{Known}

-- these declarations, with these types, and these classes were added
pub record Adds (old new : Known) (entries : List Entry) (kinds : List (Option StaticType))
    (classes : List ClassHead) : Type 0 where
  pub entries_added : new.entries ≡ old.entries ++ entries
  pub kinds_added : new.kinds ≡ old.kinds ++ kinds
  pub classes_added : new.classes ≡ old.classes ++ classes
  pub library_same : new.library ≡ old.library
