-- What of the counted limits the declarations of a program tell: its classes, its globals, and the fields and slots of each class.
use Rattle.std.specs.Prelude.{ℕ, Bool, ◌&&◌, List, length, nat_le}
use Rattle.std.specs.List.{list_all}
use Rattle.sts_scope.specs.declared.known.Known.{Known}
use Rattle.sts_scope.specs.Lookup.{is_field}
use Rattle.sts_scope.specs.Numbers.{is_method}
use Rattle.sts_scope.specs.Scopes.{is_global, names_of}
use Rattle.typed_numbers.specs.Building.{names_upto}

abbrev pub is_short : List ℕ → Bool
is_short names = nat_le (length names) 30

abbrev pub counts_fit : Known → Bool
counts_fit k =
    nat_le (length k.classes) 64 && nat_le (length (names_of is_global k.entries)) 256
    && list_all is_short (names_upto is_field k (length k.classes))
    && list_all is_short (names_upto is_method k (length k.classes))
