-- Which declarations are noted as asked for.
use Rattle.std.specs.Prelude.{ℕ, Bool, true, false, Some, None, List, [], ◌∷◌}
use Rattle.sts_scope.specs.declared.known.Known.{Known}
use Rattle.sts_scope.specs.Rules.{kind_at}

-- a declaration, where its type isn't known and it is to be noted
abbrev pub asked_for : Known → Bool → ℕ → List ℕ
asked_for k false d = []
asked_for k true d = elim (kind_at k d) [ None ↦ d ∷ [] | Some t ↦ [] ]
