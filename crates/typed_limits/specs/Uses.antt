-- What is noted of expressions, one after the other.
use Rattle.std.specs.Prelude.{ℕ, ◌+◌, ◌-◌, ◌^◌, min, List, [], ◌∷◌, ◌++◌}
use Rattle.sts_syntax.specs.declared.typed.Callee.TheVariants as c
use Rattle.sts_syntax.specs.TypedTrees as e
use Rattle.sts_syntax.specs.TypedTrees.{TypedTree}
use Rattle.sts_syntax.specs.BoardTable.{row_of, BoardAction, Service, Library, Repeats}
use Rattle.typed_limits.specs.declared.uses.Uses.{Uses}

-- so many calls of `forever`, and then a call that does this; no more than 32 bits count
abbrev pub repeats_with : ℕ → BoardAction → ℕ
repeats_with n (Service number places) = n
repeats_with n (Library function) = n
repeats_with n Repeats = min (n + 1) (2 ^ 32 - 1)

-- with one expression more
abbrev pub with_node : Uses → TypedTree → Uses
with_node u (e.Text t n) = record { texts = u.texts ++ n ∷ []; repeats = u.repeats }
with_node u (e.Call t (c.Board call) args) =
    record { texts = u.texts; repeats = repeats_with u.repeats (row_of call).action }
with_node u a = u

abbrev pub noted : Uses → List TypedTree → Uses
noted u [] = u
noted u (a ∷ rest) = noted (with_node u a) rest
