-- What is made, with the same locals and functions in other words.
use Rattle.std.proofs.Common.{◌≡◌, List, [], ◌++◌, ap, ◌∙◌}
use Rattle.std.proofs.lemmas.List.{append-nil}
use Rattle.sts_syntax.specs.Types.{ValueType}
use Rattle.sts_syntax.specs.TypedTrees.{TypedRoutine}
use Rattle.type_derive.specs.Making.{Made}
use Rattle.typed_trees.proofs.Nodes.{made_of}

same : {A : Type 0} (x : A) (us vs : List ValueType) (rs ss : List TypedRoutine) → us ≡ vs → rs ≡ ss → made_of x us rs ≡ made_of x vs ss
same x us vs rs ss h k = ap (λ q. made_of x q rs) h ∙ ap (λ q. made_of x vs q) k

pub alone : {A B : Type 0} (x : Made A) (y : B) → made_of y (x.locals ++ []) (x.routines ++ []) ≡ made_of y x.locals x.routines
alone x y = same y (x.locals ++ []) x.locals (x.routines ++ []) x.routines (append-nil x.locals) (append-nil x.routines)
