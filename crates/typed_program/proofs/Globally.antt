-- A global's parts.
use Rattle.std.proofs.Common.{◌≡◌, ℕ, ap, ◌∙◌}
use Rattle.sts_syntax.specs.declared.trees.Binding.{Binding, out-Binding}
use Rattle.sts_syntax.specs.declared.typed.Spot.TheVariants.{Global}
use Rattle.sts_syntax.specs.Views.{declaration, optional_annotation, optional_expression}
use Rattle.sts_syntax.proofs.Laws.{declaration_parts}
use Rattle.type_derive.specs.inner.Filled as b
use Rattle.typed_trees.specs.declared.build_places.Plan.{Plan}
use Rattle.typed_trees.specs.Sites as s
use Rattle.typed_trees.proofs.Laws.{made_of}
use Rattle.typed_program.specs.Wholes as w
use Rattle.typed_trees.proofs.Laws.{alone}

pub global_is : (l : Plan) (st : b.Site) (number : ℕ) (a : Binding) (m n : ℕ) → w.global_made l st number (declaration a) m n
    ≡ (let x = s.first_made l st (optional_annotation (out-Binding a).shape) (optional_expression (out-Binding a).first) m n in made_of (record { name = Global number; first = x.it }) x.locals x.routines)
global_is l st number a m n =
    let x = s.first_made l st (optional_annotation (out-Binding a).shape) (optional_expression (out-Binding a).first) m n in
    ap (λ q. w.global_made l st number q m n) (declaration_parts a) ∙ alone x (record { name = Global number; first = x.it })
