use Rattle.std.proofs.Common.{◌++◌, ◌∷◌, [], sym, ap, ◌∙◌, append_assoc, None}
use Rattle.sts_syntax.specs.Programs.{top_level, class_members}
use Rattle.sts_scope.specs.Values.{value_at}
use Rattle.derived_types.specs.declared.origins.Origin.TheVariants as o
use Rattle.type_derive.specs.Derived.{Stated, member_sources, item_sources}
use Rattle.derived_types.specs.Origins.{sources}
use Rattle.derived_types.proofs.Gathered.{added}
use Rattle.derived_types.proofs.origins.add_item.Goals as goal

pub returns-in_ok-add_members-in-Class-clause-sources : goal.returns-in_ok-add_members-in-Class-clause-sources
returns-in_ok-add_members-in-Class-clause-sources c =
    let f = value_at c.args.classes.now.values.items in
    let n = c.args.count in
    let old = c.args.origins.now.items in
    let rest = member_sources f n (class_members c.as_slice.result.now) in
    c.in_ok-add_members-in-Class.ensures ∙ ap (λ zs. zs ++ rest) (added old c.add.new.origins.items (o.Stated None) c.in_ok-add-in-Class.ensures)
    ∙ append_assoc (sources old) (Stated None ∷ []) rest ∙ ap (λ xs. sources old ++ (Stated None ∷ member_sources f n (class_members xs))) c.as_slice.ensures
    ∙ sym (ap (λ i. sources old ++ item_sources f n (top_level i)) c.in-Class.is)
