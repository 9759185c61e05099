use Rattle.std.proofs.Common.{◌≡◌, ◌++◌, length, refl, ap, ◌∙◌, subst, arith}
use Rattle.std.proofs.Math.Path.{fun_ext}
use Rattle.sts_syntax.specs.Programs.{program}
use Rattle.sts_scope.specs.Entries.{class_names}
use Rattle.sts_scope.specs.Scopes.{all_names}
use Rattle.sts_scope.proofs.Laws.{head_count}
use Rattle.sts_scope.specs.Values.{value_at}
use Rattle.type_derive.specs.Derived.{all_sources, rule, sources_from, IsLeast}
use Rattle.derived_types.specs.Origins.{sources}
use Rattle.derived_types.proofs.Ruled.{known_is}
use Rattle.derived_types.proofs.solving.solve.Goals as goal

pub origins_of-requires : goal.origins_of-requires
origins_of-requires c =
    let lib = program c.args.library.now in
    let txt = program c.args.text.now in
    let is : length c.classes-classes.result.now ≡ length (class_names (lib ++ txt)) = ap length (c.classes-classes.ensures.all ∙ c.requires.classes) ∙ head_count (all_names lib txt) (lib ++ txt) in
    omega (arith, is, c.classes-classes.ensures.few)

pub returns : goal.returns
returns c =
    let t = c.args.tables.now in
    let f = value_at c.args.declared.now.classes.values.items in
    let k = c.args.declared.now.known in
    let n = c.derive_all.new.known in
    let lib = program c.args.library.now in
    let txt = program c.args.text.now in
    let named : f ≡ all_names lib txt = fun_ext c.requires.names in
    let s = ap sources c.deref.ensures.value ∙ c.in_ok-origins.ensures in
    let this = known_is lib txt k k c.requires.entries c.requires.classes c.requires.counted refl in
    record {
      names = c.requires.names;
      known_is = known_is lib txt k n c.requires.entries c.requires.classes c.requires.counted c.in_ok-derive_all.ensures.same;
      first_class = c.requires.first_class;
      derived = record {
        each = c.in_ok-derive_all.ensures.len ∙ ap length c.requires.entries;
        least = subst (λ Q. IsLeast Q n.kinds)
            (ap (λ z. rule t f k z) s ∙ ap (λ g. rule t g k (sources_from g 0 (lib ++ txt))) named ∙ ap (λ m. rule t (all_names lib txt) m (all_sources lib txt)) this)
            c.in_ok-derive_all.ensures.least;
      };
    }
