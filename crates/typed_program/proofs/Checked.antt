-- The first failure of all passes, by what the code finds pass by pass.
use Rattle.std.proofs.Common.{◌≡◌, Option, Some, None, ◌++◌, refl, sym, ap, ◌∙◌}
use Rattle.std.proofs.Math.Path.{fun_ext}
use Rattle.sts_base.specs.declared.tables.Tables.{Tables}
use Rattle.sts_base.specs.declared.refused.Refused.{Refused}
use Rattle.sts_base.specs.declared.refused.Refused.TheVariants as r
use Rattle.sts_syntax.specs.Programs.{Program}
use Rattle.sts_syntax.specs.TypedTrees.{TypedProgram}
use Rattle.sts_scope.specs.declared.known.Known.{Known}
use Rattle.sts_scope.specs.declared.collect.Declared.{Declared}
use Rattle.sts_scope.specs.Entries.{Naming}
use Rattle.sts_scope.specs.Values.{value_at}
use Rattle.sts_base.specs.declared.refused.Code.TheVariants.{OverLimit}
use Rattle.sts_scope.specs.Failures.{Failure, RefusedWith, ◌then◌, unless}
use Rattle.sts_scope.specs.Numbers.{numbering}
use Rattle.typed_numbers.specs.Counts.{counts_fit}
use Rattle.typed_program.proofs.Counted.{over_limit}
use Rattle.sts_scope.specs.Scopes.{all_names, library_classes, heading_refusal}
use Rattle.type_derive.specs.Passes.{all_overrides, nodes_failure}
use Rattle.typed_laws.specs.Accepted.{limits_failure}
use Rattle.type_derive.specs.Derived.{known}
use Rattle.typed_laws.specs.inner.FilledTexts.{filled_program, filled_refusal, IsFilled}
use Rattle.derived_types.specs.Solved.{IsSolved}
use Rattle.type_derive.proofs.Laws.{types_exist}
use Rattle.text_headings.specs.Standing.{IsTextDeclared}
use Rattle.text_headings.proofs.Laws.{text_declared}
use Rattle.typed_program.specs.Checking.{RefusesTrees}
use Rattle.type_check.specs.Texts.{type_failure}

module _ (tables : Tables) (library text : Program) where
  -- the failure of a heading is the first, whatever the types
  pub heading_refused : (why : Refused) → RefusedWith why (heading_refusal tables.names library text) → RefusesTrees why tables library text
  heading_refused (r.Program code at) h =
      let (kinds, w) = types_exist tables library text in
      let k : Known = known library text kinds in
      let nodes : Option Failure = all_overrides k (all_names library text) (library_classes library text) k.library text then nodes_failure tables (all_names library text) k (library_classes library text) k.library text in
      (kinds, w, ap (λ x. (x then nodes) then limits_failure tables.texts (filled_program tables library text kinds)) h)
  heading_refused r.NoMemory h = tt

  module _ (d : Declared) (s : IsSolved tables library text d) where
    -- what the text declares stands behind the library's declarations
    pub text_behind : IsTextDeclared text d
    text_behind = text_declared library text d s.names (ap (λ (x : Known). x.entries) s.known_is) (ap (λ (x : Known). x.library) s.known_is) s.first_class

    abbrev k : Known
    k = known library text d.known.kinds

    abbrev names : Naming
    names = value_at d.classes.values.items

    abbrev found : Option Failure
    found = type_failure tables names d.known d.first_class text

    abbrev limits : Option Failure
    limits = limits_failure tables.texts (filled_program tables library text d.known.kinds)

    found_is : type_failure tables (all_names library text) k (library_classes library text) text ≡ found
    found_is =
        ap (λ x. type_failure tables x k (library_classes library text) text) (sym (fun_ext {f = names} {g = all_names library text} s.names))
        ∙ ap (λ x. type_failure tables names x (library_classes library text) text) (sym s.known_is)
        ∙ ap (λ x. type_failure tables names d.known x text) (sym s.first_class)

    refusal_is : heading_refusal tables.names library text ≡ None → filled_refusal tables library text d.known.kinds ≡ found then limits
    refusal_is h = ap (λ x. (x then type_failure tables (all_names library text) k (library_classes library text) text) then limits) h ∙ ap (λ x. x then limits) found_is

    pub found_refused : (why : Refused) → heading_refusal tables.names library text ≡ None → RefusedWith why found → RefusesTrees why tables library text
    found_refused (r.Program code at) h f = (d.known.kinds, s.derived, refusal_is h ∙ ap (λ x. x then limits) f)
    found_refused r.NoMemory h f = tt

    -- a program that declares more than a limit allows passes it
    pub counts_refused : heading_refusal tables.names library text ≡ None → found ≡ None → (why : Refused) → RefusedWith why (unless (counts_fit d.known) OverLimit 0) → RefusesTrees why tables library text
    counts_refused h none (r.Program code at) f =
        let n = numbering (library ++ text) in
        let over = over_limit tables (all_names library text) k n tables.texts (filled_program tables library text d.known.kinds) refl refl (record { code = code; at = at })
        (ap (λ x. unless (counts_fit x) OverLimit 0) (sym s.known_is) ∙ f) in
        (d.known.kinds, s.derived, refusal_is h ∙ ap (λ x. x then limits) none ∙ over)
    counts_refused h none r.NoMemory f = tt

    module _ (h : heading_refusal tables.names library text ≡ None) (none : found ≡ None) (p : TypedProgram) (is : p ≡ filled_program tables library text d.known.kinds) where
      rest_is : filled_refusal tables library text d.known.kinds ≡ limits_failure tables.texts p
      rest_is = refusal_is h ∙ ap (λ x. x then limits) none ∙ ap (limits_failure tables.texts) (sym is)

      pub limits_refused : (why : Refused) → RefusedWith why (limits_failure tables.texts p) → RefusesTrees why tables library text
      limits_refused (r.Program code at) f = (d.known.kinds, s.derived, rest_is ∙ f)
      limits_refused r.NoMemory f = tt

      pub accepted : limits_failure tables.texts p ≡ None → IsFilled tables library text p
      accepted f = (d.known.kinds, s.derived, rest_is ∙ f, is)
