-- Origins that are gathered one behind the other.
use Rattle.std.proofs.Common.{◌≡◌, ℕ, zero, suc, ◌+◌, ◌<◌, ◌≤◌, List, [], ◌∷◌, ◌++◌, length, get_or, drop, refl, sym, ap, ◌∙◌, arith, append_assoc, length-append, Option, Some, None}
use Rattle.std.specs.Prelude.{false, slice_get}
use Rattle.std.proofs.lemmas.Option.{slice_get_past}
use Rattle.sts_syntax.specs.declared.trees.Binding.{Binding}
use Rattle.sts_syntax.specs.declared.trees.Param.{Param}
use Rattle.sts_syntax.specs.Programs.{Program}
use Rattle.sts_syntax.specs.Views.{declaration, declarations, parameters, optional_annotation}
use Rattle.sts_scope.specs.declared.kinds.StaticType.{StaticType}
use Rattle.sts_scope.specs.declared.known.Local.{Local}
use Rattle.sts_scope.specs.declared.known.This.TheVariants as this
use Rattle.sts_scope.specs.Entries.{Naming, class_names, item_class, written_kind}
use Rattle.sts_scope.specs.Places.{local}
use Rattle.derived_types.specs.declared.origins.Origin.{Origin}
use Rattle.type_derive.specs.Derived.{Source, sources_from, item_sources, global_sources, declared_source}
use Rattle.derived_types.specs.Origins.{source, sources}
use Rattle.type_derive.specs.Returns.{parameter_locals}
use Rattle.sts_scope.proofs.Laws.{drop_at}

pub sources_append : (xs ys : List Origin) → sources (xs ++ ys) ≡ sources xs ++ sources ys
sources_append [] ys = refl
sources_append (x ∷ xs) ys = ap (λ zs. source x ∷ zs) (sources_append xs ys)

pub from_append : (f : Naming) (c : ℕ) (xs ys : Program) → sources_from f c (xs ++ ys) ≡ sources_from f c xs ++ sources_from f (c + length (class_names xs)) ys
from_append f c [] ys = let e : c ≡ c + 0 = omega arith in ap (λ d. sources_from f d ys) e
from_append f c (x ∷ xs) ys =
    let n = length (item_class x) in
    let e : c + n + length (class_names xs) ≡ c + length (item_class x ++ class_names xs) = omega (arith, length-append (item_class x) (class_names xs)) in
    ap (λ zs. item_sources f c x ++ zs) (from_append f (c + n) xs ys ∙ ap (λ d. sources_from f (c + n) xs ++ sources_from f d ys) e)
    ∙ sym (append_assoc (item_sources f c x) (sources_from f (c + n) xs) (sources_from f (c + length (item_class x ++ class_names xs)) ys))

pub added : (old new : List Origin) (o : Origin) → new ≡ old ++ o ∷ [] → sources new ≡ sources old ++ source o ∷ []
added old new o h = ap sources h ∙ sources_append old (o ∷ [])

pub globals_step : (f : Naming) (each : List Binding) (i : ℕ) (b : Binding) (old new : List Origin) (o : Origin) (all : List Source) → i < length each → b ≡ get_or each i b →
    source o ≡ declared_source f this.Nowhere (declaration b) → new ≡ old ++ o ∷ [] → sources old ++ global_sources f (declarations (drop i each)) ≡ all →
    sources new ++ global_sources f (declarations (drop (i + 1) each)) ≡ all
globals_step f each i b old new o all lt is ho hn h =
    let rest = global_sources f (declarations (drop (i + 1) each)) in
    ap (λ xs. xs ++ rest) (added old new o hn) ∙ append_assoc (sources old) (source o ∷ []) rest ∙ ap (λ s. sources old ++ (s ∷ rest)) ho
    ∙ ap (λ ys. sources old ++ global_sources f (declarations ys)) (sym (drop_at each i b lt is)) ∙ h

sources_length : (xs : List Origin) → length (sources xs) ≡ length xs
sources_length [] = refl
sources_length (x ∷ xs) = ap suc (sources_length xs)

pub source_none : (xs : List Origin) (d : ℕ) → length xs ≤ d → slice_get (sources xs) d ≡ None
source_none xs d h = slice_get_past (sources xs) d (omega (arith, h, sources_length xs))

pub source_at : (xs : List Origin) (d : ℕ) (o : Origin) → d < length xs → o ≡ get_or xs d o → slice_get (sources xs) d ≡ Some (source o)
source_at [] d o lt is = absurd (omega arith)
source_at (x ∷ xs) zero o lt is = ap (λ y. Some (source y)) (sym is)
source_at (x ∷ xs) (suc d) o lt is = source_at xs d o (omega arith) is

pub locals_step : (f : Naming) (ps : List Param) (i : ℕ) (p : Param) (ls new : List Local) (kind : Option StaticType) (all : List Local) → i < length ps → p ≡ get_or ps i p →
    kind ≡ written_kind f (optional_annotation p.shape) → new ≡ ls ++ local p.name kind false ∷ [] → ls ++ parameter_locals f (parameters (drop i ps)) ≡ all →
    new ++ parameter_locals f (parameters (drop (i + 1) ps)) ≡ all
locals_step f ps i p ls new kind all lt is hk hn h =
    let rest = parameter_locals f (parameters (drop (i + 1) ps)) in
    ap (λ xs. xs ++ rest) hn ∙ append_assoc ls (local p.name kind false ∷ []) rest ∙ ap (λ o. ls ++ (local p.name o false ∷ rest)) hk
    ∙ ap (λ qs. ls ++ parameter_locals f (parameters qs)) (sym (drop_at ps i p lt is)) ∙ h
