-- A text without a failure of headings, overriding methods and nodes is built; and each text has the failure that is found where its program is filled in.
use Rattle.std.proofs.Common.{◌≡◌, refl, sym, ap, ◌∙◌, Option, Some, None, List, [], ◌∷◌, ◌++◌, length, ℕ, ◌+◌, arith}
use Rattle.std.specs.Prelude.{slice_get}
use Rattle.std.specs.Option.{option_map}
use Rattle.sts_base.specs.declared.tables.Tables.{Tables}
use Rattle.sts_syntax.specs.Programs.{Program}
use Rattle.sts_syntax.specs.Types.{ValueType}
use Rattle.sts_syntax.specs.TypedTrees.{TypedStatements, TypedRoutine, ClassEntry, TypedProgram}
use Rattle.sts_scope.specs.declared.entries.Entry.{Entry}
use Rattle.sts_scope.specs.declared.known.Known.{Known}
use Rattle.sts_scope.specs.Entries.{Naming}
use Rattle.sts_scope.specs.Failures.{Failure, ◌then◌}
use Rattle.sts_scope.specs.Handlers.{all_routines}
use Rattle.sts_scope.specs.Numbers.{Numbering, numbering}
use Rattle.sts_scope.specs.Scopes.{all_names, library_classes}
use Rattle.type_derive.specs.Derived.{AreDerived, known, TypeTable}
use Rattle.typed_laws.specs.Accepted.{main_routine, typed, text_failure, limits_failure}
use Rattle.typed_laws.specs.Libraries.{IsLibrary}
use Rattle.type_derive.specs.Making.{Made}
use Rattle.typed_laws.specs.Programs as p
use Rattle.type_derive.specs.Typing.{◌>>=◌}
use Rattle.typed_laws.specs.inner.FilledPrograms as fp
use Rattle.typed_laws.specs.inner.FilledTexts.{filled_program}
use Rattle.typed_laws.specs.BuiltTexts.{TextsAreBuilt, RefusalsAreFound}
use Rattle.typed_laws.specs.WholePrograms.{IsAcceptedWith, HasItsType}
use Rattle.typed_laws.proofs.BuiltPrograms.{items_so, globals_typed, classes_so, library_so}
use Rattle.typed_laws.proofs.Suffixes.{suffix_all}
use Rattle.typed_laws.proofs.TextBehind as of_text
use Rattle.typed_laws.proofs.WholePrograms as whole

-- the library's typed functions are those that are filled in
pub library_filled : (tables : Tables) (library text : Program) (kinds : TypeTable) (ok : IsLibrary tables library text kinds)
    → ok.routines ≡ fp.library_made tables (all_names library text) (known library text kinds) (numbering (library ++ text)) 0 0 library
library_filled tables library text kinds ok = library_so tables (all_names library text) (known library text kinds) (numbering (library ++ text)) 0 0 library ok.routines ok.functions ok.no_failure ok.built

-- the declarations that are known have types
pub types_there : (tables : Tables) (library text : Program) (kinds : TypeTable) → AreDerived tables library text kinds → IsLibrary tables library text kinds → text_failure tables library text kinds ≡ None
    → (d : ℕ) (a : Entry) → slice_get (known library text kinds).entries d ≡ Some a → HasItsType (known library text kinds) d a.sort
types_there tables library text kinds derived ok none d a at =
    let with_it : IsAcceptedWith tables library text kinds = record { functions = ok.functions; derived = derived; no_failure = none } in
    whole.types tables library text kinds with_it d a.sort (ap (λ (z : Option Entry). option_map (λ (x : Entry). x.sort) z) at)

-- the parts of the text
pub parts_built : (tables : Tables) (library text : Program) (kinds : TypeTable) → AreDerived tables library text kinds → IsLibrary tables library text kinds → text_failure tables library text kinds ≡ None
    → p.items_made tables (all_names library text) (known library text kinds) (numbering (library ++ text)) (library_classes library text) (known library text kinds).library 0 (all_routines library) text
    ≡ Some (fp.items_made tables (all_names library text) (known library text kinds) (numbering (library ++ text)) (library_classes library text) (known library text kinds).library 0 (all_routines library) text)
parts_built tables library text kinds derived ok none =
    let k : Known = known library text kinds in
    items_so tables (all_names library text) k (numbering (library ++ text)) (types_there tables library text kinds derived ok none) (library_classes library text) k.library 0 (all_routines library) text
    (of_text.text_entries tables library text kinds ok.functions none) (omega arith) (of_text.nodes_none tables library text kinds ok.functions none)

pub texts_built : TextsAreBuilt
texts_built tables library text kinds derived ok none =
    let names : Naming = all_names library text in
    let k : Known = known library text kinds in
    let numbers : Numbering = numbering (library ++ text) in
    let with_it : IsAcceptedWith tables library text kinds = record { functions = ok.functions; derived = derived; no_failure = none } in
    let typed_so = types_there tables library text kinds derived ok none in
    let front : List TypedRoutine = fp.library_made tables names k numbers 0 0 library in
    let back : Made TypedStatements = fp.items_made tables names k numbers (library_classes library text) k.library 0 (all_routines library) text in
    let classes : List ClassEntry = fp.class_entries tables names k numbers 0 k.classes in
    let G : List TypedRoutine → Made TypedStatements → List ClassEntry → List ValueType → Option TypedProgram = λ first made classes globals. Some (record {
      classes = classes;
      functions = first ++ made.routines ++ main_routine made ∷ [];
      globals = globals;
      main = length first + length made.routines;
    }) in
    let front_is : p.library_made tables names k numbers 0 0 library ≡ Some front = ok.built ∙ ap (λ (z : List TypedRoutine). Some z) (library_filled tables library text kinds ok) in
    let back_is = parts_built tables library text kinds derived ok none in
    let classes_is = classes_so tables names k numbers typed_so (whole.members tables library text kinds with_it) 0 k.classes (suffix_all k.classes) in
    let globals_is = globals_typed tables names k numbers typed_so 0 k.entries (suffix_all k.entries) in
    let made : Option (Made TypedStatements) = p.items_made tables names k numbers (library_classes library text) k.library 0 (all_routines library) text in
    let made_classes : Option (List ClassEntry) = p.class_entries k numbers 0 k.classes in
    let made_globals : Option (List ValueType) = p.global_types k 0 k.entries in
    ap (λ (z : Option (List TypedRoutine)). z >>= λ first. made >>= λ x. made_classes >>= λ classes. made_globals >>= λ globals. G first x classes globals) front_is
    ∙ ap (λ (z : Option (Made TypedStatements)). z >>= λ x. made_classes >>= λ classes. made_globals >>= λ globals. G front x classes globals) back_is
    ∙ ap (λ (z : Option (List ClassEntry)). z >>= λ classes. made_globals >>= λ globals. G front back classes globals) classes_is
    ∙ ap (λ (z : Option (List ValueType)). z >>= λ globals. G front back classes globals) globals_is

pub refusals_found : RefusalsAreFound
refusals_found tables library text kinds derived ok = by_failure (text_failure tables library text kinds) refl
  where
    limits : Option Failure
    limits = typed tables library text kinds >>= λ p. limits_failure tables.texts p

    filled_limits : Option Failure
    filled_limits = limits_failure tables.texts (filled_program tables library text kinds)

    by_failure : (z : Option Failure) → text_failure tables library text kinds ≡ z → (text_failure tables library text kinds then limits) ≡ (text_failure tables library text kinds then filled_limits)
    by_failure (Some f) q = ap (λ (x : Option Failure). x then limits) q ∙ sym (ap (λ (x : Option Failure). x then filled_limits) q)
    by_failure None q = ap (λ (x : Option TypedProgram). text_failure tables library text kinds then (x >>= λ p. limits_failure tables.texts p)) (texts_built tables library text kinds derived ok q)
