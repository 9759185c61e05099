-- The first failure of names, bases and headings, by what is known of a library and a text.
use Rattle.std.proofs.Common.{◌≡◌, ℕ, List, sym, ap, ◌∙◌}
use Rattle.std.proofs.Math.Path.{fun_ext}
use Rattle.sts_syntax.specs.Programs.{Program}
use Rattle.sts_scope.specs.declared.collect.Declared.{Declared}
use Rattle.sts_scope.specs.Values.{value_at}
use Rattle.sts_scope.specs.Scopes.{heading_refusal, passes, all_names, all_entries, all_classes, library_entries, library_classes}
use Rattle.sts_scope.specs.Known.{IsDeclared}

pub refusal_is : (spellings : List (List ℕ)) (library text : Program) (k : Declared) → IsDeclared library text k →
    heading_refusal spellings library text ≡ passes spellings text (value_at k.classes.values.items) k.known.entries k.known.classes k.known.library k.first_class
refusal_is spellings library text k w =
    let f = all_names library text in
    let es = all_entries library text in
    let cs = all_classes library text in
    let g = value_at k.classes.values.items in
    ap (λ x. passes spellings text x es cs (library_entries library text) (library_classes library text)) (sym (fun_ext {f = g} {g = f} w.names))
    ∙ ap (λ x. passes spellings text g x cs (library_entries library text) (library_classes library text)) (sym w.entries)
    ∙ ap (λ x. passes spellings text g k.known.entries x (library_entries library text) (library_classes library text)) (sym w.classes)
    ∙ ap (λ x. passes spellings text g k.known.entries k.known.classes x (library_classes library text)) (sym w.counted)
    ∙ ap (passes spellings text g k.known.entries k.known.classes k.known.library) (sym w.first_class)
