use Rattle.std.proofs.Common.{◌-◌, List, ℕ, length, drop, get_or, ap, ◌∙◌, arith}
use Rattle.sts_scope.specs.declared.entries.Entry.{Entry}
use Rattle.sts_scope.specs.Numbers.{added, own_names}
use Rattle.typed_numbers.specs.Building.{picks}
use Rattle.typed_numbers.proofs.Chains.{names_along, along_next}
use Rattle.typed_numbers.proofs.member_names.class_names.Goals as goal

pub loop-i-preserved : goal.loop-i-preserved
loop-i-preserved c =
    let classes = c.as_slice-classes.result.now in
    let i = c.loop-i.i in
    let k = c.args.known.now in
    let which = picks c.args.which in
    let nearer = get_or classes (length classes - 1 - i) 0 in
    let names = names_along which k (drop (length classes - i) classes) in
    along_next which k classes i c.in_ok-names.names (omega arith)
    (c.in_ok-names.ensures ∙ (ap (λ (q : List ℕ). added q c.as_slice-in-loop-i-2.result.now) (c.as_slice-in-loop-i.ensures ∙ c.loop-i.invariant)
    ∙ ap (λ (q : List ℕ). added names q) (c.as_slice-in-loop-i-2.ensures ∙ (c.in_ok-own.ensures ∙ ap (λ (es : List Entry). own_names which es nearer) (c.as_slice.ensures ∙ c.entries.ensures)))))
