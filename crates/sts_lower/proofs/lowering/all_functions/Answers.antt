use Rattle.std.proofs.Common.{◌≡◌, ◌++◌, sym, ap, ◌∙◌}
use Rattle.sts_syntax.specs.TypedViews.{typed_program}
use Rattle.sts_lower.specs.Lowered.{lowered_routines, repeating_functions, repeated_in_program}
use Rattle.sts_lower.proofs.Made.{routines_made, routines_length}
use Rattle.sts_lower.proofs.lowering.all_functions.Goals as goal

pub returns : goal.returns
returns c =
    let P = typed_program c.args.typed.now in
    let same : c.as_slice-numbers.result.now ≡ repeated_in_program P =
    c.as_slice-numbers.ensures ∙ c.in_ok-note_functions.ensures ∙ ap (λ xs. xs ++ repeated_in_program P) c.new-repeated.ensures
    in
    c.in_ok-add_repeating.ensures
    ∙ ap (λ xs. xs ++ repeating_functions c.as_slice-numbers.result.now) (c.in_ok-all.ensures ∙ routines_made P _ _ (sym (routines_length c.args.typed.now.functions)) same)
    ∙ ap (λ xs. lowered_routines P 0 P.functions ++ repeating_functions xs) same
