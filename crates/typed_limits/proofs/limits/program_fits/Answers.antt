use Rattle.std.proofs.Common.{◌≡◌, ◌-◌, ◌^◌, min, ◌++◌, ℕ, List, length, drop, sym, ap, ◌∙◌, arith}
use Rattle.std.specs.Prelude.{nat_le}
use Rattle.std.specs.List.{list_all}
use Rattle.std.proofs.lemmas.Result.{IfOk-weaker}
use Rattle.sts_syntax.specs.declared.typed.TypedClass.{TypedClass}
use Rattle.sts_syntax.specs.TypedViews.{class_entries, typed_routines, typed_program}
use Rattle.sts_syntax.specs.Weights.{routines_weight}
use Rattle.sts_syntax.specs.BoardTable.{library_size}
use Rattle.sts_syntax.specs.Nodes.{all_expressions, texts_in, repeats_in, text_weight, text_bytes, used_bytes}
use Rattle.typed_limits.specs.Limits.{class_fits, routine_fits}
use Rattle.typed_limits.specs.declared.uses.Uses.{Uses}
use Rattle.typed_limits.specs.Uses.{noted}
use Rattle.typed_limits.proofs.Lengths.{types_length}
use Rattle.typed_limits.proofs.Noting.{noted_texts, noted_repeats}
use Rattle.typed_limits.proofs.Behind.{classes_length, no_first, no_second, no_fifth, last_alone, over, within, is_given, given}
use Rattle.typed_limits.proofs.limits.program_fits.Goals as goal

pub returns-then-len-gt256 : goal.returns-then-len-gt256
returns-then-len-gt256 c =
    let g = types_length c.args.typed.now.globals in
    no_first _ _ _ _ _ _ (over 256 (length (typed_program c.args.typed.now).globals) (omega (arith, g, c.len.ensures, c.if-len-gt256.true)))

pub returns-then-len-gt64 : goal.returns-then-len-gt64
returns-then-len-gt64 c =
    let g = types_length c.args.typed.now.globals in
    let k = classes_length c.args.typed.now.classes in
    no_second _ _ _ _ _ _ (within 256 (length (typed_program c.args.typed.now).globals) (omega (arith, g, c.len.ensures, c.if-len-gt256.false)))
    (over 64 (length (typed_program c.args.typed.now).classes) (omega (arith, k, c.len-2.ensures, c.if-len-gt64.true)))

pub returns-then-whole-gt3600 : goal.returns-then-whole-gt3600
returns-then-whole-gt3600 c =
    let P = typed_program c.args.typed.now in
    let texts = c.args.texts.now in
    let bodies = c.as_slice-2.result.now in
    let g = types_length c.args.typed.now.globals in
    let k = classes_length c.args.typed.now.classes in
    let rs = ap typed_routines c.as_slice-2.ensures in
    let fits = is_given c.in_ok-own.field-0 c.in-Some.own (list_all routine_fits (typed_routines bodies)) c.in-Some.is c.in_ok-own.ensures.fits in
    let own = given c.in_ok-own.field-0 c.in-Some.own (λ n. n ≡ min (routines_weight (drop library_size (typed_routines bodies))) (2 ^ 64 - 1)) c.in-Some.is c.in_ok-own.ensures.weight in
    let uses = given c.in_ok-own.field-0 c.in-Some.own (λ n. c.own_weight.new.uses ≡ noted _ (all_expressions (typed_routines bodies))) c.in-Some.is c.in_ok-own.ensures.uses in
    let repeats = ap (λ (u : Uses). min u.repeats (2 ^ 32 - 1)) uses ∙ noted_repeats _ (all_expressions (typed_routines bodies)) in
    let w = ap (λ xs. routines_weight (drop library_size xs)) rs in
    let r = ap (λ xs. repeats_in (all_expressions xs)) rs in
    no_fifth _ _ _ _ (nat_le (text_weight P) 3600) _
    (within 256 (length P.globals) (omega (arith, g, c.len.ensures, c.if-len-gt256.false)))
    (within 64 (length P.classes) (omega (arith, k, c.len-2.ensures, c.if-len-gt64.false)))
    (ap (λ (xs : List TypedClass). list_all class_fits (class_entries xs)) (sym c.as_slice.ensures) ∙ sym c.if-not-classes_fit.ensures)
    (ap (λ xs. list_all routine_fits xs) (sym rs) ∙ fits)
    (over 3600 (text_weight P) (omega (arith, k, w, r, own, repeats, c.len-3.ensures, c.saturating_add-whole.ensures, c.if-whole-gt3600.true)))

pub returns : goal.returns
returns c =
    let P = typed_program c.args.typed.now in
    let texts = c.args.texts.now in
    let bodies = c.as_slice-2.result.now in
    let g = types_length c.args.typed.now.globals in
    let k = classes_length c.args.typed.now.classes in
    let rs = ap typed_routines c.as_slice-2.ensures in
    let fits = is_given c.in_ok-own.field-0 c.in-Some.own (list_all routine_fits (typed_routines bodies)) c.in-Some.is c.in_ok-own.ensures.fits in
    let own = given c.in_ok-own.field-0 c.in-Some.own (λ n. n ≡ min (routines_weight (drop library_size (typed_routines bodies))) (2 ^ 64 - 1)) c.in-Some.is c.in_ok-own.ensures.weight in
    let uses = given c.in_ok-own.field-0 c.in-Some.own (λ n. c.own_weight.new.uses ≡ noted _ (all_expressions (typed_routines bodies))) c.in-Some.is c.in_ok-own.ensures.uses in
    let repeats = ap (λ (u : Uses). min u.repeats (2 ^ 32 - 1)) uses ∙ noted_repeats _ (all_expressions (typed_routines bodies)) in
    let named = c.as_slice-3.ensures ∙ ap (λ (u : Uses). u.texts) uses ∙ noted_texts _ (all_expressions (typed_routines bodies)) ∙ ap (λ (xs : List ℕ). xs ++ texts_in (all_expressions (typed_routines bodies))) c.new.ensures in
    let w = ap (λ xs. routines_weight (drop library_size xs)) rs in
    let r = ap (λ xs. repeats_in (all_expressions xs)) rs in
    let whole = last_alone _ _ _ _ (nat_le (text_weight P) 3600) (nat_le (text_bytes texts P) 16384)
    (within 256 (length P.globals) (omega (arith, g, c.len.ensures, c.if-len-gt256.false)))
    (within 64 (length P.classes) (omega (arith, k, c.len-2.ensures, c.if-len-gt64.false)))
    (ap (λ (xs : List TypedClass). list_all class_fits (class_entries xs)) (sym c.as_slice.ensures) ∙ sym c.if-not-classes_fit.ensures)
    (ap (λ xs. list_all routine_fits xs) (sym rs) ∙ fits)
    (within 3600 (text_weight P) (omega (arith, k, w, r, own, repeats, c.len-3.ensures, c.saturating_add-whole.ensures, c.if-whole-gt3600.false))) in
    IfOk-weaker c.texts_fit.result _ _
    (λ fit is. is ∙ ap (λ xs. nat_le (used_bytes 0 texts xs) 16384) named ∙ ap (λ xs. nat_le (used_bytes 0 texts (texts_in (all_expressions xs))) 16384) rs ∙ whole)
    c.texts_fit.ensures
