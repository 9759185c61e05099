use Rattle.std.proofs.Common.{◌≡◌, ℕ, ◌+◌, ◌++◌, ◌<◌, ◌≤◌, List, Option, length, slice_index, sym, ap, ◌∙◌, subst}
use Rattle.std.specs.List.{enumerate_from}
use Rattle.std.proofs.lemmas.Result.{err_from_is_err_and}
use Rattle.thumb_code.specs.Map.{flash_end}
use Rattle.flat_ir.specs.declared.ops.FlatClass.{FlatClass}
use Rattle.thumb_layout.specs.declared.laid.Laid.{Laid}
use Rattle.thumb_layout.specs.Layout.{up}
use Rattle.thumb_emit.specs.InFlash.{Addresses}
use Rattle.image_link.specs.Image.{head, class_table, text_bytes, is_named, IsLinked}
use Rattle.image_link.specs.inner.{padded, ArePlaced, filled}
use Rattle.image_link.proofs.Written.{with_parts, end_behind, code_lengths, class_lengths, text_lengths, code_end, routine_end, class_end, code_parts, class_parts, text_parts, written_bytes}
use Rattle.image_link.proofs.Whole.{past_code, past_routine, past_classes, are_placed, code_low, codes_short, texts_short, all_found, parts_put, named_put, written, image_long}
use Rattle.image_link.proofs.LinkedBytes.{linked, too_long}
use Rattle.image_link.proofs.linker.link.Goals as goal

pub returns-in_err-function_starts-clause-past_flash : goal.returns-in_err-function_starts-clause-past_flash
returns-in_err-function_starts-clause-past_flash c =
    let p = err_from_is_err_and c.from_residual-in_err-function_starts.result c.from_residual-in_err-function_starts.ensures.1 in
    let ls = c.args.laid.now in
    let code = c.args.code.now in
    let ts = c.args.tables.now.texts in
    let h1 = c.deref.ensures.value ∙ (c.in_ok-code_lengths.ensures ∙ ap code_lengths c.as_slice-laid.ensures) in
    rw (p.1) (λ w. too_long ls code ts c.requires.fixes (past_code ls code.classes ts
    (subst (λ (ns : List (Option ℕ)). flash_end < end_behind 14 ns) h1 (c.in_err-function_starts.ensures.past (sym (p.2) ∙ w)))))

pub returns-in_err-end-clause-past_flash : goal.returns-in_err-end-clause-past_flash
returns-in_err-end-clause-past_flash c =
    let p = err_from_is_err_and c.from_residual-in_err-end.result c.from_residual-in_err-end.ensures.1 in
    let ls = c.args.laid.now in
    let code = c.args.code.now in
    let ts = c.args.tables.now.texts in
    let h1 = c.deref.ensures.value ∙ (c.in_ok-code_lengths.ensures ∙ ap code_lengths c.as_slice-laid.ensures) in
    let e1 : c.place.new.end ≡ code_end ls = c.in_ok-function_starts.ensures.end ∙ ap (end_behind 14) h1 in
    rw (p.1) (λ _. too_long ls code ts c.requires.fixes (past_routine ls code.classes ts
    (subst (λ (q : ℕ). flash_end < q) (ap (λ (m : ℕ). up m + length c.routine.result.now) e1 ∙ ap (λ (m : ℕ). up (code_end ls) + m) c.routine.ensures.length) c.in_err-end.ensures.past)))

pub returns-in_err-class_starts-clause-past_flash : goal.returns-in_err-class_starts-clause-past_flash
returns-in_err-class_starts-clause-past_flash c =
    let p = err_from_is_err_and c.from_residual-in_err-class_starts.result c.from_residual-in_err-class_starts.ensures.1 in
    let ls = c.args.laid.now in
    let code = c.args.code.now in
    let ts = c.args.tables.now.texts in
    let h1 = c.deref.ensures.value ∙ (c.in_ok-code_lengths.ensures ∙ ap code_lengths c.as_slice-laid.ensures) in
    let h2 = c.deref-2.ensures.value ∙ (c.in_ok-class_lengths.ensures ∙ ap class_lengths c.as_slice-classes.ensures) in
    let e1 : c.place.new.end ≡ code_end ls = c.in_ok-function_starts.ensures.end ∙ ap (end_behind 14) h1 in
    let e2 : c.in_ok-end.end ≡ routine_end ls = c.in_ok-end.ensures.end ∙ (ap (λ (m : ℕ). up m + length c.routine.result.now) e1 ∙ ap (λ (m : ℕ). up (code_end ls) + m) c.routine.ensures.length) in
    rw (p.1) (λ w. too_long ls code ts c.requires.fixes (past_classes ls code.classes ts
    (subst (λ (q : ℕ). flash_end < q) (ap (λ (m : ℕ). end_behind m c.deref-2.result.now) e2 ∙ ap (end_behind (routine_end ls)) h2) (c.in_err-class_starts.ensures.past (sym (p.2) ∙ w)))))

pub returns-in_err-text_starts-clause-past_flash : goal.returns-in_err-text_starts-clause-past_flash
returns-in_err-text_starts-clause-past_flash c =
    let p = err_from_is_err_and c.from_residual-in_err-text_starts.result c.from_residual-in_err-text_starts.ensures.1 in
    let ls = c.args.laid.now in
    let code = c.args.code.now in
    let ts = c.args.tables.now.texts in
    let h1 = c.deref.ensures.value ∙ (c.in_ok-code_lengths.ensures ∙ ap code_lengths c.as_slice-laid.ensures) in
    let h2 = c.deref-2.ensures.value ∙ (c.in_ok-class_lengths.ensures ∙ ap class_lengths c.as_slice-classes.ensures) in
    let h3 = c.deref-4.ensures.value ∙ (c.in_ok-text_lengths.ensures ∙ (ap (λ (q : List Laid). text_lengths q 0 c.as_slice-texts.result.now) c.as_slice-laid.ensures ∙ ap (λ (q : List (List ℕ)). text_lengths ls 0 q) c.as_slice-texts.ensures)) in
    let e1 : c.place.new.end ≡ code_end ls = c.in_ok-function_starts.ensures.end ∙ ap (end_behind 14) h1 in
    let e2 : c.in_ok-end.end ≡ routine_end ls = c.in_ok-end.ensures.end ∙ (ap (λ (m : ℕ). up m + length c.routine.result.now) e1 ∙ ap (λ (m : ℕ). up (code_end ls) + m) c.routine.ensures.length) in
    let e3 : c.place-2.new.end ≡ class_end ls code.classes = c.in_ok-class_starts.ensures.end ∙ (ap (λ (m : ℕ). end_behind m c.deref-2.result.now) e2 ∙ ap (end_behind (routine_end ls)) h2) in
    rw (p.1) (λ w. too_long ls code ts c.requires.fixes
    (subst (λ (q : ℕ). flash_end < q) (ap (λ (m : ℕ). end_behind m c.deref-4.result.now) e3 ∙ ap (end_behind (class_end ls code.classes)) h3) (c.in_err-text_starts.ensures.past (sym (p.2) ∙ w))))

pub put_head-requires : goal.put_head-requires
put_head-requires c =
    let ls = c.as_slice-laid.result.now in
    let cs = c.as_slice-classes.result.now in
    let ts = c.as_slice-texts.result.now in
    let it = all_found ls cs ts c.in_ok-function_starts.function_starts c.in_ok-class_starts.class_starts c.in_ok-text_starts.text_starts c.up-routine_start.result c.place.new.end c.in_ok-end.end c.place-2.new.end c.place-3.new.end (length c.routine.result.now) c.deref.result.now c.deref-2.result.now c.deref-4.result.now
    c.in_ok-function_starts.ensures.starts c.in_ok-function_starts.ensures.end (c.deref.ensures.value ∙ c.in_ok-code_lengths.ensures) c.up-routine_start.ensures c.in_ok-end.ensures.end c.routine.ensures.length
    c.in_ok-class_starts.ensures.starts c.in_ok-class_starts.ensures.end (c.deref-2.ensures.value ∙ c.in_ok-class_lengths.ensures) c.in_ok-text_starts.ensures.starts c.in_ok-text_starts.ensures.end (c.deref-4.ensures.value ∙ c.in_ok-text_lengths.ensures) c.in_ok-text_starts.ensures.fits in
    subst (λ (a : Addresses). ArePlaced a) (sym it.is) (are_placed ls cs ts it.fits)

pub put_code-requires-clause-placed : goal.put_code-requires-clause-placed
put_code-requires-clause-placed c =
    let ls = c.as_slice-laid.result.now in
    let cs = c.as_slice-classes.result.now in
    let ts = c.as_slice-texts.result.now in
    let it = all_found ls cs ts c.in_ok-function_starts.function_starts c.in_ok-class_starts.class_starts c.in_ok-text_starts.text_starts c.up-routine_start.result c.place.new.end c.in_ok-end.end c.place-2.new.end c.place-3.new.end (length c.routine.result.now) c.deref.result.now c.deref-2.result.now c.deref-4.result.now
    c.in_ok-function_starts.ensures.starts c.in_ok-function_starts.ensures.end (c.deref.ensures.value ∙ c.in_ok-code_lengths.ensures) c.up-routine_start.ensures c.in_ok-end.ensures.end c.routine.ensures.length
    c.in_ok-class_starts.ensures.starts c.in_ok-class_starts.ensures.end (c.deref-2.ensures.value ∙ c.in_ok-class_lengths.ensures) c.in_ok-text_starts.ensures.starts c.in_ok-text_starts.ensures.end (c.deref-4.ensures.value ∙ c.in_ok-text_lengths.ensures) c.in_ok-text_starts.ensures.fits in
    subst (λ (a : Addresses). ArePlaced a) (sym it.is) (are_placed ls cs ts it.fits)

pub put_classes-requires : goal.put_classes-requires
put_classes-requires c =
    let ls = c.as_slice-laid.result.now in
    let cs = c.as_slice-classes.result.now in
    let ts = c.as_slice-texts.result.now in
    let it = all_found ls cs ts c.in_ok-function_starts.function_starts c.in_ok-class_starts.class_starts c.in_ok-text_starts.text_starts c.up-routine_start.result c.place.new.end c.in_ok-end.end c.place-2.new.end c.place-3.new.end (length c.routine.result.now) c.deref.result.now c.deref-2.result.now c.deref-4.result.now
    c.in_ok-function_starts.ensures.starts c.in_ok-function_starts.ensures.end (c.deref.ensures.value ∙ c.in_ok-code_lengths.ensures) c.up-routine_start.ensures c.in_ok-end.ensures.end c.routine.ensures.length
    c.in_ok-class_starts.ensures.starts c.in_ok-class_starts.ensures.end (c.deref-2.ensures.value ∙ c.in_ok-class_lengths.ensures) c.in_ok-text_starts.ensures.starts c.in_ok-text_starts.ensures.end (c.deref-4.ensures.value ∙ c.in_ok-text_lengths.ensures) c.in_ok-text_starts.ensures.fits in
    subst (λ (a : Addresses). ArePlaced a) (sym it.is) (are_placed ls cs ts it.fits)

pub put_code-requires-clause-short : goal.put_code-requires-clause-short
put_code-requires-clause-short c =
    let ls = c.as_slice-laid.result.now in
    let cs = c.as_slice-classes.result.now in
    let ts = c.as_slice-texts.result.now in
    let it = all_found ls cs ts c.in_ok-function_starts.function_starts c.in_ok-class_starts.class_starts c.in_ok-text_starts.text_starts c.up-routine_start.result c.place.new.end c.in_ok-end.end c.place-2.new.end c.place-3.new.end (length c.routine.result.now) c.deref.result.now c.deref-2.result.now c.deref-4.result.now
    c.in_ok-function_starts.ensures.starts c.in_ok-function_starts.ensures.end (c.deref.ensures.value ∙ c.in_ok-code_lengths.ensures) c.up-routine_start.ensures c.in_ok-end.ensures.end c.routine.ensures.length
    c.in_ok-class_starts.ensures.starts c.in_ok-class_starts.ensures.end (c.deref-2.ensures.value ∙ c.in_ok-class_lengths.ensures) c.in_ok-text_starts.ensures.starts c.in_ok-text_starts.ensures.end (c.deref-4.ensures.value ∙ c.in_ok-text_lengths.ensures) c.in_ok-text_starts.ensures.fits in
    codes_short 14 ls (code_low ls cs ts it.fits)

pub put_texts-requires-clause-short : goal.put_texts-requires-clause-short
put_texts-requires-clause-short c =
    let ls = c.as_slice-laid.result.now in
    let cs = c.as_slice-classes.result.now in
    let ts = c.as_slice-texts.result.now in
    let it = all_found ls cs ts c.in_ok-function_starts.function_starts c.in_ok-class_starts.class_starts c.in_ok-text_starts.text_starts c.up-routine_start.result c.place.new.end c.in_ok-end.end c.place-2.new.end c.place-3.new.end (length c.routine.result.now) c.deref.result.now c.deref-2.result.now c.deref-4.result.now
    c.in_ok-function_starts.ensures.starts c.in_ok-function_starts.ensures.end (c.deref.ensures.value ∙ c.in_ok-code_lengths.ensures) c.up-routine_start.ensures c.in_ok-end.ensures.end c.routine.ensures.length
    c.in_ok-class_starts.ensures.starts c.in_ok-class_starts.ensures.end (c.deref-2.ensures.value ∙ c.in_ok-class_lengths.ensures) c.in_ok-text_starts.ensures.starts c.in_ok-text_starts.ensures.end (c.deref-4.ensures.value ∙ c.in_ok-text_lengths.ensures) c.in_ok-text_starts.ensures.fits in
    texts_short ls cs ts it.fits

pub returns-clause-linked : goal.returns-clause-linked
returns-clause-linked c =
    let ls = c.args.laid.now in
    let code = c.args.code.now in
    let ts = c.args.tables.now.texts in
    let h1 = c.deref.ensures.value ∙ (c.in_ok-code_lengths.ensures ∙ ap code_lengths c.as_slice-laid.ensures) in
    let h2 = c.deref-2.ensures.value ∙ (c.in_ok-class_lengths.ensures ∙ ap class_lengths c.as_slice-classes.ensures) in
    let h3 = c.deref-4.ensures.value ∙ (c.in_ok-text_lengths.ensures ∙ (ap (λ (q : List Laid). text_lengths q 0 c.as_slice-texts.result.now) c.as_slice-laid.ensures ∙ ap (λ (q : List (List ℕ)). text_lengths ls 0 q) c.as_slice-texts.ensures)) in
    let it = all_found ls code.classes ts c.in_ok-function_starts.function_starts c.in_ok-class_starts.class_starts c.in_ok-text_starts.text_starts c.up-routine_start.result c.place.new.end c.in_ok-end.end c.place-2.new.end c.place-3.new.end (length c.routine.result.now) c.deref.result.now c.deref-2.result.now c.deref-4.result.now
    c.in_ok-function_starts.ensures.starts c.in_ok-function_starts.ensures.end h1 c.up-routine_start.ensures c.in_ok-end.ensures.end c.routine.ensures.length
    c.in_ok-class_starts.ensures.starts c.in_ok-class_starts.ensures.end h2 c.in_ok-text_starts.ensures.starts c.in_ok-text_starts.ensures.end h3 c.in_ok-text_starts.ensures.fits in
    let a : Addresses = record { function = slice_index c.in_ok-function_starts.function_starts; class = slice_index c.in_ok-class_starts.class_starts; text = slice_index c.in_ok-text_starts.text_starts; routine = c.up-routine_start.result } in
    let x = c.put_head.new.image.items in
    let y = c.put_code.new.image.items in
    let z = c.put_part.new.image.items in
    let v = c.put_classes.new.image.items in
    let first : x ≡ head a code.main = c.in_ok-put_head.ensures ∙ ap (λ (q : List ℕ). q ++ head a code.main) c.new-image.ensures.items in
    let second : y ≡ with_parts x (code_parts a 0 ls) = c.in_ok-put_code.ensures ∙ (parts_put (λ (p : ℕ × Laid). filled a (a.function p.0) p.1.fixes p.1.bytes) x (enumerate_from 0 c.as_slice-laid.result.now) ∙ ap (λ (q : List Laid). with_parts x (code_parts a 0 q)) c.as_slice-laid.ensures) in
    let fourth : v ≡ with_parts z (class_parts a code.classes) = c.in_ok-put_classes.ensures ∙ (parts_put (λ (q : FlatClass). class_table a q) z c.as_slice-classes.result.now ∙ ap (λ (q : List FlatClass). with_parts z (class_parts a q)) c.as_slice-classes.ensures) in
    let fifth : c.put_texts.new.image.items ≡ with_parts v (text_parts ls 0 ts) =
    c.in_ok-put_texts.ensures ∙ (named_put (λ (p : ℕ × List ℕ). is_named c.as_slice-laid.result.now p.0) (λ (p : ℕ × List ℕ). text_bytes p.1) v (enumerate_from 0 c.as_slice-texts.result.now)
    ∙ (ap (λ (q : List Laid). with_parts v (text_parts q 0 c.as_slice-texts.result.now)) c.as_slice-laid.ensures ∙ ap (λ (q : List (List ℕ)). with_parts v (text_parts ls 0 q)) c.as_slice-texts.ensures)) in
    let is : c.put_texts.new.image.items ≡ written_bytes ls code ts = written ls code ts a x y z v c.put_texts.new.image.items it.is first second (c.in_ok-put_part.ensures ∙ ap (λ (q : List ℕ). padded y ++ q) c.routine-2.ensures.bytes) fourth fifth in
    subst (λ (bytes : List ℕ). IsLinked ls code ts bytes) (sym is) (linked ls code ts c.requires.fixes)

pub returns-clause-fits : goal.returns-clause-fits
returns-clause-fits c =
    let ls = c.args.laid.now in
    let code = c.args.code.now in
    let ts = c.args.tables.now.texts in
    let h1 = c.deref.ensures.value ∙ (c.in_ok-code_lengths.ensures ∙ ap code_lengths c.as_slice-laid.ensures) in
    let h2 = c.deref-2.ensures.value ∙ (c.in_ok-class_lengths.ensures ∙ ap class_lengths c.as_slice-classes.ensures) in
    let h3 = c.deref-4.ensures.value ∙ (c.in_ok-text_lengths.ensures ∙ (ap (λ (q : List Laid). text_lengths q 0 c.as_slice-texts.result.now) c.as_slice-laid.ensures ∙ ap (λ (q : List (List ℕ)). text_lengths ls 0 q) c.as_slice-texts.ensures)) in
    let it = all_found ls code.classes ts c.in_ok-function_starts.function_starts c.in_ok-class_starts.class_starts c.in_ok-text_starts.text_starts c.up-routine_start.result c.place.new.end c.in_ok-end.end c.place-2.new.end c.place-3.new.end (length c.routine.result.now) c.deref.result.now c.deref-2.result.now c.deref-4.result.now
    c.in_ok-function_starts.ensures.starts c.in_ok-function_starts.ensures.end h1 c.up-routine_start.ensures c.in_ok-end.ensures.end c.routine.ensures.length
    c.in_ok-class_starts.ensures.starts c.in_ok-class_starts.ensures.end h2 c.in_ok-text_starts.ensures.starts c.in_ok-text_starts.ensures.end h3 c.in_ok-text_starts.ensures.fits in
    let a : Addresses = record { function = slice_index c.in_ok-function_starts.function_starts; class = slice_index c.in_ok-class_starts.class_starts; text = slice_index c.in_ok-text_starts.text_starts; routine = c.up-routine_start.result } in
    let x = c.put_head.new.image.items in
    let y = c.put_code.new.image.items in
    let z = c.put_part.new.image.items in
    let v = c.put_classes.new.image.items in
    let first : x ≡ head a code.main = c.in_ok-put_head.ensures ∙ ap (λ (q : List ℕ). q ++ head a code.main) c.new-image.ensures.items in
    let second : y ≡ with_parts x (code_parts a 0 ls) = c.in_ok-put_code.ensures ∙ (parts_put (λ (p : ℕ × Laid). filled a (a.function p.0) p.1.fixes p.1.bytes) x (enumerate_from 0 c.as_slice-laid.result.now) ∙ ap (λ (q : List Laid). with_parts x (code_parts a 0 q)) c.as_slice-laid.ensures) in
    let fourth : v ≡ with_parts z (class_parts a code.classes) = c.in_ok-put_classes.ensures ∙ (parts_put (λ (q : FlatClass). class_table a q) z c.as_slice-classes.result.now ∙ ap (λ (q : List FlatClass). with_parts z (class_parts a q)) c.as_slice-classes.ensures) in
    let fifth : c.put_texts.new.image.items ≡ with_parts v (text_parts ls 0 ts) =
    c.in_ok-put_texts.ensures ∙ (named_put (λ (p : ℕ × List ℕ). is_named c.as_slice-laid.result.now p.0) (λ (p : ℕ × List ℕ). text_bytes p.1) v (enumerate_from 0 c.as_slice-texts.result.now)
    ∙ (ap (λ (q : List Laid). with_parts v (text_parts q 0 c.as_slice-texts.result.now)) c.as_slice-laid.ensures ∙ ap (λ (q : List (List ℕ)). with_parts v (text_parts ls 0 q)) c.as_slice-texts.ensures)) in
    let is : c.put_texts.new.image.items ≡ written_bytes ls code ts = written ls code ts a x y z v c.put_texts.new.image.items it.is first second (c.in_ok-put_part.ensures ∙ ap (λ (q : List ℕ). padded y ++ q) c.routine-2.ensures.bytes) fourth fifth in
    let fits : length (written_bytes ls code ts) ≤ flash_end = subst (λ (n : ℕ). n ≤ flash_end) (sym (image_long ls code ts)) it.fits in
    subst (λ (bytes : List ℕ). length bytes ≤ flash_end) (sym is) fits
