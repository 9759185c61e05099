-- Where what is written has each thing: its head, functions, the routine, classes and texts.
use Rattle.std.proofs.Common.{◌≡◌, ℕ, zero, suc, ◌+◌, ◌<◌, List, [], ◌∷◌, ◌++◌, length, refl, sym, ap, ◌∙◌, arith, Some, None, true, cond, get_or, slice_index, slice_get}
use Rattle.std.specs.Option.{option_map}
use Rattle.std.proofs.lemmas.Option.{slice_get-map}
use Rattle.std.proofs.lemmas.List.{length-append}
use Rattle.flat_ir.specs.declared.ops.FlatClass.{FlatClass}
use Rattle.flat_ir.specs.declared.ops.FlatCode.{FlatCode}
use Rattle.thumb_layout.specs.declared.laid.Laid.{Laid}
use Rattle.thumb_layout.specs.Layout.{up}
use Rattle.thumb_divide.specs.Routine.{routine_bytes, routine_length}
use Rattle.thumb_emit.specs.InFlash.{Addresses}
use Rattle.image_link.specs.inner.{padded, starts, filled}
use Rattle.image_link.proofs.Written.{with_parts, end_behind, code_end, routine_end, class_end, addresses, code_parts, class_parts, text_parts, parts, written_bytes}
use Rattle.image_link.specs.Image.{head_length, head, is_named, class_table, text_bytes}
use Rattle.image_link.proofs.Standing.{lengths, length_padded, length_parts, with_append, before_parts, part_stands, part_stands_before}
use Rattle.image_link.proofs.Whole.{filled_long, code_long, classes_long, texts_long}

-- a part by its number
code_part : (a : Addresses) (n : ℕ) (ls : List Laid) (f : ℕ) (l : Laid) → slice_get ls f ≡ Some l → slice_get (code_parts a n ls) f ≡ Some (Some (filled a (a.function (n + f)) l.fixes l.bytes))
code_part a n [] f l e = let bad : ⊥ = cc in absurd bad
code_part a n (m ∷ ls) zero l e =
    let same : m ≡ l = cc in
    let z : n ≡ n + 0 = omega arith in
    ap (λ k. Some (Some (filled a (a.function k) m.fixes m.bytes))) z ∙ ap (λ (q : Laid). Some (Some (filled a (a.function (n + 0)) q.fixes q.bytes))) same
code_part a n (m ∷ ls) (suc f) l e =
    let z : n + 1 + f ≡ n + suc f = omega arith in code_part a (n + 1) ls f l e ∙ ap (λ k. Some (Some (filled a (a.function k) l.fixes l.bytes))) z

text_part : (ls : List Laid) (n : ℕ) (ts : List (List ℕ)) (i : ℕ) (t : List ℕ) → slice_get ts i ≡ Some t → is_named ls (n + i) ≡ true → slice_get (text_parts ls n ts) i ≡ Some (Some (text_bytes t))
text_part ls n [] i t e h = let bad : ⊥ = cc in absurd bad
text_part ls n (s ∷ ts) zero t e h =
    let same : s ≡ t = cc in
    let z : n ≡ n + 0 = omega arith in
    let y : is_named ls n ≡ true = ap (is_named ls) z ∙ h in
    ap (λ b. Some (cond b (Some (text_bytes s)) None)) y ∙ ap (λ q. Some (Some (text_bytes q))) same
text_part ls n (s ∷ ts) (suc i) t e h = let z : n + 1 + i ≡ n + suc i = omega arith in text_part ls (n + 1) ts i t e (ap (is_named ls) z ∙ h)

-- what is written up to the ends of sections
abbrev with_code : Addresses → ℕ → List Laid → List ℕ
with_code a main ls = with_parts (head a main) (code_parts a 0 ls)

abbrev with_routine : Addresses → ℕ → List Laid → List ℕ
with_routine a main ls = padded (with_code a main ls) ++ routine_bytes

abbrev with_classes : Addresses → ℕ → List Laid → List FlatClass → List ℕ
with_classes a main ls cs = with_parts (with_routine a main ls) (class_parts a cs)

code_there : (a : Addresses) (main : ℕ) (ls : List Laid) → length (with_code a main ls) ≡ code_end ls
code_there a main ls = length_parts (head a main) (code_parts a 0 ls) ∙ ap (end_behind head_length) (code_long a 0 ls)

routine_there : (a : Addresses) (main : ℕ) (ls : List Laid) → length (with_routine a main ls) ≡ routine_end ls
routine_there a main ls =
    let p = length_padded (with_code a main ls) in
    length-append (padded (with_code a main ls)) routine_bytes ∙ (ap (λ n. n + routine_length) p ∙ ap (λ n. up n + routine_length) (code_there a main ls))

classes_there : (a : Addresses) (main : ℕ) (ls : List Laid) (cs : List FlatClass) → length (with_classes a main ls cs) ≡ class_end ls cs
classes_there a main ls cs =
    length_parts (with_routine a main ls) (class_parts a cs) ∙ (ap (λ n. end_behind n (lengths (class_parts a cs))) (routine_there a main ls) ∙ ap (end_behind (routine_end ls)) (classes_long a cs))

behind_code : (a : Addresses) (main : ℕ) (ls : List Laid) (cs : List FlatClass) (ts : List (List ℕ))
    → with_parts (head a main) (parts a ls cs ts) ≡ with_parts (with_code a main ls) (Some routine_bytes ∷ (class_parts a cs ++ text_parts ls 0 ts))
behind_code a main ls cs ts = with_append (head a main) (code_parts a 0 ls) (Some routine_bytes ∷ (class_parts a cs ++ text_parts ls 0 ts))

behind_classes : (a : Addresses) (main : ℕ) (ls : List Laid) (cs : List FlatClass) (ts : List (List ℕ)) → with_parts (head a main) (parts a ls cs ts) ≡ with_parts (with_classes a main ls cs) (text_parts ls 0 ts)
behind_classes a main ls cs ts = behind_code a main ls cs ts ∙ with_append (with_routine a main ls) (class_parts a cs) (text_parts ls 0 ts)

-- the bytes of each
pub head_stands : (ls : List Laid) (C : FlatCode) (ts : List (List ℕ)) (k : ℕ) → k < head_length → get_or (written_bytes ls C ts) k 255 ≡ get_or (head (addresses ls C.classes ts) C.main) k 255
unfolding written_bytes
head_stands ls C ts k l = before_parts (head (addresses ls C.classes ts) C.main) (parts (addresses ls C.classes ts) ls C.classes ts) k 255 l

pub code_stands : (ls : List Laid) (C : FlatCode) (ts : List (List ℕ)) (f : ℕ) (l : Laid) → slice_get ls f ≡ Some l → (k : ℕ) → k < length l.bytes
    → let a = addresses ls C.classes ts in get_or (written_bytes ls C ts) (a.function f + k) 255 ≡ get_or (filled a (a.function f) l.fixes l.bytes) k 255
unfolding written_bytes addresses
code_stands ls C ts f l e k h =
    let a = addresses ls C.classes ts in
    let z : 0 + f ≡ f = omega arith in
    let p = filled a (a.function f) l.fixes l.bytes in
    let part : slice_get (code_parts a 0 ls) f ≡ Some (Some p) = code_part a 0 ls f l e ∙ ap (λ n. Some (Some (filled a (a.function n) l.fixes l.bytes))) z in
    let long : length p ≡ length l.bytes = filled_long a (a.function f) l.fixes l.bytes in
    let at : slice_index (starts head_length (lengths (code_parts a 0 ls))) f ≡ a.function f = ap (λ ns. slice_index (starts head_length ns) f) (code_long a 0 ls) in
    ap (λ n. get_or (written_bytes ls C ts) (n + k) 255) (sym at)
    ∙ part_stands_before (head a C.main) (code_parts a 0 ls) (Some routine_bytes ∷ (class_parts a C.classes ++ text_parts ls 0 ts)) f p 255 part k (omega arith)

pub routine_stands : (ls : List Laid) (C : FlatCode) (ts : List (List ℕ)) (k : ℕ) → k < routine_length → let a = addresses ls C.classes ts in get_or (written_bytes ls C ts) (a.routine + k) 255 ≡ get_or routine_bytes k 255
unfolding written_bytes addresses
routine_stands ls C ts k h =
    let a = addresses ls C.classes ts in
    let x = with_code a C.main ls in
    ap (λ q. get_or q (a.routine + k) 255) (behind_code a C.main ls C.classes ts)
    ∙ (ap (λ n. get_or (with_parts x (Some routine_bytes ∷ (class_parts a C.classes ++ text_parts ls 0 ts))) (up n + k) 255) (sym (code_there a C.main ls))
    ∙ part_stands_before x (Some routine_bytes ∷ []) (class_parts a C.classes ++ text_parts ls 0 ts) 0 routine_bytes 255 refl k h)

pub class_stands : (ls : List Laid) (C : FlatCode) (ts : List (List ℕ)) (c : ℕ) (class : FlatClass) → slice_get C.classes c ≡ Some class → (k : ℕ)
    → let a = addresses ls C.classes ts in k < length (class_table a class) → get_or (written_bytes ls C ts) (a.class c + k) 255 ≡ get_or (class_table a class) k 255
unfolding written_bytes addresses
class_stands ls C ts c class e k h =
    let a = addresses ls C.classes ts in
    let x = with_routine a C.main ls in
    let part : slice_get (class_parts a C.classes) c ≡ Some (Some (class_table a class)) = slice_get-map (λ (q : FlatClass). Some (class_table a q)) C.classes c ∙ ap (option_map (λ (q : FlatClass). Some (class_table a q))) e in
    let at : slice_index (starts (length x) (lengths (class_parts a C.classes))) c ≡ a.class c = ap (λ n. slice_index (starts n (lengths (class_parts a C.classes))) c) (routine_there a C.main ls) ∙ ap (λ ns. slice_index (starts (routine_end ls) ns) c) (classes_long a C.classes) in
    ap (λ q. get_or q (a.class c + k) 255) (behind_code a C.main ls C.classes ts)
    ∙ (ap (λ n. get_or (with_parts x (class_parts a C.classes ++ text_parts ls 0 ts)) (n + k) 255) (sym at)
    ∙ part_stands_before x (class_parts a C.classes) (text_parts ls 0 ts) c (class_table a class) 255 part k h)

pub text_stands : (ls : List Laid) (C : FlatCode) (ts : List (List ℕ)) (i : ℕ) (t : List ℕ) → slice_get ts i ≡ Some t → is_named ls i ≡ true → (k : ℕ) → k < length (text_bytes t)
    → let a = addresses ls C.classes ts in get_or (written_bytes ls C ts) (a.text i + k) 255 ≡ get_or (text_bytes t) k 255
unfolding written_bytes addresses
text_stands ls C ts i t e named k h =
    let a = addresses ls C.classes ts in
    let x = with_classes a C.main ls C.classes in
    let z : i ≡ 0 + i = omega arith in
    let part = text_part ls 0 ts i t e (ap (is_named ls) (sym z) ∙ named) in
    let at : slice_index (starts (length x) (lengths (text_parts ls 0 ts))) i ≡ a.text i = ap (λ n. slice_index (starts n (lengths (text_parts ls 0 ts))) i) (classes_there a C.main ls C.classes) ∙ ap (λ ns. slice_index (starts (class_end ls C.classes) ns) i) (texts_long ls 0 ts) in
    ap (λ q. get_or q (a.text i + k) 255) (behind_classes a C.main ls C.classes ts)
    ∙ (ap (λ n. get_or (with_parts x (text_parts ls 0 ts)) (n + k) 255) (sym at) ∙ part_stands x (text_parts ls 0 ts) i (text_bytes t) 255 part k h)
