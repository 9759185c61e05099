-- The image as a whole: how long it is, and where its parts stand.
use Rattle.std.proofs.Common.{◌≡◌, ℕ, zero, suc, ◌+◌, ◌*◌, ◌<◌, ◌≤◌, List, [], ◌∷◌, ◌++◌, length, refl, sym, ap, ◌∙◌, subst, arith, Option, Some, None, Bool, true, false, cond}
use Rattle.std.specs.Prelude.{map, slice_index, slice_index_or}
use Rattle.std.specs.Option.{option_map}
use Rattle.std.specs.List.{AllByRecursion, filter, fold}
use Rattle.std.proofs.lemmas.List.{map-append}
use Rattle.std.proofs.lemmas.List.Edits.{sets}
use Rattle.std.proofs.Math.Seq.{length-sets}
use Rattle.thumb_code.specs.Map.{flash_end}
use Rattle.flat_ir.specs.declared.ops.FlatClass.{FlatClass}
use Rattle.flat_ir.specs.declared.ops.FlatCode.{FlatCode}
use Rattle.thumb_layout.specs.declared.laid.Fix.{Fix}
use Rattle.thumb_layout.specs.declared.laid.Laid.{Laid}
use Rattle.thumb_layout.specs.Layout.{up}
use Rattle.thumb_divide.specs.Routine.{routine_bytes, routine_length}
use Rattle.thumb_emit.specs.InFlash.{Addresses}
use Rattle.image_link.specs.inner.{padded, end_with, starts, filled, ArePlaced}
use Rattle.image_link.proofs.Written.{with_parts, end_behind, code_lengths, class_lengths, text_lengths, code_end, routine_end, class_end, image_end, addresses, code_parts, class_parts, text_parts, parts, written_bytes}
use Rattle.image_link.specs.Image.{head_length, head, is_named, opened, slot_words, class_table, text_bytes}
use Rattle.image_link.proofs.Placing.{behind_grows}
use Rattle.image_link.proofs.Standing.{lengths, length_parts, with_append, end_append, start_place}

-- the ends, one behind another
pub routine_grows : (ls : List Laid) → code_end ls ≤ routine_end ls
routine_grows ls = omega arith

pub classes_grow : (ls : List Laid) (cs : List FlatClass) → routine_end ls ≤ class_end ls cs
classes_grow ls cs = behind_grows (routine_end ls) (class_lengths cs)

pub texts_grow : (ls : List Laid) (cs : List FlatClass) (ts : List (List ℕ)) → class_end ls cs ≤ image_end ls cs ts
texts_grow ls cs ts = behind_grows (class_end ls cs) (text_lengths ls 0 ts)

pub past_classes : (ls : List Laid) (cs : List FlatClass) (ts : List (List ℕ)) → flash_end < class_end ls cs → flash_end < image_end ls cs ts
past_classes ls cs ts l = let a = texts_grow ls cs ts in omega arith

pub past_routine : (ls : List Laid) (cs : List FlatClass) (ts : List (List ℕ)) → flash_end < routine_end ls → flash_end < image_end ls cs ts
past_routine ls cs ts l = let a = classes_grow ls cs in past_classes ls cs ts (omega arith)

pub past_code : (ls : List Laid) (cs : List FlatClass) (ts : List (List ℕ)) → flash_end < code_end ls → flash_end < image_end ls cs ts
past_code ls cs ts l = let a = routine_grows ls in past_routine ls cs ts (omega arith)

-- where parts stand
pub are_placed : (ls : List Laid) (cs : List FlatClass) (ts : List (List ℕ)) → image_end ls cs ts ≤ flash_end → ArePlaced (addresses ls cs ts)
unfolding addresses
are_placed ls cs ts l =
    let a = routine_grows ls in
    let b = classes_grow ls cs in
    let c = texts_grow ls cs ts in
    record {
      functions = λ i. start_place head_length (code_lengths ls) i (omega arith);
      routine = (omega arith, omega arith);
      classes = λ i. start_place (routine_end ls) (class_lengths cs) i (omega arith);
      texts = λ i. start_place (class_end ls cs) (text_lengths ls 0 ts) i l;
    }

-- the lengths of parts
pub filled_long : (a : Addresses) (at : ℕ) (fs : List Fix) (bytes : List ℕ) → length (filled a at fs bytes) ≡ length bytes
filled_long a at [] bytes = refl
filled_long a at (f ∷ fs) bytes = filled_long a at fs (sets bytes f.at (opened a (at + f.at) f.call f.what)) ∙ length-sets bytes f.at (opened a (at + f.at) f.call f.what)

pub code_long : (a : Addresses) (i : ℕ) (ls : List Laid) → lengths (code_parts a i ls) ≡ code_lengths ls
code_long a i [] = refl
code_long a i (l ∷ ls) =
    ap (λ n. Some n ∷ lengths (code_parts a (i + 1) ls)) (filled_long a (a.function i) l.fixes l.bytes) ∙ ap (λ q. Some (length l.bytes) ∷ q) (code_long a (i + 1) ls)

pub slots_long : (a : Addresses) (fs : List ℕ) → length (slot_words a fs) ≡ 4 * length fs
slots_long a [] = refl
slots_long a (f ∷ fs) = let h = slots_long a fs in omega arith

pub classes_long : (a : Addresses) (cs : List FlatClass) → lengths (class_parts a cs) ≡ class_lengths cs
classes_long a [] = refl
classes_long a (c ∷ cs) =
    let h : length (class_table a c) ≡ 4 + 4 * length c.slots = (let s = slots_long a c.slots in omega arith) in
    ap (λ n. Some n ∷ lengths (class_parts a cs)) h ∙ ap (λ q. Some (4 + 4 * length c.slots) ∷ q) (classes_long a cs)

text_long : (b : Bool) (t : List ℕ) → option_map length (cond b (Some (text_bytes t)) None) ≡ cond b (Some (4 + length t)) None
text_long true t = let h : length (text_bytes t) ≡ 4 + length t = omega arith in ap (λ n. Some n) h
text_long false t = refl

pub texts_long : (ls : List Laid) (i : ℕ) (ts : List (List ℕ)) → lengths (text_parts ls i ts) ≡ text_lengths ls i ts
texts_long ls i [] = refl
texts_long ls i (t ∷ ts) = ap (λ n. n ∷ lengths (text_parts ls (i + 1) ts)) (text_long (is_named ls i) t) ∙ ap (λ q. cond (is_named ls i) (Some (4 + length t)) None ∷ q) (texts_long ls (i + 1) ts)

abbrev pub all_lengths : List Laid → List FlatClass → List (List ℕ) → List (Option ℕ)
all_lengths ls cs ts = code_lengths ls ++ (Some routine_length ∷ (class_lengths cs ++ text_lengths ls 0 ts))

pub parts_long : (a : Addresses) (ls : List Laid) (cs : List FlatClass) (ts : List (List ℕ)) → lengths (parts a ls cs ts) ≡ all_lengths ls cs ts
parts_long a ls cs ts =
    map-append (option_map length) (code_parts a 0 ls) (Some routine_bytes ∷ (class_parts a cs ++ text_parts ls 0 ts))
    ∙ (ap (λ q. q ++ (Some routine_length ∷ lengths (class_parts a cs ++ text_parts ls 0 ts))) (code_long a 0 ls)
    ∙ (ap (λ q. code_lengths ls ++ (Some routine_length ∷ q)) (map-append (option_map length) (class_parts a cs) (text_parts ls 0 ts))
    ∙ (ap (λ q. code_lengths ls ++ (Some routine_length ∷ (q ++ lengths (text_parts ls 0 ts)))) (classes_long a cs)
    ∙ ap (λ q. code_lengths ls ++ (Some routine_length ∷ (class_lengths cs ++ q))) (texts_long ls 0 ts))))

pub end_is : (ls : List Laid) (cs : List FlatClass) (ts : List (List ℕ)) → end_behind head_length (all_lengths ls cs ts) ≡ image_end ls cs ts
end_is ls cs ts = end_append head_length (code_lengths ls) (Some routine_length ∷ (class_lengths cs ++ text_lengths ls 0 ts)) ∙ end_append (routine_end ls) (class_lengths cs) (text_lengths ls 0 ts)

-- how long the image is
pub image_long : (ls : List Laid) (C : FlatCode) (ts : List (List ℕ)) → length (written_bytes ls C ts) ≡ image_end ls C.classes ts
unfolding written_bytes
image_long ls C ts =
    let a = addresses ls C.classes ts in
    length_parts (head a C.main) (parts a ls C.classes ts) ∙ (ap (end_behind head_length) (parts_long a ls C.classes ts) ∙ end_is ls C.classes ts)

-- no part is longer than flash
pub codes_short : (from : ℕ) (ls : List Laid) → end_behind from (code_lengths ls) ≤ flash_end → AllByRecursion (λ l. length l.bytes ≤ flash_end) ls
codes_short from [] h = tt
codes_short from (l ∷ ls) h = let g = behind_grows (up from + length l.bytes) (code_lengths ls) in (omega arith, codes_short (up from + length l.bytes) ls h)

texts_short_from : (ls : List Laid) (from n : ℕ) (ts : List (List ℕ)) → end_behind from (text_lengths ls n ts) ≤ flash_end → (i : ℕ) → i < length ts → is_named ls (n + i) ≡ true → length (slice_index_or ts i []) ≤ flash_end
texts_short_from ls from n [] h i l e = absurd (omega arith)
texts_short_from ls from n (t ∷ ts) h zero l e =
    let z : n + 0 ≡ n = omega arith in
    let y : is_named ls n ≡ true = ap (is_named ls) (sym z) ∙ e in
    let w : end_behind (end_with from (cond (is_named ls n) (Some (4 + length t)) None)) (text_lengths ls (n + 1) ts) ≤ flash_end = h in
    let v = rw y at w in
    let g = behind_grows (up from + (4 + length t)) (text_lengths ls (n + 1) ts) in omega arith
texts_short_from ls from n (t ∷ ts) h (suc i) l e =
    let z : n + suc i ≡ n + 1 + i = omega arith in texts_short_from ls (end_with from (cond (is_named ls n) (Some (4 + length t)) None)) (n + 1) ts h i (omega arith) (ap (is_named ls) (sym z) ∙ e)

pub texts_short : (ls : List Laid) (cs : List FlatClass) (ts : List (List ℕ)) → image_end ls cs ts ≤ flash_end → (i : ℕ) → i < length ts → is_named ls i ≡ true → length (slice_index_or ts i []) ≤ flash_end
texts_short ls cs ts h i l e = let z : 0 + i ≡ i = omega arith in texts_short_from ls (class_end ls cs) 0 ts h i l (ap (is_named ls) z ∙ e)

-- parts are put one behind another
pub parts_put : {X : Type 0} (part : X → List ℕ) (bytes : List ℕ) (xs : List X) → fold (λ b x. padded b ++ part x) bytes xs ≡ with_parts bytes (map (λ x. Some (part x)) xs)
parts_put part bytes [] = refl
parts_put part bytes (x ∷ xs) = parts_put part (padded bytes ++ part x) xs

named_step : {X : Type 0} (part : X → List ℕ) (bytes : List ℕ) (x : X) (xs : List X) (ps : List (Option (List ℕ))) (b : Bool) → ((start : List ℕ) → fold (λ c y. padded c ++ part y) start xs ≡ with_parts start ps)
    → fold (λ c y. padded c ++ part y) bytes (cond b (x ∷ xs) xs) ≡ with_parts bytes (cond b (Some (part x)) None ∷ ps)
named_step part bytes x xs ps true h = h (padded bytes ++ part x)
named_step part bytes x xs ps false h = h bytes

pub named_put : {X : Type 0} (test : X → Bool) (part : X → List ℕ) (bytes : List ℕ) (xs : List X) → fold (λ c y. padded c ++ part y) bytes (filter test xs) ≡ with_parts bytes (map (λ x. cond (test x) (Some (part x)) None) xs)
named_put test part bytes [] = refl
named_put test part bytes (x ∷ xs) = named_step part bytes x (filter test xs) (map (λ y. cond (test y) (Some (part y)) None) xs) (test x) (λ start. named_put test part start xs)

-- what is found part by part are the addresses
pub found : (ls : List Laid) (cs : List FlatClass) (ts : List (List ℕ)) (fs ks xs : List ℕ) (r : ℕ) → fs ≡ starts head_length (code_lengths ls) → r ≡ up (code_end ls) → ks ≡ starts (routine_end ls) (class_lengths cs)
    → xs ≡ starts (class_end ls cs) (text_lengths ls 0 ts) → (let a : Addresses = record { function = slice_index fs; class = slice_index ks; text = slice_index xs; routine = r } in a ≡ addresses ls cs ts)
unfolding addresses
found ls cs ts fs ks xs r p q s t = rw (p, q, s, t) refl

pub record IsFound (ls : List Laid) (cs : List FlatClass) (ts : List (List ℕ)) (a : Addresses) : Type 0 where
  pub is : a ≡ addresses ls cs ts
  pub fits : image_end ls cs ts ≤ flash_end

pub all_found : (ls : List Laid) (cs : List FlatClass) (ts : List (List ℕ)) (fs ks xs : List ℕ) (r e1 e2 e3 e4 n : ℕ) (l1 l2 l3 : List (Option ℕ))
    → fs ≡ starts 14 l1 → e1 ≡ end_behind 14 l1 → l1 ≡ code_lengths ls → r ≡ up e1 → e2 ≡ up e1 + n → n ≡ routine_length
    → ks ≡ starts e2 l2 → e3 ≡ end_behind e2 l2 → l2 ≡ class_lengths cs → xs ≡ starts e3 l3 → e4 ≡ end_behind e3 l3 → l3 ≡ text_lengths ls 0 ts → e4 ≤ flash_end
    → IsFound ls cs ts (record { function = slice_index fs; class = slice_index ks; text = slice_index xs; routine = r })
all_found ls cs ts fs ks xs r e1 e2 e3 e4 n l1 l2 l3 f1 g1 h1 p g2 m f2 g3 h2 f3 g4 h3 low =
    let a1 : e1 ≡ code_end ls = g1 ∙ ap (end_behind 14) h1 in
    let a2 : e2 ≡ routine_end ls = g2 ∙ (ap (λ (q : ℕ). up q + n) a1 ∙ ap (λ (q : ℕ). up (code_end ls) + q) m) in
    let a3 : e3 ≡ class_end ls cs = g3 ∙ (ap (λ (q : ℕ). end_behind q l2) a2 ∙ ap (end_behind (routine_end ls)) h2) in
    let a4 : e4 ≡ image_end ls cs ts = g4 ∙ (ap (λ (q : ℕ). end_behind q l3) a3 ∙ ap (end_behind (class_end ls cs)) h3) in
    record {
      is = found ls cs ts fs ks xs r (f1 ∙ ap (starts 14) h1) (p ∙ ap (λ (q : ℕ). up q) a1) (f2 ∙ (ap (λ (q : ℕ). starts q l2) a2 ∙ ap (starts (routine_end ls)) h2)) (f3 ∙ (ap (λ (q : ℕ). starts q l3) a3 ∙ ap (starts (class_end ls cs)) h3));
      fits = subst (λ (q : ℕ). q ≤ flash_end) a4 low;
    }

-- what is written part by part is the image
pub written : (ls : List Laid) (C : FlatCode) (ts : List (List ℕ)) (a : Addresses) (x y z v w : List ℕ) → a ≡ addresses ls C.classes ts → x ≡ head a C.main → y ≡ with_parts x (code_parts a 0 ls) → z ≡ padded y ++ routine_bytes
    → v ≡ with_parts z (class_parts a C.classes) → w ≡ with_parts v (text_parts ls 0 ts) → w ≡ written_bytes ls C ts
unfolding written_bytes
written ls C ts a x y z v w e p q r s t =
    let cs = C.classes in
    let later = class_parts a cs ++ text_parts ls 0 ts in
    let whole : w ≡ with_parts (head a C.main) (parts a ls cs ts) =
    t ∙ (ap (λ n. with_parts n (text_parts ls 0 ts)) (s ∙ ap (λ n. with_parts n (class_parts a cs)) (r ∙ ap (λ n. padded n ++ routine_bytes) (q ∙ ap (λ n. with_parts n (code_parts a 0 ls)) p)))
    ∙ (sym (with_append (padded (with_parts (head a C.main) (code_parts a 0 ls)) ++ routine_bytes) (class_parts a cs) (text_parts ls 0 ts))
    ∙ sym (with_append (head a C.main) (code_parts a 0 ls) (Some routine_bytes ∷ later)))) in
    whole ∙ ap (λ n. with_parts (head n C.main) (parts n ls cs ts)) e

-- the end of the code of an image that fits
pub code_low : (ls : List Laid) (cs : List FlatClass) (ts : List (List ℕ)) → image_end ls cs ts ≤ flash_end → code_end ls ≤ flash_end
code_low ls cs ts l = let a = routine_grows ls in let b = classes_grow ls cs in let c = texts_grow ls cs ts in omega arith

-- equal lists give equal ends and bytes
pub same_end : (ls ms : List Laid) (cs ds : List FlatClass) (ts us : List (List ℕ)) → ls ≡ ms → cs ≡ ds → ts ≡ us → image_end ls cs ts ≡ image_end ms ds us
same_end ls ms cs ds ts us e f g = ap (λ q. image_end q cs ts) e ∙ (ap (λ q. image_end ms q ts) f ∙ ap (image_end ms ds) g)

pub same_written : (ls ms : List Laid) (C : FlatCode) (ts us : List (List ℕ)) → ls ≡ ms → ts ≡ us → written_bytes ls C ts ≡ written_bytes ms C us
same_written ls ms C ts us e f = ap (λ q. written_bytes q C ts) e ∙ ap (written_bytes ms C) f
