-- What is written is what laid code is linked to.
use Rattle.std.proofs.Common.{◌≡◌, ℕ, suc, ◌+◌, ◌-◌, ◌*◌, ◌<◌, ◌≤◌, List, [], ◌∷◌, ◌++◌, length, Bool, true, false, cond, Option, Some, None, get_or, slice_index, refl, sym, ap, ◌∙◌, subst, arith}
use Rattle.std.specs.Prelude.{replicate, map}
use Rattle.std.specs.List.{AllByRecursion, enumerate_from, filter}
use Rattle.std.proofs.lemmas.List.{length-map, get_or_past, get_or_default, get_or_append_left, get_or-append-add, get_or-replicate}
use Rattle.thumb_code.specs.Map.{flash_byte, flash_end}
use Rattle.flat_ir.specs.declared.ops.FlatClass.{FlatClass}
use Rattle.flat_ir.specs.declared.ops.FlatCode.{FlatCode}
use Rattle.thumb_layout.specs.declared.laid.Laid.{Laid}
use Rattle.thumb_layout.specs.Layout.{up}
use Rattle.thumb_divide.specs.Routine.{routine_bytes, routine_length}
use Rattle.image_link.specs.Image.{head_length, head, class_table, text_bytes, is_named, Section, sections, StandBehind, IsLinked}
use Rattle.image_link.proofs.SectionKinds.{routine_section, code_sections, table_sections}
use Rattle.image_link.specs.inner.{padded, end_with, starts}
use Rattle.image_link.proofs.Written.{with_parts, end_behind, AreFixesOf, code_lengths, class_lengths, text_lengths, routine_end, class_end, image_end, addresses, parts, written_bytes}
use Rattle.image_link.proofs.Standing.{lengths, length_padded, length_part, length_starts, before_parts}
use Rattle.image_link.proofs.Whole.{all_lengths, parts_long, image_long}
use Rattle.image_link.proofs.Lists.{all_get}
use Rattle.image_link.proofs.Showing.{function_there}
use Rattle.image_link.proofs.Sections.{head_stands, code_stands, routine_stands, class_stands, text_stands}

abbrev section : ℕ → ℕ → Section
section at long = record { at = at; long = long }

-- the sections that parts of these lengths are
abbrev spans : ℕ → List (Option ℕ) → List Section
spans end [] = []
spans end (None ∷ ns) = spans end ns
spans end (Some n ∷ ns) = section (up end) n ∷ spans (up end + n) ns

-- zeros stand before a part
zeros_before : (bytes p : List ℕ) (k : ℕ) → length bytes ≤ k → k < up (length bytes) → get_or (padded bytes ++ p) k 255 ≡ 0
zeros_before bytes p k l m =
    let w = length_padded bytes in
    let z : k ≡ length bytes + (k - length bytes) = omega arith in
    get_or_append_left (padded bytes) p 255 k (omega arith)
    ∙ (ap (λ n. get_or (padded bytes) n 255) z
    ∙ (get_or-append-add bytes (replicate (up (length bytes) - length bytes) 0) (k - length bytes) 255 ∙ get_or-replicate (up (length bytes) - length bytes) (k - length bytes) 0 255 (omega arith)))

stand : (whole bytes : List ℕ) (ps : List (Option (List ℕ))) → whole ≡ with_parts bytes ps → StandBehind whole (length bytes) (spans (length bytes) (lengths ps))
stand whole bytes [] e = ap length e
stand whole bytes (None ∷ ps) e = stand whole bytes ps e
stand whole bytes (Some p ∷ ps) e =
    let w = length_padded bytes in
    let v = length_part bytes (Some p) in (
      refl,
      λ k l m. ap (λ (q : List ℕ). get_or q k 255) e ∙ (before_parts (padded bytes ++ p) ps k 255 (omega arith) ∙ zeros_before bytes p k l m),
      subst (λ n. StandBehind whole n (spans n (lengths ps))) v (stand whole (padded bytes ++ p) ps e),
    )

-- parts of numbered things, which begin where these are said to stand
numbered_spans : {X : Type 0} (long : X → ℕ) (at : ℕ → ℕ) (n end : ℕ) (xs : List X) (ns : List (Option ℕ)) → ((i : ℕ) → at (n + i) ≡ slice_index (starts end (map (λ x. Some (long x)) xs)) i)
    → spans end (map (λ x. Some (long x)) xs ++ ns) ≡ map (λ p. section (at p.0) (long p.1)) (enumerate_from n xs) ++ spans (end_behind end (map (λ x. Some (long x)) xs)) ns
numbered_spans long at n end [] ns h = refl
numbered_spans long at n end (x ∷ xs) ns h =
    let z : n ≡ n + 0 = omega arith in
    let first : at n ≡ up end = ap at z ∙ h 0 in
    let rest = numbered_spans long at (n + 1) (up end + long x) xs ns (λ i. (let w : n + 1 + i ≡ n + suc i = omega arith in ap at w ∙ h (suc i))) in
    ap (λ m. section m (long x) ∷ spans (up end + long x) (map (λ y. Some (long y)) xs ++ ns)) (sym first) ∙ ap (λ (ss : List Section). section (at n) (long x) ∷ ss) rest

abbrev text_at : (ℕ → ℕ) → ℕ × List ℕ → Section
text_at at p = section (at p.0) (4 + length p.1)

text_step : (at : ℕ → ℕ) (b : Bool) (end : ℕ) (p : ℕ × List ℕ) (ps : List (ℕ × List ℕ)) (ns : List (Option ℕ)) → at p.0 ≡ up end
    → spans (end_with end (cond b (Some (4 + length p.1)) None)) ns ≡ map (text_at at) ps → spans end (cond b (Some (4 + length p.1)) None ∷ ns) ≡ map (text_at at) (cond b (p ∷ ps) ps)
text_step at true end p ps ns first rest =
    ap (λ m. section m (4 + length p.1) ∷ spans (up end + (4 + length p.1)) ns) (sym first) ∙ ap (λ (ss : List Section). text_at at p ∷ ss) rest
text_step at false end p ps ns first rest = rest

text_spans : (ls : List Laid) (at : ℕ → ℕ) (n end : ℕ) (ts : List (List ℕ)) → ((i : ℕ) → at (n + i) ≡ slice_index (starts end (text_lengths ls n ts)) i)
    → spans end (text_lengths ls n ts) ≡ map (text_at at) (filter (λ p. is_named ls p.0) (enumerate_from n ts))
text_spans ls at n end [] h = refl
text_spans ls at n end (t ∷ ts) h =
    let z : n ≡ n + 0 = omega arith in
    text_step at (is_named ls n) end (n, t) (filter (λ p. is_named ls p.0) (enumerate_from (n + 1) ts)) (text_lengths ls (n + 1) ts) (ap at z ∙ h 0)
    (text_spans ls at (n + 1) (end_with end (cond (is_named ls n) (Some (4 + length t)) None)) ts (λ i. (let w : n + 1 + i ≡ n + suc i = omega arith in ap at w ∙ h (suc i))))

texts_many : (ls : List Laid) (n : ℕ) (ts : List (List ℕ)) → length (text_lengths ls n ts) ≡ length ts
texts_many ls n [] = refl
texts_many ls n (t ∷ ts) = ap suc (texts_many ls (n + 1) ts)

-- a number past the last thing has no address
past : (end : ℕ) (ns : List (Option ℕ)) (m i : ℕ) → length ns ≡ m → m ≤ i → slice_index (starts end ns) i ≡ 0
past end ns m i e l = let n = length_starts end ns in get_or_past (starts end ns) i 0 (omega arith)

-- the sections of all parts
spans_are : (ls : List Laid) (cs : List FlatClass) (ts : List (List ℕ)) → spans head_length (all_lengths ls cs ts) ≡ sections (addresses ls cs ts) ls cs ts
unfolding addresses
spans_are ls cs ts =
    let a = addresses ls cs ts in
    let zero_on : (f : ℕ → ℕ) (i : ℕ) → f (0 + i) ≡ f i = λ f i. (let z : 0 + i ≡ i = omega arith in ap f z) in
    numbered_spans (λ (l : Laid). length l.bytes) a.function 0 head_length ls (Some routine_length ∷ (class_lengths cs ++ text_lengths ls 0 ts)) (λ i. zero_on a.function i)
    ∙ (ap (λ (ss : List Section). code_sections a ls ++ (routine_section a ∷ ss)) (numbered_spans (λ (c : FlatClass). 4 + 4 * length c.slots) a.class 0 (routine_end ls) cs (text_lengths ls 0 ts) (λ i. zero_on a.class i))
    ∙ ap (λ (ss : List Section). code_sections a ls ++ (routine_section a ∷ (table_sections a cs ++ ss))) (text_spans ls a.text 0 (class_end ls cs) ts (λ i. zero_on a.text i)))

order_is : (ls : List Laid) (C : FlatCode) (ts : List (List ℕ)) → StandBehind (written_bytes ls C ts) head_length (sections (addresses ls C.classes ts) ls C.classes ts)
unfolding written_bytes
order_is ls C ts =
    let a = addresses ls C.classes ts in
    subst (λ (ss : List Section). StandBehind (written_bytes ls C ts) head_length ss) (ap (spans head_length) (parts_long a ls C.classes ts) ∙ spans_are ls C.classes ts)
    (stand (written_bytes ls C ts) (head a C.main) (parts a ls C.classes ts) refl)

pub linked : (ls : List Laid) (C : FlatCode) (ts : List (List ℕ)) → AllByRecursion AreFixesOf ls → IsLinked ls C ts (written_bytes ls C ts)
unfolding addresses
linked ls C ts fixed =
    let a = addresses ls C.classes ts in
    record {
      at = a;
      begins = λ k l. (let z : 0 + k ≡ k = omega arith in ap (flash_byte (written_bytes ls C ts)) z ∙ (head_stands ls C ts k l ∙ get_or_default (head a C.main) k 255 0 l));
      functions = λ f l e. function_there (written_bytes ls C ts) a (a.function f) l (all_get AreFixesOf ls f l fixed e) (code_stands ls C ts f l e);
      routine = λ k l. routine_stands ls C ts k l ∙ get_or_default routine_bytes k 255 0 l;
      classes = λ c class e k l. class_stands ls C ts c class e k l ∙ get_or_default (class_table a class) k 255 0 l;
      named_texts = λ i t e n k l. text_stands ls C ts i t e n k l ∙ get_or_default (text_bytes t) k 255 0 l;
      order = order_is ls C ts;
      no_function = λ f l. past head_length (code_lengths ls) (length ls) f (length-map ls (λ (q : Laid). Some (length q.bytes))) l;
      no_class = λ c l. past (routine_end ls) (class_lengths C.classes) (length C.classes) c (length-map C.classes (λ (q : FlatClass). Some (4 + 4 * length q.slots))) l;
      no_text = λ i l. past (class_end ls C.classes) (text_lengths ls 0 ts) (length ts) i (texts_many ls 0 ts) l;
    }

-- An image that is too long is one, too.
pub too_long : (ls : List Laid) (C : FlatCode) (ts : List (List ℕ)) → AllByRecursion AreFixesOf ls → flash_end < image_end ls C.classes ts → (image : List ℕ) × IsLinked ls C ts image × (flash_end < length image)
too_long ls C ts fixed l = (written_bytes ls C ts, linked ls C ts fixed, subst (λ (n : ℕ). flash_end < n) (sym (image_long ls C ts)) l)
