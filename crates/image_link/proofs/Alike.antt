-- What is linked to two images: both have the same sections, and so the same bytes.
use Rattle.std.proofs.Common.{◌≡◌, ℕ, ◌+◌, ◌-◌, ◌<◌, ◌≤◌, inl, inr, List, [], ◌∷◌, ◌++◌, length, Bool, true, false, cond, nat_lt, Some, slice_get, slice_index, refl, sym, ap, ◌∙◌, subst, arith, ◌==◌}
use Rattle.std.specs.Prelude.{map}
use Rattle.std.specs.List.{AllByRecursion, enumerate_from, filter}
use Rattle.std.proofs.lemmas.Bool.Decides.{nat_tests}
use Rattle.std.proofs.lemmas.List.{ext_get_or}
use Rattle.std.proofs.lemmas.Option.{slice_get-get_or}
use Rattle.thumb_code.specs.declared.instructions.Instr.TheVariants.{Bl, Svc}
use Rattle.thumb_code.specs.Table.{half}
use Rattle.thumb_code.specs.Map.{flash_byte}
use Rattle.flat_ir.specs.declared.ops.FlatClass.{FlatClass}
use Rattle.flat_ir.specs.declared.ops.FlatCode.{FlatCode}
use Rattle.thumb_layout.specs.declared.pieces.What.{What}
use Rattle.thumb_layout.specs.declared.pieces.What.TheVariants.{Function, Text, Class}
use Rattle.thumb_layout.specs.declared.laid.Fix.{Fix}
use Rattle.thumb_layout.specs.declared.laid.Laid.{Laid}
use Rattle.thumb_layout.specs.Cells.{word_bytes, spelled, offset, nothing}
use Rattle.thumb_layout.specs.Flash.{IsOutside}
use Rattle.thumb_divide.specs.Routine.{routine_bytes}
use Rattle.thumb_emit.specs.Emit.{division}
use Rattle.thumb_emit.specs.InFlash.{Addresses, callee_at, word_for}
use Rattle.image_link.specs.Image.{base, return_at, head_length, head, opened, slot_words, class_table, text_bytes, is_named, HasBytes, AreFilled, HasFunction, Section, sections, StandBehind, IsLinked}
use Rattle.image_link.proofs.SectionKinds.{code_section, routine_section, table_section, text_section, code_sections, table_sections, text_sections}
use Rattle.image_link.proofs.Lists.{all_append, map_of_all, numbered_get, get_numbered, chosen_get, get_chosen}
use Rattle.image_link.proofs.NamedTexts.{IsHere, code_here}
use Rattle.image_link.proofs.Behind.{Throughout, covered, AreAsLong, as_long_map, as_long_append, same_sections, same_length, same_between}
use Rattle.image_link.proofs.Whole.{slots_long}

-- equal lists of sections are equal one by one
apart_map : {X : Type 0} (g h : X → Section) (xs : List X) (ss ts : List Section) → map g xs ++ ss ≡ map h xs ++ ts → AllByRecursion (λ x. g x ≡ h x) xs × (ss ≡ ts)
apart_map g h [] ss ts e = (tt, e)
apart_map g h (x ∷ xs) ss ts e =
    let one : g x ≡ h x = cc in
    let rest : map g xs ++ ss ≡ map h xs ++ ts = cc in
    let r = apart_map g h xs ss ts rest in
    ((one, r.0), r.1)

alone_map : {X : Type 0} (g h : X → Section) (xs : List X) → map g xs ≡ map h xs → AllByRecursion (λ x. g x ≡ h x) xs
alone_map g h [] e = tt
alone_map g h (x ∷ xs) e =
    let one : g x ≡ h x = cc in
    let rest : map g xs ≡ map h xs = cc in
    (one, alone_map g h xs rest)

second : {X : Type 0} (s t : X) (ss ts : List X) → s ∷ ss ≡ t ∷ ts → (s ≡ t) × (ss ≡ ts)
second s t ss ts e = (cc, cc)

-- What holds of a byte of code outside what is open, and of each that is open and isn't open once more behind, holds of all.
abbrev pub FromLast : ℕ → Type 0 → List Fix → Type 0
FromLast k Q [] = Unit {0}
FromLast k Q (f ∷ fs) = ((j : ℕ) → j < 4 → k ≡ f.at + j → IsOutside k fs → Q) × FromLast k Q fs

pub by_last : (k : ℕ) (Q : Type 0) (fs : List Fix) → (IsOutside k fs → Q) → FromLast k Q fs → Q
by_last k Q [] out last = out tt
by_last k Q (f ∷ fs) out last = by_last k Q fs (λ o. by o (nat_lt k f.at) refl (nat_lt k (f.at + 4)) refl) last.1
  where
    by : IsOutside k fs → (x : Bool) → nat_lt k f.at ≡ x → (y : Bool) → nat_lt k (f.at + 4) ≡ y → Q
    by o true e y g = let n : k < f.at = grind (arith, nat_tests) in out (inl n, o)
    by o false e true g = let n : f.at ≤ k = grind (arith, nat_tests) in let m : k < f.at + 4 = grind (arith, nat_tests) in last.0 (k - f.at) (omega arith) (omega arith) o
    by o false e false g = let n : f.at + 4 ≤ k = grind (arith, nat_tests) in out (inr n, o)

-- the same bytes at the same address
same_bytes : (x y : List ℕ) (at to : ℕ) (bytes more : List ℕ) → HasBytes x at bytes → HasBytes y to more → at ≡ to → bytes ≡ more → (k : ℕ) → k < length bytes → flash_byte x (at + k) ≡ flash_byte y (at + k)
same_bytes x y at to bytes more h g e f k l =
    let two : HasBytes y at bytes = subst (λ n. HasBytes y n bytes) (sym e) (subst (λ bs. HasBytes y to bs) (sym f) g) in
    h k l ∙ sym (two k l)

-- two images
module _ (laid : List Laid) (code : FlatCode) (texts : List (List ℕ)) (x y : List ℕ) (h : IsLinked laid code texts x) (k : IsLinked laid code texts y) where
  abbrev a : Addresses
  a = h.at

  abbrev b : Addresses
  b = k.at

  abbrev named : List (ℕ × List ℕ)
  named = filter (λ p. is_named laid p.0) (enumerate_from 0 texts)

  -- the sections behind the functions' code
  abbrev later : Addresses → List Section
  later c = routine_section c ∷ (table_sections c code.classes ++ text_sections c laid texts)

  as_long : AreAsLong (sections a laid code.classes texts) (sections b laid code.classes texts)
  as_long =
      as_long_append (code_sections a laid) (code_sections b laid) (later a) (later b) (as_long_map (code_section a) (code_section b) (λ p. refl) (enumerate_from 0 laid)) (
        refl,
        as_long_append (table_sections a code.classes) (table_sections b code.classes) (text_sections a laid texts) (text_sections b laid texts)
            (as_long_map (table_section a) (table_section b) (λ p. refl) (enumerate_from 0 code.classes)) (as_long_map (text_section a) (text_section b) (λ p. refl) named),
      )

  same : sections a laid code.classes texts ≡ sections b laid code.classes texts
  same = same_sections x y head_length (sections a laid code.classes texts) (sections b laid code.classes texts) as_long h.order k.order

  other_order : StandBehind y head_length (sections a laid code.classes texts)
  other_order = subst (λ ss. StandBehind y head_length ss) (sym same) k.order

  pub alike_long : length x ≡ length y
  alike_long = same_length x y head_length (sections a laid code.classes texts) h.order other_order

  -- all stand at the same addresses
  codes : AllByRecursion (λ p. code_section a p ≡ code_section b p) (enumerate_from 0 laid) × (later a ≡ later b)
  codes = apart_map (code_section a) (code_section b) (enumerate_from 0 laid) (later a) (later b) same

  behind_codes : (routine_section a ≡ routine_section b) × (table_sections a code.classes ++ text_sections a laid texts ≡ table_sections b code.classes ++ text_sections b laid texts)
  behind_codes = second (routine_section a) (routine_section b) (table_sections a code.classes ++ text_sections a laid texts) (table_sections b code.classes ++ text_sections b laid texts) codes.1

  tables : AllByRecursion (λ p. table_section a p ≡ table_section b p) (enumerate_from 0 code.classes) × (text_sections a laid texts ≡ text_sections b laid texts)
  tables = apart_map (table_section a) (table_section b) (enumerate_from 0 code.classes) (text_sections a laid texts) (text_sections b laid texts) behind_codes.1

  same_routine : a.routine ≡ b.routine
  same_routine = ap (λ (s : Section). s.at) behind_codes.0

  function_among : (f : ℕ) (l : Laid) → slice_get laid f ≡ Some l → a.function f ≡ b.function f
  function_among f l e =
      let z : 0 + f ≡ f = omega arith in
      subst (λ n. a.function n ≡ b.function n) z (ap (λ (s : Section). s.at) (numbered_get (λ p. code_section a p ≡ code_section b p) 0 laid codes.0 f l e))

  same_function : (f : ℕ) → a.function f ≡ b.function f
  same_function f = by (nat_lt f (length laid)) refl
    where
      by : (t : Bool) → nat_lt f (length laid) ≡ t → a.function f ≡ b.function f
      by true e = function_among f _ (slice_get-get_or laid f nothing (grind (arith, nat_tests)))
      by false e = let n : length laid ≤ f = grind (arith, nat_tests) in h.no_function f n ∙ sym (k.no_function f n)

  class_among : (c : ℕ) (class : FlatClass) → slice_get code.classes c ≡ Some class → a.class c ≡ b.class c
  class_among c class e =
      let z : 0 + c ≡ c = omega arith in
      subst (λ n. a.class n ≡ b.class n) z (ap (λ (s : Section). s.at) (numbered_get (λ p. table_section a p ≡ table_section b p) 0 code.classes tables.0 c class e))

  abbrev no_slots : FlatClass
  no_slots = record { words = 0; slots = [] }

  same_class : (c : ℕ) → a.class c ≡ b.class c
  same_class c = by (nat_lt c (length code.classes)) refl
    where
      by : (t : Bool) → nat_lt c (length code.classes) ≡ t → a.class c ≡ b.class c
      by true e = class_among c _ (slice_get-get_or code.classes c no_slots (grind (arith, nat_tests)))
      by false e = let n : length code.classes ≤ c = grind (arith, nat_tests) in h.no_class c n ∙ sym (k.no_class c n)

  text_among : (i : ℕ) (t : List ℕ) → slice_get texts i ≡ Some t → is_named laid i ≡ true → a.text i ≡ b.text i
  text_among i t e n =
      let z : 0 + i ≡ i = omega arith in
      subst (λ m. a.text m ≡ b.text m) z
      (ap (λ (s : Section). s.at) (chosen_get (λ p. text_section a p ≡ text_section b p) (is_named laid) 0 texts (alone_map (text_section a) (text_section b) named tables.1) i t e (ap (is_named laid) z ∙ n)))

  same_text : (i : ℕ) → is_named laid i ≡ true → a.text i ≡ b.text i
  same_text i n = by (nat_lt i (length texts)) refl
    where
      by : (t : Bool) → nat_lt i (length texts) ≡ t → a.text i ≡ b.text i
      by true e = text_among i _ (slice_get-get_or texts i [] (grind (arith, nat_tests))) n
      by false e = let m : length texts ≤ i = grind (arith, nat_tests) in h.no_text i m ∙ sym (k.no_text i m)

  -- so the same stands for what code names
  same_word : (what : What) → IsHere laid what → word_for a what ≡ word_for b what
  same_word (Function f) n = ap (λ m. m + 1) (same_function f)
  same_word (Text i) n = same_text i n
  same_word (Class c) n = same_class c

  same_callee : (f : ℕ) → callee_at a f ≡ callee_at b f
  same_callee f = by (f == division)
    where
      by : (t : Bool) → cond t a.routine (a.function f) ≡ cond t b.routine (b.function f)
      by true = same_routine
      by false = same_function f

  same_opened : (at : ℕ) (call : Bool) (what : What) → IsHere laid what → opened a at call what ≡ opened b at call what
  same_opened at true (Function f) n = ap (λ to. spelled (half (Bl (offset at to)))) (same_callee f)
  same_opened at true (Text i) n = ap word_bytes (same_word (Text i) n)
  same_opened at true (Class c) n = ap word_bytes (same_word (Class c) n)
  same_opened at false what n = ap word_bytes (same_word what n)

  same_slots : (fs : List ℕ) → slot_words a fs ≡ slot_words b fs
  same_slots [] = refl
  same_slots (f ∷ fs) = ap (λ w. word_bytes w ++ slot_words a fs) (same_word (Function f) tt) ∙ ap (λ ws. word_bytes (word_for b (Function f)) ++ ws) (same_slots fs)

  -- the bytes of both
  abbrev Same : ℕ → Type 0
  Same i = flash_byte x i ≡ flash_byte y i

  from_last : (at i : ℕ) (fs : List Fix) → AreFilled x a at fs → AreFilled y b at fs → AllByRecursion (λ f. IsHere laid f.what) fs → FromLast i (Same (at + i)) fs
  from_last at i [] p q n = tt
  from_last at i (f ∷ fs) p q n = (
    λ j l e o. (
        let behind = subst (λ m. IsOutside m fs) e o in
        ap (λ m. flash_byte x (at + m)) e
        ∙ (p.0 j l behind ∙ (ap (λ bs. slice_index bs j) (same_opened (at + f.at) f.call f.what n.0) ∙ (sym (q.0 j l behind) ∙ ap (λ m. flash_byte y (at + m)) (sym e))))),
    from_last at i fs p.1 q.1 n.1,
  )

  code_same : (f : ℕ) (l : Laid) → slice_get laid f ≡ Some l → Throughout Same (code_section a (f, l))
  code_same f l e i m =
      let p = h.functions f l e in
      let q : HasFunction y b (a.function f) l = subst (λ n. HasFunction y b n l) (sym (same_function f)) (k.functions f l e) in
      by_last i (Same (a.function f + i)) l.fixes (λ o. p.bytes i m o ∙ sym (q.bytes i m o)) (from_last (a.function f) i l.fixes p.fixes q.fixes (code_here laid f l e))

  table_same : (c : ℕ) (class : FlatClass) → slice_get code.classes c ≡ Some class → Throughout Same (table_section a (c, class))
  table_same c class e i m =
      let long = slots_long a class.slots in
      same_bytes x y (a.class c) (b.class c) (class_table a class) (class_table b class) (h.classes c class e) (k.classes c class e) (same_class c) (ap (λ ws. word_bytes class.words ++ ws) (same_slots class.slots)) i (omega arith)

  text_same : (i : ℕ) (t : List ℕ) → slice_get texts i ≡ Some t → is_named laid i ≡ true → Throughout Same (text_section a (i, t))
  text_same i t e n j m = same_bytes x y (a.text i) (b.text i) (text_bytes t) (text_bytes t) (h.named_texts i t e n) (k.named_texts i t e n) (same_text i n) refl j (omega arith)

  routine_same : Throughout Same (routine_section a)
  routine_same i m = same_bytes x y a.routine b.routine routine_bytes routine_bytes h.routine k.routine same_routine refl i m

  head_same : (i : ℕ) → i < head_length → Same i
  head_same i l =
      let z : 0 + i ≡ i = omega arith in
      subst Same z
      (same_bytes x y 0 0 (head a code.main) (head b code.main) h.begins k.begins refl (ap (λ w. word_bytes base ++ (word_bytes w ++ (word_bytes (return_at + 1) ++ spelled (half (Svc 0))))) (same_word (Function code.main) tt)) i l)

  each_same : AllByRecursion (Throughout Same) (sections a laid code.classes texts)
  each_same =
      all_append (Throughout Same) (code_sections a laid) (later a)
      (map_of_all (Throughout Same) (code_section a) (enumerate_from 0 laid) (get_numbered (λ p. Throughout Same (code_section a p)) 0 laid (λ i l e. (let z : i ≡ 0 + i = omega arith in subst (λ n. Throughout Same (code_section a (n, l))) z (code_same i l e))))) (
        routine_same,
        all_append (Throughout Same) (table_sections a code.classes) (text_sections a laid texts)
            (map_of_all (Throughout Same) (table_section a) (enumerate_from 0 code.classes) (get_numbered (λ p. Throughout Same (table_section a p)) 0 code.classes (λ i c e. (let z : i ≡ 0 + i = omega arith in subst (λ n. Throughout Same (table_section a (n, c))) z (table_same i c e)))))
            (map_of_all (Throughout Same) (text_section a) named
            (get_chosen (λ p. Throughout Same (text_section a p)) (is_named laid) 0 texts (λ i t e n. (let z : i ≡ 0 + i = omega arith in subst (λ m. Throughout Same (text_section a (m, t))) z (text_same i t e (ap (is_named laid) z ∙ n)))))),
      )

  byte_same : (i : ℕ) → i < length x → Same i
  byte_same i l = by (nat_lt i head_length) refl
    where
      by : (t : Bool) → nat_lt i head_length ≡ t → Same i
      by true e = head_same i (grind (arith, nat_tests))
      by false e =
          covered x Same head_length (sections a laid code.classes texts) h.order (same_between x y head_length (sections a laid code.classes texts) h.order other_order) each_same i (grind (arith, nat_tests)) l

  pub alike : x ≡ y
  alike = ext_get_or 255 x y alike_long byte_same
