-- The image, as flash, shows its whole program.
use Rattle.std.proofs.Common.{◌≡◌, ℕ, zero, suc, [], ◌∷◌, ◌++◌, ◌+◌, ◌-◌, ◌*◌, ◌/◌, ◌%◌, ◌^◌, ◌<◌, ◌≤◌, List, length, Bool, true, false, cond, nat_lt, refl, sym, ap, ◌∙◌, subst, arith, Some, get_or, slice_index, slice_get, ◌==◌}
use Rattle.std.specs.List.{AllByRecursion, enumerate_from, filter}
use Rattle.std.specs.Prelude.{map, nat_le}
use Rattle.std.proofs.lemmas.Bool.Decides.{nat_tests}
use Rattle.std.proofs.lemmas.List.{get_or_past, get_or_append_left, get_or-append-add}
use Rattle.std.proofs.lemmas.Option.{slice_get_within, slice_get-get_or}
use Rattle.thumb_code.specs.Map.{flash_end, flash_byte, flash_half, flash_word, in_flash}
use Rattle.thumb_code.specs.Machine.{base_of, main_of, return_of}
use Rattle.thumb_code.specs.RegisterFile.{is_odd}
use Rattle.board_world.specs.Observations.{ByteList}
use Rattle.bank_model.specs.Texts.{text_limit, flash_bytes}
use Rattle.flat_ir.specs.declared.ops.FlatClass.{FlatClass}
use Rattle.flat_ir.specs.declared.ops.FlatCode.{FlatCode}
use Rattle.thumb_layout.specs.declared.pieces.What.{What}
use Rattle.thumb_layout.specs.declared.pieces.What.TheVariants.{Function, Text, Class}
use Rattle.thumb_layout.specs.declared.pieces.Piece.{Piece}
use Rattle.thumb_layout.specs.declared.laid.Fix.{Fix}
use Rattle.thumb_layout.specs.declared.laid.Laid.{Laid}
use Rattle.thumb_layout.specs.Cells.{word_bytes, nothing, laid}
use Rattle.thumb_layout.specs.Flash.{IsOutside}
use Rattle.thumb_layout.proofs.Laws.{fixes_apart}
use Rattle.thumb_divide.specs.Routine.{routine_bytes, routine_length, HasRoutine}
use Rattle.thumb_divide.proofs.Laws.{bytes_have_routine}
use Rattle.thumb_emit.specs.Emit.{division}
use Rattle.thumb_emit.specs.InFlash.{Addresses, IsNamed, callee_at, word_for, ShowsFunction, ShowsClass, ShowsText, InFlash}
use Rattle.image_link.specs.Image.{base, head_length, head, opened, class_table, slot_words, text_bytes, is_named, HasBytes, AreFilled, Section, sections, StandBehind}
use Rattle.image_link.proofs.SectionKinds.{code_section, routine_section, table_section, text_section, code_sections, table_sections, text_sections}
use Rattle.image_link.specs.Linkable.{IsImaged}
use Rattle.image_link.specs.inner.{IsPlace}
use Rattle.image_link.proofs.Lists.{all_more, all_split, all_append, all_of_map, map_of_all, all_get, numbered_get, get_numbered, chosen_get, get_chosen}
use Rattle.image_link.proofs.NamedTexts.{IsHere, code_here}
use Rattle.image_link.proofs.Behind.{IsBehind, each_behind, rest_behind, Between, Throughout, covered, texts_order}
use Rattle.image_link.proofs.Alike.{FromLast, by_last}
use Rattle.image_link.proofs.Whole.{slots_long}
use Rattle.image_link.proofs.EachByte.{EachByte, byte_at, laid_is, opened_is, table_is, text_is, routine_is, head_is}
use Rattle.image_link.proofs.Flashing.{HasFour, word_there, IsSet, word_small, laid_callable, are_fixed, laid_at, text_named, slot_there, bytes_there}

-- a word, by its bytes
word_from : (flash : List ℕ) (p n : ℕ) → n < 2 ^ 32 → flash_byte flash p ≡ n % 256 → flash_byte flash (p + 1) ≡ n / 2 ^ 8 % 256 → flash_byte flash (p + 2) ≡ n / 2 ^ 16 % 256 → flash_byte flash (p + 3) ≡ n / 2 ^ 24 % 256 → flash_word flash p ≡ n
word_from flash p n l a b c d = omega arith

-- the body of laid code
body_of : (bodies : List (List Piece)) (f : ℕ) (l : Laid) → slice_get (map laid bodies) f ≡ Some l → (body : List Piece) × (slice_get bodies f ≡ Some body) × (laid body ≡ l)
body_of [] f l e = let bad : ⊥ = cc in absurd bad
body_of (body ∷ bodies) zero l e = let same : laid body ≡ l = cc in (body, refl, same)
body_of (body ∷ bodies) (suc f) l e = body_of bodies f l e

zeros_small : (image : List ℕ) (end : ℕ) (ss : List Section) → StandBehind image end ss → Between (λ k. flash_byte image k < 256) end ss
zeros_small image end [] h = tt
zeros_small image end (s ∷ ss) h = (λ k l m. (let e = h.1 k l m in omega arith), zeros_small image (s.at + s.long) ss h.2)

module _ (C : FlatCode) (bodies : List (List Piece)) (texts : List ByteList) (image : List ℕ) (h : IsImaged C bodies texts image) where
  abbrev codes : List Laid
  codes = map laid bodies

  abbrev there : Addresses
  there = h.linked.at

  abbrev later : List Section
  later = routine_section there ∷ (table_sections there C.classes ++ text_sections there codes texts)

  abbrev Behind : Section → Type 0
  Behind = IsBehind image head_length

  -- where all stand
  all_behind : AllByRecursion Behind (code_sections there codes) × AllByRecursion Behind later
  all_behind = all_split Behind (code_sections there codes) later (each_behind image head_length (sections there codes C.classes texts) h.linked.order)

  rest_split : AllByRecursion Behind (table_sections there C.classes) × AllByRecursion Behind (text_sections there codes texts)
  rest_split = all_split Behind (table_sections there C.classes) (text_sections there codes texts) all_behind.1.1

  code_behind : (f : ℕ) (l : Laid) → slice_get codes f ≡ Some l → Behind (code_section there (f, l))
  code_behind f l e =
      let z : 0 + f ≡ f = omega arith in
      subst (λ n. Behind (code_section there (n, l))) z (numbered_get (λ p. Behind (code_section there p)) 0 codes (all_of_map Behind (code_section there) (enumerate_from 0 codes) all_behind.0) f l e)

  routine_behind : Behind (routine_section there)
  routine_behind = all_behind.1.0

  table_behind : (c : ℕ) (class : FlatClass) → slice_get C.classes c ≡ Some class → Behind (table_section there (c, class))
  table_behind c class e =
      let z : 0 + c ≡ c = omega arith in
      subst (λ n. Behind (table_section there (n, class))) z (numbered_get (λ p. Behind (table_section there p)) 0 C.classes (all_of_map Behind (table_section there) (enumerate_from 0 C.classes) rest_split.0) c class e)

  text_behind : (i : ℕ) (t : List ℕ) → slice_get texts i ≡ Some t → is_named codes i ≡ true → Behind (text_section there (i, t))
  text_behind i t e n =
      let z : 0 + i ≡ i = omega arith in
      subst (λ m. Behind (text_section there (m, t))) z
      (chosen_get (λ p. Behind (text_section there p)) (is_named codes) 0 texts (all_of_map Behind (text_section there) (filter (λ p. is_named codes p.0) (enumerate_from 0 texts)) rest_split.1) i t e (ap (is_named codes) z ∙ n))

  place : (s : Section) → Behind s → IsPlace s.at
  place s b = let r = h.room in let i = b.inside in (omega arith, b.aligned)

  nowhere : (n : ℕ) → n ≡ 0 → IsPlace n
  nowhere n e = (omega arith, omega arith)

  function_place : (f : ℕ) → IsPlace (there.function f)
  function_place f = by (nat_lt f (length codes)) refl
    where
      by : (t : Bool) → nat_lt f (length codes) ≡ t → IsPlace (there.function f)
      by true e = place (code_section there (f, get_or codes f nothing)) (code_behind f (get_or codes f nothing) (slice_get-get_or codes f nothing (grind (arith, nat_tests))))
      by false e = let n : length codes ≤ f = grind (arith, nat_tests) in nowhere (there.function f) (h.linked.no_function f n)

  abbrev no_slots : FlatClass
  no_slots = record { words = 0; slots = [] }

  class_place : (c : ℕ) → IsPlace (there.class c)
  class_place c = by (nat_lt c (length C.classes)) refl
    where
      by : (t : Bool) → nat_lt c (length C.classes) ≡ t → IsPlace (there.class c)
      by true e = place (table_section there (c, get_or C.classes c no_slots)) (table_behind c (get_or C.classes c no_slots) (slice_get-get_or C.classes c no_slots (grind (arith, nat_tests))))
      by false e = let n : length C.classes ≤ c = grind (arith, nat_tests) in nowhere (there.class c) (h.linked.no_class c n)

  text_place : (i : ℕ) → is_named codes i ≡ true → IsPlace (there.text i)
  text_place i n = by (nat_lt i (length texts)) refl
    where
      by : (t : Bool) → nat_lt i (length texts) ≡ t → IsPlace (there.text i)
      by true e = place (text_section there (i, get_or texts i [])) (text_behind i (get_or texts i []) (slice_get-get_or texts i [] (grind (arith, nat_tests))) n)
      by false e = let m : length texts ≤ i = grind (arith, nat_tests) in nowhere (there.text i) (h.linked.no_text i m)

  callee_place : (f : ℕ) → IsPlace (callee_at there f)
  callee_place f = by (f == division)
    where
      by : (b : Bool) → IsPlace (cond b there.routine (there.function f))
      by true = place (routine_section there) routine_behind
      by false = function_place f

  set : (what : What) → IsHere codes what → IsSet there what
  set (Function f) n = (callee_place f, function_place f)
  set (Text i) n = text_place i n
  set (Class c) n = class_place c

  -- all are bytes
  body_bytes : (f : ℕ) (body : List Piece) → slice_get bodies f ≡ Some body → EachByte (laid body).bytes
  body_bytes f body e = let b = (code_behind f (laid body) (laid_at bodies f body e)).inside in let r = h.room in laid_is body (h.sound f body e) (omega arith)

  abbrev Small : ℕ → Type 0
  Small k = flash_byte image k < 256

  has_small : (at : ℕ) (bytes : List ℕ) → HasBytes image at bytes → EachByte bytes → (k : ℕ) → k < length bytes → Small (at + k)
  has_small at bytes g e k l = subst (λ n. n < 256) (sym (g k l)) (byte_at bytes e k 0 (omega arith))

  small_from : (at i : ℕ) (fs : List Fix) → AreFilled image there at fs → FromLast i (Small (at + i)) fs
  small_from at i [] q = tt
  small_from at i (f ∷ fs) q = (
    λ j l e o. subst (λ n. n < 256) (sym (ap (λ m. flash_byte image (at + m)) e ∙ q.0 j l (subst (λ m. IsOutside m fs) e o)))
        (byte_at (opened there (at + f.at) f.call f.what) (opened_is there (at + f.at) f.call f.what) j 0 (omega arith)),
    small_from at i fs q.1,
  )

  body_small : (f : ℕ) (body : List Piece) → slice_get bodies f ≡ Some body → Throughout Small (code_section there (f, laid body))
  body_small f body e i m =
      let p = h.linked.functions f (laid body) (laid_at bodies f body e) in
      by_last i (Small (there.function f + i)) (laid body).fixes (λ o. subst (λ n. n < 256) (sym (p.bytes i m o)) (byte_at (laid body).bytes (body_bytes f body e) i 0 (omega arith)))
      (small_from (there.function f) i (laid body).fixes p.fixes)

  code_small : (f : ℕ) (l : Laid) → slice_get codes f ≡ Some l → Throughout Small (code_section there (f, l))
  code_small f l e = let b = body_of bodies f l e in subst (λ (q : Laid). Throughout Small (code_section there (f, q))) b.2 (body_small f b.0 b.1)

  table_small : (c : ℕ) (class : FlatClass) → slice_get C.classes c ≡ Some class → Throughout Small (table_section there (c, class))
  table_small c class e k l = let n = slots_long there class.slots in has_small (there.class c) (class_table there class) (h.linked.classes c class e) (table_is there class) k (omega arith)

  text_small : (i : ℕ) (t : List ℕ) → slice_get texts i ≡ Some t → is_named codes i ≡ true → Throughout Small (text_section there (i, t))
  text_small i t e n k l = has_small (there.text i) (text_bytes t) (h.linked.named_texts i t e n) (text_is t (all_get EachByte texts i t h.bytes e)) k (omega arith)

  each_small : AllByRecursion (Throughout Small) (sections there codes C.classes texts)
  each_small =
      all_append (Throughout Small) (code_sections there codes) later
      (map_of_all (Throughout Small) (code_section there) (enumerate_from 0 codes)
      (get_numbered (λ p. Throughout Small (code_section there p)) 0 codes (λ i l e. (let z : i ≡ 0 + i = omega arith in subst (λ n. Throughout Small (code_section there (n, l))) z (code_small i l e))))) (
        has_small there.routine routine_bytes h.linked.routine routine_is,
        all_append (Throughout Small) (table_sections there C.classes) (text_sections there codes texts)
            (map_of_all (Throughout Small) (table_section there) (enumerate_from 0 C.classes)
            (get_numbered (λ p. Throughout Small (table_section there p)) 0 C.classes (λ i c e. (let z : i ≡ 0 + i = omega arith in subst (λ n. Throughout Small (table_section there (n, c))) z (table_small i c e)))))
            (map_of_all (Throughout Small) (text_section there) (filter (λ p. is_named codes p.0) (enumerate_from 0 texts))
            (get_chosen (λ p. Throughout Small (text_section there p)) (is_named codes) 0 texts
            (λ i t e n. (let z : i ≡ 0 + i = omega arith in subst (λ m. Throughout Small (text_section there (m, t))) z (text_small i t e (ap (is_named codes) z ∙ n)))))),
      )

  byte_small : (k : ℕ) → Small k
  byte_small k = by (nat_lt k head_length) refl (nat_lt k (length image)) refl
    where
      by : (t : Bool) → nat_lt k head_length ≡ t → (u : Bool) → nat_lt k (length image) ≡ u → Small k
      by true e u f = let z : 0 + k ≡ k = omega arith in subst Small z (has_small 0 (head there C.main) h.linked.begins (head_is there C.main) k (grind (arith, nat_tests)))
      by false e true f =
          covered image Small head_length (sections there codes C.classes texts) h.linked.order (zeros_small image head_length (sections there codes C.classes texts) h.linked.order) each_small k (grind (arith, nat_tests))
          (grind (arith, nat_tests))
      by false e false f = let n : length image ≤ k = grind (arith, nat_tests) in let g = get_or_past image k 255 n in omega arith

  -- the words at reset
  head_at : (k : ℕ) → k < head_length → flash_byte image k ≡ slice_index (head there C.main) k
  head_at k l = let z : k ≡ 0 + k = omega arith in ap (flash_byte image) z ∙ h.linked.begins k l

  base_there : base_of image ≡ base
  base_there = word_from image 0 base (omega arith) (head_at 0 (omega arith)) (head_at 1 (omega arith)) (head_at 2 (omega arith)) (head_at 3 (omega arith))

  main_there : main_of image ≡ there.function C.main + 1
  main_there =
      let p = function_place C.main in
      let l = p.0 in
      word_from image 4 (there.function C.main + 1) (omega arith) (head_at 4 (omega arith)) (head_at 5 (omega arith)) (head_at 6 (omega arith)) (head_at 7 (omega arith))

  return_there : return_of image ≡ 13
  return_there = word_from image 8 13 (omega arith) (head_at 8 (omega arith)) (head_at 9 (omega arith)) (head_at 10 (omega arith)) (head_at 11 (omega arith))

  ends_there : flash_half image 12 ≡ 0xDF00
  ends_there = let a : flash_byte image 12 ≡ 0 = head_at 12 (omega arith) in let b : flash_byte image 13 ≡ 0xDF = head_at 13 (omega arith) in omega arith

  -- a function's code
  code_there : (f : ℕ) (body : List Piece) → slice_get bodies f ≡ Some body → ShowsFunction image there (there.function f) body
  code_there f body e =
      let l = laid body in
      let at = there.function f in
      let one = laid_at bodies f body e in
      let p = h.linked.functions f l one in
      let ends = (code_behind f l one).inside in
      let room = h.room in
      let place = function_place f in
      record {
        aligned = place.1;
        inside = omega arith;
        code = record {
          bytes = p.bytes;
          fixes =
              are_fixed image there at 0 l.fixes (length l.bytes) place.1 (omega arith) (fixes_apart body) (all_more (λ (q : Fix). IsHere codes q.what) (λ (q : Fix). IsSet there q.what) (λ q n. set q.what n) l.fixes (code_here codes f l one)) p.fixes
              (laid_callable body);
        };
      }

  routine_there : HasRoutine image there.routine
  routine_there =
      let room = h.room in
      let ends = routine_behind.inside in
      let four = routine_behind.aligned in
      bytes_have_routine image there.routine (omega arith) (omega arith) h.linked.routine

  -- a class's table
  class_there : (c : ℕ) (class : FlatClass) → slice_get C.classes c ≡ Some class → ShowsClass image there (there.class c) class
  class_there c class e =
      let at = there.class c in
      let room = h.room in
      let ends = (table_behind c class e).inside in
      let low = (table_behind c class e).behind in
      let slots = slots_long there class.slots in
      let has = h.linked.classes c class e in
      let first : HasFour image at (word_bytes class.words) = (λ j l. has j (omega arith) ∙ get_or_append_left (word_bytes class.words) (slot_words there class.slots) 0 j l) in
      record {
        aligned = (table_behind c class e).aligned;
        positive = omega arith;
        inside = omega arith;
        fits = h.words c class e;
        words = word_there image at class.words (h.words c class e) first;
        slots = λ j g s. (
            let within = slice_get_within class.slots j g s in
            let four : HasFour image (at + 4 + 4 * j) (word_bytes (word_for there (Function g))) = (λ i l. (
            let z : at + 4 + 4 * j + i ≡ at + (4 + (4 * j + i)) = omega arith in
            ap (flash_byte image) z ∙ (has (4 + (4 * j + i)) (omega arith)
            ∙ (get_or-append-add (word_bytes class.words) (slot_words there class.slots) (4 * j + i) 0 ∙ slot_there there class.slots j g s i l)))) in
            word_there image (at + 4 + 4 * j) (word_for there (Function g)) (word_small there (Function g) (set (Function g) tt)) four);
      }

  -- a text
  text_there : (i : ℕ) → IsNamed bodies i → (t : ByteList) × (slice_get texts i ≡ Some t) × ShowsText image (there.text i) t
  text_there i n =
      let found = h.texts_are i n in
      let t = found.0 in
      let e = found.1 in
      let short = found.2 in
      let at = there.text i in
      let named = text_named bodies i n in
      let room = h.room in
      let ends = (text_behind i t e named).inside in
      let low = (text_behind i t e named).behind in
      let place = (text_behind i t e named).aligned in
      let stands = h.linked.named_texts i t e named in
      let size : flash_word image at ≡ length t = word_there image at (length t) (omega arith) (λ j l. stands j (omega arith) ∙ get_or_append_left (word_bytes (length t)) t 0 j l) in
      let a : (at % 4 == 0) ≡ true = grind (arith, nat_tests) in
      let b : in_flash at ≡ true = grind (arith, nat_tests) in
      let c : nat_le (length t) text_limit ≡ true = grind (arith, nat_tests) in
      let d : nat_le (at + 4 + length t) flash_end ≡ true = grind (arith, nat_tests) in (
        t,
        e,
        record {
          positive = omega arith;
          sound = rw (size, a, b, c, d) refl;
          bytes_are = ap (λ m. flash_bytes image m (at + 4)) size ∙ bytes_there image t (at + 4) (λ k l. (
              let z : at + 4 + k ≡ at + (4 + k) = omega arith in ap (flash_byte image) z ∙ (stands (4 + k) (omega arith) ∙ get_or-append-add (word_bytes (length t)) t k 0)));
        },
      )

  -- two texts that stand at one address are one
  text_order : (i j : ℕ) → IsNamed bodies i → IsNamed bodies j → i < j → there.text i + 4 ≤ there.text j
  text_order i j n m l =
      let s = h.texts_are i n in
      let t = h.texts_are j m in
      let y : 0 + i ≡ i = omega arith in
      let z : 0 + j ≡ j = omega arith in
      let behind_codes = rest_behind image head_length (code_sections there codes) later h.linked.order in
      let behind_tables = rest_behind image (there.routine + routine_length) (table_sections there C.classes) (text_sections there codes texts) behind_codes.2.2 in
      let o = texts_order image there (is_named codes) 0 behind_tables.0 texts behind_tables.2 i j s.0 t.0 l s.1 t.1 (ap (is_named codes) y ∙ text_named bodies i n) (ap (is_named codes) z ∙ text_named bodies j m) in
      subst (λ p. there.text p + 4 ≤ there.text j) y (subst (λ p. there.text (0 + i) + 4 ≤ there.text p) z o)

  text_alone : (i j : ℕ) → IsNamed bodies i → IsNamed bodies j → there.text i ≡ there.text j → i ≡ j
  text_alone i j n m same =
      let before : i < j → ⊥ = λ l. (let o = text_order i j n m l in omega arith) in
      let behind : j < i → ⊥ = λ l. (let o = text_order j i m n l in omega arith) in
      grind arith

  pub program_shown : InFlash C bodies texts image there
  program_shown = record {
    bytes = byte_small;
    base = base_there;
    main = main_there;
    return_odd = ap is_odd return_there;
    return_inside = (let e = return_there in omega arith);
    return_ends = ap (λ n. flash_half image (n - 1)) return_there ∙ ends_there;
    bodies_are = h.bodies_are;
    few = h.few;
    functions = code_there;
    routine = routine_there;
    classes = class_there;
    named_texts = text_there;
    apart = text_alone;
  }
