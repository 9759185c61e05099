-- A compiled image implements its program.
use Rattle.std.proofs.Common.{◌≡◌, ℕ, zero, suc, ◌+◌, ◌^◌, ◌<◌, ◌≤◌, inl, inr, Bool, true, false, ◌==◌, ◌||◌, List, [], ◌∷◌, length, map, Some, slice_get, get_or, Contains, refl, ap, sym, ◌∙◌, subst, arith, length-append}
use Rattle.std.specs.Prelude.{FitsSigned}
use Rattle.std.specs.Int.{w32}
use Rattle.std.specs.List.{AllByRecursion}
use Rattle.std.proofs.lemmas.List.{length-map}
use Rattle.std.proofs.lemmas.List.Elements.{Contains-append_cases}
use Rattle.std.proofs.lemmas.Bool.Decides.{nat_tests}
use Rattle.thumb_code.specs.Machine.{main_of}
use Rattle.board_world.specs.Observations.{ByteList}
use Rattle.bank_model.specs.Texts.{text_limit}
use Rattle.sts_syntax.specs.TypedTrees.{TypedProgram, TypedRoutine, ClassEntry}
use Rattle.sts_syntax.specs.TypeRules.{IsOneOf, entry}
use Rattle.sts_meaning.specs.Values.{Value, default}
use Rattle.sts_meaning.specs.Frames.{defaults}
use Rattle.meaning_sound.specs.Kept.{typed}
use Rattle.meaning_sound.proofs.Laws.{source_sound, empty_is}
use Rattle.sts_implements.specs.Images.{ImageImplements}
use Rattle.sts_implements.specs.Passes.{Lowers, Emits}
use Rattle.sts_implements.proofs.Laws.{passes_implement}
use Rattle.flat_meaning.specs.Frames.{FlatActivity}
use Rattle.flat_meaning.specs.Steps.{flat}
use Rattle.lowered_code.proofs.Laws.{entry_within}
use Rattle.lower_simulation.specs.Tied.{CodeTied, Tied}
use Rattle.lower_simulation.specs.Limits.{IsLight}
use Rattle.arena_values.proofs.Laws.{shows_nothing}
use Rattle.emit_simulation.specs.Weights.{weight_of}
use Rattle.sts_whole.proofs.Light.{weights_light}
use Rattle.sts_syntax.specs.Types.{ValueType}
use Rattle.sts_syntax.specs.Nodes.{program_texts, NamesTexts, used_bytes, is_among}
use Rattle.sts_syntax.specs.WellTypedPrograms.{IsProgramWithinLimits}
use Rattle.flat_ir.specs.declared.ops.Op.{Op}
use Rattle.flat_ir.specs.declared.ops.Op.TheVariants.{Const, Copy, Unary, Binary, GlobalGet, GlobalSet, FieldGet, FieldSet, ItemGet, ItemSet, Length, Pop, TextOf, MakeObject, MakeArray, Call, CallSlot, HandlerOf, Ask, Jump, Branch, Return}
use Rattle.flat_ir.specs.declared.ops.Function.{Function}
use Rattle.flat_ir.specs.declared.ops.FlatClass.{FlatClass}
use Rattle.flat_ir.specs.declared.ops.FlatCode.{FlatCode}
use Rattle.flat_ir.specs.WellFormed.{IsWellFormed, IsFunctionAmong}
use Rattle.sts_meaning.specs.Heaps.{FlatHeap}
use Rattle.sts_lower.specs.Lowered.{lowered, flat_class, flat_classes, lowered_routines, repeating_functions, repeated_in_program}
use Rattle.sts_lower.proofs.Laws.{HasFewFields, few_functions, few_fields}
use Rattle.lowered_code.specs.Texts.{Has, AllHave, NamesOnly}
use Rattle.lowered_code.proofs.Laws.{program_named, program_fits}
use Rattle.register_assign.specs.declared.places.Placed.{Placed}
use Rattle.register_assign.specs.Sound.{ArePlacesSound}
use Rattle.thumb_layout.specs.declared.pieces.What.{What}
use Rattle.thumb_layout.specs.declared.pieces.What.TheVariants.{Text}
use Rattle.thumb_layout.specs.declared.pieces.Piece.{Piece}
use Rattle.thumb_layout.specs.Soundness.{IsSound}
use Rattle.thumb_layout.specs.Openings.{named}
use Rattle.thumb_emit.specs.Emit.{function_pieces, division}
use Rattle.thumb_emit.specs.Names.{name_of, names_of}
use Rattle.thumb_emit.specs.Ready.{IsReady, HasNumber, HasNumbers}
use Rattle.thumb_emit.specs.InFlash.{IsNamed, Addresses, InFlash}
use Rattle.thumb_emit.proofs.Laws.{function_named, function_sound}
use Rattle.emit_simulation.specs.Ties.{IsImage, IsText, IsCode, ties}
use Rattle.image_link.specs.Linkable.{IsImaged}
use Rattle.typed_laws.specs.Buildable.{IsBuildable}
use Rattle.sts_whole.specs.Compiled.{functions_of, bodies_of, IsCompiled}

-- of lists
mapped_at : {X Y : Type 0} (g : X → Y) (xs : List X) (i : ℕ) (y : Y) → slice_get (map g xs) i ≡ Some y → (x : X) × (slice_get xs i ≡ Some x) × (g x ≡ y)
mapped_at g [] i y e = absurd cc
mapped_at g (x ∷ xs) zero y e = let h : g x ≡ y = cc in (x, refl, h)
mapped_at g (x ∷ xs) (suc i) y e = mapped_at g xs i y e

all_mapped : {X Y : Type 0} (g : X → Y) (P : Y → Type 0) (xs : List X) → AllByRecursion P (map g xs) → (i : ℕ) (x : X) → slice_get xs i ≡ Some x → P (g x)
all_mapped g P [] a i x e = absurd cc
all_mapped g P (y ∷ xs) a zero x e = let h : y ≡ x = cc in subst (λ z. P (g z)) h a.0
all_mapped g P (y ∷ xs) a (suc i) x e = all_mapped g P xs a.1 i x e

all_found : {X : Type 0} (P : X → Type 0) (xs : List X) → AllByRecursion P xs → (i : ℕ) (x : X) → slice_get xs i ≡ Some x → P x
all_found P [] a i x e = absurd cc
all_found P (y ∷ xs) a zero x e = let h : y ≡ x = cc in subst P h a.0
all_found P (y ∷ xs) a (suc i) x e = all_found P xs a.1 i x e

abbrev NamesOneOf : List ℕ → Op → Type 0
NamesOneOf texts op = Has (λ value. Unit {0}) (λ text. IsOneOf text texts) op

-- a text that an op loads the address of is named by it
one_named : (texts : List ℕ) (op : Op) (i k : ℕ) → NamesOneOf texts op → k < length (name_of op) → get_or (name_of op) k (Text i) ≡ Text i → IsOneOf i texts
one_named texts (TextOf to text) i zero a l e = let h : text ≡ i = cc in subst (λ n. IsOneOf n texts) h a
one_named texts (TextOf to text) i (suc k) a l e = absurd (omega arith)
one_named texts (MakeObject to class) i zero a l e = absurd cc
one_named texts (MakeObject to class) i (suc k) a l e = absurd (omega arith)
one_named texts (HandlerOf to function) i zero a l e = absurd cc
one_named texts (HandlerOf to function) i (suc k) a l e = absurd (omega arith)
one_named texts (Const to value) i k a l e = absurd (omega arith)
one_named texts (Copy to from) i k a l e = absurd (omega arith)
one_named texts (Unary to op from) i k a l e = absurd (omega arith)
one_named texts (Binary to op left right) i k a l e = absurd (omega arith)
one_named texts (GlobalGet to slot) i k a l e = absurd (omega arith)
one_named texts (GlobalSet slot from) i k a l e = absurd (omega arith)
one_named texts (FieldGet to object field) i k a l e = absurd (omega arith)
one_named texts (FieldSet object field from) i k a l e = absurd (omega arith)
one_named texts (ItemGet to array index) i k a l e = absurd (omega arith)
one_named texts (ItemSet array index from) i k a l e = absurd (omega arith)
one_named texts (Length to array) i k a l e = absurd (omega arith)
one_named texts (Pop to array) i k a l e = absurd (omega arith)
one_named texts (MakeArray to room) i k a l e = absurd (omega arith)
one_named texts (Call to function args) i k a l e = absurd (omega arith)
one_named texts (CallSlot to slot args) i k a l e = absurd (omega arith)
one_named texts (Ask to service args) i k a l e = absurd (omega arith)
one_named texts (Jump target) i k a l e = absurd (omega arith)
one_named texts (Branch when target) i k a l e = absurd (omega arith)
one_named texts (Return from) i k a l e = absurd (omega arith)

named_in : (texts : List ℕ) (ops : List Op) (i : ℕ) → AllByRecursion (NamesOneOf texts) ops → Contains (names_of ops) (Text i) → IsOneOf i texts
named_in texts [] i a c = let l = c.1 in absurd (omega arith)
named_in texts (op ∷ ops) i a c =
    elim (Contains-append_cases (name_of op) (names_of ops) (Text i) c) [ inl d ↦ one_named texts op i d.0 a.0 d.1 d.2 | inr d ↦ named_in texts ops i a.1 d ]

-- a class's words are few
words_few : (classes : List ClassEntry) → AllByRecursion HasFewFields classes → (c : ℕ) (class : FlatClass) → slice_get (flat_classes classes) c ≡ Some class → class.words < 2 ^ 32
words_few [] a c class e = absurd cc
words_few (x ∷ xs) a zero class e = let f = a.0 in let h : flat_class x ≡ class = cc in let l : (flat_class x).words < 2 ^ 32 = omega arith in subst (λ (y : FlatClass). y.words < 2 ^ 32) h l
words_few (x ∷ xs) a (suc c) class e = words_few xs a.1 c class e

-- a text that is used is no longer than all that are
used_among : (from : ℕ) (texts : List (List ℕ)) (used : List ℕ) (k : ℕ) (text : List ℕ) → slice_get texts k ≡ Some text → is_among used (from + k) ≡ true → length text ≤ used_bytes from texts used
used_among from [] used k text e h = absurd cc
used_among from (t ∷ ts) used zero text e h =
    let same : t ≡ text = cc in
    let g : is_among used from ≡ true = subst (λ n. is_among used n ≡ true) (omega arith) h in
    subst (λ (x : List ℕ). length x ≤ used_bytes from (t ∷ ts) used) same (rw g (omega arith))
used_among from (t ∷ ts) used (suc k) text e h =
    let g : is_among used (suc from + k) ≡ true = subst (λ n. is_among used n ≡ true) (omega arith) h in
    let r = used_among (suc from) ts used k text e g in omega (arith, r)

or_true : (b : Bool) → (b || true) ≡ true
or_true true = refl
or_true false = refl

one_among : (xs : List ℕ) (n : ℕ) → IsOneOf n xs → is_among xs n ≡ true
one_among [] n c = absurd c
one_among (m ∷ ms) n (inl e) = let h : (m == n) ≡ true = grind (arith, nat_tests) in rw h refl
one_among (m ∷ ms) n (inr c) = rw (one_among ms n c) (or_true (m == n))

one_below : (xs : List ℕ) (n most : ℕ) → IsOneOf n xs → ((k : ℕ) (d : ℕ) → k < length xs → get_or xs k d < most) → n < most
one_below [] n most c a = absurd c
one_below (m ∷ ms) n most (inl e) a = let l : m < most = a 0 0 (omega arith) in omega arith
one_below (m ∷ ms) n most (inr c) a = one_below ms n most c (λ k d l. a (suc k) d (omega arith))

there_below : {X : Type 0} (xs : List X) (k : ℕ) → k < length xs → (x : X) × (slice_get xs k ≡ Some x)
there_below [] k l = absurd (omega arith)
there_below (x ∷ xs) zero l = (x, refl)
there_below (x ∷ xs) (suc k) l = there_below xs k (omega arith)

-- a text that the trees name is there, and short enough for a service
text_is : (P : TypedProgram) (texts : List ByteList) → IsProgramWithinLimits P texts → NamesTexts (length texts) P → (i : ℕ) → IsOneOf i (program_texts P)
    → (bytes : ByteList) × (slice_get texts i ≡ Some bytes) × (length bytes ≤ text_limit)
text_is P texts limits named i c =
    let l = one_below (program_texts P) i (length texts) c named in
    let x = there_below texts i l in
    let u = used_among 0 texts (program_texts P) i x.0 x.1 (subst (λ n. is_among (program_texts P) n ≡ true) (omega arith) (one_among (program_texts P) i c)) in
    let b = limits.bytes in
    (x.0, x.1, omega (arith, u, b))

-- globals begin with the default
defaults_long : (xs : List ValueType) → length (defaults xs) ≡ length xs
defaults_long [] = refl
defaults_long (x ∷ xs) = ap suc (defaults_long xs)

defaults_plain : (xs : List ValueType) (i : ℕ) (v : Value) → entry (defaults xs) i ≡ Some v → v ≡ default
defaults_plain [] i v e = absurd cc
defaults_plain (x ∷ xs) zero v e = cc
defaults_plain (x ∷ xs) (suc i) v e = defaults_plain xs i v e

-- how many functions there are
routines_long : (P : TypedProgram) (f : ℕ) (rs : List TypedRoutine) → length (lowered_routines P f rs) ≡ length rs
routines_long P f [] = refl
routines_long P f (r ∷ rs) = ap suc (routines_long P (suc f) rs)

copies_long : (fs : List ℕ) → length (repeating_functions fs) ≡ length fs
copies_long [] = refl
copies_long (f ∷ fs) = ap suc (copies_long fs)

-- numbers that have 32 bits
has_number : (op : Op) → Has (λ n. FitsSigned w32 n) (λ n. Unit {0}) op → HasNumber op
has_number (Const to value) h = h
has_number op h = tt

have_numbers : (ops : List Op) → AllByRecursion (Has (λ n. FitsSigned w32 n) (λ n. Unit {0})) ops → AllByRecursion HasNumber ops
have_numbers [] h = tt
have_numbers (op ∷ ops) h = (has_number op h.0, have_numbers ops h.1)

-- The functions of a program's flat code, with places.
module _ (P : TypedProgram) (placed : List Placed) (functions : functions_of placed ≡ (lowered P).functions) where
  -- what holds of each function holds of each that has places
  of_function : (Q : Function → Type 0) → AllByRecursion Q (lowered P).functions → (f : ℕ) (p : Placed) → slice_get placed f ≡ Some p → Q p.function
  of_function Q a f p e = all_mapped (λ (q : Placed). q.function) Q placed (subst (λ (xs : List Function). AllByRecursion Q xs) (sym functions) a) f p e

  -- a text that a body names is one that the trees name
  pub named_is : (i : ℕ) → IsNamed (bodies_of placed) i → IsOneOf i (program_texts P)
  named_is i n =
      let m = mapped_at function_pieces placed n.function n.body n.there in
      let p = m.0 in
      let c : Contains (named (function_pieces p)) (Text i) = subst (λ (xs : List Piece). Contains (named xs) (Text i)) (sym m.2) n.among in
      let d : Contains (names_of p.function.ops) (Text i) = subst (λ (xs : List What). Contains xs (Text i)) (function_named p) c in
      named_in (program_texts P) p.function.ops i (of_function (NamesOnly (program_texts P)) (program_named P) n.function p m.1) d

  pub named_among : (i : ℕ) → IsNamed (bodies_of placed) i → is_among (program_texts P) i ≡ true
  named_among i n = one_among (program_texts P) i (named_is i n)

-- A program that can be built, compiled to an image. That its flat code is well formed is told, and so is that the image shows it.
module _ (P : TypedProgram) (texts : List ByteList) (image : List ℕ) (b : IsBuildable P texts) (k : IsCompiled P texts image) (formed : IsWellFormed (lowered P)) where
  abbrev C : FlatCode
  C = lowered P

  abbrev placed : List Placed
  placed = k.placed

  abbrev bodies : List (List Piece)
  bodies = bodies_of placed

  ready : (f : ℕ) (p : Placed) → slice_get placed f ≡ Some p → IsReady p × HasNumbers p.function
  ready f p e = (
    record {
      formed = (of_function P placed k.functions (IsFunctionAmong (length C.functions) (length C.classes)) formed.functions f p e).alone;
      sound = all_found (λ (q : Placed). ArePlacesSound q.function q.places) placed k.sound f p e;
    },
    have_numbers p.function.ops (of_function P placed k.functions (AllHave (λ n. FitsSigned w32 n) (λ n. Unit {0})) (program_fits P b.typed) f p e),
  )

  functions_few : length C.functions ≤ division
  functions_few =
      let a = few_functions P texts b.limits in
      let l = length-append (lowered_routines P 0 P.functions) (repeating_functions (repeated_in_program P)) in
      let m = routines_long P 0 P.functions in
      let n = copies_long (repeated_in_program P) in
      omega (arith, a, l, m, n)

  lengths : length bodies ≡ length C.functions
  lengths = length-map placed function_pieces ∙ (sym (length-map placed (λ (q : Placed). q.function)) ∙ ap (λ (xs : List Function). length xs) k.functions)

  bodies_sound : (f : ℕ) (body : List Piece) → slice_get bodies f ≡ Some body → IsSound body
  bodies_sound f body e = let m = mapped_at function_pieces placed f body e in subst (λ (xs : List Piece). IsSound xs) m.2 (function_sound m.0 (ready f m.0 m.1).0)

  imaged : IsImaged C bodies texts image
  imaged = record {
    bodies_are = lengths;
    sound = bodies_sound;
    few = functions_few;
    words = λ c class e. words_few P.classes (few_fields P texts b.limits) c class e;
    texts_are = λ i n. text_is P texts b.limits b.named i (named_is P placed k.functions i n);
    bytes = b.bytes;
    linked = k.linked;
    room = k.room;
  }

  abbrev a : Addresses
  a = k.linked.at

  -- where images show their programs this one does
  pub shows : ((C : FlatCode) (bodies : List (List Piece)) (texts : List ByteList) (image : List ℕ) (h : IsImaged C bodies texts image) → InFlash C bodies texts image h.linked.at) → InFlash C bodies texts image a
  unfolding imaged
  shows law = law C bodies texts image imaged

  pub shown : InFlash C bodies texts image a → IsImage C placed image a texts
  shown f = record { formed = formed; functions = k.functions; ready = ready; shows = f }

  main_below : P.main < length P.functions
  main_below = let m = b.typed.main in entry_within P.functions P.main m.0 m.1

  globals_few : length (defaults P.globals) ≤ 256
  globals_few = let l = defaults_long P.globals in let m = b.limits.globals in omega (arith, l, m)

  -- so the image does what the program's source does
  pub implements : InFlash C bodies texts image a
      → ((weight : FlatActivity → FlatHeap → ℕ) → IsLight C weight → Lowers P texts (flat C texts) (λ h x y. Tied P texts x y) (CodeTied P texts) weight)
      → (IsImage C placed image a texts → Emits (flat C texts) image (ties C placed image a) (weight_of C)) → ImageImplements P texts image
  implements f lowers emits =
      let im = shown f in
      let is_main : IsCode C placed image a P.main (main_of image) = (formed.main, im.shows.main) in
      passes_implement P texts image (flat C texts) (λ h x y. Tied P texts x y) (CodeTied P texts) (ties C placed image a) (weight_of C) (lowers (weight_of C) (weights_light C formed)) (emits im)
      (typed P) (source_sound P b.typed texts) (inl b.typed.main) (empty_is P b.typed texts) P.main (inl (main_below, refl)) is_main
      (λ free. (refl, shows_nothing (IsText C placed image a) (IsCode C placed image a) a.class (defaults P.globals) (defaults_plain P.globals) globals_few))
