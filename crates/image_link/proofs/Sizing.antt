-- How long an image is at most, by the weights of its functions.
use Rattle.std.proofs.Common.{◌≡◌, ℕ, zero, suc, ◌+◌, ◌*◌, ◌<◌, ◌≤◌, ◌⊎◌, inl, inr, List, [], ◌∷◌, length, Bool, true, false, cond, Some, None, refl, ap, ◌∙◌, subst, arith, ◌==◌}
use Rattle.std.specs.Prelude.{map, ◌||◌, Contains}
use Rattle.std.specs.List.{AllByRecursion}
use Rattle.std.proofs.lemmas.Bool.Decides.{nat_tests}
use Rattle.thumb_code.specs.Map.{flash_end}
use Rattle.board_world.specs.Observations.{ByteList}
use Rattle.flat_ir.specs.declared.ops.FlatClass.{FlatClass}
use Rattle.flat_ir.specs.declared.ops.FlatCode.{FlatCode}
use Rattle.thumb_layout.specs.declared.pieces.What.{What}
use Rattle.thumb_layout.specs.declared.pieces.What.TheVariants.{Function, Text, Class}
use Rattle.thumb_layout.specs.declared.pieces.Piece.{Piece}
use Rattle.thumb_layout.specs.declared.laid.Fix.{Fix}
use Rattle.thumb_layout.specs.declared.laid.Laid.{Laid}
use Rattle.thumb_layout.specs.Layout.{up}
use Rattle.thumb_layout.specs.Cells.{laid}
use Rattle.thumb_layout.specs.Openings.{named, addressed}
use Rattle.thumb_layout.proofs.Laws.{fixes_named}
use Rattle.thumb_emit.specs.InFlash.{IsNamed}
use Rattle.image_link.specs.inner.{end_with}
use Rattle.image_link.proofs.Written.{end_behind, names_text, code_lengths, class_lengths, text_lengths, routine_end, class_end, written_bytes}
use Rattle.image_link.specs.Image.{is_this_text, is_named, IsLinked}
use Rattle.image_link.specs.Linkable.{one_text, texts_among, used_bytes, KeepWeights, all_weights, IsLimited}
use Rattle.image_link.proofs.Whole.{image_long}
use Rattle.image_link.proofs.Alike.{alike_long}
use Rattle.image_link.proofs.LinkedBytes.{linked}
use Rattle.image_link.proofs.Showing.{all_fixed}
use Rattle.image_link.proofs.Flashing.{IsCallable, AllCallable, laid_callable}

-- how many fixes are of texts
abbrev texts_fixed : List Fix → ℕ
texts_fixed [] = 0
texts_fixed (f ∷ fs) = one_text f.what + texts_fixed fs

-- sums over functions and classes
abbrev code_bytes : List Laid → ℕ
code_bytes [] = 0
code_bytes (l ∷ ls) = length l.bytes + code_bytes ls

abbrev all_texts : List Laid → ℕ
all_texts [] = 0
all_texts (l ∷ ls) = texts_fixed l.fixes + all_texts ls

code_most : (end : ℕ) (ls : List Laid) → end_behind end (code_lengths ls) ≤ end + (code_bytes ls + 3 * length ls)
code_most end [] = omega arith
code_most end (l ∷ ls) = let h = code_most (up end + length l.bytes) ls in omega arith

classes_most : (end : ℕ) (cs : List FlatClass) → AllByRecursion (λ c. length c.slots ≤ 30) cs → end_behind end (class_lengths cs) ≤ end + 127 * length cs
classes_most end [] h = omega arith
classes_most end (c ∷ cs) h = let s = h.0 in let i = classes_most (up end + (4 + 4 * length c.slots)) cs h.1 in omega arith

-- how many texts of those from one on are named
abbrev named_count : List Laid → ℕ → List (List ℕ) → ℕ
named_count ls i [] = 0
named_count ls i (t ∷ ts) = cond (is_named ls i) 1 0 + named_count ls (i + 1) ts

text_step : (b : Bool) (end : ℕ) (t : List ℕ) → end_with end (cond b (Some (4 + length t)) None) ≤ end + (cond b (length t) 0 + 7 * cond b 1 0)
text_step true end t = omega arith
text_step false end t = omega arith

texts_most : (ls : List Laid) (end i : ℕ) (ts : List (List ℕ)) → end_behind end (text_lengths ls i ts) ≤ end + (used_bytes (is_named ls) i ts + 7 * named_count ls i ts)
texts_most ls end i [] = omega arith
texts_most ls end i (t ∷ ts) =
    let a = text_step (is_named ls i) end t in
    let s : i + 1 ≡ suc i = omega arith in
    let e : used_bytes (is_named ls) (i + 1) ts ≡ used_bytes (is_named ls) (suc i) ts = ap (λ n. used_bytes (is_named ls) n ts) s in
    let h = texts_most ls (end_with end (cond (is_named ls i) (Some (4 + length t)) None)) (i + 1) ts in omega arith

-- no more texts are named than fixes are of texts: of so many numbers from one on each fix is one at most
abbrev this_one : Bool → ℕ
this_one b = cond b 1 0

abbrev hits : (ℕ → Bool) → ℕ → ℕ → ℕ
hits p i zero = 0
hits p i (suc n) = this_one (p i) + hits p (i + 1) n

hits_none : (i n : ℕ) → hits (λ j. false) i n ≡ 0
hits_none i zero = refl
hits_none i (suc n) = let h = hits_none (i + 1) n in omega arith

or_most : (a b : Bool) → this_one (a || b) ≤ this_one a + this_one b
or_most true b = omega arith
or_most false b = omega arith

hits_or : (p q : ℕ → Bool) (i n : ℕ) → hits (λ j. p j || q j) i n ≤ hits p i n + hits q i n
hits_or p q i zero = omega arith
hits_or p q i (suc n) = let a = or_most (p i) (q i) in let h = hits_or p q (i + 1) n in omega arith

-- a number isn't met again behind it
past_number : (k i n : ℕ) → k < i → hits (λ j. k == j) i n ≡ 0
past_number k i zero l = refl
past_number k i (suc n) l = let e : (k == i) ≡ false = grind (arith, nat_tests) in let h = past_number k (i + 1) n (omega arith) in ap (λ b. this_one b + hits (λ j. k == j) (i + 1) n) e ∙ omega arith

number_by : (k i n : ℕ) (b : Bool) → (k == i) ≡ b → hits (λ j. k == j) (i + 1) n ≤ 1 → this_one b + hits (λ j. k == j) (i + 1) n ≤ 1
number_by k i n true e h = let s : k ≡ i = grind (arith, nat_tests) in let z = past_number k (i + 1) n (omega arith) in omega arith
number_by k i n false e h = omega arith

number_once : (k i n : ℕ) → hits (λ j. k == j) i n ≤ 1
number_once k i zero = omega arith
number_once k i (suc n) = number_by k i n (k == i) refl (number_once k (i + 1) n)

fix_once : (what : What) (i n : ℕ) → hits (λ j. is_this_text j what) i n ≤ one_text what
fix_once (Function f) i n = let z = hits_none i n in omega arith
fix_once (Text k) i n = number_once k i n
fix_once (Class c) i n = let z = hits_none i n in omega arith

fixes_most : (fs : List Fix) (i n : ℕ) → hits (λ j. names_text j fs) i n ≤ texts_fixed fs
fixes_most [] i n = let z = hits_none i n in omega arith
fixes_most (f ∷ fs) i n =
    let a = hits_or (λ j. is_this_text j f.what) (λ j. names_text j fs) i n in
    let b = fix_once f.what i n in
    let c = fixes_most fs i n in omega arith

laid_most : (ls : List Laid) (i n : ℕ) → hits (is_named ls) i n ≤ all_texts ls
laid_most [] i n = let z = hits_none i n in omega arith
laid_most (l ∷ ls) i n =
    let a = hits_or (λ j. names_text j l.fixes) (is_named ls) i n in
    let b = fixes_most l.fixes i n in
    let c = laid_most ls i n in omega arith

count_hits : (ls : List Laid) (i : ℕ) (ts : List (List ℕ)) → named_count ls i ts ≡ hits (is_named ls) i (length ts)
count_hits ls i [] = refl
count_hits ls i (t ∷ ts) = ap (λ n. this_one (is_named ls i) + n) (count_hits ls (i + 1) ts)

-- texts that code names are texts that bodies name
texts_by : (call : Bool) (what : What) (us : List What) (n : ℕ) → IsCallable call what → n ≡ texts_among us → one_text what + n ≡ texts_among (cond call us (what ∷ us))
texts_by true (Function f) us n h e = omega arith
texts_by true (Text i) us n h e = elim h [ ]
texts_by true (Class c) us n h e = elim h [ ]
texts_by false what us n h e = ap (λ m. one_text what + m) e

fixed_texts : (fs : List Fix) → AllCallable fs → texts_fixed fs ≡ texts_among (addressed fs)
fixed_texts [] h = refl
fixed_texts (f ∷ fs) h = texts_by f.call f.what (addressed fs) (texts_fixed fs) h.0 (fixed_texts fs h.1)

body_texts : (body : List Piece) → texts_fixed (laid body).fixes ≡ texts_among (named body)
body_texts body = fixed_texts (laid body).fixes (laid_callable body) ∙ ap texts_among (fixes_named body)

-- what keeps its weights
kept : (bodies : List (List Piece)) (ws : List ℕ) → KeepWeights bodies ws
    → (code_bytes (map laid bodies) + 7 * all_texts (map laid bodies) ≤ 52 * all_weights ws) × (4 * length (map laid bodies) ≤ all_weights ws)
kept [] [] h = (omega arith, omega arith)
kept [] (w ∷ ws) h = elim h [ ]
kept (body ∷ bodies) [] h = elim h [ ]
kept (body ∷ bodies) (w ∷ ws) h =
    let i = kept bodies ws h.2 in
    let a = i.0 in
    let b = i.1 in
    let c = h.0 in
    let d = h.1 in
    let e = body_texts body in
    (omega arith, omega arith)

-- a text that code names is one that a body names
this_is : (i : ℕ) (what : What) → is_this_text i what ≡ true → what ≡ Text i
this_is i (Function f) e = absurd cc
this_is i (Text j) e = let s : j ≡ i = grind (arith, nat_tests) in ap (λ q. Text q) s
this_is i (Class c) e = absurd cc

or_cases : (a b : Bool) → (a || b) ≡ true → (a ≡ true) ⊎ (b ≡ true)
or_cases true b e = inl refl
or_cases false b e = inr e

later_in : (w v : What) (ws : List What) → Contains ws v → Contains (w ∷ ws) v
later_in w v ws h = (suc h.0, omega (arith, h.1), h.2)

named_here : (i : ℕ) (call : Bool) (what : What) (us : List What) → IsCallable call what → is_this_text i what ≡ true → Contains (cond call us (what ∷ us)) (Text i)
named_here i true (Function f) us h e = absurd cc
named_here i true (Text j) us h e = elim h [ ]
named_here i true (Class c) us h e = elim h [ ]
named_here i false what us h e = (0, omega arith, this_is i what e)

named_later : (i : ℕ) (call : Bool) (what : What) (us : List What) → Contains us (Text i) → Contains (cond call us (what ∷ us)) (Text i)
named_later i true what us h = h
named_later i false what us h = later_in what (Text i) us h

names_in : (i : ℕ) (fs : List Fix) → AllCallable fs → names_text i fs ≡ true → Contains (addressed fs) (Text i)
names_in i [] h e = absurd cc
names_in i (f ∷ fs) h e = by (names_in i fs h.1) (or_cases (is_this_text i f.what) (names_text i fs) e)
  where
    by : (names_text i fs ≡ true → Contains (addressed fs) (Text i)) → (is_this_text i f.what ≡ true) ⊎ (names_text i fs ≡ true) → Contains (addressed (f ∷ fs)) (Text i)
    by later (inl a) = named_here i f.call f.what (addressed fs) h.0 a
    by later (inr b) = named_later i f.call f.what (addressed fs) (later b)

named_back : (bodies : List (List Piece)) (i : ℕ) → is_named (map laid bodies) i ≡ true → IsNamed bodies i
named_back [] i e = absurd cc
named_back (body ∷ bodies) i e = by (named_back bodies i) (or_cases (names_text i (laid body).fixes) (is_named (map laid bodies) i) e)
  where
    by : (is_named (map laid bodies) i ≡ true → IsNamed bodies i) → (names_text i (laid body).fixes ≡ true) ⊎ (is_named (map laid bodies) i ≡ true) → IsNamed (body ∷ bodies) i
    by later (inl a) = record { function = 0; body = body; there = refl; among = subst (λ ws. Contains ws (Text i)) (fixes_named body) (names_in i (laid body).fixes (laid_callable body) a) }
    by later (inr b) = let h = later b in record { function = suc h.function; body = h.body; there = h.there; among = h.among }

-- more texts have more bytes
more_by : (a b : Bool) (n : ℕ) → (a ≡ true → b ≡ true) → cond a n 0 ≤ cond b n 0
more_by true b n h = let e = ap (λ q. cond q n 0) (h refl) in omega arith
more_by false b n h = omega arith

used_more : (p q : ℕ → Bool) → ((j : ℕ) → p j ≡ true → q j ≡ true) → (i : ℕ) (ts : List (List ℕ)) → used_bytes p i ts ≤ used_bytes q i ts
used_more p q h i [] = omega arith
used_more p q h i (t ∷ ts) = let a = more_by (p i) (q i) (length t) (h i) in let b = used_more p q h (suc i) ts in omega arith

-- The bound.
written_most : (C : FlatCode) (bodies : List (List Piece)) (texts : List ByteList) (ws : List ℕ) (used : ℕ → Bool) → IsLimited C bodies texts ws used → length (written_bytes (map laid bodies) C texts) ≤ flash_end
written_most C bodies texts ws used h =
    let ls = map laid bodies in
    let k = kept bodies ws h.keeps in
    let code = k.0 in
    let four = k.1 in
    let total = h.total in
    let few = h.classes in
    let bytes = h.bytes in
    let a = code_most 14 ls in
    let b = classes_most (routine_end ls) C.classes h.slots in
    let c = texts_most ls (class_end ls C.classes) 0 texts in
    let d = laid_most ls 0 (length texts) in
    let e = count_hits ls 0 texts in
    let f = image_long ls C texts in
    let g = used_more (is_named ls) used (λ j n. h.uses j (named_back bodies j n)) 0 texts in
    omega arith

pub image_most : (C : FlatCode) (bodies : List (List Piece)) (texts : List ByteList) (ws : List ℕ) (used : ℕ → Bool) (image : List ℕ) → IsLimited C bodies texts ws used → IsLinked (map laid bodies) C texts image
    → length image ≤ flash_end
image_most C bodies texts ws used image h linked_to =
    let long = alike_long (map laid bodies) C texts image (written_bytes (map laid bodies) C texts) linked_to (linked (map laid bodies) C texts (all_fixed bodies)) in
    let most = written_most C bodies texts ws used h in
    omega arith
