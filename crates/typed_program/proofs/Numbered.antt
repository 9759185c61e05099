-- What is still to be built has numbers: of declarations and of functions.
use Rattle.std.proofs.Common.{◌≡◌, ℕ, ◌+◌, ◌^◌, ◌<◌, ◌≤◌, Bool, true, false, Option, None, List, [], ◌∷◌, ◌++◌, length, drop, get_or, refl, ap, sym, ◌∙◌, arith, length-append, zero-add}
use Rattle.sts_base.specs.declared.refused.Code.TheVariants.{OverLimit}
use Rattle.sts_syntax.specs.declared.units.Item.{Item}
use Rattle.sts_syntax.specs.Programs.{TopLevel, Class, Function, Main, Program, top_level, top_levels}
use Rattle.sts_syntax.specs.TypedTrees.{TypedRoutine}
use Rattle.sts_scope.proofs.Laws.{drop_at}
use Rattle.sts_scope.specs.declared.kinds.StaticType.{StaticType}
use Rattle.sts_scope.specs.declared.known.Known.{Known}
use Rattle.sts_scope.specs.Entries.{Naming, class_names, classes_in, item_class, item_entries, entries_from}
use Rattle.sts_scope.specs.Failures.{unless}
use Rattle.sts_scope.specs.Handlers.{item_routines, all_routines}
use Rattle.sts_scope.specs.Scopes.{all_names, library_entries, library_classes}
use Rattle.text_sizes.specs.Numbered.{item_numbered, all_numbered}
use Rattle.text_sizes.proofs.Laws.{item_routines_numbered}
use Rattle.type_derive.specs.Derived.{known}
use Rattle.typed_numbers.specs.Building.{numbering_of}
use Rattle.typed_numbers.specs.Counts.{counts_fit}
use Rattle.typed_trees.specs.declared.build_places.Plan.{Plan}
use Rattle.typed_trees.specs.Sites.{naming}
use Rattle.typed_program.specs.declared.build_parts.Whole.{Whole}
use Rattle.typed_program.specs.Wholes as w
use Rattle.typed_program.specs.Wholes.{AddsPart}
use Rattle.typed_program.proofs.AtMost.{library_long, main_at_most, text_long}

-- a part of the library is one declaration at most
pub library_next : (d : ℕ) (i : TopLevel) → w.library_declaration d i ≤ d + 1
library_next d (Class at x base base_at members) = omega arith
library_next d (Function x r) = omega arith
library_next d (Main a) = omega arith

library_after : (l : Plan) (d n : ℕ) (i : TopLevel) (rest : Program) → w.library_made l d n (i ∷ rest) ≡ w.library_item l d n i ++ w.library_made l (w.library_declaration d i) (w.library_function n i) rest
library_after l d n (Class at x base base_at members) rest = refl
library_after l d n (Function x r) rest = refl
library_after l d n (Main a) rest = refl

-- what is left of the library is the next part, and what is left behind it
pub library_left : (l : Plan) (d n d' n' : ℕ) (xs : List Item) (i : ℕ) (x : Item) → i < length xs → x ≡ get_or xs i x → d' ≡ w.library_declaration d (top_level x) → n' ≡ w.library_function n (top_level x)
    → w.library_made l d n (top_levels (drop i xs)) ≡ w.library_item l d n (top_level x) ++ w.library_made l d' n' (top_levels (drop (i + 1) xs))
library_left l d n d' n' xs i x lt is hd hn =
    let t = top_level x in
    let rest = top_levels (drop (i + 1) xs) in
    let here = w.library_item l d n t in
    ap (λ (q : List Item). w.library_made l d n (top_levels q)) (drop_at xs i x lt is) ∙ library_after l d n t rest
    ∙ ap (λ (q : ℕ). here ++ w.library_made l q (w.library_function n t) rest) (sym hd) ∙ ap (λ (q : ℕ). here ++ w.library_made l d' q rest) (sym hn)

entries_left : (f : Naming) (c : ℕ) (xs : List Item) (i : ℕ) (x : Item) → i < length xs → x ≡ get_or xs i x
    → length (entries_from f c (top_levels (drop i xs))) ≡ length (item_entries f c (top_level x)) + length (entries_from f (c + classes_in (top_level x)) (top_levels (drop (i + 1) xs)))
entries_left f c xs i x lt is =
    ap (λ (q : List Item). length (entries_from f c (top_levels q))) (drop_at xs i x lt is)
    ∙ length-append (item_entries f c (top_level x)) (entries_from f (c + classes_in (top_level x)) (top_levels (drop (i + 1) xs)))

-- a part of a text has numbers where all that are left have numbers, and so have those behind it
pub item_declared : (f : Naming) (c d : ℕ) (xs : List Item) (i : ℕ) (x : Item) → i < length xs → x ≡ get_or xs i x
    → d + length (entries_from f c (top_levels (drop i xs))) < 2 ^ 64 → d + length (item_entries f c (top_level x)) < 2 ^ 64
item_declared f c d xs i x lt is h = let e = entries_left f c xs i x lt is in omega (arith, e, h)

pub item_counted : (n : ℕ) (xs : List Item) (i : ℕ) (x : Item) → i < length xs → x ≡ get_or xs i x → n + all_numbered (top_levels (drop i xs)) < 2 ^ 32 → n + item_numbered (top_level x) < 2 ^ 32
item_counted n xs i x lt is h =
    let e = ap (λ (q : List Item). all_numbered (top_levels q)) (drop_at xs i x lt is) in
    omega (arith, e, h)

pub item_classes : (c : ℕ) (xs : List Item) (i : ℕ) (x : Item) → i < length xs → x ≡ get_or xs i x → c + length (class_names (top_levels (drop i xs))) < 2 ^ 32 → c + classes_in (top_level x) < 2 ^ 32
item_classes c xs i x lt is h =
    let e = ap (λ (q : List Item). length (class_names (top_levels q))) (drop_at xs i x lt is) in
    let a = length-append (item_class (top_level x)) (class_names (top_levels (drop (i + 1) xs))) in
    omega (arith, e, a, h)

pub items_declared : (l : Plan) (old new : Whole) (xs : List Item) (i : ℕ) (x : Item) → i < length xs → x ≡ get_or xs i x → AddsPart l old new (top_level x)
    → old.declaration + length (entries_from (naming l) old.class (top_levels (drop i xs))) < 2 ^ 64 → new.declaration + length (entries_from (naming l) new.class (top_levels (drop (i + 1) xs))) < 2 ^ 64
items_declared l old new xs i x lt is a h =
    let rest = top_levels (drop (i + 1) xs) in
    let e = entries_left (naming l) old.class xs i x lt is in
    let k = ap (λ (q : ℕ). length (entries_from (naming l) q rest)) a.class in
    omega (arith, e, k, h, a.declaration)

pub items_counted : (l : Plan) (old new : Whole) (xs : List Item) (i : ℕ) (x : Item) → i < length xs → x ≡ get_or xs i x → AddsPart l old new (top_level x)
    → old.builder.function + all_numbered (top_levels (drop i xs)) < 2 ^ 32 → new.builder.function + all_numbered (top_levels (drop (i + 1) xs)) < 2 ^ 32
items_counted l old new xs i x lt is a h =
    let e = ap (λ (q : List Item). all_numbered (top_levels q)) (drop_at xs i x lt is) in
    omega (arith, e, h, a.function, item_routines_numbered (top_level x))

-- the locals of a part have numbers
item_locals : (l : Plan) (old : Whole) (i : TopLevel) → length (w.item_of l old i).locals ≤ item_numbered i
item_locals l old (Class at x base base_at members) = omega arith
item_locals l old (Function x r) = omega arith
item_locals l old (Main a) =
    let m = main_at_most l.tables.now (naming l) l.known.now (numbering_of l.numbers.now) old.declaration a old.builder.local old.builder.function in
    omega (arith, m)

pub items_located : (l : Plan) (old new : Whole) (xs : List Item) (i : ℕ) (x : Item) → i < length xs → x ≡ get_or xs i x → AddsPart l old new (top_level x)
    → old.builder.local + all_numbered (top_levels (drop i xs)) < 2 ^ 32 → new.builder.local + all_numbered (top_levels (drop (i + 1) xs)) < 2 ^ 32
items_located l old new xs i x lt is a h =
    let e = ap (λ (q : List Item). all_numbered (top_levels q)) (drop_at xs i x lt is) in
    omega (arith, e, h, a.local, item_locals l old (top_level x))

pub items_classes : (l : Plan) (old new : Whole) (xs : List Item) (i : ℕ) (x : Item) → i < length xs → x ≡ get_or xs i x → AddsPart l old new (top_level x)
    → old.class + length (class_names (top_levels (drop i xs))) < 2 ^ 32 → new.class + length (class_names (top_levels (drop (i + 1) xs))) < 2 ^ 32
items_classes l old new xs i x lt is a h =
    let e = ap (λ (q : List Item). length (class_names (top_levels q))) (drop_at xs i x lt is) in
    let b = length-append (item_class (top_level x)) (class_names (top_levels (drop (i + 1) xs))) in
    omega (arith, e, b, h, a.class)

-- a part of the library has numbers where all that are left have numbers, and so have those behind it
pub library_counted : (n n' : ℕ) (xs : List Item) (i : ℕ) (x : Item) → i < length xs → x ≡ get_or xs i x → n' ≡ w.library_function n (top_level x)
    → n + all_numbered (top_levels (drop i xs)) < 2 ^ 32 → n' + all_numbered (top_levels (drop (i + 1) xs)) < 2 ^ 32
library_counted n n' xs i x lt is hn h =
    let e = ap (λ (q : List Item). all_numbered (top_levels q)) (drop_at xs i x lt is) in
    let a = at_most (top_level x) in
    omega (arith, e, a, hn, h, item_routines_numbered (top_level x))
  where
    at_most : (t : TopLevel) → w.library_function n t ≤ n + item_routines t
    at_most (Class at y base base_at members) = omega arith
    at_most (Function y r) = omega arith
    at_most (Main a) = omega arith

pub entries_long : (f : Naming) (c : ℕ) (xs ys : Program) → length (entries_from f c (xs ++ ys)) ≡ length (entries_from f c xs) + length (entries_from f (c + length (class_names xs)) ys)
entries_long f c [] ys =
    let z : c ≡ c + 0 = omega arith in
    ap (λ (q : ℕ). length (entries_from f q ys)) z ∙ sym (zero-add (length (entries_from f (c + 0) ys)))
entries_long f c (i ∷ xs) ys =
    let here = item_entries f c i in
    let next = c + classes_in i in
    let behind = entries_from f next xs in
    let last = entries_from f (next + length (class_names xs)) ys in
    let z : next + length (class_names xs) ≡ c + length (item_class i ++ class_names xs) = omega (arith, length-append (item_class i) (class_names xs)) in
    let whole : length (here ++ entries_from f next (xs ++ ys)) ≡ length here + length (entries_from f next (xs ++ ys)) = length-append here (entries_from f next (xs ++ ys)) in
    let first : length (here ++ behind) ≡ length here + length behind = length-append here behind in
    let rest : length (entries_from f next (xs ++ ys)) ≡ length behind + length last = entries_long f next xs ys in
    let sum : length (here ++ entries_from f next (xs ++ ys)) ≡ length (here ++ behind) + length last = omega (arith, whole, first, rest) in
    sum ∙ ap (λ (q : ℕ). length (here ++ behind) + length (entries_from f q ys)) z

-- the declarations of a text stand behind those of the library, and both are all
pub text_declared : (l : Plan) (c : ℕ) (library text : Program) (kinds : List (Option StaticType)) → naming l ≡ all_names library text → l.known.now ≡ known library text kinds → c ≡ library_classes library text
    → l.known.now.library + length (entries_from (naming l) c text) ≡ length l.known.now.entries
text_declared l c library text kinds en ek ec =
    let f = all_names library text in
    let n = length (class_names library) in
    let z : 0 + n ≡ n = zero-add n in
    let all : length (entries_from f 0 (library ++ text)) ≡ library_entries library text + length (entries_from f (0 + n) text) = entries_long f 0 library text in
    ap (λ (q : Known). q.library + length (entries_from (naming l) c text)) ek
    ∙ ap (λ (q : Naming). library_entries library text + length (entries_from q c text)) en
    ∙ ap (λ (q : ℕ). library_entries library text + length (entries_from f q text)) (ec ∙ sym z)
    ∙ sym all ∙ ap (λ (q : Known). length q.entries) (sym ek)

-- all functions of a library and a text have numbers where all that stands in their trees has
pub routines_counted : (l : Plan) (c : ℕ) (library text : Program) (all : List TypedRoutine) → all ≡ w.library_made l 0 0 library ++ (w.text_made l c library text).routines
    → all_numbered library + all_numbered text < 2 ^ 32 → length all < 2 ^ 32
routines_counted l c library text all is h =
    let first = w.library_made l 0 0 library in
    let made = w.text_made l c library text in
    let a : length first ≤ all_numbered library = library_long l.tables.now (naming l) l.known.now (numbering_of l.numbers.now) 0 0 library in
    let b : length made.locals + length made.routines ≤ all_numbered text = text_long l.tables.now (naming l) l.known.now (numbering_of l.numbers.now) c l.known.now.library 0 (all_routines library) text in
    let e : length all ≡ length first + length made.routines = ap length is ∙ length-append first made.routines in
    omega (arith, a, b, e, h)

-- a program of which no count is past a limit
pub counts_hold : (k : Known) → unless (counts_fit k) OverLimit 0 ≡ None → counts_fit k ≡ true
counts_hold k h = by (counts_fit k) h
  where
    by : (b : Bool) → unless b OverLimit 0 ≡ None → b ≡ true
    by true h = refl
    by false h = cc
