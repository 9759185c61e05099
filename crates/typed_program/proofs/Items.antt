-- The parts of a text, one after another.
use Rattle.std.proofs.Common.{◌≡◌, ℕ, suc, ◌+◌, ◌<◌, ◌≤◌, List, [], ◌∷◌, ◌++◌, length, drop, get_or, refl, ap, sym, ◌∙◌, arith}
use Rattle.sts_base.specs.declared.tables.Tables.{Tables}
use Rattle.sts_syntax.specs.declared.typed.TypedBody.{TypedBody}
use Rattle.sts_syntax.specs.declared.units.Item.{Item}
use Rattle.sts_syntax.specs.Programs.{TopLevel, Class, Function, Main, Program, top_level, top_levels}
use Rattle.sts_syntax.specs.TypedTrees as e
use Rattle.sts_syntax.specs.TypedTrees.{TypedStatement, TypedStatements, TypedProgram}
use Rattle.sts_syntax.specs.TypedViews.{typed_routines}
use Rattle.sts_scope.proofs.Laws.{drop_at}
use Rattle.sts_scope.specs.declared.known.Known.{Known}
use Rattle.sts_scope.specs.Entries.{Naming, classes_in, item_entries}
use Rattle.sts_scope.specs.Handlers.{item_routines, all_routines}
use Rattle.type_derive.specs.Making.{Made}
use Rattle.sts_scope.specs.Numbers.{Numbering}
use Rattle.typed_laws.specs.inner.FilledPrograms as p
use Rattle.typed_laws.specs.Programs.{◌before◌}
use Rattle.typed_numbers.specs.Building.{numbering_of}
use Rattle.typed_program.specs.declared.build_parts.Whole.{Whole}
use Rattle.typed_trees.specs.declared.build_places.Plan.{Plan}
use Rattle.typed_trees.specs.Sites.{naming}
use Rattle.typed_program.specs.Wholes as w
use Rattle.typed_program.specs.Wholes.{AddsPart}
use Rattle.typed_trees.proofs.Laws.{drop_all}

-- a part, before what is made of the rest
abbrev pub joined : Made (List TypedStatement) → Made TypedStatements → Made TypedStatements
joined here behind = record { it = here.it before behind.it; locals = here.locals ++ behind.locals; routines = here.routines ++ behind.routines }

pub items_next : (l : Plan) (c d m n : ℕ) (i : TopLevel) (rest : Program) → w.items_made l c d m n (i ∷ rest)
    ≡ joined (w.item_made l c d m n i) (w.items_made l (c + classes_in i) (d + length (item_entries (naming l) c i)) (m + length (w.item_made l c d m n i).locals) (n + item_routines i) rest)
items_next l c d m n (Class at x base base_at members) rest =
    let i = Class at x base base_at members in
    let d' = d + length (item_entries (naming l) c i) in
    let here = w.item_made l c d m n i in
    let z : m ≡ m + 0 = omega arith in
    let o : suc c ≡ c + 1 = omega arith in
    ap (λ (q : ℕ). joined here (w.items_made l q d' m (n + item_routines i) rest)) o ∙ ap (λ (q : ℕ). joined here (w.items_made l (c + 1) d' q (n + item_routines i) rest)) z
items_next l c d m n (Function x r) rest =
    let i = Function x r in
    let here = w.item_made l c d m n i in
    let z : m ≡ m + 0 = omega arith in
    let o : suc d ≡ d + 1 = omega arith in
    let k : c ≡ c + 0 = omega arith in
    ap (λ (q : ℕ). joined here (w.items_made l q (suc d) m (n + item_routines i) rest)) k ∙ ap (λ (q : ℕ). joined here (w.items_made l (c + 0) q m (n + item_routines i) rest)) o
    ∙ ap (λ (q : ℕ). joined here (w.items_made l (c + 0) (d + 1) q (n + item_routines i) rest)) z
items_next l c d m n (Main a) rest =
    let i = Main a in
    let here = w.item_made l c d m n i in
    let k : c ≡ c + 0 = omega arith in
    ap (λ (q : ℕ). joined here (w.items_made l q (d + length (item_entries (naming l) c i)) (m + length here.locals) (n + item_routines i) rest)) k

before_append : (xs ys : List TypedStatement) (zs : TypedStatements) → (xs ++ ys) before zs ≡ xs before (ys before zs)
before_append [] ys zs = refl
before_append (x ∷ xs) ys zs = ap (λ (q : TypedStatements). e.also x q) (before_append xs ys zs)

-- what is left is the next part, and what is left behind it
pub items_left : (l : Plan) (old new : Whole) (xs : List Item) (i : ℕ) (x : Item) → i < length xs → x ≡ get_or xs i x → AddsPart l old new (top_level x)
    → w.items_of l old (top_levels (drop i xs)) ≡ joined (w.item_of l old (top_level x)) (w.items_of l new (top_levels (drop (i + 1) xs)))
items_left l old new xs i x lt is a =
    let t = top_level x in
    let rest = top_levels (drop (i + 1) xs) in
    let here = w.item_of l old t in
    let c = old.class + classes_in t in
    let d = old.declaration + length (item_entries (naming l) old.class t) in
    let m = old.builder.local + length here.locals in
    let n = old.builder.function + item_routines t in
    ap (λ (q : List Item). w.items_of l old (top_levels q)) (drop_at xs i x lt is)
    ∙ items_next l old.class old.declaration old.builder.local old.builder.function t rest
    ∙ ap (λ (q : ℕ). joined here (w.items_made l q d m n rest)) (sym a.class)
    ∙ ap (λ (q : ℕ). joined here (w.items_made l new.class q m n rest)) (sym a.declaration)
    ∙ ap (λ (q : ℕ). joined here (w.items_made l new.class new.declaration q n rest)) (sym a.local)
    ∙ ap (λ (q : ℕ). joined here (w.items_made l new.class new.declaration new.builder.local q rest)) (sym a.function)

pub step_before : (old new here : List TypedStatement) (left rest whole : TypedStatements) → (old before left) ≡ whole → left ≡ (here before rest) → new ≡ old ++ here → (new before rest) ≡ whole
step_before old new here left rest whole h is added =
    ap (λ (q : List TypedStatement). q before rest) added ∙ before_append old here rest ∙ ap (λ (q : TypedStatements). old before q) (sym is) ∙ h

pub items_end : (l : Plan) (b : Whole) (xs : List Item) (i : ℕ) → length xs ≤ i → w.items_of l b (top_levels (drop i xs)) ≡ record { it = e.done; locals = []; routines = [] }
items_end l b xs i le = ap (λ (q : List Item). w.items_of l b (top_levels q)) (drop_all xs i le)

pub routines_long : (xs : List TypedBody) → length (typed_routines xs) ≡ length xs
routines_long [] = refl
routines_long (x ∷ xs) = ap suc (routines_long xs)

-- a whole program, over what it is made of
abbrev whole : Tables → Naming → Known → Numbering → ℕ → Program → Program → TypedProgram
whole t f k z c library text =
    let first = p.library_made t f k z 0 0 library in
    let made = p.items_made t f k z c k.library 0 (all_routines library) text in
    record {
      classes = p.class_entries t f k z 0 k.classes;
      functions = first ++ made.routines ++ w.main_of made.locals made.it ∷ [];
      globals = p.global_types t f k z 0 k.entries;
      main = length first + length made.routines;
    }

pub whole_is : (l : Plan) (c c' : ℕ) (library text : Program) (f : Naming) (k : Known) (z : Numbering) → naming l ≡ f → l.known.now ≡ k → numbering_of l.numbers.now ≡ z → c ≡ c'
    → w.program_made l c library text ≡ whole l.tables.now f k z c' library text
whole_is l c c' library text f k z ef ek ez ec =
    let t = l.tables.now in
    ap (λ (q : Naming). whole t q l.known.now (numbering_of l.numbers.now) c library text) ef
    ∙ ap (λ (q : Known). whole t f q (numbering_of l.numbers.now) c library text) ek
    ∙ ap (λ (q : Numbering). whole t f k q c library text) ez
    ∙ ap (λ (q : ℕ). whole t f k z q library text) ec
