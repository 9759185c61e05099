-- Classes and globals, one after another.
use Rattle.std.proofs.Common.{◌≡◌, ℕ, suc, ◌+◌, ◌<◌, List, [], ◌∷◌, ◌++◌, length, drop, drop-cons, add-one, map, get_or, refl, ap, sym, ◌∙◌, subst, append_assoc, Bool, true, false}
use Rattle.sts_syntax.specs.declared.types.Ty.{Ty}
use Rattle.sts_syntax.specs.declared.typed.TypedClass.{TypedClass}
use Rattle.sts_syntax.specs.Types as value
use Rattle.sts_syntax.specs.Types.{ValueType}
use Rattle.sts_syntax.specs.TypedTrees.{ClassEntry}
use Rattle.sts_syntax.specs.TypedViews as view
use Rattle.std.proofs.Common.{Option}
use Rattle.sts_scope.specs.declared.entries.Entry.{Entry}
use Rattle.sts_scope.specs.declared.entries.ClassHead.{ClassHead}
use Rattle.sts_scope.specs.Scopes.{is_global}
use Rattle.sts_scope.specs.Rules.{kind_at}
use Rattle.typed_trees.specs.declared.build_places.Plan.{Plan}
use Rattle.typed_trees.specs.Functions as functions
use Rattle.typed_program.specs.Wholes as w
use Rattle.typed_trees.proofs.Laws.{values_append, next_value, drop_next}

pub next_mapped : (f : ℕ → ValueType) (names : List ℕ) (i : ℕ) (found : List Ty) (t : Ty) → i < length names → value.value_types found ++ map f (drop i names) ≡ map f names → value.value_type t ≡ f (get_or names i 0)
    → value.value_types (found ++ t ∷ []) ++ map f (drop (i + 1) names) ≡ map f names
next_mapped f names i found t l h e =
    let d : drop i names ≡ get_or names i 0 ∷ drop (i + 1) names = drop-cons names i 0 l ∙ ap (λ n. get_or names i 0 ∷ drop n names) (sym (add-one i)) in
    next_value found t (f (get_or names i 0)) (map f (drop (i + 1) names)) (map f names) (ap (λ (q : List ℕ). value.value_types found ++ map f q) (sym d) ∙ h) e

classes_append : (xs ys : List TypedClass) → view.class_entries (xs ++ ys) ≡ view.class_entries xs ++ view.class_entries ys
classes_append [] ys = refl
classes_append (x ∷ xs) ys = ap (λ q. view.class_entry x ∷ q) (classes_append xs ys)

pub next_class : (found : List TypedClass) (c : TypedClass) (v : ClassEntry) (rest all : List ClassEntry) → view.class_entries found ++ v ∷ rest ≡ all → view.class_entry c ≡ v → view.class_entries (found ++ c ∷ []) ++ rest ≡ all
next_class found c v rest all h e =
    ap (λ q. q ++ rest) (classes_append found (c ∷ []))
    ∙ (append_assoc (view.class_entries found) (view.class_entry c ∷ []) rest ∙ (ap (λ q. view.class_entries found ++ q ∷ rest) e ∙ h))

-- a declaration's own part of the types of globals
pub globals_next : (l : Plan) (d : ℕ) (a : Entry) (rest : List Entry) → w.global_types l d (a ∷ rest) ≡ w.one_global l d a ++ w.global_types l (suc d) rest
globals_next l d a rest = of_sort (is_global a.sort)
  where
    of_sort : (b : Bool) → elim b [ true ↦ functions.class_result l (kind_at l.known.now d) ∷ w.global_types l (suc d) rest | false ↦ w.global_types l (suc d) rest ]
        ≡ elim b [ true ↦ functions.class_result l (kind_at l.known.now d) ∷ [] | false ↦ [] ] ++ w.global_types l (suc d) rest
    of_sort true = refl
    of_sort false = refl

one_true : (l : Plan) (d : ℕ) (a : Entry) → is_global a.sort ≡ true → w.one_global l d a ≡ functions.class_result l (kind_at l.known.now d) ∷ []
one_true l d a e = subst (λ (b : Bool). elim b [ true ↦ functions.class_result l (kind_at l.known.now d) ∷ [] | false ↦ [] ] ≡ functions.class_result l (kind_at l.known.now d) ∷ []) (sym e) refl

pub one_false : (l : Plan) (d : ℕ) (a : Entry) → is_global a.sort ≡ false → w.one_global l d a ≡ []
one_false l d a e = subst (λ (b : Bool). elim b [ true ↦ functions.class_result l (kind_at l.known.now d) ∷ [] | false ↦ [] ] ≡ []) (sym e) refl

pub global_added : (l : Plan) (d : ℕ) (a : Entry) (old new : List Ty) (t : Ty) → is_global a.sort ≡ true → value.value_type t ≡ functions.class_result l (kind_at l.known.now d) → new ≡ old ++ t ∷ []
    → value.value_types new ≡ value.value_types old ++ w.one_global l d a
global_added l d a old new t g e h =
    ap (λ q. value.value_types q) h ∙ (values_append old (t ∷ []) ∙ (ap (λ q. value.value_types old ++ q ∷ []) e ∙ ap (λ q. value.value_types old ++ q) (sym (one_true l d a g))))

pub global_next : (l : Plan) (d : ℕ) (entries : List Entry) (old new : List Ty) (a : Entry) → d < length entries → get_or entries d a ≡ a → value.value_types new ≡ value.value_types old ++ w.one_global l d a
    → value.value_types old ++ w.global_types l d (drop d entries) ≡ w.global_types l 0 entries → value.value_types new ++ w.global_types l (d + 1) (drop (d + 1) entries) ≡ w.global_types l 0 entries
global_next l d entries old new a less at h e =
    let r = drop_next entries d less in
    let same : r.0 ≡ a = sym (r.1 a) ∙ at in
    let n = ap (λ q. w.global_types l d q) r.2 ∙ globals_next l d r.0 (drop (d + 1) entries) in
    let m : w.global_types l d (drop d entries) ≡ w.one_global l d a ++ w.global_types l (d + 1) (drop (d + 1) entries) =
    n ∙ (ap (λ q. w.one_global l d q ++ w.global_types l (suc d) (drop (d + 1) entries)) same ∙ ap (λ k. w.one_global l d a ++ w.global_types l k (drop (d + 1) entries)) (sym (add-one d))) in
    ap (λ q. q ++ w.global_types l (d + 1) (drop (d + 1) entries)) h
    ∙ (append_assoc (value.value_types old) (w.one_global l d a) (w.global_types l (d + 1) (drop (d + 1) entries)) ∙ (ap (λ q. value.value_types old ++ q) (sym m) ∙ e))

pub class_next : (l : Plan) (d : ℕ) (classes : List ClassHead) (old new : List TypedClass) (t : TypedClass) → d < length classes → view.class_entry t ≡ w.class_entry l d → new ≡ old ++ t ∷ []
    → view.class_entries old ++ w.class_entries l d (drop d classes) ≡ w.class_entries l 0 classes → view.class_entries new ++ w.class_entries l (d + 1) (drop (d + 1) classes) ≡ w.class_entries l 0 classes
class_next l d classes old new t less e h i =
    let r = drop_next classes d less in
    let m : w.class_entries l d (drop d classes) ≡ w.class_entry l d ∷ w.class_entries l (d + 1) (drop (d + 1) classes) =
    ap (λ q. w.class_entries l d q) r.2 ∙ ap (λ k. w.class_entry l d ∷ w.class_entries l k (drop (d + 1) classes)) (sym (add-one d)) in
    ap (λ q. view.class_entries q ++ w.class_entries l (d + 1) (drop (d + 1) classes)) h
    ∙ next_class old t (w.class_entry l d) (w.class_entries l (d + 1) (drop (d + 1) classes)) (w.class_entries l 0 classes) (ap (λ q. view.class_entries old ++ q) (sym m) ∙ i) e

pub entry_made : (b b' : Option ℕ) (fs fs' : List ValueType) (ss ss' : List ℕ) (m m' : ℕ) → b ≡ b' → fs ≡ fs' → ss ≡ ss' → m ≡ m'
    → ◌≡◌ {A = ClassEntry} (record { base = b; fields = fs; slots = ss; maker = m }) (record { base = b'; fields = fs'; slots = ss'; maker = m' })
entry_made b b' fs fs' ss ss' m m' e f g h = cc
