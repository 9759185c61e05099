-- Initialisers, one member after another.
use Rattle.std.proofs.Common.{◌≡◌, ℕ, suc, ◌+◌, ◌^◌, ◌<◌, Option, List, [], ◌∷◌, ◌++◌, length, drop, get_or, refl, ap, sym, ◌∙◌, arith}
use Rattle.sts_syntax.specs.declared.trees.Binding.{Binding, out-Binding}
use Rattle.sts_syntax.specs.declared.typed.TypedStmt.{TypedStmt}
use Rattle.sts_syntax.specs.declared.units.Member.{Member}
use Rattle.sts_syntax.specs.Programs.{ClassMember, Field, Method, Constructor, class_member, class_members}
use Rattle.sts_syntax.specs.TypedTrees.{TypedTree, TypedRoutine}
use Rattle.sts_syntax.specs.TypedViews.{typed_routines, typed_statement}
use Rattle.sts_syntax.specs.Views.{declaration, optional_annotation, optional_expression}
use Rattle.sts_syntax.proofs.Laws.{declaration_parts}
use Rattle.sts_scope.proofs.Laws.{drop_at}
use Rattle.sts_scope.specs.declared.known.This.TheVariants as this
use Rattle.sts_scope.specs.Entries.{member_entry}
use Rattle.sts_scope.specs.Handlers.{member_routines, declared_handlers, routine_handlers}
use Rattle.text_sizes.specs.Numbered.{declared_numbered}
use Rattle.type_derive.specs.inner.Filled as b
use Rattle.type_derive.specs.Making.{Made}
use Rattle.type_derive.specs.inner.Filling.{Making}
use Rattle.typed_numbers.specs.Building.{numbering_of}
use Rattle.typed_trees.specs.declared.build_places.Builder.{Builder}
use Rattle.typed_trees.specs.declared.build_places.Plan.{Plan}
use Rattle.typed_trees.specs.Fits.{numbers_taken}
use Rattle.typed_trees.specs.Steps.{IsBuilt}
use Rattle.typed_trees.specs.Sites as s
use Rattle.typed_trees.specs.Sites.{naming}
use Rattle.typed_program.specs.Wholes as w
use Rattle.typed_program.proofs.AtMost.{field_at_most}

pub list_append : (xs : List TypedStmt) (x : TypedStmt) → w.typed_list (xs ++ x ∷ []) ≡ w.typed_list xs ++ typed_statement x ∷ []
list_append [] x = refl
list_append (y ∷ xs) x = ap (λ q. typed_statement y ∷ q) (list_append xs x)

pub initial_is : (l : Plan) (c n : ℕ) (a : Binding) → w.initial_made l c n (declaration a)
    ≡ s.first_made l (w.outer_site (this.Object c)) (optional_annotation (out-Binding a).shape) (optional_expression (out-Binding a).first) 0 n
unfolding s.first_made
initial_is l c n a = ap (λ q. w.initial_made l c n q) (declaration_parts a)

-- an initialiser is made, where 32 bits number what stands in its field
pub field_built : (l : Plan) (c n : ℕ) (a : Binding) (st : b.Site) (from upto : Builder) (it : Option TypedTree)
    → st ≡ w.outer_site (this.Object c) → from.local ≡ 0 → from.function ≡ n → typed_routines from.routines ≡ []
    → IsBuilt from upto (s.first_made l st (optional_annotation (out-Binding a).shape) (optional_expression (out-Binding a).first)) it → n + declared_numbered (declaration a) < 2 ^ 32
    → (it ≡ (w.initial_made l c n (declaration a)).it) × (typed_routines upto.routines ≡ (w.initial_made l c n (declaration a)).routines)
field_built l c n a st from upto it here e0 en er built few =
    let f : b.Site → Making (Option TypedTree) = λ z. s.first_made l z (optional_annotation (out-Binding a).shape) (optional_expression (out-Binding a).first) in
    let F : Made (Option TypedTree) = f st from.local from.function in
    let M : Made (Option TypedTree) = w.initial_made l c n (declaration a) in
    let most = field_at_most l.tables.now (naming l) l.known.now (numbering_of l.numbers.now) c n (declaration a) in
    let e : F ≡ M = ap (λ z. f z from.local from.function) here ∙ ap (λ i. f (w.outer_site (this.Object c)) i from.function) e0 ∙ ap (λ i. f (w.outer_site (this.Object c)) 0 i) en ∙ sym (initial_is l c n a) in
    let many = ap (λ (q : Made (Option TypedTree)). length q.locals) e in
    let taken = ap (λ (q : Made (Option TypedTree)). numbers_taken q.routines) e in
    let local : from.local + length F.locals < 2 ^ 32 = omega (arith, most, few, e0, many) in
    let function : from.function + numbers_taken F.routines < 2 ^ 32 = omega (arith, most, few, en, taken) in
    let (ei, (el, (es, (em, ef)))) = built (local, function) in (
      ei ∙ ap (λ (q : Made (Option TypedTree)). q.it) e,
      es ∙ ap (λ (us : List TypedRoutine). us ++ F.routines) er ∙ ap (λ (q : Made (Option TypedTree)). q.routines) e,
    )

initials_next : (l : Plan) (c n d : ℕ) (m : ClassMember) (rest : List ClassMember) → w.initials l c n d (m ∷ rest)
    ≡ w.member_initials l c n d m ++ w.initials l c (n + member_routines m) (d + length (member_entry (naming l) c m)) rest
initials_next l c n d (Field a) rest =
    let e : suc d ≡ d + 1 = omega arith in ap (λ q. w.member_initials l c n d (Field a) ++ w.initials l c (n + declared_handlers a) q rest) e
initials_next l c n d (Method x r) rest =
    let e : suc d ≡ d + 1 = omega arith in let h : suc n + routine_handlers r ≡ n + suc (routine_handlers r) = omega arith in
    ap (λ q. w.initials l c (suc n + routine_handlers r) q rest) e ∙ ap (λ q. w.initials l c q (d + 1) rest) h
initials_next l c n d (Constructor r) rest =
    let e : d ≡ d + 0 = omega arith in let h : suc n + routine_handlers r ≡ n + suc (routine_handlers r) = omega arith in
    ap (λ q. w.initials l c (suc n + routine_handlers r) q rest) e ∙ ap (λ q. w.initials l c q (d + 0) rest) h

-- what is left is the next member's, and what is left behind it
pub initials_left : (l : Plan) (c n d n' d' : ℕ) (xs : List Member) (i : ℕ) (x : Member) → i < length xs → x ≡ get_or xs i x
    → n' ≡ n + member_routines (class_member x) → d' ≡ d + length (member_entry (naming l) c (class_member x))
    → w.initials l c n d (class_members (drop i xs)) ≡ w.member_initials l c n d (class_member x) ++ w.initials l c n' d' (class_members (drop (i + 1) xs))
initials_left l c n d n' d' xs i x lt is hn hd =
    let m = class_member x in
    let rest = class_members (drop (i + 1) xs) in
    let here = w.member_initials l c n d m in
    ap (λ (q : List Member). w.initials l c n d (class_members q)) (drop_at xs i x lt is) ∙ initials_next l c n d m rest
    ∙ ap (λ (q : ℕ). here ++ w.initials l c q (d + length (member_entry (naming l) c m)) rest) (sym hn) ∙ ap (λ (q : ℕ). here ++ w.initials l c n' q rest) (sym hd)
