-- The functions of a class, one member after another.
use Rattle.std.proofs.Common.{◌≡◌, ℕ, suc, ◌+◌, ◌^◌, ◌<◌, List, ◌∷◌, ◌++◌, length, drop, get_or, refl, ap, sym, ◌∙◌, arith, length-append, append_assoc}
use Rattle.sts_syntax.specs.declared.units.Member.{Member}
use Rattle.sts_syntax.specs.Programs.{ClassMember, Field, Method, Constructor, class_member, class_members}
use Rattle.sts_scope.proofs.Laws.{drop_at}
use Rattle.sts_syntax.specs.TypedTrees.{TypedStatement}
use Rattle.sts_scope.specs.Entries.{Naming, member_entry, member_entries}
use Rattle.sts_scope.specs.Handlers.{member_routines, members_routines, declared_handlers, routine_handlers}
use Rattle.text_sizes.specs.Numbered.{member_numbered, members_numbered}
use Rattle.text_sizes.proofs.Laws.{member_routines_numbered}
use Rattle.typed_trees.specs.declared.build_places.Plan.{Plan}
use Rattle.typed_trees.specs.Sites.{naming}
use Rattle.typed_program.specs.Wholes as w

pub members_next : (l : Plan) (c : ℕ) (inits : List TypedStatement) (n d : ℕ) (m : ClassMember) (rest : List ClassMember) → w.members_made l c inits n d (m ∷ rest)
    ≡ w.member_made l c inits n d m ++ w.members_made l c inits (n + member_routines m) (d + length (member_entry (naming l) c m)) rest
members_next l c inits n d (Field a) rest =
    let e : suc d ≡ d + 1 = omega arith in ap (λ q. w.member_made l c inits n d (Field a) ++ w.members_made l c inits (n + declared_handlers a) q rest) e
members_next l c inits n d (Method x r) rest =
    let e : suc d ≡ d + 1 = omega arith in let h : suc n + routine_handlers r ≡ n + suc (routine_handlers r) = omega arith in
    ap (λ q. w.member_made l c inits n d (Method x r) ++ w.members_made l c inits (suc n + routine_handlers r) q rest) e
    ∙ ap (λ q. w.member_made l c inits n d (Method x r) ++ w.members_made l c inits q (d + 1) rest) h
members_next l c inits n d (Constructor r) rest =
    let e : d ≡ d + 0 = omega arith in let h : suc n + routine_handlers r ≡ n + suc (routine_handlers r) = omega arith in
    ap (λ q. w.member_made l c inits n d (Constructor r) ++ w.members_made l c inits (suc n + routine_handlers r) q rest) e
    ∙ ap (λ q. w.member_made l c inits n d (Constructor r) ++ w.members_made l c inits q (d + 0) rest) h

pub members_behind : (names : Naming) (c : ℕ) (m : ClassMember) (rest : List ClassMember) → length (member_entries names c (m ∷ rest)) ≡ length (member_entry names c m) + length (member_entries names c rest)
members_behind names c m rest = length-append (member_entry names c m) (member_entries names c rest)

-- what is left is the next member, and what is left behind it
pub members_left : (l : Plan) (c : ℕ) (inits : List TypedStatement) (n d n' d' : ℕ) (xs : List Member) (i : ℕ) (x : Member) → i < length xs → x ≡ get_or xs i x
    → n' ≡ n + member_routines (class_member x) → d' ≡ d + length (member_entry (naming l) c (class_member x))
    → w.members_made l c inits n d (class_members (drop i xs)) ≡ w.member_made l c inits n d (class_member x) ++ w.members_made l c inits n' d' (class_members (drop (i + 1) xs))
members_left l c inits n d n' d' xs i x lt is hn hd =
    let m = class_member x in
    let rest = class_members (drop (i + 1) xs) in
    let here = w.member_made l c inits n d m in
    ap (λ (q : List Member). w.members_made l c inits n d (class_members q)) (drop_at xs i x lt is) ∙ members_next l c inits n d m rest
    ∙ ap (λ (q : ℕ). here ++ w.members_made l c inits q (d + length (member_entry (naming l) c m)) rest) (sym hn) ∙ ap (λ (q : ℕ). here ++ w.members_made l c inits n' q rest) (sym hd)

pub declared_left : (names : Naming) (c d d' : ℕ) (xs : List Member) (i : ℕ) (x : Member) (whole : ℕ) → i < length xs → x ≡ get_or xs i x → d' ≡ d + length (member_entry names c (class_member x))
    → d + length (member_entries names c (class_members (drop i xs))) ≡ whole → d' + length (member_entries names c (class_members (drop (i + 1) xs))) ≡ whole
declared_left names c d d' xs i x whole lt is hd inv =
    let e = ap (λ (q : List Member). length (member_entries names c (class_members q))) (drop_at xs i x lt is) ∙ members_behind names c (class_member x) (class_members (drop (i + 1) xs)) in
    omega (arith, e, hd, inv)

-- a member has a number where all that are left have numbers, and so have those behind it
pub member_declared : (names : Naming) (c d : ℕ) (xs : List Member) (i : ℕ) (x : Member) → i < length xs → x ≡ get_or xs i x
    → d + length (member_entries names c (class_members (drop i xs))) < 2 ^ 64 → d + length (member_entry names c (class_member x)) < 2 ^ 64
member_declared names c d xs i x lt is h =
    let e = ap (λ (q : List Member). length (member_entries names c (class_members q))) (drop_at xs i x lt is) ∙ members_behind names c (class_member x) (class_members (drop (i + 1) xs)) in
    omega (arith, e, h)

pub members_declared : (names : Naming) (c d d' : ℕ) (xs : List Member) (i : ℕ) (x : Member) → i < length xs → x ≡ get_or xs i x → d' ≡ d + length (member_entry names c (class_member x))
    → d + length (member_entries names c (class_members (drop i xs))) < 2 ^ 64 → d' + length (member_entries names c (class_members (drop (i + 1) xs))) < 2 ^ 64
members_declared names c d d' xs i x lt is hd h =
    let e = declared_left names c d d' xs i x (d + length (member_entries names c (class_members (drop i xs)))) lt is hd refl in
    omega (arith, e, h)

pub member_counted : (n : ℕ) (xs : List Member) (i : ℕ) (x : Member) → i < length xs → x ≡ get_or xs i x → n + members_numbered (class_members (drop i xs)) < 2 ^ 32 → n + member_numbered (class_member x) < 2 ^ 32
member_counted n xs i x lt is h =
    let e = ap (λ (q : List Member). members_numbered (class_members q)) (drop_at xs i x lt is) in
    omega (arith, e, h)

-- and its functions
pub member_functions : (n : ℕ) (m : ClassMember) → n + member_numbered m < 2 ^ 32 → n + member_routines m < 2 ^ 32
member_functions n m h = omega (arith, h, member_routines_numbered m)

pub members_counted : (n n' : ℕ) (xs : List Member) (i : ℕ) (x : Member) → i < length xs → x ≡ get_or xs i x → n' ≡ n + member_routines (class_member x)
    → n + members_numbered (class_members (drop i xs)) < 2 ^ 32 → n' + members_numbered (class_members (drop (i + 1) xs)) < 2 ^ 32
members_counted n n' xs i x lt is hn h =
    let e = ap (λ (q : List Member). members_numbered (class_members q)) (drop_at xs i x lt is) in
    omega (arith, e, hn, h, member_routines_numbered (class_member x))

pub functions_left : (n n' : ℕ) (xs : List Member) (i : ℕ) (x : Member) (whole : ℕ) → i < length xs → x ≡ get_or xs i x → n' ≡ n + member_routines (class_member x)
    → n + members_routines (class_members (drop i xs)) ≡ whole → n' + members_routines (class_members (drop (i + 1) xs)) ≡ whole
functions_left n n' xs i x whole lt is hn inv =
    let e = ap (λ (q : List Member). members_routines (class_members q)) (drop_at xs i x lt is) in
    omega (arith, e, hn, inv)

-- the next piece of a list that grows
pub step_list : {V : Type 0} (old new ws x r whole : List V) → old ++ ws ≡ whole → ws ≡ x ++ r → new ≡ old ++ x → new ++ r ≡ whole
step_list old new ws x r whole h is added = ap (λ q. q ++ r) added ∙ append_assoc old x r ∙ ap (λ q. old ++ q) (sym is) ∙ h
