-- Expressions add no locals to the function around them.
use Rattle.std.proofs.Common.{◌≡◌, ℕ, ◌+◌, refl, ap, ◌∙◌, Option, Some, None, List, [], ◌∷◌, ◌++◌, length}
use Rattle.sts_base.specs.declared.tables.Tables.{Tables}
use Rattle.sts_syntax.specs.Types as u
use Rattle.sts_syntax.specs.Types.{ValueType}
use Rattle.sts_syntax.specs.TypedTrees as e
use Rattle.sts_syntax.specs.TypedTrees.{TypedTree, TypedTrees}
use Rattle.sts_syntax.specs.declared.typed.Callee.TheVariants as c
use Rattle.sts_syntax.specs.BoardTable as board
use Rattle.sts_syntax.specs.BoardTable.{BoardParameter, row_of}
use Rattle.sts_syntax.specs.Trees.{Tree, Num, Text, Truth, Null, This, Name, Unary, Binary, Both, Either, Choice, Set, Bump, Member, Item, Call, SuperCall, Make, Items, Handler, Trees, none, more}
use Rattle.sts_scope.specs.declared.kinds.StaticType.{StaticType}
use Rattle.sts_scope.specs.declared.known.Known.{Known}
use Rattle.sts_scope.specs.Entries.{Naming}
use Rattle.sts_scope.specs.Rules.{takes_at, maker_takes_of}
use Rattle.type_derive.specs.Typing.{finds, constant_of, board_callee, super_method, behind}
use Rattle.type_derive.specs.Making.{Made}
use Rattle.type_derive.specs.inner.Filling.{Making, pure, ◌>=>◌}
use Rattle.sts_scope.specs.Numbers.{Numbering, routine_number}
use Rattle.type_derive.specs.Built.{Site, board_target}
use Rattle.type_derive.specs.inner.Filled.{made_tree, made_given, made_items, made_asked, made_call, argument_made, amiss, member_read, part_in, class_in, routine_of, part_target, asked_given, next_given, later_given, type_in, call_takes, class_found, noted}

-- what adds no local
abbrev pub Adds0 : {A : Type 0} → Making A → Type 0
Adds0 f = (m n : ℕ) → (f m n).locals ≡ []

pure0 : {A : Type 0} (a : A) → Adds0 (pure a)
pure0 a m n = refl

then0 : {A B : Type 0} (f : Making A) (g : A → Making B) → Adds0 f → ((a : A) → Adds0 (g a)) → Adds0 (f >=> g)
then0 {A} {B} f g hf hg m n =
    let X : Made A = f m n in
    let Y : Made B = g X.it (m + length X.locals) (n + length X.routines) in
    ap (λ (us : List ValueType). us ++ Y.locals) (hf m n) ∙ hg X.it (m + length X.locals) (n + length X.routines)

one0 : {A B : Type 0} (f : Making A) (h : A → B) → Adds0 f → Adds0 (f >=> λ a. pure (h a))
one0 f h hf = then0 f (λ a. pure (h a)) hf (λ a. pure0 (h a))

two0 : {A B C : Type 0} (f : Making A) (g : Making B) (h : A → B → C) → Adds0 f → Adds0 g → Adds0 (f >=> λ a. g >=> λ b. pure (h a b))
two0 f g h hf hg = then0 f (λ a. g >=> λ b. pure (h a b)) hf (λ a. one0 g (h a) hg)

three0 : {A B C D : Type 0} (f : Making A) (g : Making B) (e : Making C) (h : A → B → C → D) → Adds0 f → Adds0 g → Adds0 e → Adds0 (f >=> λ a. g >=> λ b. e >=> λ c. pure (h a b c))
three0 f g e h hf hg he = then0 f (λ a. g >=> λ b. e >=> λ c. pure (h a b c)) hf (λ a. two0 g e (h a) hg he)

cases0 : {A B : Type 0} (o : Option A) (f : A → Making B) (g : Making B) → ((a : A) → Adds0 (f a)) → Adds0 g → Adds0 (elim o [ Some a ↦ f a | None ↦ g ])
cases0 (Some a) f g hf hg = hf a
cases0 None f g hf hg = hg

argument0 : (t : Tables) (f : Naming) (k : Known) (w : Numbering) (s : Site) (ps : List BoardParameter) (a : Tree) (made : Making TypedTree) → Adds0 made → Adds0 (argument_made t f k w s ps a made)
argument0 t f k w s (board.Drawing ∷ ps) a made h m n = refl
argument0 t f k w s (board.Of u ∷ ps) a made h m n = h m n
argument0 t f k w s [] a made h m n = h m n
argument0 t f k w s (board.Handler ∷ ps) (Handler at body) made h m n = h m n
argument0 t f k w s (board.Handler ∷ ps) (Num at z) made h m n = refl
argument0 t f k w s (board.Handler ∷ ps) (Text at z) made h m n = refl
argument0 t f k w s (board.Handler ∷ ps) (Truth at z) made h m n = refl
argument0 t f k w s (board.Handler ∷ ps) (Null at) made h m n = refl
argument0 t f k w s (board.Handler ∷ ps) (This at) made h m n = refl
argument0 t f k w s (board.Handler ∷ ps) (Name at x) made h m n = refl
argument0 t f k w s (board.Handler ∷ ps) (Unary at op a) made h m n = refl
argument0 t f k w s (board.Handler ∷ ps) (Binary at op a b) made h m n = refl
argument0 t f k w s (board.Handler ∷ ps) (Both at a b) made h m n = refl
argument0 t f k w s (board.Handler ∷ ps) (Either at a b) made h m n = refl
argument0 t f k w s (board.Handler ∷ ps) (Choice at q a b) made h m n = refl
argument0 t f k w s (board.Handler ∷ ps) (Set at op x r) made h m n = refl
argument0 t f k w s (board.Handler ∷ ps) (Bump at x by late) made h m n = refl
argument0 t f k w s (board.Handler ∷ ps) (Member at a x) made h m n = refl
argument0 t f k w s (board.Handler ∷ ps) (Item at a i) made h m n = refl
argument0 t f k w s (board.Handler ∷ ps) (Items at all) made h m n = refl
argument0 t f k w s (board.Handler ∷ ps) (Call at g args) made h m n = refl
argument0 t f k w s (board.Handler ∷ ps) (SuperCall at o args) made h m n = refl
argument0 t f k w s (board.Handler ∷ ps) (Make at x args) made h m n = refl

module _ (t : Tables) (f : Naming) (k : Known) (w : Numbering) where
  abbrev mk : Site → Option StaticType → Tree → Making TypedTree
  mk s g a = made_tree t f k w s g a

  mutual
    pub tree0 : (s : Site) (g : Option StaticType) (a : Tree) → Adds0 (made_tree t f k w s g a)
    tree0 s g (Num at z) = λ m n. refl
    tree0 s g (Text at z) = λ m n. refl
    tree0 s g (Truth at z) = λ m n. refl
    tree0 s g (Null at) = λ m n. refl
    tree0 s g (This at) = λ m n. refl
    tree0 s g (Name at x) = λ m n. refl
    tree0 s g (Unary at op a) = one0 (mk s None a) (λ x. e.Unary (noted t f k w s g (Unary at op a)) op x) (tree0 s None a)
    tree0 s g (Binary at op a b) = two0 (mk s None a) (mk s None b) (λ x y. e.Binary (noted t f k w s g (Binary at op a b)) op x y) (tree0 s None a) (tree0 s None b)
    tree0 s g (Both at a b) = two0 (mk s None a) (mk s None b) (λ x y. e.Both u.Boolean x y) (tree0 s None a) (tree0 s None b)
    tree0 s g (Either at a b) = two0 (mk s None a) (mk s None b) (λ x y. e.Either u.Boolean x y) (tree0 s None a) (tree0 s None b)
    tree0 s g (Choice at q a b) = three0 (mk s None q) (mk s None a) (mk s None b) (λ z x y. e.Choice (noted t f k w s g (Choice at q a b)) z x y) (tree0 s None q) (tree0 s None a) (tree0 s None b)
    tree0 s g (Set at op x r) = two0 (mk s None x) (mk s (Some (type_in t f k w s x)) r) (λ y z. e.Set (noted t f k w s g (Set at op x r)) op y z) (tree0 s None x) (tree0 s (Some (type_in t f k w s x)) r)
    tree0 s g (Bump at x by late) = one0 (mk s None x) (λ y. e.Bump u.Number y by late) (tree0 s None x)
    tree0 s g (Member at a m) =
        cases0 (constant_of t k s.place a m) (λ z. pure (e.Num u.Number z)) (mk s None a >=> λ x. pure (member_read t f k w (noted t f k w s g (Member at a m)) (part_in t f k w s a m) (class_in t f k w s a) m x)) (λ z. pure0 (e.Num u.Number z))
        (one0 (mk s None a) (λ x. member_read t f k w (noted t f k w s g (Member at a m)) (part_in t f k w s a m) (class_in t f k w s a) m x) (tree0 s None a))
    tree0 s g (Item at a i) = two0 (mk s None a) (mk s None i) (λ x y. e.Item (noted t f k w s g (Item at a i)) x y) (tree0 s None a) (tree0 s None i)
    tree0 s g (Items at none) = λ m n. refl
    tree0 s g (Items at (more a rest)) = two0 (mk s None a) (made_items t f k w s (type_in t f k w s a) rest) (λ x xs. e.Items (noted t f k w s g (Items at (more a rest))) (e.more x xs)) (tree0 s None a) (items0 s (type_in t f k w s a) rest)
    tree0 s g (Call at a args) =
        cases0 (board_callee t k s.place a) (λ call. made_asked t f k w s (row_of call).takes args >=> λ xs. pure (e.Call (noted t f k w s g (Call at a args)) (board_target call (row_of call).action) xs))
        (made_call t f k w s (noted t f k w s g (Call at a args)) a (made_given t f k w s (call_takes t f k w s a) args))
        (λ call. one0 (made_asked t f k w s (row_of call).takes args) (λ xs. e.Call (noted t f k w s g (Call at a args)) (board_target call (row_of call).action) xs) (asked0 s (row_of call).takes args))
        (call0 s (noted t f k w s g (Call at a args)) a (made_given t f k w s (call_takes t f k w s a) args) (given0 s (call_takes t f k w s a) args))
    tree0 s g (SuperCall at None args) = λ m n. refl
    tree0 s g (SuperCall at (Some x) args) =
        cases0 (super_method k s.place.this x)
        (λ d. made_given t f k w s (takes_at k.entries d) args >=> λ xs. pure (e.SuperCall (noted t f k w s g (SuperCall at (Some x) args)) (routine_number w d) xs))
        (pure amiss) (λ d. one0 (made_given t f k w s (takes_at k.entries d) args) (λ xs. e.SuperCall (noted t f k w s g (SuperCall at (Some x) args)) (routine_number w d) xs) (given0 s (takes_at k.entries d) args)) (pure0 amiss)
    tree0 s g (Make at x args) =
        let takes = maker_takes_of k.classes (class_found t f k w (finds t k s.place x)) in one0 (made_given t f k w s takes args) (λ xs. e.Make (u.Object (class_found t f k w (finds t k s.place x))) (class_found t f k w (finds t k s.place x)) xs) (given0 s takes args)
    tree0 s g (Handler at body) = λ m n. refl

    call0 : (s : Site) (v : ValueType) (a : Tree) (args : Making TypedTrees) → Adds0 args → Adds0 (made_call t f k w s v a args)
    call0 s v (Name at x) args h = one0 args (λ xs. e.Call v (c.Function (routine_of t f k w (finds t k s.place x))) xs) h
    call0 s v (Member at a m) args h = two0 (mk s None a) args (λ x xs. e.Call v (part_target t f k w (part_in t f k w s a m) (class_in t f k w s a) m) (e.more x xs)) (tree0 s None a) h
    call0 s v (Num at z) args h = λ m n. refl
    call0 s v (Text at z) args h = λ m n. refl
    call0 s v (Truth at z) args h = λ m n. refl
    call0 s v (Null at) args h = λ m n. refl
    call0 s v (This at) args h = λ m n. refl
    call0 s v (Unary at op a) args h = λ m n. refl
    call0 s v (Binary at op a b) args h = λ m n. refl
    call0 s v (Both at a b) args h = λ m n. refl
    call0 s v (Either at a b) args h = λ m n. refl
    call0 s v (Choice at q a b) args h = λ m n. refl
    call0 s v (Set at op x r) args h = λ m n. refl
    call0 s v (Bump at x by late) args h = λ m n. refl
    call0 s v (Item at a i) args h = λ m n. refl
    call0 s v (Items at all) args h = λ m n. refl
    call0 s v (Call at g xs) args h = λ m n. refl
    call0 s v (SuperCall at o xs) args h = λ m n. refl
    call0 s v (Make at x xs) args h = λ m n. refl
    call0 s v (Handler at body) args h = λ m n. refl

    given0 : (s : Site) (takes : List StaticType) (args : Trees) → Adds0 (made_given t f k w s takes args)
    given0 s takes none = λ m n. refl
    given0 s takes (more a rest) = two0 (mk s (next_given takes) a) (made_given t f k w s (later_given takes) rest) (λ x xs. e.more x xs) (tree0 s (next_given takes) a) (given0 s (later_given takes) rest)

    items0 : (s : Site) (i : StaticType) (args : Trees) → Adds0 (made_items t f k w s i args)
    items0 s i none = λ m n. refl
    items0 s i (more a rest) = two0 (mk s (Some i) a) (made_items t f k w s i rest) (λ x xs. e.more x xs) (tree0 s (Some i) a) (items0 s i rest)

    asked0 : (s : Site) (ps : List BoardParameter) (args : Trees) → Adds0 (made_asked t f k w s ps args)
    asked0 s ps none = λ m n. refl
    asked0 s ps (more a rest) =
        two0 (argument_made t f k w s ps a (mk s (asked_given ps) a)) (made_asked t f k w s (behind ps) rest) (λ x xs. e.more x xs)
        (argument0 t f k w s ps a (mk s (asked_given ps) a) (tree0 s (asked_given ps) a)) (asked0 s (behind ps) rest)
