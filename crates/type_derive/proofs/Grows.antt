-- Where more types are known, no less is derived: names, rules and expressions.
use Rattle.std.proofs.Common.{◌≡◌, ℕ, zero, suc, ◌==◌, ◌&&◌, refl, sym, ap, ◌∙◌, subst, Bool, true, false, Option, Some, None, List, [], ◌∷◌, length}
use Rattle.std.specs.Prelude.{ℤ, if◌then◌else◌, is_some, not}
use Rattle.sts_base.specs.declared.tables.Tables.{Tables}
use Rattle.sts_syntax.specs.BoardTable as board
use Rattle.sts_syntax.specs.BoardTable.{BoardParameter, row_of, constant_named, call_named}
use Rattle.sts_syntax.specs.Types.{ValueType}
use Rattle.sts_syntax.specs.Trees.{Tree, Num, Text, Truth, Null, This, Name, Unary, Binary, Both, Either, Choice, Set, Bump, Member, Item, Call, SuperCall, Make, Items, Handler, Trees, none, more}
use Rattle.sts_scope.specs.declared.kinds.StaticType.{StaticType}
use Rattle.sts_scope.specs.declared.entries.Owner.TheVariants as owner
use Rattle.sts_scope.specs.declared.entries.Entry.{Entry}
use Rattle.sts_scope.specs.declared.entries.ClassHead.{ClassHead}
use Rattle.sts_scope.specs.declared.known.Known.{Known}
use Rattle.sts_scope.specs.declared.known.Local.{Local}
use Rattle.sts_scope.specs.declared.known.Found.{Found}
use Rattle.sts_scope.specs.declared.known.Found.TheVariants as found
use Rattle.sts_scope.specs.declared.known.Part.{Part}
use Rattle.sts_scope.specs.declared.known.Part.TheVariants as part
use Rattle.sts_scope.specs.declared.known.This.{This as Self}
use Rattle.sts_scope.specs.declared.known.This.TheVariants as this
use Rattle.sts_scope.specs.Kinds.{number, empty}
use Rattle.sts_scope.specs.Places.{NameScope, is_hidden, found_among, found_around, whole_found, last_from, last_named}
use Rattle.sts_scope.specs.Rules.{this_kind, name_kind, name_fixed, local_kind, local_fixed, kind_at, takes_at, maker_takes_of, part_of, part_kind, part_settable, call_kind, all_go, goes, operate, prefix, joined, choose, assign, counted, element, items_type, sort_fixed}
use Rattle.sts_scope.specs.Lookup.{entry_number, sort_of}
use Rattle.type_derive.specs.declared.roles.Role.{Role}
use Rattle.type_derive.specs.declared.roles.Role.TheVariants.{Free, Given}
use Rattle.type_derive.specs.Typing.{◌>>=◌, Callee, callee, finds, space_of, space, constant_of, own_call, board_callee, named_callee, part_callee, super_method, made, fits, called, type_of, types_of, callee_of, settable, names_function, is_routine, are_given, is_drawing, board_kind, spelling, is_given}
use Rattle.type_derive.specs.Derived.{Less}
use Rattle.type_derive.specs.Laws.{LocalsGrow, KnownGrows, PlaceGrows}

-- what is called takes the same, and gives no less
abbrev pub CalleeGrows : Option Callee → Option Callee → Type 0
CalleeGrows None d = Unit {0}
CalleeGrows (Some c) None = ⊥
CalleeGrows (Some c) (Some d) = (d.takes ≡ c.takes) × Less c.gives d.gives

pub less_refl : (x : Option StaticType) → Less x x
less_refl None = tt
less_refl (Some a) = refl

pub less_eq : (x y : Option StaticType) → y ≡ x → Less x y
less_eq x y e = let P : Option StaticType → Type 0 = λ z. Less x z in subst P (sym e) (less_refl x)

-- one type after another
bind_less : (a b : Option StaticType) (f g : StaticType → Option StaticType) → Less a b → ((x : StaticType) → Less (f x) (g x)) → Less (a >>= f) (b >>= g)
bind_less None b f g h i = tt
bind_less (Some x) b f g h i = let P : Option StaticType → Type 0 = λ y. Less (f x) (y >>= g) in subst P (sym h) (i x)

if_less : (b c : Bool) (x y : Option StaticType) → (b ≡ true → c ≡ true) → Less x y → Less (if b then x else None) (if c then y else None)
if_less false c x y h i = tt
if_less true c x y h i = let P : Bool → Type 0 = λ d. Less x (if d then y else None) in subst P (sym (h refl)) i

-- lists of types
abbrev LessAll : Option (List StaticType) → Option (List StaticType) → Type 0
LessAll None y = Unit {0}
LessAll (Some x) y = y ≡ Some x

all_refl : (x : Option (List StaticType)) → LessAll x x
all_refl None = tt
all_refl (Some a) = refl

bind_all : (a b : Option StaticType) (f g : StaticType → Option (List StaticType)) → Less a b → ((x : StaticType) → LessAll (f x) (g x)) → LessAll (a >>= f) (b >>= g)
bind_all None b f g h i = tt
bind_all (Some x) b f g h i = let P : Option StaticType → Type 0 = λ y. LessAll (f x) (y >>= g) in subst P (sym h) (i x)

then_all : (a b : Option (List StaticType)) (f : List StaticType → Option (List StaticType)) → LessAll a b → LessAll (a >>= f) (b >>= f)
then_all None b f h = tt
then_all (Some x) b f h = let P : Option (List StaticType) → Type 0 = λ y. LessAll (f x) (y >>= f) in subst P (sym h) (all_refl (f x))

all_bind : (a b : Option (List StaticType)) (f g : List StaticType → Option StaticType) → LessAll a b → ((x : List StaticType) → Less (f x) (g x)) → Less (a >>= f) (b >>= g)
all_bind None b f g h i = tt
all_bind (Some x) b f g h i = let P : Option (List StaticType) → Type 0 = λ y. Less (f x) (y >>= g) in subst P (sym h) (i x)

-- locals by their names and numbers
same_last : (n : ℕ) (ls ms : List Local) (x : ℕ) → LocalsGrow ls ms → last_from n ms x ≡ last_from n ls x
same_last n [] [] x h = refl
same_last n (l ∷ ls) (m ∷ ms) x h =
    let F : Option ℕ → ℕ → Option ℕ = λ o y. elim o [ Some j ↦ Some j | None ↦ if y == x then Some n else None ] in
    ap (λ o. F o m.name) (same_last (suc n) ls ms x h.3) ∙ ap (F (last_from (suc n) ls x)) h.0
same_last n [] (m ∷ ms) x h = absurd h
same_last n (l ∷ ls) [] x h = absurd h

kind_grows : (ls ms : List Local) (i : ℕ) → LocalsGrow ls ms → Less (local_kind ls i) (local_kind ms i)
kind_grows [] [] i h = tt
kind_grows (l ∷ ls) (m ∷ ms) zero h = h.2
kind_grows (l ∷ ls) (m ∷ ms) (suc i) h = kind_grows ls ms i h.3
kind_grows [] (m ∷ ms) i h = absurd h
kind_grows (l ∷ ls) [] i h = absurd h

same_fixed : (ls ms : List Local) (i : ℕ) → LocalsGrow ls ms → local_fixed ms i ≡ local_fixed ls i
same_fixed [] [] i h = refl
same_fixed (l ∷ ls) (m ∷ ms) zero h = h.1
same_fixed (l ∷ ls) (m ∷ ms) (suc i) h = same_fixed ls ms i h.3
same_fixed [] (m ∷ ms) i h = absurd h
same_fixed (l ∷ ls) [] i h = absurd h

pub same_length : (ls ms : List Local) → LocalsGrow ls ms → length ms ≡ length ls
same_length [] [] h = refl
same_length (l ∷ ls) (m ∷ ms) h = ap suc (same_length ls ms h.3)
same_length [] (m ∷ ms) h = absurd h
same_length (l ∷ ls) [] h = absurd h

-- what a name stands for, and what stands behind a dot, hang on no types
abbrev bare : List Entry → List ClassHead → ℕ → Known
bare es cs n = record { entries = es; classes = cs; kinds = []; library = n }

abbrev stand : Bool → NameScope
stand library = record { around = []; locals = []; block = 0; this = this.Nowhere; gives = None; library = library }

abbrev found_in : Known → Bool → ℕ → Option ℕ → Option ℕ → Found
found_in k library x outer (Some i) = found.Local i
found_in k library x outer None = found_around k (stand library) x (is_some outer)

abbrev found_by : Tables → ℕ → List Entry → ℕ → Bool → Option ℕ → Option ℕ → Found
found_by tables x es n library outer o = if is_hidden tables.names (stand library) x then found.Unknown else found_in (bare es [] n) library x outer o

whole_by : (k : Known) (library : Bool) (d : Option ℕ) → whole_found k library d ≡ whole_found (bare k.entries [] k.library) library d
whole_by k library None = refl
whole_by k library (Some d) = refl

around_by : (k : Known) (p : NameScope) (x : ℕ) (around : Bool) → found_around k p x around ≡ found_around (bare k.entries [] k.library) (stand p.library) x around
around_by k p x true = refl
around_by k p x false = whole_by k p.library (entry_number k.entries owner.Whole x)

among_by : (k : Known) (p : NameScope) (x : ℕ) (i : Option ℕ) → found_among k p x i ≡ found_in (bare k.entries [] k.library) p.library x (last_named p.around x) i
among_by k p x (Some i) = refl
among_by k p x None = around_by k p x (is_some (last_named p.around x))

finds_by : (tables : Tables) (k : Known) (p : NameScope) (x : ℕ) → finds tables k p x ≡ found_by tables x k.entries k.library p.library (last_named p.around x) (last_named p.locals x)
finds_by tables k p x = ap (λ f. if is_hidden tables.names p x then found.Unknown else f) (among_by k p x (last_named p.locals x))

two : (a b c d : Option StaticType) (f g : StaticType → StaticType → Option StaticType) → Less a b → Less c d → ((s u : StaticType) → Less (f s u) (g s u)) →
    Less (a >>= λ s. c >>= λ u. f s u) (b >>= λ s. d >>= λ u. g s u)
two a b c d f g h i j = bind_less a b (λ s. c >>= λ u. f s u) (λ s. d >>= λ u. g s u) h (λ s. bind_less c d (f s) (g s) i (j s))

abbrev if_some : {A : Type 0} → Option A → (A → Option StaticType) → Option StaticType → Option StaticType
if_some z X y = elim z [ Some c ↦ X c | None ↦ y ]

some_less : {A : Type 0} (z w : Option A) (X Y : A → Option StaticType) (x y : Option StaticType) → w ≡ z → ((c : A) → Less (X c) (Y c)) → Less x y → Less (if_some z X x) (if_some w Y y)
some_less {A} z w X Y x y e h i =
    let P : Option A → Type 0 = λ v. Less (if_some z X x) (if_some v Y y) in
    subst P (sym e) (elim z as (λ v. Less (if_some v X x) (if_some v Y y)) [ Some c ↦ h c | None ↦ i ])

call_less : (cs : List ClassHead) (takes : List StaticType) (g h : Option StaticType) (us : List StaticType) → Less g h → Less (call_kind cs takes g us) (call_kind cs takes h us)
unfolding call_kind
call_less cs takes g h us i = if_less (all_go cs us takes) (all_go cs us takes) g h (λ e. e) i

and_true : (a b c d : Bool) → (a ≡ true → c ≡ true) → (b ≡ true → d ≡ true) → (a && b) ≡ true → (c && d) ≡ true
and_true true b c d h i e = ap (λ x. x && d) (h refl) ∙ i e
and_true false b c d h i e = cc

module _ (tables : Tables) where
  module _ (k l : Known) (g : KnownGrows k l) where
    same_takes : (d : ℕ) → takes_at l.entries d ≡ takes_at k.entries d
    same_takes d = ap (λ es. takes_at es d) g.entries

    named_grows : (f : Found) → CalleeGrows (named_callee k f) (named_callee l f)
    named_grows (found.Function d) = (same_takes d, g.kinds d)
    named_grows (found.Local i) = tt
    named_grows found.Captured = tt
    named_grows (found.Global d) = tt
    named_grows (found.Class c) = tt
    named_grows found.Unknown = tt

    part_grows : (q : Part) → CalleeGrows (part_callee k q) (part_callee l q)
    part_grows (part.Method d) = (same_takes d, g.kinds d)
    part_grows (part.Push t) = (refl, refl)
    part_grows (part.Pop t) = (refl, refl)
    part_grows (part.Field d) = tt
    part_grows part.Length = tt
    part_grows part.Missing = tt

    made_grows : (f : Found) → CalleeGrows (made k f) (made l f)
    made_grows (found.Class c) = (ap (λ cs. maker_takes_of cs c) g.classes, refl)
    made_grows (found.Function d) = tt
    made_grows (found.Local i) = tt
    made_grows found.Captured = tt
    made_grows (found.Global d) = tt
    made_grows found.Unknown = tt

    part_kind_grows : (q : Part) → Less (part_kind k q) (part_kind l q)
    part_kind_grows (part.Field d) = g.kinds d
    part_kind_grows (part.Method d) = tt
    part_kind_grows part.Length = refl
    part_kind_grows (part.Push t) = tt
    part_kind_grows (part.Pop t) = tt
    part_kind_grows part.Missing = tt

    same_part : (u : StaticType) (m : ℕ) → part_of tables.names l u m ≡ part_of tables.names k u m
    unfolding part_of
    same_part u m = ap (λ es. part_of tables.names (bare es l.classes 0) u m) g.entries ∙ ap (λ cs. part_of tables.names (bare k.entries cs 0) u m) g.classes

    same_super : (self : Self) (m : ℕ) → super_method l self m ≡ super_method k self m
    same_super self m = ap (λ es. super_method (bare es l.classes 0) self m) g.entries ∙ ap (λ cs. super_method (bare k.entries cs 0) self m) g.classes

    called_less : (d e : Option Callee) (ts us : Option (List StaticType)) → CalleeGrows d e → LessAll ts us → Less (called k d ts) (called l e us)
    called_less None e ts us h i = tt
    called_less (Some c) None ts us h i = absurd h
    called_less (Some c) (Some d) ts us h i =
        all_bind ts us (λ vs. call_kind k.classes c.takes c.gives vs) (λ vs. call_kind l.classes d.takes d.gives vs) i
        (λ vs.
        let P : Option StaticType → Type 0 = λ z. Less (call_kind k.classes c.takes c.gives vs) z in
        subst P (sym (ap (λ cs. call_kind cs d.takes d.gives vs) g.classes ∙ ap (λ t. call_kind k.classes t d.gives vs) h.0)) (call_less k.classes c.takes c.gives d.gives vs h.1))

    given_less : (o u : Option StaticType) (t : ValueType) → Less o u → fits k o (Some (board_kind t)) ≡ true → fits l u (Some (board_kind t)) ≡ true
    given_less None u t h e = cc
    given_less (Some s) u t h e =
        let P : Option StaticType → Type 0 = λ z. fits l z (Some (board_kind t)) ≡ true in
        subst P (sym h) (ap (λ cs. goes cs s (board_kind t)) g.classes ∙ e)

    abbrev super_callee : Known → Option ℕ → Option Callee
    super_callee n o = o >>= λ d. Some (callee (takes_at n.entries d) (kind_at n d))

    super_grows : (d : Option ℕ) → CalleeGrows (super_callee k d) (super_callee l d)
    super_grows None = tt
    super_grows (Some d) = (same_takes d, g.kinds d)

    member_callee : (m : ℕ) (a b : Option StaticType) → Less a b → CalleeGrows (a >>= λ u. part_callee k (part_of tables.names k u m)) (b >>= λ u. part_callee l (part_of tables.names l u m))
    member_callee m None b i = tt
    member_callee m (Some u) b i =
        let P : Option StaticType → Type 0 = λ z. CalleeGrows (part_callee k (part_of tables.names k u m)) (z >>= λ v. part_callee l (part_of tables.names l v m)) in
        let Q : Part → Type 0 = λ z. CalleeGrows (part_callee k (part_of tables.names k u m)) (part_callee l z) in
        subst P (sym i) (subst Q (sym (same_part u m)) (part_grows (part_of tables.names k u m)))

    abbrev part_set : Known → ℕ → Option ℤ → Option StaticType → Bool
    part_set n m z a = elim z [ Some y ↦ false | None ↦ elim a [ None ↦ false | Some u ↦ part_settable (part_of tables.names n u m) ] ]

    member_settable : (m : ℕ) (z w : Option ℤ) (a b : Option StaticType) → w ≡ z → Less a b → part_set k m z a ≡ true → part_set l m w b ≡ true
    member_settable m (Some y) w a b e i j = cc
    member_settable m None w None b e i j = cc
    member_settable m None w (Some u) b e i j =
        ap (λ y. part_set l m y b) e ∙ ap (part_set l m None) i ∙ ap part_settable (same_part u m) ∙ j

    module _ (p q : NameScope) (h : PlaceGrows p q) where
      same_found : (x : ℕ) → finds tables l q x ≡ finds tables k p x
      same_found x =
          finds_by tables l q x
          ∙ ap (λ es. found_by tables x es l.library q.library (last_named q.around x) (last_named q.locals x)) g.entries
          ∙ ap (λ n. found_by tables x k.entries n q.library (last_named q.around x) (last_named q.locals x)) g.library
          ∙ ap (λ b. found_by tables x k.entries k.library b (last_named q.around x) (last_named q.locals x)) h.library
          ∙ ap (λ o. found_by tables x k.entries k.library p.library o (last_named q.locals x)) (same_last 0 p.around q.around x h.around)
          ∙ ap (found_by tables x k.entries k.library p.library (last_named p.around x)) (same_last 0 p.locals q.locals x h.locals)
          ∙ sym (finds_by tables k p x)

      name_grows : (f : Found) → Less (name_kind k p f) (name_kind l q f)
      name_grows (found.Local i) = kind_grows p.locals q.locals i h.locals
      name_grows (found.Global d) = g.kinds d
      name_grows found.Captured = tt
      name_grows (found.Function d) = tt
      name_grows (found.Class c) = tt
      name_grows found.Unknown = tt

      name_same_fixed : (f : Found) → name_fixed l q f ≡ name_fixed k p f
      name_same_fixed (found.Local i) = same_fixed p.locals q.locals i h.locals
      name_same_fixed (found.Global d) = ap (λ es. sort_fixed (sort_of es d)) g.entries
      name_same_fixed found.Captured = refl
      name_same_fixed (found.Function d) = refl
      name_same_fixed (found.Class c) = refl
      name_same_fixed found.Unknown = refl

      same_space : (a : Tree) → space tables l q a ≡ space tables k p a
      same_space (Name at x) = ap (space_of tables x) (same_found x)
      same_space _ = refl

      same_constant : (a : Tree) (m : ℕ) → constant_of tables l q a m ≡ constant_of tables k p a m
      same_constant a m = ap (λ s. s >>= λ n. constant_named n (spelling tables m)) (same_space a)

      same_board : (f : Tree) → board_callee tables l q f ≡ board_callee tables k p f
      same_board (Member at a m) = ap (λ s. s >>= λ n. call_named n (spelling tables m)) (same_space a)
      same_board (Name at x) = ap (λ b. own_call b (space tables l q (Name at x))) h.library ∙ ap (own_call p.library) (same_space (Name at x))
      same_board _ = refl

      abbrev K : Tree → Option StaticType
      K a = type_of tables k p Free a

      abbrev L : Tree → Option StaticType
      L a = type_of tables l q Free a

      mutual
        pub grows : (r : Role) (e : Tree) → Less (type_of tables k p r e) (type_of tables l q r e)
        grows r (Num at n) = refl
        grows r (Text at n) = refl
        grows r (Truth at b) = refl
        grows r (Null at) = refl
        grows r (This at) = less_eq (this_kind p.this) (this_kind q.this) (ap this_kind h.this)
        grows r (Name at x) =
            let P : Found → Type 0 = λ f. Less (name_kind k p (finds tables k p x)) (name_kind l q f) in
            subst P (sym (same_found x)) (name_grows (finds tables k p x))
        grows r (Unary at op a) = bind_less (K a) (L a) (prefix op) (prefix op) (grows Free a) (λ s. less_refl (prefix op s))
        grows r (Binary at op a b) =
            two (K a) (L a) (K b) (L b) (operate k.classes op) (operate l.classes op) (grows Free a) (grows Free b)
            (λ s u. less_eq (operate k.classes op s u) (operate l.classes op s u) (ap (λ cs. operate cs op s u) g.classes))
        grows r (Both at a b) = two (K a) (L a) (K b) (L b) joined joined (grows Free a) (grows Free b) (λ s u. less_refl (joined s u))
        grows r (Either at a b) = two (K a) (L a) (K b) (L b) joined joined (grows Free a) (grows Free b) (λ s u. less_refl (joined s u))
        grows r (Choice at c a b) =
            bind_less (K c) (L c) (λ z. K a >>= λ s. K b >>= λ u. choose k.classes z s u) (λ z. L a >>= λ s. L b >>= λ u. choose l.classes z s u) (grows Free c)
            (λ z. two (K a) (L a) (K b) (L b) (choose k.classes z) (choose l.classes z) (grows Free a) (grows Free b)
            (λ s u. less_eq (choose k.classes z s u) (choose l.classes z s u) (ap (λ cs. choose cs z s u) g.classes)))
        grows r (Set at op x e) =
            two (K x) (L x) (type_of tables k p Given e) (type_of tables l q Given e)
            (λ u s. if settable tables k p x then assign k.classes op u s else None) (λ u s. if settable tables l q x then assign l.classes op u s else None)
            (grows Free x) (grows Given e)
            (λ u s. if_less (settable tables k p x) (settable tables l q x) (assign k.classes op u s) (assign l.classes op u s) (settable_grows x)
            (less_eq (assign k.classes op u s) (assign l.classes op u s) (ap (λ cs. assign cs op u s) g.classes)))
        grows r (Bump at x by late) =
            bind_less (K x) (L x) (λ u. if settable tables k p x then counted u else None) (λ u. if settable tables l q x then counted u else None) (grows Free x)
            (λ u. if_less (settable tables k p x) (settable tables l q x) (counted u) (counted u) (settable_grows x) (less_refl (counted u)))
        grows r (Member at a m) =
            some_less (constant_of tables k p a m) (constant_of tables l q a m) (λ z. Some number) (λ z. Some number)
            (K a >>= λ u. part_kind k (part_of tables.names k u m)) (L a >>= λ u. part_kind l (part_of tables.names l u m)) (same_constant a m) (λ z. refl)
            (bind_less (K a) (L a) (λ u. part_kind k (part_of tables.names k u m)) (λ u. part_kind l (part_of tables.names l u m)) (grows Free a)
            (λ u. let P : Part → Type 0 = λ x. Less (part_kind k (part_of tables.names k u m)) (part_kind l x) in
            subst P (sym (same_part u m)) (part_kind_grows (part_of tables.names k u m))))
        grows r (Item at a i) = two (K a) (L a) (K i) (L i) element element (grows Free a) (grows Free i) (λ s u. less_refl (element s u))
        grows r (Items at none) = less_refl (if is_given r then Some empty else None)
        grows r (Items at (more e rest)) =
            bind_less (K e) (L e) (λ u. types_of tables k p rest >>= λ us. items_type k.classes u us) (λ u. types_of tables l q rest >>= λ us. items_type l.classes u us) (grows Free e)
            (λ u. all_bind (types_of tables k p rest) (types_of tables l q rest) (items_type k.classes u) (items_type l.classes u) (all_grow rest)
            (λ us. less_eq (items_type k.classes u us) (items_type l.classes u us) (ap (λ cs. items_type cs u us) g.classes)))
        grows r (Call at f args) =
            some_less (board_callee tables k p f) (board_callee tables l q f)
            (λ call. if are_given tables k p (row_of call).takes args then Some (board_kind (row_of call).gives) else None)
            (λ call. if are_given tables l q (row_of call).takes args then Some (board_kind (row_of call).gives) else None)
            (called k (callee_of tables k p f) (types_of tables k p args)) (called l (callee_of tables l q f) (types_of tables l q args)) (same_board f)
            (λ call. if_less (are_given tables k p (row_of call).takes args) (are_given tables l q (row_of call).takes args)
            (Some (board_kind (row_of call).gives)) (Some (board_kind (row_of call).gives)) (given_grows (row_of call).takes args) refl)
            (called_less (callee_of tables k p f) (callee_of tables l q f) (types_of tables k p args) (types_of tables l q args) (callee_grows f) (all_grow args))
        grows r (SuperCall at None args) = tt
        grows r (SuperCall at (Some m) args) =
            called_less (super_callee k (super_method k p.this m)) (super_callee l (super_method l q.this m)) (types_of tables k p args) (types_of tables l q args)
            (let e = ap (λ z. super_method l z m) h.this ∙ same_super p.this m in
            let P : Option ℕ → Type 0 = λ d. CalleeGrows (super_callee k (super_method k p.this m)) (super_callee l d) in
            subst P (sym e) (super_grows (super_method k p.this m))) (all_grow args)
        grows r (Make at x args) =
            called_less (made k (finds tables k p x)) (made l (finds tables l q x)) (types_of tables k p args) (types_of tables l q args)
            (let P : Found → Type 0 = λ f. CalleeGrows (made k (finds tables k p x)) (made l f) in
            subst P (sym (same_found x)) (made_grows (finds tables k p x))) (all_grow args)
        grows r (Handler at body) = tt

        all_grow : (es : Trees) → LessAll (types_of tables k p es) (types_of tables l q es)
        all_grow none = refl
        all_grow (more e rest) =
            bind_all (type_of tables k p Given e) (type_of tables l q Given e) (λ u. types_of tables k p rest >>= λ us. Some (u ∷ us)) (λ u. types_of tables l q rest >>= λ us. Some (u ∷ us))
            (grows Given e) (λ u. then_all (types_of tables k p rest) (types_of tables l q rest) (λ us. Some (u ∷ us)) (all_grow rest))

        callee_grows : (f : Tree) → CalleeGrows (callee_of tables k p f) (callee_of tables l q f)
        callee_grows (Name at x) =
            let P : Found → Type 0 = λ f. CalleeGrows (named_callee k (finds tables k p x)) (named_callee l f) in
            subst P (sym (same_found x)) (named_grows (finds tables k p x))
        callee_grows (Member at a m) = member_callee m (K a) (L a) (grows Free a)
        callee_grows _ = tt

        settable_grows : (x : Tree) → settable tables k p x ≡ true → settable tables l q x ≡ true
        settable_grows (Name at x) e = ap not (ap (name_fixed l q) (same_found x) ∙ name_same_fixed (finds tables k p x)) ∙ e
        settable_grows (Member at a m) e = member_settable m (constant_of tables k p a m) (constant_of tables l q a m) (K a) (L a) (same_constant a m) (grows Free a) e
        settable_grows (Item at a i) e = e
        settable_grows _ e = e

        function_grows : (e : Tree) → is_routine tables k p e ≡ true → is_routine tables l q e ≡ true
        function_grows (Name at x) e = ap (names_function) (same_found x) ∙ e
        function_grows (Handler at body) e = e
        function_grows _ e = e

        given_grows : (ps : List BoardParameter) (es : Trees) → are_given tables k p ps es ≡ true → are_given tables l q ps es ≡ true
        given_grows [] none e = e
        given_grows (board.Of u ∷ ps) (more a rest) e =
            and_true (fits k (type_of tables k p Given a) (Some (board_kind u))) (are_given tables k p ps rest) (fits l (type_of tables l q Given a) (Some (board_kind u))) (are_given tables l q ps rest)
            (given_less (type_of tables k p Given a) (type_of tables l q Given a) u (grows Given a)) (given_grows ps rest) e
        given_grows (board.Handler ∷ ps) (more a rest) e =
            and_true (is_routine tables k p a) (are_given tables k p ps rest) (is_routine tables l q a) (are_given tables l q ps rest) (function_grows a) (given_grows ps rest) e
        given_grows (board.Drawing ∷ ps) (more a rest) e =
            and_true (is_drawing tables a) (are_given tables k p ps rest) (is_drawing tables a) (are_given tables l q ps rest) (λ i. i) (given_grows ps rest) e
        given_grows [] (more a rest) e = e
        given_grows (b ∷ ps) none e = e
