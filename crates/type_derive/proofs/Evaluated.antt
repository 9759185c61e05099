-- The type of a node from the types of its parts, and of calls and lists whose arguments are gone through one by one.
use Rattle.std.proofs.Common.{◌≡◌, ℕ, zero, suc, ◌+◌, ◌<◌, ◌≤◌, List, [], ◌∷◌, length, get_or, drop, map, refl, sym, ap, ◌∙◌, arith, Option, Some, None}
use Rattle.std.specs.Prelude.{Bool, true, false, ◌&&◌, nat_le, slice_get, is_some, if◌then◌else◌, ℤ}
use Rattle.std.specs.Option.{option_map}
use Rattle.sts_base.specs.declared.tables.Tables.{Tables}
use Rattle.sts_syntax.specs.declared.board_rows.BoardParameter as rust
use Rattle.sts_syntax.specs.declared.trees.Expr.{Expr}
use Rattle.sts_syntax.specs.BoardTable as board
use Rattle.sts_syntax.specs.BoardTable.{BoardParameter, row_of}
use Rattle.sts_syntax.specs.declared.board_calls.BoardCall.{BoardCall}
use Rattle.sts_syntax.specs.BoardViews.{board_parameter}
use Rattle.sts_syntax.specs.Trees.{Tree, Trees, none, more, Member, Items, Call}
use Rattle.sts_syntax.specs.Views.{tree, trees}
use Rattle.sts_scope.specs.declared.kinds.StaticType.{StaticType}
use Rattle.sts_scope.specs.declared.entries.ClassHead.{ClassHead}
use Rattle.sts_scope.specs.declared.known.Known.{Known}
use Rattle.sts_scope.specs.declared.known.Part.{Part}
use Rattle.sts_scope.specs.Kinds.{array_of, number}
use Rattle.sts_scope.specs.Places.{NameScope}
use Rattle.sts_scope.specs.Rules.{goes, all_go, all_go_to, call_kind, items_type, part_of, part_kind, part_settable}
use Rattle.type_derive.specs.declared.boards.BoardTakes as rust_row
use Rattle.type_derive.specs.declared.callees.Called.{Called}
use Rattle.type_derive.specs.declared.roles.Role.{Role}
use Rattle.type_derive.specs.declared.roles.Role.TheVariants.{Free, Given}
use Rattle.type_derive.specs.Shown.{shown, all_shown, goes_some, goes_first, fits_some, BoardRow, row_called, row_shown, board_given}
use Rattle.type_derive.proofs.Going.{typed_go, typed_go_to}
use Rattle.type_derive.specs.Typing.{◌>>=◌, type_of, types_of, called, constant_of, settable, are_given, board_callee, callee_of, board_kind}
use Rattle.std.proofs.Math.Seq.{drop-nil}
use Rattle.std.proofs.Math.Dec.{leb-zero, leb-suc-zero, leb-suc-suc}
use Rattle.sts_scope.proofs.Laws.{drop_at, drop_end}

pub moved : (t : Tables) (k : Known) (p : NameScope) (r : Role) (x a : Expr) (s : Option StaticType) → s ≡ type_of t k p r (tree x) → x ≡ a → s ≡ type_of t k p r (tree a)
moved t k p r x a s h e = h ∙ ap (λ z. type_of t k p r (tree z)) e

pub two : {A B C : Type 0} (s u : Option A) (v w : Option B) (x : Option C) (f : A → B → Option C) → s ≡ u → v ≡ w → x ≡ (s >>= λ a. v >>= λ b. f a b) → x ≡ (u >>= λ a. w >>= λ b. f a b)
two s u v w x f hs hv hx = hx ∙ ap (λ o. o >>= λ a. v >>= λ b. f a b) hs ∙ ap (λ o. u >>= λ a. o >>= λ b. f a b) hv

pub bind_some : {A B C : Type 0} (o : Option A) (g : A → B) (f : B → Option C) → ((o >>= λ a. Some (g a)) >>= f) ≡ (o >>= λ a. f (g a))
bind_some None g f = refl
bind_some (Some a) g f = refl

pub bind_itself : {A : Type 0} (o : Option A) → (o >>= λ a. Some a) ≡ o
bind_itself None = refl
bind_itself (Some a) = refl

abbrev nothing : {A B : Type 0} → A → Option B
nothing a = None

bind_none : {A B : Type 0} (o : Option A) → (o >>= λ a. nothing {B = B} a) ≡ None
bind_none None = refl
bind_none (Some a) = refl

pub none_if : {A : Type 0} (o : Option A) (b : Bool) → b ≡ is_some o → b ≡ false → o ≡ None
none_if None b h g = refl
none_if (Some a) b h g = absurd (cc)

-- a target that may be set, and a value for it
pub set_type : {A B C : Type 0} (o : Option A) (b : Bool) (s : Option B) (f : A → B → Option C) →
    ((o >>= λ a. if b then Some a else None) >>= λ a. s >>= λ c. f a c) ≡ (o >>= λ a. s >>= λ c. if b then f a c else None)
set_type None b s f = refl
set_type (Some a) true s f = refl
set_type (Some a) false s f = sym (bind_none s)

pub target_member : (t : Tables) (k : Known) (p : NameScope) (at m : ℕ) (a : Tree) (s v : Option StaticType) (part : Option Part) → constant_of t k p a m ≡ None → s ≡ type_of t k p Free a →
    part ≡ (s >>= λ u. Some (part_of t.names k u m)) → v ≡ (part >>= λ q. part_kind k q >>= λ u. if part_settable q then Some u else None) →
    v ≡ (type_of t k p Free (Member at a m) >>= λ u. if settable t k p (Member at a m) then Some u else None)
target_member t k p at m a s v part hn hs hp hv =
    hv ∙ ap (λ o. o >>= λ q. part_kind k q >>= λ u. if part_settable q then Some u else None) (hp ∙ ap (λ o. o >>= λ u. Some (part_of t.names k u m)) hs)
    ∙ settled (type_of t k p Free a) ∙ ap (λ o. chosen_member o (type_of t k p Free a)) (sym hn)
  where
    chosen_member : Option ℤ → Option StaticType → Option StaticType
    chosen_member o u = (elim o [ Some z ↦ Some number | None ↦ u >>= λ w. part_kind k (part_of t.names k w m) ])
        >>= λ w. if (elim o [ Some z ↦ false | None ↦ elim u [ None ↦ false | Some y ↦ part_settable (part_of t.names k y m) ] ]) then Some w else None

    settled : (u : Option StaticType) → ((u >>= λ w. Some (part_of t.names k w m)) >>= λ q. part_kind k q >>= λ w. if part_settable q then Some w else None) ≡ chosen_member None u
    settled None = refl
    settled (Some w) = refl

-- a member that is read, which is no constant of the board
pub read_member : (t : Tables) (k : Known) (p : NameScope) (r : Role) (at m : ℕ) (a : Tree) (s v : Option StaticType) (part : Option Part) → constant_of t k p a m ≡ None → s ≡ type_of t k p Free a →
    part ≡ (s >>= λ u. Some (part_of t.names k u m)) → v ≡ (part >>= λ q. part_kind k q) → v ≡ type_of t k p r (Member at a m)
read_member t k p r at m a s v part hn hs hp hv =
    hv ∙ ap (λ o. o >>= λ q. part_kind k q) (hp ∙ ap (λ o. o >>= λ u. Some (part_of t.names k u m)) hs)
    ∙ bind_some (type_of t k p Free a) (λ u. part_of t.names k u m) (λ q. part_kind k q)
    ∙ ap (λ o. elim o as (λ z. Option StaticType) [ Some z ↦ Some number | None ↦ type_of t k p Free a >>= λ u. part_kind k (part_of t.names k u m) ]) (sym hn)

and_false : (b : Bool) → false ≡ (b && false)
and_false true = refl
and_false false = refl

and_assoc : (a b c : Bool) → ((a && b) && c) ≡ (a && (b && c))
and_assoc true b c = refl
and_assoc false b c = refl

next_of : (i : ℕ) → suc (i + 1) ≡ suc i + 1
next_of i = omega arith

drop_more : {A : Type 0} (xs : List A) (i : ℕ) → drop 1 (drop i xs) ≡ drop (i + 1) xs
drop_more [] i = ap (drop 1) (drop-nil i) ∙ sym (drop-nil (i + 1))
drop_more (x ∷ xs) zero = refl
drop_more (x ∷ xs) (suc i) = drop_more xs i ∙ ap (λ n. drop n (x ∷ xs)) (next_of i)

-- Arguments of a call.
go_first : (classes : List ClassHead) (o : Option StaticType) (us : Option (List StaticType)) (ts : List StaticType) →
    typed_go classes (o >>= λ u. us >>= λ vs. Some (u ∷ vs)) ts ≡ (goes_first classes o ts && typed_go classes us (drop 1 ts))
unfolding all_go
go_first classes None us [] = refl
go_first classes None us (t ∷ ts) = refl
go_first classes (Some u) None [] = refl
go_first classes (Some u) None (t ∷ ts) = and_false (goes classes u t)
go_first classes (Some u) (Some vs) [] = refl
go_first classes (Some u) (Some vs) (t ∷ ts) = refl

pub go_kept : (t : Tables) (k : Known) (p : NameScope) (args : List Expr) (i : ℕ) (x : Expr) (u : Option StaticType) (takes : List StaticType) (fits fits' goes all : Bool) →
    i < length args → x ≡ get_or args i x → u ≡ type_of t k p Given (tree x) → goes ≡ goes_first k.classes u (drop i takes) → fits' ≡ (fits && goes) →
    (fits && typed_go k.classes (types_of t k p (trees (drop i args))) (drop i takes)) ≡ all →
    (fits' && typed_go k.classes (types_of t k p (trees (drop (i + 1) args))) (drop (i + 1) takes)) ≡ all
go_kept t k p args i x u takes fits fits' goes all lt is hu hg hf h =
    let rest = types_of t k p (trees (drop (i + 1) args)) in
    let more_is : types_of t k p (trees (drop i args)) ≡ (u >>= λ v. rest >>= λ vs. Some (v ∷ vs)) =
    ap (λ xs. types_of t k p (trees xs)) (drop_at args i x lt is) ∙ ap (λ o. o >>= λ v. rest >>= λ vs. Some (v ∷ vs)) (sym hu) in
    ap (λ b. b && typed_go k.classes rest (drop (i + 1) takes)) (hf ∙ ap (λ b. fits && b) hg) ∙ and_assoc fits (goes_first k.classes u (drop i takes)) (typed_go k.classes rest (drop (i + 1) takes))
    ∙ ap (λ ts. fits && (goes_first k.classes u (drop i takes) && typed_go k.classes rest ts)) (sym (drop_more takes i))
    ∙ ap (λ b. fits && b) (sym (go_first k.classes u rest (drop i takes))) ∙ ap (λ o. fits && typed_go k.classes o (drop i takes)) (sym more_is) ∙ h

none_left : (classes : List ClassHead) (ts : List StaticType) (n : ℕ) → all_go classes [] (drop n ts) ≡ nat_le (length ts) n
unfolding all_go
none_left classes [] n = ap (all_go classes []) (drop-nil n) ∙ sym (leb-zero n)
none_left classes (t ∷ ts) zero = sym (leb-suc-zero (length ts))
none_left classes (t ∷ ts) (suc n) = none_left classes ts n ∙ sym (leb-suc-suc (length ts) n)

called_is : (t : Tables) (k : Known) (d : Called) (us : Option (List StaticType)) → (if typed_go k.classes us (shown k d).takes then (shown k d).gives else None) ≡ called k (Some (shown k d)) us
unfolding call_kind
called_is t k d None = refl
called_is t k d (Some us) = refl

pub go_ends : (t : Tables) (k : Known) (p : NameScope) (args : List Expr) (i : ℕ) (takes : List StaticType) (fits all : Bool) (o : Option Called) (d : Called) (v : Option StaticType) →
    length args ≤ i → i ≤ length args → o ≡ Some d → takes ≡ (shown k d).takes →
    (fits && typed_go k.classes (types_of t k p (trees (drop i args))) (drop i takes)) ≡ typed_go k.classes (types_of t k p (trees args)) takes →
    all ≡ (fits && nat_le (length takes) (length args)) → v ≡ (if all then (shown k d).gives else None) → v ≡ called k (all_shown k o) (types_of t k p (trees args))
go_ends t k p args i takes fits all o d v ge le is ht h ha hv =
    let e : i ≡ length args = omega arith in
    let end : typed_go k.classes (types_of t k p (trees (drop i args))) (drop i takes) ≡ nat_le (length takes) (length args) =
    ap (λ xs. typed_go k.classes (types_of t k p (trees xs)) (drop i takes)) (drop_end args i ge) ∙ none_left k.classes takes i ∙ ap (nat_le (length takes)) e in
    hv ∙ ap (λ b. if b then (shown k d).gives else None) (ha ∙ ap (λ b. fits && b) (sym end) ∙ h ∙ ap (typed_go k.classes (types_of t k p (trees args))) ht)
    ∙ called_is t k d (types_of t k p (trees args)) ∙ ap (λ c. called k (all_shown k c) (types_of t k p (trees args))) (sym is)

-- Items of a list.
all_first : (classes : List ClassHead) (s : StaticType) (o : Option StaticType) (us : Option (List StaticType)) →
    typed_go_to classes s (o >>= λ u. us >>= λ vs. Some (u ∷ vs)) ≡ (goes_some classes o s && typed_go_to classes s us)
unfolding all_go_to
all_first classes s None us = refl
all_first classes s (Some u) None = and_false (goes classes u s)
all_first classes s (Some u) (Some vs) = refl

pub all_kept : (t : Tables) (k : Known) (p : NameScope) (xs : List Expr) (i : ℕ) (x : Expr) (u : Option StaticType) (s : StaticType) (fits fits' goes all : Bool) →
    i < length xs → x ≡ get_or xs i x → u ≡ type_of t k p Given (tree x) → goes ≡ goes_some k.classes u s → fits' ≡ (fits && goes) →
    (fits && typed_go_to k.classes s (types_of t k p (trees (drop i xs)))) ≡ all → (fits' && typed_go_to k.classes s (types_of t k p (trees (drop (i + 1) xs)))) ≡ all
all_kept t k p xs i x u s fits fits' goes all lt is hu hg hf h =
    let rest = types_of t k p (trees (drop (i + 1) xs)) in
    let more_is : types_of t k p (trees (drop i xs)) ≡ (u >>= λ v. rest >>= λ vs. Some (v ∷ vs)) =
    ap (λ ys. types_of t k p (trees ys)) (drop_at xs i x lt is) ∙ ap (λ o. o >>= λ v. rest >>= λ vs. Some (v ∷ vs)) (sym hu) in
    ap (λ b. b && typed_go_to k.classes s rest) (hf ∙ ap (λ b. fits && b) hg) ∙ and_assoc fits (goes_some k.classes u s) (typed_go_to k.classes s rest)
    ∙ ap (λ b. fits && b) (sym (all_first k.classes s u rest)) ∙ ap (λ o. fits && typed_go_to k.classes s o) (sym more_is) ∙ h

and_true : (b : Bool) → b ≡ (b && true)
and_true true = refl
and_true false = refl

nothing_left : (classes : List ClassHead) (s : StaticType) → typed_go_to classes s (Some []) ≡ true
unfolding all_go_to
nothing_left classes s = refl

list_is : (classes : List ClassHead) (s : StaticType) (us : Option (List StaticType)) → (if typed_go_to classes s us then array_of s else None) ≡ (us >>= λ vs. items_type classes s vs)
unfolding items_type
list_is classes s None = refl
list_is classes s (Some us) = refl

pub trees_first : (xs : List Expr) (x : Expr) → 1 ≤ length xs → x ≡ get_or xs 0 x → trees xs ≡ more (tree x) (trees (drop 1 xs))
trees_first xs x h is = ap trees (drop_at xs 0 x (omega arith) is)

pub list_none : (t : Tables) (k : Known) (p : NameScope) (r : Role) (at : ℕ) (xs : List Expr) (x : Expr) (s : Option StaticType) → 1 ≤ length xs → x ≡ get_or xs 0 x →
    s ≡ type_of t k p Free (tree x) → s ≡ None → None ≡ type_of t k p r (Items at (trees xs))
list_none t k p r at xs x s h is hs e =
    ap (λ o. o >>= λ u. types_of t k p (trees (drop 1 xs)) >>= λ vs. items_type k.classes u vs) (sym e ∙ hs) ∙ ap (λ ys. type_of t k p r (Items at ys)) (sym (trees_first xs x h is))

pub list_ends : (t : Tables) (k : Known) (p : NameScope) (r : Role) (at i : ℕ) (xs : List Expr) (x : Expr) (o v : Option StaticType) (s : StaticType) (fits : Bool) → 1 ≤ length xs → x ≡ get_or xs 0 x →
    o ≡ type_of t k p Free (tree x) → o ≡ Some s → length xs ≤ i →
    (fits && typed_go_to k.classes s (types_of t k p (trees (drop i xs)))) ≡ typed_go_to k.classes s (types_of t k p (trees (drop 1 xs))) →
    v ≡ (if fits then array_of s else None) → v ≡ type_of t k p r (Items at (trees xs))
list_ends t k p r at i xs x o v s fits h is ho e ge kept hv =
    let rest = types_of t k p (trees (drop 1 xs)) in
    let end : typed_go_to k.classes s (types_of t k p (trees (drop i xs))) ≡ true = ap (λ ys. typed_go_to k.classes s (types_of t k p (trees ys))) (drop_end xs i ge) ∙ nothing_left k.classes s in
    hv ∙ ap (λ b. if b then array_of s else None) (and_true fits ∙ ap (λ b. fits && b) (sym end) ∙ kept) ∙ list_is k.classes s rest
    ∙ ap (λ q. q >>= λ u. rest >>= λ vs. items_type k.classes u vs) (sym e ∙ ho) ∙ ap (λ ys. type_of t k p r (Items at ys)) (sym (trees_first xs x h is))

-- Arguments of a call of the board.
board_first : (t : Tables) (k : Known) (p : NameScope) (ps : List BoardParameter) (a : Tree) (rest : Trees) → are_given t k p ps (more a rest) ≡ (fits_some t k p (slice_get ps 0) a && are_given t k p (drop 1 ps) rest)
board_first t k p [] a rest = refl
board_first t k p (board.Of u ∷ ps) a rest = refl
board_first t k p (board.Handler ∷ ps) a rest = refl
board_first t k p (board.Drawing ∷ ps) a rest = refl

taken_at : (takes : List rust.BoardParameter) (i : ℕ) → slice_get (map board_parameter (drop i takes)) 0 ≡ option_map board_parameter (slice_get takes i)
taken_at [] zero = refl
taken_at [] (suc i) = refl
taken_at (q ∷ qs) zero = refl
taken_at (q ∷ qs) (suc i) = taken_at qs i

taken_behind : (takes : List rust.BoardParameter) (i : ℕ) → drop 1 (map board_parameter (drop i takes)) ≡ map board_parameter (drop (i + 1) takes)
taken_behind [] i = ap (λ qs. drop 1 (map board_parameter qs)) (drop-nil i) ∙ ap (map board_parameter) (sym (drop-nil (i + 1)))
taken_behind (q ∷ qs) zero = refl
taken_behind (q ∷ qs) (suc i) = taken_behind qs i ∙ ap (λ n. map board_parameter (drop n (q ∷ qs))) (next_of i)

pub board_kept : (t : Tables) (k : Known) (p : NameScope) (args : List Expr) (takes : List rust.BoardParameter) (i : ℕ) (x : Expr) (to : Option rust.BoardParameter) (fits fits' goes all : Bool) →
    i < length args → x ≡ get_or args i x → to ≡ slice_get takes i → goes ≡ fits_some t k p (option_map board_parameter to) (tree x) → fits' ≡ (fits && goes) →
    (fits && are_given t k p (map board_parameter (drop i takes)) (trees (drop i args))) ≡ all →
    (fits' && are_given t k p (map board_parameter (drop (i + 1) takes)) (trees (drop (i + 1) args))) ≡ all
board_kept t k p args takes i x to fits fits' goes all lt is ht hg hf h =
    let qs = map board_parameter (drop i takes) in
    let rest = trees (drop (i + 1) args) in
    ap (λ b. b && are_given t k p (map board_parameter (drop (i + 1) takes)) rest)
    (hf ∙ ap (λ b. fits && b) (hg ∙ ap (λ o. fits_some t k p (option_map board_parameter o) (tree x)) ht ∙ ap (λ o. fits_some t k p o (tree x)) (sym (taken_at takes i))))
    ∙ and_assoc fits (fits_some t k p (slice_get qs 0) (tree x)) (are_given t k p (map board_parameter (drop (i + 1) takes)) rest)
    ∙ ap (λ ps. fits && (fits_some t k p (slice_get qs 0) (tree x) && are_given t k p ps rest)) (sym (taken_behind takes i))
    ∙ ap (λ b. fits && b) (sym (board_first t k p qs (tree x) rest)) ∙ ap (λ xs. fits && are_given t k p qs (trees xs)) (sym (drop_at args i x lt is)) ∙ h

untaken : (t : Tables) (k : Known) (p : NameScope) (q : BoardParameter) (ps : List BoardParameter) → are_given t k p (q ∷ ps) none ≡ false
untaken t k p (board.Of u) ps = refl
untaken t k p board.Handler ps = refl
untaken t k p board.Drawing ps = refl

given_none : (t : Tables) (k : Known) (p : NameScope) (qs : List rust.BoardParameter) (n : ℕ) → are_given t k p (map board_parameter (drop n qs)) none ≡ nat_le (length qs) n
given_none t k p [] n = ap (λ qs. are_given t k p (map board_parameter qs) none) (drop-nil n) ∙ sym (leb-zero n)
given_none t k p (q ∷ qs) zero = untaken t k p (board_parameter q) (map board_parameter qs) ∙ sym (leb-suc-zero (length qs))
given_none t k p (q ∷ qs) (suc n) = given_none t k p qs n ∙ sym (leb-suc-suc (length qs) n)

pub board_ends : (t : Tables) (k : Known) (p : NameScope) (args : List Expr) (o : Option rust_row.BoardTakes) (row : rust_row.BoardTakes) (i : ℕ) (fits all : Bool) (v : Option StaticType) →
    length args ≤ i → i ≤ length args → o ≡ Some row →
    (fits && are_given t k p (map board_parameter (drop i row.takes.now)) (trees (drop i args))) ≡ are_given t k p (map board_parameter row.takes.now) (trees args) →
    all ≡ (fits && nat_le (length row.takes.now) (length args)) → v ≡ (if all then Some row.gives else None) → v ≡ board_given t k p (option_map row_shown o) (trees args)
board_ends t k p args o row i fits all v ge le is h ha hv =
    let e : i ≡ length args = omega arith in
    let end : are_given t k p (map board_parameter (drop i row.takes.now)) (trees (drop i args)) ≡ nat_le (length row.takes.now) (length args) =
    ap (λ xs. are_given t k p (map board_parameter (drop i row.takes.now)) (trees xs)) (drop_end args i ge) ∙ given_none t k p row.takes.now i ∙ ap (nat_le (length row.takes.now)) e in
    hv ∙ ap (λ b. if b then Some row.gives else None) (ha ∙ ap (λ b. fits && b) (sym end) ∙ h) ∙ ap (λ q. board_given t k p (option_map row_shown q) (trees args)) (sym is)

-- A call, by whether it is one of the board.
by_row : (t : Tables) (k : Known) (p : NameScope) (o : Option BoardCall) (args : Trees) (rest : Option StaticType) (b : Bool) → b ≡ is_some (option_map row_called o) → b ≡ true →
    (elim o as (λ x. Option StaticType) [ Some c ↦ if are_given t k p (row_of c).takes args then Some (board_kind (row_of c).gives) else None | None ↦ rest ]) ≡ board_given t k p (option_map row_called o) args
by_row t k p None args rest b h g = absurd (cc)
by_row t k p (Some c) args rest b h g = refl

some_row : (o : Option rust_row.BoardTakes) (q : Option BoardRow) (b : Bool) → option_map row_shown o ≡ q → b ≡ is_some o → b ≡ is_some q
some_row None q b h g = g ∙ ap is_some h
some_row (Some row) q b h g = g ∙ ap is_some h

pub call_board : (t : Tables) (k : Known) (p : NameScope) (r : Role) (at : ℕ) (f : Tree) (args : Trees) (row : Option rust_row.BoardTakes) (b : Bool) →
    option_map row_shown row ≡ option_map row_called (board_callee t k p f) → b ≡ is_some row → b ≡ true →
    board_given t k p (option_map row_shown row) args ≡ type_of t k p r (Call at f args)
call_board t k p r at f args row b h g y =
    ap (λ o. board_given t k p o args) h
    ∙ sym (by_row t k p (board_callee t k p f) args (called k (callee_of t k p f) (types_of t k p args)) b (some_row row (option_map row_called (board_callee t k p f)) b h g) y)

no_row : (o : Option BoardCall) (b : Bool) → b ≡ is_some (option_map row_called o) → b ≡ false → o ≡ None
no_row None b h g = refl
no_row (Some c) b h g = absurd (cc)

pub call_other : (t : Tables) (k : Known) (p : NameScope) (r : Role) (at : ℕ) (f : Tree) (args : Trees) (row : Option rust_row.BoardTakes) (b : Bool) →
    option_map row_shown row ≡ option_map row_called (board_callee t k p f) → b ≡ is_some row → b ≡ false →
    type_of t k p r (Call at f args) ≡ called k (callee_of t k p f) (types_of t k p args)
call_other t k p r at f args row b h g y =
    ap (λ o. elim o as (λ x. Option StaticType) [ Some c ↦ if are_given t k p (row_of c).takes args then Some (board_kind (row_of c).gives) else None | None ↦ called k (callee_of t k p f) (types_of t k p args) ])
    (no_row (board_callee t k p f) b (some_row row (option_map row_called (board_callee t k p f)) b h g) y)
