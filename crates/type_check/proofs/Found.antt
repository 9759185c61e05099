-- The failure of a node, where its parts have none.
use Rattle.std.proofs.Common.{◌≡◌, ℕ, ℤ, zero, suc, ◌+◌, ◌<◌, ◌≤◌, ◌++◌, true, Option, Some, None, List, [], ◌∷◌, length, get_or, drop, refl, sym, ap, ◌∙◌, subst, arith, append_assoc, Result}
use Rattle.std.proofs.lemmas.Bool.{false≢true}
use Rattle.sts_base.specs.declared.refused.Refused.{Refused}
use Rattle.sts_base.specs.declared.refused.Code.TheVariants.{Mismatch, BadHandler}
use Rattle.sts_syntax.specs.declared.trees.Expr.{Expr}
use Rattle.std.specs.Prelude.{IfOk, is_some, if◌then◌else◌}
use Rattle.sts_base.specs.declared.tables.Tables.{Tables}
use Rattle.sts_syntax.specs.BoardTable.{BoardParameter, row_of, call_named, constant_named}
use Rattle.sts_syntax.specs.declared.board_calls.BoardCall.{BoardCall}
use Rattle.sts_scope.specs.declared.known.Known.{Known}
use Rattle.sts_scope.specs.declared.known.Part.{Part}
use Rattle.sts_scope.specs.declared.known.Found.{Found}
use Rattle.sts_scope.specs.declared.known.Found.TheVariants as found
use Rattle.sts_scope.specs.Kinds.{number}
use Rattle.sts_scope.specs.Rules.{name_kind, part_of, part_kind as part_kind_of}
use Rattle.type_derive.specs.Nodes.{cause_of, lacks_handler}
use Rattle.sts_scope.specs.Codes.{why_call, why_make}
use Rattle.type_check.specs.Seen.{is_called, plain, member, own_member, own_called_kind, called_kind, super_callee, listed_kind, board_kind_of, board_cause}
use Rattle.type_check.proofs.Placed.{of_member, of_constant, of_board, of_object, member_by}
use Rattle.type_check.proofs.Calls.{own_called_is, called_is, list_is}
use Rattle.sts_syntax.specs.Trees.{Tree, Trees, Items, none, more, Name, Member, Call, Make, SuperCall}
use Rattle.sts_syntax.specs.Views.{tree, trees}
use Rattle.sts_scope.specs.declared.kinds.StaticType.{StaticType}
use Rattle.sts_scope.specs.Failures.{Failure, ◌then◌, own, unless, Finds}
use Rattle.sts_scope.specs.Places.{NameScope}
use Rattle.sts_scope.proofs.Laws.{drop_at, drop_end}
use Rattle.type_derive.specs.declared.roles.Role.{Role}
use Rattle.type_derive.specs.declared.roles.Role.TheVariants.{Free, Called}
use Rattle.type_derive.specs.Typing.{◌>>=◌, Callee, type_of, types_of, role_of, behind, finds, space_of, spelling, constant_of, board_callee, callee_of, called, made, are_given, board_kind}
use Rattle.type_derive.specs.declared.context.Context.{Context}
use Rattle.type_check.specs.declared.seen.Seen.{Seen}
use Rattle.type_check.specs.Contexts.{failure, failures, kinds_of, seen_of}

behind_is : (bs : List BoardParameter) (i : ℕ) → behind (drop i bs) ≡ drop (i + 1) bs
behind_is [] i = ap behind (drop_end {A = BoardParameter} [] i (omega arith)) ∙ sym (drop_end {A = BoardParameter} [] (i + 1) (omega arith))
behind_is (b ∷ bs) zero = refl
behind_is (b ∷ bs) (suc i) = let e : suc (i + 1) ≡ suc i + 1 = omega arith in behind_is bs i ∙ ap (λ n. drop n (b ∷ bs)) e

pub trees_first : (xs : List Expr) (x : Expr) → 1 ≤ length xs → x ≡ get_or xs 0 x → trees xs ≡ more (tree x) (trees (drop 1 xs))
trees_first xs x h is = ap trees (drop_at xs 0 x (omega arith) is)

module _ (c : Context) (p : NameScope) (bs : List BoardParameter) (all : List Expr) where
  pub args_step : (i : ℕ) (a : Expr) (r : Role) → i < length all → a ≡ get_or all i a → r ≡ role_of (drop i bs) →
      failures c p (drop i bs) (trees (drop i all)) ≡ (failure c p r (tree a) then failures c p (drop (i + 1) bs) (trees (drop (i + 1) all)))
  args_step i a r lt is h =
      ap (λ xs. failures c p (drop i bs) (trees xs)) (drop_at all i a lt is)
      ∙ ap (λ q. failure c p (role_of (drop i bs)) (tree a) then failures c p q (trees (drop (i + 1) all))) (behind_is bs i)
      ∙ ap (λ q. failure c p q (tree a) then failures c p (drop (i + 1) bs) (trees (drop (i + 1) all))) (sym h)

  pub args_kept : (i : ℕ) (a : Expr) (r : Role) (found : Option Failure) → i < length all → a ≡ get_or all i a → r ≡ role_of (drop i bs) →
      failure c p r (tree a) ≡ None → failures c p (drop i bs) (trees (drop i all)) ≡ found → failures c p (drop (i + 1) bs) (trees (drop (i + 1) all)) ≡ found
  args_kept i a r found lt is h f rest = ap (λ q. q then failures c p (drop (i + 1) bs) (trees (drop (i + 1) all))) (sym f) ∙ sym (args_step i a r lt is h) ∙ rest

  pub kinds_more : (i : ℕ) (a : Expr) (r : Role) (s : Seen) (os us : List (Option StaticType)) (kinds : List (Option StaticType)) → i < length all → a ≡ get_or all i a → r ≡ role_of (drop i bs) →
      s ≡ seen_of c p r (tree a) → us ≡ os ++ s.kind ∷ [] → os ++ kinds_of c p (drop i bs) (trees (drop i all)) ≡ kinds →
      us ++ kinds_of c p (drop (i + 1) bs) (trees (drop (i + 1) all)) ≡ kinds
  kinds_more i a r s os us kinds lt is h hs hu rest =
      let t = c.tables.now in
      let k = c.known.now in
      let step : kinds_of c p (drop i bs) (trees (drop i all)) ≡ type_of t k p r (tree a) ∷ kinds_of c p (drop (i + 1) bs) (trees (drop (i + 1) all)) =
      ap (λ xs. kinds_of c p (drop i bs) (trees xs)) (drop_at all i a lt is)
      ∙ ap (λ q. type_of t k p (role_of (drop i bs)) (tree a) ∷ kinds_of c p q (trees (drop (i + 1) all))) (behind_is bs i)
      ∙ ap (λ q. type_of t k p q (tree a) ∷ kinds_of c p (drop (i + 1) bs) (trees (drop (i + 1) all))) (sym h) in
      let here : s.kind ≡ type_of t k p r (tree a) = ap (λ (q : Seen). q.kind) hs in
      ap (λ q. q ++ kinds_of c p (drop (i + 1) bs) (trees (drop (i + 1) all))) hu
      ∙ append_assoc os (s.kind ∷ []) (kinds_of c p (drop (i + 1) bs) (trees (drop (i + 1) all)))
      ∙ ap (λ q. os ++ q ∷ kinds_of c p (drop (i + 1) bs) (trees (drop (i + 1) all))) here
      ∙ ap (λ q. os ++ q) (sym step) ∙ rest

abbrev plain_of : Option StaticType → Option Part → Seen
plain_of kind part = record { kind = kind; part = part }

apart : {A : Type 0} (v : A) → None ≡ Some v → ⊥
apart v h = false≢true (ap is_some h)

-- what names a part of the board's interface has no type
no_space : {A : Type 0} (t : Tables) (k : Known) (p : NameScope) (x : ℕ) (f : Found) (named : List ℕ → Option A) (v : A) → (space_of t x f >>= named) ≡ Some v → name_kind k p f ≡ None
no_space t k p x found.Unknown named v h = refl
no_space t k p x (found.Local i) named v h = absurd (apart v h)
no_space t k p x (found.Global d) named v h = absurd (apart v h)
no_space t k p x found.Captured named v h = refl
no_space t k p x (found.Function d) named v h = refl
no_space t k p x (found.Class d) named v h = refl

-- what stands before the dot of a call of the board has no type
pub no_type : (t : Tables) (k : Known) (p : NameScope) (at m : ℕ) (a : Tree) (call : BoardCall) → board_callee t k p (Member at a m) ≡ Some call → type_of t k p Free a ≡ None
no_type t k p at m (Name j x) call h = no_space t k p x (finds t k p x) (λ s. call_named s (spelling t m)) call h
no_type t k p at m _ call h = absurd (apart call h)

-- nor has what stands before the dot of a constant of the board
constant_type : (t : Tables) (k : Known) (p : NameScope) (m : ℕ) (a : Tree) (z : ℤ) → constant_of t k p a m ≡ Some z → type_of t k p Free a ≡ None
constant_type t k p m (Name j x) z h = no_space t k p x (finds t k p x) (λ s. constant_named s (spelling t m)) z h
constant_type t k p m _ z h = absurd (apart z h)

pub untyped : (t : Tables) (k : Known) (p : NameScope) (at m : ℕ) (a : Tree) → is_some (board_callee t k p (Member at a m)) ≡ true → type_of t k p Free a ≡ None
untyped t k p at m a h = by_call (board_callee t k p (Member at a m)) (no_type t k p at m a) h where
  by_call : (o : Option BoardCall) → ((call : BoardCall) → o ≡ Some call → type_of t k p Free a ≡ None) → is_some o ≡ true → type_of t k p Free a ≡ None
  by_call None f h = absurd (false≢true h)
  by_call (Some call) f h = f call refl

module _ (c : Context) (p : NameScope) (r : Role) where
  pub member_board : (at m : ℕ) (a : Tree) (s : Seen) → s ≡ plain None → constant_of c.tables.now c.known.now p a m ≡ None → type_of c.tables.now c.known.now p Free a ≡ None → s ≡ seen_of c p r (Member at a m)
  member_board at m a s hs hc ht =
      let k = c.known.now in
      let names = c.tables.now.names in
      hs ∙ sym (ap (λ o. plain_of (elim o [ Some z ↦ Some number | None ↦ type_of c.tables.now k p Free a >>= λ u. part_kind_of k (part_of names k u m) ]) (type_of c.tables.now k p Free a >>= λ u. Some (part_of names k u m))) hc
      ∙ ap (λ o. plain_of (o >>= λ u. part_kind_of k (part_of names k u m)) (o >>= λ u. Some (part_of names k u m))) ht)

  constant_by : (at m : ℕ) (a : Tree) (s : Seen) (o : Option ℤ) → constant_of c.tables.now c.known.now p a m ≡ o → is_some o ≡ true → s ≡ plain (Some number) → s ≡ seen_of c p r (Member at a m)
  constant_by at m a s None e h hs = absurd (false≢true h)
  constant_by at m a s (Some z) e h hs =
      let t = c.tables.now in
      let k = c.known.now in
      hs ∙ sym (ap (λ o. plain_of (elim o [ Some y ↦ Some number | None ↦ type_of t k p Free a >>= λ u. part_kind_of k (part_of t.names k u m) ]) (type_of t k p Free a >>= λ u. Some (part_of t.names k u m))) e
      ∙ ap (λ o. plain_of (Some number) (o >>= λ u. Some (part_of t.names k u m))) (constant_type t k p m a z e))

  -- a constant of the board
  pub member_constant : (at m : ℕ) (a : Tree) (s : Seen) → s ≡ plain (Some number) → is_some (constant_of c.tables.now c.known.now p a m) ≡ true → s ≡ seen_of c p r (Member at a m)
  member_constant at m a s hs h = constant_by at m a s (constant_of c.tables.now c.known.now p a m) refl h hs

  -- the failures of a member: of a constant of the board, of a call of the board, and of any other
  constant_is : (at m : ℕ) (a : Tree) (o : Option ℤ) → constant_of c.tables.now c.known.now p a m ≡ o → is_some o ≡ true → failure c p r (Member at a m) ≡ None
  constant_is at m a None e h = absurd (false≢true h)
  constant_is at m a (Some z) e h =
      let t = c.tables.now in
      let k = c.known.now in
      let b = board_callee t k p (Member at a m) in
      let o = type_of t k p Free a in
      let f = failure c p Free a in
      member_by c p r at m a ∙ ap (λ q. of_member t k at m r q b o f) e ∙ of_constant t k at m r z b o f

  pub constant_found : (at m : ℕ) (a : Tree) → is_some (constant_of c.tables.now c.known.now p a m) ≡ true → failure c p r (Member at a m) ≡ None
  constant_found at m a h = constant_is at m a (constant_of c.tables.now c.known.now p a m) refl h

  board_by : (at m : ℕ) (a : Tree) (o : Option BoardCall) → constant_of c.tables.now c.known.now p a m ≡ None → board_callee c.tables.now c.known.now p (Member at a m) ≡ o → is_some o ≡ true →
      failure c p r (Member at a m) ≡ unless (is_called r) BadHandler at
  board_by at m a None hc e h = absurd (false≢true h)
  board_by at m a (Some call) hc e h =
      let t = c.tables.now in
      let k = c.known.now in
      let f = failure c p Free a in
      member_by c p r at m a ∙ ap (λ q. of_member t k at m r q (board_callee t k p (Member at a m)) (type_of t k p Free a) f) hc
      ∙ ap (λ q. of_member t k at m r None q (type_of t k p Free a) f) e ∙ ap (λ q. of_member t k at m r None (Some call) q f) (no_type t k p at m a call e) ∙ of_board t k at m r call f

  pub board_found : (at m : ℕ) (a : Tree) → constant_of c.tables.now c.known.now p a m ≡ None → is_some (board_callee c.tables.now c.known.now p (Member at a m)) ≡ true →
      failure c p r (Member at a m) ≡ unless (is_called r) BadHandler at
  board_found at m a hc h = board_by at m a (board_callee c.tables.now c.known.now p (Member at a m)) hc refl h

  pub member_is : (at m : ℕ) (a : Tree) → constant_of c.tables.now c.known.now p a m ≡ None → board_callee c.tables.now c.known.now p (Member at a m) ≡ None →
      failure c p r (Member at a m) ≡ (failure c p Free a then own_member c.tables.now c.known.now r (type_of c.tables.now c.known.now p Free a) m at)
  member_is at m a hc hb =
      let t = c.tables.now in
      let k = c.known.now in
      let o = type_of t k p Free a in
      let f = failure c p Free a in
      member_by c p r at m a ∙ ap (λ q. of_member t k at m r q (board_callee t k p (Member at a m)) o f) hc ∙ ap (λ q. of_member t k at m r None q o f) hb ∙ of_object t k at m r o f

  pub member_found : (at m : ℕ) (a : Tree) (o : Option StaticType) (result : Result Seen Refused) → constant_of c.tables.now c.known.now p a m ≡ None → board_callee c.tables.now c.known.now p (Member at a m) ≡ None →
      failure c p Free a ≡ None → o ≡ type_of c.tables.now c.known.now p Free a → Finds result (own_member c.tables.now c.known.now r o m at) → Finds result (failure c p r (Member at a m))
  member_found at m a o result hc hb hf ho f =
      let t = c.tables.now in
      let k = c.known.now in
      subst (Finds result) (sym (member_is at m a hc hb ∙ ap (λ q. q then own_member t k r (type_of t k p Free a) m at) hf
      ∙ ap (λ q. own_member t k r q m at) (sym ho))) f

  pub member_typed : (at m : ℕ) (a : Tree) (o : Option StaticType) (result : Result Seen Refused) → constant_of c.tables.now c.known.now p a m ≡ None → o ≡ type_of c.tables.now c.known.now p Free a →
      IfOk result (λ s. s ≡ member c.tables.now c.known.now o m) → IfOk result (λ s. s ≡ seen_of c p r (Member at a m))
  member_typed at m a o result hc ho seen =
      let t = c.tables.now in
      let k = c.known.now in
      subst (λ q. IfOk result (λ s. s ≡ plain_of (elim q [ Some z ↦ Some number | None ↦ type_of t k p Free a >>= λ u. part_kind_of k (part_of t.names k u m) ]) (type_of t k p Free a >>= λ u. Some (part_of t.names k u m)))) (sym hc)
      (subst (λ q. IfOk result (λ s. s ≡ member t k q m)) ho seen)

  -- the failures of a call of the board, and of any other
  abbrev of_call : ℕ → Tree → Trees → Option BoardCall → Option Failure
  of_call at f args q =
      let t = c.tables.now in
      let k = c.known.now in
      let own_so = own (elim q [ Some call ↦ if are_given t k p (row_of call).takes args then Some (board_kind (row_of call).gives) else None | None ↦ called k (callee_of t k p f) (types_of t k p args) ])
      (elim q [ Some call ↦ if lacks_handler t k p (row_of call).takes args then BadHandler else Mismatch | None ↦ elim (callee_of t k p f) [ None ↦ Mismatch | Some d ↦ why_call d.gives ] ]) at in
      elim q [ Some call ↦ failures c p (row_of call).takes args then own_so | None ↦ failure c p Called f then failures c p [] args then own_so ]

  pub board_call_is : (at : ℕ) (f : Tree) (args : Trees) (call : BoardCall) → board_callee c.tables.now c.known.now p f ≡ Some call →
      failure c p r (Call at f args) ≡ (failures c p (row_of call).takes args then own (board_kind_of c.tables.now c.known.now p call args) (board_cause c.tables.now c.known.now p call args) at)
  board_call_is at f args call hb = ap (of_call at f args) hb

  pub other_call_is : (at : ℕ) (f : Tree) (args : Trees) → board_callee c.tables.now c.known.now p f ≡ None →
      failure c p r (Call at f args)
      ≡ (failure c p Called f then failures c p [] args then own_called_kind c.known.now (callee_of c.tables.now c.known.now p f) (kinds_of c p [] args) at)
  other_call_is at f args hb =
      ap (of_call at f args) hb
      ∙ ap (λ q. failure c p Called f then failures c p [] args then q) (own_called_is c.tables.now c.known.now p (callee_of c.tables.now c.known.now p f) args at)

  pub call_found : (at : ℕ) (f : Tree) (args : Trees) (d : Option Callee) (os : List (Option StaticType)) (result : Result Seen Refused) → board_callee c.tables.now c.known.now p f ≡ None →
      failure c p Called f ≡ None → failures c p [] args ≡ None → d ≡ callee_of c.tables.now c.known.now p f → os ≡ kinds_of c p [] args →
      Finds result (own_called_kind c.known.now d os at) → Finds result (failure c p r (Call at f args))
  call_found at f args d os result hb hf ha hd ho found =
      let t = c.tables.now in
      let k = c.known.now in
      let own_so = own_called_kind k (callee_of t k p f) (kinds_of c p [] args) at in
      subst (Finds result) (sym (other_call_is at f args hb ∙ ap (λ q. q then failures c p [] args then own_so) hf ∙ ap (λ q. q then own_so) ha
      ∙ ap (λ q. own_called_kind k q (kinds_of c p [] args) at) (sym hd) ∙ ap (λ q. own_called_kind k d q at) (sym ho))) found

  pub call_typed : (at : ℕ) (f : Tree) (args : Trees) (d : Option Callee) (os : List (Option StaticType)) (result : Result Seen Refused) → board_callee c.tables.now c.known.now p f ≡ None →
      d ≡ callee_of c.tables.now c.known.now p f → os ≡ kinds_of c p [] args →
      IfOk result (λ s. s ≡ plain (called_kind c.known.now.classes d os)) → IfOk result (λ s. s ≡ seen_of c p r (Call at f args))
  call_typed at f args d os result hb hd ho seen =
      let t = c.tables.now in
      let k = c.known.now in
      subst (λ q. IfOk result (λ s. s ≡ plain q)) (sym (ap (λ q. elim q [ Some call ↦ if are_given t k p (row_of call).takes args then Some (board_kind (row_of call).gives) else None | None ↦ called k (callee_of t k p f) (types_of t k p args) ]) hb
      ∙ called_is t k p (callee_of t k p f) args ∙ ap (λ q. called_kind k.classes q (kinds_of c p [] args)) (sym hd) ∙ ap (λ q. called_kind k.classes d q) (sym ho))) seen

  pub make_found : (at x : ℕ) (args : Trees) (os : List (Option StaticType)) (result : Result Seen Refused) → failures c p [] args ≡ None → os ≡ kinds_of c p [] args →
      (let f = finds c.tables.now c.known.now p x in Finds result (own (called_kind c.known.now.classes (made c.known.now f) os) (why_make f) at)) →
      Finds result (failure c p r (Make at x args))
  make_found at x args os result ha ho found =
      let t = c.tables.now in
      let k = c.known.now in
      let f = finds t k p x in
      subst (Finds result) (sym (ap (λ q. q then own (called k (made k f) (types_of t k p args)) (why_make f) at) ha
      ∙ ap (λ q. own q (why_make f) at) (called_is t k p (made k f) args ∙ ap (λ q. called_kind k.classes (made k f) q) (sym ho)))) found

  pub make_typed : (at x : ℕ) (args : Trees) (os : List (Option StaticType)) (result : Result Seen Refused) → os ≡ kinds_of c p [] args →
      IfOk result (λ s. s ≡ plain (called_kind c.known.now.classes (made c.known.now (finds c.tables.now c.known.now p x)) os)) → IfOk result (λ s. s ≡ seen_of c p r (Make at x args))
  make_typed at x args os result ho seen =
      let t = c.tables.now in
      let k = c.known.now in
      let d = made k (finds t k p x) in
      subst (λ q. IfOk result (λ s. s ≡ plain q)) (sym (called_is t k p d args ∙ ap (λ q. called_kind k.classes d q) (sym ho))) seen

  pub super_found : (at m : ℕ) (args : Trees) (os : List (Option StaticType)) (result : Result Seen Refused) → failures c p [] args ≡ None → os ≡ kinds_of c p [] args →
      Finds result (own (called_kind c.known.now.classes (super_callee c.tables.now c.known.now p.this m) os) (cause_of c.tables.now c.known.now p Free (SuperCall at (Some m) none)) at) →
      Finds result (failure c p r (SuperCall at (Some m) args))
  super_found at m args os result ha ho found =
      let t = c.tables.now in
      let k = c.known.now in
      let d = super_callee t k p.this m in
      let why = cause_of t k p Free (SuperCall at (Some m) none) in
      subst (Finds result) (sym (ap (λ q. q then own (called k d (types_of t k p args)) why at) ha
      ∙ ap (λ q. own q why at) (called_is t k p d args ∙ ap (λ q. called_kind k.classes d q) (sym ho)))) found

  pub super_typed : (at m : ℕ) (args : Trees) (os : List (Option StaticType)) (result : Result Seen Refused) → os ≡ kinds_of c p [] args →
      IfOk result (λ s. s ≡ plain (called_kind c.known.now.classes (super_callee c.tables.now c.known.now p.this m) os)) → IfOk result (λ s. s ≡ seen_of c p r (SuperCall at (Some m) args))
  super_typed at m args os result ho seen =
      let t = c.tables.now in
      let k = c.known.now in
      let d = super_callee t k p.this m in
      subst (λ q. IfOk result (λ s. s ≡ plain q)) (sym (called_is t k p d args ∙ ap (λ q. called_kind k.classes d q) (sym ho))) seen

  pub items_found : (at : ℕ) (e : Tree) (rest : Trees) (o : Option StaticType) (os : List (Option StaticType)) (result : Result Seen Refused) → failure c p Free e ≡ None → failures c p [] rest ≡ None →
      o ≡ type_of c.tables.now c.known.now p Free e → os ≡ kinds_of c p [] rest → Finds result (own (listed_kind c.known.now.classes o os) Mismatch at) → Finds result (failure c p r (Items at (more e rest)))
  items_found at e rest o os result hf ha hk ho found =
      let t = c.tables.now in
      let k = c.known.now in
      let u = type_of t k p r (Items at (more e rest)) in
      subst (Finds result) (sym (ap (λ q. q then failures c p [] rest then own u Mismatch at) hf ∙ ap (λ q. q then own u Mismatch at) ha
      ∙ ap (λ q. own q Mismatch at) (list_is t k p (type_of t k p Free e) rest ∙ ap (λ q. listed_kind k.classes q (kinds_of c p [] rest)) (sym hk) ∙ ap (λ q. listed_kind k.classes o q) (sym ho)))) found

  pub items_typed : (at : ℕ) (e : Tree) (rest : Trees) (o : Option StaticType) (os : List (Option StaticType)) (result : Result Seen Refused) →
      o ≡ type_of c.tables.now c.known.now p Free e → os ≡ kinds_of c p [] rest → IfOk result (λ s. s ≡ plain (listed_kind c.known.now.classes o os)) → IfOk result (λ s. s ≡ seen_of c p r (Items at (more e rest)))
  items_typed at e rest o os result hk ho seen =
      let t = c.tables.now in
      let k = c.known.now in
      subst (λ q. IfOk result (λ s. s ≡ plain q))
      (sym (list_is t k p (type_of t k p Free e) rest ∙ ap (λ q. listed_kind k.classes q (kinds_of c p [] rest)) (sym hk) ∙ ap (λ q. listed_kind k.classes o q) (sym ho))) seen
