-- Elaboration agrees with the first failure, the type and the making of an expression and of a statement: one induction.
use Rattle.std.proofs.Common.{◌≡◌, ℕ, suc, refl, sym, ap, ◌∙◌, subst, Bool, false, ◌&&◌, ◌||◌, Option, Some, None, List, [], ◌∷◌, ◌++◌}
use Rattle.std.specs.Prelude.{◌↔◌, is_some, not, Result, Ok, Err, if◌then◌else◌}
use Rattle.sts_base.specs.declared.refused.Code.TheVariants.{Mismatch, NeedsType, UnknownName}
use Rattle.sts_syntax.specs.Annotations.{Annotation}
use Rattle.sts_syntax.specs.declared.typed.Spot.TheVariants.{Local}
use Rattle.sts_syntax.specs.Types as t
use Rattle.sts_syntax.specs.Types.{ValueType}
use Rattle.sts_syntax.specs.TypedTrees as e
use Rattle.sts_syntax.specs.TypedTrees.{TypedTree, TypedTrees, TypedStatement, TypedStatements, OptionalTypedStatement, TypedDeclaration, TypedRoutine}
use Rattle.sts_syntax.specs.BoardTable as board
use Rattle.sts_syntax.specs.BoardTable.{BoardParameter, row_of}
use Rattle.sts_syntax.specs.Trees.{Tree, Num, Text, Truth, Null, This, Name, Unary, Binary, Both, Either, Choice, Set, Bump, Member, Item, Call, SuperCall, Make, Items, Handler, Trees, none, more, OptionalTree, absent, present, Statement, Block, Let, IfOnly, IfElse, While, DoWhile, For, ForOf, Return, Break, Continue, Plain, Empty, Statements, done, also, omitted, written, Declaration, Declare, Declarations, ended, next, Routine, Does}
use Rattle.sts_scope.specs.declared.kinds.StaticType.{StaticType}
use Rattle.sts_scope.specs.declared.known.Found.{Found}
use Rattle.sts_scope.specs.Kinds.{text, nothing, item, is_array, value_type}
use Rattle.sts_scope.specs.Failures.{Failure, ◌then◌, unless, own}
use Rattle.sts_scope.specs.Entries.{kind_of}
use Rattle.sts_scope.specs.Globals.{is_dollar}
use Rattle.sts_scope.specs.Headings.{written_failure}
use Rattle.sts_scope.specs.Places.{inner}
use Rattle.sts_scope.specs.Codes.{why_name, why_this}
use Rattle.sts_scope.specs.Rules.{this_kind, name_kind, operate, prefix, joined, choose, assign, counted, element, items_type, goes, serves}
use Rattle.type_derive.specs.declared.roles.Role.{Role}
use Rattle.type_derive.specs.declared.roles.Role.TheVariants as role
use Rattle.type_derive.specs.Typing.{◌>>=◌, board_kind, fits, finds, constant_of, board_callee, callee_of, super_method, settable, type_of, types_of, are_given}
use Rattle.type_derive.specs.Returns.{bound, looped, items_of, is_alone}
use Rattle.type_derive.specs.Nodes.{failure, failures, handler_failure, initial_failure, optional_failure, declaration_failure, declarations_failure, statement_failure, statements_failure, lacks_handler, is_list, own_local, parameter_types_failure, serves_itself}
use Rattle.type_derive.specs.Making.{Made, Making}
use Rattle.type_derive.specs.Built.{Site, in_block, spot_of, behind_statement, type_in, made_tree, made_given, made_local, made_locals, made_opening, made_statements}
use Rattle.elaborated.specs.Elaborating.{Elab, both_made, check}
use Rattle.elaborated.specs.Elaborated as s
use Rattle.elaborated.specs.Elaborated.{Whole, Seen, SeenAll, Callable, BoardArguments, Place, Free, Given, of_kind, with_one_more, one_asked, drawing_tree, kind_declared, why_declared, tree_of, is_boolean_test, may_return, given_some, given_written, given_first, given_later}
use Rattle.elaborated.specs.Laws.{role_at, IsMadeAt, tree_alone, HasItsSpots, AgreesOnTrees, AgreesOnStatements}
use Rattle.elaborated.proofs.Telling.{failed, Tells, ok_tells, as_failure, as_made, joined_tells, then_tells, last_tells, ends_tells, need_last, need_there, node_tells, check_tells, check_last, handled_tells, as_routine, made_then, made_end, looked_is}
use Rattle.elaborated.proofs.Nodes.{Even, spot_there, go_more, go_no_more, go_too_few, written_there, one_spot_more, parameters_even, statement_even}
use Rattle.elaborated.proofs.Parts.{some_is, bind_is, made_of, noted_node, no_truth, some_trees, asked_parts, lacking, drawn_tree, if_is, Sees, SeesGiven, SeesItems, SeesAsked, SeesHandler, SeesBody, name_failure, member_tells, member_failure, handler_failures, CallMade, IfNone, never, IfCalled, name_tells, called_member_tells, after_callee, after_failure, after_none, after_called, super_tells, new_tells, served_tells, drawing_made, fits_so, empty_tells, serving_failure, body_made, handler_is, SeesValue, test_is, tested, unless_true, SeesInitial, fitting, if_gives, alone_tells, returned_tells, one_local, StatementMade, any_call_tells, return_rest}

module _ (w : Whole) where
  abbrev elab : Site → Place → Tree → Elab Seen
  elab = s.elab w

  abbrev type_at : Site → Role → Tree → Option StaticType
  type_at p r a = type_of w.tables w.known p.place r a

  abbrev types_at : Site → Trees → Option (List StaticType)
  types_at p args = types_of w.tables w.known p.place args

  abbrev failure_at_node : Site → Place → Tree → Option Failure
  failure_at_node p r a = failure w.tables w.names w.known p.place (role_at r) a

  abbrev failures_at : Site → List BoardParameter → Trees → Option Failure
  failures_at p takes args = failures w.tables w.names w.known p.place takes args

  abbrev make : Site → Option StaticType → Tree → Making TypedTree
  make p g a = made_tree w.tables w.names w.known w.numbers p g a

  abbrev make_given : Site → List StaticType → Trees → Making TypedTrees
  make_given p takes args = made_given w.tables w.names w.known w.numbers p takes args

  mutual
    tree_tells : (p : Site) (even : Even p) (r : Place) (a : Tree) (m n : ℕ) → Tells (elab p r a m n) (failure_at_node p r a) (Sees w p r a m n)
    tree_tells p even r (Num at i) m n = ok_tells _ _ (record { kind = refl; tree = λ q. refl })
    tree_tells p even r (Text at i) m n = ok_tells _ _ (record { kind = refl; tree = λ q. refl })
    tree_tells p even r (Truth at b) m n = ok_tells _ _ (record { kind = refl; tree = λ q. refl })
    tree_tells p even r (Null at) m n = ok_tells _ _ (record { kind = refl; tree = λ q. refl })
    tree_tells p even r (This at) m n =
        node_tells (this_kind p.place.this) (why_this p.place.this) at m n e.This _ _ refl
        (λ kind is. record { kind = is; tree = λ q. noted_node (this_kind p.place.this) kind e.This is })
    tree_tells p even r (Name at x) m n =
        let f : Found = finds w.tables w.known p.place x in
        as_failure _ _ _ _ (name_failure w p r at x)
        (need_last (name_kind w.known p.place f) (why_name f) at m n _ _ (λ kind is.
        let (spot, there) = spot_there w.known p f kind even is in
        need_there (spot_of w.known p.spots f) spot (why_name f) at m n _ None _ there
        (ok_tells _ _ (record { kind = is; tree = λ q. looked_is (spot_of w.known p.spots f) _ spot _ there (noted_node (name_kind w.known p.place f) kind (λ u. e.Name u spot) is) }))))
    tree_tells p even r (Unary at op a) m n =
        then_tells _ _ m n _ _ _ _ (tree_tells p even Free a m n) (λ x h.
        let same : type_at p role.Free (Unary at op a) ≡ prefix op x.it.kind = bind_is (type_at p role.Free a) (λ u. prefix op u) x.it.kind h.kind in
        node_tells (prefix op x.it.kind) Mismatch at _ _ (λ u. e.Unary u op x.it.tree) _ _ (ap (λ (o : Option StaticType). own o Mismatch at) (sym same))
        (λ kind is. record { kind = same ∙ is; tree = λ q. made_then _ _ _ _ (h.tree tt) (noted_node _ kind (λ u. e.Unary u op x.it.tree) (same ∙ is)) }))
    tree_tells p even r (Binary at op a b) m n =
        then_tells _ _ m n _ _ _ _ (tree_tells p even Free a m n) (λ x h.
        then_tells _ _ _ _ _ _ _ _ (tree_tells p even Free b _ _) (λ y j.
        let same : type_at p role.Free (Binary at op a b) ≡ operate w.known.classes op x.it.kind y.it.kind =
        bind_is (type_at p role.Free a) (λ u. type_at p role.Free b >>= λ v. operate w.known.classes op u v) x.it.kind h.kind
        ∙ bind_is (type_at p role.Free b) (λ v. operate w.known.classes op x.it.kind v) y.it.kind j.kind in
        node_tells (operate w.known.classes op x.it.kind y.it.kind) Mismatch at _ _ (λ u. e.Binary u op x.it.tree y.it.tree) _ _ (ap (λ (o : Option StaticType). own o Mismatch at) (sym same))
        (λ kind is. record { kind = same ∙ is; tree = λ q. made_then _ _ _ _ (h.tree tt) (made_then _ _ _ _ (j.tree tt) (noted_node _ kind (λ u. e.Binary u op x.it.tree y.it.tree) (same ∙ is))) })))
    tree_tells p even r (Both at a b) m n =
        then_tells _ _ m n _ _ _ _ (tree_tells p even Free a m n) (λ x h.
        then_tells _ _ _ _ _ _ _ _ (tree_tells p even Free b _ _) (λ y j.
        let same : type_at p role.Free (Both at a b) ≡ joined x.it.kind y.it.kind =
        bind_is (type_at p role.Free a) (λ u. type_at p role.Free b >>= λ v. joined u v) x.it.kind h.kind ∙ bind_is (type_at p role.Free b) (λ v. joined x.it.kind v) y.it.kind j.kind in
        node_tells (joined x.it.kind y.it.kind) Mismatch at _ _ (λ u. e.Both t.Boolean x.it.tree y.it.tree) _ _ (ap (λ (o : Option StaticType). own o Mismatch at) (sym same))
        (λ kind is. record { kind = same ∙ is; tree = λ q. made_then _ _ _ _ (h.tree tt) (made_end _ _ _ (j.tree tt)) })))
    tree_tells p even r (Either at a b) m n =
        then_tells _ _ m n _ _ _ _ (tree_tells p even Free a m n) (λ x h.
        then_tells _ _ _ _ _ _ _ _ (tree_tells p even Free b _ _) (λ y j.
        let same : type_at p role.Free (Either at a b) ≡ joined x.it.kind y.it.kind =
        bind_is (type_at p role.Free a) (λ u. type_at p role.Free b >>= λ v. joined u v) x.it.kind h.kind ∙ bind_is (type_at p role.Free b) (λ v. joined x.it.kind v) y.it.kind j.kind in
        node_tells (joined x.it.kind y.it.kind) Mismatch at _ _ (λ u. e.Either t.Boolean x.it.tree y.it.tree) _ _ (ap (λ (o : Option StaticType). own o Mismatch at) (sym same))
        (λ kind is. record { kind = same ∙ is; tree = λ q. made_then _ _ _ _ (h.tree tt) (made_end _ _ _ (j.tree tt)) })))
    tree_tells p even r (Choice at o a b) m n =
        then_tells _ _ m n _ _ _ _ (tree_tells p even Free o m n) (λ z g.
        then_tells _ _ _ _ _ _ _ _ (tree_tells p even Free a _ _) (λ x h.
        then_tells _ _ _ _ _ _ _ _ (tree_tells p even Free b _ _) (λ y j.
        let same : type_at p role.Free (Choice at o a b) ≡ choose w.known.classes z.it.kind x.it.kind y.it.kind =
        bind_is (type_at p role.Free o) (λ q. type_at p role.Free a >>= λ u. type_at p role.Free b >>= λ v. choose w.known.classes q u v) z.it.kind g.kind
        ∙ bind_is (type_at p role.Free a) (λ u. type_at p role.Free b >>= λ v. choose w.known.classes z.it.kind u v) x.it.kind h.kind
        ∙ bind_is (type_at p role.Free b) (λ v. choose w.known.classes z.it.kind x.it.kind v) y.it.kind j.kind in
        node_tells (choose w.known.classes z.it.kind x.it.kind y.it.kind) Mismatch at _ _ (λ u. e.Choice u z.it.tree x.it.tree y.it.tree) _ _ (ap (λ
        (o : Option StaticType). own o Mismatch at) (sym same))
        (λ kind is. record {
          kind = same ∙ is;
          tree = λ q. made_then _ _ _ _ (g.tree tt) (made_then _ _ _ _ (h.tree tt) (made_then _ _ _ _ (j.tree tt) (noted_node _ kind (λ u. e.Choice u z.it.tree x.it.tree y.it.tree) (same ∙ is))));
        }))))
    tree_tells p even r (Set at op x a) m n =
        let may = settable w.tables w.known p.place x in
        then_tells _ _ m n _ _ _ _ (tree_tells p even Free x m n) (λ y h.
        then_tells _ _ _ _ _ _ _ _ (tree_tells p even (Given (Some y.it.kind)) a _ _) (λ z j.
        let same : type_at p role.Free (Set at op x a) ≡ (if may then assign w.known.classes op y.it.kind z.it.kind else None) =
        bind_is (type_at p role.Free x) (λ u. type_at p role.Given a >>= λ v. if may then assign w.known.classes op u v else None) y.it.kind h.kind
        ∙ bind_is (type_at p role.Given a) (λ v. if may then assign w.known.classes op y.it.kind v else None) z.it.kind j.kind in
        node_tells (if may then assign w.known.classes op y.it.kind z.it.kind else None) Mismatch at _ _ (λ u. e.Set u op y.it.tree z.it.tree) _ _ (ap (λ
        (o : Option StaticType). own o Mismatch at) (sym same))
        (λ kind is. record {
          kind = same ∙ is;
          tree = λ q. looked_is (type_in w.tables w.known p x) _ y.it.kind _ h.kind (made_then _ _ _ _ (h.tree tt) (made_then _ _ _ _ (j.tree tt) (noted_node _ kind
              (λ u. e.Set u op y.it.tree z.it.tree) (same ∙ is))));
        })))
    tree_tells p even r (Bump at x by late) m n =
        let may = settable w.tables w.known p.place x in
        then_tells _ _ m n _ _ _ _ (tree_tells p even Free x m n) (λ y h.
        let same : type_at p role.Free (Bump at x by late) ≡ (if may then counted y.it.kind else None) = bind_is (type_at p role.Free x) (λ u. if may then counted u else None) y.it.kind h.kind in
        node_tells (if may then counted y.it.kind else None) Mismatch at _ _ (λ u. e.Bump t.Number y.it.tree by late) _ _ (ap (λ (o : Option StaticType). own o Mismatch at) (sym same))
        (λ kind is. record { kind = same ∙ is; tree = λ q. made_end _ _ _ (h.tree tt) }))
    tree_tells p even r (Member at a i) m n =
        as_failure _ _ _ _ (member_failure w p r at a i)
        (as_made _ _ _ _ (λ x h. record { kind = h.0; tree = λ q. h.1 })
        (member_tells w p r at a i m n (constant_of w.tables w.known p.place a i) (board_callee w.tables w.known p.place (Member at a i)) refl refl (tree_tells p even Free a m n)))
    tree_tells p even r (Item at a i) m n =
        then_tells _ _ m n _ _ _ _ (tree_tells p even Free a m n) (λ x h.
        then_tells _ _ _ _ _ _ _ _ (tree_tells p even Free i _ _) (λ y j.
        let same : type_at p role.Free (Item at a i) ≡ element x.it.kind y.it.kind =
        bind_is (type_at p role.Free a) (λ u. type_at p role.Free i >>= λ v. element u v) x.it.kind h.kind ∙ bind_is (type_at p role.Free i) (λ v. element x.it.kind v) y.it.kind j.kind in
        node_tells (element x.it.kind y.it.kind) Mismatch at _ _ (λ u. e.Item u x.it.tree y.it.tree) _ _ (ap (λ (o : Option StaticType). own o Mismatch at) (sym same))
        (λ kind is. record { kind = same ∙ is; tree = λ q. made_then _ _ _ _ (h.tree tt) (made_then _ _ _ _ (j.tree tt) (noted_node _ kind (λ u. e.Item u x.it.tree y.it.tree) (same ∙ is))) })))
    tree_tells p even r (Items at none) m n = empty_tells w p r at m n
    tree_tells p even r (Items at (more a rest)) m n =
        then_tells _ _ m n _ _ _ _ (tree_tells p even Free a m n) (λ x h.
        then_tells _ _ _ _ _ _ _ _ (items_tell p even x.it.kind rest _ _) (λ xs j.
        let same : type_at p role.Free (Items at (more a rest)) ≡ items_type w.known.classes x.it.kind xs.it.kinds =
        bind_is (type_at p role.Free a) (λ u. types_at p rest >>= λ us. items_type w.known.classes u us) x.it.kind h.kind
        ∙ bind_is (types_at p rest) (λ us. items_type w.known.classes x.it.kind us) xs.it.kinds j.kinds in
        node_tells (items_type w.known.classes x.it.kind xs.it.kinds) Mismatch at _ _ (λ u. e.Items u (e.more x.it.tree xs.it.trees)) _ _ (ap (λ
        (o : Option StaticType). own o Mismatch at) (sym same))
        (λ kind is. record {
          kind = same ∙ is;
          tree = λ q. looked_is (type_in w.tables w.known p a) _ x.it.kind _ h.kind (made_then _ _ _ _ (h.tree tt) (made_then _ _ _ _ j.trees (noted_node _ kind (λ u. e.Items u
              (e.more x.it.tree xs.it.trees)) (same ∙ is))));
        })))
    tree_tells p even r (Call at f args) m n =
        as_made _ _ _ _ (λ x h. record { kind = h.0; tree = λ q. h.1 }) (any_call_tells w p at f args m n (board_callee w.tables w.known p.place f) refl
        (λ takes. asked_tells p even takes args m n)
        (λ q. callee_tells p even f (elab p Free f) args m n (after_callee w p args at) (after_failure w p f args at) (tree_tells p even Free f m n) q
        (after_none w p f args at (λ takes i o. given_tells p even takes args i o)) (after_called w p f args at (λ takes i o. given_tells p even takes args i o))))
    tree_tells p even r (SuperCall at None args) m n = ends_tells _ Mismatch at m n _ _ _ (given_tells p even [] args m n)
    tree_tells p even r (SuperCall at (Some i) args) m n =
        as_made _ _ _ _ (λ x h. record { kind = h.0; tree = λ q. h.1 }) (super_tells w p at i args m n (super_method w.known p.place.this i) (λ takes i o. given_tells p even takes args i o))
    tree_tells p even r (Make at x args) m n =
        as_made _ _ _ _ (λ x h. record { kind = h.0; tree = λ q. h.1 }) (new_tells w p at args m n (finds w.tables w.known p.place x) (λ takes i o. given_tells p even takes args i o))
    tree_tells p even r (Handler at body) m n =
        as_failure _ _ _ _ (handler_failures w p r at body)
        (handled_tells false at n (λ (tree : TypedTree). let z : Seen = record { tree = tree; kind = nothing } in z) _ _ (SeesBody w p body 0 (suc n)) (Sees w p r
        (Handler at body) m n) (routine_tells p even body 0 (suc n)) (λ x q h. no_truth _ q))

    callee_tells : (p : Site) (even : Even p) (f : Tree) (read : Elab Seen) (args : Trees) (m n : ℕ) (rest : Option Callable → Elab Seen) (G : Option Failure)
        → Tells (read m n) (failure_at_node p Free f) (Sees w p Free f m n) → board_callee w.tables w.known p.place f ≡ None
        → IfNone w (callee_of w.tables w.known p.place f) rest G → IfCalled w p args (callee_of w.tables w.known p.place f) rest G
        → Tells (s.elab_callee w p f read rest m n) (failure w.tables w.names w.known p.place role.Called f then G) (CallMade w p f args m n)
    callee_tells p even (Name at x) read args m n rest G told b is_none is_called =
        as_made _ _ _ _ (λ z h. record { kind = h.0; tree = h.1 }) (name_tells w p args (finds w.tables w.known p.place x) at m n rest G is_none is_called)
    callee_tells p even (Member at a i) read args m n rest G told b is_none is_called =
        as_made _ _ _ _ (λ z h. record { kind = h.kind; tree = h.tree })
        (called_member_tells w p args at a i m n rest G (constant_of w.tables w.known p.place a i) (board_callee w.tables w.known p.place (Member at a i)) refl b
        (tree_tells p even Free a m n) is_none is_called)
    callee_tells p even (Items at none) read args m n rest G told b is_none is_called = then_tells _ _ m n _ G _ _ told (λ x h. never w _ _ _ (is_none _ _ refl))
    callee_tells p even (Items at (more a all)) read args m n rest G told b is_none is_called = then_tells _ _ m n _ G _ _ told (λ x h. never w _ _ _ (is_none _ _ refl))
    callee_tells p even (SuperCall at None all) read args m n rest G told b is_none is_called = then_tells _ _ m n _ G _ _ told (λ x h. never w _ _ _ (is_none _ _ refl))
    callee_tells p even (SuperCall at (Some i) all) read args m n rest G told b is_none is_called = then_tells _ _ m n _ G _ _ told (λ x h. never w _ _ _ (is_none _ _ refl))
    callee_tells p even (Handler at body) read args m n rest G told b is_none is_called = then_tells _ _ m n _ G _ _ told (λ x h. never w _ _ _ (is_none _ _ refl))
    callee_tells p even f read args m n rest G told b is_none is_called = then_tells _ _ m n _ G _ _ told (λ x h. never w _ _ _ (is_none _ _ refl))

    pub given_tells : (p : Site) (even : Even p) (takes : List StaticType) (args : Trees) (m n : ℕ) → Tells (s.elab_given w p takes args m n) (failures_at p [] args) (SeesGiven w p takes args m n)
    given_tells p even [] none m n = ok_tells _ _ (record { kinds = refl; trees = λ q. refl })
    given_tells p even (u ∷ us) none m n = ok_tells _ _ (record { kinds = refl; trees = λ q. absurd (go_too_few w.known.classes u us q) })
    given_tells p even [] (more a rest) m n =
        then_tells _ _ m n _ _ _ _ (tree_tells p even (Given None) a m n) (λ x h.
        last_tells _ (λ xs. with_one_more x.it xs) _ _ _ _ _ (given_tells p even [] rest _ _) (λ xs j. record {
          kinds = bind_is (type_at p role.Given a) (λ u. types_at p rest >>= λ us. Some (u ∷ us)) x.it.kind h.kind ∙ bind_is (types_at p rest) (λ us. Some (x.it.kind ∷ us)) xs.it.kinds j.kinds;
          trees = λ q. absurd (go_no_more w.known.classes x.it.kind xs.it.kinds q);
        }))
    given_tells p even (u ∷ us) (more a rest) m n =
        then_tells _ _ m n _ _ _ _ (tree_tells p even (Given (Some u)) a m n) (λ x h.
        last_tells _ (λ xs. with_one_more x.it xs) _ _ _ _ _ (given_tells p even us rest _ _) (λ xs j. record {
          kinds = bind_is (type_at p role.Given a) (λ u. types_at p rest >>= λ us. Some (u ∷ us)) x.it.kind h.kind ∙ bind_is (types_at p rest) (λ us. Some (x.it.kind ∷ us)) xs.it.kinds j.kinds;
          trees = λ q. made_then _ _ _ _ (h.tree tt) (made_end _ _ _ (j.trees (go_more w.known.classes x.it.kind u xs.it.kinds us q)));
        }))

    items_tell : (p : Site) (even : Even p) (u : StaticType) (items : Trees) (m n : ℕ) → Tells (s.elab_items w p u items m n) (failures_at p [] items) (SeesItems w p u items m n)
    items_tell p even u none m n = ok_tells _ _ (record { kinds = refl; trees = refl })
    items_tell p even u (more a rest) m n =
        then_tells _ _ m n _ _ _ _ (tree_tells p even (Given (Some u)) a m n) (λ x h.
        last_tells _ (λ xs. with_one_more x.it xs) _ _ _ _ _ (items_tell p even u rest _ _) (λ xs j. record {
          kinds = bind_is (type_at p role.Given a) (λ u. types_at p rest >>= λ us. Some (u ∷ us)) x.it.kind h.kind ∙ bind_is (types_at p rest) (λ us. Some (x.it.kind ∷ us)) xs.it.kinds j.kinds;
          trees = made_then _ _ _ _ (h.tree tt) (made_end _ _ _ j.trees);
        }))

    asked_tells : (p : Site) (even : Even p) (takes : List BoardParameter) (args : Trees) (m n : ℕ)
        → Tells (s.elab_asked w p takes args m n) (failures_at p takes args) (SeesAsked w p takes args m n)
    asked_tells p even [] none m n = ok_tells _ _ (record { lacks = refl; fit = refl; trees = λ ts q. ap (λ (y : TypedTrees). Some (made_of y)) (some_is e.none ts q) })
    asked_tells p even (board.Of u ∷ ps) none m n = ok_tells _ _ (record { lacks = refl; fit = refl; trees = λ ts q. cc })
    asked_tells p even (board.Drawing ∷ ps) none m n = ok_tells _ _ (record { lacks = refl; fit = refl; trees = λ ts q. cc })
    asked_tells p even (board.Handler ∷ ps) none m n = ok_tells _ _ (record { lacks = refl; fit = refl; trees = λ ts q. cc })
    asked_tells p even [] (more a rest) m n =
        then_tells _ _ m n _ _ _ _ (tree_tells p even (Given None) a m n) (λ x h.
        last_tells _ (λ xs. one_asked None false xs) _ _ _ _ _ (asked_tells p even [] rest _ _) (λ xs j. record { lacks = j.lacks; fit = refl; trees = λ ts q. cc }))
    asked_tells p even (board.Of u ∷ ps) (more a rest) m n =
        then_tells _ _ m n _ _ _ _ (tree_tells p even (Given (Some (board_kind u))) a m n) (λ x h.
        let one : Option TypedTree = if goes w.known.classes x.it.kind (board_kind u) then Some x.it.tree else None in
        last_tells _ (λ xs. one_asked one false xs) _ _ _ _ _ (asked_tells p even ps rest _ _) (λ xs j. record {
          lacks = j.lacks ∙ sym (lacking one false xs.it);
          fit = ap (λ (b : Bool). b && are_given w.tables w.known p.place ps rest) (fits_so w p a u x.it h.kind) ∙ ap (λ (b : Bool). is_some one && b) j.fit ∙ sym (some_trees one false xs.it);
          trees = λ ts q.
              let parts = asked_parts one false xs.it ts q in
              let same : x.it.tree ≡ parts.one = (if_is (goes w.known.classes x.it.kind (board_kind u)) x.it.tree parts.one parts.one_is).1 in
              made_then _ _ _ _ (h.tree tt) (made_end _ _ _ (j.trees parts.all parts.all_is))
              ∙ ap (λ (y : TypedTree). Some (both_made x (both_made xs (made_of (e.more y parts.all))))) same ∙ ap (λ (y : TypedTrees). Some (both_made x (both_made xs (made_of y)))) parts.whole;
        }))
    asked_tells p even (board.Drawing ∷ ps) (more a rest) m n =
        then_tells _ _ m n _ _ _ _ (tree_tells p even (Given (Some text)) a m n) (λ x h.
        let one : Option TypedTree = drawing_tree w.tables a in
        last_tells _ (λ xs. one_asked one false xs) _ _ _ _ _ (asked_tells p even ps rest _ _) (λ xs j. record {
          lacks = j.lacks ∙ sym (lacking one false xs.it);
          fit = ap (λ (b : Bool). b && are_given w.tables w.known p.place ps rest) (drawn_tree w.tables a) ∙ ap (λ (b : Bool). is_some one && b) j.fit ∙ sym (some_trees one false xs.it);
          trees = λ ts q.
              let parts = asked_parts one false xs.it ts q in
              made_then _ _ _ _ (drawing_made w p a m n parts.one x parts.one_is (h.tree tt)) (made_end _ _ _ (j.trees parts.all parts.all_is))
              ∙ ap (λ (y : TypedTrees). Some (both_made x (both_made xs (made_of y)))) parts.whole;
        }))
    asked_tells p even (board.Handler ∷ ps) (more a rest) m n =
        then_tells _ _ m n _ _ _ _ (handler_tells p even a (elab p Free a) m n (tree_tells p even Free a m n)) (λ x h.
        last_tells _ (λ xs. one_asked x.it (not (is_some x.it)) xs) _ _ _ _ _ (asked_tells p even ps rest _ _) (λ xs j. record {
          lacks = ap (λ (b : Bool). not b || lacks_handler w.tables w.known p.place ps rest) h.is ∙ ap (λ (b : Bool). not (is_some x.it) || b) j.lacks
              ∙ sym (lacking x.it (not (is_some x.it)) xs.it);
          fit = ap (λ (b : Bool). b && are_given w.tables w.known p.place ps rest) h.is ∙ ap (λ (b : Bool). is_some x.it && b) j.fit ∙ sym (some_trees x.it (not (is_some x.it)) xs.it);
          trees = λ ts q.
              let parts = asked_parts x.it (not (is_some x.it)) xs.it ts q in
              made_then _ _ _ _ (h.tree parts.one parts.one_is) (made_end _ _ _ (j.trees parts.all parts.all_is))
              ∙ ap (λ (y : TypedTrees). Some (both_made x (both_made xs (made_of y)))) parts.whole;
        }))

    handler_tells : (p : Site) (even : Even p) (a : Tree) (read : Elab Seen) (m n : ℕ) → Tells (read m n) (failure_at_node p Free a) (Sees w p Free a m n)
        → Tells (s.elab_handler w p a read m n) (failure w.tables w.names w.known p.place role.Served a) (SeesHandler w p a m n)
    handler_tells p even (Name at x) read m n told =
        as_made _ _ _ _ (λ z h. record { is = h.0; tree = h.1 }) (served_tells w p (finds w.tables w.known p.place x) at m n (serves w.known (finds w.tables w.known p.place x)) refl)
    handler_tells p even (Handler at body) read m n told =
        as_failure _ _ _ _ (ap (λ (F : Option Failure). handler_failure w.tables w.names w.known p.place body then F) (serving_failure w (serves_itself w.tables w.names w.known p.place body) at))
        (handled_tells (serves_itself w.tables w.names w.known p.place body) at n _ _ _ _ _ (routine_tells p even body 0 (suc n)) (λ x q h. record {
          is = refl;
          tree = λ y is. handler_is w p at body m n x (body_made w p body 0 (suc n) x q h)
              ∙ ap (λ (z : TypedTree). Some (record { it = z; locals = []; routines = as_routine x })) (some_is (e.Handler t.Nothing n) y is);
        }))
    handler_tells p even (Items at none) read m n told = last_tells _ (λ x. None) m n _ _ _ told (λ x h. record { is = refl; tree = λ y q. cc })
    handler_tells p even (Items at (more a all)) read m n told = last_tells _ (λ x. None) m n _ _ _ told (λ x h. record { is = refl; tree = λ y q. cc })
    handler_tells p even (SuperCall at None all) read m n told = last_tells _ (λ x. None) m n _ _ _ told (λ x h. record { is = refl; tree = λ y q. cc })
    handler_tells p even (SuperCall at (Some i) all) read m n told = last_tells _ (λ x. None) m n _ _ _ told (λ x h. record { is = refl; tree = λ y q. cc })
    handler_tells p even a read m n told = last_tells _ (λ x. None) m n _ _ _ told (λ x h. record { is = refl; tree = λ y q. cc })

    routine_tells : (p : Site) (even : Even p) (body : Routine) (m n : ℕ) → Tells (s.elab_routine w p body m n) (handler_failure w.tables w.names w.known p.place body) (SeesBody w p body m n)
    routine_tells p even (Does at [] gives all arrow) m n =
        check_tells None (check (written_failure w.names at gives) (s.elab_statements w (s.function_site w p [] gives all) all)) m n _ _ (λ i.
        check_tells (written_failure w.names at gives) (s.elab_statements w (s.function_site w p [] gives all) all) m n _ _ (λ i. as_made _ _ _ _ (λ x h q. h) (statements_tell
        (s.function_site w p [] gives all) refl all m n)))
    routine_tells p even (Does at (q ∷ qs) gives all arrow) m n =
        check_tells (parameter_types_failure w.names (q ∷ qs)) (check (written_failure w.names at gives) (s.elab_statements w (s.function_site w p (q ∷ qs) gives all) all)) m n _ _ (λ i.
        check_tells (written_failure w.names at gives) (s.elab_statements w (s.function_site w p (q ∷ qs) gives all) all) m n _ _ (λ i. as_made _ _ _ _ (λ x h o. no_truth _ o)
        (statements_tell (s.function_site w p (q ∷ qs) gives all) (parameters_even w.names 0 (q ∷ qs)) all m n)))

    value_tells : (p : Site) (even : Even p) (a : OptionalTree) (m n : ℕ) → Tells (s.elab_value w p Free a m n) (optional_failure w.tables w.names w.known p.place a) (SeesValue w p a m n)
    value_tells p even absent m n = ok_tells _ _ (record { is = refl; value = refl })
    value_tells p even (present a) m n =
        last_tells _ (λ x. Some x) m n _ _ _ (tree_tells p even Free a m n) (λ x h. record { is = (x.it, refl, h.kind); value = made_end _ _ _ (h.tree tt) })

    pub initial_tells : (p : Site) (even : Even p) (at : ℕ) (shape : Option Annotation) (first : OptionalTree) (m n : ℕ) → written_failure w.names at shape ≡ None
        → Tells (s.elab_initial w p shape first m n) (initial_failure w.tables w.names w.known p.place shape first) (SeesInitial w p at shape first m n)
    initial_tells p even at None absent m n q = ok_tells _ _ (record { kind = refl; bound_is = λ u h. cc; value = λ u h. refl })
    initial_tells p even at (Some t) absent m n q =
        let (u, there) = written_there w.names at t q in
        ok_tells _ _ (record { kind = ap (λ (o : Option StaticType). own o Mismatch at) there; bound_is = λ u h. h; value = λ u h. refl })
    initial_tells p even at None (present a) m n q =
        as_made _ _ _ _ (λ x h. record {
          kind = ap (λ (o : Option StaticType). own o NeedsType at) h.0;
          bound_is = λ u i. sym h.0
              ∙ i;
          value = h.1;
        }) (alone_tells w p a m n (is_alone a) (tree_tells p even Free a m n))
    initial_tells p even at (Some t) (present a) m n q =
        let (u, there) = written_there w.names at t q in
        last_tells _ (λ x. Some x) m n _ _ _ (tree_tells p even (Given (kind_of w.names t)) a m n) (λ x h. record {
          kind = fitting w (fits w.known (Some x.it.kind) (kind_of w.names t)) (kind_of w.names t) u at there
              ∙ ap (λ (o : Option StaticType). unless (fits w.known o (kind_of w.names t)) Mismatch at) (sym h.kind);
          bound_is = λ v i. if_gives w (fits w.known (Some x.it.kind) (kind_of w.names t)) (kind_of w.names t) v i;
          value = λ v i. made_end _ _ _ (h.tree (subst (λ (o : Option StaticType). IsMadeAt (Given o)) (sym there) tt));
        })

    local_tells : (p : Site) (even : Even p) (d : Declaration) (m n : ℕ) → Tells (s.elab_local w p d m n) (declaration_failure w.tables w.names w.known p.place d)
        (λ x. made_local w.tables w.names w.known w.numbers p d m n ≡ Some x)
    local_tells p even (Declare at x shape first) m n =
        check_tells (written_failure w.names at shape) _ m n _ _ (λ q.
        then_tells _ _ m n _ _ _ _ (initial_tells p even at shape first m n q) (λ a h.
        check_tells (own_local w.tables p.place x at) _ _ _ _ _ (λ i.
        as_failure _ _ _ _ h.kind (need_last (kind_declared w.known w.names shape a.it) (why_declared shape) at _ _ _ _ (λ u is.
        ok_tells _ _ (looked_is (bound w.tables w.names w.known p.place shape first) _ u _ (h.bound_is u is) (made_end _ _ _ (h.value u is))))))))

    locals_tell : (p : Site) (even : Even p) (fixed : Bool) (each : Declarations) (m n : ℕ)
        → Tells (s.elab_locals w p fixed each m n) (declarations_failure w.tables w.names w.known p.place fixed each)
        (λ x. made_locals w.tables w.names w.known w.numbers p fixed each m n ≡ Some x)
    locals_tell p even fixed ended m n = ok_tells _ _ refl
    locals_tell p even fixed (next a rest) m n =
        let later : Site = behind_statement w.tables w.names w.known m p (Let 0 fixed (next a ended)) in
        then_tells _ _ m n _ _ _ _ (local_tells p even a m n) (λ d h.
        last_tells _ (λ ds. d.it ∷ ds) _ _ _ _ _ (locals_tell later (statement_even w.tables w.names w.known m p (Let 0 fixed (next a ended)) even) fixed rest _ _) (λ ds j.
        made_then _ _ _ _ h (made_end _ _ _ j)))

    pub statement_tells : (p : Site) (even : Even p) (a : Statement) (m n : ℕ) → Tells (s.elab_statement w p a m n) (statement_failure w.tables w.names w.known p.place a) (StatementMade w p a m n)
    statement_tells p even (Block at all) m n =
        last_tells _ (λ xs. e.Block xs) m n _ _ _ (statements_tell (in_block p) even all m n) (λ x h. made_end _ _ _ h)
    statement_tells p even (Let at fixed each) m n =
        last_tells _ (λ ds. e.Let fixed ds) m n _ _ _ (locals_tell p even fixed each m n) (λ x h. made_end _ _ _ h)
    statement_tells p even (IfOnly at test a) m n =
        then_tells _ _ m n _ _ _ _ (tree_tells p even Free test m n) (λ q h.
        then_tells _ _ _ _ _ _ _ _ (statement_tells (in_block p) even a _ _) (λ x j.
        tested w at test p q.it.kind _ _ _ _ h.kind (λ i. made_then _ _ _ _ (h.tree tt) (made_end _ _ _ j))))
    statement_tells p even (IfElse at test a b) m n =
        then_tells _ _ m n _ _ _ _ (tree_tells p even Free test m n) (λ q h.
        then_tells _ _ _ _ _ _ _ _ (statement_tells (in_block p) even a _ _) (λ x j.
        then_tells _ _ _ _ _ _ _ _ (statement_tells (in_block p) even b _ _) (λ y l.
        tested w at test p q.it.kind _ _ _ _ h.kind (λ i. made_then _ _ _ _ (h.tree tt) (made_then _ _ _ _ j (made_end _ _ _ l))))))
    statement_tells p even (While at test a) m n =
        then_tells _ _ m n _ _ _ _ (tree_tells p even Free test m n) (λ q h.
        then_tells _ _ _ _ _ _ _ _ (statement_tells (in_block p) even a _ _) (λ x j.
        tested w at test p q.it.kind _ _ _ _ h.kind (λ i. made_then _ _ _ _ (h.tree tt) (made_end _ _ _ j))))
    statement_tells p even (DoWhile at a test) m n =
        then_tells _ _ m n _ _ _ _ (statement_tells (in_block p) even a m n) (λ x j.
        then_tells _ _ _ _ _ _ _ _ (tree_tells p even Free test _ _) (λ q h.
        tested w at test p q.it.kind _ _ _ _ h.kind (λ i. made_then _ _ _ _ j (made_end _ _ _ (h.tree tt)))))
    statement_tells p even (For at omitted test step a) m n =
        let inside : Site = in_block p in
        joined_tells {A = OptionalTypedStatement} (made_of e.omitted) _ _ _
        (then_tells _ _ _ _ _ _ _ _ (value_tells inside even test _ _) (λ q h.
        then_tells _ _ _ _ _ _ _ _ (value_tells inside even step _ _) (λ i j.
        then_tells _ _ _ _ _ _ _ _ (statement_tells (in_block inside) even a _ _) (λ x l.
        as_failure _ _ _ _ (test_is w inside at test q.it h.is) (check_last (unless (is_boolean_test q.it) Mismatch at) _ _ _ _ (λ o.
        made_end _ _ _ (made_then _ _ _ _ h.value (made_then _ _ _ _ j.value (made_end _ _ _ l)))))))))
    statement_tells p even (For at (written b) test step a) m n =
        let inside : Site = behind_statement w.tables w.names w.known m (in_block p) b in
        let more : Even inside = statement_even w.tables w.names w.known m (in_block p) b even in
        then_tells _ _ m n _ _ (λ x. made_opening w.tables w.names w.known w.numbers (in_block p) (written b) m n ≡ Some x) _ (last_tells _ (λ y. e.written y) m n _ _ _
        (statement_tells (in_block p) even b m n) (λ y z. made_end _ _ _ z)) (λ f g.
        then_tells _ _ _ _ _ _ _ _ (value_tells inside more test _ _) (λ q h.
        then_tells _ _ _ _ _ _ _ _ (value_tells inside more step _ _) (λ i j.
        then_tells _ _ _ _ _ _ _ _ (statement_tells (in_block inside) more a _ _) (λ x l.
        as_failure _ _ _ _ (test_is w inside at test q.it h.is) (check_last (unless (is_boolean_test q.it) Mismatch at) _ _ _ _ (λ o.
        made_then _ _ _ _ g (made_then _ _ _ _ h.value (made_then _ _ _ _ j.value (made_end _ _ _ l)))))))))
    statement_tells p even (ForOf at fixed x list a) m n =
        let inside : Site = record { place = inner (looped w.tables w.known p.place fixed x list); spots = p.spots ++ Local m ∷ [] } in
        then_tells _ _ m n _ _ _ _ (tree_tells p even Free list m n) (λ l h.
        joined_tells (one_local w 0 (value_type (item l.it.kind))) _ _ _ (joined_tells (one_local w 0 (t.ListOf (value_type (item l.it.kind)))) _ _ _ (joined_tells (one_local w 0 t.Number) _ _ _
        (then_tells _ _ _ _ _ _ _ _ (statement_tells inside (one_spot_more p.spots p.place.locals _ _ even) a _ _) (λ y q.
        check_tells (unless (not (is_dollar w.tables.names x)) UnknownName at) _ _ _ _ _ (λ z.
        as_failure _ _ _ _ (ap (λ (k : Option StaticType). unless (is_list k) Mismatch at) (sym h.kind)) (check_last (unless (is_array l.it.kind) Mismatch at) _ _ _ _ (λ b.
        looked_is (items_of (type_in w.tables w.known p list)) _ (item l.it.kind) _ (ap items_of h.kind
        ∙ ap (λ (k : Bool). if k then Some (item l.it.kind) else None) (unless_true w (is_array l.it.kind) Mismatch at b))
        (made_then _ _ _ _ (h.tree tt) (made_end _ _ _ (made_end _ _ _ (made_end _ _ _ (made_end _ _ _ q)))))))))))))
    statement_tells p even (Return at absent) m n =
        then_tells (s.elab_value w p (given_some p.place.gives) absent m n) (return_rest w p at) m n None _ (λ (x : Made (Option Seen)). x ≡ made_of None) _ (ok_tells (made_of None) _ refl) (λ x h.
        as_failure _ _ _ _ (ap (λ (y : Made (Option Seen)). unless (may_return w.known p.place.gives y.it) Mismatch at) h) (check_last (unless
        (may_return w.known p.place.gives x.it) Mismatch at) _ _ _ _ (λ q.
        ap (λ (y : Made (Option Seen)). Some (both_made y (made_of (e.Return (tree_of y.it))))) (sym h))))
    statement_tells p even (Return at (present a)) m n =
        let g : Option StaticType = p.place.gives in
        then_tells _ _ m n _ _ _ _ (returned_tells w p a m n g (tree_tells p even (given_some g) a m n)) (λ x h.
        as_failure _ _ _ _ (h.fits at) (check_last (unless (may_return w.known g x.it) Mismatch at) _ _ _ _ (λ q.
        made_end _ _ _ h.value)))
    statement_tells p even (Break at) m n = ok_tells _ _ refl
    statement_tells p even (Continue at) m n = ok_tells _ _ refl
    statement_tells p even (Plain at a) m n =
        last_tells _ (λ (x : Seen). e.Plain x.tree) m n _ _ _ (tree_tells p even Free a m n) (λ x h. made_end _ _ _ (h.tree tt))
    statement_tells p even (Empty at) m n = ok_tells _ _ refl

    pub statements_tell : (p : Site) (even : Even p) (all : Statements) (m n : ℕ) → Tells (s.elab_statements w p all m n) (statements_failure w.tables w.names w.known p.place all)
        (λ x. made_statements w.tables w.names w.known w.numbers p all m n ≡ Some x)
    statements_tell p even done m n = ok_tells _ _ refl
    statements_tell p even (also a rest) m n =
        then_tells _ _ m n _ _ _ _ (statement_tells p even a m n) (λ x h.
        last_tells _ (λ xs. e.also x.it xs) _ _ _ _ _ (statements_tell (behind_statement w.tables w.names w.known m p a) (statement_even w.tables w.names w.known m p a even) rest _ _) (λ xs j.
        made_then _ _ _ _ h (made_end _ _ _ j)))

  failed_is : {A : Type 0} (r : Result (Made A) Failure) (F : Option Failure) (f : Failure) → failed r ≡ F → (r ≡ Err f) ↔ (F ≡ Some f)
  failed_is {A} r F f h = (λ is. sym h ∙ ap failed is, λ is. from r (h ∙ is))
    where
      from : (q : Result (Made A) Failure) → failed q ≡ Some f → q ≡ Err f
      from (Err g) i = ap (λ (x : Failure). let y : Result (Made A) Failure = Err x in y) (some_is g f i)
      from (Ok x) i = cc

  gave : {A : Type 0} (r : Result (Made A) Failure) → failed r ≡ None → (x : Made A) × (r ≡ Ok x)
  gave {A} (Ok x) h = (x, refl)
  gave {A} (Err f) h = cc

  no_failure : {A : Type 0} (r : Result (Made A) Failure) (x : Made A) → r ≡ Ok x → failed r ≡ None
  no_failure {A} r x h = ap failed h

  same_seen : (x y : Made Seen) → x.it.kind ≡ y.it.kind → tree_alone x ≡ tree_alone y → x ≡ y
  same_seen x y kind tree =
      ap (λ (k : StaticType). let z : Made Seen = record { it = record { tree = x.it.tree; kind = k }; locals = x.locals; routines = x.routines } in z) kind
      ∙ ap (λ (q : Made TypedTree). let z : Made Seen = record { it = record { tree = q.it; kind = y.it.kind }; locals = q.locals; routines = q.routines } in z) tree

  pub trees_agree : (p : Site) (r : Place) (a : Tree) (m n : ℕ) → HasItsSpots p → AgreesOnTrees w p r a m n
  trees_agree p r a m n even =
      let told = tree_tells p even r a m n in
      record {
        fails = λ f. failed_is (elab p r a m n) (failure_at_node p r a) f told.fails;
        gives = λ place x. (
          λ is. (sym told.fails ∙ no_failure (elab p r a m n) x is, (told.made x is).kind, (told.made x is).tree place),
          λ (clear, kind, tree).
              let (y, is) = gave (elab p r a m n) (told.fails ∙ clear) in
              let seen = told.made y is in
              is ∙ ap (λ (z : Made Seen). let q : Result (Made Seen) Failure = Ok z in q) (same_seen y x (some_is _ _ (sym seen.kind ∙ kind)) (some_is _ _ (sym (seen.tree place) ∙ tree))),
        );
      }

  pub statements_agree : (p : Site) (all : Statements) (m n : ℕ) → HasItsSpots p → AgreesOnStatements w p all m n
  statements_agree p all m n even =
      let told = statements_tell p even all m n in
      record {
        fails = λ f. failed_is (s.elab_statements w p all m n) (statements_failure w.tables w.names w.known p.place all) f told.fails;
        gives = λ x. (
          λ is. (sym told.fails ∙ no_failure (s.elab_statements w p all m n) x is, told.made x is),
          λ (clear, done_so).
              let (y, is) = gave (s.elab_statements w p all m n) (told.fails ∙ clear) in
              is ∙ ap (λ (z : Made TypedStatements). let q : Result (Made TypedStatements) Failure = Ok z in q) (some_is y x (sym (told.made y is) ∙ done_so)),
        );
      }
