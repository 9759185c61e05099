-- Lists of statements and of declared names, built one behind the other.
use Rattle.std.proofs.Common.{◌≡◌, ℕ, suc, ◌+◌, ◌<◌, ◌≤◌, drop, get_or, subst, refl, sym, ap, ◌∙◌, List, [], ◌∷◌, ◌++◌, length, arith, append_assoc, append-nil}
use Rattle.std.specs.Prelude.{Bool, Option, Some, None}
use Rattle.sts_base.specs.declared.tables.Tables.{Tables}
use Rattle.sts_syntax.specs.Annotations.{Annotation}
use Rattle.sts_syntax.specs.declared.trees.Binding.{Binding}
use Rattle.sts_syntax.specs.declared.trees.Body.{Body, out-Body}
use Rattle.sts_syntax.specs.declared.trees.Stmt.{Stmt}
use Rattle.sts_syntax.specs.declared.typed.Spot.TheVariants.{Local}
use Rattle.sts_syntax.specs.declared.typed.TypedBinding.{TypedBinding}
use Rattle.sts_syntax.specs.declared.typed.TypedStmt.{TypedStmt}
use Rattle.sts_syntax.specs.Trees.{Routine, Tree, OptionalTree, absent, present, Declaration, Declare, Let}
use Rattle.sts_syntax.specs.Types.{ValueType}
use Rattle.sts_syntax.specs.TypedTrees.{TypedDeclaration, TypedStatements, done, also}
use Rattle.sts_syntax.specs.TypedViews.{typed_declaration, typed_declarations, typed_statement, typed_statements}
use Rattle.sts_syntax.specs.Views.{routine, declaration, declarations, statement, statements}
use Rattle.sts_syntax.proofs.Laws.{routine_parts}
use Rattle.sts_scope.proofs.Laws.{drop_at}
use Rattle.sts_scope.specs.declared.known.Known.{Known}
use Rattle.sts_scope.specs.Entries.{Naming, written_kind}
use Rattle.sts_scope.specs.Kinds.{value_type}
use Rattle.type_derive.specs.Built.{Site, spots_from}
use Rattle.type_derive.specs.inner.Filled.{kind_or_nothing, made_first, made_local}
use Rattle.type_derive.specs.inner.Filling.{Making, pure, ◌>=>◌}
use Rattle.sts_scope.specs.Numbers.{Numbering}
use Rattle.type_derive.specs.Returns.{all_declared, declared, bound}
use Rattle.typed_numbers.specs.Building.{numbering_of}
use Rattle.typed_trees.specs.Fits.{NumbersFit}
use Rattle.typed_trees.specs.Sites as s
use Rattle.typed_trees.specs.Steps.{handler_site, IsBuilt, local_made, bound_kind}
use Rattle.typed_trees.specs.declared.build_places.Builder.{Builder}
use Rattle.typed_trees.specs.declared.build_places.Plan.{Plan}
use Rattle.typed_trees.proofs.Blocks.{site_is}
use Rattle.typed_trees.proofs.Pieces.{fits_first, fits_then, then, then_if, stays, last, drop_all}
use Rattle.typed_trees.proofs.Undeclared.{tree0}

-- statements before others
abbrev pub onto : List TypedStmt → TypedStatements → TypedStatements
onto [] ys = ys
onto (x ∷ xs) ys = also (typed_statement x) (onto xs ys)

onto_more : (xs : List TypedStmt) (x : TypedStmt) (ys : TypedStatements) → onto xs (also (typed_statement x) ys) ≡ onto (xs ++ x ∷ []) ys
onto_more [] x ys = refl
onto_more (y ∷ xs) x ys = ap (λ (zs : TypedStatements). also (typed_statement y) zs) (onto_more xs x ys)

onto_done : (xs : List TypedStmt) → onto xs done ≡ typed_statements xs
onto_done [] = refl
onto_done (x ∷ xs) = ap (λ (zs : TypedStatements). also (typed_statement x) zs) (onto_done xs)

names_more : (xs : List TypedBinding) (x : TypedBinding) (ys : List TypedDeclaration) → typed_declarations xs ++ (typed_declaration x ∷ ys) ≡ typed_declarations (xs ++ x ∷ []) ++ ys
names_more [] x ys = refl
names_more (y ∷ xs) x ys = ap (λ (zs : List TypedDeclaration). typed_declaration y ∷ zs) (names_more xs x ys)

-- what is built so far, with what is left, is the whole
abbrev pub StatementsGo : Plan → Builder → Making TypedStatements → Builder → Site → List Stmt → List TypedStmt → Type 0
StatementsGo p b whole c st rest made = (d : Builder) (ys : TypedStatements) → IsBuilt c d (s.statements_made p st (statements rest)) ys → IsBuilt b d whole (onto made ys)

abbrev pub NamesGo : Plan → Bool → Builder → Making (List TypedDeclaration) → Builder → Site → List Binding → List TypedBinding → Type 0
NamesGo p fixed b whole c st rest made =
    (d : Builder) (ys : List TypedDeclaration) → IsBuilt c d (s.locals_made p st fixed (declarations rest)) ys → IsBuilt b d whole (typed_declarations made ++ ys)

pub statements_step : (p : Plan) (xs : List Stmt) (i : ℕ) (x : Stmt) (st st' : Site) (b0 b c : Builder) (whole : Making TypedStatements) (made made' : List TypedStmt) (y : TypedStmt)
    → i < length xs → x ≡ get_or xs i x → made' ≡ made ++ y ∷ [] → (NumbersFit b (s.statement_made p st (statement x) b.local b.function) → st' ≡ s.behind p b.local st (statement x)) → IsBuilt b c (s.statement_made p st (statement x)) (typed_statement y)
    → StatementsGo p b0 whole b st (drop i xs) made → StatementsGo p b0 whole c st' (drop (i + 1) xs) made'
unfolding s.statements_made s.statement_made
statements_step p xs i x st st' b0 b c whole made made' y lt is more here built go d ys given =
    let rest = drop (i + 1) xs in
    let st2 = s.behind p b.local st (statement x) in
    let D : drop i xs ≡ x ∷ rest = drop_at xs i x lt is in
    let one : IsBuilt b d (s.statement_made p st (statement x) >=> λ a. s.statements_made p st2 (statements rest) >=> λ rs. pure (also a rs)) (also (typed_statement y) ys) =
    then_if b c d (s.statement_made p st (statement x)) (λ a. s.statements_made p st2 (statements rest) >=> λ rs. pure (also a rs)) (typed_statement y) (also (typed_statement y) ys) built
    (λ fits. last c d (s.statements_made p st2 (statements rest)) (λ rs. also (typed_statement y) rs) ys (subst (λ (z : Site). IsBuilt c d (s.statements_made p z (statements rest)) ys) (here fits) given)) in
    let all : IsBuilt b d (s.statements_made p st (statements (drop i xs))) (also (typed_statement y) ys) =
    subst (λ (zs : List Stmt). IsBuilt b d (s.statements_made p st (statements zs)) (also (typed_statement y) ys)) (sym D) one in
    subst (λ (zs : TypedStatements). IsBuilt b0 d whole zs) (onto_more made y ys ∙ ap (λ (zs : List TypedStmt). onto zs ys) (sym more)) (go d (also (typed_statement y) ys) all)

pub statements_end : (p : Plan) (xs : List Stmt) (i : ℕ) (st : Site) (b0 b : Builder) (whole : Making TypedStatements) (made : List TypedStmt)
    → length xs ≤ i → StatementsGo p b0 whole b st (drop i xs) made → IsBuilt b0 b whole (typed_statements made)
unfolding s.statements_made
statements_end p xs i st b0 b whole made le go =
    subst (λ (zs : TypedStatements). IsBuilt b0 b whole zs) (onto_done made)
    (go b done (subst (λ (zs : List Stmt). IsBuilt b b (s.statements_made p st (statements zs)) done) (sym (drop_all xs i le)) (stays b done)))

pub statements_begin : (p : Plan) (xs : List Stmt) (st : Site) (b : Builder) → StatementsGo p b (s.statements_made p st (statements xs)) b st xs []
statements_begin p xs st b d ys given = given

pub names_step : (p : Plan) (fixed : Bool) (xs : List Binding) (i : ℕ) (x : Binding) (st st' : Site) (b0 b c : Builder) (whole : Making (List TypedDeclaration)) (made made' : List TypedBinding) (y : TypedBinding)
    → i < length xs → x ≡ get_or xs i x → made' ≡ made ++ y ∷ [] → st' ≡ s.behind p b.local st (Let 0 fixed (declarations (x ∷ []))) → IsBuilt b c (local_made p st (declaration x)) (typed_declaration y)
    → NamesGo p fixed b0 whole b st (drop i xs) made → NamesGo p fixed b0 whole c st' (drop (i + 1) xs) made'
unfolding s.locals_made local_made
names_step p fixed xs i x st st' b0 b c whole made made' y lt is more here built go d ys given =
    let rest = drop (i + 1) xs in
    let st2 = s.behind p b.local st (Let 0 fixed (declarations (x ∷ []))) in
    let D : drop i xs ≡ x ∷ rest = drop_at xs i x lt is in
    let tail : IsBuilt c d (s.locals_made p st2 fixed (declarations rest)) ys = subst (λ (z : Site). IsBuilt c d (s.locals_made p z fixed (declarations rest)) ys) here given in
    let one : IsBuilt b d (local_made p st (declaration x) >=> λ a. s.locals_made p st2 fixed (declarations rest) >=> λ rs. pure (a ∷ rs)) (typed_declaration y ∷ ys) =
    then b c d (local_made p st (declaration x)) (λ a. s.locals_made p st2 fixed (declarations rest) >=> λ rs. pure (a ∷ rs)) (typed_declaration y) (typed_declaration y ∷ ys) built
    (last c d (s.locals_made p st2 fixed (declarations rest)) (λ rs. typed_declaration y ∷ rs) ys tail) in
    let all : IsBuilt b d (s.locals_made p st fixed (declarations (drop i xs))) (typed_declaration y ∷ ys) =
    subst (λ (zs : List Binding). IsBuilt b d (s.locals_made p st fixed (declarations zs)) (typed_declaration y ∷ ys)) (sym D) one in
    subst (λ (zs : List TypedDeclaration). IsBuilt b0 d whole zs) (names_more made y ys ∙ ap (λ (zs : List TypedBinding). typed_declarations zs ++ ys) (sym more)) (go d (typed_declaration y ∷ ys) all)

pub names_end : (p : Plan) (fixed : Bool) (xs : List Binding) (i : ℕ) (st : Site) (b0 b : Builder) (whole : Making (List TypedDeclaration)) (made : List TypedBinding)
    → length xs ≤ i → NamesGo p fixed b0 whole b st (drop i xs) made → IsBuilt b0 b whole (typed_declarations made)
unfolding s.locals_made
names_end p fixed xs i st b0 b whole made le go =
    subst (λ (zs : List TypedDeclaration). IsBuilt b0 b whole zs) (append-nil (typed_declarations made))
    (go b [] (subst (λ (zs : List Binding). IsBuilt b b (s.locals_made p st fixed (declarations zs)) []) (sym (drop_all xs i le)) (stays b [])))

-- a declared name is one local
first0 : (t : Tables) (f : Naming) (k : Known) (w : Numbering) (st : Site) (shape : Option Annotation) (first : OptionalTree) (m n : ℕ) → (made_first t f k w st shape first m n).locals ≡ []
first0 t f k w st shape absent m n = refl
first0 t f k w st shape (present e) m n = ap (λ (us : List ValueType). us ++ []) (tree0 t f k w st (written_kind f shape) e m n)

one_local : (t : Tables) (f : Naming) (k : Known) (w : Numbering) (st : Site) (a : Declaration) (m n : ℕ) → length (made_local t f k w st a m n).locals ≡ 1
one_local t f k w st (Declare at x shape first) m n = ap (λ (us : List ValueType). length (us ++ value_type (kind_or_nothing t f k w (bound t f k st.place shape first)) ∷ [])) (first0 t f k w st shape first m n)

-- 32 bits number what is left of declared names, behind which the site is that one
abbrev pub NamesEnd : Plan → Bool → Builder → Site → List Binding → Site → Type 0
NamesEnd p fixed b st rest end = NumbersFit b (s.locals_made p st fixed (declarations rest) b.local b.function) × (s.behind p b.local st (Let 0 fixed (declarations rest)) ≡ end)

pub names_here : (p : Plan) (fixed : Bool) (xs : List Binding) (i : ℕ) (x : Binding) (st st' : Site) (b c : Builder) (y : TypedBinding) (end : Site)
    → i < length xs → x ≡ get_or xs i x → st' ≡ s.behind p b.local st (Let 0 fixed (declarations (x ∷ []))) → IsBuilt b c (local_made p st (declaration x)) (typed_declaration y)
    → NamesEnd p fixed b st (drop i xs) end → NamesEnd p fixed c st' (drop (i + 1) xs) end
unfolding s.locals_made local_made
names_here p fixed xs i x st st' b c y end lt is here built (fits, e) =
    let t = p.tables.now in
    let f = s.naming p in
    let k = p.known.now in
    let rest = drop (i + 1) xs in
    let a = declaration x in
    let st2 = s.behind p b.local st (Let 0 fixed (declarations (x ∷ []))) in
    let first = local_made p st a in
    let others = s.locals_made p st2 fixed (declarations rest) in
    let D : drop i xs ≡ x ∷ rest = drop_at xs i x lt is in
    let both : NumbersFit b ((first >=> λ d. others >=> λ ds. pure (d ∷ ds)) b.local b.function) = subst (λ (zs : List Binding). NumbersFit b (s.locals_made p st fixed (declarations zs) b.local b.function)) D fits in
    let made = built (fits_first b first (λ d. others >=> λ ds. pure (d ∷ ds)) both) in
    let next = fits_then b c first (λ d. others >=> λ ds. pure (d ∷ ds)) (typed_declaration y) made both in
    let left = fits_first c others (λ ds. pure (typed_declaration y ∷ ds)) next in
    let n : c.local ≡ suc b.local = omega (arith, made.1.1.1.0, one_local t f k (numbering_of p.numbers.now) st a b.local b.function) in
    let q = all_declared t f k (declared t f k st.place fixed a) fixed (declarations rest) in (
      subst (λ (z : Site). NumbersFit c (s.locals_made p z fixed (declarations rest) c.local c.function)) (sym here) left,
      ap (λ (z : Site). s.behind p c.local z (Let 0 fixed (declarations rest))) here
          ∙ site_is q q ((st.spots ++ Local b.local ∷ []) ++ spots_from c.local (declarations rest)) (st.spots ++ Local b.local ∷ spots_from (suc b.local) (declarations rest)) refl
          (append_assoc st.spots (Local b.local ∷ []) (spots_from c.local (declarations rest)) ∙ ap (λ (m : ℕ). st.spots ++ Local b.local ∷ spots_from m (declarations rest)) n)
          ∙ ap (λ (zs : List Binding). s.behind p b.local st (Let 0 fixed (declarations zs))) (sym D) ∙ e,
    )

-- the type of a declared name, from that of its initialiser in its place
pub bound_is : (p : Plan) (st : Site) (shape : Option Annotation) (first : Tree)
    → bound_kind shape (written_kind (s.naming p) shape) first (s.tree_kind p st (written_kind (s.naming p) shape) first) ≡ bound p.tables.now (s.naming p) p.known.now st.place shape (present first)
unfolding s.tree_kind
bound_is p st (Some a) first = refl
bound_is p st None first = refl

-- the statements of a handler, where they stand
pub body_is : (p : Plan) (st inside : Site) (body : Body) (xs : List Stmt) → inside ≡ handler_site p st (routine body) → xs ≡ (out-Body body).stmts → s.statements_made p inside (statements xs) ≡ s.body_made p st (routine body)
unfolding s.body_made s.statements_made
body_is p st inside body xs place list =
    ap (λ (z : Site). s.statements_made p z (statements xs)) place
    ∙ ap (λ (ys : List Stmt). s.statements_made p (handler_site p st (routine body)) (statements ys)) list
    ∙ ap (λ (r : Routine). s.statements_made p (handler_site p st r) (statements (out-Body body).stmts)) (routine_parts body)
    ∙ sym (ap (s.body_made p st) (routine_parts body))
