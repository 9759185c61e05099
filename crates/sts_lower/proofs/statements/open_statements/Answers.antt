use Rattle.std.proofs.Common.{◌≡◌, ℕ, ◌+◌, ◌-◌, ◌<◌, ◌∙◌, ◌∷◌, ◌++◌, List, length, drop, ap, sym, subst, take, arith}
use Rattle.std.proofs.lemmas.Bool.Decides.{nat_tests}
use Rattle.std.proofs.lemmas.List.{take_all}
use Rattle.std.specs.Prelude.{OnOk}
use Rattle.sts_syntax.specs.TypedTrees.{TypedStatement, TypedStatements, also}
use Rattle.sts_syntax.specs.TypedViews.{typed_statement, typed_statements}
use Rattle.sts_syntax.proofs.Laws.{drop_at}
use Rattle.sts_lower.specs.Sizes.{statement_size, statements_size}
use Rattle.sts_lower.specs.Statements.{behind}
use Rattle.sts_lower.specs.inner.Works.{Work, Expand, ExpandAll, opened_statements}
use Rattle.sts_lower.specs.inner.Shown.{layout, works}
use Rattle.sts_lower.proofs.statements.open_statements.Goals.{then-statements_size-eq0, else-statements_size-eq0}
use Rattle.sts_lower.proofs.statements.open_statements.Goals as goal

-- the next statement and those behind it, from where each part of them stands
expanded : (a : TypedStatement) (rest : TypedStatements) (ws old : List Work) (at next out again at1 next1 out1 again1 at2 next2 out2 again2 n m n' m' go : ℕ)
    → at1 ≡ at → next1 ≡ go → out1 ≡ out → again1 ≡ again → n ≡ n' → m ≡ m' → go ≡ behind m (at + n) next
    → at2 ≡ at + n → next2 ≡ next → out2 ≡ out → again2 ≡ again → ws ≡ ExpandAll rest at2 next2 out2 again2 ∷ old
    → Expand a at1 next1 out1 again1 ∷ ws ≡ Expand a at (behind m' (at + n') next) out again ∷ (ExpandAll rest (at + n') next out again ∷ old)
expanded a rest ws old at next out again at1 next1 out1 again1 at2 next2 out2 again2 n m n' m' go e1 e2 e3 e4 e5 e6 e7 e8 e9 e10 e11 e12 = cc

pub returns-after-statements_size-eq0 : goal.returns-after-statements_size-eq0
returns-after-statements_size-eq0 c =
    let all = c.args.all.now in
    let a = c.a-item.result in
    let lt : 0 < length all = omega arith in
    let rest = take (length all - 1) (drop 1 all) in
    let whole : rest ≡ drop 1 all = take_all (length all - 1) (drop 1 all) (grind arith) in
    let parts : typed_statements all ≡ also (typed_statement a) (typed_statements rest) =
    ap typed_statements (drop_at all 0 a lt) ∙ ap (λ x. also (typed_statement x) (typed_statements (drop 1 all))) (sym c.a-item.is)
    ∙ ap (λ xs. also (typed_statement a) (typed_statements xs)) (sym whole) in
    let P : TypedStatements → Type 0 =
    λ s. OnOk c.push_statement.result (works c.push_statement.new.stack ≡ opened_statements (layout c.args.frame.now) s c.args.course.at c.args.course.next c.args.course.out c.args.course.again ++ works c.args.stack.now) in
    let size : c.statement_size.result ≡ statement_size c.args.frame.now.maker (typed_statement a) = c.statement_size.ensures in
    let sizes : c.statements_size.result ≡ statements_size c.args.frame.now.maker (typed_statements rest) = c.statements_size.ensures in
    let at : c.ending.result.at ≡ c.args.course.at = ap (λ r. r.at) c.ending.ensures in
    let next : c.ending.result.next ≡ c.if-statements_size-eq0.go = ap (λ r. r.next) c.ending.ensures in
    let out : c.ending.result.out ≡ c.args.course.out = ap (λ r. r.out) c.ending.ensures in
    let again : c.ending.result.again ≡ c.args.course.again = ap (λ r. r.again) c.ending.ensures in
    let behind_at : c.beginning.result.at ≡ c.args.course.at + c.statement_size.result = ap (λ r. r.at) c.beginning.ensures in
    let go : c.if-statements_size-eq0.go ≡ behind c.statements_size.result (c.args.course.at + c.statement_size.result) c.args.course.next =
    elim c.if-statements_size-eq0.branch [ then-statements_size-eq0 w ↦ grind (arith, nat_tests, w.go-is) | else-statements_size-eq0 w ↦ grind (arith, nat_tests, w.go-is) ] in
    let under : works c.push_statements.new.stack ≡ ExpandAll (typed_statements rest) c.beginning.result.at c.beginning.result.next c.beginning.result.out c.beginning.result.again ∷ works c.args.stack.now =
    c.in_ok-push_statements-in-len1-up.ensures in
    let next' : c.beginning.result.next ≡ c.args.course.next = ap (λ r. r.next) c.beginning.ensures in
    let out' : c.beginning.result.out ≡ c.args.course.out = ap (λ r. r.out) c.beginning.ensures in
    let again' : c.beginning.result.again ≡ c.args.course.again = ap (λ r. r.again) c.beginning.ensures in
    let Q : List Work → Type 0 = λ ws. OnOk c.push_statement.result (works c.push_statement.new.stack ≡ ws) in
    subst P (sym parts) (subst Q (expanded _ _ _ _ _ _ _ _ _ _ _ _ _ _ _ _ _ _ _ _ _ at next out again size sizes go behind_at next' out' again' under) c.push_statement.ensures)
