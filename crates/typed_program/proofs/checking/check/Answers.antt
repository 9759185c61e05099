use Rattle.std.proofs.Common.{◌≡◌, subst, sym, OnOk, IfOk}
use Rattle.std.proofs.lemmas.Result.{err_from_is_err_and}
use Rattle.sts_base.specs.declared.refused.Refused.{Refused}
use Rattle.sts_syntax.specs.Programs.{program}
use Rattle.sts_syntax.specs.TypedTrees.{TypedProgram}
use Rattle.sts_syntax.specs.TypedViews.{typed_program}
use Rattle.typed_laws.specs.inner.FilledTexts.{filled_program}
use Rattle.derived_types.specs.Solved.{IsSolved}
use Rattle.typed_program.specs.Checking.{RefusesTrees}
use Rattle.typed_program.proofs.Checked.{text_behind, heading_refused, found_refused, counts_refused, limits_refused, accepted}
use Rattle.typed_program.proofs.Numbered.{counts_hold}
use Rattle.typed_program.proofs.checking.check.Goals as goal

pub typed_of-requires-clause-counts : goal.typed_of-requires-clause-counts
typed_of-requires-clause-counts c = counts_hold c.solve.new.declared.known c.in_ok-check_counts.ensures

pub returns-in_err-declared-clause-refused : goal.returns-in_err-declared-clause-refused
returns-in_err-declared-clause-refused c =
    let tables = c.args.tables.now in
    let library = program c.args.library.now in
    let text = program c.args.text.now in
    let why = err_from_is_err_and c.from_residual.result c.from_residual.ensures.1 in
    rw (why.1) (subst (λ (w : Refused). RefusesTrees w tables library text) (sym (why.2))
    (heading_refused tables library text c.in_err-declared.field-0.0 c.in_err-declared.ensures.found))

pub find_failure-requires : goal.find_failure-requires
find_failure-requires c =
    let tables = c.args.tables.now in
    let library = program c.args.library.now in
    let text = program c.args.text.now in
    let s : IsSolved tables library text c.solve.new.declared =
    subst (λ r. OnOk r (IsSolved tables library text c.solve.new.declared)) c.in_ok-or_no_memory.ensures.ok c.solve.ensures in
    text_behind tables library text c.solve.new.declared s

pub returns-in_err-find_failure-clause-refused : goal.returns-in_err-find_failure-clause-refused
returns-in_err-find_failure-clause-refused c =
    let tables = c.args.tables.now in
    let library = program c.args.library.now in
    let text = program c.args.text.now in
    let why = err_from_is_err_and c.from_residual-in_err-find_failure.result c.from_residual-in_err-find_failure.ensures.1 in
    let s : IsSolved tables library text c.solve.new.declared =
    subst (λ r. OnOk r (IsSolved tables library text c.solve.new.declared)) c.in_ok-or_no_memory.ensures.ok c.solve.ensures in
    rw (why.1) (subst (λ (w : Refused). RefusesTrees w tables library text) (sym (why.2))
    (found_refused tables library text c.solve.new.declared s c.in_err-find_failure.field-0.0
    c.in_ok-declared.ensures.found c.in_err-find_failure.ensures))

pub returns-in_err-check_counts-clause-refused : goal.returns-in_err-check_counts-clause-refused
returns-in_err-check_counts-clause-refused c =
    let tables = c.args.tables.now in
    let library = program c.args.library.now in
    let text = program c.args.text.now in
    let why = err_from_is_err_and c.from_residual-in_err-check_counts.result c.from_residual-in_err-check_counts.ensures.1 in
    let s : IsSolved tables library text c.solve.new.declared =
    subst (λ r. OnOk r (IsSolved tables library text c.solve.new.declared)) c.in_ok-or_no_memory.ensures.ok c.solve.ensures in
    rw (why.1) (subst (λ (w : Refused). RefusesTrees w tables library text) (sym (why.2))
    (counts_refused tables library text c.solve.new.declared s c.in_ok-declared.ensures.found c.in_ok-find_failure.ensures
    c.in_err-check_counts.field-0.0 c.in_err-check_counts.ensures))

pub returns-in_err-check_limits-clause-refused : goal.returns-in_err-check_limits-clause-refused
returns-in_err-check_limits-clause-refused c =
    let tables = c.args.tables.now in
    let library = program c.args.library.now in
    let text = program c.args.text.now in
    let why = err_from_is_err_and c.from_residual-in_err-check_limits.result c.from_residual-in_err-check_limits.ensures.1 in
    let s : IsSolved tables library text c.solve.new.declared =
    subst (λ r. OnOk r (IsSolved tables library text c.solve.new.declared)) c.in_ok-or_no_memory.ensures.ok c.solve.ensures in
    let p : TypedProgram = filled_program tables library text c.solve.new.declared.known.kinds in
    let is : typed_program c.in_ok-typed.typed ≡ p =
    subst (λ r. IfOk r (λ t. typed_program t ≡ p)) c.in_ok-typed.ensures.ok c.typed_of.ensures in
    rw (why.1) (subst (λ (w : Refused). RefusesTrees w tables library text) (sym (why.2))
    (limits_refused tables library text c.solve.new.declared s c.in_ok-declared.ensures.found c.in_ok-find_failure.ensures
    (typed_program c.in_ok-typed.typed) is c.in_err-check_limits.field-0.0 c.in_err-check_limits.ensures))

pub returns-clause-accepted : goal.returns-clause-accepted
returns-clause-accepted c =
    let tables = c.args.tables.now in
    let library = program c.args.library.now in
    let text = program c.args.text.now in
    let s : IsSolved tables library text c.solve.new.declared =
    subst (λ r. OnOk r (IsSolved tables library text c.solve.new.declared)) c.in_ok-or_no_memory.ensures.ok c.solve.ensures in
    let p : TypedProgram = filled_program tables library text c.solve.new.declared.known.kinds in
    let is : typed_program c.in_ok-typed.typed ≡ p =
    subst (λ r. IfOk r (λ t. typed_program t ≡ p)) c.in_ok-typed.ensures.ok c.typed_of.ensures in
    accepted tables library text c.solve.new.declared s c.in_ok-declared.ensures.found c.in_ok-find_failure.ensures
    (typed_program c.in_ok-typed.typed) is c.in_ok-check_limits.ensures
