use Rattle.std.proofs.Common.{ℕ, ◌+◌, ◌-◌, ◌<◌, ◌≤◌, ap, sym, ◌∙◌, subst}
use Rattle.std.specs.Prelude.{Result}
use Rattle.sts_syntax.specs.declared.trees.Expr.{Expr}
use Rattle.sts_syntax.specs.Trees.{Tree}
use Rattle.sts_syntax.specs.Nesting.{nesting}
use Rattle.sts_syntax.specs.Views.{tree}
use Rattle.sts_grammar.specs.Source.{kind}
use Rattle.sts_grammar.specs.Found.{Found, ◌>>=◌}
use Rattle.sts_grammar.specs.ReadExpressions.{binds_before, read_behind, climb}
use Rattle.sts_grammar.proofs.Laws.{climb_stop}
use Rattle.parse_expr.specs.declared.reader.Read.{Read}
use Rattle.parse_expr.specs.declared.reader.Unread.{Unread}
use Rattle.parse_expr.specs.Gives.{source, nested, Fails, Gives, read_of}
use Rattle.parse_expr.proofs.Turns.{climb_deep, climb_reads, fails_first}
use Rattle.parse_expr.proofs.grammar.Grammar.climb.Goals as goal

pub returns-then-binds-level-clause-reads : goal.returns-then-binds-level-clause-reads
returns-then-binds-level-clause-reads g c =
    let r = c.args.self.now.reader in
    let room = c.args.self.now.room in
    let e = c.loop-left.e in
    let binds : binds_before (source r) r.upto e.end < c.args.level = subst (λ (x : ℕ). x < c.args.level) c.binds.ensures c.if-binds-level.true in
    c.loop-left.invariant.reads ∙ climb_stop (source r) r.upto room (nested r room) c.loop-left.left c.args.level c.args.place (tree e.item) e.end c.loop-left-test.true binds

pub returns-then-self-e-clause-reads : goal.returns-then-self-e-clause-reads
returns-then-self-e-clause-reads g c =
    let r = c.args.self.now.reader in
    let room = c.args.self.now.room in
    let e = c.loop-left.e in
    let binds : c.args.level ≤ binds_before (source r) r.upto e.end = subst (λ (x : ℕ). c.args.level ≤ x) c.binds.ensures c.if-binds-level.false in
    let deep : room < nesting (tree e.item) = subst (λ (x : ℕ). room < x) c.loop-left.invariant.weighed c.if-self-e.true in
    let none = c.loop-left.invariant.reads ∙ climb_deep (source r) r.upto room (nested r room) c.loop-left.left c.args.level c.args.place (tree e.item) e.end c.loop-left-test.true binds deep in
    subst (λ (x : Result (Read Expr) Unread). Gives (read_of tree) x (climb (source r) r.upto room (nested r room) (room + 1) c.args.level c.args.place (tree c.args.first.item) c.args.first.end))
    (sym c.lost.ensures) none

pub returns-in-Err-clause-reads : goal.returns-in-Err-clause-reads
returns-in-Err-clause-reads g c =
    let r = c.args.self.now.reader in
    let room = c.args.self.now.room in
    let e = c.loop-left.e in
    let binds : c.args.level ≤ binds_before (source r) r.upto e.end = subst (λ (x : ℕ). c.args.level ≤ x) c.binds.ensures c.if-binds-level.false in
    let fits : nesting (tree e.item) ≤ room = subst (λ (x : ℕ). x ≤ room) c.loop-left.invariant.weighed c.if-self-e.false in
    let turn = c.loop-left.invariant.reads ∙ climb_reads (source r) r.upto room (nested r room) c.loop-left.left c.args.level c.args.place (tree e.item) e.end c.loop-left-test.true binds fits in
    subst (λ (x : Found Tree). Fails c.in-Err.unread x) (sym turn)
    (fails_first c.in-Err.unread (read_behind (source r) (nested r room) c.args.place (tree e.item) e.end (kind (source r) e.end))
    (λ a. climb (source r) r.upto room (nested r room) (c.loop-left.left - 1) c.args.level c.args.place a.0 a.1) c.in-Err.ensures.reads)

pub loop-left-preserved : goal.loop-left-preserved
loop-left-preserved g c =
    let r = c.args.self.now.reader in
    let room = c.args.self.now.room in
    let e = c.loop-left.e in
    let binds : c.args.level ≤ binds_before (source r) r.upto e.end = subst (λ (x : ℕ). c.args.level ≤ x) c.binds.ensures c.if-binds-level.false in
    let fits : nesting (tree e.item) ≤ room = subst (λ (x : ℕ). x ≤ room) c.loop-left.invariant.weighed c.if-self-e.false in
    record {
      reads =
          c.loop-left.invariant.reads
          ∙ climb_reads (source r) r.upto room (nested r room) c.loop-left.left c.args.level c.args.place (tree e.item) e.end c.loop-left-test.true binds fits
          ∙ ap (λ (x : Found Tree). x >>= λ a. climb (source r) r.upto room (nested r room) (c.loop-left.left - 1) c.args.level c.args.place a.0 a.1) c.in-Ok.ensures.reads;
      weighed = c.in-Ok.ensures.nesting;
      fits = c.in-Ok.ensures.fits;
    }
