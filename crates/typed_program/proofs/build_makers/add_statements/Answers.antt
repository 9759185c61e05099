use Rattle.std.proofs.Common.{◌<◌, ◌≤◌, length, arith}
use Rattle.sts_syntax.specs.Views.{statements}
use Rattle.typed_trees.specs.Sites as s
use Rattle.typed_program.specs.Wholes as w
use Rattle.typed_program.proofs.Constructors.{behind_begins}
use Rattle.typed_trees.proofs.Laws.{statements_step, statements_end}
use Rattle.typed_program.proofs.build_makers.add_statements.Goals as goal

pub loop-i-init : goal.loop-i-init
loop-i-init c = behind_begins c.args.plan.now (s.site c.args.site.now) c.args.builder.now c.args.made.now c.args.all.now

pub loop-i-preserved : goal.loop-i-preserved
loop-i-preserved c =
    let p = c.args.plan.now in
    let xs = c.args.all.now in
    let i = c.loop-i.i in
    let lt : i < length xs = omega arith in
    let whole = w.behind_made p (s.site c.args.site.now) (w.typed_list c.args.made.now) (statements xs) in
    statements_step p xs i c.index-all-i.result (s.site c.loop-i.site) (s.site c.build_statement.new.site) c.args.builder.now c.loop-i.builder c.build_statement.new.builder whole c.loop-i.made c.push.new.self c.in_ok-a.a
    lt c.index-all-i.is c.in_ok-push.ensures.ok c.in_ok-a.ensures.site c.in_ok-a.ensures.built c.loop-i.invariant

pub returns : goal.returns
returns c =
    let p = c.args.plan.now in
    let xs = c.args.all.now in
    let le : length xs ≤ c.loop-i.i = omega arith in
    statements_end p xs c.loop-i.i (s.site c.loop-i.site) c.args.builder.now c.loop-i.builder (w.behind_made p (s.site c.args.site.now) (w.typed_list c.args.made.now) (statements xs)) c.loop-i.made le c.loop-i.invariant
