use Rattle.std.proofs.Common.{◌<◌, ◌≤◌, length, min, sym, ◌∙◌, arith}
use Rattle.sts_syntax.specs.declared.board_rows.BoardParameter.TheVariants.{Number}
use Rattle.type_derive.specs.Scopes.{place}
use Rattle.type_check.proofs.Taking.{lacks_found, lacks_missed, lacks_end}
use Rattle.type_check.proofs.arguments.lacks_handler.Goals as goal

pub returns-then-lacks_here : goal.returns-then-lacks_here
returns-then-lacks_here c =
    let l : c.loop-i.i < length c.args.takes.now = omega arith in
    let m : c.loop-i.i < length c.args.args.now = omega arith in
    lacks_found c.args.context.now.tables.now c.args.context.now.known.now (place c.args.scope.now) c.args.takes.now c.args.args.now c.loop-i.i Number c.index-args-i.result _ l m c.index-args-i.is
    (sym c.lacks_here.ensures ∙ c.if-lacks_here.true) (c.loop-i.invariant)

pub loop-i-preserved : goal.loop-i-preserved
loop-i-preserved c =
    let l : c.loop-i.i < length c.args.takes.now = omega arith in
    let m : c.loop-i.i < length c.args.args.now = omega arith in
    lacks_missed c.args.context.now.tables.now c.args.context.now.known.now (place c.args.scope.now) c.args.takes.now c.args.args.now c.loop-i.i Number c.index-args-i.result _ l m c.index-args-i.is
    (sym c.lacks_here.ensures ∙ c.if-lacks_here.false) (c.loop-i.invariant)

pub returns : goal.returns
returns c =
    let h : min (length c.args.takes.now) (length c.args.args.now) ≤ c.loop-i.i = omega arith in
    sym (lacks_end c.args.context.now.tables.now c.args.context.now.known.now (place c.args.scope.now) c.args.takes.now c.args.args.now c.loop-i.i h) ∙ c.loop-i.invariant
