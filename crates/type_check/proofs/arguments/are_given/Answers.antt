use Rattle.std.proofs.Common.{◌<◌, length, sym, ◌∙◌, arith}
use Rattle.sts_syntax.specs.declared.board_rows.BoardParameter.TheVariants.{Number}
use Rattle.type_derive.specs.Scopes.{place}
use Rattle.type_check.proofs.Taking.{given_unlike, kinds_here, given_found, given_kept, kinds_kept}
use Rattle.type_check.proofs.arguments.are_given.Goals as goal

pub returns-then-takes-args : goal.returns-then-takes-args
returns-then-takes-args c = given_unlike c.args.context.now.tables.now c.args.context.now.known.now (place c.args.scope.now) c.args.takes.now c.args.args.now c.if-takes-args.true

pub bounds-kinds-i : goal.bounds-kinds-i
bounds-kinds-i c =
    let l : c.loop-i.i < length c.args.takes.now = omega arith in
    let m : c.loop-i.i < length c.args.args.now = omega arith in
    kinds_here c.args.context.now.tables.now c.args.context.now.known.now (place c.args.scope.now) c.args.takes.now c.args.args.now c.args.kinds.now c.loop-i.i Number c.index-args-i.result l m c.index-args-i.is
    c.loop-i.invariant.kinds

pub returns-then-not-fits_place : goal.returns-then-not-fits_place
returns-then-not-fits_place c =
    let l : c.loop-i.i < length c.args.takes.now = omega arith in
    let m : c.loop-i.i < length c.args.args.now = omega arith in
    given_found c.args.context.now.tables.now c.args.context.now.known.now (place c.args.scope.now) c.args.takes.now c.args.args.now c.args.kinds.now c.loop-i.i Number c.index-args-i.result _ l m c.index-args-i.is
    c.loop-i.invariant.kinds (sym c.fits_place.ensures ∙ c.if-not-fits_place.true) c.loop-i.invariant.rest

pub loop-i-preserved : goal.loop-i-preserved
loop-i-preserved c =
    let l : c.loop-i.i < length c.args.takes.now = omega arith in
    let m : c.loop-i.i < length c.args.args.now = omega arith in
    record {
      rest = given_kept c.args.context.now.tables.now c.args.context.now.known.now (place c.args.scope.now) c.args.takes.now c.args.args.now c.args.kinds.now c.loop-i.i Number c.index-args-i.result _ l m c.index-args-i.is
          c.loop-i.invariant.kinds (sym c.fits_place.ensures ∙ c.if-not-fits_place.false) c.loop-i.invariant.rest;
      kinds = kinds_kept c.args.context.now.tables.now c.args.context.now.known.now (place c.args.scope.now) c.args.takes.now c.args.args.now c.args.kinds.now c.loop-i.i Number c.index-args-i.result l m c.index-args-i.is
          c.loop-i.invariant.kinds;
    }
