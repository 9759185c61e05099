use Rattle.std.proofs.Common.{rules, ◌≡◌, ◌≤◌, ◌*◌, refl, sym, length, arith}
use Rattle.std.proofs.lemmas.List.{append-nil}
use Rattle.tool_io.proofs.Laws.{puts-as}
use Rattle.board_outside.proofs.Texts.{a-piece-more, hex-all}
use Rattle.board_outside.proofs.lines.then_put_hex.Goals as goal

pub loop-i-init : goal.loop-i-init
loop-i-init g c = λ taken faults text p. puts-as c.args.before _ _ (sym (append-nil text)) p

pub loop-i-preserved : goal.loop-i-preserved
loop-i-preserved g c = λ taken faults text p.
    puts-as c.then_put_few-put.result _ _ (a-piece-more text c.args.bytes.now _ c.loop-i.i c.min-next.result refl c.min-next.ensures)
    (c.then_put_few-put.ensures taken faults _ (c.loop-i.invariant taken faults text p))

pub returns : goal.returns
returns g c = λ taken faults text p.
    let ended : c.loop-i.i ≡ c.div_ceil-i-end.result = search rules in
    let past : length c.args.bytes.now ≤ c.loop-i.i * 128 = omega (arith, ended, c.div_ceil-i-end.ensures) in
    puts-as c.loop-i.put _ _ (hex-all text c.args.bytes.now (c.loop-i.i * 128) past) (c.loop-i.invariant taken faults text p)
