use Rattle.std.proofs.Common.{arith, ap}
use Rattle.thumb_layout.specs.Rounds.{counted, bytes_of}
use Rattle.thumb_layout.proofs.Lengths.{bytes_least}
use Rattle.thumb_layout.proofs.Emitting.{laid_long}
use Rattle.thumb_layout.proofs.layout.lay.Goals as goal

pub returns-then-counted-gt32768-clause-too_long : goal.returns-then-counted-gt32768-clause-too_long
returns-then-counted-gt32768-clause-too_long c = λ e.
    let a = laid_long c.args.pieces.now c.requires in
    let b = bytes_least c.args.pieces.now in
    let s = ap counted c.as_slice-pieces.ensures in
    let k = c.counted.ensures in
    let t = c.if-counted-gt32768.true in
    omega arith

pub returns-then-placed-gt-LIMIT-clause-too_long : goal.returns-then-placed-gt-LIMIT-clause-too_long
returns-then-placed-gt-LIMIT-clause-too_long c = λ e.
    let a = laid_long c.args.pieces.now c.requires in
    let s = ap bytes_of c.as_slice-pieces.ensures in
    let k = c.in_ok-settled.ensures.placed.end in
    let t = c.if-placed-gt-LIMIT.true in
    omega arith

pub returns-clause-fits : goal.returns-clause-fits
returns-clause-fits c =
    let a = laid_long c.args.pieces.now c.requires in
    let s = ap bytes_of c.as_slice-pieces.ensures in
    let k = c.in_ok-settled.ensures.placed.end in
    let t = c.if-placed-gt-LIMIT.false in
    omega arith
