use Rattle.std.proofs.Common.{◌≡◌, ◌++◌, [], ap, ◌∙◌, arith}
use Rattle.std.specs.List.{flat_map, range_with_len}
use Rattle.hex_image.specs.Writing.{record_line, row_lines, row_count, hextext}
use Rattle.hex_image.proofs.TextLemmas.{rows-more}
use Rattle.hex_image.proofs.writing.write.Goals as goal

pub loop-k-preserved : goal.loop-k-preserved
loop-k-preserved c =
    rw (c.in_ok-put_row.ensures, c.loop-k.invariant, rows-more (row_lines c.args.image.now) c.loop-k.k)

pub returns : goal.returns
unfolding hextext
returns c =
    let all : c.loop-k.k ≡ row_count c.args.image.now = omega (arith, c.loop-k-test.false, c.loop-k.auto.k-end, c.div_ceil-k-end.ensures) in
    c.in_ok-put_record.ensures
    ∙ ap (λ t. t ++ record_line 1 0 []) (c.loop-k.invariant ∙ ap (λ n. flat_map (row_lines c.args.image.now) (range_with_len 0 n)) all)
