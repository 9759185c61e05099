use Rattle.std.proofs.Common.{ℕ, None, arith, sym, ◌∙◌, ap}
use Rattle.around_place.specs.Brackets.{latest_open}
use Rattle.around_place.proofs.Open.{found-next, found-end, found-here, found-before}
use Rattle.around_place.proofs.brackets.innermost.Goals as goal

pub loop-word-preserved-then-is_as_open : goal.loop-word-preserved-then-is_as_open
loop-word-preserved-then-is_as_open c = (
  found-next _ c.loop-word.rest.now c.in-Some.word.now c.in-Some.after.now c.open_count-all.result c.loop-word.count c.open_behind-count.result _ _ c.loop-word.invariant.0 c.in-Some.ensures.some
      c.open_behind-count.ensures.count (found-here _ _ _ _ (sym c.is_as_open.ensures ∙ c.if-is_as_open.true) c.from_word.ensures.from),
  omega (arith, c.loop-word.invariant.1, c.in-Some.ensures.shorter, c.open_behind-count.ensures.most),
)

pub loop-word-preserved : goal.loop-word-preserved
loop-word-preserved c = (
  found-next _ c.loop-word.rest.now c.in-Some.word.now c.in-Some.after.now c.open_count-all.result c.loop-word.count c.open_behind-count.result _ _ c.loop-word.invariant.0 c.in-Some.ensures.some
      c.open_behind-count.ensures.count (found-before _ _ _ (sym c.is_as_open.ensures ∙ c.if-is_as_open.false)),
  omega (arith, c.loop-word.invariant.1, c.in-Some.ensures.shorter, c.open_behind-count.ensures.most),
)

pub returns : goal.returns
returns c = λ words read.
    found-end c.args.text.now c.loop-word.rest.now c.open_count-all.result c.loop-word.count _ c.loop-word.invariant.0 c.in_default.ensures.none words read
    ∙ ap (λ (x : ℕ). latest_open x 0 c.args.text.now words None) (c.open_count-all.ensures words read)
