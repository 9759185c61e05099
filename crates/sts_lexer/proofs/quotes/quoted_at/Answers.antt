use Rattle.std.proofs.Common.{◌≡◌, ◌+◌, ℕ, List, sym, ◌∙◌, subst, arith}
use Rattle.std.specs.Prelude.{Option, Some, None, slice_index}
use Rattle.sts_lexer.specs.Lexemes.{character, IsBody}
use Rattle.sts_lexer.proofs.Bodies.{body_more, stuck_inside, stuck_at_end}
use Rattle.sts_lexer.proofs.quotes.quoted_at.Goals as goal

pub loop-close-preserved : goal.loop-close-preserved
loop-close-preserved c =
    let text = c.args.text.now in
    let quote = slice_index text c.args.at in
    let i = c.loop-close.close in
    let is : character quote (slice_index text i) (slice_index text (i + 1)) ≡ Some (c.in-Some.byte, c.in-Some.size) =
    subst (λ (x : ℕ). character quote (slice_index text i) x ≡ Some (c.in-Some.byte, c.in-Some.size)) c.byte_at.ensures (sym c.character.ensures ∙ c.in-Some.is) in (
      omega (arith, c.loop-close.invariant.0),
      subst (λ (x : List ℕ). IsBody text quote (c.args.at + 1) x (i + c.in-Some.size)) (sym c.in_ok-push-in-Some.ensures.ok)
          (body_more text quote (c.args.at + 1) i c.in-Some.byte c.in-Some.size c.loop-close.value c.loop-close.invariant.1 is),
    )

pub returns-in-None-clause-none : goal.returns-in-None-clause-none
returns-in-None-clause-none c = λ value end.
    let text = c.args.text.now in
    let quote = slice_index text c.args.at in
    let i = c.loop-close.close in
    let none : character quote (slice_index text i) (slice_index text (i + 1)) ≡ None =
    subst (λ (x : ℕ). ◌≡◌ {A = Option (ℕ × ℕ)} (character quote (slice_index text i) x) None) c.byte_at.ensures (sym c.character.ensures ∙ c.in-None.is) in
    stuck_inside text value c.args.at i end c.loop-close.value c.requires.quote c.loop-close.invariant.1 c.if-text-close.false none

pub returns-clause-none : goal.returns-clause-none
returns-clause-none c = λ value end.
    stuck_at_end c.args.text.now value c.args.at c.loop-close.close end c.loop-close.value c.requires.quote c.loop-close.invariant.1 c.loop-close-test.false
