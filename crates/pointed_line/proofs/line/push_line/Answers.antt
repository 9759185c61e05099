use Rattle.std.proofs.Common.{string_bytes}
use Rattle.std.proofs.lemmas.Str.{IsUtf8-past_char}
use Rattle.pointed_line.specs.Columns.{as_shown}
use Rattle.pointed_line.proofs.Written.{written-step, written-end}
use Rattle.pointed_line.proofs.line.push_line.Goals as goal

pub loop-character-preserved : goal.loop-character-preserved
loop-character-preserved c =
    let held = c.loop-character.invariant in
    let parts = c.in-Some.ensures.steps.0 in (
      IsUtf8-past_char _ _ c.in-Some.character held.0 parts,
      (
        c.behind_it-behind.ensures.bound,
        rw c.behind_it-behind.ensures.value (written-step as_shown (string_bytes c.loop-character.out) (string_bytes c.push_shown.new.out) _ _ _ c.loop-character.behind c.in-Some.character held.0 parts held.1.1 c.in_ok-push_shown.ensures),
      ),
    )

pub returns : goal.returns
returns c = written-end as_shown _ _ _ c.loop-character.behind c.in-None.ensures.steps.0.0 c.loop-character.invariant.1.1
