use Rattle.std.proofs.Common.{◌++◌, ◌≡◌, string_bytes, replicate, ap, ◌∙◌}
use Rattle.std.proofs.lemmas.Str.{IsUtf8-past_char}
use Rattle.pointed_line.specs.Columns.{blank_at}
use Rattle.pointed_line.proofs.Written.{written-step, written-end}
use Rattle.pointed_line.proofs.line.push_blank.Goals as goal

pub loop-character-preserved : goal.loop-character-preserved
loop-character-preserved c =
    let held = c.loop-character.invariant in
    let parts = c.in-Some.ensures.steps.0 in
    let spaces : string_bytes c.push_spaces.new.out ≡ string_bytes c.loop-character.out ++ blank_at c.loop-character.behind c.in-Some.character =
    c.in_ok-push_spaces.ensures ∙ ap (λ n. string_bytes c.loop-character.out ++ replicate n 32) c.columns.ensures.value in (
      IsUtf8-past_char _ _ c.in-Some.character held.0 parts,
      (
        c.behind_it-behind.ensures.bound,
        rw c.behind_it-behind.ensures.value (written-step blank_at (string_bytes c.loop-character.out) (string_bytes c.push_spaces.new.out) _ _ _ c.loop-character.behind c.in-Some.character held.0 parts held.1.1 spaces),
      ),
    )

pub returns : goal.returns
returns c = written-end blank_at _ _ _ c.loop-character.behind c.in-None.ensures.steps.0.0 c.loop-character.invariant.1.1
