use Rattle.std.proofs.Common.{◌≡◌, ◌<◌, ◌≤◌, length, ap, ◌∙◌, rules, All}
use Rattle.hex_image.specs.Spells.{flash_size}
use Rattle.hex_image.specs.Writing.{hextext}
use Rattle.run_tool.specs.declared.ending.Status.TheVariants.{Done}
use Rattle.run_tool.specs.Answers.{says}
use Rattle.run_tool.specs.Programs.{WritesImage}
use Rattle.run_tool.proofs.Endings.{gives-more}
use Rattle.run_tool.proofs.build.write_image.Goals as goal

pub returns-in-Ok : goal.returns-in-Ok
returns-in-Ok g c = λ P texts implements.
    let fits : length c.args.image.items ≤ flash_size = search rules in
    let bytes : All (λ b. b < 256) c.args.image.items = search rules in
    let text = c.deref-in-Ok.result.now in
    gives-more (λ answer. answer ≡ says Done text) (WritesImage P texts) c.say.result
    (λ answer e. (c.args.image.items, record { fits = fits; bytes = bytes }, implements, e ∙ ap (says Done) (c.deref-in-Ok.ensures.value ∙ c.in-Ok.ensures ∙ ap hextext c.deref.ensures.value))) c.say.ensures.answer
