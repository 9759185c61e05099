use Rattle.std.proofs.Common.{◌≡◌, ◌≤◌, length, arith, refl, inl, inr}
use Rattle.std.specs.Prelude.{codes}
use Rattle.std.specs.Option.{option_map}
use Rattle.sts_words.specs.Views.{spoken}
use Rattle.hex_image.specs.Spells.{flash_size}
use Rattle.hex_image.specs.Codes.{number_of}
use Rattle.run_tool.specs.declared.ending.Status.TheVariants.{ImageRefused}
use Rattle.run_tool.specs.Answers.{says}
use Rattle.run_tool.specs.Runs.{RunsBoard, RunsHex, images}
use Rattle.run_tool.specs.Files.{code_line, told_by}
use Rattle.run_tool.specs.Scripts.{OverScript}
use Rattle.run_tool.proofs.Endings.{gives-more, concludes-more, says-concludes}
use Rattle.run_tool.proofs.ImageRuns.{image-fits, broken-answer}
use Rattle.run_tool.specs.declared.ending.Ending.TheVariants.{NoMemory}
use Rattle.run_tool.specs.Wanted.{Onwards, OrLacks, WantsScript, wants_none}
use Rattle.run_tool.proofs.Wanting.{asked-more, asked-none}
use Rattle.run_tool.proofs.WantedReadings.{broken}
use Rattle.run_tool.proofs.run_hex.run_hex_text.Goals as goal

pub run_named-requires-clause-size : goal.run_named-requires-clause-size
run_named-requires-clause-size g c =
    let fits : length c.in-Ok.image.items ≤ flash_size = image-fits c.args.text.now c.in-Ok.image.items c.in-Ok.ensures.image in
    omega (arith, fits, c.in-Ok.image.ok)

pub returns-in-Ok-clause-answer : goal.returns-in-Ok-clause-answer
returns-in-Ok-clause-answer g c =
    let files = told_by g.F.Folder.holds g.F.Folder.faults c.args.folder.now c.run_named.new.folder in
    let name = option_map spoken c.args.asked.script in
    concludes-more (OverScript files name (λ read. RunsBoard c.in-Ok.image.items read c.args.asked.budget)) (RunsHex files name c.args.asked.budget c.args.text.now) c.run_named.result
    (λ answer h. inl (c.in-Ok.image.items, c.in-Ok.ensures.image, h)) c.run_named.ensures.answer

pub returns-in-Image-clause-answer : goal.returns-in-Image-clause-answer
returns-in-Image-clause-answer g c =
    let files = told_by g.F.Folder.holds g.F.Folder.faults c.args.folder.now c.args.folder.now in
    let name = option_map spoken c.args.asked.script in
    says-concludes g.D.Device.account c.args.places.now.items c.args.places.now.items refl (RunsHex files name c.args.asked.budget c.args.text.now) c.say_image_refused.result
    (gives-more (λ answer. answer ≡ says ImageRefused (code_line (codes "image refused ") (number_of c.in-Image.code))) (RunsHex files name c.args.asked.budget c.args.text.now) c.say_image_refused.result
    (broken-answer files name c.args.text.now c.args.asked.budget c.in-Image.code c.in-Err.why c.in-Image.is c.in-Err.ensures.code) c.say_image_refused.ensures)

pub returns-in-Ok-clause-asked : goal.returns-in-Ok-clause-asked
returns-in-Ok-clause-asked g c =
    let asked = g.F.Folder.asked in
    let holds = g.F.Folder.holds in
    let faults = g.F.Folder.faults in
    let old = c.args.folder.now in
    let new = c.run_named.new.folder in
    let files = told_by holds faults old new in
    let text = c.args.text.now in
    let lacking = c.run_named.result ≡ NoMemory in
    let next = WantsScript files lacking (option_map spoken c.args.asked.script) wants_none in
    asked-more asked old new next (OrLacks lacking (Onwards images (λ image. next) text)) (λ names h. inl (inl (c.in-Ok.image.items, c.in-Ok.ensures.image, h))) c.run_named.ensures.asked

pub returns-in-Image-clause-asked : goal.returns-in-Image-clause-asked
returns-in-Image-clause-asked g c =
    let asked = g.F.Folder.asked in
    let holds = g.F.Folder.holds in
    let faults = g.F.Folder.faults in
    let old = c.args.folder.now in
    let new = c.args.folder.now in
    let files = told_by holds faults old new in
    let text = c.args.text.now in
    let lacking = c.say_image_refused.result ≡ NoMemory in
    let next = WantsScript files lacking (option_map spoken c.args.asked.script) wants_none in
    asked-none asked old (OrLacks lacking (Onwards images (λ image. next) text)) (inl (broken text c.in-Err.why c.in-Image.code c.in-Image.is c.in-Err.ensures.code (λ image. next)))

pub returns-in-NoMemory-clause-asked : goal.returns-in-NoMemory-clause-asked
returns-in-NoMemory-clause-asked g c =
    let asked = g.F.Folder.asked in
    let holds = g.F.Folder.holds in
    let faults = g.F.Folder.faults in
    let old = c.args.folder.now in
    let new = c.args.folder.now in
    let files = told_by holds faults old new in
    let text = c.args.text.now in
    let lacking = NoMemory ≡ NoMemory in
    let next = WantsScript files lacking (option_map spoken c.args.asked.script) wants_none in
    asked-none asked old (OrLacks lacking (Onwards images (λ image. next) text)) (inr (refl, refl))
