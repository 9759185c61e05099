use Rattle.std.proofs.Common.{subst, Result, List, ℕ}
use Rattle.hex_image.specs.declared.refused.HexCode.{HexCode}
use Rattle.hex_image.specs.Answers.{Gives}
use Rattle.hex_image.proofs.AnswerLemmas.{image_read, code_read, reading-spells, reading-breaks}
use Rattle.hex_image.proofs.reading.read_hex.Goals as goal

pub returns-clause-image : goal.returns-clause-image
returns-clause-image c = image_read (λ v. v.items) c.read.result c.args.text.now c.read.ensures

pub returns-clause-only_image : goal.returns-clause-only_image
returns-clause-only_image c = λ image spelled.
    subst (λ (answer : Result (List ℕ) HexCode). Gives (λ v. v.items) c.read.result answer) (reading-spells c.args.text.now image spelled) c.read.ensures

pub returns-clause-code : goal.returns-clause-code
returns-clause-code c = code_read (λ v. v.items) c.read.result c.args.text.now c.read.ensures

pub returns-clause-only_code : goal.returns-clause-only_code
returns-clause-only_code c = λ code broken.
    subst (λ (answer : Result (List ℕ) HexCode). Gives (λ v. v.items) c.read.result answer) (reading-breaks c.args.text.now code broken) c.read.ensures
