use Rattle.std.proofs.Common.{◌∙◌}
use Rattle.std.specs.String.{string_bytes}
use Rattle.tool_folder.proofs.FileNames.{content-apart}
use Rattle.tool_folder.proofs.files.Files.add.Goals as goal

pub returns-in-Ok-clause-others : goal.returns-in-Ok-clause-others
returns-in-Ok-clause-others c = λ file apart.
    content-apart c.args.self.now.by_name c.insert.new.self (string_bytes c.in-Ok-Ok.name) _ c.in-Ok.ensures.updates file (λ e. apart (e ∙ c.in-Ok-Ok.ensures.ok))
