use Rattle.run_tool.proofs.ClassAnswers.{text-is-ok, text-of-ok}
use Rattle.run_tool.proofs.class_boards.name_text.Goals as goal

pub unwrap-requires : goal.unwrap-requires
unwrap-requires c = text-is-ok c.from_utf8.result _ _ _ c.from_utf8.ensures.cases c.requires

pub returns : goal.returns
returns c = (text-of-ok c.from_utf8.result c.unwrap.result _ _ c.unwrap.ensures c.from_utf8.ensures.cases).0
