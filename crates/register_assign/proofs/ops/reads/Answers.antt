use Rattle.std.proofs.Common.{sym, ap, ◌∙◌}
use Rattle.register_assign.specs.Marks.{is_among}
use Rattle.register_assign.specs.Readings.{numbers_of}
use Rattle.register_assign.proofs.ops.reads.Goals as goal

pub returns-in-One : goal.returns-in-One
returns-in-One c = c.is_among.ensures ∙ ap (is_among c.args.t) (sym (ap numbers_of c.in-One.is) ∙ c.read_by.ensures)

pub returns-in-Two : goal.returns-in-Two
returns-in-Two c = c.is_among-in-Two.ensures ∙ ap (is_among c.args.t) (sym (ap numbers_of c.in-Two.is) ∙ c.read_by.ensures)

pub returns-in-Three : goal.returns-in-Three
returns-in-Three c = c.is_among-in-Three.ensures ∙ ap (is_among c.args.t) (sym (ap numbers_of c.in-Three.is) ∙ c.read_by.ensures)

pub returns-in-Arguments : goal.returns-in-Arguments
returns-in-Arguments c = c.is_among-in-Arguments.ensures ∙ ap (is_among c.args.t) (sym (ap numbers_of c.in-Arguments.is) ∙ c.read_by.ensures)
