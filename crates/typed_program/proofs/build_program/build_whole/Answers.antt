use Rattle.std.proofs.Common.{arith}
use Rattle.sts_syntax.specs.Programs.{top_levels}
use Rattle.text_sizes.proofs.Laws.{routines_numbered}
use Rattle.typed_program.proofs.build_program.build_whole.Goals as goal

pub add_items-requires-clause-functions : goal.add_items-requires-clause-functions
add_items-requires-clause-functions c = omega (arith, c.requires.count, c.requires.functions, routines_numbered (top_levels c.args.library.now))
