use Rattle.std.proofs.Common.{codes, decimal}
use Rattle.run_tool.proofs.BigTexts.{five-puts}
use Rattle.run_tool.proofs.big.put_function.Goals as goal

pub returns : goal.returns
returns c =
    five-puts c.args.out.now.items (codes "function f") (decimal c.args.number) (codes "(n: number): number { return (n * ") (decimal c.args.number) (codes " + 7) % 1000 }\n")
    c.extend_from_slice.new.self.items c.put_number.new.out.items c.extend_from_slice-2.new.self.items c.put_number-2.new.out.items c.extend_from_slice-3.new.self.items
    c.in_ok-extend_from_slice.ensures.items c.in_ok-put_number.ensures c.in_ok-extend_from_slice-2.ensures.items c.in_ok-put_number-2.ensures
    c.in_ok-extend_from_slice-3.ensures.items
