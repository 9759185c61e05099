use Rattle.std.proofs.Common.{◌≡◌, ◌-◌, ◌+◌, suc, length, sym, ◌∙◌, arith, None}
use Rattle.std.proofs.lemmas.Grind.{common_steps}
use Rattle.sts_scope.specs.declared.entries.Owner.TheVariants as o
use Rattle.sts_scope.specs.Lookup.{entry_number}
use Rattle.sts_scope.proofs.Chains.{member_step}
use Rattle.sts_scope.proofs.symbol_table.SymbolTable.member.Goals as goal

pub loop-preserved : goal.loop-preserved
loop-preserved c =
    let m = length c.args.classes.now - c.loop.counter in
    let n = length c.args.classes.now - (c.loop.counter + 1) in
    let e : m ≡ suc n = omega arith in
    let g : entry_number c.args.self.now (o.Class c.loop.at) c.args.x ≡ None = grind (arith, common_steps) in
    member_step c.args.self.now c.args.classes.now m n c.loop.at c.in-Some-base_of.b c.args.x e g (sym c.in-Some-base_of.ensures) ∙ c.loop.invariant
