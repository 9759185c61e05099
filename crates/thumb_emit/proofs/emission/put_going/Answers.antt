use Rattle.std.proofs.Common.{◌≡◌, ◌++◌, sym, subst}
use Rattle.std.specs.Prelude.{OnOk}
use Rattle.flat_ir.specs.declared.ops.Op.{Op}
use Rattle.thumb_emit.specs.Ready.{pieces_of}
use Rattle.thumb_emit.proofs.emission.put_going.Goals as goal

pub returns-in-Call : goal.returns-in-Call
returns-in-Call c = subst (λ (o : Op). OnOk c.call.result (c.call.new.out ≡ c.args.out.now ++ pieces_of c.args.placed.now c.args.at.k o)) (sym c.in-Call.is) c.call.ensures

pub returns-in-CallSlot : goal.returns-in-CallSlot
returns-in-CallSlot c = subst (λ (o : Op). OnOk c.call_slot.result (c.call_slot.new.out ≡ c.args.out.now ++ pieces_of c.args.placed.now c.args.at.k o)) (sym c.in-CallSlot.is) c.call_slot.ensures

pub returns-in-HandlerOf : goal.returns-in-HandlerOf
returns-in-HandlerOf c = subst (λ (o : Op). OnOk c.handler.result (c.handler.new.out ≡ c.args.out.now ++ pieces_of c.args.placed.now c.args.at.k o)) (sym c.in-HandlerOf.is) c.handler.ensures

pub returns-in-Ask : goal.returns-in-Ask
returns-in-Ask c = subst (λ (o : Op). OnOk c.ask.result (c.ask.new.out ≡ c.args.out.now ++ pieces_of c.args.placed.now c.args.at.k o)) (sym c.in-Ask.is) c.ask.ensures

pub returns-in-Jump : goal.returns-in-Jump
returns-in-Jump c = subst (λ (o : Op). OnOk c.jump.result (c.jump.new.out ≡ c.args.out.now ++ pieces_of c.args.placed.now c.args.at.k o)) (sym c.in-Jump.is) c.jump.ensures

pub returns-in-Branch : goal.returns-in-Branch
returns-in-Branch c = subst (λ (o : Op). OnOk c.branch-out.result (c.branch-out.new.out ≡ c.args.out.now ++ pieces_of c.args.placed.now c.args.at.k o)) (sym c.in-Branch.is) c.branch-out.ensures

pub returns-in-Return : goal.returns-in-Return
returns-in-Return c = subst (λ (o : Op). OnOk c.give.result (c.give.new.out ≡ c.args.out.now ++ pieces_of c.args.placed.now c.args.at.k o)) (sym c.in-Return.is) c.give.ensures
