use Rattle.std.proofs.Common.{◌≡◌, ◌++◌, sym, subst}
use Rattle.std.specs.Prelude.{OnOk}
use Rattle.flat_ir.specs.declared.ops.Op.{Op}
use Rattle.thumb_emit.specs.Ready.{pieces_of}
use Rattle.thumb_emit.proofs.emission.put_op.Goals as goal

pub returns-in-Copy : goal.returns-in-Copy
returns-in-Copy c = subst (λ (o : Op). OnOk c.copy.result (c.copy.new.out ≡ c.args.out.now ++ pieces_of c.args.placed.now c.args.at.k o)) (sym c.in-Copy.is) c.copy.ensures

pub returns-in-Unary : goal.returns-in-Unary
returns-in-Unary c = subst (λ (o : Op). OnOk c.unary.result (c.unary.new.out ≡ c.args.out.now ++ pieces_of c.args.placed.now c.args.at.k o)) (sym c.in-Unary.is) c.unary.ensures

pub returns-in-Binary : goal.returns-in-Binary
returns-in-Binary c = subst (λ (o : Op). OnOk c.binary.result (c.binary.new.out ≡ c.args.out.now ++ pieces_of c.args.placed.now c.args.at.k o)) (sym c.in-Binary.is) c.binary.ensures

pub returns-in-GlobalGet : goal.returns-in-GlobalGet
returns-in-GlobalGet c = subst (λ (o : Op). OnOk c.get_global.result (c.get_global.new.out ≡ c.args.out.now ++ pieces_of c.args.placed.now c.args.at.k o)) (sym c.in-GlobalGet.is) c.get_global.ensures

pub returns-in-GlobalSet : goal.returns-in-GlobalSet
returns-in-GlobalSet c = subst (λ (o : Op). OnOk c.set_global.result (c.set_global.new.out ≡ c.args.out.now ++ pieces_of c.args.placed.now c.args.at.k o)) (sym c.in-GlobalSet.is) c.set_global.ensures

pub returns-in-FieldGet : goal.returns-in-FieldGet
returns-in-FieldGet c = subst (λ (o : Op). OnOk c.get_field.result (c.get_field.new.out ≡ c.args.out.now ++ pieces_of c.args.placed.now c.args.at.k o)) (sym c.in-FieldGet.is) c.get_field.ensures

pub returns-in-FieldSet : goal.returns-in-FieldSet
returns-in-FieldSet c = subst (λ (o : Op). OnOk c.set_field.result (c.set_field.new.out ≡ c.args.out.now ++ pieces_of c.args.placed.now c.args.at.k o)) (sym c.in-FieldSet.is) c.set_field.ensures

pub returns-in-ItemGet : goal.returns-in-ItemGet
returns-in-ItemGet c = subst (λ (o : Op). OnOk c.get_item.result (c.get_item.new.out ≡ c.args.out.now ++ pieces_of c.args.placed.now c.args.at.k o)) (sym c.in-ItemGet.is) c.get_item.ensures

pub returns-in-ItemSet : goal.returns-in-ItemSet
returns-in-ItemSet c = subst (λ (o : Op). OnOk c.set_item.result (c.set_item.new.out ≡ c.args.out.now ++ pieces_of c.args.placed.now c.args.at.k o)) (sym c.in-ItemSet.is) c.set_item.ensures

pub returns-in-Length : goal.returns-in-Length
returns-in-Length c = subst (λ (o : Op). OnOk c.length.result (c.length.new.out ≡ c.args.out.now ++ pieces_of c.args.placed.now c.args.at.k o)) (sym c.in-Length.is) c.length.ensures

pub returns-in-Pop : goal.returns-in-Pop
returns-in-Pop c = subst (λ (o : Op). OnOk c.pop.result (c.pop.new.out ≡ c.args.out.now ++ pieces_of c.args.placed.now c.args.at.k o)) (sym c.in-Pop.is) c.pop.ensures

pub returns-in-TextOf : goal.returns-in-TextOf
returns-in-TextOf c = subst (λ (o : Op). OnOk c.text.result (c.text.new.out ≡ c.args.out.now ++ pieces_of c.args.placed.now c.args.at.k o)) (sym c.in-TextOf.is) c.text.ensures

pub returns-in-MakeObject : goal.returns-in-MakeObject
returns-in-MakeObject c = subst (λ (o : Op). OnOk c.make_object.result (c.make_object.new.out ≡ c.args.out.now ++ pieces_of c.args.placed.now c.args.at.k o)) (sym c.in-MakeObject.is) c.make_object.ensures

pub returns-in-MakeArray : goal.returns-in-MakeArray
returns-in-MakeArray c = subst (λ (o : Op). OnOk c.make_array.result (c.make_array.new.out ≡ c.args.out.now ++ pieces_of c.args.placed.now c.args.at.k o)) (sym c.in-MakeArray.is) c.make_array.ensures

pub returns-in_default : goal.returns-in_default
returns-in_default c = c.put_going.ensures
