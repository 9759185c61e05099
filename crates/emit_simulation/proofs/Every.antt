-- Every op makes its turn.
use Rattle.std.proofs.Common.{ℕ, List}
use Rattle.board_world.specs.Observations.{ByteList}
use Rattle.flat_ir.specs.declared.ops.Op.{Op}
use Rattle.flat_ir.specs.declared.ops.Op.TheVariants.{Const, Copy, Unary, Binary, GlobalGet, GlobalSet, FieldGet, FieldSet, ItemGet, ItemSet, Length, Pop, TextOf, MakeObject, MakeArray, Call, CallSlot, HandlerOf, Ask, Jump, Branch, Return}
use Rattle.flat_ir.specs.declared.ops.FlatCode.{FlatCode}
use Rattle.register_assign.specs.declared.places.Placed.{Placed}
use Rattle.thumb_emit.specs.InFlash.{Addresses}
use Rattle.emit_simulation.specs.Ties.{IsImage}
use Rattle.emit_simulation.proofs.OwedOps.{MakesOp, MakesAlone}
use Rattle.emit_simulation.proofs.Simple.{const_makes, copy_makes, text_makes, handler_makes}
use Rattle.emit_simulation.proofs.Globals.{global_get_makes, global_set_makes}
use Rattle.emit_simulation.proofs.Control.{jump_makes, branch_makes}
use Rattle.emit_simulation.proofs.Numbers.{unary_makes, binary_makes}
use Rattle.emit_simulation.proofs.Fields.{field_get_makes, field_set_makes}
use Rattle.emit_simulation.proofs.Items.{item_get_makes, item_set_makes, length_makes}
use Rattle.emit_simulation.proofs.Popping.{pop_makes}
use Rattle.emit_simulation.proofs.Making.{object_makes, array_makes}
use Rattle.emit_simulation.proofs.CallTurns.{call_makes}
use Rattle.emit_simulation.proofs.Slots.{slot_makes}
use Rattle.emit_simulation.proofs.Returns.{return_makes}

module _ (C : FlatCode) (placed : List Placed) (flash : List ℕ) (a : Addresses) (texts : List ByteList) (image : IsImage C placed flash a texts)
    (ask_makes : (to service : ℕ) (args : List ℕ) → MakesOp C placed flash a texts (Ask to service args)) where
  anywhere : (op : Op) → MakesOp C placed flash a texts op → MakesAlone C placed flash a texts op
  anywhere op makes p f callers base c used h t alone = makes p f callers base c used h t

  pub every : (op : Op) → MakesAlone C placed flash a texts op
  every (Const to value) = anywhere (Const to value) (const_makes C placed flash a texts image to value)
  every (Copy to from) = anywhere (Copy to from) (copy_makes C placed flash a texts image to from)
  every (Unary to op from) = anywhere (Unary to op from) (unary_makes C placed flash a texts image to op from)
  every (Binary to op left right) = anywhere (Binary to op left right) (binary_makes C placed flash a texts image to op left right)
  every (GlobalGet to slot) = anywhere (GlobalGet to slot) (global_get_makes C placed flash a texts image to slot)
  every (GlobalSet slot from) = anywhere (GlobalSet slot from) (global_set_makes C placed flash a texts image slot from)
  every (FieldGet to object field) = anywhere (FieldGet to object field) (field_get_makes C placed flash a texts image to object field)
  every (FieldSet object field from) = anywhere (FieldSet object field from) (field_set_makes C placed flash a texts image object field from)
  every (ItemGet to array index) = anywhere (ItemGet to array index) (item_get_makes C placed flash a texts image to array index)
  every (ItemSet array index from) = anywhere (ItemSet array index from) (item_set_makes C placed flash a texts image array index from)
  every (Length to array) = anywhere (Length to array) (length_makes C placed flash a texts image to array)
  every (Pop to array) = anywhere (Pop to array) (pop_makes C placed flash a texts image to array)
  every (TextOf to text) = anywhere (TextOf to text) (text_makes C placed flash a texts image to text)
  every (MakeObject to class) = anywhere (MakeObject to class) (object_makes C placed flash a texts image to class)
  every (MakeArray to room) = anywhere (MakeArray to room) (array_makes C placed flash a texts image to room)
  every (Call to function args) = anywhere (Call to function args) (call_makes C placed flash a texts image to function args)
  every (CallSlot to slot args) = anywhere (CallSlot to slot args) (slot_makes C placed flash a texts image to slot args)
  every (HandlerOf to function) = anywhere (HandlerOf to function) (handler_makes C placed flash a texts image to function)
  every (Ask to service args) = anywhere (Ask to service args) (ask_makes to service args)
  every (Jump target) = anywhere (Jump target) (jump_makes C placed flash a texts image target)
  every (Branch when target) = branch_makes C placed flash a texts image when target
  every (Return from) = anywhere (Return from) (return_makes C placed flash a texts image from)
