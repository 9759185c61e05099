-- Ops that make a value of nothing or of one other: numbers, copies, texts, functions; and globals.
use Rattle.std.proofs.Common.{ℕ, ◌+◌, ◌<◌, ◌^◌, List, [], ◌∷◌, refl, sym, arith, slice_set}
use Rattle.std.specs.Prelude.{ℤ, FitsSigned}
use Rattle.std.specs.Int.{cast_unsigned, w32}
use Rattle.std.proofs.Math.Facts.{Fits-of_z}
use Rattle.std.proofs.lemmas.Int.{to_z-of_z}
use Rattle.board_world.specs.Observations.{ByteList}
use Rattle.thumb_layout.specs.declared.pieces.What.TheVariants.{Function as FunctionOf, Text as TextAt}
use Rattle.thumb_layout.specs.declared.pieces.Piece.TheVariants.{Number, Address}
use Rattle.flat_ir.specs.declared.ops.Op.TheVariants.{Const, Copy, TextOf, HandlerOf}
use Rattle.flat_ir.specs.declared.ops.FlatCode.{FlatCode}
use Rattle.flat_ir.specs.Liveness.{IsLiveAt}
use Rattle.flat_ir.specs.WellFormed.{temporaries}
use Rattle.register_assign.specs.declared.places.Placed.{Placed}
use Rattle.register_assign.specs.Sound.{place_of}
use Rattle.register_assign.specs.Unread.{is_unread}
use Rattle.sts_meaning.specs.Values.{Whole, Text, Code}
use Rattle.thumb_emit.specs.Emit.{function_pieces}
use Rattle.thumb_emit.specs.Frame.{result_in}
use Rattle.thumb_emit.specs.Ready.{HasNumber}
use Rattle.thumb_emit.specs.InFlash.{Addresses}
use Rattle.thumb_emit.proofs.Laws.{text_named}
use Rattle.placed_frames.proofs.Laws.{View, with_low}
use Rattle.thumb_emit.proofs.Laws.{joined_after}
use Rattle.emit_simulation.proofs.Laid.{loaded_flags, OfNumber, OfAddress}
use Rattle.emit_simulation.specs.Ties.{IsImage, Means, bodies, spots, place_in, return_to, frames_of}
use Rattle.emit_simulation.proofs.AtOps.{view_in}
use Rattle.emit_simulation.proofs.OwedOps.{MakesOp}
use Rattle.emit_simulation.proofs.Placed.{result_set, copied, made_small}
use Rattle.emit_simulation.proofs.Context.{all_at, mapped_at}
use Rattle.emit_simulation.proofs.Meanings.{small}
use Rattle.emit_simulation.proofs.Straight.{at_room}
use Rattle.emit_simulation.proofs.Ops.{here, word, word_means, word_small, straight_gives, straight_puts}

-- a number's word
number_word : (value : ℤ) → FitsSigned w32 value → cast_unsigned w32 value < 2 ^ 32
number_word value h = let a = Fits-of_z {w = w32} {z = value} h in a.fits

module _ (C : FlatCode) (placed : List Placed) (flash : List ℕ) (a : Addresses) (texts : List ByteList) (image : IsImage C placed flash a texts) where
  -- A NUMBER
  pub const_makes : (to : ℕ) (value : ℤ) → MakesOp C placed flash a texts (Const to value)
  const_makes to value p f callers base c used h t e x sh nf =
      let k = here C placed flash a texts image p f callers base c used h t (Const to value) e x sh in
      let fits = all_at HasNumber p.function.ops (image.ready f.function p x.there).1 f.place (Const to value) e in
      let v = view_in c t in
      let w = cast_unsigned w32 value in
      let lw = number_word value fits in
      let rg = x.registers in
      let lt : to < temporaries p.function = ((k.op_within).names).0 in
      let r = result_in (is_unread p.function f.place) (place_of p.places to) in
      let u : View = record v { low = slice_set v.low r w; flags = loaded_flags v.flags w } in
      straight_gives C placed flash a texts image p f callers base c used h t (Const to value) e x sh to (Whole value) w u (Number r w ∷ []) refl
      (u, OfNumber r w v, refl) (omega arith) refl ((0, omega arith, refl), joined_after p.function f.place (Const to value) e (λ when. refl)) lt
      (result_set r w v v u (made_small p.function (is_unread p.function f.place) (place_of p.places to) ((k.within_function).inside to lt)) refl rg refl refl)
      (sym (to_z-of_z w32 value fits), lw) refl refl

  -- A COPY
  pub copy_makes : (to from : ℕ) → MakesOp C placed flash a texts (Copy to from)
  copy_makes to from p f callers base c used h t e x sh nf =
      let k = here C placed flash a texts image p f callers base c used h t (Copy to from) e x sh in
      let v = view_in c t in
      let lf : from < temporaries p.function = (((k.op_within).names).1).0 in
      let w = word C placed flash a texts image p f callers base c used h t (Copy to from) e x sh from in
      let rg = x.registers in
      let fw = k.within_function in
      let lt : to < temporaries p.function = ((k.op_within).names).0 in
      let lw = word_small C placed flash a texts image p f callers base c used h t (Copy to from) e x sh from lf (0, omega arith, refl) in
      let room = at_room flash (spots C placed flash a f.function p) (Means C placed flash a) (small C placed flash a texts image) C.functions
      (place_in C placed flash a) (return_to C placed flash a) p.function (place_of p.places) fw.inside (λ n. IsLiveAt p.function.ops n f.place) f.temps
      (frames_of callers) v x.running in
      let y = copied flash (spots C placed flash a f.function p) p.function (is_unread p.function f.place) (place_of p.places to) (place_of p.places from) w v (fw.inside to lt) (fw.inside from lf)
      room rg refl lw in
      straight_puts C placed flash a texts image p f callers base c used h t (Copy to from) e x sh to (f.temps from) w y.seen y.flow y.some refl
      ((0, omega arith, refl), joined_after p.function f.place (Copy to from) e (λ when. refl)) lt y.store y.low
      (word_means C placed flash a texts image p f callers base c used h t (Copy to from) e x sh from lf (0, omega arith, refl)) y.globals y.arena

  -- A TEXT
  pub text_makes : (to text : ℕ) → MakesOp C placed flash a texts (TextOf to text)
  text_makes to text p f callers base c used h t e x sh nf =
      let k = here C placed flash a texts image p f callers base c used h t (TextOf to text) e x sh in
      let v = view_in c t in
      let w = a.text text in
      let rg = x.registers in
      let lt : to < temporaries p.function = ((k.op_within).names).0 in
      let r = result_in (is_unread p.function f.place) (place_of p.places to) in
      straight_gives C placed flash a texts image p f callers base c used h t (TextOf to text) e x sh to (Text text) w (with_low r w v)
      (Address r (TextAt text) ∷ []) refl
      (with_low r w v, OfAddress r (TextAt text) v, refl) (omega arith) refl ((0, omega arith, refl), joined_after p.function f.place (TextOf to text) e (λ when. refl)) lt
      (result_set r w v v (with_low r w v) (made_small p.function (is_unread p.function f.place) (place_of p.places to) ((k.within_function).inside to lt)) refl rg refl refl) (
        record {
          function = f.function;
          body = function_pieces p;
          there = mapped_at function_pieces placed (bodies C placed flash a) f.function p refl x.there;
          among = text_named p f.place to text e;
        },
        refl,
      ) refl refl

  -- A FUNCTION
  pub handler_makes : (to g : ℕ) → MakesOp C placed flash a texts (HandlerOf to g)
  handler_makes to g p f callers base c used h t e x sh nf =
      let k = here C placed flash a texts image p f callers base c used h t (HandlerOf to g) e x sh in
      let v = view_in c t in
      let w = a.function g + 1 in
      let rg = x.registers in
      let lt : to < temporaries p.function = ((k.op_within).names).0 in
      let r = result_in (is_unread p.function f.place) (place_of p.places to) in
      straight_gives C placed flash a texts image p f callers base c used h t (HandlerOf to g) e x sh to (Code g) w (with_low r w v)
      (Address r (FunctionOf g) ∷ []) refl
      (with_low r w v, OfAddress r (FunctionOf g) v, refl) (omega arith) refl ((0, omega arith, refl), joined_after p.function f.place (HandlerOf to g) e (λ when. refl)) lt
      (result_set r w v v (with_low r w v) (made_small p.function (is_unread p.function f.place) (place_of p.places to) ((k.within_function).inside to lt)) refl rg refl refl)
      (k.parts, refl) refl refl
