-- All that is known where a fiber stands at an op.
use Rattle.std.proofs.Common.{zero, suc, ◌≡◌, ℕ, ◌*◌, ◌%◌, ◌≤◌, List, [], ◌∷◌, length, map, true, false, nat_lt, Some, refl, sym, ap, ◌∙◌, subst, arith, slice_get, ◌==◌}
use Rattle.std.specs.Prelude.{option_map}
use Rattle.std.specs.List.{AllByRecursion}
use Rattle.std.proofs.lemmas.Option.{slice_get-map}
use Rattle.thumb_code.specs.Map.{is_base, stack_at, ram_end}
use Rattle.thumb_code.specs.Step.{fetched}
use Rattle.board_world.specs.Observations.{ByteList}
use Rattle.bank_model.specs.Fibers.{Fiber, Shared}
use Rattle.thumb_layout.specs.declared.pieces.Piece.TheVariants.{Label}
use Rattle.flat_ir.specs.declared.ops.Op.{Op}
use Rattle.flat_ir.specs.declared.ops.FlatCode.{FlatCode}
use Rattle.flat_ir.specs.WellFormed.{IsFunctionAmong}
use Rattle.flat_ir.specs.Liveness.{is_read, is_kept}
use Rattle.register_assign.specs.declared.places.Placed.{Placed}
use Rattle.register_assign.specs.Sound.{place_of}
use Rattle.register_assign.proofs.Laws.{unread_not_live}
use Rattle.flat_meaning.specs.Frames.{FlatFrame}
use Rattle.thumb_emit.specs.Emit.{op_pieces, function_pieces}
use Rattle.thumb_emit.specs.InFlash.{Addresses, callee_at, word_for}
use Rattle.thumb_emit.proofs.Laws.{function_sound, function_words}
use Rattle.placed_frames.proofs.Laws.{At}
use Rattle.emit_simulation.proofs.Laid.{Laid}
use Rattle.emit_simulation.specs.Starts.{start}
use Rattle.emit_simulation.specs.Ties.{IsAt, IsImage, spots}
use Rattle.emit_simulation.proofs.AtOps.{bank_in, InFunction, AtOpOf}
use Rattle.emit_simulation.proofs.Holding.{laid_of}
use Rattle.emit_simulation.proofs.Starts.{op_stands, next_start, later}

pub all_at : {X : Type 0} (P : X → Type 0) (xs : List X) → AllByRecursion P xs → (k : ℕ) (x : X) → slice_get xs k ≡ Some x → P x
all_at P [] h k x e = cc
all_at P (y ∷ ys) h zero x e = let z : y ≡ x = cc in subst P z h.0
all_at P (y ∷ ys) h (suc k) x e = all_at P ys h.1 k x e

pub mapped_at : {A B : Type 0} (f : A → B) (xs : List A) (ys : List B) (k : ℕ) (x : A) → map f xs ≡ ys → slice_get xs k ≡ Some x → slice_get ys k ≡ Some (f x)
mapped_at f xs ys k x e g = ap (λ zs. slice_get zs k) (sym e) ∙ (slice_get-map f xs k ∙ ap (λ o. option_map f o) g)

pub base_fits : (b : ℕ) → b % 4 ≡ 0 → stack_at ≤ b → b ≤ ram_end → is_base b ≡ true
base_fits b e l h =
    let z : (b % 4 == 0) ≡ true = grind arith in
    let y : nat_lt b stack_at ≡ false = grind arith in
    let x : nat_lt ram_end b ≡ false = grind arith in
    rw z (rw y (rw x refl))

module _ (C : FlatCode) (placed : List Placed) (flash : List ℕ) (a : Addresses) (texts : List ByteList) (image : IsImage C placed flash a texts) where
  -- SP and base are where the depths say
  pub at_bank : (p : Placed) (need : ℕ → Type 0) (f : FlatFrame) (callers : List FlatFrame) (base i : ℕ) (c : Fiber) (t : Shared) → IsAt C placed flash a p
      need f callers base i c → At flash c.registers.sp (bank_in flash c t)
  at_bank p need f callers base i c t x =
      let b = x.base_is in let s = x.sp_is in let d = x.deep in
      record { sp_is = omega arith; flash_is = refl; aligned = omega arith; low = omega arith; high = omega arith }

  pub laid_at : (f : ℕ) (p : Placed) (base : ℕ) → slice_get placed f ≡ Some p → base % 4 ≡ 0 → stack_at ≤ base → base ≤ ram_end → Laid (fetched flash base)
      flash (spots C placed flash a f p) (function_pieces p)
  laid_at f p base g e l h =
      let r = image.ready f p g in
      let s = (image.shows).functions f (function_pieces p) (mapped_at function_pieces placed (map function_pieces placed) f p refl g) in
      laid_of flash (image.shows).bytes (a.function f) base (callee_at a) (word_for a) (function_pieces p) (function_sound p r.0) (function_words p r.0 r.1)
      (base_fits base e l h) s.aligned s.inside s.code

  pub function_at : (f : ℕ) (p : Placed) → slice_get placed f ≡ Some p → slice_get C.functions f ≡ Some p.function
  function_at f p g = mapped_at (λ q. q.function) placed C.functions f p image.functions g

  pub in_function : (p : Placed) (need : ℕ → Type 0) (f : FlatFrame) (callers : List FlatFrame) (base i : ℕ) (c : Fiber) (t : Shared) → IsAt C placed flash a p
      need f callers base i c → InFunction C placed flash a p f c t
  in_function p need f callers base i c t x =
      let r = image.ready f.function p x.there in
      let h = at_bank p need f callers base i c t x in
      let k = h.low in
      record {
        function = function_at f.function p x.there;
        formed = (r.0).formed;
        sound = (r.0).sound;
        laid = laid_at f.function p c.base x.there h.aligned (omega arith) h.high;
        at = h;
        inside = ((r.0).sound).within;
      }

  pub at_op : (p : Placed) (need : ℕ → Type 0) (f : FlatFrame) (callers : List FlatFrame) (base i : ℕ) (op : Op) (c : Fiber) (t : Shared)
      → slice_get p.function.ops f.place ≡ Some op → IsAt C placed flash a p need f callers base i c → AtOpOf C placed flash a p f op c t
  at_op p need f callers base i op c t e x =
      let w = in_function p need f callers base i c t x in
      let among = all_at (IsFunctionAmong (length C.functions) (length C.classes)) C.functions (image.formed).functions f.function p.function w.function in
      let st = op_stands p f.place op e in
      let s = start p.function (place_of p.places) f.place in
      record {
        within_function = w;
        op_within = all_at _ p.function.ops (among.alone).ops f.place op e;
        parts = all_at _ p.function.ops among.names f.place op e;
        label = ap (slice_get (function_pieces p)) (omega arith) ∙ st 0 (omega arith);
        stands = later (function_pieces p) s (Label (3 * f.place)) (op_pieces p.function (place_of p.places) f.place op) st;
        next = next_start p f.place op e;
        reads_live = λ u h. is_read f.place op e h;
        kept_live = λ u k g l n. is_kept f.place k op e n g l;
        apart = λ to u k g m l lt lu n q. n (w.sound.written f.place to u op e g (op, k, e, m, l) lt lu q);
        unread = λ to k u m g l. unread_not_live p.function f.place to k op u e m g l;
      }
