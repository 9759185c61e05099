-- Reads and writes of globals.
use Rattle.std.proofs.Common.{◌≡◌, ℕ, ◌+◌, ◌*◌, ◌<◌, List, [], ◌∷◌, Option, Some, None, refl, sym, ap, ◌∙◌, arith, slice_get, slice_set, slice_index, get_or-set_same, get_or-set_other}
use Rattle.std.proofs.lemmas.List.{length-set}
use Rattle.thumb_code.specs.declared.instructions.Instr.TheVariants.{LdrImm, StrImm}
use Rattle.board_world.specs.Observations.{ByteList}
use Rattle.board_world.specs.Kinds.{Goes}
use Rattle.board_world.specs.Sound.{NoFault}
use Rattle.bank_model.specs.Fibers.{Fiber, Shared}
use Rattle.thumb_layout.specs.declared.pieces.Piece.TheVariants.{Plain}
use Rattle.flat_ir.specs.declared.ops.Op.TheVariants.{GlobalGet, GlobalSet}
use Rattle.flat_ir.specs.declared.ops.FlatCode.{FlatCode}
use Rattle.flat_ir.specs.WellFormed.{temporaries}
use Rattle.flat_ir.specs.Liveness.{IsLiveAt}
use Rattle.register_assign.specs.declared.places.Placed.{Placed}
use Rattle.register_assign.specs.Sound.{place_of}
use Rattle.register_assign.specs.Unread.{is_unread}
use Rattle.sts_syntax.specs.TypeRules.{entry}
use Rattle.sts_meaning.specs.Values.{Value, Gives, then_gives, there}
use Rattle.sts_meaning.specs.Frames.{after}
use Rattle.sts_meaning.specs.Heaps.{FlatHeap}
use Rattle.flat_meaning.specs.Frames.{FlatFrame, Stands, given}
use Rattle.thumb_emit.specs.Emit.{finds_global}
use Rattle.thumb_emit.specs.Bounds.{op_instructions}
use Rattle.thumb_emit.specs.InFlash.{Addresses}
use Rattle.arena_values.proofs.Laws.{sees_global, changes_global}
use Rattle.placed_frames.proofs.Laws.{View, with_low, InGlobals, Get, Put, ToGlobals}
use Rattle.thumb_emit.proofs.Laws.{joined_after}
use Rattle.emit_simulation.proofs.Laid.{loaded_flags, OfInstr, OfNumber}
use Rattle.emit_simulation.specs.Starts.{start}
use Rattle.emit_simulation.specs.Ties.{IsAt, IsShared, IsImage, IsText, IsCode}
use Rattle.emit_simulation.proofs.AtOps.{view_in}
use Rattle.emit_simulation.proofs.OwedOps.{MakesOp}
use Rattle.emit_simulation.proofs.Placed.{store_low, result_set, not_scratch, brought, brought_word, brought_store, brought_length, made_small}
use Rattle.thumb_emit.specs.Frame.{register_of, result_in}
use Rattle.emit_simulation.proofs.Meanings.{small}
use Rattle.emit_simulation.proofs.Turns.{Owed}
use Rattle.emit_simulation.proofs.Ops.{here, word, word_means, word_small, brings_word, straight_gives, straight_goes}

-- where a global stands
abbrev global_at : ℕ → ℕ
global_at slot = 0x20000000 + 4 * slot

module _ (C : FlatCode) (placed : List Placed) (flash : List ℕ) (a : Addresses) (texts : List ByteList) (image : IsImage C placed flash a texts) where
  module _ (p : Placed) (f : FlatFrame) (callers : List FlatFrame) (base : ℕ) (c : Fiber) (used : ℕ) (h : FlatHeap) (t : Shared) (slot : ℕ) where
    abbrev Standing : Type 0
    Standing = IsAt C placed flash a p (λ u. IsLiveAt p.function.ops u f.place) f callers base (start p.function (place_of p.places) f.place) c

    gets : (to : ℕ) → slice_get p.function.ops f.place ≡ Some (GlobalGet to slot) → Standing → IsShared C placed flash a used h t → (o : Option Value)
        → entry h.globals slot ≡ o
        → NoFault (after (there o) (λ v. Goes (Stands (given to v f) callers base) h)) → Owed C placed flash a texts (op_instructions (GlobalGet to slot)) used
        h t (after (there o) (λ v. Goes (Stands (given to v f) callers base) h)) c t
    gets to e x sh None q nf = absurd nf
    gets to e x sh (Some g) q nf =
        let op = GlobalGet to slot in
        let k = here C placed flash a texts image p f callers base c used h t op e x sh in
        let s = sees_global (IsText C placed flash a) (IsCode C placed flash a) a.class h used t.globals t.arena sh.1 slot g q in
        let l = s.0 in
        let v = view_in c t in
        let ad = global_at slot in
        let w = slice_index t.globals slot in
        let rg = x.registers in
        let fw = k.within_function in
        let lt : to < temporaries p.function = ((k.op_within).names).0 in
        let d = result_in (is_unread p.function f.place) (place_of p.places to) in
        let u1 : View = record v { low = slice_set v.low 1 ad; flags = loaded_flags v.flags ad } in
        let u2 = with_low d w u1 in
        let r1 : slice_index u1.low 1 ≡ ad = get_or-set_same v.low 1 ad 0 (omega arith) in
        let n1 = length-set v.low 1 ad ∙ rg in
        straight_gives C placed flash a texts image p f callers base c used h t op e x sh to g w u2 (finds_global slot ∷ (Plain (LdrImm d 1 0) ∷ [])) refl (
          u1,
          OfNumber 1 ad v,
          (
            u2,
            OfInstr (LdrImm d 1 0) u1 u2 refl (Get d 1 0 w u1 (InGlobals slot l (ap (λ n. n + 0 * 4) r1 ∙ omega arith) refl)
                (small C placed flash a texts image g w s.1)),
            refl,
          ),
        )
        (omega arith) refl ((0, omega arith, refl), joined_after p.function f.place op e (λ when. refl)) lt
        (result_set d w v u1 u2 (made_small p.function (is_unread p.function f.place) (place_of p.places to) (fw.inside to lt)) (store_low 1 ad v (omega arith)) n1 refl refl)
        s.1 refl refl

    sets : (from : ℕ) → slice_get p.function.ops f.place ≡ Some (GlobalSet slot from) → Standing → IsShared C placed flash a used h t → (o : Option Value)
        → entry h.globals slot ≡ o
        → NoFault (after (then_gives (there o) (λ old. Gives (record h { globals = slice_set h.globals slot (f.temps from) })))
        (λ h'. Goes (Stands (record { function = f.function; place = f.place + 1; temps = f.temps }) callers base) h'))
        → Owed C placed flash a texts (op_instructions (GlobalSet slot from)) used h t
        (after (then_gives (there o) (λ old. Gives (record h { globals = slice_set h.globals slot (f.temps from) })))
        (λ h'. Goes (Stands (record { function = f.function; place = f.place + 1; temps = f.temps }) callers base) h')) c t
    sets from e x sh None q nf = absurd nf
    sets from e x sh (Some old) q nf =
        let op = GlobalSet slot from in
        let k = here C placed flash a texts image p f callers base c used h t op e x sh in
        let lf : from < temporaries p.function = ((k.op_within).names).0 in
        let h' : FlatHeap = record h { globals = slice_set h.globals slot (f.temps from) } in
        let s = changes_global (IsText C placed flash a) (IsCode C placed flash a) a.class h used t.globals t.arena sh.1 slot (f.temps from) h'
        (ap (λ o. then_gives (there o) (λ old. Gives h')) q) in
        let l = s.0 in
        let v = view_in c t in
        let ad = global_at slot in
        let w = word C placed flash a texts image p f callers base c used h t op e x sh from in
        let rg = x.registers in
        let q' = place_of p.places from in
        let i' = (k.within_function).inside from lf in
        let r = register_of 0 q' in
        let u1 = brought 0 q' w v in
        let u2 : View = record u1 { low = slice_set u1.low 1 ad; flags = loaded_flags v.flags ad } in
        let u3 : View = record u2 { globals = slice_set t.globals slot w } in
        let n1 = brought_length q' 0 w v.low ∙ rg in
        let r1 : slice_index u2.low 1 ≡ ad = get_or-set_same u1.low 1 ad 0 (omega arith) in
        let r0 : slice_index u2.low r ≡ w = get_or-set_other u1.low 1 r ad 0 (λ z. not_scratch p.function q' 0 1 (omega arith) (λ z. omega arith) i' (sym z))
        ∙ brought_word p.function q' 0 w v (omega arith) i' rg refl in
        let lw = word_small C placed flash a texts image p f callers base c used h t op e x sh from lf (0, omega arith, refl) in
        let m = word_means C placed flash a texts image p f callers base c used h t op e x sh from lf (0, omega arith, refl) in
        straight_goes C placed flash a texts image p f callers base c used h t op e x sh h' u3 (
          u1,
          brings_word C placed flash a texts image p f callers base c used h t op e x sh from 0 v lf (0, omega arith, refl) (omega arith) refl,
          (
            u2,
            OfNumber 1 ad u1,
            (
              u3,
              OfInstr (StrImm r 1 0) u2 u3 refl (Put r 1 0 w u2 u3 r0 lw (ToGlobals slot l (ap (λ n. n + 0 * 4) r1 ∙ omega arith))),
              refl,
            ),
          ),
        )
        (omega arith) refl ((0, omega arith, refl), joined_after p.function f.place op e (λ when. refl)) (store_low 1 ad u1 (omega arith) ∙ brought_store q' 0 w v (omega arith)) (length-set u1.low 1 ad ∙ n1)
        (refl, s.1 w m)

  pub global_get_makes : (to slot : ℕ) → MakesOp C placed flash a texts (GlobalGet to slot)
  global_get_makes to slot p f callers base c used h t e x sh nf = gets p f callers base c used h t slot to e x sh (entry h.globals slot) refl nf

  pub global_set_makes : (slot from : ℕ) → MakesOp C placed flash a texts (GlobalSet slot from)
  global_set_makes slot from p f callers base c used h t e x sh nf = sets p f callers base c used h t slot from e x sh (entry h.globals slot) refl nf
