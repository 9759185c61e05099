-- Instructions that touch nothing that is shared take the same steps whatever that is: what may still be owed behind a service that lets others run.
use Rattle.std.proofs.Common.{◌≡◌, ℕ, ◌+◌, ◌%◌, ◌≤◌, List, length, map, Some, refl, ap, ◌∙◌, arith, slice_get}
use Rattle.thumb_code.specs.declared.instructions.Instr.{Instr}
use Rattle.thumb_code.specs.declared.register_file.Registers.{Registers}
use Rattle.thumb_code.specs.Effect.{go}
use Rattle.thumb_code.specs.Map.{stack_at, ram_end}
use Rattle.thumb_code.specs.Step.{Fetched, Found, fetched, stepped_at as placed_step, ran}
use Rattle.board_world.specs.Observations.{ByteList}
use Rattle.bank_model.specs.Bank.{Bank}
use Rattle.thumb_layout.specs.declared.pieces.Piece.{Piece}
use Rattle.thumb_layout.specs.declared.pieces.Piece.TheVariants.{Plain}
use Rattle.thumb_layout.specs.Pieces.{Places}
use Rattle.thumb_layout.specs.Holds.{Holds, Enters, AtOnce, Over, Silent}
use Rattle.thumb_layout.proofs.Laws.{code_holds, silent_add, silent_one}
use Rattle.flat_ir.specs.declared.ops.FlatCode.{FlatCode}
use Rattle.register_assign.specs.declared.places.Placed.{Placed}
use Rattle.thumb_emit.specs.Emit.{function_pieces}
use Rattle.thumb_emit.specs.InFlash.{Addresses, callee_at, word_for}
use Rattle.thumb_emit.proofs.Laws.{function_sound, function_words}
use Rattle.placed_frames.proofs.Laws.{View, Alters, registers_of, bank_of, At, does, quiet_does, at_view}
use Rattle.emit_simulation.proofs.Laid.{over, Flows, OfInstr, OfLabel, OfNumber, OfAddress}
use Rattle.emit_simulation.specs.Ties.{IsImage, spots}
use Rattle.emit_simulation.proofs.Context.{base_fits, mapped_at}

-- what a plain piece does
abbrev IsDoes : List ℕ → Piece → View → View → Type 0
IsDoes flash (Plain y) v v' = Alters flash y v v'
IsDoes flash _ v v' = Unit {0}

does_any : (flash : List ℕ) (p : Places) (x : Piece) (v v' : View) → Flows flash p x v v' → IsDoes flash x v v'
does_any flash p x v v' (OfInstr y u u' o d) = d
does_any flash p x v v' (OfLabel l u) = tt
does_any flash p x v v' (OfNumber rd n u) = tt
does_any flash p x v v' (OfAddress rd w u) = tt

pub does_of : (flash : List ℕ) (p : Places) (y : Instr) (v v' : View) → Flows flash p (Plain y) v v' → Alters flash y v v'
does_of flash p y v v' f = does_any flash p (Plain y) v v' f

module _ (flash : List ℕ) (base : ℕ) where
  abbrev fetch : ℕ → Fetched
  fetch = fetched flash base

  -- an instruction that stands at an address
  once : (at next : ℕ) (y : Instr) (v v' : View) (s : Registers) (b : Bank) (free : List ℕ) → fetch at ≡ Found y next → At flash s.sp b
      → length v.words ≡ length b.words → Alters flash y v v'
      → Silent over fetch 1 (registers_of v at s) (bank_of v b, free) (registers_of v' next s) (bank_of v' b, free)
  once at next y v v' s b free e h l d =
      let r = registers_of v at s in
      let t : Bank × List ℕ = (bank_of v b, free) in
      silent_one over fetch r t (registers_of v' next s) (bank_of v' b, free) (ap (ran (over r t) r) e ∙ ap (placed_step at)
      (does flash y v v' d next at s b free h l).0)

  -- a plain piece takes as many steps, whatever the memory is
  pub plain_steps : (p : Places) (pieces : List Piece) → Holds fetch flash p pieces → (i : ℕ) (y : Instr) → slice_get pieces i ≡ Some (Plain y)
      → (k : ℕ) × (k ≤ 1) × ((v v' : View) (s : Registers) (b : Bank) (free : List ℕ) → At flash s.sp b → length v.words ≡ length b.words → Alters flash y v v'
      → Silent over fetch (k + 1) (registers_of v (p.at i) s) (bank_of v b, free) (registers_of v' (p.behind i) s) (bank_of v' b, free))
  plain_steps p pieces hold i y g = let d = hold.each i (Plain y) g in by d.0 d.1 d.2
    where
      by : (body : ℕ) → Enters fetch (p.at i) body → fetch body ≡ Found y (p.behind i)
          → (k : ℕ) × (k ≤ 1) × ((v v' : View) (s : Registers) (b : Bank) (free : List ℕ) → At flash s.sp b → length v.words ≡ length b.words
          → Alters flash y v v'
          → Silent over fetch (k + 1) (registers_of v (p.at i) s) (bank_of v b, free) (registers_of v' (p.behind i) s) (bank_of v' b, free))
      by body (AtOnce e) st = (0, omega arith, λ v v' s b free h l f. once (p.at i) (p.behind i) y v v' s b free (ap fetch e ∙ st) h l f)
      by body (Over o n at mv) st = (
        1,
        omega arith,
        λ v v' s b free h l f. (
            let r = registers_of v (p.at i) s in
            let m = registers_of v body s in
            let t : Bank × List ℕ = (bank_of v b, free) in
            let q = quiet_does flash (bank_of v b) free m (at_view flash s.sp v b l h) in
            let first : Silent over fetch 1 r t m t
            = silent_one over fetch r t m t (ap (ran (over r t) r) at ∙ ap (placed_step (p.at i)) (ap (λ to. over r t (go to r)) mv ∙ q)) in
            silent_add over fetch 1 1 r t m t (registers_of v' (p.behind i) s) (bank_of v' b, free) first (once body (p.behind i) y v v' s b free st h l f)),
      )

module _ (C : FlatCode) (placed : List Placed) (flash : List ℕ) (a : Addresses) (texts : List ByteList) (image : IsImage C placed flash a texts) where
  pub holds_at : (f : ℕ) (p : Placed) (base : ℕ) → slice_get placed f ≡ Some p → base % 4 ≡ 0 → stack_at ≤ base → base ≤ ram_end
      → Holds (fetched flash base) flash (spots C placed flash a f p) (function_pieces p)
  holds_at f p base g e l h =
      let r = image.ready f p g in
      let s = (image.shows).functions f (function_pieces p) (mapped_at function_pieces placed (map function_pieces placed) f p refl g) in
      code_holds flash (a.function f) base (callee_at a) (word_for a) (function_pieces p) (function_sound p r.0) (function_words p r.0 r.1)
      (base_fits base e l h) s.aligned s.inside s.code
