-- Calls of the division routine.
use Rattle.std.proofs.Common.{◌≡◌, ℕ, ◌+◌, ◌-◌, ◌%◌, ◌<◌, ◌^◌, List, [], ◌∷◌, length, true, Some, refl, sym, ap, ◌∙◌, subst, arith, slice_get, slice_index, ◌==◌}
use Rattle.std.specs.Int.{cast_signed, cast_unsigned, w32}
use Rattle.thumb_code.specs.declared.register_file.Registers.{Registers}
use Rattle.thumb_code.specs.RegisterFile.{word, is_odd}
use Rattle.thumb_code.specs.Map.{is_base}
use Rattle.thumb_code.specs.Step.{fetched}
use Rattle.bank_model.specs.Bank.{Bank}
use Rattle.bank_model.specs.AllServices.{quotient, remainder}
use Rattle.thumb_layout.specs.declared.pieces.Piece.{Piece}
use Rattle.thumb_layout.specs.declared.pieces.Piece.TheVariants.{CallTo}
use Rattle.thumb_layout.specs.Pieces.{Places}
use Rattle.thumb_layout.specs.Holds.{cost}
use Rattle.thumb_layout.proofs.Laws.{reaches_add, ComesSilently}
use Rattle.thumb_divide.specs.Routine.{HasRoutine, most_instructions}
use Rattle.thumb_divide.proofs.Laws.{divides_on_a_bank, within_reaches}
use Rattle.flat_ir.specs.declared.ops.Function.{Function}
use Rattle.thumb_emit.specs.Frame.{carries}
use Rattle.thumb_emit.specs.Emit.{division, divides}
use Rattle.thumb_emit.specs.Bounds.{total_cost}
use Rattle.placed_frames.specs.Places.{Store}
use Rattle.placed_frames.proofs.Laws.{View, registers_of, bank_of, At, four, at_view, quiet_does}
use Rattle.emit_simulation.proofs.Laid.{Fm, over, Laid, AllFlow, Comes, store_of, step_of, steps_of}
use Rattle.emit_simulation.proofs.Flowing.{each_goes, flows, flows_one, then}
use Rattle.emit_simulation.proofs.Starts.{first_of}
use Rattle.emit_simulation.proofs.Placed.{moved, moves_flows, moved_word, moved_other, moved_length, same_kept}
use Rattle.emit_simulation.proofs.Words.{Leaves, moves_takes}

odd_behind : (a : ℕ) → a % 2 ≡ 0 → ((a + 1) % 2 == 1) ≡ true
odd_behind a e = grind arith

module _ (flash : List ℕ) (base : ℕ) (p : Places) (pieces : List Piece) (laid : Laid (fetched flash base) flash p pieces) (b : Bank) (free : List ℕ) (at : ℕ)
    (entry : p.entry division ≡ at) (routine : HasRoutine flash at) (fits : is_base base ≡ true)
    (v : View) (low : length v.low ≡ 13) (w1 w2 : ℕ) (r0 : slice_index v.low 0 ≡ w1) (r1 : slice_index v.low 1 ≡ w2) (l1 : w1 < 2 ^ 32) (l2 : w2 < 2 ^ 32) where
  -- behind the call the quotient is in r0 and the remainder in r1
  pub record Divided (i : ℕ) (s : Registers) : Type 0 where
    pub seen : View
    pub store : store_of seen ≡ store_of v
    pub low' : length seen.low ≡ 13
    pub quotient_is : slice_index seen.low 0 ≡ cast_unsigned w32 (quotient (cast_signed w32 w1) (cast_signed w32 w2))
    pub remainder_is : slice_index seen.low 1 ≡ cast_unsigned w32 (remainder (cast_signed w32 w1) (cast_signed w32 w2))
    pub globals : seen.globals ≡ v.globals
    pub arena : seen.arena ≡ v.arena
    pub comes : Comes (fetched flash base) p 1 233 i (i + 1) v seen s b free

  pub divided : (i : ℕ) (s : Registers) → slice_get pieces i ≡ Some (CallTo division) → At flash s.sp b → length v.words ≡ length b.words → Divided i s
  divided i s g h l =
      let fetch = fetched flash base in
      let t : Fm = (bank_of v b, free) in
      let ht = at_view flash s.sp v b l h in
      let ev = laid.behind_call i division g in
      let e0 = ev.0 in let e1 = ev.1 in
      let lr : word (p.behind i + 1) ≡ p.behind i + 1 = omega arith in
      let s0 = registers_of v (p.at i) s in
      let s1 : Registers = record (registers_of v (p.entry division) s) { lr = word (p.behind i + 1) } in
      let m0 = each_goes fetch flash p pieces laid i (CallTo division) g (omega arith) s0 t s1 t refl ht (quiet_does flash (bank_of v b) free s1 ht) in
      let odd : is_odd (word (p.behind i + 1)) ≡ true = ap is_odd lr ∙ odd_behind (p.behind i) e0 in
      let k0 : slice_index v.low 0 < 2 ^ 32 = subst (λ n. n < 2 ^ 32) (sym r0) l1 in
      let k1 : slice_index v.low 1 < 2 ^ 32 = subst (λ n. n < 2 ^ 32) (sym r1) l2 in
      let d = divides_on_a_bank flash (bank_of v b) free base at fits (record { low = ht.low }) routine s1
      (record { pc = entry; sp_is = sym ht.sp_is; returns = odd; registers = low; dividend = k0; divisor = k1 }) in
      let q = d.0 in
      let di = d.2 in
      let m1 = within_reaches over fetch t most_instructions s1 q d.1 in
      let nx = laid.next i (CallTo division) g refl in
      let v' : View = record v { low = q.r; flags = q.flags } in
      let pc : q.pc ≡ p.at (i + 1) = di.pc ∙ (ap (λ n. n - 1) lr ∙ (omega arith ∙ nx)) in
      let same : q ≡ registers_of v' (p.at (i + 1)) (record s { lr = q.lr }) = λ j.
      record { r = q.r; sp = di.sp_is j; lr = q.lr; pc = pc j; flags = q.flags } in
      let m2 = reaches_add over fetch 1 2 0 most_instructions s0 t s1 t q t m0 m1 in
      record {
        seen = v';
        store = ap (λ n. record { kept = n; words = v.words }) (four _ _ _ _ _ _ _ _ (di.keeps 4 (omega arith) (omega arith))
            (di.keeps 5 (omega arith) (omega arith)) (di.keeps 6 (omega arith) (omega arith)) (di.keeps 7 (omega arith) (omega arith)));
        low' = di.registers;
        quotient_is = di.quotient_is ∙ (ap (λ n. cast_unsigned w32 (quotient (cast_signed w32 n) (cast_signed w32 (slice_index v.low 1)))) r0 ∙
            ap (λ n. cast_unsigned w32 (quotient (cast_signed w32 w1) (cast_signed w32 n))) r1);
        remainder_is = di.remainder_is ∙ (ap (λ n. cast_unsigned w32 (remainder (cast_signed w32 n) (cast_signed w32 (slice_index v.low 1)))) r0 ∙
            ap (λ n. cast_unsigned w32 (remainder (cast_signed w32 w1) (cast_signed w32 n))) r1);
        globals = refl;
        arena = refl;
        comes = record { link = q.lr; long = l; reach = subst (λ y. ComesSilently over fetch 1 233 s0 t y t) same m2 };
      }

-- THE QUOTIENT, or the remainder, of the words in two registers
module _ (flash : List ℕ) (base : ℕ) (p : Places) (pieces : List Piece) (laid : Laid (fetched flash base) flash p pieces) (b : Bank) (free : List ℕ) (at : ℕ)
    (entry : p.entry division ≡ at) (routine : HasRoutine flash at) (fits : is_base base ≡ true) (fn : Function) (d : ℕ) (fd : d < 8)
    (v : View) (low : length v.low ≡ 13) (w1 w2 left right : ℕ) (r0 : slice_index v.low left ≡ w1) (r1 : slice_index v.low right ≡ w2) (l1 : w1 < 2 ^ 32) (l2 : w2 < 2 ^ 32)
    (fl : left < 8) (fr : right < 8) (apart : right ≡ 0 → ⊥) where
  abbrev u1 : View
  u1 = moved 0 left w1 v

  abbrev u2 : View
  u2 = moved 1 right w2 u1

  n1 : length u1.low ≡ 13
  n1 = moved_length 0 left w1 v.low ∙ low

  n2 : length u2.low ≡ 13
  n2 = moved_length 1 right w2 u1.low ∙ n1

  in_right : slice_index u1.low right ≡ w2
  in_right = moved_other 0 left w1 right v.low apart ∙ r1

  dividend : slice_index u2.low 0 ≡ w1
  dividend = moved_other 1 right w2 0 u1.low (λ e. omega arith) ∙ moved_word 0 left w1 v.low (omega arith) r0

  divisor : slice_index u2.low 1 ≡ w2
  divisor = let n = n1 in moved_word 1 right w2 u1.low (omega arith) in_right

  abbrev Behind : ℕ → Registers → Type 0
  Behind i s = Divided flash base p pieces laid b free at entry routine fits u2 n2 w1 w2 dividend divisor l1 l2 i s

  leaves_of : (answer w : ℕ) → answer < 2 → ((i : ℕ) (s : Registers) (y : Behind i s) → slice_index y.seen.low answer ≡ w)
      → Leaves (fetched flash base) flash p pieces laid b free v low (divides fn d left right answer) d w 242
  leaves_of answer w la is i s st h l =
      let fetch = fetched flash base in
      let xs = carries fn 0 left ∷ (carries fn 1 right ∷ []) in
      let ys = CallTo division ∷ (carries fn d answer ∷ []) in
      let f1 : AllFlow flash p xs v u2 = (
        u1,
        moves_flows flash p fn 0 left w1 v (omega arith) (omega arith) r0,
        (u2, moves_flows flash p fn 1 right w2 u1 (omega arith) (omega arith) in_right, refl),
      ) in
      let c1 = flows fetch flash p pieces laid xs i v u2 s b free (first_of pieces i xs ys st) h l f1 in
      let y = divided flash base p pieces laid b free at entry routine fits u2 n2 w1 w2 dividend divisor l1 l2 (i + 2) (record s { lr = c1.link }) (st 2 (omega arith)) h
      c1.long in
      let c2 = y.comes in
      let u3 = y.seen in
      let x3 = is (i + 2) (record s { lr = c1.link }) y in
      let u4 = moved d answer w u3 in
      let n3 = y.low' in
      let c3 = flows_one fetch flash p pieces laid (i + 2 + 1) (carries fn d answer) u3 u4 (record s { lr = c2.link }) b free
      (ap (slice_get pieces) (omega arith) ∙ st 3 (omega arith)) h c2.long (moves_flows flash p fn d answer w u3 (omega arith) (omega arith) x3) in
      let e1 = then fetch flash p pieces laid 1 233 (step_of (carries fn d answer)) (cost (carries fn d answer)) (i + 2) (i + 2 + 1) (i + 2 + 1 + 1) u2 u3 u4
      (record s { lr = c1.link }) b free c2 c3 in
      let e2 = then fetch flash p pieces laid (steps_of xs) (total_cost xs) (1 + step_of (carries fn d answer)) (233 + cost (carries fn d answer)) i (i + 2) (i + 2 + 1 + 1)
      v u2 u4 s b free c1 e1 in
      let z : i + 2 + 1 + 1 ≡ i + 4 = omega arith in
      let ta = moves_takes fn 0 left in let tb = moves_takes fn 1 right in let tc = moves_takes fn d answer in
      let r = e2.reach in
      let k = r.few in let ks = r.some in
      record {
        seen = u4;
        result = record {
          low = moved_length d answer w u3.low ∙ n3;
          word_is = moved_word d answer w u3.low (omega arith) x3;
          others = λ j a q n. moved_other d answer w j u3.low n ∙ (same_kept j u3 u2 y.store a q ∙ (moved_other 1 right w2 j u1.low (λ e. omega arith) ∙ moved_other 0 left w1 j v.low (λ e. omega arith)));
          words = ap (λ (q : Store). q.words) y.store;
        };
        globals = y.globals;
        arena = y.arena;
        comes = subst (λ j. Comes fetch p 1 242 i j v u4 s b free) z (record {
          link = e2.link;
          long = e2.long;
          reach = record { count = r.count; some = omega arith; few = omega arith; silent = r.silent };
        });
      }

  pub quotient_leaves : Leaves (fetched flash base) flash p pieces laid b free v low (divides fn d left right 0) d
      (cast_unsigned w32 (quotient (cast_signed w32 w1) (cast_signed w32 w2))) 242
  quotient_leaves = leaves_of 0 _ (omega arith) (λ i s y. y.quotient_is)

  pub remainder_leaves : Leaves (fetched flash base) flash p pieces laid b free v low (divides fn d left right 1) d
      (cast_unsigned w32 (remainder (cast_signed w32 w1) (cast_signed w32 w2))) 242
  remainder_leaves = leaves_of 1 _ (omega arith) (λ i s y. y.remainder_is)
