-- The pieces of operators leave the operators' words in the register of the result.
use Rattle.std.proofs.Common.{◌≡◌, ℕ, ◌+◌, ◌*◌, ◌%◌, ◌<◌, ◌≤◌, ◌⊎◌, inl, inr, if◌then◌else◌, List, [], ◌∷◌, ◌++◌, length, Bool, true, false, cond, refl, sym, ap, ◌∙◌, subst, arith, slice_set, slice_index, ◌==◌, get_or-set_same, get_or-set_other}
use Rattle.std.specs.Prelude.{bit_and, bit_or, bit_xor}
use Rattle.std.specs.Int.{cast_signed, cast_unsigned, w32}
use Rattle.std.proofs.lemmas.List.{length-set}
use Rattle.std.proofs.lemmas.Nat.{and_comm}
use Rattle.std.proofs.lemmas.Bool.Decides.{nat_tests}
use Rattle.flat_ir.specs.declared.ops.Function.{Function}
use Rattle.thumb_code.specs.declared.instructions.Instr.{Instr}
use Rattle.thumb_code.specs.declared.instructions.Instr.TheVariants.{MovImm, CmpImm, CmpReg, AddReg, SubReg, AddImm3, SubImm3, And, Eor, Orr, Mul, Mvn, Rsb, LslReg, AsrReg, LsrReg, MovHigh}
use Rattle.thumb_code.specs.declared.register_file.Registers.{Registers}
use Rattle.thumb_code.specs.RegisterFile.{word}
use Rattle.thumb_code.specs.Arithmetic.{nz, sum_of, sum_flags, inverted, bit_of, shifted, lsl, lsr, asr, holds}
use Rattle.thumb_code.specs.Step.{Fetched}
use Rattle.bank_model.specs.Bank.{Bank}
use Rattle.bank_model.specs.AllServices.{quotient, remainder}
use Rattle.thumb_layout.specs.declared.pieces.Piece.{Piece}
use Rattle.thumb_layout.specs.declared.pieces.Piece.TheVariants.{Plain, Label, Go}
use Rattle.thumb_layout.specs.Pieces.{Places, is_taken, goes_on, goes_on_instr}
use Rattle.thumb_emit.specs.Frame.{carries}
use Rattle.thumb_emit.specs.Emit.{beside, decides, compares, combines, shifts, divides, unary, binary}
use Rattle.thumb_layout.specs.Holds.{cost}
use Rattle.thumb_emit.specs.Bounds.{total_cost}
use Rattle.arena_values.proofs.Laws.{compared, shifted_by, operated, prefix_word}
use Rattle.placed_frames.proofs.Laws.{View, with_low, Alters, Quiet}
use Rattle.emit_simulation.proofs.Laid.{Laid, Flows, OfInstr, OfLabel, AllFlow, Comes, steps_of}
use Rattle.emit_simulation.proofs.Leaving.{AllLeave, StandsIn}
use Rattle.emit_simulation.proofs.Flowing.{flows, branches, passes_by, then}
use Rattle.emit_simulation.proofs.Placed.{moved, moves_flows, moved_word, moved_other, moved_length, mov_flows}
use Rattle.emit_simulation.proofs.Starts.{first_of, rest_of, stand_as}

-- both ways of a choice
pub if_leaves : (P : List Piece → ℕ → Type 0) (b : Bool) (xs ys : List Piece) (v w : ℕ) → P xs v → P ys w → P (cond b xs ys) (cond b v w)
if_leaves P true xs ys v w p q = p
if_leaves P false xs ys v w p q = q

-- fewer steps than some are at least fewer
pub looser : (fetch : ℕ → Fetched) (p : Places) (least fewer most i j : ℕ) (v v' : View) (s : Registers) (b : Bank) (free : List ℕ) → fewer ≤ least
    → Comes fetch p least most i j v v' s b free → Comes fetch p fewer most i j v v' s b free
looser fetch p least fewer most i j v v' s b free l c =
    let r = c.reach in let k = r.some in
    record { link = c.link; long = c.long; reach = record { count = r.count; some = omega arith; few = r.few; silent = r.silent } }

-- a register beside an operand's is another one: a scratch register, or the result's
pub beside_is : (scratch rd operand : ℕ) → (beside scratch rd operand ≡ scratch) ⊎ (beside scratch rd operand ≡ rd)
beside_is scratch rd operand = by (rd == operand)
  where
    by : (b : Bool) → ((if b then scratch else rd) ≡ scratch) ⊎ ((if b then scratch else rd) ≡ rd)
    by true = inl refl
    by false = inr refl

pub beside_other : (scratch rd operand : ℕ) → (scratch ≡ operand → ⊥) → beside scratch rd operand ≡ operand → ⊥
beside_other scratch rd operand n = by (rd == operand) refl
  where
    by : (b : Bool) → (rd == operand) ≡ b → ◌≡◌ {A = ℕ} (if b then scratch else rd) operand → ⊥
    by true q = n
    by false q = λ e. (let z : (rd == operand) ≡ true = grind (arith, nat_tests) in cc)

-- which registers r4 to r7 stay, where one is by the way
pub not_by : {d : ℕ} (r : ℕ) → ((r < 4) ⊎ (r ≡ d)) → (j : ℕ) → 4 ≤ j → (j ≡ d → ⊥) → j ≡ r → ⊥
not_by r (inl l) j a n e = omega arith
not_by r (inr s) j a n e = n (e ∙ s)

pub beside_low : (scratch rd operand : ℕ) → scratch < 8 → rd < 8 → beside scratch rd operand < 8
beside_low scratch rd operand l m = elim (beside_is scratch rd operand) [
  | inl e ↦ omega arith
  | inr e ↦ omega arith
]

pub beside_kind : (scratch rd operand : ℕ) → scratch < 4 → (beside scratch rd operand < 4) ⊎ (beside scratch rd operand ≡ rd)
beside_kind scratch rd operand l = elim (beside_is scratch rd operand) [
  | inl e ↦ inl (omega arith)
  | inr e ↦ inr e
]

pub moves_takes : (fn : Function) (rd rs : ℕ) → cost (carries fn rd rs) ≤ 2
moves_takes fn rd rs = by (rd == rs)
  where
    by : (b : Bool) → cost (if b then Label (3 * length fn.ops + 1) else Plain (MovHigh rd rs)) ≤ 2
    by true = omega arith
    by false = omega arith

module _ (fetch : ℕ → Fetched) (flash : List ℕ) (p : Places) (pieces : List Piece) (laid : Laid fetch flash p pieces) (b : Bank) (free : List ℕ) (v : View)
    (low : length v.low ≡ 13) where
  abbrev pub Leaves : List Piece → ℕ → ℕ → ℕ → Type 0
  Leaves xs d w most = AllLeave fetch flash p pieces b free xs v d w most

  -- straight pieces
  pub leaves_straight : (xs : List Piece) (d w : ℕ) (u : View) → 0 < steps_of xs → AllFlow flash p xs v u → StandsIn d w v u → u.globals ≡ v.globals → u.arena ≡ v.arena
      → Leaves xs d w (total_cost xs)
  leaves_straight xs d w u some fl r g a i s st h l = record {
    seen = u;
    result = r;
    globals = g;
    arena = a;
    comes = looser fetch p (steps_of xs) 1 (total_cost xs) i (i + length xs) v u s b free (omega arith) (flows fetch flash p pieces laid xs i v u s b free st h l fl);
  }

  -- with a greater bound
  pub leaves_more : (xs : List Piece) (d w m n : ℕ) → m ≤ n → Leaves xs d w m → Leaves xs d w n
  leaves_more xs d w m n l x i s st h g =
      let z = x i s st h g in
      let y = z.comes in
      let r = y.reach in
      let k = r.few in
      record {
        seen = z.seen;
        result = z.result;
        globals = z.globals;
        arena = z.arena;
        comes = record { link = y.link; long = y.long; reach = record { count = r.count; some = r.some; few = omega arith; silent = r.silent } };
      }

  module _ (fn : Function) (d : ℕ) (fd : d < 8) where
    set_result : (w : ℕ) (fl : ℕ) → StandsIn d w v (record v { low = slice_set v.low d w; flags = fl })
    set_result w fl = record {
      low = length-set v.low d w ∙ low;
      word_is = get_or-set_same v.low d w 0 (omega arith);
      others = λ i h k n. get_or-set_other v.low d i w 0 n;
      words = refl;
    }

    -- one instruction that changes the register and flags
    pub leaves_one : (x : Instr) (w fl : ℕ) → Alters flash x v (record v { low = slice_set v.low d w; flags = fl }) → goes_on_instr x ≡ true
        → Leaves (Plain x ∷ []) d w 2
    leaves_one x w fl q g =
        let u : View = record v { low = slice_set v.low d w; flags = fl } in
        leaves_straight (Plain x ∷ []) d w u (omega arith) (u, OfInstr x v u g q, refl) (set_result w fl) refl refl

    -- A TEST: the register becomes 1 where a condition holds behind a comparison, by way of itself or of a scratch register
    pub leaves_test : (r c label fl : ℕ) (x : Instr) → r < 8 → ((r < 4) ⊎ (r ≡ d)) → (c == 14) ≡ false → goes_on_instr x ≡ true
        → ((m : View) → m.low ≡ slice_set v.low r 1 → Alters flash x m (record m { flags = fl }))
        → (t : Bool) → holds fl c ≡ t
        → Leaves (decides fn d r x c label) d (bit_of t) 11
    leaves_test r c label fl x lr kind nc gx does true ht i s st h l =
        let u1 : View = record v { low = slice_set v.low r 1; flags = nz v.flags 1 } in
        let u2 : View = record u1 { flags = fl } in
        let u3 = moved d r 1 u2 in
        let n1 = length-set v.low r 1 ∙ low in
        let xs = Plain (MovImm r 1) ∷ (Plain x ∷ []) in
        let ys = Go c label ∷ (Plain (MovImm r 0) ∷ []) in
        let zs = Label label ∷ (carries fn d r ∷ []) in
        let w1 : slice_index u2.low r ≡ 1 = get_or-set_same v.low r 1 0 (omega arith) in
        let f1 : AllFlow flash p xs v u2 = (
          u1,
          OfInstr (MovImm r 1) v u1 refl (Quiet (MovImm r 1) v (slice_set v.low r 1) (nz v.flags 1) (λ next pc s. refl)),
          (u2, OfInstr x u1 u2 gx (does u1 refl), refl),
        ) in
        let f3 : AllFlow flash p zs u2 u3 = (u2, OfLabel label u2, (u3, moves_flows flash p fn d r 1 u2 (omega arith) (omega arith) w1, refl)) in
        record {
          seen = u3;
          result = record {
            low = moved_length d r 1 u2.low ∙ n1;
            word_is = moved_word d r 1 u2.low (omega arith) w1;
            others = λ j a k n. moved_other d r 1 j u2.low n ∙ get_or-set_other v.low r j 1 0 (not_by r kind j a n);
            words = refl;
          };
          globals = refl;
          arena = refl;
          comes =
              let c1 = flows fetch flash p pieces laid xs i v u2 s b free (first_of pieces i xs (ys ++ zs) st) h l f1 in
              let tk : is_taken fl c ≡ true = (rw nc ht) in
              let c2 = branches fetch flash p pieces laid (i + 2) (i + 4) c label u2 (record s { lr = c1.link }) b free (st 2 (omega arith)) (st 4 (omega arith))
              tk h c1.long in
              let c3 = flows fetch flash p pieces laid zs (i + 4) u2 u3 (record s { lr = c2.link }) b free (rest_of pieces i (xs ++ ys) zs st) h c2.long f3 in
              let e1 = (then) fetch flash p pieces laid 1 3 (steps_of zs) (total_cost zs) (i + 2) (i + 4) (i + 4 + 2) u2 u2 u3 (record s { lr = c1.link }) b free c2 c3 in
              let e2 = (then) fetch flash p pieces laid 2 4 (1 + steps_of zs) (3 + total_cost zs) i (i + 2) (i + 4 + 2) v u2 u3 s b free c1 e1 in
              let z : i + 4 + 2 ≡ i + 6 = omega arith in
              let mt = moves_takes fn d r in
              let tz : total_cost zs ≤ 2 = omega arith in
              let rr = e2.reach in
              let k = rr.few in let ks = rr.some in
              subst (λ j. Comes fetch p 1 11 i j v u3 s b free) z (record {
                link = e2.link;
                long = e2.long;
                reach = record { count = rr.count; some = omega arith; few = omega arith; silent = rr.silent };
              });
        }
    leaves_test r c label fl x lr kind nc gx does false ht i s st h l =
        let u1 : View = record v { low = slice_set v.low r 1; flags = nz v.flags 1 } in
        let u2 : View = record u1 { flags = fl } in
        let u3 : View = record u2 { low = slice_set u2.low r 0; flags = nz fl 0 } in
        let u4 = moved d r 0 u3 in
        let n1 = length-set v.low r 1 ∙ low in
        let n3 = length-set u2.low r 0 ∙ n1 in
        let xs = Plain (MovImm r 1) ∷ (Plain x ∷ []) in
        let ys = Go c label ∷ [] in
        let zs = Plain (MovImm r 0) ∷ (Label label ∷ (carries fn d r ∷ [])) in
        let w1 : slice_index u3.low r ≡ 0 = get_or-set_same u2.low r 0 0 (omega arith) in
        let f1 : AllFlow flash p xs v u2 = (
          u1,
          OfInstr (MovImm r 1) v u1 refl (Quiet (MovImm r 1) v (slice_set v.low r 1) (nz v.flags 1) (λ next pc s. refl)),
          (u2, OfInstr x u1 u2 gx (does u1 refl), refl),
        ) in
        let f3 : AllFlow flash p zs u2 u4 = (
          u3,
          OfInstr (MovImm r 0) u2 u3 refl (Quiet (MovImm r 0) u2 (slice_set u2.low r 0) (nz fl 0) (λ next pc s. refl)),
          (u3, OfLabel label u3, (u4, moves_flows flash p fn d r 0 u3 (omega arith) (omega arith) w1, refl)),
        ) in
        record {
          seen = u4;
          result = record {
            low = moved_length d r 0 u3.low ∙ n3;
            word_is = moved_word d r 0 u3.low (omega arith) w1;
            others = λ j a k n. moved_other d r 0 j u3.low n ∙ (get_or-set_other u2.low r j 0 0 (not_by r kind j a n) ∙ get_or-set_other v.low r j 1 0 (not_by r kind j a n));
            words = refl;
          };
          globals = refl;
          arena = refl;
          comes =
              let c1 = flows fetch flash p pieces laid xs i v u2 s b free (first_of pieces i xs (ys ++ zs) st) h l f1 in
              let tk : is_taken fl c ≡ false = (rw nc ht) in
              let go : goes_on (Go c label) ≡ true = (rw nc refl) in
              let c2 = passes_by fetch flash p pieces laid (i + 2) c label u2 (record s { lr = c1.link }) b free (st 2 (omega arith)) go tk h c1.long in
              let c3 = flows fetch flash p pieces laid zs (i + 2 + 1) u2 u4 (record s { lr = c2.link }) b free
              (stand_as pieces (i + 3) (i + 2 + 1) zs (omega arith) (rest_of pieces i (xs ++ ys) zs st)) h c2.long f3 in
              let e1 = (then) fetch flash p pieces laid 1 3 (steps_of zs) (total_cost zs) (i + 2) (i + 2 + 1) (i + 2 + 1 + 3) u2 u2 u4 (record s { lr = c1.link }) b free c2 c3 in
              let e2 = (then) fetch flash p pieces laid 2 4 (1 + steps_of zs) (3 + total_cost zs) i (i + 2) (i + 2 + 1 + 3) v u2 u4 s b free c1 e1 in
              let z : i + 2 + 1 + 3 ≡ i + 6 = omega arith in
              let mt = moves_takes fn d r in
              let tz : total_cost zs ≤ 4 = omega arith in
              let rr = e2.reach in
              let k = rr.few in let ks = rr.some in
              subst (λ j. Comes fetch p 1 11 i j v u4 s b free) z (record {
                link = e2.link;
                long = e2.long;
                reach = record { count = rr.count; some = omega arith; few = omega arith; silent = rr.silent };
              });
        }

    -- A PREFIX OPERATOR of the word in a register
    pub unary_leaves : (from op label w : ℕ) → from < 8 → (1 ≡ from → ⊥) → slice_index v.low from ≡ w → Leaves (unary fn d from op label) d (prefix_word op w) 11
    unary_leaves from op label w lf nf r =
        let P : List Piece → ℕ → Type 0 = λ xs n. Leaves xs d n 11 in
        let by = beside 1 d from in
        let other = beside_other 1 d from nf in
        if_leaves P (op == 1) _ _ _ _ (leaves_more _ d _ 2 11 (omega arith) (leaves_one (Rsb d from) (sum_of 0 (inverted w) 1) (sum_flags 0 (inverted w) 1)
        (Quiet (Rsb d from) v _ (sum_flags 0 (inverted w) 1) (λ next pc s. rw r refl)) refl))
        (if_leaves P (op == 2) _ _ _ _ (leaves_more _ d _ 2 11 (omega arith) (leaves_straight (Plain (MovHigh d from) ∷ []) d w (with_low d w v) (omega arith)
        (with_low d w v, subst (λ n. Flows flash p (Plain (MovHigh d from)) v (with_low d n v)) r (mov_flows flash p d from v (omega arith) (omega arith)), refl)
        (set_result w v.flags) refl refl))
        (if_leaves P (op == 3) _ _ _ _ (leaves_test by 0 label (sum_flags w (inverted 0) 1) (CmpImm from 0) (beside_low 1 d from (omega arith) fd) (beside_kind 1 d from (omega arith)) refl refl
        (λ m e. Quiet (CmpImm from 0) m m.low (sum_flags w (inverted 0) 1) (λ next pc s.
        (let k : slice_index m.low from ≡ w = ap (λ l. slice_index l from) e ∙ (get_or-set_other v.low by from 1 0 (λ z. other (sym z)) ∙ r) in rw k refl)))
        (holds (sum_flags w (inverted 0) 1) 0) refl)
        (if_leaves P (op == 4) _ _ _ _ (leaves_more _ d _ 2 11 (omega arith) (leaves_one (Mvn d from) (inverted w) (nz v.flags (inverted w))
        (Quiet (Mvn d from) v _ (nz v.flags (inverted w)) (λ next pc s. rw r refl)) refl))
        (if_leaves P (op == 5) _ _ _ _ (leaves_more _ d _ 2 11 (omega arith) (leaves_one (AddImm3 d from 1) (sum_of w 1 0) (sum_flags w 1 0)
        (Quiet (AddImm3 d from 1) v _ (sum_flags w 1 0) (λ next pc s. rw r refl)) refl))
        (leaves_more _ d _ 2 11 (omega arith) (leaves_one (SubImm3 d from 1) (sum_of w (inverted 1) 1) (sum_flags w (inverted 1) 1)
        (Quiet (SubImm3 d from 1) v _ (sum_flags w (inverted 1) 1) (λ next pc s. rw r refl)) refl))))))

    -- AN OPERATOR of the words in two registers, but for division
    module _ (w1 w2 left right : ℕ) (r0 : slice_index v.low left ≡ w1) (r1 : slice_index v.low right ≡ w2) (fl : left < 8) (fr : right < 8)
        (nl : 2 ≡ left → ⊥) (nr : 2 ≡ right → ⊥) where
      abbrev pub Of : List Piece → ℕ → Type 0
      Of xs n = Leaves xs d n 242

      -- the flags before a shift
      abbrev pub shift_flags : ℕ
      shift_flags = nz (nz v.flags 31) (bit_and w2 31)

      compared_leaves : (c label : ℕ) → (c == 14) ≡ false → Of (compares fn d left right c label) (compared c w1 w2)
      compared_leaves c label n =
          let inner = beside 2 d left in
          let by = beside 2 inner right in
          let kind : (by < 4) ⊎ (by ≡ d) = elim (beside_is 2 inner right) [
            | inl e ↦ inl (omega arith)
            | inr e ↦ elim (beside_is 2 d left) [
              | inl k ↦ inl (omega arith)
              | inr k ↦ inr (e ∙ k)
            ]
          ] in
          let not_right = beside_other 2 inner right nr in
          let not_left : by ≡ left → ⊥ = λ q. elim (beside_is 2 inner right) [
            | inl e ↦ nl (sym e ∙ q)
            | inr e ↦ beside_other 2 d left nl (sym e ∙ q)
          ] in
          leaves_more _ d _ 11 242 (omega arith) (leaves_test by c label (sum_flags w1 (inverted w2) 1) (CmpReg left right)
          (beside_low 2 inner right (omega arith) (beside_low 2 d left (omega arith) fd)) kind n refl
          (λ m e. Quiet (CmpReg left right) m m.low (sum_flags w1 (inverted w2) 1) (λ next pc s. (
          let k0 : slice_index m.low left ≡ w1 = ap (λ l. slice_index l left) e ∙ (get_or-set_other v.low by left 1 0 (λ z. not_left (sym z)) ∙ r0) in
          let k1 : slice_index m.low right ≡ w2 = ap (λ l. slice_index l right) e ∙ (get_or-set_other v.low by right 1 0 (λ z. not_right (sym z)) ∙ r1) in
          rw k0 (rw k1 refl))))
          (holds (sum_flags w1 (inverted w2) 1) c) refl)

      one : (x : Instr) (w fl : ℕ) → Alters flash x v (record v { low = slice_set v.low d w; flags = fl }) → goes_on_instr x ≡ true → Of (Plain x ∷ []) w
      one x w fl q g = leaves_more _ d _ 2 242 (omega arith) (leaves_one x w fl q g)

      -- an instruction whose target is its first operand
      combined_leaves : (x : ℕ → ℕ → Instr) (w : ℕ) → ((a k : ℕ) → goes_on_instr (x a k) ≡ true)
          → ((m : View) (a : ℕ) → slice_index m.low a ≡ w1 → slice_index m.low right ≡ w2 → (fl : ℕ) × Alters flash (x a right) m (record m { low = slice_set m.low a w; flags = fl }))
          → Of (combines fn d left right x) w
      combined_leaves x w g does =
          let t = beside 2 d right in
          let lt = beside_low 2 d right (omega arith) fd in
          let kind = beside_kind 2 d right (omega arith) in
          let other = beside_other 2 d right nr in
          let u1 = moved t left w1 v in
          let n1 = moved_length t left w1 v.low ∙ low in
          let k0 : slice_index u1.low t ≡ w1 = moved_word t left w1 v.low (omega arith) r0 in
          let k1 : slice_index u1.low right ≡ w2 = moved_other t left w1 right v.low (λ z. other (sym z)) ∙ r1 in
          let dx = does u1 t k0 k1 in
          let u2 : View = record u1 { low = slice_set u1.low t w; flags = dx.0 } in
          let n2 = length-set u1.low t w ∙ n1 in
          let x2 : slice_index u2.low t ≡ w = get_or-set_same u1.low t w 0 (omega arith) in
          let u3 = moved d t w u2 in
          let xs = combines fn d left right x in
          let ta = moves_takes fn t left in let tb = moves_takes fn d t in
          leaves_more xs d w (total_cost xs) 242 (omega arith) (leaves_straight xs d w u3 (omega arith) (
            u1,
            moves_flows flash p fn t left w1 v (omega arith) (omega arith) r0,
            (u2, OfInstr (x t right) u1 u2 (g t right) dx.1, (u3, moves_flows flash p fn d t w u2 (omega arith) (omega arith) x2, refl)),
          ) (record {
            low = moved_length d t w u2.low ∙ n2;
            word_is = moved_word d t w u2.low (omega arith) x2;
            others = λ j a k n. moved_other d t w j u2.low n ∙ (get_or-set_other u1.low t j w 0 (not_by t kind j a n) ∙ moved_other t left w1 j v.low (not_by t kind j a n));
            words = refl;
          }) refl refl)

      shifted_leaves : (x : ℕ → ℕ → Instr) (f : ℕ → ℕ → ℕ × ℕ) → goes_on_instr (x d 2) ≡ true
          → ((m : View) → slice_index m.low d ≡ w1 → slice_index m.low 2 ≡ bit_and w2 31 → m.flags ≡ shift_flags
          → Alters flash (x d 2) m (record m {
            low = slice_set m.low d (shifted_by shift_flags f w1 w2);
            flags = (shifted shift_flags f w1 (bit_and w2 31 % 256)).1;
          }))
          → (2 ≡ d → ⊥) → Of (shifts fn d left right x) (shifted_by shift_flags f w1 w2)
      shifted_leaves x f g does nd =
          let n = bit_and w2 31 in
          let w = shifted_by shift_flags f w1 w2 in
          let u1 : View = record v { low = slice_set v.low 2 31; flags = nz v.flags 31 } in
          let u2 : View = record u1 { low = slice_set u1.low 2 n; flags = shift_flags } in
          let u3 = moved d left w1 u2 in
          let u4 : View = record u3 { low = slice_set u3.low d w; flags = (shifted shift_flags f w1 (n % 256)).1 } in
          let n1 = length-set v.low 2 31 ∙ low in
          let n2 = length-set u1.low 2 n ∙ n1 in
          let n3 = moved_length d left w1 u2.low ∙ n2 in
          let k1 : slice_index u1.low right ≡ w2 = get_or-set_other v.low 2 right 31 0 (λ z. nr (sym z)) ∙ r1 in
          let k2 : slice_index u1.low 2 ≡ 31 = get_or-set_same v.low 2 31 0 (omega arith) in
          let l0 : slice_index u2.low left ≡ w1 = get_or-set_other u1.low 2 left n 0 (λ z. nl (sym z)) ∙ (get_or-set_other v.low 2 left 31 0 (λ z. nl (sym z)) ∙ r0) in
          let m0 : slice_index u3.low d ≡ w1 = moved_word d left w1 u2.low (omega arith) l0 in
          let m2 : slice_index u3.low 2 ≡ n = moved_other d left w1 2 u2.low nd ∙ get_or-set_same u1.low 2 n 0 (omega arith) in
          let and : Alters flash (And 2 right) u1 u2 = subst (λ q. Alters flash (And 2 right) u1 (record u1 { low = slice_set u1.low 2 q; flags = nz u1.flags q })) (and_comm 31 w2)
          (Quiet (And 2 right) u1 (slice_set u1.low 2 (bit_and 31 w2)) (nz u1.flags (bit_and 31 w2)) (λ next pc s. rw k1 (rw k2 refl))) in
          let xs = shifts fn d left right x in
          let ta = moves_takes fn d left in
          leaves_more xs d w (total_cost xs) 242 (omega arith) (leaves_straight xs d w u4 (omega arith) (
            u1,
            OfInstr (MovImm 2 31) v u1 refl (Quiet (MovImm 2 31) v (slice_set v.low 2 31) (nz v.flags 31) (λ next pc s. refl)),
            (
              u2,
              OfInstr (And 2 right) u1 u2 refl and,
              (u3, moves_flows flash p fn d left w1 u2 (omega arith) (omega arith) l0, (u4, OfInstr (x d 2) u3 u4 g (does u3 m0 m2 refl), refl)),
            ),
          ) (record {
            low = length-set u3.low d w ∙ n3;
            word_is = get_or-set_same u3.low d w 0 (omega arith);
            others = λ j a k q. get_or-set_other u3.low d j w 0 q ∙ (moved_other d left w1 j u2.low q ∙ (get_or-set_other u1.low 2 j n 0 (λ e. omega arith) ∙ get_or-set_other v.low 2 j 31 0 (λ e. omega arith)));
            words = refl;
          }) refl refl)

      -- given the two of division
      pub binary_leaves : (op label q r : ℕ) → (2 ≡ d → ⊥) → Of (divides fn d left right 0) q → Of (divides fn d left right 1) r → q ≡ cast_unsigned w32
          (quotient (cast_signed w32 w1) (cast_signed w32 w2)) → r ≡ cast_unsigned w32 (remainder (cast_signed w32 w1) (cast_signed w32 w2))
          → Of (binary fn d left right op label) (operated shift_flags op w1 w2)
      binary_leaves op label q r nd dq dr eq er =
          if_leaves Of (op == 1) _ _ _ _ (combined_leaves Orr (bit_or w1 w2) (λ a k. refl) (λ m a e f. (nz m.flags (bit_or w1 w2), Quiet (Orr a right) m _ _ (λ next pc s. rw e (rw f refl)))))
          (if_leaves Of (op == 2) _ _ _ _ (combined_leaves Eor (bit_xor w1 w2) (λ a k. refl) (λ m a e f. (nz m.flags (bit_xor w1 w2), Quiet (Eor a right) m _ _ (λ next pc s. rw e (rw f refl)))))
          (if_leaves Of (op == 3) _ _ _ _ (combined_leaves And (bit_and w1 w2) (λ a k. refl) (λ m a e f. (nz m.flags (bit_and w1 w2), Quiet (And a right) m _ _ (λ next pc s. rw e (rw f refl)))))
          (if_leaves Of (op == 4) _ _ _ _ (compared_leaves 0 label refl)
          (if_leaves Of (op == 5) _ _ _ _ (compared_leaves 1 label refl)
          (if_leaves Of (op == 6) _ _ _ _ (compared_leaves 11 label refl)
          (if_leaves Of (op == 7) _ _ _ _ (compared_leaves 12 label refl)
          (if_leaves Of (op == 8) _ _ _ _ (compared_leaves 13 label refl)
          (if_leaves Of (op == 9) _ _ _ _ (compared_leaves 10 label refl)
          (if_leaves Of (op == 10) _ _ _ _ (shifted_leaves LslReg lsl refl (λ m a b c. Quiet (LslReg d 2) m _ _ (λ next pc s. rw a (rw b (rw c refl)))) nd)
          (if_leaves Of (op == 11) _ _ _ _ (shifted_leaves AsrReg asr refl (λ m a b c. Quiet (AsrReg d 2) m _ _ (λ next pc s. rw a (rw b (rw c refl)))) nd)
          (if_leaves Of (op == 12) _ _ _ _ (shifted_leaves LsrReg lsr refl (λ m a b c. Quiet (LsrReg d 2) m _ _ (λ next pc s. rw a (rw b (rw c refl)))) nd)
          (if_leaves Of (op == 13) _ _ _ _ (one (AddReg d left right) (sum_of w1 w2 0) (sum_flags w1 w2 0)
          (Quiet (AddReg d left right) v _ _ (λ next pc s. rw r0 (rw r1 refl))) refl)
          (if_leaves Of (op == 14) _ _ _ _ (one (SubReg d left right) (sum_of w1 (inverted w2) 1) (sum_flags w1 (inverted w2) 1)
          (Quiet (SubReg d left right) v _ _ (λ next pc s. rw r0 (rw r1 refl))) refl)
          (if_leaves Of (op == 15) _ _ _ _ (combined_leaves Mul (word (w1 * w2)) (λ a k. refl) (λ m a e f. (nz m.flags (word (w1 * w2)), Quiet (Mul a right) m _ _ (λ next pc s. rw e (rw f refl)))))
          (if_leaves Of (op == 16) _ _ _ _ (subst (Of (divides fn d left right 0)) eq dq)
          (subst (Of (divides fn d left right 1)) er dr))))))))))))))))
