-- SP down and up by the words of a frame, in one or two instructions.
use Rattle.std.proofs.Common.{zero, suc, ◌≡◌, ℕ, ◌+◌, ◌*◌, ◌-◌, ◌<◌, ◌≤◌, List, [], ◌∷◌, ◌++◌, length, drop, Bool, true, false, nat_lt, Some, refl, sym, ap, ◌∙◌, subst, arith, slice_get, append_assoc}
use Rattle.std.proofs.lemmas.List.{length-append, length-drop}
use Rattle.thumb_code.specs.declared.instructions.Instr.TheVariants.{AddSpImm, SubSpImm}
use Rattle.thumb_code.specs.declared.register_file.Registers.{Registers}
use Rattle.thumb_code.specs.Map.{stack_at}
use Rattle.thumb_code.specs.Step.{Fetched}
use Rattle.bank_model.specs.Bank.{Bank}
use Rattle.thumb_layout.specs.declared.pieces.Piece.{Piece}
use Rattle.thumb_layout.specs.declared.pieces.Piece.TheVariants.{Plain}
use Rattle.thumb_layout.specs.Pieces.{Places}
use Rattle.thumb_layout.proofs.Laws.{reaches_add, ComesSilently}
use Rattle.thumb_emit.specs.Frame.{raises, lowers}
use Rattle.placed_frames.proofs.Laws.{At, Down, move_down, move_up, sub_sp, add_sp}
use Rattle.emit_simulation.proofs.Laid.{over, Laid}
use Rattle.emit_simulation.proofs.Starts.{StandAt}
use Rattle.emit_simulation.proofs.Flowing.{each_goes}

module _ (fetch : ℕ → Fetched) (flash : List ℕ) (p : Places) (pieces : List Piece) (laid : Laid fetch flash p pieces) where
  -- SP is n words lower, and new words stand in front
  pub record Lower (i j n : ℕ) (s : Registers) (b : Bank) (free : List ℕ) : Type 0 where
    pub free' : List ℕ
    pub new : List ℕ
    pub long : length new ≡ n
    pub reach : ComesSilently over fetch 1 4 (record s { pc = p.at i }) (b, free) (record s { sp = s.sp - 4 * n; pc = p.at j })
        (record b { words = new ++ b.words }, free')
    pub at : At flash (s.sp - 4 * n) (record b { words = new ++ b.words })

  lower_one : (i n : ℕ) (s : Registers) (b : Bank) (free : List ℕ) → slice_get pieces i ≡ Some (Plain (SubSpImm n)) → At flash s.sp b → 4 * n + stack_at ≤ s.sp
      → (d : Down flash s.sp n b free) × ComesSilently over fetch 1 2 (record s { pc = p.at i }) (b, free) (record s { sp = s.sp - 4 * n; pc = p.at (i + 1) })
      (record b { words = d.new ++ b.words }, d.free')
  lower_one i n s b free g h l =
      let d = move_down flash s.sp n b free h l in
      let s0 : Registers = record s { pc = p.at i } in
      let q : Registers = record s { sp = s.sp - 4 * n; pc = p.behind i } in
      let m = each_goes fetch flash p pieces laid i (Plain (SubSpImm n)) g (omega arith) s0 (b, free) q (record b { words = d.new ++ b.words }, d.free') refl h
      (sub_sp flash (p.behind i) n s0 b free h l d) in (
        d,
        subst (λ k. ComesSilently over fetch 1 2 s0 (b, free) (record s { sp = s.sp - 4 * n; pc = k }) (record b { words = d.new ++ b.words }, d.free'))
            (laid.next i (Plain (SubSpImm n)) g refl) m,
      )

  pub lowered_by : (i n : ℕ) (s : Registers) (b : Bank) (free : List ℕ) → StandAt pieces i (lowers n) → At flash s.sp b → 4 * n + stack_at ≤ s.sp
      → Lower i (i + length (lowers n)) n s b free
  lowered_by i n s b free st h l = by (nat_lt 127 n) refl
    where
      by : (x : Bool) → nat_lt 127 n ≡ x → Lower i (i + length (lowers n)) n s b free
      by false e = (
          let eq : lowers n ≡ Plain (SubSpImm n) ∷ [] = rw e refl in
          let st' = subst (StandAt pieces i) eq st in
          let r = lower_one i n s b free (ap (slice_get pieces) (omega arith) ∙ st' 0 (omega arith)) h l in
          let d = r.0 in
          let z : i + 1 ≡ i + length (lowers n) = ap (λ (xs : List Piece). i + length xs) (sym eq) in
          let m = r.1 in
          let c = m.few in
          record {
            free' = d.free';
            new = d.new;
            long = d.long;
            reach = subst (λ j. ComesSilently over fetch 1 4 (record s { pc = p.at i }) (b, free) (record s { sp = s.sp - 4 * n; pc = p.at j })
                (record b { words = d.new ++ b.words }, d.free')) z
                (record { count = m.count; some = m.some; few = omega arith; silent = m.silent });
            at = d.at;
          })
      by true e = (
          let eq : lowers n ≡ Plain (SubSpImm 127) ∷ (Plain (SubSpImm (n - 127)) ∷ []) = rw e refl in
          let k : 127 < n = grind arith in
          let st' = subst (StandAt pieces i) eq st in
          let r = lower_one i 127 s b free (ap (slice_get pieces) (omega arith) ∙ st' 0 (omega arith)) h (omega arith) in
          let d = r.0 in
          let s1 : Registers = record s { sp = s.sp - 4 * 127 } in
          let b1 : Bank = record b { words = d.new ++ b.words } in
          let r2 = lower_one (i + 1) (n - 127) s1 b1 d.free' (st' 1 (omega arith)) d.at (omega arith) in
          let d2 = r2.0 in
          let z : i + 1 + 1 ≡ i + length (lowers n) = omega arith ∙ ap (λ (xs : List Piece). i + length xs) (sym eq) in
          let zp : s.sp - 4 * 127 - 4 * (n - 127) ≡ s.sp - 4 * n = omega arith in
          let zw : d2.new ++ (d.new ++ b.words) ≡ (d2.new ++ d.new) ++ b.words = sym (append_assoc d2.new d.new b.words) in
          let x1 = d.long in let x2 = d2.long in
          let m = reaches_add over fetch 1 2 1 2 (record s { pc = p.at i }) (b, free) (record s1 { pc = p.at (i + 1) }) (b1, d.free')
          (record s { sp = s.sp - 4 * 127 - 4 * (n - 127); pc = p.at (i + 1 + 1) }) (record b { words = d2.new ++ (d.new ++ b.words) }, d2.free') r.1
          r2.1 in
          let c = m.few in let c' = m.some in
          record {
            free' = d2.free';
            new = d2.new ++ d.new;
            long = length-append d2.new d.new ∙ omega arith;
            reach = subst (λ j. ComesSilently over fetch 1 4 (record s { pc = p.at i }) (b, free) (record s { sp = s.sp - 4 * n; pc = p.at j })
                (record b { words = (d2.new ++ d.new) ++ b.words }, d2.free')) z
                (subst (λ ws. ComesSilently over fetch 1 4 (record s { pc = p.at i }) (b, free) (record s { sp = s.sp - 4 * n; pc = p.at (i + 1 + 1) })
                (record b { words = ws }, d2.free')) zw
                (subst (λ y. ComesSilently over fetch 1 4 (record s { pc = p.at i }) (b, free) (record s { sp = y; pc = p.at (i + 1 + 1) })
                (record b { words = d2.new ++ (d.new ++ b.words) }, d2.free')) zp
                (record { count = m.count; some = omega arith; few = omega arith; silent = m.silent })));
            at = subst (λ y. At flash y (record b { words = (d2.new ++ d.new) ++ b.words })) zp
                (subst (λ ws. At flash (s.sp - 4 * 127 - 4 * (n - 127)) (record b { words = ws })) zw d2.at);
          })

  -- and n words higher
  pub record Raise (i j n : ℕ) (s : Registers) (b : Bank) (free : List ℕ) : Type 0 where
    pub reach : ComesSilently over fetch 1 4 (record s { pc = p.at i }) (b, free) (record s { sp = s.sp + 4 * n; pc = p.at j })
        (record b { words = drop n b.words }, free)
    pub at : At flash (s.sp + 4 * n) (record b { words = drop n b.words })

  raise_one : (i n : ℕ) (s : Registers) (b : Bank) (free : List ℕ) → slice_get pieces i ≡ Some (Plain (AddSpImm n)) → At flash s.sp b → n ≤ length b.words
      → ComesSilently over fetch 1 2 (record s { pc = p.at i }) (b, free) (record s { sp = s.sp + 4 * n; pc = p.at (i + 1) })
      (record b { words = drop n b.words }, free)
  raise_one i n s b free g h l =
      let s0 : Registers = record s { pc = p.at i } in
      let q : Registers = record s { sp = s.sp + 4 * n; pc = p.behind i } in
      let m = each_goes fetch flash p pieces laid i (Plain (AddSpImm n)) g (omega arith) s0 (b, free) q (record b { words = drop n b.words }, free) refl h
      (add_sp flash (p.behind i) n s0 b free h l) in
      subst (λ k. ComesSilently over fetch 1 2 s0 (b, free) (record s { sp = s.sp + 4 * n; pc = k }) (record b { words = drop n b.words }, free))
      (laid.next i (Plain (AddSpImm n)) g refl) m

  drop_none : (k : ℕ) → ◌≡◌ {A = List ℕ} (drop k []) []
  drop_none zero = refl
  drop_none (suc k) = refl

  dropped_twice : (n m : ℕ) (ws : List ℕ) → drop m (drop n ws) ≡ drop (n + m) ws
  dropped_twice zero m ws = ap (λ k. drop k ws) (omega arith)
  dropped_twice (suc n) m [] = drop_none m ∙ sym (drop_none (suc n + m))
  dropped_twice (suc n) m (w ∷ ws) = let z : suc n + m ≡ suc (n + m) = omega arith in dropped_twice n m ws ∙ ap (λ k. drop k (w ∷ ws)) (sym z)

  pub raised_by : (i n : ℕ) (s : Registers) (b : Bank) (free : List ℕ) → StandAt pieces i (raises n) → At flash s.sp b → n ≤ length b.words
      → Raise i (i + length (raises n)) n s b free
  raised_by i n s b free st h l = by (nat_lt 127 n) refl
    where
      by : (x : Bool) → nat_lt 127 n ≡ x → Raise i (i + length (raises n)) n s b free
      by false e = (
          let eq : raises n ≡ Plain (AddSpImm n) ∷ [] = rw e refl in
          let st' = subst (StandAt pieces i) eq st in
          let m = raise_one i n s b free (ap (slice_get pieces) (omega arith) ∙ st' 0 (omega arith)) h l in
          let z : i + 1 ≡ i + length (raises n) = ap (λ (xs : List Piece). i + length xs) (sym eq) in
          let c = m.few in
          record {
            reach = subst (λ j. ComesSilently over fetch 1 4 (record s { pc = p.at i }) (b, free) (record s { sp = s.sp + 4 * n; pc = p.at j })
                (record b { words = drop n b.words }, free)) z
                (record { count = m.count; some = m.some; few = omega arith; silent = m.silent });
            at = (move_up flash s.sp n b free h l).1;
          })
      by true e = (
          let eq : raises n ≡ Plain (AddSpImm 127) ∷ (Plain (AddSpImm (n - 127)) ∷ []) = rw e refl in
          let k : 127 < n = grind arith in
          let st' = subst (StandAt pieces i) eq st in
          let m1 = raise_one i 127 s b free (ap (slice_get pieces) (omega arith) ∙ st' 0 (omega arith)) h (omega arith) in
          let h1 = (move_up flash s.sp 127 b free h (omega arith)).1 in
          let s1 : Registers = record s { sp = s.sp + 4 * 127 } in
          let b1 : Bank = record b { words = drop 127 b.words } in
          let ld = length-drop 127 b.words in
          let m2 = raise_one (i + 1) (n - 127) s1 b1 free (st' 1 (omega arith)) h1 (omega arith) in
          let h2 = (move_up flash (s.sp + 4 * 127) (n - 127) b1 free h1 (omega arith)).1 in
          let z : i + 1 + 1 ≡ i + length (raises n) = omega arith ∙ ap (λ (xs : List Piece). i + length xs) (sym eq) in
          let zp : s.sp + 4 * 127 + 4 * (n - 127) ≡ s.sp + 4 * n = omega arith in
          let zn : 127 + (n - 127) ≡ n = omega arith in
          let zw : drop (n - 127) (drop 127 b.words) ≡ drop n b.words = dropped_twice 127 (n - 127) b.words ∙ ap (λ y. drop y b.words) zn in
          let m = reaches_add over fetch 1 2 1 2 (record s { pc = p.at i }) (b, free) (record s1 { pc = p.at (i + 1) }) (b1, free)
          (record s { sp = s.sp + 4 * 127 + 4 * (n - 127); pc = p.at (i + 1 + 1) }) (record b { words = drop (n - 127) (drop 127 b.words) }, free) m1 m2 in
          let c = m.few in let c' = m.some in
          record {
            reach = subst (λ j. ComesSilently over fetch 1 4 (record s { pc = p.at i }) (b, free) (record s { sp = s.sp + 4 * n; pc = p.at j })
                (record b { words = drop n b.words }, free)) z
                (subst (λ ws. ComesSilently over fetch 1 4 (record s { pc = p.at i }) (b, free) (record s { sp = s.sp + 4 * n; pc = p.at (i + 1 + 1) })
                (record b { words = ws }, free)) zw
                (subst (λ y. ComesSilently over fetch 1 4 (record s { pc = p.at i }) (b, free) (record s { sp = y; pc = p.at (i + 1 + 1) })
                (record b { words = drop (n - 127) (drop 127 b.words) }, free)) zp
                (record { count = m.count; some = omega arith; few = omega arith; silent = m.silent })));
            at = subst (λ y. At flash y (record b { words = drop n b.words })) zp (subst
                (λ ws. At flash (s.sp + 4 * 127 + 4 * (n - 127)) (record b { words = ws })) zw h2);
          })
