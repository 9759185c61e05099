-- A steady instruction over a bank and any free words.
use Rattle.std.proofs.Common.{◌≡◌, ℕ, ◌+◌, ◌-◌, ◌*◌, ◌/◌, ◌%◌, ◌<◌, ◌≤◌, min, List, [], ◌∷◌, ◌++◌, length, map, drop, Bool, true, false, ◌&&◌, ◌||◌, nat_le, Option, Some, None, refl, ap, ◌∙◌, arith, length-drop, if◌then◌else◌}
use Rattle.std.proofs.lemmas.Bool.Decides.{nat_tests}
use Rattle.std.specs.List.{list_all}
use Rattle.thumb_code.specs.declared.instructions.Instr.{Instr}
use Rattle.thumb_code.specs.declared.instructions.Instr.TheVariants.{Push}
use Rattle.thumb_code.specs.declared.register_file.Registers.{Registers}
use Rattle.thumb_code.specs.RegisterFile.{listed, values}
use Rattle.thumb_code.specs.Effect.{Effect, Outcome, Goes, Asks, Stops, effect, pushes}
use Rattle.thumb_code.specs.Faults.{stack_range}
use Rattle.thumb_code.specs.Map.{stack_at, sp_in_range}
use Rattle.thumb_code.specs.Memory.{after_move, accessed, execute_moving, first_fault}
use Rattle.thumb_code.proofs.Laws.{aligned_sp}
use Rattle.bank_model.specs.Bank.{Bank, bank_sp, bank_move, bank_memory}
use Rattle.bank_model.specs.Standing.{IsInside}
use Rattle.bank_model.specs.Runs.{is_plain, is_push, is_steady}
use Rattle.bank_model.proofs.FreeLoads.{Steady, Went, Asked_for, Failed, with_free, outcome, ends, unless, value, stored, up_free, move_nowhere, stores_size}
use Rattle.bank_model.proofs.FreePush.{push_free, push_outcome, push_down, length_pushed}

-- The bank's words reach from SP up to the base.
pub record Holds (b : Bank) (sp : ℕ) : Type 0 where
  pub span : sp + 4 * length b.words ≡ b.base
  pub inside : IsInside sp b.base

-- What an instruction comes to holds so, on the same base.
abbrev pub HoldsAfter : ℕ → Steady → Type 0
HoldsAfter base (Went r b) = Holds b r.sp × (b.base ≡ base)
HoldsAfter base (Asked_for n r b) = Holds b r.sp × (b.base ≡ base)
HoldsAfter base (Failed k) = Unit {0}

unless_holds : (base : ℕ) (o : Option ℕ) (x : Steady) → HoldsAfter base x → HoldsAfter base (unless o x)
unless_holds base (Some k) x h = tt
unless_holds base None x h = h

-- What it comes to, whatever the free words are; of these some are left.
pub record Comes (b : Bank) (s : Registers) (e : Effect) : Type 0 where
  pub out : Steady
  pub left : List ℕ → List ℕ
  pub comes : (free : List ℕ) → execute_moving bank_memory bank_move (b, free) s.sp e ≡ with_free (left free) out
  pub holds : HoldsAfter b.base out

range_true : (base n : ℕ) → sp_in_range base n ≡ true → (stack_at ≤ n) × (n ≤ base)
range_true base n e = grind (arith, nat_tests)

module _ (b : Bank) (s : Registers) (h : Holds b s.sp) where
  sp_is : bank_sp b ≡ s.sp
  sp_is = let p = h.span in omega arith

  -- SP isn't lowered.
  ends_holds : (c : Bank) (sp : ℕ) (o : Outcome) → c.base ≡ b.base → length c.words ≡ length b.words → s.sp ≤ sp → sp % 4 ≡ 0 → stack_at ≤ sp → sp ≤ b.base → HoldsAfter b.base (ends c sp o)
  ends_holds c sp o eb ew l d low high = by_outcome o
    where
      spot : bank_sp c ≡ s.sp
      spot = let p = h.span in omega (arith, eb, ew)

      holds : Holds (record c { words = drop ((sp - bank_sp c) / 4) c.words }) sp
      holds =
          let k = (sp - bank_sp c) / 4 in
          let n = length-drop k c.words in
          record {
            span = omega (arith, n, spot, eb, ew, h.span, h.inside.sp_aligned);
            inside = record { sp_aligned = d; aligned = omega (arith, eb, h.inside.aligned); low = low; within = omega (arith, eb); high = omega (arith, eb, h.inside.high) };
          }

      by_outcome : (o : Outcome) → HoldsAfter b.base (ends c sp o)
      by_outcome (Goes r) = (holds, eb)
      by_outcome (Asks n r) = (holds, eb)
      by_outcome (Stops k) = tt

  upward : (e : Effect) → list_all (is_plain b) e.loads ≡ true → s.sp ≤ e.sp → e.sp % 4 ≡ 0 → (t : Bool) → sp_in_range b.base e.sp ≡ t → Comes b s e
  upward e plain l d false r = record { out = Failed stack_range; left = λ free. free; comes = λ free. rw r refl; holds = tt }
  upward e plain l d true r =
      let range = range_true b.base e.sp r in
      let m : min s.sp e.sp ≡ bank_sp b = omega (arith, sp_is) in
      let size = stores_size e.stores b in
      record {
        out = outcome b e;
        left = λ free. free;
        comes = λ free. rw r (ap (λ n. after_move bank_move (accessed bank_memory (bank_move (b, free) n) e)) m ∙ ap (λ x. after_move bank_move (accessed bank_memory x e)) (move_nowhere b free) ∙ up_free b free e plain (omega (arith, sp_is)));
        holds = unless_holds b.base (first_fault bank_memory (b, []) false e.loads) _ (unless_holds b.base (first_fault bank_memory (b, []) true (map (λ p. p.0) e.stores)) _
            (ends_holds (stored b e) e.sp (e.after (map (value b) e.loads)) size.base size.size l d range.0 range.1));
      }

  -- PUSH lowers SP.
  downward : (next : ℕ) (vs : List ℕ) → (pushes next s vs).sp < s.sp → (t : Bool) → sp_in_range b.base (pushes next s vs).sp ≡ t → Comes b s (pushes next s vs)
  downward next vs l false r = record { out = Failed stack_range; left = λ free. free; comes = λ free. rw r refl; holds = tt }
  downward next vs l true r =
      let e = pushes next s vs in
      let range = range_true b.base e.sp r in
      let m : min s.sp e.sp ≡ e.sp = omega arith in
      let by : s.sp ≡ e.sp + 4 * length vs = push_down s.sp (length vs) e.sp refl l (omega (arith, h.inside.within, h.inside.high)) in
      let p = λ (free : List ℕ). push_free b free next s vs h.span h.inside.sp_aligned h.inside.high l range.0 in
      let size = length_pushed vs b.words in
      record {
        out = push_outcome b next s vs;
        left = λ free. (p free).left;
        comes = λ free. rw r (ap (λ n. after_move bank_move (accessed bank_memory (bank_move (b, free) n) e)) m ∙ (p free).comes);
        holds = unless_holds b.base (first_fault bank_memory (b, []) true (map (λ p. p.0) e.stores)) _ (
          record {
            span = omega (arith, size, by, h.span);
            inside = record { sp_aligned = omega (arith, by, h.inside.sp_aligned); aligned = h.inside.aligned; low = range.0; within = range.1; high = h.inside.high };
          },
          refl,
        );
      }

both : (x y : Bool) → (x && y) ≡ true → (x ≡ true) × (y ≡ true)
both true true e = (refl, refl)
both true false e = absurd (cc)
both false y e = absurd (cc)

second : (x y : Bool) → (x || y) ≡ true → y ≡ false → x ≡ true
second true y e f = refl
second false true e f = absurd (cc)
second false false e f = absurd (cc)

by_push : (b : Bank) (s : Registers) → Holds b s.sp → (next : ℕ) (i : Instr) → is_push i ≡ true → (effect next s i).sp < s.sp → Comes b s (effect next s i)
by_push b s h next (Push list m) p l =
    downward b s h next (if m then values s (listed list) ++ s.lr ∷ [] else values s (listed list)) l (sp_in_range b.base (effect next s (Push list m)).sp) refl
by_push b s h next _ p l = absurd (cc)

-- A steady instruction.
pub steady_comes : (b : Bank) (s : Registers) → Holds b s.sp → (next : ℕ) (i : Instr) → is_steady b s.sp i (effect next s i) ≡ true → Comes b s (effect next s i)
steady_comes b s h next i st = by_order (nat_le s.sp (effect next s i).sp) refl
  where
    parts : (list_all (is_plain b) (effect next s i).loads ≡ true) × ((is_push i || nat_le s.sp (effect next s i).sp) ≡ true)
    parts = both _ _ st

    by_order : (t : Bool) → nat_le s.sp (effect next s i).sp ≡ t → Comes b s (effect next s i)
    by_order true e = upward b s h (effect next s i) parts.0 (grind (arith, nat_tests)) (aligned_sp i next s h.inside.sp_aligned) (sp_in_range b.base (effect next s i).sp) refl
    by_order false e = by_push b s h next i (second (is_push i) (nat_le s.sp (effect next s i).sp) parts.1 e) (grind (arith, nat_tests))
