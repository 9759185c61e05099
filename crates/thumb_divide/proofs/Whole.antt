-- The whole routine.
use Rattle.std.proofs.Common.{zero, suc, ◌≡◌, ℕ, ◌+◌, ◌-◌, ◌/◌, ◌%◌, ◌^◌, ◌<◌, ◌≤◌, List, [], ◌∷◌, length, Bool, true, false, nat_lt, refl, sym, ap, ◌∙◌, subst, arith, slice_index}
use Rattle.std.proofs.Math.Nat.{div-le_self, mod-le}
use Rattle.std.specs.Prelude.{ℤ, pos, negsuc}
use Rattle.std.specs.Int.{cast_signed, cast_unsigned, w32}
use Rattle.thumb_code.specs.declared.register_file.Registers.{Registers}
use Rattle.thumb_code.specs.RegisterFile.{is_odd, low}
use Rattle.thumb_code.specs.Step.{Fetched}
use Rattle.thumb_code.specs.Run.{Executor}
use Rattle.bank_model.specs.AllServices.{quotient, remainder}
use Rattle.thumb_divide.specs.Routine.{HoldsRoutine}
use Rattle.thumb_divide.specs.Steady.{Within}
use Rattle.thumb_divide.specs.Divides.{Called, Divided, Divides}
use Rattle.thumb_divide.proofs.Signed.{minus, is_pos, is_neg, quot_pp, quot_pn, quot_np, quot_nn, rem_pp, rem_pn, rem_np, rem_nn}
use Rattle.thumb_divide.proofs.Loop.{IsQuiet, both_up, divisor_below, dividend_below, both_below, by_zero}

abbrev Quotient : ℕ → ℕ → ℕ
Quotient x y = cast_unsigned w32 (quotient (cast_signed w32 x) (cast_signed w32 y))

abbrev Remainder : ℕ → ℕ → ℕ
Remainder x y = cast_unsigned w32 (remainder (cast_signed w32 x) (cast_signed w32 y))

quotient_of : (x y n : ℕ) (z w : ℤ) → cast_signed w32 x ≡ z → cast_signed w32 y ≡ w → cast_unsigned w32 (quotient z w) ≡ n → n ≡ Quotient x y
quotient_of x y n z w e f g = sym (ap (λ u. cast_unsigned w32 (quotient u (cast_signed w32 y))) e ∙ (ap (λ u. cast_unsigned w32 (quotient z u)) f ∙ g))

remainder_of : (x y n : ℕ) (z w : ℤ) → cast_signed w32 x ≡ z → cast_signed w32 y ≡ w → cast_unsigned w32 (remainder z w) ≡ n → n ≡ Remainder x y
remainder_of x y n z w e f g = sym (ap (λ u. cast_unsigned w32 (remainder u (cast_signed w32 y))) e ∙ (ap (λ u. cast_unsigned w32 (remainder z u)) f ∙ g))

-- a divisor of 0
none_is : (x : ℕ) → (0 ≡ Quotient x 0) × (0 ≡ Remainder x 0)
none_is x = (refl, refl)

up_is : (x y : ℕ) → x < 2 ^ 31 → y < 2 ^ 31 → 0 < y → (x / y ≡ Quotient x y) × (x % y ≡ Remainder x y)
up_is x zero l m p = elim (let f : ⊥ = omega arith in f) [ ]
up_is x (suc b) l m p = (
  quotient_of x (suc b) _ (pos x) (pos (suc b)) (is_pos x l) (is_pos (suc b) m) (quot_pp x b (omega arith) (omega arith)),
  remainder_of x (suc b) _ (pos x) (pos (suc b)) (is_pos x l) (is_pos (suc b) m) (rem_pp x b (omega arith) (omega arith)),
)

minus_suc : (x : ℕ) → x < 2 ^ 32 → 2 ^ 31 ≤ x → minus x ≡ suc (4294967295 - x)
minus_suc x l h = omega arith

divisor_is : (x y : ℕ) → x < 2 ^ 31 → y < 2 ^ 32 → 2 ^ 31 ≤ y → (minus (x / minus y) ≡ Quotient x y) × (x % minus y ≡ Remainder x y)
divisor_is x y l m p =
    let b = 4294967295 - y in
    let e = minus_suc y m p in
    let g = is_neg y b m p (omega arith) in (
      ap (λ u. minus (x / u)) e ∙ quotient_of x y _ (pos x) (negsuc b) (is_pos x l) g (quot_pn x b (omega arith) (omega arith)),
      ap (λ u. x % u) e ∙ remainder_of x y _ (pos x) (negsuc b) (is_pos x l) g (rem_pn x b (omega arith) (omega arith)),
    )

dividend_is : (x y : ℕ) → x < 2 ^ 32 → 2 ^ 31 ≤ x → y < 2 ^ 31 → 0 < y → (minus (minus x / y) ≡ Quotient x y) × (minus (minus x % y) ≡ Remainder x y)
dividend_is x zero l h m p = elim (let f : ⊥ = omega arith in f) [ ]
dividend_is x (suc b) l h m p =
    let a = 4294967295 - x in
    let e = minus_suc x l h in
    let g = is_neg x a l h (omega arith) in (
      ap (λ u. minus (u / suc b)) e ∙ quotient_of x (suc b) _ (negsuc a) (pos (suc b)) g (is_pos (suc b) m) (quot_np a b (omega arith) (omega arith)),
      ap (λ u. minus (u % suc b)) e ∙ remainder_of x (suc b) _ (negsuc a) (pos (suc b)) g (is_pos (suc b) m) (rem_np a b (omega arith) (omega arith)),
    )

both_is : (x y : ℕ) → x < 2 ^ 32 → 2 ^ 31 ≤ x → y < 2 ^ 32 → 2 ^ 31 ≤ y → (minus x / minus y ≡ Quotient x y) × (minus (minus x % minus y) ≡ Remainder x y)
both_is x y l h m p =
    let a = 4294967295 - x in let b = 4294967295 - y in
    let e = minus_suc x l h in let f = minus_suc y m p in
    let g = is_neg x a l h (omega arith) in let k = is_neg y b m p (omega arith) in (
      ap (λ u. u / minus y) e ∙ (ap (λ u. suc a / u) f ∙ quotient_of x y _ (negsuc a) (negsuc b) g k (quot_nn a b (omega arith) (omega arith))),
      ap (λ u. minus (u % minus y)) e ∙ (ap (λ u. minus (suc a % u)) f ∙ remainder_of x y _ (negsuc a) (negsuc b) g k (rem_nn a b (omega arith) (omega arith))),
    )

-- R4 to R11 among thirteen
middle : (a b c d h a' b' c' d' h' x4 x5 x6 x7 x8 x9 x10 x11 k : ℕ) → 3 < k → k < 12
    → slice_index (a' ∷ (b' ∷ (c' ∷ (d' ∷ (x4 ∷ (x5 ∷ (x6 ∷ (x7 ∷ (x8 ∷ (x9 ∷ (x10 ∷ (x11 ∷ (h' ∷ []))))))))))))) k ≡ slice_index (a ∷ (b ∷ (c ∷ (d ∷ (x4 ∷ (x5 ∷ (x6 ∷ (x7 ∷ (x8 ∷ (x9 ∷ (x10 ∷ (x11 ∷ (h ∷ []))))))))))))) k
middle a b c d h a' b' c' d' h' x4 x5 x6 x7 x8 x9 x10 x11 zero l m = elim (let f : ⊥ = omega arith in f) [ ]
middle a b c d h a' b' c' d' h' x4 x5 x6 x7 x8 x9 x10 x11 (suc zero) l m = elim (let f : ⊥ = omega arith in f) [ ]
middle a b c d h a' b' c' d' h' x4 x5 x6 x7 x8 x9 x10 x11 (suc (suc zero)) l m = elim (let f : ⊥ = omega arith in f) [ ]
middle a b c d h a' b' c' d' h' x4 x5 x6 x7 x8 x9 x10 x11 (suc (suc (suc zero))) l m = elim (let f : ⊥ = omega arith in f) [ ]
middle a b c d h a' b' c' d' h' x4 x5 x6 x7 x8 x9 x10 x11 (suc (suc (suc (suc zero)))) l m = refl
middle a b c d h a' b' c' d' h' x4 x5 x6 x7 x8 x9 x10 x11 (suc (suc (suc (suc (suc zero))))) l m = refl
middle a b c d h a' b' c' d' h' x4 x5 x6 x7 x8 x9 x10 x11 (suc (suc (suc (suc (suc (suc zero)))))) l m = refl
middle a b c d h a' b' c' d' h' x4 x5 x6 x7 x8 x9 x10 x11 (suc (suc (suc (suc (suc (suc (suc zero))))))) l m = refl
middle a b c d h a' b' c' d' h' x4 x5 x6 x7 x8 x9 x10 x11 (suc (suc (suc (suc (suc (suc (suc (suc zero)))))))) l m = refl
middle a b c d h a' b' c' d' h' x4 x5 x6 x7 x8 x9 x10 x11 (suc (suc (suc (suc (suc (suc (suc (suc (suc zero))))))))) l m = refl
middle a b c d h a' b' c' d' h' x4 x5 x6 x7 x8 x9 x10 x11 (suc (suc (suc (suc (suc (suc (suc (suc (suc (suc zero)))))))))) l m = refl
middle a b c d h a' b' c' d' h' x4 x5 x6 x7 x8 x9 x10 x11 (suc (suc (suc (suc (suc (suc (suc (suc (suc (suc (suc zero))))))))))) l m = refl
middle a b c d h a' b' c' d' h' x4 x5 x6 x7 x8 x9 x10 x11 (suc (suc (suc (suc (suc (suc (suc (suc (suc (suc (suc (suc k)))))))))))) l m = elim (let f : ⊥ = omega arith in f) [ ]

thirteen : (r : List ℕ) → length r ≡ 13 → r ≡ slice_index r 0 ∷ (slice_index r 1 ∷ (slice_index r 2 ∷ (slice_index r 3 ∷ (slice_index r 4 ∷ (slice_index r 5 ∷ (slice_index r 6 ∷ (slice_index r 7 ∷ (slice_index r 8 ∷ (slice_index r 9 ∷ (slice_index r 10 ∷ (slice_index r 11 ∷ (slice_index r 12 ∷ []))))))))))))
thirteen (a ∷ (b ∷ (c ∷ (d ∷ (e ∷ (f ∷ (g ∷ (h ∷ (i ∷ (j ∷ (k ∷ (l ∷ (m ∷ []))))))))))))) e' = refl
thirteen _ e = elim (let f : ⊥ = omega arith in f) [ ]

module _ {S : Type 0} (over : Executor S) (fetch : ℕ → Fetched) (t : S) (sp at : ℕ) (quiet : IsQuiet over t sp) (code : HoldsRoutine fetch at) where
  abbrev Result : Registers → Type 0
  Result s = (q : Registers) × Within over fetch t 231 s q × Divided s q

  module _ (lr : ℕ) (odd : is_odd lr ≡ true) (x4 x5 x6 x7 x8 x9 x10 x11 : ℕ) where
    abbrev state : (flags a d r j h pc : ℕ) → Registers
    state flags a d r j h pc = record { r = a ∷ (d ∷ (r ∷ (j ∷ (x4 ∷ (x5 ∷ (x6 ∷ (x7 ∷ (x8 ∷ (x9 ∷ (x10 ∷ (x11 ∷ (h ∷ [])))))))))))); sp = sp; lr = lr; pc = pc; flags = flags }

    done : (f a d r j h f' q m r' j' h' n : ℕ) → n ≤ 231 → Within over fetch t n (state f a d r j h (at + 0)) (state f' q m r' j' h' (lr - 1)) → (q < 2 ^ 32) × (m < 2 ^ 32) → (q ≡ Quotient a d) × (m ≡ Remainder a d) → Result (state f a d r j h (at + 0))
    done f a d r j h f' q m r' j' h' n l w sm e = (
      state f' q m r' j' h' (lr - 1),
      (let g = w.few in record { count = w.count; few = omega arith; steps = w.steps }),
      record { pc = refl; sp_is = refl; link = refl; registers = refl; quotient_is = e.0; remainder_is = e.1; words = sm; keeps = λ k i o. middle a d r j h q m r' j' h' x4 x5 x6 x7 x8 x9 x10 x11 k i o },
    )

    by_signs : (f a d r j h : ℕ) → a < 2 ^ 32 → d < 2 ^ 32 → 0 < d → (b c : Bool) → nat_lt a (2 ^ 31) ≡ b → nat_lt d (2 ^ 31) ≡ c → Result (state f a d r j h (at + 0))
    by_signs f a d r j h l m p true true u v =
        let w = both_up over fetch t sp lr quiet x4 x5 x6 x7 x8 x9 x10 x11 at code f a d r j h odd (grind arith) (grind arith) p in
        done f a d r j h w.0 _ _ _ _ _ 231 (omega arith) w.1 (let x = div-le_self a d in let y = mod-le a d in (omega arith, omega arith)) (up_is a d (grind arith) (grind arith) p)
    by_signs f a d r j h l m p true false u v =
        let w = divisor_below over fetch t sp lr quiet x4 x5 x6 x7 x8 x9 x10 x11 at code f a d r j h odd (grind arith) m (grind arith) in
        done f a d r j h w.0 _ _ _ _ _ 231 (omega arith) w.1 (let y = mod-le a (minus d) in (omega arith, omega arith)) (divisor_is a d (grind arith) m (grind arith))
    by_signs f a d r j h l m p false true u v =
        let w = dividend_below over fetch t sp lr quiet x4 x5 x6 x7 x8 x9 x10 x11 at code f a d r j h odd l (grind arith) (grind arith) p in
        done f a d r j h w.0 _ _ _ _ _ 231 (omega arith) w.1 (omega arith, omega arith) (dividend_is a d l (grind arith) (grind arith) p)
    by_signs f a d r j h l m p false false u v =
        let w = both_below over fetch t sp lr quiet x4 x5 x6 x7 x8 x9 x10 x11 at code f a d r j h odd l (grind arith) m (grind arith) in
        done f a d r j h w.0 _ _ _ _ _ 231 (omega arith) w.1 (let x = div-le_self (minus a) (minus d) in (omega arith, omega arith)) (both_is a d l (grind arith) m (grind arith))

    by_divisor : (f a d r j h : ℕ) → a < 2 ^ 32 → d < 2 ^ 32 → Result (state f a d r j h (at + 0))
    by_divisor f a zero r j h l m =
        let w = by_zero over fetch t sp lr quiet x4 x5 x6 x7 x8 x9 x10 x11 at code f a r j h odd in
        done f a 0 r j h w.0 _ _ _ _ _ 4 (omega arith) w.1 (omega arith, omega arith) (none_is a)
    by_divisor f a (suc b) r j h l m = by_signs f a (suc b) r j h l m (omega arith) (nat_lt a (2 ^ 31)) (nat_lt (suc b) (2 ^ 31)) refl refl

  divides_at : (s : Registers) → Called sp at s → Result s
  divides_at s c =
      let e = thirteen s.r c.registers in
      let p : s.pc ≡ at + 0 = c.pc ∙ omega arith in
      let z : s ≡ state s.lr c.returns (low s 4) (low s 5) (low s 6) (low s 7) (low s 8) (low s 9) (low s 10) (low s 11) s.flags (low s 0) (low s 1) (low s 2) (low s 3) (low s 12) (at + 0) =
      λ i. record { r = e i; sp = c.sp_is i; lr = s.lr; pc = p i; flags = s.flags } in
      subst Result (sym z) (by_divisor s.lr c.returns (low s 4) (low s 5) (low s 6) (low s 7) (low s 8) (low s 9) (low s 10) (low s 11) s.flags (low s 0) (low s 1) (low s 2) (low s 3) (low s 12) c.dividend c.divisor)

pub divides : {S : Type 0} (over : Executor S) (fetch : ℕ → Fetched) (t : S) (sp at : ℕ) → IsQuiet over t sp → HoldsRoutine fetch at → Divides over fetch t sp at
divides over fetch t sp at q c = divides_at over fetch t sp at q c
