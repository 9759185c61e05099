-- The routine, part by part.
use Rattle.std.proofs.Common.{zero, suc, ◌≡◌, ℕ, ◌+◌, ◌*◌, ◌-◌, ◌/◌, ◌%◌, ◌^◌, ◌<◌, ◌≤◌, List, [], ◌∷◌, ◌++◌, length, Bool, true, false, nat_lt, refl, sym, ap, ◌∙◌, subst, arith, slice_get, Some, ◌==◌}
use Rattle.std.specs.Prelude.{not, ℤ, pos, negsuc}
use Rattle.std.specs.Int.{cast_unsigned, w32}
use Rattle.std.proofs.lemmas.Nat.{mul-le, pow_pos}
use Rattle.std.proofs.Math.Nat.{div-le_self}
use Rattle.thumb_code.specs.declared.instructions.Instr.{Instr}
use Rattle.thumb_code.specs.declared.instructions.Instr.TheVariants.{LslImm, LsrImm, CmpImm, MovImm, Rsb, AddImm8, MovHigh, Adc, CmpReg, SubReg, SubImm8, BCond, B, Bx}
use Rattle.thumb_code.specs.declared.register_file.Registers.{Registers}
use Rattle.thumb_code.specs.RegisterFile.{word, is_odd}
use Rattle.thumb_code.specs.Arithmetic.{sum_flags, inverted, nzc, nz, carry, holds}
use Rattle.thumb_code.specs.Forms.{ends, Goes}
use Rattle.thumb_code.specs.Map.{flash_end}
use Rattle.thumb_code.specs.Memory.{Done}
use Rattle.thumb_code.specs.Effect.{effect}
use Rattle.thumb_code.specs.Step.{Fetched, Found, ran, stepped_at}
use Rattle.thumb_code.specs.Run.{Executor}
use Rattle.thumb_divide.specs.Routine.{routine, signs, skips, skip_to, round_above, rounds_above, last_round, signs_again, HoldsRoutine}
use Rattle.thumb_divide.specs.Steady.{One, Steps, Within}
use Rattle.thumb_divide.proofs.Signed.{minus}
use Rattle.thumb_divide.proofs.Sums.{cc_below, cc_not, carry_below, carry_not, pl_pos, pl_neg, eq_not, Rest, rest_less, rest_more, rest_last, below_shifted, not_below_shifted}

-- over this memory, at this SP, an effect without accesses that leaves SP changes the registers alone
abbrev pub IsQuiet : {S : Type 0} → Executor S → S → ℕ → Type 0
IsQuiet over t sp = (r q : Registers) → r.sp ≡ sp → q.sp ≡ sp → over r t (ends q.sp (Goes q)) ≡ Done q t

-- Instructions are fetched from an address on.
abbrev pub Holds : (ℕ → Fetched) → ℕ → List Instr → Type 0
Holds fetch p xs = (i : ℕ) (x : Instr) → slice_get xs i ≡ Some x → fetch (p + 2 * i) ≡ Found x (p + (2 * i + 2))

get_front : (xs ys : List Instr) (i : ℕ) (x : Instr) → slice_get xs i ≡ Some x → slice_get (xs ++ ys) i ≡ Some x
get_front [] ys i x e = let f : ⊥ = cc in absurd f
get_front (z ∷ xs) ys zero x e = e
get_front (z ∷ xs) ys (suc i) x e = get_front xs ys i x e

get_back : (xs ys : List Instr) (i : ℕ) → slice_get (xs ++ ys) (length xs + i) ≡ slice_get ys i
get_back [] ys i = let e : 0 + i ≡ i = omega arith in ap (slice_get ys) e
get_back (z ∷ xs) ys i = let e : suc (length xs) + i ≡ suc (length xs + i) = omega arith in ap (slice_get (z ∷ (xs ++ ys))) e ∙ get_back xs ys i

front : (fetch : ℕ → Fetched) (p : ℕ) (xs ys : List Instr) → Holds fetch p (xs ++ ys) → Holds fetch p xs
front fetch p xs ys code i x e = code i x (get_front xs ys i x e)

rest_of : (fetch : ℕ → Fetched) (p : ℕ) (xs ys : List Instr) (n : ℕ) → 2 * length xs ≡ n → Holds fetch p (xs ++ ys) → Holds fetch (p + n) ys
rest_of fetch p xs ys n l code i x e =
    let c = code (length xs + i) x (get_back xs ys i ∙ e) in
    let a : p + 2 * (length xs + i) ≡ p + n + 2 * i = omega arith in
    let b : p + (2 * (length xs + i) + 2) ≡ p + n + (2 * i + 2) = omega arith in
    ap fetch (sym a) ∙ c ∙ ap (Found x) b

module _ {S : Type 0} (over : Executor S) (fetch : ℕ → Fetched) (t : S) (sp lr : ℕ) (quiet : IsQuiet over t sp) (x4 x5 x6 x7 x8 x9 x10 x11 : ℕ) where
  -- before the i-th instruction from p on
  abbrev st : (p i flags q d a j h : ℕ) → Registers
  st p i flags q d a j h = record { r = q ∷ (d ∷ (a ∷ (j ∷ (x4 ∷ (x5 ∷ (x6 ∷ (x7 ∷ (x8 ∷ (x9 ∷ (x10 ∷ (x11 ∷ (h ∷ [])))))))))))); sp = sp; lr = lr; pc = p + 2 * i; flags = flags }

  abbrev Most : ℕ → Registers → Registers → Type 0
  Most n r q = Within over fetch t n r q

  step : (r m q : Registers) (n : ℕ) → One over fetch t r m → Most n m q → Most (n + 1) r q
  step r m q n o w = let f = w.few in record { count = suc w.count; few = omega arith; steps = (m, o, w.steps) }

  none : (r : Registers) (n : ℕ) → Most n r r
  none r n = record { count = 0; few = omega arith; steps = refl }

  add_steps : (n : ℕ) (r m q : Registers) (k : ℕ) → Steps over fetch t n r m → Steps over fetch t k m q → Steps over fetch t (n + k) r q
  add_steps zero r m q k e w = let z : 0 + k ≡ k = omega arith in rw (z, e) w
  add_steps (suc n) r m q k w w' = let z : suc n + k ≡ suc (n + k) = omega arith in rw z (w.0, w.1, add_steps n w.0 m q k w.2 w')

  then : (n k : ℕ) (r m q : Registers) → Most n r m → Most k m q → Most (n + k) r q
  then n k r m q v w = let f = v.few in let g = w.few in record { count = v.count + w.count; few = omega arith; steps = add_steps v.count r m q w.count v.steps w.steps }

  more : (n k : ℕ) (r q : Registers) → n ≤ k → Most n r q → Most k r q
  more n k r q l w = let f = w.few in record { count = w.count; few = omega arith; steps = w.steps }

  step3 : (n : ℕ) (r m o k q : Registers) → One over fetch t r m → One over fetch t m o → One over fetch t o k → Most n k q → Most (n + 3) r q
  step3 n r m o k q a b c w = let f = w.few in record { count = suc (suc (suc w.count)); few = omega arith; steps = (m, a, (o, b, (k, c, w.steps))) }

  -- the same place, by another address
  moved : (p i p' i' n f q d a j h : ℕ) (r : Registers) → p + 2 * i ≡ p' + 2 * i' → Most n r (st p i f q d a j h) → Most n r (st p' i' f q d a j h)
  moved p i p' i' n f q d a j h r e w = subst (λ z. Most n r (record (st p i f q d a j h) { pc = z })) e w

  from : (p i p' i' n f q d a j h : ℕ) (r : Registers) → p + 2 * i ≡ p' + 2 * i' → Most n (st p' i' f q d a j h) r → Most n (st p i f q d a j h) r
  from p i p' i' n f q d a j h r e w = subst (λ z. Most n (record (st p i f q d a j h) { pc = z }) r) (sym e) w

  module _ (xs : List Instr) (p : ℕ) (code : Holds fetch p xs) where
    one : (i : ℕ) (x : Instr) (r q : Registers) → slice_get xs i ≡ Some x → r.pc ≡ p + 2 * i → r.sp ≡ sp → q.sp ≡ sp → effect (p + (2 * i + 2)) r x ≡ ends q.sp (Goes q) → One over fetch t r q
    one i x r q e c u v w =
        ap (λ a. ran (over r t) r (fetch a)) c
        ∙ (ap (ran (over r t) r) (code i x e)
        ∙ (ap (λ y. stepped_at r.pc (over r t y)) w
        ∙ ap (stepped_at r.pc) (quiet r q u v)))

    -- a conditional branch, by where it goes
    taken : (i g c : ℕ) (o : ℤ) (f q d a j h : ℕ) → slice_get xs i ≡ Some (BCond c o) → holds f c ≡ true → word (word (p + 2 * i + 4) + cast_unsigned w32 o) ≡ g + 2 * 0
        → One over fetch t (st p i f q d a j h) (st g 0 f q d a j h)
    taken i g c o f q d a j h e m w = one i (BCond c o) (st p i f q d a j h) (st g 0 f q d a j h) e refl refl refl (rw m (ap (λ x. ends sp (Goes (record (st p i f q d a j h) { pc = x }))) w))

    jumps : (i k c : ℕ) (o : ℤ) (f q d a j h : ℕ) → slice_get xs i ≡ Some (BCond c o) → holds f c ≡ true → word (word (p + 2 * i + 4) + cast_unsigned w32 o) ≡ p + 2 * k
        → One over fetch t (st p i f q d a j h) (st p k f q d a j h)
    jumps i k c o f q d a j h e m w = one i (BCond c o) (st p i f q d a j h) (st p k f q d a j h) e refl refl refl (rw m (ap (λ x. ends sp (Goes (record (st p i f q d a j h) { pc = x }))) w))

    stays : (i k c : ℕ) (o : ℤ) (f q d a j h : ℕ) → slice_get xs i ≡ Some (BCond c o) → holds f c ≡ false → 2 * i + 2 ≡ 2 * k
        → One over fetch t (st p i f q d a j h) (st p k f q d a j h)
    stays i k c o f q d a j h e m w = one i (BCond c o) (st p i f q d a j h) (st p k f q d a j h) e refl refl refl (rw m (ap (λ x. ends sp (Goes (record (st p i f q d a j h) { pc = p + x }))) w))

    goes : (i g : ℕ) (o : ℤ) (f q d a j h : ℕ) → slice_get xs i ≡ Some (B o) → word (word (p + 2 * i + 4) + cast_unsigned w32 o) ≡ g + 2 * 0
        → One over fetch t (st p i f q d a j h) (st g 0 f q d a j h)
    goes i g o f q d a j h e w = one i (B o) (st p i f q d a j h) (st g 0 f q d a j h) e refl refl refl (ap (λ x. ends sp (Goes (record (st p i f q d a j h) { pc = x }))) w)

    -- R2 shifted to the right, into R3
    shift_down : (i k f q d a j h : ℕ) → slice_get xs i ≡ Some (LsrImm 3 2 k) → 1 ≤ k
        → One over fetch t (st p i f q d a j h) (record (st p i (nzc f (a / 2 ^ k) (a / 2 ^ (k - 1) % 2)) q d a (a / 2 ^ k) h) { pc = p + (2 * i + 2) })
    shift_down i k f q d a j h e l =
        let z : (k == 0) ≡ false = grind arith in
        one i (LsrImm 3 2 k) (st p i f q d a j h) (record (st p i (nzc f (a / 2 ^ k) (a / 2 ^ (k - 1) % 2)) q d a (a / 2 ^ k) h) { pc = p + (2 * i + 2) }) e refl refl refl (rw z (rw z refl))

    -- R1 shifted to the left, into R3
    shift_up : (i k f q d a j h D : ℕ) → slice_get xs i ≡ Some (LslImm 3 1 k) → 1 ≤ k → word (d * 2 ^ k) ≡ D
        → One over fetch t (st p i f q d a j h) (record (st p i (nzc f D (d * 2 ^ k / 2 ^ 32 % 2)) q d a D h) { pc = p + (2 * i + 2) })
    shift_up i k f q d a j h D e l w =
        let z : (k == 0) ≡ false = grind arith in
        one i (LslImm 3 1 k) (st p i f q d a j h) (record (st p i (nzc f D (d * 2 ^ k / 2 ^ 32 % 2)) q d a D h) { pc = p + (2 * i + 2) }) e refl refl refl (rw z (rw w refl))

    -- a bit comes into the quotient
    bit_in : (i f q d a j h c v : ℕ) → slice_get xs i ≡ Some (Adc 0 0) → carry f ≡ c → word (q + q + c) ≡ v
        → One over fetch t (st p i f q d a j h) (record (st p i (sum_flags q q c) v d a j h) { pc = p + (2 * i + 2) })
    bit_in i f q d a j h c v e g w = one i (Adc 0 0) (st p i f q d a j h) (record (st p i (sum_flags q q c) v d a j h) { pc = p + (2 * i + 2) }) e refl refl refl (rw g (rw w refl))

  -- the rounds so far: to a state whose flags and R3 may be any
  record Down (n d k most p h : ℕ) (r : Registers) : Type 0 where
    f' : ℕ
    q' : ℕ
    a' : ℕ
    j' : ℕ
    rest : Rest n d k q' a'
    went : Most most r (st p 0 f' q' d a' j' h)

  at_most : (q D a n : ℕ) → 0 < D → q * D + a ≡ n → q + a ≤ n
  at_most q D a n p e = let m = mul_more q D p in omega arith
    where
      mul_more : (q D : ℕ) → 0 < D → q ≤ q * D
      mul_more zero D p = omega arith
      mul_more (suc q) D p = let m = mul_more q D p in grind arith

  d_positive : (d k : ℕ) → 0 < d → 0 < d * 2 ^ k
  d_positive d k z = let p = pow_pos k in let m = mul-le 1 1 d (2 ^ k) z p in omega arith

  -- one round, by whether the divisor times 2^k is at most what is left
  round : (n d k p f q a j h : ℕ) → n < 2 ^ 32 → 1 ≤ k → 0 < d → d < 2 ^ 32 → p + 12 ≤ flash_end → Holds fetch p (round_above k) → Rest n d (suc k) q a → (b : Bool) → nat_lt (a / 2 ^ k) d ≡ b
      → Down n d k 6 (p + 12) h (st p 0 f q d a j h)
  round n d k p f q a j h l u z small low code x true e =
      let m : a / 2 ^ k < d = grind arith in
      let below = below_shifted a d k m in
      let y = rest_less n d k q a x below in
      let few = at_most (2 * q) (d * 2 ^ k) a n (d_positive d k z) y.whole in
      let v = a / 2 ^ k in
      let f0 = nzc f v (a / 2 ^ (k - 1) % 2) in
      let fc = sum_flags v (inverted d) 1 in
      record {
        f' = sum_flags q q 0;
        q' = 2 * q;
        a' = a;
        j' = v;
        rest = y;
        went = moved p 6 (p + 12) 0 6 (sum_flags q q 0) (2 * q) d a v h _ (omega arith)
            (step _ _ _ 5 (shift_down (round_above k) p code 0 k f q d a j h refl u)
            (step _ _ _ 4 (one (round_above k) p code 1 (CmpReg 3 1) (st p 1 f0 q d a v h) (st p 2 fc q d a v h) refl refl refl refl refl)
            (step _ _ _ 3 (jumps (round_above k) p code 2 5 3 (pos 2) fc q d a v h refl (cc_below v d small m) (omega arith))
            (step _ _ _ 2 (bit_in (round_above k) p code 5 fc q d a v h 0 (2 * q) refl (carry_below v d small m) (omega arith))
            (none (st p 6 (sum_flags q q 0) (2 * q) d a v h) 2)))));
      }
  round n d k p f q a j h l u z small low code x false e =
      let m : d ≤ a / 2 ^ k = grind arith in
      let above = not_below_shifted a d k m in
      let y = rest_more n d k q a x above in
      let D = d * 2 ^ k in
      let few = at_most (2 * q + 1) D (a - D) n (d_positive d k z) y.whole in
      let v = a / 2 ^ k in
      let f0 = nzc f v (a / 2 ^ (k - 1) % 2) in
      let fc = sum_flags v (inverted d) 1 in
      let f1 = nzc fc D (D / 2 ^ 32 % 2) in
      let fs = sum_flags a (inverted D) 1 in
      let all = at_most q (d * 2 ^ suc k) a n (d_positive d (suc k) z) x.whole in
      let vs = div-le_self a (2 ^ k) in
      record {
        f' = sum_flags q q 1;
        q' = 2 * q + 1;
        a' = a - D;
        j' = D;
        rest = y;
        went = moved p 6 (p + 12) 0 6 (sum_flags q q 1) (2 * q + 1) d (a - D) D h _ (omega arith)
            (step _ _ _ 5 (shift_down (round_above k) p code 0 k f q d a j h refl u)
            (step _ _ _ 4 (one (round_above k) p code 1 (CmpReg 3 1) (st p 1 f0 q d a v h) (st p 2 fc q d a v h) refl refl refl refl refl)
            (step _ _ _ 3 (stays (round_above k) p code 2 3 3 (pos 2) fc q d a v h refl (cc_not v d (omega arith) m) refl)
            (step _ _ _ 2 (shift_up (round_above k) p code 3 k fc q d a v h D refl u (omega arith))
            (step _ _ _ 1 (one (round_above k) p code 4 (SubReg 2 2 3) (st p 4 f1 q d a D h) (st p 5 fs q d (a - D) D h) refl refl refl refl (let g : word (a + inverted D + 1) ≡ a - D = omega arith in rw g refl))
            (step _ _ _ 0 (bit_in (round_above k) p code 5 fs q d (a - D) D h 1 (2 * q + 1) refl (carry_not a D (omega arith) above) (omega arith))
            (none (st p 6 (sum_flags q q 1) (2 * q + 1) d (a - D) D h) 0)))))));
      }

  -- so many rounds
  rounds : (n d k more p f q a j h : ℕ) → n < 2 ^ 32 → 1 ≤ k → 0 < d → d < 2 ^ 32 → p + 12 * more ≤ flash_end → Holds fetch p (rounds_above more k) → Rest n d (more + k) q a
      → Down n d k (6 * more) (p + 12 * more) h (st p 0 f q d a j h)
  rounds n d k zero p f q a j h l u z small low code x = record {
    f' = f;
    q' = q;
    a' = a;
    j' = j;
    rest = subst (λ i. Rest n d i q a) (omega arith) x;
    went = moved p 0 (p + 12 * 0) 0 _ f q d a j h _ (omega arith) (none (st p 0 f q d a j h) _);
  }
  rounds n d k (suc more) p f q a j h l u z small low code x =
      let c0 = front fetch p (round_above (more + k)) (rounds_above more k) code in
      let c1 = rest_of fetch p (round_above (more + k)) (rounds_above more k) 12 refl code in
      let y : Rest n d (suc (more + k)) q a = subst (λ i. Rest n d i q a) (omega arith) x in
      let w = round n d (more + k) p f q a j h l (omega arith) z small (omega arith) c0 y (nat_lt (a / 2 ^ (more + k)) d) refl in
      let r = rounds n d k more (p + 12) w.f' w.q' w.a' w.j' h l u z small (omega arith) c1 w.rest in record {
        f' = r.f';
        q' = r.q';
        a' = r.a';
        j' = r.j';
        rest = r.rest;
        went = moved (p + 12 + 12 * more) 0 (p + 12 * suc more) 0 _ r.f' r.q' d r.a' r.j' h _ (omega arith) (then_as 6 (6 * more) (6 * suc more) _ _ _ (omega arith) w.went r.went);
      }
    where
      then_as : (n k m : ℕ) (r s q : Registers) → n + k ≡ m → Most n r s → Most k s q → Most m r q
      then_as n k m r s q e v w = subst (λ i. Most i r q) e (then n k r s q v w)

  -- The lowest bit: R0 is the quotient then, and R2 the remainder.
  last : (n d p f q a j h : ℕ) → n < 2 ^ 32 → 0 < d → d < 2 ^ 32 → p + 8 ≤ flash_end → Holds fetch p last_round → Rest n d 1 q a → (b : Bool) → nat_lt a d ≡ b
      → (f' : ℕ) × Most 4 (st p 0 f q d a j h) (st p 4 f' (n / d) d (n % d) j h)
  last n d p f q a j h l z small low code x true e =
      let m : a < d = grind arith in
      let y = rest_less n d 0 q a x (subst (λ i. a < i) (omega arith) m) in
      let o = rest_last n d (2 * q) a y in
      let few = at_most (2 * q) (d * 2 ^ 0) a n (d_positive d 0 z) y.whole in
      let fc = sum_flags a (inverted d) 1 in (
        sum_flags q q 0,
        subst (λ i. Most 4 (st p 0 f q d a j h) (st p 4 (sum_flags q q 0) i d (n % d) j h)) o.0
            (subst (λ i. Most 4 (st p 0 f q d a j h) (st p 4 (sum_flags q q 0) (2 * q) d i j h)) o.1
            (step _ _ _ 3 (one last_round p code 0 (CmpReg 2 1) (st p 0 f q d a j h) (st p 1 fc q d a j h) refl refl refl refl refl)
            (step _ _ _ 2 (jumps last_round p code 1 3 3 (pos 0) fc q d a j h refl (cc_below a d small m) (omega arith))
            (step _ _ _ 1 (bit_in last_round p code 3 fc q d a j h 0 (2 * q) refl (carry_below a d small m) (omega arith))
            (none (st p 4 (sum_flags q q 0) (2 * q) d a j h) 1))))),
      )
  last n d p f q a j h l z small low code x false e =
      let m : d ≤ a = grind arith in
      let y = rest_more n d 0 q a x (subst (λ i. i ≤ a) (omega arith) m) in
      let y' = subst (λ i. Rest n d 0 (2 * q + 1) (a - i)) (d_is d) y in
      let o = rest_last n d (2 * q + 1) (a - d) y' in
      let few = at_most (2 * q + 1) (d * 2 ^ 0) (a - d) n (d_positive d 0 z) y'.whole in
      let all = at_most q (d * 2 ^ 1) a n (d_positive d 1 z) x.whole in
      let fc = sum_flags a (inverted d) 1 in (
        sum_flags q q 1,
        subst (λ i. Most 4 (st p 0 f q d a j h) (st p 4 (sum_flags q q 1) i d (n % d) j h)) o.0
            (subst (λ i. Most 4 (st p 0 f q d a j h) (st p 4 (sum_flags q q 1) (2 * q + 1) d i j h)) o.1
            (step _ _ _ 3 (one last_round p code 0 (CmpReg 2 1) (st p 0 f q d a j h) (st p 1 fc q d a j h) refl refl refl refl refl)
            (step _ _ _ 2 (stays last_round p code 1 2 3 (pos 0) fc q d a j h refl (cc_not a d (omega arith) m) refl)
            (step _ _ _ 1 (one last_round p code 2 (SubReg 2 2 1) (st p 2 fc q d a j h) (st p 3 fc q d (a - d) j h) refl refl refl refl (let g : word (a + inverted d + 1) ≡ a - d = omega arith in rw g refl))
            (step _ _ _ 0 (bit_in last_round p code 3 fc q d (a - d) j h 1 (2 * q + 1) refl (carry_not a d (omega arith) m) (omega arith))
            (none (st p 4 (sum_flags q q 1) (2 * q + 1) d (a - d) j h) 0)))))),
      )
    where
      d_is : (d : ℕ) → d * 2 ^ 0 ≡ d
      d_is d = omega arith

  -- to a state whose flags and R3 may be any
  abbrev Went : ℕ → Registers → (ℕ → ℕ → Registers) → Type 0
  Went n r q = (f : ℕ) × (j : ℕ) × Most n r (q f j)

  -- the rounds from that of 2^m down to the lowest
  lower : (n d m p f q a j h : ℕ) → n < 2 ^ 32 → 0 < d → d < 2 ^ 32 → p + 12 * m + 8 ≤ flash_end → Holds fetch p (rounds_above m 1) → Holds fetch (p + 12 * m) last_round → Rest n d (m + 1) q a
      → Went (6 * m + 4) (st p 0 f q d a j h) (λ f' j'. st (p + 12 * m) 4 f' (n / d) d (n % d) j' h)
  lower n d m p f q a j h l z small low code code' x =
      let w = rounds n d 1 m p f q a j h l (omega arith) z small (omega arith) code x in
      let y = last n d (p + 12 * m) w.f' w.q' w.a' w.j' h l z small (omega arith) code' w.rest (nat_lt w.a' d) refl in
      (y.0, w.j', then (6 * m) 4 _ _ _ w.went y.1)

  -- where the quotient has at most so many bits, to the round of the highest of them, and else on
  skip : (n d bits o p g most f j h : ℕ) (end : ℕ → ℕ → Registers) → n < 2 ^ 32 → d < 2 ^ 32 → 1 ≤ bits → Holds fetch p (skip_to bits o) → word (word (p + 2 * 2 + 4) + cast_unsigned w32 (pos o)) ≡ g + 2 * 0
      → (Rest n d bits 0 n → (f' j' : ℕ) → Went most (st g 0 f' 0 d n j' h) end)
      → ((f' j' : ℕ) → Went most (st (p + 6) 0 f' 0 d n j' h) end)
      → (b : Bool) → nat_lt (n / 2 ^ bits) d ≡ b → Went (most + 3) (st p 0 f 0 d n j h) end
  skip n d bits o p g most f j h end l small u code w there on true e =
      let m : n / 2 ^ bits < d = grind arith in
      let v = n / 2 ^ bits in
      let f0 = nzc f v (n / 2 ^ (bits - 1) % 2) in
      let fc = sum_flags v (inverted d) 1 in
      let y = there (record { whole = omega arith; rest = below_shifted n d bits m }) fc v in (
        y.0,
        y.1,
        step3 most _ _ _ _ _ (shift_down (skip_to bits o) p code 0 bits f 0 d n j h refl u)
            (one (skip_to bits o) p code 1 (CmpReg 3 1) (st p 1 f0 0 d n v h) (st p 2 fc 0 d n v h) refl refl refl refl refl)
            (taken (skip_to bits o) p code 2 g 3 (pos o) fc 0 d n v h refl (cc_below v d small m) w)
            y.2,
      )
  skip n d bits o p g most f j h end l small u code w there on false e =
      let m : d ≤ n / 2 ^ bits = grind arith in
      let v = n / 2 ^ bits in
      let vs = div-le_self n (2 ^ bits) in
      let f0 = nzc f v (n / 2 ^ (bits - 1) % 2) in
      let fc = sum_flags v (inverted d) 1 in
      let y = on fc v in (
        y.0,
        y.1,
        step3 most _ _ _ _ _ (shift_down (skip_to bits o) p code 0 bits f 0 d n j h refl u)
            (one (skip_to bits o) p code 1 (CmpReg 3 1) (st p 1 f0 0 d n v h) (st p 2 fc 0 d n v h) refl refl refl refl refl)
            (stays (skip_to bits o) p code 2 3 3 (pos o) fc 0 d n v h refl (cc_not v d (omega arith) m) refl)
            (from p 3 (p + 6) 0 most fc 0 d n v h _ (omega arith) y.2),
      )

  -- The routine from an address on, with what lies where in it.
  module _ (at : ℕ) (code : HoldsRoutine fetch at) where
    abbrev after_signs : List Instr
    after_signs = skips ++ (rounds_above 15 1 ++ (last_round ++ (signs_again ++ (rounds_above 16 16 ++ (B (negsuc 403) ∷ [])))))

    whole_code : Holds fetch at routine
    whole_code = code.each

    signs_code : Holds fetch at signs
    signs_code = front fetch at signs after_signs whole_code

    abbrev after_skips : List Instr
    after_skips = rounds_above 15 1 ++ (last_round ++ (signs_again ++ (rounds_above 16 16 ++ (B (negsuc 403) ∷ []))))

    rest_code : Holds fetch (at + 32) (skips ++ after_skips)
    rest_code = rest_of fetch at signs after_signs 32 refl whole_code

    skips_code : Holds fetch (at + 32) skips
    skips_code = front fetch (at + 32) skips after_skips rest_code

    moved_code : (p p' : ℕ) (xs : List Instr) → p ≡ p' → Holds fetch p xs → Holds fetch p' xs
    moved_code p p' xs e c = subst (λ i. Holds fetch i xs) e c

    rounds_code : Holds fetch (at + 64) after_skips
    rounds_code = moved_code (at + 32 + 32) (at + 64) after_skips (omega arith) (rest_of fetch (at + 32) skips after_skips 32 refl rest_code)

    abbrev after_rounds : List Instr
    after_rounds = last_round ++ (signs_again ++ (rounds_above 16 16 ++ (B (negsuc 403) ∷ [])))

    ends_code : Holds fetch (at + 244) after_rounds
    ends_code = moved_code (at + 64 + 180) (at + 244) after_rounds (omega arith) (rest_of fetch (at + 64) (rounds_above 15 1) after_rounds 180 refl rounds_code)

    last_code : Holds fetch (at + 244) last_round
    last_code = front fetch (at + 244) last_round (signs_again ++ (rounds_above 16 16 ++ (B (negsuc 403) ∷ []))) ends_code

    tail_code : Holds fetch (at + 252) (signs_again ++ (rounds_above 16 16 ++ (B (negsuc 403) ∷ [])))
    tail_code = moved_code (at + 244 + 8) (at + 252) (signs_again ++ (rounds_above 16 16 ++ (B (negsuc 403) ∷ []))) (omega arith) (rest_of fetch (at + 244) last_round (signs_again ++ (rounds_above 16 16 ++ (B (negsuc 403) ∷ []))) 8 refl ends_code)

    again_code : Holds fetch (at + 252) signs_again
    again_code = front fetch (at + 252) signs_again (rounds_above 16 16 ++ (B (negsuc 403) ∷ [])) tail_code

    upper_code : Holds fetch (at + 272) (rounds_above 16 16 ++ (B (negsuc 403) ∷ []))
    upper_code = moved_code (at + 252 + 20) (at + 272) (rounds_above 16 16 ++ (B (negsuc 403) ∷ [])) (omega arith) (rest_of fetch (at + 252) signs_again (rounds_above 16 16 ++ (B (negsuc 403) ∷ [])) 20 refl tail_code)

    back_code : Holds fetch (at + 464) (B (negsuc 403) ∷ [])
    back_code = moved_code (at + 272 + 192) (at + 464) (B (negsuc 403) ∷ []) (omega arith) (rest_of fetch (at + 272) (rounds_above 16 16) (B (negsuc 403) ∷ []) 192 refl upper_code)

    -- the lower rounds from any of them on
    fewer_rounds : (p m : ℕ) → Holds fetch p (rounds_above (suc m) 1) → Holds fetch (p + 12) (rounds_above m 1)
    fewer_rounds p m c = rest_of fetch p (round_above (m + 1)) (rounds_above m 1) 12 refl c

    four_fewer : (p m : ℕ) → Holds fetch p (rounds_above (suc (suc (suc (suc m)))) 1) → Holds fetch (p + 48) (rounds_above m 1)
    four_fewer p m c = moved_code (p + 12 + 12 + 12 + 12) (p + 48) (rounds_above m 1) (omega arith) (fewer_rounds (p + 12 + 12 + 12) m (fewer_rounds (p + 12 + 12) (suc m) (fewer_rounds (p + 12) (suc (suc m)) (fewer_rounds p (suc (suc (suc m))) c))))

    rounds_15 : Holds fetch (at + 64) (rounds_above 15 1)
    rounds_15 = front fetch (at + 64) (rounds_above 15 1) after_rounds rounds_code

    rounds_11 : Holds fetch (at + 112) (rounds_above 11 1)
    rounds_11 = moved_code (at + 64 + 48) (at + 112) (rounds_above 11 1) (omega arith) (four_fewer (at + 64) 11 rounds_15)

    rounds_7 : Holds fetch (at + 160) (rounds_above 7 1)
    rounds_7 = moved_code (at + 112 + 48) (at + 160) (rounds_above 7 1) (omega arith) (four_fewer (at + 112) 7 rounds_11)

    rounds_3 : Holds fetch (at + 208) (rounds_above 3 1)
    rounds_3 = moved_code (at + 160 + 48) (at + 208) (rounds_above 3 1) (omega arith) (four_fewer (at + 160) 3 rounds_7)

    -- behind the last round
    abbrev done : (n d h f' j' : ℕ) → Registers
    done n d h f' j' = st (at + 252) 0 f' (n / d) d (n % d) j' h

    enough : (n most : ℕ) (r : Registers) (q : ℕ → ℕ → Registers) → n ≤ most → Went n r q → Went most r q
    enough n most r q l w = (w.0, w.1, more n most r (q w.0 w.1) l w.2)

    -- from one of the lower rounds to the end
    lower_from : (n d m p most f q a j h : ℕ) → n < 2 ^ 32 → 0 < d → d < 2 ^ 32 → p + 12 * m ≡ at + 244 → 6 * m + 4 ≤ most → Holds fetch p (rounds_above m 1) → Rest n d (m + 1) q a
        → Went most (st p 0 f q d a j h) (done n d h)
    lower_from n d m p most f q a j h l z small e few c x =
        let low = code.low in
        let w = lower n d m p f q a j h l z small (omega arith) c (moved_code (at + 244) (p + 12 * m) last_round (sym e) last_code) x in
        (w.0, w.1, more (6 * m + 4) most _ _ few (moved (p + 12 * m) 4 (at + 252) 0 (6 * m + 4) w.0 (n / d) d (n % d) w.1 h _ (omega arith) w.2))

    last_from : (n d most f q a j h : ℕ) → n < 2 ^ 32 → 0 < d → d < 2 ^ 32 → 4 ≤ most → Rest n d 1 q a → Went most (st (at + 244) 0 f q d a j h) (done n d h)
    last_from n d most f q a j h l z small few x =
        let low = code.low in
        let y = last n d (at + 244) f q a j h l z small (omega arith) last_code x (nat_lt a d) refl in
        (y.0, j, more 4 most _ _ few (moved (at + 244) 4 (at + 252) 0 4 y.0 (n / d) d (n % d) j h _ (omega arith) y.1))

    -- all rounds, from that of 2^31 on
    upper : (n d f j h : ℕ) → n < 2 ^ 32 → 0 < d → d < 2 ^ 32 → Went 192 (st (at + 62) 0 f 0 d n j h) (done n d h)
    upper n d f j h l z small =
        let low = code.low in
        let all : n < d * 2 ^ 32 = all_bits n d l z in
        let x : Rest n d 32 0 n = record { whole = omega arith; rest = all } in
        let c = front fetch (at + 272) (rounds_above 16 16) (B (negsuc 403) ∷ []) upper_code in
        let b = rest_of fetch (at + 32) (skip_to 1 204 ++ (skip_to 4 162 ++ (skip_to 8 108 ++ (skip_to 12 54 ++ skip_to 16 0)))) (B (pos 206) ∷ []) 30 refl skips_code in
        let first = goes (B (pos 206) ∷ []) (at + 32 + 30) b 0 (at + 272) (pos 206) f 0 d n j h refl (omega arith) in
        let w = rounds n d 16 16 (at + 272) f 0 n j h l (omega arith) z small (omega arith) c x in
        let back = goes (B (negsuc 403) ∷ []) (at + 464) back_code 0 (at + 64) (negsuc 403) w.f' w.q' d w.a' w.j' h refl (omega arith) in
        let r = lower_from n d 15 (at + 64) 94 w.f' w.q' w.a' w.j' h l z small (omega arith) (omega arith) rounds_15 w.rest in (
          r.0,
          r.1,
          from (at + 62) 0 (at + 32 + 30) 0 192 f 0 d n j h _ (omega arith)
              (step _ _ _ 191 first
              (then 96 95 _ _ _ (moved (at + 272 + 12 * 16) 0 (at + 464) 0 96 w.f' w.q' d w.a' w.j' h _ (omega arith) w.went)
              (step _ _ _ 94 back r.2))),
        )
      where
        all_bits : (n d : ℕ) → n < 2 ^ 32 → 0 < d → n < d * 2 ^ 32
        all_bits n d l z = omega arith

    abbrev skips_16 : List Instr
    skips_16 = skip_to 16 0 ++ (B (pos 206) ∷ [])

    abbrev skips_12 : List Instr
    skips_12 = skip_to 12 54 ++ skips_16

    abbrev skips_8 : List Instr
    skips_8 = skip_to 8 108 ++ skips_12

    abbrev skips_4 : List Instr
    skips_4 = skip_to 4 162 ++ skips_8

    from_4 : Holds fetch (at + 38) skips_4
    from_4 = moved_code (at + 32 + 6) (at + 38) skips_4 (omega arith) (rest_of fetch (at + 32) (skip_to 1 204) skips_4 6 refl skips_code)

    from_8 : Holds fetch (at + 44) skips_8
    from_8 = moved_code (at + 38 + 6) (at + 44) skips_8 (omega arith) (rest_of fetch (at + 38) (skip_to 4 162) skips_8 6 refl from_4)

    from_12 : Holds fetch (at + 50) skips_12
    from_12 = moved_code (at + 44 + 6) (at + 50) skips_12 (omega arith) (rest_of fetch (at + 44) (skip_to 8 108) skips_12 6 refl from_8)

    from_16 : Holds fetch (at + 56) skips_16
    from_16 = moved_code (at + 50 + 6) (at + 56) skips_16 (omega arith) (rest_of fetch (at + 50) (skip_to 12 54) skips_16 6 refl from_12)

    -- by the quotient's bits, from the most on
    module _ (n d h : ℕ) (l : n < 2 ^ 32) (z : 0 < d) (small : d < 2 ^ 32) where
      by_16 : (f j : ℕ) → Went 195 (st (at + 56) 0 f 0 d n j h) (done n d h)
      by_16 f j =
          let low = code.low in
          skip n d 16 0 (at + 56) (at + 64) 192 f j h (done n d h) l small (omega arith) (front fetch (at + 56) (skip_to 16 0) (B (pos 206) ∷ []) from_16) (omega arith)
          (λ x f' j'. lower_from n d 15 (at + 64) 192 f' 0 n j' h l z small (omega arith) (omega arith) rounds_15 x)
          (λ f' j'. (let w = upper n d f' j' h l z small in (w.0, w.1, from (at + 56 + 6) 0 (at + 62) 0 192 f' 0 d n j' h _ (omega arith) w.2)))
          (nat_lt (n / 2 ^ 16) d) refl

      by_12 : (f j : ℕ) → Went 198 (st (at + 50) 0 f 0 d n j h) (done n d h)
      by_12 f j =
          let low = code.low in
          skip n d 12 54 (at + 50) (at + 112) 195 f j h (done n d h) l small (omega arith) (front fetch (at + 50) (skip_to 12 54) skips_16 from_12) (omega arith)
          (λ x f' j'. lower_from n d 11 (at + 112) 195 f' 0 n j' h l z small (omega arith) (omega arith) rounds_11 x)
          (λ f' j'. (let w = by_16 f' j' in (w.0, w.1, from (at + 50 + 6) 0 (at + 56) 0 195 f' 0 d n j' h _ (omega arith) w.2)))
          (nat_lt (n / 2 ^ 12) d) refl

      by_8 : (f j : ℕ) → Went 201 (st (at + 44) 0 f 0 d n j h) (done n d h)
      by_8 f j =
          let low = code.low in
          skip n d 8 108 (at + 44) (at + 160) 198 f j h (done n d h) l small (omega arith) (front fetch (at + 44) (skip_to 8 108) skips_12 from_8) (omega arith)
          (λ x f' j'. lower_from n d 7 (at + 160) 198 f' 0 n j' h l z small (omega arith) (omega arith) rounds_7 x)
          (λ f' j'. (let w = by_12 f' j' in (w.0, w.1, from (at + 44 + 6) 0 (at + 50) 0 198 f' 0 d n j' h _ (omega arith) w.2)))
          (nat_lt (n / 2 ^ 8) d) refl

      by_4 : (f j : ℕ) → Went 204 (st (at + 38) 0 f 0 d n j h) (done n d h)
      by_4 f j =
          let low = code.low in
          skip n d 4 162 (at + 38) (at + 208) 201 f j h (done n d h) l small (omega arith) (front fetch (at + 38) (skip_to 4 162) skips_8 from_4) (omega arith)
          (λ x f' j'. lower_from n d 3 (at + 208) 201 f' 0 n j' h l z small (omega arith) (omega arith) rounds_3 x)
          (λ f' j'. (let w = by_8 f' j' in (w.0, w.1, from (at + 38 + 6) 0 (at + 44) 0 201 f' 0 d n j' h _ (omega arith) w.2)))
          (nat_lt (n / 2 ^ 4) d) refl

      by_1 : (f j : ℕ) → Went 207 (st (at + 32) 0 f 0 d n j h) (done n d h)
      by_1 f j =
          let low = code.low in
          skip n d 1 204 (at + 32) (at + 244) 204 f j h (done n d h) l small (omega arith) (front fetch (at + 32) (skip_to 1 204) skips_4 skips_code) (omega arith)
          (λ x f' j'. last_from n d 204 f' 0 n j' h l z small (omega arith) x)
          (λ f' j'. (let w = by_4 f' j' in (w.0, w.1, from (at + 32 + 6) 0 (at + 38) 0 204 f' 0 d n j' h _ (omega arith) w.2)))
          (nat_lt (n / 2 ^ 1) d) refl

    -- to a state whose flags may be any
    abbrev Came : ℕ → Registers → (ℕ → Registers) → Type 0
    Came n r q = (f : ℕ) × Most n r (q f)

    bind : (n m : ℕ) (r : Registers) (q z : ℕ → Registers) → Came n r q → ((f : ℕ) → Came m (q f) z) → Came (n + m) r z
    bind n m r q z x g = let y = g x.0 in (y.0, then n m r (q x.0) (z y.0) x.1 y.1)

    -- 4 to 8: the dividend's magnitude
    dividend_up : (f a d r j h : ℕ) → a < 2 ^ 31 → Came 5 (st at 4 f a d r j h) (λ f'. st at 9 f' a d r 0 h)
    dividend_up f a d r j h l =
        let low = code.low in
        let f0 = nz f 0 in let f1 = sum_flags a (inverted 0) 1 in (
          f1,
          step _ _ _ 4 (one signs at signs_code 4 (MovImm 3 0) (st at 4 f a d r j h) (st at 5 f0 a d r 0 h) refl refl refl refl refl)
              (step _ _ _ 3 (one signs at signs_code 5 (CmpImm 0 0) (st at 5 f0 a d r 0 h) (st at 6 f1 a d r 0 h) refl refl refl refl refl)
              (step _ _ _ 2 (jumps signs at signs_code 6 9 5 (pos 2) f1 a d r 0 h refl (pl_pos a l) (omega arith))
              (none (st at 9 f1 a d r 0 h) 2))),
        )

    dividend_down : (f a d r j h : ℕ) → a < 2 ^ 32 → 2 ^ 31 ≤ a → Came 5 (st at 4 f a d r j h) (λ f'. st at 9 f' (minus a) d r 2 h)
    dividend_down f a d r j h l m =
        let f0 = nz f 0 in let f1 = sum_flags a (inverted 0) 1 in let f2 = sum_flags 0 (inverted a) 1 in let f3 = nz f2 2 in (
          f3,
          step _ _ _ 4 (one signs at signs_code 4 (MovImm 3 0) (st at 4 f a d r j h) (st at 5 f0 a d r 0 h) refl refl refl refl refl)
              (step _ _ _ 3 (one signs at signs_code 5 (CmpImm 0 0) (st at 5 f0 a d r 0 h) (st at 6 f1 a d r 0 h) refl refl refl refl refl)
              (step _ _ _ 2 (stays signs at signs_code 6 7 5 (pos 2) f1 a d r 0 h refl (pl_neg a l m) refl)
              (step _ _ _ 1 (one signs at signs_code 7 (Rsb 0 0) (st at 7 f1 a d r 0 h) (st at 8 f2 (minus a) d r 0 h) refl refl refl refl refl)
              (step _ _ _ 0 (one signs at signs_code 8 (MovImm 3 2) (st at 8 f2 (minus a) d r 0 h) (st at 9 f3 (minus a) d r 2 h) refl refl refl refl refl)
              (none (st at 9 f3 (minus a) d r 2 h) 0))))),
        )

    -- 9 to 12: the divisor's
    divisor_up : (f a d r j h : ℕ) → d < 2 ^ 31 → Came 4 (st at 9 f a d r j h) (λ f'. st at 13 f' a d r j h)
    divisor_up f a d r j h l =
        let low = code.low in
        let f1 = sum_flags d (inverted 0) 1 in (
          f1,
          step _ _ _ 3 (one signs at signs_code 9 (CmpImm 1 0) (st at 9 f a d r j h) (st at 10 f1 a d r j h) refl refl refl refl refl)
              (step _ _ _ 2 (jumps signs at signs_code 10 13 5 (pos 2) f1 a d r j h refl (pl_pos d l) (omega arith))
              (none (st at 13 f1 a d r j h) 2)),
        )

    divisor_down : (f a d r j h k : ℕ) → d < 2 ^ 32 → 2 ^ 31 ≤ d → word (j + 1 + 0) ≡ k → Came 4 (st at 9 f a d r j h) (λ f'. st at 13 f' a (minus d) r k h)
    divisor_down f a d r j h k l m e =
        let f1 = sum_flags d (inverted 0) 1 in let f2 = sum_flags 0 (inverted d) 1 in let f3 = sum_flags j 1 0 in (
          f3,
          step _ _ _ 3 (one signs at signs_code 9 (CmpImm 1 0) (st at 9 f a d r j h) (st at 10 f1 a d r j h) refl refl refl refl refl)
              (step _ _ _ 2 (stays signs at signs_code 10 11 5 (pos 2) f1 a d r j h refl (pl_neg d l m) refl)
              (step _ _ _ 1 (one signs at signs_code 11 (Rsb 1 1) (st at 11 f1 a d r j h) (st at 12 f2 a (minus d) r j h) refl refl refl refl refl)
              (step _ _ _ 0 (one signs at signs_code 12 (AddImm8 3 1) (st at 12 f2 a (minus d) r j h) (st at 13 f3 a (minus d) r k h) refl refl refl refl (rw e refl))
              (none (st at 13 f3 a (minus d) r k h) 0)))),
        )

    -- 13 to 15: all of the dividend is left
    begins : (f a d r j h : ℕ) → Came 3 (st at 13 f a d r j h) (λ f'. st at 16 f' 0 d a j j)
    begins f a d r j h = (
      nz f 0,
      step _ _ _ 2 (one signs at signs_code 13 (MovHigh 12 3) (st at 13 f a d r j h) (st at 14 f a d r j j) refl refl refl refl refl)
          (step _ _ _ 1 (one signs at signs_code 14 (MovHigh 2 0) (st at 14 f a d r j j) (st at 15 f a d a j j) refl refl refl refl refl)
          (step _ _ _ 0 (one signs at signs_code 15 (MovImm 0 0) (st at 15 f a d a j j) (st at 16 (nz f 0) 0 d a j j) refl refl refl refl refl)
          (none (st at 16 (nz f 0) 0 d a j j) 0))),
    )

    -- the remainder's sign, by the code of the signs
    rest_up : (f a d r j h : ℕ) → holds (sum_flags h (inverted 2) 1) 3 ≡ true → Came 4 (st (at + 252) 0 f a d r j h) (λ f'. st (at + 252) 4 f' a d r h h)
    rest_up f a d r j h e =
        let low = code.low in
        let f1 = sum_flags h (inverted 2) 1 in (
          f1,
          step _ _ _ 3 (one signs_again (at + 252) again_code 0 (MovHigh 3 12) (st (at + 252) 0 f a d r j h) (st (at + 252) 1 f a d r h h) refl refl refl refl refl)
              (step _ _ _ 2 (one signs_again (at + 252) again_code 1 (CmpImm 3 2) (st (at + 252) 1 f a d r h h) (st (at + 252) 2 f1 a d r h h) refl refl refl refl refl)
              (step _ _ _ 1 (jumps signs_again (at + 252) again_code 2 4 3 (pos 0) f1 a d r h h refl e (omega arith))
              (none (st (at + 252) 4 f1 a d r h h) 1))),
        )

    rest_down : (f a d r j h : ℕ) → holds (sum_flags h (inverted 2) 1) 3 ≡ false → Came 4 (st (at + 252) 0 f a d r j h) (λ f'. st (at + 252) 4 f' a d (minus r) h h)
    rest_down f a d r j h e =
        let f1 = sum_flags h (inverted 2) 1 in let f2 = sum_flags 0 (inverted r) 1 in (
          f2,
          step _ _ _ 3 (one signs_again (at + 252) again_code 0 (MovHigh 3 12) (st (at + 252) 0 f a d r j h) (st (at + 252) 1 f a d r h h) refl refl refl refl refl)
              (step _ _ _ 2 (one signs_again (at + 252) again_code 1 (CmpImm 3 2) (st (at + 252) 1 f a d r h h) (st (at + 252) 2 f1 a d r h h) refl refl refl refl refl)
              (step _ _ _ 1 (stays signs_again (at + 252) again_code 2 3 3 (pos 0) f1 a d r h h refl e refl)
              (step _ _ _ 0 (one signs_again (at + 252) again_code 3 (Rsb 2 2) (st (at + 252) 3 f1 a d r h h) (st (at + 252) 4 f2 a d (minus r) h h) refl refl refl refl refl)
              (none (st (at + 252) 4 f2 a d (minus r) h h) 0)))),
        )

    -- behind the call
    abbrev pub back : (f a d r j h : ℕ) → Registers
    back f a d r j h = record (st at 0 f a d r j h) { pc = lr - 1 }

    returns : (xs : List Instr) (p : ℕ) (c : Holds fetch p xs) (i f a d r j h : ℕ) → slice_get xs i ≡ Some (Bx 14) → is_odd lr ≡ true → One over fetch t (st p i f a d r j h) (back f a d r j h)
    returns xs p c i f a d r j h e odd = one xs p c i (Bx 14) (st p i f a d r j h) (back f a d r j h) e refl refl refl (rw odd refl)

    abbrev less_one : ℕ → ℕ
    less_one h = word (h + inverted 1 + 1)

    -- the quotient's sign
    quotient_up : (f a d r j h : ℕ) → is_odd lr ≡ true → holds (sum_flags (less_one j) (inverted 2) 1) 2 ≡ true → Came 6 (st (at + 252) 4 f a d r j h) (λ f'. back f' a r r (less_one j) h)
    quotient_up f a d r j h odd e =
        let low = code.low in
        let k = less_one j in
        let f1 = sum_flags j (inverted 1) 1 in let f2 = sum_flags k (inverted 2) 1 in (
          f2,
          step _ _ _ 5 (one signs_again (at + 252) again_code 4 (SubImm8 3 1) (st (at + 252) 4 f a d r j h) (st (at + 252) 5 f1 a d r k h) refl refl refl refl refl)
              (step _ _ _ 4 (one signs_again (at + 252) again_code 5 (CmpImm 3 2) (st (at + 252) 5 f1 a d r k h) (st (at + 252) 6 f2 a d r k h) refl refl refl refl refl)
              (step _ _ _ 3 (jumps signs_again (at + 252) again_code 6 8 2 (pos 0) f2 a d r k h refl e (omega arith))
              (step _ _ _ 2 (one signs_again (at + 252) again_code 8 (MovHigh 1 2) (st (at + 252) 8 f2 a d r k h) (st (at + 252) 9 f2 a r r k h) refl refl refl refl refl)
              (step _ _ _ 1 (returns signs_again (at + 252) again_code 9 f2 a r r k h refl odd)
              (none (back f2 a r r k h) 1))))),
        )

    quotient_down : (f a d r j h : ℕ) → is_odd lr ≡ true → holds (sum_flags (less_one j) (inverted 2) 1) 2 ≡ false → Came 6 (st (at + 252) 4 f a d r j h) (λ f'. back f' (minus a) r r (less_one j) h)
    quotient_down f a d r j h odd e =
        let k = less_one j in
        let f1 = sum_flags j (inverted 1) 1 in let f2 = sum_flags k (inverted 2) 1 in let f3 = sum_flags 0 (inverted a) 1 in (
          f3,
          step _ _ _ 5 (one signs_again (at + 252) again_code 4 (SubImm8 3 1) (st (at + 252) 4 f a d r j h) (st (at + 252) 5 f1 a d r k h) refl refl refl refl refl)
              (step _ _ _ 4 (one signs_again (at + 252) again_code 5 (CmpImm 3 2) (st (at + 252) 5 f1 a d r k h) (st (at + 252) 6 f2 a d r k h) refl refl refl refl refl)
              (step _ _ _ 3 (stays signs_again (at + 252) again_code 6 7 2 (pos 0) f2 a d r k h refl e refl)
              (step _ _ _ 2 (one signs_again (at + 252) again_code 7 (Rsb 0 0) (st (at + 252) 7 f2 a d r k h) (st (at + 252) 8 f3 (minus a) d r k h) refl refl refl refl refl)
              (step _ _ _ 1 (one signs_again (at + 252) again_code 8 (MovHigh 1 2) (st (at + 252) 8 f3 (minus a) d r k h) (st (at + 252) 9 f3 (minus a) r r k h) refl refl refl refl refl)
              (step _ _ _ 0 (returns signs_again (at + 252) again_code 9 f3 (minus a) r r k h refl odd)
              (none (back f3 (minus a) r r k h) 0)))))),
        )

    -- 0 to 3: a divisor of 0
    pub by_zero : (f a r j h : ℕ) → is_odd lr ≡ true → Came 4 (st at 0 f a 0 r j h) (λ f'. back f' 0 0 r j h)
    by_zero f a r j h odd =
        let f1 = sum_flags 0 (inverted 0) 1 in let f2 = nz f1 0 in (
          f2,
          step _ _ _ 3 (one signs at signs_code 0 (CmpImm 1 0) (st at 0 f a 0 r j h) (st at 1 f1 a 0 r j h) refl refl refl refl refl)
              (step _ _ _ 2 (stays signs at signs_code 1 2 1 (pos 2) f1 a 0 r j h refl refl refl)
              (step _ _ _ 1 (one signs at signs_code 2 (MovImm 0 0) (st at 2 f1 a 0 r j h) (st at 3 f2 0 0 r j h) refl refl refl refl refl)
              (step _ _ _ 0 (returns signs at signs_code 3 f2 0 0 r j h refl odd)
              (none (back f2 0 0 r j h) 0)))),
        )

    not_zero : (f a d r j h : ℕ) → d < 2 ^ 32 → 0 < d → Came 2 (st at 0 f a d r j h) (λ f'. st at 4 f' a d r j h)
    not_zero f a d r j h l p =
        let low = code.low in
        let f1 = sum_flags d (inverted 0) 1 in (
          f1,
          step _ _ _ 1 (one signs at signs_code 0 (CmpImm 1 0) (st at 0 f a d r j h) (st at 1 f1 a d r j h) refl refl refl refl refl)
              (step _ _ _ 0 (jumps signs at signs_code 1 4 1 (pos 2) f1 a d r j h refl (ap not (eq_not d l p)) (omega arith))
              (none (st at 4 f1 a d r j h) 0)),
        )

    -- between the signs; what R3 holds then nobody reads
    rounds_of : (f n d j h : ℕ) → n < 2 ^ 32 → 0 < d → d < 2 ^ 32 → Went 207 (st at 16 f 0 d n j h) (λ f' j'. st (at + 252) 0 f' (n / d) d (n % d) j' h)
    rounds_of f n d j h l p m = let w = by_1 n d h l p m f j in (w.0, w.1, from at 16 (at + 32) 0 207 f 0 d n j h _ (omega arith) w.2)

    bind_went : (n m : ℕ) (r : Registers) (q : ℕ → ℕ → Registers) (z : ℕ → Registers) → Went n r q → ((f j : ℕ) → Came m (q f j) z) → Came (n + m) r z
    bind_went n m r q z x g = let y = g x.0 x.1 in (y.0, then n m r (q x.0 x.1) (z y.0) x.2 y.1)

    -- the four cases of the signs
    pub both_up : (f a d r j h : ℕ) → is_odd lr ≡ true → a < 2 ^ 31 → d < 2 ^ 31 → 0 < d → Came 231 (st at 0 f a d r j h) (λ f'. back f' (a / d) (a % d) (a % d) (less_one 0) 0)
    both_up f a d r j h odd l m p =
        bind 2 229 _ _ _ (not_zero f a d r j h (omega arith) p) (λ f0.
        bind 5 224 _ _ _ (dividend_up f0 a d r j h l) (λ f1.
        bind 4 220 _ _ _ (divisor_up f1 a d r 0 h m) (λ f2.
        bind 3 217 _ _ _ (begins f2 a d r 0 h) (λ f3.
        bind_went 207 10 _ _ _ (rounds_of f3 a d 0 0 (omega arith) p (omega arith)) (λ f4 j4.
        bind 4 6 _ _ _ (rest_up f4 (a / d) d (a % d) j4 0 refl) (λ f5.
        quotient_up f5 (a / d) d (a % d) 0 0 odd refl))))))

    pub divisor_below : (f a d r j h : ℕ) → is_odd lr ≡ true → a < 2 ^ 31 → d < 2 ^ 32 → 2 ^ 31 ≤ d → Came 231 (st at 0 f a d r j h) (λ f'. back f' (minus (a / minus d)) (a % minus d) (a % minus d) (less_one 1) 1)
    divisor_below f a d r j h odd l m p =
        bind 2 229 _ _ _ (not_zero f a d r j h (omega arith) (omega arith)) (λ f0.
        bind 5 224 _ _ _ (dividend_up f0 a d r j h l) (λ f1.
        bind 4 220 _ _ _ (divisor_down f1 a d r 0 h 1 m p refl) (λ f2.
        bind 3 217 _ _ _ (begins f2 a (minus d) r 1 h) (λ f3.
        bind_went 207 10 _ _ _ (rounds_of f3 a (minus d) 1 1 (omega arith) (omega arith) (omega arith)) (λ f4 j4.
        bind 4 6 _ _ _ (rest_up f4 (a / minus d) (minus d) (a % minus d) j4 1 refl) (λ f5.
        quotient_down f5 (a / minus d) (minus d) (a % minus d) 1 1 odd refl))))))

    pub dividend_below : (f a d r j h : ℕ) → is_odd lr ≡ true → a < 2 ^ 32 → 2 ^ 31 ≤ a → d < 2 ^ 31 → 0 < d → Came 231 (st at 0 f a d r j h) (λ f'. back f' (minus (minus a / d)) (minus (minus a % d)) (minus (minus a % d)) (less_one 2) 2)
    dividend_below f a d r j h odd l b m p =
        bind 2 229 _ _ _ (not_zero f a d r j h (omega arith) p) (λ f0.
        bind 5 224 _ _ _ (dividend_down f0 a d r j h l b) (λ f1.
        bind 4 220 _ _ _ (divisor_up f1 (minus a) d r 2 h m) (λ f2.
        bind 3 217 _ _ _ (begins f2 (minus a) d r 2 h) (λ f3.
        bind_went 207 10 _ _ _ (rounds_of f3 (minus a) d 2 2 (omega arith) p (omega arith)) (λ f4 j4.
        bind 4 6 _ _ _ (rest_down f4 (minus a / d) d (minus a % d) j4 2 refl) (λ f5.
        quotient_down f5 (minus a / d) d (minus (minus a % d)) 2 2 odd refl))))))

    pub both_below : (f a d r j h : ℕ) → is_odd lr ≡ true → a < 2 ^ 32 → 2 ^ 31 ≤ a → d < 2 ^ 32 → 2 ^ 31 ≤ d → Came 231 (st at 0 f a d r j h) (λ f'. back f' (minus a / minus d) (minus (minus a % minus d)) (minus (minus a % minus d)) (less_one 3) 3)
    both_below f a d r j h odd l b m p =
        bind 2 229 _ _ _ (not_zero f a d r j h (omega arith) (omega arith)) (λ f0.
        bind 5 224 _ _ _ (dividend_down f0 a d r j h l b) (λ f1.
        bind 4 220 _ _ _ (divisor_down f1 (minus a) d r 2 h 3 m p refl) (λ f2.
        bind 3 217 _ _ _ (begins f2 (minus a) (minus d) r 3 h) (λ f3.
        bind_went 207 10 _ _ _ (rounds_of f3 (minus a) (minus d) 3 3 (omega arith) (omega arith) (omega arith)) (λ f4 j4.
        bind 4 6 _ _ _ (rest_down f4 (minus a / minus d) (minus d) (minus a % minus d) j4 3 refl) (λ f5.
        quotient_up f5 (minus a / minus d) (minus d) (minus (minus a % minus d)) 3 3 odd refl))))))
