-- The routine's steps.
use Rattle.std.proofs.Common.{zero, suc, ◌≡◌, ℕ, ◌+◌, ◌*◌, ◌/◌, ◌%◌, ◌^◌, ◌<◌, ◌≤◌, ◌==◌, List, [], ◌∷◌, Bool, true, false, refl, sym, ap, ◌∙◌, subst, arith, length, cond}
use Rattle.std.specs.Prelude.{ℤ, pos, negsuc, not}
use Rattle.std.specs.Int.{cast_unsigned, w32}
use Rattle.thumb_code.specs.declared.instructions.Instr.{Instr}
use Rattle.thumb_code.specs.declared.instructions.Instr.TheVariants.{SubImm8, AddImm8, BCond, Ldm, Stm, Bx}
use Rattle.thumb_code.specs.declared.register_file.Registers.{Registers}
use Rattle.thumb_code.specs.RegisterFile.{word, listed, listed_from}
use Rattle.thumb_code.specs.Arithmetic.{sum_flags, inverted, bit_of, holds}
use Rattle.thumb_code.specs.Forms.{Outcome, Goes, ends, word_accesses, words_to}
use Rattle.thumb_code.specs.Effect.{effect}
use Rattle.thumb_code.specs.Memory.{execute, finished}
use Rattle.thumb_code.specs.Map.{ram_end}
use Rattle.thumb_code.specs.Step.{Found, On, stepped_at, ran}
use Rattle.thumb_switch.specs.Routine.{routine_bytes}
use Rattle.thumb_switch.specs.Space.{Space, Executed, space_memory, fetched_in, step_in, executed, behind_step, back_at}
use Rattle.thumb_switch.specs.Copies.{word_at, ExecutesOne, Pass}
use Rattle.thumb_switch.proofs.Ranges.{Places, words_at, loads_free, loads_words, stored, stores_free}

abbrev of_parts : List ℕ → List ℕ → Space
of_parts stack words = record { code = routine_bytes; stack = stack; words = words }

-- what is fetched from the routine
pub record Fetches (t : Space) : Type 0 where
  pub at0 : fetched_in t 0 ≡ Found (SubImm8 2 5) 2
  pub at2 : fetched_in t 2 ≡ Found (BCond 3 (pos 6)) 4
  pub at4 : fetched_in t 4 ≡ Found (Ldm 0 0xF8) 6
  pub at6 : fetched_in t 6 ≡ Found (Stm 1 0xF8) 8
  pub at8 : fetched_in t 8 ≡ Found (SubImm8 2 5) 10
  pub at10 : fetched_in t 10 ≡ Found (BCond 2 (negsuc 9)) 12
  pub at12 : fetched_in t 12 ≡ Found (AddImm8 2 4) 14
  pub at14 : fetched_in t 14 ≡ Found (BCond 3 (pos 6)) 16
  pub at16 : fetched_in t 16 ≡ Found (Ldm 0 0x08) 18
  pub at18 : fetched_in t 18 ≡ Found (Stm 1 0x08) 20
  pub at20 : fetched_in t 20 ≡ Found (SubImm8 2 1) 22
  pub at22 : fetched_in t 22 ≡ Found (BCond 2 (negsuc 9)) 24
  pub at24 : fetched_in t 24 ≡ Found (Bx 14) 26

fetches_parts : (stack words : List ℕ) → Fetches (of_parts stack words)
fetches_parts stack words = record { at0 = refl; at2 = refl; at4 = refl; at6 = refl; at8 = refl; at10 = refl; at12 = refl; at14 = refl; at16 = refl; at18 = refl; at20 = refl; at22 = refl; at24 = refl }

pub fetches : (t : Space) → t.code ≡ routine_bytes → Fetches t
fetches t e = (let z : t ≡ of_parts t.stack t.words = (λ i. record { code = e i; stack = t.stack; words = t.words }) in subst Fetches (sym z) (fetches_parts t.stack t.words))

-- registers at an instruction of the routine
abbrev pub st : (pc f a b n c d e g h : ℕ) → Registers
st pc f a b n c d e g h = record { r = a ∷ (b ∷ (n ∷ (c ∷ (d ∷ (e ∷ (g ∷ (h ∷ (0 ∷ (0 ∷ (0 ∷ (0 ∷ (0 ∷ [])))))))))))); sp = ram_end; lr = back_at + 1; pc = pc; flags = f }

pub steps_then : (n k : ℕ) (t v u : Space) (r m q : Registers) → Pass n t r v m → Pass k v m u q → Pass (n + k) t r u q
steps_then zero k t v u r m q x y = let z : 0 + k ≡ k = omega arith in subst (λ j. Pass j t r u q) (sym z) (subst (λ a. Pass k a r u q) (sym x.0) (subst (λ a. Pass k v a u q) (sym x.1) y))
steps_then (suc n) k t v u r m q x y = let z : suc n + k ≡ suc (n + k) = omega arith in subst (λ j. Pass j t r u q) (sym z) (x.0, x.1, x.2, steps_then n k x.0 v u x.1 m q x.3 y)

-- an execution that begins with these steps
abbrev plus : ℕ → Executed → Executed
plus n e = (n + e.0, e.1)

pub executed_steps : (n k : ℕ) (t u : Space) (r q : Registers) → Pass n t r u q → executed (n + k) r t ≡ plus n (executed k q u)
unfolding executed
executed_steps zero k t u r q s =
    let z : 0 + k ≡ k = omega arith in
    let w : (e : Executed) → e ≡ plus 0 e = λ e. (let y : e.0 ≡ 0 + e.0 = omega arith in ap (λ j. (j, e.1)) y) in
    ap (λ j. executed j r t) z ∙ (ap (λ a. executed k r a) s.0 ∙ (ap (λ a. executed k a u) s.1 ∙ w (executed k q u)))
executed_steps (suc n) k t u r q s =
    let z : suc n + k ≡ suc (n + k) = omega arith in
    let rec = executed_steps n k s.0 u s.1 q s.3 in
    let o = s.2.before in
    let y : suc (n + (executed k q u).0) ≡ suc n + (executed k q u).0 = omega arith in
    ap (λ j. executed j r t) z
    ∙ (rw o (ap (behind_step (executed (n + k)) t) s.2.goes)
    ∙ (ap (λ (e : Executed). (suc e.0, e.1)) rec ∙ ap (λ j. (j, (executed k q u).1)) y))

pub executed_back : (k : ℕ) (t : Space) (r : Registers) → r.pc ≡ back_at → executed k r t ≡ (0, t)
unfolding executed
executed_back zero t r e = refl
executed_back (suc k) t r e = let o : (r.pc == back_at) ≡ true = ap (λ x. x == back_at) e in rw o refl

-- an instruction without accesses
pub quiet : (t : Space) (r q : Registers) (x : Instr) (next : ℕ) → fetched_in t r.pc ≡ Found x next → effect next r x ≡ ends ram_end (Goes q) → record q { sp = ram_end } ≡ q → step_in t r ≡ On q t
quiet t r q x next f e s =
    ap (ran (execute space_memory t) r) f
    ∙ (ap (λ y. stepped_at r.pc (execute space_memory t y)) e
    ∙ ap (λ (z : Registers). On z t) s)

-- C clear, and C set
c_flag : (n z q o : ℕ) → o ≤ 1 → q ≡ 1 → ((n * 8 + z * 4 + q * 2 + o) / 2 % 2 == 1) ≡ true
c_flag n z q o k e = let f : (n * 8 + z * 4 + q * 2 + o) / 2 % 2 ≡ 1 = omega arith in rw f refl

no_c_flag : (n z q o : ℕ) → o ≤ 1 → q ≡ 0 → ((n * 8 + z * 4 + q * 2 + o) / 2 % 2 == 1) ≡ false
no_c_flag n z q o k e = let f : (n * 8 + z * 4 + q * 2 + o) / 2 % 2 ≡ 0 = omega arith in rw f refl

bit_le : (b : Bool) → bit_of b ≤ 1
bit_le true = omega arith
bit_le false = omega arith

pub cc_yes : (x y c : ℕ) → x + y + c < 2 ^ 32 → holds (sum_flags x y c) 3 ≡ true
cc_yes x y c l = ap not (no_c_flag _ _ ((x + y + c) / 4294967296) _ (bit_le _) (omega arith))

pub cc_no : (x y c : ℕ) → 2 ^ 32 ≤ x + y + c → x + y + c < 2 ^ 33 → holds (sum_flags x y c) 3 ≡ false
cc_no x y c l m = ap not (c_flag _ _ ((x + y + c) / 4294967296) _ (bit_le _) (omega arith))

pub cs_no : (x y c : ℕ) → x + y + c < 2 ^ 32 → holds (sum_flags x y c) 2 ≡ false
cs_no x y c l = no_c_flag _ _ ((x + y + c) / 4294967296) _ (bit_le _) (omega arith)

pub cs_yes : (x y c : ℕ) → 2 ^ 32 ≤ x + y + c → x + y + c < 2 ^ 33 → holds (sum_flags x y c) 2 ≡ true
cs_yes x y c l m = c_flag _ _ ((x + y + c) / 4294967296) _ (bit_le _) (omega arith)

-- several words loaded, and stored
loads_done : (t : Space) (n a : ℕ) (after : List ℕ → Outcome) → Places t a n
    → execute space_memory t (record { sp = ram_end; loads = word_accesses a n; stores = []; after = after }) ≡ finished t ram_end (after (words_at t a n))
loads_done t n a after p = (let f = loads_free t n a p in let l = loads_words t n a p in rw (f, l) refl)

stores_done : (t : Space) (b : ℕ) (vs : List ℕ) (q : Registers) → Places t b (length vs)
    → execute space_memory t (record { sp = ram_end; loads = []; stores = words_to b vs; after = λ ws. Goes q }) ≡ finished (stored t b vs) ram_end (Goes q)
stores_done t b vs q p = (let f = stores_free t vs b p in rw f refl)

up : (a n k : ℕ) → a + 4 * k < back_at → k < 6 → n ≡ 4 * suc k → word (a + n) ≡ a + n
up a n k l m e = omega arith

-- Five words, and one.
module _ (t : Space) (code : t.code ≡ routine_bytes) (size : length t.stack ≡ 1024) (f a b n c d e g h : ℕ) where
  pub five : Places t a 5 → Places t b 5 → (c' d' e' g' h' : ℕ) × Pass 2 t (st 4 f a b n c d e g h) (stored t b (words_at t a 5)) (st 8 f (a + 20) (b + 20) n c' d' e' g' h')
  unfolding listed listed_from
  five p q =
      let w0 = word_at t a in let w1 = word_at t (a + 4) in let w2 = word_at t (a + 4 + 4) in let w3 = word_at t (a + 4 + 4 + 4) in let w4 = word_at t (a + 4 + 4 + 4 + 4) in
      let x = up a 20 4 ((p 4 (omega arith)).low) (omega arith) refl in
      let y = up b 20 4 ((q 4 (omega arith)).low) (omega arith) refl in
      let r1 = st 6 f (word (a + 20)) b n w0 w1 w2 w3 w4 in
      let first : ExecutesOne t (st 4 f a b n c d e g h) t r1 =
      record {
        goes = ap (ran (execute space_memory t) (st 4 f a b n c d e g h)) (fetches t code).at4
            ∙ ap (stepped_at 4) (loads_done t 5 a (effect 6 (st 4 f a b n c d e g h) (Ldm 0 0xF8)).after p);
        before = refl;
      } in
      let second : ExecutesOne t r1 (stored t b (words_at t a 5)) (st 8 f (word (a + 20)) (word (b + 20)) n w0 w1 w2 w3 w4) =
      record {
        goes = ap (ran (execute space_memory t) r1) (fetches t code).at6
            ∙ ap (stepped_at 6) (stores_done t b (words_at t a 5) (st 8 f (word (a + 20)) (word (b + 20)) n w0 w1 w2 w3 w4) q);
        before = refl;
      } in (
        w0,
        w1,
        w2,
        w3,
        w4,
        (
          t,
          r1,
          first,
          (
            stored t b (words_at t a 5),
            st 8 f (word (a + 20)) (word (b + 20)) n w0 w1 w2 w3 w4,
            second,
            (refl, ap (λ z. st 8 f z (word (b + 20)) n w0 w1 w2 w3 w4) x ∙ ap (λ z. st 8 f (a + 20) z n w0 w1 w2 w3 w4) y),
          ),
        ),
      )

  pub one : Places t a 1 → Places t b 1 → (c' d' e' g' h' : ℕ) × Pass 2 t (st 16 f a b n c d e g h) (stored t b (words_at t a 1)) (st 20 f (a + 4) (b + 4) n c' d' e' g' h')
  unfolding listed listed_from
  one p q =
      let w0 = word_at t a in
      let x = up a 4 0 ((p 0 (omega arith)).low) (omega arith) refl in
      let y = up b 4 0 ((q 0 (omega arith)).low) (omega arith) refl in
      let r1 = st 18 f (word (a + 4)) b n w0 d e g h in
      let first : ExecutesOne t (st 16 f a b n c d e g h) t r1 =
      record {
        goes = ap (ran (execute space_memory t) (st 16 f a b n c d e g h)) (fetches t code).at16
            ∙ ap (stepped_at 16) (loads_done t 1 a (effect 18 (st 16 f a b n c d e g h) (Ldm 0 0x08)).after p);
        before = refl;
      } in
      let second : ExecutesOne t r1 (stored t b (words_at t a 1)) (st 20 f (word (a + 4)) (word (b + 4)) n w0 d e g h) =
      record {
        goes = ap (ran (execute space_memory t) r1) (fetches t code).at18
            ∙ ap (stepped_at 18) (stores_done t b (words_at t a 1) (st 20 f (word (a + 4)) (word (b + 4)) n w0 d e g h) q);
        before = refl;
      } in (
        w0,
        d,
        e,
        g,
        h,
        (
          t,
          r1,
          first,
          (
            stored t b (words_at t a 1),
            st 20 f (word (a + 4)) (word (b + 4)) n w0 d e g h,
            second,
            (refl, ap (λ z. st 20 f z (word (b + 4)) n w0 d e g h) x ∙ ap (λ z. st 20 f (a + 4) z n w0 d e g h) y),
          ),
        ),
      )

  -- the count goes down or up, and branches
  pub less_five_0 : ExecutesOne t (st 0 f a b n c d e g h) t (st 2 (sum_flags n (inverted 5) 1) a b (word (n + inverted 5 + 1)) c d e g h)
  less_five_0 = record { goes = quiet t (st 0 f a b n c d e g h) (st 2 (sum_flags n (inverted 5) 1) a b (word (n + inverted 5 + 1)) c d e g h) (SubImm8 2 5) 2 (fetches t code).at0 refl refl; before = refl }

  pub less_five : ExecutesOne t (st 8 f a b n c d e g h) t (st 10 (sum_flags n (inverted 5) 1) a b (word (n + inverted 5 + 1)) c d e g h)
  less_five = record { goes = quiet t (st 8 f a b n c d e g h) (st 10 (sum_flags n (inverted 5) 1) a b (word (n + inverted 5 + 1)) c d e g h) (SubImm8 2 5) 10 (fetches t code).at8 refl refl; before = refl }

  pub more_four : ExecutesOne t (st 12 f a b n c d e g h) t (st 14 (sum_flags n 4 0) a b (word (n + 4 + 0)) c d e g h)
  more_four = record { goes = quiet t (st 12 f a b n c d e g h) (st 14 (sum_flags n 4 0) a b (word (n + 4 + 0)) c d e g h) (AddImm8 2 4) 14 (fetches t code).at12 refl refl; before = refl }

  pub less_one : ExecutesOne t (st 20 f a b n c d e g h) t (st 22 (sum_flags n (inverted 1) 1) a b (word (n + inverted 1 + 1)) c d e g h)
  less_one = record { goes = quiet t (st 20 f a b n c d e g h) (st 22 (sum_flags n (inverted 1) 1) a b (word (n + inverted 1 + 1)) c d e g h) (SubImm8 2 1) 22 (fetches t code).at20 refl refl; before = refl }

  pub branch_to : (pc next to cond' : ℕ) (o : ℤ) → fetched_in t pc ≡ Found (BCond cond' o) next → holds f cond' ≡ true → word (word (pc + 4) + cast_unsigned w32 o) ≡ to → (pc == back_at) ≡ false → ExecutesOne t (st pc f a b n c d e g h) t (st to f a b n c d e g h)
  branch_to pc next to cond' o i m k z =
      record { goes = quiet t (st pc f a b n c d e g h) (st to f a b n c d e g h) (BCond cond' o) next i (rw m (ap (λ x. ends ram_end (Goes (st x f a b n c d e g h))) k)) refl; before = z }

  pub branch_by : (pc next cond' : ℕ) (o : ℤ) → fetched_in t pc ≡ Found (BCond cond' o) next → holds f cond' ≡ false → (pc == back_at) ≡ false → ExecutesOne t (st pc f a b n c d e g h) t (st next f a b n c d e g h)
  branch_by pc next cond' o i m z =
      record { goes = quiet t (st pc f a b n c d e g h) (st next f a b n c d e g h) (BCond cond' o) next i (rw m refl) refl; before = z }

  pub back : ExecutesOne t (st 24 f a b n c d e g h) t (st back_at f a b n c d e g h)
  back = record { goes = quiet t (st 24 f a b n c d e g h) (st back_at f a b n c d e g h) (Bx 14) 26 (fetches t code).at24 refl refl; before = refl }
