-- The whole routine.
use Rattle.std.proofs.Common.{zero, suc, ◌≡◌, ℕ, ◌+◌, ◌*◌, ◌-◌, ◌/◌, ◌%◌, ◌^◌, ◌<◌, ◌≤◌, Bool, true, false, nat_lt, refl, sym, ap, ◌∙◌, subst, arith, length, inl, inr}
use Rattle.std.specs.Prelude.{pos, negsuc}
use Rattle.std.proofs.lemmas.Bool.Decides.{nat_tests}
use Rattle.thumb_code.specs.declared.register_file.Registers.{Registers}
use Rattle.thumb_code.specs.RegisterFile.{word}
use Rattle.thumb_code.specs.Arithmetic.{sum_flags, inverted}
use Rattle.thumb_switch.specs.Routine.{routine_bytes, routine_steps}
use Rattle.thumb_switch.specs.Space.{Space, back_at, executed, called, most_instructions}
use Rattle.thumb_switch.specs.Copies.{IsPlace, AreRanges, AreCopied, ExecutesOne, Pass, Copies}
use Rattle.thumb_switch.proofs.Words.{in_stack_bounds, in_record_bounds}
use Rattle.thumb_switch.proofs.Ranges.{words_at, stored, copies_words, copies_none, copies_then, ranges_first, ranges_left}
use Rattle.thumb_switch.proofs.Steps.{st, steps_then, executed_steps, executed_back, fetches, five, one, less_five_0, less_five, more_four, less_one, branch_to, branch_by, back, cc_yes, cc_no, cs_yes, cs_no}

-- from registers and a memory the routine comes in so many steps to a place, with this source, target and count
pub record Came (k : ℕ) (t : Space) (r : Registers) (u : Space) (pc a b n : ℕ) : Type 0 where
  pub f : ℕ
  pub c : ℕ
  pub d : ℕ
  pub e : ℕ
  pub g : ℕ
  pub h : ℕ
  pub steps : Pass k t r u (st pc f a b n c d e g h)

step_one : (t u : Space) (r q : Registers) → ExecutesOne t r u q → Pass 1 t r u q
step_one t u r q o = (u, q, o, (refl, refl))

then : (j k : ℕ) (t v u : Space) (r m : Registers) (pc a b n : ℕ) → Pass j t r v m → Came k v m u pc a b n → Came (j + k) t r u pc a b n
then j k t v u r m pc a b n x y = record { f = y.f; c = y.c; d = y.d; e = y.e; g = y.g; h = y.h; steps = steps_then j k t v u r m _ x y.steps }

there : (t u : Space) (r : Registers) (pc f a b n c d e g h : ℕ) → ExecutesOne t r u (st pc f a b n c d e g h) → Came 1 t r u pc a b n
there t u r pc f a b n c d e g h o = record { f = f; c = c; d = d; e = e; g = g; h = h; steps = step_one t u r _ o }

moved : (k : ℕ) (t : Space) (r : Registers) (u : Space) (pc a b n a' b' n' : ℕ) → a ≡ a' → b ≡ b' → n ≡ n' → Came k t r u pc a b n → Came k t r u pc a' b' n'
moved k t r u pc a b n a' b' n' x y z w =
    subst (λ i. Came k t r u pc i b' n') x (subst (λ i. Came k t r u pc a i n') y (subst (λ i. Came k t r u pc a b i) z w))

counted : (k j : ℕ) (t : Space) (r : Registers) (u : Space) (pc a b n : ℕ) → k ≡ j → Came k t r u pc a b n → Came j t r u pc a b n
counted k j t r u pc a b n e w = subst (λ i. Came i t r u pc a b n) e w

-- so many words are copied on the way
pub record Copying (words k : ℕ) (t : Space) (r : Registers) (pc a b n : ℕ) : Type 0 where
  pub u : Space
  pub copied : AreCopied a b words t u
  pub came : Came k t r u pc (a + 4 * words) (b + 4 * words) n

-- five words at a time, as long as five are left: m is how many more than five
pub fives : (q s m : ℕ) (t : Space) → t.code ≡ routine_bytes → length t.stack ≡ 1024 → (f a b c d e g h : ℕ) → m ≡ 5 * q + s → s < 5 → m < 2 ^ 12 → AreRanges t a b (5 * suc q)
    → Copying (5 * suc q) (4 * suc q) t (st 4 f a b m c d e g h) 12 a b (2 ^ 32 + s - 5)
fives zero s m t code size f a b c d e g h is l x r =
    let w = five t code size f a b m c d e g h r.sources r.targets in
    let u = stored t b (words_at t a 5) in
    let copied = copies_words t a b 5 size r in
    let code' = copied.code ∙ code in
    let size' = copied.stack ∙ size in
    let F = sum_flags m (inverted 5) 1 in
    let v : word (m + inverted 5 + 1) ≡ 2 ^ 32 + s - 5 = omega arith in
    let o = less_five u code' size' f (a + 20) (b + 20) m w.0 w.1 w.2 w.3 w.4 in
    let p = branch_by u code' size' F (a + 20) (b + 20) (word (m + inverted 5 + 1)) w.0 w.1 w.2 w.3 w.4 10 12 2 (negsuc 9) (fetches u code').at10 (cs_no m (inverted 5) 1 (omega arith)) refl in
    record {
      u = u;
      copied = copied;
      came = moved 4 t _ u 12 _ _ _ _ _ _ refl refl v (then 2 2 t u u _ _ 12 _ _ _ w.5 (then 1 1 u u u _ _ 12 _ _ _ (step_one u u _ _ o) (there u u _ 12 F (a + 20) (b + 20) (word (m + inverted 5 + 1)) w.0 w.1 w.2 w.3 w.4 p)));
    }
fives (suc q) s m t code size f a b c d e g h is l x r =
    let both : 5 * suc (suc q) ≡ 5 + 5 * suc q = omega arith in
    let r0 : AreRanges t a b (5 + 5 * suc q) = subst (AreRanges t a b) both r in
    let r1 = ranges_first t a b 5 (5 * suc q) r0 in
    let w = five t code size f a b m c d e g h r1.sources r1.targets in
    let u = stored t b (words_at t a 5) in
    let copied = copies_words t a b 5 size r1 in
    let code' = copied.code ∙ code in
    let size' = copied.stack ∙ size in
    let F = sum_flags m (inverted 5) 1 in
    let v : word (m + inverted 5 + 1) ≡ m - 5 = omega arith in
    let o = less_five u code' size' f (a + 20) (b + 20) m w.0 w.1 w.2 w.3 w.4 in
    let o' : ExecutesOne u (st 8 f (a + 20) (b + 20) m w.0 w.1 w.2 w.3 w.4) u (st 10 F (a + 20) (b + 20) (m - 5) w.0 w.1 w.2 w.3 w.4) = subst (λ i. ExecutesOne u (st 8 f (a + 20) (b + 20) m w.0 w.1 w.2 w.3 w.4) u (st 10 F (a + 20) (b + 20) i w.0 w.1 w.2 w.3 w.4)) v o in
    let p = branch_to u code' size' F (a + 20) (b + 20) (m - 5) w.0 w.1 w.2 w.3 w.4 10 12 4 2 (negsuc 9) (fetches u code').at10 (cs_yes m (inverted 5) 1 (omega arith) (omega arith)) refl refl in
    let z = fives q s (m - 5) u code' size' F (a + 20) (b + 20) w.0 w.1 w.2 w.3 w.4 (omega arith) l (omega arith) (ranges_left t u a b 5 (5 * suc q) r0 copied) in
    let k : 2 + (1 + (1 + 4 * suc q)) ≡ 4 * suc (suc q) = omega arith in
    let ea : a + 20 + 4 * (5 * suc q) ≡ a + 4 * (5 * suc (suc q)) = omega arith in
    let eb : b + 20 + 4 * (5 * suc q) ≡ b + 4 * (5 * suc (suc q)) = omega arith in
    record {
      u = z.u;
      copied = subst (λ i. AreCopied a b i t z.u) (sym both) (copies_then t u z.u a b 5 (5 * suc q) r0 copied z.copied);
      came = counted _ _ t _ z.u 12 _ _ _ k (moved _ t _ z.u 12 _ _ _ _ _ _ ea eb refl
          (then 2 (1 + (1 + 4 * suc q)) t u z.u _ _ 12 _ _ _ w.5 (then 1 (1 + 4 * suc q) u u z.u _ _ 12 _ _ _ (step_one u u _ _ o') (then 1 (4 * suc q) u u z.u _ _ 12 _ _ _ (step_one u u _ _ p) z.came))));
    }

-- one word at a time: m is how many more than one
pub ones : (m : ℕ) (t : Space) → t.code ≡ routine_bytes → length t.stack ≡ 1024 → (f a b c d e g h : ℕ) → m < 2 ^ 12 → AreRanges t a b (suc m)
    → (n : ℕ) × Copying (suc m) (4 * suc m) t (st 16 f a b m c d e g h) 24 a b n
ones zero t code size f a b c d e g h x r =
    let w = one t code size f a b 0 c d e g h r.sources r.targets in
    let u = stored t b (words_at t a 1) in
    let copied = copies_words t a b 1 size r in
    let code' = copied.code ∙ code in
    let size' = copied.stack ∙ size in
    let F = sum_flags 0 (inverted 1) 1 in
    let o = less_one u code' size' f (a + 4) (b + 4) 0 w.0 w.1 w.2 w.3 w.4 in
    let p = branch_by u code' size' F (a + 4) (b + 4) (word (0 + inverted 1 + 1)) w.0 w.1 w.2 w.3 w.4 22 24 2 (negsuc 9) (fetches u code').at22 refl refl in (
      word (0 + inverted 1 + 1),
      record {
        u = u;
        copied = copied;
        came = then 2 2 t u u _ _ 24 _ _ _ w.5 (then 1 1 u u u _ _ 24 _ _ _ (step_one u u _ _ o) (there u u _ 24 F (a + 4) (b + 4) (word (0 + inverted 1 + 1)) w.0 w.1 w.2 w.3 w.4 p));
      },
    )
ones (suc m) t code size f a b c d e g h x r =
    let both : suc (suc m) ≡ 1 + suc m = omega arith in
    let r0 : AreRanges t a b (1 + suc m) = subst (AreRanges t a b) both r in
    let r1 = ranges_first t a b 1 (suc m) r0 in
    let w = one t code size f a b (suc m) c d e g h r1.sources r1.targets in
    let u = stored t b (words_at t a 1) in
    let copied = copies_words t a b 1 size r1 in
    let code' = copied.code ∙ code in
    let size' = copied.stack ∙ size in
    let F = sum_flags (suc m) (inverted 1) 1 in
    let v : word (suc m + inverted 1 + 1) ≡ m = omega arith in
    let o = less_one u code' size' f (a + 4) (b + 4) (suc m) w.0 w.1 w.2 w.3 w.4 in
    let o' : ExecutesOne u (st 20 f (a + 4) (b + 4) (suc m) w.0 w.1 w.2 w.3 w.4) u (st 22 F (a + 4) (b + 4) m w.0 w.1 w.2 w.3 w.4) = subst (λ i. ExecutesOne u (st 20 f (a + 4) (b + 4) (suc m) w.0 w.1 w.2 w.3 w.4) u (st 22 F (a + 4) (b + 4) i w.0 w.1 w.2 w.3 w.4)) v o in
    let p = branch_to u code' size' F (a + 4) (b + 4) m w.0 w.1 w.2 w.3 w.4 22 24 16 2 (negsuc 9) (fetches u code').at22 (cs_yes (suc m) (inverted 1) 1 (omega arith) (omega arith)) refl refl in
    let z = ones m u code' size' F (a + 4) (b + 4) w.0 w.1 w.2 w.3 w.4 (omega arith) (ranges_left t u a b 1 (suc m) r0 copied) in
    let k : 2 + (1 + (1 + 4 * suc m)) ≡ 4 * suc (suc m) = omega arith in
    let ea : a + 4 + 4 * suc m ≡ a + 4 * suc (suc m) = omega arith in
    let eb : b + 4 + 4 * suc m ≡ b + 4 * suc (suc m) = omega arith in (
      z.0,
      record {
        u = z.1.u;
        copied = subst (λ i. AreCopied a b i t z.1.u) (sym both) (copies_then t u z.1.u a b 1 (suc m) r0 copied z.1.copied);
        came = counted _ _ t _ z.1.u 24 _ _ _ k (moved _ t _ z.1.u 24 _ _ _ _ _ _ ea eb refl
            (then 2 (1 + (1 + 4 * suc m)) t u z.1.u _ _ 24 _ _ _ w.5 (then 1 (1 + 4 * suc m) u u z.1.u _ _ 24 _ _ _ (step_one u u _ _ o') (then 1 (4 * suc m) u u z.1.u _ _ 24 _ _ _ (step_one u u _ _ p) z.1.came))));
      },
    )

-- fewer than five are left
pub tail : (s : ℕ) (t : Space) → t.code ≡ routine_bytes → length t.stack ≡ 1024 → (f a b c d e g h : ℕ) → s < 5 → AreRanges t a b s
    → (n : ℕ) × Copying s (2 + 4 * s) t (st 12 f a b (2 ^ 32 + s - 5) c d e g h) 24 a b n
tail zero t code size f a b c d e g h l r =
    let x = 2 ^ 32 + 0 - 5 in
    let F = sum_flags x 4 0 in
    let o = more_four t code size f a b x c d e g h in
    let p = branch_to t code size F a b (word (x + 4 + 0)) c d e g h 14 16 24 3 (pos 6) (fetches t code).at14 refl refl refl in
    let ea : a ≡ a + 4 * 0 = omega arith in
    let eb : b ≡ b + 4 * 0 = omega arith in (
      word (x + 4 + 0),
      record {
        u = t;
        copied = copies_none t a b;
        came = moved 2 t _ t 24 _ _ _ _ _ _ ea eb refl (then 1 1 t t t _ _ 24 _ _ _ (step_one t t _ _ o) (there t t _ 24 F a b (word (x + 4 + 0)) c d e g h p));
      },
    )
tail (suc m) t code size f a b c d e g h l r =
    let x = 2 ^ 32 + suc m - 5 in
    let F = sum_flags x 4 0 in
    let v : word (x + 4 + 0) ≡ m = omega arith in
    let o = more_four t code size f a b x c d e g h in
    let o' : ExecutesOne t (st 12 f a b x c d e g h) t (st 14 F a b m c d e g h) = subst (λ i. ExecutesOne t (st 12 f a b x c d e g h) t (st 14 F a b i c d e g h)) v o in
    let p = branch_by t code size F a b m c d e g h 14 16 3 (pos 6) (fetches t code).at14 (cc_no x 4 0 (omega arith) (omega arith)) refl in
    let z = ones m t code size F a b c d e g h (omega arith) r in
    let k : 1 + (1 + 4 * suc m) ≡ 2 + 4 * suc m = omega arith in (
      z.0,
      record {
        u = z.1.u;
        copied = z.1.copied;
        came = counted _ _ t _ z.1.u 24 _ _ _ k (then 1 (1 + 4 * suc m) t t z.1.u _ _ 24 _ _ _ (step_one t t _ _ o') (then 1 (4 * suc m) t t z.1.u _ _ 24 _ _ _ (step_one t t _ _ p) z.1.came));
      },
    )

-- from the entry to the last instruction
abbrev Way : ℕ → ℕ → ℕ → Space → Type 0
Way a b count t = (k : ℕ) × (k + 1 ≡ routine_steps count) × (n : ℕ) × Copying count k t (called a b count) 24 a b n

way_by : (a b count : ℕ) (t : Space) → t.code ≡ routine_bytes → length t.stack ≡ 1024 → AreRanges t a b count → count < 2 ^ 12 → (few : Bool) → nat_lt count 5 ≡ few → Way a b count t
way_by a b count t code size r x true e =
    let l : count < 5 = grind (arith, nat_tests) in
    let F = sum_flags count (inverted 5) 1 in
    let v : word (count + inverted 5 + 1) ≡ 2 ^ 32 + count - 5 = omega arith in
    let o = less_five_0 t code size 0 a b count 0 0 0 0 0 in
    let o' : ExecutesOne t (st 0 0 a b count 0 0 0 0 0) t (st 2 F a b (2 ^ 32 + count - 5) 0 0 0 0 0) = subst (λ i. ExecutesOne t (st 0 0 a b count 0 0 0 0 0) t (st 2 F a b i 0 0 0 0 0)) v o in
    let p = branch_to t code size F a b (2 ^ 32 + count - 5) 0 0 0 0 0 2 4 12 3 (pos 6) (fetches t code).at2 (cc_yes count (inverted 5) 1 (omega arith)) refl refl in
    let z = tail count t code size F a b 0 0 0 0 0 l r in (
      1 + (1 + (2 + 4 * count)),
      omega arith,
      z.0,
      record {
        u = z.1.u;
        copied = z.1.copied;
        came = then 1 (1 + (2 + 4 * count)) t t z.1.u _ _ 24 _ _ _ (step_one t t _ _ o') (then 1 (2 + 4 * count) t t z.1.u _ _ 24 _ _ _ (step_one t t _ _ p) z.1.came);
      },
    )
way_by a b count t code size r x false e =
    let l : 5 ≤ count = grind (arith, nat_tests) in
    let q = (count - 5) / 5 in
    let s = (count - 5) % 5 in
    let both : count ≡ 5 * suc q + s = omega arith in
    let r0 : AreRanges t a b (5 * suc q + s) = subst (AreRanges t a b) both r in
    let F = sum_flags count (inverted 5) 1 in
    let v : word (count + inverted 5 + 1) ≡ count - 5 = omega arith in
    let o = less_five_0 t code size 0 a b count 0 0 0 0 0 in
    let o' : ExecutesOne t (st 0 0 a b count 0 0 0 0 0) t (st 2 F a b (count - 5) 0 0 0 0 0) = subst (λ i. ExecutesOne t (st 0 0 a b count 0 0 0 0 0) t (st 2 F a b i 0 0 0 0 0)) v o in
    let p = branch_by t code size F a b (count - 5) 0 0 0 0 0 2 4 3 (pos 6) (fetches t code).at2 (cc_no count (inverted 5) 1 (omega arith) (omega arith)) refl in
    let y = fives q s (count - 5) t code size F a b 0 0 0 0 0 (omega arith) (omega arith) (omega arith) (ranges_first t a b (5 * suc q) s r0) in
    let w = y.came in
    let z = tail s y.u (y.copied.code ∙ code) (y.copied.stack ∙ size) w.f (a + 4 * (5 * suc q)) (b + 4 * (5 * suc q)) w.c w.d w.e w.g w.h (omega arith) (ranges_left t y.u a b (5 * suc q) s r0 y.copied) in
    let ea : a + 4 * (5 * suc q) + 4 * s ≡ a + 4 * count = omega arith in
    let eb : b + 4 * (5 * suc q) + 4 * s ≡ b + 4 * count = omega arith in (
      1 + (1 + (4 * suc q + (2 + 4 * s))),
      omega arith,
      z.0,
      record {
        u = z.1.u;
        copied = subst (λ i. AreCopied a b i t z.1.u) (sym both) (copies_then t y.u z.1.u a b (5 * suc q) s r0 y.copied z.1.copied);
        came = moved _ t _ z.1.u 24 _ _ _ _ _ _ ea eb refl
            (then 1 (1 + (4 * suc q + (2 + 4 * s))) t t z.1.u _ _ 24 _ _ _ (step_one t t _ _ o') (then 1 (4 * suc q + (2 + 4 * s)) t t z.1.u _ _ 24 _ _ _ (step_one t t _ _ p) (then (4 * suc q) (2 + 4 * s) t y.u z.1.u _ _ 24 _ _ _ w.steps z.1.came)));
      },
    )

-- The routine copies.
pub copies : (source target count : ℕ) (t : Space) → t.code ≡ routine_bytes → length t.stack ≡ 1024 → AreRanges t source target count → count < 2 ^ 12 → Copies source target count t
copies a b count t code size r x =
    let w = way_by a b count t code size r x (nat_lt count 5) refl in
    let z = w.3 in
    let y = z.came in
    let last = back z.u (z.copied.code ∙ code) (z.copied.stack ∙ size) y.f (a + 4 * count) (b + 4 * count) w.2 y.c y.d y.e y.g y.h in
    let all = steps_then w.0 1 t z.u z.u _ _ _ y.steps (step_one z.u z.u _ _ last) in
    let rest = most_instructions count - (w.0 + 1) in
    let exact = w.1 in
    let k : most_instructions count ≡ w.0 + 1 + rest = omega arith in
    let zero : w.0 + 1 + 0 ≡ w.0 + 1 = omega arith in
    record {
      steps = w.0 + 1;
      left = z.u;
      registers = st back_at y.f (a + 4 * count) (b + 4 * count) w.2 y.c y.d y.e y.g y.h;
      executes = ap (λ n. executed n (called a b count) t) k ∙ (executed_steps (w.0 + 1) rest t z.u _ _ all ∙ (ap (λ e. (w.0 + 1 + e.0, e.1)) (executed_back rest z.u _ refl) ∙ ap (λ n. (n, z.u)) zero));
      pass = all;
      returns = refl;
      exact = w.1;
      copied = z.copied;
    }

-- A range is in one of the two parts, so it has at most 1,024 words.
few_places : (t : Space) (first last : ℕ) → length t.words ≤ 1024 → last ≡ first + 4096 → IsPlace t first → IsPlace t last → ⊥
few_places t first last most e p q = elim p.there [
  | inl f ↦ (let a = in_stack_bounds first f in elim q.there [
    | inl g ↦ (let b = in_stack_bounds last g in omega arith)
    | inr g ↦ (let b = in_record_bounds (length t.words) last g.1 in omega arith)
  ])
  | inr f ↦ (let a = in_record_bounds (length t.words) first f.1 in elim q.there [
    | inl g ↦ (let b = in_stack_bounds last g in omega arith)
    | inr g ↦ (let b = in_record_bounds (length t.words) last g.1 in omega arith)
  ])
]

pub ranges_few : (t : Space) (source target count : ℕ) → length t.words ≤ 1024 → AreRanges t source target count → count < 2 ^ 12
ranges_few t source target count most r = by_test (nat_lt 1024 count) refl
  where
    by_test : (b : Bool) → nat_lt 1024 count ≡ b → count < 2 ^ 12
    by_test true e =
        let l : 1024 < count = grind (arith, nat_tests) in
        let zero_lt : 0 < count = omega arith in
        absurd (few_places t (source + 4 * 0) (source + 4 * 1024) most (omega arith) (r.sources 0 zero_lt) (r.sources 1024 l))
    by_test false e = (let l : count ≤ 1024 = grind (arith, nat_tests) in omega arith)
