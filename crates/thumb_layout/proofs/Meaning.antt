-- Laid pieces mean their effects.
use Rattle.std.proofs.Common.{zero, suc, ◌≡◌, ℕ, ◌+◌, ◌-◌, ◌/◌, ◌<◌, List, Bool, true, false, not, Some, refl, sym, ap, ◌∙◌, arith, slice_set, slice_get, ◌==◌}
use Rattle.std.proofs.lemmas.Bool.Decides.{nat_tests}
use Rattle.thumb_code.specs.declared.instructions.Instr.{Instr}
use Rattle.thumb_code.specs.declared.instructions.Instr.TheVariants.{MovImm, BCond, B, Bl}
use Rattle.thumb_code.specs.declared.register_file.Registers.{Registers}
use Rattle.thumb_code.specs.RegisterFile.{is_odd}
use Rattle.thumb_code.specs.Arithmetic.{holds, is_met}
use Rattle.thumb_code.specs.Effect.{Effect, effect, go, puts_with}
use Rattle.thumb_code.specs.Memory.{Done}
use Rattle.thumb_code.specs.Step.{Fetched, Found, Stepped, On, Served, Faulted, stepped_at, ran}
use Rattle.thumb_code.specs.Run.{Executor, Ran, Still, AskedAfter, Broke, runs, from_step}
use Rattle.thumb_layout.specs.declared.pieces.Piece.{Piece}
use Rattle.thumb_layout.specs.declared.pieces.Piece.TheVariants.{Plain, Label, Go, CallTo, Number, Address}
use Rattle.thumb_layout.specs.Pieces.{Places, piece_effect}
use Rattle.thumb_layout.specs.Cells.{opposite}
use Rattle.thumb_layout.specs.Holds.{moved, Enters, AtOnce, Over, Branches, Short, Middle, Far, Always, AlwaysFar, loaded_from, Loads, Small, Large, PieceAt, Holds, Reads, IgnoresPc, cost, Silent, Means}
use Rattle.thumb_layout.proofs.Silent.{ComesSilently}

abbrev still_registers : {S : Type 0} → Registers → Ran S → Registers
still_registers d (Still q t) = q
still_registers d (AskedAfter n k q t) = d
still_registers d (Broke k at) = d

abbrev still_memory : {S : Type 0} → S → Ran S → S
still_memory d (Still q t) = t
still_memory d (AskedAfter n k q t) = d
still_memory d (Broke k at) = d

-- so many instructions, and so many more
silent_from : {S : Type 0} (over : Executor S) (fetch : ℕ → Fetched) (a b : ℕ) (x : Stepped S) (q : Registers) (t' : S) (r : Registers) (t'' : S)
    → ((s : Registers) (t : S) → Silent over fetch a s t q t' → Silent over fetch (a + b) s t r t'')
    → from_step (runs over fetch a) a x ≡ Still q t' → from_step (runs over fetch (a + b)) (a + b) x ≡ Still r t''
silent_from over fetch a b (On s t) q t' r t'' more e = more s t e
silent_from over fetch a b (Served k s t) q t' r t'' more e = cc
silent_from over fetch a b (Faulted k at) q t' r t'' more e = cc

pub silent_add : {S : Type 0} (over : Executor S) (fetch : ℕ → Fetched) (a b : ℕ) (s : Registers) (t : S) (q : Registers) (t' : S) (r : Registers) (t'' : S)
    → Silent over fetch a s t q t' → Silent over fetch b q t' r t'' → Silent over fetch (a + b) s t r t''
silent_add {S} over fetch zero b s t q t' r t'' e f =
    let z : 0 + b ≡ b = omega arith in
    let i : s ≡ q = ap (still_registers s) e in
    let j : t ≡ t' = ap (still_memory t) e in
    rw z (rw i (rw j f))
silent_add over fetch (suc a) b s t q t' r t'' e f =
    let z : suc a + b ≡ suc (a + b) = omega arith in
    rw z (silent_from over fetch a b (ran (over s t) s (fetch s.pc)) q t' r t'' (λ s' t1 e'. silent_add over fetch a b s' t1 q t' r t'' e' f) e)

-- one silent instruction
pub silent_one : {S : Type 0} (over : Executor S) (fetch : ℕ → Fetched) (s : Registers) (t : S) (q : Registers) (t' : S) → ran (over s t) s (fetch s.pc) ≡ On q t' → Silent over fetch 1 s t q t'
silent_one over fetch s t q t' e = ap (from_step (runs over fetch 0) 0) e

-- a branch over a pool is one silent instruction
entered : {S : Type 0} (over : Executor S) (flash : List ℕ) (At : ℕ → S → Type 0) → Reads over flash At → (fetch : ℕ → Fetched) (at a : ℕ) (s : Registers) (t : S) → At s.sp t → s.pc ≡ at → Enters fetch at a
    → (n : ℕ) × (n < 2) × Silent over fetch n s t (record s { pc = a }) t
entered over flash At m fetch at a s t h e (AtOnce f) = (0, omega arith, ap (λ k. Still (record s { pc = k }) t) (e ∙ f))
entered over flash At m fetch at a s t h e (Over o n f g) = (
  1,
  omega arith,
  silent_one over fetch s t (record s { pc = a }) t
      (ap (λ k. ran (over s t) s (fetch k)) e ∙ (ap (ran (over s t) s) f ∙ (ap (stepped_at s.pc) (m.goes (moved s.pc o) s t h) ∙ ap (λ k. On (record s { pc = k }) t) (ap (λ k. moved k o) e ∙ g)))),
)

not_not : (b : Bool) → b ≡ not (not b)
not_not true = refl
not_not false = refl

opposite_from : (f c : ℕ) (b : Bool) → is_odd c ≡ b → holds f (opposite c) ≡ not (holds f c)
opposite_from f c false e =
    let i : is_odd (c + 1) ≡ true = grind (arith, nat_tests) in
    let j : (c + 1) / 2 ≡ c / 2 = grind (arith, nat_tests) in
    rw e (rw i (rw j refl))
opposite_from f c true e =
    let i : is_odd (c - 1) ≡ false = grind (arith, nat_tests) in
    let j : (c - 1) / 2 ≡ c / 2 = grind (arith, nat_tests) in
    rw e (rw i (rw j (not_not (is_met f c))))

pub holds_opposite : (f c : ℕ) → holds f (opposite c) ≡ not (holds f c)
holds_opposite f c = opposite_from f c (is_odd c) refl

-- From an address on, the machine comes to one step with this effect.
abbrev Ends : {S : Type 0} → Executor S → (ℕ → Fetched) → ℕ → ℕ → Registers → S → Effect → Type 0
Ends over fetch c a s t e = (n : ℕ) × (n + 1 < c) × (q : Registers) × Silent over fetch n (record s { pc = a }) t q t × (ran (over q t) q (fetch q.pc) ≡ stepped_at q.pc (over s t e))

direct : {S : Type 0} (over : Executor S) (flash : List ℕ) (At : ℕ → S → Type 0) → Reads over flash At → (fetch : ℕ → Fetched) (c a b : ℕ) (x : Instr) (s : Registers) (t : S) (e : Effect) → 1 < c → fetch a ≡ Found x b → effect b (record s { pc = a }) x ≡ e → Ends over fetch c a s t e
direct over flash At m fetch c a b x s t e l f g =
    (0, l, record s { pc = a }, refl, ap (ran (over (record s { pc = a }) t) (record s { pc = a })) f ∙ ap (λ y. stepped_at a (over (record s { pc = a }) t y)) g ∙ ap (stepped_at a) (m.same (record s { pc = a }) s t e refl))

-- a silent instruction without accesses, and then one more
twice : {S : Type 0} (over : Executor S) (flash : List ℕ) (At : ℕ → S → Type 0) → Reads over flash At → (fetch : ℕ → Fetched) (a b to b' : ℕ) (x y : Instr) (s : Registers) (t : S) (e : Effect) → At s.sp t
    → fetch a ≡ Found x b → effect b (record s { pc = a }) x ≡ go to s → fetch to ≡ Found y b' → effect b' (record s { pc = to }) y ≡ e → Ends over fetch 3 a s t e
twice over flash At m fetch a b to b' x y s t e h f g f' g' = (
  1,
  omega arith,
  record s { pc = to },
  silent_one over fetch (record s { pc = a }) t (record s { pc = to }) t
      (ap (ran (over (record s { pc = a }) t) (record s { pc = a })) f ∙ (ap (λ y. stepped_at a (over (record s { pc = a }) t y)) g ∙ ap (stepped_at a) (m.same (record s { pc = a }) s t (go to s) refl ∙ m.goes to s t h))),
  ap (ran (over (record s { pc = to }) t) (record s { pc = to })) f' ∙ (ap (λ y. stepped_at to (over (record s { pc = to }) t y)) g' ∙ ap (stepped_at to) (m.same (record s { pc = to }) s t e refl)),
)

-- a branch from a place on means its effect
branches : {S : Type 0} (over : Executor S) (flash : List ℕ) (At : ℕ → S → Type 0) → Reads over flash At → (fetch : ℕ → Fetched) (p : Places) (i c l a : ℕ) (s : Registers) (t : S) → At s.sp t
    → (b : Bool) → holds s.flags c ≡ b → Branches fetch a c (p.at (p.label l)) (p.behind i) (p.link i) → Ends over fetch 3 a s t (piece_effect p i s (Go c l))
branches over flash At m fetch p i c l a s t h true u (Short o k f g w) = let n : (c == 14) ≡ false = grind (arith, nat_tests) in
    direct over flash At m fetch 3 a (p.behind i) (BCond c o) s t (piece_effect p i s (Go c l)) (omega arith) f (let v = w s.lr in rw n (rw u (rw g (rw v refl))))
branches over flash At m fetch p i c l a s t h false u (Short o k f g w) = let n : (c == 14) ≡ false = grind (arith, nat_tests) in
    direct over flash At m fetch 3 a (p.behind i) (BCond c o) s t (piece_effect p i s (Go c l)) (omega arith) f (rw n (rw u refl))
branches over flash At m fetch p i c l a s t h true u (Middle o o' n k f g f' g' w) =
    let j : (c == 14) ≡ false = grind (arith, nat_tests) in
    let z : holds s.flags (opposite c) ≡ false = holds_opposite s.flags c ∙ ap not u in
    let v = w s.lr in
    twice over flash At m fetch a n n (p.behind i) (BCond (opposite c) o) (B o') s t (piece_effect p i s (Go c l)) h f (rw z refl) f' (rw j (rw u (rw g' (rw v refl))))
branches over flash At m fetch p i c l a s t h false u (Middle o o' n k f g f' g' w) =
    let j : (c == 14) ≡ false = grind (arith, nat_tests) in
    let z : holds s.flags (opposite c) ≡ true = holds_opposite s.flags c ∙ ap not u in
    direct over flash At m fetch 3 a n (BCond (opposite c) o) s t (piece_effect p i s (Go c l)) (omega arith) f (rw z (rw j (rw u (rw g refl))))
branches over flash At m fetch p i c l a s t h true u (Far o o' n k f g f' g' w) =
    let j : (c == 14) ≡ false = grind (arith, nat_tests) in
    let z : holds s.flags (opposite c) ≡ false = holds_opposite s.flags c ∙ ap not u in
    let v = w s.lr in
    twice over flash At m fetch a n n (p.behind i) (BCond (opposite c) o) (Bl o') s t (piece_effect p i s (Go c l)) h f (rw z refl) f' (rw j (rw u (rw g' (rw v refl))))
branches over flash At m fetch p i c l a s t h false u (Far o o' n k f g f' g' w) =
    let j : (c == 14) ≡ false = grind (arith, nat_tests) in
    let z : holds s.flags (opposite c) ≡ true = holds_opposite s.flags c ∙ ap not u in
    direct over flash At m fetch 3 a n (BCond (opposite c) o) s t (piece_effect p i s (Go c l)) (omega arith) f (rw z (rw j (rw u (rw g refl))))
branches over flash At m fetch p i c l a s t h b u (Always o k f g w) =
    let j : (c == 14) ≡ true = grind (arith, nat_tests) in let v = w s.lr in
    direct over flash At m fetch 3 a (p.behind i) (B o) s t (piece_effect p i s (Go c l)) (omega arith) f (rw j (rw g (rw v refl)))
branches over flash At m fetch p i c l a s t h b u (AlwaysFar o k f g w) =
    let j : (c == 14) ≡ true = grind (arith, nat_tests) in let v = w s.lr in
    direct over flash At m fetch 3 a (p.behind i) (Bl o) s t (piece_effect p i s (Go c l)) (omega arith) f (rw j (rw g (rw v refl)))

-- a load from a pool
loads_word : {S : Type 0} (over : Executor S) (flash : List ℕ) (At : ℕ → S → Type 0) → Reads over flash At → (fetch : ℕ → Fetched) (a rd v b : ℕ) (s : Registers) (t : S) → At s.sp t → Loads fetch flash a rd v b
    → Ends over fetch 2 a s t (puts_with b s rd v s.flags)
loads_word over flash At m fetch a rd v b s t h f =
    let s' : Registers = record s { pc = a } in (
      0,
      omega arith,
      s',
      refl,
      ap (ran (over s' t) s') f.stands
          ∙ ap (stepped_at a) (m.loads b rd (loaded_from a f.imm) s' t h f.inside f.whole
          ∙ (ap (λ w. Done (record s { r = slice_set s.r rd w; pc = b }) t) f.entry
          ∙ (sym (m.goes b (record s { r = slice_set s.r rd v }) t h) ∙ m.same (record s { r = slice_set s.r rd v }) s t (puts_with b s rd v s.flags) refl))),
    )

pub means : {S : Type 0} (over : Executor S) (flash : List ℕ) (At : ℕ → S → Type 0) → Reads over flash At → (fetch : ℕ → Fetched) (p : Places) (i a : ℕ) (x : Piece) (s : Registers) (t : S) → At s.sp t
    → ((y : Instr) → x ≡ Plain y → IgnoresPc y) → 0 < cost x → PieceAt fetch flash p i a x → Ends over fetch (cost x) a s t (piece_effect p i s x)
means over flash At m fetch p i a (Plain x) s t h g l f = direct over flash At m fetch 2 a (p.behind i) x s t (piece_effect p i s (Plain x)) (omega arith) f (g x refl (p.behind i) a s)
means over flash At m fetch p i a (Label k) s t h g l f = absurd (omega arith)
means over flash At m fetch p i a (Go c k) s t h g l f = branches over flash At m fetch p i c k a s t h (holds s.flags c) refl f
means over flash At m fetch p i a (CallTo k) s t h g l f = direct over flash At m fetch 2 a (p.behind i) (Bl f.0) s t (piece_effect p i s (CallTo k)) (omega arith) f.1 (let e = f.2 in rw e refl)
means over flash At m fetch p i a (Number rd v) s t h g l (Small k f) =
    direct over flash At m fetch 2 a (p.behind i) (MovImm rd v) s t (piece_effect p i s (Number rd v)) (omega arith) f (rw k refl)
means over flash At m fetch p i a (Number rd v) s t h g l (Large k f) = rw k (loads_word over flash At m fetch a rd v (p.behind i) s t h f)
means over flash At m fetch p i a (Address rd w) s t h g l f = loads_word over flash At m fetch a rd (p.word_of w) (p.behind i) s t h f

-- where that is a plain piece, its instruction is found at the last step
means_finds : {S : Type 0} (over : Executor S) (flash : List ℕ) (At : ℕ → S → Type 0) (m : Reads over flash At) (fetch : ℕ → Fetched) (p : Places) (i a : ℕ) (x : Piece)
    (s : Registers) (t : S) (h : At s.sp t) (g : (y : Instr) → x ≡ Plain y → IgnoresPc y) (l : 0 < cost x) (f : PieceAt fetch flash p i a x) → (y : Instr) → x ≡ Plain y
    → fetch ((means over flash At m fetch p i a x s t h g l f).2).pc ≡ Found y (p.behind i)
unfolding means direct
means_finds over flash At m fetch p i a (Plain x) s t h g l f y e = f ∙ (let same : x ≡ y = cc in ap (λ z. Found z (p.behind i)) same)
means_finds over flash At m fetch p i a (Label k) s t h g l f y e = cc
means_finds over flash At m fetch p i a (Go c k) s t h g l f y e = cc
means_finds over flash At m fetch p i a (CallTo k) s t h g l f y e = cc
means_finds over flash At m fetch p i a (Number rd v) s t h g l f y e = cc
means_finds over flash At m fetch p i a (Address rd w) s t h g l f y e = cc

-- A piece that is held means its effect.
pub laid_means : {S : Type 0} (over : Executor S) (flash : List ℕ) (At : ℕ → S → Type 0) → Reads over flash At → (fetch : ℕ → Fetched) (p : Places) (xs : List Piece) → Holds fetch flash p xs
    → (i : ℕ) (x : Piece) → slice_get xs i ≡ Some x → ((y : Instr) → x ≡ Plain y → IgnoresPc y) → 0 < cost x → (s : Registers) (t : S) → s.pc ≡ p.at i → At s.sp t → Means over fetch p i x s t
laid_means over flash At m fetch p xs h i x e g l s t f a =
    let d = h.each i x e in
    let n = entered over flash At m fetch (p.at i) d.0 s t a f d.1 in
    let q = means over flash At m fetch p i d.0 x s t a g l d.2 in
    record {
      before = n.0 + q.0;
      few = omega arith;
      last = q.2;
      silent = silent_add over fetch n.0 q.0 s t (record s { pc = d.0 }) t q.2 t n.2 q.3;
      does = q.4;
      finds = means_finds over flash At m fetch p i d.0 x s t a g l d.2;
    }

-- nothing, and one after another
pub reaches_none : {S : Type 0} (over : Executor S) (fetch : ℕ → Fetched) (s : Registers) (t : S) → ComesSilently over fetch 0 0 s t s t
reaches_none over fetch s t = record { count = 0; some = omega arith; few = omega arith; silent = refl }

pub reaches_add : {S : Type 0} (over : Executor S) (fetch : ℕ → Fetched) (l h l' h' : ℕ) (s : Registers) (t : S) (q : Registers) (t' : S) (r : Registers) (t'' : S)
    → ComesSilently over fetch l h s t q t' → ComesSilently over fetch l' h' q t' r t'' → ComesSilently over fetch (l + l') (h + h') s t r t''
reaches_add over fetch l h l' h' s t q t' r t'' x y =
    let a = x.some in let b = x.few in let c = y.some in let d = y.few in
    record { count = x.count + y.count; some = omega arith; few = omega arith; silent = silent_add over fetch x.count y.count s t q t' r t'' x.silent y.silent }

-- a piece whose effect goes on is gone through
pub piece_goes : {S : Type 0} (over : Executor S) (flash : List ℕ) (At : ℕ → S → Type 0) → Reads over flash At → (fetch : ℕ → Fetched) (p : Places) (xs : List Piece) → Holds fetch flash p xs
    → (i : ℕ) (x : Piece) → slice_get xs i ≡ Some x → ((y : Instr) → x ≡ Plain y → IgnoresPc y) → 0 < cost x → (s : Registers) (t : S) → s.pc ≡ p.at i → At s.sp t
    → (q : Registers) (t' : S) → over s t (piece_effect p i s x) ≡ Done q t' → ComesSilently over fetch 1 (cost x) s t q t'
piece_goes over flash At m fetch p xs h i x e g l s t f a q t' w =
    let y = laid_means over flash At m fetch p xs h i x e g l s t f a in
    let k = y.few in
    record {
      count = y.before + 1;
      some = omega arith;
      few = omega arith;
      silent = silent_add over fetch y.before 1 s t y.last t q t' y.silent (silent_one over fetch y.last t q t' (y.does ∙ ap (stepped_at y.last.pc) w));
    }

-- a label is gone through in no instruction
pub label_goes : (flash : List ℕ) (fetch : ℕ → Fetched) (p : Places) (xs : List Piece) → Holds fetch flash p xs → (i l : ℕ) → slice_get xs i ≡ Some (Label l) → p.at (i + 1) ≡ p.at i
label_goes flash fetch p xs h i l e = sym (((h.each i (Label l) e).2).0 ∙ h.next i (Label l) e refl)
