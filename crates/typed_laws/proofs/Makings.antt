-- What is made, part by part: where its functions and locals stand, and how many there are.
use Rattle.std.proofs.Common.{◌≡◌, ℕ, zero, suc, ◌+◌, refl, sym, ap, ◌∙◌, subst, false, Some, List, [], ◌∷◌, ◌++◌, length, arith, length-append, append_assoc, append-nil, add-zero}
use Rattle.sts_syntax.specs.Types.{ValueType}
use Rattle.sts_syntax.specs.TypedTrees.{TypedRoutine, TypedProgram}
use Rattle.sts_syntax.specs.TypeRules.{entry, HasRoutine}
use Rattle.sts_syntax.specs.WellTyped.{Setting, AreSound}
use Rattle.sts_syntax.specs.WellTypedPrograms.{all_declared, numbers}
use Rattle.type_derive.specs.Making.{Made}
use Rattle.type_derive.specs.inner.Filling.{Making, pure, ◌>=>◌, a_local}

pub numbers_more : (m a c : ℕ) → numbers m (a + c) ≡ numbers m a ++ numbers (m + a) c
numbers_more m zero c = let p : zero + c ≡ c = omega arith in let q : m ≡ m + zero = omega arith in ap (λ (n : ℕ). numbers m n) p ∙ ap (λ (n : ℕ). numbers n c) q
numbers_more m (suc a) c =
    let p : suc a + c ≡ suc (a + c) = omega arith in let q : suc m + a ≡ m + suc a = omega arith in
    ap (λ (n : ℕ). numbers m n) p ∙ ap (λ (ns : List ℕ). m ∷ ns) (numbers_more (suc m) a c ∙ ap (λ (n : ℕ). numbers (suc m) a ++ numbers n c) q)

module _ (P : TypedProgram) where
  -- functions that stand one behind the other from a number on
  abbrev pub Placed : ℕ → List TypedRoutine → Type 0
  Placed n [] = Unit {0}
  Placed n (r ∷ rs) = HasRoutine P n r × Placed (suc n) rs

  pub placed_left : (n : ℕ) (rs qs : List TypedRoutine) → Placed n (rs ++ qs) → Placed n rs
  placed_left n [] qs h = tt
  placed_left n (r ∷ rs) qs h = (h.0, placed_left (suc n) rs qs h.1)

  pub placed_right : (n : ℕ) (rs qs : List TypedRoutine) → Placed n (rs ++ qs) → Placed (n + length rs) qs
  placed_right n [] qs h = let q : n ≡ n + zero = omega arith in subst (λ (j : ℕ). Placed j qs) q h
  placed_right n (r ∷ rs) qs h = let q : suc n + length rs ≡ n + suc (length rs) = omega arith in subst (λ (j : ℕ). Placed j qs) q (placed_right (suc n) rs qs h.1)

  -- a handler: its statements are sound in a function that is not the main program
  pub record IsInner (r : TypedRoutine) : Type 0 where
    pub nothing : r.params ≡ []
    pub body : (S : Setting) → S.routine ≡ r → S.main ≡ false → AreSound P S r.all false []
    pub locals : all_declared r.all ≡ numbers 0 (length r.locals)

  abbrev pub Inners : List TypedRoutine → Type 0
  Inners [] = Unit {0}
  Inners (r ∷ rs) = IsInner r × Inners rs

  pub inners_both : (rs qs : List TypedRoutine) → Inners rs → Inners qs → Inners (rs ++ qs)
  inners_both [] qs g h = h
  inners_both (r ∷ rs) qs g h = (g.0, inners_both rs qs g.1 h)

  -- An expression, which declares nothing.
  abbrev pub Gives : {A : Type 0} → (A → Type 0) → ℕ → Making A → Type 0
  Gives Q h f = (m n : ℕ) → Placed n (f m n).routines → Q (f m n).it × ((f m n).locals ≡ []) × Inners (f m n).routines × (length (f m n).routines ≡ h)

  pub gives_pure : {A : Type 0} (Q : A → Type 0) (a : A) → Q a → Gives Q 0 (pure a)
  gives_pure {A} Q a q m n placed = (q, refl, tt, refl)

  pub gives_bind : {A B : Type 0} (Q : A → Type 0) (R : B → Type 0) (h j : ℕ) (f : Making A) (g : A → Making B)
      → Gives Q h f → ((a : A) → Q a → Gives R j (g a)) → Gives R (h + j) (f >=> g)
  gives_bind {A} {B} Q R h j f g first rest m n placed =
      let x : Made A = f m n in
      let y : Made B = g x.it (m + length x.locals) (n + length x.routines) in
      let (qx, lx, ix, hx) = first m n (placed_left n x.routines y.routines placed) in
      let (qy, ly, iy, hy) = rest x.it qx (m + length x.locals) (n + length x.routines) (placed_right n x.routines y.routines placed) in
      let none : x.locals ++ y.locals ≡ [] = ap (λ (us : List ValueType). us ++ y.locals) lx ∙ ly in
      let count : length (x.routines ++ y.routines) ≡ h + j = length-append x.routines y.routines ∙ ap (λ (i : ℕ). i + length y.routines) hx ∙ ap (λ (i : ℕ). h + i) hy in
      (qy, none, inners_both x.routines y.routines ix iy, count)

  pub gives_as : {A : Type 0} (Q R : A → Type 0) (h j : ℕ) (f : Making A) → Gives Q h f → ((a : A) → Q a → R a) → h ≡ j → Gives R j f
  gives_as {A} Q R h j f first q same m n placed = let (qx, lx, ix, hx) = first m n placed in (q (f m n).it qx, lx, ix, hx ∙ same)

  module _ (S : Setting) where
    -- locals that stand one behind the other from a number on
    abbrev pub Kept : ℕ → List ValueType → Type 0
    Kept m [] = Unit {0}
    Kept m (u ∷ us) = (entry S.routine.locals m ≡ Some u) × Kept (suc m) us

    pub kept_left : (m : ℕ) (us vs : List ValueType) → Kept m (us ++ vs) → Kept m us
    kept_left m [] vs h = tt
    kept_left m (u ∷ us) vs h = (h.0, kept_left (suc m) us vs h.1)

    pub kept_right : (m : ℕ) (us vs : List ValueType) → Kept m (us ++ vs) → Kept (m + length us) vs
    kept_right m [] vs h = let q : m ≡ m + zero = omega arith in subst (λ (j : ℕ). Kept j vs) q h
    kept_right m (u ∷ us) vs h = let q : suc m + length us ≡ m + suc (length us) = omega arith in subst (λ (j : ℕ). Kept j vs) q (kept_right (suc m) us vs h.1)

    -- What is made from the numbers m and n on: F lists the locals that it declares, which are those of `before` and then its own.
    abbrev pub Good : {A : Type 0} → (A → Type 0) → (A → List ℕ) → List ℕ → ℕ → ℕ → ℕ → Made A → Type 0
    Good Q F before h m n x = Placed n x.routines → Kept m x.locals → Q x.it × (F x.it ≡ before ++ numbers m (length x.locals)) × Inners x.routines × (length x.routines ≡ h)

    pub good_pure : {A : Type 0} (Q : A → Type 0) (F : A → List ℕ) (before : List ℕ) (m n : ℕ) (a : A) → Q a → F a ≡ before → Good Q F before 0 m n (pure a m n)
    good_pure {A} Q F before m n a q same placed kept = (q, same ∙ sym (append-nil before), tt, refl)

    length_numbers : (i j : ℕ) → length (numbers i j) ≡ j
    length_numbers i zero = refl
    length_numbers i (suc j) = ap suc (length_numbers (suc i) j)

    -- what follows stands behind the locals that are declared
    pub good_bind_at : {A B : Type 0} (Q : A → Type 0) (D : A → List ℕ) (R : B → Type 0) (F : B → List ℕ) (before : List ℕ) (h j m n : ℕ) (f : Making A) (g : A → Making B)
        → Good Q D [] h m n (f m n) → ((a : A) → Q a → (i o : ℕ) → i ≡ m + length (D a) → Good R F (before ++ D a) j i o (g a i o)) → Good R F before (h + j) m n ((f >=> g) m n)
    good_bind_at {A} {B} Q D R F before h j m n f g first rest placed kept =
        let x : Made A = f m n in
        let y : Made B = g x.it (m + length x.locals) (n + length x.routines) in
        let (qx, dx, ix, hx) = first (placed_left n x.routines y.routines placed) (kept_left m x.locals y.locals kept) in
        let many : length (D x.it) ≡ length x.locals = ap (λ (ns : List ℕ). length ns) dx ∙ length_numbers m (length x.locals) in
        let at : m + length x.locals ≡ m + length (D x.it) = ap (λ (i : ℕ). m + i) (sym many) in
        let (qy, dy, iy, hy) = rest x.it qx (m + length x.locals) (n + length x.routines) at (placed_right n x.routines y.routines placed) (kept_right m x.locals y.locals kept) in
        let more : numbers m (length (x.locals ++ y.locals)) ≡ numbers m (length x.locals) ++ numbers (m + length x.locals) (length y.locals) =
        ap (λ (i : ℕ). numbers m i) (length-append x.locals y.locals) ∙ numbers_more m (length x.locals) (length y.locals) in
        let all : F y.it ≡ before ++ numbers m (length (x.locals ++ y.locals)) =
        dy ∙ ap (λ (ns : List ℕ). (before ++ ns) ++ numbers (m + length x.locals) (length y.locals)) dx ∙ append_assoc before (numbers m (length x.locals)) (numbers (m + length x.locals) (length y.locals))
        ∙ ap (λ (ns : List ℕ). before ++ ns) (sym more) in
        let count : length (x.routines ++ y.routines) ≡ h + j = length-append x.routines y.routines ∙ ap (λ (i : ℕ). i + length y.routines) hx ∙ ap (λ (i : ℕ). h + i) hy in
        (qy, all, inners_both x.routines y.routines ix iy, count)

    pub good_bind : {A B : Type 0} (Q : A → Type 0) (D : A → List ℕ) (R : B → Type 0) (F : B → List ℕ) (before : List ℕ) (h j m n : ℕ) (f : Making A) (g : A → Making B)
        → Good Q D [] h m n (f m n) → ((a : A) → Q a → (i o : ℕ) → Good R F (before ++ D a) j i o (g a i o)) → Good R F before (h + j) m n ((f >=> g) m n)
    good_bind {A} {B} Q D R F before h j m n f g first rest = good_bind_at Q D R F before h j m n f g first (λ a q i o at. rest a q i o)

    -- locals of a function from one on
    entry_behind : (us vs : List ValueType) (v : ValueType) → entry (us ++ v ∷ vs) (length us) ≡ Some v
    entry_behind [] vs v = refl
    entry_behind (u ∷ us) vs v = entry_behind us vs v

    kept_behind : (us vs : List ValueType) → S.routine.locals ≡ us ++ vs → Kept (length us) vs
    kept_behind us [] h = tt
    kept_behind us (v ∷ vs) h =
        let here : entry S.routine.locals (length us) ≡ Some v = ap (λ (ws : List ValueType). entry ws (length us)) h ∙ entry_behind us vs v in
        let again : S.routine.locals ≡ (us ++ v ∷ []) ++ vs = h ∙ sym (append_assoc us (v ∷ []) vs) in
        let at : length (us ++ v ∷ []) ≡ suc (length us) = length-append us (v ∷ []) ∙ (let q : length us + 1 ≡ suc (length us) = omega arith in q) in
        (here, subst (λ (i : ℕ). Kept i vs) at (kept_behind (us ++ v ∷ []) vs again))

    pub kept_all : (us : List ValueType) → S.routine.locals ≡ us → Kept 0 us
    kept_all us h = kept_behind [] us h

    -- an expression first
    pub good_free : {A B : Type 0} (Q : A → Type 0) (R : B → Type 0) (F : B → List ℕ) (before : List ℕ) (h j m n : ℕ) (f : Making A) (g : A → Making B)
        → Gives Q h f → ((a : A) → Q a → (o : ℕ) → Good R F before j m o (g a m o)) → Good R F before (h + j) m n ((f >=> g) m n)
    good_free {A} {B} Q R F before h j m n f g first rest placed kept =
        let x : Made A = f m n in
        let y : ℕ → Made B = λ i. g x.it i (n + length x.routines) in
        let (qx, lx, ix, hx) = first m n (placed_left n x.routines (y (m + length x.locals)).routines placed) in
        let stays : m + length x.locals ≡ m = ap (λ (us : List ValueType). m + length us) lx ∙ add-zero m in
        let Wanted : ℕ → Type 0 = λ i. Placed n (x.routines ++ (y i).routines) → Kept m (x.locals ++ (y i).locals)
        → R (y i).it × (F (y i).it ≡ before ++ numbers m (length (x.locals ++ (y i).locals))) × Inners (x.routines ++ (y i).routines) × (length (x.routines ++ (y i).routines) ≡ h + j) in
        let here : Wanted m = λ pl ke.
        let same : x.locals ++ (y m).locals ≡ (y m).locals = ap (λ (us : List ValueType). us ++ (y m).locals) lx in
        let (qy, dy, iy, hy) = rest x.it qx (n + length x.routines) (placed_right n x.routines (y m).routines pl) (subst (λ (us : List ValueType). Kept m us) same ke) in
        let all : F (y m).it ≡ before ++ numbers m (length (x.locals ++ (y m).locals)) = dy ∙ ap (λ (us : List ValueType). before ++ numbers m (length us)) (sym same) in
        let count : length (x.routines ++ (y m).routines) ≡ h + j = length-append x.routines (y m).routines ∙ ap (λ (i : ℕ). i + length (y m).routines) hx ∙ ap (λ (i : ℕ). h + i) hy in
        (qy, all, inners_both x.routines (y m).routines ix iy, count) in
        subst Wanted (sym stays) here placed kept

    -- a new local
    pub good_local : {A B : Type 0} (u : ValueType) (make : ℕ → A) (R : B → Type 0) (F : B → List ℕ) (before : List ℕ) (j m n : ℕ) (g : A → Making B)
        → ((entry S.routine.locals m ≡ Some u) → (o : ℕ) → Good R F (before ++ m ∷ []) j (suc m) o (g (make m) (suc m) o)) → Good R F before j m n ((a_local u make >=> g) m n)
    good_local {A} {B} u make R F before j m n g rest placed kept =
        let step : m + 1 ≡ suc m = omega arith in
        let y : ℕ → Made B = λ i. g (make m) i (n + 0) in
        let Wanted : ℕ → Type 0 = λ i. Placed n (y i).routines → Kept m (u ∷ (y i).locals)
        → R (y i).it × (F (y i).it ≡ before ++ numbers m (suc (length (y i).locals))) × Inners (y i).routines × (length (y i).routines ≡ j) in
        let here : Wanted (suc m) = λ pl ke.
        let q : n ≡ n + 0 = omega arith in
        let (qy, dy, iy, hy) = rest ke.0 (n + 0) (subst (λ (i : ℕ). Placed i (y (suc m)).routines) q pl) ke.1 in
        (qy, dy ∙ append_assoc before (m ∷ []) (numbers (suc m) (length (y (suc m)).locals)), iy, hy) in
        subst Wanted (sym step) here placed kept

    pub good_as : {A : Type 0} (Q R : A → Type 0) (F : A → List ℕ) (before : List ℕ) (h j m n : ℕ) (x : Made A) → Good Q F before h m n x → (Q x.it → R x.it) → h ≡ j → Good R F before j m n x
    good_as {A} Q R F before h j m n x first q same placed kept = let (qx, dx, ix, hx) = first placed kept in (q qx, dx, ix, hx ∙ same)
