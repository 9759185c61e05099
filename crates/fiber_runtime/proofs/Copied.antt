-- What is copied into the machine.
use Rattle.std.proofs.Common.{◌≡◌, ℕ, zero, suc, ◌+◌, ◌*◌, ◌-◌, ◌/◌, ◌<◌, ◌≤◌, List, [], ◌∷◌, ◌++◌, length, take, drop, refl, sym, ap, ◌∙◌, arith, length-append, length-take, length-drop}
use Rattle.std.proofs.lemmas.List.{append-nil, take_all, drop_all}
use Rattle.std.proofs.lemmas.Slice.{between-put_mid, take-put_mid_below, drop-put_mid}
use borrow.Rule.Slice.PartMut.{put_mid}
use Rattle.thumb_code.specs.declared.register_file.Registers.{Registers}
use Rattle.thumb_code.specs.Map.{stack_at}
use Rattle.thumb_code.specs.Machine.{State as Machine}
use Rattle.fiber_pool.specs.Kept.{Kept}
use Rattle.bank_model.specs.Standing.{words_in, IsInside}
use Rattle.fiber_runtime.specs.State.{ReachesBase}
use Rattle.fiber_runtime.specs.Moves.{Holds}

-- the stack region behind the loan, where words were put in at a place
abbrev pub lent : List ℕ → ℕ → List ℕ → List ℕ → List ℕ
lent stack at xs ys = (let zs = put_mid at (length ys) xs ys in take 1024 (zs ++ drop (length zs) stack))

length_put : (xs ys : List ℕ) (a : ℕ) → length xs ≡ 1024 → a + length ys ≤ 1024 → length (put_mid a (length ys) xs ys) ≡ 1024
length_put xs ys a e r = simp (length-append, length-take, length-drop) (omega (arith, e, r))

lent_is : (stack ys : List ℕ) (a : ℕ) → length stack ≡ 1024 → a + length ys ≤ 1024 → lent stack a stack ys ≡ put_mid a (length ys) stack ys
lent_is stack ys a e r =
    let zs = put_mid a (length ys) stack ys in
    let l = length_put stack ys a e r in
    let none : drop (length zs) stack ≡ [] = drop_all (length zs) stack (omega (arith, l, e)) in
    ap (λ t. take 1024 (zs ++ t)) none ∙ ap (take 1024) (append-nil zs) ∙ take_all 1024 zs (omega (arith, l))

-- words put at their place, the rest stays
module _ (stack ys : List ℕ) (sp base at : ℕ) (size : length stack ≡ 1024) (span : sp + 4 * length ys ≡ base) (some : 0 < length ys → IsInside sp base) (place_is : 0 < length ys → at ≡ (sp - stack_at) / 4) (none : length ys ≡ 0 → at ≡ 0) where
  abbrev news : List ℕ
  news = put_mid at (length ys) stack ys

  pub room : at + length ys ≤ 1024
  room = by_count (length ys) refl
    where
      by_count : (n : ℕ) → length ys ≡ n → at + length ys ≤ 1024
      by_count zero e = omega (arith, none e, e)
      by_count (suc n) e = (let i = some (omega (arith, e)) in let p = place_is (omega (arith, e)) in omega (arith, p, span, i.low, i.within, i.high, i.sp_aligned, i.aligned))

  all_same : length ys ≡ 0 → news ≡ stack
  all_same e = nothing_put (length ys) at ys e (none e) refl
    where
      nil : (zs : List ℕ) → length zs ≡ 0 → zs ≡ []
      nil [] g = refl
      nil (z ∷ zs) g = absurd (omega arith)

      nothing_put : (n a : ℕ) (zs : List ℕ) → n ≡ 0 → a ≡ 0 → length zs ≡ n → put_mid a n stack zs ≡ stack
      nothing_put n a zs p q l = (let z = nil zs (l ∙ p) in rw (p, q, z) refl)

  pub words_put : words_in news sp base ≡ ys
  words_put = by_count (length ys) refl
    where
      nil : (zs : List ℕ) → length zs ≡ 0 → zs ≡ []
      nil [] g = refl
      nil (z ∷ zs) g = absurd (omega arith)

      by_count : (n : ℕ) → length ys ≡ n → words_in news sp base ≡ ys
      by_count zero e = (let z : (base - sp) / 4 ≡ 0 = omega (arith, span, e) in ap (λ m. take m (drop ((sp - stack_at) / 4) news)) z ∙ sym (nil ys e))
      by_count (suc n) e =
          let i = some (omega (arith, e)) in
          let p = place_is (omega (arith, e)) in
          let m : (base - sp) / 4 ≡ length ys = omega (arith, span) in
          let between_is : take (at + length ys - at) (drop at news) ≡ ys = between-put_mid at (length ys) stack ys (at + length ys) (omega (arith, room, size)) (omega arith) in
          let cut : at + length ys - at ≡ length ys = omega arith in
          ap (λ j. take j (drop ((sp - stack_at) / 4) news)) m ∙ ap (λ j. take (length ys) (drop j news)) (sym p) ∙ ap (λ j. take j (drop at news)) (sym cut) ∙ between_is

  pub below_put : take ((sp - stack_at) / 4) news ≡ take ((sp - stack_at) / 4) stack
  below_put = by_count (length ys) refl
    where
      by_count : (n : ℕ) → length ys ≡ n → take ((sp - stack_at) / 4) news ≡ take ((sp - stack_at) / 4) stack
      by_count zero e = ap (take ((sp - stack_at) / 4)) (all_same e)
      by_count (suc n) e = (let p = place_is (omega (arith, e)) in take-put_mid_below at (length ys) stack ys ((sp - stack_at) / 4) (omega (arith, p)) (omega (arith, room, size)))

  pub above_put : 0 < length ys → drop ((base - stack_at) / 4) news ≡ drop ((base - stack_at) / 4) stack
  above_put l =
      let i = some l in
      let p = place_is l in
      drop-put_mid at (length ys) stack ys ((base - stack_at) / 4) (omega (arith, p, span, i.low, i.within, i.sp_aligned, i.aligned)) (omega (arith, room, size)) refl

abbrev pub moved_in : Machine → Registers → ℕ → List ℕ → Machine
moved_in old r b stack = record { registers = r; memory = record old.memory { stack = stack; base = b } }

pub holds_copied : (k : Kept) (old new : Machine) (r : Registers) (b : ℕ) (xs ys : List ℕ) (a n m : ℕ) → ReachesBase k → length old.memory.stack ≡ 1024 → xs ≡ old.memory.stack → ys ≡ k.words → r ≡ k.registers → b ≡ k.base
    → n ≡ length k.words → m ≡ n → (0 < n → a ≡ (k.registers.sp - stack_at) / 4) → (n ≡ 0 → a ≡ 0)
    → new ≡ moved_in old r b (let zs = put_mid a m xs ys in take 1024 (zs ++ drop (length zs) old.memory.stack)) → Holds k old new
holds_copied k old new r b xs ys a n m f size x y p q c e w z is =
    let count : m ≡ length k.words = e ∙ c in
    let stack = old.memory.stack in
    let place_is : 0 < length k.words → a ≡ (k.registers.sp - stack_at) / 4 = λ l. w (omega (arith, l, c)) in
    let none : length k.words ≡ 0 → a ≡ 0 = λ l. z (omega (arith, l, c)) in
    let r0 = room stack k.words k.registers.sp k.base a size f.span f.inside place_is none in
    let same : put_mid a m xs ys ≡ put_mid a (length k.words) stack k.words = ap (λ l. put_mid a m l ys) x ∙ ap (λ l. put_mid a m stack l) y ∙ ap (λ j. put_mid a j stack k.words) count in
    let news : new.memory.stack ≡ put_mid a (length k.words) stack k.words =
    ap (λ (v : Machine). v.memory.stack) is ∙ ap (λ zs. take 1024 (zs ++ drop (length zs) stack)) same ∙ lent_is stack k.words a size r0 in
    record {
      put = record {
        words = ap (λ l. words_in l k.registers.sp k.base) news ∙ words_put stack k.words k.registers.sp k.base a size f.span f.inside place_is none;
        below = ap (take ((k.registers.sp - stack_at) / 4)) news ∙ below_put stack k.words k.registers.sp k.base a size f.span f.inside place_is none;
        above = λ l. ap (drop ((k.base - stack_at) / 4)) news ∙ above_put stack k.words k.registers.sp k.base a size f.span f.inside place_is none l;
        size = ap length news ∙ length_put stack k.words a size r0 ∙ sym size;
      };
      rest = is ∙ ap (λ l. moved_in old r b l) (sym (ap (λ (v : Machine). v.memory.stack) is)) ∙ ap (λ s. moved_in old s b new.memory.stack) p ∙ ap (λ c. moved_in old k.registers c new.memory.stack) q;
    }
