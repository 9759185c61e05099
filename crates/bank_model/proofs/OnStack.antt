-- A fiber on RAM, and the bank that the RAM shows.
use Rattle.std.proofs.Common.{◌≡◌, ℕ, ◌+◌, ◌*◌, ◌-◌, ◌/◌, ◌≤◌, List, length, take, drop, refl, sym, ap, ◌∙◌, subst, arith, length-take, length-drop}
use Rattle.std.proofs.lemmas.List.{drop-drop, ext_get_or, get_or-take, get_or-drop}
use Rattle.thumb_code.specs.Map.{stack_at}
use Rattle.thumb_code.specs.Machine.{Ram}
use Rattle.bank_model.specs.Bank.{Bank}
use Rattle.bank_model.specs.Standing.{words_in, SameFrom, IsInside, IsPart, Shows}

-- The bank of who stands on RAM with this SP.
abbrev pub bank_on : Ram → ℕ → Bank
bank_on m sp = record { flash = m.flash; globals = m.globals; arena = m.arena; base = m.base; words = words_in m.stack sp m.base }

-- Two regions that are the same from an address on have the same words above it.
pub same_above : (at sp : ℕ) (old new : List ℕ) → SameFrom at old new → at ≤ sp → SameFrom sp old new
same_above at sp old new h l =
    let a = (at - stack_at) / 4 in
    let b = (sp - stack_at) / 4 in
    let e : a + (b - a) ≡ b = omega arith in
    subst (λ n. drop n new ≡ drop n old) e (sym (drop-drop (b - a) a new) ∙ ap (drop (b - a)) h ∙ drop-drop (b - a) a old)

pub same_words : (at sp base : ℕ) (old new : List ℕ) → SameFrom at old new → at ≤ sp → words_in new sp base ≡ words_in old sp base
same_words at sp base old new h l = ap (take ((base - sp) / 4)) (same_above at sp old new h l)

pub length_words : (stack : List ℕ) (sp base : ℕ) → IsInside sp base → length stack ≡ 1024 → length (words_in stack sp base) ≡ (base - sp) / 4
length_words stack sp base i n = simp (length-take, length-drop) (omega (arith, i.low, i.high, i.within, i.sp_aligned, i.aligned))

-- A part of a list is those words of it.
part_words : (xs : List ℕ) (from : ℕ) (ys : List ℕ) (n : ℕ) → IsPart xs from ys → n ≡ length ys → ys ≡ take n (drop from xs)
part_words xs from ys n h e =
    let size : length (take n (drop from xs)) ≡ length ys = simp (length-take, length-drop) (omega (arith, h.within, e)) in
    ext_get_or 0 ys (take n (drop from xs)) (sym size) (λ i l. h.same i l ∙ sym (get_or-drop from xs i 0) ∙ sym (get_or-take n (drop from xs) i 0 (omega arith)))

words_part : (xs : List ℕ) (from n : ℕ) → from + n ≤ length xs → IsPart xs from (take n (drop from xs))
words_part xs from n l =
    let size : length (take n (drop from xs)) ≡ n = simp (length-take, length-drop) (omega arith) in
    record { within = omega arith; same = λ k q. get_or-take n (drop from xs) k 0 (omega arith) ∙ get_or-drop from xs k 0 }

-- Who stands on RAM has a bank that the RAM shows.
pub bank_shows : (m : Ram) (sp : ℕ) → IsInside sp m.base → length m.stack ≡ 1024 → Shows sp m (bank_on m sp)
bank_shows m sp i n =
    let l : length (words_in m.stack sp m.base) ≡ (m.base - sp) / 4 = length_words m.stack sp m.base i n in
    let s : m.base - 4 * length (words_in m.stack sp m.base) ≡ sp = omega (arith, l, i.within, i.sp_aligned, i.aligned) in
    let from : (m.base - 4 * length (words_in m.stack sp m.base) - stack_at) / 4 ≡ (sp - stack_at) / 4 = ap (λ x. (x - stack_at) / 4) s in
    record {
      flash = refl;
      globals = refl;
      arena = refl;
      base = refl;
      aligned = i.aligned;
      low = omega (arith, l, i.low, i.within);
      high = i.high;
      size = n;
      sp_is = s;
      words = subst (λ x. IsPart m.stack x (words_in m.stack sp m.base)) (sym from) (words_part m.stack ((sp - stack_at) / 4) ((m.base - sp) / 4) (omega (arith, n, i.low, i.high, i.within, i.sp_aligned, i.aligned)));
    }

-- The bank that a RAM shows is that of who stands on it.
shown_words : (m : Ram) (sp : ℕ) (b : Bank) → Shows sp m b → b.words ≡ words_in m.stack sp m.base
shown_words m sp b h =
    let s : b.base - 4 * length b.words ≡ sp = h.sp_is in
    let n : (m.base - sp) / 4 ≡ length b.words = omega (arith, s, h.base, h.low) in
    let from : (b.base - 4 * length b.words - stack_at) / 4 ≡ (sp - stack_at) / 4 = ap (λ x. (x - stack_at) / 4) s in
    part_words m.stack ((sp - stack_at) / 4) b.words ((m.base - sp) / 4) (subst (λ x. IsPart m.stack x b.words) from h.words) n

pub shown_inside : (m : Ram) (sp : ℕ) (b : Bank) → Shows sp m b → IsInside sp m.base
shown_inside m sp b h =
    let s : b.base - 4 * length b.words ≡ sp = h.sp_is in
    record { sp_aligned = omega (arith, s, h.base, h.low, h.aligned); aligned = h.aligned; low = omega (arith, s, h.base, h.low); within = omega (arith, s, h.base, h.low); high = h.high }

pub shown_bank : (m : Ram) (sp : ℕ) (b : Bank) → Shows sp m b → b ≡ bank_on m sp
shown_bank m sp b h = same b.flash m.flash b.globals m.globals b.arena m.arena b.base m.base b.words (words_in m.stack sp m.base) h.flash h.globals h.arena h.base (shown_words m sp b h)
  where
    same : (f f' g g' a a' : List ℕ) (c c' : ℕ) (w w' : List ℕ) → f ≡ f' → g ≡ g' → a ≡ a' → c ≡ c' → w ≡ w'
        → (let x : Bank = record { flash = f; globals = g; arena = a; base = c; words = w } in let y : Bank = record { flash = f'; globals = g'; arena = a'; base = c'; words = w' } in x ≡ y)
    same f f' g g' a a' c c' w w' p q r s t = rw (p, q, r, s, t) refl
