-- Sections of an image one behind another.
use Rattle.std.proofs.Common.{◌≡◌, ℕ, zero, suc, ◌+◌, ◌-◌, ◌%◌, ◌<◌, ◌≤◌, List, [], ◌∷◌, ◌++◌, length, Bool, true, false, cond, nat_lt, Some, slice_get, refl, sym, ap, ◌∙◌, subst, arith}
use Rattle.std.specs.Prelude.{map}
use Rattle.std.specs.List.{AllByRecursion, enumerate_from, filter}
use Rattle.std.proofs.lemmas.Bool.Decides.{nat_tests}
use Rattle.thumb_code.specs.Map.{flash_byte}
use Rattle.thumb_emit.specs.InFlash.{Addresses}
use Rattle.image_link.specs.Image.{Section, StandBehind}
use Rattle.image_link.proofs.SectionKinds.{text_section}
use Rattle.image_link.proofs.Lists.{all_more, all_of_map, chosen_get}

-- what holds of a section that stands behind an end
pub record IsBehind (image : List ℕ) (end : ℕ) (s : Section) : Type 0 where
  pub aligned : s.at % 4 ≡ 0
  pub behind : end ≤ s.at
  pub inside : s.at + s.long ≤ length image

pub end_within : (image : List ℕ) (end : ℕ) (ss : List Section) → StandBehind image end ss → end ≤ length image
end_within image end [] h = omega arith
end_within image end (s ∷ ss) h = let e = h.0 in let w = end_within image (s.at + s.long) ss h.2 in omega arith

pub each_behind : (image : List ℕ) (end : ℕ) (ss : List Section) → StandBehind image end ss → AllByRecursion (IsBehind image end) ss
each_behind image end [] h = tt
each_behind image end (s ∷ ss) h =
    let e = h.0 in
    let w = end_within image (s.at + s.long) ss h.2 in (
      record { aligned = omega arith; behind = omega arith; inside = w },
      all_more (IsBehind image (s.at + s.long)) (IsBehind image end) (λ t b. (let c = b.behind in record { aligned = b.aligned; behind = omega arith; inside = b.inside })) ss
          (each_behind image (s.at + s.long) ss h.2),
    )

-- those behind others stand behind an end that is no lower
pub rest_behind : (image : List ℕ) (end : ℕ) (ss ts : List Section) → StandBehind image end (ss ++ ts) → (next : ℕ) × (end ≤ next) × StandBehind image next ts
rest_behind image end [] ts h = (end, omega arith, h)
rest_behind image end (s ∷ ss) ts h = let e = h.0 in let r = rest_behind image (s.at + s.long) ss ts h.2 in let l = r.1 in (r.0, omega arith, r.2)

-- whatever holds of each byte of sections and of each between them holds of all behind the end
abbrev pub Between : (ℕ → Type 0) → ℕ → List Section → Type 0
Between P end [] = Unit {0}
Between P end (s ∷ ss) = ((k : ℕ) → end ≤ k → k < s.at → P k) × Between P (s.at + s.long) ss

abbrev pub Throughout : (ℕ → Type 0) → Section → Type 0
Throughout P s = (k : ℕ) → k < s.long → P (s.at + k)

pub covered : (image : List ℕ) (P : ℕ → Type 0) (end : ℕ) (ss : List Section) → StandBehind image end ss → Between P end ss → AllByRecursion (Throughout P) ss → (k : ℕ) → end ≤ k → k < length image → P k
covered image P end [] h b a k l m = absurd (omega arith)
covered image P end (s ∷ ss) h b a k l m = by (λ n. covered image P (s.at + s.long) ss h.2 b.1 a.1 k n m) (nat_lt k s.at) refl (nat_lt k (s.at + s.long)) refl
  where
    by : (s.at + s.long ≤ k → P k) → (x : Bool) → nat_lt k s.at ≡ x → (y : Bool) → nat_lt k (s.at + s.long) ≡ y → P k
    by rest true e y f = b.0 k l (grind (arith, nat_tests))
    by rest false e true f =
        let n : s.at ≤ k = grind (arith, nat_tests) in
        let o : k < s.at + s.long = grind (arith, nat_tests) in
        let z : s.at + (k - s.at) ≡ k = omega arith in
        subst P z (a.0 (k - s.at) (omega arith))
    by rest false e false f = rest (grind (arith, nat_tests))

-- sections of the same lengths behind the same end are the same, and so is how long the image is
abbrev pub AreAsLong : List Section → List Section → Type 0
AreAsLong [] [] = Unit {0}
AreAsLong (s ∷ ss) (t ∷ ts) = (s.long ≡ t.long) × AreAsLong ss ts
AreAsLong ss ts = ⊥

pub as_long_map : {X : Type 0} (g h : X → Section) → ((x : X) → (g x).long ≡ (h x).long) → (xs : List X) → AreAsLong (map g xs) (map h xs)
as_long_map g h e [] = tt
as_long_map g h e (x ∷ xs) = (e x, as_long_map g h e xs)

pub as_long_append : (ss ts us vs : List Section) → AreAsLong ss ts → AreAsLong us vs → AreAsLong (ss ++ us) (ts ++ vs)
as_long_append [] [] us vs h k = k
as_long_append [] (t ∷ ts) us vs h k = elim h [ ]
as_long_append (s ∷ ss) [] us vs h k = elim h [ ]
as_long_append (s ∷ ss) (t ∷ ts) us vs h k = (h.0, as_long_append ss ts us vs h.1 k)

abbrev section : ℕ → ℕ → Section
section at long = record { at = at; long = long }

pub same_sections : (x y : List ℕ) (end : ℕ) (ss ts : List Section) → AreAsLong ss ts → StandBehind x end ss → StandBehind y end ts → ss ≡ ts
same_sections x y end [] [] l h k = refl
same_sections x y end [] (t ∷ ts) l h k = elim l [ ]
same_sections x y end (s ∷ ss) [] l h k = elim l [ ]
same_sections x y end (s ∷ ss) (t ∷ ts) l h k =
    let at : s.at ≡ t.at = h.0 ∙ sym k.0 in
    let one : s ≡ t = ap (λ n. section n s.long) at ∙ ap (λ n. section t.at n) l.0 in
    let next : t.at + t.long ≡ s.at + s.long = ap (λ (q : Section). q.at + q.long) (sym one) in
    let rest : StandBehind y (s.at + s.long) ts = subst (λ n. StandBehind y n ts) next k.2 in
    ap (λ (q : Section). q ∷ ss) one ∙ ap (λ (qs : List Section). t ∷ qs) (same_sections x y (s.at + s.long) ss ts l.1 h.2 rest)

pub same_length : (x y : List ℕ) (end : ℕ) (ss : List Section) → StandBehind x end ss → StandBehind y end ss → length x ≡ length y
same_length x y end [] h k = h ∙ sym k
same_length x y end (s ∷ ss) h k = same_length x y (s.at + s.long) ss h.2 k.2

pub same_between : (x y : List ℕ) (end : ℕ) (ss : List Section) → StandBehind x end ss → StandBehind y end ss → Between (λ k. flash_byte x k ≡ flash_byte y k) end ss
same_between x y end [] h k = tt
same_between x y end (s ∷ ss) h k = (λ i l m. h.1 i l m ∙ sym (k.1 i l m), same_between x y (s.at + s.long) ss h.2 k.2)

-- each of chosen texts ends before the next ones begin
chosen_after : (image : List ℕ) (a : Addresses) (test : ℕ → Bool) (n end : ℕ) (ts : List (List ℕ)) → StandBehind image end (map (text_section a) (filter (λ p. test p.0) (enumerate_from n ts)))
    → (i : ℕ) (t : List ℕ) → slice_get ts i ≡ Some t → test (n + i) ≡ true → end ≤ a.text (n + i)
chosen_after image a test n end ts h i t e c =
    let all = each_behind image end (map (text_section a) (filter (λ p. test p.0) (enumerate_from n ts))) h in
    (chosen_get (λ p. IsBehind image end (text_section a p)) test n ts (all_of_map (IsBehind image end) (text_section a) (filter (λ p. test p.0) (enumerate_from n ts)) all) i t e c).behind

-- where the first is chosen the others stand behind it, and else behind the same end
first_chosen : (image : List ℕ) (g : ℕ × List ℕ → Section) (b : Bool) (p : ℕ × List ℕ) (ps : List (ℕ × List ℕ)) (end : ℕ) → b ≡ true → StandBehind image end (map g (cond b (p ∷ ps) ps))
    → StandBehind image ((g p).at + (g p).long) (map g ps)
first_chosen image g true p ps end e h = h.2
first_chosen image g false p ps end e h = absurd cc

after_first : (image : List ℕ) (g : ℕ × List ℕ → Section) (b : Bool) (p : ℕ × List ℕ) (ps : List (ℕ × List ℕ)) (end : ℕ) → StandBehind image end (map g (cond b (p ∷ ps) ps)) → (next : ℕ) × StandBehind image next (map g ps)
after_first image g true p ps end h = ((g p).at + (g p).long, h.2)
after_first image g false p ps end h = (end, h)

pub texts_order : (image : List ℕ) (a : Addresses) (test : ℕ → Bool) (n end : ℕ) (ts : List (List ℕ)) → StandBehind image end (map (text_section a) (filter (λ p. test p.0) (enumerate_from n ts)))
    → (i j : ℕ) (s t : List ℕ) → i < j → slice_get ts i ≡ Some s → slice_get ts j ≡ Some t → test (n + i) ≡ true → test (n + j) ≡ true → a.text (n + i) + 4 ≤ a.text (n + j)
texts_order image a test n end [] h i j s t l e f c d = let bad : ⊥ = cc in absurd bad
texts_order image a test n end (u ∷ ts) h i zero s t l e f c d = absurd (omega arith)
texts_order image a test n end (u ∷ ts) h zero (suc j) s t l e f c d =
    let z : n + 0 ≡ n = omega arith in
    let w : n + 1 + j ≡ n + suc j = omega arith in
    let rest = first_chosen image (text_section a) (test n) (n, u) (filter (λ p. test p.0) (enumerate_from (n + 1) ts)) end (ap test (sym z) ∙ c) h in
    let low : a.text n + (4 + length u) ≤ a.text (n + 1 + j) = chosen_after image a test (n + 1) (a.text n + (4 + length u)) ts rest j t f (ap test w ∙ d) in
    let x : a.text (n + 0) ≡ a.text n = ap a.text z in
    let y : a.text (n + 1 + j) ≡ a.text (n + suc j) = ap a.text w in
    omega arith
texts_order image a test n end (u ∷ ts) h (suc i) (suc j) s t l e f c d =
    let v : n + 1 + i ≡ n + suc i = omega arith in
    let w : n + 1 + j ≡ n + suc j = omega arith in
    let rest = after_first image (text_section a) (test n) (n, u) (filter (λ p. test p.0) (enumerate_from (n + 1) ts)) end h in
    let g = texts_order image a test (n + 1) rest.0 ts rest.1 i j s t (omega arith) e f (ap test v ∙ c) (ap test w ∙ d) in
    let x : a.text (n + 1 + i) ≡ a.text (n + suc i) = ap a.text v in
    let y : a.text (n + 1 + j) ≡ a.text (n + suc j) = ap a.text w in
    omega arith
