-- What is read within as many ops as there are is live, and the other way round. So a result that nobody reads is dead.
use Rattle.std.proofs.Common.{zero, suc, ◌≡◌, ℕ, ◌+◌, ◌-◌, ◌≤◌, ◌<◌, ◌⊎◌, List, [], ◌∷◌, ◌++◌, length, get_or, take, drop, Bool, true, false, not, ◌&&◌, ◌||◌, Option, Some, None, refl, sym, ap, ◌∙◌, subst, arith, inl, inr, slice_get, slice_set, get_or-set_same, get_or-set_other}
use Rattle.std.specs.Prelude.{Contains, ◌↔◌}
use Rattle.std.specs.Option.{option_to_list}
use Rattle.std.specs.List.{list_any, AllByRecursion}
use Rattle.std.proofs.lemmas.Grind.{common_steps}
use Rattle.std.proofs.lemmas.List.{length-set, length-replicate}
use Rattle.std.proofs.lemmas.Option.{slice_get_within}
use Rattle.std.proofs.lemmas.Bool.{or_cases, and_parts, and_from, or_left, or_right, not-true, not_from_false, cases_eq, false_from_ne_true, both_ways}
use lib.ListN.{replicate}
use Rattle.flat_ir.specs.declared.ops.Op.{Op}
use Rattle.flat_ir.specs.declared.ops.Op.TheVariants.{Const, Copy, Unary, Binary, GlobalGet, GlobalSet, FieldGet, FieldSet, ItemGet, ItemSet, Length, Pop, TextOf, MakeObject, MakeArray, Call, CallSlot, HandlerOf, Ask, Jump, Branch, Return}
use Rattle.flat_ir.specs.declared.ops.Function.{Function}
use Rattle.flat_ir.specs.Ops.{reads, writes, goes_on}
use Rattle.flat_ir.specs.WellFormed.{temporaries, IsWellFormedFunction, NamesBelow}
use Rattle.flat_ir.specs.Liveness.{IsLiveAt, is_read, is_kept}
use Rattle.register_assign.specs.Marks.{is_among, is_the, is_marked, any_marked, AreMarks}
use Rattle.register_assign.specs.Unread.{is_read_by, is_read_within, is_left, is_left_by, written_or_tested, is_unread_of, is_unread, HasDeadResult, AreNoted, AreNotedAnew}
use Rattle.register_assign.proofs.Marking.{among_contains, contains_among, the_true, the_some, none_marked}

-- a test that one of some places passes
any_more : (p q : ℕ → Bool) (xs : List ℕ) → ((x : ℕ) → p x ≡ true → q x ≡ true) → list_any p xs ≡ true → list_any q xs ≡ true
any_more p q [] h e = absurd (cc)
any_more p q (x ∷ xs) h e = elim (or_cases (p x) (list_any p xs) e) [
  | inl a ↦ or_left (q x) (list_any q xs) (h x a)
  | inr a ↦ or_right (q x) (list_any q xs) (any_more p q xs h a)
]

any_same : (p q : ℕ → Bool) (xs : List ℕ) → ((x : ℕ) → p x ≡ q x) → list_any p xs ≡ list_any q xs
any_same p q [] h = refl
any_same p q (x ∷ xs) h = ap (λ b. b || list_any p xs) (h x) ∙ ap (λ b. q x || b) (any_same p q xs h)

any_contains : (p : ℕ → Bool) (xs : List ℕ) → list_any p xs ≡ true → (x : ℕ) × Contains xs x × (p x ≡ true)
any_contains p [] e = absurd (cc)
any_contains p (x ∷ xs) e = elim (or_cases (p x) (list_any p xs) e) [
  | inl a ↦ (x, (0, omega arith, refl), a)
  | inr a ↦ let r = any_contains p xs a in let c = r.1 in let l = c.1 in (r.0, (suc c.0, omega arith, c.2), r.2)
]

at_any : (p : ℕ → Bool) (xs : List ℕ) (x k : ℕ) → k < length xs → get_or xs k x ≡ x → p x ≡ true → list_any p xs ≡ true
at_any p [] x k l e h = absurd (omega arith)
at_any p (y ∷ xs) x zero l e h = or_left (p y) (list_any p xs) (ap p e ∙ h)
at_any p (y ∷ xs) x (suc k) l e h = or_right (p y) (list_any p xs) (at_any p xs x k (omega arith) e h)

contains_any : (p : ℕ → Bool) (xs : List ℕ) (x : ℕ) → Contains xs x → p x ≡ true → list_any p xs ≡ true
contains_any p xs x c h = at_any p xs x c.0 c.1 c.2 h

module _ (ops : List Op) (t : ℕ) where
  -- read within so many ops
  abbrev R : ℕ → ℕ → Bool
  R n at = is_read_within n ops t at

  by_more : (o : Option Op) (at : ℕ) (p q : ℕ → Bool) → ((x : ℕ) → p x ≡ true → q x ≡ true) → is_read_by o t at p ≡ true → is_read_by o t at q ≡ true
  by_more None at p q h e = absurd (cc)
  by_more (Some op) at p q h e = elim (or_cases (is_among t (reads op)) (not (is_the t (writes op)) && list_any p (goes_on at op)) e) [
    | inl a ↦ or_left (is_among t (reads op)) (not (is_the t (writes op)) && list_any q (goes_on at op)) a
    | inr a ↦
        let b = and_parts (not (is_the t (writes op))) (list_any p (goes_on at op)) a in
        or_right (is_among t (reads op)) (not (is_the t (writes op)) && list_any q (goes_on at op))
        (and_from (not (is_the t (writes op))) (list_any q (goes_on at op)) b.0 (any_more p q (goes_on at op) h b.1))
  ]

  more : (n at : ℕ) → R n at ≡ true → R (suc n) at ≡ true
  more zero at e = absurd (cc)
  more (suc n) at e = by_more (slice_get ops at) at (R n) (R (suc n)) (more n) e

  grows : (m k at : ℕ) → R m at ≡ true → R (k + m) at ≡ true
  grows m zero at e = let z : m ≡ 0 + m = omega arith in subst (λ n. R n at ≡ true) z e
  grows m (suc k) at e = let z : suc (k + m) ≡ suc k + m = omega arith in subst (λ n. R n at ≡ true) z (more (k + m) at (grows m k at e))

  inside_by : (o : Option Op) (at : ℕ) (p : ℕ → Bool) → slice_get ops at ≡ o → is_read_by o t at p ≡ true → at < length ops
  inside_by None at p g e = absurd (cc)
  inside_by (Some op) at p g e = slice_get_within ops at op g

  inside : (n at : ℕ) → R n at ≡ true → at < length ops
  inside zero at e = absurd (cc)
  inside (suc n) at e = inside_by (slice_get ops at) at (R n) refl e

  -- how many of the first places are
  abbrev one : Bool → ℕ
  one true = 1
  one false = 0

  abbrev count : ℕ → ℕ → ℕ
  count n zero = 0
  count n (suc l) = count n l + one (R n l)

  one_most : (b : Bool) → one b ≤ 1
  one_most true = omega arith
  one_most false = omega arith

  one_more : (b c : Bool) → (b ≡ true → c ≡ true) → one b ≤ one c
  one_more false c h = omega arith
  one_more true c h = let e = h refl in subst (λ d. 1 ≤ one d) (sym e) (omega arith)

  count_most : (n l : ℕ) → count n l ≤ l
  count_most n zero = omega arith
  count_most n (suc l) = let h = count_most n l in let o = one_most (R n l) in omega (arith, h, o)

  count_more : (n l : ℕ) → count n l ≤ count (suc n) l
  count_more n zero = omega arith
  count_more n (suc l) = let h = count_more n l in let o = one_more (R n l) (R (suc n) l) (more n l) in omega (arith, h, o)

  abbrev Same : ℕ → ℕ → Type 0
  Same n l = (at : ℕ) → at < l → R (suc n) at ≡ true → R n at ≡ true

  -- one op further reaches no place more, or one
  same_next : (n l : ℕ) → Same n l → (b c : Bool) → R n l ≡ b → R (suc n) l ≡ c → Same n (suc l) ⊎ (count n (suc l) < count (suc n) (suc l))
  same_next n l s true c p q = inl (λ at m e. elim (cases_eq at l) [
    | inl i ↦ ap (R n) i ∙ p
    | inr d ↦ s at (omega arith) e
  ])
  same_next n l s false true p q =
      let h = count_more n l in let a : one (R n l) ≡ 0 = ap one p in let b : one (R (suc n) l) ≡ 1 = ap one q in inr (omega (arith, h, a, b))
  same_next n l s false false p q = inl (λ at m e. elim (cases_eq at l) [
    | inl i ↦ let z : R (suc n) at ≡ false = ap (R (suc n)) i ∙ q in absurd (let y : true ≡ false = sym e ∙ z in cc)
    | inr d ↦ s at (omega arith) e
  ])

  more_next : (n l : ℕ) → count n l < count (suc n) l → count n (suc l) < count (suc n) (suc l)
  more_next n l h = let o = one_more (R n l) (R (suc n) l) (more n l) in omega (arith, h, o)

  same_or_more : (n l : ℕ) → Same n l ⊎ (count n l < count (suc n) l)
  same_or_more n zero = inl (λ at m e. absurd (omega arith))
  same_or_more n (suc l) = elim (same_or_more n l) [
    | inl s ↦ same_next n l s (R n l) (R (suc n) l) refl refl
    | inr h ↦ inr (more_next n l h)
  ]

  abbrev Closed : ℕ → Type 0
  Closed n = (at : ℕ) → R (suc n) at ≡ true → R n at ≡ true

  closes : (n : ℕ) → ((m : ℕ) × (m < n) × Closed m) ⊎ (n ≤ count n (length ops))
  closes zero = inr (omega arith)
  closes (suc n) = elim (closes n) [
    | inl c ↦ let l = c.1 in inl (c.0, omega arith, c.2)
    | inr h ↦ elim (same_or_more n (length ops)) [
      | inl s ↦ inl (n, omega arith, λ at e. s at (inside (suc n) at e) e)
      | inr g ↦ inr (omega arith)
    ]
  ]

  closed : (m : ℕ) × (m < suc (length ops)) × Closed m
  closed = elim (closes (suc (length ops))) [
    | inl c ↦ c
    | inr h ↦ let k = count_most (suc (length ops)) (length ops) in absurd (omega arith)
  ]

  -- what is live is read within so many ops as reach no further
  live_reached : (m : ℕ) → Closed m → (at : ℕ) → IsLiveAt ops t at → R m at ≡ true
  live_reached m c _ (is_read at op g r) =
      c at (ap (λ o. is_read_by o t at (R m)) g ∙ or_left (is_among t (reads op)) (not (is_the t (writes op)) && list_any (R m) (goes_on at op)) (contains_among t (reads op) r))
  live_reached m c _ (is_kept at next op g n i l) =
      let f : is_the t (writes op) ≡ false = false_from_ne_true (is_the t (writes op)) (λ e. n (the_true t (writes op) e)) in
      let a = contains_any (R m) (goes_on at op) next i (live_reached m c next l) in
      c at (ap (λ o. is_read_by o t at (R m)) g ∙ or_right (is_among t (reads op)) (not (is_the t (writes op)) && list_any (R m) (goes_on at op))
      (and_from (not (is_the t (writes op))) (list_any (R m) (goes_on at op)) (not_from_false (is_the t (writes op)) f) a))

  pub live_within : (at : ℕ) → IsLiveAt ops t at → R (length ops) at ≡ true
  live_within at l =
      let c = closed in let m = c.1 in
      let k = length ops - c.0 in
      let e : k + c.0 ≡ length ops = omega arith in
      subst (λ n. R n at ≡ true) e (grows c.0 k at (live_reached c.0 c.2 at l))

  live_by : (o : Option Op) (at : ℕ) (p : ℕ → Bool) → slice_get ops at ≡ o → ((x : ℕ) → p x ≡ true → IsLiveAt ops t x) → is_read_by o t at p ≡ true → IsLiveAt ops t at
  live_by None at p g h e = absurd (cc)
  live_by (Some op) at p g h e = elim (or_cases (is_among t (reads op)) (not (is_the t (writes op)) && list_any p (goes_on at op)) e) [
    | inl a ↦ is_read at op g (among_contains t (reads op) a)
    | inr a ↦
        let b = and_parts (not (is_the t (writes op))) (list_any p (goes_on at op)) a in
        let n = any_contains p (goes_on at op) b.1 in
        is_kept at n.0 op g (λ w. both_ways (is_the t (writes op)) (not-true (is_the t (writes op)) b.0) (the_some t (writes op) w)) n.1 (h n.0 n.2)
  ]

  pub within_live : (n at : ℕ) → R n at ≡ true → IsLiveAt ops t at
  within_live zero at e = absurd (cc)
  within_live (suc n) at e = live_by (slice_get ops at) at (R n) refl (within_live n) e

  -- marks say the same
  same_truth : (a b : Bool) → (a ≡ true → b ≡ true) → (b ≡ true → a ≡ true) → a ≡ b
  same_truth true b h k = sym (h refl)
  same_truth false true h k = k refl
  same_truth false false h k = refl

  pub marks_within : (marks : List Bool) → AreMarks ops t marks → (at : ℕ) → is_marked marks at ≡ R (length ops) at
  marks_within marks m at = same_truth (is_marked marks at) (R (length ops) at) (λ e. live_within at (m.live at e)) (λ e. m.all at (within_live (length ops) at e))

  any_is : (marks : List Bool) (xs : List ℕ) → any_marked marks xs ≡ list_any (is_marked marks) xs
  any_is marks [] = refl
  any_is marks (x ∷ xs) = ap (λ b. is_marked marks x || b) (any_is marks xs)

  pub left_is : (marks : List Bool) → AreMarks ops t marks → (at : ℕ) (op : Op) → not (any_marked marks (goes_on at op)) ≡ is_left ops at op t
  left_is marks m at op = ap not (any_is marks (goes_on at op) ∙ any_same (is_marked marks) (R (length ops)) (goes_on at op) (marks_within marks m))

-- the places are noted one by one
pub noted_first : (ops : List Op) (t : ℕ) (old : List Bool) → AreNotedAnew ops t 0 old old
noted_first ops t old = record { long = refl; noted = λ at op l g e. absurd (omega arith); others = λ at op g e. refl }

same_op : (ops : List Op) (at : ℕ) (a b : Op) → slice_get ops at ≡ Some a → slice_get ops at ≡ Some b → a ≡ b
same_op ops at a b p q = let e : Some a ≡ Some b = sym p ∙ q in cc

pub noted_here : (ops : List Op) (t at : ℕ) (op : Op) (marks old new : List Bool) → slice_get ops at ≡ Some op → AreMarks ops t marks → length old ≡ length ops
    → is_the t (written_or_tested op) ≡ true → AreNotedAnew ops t at old new → AreNotedAnew ops t (at + 1) old (slice_set new at (not (any_marked marks (goes_on at op))))
noted_here ops t at op marks old new g m n w h =
    let v = not (any_marked marks (goes_on at op)) in
    let lo = h.long in
    let l = slice_get_within ops at op g in
    let here : is_marked (slice_set new at v) at ≡ is_left ops at op t = get_or-set_same new at v false (omega arith) ∙ left_is ops t marks m at op in record {
      long = length-set new at v ∙ h.long;
      noted = λ k o b q e. elim (cases_eq k at) [
        | inl s ↦
            let so : o ≡ op = same_op ops at o op (ap (slice_get ops) (sym s) ∙ q) g in
            ap (is_marked (slice_set new at v)) s ∙ (here ∙ (ap (λ j. is_left ops j op t) (sym s) ∙ ap (λ z. is_left ops k z t) (sym so)))
        | inr d ↦ get_or-set_other new at k v false d ∙ h.noted k o (omega arith) q e
      ];
      others = λ k o q e. elim (cases_eq k at) [
        | inl s ↦
            let so : o ≡ op = same_op ops at o op (ap (slice_get ops) (sym s) ∙ q) g in
            let f : is_the t (written_or_tested op) ≡ false = ap (λ z. is_the t (written_or_tested z)) (sym so) ∙ e in
            absurd (let y : true ≡ false = sym w ∙ f in cc)
        | inr d ↦ get_or-set_other new at k v false d ∙ h.others k o q e
      ];
    }

pub noted_past : (ops : List Op) (t at : ℕ) (op : Op) (old new : List Bool) → slice_get ops at ≡ Some op → is_the t (written_or_tested op) ≡ false → AreNotedAnew ops t at old new
    → AreNotedAnew ops t (at + 1) old new
noted_past ops t at op old new g w h = record {
  long = h.long;
  noted = λ k o b q e. elim (cases_eq k at) [
    | inl s ↦
        let so : o ≡ op = same_op ops at o op (ap (slice_get ops) (sym s) ∙ q) g in
        let f : is_the t (written_or_tested op) ≡ true = ap (λ z. is_the t (written_or_tested z)) (sym so) ∙ e in
        absurd (let y : true ≡ false = sym f ∙ w in cc)
    | inr d ↦ h.noted k o (omega arith) q e
  ];
  others = h.others;
}

-- temporary by temporary
pub none_noted : (ops : List Op) → AreNoted ops 0 (replicate (length ops) false)
none_noted ops = record {
  long = length-replicate (length ops) false;
  noted = λ at t op g w l. absurd (omega arith);
  others = λ at op g h. none_marked (length ops) at;
}

pub noted_more : (ops : List Op) (n : ℕ) (old new : List Bool) → AreNoted ops n old → AreNotedAnew ops n (length ops) old new → AreNoted ops (n + 1) new
noted_more ops n old new h k = record {
  long = k.long ∙ h.long;
  noted = λ at t op g w l. elim (cases_eq t n) [
    | inl s ↦
        k.noted at op (slice_get_within ops at op g) g (the_some n (written_or_tested op) (w ∙ ap Some s)) ∙ ap (is_left ops at op) (sym s)
    | inr d ↦ k.others at op g (other op t w d) ∙ h.noted at t op g w (omega arith)
  ];
  others = λ at op g b. k.others at op g (false_from_ne_true (is_the n (written_or_tested op)) (λ e. let q = b n (the_true n (written_or_tested op) e) in absurd (omega arith)))
      ∙ h.others at op g (λ t w. let q = b t w in omega arith);
}
  where
    other : (op : Op) (t : ℕ) → written_or_tested op ≡ Some t → (t ≡ n → ⊥) → is_the n (written_or_tested op) ≡ false
    other op t w d = false_from_ne_true (is_the n (written_or_tested op)) (λ e. (let z : Some t ≡ Some n = sym w ∙ the_true n (written_or_tested op) e in d (cc)))

-- an op handles what it writes; a branch handles what it reads
handled_is : (op : Op) → (written_or_tested op ≡ writes op) ⊎ ((t : ℕ) × (written_or_tested op ≡ Some t) × (option_to_list (writes op) ++ reads op ≡ t ∷ []) × (writes op ≡ None))
handled_is (Branch when target) = inr (when, refl, refl, refl)
handled_is (Const to value) = inl refl
handled_is (Copy to from) = inl refl
handled_is (Unary to o from) = inl refl
handled_is (Binary to o left right) = inl refl
handled_is (GlobalGet to slot) = inl refl
handled_is (GlobalSet slot from) = inl refl
handled_is (FieldGet to object field) = inl refl
handled_is (FieldSet object field from) = inl refl
handled_is (ItemGet to array index) = inl refl
handled_is (ItemSet array index from) = inl refl
handled_is (Length to array) = inl refl
handled_is (Pop to array) = inl refl
handled_is (TextOf to text) = inl refl
handled_is (MakeObject to class) = inl refl
handled_is (MakeArray to room) = inl refl
handled_is (Call to function args) = inl refl
handled_is (CallSlot to slot args) = inl refl
handled_is (HandlerOf to function) = inl refl
handled_is (Ask to service args) = inl refl
handled_is (Jump target) = inl refl
handled_is (Return from) = inl refl

-- a temporary that an op handles is one of the function's
handled_below : (op : Op) (t n : ℕ) → written_or_tested op ≡ Some t → NamesBelow n op → t < n
handled_below op t n w names = elim (handled_is op) [
  | inl e ↦ by (writes op) (sym e ∙ w) names
  | inr d ↦
      let z : Some d.0 ≡ Some t = sym d.1 ∙ w in
      let q : d.0 ≡ t = cc in
      let h : AllByRecursion (λ u. u < n) (d.0 ∷ []) = subst (AllByRecursion (λ u. u < n)) d.2 names in subst (λ m. m < n) q h.0
]
  where
    by : (o : Option ℕ) → o ≡ Some t → AllByRecursion (λ u. u < n) (option_to_list o ++ reads op) → t < n
    by None q h = absurd (cc)
    by (Some u) q h = (let z : u ≡ t = cc in subst (λ m. m < n) z h.0)

-- what it writes it handles
handled_written : (op : Op) (t : ℕ) → writes op ≡ Some t → written_or_tested op ≡ Some t
handled_written op t w = elim (handled_is op) [
  | inl e ↦ e ∙ w
  | inr d ↦ let n = d.3 in absurd (let z : None ≡ Some t = sym n ∙ w in cc)
]

all_at : (P : Op → Type 0) (xs : List Op) → AllByRecursion P xs → (k : ℕ) (x : Op) → slice_get xs k ≡ Some x → P x
all_at P [] a k x g = absurd (cc)
all_at P (y ∷ xs) a zero x g = let e : y ≡ x = cc in subst P e a.0
all_at P (y ∷ xs) a (suc k) x g = all_at P xs a.1 k x g

none_past : (notes : List Bool) (ops : List Op) (at : ℕ) → length notes ≡ length ops → slice_get ops at ≡ None → is_marked notes at ≡ false
none_past [] ops at l g = refl
none_past (b ∷ notes) [] at l g = absurd (omega arith)
none_past (b ∷ notes) (op ∷ ops) zero l g = absurd (cc)
none_past (b ∷ notes) (op ∷ ops) (suc at) l g = none_past notes ops at (omega arith) g

pub noted_last : (f : Function) (notes : List Bool) → IsWellFormedFunction f → AreNoted f.ops (temporaries f) notes → (at : ℕ) → is_marked notes at ≡ is_unread f at
unfolding is_unread
noted_last f notes w h at = by (slice_get f.ops at) refl
  where
    to : (op : Op) → slice_get f.ops at ≡ Some op → (o : Option ℕ) → written_or_tested op ≡ o → is_marked notes at ≡ is_left_by f.ops at op o
    to op g None e = h.others at op g (λ t q. absurd (let z : None ≡ Some t = sym e ∙ q in cc))
    to op g (Some t) e = h.noted at t op g e (handled_below op t (temporaries f) e (all_at _ f.ops w.ops at op g).names)

    by : (o : Option Op) → slice_get f.ops at ≡ o → is_marked notes at ≡ is_unread_of f.ops at o
    by None g = none_past notes f.ops at h.long g
    by (Some op) g = to op g (written_or_tested op) refl

-- IT IS DEAD, and what is dead is unread
dead_of : (f : Function) (at : ℕ) (o : Option Op) → slice_get f.ops at ≡ o → is_unread_of f.ops at o ≡ true → HasDeadResult f at
dead_of f at None g e = absurd (cc)
dead_of f at (Some op) g e = by (written_or_tested op) refl e
  where
    by : (w : Option ℕ) → written_or_tested op ≡ w → is_left_by f.ops at op w ≡ true → HasDeadResult f at
    by None q h = absurd (cc)
    by (Some to) q h = record {
      op = op;
      to = to;
      there = g;
      handles = q;
      dead = λ l.
          let so = same_op f.ops at l.0 op l.2 g in
          let i : Contains (goes_on at op) l.1 = subst (λ (z : Op). Contains (goes_on at z) l.1) so l.3 in
          both_ways (list_any (is_read_within (length f.ops) f.ops to) (goes_on at op)) (not-true (list_any (is_read_within (length f.ops) f.ops to) (goes_on at op)) h)
          (contains_any (is_read_within (length f.ops) f.ops to) (goes_on at op) l.1 i (live_within f.ops to l.1 l.4));
    }

unread_of : (f : Function) (at : ℕ) (d : HasDeadResult f at) → is_unread_of f.ops at (slice_get f.ops at) ≡ true
unread_of f at d =
    let p = is_read_within (length f.ops) f.ops d.to in
    let n : list_any p (goes_on at d.op) ≡ false = false_from_ne_true (list_any p (goes_on at d.op)) (λ e. let c = any_contains p (goes_on at d.op) e in
    d.dead (d.op, c.0, d.there, c.1, within_live f.ops d.to (length f.ops) c.0 c.2)) in
    ap (is_unread_of f.ops at) d.there ∙ (ap (is_left_by f.ops at d.op) d.handles ∙ not_from_false (list_any p (goes_on at d.op)) n)

pub unread_dead : (f : Function) (at : ℕ) → (is_unread f at ≡ true) ↔ HasDeadResult f at
unfolding is_unread
unread_dead f at = (λ e. dead_of f at (slice_get f.ops at) refl e, λ d. unread_of f at d)

-- what an op's unread result isn't, nor what a branch tests that nobody reads again: live where a run goes on
pub handled_not_live : (f : Function) (at to next : ℕ) (op : Op) → is_unread f at ≡ true → slice_get f.ops at ≡ Some op → written_or_tested op ≡ Some to → Contains (goes_on at op) next
    → IsLiveAt f.ops to next → ⊥
handled_not_live f at to next op e g w i l =
    let d = (unread_dead f at).0 e in
    let so = same_op f.ops at d.op op d.there g in
    let z : Some d.to ≡ Some to = sym d.handles ∙ (ap written_or_tested so ∙ w) in
    let q : d.to ≡ to = cc in
    d.dead (op, next, g, i, subst (λ u. IsLiveAt f.ops u next) (sym q) l)

pub unread_not_live : (f : Function) (at to next : ℕ) (op : Op) → is_unread f at ≡ true → slice_get f.ops at ≡ Some op → writes op ≡ Some to → Contains (goes_on at op) next
    → IsLiveAt f.ops to next → ⊥
unread_not_live f at to next op e g w i l = handled_not_live f at to next op e g (handled_written op to w) i l

-- a list that was written over all of another
pub taken : (n : ℕ) (xs ys : List Bool) → length xs ≡ n → length ys ≡ n → take n (xs ++ drop (length xs) ys) ≡ xs
taken n xs ys e g = grind (arith, common_steps)
