-- The registers of a list, one bit after another.
use Rattle.std.proofs.Common.{zero, suc, ◌≡◌, ℕ, ◌+◌, ◌-◌, ◌*◌, ◌/◌, ◌%◌, ◌<◌, ◌≤◌, List, [], ◌∷◌, length, Bool, true, false, refl, sym, ap, ◌∙◌, arith, Option, Some, None, set, ◌^◌, map}
use Rattle.std.proofs.lemmas.Bool.Decides.{nat_tests}
use Rattle.std.proofs.lemmas.Nat.{ones_le_self}
use lib.Count.{ones_step, ones as count_ones}
use Rattle.std.proofs.Math.Nat.{pow-suc}
use Rattle.thumb_code.specs.RegisterFile.{listed, listed_from, is_odd, word, values, low}
use Rattle.thumb_code.specs.Forms.{word_accesses, access, Access, words_to}
use Rattle.std.specs.Option.{option_or}
use Rattle.thumb_code.specs.Memory.{Memory, first_fault, store_all}
use Rattle.armv6m_machine.specs.Transfers.{loaded}
use Rattle.thumb_code.specs.declared.register_file.Registers.{Registers}

pub listed_is : (list : ℕ) → listed list ≡ listed_from 8 0 list
unfolding listed
listed_is list = refl

pub listed_odd : (n k l : ℕ) → l % 2 ≡ 1 → listed_from (suc n) k l ≡ k ∷ listed_from n (k + 1) (l / 2)
unfolding listed_from
listed_odd n k l h = rw h refl

pub listed_even : (n k l : ℕ) → l % 2 ≡ 0 → listed_from (suc n) k l ≡ listed_from n (k + 1) (l / 2)
unfolding listed_from
listed_even n k l h = rw h refl

pub listed_none : (k l : ℕ) → listed_from 0 k l ≡ []
unfolding listed_from
listed_none k l = refl

bit_cases : (P : Type 0) (l : ℕ) → (l % 2 ≡ 1 → P) → (l % 2 ≡ 0 → P) → P
bit_cases P l f g = elim (is_odd l) as (λ b. is_odd l ≡ b → P) [ true ↦ λ e. f (grind (arith, nat_tests)) | false ↦ λ e. g (let h : l % 2 ≡ 0 = grind (arith, nat_tests) in h) ] refl

pub count_more : (n k l : ℕ) → length (listed_from (suc n) k l) ≡ l % 2 + length (listed_from n (k + 1) (l / 2))
count_more n k l = bit_cases _ l (λ h. rw (listed_odd n k l h) (omega arith)) (λ h. rw (listed_even n k l h) (omega arith))

-- A number's ones are as many as the registers of the list.
count_ones_from : (n k l : ℕ) → l < 2 ^ n → count_ones l ≡ length (listed_from n k l)
count_ones_from zero k l h = let z : l ≡ 0 = omega arith in rw (listed_none k l, z) (omega (arith, ones_le_self 0))
count_ones_from (suc n) k l h =
    let p : 2 ^ suc n ≡ 2 ^ n * 2 = pow-suc 2 n in
    omega (arith, ones_step l, count_more n k l, count_ones_from n (k + 1) (l / 2) (omega arith))

pub count_ones_listed : (list : ℕ) → list < 2 ^ 8 → count_ones list ≡ length (listed list)
count_ones_listed list h = rw (listed_is list) (count_ones_from 8 0 list h)

pub count_step : (k l n : ℕ) → k < 8 → length (listed_from (8 - k) k l) ≡ l % 2 + length (listed_from (8 - (k + 1)) (k + 1) (l / 2))
count_step k l n h = let e : 8 - k ≡ suc (8 - (k + 1)) = omega arith in rw e (count_more (8 - (k + 1)) k l)

pub count_bound : (n k l : ℕ) → length (listed_from n k l) ≤ n
count_bound zero k l = rw (listed_none k l) (omega arith)
count_bound (suc n) k l = omega (arith, count_more n k l, count_bound n (k + 1) (l / 2))

-- no fault at the first word leaves those behind it
pub fault_step : {S : Type 0} (m : Memory S) (t : S) (b : Bool) (at i n : ℕ) → i < n → m.fault t b (access (at + 4 * i) 4) ≡ None
    → first_fault m t b (word_accesses (at + 4 * (i + 1)) (n - (i + 1))) ≡ first_fault m t b (word_accesses (at + 4 * i) (n - i))
fault_step m t b at i n h e =
    let q : n - i ≡ suc (n - (i + 1)) = omega arith in
    let p : at + 4 * i + 4 ≡ at + 4 * (i + 1) = omega arith in
    rw (q, e, p) refl

pub fault_here : {S : Type 0} (m : Memory S) (t : S) (b : Bool) (at i n k : ℕ) → i < n → m.fault t b (access (at + 4 * i) 4) ≡ Some k
    → first_fault m t b (word_accesses (at + 4 * i) (n - i)) ≡ Some k
fault_here m t b at i n k h e =
    let q : n - i ≡ suc (n - (i + 1)) = omega arith in
    rw (q, e) refl

pub same_words : (n a b : ℕ) → word a ≡ word b → word_accesses a n ≡ word_accesses b n
same_words zero a b h = refl
same_words (suc n) a b h =
    let i = same_words n (a + 4) (b + 4) (omega arith) in
    rw (h, i) refl

-- the registers of the list from number k on
abbrev pub left : ℕ → ℕ → List ℕ
left k rest = listed_from (8 - k) k rest

pub left_odd : (k l : ℕ) → k < 8 → l % 2 ≡ 1 → left k l ≡ k ∷ left (k + 1) (l / 2)
left_odd k l h o = let e : 8 - k ≡ suc (8 - (k + 1)) = omega arith in rw e (listed_odd (8 - (k + 1)) k l o)

pub left_even : (k l : ℕ) → k < 8 → l % 2 ≡ 0 → left k l ≡ left (k + 1) (l / 2)
left_even k l h o = let e : 8 - k ≡ suc (8 - (k + 1)) = omega arith in rw e (listed_even (8 - (k + 1)) k l o)

pub left_end : (k l : ℕ) → 8 ≤ k → left k l ≡ []
left_end k l h = let e : 8 - k ≡ 0 = omega arith in rw e (listed_none k l)

pub loaded_odd : {S : Type 0} (m : Memory S) (r : List ℕ) (t : S) (at k l : ℕ) → k < 8 → l % 2 ≡ 1
    → loaded m r t at (left k l) ≡ loaded m (set r k (m.load t (access at 4)).0) (m.load t (access at 4)).1 (word (at + 4)) (left (k + 1) (l / 2))
loaded_odd m r t at k l h o =
    let e = left_odd k l h o in
    let w = same_words (length (left (k + 1) (l / 2))) (word (at + 4)) (at + 4) (omega arith) in
    rw (e, w) refl

pub loaded_end : {S : Type 0} (m : Memory S) (r : List ℕ) (t : S) (at k l : ℕ) → 8 ≤ k → loaded m r t at (left k l) ≡ (r, t)
loaded_end m r t at k l h = let e = left_end k l h in rw e refl

pub both_free : (o p : Option ℕ) → option_or o p ≡ None → (o ≡ None) × (p ≡ None)
both_free (Some k) p h = cc
both_free None p h = (refl, h)

pub faults_kept : {S : Type 0} (m : Memory S) (t u : S) (b : Bool) → ((x : Access) → m.fault u b x ≡ m.fault t b x) → (as' : List Access) → first_fault m u b as' ≡ first_fault m t b as'
faults_kept m t u b k [] = refl
faults_kept m t u b k (a ∷ as') = let e = k a in let i = faults_kept m t u b k as' in rw (e, i) refl

-- the first word of those that are left is no fault, and nor are those behind it once it is loaded
pub free_odd : {S : Type 0} (m : Memory S) (t : S) (at k l : ℕ) → ((a b : Access) (s : Bool) → m.fault (m.load t a).1 s b ≡ m.fault t s b) → k < 8 → l % 2 ≡ 1
    → first_fault m t false (word_accesses at (length (left k l))) ≡ None
    → (m.fault t false (access at 4) ≡ None) × (first_fault m (m.load t (access at 4)).1 false (word_accesses (word (at + 4)) (length (left (k + 1) (l / 2)))) ≡ None)
free_odd m t at k l keeps h o f =
    let e = left_odd k l h o in
    let g : first_fault m t false (word_accesses at (length (k ∷ left (k + 1) (l / 2)))) ≡ None = rw e at f in
    let p = both_free _ _ g in
    let w = same_words (length (left (k + 1) (l / 2))) (word (at + 4)) (at + 4) (omega arith) in
    let q = faults_kept m t (m.load t (access at 4)).1 false (λ x. keeps (access at 4) x false) (word_accesses (at + 4) (length (left (k + 1) (l / 2)))) in
    (p.0, rw w (q ∙ p.1))

pub step_odd : {S : Type 0} (m : Memory S) (r r' : List ℕ) (t t' : S) (at at' k l v : ℕ) (x : List ℕ × S) → ((a b : Access) (s : Bool) → m.fault (m.load t a).1 s b ≡ m.fault t s b) → k < 8 → l % 2 ≡ 1
    → loaded m r t at (left k l) ≡ x → first_fault m t false (word_accesses at (length (left k l))) ≡ None
    → v ≡ (m.load t (access at 4)).0 → r' ≡ set r k v → t' ≡ (m.load t (access at 4)).1 → at' ≡ word (at + 4)
    → (loaded m r' t' at' (left (k + 1) (l / 2)) ≡ x) × (first_fault m t' false (word_accesses at' (length (left (k + 1) (l / 2)))) ≡ None)
step_odd m r r' t t' at at' k l v x keeps h o s f ev er et ea =
    let e = loaded_odd m r t at k l h o in
    let p = free_odd m t at k l keeps h o f in
    (rw (er, ev, et, ea) (sym e ∙ s), rw (et, ea) p.1)

pub step_even : {S : Type 0} (m : Memory S) (r : List ℕ) (t : S) (at k l : ℕ) (x : List ℕ × S) → k < 8 → l % 2 ≡ 0
    → loaded m r t at (left k l) ≡ x → first_fault m t false (word_accesses at (length (left k l))) ≡ None
    → (loaded m r t at (left (k + 1) (l / 2)) ≡ x) × (first_fault m t false (word_accesses at (length (left (k + 1) (l / 2)))) ≡ None)
step_even m r t at k l x h o s f = let e = left_even k l h o in (rw (← e) s, rw (← e) f)

pub length_values : (s : Registers) (ks : List ℕ) → length (values s ks) ≡ length ks
length_values s [] = refl
length_values s (k ∷ ks) = ap suc (length_values s ks)

pub same_words_to : (vs : List ℕ) (a b : ℕ) → word a ≡ word b → words_to a vs ≡ words_to b vs
same_words_to [] a b h = refl
same_words_to (v ∷ vs) a b h = let i = same_words_to vs (a + 4) (b + 4) (omega arith) in rw (h, i) refl

pub addresses_to : (vs : List ℕ) (at : ℕ) → map (λ p. p.0) (words_to at vs) ≡ word_accesses at (length vs)
addresses_to [] at = refl
addresses_to (v ∷ vs) at = ap (λ as'. access at 4 ∷ as') (addresses_to vs (at + 4))

pub spill_odd : {S : Type 0} (m : Memory S) (s : Registers) (t t' : S) (at at' k l : ℕ) (x : S) → ((a b : Access) (v : ℕ) (w : Bool) → m.fault (m.store t a v) w b ≡ m.fault t w b) → k < 8 → l % 2 ≡ 1
    → store_all m t (words_to at (values s (left k l))) ≡ x → first_fault m t true (word_accesses at (length (left k l))) ≡ None
    → t' ≡ m.store t (access at 4) (low s k) → at' ≡ word (at + 4)
    → (m.fault t true (access at 4) ≡ None) × (store_all m t' (words_to at' (values s (left (k + 1) (l / 2)))) ≡ x) × (first_fault m t' true (word_accesses at' (length (left (k + 1) (l / 2)))) ≡ None)
spill_odd m s t t' at at' k l x keeps h o st f et ea =
    let e = left_odd k l h o in
    let g : first_fault m t true (word_accesses at (length (k ∷ left (k + 1) (l / 2)))) ≡ None = rw e at f in
    let p = both_free _ _ g in
    let w = same_words (length (left (k + 1) (l / 2))) (word (at + 4)) (at + 4) (omega arith) in
    let w' = same_words_to (values s (left (k + 1) (l / 2))) (word (at + 4)) (at + 4) (omega arith) in
    let q = faults_kept m t (m.store t (access at 4) (low s k)) true (λ y. keeps (access at 4) y (low s k) true) (word_accesses (at + 4) (length (left (k + 1) (l / 2)))) in
    let st' : store_all m t (words_to at (values s (k ∷ left (k + 1) (l / 2)))) ≡ x = rw e at st in
    (p.0, rw (et, ea, w') st', rw (et, ea, w) (q ∙ p.1))
