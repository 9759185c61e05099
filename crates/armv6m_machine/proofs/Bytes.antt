-- The bytes of one RAM, before and behind a store.
use Rattle.std.proofs.Common.{zero, suc, ◌≡◌, ◌≢◌, ℕ, ◌+◌, ◌*◌, ◌/◌, ◌%◌, ◌^◌, ◌<◌, ◌≤◌, ◌==◌, Option, Some, None, Bool, true, false, nat_lt, nat_eq, refl, sym, ap, ◌∙◌, arith, ◌⊎◌, inl, inr}
use Rattle.std.proofs.lemmas.List.{get_or-set_same, get_or-set_other}
use Rattle.std.proofs.lemmas.Bool.Decides.{nat_tests}
use Rattle.thumb_code.specs.Faults.{unaligned, out_of_map}
use Rattle.thumb_code.specs.RegisterFile.{aligned}
use Rattle.thumb_code.specs.Forms.{Access}
use Rattle.thumb_code.specs.Map.{globals_at, arena_at, stack_at, ram_end, in_ram, access_fault, part, merged, place}
use Rattle.thumb_code.specs.Machine.{Ram, IsWhole, ram_memory, ram_word, ram_store}
use Rattle.armv6m_machine.specs.Answers.{IsSize}
use Rattle.armv6m_machine.specs.Contents.{byte_at, number_from, StoresAlone}

abbrev byte : ℕ → ℕ → ℕ
byte w x = part (record { at = x; bytes = 1 }) w

same_test : (x y g : ℕ) → x / 4 ≡ y / 4 → g % 4 ≡ 0 → nat_lt x g ≡ nat_lt y g
same_test x y g e d = grind (arith, nat_tests)

same_place : (x y g : ℕ) → x / 4 ≡ y / 4 → g % 4 ≡ 0 → place g x ≡ place g y
same_place x y g e d = omega arith

-- Addresses in one word have the same word.
same_word : (m : Ram) (x y : ℕ) → x / 4 ≡ y / 4 → ram_word m x ≡ ram_word m y
same_word m x y e =
    let a = same_test x y globals_at e refl in let b = same_test x y arena_at e refl in let c = same_test x y stack_at e refl in
    let p = same_place x y globals_at e refl in let q = same_place x y arena_at e refl in let r = same_place x y stack_at e refl in
    let f : aligned x ≡ aligned y = ap (λ n. n * 4) e in
    rw (a, b, c, p, q, r, f) refl

-- The place of an address in its word.
quarter : (P : Type 0) (n : ℕ) → n < 4 → (n ≡ 0 → P) → (n ≡ 1 → P) → (n ≡ 2 → P) → (n ≡ 3 → P) → P
quarter P zero h a b c d = a refl
quarter P (suc zero) h a b c d = b refl
quarter P (suc (suc zero)) h a b c d = c refl
quarter P (suc (suc (suc zero))) h a b c d = d refl
quarter P (suc (suc (suc (suc n)))) h a b c d = absurd (omega arith)

-- A part is its bytes.
one_byte : (at w : ℕ) → part (record { at = at; bytes = 1 }) w ≡ number_from (byte w) at 1
one_byte at w = omega arith

two_bytes : (at w : ℕ) → at % 2 ≡ 0 → part (record { at = at; bytes = 2 }) w ≡ number_from (byte w) at 2
two_bytes at w d = quarter _ (at % 4) (omega arith)
    (λ e. let f : (at + 1) % 4 ≡ 1 = omega arith in rw (e, f) (omega arith))
    (λ e. absurd (omega arith))
    (λ e. let f : (at + 1) % 4 ≡ 3 = omega arith in rw (e, f) (omega arith))
    (λ e. absurd (omega arith))

four_bytes : (at w : ℕ) → at % 4 ≡ 0 → w < 2 ^ 32 → part (record { at = at; bytes = 4 }) w ≡ number_from (byte w) at 4
four_bytes at w e h =
    let f : (at + 1) % 4 ≡ 1 = omega arith in let g : (at + 1 + 1) % 4 ≡ 2 = omega arith in let k : (at + 1 + 1 + 1) % 4 ≡ 3 = omega arith in
    rw (e, f, g, k) (omega arith)

-- The bytes of a word behind a store of one byte.
stored_1 : (at v w : ℕ) → byte (merged (record { at = at; bytes = 1 }) v w) at ≡ v % 256
stored_1 at v w = quarter _ (at % 4) (omega arith) (λ e. rw e (omega arith)) (λ e. rw e (omega arith)) (λ e. rw e (omega arith)) (λ e. rw e (omega arith))

kept_1 : (at x v w : ℕ) → x / 4 ≡ at / 4 → x ≢ at → byte (merged (record { at = at; bytes = 1 }) v w) x ≡ byte w x
kept_1 at x v w q n = quarter _ (at % 4) (omega arith)
    (λ e. quarter _ (x % 4) (omega arith) (λ f. absurd (n (omega arith))) (λ f. rw (e, f) (omega arith)) (λ f. rw (e, f) (omega arith)) (λ f. rw (e, f) (omega arith)))
    (λ e. quarter _ (x % 4) (omega arith) (λ f. rw (e, f) (omega arith)) (λ f. absurd (n (omega arith))) (λ f. rw (e, f) (omega arith)) (λ f. rw (e, f) (omega arith)))
    (λ e. quarter _ (x % 4) (omega arith) (λ f. rw (e, f) (omega arith)) (λ f. rw (e, f) (omega arith)) (λ f. absurd (n (omega arith))) (λ f. rw (e, f) (omega arith)))
    (λ e. quarter _ (x % 4) (omega arith) (λ f. rw (e, f) (omega arith)) (λ f. rw (e, f) (omega arith)) (λ f. rw (e, f) (omega arith)) (λ f. absurd (n (omega arith))))

-- The same of a halfword.
stored_2 : (at v w : ℕ) → at % 2 ≡ 0 → (byte (merged (record { at = at; bytes = 2 }) v w) at ≡ v % 256) × (byte (merged (record { at = at; bytes = 2 }) v w) (at + 1) ≡ v / 256 % 256)
stored_2 at v w d = quarter _ (at % 4) (omega arith)
    (λ e. let f : (at + 1) % 4 ≡ 1 = omega arith in (rw e (omega arith), rw (e, f) (omega arith)))
    (λ e. absurd (omega arith))
    (λ e. let f : (at + 1) % 4 ≡ 3 = omega arith in (rw e (omega arith), rw (e, f) (omega arith)))
    (λ e. absurd (omega arith))

kept_2 : (at x v w : ℕ) → at % 2 ≡ 0 → x / 4 ≡ at / 4 → x ≢ at → x ≢ at + 1 → byte (merged (record { at = at; bytes = 2 }) v w) x ≡ byte w x
kept_2 at x v w d q n o = quarter _ (at % 4) (omega arith)
    (λ e. quarter _ (x % 4) (omega arith) (λ f. absurd (n (omega arith))) (λ f. absurd (o (omega arith))) (λ f. rw (e, f) (omega arith)) (λ f. rw (e, f) (omega arith)))
    (λ e. absurd (omega arith))
    (λ e. quarter _ (x % 4) (omega arith) (λ f. rw (e, f) (omega arith)) (λ f. rw (e, f) (omega arith)) (λ f. absurd (n (omega arith))) (λ f. absurd (o (omega arith))))
    (λ e. absurd (omega arith))

-- The same of a word, by the place of the byte.
stored_4 : (at x v w : ℕ) → at % 4 ≡ 0 → x / 4 ≡ at / 4 → byte (merged (record { at = at; bytes = 4 }) v w) x ≡ v / 256 ^ (x % 4) % 256
stored_4 at x v w e q = quarter _ (x % 4) (omega arith) (λ f. rw (e, f) (omega arith)) (λ f. rw (e, f) (omega arith)) (λ f. rw (e, f) (omega arith)) (λ f. rw (e, f) (omega arith))

abbrev pub InRam : ℕ → Type 0
InRam at = (globals_at ≤ at) × (at < ram_end)

-- The word in which is stored.
word_here : (m : Ram) (a : Access) (v : ℕ) → IsWhole m → InRam a.at → (t1 t2 t3 : Bool) → nat_lt a.at globals_at ≡ t1 → nat_lt a.at arena_at ≡ t2 → nat_lt a.at stack_at ≡ t3
    → ram_word (ram_store m a v) a.at ≡ merged a v (ram_word m a.at)
word_here m a v h r true t2 t3 e1 e2 e3 = let x : a.at < globals_at = grind (arith, nat_tests) in absurd (omega arith)
word_here m a v h r false true t3 e1 e2 e3 =
    let x : a.at < arena_at = grind (arith, nat_tests) in
    rw (e1, e2) (get_or-set_same m.globals (place globals_at a.at) _ 0 (omega (arith, h.globals)))
word_here m a v h r false false true e1 e2 e3 =
    let x : a.at < stack_at = grind (arith, nat_tests) in
    let y : arena_at ≤ a.at = grind (arith, nat_tests) in
    rw (e1, e2, e3) (get_or-set_same m.arena (place arena_at a.at) _ 0 (omega (arith, h.arena)))
word_here m a v h r false false false e1 e2 e3 =
    let y : stack_at ≤ a.at = grind (arith, nat_tests) in
    rw (e1, e2, e3) (get_or-set_same m.stack (place stack_at a.at) _ 0 (omega (arith, h.stack)))

stored_word : (m : Ram) (a : Access) (v x : ℕ) → IsWhole m → InRam a.at → x / 4 ≡ a.at / 4 → ram_word (ram_store m a v) x ≡ merged a v (ram_word m x)
stored_word m a v x h r e =
    same_word (ram_store m a v) x a.at e ∙ word_here m a v h r (nat_lt a.at globals_at) (nat_lt a.at arena_at) (nat_lt a.at stack_at) refl refl refl ∙ ap (λ w. merged a v w) (sym (same_word m x a.at e))

-- Any other word stays.
word_there : (m : Ram) (a : Access) (v x : ℕ) → InRam a.at → x / 4 ≢ a.at / 4 → (t2 t3 u1 u2 u3 : Bool) → nat_lt a.at arena_at ≡ t2 → nat_lt a.at stack_at ≡ t3
    → nat_lt x globals_at ≡ u1 → nat_lt x arena_at ≡ u2 → nat_lt x stack_at ≡ u3 → ram_word (ram_store m a v) x ≡ ram_word m x
word_there m a v x r n true t3 true u2 u3 e2 e3 f1 f2 f3 = rw (e2, f1) refl
word_there m a v x r n true t3 false true u3 e2 e3 f1 f2 f3 =
    let y : globals_at ≤ x = grind (arith, nat_tests) in
    let p : place globals_at x ≢ place globals_at a.at = λ q. n (omega arith) in
    rw (e2, f1, f2) (get_or-set_other m.globals (place globals_at a.at) (place globals_at x) _ 0 p)
word_there m a v x r n true t3 false false true e2 e3 f1 f2 f3 = rw (e2, f1, f2, f3) refl
word_there m a v x r n true t3 false false false e2 e3 f1 f2 f3 = rw (e2, f1, f2, f3) refl
word_there m a v x r n false true true u2 u3 e2 e3 f1 f2 f3 = rw (e2, e3, f1) refl
word_there m a v x r n false true false true u3 e2 e3 f1 f2 f3 = rw (e2, e3, f1, f2) refl
word_there m a v x r n false true false false true e2 e3 f1 f2 f3 =
    let y : arena_at ≤ x = grind (arith, nat_tests) in
    let z : arena_at ≤ a.at = grind (arith, nat_tests) in
    let p : place arena_at x ≢ place arena_at a.at = λ q. n (omega arith) in
    rw (e2, e3, f1, f2, f3) (get_or-set_other m.arena (place arena_at a.at) (place arena_at x) _ 0 p)
word_there m a v x r n false true false false false e2 e3 f1 f2 f3 = rw (e2, e3, f1, f2, f3) refl
word_there m a v x r n false false true u2 u3 e2 e3 f1 f2 f3 = rw (e2, e3, f1) refl
word_there m a v x r n false false false true u3 e2 e3 f1 f2 f3 = rw (e2, e3, f1, f2) refl
word_there m a v x r n false false false false true e2 e3 f1 f2 f3 = rw (e2, e3, f1, f2, f3) refl
word_there m a v x r n false false false false false e2 e3 f1 f2 f3 =
    let y : stack_at ≤ x = grind (arith, nat_tests) in
    let z : stack_at ≤ a.at = grind (arith, nat_tests) in
    let p : place stack_at x ≢ place stack_at a.at = λ q. n (omega arith) in
    rw (e2, e3, f1, f2, f3) (get_or-set_other m.stack (place stack_at a.at) (place stack_at x) _ 0 p)

kept_word : (m : Ram) (a : Access) (v x : ℕ) → InRam a.at → x / 4 ≢ a.at / 4 → ram_word (ram_store m a v) x ≡ ram_word m x
kept_word m a v x r n = word_there m a v x r n (nat_lt a.at arena_at) (nat_lt a.at stack_at) (nat_lt x globals_at) (nat_lt x arena_at) (nat_lt x stack_at) refl refl refl refl refl

same_or_not : (P : Type 0) (i j : ℕ) → (i ≡ j → P) → (i ≢ j → P) → P
same_or_not P i j f g = elim (nat_eq i j) as (λ b. nat_eq i j ≡ b → P) [ true ↦ λ e. f (grind (arith, nat_tests)) | false ↦ λ e. g (grind (arith, nat_tests)) ] refl

-- The bytes of a halfword and of a word are stored.
halfword : (m : Ram) (at v i : ℕ) → IsWhole m → InRam at → at % 2 ≡ 0 → i < 2 → byte_at ram_memory (ram_store m (record { at = at; bytes = 2 }) v) (at + i) ≡ v / 256 ^ i % 256
halfword m at v i h r d l = quarter _ i (omega arith)
    (λ z. let p : at + 0 ≡ at = omega arith in
    let s = (stored_2 at v (ram_word m at) d).0 in let t = stored_word m (record { at = at; bytes = 2 }) v at h r refl in rw (z, p, t) (s ∙ omega arith))
    (λ z. let s = (stored_2 at v (ram_word m (at + 1)) d).1 in let t = stored_word m (record { at = at; bytes = 2 }) v (at + 1) h r (omega arith) in rw (z, t) (s ∙ omega arith))
    (λ z. absurd (omega arith))
    (λ z. absurd (omega arith))

wordwise : (m : Ram) (at v i : ℕ) → IsWhole m → InRam at → at % 4 ≡ 0 → i < 4 → byte_at ram_memory (ram_store m (record { at = at; bytes = 4 }) v) (at + i) ≡ v / 256 ^ i % 256
wordwise m at v i h r d l =
    let q : (at + i) / 4 ≡ at / 4 = omega arith in
    let k : (at + i) % 4 ≡ i = omega arith in
    let s = stored_4 at (at + i) v (ram_word m (at + i)) d q in
    let t = stored_word m (record { at = at; bytes = 4 }) v (at + i) h r q in
    rw t (s ∙ ap (λ n. v / 256 ^ n % 256) k)

-- A byte beside them stays.
beside : (at bytes v x w : ℕ) → IsSize bytes → at % bytes ≡ 0 → x / 4 ≡ at / 4 → (x < at) ⊎ (at + bytes ≤ x) → byte (merged (record { at = at; bytes = bytes }) v w) x ≡ byte w x
beside at bytes v x w (inl e) d q (inl o) = rw e (kept_1 at x v w q (λ n. omega arith))
beside at bytes v x w (inl e) d q (inr o) = rw e (kept_1 at x v w q (λ n. omega arith))
beside at bytes v x w (inr (inl e)) d q (inl o) = rw e (kept_2 at x v w (rw e at d) q (λ n. omega arith) (λ n. omega arith))
beside at bytes v x w (inr (inl e)) d q (inr o) = rw e (kept_2 at x v w (rw e at d) q (λ n. omega arith) (λ n. omega arith))
beside at bytes v x w (inr (inr e)) d q (inl o) = let k : at % 4 ≡ 0 = rw e at d in absurd (omega arith)
beside at bytes v x w (inr (inr e)) d q (inr o) = let k : at % 4 ≡ 0 = rw e at d in absurd (omega arith)

-- The bytes of an access are stored.
there_by_size : (m : Ram) (at bytes v i : ℕ) → IsWhole m → InRam at → IsSize bytes → at % bytes ≡ 0 → i < bytes
    → byte_at ram_memory (ram_store m (record { at = at; bytes = bytes }) v) (at + i) ≡ v / 256 ^ i % 256
there_by_size m at bytes v i h r (inl e) d l =
    let z : i ≡ 0 = omega arith in let q : (at + i) / 4 ≡ at / 4 = omega arith in let p : at + 0 ≡ at = omega arith in
    let s = stored_1 at v (ram_word m (at + i)) in
    let t = stored_word m (record { at = at; bytes = 1 }) v (at + i) h r q in
    rw (e, t) (rw (z, p) (rw (z, p) at s ∙ omega arith))
there_by_size m at bytes v i h r (inr (inl e)) d l = rw e (halfword m at v i h r (rw e at d) (rw e at l))
there_by_size m at bytes v i h r (inr (inr e)) d l = rw e (wordwise m at v i h r (rw e at d) (rw e at l))

elsewhere_by_size : (m : Ram) (at bytes v x : ℕ) → IsWhole m → InRam at → IsSize bytes → at % bytes ≡ 0 → (x < at) ⊎ (at + bytes ≤ x)
    → byte_at ram_memory (ram_store m (record { at = at; bytes = bytes }) v) x ≡ byte_at ram_memory m x
elsewhere_by_size m at bytes v x h r s d o = same_or_not _ (x / 4) (at / 4)
    (λ q. let t = stored_word m (record { at = at; bytes = bytes }) v x h r q in rw t (beside at bytes v x (ram_word m x) s d q o))
    (λ n. let t = kept_word m (record { at = at; bytes = bytes }) v x r n in rw t refl)

-- A store into RAM stores its bytes alone.
pub stores_alone : (m : Ram) (at bytes v : ℕ) → IsWhole m → InRam at → IsSize bytes → at % bytes ≡ 0
    → StoresAlone ram_memory m (ram_store m (record { at = at; bytes = bytes }) v) (record { at = at; bytes = bytes }) v
stores_alone m at bytes v h r s d = record { there = λ i l. there_by_size m at bytes v i h r s d l; elsewhere = λ x o. elsewhere_by_size m at bytes v x h r s d o }

-- What is loaded are the bytes there.
loads_by_size : (m : Ram) (at bytes : ℕ) → IsSize bytes → at % bytes ≡ 0 → ram_word m at < 2 ^ 32 → part (record { at = at; bytes = bytes }) (ram_word m at) ≡ number_from (byte_at ram_memory m) at bytes
loads_by_size m at bytes (inl e) d h = rw e (one_byte at (ram_word m at))
loads_by_size m at bytes (inr (inl e)) d h =
    let k : at % 2 ≡ 0 = rw e at d in
    let p = same_word m (at + 1) at (omega arith) in
    rw (e, p) (two_bytes at (ram_word m at) k)
loads_by_size m at bytes (inr (inr e)) d h =
    let k : at % 4 ≡ 0 = rw e at d in
    let p = same_word m (at + 1) at (omega arith) in let q = same_word m (at + 1 + 1) at (omega arith) in let r = same_word m (at + 1 + 1 + 1) at (omega arith) in
    rw (e, p, q, r) (four_bytes at (ram_word m at) k h)

pub loads_bytes : (m : Ram) (at bytes : ℕ) → IsSize bytes → at % bytes ≡ 0 → ram_word m at < 2 ^ 32 → (ram_memory.load m (record { at = at; bytes = bytes })).0 ≡ number_from (byte_at ram_memory m) at bytes
loads_bytes m at bytes s d h = loads_by_size m at bytes s d h

-- An access that is no fault is aligned, and a store's is in RAM.
aligned_cases : (base : ℕ) (b : Bool) (a : Access) (t : Bool) → (a.at % a.bytes == 0) ≡ t → access_fault base b a ≡ None → a.at % a.bytes ≡ 0
aligned_cases base b a true e h = grind (arith, nat_tests)
aligned_cases base b a false e h = let k : ◌≡◌ {A = Option ℕ} (Some unaligned) None = rw e at h in cc

pub aligned_free : (base : ℕ) (b : Bool) (a : Access) → access_fault base b a ≡ None → a.at % a.bytes ≡ 0
aligned_free base b a h = aligned_cases base b a (a.at % a.bytes == 0) refl h

in_ram_cases : (base : ℕ) (a : Access) (t u : Bool) → (a.at % a.bytes == 0) ≡ t → in_ram a.at ≡ u → access_fault base true a ≡ None → InRam a.at
in_ram_cases base a false u e f h = let k : ◌≡◌ {A = Option ℕ} (Some unaligned) None = rw e at h in cc
in_ram_cases base a true false e f h = let k : ◌≡◌ {A = Option ℕ} (Some out_of_map) None = rw (e, f) at h in cc
in_ram_cases base a true true e f h = grind (arith, nat_tests)

pub in_ram_free : (base : ℕ) (a : Access) → access_fault base true a ≡ None → InRam a.at
in_ram_free base a h = in_ram_cases base a (a.at % a.bytes == 0) (in_ram a.at) refl refl h
