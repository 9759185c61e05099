-- PUSH over a bank and any free words: the words by which it lowers SP are all stored.
use Rattle.std.proofs.Common.{◌≡◌, ℕ, zero, suc, ◌+◌, ◌-◌, ◌*◌, ◌/◌, ◌%◌, ◌^◌, ◌<◌, ◌≤◌, List, [], ◌∷◌, ◌++◌, length, map, set, true, false, nat_lt, refl, sym, ap, ◌∙◌, arith, append_assoc, length-append, slice_index}
use Rattle.std.proofs.lemmas.Bool.Decides.{nat_tests}
use Rattle.thumb_code.specs.declared.register_file.Registers.{Registers}
use Rattle.thumb_code.specs.RegisterFile.{word}
use Rattle.thumb_code.specs.Effect.{pushes, access, words_to}
use Rattle.thumb_code.specs.Map.{arena_at, stack_at, ram_end, merged}
use Rattle.thumb_code.specs.Memory.{Done, first_fault, store_all, or_else, after_move, accessed}
use Rattle.bank_model.specs.Bank.{Bank, bank_sp, next_free, lowered, bank_store, bank_move, bank_memory}
use Rattle.bank_model.proofs.FreeLoads.{Steady, Went, with_free, unless, unless_free, after_else, stores_same, faults_same, move_nowhere}

-- Free words that come in stand below the others.
record Lowered (n : ℕ) (words free : List ℕ) : Type 0 where
  pub added : List ℕ
  pub left : List ℕ
  pub count : length added ≡ n
  pub gives : lowered n words free ≡ (added ++ words, left)

lowered_shape : (n : ℕ) (words free : List ℕ) → Lowered n words free
lowered_shape zero words free = record { added = []; left = free; count = refl; gives = refl }
lowered_shape (suc n) words free =
    let i = lowered_shape n ((next_free free).0 ∷ words) (next_free free).1 in
    record {
      added = i.added ++ (next_free free).0 ∷ [];
      left = i.left;
      count = length-append i.added ((next_free free).0 ∷ []) ∙ (let c = i.count in let e : length i.added + 1 ≡ suc n = omega arith in e);
      gives = i.gives ∙ ap (λ ws. (ws, i.left)) (sym (append_assoc i.added ((next_free free).0 ∷ []) words));
    }

set_middle : (pre : List ℕ) (u : ℕ) (rest : List ℕ) (v : ℕ) → set (pre ++ u ∷ rest) (length pre) v ≡ pre ++ v ∷ rest
set_middle [] u rest v = refl
set_middle (x ∷ pre) u rest v = ap (λ xs. x ∷ xs) (set_middle pre u rest v)

abbrev mask : ℕ → ℕ
mask v = v % 2 ^ 32

merged_whole : (at v w : ℕ) → at % 4 ≡ 0 → merged (record { at = at; bytes = 4 }) v w ≡ mask v
merged_whole at v w e = rw e (omega arith)

-- A word that is stored in the bank.
store_own : (b : Bank) (start at v k : ℕ) → bank_sp b ≡ start → stack_at ≤ start → start ≤ at → at < b.base → at < 2 ^ 32 → at % 4 ≡ 0 → (at - start) / 4 ≡ k
    → bank_store b (access at 4) v ≡ (record b { words = set b.words k (mask v) })
store_own b start at v k s low h l w d p =
    let t : word at ≡ at = omega arith in
    let t2 : nat_lt at arena_at ≡ false = grind (arith, nat_tests) in
    let t3 : nat_lt at stack_at ≡ false = grind (arith, nat_tests) in
    let t4 : nat_lt at (bank_sp b) ≡ false = grind (arith, nat_tests) in
    let t5 : nat_lt at b.base ≡ true = grind (arith, nat_tests) in
    let q : (at - bank_sp b) / 4 ≡ k = ap (λ x. (at - x) / 4) s ∙ p in
    let e = merged_whole at v (slice_index b.words k) d in
    rw (t, t2, t3, t4, t5, q) (ap (λ x. record b { words = set b.words k x }) e)

-- The words that are stored take the place of those that came in, whatever these were.
stores_whole : (vs : List ℕ) (b : Bank) (pre added tail : List ℕ) (start at : ℕ) → length added ≡ length vs
    → start + 4 * length (pre ++ (added ++ tail)) ≡ b.base → at ≡ start + 4 * length pre → stack_at ≤ start → start % 4 ≡ 0 → b.base ≤ ram_end
    → (store_all bank_memory (record b { words = pre ++ (added ++ tail) }, []) (words_to at vs)).0 ≡ (record b { words = pre ++ (map mask vs ++ tail) })
stores_whole [] b pre [] tail start at n span p low d high = refl
stores_whole [] b pre (u ∷ us) tail start at n span p low d high = absurd (cc)
stores_whole (v ∷ vs) b pre [] tail start at n span p low d high = absurd (cc)
stores_whole (v ∷ vs) b pre (u ∷ us) tail start at n span p low d high =
    let c : Bank = record b { words = pre ++ (u ∷ (us ++ tail)) } in
    let size = length-append pre (u ∷ (us ++ tail)) in
    let more : start + 4 * (length pre + suc (length (us ++ tail))) ≡ b.base = ap (λ x. start + 4 * x) (sym size) ∙ span in
    let s : b.base - 4 * length (pre ++ (u ∷ (us ++ tail))) ≡ start = omega (arith, span) in
    let within : at < b.base = omega (arith, more, p) in
    let e : bank_store c (access at 4) v ≡ (record b { words = set (pre ++ (u ∷ (us ++ tail))) (length pre) (mask v) })
    = store_own c start at v (length pre) s low (omega (arith, p)) within (omega (arith, within, high)) (omega (arith, p, d)) (omega (arith, p)) in
    let f : (record b { words = set (pre ++ (u ∷ (us ++ tail))) (length pre) (mask v) }) ≡ (record b { words = (pre ++ mask v ∷ []) ++ (us ++ tail) })
    = ap (λ ws. record b { words = ws }) (set_middle pre u (us ++ tail) (mask v) ∙ sym (append_assoc pre (mask v ∷ []) (us ++ tail))) in
    let one = length-append pre (mask v ∷ []) in
    let size' = length-append (pre ++ mask v ∷ []) (us ++ tail) in
    let span' : start + 4 * length ((pre ++ mask v ∷ []) ++ (us ++ tail)) ≡ b.base = omega (arith, size', one, more) in
    let i = stores_whole vs b (pre ++ mask v ∷ []) us tail start (at + 4) (let m : suc (length us) ≡ suc (length vs) = n in omega (arith, m)) span' (omega (arith, p, one)) low d high in
    ap (λ (x : Bank). (store_all bank_memory (x, []) (words_to (at + 4) vs)).0) (e ∙ f)
    ∙ i ∙ ap (λ ws. record b { words = ws }) (append_assoc pre (mask v ∷ []) (map mask vs ++ tail))

-- What a push comes to.
abbrev pub push_outcome : Bank → ℕ → Registers → List ℕ → Steady
push_outcome b next s vs =
    let e = pushes next s vs in
    unless (first_fault bank_memory (b, []) true (map (λ p. p.0) e.stores)) (Went (record s { sp = e.sp; pc = next }) (record b { words = map mask vs ++ b.words }))

pub record Pushed (b : Bank) (free : List ℕ) (next : ℕ) (s : Registers) (vs : List ℕ) : Type 0 where
  pub left : List ℕ
  pub comes : after_move bank_move (accessed bank_memory (bank_move (b, free) (pushes next s vs).sp) (pushes next s vs)) ≡ with_free left (push_outcome b next s vs)

-- SP went down by as many words as are stored.
pub push_down : (sp n low : ℕ) → low ≡ (sp + (2 ^ 32 - 4 * n)) % 2 ^ 32 → low < sp → sp < 2 ^ 32 → sp ≡ low + 4 * n
push_down sp n low e l h = omega arith

length-map' : (vs : List ℕ) → length (map mask vs) ≡ length vs
length-map' [] = refl
length-map' (v ∷ vs) = ap suc (length-map' vs)

pub length_pushed : (vs words : List ℕ) → length (map mask vs ++ words) ≡ length vs + length words
length_pushed vs words = length-append (map mask vs) words ∙ ap (λ n. n + length words) (length-map' vs)

pub push_free : (b : Bank) (free : List ℕ) (next : ℕ) (s : Registers) (vs : List ℕ) → s.sp + 4 * length b.words ≡ b.base → s.sp % 4 ≡ 0 → b.base ≤ ram_end
    → (pushes next s vs).sp < s.sp → stack_at ≤ (pushes next s vs).sp → Pushed b free next s vs
push_free b free next s vs span d high down low =
    let e = pushes next s vs in
    let n = length vs in
    let by : s.sp ≡ e.sp + 4 * n = push_down s.sp n e.sp refl down (omega (arith, span, high)) in
    let sp_is : bank_sp b ≡ s.sp = omega (arith, span) in
    let t : nat_lt e.sp (bank_sp b) ≡ true = grind (arith, nat_tests) in
    let k : (bank_sp b - e.sp) / 4 ≡ n = omega (arith, sp_is, by) in
    let l = lowered_shape n b.words free in
    let count = l.count in
    let size = length-append l.added b.words in
    let m1 : Bank = record b { words = l.added ++ b.words } in
    let moved : bank_move (b, free) e.sp ≡ (m1, l.left) = rw (t, k) (ap (λ q. (record b { words = q.0 }, q.1)) l.gives) in
    let whole : e.sp + 4 * length (l.added ++ b.words) ≡ b.base = omega (arith, size, count, by, span) in
    let stores = stores_whole vs b [] l.added b.words e.sp e.sp count whole (omega arith) low (omega (arith, d, by)) high in
    let last : Bank = record b { words = map mask vs ++ b.words } in
    let put : store_all bank_memory (m1, l.left) e.stores ≡ (last, l.left) = stores_same e.stores m1 l.left ∙ ap (λ x. (x, l.left)) stores in
    let faults = faults_same true (map (λ p. p.0) e.stores) m1 b l.left [] refl in
    let end : bank_sp last ≡ e.sp = omega (arith, length_pushed vs b.words, by, span) in
    let r : Registers = record s { sp = e.sp; pc = next } in
    let ended : after_move bank_move (Done r (last, l.left)) ≡ Done r (last, l.left) = ap (λ m. Done r m) (ap (λ x. bank_move (last, l.left) x) (sym end) ∙ move_nowhere last l.left) in
    record {
      left = l.left;
      comes =
          ap (λ m. after_move bank_move (accessed bank_memory m e)) moved
          ∙ after_else (first_fault bank_memory (m1, l.left) true (map (λ p. p.0) e.stores)) (Done r (store_all bank_memory (m1, l.left) e.stores))
          ∙ ap (λ m. or_else (first_fault bank_memory (m1, l.left) true (map (λ p. p.0) e.stores)) (after_move bank_move (Done r m))) put
          ∙ ap (λ x. or_else (first_fault bank_memory (m1, l.left) true (map (λ p. p.0) e.stores)) x) ended
          ∙ ap (λ o. or_else o (Done r (last, l.left))) faults
          ∙ unless_free l.left (first_fault bank_memory (b, []) true (map (λ p. p.0) e.stores)) (Went r last);
    }
