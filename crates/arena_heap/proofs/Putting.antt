-- Words of the arena, read and put by their addresses.
use Rattle.std.proofs.Common.{zero, suc, ◌≡◌, ◌≢◌, ℕ, ◌+◌, ◌*◌, ◌/◌, ◌%◌, ◌^◌, ◌-◌, ◌<◌, ◌==◌, nat_lt, List, [], ◌∷◌, ◌++◌, length, true, false, refl, sym, ap, ◌∙◌, add-one, arith}
use Rattle.std.proofs.lemmas.List.{get_or-set_other}
use Rattle.std.proofs.lemmas.Bool.Decides.{nat_tests}
use Rattle.thumb_code.specs.Map.{globals_at, arena_at, stack_at, ram_end, merged, word_in}
use Rattle.armv6m_machine.specs.Words.{begins_ram_word, with_word}
use Rattle.thumb_code.specs.Machine.{State, Ram, ram_word}
use Rattle.bank_model.specs.Arrays.{put_word, put_words, words_from, length_of, room_of, items_at, items_of, grown_room, moved}
use Rattle.arena_heap.specs.Pushing.{IsArenaWord, with_arena}

-- A word that is put whole.
merged_whole : (at v w : ℕ) → at % 4 ≡ 0 → v < 2 ^ 32 → merged (record { at = at; bytes = 4 }) v w ≡ v
merged_whole at v w e h = rw e (omega arith)

-- The tests of an address of the arena.
pub tests : (at : ℕ) → IsArenaWord at → (nat_lt at globals_at ≡ false) × (nat_lt at arena_at ≡ false) × (nat_lt at stack_at ≡ true) × (nat_lt at ram_end ≡ true) × ((at % 4 == 0) ≡ true)
tests at h = (grind (arith, nat_tests, h.low), grind (arith, nat_tests, h.low), grind (arith, nat_tests, h.high), grind (arith, nat_tests, h.high), grind (arith, nat_tests, h.aligned))

pub begins : (at : ℕ) → IsArenaWord at → begins_ram_word at ≡ true
begins at h = let t = tests at h in let a = t.0 in let d = t.3 in let e = t.4 in rw (e, a, d) refl

-- The word there, as it is read from outside.
pub reads : (m : Ram) (at : ℕ) → IsArenaWord at → word_in m.arena arena_at at ≡ ram_word m at
reads m at h = let t = tests at h in let a = t.0 in let b = t.1 in let c = t.2 in rw (a, b, c) refl

-- A word that is put from outside.
pub puts : (m : Ram) (at w : ℕ) → IsArenaWord at → w < 2 ^ 32 → with_word m at w ≡ (record m { arena = put_word m.arena at w })
puts m at w h l =
    let t = tests at h in let b = t.1 in let c = t.2 in
    let e = merged_whole at w (word_in m.arena arena_at at) h.aligned l in
    rw (b, c, e) refl

-- One more word behind those that were put.
pub put_more : (words : List ℕ) (at : ℕ) (ws : List ℕ) (w : ℕ) → put_words words at (ws ++ w ∷ []) ≡ put_word (put_words words at ws) (at + 4 * length ws) w
put_more words at [] w = ap (λ x. put_word words x w) (let e : at ≡ at + 4 * 0 = omega arith in e)
put_more words at (x ∷ ws) w =
    put_more (put_word words at x) (at + 4) ws w ∙ ap (λ y. put_word (put_words (put_word words at x) (at + 4) ws) y w) (let e : at + 4 + 4 * length ws ≡ at + 4 * suc (length ws) = omega arith in e)

-- One more word that is read.
pub read_more : (words : List ℕ) (n at : ℕ) → words_from words (suc n) at ≡ words_from words n at ++ word_in words arena_at (at + 4 * n) ∷ []
read_more words zero at = ap (λ x. word_in words arena_at x ∷ []) (let e : at ≡ at + 4 * 0 = omega arith in e)
read_more words (suc n) at =
    ap (λ xs. word_in words arena_at at ∷ xs) (read_more words n (at + 4) ∙ ap (λ x. words_from words n (at + 4) ++ word_in words arena_at x ∷ []) (let e : at + 4 + 4 * n ≡ at + 4 * suc n = omega arith in e))

pub length_read : (words : List ℕ) (n at : ℕ) → length (words_from words n at) ≡ n
length_read words zero at = refl
length_read words (suc n) at = ap suc (length_read words n (at + 4))

-- A word below those that are put stays.
pub below_stays : (words : List ℕ) (to : ℕ) (ws : List ℕ) (at : ℕ) → IsArenaWord at → to % 4 ≡ 0 → at < to → word_in (put_words words to ws) arena_at at ≡ word_in words arena_at at
below_stays words to [] at h e l = refl
below_stays words to (w ∷ ws) at h e l =
    let p : (at - arena_at) / 4 ≢ (to - arena_at) / 4 = λ q. let d = h.aligned in let b = h.low in absurd (omega arith) in
    below_stays (put_word words to w) (to + 4) ws at h (omega arith) (omega arith) ∙ get_or-set_other words ((to - arena_at) / 4) ((at - arena_at) / 4) w 0 p

-- One more word that is copied.
pub copy_more : (words : List ℕ) (from to k w : ℕ) → IsArenaWord (from + 4 * k) → to % 4 ≡ 0 → from + 4 * k < to → w ≡ word_in (put_words words to (words_from words k from)) arena_at (from + 4 * k)
    → put_word (put_words words to (words_from words k from)) (to + 4 * k) w ≡ put_words words to (words_from words (k + 1) from)
copy_more words from to k w h a l e =
    let same = e ∙ below_stays words to (words_from words k from) (from + 4 * k) h a l in
    let n = length_read words k from in
    let more : words_from words (k + 1) from ≡ words_from words k from ++ w ∷ [] = rw add-one (read_more words k from ∙ ap (λ x. words_from words k from ++ x ∷ []) (sym same)) in
    let put = put_more words to (words_from words k from) w in
    let at : put_word (put_words words to (words_from words k from)) (to + 4 * length (words_from words k from)) w ≡ put_word (put_words words to (words_from words k from)) (to + 4 * k) w
    = ap (λ x. put_word (put_words words to (words_from words k from)) (to + 4 * x) w) n in
    sym at ∙ sym put ∙ ap (λ xs. put_words words to xs) (sym more)

-- The same of the machine.
pub copy_step : (s m new : State) (from to k w : ℕ) → IsArenaWord (from + 4 * k) → to % 4 ≡ 0 → from + 4 * k < to
    → m ≡ with_arena s (put_words s.memory.arena to (words_from s.memory.arena k from)) → w ≡ word_in m.memory.arena arena_at (from + 4 * k) → new ≡ with_arena m (put_word m.memory.arena (to + 4 * k) w)
    → new ≡ with_arena s (put_words s.memory.arena to (words_from s.memory.arena (k + 1) from))
copy_step s m new from to k w h a l e r p =
    let same = r ∙ ap (λ (x : State). word_in x.memory.arena arena_at (from + 4 * k)) e in
    p ∙ ap (λ (x : State). with_arena x (put_word x.memory.arena (to + 4 * k) w)) e ∙ ap (λ x. with_arena s x) (copy_more s.memory.arena from to k w h a l same)

-- A word that is put behind others that were put.
pub put_step : (s m new : State) (words : List ℕ) (at w : ℕ) → m ≡ with_arena s words → new ≡ with_arena m (put_word m.memory.arena at w) → new ≡ with_arena s (put_word words at w)
put_step s m new words at w e p = p ∙ ap (λ (x : State). with_arena x (put_word x.memory.arena at w)) e

same_words : (words : List ℕ) (length n from to item array r t : ℕ) (at4 at8 at12 : ℕ) → length ≡ n → at4 ≡ array + 4 → at8 ≡ array + 4 + 4 → at12 ≡ array + 4 + 4 + 4
    → put_word (put_word (put_word (put_word (put_words words to (words_from words length from)) (to + 4 * length) item) at4 (length + 1)) at8 r) at12 t
    ≡ put_words (put_words words to (words_from words n from ++ item ∷ [])) (array + 4) ((n + 1) ∷ (r ∷ (t ∷ [])))
same_words words length n from to item array r t at4 at8 at12 e e4 e8 e12 =
    let size = length_read words n from in
    let put : put_word (put_words words to (words_from words n from)) (to + 4 * n) item ≡ put_words words to (words_from words n from ++ item ∷ [])
    = ap (λ x. put_word (put_words words to (words_from words n from)) (to + 4 * x) item) (sym size) ∙ sym (put_more words to (words_from words n from) item) in
    rw (e, e4, e8, e12) (ap (λ x. put_word (put_word (put_word x (array + 4) (n + 1)) (array + 4 + 4) r) (array + 4 + 4 + 4) t) put)

-- A full array that moves.
pub move_steps : (s m1 m2 m3 m4 m5 : State) (length room items array item to r : ℕ)
    → length ≡ length_of s.memory.arena array → room ≡ room_of s.memory.arena array → items ≡ items_at s.memory.arena array → r ≡ grown_room room
    → m1 ≡ with_arena s (put_words s.memory.arena to (words_from s.memory.arena length items))
    → m2 ≡ with_arena m1 (put_word m1.memory.arena (to + 4 * length) item)
    → m3 ≡ with_arena m2 (put_word m2.memory.arena (array + 4) (length + 1))
    → m4 ≡ with_arena m3 (put_word m3.memory.arena (array + 8) r)
    → m5 ≡ with_arena m4 (put_word m4.memory.arena (array + 12) to)
    → m5 ≡ with_arena s (moved s.memory.arena array item to)
move_steps s m1 m2 m3 m4 m5 length room items array item to r el er ei eg p1 p2 p3 p4 p5 =
    let words = s.memory.arena in
    let q2 = put_step s m1 m2 _ (to + 4 * length) item p1 p2 in
    let q3 = put_step s m2 m3 _ (array + 4) (length + 1) q2 p3 in
    let q4 = put_step s m3 m4 _ (array + 8) r q3 p4 in
    let q5 = put_step s m4 m5 _ (array + 12) to q4 p5 in
    let from = ap (λ x. put_word (put_word (put_word (put_word (put_words words to (words_from words length x)) (to + 4 * length) item) (array + 4) (length + 1)) (array + 8) r) (array + 12) to) ei in
    let same = same_words words length (length_of words array) (items_at words array) to item array r to (array + 4) (array + 8) (array + 12) el refl (omega arith) (omega arith) in
    let grown = ap (λ x. put_words (put_words words to (items_of words array ++ item ∷ [])) (array + 4) ((length_of words array + 1) ∷ (x ∷ (to ∷ [])))) (eg ∙ ap grown_room er) in
    q5 ∙ ap (λ x. with_arena s x) (from ∙ same ∙ grown)
