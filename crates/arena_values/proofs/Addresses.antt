-- Words put and read one behind the other, by their addresses.
use Rattle.std.proofs.Common.{zero, suc, ◌≡◌, ℕ, ◌+◌, ◌*◌, ◌<◌, ◌≤◌, ◌⊎◌, inl, inr, List, [], ◌∷◌, ◌++◌, length, Bool, true, false, nat_lt, refl, sym, ap, ◌∙◌, arith, slice_set, slice_index, get_or-set_same, get_or-set_other}
use Rattle.std.proofs.lemmas.List.{length-set}
use Rattle.thumb_code.specs.Map.{arena_at, place}
use Rattle.bank_model.specs.Arrays.{behind_words, put_words, words_from}

-- one number is below another or not
pub which : (k n : ℕ) → (k < n) ⊎ (n ≤ k)
which k n = by (nat_lt k n) refl
  where
    by : (b : Bool) → nat_lt k n ≡ b → (k < n) ⊎ (n ≤ k)
    by true e = inl (grind arith)
    by false e = inr (grind arith)

-- the place of a word's address, and of one so many words behind it
pub place_is : (k : ℕ) → place arena_at (behind_words k) ≡ k
place_is k = omega arith

pub place_behind : (k d : ℕ) → place arena_at (behind_words k + 4 * d) ≡ k + d
place_behind k d = omega arith

next_word : (k : ℕ) → behind_words k + 4 ≡ behind_words (k + 1)
next_word k = omega arith

-- one word at its place, and then those behind it
put_step : (arena : List ℕ) (k w : ℕ) (ws : List ℕ) → put_words arena (behind_words k) (w ∷ ws) ≡ put_words (slice_set arena k w) (behind_words (k + 1)) ws
put_step arena k w ws = ap (λ j. put_words (slice_set arena j w) (behind_words k + 4) ws) (place_is k) ∙ ap (λ at. put_words (slice_set arena k w) at ws) (next_word k)

pub put_length : (arena : List ℕ) (k : ℕ) (ws : List ℕ) → length (put_words arena (behind_words k) ws) ≡ length arena
put_length arena k [] = refl
put_length arena k (w ∷ ws) = ap length (put_step arena k w ws) ∙ (put_length (slice_set arena k w) (k + 1) ws ∙ length-set arena k w)

pub put_before : (arena : List ℕ) (k : ℕ) (ws : List ℕ) (j : ℕ) → j < k → slice_index (put_words arena (behind_words k) ws) j ≡ slice_index arena j
put_before arena k [] j l = refl
put_before arena k (w ∷ ws) j l = ap (λ xs. slice_index xs j) (put_step arena k w ws) ∙ (put_before (slice_set arena k w) (k + 1) ws j (omega arith) ∙ get_or-set_other arena k j w 0 (omega arith))

pub put_behind : (arena : List ℕ) (k : ℕ) (ws : List ℕ) (j : ℕ) → k + length ws ≤ j → slice_index (put_words arena (behind_words k) ws) j ≡ slice_index arena j
put_behind arena k [] j l = refl
put_behind arena k (w ∷ ws) j l = ap (λ xs. slice_index xs j) (put_step arena k w ws) ∙ (put_behind (slice_set arena k w) (k + 1) ws j (omega arith) ∙ get_or-set_other arena k j w 0 (omega arith))

pub put_at : (arena : List ℕ) (k : ℕ) (ws : List ℕ) (i : ℕ) → i < length ws → k + length ws ≤ length arena → slice_index (put_words arena (behind_words k) ws) (k + i) ≡ slice_index ws i
put_at arena k [] i l m = absurd (omega arith)
put_at arena k (w ∷ ws) zero l m =
    let e : k + 0 ≡ k = omega arith in
    ap (λ xs. slice_index xs (k + 0)) (put_step arena k w ws)
    ∙ (ap (slice_index (put_words (slice_set arena k w) (behind_words (k + 1)) ws)) e ∙ (put_before (slice_set arena k w) (k + 1) ws k (omega arith) ∙ get_or-set_same arena k w 0 (omega arith)))
put_at arena k (w ∷ ws) (suc i) l m =
    let e : k + suc i ≡ k + 1 + i = omega arith in
    let z = length-set arena k w in
    ap (λ xs. slice_index xs (k + suc i)) (put_step arena k w ws) ∙ (ap (slice_index (put_words (slice_set arena k w) (behind_words (k + 1)) ws)) e ∙ put_at (slice_set arena k w) (k + 1) ws i (omega arith) (omega arith))

pub read_length : (arena : List ℕ) (n at : ℕ) → length (words_from arena n at) ≡ n
read_length arena zero at = refl
read_length arena (suc n) at = ap suc (read_length arena n (at + 4))

pub read_at : (arena : List ℕ) (n k i : ℕ) → i < n → slice_index (words_from arena n (behind_words k)) i ≡ slice_index arena (k + i)
read_at arena zero k i l = absurd (omega arith)
read_at arena (suc n) k zero l = let e : k + 0 ≡ k = omega arith in ap (slice_index arena) (place_is k ∙ sym e)
read_at arena (suc n) k (suc i) l =
    let e : k + 1 + i ≡ k + suc i = omega arith in
    ap (λ at. slice_index (words_from arena n at) i) (next_word k) ∙ (read_at arena n (k + 1) i (omega arith) ∙ ap (slice_index arena) e)

-- a list with one more behind it: its items, and that one
pub more_front : (ws : List ℕ) (w i : ℕ) → i < length ws → slice_index (ws ++ w ∷ []) i ≡ slice_index ws i
more_front [] w i l = absurd (omega arith)
more_front (x ∷ ws) w zero l = refl
more_front (x ∷ ws) w (suc i) l = more_front ws w i (omega arith)

pub more_last : (ws : List ℕ) (w : ℕ) → slice_index (ws ++ w ∷ []) (length ws) ≡ w
more_last [] w = refl
more_last (x ∷ ws) w = more_last ws w
