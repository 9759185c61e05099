-- The registers from r4 on in the list of PUSH and POP, the words that go from them, and those that come into them.
use Rattle.std.proofs.Common.{zero, suc, ◌≡◌, ℕ, ◌+◌, ◌-◌, ◌<◌, ◌≤◌, ◌^◌, List, [], ◌∷◌, ◌++◌, length, true, refl, ap, ◌∙◌, subst, arith, slice_set, slice_index, get_or-set_same, get_or-set_other}
use Rattle.std.proofs.lemmas.List.{length-set}
use Rattle.thumb_code.specs.declared.instructions.Instr.TheVariants.{Push, Pop}
use Rattle.thumb_code.specs.declared.register_file.Registers.{Registers}
use Rattle.thumb_code.specs.RegisterFile.{listed, listed_from, values, filled}
use Rattle.thumb_code.specs.Effect.{effect, pushes, pops}
use Rattle.placed_frames.proofs.Stack.{AllWords, get_from}

-- n registers from rk on
abbrev pub run : ℕ → ℕ → List ℕ
run k zero = []
run k (suc n) = k ∷ run (k + 1) n

pub run_length : (k n : ℕ) → length (run k n) ≡ n
run_length k zero = refl
run_length k (suc n) = ap suc (run_length (k + 1) n)

-- those from r4 on are a list's bits from 4 on
pub run_listed : (n : ℕ) → n ≤ 4 → listed (2 ^ (4 + n) - 2 ^ 4) ≡ run 4 n
unfolding listed listed_from
run_listed zero l = refl
run_listed (suc zero) l = refl
run_listed (suc (suc zero)) l = refl
run_listed (suc (suc (suc zero))) l = refl
run_listed (suc (suc (suc (suc zero)))) l = refl
run_listed (suc (suc (suc (suc (suc n))))) l = absurd (omega arith)

-- what goes: the registers' words, and LR
abbrev pub leaving : Registers → ℕ → ℕ → List ℕ
leaving s k n = values s (run k n) ++ (s.lr ∷ [])

pub push_is : (next : ℕ) (s : Registers) (list n : ℕ) → listed list ≡ run 4 n → effect next s (Push list true) ≡ pushes next s (leaving s 4 n)
push_is next s list n e = ap (λ ks. pushes next s (values s ks ++ (s.lr ∷ []))) e

pub pop_is : (next : ℕ) (s : Registers) (list n : ℕ) → listed list ≡ run 4 n → effect next s (Pop list true) ≡ pops next s (run 4 n) true
pop_is next s list n e = ap (λ ks. pops next s ks true) e

pub leaving_length : (s : Registers) (k n : ℕ) → length (leaving s k n) ≡ n + 1
leaving_length s k zero = refl
leaving_length s k (suc n) = let h = leaving_length s (k + 1) n in omega arith

pub leaving_at : (s : Registers) (k n i : ℕ) → i < n → slice_index (leaving s k n) i ≡ slice_index s.r (k + i)
leaving_at s k zero i l = absurd (omega arith)
leaving_at s k (suc n) zero l = let z : k ≡ k + 0 = omega arith in ap (slice_index s.r) z
leaving_at s k (suc n) (suc i) l = leaving_at s (k + 1) n i (omega arith) ∙ (let z : k + 1 + i ≡ k + suc i = omega arith in ap (slice_index s.r) z)

pub leaving_last : (s : Registers) (k n : ℕ) → slice_index (leaving s k n) n ≡ s.lr
leaving_last s k zero = refl
leaving_last s k (suc n) = leaving_last s (k + 1) n

pub leaving_words : (s : Registers) (k n : ℕ) → ((i : ℕ) → i < n → slice_index s.r (k + i) < 2 ^ 32) → s.lr < 2 ^ 32 → AllWords (leaving s k n)
leaving_words s k zero h l = (l, tt)
leaving_words s k (suc n) h l =
    let z : k + 0 ≡ k = omega arith in (
      subst (λ j. slice_index s.r j < 2 ^ 32) z (h 0 (omega arith)),
      leaving_words s (k + 1) n
          (λ i m. (let y : k + suc i ≡ k + 1 + i = omega arith in subst (λ j. slice_index s.r j < 2 ^ 32) y (h (suc i) (omega arith)))) l,
    )

-- what comes: so many words of a bank
pub get_length : (ws : List ℕ) (k n : ℕ) → length (get_from ws k n) ≡ n
get_length ws k zero = refl
get_length ws k (suc n) = ap suc (get_length ws (k + 1) n)

pub get_at : (ws : List ℕ) (k n i : ℕ) → i < n → slice_index (get_from ws k n) i ≡ slice_index ws (k + i)
get_at ws k zero i l = absurd (omega arith)
get_at ws k (suc n) zero l = let z : k ≡ k + 0 = omega arith in ap (slice_index ws) z
get_at ws k (suc n) (suc i) l = get_at ws (k + 1) n i (omega arith) ∙ (let z : k + 1 + i ≡ k + suc i = omega arith in ap (slice_index ws) z)

pub get_words : (ws : List ℕ) (k n : ℕ) → ((i : ℕ) → i < n → slice_index ws (k + i) < 2 ^ 32) → AllWords (get_from ws k n)
get_words ws k zero h = tt
get_words ws k (suc n) h =
    let z : k + 0 ≡ k = omega arith in (
      subst (λ j. slice_index ws j < 2 ^ 32) z (h 0 (omega arith)),
      get_words ws (k + 1) n (λ i m. (let y : k + suc i ≡ k + 1 + i = omega arith in subst (λ j. slice_index ws j < 2 ^ 32) y (h (suc i) (omega arith)))),
    )

pub filled_length : (r ks ws : List ℕ) → length (filled r ks ws) ≡ length r
filled_length r [] ws = refl
filled_length r (k ∷ ks) [] = refl
filled_length r (k ∷ ks) (w ∷ ws) = filled_length (slice_set r k w) ks ws ∙ length-set r k w

-- the registers below, and above, are as they were
pub filled_below : (r : List ℕ) (k n : ℕ) (ws : List ℕ) (j : ℕ) → j < k → slice_index (filled r (run k n) ws) j ≡ slice_index r j
filled_below r k zero ws j l = refl
filled_below r k (suc n) [] j l = refl
filled_below r k (suc n) (w ∷ ws) j l = filled_below (slice_set r k w) (k + 1) n ws j (omega arith) ∙ get_or-set_other r k j w 0 (omega arith)

pub filled_above : (r : List ℕ) (k n : ℕ) (ws : List ℕ) (j : ℕ) → k + n ≤ j → slice_index (filled r (run k n) ws) j ≡ slice_index r j
filled_above r k zero ws j l = refl
filled_above r k (suc n) [] j l = refl
filled_above r k (suc n) (w ∷ ws) j l = filled_above (slice_set r k w) (k + 1) n ws j (omega arith) ∙ get_or-set_other r k j w 0 (omega arith)

pub filled_at : (r : List ℕ) (k n : ℕ) (ws : List ℕ) (i : ℕ) → i < n → n ≤ length ws → k + n ≤ length r
    → slice_index (filled r (run k n) ws) (k + i) ≡ slice_index ws i
filled_at r k zero ws i l m h = absurd (omega arith)
filled_at r k (suc n) [] i l m h = absurd (omega arith)
filled_at r k (suc n) (w ∷ ws) zero l m h =
    let z : k + 0 ≡ k = omega arith in
    ap (slice_index (filled (slice_set r k w) (run (k + 1) n) ws)) z ∙
    (filled_below (slice_set r k w) (k + 1) n ws k (omega arith) ∙ get_or-set_same r k w 0 (omega arith))
filled_at r k (suc n) (w ∷ ws) (suc i) l m h =
    let z : k + suc i ≡ k + 1 + i = omega arith in
    let e = length-set r k w in
    ap (slice_index (filled (slice_set r k w) (run (k + 1) n) ws)) z ∙ filled_at (slice_set r k w) (k + 1) n ws i (omega arith) (omega arith) (omega arith)

-- r4 to r7 as a list of four
pub kept_at : (r : List ℕ) (i : ℕ) → i < 4
    → slice_index r (4 + i) ≡ slice_index (slice_index r 4 ∷ (slice_index r 5 ∷ (slice_index r 6 ∷ (slice_index r 7 ∷ [])))) i
kept_at r zero l = refl
kept_at r (suc zero) l = refl
kept_at r (suc (suc zero)) l = refl
kept_at r (suc (suc (suc zero))) l = refl
kept_at r (suc (suc (suc (suc i)))) l = absurd (omega arith)
