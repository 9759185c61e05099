-- The rounds come to an end at which every branch fits, and no pool is too far.
use Rattle.std.proofs.Common.{zero, suc, ◌≡◌, ℕ, ◌+◌, ◌*◌, ◌≤◌, ◌≢◌, List, [], ◌∷◌, length, Bool, true, false, cond, nat_lt, refl, sym, ap, ◌∙◌, arith, ◌==◌}
use Rattle.std.proofs.lemmas.Bool.Decides.{nat_tests}
use Rattle.thumb_layout.specs.declared.pieces.Piece.{Piece}
use Rattle.thumb_layout.specs.declared.pieces.Piece.TheVariants.{Plain, Label, Go, CallTo, Number, Address}
use Rattle.thumb_layout.specs.Layout.{Wait, Chunk, up, form_of, rest_of, end_of, chunk, pass, chunks, label_at}
use Rattle.thumb_layout.specs.Rounds.{branch_fits, fits, lengthened, round, rounds, short, forms, layout, AllFit, AllReach, PoolsReach, limit, IsLimited, total}
use Rattle.thumb_layout.specs.Placing.{IsProper}
use Rattle.thumb_layout.proofs.Chunks.{chunk_reach, nearer, stops}

-- pools

pub pools_reach : (xs : List Piece) (fs : List ℕ) (ws : List Wait) (at : ℕ) → AllReach (up (at + 2)) ws → PoolsReach (pass xs fs ws at)
pools_reach [] fs ws at h = (tt, nearer (up (at + 2)) (up at) ws (omega arith) h, tt)
pools_reach (x ∷ xs) fs ws at h =
    let c = chunk x (form_of fs) ws at in
    let r = chunk_reach x (form_of fs) ws at h in
    (r.before, r.after, pools_reach xs (rest_of fs) c.waiting (end_of c) r.waiting)

-- rounds

lengthened_length : (to : ℕ → ℕ) (xs : List Piece) (cs : List Chunk) (fs : List ℕ) → length (lengthened to xs cs fs) ≡ length fs
lengthened_length to [] cs fs = refl
lengthened_length to (x ∷ xs) [] fs = refl
lengthened_length to (x ∷ xs) (c ∷ cs) [] = refl
lengthened_length to (x ∷ xs) (c ∷ cs) (f ∷ fs) = ap suc (lengthened_length to xs cs fs)

pub limit_two : (x : Piece) → limit x ≤ 2
limit_two (Plain x) = omega arith
limit_two (Label l) = omega arith
limit_two (Go c l) = by (c == 14)
  where
    by : (b : Bool) → cond b 1 2 ≤ 2
    by true = omega arith
    by false = omega arith
limit_two (CallTo f) = omega arith
limit_two (Number rd v) = omega arith
limit_two (Address rd w) = omega arith

limited_total : (xs : List Piece) (fs : List ℕ) → length fs ≡ length xs → IsLimited xs fs → total fs ≤ 2 * length xs
limited_total [] [] e h = omega arith
limited_total [] (f ∷ fs) e h = absurd (omega arith)
limited_total (x ∷ xs) [] e h = absurd (omega arith)
limited_total (x ∷ xs) (f ∷ fs) e h = let i = limited_total xs fs (omega arith) h.1 in let j = h.0 in let k = limit_two x in omega arith

branch_at_limit : (c a to : ℕ) (b : Bool) → (c == 14) ≡ b → branch_fits c (cond b 1 2) a to ≡ true
branch_at_limit c a to true u = rw u refl
branch_at_limit c a to false u = rw u refl

at_limit : (to : ℕ → ℕ) (x : Piece) (k : Chunk) → fits to x k (limit x) ≡ true
at_limit to (Plain x) k = refl
at_limit to (Label l) k = refl
at_limit to (Go c l) k = branch_at_limit c k.body (to l) (c == 14) refl
at_limit to (CallTo f) k = refl
at_limit to (Number rd v) k = refl
at_limit to (Address rd w) k = refl

pub next_limited : (to : ℕ → ℕ) (x : Piece) (k : Chunk) (f : ℕ) → f ≤ limit x → (b : Bool) → fits to x k f ≡ b → cond b f (f + 1) ≤ limit x
next_limited to x k f h true u = h
next_limited to x k f h false u = let z : f ≢ limit x = λ e. stops (sym u ∙ (ap (fits to x k) e ∙ at_limit to x k)) in omega arith

keeps_limited : (to : ℕ → ℕ) (xs : List Piece) (cs : List Chunk) (fs : List ℕ) → IsLimited xs fs → IsLimited xs (lengthened to xs cs fs)
keeps_limited to [] cs fs h = tt
keeps_limited to (x ∷ xs) [] fs h = h
keeps_limited to (x ∷ xs) (c ∷ cs) [] h = tt
keeps_limited to (x ∷ xs) (c ∷ cs) (f ∷ fs) h = (next_limited to x c f h.0 (fits to x c f) refl, keeps_limited to xs cs fs h.1)

-- a round doesn't make the total smaller, and changes nothing where it leaves it
abbrev pub Grows : List ℕ → List ℕ → Type 0
Grows fs gs = (total fs ≤ total gs) × (total gs ≤ total fs → gs ≡ fs)

grows_cons : (b : Bool) (f : ℕ) (fs gs : List ℕ) → Grows fs gs → Grows (f ∷ fs) (cond b f (f + 1) ∷ gs)
grows_cons true f fs gs h = (let l = h.0 in omega arith, λ k. ap (λ x. f ∷ x) (h.1 (omega arith)))
grows_cons false f fs gs h = (let l = h.0 in omega arith, λ k. let l = h.0 in absurd (omega arith))

same_total : (fs : List ℕ) → Grows fs fs
same_total fs = (omega arith, λ k. refl)

grows : (to : ℕ → ℕ) (xs : List Piece) (cs : List Chunk) (fs : List ℕ) → Grows fs (lengthened to xs cs fs)
grows to [] cs fs = same_total fs
grows to (x ∷ xs) [] fs = same_total fs
grows to (x ∷ xs) (c ∷ cs) [] = same_total []
grows to (x ∷ xs) (c ∷ cs) (f ∷ fs) = grows_cons (fits to x c f) f fs (lengthened to xs cs fs) (grows to xs cs fs)

pub round_grows : (xs : List Piece) (fs : List ℕ) → Grows fs (round xs fs)
round_grows xs fs = grows (label_at xs (chunks xs fs)) xs (chunks xs fs) fs

pub round_limited : (xs : List Piece) (fs : List ℕ) → IsLimited xs fs → IsLimited xs (round xs fs)
round_limited xs fs h = keeps_limited (label_at xs (chunks xs fs)) xs (chunks xs fs) fs h

pub round_length : (xs : List Piece) (fs : List ℕ) → length (round xs fs) ≡ length fs
round_length xs fs = lengthened_length (label_at xs (chunks xs fs)) xs (chunks xs fs) fs

stays : (xs : List Piece) (n : ℕ) (fs : List ℕ) → round xs fs ≡ fs → rounds xs n fs ≡ fs
stays xs zero fs e = refl
stays xs (suc n) fs e = rw e (stays xs n fs e)

pub proper_round : (xs : List Piece) (fs : List ℕ) → IsProper xs fs → IsProper xs (round xs fs)
proper_round xs fs p = record { as_long = round_length xs fs ∙ p.as_long; limited = round_limited xs fs p.limited }

pub proper_total : (xs : List Piece) (fs : List ℕ) → IsProper xs fs → total fs ≤ 2 * length xs
proper_total xs fs p = limited_total xs fs p.as_long p.limited

fixed_from : (xs : List Piece) (n : ℕ) (fs : List ℕ) → ((gs : List ℕ) → IsProper xs gs → 2 * length xs ≤ n + total gs → round xs (rounds xs n gs) ≡ rounds xs n gs) → IsProper xs fs → 2 * length xs ≤ suc n + total fs
    → (b : Bool) → nat_lt (total fs) (total (round xs fs)) ≡ b → round xs (rounds xs n (round xs fs)) ≡ rounds xs n (round xs fs)
fixed_from xs n fs go h l true u = go (round xs fs) (proper_round xs fs h) (grind (arith, nat_tests))
fixed_from xs n fs go h l false u =
    let e : round xs fs ≡ fs = (round_grows xs fs).1 (grind (arith, nat_tests)) in
    let i : rounds xs n (round xs fs) ≡ fs = ap (rounds xs n) e ∙ stays xs n fs e in
    ap (round xs) i ∙ (e ∙ sym i)

fixed : (xs : List Piece) (n : ℕ) (fs : List ℕ) → IsProper xs fs → 2 * length xs ≤ n + total fs → round xs (rounds xs n fs) ≡ rounds xs n fs
fixed xs zero fs h l = let k = proper_total xs (round xs fs) (proper_round xs fs h) in (round_grows xs fs).1 (omega arith)
fixed xs (suc n) fs h l = fixed_from xs n fs (fixed xs n) h l (nat_lt (total fs) (total (round xs fs))) refl

pub short_length : (xs : List Piece) → length (short xs) ≡ length xs
short_length [] = refl
short_length (x ∷ xs) = ap suc (short_length xs)

short_limited : (xs : List Piece) → IsLimited xs (short xs)
short_limited [] = tt
short_limited (x ∷ xs) = (omega arith, short_limited xs)

pub short_proper : (xs : List Piece) → IsProper xs (short xs)
short_proper xs = record { as_long = short_length xs; limited = short_limited xs }

rounds_proper : (xs : List Piece) (n : ℕ) (fs : List ℕ) → IsProper xs fs → IsProper xs (rounds xs n fs)
rounds_proper xs zero fs h = h
rounds_proper xs (suc n) fs h = rounds_proper xs n (round xs fs) (proper_round xs fs h)

pub forms_proper : (xs : List Piece) → IsProper xs (forms xs)
forms_proper xs = rounds_proper xs (2 * length xs) (short xs) (short_proper xs)

pub forms_fixed : (xs : List Piece) → round xs (forms xs) ≡ forms xs
forms_fixed xs = fixed xs (2 * length xs) (short xs) (short_proper xs) (omega arith)

-- so many rounds, and so many more
rounds_add : (xs : List Piece) (n m : ℕ) (fs : List ℕ) → rounds xs (n + m) fs ≡ rounds xs m (rounds xs n fs)
rounds_add xs zero m fs = let e : 0 + m ≡ m = omega arith in ap (λ k. rounds xs k fs) e
rounds_add xs (suc n) m fs = let e : suc n + m ≡ suc (n + m) = omega arith in ap (λ k. rounds xs k fs) e ∙ rounds_add xs n m (round xs fs)

pub rounds_more : (xs : List Piece) (n : ℕ) (fs : List ℕ) → rounds xs (n + 1) fs ≡ round xs (rounds xs n fs)
rounds_more xs n fs = rounds_add xs n 1 fs

-- where a round changes nothing, the forms are reached
pub settled : (xs : List Piece) (n : ℕ) (fs : List ℕ) → fs ≡ rounds xs n (short xs) → round xs fs ≡ fs → fs ≡ forms xs
settled xs n fs r e =
    let m = 2 * length xs in
    let a : rounds xs (n + m) (short xs) ≡ fs = rounds_add xs n m (short xs) ∙ (ap (rounds xs m) (sym r) ∙ stays xs m fs e) in
    let b : rounds xs (m + n) (short xs) ≡ forms xs = rounds_add xs m n (short xs) ∙ stays xs n (forms xs) (forms_fixed xs) in
    let z : n + m ≡ m + n = omega arith in
    sym a ∙ (ap (λ k. rounds xs k (short xs)) z ∙ b)

-- where a round changes nothing, every branch fits

unchanged : (f : ℕ) (b : Bool) → cond b f (f + 1) ≡ f → b ≡ true
unchanged f true e = refl
unchanged f false e = absurd (omega arith)

all_fit : (to : ℕ → ℕ) (xs : List Piece) (cs : List Chunk) (fs : List ℕ) → lengthened to xs cs fs ≡ fs → AllFit to xs cs fs
all_fit to [] cs fs e = tt
all_fit to (x ∷ xs) [] fs e = tt
all_fit to (x ∷ xs) (c ∷ cs) [] e = tt
all_fit to (x ∷ xs) (c ∷ cs) (f ∷ fs) e = (unchanged f (fits to x c f) (ap (form_of) e), all_fit to xs cs fs (ap rest_of e))

pub branches_fit : (xs : List Piece) → AllFit (label_at xs (layout xs)) xs (layout xs) (forms xs)
branches_fit xs = all_fit (label_at xs (layout xs)) xs (layout xs) (forms xs) (forms_fixed xs)

pub pools_fit : (xs : List Piece) → PoolsReach (layout xs)
pools_fit xs = pools_reach xs (forms xs) [] 0 tt
