-- Every load finds its entry near enough, and every instruction's fields are in range.
use Rattle.std.proofs.Common.{suc, ◌≡◌, ℕ, ℤ, pos, negsuc, ◌+◌, ◌*◌, ◌-◌, ◌%◌, ◌^◌, ◌<◌, ◌≤◌, List, [], ◌∷◌, ◌++◌, length, Bool, true, false, cond, nat_lt, refl, ap, ◌∙◌, subst, arith}
use Rattle.std.proofs.lemmas.Int.{ints}
use Rattle.std.proofs.lemmas.Bool.Decides.{nat_tests}
use Rattle.std.proofs.lemmas.List.{length-append}
use Rattle.thumb_code.specs.Table.{IsOffset}
use Rattle.thumb_layout.specs.declared.pieces.Piece.{Piece}
use Rattle.thumb_layout.specs.Pieces.{goes_on}
use Rattle.thumb_layout.specs.Layout.{Wait, Chunk, size, loads_at, up, counts_from, over_pool, end_of, form_of, rest_of, pass}
use Rattle.thumb_layout.specs.Rounds.{AllReach}
use Rattle.thumb_layout.specs.Cells.{offset, pool_at, pools, first, last_entry}
use Rattle.thumb_layout.proofs.Chunks.{Test, chunk_by, Reached, chunk_reach_by, nearer, Behind, Stood, chunk_stood_by}

-- an entry is where its load can reach it
abbrev pub Near : ℕ → Wait → Type 0
Near q w = (counts_from w.at ≤ q) × (q % 4 ≡ 0) × (q ≤ counts_from w.at + 1020)

abbrev pub NearFrom : ℕ → List Wait → Type 0
NearFrom q [] = Unit {0}
NearFrom q (w ∷ ws) = Near q w × NearFrom (q + 4) ws

pub near_left : (q : ℕ) (ws vs : List Wait) → NearFrom q (ws ++ vs) → NearFrom q ws
near_left q [] vs h = tt
near_left q (w ∷ ws) vs h = (h.0, near_left (q + 4) ws vs h.1)

pub near_last : (q : ℕ) (ws : List Wait) (w : Wait) → NearFrom q (ws ++ w ∷ []) → Near (q + 4 * length ws) w
near_last q [] w h = let a = (h.0).0 in let b = (h.0).1 in let c = (h.0).2 in (omega arith, omega arith, omega arith)
near_last q (v ∷ ws) w h =
    let i = near_last (q + 4) ws w h.1 in
    let e : q + 4 + 4 * length ws ≡ q + 4 * suc (length ws) = omega arith in
    subst (λ n. Near n w) e i

-- a pool that begins at or behind the loads
near_pool : (at q : ℕ) (ws : List Wait) → up at ≤ q → q % 4 ≡ 0 → Behind at ws → AllReach q ws → NearFrom q ws
near_pool at q [] l e b h = tt
near_pool at q (w ∷ ws) l e b h = let x = b.0 in let y = b.1 in ((omega arith, e, h.0), near_pool at (q + 4) ws (omega arith) (omega arith) b.2 h.1)

near_pools : (at q : ℕ) (ws : List Wait) (rest : List ℕ) → at ≤ q → Behind at ws → AllReach (up q) ws → NearFrom (first (pool_at q ws ++ rest)) ws
near_pools at q [] rest l b h = tt
near_pools at q (w ∷ ws) rest l b h = near_pool at (up q) (w ∷ ws) (omega arith) (omega arith) b h

near_after : (at q : ℕ) (ws vs : List Wait) (rest : List ℕ) → at ≤ q → Behind at (ws ++ vs) → AllReach (up q) (ws ++ vs) → NearFrom (first (pool_at q (ws ++ vs) ++ rest)) ws
near_after at q [] vs rest l b h = tt
near_after at q (w ∷ ws) vs rest l b h = near_left (up q) (w ∷ ws) vs (near_pool at (up q) (w ∷ (ws ++ vs)) (omega arith) (omega arith) b h)

-- what the loads that wait find, where the rest finds it
abbrev Finds : List Piece → List ℕ → Type 0
Finds xs fs = (ws : List Wait) (at : ℕ) → at % 2 ≡ 0 → Behind at ws → AllReach (up (at + 2)) ws → NearFrom (first (pools (pass xs fs ws at))) ws

finds_by : (b g : Bool) (x : Piece) (f : ℕ) (xs : List Piece) (fs : List ℕ) → Finds xs fs → (ws : List Wait) (at : ℕ) → goes_on x ≡ g → Behind at ws → AllReach (up (at + 2)) ws
    → Stood x f at (length ws) (chunk_by b g x f ws at) → Reached (chunk_by b g x f ws at)
    → let c : Chunk = chunk_by b g x f ws at in NearFrom (first (pools (c ∷ pass xs fs c.waiting (end_of c)))) ws
finds_by true true x f xs fs rest ws at u b h s r = near_left (first (pools (pass xs fs (ws ++ loads_at x at) (at + size x f)))) ws (loads_at x at) (rest (ws ++ loads_at x at) (at + size x f) s.end_even s.waiting_loads r.waiting)
finds_by true false x f xs fs rest ws at u b h s r =
    near_after (at + size x f) (at + size x f) ws (loads_at x at) (pools (pass xs fs [] (over_pool (at + size x f) (ws ++ loads_at x at)))) (omega arith) s.after_loads r.after
finds_by false true x f xs fs rest ws at u b h s r = near_pools at (at + 2) ws _ (omega arith) b h
finds_by false false x f xs fs rest ws at u b h s r = near_pools at (at + 2) ws _ (omega arith) b h

finds_cons : (b : Bool) (x : Piece) (f : ℕ) (xs : List Piece) (fs : List ℕ) → Finds xs fs → (ws : List Wait) (at : ℕ) → Test x f ws at ≡ b → at % 2 ≡ 0 → Behind at ws → AllReach (up (at + 2)) ws
    → let c : Chunk = chunk_by b (goes_on x) x f ws at in NearFrom (first (pools (c ∷ pass xs fs c.waiting (end_of c)))) ws
finds_cons b x f xs fs rest ws at t e h r = finds_by b (goes_on x) x f xs fs rest ws at refl h r (chunk_stood_by b x f ws at t e h) (chunk_reach_by b x f ws at t r)

pub finds : (xs : List Piece) (fs : List ℕ) → Finds xs fs
finds [] fs ws at e b h = near_pools at at ws [] (omega arith) b (nearer (up (at + 2)) (up at) ws (omega arith) h)
finds (x ∷ xs) fs ws at e b h = finds_cons (Test x (form_of fs) ws at) x (form_of fs) xs (rest_of fs) (finds xs (rest_of fs)) ws at refl e b h

-- a load's own entry
pub own_entry : (x : Piece) (f at n : ℕ) (c : Chunk) (cs : List Chunk) → Stood x f at n c → NearFrom (first (pools cs)) c.waiting → goes_on x ≡ true → (w : Wait) → loads_at x c.body ≡ w ∷ [] → Near (last_entry c cs) w
own_entry x f at n c cs s h g w e =
    let p = s.last_waits g in
    let k : c.waiting ≡ p.0 ++ w ∷ [] = p.1 ∙ ap (λ q. p.0 ++ q) e in
    let l : length c.waiting ≡ length p.0 + 1 = ap length k ∙ length-append p.0 (w ∷ []) in
    let z : first (pools cs) + 4 * length p.0 ≡ last_entry c cs = omega arith in
    subst (λ q. Near q w) z (near_last (first (pools cs)) p.0 w (subst (NearFrom (first (pools cs))) k h))

-- a pool isn't long
pub pool_short : (at start : ℕ) (ws : List Wait) → Behind at ws → AllReach start ws → 0 < length ws → start + 4 * length ws ≤ at + 1030
pool_short at start [] b h l = absurd (omega arith)
pool_short at start (w ∷ []) b h l = let x = b.0 in let y = h.0 in omega arith
pool_short at start (w ∷ (v ∷ ws)) b h l = let i = pool_short at (start + 4) (v ∷ ws) b.2 h.1 (omega arith) in omega arith

-- offsets

abbrev offset_by : Bool → ℕ → ℕ → ℤ
offset_by b at to = cond b (negsuc (at + 3 - to)) (pos (to - (at + 4)))

offset9_by : (at to : ℕ) (b : Bool) → nat_lt to (at + 4) ≡ b → at % 2 ≡ 0 → to % 2 ≡ 0 → at + 4 ≤ to + 256 → to < at + 260 → IsOffset 9 (offset_by b at to)
offset9_by at to true e i j k l = let n : to < at + 4 = grind (arith, nat_tests) in (omega (arith, ints), omega (arith, ints), omega arith)
offset9_by at to false e i j k l = let n : at + 4 ≤ to = grind (arith, nat_tests) in (omega (arith, ints), omega (arith, ints), omega arith)

offset12_by : (at to : ℕ) (b : Bool) → nat_lt to (at + 4) ≡ b → at % 2 ≡ 0 → to % 2 ≡ 0 → at + 4 ≤ to + 2048 → to < at + 2052 → IsOffset 12 (offset_by b at to)
offset12_by at to true e i j k l = let n : to < at + 4 = grind (arith, nat_tests) in (omega (arith, ints), omega (arith, ints), omega arith)
offset12_by at to false e i j k l = let n : at + 4 ≤ to = grind (arith, nat_tests) in (omega (arith, ints), omega (arith, ints), omega arith)

offset25_by : (at to : ℕ) (b : Bool) → nat_lt to (at + 4) ≡ b → at % 2 ≡ 0 → to % 2 ≡ 0 → at < 2 ^ 20 → to < 2 ^ 20 → IsOffset 25 (offset_by b at to)
offset25_by at to true e i j k l = let n : to < at + 4 = grind (arith, nat_tests) in (omega (arith, ints), omega (arith, ints), omega arith)
offset25_by at to false e i j k l = let n : at + 4 ≤ to = grind (arith, nat_tests) in (omega (arith, ints), omega (arith, ints), omega arith)

pub offset9 : (at to : ℕ) → at % 2 ≡ 0 → to % 2 ≡ 0 → at + 4 ≤ to + 256 → to < at + 260 → IsOffset 9 (offset at to)
offset9 at to = offset9_by at to (nat_lt to (at + 4)) refl

pub offset12 : (at to : ℕ) → at % 2 ≡ 0 → to % 2 ≡ 0 → at + 4 ≤ to + 2048 → to < at + 2052 → IsOffset 12 (offset at to)
offset12 at to = offset12_by at to (nat_lt to (at + 4)) refl

pub offset25 : (at to : ℕ) → at % 2 ≡ 0 → to % 2 ≡ 0 → at < 2 ^ 20 → to < 2 ^ 20 → IsOffset 25 (offset at to)
offset25 at to = offset25_by at to (nat_lt to (at + 4)) refl
