-- What is known of one chunk, from what is known of the address and the loads before it.
use Rattle.std.proofs.Common.{◌≡◌, ℕ, ◌+◌, ◌*◌, ◌%◌, ◌≤◌, List, [], ◌∷◌, ◌++◌, length, Bool, true, false, cond, ◌&&◌, nat_lt, refl, sym, ap, ◌∙◌, arith, ◌==◌}
use Rattle.std.proofs.lemmas.Bool.Decides.{nat_tests}
use Rattle.std.proofs.lemmas.List.{length-append}
use Rattle.thumb_layout.specs.declared.pieces.Piece.{Piece}
use Rattle.thumb_layout.specs.declared.pieces.Piece.TheVariants.{Plain, Label, Go, CallTo, Number, Address}
use Rattle.thumb_layout.specs.declared.pieces.Entry.TheVariants.{Value}
use Rattle.thumb_layout.specs.Pieces.{goes_on, is_small}
use Rattle.thumb_layout.specs.Layout.{Wait, Chunk, size, loads_at, up, counts_from, reaches, pool_behind, over_pool, end_of, put, chunk}
use Rattle.thumb_layout.specs.Rounds.{AllReach, limit, most}

pub stops : false ≡ true → ⊥
stops e = cc

-- the test for a pool before a piece
abbrev pub Test : Piece → ℕ → List Wait → ℕ → Bool
Test x f ws at = reaches (pool_behind (goes_on x) (at + size x f)) (ws ++ loads_at x at)

-- the chunk where the test comes to this, and the piece goes on or not
abbrev pub chunk_by : Bool → Bool → Piece → ℕ → List Wait → ℕ → Chunk
chunk_by b g x f ws at = cond b (put g x f at at [] ws) (put g x f at (over_pool (at + 2) ws) ws [])

-- reach

reach_from : (start : ℕ) (a : Wait) (as' : List Wait) (b : Bool) → nat_lt (counts_from a.at + 1020) start ≡ b → (reaches (start + 4) as' ≡ true → AllReach (start + 4) as') → (cond b false true && reaches (start + 4) as') ≡ true → AllReach start (a ∷ as')
reach_from start a as' true u go e = absurd (stops e)
reach_from start a as' false u go e = (grind (arith, nat_tests), go e)

pub all_reach : (start : ℕ) (ws : List Wait) → reaches start ws ≡ true → AllReach start ws
all_reach start [] e = tt
all_reach start (a ∷ as') e = reach_from start a as' (nat_lt (counts_from a.at + 1020) start) refl (all_reach (start + 4) as') e

pub reaches_all : (start : ℕ) (ws : List Wait) → AllReach start ws → reaches start ws ≡ true
reaches_all start [] h = refl
reaches_all start (w ∷ ws) h =
    let x = h.0 in
    let n : nat_lt (counts_from w.at + 1020) start ≡ false = grind (arith, nat_tests) in
    rw n (reaches_all (start + 4) ws h.1)

pub nearer : (start start' : ℕ) (ws : List Wait) → start' ≤ start → AllReach start ws → AllReach start' ws
nearer start start' [] l h = tt
nearer start start' (a ∷ as') l h = (let x = h.0 in omega arith, nearer (start + 4) (start' + 4) as' (omega arith) h.1)

near : (f : ℕ) (w : Wait) (l : Bool) → AllReach (up (w.at + 2 + 2)) (cond l [] (w ∷ []))
near f w true = tt
near f w false = (omega arith, tt)

pub one_reaches : (x : Piece) (f b : ℕ) → AllReach (up (b + size x f + 2)) (loads_at x b)
one_reaches (Plain x) f b = tt
one_reaches (Label l) f b = tt
one_reaches (Go c l) f b = tt
one_reaches (CallTo k) f b = tt
one_reaches (Number rd v) f b = near f (record { at = b; entry = Value v }) (is_small v)
one_reaches (Address rd w) f b = (omega arith, tt)

-- a pool right behind a piece stands no later than one behind a branch
pub at_most : (g : Bool) (n : ℕ) → pool_behind g n ≤ up (n + 2)
at_most true n = omega arith
at_most false n = omega arith

pub append_none : {A : Type 0} (ws : List A) → ws ++ [] ≡ ws
append_none [] = refl
append_none (w ∷ ws) = ap (λ q. w ∷ q) (append_none ws)

-- where nothing waits, no pool stands before a piece
pub alone : (x : Piece) (f at : ℕ) → Test x f [] at ≡ true
alone x f at = reaches_all (pool_behind (goes_on x) (at + size x f)) (loads_at x at) (nearer (up (at + size x f + 2)) (pool_behind (goes_on x) (at + size x f)) (loads_at x at) (at_most (goes_on x) (at + size x f)) (one_reaches x f at))

-- the pools of a chunk and the one that comes next are near enough
pub record Reached (c : Chunk) : Type 0 where
  pub before : AllReach (up (c.at + 2)) c.before
  pub after : AllReach (up c.behind) c.after
  pub waiting : AllReach (up (end_of c + 2)) c.waiting

put_reach : (g : Bool) (x : Piece) (f at b : ℕ) (before ws : List Wait) → AllReach (up (at + 2)) before → AllReach (pool_behind g (b + size x f)) (ws ++ loads_at x b) → Reached (put g x f at b before ws)
put_reach true x f at b before ws h k = record { before = h; after = tt; waiting = k }
put_reach false x f at b before ws h k = record { before = h; after = k; waiting = tt }

pub chunk_reach_by : (b : Bool) (x : Piece) (f : ℕ) (ws : List Wait) (at : ℕ) → Test x f ws at ≡ b → AllReach (up (at + 2)) ws → Reached (chunk_by b (goes_on x) x f ws at)
chunk_reach_by true x f ws at u h = put_reach (goes_on x) x f at at [] ws tt (all_reach (pool_behind (goes_on x) (at + size x f)) (ws ++ loads_at x at) u)
chunk_reach_by false x f ws at u h =
    let b = over_pool (at + 2) ws in
    put_reach (goes_on x) x f at b ws [] h (nearer (up (b + size x f + 2)) (pool_behind (goes_on x) (b + size x f)) (loads_at x b) (at_most (goes_on x) (b + size x f)) (one_reaches x f b))

pub chunk_reach : (x : Piece) (f : ℕ) (ws : List Wait) (at : ℕ) → AllReach (up (at + 2)) ws → Reached (chunk x f ws at)
chunk_reach x f ws at h = chunk_reach_by (Test x f ws at) x f ws at refl h

-- addresses

pub even_size : (x : Piece) (f b : ℕ) → b % 2 ≡ 0 → (b + size x f) % 2 ≡ 0
even_size (Plain x) f b e = omega arith
even_size (Label l) f b e = omega arith
even_size (Go c l) f b e = omega arith
even_size (CallTo k) f b e = omega arith
even_size (Number rd v) f b e = omega arith
even_size (Address rd w) f b e = omega arith

pub over_even : (e : ℕ) (ws : List Wait) → e % 2 ≡ 0 → over_pool e ws % 2 ≡ 0
over_even e [] h = h
over_even e (w ∷ ws) h = omega arith

pub limit_most : (b : Bool) (f : ℕ) → f ≤ cond b 1 2 → f ≤ 2
limit_most true f h = omega arith
limit_most false f h = h

number_most : (w : Wait) (q : Bool) → 2 + 8 * length (cond q [] (w ∷ [])) ≤ 10
number_most w true = omega arith
number_most w false = omega arith

pub one_most : (x : Piece) (f b : ℕ) → f ≤ limit x → size x f + 8 * length (loads_at x b) ≤ most x
one_most (Plain x) f b h = omega arith
one_most (Label l) f b h = omega arith
one_most (Go c l) f b h = let k = limit_most (c == 14) f h in omega arith
one_most (CallTo k) f b h = omega arith
one_most (Number rd v) f b h = number_most (record { at = b; entry = Value v }) (is_small v)
one_most (Address rd w) f b h = omega arith

pub pool_most : (e : ℕ) (ws : List Wait) → e % 2 ≡ 0 → over_pool e ws ≤ e + 8 * length ws
pool_most e [] h = omega arith
pool_most e (w ∷ ws) h = omega arith

pub pool_least : (e : ℕ) (ws : List Wait) → e ≤ over_pool e ws
pool_least e [] = omega arith
pool_least e (w ∷ ws) = omega arith

-- loads stand before an address
abbrev pub Behind : ℕ → List Wait → Type 0
Behind at [] = Unit {0}
Behind at (w ∷ ws) = (w.at + 2 ≤ at) × (w.at % 2 ≡ 0) × Behind at ws

pub more_behind : (q q' : ℕ) (ws : List Wait) → q ≤ q' → Behind q ws → Behind q' ws
more_behind q q' [] l h = tt
more_behind q q' (w ∷ ws) l h = (let x = h.0 in omega arith, h.1, more_behind q q' ws l h.2)

pub behind_append : (at : ℕ) (ws vs : List Wait) → Behind at ws → Behind at vs → Behind at (ws ++ vs)
behind_append at [] vs h k = k
behind_append at (w ∷ ws) vs h k = (h.0, h.1, behind_append at ws vs h.2 k)

small_behind : (b : ℕ) (w : Wait) (n : Bool) → w.at ≡ b → b % 2 ≡ 0 → Behind (b + 2) (cond n [] (w ∷ []))
small_behind b w true e h = tt
small_behind b w false e h = (omega arith, omega arith, tt)

pub one_behind : (x : Piece) (f b : ℕ) → b % 2 ≡ 0 → Behind (b + size x f) (loads_at x b)
one_behind (Plain x) f b e = tt
one_behind (Label l) f b e = tt
one_behind (Go c l) f b e = tt
one_behind (CallTo k) f b e = tt
one_behind (Number rd v) f b e = small_behind b (record { at = b; entry = Value v }) (is_small v) refl e
one_behind (Address rd w) f b e = (omega arith, e, tt)

-- where a piece stands that is entered at an address, with these loads in the pool before it
abbrev pub entered : ℕ → List Wait → ℕ
entered at [] = at
entered at (w ∷ ws) = over_pool (at + 2) (w ∷ ws)

-- where a chunk stands, and how far it goes
pub record Stood (x : Piece) (f at waits : ℕ) (c : Chunk) : Type 0 where
  pub at_is : c.at ≡ at
  pub behind_is : c.behind ≡ c.body + size x f
  pub body_even : c.body % 2 ≡ 0
  pub body_least : at ≤ c.body
  pub end_even : end_of c % 2 ≡ 0
  pub end_least : c.behind ≤ end_of c
  pub before_loads : Behind at c.before
  pub after_loads : Behind c.behind c.after
  pub waiting_loads : Behind (end_of c) c.waiting
  pub end_most : f ≤ limit x → end_of c + 8 * length c.waiting ≤ at + 8 * waits + most x
  pub body_is : c.body ≡ entered at c.before
  pub last_waits : goes_on x ≡ true → (pre : List Wait) × (c.waiting ≡ pre ++ loads_at x c.body)
  pub goes : goes_on x ≡ true → c.after ≡ []

put_stood : (g : Bool) (x : Piece) (f at b n : ℕ) (before ws : List Wait) → b % 2 ≡ 0 → at ≤ b → Behind at before → Behind b ws → b + 8 * length ws ≤ at + 8 * n → b ≡ entered at before → goes_on x ≡ g → Stood x f at n (put g x f at b before ws)
put_stood true x f at b n before ws e l hb hw m o u =
    let a = length-append ws (loads_at x b) in
    record {
      at_is = refl;
      behind_is = refl;
      body_even = e;
      body_least = l;
      end_even = even_size x f b e;
      end_least = omega arith;
      before_loads = hb;
      after_loads = tt;
      waiting_loads = behind_append (b + size x f) ws (loads_at x b) (more_behind b (b + size x f) ws (omega arith) hw) (one_behind x f b e);
      end_most = λ k. (let y = one_most x f b k in omega arith);
      body_is = o;
      last_waits = λ k. (ws, refl);
      goes = λ k. refl;
    }
put_stood false x f at b n before ws e l hb hw m o u =
    let a = length-append ws (loads_at x b) in
    let all = ws ++ loads_at x b in
    let v = even_size x f b e in
    let p = pool_most (b + size x f) all v in
    record {
      at_is = refl;
      behind_is = refl;
      body_even = e;
      body_least = l;
      end_even = over_even (b + size x f) all v;
      end_least = pool_least (b + size x f) all;
      before_loads = hb;
      after_loads = behind_append (b + size x f) ws (loads_at x b) (more_behind b (b + size x f) ws (omega arith) hw) (one_behind x f b e);
      waiting_loads = tt;
      end_most = λ k. (let y = one_most x f b k in omega arith);
      body_is = o;
      last_waits = λ k. absurd (stops (sym u ∙ k));
      goes = λ k. absurd (stops (sym u ∙ k));
    }

over_entered : (x : Piece) (f at : ℕ) (ws : List Wait) → Test x f ws at ≡ false → over_pool (at + 2) ws ≡ entered at ws
over_entered x f at [] u = absurd (stops (sym u ∙ alone x f at))
over_entered x f at (w ∷ ws) u = refl

over_far : (x : Piece) (f at : ℕ) (ws : List Wait) → Test x f ws at ≡ false → at % 2 ≡ 0 → over_pool (at + 2) ws ≤ at + 8 * length ws
over_far x f at [] u e = absurd (stops (sym u ∙ alone x f at))
over_far x f at (w ∷ ws) u e = omega arith

pub chunk_stood_by : (b : Bool) (x : Piece) (f : ℕ) (ws : List Wait) (at : ℕ) → Test x f ws at ≡ b → at % 2 ≡ 0 → Behind at ws → Stood x f at (length ws) (chunk_by b (goes_on x) x f ws at)
chunk_stood_by true x f ws at u e h = put_stood (goes_on x) x f at at (length ws) [] ws e (omega arith) tt h (omega arith) refl refl
chunk_stood_by false x f ws at u e h =
    let b = over_pool (at + 2) ws in
    let l = pool_least (at + 2) ws in
    let m = over_far x f at ws u e in
    put_stood (goes_on x) x f at b (length ws) ws [] (over_even (at + 2) ws (omega arith)) (omega arith) h tt (omega arith) (over_entered x f at ws u) refl

pub chunk_stood : (x : Piece) (f : ℕ) (ws : List Wait) (at : ℕ) → at % 2 ≡ 0 → Behind at ws → Stood x f at (length ws) (chunk x f ws at)
chunk_stood x f ws at e h = chunk_stood_by (Test x f ws at) x f ws at refl e h
