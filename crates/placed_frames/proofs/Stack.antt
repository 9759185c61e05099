-- PUSH and POP of registers with the return address, and SP down and up by words.
use Rattle.std.proofs.Common.{zero, suc, ◌≡◌, ℕ, ◌+◌, ◌*◌, ◌-◌, ◌/◌, ◌%◌, ◌^◌, ◌<◌, ◌≤◌, List, [], ◌∷◌, ◌++◌, length, drop, true, false, None, refl, sym, ap, ◌∙◌, arith, slice_set, slice_index, ◌==◌, min, map}
use Rattle.std.proofs.lemmas.List.{length-append, length-drop, length-set}
use Rattle.thumb_code.specs.declared.instructions.Instr.TheVariants.{AddSpImm, SubSpImm}
use Rattle.thumb_code.specs.declared.register_file.Registers.{Registers}
use Rattle.thumb_code.specs.RegisterFile.{word, filled}
use Rattle.thumb_code.specs.Effect.{effect, Outcome, Goes, Access, word_accesses, words_to, jumps, pushes, pops}
use Rattle.thumb_code.specs.Memory.{Done, first_fault, store_all, load_all}
use Rattle.thumb_code.specs.Map.{stack_at, sp_in_range}
use Rattle.bank_model.specs.Bank.{Bank, bank_sp, bank_memory, bank_move, lowered, next_free}
use Rattle.placed_frames.proofs.View.{At}
use Rattle.placed_frames.proofs.Accesses.{yes, no, Own, own_at, own_fault, own_load, own_store, sp_stays}
use Rattle.placed_frames.proofs.Plain.{Bm}

record Before (n : ℕ) (ws : List ℕ) (q : List ℕ × List ℕ) : Type 0 where
  pub new : List ℕ
  pub long : length new ≡ n
  pub words : q.0 ≡ new ++ ws

append_one : (new : List ℕ) (w : ℕ) (ws : List ℕ) → new ++ (w ∷ ws) ≡ (new ++ w ∷ []) ++ ws
append_one [] w ws = refl
append_one (x ∷ new) w ws = ap (λ l. x ∷ l) (append_one new w ws)

length_one : (new : List ℕ) (w : ℕ) → length (new ++ w ∷ []) ≡ length new + 1
length_one [] w = refl
length_one (x ∷ new) w = let e = length_one new w in omega arith

lowers_by : (n : ℕ) (ws free : List ℕ) → Before n ws (lowered n ws free)
lowers_by zero ws free = record { new = []; long = refl; words = refl }
lowers_by (suc n) ws free =
    let w = (next_free free).0 in
    let b = lowers_by n (w ∷ ws) (next_free free).1 in
    record { new = b.new ++ w ∷ []; long = (let e = b.long in let f = length_one b.new w in omega arith); words = b.words ∙ append_one b.new w ws }

-- SP goes down by n words, into the range: new words stand in front
pub record Down (flash : List ℕ) (sp n : ℕ) (b : Bank) (free : List ℕ) : Type 0 where
  pub free' : List ℕ
  pub new : List ℕ
  pub long : length new ≡ n
  pub moves : bank_move (b, free) (sp - 4 * n) ≡ (record b { words = new ++ b.words }, free')
  pub at : At flash (sp - 4 * n) (record b { words = new ++ b.words })

pub move_down : (flash : List ℕ) (sp n : ℕ) (b : Bank) (free : List ℕ) → At flash sp b → 4 * n + stack_at ≤ sp → Down flash sp n b free
move_down flash sp zero b free h l =
    let e = h.sp_is in
    let z : sp - 4 * 0 ≡ sp = omega arith in
    record { free' = free; new = []; long = refl; moves = rw z (sp_stays flash sp b free h); at = rw z h }
move_down flash sp (suc n) b free h l =
    let e = h.sp_is in let i = h.low in let g = h.aligned in let j = h.high in
    let r = yes (sp - 4 * suc n) (bank_sp b) (omega arith) in
    let k : (bank_sp b - (sp - 4 * suc n)) / 4 ≡ suc n = omega arith in
    let w = lowers_by (suc n) b.words free in
    let x = w.long in
    let y : length (w.new ++ b.words) ≡ suc n + length b.words = length-append w.new b.words ∙ ap (λ q. q + length b.words) x in
    record {
      free' = (lowered (suc n) b.words free).1;
      new = w.new;
      long = x;
      moves = rw r (rw k (ap (λ q. (record b { words = q }, (lowered (suc n) b.words free).1)) w.words));
      at = record { sp_is = omega arith; flash_is = h.flash_is; aligned = g; low = omega arith; high = j };
    }

-- SP goes up by n words: they go
pub move_up : (flash : List ℕ) (sp n : ℕ) (b : Bank) (free : List ℕ) → At flash sp b → n ≤ length b.words
    → (bank_move (b, free) (sp + 4 * n) ≡ (record b { words = drop n b.words }, free)) × At flash (sp + 4 * n) (record b { words = drop n b.words })
move_up flash sp n b free h l =
    let e = h.sp_is in let i = h.low in let g = h.aligned in let j = h.high in
    let r = no (sp + 4 * n) (bank_sp b) (omega arith) in
    let k : (sp + 4 * n - bank_sp b) / 4 ≡ n = omega arith in
    let y = length-drop n b.words in
    (rw r (rw k refl), record { sp_is = omega arith; flash_is = h.flash_is; aligned = g; low = omega arith; high = j })

in_range : (sp base : ℕ) → stack_at ≤ sp → sp ≤ base → sp_in_range base sp ≡ true
in_range sp base l h = let a = no sp stack_at l in let b = no base sp h in rw a (rw b refl)

-- SUB SP
pub sub_sp : (flash : List ℕ) (next k : ℕ) (s : Registers) (b : Bank) (free : List ℕ) → At flash s.sp b → 4 * k + stack_at ≤ s.sp
    → (d : Down flash s.sp k b free)
    → Bm (b, free) s.sp (effect next s (SubSpImm k)) ≡ Done (record s { sp = s.sp - 4 * k; pc = next }) (record b { words = d.new ++ b.words }, d.free')
sub_sp flash next k s b free h l d =
    let e = h.sp_is in let i = h.low in let g = h.high in
    let w : word (s.sp + (4294967296 - k * 4)) ≡ s.sp - 4 * k = omega arith in
    let m : min s.sp (s.sp - 4 * k) ≡ s.sp - 4 * k = omega arith in
    let a = in_range (s.sp - 4 * k) b.base (omega arith) (omega arith) in
    let f = d.moves in
    let z = sp_stays flash (s.sp - 4 * k) (record b { words = d.new ++ b.words }) d.free' d.at in
    rw w (rw a (rw m (rw f (rw z refl))))

-- ADD SP
pub add_sp : (flash : List ℕ) (next k : ℕ) (s : Registers) (b : Bank) (free : List ℕ) → At flash s.sp b → k ≤ length b.words
    → Bm (b, free) s.sp (effect next s (AddSpImm k)) ≡ Done (record s { sp = s.sp + 4 * k; pc = next }) (record b { words = drop k b.words }, free)
add_sp flash next k s b free h l =
    let e = h.sp_is in let i = h.low in let g = h.high in
    let w : word (s.sp + k * 4) ≡ s.sp + 4 * k = omega arith in
    let m : min s.sp (s.sp + 4 * k) ≡ s.sp = omega arith in
    let a = in_range (s.sp + 4 * k) b.base (omega arith) (omega arith) in
    let y = sp_stays flash s.sp b free h in
    let f = (move_up flash s.sp k b free h l).0 in
    rw w (rw a (rw m (rw y (rw f refl))))

abbrev put_from : List ℕ → ℕ → List ℕ → List ℕ
put_from ws k [] = ws
put_from ws k (v ∷ vs) = put_from (slice_set ws k v) (k + 1) vs

abbrev pub get_from : List ℕ → ℕ → ℕ → List ℕ
get_from ws k zero = []
get_from ws k (suc n) = slice_index ws k ∷ get_from ws (k + 1) n

abbrev pub AllWords : List ℕ → Type 0
AllWords [] = Unit {0}
AllWords (v ∷ vs) = (v < 2 ^ 32) × AllWords vs

at_length : (flash : List ℕ) (sp : ℕ) (b : Bank) (ws : List ℕ) → length ws ≡ length b.words → At flash sp b → At flash sp (record b { words = ws })
at_length flash sp b ws e h = record { sp_is = rw e h.sp_is; flash_is = h.flash_is; aligned = h.aligned; low = rw e h.low; high = h.high }

own_here : (flash : List ℕ) (sp at k : ℕ) (b : Bank) → At flash sp b → at ≡ sp + k * 4 → k < length b.words → Own b (word at) k
own_here flash sp at k b h e l = rw e (own_at flash sp k b h l)

store_faults : (flash : List ℕ) (sp at k : ℕ) (b : Bank) (free : List ℕ) → At flash sp b → at ≡ sp + k * 4 → (vs : List ℕ) → k + length vs ≤ length b.words
    → first_fault bank_memory (b, free) true (map (λ p. p.0) (words_to at vs)) ≡ None
store_faults flash sp at k b free h e [] l = refl
store_faults flash sp at k b free h e (v ∷ vs) l = let f = own_fault b (word at) k (own_here flash sp at k b h e (omega arith)) true in rw f
    (store_faults flash sp (at + 4) (k + 1) b free h (omega arith) vs (omega arith))

stores_all : (flash : List ℕ) (sp at k : ℕ) (b : Bank) (free : List ℕ) → At flash sp b → at ≡ sp + k * 4 → (vs : List ℕ) → AllWords vs
    → k + length vs ≤ length b.words → store_all bank_memory (b, free) (words_to at vs) ≡ (record b { words = put_from b.words k vs }, free)
stores_all flash sp at k b free h e [] w l = refl
stores_all flash sp at k b free h e (v ∷ vs) w l =
    let f = own_store b (word at) k v (own_here flash sp at k b h e (omega arith)) w.0 in
    let g = length-set b.words k v in
    ap (λ q. store_all bank_memory (q, free) (words_to (at + 4) vs)) f ∙ stores_all flash sp (at + 4) (k + 1) (record b { words = slice_set b.words k v }) free
    (at_length flash sp b (slice_set b.words k v) g h) (omega arith) vs w.1 (omega arith)

load_faults : (flash : List ℕ) (sp at k : ℕ) (b : Bank) (free : List ℕ) → At flash sp b → at ≡ sp + k * 4 → (n : ℕ) → k + n ≤ length b.words
    → first_fault bank_memory (b, free) false (word_accesses at n) ≡ None
load_faults flash sp at k b free h e zero l = refl
load_faults flash sp at k b free h e (suc n) l = let f = own_fault b (word at) k (own_here flash sp at k b h e (omega arith)) false in rw f
    (load_faults flash sp (at + 4) (k + 1) b free h (omega arith) n (omega arith))

loads_all : (flash : List ℕ) (sp at k : ℕ) (b : Bank) (free : List ℕ) → At flash sp b → at ≡ sp + k * 4 → (n : ℕ) → AllWords (get_from b.words k n)
    → k + n ≤ length b.words → load_all bank_memory (b, free) (word_accesses at n) ≡ (get_from b.words k n, (b, free))
loads_all flash sp at k b free h e zero w l = refl
loads_all flash sp at k b free h e (suc n) w l =
    let f = own_load b free (word at) k (slice_index b.words k) (own_here flash sp at k b h e (omega arith)) refl w.0 in
    let g = loads_all flash sp (at + 4) (k + 1) b free h (omega arith) n w.1 (omega arith) in
    rw f (rw g refl)

-- where as many words stood as are put
put_behind : (x : ℕ) (xs vs : List ℕ) (k : ℕ) → put_from (x ∷ xs) (suc k) vs ≡ x ∷ put_from xs k vs
put_behind x xs [] k = refl
put_behind x xs (v ∷ vs) k =
    let z : suc k + 1 ≡ suc (k + 1) = omega arith in
    ap (λ j. put_from (x ∷ slice_set xs k v) j vs) z ∙ put_behind x (slice_set xs k v) vs (k + 1)

put_all : (new ws vs : List ℕ) → length new ≡ length vs → put_from (new ++ ws) 0 vs ≡ vs ++ ws
put_all [] ws [] l = refl
put_all (x ∷ new) ws (v ∷ vs) l = put_behind v (new ++ ws) vs 0 ∙ ap (λ ys. v ∷ ys) (put_all new ws vs (omega arith))
put_all _ ws vs l = absurd (omega arith)

executes : (t t1 t2 t3 : Bank × List ℕ) (sp sp' : ℕ) (ss : List (Access × ℕ)) (q : Registers) → sp_in_range t.0.base sp' ≡ true → bank_move t (min sp sp') ≡ t1
    → first_fault bank_memory t1 true (map (λ p. p.0) ss) ≡ None → store_all bank_memory t1 ss ≡ t2 → bank_move t2 sp' ≡ t3
    → Bm t sp (record { sp = sp'; loads = []; stores = ss; after = λ ws. Goes q }) ≡ Done (record q { sp = sp' }) t3
executes t t1 t2 t3 sp sp' ss q a b c d e = rw a (rw b (rw c (rw d (rw e refl))))

executes_loads : (t t1 t2 t3 : Bank × List ℕ) (sp sp' : ℕ) (as' : List Access) (after : List ℕ → Outcome) (ws : List ℕ) (q : Registers)
    → sp_in_range t.0.base sp' ≡ true → bank_move t (min sp sp') ≡ t1 → first_fault bank_memory t1 false as' ≡ None → load_all bank_memory t1 as' ≡ (ws, t2)
    → after ws ≡ Goes q → bank_move t2 sp' ≡ t3
    → Bm t sp (record { sp = sp'; loads = as'; stores = []; after = after }) ≡ Done (record q { sp = sp' }) t3
executes_loads t t1 t2 t3 sp sp' as' after ws q a b c d g e = rw a (rw b (rw c (rw d (rw g (rw e refl)))))

-- PUSH: exactly these words stand in front
pub pushes_words : (flash : List ℕ) (next : ℕ) (s : Registers) (b : Bank) (free vs : List ℕ) → At flash s.sp b → 4 * length vs + stack_at ≤ s.sp → AllWords vs
    → (free' : List ℕ) × (Bm (b, free) s.sp (pushes next s vs) ≡ Done (record s { sp = s.sp - 4 * length vs; pc = next })
    (record b { words = vs ++ b.words }, free'))
    × At flash (s.sp - 4 * length vs) (record b { words = vs ++ b.words })
pushes_words flash next s b free vs h l aw =
    let e = h.sp_is in let i = h.low in let g = h.high in
    let n = length vs in
    let d = move_down flash s.sp n b free h l in
    let nb : Bank = record b { words = d.new ++ b.words } in
    let pushed = vs ++ b.words in
    let dl = d.long in
    let y : length nb.words ≡ n + length b.words = length-append d.new b.words ∙ ap (λ q. q + length b.words) dl in
    let yp : length pushed ≡ n + length b.words = length-append vs b.words in
    let t = s.sp - 4 * n in
    let w : word (s.sp + (4294967296 - 4 * n)) ≡ t = omega arith in
    let m : min s.sp t ≡ t = omega arith in
    let u = store_faults flash t t 0 nb d.free' d.at (omega arith) vs (omega arith) in
    let x = stores_all flash t t 0 nb d.free' d.at (omega arith) vs aw (omega arith) in
    let p = put_all d.new b.words vs dl in
    let k : length pushed ≡ length nb.words = yp ∙ sym y in
    let o = at_length flash t nb pushed k d.at in
    let v = sp_stays flash t (record b { words = pushed }) d.free' o in (
      d.free',
      rw w (executes (b, free) (nb, d.free') (record b { words = pushed }, d.free') (record b { words = pushed }, d.free') s.sp t (words_to t vs)
          (record s { sp = t; pc = next })
          (in_range t b.base (omega arith) (omega arith)) (ap (bank_move (b, free)) m ∙ d.moves) u (x ∙ ap (λ q. (record b { words = q }, d.free')) p) v),
      o,
    )

-- POP with PC: the words from SP on come into the registers, and it goes to the last of them
pub pops_words : (flash : List ℕ) (next a : ℕ) (s : Registers) (b : Bank) (free ks : List ℕ) → At flash s.sp b → length ks + 1 ≤ length b.words
    → AllWords (get_from b.words 0 (length ks + 1)) → slice_index (get_from b.words 0 (length ks + 1)) (length ks) ≡ a + 1 → a % 2 ≡ 0
    → (Bm (b, free) s.sp (pops next s ks true) ≡ Done (record s {
      r = filled s.r ks (get_from b.words 0 (length ks + 1));
      sp = s.sp + 4 * (length ks + 1);
      pc = a;
    }) (record b { words = drop (length ks + 1) b.words }, free))
    × At flash (s.sp + 4 * (length ks + 1)) (record b { words = drop (length ks + 1) b.words })
pops_words flash next a s b free ks h l aw g odd =
    let e = h.sp_is in let i = h.low in let j = h.high in
    let n = length ks + 1 in
    let d = move_up flash s.sp n b free h l in
    let ws = get_from b.words 0 n in
    let t = s.sp + 4 * n in
    let r' = filled s.r ks ws in
    let w : word (s.sp + 4 * n) ≡ t = omega arith in
    let m : min s.sp t ≡ s.sp = omega arith in
    let o : ((a + 1) % 2 == 1) ≡ true = grind arith in
    let z : a + 1 - 1 ≡ a = omega arith in (
      rw w (executes_loads (b, free) (b, free) (b, free) (record b { words = drop n b.words }, free) s.sp t (word_accesses s.sp n)
          (λ ws. jumps (record s { r = filled s.r ks ws; sp = t; pc = next }) (slice_index ws (length ks))) ws
          (record s { r = r'; sp = t; pc = a })
          (in_range t b.base (omega arith) (omega arith)) (ap (bank_move (b, free)) m ∙ sp_stays flash s.sp b free h)
          (load_faults flash s.sp s.sp 0 b free h (omega arith) n (omega arith)) (loads_all flash s.sp s.sp 0 b free h (omega arith) n aw (omega arith))
          (rw g (rw o (rw z refl))) d.0),
      d.1,
    )
