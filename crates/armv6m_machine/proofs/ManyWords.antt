-- PUSH, POP and STM, from what their parts do.
use Rattle.std.proofs.Common.{zero, suc, ◌≡◌, ℕ, ◌+◌, ◌-◌, ◌*◌, ◌^◌, List, [], ◌∷◌, ◌++◌, length, Bool, true, false, Option, Some, None, refl, sym, ap, ◌∙◌, arith, slice_index, slice_set, length-append}
use Rattle.std.proofs.lemmas.List.{get_or-append_right}
use Rattle.thumb_code.specs.declared.register_file.Registers.{Registers}
use Rattle.thumb_code.specs.RegisterFile.{word, low, values, filled, is_odd}
use Rattle.thumb_code.specs.Forms.{Access, access, word_accesses, words_to, pushes, pops, stores_many}
use Rattle.std.specs.Option.{option_or}
use Rattle.thumb_code.specs.Memory.{Memory, first_fault, load_all, store_all}
use Rattle.armv6m_machine.specs.declared.faults.Fault.{Fault as FaultKind}
use Rattle.armv6m_machine.specs.declared.faults.Fault.TheVariants.{StackRange, NotThumb}
use Rattle.armv6m_machine.specs.declared.faults.Turn.TheVariants.{Went, Fault}
use Rattle.armv6m_machine.specs.Answers.{number_of}
use Rattle.armv6m_machine.specs.Transfers.{loaded}
use Rattle.armv6m_machine.specs.Steps.{Does}
use Rattle.armv6m_machine.proofs.Lists.{addresses_to, length_values, both_free}
use Rattle.armv6m_machine.proofs.Executing.{goes_on, out_of_range, load_fails, store_fails, fails_itself}

-- One word more.
pub words_from_more : (n at : ℕ) → word_accesses at (n + 1) ≡ word_accesses at n ++ access (at + 4 * n) 4 ∷ []
words_from_more zero at = let e : at + 4 * 0 ≡ at = omega arith in rw e refl
words_from_more (suc n) at =
    let e : suc n + 1 ≡ suc (n + 1) = omega arith in
    let p : at + 4 + 4 * n ≡ at + 4 * suc n = omega arith in
    let i = words_from_more n (at + 4) in
    rw e (ap (λ as'. access at 4 ∷ as') (rw p at i))

pub words_to_more : (vs : List ℕ) (at w : ℕ) → words_to at (vs ++ w ∷ []) ≡ words_to at vs ++ (access (at + 4 * length vs) 4, w) ∷ []
words_to_more [] at w = let e : at + 4 * 0 ≡ at = omega arith in rw e refl
words_to_more (v ∷ vs) at w =
    let p : at + 4 + 4 * length vs ≡ at + 4 * suc (length vs) = omega arith in
    let i = words_to_more vs (at + 4) w in
    ap (λ ps. (access at 4, v) ∷ ps) (rw p at i)

assoc : (o p q : Option ℕ) → option_or o (option_or p q) ≡ option_or (option_or o p) q
assoc (Some k) p q = refl
assoc None p q = refl

pub first_fault-append : {S : Type 0} (m : Memory S) (t : S) (b : Bool) (xs ys : List Access) → first_fault m t b (xs ++ ys) ≡ option_or (first_fault m t b xs) (first_fault m t b ys)
first_fault-append m t b [] ys = refl
first_fault-append m t b (x ∷ xs) ys = let i = first_fault-append m t b xs ys in rw i (assoc (m.fault t b x) (first_fault m t b xs) (first_fault m t b ys))

pub store_all-append : {S : Type 0} (m : Memory S) (ps qs : List (Access × ℕ)) (t : S) → store_all m t (ps ++ qs) ≡ store_all m (store_all m t ps) qs
store_all-append m [] qs t = refl
store_all-append m (p ∷ ps) qs t = store_all-append m ps qs (m.store t p.0 p.1)

pub load_all-append : {S : Type 0} (m : Memory S) (xs ys : List Access) (t : S)
    → load_all m t (xs ++ ys) ≡ ((load_all m t xs).0 ++ (load_all m (load_all m t xs).1 ys).0, (load_all m (load_all m t xs).1 ys).1)
load_all-append m [] ys t = refl
load_all-append m (x ∷ xs) ys t = let i = load_all-append m xs ys (m.load t x).1 in rw i refl

pub length-load_all : {S : Type 0} (m : Memory S) (xs : List Access) (t : S) → length (load_all m t xs).0 ≡ length xs
length-load_all m [] t = refl
length-load_all m (x ∷ xs) t = ap suc (length-load_all m xs (m.load t x).1)

pub length-word_accesses : (n at : ℕ) → length (word_accesses at n) ≡ n
length-word_accesses zero at = refl
length-word_accesses (suc n) at = ap suc (length-word_accesses n (at + 4))

-- Stores and loads change no fault.
pub stores_keep : {S : Type 0} (m : Memory S) → ((t : S) (a b : Access) (v : ℕ) (w : Bool) → m.fault (m.store t a v) w b ≡ m.fault t w b) → (ps : List (Access × ℕ)) (t : S) (w : Bool) (x : Access)
    → m.fault (store_all m t ps) w x ≡ m.fault t w x
stores_keep m keeps [] t w x = refl
stores_keep m keeps (p ∷ ps) t w x = stores_keep m keeps ps (m.store t p.0 p.1) w x ∙ keeps t p.0 x p.1 w

pub loads_keep : {S : Type 0} (m : Memory S) → ((t : S) (a b : Access) (w : Bool) → m.fault (m.load t a).1 w b ≡ m.fault t w b) → (xs : List Access) (t : S) (w : Bool) (x : Access)
    → m.fault (load_all m t xs).1 w x ≡ m.fault t w x
loads_keep m keeps [] t w x = refl
loads_keep m keeps (a ∷ xs) t w x = loads_keep m keeps xs (m.load t a).1 w x ∙ keeps t a x w

-- The first words of one more, and the last, are no faults.
pub more_free : {S : Type 0} (m : Memory S) (t : S) (b : Bool) (at n : ℕ) → first_fault m t b (word_accesses at (n + 1)) ≡ None
    → (first_fault m t b (word_accesses at n) ≡ None) × (m.fault t b (access (at + 4 * n) 4) ≡ None)
more_free m t b at n h =
    let s : option_or (first_fault m t b (word_accesses at n)) (first_fault m t b (access (at + 4 * n) 4 ∷ [])) ≡ None = sym (first_fault-append m t b (word_accesses at n) (access (at + 4 * n) 4 ∷ [])) ∙ ap (λ as'. first_fault m t b as') (sym (words_from_more n at)) ∙ h in
    let p = both_free _ _ s in
    (p.0, (both_free _ _ p.1).0)

-- PUSH of k words.
abbrev below : Registers → ℕ → ℕ
below s k = word (s.sp + (2 ^ 32 - 4 * k))

pub push_range : {S : Type 0} (m : Memory S) (t : S) (next : ℕ) (s : Registers) (vs : List ℕ) (k : ℕ) → k ≡ length vs → m.has_sp t (below s k) ≡ false
    → Does m t (pushes next s vs) (Fault StackRange s.pc) s s t
push_range m t next s vs k e h = out_of_range m t (pushes next s vs) s (rw e at h)

pub push_fault : {S : Type 0} (m : Memory S) (t : S) (next : ℕ) (s : Registers) (vs : List ℕ) (k : ℕ) (f : FaultKind) → k ≡ length vs → m.has_sp t (below s k) ≡ true
    → first_fault m t true (word_accesses (below s k) k) ≡ Some (number_of f) → Does m t (pushes next s vs) (Fault f s.pc) s s t
push_fault m t next s vs k f e h ff =
    store_fails m t (pushes next s vs) s f (rw e at h) refl (ap (λ as'. first_fault m t true as') (addresses_to vs (below s (length vs))) ∙ rw e at ff)

pub push_done : {S : Type 0} (m : Memory S) (t : S) (next : ℕ) (s : Registers) (vs : List ℕ) (k : ℕ) (mem : S) → k ≡ length vs → m.has_sp t (below s k) ≡ true
    → first_fault m t true (word_accesses (below s k) k) ≡ None → mem ≡ store_all m t (words_to (below s k) vs)
    → Does m t (pushes next s vs) Went s (record s { sp = below s k; pc = next }) mem
push_done m t next s vs k mem e h ff q =
    rw e (goes_on m t (pushes next s vs) s _ _ mem (rw e at h) refl (ap (λ as'. first_fault m t true as') (addresses_to vs (below s (length vs))) ∙ rw e at ff) refl refl (rw e at q))

-- The words of a list and one more.
pub one_more : (s : Registers) (ks : List ℕ) (w n : ℕ) → n ≡ length ks → n + 1 ≡ length (values s ks ++ w ∷ [])
one_more s ks w n e = simp length-append (omega (arith, e, length_values s ks))

-- PUSH of a list's words and one more, where the list's words are stored first.
pub more_stored : {S : Type 0} (m : Memory S) (t u v : S) (at w n : ℕ) (vs : List ℕ) → n ≡ length vs → u ≡ store_all m t (words_to at vs) → v ≡ m.store u (access (at + 4 * n) 4) w
    → v ≡ store_all m t (words_to at (vs ++ w ∷ []))
more_stored m t u v at w n vs e p q =
    q ∙ (rw (e, p) refl) ∙ sym (store_all-append m (words_to at vs) ((access (at + 4 * length vs) 4, w) ∷ []) t) ∙ ap (λ ps. store_all m t ps) (sym (words_to_more vs at w))

-- STM.
pub stores_fault : {S : Type 0} (m : Memory S) (t : S) (next : ℕ) (s : Registers) (rn : ℕ) (ks : List ℕ) (k : ℕ) (f : FaultKind) → k ≡ length ks → m.has_sp t s.sp ≡ true
    → first_fault m t true (word_accesses (low s rn) k) ≡ Some (number_of f) → Does m t (stores_many next s rn ks) (Fault f s.pc) s s t
stores_fault m t next s rn ks k f e h ff =
    let n = e ∙ sym (length_values s ks) in
    store_fails m t (stores_many next s rn ks) s f h refl (ap (λ as'. first_fault m t true as') (addresses_to (values s ks) (low s rn)) ∙ rw n at ff)

pub stores_done : {S : Type 0} (m : Memory S) (t : S) (next : ℕ) (s : Registers) (rn : ℕ) (ks : List ℕ) (k : ℕ) (mem : S) → k ≡ length ks → m.has_sp t s.sp ≡ true
    → first_fault m t true (word_accesses (low s rn) k) ≡ None → mem ≡ store_all m t (words_to (low s rn) (values s ks))
    → Does m t (stores_many next s rn ks) Went s (record s { r = slice_set s.r rn (word (low s rn + 4 * k)); pc = next }) mem
stores_done m t next s rn ks k mem e h ff q =
    let n = e ∙ sym (length_values s ks) in
    rw e (goes_on m t (stores_many next s rn ks) s _ _ mem h refl (ap (λ as'. first_fault m t true as') (addresses_to (values s ks) (low s rn)) ∙ rw n at ff) refl refl q)

-- POP of a list and PC. The words of the list, then PC's.
filled_more : (ks r ws : List ℕ) (w : ℕ) → length ws ≡ length ks → filled r ks (ws ++ w ∷ []) ≡ filled r ks ws
filled_more [] r ws w h = refl
filled_more (k ∷ ks) r [] w h = absurd (omega (arith, h))
filled_more (k ∷ ks) r (v ∷ ws) w h = filled_more ks (slice_set r k v) ws w (omega (arith, h))

last_word : (ws : List ℕ) (w n : ℕ) → length ws ≡ n → slice_index (ws ++ w ∷ []) n ≡ w
last_word ws w n h = get_or-append_right ws (w ∷ []) n n 0 h (omega arith) ∙ (let e : n - n ≡ 0 = omega arith in rw e refl)

abbrev above : Registers → ℕ → ℕ
above s k = word (s.sp + 4 * k)

pub pop_pc_range : {S : Type 0} (m : Memory S) (t : S) (next : ℕ) (s : Registers) (ks : List ℕ) (k : ℕ) → k ≡ length ks → m.has_sp t (above s (k + 1)) ≡ false
    → Does m t (pops next s ks true) (Fault StackRange s.pc) s s t
pop_pc_range m t next s ks k e h = out_of_range m t (pops next s ks true) s (rw e at h)

pub pop_pc_fault : {S : Type 0} (m : Memory S) (t : S) (next : ℕ) (s : Registers) (ks : List ℕ) (k : ℕ) (f : FaultKind) → k ≡ length ks → m.has_sp t (above s (k + 1)) ≡ true
    → first_fault m t false (word_accesses s.sp (k + 1)) ≡ Some (number_of f) → Does m t (pops next s ks true) (Fault f s.pc) s s t
pop_pc_fault m t next s ks k f e h ff = load_fails m t (pops next s ks true) s f (rw e at h) (rw e at ff)

-- What was loaded: the list's words from SP on, and the word to which PC goes.
pub record Popped {S : Type 0} (m : Memory S) (t : S) (s : Registers) (ks : List ℕ) (k : ℕ) (q : Registers) (u : S) (to : ℕ) (v : S) : Type 0 where
  pub count : k ≡ length ks
  pub registers : q ≡ record s { r = (loaded m s.r t s.sp ks).0 }
  pub between : u ≡ (loaded m s.r t s.sp ks).1
  pub word : to ≡ (m.load u (access (s.sp + 4 * k) 4)).0
  pub behind : v ≡ (m.load u (access (s.sp + 4 * k) 4)).1

all_loaded : {S : Type 0} (m : Memory S) (t : S) (s : Registers) (ks : List ℕ) (k : ℕ) (q : Registers) (u : S) (to : ℕ) (v : S) → Popped m t s ks k q u to v
    → load_all m t (word_accesses s.sp (length ks + 1)) ≡ ((load_all m t (word_accesses s.sp (length ks))).0 ++ to ∷ [], v)
all_loaded m t s ks k q u to v p =
    let e = words_from_more (length ks) s.sp in
    let a = load_all-append m (word_accesses s.sp (length ks)) (access (s.sp + 4 * length ks) 4 ∷ []) t in
    let n = p.count in let b = p.between in
    let w = p.word in let h = p.behind in
    rw (e, a, h, w, n, b) refl

pub pop_pc_not_thumb : {S : Type 0} (m : Memory S) (t : S) (next : ℕ) (s : Registers) (ks : List ℕ) (k : ℕ) (q : Registers) (u : S) (to : ℕ) (v : S) → Popped m t s ks k q u to v
    → m.has_sp t (above s (k + 1)) ≡ true → first_fault m t false (word_accesses s.sp (k + 1)) ≡ None → is_odd to ≡ false
    → Does m t (pops next s ks true) (Fault NotThumb s.pc) s s v
pop_pc_not_thumb m t next s ks k q u to v p h ff o =
    let e = p.count in
    let a = all_loaded m t s ks k q u to v p in
    let l = length-load_all m (word_accesses s.sp (length ks)) t ∙ length-word_accesses (length ks) s.sp in
    let w = last_word (load_all m t (word_accesses s.sp (length ks))).0 to (length ks) l in
    fails_itself m t (pops next s ks true) s NotThumb v (rw e at h) (rw e at ff) refl (rw (a, w, o) refl) (rw a refl)

pub pop_pc_done : {S : Type 0} (m : Memory S) (t : S) (next : ℕ) (s : Registers) (ks : List ℕ) (k : ℕ) (q : Registers) (u : S) (to : ℕ) (v : S) → Popped m t s ks k q u to v
    → m.has_sp t (above s (k + 1)) ≡ true → first_fault m t false (word_accesses s.sp (k + 1)) ≡ None → is_odd to ≡ true
    → Does m t (pops next s ks true) Went s (record q { sp = above s (k + 1); pc = to - 1 }) v
pop_pc_done m t next s ks k q u to v p h ff o =
    let e = p.count in
    let a = all_loaded m t s ks k q u to v p in
    let l = length-load_all m (word_accesses s.sp (length ks)) t ∙ length-word_accesses (length ks) s.sp in
    let w = last_word (load_all m t (word_accesses s.sp (length ks))).0 to (length ks) l in
    let f = filled_more ks s.r (load_all m t (word_accesses s.sp (length ks))).0 to l in
    let g = p.registers in
    rw (e, g) (goes_on m t (pops next s ks true) s _ (record s { r = (loaded m s.r t s.sp ks).0; sp = above s (length ks + 1); pc = to - 1 }) v (rw e at h) (rw e at ff) refl (rw (a, w, o, f) refl) refl (rw a refl))
