-- Places in what a fiber sees: a temporary into a low register, and a low register into a place.
use Rattle.std.proofs.Common.{zero, suc, ◌≡◌, ℕ, ◌+◌, ◌-◌, ◌*◌, ◌<◌, ◌≤◌, ◌^◌, ◌⊎◌, inl, inr, Bool, if◌then◌else◌, List, [], ◌∷◌, length, true, false, nat_lt, refl, sym, ap, ◌∙◌, subst, arith, slice_set, slice_index, ◌==◌, get_or-set_same, get_or-set_other}
use Rattle.std.proofs.lemmas.List.{length-set}
use Rattle.std.proofs.lemmas.Bool.{cases_eq}
use Rattle.std.proofs.lemmas.Bool.Decides.{nat_tests}
use Rattle.thumb_code.specs.declared.instructions.Instr.TheVariants.{MovHigh, LdrSp, StrSp}
use Rattle.placed_frames.proofs.Laws.{View, with_low, Alters, Quiet, GetOwn, PutOwn, four, put, get, IsRoom}
use Rattle.flat_ir.specs.declared.ops.Function.{Function}
use Rattle.register_assign.specs.declared.places.Place.{Place}
use Rattle.register_assign.specs.declared.places.Place.TheVariants.{Reg, Slot, Incoming}
use Rattle.register_assign.specs.Sound.{IsWithin}
use Rattle.placed_frames.specs.Places.{Store, words}
use Rattle.thumb_layout.specs.declared.pieces.Piece.TheVariants.{Plain, Label}
use Rattle.thumb_layout.specs.Pieces.{Places}
use Rattle.thumb_emit.specs.Frame.{from_place, to_place, register_of, brings, result_in, keeps, lands, copies, carries}
use Rattle.emit_simulation.proofs.Laid.{Flows, AllFlow, OfInstr, OfLabel, steps_of, store_of}
use Rattle.emit_simulation.proofs.Leaving.{StandsIn}

-- a scratch register is none of r4 to r7
pub store_low : (k w : ℕ) (v : View) → k < 4 → store_of (with_low k w v) ≡ store_of v
store_low k w v l = ap (λ q. record { kept = q; words = v.words })
    (four _ _ _ _ _ _ _ _ (get_or-set_other v.low k 4 w 0 (omega arith)) (get_or-set_other v.low k 5 w 0 (omega arith))
    (get_or-set_other v.low k 6 w 0 (omega arith)) (get_or-set_other v.low k 7 w 0 (omega arith)))

pub moves : (flash : List ℕ) (rd rm : ℕ) (v : View) → rd < 13 → rm < 13 → Alters flash (MovHigh rd rm) v (with_low rd (slice_index v.low rm) v)
moves flash rd rm v l m =
    let a : nat_lt rd 13 ≡ true = grind arith in
    let b : nat_lt rm 13 ≡ true = grind arith in
    Quiet (MovHigh rd rm) v (slice_set v.low rd (slice_index v.low rm)) v.flags (λ next pc s. rw a (rw b refl))

not_pc : (rd : ℕ) → rd < 13 → (rd == 15) ≡ false
not_pc rd l = grind arith

pub mov_flows : (flash : List ℕ) (p : Places) (rd rm : ℕ) (v : View) → rd < 13 → rm < 13 → Flows flash p (Plain (MovHigh rd rm)) v
    (with_low rd (slice_index v.low rm) v)
mov_flows flash p rd rm v l m =
    let z = not_pc rd l in
    OfInstr (MovHigh rd rm) v (with_low rd (slice_index v.low rm) v) (rw z refl) (moves flash rd rm v l m)

kept_is : (v : View) (r : ℕ) → 4 ≤ r → r ≤ 7 → slice_index (store_of v).kept (r - 4) ≡ slice_index v.low r
kept_is v zero l m = omega arith
kept_is v (suc zero) l m = omega arith
kept_is v (suc (suc zero)) l m = omega arith
kept_is v (suc (suc (suc zero))) l m = omega arith
kept_is v (suc (suc (suc (suc zero)))) l m = refl
kept_is v (suc (suc (suc (suc (suc zero))))) l m = refl
kept_is v (suc (suc (suc (suc (suc (suc zero)))))) l m = refl
kept_is v (suc (suc (suc (suc (suc (suc (suc zero))))))) l m = refl
kept_is v (suc (suc (suc (suc (suc (suc (suc (suc r)))))))) l m = omega arith

-- GET
pub gets : (flash : List ℕ) (p : Places) (f : Function) (q : Place) (rd w : ℕ) (v : View) → rd < 8 → IsWithin f q → IsRoom f (store_of v)
    → get f q (store_of v) ≡ w → w < 2 ^ 32 → Flows flash p (from_place f rd q) v (with_low rd w v)
gets flash p f (Reg r) rd w v l i h e m = subst (λ n. Flows flash p (Plain (MovHigh rd r)) v (with_low rd n v)) (sym (kept_is v r i.0 i.1) ∙ e)
    (mov_flows flash p rd r v (omega arith) (let a = i.1 in omega arith))
gets flash p f (Slot j) rd w v l i h e m = let a = h.long in OfInstr (LdrSp rd (f.outgoing + j)) v (with_low rd w v) refl
    (GetOwn rd (f.outgoing + j) w v (omega arith) (ap (slice_index v.words) (omega arith) ∙ e) m)
gets flash p f (Incoming j) rd w v l i h e m = let a = h.long in OfInstr (LdrSp rd (words f + j)) v (with_low rd w v) refl
    (GetOwn rd (words f + j) w v (omega arith) (ap (slice_index v.words) (omega arith) ∙ e) m)

-- PUT
abbrev pub put_view : Function → Place → ℕ → View → View
put_view f (Reg r) w v = with_low r w v
put_view f (Slot j) w v = record v { words = slice_set v.words (f.outgoing + j) w }
put_view f (Incoming j) w v = record v { words = slice_set v.words (words f + j) w }

pub puts : (flash : List ℕ) (p : Places) (f : Function) (q : Place) (rs w : ℕ) (v : View) → rs < 8 → IsWithin f q → IsRoom f (store_of v)
    → slice_index v.low rs ≡ w → w < 2 ^ 32 → Flows flash p (to_place f rs q) v (put_view f q w v)
puts flash p f (Reg r) rs w v l i h e m = subst (λ n. Flows flash p (Plain (MovHigh r rs)) v (with_low r n v)) e
    (mov_flows flash p r rs v (let a = i.1 in omega arith) (omega arith))
puts flash p f (Slot j) rs w v l i h e m = let a = h.long in OfInstr (StrSp rs (f.outgoing + j)) v (put_view f (Slot j) w v) refl
    (PutOwn rs (f.outgoing + j) w v (omega arith) e m)
puts flash p f (Incoming j) rs w v l i h e m = let a = h.long in OfInstr (StrSp rs (words f + j)) v (put_view f (Incoming j) w v) refl
    (PutOwn rs (words f + j) w v (omega arith) e m)

kept_set : (low : List ℕ) (r w : ℕ) → length low ≡ 13 → 4 ≤ r → r ≤ 7
    → (slice_index (slice_set low r w) 4 ∷ (slice_index (slice_set low r w) 5 ∷ (slice_index (slice_set low r w) 6 ∷ (slice_index (slice_set low r w) 7 ∷ []))))
    ≡ slice_set (slice_index low 4 ∷ (slice_index low 5 ∷ (slice_index low 6 ∷ (slice_index low 7 ∷ [])))) (r - 4) w
kept_set low zero w n l m = elim (let f : ⊥ = omega arith in f) [ ]
kept_set low (suc zero) w n l m = elim (let f : ⊥ = omega arith in f) [ ]
kept_set low (suc (suc zero)) w n l m = elim (let f : ⊥ = omega arith in f) [ ]
kept_set low (suc (suc (suc zero))) w n l m = elim (let f : ⊥ = omega arith in f) [ ]
kept_set low (suc (suc (suc (suc zero)))) w n l m = four _ _ _ _ _ _ _ _ (get_or-set_same low 4 w 0 (omega arith)) (get_or-set_other low 4 5 w 0 (omega arith))
    (get_or-set_other low 4 6 w 0 (omega arith)) (get_or-set_other low 4 7 w 0 (omega arith))
kept_set low (suc (suc (suc (suc (suc zero))))) w n l m = four _ _ _ _ _ _ _ _ (get_or-set_other low 5 4 w 0 (omega arith))
    (get_or-set_same low 5 w 0 (omega arith)) (get_or-set_other low 5 6 w 0 (omega arith)) (get_or-set_other low 5 7 w 0 (omega arith))
kept_set low (suc (suc (suc (suc (suc (suc zero)))))) w n l m = four _ _ _ _ _ _ _ _ (get_or-set_other low 6 4 w 0 (omega arith))
    (get_or-set_other low 6 5 w 0 (omega arith)) (get_or-set_same low 6 w 0 (omega arith)) (get_or-set_other low 6 7 w 0 (omega arith))
kept_set low (suc (suc (suc (suc (suc (suc (suc zero))))))) w n l m = four _ _ _ _ _ _ _ _ (get_or-set_other low 7 4 w 0 (omega arith))
    (get_or-set_other low 7 5 w 0 (omega arith)) (get_or-set_other low 7 6 w 0 (omega arith)) (get_or-set_same low 7 w 0 (omega arith))
kept_set low (suc (suc (suc (suc (suc (suc (suc (suc r)))))))) w n l m = elim (let f : ⊥ = omega arith in f) [ ]

pub store_put : (f : Function) (q : Place) (w : ℕ) (v : View) → IsWithin f q → length v.low ≡ 13 → store_of (put_view f q w v) ≡ put f q w (store_of v)
store_put f (Reg r) w v i n = ap (λ k. record { kept = k; words = v.words }) (kept_set v.low r w n i.0 i.1)
store_put f (Slot j) w v i n = refl
store_put f (Incoming j) w v i n = refl

pub put_low : (f : Function) (q : Place) (w : ℕ) (v : View) → length v.low ≡ 13 → length (put_view f q w v).low ≡ 13
put_low f (Reg r) w v n = length-set v.low r w ∙ n
put_low f (Slot j) w v n = n
put_low f (Incoming j) w v n = n

pub put_shared : (f : Function) (q : Place) (w : ℕ) (v : View) → ((put_view f q w v).globals ≡ v.globals) × ((put_view f q w v).arena ≡ v.arena)
put_shared f (Reg r) w v = (refl, refl)
put_shared f (Slot j) w v = (refl, refl)
put_shared f (Incoming j) w v = (refl, refl)

-- BRING: what is seen behind the piece that brings a temporary into its register
abbrev pub low_behind : ℕ → Place → ℕ → List ℕ → List ℕ
low_behind rd (Reg r) w low = low
low_behind rd (Slot j) w low = slice_set low rd w
low_behind rd (Incoming j) w low = slice_set low rd w

abbrev pub brought : ℕ → Place → ℕ → View → View
brought rd q w v = record v { low = low_behind rd q w v.low }

pub brings_flows : (flash : List ℕ) (p : Places) (f : Function) (q : Place) (rd w : ℕ) (v : View) → rd < 4 → IsWithin f q → IsRoom f (store_of v)
    → get f q (store_of v) ≡ w → w < 2 ^ 32 → Flows flash p (brings f rd q) v (brought rd q w v)
brings_flows flash p f (Reg r) rd w v l i h e m = OfLabel (3 * length f.ops + 1) v
brings_flows flash p f (Slot j) rd w v l i h e m = gets flash p f (Slot j) rd w v (omega arith) i h e m
brings_flows flash p f (Incoming j) rd w v l i h e m = gets flash p f (Incoming j) rd w v (omega arith) i h e m

pub brought_word : (f : Function) (q : Place) (rd w : ℕ) (v : View) → rd < 4 → IsWithin f q → length v.low ≡ 13 → get f q (store_of v) ≡ w
    → slice_index (low_behind rd q w v.low) (register_of rd q) ≡ w
brought_word f (Reg r) rd w v l i n e = sym (kept_is v r i.0 i.1) ∙ e
brought_word f (Slot j) rd w v l i n e = get_or-set_same v.low rd w 0 (omega arith)
brought_word f (Incoming j) rd w v l i n e = get_or-set_same v.low rd w 0 (omega arith)

pub brought_other : (q : Place) (rd w i : ℕ) (low : List ℕ) → (rd ≡ i → ⊥) → slice_index (low_behind rd q w low) i ≡ slice_index low i
brought_other (Reg r) rd w i low d = refl
brought_other (Slot j) rd w i low d = get_or-set_other low rd i w 0 (λ e. d (sym e))
brought_other (Incoming j) rd w i low d = get_or-set_other low rd i w 0 (λ e. d (sym e))

pub brought_store : (q : Place) (rd w : ℕ) (v : View) → rd < 4 → store_of (brought rd q w v) ≡ store_of v
brought_store (Reg r) rd w v l = refl
brought_store (Slot j) rd w v l = store_low rd w v l
brought_store (Incoming j) rd w v l = store_low rd w v l

pub brought_length : (q : Place) (rd w : ℕ) (low : List ℕ) → length (low_behind rd q w low) ≡ length low
brought_length (Reg r) rd w low = refl
brought_length (Slot j) rd w low = length-set low rd w
brought_length (Incoming j) rd w low = length-set low rd w

-- the register of a temporary is the scratch register, or one of r4 to r7
pub register_is : (f : Function) (q : Place) (rd : ℕ) → IsWithin f q → (register_of rd q ≡ rd) ⊎ ((4 ≤ register_of rd q) × (register_of rd q ≤ 7))
register_is f (Reg r) rd i = inr (i.0, i.1)
register_is f (Slot j) rd i = inl refl
register_is f (Incoming j) rd i = inl refl

pub register_small : (f : Function) (q : Place) (rd : ℕ) → rd < 4 → IsWithin f q → register_of rd q < 8
register_small f (Reg r) rd l i = let a = i.1 in omega arith
register_small f (Slot j) rd l i = omega arith
register_small f (Incoming j) rd l i = omega arith

-- no other scratch register
pub not_scratch : (f : Function) (q : Place) (rd k : ℕ) → k < 4 → (rd ≡ k → ⊥) → IsWithin f q → k ≡ register_of rd q → ⊥
not_scratch f (Reg r) rd k l d i e = let a = i.0 in let z : k ≡ r = e in omega arith
not_scratch f (Slot j) rd k l d i e = d (sym e)
not_scratch f (Incoming j) rd k l d i e = d (sym e)

-- so is that in which a result is made
pub made_small : (f : Function) (b : Bool) (q : Place) → IsWithin f q → result_in b q < 8
made_small f true q i = omega arith
made_small f false q i = register_small f q 0 (omega arith) i

pub made_not : (f : Function) (b : Bool) (q : Place) (k : ℕ) → 0 < k → k < 4 → IsWithin f q → k ≡ result_in b q → ⊥
made_not f true q k l m i e = let z : k ≡ 0 = e in omega arith
made_not f false q k l m i e = not_scratch f q 0 k m (λ z. omega arith) i e

-- MOVE: a word from one low register to another, unless it is there
abbrev pub moved_low : ℕ → ℕ → ℕ → List ℕ → List ℕ
moved_low rd rs w low = if rd == rs then low else slice_set low rd w

abbrev pub moved : ℕ → ℕ → ℕ → View → View
moved rd rs w v = record v { low = moved_low rd rs w v.low }

pub moves_flows : (flash : List ℕ) (p : Places) (f : Function) (rd rs w : ℕ) (v : View) → rd < 13 → rs < 13 → slice_index v.low rs ≡ w
    → Flows flash p (carries f rd rs) v (moved rd rs w v)
moves_flows flash p f rd rs w v l m e = by (rd == rs)
  where
    by : (b : Bool) → Flows flash p (if b then Label (3 * length f.ops + 1) else Plain (MovHigh rd rs)) v (record v { low = if b then v.low else slice_set v.low rd w })
    by true = OfLabel (3 * length f.ops + 1) v
    by false = subst (λ n. Flows flash p (Plain (MovHigh rd rs)) v (with_low rd n v)) e (mov_flows flash p rd rs v l m)

pub moved_word : (rd rs w : ℕ) (low : List ℕ) → rd < length low → slice_index low rs ≡ w → slice_index (moved_low rd rs w low) rd ≡ w
moved_word rd rs w low l e = by (rd == rs) refl
  where
    by : (b : Bool) → (rd == rs) ≡ b → slice_index (if b then low else slice_set low rd w) rd ≡ w
    by true q = (let s : rd ≡ rs = grind (arith, nat_tests) in ap (slice_index low) s ∙ e)
    by false q = get_or-set_same low rd w 0 l

pub moved_other : (rd rs w i : ℕ) (low : List ℕ) → (i ≡ rd → ⊥) → slice_index (moved_low rd rs w low) i ≡ slice_index low i
moved_other rd rs w i low d = by (rd == rs)
  where
    by : (b : Bool) → slice_index (if b then low else slice_set low rd w) i ≡ slice_index low i
    by true = refl
    by false = get_or-set_other low rd i w 0 d

pub moved_length : (rd rs w : ℕ) (low : List ℕ) → length (moved_low rd rs w low) ≡ length low
moved_length rd rs w low = by (rd == rs)
  where
    by : (b : Bool) → length (if b then low else slice_set low rd w) ≡ length low
    by true = refl
    by false = length-set low rd w

-- KEEP: what is seen behind the piece that takes a result from its register to its place, unless nobody reads it
abbrev pub kept_view : Function → Bool → Place → ℕ → View → View
kept_view f true q w u = u
kept_view f false (Reg r) w u = u
kept_view f false (Slot j) w u = put_view f (Slot j) w u
kept_view f false (Incoming j) w u = put_view f (Incoming j) w u

-- the frames then
abbrev pub put_result : Function → Bool → Place → ℕ → Store → Store
put_result f true q w s = s
put_result f false q w s = put f q w s

same_store : (v u : View) → slice_index u.low 4 ≡ slice_index v.low 4 → slice_index u.low 5 ≡ slice_index v.low 5 → slice_index u.low 6 ≡ slice_index v.low 6
    → slice_index u.low 7 ≡ slice_index v.low 7 → u.words ≡ v.words → store_of u ≡ store_of v
same_store v u a b c d e =
    ap (λ q. record { kept = q; words = u.words }) (four _ _ _ _ _ _ _ _ a b c d)
    ∙ ap (λ q. record { kept = (store_of v).kept; words = q }) e

-- a result in a scratch register leaves the frames as they are
pub scratch_store : (rd w : ℕ) (v u : View) → rd < 4 → StandsIn rd w v u → store_of u ≡ store_of v
scratch_store rd w v u l r =
    same_store v u (r.others 4 (omega arith) (omega arith) (λ e. omega arith)) (r.others 5 (omega arith) (omega arith) (λ e. omega arith))
    (r.others 6 (omega arith) (omega arith) (λ e. omega arith)) (r.others 7 (omega arith) (omega arith) (λ e. omega arith)) r.words

result_at : (d w i : ℕ) (v u : View) → length v.low ≡ 13 → d < 8 → StandsIn d w v u → 4 ≤ i → i < 8 → slice_index u.low i ≡ slice_index (with_low d w v).low i
result_at d w i v u n k r l m = elim (cases_eq i d) [
  | inl s ↦ ap (slice_index u.low) s ∙ (r.word_is ∙ (sym (get_or-set_same v.low d w 0 (omega arith)) ∙ ap (slice_index (with_low d w v).low) (sym s)))
  | inr b ↦ r.others i l m b ∙ sym (get_or-set_other v.low d i w 0 b)
]

-- it is what with_low does to the frames
pub result_store : (d w : ℕ) (v u : View) → length v.low ≡ 13 → d < 8 → StandsIn d w v u → store_of u ≡ store_of (with_low d w v)
result_store d w v u n k r =
    same_store (with_low d w v) u (result_at d w 4 v u n k r (omega arith) (omega arith)) (result_at d w 5 v u n k r (omega arith) (omega arith))
    (result_at d w 6 v u n k r (omega arith) (omega arith)) (result_at d w 7 v u n k r (omega arith) (omega arith)) r.words

pub keeps_flows : (flash : List ℕ) (p : Places) (f : Function) (b : Bool) (q : Place) (w : ℕ) (v u : View) → IsWithin f q → IsRoom f (store_of v)
    → StandsIn (result_in b q) w v u → w < 2 ^ 32 → Flows flash p (keeps f b q) u (kept_view f b q w u)
keeps_flows flash p f true q w v u i h x m = OfLabel (3 * length f.ops + 1) u
keeps_flows flash p f false (Reg r) w v u i h x m = OfLabel (3 * length f.ops + 1) u
keeps_flows flash p f false (Slot j) w v u i h x m = puts flash p f (Slot j) 0 w u (omega arith) i (subst (IsRoom f) (sym (scratch_store 0 w v u (omega arith) x)) h) x.word_is m
keeps_flows flash p f false (Incoming j) w v u i h x m = puts flash p f (Incoming j) 0 w u (omega arith) i (subst (IsRoom f) (sym (scratch_store 0 w v u (omega arith) x)) h) x.word_is m

pub store_kept : (f : Function) (b : Bool) (q : Place) (w : ℕ) (v u : View) → IsWithin f q → length v.low ≡ 13 → StandsIn (result_in b q) w v u
    → store_of (kept_view f b q w u) ≡ put_result f b q w (store_of v)
store_kept f true q w v u i n x = scratch_store 0 w v u (omega arith) x
store_kept f false (Reg r) w v u i n x = result_store r w v u n (let a = i.1 in omega arith) x ∙ store_put f (Reg r) w v i n
store_kept f false (Slot j) w v u i n x = ap (put f (Slot j) w) (scratch_store 0 w v u (omega arith) x)
store_kept f false (Incoming j) w v u i n x = ap (put f (Incoming j) w) (scratch_store 0 w v u (omega arith) x)

pub kept_low : (f : Function) (b : Bool) (q : Place) (w : ℕ) (u : View) → length u.low ≡ 13 → length (kept_view f b q w u).low ≡ 13
kept_low f true q w u n = n
kept_low f false (Reg r) w u n = n
kept_low f false (Slot j) w u n = n
kept_low f false (Incoming j) w u n = n

pub kept_shared : (f : Function) (b : Bool) (q : Place) (w : ℕ) (u : View) → ((kept_view f b q w u).globals ≡ u.globals) × ((kept_view f b q w u).arena ≡ u.arena)
kept_shared f true q w u = (refl, refl)
kept_shared f false (Reg r) w u = (refl, refl)
kept_shared f false (Slot j) w u = (refl, refl)
kept_shared f false (Incoming j) w u = (refl, refl)

-- LAND: what is seen behind the piece that takes a result from r0 to its place, unless nobody reads it
abbrev pub landed_view : Function → Bool → Place → ℕ → View → View
landed_view f true q w u = u
landed_view f false q w u = put_view f q w u

pub lands_flows : (flash : List ℕ) (p : Places) (f : Function) (b : Bool) (q : Place) (w : ℕ) (u : View) → IsWithin f q → IsRoom f (store_of u)
    → (b ≡ false → slice_index u.low 0 ≡ w) → w < 2 ^ 32 → Flows flash p (lands f b q) u (landed_view f b q w u)
lands_flows flash p f true q w u i h e m = OfLabel (3 * length f.ops + 1) u
lands_flows flash p f false q w u i h e m = puts flash p f q 0 w u (omega arith) i h (e refl) m

pub store_landed : (f : Function) (b : Bool) (q : Place) (w : ℕ) (u : View) → IsWithin f q → length u.low ≡ 13
    → store_of (landed_view f b q w u) ≡ put_result f b q w (store_of u)
store_landed f true q w u i n = refl
store_landed f false q w u i n = store_put f q w u i n

pub landed_low : (f : Function) (b : Bool) (q : Place) (w : ℕ) (u : View) → length u.low ≡ 13 → length (landed_view f b q w u).low ≡ 13
landed_low f true q w u n = n
landed_low f false q w u n = put_low f q w u n

pub landed_shared : (f : Function) (b : Bool) (q : Place) (w : ℕ) (u : View)
    → ((landed_view f b q w u).globals ≡ u.globals) × ((landed_view f b q w u).arena ≡ u.arena)
landed_shared f true q w u = (refl, refl)
landed_shared f false q w u = put_shared f q w u

pub same_kept : (i : ℕ) (m v : View) → store_of m ≡ store_of v → 4 ≤ i → i < 8 → slice_index m.low i ≡ slice_index v.low i
same_kept i m v e a b = sym (kept_is m i a (omega arith)) ∙ (ap (λ (q : Store). slice_index q.kept (i - 4)) e ∙ kept_is v i a (omega arith))

-- a result over a view with the same frames
pub result_over : (d w : ℕ) (v u m : View) → store_of u ≡ store_of v → StandsIn d w u m → StandsIn d w v m
result_over d w v u m e r = record {
  low = r.low;
  word_is = r.word_is;
  others = λ i a b c. r.others i a b c ∙ same_kept i u v e a b;
  words = r.words ∙ ap (λ (q : Store). q.words) e;
}

-- a register of a view with the same frames is set
pub result_set : (d w : ℕ) (v m u : View) → d < 8 → store_of m ≡ store_of v → length m.low ≡ 13 → u.low ≡ slice_set m.low d w → u.words ≡ m.words → StandsIn d w v u
result_set d w v m u l e n s k = record {
  low = ap length s ∙ (length-set m.low d w ∙ n);
  word_is = ap (λ q. slice_index q d) s ∙ get_or-set_same m.low d w 0 (omega arith);
  others = λ i a b c. ap (λ q. slice_index q i) s ∙ (get_or-set_other m.low d i w 0 c ∙ same_kept i m v e a b);
  words = k ∙ ap (λ (q : Store). q.words) e;
}

-- COPY: a word goes from a place to another
pub record Copied (flash : List ℕ) (p : Places) (f : Function) (b : Bool) (q from : Place) (w : ℕ) (v : View) : Type 0 where
  pub seen : View
  pub flow : AllFlow flash p (copies f b q from) v seen
  pub some : 0 < steps_of (copies f b q from)
  pub store : store_of seen ≡ put_result f b q w (store_of v)
  pub low : length seen.low ≡ 13
  pub globals : seen.globals ≡ v.globals
  pub arena : seen.arena ≡ v.arena

-- to a word of the frame
copied_down : (flash : List ℕ) (p : Places) (f : Function) (q from : Place) (w : ℕ) (v : View) → IsWithin f q → IsWithin f from → IsRoom f (store_of v)
    → length v.low ≡ 13 → get f from (store_of v) ≡ w → w < 2 ^ 32
    → (u : View) × AllFlow flash p (brings f 0 from ∷ to_place f (register_of 0 from) q ∷ []) v u × (store_of u ≡ put f q w (store_of v)) × (length u.low ≡ 13)
    × (u.globals ≡ v.globals) × (u.arena ≡ v.arena)
copied_down flash p f q from w v i k h n e m =
    let u = brought 0 from w v in
    let es : store_of u ≡ store_of v = brought_store from 0 w v (omega arith) in
    let nu = brought_length from 0 w v.low ∙ n in
    let s = put_shared f q w u in (
      put_view f q w u,
      (
        u,
        brings_flows flash p f from 0 w v (omega arith) k h e m,
        (
          put_view f q w u,
          puts flash p f q (register_of 0 from) w u (register_small f from 0 (omega arith) k) i (subst (IsRoom f) (sym es) h)
              (brought_word f from 0 w v (omega arith) k n e) m,
          refl,
        ),
      ),
      store_put f q w u i nu ∙ ap (put f q w) es,
      put_low f q w u nu,
      s.0,
      s.1,
    )

pub copied : (flash : List ℕ) (p : Places) (f : Function) (b : Bool) (q from : Place) (w : ℕ) (v : View) → IsWithin f q → IsWithin f from → IsRoom f (store_of v)
    → length v.low ≡ 13 → get f from (store_of v) ≡ w → w < 2 ^ 32 → Copied flash p f b q from w v
copied flash p f true q from w v i k h n e m = record {
  seen = with_low 0 w v;
  flow = (with_low 0 w v, gets flash p f from 0 w v (omega arith) k h e m, (with_low 0 w v, OfLabel (3 * length f.ops + 1) (with_low 0 w v), refl));
  some = omega arith;
  store = store_low 0 w v (omega arith);
  low = length-set v.low 0 w ∙ n;
  globals = refl;
  arena = refl;
}
copied flash p f false (Reg r) from w v i k h n e m = record {
  seen = with_low r w v;
  flow = (with_low r w v, gets flash p f from r w v (let a = i.1 in omega arith) k h e m, (with_low r w v, OfLabel (3 * length f.ops + 1) (with_low r w v), refl));
  some = omega arith;
  store = store_put f (Reg r) w v i n;
  low = length-set v.low r w ∙ n;
  globals = refl;
  arena = refl;
}
copied flash p f false (Slot j) from w v i k h n e m =
    let d = copied_down flash p f (Slot j) from w v i k h n e m in
    record { seen = d.0; flow = d.1; some = omega arith; store = d.2; low = d.3; globals = d.4; arena = d.5 }
copied flash p f false (Incoming j) from w v i k h n e m =
    let d = copied_down flash p f (Incoming j) from w v i k h n e m in
    record { seen = d.0; flow = d.1; some = omega arith; store = d.2; low = d.3; globals = d.4; arena = d.5 }
