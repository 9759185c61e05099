-- A flash that has the code of sound pieces holds the pieces.
use Rattle.std.proofs.Common.{zero, suc, ◌≡◌, ℕ, ◌+◌, ◌*◌, ◌-◌, ◌/◌, ◌%◌, ◌^◌, ◌<◌, ◌≤◌, List, [], ◌∷◌, ◌++◌, length, get_or, Bool, true, false, cond, Option, Some, None, refl, sym, ap, ◌∙◌, subst, arith, ◌==◌, slice_get}
use Rattle.std.proofs.lemmas.Bool.Decides.{nat_tests}
use Rattle.thumb_code.specs.declared.instructions.Instr.{Instr}
use Rattle.thumb_code.specs.declared.instructions.Instr.TheVariants.{MovImm, LdrPc, BCond, B, Bl}
use Rattle.thumb_code.specs.RegisterFile.{word}
use Rattle.thumb_code.specs.Map.{is_base, flash_end, flash_byte, flash_word}
use Rattle.thumb_code.specs.Step.{Fetched, fetched}
use Rattle.thumb_layout.specs.declared.pieces.What.{What}
use Rattle.thumb_layout.specs.declared.pieces.Piece.{Piece}
use Rattle.thumb_layout.specs.declared.pieces.Piece.TheVariants.{Plain, Label, Go, CallTo, Number, Address}
use Rattle.thumb_layout.specs.declared.pieces.Entry.TheVariants.{Value, Of}
use Rattle.thumb_layout.specs.declared.laid.Fix.{Fix}
use Rattle.thumb_layout.specs.declared.laid.Laid.{Laid}
use Rattle.thumb_layout.specs.Pieces.{Places, goes_on, is_small}
use Rattle.thumb_layout.specs.Soundness.{IsSoundPiece, IsSound, HasWords, times}
use Rattle.thumb_layout.specs.Layout.{Wait, Chunk, loads_at, counts_from, over_pool, end_of, put, chunk, form_of, rest_of, pass, nth, label_at, label_index}
use Rattle.thumb_layout.specs.Rounds.{forms, layout, bytes_of}
use Rattle.thumb_layout.specs.Cells.{Cell, Ins, Word, Gap, spelled, cell_bytes, nothing, gap, words, pool, offset, over, opposite, branch, piece_cells, last_entry, cells, cells_of, laid}
use Rattle.thumb_layout.specs.Holds.{Stands, Enters, AtOnce, Over, Branches, Short, Middle, Far, Always, AlwaysFar, loaded_from, Loads, Numbers, Small, Large, PieceAt, Holds}
use Rattle.thumb_layout.specs.Flash.{IsOutside, AreFixed, HasCode, form_at, link_by, places}
use Rattle.thumb_layout.proofs.Chunks.{Test, chunk_by, entered}
use Rattle.thumb_layout.proofs.Settling.{forms_proper}
use Rattle.thumb_layout.proofs.Lengths.{entered_within}
use Rattle.thumb_layout.proofs.Near.{Near}
use Rattle.thumb_layout.proofs.Fitting.{cells_fit}
use Rattle.thumb_layout.proofs.Emitting.{laid_long}
use Rattle.thumb_layout.proofs.Writing.{plain_half}
use Rattle.thumb_layout.proofs.Bytes.{ShowsCell, ShowsFrom, ValuesFit, ValueFits, bytes_in, fixes_in, written_bytes, written_fixes, cells_shown}
use Rattle.thumb_layout.proofs.Shown.{at_of, moved_offset, PieceFact, EachPiece, pass_told}

-- the values of pools come from pieces

values_append : (xs ys : List Cell) → ValuesFit xs → ValuesFit ys → ValuesFit (xs ++ ys)
values_append [] ys h k = k
values_append (x ∷ xs) ys h k = (h.0, values_append xs ys h.1 k)

abbrev WaitsFit : List Wait → Type 0
WaitsFit [] = Unit {0}
WaitsFit (w ∷ ws) = ValueFits (Word w.entry) × WaitsFit ws

waits_append : (ws vs : List Wait) → WaitsFit ws → WaitsFit vs → WaitsFit (ws ++ vs)
waits_append [] vs h k = k
waits_append (w ∷ ws) vs h k = (h.0, waits_append ws vs h.1 k)

values_words : (ws : List Wait) → WaitsFit ws → ValuesFit (words ws)
values_words [] h = tt
values_words (w ∷ ws) h = (h.0, values_words ws h.1)

values_gap : (b : Bool) → ValuesFit (cond b [] (Gap ∷ []))
values_gap true = tt
values_gap false = (tt, tt)

values_pool : (at : ℕ) (ws : List Wait) → WaitsFit ws → ValuesFit (pool at ws)
values_pool at [] h = tt
values_pool at (w ∷ ws) h = values_append (gap at) (words (w ∷ ws)) (values_gap (at % 4 == 0)) (values_words (w ∷ ws) h)

values_over : (at to : ℕ) (ws : List Wait) → WaitsFit ws → ValuesFit (over at to ws)
values_over at to [] h = tt
values_over at to (w ∷ ws) h = (tt, values_pool (at + 2) (w ∷ ws) h)

values_branch : (c f at to : ℕ) → ValuesFit (branch c f at to)
values_branch c f at to = by (c == 14) (f == 0) (f == 1)
  where
    by : (p q r : Bool) → ValuesFit (cond p (cond q (Ins (B (offset at to)) ∷ []) (Ins (Bl (offset at to)) ∷ []))
        (cond q (Ins (BCond c (offset at to)) ∷ []) (cond r (Ins (BCond (opposite c) (offset at (at + 4))) ∷ Ins (B (offset (at + 2) to)) ∷ []) (Ins (BCond (opposite c) (offset at (at + 6))) ∷ Ins (Bl (offset (at + 2) to)) ∷ []))))
    by true true r = (tt, tt)
    by true false r = (tt, tt)
    by false true r = (tt, tt)
    by false false true = (tt, (tt, tt))
    by false false false = (tt, (tt, tt))

values_number : (x y : Cell) (b : Bool) → ValueFits x → ValueFits y → ValuesFit (cond b (x ∷ []) (y ∷ []))
values_number x y true h k = (h, tt)
values_number x y false h k = (k, tt)

values_piece : (to : ℕ → ℕ) (x : Piece) (f b q : ℕ) → ValuesFit (piece_cells to x f b q)
values_piece to (Plain x) f b q = (tt, tt)
values_piece to (Label l) f b q = tt
values_piece to (Go c l) f b q = values_branch c f b (to l)
values_piece to (CallTo g) f b q = (tt, tt)
values_piece to (Number rd v) f b q = values_number _ _ (is_small v) tt tt
values_piece to (Address rd w) f b q = (tt, tt)

loads_fit : (x : Piece) (a : ℕ) → ((rd v : ℕ) → x ≡ Number rd v → v < 2 ^ 32) → WaitsFit (loads_at x a)
loads_fit (Plain x) a h = tt
loads_fit (Label l) a h = tt
loads_fit (Go c l) a h = tt
loads_fit (CallTo g) a h = tt
loads_fit (Number rd v) a h = by (is_small v) (h rd v refl)
  where
    by : (b : Bool) → v < 2 ^ 32 → WaitsFit (cond b [] (record { at = a; entry = Value v } ∷ []))
    by true l = tt
    by false l = (l, tt)
loads_fit (Address rd w) a h = (tt, tt)

-- of a chunk the loads before, after and behind it

record Fitting (c : Chunk) : Type 0 where
  before : WaitsFit c.before
  after : WaitsFit c.after
  waiting : WaitsFit c.waiting

put_fitting : (g : Bool) (x : Piece) (f at b : ℕ) (before ws : List Wait) → WaitsFit before → WaitsFit (ws ++ loads_at x b) → Fitting (put g x f at b before ws)
put_fitting true x f at b before ws h k = record { before = h; after = tt; waiting = k }
put_fitting false x f at b before ws h k = record { before = h; after = k; waiting = tt }

chunk_fitting_by : (t : Bool) (x : Piece) (f : ℕ) (ws : List Wait) (at : ℕ) → ((rd v : ℕ) → x ≡ Number rd v → v < 2 ^ 32) → WaitsFit ws → Fitting (chunk_by t (goes_on x) x f ws at)
chunk_fitting_by true x f ws at n h = put_fitting (goes_on x) x f at at [] ws tt (waits_append ws (loads_at x at) h (loads_fit x at n))
chunk_fitting_by false x f ws at n h = put_fitting (goes_on x) x f at (over_pool (at + 2) ws) ws [] h (loads_fit x (over_pool (at + 2) ws) n)

pass_values : (to : ℕ → ℕ) (xs : List Piece) (fs : List ℕ) → ((i : ℕ) (rd v : ℕ) → slice_get xs i ≡ Some (Number rd v) → v < 2 ^ 32) → (ws : List Wait) (at : ℕ) → WaitsFit ws → ValuesFit (cells to xs fs (pass xs fs ws at))
pass_values to [] fs n ws at h = values_pool at ws h
pass_values to (x ∷ xs) fs n ws at h =
    let f = form_of fs in
    let c = chunk x f ws at in
    let cs = pass xs (rest_of fs) c.waiting (end_of c) in
    let g : Fitting c = chunk_fitting_by (Test x f ws at) x f ws at (λ rd v e. n 0 rd v (ap (λ q. Some q) e)) h in
    let own = piece_cells to x f c.body (last_entry c cs) in
    let later = cells to xs (rest_of fs) cs in
    values_append (over c.at c.body c.before) (own ++ (pool c.behind c.after ++ later)) (values_over c.at c.body c.before g.before)
    (values_append own (pool c.behind c.after ++ later) (values_piece to x f c.body (last_entry c cs))
    (values_append (pool c.behind c.after) later (values_pool c.behind c.after g.after) (pass_values to xs (rest_of fs) (λ i rd v e. n (suc i) rd v e) c.waiting (end_of c) g.waiting)))

-- a label's index is that of a label

abbrev or_piece : Piece → Option Piece → Piece
or_piece d None = d
or_piece d (Some x) = x

label_found_by : (k l : ℕ) (xs : List Piece) (b : Bool) → (k == l) ≡ b → cond b 1 0 + times l xs ≡ 1 → (times l xs ≡ 1 → slice_get xs (label_index xs l) ≡ Some (Label l)) → slice_get (Label k ∷ xs) (cond b 0 (suc (label_index xs l))) ≡ Some (Label l)
label_found_by k l xs true e t h = let z : k ≡ l = grind (arith, nat_tests) in ap (λ q. Some (Label q)) z
label_found_by k l xs false e t h = h (omega arith)

label_found : (xs : List Piece) (l : ℕ) → times l xs ≡ 1 → slice_get xs (label_index xs l) ≡ Some (Label l)
label_found [] l t = absurd (omega arith)
label_found (Label k ∷ xs) l t = label_found_by k l xs (k == l) refl t (label_found xs l)
label_found (Plain x ∷ xs) l t = label_found xs l t
label_found (Go c m ∷ xs) l t = label_found xs l t
label_found (CallTo m ∷ xs) l t = label_found xs l t
label_found (Number rd v ∷ xs) l t = label_found xs l t
label_found (Address rd w ∷ xs) l t = label_found xs l t

module _ (flash : List ℕ) (base : ℕ) (entry : ℕ → ℕ) (word_of : What → ℕ) (b : ℕ) (total : ℕ) where
  abbrev Shows : ℕ → List Cell → Type 0
  Shows a cs = ShowsFrom flash base entry word_of b a cs

  abbrev fetch : ℕ → Fetched
  fetch = fetched flash b

  stand_as : (a n n' : ℕ) (x : Instr) → n ≡ n' → Stands (fetched flash b) a x n → Stands (fetched flash b) a x n'
  stand_as a n n' x e h = subst (λ q. Stands (fetched flash b) a x q) e h

  branch_shown : (c f a t behind : ℕ) (link : ℕ → ℕ) → base + a + 8 < 2 ^ 20 → base + t < 2 ^ 20 → c ≤ 14 → behind ≡ a + (2 + 2 * f) → f ≤ cond (c == 14) 1 2
      → ((old : ℕ) → link old ≡ (cond (c == 14) (cond (f == 0) old (word (base + behind + 1))) (cond (f == 0) old (cond (f == 1) old (word (base + behind + 1))))))
      → (q : Bool) → (c == 14) ≡ q → Shows a (branch c f a t) → Branches (fetched flash b) (base + a) c (base + t) (base + behind) link
  branch_shown c zero a t behind link hb ht hc e fl lk true u h =
      let z : c ≡ 14 = grind (arith, nat_tests) in let g = rw u at h in
      Always (offset a t) z (stand_as (base + a) (base + a + 2) (base + behind) (B (offset a t)) (omega arith) g.0) (moved_offset base a t (omega arith) ht) (λ old. rw u at (lk old))
  branch_shown c (suc zero) a t behind link hb ht hc e fl lk true u h =
      let z : c ≡ 14 = grind (arith, nat_tests) in let g = rw u at h in
      AlwaysFar (offset a t) z (stand_as (base + a) (base + a + 4) (base + behind) (Bl (offset a t)) (omega arith) g.0) (moved_offset base a t (omega arith) ht) (λ old. rw u at (lk old))
  branch_shown c (suc (suc f)) a t behind link hb ht hc e fl lk true u h = let y = rw u at fl in absurd (omega arith)
  branch_shown c zero a t behind link hb ht hc e fl lk false u h =
      let z : c < 14 = grind (arith, nat_tests) in let g = rw u at h in
      Short (offset a t) z (stand_as (base + a) (base + a + 2) (base + behind) (BCond c (offset a t)) (omega arith) g.0) (moved_offset base a t (omega arith) ht) (λ old. rw u at (lk old))
  branch_shown c (suc zero) a t behind link hb ht hc e fl lk false u h =
      let z : c < 14 = grind (arith, nat_tests) in let g = rw u at h in
      Middle (offset a (a + 4)) (offset (a + 2) t) (base + (a + 2)) z (stand_as (base + a) (base + a + 2) (base + (a + 2)) (BCond (opposite c) (offset a (a + 4))) (omega arith) g.0) (moved_offset base a (a + 4) (omega arith) (omega arith) ∙ omega arith)
      (stand_as (base + (a + 2)) (base + (a + 2) + 2) (base + behind) (B (offset (a + 2) t)) (omega arith) (g.1).0) (moved_offset base (a + 2) t (omega arith) ht) (λ old. rw u at (lk old))
  branch_shown c (suc (suc zero)) a t behind link hb ht hc e fl lk false u h =
      let z : c < 14 = grind (arith, nat_tests) in let g = rw u at h in
      Far (offset a (a + 6)) (offset (a + 2) t) (base + (a + 2)) z (stand_as (base + a) (base + a + 2) (base + (a + 2)) (BCond (opposite c) (offset a (a + 6))) (omega arith) g.0) (moved_offset base a (a + 6) (omega arith) (omega arith) ∙ omega arith)
      (stand_as (base + (a + 2)) (base + (a + 2) + 4) (base + behind) (Bl (offset (a + 2) t)) (omega arith) (g.1).0) (moved_offset base (a + 2) t (omega arith) ht) (λ old. rw u at (lk old))
  branch_shown c (suc (suc (suc f))) a t behind link hb ht hc e fl lk false u h = let y = rw u at fl in absurd (omega arith)

  enters_by : (at body : ℕ) (ws : List Wait) → base + at < 2 ^ 20 → base + body < 2 ^ 20 → body ≡ entered at ws → Shows at (over at body ws) → Enters (fetched flash b) (base + at) (base + body)
  enters_by at body [] h k e s = AtOnce (ap (λ q. base + q) (sym e))
  enters_by at body (w ∷ ws) h k e s = Over (offset at body) (base + at + 2) s.0 (moved_offset base at body h k)

  loads_from : (rd a behind v q : ℕ) (w : Wait) → w.at ≡ a → base % 4 ≡ 0 → base + a + 8 < 2 ^ 20 → behind ≡ a + 2 → Near q w → (base + q < 262144) × (flash_word flash (base + q) ≡ v) → Stands (fetched flash b) (base + a) (LdrPc rd ((q - counts_from a) / 4)) (base + a + 2)
      → Loads (fetched flash b) flash (base + a) rd v (base + behind)
  loads_from rd a behind v q w ea four hb e n g s =
      let l = n.0 in let q4 = n.1 in let r = g.0 in
      let z : word (loaded_from (base + a) ((q - counts_from a) / 4)) ≡ base + q = omega arith in
      record {
        imm = (q - counts_from a) / 4;
        stands = stand_as (base + a) (base + a + 2) (base + behind) (LdrPc rd ((q - counts_from a) / 4)) (omega arith) s;
        inside = rw z r;
        whole = rw z (omega arith);
        entry = rw z g.1;
      }

  number_from : (rd v a behind q : ℕ) → base % 4 ≡ 0 → base + a + 8 < 2 ^ 20 → behind ≡ a + 2 → (n : Bool) → is_small v ≡ n
      → ((w : Wait) → cond {A = List Wait} n [] (record { at = a; entry = Value v } ∷ []) ≡ w ∷ [] → Near q w × ShowsCell flash base entry word_of b q (Word w.entry))
      → Shows a (cond n (Ins (MovImm rd v) ∷ []) (Ins (LdrPc rd ((q - counts_from a) / 4)) ∷ [])) → Numbers (fetched flash b) flash (base + a) rd v (base + behind)
  number_from rd v a behind q four hb e true u k h = Small u (stand_as (base + a) (base + a + 2) (base + behind) (MovImm rd v) (omega arith) h.0)
  number_from rd v a behind q four hb e false u k h =
      let w : Wait = record { at = a; entry = Value v } in
      let g = k w refl in
      Large u (loads_from rd a behind v q w refl four hb e g.0 g.1 h.0)

  -- a piece, from what is known of its chunk
  piece_from : (p : Places) (i : ℕ) (to : ℕ → ℕ) (x : Piece) (f : ℕ) (c : Chunk) (q : ℕ) → IsSoundPiece x → base % 4 ≡ 0 → base + total ≤ 262144 → p.at i ≡ base + c.at → p.behind i ≡ base + c.behind
      → ((cn l : ℕ) → x ≡ Go cn l → (p.at (p.label l) ≡ base + to l) × (to l ≤ total))
      → ((cn l old : ℕ) → x ≡ Go cn l → p.link i old ≡ cond (cn == 14) (cond (f == 0) old (word (base + c.behind + 1))) (cond (f == 0) old (cond (f == 1) old (word (base + c.behind + 1)))))
      → p.entry ≡ entry → p.word_of ≡ word_of → PieceFact flash base entry word_of b total x f c q to → PieceAt (fetched flash b) flash p i (base + c.body) x
  piece_from p i to (Plain x) f c q s four t ea eb go lk ee ew h =
      let w : length (cell_bytes (Ins x)) ≡ 2 = ap (λ z. length (spelled z)) (plain_half x s.1) in
      let z = h.behind_is in
      stand_as (base + c.body) (base + c.body + length (cell_bytes (Ins x))) (p.behind i) x (omega arith) (h.shows).0
  piece_from p i to (Label l) f c q s four t ea eb go lk ee ew h = let k = h.label l refl in let z = h.behind_is in (omega arith, omega arith)
  piece_from p i to (Go cn l) f c q s four t ea eb go lk ee ew h =
      let g = go cn l refl in let r = h.room in let z = h.behind_is in
      subst (λ n. Branches (fetched flash b) (base + c.body) cn n (p.behind i) (p.link i)) (sym g.0)
      (subst (λ n. Branches (fetched flash b) (base + c.body) cn (base + to l) n (p.link i)) (sym eb)
      (branch_shown cn f c.body (to l) c.behind (p.link i) (omega arith) (let y = g.1 in omega arith) s h.behind_is h.small (λ old. lk cn l old refl) (cn == 14) refl h.shows))
  piece_from p i to (CallTo k) f c q s four t ea eb go lk ee ew h =
      let g = (h.shows).0 in let z = h.behind_is in
      (g.0, stand_as (base + c.body) (base + c.body + 4) (p.behind i) (Bl g.0) (omega arith) g.1, g.2 ∙ ap (λ y. y k) (sym ee))
  piece_from p i to (Number rd v) f c q s four t ea eb go lk ee ew h =
      let r = h.room in let z = h.behind_is in
      subst (λ n. Numbers (fetched flash b) flash (base + c.body) rd v n) (sym eb) (number_from rd v c.body c.behind q four (omega arith) z (is_small v) refl h.near h.shows)
  piece_from p i to (Address rd w) f c q s four t ea eb go lk ee ew h =
      let r = h.room in let z = h.behind_is in
      let y : Wait = record { at = c.body; entry = Of w } in
      let g = h.near y refl in
      subst (λ n. Loads (fetched flash b) flash (base + c.body) rd (p.word_of w) n) (sym eb)
      (subst (λ n. Loads (fetched flash b) flash (base + c.body) rd (n w) (base + c.behind)) (sym ew) (loads_from rd c.body c.behind (word_of w) q y refl four (omega arith) z g.0 g.1 (h.shows).0))

  abbrev Fact : (ℕ → ℕ) → List ℕ → List Chunk → ℕ → Piece → Type 0
  Fact to fs cs i x = (q : ℕ) × PieceFact flash base entry word_of b total x (form_at fs i) (nth cs i) q to × (goes_on x ≡ true → (nth cs i).behind ≡ (nth cs (suc i)).at)

  at_first : (cs : List Chunk) → at_of flash base entry word_of b total cs ≡ (nth cs 0).at
  at_first [] = refl
  at_first (c ∷ cs) = refl

  each_at : (to : ℕ → ℕ) (xs : List Piece) (fs : List ℕ) (cs : List Chunk) → EachPiece flash base entry word_of b total to xs fs cs → (i : ℕ) (x : Piece) → slice_get xs i ≡ Some x → Fact to fs cs i x
  each_at to [] fs cs h i x e = absurd cc
  each_at to (y ∷ xs) fs [] h i x e = elim h [ ]
  each_at to (y ∷ xs) fs (c ∷ cs) h zero x e = subst (λ q. Fact to fs (c ∷ cs) 0 q) (ap (or_piece y) e) (last_entry c cs, h.0, λ g. h.1 g ∙ at_first cs)
  each_at to (y ∷ xs) fs (c ∷ cs) h (suc i) x e = each_at to xs (rest_of fs) cs h.2 i x e

same_laid : (l : Laid) (bs : List ℕ) (fs : List Fix) → l.bytes ≡ bs → l.fixes ≡ fs → l ≡ record { bytes = bs; fixes = fs }
same_laid l bs fs a b =
    let f : List ℕ → Laid = λ q. record { bytes = q; fixes = l.fixes } in
    let g : List Fix → Laid = λ q. record { bytes = bs; fixes = q } in
    ap f a ∙ ap g b

-- the code, as its cells' bytes
laid_is : (xs : List Piece) → laid xs ≡ record { bytes = bytes_in (cells_of xs); fixes = fixes_in 0 (cells_of xs) }
laid_is xs = same_laid (laid xs) (bytes_in (cells_of xs)) (fixes_in 0 (cells_of xs)) (written_bytes nothing (cells_of xs)) (written_fixes nothing (cells_of xs))

zero_add : (base k : ℕ) → base + (0 + k) ≡ base + k
zero_add base k = omega arith

outside_zero : (k : ℕ) (fs : List Fix) → IsOutside (0 + k) fs → IsOutside k fs
outside_zero k fs o = let z : 0 + k ≡ k = omega arith in subst (λ q. IsOutside q fs) z o

-- A flash that has the code holds the pieces.
pub code_holds : (flash : List ℕ) (base b : ℕ) (entry : ℕ → ℕ) (word_of : What → ℕ) (xs : List Piece) → IsSound xs → HasWords xs → is_base b ≡ true → base % 4 ≡ 0 → base + length (laid xs).bytes ≤ flash_end
    → HasCode flash base entry word_of (laid xs) → Holds (fetched flash b) flash (places base entry word_of xs) xs
code_holds flash base b entry word_of xs s words hb four room h =
    let n = laid_long xs s in
    let total = bytes_of xs in
    let fs = forms xs in
    let cs = layout xs in
    let to = label_at xs cs in
    let code = cells_of xs in
    let bytes_are : (laid xs).bytes ≡ bytes_in code = written_bytes nothing code in
    let fixes_are : (laid xs).fixes ≡ fixes_in 0 code = written_fixes nothing code in
    let m = ap length bytes_are in
    let fit = cells_fit xs s (omega arith) in
    let values = pass_values to xs fs words [] 0 tt in
    let bytes' = subst (λ (q : Laid). (k : ℕ) → k < length q.bytes → IsOutside k q.fixes → flash_byte flash (base + k) ≡ get_or q.bytes k 0) (laid_is xs) h.bytes in
    let shown = cells_shown flash base entry word_of b code 0 hb (omega arith) (omega arith) fit values
    (λ k l o. ap (flash_byte flash) (zero_add base k) ∙ bytes' k l (outside_zero k (fixes_in 0 code) o)) (subst (λ q. AreFixed flash base entry word_of q) fixes_are h.fixes) in
    let told = (pass_told flash base entry word_of b total to xs fs s.each ((forms_proper xs).limited) [] 0 refl tt tt (omega arith) shown).1 in
    let fact = each_at flash base entry word_of b total to xs fs cs told in
    record {
      each = λ i x e. (
          let g = fact i x e in
          let f = g.1 in
          let r = f.room in let y = f.behind_is in let ar = f.at_room in (
            base + (nth cs i).body,
            enters_by flash base entry word_of b total (nth cs i).at (nth cs i).body (nth cs i).before (omega arith) (omega arith) f.body_is f.over,
            piece_from flash base entry word_of b total (places base entry word_of xs) i to x (form_at fs i) (nth cs i) g.0 (s.each i x e) four (omega arith) refl refl
                (λ cn l z. (refl, (entered_within xs fs [] 0 refl tt (label_index xs l)).1))
                (λ cn l old z. ap (λ q. link_by q (form_at fs i) (base + (nth cs i).behind) old) (e ∙ ap (λ q. Some q) z))
                refl refl f,
          ));
      next = λ i x e o. (let f = (fact i x e).2 o in let z : suc i ≡ i + 1 = omega arith in ap (λ q. base + q) f ∙ ap (λ q. base + (nth cs q).at) z);
      labels = λ i c l e. label_found xs l (s.labels i c l e);
    }
