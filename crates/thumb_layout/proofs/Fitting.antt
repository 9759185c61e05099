-- Every instruction that is laid has its fields in range.
use Rattle.std.proofs.Common.{zero, suc, ◌≡◌, ℕ, ◌+◌, ◌-◌, ◌/◌, ◌%◌, ◌^◌, ◌<◌, ◌≤◌, List, [], ◌∷◌, ◌++◌, length, Bool, true, false, cond, ◌&&◌, nat_lt, Some, refl, sym, ap, ◌∙◌, subst, arith, ◌==◌, slice_get}
use Rattle.std.proofs.lemmas.Bool.Decides.{nat_tests}
use Rattle.thumb_code.specs.declared.instructions.Instr.TheVariants.{MovImm, LdrPc, BCond, B, Bl}
use Rattle.thumb_code.specs.RegisterFile.{is_odd}
use Rattle.thumb_code.specs.Table.{Fits, IsOffset}
use Rattle.thumb_layout.specs.declared.pieces.Piece.{Piece}
use Rattle.thumb_layout.specs.declared.pieces.Piece.TheVariants.{Plain, Label, Go, CallTo, Number, Address}
use Rattle.thumb_layout.specs.declared.pieces.Entry.TheVariants.{Value, Of}
use Rattle.thumb_layout.specs.Pieces.{is_small}
use Rattle.thumb_layout.specs.Soundness.{IsSoundPiece, IsSound}
use Rattle.thumb_layout.specs.Layout.{Wait, Chunk, up, counts_from, end_of, chunk, pass, label_at, label_index}
use Rattle.thumb_layout.specs.Rounds.{is_within, branch_fits, fits, AllFit, AllReach, forms, layout, bytes_of}
use Rattle.thumb_layout.specs.Cells.{Cell, Ins, Gap, gap, words, pool, offset, over, opposite, branch, piece_cells, pools, first, last_entry, cells, cells_of, CellsFit}
use Rattle.thumb_layout.proofs.Chunks.{chunk_reach, stops, Behind, Stood, chunk_stood, entered}
use Rattle.thumb_layout.proofs.Settling.{forms_proper, branches_fit}
use Rattle.thumb_layout.proofs.Lengths.{end_by, pass_least, entered_within}
use Rattle.thumb_layout.proofs.Near.{Near, NearFrom, finds, own_entry, pool_short, offset9, offset12, offset25}

pub fit_append : (xs ys : List Cell) → CellsFit xs → CellsFit ys → CellsFit (xs ++ ys)
fit_append [] ys h k = k
fit_append (x ∷ xs) ys h k = (h.0, fit_append xs ys h.1 k)

pub fit_left : (xs ys : List Cell) → CellsFit (xs ++ ys) → CellsFit xs
fit_left [] ys h = tt
fit_left (x ∷ xs) ys h = (h.0, fit_left xs ys h.1)

pub fit_right : (xs ys : List Cell) → CellsFit (xs ++ ys) → CellsFit ys
fit_right [] ys h = h
fit_right (x ∷ xs) ys h = fit_right xs ys h.1

fit_words : (ws : List Wait) → CellsFit (words ws)
fit_words [] = tt
fit_words (w ∷ ws) = (tt, fit_words ws)

fit_gap : (b : Bool) → CellsFit (cond b [] (Gap ∷ []))
fit_gap true = tt
fit_gap false = (tt, tt)

pub fit_pool : (at : ℕ) (ws : List Wait) → CellsFit (pool at ws)
fit_pool at [] = tt
fit_pool at (w ∷ ws) = fit_append (gap at) (words (w ∷ ws)) (fit_gap (at % 4 == 0)) (fit_words (w ∷ ws))

bcond_fits : (c : ℕ) (at to : ℕ) → c < 14 → IsOffset 9 (offset at to) → Fits (BCond c (offset at to))
bcond_fits c at to h k = ((omega arith, (omega arith, (omega arith, tt))), (h, k))

b_fits : (at to : ℕ) → IsOffset 12 (offset at to) → Fits (B (offset at to))
b_fits at to k = ((omega arith, (omega arith, tt)), k)

bl_fits : (at to : ℕ) → IsOffset 25 (offset at to) → Fits (Bl (offset at to))
bl_fits at to k = ((omega arith, (omega arith, (omega arith, (omega arith, (omega arith, (omega arith, (omega arith, (omega arith, tt)))))))), k)

fit_over : (at to : ℕ) (ws : List Wait) → at % 2 ≡ 0 → to ≡ entered at ws → Behind at ws → AllReach (up (at + 2)) ws → CellsFit (over at to ws)
fit_over at to [] e q b h = tt
fit_over at to (w ∷ ws) e q b h =
    let s = pool_short at (up (at + 2)) (w ∷ ws) b h (omega arith) in
    (b_fits at to (offset12 at to e (omega arith) (omega arith) (omega arith)), fit_pool (at + 2) (w ∷ ws))

opposite_small : (c : ℕ) (b : Bool) → is_odd c ≡ b → c < 14 → cond b (c - 1) (c + 1) < 14
opposite_small c true e h = omega arith
opposite_small c false e h = let m : c % 2 ≡ 0 = grind (arith, nat_tests) in omega arith

within_by : (far at to : ℕ) (b b' : Bool) → nat_lt (to + far) (at + 4) ≡ b → nat_lt to (at + 4 + far) ≡ b' → (cond b false true && b') ≡ true → (at + 4 ≤ to + far) × (to < at + 4 + far)
within_by far at to true b' e e' h = absurd (stops h)
within_by far at to false true e e' h = (grind (arith, nat_tests), grind (arith, nat_tests))
within_by far at to false false e e' h = absurd (stops h)

within : (far at to : ℕ) → is_within far at to ≡ true → (at + 4 ≤ to + far) × (to < at + 4 + far)
within far at to h = within_by far at to (nat_lt (to + far) (at + 4)) (nat_lt to (at + 4 + far)) refl refl h

fit_branch_by : (c f at to : ℕ) (q : Bool) → (c == 14) ≡ q → c ≤ 14 → branch_fits c f at to ≡ true → at % 2 ≡ 0 → to % 2 ≡ 0 → at + 8 < 2 ^ 20 → to < 2 ^ 20 → CellsFit (branch c f at to)
fit_branch_by c zero at to true u h k e i l m = let w = within 2048 at to (rw u at k) in rw u (b_fits at to (offset12 at to e i (omega arith) (omega arith)), tt)
fit_branch_by c (suc f) at to true u h k e i l m = let n0 : (suc f == 0) ≡ false = grind (arith, nat_tests) in rw u (rw n0 (bl_fits at to (offset25 at to e i (omega arith) m), tt))
fit_branch_by c zero at to false u h k e i l m =
    let y : c < 14 = grind (arith, nat_tests) in
    let w = within 256 at to (rw u at k) in
    rw u (bcond_fits c at to y (offset9 at to e i (omega arith) (omega arith)), tt)
fit_branch_by c (suc zero) at to false u h k e i l m =
    let y : c < 14 = grind (arith, nat_tests) in
    let w = within 2048 (at + 2) to (rw u at k) in
    rw u (
      bcond_fits (opposite c) at (at + 4) (opposite_small c (is_odd c) refl y) (offset9 at (at + 4) e (omega arith) (omega arith) (omega arith)),
      (b_fits (at + 2) to (offset12 (at + 2) to (omega arith) i (omega arith) (omega arith)), tt),
    )
fit_branch_by c (suc (suc f)) at to false u h k e i l m =
    let y : c < 14 = grind (arith, nat_tests) in
    let n0 : (suc (suc f) == 0) ≡ false = grind (arith, nat_tests) in
    let n1 : (suc (suc f) == 1) ≡ false = grind (arith, nat_tests) in
    rw u (rw n0 (rw n1 (
      bcond_fits (opposite c) at (at + 6) (opposite_small c (is_odd c) refl y) (offset9 at (at + 6) e (omega arith) (omega arith) (omega arith)),
      (bl_fits (at + 2) to (offset25 (at + 2) to (omega arith) i (omega arith) m), tt),
    )))

-- a load of an entry that is near
load_fits : (rd q : ℕ) (w : Wait) → rd < 8 → Near q w → Fits (LdrPc rd ((q - counts_from w.at) / 4))
load_fits rd q w h n = let a = n.0 in let b = n.2 in ((omega arith, (h, (omega arith, tt))), tt)

fit_number : (rd v b q : ℕ) (n : Bool) → is_small v ≡ n → rd < 8 → (n ≡ false → Near q (record { at = b; entry = Value v })) → CellsFit (cond n (Ins (MovImm rd v) ∷ []) (Ins (LdrPc rd ((q - counts_from b) / 4)) ∷ []))
fit_number rd v b q true e h k = (((omega arith, (h, (grind (arith, nat_tests), tt))), tt), tt)
fit_number rd v b q false e h k = (load_fits rd q (record { at = b; entry = Value v }) h (k refl), tt)

-- the cells of a piece, where its branch fits and its load's entry is near
abbrev OwnNear : Piece → ℕ → ℕ → Type 0
OwnNear (Number rd v) b q = is_small v ≡ false → Near q (record { at = b; entry = Value v })
OwnNear (Address rd w) b q = Near q (record { at = b; entry = Of w })
OwnNear x b q = Unit {0}

fit_piece : (to : ℕ → ℕ) (x : Piece) (f : ℕ) (c : Chunk) (q : ℕ) → IsSoundPiece x → fits to x c f ≡ true → ((l : ℕ) → (to l % 2 ≡ 0) × (to l < 2 ^ 20)) → c.body % 2 ≡ 0 → c.body + 8 < 2 ^ 20 → OwnNear x c.body q → CellsFit (piece_cells to x f c.body q)
fit_piece to (Plain x) f c q s k t e l o = (s.0, tt)
fit_piece to (Label m) f c q s k t e l o = tt
fit_piece to (Go cn m) f c q s k t e l o = fit_branch_by cn f c.body (to m) (cn == 14) refl s k e (t m).0 l (t m).1
fit_piece to (CallTo g) f c q s k t e l o = (tt, tt)
fit_piece to (Number rd v) f c q s k t e l o = fit_number rd v c.body q (is_small v) refl s o
fit_piece to (Address rd w) f c q s k t e l o = (load_fits rd q (record { at = c.body; entry = Of w }) s o, tt)

pub own_near : (x : Piece) (f at n : ℕ) (c : Chunk) (cs : List Chunk) → Stood x f at n c → NearFrom (first (pools cs)) c.waiting → OwnNear x c.body (last_entry c cs)
own_near (Plain x) f at n c cs s h = tt
own_near (Label m) f at n c cs s h = tt
own_near (Go cn m) f at n c cs s h = tt
own_near (CallTo g) f at n c cs s h = tt
own_near (Number rd v) f at n c cs s h = λ e. own_entry (Number rd v) f at n c cs s h refl (record { at = c.body; entry = Value v }) (rw e refl)
own_near (Address rd w) f at n c cs s h = own_entry (Address rd w) f at n c cs s h refl (record { at = c.body; entry = Of w }) refl

abbrev pub EachSound : List Piece → Type 0
EachSound xs = (i : ℕ) (x : Piece) → slice_get xs i ≡ Some x → IsSoundPiece x

pass_fit : (to : ℕ → ℕ) → ((l : ℕ) → (to l % 2 ≡ 0) × (to l < 2 ^ 20)) → (xs : List Piece) (fs : List ℕ) → length fs ≡ length xs → EachSound xs → (ws : List Wait) (at : ℕ) → at % 2 ≡ 0 → Behind at ws → AllReach (up (at + 2)) ws
    → end_by (pass xs fs ws at) (length xs) + 8 < 2 ^ 20 → AllFit to xs (pass xs fs ws at) fs → CellsFit (cells to xs fs (pass xs fs ws at))
pass_fit to t [] fs n s ws at e b h m k = fit_pool at ws
pass_fit to t (x ∷ xs) [] n s ws at e b h m k = absurd (omega arith)
pass_fit to t (x ∷ xs) (f ∷ fs) n s ws at e b h m k =
    let c = chunk x f ws at in
    let cs = pass xs fs c.waiting (end_of c) in
    let g = chunk_stood x f ws at e b in
    let r = chunk_reach x f ws at h in
    let z = g.at_is in
    let y = g.behind_is in
    let i = g.end_least in
    let j = pass_least xs fs c.waiting (end_of c) g.end_even g.waiting_loads in
    let near = finds xs fs c.waiting (end_of c) g.end_even g.waiting_loads r.waiting in
    fit_append (over c.at c.body c.before) _ (fit_over c.at c.body c.before (omega arith) (g.body_is ∙ ap (λ q. entered q c.before) (sym z)) (subst (λ q. Behind q c.before) (sym z) g.before_loads) r.before)
    (fit_append (piece_cells to x f c.body (last_entry c cs)) _
    (fit_piece to x f c (last_entry c cs) (s 0 x refl) k.0 t g.body_even (omega arith) (own_near x f at (length ws) c cs g near))
    (fit_append (pool c.behind c.after) _ (fit_pool c.behind c.after)
    (pass_fit to t xs fs (omega arith) (λ i' x' e'. s (suc i') x' e') c.waiting (end_of c) g.end_even g.waiting_loads r.waiting m k.1)))

-- the cells of sound pieces that aren't too long
pub cells_fit : (xs : List Piece) → IsSound xs → bytes_of xs + 8 < 2 ^ 20 → CellsFit (cells_of xs)
cells_fit xs s m =
    let p = forms_proper xs in
    pass_fit (label_at xs (layout xs)) (λ l. let w = entered_within xs (forms xs) [] 0 refl tt (label_index xs l) in (w.0, let v = w.1 in omega arith)) xs (forms xs) p.as_long s.each [] 0 refl tt tt m (branches_fit xs)
