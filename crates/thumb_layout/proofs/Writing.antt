-- Cells one after another, and how long they are.
use Rattle.std.proofs.Common.{zero, suc, ◌≡◌, ℕ, ◌+◌, ◌*◌, ◌%◌, ◌<◌, ◌≤◌, List, [], ◌∷◌, ◌++◌, length, drop, get_or, Bool, true, false, cond, refl, sym, ap, ◌∙◌, arith, ◌==◌}
use Rattle.std.proofs.lemmas.Bool.Decides.{nat_tests}
use Rattle.std.proofs.lemmas.List.{length-append}
use Rattle.thumb_code.specs.declared.halfwords.Half.TheVariants.{One}
use Rattle.thumb_code.specs.declared.instructions.Instr.{Instr}
use Rattle.thumb_code.specs.declared.instructions.Instr.TheVariants.{Bl}
use Rattle.thumb_code.specs.Table.{half, spelling}
use Rattle.thumb_layout.specs.declared.pieces.Piece.{Piece}
use Rattle.thumb_layout.specs.declared.pieces.Piece.TheVariants.{Plain, Label, Go, CallTo, Number, Address}
use Rattle.thumb_layout.specs.declared.pieces.Entry.{Entry}
use Rattle.thumb_layout.specs.declared.pieces.Entry.TheVariants.{Value, Of}
use Rattle.thumb_layout.specs.declared.laid.Laid.{Laid}
use Rattle.thumb_layout.specs.Pieces.{is_small}
use Rattle.thumb_layout.specs.Soundness.{is_bound_to_place, IsSoundPiece}
use Rattle.thumb_layout.specs.Layout.{Wait, size, up, over_pool}
use Rattle.thumb_layout.specs.Rounds.{limit}
use Rattle.thumb_layout.specs.Cells.{Cell, Ins, Word, Gap, cell_bytes, spelled, with_cell, with_cells, gap, words, pool, over, branch, piece_cells, entries}
use Rattle.thumb_layout.specs.Writing.{entry_words, entry_pool}
use Rattle.thumb_layout.proofs.Chunks.{entered}
use Rattle.thumb_layout.proofs.Growing.{drop_cons}

pub with_append : (l : Laid) (xs ys : List Cell) → with_cells l (xs ++ ys) ≡ with_cells (with_cells l xs) ys
with_append l [] ys = refl
with_append l (x ∷ xs) ys = with_append (with_cell l x) xs ys

pub words_step : (start l l' : Laid) (es : List Entry) (i : ℕ) (d : Entry) → i < length es
    → (with_cells l (entry_words (drop i es)) ≡ with_cells start (entry_words es)) × (length l.bytes ≡ length start.bytes + 4 * i)
    → l' ≡ with_cell l (Word (get_or es i d))
    → (with_cells l' (entry_words (drop (i + 1) es)) ≡ with_cells start (entry_words es)) × (length l'.bytes ≡ length start.bytes + 4 * (i + 1))
words_step start l l' es i d b h e = (
  ap (λ q. with_cells q (entry_words (drop (i + 1) es))) e ∙ (sym (ap (λ q. with_cells l (entry_words q)) (drop_cons es i d b)) ∙ h.0),
  (let k = h.1 in let a = four (get_or es i d) in let z = ap (λ q. length q.bytes) e in let y = length-append l.bytes (cell_bytes (Word (get_or es i d))) in omega arith),
)
  where
    four : (w : Entry) → length (cell_bytes (Word w)) ≡ 4
    four (Value v) = refl
    four (Of t) = refl

-- how many bytes cells have
abbrev pub wide : List Cell → ℕ
wide [] = 0
wide (c ∷ cs) = length (cell_bytes c) + wide cs

pub wide_append : (xs ys : List Cell) → wide (xs ++ ys) ≡ wide xs + wide ys
wide_append [] ys = omega arith
wide_append (x ∷ xs) ys = let i = wide_append xs ys in omega arith

pub written_long : (l : Laid) (cs : List Cell) → length (with_cells l cs).bytes ≡ length l.bytes + wide cs
written_long l [] = omega arith
written_long l (c ∷ cs) = let i = written_long (with_cell l c) cs in let a = length-append l.bytes (cell_bytes c) in omega arith

pub words_same : (ws : List Wait) → words ws ≡ entry_words (entries ws)
words_same [] = refl
words_same (w ∷ ws) = ap (λ q. Word w.entry ∷ q) (words_same ws)

pub pool_same : (at : ℕ) (ws : List Wait) → pool at ws ≡ entry_pool at (entries ws)
pool_same at [] = refl
pool_same at (w ∷ ws) = ap (λ q. gap at ++ q) (words_same (w ∷ ws))

word_four : (e : Entry) → length (cell_bytes (Word e)) ≡ 4
word_four (Value v) = refl
word_four (Of t) = refl

words_wide : (ws : List Wait) → wide (words ws) ≡ 4 * length ws
words_wide [] = refl
words_wide (w ∷ ws) = let i = words_wide ws in let a = word_four w.entry in omega arith

gap_wide : (at : ℕ) (b : Bool) → (at % 4 == 0) ≡ b → at % 2 ≡ 0 → at + wide (cond b [] (Gap ∷ [])) ≡ up at
gap_wide at true e h = let z : at % 4 ≡ 0 = grind (arith, nat_tests) in omega arith
gap_wide at false e h = let z : at % 4 ≡ 0 → ⊥ = λ q. absurd (grind (arith, nat_tests)) in omega arith

pub pool_wide : (at : ℕ) (ws : List Wait) → at % 2 ≡ 0 → at + wide (pool at ws) ≡ over_pool at ws
pool_wide at [] e = omega arith
pool_wide at (w ∷ ws) e = let a = gap_wide at (at % 4 == 0) refl e in let b = wide_append (gap at) (words (w ∷ ws)) in let c = words_wide (w ∷ ws) in omega arith

pub over_wide : (at to : ℕ) (ws : List Wait) → at % 2 ≡ 0 → to ≡ entered at ws → at + wide (over at to ws) ≡ to
over_wide at to [] e h = omega arith
over_wide at to (w ∷ ws) e h = let a = pool_wide (at + 2) (w ∷ ws) (omega arith) in omega arith

pub plain_half : (x : Instr) → is_bound_to_place x ≡ false → half x ≡ One (spelling x)
plain_half (Bl o) e = cc
plain_half x e = refl

plain_wide : (x : Instr) → is_bound_to_place x ≡ false → wide (Ins x ∷ []) ≡ 2
plain_wide x e = ap (λ q. length (spelled q) + 0) (plain_half x e)

branch_wide : (c f at to : ℕ) (q : Bool) → (c == 14) ≡ q → f ≤ cond (c == 14) 1 2 → wide (branch c f at to) ≡ 2 + 2 * f
branch_wide c zero at to true u h = rw u refl
branch_wide c (suc zero) at to true u h = let n0 : (1 == 0) ≡ false = refl in rw u refl
branch_wide c (suc (suc f)) at to true u h = let g = rw u at h in absurd (omega arith)
branch_wide c zero at to false u h = rw u refl
branch_wide c (suc zero) at to false u h = rw u refl
branch_wide c (suc (suc zero)) at to false u h = rw u refl
branch_wide c (suc (suc (suc f))) at to false u h = let g = rw u at h in absurd (omega arith)

number_wide : (x y : Cell) (b : Bool) → length (cell_bytes x) ≡ 2 → length (cell_bytes y) ≡ 2 → wide (cond b (x ∷ []) (y ∷ [])) ≡ 2
number_wide x y true h k = omega arith
number_wide x y false h k = omega arith

pub piece_wide : (to : ℕ → ℕ) (x : Piece) (f b q : ℕ) → IsSoundPiece x → f ≤ limit x → wide (piece_cells to x f b q) ≡ size x f
piece_wide to (Plain x) f b q s l = plain_wide x s.1
piece_wide to (Label m) f b q s l = refl
piece_wide to (Go c m) f b q s l = branch_wide c f b (to m) (c == 14) refl l
piece_wide to (CallTo g) f b q s l = refl
piece_wide to (Number rd v) f b q s l = number_wide _ _ (is_small v) refl refl
piece_wide to (Address rd w) f b q s l = refl
