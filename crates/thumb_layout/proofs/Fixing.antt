-- What is open in laid code.
use Rattle.std.proofs.Common.{◌≡◌, ℕ, ◌+◌, ◌%◌, ◌≤◌, List, [], ◌∷◌, ◌++◌, length, Bool, true, false, cond, refl, sym, ap, ◌∙◌, subst, arith, ◌==◌}
use Rattle.std.proofs.lemmas.List.{length-append, append_assoc}
use Rattle.thumb_code.specs.declared.halfwords.Half.{Half}
use Rattle.thumb_code.specs.declared.halfwords.Half.TheVariants.{One, Two}
use Rattle.thumb_code.specs.declared.instructions.Instr.TheVariants.{BCond, B, Bl}
use Rattle.thumb_code.specs.Table.{half}
use Rattle.thumb_layout.specs.declared.pieces.What.{What}
use Rattle.thumb_layout.specs.declared.pieces.What.TheVariants.{Function}
use Rattle.thumb_layout.specs.declared.pieces.Piece.{Piece}
use Rattle.thumb_layout.specs.declared.pieces.Piece.TheVariants.{Plain, Label, Go, CallTo, Number, Address}
use Rattle.thumb_layout.specs.declared.pieces.Entry.{Entry}
use Rattle.thumb_layout.specs.declared.pieces.Entry.TheVariants.{Value, Of}
use Rattle.thumb_layout.specs.declared.laid.Fix.{Fix}
use Rattle.thumb_layout.specs.Pieces.{goes_on, is_small}
use Rattle.thumb_layout.specs.Layout.{Wait, Chunk, loads_at, form_of, rest_of, end_of, chunk, pass, over_pool, label_at}
use Rattle.thumb_layout.specs.Rounds.{forms, layout}
use Rattle.thumb_layout.specs.Cells.{Cell, Ins, Call, Word, Gap, spelled, cell_bytes, nothing, gap, words, pool, over, offset, opposite, branch, piece_cells, last_entry, cells, cells_of, laid}
use Rattle.thumb_layout.specs.Openings.{callees, addressed, called, named, StandApart}
use Rattle.thumb_layout.proofs.Chunks.{Test, chunk_by, append_none}
use Rattle.thumb_layout.proofs.Bytes.{bytes_in, fixes_in, written_bytes, written_fixes}

-- even, one behind another, and within the cells

apart_from : (a a' : ℕ) (fs : List Fix) (to : ℕ) → a ≤ a' → StandApart a' fs to → StandApart a fs to
apart_from a a' [] to l h = omega arith
apart_from a a' (f ∷ fs) to l h = (let k = h.0 in omega arith, h.1, h.2)

even_spelled : (h : Half) → length (spelled h) % 2 ≡ 0
even_spelled (One n) = refl
even_spelled (Two n m) = refl

-- what stands from a cell's end on, from what stands behind it
apart_rest : (a w : ℕ) (c : Cell) (cs : List Cell) → length (cell_bytes c) ≡ w → StandApart (a + w) (fixes_in (a + w) cs) (a + w + length (bytes_in cs)) → StandApart (a + w) (fixes_in (a + length (cell_bytes c)) cs) (a + length (cell_bytes c ++ bytes_in cs))
apart_rest a w c cs e h =
    let n = length-append (cell_bytes c) (bytes_in cs) in
    let z : a + w + length (bytes_in cs) ≡ a + length (cell_bytes c ++ bytes_in cs) = omega arith in
    subst (λ q. StandApart (a + w) (fixes_in (a + q) cs) (a + length (cell_bytes c ++ bytes_in cs))) (sym e) (subst (StandApart (a + w) (fixes_in (a + w) cs)) z h)

apart_cells : (a : ℕ) (cs : List Cell) → a % 2 ≡ 0 → StandApart a (fixes_in a cs) (a + length (bytes_in cs))
apart_cells a [] e = omega arith
apart_cells a (Ins x ∷ cs) e =
    let w = length (cell_bytes (Ins x)) in let v = even_spelled (half x) in
    apart_from a (a + w) _ _ (omega arith) (apart_rest a w (Ins x) cs refl (apart_cells (a + w) cs (omega arith)))
apart_cells a (Call g ∷ cs) e = (omega arith, e, apart_rest a 4 (Call g) cs refl (apart_cells (a + 4) cs (omega arith)))
apart_cells a (Word (Value v) ∷ cs) e = apart_from a (a + 4) _ _ (omega arith) (apart_rest a 4 (Word (Value v)) cs refl (apart_cells (a + 4) cs (omega arith)))
apart_cells a (Word (Of t) ∷ cs) e = (omega arith, e, apart_rest a 4 (Word (Of t)) cs refl (apart_cells (a + 4) cs (omega arith)))
apart_cells a (Gap ∷ cs) e = apart_from a (a + 2) _ _ (omega arith) (apart_rest a 2 Gap cs refl (apart_cells (a + 2) cs (omega arith)))

pub fixes_apart : (xs : List Piece) → StandApart 0 (laid xs).fixes (length (laid xs).bytes)
fixes_apart xs =
    let b = written_bytes nothing (cells_of xs) in
    let f = written_fixes nothing (cells_of xs) in
    let z : 0 + length (bytes_in (cells_of xs)) ≡ length (bytes_in (cells_of xs)) = omega arith in
    subst (λ q. StandApart 0 q (length (laid xs).bytes)) (sym f) (subst (λ q. StandApart 0 (fixes_in 0 (cells_of xs)) (length q)) (sym b) (subst (StandApart 0 (fixes_in 0 (cells_of xs))) z (apart_cells 0 (cells_of xs) refl)))

-- what cells call and name

abbrev cell_calls : Cell → List What
cell_calls (Call g) = Function g ∷ []
cell_calls c = []

abbrev cell_names : Cell → List What
cell_names (Word (Of t)) = t ∷ []
cell_names c = []

abbrev all_calls : List Cell → List What
all_calls [] = []
all_calls (c ∷ cs) = cell_calls c ++ all_calls cs

abbrev all_names : List Cell → List What
all_names [] = []
all_names (c ∷ cs) = cell_names c ++ all_names cs

callees_in : (a : ℕ) (cs : List Cell) → callees (fixes_in a cs) ≡ all_calls cs
callees_in a [] = refl
callees_in a (Ins x ∷ cs) = callees_in (a + length (cell_bytes (Ins x))) cs
callees_in a (Call g ∷ cs) = ap (λ q. Function g ∷ q) (callees_in (a + length (cell_bytes (Call g))) cs)
callees_in a (Word (Value v) ∷ cs) = callees_in (a + length (cell_bytes (Word (Value v)))) cs
callees_in a (Word (Of t) ∷ cs) = callees_in (a + length (cell_bytes (Word (Of t)))) cs
callees_in a (Gap ∷ cs) = callees_in (a + length (cell_bytes Gap)) cs

addressed_in : (a : ℕ) (cs : List Cell) → addressed (fixes_in a cs) ≡ all_names cs
addressed_in a [] = refl
addressed_in a (Ins x ∷ cs) = addressed_in (a + length (cell_bytes (Ins x))) cs
addressed_in a (Call g ∷ cs) = addressed_in (a + length (cell_bytes (Call g))) cs
addressed_in a (Word (Value v) ∷ cs) = addressed_in (a + length (cell_bytes (Word (Value v)))) cs
addressed_in a (Word (Of t) ∷ cs) = ap (λ q. t ∷ q) (addressed_in (a + length (cell_bytes (Word (Of t)))) cs)
addressed_in a (Gap ∷ cs) = addressed_in (a + length (cell_bytes Gap)) cs

calls_append : (xs ys : List Cell) → all_calls (xs ++ ys) ≡ all_calls xs ++ all_calls ys
calls_append [] ys = refl
calls_append (x ∷ xs) ys = ap (λ q. cell_calls x ++ q) (calls_append xs ys) ∙ sym (append_assoc (cell_calls x) (all_calls xs) (all_calls ys))

names_append : (xs ys : List Cell) → all_names (xs ++ ys) ≡ all_names xs ++ all_names ys
names_append [] ys = refl
names_append (x ∷ xs) ys = ap (λ q. cell_names x ++ q) (names_append xs ys) ∙ sym (append_assoc (cell_names x) (all_names xs) (all_names ys))

-- what waits to be named
abbrev opens : List Wait → List What
opens [] = []
opens (w ∷ ws) = cell_names (Word w.entry) ++ opens ws

opens_append : (ws vs : List Wait) → opens (ws ++ vs) ≡ opens ws ++ opens vs
opens_append [] vs = refl
opens_append (w ∷ ws) vs = ap (λ q. cell_names (Word w.entry) ++ q) (opens_append ws vs) ∙ sym (append_assoc (cell_names (Word w.entry)) (opens ws) (opens vs))

words_calls : (ws : List Wait) → all_calls (words ws) ≡ []
words_calls [] = refl
words_calls (w ∷ ws) = by w.entry ∙ words_calls ws
  where
    by : (e : Entry) → cell_calls (Word e) ++ all_calls (words ws) ≡ all_calls (words ws)
    by (Value v) = refl
    by (Of t) = refl

words_names : (ws : List Wait) → all_names (words ws) ≡ opens ws
words_names [] = refl
words_names (w ∷ ws) = ap (λ q. cell_names (Word w.entry) ++ q) (words_names ws)

gap_none : (b : Bool) → (all_calls (cond b [] (Gap ∷ [])) ≡ []) × (all_names (cond b [] (Gap ∷ [])) ≡ [])
gap_none true = (refl, refl)
gap_none false = (refl, refl)

pool_calls : (at : ℕ) (ws : List Wait) → all_calls (pool at ws) ≡ []
pool_calls at [] = refl
pool_calls at (w ∷ ws) = calls_append (gap at) (words (w ∷ ws)) ∙ (ap (λ q. q ++ all_calls (words (w ∷ ws))) (gap_none (at % 4 == 0)).0 ∙ words_calls (w ∷ ws))

pool_names : (at : ℕ) (ws : List Wait) → all_names (pool at ws) ≡ opens ws
pool_names at [] = refl
pool_names at (w ∷ ws) = names_append (gap at) (words (w ∷ ws)) ∙ (ap (λ q. q ++ all_names (words (w ∷ ws))) (gap_none (at % 4 == 0)).1 ∙ words_names (w ∷ ws))

over_calls : (at to : ℕ) (ws : List Wait) → all_calls (over at to ws) ≡ []
over_calls at to [] = refl
over_calls at to (w ∷ ws) = pool_calls (at + 2) (w ∷ ws)

over_names : (at to : ℕ) (ws : List Wait) → all_names (over at to ws) ≡ opens ws
over_names at to [] = refl
over_names at to (w ∷ ws) = pool_names (at + 2) (w ∷ ws)

abbrev calls_of : Piece → List What
calls_of (CallTo g) = Function g ∷ []
calls_of x = []

abbrev names_of : Piece → List What
names_of (Address rd t) = t ∷ []
names_of x = []

abbrev branch_of : Bool → Bool → Bool → ℕ → ℕ → ℕ → List Cell
branch_of p q r c at to = cond p (cond q (Ins (B (offset at to)) ∷ []) (Ins (Bl (offset at to)) ∷ []))
    (cond q (Ins (BCond c (offset at to)) ∷ []) (cond r (Ins (BCond (opposite c) (offset at (at + 4))) ∷ Ins (B (offset (at + 2) to)) ∷ []) (Ins (BCond (opposite c) (offset at (at + 6))) ∷ Ins (Bl (offset (at + 2) to)) ∷ [])))

branch_none_by : (p q r : Bool) (c at to : ℕ) → (all_calls (branch_of p q r c at to) ≡ []) × (all_names (branch_of p q r c at to) ≡ [])
branch_none_by true true r c at to = (refl, refl)
branch_none_by true false r c at to = (refl, refl)
branch_none_by false true r c at to = (refl, refl)
branch_none_by false false true c at to = (refl, refl)
branch_none_by false false false c at to = (refl, refl)

branch_none : (c f at to : ℕ) → (all_calls (branch c f at to) ≡ []) × (all_names (branch c f at to) ≡ [])
branch_none c f at to = branch_none_by (c == 14) (f == 0) (f == 1) c at to

number_none : (x y : Cell) (b : Bool) → cell_calls x ≡ [] → cell_calls y ≡ [] → cell_names x ≡ [] → cell_names y ≡ [] → (all_calls (cond b (x ∷ []) (y ∷ [])) ≡ []) × (all_names (cond b (x ∷ []) (y ∷ [])) ≡ [])
number_none x y true h k m n = (ap (λ q. q ++ []) h, ap (λ q. q ++ []) m)
number_none x y false h k m n = (ap (λ q. q ++ []) k, ap (λ q. q ++ []) n)

piece_opens : (to : ℕ → ℕ) (x : Piece) (f b q : ℕ) → (all_calls (piece_cells to x f b q) ≡ calls_of x) × (all_names (piece_cells to x f b q) ≡ [])
piece_opens to (Plain x) f b q = (refl, refl)
piece_opens to (Label l) f b q = (refl, refl)
piece_opens to (Go c l) f b q = branch_none c f b (to l)
piece_opens to (CallTo g) f b q = (refl, refl)
piece_opens to (Number rd v) f b q = number_none _ _ (is_small v) refl refl refl refl
piece_opens to (Address rd t) f b q = (refl, refl)

load_opens : (x : Piece) (b : ℕ) → opens (loads_at x b) ≡ names_of x
load_opens (Plain x) b = refl
load_opens (Label l) b = refl
load_opens (Go c l) b = refl
load_opens (CallTo g) b = refl
load_opens (Number rd v) b = by (is_small v)
  where
    by : (n : Bool) → opens (cond n [] (record { at = b; entry = Value v } ∷ [])) ≡ []
    by true = refl
    by false = refl
load_opens (Address rd t) b = refl

called_cons : (x : Piece) (xs : List Piece) → called (x ∷ xs) ≡ calls_of x ++ called xs
called_cons (Plain x) xs = refl
called_cons (Label l) xs = refl
called_cons (Go c l) xs = refl
called_cons (CallTo g) xs = refl
called_cons (Number rd v) xs = refl
called_cons (Address rd t) xs = refl

named_cons : (x : Piece) (xs : List Piece) → named (x ∷ xs) ≡ names_of x ++ named xs
named_cons (Plain x) xs = refl
named_cons (Label l) xs = refl
named_cons (Go c l) xs = refl
named_cons (CallTo g) xs = refl
named_cons (Number rd v) xs = refl
named_cons (Address rd t) xs = refl

chunk_opens_by : (t g : Bool) (x : Piece) (f : ℕ) (ws : List Wait) (at : ℕ) → let c : Chunk = chunk_by t g x f ws at in opens c.before ++ (opens c.after ++ opens c.waiting) ≡ opens ws ++ names_of x
chunk_opens_by true true x f ws at = opens_append ws (loads_at x at) ∙ ap (λ q. opens ws ++ q) (load_opens x at)
chunk_opens_by true false x f ws at = append_none (opens (ws ++ loads_at x at)) ∙ (opens_append ws (loads_at x at) ∙ ap (λ q. opens ws ++ q) (load_opens x at))
chunk_opens_by false true x f ws at = ap (λ q. opens ws ++ q) (load_opens x (over_pool (at + 2) ws))
chunk_opens_by false false x f ws at = ap (λ q. opens ws ++ q) (append_none (opens (loads_at x (over_pool (at + 2) ws))) ∙ load_opens x (over_pool (at + 2) ws))

cells_calls : (to : ℕ → ℕ) (xs : List Piece) (fs : List ℕ) (ws : List Wait) (at : ℕ) → all_calls (cells to xs fs (pass xs fs ws at)) ≡ called xs
cells_calls to [] fs ws at = pool_calls at ws
cells_calls to (x ∷ xs) fs ws at =
    let f = form_of fs in
    let c = chunk x f ws at in
    let cs = pass xs (rest_of fs) c.waiting (end_of c) in
    let own = piece_cells to x f c.body (last_entry c cs) in
    let later = cells to xs (rest_of fs) cs in
    calls_append (over c.at c.body c.before) (own ++ (pool c.behind c.after ++ later)) ∙ (ap (λ q. q ++ all_calls (own ++ (pool c.behind c.after ++ later))) (over_calls c.at c.body c.before)
    ∙ (calls_append own (pool c.behind c.after ++ later) ∙ (ap (λ q. q ++ all_calls (pool c.behind c.after ++ later)) (piece_opens to x f c.body (last_entry c cs)).0
    ∙ (ap (λ q. calls_of x ++ q) (calls_append (pool c.behind c.after) later ∙ (ap (λ q. q ++ all_calls later) (pool_calls c.behind c.after) ∙ cells_calls to xs (rest_of fs) c.waiting (end_of c))) ∙ sym (called_cons x xs)))))

cells_names : (to : ℕ → ℕ) (xs : List Piece) (fs : List ℕ) (ws : List Wait) (at : ℕ) → all_names (cells to xs fs (pass xs fs ws at)) ≡ opens ws ++ named xs
cells_names to [] fs ws at = pool_names at ws ∙ sym (append_none (opens ws))
cells_names to (x ∷ xs) fs ws at =
    let f = form_of fs in
    let c = chunk x f ws at in
    let cs = pass xs (rest_of fs) c.waiting (end_of c) in
    let own = piece_cells to x f c.body (last_entry c cs) in
    let later = cells to xs (rest_of fs) cs in
    let tail : all_names (own ++ (pool c.behind c.after ++ later)) ≡ opens c.after ++ (opens c.waiting ++ named xs) =
    names_append own (pool c.behind c.after ++ later) ∙ (ap (λ q. q ++ all_names (pool c.behind c.after ++ later)) (piece_opens to x f c.body (last_entry c cs)).1
    ∙ (names_append (pool c.behind c.after) later ∙ (ap (λ q. q ++ all_names later) (pool_names c.behind c.after) ∙ ap (λ q. opens c.after ++ q) (cells_names to xs (rest_of fs) c.waiting (end_of c))))) in
    names_append (over c.at c.body c.before) (own ++ (pool c.behind c.after ++ later))
    ∙ (ap (λ q. q ++ all_names (own ++ (pool c.behind c.after ++ later))) (over_names c.at c.body c.before)
    ∙ (ap (λ q. opens c.before ++ q) (tail ∙ sym (append_assoc (opens c.after) (opens c.waiting) (named xs)))
    ∙ (sym (append_assoc (opens c.before) (opens c.after ++ opens c.waiting) (named xs))
    ∙ (ap (λ q. q ++ named xs) (chunk_opens_by (Test x f ws at) (goes_on x) x f ws at)
    ∙ (append_assoc (opens ws) (names_of x) (named xs) ∙ ap (λ q. opens ws ++ q) (sym (named_cons x xs)))))))

pub fixes_called : (xs : List Piece) → callees (laid xs).fixes ≡ called xs
fixes_called xs = ap callees (written_fixes nothing (cells_of xs)) ∙ (callees_in 0 (cells_of xs) ∙ cells_calls (label_at xs (layout xs)) xs (forms xs) [] 0)

pub fixes_named : (xs : List Piece) → addressed (laid xs).fixes ≡ named xs
fixes_named xs = ap addressed (written_fixes nothing (cells_of xs)) ∙ (addressed_in 0 (cells_of xs) ∙ cells_names (label_at xs (layout xs)) xs (forms xs) [] 0)
