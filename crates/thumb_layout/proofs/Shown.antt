-- A flash that shows the cells of a layout holds the pieces.
use Rattle.std.proofs.Common.{suc, ◌≡◌, ℕ, pos, negsuc, ◌+◌, ◌*◌, ◌-◌, ◌%◌, ◌^◌, ◌<◌, ◌≤◌, List, [], ◌∷◌, ◌++◌, length, Bool, true, false, cond, nat_lt, Some, refl, sym, ap, ◌∙◌, subst, arith, ◌==◌, slice_get}
use Rattle.std.proofs.lemmas.Bool.Decides.{nat_tests}
use Rattle.std.proofs.lemmas.List.{length-append}
use Rattle.thumb_layout.specs.declared.pieces.What.{What}
use Rattle.thumb_layout.specs.declared.pieces.Piece.{Piece}
use Rattle.thumb_layout.specs.declared.pieces.Piece.TheVariants.{Plain, Label, Go, CallTo, Number, Address}
use Rattle.thumb_layout.specs.declared.pieces.Entry.{Entry}
use Rattle.thumb_layout.specs.declared.pieces.Entry.TheVariants.{Value, Of}
use Rattle.thumb_layout.specs.Pieces.{goes_on}
use Rattle.thumb_layout.specs.Soundness.{IsSoundPiece}
use Rattle.thumb_layout.specs.Layout.{Wait, Chunk, size, loads_at, up, over_pool, end_of, chunk, form_of, rest_of, pass}
use Rattle.thumb_layout.specs.Rounds.{IsLimited, AllReach, limit}
use Rattle.thumb_layout.specs.Cells.{Cell, Word, Gap, cell_bytes, words, pool, offset, over, piece_cells, pool_at, pools, first, last_entry, cells}
use Rattle.thumb_layout.specs.Holds.{moved}
use Rattle.thumb_layout.proofs.Chunks.{Test, chunk_by, Behind, Stood, chunk_stood, chunk_reach, entered, stops, even_size, reaches_all, append_none}
use Rattle.thumb_layout.proofs.Lengths.{first_limited, rest_limited, end_by, pass_least}
use Rattle.thumb_layout.proofs.Near.{Near, finds, own_entry}
use Rattle.thumb_layout.proofs.Writing.{wide, over_wide, pool_wide, piece_wide}
use Rattle.thumb_layout.proofs.Bytes.{ShowsCell, ShowsFrom}

moved_by : (base a to : ℕ) → base + a < 2 ^ 20 → base + to < 2 ^ 20 → (b : Bool) → nat_lt to (a + 4) ≡ b → moved (base + a) (cond b (negsuc (a + 3 - to)) (pos (to - (a + 4)))) ≡ base + to
moved_by base a to h k true e = let l : to < a + 4 = grind (arith, nat_tests) in omega arith
moved_by base a to h k false e = let l : a + 4 ≤ to = grind (arith, nat_tests) in omega arith

-- a branch's offset leads to its target
pub moved_offset : (base a to : ℕ) → base + a < 2 ^ 20 → base + to < 2 ^ 20 → moved (base + a) (offset a to) ≡ base + to
moved_offset base a to h k = moved_by base a to h k (nat_lt to (a + 4)) refl

-- no pool stands before a label
label_ok : (at : ℕ) (ws : List Wait) (l f : ℕ) → AllReach (up (at + 2)) ws → Test (Label l) f ws at ≡ true
label_ok at ws l f h =
    let z : at + 0 + 2 ≡ at + 2 = omega arith in
    rw z (rw (append_none ws) (reaches_all (up (at + 2)) ws h))

label_body : (b : Bool) (l f at : ℕ) (ws : List Wait) → b ≡ true → (chunk_by b true (Label l) f ws at).body ≡ at
label_body true l f at ws e = refl
label_body false l f at ws e = absurd (stops e)

module _ (flash : List ℕ) (base : ℕ) (entry : ℕ → ℕ) (word_of : What → ℕ) (b : ℕ) (total : ℕ) where
  abbrev Show : ℕ → Cell → Type 0
  Show a c = ShowsCell flash base entry word_of b a c

  abbrev Shows : ℕ → List Cell → Type 0
  Shows a cs = ShowsFrom flash base entry word_of b a cs

  shows_left : (a : ℕ) (xs ys : List Cell) → Shows a (xs ++ ys) → Shows a xs
  shows_left a [] ys h = tt
  shows_left a (x ∷ xs) ys h = (h.0, shows_left (a + length (cell_bytes x)) xs ys h.1)

  shows_right : (a : ℕ) (xs ys : List Cell) → Shows a (xs ++ ys) → Shows (a + wide xs) ys
  shows_right a [] ys h = let z : a ≡ a + 0 = omega arith in subst (λ q. Shows q ys) z h
  shows_right a (x ∷ xs) ys h =
      let z : a + length (cell_bytes x) + wide xs ≡ a + (length (cell_bytes x) + wide xs) = omega arith in
      subst (λ q. Shows q ys) z (shows_right (a + length (cell_bytes x)) xs ys h.1)

  -- the words of loads stand from an address on
  abbrev WordsFrom : ℕ → List Wait → Type 0
  WordsFrom q [] = Unit {0}
  WordsFrom q (w ∷ ws) = Show q (Word w.entry) × WordsFrom (q + 4) ws

  words_left : (q : ℕ) (ws vs : List Wait) → WordsFrom q (ws ++ vs) → WordsFrom q ws
  words_left q [] vs h = tt
  words_left q (w ∷ ws) vs h = (h.0, words_left (q + 4) ws vs h.1)

  words_last : (q : ℕ) (ws : List Wait) (w : Wait) → WordsFrom q (ws ++ w ∷ []) → Show (q + 4 * length ws) (Word w.entry)
  words_last q [] w h = let z : q ≡ q + 4 * 0 = omega arith in subst (λ n. Show n (Word w.entry)) z h.0
  words_last q (v ∷ ws) w h = let z : q + 4 + 4 * length ws ≡ q + 4 * suc (length ws) = omega arith in subst (λ n. Show n (Word w.entry)) z (words_last (q + 4) ws w h.1)

  four : (e : Entry) → length (cell_bytes (Word e)) ≡ 4
  four (Value v) = refl
  four (Of t) = refl

  words_shown : (q : ℕ) (ws : List Wait) → Shows q (words ws) → WordsFrom q ws
  words_shown q [] h = tt
  words_shown q (w ∷ ws) h = (h.0, words_shown (q + 4) ws (subst (λ n. Shows (q + n) (words ws)) (four w.entry) h.1))

  gap_shown : (a : ℕ) (ws : List Wait) (g : Bool) → (a % 4 == 0) ≡ g → a % 2 ≡ 0 → Shows a (cond g [] (Gap ∷ []) ++ words ws) → WordsFrom (up a) ws
  gap_shown a ws true e h s = let z : a % 4 ≡ 0 = grind (arith, nat_tests) in let y : a ≡ up a = omega arith in subst (λ q. WordsFrom q ws) y (words_shown a ws s)
  gap_shown a ws false e h s = let z : a % 4 ≡ 0 → ⊥ = λ q. absurd (grind (arith, nat_tests)) in let y : a + 2 ≡ up a = omega arith in subst (λ q. WordsFrom q ws) y (words_shown (a + 2) ws s.1)

  pool_shown : (a : ℕ) (ws : List Wait) → a % 2 ≡ 0 → Shows a (pool a ws) → WordsFrom (up a) ws
  pool_shown a [] e h = tt
  pool_shown a (w ∷ ws) e h = gap_shown a (w ∷ ws) (a % 4 == 0) refl e h

  over_shown : (a to : ℕ) (ws : List Wait) → a % 2 ≡ 0 → Shows a (over a to ws) → WordsFrom (up (a + 2)) ws
  over_shown a to [] e h = tt
  over_shown a to (w ∷ ws) e h = pool_shown (a + 2) (w ∷ ws) (omega arith) h.1

  first_pool : (q n : ℕ) (ws vs : List Wait) (rest : List ℕ) → WordsFrom (up n) (ws ++ vs) → WordsFrom (first (pool_at n (ws ++ vs) ++ rest)) ws
  first_pool q n [] vs rest h = tt
  first_pool q n (w ∷ ws) vs rest h = words_left (up n) (w ∷ ws) vs h

  first_before : (n : ℕ) (ws : List Wait) (rest : List ℕ) → WordsFrom (up n) ws → WordsFrom (first (pool_at n ws ++ rest)) ws
  first_before n [] rest h = tt
  first_before n (w ∷ ws) rest h = h

  -- the words of the loads that wait before a chunk
  words_by : (t g : Bool) (x : Piece) (f : ℕ) (ws : List Wait) (at : ℕ) (rest : List ℕ) → let c : Chunk = chunk_by t g x f ws at in
      WordsFrom (up (c.at + 2)) c.before → WordsFrom (up c.behind) c.after → WordsFrom (first rest) c.waiting → WordsFrom (first (pool_at (c.at + 2) c.before ++ (pool_at c.behind c.after ++ rest))) ws
  words_by true true x f ws at rest h k m = words_left (first rest) ws (loads_at x at) m
  words_by true false x f ws at rest h k m = first_pool 0 (at + size x f) ws (loads_at x at) rest k
  words_by false true x f ws at rest h k m = first_before (at + 2) ws _ h
  words_by false false x f ws at rest h k m = first_before (at + 2) ws _ h

  -- what is known of a piece's chunk; q is where its entry is, where it is a load
  pub record PieceFact (x : Piece) (f : ℕ) (c : Chunk) (q : ℕ) (to : ℕ → ℕ) : Type 0 where
    pub over : Shows c.at (over c.at c.body c.before)
    pub body_is : c.body ≡ entered c.at c.before
    pub shows : Shows c.body (piece_cells to x f c.body q)
    pub behind_is : c.behind ≡ c.body + size x f
    pub near : (w : Wait) → loads_at x c.body ≡ w ∷ [] → Near q w × Show q (Word w.entry)
    pub label : (l : ℕ) → x ≡ Label l → c.at ≡ c.body
    pub small : f ≤ limit x
    pub room : c.behind ≤ total
    pub at_room : c.at ≤ c.body

  abbrev pub at_of : List Chunk → ℕ
  at_of [] = 0
  at_of (c ∷ cs) = c.at

  abbrev pub EachPiece : (ℕ → ℕ) → List Piece → List ℕ → List Chunk → Type 0
  EachPiece to [] fs cs = Unit {0}
  EachPiece to (x ∷ xs) fs [] = ⊥
  EachPiece to (x ∷ xs) fs (c ∷ cs) = PieceFact x (form_of fs) c (last_entry c cs) to × (goes_on x ≡ true → c.behind ≡ at_of cs) × EachPiece to xs (rest_of fs) cs

  first_at : (xs : List Piece) (fs : List ℕ) (ws : List Wait) (at : ℕ) → at % 2 ≡ 0 → Behind at ws → at_of (pass xs fs ws at) ≡ at
  first_at [] fs ws at e h = refl
  first_at (x ∷ xs) fs ws at e h = (chunk_stood x (form_of fs) ws at e h).at_is

  label_at_once : (x : Piece) (f : ℕ) (ws : List Wait) (at : ℕ) → AllReach (up (at + 2)) ws → (l : ℕ) → x ≡ Label l → (chunk x f ws at).body ≡ at
  label_at_once x f ws at h l e = subst (λ y. (chunk y f ws at).body ≡ at) (sym e) (label_body (Test (Label l) f ws at) l f at ws (label_ok at ws l f h))

  own_word : (x : Piece) (f at n : ℕ) (c : Chunk) (cs : List Chunk) → Stood x f at n c → WordsFrom (first (pools cs)) c.waiting → goes_on x ≡ true → (w : Wait) → loads_at x c.body ≡ w ∷ [] → Show (last_entry c cs) (Word w.entry)
  own_word x f at n c cs s h g w e =
      let p = s.last_waits g in
      let k : c.waiting ≡ p.0 ++ w ∷ [] = p.1 ∙ ap (λ q. p.0 ++ q) e in
      let l : length c.waiting ≡ length p.0 + 1 = ap length k ∙ length-append p.0 (w ∷ []) in
      let z : first (pools cs) + 4 * length p.0 ≡ last_entry c cs = omega arith in
      subst (λ q. Show q (Word w.entry)) z (words_last (first (pools cs)) p.0 w (subst (WordsFrom (first (pools cs))) k h))

  load_goes_on : (x : Piece) (a : ℕ) (w : Wait) → loads_at x a ≡ w ∷ [] → goes_on x ≡ true
  load_goes_on (Plain x) a w e = absurd cc
  load_goes_on (Label l) a w e = refl
  load_goes_on (Go c l) a w e = absurd cc
  load_goes_on (CallTo f) a w e = refl
  load_goes_on (Number rd v) a w e = refl
  load_goes_on (Address rd t) a w e = refl

  abbrev Told : (ℕ → ℕ) → List Piece → List ℕ → List Wait → ℕ → Type 0
  Told to xs fs ws at = WordsFrom (first (pools (pass xs fs ws at))) ws × EachPiece to xs fs (pass xs fs ws at)

  pub pass_told : (to : ℕ → ℕ) (xs : List Piece) (fs : List ℕ) → ((i : ℕ) (x : Piece) → slice_get xs i ≡ Some x → IsSoundPiece x) → IsLimited xs fs → (ws : List Wait) (at : ℕ) → at % 2 ≡ 0 → Behind at ws → AllReach (up (at + 2)) ws
      → end_by (pass xs fs ws at) (length xs) ≤ total → Shows at (cells to xs fs (pass xs fs ws at)) → Told to xs fs ws at
  pass_told to [] fs s l ws at e bh ar m h = (first_before at ws [] (pool_shown at ws e h), tt)
  pass_told to (x ∷ xs) fs s l ws at e bh ar m h =
      let f = form_of fs in
      let c = chunk x f ws at in
      let cs = pass xs (rest_of fs) c.waiting (end_of c) in
      let g = chunk_stood x f ws at e bh in
      let r = chunk_reach x f ws at ar in
      let own = piece_cells to x f c.body (last_entry c cs) in
      let later = cells to xs (rest_of fs) cs in
      let small = first_limited x xs fs l in
      let behind_even : c.behind % 2 ≡ 0 = ap (λ z. z % 2) g.behind_is ∙ even_size x f c.body g.body_even in
      let at_even : c.at % 2 ≡ 0 = ap (λ q. q % 2) g.at_is ∙ e in
      let body_is : c.body ≡ entered c.at c.before = g.body_is ∙ ap (λ q. entered q c.before) (sym g.at_is) in
      let h0 : Shows c.at (over c.at c.body c.before ++ (own ++ (pool c.behind c.after ++ later))) = subst (λ q. Shows q (over c.at c.body c.before ++ (own ++ (pool c.behind c.after ++ later)))) (sym g.at_is) h in
      let h1 : Shows c.body (own ++ (pool c.behind c.after ++ later)) = subst (λ q. Shows q (own ++ (pool c.behind c.after ++ later))) (over_wide c.at c.body c.before at_even body_is) (shows_right c.at (over c.at c.body c.before) (own ++ (pool c.behind c.after ++ later)) h0) in
      let h2 : Shows c.behind (pool c.behind c.after ++ later) = subst (λ q. Shows q (pool c.behind c.after ++ later)) (ap (λ z. c.body + z) (piece_wide to x f c.body (last_entry c cs) (s 0 x refl) small) ∙ sym g.behind_is) (shows_right c.body own (pool c.behind c.after ++ later) h1) in
      let h3 : Shows (end_of c) later = subst (λ q. Shows q later) (pool_wide c.behind c.after behind_even) (shows_right c.behind (pool c.behind c.after) later h2) in
      let t = pass_told to xs (rest_of fs) (λ i y z. s (suc i) y z) (rest_limited x xs fs l) c.waiting (end_of c) g.end_even g.waiting_loads r.waiting m h3 in
      let near = finds xs (rest_of fs) c.waiting (end_of c) g.end_even g.waiting_loads r.waiting in
      let before = shows_left c.at (over c.at c.body c.before) (own ++ (pool c.behind c.after ++ later)) h0 in
      let least = pass_least xs (rest_of fs) c.waiting (end_of c) g.end_even g.waiting_loads in
      let el = g.end_least in
      let fact : PieceFact x f c (last_entry c cs) to = record {
        over = before;
        body_is = body_is;
        shows = shows_left c.body own (pool c.behind c.after ++ later) h1;
        behind_is = g.behind_is;
        near = λ w q. (let on = load_goes_on x c.body w q in (own_entry x f at (length ws) c cs g near on w q, own_word x f at (length ws) c cs g t.0 on w q));
        label = λ k q. g.at_is ∙ sym (label_at_once x f ws at ar k q);
        small = small;
        room = omega arith;
        at_room = (let z = g.at_is in let y = g.body_least in omega arith);
      } in (
        words_by (Test x f ws at) (goes_on x) x f ws at (pools cs) (over_shown c.at c.body c.before at_even before) (pool_shown c.behind c.after behind_even (shows_left c.behind (pool c.behind c.after) later h2)) t.0,
        (fact, (λ q. ap (λ z. over_pool c.behind z) (sym (g.goes q)) ∙ sym (first_at xs (rest_of fs) c.waiting (end_of c) g.end_even g.waiting_loads)), t.1),
      )
