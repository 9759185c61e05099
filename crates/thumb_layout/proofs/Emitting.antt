-- The loop that writes pieces.
use Rattle.std.proofs.Common.{zero, suc, ◌≡◌, ◌≢◌, ℕ, ◌+◌, ◌*◌, ◌%◌, ◌^◌, ◌<◌, ◌≤◌, List, [], ◌∷◌, ◌++◌, length, drop, get_or, map, Bool, true, false, cond, refl, sym, ap, ◌∙◌, subst, arith, ◌==◌, slice_get, Some}
use Rattle.std.proofs.lemmas.Bool.Decides.{nat_tests}
use Rattle.std.proofs.lemmas.List.{length-append, length-map, drop_all}
use Rattle.std.proofs.lemmas.Option.{slice_get-get_or}
use Rattle.thumb_code.specs.declared.instructions.Instr.TheVariants.{B}
use Rattle.thumb_code.specs.Table.{Fits}
use Rattle.thumb_layout.specs.declared.pieces.Piece.{Piece}
use Rattle.thumb_layout.specs.declared.pieces.Piece.TheVariants.{Plain, Label, Go, CallTo, Number, Address}
use Rattle.thumb_layout.specs.declared.pieces.Entry.{Entry}
use Rattle.thumb_layout.specs.declared.pieces.Entry.TheVariants.{Value}
use Rattle.thumb_layout.specs.declared.laid.Laid.{Laid}
use Rattle.thumb_layout.specs.declared.places.PieceOffsets.{PieceOffsets}
use Rattle.thumb_layout.specs.Pieces.{goes_on, is_small}
use Rattle.thumb_layout.specs.Soundness.{IsSoundPiece, IsSound}
use Rattle.thumb_layout.specs.Layout.{Wait, Chunk, loads_at, up, over_pool, end_of, chunk, form_of, rest_of, pass, nth, label_at}
use Rattle.thumb_layout.specs.Rounds.{IsLimited, AllReach, forms, layout, total_most, has_bytes, counted, bytes_of}
use Rattle.thumb_layout.specs.Cells.{Cell, Ins, with_cells, nothing, pool, over, offset, piece_cells, entries, pool_at, pools, first, last_entry, cells, cells_of, laid, CellsFit}
use Rattle.thumb_layout.specs.Placing.{place_of, target_of, targets_of}
use Rattle.thumb_layout.specs.Writing.{entry_pool, pools_in, entered_cells}
use Rattle.thumb_layout.proofs.Chunks.{Test, chunk_by, Behind, Stood, chunk_stood, chunk_reach, entered, alone, stops, even_size}
use Rattle.thumb_layout.proofs.Settling.{forms_proper}
use Rattle.thumb_layout.proofs.Lengths.{first_limited, rest_limited, most_counted, bytes_most, entered_within}
use Rattle.thumb_layout.proofs.Fitting.{fit_left, fit_right, cells_fit}
use Rattle.thumb_layout.proofs.Growing.{drop_cons, target_at, place_at, pass_length, target_within}
use Rattle.thumb_layout.proofs.Writing.{with_append, wide, wide_append, written_long, pool_same, pool_wide, over_wide, piece_wide}

-- a chunk as the code writes it: `pre` are the loads that still wait when the piece is written
pub record Shape (x : Piece) (ws : List Wait) (at : ℕ) (c : Chunk) : Type 0 where
  pub pre : List Wait
  pub entering : entered_cells at c.body (entries ws) ≡ over at c.body c.before
  pub kept : cond (at == c.body) (entries ws) [] ≡ entries pre
  pub passed : cond (at == c.body) 0 (pools_in (entries ws)) ≡ pools_in (entries c.before)
  pub on : goes_on x ≡ true → (c.after ≡ []) × (c.waiting ≡ pre ++ loads_at x c.body)
  pub off : goes_on x ≡ false → (c.after ≡ pre ++ loads_at x c.body) × (c.waiting ≡ [])
  pub few : pools_in (entries c.before) + pools_in (entries c.after) + length c.waiting ≤ length ws + has_bytes x
  pub room : length pre ≤ length ws

loads_few : (x : Piece) (b : ℕ) → length (loads_at x b) ≤ has_bytes x
loads_few (Plain x) b = omega arith
loads_few (Label l) b = omega arith
loads_few (Go c l) b = omega arith
loads_few (CallTo f) b = omega arith
loads_few (Number rd v) b = by (is_small v)
  where
    by : (n : Bool) → length (cond {A = List Wait} n [] (record { at = b; entry = Value v } ∷ [])) ≤ 1
    by true = omega arith
    by false = omega arith
loads_few (Address rd w) b = omega arith

pools_few : (ws : List Wait) → pools_in (entries ws) ≤ length ws
pools_few [] = omega arith
pools_few (w ∷ ws) = omega arith

shape_true : (g : Bool) (x : Piece) (f : ℕ) (ws : List Wait) (at : ℕ) → goes_on x ≡ g → Shape x ws at (chunk_by true g x f ws at)
shape_true g x f ws at u =
    let e : (at == at) ≡ true = grind (arith, nat_tests) in
    by g u e
  where
    by : (g : Bool) → goes_on x ≡ g → (at == at) ≡ true → Shape x ws at (chunk_by true g x f ws at)
    by true v e = record {
      pre = ws;
      entering = rw e refl;
      kept = rw e refl;
      passed = rw e refl;
      on = λ q. (refl, refl);
      off = λ q. absurd (stops (sym q ∙ v));
      few = (let a = loads_few x at in let b = length-append ws (loads_at x at) in omega arith);
      room = omega arith;
    }
    by false v e = record {
      pre = ws;
      entering = rw e refl;
      kept = rw e refl;
      passed = rw e refl;
      on = λ q. absurd (stops (sym v ∙ q));
      off = λ q. (refl, refl);
      few = (let a = loads_few x at in let b = length-append ws (loads_at x at) in let p = pools_few (ws ++ loads_at x at) in omega arith);
      room = omega arith;
    }

shape_false : (g : Bool) (x : Piece) (f : ℕ) (w : Wait) (ws : List Wait) (at : ℕ) → goes_on x ≡ g → Shape x (w ∷ ws) at (chunk_by false g x f (w ∷ ws) at)
shape_false g x f w ws at u =
    let e : (at == over_pool (at + 2) (w ∷ ws)) ≡ false = grind (arith, nat_tests) in
    by g u e
  where
    by : (g : Bool) → goes_on x ≡ g → (at == over_pool (at + 2) (w ∷ ws)) ≡ false → Shape x (w ∷ ws) at (chunk_by false g x f (w ∷ ws) at)
    by true v e = record {
      pre = [];
      entering = rw e (ap (λ q. Ins (B (offset at (over_pool (at + 2) (w ∷ ws)))) ∷ q) (sym (pool_same (at + 2) (w ∷ ws))));
      kept = rw e refl;
      passed = rw e refl;
      on = λ q. (refl, refl);
      off = λ q. absurd (stops (sym q ∙ v));
      few = (let a = loads_few x (over_pool (at + 2) (w ∷ ws)) in omega arith);
      room = omega arith;
    }
    by false v e = record {
      pre = [];
      entering = rw e (ap (λ q. Ins (B (offset at (over_pool (at + 2) (w ∷ ws)))) ∷ q) (sym (pool_same (at + 2) (w ∷ ws))));
      kept = rw e refl;
      passed = rw e refl;
      on = λ q. absurd (stops (sym v ∙ q));
      off = λ q. (refl, refl);
      few = (let a = loads_few x (over_pool (at + 2) (w ∷ ws)) in let p = pools_few (loads_at x (over_pool (at + 2) (w ∷ ws))) in omega arith);
      room = omega arith;
    }

shape_by : (b : Bool) (x : Piece) (f : ℕ) (ws : List Wait) (at : ℕ) → Test x f ws at ≡ b → Shape x ws at (chunk_by b (goes_on x) x f ws at)
shape_by true x f ws at t = shape_true (goes_on x) x f ws at refl
shape_by false x f [] at t = absurd (stops (sym t ∙ alone x f at))
shape_by false x f (w ∷ ws) at t = shape_false (goes_on x) x f w ws at refl

pub chunk_shape : (x : Piece) (f : ℕ) (ws : List Wait) (at : ℕ) → Shape x ws at (chunk x f ws at)
chunk_shape x f ws at = shape_by (Test x f ws at) x f ws at refl

-- a pool is passed
drop_more : (n : ℕ) (P : List ℕ) (a : ℕ) (rest : List ℕ) → drop n P ≡ a ∷ rest → drop (n + 1) P ≡ rest
drop_more zero [] a rest e = absurd cc
drop_more zero (p ∷ P) a rest e = ap rest_of e
drop_more (suc n) [] a rest e = absurd cc
drop_more (suc n) (p ∷ P) a rest e = let z : suc n + 1 ≡ suc (n + 1) = omega arith in rw z (drop_more n P a rest e)

drop_pool : (n at : ℕ) (P rest : List ℕ) (ws : List Wait) → drop n P ≡ pool_at at ws ++ rest → drop (n + pools_in (entries ws)) P ≡ rest
drop_pool n at P rest [] e = let z : n + 0 ≡ n = omega arith in rw z e
drop_pool n at P rest (w ∷ ws) e = drop_more n P (up at) rest e

-- the loop that writes: what is written, and what is left to write, is the whole
pub record WriteLoop (xs : List Piece) (rest : List Piece) (left : List ℕ) (places : List PieceOffsets) (starts : List ℕ) (code : Laid) (waiting : List Entry) (passed : ℕ) : Type 0 where
  pub waits : List Wait
  pub at : ℕ
  pub waiting_is : waiting ≡ entries waits
  pub here : length code.bytes ≡ at
  pub even : at % 2 ≡ 0
  pub behind : Behind at waits
  pub reach : AllReach (up (at + 2)) waits
  pub bound : at + 8 * length waits + total_most rest ≤ total_most xs
  pub few : passed + length waits + counted rest ≤ counted xs
  pub limited : IsLimited rest left
  pub placed : places ≡ map place_of (pass rest left waits at)
  pub pooled : starts ≡ pools (pass rest left waits at)
  pub fit : CellsFit (cells (label_at xs (layout xs)) rest left (pass rest left waits at))
  pub whole : with_cells code (cells (label_at xs (layout xs)) rest left (pass rest left waits at)) ≡ laid xs

-- a piece's cells, as the code writes them
piece_same : (to : ℕ → ℕ) (x : Piece) (f b t q q' : ℕ) → ((c l : ℕ) → x ≡ Go c l → t ≡ to l) → (goes_on x ≡ true → 0 < length (loads_at x b) → q ≡ q') → piece_cells (λ l. t) x f b q ≡ piece_cells to x f b q'
piece_same to (Plain x) f b t q q' h k = refl
piece_same to (Label m) f b t q q' h k = refl
piece_same to (Go c m) f b t q q' h k = ap (λ z. piece_cells (λ l. z) (Go c m) f b q) (h c m refl)
piece_same to (CallTo g) f b t q q' h k = refl
piece_same to (Number rd v) f b t q q' h k = by (is_small v) refl
  where
    by : (n : Bool) → is_small v ≡ n → piece_cells (λ l. t) (Number rd v) f b q ≡ piece_cells to (Number rd v) f b q'
    by true e = rw e refl
    by false e = let z : q ≡ q' = k refl (rw e (omega arith)) in ap (λ z. piece_cells to (Number rd v) f b z) z
piece_same to (Address rd w) f b t q q' h k = let z : q ≡ q' = k refl (omega arith) in ap (λ z. piece_cells to (Address rd w) f b z) z

entries_append : (ws vs : List Wait) → entries (ws ++ vs) ≡ entries ws ++ entries vs
entries_append [] vs = refl
entries_append (w ∷ ws) vs = ap (λ q. w.entry ∷ q) (entries_append ws vs)

entries_long : (ws : List Wait) → length (entries ws) ≡ length ws
entries_long [] = refl
entries_long (w ∷ ws) = ap suc (entries_long ws)

has_few : (x : Piece) → has_bytes x ≤ 1
has_few (Plain x) = omega arith
has_few (Label l) = omega arith
has_few (Go c l) = omega arith
has_few (CallTo f) = omega arith
has_few (Number rd v) = omega arith
has_few (Address rd w) = omega arith

-- one piece of the loop
abbrev to_of : List Piece → ℕ → ℕ
to_of xs l = label_at xs (layout xs) l

head_place : (p q : PieceOffsets) (ps qs : List PieceOffsets) → p ∷ ps ≡ q ∷ qs → (p ≡ q) × (ps ≡ qs)
head_place p q ps qs e = (cc, cc)

-- before a piece
module _ (xs rest : List Piece) (x : Piece) (f : ℕ) (left : List ℕ) (place : PieceOffsets) (places : List PieceOffsets) (P : List ℕ) (n : ℕ) (code : Laid) (waiting : List Entry)
    (few : counted xs ≤ 32768) (h : WriteLoop xs (x ∷ rest) (f ∷ left) (place ∷ places) (drop n P) code waiting n) where
  abbrev ws : List Wait
  ws = h.waits

  abbrev c : Chunk
  c = chunk x f h.waits h.at

  abbrev cs : List Chunk
  cs = pass rest left c.waiting (end_of c)

  abbrev s : Stood x f h.at (length h.waits) c
  s = chunk_stood x f h.waits h.at h.even h.behind

  abbrev sh : Shape x h.waits h.at c
  sh = chunk_shape x f h.waits h.at

  abbrev own : List Cell
  own = piece_cells (to_of xs) x f c.body (last_entry c cs)

  abbrev later : List Cell
  later = cells (to_of xs) rest left cs

  body_is : place.body ≡ c.body
  body_is = ap (λ q. q.body) ((head_place place (place_of c) places (map place_of cs) h.placed).0)

  most_is : total_most xs ≤ 327680
  most_is = let m = most_counted xs in omega arith

  pub enter_small : (length code.bytes < 2 ^ 19) × (place.body < 2 ^ 20) × (length waiting < 2 ^ 18) × (n < 2 ^ 20)
  enter_small =
      let b = h.bound in let m = most_is in let a = h.here in let k = body_is in
      let w : length waiting ≡ length h.waits = ap length h.waiting_is ∙ entries_long h.waits in
      let e = s.end_most (first_limited x rest (f ∷ left) h.limited) in
      let y = s.behind_is in let z = s.end_least in let q = h.few in
      (omega arith, omega arith, omega arith, omega arith)

  pub enter_fits : length code.bytes ≢ place.body → Fits (B (offset (length code.bytes) place.body))
  enter_fits ne =
      let fit : CellsFit (over c.at c.body c.before) = fit_left (over c.at c.body c.before) _ h.fit in
      let fit' : CellsFit (entered_cells h.at c.body (entries h.waits)) = subst CellsFit (ap (λ q. over q c.body c.before) s.at_is ∙ sym sh.entering) fit in
      subst (λ q. Fits (B (offset q place.body))) (sym h.here) (subst (λ q. Fits (B (offset h.at q))) (sym body_is)
      (by h.at c.body (entries h.waits) (λ e. ne (h.here ∙ (e ∙ sym body_is))) fit'))
    where
      by : (at body : ℕ) (es : List Entry) → (at ≡ body → ⊥) → CellsFit (entered_cells at body es) → Fits (B (offset at body))
      by at body es ne fit = let e : (at == body) ≡ false = grind (arith, nat_tests) in let g = rw e at fit in g.0

  -- behind the pool before it
  module _ (code1 : Laid) (waiting1 : List Entry) (n1 : ℕ)
      (e1 : code1 ≡ with_cells code (entered_cells (length code.bytes) place.body waiting)) (e2 : waiting1 ≡ cond (length code.bytes == place.body) waiting []) (e3 : n1 ≡ n + cond (length code.bytes == place.body) 0 (pools_in waiting)) where
    code1_is : code1 ≡ with_cells code (over c.at c.body c.before)
    code1_is = e1 ∙ (ap (λ q. with_cells code (entered_cells q place.body waiting)) h.here ∙ (ap (λ q. with_cells code (entered_cells h.at q waiting)) body_is
        ∙ (ap (λ q. with_cells code (entered_cells h.at c.body q)) h.waiting_is ∙ (ap (with_cells code) sh.entering ∙ ap (λ q. with_cells code (over q c.body c.before)) (sym s.at_is)))))

    long1 : length code1.bytes ≡ c.body
    long1 = ap (λ q. length q.bytes) code1_is ∙ (written_long code (over c.at c.body c.before) ∙ (ap (λ q. q + wide (over c.at c.body c.before)) (h.here ∙ sym s.at_is) ∙ over_wide c.at c.body c.before (ap (λ q. q % 2) s.at_is ∙ h.even) (s.body_is ∙ ap (λ q. entered q c.before) (sym s.at_is))))

    waiting1_is : waiting1 ≡ entries sh.pre
    waiting1_is = e2 ∙ (ap (λ q. cond (q == place.body) waiting []) h.here ∙ (ap (λ q. cond (h.at == q) waiting []) body_is ∙ (ap (λ q. cond (h.at == c.body) q []) h.waiting_is ∙ sh.kept)))

    n1_is : n1 ≡ n + pools_in (entries c.before)
    n1_is = e3 ∙ ap (λ q. n + q) (ap (λ q. cond (q == place.body) 0 (pools_in waiting)) h.here ∙ (ap (λ q. cond (h.at == q) 0 (pools_in waiting)) body_is ∙ (ap (λ q. cond (h.at == c.body) 0 (pools_in q)) h.waiting_is ∙ sh.passed)))

    starts1 : drop n1 P ≡ pool_at c.behind c.after ++ pools cs
    starts1 = ap (λ q. drop q P) n1_is ∙ drop_pool n (c.at + 2) P (pool_at c.behind c.after ++ pools cs) c.before h.pooled

    pub put_small : (length code1.bytes < 2 ^ 19) × (length waiting1 < 2 ^ 18)
    put_small =
        let b = h.bound in let m = most_is in let a = long1 in
        let w : length waiting1 ≡ length sh.pre = ap length waiting1_is ∙ entries_long sh.pre in
        let r = sh.room in
        let e = s.end_most (first_limited x rest (f ∷ left) h.limited) in
        let y = s.behind_is in let z = s.end_least in
        (omega arith, omega arith)

    own_is : (t q : ℕ) → ((c l : ℕ) → x ≡ Go c l → t ≡ to_of xs l) → q ≡ first (drop n1 P) → piece_cells (λ l. t) x f (length code1.bytes) (q + 4 * length waiting1) ≡ own
    own_is t q lead p =
        ap (λ z. piece_cells (λ l. t) x f z (q + 4 * length waiting1)) long1
        ∙ piece_same (to_of xs) x f c.body t (q + 4 * length waiting1) (last_entry c cs) lead
        (λ g l.
        let on = sh.on g in
        let a : q ≡ first (pools cs) = p ∙ (ap first starts1 ∙ ap (λ z. first (pool_at c.behind z ++ pools cs)) on.0) in
        let w : length waiting1 ≡ length sh.pre = ap length waiting1_is ∙ entries_long sh.pre in
        let k : length c.waiting ≡ length sh.pre + length (loads_at x c.body) = ap length on.1 ∙ length-append sh.pre (loads_at x c.body) in
        let o = one_most_load x c.body in
        omega arith)
      where
        one_most_load : (y : Piece) (b : ℕ) → length (loads_at y b) ≤ 1
        one_most_load y b = let a = loads_few y b in let d = has_few y in omega arith

    pub put_fits : (t q : ℕ) → ((c l : ℕ) → x ≡ Go c l → t ≡ to_of xs l) → q ≡ first (drop n1 P) → CellsFit (piece_cells (λ l. t) x f (length code1.bytes) (q + 4 * length waiting1))
    put_fits t q lead p = subst CellsFit (sym (own_is t q lead p)) (fit_left own _ (fit_right (over c.at c.body c.before) _ h.fit))

    -- behind the piece
    module _ (sound : IsSoundPiece x) (t q : ℕ) (lead : (c l : ℕ) → x ≡ Go c l → t ≡ to_of xs l) (p : q ≡ first (drop n1 P)) (code2 : Laid) (waiting2 : List Entry) (n2 : ℕ)
        (e4 : code2 ≡ with_cells code1 (piece_cells (λ l. t) x f (length code1.bytes) (q + 4 * length waiting1))) (e5 : (a : ℕ) → waiting2 ≡ waiting1 ++ entries (loads_at x a)) (e6 : n2 ≡ n1) where
      code2_is : code2 ≡ with_cells code1 own
      code2_is = e4 ∙ ap (with_cells code1) (own_is t q lead p)

      long2 : length code2.bytes ≡ c.behind
      long2 = ap (λ z. length z.bytes) code2_is ∙ (written_long code1 own ∙ (ap (λ z. z + wide own) long1 ∙ (ap (λ z. c.body + z) (piece_wide (to_of xs) x f c.body (last_entry c cs) sound (first_limited x rest (f ∷ left) h.limited)) ∙ sym s.behind_is)))

      waiting2_is : waiting2 ≡ entries (sh.pre ++ loads_at x c.body)
      waiting2_is = e5 c.body ∙ (ap (λ z. z ++ entries (loads_at x c.body)) waiting1_is ∙ sym (entries_append sh.pre (loads_at x c.body)))

      pub leave_small : (length code2.bytes < 2 ^ 20) × (length waiting2 < 2 ^ 18) × (n2 < 2 ^ 20)
      leave_small =
          let b = h.bound in let m = most_is in let a = long2 in
          let w : length waiting2 ≡ length sh.pre + length (loads_at x c.body) = ap length waiting2_is ∙ (entries_long (sh.pre ++ loads_at x c.body) ∙ length-append sh.pre (loads_at x c.body)) in
          let r = sh.room in let u = loads_few x c.body in let v = has_few x in
          let e = s.end_most (first_limited x rest (f ∷ left) h.limited) in
          let y = s.behind_is in let z = s.end_least in
          let k = n1_is in let i = sh.few in let j = h.few in
          (omega arith, omega arith, omega arith)

      next : (code3 : Laid) (waiting3 : List Entry) (n3 : ℕ) → code3 ≡ with_cells code2 (pool c.behind c.after) → waiting3 ≡ entries c.waiting → n3 ≡ n2 + pools_in (entries c.after) → WriteLoop xs rest left places (drop n3 P) code3 waiting3 n3
      next code3 waiting3 n3 e7 e8 e9 =
          let behind_even : c.behind % 2 ≡ 0 = ap (λ z. z % 2) s.behind_is ∙ even_size x f c.body s.body_even in
          let bound = h.bound in let r = chunk_reach x f h.waits h.at h.reach in
          let m = s.end_most (first_limited x rest (f ∷ left) h.limited) in
          let k = n1_is in let i = sh.few in let j = h.few in
          record {
            waits = c.waiting;
            at = end_of c;
            waiting_is = e8;
            here = ap (λ z. length z.bytes) e7 ∙ (written_long code2 (pool c.behind c.after) ∙ (ap (λ z. z + wide (pool c.behind c.after)) long2 ∙ pool_wide c.behind c.after behind_even));
            even = s.end_even;
            behind = s.waiting_loads;
            reach = r.waiting;
            bound = omega arith;
            few = omega arith;
            limited = rest_limited x rest (f ∷ left) h.limited;
            placed = (head_place place (place_of c) places (map place_of cs) h.placed).1;
            pooled = ap (λ z. drop z P) e9 ∙ drop_pool n2 c.behind P (pools cs) c.after (ap (λ z. drop z P) e6 ∙ starts1);
            fit = fit_right (pool c.behind c.after) later (fit_right own (pool c.behind c.after ++ later) (fit_right (over c.at c.body c.before) (own ++ (pool c.behind c.after ++ later)) h.fit));
            whole = ap (λ z. with_cells z later) e7 ∙ (sym (with_append code2 (pool c.behind c.after) later) ∙ (ap (λ z. with_cells z (pool c.behind c.after ++ later)) code2_is
                ∙ (sym (with_append code1 own (pool c.behind c.after ++ later)) ∙ (ap (λ z. with_cells z (own ++ (pool c.behind c.after ++ later))) code1_is
                ∙ (sym (with_append code (over c.at c.body c.before) (own ++ (pool c.behind c.after ++ later))) ∙ h.whole)))));
          }

      pub next_on : goes_on x ≡ true → WriteLoop xs rest left places (drop n2 P) code2 waiting2 n2
      next_on g =
          let on = sh.on g in
          let z : n2 ≡ n2 + 0 = omega arith in
          next code2 waiting2 n2 (ap (λ w. with_cells code2 (pool c.behind w)) (sym on.0)) (waiting2_is ∙ ap entries (sym on.1)) (z ∙ ap (λ w. n2 + pools_in (entries w)) (sym on.0))

      pub next_off : goes_on x ≡ false → (code3 : Laid) (waiting3 : List Entry) (n3 : ℕ) → code3 ≡ with_cells code2 (entry_pool (length code2.bytes) waiting2) → waiting3 ≡ [] → n3 ≡ n2 + pools_in waiting2
          → WriteLoop xs rest left places (drop n3 P) code3 waiting3 n3
      next_off g code3 waiting3 n3 e7 e8 e9 =
          let off = sh.off g in
          let w : waiting2 ≡ entries c.after = waiting2_is ∙ ap entries (sym off.0) in
          next code3 waiting3 n3 (e7 ∙ (ap (λ z. with_cells code2 (entry_pool z waiting2)) long2 ∙ (ap (λ z. with_cells code2 (entry_pool c.behind z)) w ∙ ap (with_cells code2) (sym (pool_same c.behind c.after)))))
          (e8 ∙ ap entries (sym off.1)) (e9 ∙ ap (λ z. n2 + pools_in z) w)

-- from places in lists to lists
pub open_at : (xs : List Piece) (fs : List ℕ) (all : List PieceOffsets) (starts : List ℕ) (i : ℕ) (d : Piece) (e : PieceOffsets) (code : Laid) (waiting : List Entry) (n : ℕ) → i < length xs → length fs ≡ length xs → length all ≡ length xs + 1
    → WriteLoop xs (drop i xs) (drop i fs) (drop i all) starts code waiting n
    → WriteLoop xs (get_or xs i d ∷ drop (i + 1) xs) (get_or fs i 0 ∷ drop (i + 1) fs) (get_or all i e ∷ drop (i + 1) all) starts code waiting n
open_at xs fs all starts i d e code waiting n l a b h =
    subst (λ q. WriteLoop xs (get_or xs i d ∷ drop (i + 1) xs) (get_or fs i 0 ∷ drop (i + 1) fs) q starts code waiting n) (drop_cons all i e (omega arith))
    (subst (λ q. WriteLoop xs (get_or xs i d ∷ drop (i + 1) xs) q (drop i all) starts code waiting n) (drop_cons fs i 0 (omega arith))
    (subst (λ q. WriteLoop xs q (drop i fs) (drop i all) starts code waiting n) (drop_cons xs i d l) h))

small_enough : (xs : List Piece) → counted xs ≤ 32768 → bytes_of xs + 8 < 2 ^ 20
small_enough xs f = let a = bytes_most xs in let b = most_counted xs in omega arith

pub write_init : (xs : List Piece) (fs : List ℕ) (places : List PieceOffsets) (starts : List ℕ) (code : Laid) (waiting : List Entry) (n : ℕ) → IsSound xs → counted xs ≤ 32768 → fs ≡ forms xs → places ≡ map place_of (layout xs) → starts ≡ pools (layout xs)
    → code ≡ nothing → waiting ≡ [] → n ≡ 0 → WriteLoop xs xs fs places starts code waiting n
write_init xs fs places starts code waiting n s few e p q a b z =
    subst (λ g. WriteLoop xs xs g places starts code waiting n) (sym e)
    record {
      waits = [];
      at = 0;
      waiting_is = b;
      here = ap (λ g. length g.bytes) a;
      even = refl;
      behind = tt;
      reach = tt;
      bound = omega arith;
      few = omega arith;
      limited = (forms_proper xs).limited;
      placed = p;
      pooled = q;
      fit = cells_fit xs s (small_enough xs few);
      whole = ap (λ g. with_cells g (cells_of xs)) a;
    }

pub write_end : (xs : List Piece) (left : List ℕ) (places : List PieceOffsets) (starts : List ℕ) (code code' : Laid) (waiting : List Entry) (n : ℕ) → WriteLoop xs [] left places starts code waiting n
    → code' ≡ with_cells code (entry_pool (length code.bytes) waiting) → code' ≡ laid xs
write_end xs left places starts code code' waiting n h e =
    e ∙ (ap (λ q. with_cells code (entry_pool q waiting)) h.here ∙ (ap (λ q. with_cells code (entry_pool h.at q)) h.waiting_is ∙ (ap (with_cells code) (sym (pool_same h.at h.waits)) ∙ h.whole)))

pub end_small : (xs rest : List Piece) (left : List ℕ) (places : List PieceOffsets) (starts : List ℕ) (code : Laid) (waiting : List Entry) (n : ℕ) → counted xs ≤ 32768 → WriteLoop xs rest left places starts code waiting n
    → (length code.bytes < 2 ^ 20) × (length waiting < 2 ^ 18) × (n < 2 ^ 20)
end_small xs rest left places starts code waiting n f h =
    let m = most_counted xs in let b = h.bound in let a = h.here in let k = h.few in
    let w : length waiting ≡ length h.waits = ap length h.waiting_is ∙ entries_long h.waits in
    (omega arith, omega arith, omega arith)

-- where a branch goes
pub lead_at : (xs : List Piece) (all : List PieceOffsets) (targets : List ℕ) (i : ℕ) (d : Piece) (e : PieceOffsets) → all ≡ map place_of (layout xs) → targets ≡ targets_of xs → i < length xs
    → (c l : ℕ) → get_or xs i d ≡ Go c l → (get_or all (get_or targets i 0) e).at ≡ to_of xs l
lead_at xs all targets i d e p t b c l g =
    let k : get_or targets i 0 ≡ target_of xs (Go c l) = ap (λ q. get_or q i 0) t ∙ (target_at xs i d b ∙ ap (target_of xs) g) in
    let w = target_within xs (Go c l) in
    let n = pass_length xs (forms xs) [] 0 in
    ap (λ q. (get_or all q e).at) k ∙ (ap (λ q. (get_or q (target_of xs (Go c l)) e).at) p ∙ ap (λ q. q.at) (place_at (layout xs) (target_of xs (Go c l)) e (omega arith)))

pub lead_small : (xs : List Piece) (all : List PieceOffsets) (j : ℕ) (e : PieceOffsets) → all ≡ map place_of (layout xs) → counted xs ≤ 32768 → j < length all → (get_or all j e).at < 2 ^ 20
lead_small xs all j e p f l =
    let n : length all ≡ length (layout xs) = ap length p ∙ length-map (layout xs) place_of in
    let a : (get_or all j e).at ≡ (nth (layout xs) j).at = ap (λ q. (get_or q j e).at) p ∙ ap (λ q. q.at) (place_at (layout xs) j e (omega arith)) in
    let w = (entered_within xs (forms xs) [] 0 refl tt j).1 in
    let b = bytes_most xs in let m = most_counted xs in
    omega arith

pub sound_at : (xs : List Piece) (i : ℕ) (d : Piece) → IsSound xs → i < length xs → IsSoundPiece (get_or xs i d)
sound_at xs i d s l = s.each i (get_or xs i d) (slice_get-get_or xs i d l)

pub next_start : (P : List ℕ) (n : ℕ) → n < length P → get_or P n 0 ≡ first (drop n P)
next_start P n l = sym (ap first (drop_cons P n 0 l))

pub no_start : (P : List ℕ) (n : ℕ) → length P ≤ n → 0 ≡ first (drop n P)
no_start P n l = sym (ap first (drop_all n P l))

-- the same by the index of the piece
module _ (xs : List Piece) (fs : List ℕ) (all : List PieceOffsets) (P : List ℕ) (i : ℕ) (d : Piece) (e : PieceOffsets) (n : ℕ) (code : Laid) (waiting : List Entry)
    (few : counted xs ≤ 32768) (l : i < length xs) (a : fs ≡ forms xs) (b : all ≡ map place_of (layout xs)) (h : WriteLoop xs (drop i xs) (drop i fs) (drop i all) (drop n P) code waiting n) where
  abbrev rest : List Piece
  rest = drop (i + 1) xs

  abbrev x : Piece
  x = get_or xs i d

  abbrev f : ℕ
  f = get_or fs i 0

  abbrev left : List ℕ
  left = drop (i + 1) fs

  abbrev place : PieceOffsets
  place = get_or all i e

  abbrev places' : List PieceOffsets
  places' = drop (i + 1) all

  pub all_long : length all ≡ length xs + 1
  all_long = ap length b ∙ (length-map (layout xs) place_of ∙ pass_length xs (forms xs) [] 0)

  pub forms_long : length fs ≡ length xs
  forms_long = ap length a ∙ (forms_proper xs).as_long

  opened : WriteLoop xs (x ∷ rest) (f ∷ left) (place ∷ places') (drop n P) code waiting n
  opened = open_at xs fs all (drop n P) i d e code waiting n l forms_long all_long h

  pub at_enter : (length code.bytes < 2 ^ 19) × (place.body < 2 ^ 20) × (length waiting < 2 ^ 18) × (n < 2 ^ 20)
  at_enter = enter_small xs rest x f left place places' P n code waiting few opened

  pub fits_enter : length code.bytes ≢ place.body → Fits (B (offset (length code.bytes) place.body))
  fits_enter = enter_fits xs rest x f left place places' P n code waiting few opened

  module _ (code1 : Laid) (waiting1 : List Entry) (n1 : ℕ)
      (e1 : code1 ≡ with_cells code (entered_cells (length code.bytes) place.body waiting)) (e2 : waiting1 ≡ cond (length code.bytes == place.body) waiting []) (e3 : n1 ≡ n + cond (length code.bytes == place.body) 0 (pools_in waiting)) where
    pub at_put : (length code1.bytes < 2 ^ 19) × (length waiting1 < 2 ^ 18)
    at_put = put_small xs rest x f left place places' P n code waiting few opened code1 waiting1 n1 e1 e2 e3

    pub fits_put : (t q : ℕ) → ((c k : ℕ) → x ≡ Go c k → t ≡ to_of xs k) → q ≡ first (drop n1 P) → CellsFit (piece_cells (λ k. t) x f (length code1.bytes) (q + 4 * length waiting1))
    fits_put = put_fits xs rest x f left place places' P n code waiting few opened code1 waiting1 n1 e1 e2 e3

    module _ (sound : IsSoundPiece x) (t q : ℕ) (lead : (c k : ℕ) → x ≡ Go c k → t ≡ to_of xs k) (p : q ≡ first (drop n1 P)) (code2 : Laid) (waiting2 : List Entry) (n2 : ℕ)
        (e4 : code2 ≡ with_cells code1 (piece_cells (λ k. t) x f (length code1.bytes) (q + 4 * length waiting1))) (e5 : (at : ℕ) → waiting2 ≡ waiting1 ++ entries (loads_at x at)) (e6 : n2 ≡ n1) where
      pub at_leave : (length code2.bytes < 2 ^ 20) × (length waiting2 < 2 ^ 18) × (n2 < 2 ^ 20)
      at_leave = leave_small xs rest x f left place places' P n code waiting few opened code1 waiting1 n1 e1 e2 e3 sound t q lead p code2 waiting2 n2 e4 e5 e6

      pub on_next : goes_on x ≡ true → WriteLoop xs rest left places' (drop n2 P) code2 waiting2 n2
      on_next = next_on xs rest x f left place places' P n code waiting few opened code1 waiting1 n1 e1 e2 e3 sound t q lead p code2 waiting2 n2 e4 e5 e6

      pub off_next : goes_on x ≡ false → (code3 : Laid) (waiting3 : List Entry) (n3 : ℕ) → code3 ≡ with_cells code2 (entry_pool (length code2.bytes) waiting2) → waiting3 ≡ [] → n3 ≡ n2 + pools_in waiting2
          → WriteLoop xs rest left places' (drop n3 P) code3 waiting3 n3
      off_next = next_off xs rest x f left place places' P n code waiting few opened code1 waiting1 n1 e1 e2 e3 sound t q lead p code2 waiting2 n2 e4 e5 e6

-- how long the code is

cells_wide : (xs : List Piece) (fs : List ℕ) → ((i : ℕ) (x : Piece) → slice_get xs i ≡ Some x → IsSoundPiece x) → IsLimited xs fs → (to : ℕ → ℕ) (ws : List Wait) (at : ℕ) → at % 2 ≡ 0 → Behind at ws
    → at + wide (cells to xs fs (pass xs fs ws at)) ≡ end_of (nth (pass xs fs ws at) (length xs))
cells_wide [] fs s l to ws at e b = pool_wide at ws e
cells_wide (x ∷ xs) fs s l to ws at e b =
    let c = chunk x (form_of fs) ws at in
    let cs = pass xs (rest_of fs) c.waiting (end_of c) in
    let g = chunk_stood x (form_of fs) ws at e b in
    let own = piece_cells to x (form_of fs) c.body (last_entry c cs) in
    let later = cells to xs (rest_of fs) cs in
    let i = cells_wide xs (rest_of fs) (λ k y h. s (suc k) y h) (rest_limited x xs fs l) to c.waiting (end_of c) g.end_even g.waiting_loads in
    let o = over_wide c.at c.body c.before (ap (λ q. q % 2) g.at_is ∙ e) (g.body_is ∙ ap (λ q. entered q c.before) (sym g.at_is)) in
    let p = piece_wide to x (form_of fs) c.body (last_entry c cs) (s 0 x refl) (first_limited x xs fs l) in
    let q = pool_wide c.behind c.after (ap (λ z. z % 2) g.behind_is ∙ even_size x (form_of fs) c.body g.body_even) in
    let a1 = wide_append (over c.at c.body c.before) (own ++ (pool c.behind c.after ++ later)) in
    let a2 = wide_append own (pool c.behind c.after ++ later) in
    let a3 = wide_append (pool c.behind c.after) later in
    let z = g.at_is in let y = g.behind_is in
    omega arith

pub laid_long : (xs : List Piece) → IsSound xs → length (laid xs).bytes ≡ bytes_of xs
laid_long xs s = written_long nothing (cells_of xs) ∙ cells_wide xs (forms xs) s.each ((forms_proper xs).limited) (label_at xs (layout xs)) [] 0 refl tt
