-- The code's rounds.
use Rattle.std.proofs.Common.{zero, suc, ◌≡◌, ℕ, ◌+◌, ◌*◌, ◌-◌, ◌≤◌, ◌<◌, List, [], ◌∷◌, ◌++◌, length, drop, take, get_or, drop-cons, map, Bool, true, false, cond, not, Some, unwrap_or, refl, sym, ap, ◌∙◌, subst, arith, ◌==◌}
use Rattle.std.proofs.lemmas.List.{get_or-map, take_more, take_all, drop_all, append_assoc, map-append, length-map}
use Rattle.thumb_layout.proofs.Chunks.{append_none}
use Rattle.thumb_layout.proofs.Settling.{limit_two, short_proper, proper_round, rounds_more, settled, proper_total}
use Rattle.std.proofs.lemmas.Option.{slice_get-get_or}
use Rattle.thumb_layout.specs.declared.pieces.Piece.{Piece}
use Rattle.thumb_layout.specs.declared.pieces.Piece.TheVariants.{Plain, Label, Go, CallTo, Number, Address}
use Rattle.thumb_layout.specs.declared.places.PieceOffsets.{PieceOffsets}
use Rattle.thumb_layout.specs.Soundness.{times, IsSound}
use Rattle.thumb_layout.specs.Layout.{Wait, Chunk, nowhere, nth, end_of, chunk, form_of, rest_of, pass, chunks, label_index, label_at}
use Rattle.thumb_layout.specs.Rounds.{fits, lengthened, round, rounds, short, forms, IsLimited, total}
use Rattle.thumb_layout.specs.Placing.{place_of, IsProper, target_of, targets_of, found, target_in}

pub pass_length : (xs : List Piece) (fs : List ℕ) (ws : List Wait) (at : ℕ) → length (pass xs fs ws at) ≡ length xs + 1
pass_length [] fs ws at = refl
pass_length (x ∷ xs) fs ws at = let c = chunk x (form_of fs) ws at in let i = pass_length xs (rest_of fs) c.waiting (end_of c) in omega arith

index_of_label : (xs : List Piece) (l : ℕ) → label_index xs l ≤ length xs
index_of_label [] l = omega arith
index_of_label (Label k ∷ xs) l = by (k == l) (index_of_label xs l)
  where
    by : (b : Bool) → label_index xs l ≤ length xs → cond b 0 (suc (label_index xs l)) ≤ suc (length xs)
    by true h = omega arith
    by false h = omega arith
index_of_label (Plain x ∷ xs) l = let i = index_of_label xs l in omega arith
index_of_label (Go c m ∷ xs) l = let i = index_of_label xs l in omega arith
index_of_label (CallTo f ∷ xs) l = let i = index_of_label xs l in omega arith
index_of_label (Number rd v ∷ xs) l = let i = index_of_label xs l in omega arith
index_of_label (Address rd w ∷ xs) l = let i = index_of_label xs l in omega arith

pub target_within : (xs : List Piece) (x : Piece) → target_of xs x ≤ length xs
target_within xs (Plain x) = omega arith
target_within xs (Label l) = omega arith
target_within xs (Go c l) = index_of_label xs l
target_within xs (CallTo f) = omega arith
target_within xs (Number rd v) = omega arith
target_within xs (Address rd w) = omega arith

pub target_at : (xs : List Piece) (i : ℕ) (d : Piece) → i < length xs → get_or (targets_of xs) i 0 ≡ target_of xs (get_or xs i d)
target_at xs i d h = get_or-map (target_of xs) xs i d 0 h

nth_get : (cs : List Chunk) (i : ℕ) → get_or cs i nowhere ≡ nth cs i
nth_get [] i = refl
nth_get (c ∷ cs) zero = refl
nth_get (c ∷ cs) (suc i) = nth_get cs i

pub place_at : (cs : List Chunk) (i : ℕ) (d : PieceOffsets) → i < length cs → get_or (map place_of cs) i d ≡ place_of (nth cs i)
place_at cs i d h = get_or-map place_of cs i nowhere d h ∙ ap place_of (nth_get cs i)

-- where a branch goes
abbrev Leads : (ℕ → ℕ) → Piece → ℕ → Type 0
Leads to (Go c l) t = t ≡ to l
Leads to x t = Unit {0}

leads : (xs : List Piece) (cs : List Chunk) (x : Piece) (t : ℕ) → t ≡ (nth cs (target_of xs x)).at → Leads (label_at xs cs) x t
leads xs cs (Plain x) t e = tt
leads xs cs (Label l) t e = tt
leads xs cs (Go c l) t e = e
leads xs cs (CallTo f) t e = tt
leads xs cs (Number rd v) t e = tt
leads xs cs (Address rd w) t e = tt

fits_same : (to : ℕ → ℕ) (x : Piece) (c : Chunk) (f b t : ℕ) → b ≡ c.body → Leads to x t → fits (λ l. t) x (record nowhere { body = b }) f ≡ fits to x c f
fits_same to (Plain x) c f b t e g = refl
fits_same to (Label l) c f b t e g = refl
fits_same to (Go n l) c f b t e g = ap (λ q. fits (λ l. t) (Go n l) (record nowhere { body = q }) f) e ∙ ap (λ q. fits (λ l. q) (Go n l) c f) g
fits_same to (CallTo k) c f b t e g = refl
fits_same to (Number rd v) c f b t e g = refl
fits_same to (Address rd w) c f b t e g = refl

-- what the code tests of piece i is whether it fits
pub fits_at : (xs : List Piece) (cs : List Chunk) (i : ℕ) (x : Piece) (f : ℕ) (dp dt : PieceOffsets) (places : List PieceOffsets) (targets : List ℕ) → places ≡ map place_of cs → length cs ≡ length xs + 1 → i < length xs
    → get_or targets i 0 ≡ target_of xs x
    → fits (λ l. (get_or places (get_or targets i 0) dt).at) x (record nowhere { body = (get_or places i dp).body }) f ≡ fits (label_at xs cs) x (nth cs i) f
fits_at xs cs i x f dp dt places targets p n l t =
    let w = target_within xs x in
    let b : (get_or places i dp).body ≡ (nth cs i).body = ap (λ q. (get_or q i dp).body) p ∙ ap (λ q. q.body) (place_at cs i dp (omega arith)) in
    let a : (get_or places (get_or targets i 0) dt).at ≡ (nth cs (target_of xs x)).at =
    ap (λ q. (get_or q (get_or targets i 0) dt).at) p ∙ (ap (λ k. (get_or (map place_of cs) k dt).at) t ∙ ap (λ q. q.at) (place_at cs (target_of xs x) dt (omega arith))) in
    fits_same (label_at xs cs) x (nth cs i) f _ _ b (leads xs cs x _ a)

-- The loop of a round: what is made, and what is left to make, is the whole.
pub record RoundLoop (to : ℕ → ℕ) (xs : List Piece) (cs : List Chunk) (fs : List ℕ) (i : ℕ) (out : List ℕ) (grown : Bool) : Type 0 where
  pub made : out ++ lengthened to (drop i xs) (drop i cs) (drop i fs) ≡ lengthened to xs cs fs
  pub limited : IsLimited (drop i xs) (drop i fs)
  pub same : grown ≡ false → out ≡ take i fs
  pub more : grown ≡ true → total (take i fs) < total out

pub round_init : (to : ℕ → ℕ) (xs : List Piece) (cs : List Chunk) (fs : List ℕ) → IsLimited xs fs → RoundLoop to xs cs fs 0 [] false
round_init to xs cs fs l = record { made = refl; limited = l; same = λ e. refl; more = λ e. cc }

pub drop_cons : {A : Type 0} (l : List A) (i : ℕ) (d : A) → i < length l → drop i l ≡ get_or l i d ∷ drop (i + 1) l
drop_cons l i d h = let e : i + 1 ≡ suc i = omega arith in rw e (drop-cons l i d h)

total_append : (xs bs : List ℕ) → total (xs ++ bs) ≡ total xs + total bs
total_append [] bs = omega arith
total_append (a ∷ xs) bs = let i = total_append xs bs in omega arith

-- the form of the next piece is no longer than its longest
pub form_small : (to : ℕ → ℕ) (xs : List Piece) (cs : List Chunk) (fs : List ℕ) (i : ℕ) (out : List ℕ) (grown : Bool) (d : Piece) → i < length xs → length fs ≡ length xs → RoundLoop to xs cs fs i out grown → get_or fs i 0 ≤ 2
form_small to xs cs fs i out grown d l e h =
    let ex : drop i xs ≡ get_or xs i d ∷ drop (i + 1) xs = drop_cons xs i d l in
    let ef : drop i fs ≡ get_or fs i 0 ∷ drop (i + 1) fs = drop_cons fs i 0 (omega arith) in
    let m : IsLimited (get_or xs i d ∷ drop (i + 1) xs) (get_or fs i 0 ∷ drop (i + 1) fs) = subst (λ q. IsLimited (get_or xs i d ∷ drop (i + 1) xs) q) ef (subst (λ q. IsLimited q (drop i fs)) ex h.limited) in
    let a = m.0 in
    let b = limit_two (get_or xs i d) in
    omega arith

step_same : (out taken : List ℕ) (f f' : ℕ) (b grown : Bool) → (grown ≡ false → out ≡ taken) → f' ≡ cond b f (f + 1) → cond b grown true ≡ false → out ++ f' ∷ [] ≡ taken ++ f ∷ []
step_same out taken f f' true grown h e g = ap (λ q. q ++ f' ∷ []) (h g) ∙ ap (λ q. taken ++ q ∷ []) e
step_same out taken f f' false grown h e g = cc

step_more : (out taken : List ℕ) (f f' : ℕ) (b grown : Bool) → (grown ≡ false → out ≡ taken) → (grown ≡ true → total taken < total out) → f' ≡ cond b f (f + 1) → cond b grown true ≡ true → total (taken ++ f ∷ []) < total (out ++ f' ∷ [])
step_more out taken f f' true true h k e g = let a = total_append out (f' ∷ []) in let b = total_append taken (f ∷ []) in let m = k refl in omega arith
step_more out taken f f' true false h k e g = cc
step_more out taken f f' false true h k e g = let a = total_append out (f' ∷ []) in let b = total_append taken (f ∷ []) in let m = k refl in omega arith
step_more out taken f f' false false h k e g = let a = total_append out (f' ∷ []) in let b = total_append taken (f ∷ []) in let m = ap total (h refl) in omega arith

pub round_step : (to : ℕ → ℕ) (xs : List Piece) (cs : List Chunk) (fs : List ℕ) (i : ℕ) (out : List ℕ) (grown : Bool) (d : Piece) → i < length xs → length fs ≡ length xs → length cs ≡ length xs + 1 → RoundLoop to xs cs fs i out grown
    → (b : Bool) → b ≡ fits to (get_or xs i d) (nth cs i) (get_or fs i 0) → (out' : List ℕ) (grown' : Bool) → out' ≡ out ++ cond b (get_or fs i 0) (get_or fs i 0 + 1) ∷ [] → grown' ≡ cond b grown true
    → RoundLoop to xs cs fs (i + 1) out' grown'
round_step to xs cs fs i out grown d l e n h b t out' grown' o g =
    let x = get_or xs i d in
    let f = get_or fs i 0 in
    let ex : drop i xs ≡ x ∷ drop (i + 1) xs = drop_cons xs i d l in
    let ef : drop i fs ≡ f ∷ drop (i + 1) fs = drop_cons fs i 0 (omega arith) in
    let ec : drop i cs ≡ nth cs i ∷ drop (i + 1) cs = drop_cons cs i nowhere (omega arith) ∙ ap (λ q. q ∷ drop (i + 1) cs) (nth_get cs i) in
    let m : IsLimited (x ∷ drop (i + 1) xs) (f ∷ drop (i + 1) fs) = subst (λ q. IsLimited (x ∷ drop (i + 1) xs) q) ef (subst (λ q. IsLimited q (drop i fs)) ex h.limited) in
    let whole : out ++ lengthened to (x ∷ drop (i + 1) xs) (nth cs i ∷ drop (i + 1) cs) (f ∷ drop (i + 1) fs) ≡ lengthened to xs cs fs =
    subst (λ q. out ++ lengthened to (x ∷ drop (i + 1) xs) (nth cs i ∷ drop (i + 1) cs) q ≡ lengthened to xs cs fs) ef
    (subst (λ q. out ++ lengthened to (x ∷ drop (i + 1) xs) q (drop i fs) ≡ lengthened to xs cs fs) ec
    (subst (λ q. out ++ lengthened to q (drop i cs) (drop i fs) ≡ lengthened to xs cs fs) ex h.made)) in
    let tk : take (i + 1) fs ≡ take i fs ++ f ∷ [] = take_more fs i 0 (omega arith) in
    let rest = lengthened to (drop (i + 1) xs) (drop (i + 1) cs) (drop (i + 1) fs) in
    record {
      made = ap (λ q. q ++ rest) o ∙ (append_assoc out (cond b f (f + 1) ∷ []) rest ∙ (ap (λ q. out ++ (cond q f (f + 1) ∷ rest)) t ∙ whole));
      limited = m.1;
      same = λ z. o ∙ (step_same out (take i fs) f (cond b f (f + 1)) b grown h.same refl (sym g ∙ z) ∙ sym tk);
      more = λ z. (let k = step_more out (take i fs) f (cond b f (f + 1)) b grown h.same h.more refl (sym g ∙ z) in let z1 = ap total tk in let z2 = ap total o in omega arith);
    }

lengthened_none : (to : ℕ → ℕ) (cs : List Chunk) (fs : List ℕ) → fs ≡ [] → lengthened to [] cs fs ≡ []
lengthened_none to cs fs e = e

pub round_end : (to : ℕ → ℕ) (xs : List Piece) (cs : List Chunk) (fs : List ℕ) (i : ℕ) (out : List ℕ) (grown : Bool) → length xs ≤ i → length fs ≡ length xs → RoundLoop to xs cs fs i out grown
    → (out ≡ lengthened to xs cs fs) × (grown ≡ false → out ≡ fs) × (grown ≡ true → total fs < total out)
round_end to xs cs fs i out grown l e h =
    let a : drop i xs ≡ [] = drop_all i xs l in
    let b : drop i fs ≡ [] = drop_all i fs (omega arith) in
    let t : take i fs ≡ fs = take_all i fs (omega arith) in (
      sym (append_none out) ∙ (sym (ap (λ q. out ++ q) (ap (λ q. lengthened to q (drop i cs) (drop i fs)) a ∙ b)) ∙ h.made),
      λ z. h.same z ∙ t,
      λ z. (let k = h.more z in let w = ap total t in omega arith),
    )

-- what the rounds keep
pub record Settling (xs : List Piece) (fs : List ℕ) : Type 0 where
  pub proper : IsProper xs fs
  pub count : ℕ
  pub reached : fs ≡ rounds xs count (short xs)

-- targets

found_by : (n k l : ℕ) (xs : List Piece) (b : Bool) → (k == l) ≡ b → (cond b 1 0 + times l xs ≡ 1) → (times l xs ≡ 1 → found (suc n) xs l ≡ Some (suc n + label_index xs l)) → cond b (Some n) (found (suc n) xs l) ≡ Some (n + cond b 0 (suc (label_index xs l)))
found_by n k l xs true e t h = let z : n ≡ n + 0 = omega arith in ap (λ q. Some q) z
found_by n k l xs false e t h = let z : suc n + label_index xs l ≡ n + suc (label_index xs l) = omega arith in h (omega arith) ∙ ap (λ q. Some q) z

next_found : (n m : ℕ) → Some (suc n + m) ≡ Some (n + suc m)
next_found n m = let z : suc n + m ≡ n + suc m = omega arith in ap (λ q. Some q) z

found_once : (n l : ℕ) (xs : List Piece) → times l xs ≡ 1 → found n xs l ≡ Some (n + label_index xs l)
found_once n l [] t = absurd (omega arith)
found_once n l (Label k ∷ xs) t = found_by n k l xs (k == l) refl t (found_once (suc n) l xs)
found_once n l (Plain x ∷ xs) t = found_once (suc n) l xs t ∙ next_found n (label_index xs l)
found_once n l (Go c m ∷ xs) t = found_once (suc n) l xs t ∙ next_found n (label_index xs l)
found_once n l (CallTo f ∷ xs) t = found_once (suc n) l xs t ∙ next_found n (label_index xs l)
found_once n l (Number rd v ∷ xs) t = found_once (suc n) l xs t ∙ next_found n (label_index xs l)
found_once n l (Address rd w ∷ xs) t = found_once (suc n) l xs t ∙ next_found n (label_index xs l)

target_by : (xs : List Piece) (x : Piece) → ((c l : ℕ) → x ≡ Go c l → times l xs ≡ 1) → target_in xs x ≡ target_of xs x
target_by xs (Plain x) h = refl
target_by xs (Label l) h = refl
target_by xs (Go c l) h = let z : 0 + label_index xs l ≡ label_index xs l = omega arith in ap (λ q. unwrap_or q 0) (found_once 0 l xs (h c l refl)) ∙ z
target_by xs (CallTo f) h = refl
target_by xs (Number rd v) h = refl
target_by xs (Address rd w) h = refl

-- in sound pieces the map gives each branch's piece
pub target_sound : (xs : List Piece) (i : ℕ) (d : Piece) → IsSound xs → i < length xs → target_in xs (get_or xs i d) ≡ target_of xs (get_or xs i d)
target_sound xs i d s l = target_by xs (get_or xs i d) (λ c m e. s.labels i c m (slice_get-get_or xs i d l ∙ ap (λ q. Some q) e))

pub short_step : (xs : List Piece) (i : ℕ) (d : Piece) (out out' : List ℕ) → i < length xs → out' ≡ out ++ 0 ∷ [] → out ++ short (drop i xs) ≡ short xs → out' ++ short (drop (i + 1) xs) ≡ short xs
short_step xs i d out out' l o h =
    ap (λ q. q ++ short (drop (i + 1) xs)) o ∙ (append_assoc out (0 ∷ []) (short (drop (i + 1) xs)) ∙ (sym (ap (λ q. out ++ short q) (drop_cons xs i d l)) ∙ h))

pub short_end : (xs : List Piece) (i : ℕ) (out : List ℕ) → length xs ≤ i → out ++ short (drop i xs) ≡ short xs → out ≡ short xs
short_end xs i out l h = sym (append_none out) ∙ (sym (ap (λ q. out ++ short q) (drop_all i xs l)) ∙ h)

pub targets_step : (xs : List Piece) (i : ℕ) (d : Piece) (out out' : List ℕ) (t : ℕ) → i < length xs → out' ≡ out ++ t ∷ [] → t ≡ target_of xs (get_or xs i d) → out ≡ map (target_of xs) (take i xs) → out' ≡ map (target_of xs) (take (i + 1) xs)
targets_step xs i d out out' t l o e h =
    o ∙ (ap (λ q. q ++ t ∷ []) h ∙ (ap (λ q. map (target_of xs) (take i xs) ++ q ∷ []) e ∙ (sym (map-append (target_of xs) (take i xs) (get_or xs i d ∷ [])) ∙ sym (ap (map (target_of xs)) (take_more xs i d l)))))

pub places_long : (xs : List Piece) (fs : List ℕ) (places : List PieceOffsets) → places ≡ map place_of (chunks xs fs) → length places ≡ length xs + 1
places_long xs fs places p = ap length p ∙ (length-map (chunks xs fs) place_of ∙ pass_length xs fs [] 0)

pub target_bound : (xs : List Piece) (fs : List ℕ) (places : List PieceOffsets) (targets : List ℕ) (i : ℕ) (d : Piece) → places ≡ map place_of (chunks xs fs) → targets ≡ targets_of xs → i < length xs → get_or targets i 0 < length places
target_bound xs fs places targets i d p t l =
    let a = places_long xs fs places p in
    let b : get_or targets i 0 ≡ target_of xs (get_or xs i d) = ap (λ q. get_or q i 0) t ∙ target_at xs i d l in
    let w = target_within xs (get_or xs i d) in
    omega arith

pub settle_first : (xs : List Piece) (fs : List ℕ) → fs ≡ short xs → Settling xs fs
settle_first xs fs e = record { proper = subst (IsProper xs) (sym e) (short_proper xs); count = 0; reached = e }

pub settle_next : (xs : List Piece) (fs fs' : List ℕ) → Settling xs fs → fs' ≡ round xs fs → Settling xs fs'
settle_next xs fs fs' s e =
    record { proper = subst (IsProper xs) (sym e) (proper_round xs fs s.proper); count = s.count + 1; reached = e ∙ (ap (round xs) s.reached ∙ sym (rounds_more xs s.count (short xs))) }

pub settle_last : (xs : List Piece) (fs fs' : List ℕ) → Settling xs fs → fs' ≡ round xs fs → fs' ≡ fs → fs ≡ forms xs
settle_last xs fs fs' s e h = settled xs s.count fs s.reached (sym e ∙ h)

pub settle_smaller : (xs : List Piece) (fs fs' : List ℕ) → Settling xs fs → fs' ≡ round xs fs → total fs < total fs' → 2 * length xs - total fs' < 2 * length xs - total fs
settle_smaller xs fs fs' s e h = let a = proper_total xs fs' ((settle_next xs fs fs' s e).proper) in omega arith

pub is_false : (b : Bool) → not b ≡ true → b ≡ false
is_false true e = sym e
is_false false e = refl

pub is_true : (b : Bool) → not b ≡ false → b ≡ true
is_true true e = refl
is_true false e = sym e
