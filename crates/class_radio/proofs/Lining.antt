-- The closing lines of players are those of what they look like.
use Rattle.std.proofs.Common.{◌≡◌, ℕ, zero, suc, ◌+◌, ◌≤◌, ◌<◌, Bool, true, false, not, ◌&&◌, ◌||◌, if◌then◌else◌, List, [], ◌∷◌, ◌++◌, length, take, drop, get_or, max, Option, Some, None, is_some, Result, Ok, Err, refl, ap, sym, ◌∙◌, subst, arith, append_assoc}
use Rattle.std.proofs.lemmas.List.{take_more, append-nil, length-take-le, take-append-drop, take_all}
use Rattle.std.specs.Option.{option_map}
use Rattle.board_world.specs.Observations.{ByteList, Observation}
use Rattle.class_world.specs.Lines.{board_lead, numbered, is_stopped, latest, closing_lines}
use Rattle.board_world.specs.Before.{is_by_clock}
use Rattle.tool_io.specs.Putting.{Puts}
use Rattle.tool_io.proofs.Laws.{puts-then, puts-more, puts-as}
use Rattle.class_steps.specs.Outlook.{looks, some_next, last_line}
use Rattle.board_run.specs.declared.end.Stop.{Stop}
use Rattle.board_run.specs.declared.end.Stop.TheVariants.{Quiet, Script, Panic, Fault}
use Rattle.class_radio.specs.declared.player.Player.{Player}
use Rattle.class_radio.specs.declared.player.Standing.{Standing}
use Rattle.board_run.specs.Represents.{end_of}
use Rattle.class_radio.specs.Playing.{standing_of, outlook}
use Rattle.class_radio.specs.Stepped.{outlooks}
use Rattle.class_radio.specs.Closing.{IsLed, AreLed, some_due, latest_clock, last_line_of, end_line_of, stands_same, how_many_stand}

-- a line behind the lead of a number
pub led_line : (number : ℕ) (lead got text : ByteList) → got ≡ lead → lead ≡ board_lead number → got ++ text ≡ numbered number text
led_line number lead got text e f = ap (λ (l : ByteList). l ++ text) (e ∙ f)

-- step by step
latest_append : (xs : List Player) (x : Player) → latest_clock (xs ++ x ∷ []) ≡ max (latest_clock xs) x.board.engine.clock
latest_append [] x = omega arith
latest_append (y ∷ ys) x = (let ih : latest_clock (ys ++ x ∷ []) ≡ max (latest_clock ys) x.board.engine.clock = latest_append ys x in omega (arith, ih))

pub latest_more : (all : List Player) (i : ℕ) (x : Player) → i < length all → x ≡ get_or all i x → latest_clock (take (i + 1) all) ≡ max (latest_clock (take i all)) x.board.engine.clock
latest_more all i x l e = ap latest_clock (take_more all i x l) ∙ latest_append (take i all) (get_or all i x) ∙ ap (λ (p : Player). max (latest_clock (take i all)) p.board.engine.clock) (sym e)

count_append : (s : Standing) (xs : List Player) (x : Player) → how_many_stand s (xs ++ x ∷ []) ≡ how_many_stand s xs + (if stands_same x.standing s then 1 else 0)
count_append s [] x = omega arith
count_append s (y ∷ ys) x = (let ih : how_many_stand s (ys ++ x ∷ []) ≡ how_many_stand s ys + (if stands_same x.standing s then 1 else 0) = count_append s ys x in omega (arith, ih))

pub count_more : (s : Standing) (all : List Player) (i : ℕ) (x : Player) → i < length all → x ≡ get_or all i x → how_many_stand s (take (i + 1) all) ≡ how_many_stand s (take i all) + (if stands_same x.standing s then 1 else 0)
count_more s all i x l e = ap (how_many_stand s) (take_more all i x l) ∙ count_append s (take i all) (get_or all i x) ∙ ap (λ (p : Player). how_many_stand s (take i all) + (if stands_same p.standing s then 1 else 0)) (sym e)

-- the lines of players, from this number on
abbrev pub ends_of : ByteList → ℕ → List Player → ByteList
ends_of text b [] = []
ends_of text b (p ∷ ps) = end_line_of p.standing b text ++ ends_of text (suc b) ps

ends_append : (text : ByteList) (b n : ℕ) (xs ys : List Player) → length xs + b ≡ n → ends_of text b (xs ++ ys) ≡ ends_of text b xs ++ ends_of text n ys
ends_append text b n [] ys e = (let same : b ≡ n = omega (arith, e) in ap (λ (i : ℕ). ends_of text i ys) same)
ends_append text b n (x ∷ xs) ys e =
    ap (λ (l : ByteList). end_line_of x.standing b text ++ l) (ends_append text (suc b) n xs ys (omega (arith, e))) ∙ sym (append_assoc (end_line_of x.standing b text) (ends_of text (suc b) xs) (ends_of text n ys))

length_take : (i : ℕ) (all : List Player) → i < length all → length (take i all) ≡ i
length_take i all l = length-take-le i all (omega (arith, l))

pub ends_more : (text : ByteList) (all : List Player) (i : ℕ) (x : Player) → i < length all → x ≡ get_or all i x → ends_of text 0 (take (i + 1) all) ≡ ends_of text 0 (take i all) ++ end_line_of x.standing i text
ends_more text all i x l e =
    (let n : length (take i all) ≡ i = length_take i all l in
    ap (ends_of text 0) (take_more all i x l) ∙ ends_append text 0 i (take i all) (get_or all i x ∷ []) (omega (arith, n))
    ∙ ap (λ (p : Player). ends_of text 0 (take i all) ++ (end_line_of p.standing i text ++ [])) (sym e)
    ∙ ap (λ (l' : ByteList). ends_of text 0 (take i all) ++ l') (append-nil (end_line_of x.standing i text)))

pub led_at : (b i : ℕ) (all : List Player) (d : Player) → AreLed b all → i < length all → IsLed (i + b) (get_or all i d)
led_at b i [] d h l = absurd (omega (arith, l))
led_at b zero (p ∷ ps) d h l = (let same : zero + b ≡ b = omega arith in subst (λ (n : ℕ). IsLed n p) (sym same) h.0)
led_at b (suc i) (p ∷ ps) d h l = (let same : suc i + b ≡ i + suc b = omega arith in subst (λ (n : ℕ). IsLed n (get_or ps i d)) (sym same) (led_at (suc b) i ps d h.1 (omega (arith, l))))

-- what they look like
some_looks : (seen : List (List Observation)) (ps : List Player) → some_next (outlooks seen ps) ≡ some_due ps
some_looks seen [] = refl
some_looks [] (p ∷ ps) = ap (λ (c : Bool). is_some p.due || c) (some_looks [] ps)
some_looks (os ∷ seen) (p ∷ ps) = ap (λ (c : Bool). is_some p.due || c) (some_looks seen ps)

latest_looks : (seen : List (List Observation)) (ps : List Player) → latest (looks (outlooks seen ps)) ≡ latest_clock ps
latest_looks seen [] = refl
latest_looks [] (p ∷ ps) = ap (max p.board.engine.clock) (latest_looks [] ps)
latest_looks (os ∷ seen) (p ∷ ps) = ap (max p.board.engine.clock) (latest_looks seen ps)

line_looks : (e : Option Stop) (number : ℕ) (text : ByteList) → end_line_of (standing_of e) number text ≡ (if is_some (option_map end_of e) && not (is_by_clock (option_map end_of e)) then [] else numbered number text)
line_looks None number text = refl
line_looks (Some Quiet) number text = refl
line_looks (Some Script) number text = refl
line_looks (Some (Panic code)) number text = refl
line_looks (Some (Fault fault address)) number text = refl

ends_looks : (text : ByteList) (b : ℕ) (seen : List (List Observation)) (ps : List Player) → AreLed b ps → ends_of text b ps ≡ closing_lines text b (looks (outlooks seen ps))
ends_looks text b seen [] h = refl
ends_looks text b [] (p ∷ ps) h =
    ap (λ (s : Standing). end_line_of s b text ++ ends_of text (suc b) ps) h.0.stands ∙ ap (λ (l : ByteList). l ++ ends_of text (suc b) ps) (line_looks p.board.engine.end b text)
    ∙ ap (λ (l : ByteList). (if is_stopped (outlook [] p).board then [] else numbered b text) ++ l) (ends_looks text (suc b) [] ps h.1)
ends_looks text b (os ∷ seen) (p ∷ ps) h =
    ap (λ (s : Standing). end_line_of s b text ++ ends_of text (suc b) ps) h.0.stands ∙ ap (λ (l : ByteList). l ++ ends_of text (suc b) ps) (line_looks p.board.engine.end b text)
    ∙ ap (λ (l : ByteList). (if is_stopped (outlook os p).board then [] else numbered b text) ++ l) (ends_looks text (suc b) seen ps h.1)

pub text_looks : (end : ℕ) (seen : List (List Observation)) (ps : List Player) (by_script : Bool) (last : ℕ) → by_script ≡ some_due ps → last ≡ latest_clock ps → AreLed 0 ps
    → ends_of (last_line_of by_script end last) 0 ps ≡ closing_lines (last_line end (outlooks seen ps)) 0 (looks (outlooks seen ps))
text_looks end seen ps by_script last e f led =
    ap (λ (c : Bool). ends_of (last_line_of c end last) 0 ps) (e ∙ sym (some_looks seen ps))
    ∙ ap (λ (n : ℕ). ends_of (last_line_of (some_next (outlooks seen ps)) end n) 0 ps) (f ∙ sym (latest_looks seen ps))
    ∙ ends_looks (last_line end (outlooks seen ps)) 0 seen ps led

-- a step of counting
at_most_one : (b : Bool) → (if b then 1 else 0) ≤ 1
at_most_one true = omega arith
at_most_one false = omega arith

pub count_step : (s : Standing) (all : List Player) (i : ℕ) (x : Player) (count one : ℕ) → i < length all → x ≡ get_or all i x → count ≡ how_many_stand s (take i all) → count ≤ i → one ≡ (if stands_same x.standing s then 1 else 0)
    → (count + one ≡ how_many_stand s (take (i + 1) all)) × (count + one ≤ i + 1)
count_step s all i x count one l e f k g =
    (let more : how_many_stand s (take (i + 1) all) ≡ how_many_stand s (take i all) + (if stands_same x.standing s then 1 else 0) = count_more s all i x l e in
    let low : (if stands_same x.standing s then 1 else 0) ≤ 1 = at_most_one (stands_same x.standing s) in
    (ap (λ (n : ℕ). n + one) f ∙ ap (λ (n : ℕ). how_many_stand s (take i all) + n) g ∙ sym more, omega (arith, k, g, low)))

-- the lines before a board, and then its own
module _ {E : Type 0} {a b c : Option (List ℕ)} {m n o : ℕ} (end : ℕ) (all : List Player) (by_script : Bool) (last : ℕ) (i : ℕ) (x : Player) (l : i < length all) (e : x ≡ get_or all i x) (r : Result (Unit {0}) E)
    (so_far : Puts {T = Unit {0}} {E = E} a b m n (ends_of (last_line_of by_script end last) 0 (take i all)) (Ok tt))
    (puts : (number : ℕ) → IsLed number x → Puts {T = Unit {0}} {E = E} b c n o (end_line_of x.standing number (last_line_of by_script end last)) r) (led : AreLed 0 all) where
  led_here : IsLed i x
  led_here = (let same : i + 0 ≡ i = omega arith in subst (λ (p : Player). IsLed i p) (sym e) (subst (λ (k : ℕ). IsLed k (get_or all i x)) same (led_at 0 i all x led l)))

  put_more : Puts {T = Unit {0}} {E = E} a c m o (ends_of (last_line_of by_script end last) 0 (take (i + 1) all)) r
  put_more =
      (let text = last_line_of by_script end last in
      puts-as r (ends_of text 0 (take i all) ++ end_line_of x.standing i text) (ends_of text 0 (take (i + 1) all)) (sym (ends_more text all i x l e))
      (puts-then {T = Unit {0}} {U = Unit {0}} {E = E} tt r (ends_of text 0 (take i all)) (end_line_of x.standing i text) so_far (puts i led_here)))

  pub goes_at : (u : Unit {0}) → r ≡ Ok u → Puts {T = Unit {0}} {E = E} a c m o (ends_of (last_line_of by_script end last) 0 (take (i + 1) all)) (Ok tt)
  goes_at u q = (let p : Puts {T = Unit {0}} {E = E} a c m o (ends_of (last_line_of by_script end last) 0 (take (i + 1) all)) (Ok u) = subst (λ (r' : Result (Unit {0}) E). Puts {T = Unit {0}} {E = E} a c m o (ends_of (last_line_of by_script end last) 0 (take (i + 1) all)) r') q put_more in
      record { took = p.took; part = tt; later = p.later; failed = tt })

  pub fails_at : (seen : List (List Observation)) → by_script ≡ some_due all → last ≡ latest_clock all → (f : E) → r ≡ Err f
      → Puts {T = Unit {0}} {E = E} a c m o (closing_lines (last_line end (outlooks seen all)) 0 (looks (outlooks seen all))) (Err f)
  fails_at seen e' l' f q =
      (let text = last_line_of by_script end last in
      let p : Puts {T = Unit {0}} {E = E} a c m o (ends_of (last_line_of by_script end last) 0 (take (i + 1) all)) (Err f) = subst (λ (r' : Result (Unit {0}) E). Puts {T = Unit {0}} {E = E} a c m o (ends_of (last_line_of by_script end last) 0 (take (i + 1) all)) r') q put_more in
      let rest = ends_of text (i + 1) (drop (i + 1) all) in
      let len : length (take (i + 1) all) ≡ i + 1 = length-take-le (i + 1) all (omega (arith, l)) in
      let count : length (take (i + 1) all) + 0 ≡ i + 1 = omega (arith, len) in
      let split : ends_of text 0 (take (i + 1) all) ++ rest ≡ ends_of text 0 all = sym (ends_append text 0 (i + 1) (take (i + 1) all) (drop (i + 1) all) count) ∙ ap (ends_of text 0) (take-append-drop (i + 1) all) in
      puts-as (Err f) (ends_of text 0 (take (i + 1) all) ++ rest) (closing_lines (last_line end (outlooks seen all)) 0 (looks (outlooks seen all))) (split ∙ text_looks end seen all by_script last e' l' led)
      (puts-more {T = Unit {0}} {U = Unit {0}} {E = E} f (ends_of text 0 (take (i + 1) all)) rest p))

-- and all of them
pub ends_at : {E : Type 0} {a b : Option (List ℕ)} {m n : ℕ} (end : ℕ) (all : List Player) (by_script : Bool) (last : ℕ) (i : ℕ) → length all ≤ i → Puts {T = Unit {0}} {E = E} a b m n (ends_of (last_line_of by_script end last) 0 (take i all)) (Ok tt)
    → (seen : List (List Observation)) → by_script ≡ some_due all → last ≡ latest_clock all → AreLed 0 all → Puts {T = Unit {0}} {E = E} a b m n (closing_lines (last_line end (outlooks seen all)) 0 (looks (outlooks seen all))) (Ok tt)
ends_at end all by_script last i l p seen e' l' led =
    puts-as (Ok tt) (ends_of (last_line_of by_script end last) 0 (take i all)) _ (ap (ends_of (last_line_of by_script end last) 0) (take_all i all l) ∙ text_looks end seen all by_script last e' l' led) p
