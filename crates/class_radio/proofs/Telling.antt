-- What the loops over boards and numbers do to a list of players.
use Rattle.std.proofs.Common.{◌≡◌, ◌≤◌, ◌<◌, ℕ, suc, zero, ◌+◌, ℤ, pos, Bool, true, false, ◌||◌, if◌then◌else◌, ◌==◌, List, [], ◌∷◌, ◌++◌, length, map, take, get_or, refl, ap, sym, ◌∙◌, subst, arith, append-nil, append_assoc}
use Rattle.std.proofs.Math.ListN.{set}
use Rattle.std.proofs.lemmas.Bool.Decides.{nat_tests}
use Rattle.std.proofs.lemmas.List.{get_or-set_same, get_or-set_other, get_or_default, set-get_or}
use Rattle.class_radio.specs.declared.player.Player.{Player}
use Rattle.class_radio.specs.declared.player.Standing.{Standing}
use Rattle.class_radio.specs.declared.player.Standing.TheVariants.{Plays, Panicked, Faulted}
use Rattle.class_radio.specs.Playing.{hearing_as, hearing, hearing_all, said}
use Rattle.class_radio.specs.Hearing.{told_to, all_hearing}

pub hearing_append : (t : ℕ) (xs ys : List ℤ) (p : Player) → hearing_all t (xs ++ ys) p ≡ hearing_all t ys (hearing_all t xs p)
hearing_append t [] ys p = refl
hearing_append t (x ∷ xs) ys p = hearing_append t xs ys (hearing t x p)

-- what a player said stays, whatever it hears
said_hearing : (u t : ℕ) (n : ℤ) (p : Player) → said u (hearing t n p) ≡ said u p
said_hearing u t n p = by_standing p.standing
  where
    by_standing : (s : Standing) → said u (hearing_as s t n p) ≡ said u p
    by_standing Plays = refl
    by_standing Panicked = refl
    by_standing Faulted = refl

pub said_still : (u t : ℕ) (ns : List ℤ) (p : Player) → said u (hearing_all t ns p) ≡ said u p
said_still u t [] p = refl
said_still u t (n ∷ ns) p = said_still u t ns (hearing t n p) ∙ said_hearing u t n p

set_twice : (xs : List Player) (n : ℕ) (x y : Player) → set (set xs n x) n y ≡ set xs n y
set_twice [] n x y = refl
set_twice (z ∷ zs) zero x y = refl
set_twice (z ∷ zs) (suc n) x y = ap (λ (ps : List Player). z ∷ ps) (set_twice zs n x y)

-- one more number is heard
pub one_more : (t from to : ℕ) (old now : List Player) (k : ℕ) (numbers : List ℤ) (n : ℤ) (d : Player) → to < length old → k < length numbers
    → now ≡ set old to (hearing_all t (take k numbers) (get_or old to d)) → n ≡ get_or numbers k n
    → set now to (hearing t n (get_or now to d)) ≡ set old to (hearing_all t (take (k + 1) numbers) (get_or old to d))
one_more t from to old now k numbers n d within some is read =
    (let q = hearing_all t (take k numbers) (get_or old to d) in
    let here : get_or now to d ≡ q = ap (λ (ps : List Player). get_or ps to d) is ∙ get_or-set_same old to q d within in
    let more : take (k + 1) numbers ≡ take k numbers ++ n ∷ [] = take_one numbers k n some read in
    ap (λ (p : Player). set now to (hearing t n p)) here
    ∙ ap (λ (ps : List Player). set ps to (hearing t n q)) is
    ∙ set_twice old to q (hearing t n q)
    ∙ ap (set old to) (sym (ap (λ (ns : List ℤ). hearing_all t ns (get_or old to d)) more ∙ hearing_append t (take k numbers) (n ∷ []) (get_or old to d))))
  where
    take_one : {X : Type 0} (xs : List X) (i : ℕ) (x : X) → i < length xs → x ≡ get_or xs i x → take (i + 1) xs ≡ take i xs ++ x ∷ []
    take_one {X} [] i x l e = absurd (omega (arith, l))
    take_one {X} (y ∷ ys) zero x l e = (let one : zero + 1 ≡ suc zero = omega arith in ap (λ (k : ℕ). take k (y ∷ ys)) one ∙ ap (λ (z : X). z ∷ []) (sym e))
    take_one {X} (y ∷ ys) (suc i) x l e = (let one : suc i + 1 ≡ suc (i + 1) = omega arith in ap (λ (k : ℕ). take k (y ∷ ys)) one ∙ ap (λ (l' : List X). y ∷ l') (take_one ys i x (omega (arith, l)) e))

-- one more board is heard
pub take_more : {X : Type 0} (xs : List X) (i : ℕ) (d : X) → i < length xs → take (i + 1) xs ≡ take i xs ++ get_or xs i d ∷ []
take_more {X} [] i d l = absurd (omega (arith, l))
take_more {X} (y ∷ ys) zero d l = (let one : zero + 1 ≡ suc zero = omega arith in ap (λ (k : ℕ). take k (y ∷ ys)) one)
take_more {X} (y ∷ ys) (suc i) d l = (let one : suc i + 1 ≡ suc (i + 1) = omega arith in ap (λ (k : ℕ). take k (y ∷ ys)) one ∙ ap (λ (l' : List X). y ∷ l') (take_more ys i d (omega (arith, l))))

take_long : {X : Type 0} (xs : List X) (i : ℕ) → i ≤ length xs → length (take i xs) ≡ i
take_long {X} [] zero l = refl
take_long {X} [] (suc i) l = absurd (omega (arith, l))
take_long {X} (x ∷ xs) zero l = refl
take_long {X} (x ∷ xs) (suc i) l = ap suc (take_long xs i (omega (arith, l)))

pub take_whole : {X : Type 0} (xs : List X) (n : ℕ) → n ≡ length xs → take n xs ≡ xs
take_whole {X} [] zero e = refl
take_whole {X} [] (suc n) e = absurd (omega (arith, e))
take_whole {X} (x ∷ xs) zero e = absurd (omega (arith, e))
take_whole {X} (x ∷ xs) (suc n) e = ap (λ (l : List X). x ∷ l) (take_whole xs n (omega (arith, e)))

said_at : (t : ℕ) (ps : List Player) (n : ℕ) (d : Player) → n < length ps → get_or (map (said t) ps) n [] ≡ said t (get_or ps n d)
said_at t [] n d l = absurd (omega (arith, l))
said_at t (p ∷ ps) zero d l = refl
said_at t (p ∷ ps) (suc n) d l = said_at t ps n d (omega (arith, l))

map_long : {X Y : Type 0} (f : X → Y) (xs : List X) → length (map f xs) ≡ length xs
map_long f [] = refl
map_long f (x ∷ xs) = ap suc (map_long f xs)

module _ (lost : ℕ → ℕ → ℕ → Bool) (t j : ℕ) where
  told_append : (i : ℕ) (xs ys : List (List ℤ)) → told_to lost t j i (xs ++ ys) ≡ told_to lost t j i xs ++ told_to lost t j (i + length xs) ys
  told_append i [] ys = (let same : i ≡ i + 0 = omega arith in ap (λ (k : ℕ). told_to lost t j k ys) same)
  told_append i (x ∷ xs) ys =
      (let mine : List ℤ = if (i == j) || lost t i j then [] else x in
      let same : suc i + length xs ≡ i + suc (length xs) = omega arith in
      ap (λ (l : List ℤ). mine ++ l) (told_append (suc i) xs ys ∙ ap (λ (k : ℕ). told_to lost t j (suc i) xs ++ told_to lost t j k ys) same)
      ∙ sym (append_assoc mine (told_to lost t j (suc i) xs) (told_to lost t j (i + suc (length xs)) ys)))

  told_more : (ps : List Player) (from : ℕ) (d : Player) → from < length ps
      → told_to lost t j 0 (take (from + 1) (map (said t) ps)) ≡ told_to lost t j 0 (take from (map (said t) ps)) ++ (if (from == j) || lost t from j then [] else said t (get_or ps from d))
  told_more ps from d l =
      (let long = map_long (said t) ps in
      let inside : from < length (map (said t) ps) = omega (arith, l, long) in
      let S : List (List ℤ) = map (said t) ps in
      let count : 0 + length (take from (map (said t) ps)) ≡ from = (let k = take_long (map (said t) ps) from (omega (arith, inside)) in omega (arith, k)) in
      ap (told_to lost t j 0) (take_more (map (said t) ps) from [] inside)
      ∙ told_append 0 (take from (map (said t) ps)) (get_or (map (said t) ps) from [] ∷ [])
      ∙ ap (λ (k : ℕ). told_to lost t j 0 (take from (map (said t) ps)) ++ told_to lost t j k (get_or (map (said t) ps) from [] ∷ [])) count
      ∙ ap (λ (s : List ℤ). told_to lost t j 0 (take from (map (said t) ps)) ++ ((if (from == j) || lost t from j then [] else s) ++ [])) (said_at t ps from d l)
      ∙ ap (λ (s : List ℤ). told_to lost t j 0 (take from (map (said t) ps)) ++ s) (append-nil (if (from == j) || lost t from j then [] else said t (get_or ps from d))))

  -- the state of a loop over the boards that are heard
  abbrev Heard : (old : List Player) → ℕ → Player → Player
  Heard old from d = hearing_all (t + 1) (told_to lost t j 0 (take from (map (said t) old))) (get_or old j d)

  pub hears_none : (old : List Player) (from : ℕ) (d : Player) → from ≡ 0 → old ≡ set old j (hearing_all (t + 1) (told_to lost t j 0 (take from (map (said t) old))) (get_or old j d))
  hears_none old from d e =
      sym (ap (λ (k : ℕ). set old j (hearing_all (t + 1) (told_to lost t j 0 (take k (map (said t) old))) (get_or old j d))) e ∙ by_list (map (said t) old) ∙ set-get_or old j d)
    where
      by_list : (S : List (List ℤ)) → set old j (hearing_all (t + 1) (told_to lost t j 0 (take 0 S)) (get_or old j d)) ≡ set old j (get_or old j d)
      by_list [] = refl
      by_list (x ∷ xs) = refl

  pub hears_from : (old now new : List Player) (from : ℕ) (d : Player) → j < length old → from < length old → (from ≡ j → ⊥) → lost t from j ≡ false → now ≡ set old j (Heard old from d)
      → new ≡ set now j (hearing_all (t + 1) (said t (get_or now from d)) (get_or now j d)) → new ≡ set old j (Heard old (from + 1) d)
  hears_from old now new from d to_in from_in other kept is heard =
      (let q = Heard old from d in
      let here : get_or now j d ≡ q = ap (λ (ps : List Player). get_or ps j d) is ∙ get_or-set_same old j q d to_in in
      let there : get_or now from d ≡ get_or old from d = ap (λ (ps : List Player). get_or ps from d) is ∙ get_or-set_other old j from q d other in
      let own : (from == j) ≡ false = grind (arith, nat_tests) in
      let test : (if (from == j) || lost t from j then [] else said t (get_or old from d)) ≡ said t (get_or old from d) =
      ap (λ (c : Bool). if c || lost t from j then [] else said t (get_or old from d)) own ∙ ap (λ (c : Bool). if c then [] else said t (get_or old from d)) kept in
      heard
      ∙ ap (λ (p : Player). set now j (hearing_all (t + 1) (said t p) (get_or now j d))) there
      ∙ ap (λ (p : Player). set now j (hearing_all (t + 1) (said t (get_or old from d)) p)) here
      ∙ ap (λ (ps : List Player). set ps j (hearing_all (t + 1) (said t (get_or old from d)) q)) is
      ∙ set_twice old j q _
      ∙ ap (set old j) (sym (ap (λ (ns : List ℤ). hearing_all (t + 1) ns (get_or old j d)) (told_more old from d from_in ∙ ap (λ (s : List ℤ). told_to lost t j 0 (take from (map (said t) old)) ++ s) test)
      ∙ hearing_append (t + 1) (told_to lost t j 0 (take from (map (said t) old))) (said t (get_or old from d)) (get_or old j d))))

  pub hears_not : (old now : List Player) (from : ℕ) (d : Player) → from < length old → (from == j) || lost t from j ≡ true → now ≡ set old j (Heard old from d) → now ≡ set old j (Heard old (from + 1) d)
  hears_not old now from d from_in not_heard is =
      is ∙ ap (λ (ns : List ℤ). set old j (hearing_all (t + 1) ns (get_or old j d)))
      (sym (told_more old from d from_in ∙ ap (λ (c : Bool). told_to lost t j 0 (take from (map (said t) old)) ++ (if c then [] else said t (get_or old from d))) not_heard ∙ append-nil (told_to lost t j 0 (take from (map (said t) old)))))

  pub hears_not_lost : (old now : List Player) (from : ℕ) (d : Player) → from < length old → lost t from j ≡ true → now ≡ set old j (Heard old from d) → now ≡ set old j (Heard old (from + 1) d)
  hears_not_lost old now from d from_in is_lost is = hears_not old now from d from_in (ap (λ (c : Bool). (from == j) || c) is_lost ∙ by_own (from == j)) is
    where
      by_own : (c : Bool) → c || true ≡ true
      by_own true = refl
      by_own false = refl

  pub hears_not_own : (old now : List Player) (from : ℕ) (d : Player) → from < length old → from ≡ j → now ≡ set old j (Heard old from d) → now ≡ set old j (Heard old (from + 1) d)
  hears_not_own old now from d from_in own is = hears_not old now from d from_in (let same : (from == j) ≡ true = grind (arith, nat_tests) in ap (λ (c : Bool). c || lost t from j) same) is

  pub hears_all : (old now : List Player) (from : ℕ) (d : Player) → from ≡ length old → now ≡ set old j (Heard old from d) → now ≡ set old j (hearing_all (t + 1) (told_to lost t j 0 (map (said t) old)) (get_or old j d))
  hears_all old now from d last is = is ∙ ap (λ (S : List (List ℤ)). set old j (hearing_all (t + 1) (told_to lost t j 0 S) (get_or old j d))) (take_whole (map (said t) old) from (last ∙ sym (map_long (said t) old)))

-- the state of a loop over the boards that hear
abbrev pub first_hearing : (lost : ℕ → ℕ → ℕ → Bool) → (t : ℕ) → List (List ℤ) → (n j : ℕ) → List Player → List Player
first_hearing lost t S n j [] = []
first_hearing lost t S zero j (p ∷ ps) = p ∷ ps
first_hearing lost t S (suc n) j (p ∷ ps) = hearing_all (suc t) (told_to lost t j 0 S) p ∷ first_hearing lost t S n (suc j) ps

module _ (lost : ℕ → ℕ → ℕ → Bool) (t : ℕ) (S : List (List ℤ)) where
  pub first_none : (j n : ℕ) (ps : List Player) → n ≡ 0 → first_hearing lost t S n j ps ≡ ps
  first_none j n [] e = refl
  first_none j zero (p ∷ ps) e = refl
  first_none j (suc n) (p ∷ ps) e = absurd (omega (arith, e))

  pub first_all : (j n : ℕ) (ps : List Player) → n ≡ length ps → first_hearing lost t S n j ps ≡ all_hearing lost t S j ps
  first_all j n [] e = refl
  first_all j zero (p ∷ ps) e = absurd (omega (arith, e))
  first_all j (suc n) (p ∷ ps) e = ap (λ (l : List Player). hearing_all (suc t) (told_to lost t j 0 S) p ∷ l) (first_all (suc j) n ps (omega (arith, e)))

  pub first_long : (j n : ℕ) (ps : List Player) → length (first_hearing lost t S n j ps) ≡ length ps
  first_long j n [] = refl
  first_long j zero (p ∷ ps) = refl
  first_long j (suc n) (p ∷ ps) = ap suc (first_long (suc j) n ps)

  first_said : (j n : ℕ) (ps : List Player) → map (said t) (first_hearing lost t S n j ps) ≡ map (said t) ps
  first_said j n [] = refl
  first_said j zero (p ∷ ps) = refl
  first_said j (suc n) (p ∷ ps) = ap (λ (s : List ℤ). s ∷ map (said t) (first_hearing lost t S n (suc j) ps)) (said_still t (suc t) (told_to lost t j 0 S) p) ∙ ap (λ (l : List (List ℤ)). said t p ∷ l) (first_said (suc j) n ps)

  first_step : (j n : ℕ) (ps : List Player) (d : Player) → n < length ps
      → set (first_hearing lost t S n j ps) n (hearing_all (suc t) (told_to lost t (j + n) 0 S) (get_or (first_hearing lost t S n j ps) n d)) ≡ first_hearing lost t S (suc n) j ps
  first_step j n [] d l = absurd (omega (arith, l))
  first_step j zero (p ∷ ps) d l = (let same : j + zero ≡ j = omega arith in ap (λ (k : ℕ). hearing_all (suc t) (told_to lost t k 0 S) p ∷ ps) same ∙ ap (λ (l' : List Player). hearing_all (suc t) (told_to lost t j 0 S) p ∷ l') (sym (first_none (suc j) zero ps refl)))
  first_step j (suc n) (p ∷ ps) d l =
      (let same : j + suc n ≡ suc j + n = omega arith in
      ap (λ (l' : List Player). hearing_all (suc t) (told_to lost t j 0 S) p ∷ l')
      (ap (λ (k : ℕ). set (first_hearing lost t S n (suc j) ps) n (hearing_all (suc t) (told_to lost t k 0 S) (get_or (first_hearing lost t S n (suc j) ps) n d))) same ∙ first_step (suc j) n ps d (omega (arith, l))))

-- one more board hears
pub first_more : (lost : ℕ → ℕ → ℕ → Bool) (t n : ℕ) (old now new : List Player) → n < length old → now ≡ first_hearing lost t (map (said t) old) n 0 old
    → ((d : Player) → new ≡ set now n (hearing_all (t + 1) (told_to lost t n 0 (map (said t) now)) (get_or now n d))) → new ≡ first_hearing lost t (map (said t) old) (n + 1) 0 old
first_more lost t n [] now new l is heard = absurd (omega (arith, l))
first_more lost t n (z ∷ zs) now new l is heard =
    (let old : List Player = z ∷ zs in
    let S : List (List ℤ) = map (said t) (z ∷ zs) in
    let says : map (said t) now ≡ map (said t) (z ∷ zs) = ap (map (said t)) is ∙ first_said lost t S 0 n (z ∷ zs) in
    let next : t + 1 ≡ suc t = omega arith in
    let later : suc n ≡ n + 1 = omega arith in
    let here : n ≡ 0 + n = omega arith in
    heard z
    ∙ ap (λ (u : ℕ). set now n (hearing_all u (told_to lost t n 0 (map (said t) now)) (get_or now n z))) next
    ∙ ap (λ (T : List (List ℤ)). set now n (hearing_all (suc t) (told_to lost t n 0 T) (get_or now n z))) says
    ∙ ap (λ (ps : List Player). set ps n (hearing_all (suc t) (told_to lost t n 0 (map (said t) (z ∷ zs))) (get_or ps n z))) is
    ∙ ap (λ (k : ℕ). set (first_hearing lost t S n 0 (z ∷ zs)) n (hearing_all (suc t) (told_to lost t k 0 (map (said t) (z ∷ zs))) (get_or (first_hearing lost t S n 0 (z ∷ zs)) n z))) here
    ∙ first_step lost t S 0 n (z ∷ zs) z l
    ∙ ap (λ (k : ℕ). first_hearing lost t (map (said t) (z ∷ zs)) k 0 (z ∷ zs)) later)

-- a turn of the loop over the numbers that one board hears of another one
pub one_heard : (t from to k : ℕ) (old now : List Player) (first sender hearer new d : Player) (sent : List ℤ) → from < length old → to < length old → (from ≡ to → ⊥) → length now ≡ length old
    → now ≡ set old to (hearing_all (t + 1) (take k (said t (get_or old from d))) (get_or old to d)) → first ≡ get_or old from first → k < length (said t first) → sender ≡ get_or now from sender → sent ≡ said t sender
    → hearer ≡ get_or now to hearer → new ≡ hearing (t + 1) (get_or sent k (pos 0)) hearer → set now to new ≡ set old to (hearing_all (t + 1) (take (k + 1) (said t (get_or old from d))) (get_or old to d))
one_heard t from to k old now first sender hearer new d sent from_in to_in other long is first_is some sender_is sent_is hearer_is new_is =
    (let numbers : List ℤ = said t (get_or old from d) in
    let same_first : first ≡ get_or old from d = first_is ∙ get_or_default old from first d from_in in
    let same_sender : sender ≡ get_or old from d =
    sender_is ∙ get_or_default now from sender d (omega (arith, from_in, long)) ∙ ap (λ (ps : List Player). get_or ps from d) is ∙ get_or-set_other old to from (hearing_all (t + 1) (take k (said t (get_or old from d))) (get_or old to d)) d other in
    let same_hearer : hearer ≡ get_or now to d = hearer_is ∙ get_or_default now to hearer d (omega (arith, to_in, long)) in
    let inside : k < length (said t (get_or old from d)) = subst (λ (p : Player). k < length (said t p)) same_first some in
    let sent_same : sent ≡ said t (get_or old from d) = sent_is ∙ ap (said t) same_sender in
    ap (set now to) (new_is ∙ ap (λ (ns : List ℤ). hearing (t + 1) (get_or ns k (pos 0)) hearer) sent_same ∙ ap (hearing (t + 1) (get_or (said t (get_or old from d)) k (pos 0))) same_hearer)
    ∙ one_more (t + 1) from to old now k (said t (get_or old from d)) (get_or (said t (get_or old from d)) k (pos 0)) d to_in inside is (get_or_default (said t (get_or old from d)) k (pos 0) (get_or (said t (get_or old from d)) k (pos 0)) inside))
