-- What asking takes off what is left.
use Rattle.std.proofs.Common.{◌≡◌, ◌+◌, ◌<◌, ◌≤◌, ◌⊎◌, inl, inr, ℕ, zero, suc, refl, sym, ap, ◌∙◌, subst, arith, List, [], ◌∷◌, ◌++◌, length, set, get_or, length-set}
use Rattle.std.specs.Prelude.{Bool, true, false, not, if◌then◌else◌}
use Rattle.derived_types.specs.declared.work.Work.{Work}
use Rattle.derived_types.specs.Work.{unasked, is_asked, is_woken, waiters, AsksFor, Hears, BeginsToWait, Wakes}
use Rattle.std.specs.List.{All, Contains}
use Rattle.std.specs.Result.{OnOk}
use Rattle.std.specs.Prelude.{Result, Ok, Err}
use Rattle.std.proofs.lemmas.Bool.{true≢false}
use Rattle.std.proofs.lemmas.List.{length-append}
use Rattle.std.proofs.lemmas.List.Elements.{All-append, All-nil, All-cons, Contains-append_left, Contains-append_right, Contains-append_cases, Contains-push}

pub unasked_set : (marks : List Bool) (d : ℕ) → get_or marks d true ≡ false → suc (unasked (set marks d true)) ≡ unasked marks
unasked_set [] d h = cc
unasked_set (true ∷ rest) zero h = cc
unasked_set (false ∷ rest) zero h = refl
unasked_set (true ∷ rest) (suc d) h = unasked_set rest d h
unasked_set (false ∷ rest) (suc d) h = ap suc (unasked_set rest d h)

pub set_there : (marks : List Bool) (d : ℕ) → get_or (set marks d true) d true ≡ true
set_there [] d = refl
set_there (b ∷ rest) zero = refl
set_there (b ∷ rest) (suc d) = set_there rest d

pub not_false : (b : Bool) → false ≡ not b → b ≡ true
not_false true h = refl
not_false false h = cc

pub not_true : (b : Bool) → true ≡ not b → b ≡ false
not_true false h = refl
not_true true h = cc

-- what a mark that is set leaves of those that were
pub still_set : (marks : List Bool) (d w : ℕ) → get_or marks w true ≡ true → get_or (set marks d true) w true ≡ true
still_set [] d w h = h
still_set (b ∷ rest) zero zero h = refl
still_set (b ∷ rest) zero (suc w) h = h
still_set (b ∷ rest) (suc d) zero h = h
still_set (b ∷ rest) (suc d) (suc w) h = still_set rest d w h

-- what is marked now and wasn't is what the mark was set for
pub set_for : (marks : List Bool) (d w : ℕ) → get_or marks w true ≡ false → get_or (set marks d true) w true ≡ true → w ≡ d
set_for [] d w h k = cc
set_for (b ∷ rest) zero zero h k = refl
set_for (b ∷ rest) zero (suc w) h k = absurd (true≢false (sym k ∙ h))
set_for (b ∷ rest) (suc d) zero h k = absurd (true≢false (sym k ∙ h))
set_for (b ∷ rest) (suc d) (suc w) h k = ap suc (set_for rest d w h k)

pub asks_none : (work : Work) → AsksFor work work
asks_none work = record {
  marked = refl;
  longer = omega arith;
  all = refl;
  stays = λ e h. h;
  comes = λ e h k. absurd (true≢false (sym k ∙ h));
  kept = λ e h. h;
  woken = refl;
  next = refl;
}

pub asks_more : (a b c : Work) → AsksFor a b → AsksFor b c → AsksFor a c
asks_more a b c x y = record {
  marked = y.marked ∙ x.marked;
  longer = let p : length a.pending.items ≤ length b.pending.items = x.longer in let q : length b.pending.items ≤ length c.pending.items = y.longer in omega (arith, p, q);
  all = y.all ∙ x.all;
  stays = λ e h. y.stays e (x.stays e h);
  comes = λ e h k. comes_by e h k (is_asked b e) refl;
  kept = λ e h. y.kept e (x.kept e h);
  woken = y.woken ∙ x.woken;
  next = y.next ∙ x.next;
}
  where
    comes_by : (e : ℕ) → is_asked a e ≡ false → is_asked c e ≡ true → (between : Bool) → is_asked b e ≡ between → Contains c.pending.items e
    comes_by e h k true m = y.kept e (x.comes e h m)
    comes_by e h k false m = y.comes e m k

-- one is asked for
pub asked_one : (old new : Work) (marks : List Bool) (d : ℕ) (b : Bool) → marks ≡ old.asked.items → b ≡ not (get_or marks d true) → new.asked.items ≡ (if b then set marks d true else marks) → b ≡ true →
    new.pending.items ≡ old.pending.items ++ d ∷ [] → new.woken.items ≡ old.woken.items → new.next ≡ old.next → AsksFor old new
asked_one old new marks d false m f a e p w n = cc
asked_one old new marks d true m f a e p w n =
    let one : suc (unasked (set marks d true)) ≡ unasked marks = unasked_set marks d (not_true (get_or marks d true) f) in
    let here : unasked new.asked.items ≡ unasked (set marks d true) = ap unasked a in
    let before : unasked marks ≡ unasked old.asked.items = ap unasked m in
    let more : length new.pending.items ≡ length old.pending.items + 1 = ap length p ∙ length-append old.pending.items (d ∷ []) in
    record {
      marked = omega (arith, one, here, before, more);
      longer = omega (arith, more);
      all = ap length a ∙ length-set marks d true ∙ ap length m;
      stays = λ e h. ap (λ xs. get_or xs e true) a ∙ still_set marks d e (ap (λ xs. get_or xs e true) m ∙ h);
      comes = λ e h k. subst (λ x. Contains new.pending.items x) (sym (set_for marks d e (ap (λ xs. get_or xs e true) m ∙ h) (sym (ap (λ xs. get_or xs e true) a) ∙ k))) (subst (λ xs. Contains xs d) (sym p) (Contains-push old.pending.items d));
      kept = λ e h. subst (λ xs. Contains xs e) (sym p) (Contains-append_left old.pending.items (d ∷ []) e h);
      woken = w;
      next = n;
    }

-- none is, since it was before
pub asked_before : (old new : Work) (marks : List Bool) (d : ℕ) (b : Bool) → marks ≡ old.asked.items → new.asked.items ≡ (if b then set marks d true else marks) → b ≡ false →
    new.pending.items ≡ old.pending.items → new.woken.items ≡ old.woken.items → new.next ≡ old.next → AsksFor old new
asked_before old new marks d true m a e p w n = cc
asked_before old new marks d false m a e p w n =
    let here : unasked new.asked.items ≡ unasked old.asked.items = ap unasked (a ∙ m) in
    let same : length new.pending.items ≡ length old.pending.items = ap length p in
    let mark : (e : ℕ) → is_asked new e ≡ is_asked old e = λ e. ap (λ xs. get_or xs e true) (a ∙ m) in
    record {
      marked = omega (arith, here, same);
      longer = omega (arith, same);
      all = ap length (a ∙ m);
      stays = λ e h. mark e ∙ h;
      comes = λ e h k. absurd (true≢false (sym k ∙ mark e ∙ h));
      kept = λ e h. subst (λ xs. Contains xs e) (sym p) h;
      woken = w;
      next = n;
    }

-- nobody waits for anybody else than before
pub waits_none : (d : ℕ) (old new : Work) → new.waiting ≡ old.waiting → BeginsToWait d [] old new
waits_none d old new same = record {
  lists = ap (λ (xs : _). length xs.items) same;
  waits = All-nil _;
  only = λ e w h. inl (subst (λ (xs : _). Contains (waiters xs.items e) w) same h);
  kept = λ e w h. subst (λ (xs : _). Contains (waiters xs.items e) w) (sym same) h;
}

pub waits_more : (d : ℕ) (xs ys : List ℕ) (a b c : Work) → AsksFor a b → BeginsToWait d xs a b → BeginsToWait d ys b c → BeginsToWait d (xs ++ ys) a c
waits_more d xs ys a b c asks x y = record {
  lists = y.lists ∙ x.lists;
  waits = All-append IsWaitedFor xs ys front back;
  only = λ e w h. only_by e w (y.only e w h);
  kept = λ e w h. y.kept e w (x.kept e w h);
}
  where
    IsWaitedFor : ℕ → Type 0
    IsWaitedFor e = is_asked a e ≡ true → e < length a.asked.items → e < length a.waiting.items → Contains (waiters c.waiting.items e) d

    front : All IsWaitedFor xs
    front k e lt h l m = y.kept (get_or xs k e) d (x.waits k e lt h l m)

    back : All IsWaitedFor ys
    back k e lt h l m = y.waits k e lt (asks.stays (get_or ys k e) h) (omega (arith, asks.all, l)) (omega (arith, x.lists, m))

    only_by : (e w : ℕ) → Contains (waiters b.waiting.items e) w ⊎ ((w ≡ d) × Contains ys e) → Contains (waiters a.waiting.items e) w ⊎ ((w ≡ d) × Contains (xs ++ ys) e)
    only_by e w (inr h) = inr (h.0, Contains-append_right xs ys e h.1)
    only_by e w (inl h) = first_by (x.only e w h)
      where
        first_by : Contains (waiters a.waiting.items e) w ⊎ ((w ≡ d) × Contains xs e) → Contains (waiters a.waiting.items e) w ⊎ ((w ≡ d) × Contains (xs ++ ys) e)
        first_by (inl g) = inl g
        first_by (inr g) = inr (g.0, Contains-append_left xs ys e g.1)

pub hears_none : (d : ℕ) (work : Work) → Hears d [] work work
hears_none d work = record { asks = asks_none work; asked = All-nil _; waits = waits_none d work work refl }

pub hears_more : (d : ℕ) (xs ys : List ℕ) (a b c : Work) → Hears d xs a b → Hears d ys b c → Hears d (xs ++ ys) a c
hears_more d xs ys a b c x y = record {
  asks = asks_more a b c x.asks y.asks;
  asked = All-append (λ e. is_asked c e ≡ true) xs ys (λ k e lt. y.asks.stays (get_or xs k e) (x.asked k e lt)) y.asked;
  waits = waits_more d xs ys a b c x.asks x.waits y.waits;
}

pub wakes_none : (work : Work) → Wakes [] work work
wakes_none work = record {
  marked = All-nil (λ w. is_woken work w ≡ true);
  stays = λ w h. h;
  comes = λ w h k. absurd (true≢false (sym k ∙ h));
  kept = λ w h. h;
  only = λ w h. inl h;
  rest = refl;
}

pub wakes_more : (xs ys : List ℕ) (a b c : Work) → Wakes xs a b → Wakes ys b c → Wakes (xs ++ ys) a c
wakes_more xs ys a b c x y = record {
  marked = All-append (λ w. is_woken c w ≡ true) xs ys (λ k w lt. y.stays (get_or xs k w) (x.marked k w lt)) y.marked;
  stays = λ w h. y.stays w (x.stays w h);
  comes = λ w h k. comes_by w h k (is_woken b w) refl;
  kept = λ w h. y.kept w (x.kept w h);
  only = λ w h. only_by w (y.only w h);
  rest = y.rest ∙ ap (λ (v : Work). record v { woken = c.woken; is_woken = c.is_woken }) x.rest;
}
  where
    comes_by : (w : ℕ) → is_woken a w ≡ false → is_woken c w ≡ true → (between : Bool) → is_woken b w ≡ between → Contains c.woken.items w
    comes_by w h k true m = y.kept w (x.comes w h m)
    comes_by w h k false m = y.comes w m k

    first_by : (w : ℕ) → Contains a.woken.items w ⊎ Contains xs w → Contains a.woken.items w ⊎ Contains (xs ++ ys) w
    first_by w (inl h) = inl h
    first_by w (inr h) = inr (Contains-append_left xs ys w h)

    only_by : (w : ℕ) → Contains b.woken.items w ⊎ Contains ys w → Contains a.woken.items w ⊎ Contains (xs ++ ys) w
    only_by w (inl h) = first_by w (x.only w h)
    only_by w (inr h) = inr (Contains-append_right xs ys w h)

-- one is woken that had no mark
pub wakes_one : (old new : Work) (d : ℕ) → is_woken old d ≡ false → new.is_woken.items ≡ set old.is_woken.items d true → new.woken.items ≡ old.woken.items ++ d ∷ [] →
    new ≡ record old { woken = new.woken; is_woken = new.is_woken } → Wakes (d ∷ []) old new
wakes_one old new d f a p r = record {
  marked = All-cons (λ w. is_woken new w ≡ true) d [] (ap (λ xs. get_or xs d true) a ∙ set_there old.is_woken.items d) (All-nil (λ w. is_woken new w ≡ true));
  stays = λ w h. ap (λ xs. get_or xs w true) a ∙ still_set old.is_woken.items d w h;
  comes = λ w h k. subst (λ x. Contains new.woken.items x) (sym (set_for old.is_woken.items d w h (sym (ap (λ xs. get_or xs w true) a) ∙ k))) (subst (λ xs. Contains xs d) (sym p) (Contains-push old.woken.items d));
  kept = λ w h. subst (λ xs. Contains xs w) (sym p) (Contains-append_left old.woken.items (d ∷ []) w h);
  only = λ w h. Contains-append_cases old.woken.items (d ∷ []) w (subst (λ xs. Contains xs w) p h);
  rest = r;
}

-- what is pending where none was, and one was asked for, is that one
pub nothing_more : (new old : List ℕ) (d e : ℕ) → length old ≡ 0 → (new ≡ old ++ d ∷ []) ⊎ (new ≡ old) → Contains new e → e ≡ d
nothing_more new [] d e len (inl is) h = only_one (subst (λ xs. Contains xs e) is h)
  where
    only_one : Contains (d ∷ []) e → e ≡ d
    only_one (zero, lt, here) = sym here
    only_one (suc k, lt, here) = omega (arith, lt)
nothing_more new [] d e len (inr is) h = none (subst (λ xs. Contains xs e) is h)
  where
    none : Contains [] e → e ≡ d
    none (k, lt, here) = omega (arith, lt)
nothing_more new (x ∷ xs) d e len is h = omega (arith, len)

-- what is said of a result that is there follows from what is known of it
pub on_ok : {T E : Type 0} → {P Q : Type 0} → (result : Result T E) → (P → Q) → OnOk result P → OnOk result Q
on_ok (Ok value) f h = f h
on_ok (Err e) f h = tt

-- the marks where one was set
pub set_then : (b : Bool) → (new set_ same : List Bool) → true ≡ b → new ≡ (if b then set_ else same) → new ≡ set_
set_then true new set_ same b h = h
set_then false new set_ same b h = cc
