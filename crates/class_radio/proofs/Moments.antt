-- The next moment at which something comes to some board, and boards that wait for it.
use Rattle.std.proofs.Common.{◌≡◌, ◌≤◌, ◌<◌, inl, inr, ℕ, suc, ◌+◌, ◌-◌, Bool, true, false, if◌then◌else◌, nat_lt, nat_le, List, [], ◌∷◌, ◌++◌, length, map, take, get_or, Option, Some, None, refl, ap, sym, ◌∙◌, subst, arith}
use Rattle.std.specs.Prelude.{IfSome}
use Rattle.std.proofs.lemmas.Bool.Decides.{nat_tests}
use Rattle.std.specs.List.{AllByRecursion}
use Rattle.board_world.specs.Observations.{ByteList, Observation}
use Rattle.board_world.specs.Board.{Entry}
use Rattle.event_script.specs.World.{world_entries}
use Rattle.tool_io.specs.Putting.{Took}
use Rattle.class_world.specs.Hearing.{before, with_heard}
use Rattle.class_world.specs.Lines.{lines_before, WroteBefore}
use Rattle.class_world.proofs.Laws.{heard_still, lines_skip}
use Rattle.class_radio.specs.declared.player.Player.{Player}
use Rattle.class_radio.specs.Playing.{HasPlayed, HasCome}
use Rattle.class_radio.specs.Losses.{lost_by}
use Rattle.class_radio.specs.Stepped.{ClassPlan, Past, seens, shown_boards, HaveHeard, IsAtMoment, EachBoard, AreIn}
use Rattle.class_radio.specs.Hearing.{ComesToOne, IsNextOf, soonest}
use Rattle.class_radio.proofs.Telling.{take_more}
use Rattle.class_radio.proofs.Resting.{seen_so_far, wrote_so_far, plays_longer, due_late}

all_push : {X : Type 0} (P : X → Type 0) (xs : List X) (x : X) → AllByRecursion P xs → P x → AllByRecursion P (xs ++ x ∷ [])
all_push P [] x h k = (k, tt)
all_push P (y ∷ ys) x h k = (h.0, all_push P ys x h.1 k)

all_more : {X : Type 0} (P Q : X → Type 0) → ((x : X) → P x → Q x) → (xs : List X) → AllByRecursion P xs → AllByRecursion Q xs
all_more P Q f [] h = tt
all_more P Q f (x ∷ xs) h = (f x h.0, all_more P Q f xs h.1)

one_before : (t : ℕ) (ps : List Player) (p : Player) → ComesToOne t ps → ComesToOne t (ps ++ p ∷ [])
one_before t [] p h = absurd h
one_before t (q ∷ qs) p (inl e) = inl e
one_before t (q ∷ qs) p (inr h) = inr (one_before t qs p h)

one_last : (t : ℕ) (ps : List Player) (p : Player) → p.due ≡ Some t → ComesToOne t (ps ++ p ∷ [])
one_last t [] p e = inl e
one_last t (q ∷ qs) p e = inr (one_last t qs p e)

late_some : (o : Option ℕ) (a b : ℕ) → b ≤ a → IfSome o (λ m. a ≤ m) → IfSome o (λ m. b ≤ m)
late_some None a b l h = tt
late_some (Some m) a b l h = omega (arith, l, h)

past_some : (o : Option ℕ) (end b : ℕ) → b ≤ end → IfSome o (λ m. end < m) → IfSome o (λ m. b ≤ m)
past_some None end b l h = tt
past_some (Some m) end b l h = omega (arith, l, h)

-- one player more
pub next_more : (end : ℕ) (ps : List Player) (next : Option ℕ) (p : Player) → IsNextOf end ps next → IsNextOf end (ps ++ p ∷ []) (soonest end next p.due)
next_more end ps None p h = by_due p.due refl
  where
    by_due : (o : Option ℕ) → p.due ≡ o → IsNextOf end (ps ++ p ∷ []) (soonest end None o)
    by_due None e = all_push (λ (q : Player). IfSome q.due (λ m. end < m)) ps p h (subst (λ (o : Option ℕ). IfSome o (λ m. end < m)) (sym e) tt)
    by_due (Some b) e = by_end (nat_le b end) refl
      where
        by_end : (c : Bool) → nat_le b end ≡ c → IsNextOf end (ps ++ p ∷ []) (if c then Some b else None)
        by_end true q =
            (let l : b ≤ end = grind (arith, nat_tests) in (
              l,
              all_push (λ (r : Player). IfSome r.due (λ m. b ≤ m)) ps p (all_more (λ (r : Player). IfSome r.due (λ m. end < m)) (λ (r : Player). IfSome r.due (λ m. b ≤ m)) (λ r k. past_some r.due end b l k) ps h) (subst (λ (o : Option ℕ). IfSome o (λ m. b ≤ m)) (sym e) (omega arith)),
              one_last b ps p e,
            ))
        by_end false q = all_push (λ (r : Player). IfSome r.due (λ m. end < m)) ps p h (subst (λ (o : Option ℕ). IfSome o (λ m. end < m)) (sym e) (let k : end < b = grind (arith, nat_tests) in k))
next_more end ps (Some a) p h = by_due p.due refl
  where
    by_due : (o : Option ℕ) → p.due ≡ o → IsNextOf end (ps ++ p ∷ []) (soonest end (Some a) o)
    by_due None e = (h.0, all_push (λ (q : Player). IfSome q.due (λ m. a ≤ m)) ps p h.1 (subst (λ (o : Option ℕ). IfSome o (λ m. a ≤ m)) (sym e) tt), one_before a ps p h.2)
    by_due (Some b) e = by_first (nat_lt b a) refl
      where
        by_first : (c : Bool) → nat_lt b a ≡ c → IsNextOf end (ps ++ p ∷ []) (if c then Some b else Some a)
        by_first true q =
            (let l : b < a = grind (arith, nat_tests) in
            let k : b ≤ a = omega (arith, l) in
            let low : a ≤ end = h.0 in (
              omega (arith, l, low),
              all_push (λ (r : Player). IfSome r.due (λ m. b ≤ m)) ps p (all_more (λ (r : Player). IfSome r.due (λ m. a ≤ m)) (λ (r : Player). IfSome r.due (λ m. b ≤ m)) (λ r m. late_some r.due a b k m) ps h.1) (subst (λ (o : Option ℕ). IfSome o (λ m. b ≤ m)) (sym e) (omega arith)),
              one_last b ps p e,
            ))
        by_first false q =
            (let l : a ≤ b = grind (arith, nat_tests) in
            (h.0, all_push (λ (r : Player). IfSome r.due (λ m. a ≤ m)) ps p h.1 (subst (λ (o : Option ℕ). IfSome o (λ m. a ≤ m)) (sym e) l), one_before a ps p h.2))

pub next_turn : (end : ℕ) (ps : List Player) (i : ℕ) (next new : Option ℕ) (p : Player) → i < length ps → p ≡ get_or ps i p → new ≡ soonest end next p.due → IsNextOf end (take i ps) next → IsNextOf end (take (i + 1) ps) new
next_turn end ps i next new p within read is h =
    (let more : take (i + 1) ps ≡ take i ps ++ p ∷ [] = take_more ps i p within ∙ ap (λ (q : Player). take i ps ++ q ∷ []) (sym read) in
    subst (λ (qs : List Player). IsNextOf end qs new) (sym more) (subst (IsNextOf end (take i ps ++ p ∷ [])) (sym is) (next_more end (take i ps) next p h)))

-- boards that have come to a moment behind the first wait for what comes next
module _ (plan : ClassPlan) (began : Option (List ℕ)) (t : ℕ) (pasts : List Past) (players : List Player) (taken : Option (List ℕ)) (are : AreIn plan began (suc t) [] pasts [] players taken) where
  played_of : (b : ℕ) (h : Past) (p : Player) → IsAtMoment plan.budget (suc t) b h p → HasPlayed h.setup h.script (suc t) h.used h.seen p
  played_of b h p c = by_come c.come
    where
      by_come : HasCome h.setup h.script (suc t) h.used h.seen p → HasPlayed h.setup h.script (suc t) h.used h.seen p
      by_come (inl played) = played
      by_come (inr fresh) = absurd (let e : suc t ≡ 0 = fresh.1 in omega (arith, e))

  -- what comes to one of them comes then or later
  comes_late : (m b : ℕ) (hs : List Past) (ps : List Player) → EachBoard (IsAtMoment plan.budget (suc t)) b hs ps → ComesToOne m ps → suc t ≤ m
  comes_late m b [] [] e c = absurd c
  comes_late m b [] (p ∷ ps) e c = absurd e
  comes_late m b (h ∷ hs) [] e c = absurd e
  comes_late m b (h ∷ hs) (p ∷ ps) e (inl due) = subst (λ (o : Option ℕ). IfSome o (λ n. suc t ≤ n)) due (due_late h.setup h.script (suc t) h.used h.seen p (played_of b h p e.0))
  comes_late m b (h ∷ hs) (p ∷ ps) e (inr c) = comes_late m (suc b) hs ps e.1 c

  pub next_late : (m : ℕ) → ComesToOne m players → suc t ≤ m
  next_late m c = comes_late m 0 pasts players are.come c

  module _ (u : ℕ) (later : suc t ≤ u) (late : AllByRecursion (λ (p : Player). IfSome p.due (λ m. u ≤ m)) players) where
    each_longer : (b : ℕ) (hs : List Past) (ps : List Player) → EachBoard (IsAtMoment plan.budget (suc t)) b hs ps → AllByRecursion (λ (p : Player). IfSome p.due (λ m. u ≤ m)) ps → EachBoard (IsAtMoment plan.budget u) b hs ps
    each_longer b [] [] e l = tt
    each_longer b [] (p ∷ ps) e l = absurd e
    each_longer b (h ∷ hs) [] e l = absurd e
    each_longer b (h ∷ hs) (p ∷ ps) e l =
        (record { numbered = e.0.numbered; come = inl (plays_longer h.setup h.script (suc t) h.used h.seen p (played_of b h p e.0) u later l.0) }, each_longer (suc b) hs ps e.1 l.1)

    seen_all : (b : ℕ) (hs : List Past) (ps : List Player) → EachBoard (IsAtMoment plan.budget (suc t)) b hs ps → map (before (suc t)) (seens hs) ≡ seens hs
    seen_all b [] [] e = refl
    seen_all b [] (p ∷ ps) e = absurd e
    seen_all b (h ∷ hs) [] e = absurd e
    seen_all b (h ∷ hs) (p ∷ ps) e =
        ap (λ (os : List Observation). os ∷ map (before (suc t)) (seens hs)) (seen_so_far h.setup h.script (suc t) h.used h.seen p (played_of b h p e.0)) ∙ ap (λ (l : List (List Observation)). h.seen ∷ l) (seen_all (suc b) hs ps e.1)

    wrote_all : (b : ℕ) (hs : List Past) (ps : List Player) → EachBoard (IsAtMoment plan.budget (suc t)) b hs ps → AllByRecursion (WroteBefore (suc t)) (shown_boards hs ps)
    wrote_all b [] [] e = tt
    wrote_all b [] (p ∷ ps) e = absurd e
    wrote_all b (h ∷ hs) [] e = absurd e
    wrote_all b (h ∷ hs) (p ∷ ps) e = (wrote_so_far h.setup h.script (suc t) h.used h.seen p (played_of b h p e.0), wrote_all (suc b) hs ps e.1)

    heard_longer : (j : ℕ) (hs : List Past) → HaveHeard (lost_by plan.losses) (suc t) plan.until (seens pasts) j hs → HaveHeard (lost_by plan.losses) u plan.until (seens pasts) j hs
    heard_longer j [] h = tt
    heard_longer j (x ∷ xs) h =
        (h.0 ∙ ap (λ (es : List Entry). with_heard es (world_entries x.setup.script.entries)) (sym (heard_still (lost_by plan.losses) plan.until (suc t) u later j 0 (seens pasts) (seen_all 0 pasts players are.come))), heard_longer (suc j) xs h.1)

    lines_longer : lines_before u (shown_boards pasts players) ≡ lines_before (suc t) (shown_boards pasts players)
    lines_longer =
        (let k : ℕ = u - suc t in
        let sum : (u - suc t) + suc t ≡ u = omega (arith, later) in
        sym (ap (λ (m : ℕ). lines_before m (shown_boards pasts players)) sum) ∙ lines_skip (suc t) (u - suc t) (shown_boards pasts players) (wrote_all 0 pasts players are.come))

    pub wait_longer : AreIn plan began u [] pasts [] players taken
    wait_longer = record {
      setups = are.setups;
      heard = heard_longer 0 pasts are.heard;
      passed = tt;
      come = each_longer 0 pasts players are.come late;
      written = subst (λ (r : ByteList). Took began taken (r ++ [])) (sym lines_longer) are.written;
    }
