-- Boards hear of what the others sent, and come to the moment behind.
use Rattle.std.proofs.Common.{◌≡◌, inl, ℕ, suc, ℤ, Bool, true, false, nat_lt, List, [], ◌∷◌, ◌++◌, map, take, Option, refl, ap, sym, ◌∙◌, subst, append-nil}
use Rattle.std.specs.List.{AllByRecursion}
use Rattle.board_world.specs.declared.events.Event.{Event}
use Rattle.board_world.specs.Observations.{Observation}
use Rattle.board_world.specs.Board.{Board}
use Rattle.board_world.specs.Before.{IsRisingFrom}
use Rattle.event_script.specs.World.{world_entries}
use Rattle.tool_io.specs.Putting.{Took}
use Rattle.class_world.specs.Hearing.{sent_at, heard_of, with_heard, raised_at}
use Rattle.class_world.specs.Lines.{moment_lines, lines_before}
use Rattle.class_world.proofs.Laws.{heard_events, heard_behind, heard_on, rising_heard}
use Rattle.class_radio.specs.declared.player.Player.{Player}
use Rattle.class_radio.specs.declared.player.Standing.{Standing}
use Rattle.class_radio.specs.declared.player.Standing.TheVariants.{Plays, Panicked, Faulted}
use Rattle.class_radio.specs.Playing.{Setup, IsNumbered, outlook, HasPlayed, hearing_as, hearing, hearing_all, said}
use Rattle.class_radio.proofs.Hears.{hears_on}
use Rattle.class_radio.specs.Losses.{lost_by}
use Rattle.class_radio.specs.Stepped.{ClassPlan, IsSoundPlan, Past, setups_in, seens, shown_boards, HaveHeard, IsAtMoment, Passed, EachBoard, AreIn}
use Rattle.class_radio.specs.Hearing.{told_to, all_hearing}
use Rattle.class_radio.proofs.Queues.{told_queued, told_next, heard_is_told, none_heard_at}

-- what hearing leaves as it is
numbered_one : (number budget t : ℕ) (n : ℤ) (p : Player) → IsNumbered number budget p → IsNumbered number budget (hearing t n p)
numbered_one number budget t n p h = by_standing p.standing refl
  where
    by_standing : (s : Standing) → p.standing ≡ s → IsNumbered number budget (hearing_as s t n p)
    by_standing Plays e = record { lead = h.lead; left = h.left; within = h.within; most = h.most; stands = h.stands }
    by_standing Panicked e = h
    by_standing Faulted e = h

numbered_still : (number budget t : ℕ) (ns : List ℤ) (p : Player) → IsNumbered number budget p → IsNumbered number budget (hearing_all t ns p)
numbered_still number budget t [] p h = h
numbered_still number budget t (n ∷ ns) p h = numbered_still number budget t ns (hearing t n p) (numbered_one number budget t n p h)

shown_one : (t : ℕ) (n : ℤ) (os : List Observation) (p : Player) → (outlook os (hearing t n p)).board ≡ (outlook os p).board
shown_one t n os p = by_standing p.standing
  where
    by_standing : (s : Standing) → (outlook os (hearing_as s t n p)).board ≡ (outlook os p).board
    by_standing Plays = refl
    by_standing Panicked = refl
    by_standing Faulted = refl

shown_still : (t : ℕ) (ns : List ℤ) (os : List Observation) (p : Player) → (outlook os (hearing_all t ns p)).board ≡ (outlook os p).board
shown_still t [] os p = refl
shown_still t (n ∷ ns) os p = shown_still t ns os (hearing t n p) ∙ shown_one t n os p

module _ (lost : ℕ → ℕ → ℕ → Bool) (t until : ℕ) (seen : List (List Observation)) where
  -- the pasts of boards, from board j on, that have heard what was sent at the moment
  abbrev pub heard_on_by : ℕ → List Past → List Past
  heard_on_by j [] = []
  heard_on_by j (h ∷ hs) = record h { script = with_heard (raised_at (suc t) (heard_behind lost t until j 0 seen)) h.script } ∷ heard_on_by (suc j) hs

  pub same_setups : (j : ℕ) (hs : List Past) → setups_in (heard_on_by j hs) ≡ setups_in hs
  same_setups j [] = refl
  same_setups j (h ∷ hs) = ap (λ (ss : List Setup). h.setup ∷ ss) (same_setups (suc j) hs)

  pub same_seens : (j : ℕ) (hs : List Past) → seens (heard_on_by j hs) ≡ seens hs
  same_seens j [] = refl
  same_seens j (h ∷ hs) = ap (λ (os : List (List Observation)). h.seen ∷ os) (same_seens (suc j) hs)

  pub heard_next : (j : ℕ) (hs : List Past) → HaveHeard lost t until seen j hs → HaveHeard lost (suc t) until seen j (heard_on_by j hs)
  heard_next j [] h = tt
  heard_next j (x ∷ xs) h =
      (ap (with_heard (raised_at (suc t) (heard_behind lost t until j 0 seen))) h.0 ∙ sym (heard_on lost until t j seen (world_entries x.setup.script.entries)), heard_next (suc j) xs h.1)

-- the boards come to the next moment
module _ (plan : ClassPlan) (sound : IsSoundPlan plan) (began : Option (List ℕ)) (t : ℕ) (pasts : List Past) (players : List Player) (taken : Option (List ℕ)) (are : AreIn plan began t pasts [] players [] taken) where
  abbrev lost : ℕ → ℕ → ℕ → Bool
  lost = lost_by plan.losses

  abbrev S : List (List Observation)
  S = seens pasts

  abbrev onward : List Past
  onward = heard_on_by lost t plan.until (seens pasts) 0 pasts

  heard_all : HaveHeard lost t plan.until (seens pasts) 0 pasts
  heard_all = subst (λ (hs : List Past). HaveHeard lost t plan.until (seens hs) 0 hs) (append-nil pasts) are.heard

  setups_all : setups_in pasts ≡ plan.setups
  setups_all = ap setups_in (sym (append-nil pasts)) ∙ are.setups

  heard_then : HaveHeard lost (suc t) plan.until (seens onward) 0 onward
  heard_then = subst (λ (seen : List (List Observation)). HaveHeard lost (suc t) plan.until seen 0 onward) (sym (same_seens lost t plan.until (seens pasts) 0 pasts)) (heard_next lost t plan.until (seens pasts) 0 pasts heard_all)

  written_all : Took began taken (lines_before (suc t) (shown_boards pasts players))
  written_all =
      subst (λ (hs : List Past). Took began taken (lines_before t (shown_boards hs players) ++ moment_lines t 0 (shown_boards pasts players))) (append-nil pasts)
      (subst (λ (ps : List Player). Took began taken (lines_before t (shown_boards (pasts ++ []) ps) ++ moment_lines t 0 (shown_boards pasts players))) (append-nil players) are.written)

  -- the scripts of all rise
  rising_from : (j : ℕ) (hs : List Past) → HaveHeard lost t plan.until (seens pasts) j hs → AllByRecursion (λ (s : Setup). IsRisingFrom 0 (world_entries s.script.entries)) (setups_in hs) → AllByRecursion (λ (h : Past). IsRisingFrom 0 h.script) hs
  rising_from j [] h r = tt
  rising_from j (x ∷ xs) h r = (subst (IsRisingFrom 0) (sym h.0) (rising_heard (heard_of lost t plan.until j 0 (seens pasts)) (world_entries x.setup.script.entries) r.0), rising_from (suc j) xs h.1 r.1)

  rising_all : AllByRecursion (λ (h : Past). IsRisingFrom 0 h.script) pasts
  rising_all = rising_from 0 pasts heard_all (subst (AllByRecursion (λ (s : Setup). IsRisingFrom 0 (world_entries s.script.entries))) (sym setups_all) sound.rising)

  finish : (players' : List Player) → EachBoard (IsAtMoment plan.budget (suc t)) 0 onward players' → shown_boards onward players' ≡ shown_boards pasts players → AreIn plan began (suc t) [] onward [] players' taken
  finish players' come same = record {
    setups = same_setups lost t plan.until (seens pasts) 0 pasts ∙ setups_all;
    heard = heard_then;
    passed = tt;
    come = come;
    written = subst (Took began taken) (ap (lines_before (suc t)) (sym same) ∙ sym (append-nil (lines_before (suc t) (shown_boards onward players')))) written_all;
  }

  -- before the end, by what each hears
  module _ (soon : nat_lt t plan.until ≡ true) where
    says_of : (b : ℕ) (hs : List Past) (ps : List Player) → EachBoard (Passed plan.budget t) b hs ps → map (said t) ps ≡ map (take 32) (map (sent_at t) (seens hs))
    says_of b [] [] e = refl
    says_of b [] (p ∷ ps) e = absurd e
    says_of b (h ∷ hs) [] e = absurd e
    says_of b (h ∷ hs) (p ∷ ps) e =
        ap (λ (s : List ℤ). s ∷ map (said t) ps) e.0.says ∙ ap (λ (l : List (List ℤ)). take 32 (sent_at t h.seen) ∷ l) (says_of (suc b) hs ps e.1)

    each_on : (j : ℕ) (hs : List Past) (ps : List Player) → EachBoard (Passed plan.budget t) j hs ps → AllByRecursion (λ (h : Past). IsRisingFrom 0 h.script) hs
        → EachBoard (IsAtMoment plan.budget (suc t)) j (heard_on_by lost t plan.until (seens pasts) j hs) (all_hearing lost t (map (said t) players) j ps)
    each_on j [] [] e r = tt
    each_on j [] (p ∷ ps) e r = absurd e
    each_on j (h ∷ hs) [] e r = absurd e
    each_on j (h ∷ hs) (p ∷ ps) e r =
        (let ss : List (List ℤ) = map (sent_at t) (seens pasts) in
        let numbers : List ℤ = told_to lost t j 0 (map (take 32) (map (sent_at t) (seens pasts))) in
        let all : List ℤ = told_to lost t j 0 (map (sent_at t) (seens pasts)) in
        let says : map (said t) players ≡ map (take 32) (map (sent_at t) (seens pasts)) = says_of 0 pasts players are.passed in
        let heard : HasPlayed h.setup (with_heard (raised_at (suc t) (heard_events all)) h.script) (suc t) h.used h.seen (hearing_all (suc t) numbers p) =
        hears_on h.setup h.script (suc t) h.used h.seen p numbers all r.0 (told_queued lost t j 0 ss) (told_next lost t j (suc t) 0 ss) e.0.played e.0.numbered.stands in
        let behind : heard_events all ≡ heard_behind lost t plan.until j 0 (seens pasts) = sym (heard_is_told lost t j plan.until soon 0 (seens pasts)) in (
          record {
            numbered = numbered_still j plan.budget (suc t) (told_to lost t j 0 (map (said t) players)) p e.0.numbered;
            come = inl (subst (λ (S' : List (List ℤ)). HasPlayed h.setup (with_heard (raised_at (suc t) (heard_behind lost t plan.until j 0 (seens pasts))) h.script) (suc t) h.used h.seen (hearing_all (suc t) (told_to lost t j 0 S') p)) (sym says)
                (subst (λ (es : List Event). HasPlayed h.setup (with_heard (raised_at (suc t) es) h.script) (suc t) h.used h.seen (hearing_all (suc t) numbers p)) behind heard));
          },
          each_on (suc j) hs ps e.1 r.1,
        ))

    shown_on : (j : ℕ) (hs : List Past) (ps : List Player) → shown_boards (heard_on_by lost t plan.until (seens pasts) j hs) (all_hearing lost t (map (said t) players) j ps) ≡ shown_boards hs ps
    shown_on j [] [] = refl
    shown_on j [] (p ∷ ps) = ap (λ (b : Board). b ∷ shown_boards [] (all_hearing lost t (map (said t) players) (suc j) ps)) (shown_still (suc t) (told_to lost t j 0 (map (said t) players)) [] p) ∙ ap (λ (bs : List Board). (outlook [] p).board ∷ bs) (shown_on (suc j) [] ps)
    shown_on j (h ∷ hs) [] = refl
    shown_on j (h ∷ hs) (p ∷ ps) =
        ap (λ (b : Board). b ∷ shown_boards (heard_on_by lost t plan.until (seens pasts) (suc j) hs) (all_hearing lost t (map (said t) players) (suc j) ps)) (shown_still (suc t) (told_to lost t j 0 (map (said t) players)) h.seen p)
        ∙ ap (λ (bs : List Board). (outlook h.seen p).board ∷ bs) (shown_on (suc j) hs ps)

    pub hear_on : AreIn plan began (suc t) [] onward [] (all_hearing lost t (map (said t) players) 0 players) taken
    hear_on = finish (all_hearing lost t (map (said t) players) 0 players) (each_on 0 pasts players are.passed rising_all) (shown_on 0 pasts players)

  -- at the end nothing is heard
  module _ (late : nat_lt t plan.until ≡ false) where
    still_on : (j : ℕ) (hs : List Past) → heard_on_by lost t plan.until (seens pasts) j hs ≡ hs
    still_on j [] = refl
    still_on j (h ∷ hs) =
        ap (λ (es : List Event). record h { script = with_heard (raised_at (suc t) es) h.script } ∷ heard_on_by lost t plan.until (seens pasts) (suc j) hs) (none_heard_at lost t j plan.until late 0 (seens pasts))
        ∙ ap (λ (l : List Past). h ∷ l) (still_on (suc j) hs)

    each_past : (j : ℕ) (hs : List Past) (ps : List Player) → EachBoard (Passed plan.budget t) j hs ps → EachBoard (IsAtMoment plan.budget (suc t)) j hs ps
    each_past j [] [] e = tt
    each_past j [] (p ∷ ps) e = absurd e
    each_past j (h ∷ hs) [] e = absurd e
    each_past j (h ∷ hs) (p ∷ ps) e = (record { numbered = e.0.numbered; come = inl e.0.played }, each_past (suc j) hs ps e.1)

    pub hear_no_more : AreIn plan began (suc t) [] onward [] players taken
    hear_no_more = finish players (subst (λ (hs : List Past). EachBoard (IsAtMoment plan.budget (suc t)) 0 hs players) (sym (still_on 0 pasts)) (each_past 0 pasts players are.passed)) (ap (λ (hs : List Past). shown_boards hs players) (still_on 0 pasts))
