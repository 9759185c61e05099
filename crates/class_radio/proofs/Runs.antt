-- Players as runs of their class.
use Rattle.std.proofs.Common.{◌≡◌, ◌≤◌, inl, inr, ℕ, suc, zero, Bool, List, [], ◌∷◌, ◌++◌, map, refl, ap, sym, ◌∙◌, subst, arith}
use Rattle.std.specs.List.{AllByRecursion}
use Rattle.board_world.specs.Observations.{Observation}
use Rattle.board_world.specs.Before.{IsRisingFrom}
use Rattle.board_world.specs.Simulation.{Paired}
use Rattle.bank_model.specs.Fibers.{Fiber, Shared}
use Rattle.event_script.specs.World.{world_entries}
use Rattle.class_world.specs.Hearing.{heard_of}
use Rattle.class_world.specs.Classes.{Member, Class, Played, seen_before, Hear, AreInOrder}
use Rattle.class_world.proofs.Laws.{rising_heard}
use Rattle.class_steps.specs.Outlook.{IsSeenAs}
use Rattle.class_steps.specs.Texts.{Reached}
use Rattle.class_steps.proofs.Laws.{reached, reached_first}
use Rattle.class_radio.specs.declared.player.Player.{Player}
use Rattle.class_radio.specs.Playing.{Setup, member_of, run_given, outlook, HasPlayed, HasCome}
use Rattle.class_radio.specs.Outcome.{members_of}
use Rattle.class_radio.specs.Stepped.{Past, setups_in, seens, outlooks, shown_boards, HaveHeard, IsAtMoment, Passed, EachBoard}

-- a board's run, with the free words that it used and no others
abbrev pub run_of : Past → ℕ → Played Fiber Shared
run_of h steps = run_given h.setup h.script steps (h.used ++ [])

abbrev pub runs_of : List Past → List Player → List (Played Fiber Shared)
runs_of [] ps = []
runs_of (h ∷ hs) [] = []
runs_of (h ∷ hs) (p ∷ ps) = run_of h p.board.instructions ∷ runs_of hs ps

abbrev pub frees_of : List Past → List (List ℕ)
frees_of hs = map (λ (h : Past). h.used ++ []) hs

-- what is known of each board: its script ends with the class, and rises
pub record Fits (until : ℕ) (h : Past) : Type 0 where
  pub end : h.setup.script.end ≡ until
  pub rising : IsRisingFrom 0 h.script

pub fit_all : (lost : ℕ → ℕ → ℕ → Bool) (t until : ℕ) (seen : List (List Observation)) (j : ℕ) (hs : List Past) → AllByRecursion (λ (s : Setup). s.script.end ≡ until) (setups_in hs)
    → AllByRecursion (λ (s : Setup). IsRisingFrom 0 (world_entries s.script.entries)) (setups_in hs) → HaveHeard lost t until seen j hs → AllByRecursion (Fits until) hs
fit_all lost t until seen j [] e r h = tt
fit_all lost t until seen j (x ∷ xs) e r h =
    (record { end = e.0; rising = subst (IsRisingFrom 0) (sym h.0) (rising_heard (heard_of lost t until j 0 seen) (world_entries x.setup.script.entries) r.0) }, fit_all lost t until seen (suc j) xs e.1 r.1 h.1)

pub fit_left : {X : Type 0} (P : X → Type 0) (xs ys : List X) → AllByRecursion P (xs ++ ys) → AllByRecursion P xs
fit_left P [] ys h = tt
fit_left P (x ∷ xs) ys h = (h.0, fit_left P xs ys h.1)

pub fit_right : {X : Type 0} (P : X → Type 0) (xs ys : List X) → AllByRecursion P (xs ++ ys) → AllByRecursion P ys
fit_right P [] ys h = h
fit_right P (x ∷ xs) ys h = fit_right P xs ys h.1

-- the members of the class are those of the runs
pub members_are : (R : ℕ → Past → Player → Type 0) (b : ℕ) (hs : List Past) (ps : List Player) → EachBoard R b hs ps → map (λ (p : Played Fiber Shared). p.member) (runs_of hs ps) ≡ members_of (setups_in hs) (frees_of hs)
members_are R b [] [] e = refl
members_are R b [] (p ∷ ps) e = absurd e
members_are R b (h ∷ hs) [] e = absurd e
members_are R b (h ∷ hs) (p ∷ ps) e = ap (λ (ms : List (Member Fiber Shared)). member_of h.setup (h.used ++ []) ∷ ms) (members_are R (suc b) hs ps e.1)

pub in_order : (ss : List Setup) (fs : List (List ℕ)) → AllByRecursion (λ (s : Setup). IsRisingFrom 0 (world_entries s.script.entries)) ss → AreInOrder (members_of ss fs)
in_order [] fs h = tt
in_order (s ∷ ss) [] h = (h.0, in_order ss [] h.1)
in_order (s ∷ ss) (f ∷ fs) h = (h.0, in_order ss fs h.1)

-- each run is on its script with what it heard
pub hear_all : (C : Class Fiber Shared) (t : ℕ) (seen : List (List Observation)) (R : ℕ → Past → Player → Type 0) (j b : ℕ) (hs : List Past) (ps : List Player) → EachBoard R b hs ps → HaveHeard C.lost t C.until seen j hs → Hear C t seen j (runs_of hs ps)
hear_all C t seen R j b [] [] e h = tt
hear_all C t seen R j b [] (p ∷ ps) e h = absurd e
hear_all C t seen R j b (x ∷ xs) [] e h = absurd e
hear_all C t seen R j b (x ∷ xs) (p ∷ ps) e h = (h.0, hear_all C t seen R (suc j) (suc b) xs ps e.1 h.1)

-- those that have gone through a moment look as their players do behind it, and those that have come to it have reached it
module _ (until t budget : ℕ) where
  seen_one : (h : Past) (p : Player) → Fits until h → HasPlayed h.setup h.script t h.used h.seen p → IsSeenAs until t (run_of h p.board.instructions) (outlook h.seen p)
  seen_one h p f played = subst (λ (u : ℕ). IsSeenAs u t (run_of h p.board.instructions) (outlook h.seen p)) f.end (played.looks [])

module _ (C : Class Fiber Shared) (t budget : ℕ) where
  pub passed_all : (b : ℕ) (hs : List Past) (ps : List Player) → AllByRecursion (Fits C.until) hs → EachBoard (Passed budget t) b hs ps → Paired (Reached C.until (suc t)) (runs_of hs ps) (shown_boards hs ps)
  passed_all b [] [] f e = tt
  passed_all b [] (p ∷ ps) f e = absurd e
  passed_all b (h ∷ hs) [] f e = absurd e
  passed_all b (h ∷ hs) (p ∷ ps) f e =
      (reached C (run_of h p.board.instructions) f.0.rising t (outlook h.seen p) (seen_one C.until (suc t) budget h p f.0 e.0.played), passed_all (suc b) hs ps f.1 e.1)

  come_one : (u b : ℕ) → t ≡ u → (h : Past) (p : Player) → Fits C.until h → IsAtMoment budget t b h p → Reached C.until t (run_of h p.board.instructions) (outlook h.seen p).board
  come_one zero b e h p f c = subst (λ (u : ℕ). Reached C.until u (run_of h p.board.instructions) (outlook h.seen p).board) (sym e) (reached_first C.until (run_of h p.board.instructions) (outlook h.seen p).board)
  come_one (suc u) b e h p f c = by_come c.come
    where
      by_come : HasCome h.setup h.script t h.used h.seen p → Reached C.until t (run_of h p.board.instructions) (outlook h.seen p).board
      by_come (inl played) =
          subst (λ (v : ℕ). Reached C.until v (run_of h p.board.instructions) (outlook h.seen p).board) (sym e)
          (reached C (run_of h p.board.instructions) f.rising u (outlook h.seen p) (seen_one C.until (suc u) budget h p f (subst (λ (v : ℕ). HasPlayed h.setup h.script v h.used h.seen p) e played)))
      by_come (inr fresh) = absurd (let z : t ≡ 0 = fresh.1 in omega (arith, e, z))

  pub come_all : (b : ℕ) (hs : List Past) (ps : List Player) → AllByRecursion (Fits C.until) hs → EachBoard (IsAtMoment budget t) b hs ps → Paired (Reached C.until t) (runs_of hs ps) (shown_boards hs ps)
  come_all b [] [] f e = tt
  come_all b [] (p ∷ ps) f e = absurd e
  come_all b (h ∷ hs) [] f e = absurd e
  come_all b (h ∷ hs) (p ∷ ps) f e = (come_one t b refl h p f.0 e.0, come_all (suc b) hs ps f.1 e.1)

  -- none has made more steps than its budget
  pub within_passed : (b : ℕ) (hs : List Past) (ps : List Player) → EachBoard (Passed budget t) b hs ps → AllByRecursion (λ (p : Played Fiber Shared). p.steps ≤ budget) (runs_of hs ps)
  within_passed b [] [] e = tt
  within_passed b [] (p ∷ ps) e = absurd e
  within_passed b (h ∷ hs) [] e = absurd e
  within_passed b (h ∷ hs) (p ∷ ps) e = (e.0.numbered.within, within_passed (suc b) hs ps e.1)

  pub within_come : (b : ℕ) (hs : List Past) (ps : List Player) → EachBoard (IsAtMoment budget t) b hs ps → AllByRecursion (λ (p : Played Fiber Shared). p.steps ≤ budget) (runs_of hs ps)
  within_come b [] [] e = tt
  within_come b [] (p ∷ ps) e = absurd e
  within_come b (h ∷ hs) [] e = absurd e
  within_come b (h ∷ hs) (p ∷ ps) e = (e.0.numbered.within, within_come (suc b) hs ps e.1)

-- what boards that have come behind the last moment look like
module _ (until u budget : ℕ) where
  come_looks : (h : Past) (p : Player) → Fits until h → HasCome h.setup h.script (suc u) h.used h.seen p → IsSeenAs until (suc u) (run_of h p.board.instructions) (outlook h.seen p)
  come_looks h p f (inl played) = seen_one until (suc u) budget h p f played
  come_looks h p f (inr fresh) = absurd (let z : suc u ≡ 0 = fresh.1 in omega (arith, z))

  pub looks_all : (b : ℕ) (hs : List Past) (ps : List Player) → AllByRecursion (Fits until) hs → EachBoard (IsAtMoment budget (suc u)) b hs ps → Paired (IsSeenAs until (suc u)) (runs_of hs ps) (outlooks (seens hs) ps)
  looks_all b [] [] f e = tt
  looks_all b [] (p ∷ ps) f e = absurd e
  looks_all b (h ∷ hs) [] f e = absurd e
  looks_all b (h ∷ hs) (p ∷ ps) f e = (come_looks h p f.0 e.0.come, looks_all (suc b) hs ps f.1 e.1)

  pub seen_all : (b : ℕ) (hs : List Past) (ps : List Player) → AllByRecursion (Fits until) hs → EachBoard (IsAtMoment budget (suc u)) b hs ps → map (seen_before until (suc u)) (runs_of hs ps) ≡ seens hs
  seen_all b [] [] f e = refl
  seen_all b [] (p ∷ ps) f e = absurd e
  seen_all b (h ∷ hs) [] f e = absurd e
  seen_all b (h ∷ hs) (p ∷ ps) f e =
      ap (λ (os : List Observation). os ∷ map (seen_before until (suc u)) (runs_of hs ps)) (come_looks h p f.0 e.0.come).like.seen ∙ ap (λ (l : List (List Observation)). h.seen ∷ l) (seen_all (suc b) hs ps f.1 e.1)
