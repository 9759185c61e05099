-- Boards one by one.
use Rattle.std.proofs.Common.{◌≡◌, ℕ, suc, ◌+◌, Bool, List, [], ◌∷◌, ◌++◌, length, map, refl, ap, sym, ◌∙◌, subst, arith, append_assoc}
use Rattle.std.specs.List.{AllByRecursion}
use Rattle.board_world.specs.Observations.{ByteList, Observation}
use Rattle.board_world.specs.Board.{Board, Entry}
use Rattle.board_world.specs.Before.{IsRisingFrom}
use Rattle.board_world.specs.Simulation.{Paired}
use Rattle.event_script.specs.World.{world_entries}
use Rattle.class_world.specs.Hearing.{before, heard_of, with_heard}
use Rattle.class_world.specs.Lines.{lines_at, moment_lines, WroteSame}
use Rattle.class_world.proofs.Laws.{rising_heard, heard_of_before}
use Rattle.class_radio.specs.declared.player.Player.{Player}
use Rattle.class_radio.specs.Playing.{Setup, outlook}
use Rattle.class_radio.specs.Stepped.{ClassPlan, Past, setups_in, shown_boards, HaveHeard, EachBoard}

module _ (R : ℕ → Past → Player → Type 0) where
  pub each_long : (b : ℕ) (hs : List Past) (ps : List Player) → EachBoard R b hs ps → length hs ≡ length ps
  each_long b [] [] e = refl
  each_long b [] (p ∷ ps) e = absurd e
  each_long b (h ∷ hs) [] e = absurd e
  each_long b (h ∷ hs) (p ∷ ps) e = ap suc (each_long (suc b) hs ps e.1)

  pub each_more : (b n : ℕ) (hs : List Past) (ps : List Player) (h : Past) (p : Player) → EachBoard R b hs ps → b + length hs ≡ n → R n h p → EachBoard R b (hs ++ h ∷ []) (ps ++ p ∷ [])
  each_more b n [] [] h p e count r = (let same : n ≡ b = omega (arith, count) in subst (λ (k : ℕ). R k h p) same r, tt)
  each_more b n [] (q ∷ qs) h p e count r = absurd e
  each_more b n (g ∷ gs) [] h p e count r = absurd e
  each_more b n (g ∷ gs) (q ∷ qs) h p e count r = (e.0, each_more (suc b) n gs qs h p e.1 (omega (arith, count)) r)

  -- a player's past stands where the player stands
  pub record Headed (b : ℕ) (hs : List Past) (p : Player) (ps : List Player) : Type 0 where
    pub here : Past
    pub others : List Past
    pub is : hs ≡ here ∷ others
    pub holds : R b here p
    pub rest : EachBoard R (suc b) others ps

  pub headed : (b : ℕ) (hs : List Past) (p : Player) (ps : List Player) → EachBoard R b hs (p ∷ ps) → Headed b hs p ps
  headed b [] p ps e = absurd e
  headed b (h ∷ hs) p ps e = record { here = h; others = hs; is = refl; holds = e.0; rest = e.1 }

  pub none_left : (b : ℕ) (hs : List Past) → EachBoard R b hs [] → hs ≡ []
  none_left b [] e = refl
  none_left b (h ∷ hs) e = absurd e

pub each_weaker : (R Q : ℕ → Past → Player → Type 0) → ((b : ℕ) (h : Past) (p : Player) → R b h p → Q b h p) → (b : ℕ) (hs : List Past) (ps : List Player) → EachBoard R b hs ps → EachBoard Q b hs ps
each_weaker R Q f b [] [] e = tt
each_weaker R Q f b [] (p ∷ ps) e = absurd e
each_weaker R Q f b (h ∷ hs) [] e = absurd e
each_weaker R Q f b (h ∷ hs) (p ∷ ps) e = (f b h p e.0, each_weaker R Q f (suc b) hs ps e.1)

pub all_at : {X : Type 0} (P : X → Type 0) (xs : List X) (y : X) (zs : List X) → AllByRecursion P (xs ++ y ∷ zs) → P y
all_at P [] y zs h = h.0
all_at P (x ∷ xs) y zs h = all_at P xs y zs h.1

pub setups_split : (gone : List Past) (here : Past) (still : List Past) → setups_in (gone ++ here ∷ still) ≡ setups_in gone ++ here.setup ∷ setups_in still
setups_split [] here still = refl
setups_split (g ∷ gs) here still = ap (λ (ss : List Setup). g.setup ∷ ss) (setups_split gs here still)

pub map_append : {X Y : Type 0} (f : X → Y) (xs ys : List X) → map f (xs ++ ys) ≡ map f xs ++ map f ys
map_append f [] ys = refl
map_append f (x ∷ xs) ys = ap (λ l. f x ∷ l) (map_append f xs ys)

-- what a plan says of a board
pub plan_at : (plan : ClassPlan) (P : Setup → Type 0) → AllByRecursion P plan.setups → (gone : List Past) (here : Past) (still : List Past) → setups_in (gone ++ here ∷ still) ≡ plan.setups → P here.setup
plan_at plan P all gone here still e = all_at P (setups_in gone) here.setup (setups_in still) (subst (AllByRecursion P) (sym e ∙ setups_split gone here still) all)

-- a board's script is in order
pub heard_at_board : (lost : ℕ → ℕ → ℕ → Bool) (t until : ℕ) (seen : List (List Observation)) (j : ℕ) (gone : List Past) (here : Past) (still : List Past) → HaveHeard lost t until seen j (gone ++ here ∷ still)
    → IsRisingFrom 0 (world_entries here.setup.script.entries) → IsRisingFrom 0 here.script
heard_at_board lost t until seen j [] here still h r = subst (IsRisingFrom 0) (sym h.0) (rising_heard (heard_of lost t until j 0 seen) (world_entries here.setup.script.entries) r)
heard_at_board lost t until seen j (g ∷ gs) here still h r = heard_at_board lost t until seen (suc j) gs here still h.1 r

-- what was seen before a moment says what was heard
pub heard_same : (lost : ℕ → ℕ → ℕ → Bool) (t until : ℕ) (seen sees : List (List Observation)) → map (before t) seen ≡ map (before t) sees → (j : ℕ) (hs : List Past) → HaveHeard lost t until seen j hs → HaveHeard lost t until sees j hs
heard_same lost t until seen sees e j [] h = tt
heard_same lost t until seen sees e j (x ∷ xs) h = (
  h.0 ∙ ap (λ (es : List Entry). with_heard es (world_entries x.setup.script.entries)) (sym (heard_of_before lost until t j 0 seen) ∙ ap (heard_of lost t until j 0) e ∙ heard_of_before lost until t j 0 sees),
  heard_same lost t until seen sees e (suc j) xs h.1,
)

pub heard_scripts : (lost : ℕ → ℕ → ℕ → Bool) (t until : ℕ) (seen : List (List Observation)) (j : ℕ) (gone : List Past) (here there : Past) (still : List Past) → here.setup ≡ there.setup → here.script ≡ there.script
    → HaveHeard lost t until seen j (gone ++ here ∷ still) → HaveHeard lost t until seen j (gone ++ there ∷ still)
heard_scripts lost t until seen j [] here there still s c h = (sym c ∙ h.0 ∙ ap (λ (x : Setup). with_heard (heard_of lost t until j 0 seen) (world_entries x.script.entries)) s, h.1)
heard_scripts lost t until seen j (g ∷ gs) here there still s c h = (h.0, heard_scripts lost t until seen (suc j) gs here there still s c h.1)

-- the boards that players show, one behind the other
pub shown_append : (gone still : List Past) (first rest : List Player) → length gone ≡ length first → shown_boards (gone ++ still) (first ++ rest) ≡ shown_boards gone first ++ shown_boards still rest
shown_append [] still [] rest e = refl
shown_append [] still (p ∷ ps) rest e = absurd (omega (arith, e))
shown_append (g ∷ gs) still [] rest e = absurd (omega (arith, e))
shown_append (g ∷ gs) still (p ∷ ps) rest e = ap (λ (bs : List Board). (outlook g.seen p).board ∷ bs) (shown_append gs still ps rest (omega (arith, e)))

pub shown_long : (gone : List Past) (first : List Player) → length (shown_boards gone first) ≡ length first
shown_long [] [] = refl
shown_long [] (p ∷ ps) = ap suc (shown_long [] ps)
shown_long (g ∷ gs) [] = refl
shown_long (g ∷ gs) (p ∷ ps) = ap suc (shown_long gs ps)

pub moment_more : (t b : ℕ) (ws vs : List Board) → moment_lines t b (ws ++ vs) ≡ moment_lines t b ws ++ moment_lines t (b + length ws) vs
moment_more t b [] vs = ap (λ (n : ℕ). moment_lines t n vs) (let same : b ≡ b + 0 = omega arith in same)
moment_more t b (w ∷ ws) vs =
    ap (λ (r : ByteList). lines_at t b w ++ r) (moment_more t (suc b) ws vs ∙ ap (λ (n : ℕ). moment_lines t (suc b) ws ++ moment_lines t n vs) (let same : suc b + length ws ≡ b + suc (length ws) = omega arith in same))
    ∙ sym (append_assoc (lines_at t b w) (moment_lines t (suc b) ws) (moment_lines t (b + suc (length ws)) vs))

pub wrote_same : (t : ℕ) (w : Board) → WroteSame t w w
wrote_same t w = record { seen = refl; stopped = λ s b l. refl }

pub wrote_all_same : (t : ℕ) (ws : List Board) → Paired (WroteSame t) ws ws
wrote_all_same t [] = tt
wrote_all_same t (w ∷ ws) = (wrote_same t w, wrote_all_same t ws)

pub wrote_at : (t : ℕ) (ws : List Board) (w v : Board) (vs : List Board) → WroteSame t w v → Paired (WroteSame t) (ws ++ w ∷ vs) (ws ++ v ∷ vs)
wrote_at t [] w v vs h = (h, wrote_all_same t vs)
wrote_at t (x ∷ xs) w v vs h = (wrote_same t x, wrote_at t xs w v vs h)
