-- How far a board comes in a run.
use Rattle.std.proofs.Common.{◌≡◌, ℕ, zero, suc, ◌+◌, true, false, List, [], ◌∷◌, ◌++◌, Option, Some, None, is_some, refl, sym, ap, ◌∙◌, subst, arith, append_assoc}
use Rattle.std.proofs.lemmas.List.{append-nil}
use Rattle.board_world.specs.Board.{Board, over}
use Rattle.board_world.specs.Kinds.{Turn}
use Rattle.board_world.specs.Activities.{Activity, World}
use Rattle.board_world.specs.World.{acted, moved, idled, idle_while, idle_bound, tick, stepped}
use Rattle.board_world.specs.Before.{moves_before, idle_before, stepped_before, tick_before}
use Rattle.board_world.proofs.Laws.{busy_stays, idled_first, first_before, over_stays}
use Rattle.bank_model.specs.Fibers.{Fiber, Shared}
use Rattle.bank_model.specs.BoardMachine.{fibers, fiber_turn}
use Rattle.fiber_runtime.specs.declared.turning.Turning.{Turning}
use Rattle.bank_model.specs.Standing.{fiber_on, shared_on}
use Rattle.board_run.specs.Represents.{BoardState, Represents, IsShown, behind}
use Rattle.board_outside.specs.Moves.{Move, HasMet}
use Rattle.board_run.specs.Run.{idled_to, run_to, Reaches, ComesTo, Comes}
use Rattle.board_run.proofs.FiberGoesOn.{current, first_ready}

-- one call behind another
pub comes_then : (bound : Option ℕ) (image : List ℕ) (n m : ℕ) (first second : List Move) (a b c : BoardState) → ComesTo bound image n first a b → ComesTo bound image m second b c → ComesTo bound image (m + n) (first ++ second) a c
comes_then bound image n m first second a b c f g start k used met r =
    let x = f start k used met r in
    let y = g start (n + k) (used ++ x.0) (met ++ first) x.1 in
    let count : m + (n + k) ≡ m + n + k = omega arith in
    let words = append_assoc used x.0 y.0 in
    let moves = append_assoc met first second in (
      x.0 ++ y.0,
      subst (λ j. Reaches bound image start j (used ++ (x.0 ++ y.0)) (met ++ (first ++ second)) c) count
          (subst (λ l. Reaches bound image start (m + (n + k)) (used ++ (x.0 ++ y.0)) l c) moves (subst (λ l. Reaches bound image start (m + (n + k)) l ((met ++ first) ++ second) c) words y.1)),
    )

-- what the board does under a world that stays
pub stutters : (image : List ℕ) (b b' : BoardState) → b'.plain ≡ b.plain → ((w : World Fiber Shared) → Represents image b w → Represents image b' w) → Comes image 0 [] b b'
stutters image b b' p f bound start n used met r =
    let count : n ≡ 0 + n = omega arith in (
      [],
      subst (λ j. Reaches bound image start j (used ++ []) (met ++ []) b') count
          (subst (λ l. Reaches bound image start n l (met ++ []) b') (sym (append-nil used)) (subst (λ l. Reaches bound image start n used l b') (sym (append-nil met))
          (record { at = r.at; shows = λ rest. f (r.at rest) (r.shows rest); free = λ e. r.free (ap (λ (x : Board). x.end) (sym p) ∙ e); met = r.met; settles = r.settles }))),
    )

not_over : (image : List ℕ) (b : BoardState) (w : World Fiber Shared) → Represents image b w → b.plain.end ≡ None → over w.board ≡ false
not_over image b w h e = ap (λ (p : Board). is_some p.end) h.board ∙ ap (λ x. is_some x) e

-- one idle move may be made first, where it comes before the bound
first_to : (image : List ℕ) (bound : Option ℕ) (w : World Fiber Shared) → over w.board ≡ false → w.ready ≡ [] → ((t : ℕ) → bound ≡ Some t → moves_before t w.board.queue w ≡ true)
    → idled_to (fibers image) bound (moved (fibers image) w.board.queue w) ≡ idled_to (fibers image) bound w
first_to image None w o e h = sym (idled_first (fibers image) w o e)
first_to image (Some t) w o e h = first_before (fibers image) t t (omega arith) w e o (h t refl)

-- one idle move, where nobody is ready
pub idles : (bound : Option ℕ) (image : List ℕ) (b b' : BoardState) (more : List Move) → b.plain.end ≡ None → ((w : World Fiber Shared) → Represents image b w → w.ready ≡ [])
    → ((t : ℕ) → bound ≡ Some t → (w : World Fiber Shared) → Represents image b w → moves_before t w.board.queue w ≡ true)
    → ((w : World Fiber Shared) (met : List Move) → Represents image b w → HasMet met w.board
    → Represents image b' (moved (fibers image) w.board.queue w) × ((moved (fibers image) w.board.queue w).shared ≡ w.shared) × HasMet (met ++ more) (moved (fibers image) w.board.queue w).board)
    → ComesTo bound image 0 more b b'
idles bound image b b' more e empty before f start n used met r =
    let K = fibers image in
    let count : n ≡ 0 + n = omega arith in
    let g = λ (rest : List ℕ). f (r.at rest) met (r.shows rest) (r.met rest) in (
      [],
      subst (λ j. Reaches bound image start j (used ++ []) (met ++ more) b') count
          (subst (λ l. Reaches bound image start n l (met ++ more) b') (sym (append-nil used)) (record {
            at = λ rest. moved K (r.at rest).board.queue (r.at rest);
            shows = λ rest. (g rest).0;
            free = λ _. λ rest. ap (λ (s : Shared). s.free) (g rest).1 ∙ r.free e rest;
            met = λ rest. (g rest).2;
            settles = λ rest. first_to image bound (r.at rest) (not_over image b (r.at rest) (r.shows rest) e) (empty (r.at rest) (r.shows rest)) (λ t q. before t q (r.at rest) (r.shows rest)) ∙ r.settles rest;
          })),
    )

idled_busy : (image : List ℕ) (w : World Fiber Shared) (a : Activity Fiber) (others : List (Activity Fiber)) → w.ready ≡ a ∷ others → idled (fibers image) w ≡ w
idled_busy image w a others r = ap (λ l. idle_while (fibers image) (idle_bound w.board) l w) r ∙ busy_stays (fibers image) (idle_bound w.board) a others w

ticks : (image : List ℕ) (w : World Fiber Shared) (a : Activity Fiber) (others : List (Activity Fiber)) → over w.board ≡ false → w.ready ≡ a ∷ others → tick (fibers image) w ≡ idled (fibers image) (acted (fibers image) a others w (fiber_turn image a.self w.shared))
ticks image w a others o r = rw o (ap (λ l. stepped (fibers image) l w) r)

-- the same up to a bound
pub busy_to : (image : List ℕ) (bound : Option ℕ) (w : World Fiber Shared) (a : Activity Fiber) (others : List (Activity Fiber)) → w.ready ≡ a ∷ others → idled_to (fibers image) bound w ≡ w
busy_to image None w a others r = idled_busy image w a others r
busy_to image (Some t) w a others r = ap (λ l. idle_before (fibers image) t (idle_bound w.board) l w) r ∙ stays (idle_bound w.board)
  where
    stays : (n : ℕ) → idle_before (fibers image) t n (a ∷ others) w ≡ w
    stays zero = refl
    stays (suc n) = refl

abbrev tick_to : List ℕ → Option ℕ → World Fiber Shared → World Fiber Shared
tick_to image None w = tick (fibers image) w
tick_to image (Some t) w = tick_before (fibers image) t w

run_one : (image : List ℕ) (bound : Option ℕ) (n : ℕ) (w : World Fiber Shared) → run_to (fibers image) bound (suc n) w ≡ tick_to image bound (run_to (fibers image) bound n w)
run_one image None n w = refl
run_one image (Some t) n w = refl

ticks_to : (image : List ℕ) (bound : Option ℕ) (w : World Fiber Shared) (a : Activity Fiber) (others : List (Activity Fiber)) → over w.board ≡ false → w.ready ≡ a ∷ others
    → tick_to image bound w ≡ idled_to (fibers image) bound (acted (fibers image) a others w (fiber_turn image a.self w.shared))
ticks_to image None w a others o r = ticks image w a others o r
ticks_to image (Some t) w a others o r = rw o (ap (λ l. stepped_before (fibers image) t l w) r)

pub over_to : (image : List ℕ) (bound : Option ℕ) (w : World Fiber Shared) → over w.board ≡ true → (idled_to (fibers image) bound w ≡ w) × (tick_to image bound w ≡ w)
over_to image None w o = (over_stays (fibers image) (idle_bound w.board) w.ready w o, rw o refl)
over_to image (Some t) w o = (stays (idle_bound w.board) w.ready, rw o refl)
  where
    stays : (n : ℕ) (xs : List (Activity Fiber)) → idle_before (fibers image) t n xs w ≡ w
    stays zero xs = refl
    stays (suc n) (x ∷ xs) = refl
    stays (suc n) [] = rw o refl

pub same_shared : (g g' a a' f f' : List ℕ) (u u' : ℕ) → g ≡ g' → a ≡ a' → f ≡ f' → u ≡ u' → (let x : Shared = record { globals = g; arena = a; used = u; free = f } in let y : Shared = record { globals = g'; arena = a'; used = u'; free = f' } in x ≡ y)
same_shared g g' a a' f f' u u' p q r s = rw (p, q, r, s) refl

-- One instruction of the running fiber: its turn takes some of the free words, and the board shows what the turn does to the world.
pub executes : (image : List ℕ) (b b' : BoardState) (t : Turning) (more : List Move) → b.runtime.running ≡ Some t → b.plain.end ≡ None
    → (used : List ℕ) (turn : List ℕ → Turn Fiber Shared) → ((rest : List ℕ) → fiber_turn image (fiber_on b.runtime.machine) (shared_on b.plain.used b.runtime.machine.memory (used ++ rest)) ≡ turn rest)
    → ((rest : List ℕ) (w : World Fiber Shared) (met : List Move) (h : Represents image b w) → w.shared ≡ shared_on b.plain.used b.runtime.machine.memory (used ++ rest) → HasMet met w.board
    → (let v = acted (fibers image) (current b t h.mark) (behind image b) w (turn rest) in Represents image b' v × (b'.plain.end ≡ None → v.shared.free ≡ rest) × HasMet (met ++ more) v.board))
    → Comes image 1 more b b'
executes image b b' t more runs going taken turn s f bound start n used met r =
    let K = fibers image in
    let w = λ (rest : List ℕ). r.at (taken ++ rest) in
    let h = λ (rest : List ℕ). r.shows (taken ++ rest) in
    let a = λ (rest : List ℕ). current b t (h rest).mark in
    let first = λ (rest : List ℕ). first_ready image b (w rest) (h rest) t runs in
    let shared = λ (rest : List ℕ). same_shared (w rest).shared.globals _ (w rest).shared.arena _ (w rest).shared.free _ (w rest).shared.used _ (h rest).globals (h rest).arena (r.free going (taken ++ rest)) (h rest).used in
    let g = λ (rest : List ℕ). f rest (w rest) met (h rest) (shared rest) (r.met (taken ++ rest)) in
    let step = λ (rest : List ℕ). ap (fiber_turn image (fiber_on b.runtime.machine)) (shared rest) ∙ s rest in
    let count : suc n ≡ 1 + n = omega arith in (
      taken,
      subst (λ j. Reaches bound image start j (used ++ taken) (met ++ more) b') count (record {
        at = λ rest. acted K (a rest) (behind image b) (w rest) (turn rest);
        shows = λ rest. (g rest).0;
        free = λ o. λ rest. (g rest).1 o;
        met = λ rest. (g rest).2;
        settles = λ rest.
            ap (λ y. idled_to K bound (acted K (a rest) (behind image b) (w rest) y)) (sym (step rest))
            ∙ sym (ticks_to image bound (w rest) (a rest) (behind image b) (not_over image b (w rest) (h rest) going) (first rest))
            ∙ ap (tick_to image bound) (sym (busy_to image bound (w rest) (a rest) (behind image b) (first rest)) ∙ r.settles (taken ++ rest))
            ∙ sym (run_one image bound n (idled_to K bound (start (used ++ (taken ++ rest)))))
            ∙ ap (λ l. run_to K bound (suc n) (idled_to K bound (start l))) (sym (append_assoc used taken rest));
      }),
    )

abbrev pub IsSomeEnd : BoardState → Type 0
IsSomeEnd b = is_some b.plain.end ≡ true

-- Once the run is over, as many instructions as one likes lead no further.
pub over_for_good : (bound : Option ℕ) (image : List ℕ) (b : BoardState) (start : List ℕ → World Fiber Shared) (n : ℕ) (used : List ℕ) (met : List Move) (e : IsSomeEnd b) → Reaches bound image start n used met b → Reaches bound image start (suc n) used met b
over_for_good bound image b start n used met e r =
    let K = fibers image in
    let ends = λ (rest : List ℕ). ap (λ (p : Board). is_some p.end) (r.shows rest).board ∙ e in
    record {
      at = r.at;
      shows = r.shows;
      free = r.free;
      met = r.met;
      settles = λ rest.
          let w = r.at rest in
          let o = over_to image bound w (ends rest) in
          o.0 ∙ sym o.1 ∙ ap (tick_to image bound) (sym o.0 ∙ r.settles rest) ∙ sym (run_one image bound n (idled_to K bound (start (used ++ rest))));
    }

-- A board that shows a world may begin a run there, whatever the free words are.
pub shown_reaches : (bound : Option ℕ) (image : List ℕ) (b : BoardState) (w : World Fiber Shared) → Represents image b w
    → Reaches bound image (λ rest. record w { board = record w.board { seen = []; unplugged = [] }; shared = record w.shared { free = rest } }) 0 [] [] b
shown_reaches bound image b w h = record {
  at = λ rest. record w { board = record w.board { seen = []; unplugged = [] }; shared = record w.shared { free = rest } };
  shows = λ rest. record {
    sound = h.sound;
    stands = h.stands;
    runner = h.runner;
    nested = h.nested;
    stack = h.stack;
    places = h.places;
    flash = h.flash;
    globals = h.globals;
    arena = h.arena;
    used = h.used;
    board = ap (λ (p : Board). record p { seen = []; unplugged = [] }) h.board;
    seats = h.seats;
    hears = record { listeners = h.hears.listeners; queue = h.hears.queue; alive = h.hears.alive };
    mark = h.mark;
    ready = h.ready;
    sleepers = h.sleepers;
    waiters = h.waiters;
  };
  free = λ _. λ rest. refl;
  met = λ rest. record { seen = refl; unplugged = refl };
  settles = λ rest. none_run bound _;
}
  where
    none_run : (bound : Option ℕ) (v : World Fiber Shared) → v ≡ run_to (fibers image) bound 0 v
    none_run None v = refl
    none_run (Some t) v = refl

-- So however far it comes, it shows a world.
pub comes_shown : (n : ℕ) (more : List Move) (b c : BoardState) → IsShown b → ((image : List ℕ) → ComesTo None image n more b c) → IsShown c
comes_shown n more b c s f =
    let image = b.runtime.machine.memory.flash in
    let r = f image _ 0 [] [] (shown_reaches None image b s.world s.shows) in
    let w = r.1.at [] in
    let h : Represents image c w = r.1.shows [] in
    record { world = w; shows = subst (λ i. Represents i c w) (sym h.flash) h }
