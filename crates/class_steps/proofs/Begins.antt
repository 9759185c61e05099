-- Boards in the midst of a moment, however far one has come in it: some run of their class within a budget writes what they have written, and more.
use Rattle.std.proofs.Common.{◌≡◌, ℕ, zero, suc, ◌+◌, ◌-◌, ◌≤◌, ◌<◌, ◌⊎◌, inl, inr, Bool, true, false, nat_le, List, [], ◌∷◌, ◌++◌, length, map, None, refl, ap, sym, ◌∙◌, subst, arith, append_assoc}
use Rattle.std.proofs.lemmas.Bool.Decides.{nat_tests}
use Rattle.std.specs.List.{AllByRecursion}
use Rattle.sts_base.specs.Prefix.{IsPrefix}
use Rattle.board_world.specs.Observations.{ByteList, Observation}
use Rattle.board_world.specs.Transcript.{closing_line}
use Rattle.board_world.specs.Board.{Board, Entry, over}
use Rattle.board_world.specs.Simulation.{Paired}
use Rattle.board_world.specs.Before.{IsRisingFrom}
use Rattle.class_world.specs.Hearing.{before, heard_of, with_heard, raised_at}
use Rattle.class_world.specs.Classes.{Member, Class, Played, world_of, world_before, seen_by, Passes, Hear, AreInOrder, IsRunTo}
use Rattle.class_world.specs.Lines.{numbered, seen_at, lines_at, moment_lines, lines_before, class_end, closing_lines, whole_text, cut_text, WroteSame}
use Rattle.class_world.proofs.Laws.{heard_behind, rising_heard, heard_on, heard_of_before, lines_same, all_ended}
use Rattle.class_steps.specs.Outlook.{Outlook, IsSeenAs, looks}
use Rattle.class_steps.specs.Texts.{Reached, boards_now, IsTextOf}
use Rattle.class_steps.proofs.Cutting.{boards_append, boards_length, cut_as, reached, reached_sooner, runs_to, moment_of_all}
use Rattle.class_steps.proofs.Longer.{come, longer_reached, cut_lines, more_lines, given_reached}

-- beginnings
begins_more : (a b c : ByteList) → IsPrefix a b → IsPrefix a (b ++ c)
begins_more a b c h = (h.0 ++ c, sym (append_assoc a h.0 c) ∙ ap (λ (l : ByteList). l ++ c) h.1)

begins_behind : (x a b : ByteList) → IsPrefix a b → IsPrefix (x ++ a) (x ++ b)
begins_behind x a b h = (h.0, append_assoc x a h.0 ∙ ap (λ (l : ByteList). x ++ l) h.1)

begins_same : (a b c d : ByteList) → a ≡ b → c ≡ d → IsPrefix b d → IsPrefix a c
begins_same a b c d e f h = (h.0, ap (λ (l : ByteList). l ++ h.0) e ∙ h.1 ∙ sym f)

begins_trans : (a b c : ByteList) → IsPrefix a b → IsPrefix b c → IsPrefix a c
begins_trans a b c h k = (h.0 ++ k.0, sym (append_assoc a h.0 k.0) ∙ ap (λ (l : ByteList). l ++ k.0) h.1 ∙ k.1)

-- the lines of a moment, board by board
moment_append : (t b n : ℕ) (ws vs : List Board) → length ws + b ≡ n → moment_lines t b (ws ++ vs) ≡ moment_lines t b ws ++ moment_lines t n vs
moment_append t b n [] vs e = (let same : b ≡ n = omega (arith, e) in ap (λ (i : ℕ). moment_lines t i vs) same)
moment_append t b n (w ∷ ws) vs e =
    ap (λ (l : ByteList). lines_at t b w ++ l) (moment_append t (suc b) n ws vs (omega (arith, e))) ∙ sym (append_assoc (lines_at t b w) (moment_lines t (suc b) ws) (moment_lines t n vs))

abbrev AllRise : {A S : Type 0} → List (Played A S) → Type 0
AllRise ps = AllByRecursion (λ (p : Played _ _). IsRisingFrom 0 p.script) ps

abbrev AllMade : {A S : Type 0} → ℕ → List (Played A S) → Type 0
AllMade budget ps = AllByRecursion (λ (p : Played _ _). p.steps ≡ budget) ps

all_within : {A S : Type 0} (budget : ℕ) (ps : List (Played A S)) → AllMade budget ps → AllByRecursion (λ (p : Played A S). p.steps ≤ budget) ps
all_within budget [] h = tt
all_within budget (p ∷ ps) h = (let e : p.steps ≡ budget = h.0 in omega (arith, e), all_within budget ps h.1)

made_here : {A S : Type 0} (budget : ℕ) (first : List (Played A S)) (here : Played A S) (rest : List (Played A S)) → AllMade budget (first ++ here ∷ rest) → here.steps ≡ budget
made_here budget [] here rest h = h.0
made_here budget (p ∷ ps) here rest h = made_here budget ps here rest h.1

-- what boards have seen that have reached a moment
pub seens_of : {A S : Type 0} (until t : ℕ) (ps : List (Played A S)) (bs : List Board) → Paired (Reached until t) ps bs → map (before t) (map (seen_by until) ps) ≡ map (λ (w : Board). before t w.seen) bs
seens_of until t [] [] h = refl
seens_of until t [] (b ∷ bs) h = absurd h
seens_of until t (p ∷ ps) [] h = absurd h
seens_of until t (p ∷ ps) (b ∷ bs) h =
    ap (λ (l : List Observation). l ∷ map (before t) (map (seen_by until) ps)) h.0.wrote.seen ∙ ap (λ (ls : List (List Observation)). before t b.seen ∷ ls) (seens_of until t ps bs h.1)

seens_now : {A S : Type 0} (until t : ℕ) (ps : List (Played A S)) → map (λ (w : Board). before t w.seen) (boards_now until ps) ≡ map (before t) (map (seen_by until) ps)
seens_now until t [] = refl
seens_now until t (p ∷ ps) = ap (λ (ls : List (List Observation)). before t (seen_by until p) ∷ ls) (seens_now until t ps)

wrote_of : {A S : Type 0} (until t : ℕ) (ps : List (Played A S)) (bs : List Board) → Paired (Reached until t) ps bs → Paired (WroteSame t) (boards_now until ps) bs
wrote_of until t [] [] h = tt
wrote_of until t [] (b ∷ bs) h = absurd h
wrote_of until t (p ∷ ps) [] h = absurd h
wrote_of until t (p ∷ ps) (b ∷ bs) h = (h.0.wrote, wrote_of until t ps bs h.1)

sooner_of : {A S : Type 0} (until t u : ℕ) → t ≤ u → (ps : List (Played A S)) (bs : List Board) → Paired (Reached until u) ps bs → Paired (Reached until t) ps bs
sooner_of until t u l [] [] h = tt
sooner_of until t u l [] (b ∷ bs) h = absurd h
sooner_of until t u l (p ∷ ps) [] h = absurd h
sooner_of until t u l (p ∷ ps) (b ∷ bs) h = (reached_sooner until t u l p b h.0, sooner_of until t u l ps bs h.1)

pairs_of : {A S : Type 0} (until u : ℕ) (below above : List (Played A S)) (bs cs : List Board) → Paired (Reached until u) below bs → Paired (Reached until u) above cs → Paired (Reached until u) (below ++ above) (bs ++ cs)
pairs_of until u [] above [] cs h k = k
pairs_of until u [] above (b ∷ bs) cs h k = absurd h
pairs_of until u (p ∷ ps) above [] cs h k = absurd h
pairs_of until u (p ∷ ps) above (b ∷ bs) cs h k = (h.0, pairs_of until u ps above bs cs h.1 k)

-- where a run hasn't passed a moment, it goes on before it
module _ {A S : Type 0} (C : Class A S) (order : AreInOrder C.members) where
  abbrev Pass : ℕ → List (Played A S) → Type 0
  Pass t ps = AllByRecursion (λ (p : Played A S). Passes t (world_of C.until p)) ps

  abbrev Goes : ℕ → Played A S → Type 0
  Goes t p = (over (world_of C.until p).board ≡ false) × ((world_of C.until p).board.clock < t)

  one_or_not : (t : ℕ) (p : Played A S) → Passes t (world_of C.until p) ⊎ Goes t p
  one_or_not t p = by_tests (over (world_of C.until p).board) refl (nat_le t (world_of C.until p).board.clock) refl
    where
      by_tests : (c : Bool) → over (world_of C.until p).board ≡ c → (d : Bool) → nat_le t (world_of C.until p).board.clock ≡ d → Passes t (world_of C.until p) ⊎ Goes t p
      by_tests true o d l = inl (inl o)
      by_tests false o true l = inl (inr (grind (arith, nat_tests)))
      by_tests false o false l = inr (o, grind (arith, nat_tests))

  -- all pass a moment, or there is a first board that doesn't
  record Fails (t : ℕ) (ps : List (Played A S)) : Type 0 where
    pub first : List (Played A S)
    pub here : Played A S
    pub rest : List (Played A S)
    pub split : ps ≡ first ++ here ∷ rest
    pub passed : Pass t first
    pub goes : over (world_of C.until here).board ≡ false
    pub early : (world_of C.until here).board.clock < t

  all_or_first : (t : ℕ) (ps : List (Played A S)) → Pass t ps ⊎ Fails t ps
  all_or_first t [] = inl tt
  all_or_first t (p ∷ ps) = by_one (one_or_not t p) (all_or_first t ps)
    where
      by_one : Passes t (world_of C.until p) ⊎ Goes t p → Pass t ps ⊎ Fails t ps → Pass t (p ∷ ps) ⊎ Fails t (p ∷ ps)
      by_one (inr g) r = inr (record { first = []; here = p; rest = ps; split = refl; passed = tt; goes = g.0; early = g.1 })
      by_one (inl h) (inl all) = inl (h, all)
      by_one (inl h) (inr f) = inr (record { first = p ∷ f.first; here = f.here; rest = f.rest; split = ap (λ (xs : List (Played A S)). p ∷ xs) f.split; passed = (h, f.passed); goes = f.goes; early = f.early })

  pass_of : (t : ℕ) (ps : List (Played A S)) (bs : List Board) → Paired (Reached C.until t) ps bs → Pass t ps
  pass_of t [] [] h = tt
  pass_of t [] (b ∷ bs) h = absurd h
  pass_of t (p ∷ ps) [] h = absurd h
  pass_of t (p ∷ ps) (b ∷ bs) h = (h.0.passes, pass_of t ps bs h.1)

  pass_here : (t : ℕ) (first : List (Played A S)) (here : Played A S) (rest : List (Played A S)) → Pass t (first ++ here ∷ rest) → Passes t (world_of C.until here)
  pass_here t [] here rest h = h.0
  pass_here t (p ∷ ps) here rest h = pass_here t ps here rest h.1

  -- a board that hasn't passed behind a moment to which it has come stands in it
  stands : (t : ℕ) (p : Played A S) → Passes t (world_of C.until p) → Goes (suc t) p → (world_of C.until p).board.clock ≡ t
  stands t p (inl o) g = absurd (let on = g.0 in cc)
  stands t p (inr l) g = (let low : (world_of C.until p).board.clock < suc t = g.1 in omega (arith, l, low))

  rises : (t : ℕ) (seen : List (List Observation)) (j : ℕ) (ps : List (Played A S)) → AreInOrder (map (λ (p : Played A S). p.member) ps) → Hear C t seen j ps → AllByRecursion (λ (p : Played A S). IsRisingFrom 0 p.script) ps
  rises t seen j [] o h = tt
  rises t seen j (p ∷ ps) o h = (subst (IsRisingFrom 0) (sym h.0) (rising_heard (heard_of C.lost t C.until j 0 seen) p.member.script o.0), rises t seen (suc j) ps o.1 h.1)

  -- the boards' runs with what they hear at the moment behind one
  abbrev next : ℕ → List (List Observation) → (j : ℕ) → List (Played A S) → List (Played A S)
  next u seen j [] = []
  next u seen j (p ∷ ps) = record p { script = with_heard (raised_at (suc u) (heard_behind C.lost u C.until j 0 seen)) p.script } ∷ next u seen (suc j) ps

  next_members : (u : ℕ) (seen : List (List Observation)) (j : ℕ) (ps : List (Played A S)) → map (λ (p : Played A S). p.member) (next u seen j ps) ≡ map (λ (p : Played A S). p.member) ps
  next_members u seen j [] = refl
  next_members u seen j (p ∷ ps) = ap (λ (ms : List (Member A S)). p.member ∷ ms) (next_members u seen (suc j) ps)

  next_made : (budget u : ℕ) (seen : List (List Observation)) (j : ℕ) (ps : List (Played A S)) → AllByRecursion (λ (p : Played A S). p.steps ≡ budget) ps → AllByRecursion (λ (p : Played A S). p.steps ≡ budget) (next u seen j ps)
  next_made budget u seen j [] h = tt
  next_made budget u seen j (p ∷ ps) h = (h.0, next_made budget u seen (suc j) ps h.1)

  next_reached : (u : ℕ) (seen : List (List Observation)) (j : ℕ) (ps : List (Played A S)) → AllByRecursion (λ (p : Played A S). IsRisingFrom 0 p.script) ps → Pass (suc u) ps → Paired (Reached C.until (suc u)) (next u seen j ps) (boards_now C.until ps)
  next_reached u seen j [] r h = tt
  next_reached u seen j (p ∷ ps) r h = (given_reached C.until u p r.0 (heard_behind C.lost u C.until j 0 seen) h.0, next_reached u seen (suc j) ps r.1 h.1)

  next_hear : (u : ℕ) (seen : List (List Observation)) (j : ℕ) (ps : List (Played A S)) → Hear C u seen j ps → Hear C (suc u) (map (before (suc u)) seen) j (next u seen j ps)
  next_hear u seen j [] h = tt
  next_hear u seen j (p ∷ ps) h = (
    ap (λ (es : List Entry). with_heard (raised_at (suc u) (heard_behind C.lost u C.until j 0 seen)) es) h.0
        ∙ sym (heard_on C.lost C.until u j seen p.member.script)
        ∙ ap (λ (es : List Entry). with_heard es p.member.script) (sym (heard_of_before C.lost C.until (suc u) j 0 seen)),
    next_hear u seen (suc j) ps h.1,
  )

  goes_on : (u : ℕ) (ps : List (Played A S)) → IsRunTo C u ps → Pass (suc u) ps → IsRunTo C (suc u) (next u (map (seen_by C.until) ps) 0 ps)
  goes_on u ps r h =
      (let seen = map (seen_by C.until) ps in
      let rising = rises u seen 0 ps (subst AreInOrder (sym r.boards) order) r.hear in
      let now = next_reached u seen 0 ps rising h in
      runs_to C (suc u) (next u seen 0 ps) (boards_now C.until ps) (map (before (suc u)) seen) (next_members u seen 0 ps ∙ r.boards) (next_hear u seen 0 ps r.hear)
      (seens_of C.until (suc u) (next u seen 0 ps) (boards_now C.until ps) now ∙ seens_now C.until (suc u) ps) now)

  -- some text of the class begins so
  abbrev Begun : ℕ → ByteList → Type 0
  Begun budget part = (text : ByteList) × IsTextOf C budget text × IsPrefix part text

  begun_by : (budget : ℕ) (a b : ByteList) → IsPrefix a b → Begun budget b → Begun budget a
  begun_by budget a b h k = (k.0, k.1, begins_trans a b k.0 h k.2)

  -- a board is cut in the moment to which all have come
  cut_here : (budget u : ℕ) (first : List (Played A S)) (here : Played A S) (rest : List (Played A S)) → IsRunTo C u (first ++ here ∷ rest) → Pass (suc u) first → Goes (suc u) here → here.steps ≡ budget → AllByRecursion (λ (p : Played A S). p.steps ≤ budget) (first ++ here ∷ rest)
      → (x : ByteList) → IsPrefix x (moment_lines u 0 (boards_now C.until first) ++ seen_at u (length first) (world_of C.until here).board.seen)
      → Begun budget (lines_before u (boards_now C.until (first ++ here ∷ rest)) ++ x)
  cut_here budget u first here rest r passed goes steps within x h =
      (let now : (world_of C.until here).board.clock ≡ u = stands u here (pass_here u first here rest r.pass) goes in
      let all = boards_now C.until (first ++ here ∷ rest) in
      let w = (world_of C.until here).board in
      let last = numbered (length first) (closing_line w.clock None) in
      let text = cut_text (boards_now C.until first) w (boards_now C.until rest) in (
        text,
        inr (
          record {
            before = first;
            here = here;
            behind = rest;
            cut = record { runs = subst (λ (v : ℕ). IsRunTo C v (first ++ here ∷ rest)) (sym now) r; passed = subst (λ (v : ℕ). Pass (suc v) first) (sym now) passed; goes = goes.0 };
            within = within;
            is = refl;
          },
          steps,
        ),
        begins_same (lines_before u all ++ x) (lines_before u all ++ x) text (lines_before u all ++ ((moment_lines u 0 (boards_now C.until first) ++ seen_at u (length first) w.seen) ++ last)) refl
            (cut_as C.until first rest here
            ∙ ap (λ (v : ℕ). lines_before v all ++ (moment_lines v 0 (boards_now C.until first) ++ (seen_at v (length first) w.seen ++ last))) now
            ∙ ap (λ (l : ByteList). lines_before u all ++ l) (sym (append_assoc (moment_lines u 0 (boards_now C.until first)) (seen_at u (length first) w.seen) last)))
            (begins_behind (lines_before u all) x _ (begins_more x _ last h)),
      ))

  -- from any moment on
  begins_from : (budget k u : ℕ) → u + k ≡ suc C.until → (ps : List (Played A S)) → IsRunTo C u ps → AllByRecursion (λ (p : Played A S). p.steps ≡ budget) ps → Begun budget (lines_before u (boards_now C.until ps))
  begins_from budget zero u e ps r made =
      (let last : u ≡ suc C.until = omega (arith, e) in
      let r' : IsRunTo C (suc C.until) ps = subst (λ (v : ℕ). IsRunTo C v ps) last r in
      let ws = boards_now C.until ps in (
        whole_text C.until ws,
        inl (record { runs = ps; whole = record { runs = r'; ended = all_ended C order ps r'.pass }; within = all_within budget ps made; is = refl }),
        (closing_lines (class_end C.until ws) 0 ws, ap (λ (v : ℕ). lines_before v ws ++ closing_lines (class_end C.until ws) 0 ws) last),
      ))
  begins_from budget (suc k) u e ps r made = by_all (λ qs q m. begins_from budget k (suc u) (omega (arith, e)) qs q m) (all_or_first (suc u) ps)
    where
      by_all : ((qs : List (Played A S)) → IsRunTo C (suc u) qs → AllByRecursion (λ (p : Played A S). p.steps ≡ budget) qs → Begun budget (lines_before (suc u) (boards_now C.until qs)))
          → Pass (suc u) ps ⊎ Fails (suc u) ps → Begun budget (lines_before u (boards_now C.until ps))
      by_all further (inl h) =
          (let seen = map (seen_by C.until) ps in
          let qs = next u seen 0 ps in
          let rising = rises u seen 0 ps (subst AreInOrder (sym r.boards) order) r.hear in
          let old = wrote_of C.until (suc u) qs (boards_now C.until ps) (next_reached u seen 0 ps rising h) in
          begun_by budget (lines_before u (boards_now C.until ps)) (lines_before (suc u) (boards_now C.until qs))
          (moment_lines u 0 (boards_now C.until qs), ap (λ (l : ByteList). l ++ moment_lines u 0 (boards_now C.until qs)) (sym (lines_same (suc u) u (omega arith) (boards_now C.until qs) (boards_now C.until ps) old)))
          (further qs (goes_on u ps r h) (next_made budget u seen 0 ps made)))
      by_all further (inr f) =
          (let made' : AllByRecursion (λ (p : Played A S). p.steps ≡ budget) (f.first ++ f.here ∷ f.rest) = subst (λ (qs : List (Played A S)). AllByRecursion (λ (p : Played A S). p.steps ≡ budget) qs) f.split made in
          let b = cut_here budget u f.first f.here f.rest (subst (IsRunTo C u) f.split r) f.passed (f.goes, f.early) (made_here budget f.first f.here f.rest made') (all_within budget (f.first ++ f.here ∷ f.rest) made')
          [] (moment_lines u 0 (boards_now C.until f.first) ++ seen_at u (length f.first) (world_of C.until f.here).board.seen, refl) in
          begun_by budget (lines_before u (boards_now C.until ps)) (lines_before u (boards_now C.until (f.first ++ f.here ∷ f.rest)) ++ [])
          ([], ap (λ (qs : List (Played A S)). lines_before u (boards_now C.until qs) ++ []) f.split) b)

  -- as many steps as the budget has
  abbrev made : ℕ → List (Played A S) → List (Played A S)
  made budget [] = []
  made budget (p ∷ ps) = record p { steps = budget } ∷ made budget ps

  made_members : (budget : ℕ) (ps : List (Played A S)) → map (λ (p : Played A S). p.member) (made budget ps) ≡ map (λ (p : Played A S). p.member) ps
  made_members budget [] = refl
  made_members budget (p ∷ ps) = ap (λ (ms : List (Member A S)). p.member ∷ ms) (made_members budget ps)

  made_all : (budget : ℕ) (ps : List (Played A S)) → AllByRecursion (λ (p : Played A S). p.steps ≡ budget) (made budget ps)
  made_all budget [] = tt
  made_all budget (p ∷ ps) = (refl, made_all budget ps)

  made_length : (budget : ℕ) (ps : List (Played A S)) → length (made budget ps) ≡ length ps
  made_length budget [] = refl
  made_length budget (p ∷ ps) = ap suc (made_length budget ps)

  made_hear : (budget t j : ℕ) (seen : List (List Observation)) (ps : List (Played A S)) → Hear C t seen j ps → Hear C t seen j (made budget ps)
  made_hear budget t j seen [] h = tt
  made_hear budget t j seen (p ∷ ps) h = (h.0, made_hear budget t (suc j) seen ps h.1)

  made_split : (budget : ℕ) (below above : List (Played A S)) (here : Played A S) → made budget (below ++ here ∷ above) ≡ made budget below ++ record here { steps = budget } ∷ made budget above
  made_split budget [] above here = refl
  made_split budget (p ∷ ps) above here = ap (λ (qs : List (Played A S)). record p { steps = budget } ∷ qs) (made_split budget ps above here)

  made_reached : (budget t : ℕ) (ps : List (Played A S)) (bs : List Board) → AllByRecursion (λ (p : Played A S). IsRisingFrom 0 p.script) ps → AllByRecursion (λ (p : Played A S). p.steps ≤ budget) ps
      → Paired (Reached C.until t) ps bs → Paired (Reached C.until t) (made budget ps) bs
  made_reached budget t [] [] r l h = tt
  made_reached budget t [] (b ∷ bs) r l h = absurd h
  made_reached budget t (p ∷ ps) [] r l h = absurd h
  made_reached budget t (p ∷ ps) (b ∷ bs) r l h =
      (let low : p.steps ≤ budget = l.0 in
      let same : (budget - p.steps) + p.steps ≡ budget = omega (arith, low) in
      (subst (λ (n : ℕ). Reached C.until t (record p { steps = n }) b) same (longer_reached C.until (budget - p.steps) p r.0 t b h.0), made_reached budget t ps bs r.1 l.1 h.1))

  all_first : (Q : Played A S → Type 0) (first rest : List (Played A S)) → AllByRecursion Q (first ++ rest) → AllByRecursion Q first
  all_first Q [] rest h = tt
  all_first Q (p ∷ ps) rest h = (h.0, all_first Q ps rest h.1)

  all_rest : (Q : Played A S → Type 0) (first rest : List (Played A S)) → AllByRecursion Q (first ++ rest) → AllByRecursion Q rest
  all_rest Q [] rest h = h
  all_rest Q (p ∷ ps) rest h = all_rest Q ps rest h.1

  all_both : (Q : Played A S → Type 0) (first rest : List (Played A S)) → AllByRecursion Q first → AllByRecursion Q rest → AllByRecursion Q (first ++ rest)
  all_both Q [] rest h k = k
  all_both Q (p ∷ ps) rest h k = (h.0, all_both Q ps rest h.1 k)

  module _ (budget t : ℕ) (early : t ≤ C.until) (below above : List (Played A S)) (here : Played A S) (bs cs : List Board)
      (boards : map (λ (p : Played A S). p.member) (below ++ here ∷ above) ≡ C.members) (seens : List (List Observation)) (hear : Hear C t seens 0 (below ++ here ∷ above))
      (e : map (λ (w : Board). before t w.seen) (bs ++ (world_before C.until (suc t) here).board ∷ cs) ≡ seens)
      (passed : Paired (Reached C.until (suc t)) below bs) (came : Paired (Reached C.until t) above cs) (clock : t ≤ (world_before C.until (suc t) here).board.clock)
      (low : AllByRecursion (λ (p : Played A S). p.steps ≤ budget) (below ++ here ∷ above)) where
    abbrev v : Board
    v = (world_before C.until (suc t) here).board

    abbrev mb : List (Played A S)
    mb = made budget below

    abbrev ma : List (Played A S)
    ma = made budget above

    abbrev mh : Played A S
    mh = record here { steps = budget }

    abbrev W : Board
    W = (world_of C.until (record here { steps = budget })).board

    abbrev olds : List Board
    olds = bs ++ (world_before C.until (suc t) here).board ∷ cs

    rising : AllByRecursion (λ (p : Played A S). IsRisingFrom 0 p.script) (below ++ here ∷ above)
    rising = rises t seens 0 (below ++ here ∷ above) (subst AreInOrder (sym boards) order) hear

    rising_here : IsRisingFrom 0 here.script
    rising_here = (all_rest (λ (p : Played A S). IsRisingFrom 0 p.script) below (here ∷ above) rising).0

    low_here : here.steps ≤ budget
    low_here = (all_rest (λ (p : Played A S). p.steps ≤ budget) below (here ∷ above) low).0

    steps_are : (budget - here.steps) + here.steps ≡ budget
    steps_are = (let l : here.steps ≤ budget = low_here in omega (arith, l))

    reached_old : Paired (Reached C.until t) (below ++ here ∷ above) olds
    reached_old =
        pairs_of C.until t below (here ∷ above) bs ((world_before C.until (suc t) here).board ∷ cs) (sooner_of C.until t (suc t) (omega arith) below bs passed) (come C.until t here rising_here clock, came)

    all_reached : Paired (Reached C.until t) (made budget below ++ record here { steps = budget } ∷ made budget above) olds
    all_reached = subst (λ (ps : List (Played A S)). Paired (Reached C.until t) ps olds) (made_split budget below above here) (made_reached budget t (below ++ here ∷ above) olds rising low reached_old)

    is_run : IsRunTo C t (made budget below ++ record here { steps = budget } ∷ made budget above)
    is_run = subst (λ (ps : List (Played A S)). IsRunTo C t ps) (made_split budget below above here)
        (let all = below ++ here ∷ above in
        let now = made_reached budget t all olds rising low reached_old in
        runs_to C t (made budget all) olds seens (made_members budget all ∙ boards) (made_hear budget t 0 seens all hear) (seens_of C.until t (made budget all) olds now ∙ e) now)

    first_reached : Paired (Reached C.until (suc t)) (made budget below) bs
    first_reached =
        made_reached budget (suc t) below bs (all_first (λ (p : Played A S). IsRisingFrom 0 p.script) below (here ∷ above) rising) (all_first (λ (p : Played A S). p.steps ≤ budget) below (here ∷ above) low) passed

    number_is : length (boards_now C.until (made budget below)) + 0 ≡ length below
    number_is = (let a : length (boards_now C.until (made budget below)) ≡ length (made budget below) = boards_length C.until (made budget below) in let b : length (made budget below) ≡ length below = made_length budget below in omega (arith, a, b))

    abbrev done : ByteList
    done = moment_lines t 0 bs ++ lines_at t (length below) (world_before C.until (suc t) here).board

    base : lines_before t (boards_now C.until (made budget below ++ record here { steps = budget } ∷ made budget above)) ≡ lines_before t olds
    base = lines_same t t (omega arith) (boards_now C.until (made budget below ++ record here { steps = budget } ∷ made budget above)) olds (wrote_of C.until t (made budget below ++ record here { steps = budget } ∷ made budget above) olds all_reached)

    below_lines : moment_lines t 0 (boards_now C.until (made budget below)) ≡ moment_lines t 0 bs
    below_lines = moment_of_all C t (boards_now C.until (made budget below)) bs (wrote_of C.until (suc t) (made budget below) bs first_reached)

    -- the lines up to here begin those of all boards at the moment
    begins_moment : (rest : List Board) → IsPrefix done (moment_lines t 0 (boards_now C.until (made budget below) ++ (world_of C.until (record here { steps = budget })).board ∷ rest))
    begins_moment rest =
        (let n = length below in
        let w = (world_of C.until (record here { steps = budget })).board in
        let mine : IsPrefix (lines_at t n (world_before C.until (suc t) here).board) (lines_at t n (world_of C.until (record here { steps = budget })).board) =
        subst (λ (k : ℕ). IsPrefix (lines_at t n (world_before C.until (suc t) here).board) (lines_at t n (world_of C.until (record here { steps = k })).board)) steps_are (more_lines C.until (budget - here.steps) here rising_here t n) in
        let y = lines_at t n w ++ moment_lines t (suc n) rest in
        begins_same done done (moment_lines t 0 (boards_now C.until (made budget below) ++ w ∷ rest)) (moment_lines t 0 bs ++ y) refl
        (moment_append t 0 n (boards_now C.until (made budget below)) (w ∷ rest) number_is ∙ ap (λ (l : ByteList). l ++ y) below_lines)
        (begins_behind (moment_lines t 0 bs) (lines_at t n (world_before C.until (suc t) here).board) y (begins_more (lines_at t n (world_before C.until (suc t) here).board) (lines_at t n w) (moment_lines t (suc n) rest) mine)))

    from_base : Begun budget (lines_before t (boards_now C.until (made budget below ++ record here { steps = budget } ∷ made budget above)) ++ done) → Begun budget (lines_before t olds ++ done)
    from_base h = subst (λ (l : ByteList). Begun budget (l ++ done)) base h

    made_both : AllByRecursion (λ (p : Played A S). p.steps ≡ budget) (made budget below ++ record here { steps = budget } ∷ made budget above)
    made_both = all_both (λ (p : Played A S). p.steps ≡ budget) (made budget below) (record here { steps = budget } ∷ made budget above) (made_all budget below) (refl, made_all budget above)

    -- the board goes on at the moment when its budget is used
    cut_now : Goes (suc t) (record here { steps = budget }) → Begun budget (lines_before t olds ++ done)
    cut_now g =
        (let n = length below in
        let w = (world_of C.until (record here { steps = budget })).board in
        let mine : IsPrefix (lines_at t n (world_before C.until (suc t) here).board) (seen_at t n (world_of C.until (record here { steps = budget })).board.seen) =
        (subst (λ (k : ℕ). over (world_of C.until (record here { steps = k })).board ≡ false → IsPrefix (lines_at t n (world_before C.until (suc t) here).board) (seen_at t n (world_of C.until (record here { steps = k })).board.seen)) steps_are
        (cut_lines C.until (budget - here.steps) here rising_here t n)) g.0 in
        from_base (cut_here budget t (made budget below) (record here { steps = budget }) (made budget above) is_run (pass_of (suc t) (made budget below) bs first_reached) g refl (all_within budget _ made_both) done
        (begins_same done done (moment_lines t 0 (boards_now C.until (made budget below)) ++ seen_at t (length (made budget below)) w.seen) (moment_lines t 0 bs ++ seen_at t n w.seen) refl
        (ap (λ (l : ByteList). l ++ seen_at t (length (made budget below)) w.seen) below_lines ∙ ap (λ (i : ℕ). moment_lines t 0 bs ++ seen_at t i w.seen) (made_length budget below))
        (begins_behind (moment_lines t 0 bs) (lines_at t n (world_before C.until (suc t) here).board) (seen_at t n w.seen) mine))))

    -- a board behind it does
    cut_later : Passes (suc t) (world_of C.until (record here { steps = budget })) → Fails (suc t) (made budget above) → Begun budget (lines_before t olds ++ done)
    cut_later h f =
        (let first = made budget below ++ record here { steps = budget } ∷ f.first in
        let split : made budget below ++ record here { steps = budget } ∷ made budget above ≡ first ++ f.here ∷ f.rest =
        ap (λ (ps : List (Played A S)). made budget below ++ record here { steps = budget } ∷ ps) f.split ∙ sym (append_assoc (made budget below) (record here { steps = budget } ∷ f.first) (f.here ∷ f.rest)) in
        let steps : f.here.steps ≡ budget = made_here budget f.first f.here f.rest (subst (λ (ps : List (Played A S)). AllByRecursion (λ (p : Played A S). p.steps ≡ budget) ps) f.split (made_all budget above)) in
        let before_it = all_both (λ (p : Played A S). Passes (suc t) (world_of C.until p)) (made budget below) (record here { steps = budget } ∷ f.first) (pass_of (suc t) (made budget below) bs first_reached) (h, f.passed) in
        let w = (world_of C.until (record here { steps = budget })).board in
        let lines : IsPrefix done (moment_lines t 0 (boards_now C.until first)) =
        subst (λ (ws : List Board). IsPrefix done (moment_lines t 0 ws)) (sym (boards_append C.until (made budget below) (record here { steps = budget } ∷ f.first))) (begins_moment (boards_now C.until f.first)) in
        let b = cut_here budget t first f.here f.rest (subst (λ (ps : List (Played A S)). IsRunTo C t ps) split is_run) before_it (f.goes, f.early) steps (all_within budget (first ++ f.here ∷ f.rest) (subst (λ (ps : List (Played A S)). AllByRecursion (λ (p : Played A S). p.steps ≡ budget) ps) split made_both)) done
        (begins_more done (moment_lines t 0 (boards_now C.until first)) (seen_at t (length first) (world_of C.until f.here).board.seen) lines) in
        from_base (subst (λ (ps : List (Played A S)). Begun budget (lines_before t (boards_now C.until ps) ++ done)) (sym split) b))

    -- all pass it
    goes_further : Passes (suc t) (world_of C.until (record here { steps = budget })) → Pass (suc t) (made budget above) → Begun budget (lines_before t olds ++ done)
    goes_further h k =
        (let ps = made budget below ++ record here { steps = budget } ∷ made budget above in
        let pass = all_both (λ (p : Played A S). Passes (suc t) (world_of C.until p)) (made budget below) (record here { steps = budget } ∷ made budget above) (pass_of (suc t) (made budget below) bs first_reached) (h, k) in
        let seen = map (seen_by C.until) ps in
        let qs = next t seen 0 ps in
        let rise = rises t seen 0 ps (subst AreInOrder (sym is_run.boards) order) is_run.hear in
        let old = wrote_of C.until (suc t) qs (boards_now C.until ps) (next_reached t seen 0 ps rise pass) in
        let lines : IsPrefix done (moment_lines t 0 (boards_now C.until ps)) =
        subst (λ (ws : List Board). IsPrefix done (moment_lines t 0 ws)) (sym (boards_append C.until (made budget below) (record here { steps = budget } ∷ made budget above))) (begins_moment (boards_now C.until (made budget above))) in
        let b = begins_from budget (C.until - t) (suc t) (omega (arith, early)) qs (goes_on t ps is_run pass) (next_made budget t seen 0 ps made_both) in
        from_base (begun_by budget (lines_before t (boards_now C.until ps) ++ done) (lines_before (suc t) (boards_now C.until qs))
        (begins_same (lines_before t (boards_now C.until ps) ++ done) (lines_before t (boards_now C.until ps) ++ done) (lines_before (suc t) (boards_now C.until qs)) (lines_before (suc t) (boards_now C.until ps)) refl
        (lines_same (suc t) (suc t) (omega arith) (boards_now C.until qs) (boards_now C.until ps) old)
        (begins_behind (lines_before t (boards_now C.until ps)) done (moment_lines t 0 (boards_now C.until ps)) lines)) b))

    pub begins_text : (text : ByteList) × IsTextOf C budget text × IsPrefix (lines_before t olds ++ (moment_lines t 0 bs ++ lines_at t (length below) (world_before C.until (suc t) here).board)) text
    begins_text = by_here (one_or_not (suc t) (record here { steps = budget }))
      where
        by_above : Passes (suc t) (world_of C.until (record here { steps = budget })) → Pass (suc t) (made budget above) ⊎ Fails (suc t) (made budget above) → Begun budget (lines_before t olds ++ done)
        by_above h (inl k) = goes_further h k
        by_above h (inr f) = cut_later h f

        by_here : Passes (suc t) (world_of C.until (record here { steps = budget })) ⊎ Goes (suc t) (record here { steps = budget }) → Begun budget (lines_before t olds ++ done)
        by_here (inl h) = by_above h (all_or_first (suc t) (made budget above))
        by_here (inr g) = cut_now g

  -- boards that were stepped have reached the moment
  pub reached_all : (u t j : ℕ) (seens : List (List Observation)) (ps : List (Played A S)) (os : List Outlook) → AreInOrder (map (λ (p : Played A S). p.member) ps) → Hear C t seens j ps
      → Paired (IsSeenAs C.until (suc u)) ps os → Paired (Reached C.until (suc u)) ps (looks os)
  reached_all u t j seens [] [] order' h k = tt
  reached_all u t j seens [] (o ∷ os) order' h k = absurd k
  reached_all u t j seens (p ∷ ps) [] order' h k = absurd k
  reached_all u t j seens (p ∷ ps) (o ∷ os) order' h k =
      (reached C p (subst (IsRisingFrom 0) (sym h.0) (rising_heard (heard_of C.lost t C.until j 0 seens) p.member.script order'.0)) u o k.0, reached_all u t (suc j) seens ps os order'.1 h.1 k.1)
