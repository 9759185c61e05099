-- Runs of a class of boards that implement others.
use Rattle.std.proofs.Common.{◌≡◌, ℕ, suc, ◌+◌, ◌*◌, ◌≤◌, ◌<◌, ◌⊎◌, true, false, List, [], ◌∷◌, ◌++◌, refl, ap, sym, ◌∙◌, subst, arith}
use Rattle.std.proofs.Common.{inl, inr}
use Rattle.std.proofs.Math.Nat.{mul-le-mul_left}
use Rattle.std.proofs.lemmas.Bool.{cases_lt}
use Rattle.std.specs.List.{AllByRecursion}
use Rattle.board_world.specs.Observations.{ByteList}
use Rattle.board_world.specs.Board.{Board, over}
use Rattle.board_world.specs.Simulation.{Paired}
use Rattle.class_world.specs.Classes.{Member, Class, Played, world_of, Passes, IsRunTo}
use Rattle.class_world.specs.Implementing.{MemberImplements, class_of, ShowsSame}
use Rattle.class_world.specs.Lines.{whole_text, cut_text}
use Rattle.class_steps.specs.Texts.{boards_now, HasWholeText, HasSpentText}
use Rattle.class_world.proofs.Laws.{run_above}
use Rattle.class_meaning.specs.Meaning.{MeansWhole, MeansCut}

-- what holds of each of the second holds of each of the first
paired_all : {X Y : Type 0} (R : X → Y → Type 0) (P : X → Type 0) (Q : Y → Type 0) → ((x : X) (y : Y) → R x y → Q y → P x) → (xs : List X) (ys : List Y) → Paired R xs ys → AllByRecursion Q ys → AllByRecursion P xs
paired_all R P Q f [] [] h a = tt
paired_all R P Q f [] (y ∷ ys) h a = absurd h
paired_all R P Q f (x ∷ xs) [] h a = absurd h
paired_all R P Q f (x ∷ xs) (y ∷ ys) h a = (f x y h.0 a.0, paired_all R P Q f xs ys h.1 a.1)

-- a list that is related to one in three parts
pub record InThree {X Y : Type 0} (R : X → Y → Type 0) (xs : List X) (below : List Y) (here : Y) (above : List Y) : Type 0 where
  pub first : List X
  pub one : X
  pub rest : List X
  pub is : xs ≡ first ++ one ∷ rest
  pub low : Paired R first below
  pub mid : R one here
  pub high : Paired R rest above

in_three : {X Y : Type 0} (R : X → Y → Type 0) (xs : List X) (below : List Y) (here : Y) (above : List Y) → Paired R xs (below ++ here ∷ above) → InThree R xs below here above
in_three {X} {Y} R [] [] here above h = absurd h
in_three {X} {Y} R (x ∷ xs) [] here above h = record { first = []; one = x; rest = xs; is = refl; low = tt; mid = h.0; high = h.1 }
in_three {X} {Y} R [] (y ∷ ys) here above h = absurd h
in_three {X} {Y} R (x ∷ xs) (y ∷ ys) here above h =
    (let ih = in_three R xs ys here above h.1 in
    record { first = x ∷ ih.first; one = ih.one; rest = ih.rest; is = ap (λ (l : List X). x ∷ l) ih.is; low = (h.0, ih.low); mid = ih.mid; high = ih.high })

-- the same boards write the same
same_cut : (b c : Board) (ws vs us xs : List Board) → b ≡ c → ws ≡ vs → us ≡ xs → cut_text ws b us ≡ cut_text vs c xs
same_cut b c ws vs us xs e f g = cc

module _ {A S C D : Type 0} (bound until : ℕ) where
  same_boards : (ps : List (Played A S)) (qs : List (Played C D)) → Paired (ShowsSame bound until) ps qs → boards_now until ps ≡ boards_now until qs
  same_boards [] [] h = refl
  same_boards [] (q ∷ qs) h = absurd h
  same_boards (p ∷ ps) [] h = absurd h
  same_boards (p ∷ ps) (q ∷ qs) h =
      ap (λ (b : Board). b ∷ boards_now until ps) h.0.board ∙ ap (λ (bs : List Board). (world_of until q).board ∷ bs) (same_boards ps qs h.1)

  ended_same : (p : Played A S) (q : Played C D) → ShowsSame bound until p q → over (world_of until q).board ≡ true → over (world_of until p).board ≡ true
  ended_same p q h o = ap over h.board ∙ o

  fewer : (budget : ℕ) (p : Played A S) (q : Played C D) → ShowsSame bound until p q → q.steps ≤ budget → p.steps ≤ budget
  fewer budget p q h l = (let m : p.steps ≤ q.steps = h.at_most in omega (arith, m, l))

  passes_same : (t : ℕ) (p : Played A S) (q : Played C D) → ShowsSame bound until p q → Passes t (world_of until q) → Passes t (world_of until p)
  passes_same t p q h s = subst (λ (b : Board). (over b ≡ true) ⊎ (t ≤ b.clock)) (sym h.board) s

  -- one step at least for each `bound` of them
  enough : (budget : ℕ) (p : Played A S) (q : Played C D) → ShowsSame bound until p q → q.steps ≡ budget → over (world_of until q).board ≡ false → (n : ℕ) → bound * n ≤ budget → n ≤ p.steps
  enough budget p q h e o n l = by_order bound n p.steps (let m : q.steps < bound * (p.steps + 1) = h.at_least o in omega (arith, m, l, e))
    where
      by_order : (b n k : ℕ) → b * n < b * (k + 1) → n ≤ k
      by_order b n k h = elim (cases_lt k n) [
        | inl high ↦ (let up : k + 1 ≤ n = omega (arith, high) in let more : b * (k + 1) ≤ b * n = mul-le-mul_left b up in absurd (omega (arith, more, h)))
        | inr low ↦ low
      ]

module _ {A S C D : Type 0} (bound : ℕ) (members : List (Member A S)) (L : Class C D) (budget : ℕ) (text : ByteList) (pairs : Paired (MemberImplements bound) members L.members) where
  pub means_whole : (w : HasWholeText L budget text) → MeansWhole members L budget text w.runs
  means_whole w =
      (let up = run_above bound members L pairs (suc L.until) w.runs w.whole.runs in
      let same = same_boards bound L.until up.0 w.runs up.1 in
      record {
        has = record {
          runs = up.0;
          whole = record { runs = up.2; ended = paired_all (ShowsSame bound L.until) _ _ (ended_same bound L.until) up.0 w.runs up.1 w.whole.ended };
          within = paired_all (ShowsSame bound L.until) _ _ (fewer bound L.until budget) up.0 w.runs up.1 w.within;
          is = w.is ∙ ap (whole_text L.until) (sym same);
        };
        same = same;
      })

  pub means_cut : HasSpentText L budget text → MeansCut bound members L budget text
  means_cut spent =
      (let c = spent.0 in
      let t = (world_of L.until c.here).board.clock in
      let all = c.before ++ c.here ∷ c.behind in
      let up = run_above bound members L pairs t all c.cut.runs in
      let parts = in_three (ShowsSame bound L.until) up.0 c.before c.here c.behind up.1 in
      let clock : t ≡ (world_of L.until parts.one).board.clock = ap (λ (b : Board). b.clock) (sym parts.mid.board) in
      let whole = parts.first ++ parts.one ∷ parts.rest in
      let runs : IsRunTo (class_of members L) t whole = subst (λ (ps : List (Played A S)). IsRunTo (class_of members L) t ps) parts.is up.2 in
      let low : boards_now L.until parts.first ≡ boards_now L.until c.before = same_boards bound L.until parts.first c.before parts.low in
      let high : boards_now L.until parts.rest ≡ boards_now L.until c.behind = same_boards bound L.until parts.rest c.behind parts.high in
      record {
        has = record {
          before = parts.first;
          here = parts.one;
          behind = parts.rest;
          cut = record {
            runs = subst (λ (s : ℕ). IsRunTo (class_of members L) s whole) clock runs;
            passed = subst (λ (s : ℕ). AllByRecursion (λ (p : Played A S). Passes (suc s) (world_of L.until p)) parts.first) clock
                (paired_all (ShowsSame bound L.until) _ _ (passes_same bound L.until (suc t)) parts.first c.before parts.low c.cut.passed);
            goes = ap over parts.mid.board ∙ c.cut.goes;
          };
          within = subst (λ (ps : List (Played A S)). AllByRecursion (λ (p : Played A S). p.steps ≤ budget) ps) parts.is (paired_all (ShowsSame bound L.until) _ _ (fewer bound L.until budget) up.0 all up.1 c.within);
          is = c.is ∙ same_cut _ _ _ _ _ _ (sym parts.mid.board) (sym low) (sym high);
        };
        at_least = enough bound L.until budget parts.one c.here parts.mid spent.1 c.cut.goes;
      })
