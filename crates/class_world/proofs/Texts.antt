-- There is one text of a class: its lines before a moment, and the whole ones, and those that are cut.
use Rattle.std.proofs.Common.{◌≡◌, ℕ, zero, suc, ◌≤◌, ◌<◌, inl, inr, Bool, true, false, nat_lt, List, [], ◌∷◌, ◌++◌, length, map, None, refl, ap, sym, ◌∙◌, subst, arith}
use Rattle.std.proofs.lemmas.Bool.Decides.{nat_tests}
use Rattle.std.proofs.lemmas.List.{append-nil, map-append, length-map}
use Rattle.std.specs.List.{AllByRecursion}
use Rattle.board_world.specs.Observations.{ByteList}
use Rattle.board_world.specs.Transcript.{closing_line}
use Rattle.board_world.specs.Board.{Board, Entry, over}
use Rattle.board_world.specs.Activities.{World}
use Rattle.board_world.specs.Simulation.{Paired}
use Rattle.board_world.specs.Runs.{run}
use Rattle.board_world.specs.Before.{IsRisingFrom}
use Rattle.class_world.specs.Hearing.{before}
use Rattle.class_world.specs.Classes.{Member, Class, Played, starting, world_of, seen_by, Passes, IsRunTo, IsWhole, IsRunUpTo, AreInOrder}
use Rattle.class_world.specs.Lines.{WroteSame, stopped_at, seen_at, numbered, lines_before, moment_lines, cut_text}
use Rattle.class_world.proofs.Moments.{within_run}
use Rattle.class_world.proofs.Scripts.{early}
use Rattle.class_world.proofs.Lines.{lines_same, moment_same}
use Rattle.class_world.proofs.Once.{Members, Scripts, Pass, Rise, decided, stops_alike, passes_alike, passes_longer, passes_sooner, ended_alike, none_before, same_members, first_rise, second_rise, one_early_scripts, one_scripts}

-- lists that are the same up to a map, at a place of the same number
module _ {X Y : Type 0} (g : X → Y) where
  same_parts : (xs ys : List X) (x y : X) (zs ws : List X) → map g (xs ++ x ∷ zs) ≡ map g (ys ++ y ∷ ws) → length xs ≡ length ys → (map g xs ≡ map g ys) × (g x ≡ g y)
  same_parts [] [] x y zs ws e l = (refl, cc)
  same_parts [] (b ∷ ys) x y zs ws e l = cc
  same_parts (a ∷ xs) [] x y zs ws e l = cc
  same_parts (a ∷ xs) (b ∷ ys) x y zs ws e l =
      (let first : g a ≡ g b = cc in
      let rest : map g (xs ++ x ∷ zs) ≡ map g (ys ++ y ∷ ws) = cc in
      let long : length xs ≡ length ys = omega (arith, l) in
      let r = same_parts xs ys x y zs ws rest long in
      (ap (λ (k : Y). k ∷ map g xs) first ∙ ap (λ (ks : List Y). g b ∷ ks) r.0, r.1))

  counterpart : (Q : X → Type 0) (xs : List X) (x : X) (zs ys ws : List X) → map g (xs ++ x ∷ zs) ≡ map g (ys ++ ws) → length xs < length ys → AllByRecursion Q ys → (y : X) × (g x ≡ g y) × Q y
  counterpart Q xs x zs [] ws e l h = absurd (omega (arith, l))
  counterpart Q [] x zs (b ∷ ys) ws e l h = (b, cc, h.0)
  counterpart Q (a ∷ xs) x zs (b ∷ ys) ws e l h =
      (let rest : map g (xs ++ x ∷ zs) ≡ map g (ys ++ ws) = cc in
      let less : length xs < length ys = omega (arith, l) in
      counterpart Q xs x zs ys ws rest less h.1)

  as_long : (xs ys : List X) → map g xs ≡ map g ys → length xs ≡ length ys
  as_long [] [] e = refl
  as_long [] (y ∷ ys) e = cc
  as_long (x ∷ xs) [] e = cc
  as_long (x ∷ xs) (y ∷ ys) e = (let rest : map g xs ≡ map g ys = cc in ap suc (as_long xs ys rest))

abbrev pair : {Y Z : Type 0} → Y → Z → Y × Z
pair y z = (y, z)

both_maps : {X Y Z : Type 0} (g : X → Y) (h : X → Z) (xs ys : List X) → map g xs ≡ map g ys → map h xs ≡ map h ys → map (λ (x : X). pair (g x) (h x)) xs ≡ map (λ (x : X). pair (g x) (h x)) ys
both_maps g h [] [] e f = refl
both_maps g h [] (y ∷ ys) e f = cc
both_maps g h (x ∷ xs) [] e f = cc
both_maps {X = X} {Y = Y} {Z = Z} g h (x ∷ xs) (y ∷ ys) e f =
    (let a : g x ≡ g y = cc in
    let b : h x ≡ h y = cc in
    let c : map g xs ≡ map g ys = cc in
    let d : map h xs ≡ map h ys = cc in
    let here : pair (g x) (h x) ≡ pair (g y) (h y) = ap (λ (k : Y). pair k (h x)) a ∙ ap (λ (k : Z). pair (g y) k) b in
    ap (λ (p : Y × Z). p ∷ map (λ (z : X). pair (g z) (h z)) xs) here ∙ ap (λ (ps : List (Y × Z)). pair (g y) (h y) ∷ ps) (both_maps g h xs ys c d))

longer : {X : Type 0} (xs : List X) (x : X) (zs : List X) → length xs < length (xs ++ x ∷ zs)
longer [] x zs = omega arith
longer (y ∷ xs) x zs = (let ih = longer xs x zs in omega (arith, ih))

middle : {X : Type 0} (Q : X → Type 0) (xs : List X) (x : X) (zs : List X) → AllByRecursion Q (xs ++ x ∷ zs) → Q x
middle Q [] x zs h = h.0
middle Q (y ∷ xs) x zs h = middle Q xs x zs h.1

former : {X : Type 0} (Q : X → Type 0) (xs zs : List X) → AllByRecursion Q (xs ++ zs) → AllByRecursion Q xs
former Q [] zs h = tt
former Q (x ∷ xs) zs h = (h.0, former Q xs zs h.1)

three : {X : Type 0} (P Q R : X → Type 0) (xs : List X) → AllByRecursion P xs → AllByRecursion Q xs → AllByRecursion R xs → AllByRecursion (λ x. P x × Q x × R x) xs
three P Q R [] p q r = tt
three P Q R (x ∷ xs) p q r = ((p.0, q.0, r.0), three P Q R xs p.1 q.1 r.1)

module _ {A S : Type 0} (C : Class A S) where
  abbrev Now : Played A S → Board
  Now p = (world_of C.until p).board

  -- the same board on the same script, which has passed a moment, wrote the same before it
  wrote_same : (t : ℕ) (p q : Played A S) → p.member ≡ q.member → p.script ≡ q.script → IsRisingFrom 0 p.script → Passes t (world_of C.until p) → Passes t (world_of C.until q) → WroteSame t (Now p) (Now q)
  wrote_same zero p q e f h a b = record {
    seen = none_before C (seen_by C.until p) ∙ sym (none_before C (seen_by C.until q));
    stopped = λ s n l. absurd (omega (arith, l));
  }
  wrote_same (suc t) p q e f h a b =
      (let m : Member A S = q.member in
      let mine = ap (λ (x : Member A S). run x.kind p.steps (starting C.until x p.script)) e in
      let h' : IsRisingFrom 0 q.script = subst (IsRisingFrom 0) f h in
      let same : early (suc t) p.script ≡ early (suc t) q.script = ap (early (suc t)) f in
      let a' : Passes (suc t) (run m.kind p.steps (starting C.until m p.script)) = subst (Passes (suc t)) mine a in
      record {
        seen = ap (λ (w : World A S). before (suc t) w.board.seen) mine ∙ decided m.kind m.main m.shared C.until t p.steps q.steps p.script q.script h h' same a' b;
        stopped = λ s n l. ap (λ (w : World A S). stopped_at s n w.board) mine ∙ stops_alike m.kind m.main m.shared C.until t p.steps q.steps p.script q.script h h' same a' b s n l;
      })

  all_wrote : (t : ℕ) (ps qs : List (Played A S)) → Members C ps ≡ Members C qs → Scripts C ps ≡ Scripts C qs → Rise C ps → Pass C t ps → Pass C t qs → Paired (WroteSame t) (map Now ps) (map Now qs)
  all_wrote t [] [] e f h a b = tt
  all_wrote t [] (q ∷ qs) e f h a b = cc
  all_wrote t (p ∷ ps) [] e f h a b = cc
  all_wrote t (p ∷ ps) (q ∷ qs) e f h a b =
      (let m : p.member ≡ q.member = cc in
      let s : p.script ≡ q.script = cc in
      let ms : Members C ps ≡ Members C qs = cc in
      let ss : Scripts C ps ≡ Scripts C qs = cc in
      (wrote_same t p q m s h.0 a.0 b.0, all_wrote t ps qs ms ss h.1 a.1 b.1))

  -- what two runs up to a moment wrote before it
  pub one_lines : (t : ℕ) (ps qs : List (Played A S)) → AreInOrder C.members → IsRunTo C t ps → IsRunTo C t qs → lines_before t (map Now ps) ≡ lines_before t (map Now qs)
  one_lines t ps qs order f g =
      lines_same t t (omega arith) (map Now ps) (map Now qs)
      (all_wrote t ps qs (same_members C t t ps qs order f g) (one_scripts C t ps qs order f g) (first_rise C t t ps qs order f g) f.pass g.pass)

  -- where all have ended, the boards are the same
  same_board : (p q : Played A S) → p.member ≡ q.member → p.script ≡ q.script → over (Now p) ≡ true → over (Now q) ≡ true → Now p ≡ Now q
  same_board p q e f o o' =
      (let m : Member A S = q.member in
      let mine : world_of C.until p ≡ run m.kind p.steps (starting C.until m q.script) =
      ap (λ (x : Member A S). run x.kind p.steps (starting C.until x p.script)) e ∙ ap (λ (es : List Entry). run m.kind p.steps (starting C.until m es)) f in
      let ended : over (run m.kind p.steps (starting C.until m q.script)).board ≡ true = subst (λ (w : World A S). over w.board ≡ true) mine o in
      ap (λ (w : World A S). w.board) (mine ∙ ended_alike m.kind m.main m.shared C.until p.steps q.steps q.script ended o'))

  same_boards : (ps qs : List (Played A S)) → Members C ps ≡ Members C qs → Scripts C ps ≡ Scripts C qs → AllByRecursion (λ (p : Played A S). over (Now p) ≡ true) ps
      → AllByRecursion (λ (p : Played A S). over (Now p) ≡ true) qs → map Now ps ≡ map Now qs
  same_boards [] [] e f a b = refl
  same_boards [] (q ∷ qs) e f a b = cc
  same_boards (p ∷ ps) [] e f a b = cc
  same_boards (p ∷ ps) (q ∷ qs) e f a b =
      (let m : p.member ≡ q.member = cc in
      let s : p.script ≡ q.script = cc in
      let ms : Members C ps ≡ Members C qs = cc in
      let ss : Scripts C ps ≡ Scripts C qs = cc in
      ap (λ (x : Board). x ∷ map Now ps) (same_board p q m s a.0 b.0) ∙ ap (λ (xs : List Board). Now q ∷ xs) (same_boards ps qs ms ss a.1 b.1))

  pub one_whole : (ps qs : List (Played A S)) → AreInOrder C.members → IsWhole C ps → IsWhole C qs → map Now ps ≡ map Now qs
  one_whole ps qs order f g =
      same_boards ps qs (same_members C (suc C.until) (suc C.until) ps qs order f.runs g.runs) (one_scripts C (suc C.until) ps qs order f.runs g.runs) f.ended g.ended

  -- Where no board makes more than n steps:
  module _ (n : ℕ) where
    abbrev Within : List (Played A S) → Type 0
    Within ps = AllByRecursion (λ (p : Played A S). p.steps ≤ n) ps

    abbrev Clock : Played A S → ℕ
    Clock p = (Now p).clock

    -- a board that has made n steps and hasn't ended passes its moment in no run up to it, or up to a later one
    stays_here : (t : ℕ) (p q : Played A S) → Clock p ≡ t → over (Now p) ≡ false → p.steps ≡ n → IsRisingFrom 0 p.script → p.member ≡ q.member → early (suc t) p.script ≡ early (suc t) q.script
        → q.steps ≤ n → IsRisingFrom 0 q.script → Passes (suc t) (world_of C.until q) → ⊥
    stays_here t p q k o s h e f l i a =
        (let m : Member A S = p.member in
        let theirs = ap (λ (x : Member A S). run x.kind q.steps (starting C.until x q.script)) (sym e) in
        let there : Passes (suc t) (run m.kind q.steps (starting C.until m q.script)) = subst (Passes (suc t)) theirs a in
        let short : Passes (suc t) (run m.kind q.steps (starting C.until m p.script)) = passes_alike m.kind m.main m.shared C.until t q.steps q.script p.script i h (sym f) there in
        let less : q.steps ≤ p.steps = omega (arith, l, s) in
        by_pass (passes_longer m.kind m.main m.shared C.until t q.steps p.steps p.script h less short))
      where
        by_pass : Passes (suc t) (world_of C.until p) → ⊥
        by_pass (inl ended) = absurd cc
        by_pass (inr late) = omega (arith, late, k)

    -- such a board of a run up to it, beside the boards of another that have passed that moment
    module _ (first rest : List (Played A S)) (here : Played A S) (ys ws : List (Played A S)) (order : AreInOrder C.members) (U : ℕ) (f : IsRunUpTo C first here rest) (s : here.steps ≡ n) where
      never : (g : IsRunTo C U (ys ++ ws)) → Clock here ≤ U → length first < length ys → Within ys → Pass C (suc (Clock here)) ys → ⊥
      never g l short within pass =
          (let t : ℕ = Clock here in
          let ps : List (Played A S) = first ++ here ∷ rest in
          let qs : List (Played A S) = ys ++ ws in
          let members = same_members C t U ps qs order f.runs g in
          let scripts = one_early_scripts C t U ps qs order f.runs g t (omega arith) l in
          let rise : IsRisingFrom 0 here.script = middle (λ (p : Played A S). IsRisingFrom 0 p.script) first here rest (first_rise C t U ps qs order f.runs g) in
          let rising : Rise C ys = former (λ (p : Played A S). IsRisingFrom 0 p.script) ys ws (second_rise C t U ps qs order f.runs g) in
          let r = counterpart (λ (p : Played A S). pair p.member (early (suc t) p.script)) (λ (q : Played A S). (q.steps ≤ n) × IsRisingFrom 0 q.script × Passes (suc t) (world_of C.until q)) first here rest ys ws
          (both_maps (λ (p : Played A S). p.member) (λ (p : Played A S). early (suc t) p.script) ps qs members scripts) short
          (three (λ (q : Played A S). q.steps ≤ n) (λ (q : Played A S). IsRisingFrom 0 q.script) (λ (q : Played A S). Passes (suc t) (world_of C.until q)) ys within rising pass) in
          stays_here t here r.0 refl f.goes s rise (ap (λ (x : Member A S × List Entry). x.0) r.1) (ap (λ (x : Member A S × List Entry). x.1) r.1) r.2.0 r.2.1 r.2.2)

    all_sooner : (t u : ℕ) (qs : List (Played A S)) → t ≤ u → Pass C u qs → Pass C t qs
    all_sooner t u [] l a = tt
    all_sooner t u (q ∷ qs) l a = (passes_sooner t u (world_of C.until q) l a.0, all_sooner t u qs l a.1)

    all_over : (t : ℕ) (qs : List (Played A S)) → AllByRecursion (λ (q : Played A S). over (Now q) ≡ true) qs → Pass C t qs
    all_over t [] a = tt
    all_over t (q ∷ qs) a = (inl a.0, all_over t qs a.1)

    -- such a board beside a run to a moment, in which all have passed the board's
    module _ (first rest : List (Played A S)) (here : Played A S) (qs : List (Played A S)) (order : AreInOrder C.members) (U : ℕ) (f : IsRunUpTo C first here rest) (s : here.steps ≡ n) where
      never_all : IsRunTo C U qs → Clock here ≤ U → Within qs → Pass C (suc (Clock here)) qs → ⊥
      never_all g l within pass =
          (let e : qs ++ [] ≡ qs = append-nil qs in
          let same : length (first ++ here ∷ rest) ≡ length qs = as_long (λ (p : Played A S). p.member) (first ++ here ∷ rest) qs (same_members C (Clock here) U (first ++ here ∷ rest) qs order f.runs g) in
          let short : length first < length qs = (let less = longer first here rest in omega (arith, less, same)) in
          never first rest here qs [] order U f s (subst (IsRunTo C U) (sym e) g) l short within pass)

    -- no class that is whole is cut too
    pub not_both : (ps first rest : List (Played A S)) (here : Played A S) → AreInOrder C.members → IsWhole C ps → Within ps → IsRunUpTo C first here rest → here.steps ≡ n → ⊥
    not_both ps first rest here order w within f s =
        (let m : Member A S = here.member in
        let low = within_run m.kind C.until here.steps (starting C.until m here.script) (record { end = refl; clock = omega arith }) in
        let l : Clock here ≤ suc C.until = (let k : Clock here ≤ C.until = low.clock in omega (arith, k)) in
        never_all first rest here ps order (suc C.until) f s w.runs l within (all_over (suc (Clock here)) ps w.ended))

    -- nor is one cut twice
    module _ (first rest first' rest' : List (Played A S)) (here here' : Played A S) (order : AreInOrder C.members) (f : IsRunUpTo C first here rest) (f' : IsRunUpTo C first' here' rest')
        (s : here.steps ≡ n) (s' : here'.steps ≡ n) (within' : Within (first' ++ here' ∷ rest')) where
      not_sooner : Clock here < Clock here' → ⊥
      not_sooner l = never_all first rest here (first' ++ here' ∷ rest') order (Clock here') f s f'.runs (omega (arith, l)) within' (all_sooner (suc (Clock here)) (Clock here') (first' ++ here' ∷ rest') (omega (arith, l)) f'.runs.pass)

      not_before : Clock here ≡ Clock here' → length first < length first' → ⊥
      not_before e l =
          never first rest here first' (here' ∷ rest') order (Clock here') f s f'.runs (omega (arith, e)) l (former (λ (p : Played A S). p.steps ≤ n) first' (here' ∷ rest') within')
          (subst (λ (k : ℕ). Pass C (suc k) first') (sym e) f'.passed)

    -- and where it is cut at one place, the text is the same
    module _ (first rest first' rest' : List (Played A S)) (here here' : Played A S) (order : AreInOrder C.members) (f : IsRunUpTo C first here rest) (f' : IsRunUpTo C first' here' rest')
        (s : here.steps ≡ n) (s' : here'.steps ≡ n) (e : Clock here ≡ Clock here') (long : length first ≡ length first') where
      g : IsRunTo C (Clock here) (first' ++ here' ∷ rest')
      g = subst (λ (k : ℕ). IsRunTo C k (first' ++ here' ∷ rest')) (sym e) f'.runs

      same_board_here : Now here ≡ Now here'
      same_board_here =
          (let t : ℕ = Clock here in
          let xs = first ++ here ∷ rest in
          let ys = first' ++ here' ∷ rest' in
          let m = same_parts (λ (p : Played A S). p.member) first first' here here' rest rest' (same_members C t t xs ys order f.runs g) long in
          let c = same_parts (λ (p : Played A S). p.script) first first' here here' rest rest' (one_scripts C t xs ys order f.runs g) long in
          let steps : here.steps ≡ here'.steps = s ∙ sym s' in
          ap (λ (x : Member A S). (run x.kind here.steps (starting C.until x here.script)).board) m.1
          ∙ ap (λ (es : List Entry). (run here'.member.kind here.steps (starting C.until here'.member es)).board) c.1
          ∙ ap (λ (k : ℕ). (run here'.member.kind k (starting C.until here'.member here'.script)).board) steps)

      firsts_wrote : Paired (WroteSame (suc (Clock here))) (map Now first) (map Now first')
      firsts_wrote =
          (let t : ℕ = Clock here in
          let xs = first ++ here ∷ rest in
          let ys = first' ++ here' ∷ rest' in
          let m = same_parts (λ (p : Played A S). p.member) first first' here here' rest rest' (same_members C t t xs ys order f.runs g) long in
          let c = same_parts (λ (p : Played A S). p.script) first first' here here' rest rest' (one_scripts C t xs ys order f.runs g) long in
          all_wrote (suc t) first first' m.0 c.0 (former (λ (p : Played A S). IsRisingFrom 0 p.script) first (here ∷ rest) (first_rise C t t xs ys order f.runs g)) f.passed
          (subst (λ (k : ℕ). Pass C (suc k) first') (sym e) f'.passed))

      same_cut : cut_text (map Now first) (Now here) (map Now rest) ≡ cut_text (map Now first') (Now here') (map Now rest')
      same_cut =
          (let t : ℕ = Clock here in
          let w : Board = Now here in
          let F = map Now first in
          let G = map Now first' in
          let lines : lines_before t (F ++ w ∷ map Now rest) ≡ lines_before t (G ++ Now here' ∷ map Now rest') =
          ap (lines_before t) (sym (map-append Now first (here ∷ rest))) ∙ one_lines t (first ++ here ∷ rest) (first' ++ here' ∷ rest') order f.runs g ∙ ap (lines_before t) (map-append Now first' (here' ∷ rest')) in
          let lines' : lines_before t (F ++ w ∷ map Now rest) ≡ lines_before t (G ++ w ∷ map Now rest') = lines ∙ ap (λ (b : Board). lines_before t (G ++ b ∷ map Now rest')) (sym same_board_here) in
          let moment : moment_lines t 0 F ≡ moment_lines t 0 G = moment_same (suc t) t 0 (omega arith) F G firsts_wrote in
          let number : length F ≡ length G = length-map first Now ∙ long ∙ sym (length-map first' Now) in
          let last = λ (k : ℕ). seen_at t k w.seen ++ numbered k (closing_line t None) in
          ap (λ (x : ByteList). x ++ (moment_lines t 0 F ++ last (length F))) lines'
          ∙ ap (λ (x : ByteList). lines_before t (G ++ w ∷ map Now rest') ++ (x ++ last (length F))) moment
          ∙ ap (λ (k : ℕ). lines_before t (G ++ w ∷ map Now rest') ++ (moment_lines t 0 G ++ last k)) number
          ∙ ap (λ (b : Board). cut_text G b (map Now rest')) same_board_here)

    pub one_cut : (first rest first' rest' : List (Played A S)) (here here' : Played A S) → AreInOrder C.members → IsRunUpTo C first here rest → IsRunUpTo C first' here' rest'
        → here.steps ≡ n → here'.steps ≡ n → Within (first ++ here ∷ rest) → Within (first' ++ here' ∷ rest')
        → cut_text (map Now first) (Now here) (map Now rest) ≡ cut_text (map Now first') (Now here') (map Now rest')
    one_cut first rest first' rest' here here' order f f' s s' within within' = by_clock (nat_lt (Clock here) (Clock here')) refl (nat_lt (Clock here') (Clock here)) refl
      where
        by_number : Clock here ≡ Clock here' → (c : Bool) → nat_lt (length first) (length first') ≡ c → (d : Bool) → nat_lt (length first') (length first) ≡ d
            → cut_text (map Now first) (Now here) (map Now rest) ≡ cut_text (map Now first') (Now here') (map Now rest')
        by_number e true p d q = absurd (not_before first rest first' rest' here here' order f f' s s' within' e (grind (arith, nat_tests)))
        by_number e false p true q = absurd (not_before first' rest' first rest here' here order f' f s' s within (sym e) (grind (arith, nat_tests)))
        by_number e false p false q = same_cut first rest first' rest' here here' order f f' s s' e (grind (arith, nat_tests))

        by_clock : (c : Bool) → nat_lt (Clock here) (Clock here') ≡ c → (d : Bool) → nat_lt (Clock here') (Clock here) ≡ d
            → cut_text (map Now first) (Now here) (map Now rest) ≡ cut_text (map Now first') (Now here') (map Now rest')
        by_clock true p d q = absurd (not_sooner first rest first' rest' here here' order f f' s s' within' (grind (arith, nat_tests)))
        by_clock false p true q = absurd (not_sooner first' rest' first rest here' here order f' f s' s within (grind (arith, nat_tests)))
        by_clock false p false q = by_number (grind (arith, nat_tests)) (nat_lt (length first) (length first')) refl (nat_lt (length first') (length first)) refl
