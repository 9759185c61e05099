-- What one memory does with an effect, a memory that refines it does too.
use Rattle.std.proofs.Common.{◌≡◌, ℕ, ◌%◌, ◌<◌, ◌≤◌, min, List, [], ◌∷◌, ◌++◌, map, Bool, true, false, Option, Some, None, refl, sym, subst, ◌∙◌, append_assoc, arith, nat_lt}
use Rattle.std.proofs.lemmas.Bool.Decides.{nat_tests}
use Rattle.thumb_code.specs.Effect.{Outcome, Goes, Asks, Stops, Access, Effect}
use Rattle.std.specs.Option.{option_or}
use Rattle.thumb_code.specs.Memory.{Memory, Executed, Done, Asked, Stopped, first_fault, load_all, store_all, finished, accessed, execute, after_move, execute_moving}
use Rattle.thumb_code.specs.Run.{DoesTheSame}
use Rattle.thumb_code.proofs.TakenWords.{Refines}

both_none : (o p : Option ℕ) → option_or o p ≡ None → (o ≡ None) × (p ≡ None)
both_none (Some k) p h = cc
both_none None p h = (refl, h)

faults_same : {S U : Type 0} (m : Memory S) (w : Memory (U × List ℕ)) (mv : U × List ℕ → ℕ → U × List ℕ) (R : ℕ → S → U → Type 0) → Refines m w mv R → (as' : List Access) (b : Bool) (at : ℕ) (s : S) (u : U) (free : List ℕ) → R at s u
    → first_fault w (u, free) b as' ≡ first_fault m s b as'
faults_same m w mv R r [] b at s u free h = refl
faults_same m w mv R r (a ∷ as') b at s u free h =
    let e = r.fault at s u free h b a in
    let i = faults_same m w mv R r as' b at s u free h in
    rw (e, i) refl

loads_follow : {S U : Type 0} (m : Memory S) (w : Memory (U × List ℕ)) (mv : U × List ℕ → ℕ → U × List ℕ) (R : ℕ → S → U → Type 0) → Refines m w mv R → (as' : List Access) (at : ℕ) (s : S) (u : U) → R at s u → first_fault m s false as' ≡ None
    → (used : List ℕ) × ((rest : List ℕ) → load_all w (u, used ++ rest) as' ≡ ((load_all m s as').0, (u, rest))) × ((load_all m s as').1 ≡ s)
loads_follow m w mv R r [] at s u h n = ([], (λ rest. refl), refl)
loads_follow {S} {U} m w mv R r (a ∷ as') at s u h n =
    let f = both_none _ _ n in
    let l = r.load at s u h a f.0 in
    let k = r.loads_same s a in
    let i = loads_follow m w mv R r as' at s u h f.1 in (
      l.0 ++ i.0,
      (λ rest.
          let e1 = l.1 (i.0 ++ rest) in
          let e2 = i.1 rest in
          rw (append_assoc l.0 i.0 rest, e1, e2, k) refl),
      rw k i.2,
    )

stores_keep : {S U : Type 0} (m : Memory S) (w : Memory (U × List ℕ)) (mv : U × List ℕ → ℕ → U × List ℕ) (R : ℕ → S → U → Type 0) → Refines m w mv R → (s : S) (a : Access) (v : ℕ) (b : Bool) (as' : List Access)
    → first_fault m (m.store s a v) b as' ≡ first_fault m s b as'
stores_keep m w mv R r s a v b [] = refl
stores_keep m w mv R r s a v b (x ∷ xs) =
    let e = r.store_keeps s a v b x in
    let i = stores_keep m w mv R r s a v b xs in
    rw (e, i) refl

abbrev addresses : List (Access × ℕ) → List Access
addresses ps = map (λ p. p.0) ps

stores_follow : {S U : Type 0} (m : Memory S) (w : Memory (U × List ℕ)) (mv : U × List ℕ → ℕ → U × List ℕ) (R : ℕ → S → U → Type 0) → Refines m w mv R → (ps : List (Access × ℕ)) (at : ℕ) (s : S) (u : U) → R at s u → first_fault m s true (addresses ps) ≡ None
    → (u' : U) × ((rest : List ℕ) → store_all w (u, rest) ps ≡ (u', rest)) × R at (store_all m s ps) u'
stores_follow m w mv R r [] at s u h n = (u, (λ rest. refl), h)
stores_follow m w mv R r (p ∷ ps) at s u h n =
    let f = both_none _ _ n in
    let l = r.store at s u h p.0 p.1 f.0 in
    let k = stores_keep m w mv R r s p.0 p.1 true (addresses ps) in
    let i = stores_follow m w mv R r ps at (m.store s p.0 p.1) l.0 l.2 (k ∙ f.1) in
    (i.0, (λ rest. let e1 = l.1 rest in let e2 = i.1 rest in rw (e1, e2) refl), i.2)

stores_keep_sp : {S U : Type 0} (m : Memory S) (w : Memory (U × List ℕ)) (mv : U × List ℕ → ℕ → U × List ℕ) (R : ℕ → S → U → Type 0) → Refines m w mv R → (ps : List (Access × ℕ)) (s : S) (n : ℕ)
    → m.has_sp (store_all m s ps) n ≡ m.has_sp s n
stores_keep_sp m w mv R r [] s n = refl
stores_keep_sp m w mv R r (p ∷ ps) s n = stores_keep_sp m w mv R r ps (m.store s p.0 p.1) n ∙ r.store_keeps_sp s p.0 p.1 n

-- the end of an instruction
finish_follows : {S U : Type 0} (m : Memory S) (w : Memory (U × List ℕ)) (mv : U × List ℕ → ℕ → U × List ℕ) (R : ℕ → S → U → Type 0) → Refines m w mv R → (o : Outcome) (at : ℕ) (s : S) (u : U) (n : ℕ) → R at s u → m.has_sp s n ≡ true → n % 4 ≡ 0
    → (used : List ℕ) × DoesTheSame R (finished s n o) (λ rest. after_move mv (finished (u, used ++ rest) n o))
finish_follows m w mv R r (Goes q) at s u n h p d =
    let l = r.move at s u h n p d in
    (l.0, (l.1, l.3, λ rest. let e = l.2 rest in rw e refl))
finish_follows m w mv R r (Asks k q) at s u n h p d =
    let l = r.move at s u h n p d in
    (l.0, (l.1, l.3, λ rest. let e = l.2 rest in rw e refl))
finish_follows m w mv R r (Stops k) at s u n h p d = ([], λ rest. refl)

follows_along : {S U : Type 0} (R : ℕ → S → U → Type 0) (x : Executed S) (f g : List ℕ → Executed (U × List ℕ)) → ((rest : List ℕ) → g rest ≡ f rest) → DoesTheSame R x f → DoesTheSame R x g
follows_along R (Done q s) f g e h = (h.0, h.1, λ rest. e rest ∙ h.2 rest)
follows_along R (Asked n q s) f g e h = (h.0, h.1, λ rest. e rest ∙ h.2 rest)
follows_along R (Stopped k) f g e h = λ rest. e rest ∙ h rest

accessed_cases : {S U : Type 0} (m : Memory S) (w : Memory (U × List ℕ)) (mv : U × List ℕ → ℕ → U × List ℕ) (R : ℕ → S → U → Type 0) → Refines m w mv R → (e : Effect) (at : ℕ) (s : S) (u : U) → R at s u → m.has_sp s e.sp ≡ true → e.sp % 4 ≡ 0
    → (o1 o2 : Option ℕ) → first_fault m s false e.loads ≡ o1 → first_fault m s true (addresses e.stores) ≡ o2
    → (used : List ℕ) × DoesTheSame R (accessed m s e) (λ rest. after_move mv (accessed w (u, used ++ rest) e))
accessed_cases m w mv R r e at s u h p d (Some k) o2 q1 q2 =
    ([], rw q1 (λ rest. let f = faults_same m w mv R r e.loads false at s u rest h in rw (f, q1) refl))
accessed_cases m w mv R r e at s u h p d None (Some k) q1 q2 =
    ([], rw (q1, q2) (λ rest. let f = faults_same m w mv R r e.loads false at s u rest h in let g = faults_same m w mv R r (addresses e.stores) true at s u rest h in rw (f, q1, g, q2) refl))
accessed_cases m w mv R r e at s u h p d None None q1 q2 =
    let l = loads_follow m w mv R r e.loads at s u h q1 in
    let t = stores_follow m w mv R r e.stores at s u h q2 in
    let k = stores_keep_sp m w mv R r e.stores s e.sp in
    let f = finish_follows m w mv R r (e.after (load_all m s e.loads).0) at (store_all m s e.stores) t.0 e.sp t.2 (k ∙ p) d in
    let same : accessed m s e ≡ finished (store_all m s e.stores) e.sp (e.after (load_all m s e.loads).0) = rw (q1, q2, l.2) refl in
    let follow = follows_along R (finished (store_all m s e.stores) e.sp (e.after (load_all m s e.loads).0))
    (λ rest. after_move mv (finished (t.0, f.0 ++ rest) e.sp (e.after (load_all m s e.loads).0)))
    (λ rest. after_move mv (accessed w (u, (l.0 ++ f.0) ++ rest) e))
    (λ rest.
    let a = faults_same m w mv R r e.loads false at s u ((l.0 ++ f.0) ++ rest) h in
    let b = faults_same m w mv R r (addresses e.stores) true at s u ((l.0 ++ f.0) ++ rest) h in
    let c = l.1 (f.0 ++ rest) in
    let d' = t.1 (f.0 ++ rest) in
    rw (a, q1, b, q2, append_assoc l.0 f.0 rest, c, d') refl)
    f.1 in
    (l.0 ++ f.0, rw same follow)

lower_sp : (P : ℕ → Type 0) (a b : ℕ) → P a → P b → P (min a b)
lower_sp P a b p q = elim (nat_lt a b) as (λ t. nat_lt a b ≡ t → P (min a b)) [
  | true ↦ λ e. let h : a < b = grind (arith, nat_tests) in let k : min a b ≡ a = omega arith in subst P (sym k) p
  | false ↦ λ e. let h : b ≤ a = grind (arith, nat_tests) in let k : min a b ≡ b = omega arith in subst P (sym k) q
] refl

composed : {S U : Type 0} (w : Memory (U × List ℕ)) (mv : U × List ℕ → ℕ → U × List ℕ) (R : ℕ → S → U → Type 0) (e : Effect) (u v : U) (sp : ℕ) (lu au : List ℕ) (x y : Executed S) → y ≡ x
    → ((free : List ℕ) → w.has_sp (u, free) e.sp ≡ true) → ((rest : List ℕ) → mv (u, lu ++ rest) (min sp e.sp) ≡ (v, rest))
    → DoesTheSame R x (λ rest. after_move mv (accessed w (v, au ++ rest) e)) → DoesTheSame R y (λ rest. execute_moving w mv (u, (lu ++ au) ++ rest) sp e)
composed w mv R e u v sp lu au x y same f g h = subst (λ z. DoesTheSame R z (λ rest. execute_moving w mv (u, (lu ++ au) ++ rest) sp e)) (sym same) (follows_along R x (λ rest. after_move mv (accessed w (v, au ++ rest) e)) (λ rest. execute_moving w mv (u, (lu ++ au) ++ rest) sp e)
    (λ rest. let p = f ((lu ++ au) ++ rest) in let c = g (au ++ rest) in rw (p, append_assoc lu au rest, c) refl) h)

refined_cases : {S U : Type 0} (m : Memory S) (w : Memory (U × List ℕ)) (mv : U × List ℕ → ℕ → U × List ℕ) (R : ℕ → S → U → Type 0) → Refines m w mv R → (e : Effect) (sp : ℕ) (s : S) (u : U) → R sp s u
    → m.has_sp s sp ≡ true → sp % 4 ≡ 0 → e.sp % 4 ≡ 0 → (b : Bool) → m.has_sp s e.sp ≡ b
    → (used : List ℕ) × DoesTheSame R (execute m s e) (λ rest. execute_moving w mv (u, used ++ rest) sp e)
refined_cases m w mv R r e sp s u h p d d' false q =
    ([], rw q (λ rest. let f = r.has_sp sp s u rest h e.sp in rw (f, q) refl))
refined_cases m w mv R r e sp s u h p d d' true q =
    let n = min sp e.sp in
    let low = r.move sp s u h n (lower_sp (λ x. m.has_sp s x ≡ true) sp e.sp p q) (lower_sp (λ x. x % 4 ≡ 0) sp e.sp d d') in
    let a = accessed_cases m w mv R r e n s low.1 low.3 q d' (first_fault m s false e.loads) (first_fault m s true (addresses e.stores)) refl refl in
    let follow = composed w mv R e u low.1 sp low.0 a.0 (accessed m s e) (execute m s e) (rw q refl) (λ free. r.has_sp sp s u free h e.sp ∙ q) low.2 a.1 in
    (low.0 ++ a.0, follow)

-- an effect that leaves SP a multiple of 4
pub refined : {S U : Type 0} (m : Memory S) (w : Memory (U × List ℕ)) (mv : U × List ℕ → ℕ → U × List ℕ) (R : ℕ → S → U → Type 0) → Refines m w mv R → (e : Effect) (sp : ℕ) (s : S) (u : U) → R sp s u
    → m.has_sp s sp ≡ true → sp % 4 ≡ 0 → e.sp % 4 ≡ 0
    → (used : List ℕ) × DoesTheSame R (execute m s e) (λ rest. execute_moving w mv (u, used ++ rest) sp e)
refined m w mv R r e sp s u h p d d' = refined_cases m w mv R r e sp s u h p d d' (m.has_sp s e.sp) refl
