-- What a run does over one memory, it does over a memory that refines it.
use Rattle.std.proofs.Common.{zero, suc, ◌≡◌, ℕ, ◌+◌, ◌*◌, ◌/◌, ◌%◌, List, [], ◌++◌, Bool, true, false, cond, nat_lt, refl, ap, ◌∙◌, append_assoc, arith, slice_set, ◌==◌}
use Rattle.thumb_code.specs.declared.instructions.Instr.{Instr}
use Rattle.thumb_code.specs.declared.instructions.Instr.TheVariants.{AddHigh, MovHigh, AddSpImm, SubSpImm, Push, Pop, BCond}
use Rattle.thumb_code.specs.declared.register_file.Registers.{Registers}
use Rattle.thumb_code.specs.RegisterFile.{reg, put_reg, word}
use Rattle.thumb_code.specs.Effect.{Effect, effect}
use Rattle.thumb_code.specs.Memory.{Memory, Executed, Done, Asked, Stopped, execute, execute_moving}
use Rattle.thumb_code.specs.Step.{Fetched, Found, Missed, ran, stepped_at}
use Rattle.thumb_code.specs.Run.{Ran, Still, AskedAfter, Broke, runs, from_step, DoesTheSame, RunsTheSame, over_moving}
use Rattle.thumb_code.proofs.TakenWords.{over, Refines}
use Rattle.thumb_code.proofs.Refine.{refined}

cond_sp : (b : Bool) (x y : Effect) → x.sp % 4 ≡ 0 → y.sp % 4 ≡ 0 → (cond b x y).sp % 4 ≡ 0
cond_sp true x y p q = p
cond_sp false x y p q = q

chosen_aligned : (b1 b2 b3 : Bool) (x y z w : Registers) → x.sp % 4 ≡ 0 → y.sp % 4 ≡ 0 → z.sp % 4 ≡ 0 → w.sp % 4 ≡ 0 → (cond b1 x (cond b2 y (cond b3 z w))).sp % 4 ≡ 0
chosen_aligned true b2 b3 x y z w p q r t = p
chosen_aligned false true b3 x y z w p q r t = q
chosen_aligned false false true x y z w p q r t = r
chosen_aligned false false false x y z w p q r t = t

put_aligned : (s : Registers) (k v : ℕ) → s.sp % 4 ≡ 0 → (put_reg s k v).sp % 4 ≡ 0
put_aligned s k v h = chosen_aligned (nat_lt k 13) (k == 13) (k == 14) (record s { r = slice_set s.r k v }) (record s { sp = v / 4 * 4 }) (record s { lr = v }) (record s { pc = v / 2 * 2 }) h (omega arith) h h

-- SP stays a multiple of 4
pub aligned_sp : (i : Instr) (next : ℕ) (s : Registers) → s.sp % 4 ≡ 0 → (effect next s i).sp % 4 ≡ 0
aligned_sp (AddHigh a b) next s h = put_aligned (record s { pc = next }) a (word (reg s a + reg s b)) h
aligned_sp (MovHigh a b) next s h = put_aligned (record s { pc = next }) a (reg s b) h
aligned_sp (AddSpImm a) next s h = omega arith
aligned_sp (SubSpImm a) next s h = omega arith
aligned_sp (Push a b) next s h = omega arith
aligned_sp (Pop a b) next s h = omega arith
aligned_sp (BCond a b) next s h = cond_sp _ _ _ h h
aligned_sp _ next s h = h

follows_ran_along : {S U : Type 0} (R : ℕ → S → U → Type 0) (x : Ran S) (f g : List ℕ → Ran (U × List ℕ)) → ((rest : List ℕ) → g rest ≡ f rest) → RunsTheSame R x f → RunsTheSame R x g
follows_ran_along R (Still q s) f g e h = (h.0, h.1, λ rest. e rest ∙ h.2 rest)
follows_ran_along R (AskedAfter n k q s) f g e h = (h.0, h.1, λ rest. e rest ∙ h.2 rest)
follows_ran_along R (Broke k at) f g e h = λ rest. e rest ∙ h rest

-- one instruction and then the rest of the run
after_one : {S U : Type 0} (m : Memory S) (w : Memory (U × List ℕ)) (mv : U × List ℕ → ℕ → U × List ℕ) (R : ℕ → S → U → Type 0) (fetch : ℕ → Fetched) (n pc : ℕ)
    → ((q : Registers) (s : S) (u : U) → R q.sp s u → (used : List ℕ) × RunsTheSame R (runs (over m) fetch n q s) (λ rest. runs (over_moving w mv) fetch n q (u, used ++ rest)))
    → (t : Executed S) (f : List ℕ → Executed (U × List ℕ)) → DoesTheSame R t f
    → (used : List ℕ) × RunsTheSame R (from_step (runs (over m) fetch n) n (stepped_at pc t)) (λ rest. from_step (runs (over_moving w mv) fetch n) n (stepped_at pc (f (used ++ rest))))
after_one m w mv R fetch n pc go (Done q s) f h =
    let i = go q s h.0 h.1 in
    (i.0, follows_ran_along R (runs (over m) fetch n q s) (λ rest. runs (over_moving w mv) fetch n q (h.0, i.0 ++ rest)) (λ rest. from_step (runs (over_moving w mv) fetch n) n (stepped_at pc (f (i.0 ++ rest)))) (λ rest. let e = h.2 (i.0 ++ rest) in rw e refl) i.1)
after_one m w mv R fetch n pc go (Asked k q s) f h = ([], (h.0, h.1, λ rest. let e = h.2 rest in rw e refl))
after_one m w mv R fetch n pc go (Stopped k) f h = ([], λ rest. let e = h rest in rw e refl)

-- the step at what was fetched
fetched_follows : {S U : Type 0} (m : Memory S) (w : Memory (U × List ℕ)) (mv : U × List ℕ → ℕ → U × List ℕ) (R : ℕ → S → U → Type 0) → Refines m w mv R → (fetch : ℕ → Fetched) (n : ℕ)
    → ((q : Registers) (s : S) (u : U) → R q.sp s u → (used : List ℕ) × RunsTheSame R (runs (over m) fetch n q s) (λ rest. runs (over_moving w mv) fetch n q (u, used ++ rest)))
    → (x : Fetched) (q : Registers) (s : S) (u : U) → R q.sp s u
    → (used : List ℕ) × RunsTheSame R (from_step (runs (over m) fetch n) n (ran (over m q s) q x)) (λ rest. from_step (runs (over_moving w mv) fetch n) n (ran (over_moving w mv q (u, used ++ rest)) q x))
fetched_follows m w mv R r fetch n go (Missed k at) q s u h = ([], λ rest. refl)
fetched_follows m w mv R r fetch n go (Found i next) q s u h =
    let d = (r.sp_in q.sp s u h) in
    let f = refined m w mv R r (effect next q i) q.sp s u h d.0 d.1 (aligned_sp i next q d.1) in
    let a = after_one m w mv R fetch n q.pc go (execute m s (effect next q i)) (λ rest. execute_moving w mv (u, f.0 ++ rest) q.sp (effect next q i)) f.1 in (
      f.0 ++ a.0,
      follows_ran_along R (from_step (runs (over m) fetch n) n (ran (over m q s) q (Found i next)))
          (λ rest. from_step (runs (over_moving w mv) fetch n) n (stepped_at q.pc (execute_moving w mv (u, f.0 ++ (a.0 ++ rest)) q.sp (effect next q i))))
          (λ rest. from_step (runs (over_moving w mv) fetch n) n (ran (over_moving w mv q (u, (f.0 ++ a.0) ++ rest)) q (Found i next)))
          (λ rest. ap (λ l. from_step (runs (over_moving w mv) fetch n) n (stepped_at q.pc (execute_moving w mv (u, l) q.sp (effect next q i)))) (append_assoc f.0 a.0 rest)) a.1,
    )

-- For each run over the one memory there is a list of free words with which the other does the same, whatever follows it.
pub runs_follow : {S U : Type 0} (m : Memory S) (w : Memory (U × List ℕ)) (mv : U × List ℕ → ℕ → U × List ℕ) (R : ℕ → S → U → Type 0) → Refines m w mv R → (fetch : ℕ → Fetched) (n : ℕ) (q : Registers) (s : S) (u : U) → R q.sp s u
    → (used : List ℕ) × RunsTheSame R (runs (over m) fetch n q s) (λ rest. runs (over_moving w mv) fetch n q (u, used ++ rest))
runs_follow m w mv R r fetch zero q s u h = ([], (u, h, λ rest. refl))
runs_follow m w mv R r fetch (suc n) q s u h = fetched_follows m w mv R r fetch n (λ q' s' u' h'. runs_follow m w mv R r fetch n q' s' u' h') (fetch q.pc) q s u h
