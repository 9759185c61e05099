-- Whether something comes at the first moment.
use Rattle.std.proofs.Common.{◌≡◌, ◌≢◌, ℕ, zero, suc, ◌<◌, ◌⊎◌, inl, inr, Bool, true, false, if◌then◌else◌, nat_le, nat_lt, List, [], ◌∷◌, Option, Some, None, IsSome, refl, sym, ap, ◌∙◌, subst, arith}
use Rattle.std.proofs.lemmas.Bool.Decides.{nat_tests}
use Rattle.std.specs.Prelude.{IfSome}
use Rattle.board_world.specs.declared.events.Event.{Event}
use Rattle.board_world.specs.declared.clock.Idle.TheVariants.{Jump, Script}
use Rattle.board_world.specs.Rules.{earlier, up_to}
use Rattle.board_world.specs.Board.{Entry, Raise, next_entry}
use Rattle.board_world.specs.Waiting.{least}
use Rattle.class_world.specs.Hearing.{inserted, with_heard, raised_at}
use Rattle.board_run.specs.declared.engine.Engine.{Engine}
use Rattle.board_run.specs.Represents.{IsEmpty, entries_left, state_of}
use Rattle.board_run.specs.Advancing.{IsStayed}
use Rattle.board_run.specs.Going.{next_moment, IsDueAt, IsResting}

pub resting_of : (e : Engine) → IsStayed e → e.end ≡ None → e.runtime.running ≡ None → IsResting e
resting_of e stayed going nobody = by_stay (stayed going)
  where
    by_stay : IsSome e.runtime.running ⊎ (IsEmpty (state_of e) × (e.bus.queue ≡ [])) → IsResting e
    by_stay (inl runs) = absurd (let c : false ≡ true = subst IsSome nobody runs in cc)
    by_stay (inr r) = record { goes = going; empty = r.0; quiet = r.1 }

jumps_now : (o : Option ℕ) (end : ℕ) → o ≡ Some 0 → up_to end o ≡ Jump 0
jumps_now o end e = ap (up_to end) e ∙ (let early : nat_lt end 0 ≡ false = grind (arith, nat_tests) in ap (λ c. if c then Script else Jump 0) early)

earlier_now : (o : Option ℕ) → earlier o (Some 0) ≡ Some 0
earlier_now None = refl
earlier_now (Some a) = by_first (nat_lt 0 a) refl
  where
    by_first : (c : Bool) → nat_lt 0 a ≡ c → Some (if c then 0 else a) ≡ Some 0
    by_first true q = refl
    by_first false q = (let none : a ≡ 0 = grind (arith, nat_tests) in ap Some none)

placed_now : (e : Event) (own : List Entry) → (let x : Entry = record { at = 0; act = Raise e } in next_entry (inserted x own) ≡ Some 0)
placed_now e [] = refl
placed_now e (y ∷ ys) = by_test (nat_le y.at 0) refl
  where
    k : Entry
    k = record { at = 0; act = Raise e }

    by_test : (c : Bool) → nat_le y.at 0 ≡ c → next_entry (if c then y ∷ inserted k ys else k ∷ (y ∷ ys)) ≡ Some 0
    by_test true q = (let none : y.at ≡ 0 = grind (arith, nat_tests) in ap Some none)
    by_test false q = refl

heard_now : (events : List Event) (own : List Entry) → next_entry own ≡ Some 0 → next_entry (with_heard (raised_at 0 events) own) ≡ Some 0
heard_now [] own h = h
heard_now (e ∷ es) own h = heard_now es _ (placed_now e own)

-- an event that is kept comes at once
pub due_kept : (kept : List Event) (e : Engine) → kept ≢ [] → IsDueAt 0 kept e
due_kept [] e some = absurd (some refl)
due_kept (k ∷ ks) e some =
    jumps_now (earlier (least e.runtime.lists.sleepers) (next_entry (with_heard (raised_at 0 (k ∷ ks)) (entries_left e)))) e.script.end
    (ap (earlier (least e.runtime.lists.sleepers)) (heard_now ks _ (placed_now k (entries_left e))) ∙ earlier_now (least e.runtime.lists.sleepers))

pub due_next : (kept : List Event) (e : Engine) → kept ≡ [] → next_moment e ≡ Some 0 → IsDueAt 0 kept e
due_next kept e none now = subst (λ es. IsDueAt 0 es e) (sym none) (jumps_now (next_moment e) e.script.end now)

pub later_next : (o : Option ℕ) → o ≢ Some 0 → IfSome o (λ t. 0 < t)
later_next None h = tt
later_next (Some zero) h = absurd (h refl)
later_next (Some (suc t)) h = omega arith
