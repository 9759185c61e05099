-- What the loop keeps that goes on while the clock stands.
use Rattle.std.proofs.Common.{◌≡◌, ℕ, List, [], None, refl, sym, ap, ◌∙◌}
use Rattle.message_bus.specs.BusState.{BusState}
use Rattle.board_run.specs.declared.engine.Engine.{Engine}
use Rattle.board_run.specs.Represents.{IsShown, state_of}
use Rattle.board_run.specs.Run.{Comes}
use Rattle.board_run.proofs.Course.{comes_then, comes_shown, stutters}

pub record Staying (old new : Engine) : Type 0 where
  pub comes : (image : List ℕ) → Comes image 0 [] (state_of old) (state_of new)
  pub stays : new ≡ record old { runtime = new.runtime; switch = new.switch; bus = new.bus; places = new.places }
  pub shown : IsShown (state_of new)

pub staying_start : (e : Engine) → IsShown (state_of e) → Staying e e
staying_start e s = record { comes = λ image. stutters image (state_of e) (state_of e) refl (λ w h. h); stays = refl; shown = s }

pub staying_on : (old mid new : Engine) → Staying old mid → ((image : List ℕ) → Comes image 0 [] (state_of mid) (state_of new)) → new ≡ record mid { runtime = new.runtime; switch = new.switch; bus = new.bus; places = new.places } → Staying old new
staying_on old mid new s comes stays = record {
  comes = λ image bound. comes_then bound image 0 0 [] [] (state_of old) (state_of mid) (state_of new) (s.comes image bound) (comes image bound);
  stays = stays ∙ ap (λ (e : Engine). (let x : Engine = record e { runtime = new.runtime; switch = new.switch; bus = new.bus; places = new.places } in x)) s.stays;
  shown = comes_shown 0 [] (state_of mid) (state_of new) s.shown (λ image. comes image None);
}

-- somebody begins, or nobody
pub staying_begun : (old mid new : Engine) → Staying old mid → ((image : List ℕ) → Comes image 0 [] (state_of mid) (state_of new)) → new ≡ record mid { runtime = new.runtime; switch = new.switch; places = new.places } → Staying old new
staying_begun old mid new s comes stays =
    staying_on old mid new s comes (stays ∙ ap (λ (b : BusState). (let x : Engine = record mid { runtime = new.runtime; switch = new.switch; bus = b; places = new.places } in x)) (sym (ap (λ (x : Engine). x.bus) stays)))

-- an event is dispatched, or none
pub staying_dispatched : (old mid new : Engine) → Staying old mid → ((image : List ℕ) → Comes image 0 [] (state_of mid) (state_of new)) → new ≡ record mid { runtime = new.runtime; bus = new.bus; places = new.places } → Staying old new
staying_dispatched old mid new s comes stays =
    staying_on old mid new s comes (stays ∙ ap (λ (n : ℕ). (let x : Engine = record mid { runtime = new.runtime; switch = n; bus = new.bus; places = new.places } in x)) (sym (ap (λ (x : Engine). x.switch) stays)))
