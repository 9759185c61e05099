-- What the code's step tells of the machine's step, and so of the run.
use Rattle.std.proofs.Common.{◌≡◌, ℕ, List, [], Bool, true, false, Option, Some, None, IsSome, refl, sym, ap, ◌∙◌, subst}
use Rattle.std.specs.Option.{option_map}
use Rattle.thumb_code.specs.declared.register_file.Registers.{Registers}
use Rattle.thumb_code.specs.Step.{Stepped, On, Served, Faulted, ServesOnly}
use Rattle.thumb_code.specs.Machine.{State as Machine, step, Ram}
use Rattle.thumb_code.proofs.Laws.{step_asks_only}
use Rattle.armv6m_machine.specs.Steps.{IsStep}
use Rattle.armv6m_machine.specs.Answers.{number_of}
use Rattle.armv6m_machine.specs.declared.faults.Fault.{Fault}
use Rattle.armv6m_machine.specs.declared.faults.Turn.{Turn}
use Rattle.armv6m_machine.specs.declared.faults.Turn.TheVariants.{Went, Service, Fault as TurnFault}
use Rattle.bank_model.specs.Fibers.{Fiber, Shared}
use Rattle.bank_model.specs.AllServices.{service}
use Rattle.bank_model.specs.Standing.{IsInside}
use Rattle.fiber_runtime.specs.declared.turning.Turning.{Turning}
use Rattle.fiber_runtime.specs.State.{State}
use Rattle.board_world.specs.Activities.{World}
use Rattle.board_run.specs.declared.end.Stop.{Stop}
use Rattle.board_run.specs.declared.end.Stop.TheVariants.{Fault as StopFault}
use Rattle.board_run.specs.declared.engine.Engine.{Engine}
use Rattle.board_outside.specs.declared.output.Output.{Output}
use Rattle.board_run.specs.declared.engine.Served.TheVariants.{Goes, Stops}
use Rattle.board_run.specs.Represents.{BoardState, Represents, IsShown, state_of, end_of}
use Rattle.board_run.specs.Run.{Comes}
use Rattle.board_run.specs.Serving.{Acts, StopsAt, IsServed}
use Rattle.board_outside.specs.Outputs.{moves_of}
use Rattle.board_run.proofs.Instructs.{moved_to, moved_shows, went, faulted, served, served_stops, served_inside}

went_as : (x : Stepped Ram) (turn : Turn) (old new : Machine) → IsStep x turn old new → turn ≡ Went → x ≡ On new.registers new.memory
went_as (On r t) turn old new h e = ap (λ (m : Machine). On m.registers m.memory) (sym h.1)
went_as (Served n r t) turn old new h e = absurd (let c : Service n ≡ Went = sym h.0 ∙ e in cc)
went_as (Faulted k at) (TurnFault f a) old new h e = absurd (cc)
went_as (Faulted k at) Went old new h e = absurd h
went_as (Faulted k at) (Service n) old new h e = absurd h

served_with : (x : Stepped Ram) (turn : Turn) (n : ℕ) (old new : Machine) → IsStep x turn old new → turn ≡ Service n → x ≡ Served n new.registers new.memory
served_with (On r t) turn n old new h e = absurd (let c : Went ≡ Service n = sym h.0 ∙ e in cc)
served_with (Served k r t) turn n old new h e = (let c : Service k ≡ Service n = sym h.0 ∙ e in let is : k ≡ n = cc in ap (λ (m : Machine). Served k m.registers m.memory) (sym h.1) ∙ ap (λ j. Served j new.registers new.memory) is)
served_with (Faulted k at) (TurnFault f a) n old new h e = absurd (cc)
served_with (Faulted k at) Went n old new h e = absurd h
served_with (Faulted k at) (Service m) n old new h e = absurd h

faulted_with : (x : Stepped Ram) (turn : Turn) (kind : Fault) (address : ℕ) (old new : Machine) → IsStep x turn old new → turn ≡ TurnFault kind address → (x ≡ Faulted (number_of kind) address) × (new ≡ old)
faulted_with (On r t) turn kind address old new h e = absurd (let c : Went ≡ TurnFault kind address = sym h.0 ∙ e in cc)
faulted_with (Served n r t) turn kind address old new h e = absurd (let c : Service n ≡ TurnFault kind address = sym h.0 ∙ e in cc)
faulted_with (Faulted k at) (TurnFault f a) kind address old new h e =
    (let is : f ≡ kind = cc in let to : a ≡ address = cc in
    (ap (λ j. Faulted j at) (sym h.0) ∙ ap (λ (j : Fault). Faulted (number_of j) at) is ∙ ap (λ j. Faulted (number_of kind) j) (sym h.1 ∙ to), h.2))
faulted_with (Faulted k at) Went kind address old new h e = absurd h
faulted_with (Faulted k at) (Service n) kind address old new h e = absurd h

same_machine : (r r' : Registers) (m m' : Ram) → r ≡ r' → m ≡ m' → (let x : Machine = record { registers = r; memory = m } in let y : Machine = record { registers = r'; memory = m' } in x ≡ y)
same_machine r r' m m' p q = rw (p, q) refl

pub some_turning : (o : Option Turning) → IsSome o → (t : Turning) × (o ≡ Some t)
some_turning (Some t) runs = (t, refl)
some_turning None runs = absurd (let c : ◌≡◌ {A = Bool} false true = runs in cc)

as_shown : (image : List ℕ) (b : BoardState) (w : World Fiber Shared) → b.runtime.machine.memory.flash ≡ image → Represents image b w → IsShown b
as_shown image b w same h = record { world = w; shows = subst (λ l. Represents l b w) (sym same) h }

module _ (e : Engine) (s : State) (turn : Turn) (rest : s ≡ record e.runtime { machine = s.machine }) (steps : IsStep (step e.runtime.machine) turn e.runtime.machine s.machine) where
  -- the engine behind the machine's step
  abbrev pub behind_step : Engine
  behind_step = record e { runtime = s }

  moved_is : state_of (record e { runtime = record e.runtime { machine = s.machine } }) ≡ state_of behind_step
  moved_is = ap (λ (r : State). state_of (record e { runtime = r })) (sym rest)

  pub step_went : (t : Turning) → e.runtime.running ≡ Some t → e.end ≡ None → turn ≡ Went → (image : List ℕ) → Comes image 1 [] (state_of e) (state_of behind_step)
  step_went t runs going is image =
      subst (Comes image 1 [] (state_of e)) moved_is
      (went image (state_of e) t runs (ap (λ (o : Option Stop). option_map end_of o) going) s.machine (went_as (step e.runtime.machine) turn e.runtime.machine s.machine steps is))

  none_yet : e.end ≡ None → option_map end_of e.end ≡ None
  none_yet going = ap (λ (o : Option Stop). option_map end_of o) going

  pub step_served : (number : ℕ) → turn ≡ Service number → step e.runtime.machine ≡ Served number s.machine.registers s.machine.memory
  step_served number is = served_with (step e.runtime.machine) turn number e.runtime.machine s.machine steps is

  asks : (number : ℕ) → turn ≡ Service number → (s.machine.memory ≡ e.runtime.machine.memory) × (record s.machine.registers { pc = e.runtime.machine.registers.pc } ≡ e.runtime.machine.registers)
  asks number is = subst (ServesOnly e.runtime.machine.registers e.runtime.machine.memory) (step_served number is) (step_asks_only e.runtime.machine)

  -- what the service finds
  pub flash_stays : (number : ℕ) → turn ≡ Service number → s.machine.memory.flash ≡ e.runtime.machine.memory.flash
  flash_stays number is = ap (λ (m : Ram). m.flash) (asks number is).0

  pub asked_shown : (number : ℕ) → turn ≡ Service number → (t : Turning) → e.runtime.running ≡ Some t → e.end ≡ None → IsShown (state_of e) → IsShown (state_of behind_step)
  asked_shown number is t runs going shown =
      let b = state_of e in
      let h : Represents e.runtime.machine.memory.flash b shown.world = shown.shows in
      let o = served_inside e.runtime.machine.memory.flash b t runs (none_yet going) number s.machine shown.world h (step_served number is) in
      subst IsShown moved_is (as_shown e.runtime.machine.memory.flash (moved_to e.runtime.machine.memory.flash b t runs (none_yet going) s.machine) _ (flash_stays number is)
      (moved_shows e.runtime.machine.memory.flash b t runs (none_yet going) s.machine o shown.world h []))

  pub asked_inside : (number : ℕ) → turn ≡ Service number → (t : Turning) → e.runtime.running ≡ Some t → e.end ≡ None → IsShown (state_of e) → IsInside s.machine.registers.sp s.machine.memory.base
  asked_inside number is t runs going shown = (served_inside e.runtime.machine.memory.flash (state_of e) t runs (none_yet going) number s.machine shown.world shown.shows (step_served number is)).inside

  -- a service that is done
  pub step_goes : (number : ℕ) → turn ≡ Service number → (t : Turning) → e.runtime.running ≡ Some t → e.end ≡ None → (at : ℕ) → at ≡ e.runtime.machine.registers.pc → (output : Output) (new : Engine)
      → IsServed (λ image. service image at number) (Goes output) behind_step new → (image : List ℕ) → Comes image 1 (moves_of e.runtime.machine.memory.flash e.clock output) (state_of e) (state_of new)
  step_goes number is t runs going at here output new done image =
      served image (state_of e) t runs (none_yet going) number s.machine (state_of new) (moves_of e.runtime.machine.memory.flash e.clock output) (step_served number is)
      (subst (λ (b : BoardState). Acts image (service image e.runtime.machine.registers.pc number) (moves_of e.runtime.machine.memory.flash e.clock output) b (state_of new)) (sym moved_is)
      (subst (λ l. Acts image (service image e.runtime.machine.registers.pc number) (moves_of l e.clock output) (state_of behind_step) (state_of new)) (flash_stays number is)
      (subst (λ p. Acts image (service image p number) (moves_of s.machine.memory.flash e.clock output) (state_of behind_step) (state_of new)) here (done image))))

  -- the fiber that is put back
  pub put_back_is : (number : ℕ) → turn ≡ Service number → (at : ℕ) → at ≡ e.runtime.machine.registers.pc → (back : State)
      → back ≡ record s { machine = record s.machine { registers = record s.machine.registers { pc = at } } } → back ≡ e.runtime
  put_back_is number is at here back b =
      b ∙ ap (λ (x : State). record x { machine = record s.machine { registers = record s.machine.registers { pc = at } } }) rest
      ∙ ap (λ (x : Machine). record e.runtime { machine = x }) (same_machine (record s.machine.registers { pc = at }) e.runtime.machine.registers s.machine.memory e.runtime.machine.memory
      (ap (λ p. record s.machine.registers { pc = p }) here ∙ (asks number is).1) (asks number is).0)

  -- a service whose turn ends the run
  pub step_stops : (number : ℕ) → turn ≡ Service number → (t : Turning) → e.runtime.running ≡ Some t → e.end ≡ None → (at : ℕ) → at ≡ e.runtime.machine.registers.pc → (stop : Stop) (new : Engine) (back : State)
      → IsServed (λ image. service image at number) (Stops stop) behind_step new → back ≡ record new.runtime { machine = record new.runtime.machine { registers = record new.runtime.machine.registers { pc = at } } }
      → (image : List ℕ) → Comes image 1 [] (state_of e) (state_of (record new { runtime = back; end = Some stop }))
  step_stops number is t runs going at here stop new back done put image =
      let b : back ≡ record s { machine = record s.machine { registers = record s.machine.registers { pc = at } } } = put ∙ ap (λ (x : Engine). record x.runtime { machine = record x.runtime.machine { registers = record x.runtime.machine.registers { pc = at } } }) done.0 in
      let same : record new { runtime = back; end = Some stop } ≡ record e { end = Some stop } = ap (λ (x : Engine). record x { runtime = back; end = Some stop }) done.0 ∙ ap (λ (r : State). record e { runtime = r; end = Some stop }) (put_back_is number is at here back b) in
      subst (λ (x : Engine). Comes image 1 [] (state_of e) (state_of x)) (sym same)
      (served_stops image (state_of e) t runs (none_yet going) number s.machine (end_of stop) (step_served number is)
      (subst (λ (b : BoardState). StopsAt image (service image e.runtime.machine.registers.pc number) (end_of stop) b) (sym moved_is)
      (subst (λ p. StopsAt image (service image p number) (end_of stop) (state_of behind_step)) here (done.1 image))))

  -- a fault
  pub step_faults : (kind : Fault) (address : ℕ) → turn ≡ TurnFault kind address → (t : Turning) → e.runtime.running ≡ Some t → e.end ≡ None
      → (image : List ℕ) → Comes image 1 [] (state_of e) (state_of (record behind_step { end = Some (StopFault kind address) }))
  step_faults kind address is t runs going image =
      let f = faulted_with (step e.runtime.machine) turn kind address e.runtime.machine s.machine steps is in
      let same : s ≡ e.runtime = rest ∙ ap (λ (m : Machine). record e.runtime { machine = m }) f.1 in
      subst (λ (x : State). Comes image 1 [] (state_of e) (state_of (record e { runtime = x; end = Some (StopFault kind address) }))) (sym same)
      (faulted image (state_of e) t runs (none_yet going) (number_of kind) address f.0)
