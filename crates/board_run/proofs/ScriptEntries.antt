-- The entries of one moment, one after the other.
use Rattle.std.proofs.Common.{All, ◌≡◌, ◌≢◌, ℕ, zero, suc, ◌+◌, ◌*◌, ◌<◌, ◌≤◌, ◌==◌, nat_lt, Bool, true, false, if◌then◌else◌, List, [], ◌∷◌, ◌++◌, length, drop, Option, Some, None, refl, sym, ap, ◌∙◌, subst, arith, append_assoc, slice_get}
use Rattle.std.proofs.lemmas.Bool.Decides.{nat_tests}
use Rattle.std.proofs.lemmas.List.{append-nil}
use Rattle.board_world.specs.Board.{Board, arrive, arrive_all, next_entry, IsSoundAct}
use Rattle.board_drivers.specs.Buttons.{Since, HasButtons}
use Rattle.message_bus.specs.BusState.{BusState}
use Rattle.event_script.specs.World.{world_act, world_entries}
use Rattle.event_script.specs.declared.script.Act.{Act}
use Rattle.event_script.specs.declared.script.Act.TheVariants.{Down, Up, Raise, Unplug}
use Rattle.event_script.specs.declared.script.Entry.{Entry}
use Rattle.board_ports.specs.Account.{Account}
use Rattle.board_ports.specs.Plugged.{Plugged}
use Rattle.board_ports.specs.History.{PortMove, FollowsMoves}
use Rattle.board_run.specs.declared.engine.Engine.{Engine}
use Rattle.board_outside.specs.Moves.{Move, seen_of, unplugged_of}
use Rattle.board_outside.specs.Ports.{port_moves}
use Rattle.board_run.specs.Arriving.{unplugs_of, acted_on, Applied, Arrived}
use Rattle.board_outside.proofs.Laws.{seen_of-append, unplugged_of-append, port_moves-append}

unplugs_silent : (act : Act) → seen_of (unplugs_of act) ≡ []
unplugs_silent (Down button) = refl
unplugs_silent (Up button) = refl
unplugs_silent (Raise event) = refl
unplugs_silent (Unplug port) = refl

drop_at : (es : List Entry) (k : ℕ) (e : Entry) → slice_get es k ≡ Some e → drop k es ≡ e ∷ drop (suc k) es
drop_at [] k e g = absurd (cc)
drop_at (x ∷ es) zero e g = (let is : x ≡ e = cc in ap (λ y. y ∷ es) is)
drop_at (x ∷ es) (suc k) e g = drop_at es k e g

pub drop_none : (es : List Entry) (k : ℕ) → slice_get es k ≡ None → drop k es ≡ []
drop_none [] zero g = refl
drop_none [] (suc k) g = refl
drop_none (x ∷ es) zero g = absurd (cc)
drop_none (x ∷ es) (suc k) g = drop_none es k g

acted_twice : (bus bus' : BusState) (s s' : Since) (ms ns : List Move) (b : Board) → seen_of ms ≡ [] → acted_on bus' s' ns (acted_on bus s ms b) ≡ acted_on bus' s' (ms ++ ns) b
acted_twice bus bus' s s' ms ns b silent =
    let count : length b.seen + length (seen_of ms) ≡ length b.seen = (let e = ap length silent in omega (arith, e)) in
    let same : (b.unplugged ++ unplugged_of (length b.seen) ms) ++ unplugged_of (length b.seen) ns ≡ b.unplugged ++ unplugged_of (length b.seen) (ms ++ ns) =
    append_assoc b.unplugged _ _ ∙ ap (λ l. b.unplugged ++ l) (ap (λ k. unplugged_of (length b.seen) ms ++ unplugged_of k ns) (sym count) ∙ sym (unplugged_of-append (length b.seen) ms ns)) in
    ap (λ (l : List (ℕ × ℕ)). record b { queue = bus'.queue; a_since = s'.a_since; b_since = s'.b_since; unplugged = l }) same

module _ {B : Type 0} (account : B → Account) (old : Engine) (plugged : Plugged B) where
  -- The entries from where it stood up to a place did so.
  pub record Arriving (mid : Engine) (plugged' : Plugged B) : Type 0 where
    pub moves : List Move
    pub silent : seen_of moves ≡ []
    pub board : (b : Board) → HasButtons old.clock old.buttons old.bus b
        → arrive_all old.clock (world_entries (drop old.next old.script.entries)) b ≡ arrive_all old.clock (world_entries (drop mid.next old.script.entries)) (acted_on mid.bus mid.buttons moves b)
    pub listeners : mid.bus.listeners ≡ old.bus.listeners
    pub ports : (before : List PortMove) (start : List (Option B)) → FollowsMoves account before start plugged → FollowsMoves account (before ++ port_moves moves) start plugged'

  pub arriving_start : Arriving old plugged
  arriving_start = record {
    moves = [];
    silent = refl;
    board = λ b h. ap (λ (x : Board). arrive_all old.clock (world_entries (drop old.next old.script.entries)) x) (untouched b h);
    listeners = refl;
    ports = λ before start f. subst (λ l. FollowsMoves account l start plugged) (sym (append-nil before)) f;
  }
    where
      untouched : (b : Board) → HasButtons old.clock old.buttons old.bus b → b ≡ acted_on old.bus old.buttons [] b
      untouched b h = same b old.bus.queue old.buttons.a_since old.buttons.b_since (b.unplugged ++ []) h.events h.button_a h.button_b (sym (append-nil b.unplugged))
        where
          same : (b : Board) (q : List _) (a c : Option ℕ) (u : List (ℕ × ℕ)) → b.queue ≡ q → b.a_since ≡ a → b.b_since ≡ c → b.unplugged ≡ u → b ≡ record b { queue = q; a_since = a; b_since = c; unplugged = u }
          same b q a c u p r s t = rw (sym p, sym r, sym s, sym t) refl

  pub arriving_more : (mid new : Engine) (plugged' plugged'' : Plugged B) (e : Entry) → Arriving mid plugged' → slice_get old.script.entries mid.next ≡ Some e → e.at ≡ old.clock
      → Applied account e.act old.clock mid.buttons new.buttons mid.bus new.bus plugged' plugged'' → new.next ≡ suc mid.next → Arriving new plugged''
  arriving_more mid new plugged' plugged'' e h get at applied next = record {
    moves = h.moves ++ unplugs_of e.act;
    silent = seen_of-append h.moves (unplugs_of e.act) ∙ rw (h.silent, unplugs_silent e.act) refl;
    board = λ b x.
        let y : Board = acted_on mid.bus mid.buttons h.moves b in
        let has : HasButtons old.clock mid.buttons mid.bus y = record { moment = x.moment; button_a = refl; button_b = refl; events = refl } in
        let now : (e.at == old.clock) ≡ true = grind (arith, nat_tests, at) in
        h.board b x
        ∙ ap (λ es. arrive_all old.clock (world_entries es) y) (drop_at old.script.entries mid.next e get)
        ∙ ap (λ t. if t then arrive_all old.clock (world_entries (drop (suc mid.next) old.script.entries)) (arrive (world_act e.act) y) else record y { script = world_entries (e ∷ drop (suc mid.next) old.script.entries) }) now
        ∙ ap (λ z. arrive_all old.clock (world_entries (drop (suc mid.next) old.script.entries)) z) (applied.board y has ∙ acted_twice mid.bus new.bus mid.buttons new.buttons h.moves (unplugs_of e.act) b h.silent)
        ∙ ap (λ k. arrive_all old.clock (world_entries (drop k old.script.entries)) (acted_on new.bus new.buttons (h.moves ++ unplugs_of e.act) b)) (sym next);
    listeners = applied.listeners ∙ h.listeners;
    ports = λ before start f. subst (λ l. FollowsMoves account l start plugged'') (append_assoc before (port_moves h.moves) (port_moves (unplugs_of e.act)) ∙ ap (λ l. before ++ l) (sym (port_moves-append h.moves (unplugs_of e.act))))
        (applied.ports (before ++ port_moves h.moves) start (h.ports before start f));
  }

  done : (mid : Engine) (plugged' : Plugged B) (h : Arriving mid plugged') → ((y : Board) → arrive_all old.clock (world_entries (drop mid.next old.script.entries)) y ≡ record y { script = world_entries (drop mid.next old.script.entries) })
      → Arrived account old mid plugged plugged'
  done mid plugged' h stays = record { moves = h.moves; silent = h.silent; board = λ b x. h.board b x ∙ stays (acted_on mid.bus mid.buttons h.moves b); listeners = h.listeners; ports = h.ports }

  pub arriving_none : (mid : Engine) (plugged' : Plugged B) → Arriving mid plugged' → slice_get old.script.entries mid.next ≡ None → Arrived account old mid plugged plugged'
  arriving_none mid plugged' h get = done mid plugged' h (λ y. (let e = drop_none old.script.entries mid.next get in
      ap (λ es. arrive_all old.clock (world_entries es) y) e ∙ ap (λ es. record y { script = world_entries es }) (sym e)))

  pub arriving_later : (mid : Engine) (plugged' : Plugged B) (e : Entry) → Arriving mid plugged' → slice_get old.script.entries mid.next ≡ Some e → e.at ≢ old.clock → Arrived account old mid plugged plugged'
  arriving_later mid plugged' e h get at = done mid plugged' h (λ y.
      let d = drop_at old.script.entries mid.next e get in
      let later : (e.at == old.clock) ≡ false = grind (arith, nat_tests, at) in
      ap (λ es. arrive_all old.clock (world_entries es) y) d
      ∙ ap (λ t. if t then arrive_all old.clock (world_entries (drop (suc mid.next) old.script.entries)) (arrive (world_act e.act) y) else record y { script = world_entries (e ∷ drop (suc mid.next) old.script.entries) }) later
      ∙ ap (λ es. record y { script = world_entries es }) (sym d))

  -- what the loop keeps
  abbrev pub Kept : ℕ → Engine → Plugged B → Type 0
  Kept count mid plugged' =
      Arriving mid plugged' × (mid ≡ record old { bus = mid.bus; buttons = mid.buttons; next = mid.next })
      × (old.next ≤ mid.next) × (mid.next ≤ length old.script.entries) × (length mid.bus.queue + 2 * old.next ≤ length old.bus.queue + 2 * mid.next) × (count ≡ length old.script.entries)

  pub kept_on : (count : ℕ) (mid : Engine) (plugged' plugged'' : Plugged B) (bus : BusState) (buttons : Since) (e : Entry) → Kept count mid plugged' → mid.next < count → Some e ≡ slice_get mid.script.entries mid.next → e.at ≡ mid.clock
      → Applied account e.act mid.clock mid.buttons buttons mid.bus bus plugged' plugged'' → length bus.queue ≤ length mid.bus.queue + 2 → Kept count (record mid { bus = bus; buttons = buttons; next = mid.next + 1 }) plugged''
  kept_on count mid plugged' plugged'' bus buttons e k l get at applied grows =
      let clock = ap (λ (x : Engine). x.clock) k.1 in
      let found : slice_get old.script.entries mid.next ≡ Some e = sym (get ∙ ap (λ (x : Engine). slice_get x.script.entries mid.next) k.1) in
      let new : Engine = record mid { bus = bus; buttons = buttons; next = mid.next + 1 } in
      let next : mid.next + 1 ≡ suc mid.next = omega arith in (
        arriving_more mid new plugged' plugged'' e k.0 found (at ∙ clock) (subst (λ t. Applied account e.act t mid.buttons buttons mid.bus bus plugged' plugged'') clock applied) next,
        ap (λ (x : Engine). record x { bus = bus; buttons = buttons; next = mid.next + 1 }) k.1,
        (let a = k.2 in omega (arith, a)),
        (let a = k.5 in omega (arith, a, l)),
        (let a = k.4 in omega (arith, a, grows)),
        k.5,
      )

pub next_is : (es : List Entry) (k : ℕ) (e : Entry) → slice_get es k ≡ Some e → next_entry (world_entries (drop k es)) ≡ Some e.at
next_is es k e get = ap (λ l. next_entry (world_entries l)) (drop_at es k e get)

strict : (a b : ℕ) → a ≤ b → (b ≡ a → ⊥) → a < b
strict a b l f = by_test (nat_lt a b) refl
  where
    by_test : (t : Bool) → nat_lt a b ≡ t → a < b
    by_test true e = grind (arith, nat_tests, e)
    by_test false e = absurd (f (let z : b ≤ a = grind (arith, nat_tests, e) in omega (arith, z, l)))

-- where the first entry is of this moment, it isn't left
pub none_left : (es : List Entry) (first last clock : ℕ) → first ≤ last → slice_get es last ≡ None → next_entry (world_entries (drop first es)) ≡ Some clock → first < last
none_left es first last clock l get now = strict first last l (λ e.
    let z : ◌≡◌ {A = Option ℕ} None (Some clock) = ap (λ l. next_entry (world_entries l)) (sym (drop_none es last get)) ∙ ap (λ k. next_entry (world_entries (drop k es))) e ∙ now in cc)

pub later_left : (es : List Entry) (first last clock : ℕ) (e : Entry) → first ≤ last → slice_get es last ≡ Some e → e.at ≢ clock → next_entry (world_entries (drop first es)) ≡ Some clock → first < last
later_left es first last clock e l get at now = strict first last l (λ i.
    let z : Some e.at ≡ Some clock = sym (next_is es last e get) ∙ ap (λ k. next_entry (world_entries (drop k es))) i ∙ now in
    let same : e.at ≡ clock = cc in at same)

pub past : (es : List Entry) (k : ℕ) → length es ≤ k → slice_get es k ≡ None
past [] zero l = refl
past [] (suc k) l = refl
past (e ∷ es) zero l = absurd (omega (arith, l))
past (e ∷ es) (suc k) l = past es k (omega (arith, l))

pub present : (old mid : List Entry) (k : ℕ) (e : Entry) → mid ≡ old → Some e ≡ slice_get mid k → slice_get old k ≡ Some e
present old mid k e same get = sym (get ∙ ap (λ es. slice_get es k) same)

pub sound_at : (es : List Entry) (k : ℕ) (e : Entry) → All (λ e. IsSoundAct (world_act e.act)) es → slice_get es k ≡ Some e → IsSoundAct (world_act e.act)
sound_at [] k e all get = absurd (cc)
sound_at (x ∷ es) zero e all get = (let is : x ≡ e = cc in subst (λ (y : Entry). IsSoundAct (world_act y.act)) is (all zero x (omega arith)))
sound_at (x ∷ es) (suc k) e all get = sound_at es k e (λ j d l. all (suc j) d (omega (arith, l))) get

pub in_range : (old mid : List Entry) (count k : ℕ) → mid ≡ old → count ≡ length old → k < count → None ≡ slice_get mid k → ⊥
in_range old mid count k same e l get = there old k (omega (arith, e, l)) (get ∙ ap (λ es. slice_get es k) same)
  where
    there : (es : List Entry) (k : ℕ) → k < length es → None ≡ slice_get es k → ⊥
    there [] k l g = omega (arith, l)
    there (x ∷ es) zero l g = (let z : ◌≡◌ {A = Option Entry} None (Some x) = g in cc)
    there (x ∷ es) (suc k) l g = there es k (omega (arith, l)) g
