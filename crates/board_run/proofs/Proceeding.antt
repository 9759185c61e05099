-- Instructions one behind the other while the clock stands.
use Rattle.std.proofs.Common.{◌≡◌, ℕ, ◌+◌, ◌≤◌, ℤ, List, [], ◌∷◌, ◌++◌, length, nat_lt, if◌then◌else◌, None, IsSome, refl, sym, ap, ◌∙◌, subst, arith, append_assoc}
use Rattle.std.proofs.lemmas.List.{append-nil}
use Rattle.sts_base.specs.Prefix.{IsPrefix}
use Rattle.board_world.specs.Limits.{end_limit}
use Rattle.board_world.specs.Observations.{ByteList, Observation, Show, Serial, Pin, Radio}
use Rattle.board_world.specs.Transcript.{line}
use Rattle.tool_io.specs.Putting.{Took, TookPart}
use Rattle.tool_io.proofs.Laws.{took-then, took-nothing}
use Rattle.board_ports.specs.Account.{Account}
use Rattle.board_ports.specs.History.{FollowsMoves}
use Rattle.board_outside.specs.declared.output.Output.{Output}
use Rattle.board_outside.specs.Moves.{Seen, seen_of}
use Rattle.board_outside.specs.Outputs.{moves_of, IsSeen}
use Rattle.board_outside.specs.Cuts.{TookInto}
use Rattle.board_outside.proofs.Laws.{seen_of-append}
use Rattle.board_run.specs.declared.engine.Engine.{Engine}
use Rattle.board_run.specs.Represents.{IsShown, state_of}
use Rattle.board_run.specs.Run.{Comes, ComesTo}
use Rattle.board_run.specs.Serving.{Steps}
use Rattle.board_run.specs.Advancing.{IsWhole, led_lines, Fails, first_sent, Proceeds, Stands, IsBusy, of_moment}
use Rattle.board_run.specs.Outside.{PortsMeet, OverSink}
use Rattle.board_run.specs.declared.board.Board.{Board}
use Rattle.board_run.proofs.Course.{comes_then}
use Rattle.board_run.proofs.Further.{through_one}
use Rattle.board_run.proofs.Executing.{none_yet, same_flash, advances_none, advances_then, fails_one, whole_after}

-- numbers of what was seen, one behind the other
pub first_sent-append : (numbers : List ℤ) (xs ys : List Observation) → first_sent numbers (xs ++ ys) ≡ first_sent (first_sent numbers xs) ys
first_sent-append numbers [] ys = refl
first_sent-append numbers (Show at frame ∷ xs) ys = first_sent-append numbers xs ys
first_sent-append numbers (Serial at bytes ∷ xs) ys = first_sent-append numbers xs ys
first_sent-append numbers (Pin at pin level ∷ xs) ys = first_sent-append numbers xs ys
first_sent-append numbers (Radio at number ∷ xs) ys = first_sent-append (if nat_lt (length numbers) 32 then numbers ++ number ∷ [] else numbers) xs ys

module _ {B : Type 0} where
  pub stands_none : (b : Board B) → Stands b b
  stands_none b = record { kept = refl; clock = refl; script = refl; next = refl }

  pub stands_then : (a b c : Board B) → Stands a b → Stands b c → Stands a c
  stands_then a b c f g = record { kept = g.kept ∙ f.kept; clock = g.clock ∙ f.clock; script = g.script ∙ f.script; next = g.next ∙ f.next }

  pub step_stands : (old new : Board B) (mid told : Engine) → Steps old.engine mid → told ≡ mid → new.engine ≡ record told { runtime = new.engine.runtime; switch = new.engine.switch; bus = new.engine.bus; places = new.engine.places } → new.kept ≡ old.kept
      → Stands old new
  step_stands old new mid told s same stays kept = record {
    kept = kept;
    clock = ap (λ (x : Engine). x.clock) stays ∙ ap (λ (x : Engine). x.clock) same ∙ s.clock;
    script = ap (λ (x : Engine). x.script) stays ∙ ap (λ (x : Engine). x.script) same ∙ s.script;
    next = ap (λ (x : Engine). x.next) stays ∙ ap (λ (x : Engine). x.next) same ∙ s.next;
  }

module _ {B : Type 0} (account : B → Account) (lead : ByteList) where
  pub proceeds_none : (b : OverSink B) → Proceeds account lead 0 b b
  proceeds_none b = record { advances = advances_none account (of_moment lead) b; sent = refl }

  pub proceeds_then : (n m : ℕ) (a b c : OverSink B) → Proceeds account lead n a b → Proceeds account lead m b c → Proceeds account lead (m + n) a c
  proceeds_then n m a b c f g =
      let first = f.advances.moves in
      let second = g.advances.moves in
      record {
        advances = advances_then account (of_moment lead) n m a b c f.advances g.advances;
        sent = g.sent ∙ ap (λ ns. first_sent ns (seen_of second)) f.sent ∙ sym (first_sent-append a.board.sent (seen_of first) (seen_of second)) ∙ ap (first_sent a.board.sent) (sym (seen_of-append first second));
      }

  module _ (old : OverSink B) (mid : Engine) (output : Output) (shown : IsShown (state_of old.board.engine))
      (comes : (image : List ℕ) → Comes image 1 (moves_of old.board.engine.runtime.machine.memory.flash old.board.engine.clock output) (state_of old.board.engine) (state_of mid)) where
    abbrev a : Engine
    a = old.board.engine

    flash_same : mid.runtime.machine.memory.flash ≡ a.runtime.machine.memory.flash
    flash_same = same_flash account a mid output shown comes

    -- an instruction, its line, its words, and what follows while the clock stands
    pub step_proceeds : (told : Engine) (new : OverSink B) → a.end ≡ None → IsSome a.runtime.running → told ≡ mid
        → PortsMeet account (moves_of mid.runtime.machine.memory.flash a.clock output) old.board.plugs new.board.plugs
        → Took old.taken new.taken (led_lines lead (seen_of (moves_of mid.runtime.machine.memory.flash a.clock output)))
        → ((flash : List ℕ) (now : ℕ) → new.board.sent ≡ first_sent old.board.sent (seen_of (moves_of flash now output)))
        → ((image : List ℕ) → Comes image 0 [] (state_of told) (state_of new.board.engine)) → Proceeds account lead 1 old new
    step_proceeds told new going runs same ports took sent stay =
        let moves = moves_of a.runtime.machine.memory.flash a.clock output in
        let count : 0 + 1 ≡ 1 = omega arith in
        record {
          advances = record {
            moves = moves;
            comes = λ image bound stops. through_one bound image moves (state_of a) (state_of new.board.engine) (none_yet a.end going) runs (subst (λ k. ComesTo bound image k moves (state_of a) (state_of new.board.engine)) count
                (subst (λ ms. ComesTo bound image (0 + 1) ms (state_of a) (state_of new.board.engine)) (append-nil moves)
                (comes_then bound image 1 0 moves [] (state_of a) (state_of mid) (state_of new.board.engine) (comes image bound) (subst (λ (x : Engine). ComesTo bound image 0 [] (state_of x) (state_of new.board.engine)) same (stay image bound)))));
            ports = subst (λ f. PortsMeet account (moves_of f a.clock output) old.board.plugs new.board.plugs) flash_same ports;
            written = subst (λ f. Took old.taken new.taken (led_lines lead (seen_of (moves_of f a.clock output)))) flash_same took;
          };
          sent = sent a.runtime.machine.memory.flash a.clock;
        }

    pub step_stops : (new : OverSink B) → a.end ≡ None → IsSome a.runtime.running → IsSeen mid.runtime.machine.memory.flash a.clock output → new.board.plugs ≡ old.board.plugs
        → TookPart old.taken new.taken (led_lines lead (seen_of (moves_of mid.runtime.machine.memory.flash a.clock output))) → Fails account (of_moment lead) 1 old new
    step_stops new going runs seen same part =
        fails_one account (of_moment lead) old new mid a.runtime.machine.memory.flash a.clock output
        (λ image ms is bound stops. through_one bound image ms (state_of a) (state_of mid) (none_yet a.end going) runs (subst (λ ns. ComesTo bound image 1 ns (state_of a) (state_of mid)) is (comes image bound)))
        (subst (λ f. IsSeen f a.clock output) flash_same seen) same (subst (λ f. TookPart old.taken new.taken (led_lines lead (seen_of (moves_of f a.clock output)))) flash_same part)

    pub step_stays_whole : (n : ℕ) (told new : Engine) → IsWhole a n → Steps a mid → told ≡ mid → ((image : List ℕ) → Comes image 0 [] (state_of told) (state_of new))
        → new ≡ record told { runtime = new.runtime; switch = new.switch; bus = new.bus; places = new.places } → IsWhole new (n + 1)
    step_stays_whole n told new w s same stay stays =
        let within : new.next ≤ length told.script.entries =
        subst (λ (x : Engine). x.next ≤ length told.script.entries) (sym stays) (subst (λ (x : Engine). x.next ≤ length x.script.entries) (sym same)
        (subst (λ k. k ≤ length mid.script.entries) (sym s.next) (subst (λ x. a.next ≤ length x.entries) (sym s.script) w.within))) in
        whole_after n a mid new (moves_of a.runtime.machine.memory.flash a.clock output) [] w s comes (λ image. subst (λ (x : Engine). ComesTo None image 0 [] (state_of x) (state_of new)) same (stay image None))
        (ap (λ (x : Engine). x.script) stays ∙ ap (λ (x : Engine). x.script) same) (subst (λ (x : Engine). new.next ≤ length x.script.entries) same within)
        (ap (λ (x : Engine). x.counts) stays ∙ ap (λ (x : Engine). x.counts) same) (λ l. subst (λ (x : Engine). x.clock ≤ end_limit) (sym (stays)) (subst (λ (x : Engine). x.clock ≤ end_limit) (sym same) l))
