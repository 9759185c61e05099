-- Idle moves, one behind the other.
use Rattle.std.proofs.Common.{◌≡◌, ℕ, ◌≤◌, List, [], ◌++◌, length, None, refl, sym, ap, ◌∙◌, subst, append_assoc}
use Rattle.board_world.specs.Limits.{end_limit}
use Rattle.board_ports.specs.Account.{Account}
use Rattle.board_ports.specs.Plugged.{Plugged}
use Rattle.board_ports.specs.History.{FollowsMoves}
use Rattle.board_run.specs.declared.engine.Engine.{Engine}
use Rattle.board_run.specs.Represents.{BoardState, IsShown, state_of}
use Rattle.board_run.specs.Run.{Comes}
use Rattle.board_outside.specs.Ports.{port_moves}
use Rattle.board_run.specs.Outside.{Idles}
use Rattle.board_outside.proofs.Laws.{port_moves-append, seen_of-append}
use Rattle.board_run.proofs.ClockMoves.{still_idles}
use Rattle.board_run.proofs.Course.{comes_then, comes_shown, stutters}

module _ {B : Type 0} (account : B → Account) where
  then_idles : (a b c : BoardState) (p q r : Plugged B) → Idles account a b p q → Idles account b c q r → Idles account a c p r
  then_idles a b c p q r x y = record {
    moves = x.moves ++ y.moves;
    silent = seen_of-append x.moves y.moves ∙ rw (x.silent, y.silent) refl;
    comes = λ image. comes_then None image 0 0 x.moves y.moves a b c (x.comes image) (y.comes image);
    ports = λ before start f. subst (λ l. FollowsMoves account l start r) (append_assoc before (port_moves x.moves) (port_moves y.moves) ∙ ap (λ l. before ++ l) (sym (port_moves-append x.moves y.moves)))
        (y.ports (before ++ port_moves x.moves) start (x.ports before start f));
  }

  shown_still : (a b : BoardState) (p q : Plugged B) → Idles account a b p q → IsShown a → IsShown b
  shown_still a b p q x s = comes_shown 0 x.moves a b s x.comes

  -- what the loop keeps
  pub record Settling (old new : Engine) (p q : Plugged B) : Type 0 where
    pub idles : Idles account (state_of old) (state_of new) p q
    pub shown : IsShown (state_of new)
    pub script : new.script ≡ old.script
    pub within : new.next ≤ length old.script.entries
    pub counts : new.counts ≡ old.counts
    pub early : old.clock ≤ end_limit → new.clock ≤ end_limit

  pub settling_start : (e : Engine) (p : Plugged B) → IsShown (state_of e) → e.next ≤ length e.script.entries → Settling e e p p
  settling_start e p s l = record { idles = still_idles account (state_of e) (state_of e) p (λ image. stutters image (state_of e) (state_of e) refl (λ w h. h)); shown = s; script = refl; within = l; counts = refl; early = λ x. x }

  -- somebody begins
  pub settling_begun : (old mid new : Engine) (p q : Plugged B) → Settling old mid p q → ((image : List ℕ) → Comes image 0 [] (state_of mid) (state_of new)) → new ≡ record mid { runtime = new.runtime; switch = new.switch; places = new.places } → Settling old new p q
  settling_begun old mid new p q s comes stays =
      let one = still_idles account (state_of mid) (state_of new) q comes in
      record {
        idles = then_idles (state_of old) (state_of mid) (state_of new) p q q s.idles one;
        shown = shown_still (state_of mid) (state_of new) q q one s.shown;
        script = ap (λ (x : Engine). x.script) stays ∙ s.script;
        within = subst (λ (x : Engine). x.next ≤ length old.script.entries) (sym stays) s.within;
        counts = ap (λ (x : Engine). x.counts) stays ∙ s.counts;
        early = λ l. subst (λ (x : Engine). x.clock ≤ end_limit) (sym stays) (s.early l);
      }

  -- an idle move
  pub settling_idle : (old mid new : Engine) (p q r : Plugged B) → Settling old mid p q → Idles account (state_of mid) (state_of new) q r → new.script ≡ mid.script → new.next ≤ length mid.script.entries → new.counts ≡ mid.counts → (mid.clock ≤ end_limit → new.clock ≤ end_limit) → Settling old new p r
  settling_idle old mid new p q r s one script within counts early = record {
    idles = then_idles (state_of old) (state_of mid) (state_of new) p q r s.idles one;
    shown = shown_still (state_of mid) (state_of new) q r one s.shown;
    script = script ∙ s.script;
    within = subst (λ k. new.next ≤ k) (ap (λ x. length x.entries) s.script) within;
    counts = counts ∙ s.counts;
    early = λ l. early (s.early l);
  }
