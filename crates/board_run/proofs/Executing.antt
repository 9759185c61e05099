-- Instructions behind one another, with what the outside meets of them.
use Rattle.std.proofs.Common.{◌≡◌, ℕ, ◌+◌, ◌<◌, ◌≤◌, false, List, [], ◌∷◌, ◌++◌, length, All, Option, Some, None, IsSome, refl, sym, ap, ◌∙◌, subst, arith, append_assoc}
use Rattle.std.proofs.lemmas.List.{append-nil}
use Rattle.std.specs.Prelude.{Result, Ok, Err, OnErr}
use Rattle.std.specs.Option.{option_map}
use Rattle.sts_base.specs.Prefix.{IsPrefix}
use Rattle.board_world.specs.Limits.{end_limit}
use Rattle.board_world.specs.Observations.{ByteList, Observation}
use Rattle.board_world.specs.Transcript.{line, lines}
use Rattle.board_world.specs.Board.{over}
use Rattle.tool_io.specs.Putting.{Took, TookPart}
use Rattle.tool_io.proofs.Laws.{took-nothing, took-then}
use Rattle.board_ports.specs.Account.{Account}
use Rattle.board_ports.specs.Plugged.{Plugged}
use Rattle.board_ports.specs.History.{FollowsMoves}
use Rattle.board_outside.specs.declared.output.Output.{Output}
use Rattle.board_outside.specs.Moves.{Move, Seen, seen_of}
use Rattle.board_outside.specs.Outputs.{moves_of, IsSeen}
use Rattle.board_outside.specs.Ports.{port_moves}
use Rattle.board_outside.specs.Cuts.{TookInto}
use Rattle.board_outside.proofs.Laws.{seen_of-append, port_moves-append}
use Rattle.thumb_code.specs.Map.{flash_end}
use Rattle.event_script.specs.Sound.{IsSound}
use Rattle.board_run.specs.declared.end.Counts.{Counts}
use Rattle.board_run.specs.declared.end.Stop.{Stop}
use Rattle.board_run.specs.declared.engine.Engine.{Engine}
use Rattle.board_run.specs.Represents.{BoardState, Represents, IsShown, state_of, end_of}
use Rattle.board_run.specs.Run.{ComesTo, Comes, ComesThrough}
use Rattle.board_run.specs.Serving.{Steps}
use Rattle.board_run.specs.Outside.{OverSink, PortsMeet, Idles}
use Rattle.board_run.specs.Advancing.{led_lines, Way, of_run, ComesBy, Advances, Fails, IsWhole}
use Rattle.board_run.proofs.Course.{comes_shown, shown_reaches, stutters}
use Rattle.board_run.proofs.Further.{through_then, through_none, through_one}

-- one instruction of the running fiber, where the run isn't over
of_run_one : (image : List ℕ) (moves : List Move) (a b : BoardState) → a.plain.end ≡ None → IsSome a.runtime.running → ComesTo None image 1 moves a b → ComesBy of_run image 1 moves a b
of_run_one image moves a b going runs f bound is start n used met r =
    let x = through_one bound image moves a b going runs (subst (λ o. ComesTo o image 1 moves a b) (sym is) f) start n used met r in
    (x.0, x.1, λ rest j l h. (x.2 rest j l h).0)

-- lines with a lead, one behind the other, and without one
pub led_lines-append : (lead : ByteList) (xs ys : List Observation) → led_lines lead (xs ++ ys) ≡ led_lines lead xs ++ led_lines lead ys
led_lines-append lead [] ys = refl
led_lines-append lead (o ∷ xs) ys = ap (λ l. (lead ++ line o) ++ l) (led_lines-append lead xs ys) ∙ sym (append_assoc (lead ++ line o) (led_lines lead xs) (led_lines lead ys))

pub plain_lines : (os : List Observation) → led_lines [] os ≡ lines os
plain_lines [] = refl
plain_lines (o ∷ os) = ap (λ l. line o ++ l) (plain_lines os)

pub on_err : {T E : Type 0} {P : Type 0} (r : Result T E) → P → OnErr r P
on_err (Ok x) p = tt
on_err (Err x) p = p

pub none_yet : (o : Option Stop) → o ≡ None → option_map end_of o ≡ None
none_yet o e = ap (option_map end_of) e

module _ {B : Type 0} (account : B → Account) where
  pub ports_then : (ms ns : List Move) (p q r : Plugged B) → PortsMeet account ms p q → PortsMeet account ns q r → PortsMeet account (ms ++ ns) p r
  ports_then ms ns p q r f g before start h =
      subst (λ l. FollowsMoves account l start r) (append_assoc before (port_moves ms) (port_moves ns) ∙ ap (λ l. before ++ l) (sym (port_moves-append ms ns)))
      (g (before ++ port_moves ms) start (f before start h))

  pub into_then : {s t u : Option (List ℕ)} (x y next : List ℕ) → Took s t x → TookInto t u y next → TookInto s u (x ++ y) next
  into_then x y next p q = record {
    told = λ had e. (let r = q.told (had ++ x) (p.told had e) in (r.0, r.1, r.2 ∙ ap Some (append_assoc had x (y ++ r.0) ∙ ap (λ l. had ++ l) (sym (append_assoc x y r.0)))));
  }

  -- in any way
  module _ (way : Way) where
    abbrev pub advances_then : (n m : ℕ) (a b c : OverSink B) → Advances account way n a b → Advances account way m b c → Advances account way (m + n) a c
    advances_then n m a b c f g = record {
      moves = f.moves ++ g.moves;
      comes = λ image bound stops. through_then way.before bound image n m f.moves g.moves (state_of a.board.engine) (state_of b.board.engine) (state_of c.board.engine) (f.comes image bound stops) (g.comes image bound stops);
      ports = ports_then f.moves g.moves a.board.plugs b.board.plugs c.board.plugs f.ports g.ports;
      written = subst (λ l. Took a.taken c.taken l) (sym (led_lines-append way.lead (seen_of f.moves) (seen_of g.moves)) ∙ ap (led_lines way.lead) (sym (seen_of-append f.moves g.moves))) (took-then _ _ f.written g.written);
    }

    pub fails_then : (n most all : ℕ) (a b c : OverSink B) → Advances account way n a b → Fails account way most b c → most + n ≤ all → Fails account way all a c
    fails_then n most all a b c f g l = record {
      count = g.count + n;
      within = (let w = g.within in omega (arith, w, l));
      done = f.moves ++ g.done;
      last = g.last;
      at = g.at;
      comes = λ image bound stops. subst (λ ms. ComesThrough way.before bound image (g.count + n) ms (state_of a.board.engine) g.at) (sym (append_assoc f.moves g.done (Seen g.last ∷ [])))
          (through_then way.before bound image n g.count f.moves (g.done ++ Seen g.last ∷ []) (state_of a.board.engine) (state_of b.board.engine) g.at (f.comes image bound stops) (g.comes image bound stops));
      ports = ports_then f.moves g.done a.board.plugs b.board.plugs c.board.plugs f.ports g.ports;
      written = subst (λ l. TookInto a.taken c.taken l (way.lead ++ line g.last)) (sym (led_lines-append way.lead (seen_of f.moves) (seen_of g.done)) ∙ ap (led_lines way.lead) (sym (seen_of-append f.moves g.done)))
          (into_then (led_lines way.lead (seen_of f.moves)) (led_lines way.lead (seen_of g.done)) (way.lead ++ line g.last) f.written g.written);
    }

    -- nothing was done yet
    abbrev pub advances_none : (b : OverSink B) → Advances account way 0 b b
    advances_none b =
        let here = state_of b.board.engine in
        record {
          moves = [];
          comes = λ image bound stops. through_none way.before bound image [] here here (stutters image here here refl (λ w h. h) bound);
          ports = λ before start f. subst (λ ms. FollowsMoves account ms start b.board.plugs) (sym (append-nil before)) f;
          written = took-nothing b.taken;
        }

    -- an instruction whose line was cut
    pub fails_one : (a c : OverSink B) (b : Engine) (flash : List ℕ) (now : ℕ) (output : Output) → ((image : List ℕ) (ms : List Move) → moves_of flash now output ≡ ms → ComesBy way image 1 ms (state_of a.board.engine) (state_of b))
        → IsSeen flash now output → c.board.plugs ≡ a.board.plugs → TookPart a.taken c.taken (led_lines way.lead (seen_of (moves_of flash now output))) → Fails account way 1 a c
    fails_one a c b flash now output comes seen same part =
        let o = seen.0 in
        record {
          count = 1;
          within = omega arith;
          done = [];
          last = o;
          at = state_of b;
          comes = λ image. comes image (Seen o ∷ []) seen.1;
          ports = λ before start f. subst (λ ms. FollowsMoves account ms start c.board.plugs) (sym (append-nil before)) (subst (λ x. FollowsMoves account before start x) (sym same) f);
          written = record {
            told = λ had e.
                (let l : TookPart a.taken c.taken ((way.lead ++ line o) ++ []) = subst (λ ms. TookPart a.taken c.taken (led_lines way.lead (seen_of ms))) seen.1 part in
                let r = l.told had e in (r.0, subst (IsPrefix r.0) (append-nil (way.lead ++ line o)) r.1, r.2));
          };
        }

  -- idle moves show nothing
  pub advances_idle : (a b : OverSink B) → b.taken ≡ a.taken → Idles account (state_of a.board.engine) (state_of b.board.engine) a.board.plugs b.board.plugs → Advances account of_run 0 a b
  advances_idle a b same i = record {
    moves = i.moves;
    comes = λ image bound is. through_none (λ w. over w.board ≡ false) bound image i.moves (state_of a.board.engine) (state_of b.board.engine)
        (subst (λ o. ComesTo o image 0 i.moves (state_of a.board.engine) (state_of b.board.engine)) (sym is) (i.comes image));
    ports = i.ports;
    written = subst (λ t. Took a.taken t (led_lines [] (seen_of i.moves))) (sym same) (subst (λ l. Took a.taken a.taken l) (ap (led_lines []) (sym i.silent)) (took-nothing a.taken));
  }

  -- an instruction with its line and its words
  pub advances_one : (a b : OverSink B) (moves : List Move) → a.board.engine.end ≡ None → IsSome a.board.engine.runtime.running → ((image : List ℕ) → Comes image 1 moves (state_of a.board.engine) (state_of b.board.engine))
      → PortsMeet account moves a.board.plugs b.board.plugs → Took a.taken b.taken (lines (seen_of moves)) → Advances account of_run 1 a b
  advances_one a b moves going runs comes ports took = record {
    moves = moves;
    comes = λ image. of_run_one image moves (state_of a.board.engine) (state_of b.board.engine) (none_yet a.board.engine.end going) runs (comes image None);
    ports = ports;
    written = subst (Took a.taken b.taken) (sym (plain_lines (seen_of moves))) took;
  }

-- an instruction changes no flash
pub flash_kept : (n : ℕ) (more : List Move) (b c : BoardState) → IsShown b → ((image : List ℕ) → ComesTo None image n more b c) → c.runtime.machine.memory.flash ≡ b.runtime.machine.memory.flash
flash_kept n more b c s f = (let image = b.runtime.machine.memory.flash in let r = f image _ 0 [] [] (shown_reaches None image b s.world s.shows) in let h : Represents image c (r.1.at []) = r.1.shows [] in h.flash)

-- what a board rests on, behind idle moves
pub whole_idle : (n : ℕ) (a b : Engine) (moves : List Move) → IsWhole a n → ((image : List ℕ) → ComesTo None image 0 moves (state_of a) (state_of b)) → b.script ≡ a.script → b.next ≤ length a.script.entries → b.counts ≡ a.counts
    → (a.clock ≤ end_limit → b.clock ≤ end_limit) → IsWhole b n
whole_idle n a b moves w f script within counts early =
    let flash = flash_kept 0 moves (state_of a) (state_of b) w.shown f in
    record {
      shown = comes_shown 0 moves (state_of a) (state_of b) w.shown f;
      script = subst IsSound (sym script) w.script;
      within = subst (λ x. b.next ≤ length x.entries) (sym script) within;
      early = early w.early;
      size = subst (λ l. length l ≤ flash_end) (sym flash) w.size;
      bytes = subst (λ l. All (λ b. b < 256) l) (sym flash) w.bytes;
      spawned = (let y = w.spawned in let z = ap (λ (k : Counts). k.spawned) counts in omega (arith, y, z));
      blocked = (let y = w.blocked in let z = ap (λ (k : Counts). k.blocked) counts in omega (arith, y, z));
      words = (let y = w.words in let z = ap (λ (k : Counts). k.words) counts in omega (arith, y, z));
    }

-- what a board rests on, behind an instruction and the idle moves that follow
pub whole_after : (n : ℕ) (a b c : Engine) (first second : List Move) → IsWhole a n → Steps a b → ((image : List ℕ) → Comes image 1 first (state_of a) (state_of b)) → ((image : List ℕ) → ComesTo None image 0 second (state_of b) (state_of c))
    → c.script ≡ b.script → c.next ≤ length b.script.entries → c.counts ≡ b.counts → (b.clock ≤ end_limit → c.clock ≤ end_limit) → IsWhole c (n + 1)
whole_after n a b c first second w s f g script within counts early =
    let shown = comes_shown 1 first (state_of a) (state_of b) w.shown (λ image. f image None) in
    let flash = flash_kept 0 second (state_of b) (state_of c) shown g ∙ flash_kept 1 first (state_of a) (state_of b) w.shown (λ image. f image None) in
    record {
      shown = comes_shown 0 second (state_of b) (state_of c) shown g;
      script = subst IsSound (sym (script ∙ s.script)) w.script;
      within = subst (λ x. c.next ≤ length x.entries) (sym script) within;
      early = early (subst (λ t. t ≤ end_limit) (sym s.clock) w.early);
      size = subst (λ l. length l ≤ flash_end) (sym flash) w.size;
      bytes = subst (λ l. All (λ b. b < 256) l) (sym flash) w.bytes;
      spawned = (let x = s.spawned in let y = w.spawned in let z = ap (λ (k : Counts). k.spawned) counts in omega (arith, x, y, z));
      blocked = (let x = s.blocked in let y = w.blocked in let z = ap (λ (k : Counts). k.blocked) counts in omega (arith, x, y, z));
      words = (let x = s.words in let y = w.words in let z = ap (λ (k : Counts). k.words) counts in omega (arith, x, y, z));
    }

module _ {B : Type 0} (account : B → Account) (a mid : Engine) (output : Output) (shown : IsShown (state_of a))
    (comes : (image : List ℕ) → Comes image 1 (moves_of a.runtime.machine.memory.flash a.clock output) (state_of a) (state_of mid)) where
  pub same_flash : mid.runtime.machine.memory.flash ≡ a.runtime.machine.memory.flash
  same_flash = flash_kept 1 (moves_of a.runtime.machine.memory.flash a.clock output) (state_of a) (state_of mid) shown (λ image. comes image None)

  pub step_whole : (n : ℕ) (told new : Engine) (p q : Plugged B) → IsWhole a n → Steps a mid → told ≡ mid → Idles account (state_of told) (state_of new) p q
      → new.script ≡ told.script → new.next ≤ length told.script.entries → new.counts ≡ told.counts → (told.clock ≤ end_limit → new.clock ≤ end_limit) → IsWhole new (n + 1)
  step_whole n told new p q w s same idles script within counts early =
      let i : Idles account (state_of mid) (state_of new) p q = subst (λ (x : Engine). Idles account (state_of x) (state_of new) p q) same idles in
      whole_after n a mid new (moves_of a.runtime.machine.memory.flash a.clock output) i.moves w s comes i.comes
      (script ∙ ap (λ (x : Engine). x.script) same) (subst (λ (x : Engine). new.next ≤ length x.script.entries) same within) (counts ∙ ap (λ (x : Engine). x.counts) same)
      (subst (λ (x : Engine). x.clock ≤ end_limit → new.clock ≤ end_limit) same early)

  pub step_shown : (told : Engine) → told ≡ mid → IsShown (state_of told)
  step_shown told same = subst (λ (x : Engine). IsShown (state_of x)) (sym same) (comes_shown 1 (moves_of a.runtime.machine.memory.flash a.clock output) (state_of a) (state_of mid) shown (λ image. comes image None))

module _ {B : Type 0} (account : B → Account) (old : OverSink B) (mid : Engine) (output : Output) (shown : IsShown (state_of old.board.engine))
    (comes : (image : List ℕ) → Comes image 1 (moves_of old.board.engine.runtime.machine.memory.flash old.board.engine.clock output) (state_of old.board.engine) (state_of mid)) where
  abbrev a : Engine
  a = old.board.engine

  flash_same : mid.runtime.machine.memory.flash ≡ a.runtime.machine.memory.flash
  flash_same = same_flash account a mid output shown comes

  -- a whole step: an instruction, its line, its words, and the idle moves behind it
  pub step_goes : (told : Engine) (q : Plugged B) (new : OverSink B) → a.end ≡ None → IsSome a.runtime.running → told ≡ mid
      → PortsMeet account (moves_of mid.runtime.machine.memory.flash a.clock output) old.board.plugs q → Took old.taken new.taken (lines (seen_of (moves_of mid.runtime.machine.memory.flash a.clock output)))
      → Idles account (state_of told) (state_of new.board.engine) q new.board.plugs → Advances account of_run 1 old new
  step_goes told q new going runs same ports took idles =
      let there : OverSink B = record { board = record old.board { engine = mid; plugs = q }; taken = new.taken; faults = new.faults } in
      let one = advances_one account old there (moves_of a.runtime.machine.memory.flash a.clock output) going runs comes
      (subst (λ f. PortsMeet account (moves_of f a.clock output) old.board.plugs q) flash_same ports)
      (subst (λ f. Took old.taken new.taken (lines (seen_of (moves_of f a.clock output)))) flash_same took) in
      let rest = advances_idle account there new refl (subst (λ (x : Engine). Idles account (state_of x) (state_of new.board.engine) q new.board.plugs) same idles) in
      advances_then account of_run 1 0 old there new one rest

  pub step_fails : (new : OverSink B) → a.end ≡ None → IsSome a.runtime.running → IsSeen mid.runtime.machine.memory.flash a.clock output → new.board.plugs ≡ old.board.plugs
      → TookPart old.taken new.taken (lines (seen_of (moves_of mid.runtime.machine.memory.flash a.clock output))) → Fails account of_run 1 old new
  step_fails new going runs seen same part =
      let flash = a.runtime.machine.memory.flash in
      fails_one account of_run old new mid flash a.clock output
      (λ image ms is. of_run_one image ms (state_of a) (state_of mid) (none_yet a.end going) runs (subst (λ ns. ComesTo None image 1 ns (state_of a) (state_of mid)) is (comes image None)))
      (subst (λ f. IsSeen f a.clock output) flash_same seen) same
      (subst (TookPart old.taken new.taken) (sym (plain_lines (seen_of (moves_of flash a.clock output)))) (subst (λ f. TookPart old.taken new.taken (lines (seen_of (moves_of f a.clock output)))) flash_same part))
