-- A run of an image that implements a program reaches the program's source.
use Rattle.std.proofs.Common.{◌≡◌, ℕ, zero, suc, ◌+◌, ◌*◌, ◌<◌, ◌≤◌, inl, inr, Bool, true, false, List, [], refl, sym, ap, subst, ◌∙◌, arith}
use Rattle.std.specs.Prelude.{◌⊎◌}
use Rattle.std.proofs.lemmas.Bool.{cases_lt}
use Rattle.board_world.specs.Observations.{ByteList}
use Rattle.board_world.specs.Board.{over}
use Rattle.board_world.specs.Activities.{World}
use Rattle.board_world.proofs.Laws.{PlainlyKept}
use Rattle.board_world.specs.Implements.{EndsByNoFault}
use Rattle.board_outside.specs.Moves.{Move, HasMet}
use Rattle.board_outside.proofs.Laws.{goes_on_meeting}
use Rattle.sts_syntax.specs.TypedTrees.{TypedProgram}
use Rattle.sts_meaning.specs.Steps.{source, source_start}
use Rattle.bank_model.specs.Fibers.{Fiber, Shared}
use Rattle.sts_implements.specs.Images.{instructions_of_a_step, ImageImplements}
use Rattle.sts_implements.proofs.Laws.{plainly, plain_faultless}
use Rattle.event_script.specs.World.{world_entries}
use Rattle.event_script.specs.declared.script.Script.{Script}
use Rattle.board_run.specs.Ran.{world_after, IsExecuted}
use Rattle.sts_whole.specs.Programs.{source_after, ImageReaches, Met}

-- the least number of instructions after which a run is over, or the budget
next_executed : (at : ℕ → World Fiber Shared) (b n : ℕ) → IsExecuted at b n → (is : Bool) → over (at n).board ≡ is → (m : ℕ) × IsExecuted at (suc b) m
next_executed at b n e true is = (n, record { within = omega (arith, e.within); not_before = e.not_before; done = inr is })
next_executed at b n e false is = whole e.done
  where
    whole : (n ≡ b) ⊎ (over (at n).board ≡ true) → (m : ℕ) × IsExecuted at (suc b) m
    whole (inl same) = (
      suc b,
      record {
        within = omega arith;
        not_before = λ k l. elim (cases_lt k n) [ inl less ↦ e.not_before k less | inr more ↦ subst (λ i. over (at i).board ≡ false) (let s : n ≡ k = omega arith in s) is ];
        done = inl refl;
      },
    )
    whole (inr end) = absurd (let c : false ≡ true = sym is ∙ end in cc)

pub least_executed : (at : ℕ → World Fiber Shared) (budget : ℕ) → (n : ℕ) × IsExecuted at budget n
least_executed at zero = (zero, record { within = omega arith; not_before = λ n l. absurd (omega arith); done = inl refl })
least_executed at (suc b) = (let r = least_executed at b in next_executed at b r.0 r.1 (over (at r.0).board) refl)

module _ (P : TypedProgram) (texts : List ByteList) (image : List ℕ) (implements : ImageImplements P texts image) (script : Script) (free : List ℕ) where
  abbrev kept : (m : ℕ) → PlainlyKept instructions_of_a_step (λ s. (source_after P texts script s).board) (λ n. (world_after image script free n).board) m
  kept m = plainly P texts image implements script.end (world_entries script.entries) free m

  pub faultless : (n : ℕ) → EndsByNoFault (world_after image script free n).board.end
  faultless n = plain_faultless P texts image implements script.end (world_entries script.entries) free n

  -- enough steps are made where the source hasn't ended
  enough : (budget executed n : ℕ) → IsExecuted (world_after image script free) budget executed → instructions_of_a_step * n ≤ budget
      → (is : Bool) → over (world_after image script free executed).board ≡ is → (n ≤ (kept executed).steps) ⊎ (over (source_after P texts script (kept executed).steps).board ≡ true)
  enough budget executed n e l true is = inr (ap over (kept executed).board ∙ is)
  enough budget executed n e l false is = goes e.done
    where
      goes : (executed ≡ budget) ⊎ (over (world_after image script free executed).board ≡ true) → (n ≤ (kept executed).steps) ⊎ (over (source_after P texts script (kept executed).steps).board ≡ true)
      goes (inl whole) =
          let below : executed < instructions_of_a_step * ((kept executed).steps + 1) = (kept executed).at_least is in
          inl (omega arith)
      goes (inr end) = absurd (let c : false ≡ true = sym is ∙ end in cc)

  pub reaches : (budget executed : ℕ) → IsExecuted (world_after image script free) budget executed → (steps : ℕ) × ImageReaches P texts image script budget free executed steps
  reaches budget executed e = (
    (kept executed).steps,
    record {
      is_executed = e;
      board = (kept executed).board;
      at_most = omega (arith, (kept executed).at_most, e.within);
      at_least = λ n l. enough budget executed n e l (over (world_after image script free executed).board) refl;
    },
  )

  -- what a source has met
  meets : (steps : ℕ) → (moves : List Move) × HasMet moves (source_after P texts script steps).board
  meets steps =
      let nothing : HasMet [] (source_start P texts script.end (world_entries script.entries)).board = record { seen = refl; unplugged = refl } in
      let r = goes_on_meeting (source P texts) [] steps (source_start P texts script.end (world_entries script.entries)) nothing in
      (r.0, r.1)

  pub run_exists : (budget : ℕ) → Met P texts image script budget free
  run_exists budget =
      let e = least_executed (world_after image script free) budget in
      let r = reaches budget e.0 e.1 in
      let m = meets r.0 in
      record { executed = e.0; steps = r.0; reaches = r.1; moves = m.0; met = m.1 }
