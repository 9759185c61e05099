use Rattle.std.proofs.Common.{ap, ◌∙◌, List, ℕ, subst, ◌≤◌}
use Rattle.message_bus.specs.Numbers.{numbers}
use Rattle.message_bus.proofs.Laws.{numbers-bits}
use Rattle.board_run.specs.Shown.{PendingDispatch}
use Rattle.board_run.proofs.place.place_for.Goals as goal

place_with : goal.After-new → List ℕ → PendingDispatch
place_with c l = record { event = c.args.event; left = l }

pub returns-clause-place : goal.returns-clause-place
unfolding place_with
returns-clause-place c =
    c.new.ensures ∙ ap (λ n. place_with c (numbers 32 0 n)) c.dispatch-bits.ensures.bits
    ∙ ap (place_with c) (numbers-bits c.args.event 32 0 c.args.bus.now.listeners (subst (λ n. n ≤ 32) c.count.ensures.count c.count.ensures.most))
