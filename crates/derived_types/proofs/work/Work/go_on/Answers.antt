use Rattle.std.proofs.Common.{◌≡◌, ◌⊎◌, inr, ◌++◌, ◌∷◌, []}
use Rattle.derived_types.proofs.Working.{on_ok, nothing_more}
use Rattle.derived_types.proofs.work.Work.go_on.Goals as goal

pub returns-in-None-clause-one : goal.returns-in-None-clause-one
returns-in-None-clause-one c =
    let new = c.ask_next.new.self.pending.items in
    let old = c.args.self.now.pending.items in
    let next = c.args.self.now.next in
    on_ok c.ask_next.result (λ (one : (new ≡ old ++ next ∷ []) ⊎ (new ≡ old)) d h. inr (nothing_more new old next d c.requires.none one h)) c.ask_next.ensures.one
