use Rattle.std.proofs.Common.{◌≡◌, ◌∙◌, ◌==◌, sym, ap, ℕ}
use Rattle.serde_json.specs.View.{members_view}
use Rattle.event_script.specs.Trees.{is_count, count_of}
use Rattle.event_script.proofs.Counting.{counted}
use Rattle.event_script.proofs.trees.has_members.Goals as goal

pub returns-in-Some : goal.returns-in-Some
returns-in-Some c =
    let many : c.len.result ≡ count_of (members_view c.in-Some.members.now.entries) = c.len.ensures.len ∙ sym (counted c.in-Some.members.now.entries) in
    ap (λ (n : ℕ). n == c.args.count) many ∙ ap (is_count c.args.count) c.in-Some.ensures
