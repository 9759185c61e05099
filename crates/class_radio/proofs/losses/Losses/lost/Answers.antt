use Rattle.std.proofs.Common.{◌<◌, ◌≤◌, inl, inr, ◌∙◌, ap, sym, subst, arith, ℕ, List}
use Rattle.std.specs.List.Sorted.{IsBinarySearchResult}
use Rattle.std.specs.Ordering.{nat_cmp}
use Rattle.class_radio.specs.Losses.{lost_by}
use Rattle.class_radio.specs.Index.{loss_key}
use Rattle.class_radio.proofs.Indexing.{found_in}
use Rattle.class_radio.proofs.losses.Losses.lost.Goals as goal

pub returns-then-from-gt4294967295 : goal.returns-then-from-gt4294967295
returns-then-from-gt4294967295 c =
    (let past : 4294967296 ≤ c.args.from = (let l = c.if-from-gt4294967295.true in omega (arith, l)) in
    sym (ap (λ ls. lost_by ls c.args.at c.args.from c.args.to) (sym c.self.view_is) ∙ c.self.invariant.has.below c.args.at c.args.from c.args.to (inl past)))

pub returns-then-to-gt4294967295 : goal.returns-then-to-gt4294967295
returns-then-to-gt4294967295 c =
    (let past : 4294967296 ≤ c.args.to = (let l = c.if-to-gt4294967295.true in omega (arith, l)) in
    sym (ap (λ ls. lost_by ls c.args.at c.args.from c.args.to) (sym c.self.view_is) ∙ c.self.invariant.has.below c.args.at c.args.from c.args.to (inr past)))

pub returns : goal.returns
returns c =
    (let inside = c.self.inside in
    let from : c.args.from < 4294967296 = (let l = c.if-from-gt4294967295.false in omega (arith, l)) in
    let to : c.args.to < 4294967296 = (let l = c.if-to-gt4294967295.false in omega (arith, l)) in
    let found : IsBinarySearchResult (λ y. nat_cmp y (loss_key c.args.at c.args.from c.args.to)) inside.keys.items c.binary_search.result =
    subst (λ (xs : List ℕ). IsBinarySearchResult (λ y. nat_cmp y (loss_key c.args.at c.args.from c.args.to)) xs c.binary_search.result) c.as_slice-keys.ensures.value
    (subst (λ (k : ℕ). IsBinarySearchResult (λ y. nat_cmp y k) c.as_slice-keys.result.now c.binary_search.result) c.key.ensures c.binary_search.ensures.position) in
    c.is_ok.ensures.value
    ∙ found_in inside.list inside.keys.items c.self.invariant c.args.at c.args.from c.args.to c.ranges.at.fits from to c.binary_search.result found
    ∙ ap (λ ls. lost_by ls c.args.at c.args.from c.args.to) c.self.view_is)
