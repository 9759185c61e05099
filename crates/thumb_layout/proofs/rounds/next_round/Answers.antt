use Rattle.std.proofs.Common.{◌≡◌, ◌<◌, ◌+◌, ◌∷◌, ◌++◌, [], cond, true, length, get_or, arith, rules, ap, ◌∙◌}
use Rattle.std.proofs.lemmas.Grind.{common_steps}
use Rattle.thumb_layout.specs.declared.pieces.Piece.TheVariants.{Label}
use Rattle.thumb_layout.specs.Layout.{chunks, label_at}
use Rattle.thumb_layout.proofs.Growing.{places_long, target_bound, target_at, fits_at, pass_length, round_step}
use Rattle.thumb_layout.proofs.rounds.next_round.Goals as goal
use Rattle.thumb_layout.proofs.rounds.next_round.Goals.{then-not-fits, else-not-fits, then-fits, else-fits}

pub bounds-places-index : goal.bounds-places-index
bounds-places-index c = let l = places_long c.args.pieces.now c.args.forms.now c.args.places.now c.requires.places in omega arith

pub bounds-places-targets : goal.bounds-places-targets
bounds-places-targets c = target_bound c.args.pieces.now c.args.forms.now c.args.places.now c.args.targets.now c.loop-index.index (Label 0) c.requires.places c.requires.targets (omega arith)

pub offset_bounds-places-targets : goal.offset_bounds-places-targets
offset_bounds-places-targets c =
    let b : get_or c.args.targets.now c.loop-index.index 0 < length c.args.places.now =
    target_bound c.args.pieces.now c.args.forms.now c.args.places.now c.args.targets.now c.loop-index.index (Label 0) c.requires.places c.requires.targets (omega arith) in
    search rules

pub loop-index-preserved : goal.loop-index-preserved
loop-index-preserved c =
    let xs = c.args.pieces.now in
    let fs = c.args.forms.now in
    let cs = chunks xs fs in
    let i = c.loop-index.index in
    let out = c.loop-index.longer.items in
    let b = c.fits-fits.result in
    let f = get_or fs i 0 in
    let pushed : c.push.new.self.items ≡ out ++ cond b f (f + 1) ∷ [] = elim c.if-fits.branch [ then-fits w ↦ grind (arith, common_steps) | else-fits w ↦ grind (arith, common_steps) ] in
    let grown : c.if-not-fits.grown ≡ cond b c.loop-index.grown true = elim c.if-not-fits.branch [ then-not-fits w ↦ grind (arith, common_steps) | else-not-fits w ↦ grind (arith, common_steps) ] in
    round_step (label_at xs cs) xs cs fs i out c.loop-index.grown _ (omega arith) c.requires.proper.as_long (pass_length xs fs [] 0) c.loop-index.invariant b
    (c.fits-fits.ensures ∙ fits_at xs cs i _ f _ _ c.args.places.now c.args.targets.now c.requires.places (pass_length xs fs [] 0) (omega arith) (ap (λ q. get_or q i 0) c.requires.targets ∙ target_at xs i _ (omega arith)))
    c.push.new.self.items c.if-not-fits.grown pushed grown
