use Rattle.std.proofs.Common.{ℕ, ◌<◌, List, length, sym, subst}
use Rattle.std.specs.List.{AllByRecursion}
use Rattle.flat_ir.specs.declared.ops.Op.{Op}
use Rattle.register_assign.specs.Sound.{ArePlacesSound}
use Rattle.register_assign.specs.Checks.{IsShapeSound, IsTemporarySound, ReadsNoStranger}
use Rattle.register_assign.proofs.Checking.{refuted, ended, shape_of, temporaries_of, strangers_of, sound_from}
use Rattle.register_assign.proofs.checks.are_sound.Goals as goal

pub returns-then-not-is_shape_sound : goal.returns-then-not-is_shape_sound
returns-then-not-is_shape_sound c =
    let f = c.args.function.now in
    let places = c.args.places.now in
    refuted c.is_shape_sound.result (IsShapeSound f places) (ArePlacesSound f places) c.is_shape_sound.ensures c.if-not-is_shape_sound.true (shape_of f places)

pub returns-then-not-branch : goal.returns-then-not-branch
returns-then-not-branch c =
    let f = c.args.function.now in
    let places = c.args.places.now in
    refuted c.in_ok-are_temporaries_sound.field-0 ((u : ℕ) → u < length places → IsTemporarySound f places u) (ArePlacesSound f places) c.in_ok-are_temporaries_sound.ensures c.if-not-branch.true (temporaries_of f places)

pub returns : goal.returns
returns c =
    let f = c.args.function.now in
    let places = c.args.places.now in
    let ops = c.as_slice.result.now in
    ended c.read_no_stranger.result (AllByRecursion (ReadsNoStranger (length places) ops) ops) (ArePlacesSound f places) c.read_no_stranger.ensures
    (λ a. sound_from f places (c.is_shape_sound.ensures.0 c.if-not-is_shape_sound.false) (c.in_ok-are_temporaries_sound.ensures.0 c.if-not-branch.false) (subst (λ (q : List Op). AllByRecursion (ReadsNoStranger (length places) q) q) c.as_slice.ensures a))
    (λ s. subst (λ (q : List Op). AllByRecursion (ReadsNoStranger (length places) q) q) (sym c.as_slice.ensures) (strangers_of f places s))
