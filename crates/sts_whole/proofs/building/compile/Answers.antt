use Rattle.std.proofs.Common.{List, length, map, subst, sym, ap, ◌∙◌, arith}
use Rattle.std.specs.List.{AllByRecursion}
use Rattle.sts_syntax.specs.TypedViews.{typed_program}
use Rattle.flat_ir.specs.declared.ops.Function.{Function}
use Rattle.flat_ir.specs.declared.ops.FlatCode.{FlatCode}
use Rattle.sts_lower.specs.Lowered.{lowered}
use Rattle.register_assign.specs.declared.places.Placed.{Placed}
use Rattle.thumb_layout.specs.declared.laid.Laid.{Laid}
use Rattle.thumb_layout.specs.Cells.{laid}
use Rattle.image_link.specs.Image.{IsLinked}
use Rattle.image_link.specs.Linkable.{IsLinkable}
use Rattle.sts_whole.specs.Building.{IsPlaceable, IsLayable}
use Rattle.sts_whole.specs.Compiled.{bodies_of, with_chosen_places}
use Rattle.sts_whole.proofs.Layable.{placeable, layable, texts_below, fits}
use Rattle.sts_whole.proofs.building.compile.Goals as goal

pub place_all-requires : goal.place_all-requires
place_all-requires c =
    let P = typed_program c.args.typed.now in
    let formed = c.code_is_well_formed.ensures.formed P c.args.tables.now.texts c.requires.well_typed c.requires.limits in
    let is = c.as_slice.ensures ∙ ap (λ (k : FlatCode). k.functions) c.in_ok-code.ensures in
    subst (λ (fs : List Function). AllByRecursion IsPlaceable fs) (sym is)
    (placeable (length (lowered P).functions) (length (lowered P).classes) (lowered P).functions formed.functions
    (c.only_parameters_are_live_at_entry.ensures P c.requires.well_typed))

pub lay_all-requires : goal.lay_all-requires
lay_all-requires c =
    let P = typed_program c.args.typed.now in
    let texts = c.args.tables.now.texts in
    let formed = c.code_is_well_formed.ensures.formed P texts c.requires.well_typed c.requires.limits in
    let functions = c.in_ok-placed.ensures.functions ∙ c.as_slice.ensures ∙ ap (λ (k : FlatCode). k.functions) c.in_ok-code.ensures in
    subst (λ (placed : List Placed). AllByRecursion IsLayable placed) (sym c.deref.ensures.value)
    (layable c.code_has_few_ops.ensures.routines c.code_has_few_ops.ensures.repeating c.laid_code_keeps_its_weight.ensures.routines c.laid_code_keeps_its_weight.ensures.repeating P texts c.in_ok-placed.placed.items c.requires.limits
    formed functions c.in_ok-placed.ensures.sound)

pub link-requires : goal.link-requires
link-requires c =
    let P = typed_program c.args.typed.now in
    let texts = c.args.tables.now.texts in
    let formed = c.code_is_well_formed.ensures.formed P texts c.requires.well_typed c.requires.limits in
    let placed = c.in_ok-placed.placed.items in
    let functions = c.in_ok-placed.ensures.functions ∙ c.as_slice.ensures ∙ ap (λ (k : FlatCode). k.functions) c.in_ok-code.ensures in
    let laid_is = c.in_ok-laid.ensures ∙ ap (λ (all : List Placed). map laid (bodies_of all)) c.deref.ensures.value in
    let below = texts_below P (length texts) c.requires.texts (c.names_only_its_texts.ensures P) in
    let linkable = c.emitted_code_can_be_linked.ensures (lowered P) placed (length texts) formed functions below in
    subst (λ (k : FlatCode). IsLinkable c.in_ok-laid.laid k (length texts)) (sym c.in_ok-code.ensures)
    (subst (λ (all : List Laid). IsLinkable all (lowered P) (length texts)) (sym laid_is) linkable)

pub unreachable-requires : goal.unreachable-requires
unreachable-requires c =
    let P = typed_program c.args.typed.now in
    let texts = c.args.tables.now.texts in
    let placed = c.in_ok-placed.placed.items in
    let functions = c.in_ok-placed.ensures.functions ∙ c.as_slice.ensures ∙ ap (λ (k : FlatCode). k.functions) c.in_ok-code.ensures in
    let laid_is = c.in_ok-laid.ensures ∙ ap (λ (all : List Placed). map laid (bodies_of all)) c.deref.ensures.value in
    let past = c.in-Err-PastFlash.ensures.past_flash c.in-Err-PastFlash.field-0-is in
    let more = past.2 in
    let linked : IsLinked (map laid (bodies_of placed)) (lowered P) texts past.0 =
    subst (λ (k : FlatCode). IsLinked (map laid (bodies_of placed)) k texts past.0) c.in_ok-code.ensures
    (subst (λ (all : List Laid). IsLinked all c.in_ok-code.code texts past.0) laid_is past.1) in
    let formed = c.code_is_well_formed.ensures.formed P texts c.requires.well_typed c.requires.limits in
    let fit = fits c.laid_code_keeps_its_weight.ensures.routines c.laid_code_keeps_its_weight.ensures.repeating c.programs_within_the_limits_fit.ensures.image
    P texts placed past.0
    c.requires.limits c.requires.library formed functions c.in_ok-placed.ensures.sound linked in
    absurd (omega (arith, more, fit))

pub returns-in-Ok-clause-compiled : goal.returns-in-Ok-clause-compiled
returns-in-Ok-clause-compiled c =
    let P = typed_program c.args.typed.now in
    let texts = c.args.tables.now.texts in
    let placed = c.in_ok-placed.placed.items in
    let functions = c.in_ok-placed.ensures.functions ∙ c.as_slice.ensures ∙ ap (λ (k : FlatCode). k.functions) c.in_ok-code.ensures in
    let laid_is = c.in_ok-laid.ensures ∙ ap (λ (all : List Placed). map laid (bodies_of all)) c.deref.ensures.value in
    let linked : IsLinked (map laid (bodies_of placed)) (lowered P) texts c.in-Ok.image.items =
    subst (λ (k : FlatCode). IsLinked (map laid (bodies_of placed)) k texts c.in-Ok.image.items) c.in_ok-code.ensures
    (subst (λ (all : List Laid). IsLinked all c.in_ok-code.code texts c.in-Ok.image.items) laid_is c.in-Ok.ensures.linked) in
    record {
      placed = placed;
      functions = functions;
      sound = c.in_ok-placed.ensures.sound;
      linked = linked;
      room = c.in-Ok.ensures.fits;
    }

pub returns-in-Ok-clause-is_the : goal.returns-in-Ok-clause-is_the
returns-in-Ok-clause-is_the c =
    let P = typed_program c.args.typed.now in
    let texts = c.args.tables.now.texts in
    let is = c.as_slice.ensures ∙ ap (λ (k : FlatCode). k.functions) c.in_ok-code.ensures in
    let placed_is = c.in_ok-placed.ensures.chosen ∙ ap (map with_chosen_places) is in
    let laid_is = c.in_ok-laid.ensures ∙ ap (λ (all : List Placed). map laid (bodies_of all)) (c.deref.ensures.value ∙ placed_is) in
    record {
      linked = subst (λ (k : FlatCode). IsLinked (map laid (bodies_of (map with_chosen_places (lowered P).functions))) k texts c.in-Ok.image.items) c.in_ok-code.ensures
          (subst (λ (all : List Laid). IsLinked all c.in_ok-code.code texts c.in-Ok.image.items) laid_is c.in-Ok.ensures.linked);
    }
