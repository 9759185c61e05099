use Rattle.std.proofs.Common.{◌<◌, ◌+◌, List, length, drop, get_or, arith, rules, sym, ap, ◌∙◌, subst}
use Rattle.thumb_layout.specs.declared.pieces.Piece.TheVariants.{Label, Plain}
use Rattle.thumb_layout.specs.declared.pieces.Piece.{Piece}
use Rattle.thumb_layout.specs.declared.places.PieceOffsets.{PieceOffsets}
use Rattle.thumb_layout.specs.declared.writer.Writer.{Writer}
use Rattle.thumb_code.specs.declared.instructions.Instr.TheVariants.{LslImm}
use Rattle.thumb_layout.specs.Rounds.{forms}
use Rattle.thumb_layout.proofs.Growing.{target_bound, places_long}
use Rattle.std.proofs.lemmas.List.{drop_all}
use Rattle.thumb_layout.proofs.Emitting.{WriteLoop, write_init, write_end, end_small, at_enter, fits_enter, at_put, fits_put, at_leave, on_next, off_next, lead_at, lead_small, sound_at, forms_long}
use Rattle.thumb_layout.proofs.writer.written.Goals as goal
use Rattle.thumb_layout.proofs.writer.written.Goals.{then-not-goes_on+in_ok-lay_pool, else-not-goes_on}

abbrev no_piece : Piece
no_piece = Plain (LslImm 0 0 0)

abbrev no_place : PieceOffsets
no_place = record { at = 0; body = 0 }

pub loop-index-init : goal.loop-index-init
loop-index-init c =
    write_init c.args.pieces.now c.args.branch_forms.now c.args.places.now _ c.new-writer.result.laid c.new-writer.result.waiting.items c.new-writer.result.pools c.requires.sound c.requires.few c.requires.forms c.requires.places
    (let z = c.new-writer.ensures.pools in ap (λ n. drop n c.args.pool_starts.now) z ∙ c.requires.pools) c.new-writer.ensures.laid c.new-writer.ensures.waiting c.new-writer.ensures.pools

pub bounds-places-index : goal.bounds-places-index
bounds-places-index c = let l = places_long c.args.pieces.now (forms c.args.pieces.now) c.args.places.now c.requires.places in omega arith

pub bounds-places-targets : goal.bounds-places-targets
bounds-places-targets c = target_bound c.args.pieces.now (forms c.args.pieces.now) c.args.places.now c.args.targets.now c.loop-index.index (Label 0) c.requires.places c.requires.targets (omega arith)

pub offset_bounds-places-targets : goal.offset_bounds-places-targets
offset_bounds-places-targets c =
    let b : get_or c.args.targets.now c.loop-index.index 0 < length c.args.places.now =
    target_bound c.args.pieces.now (forms c.args.pieces.now) c.args.places.now c.args.targets.now c.loop-index.index (Label 0) c.requires.places c.requires.targets (omega arith) in
    search rules

pub enter-requires-clause-at : goal.enter-requires-clause-at
enter-requires-clause-at c = (at_enter c.args.pieces.now c.args.branch_forms.now c.args.places.now c.args.pool_starts.now c.loop-index.index no_piece no_place c.loop-index.writer.pools c.loop-index.writer.laid c.loop-index.writer.waiting.items c.requires.few (omega arith) c.requires.forms c.requires.places c.loop-index.invariant).0

pub enter-requires-clause-body : goal.enter-requires-clause-body
enter-requires-clause-body c = (at_enter c.args.pieces.now c.args.branch_forms.now c.args.places.now c.args.pool_starts.now c.loop-index.index no_piece no_place c.loop-index.writer.pools c.loop-index.writer.laid c.loop-index.writer.waiting.items c.requires.few (omega arith) c.requires.forms c.requires.places c.loop-index.invariant).1

pub enter-requires-clause-few : goal.enter-requires-clause-few
enter-requires-clause-few c = (at_enter c.args.pieces.now c.args.branch_forms.now c.args.places.now c.args.pool_starts.now c.loop-index.index no_piece no_place c.loop-index.writer.pools c.loop-index.writer.laid c.loop-index.writer.waiting.items c.requires.few (omega arith) c.requires.forms c.requires.places c.loop-index.invariant).2

pub enter-requires-clause-pools : goal.enter-requires-clause-pools
enter-requires-clause-pools c = (at_enter c.args.pieces.now c.args.branch_forms.now c.args.places.now c.args.pool_starts.now c.loop-index.index no_piece no_place c.loop-index.writer.pools c.loop-index.writer.laid c.loop-index.writer.waiting.items c.requires.few (omega arith) c.requires.forms c.requires.places c.loop-index.invariant).3

pub enter-requires-clause-fits : goal.enter-requires-clause-fits
enter-requires-clause-fits c = fits_enter c.args.pieces.now c.args.branch_forms.now c.args.places.now c.args.pool_starts.now c.loop-index.index no_piece no_place c.loop-index.writer.pools c.loop-index.writer.laid c.loop-index.writer.waiting.items c.requires.few (omega arith) c.requires.forms c.requires.places c.loop-index.invariant

pub bounds-branch_forms-index : goal.bounds-branch_forms-index
bounds-branch_forms-index c = let l = forms_long c.args.pieces.now c.args.branch_forms.now c.args.places.now c.args.pool_starts.now c.loop-index.index no_piece no_place c.loop-index.writer.pools c.loop-index.writer.laid c.loop-index.writer.waiting.items c.requires.few (omega arith) c.requires.forms c.requires.places c.loop-index.invariant in omega arith

pub put-requires-clause-at : goal.put-requires-clause-at
put-requires-clause-at c = (at_put c.args.pieces.now c.args.branch_forms.now c.args.places.now c.args.pool_starts.now c.loop-index.index no_piece no_place c.loop-index.writer.pools c.loop-index.writer.laid c.loop-index.writer.waiting.items c.requires.few (omega arith) c.requires.forms c.requires.places c.loop-index.invariant c.enter.new.self.laid c.enter.new.self.waiting.items c.enter.new.self.pools c.in_ok-enter.ensures.laid c.in_ok-enter.ensures.waiting c.in_ok-enter.ensures.pools).0

pub put-requires-clause-to : goal.put-requires-clause-to
put-requires-clause-to c =
    lead_small c.args.pieces.now c.args.places.now (get_or c.args.targets.now c.loop-index.index 0) no_place c.requires.places c.requires.few
    (target_bound c.args.pieces.now (forms c.args.pieces.now) c.args.places.now c.args.targets.now c.loop-index.index (Label 0) c.requires.places c.requires.targets (omega arith))

pub put-requires-clause-few : goal.put-requires-clause-few
put-requires-clause-few c = (at_put c.args.pieces.now c.args.branch_forms.now c.args.places.now c.args.pool_starts.now c.loop-index.index no_piece no_place c.loop-index.writer.pools c.loop-index.writer.laid c.loop-index.writer.waiting.items c.requires.few (omega arith) c.requires.forms c.requires.places c.loop-index.invariant c.enter.new.self.laid c.enter.new.self.waiting.items c.enter.new.self.pools c.in_ok-enter.ensures.laid c.in_ok-enter.ensures.waiting c.in_ok-enter.ensures.pools).1

pub put-requires-clause-sound : goal.put-requires-clause-sound
put-requires-clause-sound c = sound_at c.args.pieces.now c.loop-index.index no_piece c.requires.sound (omega arith)

pub put-requires-clause-fits : goal.put-requires-clause-fits
put-requires-clause-fits c = fits_put c.args.pieces.now c.args.branch_forms.now c.args.places.now c.args.pool_starts.now c.loop-index.index no_piece no_place c.loop-index.writer.pools c.loop-index.writer.laid c.loop-index.writer.waiting.items c.requires.few (omega arith) c.requires.forms c.requires.places c.loop-index.invariant c.enter.new.self.laid c.enter.new.self.waiting.items c.enter.new.self.pools c.in_ok-enter.ensures.laid c.in_ok-enter.ensures.waiting c.in_ok-enter.ensures.pools _ _ (lead_at c.args.pieces.now c.args.places.now c.args.targets.now c.loop-index.index no_piece no_place c.requires.places c.requires.targets (omega arith)) c.next_pool-pool_at.ensures

pub lay_pool-requires-clause-at : goal.lay_pool-requires-clause-at
lay_pool-requires-clause-at c = (at_leave c.args.pieces.now c.args.branch_forms.now c.args.places.now c.args.pool_starts.now c.loop-index.index no_piece no_place c.loop-index.writer.pools c.loop-index.writer.laid c.loop-index.writer.waiting.items c.requires.few (omega arith) c.requires.forms c.requires.places c.loop-index.invariant c.enter.new.self.laid c.enter.new.self.waiting.items c.enter.new.self.pools c.in_ok-enter.ensures.laid c.in_ok-enter.ensures.waiting c.in_ok-enter.ensures.pools (sound_at c.args.pieces.now c.loop-index.index no_piece c.requires.sound (omega arith)) _ _ (lead_at c.args.pieces.now c.args.places.now c.args.targets.now c.loop-index.index no_piece no_place c.requires.places c.requires.targets (omega arith)) c.next_pool-pool_at.ensures c.put.new.self.laid c.put.new.self.waiting.items c.put.new.self.pools c.in_ok-put.ensures.laid c.in_ok-put.ensures.waiting c.in_ok-put.ensures.pools).0

pub lay_pool-requires-clause-few : goal.lay_pool-requires-clause-few
lay_pool-requires-clause-few c = (at_leave c.args.pieces.now c.args.branch_forms.now c.args.places.now c.args.pool_starts.now c.loop-index.index no_piece no_place c.loop-index.writer.pools c.loop-index.writer.laid c.loop-index.writer.waiting.items c.requires.few (omega arith) c.requires.forms c.requires.places c.loop-index.invariant c.enter.new.self.laid c.enter.new.self.waiting.items c.enter.new.self.pools c.in_ok-enter.ensures.laid c.in_ok-enter.ensures.waiting c.in_ok-enter.ensures.pools (sound_at c.args.pieces.now c.loop-index.index no_piece c.requires.sound (omega arith)) _ _ (lead_at c.args.pieces.now c.args.places.now c.args.targets.now c.loop-index.index no_piece no_place c.requires.places c.requires.targets (omega arith)) c.next_pool-pool_at.ensures c.put.new.self.laid c.put.new.self.waiting.items c.put.new.self.pools c.in_ok-put.ensures.laid c.in_ok-put.ensures.waiting c.in_ok-put.ensures.pools).1

pub lay_pool-requires-clause-pools : goal.lay_pool-requires-clause-pools
lay_pool-requires-clause-pools c = (at_leave c.args.pieces.now c.args.branch_forms.now c.args.places.now c.args.pool_starts.now c.loop-index.index no_piece no_place c.loop-index.writer.pools c.loop-index.writer.laid c.loop-index.writer.waiting.items c.requires.few (omega arith) c.requires.forms c.requires.places c.loop-index.invariant c.enter.new.self.laid c.enter.new.self.waiting.items c.enter.new.self.pools c.in_ok-enter.ensures.laid c.in_ok-enter.ensures.waiting c.in_ok-enter.ensures.pools (sound_at c.args.pieces.now c.loop-index.index no_piece c.requires.sound (omega arith)) _ _ (lead_at c.args.pieces.now c.args.places.now c.args.targets.now c.loop-index.index no_piece no_place c.requires.places c.requires.targets (omega arith)) c.next_pool-pool_at.ensures c.put.new.self.laid c.put.new.self.waiting.items c.put.new.self.pools c.in_ok-put.ensures.laid c.in_ok-put.ensures.waiting c.in_ok-put.ensures.pools).2

pub loop-index-preserved : goal.loop-index-preserved
loop-index-preserved c =
    let i = c.loop-index.index in
    let P = c.args.pool_starts.now in
    elim c.if-not-goes_on.branch [
      | then-not-goes_on+in_ok-lay_pool w ↦
          subst (λ (q : Writer). WriteLoop c.args.pieces.now (drop (i + 1) c.args.pieces.now) (drop (i + 1) c.args.branch_forms.now) (drop (i + 1) c.args.places.now) (drop q.pools P) q.laid q.waiting.items q.pools) (sym w.writer-is)
          (off_next c.args.pieces.now c.args.branch_forms.now c.args.places.now c.args.pool_starts.now c.loop-index.index no_piece no_place c.loop-index.writer.pools c.loop-index.writer.laid c.loop-index.writer.waiting.items c.requires.few (omega arith) c.requires.forms c.requires.places c.loop-index.invariant c.enter.new.self.laid c.enter.new.self.waiting.items c.enter.new.self.pools c.in_ok-enter.ensures.laid c.in_ok-enter.ensures.waiting c.in_ok-enter.ensures.pools (sound_at c.args.pieces.now c.loop-index.index no_piece c.requires.sound (omega arith)) _ _ (lead_at c.args.pieces.now c.args.places.now c.args.targets.now c.loop-index.index no_piece no_place c.requires.places c.requires.targets (omega arith)) c.next_pool-pool_at.ensures c.put.new.self.laid c.put.new.self.waiting.items c.put.new.self.pools c.in_ok-put.ensures.laid c.in_ok-put.ensures.waiting c.in_ok-put.ensures.pools (sym c.goes_on.ensures ∙ w.if-not-goes_on.true) w.lay_pool.new.self.laid w.lay_pool.new.self.waiting.items w.lay_pool.new.self.pools w.in_ok-lay_pool.ensures.laid w.in_ok-lay_pool.ensures.waiting w.in_ok-lay_pool.ensures.pools)
      | else-not-goes_on w ↦
          subst (λ (q : Writer). WriteLoop c.args.pieces.now (drop (i + 1) c.args.pieces.now) (drop (i + 1) c.args.branch_forms.now) (drop (i + 1) c.args.places.now) (drop q.pools P) q.laid q.waiting.items q.pools) (sym w.writer-is)
          (on_next c.args.pieces.now c.args.branch_forms.now c.args.places.now c.args.pool_starts.now c.loop-index.index no_piece no_place c.loop-index.writer.pools c.loop-index.writer.laid c.loop-index.writer.waiting.items c.requires.few (omega arith) c.requires.forms c.requires.places c.loop-index.invariant c.enter.new.self.laid c.enter.new.self.waiting.items c.enter.new.self.pools c.in_ok-enter.ensures.laid c.in_ok-enter.ensures.waiting c.in_ok-enter.ensures.pools (sound_at c.args.pieces.now c.loop-index.index no_piece c.requires.sound (omega arith)) _ _ (lead_at c.args.pieces.now c.args.places.now c.args.targets.now c.loop-index.index no_piece no_place c.requires.places c.requires.targets (omega arith)) c.next_pool-pool_at.ensures c.put.new.self.laid c.put.new.self.waiting.items c.put.new.self.pools c.in_ok-put.ensures.laid c.in_ok-put.ensures.waiting c.in_ok-put.ensures.pools (sym c.goes_on.ensures ∙ w.if-not-goes_on.false))
    ]

pub lay_pool-requires-2-clause-at : goal.lay_pool-requires-2-clause-at
lay_pool-requires-2-clause-at c = (end_small c.args.pieces.now _ _ _ _ _ _ _ c.requires.few c.loop-index.invariant).0

pub lay_pool-requires-2-clause-few : goal.lay_pool-requires-2-clause-few
lay_pool-requires-2-clause-few c = (end_small c.args.pieces.now _ _ _ _ _ _ _ c.requires.few c.loop-index.invariant).1

pub lay_pool-requires-2-clause-pools : goal.lay_pool-requires-2-clause-pools
lay_pool-requires-2-clause-pools c = (end_small c.args.pieces.now _ _ _ _ _ _ _ c.requires.few c.loop-index.invariant).2

pub returns : goal.returns
returns c =
    let xs = c.args.pieces.now in
    let i = c.loop-index.index in
    let w = c.loop-index.writer in
    write_end xs (drop i c.args.branch_forms.now) (drop i c.args.places.now) (drop w.pools c.args.pool_starts.now) w.laid c.lay_pool-2.new.self.laid w.waiting.items w.pools
    (subst (λ (q : List Piece). WriteLoop xs q (drop i c.args.branch_forms.now) (drop i c.args.places.now) (drop w.pools c.args.pool_starts.now) w.laid w.waiting.items w.pools) (drop_all i xs (omega arith)) c.loop-index.invariant)
    c.in_ok-lay_pool-2.ensures.laid
