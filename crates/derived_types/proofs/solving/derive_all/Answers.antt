use Rattle.std.proofs.Common.{sym, ap, ◌∙◌, length, subst}
use Rattle.sts_scope.specs.declared.known.Known.{Known}
use Rattle.sts_scope.specs.Values.{value_at}
use Rattle.type_derive.specs.Derived.{rule, IsLeast}
use Rattle.derived_types.specs.Origins.{sources}
use Rattle.derived_types.specs.Underway.{IsUnderway, Keeps}
use Rattle.derived_types.proofs.Least.{begins}
use Rattle.derived_types.proofs.Ruled.{same_rule, keeps}
use Rattle.derived_types.proofs.solving.derive_all.Goals as goal

pub in_order-requires : goal.in_order-requires
in_order-requires c =
    let t = c.args.tables.now in
    let f = value_at c.args.classes.now.values.items in
    let k = c.args.known.now in
    let s = sources c.args.origins.now in
    let b : Known = record { entries = k.entries; classes = k.classes; kinds = c.in_ok-kinds.kinds; library = k.library } in
    subst (λ (z : Known). IsUnderway (rule t f z s) z.kinds) (sym c.set_kinds.ensures) (begins (rule t f b s) c.in_ok-kinds.kinds c.in_ok-kinds.ensures.none)

pub rounds-requires : goal.rounds-requires
rounds-requires c =
    let t = c.args.tables.now in
    let f = value_at c.args.classes.now.values.items in
    let s = sources c.args.origins.now in
    let m = c.in_order.new.known in
    subst (λ Q. IsUnderway Q m.kinds) (sym (same_rule t f s c.set_kinds.new.self m c.in_ok-in_order.ensures.same)) c.in_ok-in_order.ensures.underway

pub returns : goal.returns
returns c =
    let t = c.args.tables.now in
    let f = value_at c.args.classes.now.values.items in
    let s = sources c.args.origins.now in
    let b = c.set_kinds.new.self in
    let m = c.in_order.new.known in
    let n = c.rounds.new.known in
    record {
      least = subst (λ (z : Known). IsLeast (rule t f z s) n.kinds) c.set_kinds.ensures (subst (λ Q. IsLeast Q n.kinds) (same_rule t f s b m c.in_ok-in_order.ensures.same) c.in_ok-rounds.ensures.least);
      len = c.in_ok-rounds.ensures.len ∙ c.in_ok-in_order.ensures.len ∙ ap (λ (z : Known). length z.kinds) c.set_kinds.ensures ∙ c.in_ok-kinds.ensures.len ∙ c.len-count.ensures ∙ ap length c.entries.ensures;
      same = subst (λ (z : Known). Keeps z n) c.set_kinds.ensures (keeps b m n c.in_ok-in_order.ensures.same c.in_ok-rounds.ensures.same);
    }
