use Rattle.std.proofs.Common.{◌≡◌, ◌+◌, ◌∷◌, ◌++◌, [], List, length, ◌∙◌, ap, arith}
use Rattle.std.specs.Prelude.{Some}
use Rattle.std.proofs.lemmas.Grind.{common_steps}
use Rattle.std.proofs.lemmas.List.{length_push}
use Rattle.flat_ir.specs.declared.ops.Op.{Op}
use Rattle.flat_ir.specs.WellFormed.{temporaries}
use Rattle.register_assign.specs.Chosen.{firsts, uses_to, weights_of, uses_of}
use Rattle.register_assign.proofs.Choosing.{firsts_next}
use Rattle.register_assign.proofs.assignment.all_uses.Goals as goal

pub loop-t-preserved : goal.loop-t-preserved
loop-t-preserved c =
    let f = c.args.function.now in
    let t = c.loop-t.t in
    let all = c.loop-t.all.items in
    let i = c.loop-t.invariant in
    let noted : c.push.new.self.items ≡ all ++ Some c.uses.result ∷ [] = grind (arith, common_steps) in
    let weighed : c.deref.result.now ≡ weights_of c.as_slice-ops.result.now = c.deref.ensures.value ∙ c.in_ok-weights.ensures.weights in
    let used : c.uses.result ≡ uses_of c.as_slice-ops.result.now t = c.uses.ensures ∙ ap (λ w. uses_to c.as_slice-ops.result.now t w (length c.as_slice-ops.result.now)) weighed in
    let same : c.uses.result ≡ uses_of f.ops t = used ∙ ap (λ (ops : List Op). uses_of ops t) c.as_slice-ops.ensures in (
      ap length noted ∙ (length_push all (Some c.uses.result) ∙ ap (λ n. n + 1) i.0),
      noted ∙ firsts_next (λ u. Some (uses_of f.ops u)) t all (Some c.uses.result) i.1 (ap Some same),
    )

pub returns : goal.returns
returns c =
    let e : c.loop-t.t ≡ temporaries c.args.function.now = omega arith in
    let i = c.loop-t.invariant in
    record { long = i.0 ∙ e; chosen = i.1 ∙ ap (firsts (λ t. Some (uses_of c.args.function.now.ops t))) e }
