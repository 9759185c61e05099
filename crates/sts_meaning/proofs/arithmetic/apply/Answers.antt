use Rattle.std.proofs.Common.{rules, FitsSigned, arith, ◌≡◌, Some, ap, sym, ◌∙◌, w32, to_z, of_z, ◌^◌, ◌%◌}
use Rattle.std.specs.Int.Signed.{shr_z}
use Rattle.std.proofs.lemmas.Int.{wrapping_add_is, wrapping_sub_is, to_z-of_z}
use lib.Signed.{mag_shr}
use mir.ValLaws.{sfits_le}
use Rattle.sts_syntax.specs.TypeRules.{IsOneOf, arithmetic_operators}
use Rattle.sts_meaning.specs.Values.{arithmetic, remainder}
use Rattle.sts_meaning.proofs.arithmetic.apply.Goals as goal

pub returns-in-11 : goal.returns-in-11
returns-in-11 c =
    (let l = c.args.left in let r = c.args.right in
    let count = c.cast_unsigned-count.ensures ∙ ap (λ z. of_z w32 z) (to_z-of_z w32 r c.ranges.right) in
    ap (λ op. arithmetic op l r) c.in-11.is
    ∙ ap Some (sym (to_z-of_z w32 (shr_z l (2 ^ (of_z w32 r % 32))) (sfits_le (mag_shr l (2 ^ (of_z w32 r % 32))) c.ranges.left)))
    ∙ ap (λ n. Some (to_z w32 (of_z w32 (shr_z l (2 ^ (n % 32)))))) (sym count)
    ∙ ap (λ z. Some (to_z w32 (of_z w32 (shr_z z (2 ^ (c.cast_unsigned-count.result % 32)))))) (sym (to_z-of_z w32 l c.ranges.left)))

pub returns-in-13 : goal.returns-in-13
returns-in-13 c = ap (λ op. arithmetic op c.args.left c.args.right) c.in-13.is ∙ ap Some (sym (wrapping_add_is w32 c.args.left c.args.right c.ranges.left c.ranges.right))

pub returns-in-14 : goal.returns-in-14
returns-in-14 c = ap (λ op. arithmetic op c.args.left c.args.right) c.in-14.is ∙ ap Some (sym (wrapping_sub_is w32 c.args.left c.args.right c.ranges.left c.ranges.right))

pub returns-in_default : goal.returns-in_default
returns-in_default c =
    (let l = c.args.left in let r = c.args.right in
    let one : IsOneOf c.args.op arithmetic_operators = c.requires in
    let is : c.args.op ≡ 17 = grind (arith, one, c.in_default) in
    let fits : FitsSigned w32 c.remainder_of.result = search rules in
    ap (λ op. arithmetic op l r) is
    ∙ ap Some (sym (c.remainder_of.ensures ∙ ap (λ z. remainder z (to_z w32 (of_z w32 r))) (to_z-of_z w32 l c.ranges.left) ∙ ap (λ z. remainder l z) (to_z-of_z w32 r c.ranges.right)))
    ∙ ap Some (sym (to_z-of_z w32 c.remainder_of.result fits)))
