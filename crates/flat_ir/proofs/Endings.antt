-- The last op of a list.
use Rattle.std.proofs.Common.{◌-◌, ◌≡◌, ◌↔◌, List, [], ◌∷◌, length, subst, sym, ◌∙◌, Some, arith, ap}
use Rattle.std.specs.Prelude.{slice_get}
use Rattle.flat_ir.specs.declared.ops.Op.{Op}
use Rattle.flat_ir.specs.WellFormed.{IsLast, EndsFrom, Ends}

pub last_from : (op : Op) (rest : List Op) (last : Op) → slice_get (op ∷ rest) (length rest) ≡ Some last → IsLast last ↔ EndsFrom op rest
last_from op [] last is = let e : op ≡ last = cc in (λ h. subst IsLast (sym e) h, λ h. subst IsLast e h)
last_from op (next ∷ rest) last is = last_from next rest last is

pub last_is : (ops : List Op) (last : Op) → slice_get ops (length ops - 1) ≡ Some last → IsLast last ↔ Ends ops
last_is [] last is = absurd (cc)
last_is (op ∷ rest) last is = let e : length (op ∷ rest) - 1 ≡ length rest = omega arith in last_from op rest last (ap (λ n. slice_get (op ∷ rest) n) (sym e) ∙ is)
