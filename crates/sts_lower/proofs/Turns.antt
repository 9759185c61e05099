-- A turn of the work that is left.
use Rattle.std.proofs.Common.{◌≡◌, ◌<◌, List, ◌∷◌, ◌++◌, sym, ap, ◌∙◌, subst, append_assoc, arith}
use Rattle.flat_ir.specs.declared.ops.Op.{Op}
use Rattle.sts_lower.specs.inner.Works.{Layout, Work, opened, own_ops}
use Rattle.sts_lower.proofs.Opened.{ops_of_all, joined_are, opened_is}
use Rattle.sts_lower.proofs.Fitted.{AllFit, joined_fit, opened_fits}
use Rattle.sts_lower.proofs.Loads.{load, load_joined, opened_less}

pub turn_ops : (L : Layout) (w : Work) (rest new : List Work) (ops more : List Op) → more ≡ ops ++ own_ops L w → new ≡ opened L w ++ rest
    → more ++ ops_of_all L new ≡ ops ++ ops_of_all L (w ∷ rest)
turn_ops L w rest new ops more is pieces =
    ap (λ xs. xs ++ ops_of_all L new) is ∙ ap (λ ws. (ops ++ own_ops L w) ++ ops_of_all L ws) pieces
    ∙ ap (λ xs. (ops ++ own_ops L w) ++ xs) (joined_are L (opened L w) rest)
    ∙ append_assoc ops (own_ops L w) (ops_of_all L (opened L w) ++ ops_of_all L rest)
    ∙ ap (λ xs. ops ++ xs) (sym (append_assoc (own_ops L w) (ops_of_all L (opened L w)) (ops_of_all L rest)))
    ∙ ap (λ xs. ops ++ (xs ++ ops_of_all L rest)) (opened_is L w)

pub turn_fits : (L : Layout) (w : Work) (rest new : List Work) → new ≡ opened L w ++ rest → AllFit L (w ∷ rest) → AllFit L new
turn_fits L w rest new pieces fits = subst (AllFit L) (sym pieces) (joined_fit L (opened L w) rest (opened_fits L w fits.0) fits.1)

pub turn_less : (L : Layout) (w : Work) (rest new : List Work) → new ≡ opened L w ++ rest → load new < load (w ∷ rest)
turn_less L w rest new pieces = omega (arith, ap load pieces, load_joined (opened L w) rest, opened_less L w)
