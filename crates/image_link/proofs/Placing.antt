-- Where parts stand, found one after another.
use Rattle.std.proofs.Common.{◌≡◌, ℕ, ◌+◌, ◌<◌, ◌≤◌, List, [], ◌∷◌, ◌++◌, length, drop, refl, sym, ap, ◌∙◌, subst, arith, Option, Some, None, get_or, append_assoc, drop-cons, add-one}
use Rattle.thumb_code.specs.Map.{flash_end}
use Rattle.thumb_layout.specs.Layout.{up}
use Rattle.image_link.specs.inner.{end_with, starts}
use Rattle.image_link.proofs.Written.{end_behind}

-- an end is behind what it is put behind
pub with_grows : (end : ℕ) (n : Option ℕ) → end ≤ end_with end n
with_grows end None = omega arith
with_grows end (Some n) = omega arith

pub behind_grows : (end : ℕ) (ns : List (Option ℕ)) → end ≤ end_behind end ns
behind_grows end [] = omega arith
behind_grows end (n ∷ ns) = let a = with_grows end n in let b = behind_grows (end_with end n) ns in omega arith

-- some are placed, and the rest is left to place
pub record Placed (from : ℕ) (all rest : List (Option ℕ)) (found : List ℕ) (end : ℕ) : Type 0 where
  pub low : end ≤ flash_end
  pub starts_are : starts from all ≡ found ++ starts end rest
  pub end_is : end_behind from all ≡ end_behind end rest

pub placed_first : (from : ℕ) (all : List (Option ℕ)) → from ≤ flash_end → Placed from all all [] from
placed_first from all l = record { low = l; starts_are = refl; end_is = refl }

pub placed_next : (from : ℕ) (all rest : List (Option ℕ)) (n : Option ℕ) (found : List ℕ) (end next : ℕ) → Placed from all (n ∷ rest) found end → next ≡ end_with end n → next ≤ flash_end → Placed from all rest (found ++ up end ∷ []) next
placed_next from all rest n found end next p e l = record {
  low = l;
  starts_are = p.starts_are ∙ (sym (append_assoc found (up end ∷ []) (starts (end_with end n) rest)) ∙ ap (λ q. (found ++ up end ∷ []) ++ starts q rest) (sym e));
  end_is = p.end_is ∙ ap (λ q. end_behind q rest) (sym e);
}

pub placed_past : (from : ℕ) (all rest : List (Option ℕ)) (n : Option ℕ) (found : List ℕ) (end : ℕ) → Placed from all (n ∷ rest) found end → flash_end < end_with end n → flash_end < end_behind from all
placed_past from all rest n found end p l = let a = behind_grows (end_with end n) rest in let b = p.end_is in omega arith

-- the same at an index
pub at_index : (from : ℕ) (all : List (Option ℕ)) (i : ℕ) (found : List ℕ) (end : ℕ) → i < length all → Placed from all (drop i all) found end → Placed from all (get_or all i None ∷ drop (i + 1) all) found end
at_index from all i found end l p = subst (λ q. Placed from all q found end) (drop-cons all i None l ∙ ap (λ q. get_or all i None ∷ drop q all) (sym (add-one i))) p
