-- An element of a list, and what stands before and behind it.
use Rattle.std.proofs.Common.{◌≡◌, ◌<◌, ℕ, List, [], ◌∷◌, ◌++◌, length, get_or, ap, sym, ◌∙◌, arith, append-nil}
use Rattle.std.proofs.Math.ListN.{set}
use Rattle.std.proofs.Math.Seq.{get_or-append_seam, set-append_seam}

-- the element behind the first ones, and what a write there leaves
pub record Behind {X : Type 0} (first rest : List X) (n : ℕ) (x : X) : Type 0 where
  pub others : List X
  pub is : rest ≡ x ∷ others
  pub written : (y : X) → set (first ++ rest) n y ≡ first ++ y ∷ others

pub behind : {X : Type 0} (first rest : List X) (n : ℕ) (x : X) → length first ≡ n → n < length (first ++ rest) → x ≡ get_or (first ++ rest) n x → Behind first rest n x
behind {X} first [] n x count within read = absurd (let l = ap length (append-nil first) in omega (arith, l, count, within))
behind {X} first (z ∷ zs) n x count within read =
    (let at : get_or (first ++ (z ∷ zs)) n x ≡ z = ap (λ (k : ℕ). get_or (first ++ (z ∷ zs)) k x) (sym count) ∙ get_or-append_seam first z zs x in
    record {
      others = zs;
      is = ap (λ (y : X). y ∷ zs) (sym (read ∙ at));
      written = λ y. ap (λ (k : ℕ). set (first ++ (z ∷ zs)) k y) (sym count) ∙ set-append_seam first z zs y;
    })
