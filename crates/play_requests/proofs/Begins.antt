-- A text's beginning that is taken away.
use Rattle.std.proofs.Common.{◌≡◌, ◌∙◌, ℕ, List, length, drop, sym, ap, subst, true, false, Bor}
use Rattle.std.specs.Prelude.{Option, Some, None, MatchOption, nat_eq}
use Rattle.std.specs.List.{starts_with}
use Rattle.std.specs.Str.{IsCharBoundary}
use Rattle.std.specs.Str.Pattern.{FindsTextPrefix, StripsPrefix}
use Rattle.std.proofs.lemmas.Str.Pattern.{starts_text}

pub begun : (front path : List ℕ) (r : Option (Bor (List ℕ))) → MatchOption r (FindsTextPrefix front path None) (λ x. StripsPrefix (FindsTextPrefix front) path x.now)
    → MatchOption r (starts_with nat_eq path front ≡ false) (λ x. (starts_with nat_eq path front ≡ true) × (x.now ≡ drop (length front) path))
begun front path None h = sym (starts_text false front path h)
begun front path (Some x) h = (sym (starts_text true front path (h.0, h.1, subst (IsCharBoundary path) (sym h.1.0) h.1.2)), h.2 ∙ ap (λ k. drop k path) h.1.0)
