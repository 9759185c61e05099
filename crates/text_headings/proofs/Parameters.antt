-- Going through parameters, and the place of a function.
use Rattle.std.proofs.Common.{◌≡◌, ℕ, zero, suc, ◌+◌, ◌<◌, ◌||◌, ◌==◌, Bool, true, false, List, [], ◌∷◌, ◌++◌, length, take, drop, get_or, refl, sym, ap, ◌∙◌}
use Rattle.std.specs.Prelude.{not}
use Rattle.std.proofs.lemmas.List.{take_more}
use Rattle.sts_base.specs.declared.refused.Code.TheVariants.{TwiceNamed, NeedsType}
use Rattle.sts_syntax.specs.declared.trees.Param.{Param}
use Rattle.sts_syntax.specs.declared.trees.Body.{Body, out-Body}
use Rattle.sts_syntax.specs.Views.{parameter, parameters, routine, optional_annotation}
use Rattle.sts_syntax.proofs.Laws.{routine_parts}
use Rattle.sts_scope.specs.Failures.{◌then◌, own, unless}
use Rattle.sts_scope.specs.Entries.{Naming}
use Rattle.sts_scope.specs.Headings.{takes_name, written_failure, parameters_failure, routine_at}
use Rattle.sts_scope.proofs.Laws.{drop_at}

parameters_take : (ps : List Param) (i : ℕ) → take i (parameters ps) ≡ parameters (take i ps)
parameters_take [] zero = refl
parameters_take [] (suc i) = refl
parameters_take (p ∷ ps) zero = refl
parameters_take (p ∷ ps) (suc i) = ap (λ xs. parameter p ∷ xs) (parameters_take ps i)

parameters_step : (names : Naming) (ps : List Param) (i : ℕ) (p : Param) → i < length ps → p ≡ get_or ps i p →
    parameters_failure names (parameters ps) i (parameters (drop i ps))
    ≡ ((own (optional_annotation p.shape) NeedsType p.at then unless (not (takes_name (parameters (take i ps)) p.name)) TwiceNamed p.at then written_failure names p.at (optional_annotation p.shape))
    then parameters_failure names (parameters ps) (i + 1) (parameters (drop (i + 1) ps)))
parameters_step names ps i p lt is =
    ap (λ xs. parameters_failure names (parameters ps) i (parameters xs)) (drop_at ps i p lt is)
    ∙ ap (λ qs. (own (optional_annotation p.shape) NeedsType p.at then unless (not (takes_name qs p.name)) TwiceNamed p.at then written_failure names p.at (optional_annotation p.shape))
    then parameters_failure names (parameters ps) (i + 1) (parameters (drop (i + 1) ps))) (parameters_take ps i)

-- the same by what is known of the name
pub parameter_step : (names : Naming) (ps : List Param) (i : ℕ) (p : Param) (twice : Bool) → i < length ps → p ≡ get_or ps i p → twice ≡ takes_name (parameters (take i ps)) p.name →
    parameters_failure names (parameters ps) i (parameters (drop i ps))
    ≡ ((own (optional_annotation p.shape) NeedsType p.at then unless (not twice) TwiceNamed p.at then written_failure names p.at (optional_annotation p.shape))
    then parameters_failure names (parameters ps) (i + 1) (parameters (drop (i + 1) ps)))
parameter_step names ps i p twice lt is h =
    parameters_step names ps i p lt is
    ∙ ap (λ b. (own (optional_annotation p.shape) NeedsType p.at then unless (not b) TwiceNamed p.at then written_failure names p.at (optional_annotation p.shape))
    then parameters_failure names (parameters ps) (i + 1) (parameters (drop (i + 1) ps))) (sym h)

either_first : (a b c : Bool) → (a || (b || c)) ≡ (b || (a || c))
either_first true true c = refl
either_first true false c = refl
either_first false b c = refl

takes_last : (ps : List Param) (p : Param) (y : ℕ) → takes_name (parameters (ps ++ p ∷ [])) y ≡ (p.name == y || takes_name (parameters ps) y)
takes_last [] p y = refl
takes_last (q ∷ qs) p y = ap (λ b. q.name == y || b) (takes_last qs p y) ∙ either_first (q.name == y) (p.name == y) (takes_name (parameters qs) y)

-- the names of the parameters so far, when one more was noted
pub takes_more : (ps : List Param) (i : ℕ) (p : Param) (y : ℕ) → i < length ps → p ≡ get_or ps i p →
    takes_name (parameters (take (i + 1) ps)) y ≡ (p.name == y || takes_name (parameters (take i ps)) y)
takes_more ps i p y lt is = ap (λ xs. takes_name (parameters xs) y) (take_more ps i p lt ∙ ap (λ x. take i ps ++ x ∷ []) (sym is)) ∙ takes_last (take i ps) p y

pub method_at : (b : Body) → routine_at (routine b) ≡ (out-Body b).at
method_at b = ap routine_at (routine_parts b)
