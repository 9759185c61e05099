use Rattle.std.proofs.Common.{◌≡◌, ◌++◌, ◌∷◌, [], ◌≤◌, length, sym, ap, ◌∙◌, arith, append-nil}
use Rattle.sts_scope.proofs.Laws.{drop_end}
use Rattle.type_derive.proofs.locals.lent.Goals as goal

pub returns-in-Ok : goal.returns-in-Ok
returns-in-Ok c =
    let fs = c.args.around.now in
    let ys = c.loop-k.all.items in
    let ge : length fs ≤ c.loop-k.k = omega arith in
    let all : ys ≡ fs = sym (append-nil ys) ∙ ap (λ zs. ys ++ zs) (sym (drop_end fs c.loop-k.k ge)) ∙ c.loop-k.invariant in
    c.in-Ok.ensures.items ∙ ap (λ zs. zs ++ c.args.inner ∷ []) all
