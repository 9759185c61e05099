-- One base further up.
use Rattle.std.proofs.Common.{◌≡◌, ℕ, suc, ◌==◌, ◌||◌, Bool, false, sym, ap, ◌∙◌, Option, Some, None, List, []}
use Rattle.std.specs.Prelude.{slice_get}
use Rattle.sts_scope.specs.declared.entries.Entry.{Entry}
use Rattle.sts_scope.specs.declared.entries.ClassHead.{ClassHead}
use Rattle.sts_scope.specs.declared.entries.Owner.TheVariants as o
use Rattle.sts_scope.specs.Lookup.{base_of, entry_number, member_from}
use Rattle.sts_scope.specs.Bases.{above}
use Rattle.sts_scope.specs.Rules.{reaches, maker_from}

pub above_step : (classes : List ClassHead) (m n c b : ℕ) → m ≡ suc n → base_of classes c ≡ Some b → above classes n b ≡ above classes m c
above_step classes m n c b e h =
    let F : Option ℕ → Option ℕ = λ o. elim o [ None ↦ None | Some x ↦ above classes n x ] in
    sym (ap (λ k. above classes k c) e ∙ ap F h)

pub member_step : (entries : List Entry) (classes : List ClassHead) (m n c b x : ℕ) → m ≡ suc n → entry_number entries (o.Class c) x ≡ None → base_of classes c ≡ Some b →
    member_from entries classes n b x ≡ member_from entries classes m c x
member_step entries classes m n c b x e g h =
    let F : Option ℕ → Option ℕ = λ o. elim o [ None ↦ None | Some y ↦ member_from entries classes n y x ] in
    let G : Option ℕ → Option ℕ = λ o. elim o [ Some d ↦ Some d | None ↦ F (base_of classes c) ] in
    sym (ap (λ k. member_from entries classes k c x) e ∙ ap G g ∙ ap F h)

pub reaches_step : (classes : List ClassHead) (m n c x b : ℕ) → m ≡ suc n → (c == x) ≡ false → base_of classes c ≡ Some b → reaches classes n b x ≡ reaches classes m c x
unfolding reaches
reaches_step classes m n c x b e f h =
    let F : Option ℕ → Bool = λ o. elim o [ None ↦ false | Some up ↦ reaches classes n up x ] in
    sym (ap (λ j. reaches classes j c x) e ∙ ap (λ t. t || F (base_of classes c)) f ∙ ap F h)

pub maker_step : (classes : List ClassHead) (m n c b : ℕ) (class : ClassHead) → m ≡ suc n → slice_get classes c ≡ Some class → class.takes ≡ None → class.base ≡ Some b →
    maker_from classes n b ≡ maker_from classes m c
maker_step classes m n c b class e h takes base =
    sym (ap (λ j. maker_from classes j c) e
    ∙ ap (λ o. elim o [ None ↦ [] | Some class ↦ elim class.takes [ Some takes ↦ takes | None ↦ elim class.base [ None ↦ [] | Some b ↦ maker_from classes n b ] ] ]) h
    ∙ ap (λ o. elim o [ Some takes ↦ takes | None ↦ elim class.base [ None ↦ [] | Some b ↦ maker_from classes n b ] ]) takes
    ∙ ap (λ o. elim o [ None ↦ [] | Some b ↦ maker_from classes n b ]) base)
