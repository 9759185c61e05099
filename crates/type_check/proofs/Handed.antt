-- What a node's answer says: its first failure is that of its parts, in their order, and then its own.
use Rattle.std.proofs.Common.{◌≡◌, ◌⊎◌, inl, inr, ℕ, Option, None, sym, ap, ◌∙◌, subst, Result, Ok, Err}
use Rattle.std.specs.declared.alloc.Global.{Global}
use Rattle.std.specs.declared.boxed.Box.{Box}
use Rattle.std.specs.Prelude.{IsErr, IsErrAnd, IfOk, OnOk}
use Rattle.std.proofs.lemmas.Bool.{false≢true}
use Rattle.sts_base.specs.declared.refused.Refused.{Refused}
use Rattle.sts_base.specs.declared.refused.Refused.TheVariants.{Program, NoMemory}
use Rattle.sts_base.specs.declared.refused.Code.{Code}
use Rattle.sts_syntax.specs.declared.trees.Expr.{Expr}
use Rattle.sts_syntax.specs.declared.trees.Node.TheVariants as n
use Rattle.sts_syntax.specs.Trees.{Tree, Both, Either, Statement}
use Rattle.sts_syntax.specs.Views.{tree}
use Rattle.sts_scope.specs.declared.kinds.StaticType.{StaticType}
use Rattle.sts_scope.specs.Failures.{Failure, ◌then◌, own, RefusedWith, Finds}
use Rattle.sts_scope.specs.Places.{NameScope}
use Rattle.type_derive.specs.declared.context.Context.{Context}
use Rattle.type_derive.specs.declared.roles.Role.{Role}
use Rattle.type_derive.specs.Typing.{◌>>=◌, type_of}
use Rattle.type_check.specs.declared.seen.Seen.{Seen}
use Rattle.type_check.specs.Seen.{plain}
use Rattle.type_check.proofs.Forms.{both_is, either_is}
use Rattle.type_check.specs.Contexts.{failure, seen_of, statement_failure, after}

-- what `?` returns of a refusal
abbrev pub IsHanded : {X : Type 0} → Result X Refused → Refused → Type 0
IsHanded result why = IsErr result × IsErrAnd result (λ given. given ≡ why)

-- a part's failure that is handed on
pub handed : {X : Type 0} (result : Result X Refused) (why : Refused) (x : Option Failure) → IsHanded result why → RefusedWith why x → Finds result x
handed (Ok v) why x h found = absurd (false≢true h.0)
handed (Err given) why x h found = subst (λ q. RefusedWith q x) (sym h.1) found

-- want of memory comes whatever fails
pub wanting : {X : Type 0} (result : Result X Refused) (why : Refused) (x : Option Failure) → IsHanded result why → why ≡ NoMemory → Finds result x
wanting result why x h is = handed result why x h (subst (λ q. RefusedWith q x) (sym is) tt)

-- it comes before what stands behind
pub handed_first : {X : Type 0} (result : Result X Refused) (why : Refused) (x rest : Option Failure) → IsHanded result why → RefusedWith why x → Finds result (x then rest)
handed_first (Ok v) why x rest h found = absurd (false≢true h.0)
handed_first (Err given) (Program code at) x rest h found = subst (λ q. RefusedWith q (x then rest)) (sym h.1) (ap (λ q. q then rest) found)
handed_first (Err given) NoMemory x rest h found = subst (λ q. RefusedWith q (x then rest)) (sym h.1) tt

-- where a part has no failure, that of what stands behind it
pub past : {X : Type 0} (result : Result X Refused) (x y : Option Failure) → x ≡ None → Finds result y → Finds result (x then y)
past result x y none found = subst (Finds result) (sym (ap (λ q. q then y) none)) found

pub nothing_in : (x y : Option Failure) → x ≡ None → y ≡ None → (x then y) ≡ None
nothing_in x y none nothing = ap (λ q. q then y) none ∙ nothing

-- a node's own, by its type
pub owned : {X : Type 0} (result : Result X Refused) (o u : Option StaticType) (code : Code) (at : ℕ) → o ≡ u → Finds result (own o code at) → Finds result (own u code at)
owned result o u code at is found = subst (λ q. Finds result (own q code at)) is found

pub sees : (result : Result Seen Refused) (o u : Option StaticType) → o ≡ u → IfOk result (λ s. s ≡ plain o) → IfOk result (λ s. s ≡ plain u)
sees result o u is seen = subst (λ q. IfOk result (λ s. s ≡ plain q)) is seen

-- whatever is given, this holds
pub on_ok : {X P : Type 0} (result : Result X Refused) → P → OnOk result P
on_ok (Ok v) holds = holds
on_ok (Err why) holds = tt

-- of an expression that is made of these parts
module _ (c : Context) (p : NameScope) (r : Role) (result : Result Seen Refused) (x y : Tree) where
  pub finds_as : x ≡ y → Finds result (failure c p r y) → Finds result (failure c p r x)
  finds_as is found = subst (λ q. Finds result (failure c p r q)) (sym is) found

  pub sees_as : x ≡ y → IfOk result (λ s. s ≡ seen_of c p r y) → IfOk result (λ s. s ≡ seen_of c p r x)
  sees_as is seen = subst (λ q. IfOk result (λ s. s ≡ seen_of c p r q)) (sym is) seen

-- of `&&` or `||`, of which one fails as the other would
module _ (c : Context) (p : NameScope) (r : Role) (result : Result Seen Refused) (e : Expr) (a b : Box Expr Global) (x y : Expr) where
  pub joined_finds : (e.node ≡ n.Both a b) ⊎ (e.node ≡ n.Either a b) → x ≡ a.value → y ≡ b.value → Finds result (failure c p r (Both e.at (tree x) (tree y))) → Finds result (failure c p r (tree e))
  joined_finds (inl is) hx hy found = finds_as c p r result (tree e) (Both e.at (tree x) (tree y)) (both_is e a b x y is hx hy) found
  joined_finds (inr is) hx hy found = finds_as c p r result (tree e) (Either e.at (tree x) (tree y)) (either_is e a b x y is hx hy) found

  pub joined_sees : (e.node ≡ n.Both a b) ⊎ (e.node ≡ n.Either a b) → x ≡ a.value → y ≡ b.value →
      IfOk result (λ s. s ≡ seen_of c p r (Both e.at (tree x) (tree y))) → IfOk result (λ s. s ≡ seen_of c p r (tree e))
  joined_sees (inl is) hx hy seen = sees_as c p r result (tree e) (Both e.at (tree x) (tree y)) (both_is e a b x y is hx hy) seen
  joined_sees (inr is) hx hy seen = sees_as c p r result (tree e) (Either e.at (tree x) (tree y)) (either_is e a b x y is hx hy) seen

-- of a statement
module _ (c : Context) (p : NameScope) {X : Type 0} (result : Result X Refused) (x y : Statement) where
  pub statement_finds_as : x ≡ y → Finds result (statement_failure c p y) → Finds result (statement_failure c p x)
  statement_finds_as is found = subst (λ q. Finds result (statement_failure c p q)) (sym is) found

  pub place_as : (q : NameScope) → x ≡ y → OnOk result (q ≡ after c p y) → OnOk result (q ≡ after c p x)
  place_as q is holds = subst (λ z. OnOk result (q ≡ after c p z)) (sym is) holds

-- the type that the code has of a part
pub kind_seen : (c : Context) (p : NameScope) (r : Role) (s : Seen) (x : Expr) → s ≡ seen_of c p r (tree x) → s.kind ≡ type_of c.tables.now c.known.now p r (tree x)
kind_seen c p r s x h = ap (λ (q : Seen). q.kind) h

-- what is made of the types of two and of three parts
pub of_two : (f : StaticType → StaticType → Option StaticType) (o u v w : Option StaticType) → o ≡ v → u ≡ w → (o >>= λ a. u >>= λ b. f a b) ≡ (v >>= λ a. w >>= λ b. f a b)
of_two f o u v w h k = ap (λ q. q >>= λ a. u >>= λ b. f a b) h ∙ ap (λ q. v >>= λ a. q >>= λ b. f a b) k

pub of_three : (f : StaticType → StaticType → StaticType → Option StaticType) (m o u n v w : Option StaticType) → m ≡ n → o ≡ v → u ≡ w →
    (m >>= λ q. o >>= λ a. u >>= λ b. f q a b) ≡ (n >>= λ q. v >>= λ a. w >>= λ b. f q a b)
of_three f m o u n v w g h k =
    ap (λ z. z >>= λ q. o >>= λ a. u >>= λ b. f q a b) g ∙ ap (λ z. n >>= λ q. z >>= λ a. u >>= λ b. f q a b) h ∙ ap (λ z. n >>= λ q. v >>= λ a. z >>= λ b. f q a b) k
