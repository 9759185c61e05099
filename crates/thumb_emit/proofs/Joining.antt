-- What follows from a branch's being joined, and when it isn't.
use Rattle.std.proofs.Common.{◌≡◌, ℕ, zero, suc, ◌+◌, ◌-◌, ◌<◌, ◌≤◌, ◌⊎◌, inl, inr, length, ◌==◌, Bool, true, false, not, ◌&&◌, cond, Option, Some, None, List, [], ◌∷◌, slice_get, refl, ap, sym, ◌∙◌, subst, arith}
use Rattle.std.specs.List.{list_any}
use Rattle.std.proofs.lemmas.Bool.{or_left, or_right, and_parts}
use Rattle.std.proofs.lemmas.Bool.Decides.{nat_tests}
use Rattle.flat_ir.specs.declared.ops.Op.{Op}
use Rattle.flat_ir.specs.declared.ops.Op.TheVariants.{Const, Copy, Unary, Binary, GlobalGet, GlobalSet, FieldGet, FieldSet, ItemGet, ItemSet, Length, Pop, TextOf, MakeObject, MakeArray, Call, CallSlot, HandlerOf, Ask, Jump, Branch, Return}
use Rattle.flat_ir.specs.declared.ops.Function.{Function}
use Rattle.flat_ir.specs.Ops.{target_of}
use Rattle.register_assign.specs.Marks.{is_the}
use Rattle.register_assign.specs.Unread.{is_unread}
use Rattle.thumb_emit.specs.Joined.{condition_of, condition_for, condition_between, is_gone_to, joined_by}

-- A BRANCH AFTER AN OP THAT DOESN'T COMPARE isn't joined
for_none : (op next : Op) → ((when : ℕ) → condition_of when op ≡ None) → condition_for op next ≡ None
for_none op (Branch when target) h = h when
for_none op (Const to value) h = refl
for_none op (Copy to from) h = refl
for_none op (Unary to o from) h = refl
for_none op (Binary to o left right) h = refl
for_none op (GlobalGet to slot) h = refl
for_none op (GlobalSet slot from) h = refl
for_none op (FieldGet to object field) h = refl
for_none op (FieldSet object field from) h = refl
for_none op (ItemGet to array index) h = refl
for_none op (ItemSet array index from) h = refl
for_none op (Length to array) h = refl
for_none op (Pop to array) h = refl
for_none op (TextOf to text) h = refl
for_none op (MakeObject to class) h = refl
for_none op (MakeArray to room) h = refl
for_none op (Call to function args) h = refl
for_none op (CallSlot to slot args) h = refl
for_none op (HandlerOf to function) h = refl
for_none op (Ask to service args) h = refl
for_none op (Jump target) h = refl
for_none op (Return from) h = refl

between_none : (op : Op) (next : Option Op) → ((when : ℕ) → condition_of when op ≡ None) → condition_between (Some op) next ≡ None
between_none op None h = refl
between_none op (Some next) h = for_none op next h

if_none : (b : Bool) (o : Option ℕ) → o ≡ None → cond b o None ≡ None
if_none true o e = e
if_none false o e = refl

joined_next : (f : Function) (k : ℕ) (op : Op) → slice_get f.ops k ≡ Some op → ((when : ℕ) → condition_of when op ≡ None) → joined_by f (suc k) ≡ None
unfolding joined_by
joined_next f k op g h =
    if_none (is_unread f (suc k) && not (is_gone_to f.ops (suc k))) _
    (ap (λ o. condition_between o (slice_get f.ops (suc k))) g ∙ between_none op (slice_get f.ops (suc k)) h)

pub joined_after : (f : Function) (k : ℕ) (op : Op) → slice_get f.ops k ≡ Some op → ((when : ℕ) → condition_of when op ≡ None) → joined_by f (k + 1) ≡ None
joined_after f k op g h = let z : suc k ≡ k + 1 = omega arith in subst (λ n. joined_by f n ≡ None) z (joined_next f k op g h)

-- THE FIRST OP isn't
pub joined_first : (f : Function) → joined_by f 0 ≡ None
unfolding joined_by
joined_first f = refl

if_gone : (a b : Bool) (o : Option ℕ) → b ≡ true → cond (a && not b) o None ≡ None
if_gone true true o e = refl
if_gone false true o e = refl
if_gone a false o e = absurd (cc)

-- PAST THE END none is
past : (ops : List Op) (n : ℕ) → length ops ≤ n → slice_get ops n ≡ None
past [] n l = refl
past (x ∷ ops) zero l = absurd (omega arith)
past (x ∷ ops) (suc n) l = past ops n (omega arith)

between_past : (o next : Option Op) → next ≡ None → condition_between o next ≡ None
between_past (Some op) None e = refl
between_past (Some op) (Some next) e = absurd (cc)
between_past None next e = refl

pub joined_outside : (f : Function) (at : ℕ) → (at ≡ 0) ⊎ (length f.ops ≤ at) → joined_by f at ≡ None
unfolding joined_by
joined_outside f zero h = refl
joined_outside f (suc k) (inl e) = absurd (omega arith)
joined_outside f (suc k) (inr l) =
    if_none (is_unread f (suc k) && not (is_gone_to f.ops (suc k))) _ (between_past (slice_get f.ops k) (slice_get f.ops (suc k)) (past f.ops (suc k) l))

-- WHAT IT IS between two ops
pub joined_inside : (f : Function) (at : ℕ) (op next : Op) → 0 < at → slice_get f.ops (at - 1) ≡ Some op → slice_get f.ops at ≡ Some next
    → joined_by f at ≡ cond (is_unread f at && not (is_gone_to f.ops at)) (condition_for op next) None
unfolding joined_by
joined_inside f zero op next l g h = absurd (omega arith)
joined_inside f (suc k) op next l g h =
    let z : suc k - 1 ≡ k = omega arith in
    let g' : slice_get f.ops k ≡ Some op = subst (λ n. slice_get f.ops n ≡ Some op) z g in
    let b = is_unread f (suc k) && not (is_gone_to f.ops (suc k)) in
    ap (λ o. cond b (condition_between o (slice_get f.ops (suc k))) None) g' ∙ ap (λ o. cond b (condition_between (Some op) o) None) h

pub joined_there : (f : Function) (at : ℕ) (op next : Op) (o : Option ℕ) → 0 < at → slice_get f.ops (at - 1) ≡ Some op → slice_get f.ops at ≡ Some next
    → o ≡ condition_for op next → is_unread f at ≡ true → is_gone_to f.ops at ≡ false → joined_by f at ≡ o
joined_there f at op next o l g h e u n =
    joined_inside f at op next l g h ∙ (ap (λ b. cond (b && not (is_gone_to f.ops at)) (condition_for op next) None) u
    ∙ (ap (λ b. cond (true && not b) (condition_for op next) None) n ∙ sym e))

pub joined_not : (f : Function) (at : ℕ) (op next : Op) → 0 < at → slice_get f.ops (at - 1) ≡ Some op → slice_get f.ops at ≡ Some next
    → (condition_for op next ≡ None) ⊎ ((is_unread f at ≡ false) ⊎ (is_gone_to f.ops at ≡ true)) → joined_by f at ≡ None
joined_not f at op next l g h w = joined_inside f at op next l g h ∙ by w
  where
    by : (condition_for op next ≡ None) ⊎ ((is_unread f at ≡ false) ⊎ (is_gone_to f.ops at ≡ true))
        → cond (is_unread f at && not (is_gone_to f.ops at)) (condition_for op next) None ≡ None
    by (inl e) = if_none (is_unread f at && not (is_gone_to f.ops at)) _ e
    by (inr (inl u)) = ap (λ b. cond (b && not (is_gone_to f.ops at)) (condition_for op next) None) u
    by (inr (inr n)) = if_gone (is_unread f at) (is_gone_to f.ops at) _ n

-- ONE TO WHICH AN OP GOES isn't
any_at : (p : Op → Bool) (ops : List Op) (k : ℕ) (op : Op) → slice_get ops k ≡ Some op → p op ≡ true → list_any p ops ≡ true
any_at p [] k op g h = absurd (cc)
any_at p (x ∷ ops) zero op g h = let e : x ≡ op = cc in or_left (p x) (list_any p ops) (ap p e ∙ h)
any_at p (x ∷ ops) (suc k) op g h = or_right (p x) (list_any p ops) (any_at p ops k op g h)

is_the_same : (n : ℕ) (o : Option ℕ) → o ≡ Some n → is_the n o ≡ true
is_the_same n None e = absurd (cc)
is_the_same n (Some m) e = let z : m ≡ n = cc in let y : (m == n) ≡ true = grind (arith, nat_tests) in y

pub joined_target : (f : Function) (at k : ℕ) (op : Op) → slice_get f.ops k ≡ Some op → target_of op ≡ Some at → joined_by f at ≡ None
unfolding joined_by
joined_target f zero k op g t = refl
joined_target f (suc n) k op g t =
    if_gone (is_unread f (suc n)) (is_gone_to f.ops (suc n)) _
    (any_at (λ (o : Op). is_the (suc n) (target_of o)) f.ops k op g (is_the_same (suc n) (target_of op) t))

-- WHAT IS JOINED: a comparison whose result the branch after it tests, and nobody reads after that
pub record Joins (f : Function) (k condition : ℕ) : Type 0 where
  pub op : Op
  pub when : ℕ
  pub target : ℕ
  pub first : slice_get f.ops k ≡ Some op
  pub second : slice_get f.ops (suc k) ≡ Some (Branch when target)
  pub compares : condition_of when op ≡ Some condition
  pub unread : is_unread f (suc k) ≡ true

if_some : (b : Bool) (o : Option ℕ) (c : ℕ) → cond b o None ≡ Some c → (b ≡ true) × (o ≡ Some c)
if_some true o c e = (refl, e)
if_some false o c e = absurd (cc)

module _ (f : Function) (k c : ℕ) (unread : is_unread f (suc k) ≡ true) where
  of_next : (op next : Op) → slice_get f.ops k ≡ Some op → slice_get f.ops (suc k) ≡ Some next → condition_for op next ≡ Some c → Joins f k c
  of_next op (Branch when target) g n e =
      record { op = op; when = when; target = target; first = g; second = n; compares = e; unread = unread }
  of_next op (Const to value) g n e = absurd (cc)
  of_next op (Copy to from) g n e = absurd (cc)
  of_next op (Unary to o from) g n e = absurd (cc)
  of_next op (Binary to o left right) g n e = absurd (cc)
  of_next op (GlobalGet to slot) g n e = absurd (cc)
  of_next op (GlobalSet slot from) g n e = absurd (cc)
  of_next op (FieldGet to object field) g n e = absurd (cc)
  of_next op (FieldSet object field from) g n e = absurd (cc)
  of_next op (ItemGet to array index) g n e = absurd (cc)
  of_next op (ItemSet array index from) g n e = absurd (cc)
  of_next op (Length to array) g n e = absurd (cc)
  of_next op (Pop to array) g n e = absurd (cc)
  of_next op (TextOf to text) g n e = absurd (cc)
  of_next op (MakeObject to class) g n e = absurd (cc)
  of_next op (MakeArray to room) g n e = absurd (cc)
  of_next op (Call to function args) g n e = absurd (cc)
  of_next op (CallSlot to slot args) g n e = absurd (cc)
  of_next op (HandlerOf to function) g n e = absurd (cc)
  of_next op (Ask to service args) g n e = absurd (cc)
  of_next op (Jump target) g n e = absurd (cc)
  of_next op (Return from) g n e = absurd (cc)

  of_both : (o next : Option Op) → slice_get f.ops k ≡ o → slice_get f.ops (suc k) ≡ next → condition_between o next ≡ Some c → Joins f k c
  of_both (Some op) (Some next) g n e = of_next op next g n e
  of_both (Some op) None g n e = absurd (cc)
  of_both None next g n e = absurd (cc)

pub joined_parts : (f : Function) (k c : ℕ) → joined_by f (suc k) ≡ Some c → Joins f k c
unfolding joined_by
joined_parts f k c e =
    let p = if_some (is_unread f (suc k) && not (is_gone_to f.ops (suc k))) _ c e in
    of_both f k c (and_parts (is_unread f (suc k)) (not (is_gone_to f.ops (suc k))) p.0).0 (slice_get f.ops k) (slice_get f.ops (suc k)) refl refl p.1

pub joined_unread : (f : Function) (at c : ℕ) → joined_by f at ≡ Some c → is_unread f at ≡ true
unfolding joined_by
joined_unread f zero c e = absurd (cc)
joined_unread f (suc k) c e = (joined_parts f k c e).unread
