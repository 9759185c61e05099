-- Which ops are well formed, one by one.
use Rattle.std.proofs.Common.{◌≡◌, ℕ, zero, suc, ◌+◌, ◌<◌, ◌≤◌, List, [], ◌∷◌, ◌++◌, length, arith}
use Rattle.std.specs.Prelude.{ℤ}
use Rattle.std.specs.List.{AllByRecursion}
use Rattle.flat_ir.specs.declared.ops.Op.{Op}
use Rattle.flat_ir.specs.declared.ops.Op.TheVariants as o
use Rattle.flat_ir.specs.WellFormed.{IsOpWithin, NamesParts}
use Rattle.sts_lower.specs.Code.{span}

-- An op is as it must be in a function with so many temporaries, places and outgoing arguments, of a program with so many functions and classes.
module _ (temps places outs functions classes : ℕ) where
  abbrev pub Ok : Op → Type 0
  Ok op = IsOpWithin temps places outs op × NamesParts functions classes op

  abbrev pub AllOk : List Op → Type 0
  AllOk ops = AllByRecursion Ok ops

  pub both_ok : (xs ys : List Op) → AllOk xs → AllOk ys → AllOk (xs ++ ys)
  both_ok [] ys h g = g
  both_ok (x ∷ xs) ys h g = (h.0, both_ok xs ys h.1 g)

  pub const_ok : (to : ℕ) (n : ℤ) → to < temps → Ok (o.Const to n)
  const_ok to n t = (record { names = (t, tt); goes = tt; ranges = tt }, tt)

  pub text_ok : (to n : ℕ) → to < temps → Ok (o.TextOf to n)
  text_ok to n t = (record { names = (t, tt); goes = tt; ranges = tt }, tt)

  pub copy_ok : (to from : ℕ) → to < temps → from < temps → Ok (o.Copy to from)
  copy_ok to from t f = (record { names = (t, (f, tt)); goes = tt; ranges = tt }, tt)

  pub unary_ok : (to op from : ℕ) → to < temps → from < temps → Ok (o.Unary to op from)
  unary_ok to op from t f = (record { names = (t, (f, tt)); goes = tt; ranges = tt }, tt)

  pub binary_ok : (to op x y : ℕ) → to < temps → x < temps → y < temps → Ok (o.Binary to op x y)
  binary_ok to op x y t f g = (record { names = (t, (f, (g, tt))); goes = tt; ranges = tt }, tt)

  pub global_get_ok : (to slot : ℕ) → to < temps → slot < 256 → Ok (o.GlobalGet to slot)
  global_get_ok to slot t s = (record { names = (t, tt); goes = tt; ranges = s }, tt)

  pub global_set_ok : (slot from : ℕ) → slot < 256 → from < temps → Ok (o.GlobalSet slot from)
  global_set_ok slot from s f = (record { names = (f, tt); goes = tt; ranges = s }, tt)

  pub field_get_ok : (to ob i : ℕ) → to < temps → ob < temps → Ok (o.FieldGet to ob i)
  field_get_ok to ob i t f = (record { names = (t, (f, tt)); goes = tt; ranges = tt }, tt)

  pub field_set_ok : (ob i from : ℕ) → ob < temps → from < temps → Ok (o.FieldSet ob i from)
  field_set_ok ob i from t f = (record { names = (t, (f, tt)); goes = tt; ranges = tt }, tt)

  pub item_get_ok : (to a i : ℕ) → to < temps → a < temps → i < temps → Ok (o.ItemGet to a i)
  item_get_ok to a i t f g = (record { names = (t, (f, (g, tt))); goes = tt; ranges = tt }, tt)

  pub item_set_ok : (a i from : ℕ) → a < temps → i < temps → from < temps → Ok (o.ItemSet a i from)
  item_set_ok a i from t f g = (record { names = (t, (f, (g, tt))); goes = tt; ranges = tt }, tt)

  pub length_ok : (to a : ℕ) → to < temps → a < temps → Ok (o.Length to a)
  length_ok to a t f = (record { names = (t, (f, tt)); goes = tt; ranges = tt }, tt)

  pub pop_ok : (to a : ℕ) → to < temps → a < temps → Ok (o.Pop to a)
  pop_ok to a t f = (record { names = (t, (f, tt)); goes = tt; ranges = tt }, tt)

  pub object_ok : (to k : ℕ) → to < temps → k < classes → Ok (o.MakeObject to k)
  object_ok to k t f = (record { names = (t, tt); goes = tt; ranges = tt }, f)

  pub array_ok : (to n : ℕ) → to < temps → Ok (o.MakeArray to n)
  array_ok to n t = (record { names = (t, tt); goes = tt; ranges = tt }, tt)

  pub handler_ok : (to f : ℕ) → to < temps → f < functions → Ok (o.HandlerOf to f)
  handler_ok to f t g = (record { names = (t, tt); goes = tt; ranges = tt }, g)

  pub jump_ok : (t : ℕ) → t < places → Ok (o.Jump t)
  jump_ok t p = (record { names = tt; goes = (p, tt); ranges = tt }, tt)

  pub branch_ok : (when t : ℕ) → when < temps → t < places → Ok (o.Branch when t)
  branch_ok when t w p = (record { names = (w, tt); goes = (p, tt); ranges = tt }, tt)

  pub return_ok : (from : ℕ) → from < temps → Ok (o.Return from)
  return_ok from f = (record { names = (f, tt); goes = tt; ranges = tt }, tt)

  abbrev Below : List ℕ → Type 0
  Below ts = AllByRecursion (λ t. t < temps) ts

  span_below : (t n : ℕ) (rest : List ℕ) → t + n ≤ temps → Below rest → Below (span t n rest)
  span_below t zero rest le h = h
  span_below t (suc n) rest le h = span_below t n ((t + n) ∷ rest) (omega arith) (omega arith, h)

  span_long : (t n : ℕ) (rest : List ℕ) → length (span t n rest) ≡ n + length rest
  span_long t zero rest = omega arith
  span_long t (suc n) rest = omega (arith, span_long t n ((t + n) ∷ rest))

  pub call_ok : (to f t n : ℕ) → to < temps → f < functions → t + n ≤ temps → n ≤ outs → Ok (o.Call to f (span t n []))
  call_ok to f t n lt g le few = (record { names = (lt, span_below t n [] le tt); goes = tt; ranges = omega (arith, span_long t n []) }, g)

  pub build_ok : (to f this t n : ℕ) → to < temps → f < functions → this < temps → t + n ≤ temps → suc n ≤ outs → Ok (o.Call to f (this ∷ span t n []))
  build_ok to f this t n lt g th le few = (record { names = (lt, (th, span_below t n [] le tt)); goes = tt; ranges = omega (arith, span_long t n []) }, g)

  pub slot_ok : (to s t n : ℕ) → to < temps → s < 30 → t + n ≤ temps → n ≤ outs → Ok (o.CallSlot to s (span t n []))
  slot_ok to s t n lt g le few = (record { names = (lt, span_below t n [] le tt); goes = tt; ranges = (g, omega (arith, span_long t n [])) }, tt)

  pub ask_ok : (to s t n : ℕ) → to < temps → s < 24 → t + n ≤ temps → n ≤ 4 → Ok (o.Ask to s (span t n []))
  ask_ok to s t n lt g le few = (record { names = (lt, span_below t n [] le tt); goes = tt; ranges = (g, omega (arith, span_long t n [])) }, tt)

  pub push_ok : (to x y : ℕ) → to < temps → x < temps → y < temps → Ok (o.Ask to 19 (x ∷ (y ∷ [])))
  push_ok to x y lt f g = (record { names = (lt, (f, (g, tt))); goes = tt; ranges = (omega arith, omega arith) }, tt)

  pub spawn_ok : (to x : ℕ) → to < temps → x < temps → Ok (o.Ask to 4 (x ∷ []))
  spawn_ok to x lt f = (record { names = (lt, (f, tt)); goes = tt; ranges = (omega arith, omega arith) }, tt)
