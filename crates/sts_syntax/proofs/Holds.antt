-- An expression holds at most three times its weight; measures of lists, step by step.
use Rattle.std.proofs.Common.{◌≡◌, ℕ, suc, ◌+◌, ◌*◌, ◌<◌, ◌≤◌, max, List, [], ◌∷◌, length, get_or, drop, add-one, refl, sym, ap, ◌∙◌, arith, lit≤, Some, None}
use Rattle.sts_syntax.specs.declared.typed.Callee.{Callee}
use Rattle.sts_syntax.specs.declared.typed.Callee.TheVariants as c
use Rattle.sts_syntax.specs.declared.typed.TypedExpr.{TypedExpr}
use Rattle.sts_syntax.specs.BoardTable.{row_of, ServicePlace, Written, Always, BoardAction, Service, Library, Repeats, placed, arranged}
use Rattle.sts_syntax.specs.TypedTrees.{TypedTree, Num, Text, Truth, Null, This, Name, Unary, Binary, Both, Either, Choice, Set, Bump, Field, Length, Item, Call, SuperCall, Make, Items, Handler, TypedTrees, none, more}
use Rattle.sts_syntax.specs.TypedViews.{typed_tree, typed_trees}
use Rattle.sts_syntax.specs.Measures.{total, stacked, greatest, argument_sizes, hold, holds, target_hold, outgoing, outgoing_all, how_many}
use Rattle.sts_syntax.specs.Weights.{weight_of, weights}
use Rattle.sts_syntax.proofs.BoardLookup.{drop_at}
use Rattle.sts_syntax.proofs.Measured.{one_more}

pub weighs : (a : TypedTree) → 1 ≤ weight_of a
weighs (Num t n) = lit≤ tt
weighs (Text t n) = lit≤ tt
weighs (Truth t b) = lit≤ tt
weighs (Null t) = lit≤ tt
weighs (This t) = lit≤ tt
weighs (Name t x) = lit≤ tt
weighs (Unary t op a) = omega arith
weighs (Binary t op a b) = omega arith
weighs (Both t a b) = omega arith
weighs (Either t a b) = omega arith
weighs (Choice t test a b) = omega arith
weighs (Set t None x r) = omega arith
weighs (Set t (Some op) x r) = omega arith
weighs (Bump t x by late) = omega arith
weighs (Field t a f) = omega arith
weighs (Length t a) = omega arith
weighs (Item t a i) = omega arith
weighs (Call t f args) = omega (arith, one_more f)
weighs (SuperCall t f args) = omega arith
weighs (Make t class args) = omega arith
weighs (Items t items) = omega arith
weighs (Handler t f) = lit≤ tt

-- each of some expressions holds at most three times its weight
abbrev pub AreBelow : TypedTrees → Type 0
AreBelow none = Unit {0}
AreBelow (more a rest) = (hold a ≤ 3 * weight_of a) × AreBelow rest

stacked_le : (below : ℕ) (args : TypedTrees) → AreBelow args → stacked below (holds args) ≤ below + 3 * total (weights args)
stacked_le below none all = omega arith
stacked_le below (more a rest) all = omega (arith, all.0, weighs a, stacked_le (suc below) rest all.1)

placed_le : (places : List ServicePlace) (below : ℕ) (args : TypedTrees) → AreBelow args
    → stacked below (placed (λ n. 1) places (holds args)) ≤ below + 3 * total (placed (λ n. 1) places (weights args))
placed_le [] below args all = stacked_le below args all
placed_le (Written ∷ ps) below none all = placed_le ps below none all
placed_le (Written ∷ ps) below (more a rest) all = omega (arith, all.0, weighs a, placed_le ps (suc below) rest all.1)
placed_le (Always n ∷ ps) below args all = omega (arith, placed_le ps (suc below) args all)

arranged_le : (action : BoardAction) (args : TypedTrees) → AreBelow args
    → stacked 0 (arranged (λ n. 1) action (holds args)) ≤ 3 * total (arranged (λ n. 1) action (weights args))
arranged_le (Service number places) args all = omega (arith, placed_le places 0 args all)
arranged_le (Library function) args all = omega (arith, stacked_le 0 args all)
arranged_le Repeats args all = omega (arith, stacked_le 0 args all)

arguments_le : (f : Callee) (args : TypedTrees) → AreBelow args → stacked 0 (argument_sizes 1 f (holds args)) ≤ 3 * total (argument_sizes 1 f (weights args))
arguments_le (c.Function f) args all = omega (arith, stacked_le 0 args all)
arguments_le (c.Slot s) args all = omega (arith, stacked_le 0 args all)
arguments_le c.Push args all = omega (arith, stacked_le 0 args all)
arguments_le c.Pop args all = omega (arith, stacked_le 0 args all)
arguments_le (c.Board call) args all = arranged_le (row_of call).action args all

greatest_le : (args : TypedTrees) → AreBelow args → greatest (holds args) ≤ 3 * total (weights args)
greatest_le none all = omega arith
greatest_le (more a rest) all = omega (arith, all.0, greatest_le rest all.1)

pub few_holds : (args : TypedTrees) → length (holds args) ≤ total (weights args)
few_holds none = omega arith
few_holds (more a rest) = omega (arith, weighs a, few_holds rest)

mutual
  pub hold_le : (a : TypedTree) → hold a ≤ 3 * weight_of a
  hold_le (Num t n) = lit≤ tt
  hold_le (Text t n) = lit≤ tt
  hold_le (Truth t b) = lit≤ tt
  hold_le (Null t) = lit≤ tt
  hold_le (This t) = lit≤ tt
  hold_le (Name t x) = lit≤ tt
  hold_le (Unary t op a) = omega (arith, hold_le a)
  hold_le (Binary t op a b) = omega (arith, hold_le a, hold_le b)
  hold_le (Both t a b) = omega (arith, hold_le a, hold_le b)
  hold_le (Either t a b) = omega (arith, hold_le a, hold_le b)
  hold_le (Choice t test a b) = omega (arith, hold_le test, hold_le a, hold_le b)
  hold_le (Set t None x r) = omega (arith, target_le x 0 (hold r), hold_le r)
  hold_le (Set t (Some op) x r) = omega (arith, target_le x 1 (hold r), hold_le r)
  hold_le (Bump t x by late) = omega (arith, target_le x 1 0)
  hold_le (Field t a f) = omega (arith, hold_le a)
  hold_le (Length t a) = omega (arith, hold_le a)
  hold_le (Item t a i) = omega (arith, hold_le a, hold_le i)
  hold_le (Call t f args) = omega (arith, one_more f, arguments_le f args (holds_le args))
  hold_le (SuperCall t f args) = omega (arith, stacked_le 1 args (holds_le args))
  hold_le (Make t class args) = omega (arith, few_holds args, stacked_le 0 args (holds_le args))
  hold_le (Items t items) = omega (arith, greatest_le items (holds_le items))
  hold_le (Handler t f) = lit≤ tt

  holds_le : (args : TypedTrees) → AreBelow args
  holds_le none = tt
  holds_le (more a rest) = (hold_le a, holds_le rest)

  target_le : (x : TypedTree) (read r : ℕ) → target_hold x read r ≤ 3 * weight_of x + read + r
  target_le (Num t n) read r = omega arith
  target_le (Text t n) read r = omega arith
  target_le (Truth t b) read r = omega arith
  target_le (Null t) read r = omega arith
  target_le (This t) read r = omega arith
  target_le (Name t x) read r = omega arith
  target_le (Unary t op a) read r = omega arith
  target_le (Binary t op a b) read r = omega arith
  target_le (Both t a b) read r = omega arith
  target_le (Either t a b) read r = omega arith
  target_le (Choice t test a b) read r = omega arith
  target_le (Set t op x a) read r = omega arith
  target_le (Bump t x by late) read r = omega arith
  target_le (Field t a f) read r = omega (arith, hold_le a)
  target_le (Length t a) read r = omega arith
  target_le (Item t a i) read r = omega (arith, hold_le a, hold_le i)
  target_le (Call t f args) read r = omega arith
  target_le (SuperCall t f args) read r = omega arith
  target_le (Make t class args) read r = omega arith
  target_le (Items t items) read r = omega arith
  target_le (Handler t f) read r = omega arith

pub greatest_holds_le : (args : TypedTrees) → greatest (holds args) ≤ 3 * total (weights args)
greatest_holds_le args = greatest_le args (holds_le args)

pub holds_step : (items : List TypedExpr) (i : ℕ) (d : TypedExpr) → i < length items
    → holds (typed_trees (drop i items)) ≡ hold (typed_tree (get_or items i d)) ∷ holds (typed_trees (drop (i + 1) items))
holds_step items i d lt = ap (λ all. holds (typed_trees all)) (drop_at items i d lt)

pub outgoing_step : (items : List TypedExpr) (i : ℕ) (d : TypedExpr) → i < length items
    → outgoing_all (typed_trees (drop i items)) ≡ max (outgoing (typed_tree (get_or items i d))) (outgoing_all (typed_trees (drop (i + 1) items)))
outgoing_step items i d lt = ap (λ all. outgoing_all (typed_trees all)) (drop_at items i d lt)

pub how_many_are : (items : List TypedExpr) → how_many (typed_trees items) ≡ length items
how_many_are [] = refl
how_many_are (x ∷ rest) = ap suc (how_many_are rest)

pub holds_length : (items : List TypedExpr) → length (holds (typed_trees items)) ≡ length items
holds_length [] = refl
holds_length (x ∷ rest) = ap suc (holds_length rest)

pub weights_next : (items : List TypedExpr) (i : ℕ) (a : TypedExpr) → i < length items → a ≡ get_or items i a
    → total (weights (typed_trees (drop i items))) ≡ weight_of (typed_tree a) + total (weights (typed_trees (drop (i + 1) items)))
weights_next items i a lt is =
    ap (λ all. total (weights (typed_trees all))) (drop_at items i a lt)
    ∙ ap (λ x. weight_of (typed_tree x) + total (weights (typed_trees (drop (i + 1) items)))) (sym is)

pub stacked_next : (items : List TypedExpr) (i : ℕ) (a : TypedExpr) (below : ℕ) → i < length items → a ≡ get_or items i a
    → stacked below (holds (typed_trees (drop i items))) ≡ max (below + hold (typed_tree a)) (stacked (below + 1) (holds (typed_trees (drop (i + 1) items))))
stacked_next items i a below lt is =
    ap (λ all. stacked below (holds (typed_trees all))) (drop_at items i a lt)
    ∙ ap (λ x. max (below + hold (typed_tree x)) (stacked (suc below) (holds (typed_trees (drop (i + 1) items))))) (sym is)
    ∙ ap (λ n. max (below + hold (typed_tree a)) (stacked n (holds (typed_trees (drop (i + 1) items))))) (sym (add-one below))
