-- Measures of calls, whose services have numbers of their own between the written arguments.
use Rattle.std.proofs.Common.{◌≡◌, ℕ, ◌+◌, ◌<◌, ◌≤◌, List, [], ◌∷◌, length, get_or, drop, ap, arith, lit≤}
use Rattle.sts_syntax.specs.declared.board_calls.BoardCall.{BoardCall}
use Rattle.sts_syntax.specs.declared.board_calls.BoardCall.TheVariants as b
use Rattle.sts_syntax.specs.declared.typed.Callee.{Callee}
use Rattle.sts_syntax.specs.declared.typed.Callee.TheVariants as c
use Rattle.sts_syntax.specs.declared.typed.TypedExpr.{TypedExpr}
use Rattle.sts_syntax.specs.BoardTable.{row_of, ServicePlace, Written, Always, BoardAction, Service, Library, Repeats, placed, arranged}
use Rattle.sts_syntax.specs.TypedViews.{typed_tree, typed_trees}
use Rattle.sts_syntax.specs.Measures.{total, argument_sizes}
use Rattle.sts_syntax.specs.Weights.{call_weight, weight_of, weights}
use Rattle.sts_syntax.proofs.BoardLookup.{drop_at}

abbrev pub places_of : BoardAction → List ServicePlace
places_of (Service number places) = places
places_of (Library function) = []
places_of Repeats = []

pub few_places : (call : BoardCall) → length (places_of (row_of call).action) ≤ 4
few_places b.Pause = lit≤ tt
few_places b.Forever = lit≤ tt
few_places b.ShowLeds = lit≤ tt
few_places b.ShowNumber = lit≤ tt
few_places b.ShowString = lit≤ tt
few_places b.ClearScreen = lit≤ tt
few_places b.Unplot = lit≤ tt
few_places b.Plot = lit≤ tt
few_places b.Toggle = lit≤ tt
few_places b.OnButtonPressed = lit≤ tt
few_places b.ButtonIsPressed = lit≤ tt
few_places b.RunningTime = lit≤ tt
few_places b.InBackground = lit≤ tt
few_places b.OnEvent = lit≤ tt
few_places b.OnEventFlags = lit≤ tt
few_places b.RaiseEvent = lit≤ tt
few_places b.RaiseNow = lit≤ tt
few_places b.WaitForEvent = lit≤ tt
few_places b.EventValue = lit≤ tt
few_places b.Panic = lit≤ tt
few_places b.WriteNumber = lit≤ tt
few_places b.WriteString = lit≤ tt
few_places b.WriteLine = lit≤ tt
few_places b.DigitalWritePin = lit≤ tt
few_places b.SendNumber = lit≤ tt
few_places b.Abs = lit≤ tt
few_places b.Min = lit≤ tt
few_places b.Max = lit≤ tt
few_places b.Show = lit≤ tt
few_places b.NumberGlyph = lit≤ tt
few_places b.TextGlyph = lit≤ tt

pub placed_total : (places : List ServicePlace) (xs : List ℕ)
    → total (placed (λ n. 1) places xs) ≡ total (placed (λ n. 1) places []) + total xs
placed_total [] xs = omega arith
placed_total (Written ∷ ps) [] = omega (arith, placed_total ps [])
placed_total (Written ∷ ps) (x ∷ xs) = omega (arith, placed_total ps xs)
placed_total (Always n ∷ ps) xs = omega (arith, placed_total ps xs)

arranged_total : (action : BoardAction) (xs : List ℕ) → total (arranged (λ n. 1) action xs) ≡ total (arranged (λ n. 1) action []) + total xs
arranged_total (Service number places) xs = placed_total places xs
arranged_total (Library function) xs = omega arith
arranged_total Repeats xs = omega arith

-- the weight of a call's arguments, with its own numbers
pub arguments_total : (callee : Callee) (xs : List ℕ) → total (argument_sizes 1 callee xs) ≡ total (argument_sizes 1 callee []) + total xs
arguments_total (c.Function f) xs = omega arith
arguments_total (c.Slot s) xs = omega arith
arguments_total c.Push xs = omega arith
arguments_total c.Pop xs = omega arith
arguments_total (c.Board call) xs = arranged_total (row_of call).action xs

pub one_more : (callee : Callee) → 1 ≤ call_weight callee
one_more (c.Function f) = lit≤ tt
one_more (c.Slot s) = lit≤ tt
one_more c.Push = lit≤ tt
one_more c.Pop = lit≤ tt
one_more (c.Board call) = lit≤ tt

pub weights_step : (items : List TypedExpr) (i : ℕ) (d : TypedExpr) → i < length items
    → total (weights (typed_trees (drop i items))) ≡ weight_of (typed_tree (get_or items i d)) + total (weights (typed_trees (drop (i + 1) items)))
weights_step items i d lt = ap (λ all. total (weights (typed_trees all))) (drop_at items i d lt)
