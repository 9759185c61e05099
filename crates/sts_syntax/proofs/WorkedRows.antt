-- Worked rows of the definitions: nesting, and what is well typed and what isn't.
use Rattle.std.proofs.Common.{◌≡◌, [], ◌∷◌, refl, inl, inr}
use Rattle.std.proofs.lemmas.Bool.{false≢true}
use Rattle.std.specs.Prelude.{Some, None, pos, negsuc, true, false, Bool, List}
use Rattle.sts_syntax.specs.declared.board_calls.BoardCall.TheVariants.{OnButtonPressed, Pause}
use Rattle.sts_syntax.specs.declared.typed.Callee.TheVariants as c
use Rattle.sts_syntax.specs.declared.typed.Spot.TheVariants.{Local}
use Rattle.sts_syntax.specs.Trees as t
use Rattle.sts_syntax.specs.Programs.{Class, Field}
use Rattle.sts_syntax.specs.Nesting.{nesting, statement_nesting, program_nesting}
use Rattle.sts_syntax.specs.Types as y
use Rattle.sts_syntax.specs.Types.{ValueType}
use Rattle.sts_syntax.specs.TypedTrees as e
use Rattle.sts_syntax.specs.TypedTrees.{TypedStatement, TypedRoutine, TypedProgram}
use Rattle.sts_syntax.specs.TypeRules.{GoesTo, Join, Works, Prefixes, is_int32}
use Rattle.sts_syntax.specs.WellTyped.{Setting, answer, IsTyped, IsSound, AreSound}
use Rattle.sts_syntax.specs.WellTypedPrograms.{declared, all_declared}

-- The nesting of trees. A handler's block adds none to its statement, nor does a field to its binding.
leaf : nesting (t.Name 0 0) ≡ 1
leaf = refl

prefix : nesting (t.Unary 0 1 (t.Num 1 (pos 1))) ≡ 2
prefix = refl

handler : nesting (t.Call 0 (t.Name 0 0) (t.more (t.Handler 2 (t.Does 2 [] None (t.also (t.Return 10 t.absent) t.done) true)) t.none)) ≡ 3
handler = refl

binding : statement_nesting (t.Let 0 false (t.next (t.Declare 4 0 None (t.present (t.Num 8 (pos 1)))) t.ended)) ≡ 3
binding = refl

class : program_nesting (Class 6 0 None 0 (Field (t.Declare 10 1 None (t.present (t.Items 19 t.none))) ∷ []) ∷ []) ≡ 4
class = refl

empty : program_nesting [] ≡ 1
empty = refl

-- a program with one function, which takes and gives nothing, and that function with some locals
abbrev does_nothing : TypedRoutine
does_nothing = record { params = []; locals = []; gives = y.Nothing; all = e.done }

abbrev program : TypedProgram
program = record { classes = []; functions = does_nothing ∷ []; globals = []; main = 0 }

abbrev within : List ValueType → (maker main : Bool) → Setting
within locals maker main = record { routine = record does_nothing { locals = locals }; this = maker; maker = maker; main = main }

abbrev one : e.TypedTree
one = e.Num y.Number (pos 1)

abbrev local : e.TypedTree
local = e.Name y.Number (Local 0)

-- `for (let x of [1]) { x }` has three locals: the item, the list and the next index
abbrev loops : TypedStatement
loops = e.ForOf false (Local 0) (e.Items (y.ListOf y.Number) (e.more one e.none)) (e.Plain local)

loop_declares : declared loops ≡ 0 ∷ 1 ∷ 2 ∷ []
loop_declares = refl

loop_is_sound : IsSound program (within (y.Number ∷ y.ListOf y.Number ∷ y.Number ∷ []) false false) loops false []
loop_is_sound = (y.Number, (y.Number, refl, ((refl, refl), inl refl, tt)), refl, refl, refl, refl, (inl refl, refl))

loop_wants_its_list : IsSound program (within (y.Number ∷ y.Number ∷ y.Number ∷ []) false false) loops false [] → ⊥
loop_wants_its_list h = let list = h.4 in cc

-- a local is known behind its declaration, and not before it
abbrev declares : TypedStatement
declares = e.Let false (record { name = Local 0; first = Some one } ∷ [])

used_behind : AreSound program (within (y.Number ∷ []) false false) (e.also declares (e.also (e.Plain local) e.done)) false []
used_behind = ((y.Number, refl, ((refl, refl), inl refl), tt), ((inl refl, refl), tt))

used_before : AreSound program (within (y.Number ∷ []) false false) (e.also (e.Plain local) (e.also declares e.done)) false [] → ⊥
used_before h = h.0.0

declared_once : all_declared (e.also declares (e.also (e.Plain local) e.done)) ≡ 0 ∷ []
declared_once = refl

-- literals are in range
least : is_int32 (negsuc 2147483647) ≡ true
least = refl

too_great : is_int32 (pos 2147483648) ≡ false
too_great = refl

-- `null` goes to a text, and to no number
null_to_a_text : GoesTo program y.NullType y.Text
null_to_a_text = inr (inr (refl, tt))

null_to_a_number : GoesTo program y.NullType y.Number → ⊥
null_to_a_number (inl same) = absurd (cc)
null_to_a_number (inr (inl below)) = below
null_to_a_number (inr (inr null)) = null.1

-- `>=` gives a truth, and `!` takes one
at_least : Works program 9 y.Number y.Number y.Boolean
at_least = inr (inl (inr (inr (inr (inl refl))), refl, refl, refl))

negated : Prefixes 3 y.Boolean y.Boolean
negated = inr (refl, refl, refl)

-- `?:` of null and a text is a text
choice : Join program y.NullType y.Text y.Text
choice = (inr refl, inr (inr (refl, tt)), inl refl)

-- `break` stands in a loop
break_in_a_loop : IsSound program (within [] false false) (e.While (e.Truth y.Boolean true) e.Break) false []
break_in_a_loop = ((refl, refl), refl)

break_outside : IsSound program (within [] false false) e.Break false [] → ⊥
break_outside h = false≢true h

-- the main program has no `return`; a constructor's has no value of its own
main_returns : IsSound program (within [] false true) (e.Return None) false [] → ⊥
main_returns h = h

maker_answers : answer (within [] true false) ≡ Some y.Nothing
maker_answers = refl

-- a handler stands only where a call takes one: `input.onButtonPressed(1, h)`, and not `basic.pause(h)`
handler_is_taken : IsTyped program (within [] false false) [] (e.Call y.Nothing (c.Board OnButtonPressed) (e.more one (e.more (e.Handler y.Nothing 0) e.none)))
handler_is_taken = (((refl, refl), inl refl, ((does_nothing, refl, refl, refl), tt)), refl, tt)

handler_is_not_taken : IsTyped program (within [] false false) [] (e.Call y.Nothing (c.Board Pause) (e.more (e.Handler y.Nothing 0) e.none)) → ⊥
handler_is_not_taken h = h.0.0
