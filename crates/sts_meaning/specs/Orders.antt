-- Programs that tell the order in which things are done. In each, `tell(n)` writes n and gives it.
use Rattle.std.specs.Prelude.{ℕ, pos, negsuc, true, false, List, [], ◌∷◌, Some, None}
use Rattle.sts_syntax.specs.declared.operators.TheConstants.{SHIFT_LEFT, SHIFT_RIGHT, SHIFT_RIGHT_UNSIGNED, ADD, SUBTRACT, MULTIPLY, DIVIDE}
use Rattle.sts_syntax.specs.declared.typed.Spot.TheVariants.{Local}
use Rattle.sts_syntax.specs.declared.typed.Callee.TheVariants as c
use Rattle.sts_syntax.specs.Types as t
use Rattle.sts_syntax.specs.TypedTrees as e
use Rattle.sts_syntax.specs.TypedTrees.{TypedTree, TypedStatement, TypedRoutine, ClassEntry, TypedProgram}
use Rattle.sts_meaning.specs.Forms.{args, num, minus, truths, counts_to, param, local, global, binary, less, equal, call, send, does, says, let_local, let_global, returns, function, plain, program, simple, class, numbers_type, list, item}
use Rattle.sts_meaning.specs.Programs.{point, make_point}

abbrev pub telling : TypedRoutine
telling = function (t.Number ∷ []) [] t.Number (says (param t.Number 0) ∷ returns (param t.Number 0) ∷ [])

-- in a program in which it is function f
abbrev pub tell : ℕ → ℕ → TypedTree
tell f n = call t.Number f (num n ∷ [])

abbrev pub numbers : TypedTree
numbers = global numbers_type 0

-- a program with one list of numbers, [1], in a global
abbrev pub with_list : List TypedStatement → TypedProgram
with_list all = program [] (numbers_type ∷ []) (telling ∷ plain (let_global 0 (list (num 1 ∷ [])) ∷ all) ∷ [])

abbrev pub sets : TypedTree → TypedTree → TypedStatement
sets x r = does (e.Set t.Number None x r)

abbrev pub adds : TypedTree → TypedTree → TypedStatement
adds x r = does (e.Set t.Number (Some ADD) x r)

-- xs[5] = tell(7): the index is tested at the store
abbrev pub item_set_past_the_end : TypedProgram
item_set_past_the_end = with_list (sets (item numbers (num 5)) (tell 0 7) ∷ [])

-- xs[5] += tell(7): it is tested at the read before
abbrev pub item_added_past_the_end : TypedProgram
item_added_past_the_end = with_list (adds (item numbers (num 5)) (tell 0 7) ∷ [])

-- xs[tell(0)] = tell(7); serial.writeNumber(xs[0])
abbrev pub item_set : TypedProgram
item_set = with_list (sets (item numbers (tell 0 0)) (tell 0 7) ∷ says (item numbers (num 0)) ∷ [])

-- xs[0] += take(), where take() pops the only item: it is tested at the store again
abbrev pub item_taken_meanwhile : TypedProgram
item_taken_meanwhile =
    program [] (numbers_type ∷ [])
    (function [] [] t.Number (says (num 3) ∷ returns (e.Call t.Number c.Pop (args (numbers ∷ []))) ∷ [])
    ∷ plain (let_global 0 (list (num 1 ∷ [])) ∷ adds (item numbers (num 0)) (call t.Number 0 []) ∷ []) ∷ [])

-- for (let x of xs) { serial.writeNumber(x); if (x == 1) { xs.push(3) } }
abbrev pub growing_list : TypedProgram
growing_list =
    program [] (numbers_type ∷ [])
    (function [] (t.Number ∷ numbers_type ∷ t.Number ∷ []) t.Nothing
    (let_global 0 (list (num 1 ∷ num 2 ∷ []))
    ∷ e.ForOf false (Local 0) numbers (e.Block (e.also (says (local t.Number 0))
    (e.also (e.IfOnly (equal (local t.Number 0) (num 1)) (does (e.Call t.Nothing c.Push (args (numbers ∷ num 3 ∷ [])))))
    e.done))) ∷ []) ∷ [])

-- for (let x of make()), where make() writes 5 and gives [1, 2]: the list is evaluated once; with `continue` and `break`
abbrev pub list_evaluated_once : TypedProgram
list_evaluated_once =
    simple (function [] [] numbers_type (says (num 5) ∷ returns (list (num 1 ∷ num 2 ∷ num 3 ∷ num 4 ∷ [])) ∷ [])
    ∷ function [] (t.Number ∷ numbers_type ∷ t.Number ∷ []) t.Nothing
    (e.ForOf true (Local 0) (call numbers_type 0 []) (e.Block
    (e.also (e.IfOnly (equal (local t.Number 0) (num 2)) e.Continue) (e.also
    (e.IfOnly (equal (local t.Number 0) (num 4)) e.Break) (e.also (says (local t.Number 0)) e.done)))) ∷ []) ∷ [])

-- p.x = tell(7) where p is null: null is tested at the store
abbrev pub with_null : List TypedStatement → TypedProgram
with_null all =
    program (point ∷ []) (t.Object 0 ∷ []) (make_point ∷ telling ∷ plain (let_global 0 (e.Null t.NullType) ∷ all) ∷ [])

abbrev pub x_of_p : TypedTree
x_of_p = e.Field t.Number (global (t.Object 0) 0) 0

abbrev pub field_set_through_null : TypedProgram
field_set_through_null = with_null (sets x_of_p (tell 1 7) ∷ [])

-- p.x += tell(7): it is tested at the read before
abbrev pub field_added_through_null : TypedProgram
field_added_through_null = with_null (adds x_of_p (tell 1 7) ∷ [])

-- get(n) { return this.x + n }, of P
abbrev pub get : TypedRoutine
get =
    function (t.Object 0 ∷ t.Number ∷ []) [] t.Number
    (returns (binary ADD (e.Field t.Number (e.This (t.Object 0)) 0) (param t.Number 1)) ∷ [])

-- get(n) { return super.get(n) * 10 }, of Q
abbrev pub scaled_get : TypedRoutine
scaled_get =
    function (t.Object 1 ∷ t.Number ∷ []) [] t.Number
    (returns (binary MULTIPLY (e.SuperCall t.Number 2 (args (param t.Number 1 ∷ []))) (num 10)) ∷ [])

abbrev pub make_scaled : TypedRoutine
make_scaled = function (t.Object 1 ∷ []) [] (t.Object 1) (does (e.SuperCall (t.Object 0) 0 e.none) ∷ [])

-- class Q extends P
abbrev pub scaled : ClassEntry
scaled = class (Some 0) (t.Number ∷ []) (3 ∷ []) 4

abbrev pub uses_methods : TypedRoutine
uses_methods =
    (let p = global (t.Object 0) 0 in
    plain (let_global 0 (e.Make (t.Object 0) 0 e.none) ∷ says (send t.Number 0 (p ∷ num 1 ∷ []))
    ∷ does (e.Set (t.Object 0) None p (e.Make (t.Object 1) 1 e.none))
    ∷ says (send t.Number 0 (p ∷ num 2 ∷ [])) ∷ does (e.Set (t.Object 0) None p (e.Null t.NullType))
    ∷ says (send t.Number 0 (p ∷ tell 1 7 ∷ [])) ∷ []))

-- class P { x = 4; get(n) .. }, class Q extends P { get(n) .. }
-- let p = new P(); serial.writeNumber(p.get(1)); p = new Q(); serial.writeNumber(p.get(2)); p = null; p.get(tell(7)): null is tested behind the arguments
abbrev pub methods : TypedProgram
methods =
    program (class None (t.Number ∷ []) (2 ∷ []) 0 ∷ scaled ∷ []) (t.Object 0 ∷ [])
    (make_point ∷ telling ∷ get ∷ scaled_get ∷ make_scaled ∷ uses_methods ∷ [])

-- class A { x = tell(1); constructor () { tell(2) } }, class B extends A { y = tell(4); constructor (n) { super(); tell(5) } }
-- serial.writeNumber(new B(tell(0)).y): the argument, then the base's field and constructor, then the class's own
abbrev pub constructors : TypedProgram
constructors =
    program (class None (t.Number ∷ []) [] 1 ∷ class (Some 0) (t.Number ∷ t.Number ∷ []) [] 2 ∷ []) []
    (telling
    ∷ function (t.Object 0 ∷ []) [] (t.Object 0)
    (sets (e.Field t.Number (e.This (t.Object 0)) 0) (tell 0 1) ∷ does (tell 0 2) ∷ [])
    ∷ function (t.Object 1 ∷ t.Number ∷ []) [] (t.Object 1)
    (does (e.SuperCall (t.Object 0) 1 e.none) ∷ sets (e.Field t.Number (e.This (t.Object 1)) 1) (tell 0 4)
    ∷ does (tell 0 5) ∷ e.Return None ∷ [])
    ∷ plain (says (e.Field t.Number (e.Make (t.Object 1) 1 (args (tell 0 3 ∷ []))) 1) ∷ []) ∷ [])

-- `&&`, `||` and `?:` stop early: if (false && told()) { .. } and so on, where told() writes 9
abbrev pub early_stops : TypedProgram
early_stops =
    simple (function [] [] t.Boolean (says (num 9) ∷ returns (truths true) ∷ [])
    ∷ plain (e.IfElse (e.Both t.Boolean (truths false) (call t.Boolean 0 [])) (says (num 1)) (says (num 2))
    ∷ e.IfElse (e.Either t.Boolean (truths true) (call t.Boolean 0 [])) (says (num 3)) (says (num 4))
    ∷ says (e.Choice t.Number (truths false) (num 5) (num 6))
    ∷ e.IfOnly (e.Both t.Boolean (truths true) (call t.Boolean 0 [])) (says (num 7)) ∷ []) ∷ [])

-- let i = 5; serial.writeNumber(i++); serial.writeNumber(i); serial.writeNumber(--i); serial.writeNumber(i -= 3); do { i++ } while (i < 4); serial.writeNumber(i)
abbrev pub steps_of_a_name : TypedProgram
steps_of_a_name =
    (let i = local t.Number 0 in
    simple (function [] (t.Number ∷ []) t.Nothing
    (let_local 0 (num 5) ∷ says (e.Bump t.Number i (pos 1) true) ∷ says i ∷ says (e.Bump t.Number i (negsuc 0) false)
    ∷ says (e.Set t.Number (Some SUBTRACT) i (num 3))
    ∷ e.DoWhile (does (e.Bump t.Number i (pos 1) true)) (less i (num 4)) ∷ says i ∷ []) ∷ []))

-- a function that runs off its end gives 0, and a name that is not set yet is 0
abbrev pub unset : TypedProgram
unset =
    program [] (t.Number ∷ []) (function [] [] t.Number [] ∷ plain
    (says (call t.Number 0 []) ∷ says (global t.Number 0) ∷ let_global 0 (num 3) ∷ says (global t.Number 0) ∷ []) ∷ [])

-- serial.writeNumber(-1 >>> 28); serial.writeNumber(-9 >> 1); serial.writeNumber(1 << 33); serial.writeNumber(2147483647 + 1); serial.writeNumber(65536 * 65536 + -7 / 2)
abbrev pub numbers_of_32_bits : TypedProgram
numbers_of_32_bits =
    simple (plain (says (binary SHIFT_RIGHT_UNSIGNED (minus 0) (num 28)) ∷ says (binary SHIFT_RIGHT (minus 8) (num 1))
    ∷ says (binary SHIFT_LEFT (num 1) (num 33)) ∷ says (binary ADD (num 2147483647) (num 1))
    ∷ says (binary ADD (binary MULTIPLY (num 65536) (num 65536)) (binary DIVIDE (minus 6) (num 2))) ∷ []) ∷ [])

-- for (let i = 0; i < 2; i++) { let x: number; serial.writeNumber(x); x = 7 }: x is 0 each time
abbrev pub set_each_time : TypedProgram
set_each_time =
    simple (function [] (t.Number ∷ t.Number ∷ []) t.Nothing
    (counts_to 2 (e.Let false (record { name = Local 1; first = None } ∷ []) ∷ says (local t.Number 1)
    ∷ sets (local t.Number 1) (num 7) ∷ []) ∷ []) ∷ [])
