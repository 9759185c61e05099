-- Small programs, for worked rows.
use Rattle.std.specs.Prelude.{ℕ, pos, zero, suc, false, Option, Some, None, List, [], ◌∷◌, codes}
use Rattle.sts_base.specs.declared.tables.Tables.{Tables}
use Rattle.sts_syntax.specs.Annotations as s
use Rattle.sts_syntax.specs.Trees as t
use Rattle.sts_syntax.specs.Trees.{none, more, present, done, also, ended, next, Declare, Does}
use Rattle.sts_syntax.specs.Programs.{Field, Method, Class, Function, Main, Program}
use Rattle.sts_syntax.specs.TypedTrees.{TypedRoutine}
use Rattle.sts_scope.specs.declared.kinds.StaticType.{StaticType}
use Rattle.sts_scope.specs.declared.known.Known.{Known}
use Rattle.sts_scope.specs.Failures.{Failure}
use Rattle.type_derive.specs.Typing.{◌>>=◌}
use Rattle.typed_laws.specs.Accepted.{refusal, typed}
use Rattle.type_derive.specs.Derived.{derivation, known}

-- a table of so many declarations, all without a type
abbrev pub hollow : {A : Type 0} → List A → List (Option StaticType)
hollow [] = []
hollow (a ∷ rest) = None ∷ hollow rest

-- what the rules give from a table
abbrev pub given_from : Tables → Program → List (Option StaticType) → ℕ → List (Option StaticType)
    → List (Option StaticType)
given_from tables text kinds d [] = []
given_from tables text kinds d (o ∷ rest) =
    derivation tables [] text kinds d ∷ given_from tables text kinds (suc d) rest

-- the table after so many rounds
abbrev pub rounds : Tables → Program → ℕ → List (Option StaticType)
rounds tables text zero = hollow (known [] text []).entries
rounds tables text (suc n) = let kinds = rounds tables text n in given_from tables text kinds 0 kinds

-- the declarations, with these types
abbrev pub known_at_last : Tables → Program → Known
known_at_last tables text = known [] text (rounds tables text 4)

abbrev pub refused : Tables → Program → Option Failure
refused tables text = refusal tables [] text (rounds tables text 4)

abbrev pub built_functions : Tables → Program → Option (List TypedRoutine)
built_functions tables text = typed tables [] text (rounds tables text 4) >>= λ p. Some p.functions

abbrev pub spelled : List (List ℕ) → Tables
spelled names = record { names = names; texts = [] }

-- serial.writeNumber(2147483647 + 1)
abbrev pub sum_names : Tables
sum_names = spelled (codes "serial" ∷ codes "writeNumber" ∷ [])

abbrev pub written_sum : Program
written_sum =
    Main (t.Plain 0 (t.Call 0 (t.Member 0 (t.Name 0 0) 1)
    (more (t.Binary 19 13 (t.Num 19 (pos 2147483647)) (t.Num 32 (pos 1))) none))) ∷ []

-- serial.writeNumber(x)
abbrev pub unknown_names : Tables
unknown_names = spelled (codes "serial" ∷ codes "writeNumber" ∷ codes "x" ∷ [])

abbrev pub unknown : Program
unknown = Main (t.Plain 0 (t.Call 0 (t.Member 0 (t.Name 0 0) 1) (more (t.Name 19 2) none))) ∷ []

-- let v = null
abbrev pub v_names : Tables
v_names = spelled (codes "v" ∷ [])

abbrev pub null_alone : Program
null_alone = Main (t.Let 0 false (next (Declare 4 0 None (present (t.Null 8))) ended)) ∷ []

-- class A extends A { }
abbrev pub a_names : Tables
a_names = spelled (codes "A" ∷ [])

abbrev pub own_base : Program
own_base = Class 6 0 (Some 0) 16 [] ∷ []

-- class A { x: number = 1 }
-- class B extends A { }
-- let a: A[] = []
-- let b: B[] = []
-- a = b
abbrev pub array_names : Tables
array_names = spelled (codes "A" ∷ codes "x" ∷ codes "B" ∷ codes "a" ∷ codes "b" ∷ [])

abbrev pub empty_list : ℕ → ℕ → ℕ → ℕ → ℕ → ℕ → t.Statement
empty_list at name_at name class_at class first_at =
    t.Let at false
    (next (Declare name_at name (Some (s.ListOf (s.Named class_at class))) (present (t.Items first_at none))) ended)

abbrev pub arrays : Program
arrays =
    Class 6 0 None 0 (Field (Declare 10 1 (Some s.Number) (present (t.Num 22 (pos 1)))) ∷ [])
    ∷ Class 32 2 (Some 0) 42 []
    ∷ Main (empty_list 48 52 3 55 0 61)
    ∷ Main (empty_list 64 68 4 71 2 77)
    ∷ Main (t.Plain 80 (t.Set 80 None (t.Name 80 3) (t.Name 84 4))) ∷ []

-- function g(): void {
--     let v = 5
--     control.inBackground(function () {
--         serial.writeNumber(v)
--     })
-- }
abbrev pub captured_names : Tables
captured_names =
    spelled (codes "g" ∷ codes "v" ∷ codes "control" ∷ codes "inBackground" ∷ codes "serial" ∷ codes "writeNumber" ∷ [])

abbrev pub captured : Program
captured =
    Function 0 (Does 9 [] (Some s.Nothing)
    (also (t.Let 25 false (next (Declare 29 1 None (present (t.Num 33 (pos 5)))) ended))
    (also (t.Plain 39 (t.Call 39 (t.Member 39 (t.Name 39 2) 3) (more (t.Handler 60 (Does 60 [] None
    (also (t.Plain 82 (t.Call 82 (t.Member 82 (t.Name 82 4) 5) (more (t.Name 101 1) none))) done) false)) none)))
    done)) false) ∷ []

-- so many empty statements
abbrev pub empties : ℕ → Program
empties zero = []
empties (suc n) = Main (t.Empty 0) ∷ empties n

abbrev pub no_names : Tables
no_names = spelled []

-- class A { m(): void { } }
-- class B extends A { m(): number { return 1 } }
abbrev pub overriding_names : Tables
overriding_names = spelled (codes "A" ∷ codes "m" ∷ codes "B" ∷ [])

abbrev pub overriding : Program
overriding =
    Class 6 0 None 0 (Method 1 (Does 10 [] (Some s.Nothing) done false) ∷ [])
    ∷ Class 32 2 (Some 0) 42
    (Method 1 (Does 46 [] (Some s.Number) (also (t.Return 60 (present (t.Num 67 (pos 1)))) done) false) ∷ []) ∷ []

-- function h() { return 1 }, and control.inBackground(h)
abbrev pub handler_names : Tables
handler_names = spelled (codes "h" ∷ codes "control" ∷ codes "inBackground" ∷ [])

abbrev pub bad_handler : Program
bad_handler =
    Function 0 (Does 9 [] None (also (t.Return 15 (present (t.Num 22 (pos 1)))) done) false)
    ∷ Main (t.Plain 26 (t.Call 26 (t.Member 26 (t.Name 26 1) 2) (more (t.Name 47 0) none))) ∷ []

-- function f() { return g() }, and function g() { return 1 }, in either order; and f that calls itself
abbrev pub call_names : Tables
call_names = spelled (codes "f" ∷ codes "g" ∷ [])

abbrev pub calling : Program
calling =
    Function 0 (Does 9 [] None (also (t.Return 15 (present (t.Call 22 (t.Name 22 1) none))) done) false)
    ∷ Function 1 (Does 37 [] None (also (t.Return 43 (present (t.Num 50 (pos 1)))) done) false) ∷ []

abbrev pub calling_itself : Program
calling_itself =
    Function 0 (Does 9 [] None (also (t.Return 15 (present (t.Call 22 (t.Name 22 0) none))) done) false) ∷ []
