-- Flat code of two small programs, written by hand from their source.
use Rattle.std.specs.Prelude.{ℕ, pos, List, [], ◌∷◌}
use Rattle.sts_syntax.specs.declared.operators.TheConstants.{ADD, MULTIPLY}
use Rattle.flat_ir.specs.declared.ops.Op.{Op}
use Rattle.flat_ir.specs.declared.ops.Op.TheVariants.{Const, Copy, Binary, Call, HandlerOf, Ask, Return}
use Rattle.flat_ir.specs.declared.ops.Function.{Function}
use Rattle.flat_ir.specs.declared.ops.FlatCode.{FlatCode}

abbrev pub function : (params locals operands outgoing : ℕ) → List Op → Function
function params locals operands outgoing ops =
    record { params = params; locals = locals; operands = operands; outgoing = outgoing; ops = ops }

-- running off the end
abbrev pub off : ℕ → List Op
off t = Const t (pos 0) ∷ (Return t ∷ [])

-- function f(n: number): void { serial.writeNumber(n); f(n + 1) }
-- The parameter n is temporary 0, and the operands are 1 and 2.
abbrev pub calls_itself : Function
calls_itself =
    function 1 0 2 1
    (Copy 1 0 ∷ (Ask 1 12 (1 ∷ [])  -- serial.writeNumber(n)
    ∷ (Copy 1 0 ∷ (Const 2 (pos 1) ∷ (Binary 1 ADD 1 2 ∷ (Call 1 0 (1 ∷ [])  -- f(n + 1)
    ∷ off 1))))))

-- f(1)
abbrev pub calls_once : Function
calls_once = function 0 0 1 1 (Const 0 (pos 1) ∷ (Call 0 0 (0 ∷ []) ∷ off 0))

abbrev pub endless_code : FlatCode
endless_code = record { functions = calls_itself ∷ (calls_once ∷ []); classes = []; main = 1 }

-- function deep(n: number): number { let k = n * 3; basic.pause(5); return k }
-- n is 0, k is 1, and the operands are 2 and 3.
abbrev pub deep_code : Function
deep_code =
    function 1 1 2 0
    (Copy 2 0 ∷ (Const 3 (pos 3) ∷ (Binary 2 MULTIPLY 2 3 ∷ (Copy 1 2  -- let k = n * 3
    ∷ (Const 2 (pos 5) ∷ (Ask 2 2 (2 ∷ [])  -- basic.pause(5)
    ∷ (Copy 2 1 ∷ (Return 2  -- return k
    ∷ off 2))))))))

-- function mid(n: number): number { let m = n + 1; let r = deep(m); return m * 100 + r }
-- n is 0, m is 1, r is 2, and the operands are 3 and 4.
abbrev pub mid_code : Function
mid_code =
    function 1 2 2 1
    (Copy 3 0 ∷ (Const 4 (pos 1) ∷ (Binary 3 ADD 3 4 ∷ (Copy 1 3  -- let m = n + 1
    ∷ (Copy 3 1 ∷ (Call 3 0 (3 ∷ []) ∷ (Copy 2 3  -- let r = deep(m)
    ∷ (Copy 3 1 ∷ (Const 4 (pos 100) ∷ (Binary 3 MULTIPLY 3 4 ∷ (Copy 4 2 ∷ (Binary 3 ADD 3 4 ∷ (Return 3  -- return m * 100 + r
    ∷ off 3)))))))))))))

-- serial.writeNumber(mid(6))
abbrev pub says_mid : Function
says_mid = function 0 0 1 1 (Const 0 (pos 6) ∷ (Call 0 1 (0 ∷ []) ∷ (Ask 0 12 (0 ∷ []) ∷ off 0)))

-- let a = 11; let b = 22; let c = 33; let d = 44; serial.writeNumber(a + b + c + d)
-- a to d are 0 to 3, and the operands are 4 and 5.
abbrev pub four_code : Function
four_code =
    function 0 4 2 0
    (Const 4
    (pos 11) ∷ (Copy 0 4 ∷ (Const 4 (pos 22) ∷ (Copy 1 4 ∷ (Const 4 (pos 33) ∷ (Copy 2 4 ∷ (Const 4 (pos 44) ∷ (Copy 3 4
    ∷ (Copy 4 0
    ∷ (Copy 5 1 ∷ (Binary 4 ADD 4 5 ∷ (Copy 5 2 ∷ (Binary 4 ADD 4 5 ∷ (Copy 5 3 ∷ (Binary 4 ADD 4 5 ∷ (Ask 4 12 (4 ∷ [])
    ∷ off 4))))))))))))))))

-- control.onEvent(50, 1, ..); control.onEvent(50, 1, ..); control.raiseEvent(50, 1)
abbrev pub listens_twice : Function
listens_twice =
    function 0 0 3 0
    (Const 0 (pos 50) ∷ (Const 1 (pos 1) ∷ (HandlerOf 2 2 ∷ (Ask 0 5 (0 ∷ (1 ∷ (2 ∷ [])))
    ∷ (Const 0 (pos 50) ∷ (Const 1 (pos 1) ∷ (HandlerOf 2 3 ∷ (Ask 0 5 (0 ∷ (1 ∷ (2 ∷ [])))
    ∷ (Const 0 (pos 50) ∷ (Const 1 (pos 1) ∷ (Ask 0 6 (0 ∷ (1 ∷ []))
    ∷ off 0)))))))))))

abbrev pub deep_handlers_code : FlatCode
deep_handlers_code = record { functions = deep_code ∷ (mid_code ∷ (says_mid ∷ (four_code ∷ (listens_twice ∷ [])))); classes = []; main = 4 }
