-- The program of `big`.
use Rattle.std.specs.Prelude.{ℕ, zero, suc, ◌++◌, List, [], codes, decimal}

-- the text of these lines for each number from 1 to n
unfoldable pub lines_of_numbers : (ℕ → List ℕ) → ℕ → List ℕ
lines_of_numbers line zero = []
lines_of_numbers line (suc n) = lines_of_numbers line n ++ line (suc n)

abbrev pub function_line : ℕ → List ℕ
function_line i = codes "function f" ++ (decimal i
    ++ (codes "(n: number): number { return (n * " ++ (decimal i ++ codes " + 7) % 1000 }\n")))

abbrev pub call_line : ℕ → List ℕ
call_line i = codes "x = f" ++ (decimal i ++ codes "(x)\n")

-- The program of size n: n functions, and five activities that call each of them ten times, with a pause behind each turn.
abbrev pub big_text : ℕ → List ℕ
big_text n = codes "let x = 1\nlet done = 0\n" ++ (lines_of_numbers function_line n
    ++ (codes "function worker(): void {\nfor (let r = 0; r < 10; r++) {\n" ++ (lines_of_numbers call_line n
    ++ (codes "basic.pause(1)\n}\ndone += 1\nif (done == 5) { serial.writeNumber(x) }\n}\n"
    ++ (codes "control.inBackground(worker)\ncontrol.inBackground(worker)\ncontrol.inBackground(worker)\n"
    ++ codes "control.inBackground(worker)\ncontrol.inBackground(worker)\n")))))

-- `big N`
abbrev pub big_line : ℕ → List ℕ
big_line size = codes "big " ++ (decimal size ++ codes "\n")
