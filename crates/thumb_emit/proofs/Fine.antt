-- Pieces are sound, and their numbers are words.
use Rattle.std.proofs.Common.{◌≡◌, ℕ, ◌+◌, ◌*◌, ◌-◌, ◌/◌, ◌%◌, ◌^◌, ◌<◌, ◌≤◌, Bool, true, false, ◌==◌, nat_lt, if◌then◌else◌, List, [], ◌∷◌, refl, arith, rules}
use Rattle.std.specs.List.{AllByRecursion}
use Rattle.std.proofs.lemmas.Bool.Decides.{nat_tests}
use Rattle.thumb_code.specs.declared.instructions.Instr.{Instr}
use Rattle.thumb_code.specs.declared.instructions.Instr.TheVariants.{MovImm, CmpImm, CmpReg, And, Eor, Orr, Mul, LslReg, AsrReg, LsrReg, MovHigh, AddSpImm, SubSpImm, LdrImm, StrImm, LdrReg, StrReg}
use Rattle.thumb_layout.specs.declared.pieces.Piece.{Piece}
use Rattle.thumb_layout.specs.declared.pieces.Piece.TheVariants.{Plain, Number}
use Rattle.thumb_layout.specs.Soundness.{IsSoundPiece}
use Rattle.flat_ir.specs.declared.ops.Function.{Function}
use Rattle.register_assign.specs.declared.places.Place.{Place}
use Rattle.register_assign.specs.declared.places.Place.TheVariants.{Reg, Slot, Incoming}
use Rattle.register_assign.specs.Sound.{IsWithin}
use Rattle.thumb_emit.specs.Frame.{words, from_place, to_place, register_of, brings, result_in, keeps, lands, carries, raises, lowers}
use Rattle.thumb_emit.specs.Emit.{tests_null, tests_index, finds_item, decides, beside, compares, combines, shifts, divides, unary, binary, equal, unequal, at_least, less, greater, at_most, loads_field, stores_field, finds_global, asks, makes_object, makes_array, pops, calls_slot, counted_word, field_offset}
use Rattle.thumb_emit.proofs.Lists.{if_has}

-- the number of a piece is a word
abbrev pub IsWordPiece : Piece → Type 0
IsWordPiece (Number rd value) = value < 2 ^ 32
IsWordPiece _ = Unit {0}

abbrev pub IsFine : Piece → Type 0
IsFine x = IsSoundPiece x × IsWordPiece x

abbrev pub AreFine : List Piece → Type 0
AreFine xs = AllByRecursion IsFine xs

-- a frame is of the measures
pub record IsSmall (f : Function) : Type 0 where
  pub params : f.params ≤ 8
  pub locals : f.locals ≤ 64
  pub operands : f.operands ≤ 64
  pub outgoing : f.outgoing ≤ 8

move_fine : (rd rm : ℕ) → rd < 8 → rm < 8 → IsFine (Plain (MovHigh rd rm))
move_fine rd rm l m =
    let a : rd / 8 < 2 = omega arith in let b : rd % 8 < 8 = omega arith in let c : rm < 16 = omega arith in
    let d : (rm == 15) ≡ false = grind (arith, nat_tests) in
    ((((omega arith, (a, (c, (b, tt)))), tt), d), tt)

pub from_fine : (f : Function) (rd : ℕ) (p : Place) → IsSmall f → rd < 8 → IsWithin f p → IsFine (from_place f rd p)
from_fine f rd (Reg r) m l w = move_fine rd r l (let a = w.1 in omega arith)
from_fine f rd (Slot j) m l w = let a = m.outgoing in let b = m.locals in let d = m.operands in let e : f.outgoing + j < 256 = omega arith in search rules
from_fine f rd (Incoming j) m l w = let a = m.outgoing in let b = m.locals in let d = m.operands in let p = m.params in let e : words f + j < 256 = omega arith in search rules

pub to_fine : (f : Function) (rs : ℕ) (p : Place) → IsSmall f → rs < 8 → IsWithin f p → IsFine (to_place f rs p)
to_fine f rs (Reg r) m l w = move_fine r rs (let a = w.1 in omega arith) l
to_fine f rs (Slot j) m l w = let a = m.outgoing in let b = m.locals in let d = m.operands in let e : f.outgoing + j < 256 = omega arith in search rules
to_fine f rs (Incoming j) m l w = let a = m.outgoing in let b = m.locals in let d = m.operands in let p = m.params in let e : words f + j < 256 = omega arith in search rules

pub brings_fine : (f : Function) (rd : ℕ) (p : Place) → IsSmall f → rd < 8 → IsWithin f p → IsFine (brings f rd p)
brings_fine f rd (Reg r) m l w = (tt, tt)
brings_fine f rd (Slot j) m l w = from_fine f rd (Slot j) m l w
brings_fine f rd (Incoming j) m l w = from_fine f rd (Incoming j) m l w

pub keeps_fine : (f : Function) (unread : Bool) (p : Place) → IsSmall f → IsWithin f p → IsFine (keeps f unread p)
keeps_fine f true p m w = (tt, tt)
keeps_fine f false (Reg r) m w = (tt, tt)
keeps_fine f false (Slot j) m w = to_fine f 0 (Slot j) m (omega arith) w
keeps_fine f false (Incoming j) m w = to_fine f 0 (Incoming j) m (omega arith) w

pub lands_fine : (f : Function) (unread : Bool) (p : Place) → IsSmall f → IsWithin f p → IsFine (lands f unread p)
lands_fine f true p m w = (tt, tt)
lands_fine f false p m w = to_fine f 0 p m (omega arith) w

pub moves_fine : (f : Function) (rd rs : ℕ) → rd < 8 → rs < 8 → IsFine (carries f rd rs)
moves_fine f rd rs l m = if_has IsFine (rd == rs) _ _ (tt, tt) (move_fine rd rs l m)

pub register_low : (f : Function) (scratch : ℕ) (p : Place) → scratch < 8 → IsWithin f p → register_of scratch p < 8
register_low f scratch (Reg r) l w = let a = w.1 in omega arith
register_low f scratch (Slot j) l w = l
register_low f scratch (Incoming j) l w = l

pub made_low : (f : Function) (unread : Bool) (p : Place) → IsWithin f p → result_in unread p < 8
made_low f true p w = omega arith
made_low f false p w = register_low f 0 p (omega arith) w

-- SP moves by one instruction or by two
move_sp : (b : Bool) (n : ℕ) → nat_lt 127 n ≡ b → n ≤ 140 → AreFine (if b then Plain (AddSpImm 127) ∷ Plain (AddSpImm (n - 127)) ∷ [] else Plain (AddSpImm n) ∷ [])
move_sp true n e l = let a : n - 127 < 128 = omega arith in search rules
move_sp false n e l = let a : n < 128 = grind (arith, nat_tests) in search rules

pub raises_fine : (n : ℕ) → n ≤ 140 → AreFine (raises n)
raises_fine n = move_sp (nat_lt 127 n) n refl

drop_sp : (b : Bool) (n : ℕ) → nat_lt 127 n ≡ b → n ≤ 140 → AreFine (if b then Plain (SubSpImm 127) ∷ Plain (SubSpImm (n - 127)) ∷ [] else Plain (SubSpImm n) ∷ [])
drop_sp true n e l = let a : n - 127 < 128 = omega arith in search rules
drop_sp false n e l = let a : n < 128 = grind (arith, nat_tests) in search rules

pub lowers_fine : (n : ℕ) → n ≤ 140 → AreFine (lowers n)
lowers_fine n = drop_sp (nat_lt 127 n) n refl

-- ops' parts
pub index_fine : (array index label : ℕ) → array < 8 → index < 8 → AreFine (tests_index array index label)
index_fine array index label l m = search rules

pub null_fine : (r label : ℕ) → r < 8 → AreFine (tests_null r label)
null_fine r label l = search rules

pub finds_fine : (array index : ℕ) → array < 8 → index < 8 → AreFine (finds_item array index)
finds_fine array index l m = search rules

pub pops_fine : (rd array label : ℕ) → rd < 8 → array < 8 → AreFine (pops rd array label)
pops_fine rd array label l m = search rules

beside_low : (scratch rd operand : ℕ) → scratch < 8 → rd < 8 → beside scratch rd operand < 8
beside_low scratch rd operand l m = if_has (λ n. n < 8) (rd == operand) scratch rd l m

decides_fine : (f : Function) (rd by : ℕ) (x : Instr) (c label : ℕ) → rd < 8 → by < 8 → c ≤ 14 → IsFine (Plain x) → AreFine (decides f rd by x c label)
decides_fine f rd by x c label l m n i =
    let a : IsFine (Plain (MovImm by 1)) = search rules in
    let b : IsFine (Plain (MovImm by 0)) = search rules in
    (a, (i, ((n, tt), (b, ((tt, tt), (moves_fine f rd by l m, tt))))))

compares_fine : (f : Function) (rd left right c label : ℕ) → rd < 8 → left < 8 → right < 8 → c ≤ 14 → AreFine (compares f rd left right c label)
compares_fine f rd left right c label l m n k =
    let i : IsFine (Plain (CmpReg left right)) = search rules in
    decides_fine f rd (beside 2 (beside 2 rd left) right) (CmpReg left right) c label l (beside_low 2 (beside 2 rd left) right (omega arith) (beside_low 2 rd left (omega arith) l)) k i

combines_fine : (f : Function) (rd left right : ℕ) (x : ℕ → ℕ → Instr) → ((a b : ℕ) → a < 8 → b < 8 → IsFine (Plain (x a b))) → rd < 8 → left < 8 → right < 8
    → AreFine (combines f rd left right x)
combines_fine f rd left right x i l m n =
    let b = beside_low 2 rd right (omega arith) l in
    (moves_fine f (beside 2 rd right) left b m, (i (beside 2 rd right) right b n, (moves_fine f rd (beside 2 rd right) l b, tt)))

shifts_fine : (f : Function) (rd left right : ℕ) (x : ℕ → ℕ → Instr) → ((a b : ℕ) → a < 8 → b < 8 → IsFine (Plain (x a b))) → rd < 8 → left < 8 → right < 8
    → AreFine (shifts f rd left right x)
shifts_fine f rd left right x i l m n =
    let a : IsFine (Plain (MovImm 2 31)) = search rules in
    let b : IsFine (Plain (And 2 right)) = search rules in
    (a, (b, (moves_fine f rd left l m, (i rd 2 l (omega arith), tt))))

divides_fine : (f : Function) (rd left right answer : ℕ) → rd < 8 → left < 8 → right < 8 → answer < 8 → AreFine (divides f rd left right answer)
divides_fine f rd left right answer l m n k =
    (moves_fine f 0 left (omega arith) m, (moves_fine f 1 right (omega arith) n, ((tt, tt), (moves_fine f rd answer l k, tt))))

pub unary_fine : (f : Function) (rd from op label : ℕ) → rd < 8 → from < 8 → AreFine (unary f rd from op label)
unary_fine f rd from op label l m =
    let c : IsFine (Plain (CmpImm from 0)) = search rules in
    if_has AreFine (op == 1) _ _ (search rules)
    (if_has AreFine (op == 2) _ _ (move_fine rd from l m, tt)
    (if_has AreFine (op == 3) _ _ (decides_fine f rd (beside 1 rd from) (CmpImm from 0) equal label l (beside_low 1 rd from (omega arith) l) (omega arith) c)
    (if_has AreFine (op == 4) _ _ (search rules)
    (if_has AreFine (op == 5) _ _ (search rules) (search rules)))))

pub object_fine : (class : ℕ) → AreFine (makes_object class)
object_fine class = search rules

counted_fine : (n : ℕ) → counted_word n < 2 ^ 32
counted_fine n = omega arith

pub array_fine : (room : ℕ) → AreFine (makes_array room)
array_fine room = search (rules, counted_fine)

pub slot_fine : (slot label : ℕ) → slot < 30 → AreFine (calls_slot slot label)
slot_fine slot label l = search rules

pub binary_fine : (f : Function) (rd left right op label : ℕ) → rd < 8 → left < 8 → right < 8 → AreFine (binary f rd left right op label)
binary_fine f rd left right op label l m n =
    let orr : (a b : ℕ) → a < 8 → b < 8 → IsFine (Plain (Orr a b)) = λ a b h k. search rules in
    let eor : (a b : ℕ) → a < 8 → b < 8 → IsFine (Plain (Eor a b)) = λ a b h k. search rules in
    let and : (a b : ℕ) → a < 8 → b < 8 → IsFine (Plain (And a b)) = λ a b h k. search rules in
    let mul : (a b : ℕ) → a < 8 → b < 8 → IsFine (Plain (Mul a b)) = λ a b h k. search rules in
    let lsl : (a b : ℕ) → a < 8 → b < 8 → IsFine (Plain (LslReg a b)) = λ a b h k. search rules in
    let asr : (a b : ℕ) → a < 8 → b < 8 → IsFine (Plain (AsrReg a b)) = λ a b h k. search rules in
    let lsr : (a b : ℕ) → a < 8 → b < 8 → IsFine (Plain (LsrReg a b)) = λ a b h k. search rules in
    if_has AreFine (op == 1) _ _ (combines_fine f rd left right Orr orr l m n)
    (if_has AreFine (op == 2) _ _ (combines_fine f rd left right Eor eor l m n)
    (if_has AreFine (op == 3) _ _ (combines_fine f rd left right And and l m n)
    (if_has AreFine (op == 4) _ _ (compares_fine f rd left right equal label l m n (omega arith))
    (if_has AreFine (op == 5) _ _ (compares_fine f rd left right unequal label l m n (omega arith))
    (if_has AreFine (op == 6) _ _ (compares_fine f rd left right less label l m n (omega arith))
    (if_has AreFine (op == 7) _ _ (compares_fine f rd left right greater label l m n (omega arith))
    (if_has AreFine (op == 8) _ _ (compares_fine f rd left right at_most label l m n (omega arith))
    (if_has AreFine (op == 9) _ _ (compares_fine f rd left right at_least label l m n (omega arith))
    (if_has AreFine (op == 10) _ _ (shifts_fine f rd left right LslReg lsl l m n)
    (if_has AreFine (op == 11) _ _ (shifts_fine f rd left right AsrReg asr l m n)
    (if_has AreFine (op == 12) _ _ (shifts_fine f rd left right LsrReg lsr l m n)
    (if_has AreFine (op == 13) _ _ (search rules)
    (if_has AreFine (op == 14) _ _ (search rules)
    (if_has AreFine (op == 15) _ _ (combines_fine f rd left right Mul mul l m n)
    (if_has AreFine (op == 16) _ _ (divides_fine f rd left right 0 l m n (omega arith)) (divides_fine f rd left right 1 l m n (omega arith)))))))))))))))))

loaded_by : (b : Bool) (rd object field : ℕ) → rd < 8 → object < 8 → nat_lt field 31 ≡ b → AreFine (if b then Plain (LdrImm rd object (field + 1)) ∷ [] else Number 2 (field_offset field) ∷ Plain (LdrReg rd object 2) ∷ [])
loaded_by true rd object field l m e = let a : field + 1 < 32 = grind (arith, nat_tests) in search rules
loaded_by false rd object field l m e = let a = counted_fine (4 * (field + 1)) in search rules

pub loads_fine : (rd object field : ℕ) → rd < 8 → object < 8 → AreFine (loads_field rd object field)
loads_fine rd object field l m = loaded_by (nat_lt field 31) rd object field l m refl

stored_by : (b : Bool) (rs object field : ℕ) → rs < 8 → object < 8 → nat_lt field 31 ≡ b → AreFine (if b then Plain (StrImm rs object (field + 1)) ∷ [] else Number 2 (field_offset field) ∷ Plain (StrReg rs object 2) ∷ [])
stored_by true rs object field l m e = let a : field + 1 < 32 = grind (arith, nat_tests) in search rules
stored_by false rs object field l m e = let a = counted_fine (4 * (field + 1)) in search rules

pub stores_fine : (rs object field : ℕ) → rs < 8 → object < 8 → AreFine (stores_field rs object field)
stores_fine rs object field l m = stored_by (nat_lt field 31) rs object field l m refl

pub global_fine : (slot : ℕ) → slot < 256 → IsFine (finds_global slot)
global_fine slot l = (omega arith, omega arith)

pub asks_fine : (unread : Bool) (service : ℕ) → service < 24 → AreFine (asks unread service)
asks_fine unread service l = let a : service < 256 = omega arith in search (rules, if_has)
