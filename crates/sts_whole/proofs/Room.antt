-- What is compiled from a program within the limits fits into flash.
use Rattle.std.proofs.Common.{◌≡◌, ℕ, zero, suc, ◌+◌, ◌*◌, ◌≤◌, true, if◌then◌else◌, List, [], ◌∷◌, ◌++◌, length, take, drop, Option, Some, None, refl, ap, ◌∙◌, arith, length-append}
use Rattle.std.specs.Prelude.{All}
use Rattle.std.specs.List.{AllByRecursion}
use Rattle.std.proofs.lemmas.List.Elements.{All-head, All-tail}
use Rattle.board_world.specs.Observations.{ByteList}
use Rattle.sts_syntax.specs.declared.typed.Callee.{Callee}
use Rattle.sts_syntax.specs.declared.typed.Callee.TheVariants as c
use Rattle.sts_syntax.specs.BoardTable.{BoardAction, Service, Library, Repeats, row_of, library_size}
use Rattle.sts_syntax.specs.TypedTrees as e
use Rattle.sts_syntax.specs.TypedTrees.{TypedTree, TypedTrees, TypedStatement, TypedStatements, OptionalTypedStatement, TypedDeclaration, TypedRoutine, ClassEntry, TypedProgram}
use Rattle.sts_syntax.specs.Types.{ValueType}
use Rattle.sts_syntax.specs.Weights.{weight, repeating_weight, routines_weight}
use Rattle.sts_syntax.specs.Nodes as n
use Rattle.sts_syntax.specs.Nodes.{repeats_in, starts_repeating, nodes, nodes_of, optional_nodes, declared_nodes, expressions, first_expressions, expressions_of, all_expressions, program_texts, is_among}
use Rattle.sts_syntax.specs.WellTypedPrograms.{IsClassWithinLimits, IsProgramWithinLimits}
use Rattle.sts_lower.specs.Code.{handler_of}
use Rattle.sts_lower.specs.Repeated.{repeated, repeated_each, repeated_by, repeated_by_call, optionally_repeated, repeated_first, repeated_in, repeated_in_first, repeated_in_all, repeated_in_each}
use Rattle.sts_lower.specs.Lowered.{flat_classes, lowered_routine, lowered_routines, repeating_function, repeating_functions, repeated_in_program, lowered}
use Rattle.flat_ir.specs.declared.ops.Op.{Op}
use Rattle.flat_ir.specs.declared.ops.Op.TheVariants.{Const, Copy, Unary, Binary, GlobalGet, GlobalSet, FieldGet, FieldSet, ItemGet, ItemSet, Length, Pop, TextOf, MakeObject, MakeArray, Call, CallSlot, HandlerOf, Ask, Jump, Branch, Return}
use Rattle.lowered_code.specs.Costs.{cost}
use Rattle.register_assign.specs.declared.places.Placed.{Placed}
use Rattle.thumb_layout.specs.declared.pieces.What.{What}
use Rattle.thumb_layout.specs.Cells.{laid}
use Rattle.thumb_layout.specs.Openings.{named}
use Rattle.thumb_emit.specs.Emit.{function_pieces}
use Rattle.thumb_emit.specs.Names.{name_of, names_of}
use Rattle.thumb_emit.specs.Ready.{IsReady}
use Rattle.thumb_emit.specs.InFlash.{IsNamed}
use Rattle.thumb_emit.proofs.Laws.{function_named}
use Rattle.thumb_emit.specs.Bounds.{bytes_of_text, bytes_of_weight}
use Rattle.emitted_bytes.specs.Weighed.{texts_named}
use Rattle.image_link.specs.Linkable.{texts_among, KeepWeights, all_weights, used_bytes, IsLimited}
use Rattle.sts_whole.specs.Compiled.{functions_of, bodies_of}

-- how many calls of `forever` there are, in lists one after another
repeats_append : (xs ys : List TypedTree) → repeats_in (xs ++ ys) ≡ repeats_in xs + repeats_in ys
repeats_append [] ys = omega arith
repeats_append (e.Call t (c.Board call) args ∷ xs) ys = let h = repeats_append xs ys in omega (arith, h)
repeats_append (x ∷ xs) ys = repeats_append xs ys

action_le : (action : BoardAction) (handler : ℕ) → length (repeated_by action handler) ≤ starts_repeating action
action_le (Service number places) handler = omega arith
action_le (Library function) handler = omega arith
action_le Repeats handler = omega arith

two_le : (gs bs : List ℕ) (xs ys : List TypedTree) → length gs ≤ repeats_in xs → length bs ≤ repeats_in ys → length (gs ++ bs) ≤ repeats_in (xs ++ ys)
two_le gs bs xs ys a b = let l = length-append gs bs in let r = repeats_append xs ys in omega (arith, l, r)

call_le : (f : Callee) (args : TypedTrees) → length (repeated_each args) ≤ repeats_in (nodes_of args)
    → (u : ValueType) → length (repeated_each args ++ repeated_by_call f (handler_of args)) ≤ repeats_in (e.Call u f args ∷ nodes_of args)
call_le (c.Board call) args h u = let l = length-append (repeated_each args) (repeated_by (row_of call).action (handler_of args)) in let a = action_le (row_of call).action (handler_of args) in omega (arith, l, a)
call_le (c.Function f) args h u = let l = length-append (repeated_each args) [] in omega (arith, l)
call_le (c.Slot s) args h u = let l = length-append (repeated_each args) [] in omega (arith, l)
call_le c.Push args h u = let l = length-append (repeated_each args) [] in omega (arith, l)
call_le c.Pop args h u = let l = length-append (repeated_each args) [] in omega (arith, l)

three_le : (gs bs ds : List ℕ) (xs ys zs : List TypedTree) → length gs ≤ repeats_in xs → length bs ≤ repeats_in ys → length ds ≤ repeats_in zs
    → length (gs ++ (bs ++ ds)) ≤ repeats_in ((xs ++ ys) ++ zs)
three_le gs bs ds xs ys zs a b d =
    let l = length-append gs (bs ++ ds) in let m = length-append bs ds in let r = repeats_append (xs ++ ys) zs in let q = repeats_append xs ys in omega (arith, l, m, r, q)

mutual
  repeated_le : (a : TypedTree) → length (repeated a) ≤ repeats_in (nodes a)
  repeated_le (e.Num u x) = omega arith
  repeated_le (e.Text u x) = omega arith
  repeated_le (e.Truth u x) = omega arith
  repeated_le (e.Null u) = omega arith
  repeated_le (e.This u) = omega arith
  repeated_le (e.Name u x) = omega arith
  repeated_le (e.Unary u op a) = repeated_le a
  repeated_le (e.Binary u op a b) = two_le (repeated a) (repeated b) (nodes a) (nodes b) (repeated_le a) (repeated_le b)
  repeated_le (e.Both u a b) = two_le (repeated a) (repeated b) (nodes a) (nodes b) (repeated_le a) (repeated_le b)
  repeated_le (e.Either u a b) = two_le (repeated a) (repeated b) (nodes a) (nodes b) (repeated_le a) (repeated_le b)
  repeated_le (e.Choice u test a b) = three_le (repeated test) (repeated a) (repeated b) (nodes test) (nodes a) (nodes b) (repeated_le test) (repeated_le a) (repeated_le b)
  repeated_le (e.Set u op x r) = two_le (repeated x) (repeated r) (nodes x) (nodes r) (repeated_le x) (repeated_le r)
  repeated_le (e.Bump u x by late) = repeated_le x
  repeated_le (e.Field u a f) = repeated_le a
  repeated_le (e.Length u a) = repeated_le a
  repeated_le (e.Item u a i) = two_le (repeated a) (repeated i) (nodes a) (nodes i) (repeated_le a) (repeated_le i)
  repeated_le (e.Call u f args) = call_le f args (each_le args) u
  repeated_le (e.SuperCall u f args) = each_le args
  repeated_le (e.Make u class args) = each_le args
  repeated_le (e.Items u items) = each_le items
  repeated_le (e.Handler u f) = omega arith

  each_le : (args : TypedTrees) → length (repeated_each args) ≤ repeats_in (nodes_of args)
  each_le e.none = omega arith
  each_le (e.more a rest) = two_le (repeated a) (repeated_each rest) (nodes a) (nodes_of rest) (repeated_le a) (each_le rest)

optional_le : (a : Option TypedTree) → length (optionally_repeated a) ≤ repeats_in (optional_nodes a)
optional_le None = omega arith
optional_le (Some a) = repeated_le a

declared_le : (each : List TypedDeclaration) → length (repeated_first each) ≤ repeats_in (declared_nodes each)
declared_le [] = omega arith
declared_le (d ∷ rest) = two_le (optionally_repeated d.first) (repeated_first rest) (optional_nodes d.first) (declared_nodes rest) (optional_le d.first) (declared_le rest)

mutual
  statement_le : (a : TypedStatement) → length (repeated_in a) ≤ repeats_in (expressions a)
  statement_le (e.Block all) = statements_le all
  statement_le (e.Let fixed each) = declared_le each
  statement_le (e.IfOnly test a) = two_le (repeated test) (repeated_in a) (nodes test) (expressions a) (repeated_le test) (statement_le a)
  statement_le (e.IfElse test a o) =
      three_le (repeated test) (repeated_in a) (repeated_in o) (nodes test) (expressions a) (expressions o) (repeated_le test) (statement_le a) (statement_le o)
  statement_le (e.While test a) = two_le (repeated test) (repeated_in a) (nodes test) (expressions a) (repeated_le test) (statement_le a)
  statement_le (e.DoWhile a test) = two_le (repeated_in a) (repeated test) (expressions a) (nodes test) (statement_le a) (repeated_le test)
  statement_le (e.For first test step a) =
      let x = repeated_in_first first in let y = optionally_repeated test in let z = optionally_repeated step in let w = repeated_in a in
      let fx = first_expressions first in let fy = optional_nodes test in let fz = optional_nodes step in let fw = expressions a in
      let k = three_le x y z fx fy fz (first_le first) (optional_le test) (optional_le step) in
      let l = length-append x (y ++ (z ++ w)) in let m = length-append y (z ++ w) in let o = length-append z w in
      let q = repeats_append (fx ++ fy ++ fz) fw in
      let l2 = length-append x (y ++ z) in let m2 = length-append y z in let v = statement_le a in
      omega (arith, k, l, m, o, q, l2, m2, v)
  statement_le (e.ForOf fixed x list a) = two_le (repeated list) (repeated_in a) (nodes list) (expressions a) (repeated_le list) (statement_le a)
  statement_le (e.Return value) = optional_le value
  statement_le e.Break = omega arith
  statement_le e.Continue = omega arith
  statement_le (e.Plain a) = repeated_le a
  statement_le e.Empty = omega arith

  first_le : (a : OptionalTypedStatement) → length (repeated_in_first a) ≤ repeats_in (first_expressions a)
  first_le e.omitted = omega arith
  first_le (e.written a) = statement_le a

  statements_le : (all : TypedStatements) → length (repeated_in_all all) ≤ repeats_in (expressions_of all)
  statements_le e.done = omega arith
  statements_le (e.also a rest) = two_le (repeated_in a) (repeated_in_all rest) (expressions a) (expressions_of rest) (statement_le a) (statements_le rest)

-- functions that `forever` starts are no more than its calls
in_each_repeats : (rs : List TypedRoutine) → length (repeated_in_each rs) ≤ repeats_in (all_expressions rs)
in_each_repeats [] = omega arith
in_each_repeats (r ∷ rest) = two_le (repeated_in_all r.all) (repeated_in_each rest) (expressions_of r.all) (all_expressions rest) (statements_le r.all) (in_each_repeats rest)

-- how many texts a body names
texts_append : (xs ys : List What) → texts_among (xs ++ ys) ≡ texts_among xs + texts_among ys
texts_append [] ys = omega arith
texts_append (x ∷ xs) ys = let h = texts_append xs ys in omega (arith, h)

one_cost : (op : Op) → texts_among (name_of op) ≡ texts_named op
one_cost (Const to value) = refl
one_cost (Copy to from) = refl
one_cost (Unary to op from) = refl
one_cost (Binary to op left right) = refl
one_cost (GlobalGet to slot) = refl
one_cost (GlobalSet slot from) = refl
one_cost (FieldGet to object field) = refl
one_cost (FieldSet object field from) = refl
one_cost (ItemGet to array index) = refl
one_cost (ItemSet array index from) = refl
one_cost (Length to array) = refl
one_cost (Pop to array) = refl
one_cost (TextOf to text) = refl
one_cost (MakeObject to class) = refl
one_cost (MakeArray to room) = refl
one_cost (Call to function args) = refl
one_cost (CallSlot to slot args) = refl
one_cost (HandlerOf to function) = refl
one_cost (Ask to service args) = refl
one_cost (Jump target) = refl
one_cost (Branch when target) = refl
one_cost (Return from) = refl

texts_cost : (ops : List Op) → texts_among (names_of ops) ≡ cost texts_named ops
texts_cost [] = refl
texts_cost (op ∷ ops) = let a = texts_append (name_of op) (names_of ops) in let b = one_cost op in let d = texts_cost ops in omega (arith, a, b, d)

body_texts : (p : Placed) → texts_among (named (function_pieces p)) ≡ cost texts_named p.function.ops
body_texts p = ap (λ (ws : List What). texts_among ws) (function_named p) ∙ texts_cost p.function.ops

-- the weights of the functions of flat code: of those of the program, and of those that `forever` starts
abbrev pub weights_of : List TypedRoutine → List ℕ → List ℕ
weights_of [] [] = []
weights_of [] (f ∷ fs) = repeating_weight ∷ weights_of [] fs
weights_of (r ∷ rs) fs = weight r ∷ weights_of rs fs

weights_sum : (rs : List TypedRoutine) (fs : List ℕ) → all_weights (weights_of rs fs) ≡ routines_weight rs + repeating_weight * length fs
weights_sum [] [] = refl
weights_sum [] (f ∷ fs) = let h = weights_sum [] fs in omega (arith, h)
weights_sum (r ∷ rs) fs = let h = weights_sum rs fs in omega (arith, h)

routines_split : (k : ℕ) (rs : List TypedRoutine) → routines_weight rs ≡ routines_weight (take k rs) + routines_weight (drop k rs)
routines_split zero rs = omega arith
routines_split (suc k) [] = refl
routines_split (suc k) (r ∷ rs) = let h = routines_split k rs in omega (arith, h)

-- the bytes of the texts that are used
used_same : (from : ℕ) (texts : List ByteList) (used : List ℕ) → used_bytes (λ i. is_among used i) from texts ≡ n.used_bytes from texts used
used_same from [] used = refl
used_same from (t ∷ ts) used = ap (λ m. (if is_among used from then length t else 0) + m) (used_same (suc from) ts used)

pub by_recursion : {X : Type 0} (Q : X → Type 0) (xs : List X) → All Q xs → AllByRecursion Q xs
by_recursion Q [] all = tt
by_recursion Q (x ∷ xs) all = (All-head Q x xs all, by_recursion Q xs (All-tail Q x xs all))

slots_few : (P : TypedProgram) (classes : List ClassEntry) → AllByRecursion (IsClassWithinLimits P) classes → AllByRecursion (λ x. length x.slots ≤ 30) (flat_classes classes)
slots_few P [] a = tt
slots_few P (x ∷ xs) a = (a.0.slots, slots_few P xs a.1)

classes_long : (classes : List ClassEntry) → length (flat_classes classes) ≡ length classes
classes_long [] = refl
classes_long (x ∷ xs) = ap suc (classes_long xs)

-- The laws of laid code: that of each function of the program keeps its weight, and so does that of each function that `forever` starts.
module _ (P : TypedProgram)
    (of_routine : (f : ℕ) (r : TypedRoutine) (p : Placed) → IsReady p → p.function ≡ lowered_routine P f r
    → length (laid (function_pieces p)).bytes + bytes_of_text * cost texts_named p.function.ops ≤ bytes_of_weight * weight r)
    (of_repeating : (f : ℕ) (p : Placed) → IsReady p → p.function ≡ repeating_function f
    → length (laid (function_pieces p)).bytes + bytes_of_text * cost texts_named p.function.ops ≤ bytes_of_weight * repeating_weight) where
  keeps : (k : ℕ) (rs : List TypedRoutine) (fs : List ℕ) (ps : List Placed) → functions_of ps ≡ lowered_routines P k rs ++ repeating_functions fs → AllByRecursion IsReady ps
      → KeepWeights (bodies_of ps) (weights_of rs fs)
  keeps k [] [] [] h a = tt
  keeps k [] [] (p ∷ ps) h a = absurd cc
  keeps k [] (f ∷ fs) [] h a = absurd cc
  keeps k [] (f ∷ fs) (p ∷ ps) h a =
      let g : p.function ≡ repeating_function f = cc in
      let rest : functions_of ps ≡ repeating_functions fs = cc in
      let l = of_repeating f p a.0 g in let t = body_texts p in
      (omega arith, omega (arith, l, t), keeps k [] fs ps rest a.1)
  keeps k (r ∷ rs) fs [] h a = absurd cc
  keeps k (r ∷ rs) fs (p ∷ ps) h a =
      let g : p.function ≡ lowered_routine P k r = cc in
      let rest : functions_of ps ≡ lowered_routines P (suc k) rs ++ repeating_functions fs = cc in
      let l = of_routine k r p a.0 g in let t = body_texts p in
      (omega arith, omega (arith, l, t), keeps (suc k) rs fs ps rest a.1)

  -- A program within the limits, whose library weighs no more than it may, and whose functions have places: what its image is made of is limited.
  pub limited : (texts : List ByteList) (placed : List Placed) → IsProgramWithinLimits P texts → routines_weight (take library_size P.functions) ≤ 600
      → functions_of placed ≡ (lowered P).functions → AllByRecursion IsReady placed → ((i : ℕ) → IsNamed (bodies_of placed) i → is_among (program_texts P) i ≡ true)
      → IsLimited (lowered P) (bodies_of placed) texts (weights_of P.functions (repeated_in_program P)) (λ i. is_among (program_texts P) i)
  limited texts placed limits library functions ready uses = record {
    keeps = keeps 0 P.functions (repeated_in_program P) placed functions ready;
    total = (
        let a = weights_sum P.functions (repeated_in_program P) in
        let b = routines_split library_size P.functions in
        let d = in_each_repeats P.functions in
        let w = limits.weight in
        omega (arith, a, b, d, w));
    classes = (let a = classes_long P.classes in let b = limits.classes in omega (arith, a, b));
    slots = slots_few P P.classes (by_recursion (IsClassWithinLimits P) P.classes limits.each_class);
    uses = uses;
    bytes = (let a = limits.bytes in let b = used_same 0 texts (program_texts P) in omega (arith, a, b));
  }
