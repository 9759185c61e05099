-- What building asks of its parts.
use Rattle.std.proofs.Common.{◌≡◌, ℕ, suc, ◌+◌, ◌*◌, ◌<◌, ◌≤◌, Bool, List, [], ◌∷◌, ◌++◌, length, map, take, subst, sym, ap, ⊎_elim, arith}
use Rattle.std.proofs.lemmas.List.Elements.{All-head, All-tail}
use Rattle.std.specs.Prelude.{All}
use Rattle.std.specs.List.{AllByRecursion}
use Rattle.thumb_code.specs.Map.{flash_end}
use Rattle.board_world.specs.Observations.{ByteList}
use Rattle.sts_syntax.specs.BoardTable.{library_size}
use Rattle.sts_syntax.specs.TypedTrees.{TypedRoutine, TypedProgram}
use Rattle.sts_syntax.specs.TypeRules.{IsOneOf}
use Rattle.sts_syntax.specs.Weights.{weight, repeating_weight, routines_weight}
use Rattle.sts_syntax.specs.Nodes.{program_texts, NamesTexts, is_among}
use Rattle.sts_syntax.specs.WellTypedPrograms.{IsWithinLimits, IsProgramWithinLimits}
use Rattle.flat_ir.specs.declared.ops.Op.{Op}
use Rattle.flat_ir.specs.declared.ops.Op.TheVariants.{TextOf}
use Rattle.flat_ir.specs.declared.ops.Function.{Function}
use Rattle.flat_ir.specs.declared.ops.FlatCode.{FlatCode}
use Rattle.flat_ir.specs.WellFormed.{IsWellFormedFunction, IsFunctionAmong, IsWellFormed}
use Rattle.flat_ir.specs.Liveness.{OnlyParametersAreLive}
use Rattle.sts_lower.specs.Lowered.{routine_ops, lowered_routine, repeating_ops, repeating_function, lowered_routines, repeating_functions, repeated_in_program, lowered}
use Rattle.lowered_code.specs.Costs.{cost}
use Rattle.lowered_code.specs.Texts.{Has, NamesOnly}
use Rattle.register_assign.specs.declared.places.Placed.{Placed}
use Rattle.thumb_layout.specs.declared.pieces.Piece.{Piece}
use Rattle.thumb_layout.specs.Cells.{laid}
use Rattle.thumb_emit.specs.Emit.{function_pieces}
use Rattle.thumb_emit.specs.Ready.{IsReady}
use Rattle.thumb_emit.specs.Bounds.{bytes_of_text, bytes_of_weight}
use Rattle.emitted_bytes.specs.Weighed.{texts_named}
use Rattle.image_link.specs.Image.{IsLinked}
use Rattle.image_link.specs.Linkable.{NamesTextBelow, NamesTextsBelow, IsLimited}
use Rattle.sts_whole.specs.Building.{IsPlaceable, HasSoundPlaces, IsLayable}
use Rattle.sts_whole.specs.Compiled.{functions_of, bodies_of}
use Rattle.sts_whole.proofs.Implementing.{named_among}
use Rattle.sts_whole.proofs.Room.{by_recursion, weights_of, limited}

pub placeable : (functions classes : ℕ) (fs : List Function) → AllByRecursion (IsFunctionAmong functions classes) fs → AllByRecursion OnlyParametersAreLive fs
    → AllByRecursion IsPlaceable fs
placeable functions classes [] among live = tt
placeable functions classes (f ∷ fs) among live = (record { formed = among.0.alone; entry = live.0 }, placeable functions classes fs among.1 live.1)

ready_all : (functions classes : ℕ) (fs : List Function) (placed : List Placed) → functions_of placed ≡ fs → AllByRecursion (IsFunctionAmong functions classes)
    fs → AllByRecursion HasSoundPlaces placed → AllByRecursion IsReady placed
ready_all functions classes fs [] e among sound = tt
ready_all functions classes [] (p ∷ ps) e among sound = absurd cc
ready_all functions classes (f ∷ fs) (p ∷ ps) e among sound =
    let h : f ≡ p.function = cc in
    let t : functions_of ps ≡ fs = cc in
    (record { formed = subst IsWellFormedFunction h among.0.alone; sound = sound.0 }, ready_all functions classes fs ps t among.1 sound.1)

-- code that keeps its weight can be laid, where the weight is within the limit of a function
module _ (few : (P : TypedProgram) (f : ℕ) (r : TypedRoutine) → length (routine_ops P f r) ≤ 3 * weight r)
    (few_repeats : (f : ℕ) → length (repeating_ops f) ≤ 3 * repeating_weight)
    (routines : (P : TypedProgram) (f : ℕ) (r : TypedRoutine) (p : Placed) → IsReady p → p.function ≡ lowered_routine P f r
    → length (laid (function_pieces p)).bytes + bytes_of_text * cost texts_named p.function.ops ≤ bytes_of_weight * weight r)
    (repeats : (f : ℕ) (p : Placed) → IsReady p → p.function ≡ repeating_function f → length (laid (function_pieces p)).bytes + bytes_of_text * cost
    texts_named p.function.ops ≤ bytes_of_weight * repeating_weight) where
  repeats_layable : (fs : List ℕ) (placed : List Placed) → AllByRecursion IsReady placed → functions_of placed ≡ repeating_functions fs
      → AllByRecursion IsLayable placed
  repeats_layable fs [] ready e = tt
  repeats_layable [] (p ∷ ps) ready e = absurd cc
  repeats_layable (f ∷ fs) (p ∷ ps) ready e =
      let h : p.function ≡ repeating_function f = cc in
      let t : functions_of ps ≡ repeating_functions fs = cc in
      let n : length p.function.ops ≡ length (repeating_ops f) = ap (λ (g : Function). length g.ops) h in (
        record { ready = ready.0; few = omega (arith, n, few_repeats f); short = (let b = repeats f p ready.0 h in omega (arith, b)) },
        repeats_layable fs ps ready.1 t,
      )

  routines_layable : (P : TypedProgram) (f : ℕ) (rs : List TypedRoutine) (fs : List ℕ) (placed : List Placed) → AllByRecursion (IsWithinLimits P) rs
      → AllByRecursion IsReady placed
      → functions_of placed ≡ lowered_routines P f rs ++ repeating_functions fs → AllByRecursion IsLayable placed
  routines_layable P f [] fs placed within ready e = repeats_layable fs placed ready e
  routines_layable P f (r ∷ rs) fs [] within ready e = tt
  routines_layable P f (r ∷ rs) fs (p ∷ ps) within ready e =
      let h : p.function ≡ lowered_routine P f r = cc in
      let t : functions_of ps ≡ lowered_routines P (suc f) rs ++ repeating_functions fs = cc in
      let n : length p.function.ops ≡ length (routine_ops P f r) = ap (λ (g : Function). length g.ops) h in (
        record { ready = ready.0; few = omega (arith, n, few P f r, within.0.weight); short = (let b = routines P f r p ready.0 h in omega (arith, b, within.0.weight)) },
        routines_layable P (suc f) rs fs ps
            within.1 ready.1 t,
      )

  pub layable : (P : TypedProgram) (texts : List (List ℕ)) (placed : List Placed) → IsProgramWithinLimits P texts → IsWellFormed (lowered P)
      → functions_of placed ≡ (lowered P).functions
      → AllByRecursion HasSoundPlaces placed → AllByRecursion IsLayable placed
  layable P texts placed limits formed e sound =
      routines_layable P 0 P.functions (repeated_in_program P) placed (by_recursion (IsWithinLimits P) P.functions limits.functions)
      (ready_all (length (lowered P).functions) (length (lowered P).classes) (lowered P).functions placed e formed.functions sound) e

-- what is compiled of such a program fits into flash
module _ (routines : (P : TypedProgram) (f : ℕ) (r : TypedRoutine) (p : Placed) → IsReady p → p.function ≡ lowered_routine P f r
    → length (laid (function_pieces p)).bytes + bytes_of_text * cost texts_named p.function.ops ≤ bytes_of_weight * weight r)
    (repeats : (f : ℕ) (p : Placed) → IsReady p → p.function ≡ repeating_function f → length (laid (function_pieces p)).bytes + bytes_of_text * cost
    texts_named p.function.ops ≤ bytes_of_weight * repeating_weight) where
  pub fits : ((C : FlatCode) (bodies : List (List Piece)) (texts : List ByteList) (weights : List ℕ) (used : ℕ → Bool) (image : List ℕ) → IsLimited C bodies texts weights used
      → IsLinked (map laid bodies) C texts image → length image ≤ flash_end)
      → (P : TypedProgram) (texts : List ByteList) (placed : List Placed) (image : List ℕ) → IsProgramWithinLimits P texts → routines_weight (take library_size P.functions) ≤
      600
      → IsWellFormed (lowered P) → functions_of placed ≡ (lowered P).functions → AllByRecursion HasSoundPlaces placed
      → IsLinked (map laid (bodies_of placed)) (lowered P) texts image → length image ≤ flash_end
  fits fit P texts placed image limits library formed e sound linked =
      let ready = ready_all (length (lowered P).functions) (length (lowered P).classes) (lowered P).functions placed e formed.functions sound in
      fit (lowered P) (bodies_of placed) texts (weights_of P.functions (repeated_in_program P)) (λ i. is_among (program_texts P) i) image
      (limited P (routines P) repeats texts placed limits library e ready (named_among P placed e)) linked

-- texts that code names are among the first so many, where those of its program are
among_below : (n : ℕ) (xs : List ℕ) → All (λ t. t < n) xs → (i : ℕ) → IsOneOf i xs → i < n
among_below n [] all i one = absurd one
among_below n (x ∷ xs) all i one = ⊎_elim (λ e. subst (λ k. k < n) (sym e) (All-head (λ t. t < n) x xs all))
    (λ r. among_below n xs (All-tail (λ t. t < n) x xs all) i r) one

op_below : (texts : List ℕ) (n : ℕ) → ((i : ℕ) → IsOneOf i texts → i < n) → (op : Op) → Has (λ value. Unit {0}) (λ text. IsOneOf text texts) op
    → NamesTextBelow n op
op_below texts n below (TextOf to text) h = below text h
op_below texts n below op h = tt

ops_below : (texts : List ℕ) (n : ℕ) → ((i : ℕ) → IsOneOf i texts → i < n) → (ops : List Op)
    → AllByRecursion (Has (λ value. Unit {0}) (λ text. IsOneOf text texts)) ops → AllByRecursion (NamesTextBelow n) ops
ops_below texts n below [] h = tt
ops_below texts n below (op ∷ ops) h = (op_below texts n below op h.0, ops_below texts n below ops h.1)

functions_below : (texts : List ℕ) (n : ℕ) → ((i : ℕ) → IsOneOf i texts → i < n) → (fs : List Function) → AllByRecursion (NamesOnly texts) fs
    → AllByRecursion (NamesTextsBelow n) fs
functions_below texts n below [] h = tt
functions_below texts n below (f ∷ fs) h = (ops_below texts n below f.ops h.0, functions_below texts n below fs h.1)

pub texts_below : (P : TypedProgram) (n : ℕ) → NamesTexts n P → AllByRecursion (NamesOnly (program_texts P)) (lowered P).functions
    → AllByRecursion (NamesTextsBelow n) (lowered P).functions
texts_below P n named only = functions_below (program_texts P) n (among_below n (program_texts P) named) (lowered P).functions only
