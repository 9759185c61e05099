-- Emitted and laid code can be linked.
use Rattle.std.proofs.Common.{◌≡◌, ℕ, zero, suc, ◌<◌, inl, inr, List, [], ◌∷◌, length, Bool, true, false, cond, sym, ap, ◌∙◌, subst, arith, get_or}
use Rattle.std.specs.Prelude.{map, Contains}
use Rattle.std.specs.List.{AllByRecursion}
use Rattle.std.proofs.lemmas.List.{length-map}
use Rattle.flat_ir.specs.declared.ops.Op.{Op}
use Rattle.flat_ir.specs.declared.ops.Op.TheVariants.{TextOf, MakeObject, Call, HandlerOf}
use Rattle.flat_ir.specs.declared.ops.FlatCode.{FlatCode}
use Rattle.flat_ir.specs.WellFormed.{NamesParts, IsFunctionAmong, IsWellFormed}
use Rattle.register_assign.specs.declared.places.Placed.{Placed}
use Rattle.thumb_layout.specs.declared.pieces.What.{What}
use Rattle.thumb_layout.specs.declared.pieces.What.TheVariants.{Function, Text, Class}
use Rattle.thumb_layout.specs.declared.laid.Fix.{Fix}
use Rattle.thumb_layout.specs.declared.laid.Laid.{Laid}
use Rattle.thumb_layout.specs.Cells.{laid}
use Rattle.thumb_layout.specs.Openings.{called, callees, addressed}
use Rattle.thumb_layout.proofs.Laws.{fixes_called, fixes_named}
use Rattle.thumb_emit.specs.Emit.{function_pieces}
use Rattle.thumb_emit.specs.Names.{name_of, names_of, call_of, calls_of, IsCalledBy}
use Rattle.thumb_emit.proofs.Laws.{function_named, function_called}
use Rattle.image_link.proofs.Lists.{all_append}
use Rattle.image_link.proofs.Showing.{all_fixed}
use Rattle.image_link.specs.Linkable.{IsThere, IsLinkable, NamesTextBelow, NamesTextsBelow}

abbrev AreThere : (functions classes texts : ℕ) → Laid → Type 0
AreThere functions classes texts l = AllByRecursion (λ f. IsThere functions classes texts f.call f.what) l.fixes

all_at : {X : Type 0} (P : X → Type 0) (xs : List X) (k : ℕ) (d : X) → k < length xs → AllByRecursion P xs → P (get_or xs k d)
all_at P [] k d l h = absurd (omega arith)
all_at P (x ∷ xs) zero d l h = h.0
all_at P (x ∷ xs) (suc k) d l h = all_at P xs k d (omega arith) h.1

all_contains : {X : Type 0} (P : X → Type 0) (xs : List X) (x : X) → AllByRecursion P xs → Contains xs x → P x
all_contains P xs x h c = subst P c.2 (all_at P xs c.0 x c.1 h)

module _ (functions classes texts : ℕ) where
  -- what ops name is there
  op_names : (op : Op) → NamesParts functions classes op → NamesTextBelow texts op → AllByRecursion (IsThere functions classes texts false) (name_of op)
  op_names (TextOf to text) h k = (k, tt)
  op_names (MakeObject to class) h k = (h, tt)
  op_names (HandlerOf to function) h k = (h, tt)
  op_names _ h k = tt

  op_calls : (op : Op) → NamesParts functions classes op → AllByRecursion (λ f. f < functions) (call_of op)
  op_calls (Call to function args) h = (h, tt)
  op_calls _ h = tt

  ops_name : (ops : List Op) → AllByRecursion (NamesParts functions classes) ops → AllByRecursion (NamesTextBelow texts) ops → AllByRecursion (IsThere functions classes texts false) (names_of ops)
  ops_name [] h k = tt
  ops_name (op ∷ ops) h k = all_append (IsThere functions classes texts false) (name_of op) (names_of ops) (op_names op h.0 k.0) (ops_name ops h.1 k.1)

  ops_call : (ops : List Op) → AllByRecursion (NamesParts functions classes) ops → AllByRecursion (λ f. f < functions) (calls_of ops)
  ops_call [] h = tt
  ops_call (op ∷ ops) h = all_append (λ f. f < functions) (call_of op) (calls_of ops) (op_calls op h.0) (ops_call ops h.1)

  call_there : (ops : List Op) → AllByRecursion (λ f. f < functions) (calls_of ops) → (what : What) → IsCalledBy ops what → IsThere functions classes texts true what
  call_there ops h (Function f) (inl e) = inr e
  call_there ops h (Function f) (inr c) = inl (all_contains (λ n. n < functions) (calls_of ops) f h c)
  call_there ops h (Text i) c = elim c [ ]
  call_there ops h (Class k) c = elim c [ ]

  calls_there : (ops : List Op) → AllByRecursion (λ f. f < functions) (calls_of ops) → (ws : List What) → AllByRecursion (IsCalledBy ops) ws → AllByRecursion (IsThere functions classes texts true) ws
  calls_there ops h [] k = tt
  calls_there ops h (w ∷ ws) k = (call_there ops h w k.0, calls_there ops h ws k.1)

  -- what is open in code is there
  fix_there : (call : Bool) (what : What) (ws us : List What) → AllByRecursion (IsThere functions classes texts true) (cond call (what ∷ ws) ws) → AllByRecursion (IsThere functions classes texts false) (cond call us (what ∷ us))
      → IsThere functions classes texts call what × AllByRecursion (IsThere functions classes texts true) ws × AllByRecursion (IsThere functions classes texts false) us
  fix_there true what ws us h k = (h.0, h.1, k)
  fix_there false what ws us h k = (k.0, h, k.1)

  fixes_there : (fs : List Fix) → AllByRecursion (IsThere functions classes texts true) (callees fs) → AllByRecursion (IsThere functions classes texts false) (addressed fs)
      → AllByRecursion (λ f. IsThere functions classes texts f.call f.what) fs
  fixes_there [] h k = tt
  fixes_there (f ∷ fs) h k = let g = fix_there f.call f.what (callees fs) (addressed fs) h k in (g.0, fixes_there fs g.1 g.2)

  placed_there : (p : Placed) → IsFunctionAmong functions classes p.function → NamesTextsBelow texts p.function → AreThere functions classes texts (laid (function_pieces p))
  placed_there p h k =
      let xs = function_pieces p in
      let ops = p.function.ops in
      fixes_there (laid xs).fixes
      (subst (AllByRecursion (IsThere functions classes texts true)) (sym (fixes_called xs)) (calls_there ops (ops_call ops h.names) (called xs) (function_called p)))
      (subst (AllByRecursion (IsThere functions classes texts false)) (sym (fixes_named xs ∙ function_named p)) (ops_name ops h.names k))

  all_there : (placed : List Placed) → AllByRecursion (IsFunctionAmong functions classes) (map (λ p. p.function) placed) → AllByRecursion (NamesTextsBelow texts) (map (λ p. p.function) placed)
      → AllByRecursion (AreThere functions classes texts) (map laid (map function_pieces placed))
  all_there [] h k = tt
  all_there (p ∷ placed) h k = (placed_there p h.0 k.0, all_there placed h.1 k.1)

pub can_be_linked : (C : FlatCode) (placed : List Placed) (texts : ℕ) → IsWellFormed C → map (λ p. p.function) placed ≡ C.functions → AllByRecursion (NamesTextsBelow texts) C.functions
    → IsLinkable (map laid (map function_pieces placed)) C texts
can_be_linked C placed texts h e k =
    record {
      formed = h;
      entries = length-map (map function_pieces placed) laid ∙ (length-map placed function_pieces ∙ (sym (length-map placed (λ (p : Placed). p.function)) ∙ ap length e));
      fixes = all_fixed (map function_pieces placed);
      there = all_there (length C.functions) (length C.classes) texts placed (subst (AllByRecursion (IsFunctionAmong (length C.functions) (length C.classes))) (sym e) h.functions) (subst (AllByRecursion (NamesTextsBelow texts)) (sym e) k);
    }
