-- Calls and activities that begin are followed.
use Rattle.std.proofs.Common.{◌≡◌, ℕ, ◌+◌, ◌-◌, ◌≤◌, inl, inr, List, [], ◌∷◌, length, Option, Some, None, Bool, true, false, refl, sym, ap, ◌∙◌, subst, arith}
use Rattle.std.specs.Prelude.{pos, if◌then◌else◌, ◌==◌, nat_lt, get_or}
use Rattle.std.proofs.lemmas.Bool.{lt-ltb, le-ltb, eqb-true}
use Rattle.board_world.specs.Limits.{depth_limit}
use Rattle.board_world.specs.Panics.{depth_panic}
use Rattle.board_world.specs.Observations.{ByteList}
use Rattle.board_world.specs.Kinds.{Turn, Goes, Panics}
use Rattle.board_world.specs.Sound.{NoFault}
use Rattle.sts_syntax.specs.TypedTrees.{TypedRoutine, TypedProgram}
use Rattle.sts_syntax.specs.TypeRules.{entry, IsOneOf}
use Rattle.sts_syntax.specs.WellTypedPrograms.{is_maker}
use Rattle.sts_meaning.specs.Values.{Value, Whole, default, Gives, Stuck, there}
use Rattle.sts_meaning.specs.Heaps.{FlatHeap, Heap}
use Rattle.sts_meaning.specs.Continuation.{Put, Drop, Ask, Round}
use Rattle.sts_meaning.specs.Frames.{Names, Frame, Activity, Runs, stuck, after, round}
use Rattle.sts_meaning.specs.Steps as source
use Rattle.sts_implements.specs.Forgotten.{forget}
use Rattle.flat_meaning.specs.Operators.{exactly}
use Rattle.flat_meaning.specs.Frames.{FlatFrame, FlatActivity, Stands, entered, words, depth_of}
use Rattle.flat_meaning.specs.Steps as flat
use Rattle.sts_lower.specs.Lowered.{lowered, lowered_routine, repeating, repeated_in_program, repeating_function, repeating_ops}
use Rattle.lowered_code.specs.Fine.{IsFine}
use Rattle.lower_simulation.specs.Places.{HasAt}
use Rattle.std.specs.List.{AllZip}
use Rattle.lower_simulation.specs.Tied.{Shows, CodeTied, fetched, FrameWaits}
use Rattle.lower_simulation.proofs.Lying.{LiesIn, FrameTied}
use Rattle.lower_simulation.specs.Limits.{IsLight}
use Rattle.lower_simulation.proofs.Requests.{properly, plain_2}
use Rattle.lower_simulation.proofs.Statements.{body_at}
use Rattle.lower_simulation.proofs.Temporaries.{map_past}
use Rattle.lower_simulation.proofs.Functions.{exactly_is, has_all, routine_there, repeating_there, routine_words, repeating_frames}
use Rattle.lower_simulation.proofs.Turns.{Match, going, same_fault}

module _ (P : TypedProgram) (texts : List ByteList) (fine : IsFine P) (weight : FlatActivity → FlatHeap → ℕ) (light : IsLight (lowered P) weight) where
  abbrev M : ℕ → Heap → Turn Activity Heap → Turn FlatActivity FlatHeap → Type 0
  M used h u v = Match P texts weight light used h u v

  abbrev fr : ℕ → ℕ → (ℕ → Value) → FlatFrame
  fr j place temps = record { function = j; place = place; temps = temps }

  -- what a function does, from its beginning
  entered_lies : (f : ℕ) (r : TypedRoutine) (at : entry P.functions f ≡ Some r) → LiesIn P texts f f (length r.params) (length r.locals) (source.body_of P texts f r) 0 []
  entered_lies f r at =
      body_at P.classes (length P.functions) (repeating P) (repeated_in_program P) (length r.params) (length r.locals) (fetched P texts f) (is_maker P.classes f) (fine.this f r at) r.all (fine.all f r at)
      (has_all (entry (lowered P).functions f) (lowered_routine P f r) (routine_there P f r at))

  entered_shows : (r : TypedRoutine) (args : List Value) → length args ≡ length r.params → Shows (length r.params) (length r.locals) (record { params = λ i. get_or args i default; locals = λ i. default }) [] [] (λ i. get_or args i default)
  entered_shows r args e = record {
    of_params = λ i lt. refl;
    of_locals = λ i lt. map_past args (length r.params + i) (omega arith);
    pending = tt;
  }

  -- a round of a function that `forever` starts
  pub round_lies : (f j g : ℕ) → HasAt (fetched P texts j) 0 (repeating_ops g) → LiesIn P texts f j 0 0 (round g) 0 []
  round_lies f j g has =
      let last : LiesIn P texts f j 0 0 (Drop (Round g)) 3 (None ∷ []) = (refl, refl, refl, has.1.1.1.0, has) in
      let ask : LiesIn P texts f j 0 0 (Ask 2 1 false (Drop (Round g))) 2 (None ∷ []) = ([], (None, refl), has.1.1.0, refl, refl, properly (length P.functions) (None ∷ []) 2 1 (λ vs these rest marked e. plain_2 (length P.functions) these), inl last) in
      let put : LiesIn P texts f j 0 0 (Drop (Put (Whole (pos 20)) (Ask 2 1 false (Drop (Round g))))) 1 (None ∷ []) = (has.1.0, inl ask) in
      ([], refl, has.0, inl put)

  -- a call
  module _ (used : ℕ) (h : Heap) (base depth : ℕ) (waiting : List Frame) (waiting' : List FlatFrame) (wait : AllZip (FrameWaits P texts) waiting waiting') (deep : depth ≡ base + depth_of (lowered P) waiting') where
    entering_matches : (a : Frame) (b : FlatFrame) → FrameTied P texts a b → M used h (source.entering P texts h base depth a waiting) (flat.entering (lowered P) texts (forget h) base waiting' b)
    entering_matches a b tied =
        let d : depth + source.words P texts a.function ≡ base + depth_of (lowered P) waiting' + words (lowered P) b.function = let w = tied.words in omega arith in
        let whole : depth + source.words P texts a.function ≡ base + depth_of (lowered P) (b ∷ waiting') = let w = tied.words in omega arith in
        let runs_on = Runs a waiting base (depth + source.words P texts a.function) in
        let both : (c : Bool) → M used h (if c then Panics depth_panic else Goes runs_on h) (if c then Panics depth_panic else Goes (Stands b waiting' base) (forget h)) =
        λ c. elim c as (λ c. M used h (if c then Panics depth_panic else Goes runs_on h) (if c then Panics depth_panic else Goes (Stands b waiting' base) (forget h)))
        [ true ↦ refl | false ↦ going P texts weight light used h h (forget h) runs_on (Stands b waiting' base) refl (tied, wait, refl, whole) ] in
        subst (λ n. M used h (source.entering P texts h base depth a waiting) (if nat_lt depth_limit n then Panics depth_panic else Goes (Stands b waiting' base) (forget h))) d
        (both (nat_lt depth_limit (depth + source.words P texts a.function)))

    args_match : (f : ℕ) (r : TypedRoutine) → entry P.functions f ≡ Some r → (args : List Value) (b : Bool) → (length r.params == length args) ≡ b
        → M used h (if b then source.entering P texts h base depth (source.entered P texts f r args) waiting else stuck) (after (if b then Gives (tt {0}) else Stuck) (λ _. flat.entering (lowered P) texts (forget h) base waiting' (entered f args)))
    args_match f r at args true e =
        entering_matches (source.entered P texts f r args) (entered f args)
        (record { params = length r.params; locals = length r.locals; marks = []; words = routine_words P texts f r at; this = fine.this f r at; shows = entered_shows r args (sym (eqb-true (length r.params) (length args) e)); near = inl (entered_lies f r at) })
    args_match f r at args false e = (refl, refl)

    routine_matches : (f : ℕ) (args : List Value) (o : Option TypedRoutine) → entry P.functions f ≡ o → NoFault (after (there o) (λ r. if length r.params == length args then source.entering P texts h base depth (source.entered P texts f r args) waiting else stuck))
        → M used h (after (there o) (λ r. if length r.params == length args then source.entering P texts h base depth (source.entered P texts f r args) waiting else stuck)) (flat.called (lowered P) texts (forget h) base waiting' f args)
    routine_matches f args None at nf = absurd nf
    routine_matches f args (Some r) at nf =
        let source_turn = if length r.params == length args then source.entering P texts h base depth (source.entered P texts f r args) waiting else stuck in
        subst (λ x. M used h source_turn (after (there x) (λ r. after (exactly r.params args) (λ _. flat.entering (lowered P) texts (forget h) base waiting' (entered f args))))) (sym (routine_there P f r at))
        (subst (λ x. M used h source_turn (after x (λ _. flat.entering (lowered P) texts (forget h) base waiting' (entered f args)))) (exactly_is (length r.params) args)
        (args_match f r at args (length r.params == length args) refl))

    pub called_matches : (f : ℕ) (args : List Value) → NoFault (source.invoked P texts h base depth f args waiting) → M used h (source.invoked P texts h base depth f args waiting) (flat.called (lowered P) texts (forget h) base waiting' f args)
    called_matches f args nf = routine_matches f args (entry P.functions f) refl nf

  -- the frame that runs

  -- an activity that begins
  repeats_follow : (used : ℕ) (h : Heap) (base g i : ℕ) → IsOneOf g (repeated_in_program P) → i ≡ repeating P g → (x : Option TypedRoutine) → NoFault (after (there x) (λ r. source.entering P texts h base base (source.entered_round P texts g) []))
      → M used h (after (there x) (λ r. source.entering P texts h base base (source.entered_round P texts g) [])) (flat.called (lowered P) texts (forget h) base [] i [])
  repeats_follow used h base g i among is None nf = absurd nf
  repeats_follow used h base g i among is (Some r) nf =
      let f = length P.functions + g in
      let i' = repeating P g in
      let there' = repeating_there P g among in
      let names : Names = record { params = λ x. default; locals = λ x. default } in
      let shows : Shows 0 0 names [] [] (λ i. get_or [] i default) = record { of_params = λ x lt. refl; of_locals = λ x lt. refl; pending = tt } in
      let lies = round_lies f i' g (has_all (entry (lowered P).functions i') (repeating_function g) there') in
      let tied : FrameTied P texts (source.entered_round P texts g) (entered i' []) =
      record { params = 0; locals = 0; marks = []; words = repeating_frames P texts g among; this = λ e. absurd (fine.makers g e); shows = shows; near = inl lies } in
      let turn = source.entering P texts h base base (source.entered_round P texts g) [] in
      let flat_turn = flat.entering (lowered P) texts (forget h) base [] (entered i' []) in
      let bottom : base ≡ base + 0 = omega arith in
      subst (λ y. M used h turn (flat.called (lowered P) texts (forget h) base [] y [])) (sym is)
      (subst (λ z. M used h turn (after (there z) (λ r. after (exactly r.params []) (λ _. flat.entering (lowered P) texts (forget h) base [] (entered i' []))))) (sym there')
      (entering_matches used h base base [] [] tt bottom (source.entered_round P texts g) (entered i' []) tied))

  pub starts_follow : (used : ℕ) (h : Heap) (f i base : ℕ) → CodeTied P texts f i → NoFault (source.begun P texts h base base f) → M used h (source.begun P texts h base base f) (flat.called (lowered P) texts (forget h) base [] i [])
  starts_follow used h f i base (inl code) nf =
      let turn = source.invoked P texts h base base f [] [] in
      let rest = after (there (entry P.functions (f - length P.functions))) (λ r. source.entering P texts h base base (source.entered_round P texts (f - length P.functions)) []) in
      let is : source.begun P texts h base base f ≡ turn = ap (λ b. if b then turn else rest) (lt-ltb f (length P.functions) code.0) in
      let bottom : base ≡ base + 0 = omega arith in
      subst (λ u. M used h u (flat.called (lowered P) texts (forget h) base [] i [])) (sym is)
      (subst (λ y. M used h turn (flat.called (lowered P) texts (forget h) base [] y [])) (sym code.1)
      (called_matches used h base base [] [] tt bottom f [] (same_fault P texts weight light _ turn is nf)))
  starts_follow used h f i base (inr code) nf =
      let g = code.0 in
      let rest : ℕ → Turn Activity Heap = λ x. after (there (entry P.functions x)) (λ r. source.entering P texts h base base (source.entered_round P texts x) []) in
      let above : length P.functions ≤ f = let e = code.2 in omega arith in
      let less : f - length P.functions ≡ g = let e = code.2 in omega arith in
      let is : source.begun P texts h base base f ≡ rest g = ap (λ b. if b then source.invoked P texts h base base f [] [] else rest (f - length P.functions)) (le-ltb f (length P.functions) above) ∙ ap rest less in
      subst (λ u. M used h u (flat.called (lowered P) texts (forget h) base [] i [])) (sym is)
      (repeats_follow used h base g i code.1 code.3 (entry P.functions g) (same_fault P texts weight light _ (rest g) is nf))
