-- The step of an activity, and the source of programs as a kind of activity.
use Rattle.std.specs.Prelude.{ℕ, suc, ◌+◌, ◌-◌, pos, ◌+ℤ◌, Bool, false, if◌then◌else◌, ◌==◌, nat_lt, List, [], ◌∷◌, length, get_or, Option, Some, None}
use Rattle.board_world.specs.declared.requests.Request.TheVariants.{Spawn}
use Rattle.board_world.specs.Limits.{depth_limit}
use Rattle.board_world.specs.Panics.{depth_panic}
use Rattle.board_world.specs.Observations.{ByteList}
use Rattle.board_world.specs.Board.{Entry}
use Rattle.board_world.specs.Font.{glyph_of}
use Rattle.board_world.specs.Kinds.{Kind, Turn, Goes, Takes, Ends, Panics}
use Rattle.board_world.specs.Requests.{Asker, asked}
use Rattle.board_world.specs.Activities.{World}
use Rattle.board_world.specs.World.{start}
use Rattle.board_world.specs.Runs.{run}
use Rattle.sts_syntax.specs.TypedTrees.{TypedStatement, TypedRoutine, TypedProgram}
use Rattle.sts_syntax.specs.Measures.{frame_words, repeating_words, object_words, array_words}
use Rattle.sts_syntax.specs.TypeRules.{entry}
use Rattle.sts_syntax.specs.WellTypedPrograms.{is_maker}
use Rattle.sts_meaning.specs.Values.{Value, Whole, Object, default, Outcome, then_gives, there, applied, applied_before, bumped, decided, to_int32}
use Rattle.sts_meaning.specs.Heaps.{Fields, Items, Heap, with_cell, object_at, read_field, write_field, read_item, write_item, length_at, pushed, popped, next_item}
use Rattle.sts_meaning.specs.Services.{code, requested}
use Rattle.sts_meaning.specs.Continuation.{Continuation, Put, Get, Store, Drop, Unary, Apply, Choose, Both, Either, Read, Peek, Write, At, PeekAt, SetAt, Bump, BumpField, BumpAt, Measure, Push, Pop, Open, Append, New, Build, Invoke, Send, Ask, Repeat, Again, Each, Leave, Give, Round, Impossible, runs, runs_all, bare}
use Rattle.sts_meaning.specs.Frames.{Names, Frame, Activity, Starts, Runs, stuck, after, grown, with_latest, with_two, with_three, taken, named, with_local, stored, defaults, answered, round}

-- An activity of a program with these texts.
module _ (P : TypedProgram) (texts : List ByteList) where
  -- The functions that `forever` starts are numbered behind those of the program: each calls the function whose number it has less theirs.
  abbrev pub repeating : ℕ → ℕ
  repeating f = length P.functions + f

  -- the words of a function's frame
  abbrev pub words_in : Option TypedRoutine → ℕ
  words_in None = repeating_words
  words_in (Some r) = frame_words r

  abbrev pub words : ℕ → ℕ
  words f = words_in (entry P.functions f)

  -- what a function does
  abbrev pub body_of : ℕ → TypedRoutine → Continuation
  body_of f r = (let maker = is_maker P.classes f in runs_all maker r.all (bare maker) (bare maker) (bare maker))

  -- a function's frame as it begins, and that of one that `forever` starts
  abbrev pub entered : ℕ → TypedRoutine → List Value → Frame
  entered f r args = record {
    function = f;
    names = record { params = λ i. get_or args i default; locals = λ i. default };
    values = [];
    todo = body_of f r;
  }

  abbrev pub entered_round : ℕ → Frame
  entered_round f = record {
    function = repeating f;
    names = record { params = λ i. default; locals = λ i. default };
    values = [];
    todo = round f;
  }

  -- the method in a slot of an object's class
  abbrev pub method : Heap → Value → ℕ → Outcome ℕ
  method h o s =
      then_gives (object_at h o) (λ c. then_gives (there (entry P.classes c.0)) (λ class. there (entry class.slots s)))

  -- where an activity began, and its depth before a call
  module _ (heap : Heap) (base depth : ℕ) where
    -- a frame begins above those that wait for it; past the greatest depth it is a panic
    abbrev pub entering : Frame → List Frame → Turn Activity Heap
    entering frame waiting =
        (let deeper = depth + words frame.function in if nat_lt depth_limit deeper then Panics depth_panic
        else Goes (Runs frame waiting base deeper) heap)

    -- a call, of as many arguments as parameters
    abbrev pub invoked : ℕ → List Value → List Frame → Turn Activity Heap
    invoked f args waiting =
        after (there (entry P.functions f))
        (λ r. if length r.params == length args then entering (entered f r args) waiting else stuck)

    -- the end of a function: its value goes to the frame that waits for it; behind the last one the activity ends
    abbrev pub ended : ℕ → Value → List Frame → Turn Activity Heap
    ended f v [] = Ends (λ g. Starts g base) heap
    ended f v (frame ∷ rest) = Goes (Runs (record frame { values = v ∷ frame.values }) rest base (depth - words f)) heap

    -- an activity begins
    abbrev pub begun : ℕ → Turn Activity Heap
    begun f =
        if nat_lt f (length P.functions) then invoked f [] []
        else after (there (entry P.functions (f - length P.functions)))
        (λ r. entering (entered_round (f - length P.functions)) [])

  -- a frame that runs: its function and names, those that wait for it, and the depths
  module _ (heap : Heap) (function : ℕ) (names : Names) (callers : List Frame) (base depth : ℕ) where
    -- the frame at other values and another rest
    abbrev pub at : List Value → Continuation → Frame
    at vs k = record { function = function; names = names; values = vs; todo = k }

    abbrev pub now : List Value → Continuation → Activity
    now vs k = Runs (at vs k) callers base depth

    -- the same with other names
    abbrev pub now_with : Names → List Value → Continuation → Activity
    now_with m vs k = Runs (record { function = function; names = m; values = vs; todo = k }) callers base depth

    -- Whoever asks the board for something goes on with the answer. Values go into arrays by words of their own.
    abbrev pub asker : Bool → List Value → Continuation → Asker Activity Heap
    asker answers vs k = record {
      text = λ n. get_or texts n [];
      glyph = glyph_of;
      push = λ array value. stuck;
      above = λ g. Starts g depth;
      again = λ g. Starts g base;
      next = λ answer. (now (answered answers answer ∷ vs) k, heap);
    }

    abbrev pub takes_item : ℕ → TypedStatement → List Value → Continuation → Option (ℕ × Value) → Turn Activity Heap
    takes_item i s vs k None = Goes (now vs k) heap
    takes_item i s vs k (Some x) =
        (let turn = Each i s k in
        Goes (now_with (with_local i x.1 (with_local (suc (suc i)) (Whole (to_int32 (pos x.0 +ℤ pos 1))) names)) vs
        (runs (is_maker P.classes function) s k turn turn)) heap)

    -- one counted step
    abbrev pub act : Continuation → List Value → Turn Activity Heap
    act (Put v k) vs = Goes (now (v ∷ vs) k) heap
    act (Get x k) vs = after (named heap names x) (λ v. Goes (now (v ∷ vs) k) heap)
    act (Store x k) vs = with_latest vs (λ v rest. after (stored x v names heap) (λ s. Goes (now_with s.0 vs k) s.1))
    act (Drop k) [] = stuck
    act (Drop k) (v ∷ rest) = act k rest
    act (Unary op k) vs = with_latest vs (λ v rest. after (applied_before op v) (λ w. Goes (now (w ∷ rest) k) heap))
    act (Apply op k) vs = with_two vs (λ a b rest. after (applied op a b) (λ v. Goes (now (v ∷ rest) k) heap))
    act (Choose so otherwise) vs =
        with_latest vs (λ v rest. after (decided v) (λ b. Goes (now rest (if b then so else otherwise)) heap))
    act (Both so otherwise) vs =
        with_latest vs (λ v rest. after (decided v) (λ b. Goes (if b then now rest so else now vs otherwise) heap))
    act (Either so otherwise) vs =
        with_latest vs (λ v rest. after (decided v) (λ b. Goes (if b then now vs so else now rest otherwise) heap))
    act (Read i k) vs = with_latest vs (λ o rest. after (read_field heap o i) (λ v. Goes (now (v ∷ rest) k) heap))
    act (Peek i k) vs = with_latest vs (λ o rest. after (read_field heap o i) (λ v. Goes (now (v ∷ vs) k) heap))
    act (Write i k) vs = with_two vs (λ o v rest. after (write_field heap o i v) (λ h'. Goes (now (v ∷ rest) k) h'))
    act (At k) vs = with_two vs (λ a i rest. after (read_item heap a i) (λ v. Goes (now (v ∷ rest) k) heap))
    act (PeekAt k) vs = with_two vs (λ a i rest. after (read_item heap a i) (λ v. Goes (now (v ∷ vs) k) heap))
    act (SetAt k) vs = with_three vs (λ a i v rest. after (write_item heap a i v) (λ h'. Goes (now (v ∷ rest) k) h'))
    act (Bump x by late k) vs =
        after (then_gives (named heap names x) (bumped by late))
        (λ b. after (stored x b.new names heap) (λ s. Goes (now_with s.0 (b.given ∷ vs) k) s.1))
    act (BumpField i by late k) vs =
        with_latest vs (λ o rest. after (then_gives (read_field heap o i) (bumped by late))
        (λ b. after (write_field heap o i b.new) (λ h'. Goes (now (b.given ∷ rest) k) h')))
    act (BumpAt by late k) vs =
        with_two vs (λ a i rest. after (then_gives (read_item heap a i) (bumped by late))
        (λ b. after (write_item heap a i b.new) (λ h'. Goes (now (b.given ∷ rest) k) h')))
    act (Measure k) vs = with_latest vs (λ a rest. after (length_at heap a) (λ v. Goes (now (v ∷ rest) k) heap))
    act (Push k) vs = with_two vs (λ a v rest. after (pushed heap a v) (λ x. grown x.0 x.1 (now (default ∷ rest) k)))
    act (Pop k) vs = with_latest vs (λ a rest. after (popped heap a) (λ x. Goes (now (x.0 ∷ rest) k) x.1))
    act (Open u room k) vs =
        Takes (array_words room) (λ at. (now (Object at ∷ vs) k, with_cell at (Items u room []) heap))
    act (Append k) vs = with_two vs (λ a v rest. after (pushed heap a v) (λ x. grown x.0 x.1 (now (a ∷ rest) k)))
    act (New c k) vs =
        after (there (entry P.classes c)) (λ class. Takes (object_words class)
        (λ at. (now (Object at ∷ vs) k, with_cell at (Fields c (defaults class.fields)) heap)))
    act (Build c m k) vs =
        after (there (entry P.classes c)) (λ class. with_latest vs
        (λ o rest. after (taken m rest) (λ x. invoked heap base depth class.maker (o ∷ x.0) (at x.1 k ∷ callers))))
    act (Invoke g m k) vs = after (taken m vs) (λ x. invoked heap base depth g x.0 (at x.1 k ∷ callers))
    act (Send s m k) vs =
        after (taken m vs) (λ x.
        after (then_gives (there (entry x.0 0)) (λ o. method heap o s)) (λ g. invoked heap base depth g x.0 (at x.1 k ∷ callers)))
    act (Ask service m answers k) vs =
        after (taken m vs) (λ x. after (requested service x.0) (λ r. asked (asker answers x.1 k) r))
    act (Repeat k) vs =
        with_latest vs (λ v rest. after (code v) (λ g. asked (asker false rest k) (Spawn (repeating g))))
    act (Again s k) vs = Goes (now vs (runs (is_maker P.classes function) s k k k)) heap
    act (Each i s k) vs =
        after (next_item heap (names.locals (suc i)) (names.locals (suc (suc i)))) (λ x. takes_item i s vs k x)
    act (Leave to) vs = Goes (now vs to) heap
    act Give vs = with_latest vs (λ v rest. ended heap base depth function v callers)
    act (Round g) vs = Goes (now vs (round g)) heap
    act Impossible vs = stuck

  abbrev pub step : Activity → Heap → Turn Activity Heap
  step (Starts f base) h = begun h base base f
  step (Runs frame callers base depth) h = act h frame.function frame.names callers base depth frame.todo frame.values

  -- the depth of an activity, less that at which it began
  abbrev pub depth_of : Activity → ℕ
  depth_of (Starts f base) = 0
  depth_of (Runs frame callers base depth) = depth - base

  -- the source as a kind of activity
  abbrev pub source : Kind Activity Heap
  source = record { begin = λ f. Starts f 0; step = step; depth = depth_of }

  -- what is shared as a run begins: every global is 0, and there are no objects and arrays
  abbrev pub empty : Heap
  empty = record { globals = defaults P.globals; cells = λ n. None }

  -- the world as a run on a script begins
  abbrev pub source_start : ℕ → List Entry → World Activity Heap
  source_start until script = start source P.main empty until script

  -- the world after n counted steps, or its end
  abbrev pub source_run : ℕ → List Entry → ℕ → World Activity Heap
  source_run until script n = run source n (source_start until script)
