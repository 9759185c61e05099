-- Which places `assign` chooses, as a function of the function alone: intervals, how much temporaries are used, and who gets which register, one after another.
use Rattle.std.specs.Prelude.{ℕ, zero, suc, ◌+◌, ◌-◌, ◌*◌, ◌^◌, ◌==◌, min, Bool, true, false, not, ◌&&◌, ◌||◌, if◌then◌else◌, nat_lt, nat_le, Option, Some, None, List, [], ◌∷◌, ◌++◌, length, replicate, slice_get, slice_index_or, slice_set}
use Rattle.flat_ir.specs.declared.ops.Op.{Op}
use Rattle.flat_ir.specs.declared.ops.Function.{Function}
use Rattle.flat_ir.specs.Ops.{reads, writes, target_of}
use Rattle.flat_ir.specs.WellFormed.{temporaries}
use Rattle.register_assign.specs.declared.places.Place.{Place}
use Rattle.register_assign.specs.declared.places.Place.TheVariants.{Reg, Slot, Incoming}
use Rattle.register_assign.specs.declared.intervals.Interval.{Interval}
use Rattle.register_assign.specs.declared.uses.Bounds.{Bounds}
use Rattle.register_assign.specs.Sound.{place_of}
use Rattle.register_assign.specs.Intervals.{interval_of}
use Rattle.register_assign.specs.Marks.{is_among, is_the}
use Rattle.register_assign.specs.Unread.{is_read_within}

-- the values of a function at the first n numbers
abbrev pub firsts : {X : Type 0} → (ℕ → X) → ℕ → List X
firsts g zero = []
firsts g (suc n) = firsts g n ++ (g n ∷ [])

-- the op at a place reads or writes a temporary
abbrev pub is_read_at : Option Op → ℕ → Bool
is_read_at None t = false
is_read_at (Some op) t = is_among t (reads op)

abbrev pub is_written_at : Option Op → ℕ → Bool
is_written_at None t = false
is_written_at (Some op) t = is_the t (writes op)

-- a temporary is live at a place, or written there
abbrev pub is_busy_at : List Op → ℕ → ℕ → Bool
is_busy_at ops t at = is_read_within (length ops) ops t at || is_written_at (slice_get ops at) t

abbrev pub interval_from : ℕ → ℕ → Interval
interval_from first end = record { first = first; end = end }

-- an interval with a place more, where the temporary is busy there; and with all those of the first n places
abbrev pub widened : Bool → ℕ → Interval → Interval
widened busy at i = if busy then interval_from (min i.first at) (at + 1) else i

abbrev pub widened_to : List Op → ℕ → Interval → ℕ → Interval
widened_to ops t i zero = i
widened_to ops t i (suc n) = widened (is_busy_at ops t n) n (widened_to ops t i n)

-- the interval of a temporary; a parameter's has the function's entry
abbrev pub empty_interval : List Op → Bool → Interval
empty_interval ops parameter =
    record { first = if parameter then 0 else length ops; end = if parameter then 1 else 0 }

abbrev pub busy_interval : List Op → ℕ → Bool → Interval
busy_interval ops t parameter = widened_to ops t (empty_interval ops parameter) (length ops)

abbrev pub intervals_to : Function → ℕ → List Interval
intervals_to f = firsts (λ t. busy_interval f.ops t (nat_lt t f.params))

-- a temporary's own place
abbrev pub own_place : ℕ → ℕ → Place
own_place params t = if nat_lt t params then Incoming t else Slot (t - params)

-- the op at or before this one at which a run goes on from it
abbrev pub no_later : ℕ → Option ℕ → Option ℕ
no_later at None = None
no_later at (Some target) = if nat_le target at then Some target else None

abbrev pub back_to : ℕ → Option Op → Option ℕ
back_to at None = None
back_to at (Some op) = no_later at (target_of op)

-- where loops begin and end
abbrev pub no_bounds : Bounds
no_bounds = record { begins = false; ended = 0 }

abbrev pub bounds_at : List Bounds → ℕ → Bounds
bounds_at bounds at = slice_index_or bounds at no_bounds

abbrev pub ended_more : Bounds → Bounds
ended_more b = record { begins = b.begins; ended = min (b.ended + 1) (2 ^ 32 - 1) }

abbrev pub with_begin : Bounds → Bounds
with_begin b = record { begins = true; ended = b.ended }

abbrev pub with_end : List Bounds → ℕ → List Bounds
with_end bounds end =
    if nat_lt end (length bounds) then slice_set bounds end (ended_more (bounds_at bounds end)) else bounds

abbrev pub with_loop : List Bounds → ℕ → ℕ → List Bounds
with_loop bounds begin end =
    if (bounds_at bounds begin).begins then bounds
    else with_end (slice_set bounds begin (with_begin (bounds_at bounds begin))) end

abbrev pub with_back : List Bounds → ℕ → Option ℕ → List Bounds
with_back bounds at None = bounds
with_back bounds at (Some target) = with_loop bounds target (at + 1)

-- the loops that end with one of the last n ops
abbrev pub loops_of_last : List Op → ℕ → List Bounds
loops_of_last ops zero = replicate (length ops) no_bounds
loops_of_last ops (suc n) =
    with_back (loops_of_last ops n) (length ops - suc n) (back_to (length ops - suc n) (slice_get ops (length ops - suc n)))

abbrev pub loops : List Op → List Bounds
loops ops = loops_of_last ops (length ops)

-- in how many loops the first n ops leave the next one, and what a use in so many counts
abbrev pub deeper : Bounds → ℕ → ℕ
deeper b depth = if b.begins then min (depth - b.ended + 1) (2 ^ 32 - 1) else depth - b.ended

abbrev pub depth_to : List Bounds → ℕ → ℕ
depth_to bounds zero = 0
depth_to bounds (suc n) = deeper (bounds_at bounds n) (depth_to bounds n)

abbrev pub tens : ℕ → ℕ
tens zero = 1
tens (suc n) = min (tens n * 10) (2 ^ 64 - 1)

abbrev pub use_weight : ℕ → ℕ
use_weight depth = tens (min depth 12)

abbrev pub weights_to : List Bounds → ℕ → List ℕ
weights_to bounds = firsts (λ at. use_weight (depth_to bounds (suc at)))

abbrev pub weights_of : List Op → List ℕ
weights_of ops = weights_to (loops ops) (length ops)

-- how much a temporary is used in the first n ops
abbrev pub with_use : Bool → ℕ → ℕ → ℕ
with_use counts use_weight sum = if counts then min (sum + use_weight) (2 ^ 64 - 1) else sum

abbrev pub uses_to : List Op → ℕ → List ℕ → ℕ → ℕ
uses_to ops t weights zero = 0
uses_to ops t weights (suc n) =
    with_use (is_written_at (slice_get ops n) t) (slice_index_or weights n 0)
    (with_use (is_read_at (slice_get ops n) t) (slice_index_or weights n 0) (uses_to ops t weights n))

abbrev pub uses_of : List Op → ℕ → ℕ
uses_of ops t = uses_to ops t (weights_of ops) (length ops)

-- the first that is used most among the first n that are left
abbrev pub is_more : Option ℕ → Option ℕ → Bool
is_more None most = false
is_more (Some uses) None = true
is_more (Some uses) (Some most) = nat_lt most uses

pub record Most : Type 0 where
  pub best : Option ℕ
  pub most : Option ℕ

abbrev pub left_at : List (Option ℕ) → ℕ → Option ℕ
left_at left t = slice_index_or left t None

abbrev pub more_of : Bool → ℕ → Option ℕ → Most → Most
more_of more t uses m = if more then record { best = Some t; most = uses } else m

abbrev pub most_to : List (Option ℕ) → ℕ → Most
most_to left zero = record { best = None; most = None }
most_to left (suc n) = more_of (is_more (left_at left n) (most_to left n).most) n (left_at left n) (most_to left n)

abbrev pub most_used : List (Option ℕ) → Option ℕ
most_used left = (most_to left (length left)).best

-- a register is free in an interval, as far as the first n temporaries go
abbrev pub are_apart : Interval → Interval → Bool
are_apart a b = nat_le a.end b.first || nat_le b.end a.first

abbrev pub clashes : ℕ → Interval → Place → Interval → Bool
clashes r i (Reg other) busy = (other == r) && not (are_apart busy i)
clashes r i place busy = false

abbrev pub is_free_to : ℕ → List Place → List Interval → Interval → ℕ → Bool
is_free_to r places intervals i zero = true
is_free_to r places intervals i (suc n) = is_free_to r places intervals i n && not (clashes r i (place_of places n) (interval_of intervals n))

abbrev pub is_free : ℕ → List Place → List Interval → Interval → Bool
is_free r places intervals i = is_free_to r places intervals i (length places)

abbrev pub free_register : List Place → List Interval → Interval → Option ℕ
free_register places intervals i =
    if is_free 4 places intervals i then Some 4
    else if is_free 5 places intervals i then Some 5
    else if is_free 6 places intervals i then Some 6
    else if is_free 7 places intervals i then Some 7
    else None

-- a temporary goes to a register, if one is free
abbrev pub in_register : List Place → ℕ → Option ℕ → List Place
in_register places t None = places
in_register places t (Some r) = slice_set places t (Reg r)

abbrev pub with_register : List Place → List Interval → ℕ → List Place
with_register places intervals t = in_register places t (free_register places intervals (interval_of intervals t))

-- so do all, in the order of how much they are used
pub record Serving : Type 0 where
  pub places : List Place
  pub left : List (Option ℕ)

abbrev pub serving : List Place → List (Option ℕ) → Serving
serving places left = record { places = places; left = left }

abbrev pub served_one : List Interval → Serving → Option ℕ → Serving
served_one intervals g None = g
served_one intervals g (Some t) =
    serving (with_register g.places intervals t) (slice_set g.left t None)

abbrev pub served_to : List Interval → Serving → ℕ → Serving
served_to intervals g zero = g
served_to intervals g (suc n) = served_one intervals (served_to intervals g n) (most_used (served_to intervals g n).left)

-- THE PLACES of a function's temporaries
abbrev pub first_serving : Function → Serving
first_serving f =
    serving (firsts (own_place f.params) (temporaries f)) (firsts (λ t. Some (uses_of f.ops t)) (temporaries f))

unfoldable pub chosen_places : Function → List Place
chosen_places f = (served_to (intervals_to f (temporaries f)) (first_serving f) (temporaries f)).places
