-- What is read is sound.
use Rattle.std.proofs.Common.{◌≡◌, ℕ, zero, suc, ◌<◌, ◌≤◌, ◌⊎◌, inl, inr, Bool, true, false, ◌||◌, if◌then◌else◌, nat_le, nat_lt, Option, Some, None, option_map, option_and_then, IfSome, Result, Ok, Err, List, [], ◌∷◌, length, get_or, refl, subst, arith, All, codes}
use Rattle.std.proofs.lemmas.Bool.Decides.{nat_tests}
use Rattle.std.proofs.lemmas.Int.{ints}
use Rattle.std.proofs.lemmas.List.Elements.{All-head, All-tail, All-weaker}
use Rattle.std.specs.List.Sorted.{IsNonDecreasingBy}
use Rattle.serde_json.specs.Data.{Data}
use Rattle.serde_json.specs.Find.{get, as_number, as_u64}
use Rattle.board_world.specs.Board as board
use Rattle.board_world.specs.Limits.{end_limit, last_port}
use Rattle.board_world.specs.Board.{IsSoundAct}
use Rattle.event_script.specs.Limits.{entry_limit, greatest_number}
use Rattle.event_script.specs.declared.script.Act.{Act}
use Rattle.event_script.specs.declared.script.Act.TheVariants.{Down, Up, Unplug}
use Rattle.event_script.specs.declared.script.Entry.{Entry}
use Rattle.event_script.specs.declared.script.Script.{Script}
use Rattle.event_script.specs.declared.script.ScriptCode.{ScriptCode}
use Rattle.event_script.specs.declared.script.ScriptCode.TheVariants.{OutOfOrder, PastEnd, TooMany}
use Rattle.event_script.specs.Trees.{at_most, whole, says, has_members, only_if, list_of}
use Rattle.event_script.specs.Form.{button_of, raised_with, act_of, entry_with, entry_of, script_with, script_of}
use Rattle.event_script.specs.Verdict.{falls_from, is_past, judged}
use Rattle.event_script.specs.World.{world_act, world_entries}
use Rattle.event_script.specs.Sound.{HasSmallNumbers, IsSound, IsWithinForm}
use Rattle.event_script.proofs.Lists.{list-some}

-- what is known of each act that is read
abbrev pub IsFine : Act → Type 0
IsFine a = IsSoundAct (world_act a) × HasSmallNumbers a

-- a fact for what there is, where there is something
module _ {X : Type 0} (P : X → Type 0) where
  pub only-some : (b : Bool) (x : Option X) → IfSome x P → IfSome (only_if b x) P
  only-some true x p = p
  only-some false x p = tt

  map-some : {Y : Type 0} (f : Y → X) (o : Option Y) → IfSome o (λ y. P (f y)) → IfSome (option_map f o) P
  map-some f None p = tt
  map-some f (Some y) p = p

at_most-some : (most : ℕ) (o : Option ℕ) → IfSome (at_most most o) (λ n. n ≤ most)
at_most-some most None = tt
at_most-some most (Some n) = by_test (nat_le n most) refl
  where
    by_test : (b : Bool) → nat_le n most ≡ b → IfSome (if b then Some n else None) (λ k. k ≤ most)
    by_test true e = grind (arith, nat_tests)
    by_test false e = tt

pub whole-some : (most : ℕ) (name : List ℕ) (d : Data) → IfSome (whole most name d) (λ n. n ≤ most)
whole-some most name d = at_most-some most (option_and_then as_u64 (option_and_then as_number (get name d)))

button-shape : (b c : Bool) → (let o : Option ℕ = (if b then Some 1 else if c then Some 2 else None) in IfSome o (λ n. (n ≡ 1) ⊎ (n ≡ 2)))
button-shape true c = inl refl
button-shape false true = inr refl
button-shape false false = tt

button-some : (d : Data) → IfSome (button_of d) (λ n. (n ≡ 1) ⊎ (n ≡ 2))
button-some d = button-shape (says (codes "button") (codes "A") d) (says (codes "button") (codes "B") d)

fine-button : (o : Option ℕ) → IfSome o (λ n. (n ≡ 1) ⊎ (n ≡ 2)) → IfSome o (λ n. ((n ≡ 1) ⊎ (n ≡ 2)) × Unit {0})
fine-button None h = tt
fine-button (Some n) h = (h, tt)

fine-port : (o : Option ℕ) → IfSome o (λ n. n ≤ last_port) → IfSome o (λ n. (n ≤ last_port) × Unit {0})
fine-port None h = tt
fine-port (Some n) h = (h, tt)

raised-some : (s v : Option ℕ) → IfSome s (λ n. n ≤ greatest_number) → IfSome v (λ n. n ≤ greatest_number) → IfSome (raised_with s v) IsFine
raised-some (Some s) (Some v) p q = (tt, (omega (arith, ints), omega (arith, ints), omega (arith, ints), omega (arith, ints)))
raised-some (Some s) None p q = tt
raised-some None v p q = tt

act-shape : (b1 b2 b3 b4 m n : Bool) (down up raise unplug : Option Act) → IfSome down IsFine → IfSome up IsFine → IfSome raise IsFine → IfSome unplug IsFine
    → IfSome (if b1 then only_if m down else if b2 then only_if m up else if b3 then only_if n raise else if b4 then only_if m unplug else None) IsFine
act-shape true b2 b3 b4 true n dn up rs un p q r s = p
act-shape true b2 b3 b4 false n dn up rs un p q r s = tt
act-shape false true b3 b4 true n dn up rs un p q r s = q
act-shape false true b3 b4 false n dn up rs un p q r s = tt
act-shape false false true b4 m true dn up rs un p q r s = r
act-shape false false true b4 m false dn up rs un p q r s = tt
act-shape false false false true true n dn up rs un p q r s = s
act-shape false false false true false n dn up rs un p q r s = tt
act-shape false false false false m n dn up rs un p q r s = tt

pub act-some : (d : Data) → IfSome (act_of d) IsFine
act-some d =
    let source = whole greatest_number (codes "source") d in
    let value = whole greatest_number (codes "value") d in
    let port = whole last_port (codes "port") d in
    act-shape (says (codes "do") (codes "down") d) (says (codes "do") (codes "up") d) (says (codes "do") (codes "raise") d) (says (codes "do") (codes "unplug") d) (has_members 3 d) (has_members 4 d)
    (option_map Down (button_of d)) (option_map Up (button_of d)) (raised_with source value) (option_map Unplug port)
    (map-some IsFine Down (button_of d) (fine-button (button_of d) (button-some d))) (map-some IsFine Up (button_of d) (fine-button (button_of d) (button-some d)))
    (raised-some source value (whole-some greatest_number (codes "source") d) (whole-some greatest_number (codes "value") d))
    (map-some IsFine Unplug port (fine-port port (whole-some last_port (codes "port") d)))

entry-some : (t : Option ℕ) (a : Option Act) → IfSome a IsFine → IfSome (entry_with t a) (λ e. IsFine e.act)
entry-some (Some t) (Some a) p = p
entry-some (Some t) None p = tt
entry-some None a p = tt

abbrev Formed : Script → Type 0
Formed s = (s.end ≤ end_limit) × All (λ e. IsFine e.act) s.entries

script-with-some : (t : Option ℕ) (es : Option (List Entry)) → IfSome t (λ n. n ≤ end_limit) → IfSome es (All (λ e. IsFine e.act)) → IfSome (script_with t es) Formed
script-with-some (Some t) (Some es) p q = (p, q)
script-with-some (Some t) None p q = tt
script-with-some None es p q = tt

script-some : (d : Data) → IfSome (script_of d) Formed
script-some d =
    let end = whole end_limit (codes "end") d in
    let entries = list_of entry_of (codes "events") d in
    let each = λ (e : Data). entry-some (whole end_limit (codes "at") e) (act_of e) (act-some e) in
    only-some Formed (has_members 2 d) (script_with end entries)
    (script-with-some end entries (whole-some end_limit (codes "end") d) (list-some (λ e. IsFine e.act) entry_of each (codes "events") d))

all-acts : (es : List Entry) → All (λ e. IsFine e.act) es → All (λ e. IsSoundAct e.act) (world_entries es)
all-acts [] p k d h = absurd (omega arith)
all-acts (e ∷ es) p zero d h = (All-head (λ e. IsFine e.act) e es p).0
all-acts (e ∷ es) p (suc k) d h = all-acts es (All-tail (λ e. IsFine e.act) e es p) k d (omega arith)

-- a list that doesn't fall
both-false : (a b : Bool) → (a || b) ≡ false → (a ≡ false) × (b ≡ false)
both-false true b e = absurd (cc)
both-false false b e = (refl, e)

lower : (before : ℕ) (es : List Entry) → falls_from before es ≡ false → (j : ℕ) (d : board.Entry) → j < length (world_entries es) → before ≤ (get_or (world_entries es) j d).at
lower before [] h j d lt = absurd (omega arith)
lower before (e ∷ es) h zero d lt = (let first = (both-false (nat_lt e.at before) (falls_from e.at es) h).0 in grind (arith, nat_tests))
lower before (e ∷ es) h (suc j) d lt =
    let both = both-false (nat_lt e.at before) (falls_from e.at es) h in
    let first : before ≤ e.at = (let t = both.0 in grind (arith, nat_tests)) in
    let more = lower e.at es both.1 j d (omega arith) in
    omega (arith, first, more)

ordered : (before : ℕ) (es : List Entry) → falls_from before es ≡ false → IsNonDecreasingBy (λ (e : board.Entry). e.at) (world_entries es)
ordered before [] h i j d le lt = absurd (omega arith)
ordered before (e ∷ es) h zero zero d le lt = omega arith
ordered before (e ∷ es) h zero (suc j) d le lt = lower e.at es (both-false (nat_lt e.at before) (falls_from e.at es) h).1 j d (omega arith)
ordered before (e ∷ es) h (suc i) zero d le lt = absurd (omega arith)
ordered before (e ∷ es) h (suc i) (suc j) d le lt = ordered e.at es (both-false (nat_lt e.at before) (falls_from e.at es) h).1 i j d (omega arith) (omega arith)

not_past : (end : ℕ) (es : List Entry) → is_past end es ≡ false → All (λ e. e.at ≤ end) (world_entries es)
not_past end [] h k d lt = absurd (omega arith)
not_past end (e ∷ es) h zero d lt = (let first = (both-false (nat_lt end e.at) (is_past end es) h).0 in grind (arith, nat_tests))
not_past end (e ∷ es) h (suc k) d lt = not_past end es (both-false (nat_lt end e.at) (is_past end es) h).1 k d (omega arith)

abbrev IsRead : Script → Type 0
IsRead s = IsSound s × IsWithinForm s

-- what passes all rules is the script itself, is sound, and keeps to the form
pub judged-sound : (d : Data) (s s' : Script) → script_of d ≡ Some s → judged s ≡ Ok s' → IsRead s'
judged-sound d s s' form h =
    by_tests (falls_from 0 s.entries) (is_past s.end s.entries) (nat_lt entry_limit (length s.entries)) refl refl refl h
  where
    formed : Formed s
    formed = (let all : IfSome (script_of d) Formed = script-some d in subst (λ (o : Option Script). IfSome o Formed) form all)

    by_tests : (a b c : Bool) → falls_from 0 s.entries ≡ a → is_past s.end s.entries ≡ b → nat_lt entry_limit (length s.entries) ≡ c
        → (let r : Result Script ScriptCode = (if a then Err OutOfOrder else if b then Err PastEnd else if c then Err TooMany else Ok s) in r ≡ Ok s') → IsRead s'
    by_tests true b c e f g k = absurd (cc)
    by_tests false true c e f g k = absurd (cc)
    by_tests false false true e f g k = absurd (cc)
    by_tests false false false e f g k =
        let same : s ≡ s' = cc in
        subst IsRead same (
          record { end = formed.0; order = ordered 0 s.entries e; within = not_past s.end s.entries f; acts = all-acts s.entries formed.1 },
          record { few = grind (arith, nat_tests); numbers = All-weaker (λ e. IsFine e.act) (λ e. HasSmallNumbers e.act) (λ e p. p.1) s.entries formed.1 },
        )

-- a number within its limit is there
pub within-limit : (most n : ℕ) → n ≤ most → at_most most (Some n) ≡ Some n
within-limit most n h = by_test (nat_le n most) (grind (arith, nat_tests))
  where
    by_test : (b : Bool) → b ≡ true → (let o : Option ℕ = (if b then Some n else None) in o ≡ Some n)
    by_test true e = refl
    by_test false e = absurd (cc)
