-- One word that is taken by hand is taken by `clap`.
use Rattle.std.proofs.Common.{◌≡◌, ℕ, ◌+◌, List, [], ◌∷◌, ◌++◌, length, take, drop, refl, sym, ap, ◌∙◌, subst, Bool, true, false, codes, eqb, arith}
use Rattle.std.specs.Prelude.{Option, Some, None, is_some, nat_le, option_and_then, if◌then◌else◌}
use Rattle.std.specs.Option.{option_map}
use Rattle.std.specs.Str.{bytes_eq}
use Rattle.std.proofs.lemmas.Bool.{false≢true, lt-leb}
use Rattle.clap.specs.Words.{Row, Text}
use Rattle.clap.specs.Walk.{Walk, idle, option, walked, used}
use Rattle.sts_words.specs.Orders.{most_budget}
use Rattle.sts_words.specs.Words.{a_name, a_budget, the_stats, the_image, Said, number_within, is_name}
use Rattle.sts_words.specs.Views.{behind_budget, joined_part, part_of, added}
use Rattle.sts_words.proofs.Laws.{same-text, joined-text, Plain, name-plain, next}
use Rattle.command_line.proofs.Spelled.{number-plain}
use Rattle.command_line.proofs.Steps as step
use Rattle.command_line.proofs.Steps.{at, held, rules, whole, Settles, Passes, name_built, script_built, arrivals_built, budget_built, stats_built, image_built, row_for, first-use}
use Rattle.command_line.proofs.Has.{Has, has-stats, has-image, has-budget, has-name, has-script, has-arrivals, no-stats, no-image, no-budget, no-name, no-script, no-arrivals, no-row}

-- The walk stands behind what was said.
pub record Ready (said : Said) (w : Walk) : Type 0 where
  pub rows : List Row
  pub pending : Option (Text × List Text)
  pub skip : ℕ
  pub walk_is : w ≡ at (held rows pending skip) idle (1 + length said.names)
  pub has : Has said (whole pending rows)
  pub settles : Settles rows pending skip

-- The walk stands behind `--budget`, whose number is due.
pub record Due (said : Said) (w : Walk) : Type 0 where
  pub rows : List Row
  pub skip : ℕ
  pub walk_is : w ≡ at (held rows (Some (codes "budget", [])) skip) (option (codes "budget")) (1 + length said.names)
  pub has : Has said rows

abbrev pub Stands : Bool → Said → Walk → Type 0
Stands true said w = Due said w
Stands false said w = Ready said w

-- the word passes, and the walk then stands behind what is said
abbrev pub Goes : Text → Walk → Text → Said × Bool → Type 0
Goes name w word after = Passes name w word × Stands after.1 after.0 (walked rules [] w word)

stats-goes : (name : Text) (said : Said) (rows : List Row) (pending : Option (Text × List Text)) (skip : ℕ) → said.stats ≡ false
    → Has said (whole pending rows) → Settles rows pending skip
    → Goes name (at (held rows pending skip) idle (1 + length said.names)) (codes "--stats") (record said { stats = true }, false)
stats-goes name said rows pending skip e has settles =
    let none = no-stats said (whole pending rows) e has in (
      step.stats-passes name rows pending skip (1 + length said.names) settles (no-row (codes "stats") (whole pending rows) none),
      record {
        rows = used stats_built [] (whole pending rows);
        pending = None;
        skip = skip;
        walk_is = step.stats-walked rows pending skip (1 + length said.names);
        has = subst (Has (record said { stats = true })) (sym (first-use (codes "stats") _ (codes "true" ∷ []) (whole pending rows) none)) (has-stats said (whole pending rows) e has);
        settles = refl;
      },
    )

image-goes : (name : Text) (said : Said) (rows : List Row) (pending : Option (Text × List Text)) (skip : ℕ) → said.image ≡ false
    → Has said (whole pending rows) → Settles rows pending skip
    → Goes name (at (held rows pending skip) idle (1 + length said.names)) (codes "--image") (record said { image = true }, false)
image-goes name said rows pending skip e has settles =
    let none = no-image said (whole pending rows) e has in (
      step.image-passes name rows pending skip (1 + length said.names) settles (no-row (codes "image") (whole pending rows) none),
      record {
        rows = used image_built [] (whole pending rows);
        pending = None;
        skip = skip;
        walk_is = step.image-walked rows pending skip (1 + length said.names);
        has = subst (Has (record said { image = true })) (sym (first-use (codes "image") _ (codes "true" ∷ []) (whole pending rows) none)) (has-image said (whole pending rows) e has);
        settles = refl;
      },
    )

joined-goes : (name : Text) (said : Said) (rows : List Row) (pending : Option (Text × List Text)) (skip : ℕ) (word : Text) (number : ℕ) → said.budget ≡ None
    → number_within most_budget word ≡ Some number → Has said (whole pending rows) → Settles rows pending skip
    → Goes name (at (held rows pending skip) idle (1 + length said.names)) (codes "--budget=" ++ word) (record said { budget = Some number }, false)
joined-goes name said rows pending skip word number e spelled has settles =
    let none = no-budget said (whole pending rows) e has in (
      step.joined-passes name rows pending skip (1 + length said.names) word settles (no-row (codes "budget") (whole pending rows) none),
      record {
        rows = used budget_built (word ∷ []) (whole pending rows);
        pending = None;
        skip = skip;
        walk_is = step.joined-walked rows pending skip (1 + length said.names) word;
        has = subst (Has (record said { budget = Some number })) (sym (first-use (codes "budget") _ (word ∷ []) (whole pending rows) none))
            (has-budget said (whole pending rows) word number e spelled has);
        settles = refl;
      },
    )

budget-goes : (name : Text) (said : Said) (rows : List Row) (pending : Option (Text × List Text)) (skip : ℕ) → Has said (whole pending rows) → Settles rows pending skip
    → Goes name (at (held rows pending skip) idle (1 + length said.names)) (codes "--budget") (said, true)
budget-goes name said rows pending skip has settles = (
  step.budget-passes name rows pending skip (1 + length said.names) settles,
  record { rows = whole pending rows; skip = skip; walk_is = step.budget-walked rows pending skip (1 + length said.names); has = has },
)

number-goes : (name : Text) (said : Said) (rows : List Row) (skip c : ℕ) (cs : Text) (number : ℕ) → eqb c 45 ≡ false → said.budget ≡ None
    → number_within most_budget (c ∷ cs) ≡ Some number → Has said rows
    → Goes name (at (held rows (Some (codes "budget", [])) skip) (option (codes "budget")) (1 + length said.names)) (c ∷ cs) (record said { budget = Some number }, false)
number-goes name said rows skip c cs number dash e spelled has =
    let none = no-budget said rows e has in (
      step.number-passes name rows skip (1 + length said.names) c cs dash,
      record {
        rows = rows;
        pending = Some (codes "budget", (c ∷ cs) ∷ []);
        skip = skip;
        walk_is = step.number-walked rows skip (1 + length said.names) c cs dash;
        has = subst (Has (record said { budget = Some number })) (sym (first-use (codes "budget") _ ((c ∷ cs) ∷ []) rows none))
            (has-budget said rows (c ∷ cs) number e spelled has);
        settles = step.budget-settles rows skip (c ∷ cs) (no-row (codes "budget") rows none);
      },
    )

abbrev one_more : Said → Text → Said
one_more said word = record said { names = said.names ++ word ∷ [] }

name-goes : (name : Text) (said : Said) (rows : List Row) (pending : Option (Text × List Text)) (skip c : ℕ) (cs : Text) → eqb c 45 ≡ false
    → said.names ≡ [] → Has said (whole pending rows) → Settles rows pending skip
    → Goes name (at (held rows pending skip) idle (1 + length said.names)) (c ∷ cs) (one_more said (c ∷ cs), false)
name-goes name said rows pending skip c cs dash e has settles =
    let none = no-name said (whole pending rows) e has in
    let first : 1 ≡ 1 + length said.names = ap (λ x. 1 + length x) (sym e) in
    let second : 2 ≡ 1 + length (said.names ++ (c ∷ cs) ∷ []) = ap (λ x. 1 + length (x ++ (c ∷ cs) ∷ [])) (sym e) in (
      subst (λ k. Passes name (at (held rows pending skip) idle k) (c ∷ cs)) first (step.name-passes name rows pending skip c cs dash settles),
      record {
        rows = whole pending rows;
        pending = Some (codes "name", (c ∷ cs) ∷ []);
        skip = skip;
        walk_is = ap (λ k. walked rules [] (at (held rows pending skip) idle k) (c ∷ cs)) (sym first) ∙ step.name-walked rows pending skip c cs dash
            ∙ ap (λ k. at (held (whole pending rows) (Some (codes "name", (c ∷ cs) ∷ [])) skip) idle k) second;
        has = subst (Has (one_more said (c ∷ cs))) (sym (first-use (codes "name") _ ((c ∷ cs) ∷ []) (whole pending rows) none)) (has-name said (whole pending rows) (c ∷ cs) e has);
        settles = step.name-settles (whole pending rows) skip (c ∷ cs) (no-row (codes "name") (whole pending rows) none);
      },
    )

script-goes : (name : Text) (said : Said) (rows : List Row) (pending : Option (Text × List Text)) (skip c : ℕ) (cs first : Text) → eqb c 45 ≡ false
    → said.names ≡ first ∷ [] → Has said (whole pending rows) → Settles rows pending skip
    → Goes name (at (held rows pending skip) idle (1 + length said.names)) (c ∷ cs) (one_more said (c ∷ cs), false)
script-goes name said rows pending skip c cs first dash e has settles =
    let none = no-script said (whole pending rows) first e has in
    let before : 2 ≡ 1 + length said.names = ap (λ x. 1 + length x) (sym e) in
    let behind : 3 ≡ 1 + length (said.names ++ (c ∷ cs) ∷ []) = ap (λ x. 1 + length (x ++ (c ∷ cs) ∷ [])) (sym e) in (
      subst (λ k. Passes name (at (held rows pending skip) idle k) (c ∷ cs)) before (step.script-passes name rows pending skip c cs dash settles),
      record {
        rows = whole pending rows;
        pending = Some (codes "script", (c ∷ cs) ∷ []);
        skip = skip;
        walk_is = ap (λ k. walked rules [] (at (held rows pending skip) idle k) (c ∷ cs)) (sym before) ∙ step.script-walked rows pending skip c cs dash
            ∙ ap (λ k. at (held (whole pending rows) (Some (codes "script", (c ∷ cs) ∷ [])) skip) idle k) behind;
        has = subst (Has (one_more said (c ∷ cs))) (sym (first-use (codes "script") _ ((c ∷ cs) ∷ []) (whole pending rows) none)) (has-script said (whole pending rows) first (c ∷ cs) e has);
        settles = step.script-settles (whole pending rows) skip (c ∷ cs) (no-row (codes "script") (whole pending rows) none);
      },
    )

arrivals-goes : (name : Text) (said : Said) (rows : List Row) (pending : Option (Text × List Text)) (skip c : ℕ) (cs first second : Text) → eqb c 45 ≡ false
    → said.names ≡ first ∷ second ∷ [] → Has said (whole pending rows) → Settles rows pending skip
    → Goes name (at (held rows pending skip) idle (1 + length said.names)) (c ∷ cs) (one_more said (c ∷ cs), false)
arrivals-goes name said rows pending skip c cs first second dash e has settles =
    let none = no-arrivals said (whole pending rows) first second e has in
    let before : 3 ≡ 1 + length said.names = ap (λ x. 1 + length x) (sym e) in
    let behind : 4 ≡ 1 + length (said.names ++ (c ∷ cs) ∷ []) = ap (λ x. 1 + length (x ++ (c ∷ cs) ∷ [])) (sym e) in (
      subst (λ k. Passes name (at (held rows pending skip) idle k) (c ∷ cs)) before (step.arrivals-passes name rows pending skip c cs dash settles),
      record {
        rows = whole pending rows;
        pending = Some (codes "arrivals", (c ∷ cs) ∷ []);
        skip = skip;
        walk_is = ap (λ k. walked rules [] (at (held rows pending skip) idle k) (c ∷ cs)) (sym before) ∙ step.arrivals-walked rows pending skip c cs dash
            ∙ ap (λ k. at (held (whole pending rows) (Some (codes "arrivals", (c ∷ cs) ∷ [])) skip) idle k) behind;
        has = subst (Has (one_more said (c ∷ cs))) (sym (first-use (codes "arrivals") _ ((c ∷ cs) ∷ []) (whole pending rows) none)) (has-arrivals said (whole pending rows) first second (c ∷ cs) e has);
        settles = step.arrivals-settles (whole pending rows) skip (c ∷ cs) (no-row (codes "arrivals") (whole pending rows) none);
      },
    )

abbrev then_ready : Option Said → Option (Said × Bool)
then_ready = option_map (λ more. (more, false))

same-after : (x : Said) (after : Said × Bool) → then_ready (Some x) ≡ Some after → (x, false) ≡ after
same-after x after e = cc

-- a word that may be a name
plain-goes : (name : Text) (said : Said) (rows : List Row) (pending : Option (Text × List Text)) (skip : ℕ) (word : Text) (after : Said × Bool) (names : List Text) → said.names ≡ names
    → Plain word → then_ready (if nat_le (length names) 2 then Some (one_more said word) else None) ≡ Some after → Has said (whole pending rows) → Settles rows pending skip
    → Goes name (at (held rows pending skip) idle (1 + length said.names)) word after
plain-goes name said rows pending skip word after [] e plain is has settles =
    let w = at (held rows pending skip) idle (1 + length said.names) in
    subst (Goes name w word) (same-after (one_more said word) after is)
    (subst (λ x. Goes name w x (one_more said x, false)) (sym plain.word_is) (name-goes name said rows pending skip plain.first plain.rest plain.no_dash e has settles))
plain-goes name said rows pending skip word after (one ∷ []) e plain is has settles =
    let w = at (held rows pending skip) idle (1 + length said.names) in
    subst (Goes name w word) (same-after (one_more said word) after is)
    (subst (λ x. Goes name w x (one_more said x, false)) (sym plain.word_is) (script-goes name said rows pending skip plain.first plain.rest one plain.no_dash e has settles))
plain-goes name said rows pending skip word after (one ∷ two ∷ []) e plain is has settles =
    let w = at (held rows pending skip) idle (1 + length said.names) in
    subst (Goes name w word) (same-after (one_more said word) after is)
    (subst (λ x. Goes name w x (one_more said x, false)) (sym plain.word_is) (arrivals-goes name said rows pending skip plain.first plain.rest one two plain.no_dash e has settles))
plain-goes name said rows pending skip word after (one ∷ two ∷ three ∷ more) e plain is has settles =
    absurd (too-many (nat_le (length (one ∷ two ∷ three ∷ more)) 2) (lt-leb (length (one ∷ two ∷ three ∷ more)) 2 (omega arith)) is)
  where
    too-many : (b : Bool) → b ≡ false → then_ready (if b then Some (one_more said word) else None) ≡ Some after → ⊥
    too-many true h is = absurd (false≢true (sym h))
    too-many false h is = cc

name-part-goes : (name : Text) (said : Said) (rows : List Row) (pending : Option (Text × List Text)) (skip : ℕ) (word : Text) (after : Said × Bool) (b : Bool) → is_name word ≡ b
    → then_ready (option_and_then (added said) (if b then Some (a_name word) else None)) ≡ Some after → Has said (whole pending rows) → Settles rows pending skip
    → Goes name (at (held rows pending skip) idle (1 + length said.names)) word after
name-part-goes name said rows pending skip word after true e is has settles = plain-goes name said rows pending skip word after said.names refl (name-plain word e) is has settles
name-part-goes name said rows pending skip word after false e is has settles = cc

abbrev Free : Option ℕ → Said → Said × Bool → Type 0
Free o x after = (o ≡ None) × ((x, false) ≡ after)

budget-free : (o : Option ℕ) (x : Said) (after : Said × Bool) → then_ready (if is_some o then None else Some x) ≡ Some after → Free o x after
budget-free None x after is = (refl, same-after x after is)
budget-free (Some n) x after is = let bad : ⊥ = cc in absurd bad

flag-free : (b : Bool) (x : Said) (after : Said × Bool) → then_ready (if b then None else Some x) ≡ Some after → (b ≡ false) × ((x, false) ≡ after)
flag-free false x after is = (refl, same-after x after is)
flag-free true x after is = let bad : ⊥ = cc in absurd bad

-- what a budget's number says
pub record Number (said : Said) (word : Text) (after : Said × Bool) : Type 0 where
  pub number : ℕ
  pub spelled : number_within most_budget word ≡ Some number
  pub free : Free said.budget (record said { budget = Some number }) after

number-said : (said : Said) (word : Text) (after : Said × Bool) (o : Option ℕ) → number_within most_budget word ≡ o
    → then_ready (option_and_then (added said) (option_map a_budget o)) ≡ Some after → Number said word after
number-said said word after None e is = let bad : ⊥ = cc in absurd bad
number-said said word after (Some number) e is =
    record { number = number; spelled = e; free = budget-free said.budget (record said { budget = Some number }) after is }

joined-part-goes : (name : Text) (said : Said) (rows : List Row) (pending : Option (Text × List Text)) (skip : ℕ) (word : Text) (after : Said × Bool) (b : Bool)
    → bytes_eq (take 9 word) (codes "--budget=") ≡ b → then_ready (option_and_then (added said) (joined_part (if b then Some (drop 9 word) else None) word)) ≡ Some after
    → Has said (whole pending rows) → Settles rows pending skip → Goes name (at (held rows pending skip) idle (1 + length said.names)) word after
joined-part-goes name said rows pending skip word after true e is has settles =
    let w = at (held rows pending skip) idle (1 + length said.names) in
    let n = number-said said (drop 9 word) after (number_within most_budget (drop 9 word)) refl is in
    subst (λ x. Goes name w x after) (sym (joined-text word (codes "--budget=") 9 e))
    (subst (Goes name w (codes "--budget=" ++ drop 9 word)) n.free.1 (joined-goes name said rows pending skip (drop 9 word) n.number n.free.0 n.spelled has settles))
joined-part-goes name said rows pending skip word after false e is has settles = name-part-goes name said rows pending skip word after (is_name word) refl is has settles

image-part-goes : (name : Text) (said : Said) (rows : List Row) (pending : Option (Text × List Text)) (skip : ℕ) (word : Text) (after : Said × Bool) (b : Bool)
    → bytes_eq word (codes "--image") ≡ b → then_ready (option_and_then (added said) (if b then Some the_image else joined_part (behind_budget word) word)) ≡ Some after
    → Has said (whole pending rows) → Settles rows pending skip → Goes name (at (held rows pending skip) idle (1 + length said.names)) word after
image-part-goes name said rows pending skip word after true e is has settles =
    let w = at (held rows pending skip) idle (1 + length said.names) in
    let free = flag-free said.image (record said { image = true }) after is in
    subst (λ x. Goes name w x after) (sym (same-text word (codes "--image") e))
    (subst (Goes name w (codes "--image")) free.1 (image-goes name said rows pending skip free.0 has settles))
image-part-goes name said rows pending skip word after false e is has settles =
    joined-part-goes name said rows pending skip word after (bytes_eq (take 9 word) (codes "--budget=")) refl is has settles

stats-part-goes : (name : Text) (said : Said) (rows : List Row) (pending : Option (Text × List Text)) (skip : ℕ) (word : Text) (after : Said × Bool) (b : Bool)
    → bytes_eq word (codes "--stats") ≡ b
    → then_ready (option_and_then (added said) (if b then Some the_stats else (if bytes_eq word (codes "--image") then Some the_image else joined_part (behind_budget word) word))) ≡ Some after
    → Has said (whole pending rows) → Settles rows pending skip → Goes name (at (held rows pending skip) idle (1 + length said.names)) word after
stats-part-goes name said rows pending skip word after true e is has settles =
    let w = at (held rows pending skip) idle (1 + length said.names) in
    let free = flag-free said.stats (record said { stats = true }) after is in
    subst (λ x. Goes name w x after) (sym (same-text word (codes "--stats") e))
    (subst (Goes name w (codes "--stats")) free.1 (stats-goes name said rows pending skip free.0 has settles))
stats-part-goes name said rows pending skip word after false e is has settles =
    image-part-goes name said rows pending skip word after (bytes_eq word (codes "--image")) refl is has settles

budget-part-goes : (name : Text) (said : Said) (rows : List Row) (pending : Option (Text × List Text)) (skip : ℕ) (word : Text) (after : Said × Bool) (b : Bool)
    → bytes_eq word (codes "--budget") ≡ b
    → (if b then Some (said, true) else then_ready (option_and_then (added said) (part_of word))) ≡ Some after
    → Has said (whole pending rows) → Settles rows pending skip → Goes name (at (held rows pending skip) idle (1 + length said.names)) word after
budget-part-goes name said rows pending skip word after true e is has settles =
    let w = at (held rows pending skip) idle (1 + length said.names) in
    let same : (said, true) ≡ after = cc in
    subst (λ x. Goes name w x after) (sym (same-text word (codes "--budget") e))
    (subst (Goes name w (codes "--budget")) same (budget-goes name said rows pending skip has settles))
budget-part-goes name said rows pending skip word after false e is has settles =
    stats-part-goes name said rows pending skip word after (bytes_eq word (codes "--stats")) refl is has settles

-- one word
pub word-goes : (name : Text) (said : Said) (awaits : Bool) (word : Text) (after : Said × Bool) (w : Walk) → next said awaits word ≡ Some after → Stands awaits said w → Goes name w word after
word-goes name said true word after w is due =
    let n = number-said said word after (number_within most_budget word) refl is in
    let plain = number-plain most_budget n.number word n.spelled in
    let spelled : number_within most_budget (plain.first ∷ plain.rest) ≡ Some n.number = ap (number_within most_budget) (sym plain.word_is) ∙ n.spelled in
    let there = at (held due.rows (Some (codes "budget", [])) due.skip) (option (codes "budget")) (1 + length said.names) in
    subst (λ v. Goes name v word after) (sym due.walk_is)
    (subst (λ x. Goes name there x after) (sym plain.word_is)
    (subst (Goes name there (plain.first ∷ plain.rest)) n.free.1
    (number-goes name said due.rows due.skip plain.first plain.rest n.number plain.no_dash n.free.0 spelled due.has)))
word-goes name said false word after w is ready =
    subst (λ v. Goes name v word after) (sym ready.walk_is)
    (budget-part-goes name said ready.rows ready.pending ready.skip word after (bytes_eq word (codes "--budget")) refl is ready.has ready.settles)
