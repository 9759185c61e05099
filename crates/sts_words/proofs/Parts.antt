-- Parts that are added one after another, each option at most once.
use Rattle.std.proofs.Common.{◌≡◌, ℕ, suc, ◌+◌, ◌<◌, ◌≤◌, List, [], ◌∷◌, ◌++◌, length, drop, get_or, map, refl, sym, ap, ◌∙◌, arith, length-append}
use Rattle.std.specs.Prelude.{Bool, true, false, nat_le, is_some, if◌then◌else◌, codes, option_and_then, Option, Some, None}
use Rattle.std.proofs.Math.Seq.{drop-cons}
use Rattle.std.proofs.lemmas.List.{drop_all}
use Rattle.std.proofs.lemmas.Bool.{leb-false}
use Rattle.std.specs.Option.{option_map}
use Rattle.std.specs.Str.{bytes_eq}
use Rattle.sts_words.specs.Orders.{Asked}
use Rattle.sts_words.specs.Words.{Part, a_name, a_budget, the_stats, the_image, Said, asked_by, nothing, all_also_said, said_by}
use Rattle.sts_words.specs.Views.{budget_part, part_of, added}
use Rattle.sts_words.proofs.Reader.{parts_from, in_front, added_all, said_with, next}

-- where more than three names stand, a command asks for nothing
same-else : {A : Type 0} (b : Bool) (x : A) → (if b then x else x) ≡ x
same-else true x = refl
same-else false x = refl

four-asked : (command first second third fourth : List ℕ) (more : List (List ℕ)) (budget : Option ℕ) (stats image : Bool)
    → asked_by command (record { names = first ∷ second ∷ third ∷ fourth ∷ more; budget = budget; stats = stats; image = image }) ≡ None
four-asked command first second third fourth more budget stats image = simp same-else

many-asked : (command : List ℕ) (names : List (List ℕ)) (budget : Option ℕ) (stats image : Bool) → 3 < length names → asked_by command (record { names = names; budget = budget; stats = stats; image = image }) ≡ None
many-asked command [] budget stats image h = absurd (omega (arith, h))
many-asked command (a ∷ []) budget stats image h = absurd (omega (arith, h))
many-asked command (a ∷ b ∷ []) budget stats image h = absurd (omega (arith, h))
many-asked command (a ∷ b ∷ c ∷ []) budget stats image h = absurd (omega (arith, h))
many-asked command (a ∷ b ∷ c ∷ d ∷ more) budget stats image h = four-asked command a b c d more budget stats image

-- what is asked for behind a test, whatever it comes to
asks-none : (b : Bool) (x : Said) (f : Said → Option Said) (ask : Said → Option Asked) → option_and_then ask (f x) ≡ None → option_and_then ask (option_and_then f (if b then None else Some x)) ≡ None
asks-none true x f ask h = refl
asks-none false x f ask h = h

asks-alike : (b : Bool) (x : Said) (f g : Said → Option Said) (ask : Said → Option Asked) → option_and_then ask (f x) ≡ option_and_then ask (g x)
    → option_and_then ask (option_and_then f (if b then None else Some x)) ≡ option_and_then ask (option_and_then g (if b then None else Some x))
asks-alike true x f g ask h = refl
asks-alike false x f g ask h = h

asks-within : (b : Bool) (x : Said) (f g : Said → Option Said) (ask : Said → Option Asked) → option_and_then ask (f x) ≡ option_and_then ask (g x) → (b ≡ false → option_and_then ask (g x) ≡ None)
    → option_and_then ask (option_and_then f (if b then Some x else None)) ≡ option_and_then ask (g x)
asks-within true x f g ask h none = h
asks-within false x f g ask h none = sym (none refl)

-- parts behind more than three names ask for nothing either
many-more : (command : List ℕ) (said : Said) (parts : List Part) → 3 < length said.names → option_and_then (asked_by command) (all_also_said said parts) ≡ None
unfolding all_also_said
many-more command said [] h = many-asked command said.names said.budget said.stats said.image h
many-more command said (a_name word ∷ rest) h =
    (let longer : length (said.names ++ word ∷ []) ≡ length said.names + length (word ∷ []) = length-append said.names (word ∷ []) in
    many-more command (record said { names = said.names ++ word ∷ [] }) rest (omega (arith, h, longer)))
many-more command said (a_budget number ∷ rest) h =
    asks-none (is_some said.budget) (record said { budget = Some number }) (λ more. all_also_said more rest) (asked_by command) (many-more command (record said { budget = Some number }) rest h)
many-more command said (the_stats ∷ rest) h =
    asks-none said.stats (record said { stats = true }) (λ more. all_also_said more rest) (asked_by command) (many-more command (record said { stats = true }) rest h)
many-more command said (the_image ∷ rest) h =
    asks-none said.image (record said { image = true }) (λ more. all_also_said more rest) (asked_by command) (many-more command (record said { image = true }) rest h)

-- a command asks for the same where a fourth name isn't read
same-asked : (command : List ℕ) (said : Said) (parts : List Part) → option_and_then (asked_by command) (added_all said parts) ≡ option_and_then (asked_by command) (all_also_said said parts)
unfolding all_also_said added_all
same-asked command said [] = refl
same-asked command said (a_name word ∷ rest) =
    (let next : Said = record said { names = said.names ++ word ∷ [] } in
    asks-within (nat_le (length said.names) 2) next (λ more. added_all more rest) (λ more. all_also_said more rest) (asked_by command) (same-asked command next rest)
    (λ e. let full : 2 < length said.names = leb-false (length said.names) 2 e in
    let longer : length (said.names ++ word ∷ []) ≡ length said.names + length (word ∷ []) = length-append said.names (word ∷ []) in
    many-more command next rest (omega (arith, full, longer))))
same-asked command said (a_budget number ∷ rest) =
    (let next : Said = record said { budget = Some number } in
    asks-alike (is_some said.budget) next (λ more. added_all more rest) (λ more. all_also_said more rest) (asked_by command) (same-asked command next rest))
same-asked command said (the_stats ∷ rest) =
    (let next : Said = record said { stats = true } in
    asks-alike said.stats next (λ more. added_all more rest) (λ more. all_also_said more rest) (asked_by command) (same-asked command next rest))
same-asked command said (the_image ∷ rest) =
    (let next : Said = record said { image = true } in
    asks-alike said.image next (λ more. added_all more rest) (λ more. all_also_said more rest) (asked_by command) (same-asked command next rest))

-- so what words ask for is what their parts say together
pub asked-from-nothing : (command : List ℕ) (parts : Option (List Part)) → option_and_then (asked_by command) (option_and_then (added_all nothing) parts) ≡ option_and_then (asked_by command) (option_and_then said_by parts)
asked-from-nothing command None = refl
asked-from-nothing command (Some parts) = same-asked command nothing parts

-- nothing comes of what can't be added
never : (o : Option Said) → option_and_then (λ t. option_and_then (added_all t) None) o ≡ None
never None = refl
never (Some s) = refl

-- one part in front of others
one-part : (s : Said) (part : Option Part) (rest : Option (List Part))
    → option_and_then (added_all s) (in_front part rest) ≡ option_and_then (λ t. option_and_then (added_all t) rest) (option_and_then (added s) part)
unfolding added_all
one-part s None rest = refl
one-part s (Some part) None = sym (never (added s part))
one-part s (Some part) (Some rest) = refl

then-word : (o : Option Said) (rest : List (List ℕ))
    → option_and_then (λ t. option_and_then (added_all t) (parts_from false rest)) o ≡ option_and_then (λ (n : Said × Bool). said_with n.0 n.1 rest) (option_map (λ more. (more, false)) o)
then-word None rest = refl
then-word (Some s) rest = refl

by-word : (s : Said) (word : List ℕ) (rest : List (List ℕ)) (b : Bool)
    → option_and_then (added_all s) (if b then parts_from true rest else in_front (part_of word) (parts_from false rest))
    ≡ option_and_then (λ (n : Said × Bool). said_with n.0 n.1 rest) (if b then Some (s, true) else option_map (λ more. (more, false)) (option_and_then (added s) (part_of word)))
by-word s word rest true = refl
by-word s word rest false = one-part s (part_of word) (parts_from false rest) ∙ then-word (option_and_then (added s) (part_of word)) rest

-- one word in front of others
pub one-word : (s : Said) (awaits : Bool) (word : List ℕ) (rest : List (List ℕ))
    → said_with s awaits (word ∷ rest) ≡ option_and_then (λ n. said_with n.0 n.1 rest) (next s awaits word)
one-word s true word rest = one-part s (budget_part word) (parts_from false rest) ∙ then-word (option_and_then (added s) (budget_part word)) rest
one-word s false word rest = by-word s word rest (bytes_eq word (codes "--budget"))

-- the words from a place on, as texts
pub texts-from : {A : Type 0} (f : A → List ℕ) (words : List A) (i : ℕ) (word : A) (text : List ℕ) → i < length words → word ≡ get_or words i word → text ≡ f word
    → map f (drop i words) ≡ text ∷ map f (drop (i + 1) words)
texts-from f words i word text h e t =
    let next : suc i ≡ i + 1 = omega arith in
    ap (λ x. map f x) (drop-cons words i word h) ∙ ap (λ x. f x ∷ map f (drop (suc i) words)) (sym e) ∙ ap (λ x. x ∷ map f (drop (suc i) words)) (sym t)
    ∙ ap (λ x. text ∷ map f (drop x words)) next

-- one more word was said, or can't be
pub more-said : {A : Type 0} (f : A → List ℕ) (words : List A) (i : ℕ) (word : A) (text : List ℕ) (s : Said) (awaits : Bool) (whole : Option Said) (after : Option (Said × Bool))
    → i < length words → word ≡ get_or words i word → text ≡ f word → said_with s awaits (map f (drop i words)) ≡ whole → after ≡ next s awaits text
    → option_and_then (λ (n : Said × Bool). said_with n.0 n.1 (map f (drop (i + 1) words))) after ≡ whole
more-said f words i word text s awaits whole after h e t known is =
    ap (λ x. option_and_then (λ (n : Said × Bool). said_with n.0 n.1 (map f (drop (i + 1) words))) x) is
    ∙ sym (one-word s awaits text (map f (drop (i + 1) words))) ∙ ap (λ x. said_with s awaits x) (sym (texts-from f words i word text h e t)) ∙ known

none-left : {A : Type 0} (f : A → List ℕ) (words : List A) (i : ℕ) → length words ≤ i → map f (drop i words) ≡ []
none-left f words i h = ap (λ x. map f x) (drop_all i words h)

pub awaiting-none : {A : Type 0} (f : A → List ℕ) (words : List A) (i : ℕ) (s : Said) (awaits : Bool) (whole : Option Said) → length words ≤ i → awaits ≡ true
    → said_with s awaits (map f (drop i words)) ≡ whole → None ≡ whole
awaiting-none f words i s awaits whole h e known =
    sym (ap (λ x. said_with s x []) e) ∙ ap (λ x. said_with s awaits x) (sym (none-left f words i h)) ∙ known

pub all-said : (s : Said) → said_with s false [] ≡ Some s
unfolding added_all
all-said s = refl

pub nothing-left : {A : Type 0} (f : A → List ℕ) (words : List A) (i : ℕ) (s : Said) (awaits : Bool) (whole : Option Said) → length words ≤ i → awaits ≡ false
    → said_with s awaits (map f (drop i words)) ≡ whole → Some s ≡ whole
nothing-left f words i s awaits whole h e known =
    sym (all-said s) ∙ sym (ap (λ x. said_with s x []) e) ∙ ap (λ x. said_with s awaits x) (sym (none-left f words i h)) ∙ known
