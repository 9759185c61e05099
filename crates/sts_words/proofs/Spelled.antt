-- Words are read as the parts that they spell.
use Rattle.std.proofs.Common.{◌≡◌, ℕ, ◌<◌, ◌-◌, arith, List, [], ◌∷◌, ◌++◌, length, take, drop, get_or, map, refl, sym, ap, ◌∙◌, subst, inl, inr, eqb}
use Rattle.std.specs.Prelude.{Bool, true, false, not, ◌&&◌, if◌then◌else◌, codes, option_and_then, Option, Some, None}
use Rattle.std.specs.Option.{option_map}
use Rattle.std.specs.Str.{bytes_eq}
use Rattle.std.proofs.lemmas.Bool.{false≢true}
use Rattle.std.proofs.lemmas.Slice.Eq.{bytes_eq-Decides}
use Rattle.std.proofs.lemmas.List.{take-append-drop, take_all, length-drop}
use Rattle.sts_words.specs.Orders.{Asked, most_budget}
use Rattle.sts_words.specs.Words.{Part, a_name, a_budget, the_stats, the_image, is_name, number_within, SpellPart, Spell, nothing, asked_by, AskFor, IsAskedBy}
use Rattle.sts_words.specs.Views.{behind_budget, budget_part, joined_part, part_of}
use Rattle.sts_words.proofs.Reader.{in_front, parts_from, added_all, order_of}
use Rattle.sts_words.proofs.Parts.{asked-from-nothing, texts-from}

-- a word that is equal to a text is that text
pub same-text : (word text : List ℕ) → bytes_eq word text ≡ true → word ≡ text
same-text word text e = (bytes_eq-Decides word text).0 e

-- a word that begins so is that and what is behind it
pub joined-text : (word text : List ℕ) (n : ℕ) → bytes_eq (take n word) text ≡ true → word ≡ text ++ drop n word
joined-text word text n e = sym (take-append-drop n word) ∙ ap (λ x. x ++ drop n word) (same-text (take n word) text e)

-- a word that begins with something other than a dash
pub record Plain (word : List ℕ) : Type 0 where
  pub first : ℕ
  pub rest : List ℕ
  pub word_is : word ≡ first ∷ rest
  pub no_dash : eqb first 45 ≡ false

pub name-plain : (word : List ℕ) → is_name word ≡ true → Plain word
name-plain [] e = absurd (false≢true e)
name-plain (c ∷ cs) e = record { first = c; rest = cs; word_is = refl; no_dash = not-true (eqb c 45) e }
  where
    not-true : (b : Bool) → not b ≡ true → b ≡ false
    not-true true e = absurd (false≢true e)
    not-true false e = refl

otherwise : {A : Type 0} (b : Bool) (x y : A) → b ≡ false → (if b then x else y) ≡ y
otherwise true x y e = absurd (false≢true (sym e))
otherwise false x y e = refl

holds : {A : Type 0} (b : Bool) (x y : A) → b ≡ true → (if b then x else y) ≡ x
holds true x y e = refl
holds false x y e = absurd (false≢true e)

undashed : (c : ℕ) (cs text : List ℕ) → eqb c 45 ≡ false → bytes_eq (c ∷ cs) (45 ∷ text) ≡ false
undashed c cs text n = ap (λ b. b && bytes_eq cs text) n

-- a name is read as one
name-read : (c : ℕ) (cs : List ℕ) → is_name (c ∷ cs) ≡ true → eqb c 45 ≡ false → part_of (c ∷ cs) ≡ Some (a_name (c ∷ cs))
name-read c cs name n =
    otherwise (bytes_eq (c ∷ cs) (codes "--stats")) _ _ (undashed c cs _ n)
    ∙ otherwise (bytes_eq (c ∷ cs) (codes "--image")) _ _ (undashed c cs _ n)
    ∙ ap (λ o. joined_part o (c ∷ cs)) (otherwise (bytes_eq (c ∷ take 8 cs) (codes "--budget=")) _ _ (undashed c (take 8 cs) _ n))
    ∙ holds (is_name (c ∷ cs)) (Some (a_name (c ∷ cs))) None name

named : (word : List ℕ) (more : List (List ℕ)) (rest : List Part) → is_name word ≡ true → parts_from false more ≡ Some rest → parts_from false (word ∷ more) ≡ Some (a_name word ∷ rest)
named [] more rest name k = absurd (false≢true name)
named (c ∷ cs) more rest name k =
    let n = not-dash (eqb c 45) name in
    otherwise (bytes_eq (c ∷ cs) (codes "--budget")) _ _ (undashed c cs _ n)
    ∙ ap (λ part. in_front part (parts_from false more)) (name-read c cs name n) ∙ ap (λ parts. in_front (Some (a_name (c ∷ cs))) parts) k
  where
    not-dash : (b : Bool) → not b ≡ true → b ≡ false
    not-dash true e = absurd (false≢true e)
    not-dash false e = refl

-- the number of a budget in front of other parts
numbered : (digits : List ℕ) (number : ℕ) (more : List (List ℕ)) (rest : List Part) → number_within most_budget digits ≡ Some number → parts_from false more ≡ Some rest
    → in_front (budget_part digits) (parts_from false more) ≡ Some (a_budget number ∷ rest)
numbered digits number more rest n k =
    ap (λ o. in_front (option_map a_budget o) (parts_from false more)) n ∙ ap (λ parts. in_front (Some (a_budget number)) parts) k

-- the spelling of a part in front of other words
one-read : (part : Part) (front more : List (List ℕ)) (rest : List Part) → SpellPart part front → parts_from false more ≡ Some rest → parts_from false (front ++ more) ≡ Some (part ∷ rest)
one-read (a_name word) front more rest h k = ap (λ f. parts_from false (f ++ more)) h.1 ∙ named word more rest h.0 k
one-read (a_budget number) front more rest (digits, n, inl e) k = ap (λ f. parts_from false (f ++ more)) e ∙ numbered digits number more rest n k
one-read (a_budget number) front more rest (digits, n, inr e) k = ap (λ f. parts_from false (f ++ more)) e ∙ numbered digits number more rest n k
one-read the_stats front more rest e k = ap (λ f. parts_from false (f ++ more)) e ∙ ap (λ parts. in_front (Some the_stats) parts) k
one-read the_image front more rest e k = ap (λ f. parts_from false (f ++ more)) e ∙ ap (λ parts. in_front (Some the_image) parts) k

all-read : (parts : List Part) (words : List (List ℕ)) → Spell parts words → parts_from false words ≡ Some parts
all-read [] words e = ap (λ w. parts_from false w) e
all-read (part ∷ rest) words (front, more, first, others, e) = ap (λ w. parts_from false w) e ∙ one-read part front more rest first (all-read rest more others)

-- the first of the parts that are read, and the others
record Front (part : Option Part) (parts : Option (List Part)) (all : List Part) : Type 0 where
  first : Part
  rest : List Part
  part_is : part ≡ Some first
  parts_is : parts ≡ Some rest
  all_is : all ≡ first ∷ rest

in-front : (part : Option Part) (parts : Option (List Part)) (all : List Part) → in_front part parts ≡ Some all → Front part parts all
in-front None parts all e = cc
in-front (Some part) None all e = cc
in-front (Some part) (Some parts) all e = record { first = part; rest = parts; part_is = refl; parts_is = refl; all_is = cc }

record Budget (digits : List ℕ) (part : Part) : Type 0 where
  number : ℕ
  is : number_within most_budget digits ≡ Some number
  part_is : part ≡ a_budget number

a-budget : (digits : List ℕ) (part : Part) → budget_part digits ≡ Some part → Budget digits part
a-budget digits part e = mapped (number_within most_budget digits) refl e
  where
    mapped : (o : Option ℕ) → number_within most_budget digits ≡ o → option_map a_budget o ≡ Some part → Budget digits part
    mapped None is e = cc
    mapped (Some n) is e = record { number = n; is = is; part_is = cc }

-- a part that a word of its own is
spelled-name : (word : List ℕ) (part : Part) (b : Bool) → is_name word ≡ b → (if b then Some (a_name word) else None) ≡ Some part → SpellPart part (word ∷ [])
spelled-name word part true is e = (let p : part ≡ a_name word = cc in subst (λ x. SpellPart x (word ∷ [])) (sym p) (is, refl))
spelled-name word part false is e = cc

spelled-joined : (word : List ℕ) (part : Part) (b : Bool) → bytes_eq (take 9 word) (codes "--budget=") ≡ b
    → joined_part (if b then Some (drop 9 word) else None) word ≡ Some part → SpellPart part (word ∷ [])
spelled-joined word part true is e =
    let budget = a-budget (drop 9 word) part e in
    subst (λ x. SpellPart x (word ∷ [])) (sym budget.part_is) (drop 9 word, budget.is, inr (ap (λ w. w ∷ []) (joined-text word (codes "--budget=") 9 is)))
spelled-joined word part false is e = spelled-name word part (is_name word) refl e

spelled-image : (word : List ℕ) (part : Part) (b : Bool) → bytes_eq word (codes "--image") ≡ b
    → (if b then Some the_image else joined_part (behind_budget word) word) ≡ Some part → SpellPart part (word ∷ [])
spelled-image word part true is e = (let p : part ≡ the_image = cc in subst (λ x. SpellPart x (word ∷ [])) (sym p) (ap (λ w. w ∷ []) (same-text word (codes "--image") is)))
spelled-image word part false is e = spelled-joined word part (bytes_eq (take 9 word) (codes "--budget=")) refl e

spelled-word : (word : List ℕ) (part : Part) (b : Bool) → bytes_eq word (codes "--stats") ≡ b
    → (if b then Some the_stats else if bytes_eq word (codes "--image") then Some the_image else joined_part (behind_budget word) word) ≡ Some part → SpellPart part (word ∷ [])
spelled-word word part true is e = (let p : part ≡ the_stats = cc in subst (λ x. SpellPart x (word ∷ [])) (sym p) (ap (λ w. w ∷ []) (same-text word (codes "--stats") is)))
spelled-word word part false is e = spelled-image word part (bytes_eq word (codes "--image")) refl e

-- what words spell, where the word before them is `--budget` or where it isn't
abbrev Behind : Bool → List Part → List (List ℕ) → Type 0
Behind true parts words = Spell parts (codes "--budget" ∷ words)
Behind false parts words = Spell parts words

spelled-by : (word : List ℕ) (rest : List (List ℕ)) (parts : List Part) (b : Bool) → bytes_eq word (codes "--budget") ≡ b
    → ((parts : List Part) → parts_from true rest ≡ Some parts → Behind true parts rest) → ((parts : List Part) → parts_from false rest ≡ Some parts → Spell parts rest)
    → (if b then parts_from true rest else in_front (part_of word) (parts_from false rest)) ≡ Some parts → Spell parts (word ∷ rest)
spelled-by word rest parts true is behind others e = subst (λ w. Spell parts (w ∷ rest)) (sym (same-text word (codes "--budget") is)) (behind parts e)
spelled-by word rest parts false is behind others e =
    let front = in-front (part_of word) (parts_from false rest) parts e in
    subst (λ x. Spell x (word ∷ rest)) (sym front.all_is)
    (word ∷ [], rest, spelled-word word front.first (bytes_eq word (codes "--stats")) refl front.part_is, others front.rest front.parts_is, refl)

spelled : (awaits : Bool) (words : List (List ℕ)) (parts : List Part) → parts_from awaits words ≡ Some parts → Behind awaits parts words
spelled true [] parts e = cc
spelled true (digits ∷ more) parts e =
    let front = in-front (budget_part digits) (parts_from false more) parts e in
    let budget = a-budget digits front.first front.part_is in
    let first : SpellPart front.first (codes "--budget" ∷ digits ∷ []) =
    subst (λ x. SpellPart x (codes "--budget" ∷ digits ∷ [])) (sym budget.part_is) (digits, budget.is, inl refl) in
    subst (λ x. Spell x (codes "--budget" ∷ digits ∷ more)) (sym front.all_is) (codes "--budget" ∷ digits ∷ [], more, first, spelled false more front.rest front.parts_is, refl)
spelled false [] parts e = (let p : parts ≡ [] = cc in subst (λ x. Spell x []) (sym p) refl)
spelled false (word ∷ rest) parts e =
    spelled-by word rest parts (bytes_eq word (codes "--budget")) refl (λ ps h. spelled true rest ps h) (λ ps h. spelled false rest ps h) e

found : (command : List ℕ) (words : List (List ℕ)) (asked : Asked) (o : Option (List Part)) → parts_from false words ≡ o
    → option_and_then (asked_by command) (option_and_then (added_all nothing) o) ≡ Some asked → AskFor (command ∷ words) asked
found command words asked None is e = cc
found command words asked (Some parts) is e =
    record { command = command; behind = words; parts = parts; are = refl; spelled = spelled false words parts is; taken = sym (asked-from-nothing command (Some parts)) ∙ e }

ask-for : (words : List (List ℕ)) (asked : Asked) → order_of words ≡ Some asked → AskFor words asked
ask-for [] asked e = cc
ask-for (command ∷ words) asked e = found command words asked (parts_from false words) refl e

order-some : (words : List (List ℕ)) (asked : Asked) → AskFor words asked → order_of words ≡ Some asked
order-some words asked a =
    ap order_of a.are ∙ ap (λ o. option_and_then (asked_by a.command) (option_and_then (added_all nothing) o)) (all-read a.parts a.behind a.spelled) ∙ asked-from-nothing a.command (Some a.parts) ∙ a.taken

some-order : (asked : Asked) (o : Option Asked) → None ≡ o → o ≡ Some asked → ⊥
some-order asked o e f = cc

-- what the reader gives is what words ask for,
pub is-asked : (words : List (List ℕ)) (asked : Option Asked) → asked ≡ order_of words → IsAskedBy words asked
is-asked words None e = λ asked a. some-order asked (order_of words) e (order-some words asked a)
is-asked words (Some asked) e = ask-for words asked (sym e)

-- and nothing else is
pub asked-is : (words : List (List ℕ)) (asked : Option Asked) → IsAskedBy words asked → asked ≡ order_of words
asked-is words (Some asked) a = sym (order-some words asked a)
asked-is words None h = by_order (order_of words) refl
  where
    by_order : (o : Option Asked) → order_of words ≡ o → None ≡ order_of words
    by_order None e = sym e
    by_order (Some asked) e = absurd (h asked (ask-for words asked e))

-- what a command asks for by the words behind it is what all of them ask for
behind-all : {A : Type 0} (words : List A) → take (length words - 1) (drop 1 words) ≡ drop 1 words
behind-all words = take_all (length words - 1) (drop 1 words) (let same : length (drop 1 words) ≡ length words - 1 = length-drop 1 words in omega (arith, same))

pub asked-behind : {A : Type 0} (f : A → List ℕ) (words : List A) (word : A) (command : List ℕ) (asked given : Option Asked) → 0 < length words → word ≡ get_or words 0 word → command ≡ f word
    → given ≡ asked → IsAskedBy (command ∷ map f (take (length words - 1) (drop 1 words))) asked → IsAskedBy (map f words) given
asked-behind f words word command asked given some first text same is =
    subst (λ w. IsAskedBy w given) (sym (texts-from f words 0 word command some first text))
    (subst (λ a. IsAskedBy (command ∷ map f (drop 1 words)) a) (sym same) (subst (λ w. IsAskedBy (command ∷ map f w) asked) (behind-all words) is))

pub one-asked : (words : List (List ℕ)) (first second : Option Asked) → IsAskedBy words first → IsAskedBy words second → first ≡ second
one-asked words first second a b = asked-is words first a ∙ sym (asked-is words second b)

pub some-asked : (words : List (List ℕ)) → (asked : Option Asked) × IsAskedBy words asked
some-asked words = (order_of words, is-asked words (order_of words) refl)
