-- The words of a text, gone through with a count of open brackets.
use Rattle.std.proofs.Common.{◌≡◌, ◌==◌, ◌&&◌, true, false, ℕ, List, ◌∷◌, Bool, Option, Some, None, refl, sym, ap, ◌∙◌, cond}
use Rattle.around_place.specs.Words.{AreItsWords, IsFirstWord, IsBlank, from_word}
use Rattle.around_place.specs.Brackets.{open_count, open_behind_word, opens_bracket, latest_open, behind_first_word}
use Rattle.around_place.proofs.Reading.{words-next, words-none}

-- what the words of a text come to is what those of the rest come to from a count on
abbrev pub Counted : List ℕ → List ℕ → ℕ → Type 0
Counted text rest count =
    (words : List (List ℕ)) → AreItsWords text words → (left : List (List ℕ)) × (AreItsWords rest left × (open_count 0 words ≡ open_count count left))

pub counted-first : (text : List ℕ) → Counted text text 0
counted-first text words read = (words, (read, refl))

count-word : (count : ℕ) (word : List ℕ) (words left : List (List ℕ)) → left ≡ word ∷ words → open_count count left ≡ open_count (open_behind_word count word) words
unfolding open_count
count-word count word words left e = ap (λ (x : List (List ℕ)). open_count count x) e

pub counted-next : (text rest word after : List ℕ) (count next : ℕ) → Counted text rest count → IsFirstWord rest word after → next ≡ open_behind_word count word → Counted text after next
counted-next text rest word after count next k n e words read =
    let (left, (reads, same)) = k words read in
    let (more, (split, go_on)) = words-next rest word after left reads n in
    (more, (go_on, same ∙ (count-word count word more left split ∙ ap (λ (x : ℕ). open_count x more) (sym e))))

pub counted-end : (text rest : List ℕ) (count : ℕ) → Counted text rest count → IsBlank rest → (words : List (List ℕ)) → AreItsWords text words → count ≡ open_count 0 words
unfolding open_count
counted-end text rest count k blank words read =
    let (left, (reads, same)) = k words read in
    sym (same ∙ ap (λ (x : List (List ℕ)). open_count count x) (words-none rest left reads blank))

-- what is found over the words of a text is what is found over those of the rest, with a count and what was found so far
abbrev pub Found : List ℕ → List ℕ → ℕ → ℕ → Option (List ℕ) → Type 0
Found text rest all count so_far =
    (words : List (List ℕ)) → AreItsWords text words → (left : List (List ℕ)) × (AreItsWords rest left
    × (latest_open all 0 text words None ≡ latest_open all count rest left so_far))

pub found-first : (text : List ℕ) (all : ℕ) → Found text text all 0 None
found-first text all words read = (words, (read, refl))

-- behind a word the text goes on
pub after-word : (rest word after : List ℕ) → IsFirstWord rest word after → behind_first_word (from_word rest) ≡ after
after-word rest word after n = ap (λ (x : List ℕ). behind_first_word x) n.here ∙ sym n.behind

found-word : (all count : ℕ) (rest word after : List ℕ) (words left : List (List ℕ)) (so_far : Option (List ℕ)) → IsFirstWord rest word after → left ≡ word ∷ words
    → latest_open all count rest left so_far
    ≡ latest_open all (open_behind_word count word) after words (cond (opens_bracket word && (open_behind_word count word == all)) (Some (from_word rest)) so_far)
unfolding latest_open
found-word all count rest word after words left so_far n e =
    ap (λ (x : List (List ℕ)). latest_open all count rest x so_far) e
    ∙ ap (λ (x : List ℕ). latest_open all (open_behind_word count word) x words (cond (opens_bracket word && (open_behind_word count word == all)) (Some (from_word rest)) so_far)) (after-word rest word after n)

pub found-next : (text rest word after : List ℕ) (all count next : ℕ) (so_far found : Option (List ℕ)) → Found text rest all count so_far → IsFirstWord rest word after
    → next ≡ open_behind_word count word → found ≡ cond (opens_bracket word && (next == all)) (Some (from_word rest)) so_far → Found text after all next found
found-next text rest word after all count next so_far found k n e f words read =
    let (left, (reads, same)) = k words read in
    let (more, (split, go_on)) = words-next rest word after left reads n in
    let told : latest_open all count rest left so_far ≡ latest_open all next after more (cond (opens_bracket word && (next == all)) (Some (from_word rest)) so_far) =
    found-word all count rest word after more left so_far n split
    ∙ ap (λ (x : ℕ). latest_open all x after more (cond (opens_bracket word && (x == all)) (Some (from_word rest)) so_far)) (sym e) in
    (more, (go_on, same ∙ (told ∙ ap (λ (x : Option (List ℕ)). latest_open all next after more x) (sym f))))

-- the bracket is found, or what was found before stays
pub found-here : (b : Bool) (x y : List ℕ) (so_far : Option (List ℕ)) → b ≡ true → x ≡ y → Some x ≡ cond b (Some y) so_far
found-here true x y so_far h e = ap (λ (z : List ℕ). Some z) e
found-here false x y so_far h e = cc h

pub found-before : (b : Bool) (y : List ℕ) (so_far : Option (List ℕ)) → b ≡ false → so_far ≡ cond b (Some y) so_far
found-before true y so_far h = cc h
found-before false y so_far h = refl

pub found-end : (text rest : List ℕ) (all count : ℕ) (so_far : Option (List ℕ)) → Found text rest all count so_far → IsBlank rest
    → (words : List (List ℕ)) → AreItsWords text words → so_far ≡ latest_open all 0 text words None
unfolding latest_open
found-end text rest all count so_far k blank words read =
    let (left, (reads, same)) = k words read in
    sym (same ∙ ap (λ (x : List (List ℕ)). latest_open all count rest x so_far) (words-none rest left reads blank))
