-- The words of a text, read one by one.
use Rattle.std.proofs.Common.{◌≡◌, ℕ, List, [], ◌∷◌, refl, sym, subst, ◌∙◌}
use Rattle.around_place.specs.Words.{AreItsWords, IsFirstWord, IsBlank}

-- where a word is next, the words begin with it
pub words-next : (text word after : List ℕ) (words : List (List ℕ)) → AreItsWords text words → IsFirstWord text word after
    → (rest : List (List ℕ)) × ((words ≡ word ∷ rest) × AreItsWords after rest)
unfolding AreItsWords
words-next text word after [] blank next = let e : (next.first ∷ next.rest) ≡ [] = sym next.here ∙ blank in absurd (cc e)
words-next text word after (w ∷ ws) read next =
    let n : IsFirstWord text w read.0 = read.1.0 in
    let e : (n.first ∷ n.rest) ≡ (next.first ∷ next.rest) = sym n.here ∙ next.here in
    let f : n.first ≡ next.first = cc e in
    let r : n.rest ≡ next.rest = cc e in
    let a : read.0 ≡ after = n.behind ∙ ((cc) ∙ sym next.behind) in
    let s : w ≡ word = n.spelled ∙ (cc (a, f, r) ∙ sym next.spelled) in
    (ws, (cc s, subst (λ (x : List ℕ). AreItsWords x ws) a read.1.1))

-- where no word stands there are none
pub words-none : (text : List ℕ) (words : List (List ℕ)) → AreItsWords text words → IsBlank text → words ≡ []
unfolding AreItsWords
words-none text [] read blank = refl
words-none text (w ∷ ws) read blank = let e : (read.1.0.first ∷ read.1.0.rest) ≡ [] = sym read.1.0.here ∙ blank in absurd (cc e)

-- where there are none it is blank
pub blank-words : (text : List ℕ) (words : List (List ℕ)) → AreItsWords text words → words ≡ [] → IsBlank text
unfolding AreItsWords
blank-words text [] read e = read
blank-words text (w ∷ ws) read e = absurd (cc e)
