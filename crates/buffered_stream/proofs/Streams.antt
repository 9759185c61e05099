-- What writes do to the bytes that a stream holds and to those that are held back for it.
use Rattle.std.proofs.Common.{inl, inr, ◌≡◌, ℕ, ◌+◌, List, [], ◌++◌, sym, ap, subst, append-nil, append_assoc, ◌∙◌, refl, arith, length, take, drop, ◌-◌, length-drop}
use Rattle.std.specs.Prelude.{Option, Some, None, Result, Ok, Err, OnOk, OnErr, ◌⊎◌}
use Rattle.std.specs.Io.KnownBytes.{Appends, Keeps, append_known}
use Rattle.std.proofs.Math.Seq.{take-add}
use Rattle.std.proofs.lemmas.List.{take-append-drop, take_all}
use Rattle.buffered_stream.specs.Pieces.{AppendsFront, IsSuffix}

pub appends-nothing : (a : Option (List ℕ)) → Appends a a []
appends-nothing None = tt
appends-nothing (Some xs) = sym (append-nil xs)

appends-then : (a b c : Option (List ℕ)) (s t : List ℕ) → Appends a b s → Appends b c t → Appends a c (s ++ t)
appends-then None b c s t p q = tt
appends-then (Some xs) None c s t p q = absurd p
appends-then (Some xs) (Some ys) None s t p q = absurd q
appends-then (Some xs) (Some ys) (Some zs) s t p q = q ∙ ap (λ x. x ++ t) p ∙ append_assoc xs s t

pub appends-keeps : (a b c : Option (List ℕ)) (s : List ℕ) → Appends a b s → Keeps b c → Appends a c s
appends-keeps None b c s p k = tt
appends-keeps (Some xs) None c s p k = absurd p
appends-keeps (Some xs) (Some ys) None s p k = absurd k
appends-keeps (Some xs) (Some ys) (Some zs) s p k = k ∙ p

-- the slice of a piece from a place on
the-rest : (piece : List ℕ) (n : ℕ) → take (length piece - n) (drop n piece) ≡ drop n piece
the-rest piece n = take_all (length piece - n) (drop n piece) (let e : length (drop n piece) ≡ length piece - n = length-drop n piece in omega arith)

-- a write of more of a piece
pub appends-more : (a b c : Option (List ℕ)) (piece : List ℕ) (n m : ℕ) → Appends a b (take n piece) → Appends b c (take m (take (length piece - n) (drop n piece)))
    → Appends a c (take (n + m) piece)
appends-more a b c piece n m t w =
    subst (λ x. Appends a c x) (sym (take-add n m piece))
    (appends-then a b c (take n piece) (take m (drop n piece)) t (subst (λ x. Appends b c (take m x)) (the-rest piece n) w))

-- a write that took nothing
pub appends-no_more : (a b c : Option (List ℕ)) (piece s : List ℕ) (n : ℕ) → Appends a b (take n piece) → Appends b c (take 0 s) → Appends a c (take n piece)
appends-no_more a b c piece s n t w =
    subst (λ x. Appends a c x) (append-nil (take n piece)) (appends-then a b c (take n piece) [] t w)

-- what was held back and is now written stays what the stream is to hold
pub keeps-known : (a b : Option (List ℕ)) (held : List ℕ) (n : ℕ) → Appends a b (take n held) → Keeps (append_known a held) (append_known b (drop n held))
keeps-known None b held n p = tt
keeps-known (Some xs) None held n p = absurd p
keeps-known (Some xs) (Some ys) held n p =
    ap (λ x. x ++ drop n held) p ∙ append_assoc xs (take n held) (drop n held) ∙ ap (λ x. xs ++ x) (take-append-drop n held)

keeps-itself : (a : Option (List ℕ)) → Keeps a a
keeps-itself None = tt
keeps-itself (Some xs) = refl

pub keeps-same : (a : Option (List ℕ)) (held held' : List ℕ) → held' ≡ held → Keeps (append_known a held) (append_known a held')
keeps-same a held held' e = subst (λ x. Keeps (append_known a held) (append_known a x)) (sym e) (keeps-itself (append_known a held))

-- a write past a buffer that is empty before and behind it
pub past-known : (a b : Option (List ℕ)) (held held' piece : List ℕ) → held ≡ [] → held' ≡ [] → Appends a b piece → Appends (append_known a held) (append_known b held') piece
past-known None b held held' piece e e' p = tt
past-known (Some xs) None held held' piece e e' p = absurd p
past-known (Some xs) (Some ys) held held' piece e e' p =
    ap (λ x. ys ++ x) e' ∙ append-nil ys ∙ p ∙ ap (λ x. x ++ piece) (sym (append-nil xs) ∙ ap (λ x. xs ++ x) (sym e))

-- a piece more is held back
pub hold-known : (x a : Option (List ℕ)) (held held' piece : List ℕ) → Keeps x (append_known a held) → held' ≡ held ++ piece → Appends x (append_known a held') piece
hold-known None a held held' piece k e = tt
hold-known (Some xs) None held held' piece k e = absurd k
hold-known (Some xs) (Some ys) held held' piece k e =
    ap (λ x. ys ++ x) e ∙ sym (append_assoc ys held piece) ∙ ap (λ x. x ++ piece) k

-- what is kept, and then a piece more
pub then-appends : (x a c : Option (List ℕ)) (piece : List ℕ) → Keeps x a → Appends a c piece → Appends x c piece
then-appends None a c piece k p = tt
then-appends (Some xs) None c piece k p = absurd k
then-appends (Some xs) (Some ys) None piece k p = absurd p
then-appends (Some xs) (Some ys) (Some zs) piece k p = p ∙ ap (λ x. x ++ piece) k

pub then-front : (x a c : Option (List ℕ)) (piece : List ℕ) → Keeps x a → AppendsFront a c piece → AppendsFront x c piece
then-front x a c piece k f = (f.0, then-appends x a c (take f.0 piece) k f.1)

-- nothing of a piece
pub front-none : (x a : Option (List ℕ)) (piece : List ℕ) → Keeps x a → AppendsFront x a piece
front-none x a piece k = (0, then-appends x a a [] k (appends-nothing a))

-- a write past an empty buffer that failed
pub on-front : {T E : Type 0} (r : Result T E) (a b : Option (List ℕ)) (held held' piece : List ℕ) (n : ℕ) → held ≡ [] → held' ≡ [] → Appends a b (take n piece)
    → OnErr r (AppendsFront (append_known a held) (append_known b held') piece)
on-front (Ok x) a b held held' piece n e e' p = tt
on-front (Err x) a b held held' piece n e e' p = (n, past-known a b held held' (take n piece) e e' p)

-- a write out that failed behind a piece more, all of which is its front
pub on-whole : {T E : Type 0} (r : Result T E) (a b c : Option (List ℕ)) (piece : List ℕ) → Appends a b piece → Keeps b c → OnErr r (AppendsFront a c piece)
on-whole (Ok x) a b c piece p k = tt
on-whole (Err x) a b c piece p k =
    (length piece, subst (λ s. Appends a c s) (sym (take_all (length piece) piece (omega arith))) (appends-keeps a b c piece p k))

-- what is held back behind a piece more
pub suffix-hold : (old mid new piece : List ℕ) → (mid ≡ old) ⊎ (mid ≡ []) → new ≡ mid ++ piece → IsSuffix new (old ++ piece)
suffix-hold old mid new piece (inl e) n = ([], n ∙ ap (λ x. x ++ piece) e)
suffix-hold old mid new piece (inr e) n = (old, ap (λ x. old ++ x) (n ∙ ap (λ x. x ++ piece) e))

pub suffix-none : (old new piece : List ℕ) → new ≡ [] → IsSuffix new (old ++ piece)
suffix-none old new piece e = (old ++ piece, ap (λ x. (old ++ piece) ++ x) e ∙ append-nil (old ++ piece))

pub on-suffix : {T E : Type 0} (r : Result T E) (old new piece : List ℕ) → new ≡ [] → OnOk r (IsSuffix new (old ++ piece))
on-suffix (Ok x) old new piece e = suffix-none old new piece e
on-suffix (Err x) old new piece e = tt
