-- Tables and the maps that number them, when a string is added.
use Rattle.std.proofs.Common.{◌≡◌, ℕ, zero, suc, Bool, true, false, cond, List, [], ◌∷◌, ◌++◌, length, refl, sym, ap, ◌∙◌, subst, inl, inr, ◌⊎◌}
use Rattle.std.specs.Prelude.{Option, Some, None, MatchOption, slice_get}
use Rattle.std.specs.declared.vec.Vec.{Vec}
use Rattle.std.specs.declared.cmp.Ordering.{Ordering}
use Rattle.std.specs.BTreeMap.{BTreeMap, UpdatesBy}
use Rattle.std.specs.Map.{KeepsOthers, lookup}
use Rattle.std.specs.Ordering.{nat_cmp, is_eq, eq_by_cmp}
use Rattle.std.specs.Cmp.{eq_by_cmp_equiv}
use Rattle.std.specs.Cmp.Lexicographic.{slice_cmp, nat_list_cmp_total, nat_list_eq_equiv, texts_ties}
use Rattle.std.specs.Str.{bytes_eq}
use Rattle.std.proofs.lemmas.Bool.{cases_Bool, cond-true, cond-false, false≢true}
use Rattle.std.proofs.lemmas.Option.{same_Some, MatchOption-at_some, MatchOption-at_none}
use Rattle.std.proofs.lemmas.Slice.Eq.{bytes_eq-Decides}
use Rattle.sts_base.specs.Distinct.{IsDistinct}
use Rattle.sts_lexer.specs.Entries.{Lacks, entry_in, Indexes, Notes}

-- the order of keys by their bytes
abbrev pub key_cmp : {A : Type 0} → Vec ℕ A → Vec ℕ A → Ordering
key_cmp x y = slice_cmp nat_cmp x.items y.items

-- a query for other bytes finds what it found before
kept : {A : Type 0} (old new : List (Vec ℕ A × ℕ)) (bytes other : List ℕ)
    → KeepsOthers (eq_by_cmp key_cmp) (λ key. is_eq (slice_cmp nat_cmp bytes key.items)) old new → bytes_eq bytes other ≡ false
    → lookup (λ key. is_eq (slice_cmp nat_cmp other key.items)) new ≡ lookup (λ key. is_eq (slice_cmp nat_cmp other key.items)) old
unfolding KeepsOthers
kept old new bytes other keeps differ =
    keeps (λ key. is_eq (slice_cmp nat_cmp other key.items))
    (λ x y. (eq_by_cmp_equiv nat_list_cmp_total).congr other x.items y.items)
    (λ key same. sym (texts_ties other key.items) ∙ (nat_list_eq_equiv.symm other key.items ∙ (sym (nat_list_eq_equiv.congr bytes key.items other (texts_ties bytes key.items ∙ same)) ∙ differ)))

pub notes : {A : Type 0} (old new : BTreeMap (Vec ℕ A) ℕ) (key : Vec ℕ A) (entry : ℕ)
    → UpdatesBy key_cmp (λ other. slice_cmp nat_cmp key.items other.items) old new (Some entry) → Notes old new key.items entry
notes old new key entry h = λ other.
    elim (cases_Bool (bytes_eq key.items other)) [
      | inl same ↦
          subst (λ x. entry_in new x ≡ Some entry) ((bytes_eq-Decides key.items other).0 same) h.1
          ∙ sym (cond-true (bytes_eq key.items other) (Some entry) (entry_in old other) same)
      | inr differ ↦
          kept old.entries new.entries key.items other h.3 differ
          ∙ sym (cond-false (bytes_eq key.items other) (Some entry) (entry_in old other) differ)
    ]

-- reading behind an addition
pub slice_get_left : {X : Type 0} (xs ys : List X) (k : ℕ) (x : X) → slice_get xs k ≡ Some x → slice_get (xs ++ ys) k ≡ Some x
slice_get_left [] ys k x h = absurd (cc)
slice_get_left (y ∷ xs) ys zero x h = h
slice_get_left (y ∷ xs) ys (suc k) x h = slice_get_left xs ys k x h

pub slice_get_added : {X : Type 0} (xs : List X) (y : X) → slice_get (xs ++ y ∷ []) (length xs) ≡ Some y
slice_get_added [] y = refl
slice_get_added (x ∷ xs) y = slice_get_added xs y

pub slice_get_pushed : {X : Type 0} (xs : List X) (y : X) (k : ℕ) (x : X) → slice_get (xs ++ y ∷ []) k ≡ Some x
    → (slice_get xs k ≡ Some x) ⊎ ((k ≡ length xs) × (y ≡ x))
slice_get_pushed [] y zero x h = inr (refl, same_Some y x h)
slice_get_pushed [] y (suc k) x h = absurd (cc)
slice_get_pushed (z ∷ xs) y zero x h = inl h
slice_get_pushed (z ∷ xs) y (suc k) x h =
    elim (slice_get_pushed xs y k x h) [
      | inl here ↦ inl here
      | inr last ↦ inr (ap (λ (n : ℕ). suc n) last.0, last.1)
    ]

pub distinct_added : (strings : List (List ℕ)) (string : List ℕ) → IsDistinct strings → Lacks strings string → IsDistinct (strings ++ string ∷ [])
distinct_added strings string distinct lacks = λ i j other here there.
    elim (slice_get_pushed strings string i other here) [
      | inl first ↦
          elim (slice_get_pushed strings string j other there) [
            | inl second ↦ distinct i j other first second
            | inr second ↦ absurd (lacks i (subst (λ x. slice_get strings i ≡ Some x) (sym second.1) first))
          ]
      | inr first ↦
          elim (slice_get_pushed strings string j other there) [
            | inl second ↦ absurd (lacks j (subst (λ x. slice_get strings j ≡ Some x) (sym first.1) second))
            | inr second ↦ first.0 ∙ sym second.0
          ]
    ]

-- what a map says of a string, once a number is noted
told : (strings : List (List ℕ)) (string other : List ℕ) (before after : Option ℕ) (same : Bool) → bytes_eq string other ≡ same
    → after ≡ cond same (Some (length strings)) before
    → MatchOption before (Lacks strings other) (λ entry. slice_get strings entry ≡ Some other)
    → MatchOption after (Lacks (strings ++ string ∷ []) other) (λ entry. slice_get (strings ++ string ∷ []) entry ≡ Some other)
told strings string other before after true e is h =
    subst (λ o. MatchOption o (Lacks (strings ++ string ∷ []) other) (λ entry. slice_get (strings ++ string ∷ []) entry ≡ Some other)) (sym is)
    (subst (λ x. slice_get (strings ++ string ∷ []) (length strings) ≡ Some x) ((bytes_eq-Decides string other).0 e) (slice_get_added strings string))
told strings string other None after false e is h =
    subst (λ o. MatchOption o (Lacks (strings ++ string ∷ []) other) (λ entry. slice_get (strings ++ string ∷ []) entry ≡ Some other)) (sym is)
    (λ entry here. elim (slice_get_pushed strings string entry other here) [
      | inl there ↦ h entry there
      | inr last ↦ false≢true (sym e ∙ (bytes_eq-Decides string other).1 last.1)
    ])
told strings string other (Some n) after false e is h =
    subst (λ o. MatchOption o (Lacks (strings ++ string ∷ []) other) (λ entry. slice_get (strings ++ string ∷ []) entry ≡ Some other)) (sym is)
    (slice_get_left strings (string ∷ []) n other h)

pub indexes_added : {A : Type 0} (old new : BTreeMap (Vec ℕ A) ℕ) (strings : List (List ℕ)) (string : List ℕ) (entry : ℕ) → entry ≡ length strings
    → Indexes old strings → Notes old new string entry → Indexes new (strings ++ string ∷ [])
indexes_added old new strings string entry is indexes notes = λ other.
    told strings string other (entry_in old other) (entry_in new other) (bytes_eq string other) refl
    (subst (λ n. entry_in new other ≡ cond (bytes_eq string other) (Some n) (entry_in old other)) is (notes other)) (indexes other)

-- an empty map numbers an empty table
pub indexes_none : {A : Type 0} (entries : BTreeMap (Vec ℕ A) ℕ) → entries.entries ≡ [] → Indexes entries []
indexes_none entries empty = λ string.
    subst (λ es. MatchOption (lookup (λ key. is_eq (slice_cmp nat_cmp string key.items)) es) (Lacks [] string) (λ entry. slice_get [] entry ≡ Some string))
    (sym empty) (λ entry here. cc)

-- what a map says of a string
pub known : {A : Type 0} (entries : BTreeMap (Vec ℕ A) ℕ) (strings : List (List ℕ)) (string : List ℕ) (entry : ℕ) → Indexes entries strings
    → Some entry ≡ entry_in entries string → slice_get strings entry ≡ Some string
known entries strings string entry indexes e =
    MatchOption-at_some (Lacks strings string) (λ n. slice_get strings n ≡ Some string) entry (sym e) (indexes string)

pub unknown : {A : Type 0} (entries : BTreeMap (Vec ℕ A) ℕ) (strings : List (List ℕ)) (string : List ℕ) → Indexes entries strings
    → ◌≡◌ {A = Option ℕ} None (entry_in entries string) → Lacks strings string
unknown entries strings string indexes e =
    MatchOption-at_none (Lacks strings string) (λ n. slice_get strings n ≡ Some string) (sym e) (indexes string)
