-- A text has one refusal at most, and none where it has tokens.
use Rattle.std.proofs.Common.{◌≡◌, ℕ, ◌<◌, ◌≤◌, List, length, refl, sym, ◌∙◌, subst, inl, inr, ◌⊎◌, arith}
use Rattle.std.specs.Str.{IsUtf8, IsValidUpTo}
use Rattle.std.proofs.lemmas.Bool.{cases_order}
use Rattle.std.proofs.lemmas.List.{take_all}
use Rattle.sts_base.specs.declared.tables.Tables.{Tables}
use Rattle.sts_base.specs.declared.refused.Code.{Code}
use Rattle.sts_base.specs.declared.refused.Code.TheVariants as code
use Rattle.sts_lexer.specs.Bytes.{most_bytes}
use Rattle.sts_lexer.specs.Tokens.{IsTokenization}
use Rattle.sts_lexer.specs.Refusals.{Stops, IsRefusal}
use Rattle.sts_lexer.specs.declared.token.Token.{Token}
use Rattle.sts_lexer.proofs.Unique.{tokens_or_stop, stop_once}

-- a refusal is of one of three kinds
abbrev IsOneOf : List ℕ → Code → ℕ → Type 0
IsOneOf text why at =
    ((why ≡ code.TextTooLong) × (most_bytes < length text) × (at ≡ 0))
    ⊎ (((why ≡ code.NotUtf8) × (length text ≤ most_bytes) × IsValidUpTo text at) ⊎ ((length text ≤ most_bytes) × IsUtf8 text × Stops text why at))

one_of : (text : List ℕ) (why : Code) (at : ℕ) → IsRefusal text why at → IsOneOf text why at
one_of text code.TextTooLong at h = inl (refl, h.0, h.1)
one_of text code.NotUtf8 at h = inr (inl (refl, h.0, h.1))
one_of text code.BadCharacter at h = inr (inr h)
one_of text code.BadNumber at h = inr (inr h)
one_of text code.BadText at h = inr (inr h)
one_of text code.Syntax at h = inr (inr h)
one_of text code.TooDeep at h = inr (inr h)
one_of text code.UnknownName at h = inr (inr h)
one_of text code.TwiceNamed at h = inr (inr h)
one_of text code.Captures at h = inr (inr h)
one_of text code.Mismatch at h = inr (inr h)
one_of text code.NeedsType at h = inr (inr h)
one_of text code.BadHandler at h = inr (inr h)
one_of text code.ClassCycle at h = inr (inr h)
one_of text code.OverLimit at h = inr (inr h)

not_valid : (text : List ℕ) (at : ℕ) → IsValidUpTo text at → IsUtf8 text → ⊥
not_valid text at h utf8 = h.longest (length text) h.short (subst (λ (x : List ℕ). IsUtf8 x) (sym (take_all (length text) text (omega arith))) utf8)

valid_once : (text : List ℕ) (at at' : ℕ) → IsValidUpTo text at → IsValidUpTo text at' → at ≡ at'
valid_once text at at' h g =
    elim (cases_order at at') [
      | inl same ↦ same
      | inr other ↦ elim other [
        | inl below ↦ absurd (h.longest at' below g.front)
        | inr above ↦ absurd (g.longest at above h.front)
      ]
    ]

pub tokens_or_refusal : (tables : Tables) (text : List ℕ) (all : List Token) (why : Code) (at : ℕ) → IsTokenization tables text all → IsRefusal text why at → ⊥
tokens_or_refusal tables text all why at h g =
    elim (one_of text why at g) [
      | inl long ↦ omega (arith, long.1, h.short)
      | inr other ↦ elim other [
        | inl invalid ↦ not_valid text at invalid.2 h.utf8
        | inr stops ↦ tokens_or_stop tables text all why at h stops.2
      ]
    ]

pub refusal_once : (text : List ℕ) (why why' : Code) (at at' : ℕ) → IsRefusal text why at → IsRefusal text why' at' → (why ≡ why') × (at ≡ at')
refusal_once text why why' at at' h g =
    elim (one_of text why at h) [
      | inl long ↦ elim (one_of text why' at' g) [
        | inl long' ↦ (long.0 ∙ sym long'.0, long.2 ∙ sym long'.2)
        | inr other' ↦ elim other' [
          | inl invalid' ↦ absurd (omega (arith, long.1, invalid'.1))
          | inr stops' ↦ absurd (omega (arith, long.1, stops'.0))
        ]
      ]
      | inr other ↦ elim other [
        | inl invalid ↦ elim (one_of text why' at' g) [
          | inl long' ↦ absurd (omega (arith, long'.1, invalid.1))
          | inr other' ↦ elim other' [
            | inl invalid' ↦ (invalid.0 ∙ sym invalid'.0, valid_once text at at' invalid.2 invalid'.2)
            | inr stops' ↦ absurd (not_valid text at invalid.2 stops'.1)
          ]
        ]
        | inr stops ↦ elim (one_of text why' at' g) [
          | inl long' ↦ absurd (omega (arith, long'.1, stops.0))
          | inr other' ↦ elim other' [
            | inl invalid' ↦ absurd (not_valid text at' invalid'.2 stops.1)
            | inr stops' ↦ stop_once text why why' at at' stops.2 stops'.2
          ]
        ]
      ]
    ]
