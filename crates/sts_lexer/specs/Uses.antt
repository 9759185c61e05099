-- Which entries of the tables tokens name, and in which order new strings are taken up.
use Rattle.std.specs.Prelude.{◌≡◌, ℕ, ◌+◌, ◌<◌, ◌⊎◌, List, [], ◌∷◌, length, Option, Some, None}
use Rattle.sts_base.specs.declared.tables.Tables.{Tables}
use Rattle.sts_lexer.specs.declared.token.TokenKind.{TokenKind}
use Rattle.sts_lexer.specs.declared.token.TokenKind.TheVariants as kinds
use Rattle.sts_lexer.specs.declared.token.Token.{Token}

-- the entry in `names` that a token names, and the one in `texts`
abbrev pub name_entry : TokenKind → Option ℕ
name_entry (kinds.Name entry) = Some entry
name_entry (kinds.Word word entry) = Some entry
name_entry kind = None

abbrev pub text_entry : TokenKind → Option ℕ
text_entry (kinds.Text entry) = Some entry
text_entry kind = None

-- A table of so many strings has so many behind a token that names this entry, or none: an entry that is there adds nothing, and a new
-- string is the next entry.
abbrev pub TakesUp : Option ℕ → (before after : ℕ) → Type 0
TakesUp None before after = after ≡ before
TakesUp (Some entry) before after = ((entry < before) × (after ≡ before)) ⊎ ((entry ≡ before) × (after ≡ before + 1))

-- the same of tokens, one behind the other
abbrev pub TakeUp : (TokenKind → Option ℕ) → List Token → (before after : ℕ) → Type 0
TakeUp entry_of [] before after = after ≡ before
TakeUp entry_of (token ∷ rest) before after =
    (next : ℕ) × TakesUp (entry_of token.kind) before next × TakeUp entry_of rest next after

-- The strings behind the old ones are those that tokens name and the old tables lack, in the order in which they first appear.
pub record NumbersInOrder (old new : Tables) (all : List Token) : Type 0 where
  pub names : TakeUp name_entry all (length old.names) (length new.names)
  pub texts : TakeUp text_entry all (length old.texts) (length new.texts)

-- the entry of the one token that was read, if one was
abbrev pub entry_found : (TokenKind → Option ℕ) → Option (TokenKind × ℕ) → Option ℕ
entry_found entry_of None = None
entry_found entry_of (Some read) = entry_of read.0

-- the same of one token, if one was read
pub record NumbersOne (old new : Tables) (found : Option (TokenKind × ℕ)) : Type 0 where
  pub names : TakesUp (entry_found name_entry found) (length old.names) (length new.names)
  pub texts : TakesUp (entry_found text_entry found) (length old.texts) (length new.texts)
