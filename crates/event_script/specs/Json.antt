-- The JSON tree of a file's bytes (RFC 8259, as `serde_json` reads it).
use Rattle.std.specs.Prelude.{◌≡◌, ℕ, List, Some}
use Rattle.std.specs.Str.{IsUtf8}
use Rattle.serde_json.specs.Data.{Data}
use Rattle.serde_json.specs.Read.{read as read_text}

-- the bytes are text, and this is the tree that `serde_json` reads from it
pub record IsTree (bytes : List ℕ) (tree : Data) : Type 0 where
  pub text : IsUtf8 bytes
  pub reads : read_text bytes ≡ Some tree
