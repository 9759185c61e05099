-- How what a call returned stands to an answer on lists.
use Rattle.std.specs.Prelude.{◌≡◌, Result, Ok, Err}
use Rattle.hex_image.specs.declared.refused.HexCode.{HexCode}
use Rattle.hex_image.specs.declared.refused.HexRefused.{HexRefused}
use Rattle.hex_image.specs.declared.refused.HexRefused.TheVariants.{Image, NoMemory}

-- a refusal for the text has a cause; want of memory has none
abbrev pub HasCause : HexRefused → (HexCode → Type 0) → Type 0
HasCause (Image code) cause = cause code
HasCause NoMemory cause = Unit {0}

-- What was returned, seen by view, is this answer, unless memory ran out.
abbrev pub Gives : {A B : Type 0} → (A → B) → Result A HexRefused → Result B HexCode → Type 0
Gives view (Ok x) answer = answer ≡ Ok (view x)
Gives view (Err e) answer = HasCause e (λ code. answer ≡ Err code)
