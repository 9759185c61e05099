-- The bytes of an image, as they are written: where its parts begin, by their lengths, and each behind the one before.
use Rattle.std.specs.Prelude.{ℕ, ◌+◌, ◌*◌, List, ◌∷◌, ◌++◌, length, map, if◌then◌else◌, Option, Some, None, Bool, slice_index}
use Rattle.std.specs.List.{AllByRecursion, enumerate_from, fold, list_any}
use Rattle.flat_ir.specs.declared.ops.FlatClass.{FlatClass}
use Rattle.flat_ir.specs.declared.ops.FlatCode.{FlatCode}
use Rattle.thumb_layout.specs.declared.laid.Fix.{Fix}
use Rattle.thumb_layout.specs.declared.laid.Laid.{Laid}
use Rattle.thumb_layout.specs.Layout.{up}
use Rattle.thumb_divide.specs.Routine.{routine_bytes, routine_length}
use Rattle.thumb_emit.specs.InFlash.{Addresses}
use Rattle.image_link.specs.Image.{head_length, head, class_table, text_bytes, is_this_text, is_named}
use Rattle.image_link.specs.Linkable.{IsFixOf}
use Rattle.image_link.specs.inner.{padded, end_with, starts, filled}

-- Bytes, with a part behind them, and with parts.
abbrev pub with_part : List ℕ → Option (List ℕ) → List ℕ
with_part bytes None = bytes
with_part bytes (Some part) = padded bytes ++ part

abbrev pub with_parts : List ℕ → List (Option (List ℕ)) → List ℕ
with_parts bytes ps = fold with_part bytes ps

-- Where the last of parts of these lengths ends that are put behind an address.
abbrev pub end_behind : ℕ → List (Option ℕ) → ℕ
end_behind end ns = fold end_with end ns

-- Some fix names text i.
abbrev pub names_text : ℕ → List Fix → Bool
names_text i fixes = list_any (λ f. is_this_text i f.what) fixes

-- The fixes of laid code stand wholly in its bytes.
abbrev pub AreFixesOf : Laid → Type 0
AreFixesOf l = AllByRecursion (IsFixOf (length l.bytes)) l.fixes

-- The lengths of the parts: of the functions' code; of the classes' tables, which are a word and one a slot; and of the
-- texts from number i on, which are a word and the bytes.
abbrev pub code_lengths : List Laid → List (Option ℕ)
code_lengths laid = map (λ l. Some (length l.bytes)) laid

abbrev pub class_lengths : List FlatClass → List (Option ℕ)
class_lengths classes = map (λ c. Some (4 + 4 * length c.slots)) classes

abbrev pub text_lengths : List Laid → ℕ → List (List ℕ) → List (Option ℕ)
text_lengths laid i texts = map (λ p. if is_named laid p.0 then Some (4 + length p.1) else None) (enumerate_from i texts)

-- Where all stand: behind the head the functions, the routine, the classes and the texts.
abbrev pub code_end : List Laid → ℕ
code_end laid = end_behind head_length (code_lengths laid)

abbrev pub routine_end : List Laid → ℕ
routine_end laid = up (code_end laid) + routine_length

abbrev pub class_end : List Laid → List FlatClass → ℕ
class_end laid classes = end_behind (routine_end laid) (class_lengths classes)

abbrev pub image_end : List Laid → List FlatClass → List (List ℕ) → ℕ
image_end laid classes texts = end_behind (class_end laid classes) (text_lengths laid 0 texts)

unfoldable pub addresses : List Laid → List FlatClass → List (List ℕ) → Addresses
addresses laid classes texts = record {
  function = slice_index (starts head_length (code_lengths laid));
  class = slice_index (starts (routine_end laid) (class_lengths classes));
  text = slice_index (starts (class_end laid classes) (text_lengths laid 0 texts));
  routine = up (code_end laid);
}

-- The parts: the functions' code from function i on, the classes' tables, and the texts from text i on.
abbrev pub code_parts : Addresses → ℕ → List Laid → List (Option (List ℕ))
code_parts a i laid = map (λ p. Some (filled a (a.function p.0) p.1.fixes p.1.bytes)) (enumerate_from i laid)

abbrev pub class_parts : Addresses → List FlatClass → List (Option (List ℕ))
class_parts a classes = map (λ c. Some (class_table a c)) classes

abbrev pub text_parts : List Laid → ℕ → List (List ℕ) → List (Option (List ℕ))
text_parts laid i texts = map (λ p. if is_named laid p.0 then Some (text_bytes p.1) else None) (enumerate_from i texts)

abbrev pub parts : Addresses → List Laid → List FlatClass → List (List ℕ) → List (Option (List ℕ))
parts a laid classes texts =
    code_parts a 0 laid ++ (Some routine_bytes ∷ (class_parts a classes ++ text_parts laid 0 texts))

-- All bytes.
unfoldable pub written_bytes : List Laid → FlatCode → List (List ℕ) → List ℕ
written_bytes laid code texts =
    let a = addresses laid code.classes texts in with_parts (head a code.main) (parts a laid code.classes texts)
