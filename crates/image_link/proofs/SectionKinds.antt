-- The sections of each kind.
use Rattle.std.proofs.Common.{ℕ, ◌+◌, ◌*◌, List, length, map}
use Rattle.std.specs.List.{enumerate_from, filter}
use Rattle.flat_ir.specs.declared.ops.FlatClass.{FlatClass}
use Rattle.thumb_layout.specs.declared.laid.Laid.{Laid}
use Rattle.thumb_divide.specs.Routine.{routine_length}
use Rattle.thumb_emit.specs.InFlash.{Addresses}
use Rattle.image_link.specs.Image.{Section, section, is_named}

abbrev pub code_section : Addresses → ℕ × Laid → Section
code_section a p = section (a.function p.0) (length p.1.bytes)

abbrev pub routine_section : Addresses → Section
routine_section a = section a.routine routine_length

abbrev pub table_section : Addresses → ℕ × FlatClass → Section
table_section a p = section (a.class p.0) (4 + 4 * length p.1.slots)

abbrev pub text_section : Addresses → ℕ × List ℕ → Section
text_section a p = section (a.text p.0) (4 + length p.1)

abbrev pub code_sections : Addresses → List Laid → List Section
code_sections a laid = map (code_section a) (enumerate_from 0 laid)

abbrev pub table_sections : Addresses → List FlatClass → List Section
table_sections a classes = map (table_section a) (enumerate_from 0 classes)

abbrev pub text_sections : Addresses → List Laid → List (List ℕ) → List Section
text_sections a laid texts = map (text_section a) (filter (λ p. is_named laid p.0) (enumerate_from 0 texts))
