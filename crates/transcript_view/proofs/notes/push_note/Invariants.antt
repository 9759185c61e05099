use Rattle.std.proofs.Common.{◌≡◌, drop}
use Rattle.view_forms.specs.Notes.{note_said}
use Rattle.transcript_view.proofs.notes.push_note.Given as goal

abbrev pub invariant-loop-note : goal.invariant-loop-note
invariant-loop-note l = (l.out.items ≡ l.fn.out.items) × (note_said (drop l.note-index l.notes) l.told ≡ note_said l.notes l.told)
