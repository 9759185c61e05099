use Rattle.typed_program.proofs.AcceptedPrograms.{buildable}
use Rattle.typed_program.proofs.accepted_programs.accepted_programs_are_buildable.Goals as goal

pub returns : goal.returns
returns c =
    buildable
    (record {
      stay = c.spellings_stay.ensures;
      spells = c.text_spells_library.ensures;
      leaves = c.library_leaves_first.ensures;
      prelude = c.prelude_is_library.ensures;
      light = c.typed_library_is_light.ensures;
      built = c.texts_without_a_failure_are_built.ensures.built;
      well_typed = c.accepted_texts_are_well_typed.ensures;
      elaborated = c.read_texts_are_elaborated.ensures;
    })
