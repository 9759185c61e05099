use Rattle.std.proofs.Common.{subst, sym}
use Rattle.sts_base.specs.declared.tables.Tables.{Tables}
use Rattle.sts_syntax.specs.TypedTrees.{TypedProgram}
use Rattle.sts_whole.specs.Compiled.{IsImageOf}
use Rattle.run_tool.proofs.images.texts_have_one_image.Goals as goal

pub returns : goal.returns
returns c = record {
  some = λ text tables P accepted. c.images_are_one.ensures.some P tables.texts (c.accepted_programs_are_buildable.ensures text tables P accepted).0;
  one = λ text image other h k.
      (let same = c.one_answer.ensures.program text h.tables k.tables h.program k.program h.accepted k.accepted in
      let it : IsImageOf h.program h.tables.texts other =
      subst (λ (t : Tables). IsImageOf h.program t.texts other) (sym same.0) (subst (λ (P : TypedProgram). IsImageOf P k.tables.texts other) (sym same.1) k.built.is_the) in
      c.images_are_one.ensures.one h.program h.tables.texts image other h.built.is_the it);
}
