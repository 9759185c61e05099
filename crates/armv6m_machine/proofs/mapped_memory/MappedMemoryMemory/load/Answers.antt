use Rattle.std.proofs.Common.{◌∙◌, ◌<◌, ◌^◌, ℕ, ap, subst, false}
use Rattle.thumb_code.specs.Map.{part}
use Rattle.armv6m_machine.proofs.Bytes.{loads_bytes, aligned_free}
use Rattle.armv6m_machine.proofs.mapped_memory.MappedMemoryMemory.load.Goals as goal

pub returns-clause-content : goal.returns-clause-content
returns-clause-content c =
    let small : ℕ → Type 0 = λ n. n < 2 ^ 32 in
    c.part.ensures.value ∙ ap (λ w. part (record { at = c.args.address; bytes = c.args.bytes }) w) c.word.ensures
    ∙ loads_bytes c.args.self.now c.args.address c.args.bytes c.requires.size (aligned_free c.args.self.now.base false (record { at = c.args.address; bytes = c.args.bytes }) c.requires.free) (subst small c.word.ensures c.word.type_inv)
