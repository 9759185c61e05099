use Rattle.std.proofs.Common.{ℕ, ◌<◌, ◌^◌, ◌∙◌, ap, subst, false}
use Rattle.thumb_switch.specs.Space.{part_of}
use Rattle.thumb_switch.specs.Desk.{on_desk}
use Rattle.thumb_switch.proofs.Bytes.{loads_by_size, aligned_free}
use Rattle.thumb_switch.proofs.desk.DeskMemory.load.Goals as goal

pub returns-clause-content : goal.returns-clause-content
returns-clause-content c =
    let d = c.args.self.now in
    let small : ℕ → Type 0 = λ n. n < 2 ^ 32 in
    c.part.ensures.value ∙ ap (λ w. part_of (record { at = c.args.address; bytes = c.args.bytes }) w) c.word-word.ensures
    ∙ loads_by_size (on_desk d) c.args.address c.args.bytes c.requires.size (aligned_free _ _ false (record { at = c.args.address; bytes = c.args.bytes }) c.requires.free) (subst small c.word-word.ensures c.word-word.type_inv)
