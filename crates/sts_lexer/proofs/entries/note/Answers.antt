use Rattle.std.proofs.Common.{List, ℕ, sym, subst}
use Rattle.std.specs.Prelude.{OnOk}
use Rattle.sts_lexer.specs.Entries.{Notes}
use Rattle.sts_lexer.proofs.Numbering.{notes}
use Rattle.sts_lexer.proofs.entries.note.Goals as goal
use Rattle.sts_lexer.proofs.entries.note.Goals.{in-Ok-insert, in-Err}

pub returns : goal.returns
returns c =
    let old = c.args.entries.now in
    let new = c.insert.new.self in
    elim c.match-insert.branch [
      | in-Ok-insert w ↦
          let noted : Notes old new c.in-Ok.key.items c.args.entry = notes old new c.in-Ok.key c.args.entry w.in-Ok-insert.ensures.updates in
          let here : Notes old new c.args.bytes.now c.args.entry =
          subst (λ (x : List ℕ). Notes old new x c.args.entry) c.in-Ok.ensures.items noted in
          subst (λ r. OnOk r (Notes old new c.args.bytes.now c.args.entry)) (sym w.result-is) here
      | in-Err w ↦ subst (λ r. OnOk r (Notes old new c.args.bytes.now c.args.entry)) (sym w.result-is) tt
    ]
