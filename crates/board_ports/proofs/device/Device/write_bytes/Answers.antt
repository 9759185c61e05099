use Rattle.std.proofs.Common.{rules, ◌∷◌, [], ◌++◌, ◌∙◌, sym, ap, subst, take, length, refl, ◌≤◌}
use Rattle.board_ports.specs.Counts.{some_more}
use Rattle.sts_base.specs.Faults.{one_more}
use Rattle.board_ports.specs.Logs.{Logs, at_moment}
use Rattle.board_ports.proofs.History.{logs_then}
use Rattle.board_ports.proofs.Writes.{logs_nothing, one_byte, first_bytes, some_more_next, some_more_of}
use Rattle.board_ports.proofs.device.Device.write_bytes.Goals as goal

pub loop-byte-init : goal.loop-byte-init
loop-byte-init g c = (logs_nothing (g.Self.Device.account c.args.self.now).log, refl, refl)

pub loop-byte-preserved : goal.loop-byte-preserved
loop-byte-preserved g c =
    let i = c.loop-byte.byte-index in
    let account = g.Self.Device.account in (
      subst (λ l. Logs (account c.args.self.now).log (account c.write.new.self).log l)
          (ap (λ b. at_moment c.args.now (take i c.args.bytes.now) ++ (c.args.now, b) ∷ []) c.from.ensures ∙ one_byte c.args.now c.args.bytes.now i (search rules))
          (logs_then (account c.args.self.now).log (account c.loop-byte.self).log (account c.write.new.self).log _ _ c.loop-byte.invariant.0 c.if-not-write.ensures.logged),
      c.if-not-write.ensures.kept ∙ c.loop-byte.invariant.1,
      c.write.ensures.once ∙ ap one_more c.loop-byte.invariant.2 ∙ some_more_next i (g.Self.Device.account c.args.self.now).writes,
    )

pub returns-then-not-write-clause-first : goal.returns-then-not-write-clause-first
returns-then-not-write-clause-first g c =
    first_bytes _ _ c.args.now c.args.bytes.now c.loop-byte.byte-index (λ had e. c.if-not-write.ensures.stays ∙ c.loop-byte.invariant.0 had e)

pub returns-then-not-write-clause-at_most : goal.returns-then-not-write-clause-at_most
returns-then-not-write-clause-at_most g c =
    let i = c.loop-byte.byte-index in
    let w = (g.Self.Device.account c.args.self.now).writes in
    subst (λ n. n ≤ some_more (length c.args.bytes.now) w) (sym (c.write.ensures.once ∙ ap one_more c.loop-byte.invariant.2 ∙ some_more_next i w)) (some_more_of i (length c.args.bytes.now) w (search rules))
