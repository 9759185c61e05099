use Rattle.board_outside.proofs.sending.send_bytes.Goals as goal

pub returns : goal.returns
returns g c = λ moves start f. c.send_bytes.ensures.follows moves start f
