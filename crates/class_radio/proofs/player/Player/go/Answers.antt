use Rattle.std.proofs.Common.{◌∙◌, None, ap, subst, sym}
use Rattle.board_ports.specs.Account.{Account}
use Rattle.board_ports.specs.declared.sure.SureDevice.{SureDevice}
use Rattle.class_radio.specs.declared.player.Player.{Player}
use Rattle.class_radio.specs.declared.player.Step.{Step}
use Rattle.class_radio.specs.Stepping.{PlayedOn, step_told}
use Rattle.class_radio.proofs.Coming.{whole, may_go, left_most}
use Rattle.class_radio.proofs.Going.{noting_lead, stepped_by, taken_by}
use Rattle.class_radio.proofs.player.Player.go.Goals as goal

-- what is known of a device that never fails
abbrev known : SureDevice → Account
known d = record { log = None; faults = 0; writes = d.writes }

pub go_led-gone-requires-clause-whole : goal.go_led-gone-requires-clause-whole
go_led-gone-requires-clause-whole g c = (let m = c.requires.may in whole m.0 m.1 m.2 m.3 c.args.moment m.4 m.5 c.args.self.now m.6)

pub go_led-gone-requires-clause-may : goal.go_led-gone-requires-clause-may
go_led-gone-requires-clause-may g c = (let m = c.requires.may in may_go m.0 m.1 m.2 m.3 c.args.moment m.4 m.5 c.args.self.now m.6)

pub go_led-gone-requires-clause-most : goal.go_led-gone-requires-clause-most
go_led-gone-requires-clause-most g c = (let m = c.requires.may in left_most m.0 m.1 m.2 m.3 c.args.moment m.4 m.5 c.args.self.now m.6)

pub note-requires : goal.note-requires
note-requires g c =
    taken_by c.args.self.now.lead c.args.moment c.args.self.now.left known c.args.self.now.board c.go_led-gone.new.self (g.K.Sink.taken c.args.out.now) (g.K.Sink.taken c.go_led-gone.new.out)
    (g.K.Sink.faults c.args.out.now) (g.K.Sink.faults c.go_led-gone.new.out) c.go_led-gone.result c.go_led-gone.ensures.went

pub returns-clause-stepped : goal.returns-clause-stepped
returns-clause-stepped g c number budget setup script used seen may =
    (let by = stepped_by number budget setup script c.args.moment used seen c.args.self.now may known c.go_led-gone.new.self (g.K.Sink.taken c.args.out.now) (g.K.Sink.taken c.go_led-gone.new.out)
    (g.K.Sink.faults c.args.out.now) (g.K.Sink.faults c.go_led-gone.new.out) c.go_led-gone.result c.go_led-gone.ensures.went in
    subst (λ (s : Step). PlayedOn number budget setup script c.args.moment seen c.note.new.self (g.K.Sink.taken c.args.out.now) (g.K.Sink.taken c.go_led-gone.new.out) (g.K.Sink.faults c.args.out.now) (g.K.Sink.faults c.go_led-gone.new.out) s) (sym c.note.ensures.answer)
    (subst (λ (q : Player). PlayedOn number budget setup script c.args.moment seen q (g.K.Sink.taken c.args.out.now) (g.K.Sink.taken c.go_led-gone.new.out) (g.K.Sink.faults c.args.out.now) (g.K.Sink.faults c.go_led-gone.new.out) (step_told c.go_led-gone.result)) (sym c.note.ensures.noting) by))

pub returns-clause-lead : goal.returns-clause-lead
returns-clause-lead g c = ap (λ (q : Player). q.lead) c.note.ensures.noting ∙ noting_lead c.go_led-gone.result _
