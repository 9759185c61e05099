use Rattle.std.proofs.Common.{subst, sym, refl, Some, ◌≡◌}
use Rattle.sts_words.specs.declared.order.Order.{Order}
use Rattle.sts_words.specs.Orders.{order_view}
use Rattle.run_tool.specs.Answers.{Concludes, of_devices, of_sink}
use Rattle.run_tool.specs.Orders.{MayAnswer, lead_of}
use Rattle.run_tool.proofs.Endings.{says-concludes}
use Rattle.run_tool.specs.declared.ending.Ending.TheVariants.{NoMemory}
use Rattle.run_tool.specs.Wanted.{HasAsked, Wants, wants_none}
use Rattle.run_tool.proofs.Wanting.{asked-none}
use Rattle.run_tool.specs.Files.{told_by}
use Rattle.run_tool.proofs.commands.perform_order.Goals as goal

pub returns-in-Check-clause-answer : goal.returns-in-Check-clause-answer
returns-in-Check-clause-answer g c =
    subst (λ (o : Order). Concludes (of_sink g.K.Sink.taken g.K.Sink.faults c.args.out.now c.check.new.out) (of_devices g.D.Device.account c.args.places.now.items c.args.places.now.items) (lead_of (Some (order_view o)))
    (MayAnswer (told_by g.F.Folder.holds g.F.Folder.faults c.args.folder.now c.check.new.folder) (Some (order_view o))) c.check.result) (sym c.in-Check.is)
    (says-concludes g.D.Device.account c.args.places.now.items c.args.places.now.items refl _ c.check.result c.check.ensures.answer)

pub returns-in-Build-clause-answer : goal.returns-in-Build-clause-answer
returns-in-Build-clause-answer g c =
    subst (λ (o : Order). Concludes (of_sink g.K.Sink.taken g.K.Sink.faults c.args.out.now c.build.new.out) (of_devices g.D.Device.account c.args.places.now.items c.args.places.now.items) (lead_of (Some (order_view o)))
    (MayAnswer (told_by g.F.Folder.holds g.F.Folder.faults c.args.folder.now c.build.new.folder) (Some (order_view o))) c.build.result) (sym c.in-Build.is)
    (says-concludes g.D.Device.account c.args.places.now.items c.args.places.now.items refl _ c.build.result c.build.ensures.answer)

pub returns-in-Run-clause-answer : goal.returns-in-Run-clause-answer
returns-in-Run-clause-answer g c =
    subst (λ (o : Order). Concludes (of_sink g.K.Sink.taken g.K.Sink.faults c.args.out.now c.run.new.out) (of_devices g.D.Device.account c.args.places.now.items c.run.new.places.items) (lead_of (Some (order_view o)))
    (MayAnswer (told_by g.F.Folder.holds g.F.Folder.faults c.args.folder.now c.run.new.folder) (Some (order_view o))) c.run.result) (sym c.in-Run.is) c.run.ensures.answer

pub returns-in-RunHex-clause-answer : goal.returns-in-RunHex-clause-answer
returns-in-RunHex-clause-answer g c =
    subst (λ (o : Order). Concludes (of_sink g.K.Sink.taken g.K.Sink.faults c.args.out.now c.run_hex.new.out) (of_devices g.D.Device.account c.args.places.now.items c.run_hex.new.places.items) (lead_of (Some (order_view o)))
    (MayAnswer (told_by g.F.Folder.holds g.F.Folder.faults c.args.folder.now c.run_hex.new.folder) (Some (order_view o))) c.run_hex.result) (sym c.in-RunHex.is) c.run_hex.ensures.answer

pub returns-in-RunAt-clause-answer : goal.returns-in-RunAt-clause-answer
returns-in-RunAt-clause-answer g c =
    subst (λ (o : Order). Concludes (of_sink g.K.Sink.taken g.K.Sink.faults c.args.out.now c.run_at.new.out) (of_devices g.D.Device.account c.args.places.now.items c.run_at.new.places.items) (lead_of (Some (order_view o)))
    (MayAnswer (told_by g.F.Folder.holds g.F.Folder.faults c.args.folder.now c.run_at.new.folder) (Some (order_view o))) c.run_at.result) (sym c.in-RunAt.is) c.run_at.ensures.answer

pub returns-in-Class-clause-answer : goal.returns-in-Class-clause-answer
returns-in-Class-clause-answer g c =
    subst (λ (o : Order). Concludes (of_sink g.K.Sink.taken g.K.Sink.faults c.args.out.now c.class.new.out) (of_devices g.D.Device.account c.args.places.now.items c.args.places.now.items) (lead_of (Some (order_view o)))
    (MayAnswer (told_by g.F.Folder.holds g.F.Folder.faults c.args.folder.now c.class.new.folder) (Some (order_view o))) c.class.result) (sym c.in-Class.is)
    (says-concludes g.D.Device.account c.args.places.now.items c.args.places.now.items refl _ c.class.result c.class.ensures.answer)

pub returns-in-Big-clause-answer : goal.returns-in-Big-clause-answer
returns-in-Big-clause-answer g c =
    subst (λ (o : Order). Concludes (of_sink g.K.Sink.taken g.K.Sink.faults c.args.out.now c.big.new.out) (of_devices g.D.Device.account c.args.places.now.items c.big.new.places.items) (lead_of (Some (order_view o)))
    (MayAnswer (told_by g.F.Folder.holds g.F.Folder.faults c.args.folder.now c.args.folder.now) (Some (order_view o))) c.big.result) (sym c.in-Big.is) c.big.ensures

pub returns-in-Check-clause-asked : goal.returns-in-Check-clause-asked
returns-in-Check-clause-asked g c =
    let asked = g.F.Folder.asked in
    let holds = g.F.Folder.holds in
    let faults = g.F.Folder.faults in
    let old = c.args.folder.now in
    let new = c.check.new.folder in
    let files = told_by holds faults old new in
    subst (λ (o : Order). HasAsked asked old new (Wants files (c.check.result ≡ NoMemory) (Some (order_view o)))) (sym c.in-Check.is) c.check.ensures.asked

pub returns-in-Build-clause-asked : goal.returns-in-Build-clause-asked
returns-in-Build-clause-asked g c =
    let asked = g.F.Folder.asked in
    let holds = g.F.Folder.holds in
    let faults = g.F.Folder.faults in
    let old = c.args.folder.now in
    let new = c.build.new.folder in
    let files = told_by holds faults old new in
    subst (λ (o : Order). HasAsked asked old new (Wants files (c.build.result ≡ NoMemory) (Some (order_view o)))) (sym c.in-Build.is) c.build.ensures.asked

pub returns-in-Run-clause-asked : goal.returns-in-Run-clause-asked
returns-in-Run-clause-asked g c =
    let asked = g.F.Folder.asked in
    let holds = g.F.Folder.holds in
    let faults = g.F.Folder.faults in
    let old = c.args.folder.now in
    let new = c.run.new.folder in
    let files = told_by holds faults old new in
    subst (λ (o : Order). HasAsked asked old new (Wants files (c.run.result ≡ NoMemory) (Some (order_view o)))) (sym c.in-Run.is) c.run.ensures.asked

pub returns-in-RunHex-clause-asked : goal.returns-in-RunHex-clause-asked
returns-in-RunHex-clause-asked g c =
    let asked = g.F.Folder.asked in
    let holds = g.F.Folder.holds in
    let faults = g.F.Folder.faults in
    let old = c.args.folder.now in
    let new = c.run_hex.new.folder in
    let files = told_by holds faults old new in
    subst (λ (o : Order). HasAsked asked old new (Wants files (c.run_hex.result ≡ NoMemory) (Some (order_view o)))) (sym c.in-RunHex.is) c.run_hex.ensures.asked

pub returns-in-RunAt-clause-asked : goal.returns-in-RunAt-clause-asked
returns-in-RunAt-clause-asked g c =
    let asked = g.F.Folder.asked in
    let holds = g.F.Folder.holds in
    let faults = g.F.Folder.faults in
    let old = c.args.folder.now in
    let new = c.run_at.new.folder in
    let files = told_by holds faults old new in
    subst (λ (o : Order). HasAsked asked old new (Wants files (c.run_at.result ≡ NoMemory) (Some (order_view o)))) (sym c.in-RunAt.is) c.run_at.ensures.asked

pub returns-in-Class-clause-asked : goal.returns-in-Class-clause-asked
returns-in-Class-clause-asked g c =
    let asked = g.F.Folder.asked in
    let holds = g.F.Folder.holds in
    let faults = g.F.Folder.faults in
    let old = c.args.folder.now in
    let new = c.class.new.folder in
    let files = told_by holds faults old new in
    subst (λ (o : Order). HasAsked asked old new (Wants files (c.class.result ≡ NoMemory) (Some (order_view o)))) (sym c.in-Class.is) c.class.ensures.asked

pub returns-in-Big-clause-asked : goal.returns-in-Big-clause-asked
returns-in-Big-clause-asked g c =
    let asked = g.F.Folder.asked in
    let holds = g.F.Folder.holds in
    let faults = g.F.Folder.faults in
    let old = c.args.folder.now in
    let new = c.args.folder.now in
    let files = told_by holds faults old new in
    subst (λ (o : Order). HasAsked asked old new (Wants files (c.big.result ≡ NoMemory) (Some (order_view o)))) (sym c.in-Big.is) (asked-none asked old wants_none refl)
