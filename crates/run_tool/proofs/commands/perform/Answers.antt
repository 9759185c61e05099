use Rattle.std.proofs.Common.{◌≡◌, subst, sym, refl, ap, None, map, []}
use Rattle.std.specs.Option.{option_map}
use Rattle.std.specs.Prelude.{Option, Some}
use Rattle.std.specs.String.{string_bytes}
use Rattle.sts_words.specs.Orders.{Asked, order_view}
use Rattle.sts_words.specs.Words.{IsAskedBy}
use Rattle.sts_words.proofs.Laws.{one-asked}
use Rattle.run_tool.specs.Answers.{Concludes, of_devices, of_sink}
use Rattle.run_tool.specs.Orders.{MayAnswer, lead_of}
use Rattle.run_tool.proofs.Endings.{says-concludes, order-concludes}
use Rattle.run_tool.specs.declared.ending.Ending.TheVariants.{NoMemory}
use Rattle.run_tool.specs.Wanted.{HasAsked, Wants}
use Rattle.run_tool.proofs.Wanting.{asked-none, lacks-all}
use Rattle.run_tool.specs.Files.{told_by}
use Rattle.run_tool.proofs.commands.perform.Goals as goal

pub returns-in-Ok-None-clause-answer : goal.returns-in-Ok-None-clause-answer
returns-in-Ok-None-clause-answer g c = λ asked is.
    let files = told_by g.F.Folder.holds g.F.Folder.faults c.args.folder.now c.args.folder.now in
    let words = map string_bytes c.args.words.now in
    let none : asked ≡ None = one-asked words asked None is (subst (λ (o : Option Asked). IsAskedBy words o) (ap (option_map order_view) c.in-Ok-None.field-0-is) c.in-Ok-None.ensures.order) in
    subst (λ (o : Option Asked). Concludes (of_sink g.K.Sink.taken g.K.Sink.faults c.args.out.now c.say.new.out) (of_devices g.D.Device.account c.args.places.now.items c.args.places.now.items) (lead_of o) (MayAnswer files o) c.say.result)
    (sym none)
    (says-concludes g.D.Device.account c.args.places.now.items c.args.places.now.items refl (MayAnswer files None) c.say.result c.say.ensures.answer)

pub returns-in-Ok-Some-clause-answer : goal.returns-in-Ok-Some-clause-answer
returns-in-Ok-Some-clause-answer g c = λ asked is.
    let words = map string_bytes c.args.words.now in
    let some : Some (order_view c.in-Ok-Some.order) ≡ asked =
    one-asked words (Some (order_view c.in-Ok-Some.order)) asked (subst (λ (o : Option Asked). IsAskedBy words o) (ap (option_map order_view) c.in-Ok-Some.field-0-is) c.in-Ok-Some.ensures.order) is in
    order-concludes (told_by g.F.Folder.holds g.F.Folder.faults c.args.folder.now c.perform_order.new.folder)
    asked (order_view c.in-Ok-Some.order) c.perform_order.result some c.perform_order.ensures.answer

pub returns-in-Ok-None-clause-asked : goal.returns-in-Ok-None-clause-asked
returns-in-Ok-None-clause-asked g c = λ order is.
    let asked = g.F.Folder.asked in
    let holds = g.F.Folder.holds in
    let faults = g.F.Folder.faults in
    let old = c.args.folder.now in
    let new = c.args.folder.now in
    let files = told_by holds faults old new in
    let words = map string_bytes c.args.words.now in
    let none : order ≡ None = one-asked words order None is (subst (λ (o : Option Asked). IsAskedBy words o) (ap (option_map order_view) c.in-Ok-None.field-0-is) c.in-Ok-None.ensures.order) in
    let lacking = c.say.result ≡ NoMemory in
    asked-none asked old (Wants files lacking order) (subst (λ (o : Option Asked). Wants files lacking o []) (sym none) refl)

pub returns-in-Ok-Some-clause-asked : goal.returns-in-Ok-Some-clause-asked
returns-in-Ok-Some-clause-asked g c = λ order is.
    let asked = g.F.Folder.asked in
    let holds = g.F.Folder.holds in
    let faults = g.F.Folder.faults in
    let old = c.args.folder.now in
    let new = c.perform_order.new.folder in
    let files = told_by holds faults old new in
    let words = map string_bytes c.args.words.now in
    let some : Some (order_view c.in-Ok-Some.order) ≡ order =
    one-asked words (Some (order_view c.in-Ok-Some.order)) order (subst (λ (o : Option Asked). IsAskedBy words o) (ap (option_map order_view) c.in-Ok-Some.field-0-is) c.in-Ok-Some.ensures.order) is in
    subst (λ (o : Option Asked). HasAsked asked old new (Wants files (c.perform_order.result ≡ NoMemory) o)) some c.perform_order.ensures.asked

pub returns-in-Err-clause-asked : goal.returns-in-Err-clause-asked
returns-in-Err-clause-asked g c = λ order is.
    let asked = g.F.Folder.asked in
    let holds = g.F.Folder.holds in
    let faults = g.F.Folder.faults in
    let old = c.args.folder.now in
    let new = c.args.folder.now in
    let files = told_by holds faults old new in
    asked-none asked old (Wants files (NoMemory ≡ NoMemory) order) (lacks-all files (NoMemory ≡ NoMemory) order refl)

pub returns-in-Ok-Some-clause-usage : goal.returns-in-Ok-Some-clause-usage
returns-in-Ok-Some-clause-usage g c = λ is.
    let words = map string_bytes c.args.words.now in
    let some : Some (order_view c.in-Ok-Some.order) ≡ None =
    one-asked words (Some (order_view c.in-Ok-Some.order)) None (subst (λ (o : Option Asked). IsAskedBy words o) (ap (option_map order_view) c.in-Ok-Some.field-0-is) c.in-Ok-Some.ensures.order) is in
    absurd (cc)
