use Rattle.message_bus.proofs.Keeping.{dispatch-agrees, raise_now-agrees, listens-agrees, ends-agrees}
use Rattle.message_bus.proofs.agreement.moves_agree.Goals as goal

pub returns-clause-dispatch : goal.returns-clause-dispatch
returns-clause-dispatch g c K e rest b w h = dispatch-agrees K e rest b w h

pub returns-clause-raise_now : goal.returns-clause-raise_now
returns-clause-raise_now g c K a others e above self shared b w h first fits = raise_now-agrees K a others e above self shared b w h first fits

pub returns-clause-listen : goal.returns-clause-listen
returns-clause-listen g c K a others l self shared b w h first room = listens-agrees K a others l self shared b w h first room

pub returns-clause-end : goal.returns-clause-end
returns-clause-end g c a others again shared i b w h first names = ends-agrees a others again shared i b w h first names
