use Rattle.irq_arrival.proofs.Reaching as reaching
use Rattle.irq_arrival.proofs.sources.sources_meet_arrivals.Goals as goal

pub returns-clause-reaches : goal.returns-clause-reaches
returns-clause-reaches c P texts image until script arrivals budget executed free implements rises e = reaching.reaches P texts image implements until script arrivals rises free budget executed e

pub returns-clause-faultless : goal.returns-clause-faultless
returns-clause-faultless c P texts image until script arrivals executed free implements rises = reaching.faultless P texts image implements until script arrivals rises free executed
