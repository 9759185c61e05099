use Rattle.typed_laws.proofs.Chains.{endless_comes_back, back_is_endless}
use Rattle.typed_laws.proofs.bases.endless_chains_come_back.Goals as goal

pub returns : goal.returns
returns g = λ classes c bases near. (endless_comes_back classes bases c near, back_is_endless classes c)
