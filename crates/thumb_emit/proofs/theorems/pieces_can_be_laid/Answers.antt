use Rattle.thumb_emit.proofs.Once.{function_sound, function_words}
use Rattle.thumb_emit.proofs.theorems.pieces_can_be_laid.Goals as goal

pub returns-clause-sound : goal.returns-clause-sound
returns-clause-sound c = function_sound

pub returns-clause-words : goal.returns-clause-words
returns-clause-words c = function_words
