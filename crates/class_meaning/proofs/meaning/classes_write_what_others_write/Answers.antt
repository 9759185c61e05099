use Rattle.class_meaning.proofs.Above.{means_whole, means_cut}
use Rattle.class_meaning.proofs.meaning.classes_write_what_others_write.Goals as goal

pub returns-clause-whole : goal.returns-clause-whole
returns-clause-whole g c bound members L budget text pairs w = means_whole bound members L budget text pairs w

pub returns-clause-cut : goal.returns-clause-cut
returns-clause-cut g c bound members L budget text pairs w = means_cut bound members L budget text pairs w
