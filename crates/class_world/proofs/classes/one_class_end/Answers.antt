use Rattle.class_world.proofs.Texts.{not_both, one_cut}
use Rattle.class_world.proofs.classes.one_class_end.Goals as goal

pub returns-clause-whole : goal.returns-clause-whole
returns-clause-whole g c C n ps first rest here order w within f s = not_both C n ps first rest here order w within f s

pub returns-clause-cut : goal.returns-clause-cut
returns-clause-cut g c C n first rest first' rest' here here' order f f' s s' within within' =
    one_cut C n first rest first' rest' here here' order f f' s s' within within'
