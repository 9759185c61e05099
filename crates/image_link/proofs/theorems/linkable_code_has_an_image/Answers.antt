use Rattle.image_link.proofs.Written.{written_bytes}
use Rattle.image_link.proofs.LinkedBytes.{linked}
use Rattle.image_link.proofs.theorems.linkable_code_has_an_image.Goals as goal

pub returns : goal.returns
returns c laid code texts h = (written_bytes laid code texts, linked laid code texts h.fixes)
