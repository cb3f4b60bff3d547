use Rattle.og_image.proofs.image.+number.Given as goal

abbrev pub decreases-number : goal.decreases-number
decreases-number l = l.width
