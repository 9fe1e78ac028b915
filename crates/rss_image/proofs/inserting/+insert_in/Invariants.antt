use Rattle.rss_image.proofs.inserting.+insert_in.Given as goal

abbrev pub decreases-insert_in : goal.decreases-insert_in
decreases-insert_in g l = l.level
