-- An image of another relation shows the tables after the change as well.
use Rattle.std.proofs.Common.{refl, sym, ◌∙◌}
use Rattle.std.proofs.lemmas.Bool.{false≢true}
use Rattle.rss_base.proofs.Steps.{rests}
use Rattle.rss_access.proofs.ImageMoves.{shows_another}
use Rattle.rss_access.proofs.moving.move_at.Goals as goal

pub returns-else-is_image_of-clause-moves : goal.returns-else-is_image_of-clause-moves
returns-else-is_image_of-clause-moves g c = λ disk move tables shows. shows_another c.args.change (λ is. false≢true (sym c.if-is_image_of.false ∙ c.is_image_of.ensures.1 is)) shows

pub returns-else-is_image_of-clause-nodes : goal.returns-else-is_image_of-clause-nodes
returns-else-is_image_of-clause-nodes g c = λ disk move tables shows slots named within. within

pub returns-else-is_image_of-clause-stays : goal.returns-else-is_image_of-clause-stays
returns-else-is_image_of-clause-stays g c = λ keeps. record { pages = rests (g.P.Pages.view c.args.pages.now); catalog = refl }
