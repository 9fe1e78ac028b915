use Rattle.std.proofs.Common.{sym, ◌∙◌, arith}
use Rattle.std.proofs.lemmas.Bool.{true≢false}
use Rattle.rss_base.proofs.Steps.{fails, done, among}
use Rattle.rss_access.proofs.Making.{none_moves}
use Rattle.rss_access.proofs.applying.move_entries.Goals as goal

pub move_images-requires-clause-may : goal.move_images-requires-clause-may
move_images-requires-clause-may g c = c.requires.may

pub returns-in_err-move_images-clause-did : goal.returns-in_err-move_images-clause-did
returns-in_err-move_images-clause-did g c =
    let has = c.has_image_of.ensures.0 c.if-has_image_of.true in
    fails _ c.from_residual.ensures.1 (λ key is. (is, has)) (omega arith) (omega arith) c.in_err-move_images.ensures.did

pub returns-in_ok-move_images-clause-did : goal.returns-in_ok-move_images-clause-did
returns-in_ok-move_images-clause-did g c =
    let has = c.has_image_of.ensures.0 c.if-has_image_of.true in
    done _ (among (λ key is. (is, has)) c.in_ok-move_images.ensures.did.step)

pub returns-else-has_image_of-clause-moves : goal.returns-else-has_image_of-clause-moves
returns-else-has_image_of-clause-moves g c = λ told. none_moves (g.P.Pages.view c.args.pages.now) c.args.catalog.now c.args.change (λ has. true≢false (sym (c.has_image_of.ensures.1 has) ∙ c.if-has_image_of.false))

pub returns-else-has_image_of-clause-nodes : goal.returns-else-has_image_of-clause-nodes
returns-else-has_image_of-clause-nodes g c = λ told move tables shows slots named within. within
