-- Each image comes to show the tables after the change, and behind the last one there are none.
use Rattle.std.proofs.Common.{ℕ, refl, ap, subst, arith}
use Rattle.std.specs.Prelude.{List, Option}
use Rattle.std.proofs.Math.Logic.{∥∥₁_map}
use Rattle.rss_base.specs.Listings.{numbered, relation_at}
use Rattle.rss_base.specs.declared.key.PageKey.{PageKey}
use Rattle.rss_base.specs.declared.relation.RelationEntry.{RelationEntry}
use Rattle.rss_base.proofs.Steps.{rests, then, then_call, among, within, fails, widens}
use Rattle.rss_catalog.specs.Catalogs.{CatalogView}
use Rattle.rss_access.specs.Changes.{image_pages_of}
use Rattle.rss_access.specs.Moved.{image_cost}
use Rattle.rss_access.specs.Relisted.{Rerooted}
use Rattle.rss_access.proofs.ImageMoves.{shows_none_yet, shows_them_all, stays_then}
use Rattle.rss_access.proofs.Rerooting.{rerooted_itself}
use Rattle.rss_access.proofs.Rooted.{rerooted_then}
use Rattle.rss_access.proofs.moving.move_images.Goals as goal

-- the relation's image pages are the same
same_pages : {old now : CatalogView} → Rerooted old now → (number : ℕ) (key : PageKey) → image_pages_of (relation_at now.listing number) key → image_pages_of (relation_at old.listing number) key
same_pages rerooted number key touched = subst (λ (relation : Option RelationEntry). image_pages_of relation key) (ap (λ (relations : List (Option RelationEntry)). numbered relations number) rerooted.relations) touched

pub loop-place-init : goal.loop-place-init
loop-place-init g c = record {
  rerooted = rerooted_itself c.args.catalog.now;
  step = rests (g.P.Pages.view c.args.pages.now);
  shows = λ disk move tables shows. shows_none_yet shows;
  nodes = λ disk move tables shows slots named within. within;
  stays = λ keeps. record { pages = rests (g.P.Pages.view c.args.pages.now); catalog = refl };
}

pub move_at-requires-clause-may : goal.move_at-requires-clause-may
move_at-requires-clause-may g c = λ disk.
    let told = c.loop-place.invariant.step.passes.leaves.told.1 disk in
    ∥∥₁_map (c.requires.may told) (λ may. record { move = may.move; tables = may.tables; shows = c.loop-place.invariant.shows told may.move may.tables may.shows })

pub returns-in_err-move_at-clause-did : goal.returns-in_err-move_at-clause-did
returns-in_err-move_at-clause-did g c =
    fails _ c.from_residual.ensures.1 (λ key touched. touched) (omega arith) (omega arith)
    (then_call {asks_then = image_cost} {outs_then = image_cost} c.loop-place.invariant.step (widens (same_pages c.loop-place.invariant.rerooted c.args.change.number) (omega arith) (omega arith) c.in_err-move_at.ensures.did))

pub loop-place-preserved : goal.loop-place-preserved
loop-place-preserved g c = record {
  rerooted = rerooted_then c.loop-place.invariant.rerooted c.in_ok-move_at.ensures.rerooted;
  step = within (λ key touched. touched) (omega arith) (omega arith) (then c.loop-place.invariant.step (among (same_pages c.loop-place.invariant.rerooted c.args.change.number) c.in_ok-move_at.ensures.did.step));
  shows = λ disk move tables shows. c.in_ok-move_at.ensures.moves (c.loop-place.invariant.step.passes.leaves.told.0 disk) move tables (c.loop-place.invariant.shows disk move tables shows);
  nodes = λ disk move tables shows slots named within.
      c.in_ok-move_at.ensures.nodes (c.loop-place.invariant.step.passes.leaves.told.0 disk) move tables (c.loop-place.invariant.shows disk move tables shows) slots named (c.loop-place.invariant.nodes disk move tables shows slots named within);
  stays = λ keeps. stays_then (c.loop-place.invariant.stays keeps) keeps c.in_ok-move_at.ensures.stays;
}

pub returns-clause-moves : goal.returns-clause-moves
returns-clause-moves g c = λ disk move tables shows.
    shows_them_all c.loop-place.invariant.rerooted c.last_image-place-end.ensures.none (omega arith) (c.loop-place.invariant.shows disk move tables shows)

pub returns-in_err-move_at-clause-stays : goal.returns-in_err-move_at-clause-stays
returns-in_err-move_at-clause-stays g c = λ keeps. stays_then (c.loop-place.invariant.stays keeps) keeps c.in_err-move_at.ensures.stays
