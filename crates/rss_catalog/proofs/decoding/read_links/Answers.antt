-- One piece more is read, and stands behind the others.
use Rattle.std.proofs.Common.{◌∙◌, ◌++◌, ap, sym, refl, ℕ, List}
use Rattle.std.proofs.lemmas.List.{append-nil}
use Rattle.std.specs.Prelude.{map}
use Rattle.rss_catalog.specs.Reading.{link_of}
use Rattle.rss_catalog.proofs.Pieces.{pieces_none, piece_behind}
use Rattle.rss_catalog.proofs.decoding.read_links.Goals as goal

pub loop-place-init : goal.loop-place-init
loop-place-init c = sym (ap (λ (l : List (List ℕ)). c.args.links.now.items ++ map link_of l) (pieces_none 64 c.args.page.now) ∙ append-nil c.args.links.now.items)

pub loop-place-preserved : goal.loop-place-preserved
loop-place-preserved c = piece_behind link_of 64 c.loop-place.place _ c.args.page.now c.args.links.now.items _ _ _ c.loop-place.invariant c.in_ok-push.ensures.items refl c.read_link.ensures
