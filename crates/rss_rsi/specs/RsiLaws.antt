-- What every store that is up meets.
use Rattle.std.proofs.Common.{ℕ, List, Option, Some, None, sym, ◌∙◌}
use Rattle.std.proofs.Props.{props}
use Rattle.rss_base.specs.DiskRule.{Pages, Leaves}
use Rattle.rss_base.specs.Paged.{HasFixed, mapped_of}
use Rattle.rss_base.specs.StoredPages.{mapped_by}
use Rattle.rss_base.specs.Listings.{Listing}
use Rattle.rss_base.specs.declared.tid.Tid.{Tid}
use Rattle.rss_base.specs.declared.key.Space.TheVariants.{Overflow}
use Rattle.rss_model.specs.Machine.{State}
use Rattle.rss_stored.specs.Store.{HoldsState}
use Rattle.rss_stored.proofs.Stores.{same_overflow}
use Rattle.rss_scan.specs.declared.cursor.Path.{Path}
use Rattle.rss_scan.specs.declared.cursor.Path.TheVariants.{Relation, Image, Link}
use Rattle.rss_rsi.specs.Views.{RssParts, IsIn, AreLong}

-- any two proofs that a scan's keys are long are equal
pub AreLong-prop : (listing : Listing) (path : Path) (last : Option (List ℕ × Tid)) → IsProp (AreLong listing path last)
AreLong-prop listing (Relation relation) last = hlevel props
AreLong-prop listing (Image image start) None = hlevel props
AreLong-prop listing (Image image start) (Some given) = hlevel props
AreLong-prop listing (Link link parent) last = hlevel props

-- In each state that the store may be in, a stop leaves its committed tables; and behind a checkpoint, the overflow pages that it counts.
pub opens_shown : {parts : RssParts} {state : State} → IsIn parts state
    → ((image : Pages) → Leaves parts.session.store.pages.disk image → HasFixed parts.session.store.pages.fixed image) → (image : Pages) → Leaves parts.session.store.pages.disk image → HoldsState image state
opens_shown {state = state} shown fixed image left =
    let disk = shown.shows.store.disk in
    let store = disk.fixes image (fixed image left) in
    record {
      opens = record {
        stored = shown.shows.store.stored;
        store = store;
        same_size = shown.shows.store.tied.size;
        holds = sym shown.shows.store.tied.tables;
      };
      over = λ rests all other is. shown.shows.rested rests all
          ∙ (λ i. mapped_of (mapped_by (sym disk.owners_are i)) Overflow (sym disk.root_is i).slots)
          ∙ same_overflow store is;
    }
