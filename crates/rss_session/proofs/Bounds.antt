-- How many pages images may have, by the numbers of their relations.
use Rattle.std.proofs.Common.{◌≡◌, ℕ, ◌<◌, ◌^◌, List, refl, sym, ◌∙◌, ap, arith}
use Rattle.std.specs.Prelude.{Option, Some, None, option_map, sum_by}
use Rattle.rss_base.specs.Listings.{Listing, numbered, relation_at, with_count}
use Rattle.rss_base.specs.declared.image.ImageEntry.{ImageEntry}
use Rattle.rss_base.specs.declared.relation.RelationEntry.{RelationEntry}
use Rattle.rss_catalog.proofs.Numbered.{numbered_map}
use Rattle.rss_model.specs.Meanings.{SameDefinitions}
use Rattle.rss_model.specs.Spares.{ChangeCounts, PageCounts, bound_by, bound_at, listed_bound, IsInSession}
use Rattle.rss_stored.proofs.ImageRooms.{bound_rises}
use Rattle.rss_restart.proofs.Rooming.{rootless_bounds}
use Rattle.rss_session.specs.Sessions.{few}

pub few_is : (n : ℕ) → n < 2 ^ 32 → few n ≡ n
few_is n low = omega (arith, low)

-- it goes by the numbers of relations that are listed alone
pub bound_same : (listing : Listing) (one other : ℕ → ℕ) → ((number : ℕ) (relation : RelationEntry) → relation_at listing number ≡ Some relation → one number ≡ other number) → listed_bound listing one ≡ listed_bound listing other
bound_same listing one other same =
    let low = bound_rises listing one other (λ number relation at. omega (arith, same number relation at)) in
    let high = bound_rises listing other one (λ number relation at. omega (arith, same number relation at)) in
    omega (arith, low, high)

-- the pages of a session go by the other counts alone
pub session_of : {one other : ChangeCounts} {listed : ℕ} {pages : PageCounts} → other.heap ≡ one.heap → other.surviving ≡ one.surviving → other.since ≡ one.since → IsInSession one listed pages → IsInSession other listed pages
session_of heap surviving since is = record {
  most = omega (arith, is.most, surviving, since);
  made = record {
    before = omega (arith, is.made.before, heap);
    now = omega (arith, is.made.now, heap, surviving, since);
    all = is.made.all;
  };
}

-- ---- the same definitions

-- neither where an image's tree stands matters, nor how many tuples its relation has
countless_one : (entries : ℕ → ℕ) (image : ImageEntry) (relation : Option RelationEntry) → bound_by entries image (option_map (with_count 0) relation) ≡ bound_by entries image relation
countless_one entries image None = refl
countless_one entries image (Some relation) = refl

pub bound_still : {one other : Listing} → SameDefinitions one other → (entries : ℕ → ℕ) → listed_bound other entries ≡ listed_bound one entries
bound_still {one = one} {other = other} same entries =
    ap (λ (bound : Option ImageEntry → ℕ). sum_by bound other.images) (λ i image. relations image i)
    ∙ sym (rootless_bounds one entries other.images)
    ∙ ap (sum_by (bound_at one entries)) same.images
    ∙ rootless_bounds one entries one.images
  where
    its : (number : ℕ) → option_map (with_count 0) (relation_at other number) ≡ option_map (with_count 0) (relation_at one number)
    its number =
        sym (numbered_map (with_count 0) other.relations number)
        ∙ ap (λ (relations : List (Option RelationEntry)). numbered relations number) same.relations
        ∙ numbered_map (with_count 0) one.relations number

    relations : (image : Option ImageEntry) → bound_at other entries image ≡ bound_at one entries image
    relations None = refl
    relations (Some image) =
        sym (countless_one entries image (relation_at other image.relation))
        ∙ ap (bound_by entries image) (its image.relation)
        ∙ countless_one entries image (relation_at one image.relation)
