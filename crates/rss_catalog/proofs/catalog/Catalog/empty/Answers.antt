-- Where there is nothing, each place has none.
use Rattle.std.proofs.Common.{ap, length, replicate, false, arith}
use Rattle.rss_catalog.specs.Checking.{listing_of}
use Rattle.rss_catalog.proofs.Plain.{none_of, none_at}
use Rattle.rss_catalog.proofs.catalog.Catalog.empty.Goals as goal

pub invariant_of-result : goal.invariant_of-result
invariant_of-result c =
    let relations = c.in_ok-free_places-2.ensures in
    let images = c.in_ok-free_places-3.ensures in
    let links = c.in_ok-free_places-4.ensures in (
      ap length c.in_ok-free_places.ensures,
      (
        ap length relations,
        (
          (λ number relation is. absurd (none_of _ 48 number relation relations is)),
          (ap length images, ((λ number image is. absurd (none_of _ 128 number image images is)), ((λ number past. none_at _ 128 number images), (omega arith, (ap length links, ((λ number link is. absurd (none_of _ 64 number link links is)), ((λ number past. none_at _ 64 number links), (omega arith, ((λ low. absurd (omega (arith, low))), tt))))))))),
        ),
      ),
    )

pub returns : goal.returns
returns c = λ i. record { listing = listing_of (c.in_ok-free_places.ensures i) (c.in_ok-free_places-2.ensures i) (c.in_ok-free_places-3.ensures i) (c.in_ok-free_places-4.ensures i); pending = replicate 10 false }
