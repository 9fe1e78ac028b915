-- Definitions that may be listed are such as a store of any version may have.
use Rattle.std.proofs.Common.{◌≡◌, ℕ, false, List, [], ◌∷◌, refl, ap, arith}
use Rattle.std.specs.Prelude.{All}
use Rattle.std.proofs.lemmas.List.Elements.{All-head, All-tail}
use Rattle.std.proofs.lemmas.List.Sums.{sum_by-cons}
use Rattle.rss_base.specs.Listings.{Listing, ListingFits, SuitsVersion, added_count}
use Rattle.rss_base.specs.TupleTypes.{is_added}
use Rattle.rss_base.specs.declared.field.FieldDef.{FieldDef}
use Rattle.rss_model.proofs.Counts.{one_if}

-- none of the original fields was added
added_none : (fields : List FieldDef) → All (λ field. field.added ≡ false) fields → added_count fields ≡ 0
added_none [] original = refl
added_none (field ∷ fields) original =
    omega (
      arith,
      sum_by-cons (λ (f : FieldDef). one_if (is_added f)) field fields,
      ap one_if (All-head (λ (f : FieldDef). f.added ≡ false) field fields original),
      added_none fields (All-tail (λ (f : FieldDef). f.added ≡ false) field fields original),
    )

-- all fields are original ones, and no link is late
pub suits_any : (version : ℕ) {listing : Listing} → ListingFits listing → SuitsVersion version listing
suits_any version fits = record {
  fields = λ low number relation at. added_none relation.fields (fits.relations number relation at).fields.original;
  links = λ low number link at. (fits.paths.links number link at).early;
}
