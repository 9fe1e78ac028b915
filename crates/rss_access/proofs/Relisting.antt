-- What a change of any kind leaves of the listing: the same definitions, and counts that are one more at most.
use Rattle.std.proofs.Common.{◌≡◌, inl, inr, ℕ, zero, suc, ◌+◌, ◌-◌, ◌≤◌, List, [], ◌∷◌, get_or, refl, sym, ◌∙◌, ap, subst, arith}
use Rattle.std.specs.Prelude.{Option, Some, None, option_map, slice_set, map as list_map}
use Rattle.std.proofs.lemmas.Option.{none-some}
use Rattle.rss_base.specs.Listings.{Listing, numbered, relation_at, with_count}
use Rattle.rss_base.specs.declared.relation.RelationEntry.{RelationEntry}
use Rattle.rss_base.specs.declared.link.LinkEntry.{LinkEntry}
use Rattle.rss_base.specs.declared.change.Change as told
use Rattle.rss_base.specs.declared.change.Change.TheVariants.{Insert, Delete, Update, Connect, Disconnect}
use Rattle.rss_catalog.specs.Catalogs.{CatalogView}
use Rattle.rss_model.specs.Meanings.{endless, SameDefinitions}
use Rattle.rss_stored.proofs.Listed.{at_place}
use Rattle.rss_access.specs.Told.{IsTupleRecord, number_told, count_after}
use Rattle.rss_access.specs.Relisted.{Recounted, Relists, counted_at, relations_after}
use Rattle.rss_access.proofs.Numbered.{counted_or_old}

-- ---- a change of a tuple

counted_is : (told_change : told.Change) → IsTupleRecord told_change → (listing : Listing) → relations_after told_change listing ≡ counted_at told_change listing (relation_at listing (number_told told_change))
counted_is (Insert number tid values) is listing = refl
counted_is (Delete number tid values) is listing = refl
counted_is (Update number tid from to) is listing = refl
counted_is (Connect link parent child left) is listing = absurd is
counted_is (Disconnect link parent child left) is listing = absurd is

pub relists_counted : {old new : CatalogView} (told_change : told.Change) → IsTupleRecord told_change → {relation : RelationEntry} → relation_at old.listing (number_told told_change) ≡ Some relation → Recounted (number_told told_change) (count_after told_change relation.live) relation old new → Relists told_change old new
relists_counted {old = old} told_change is listed counts = record {
  segments = counts.segments;
  relations = counts.relations ∙ sym (counted_is told_change is old.listing ∙ ap (counted_at told_change old.listing) listed);
  images = counts.images;
  links = ap (λ (links : List (Option LinkEntry)). list_map (option_map endless) links) counts.links;
  keeps = counts.keeps;
  fits = counts.fits;
}

-- ---- the same is defined

abbrev countless : List (Option RelationEntry) → List (Option RelationEntry)
countless relations = list_map (option_map (with_count 0)) relations

set_countless : (relations : List (Option RelationEntry)) (k : ℕ) (live : ℕ) (relation : RelationEntry) → get_or relations k None ≡ Some relation → countless (slice_set relations k (Some (with_count live relation))) ≡ countless relations
set_countless [] k live relation at = absurd (none-some relation at)
set_countless (first ∷ relations) zero live relation at = ap (λ (o : Option RelationEntry). option_map (with_count 0) o ∷ countless relations) (sym at)
set_countless (first ∷ relations) (suc k) live relation at = ap (λ (l : List (Option RelationEntry)). option_map (with_count 0) first ∷ l) (set_countless relations k live relation at)

number_countless : (relations : List (Option RelationEntry)) (number live : ℕ) (relation : RelationEntry) → numbered relations number ≡ Some relation → countless (slice_set relations (number - 1) (Some (with_count live relation))) ≡ countless relations
number_countless relations zero live relation at = absurd (none-some relation at)
number_countless relations (suc k) live relation at =
    let place : suc k - 1 ≡ k = omega arith in
    ap (λ (j : ℕ). countless (slice_set relations j (Some (with_count live relation)))) place ∙ set_countless relations k live relation (sym (at_place relations k) ∙ at)

counted_countless : (told_change : told.Change) (listing : Listing) (found : Option RelationEntry) → relation_at listing (number_told told_change) ≡ found → countless (counted_at told_change listing found) ≡ countless listing.relations
counted_countless told_change listing None at = refl
counted_countless told_change listing (Some relation) at = number_countless listing.relations (number_told told_change) (count_after told_change relation.live) relation at

relations_same : (told_change : told.Change) (listing : Listing) → countless (relations_after told_change listing) ≡ countless listing.relations
relations_same (Insert number tid values) listing = counted_countless (Insert number tid values) listing (relation_at listing number) refl
relations_same (Delete number tid values) listing = counted_countless (Delete number tid values) listing (relation_at listing number) refl
relations_same (Update number tid from to) listing = counted_countless (Update number tid from to) listing (relation_at listing number) refl
relations_same (Connect link parent child left) listing = refl
relations_same (Disconnect link parent child left) listing = refl

pub relists_same : {told_change : told.Change} {old new : CatalogView} → Relists told_change old new → SameDefinitions old.listing new.listing
relists_same {told_change = told_change} {old = old} relists = record {
  segments = relists.segments;
  relations = ap countless relists.relations ∙ relations_same told_change old.listing;
  images = relists.images;
  links = relists.links;
}

-- ---- by number

-- The relation that is listed now was listed, with a count that is one less at least; and where the change isn't one of its tuples, with the same.
pub record WasCounted (told_change : told.Change) (old : Listing) (number : ℕ) (entry : RelationEntry) : Type 0 where
  pub was : RelationEntry
  pub at : relation_at old number ≡ Some was
  pub is : entry ≡ with_count entry.live was
  pub few : entry.live ≤ was.live + 1
  pub same : (IsTupleRecord told_change → number ≡ number_told told_change → ⊥) → entry ≡ was

one_more : (told_change : told.Change) (live : ℕ) → count_after told_change live ≤ live + 1
one_more (Insert number tid values) live = omega arith
one_more (Delete number tid values) live = omega arith
one_more (Update number tid from to) live = omega arith
one_more (Connect link parent child left) live = omega arith
one_more (Disconnect link parent child left) live = omega arith

was_itself : (told_change : told.Change) (old : Listing) (number : ℕ) (entry : RelationEntry) → relation_at old number ≡ Some entry → WasCounted told_change old number entry
was_itself told_change old number entry at = record { was = entry; at = at; is = refl; few = omega arith; same = λ not. refl }

was_counted : (told_change : told.Change) (listing : Listing) (found : Option RelationEntry) → IsTupleRecord told_change → relation_at listing (number_told told_change) ≡ found → (number : ℕ) (entry : RelationEntry) → numbered (counted_at told_change listing found) number ≡ Some entry → WasCounted told_change listing number entry
was_counted told_change listing None of at number entry there = was_itself told_change listing number entry there
was_counted told_change listing (Some relation) of at number entry there = elim (counted_or_old listing (number_told told_change) (count_after told_change relation.live) relation at number entry there) [
  | inl here ↦ subst (WasCounted told_change listing number) here.1 (record {
    was = relation;
    at = ap (relation_at listing) here.0 ∙ at;
    is = refl;
    few = one_more told_change relation.live;
    same = λ not. absurd (not of here.0);
  })
  | inr kept ↦ was_itself told_change listing number entry kept.1
]

was_after : (told_change : told.Change) (listing : Listing) (number : ℕ) (entry : RelationEntry) → numbered (relations_after told_change listing) number ≡ Some entry → WasCounted told_change listing number entry
was_after (Insert n tid values) listing = was_counted (Insert n tid values) listing (relation_at listing n) tt refl
was_after (Delete n tid values) listing = was_counted (Delete n tid values) listing (relation_at listing n) tt refl
was_after (Update n tid from to) listing = was_counted (Update n tid from to) listing (relation_at listing n) tt refl
was_after (Connect link parent child left) listing = was_itself (Connect link parent child left) listing
was_after (Disconnect link parent child left) listing = was_itself (Disconnect link parent child left) listing

pub relists_at : {told_change : told.Change} {old new : CatalogView} → Relists told_change old new → (number : ℕ) (entry : RelationEntry) → relation_at new.listing number ≡ Some entry → WasCounted told_change old.listing number entry
relists_at {told_change = told_change} {old = old} relists number entry there =
    was_after told_change old.listing number entry (ap (λ (l : List (Option RelationEntry)). numbered l number) (sym relists.relations) ∙ there)
