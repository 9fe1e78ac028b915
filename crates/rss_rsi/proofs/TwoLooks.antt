-- Two looks for an identifier, one behind the other: what the second finds, it would have found first.
use Rattle.std.proofs.Common.{◌≡◌, ℕ, ◌+◌, ◌≤◌, List, sym, ◌∙◌, ap, subst, arith}
use Rattle.std.specs.Prelude.{Ok}
use Rattle.rss_base.specs.Listings.{relation_at}
use Rattle.rss_base.specs.Paged.{Held, Mapped, page_key}
use Rattle.rss_base.specs.Steps.{PagesView}
use Rattle.rss_base.specs.declared.key.Space.TheVariants.{Home}
use Rattle.rss_base.specs.declared.relation.RelationEntry.{RelationEntry}
use Rattle.rss_base.specs.declared.tid.Tid.{Tid}
use Rattle.rss_catalog.specs.Catalogs.{CatalogView}
use Rattle.rss_base.specs.Sizes.{bodies_room}
use Rattle.rss_page.specs.Slotted.{body_bytes}
use Rattle.rss_tuple.specs.Directory.{contents}
use Rattle.rss_tuple.specs.Placing.{Wanted, IsOpen, IsSpot, IsNew, IsChosen, IsNameable, in_room, on_new, by_entry}
use Rattle.rss_tuple.specs.TupleSteps.{IsLeast}
use Rattle.rss_session.specs.Looks.{LooksOn, KeepsPages, IsRelationIn, IsPlace, HasNoPlace}
use Rattle.rss_session.specs.Sessions.{SessionView, IsReady}

-- ---- identifiers in pages that hold the same

-- what there is to see of pages that hold the same
record AreSame (one other : PagesView) : Type 0 where
  pub slots : other.slots ≡ one.slots
  pub mapped : other.mapped ≡ one.mapped
  pub held : other.held ≡ one.held

same_back : {one other : PagesView} → AreSame one other → AreSame other one
same_back same = record { slots = sym same.slots; mapped = sym same.mapped; held = sym same.held }

spot_same : {one other : PagesView} {wanted : Wanted} {tid : Tid} → AreSame one other → IsSpot one wanted tid → IsSpot other wanted tid
spot_same {wanted = wanted} {tid = tid} same spot =
    let key = page_key wanted.segment wanted.space tid.page in record {
      mapped = ap (λ (mapped : Mapped). mapped key) same.mapped ∙ spot.mapped;
      bytes = subst (λ (held : Held). body_bytes (contents held key) + wanted.length ≤ bodies_room) (sym same.held) spot.bytes;
      open_there = subst (λ (held : Held). IsOpen (contents held key) wanted.barred tid) (sym same.held) spot.open_there;
    }

new_same : {one other : PagesView} {segment : ℕ} {barred : List Tid} {tid : Tid} → AreSame one other → IsNew one segment barred tid → IsNew other segment barred tid
new_same {segment = segment} {tid = tid} same new = record {
  within = omega (arith, new.within, same.slots);
  unmapped = ap (λ (mapped : Mapped). mapped (page_key segment Home tid.page)) same.mapped ∙ new.unmapped;
  open_there = new.open_there;
}

-- the least identifier with a property is that with another, where the same have both
least_same : {P Q : Tid → Type 0} {tid : Tid} → ((t : Tid) → P t → Q t) → ((t : Tid) → Q t → P t) → IsLeast P tid → IsLeast Q tid
least_same {tid = tid} to back least = record { has = to tid least.has; least = λ other below has. least.least other below (back other has) }

chosen_same : {one other : PagesView} {segment length : ℕ} {barred : List Tid} {tid : Tid} → AreSame one other → IsChosen one segment length barred tid → IsChosen other segment length barred tid
chosen_same same (in_room least) = in_room (least_same (λ t. spot_same same) (λ t. spot_same (same_back same)) least)
chosen_same same (on_new none least) = on_new (λ t spot. none t (spot_same (same_back same) spot)) (least_same (λ t. new_same same) (λ t. new_same (same_back same)) least)
chosen_same same (by_entry none never least) = by_entry (λ t spot. none t (spot_same (same_back same) spot)) (λ t new. never t (new_same (same_back same) new)) (least_same (λ t. spot_same same) (λ t. spot_same (same_back same)) least)

-- ---- what is found behind a look

module _ {old mid : SessionView} {T : Type 0} {found : T} (ready : IsReady old) (looks : LooksOn old mid (Ok found)) (keeps : KeepsPages old mid) where
  slots_same : mid.store.pages.slots ≡ old.store.pages.slots
  slots_same = looks.ready.store.size ∙ looks.goes.slots ∙ sym ready.store.size

  listed_still : {segment number : ℕ} {relation : RelationEntry} → IsRelationIn old segment number relation → IsRelationIn mid segment number relation
  listed_still {number = number} in_it = record { at = ap (λ (catalog : CatalogView). relation_at catalog.listing number) looks.catalog ∙ in_it.at; within = in_it.within }

  pub place_before : {segment length : ℕ} {barred : List Tid} {tid : Tid} → IsPlace mid segment length barred tid → IsPlace old segment length barred tid
  place_before {barred = barred} {tid = tid} place = record {
    named = subst (λ (slots : ℕ). IsNameable slots barred tid) slots_same place.named;
    chosen = λ told. chosen_same (same_back (record { slots = slots_same; mapped = keeps.mapped; held = keeps.held told })) (place.chosen (looks.goes.told.0 told));
    free = λ told state number relation kept shows in_it. place.free (looks.goes.told.0 told) state number relation kept (looks.shows told state shows) (listed_still in_it);
  }

  pub no_place_before : (segment : ℕ) (barred : List Tid) → HasNoPlace mid segment barred → HasNoPlace old segment barred
  no_place_before segment barred none told state number relation kept shows in_it = none (looks.goes.told.0 told) state number relation kept (looks.shows told state shows) (listed_still in_it)
