-- The locks of calls, as the catalog's names give them, are those of the machine.
use Rattle.std.proofs.Common.{◌≡◌, ℕ, List, [], ◌∷◌, ◌++◌, sym, ◌∙◌, ap}
use Rattle.std.specs.Prelude.{Option, Some, None}
use Rattle.rss_base.specs.Listings.{IsNumberOf, relation_at, segment_at}
use Rattle.rss_base.specs.declared.item.Item.TheVariants.{Relation}
use Rattle.rss_base.specs.declared.name.Name.{Name}
use Rattle.rss_base.specs.declared.need.Mode.{Mode}
use Rattle.rss_base.specs.declared.need.Need.{Need}
use Rattle.rss_base.specs.declared.refusal.Kind.TheVariants.{Relation as RelationKind}
use Rattle.rss_base.specs.declared.relation.RelationEntry.{RelationEntry}
use Rattle.rss_model.specs.Machine.{State, now}
use Rattle.rss_model.specs.Needs.{need, segment_needs, relation_needs}
use Rattle.rss_model.specs.Tables.{segment_of}
use Rattle.rss_stored.proofs.Listed.{listed, stands_within}
use Rattle.rss_access.proofs.Numbered.{name_of}
use Rattle.rss_session.specs.Sessions.{SessionView}
use Rattle.rss_session.specs.Shown.{Shows}
use Rattle.rss_rsi.specs.Locking.{Lists}
use Rattle.rss_rsi.specs.Views.{RssParts}

-- the segment of a listed relation has the name that the catalog lists
pub segment_shown : {view : SessionView} {state : State} → Shows view state → (number : ℕ) (entry : RelationEntry) → relation_at view.store.catalog.listing number ≡ Some entry → segment_of (now state) entry.name ≡ segment_at view.store.catalog.listing entry.segment
segment_shown {state = state} shows number entry at =
    let so = listed shows.store.spells.listed shows.store.spells.defines number entry at in
    stands_within (now state) shows.store.spells.listed shows.store.spells.defines number entry at so.0 so.1.within ∙ sym so.1.within

-- the locks of a relation with this number
pub relation_lists : (parts : RssParts) (relation : Name) (number : ℕ) (entry : RelationEntry) (coarse mode : Mode) → IsNumberOf RelationKind parts.session.store.catalog.listing relation number → relation_at parts.session.store.catalog.listing number ≡ Some entry
    → Lists parts (λ tables. relation_needs tables relation coarse mode) (segment_needs (segment_at parts.session.store.catalog.listing entry.segment) coarse ++ need (Relation relation) mode ∷ [])
relation_lists parts relation number entry coarse mode known at told state is_in =
    let named : entry.name ≡ relation = name_of parts.session.store.catalog.listing relation number entry known at in
    ap (λ (segment : Option Name). segment_needs segment coarse ++ need (Relation relation) mode ∷ [])
    (ap (segment_of (now state)) (sym named) ∙ segment_shown is_in.shows number entry at)

-- ---- as they are pushed, one by one

pub no_segment : (segments : Option Name) (coarse : Mode) {needs : List Need} → segments ≡ None → needs ≡ [] → needs ≡ segment_needs segments coarse
no_segment segments coarse none is = is ∙ ap (λ (s : Option Name). segment_needs s coarse) (sym none)
