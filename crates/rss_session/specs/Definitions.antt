-- What the calls that define make of a session.
use Rattle.std.specs.Prelude.{◌≡◌, ◌≢◌, ℕ, ◌<◌, ◌||◌, nat_le, Bool, true, false, List, Option, Some, None, option_and_then, Result, OnOk, OnErr, ⊤}
use Rattle.std.specs.FinMap.{empty}
use Rattle.rss_base.specs.Sizes.{roles_most, system_pages}
use Rattle.rss_base.specs.Steps.{PagesView}
use Rattle.rss_base.specs.Listings.{Listing, ListingFits, catalog_page, IsNumberOf, IsUnlisted, IsLeastUnused, segment_at, relation_at, image_at, link_at, has_role, roles_of, with_segment, with_relation, with_link}
use Rattle.rss_base.specs.declared.name.Name.{Name}
use Rattle.rss_base.specs.declared.field.FieldDef.{FieldDef}
use Rattle.rss_base.specs.declared.relation.RelationEntry.{RelationEntry}
use Rattle.rss_base.specs.declared.image.ImageEntry.{ImageEntry}
use Rattle.rss_base.specs.declared.link.LinkEntry.{LinkEntry}
use Rattle.rss_base.specs.declared.call.Call.{Call}
use Rattle.rss_base.specs.declared.call.Call.TheVariants.{MakeSegment, MakeRelation, MakeLink, DropSegment, DropRelation, DropLink}
use Rattle.rss_base.specs.declared.refusal.Kind.TheVariants.{Segment as SegmentKind, Relation as RelationKind, Link as LinkKind}
use Rattle.rss_base.specs.declared.refusal.Refusal.{Refusal}
use Rattle.rss_catalog.specs.Catalogs.{HasRelationIn, HasImageOf, Lists}
use Rattle.rss_model.specs.Defining.{originals}
use Rattle.rss_model.specs.Spares.{live_of}
use Rattle.rss_model.specs.Steps.{refusal}
use Rattle.rss_stored.specs.Store.{relation_name}
use Rattle.rss_trans.specs.Tables.{told}
use Rattle.rss_session.specs.Admissions.{Tests}
use Rattle.rss_session.specs.Parts.{view}
use Rattle.rss_session.specs.declared.session.Session.{Session}

-- the relation as it is defined, without tuples
abbrev pub entry_of : Name → ℕ → List FieldDef → RelationEntry
entry_of name segment fields =
    record { name = name; segment = segment; fields = fields; live = 0 }

-- the link as it is defined, without chains, by the numbers of its relations
abbrev pub link_entry : Name → Option ℕ → ℕ → LinkEntry
link_entry name parent child =
    record { name = name; parent = parent; child = child; late = false; first = None; last = None }

-- none of the link's relations has tuples
abbrev pub AreEmpty : Listing → LinkEntry → Type 0
AreEmpty listing link =
    (number : ℕ) (relation : RelationEntry) → has_role number (Some link) ≡ true
    → relation_at listing number ≡ Some relation → relation.live ≡ 0

-- the number of the parents' relation, if there is one
abbrev pub IsParentNumber : Listing → Option Name → Option ℕ → Type 0
IsParentNumber listing None None = ⊤
IsParentNumber listing None (Some number) = ⊥
IsParentNumber listing (Some name) None = ⊥
IsParentNumber listing (Some name) (Some number) = IsNumberOf RelationKind listing name number

-- there is to be one, but it is not there
abbrev pub HasUnlisted : Listing → Option Name → Type 0
HasUnlisted listing None = ⊥
HasUnlisted listing (Some name) = IsUnlisted RelationKind listing name

-- one of the relations of a link is such, by their numbers
abbrev pub any_of_link : (ℕ → Bool) → Option ℕ → ℕ → Bool
any_of_link is None child = is child
any_of_link is (Some parent) child = is parent || is child

-- a relation has a part in as many links as it may, or has tuples
abbrev pub is_in_most : Listing → ℕ → Bool
is_in_most listing number = nat_le roles_most (roles_of listing number)

abbrev pub is_filled : Listing → ℕ → Bool
is_filled listing number = nat_le 1 (live_of listing number)

-- What a call that defines makes of a listing. A new definition takes the least number that is not in use.
pub data Relists (old : Listing) : Call → Listing → Type 0 where
  segment : (name : Name) (number : ℕ) → IsUnlisted SegmentKind old name
      → IsLeastUnused SegmentKind old number
      → Relists old (MakeSegment name) (with_segment old number (Some name))
  relation : (name in_segment : Name) (fields : List FieldDef) (segment number : ℕ)
      → segment_at old segment ≡ Some in_segment → IsUnlisted RelationKind old name
      → IsLeastUnused RelationKind old number
      → Relists old (MakeRelation name in_segment fields)
      (with_relation old number (Some (entry_of name segment (originals fields))))
  drop_segment : (name : Name) (number : ℕ) → segment_at old number ≡ Some name
      → (HasRelationIn old number → ⊥)
      → Relists old (DropSegment name) (with_segment old number None)
  drop_relation : (number : ℕ) (relation : RelationEntry) → relation_at old number ≡ Some relation
      → relation.live ≡ 0 → (HasImageOf old number → ⊥)
      → Relists old (DropRelation relation.name) (with_relation old number None)
  link : (name : Name) (parent : Option ℕ) (child number : ℕ) (relation : RelationEntry)
      → relation_at old child ≡ Some relation → IsUnlisted LinkKind old name
      → IsLeastUnused LinkKind old number → AreEmpty old (link_entry name parent child)
      → Relists old (MakeLink name (option_and_then (relation_name old) parent) relation.name)
      (with_link old number (Some (link_entry name parent child)))
  drop_link : (number : ℕ) (link : LinkEntry) → link_at old number ≡ Some link → AreEmpty old link
      → Relists old (DropLink link.name) (with_link old number None)

-- all but the catalog is as it was
pub record IsBut {S : Type 0} (old new : Session S) : Type 0 where
  pub tuples : new.store.tuples ≡ old.store.tuples
  pub log : new.store.log ≡ old.store.log
  pub root : new.store.root ≡ old.store.root
  pub number : new.store.number ≡ old.store.number
  pub opened : new.«open» ≡ old.«open»
  pub heap : new.heap ≡ old.heap
  pub surviving : new.surviving ≡ old.surviving
  pub entries : new.entries ≡ old.entries
  pub survived : new.survived ≡ old.survived

-- Nothing is open. The catalog lists what the call defines, by which one page of the system space alone has changed, and the relation of no image; all else is as it was.
pub record Redefines {S : Type 0} (call : Call) (old new : Session S) : Type 0 where
  pub page : ℕ
  pub low : ListingFits old.store.catalog.listing → page < system_pages
  pub relists : Relists old.store.catalog.listing call new.store.catalog.listing
  pub lists : Lists new.store.catalog.listing page old.store.catalog new.store.catalog
  pub others : (k : ℕ) → k < system_pages → k ≢ page
      → catalog_page new.store.catalog.listing k ≡ catalog_page old.store.catalog.listing k
  pub fits : ListingFits old.store.catalog.listing → ListingFits new.store.catalog.listing
  pub imaged : (number : ℕ) (image : ImageEntry) → image_at old.store.catalog.listing number ≡ Some image
      → relation_at new.store.catalog.listing image.relation ≡ relation_at old.store.catalog.listing image.relation
  pub closed : (told old.«open»).transactions ≡ empty
  pub rest : IsBut old new

-- A call that defines, by its result: it is refused as the machine says, and then nothing has changed; or the catalog lists what it defines.
pub record Defining {S : Type 0} (pages_view : S → PagesView) (old new : Session S) (call : Call)
    (result : Result (Unit {0}) Refusal) : Type 0 where
  pub tests : Tests (view pages_view old) (λ state. refusal state call) result
  pub redefines : OnOk result (Redefines call old new)
  pub same : OnErr result (new ≡ old)
