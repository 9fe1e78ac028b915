-- What is looked up of tables by a draft: where tuples stand in links, which tuple has a key, and how many tuples relations have.
use Rattle.std.specs.Prelude.{◌≡◌, ◌≢◌, ℕ, true, List, Option, Some, None, option_map, unwrap_or}
use Rattle.std.specs.FinMap as finite
use Rattle.rss_base.specs.declared.name.Name.{Name}
use Rattle.rss_base.specs.declared.tid.Tid.{Tid}
use Rattle.rss_base.specs.declared.value.Value.{Value}
use Rattle.rss_base.specs.declared.item.Item.{Item}
use Rattle.rss_base.specs.declared.item.Item.TheVariants.{Tuple, Chain}
use Rattle.rss_model.specs.Items.{Content, Values}
use Rattle.rss_model.specs.Tables.{ImageDef, Tables, content, tuple_count}
use Rattle.rss_model.specs.Images.{key_in, owner_of_key}
use Rattle.rss_model.specs.Chains.{chain_with}
use Rattle.rss_model.specs.Changes.{Change, IsConnect, IsDisconnect, apply}
use Rattle.rss_model.specs.Fits.{Fits}
use Rattle.rss_model.specs.Restart.{FitWith}
use Rattle.rss_draft.specs.declared.draft.Standing.{Standing}
use Rattle.rss_draft.specs.declared.draft.Standing.TheVariants.{Off, In}
use Rattle.rss_draft.specs.Views.{DraftView, unchanged, with_standing}

-- the chain of a link in which a tuple stands
abbrev pub chain_at : Name → Standing → Option Item
chain_at link Off = None
chain_at link (In parent) = Some (Chain link parent)

-- What the draft says is so in these tables, and all else is as in the saved ones.
pub record LooksUp (draft : DraftView) (saved tables : Tables) : Type 0 where
  pub standings : (link : Name) (child : Tid)
      → chain_with tables.contents link child
      ≡ unwrap_or (option_map (chain_at link) (draft.standings link child)) (chain_with saved.contents link child)
  pub owners : (name : Name) (image : ImageDef) (key : List Value)
      → finite.get tables.definitions.images name ≡ Some image → image.is_unique ≡ true
      → owner_of_key tables image None key
      ≡ unwrap_or (draft.owners name key) (owner_of_key saved image None key)
  pub counts : (relation : Name)
      → tuple_count tables.contents relation
      ≡ unwrap_or (draft.counts relation) (tuple_count saved.contents relation)

-- The change finds its old content, and tables fit before it and after it.
pub record CanMake (slots : ℕ) (tables : Tables) (change : Change) : Type 0 where
  pub holds : content tables.contents change.item ≡ change.old
  pub fit : Fits slots tables
  pub next : FitWith slots tables (apply tables.contents change)

-- ---- a tuple changes

-- what a tuple item holds has this key in a unique image of its relation
pub record HoldsKey (tables : Tables) (relation : Name) (held : Option Content) (name : Name) (key : List Value) : Type 0 where
  pub image : ImageDef
  pub defined : finite.get tables.definitions.images name ≡ Some image
  pub unique : image.is_unique ≡ true
  pub of : image.relation ≡ relation
  pub values : List Value
  pub is : held ≡ Some (Values values)
  pub its : key_in tables.definitions image values ≡ key

-- What is said goes with a tuple: the keys that it comes to have are its own, those that it only had are nobody's, and its relation has so many tuples.
pub record GoesWith (tables : Tables) (change : Change) (relation : Name) (tid : Tid) (old new : DraftView) : Type 0 where
  pub gains : (name : Name) (key : List Value) → HoldsKey tables relation change.new name key
      → new.owners name key ≡ Some (Some tid)
  pub loses : (name : Name) (key : List Value) → HoldsKey tables relation change.old name key
      → (HoldsKey tables relation change.new name key → ⊥) → new.owners name key ≡ Some None
  pub keeps : (name : Name) (key : List Value) → (HoldsKey tables relation change.old name key → ⊥)
      → (HoldsKey tables relation change.new name key → ⊥) → new.owners name key ≡ old.owners name key
  pub count : new.counts relation ≡ Some (tuple_count (apply tables.contents change) relation)
  pub counts : (other : Name) → other ≢ relation → new.counts other ≡ old.counts other
  pub standings : new.standings ≡ old.standings

-- ---- laws

-- what nothing is said of is as in the tables beside which a draft is kept
abbrev pub LookupsBegin : Type 0
LookupsBegin = (tables : Tables) → LooksUp unchanged tables tables

-- a tuple comes into a chain
abbrev pub ConnectsFollow : Type 0
ConnectsFollow =
    (slots : ℕ) (draft : DraftView) (saved tables : Tables) (change : Change) (link : Name) (parent : Option Tid)
    → LooksUp draft saved tables → CanMake slots tables change → change.item ≡ Chain link parent
    → (how : IsConnect change)
    → LooksUp (with_standing link how.child (In parent) draft) saved
    (record tables { contents = apply tables.contents change })

-- and goes out of it
abbrev pub DisconnectsFollow : Type 0
DisconnectsFollow =
    (slots : ℕ) (draft : DraftView) (saved tables : Tables) (change : Change) (link : Name) (parent : Option Tid)
    → LooksUp draft saved tables → CanMake slots tables change → change.item ≡ Chain link parent
    → (how : IsDisconnect change)
    → LooksUp (with_standing link how.child Off draft) saved
    (record tables { contents = apply tables.contents change })

-- a tuple comes, goes or changes
abbrev pub ChangesFollow : Type 0
ChangesFollow =
    (slots : ℕ) (old new : DraftView) (saved tables : Tables) (change : Change) (relation : Name) (tid : Tid)
    → LooksUp old saved tables → CanMake slots tables change → change.item ≡ Tuple relation tid
    → GoesWith tables change relation tid old new
    → LooksUp new saved (record tables { contents = apply tables.contents change })
