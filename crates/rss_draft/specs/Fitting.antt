-- When tables fit after a change, if they fit before it: what has to be looked at.
use Rattle.std.specs.Prelude.{◌≡◌, ◌↔◌, ℕ, ◌≤◌, true, false, List, Option, Some, None, is_some}
use Rattle.std.specs.FinMap as finite
use Rattle.rss_base.specs.declared.name.Name.{Name}
use Rattle.rss_base.specs.declared.tid.Tid.{Tid}
use Rattle.rss_base.specs.declared.value.Value.{Value}
use Rattle.rss_base.specs.declared.item.Item.{Item}
use Rattle.rss_base.specs.declared.item.Item.TheVariants.{Segment, Relation, Tuple, Chain, Key}
use Rattle.rss_model.specs.Items.{Content, Values}
use Rattle.rss_model.specs.Tables.{ImageDef, LinkDef, Tables, content, put, segment_of, tuple_count}
use Rattle.rss_model.specs.Images.{key_in, owner_of_key}
use Rattle.rss_model.specs.Chains.{tuples_in, stands_in, chain_with, connected, is_there, HasParent}
use Rattle.rss_model.specs.Changes.{Change, IsChange, apply}
use Rattle.rss_model.specs.Fits.{Fits, IsIdentifier, IsTupleOf, IsLive, tuple_limit}
use Rattle.rss_model.specs.Restart.{FitWith}

-- ---- a tuple

-- no other relation of the segment has a tuple with this identifier
abbrev pub IsLone : Tables → Name → Tid → Type 0
IsLone tables relation tid =
    (other : Name) → segment_of tables other ≡ segment_of tables relation
    → IsLive tables other tid → other ≡ relation

-- in no unique image another tuple of the relation has the key of these values
abbrev pub AreKeysFree : Tables → Name → Tid → List Value → Type 0
AreKeysFree tables relation tid values =
    (name : Name) (image : ImageDef)
    → finite.get tables.definitions.images name ≡ Some image
    → image.is_unique ≡ true → image.relation ≡ relation
    → owner_of_key tables image (Some tid) (key_in tables.definitions image values) ≡ None

-- The tuple with this identifier may come to hold this, or nothing.
pub record TupleFits (slots : ℕ) (tables : Tables) (relation : Name) (tid : Tid) (new : Option Content) : Type 0 where
  pub tuple : (held : Content) → new ≡ Some held → IsTupleOf tables relation held
  pub within : is_some new ≡ true → IsIdentifier slots tid
  pub lone : is_some new ≡ true → IsLone tables relation tid
  pub few : tuple_count (put tables.contents (Tuple relation tid) new) relation ≤ tuple_limit
  pub keys : (values : List Value) → new ≡ Some (Values values) → AreKeysFree tables relation tid values
  pub unlinked : new ≡ None → connected tables relation tid ≡ None

-- ---- a chain

-- there is such a tuple of the child relation, which stands in no chain of the link
pub record MayCome (tables : Tables) (link : Name) (definition : LinkDef) (child : Tid) : Type 0 where
  pub there : is_there tables.contents definition.child child ≡ true
  pub off : chain_with tables.contents link child ≡ None

-- It is a chain such as the link has, and what comes into it may.
pub record ChainFits (tables : Tables) (link : Name) (parent : Option Tid) (old new : Option Content) : Type 0 where
  pub definition : LinkDef
  pub defined : finite.get tables.definitions.links link ≡ Some definition
  pub under : HasParent tables.contents definition.parent parent
  pub comes : (child : Tid) → stands_in child (tuples_in new) ≡ true
      → stands_in child (tuples_in old) ≡ false → MayCome tables link definition child

-- ---- a change

abbrev pub ItemFits : ℕ → Tables → Item → Option Content → Option Content → Type 0
ItemFits slots tables (Segment name) old new = ⊥
ItemFits slots tables (Relation name) old new = ⊥
ItemFits slots tables (Tuple relation tid) old new = TupleFits slots tables relation tid new
ItemFits slots tables (Chain link parent) old new = ChainFits tables link parent old new
ItemFits slots tables (Key image values) old new = ⊥

abbrev pub ChangeFits : ℕ → Tables → Change → Type 0
ChangeFits slots tables change = ItemFits slots tables change.item change.old change.new

-- A change that finds its old content leaves tables that fit exactly if it fits.
abbrev pub FittingIsTested : Type 0
FittingIsTested =
    (slots : ℕ) (tables : Tables) (change : Change) → Fits slots tables → IsChange change
    → content tables.contents change.item ≡ change.old
    → ChangeFits slots tables change ↔ FitWith slots tables (apply tables.contents change)
