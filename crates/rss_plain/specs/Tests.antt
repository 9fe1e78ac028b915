-- Tests of calls that the machine's list has without a name.
use Rattle.std.specs.Prelude.{◌≡◌, ℕ, ◌<◌, nat_le, Bool, ◌&&◌, length, slice_index_or, List, [], ◌∷◌, ◌++◌, Option, Some, is_some}
use Rattle.std.specs.FinMap as map
use Rattle.rss_base.specs.declared.name.Name.{Name}
use Rattle.rss_base.specs.declared.tid.Tid.{Tid}
use Rattle.rss_base.specs.declared.refusal.Kind.TheVariants.{Image as ImageKind, Link as LinkKind}
use Rattle.rss_base.specs.declared.refusal.Refusal.{Refusal}
use Rattle.rss_base.specs.declared.refusal.Refusal.TheVariants.{AlreadyOpen, TooMany, NoSuch, Connected, NotConnected}
use Rattle.rss_base.specs.declared.item.Item.TheVariants.{Tuple as TupleItem}
use Rattle.rss_base.specs.declared.need.Mode.{Mode}
use Rattle.rss_base.specs.declared.need.Need.{Need}
use Rattle.rss_base.specs.declared.item.Item.{Item}
use Rattle.rss_model.specs.Chains.{stands_in, tuples_in}
use Rattle.rss_model.specs.Items.{Content, is_chain_of, is_name}
use Rattle.rss_model.specs.Tables.{ImageDef, Tables}
use Rattle.rss_model.specs.Locks.{Locks, first_bar}
use Rattle.rss_model.specs.Needs.{need, relation_needs}
use Rattle.rss_model.specs.Machine.{State, is_open}
use Rattle.rss_model.specs.Defining.{refused_if, refused_unless}
use Rattle.rss_model.specs.Refusals.{transaction_limit, image_of, link_of, is_in_chain}

abbrev pub if_open : State → ℕ → Option Refusal
if_open state t = refused_if (is_open state t) AlreadyOpen

abbrev pub if_too_many : State → Option Refusal
if_too_many state = refused_if (nat_le transaction_limit (map.len state.marks)) TooMany

abbrev pub unless_image : State → Name → Option Refusal
unless_image state image = refused_unless (is_some (image_of state image)) (NoSuch ImageKind)

abbrev pub unless_link : State → Name → Option Refusal
unless_link state link = refused_unless (is_some (link_of state link)) (NoSuch LinkKind)

abbrev pub if_in_chain : State → Name → Tid → Option Refusal
if_in_chain state link child = refused_if (is_in_chain state link child) (Connected link)

abbrev pub unless_in_chain_of : State → Name → Tid → Option Refusal
unless_in_chain_of state link child = refused_unless (is_in_chain state link child) (NotConnected link)

-- what an item holds is a chain of the link that has the tuple
abbrev pub is_chain_with : Name → Tid → Item × Content → Bool
is_chain_with link child held = is_chain_of link held.0 && stands_in child (tuples_in (Some held.1))

-- The lock at this place is the first that is barred, by this transaction.
pub record IsBarredAt (locks : Locks) (t : ℕ) (needs : List Need) (place holder : ℕ) : Type 0 where
  pub within : place < length needs
  pub first : (d : Need)
      → first_bar locks t needs ≡ Some (record { item = (slice_index_or needs place d).item; holder = holder })

-- the locks of a tuple, and of what it stands in before it
abbrev pub tuple_needs : Tables → Name → Tid → Mode → Mode → List Need
tuple_needs tables relation tid coarse mode =
    relation_needs tables relation coarse coarse ++ need (TupleItem relation tid) mode ∷ []

-- a unique image of the relation
abbrev pub is_unique_of : Name → ImageDef → Bool
is_unique_of relation image = image.is_unique && is_name relation image.relation
