-- The tables that a draft stands for, beside others.
use Rattle.std.specs.Prelude.{◌≡◌, ℕ, List, Option, Some, None, option_map, unwrap_or}
use Rattle.rss_base.specs.declared.name.Name.{Name}
use Rattle.rss_base.specs.declared.tid.Tid.{Tid}
use Rattle.rss_base.specs.declared.value.Value.{Value}
use Rattle.rss_base.specs.declared.value.FieldForm.{FieldForm}
use Rattle.rss_base.specs.declared.item.Item.{Item}
use Rattle.rss_base.specs.declared.item.Item.TheVariants.{Tuple, Chain}
use Rattle.rss_base.specs.TupleTypes.{Spells}
use Rattle.rss_model.specs.Items.{Content, Values}
use Rattle.rss_model.specs.Tables.{Tables, content, put, fields_of}
use Rattle.rss_model.specs.Chains.{chain_content}
use Rattle.rss_model.specs.Fits.{HasContent}
use Rattle.rss_draft.specs.Views.{DraftView, unchanged, with_tuple, with_chain}

-- ---- a tuple

-- it is one of these fields, with values that the bytes spell
pub record IsSpelled (fields : Option (List FieldForm)) (bytes : List ℕ) (held : Option Content) : Type 0 where
  pub forms : List FieldForm
  pub values : List Value
  pub defined : fields ≡ Some forms
  pub spells : Spells forms bytes values
  pub is : held ≡ Some (Values values)

abbrev pub ShowsTuple : Option (List FieldForm) → Option (List ℕ) → Option Content → Type 0
ShowsTuple fields None held = held ≡ None
ShowsTuple fields (Some bytes) held = IsSpelled fields bytes held

-- it is as is said, or as it was
abbrev pub SaysTuple : Option (List FieldForm) → Option (Option (List ℕ)) → Option Content → Option Content → Type 0
SaysTuple fields None was held = held ≡ was
SaysTuple fields (Some said) was held = ShowsTuple fields said held

-- ---- tables

-- What the draft says of items, these tables hold, and all else as the saved ones.
pub record IsDraft (draft : DraftView) (saved tables : Tables) : Type 0 where
  pub definitions : tables.definitions ≡ saved.definitions
  pub tuples : (relation : Name) (tid : Tid)
      → SaysTuple (fields_of tables relation) (draft.tuples relation tid)
      (content saved.contents (Tuple relation tid)) (content tables.contents (Tuple relation tid))
  pub chains : (link : Name) (parent : Option Tid)
      → content tables.contents (Chain link parent)
      ≡ unwrap_or (option_map chain_content (draft.chains link parent)) (content saved.contents (Chain link parent))
  pub others : (item : Item) → (HasContent item → ⊥)
      → content tables.contents item ≡ content saved.contents item

-- ---- laws

-- a draft that says nothing stands for the tables beside which it is kept
abbrev pub DraftsBegin : Type 0
DraftsBegin = (tables : Tables) → IsDraft unchanged tables tables

-- with one tuple more that it says
abbrev pub TuplesFollow : Type 0
TuplesFollow =
    (draft : DraftView) (saved tables : Tables) (relation : Name) (tid : Tid)
    (values : Option (List ℕ)) (held : Option Content) → IsDraft draft saved tables
    → ShowsTuple (fields_of tables relation) values held
    → IsDraft (with_tuple relation tid values draft) saved
    (record tables { contents = put tables.contents (Tuple relation tid) held })

-- with one chain more
abbrev pub ChainsFollow : Type 0
ChainsFollow =
    (draft : DraftView) (saved tables : Tables) (link : Name) (parent : Option Tid)
    (tids : List Tid) → IsDraft draft saved tables
    → IsDraft (with_chain link parent tids draft) saved
    (record tables { contents = put tables.contents (Chain link parent) (chain_content tids) })

-- and it stands for no other tables
abbrev pub DraftsTellTables : Type 0
DraftsTellTables =
    (draft : DraftView) (saved one other : Tables) → IsDraft draft saved one → IsDraft draft saved other
    → one ≡ other
