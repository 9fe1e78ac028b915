-- Changes: a transaction sets what an item holds.
use Rattle.std.specs.Prelude.{◌≡◌, ℕ, Bool, true, false, not, ◌==◌, ◌&&◌, nat_le, if◌then◌else◌, List, [], ◌∷◌, length, Option, Some, None, IfSome, is_some, is_none, filter}
use Rattle.rss_base.specs.declared.name.Name.{Name}
use Rattle.rss_base.specs.declared.value.Value.{Value}
use Rattle.rss_base.specs.declared.tid.Tid.{Tid}
use Rattle.rss_base.specs.declared.item.Item.{Item}
use Rattle.rss_base.specs.declared.item.Item.TheVariants.{Tuple, Chain}
use Rattle.rss_model.specs.Items.{Content, Values}
use Rattle.rss_model.specs.Tables.{Contents, content, put, is_tuple_of}
use Rattle.rss_model.specs.Chains.{tuples_in, chain_content, stands_in, with_behind, without}

pub record Change : Type 0 where
  pub by : ℕ
  pub item : Item
  pub old : Option Content
  pub new : Option Content

-- from absent to a tuple, from a tuple to absent, or from one tuple to another
pub data IsTupleChange (change : Change) : Type 0 where
  insert : {values : List Value}
      → change.old ≡ None → change.new ≡ Some (Values values) → IsTupleChange change
  delete : {values : List Value}
      → change.old ≡ Some (Values values) → change.new ≡ None → IsTupleChange change
  update : {values next : List Value}
      → change.old ≡ Some (Values values) → change.new ≡ Some (Values next)
      → IsTupleChange change

-- a tuple comes into a chain, or goes out of it
pub record IsConnect (change : Change) : Type 0 where
  pub child : Tid
  pub left : Option Tid
  pub off : stands_in child (tuples_in change.old) ≡ false
  pub behind : IfSome left (λ tid. stands_in tid (tuples_in change.old) ≡ true)
  pub new : change.new ≡ chain_content (with_behind left child (tuples_in change.old))

pub record IsDisconnect (change : Change) : Type 0 where
  pub child : Tid
  pub on : stands_in child (tuples_in change.old) ≡ true
  pub new : change.new ≡ chain_content (without child (tuples_in change.old))

-- what can be done to an item: to a tuple or to a chain
pub data IsChange (change : Change) : Type 0 where
  of_tuple : {relation : Name} {tid : Tid} → change.item ≡ Tuple relation tid → IsTupleChange change → IsChange change
  connect : {link : Name} {parent : Option Tid} → change.item ≡ Chain link parent → IsConnect change → IsChange change
  disconnect : {link : Name} {parent : Option Tid} → change.item ≡ Chain link parent → IsDisconnect change → IsChange change

-- a tuple of this relation is deleted
abbrev pub is_delete_of : Name → Change → Bool
is_delete_of relation change = is_tuple_of relation change.item && is_some change.old && is_none change.new

-- the item holds what it held after the change, or before it
abbrev pub apply : Contents → Change → Contents
apply contents change = put contents change.item change.new

abbrev pub undo : Contents → Change → Contents
undo contents change = put contents change.item change.old

-- Lists of changes have the newest first.
abbrev pub after : Contents → List Change → Contents
after contents [] = contents
after contents (change ∷ changes) = apply (after contents changes) change

-- changes undone, the newest first
abbrev pub undone : Contents → List Change → Contents
undone contents [] = contents
undone contents (change ∷ changes) = undone (undo contents change) changes

-- what each change found is what the older ones left
abbrev pub Chained : Contents → List Change → Type 0
Chained contents [] = Unit {0}
Chained contents (change ∷ changes) =
    (change.old ≡ content (after contents changes) change.item) × Chained contents changes

-- of things that were made by transactions, this one's, and those of the others
abbrev pub mine : {A : Type 0} → (A → ℕ) → ℕ → List A → List A
mine maker t made = filter (λ a. maker a == t) made

abbrev pub theirs : {A : Type 0} → (A → ℕ) → ℕ → List A → List A
theirs maker t made = filter (λ a. not (maker a == t)) made

-- of this transaction's all but the oldest n are cut off, and the others' stay
abbrev pub kept_to : {A : Type 0} → (A → ℕ) → ℕ → ℕ → List A → List A
kept_to maker t n [] = []
kept_to maker t n (a ∷ made) =
    if (maker a == t) && nat_le n (length (mine maker t made)) then kept_to maker t n made
    else a ∷ kept_to maker t n made

-- what is cut off
abbrev pub cut_off : {A : Type 0} → (A → ℕ) → ℕ → ℕ → List A → List A
cut_off maker t n [] = []
cut_off maker t n (a ∷ made) =
    if (maker a == t) && nat_le n (length (mine maker t made)) then a ∷ cut_off maker t n made
    else cut_off maker t n made

abbrev pub maker : Change → ℕ
maker change = change.by

-- what this transaction changed, and what the others did
abbrev pub own : ℕ → List Change → List Change
own transaction changes = filter (λ c. c.by == transaction) changes

abbrev pub others : ℕ → List Change → List Change
others transaction changes = filter (λ c. not (c.by == transaction)) changes

-- a change that found what the item held turns back
abbrev pub UndoTurnsBack : Type 0
UndoTurnsBack =
    (contents : Contents) (change : Change) → change.old ≡ content contents change.item
    → undo (apply contents change) change ≡ contents
