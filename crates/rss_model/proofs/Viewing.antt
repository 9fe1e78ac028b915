-- What a transaction that holds locks sees of a mixture of changes: what is there now.
use Rattle.std.proofs.Common.{◌≡◌, ◌⊎◌, inl, inr, ⊎_elim, ℕ, Bool, true, false, List, refl, sym, ◌∙◌, ap, subst}
use Rattle.std.specs.Prelude.{Option, Some, None}
use Rattle.std.specs.FinMap as finite
use Rattle.std.specs.FinMap.{IsAntisymmetric, slice_cmp-IsAntisymmetric, nat_cmp-IsAntisymmetric, int_cmp-IsAntisymmetric}
use Rattle.std.specs.Cmp.{Equal-is}
use Rattle.rss_base.specs.declared.name.Name.{Name}
use Rattle.rss_base.specs.declared.tid.Tid.{Tid}
use Rattle.rss_base.specs.declared.value.Value.{Value}
use Rattle.rss_base.specs.declared.value.Value.TheVariants.{Int, Text, Undefined}
use Rattle.rss_base.specs.declared.item.Item.{Item}
use Rattle.rss_base.specs.declared.item.Item.TheVariants.{Tuple as TupleItem, Chain as ChainItem, Key as KeyItem}
use Rattle.rss_base.specs.declared.need.Mode.{Mode}
use Rattle.rss_base.specs.declared.need.Mode.TheVariants.{IS, IX, S, SIX, X}
use Rattle.rss_base.specs.TupleTypes.{value_cmp, values_cmp}
use Rattle.rss_model.specs.Items.{Content, Values, Tuples}
use Rattle.rss_model.specs.Tables.{ImageDef, LinkDef, Contents, content}
use Rattle.rss_model.specs.Chains.{tuples_in, stands_in}
use Rattle.rss_model.specs.Images.{is_key, key_in}
use Rattle.rss_model.specs.Changes.{Change, after, Chained}
use Rattle.rss_model.specs.Locks.{disagree, Holds, AreApart}
use Rattle.rss_model.specs.Machine.{State, now}
use Rattle.rss_model.specs.Kept.{up_to, IsGuarded}
use Rattle.rss_model.proofs.LogLists.{by_test, false_true}
use Rattle.rss_model.proofs.Locking.{one_holder}
use Rattle.rss_model.proofs.Mixing.{In, many, agree}

pub against_x : (m : Mode) → disagree m X ≡ true
against_x IS = refl
against_x IX = refl
against_x S = refl
against_x SIX = refl
against_x X = refl

-- values that tie are one
value_apart : IsAntisymmetric value_cmp
value_apart (Int a) (Int b) tie = ap Int (int_cmp-IsAntisymmetric a b tie)
value_apart (Int a) (Text b) tie = absurd (cc (tie))
value_apart (Text a) (Int b) tie = absurd (cc (tie))
value_apart (Text a) (Text b) tie = ap Text (slice_cmp-IsAntisymmetric nat_cmp-IsAntisymmetric a b tie)
value_apart Undefined Undefined tie = refl
value_apart Undefined (Int b) tie = absurd (cc (tie))
value_apart Undefined (Text b) tie = absurd (cc (tie))
value_apart (Int a) Undefined tie = absurd (cc (tie))
value_apart (Text a) Undefined tie = absurd (cc (tie))

pub same_key : (a b : List Value) → is_key a b ≡ true → a ≡ b
same_key a b is = slice_cmp-IsAntisymmetric value_apart a b ((Equal-is (values_cmp a b)).0 is)

-- two tests that agree, or one is true alone
same_bool : (a b : Bool) → ((a ≡ b → ⊥) → ⊥) → a ≡ b
same_bool true true not' = refl
same_bool false false not' = refl
same_bool true false not' = absurd (not' (λ e. false_true (sym e) refl))
same_bool false true not' = absurd (not' (λ e. false_true e refl))

-- what an item holds is a tuple with this key
pub keyed : (List Value → List Value) → List Value → Option Content → Bool
keyed key_of key None = false
keyed key_of key (Some (Values values)) = is_key (key_of values) key
keyed key_of key (Some (Tuples tids)) = false

pub keyed_of : (key_of : List Value → List Value) (key : List Value) (held : Option Content) → keyed key_of key held ≡ true → (values : List Value) × (held ≡ Some (Values values)) × (is_key (key_of values) key ≡ true)
unfolding keyed
keyed_of key_of key None is = absurd (cc (is))
keyed_of key_of key (Some (Values values)) is = (values, refl, is)
keyed_of key_of key (Some (Tuples tids)) is = absurd (cc (is))

pub keyed_is : (key_of : List Value → List Value) (key values : List Value) → is_key (key_of values) key ≡ true → keyed key_of key (Some (Values values)) ≡ true
unfolding keyed
keyed_is key_of key values is = is

abbrev pub stands : Tid → Option Content → Bool
stands tid held = stands_in tid (tuples_in held)

-- all changes are guarded
abbrev pub AreGuarded : State → Type 0
AreGuarded state = (c : Change) → In c state.changes → IsGuarded state c

module _ (state : State) (apart : AreApart state.locks) (guards : AreGuarded state) (chained : Chained state.base.contents state.changes) (t : ℕ) where
  -- a holder of an item, and one who changed it
  pub changed_by : (i : Item) (mode : Mode) → Holds state.locks t i mode → (c : Change) → In c state.changes → c.item ≡ i → c.by ≡ t
  changed_by i mode holds c is at = sym (one_holder state.locks apart t c.by i mode X holds (subst (λ (k : Item). Holds state.locks c.by k X) at (guards c is).item) (against_x mode))

  -- who has changed a tuple with a key, and who holds the key
  pub keyed_by : (name : Name) (image : ImageDef) (key : List Value) → finite.get state.base.definitions.images name ≡ Some image → image.is_unique ≡ true → Holds state.locks t (KeyItem name key) X
      → (c : Change) → In c state.changes → (tid : Tid) → c.item ≡ TupleItem image.relation tid → (held : Option Content) → (c.old ≡ held) ⊎ (c.new ≡ held) → keyed (key_in state.base.definitions image) key held ≡ true → c.by ≡ t
  keyed_by name image key there unique holds c is tid at held which has =
      let of = keyed_of (key_in state.base.definitions image) key held has in
      let both = (guards c is).keys image.relation tid at in
      let its = ⊎_elim (λ e. both.0 of.0 name image (e ∙ of.1) there refl unique) (λ e. both.1 of.0 name image (e ∙ of.1) there refl unique) which in
      sym (one_holder state.locks apart t c.by (KeyItem name key) X X holds (subst (λ (k : List Value). Holds state.locks c.by (KeyItem name k) X) (same_key _ _ of.2) its) refl)

  pub moved_by : (link : Name) (definition : LinkDef) (tid : Tid) (mode : Mode) → finite.get state.base.definitions.links link ≡ Some definition → Holds state.locks t (TupleItem definition.child tid) mode
      → (c : Change) → In c state.changes → (parent : Option Tid) → c.item ≡ ChainItem link parent → (c.by ≡ t → ⊥) → stands tid c.old ≡ stands tid c.new
  moved_by link definition tid mode there holds c is parent at off = same_bool _ _ (λ moved.
      off (sym (one_holder state.locks apart t c.by (TupleItem definition.child tid) mode X holds ((guards c is).child link parent definition tid at there moved) (against_x mode))))

  pub below_by : (link relation : Name) (definition : LinkDef) (tid : Tid) → finite.get state.base.definitions.links link ≡ Some definition → definition.parent ≡ Some relation → Holds state.locks t (TupleItem relation tid) X
      → (c : Change) → In c state.changes → c.item ≡ ChainItem link (Some tid) → c.by ≡ t
  below_by link relation definition tid there has holds c is at = sym (one_holder state.locks apart t c.by (TupleItem relation tid) X S holds ((guards c is).parent link relation tid definition at there has) refl)

  -- ---- in a mixture that has all of its changes
  module _ (counts : ℕ → ℕ) (few : many counts t state.changes ≡ false) where
    abbrev mixed : Contents
    mixed = after state.base.contents (up_to counts state.changes)

    pub same_alone : (i : Item) → ((u : ℕ) → (u ≡ t → ⊥) → Holds state.locks u i X → ⊥) → content (after state.base.contents (up_to counts state.changes)) i ≡ content (now state).contents i
    same_alone i alone = agree state.base.contents t counts (λ o. o) i state.changes few chained (λ c is at off. absurd (alone c.by off (subst (λ (k : Item). Holds state.locks c.by k X) at (guards c is).item)))

    pub same_held : (i : Item) (mode : Mode) → Holds state.locks t i mode → content (after state.base.contents (up_to counts state.changes)) i ≡ content (now state).contents i
    same_held i mode holds = agree state.base.contents t counts (λ o. o) i state.changes few chained (λ c is at off. absurd (off (changed_by i mode holds c is at)))

    pub same_keyed : (name : Name) (image : ImageDef) (key : List Value) → finite.get state.base.definitions.images name ≡ Some image → image.is_unique ≡ true → Holds state.locks t (KeyItem name key) X
        → (tid : Tid) → keyed (key_in state.base.definitions image) key (content (after state.base.contents (up_to counts state.changes)) (TupleItem image.relation tid)) ≡ keyed (key_in state.base.definitions image) key (content (now state).contents (TupleItem image.relation tid))
    same_keyed name image key there unique holds tid = agree state.base.contents t counts (keyed (key_in state.base.definitions image) key) (TupleItem image.relation tid) state.changes few chained
        (λ c is at off. let no = λ (held : Option Content) (which : (c.old ≡ held) ⊎ (c.new ≡ held)). by_test (keyed (key_in state.base.definitions image) key held) (λ e. absurd (off (keyed_by name image key there unique holds c is tid at held which e))) (λ e. e) in
        no c.old (inl refl) ∙ sym (no c.new (inr refl)))

    pub same_stands : (link : Name) (definition : LinkDef) (tid : Tid) (mode : Mode) → finite.get state.base.definitions.links link ≡ Some definition → Holds state.locks t (TupleItem definition.child tid) mode
        → (parent : Option Tid) → stands tid (content (after state.base.contents (up_to counts state.changes)) (ChainItem link parent)) ≡ stands tid (content (now state).contents (ChainItem link parent))
    same_stands link definition tid mode there holds parent = agree state.base.contents t counts (stands tid) (ChainItem link parent) state.changes few chained
        (λ c is at off. moved_by link definition tid mode there holds c is parent at off)

    pub same_below : (link relation : Name) (definition : LinkDef) (tid : Tid) → finite.get state.base.definitions.links link ≡ Some definition → definition.parent ≡ Some relation → Holds state.locks t (TupleItem relation tid) X
        → content (after state.base.contents (up_to counts state.changes)) (ChainItem link (Some tid)) ≡ content (now state).contents (ChainItem link (Some tid))
    same_below link relation definition tid there has holds = agree state.base.contents t counts (λ o. o) (ChainItem link (Some tid)) state.changes few chained
        (λ c is at off. absurd (off (below_by link relation definition tid there has holds c is at)))
