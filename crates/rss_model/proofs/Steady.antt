-- What a transaction has locked stands alike in the tables now, and in those that it would see alone.
use Rattle.std.proofs.Common.{◌≡◌, ◌⊎◌, inl, inr, ℕ, ◌+◌, true, List, [], ◌∷◌, length, refl, sym, ◌∙◌, ap, arith}
use Rattle.std.specs.Prelude.{Option, Some, nat_le}
use Rattle.std.specs.FinMap as finite
use Rattle.rss_base.specs.declared.name.Name.{Name}
use Rattle.rss_base.specs.declared.tid.Tid.{Tid}
use Rattle.rss_base.specs.declared.value.Value.{Value}
use Rattle.rss_base.specs.declared.item.Item.{Item}
use Rattle.rss_base.specs.declared.item.Item.TheVariants.{Relation as RelationItem, Tuple as TupleItem, Chain as ChainItem, Key as KeyItem}
use Rattle.rss_base.specs.declared.need.Mode.{Mode}
use Rattle.rss_base.specs.declared.need.Mode.TheVariants.{S, IX, X}
use Rattle.rss_model.specs.Items.{Content}
use Rattle.rss_model.specs.Tables.{ImageDef, LinkDef, Definitions, Contents, content}
use Rattle.rss_model.specs.Images.{key_in}
use Rattle.rss_model.specs.Changes.{Change, own, after, Chained}
use Rattle.rss_model.specs.Locks.{Locks, Holds, AreApart}
use Rattle.rss_model.specs.Machine.{State, now}
use Rattle.rss_model.proofs.LogLists.{by_test}
use Rattle.rss_model.proofs.LogChanging.{by_item, put_here, put_other}
use Rattle.rss_model.proofs.Locking.{one_holder}
use Rattle.rss_model.proofs.Mixing.{In, agree, with_count, count_here}
use Rattle.rss_model.proofs.Viewing.{keyed, stands, AreGuarded, changed_by, keyed_by, moved_by, below_by}
use Rattle.rss_model.proofs.ChangeKeeping.{not_many}
use Rattle.rss_model.proofs.EndKeeping.{in_own}
use Rattle.rss_model.proofs.StepKeeping.{own_up}

-- all that a transaction has locked
pub record Agrees (t : ℕ) (locks : Locks) (definitions : Definitions) (a b : Contents) : Type 0 where
  pub items : (i : Item) (m : Mode) → Holds locks t i m → content a i ≡ content b i
  pub keys : (name : Name) (image : ImageDef) (key : List Value) → finite.get definitions.images name ≡ Some image → image.is_unique ≡ true → Holds locks t (KeyItem name key) X
      → (tid : Tid) → keyed (key_in definitions image) key (content a (TupleItem image.relation tid)) ≡ keyed (key_in definitions image) key (content b (TupleItem image.relation tid))
  pub standing : (link : Name) (definition : LinkDef) (tid : Tid) (m : Mode) → finite.get definitions.links link ≡ Some definition → Holds locks t (TupleItem definition.child tid) m
      → (parent : Option Tid) → stands tid (content a (ChainItem link parent)) ≡ stands tid (content b (ChainItem link parent))
  pub below : (link relation : Name) (definition : LinkDef) (tid : Tid) → finite.get definitions.links link ≡ Some definition → definition.parent ≡ Some relation → Holds locks t (TupleItem relation tid) X
      → content a (ChainItem link (Some tid)) ≡ content b (ChainItem link (Some tid))
  pub rows : (relation : Name) → Holds locks t (RelationItem relation) S → (tid : Tid) → content a (TupleItem relation tid) ≡ content b (TupleItem relation tid)
  pub chains : (link : Name) (definition : LinkDef) → finite.get definitions.links link ≡ Some definition → Holds locks t (RelationItem definition.child) S
      → (parent : Option Tid) → content a (ChainItem link parent) ≡ content b (ChainItem link parent)

-- with fewer locks
pub agrees_less : {t : ℕ} {less more : Locks} {definitions : Definitions} {a b : Contents} → ((i : Item) (m : Mode) → Holds less t i m → Holds more t i m) → Agrees t more definitions a b → Agrees t less definitions a b
agrees_less up agrees = record {
  items = λ i m hold. agrees.items i m (up i m hold);
  keys = λ name image key there unique hold. agrees.keys name image key there unique (up _ _ hold);
  standing = λ link definition tid m there hold. agrees.standing link definition tid m there (up _ _ hold);
  below = λ link relation definition tid there has hold. agrees.below link relation definition tid there has (up _ _ hold);
  rows = λ relation hold. agrees.rows relation (up _ _ hold);
  chains = λ link definition there hold. agrees.chains link definition there (up _ _ hold);
}

pub agrees_itself : {t : ℕ} {locks : Locks} {definitions : Definitions} (a : Contents) → Agrees t locks definitions a a
agrees_itself a = record {
  items = λ i m hold. refl;
  keys = λ name image key there unique hold tid. refl;
  standing = λ link definition tid m there hold parent. refl;
  below = λ link relation definition tid there has hold. refl;
  rows = λ relation hold tid. refl;
  chains = λ link definition there hold parent. refl;
}

pub agrees_then : {t : ℕ} {locks : Locks} {definitions : Definitions} {a b c : Contents} → Agrees t locks definitions a b → Agrees t locks definitions b c → Agrees t locks definitions a c
agrees_then first second = record {
  items = λ i m hold. first.items i m hold ∙ second.items i m hold;
  keys = λ name image key there unique hold tid. first.keys name image key there unique hold tid ∙ second.keys name image key there unique hold tid;
  standing = λ link definition tid m there hold parent. first.standing link definition tid m there hold parent ∙ second.standing link definition tid m there hold parent;
  below = λ link relation definition tid there has hold. first.below link relation definition tid there has hold ∙ second.below link relation definition tid there has hold;
  rows = λ relation hold tid. first.rows relation hold tid ∙ second.rows relation hold tid;
  chains = λ link definition there hold parent. first.chains link definition there hold parent ∙ second.chains link definition there hold parent;
}

-- ---- what changes leave

pub after_alike : {B : Type 0} (f : Option Content → B) (a b : Contents) (i : Item) (cs : List Change) → f (content a i) ≡ f (content b i) → f (content (after a cs) i) ≡ f (content (after b cs) i)
after_alike f a b i [] same = same
after_alike f a b i (c ∷ cs) same = by_item i c.item
    (λ e. ap f (put_here (after a cs) c.item i c.new e ∙ sym (put_here (after b cs) c.item i c.new e)))
    (λ e. ap f (put_other (after a cs) c.item i c.new e) ∙ after_alike f a b i cs same ∙ ap f (sym (put_other (after b cs) c.item i c.new e)))

pub unmoved : {B : Type 0} (f : Option Content → B) (base : Contents) (i : Item) (cs : List Change) → Chained base cs → ((c : Change) → In c cs → c.item ≡ i → f c.old ≡ f c.new) → f (content (after base cs) i) ≡ f (content base i)
unmoved f base i [] chained same = refl
unmoved f base i (c ∷ cs) chained same =
    let rest = unmoved f base i cs chained.1 (λ d is. same d (inr is)) in
    by_item i c.item
    (λ e. ap f (put_here (after base cs) c.item i c.new e) ∙ sym (same c (inl refl) (sym e)) ∙ ap f (chained.0 ∙ ap (content (after base cs)) (sym e)) ∙ rest)
    (λ e. ap f (put_other (after base cs) c.item i c.new e) ∙ rest)

-- others leave what is looked at of an item
abbrev pub IsSteady : State → ℕ → {B : Type 0} → (Option Content → B) → Item → Type 0
IsSteady state t f i = (c : Change) → In c state.changes → c.item ≡ i → (c.by ≡ t → ⊥) → f c.old ≡ f c.new

module _ (state : State) (apart : AreApart state.locks) (guards : AreGuarded state) (chained : Chained state.base.contents state.changes) (t : ℕ) where
  steady_item : (i : Item) (m : Mode) → Holds state.locks t i m → IsSteady state t (λ o. o) i
  steady_item i m hold c is at off = absurd (off (changed_by state apart guards chained t i m hold c is at))

  steady_key : (name : Name) (image : ImageDef) (key : List Value) → finite.get state.base.definitions.images name ≡ Some image → image.is_unique ≡ true → Holds state.locks t (KeyItem name key) X
      → (tid : Tid) → IsSteady state t (keyed (key_in state.base.definitions image) key) (TupleItem image.relation tid)
  steady_key name image key there unique hold tid c is at off =
      let no = λ (held : Option Content) (which : (c.old ≡ held) ⊎ (c.new ≡ held)). by_test (keyed (key_in state.base.definitions image) key held) (λ e. absurd (off (keyed_by state apart guards chained t name image key there unique hold c is tid at held which e))) (λ e. e) in
      no c.old (inl refl) ∙ sym (no c.new (inr refl))

  steady_row : (relation : Name) → Holds state.locks t (RelationItem relation) S → (tid : Tid) → IsSteady state t (λ o. o) (TupleItem relation tid)
  steady_row relation hold tid c is at off = absurd (off (sym (one_holder state.locks apart t c.by (RelationItem relation) S IX hold ((guards c is).above relation tid at) refl)))

  steady_chain : (link : Name) (definition : LinkDef) → finite.get state.base.definitions.links link ≡ Some definition → Holds state.locks t (RelationItem definition.child) S → (parent : Option Tid) → IsSteady state t (λ o. o) (ChainItem link parent)
  steady_chain link definition there hold parent c is at off = absurd (off (sym (one_holder state.locks apart t c.by (RelationItem definition.child) S IX hold ((guards c is).members link parent definition at there) refl)))

  -- now, and with its own changes alone
  own_view : {B : Type 0} (f : Option Content → B) (i : Item) → IsSteady state t f i → f (content (now state).contents i) ≡ f (content (after state.base.contents (own t state.changes)) i)
  own_view f i steady =
      let n : ℕ = length state.changes + 1 in
      let few = not_many (length state.changes + 1) t state.changes (omega arith) in
      sym (ap (λ (l : List Change). f (content (after state.base.contents l) i)) (sym (own_up t n state.changes few))
      ∙ agree state.base.contents t (with_count t n (λ u. 0)) f i state.changes (ap (λ (k : ℕ). nat_le k (length (own t state.changes))) (count_here t n t (λ u. 0) refl) ∙ few) chained steady)

  now_view : {B : Type 0} (f : Option Content → B) (b : Contents) (i : Item) → IsSteady state t f i → f (content state.base.contents i) ≡ f (content b i)
      → f (content (now state).contents i) ≡ f (content (after b (own t state.changes)) i)
  now_view f b i steady same = own_view f i steady ∙ after_alike f state.base.contents b i (own t state.changes) same

  pub now_agrees : (b : Contents) → Agrees t state.locks state.base.definitions state.base.contents b → Agrees t state.locks state.base.definitions (now state).contents (after b (own t state.changes))
  now_agrees b agrees = record {
    items = λ i m hold. now_view (λ o. o) b i (steady_item i m hold) (agrees.items i m hold);
    keys = λ name image key there unique hold tid. now_view (keyed (key_in state.base.definitions image) key) b (TupleItem image.relation tid) (steady_key name image key there unique hold tid) (agrees.keys name image key there unique hold tid);
    standing = λ link definition tid m there hold parent. now_view (stands tid) b (ChainItem link parent) (λ c is at off. moved_by state apart guards chained t link definition tid m there hold c is parent at off) (agrees.standing link definition tid m there hold parent);
    below = λ link relation definition tid there has hold. now_view (λ o. o) b (ChainItem link (Some tid)) (λ c is at off. absurd (off (below_by state apart guards chained t link relation definition tid there has hold c is at))) (agrees.below link relation definition tid there has hold);
    rows = λ relation hold tid. now_view (λ o. o) b (TupleItem relation tid) (steady_row relation hold tid) (agrees.rows relation hold tid);
    chains = λ link definition there hold parent. now_view (λ o. o) b (ChainItem link parent) (steady_chain link definition there hold parent) (agrees.chains link definition there hold parent);
  }

  -- what another commits
  end_view : {B : Type 0} (v : ℕ) → (v ≡ t → ⊥) → (f : Option Content → B) (i : Item) → IsSteady state t f i → Chained state.base.contents (own v state.changes) → f (content (after state.base.contents (own v state.changes)) i) ≡ f (content state.base.contents i)
  end_view v off f i steady its = unmoved f state.base.contents i (own v state.changes) its (λ c is at. let of = in_own v state.changes c is in steady c of.0 at (λ e. off (sym of.1 ∙ e)))

  pub end_agrees : (v : ℕ) → (v ≡ t → ⊥) → Chained state.base.contents (own v state.changes) → Agrees t state.locks state.base.definitions state.base.contents (after state.base.contents (own v state.changes))
  end_agrees v off its = record {
    items = λ i m hold. sym (end_view v off (λ o. o) i (steady_item i m hold) its);
    keys = λ name image key there unique hold tid. sym (end_view v off (keyed (key_in state.base.definitions image) key) (TupleItem image.relation tid) (steady_key name image key there unique hold tid) its);
    standing = λ link definition tid m there hold parent. sym (end_view v off (stands tid) (ChainItem link parent) (λ c is at apart'. moved_by state apart guards chained t link definition tid m there hold c is parent at apart') its);
    below = λ link relation definition tid there has hold. sym (end_view v off (λ o. o) (ChainItem link (Some tid)) (λ c is at apart'. absurd (apart' (below_by state apart guards chained t link relation definition tid there has hold c is at))) its);
    rows = λ relation hold tid. sym (end_view v off (λ o. o) (TupleItem relation tid) (steady_row relation hold tid) its);
    chains = λ link definition there hold parent. sym (end_view v off (λ o. o) (ChainItem link parent) (steady_chain link definition there hold parent) its);
  }
