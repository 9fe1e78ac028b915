-- Chains as the machine has them, by the link of a number, and the records that tell of their changes.
use Rattle.std.proofs.Common.{◌≡◌, inl, inr, ℕ, ◌^◌, ◌<◌, true, false, List, [], ◌∷◌, refl, sym, ◌∙◌, ap, subst}
use Rattle.std.specs.Prelude.{Bool, ◌&&◌, not, Option, Some, None, is_some, option_map, option_and_then, unwrap_or, IfSome}
use Rattle.std.specs.FinMap as map
use Rattle.std.proofs.lemmas.Bool.{true≢false}
use Rattle.std.proofs.lemmas.Option.{none-some, same_Some}
use Rattle.rss_base.specs.Listings.{Listing, ListingFits, IsNumberOf, LinkFits, link_at, relation_at}
use Rattle.rss_base.specs.LogRecords.{IsChangeBounded, DoesChangeFit, HasSlot}
use Rattle.rss_base.specs.Prefixes.{is_tid, last_of}
use Rattle.rss_base.specs.declared.change.Change.TheVariants.{Connect, Disconnect}
use Rattle.rss_base.specs.declared.item.Item.{Item}
use Rattle.rss_base.specs.declared.item.Item.TheVariants.{Chain as ChainItem}
use Rattle.rss_base.specs.declared.link.LinkEntry.{LinkEntry}
use Rattle.rss_base.specs.declared.name.Name.{Name}
use Rattle.rss_base.specs.declared.refusal.Kind.TheVariants.{Link as LinkKind}
use Rattle.rss_base.specs.declared.relation.RelationEntry.{RelationEntry}
use Rattle.rss_base.specs.declared.spot.Spot.{Spot}
use Rattle.rss_base.specs.declared.spot.Spot.TheVariants.{First, Last, After}
use Rattle.rss_base.specs.declared.tid.Tid.{Tid}
use Rattle.rss_model.specs.Chains.{chain, chain_content, chain_with, has_spot, is_there, left_of, stands_in, tuples_in, with_behind, without, HasParent}
use Rattle.rss_model.specs.Fits.{Fits}
use Rattle.rss_model.specs.Items.{Content}
use Rattle.rss_stored.specs.LogLaws.{IsToldBy}
use Rattle.rss_model.specs.Machine.{State, now}
use Rattle.rss_model.specs.Meanings.{name_at, nameless}
use Rattle.rss_model.specs.Refusals.{connection, disconnection}
use Rattle.rss_stored.specs.Store.{Defines, link_definition, relation_name}
use Rattle.rss_model.specs.Tables.{Contents, Definitions, LinkDef, Tables, content}
use Rattle.rss_model.proofs.ChainKeeping.{chain_back, chain_found, in_chain}
use Rattle.rss_model.proofs.ChangeKeeping.{in_no_chain}
use Rattle.rss_model.proofs.Standing.{or_second, stands_of, stands_without, tid_itself, tid_same}
use Rattle.rss_model.proofs.LogLists.{by_test}
use Rattle.rss_model.proofs.Mixing.{In}
use Rattle.rss_catalog.proofs.Numbered.{numbered_map}

-- ---- the link of a number

-- it is listed, and defined so
pub record HasLink (listing : Listing) (name : Name) (number : ℕ) : Type 0 where
  pub entry : LinkEntry
  pub at : link_at listing number ≡ Some entry
  pub named : entry.name ≡ name

pub link_entry : (listing : Listing) (name : Name) (number : ℕ) → IsNumberOf LinkKind listing name number → HasLink listing name number
link_entry listing name number is = by (link_at listing number) refl
  where
    by : (found : Option LinkEntry) → link_at listing number ≡ found → HasLink listing name number
    by None at = absurd (none-some name (sym (numbered_map (λ (entry : LinkEntry). entry.name) listing.links number ∙ ap (option_map (λ (entry : LinkEntry). entry.name)) at) ∙ is))
    by (Some entry) at = record {
      entry = entry;
      at = at;
      named = same_Some _ _ (sym (numbered_map (λ (entry : LinkEntry). entry.name) listing.links number ∙ ap (option_map (λ (entry : LinkEntry). entry.name)) at) ∙ is);
    }

-- the relation that a number in it is of
pub some_entry : {A : Type 0} (found : Option A) → is_some found ≡ true → (a : A) × (found ≡ Some a)
some_entry None is = absurd (true≢false (sym is))
some_entry (Some a) is = (a, refl)

pub parent_entry : {A : Type 0} (at : ℕ → Option A) (P : ℕ → Type 0) (given : Option ℕ) (number : ℕ) → given ≡ Some number → IfSome given (λ n. (is_some (at n) ≡ true) × P n) → (a : A) × (at number ≡ Some a)
parent_entry at P None number is safe = absurd (none-some number is)
parent_entry at P (Some n) number is safe = let there = some_entry (at n) safe.0 in (there.0, ap at (sym (same_Some _ _ is)) ∙ there.1)

module _ {listing : Listing} {definitions : Definitions} (fits : ListingFits listing) (defines : Defines listing definitions) (name : Name) (number : ℕ) (known : IsNumberOf LinkKind listing name number) where
  abbrev pub has_link : HasLink listing name number
  has_link = link_entry listing name number known

  abbrev fit : LinkFits listing has_link.entry
  fit = fits.paths.links number has_link.entry has_link.at

  pub child_entry : (child : RelationEntry) × (relation_at listing has_link.entry.child ≡ Some child)
  child_entry = some_entry (relation_at listing has_link.entry.child) fit.child

  pub link_defined : map.get definitions.links name ≡ Some (link_definition listing has_link.entry child_entry.0)
  link_defined = ap (map.get definitions.links) (sym has_link.named) ∙ defines.paths.links number has_link.entry child_entry.0 (record { at = has_link.at; within = child_entry.1 })

  -- it has parents where the catalog lists their relation
  pub above_defined : (parent : Option ℕ) → has_link.entry.parent ≡ parent → is_some (option_and_then (relation_name listing) parent) ≡ is_some parent
  above_defined None is = refl
  above_defined (Some relation) is =
      let listed = subst (λ (p : Option ℕ). IfSome p (λ n. is_some (relation_at listing n) ≡ true)) is (only has_link.entry.parent fit.parent) in
      some_named (relation_at listing relation) listed
    where
      only : (parent : Option ℕ) → IfSome parent (λ n. (is_some (relation_at listing n) ≡ true) × (n ≡ has_link.entry.child → ⊥)) → IfSome parent (λ n. is_some (relation_at listing n) ≡ true)
      only None given = given
      only (Some n) given = given.0

      some_named : (found : Option RelationEntry) → is_some found ≡ true → is_some (option_map (λ (r : RelationEntry). r.name) found) ≡ true
      some_named None is = is
      some_named (Some r) is = refl

-- what is defined of a link that is listed so
pub record LinkIn (listing : Listing) (definitions : Definitions) (link : Name) (entry : LinkEntry) : Type 0 where
  pub definition : LinkDef
  pub defined : map.get definitions.links link ≡ Some definition
  pub above : definition.parent ≡ option_and_then (relation_name listing) entry.parent
  pub has_above : is_some definition.parent ≡ is_some entry.parent
  pub below : (child : RelationEntry) → relation_at listing entry.child ≡ Some child → definition.child ≡ child.name

pub link_shown : {listing : Listing} {definitions : Definitions} → ListingFits listing → Defines listing definitions → (link : Name) (number : ℕ) → IsNumberOf LinkKind listing link number → {entry : LinkEntry} → link_at listing number ≡ Some entry → LinkIn listing definitions link entry
link_shown {listing = listing} fits defines link number known {entry = entry} at =
    let same : (has_link fits defines link number known).entry ≡ entry = same_Some _ _ (sym (has_link fits defines link number known).at ∙ at) in
    let child = child_entry fits defines link number known in
    record {
      definition = link_definition listing (has_link fits defines link number known).entry child.0;
      defined = link_defined fits defines link number known;
      above = ap (λ (e : LinkEntry). option_and_then (relation_name listing) e.parent) same;
      has_above = above_defined fits defines link number known (has_link fits defines link number known).entry.parent refl ∙ ap (λ (e : LinkEntry). is_some e.parent) same;
      below = λ other there. ap (λ (r : RelationEntry). r.name) (same_Some _ _ (sym child.1 ∙ ap (λ (e : LinkEntry). relation_at listing e.child) same ∙ there));
    }

-- ---- where tuples stand

-- a tuple that stands in a chain stands in no other one of the link
pub chain_is : {slots : ℕ} {tables : Tables} → Fits slots tables → (link : Name) (child : Tid) (parent : Option Tid) → stands_in child (chain tables.contents link parent) ≡ true → chain_with tables.contents link child ≡ Some (ChainItem link parent)
chain_is {tables = tables} fits link child parent stands = by (chain_with tables.contents link child) refl
  where
    by : (found : Option Item) → chain_with tables.contents link child ≡ found → chain_with tables.contents link child ≡ Some (ChainItem link parent)
    by None is = absurd (true≢false (sym stands ∙ in_no_chain tables.contents link child is parent))
    by (Some item) is =
        let other = chain_found tables.contents link child item is in
        is ∙ ap Some (other.1 ∙ ap (ChainItem link) (fits.links.alone link other.0 parent child other.2 stands))

in_of : (tids : List Tid) (tid : Tid) → stands_in tid tids ≡ true → In tid tids
in_of [] tid is = absurd (cc (is))
in_of (other ∷ tids) tid is = by_test (is_tid tid other)
    (λ e. inl (sym (tid_same tid other e)))
    (λ e. inr (in_of tids tid (rw e at is)))

-- what it says
module _ {slots : ℕ} {tables : Tables} (fits : Fits slots tables) (link : Name) (child : Tid) (parent : Option Tid) {definition : LinkDef} (defined : map.get tables.definitions.links link ≡ Some definition) (stands : stands_in child (chain tables.contents link parent) ≡ true) where
  pub member_there : is_there tables.contents definition.child child ≡ true
  member_there = (in_chain fits link parent child definition defined stands).0 child (in_of (chain tables.contents link parent) child stands)

  pub parent_there : HasParent tables.contents definition.parent parent
  parent_there = (in_chain fits link parent child definition defined stands).1

-- identifiers of tuples that are there
pub above_slot : {slots : ℕ} {tables : Tables} → Fits slots tables → (above : Option Name) (parent : Option Tid) → HasParent tables.contents above parent → IfSome parent HasSlot
above_slot fits above None under = tt
above_slot fits None (Some p) under = absurd under
above_slot fits (Some relation) (Some p) under = (fits.tids relation p under).slot

module _ {slots : ℕ} {tables : Tables} (fits : Fits slots tables) (link : Name) (parent : Option Tid) (x : Tid) (stands : stands_in x (chain tables.contents link parent) ≡ true) where
  its_chain : (held : Content) × (content tables.contents (ChainItem link parent) ≡ Some held)
  its_chain = by (content tables.contents (ChainItem link parent)) refl stands
    where
      by : (o : Option Content) → content tables.contents (ChainItem link parent) ≡ o → stands_in x (tuples_in o) ≡ true → (held : Content) × (content tables.contents (ChainItem link parent) ≡ Some held)
      by None is on = absurd (cc (on))
      by (Some held) is on = (held, is)

  pub member_slot : HasSlot x
  member_slot =
      let of = fits.links.chains link parent its_chain.0 its_chain.1 in
      (fits.tids of.definition.child x (member_there fits link x parent of.defined stands)).slot

  pub parent_slot : IfSome parent HasSlot
  parent_slot =
      let of = fits.links.chains link parent its_chain.0 its_chain.1 in
      above_slot fits of.definition.parent parent of.under

-- the parent of the chain in which a tuple is found
pub parent_in : {slots : ℕ} {tables : Tables} → Fits slots tables → (link : Name) (child : Tid) (parent : Option Tid) {definition : LinkDef} → map.get tables.definitions.links link ≡ Some definition → chain_with tables.contents link child ≡ Some (ChainItem link parent) → HasParent tables.contents definition.parent parent
parent_in {tables = tables} fits link child parent {definition = definition} defined found =
    let of = chain_found tables.contents link child (ChainItem link parent) found in
    let same : ChainItem link parent ≡ ChainItem link of.0 = of.1 in
    let one : parent ≡ of.0 = cc (same) in
    subst (HasParent tables.contents definition.parent) (sym one) (parent_there fits link child of.0 defined of.2)

-- a parent is given exactly where the link has parents
pub form_there : (contents : Contents) (above : Option Name) (parent : Option Tid) → HasParent contents above parent → is_some above ≡ is_some parent
form_there contents None None has = refl
form_there contents None (Some p) has = absurd has
form_there contents (Some relation) None has = absurd has
form_there contents (Some relation) (Some p) has = refl

-- ---- spots

-- the last tuple of a chain stands in it
last_stands : (tids : List Tid) → IfSome (last_of tids) (λ tid. stands_in tid tids ≡ true)
last_stands [] = tt
last_stands (tid ∷ []) = stands_of (tid ∷ []) tid (inl refl)
last_stands (tid ∷ other ∷ tids) = more (last_of (other ∷ tids)) (last_stands (other ∷ tids))
  where
    more : (o : Option Tid) → IfSome o (λ x. stands_in x (other ∷ tids) ≡ true) → IfSome o (λ x. stands_in x (tid ∷ other ∷ tids) ≡ true)
    more None is = is
    more (Some x) is = or_second (is_tid x tid) (stands_in x (other ∷ tids)) is

-- and so does the tuple behind which a spot is
pub spot_stands : (spot : Spot) (tids : List Tid) → has_spot spot tids ≡ true → IfSome (left_of spot tids) (λ tid. stands_in tid tids ≡ true)
spot_stands First tids is = tt
spot_stands Last tids is = last_stands tids
spot_stands (After tid) tids is = is

-- each tuple behind which a spot is has an identifier of tuples
pub spot_slot : {slots : ℕ} {tables : Tables} → Fits slots tables → (link : Name) (parent : Option Tid) (spot : Spot) → has_spot spot (chain tables.contents link parent) ≡ true → IfSome (left_of spot (chain tables.contents link parent)) HasSlot
spot_slot {tables = tables} fits link parent spot there = by (left_of spot (chain tables.contents link parent)) (spot_stands spot (chain tables.contents link parent) there)
  where
    by : (left : Option Tid) → IfSome left (λ tid. stands_in tid (chain tables.contents link parent) ≡ true) → IfSome left HasSlot
    by None is = tt
    by (Some tid) is = member_slot fits link parent tid is

-- and so has the one behind which a tuple stands
pub left_slot : {slots : ℕ} {tables : Tables} → Fits slots tables → (link : Name) (parent : Option Tid) (child : Tid) (left : Option Tid) → IfSome left (λ tid. stands_in tid (without child (chain tables.contents link parent)) ≡ true) → IfSome left HasSlot
left_slot fits link parent child None behind = tt
left_slot {tables = tables} fits link parent child (Some tid) behind =
    member_slot fits link parent tid (first_of_both (stands_in tid (chain tables.contents link parent)) _ (sym (stands_without child (chain tables.contents link parent) tid) ∙ behind))
  where
    first_of_both : (a b : Bool) → (a && b) ≡ true → a ≡ true
    first_of_both true b both = refl
    first_of_both false b both = absurd (cc (both))

-- ---- records

-- the link of a number goes by its name
chain_named : (listing : Listing) {link : Name} (number : ℕ) → IsNumberOf LinkKind listing link number → (parent : Option Tid) → ChainItem link parent ≡ ChainItem (name_at LinkKind listing number) parent
chain_named listing number known parent = ap (λ (name : Name). ChainItem name parent) (sym (ap (λ (o : Option Name). unwrap_or o (nameless number)) known))

module _ {listing : Listing} {link : Name} {number : ℕ} (known : IsNumberOf LinkKind listing link number) {entry : LinkEntry} (at : link_at listing number ≡ Some entry) (t : ℕ) (small : t < 2 ^ 32) (parent : Option Tid) (form : is_some entry.parent ≡ is_some parent) (child : Tid) (left : Option Tid) where
  -- the record of a tuple that comes into a chain
  pub tells_connect : (state : State) (spot : Spot) → stands_in child (chain (now state).contents link parent) ≡ false → has_spot spot (chain (now state).contents link parent) ≡ true → left ≡ left_of spot (chain (now state).contents link parent)
      → IsChangeBounded (Connect number parent child left) → DoesChangeFit (Connect number parent child left) → IsToldBy listing (Connect number parent child left) (connection state t link child parent spot)
  tells_connect state spot outside there behind bounded fits = record {
    tells = record { maker = refl; item = chain_named listing number known parent };
    means = record {
      link = entry;
      tids = chain (now state).contents link parent;
      at = at;
      form = form;
      apart = outside;
      behind = subst (λ (l : Option Tid). IfSome l (λ tid. stands_in tid (chain (now state).contents link parent) ≡ true)) (sym behind) (spot_stands spot (chain (now state).contents link parent) there);
      without = refl;
      with = ap (λ (l : Option Tid). chain_content (with_behind l child (chain (now state).contents link parent))) (sym behind);
    };
    spellable = record { bounded = bounded; fits = (small, fits) };
  }

  -- and of one that goes out of it
  pub tells_disconnect : (state : State) → IfSome left (λ tid. stands_in tid (without child (chain (now state).contents link parent)) ≡ true) → chain (now state).contents link parent ≡ with_behind left child (without child (chain (now state).contents link parent))
      → IsChangeBounded (Disconnect number parent child left) → DoesChangeFit (Disconnect number parent child left) → IsToldBy listing (Disconnect number parent child left) (disconnection state t (ChainItem link parent) child)
  tells_disconnect state behind is bounded fits = record {
    tells = record { maker = refl; item = chain_named listing number known parent };
    means = record {
      link = entry;
      tids = without child (chain (now state).contents link parent);
      at = at;
      form = form;
      apart = stands_without child (chain (now state).contents link parent) child ∙ ap (λ (b : Bool). stands_in child (chain (now state).contents link parent) && not b) (tid_itself child) ∙ and_false (stands_in child (chain (now state).contents link parent));
      behind = behind;
      without = refl;
      with = ap chain_content is;
    };
    spellable = record { bounded = bounded; fits = (small, fits) };
  }
    where
      and_false : (b : Bool) → (b && false) ≡ false
      and_false true = refl
      and_false false = refl

-- a change of a chain finds what is there
pub finds_chain : {slots : ℕ} {tables : Tables} → Fits slots tables → (link : Name) (parent : Option Tid) → chain_content (chain tables.contents link parent) ≡ content tables.contents (ChainItem link parent)
finds_chain fits link parent = chain_back fits link parent
