-- What is kept where a tuple comes into a chain, or goes out of it.
use Rattle.std.proofs.lemmas.Bool.{and_parts}
use Rattle.std.proofs.Common.{◌≡◌, ◌⊎◌, inl, inr, ⊎_elim, ℕ, ◌≤◌, Bool, true, false, List, [], ◌∷◌, ◌++◌, length, refl, sym, ◌∙◌, ap, subst, arith}
use Rattle.std.specs.Prelude.{Option, Some, None, IfSome, is_some, ◌&&◌}
use Rattle.std.specs.FinMap as finite
use Rattle.std.proofs.lemmas.Option.{same_Some}
use Rattle.std.proofs.lemmas.List.Sums.{sum_by-cons}
use Rattle.std.specs.Cmp.{Equal-is}
use Rattle.rss_base.specs.declared.name.Name.{Name}
use Rattle.rss_base.specs.declared.tid.Tid.{Tid}
use Rattle.rss_base.specs.declared.spot.Spot.{Spot}
use Rattle.rss_base.specs.declared.spot.Spot.TheVariants.{First, Last, After}
use Rattle.rss_base.specs.declared.item.Item.{Item}
use Rattle.rss_base.specs.declared.item.Item.TheVariants.{Segment, Relation, Tuple, Chain, Key}
use Rattle.rss_base.specs.declared.need.Need.{Need}
use Rattle.rss_base.specs.declared.need.Mode.{Mode}
use Rattle.rss_base.specs.declared.need.Mode.TheVariants.{S, IX, X}
use Rattle.rss_base.specs.declared.call.Call.TheVariants.{Connect, Disconnect}
use Rattle.rss_base.specs.Prefixes.{is_tid, last_of}
use Rattle.rss_model.specs.Items.{Content, Tuples, name_cmp, is_chain_of}
use Rattle.rss_model.specs.Tables.{LinkDef, Tables, Contents, content}
use Rattle.rss_model.specs.Chains.{tuples_in, chain_content, chain, stands_in, chain_with, has_tuple, with_behind, without, left_of, has_spot, is_there, HasParent, StandOnce}
use Rattle.rss_model.specs.Changes.{Change, IsChange, is_delete_of}
use Rattle.rss_model.specs.Changes.IsChange.{connect, disconnect}
use Rattle.rss_model.specs.Fits.{Fits, tuple_limit}
use Rattle.rss_model.specs.Locks.{Holds, granted}
use Rattle.rss_model.specs.Machine.{State, with_changes, now}
use Rattle.rss_model.specs.Needs.{need, needs, reading, changing, tuple_read, tuple_changed, chain_needs, needs_of_chain, connect_needs, disconnect_needs}
use Rattle.rss_model.specs.Refusals.{tests, refusal, is_same, has_form, link_of, chain_change, connection, disconnection, used_tuples, unless_child, unless_parent, unless_live_below, is_in_chain}
use Rattle.rss_model.specs.Steps.{is_open, changed, locked}
use Rattle.rss_model.specs.Kept.{up_to, IsGuarded, Kept}
use Rattle.rss_model.proofs.Codes.{name_apart}
use Rattle.rss_model.proofs.Counts.{one_if, counts_same}
use Rattle.rss_model.proofs.LogLists.{false_true, none_some, some_of}
use Rattle.rss_model.proofs.Locking.{holds_it, find_in}
use Rattle.rss_model.proofs.Mixing.{In, in_left, in_right, each_of, many}
use Rattle.rss_model.proofs.OpenKeeping.{keeps_granted}
use Rattle.rss_model.proofs.Refitting.{fits_chain, chain_parts}
use Rattle.rss_model.proofs.Standing.{or_second, by_tid, tid_itself, stands_of, stands_behind, in_behind, once_behind, in_without, stands_without, once_without, tuples_of, tid_apart}
use Rattle.rss_model.proofs.Testing.{all_none, holds, holds_not, clears, relation_need}
use Rattle.rss_model.proofs.Viewing.{stands, same_held, same_stands}
use Rattle.rss_model.proofs.ChangeKeeping.{guards_of, now_fits, keeps_change, in_no_chain}

-- ---- chains of tables that fit

some_held : (o : Option Content) (x : Tid) → stands_in x (tuples_in o) ≡ true → (held : Content) × (o ≡ Some held)
some_held None x is = absurd (cc (is))
some_held (Some held) x is = (held, refl)

module _ {slots : ℕ} {tables : Tables} (fit : Fits slots tables) (link : Name) (parent : Option Tid) where
  pub its_tuples : (held : Content) (is : content tables.contents (Chain link parent) ≡ Some held) → (fit.links.chains link parent held is).tids ≡ chain tables.contents link parent
  its_tuples held is = sym (ap tuples_in is ∙ ap (λ (c : Content). tuples_in (Some c)) (fit.links.chains link parent held is).is)

  pub chain_once : StandOnce (chain tables.contents link parent)
  chain_once = by (content tables.contents (Chain link parent)) refl
    where
      by : (o : Option Content) → content tables.contents (Chain link parent) ≡ o → StandOnce (tuples_in (content tables.contents (Chain link parent)))
      by None is = subst (λ (o : Option Content). StandOnce (tuples_in o)) (sym is) tt
      by (Some held) is = subst StandOnce (its_tuples held is) (fit.links.chains link parent held is).once

  pub chain_back : chain_content (chain tables.contents link parent) ≡ content tables.contents (Chain link parent)
  chain_back = by (content tables.contents (Chain link parent)) refl
    where
      again : (tids : List Tid) → 1 ≤ length tids → chain_content tids ≡ Some (Tuples tids)
      again [] some = absurd (omega (arith, some))
      again (tid ∷ tids) some = refl

      by : (o : Option Content) → content tables.contents (Chain link parent) ≡ o → chain_content (tuples_in (content tables.contents (Chain link parent))) ≡ content tables.contents (Chain link parent)
      by None is = ap (λ (o : Option Content). chain_content (tuples_in o)) is ∙ sym is
      by (Some held) is =
          let of = fit.links.chains link parent held is in
          ap chain_content (sym (its_tuples held is)) ∙ again of.tids of.some ∙ ap (λ (c : Content). Some c) (sym of.is) ∙ sym is

  -- what a tuple in it says
  pub in_chain : (x : Tid) (definition : LinkDef) → finite.get tables.definitions.links link ≡ Some definition → stands_in x (chain tables.contents link parent) ≡ true
      → ((y : Tid) → In y (chain tables.contents link parent) → is_there tables.contents definition.child y ≡ true) × HasParent tables.contents definition.parent parent
  in_chain x definition defined is =
      let held = some_held (content tables.contents (Chain link parent)) x is in
      let of = fit.links.chains link parent held.0 held.1 in
      let same : of.definition ≡ definition = same_Some _ _ (sym of.defined ∙ defined) in (
        (λ y is_in. subst (λ (d : LinkDef). is_there tables.contents d.child y ≡ true) same (each_of (λ z. is_there tables.contents of.definition.child z ≡ true) of.tids of.members y (subst (In y) (sym (its_tuples held.0 held.1)) is_in))),
        subst (λ (d : LinkDef). HasParent tables.contents d.parent parent) same of.under,
      )

-- ---- a chain that changes

module _ {old : State} (kept : Kept old) (t : ℕ) (link : Name) (parent : Option Tid) (child : Tid) (definition : LinkDef) (new : List Tid) (over : ℕ) (list : List Need) (opened : is_open old t ≡ true)
    (mid_kept : Kept (record old { locks = granted t list old.locks })) (defined : finite.get old.base.definitions.links link ≡ Some definition)
    (kind : IsChange (chain_change t (Chain link parent) (chain (now old).contents link parent) new))
    (needs_chain : In (need (Chain link parent) X) list) (needs_child : In (need (Tuple definition.child child) X) list) (needs_relation : In (need (Relation definition.child) IX) list)
    (needs_parent : (relation : Name) (p : Tid) → definition.parent ≡ Some relation → parent ≡ Some p → In (need (Tuple relation p) S) list)
    (moves : (x : Tid) → (x ≡ child → ⊥) → stands_in x new ≡ stands_in x (chain (now old).contents link parent))
    (members : (x : Tid) → In x new → ((x ≡ child) × (is_there (now old).contents definition.child child ≡ true)) ⊎ In x (chain (now old).contents link parent))
    (once : StandOnce (chain (now old).contents link parent) → StandOnce new)
    (under : (tables : Tables) → Fits old.size.slots tables → finite.get tables.definitions.links link ≡ Some definition → chain tables.contents link parent ≡ chain (now old).contents link parent
    → ((relation : Name) (p : Tid) → definition.parent ≡ Some relation → parent ≡ Some p → content tables.contents (Tuple relation p) ≡ content (now old).contents (Tuple relation p)) → HasParent tables.contents definition.parent parent)
    (lone : stands_in child new ≡ true → (other : Option Tid) → stands_in child (chain (now old).contents link other) ≡ false) where
  abbrev mid : State
  mid = record old { locks = granted t list old.locks }

  abbrev change : Change
  change = chain_change t (Chain link parent) (chain (now old).contents link parent) new

  its : (n : Need) → In n list → Holds mid.locks t n.item n.mode
  its n is = holds_it t list old.locks n is

  same_link : (l : Name) (d : LinkDef) → link ≡ l → finite.get old.base.definitions.links l ≡ Some d → definition ≡ d
  same_link l d e there = same_Some _ _ (sym defined ∙ ap (finite.get old.base.definitions.links) e ∙ there)

  guard : IsGuarded mid change
  guard = record {
    item = its (need (Chain link parent) X) needs_chain;
    above = λ relation tid at. absurd (cc (at));
    keys = λ relation tid at. absurd (cc (at));
    child = λ l p d tid at there moved. by_tid tid child
        (λ e. subst (λ (x : Tid). Holds mid.locks t (Tuple d.child x) X) (sym e) (subst (λ (k : LinkDef). Holds mid.locks t (Tuple k.child child) X) (same_link l d (chain_parts at).0 there) (its (need (Tuple definition.child child) X) needs_child)))
        (λ e. absurd (moved (ap (stands_in tid) (tuples_of (chain (now old).contents link parent)) ∙ sym (moves tid e) ∙ ap (stands_in tid) (sym (tuples_of new)))));
    members = λ l p d at there. subst (λ (k : LinkDef). Holds mid.locks t (Relation k.child) IX) (same_link l d (chain_parts at).0 there) (its (need (Relation definition.child) IX) needs_relation);
    parent = λ l relation tid d at there has. its (need (Tuple relation tid) S) (needs_parent relation tid (ap (λ (k : LinkDef). k.parent) (same_link l d (chain_parts at).0 there) ∙ has) (chain_parts at).1);
  }

  counted : (relation : Name) → used_tuples (changed change over mid) relation ≤ tuple_limit
  counted relation =
      let more = sum_by-cons (λ (c : Change). one_if (is_delete_of relation c)) change old.changes in
      omega (arith, more, counts_same (now old).contents (Chain link parent) (chain_content new) relation refl, kept.counted relation)

  fits : (counts : ℕ → ℕ) → many counts t old.changes ≡ false → Fits old.size.slots (with_changes old.base (up_to counts old.changes)) → Fits old.size.slots (with_changes old.base (change ∷ up_to counts old.changes))
  fits counts few fit =
      let tables : Tables = with_changes old.base (up_to counts old.changes) in
      let held = λ (i : Item) (mode : Mode) (hold : Holds mid.locks t i mode). same_held mid mid_kept.apart (guards_of mid_kept) mid_kept.chained t counts few i mode hold in
      let same : chain tables.contents link parent ≡ chain (now old).contents link parent = ap tuples_in (held (Chain link parent) X guard.item) in
      let here = its (need (Tuple definition.child child) X) needs_child in
      fits_chain fit link parent definition new defined
      (λ x is. ⊎_elim
      (λ e. ap (λ (y : Tid). is_there tables.contents definition.child y) e.0 ∙ ap is_some (held (Tuple definition.child child) X here) ∙ e.1)
      (λ i. let was : In x (chain tables.contents link parent) = subst (In x) (sym same) i in (in_chain fit link parent x definition defined (stands_of _ x was)).0 x was)
      (members x is))
      (once (subst StandOnce same (chain_once fit link parent)))
      (λ some. under tables fit defined same (λ relation p has at. held (Tuple relation p) S (its (need (Tuple relation p) S) (needs_parent relation p has at))))
      (λ x other in_new in_other. by_tid x child
      (λ e. let seen = same_stands mid mid_kept.apart (guards_of mid_kept) mid_kept.chained t counts few link definition child X defined here other in
      false_true (subst (λ (y : Tid). stands_in y (chain tables.contents link other) ≡ true) e in_other) (seen ∙ lone (subst (λ (y : Tid). stands_in y new ≡ true) e in_new) other))
      (λ e. fit.links.alone link other parent x in_other (ap (stands_in x) same ∙ sym (moves x e) ∙ in_new)))

  pub keeps_chain : Kept (changed (chain_change t (Chain link parent) (chain (now old).contents link parent) new) over (record old { locks = granted t list old.locks }))
  keeps_chain = keeps_change mid_kept change over opened kind (chain_back (now_fits old kept.fit) link parent) guard counted (λ counts few fit less. fits counts few fit)

-- ---- what a call needs of a chain

module _ (tables : Tables) (link : Name) where
  pub needs_it : (above : Option Name) (parent : Option Tid) → is_same (is_some above) (is_some parent) ≡ true → In (need (Chain link parent) X) (chain_needs tables link above parent)
  needs_it None None form = inl refl
  needs_it None (Some p) form = absurd (cc (form))
  needs_it (Some relation) None form = absurd (cc (form))
  needs_it (Some relation) (Some p) form = in_right (tuple_read tables relation p) (need (Chain link (Some p)) X ∷ []) _ (inl refl)

  pub needs_above : (above : Option Name) (parent : Option Tid) (relation : Name) (p : Tid) → above ≡ Some relation → parent ≡ Some p → In (need (Tuple relation p) S) (chain_needs tables link above parent)
  needs_above None parent relation p has at = none_some has
  needs_above (Some other) None relation p has at = none_some at
  needs_above (Some other) (Some q) relation p has at =
      let same : need (Tuple other q) S ≡ need (Tuple relation p) S = λ i. need (Tuple (same_Some _ _ has i) (same_Some _ _ at i)) S in
      in_left (tuple_read tables other q) (need (Chain link (Some q)) X ∷ []) _ (in_right (reading tables other) (need (Tuple other q) S ∷ []) _ (inl same))

  pub child_needs : (relation : Name) (child : Tid) → In (need (Tuple relation child) X) (tuple_changed tables relation child) × In (need (Relation relation) IX) (tuple_changed tables relation child)
  child_needs relation child = (
    in_right (changing tables relation) (need (Tuple relation child) X ∷ []) _ (inl refl),
    in_left (changing tables relation) (need (Tuple relation child) X ∷ []) _ (relation_need tables relation IX IX),
  )

pub form_of : (link : Option LinkDef) (given : Bool) → has_form link given ≡ true → (definition : LinkDef) × (link ≡ Some definition) × (is_same (is_some definition.parent) given ≡ true)
form_of None given is = absurd (cc (is))
form_of (Some definition) given is = (definition, refl, is)

form_has : (contents : Contents) (above : Option Name) (parent : Option Tid) → HasParent contents above parent → is_same (is_some above) (is_some parent) ≡ true
form_has contents None None has = refl
form_has contents None (Some p) has = absurd has
form_has contents (Some relation) None has = absurd has
form_has contents (Some relation) (Some p) has = refl

-- ---- connect

last_stands : (tids : List Tid) → IfSome (last_of tids) (λ tid. stands_in tid tids ≡ true)
last_stands [] = tt
last_stands (tid ∷ []) = stands_of (tid ∷ []) tid (inl refl)
last_stands (tid ∷ other ∷ tids) = more (last_of (other ∷ tids)) (last_stands (other ∷ tids))
  where
    more : (o : Option Tid) → IfSome o (λ x. stands_in x (other ∷ tids) ≡ true) → IfSome o (λ x. stands_in x (tid ∷ other ∷ tids) ≡ true)
    more None is = is
    more (Some x) is = or_second (is_tid x tid) (stands_in x (other ∷ tids)) is

spot_stands : (spot : Spot) (tids : List Tid) → has_spot spot tids ≡ true → IfSome (left_of spot tids) (λ tid. stands_in tid tids ≡ true)
spot_stands First tids is = tt
spot_stands Last tids is = last_stands tids
spot_stands (After tid) tids is = is

module _ {old : State} (kept : Kept old) (t : ℕ) (link : Name) (child : Tid) (parent : Option Tid) (spot : Spot) (over : ℕ) (is : refusal old (Connect t link child parent spot) ≡ None) where
  abbrev tids : List Tid
  tids = chain (now old).contents link parent

  abbrev left : Option Tid
  left = left_of spot tids

  abbrev list : List Need
  list = needs (now old) (Connect t link child parent spot)

  pub keeps_connect : Kept (changed (connection old t link child parent spot) over (locked (Connect t link child parent spot) old))
  keeps_connect =
      let passed = all_none (tests old (Connect t link child parent spot)) is in
      let form = form_of (link_of old link) (is_some parent) (holds (has_form (link_of old link) (is_some parent)) _ (passed 1 None (omega arith))) in
      let definition : LinkDef = form.0 in
      let here = λ (n : Need) (of : In n (connect_needs (now old) link child parent (Some definition))). subst (λ (o : Option LinkDef). In n (connect_needs (now old) link child parent o)) (sym form.1) of in
      let live : is_some (content (now old).contents (Tuple definition.child child)) ≡ true = holds (is_some (content (now old).contents (Tuple definition.child child))) _ (subst (λ (o : Option LinkDef). unless_child old o child ≡ None) form.1 (passed 3 None (omega arith))) in
      let free : (other : Option Tid) → stands child (content (now old).contents (Chain link other)) ≡ false = in_no_chain (now old).contents link child (no_some _ (holds_not (is_in_chain old link child) _ (passed 5 None (omega arith)))) in
      let off : stands_in child (tuples_in (chain_content tids)) ≡ false = ap (stands_in child) (tuples_of tids) ∙ free parent in
      keeps_chain kept t link parent child definition (with_behind left child tids) over list (holds (is_open old t) _ (passed 0 None (omega arith)))
      (keeps_granted kept t list (clears old t (Connect t link child parent spot) None refl is (tt {0}))) form.1
      (connect {link = link} {parent = parent} refl (record {
        child = child;
        left = left;
        off = off;
        behind = subst (λ (l : List Tid). IfSome left (λ tid. stands_in tid l ≡ true)) (sym (tuples_of tids)) (spot_stands spot tids (holds (has_spot spot tids) _ (passed 6 None (omega arith))));
        new = ap (λ (l : List Tid). chain_content (with_behind left child l)) (sym (tuples_of tids));
      }))
      (here _ (in_right (tuple_changed (now old) definition.child child) (chain_needs (now old) link definition.parent parent) _ (needs_it (now old) link definition.parent parent form.2)))
      (here _ (in_left (tuple_changed (now old) definition.child child) (chain_needs (now old) link definition.parent parent) _ (child_needs (now old) link definition.child child).0))
      (here _ (in_left (tuple_changed (now old) definition.child child) (chain_needs (now old) link definition.parent parent) _ (child_needs (now old) link definition.child child).1))
      (λ relation p has at. here _ (in_right (tuple_changed (now old) definition.child child) (chain_needs (now old) link definition.parent parent) _ (needs_above (now old) link definition.parent parent relation p has at)))
      (λ x e. stands_behind left child tids x ∙ rw (tid_apart x child e))
      (λ x in_new. ⊎_elim (λ e. inl (sym e, live)) (λ i. inr i) (in_behind left child tids x in_new))
      (λ once. once_behind left child tids (free parent) once)
      (λ tables fit defined same above. has_above tables definition.parent parent form.2 (subst (λ (o : Option LinkDef). unless_parent old o parent ≡ None) form.1 (passed 4 None (omega arith))) above)
      (λ in_new other. free other)
    where
      no_some : {A : Type 0} (o : Option A) → is_some o ≡ false → o ≡ None
      no_some None e = refl
      no_some (Some a) e = absurd (cc (e))

      has_above : (tables : Tables) (above : Option Name) (parent : Option Tid) → is_same (is_some above) (is_some parent) ≡ true → unless_live_below old above parent ≡ None
          → ((relation : Name) (p : Tid) → above ≡ Some relation → parent ≡ Some p → content tables.contents (Tuple relation p) ≡ content (now old).contents (Tuple relation p)) → HasParent tables.contents above parent
      has_above tables None None form passed same = tt
      has_above tables None (Some p) form passed same = absurd (cc (form))
      has_above tables (Some relation) None form passed same = absurd (cc (form))
      has_above tables (Some relation) (Some p) form passed same = ap is_some (same relation p refl refl) ∙ holds (is_some (content (now old).contents (Tuple relation p))) _ passed

-- ---- disconnect

chain_item : (link : Name) (item : Item) → is_chain_of link item ≡ true → (parent : Option Tid) × (item ≡ Chain link parent)
chain_item link (Segment name) is = absurd (cc (is))
chain_item link (Relation name) is = absurd (cc (is))
chain_item link (Tuple relation tid) is = absurd (cc (is))
chain_item link (Chain name parent) is = (parent, ap (λ (n : Name). Chain n parent) (sym (name_apart link name ((Equal-is (name_cmp link name)).0 is))))
chain_item link (Key image values) is = absurd (cc (is))

-- the chain of the link that has a tuple
pub chain_found : (contents : Contents) (link : Name) (child : Tid) (item : Item) → chain_with contents link child ≡ Some item → (parent : Option Tid) × (item ≡ Chain link parent) × (stands_in child (chain contents link parent) ≡ true)
unfolding chain_with
chain_found contents link child item found =
    let has = and_parts _ _ (find_in (has_tuple contents link child) (finite.keys contents) item found).1 in
    let form = chain_item link item has.0 in
    (form.0, form.1, subst (λ (i : Item). stands_in child (tuples_in (content contents i)) ≡ true) form.1 has.1)

module _ {old : State} (kept : Kept old) (t : ℕ) (link : Name) (child : Tid) (over : ℕ) (is : refusal old (Disconnect t link child) ≡ None) where
  at_chain : (parent : Option Tid) → chain_with (now old).contents link child ≡ Some (Chain link parent) → stands_in child (chain (now old).contents link parent) ≡ true
      → Kept (changed (disconnection old t (Chain link parent) child) over (locked (Disconnect t link child) old))
  at_chain parent found on =
      let passed = all_none (tests old (Disconnect t link child)) is in
      let list : List Need = needs (now old) (Disconnect t link child) in
      let tids : List Tid = chain (now old).contents link parent in
      let there = some_of (link_of old link) (holds (is_some (link_of old link)) _ (passed 1 None (omega arith))) in
      let definition : LinkDef = there.0 in
      let form : is_same (is_some definition.parent) (is_some parent) ≡ true = form_has (now old).contents definition.parent parent (in_chain (now_fits old kept.fit) link parent child definition there.1 on).1 in
      let here = λ (n : Need) (of : In n (tuple_changed (now old) definition.child child ++ chain_needs (now old) link definition.parent parent)).
      subst (λ (o : Option LinkDef). In n (disconnect_needs (now old) link child o)) (sym there.1)
      (subst (λ (o : Option Item). In n (tuple_changed (now old) definition.child child ++ needs_of_chain (now old) link definition o)) (sym found) of) in
      keeps_chain kept t link parent child definition (without child (chain (now old).contents link parent)) over (needs (now old) (Disconnect t link child)) (holds (is_open old t) _ (passed 0 None (omega arith)))
      (keeps_granted kept t (needs (now old) (Disconnect t link child)) (clears old t (Disconnect t link child) None refl is (tt {0}))) there.1
      (disconnect {link = link} {parent = parent} refl (record {
        child = child;
        on = ap (stands_in child) (tuples_of (chain (now old).contents link parent)) ∙ on;
        new = ap (λ (l : List Tid). chain_content (without child l)) (sym (tuples_of (chain (now old).contents link parent)));
      }))
      (here _ (in_right (tuple_changed (now old) definition.child child) (chain_needs (now old) link definition.parent parent) _ (needs_it (now old) link definition.parent parent form)))
      (here _ (in_left (tuple_changed (now old) definition.child child) (chain_needs (now old) link definition.parent parent) _ (child_needs (now old) link definition.child child).0))
      (here _ (in_left (tuple_changed (now old) definition.child child) (chain_needs (now old) link definition.parent parent) _ (child_needs (now old) link definition.child child).1))
      (λ relation p has at. here _ (in_right (tuple_changed (now old) definition.child child) (chain_needs (now old) link definition.parent parent) _ (needs_above (now old) link definition.parent parent relation p has at)))
      (λ x e. stands_without child (chain (now old).contents link parent) x ∙ rw (tid_apart x child e) (and_true (stands_in x (chain (now old).contents link parent))))
      (λ x in_new. inr (in_without child (chain (now old).contents link parent) x in_new).0)
      (λ once. once_without child (chain (now old).contents link parent) once)
      (λ tables fit defined same above. (in_chain fit link parent child definition defined (ap (stands_in child) same ∙ on)).1)
      (λ in_new other. absurd (false_true in_new (stands_without child (chain (now old).contents link parent) child ∙ rw (tid_itself child) (and_false (stands_in child (chain (now old).contents link parent))))))
    where
      and_true : (b : Bool) → (b && true) ≡ b
      and_true true = refl
      and_true false = refl

      and_false : (b : Bool) → (b && false) ≡ false
      and_false true = refl
      and_false false = refl

  pub keeps_disconnect : (item : Item) → chain_with (now old).contents link child ≡ Some item → Kept (changed (disconnection old t item child) over (locked (Disconnect t link child) old))
  keeps_disconnect item found =
      let of = chain_found (now old).contents link child item found in
      subst (λ (i : Item). Kept (changed (disconnection old t i child) over (locked (Disconnect t link child) old))) (sym of.1)
      (at_chain of.0 (found ∙ ap (λ (i : Item). Some i) of.1) of.2)
