-- Keys and links fit once a tuple is put, and tables fit once a chain is.
use Rattle.std.proofs.Common.{◌≡◌, ◌⊎◌, inl, inr, ⊎_elim, ℕ, ◌≤◌, true, false, List, length, refl, sym, ◌∙◌, ap, subst}
use Rattle.std.specs.Prelude.{Option, Some, None, is_some, option_map}
use Rattle.std.specs.FinMap as finite
use Rattle.std.proofs.lemmas.Option.{same_Some}
use Rattle.rss_base.specs.declared.name.Name.{Name}
use Rattle.rss_base.specs.declared.tid.Tid.{Tid}
use Rattle.rss_base.specs.declared.value.Value.{Value}
use Rattle.rss_base.specs.declared.item.Item.{Item}
use Rattle.rss_base.specs.declared.item.Item.TheVariants.{Tuple, Chain}
use Rattle.rss_model.specs.Items.{Content, Values}
use Rattle.rss_model.specs.Tables.{ImageDef, LinkDef, Tables, content, put}
use Rattle.rss_model.specs.Chains.{tuples_in, chain_content, chain, stands_in, is_there, HasParent, StandOnce, IsChainOf, LinksFit}
use Rattle.rss_model.specs.Images.{is_key, key_in, HasKey, KeysFit}
use Rattle.rss_model.specs.Fits.{HasContent, Fits, tuple_limit}
use Rattle.rss_model.proofs.Counts.{counts_same}
use Rattle.rss_model.proofs.LogLists.{false_true, none_some}
use Rattle.rss_model.proofs.LogChanging.{by_item, put_here, put_other}
use Rattle.rss_model.proofs.Mixing.{In, each_of, all_of}
use Rattle.rss_model.proofs.Standing.{stands_of, tuples_of, content_of}
use Rattle.rss_model.proofs.Putting.{same_parts}

pub chain_parts : {a b : Name} {s t : Option Tid} → Chain a s ≡ Chain b t → (a ≡ b) × (s ≡ t)
chain_parts is = (cc (is), cc (is))

-- ---- a tuple is put, or goes

module _ (tables : Tables) (relation : Name) (tid : Tid) (next : Option (List Value)) where
  abbrev item : Item
  item = Tuple relation tid

  abbrev after_it : Tables
  after_it = record tables { contents = put tables.contents (Tuple relation tid) (option_map Values next) }

  there : (other : Name) (t : Tid) → (Tuple other t ≡ item → ⊥) → content after_it.contents (Tuple other t) ≡ content tables.contents (Tuple other t)
  there other t off = put_other tables.contents item (Tuple other t) (option_map Values next) off

  -- no other tuple has the new one's key
  abbrev pub NewKeys : Type 0
  NewKeys = (values : List Value) → next ≡ Some values → (name : Name) (image : ImageDef) → finite.get tables.definitions.images name ≡ Some image → image.is_unique ≡ true → image.relation ≡ relation
      → (other : Tid) (key : List Value) → is_key (key_in tables.definitions image values) key ≡ true → HasKey tables image other key → other ≡ tid

  had_key : (image : ImageDef) (t : Tid) (key : List Value) → HasKey after_it image t key
      → ((image.relation ≡ relation) × (t ≡ tid) × ((values : List Value) × (next ≡ Some values) × (is_key (key_in tables.definitions image values) key ≡ true))) ⊎ HasKey tables image t key
  had_key image t key has = by_item (Tuple image.relation t) item
      (λ e. let parts = same_parts _ _ _ _ e in inl (parts.0, parts.1, new next (sym (put_here tables.contents item (Tuple image.relation t) (option_map Values next) e) ∙ has.there)))
      (λ e. inr (record { values = has.values; there = sym (there image.relation t e) ∙ has.there; is = has.is }))
    where
      new : (o : Option (List Value)) → option_map Values o ≡ Some (Values has.values) → (values : List Value) × (o ≡ Some values) × (is_key (key_in tables.definitions image values) key ≡ true)
      new None is = none_some is
      new (Some values) is = (values, refl, subst (λ (v : List Value). is_key (key_in tables.definitions image v) key ≡ true) (sym (unwrap (same_Some _ _ is))) has.is)
        where
          unwrap : {v w : List Value} → Values v ≡ Values w → v ≡ w
          unwrap e = cc (e)

  pub keys_put : NewKeys → KeysFit tables → KeysFit after_it
  keys_put new fit name image one other key defined unique first second = ⊎_elim
      (λ a. ⊎_elim (λ b. a.1 ∙ sym b.1) (λ b. a.1 ∙ sym (new a.2.0 a.2.1 name image defined unique a.0 other key a.2.2 b)) (had_key image other key second))
      (λ a. ⊎_elim (λ b. new b.2.0 b.2.1 name image defined unique b.0 one key b.2.2 a ∙ sym b.1) (λ b. fit name image one other key defined unique a b) (had_key image other key second))
      (had_key image one key first)

  -- what goes stands in no chain, and has none
  abbrev pub Unlinked : Type 0
  Unlinked = next ≡ None → (link : Name) (definition : LinkDef) → finite.get tables.definitions.links link ≡ Some definition
      → (definition.child ≡ relation → (parent : Option Tid) → stands_in tid (chain tables.contents link parent) ≡ false)
      × (definition.parent ≡ Some relation → content tables.contents (Chain link (Some tid)) ≡ None)

  still_chain : (link : Name) (parent : Option Tid) → content after_it.contents (Chain link parent) ≡ content tables.contents (Chain link parent)
  still_chain link parent = put_other tables.contents item (Chain link parent) (option_map Values next) (λ e. cc (e))

  still_there : (other : Name) (t : Tid) → (next ≡ None → Tuple other t ≡ item → ⊥) → is_there tables.contents other t ≡ true → is_there after_it.contents other t ≡ true
  still_there other t gone was = by_item (Tuple other t) item
      (λ e. ap is_some (put_here tables.contents item (Tuple other t) (option_map Values next) e) ∙ some next (λ n. gone n e))
      (λ e. ap is_some (there other t e) ∙ was)
    where
      some : (o : Option (List Value)) → (o ≡ None → ⊥) → is_some (option_map Values o) ≡ true
      some None not' = absurd (not' refl)
      some (Some values) not' = refl

  pub links_put : Unlinked → LinksFit tables → LinksFit after_it
  links_put gone fit = record {
    chains = λ link parent held is. let of = fit.chains link parent held (sym (still_chain link parent) ∙ is) in record {
      definition = of.definition;
      tids = of.tids;
      defined = of.defined;
      is = of.is;
      some = of.some;
      members = all_of (λ x. is_there after_it.contents of.definition.child x ≡ true) of.tids (λ x is_in. still_there of.definition.child x (λ n e. let parts = same_parts _ _ _ _ e in
          false_true (subst (λ (l : List Tid). stands_in x l ≡ true) (sym (ap tuples_in (sym (still_chain link parent) ∙ is) ∙ ap (λ (c : Content). tuples_in (Some c)) of.is)) (stands_of of.tids x is_in))
          (subst (λ (y : Tid). stands_in y (chain tables.contents link parent) ≡ false) (sym parts.1) ((gone n link of.definition of.defined).0 parts.0 parent))) (each_of (λ y. is_there tables.contents of.definition.child y ≡ true) of.tids of.members x is_in));
      once = of.once;
      under = under_still link of.definition.parent parent (λ n at. (gone n link of.definition of.defined).1 at) held (sym (still_chain link parent) ∙ is) of.under;
    };
    alone = λ link one other x first second. fit.alone link one other x
        (subst (λ (o : Option Content). stands_in x (tuples_in o) ≡ true) (still_chain link one) first)
        (subst (λ (o : Option Content). stands_in x (tuples_in o) ≡ true) (still_chain link other) second);
  }
    where
      under_still : (link : Name) (above : Option Name) (parent : Option Tid) → (next ≡ None → above ≡ Some relation → content tables.contents (Chain link (Some tid)) ≡ None) → (held : Content) → content tables.contents (Chain link parent) ≡ Some held
          → HasParent tables.contents above parent → HasParent after_it.contents above parent
      under_still link None None none held is under = under
      under_still link None (Some parent) none held is under = under
      under_still link (Some above) None none held is under = under
      under_still link (Some above) (Some parent) none held is under = still_there above parent (λ n e. let parts = same_parts _ _ _ _ e in
          none_some (sym (none n (ap Some parts.0)) ∙ ap (λ (x : Tid). content tables.contents (Chain link (Some x))) (sym parts.1) ∙ is)) under

-- ---- a chain is put

module _ {slots : ℕ} {tables : Tables} (fit : Fits slots tables) (link : Name) (parent : Option Tid) (definition : LinkDef) (new : List Tid) (defined : finite.get tables.definitions.links link ≡ Some definition)
    (members : (x : Tid) → In x new → is_there tables.contents definition.child x ≡ true) (once : StandOnce new) (under : 1 ≤ length new → HasParent tables.contents definition.parent parent)
    (alone : (x : Tid) (other : Option Tid) → stands_in x new ≡ true → stands_in x (chain tables.contents link other) ≡ true → other ≡ parent) where
  abbrev put_chain : Tables
  put_chain = record tables { contents = put tables.contents (Chain link parent) (chain_content new) }

  elsewhere : (i : Item) → (i ≡ Chain link parent → ⊥) → content put_chain.contents i ≡ content tables.contents i
  elsewhere i off = put_other tables.contents (Chain link parent) i (chain_content new) off

  tuples_stay : (other : Name) (t : Tid) → content put_chain.contents (Tuple other t) ≡ content tables.contents (Tuple other t)
  tuples_stay other t = elsewhere (Tuple other t) (λ e. cc (e))

  there_still : (other : Name) (t : Tid) → is_there tables.contents other t ≡ true → is_there put_chain.contents other t ≡ true
  there_still other t was = ap is_some (tuples_stay other t) ∙ was

  has_parent : (above : Option Name) (p : Option Tid) → HasParent tables.contents above p → HasParent put_chain.contents above p
  has_parent None None has = has
  has_parent None (Some p) has = has
  has_parent (Some above) None has = has
  has_parent (Some above) (Some p) has = there_still above p has

  is_of : (l : Name) (p : Option Tid) (held : Content) → content put_chain.contents (Chain l p) ≡ Some held → IsChainOf put_chain l p held
  is_of l p held is = by_item (Chain l p) (Chain link parent)
      (λ e. let parts = chain_parts e in
      let what = content_of new held (sym (put_here tables.contents (Chain link parent) (Chain l p) (chain_content new) e) ∙ is) in record {
        definition = definition;
        tids = new;
        defined = ap (finite.get tables.definitions.links) parts.0 ∙ defined;
        is = what.0;
        some = what.1;
        members = all_of (λ x. is_there put_chain.contents definition.child x ≡ true) new (λ x is_in. there_still definition.child x (members x is_in));
        once = once;
        under = subst (HasParent put_chain.contents definition.parent) (sym parts.1) (has_parent definition.parent parent (under what.1));
      })
      (λ e. let of = fit.links.chains l p held (sym (elsewhere (Chain l p) e) ∙ is) in record {
        definition = of.definition;
        tids = of.tids;
        defined = of.defined;
        is = of.is;
        some = of.some;
        members = all_of (λ x. is_there put_chain.contents of.definition.child x ≡ true) of.tids (λ x is_in. there_still of.definition.child x (each_of (λ y. is_there tables.contents of.definition.child y ≡ true) of.tids of.members x is_in));
        once = of.once;
        under = has_parent of.definition.parent p of.under;
      })

  chain_now : (l : Name) (p : Option Tid) (x : Tid) → stands_in x (chain put_chain.contents l p) ≡ true
      → ((l ≡ link) × (p ≡ parent) × (stands_in x new ≡ true)) ⊎ (stands_in x (chain tables.contents l p) ≡ true)
  chain_now l p x is = by_item (Chain l p) (Chain link parent)
      (λ e. let parts = chain_parts e in inl (parts.0, parts.1, subst (λ (tids : List Tid). stands_in x tids ≡ true) (ap tuples_in (put_here tables.contents (Chain link parent) (Chain l p) (chain_content new) e) ∙ tuples_of new) is))
      (λ e. inr (subst (λ (o : Option Content). stands_in x (tuples_in o) ≡ true) (elsewhere (Chain l p) e) is))

  alone_now : (l : Name) (one other : Option Tid) (x : Tid) → stands_in x (chain put_chain.contents l one) ≡ true → stands_in x (chain put_chain.contents l other) ≡ true → one ≡ other
  alone_now l one other x first second = ⊎_elim
      (λ a. ⊎_elim (λ b. a.1 ∙ sym b.1) (λ b. a.1 ∙ sym (alone x other a.2 (subst (λ (n : Name). stands_in x (chain tables.contents n other) ≡ true) a.0 b))) (chain_now l other x second))
      (λ a. ⊎_elim (λ b. alone x one b.2 (subst (λ (n : Name). stands_in x (chain tables.contents n one) ≡ true) b.0 a) ∙ sym b.1) (λ b. fit.links.alone l one other x a b) (chain_now l other x second))
      (chain_now l one x first)

  pub fits_chain : Fits slots (record tables { contents = put tables.contents (Chain link parent) (chain_content new) })
  fits_chain = record {
    definitions = fit.definitions;
    tuples = λ other t held is. let of = fit.tuples other t held (sym (tuples_stay other t) ∙ is) in record { fields = of.fields; values = of.values; defined = of.defined; tuple = of.tuple; fit = of.fit };
    tids = λ other t lives. fit.tids other t (sym (ap is_some (tuples_stay other t)) ∙ lives);
    alone = λ one other t first second same. fit.alone one other t (sym (ap is_some (tuples_stay one t)) ∙ first) (sym (ap is_some (tuples_stay other t)) ∙ second) same;
    few = λ other. subst (λ (n : ℕ). n ≤ tuple_limit) (sym (counts_same tables.contents (Chain link parent) (chain_content new) other refl)) (fit.few other);
    keys = λ name image one other key is unique first second. fit.keys name image one other key is unique
        (record { values = first.values; there = sym (tuples_stay image.relation one) ∙ first.there; is = first.is })
        (record { values = second.values; there = sym (tuples_stay image.relation other) ∙ second.there; is = second.is });
    links = record { chains = is_of; alone = alone_now };
    only = λ i is. by_item i (Chain link parent)
        (λ e. subst HasContent (sym e) (tt {0}))
        (λ e. fit.only i (sym (ap is_some (elsewhere i e)) ∙ is));
  }
