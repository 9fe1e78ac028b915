-- Tables fit after a change of a tuple exactly if the tuple may come to hold what it later does.
use Rattle.std.proofs.Common.{◌≡◌, ◌⊎◌, inl, inr, ℕ, ◌≤◌, Bool, true, false, List, [], refl, sym, ◌∙◌, ap, subst}
use Rattle.std.specs.Prelude.{Option, Some, None, is_some, option_map, find, not, ◌||◌}
use Rattle.std.specs.FinMap as finite
use Rattle.std.specs.Cmp.{Equal-is}
use Rattle.std.proofs.lemmas.Bool.{and_parts}
use Rattle.std.proofs.lemmas.Option.{same_Some}
use Rattle.rss_base.specs.declared.name.Name.{Name}
use Rattle.rss_base.specs.declared.tid.Tid.{Tid}
use Rattle.rss_base.specs.declared.value.Value.{Value}
use Rattle.rss_base.specs.declared.item.Item.TheVariants.{Tuple, Chain}
use Rattle.rss_base.specs.Prefixes.{is_tid}
use Rattle.rss_model.specs.Items.{Content, Values, name_cmp, is_name}
use Rattle.rss_model.specs.Tables.{ImageDef, LinkDef, Tables, content, put, tuple_count, is_tuple_of}
use Rattle.rss_model.specs.Images.{is_key, is_other, key_in, owner_of_key}
use Rattle.rss_model.specs.Chains.{tuples_in, stands_in, chain, chain_with, is_there, is_this, is_connected, connected, HasParent}
use Rattle.rss_model.specs.Fits.{Fits, IsIdentifier, IsLive, tuple_limit}
use Rattle.rss_model.specs.Machine.{State}
use Rattle.rss_model.specs.Meter.{at_rest}
use Rattle.rss_base.specs.declared.refusal.Refusal.TheVariants.{Connected}
use Rattle.rss_model.proofs.Codes.{name_total, name_apart}
use Rattle.rss_model.proofs.LogLists.{by_test, false_true, some_of}
use Rattle.rss_model.proofs.LogChanging.{by_item, put_here, put_other}
use Rattle.rss_model.proofs.Counts.{counts_same}
use Rattle.rss_model.proofs.Locking.{find_in}
use Rattle.rss_model.proofs.Putting.{same_parts, fits_put}
use Rattle.rss_model.proofs.Refitting.{NewKeys, keys_put, Unlinked, links_put}
use Rattle.rss_model.proofs.Standing.{tid_same, tid_itself}
use Rattle.rss_model.proofs.Viewing.{same_key, keyed, keyed_of, keyed_is}
use Rattle.rss_model.proofs.ChangeKeeping.{not_owned, unlinked_of}
use Rattle.rss_model.proofs.ChainKeeping.{in_chain, chain_found}
use Rattle.rss_model.proofs.SeenAlike.{got_in, owner_has}
use Rattle.rss_draft.specs.Fitting.{IsLone, AreKeysFree, TupleFits}
use Rattle.rss_draft.proofs.Among.{in_of}

-- ---- keys

pub other_than : (tid other : Tid) → is_other (Some tid) other ≡ false → other ≡ tid
other_than tid other is = sym (tid_same tid other (negated (is_tid tid other) is))
  where
    negated : (b : Bool) → not b ≡ false → b ≡ true
    negated true e = refl
    negated false e = absurd (cc (e))

new_keys : (tables : Tables) (relation : Name) (tid : Tid) (next : Option (List Value)) → ((values : List Value) → next ≡ Some values → AreKeysFree tables relation tid values) → NewKeys tables relation tid next
new_keys tables relation tid next free values is name image defined unique of other key tie has =
    let its : List Value → List Value = key_in tables.definitions image in
    let same : its values ≡ key = same_key _ key tie in
    let held : is_key (its has.values) (its values) ≡ true = subst (λ (k : List Value). is_key (its has.values) k ≡ true) (sym same) has.is in
    other_than tid other (not_owned tables image (Some tid) (its values) (free values is name image defined unique of) other
    (ap (keyed its (its values)) has.there ∙ keyed_is its (its values) has.values held))

-- ---- links

-- the machine over these tables, in which nothing was done
abbrev idle : Tables → State
idle tables = record {
  size = record { slots = 0; log_pages = 0 };
  base = tables;
  changes = [];
  marks = finite.empty;
  locks = finite.empty;
  scans = finite.empty;
  meter = at_rest 0 tables 0 0 0;
}

unlinked_by : (tables : Tables) (relation : Name) (tid : Tid) (next : Option (List Value)) → (next ≡ None → connected tables relation tid ≡ None) → Unlinked tables relation tid next
unlinked_by tables relation tid next none gone = unlinked_of (idle tables) relation tid (ap (option_map Connected) (none gone)) refl

pub either : (a b : Bool) → (a || b) ≡ true → (a ≡ true) ⊎ (b ≡ true)
either true b is = inl refl
either false b is = inr is

pub same_names : (a b : Name) → is_name a b ≡ true → a ≡ b
same_names a b is = name_apart a b ((Equal-is (name_cmp a b)).0 is)

pub this_one : (above : Option Name) (name : Name) → is_this above name ≡ true → above ≡ Some name
this_one None name is = absurd (cc (is))
this_one (Some one) name is = ap (λ (n : Name). Some n) (same_names one name is)

pub unmapped : {A B : Type 0} (f : A → B) (o : Option A) → option_map f o ≡ None → o ≡ None
unmapped f None is = refl
unmapped f (Some a) is = absurd (cc (is))

-- ---- a tuple is put, or goes

module _ {slots : ℕ} {tables : Tables} (fit : Fits slots tables) (relation : Name) (tid : Tid) (next : Option (List Value)) where
  abbrev after : Tables
  after = record tables { contents = put tables.contents (Tuple relation tid) (option_map Values next) }

  within_of : (o : Option (List Value)) → (o ≡ None → IsLive tables relation tid) → (is_some (option_map Values o) ≡ true → IsIdentifier slots tid) → IsIdentifier slots tid
  within_of None lives named = fit.tids relation tid (lives refl)
  within_of (Some values) lives named = named refl

  lone_of : (o : Option (List Value)) → (o ≡ None → IsLive tables relation tid) → (is_some (option_map Values o) ≡ true → IsLone tables relation tid) → IsLone tables relation tid
  lone_of None lives lone other segment its = fit.alone other relation tid its (lives refl) segment
  lone_of (Some values) lives lone other segment its = lone refl other segment its

  few_of : tuple_count after.contents relation ≤ tuple_limit → (other : Name) → tuple_count after.contents other ≤ tuple_limit
  few_of few other = by_test (is_tuple_of other (Tuple relation tid))
      (λ on. subst (λ (name : Name). tuple_count after.contents name ≤ tuple_limit) (sym (same_names other relation on)) few)
      (λ off. subst (λ (n : ℕ). n ≤ tuple_limit) (sym (counts_same tables.contents (Tuple relation tid) (option_map Values next) other off)) (fit.few other))

  pub tuple_fits : (next ≡ None → IsLive tables relation tid) → TupleFits slots tables relation tid (option_map Values next) → Fits slots (record tables { contents = put tables.contents (Tuple relation tid) (option_map Values next) })
  tuple_fits lives of = fits_put fit relation tid next
      (λ values is. of.tuple (Values values) (ap (option_map Values) is))
      (within_of next lives of.within) (lone_of next lives of.lone) (few_of of.few)
      (keys_put tables relation tid next (new_keys tables relation tid next (λ values is. of.keys values (ap (option_map Values) is))) fit.keys)
      (links_put tables relation tid next (unlinked_by tables relation tid next (λ gone. of.unlinked (ap (option_map Values) gone))) fit.links)

-- ---- what fits afterwards could be put

module _ (slots : ℕ) (tables : Tables) (relation : Name) (tid : Tid) (next : Option (List Value)) (fit : Fits slots (record tables { contents = put tables.contents (Tuple relation tid) (option_map Values next) })) where
  abbrev later : Tables
  later = record tables { contents = put tables.contents (Tuple relation tid) (option_map Values next) }

  here : content later.contents (Tuple relation tid) ≡ option_map Values next
  here = put_here tables.contents (Tuple relation tid) (Tuple relation tid) (option_map Values next) refl

  elsewhere : (other : Name) (t : Tid) → (Tuple other t ≡ Tuple relation tid → ⊥) → content later.contents (Tuple other t) ≡ content tables.contents (Tuple other t)
  elsewhere other t off = put_other tables.contents (Tuple relation tid) (Tuple other t) (option_map Values next) off

  chains_stay : (link : Name) (parent : Option Tid) → content later.contents (Chain link parent) ≡ content tables.contents (Chain link parent)
  chains_stay link parent = put_other tables.contents (Tuple relation tid) (Chain link parent) (option_map Values next) (λ e. cc (e))

  lives : is_some (option_map Values next) ≡ true → IsLive later relation tid
  lives some = ap is_some here ∙ some

  gone : next ≡ None → is_there later.contents relation tid ≡ true → ⊥
  gone none is = false_true is (ap is_some (here ∙ ap (option_map Values) none))

  -- the key of the new tuple has no owner
  no_owner : (name : Name) (image : ImageDef) (values : List Value) → option_map Values next ≡ Some (Values values) → finite.get tables.definitions.images name ≡ Some image → image.is_unique ≡ true → image.relation ≡ relation
      → (o : Option Tid) → owner_of_key tables image (Some tid) (key_in tables.definitions image values) ≡ o → o ≡ None
  no_owner name image values is defined unique of None found = refl
  no_owner name image values is defined unique of (Some other) found =
      let its : List Value → List Value = key_in tables.definitions image in
      let has = owner_has tables image (Some tid) (its values) other found in
      let key = keyed_of its (its values) (content tables.contents (Tuple image.relation other)) has.0 in
      let apart : other ≡ tid → ⊥ = λ e. false_true has.1 (ap not (subst (λ (t : Tid). is_tid tid t ≡ true) (sym e) (tid_itself tid))) in
      absurd (apart (fit.keys name image other tid (its values) defined unique
      (record { values = key.0; there = elsewhere image.relation other (λ e. apart (same_parts _ _ _ _ e).1) ∙ key.1; is = key.2 })
      (record { values = values; there = ap (λ (n : Name). content later.contents (Tuple n tid)) of ∙ here ∙ is; is = subst (λ (k : List Value). is_key k (its values) ≡ true) (same_key _ _ key.2) key.2 })))

  -- what goes stood in no chain, and had none
  no_link : next ≡ None → (o : Option (Name × LinkDef)) → find (is_connected tables.contents relation tid) (finite.entries tables.definitions.links) ≡ o → o ≡ None
  no_link none None found = refl
  no_link none (Some link) found =
      let at = find_in (is_connected tables.contents relation tid) (finite.entries tables.definitions.links) link found in
      let defined : finite.get tables.definitions.links link.0 ≡ Some link.1 = got_in name_total name_apart tables.definitions.links link.0 link.1 at.0 in
      absurd (elim (either _ _ at.1) [
        | inl e ↦ let parts = and_parts _ _ e in stood link.0 link.1 defined parts.0 parts.1
        | inr e ↦ let parts = and_parts _ _ e in had link.0 link.1 defined parts.0 parts.1
      ])
    where
      stood : (link : Name) (definition : LinkDef) → finite.get tables.definitions.links link ≡ Some definition → is_name relation definition.child ≡ true → is_some (chain_with tables.contents link tid) ≡ true → ⊥
      stood link definition defined of is =
          let item = some_of (chain_with tables.contents link tid) is in
          let found = chain_found tables.contents link tid item.0 item.1 in
          let on : stands_in tid (chain later.contents link found.0) ≡ true = ap (λ (c : Option Content). stands_in tid (tuples_in c)) (chains_stay link found.0) ∙ found.2 in
          gone none (subst (λ (n : Name). is_there later.contents n tid ≡ true) (sym (same_names relation definition.child of))
          ((in_chain fit link found.0 tid definition defined on).0 tid (in_of (chain later.contents link found.0) tid on)))

      had : (link : Name) (definition : LinkDef) → finite.get tables.definitions.links link ≡ Some definition → is_this definition.parent relation ≡ true → is_some (content tables.contents (Chain link (Some tid))) ≡ true → ⊥
      had link definition defined of is =
          let held = some_of (content tables.contents (Chain link (Some tid))) is in
          let its = fit.links.chains link (Some tid) held.0 (chains_stay link (Some tid) ∙ held.1) in
          let same : its.definition ≡ definition = same_Some _ _ (sym its.defined ∙ defined) in
          gone none (subst (λ (above : Option Name). HasParent later.contents above (Some tid)) (ap (λ (d : LinkDef). d.parent) same ∙ this_one definition.parent relation of) its.under)

  pub tuple_fitted : TupleFits slots tables relation tid (option_map Values next)
  tuple_fitted = record {
    tuple = λ held is. let of = fit.tuples relation tid held (here ∙ is) in record { fields = of.fields; values = of.values; defined = of.defined; tuple = of.tuple; fit = of.fit };
    within = λ some. fit.tids relation tid (lives some);
    lone = λ some other segment its. by_item (Tuple other tid) (Tuple relation tid)
        (λ e. (same_parts _ _ _ _ e).0)
        (λ off. fit.alone other relation tid (ap is_some (elsewhere other tid off) ∙ its) (lives some) segment);
    few = fit.few relation;
    keys = λ values is name image defined unique of. no_owner name image values is defined unique of _ refl;
    unlinked = λ none. ap (option_map (λ (l : Name × LinkDef). l.0)) (no_link (unmapped Values next none) _ refl);
  }
