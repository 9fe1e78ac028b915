-- What is looked up after a change of a tuple.
use Rattle.std.proofs.Common.{◌≡◌, ℕ, Bool, true, false, List, refl, sym, ◌∙◌, ap, subst}
use Rattle.std.specs.Prelude.{Option, Some, None, option_map, unwrap_or}
use Rattle.std.specs.FinMap as finite
use Rattle.std.specs.FinMap.{IsAntisymmetric}
use Rattle.std.specs.Cmp.{Equal-is}
use Rattle.std.proofs.lemmas.Option.{same_Some}
use Rattle.rss_base.specs.declared.name.Name.{Name}
use Rattle.rss_base.specs.declared.tid.Tid.{Tid}
use Rattle.rss_base.specs.declared.value.Value.{Value}
use Rattle.rss_base.specs.declared.item.Item.{Item}
use Rattle.rss_base.specs.declared.item.Item.TheVariants.{Tuple, Chain}
use Rattle.rss_base.specs.TupleTypes.{values_cmp}
use Rattle.rss_model.specs.Items.{Content, name_cmp, is_name}
use Rattle.rss_model.specs.Tables.{ImageDef, Tables, content, put, tuple_count}
use Rattle.rss_model.specs.Images.{is_key, key_in, owner_of_key, KeysFit}
use Rattle.rss_model.specs.Chains.{tuples_in, stands_in, chain_with}
use Rattle.rss_model.specs.Changes.{Change}
use Rattle.rss_model.specs.Fits.{Fits}
use Rattle.rss_model.specs.Restart.{FitWith}
use Rattle.rss_model.proofs.Codes.{name_total, name_apart}
use Rattle.rss_model.proofs.Contents.{tied}
use Rattle.rss_model.proofs.LogLists.{by_test, false_true}
use Rattle.rss_model.proofs.LogChanging.{put_here, put_other}
use Rattle.rss_model.proofs.Counts.{counts_same}
use Rattle.rss_model.proofs.Putting.{same_parts}
use Rattle.rss_model.proofs.Standing.{by_tid}
use Rattle.rss_model.proofs.Viewing.{same_key, keyed, keyed_of, keyed_is}
use Rattle.rss_model.proofs.ChangeKeeping.{not_owned}
use Rattle.rss_model.proofs.ImageLists.{values_total}
use Rattle.rss_model.proofs.SeenAlike.{chain_same, owner_has, owner_same}
use Rattle.rss_draft.specs.Views.{DraftView}
use Rattle.rss_draft.specs.Lookups.{chain_at, LooksUp, HoldsKey, GoesWith, ChangesFollow}
use Rattle.rss_draft.proofs.Standings.{one_owner}

same_names : (a b : Name) → is_name a b ≡ true → a ≡ b
same_names a b is = name_apart a b ((Equal-is (name_cmp a b)).0 is)

key_itself : (key : List Value) → is_key key key ≡ true
key_itself key = tied values_total same_values key
  where
    same_values : IsAntisymmetric values_cmp
    same_values a b tie = same_key a b ((Equal-is (values_cmp a b)).1 tie)

-- the one that has a key is its owner
owner_is : (tables : Tables) → KeysFit tables → (name : Name) (image : ImageDef) → finite.get tables.definitions.images name ≡ Some image → image.is_unique ≡ true → (key : List Value) (tid : Tid)
    → keyed (key_in tables.definitions image) key (content tables.contents (Tuple image.relation tid)) ≡ true → (o : Option Tid) → owner_of_key tables image None key ≡ o → o ≡ Some tid
owner_is tables fit name image defined unique key tid is None found = absurd (false_true refl (not_owned tables image None key found tid is))
owner_is tables fit name image defined unique key tid is (Some other) found =
    ap (λ (t : Tid). Some t) (one_owner tables fit name image defined unique key other tid (owner_has tables image None key other found).0 is)

module _ {slots : ℕ} {draft after : DraftView} {saved tables : Tables} (change : Change) (relation : Name) (tid : Tid) (looks : LooksUp draft saved tables) (held : content tables.contents (Tuple relation tid) ≡ change.old) (fit : Fits slots tables)
    (next : FitWith slots tables (put tables.contents (Tuple relation tid) change.new)) (goes : GoesWith tables change relation tid draft after) (count : after.counts relation ≡ Some (tuple_count (put tables.contents (Tuple relation tid) change.new) relation)) where
  abbrev later : Tables
  later = record tables { contents = put tables.contents (Tuple relation tid) change.new }

  elsewhere : (other : Name) (t : Tid) → (Tuple other t ≡ Tuple relation tid → ⊥) → content later.contents (Tuple other t) ≡ content tables.contents (Tuple other t)
  elsewhere other t off = put_other tables.contents (Tuple relation tid) (Tuple other t) change.new off

  module _ (name : Name) (image : ImageDef) (key : List Value) (defined : finite.get tables.definitions.images name ≡ Some image) (unique : image.is_unique ≡ true) where
    abbrev its : List Value → List Value
    its = key_in tables.definitions image

    abbrev has : Tables → Tid → Bool
    has at t = keyed its key (content at.contents (Tuple image.relation t))

    -- what the test finds has this key
    key_had : image.relation ≡ relation → (o : Option Content) → keyed its key o ≡ true → HoldsKey tables relation o name key
    key_had of o is =
        let at = keyed_of its key o is in
        record {
          image = image;
          defined = defined;
          unique = unique;
          of = of;
          values = at.0;
          is = at.1;
          its = same_key _ _ at.2;
        }

    -- and the other way
    had_key : (o : Option Content) → HoldsKey tables relation o name key → keyed its key o ≡ true
    had_key o h =
        let same : h.image ≡ image = same_Some _ _ (sym h.defined ∙ defined) in
        let mine : its h.values ≡ key = ap (λ (i : ImageDef). key_in tables.definitions i h.values) (sym same) ∙ h.its in
        ap (keyed its key) h.is ∙ keyed_is its key h.values (subst (λ (k : List Value). is_key k key ≡ true) (sym mine) (key_itself key))

    of_relation : (image.relation ≡ relation → ⊥) → (o : Option Content) → HoldsKey tables relation o name key → ⊥
    of_relation off o h = off (ap (λ (i : ImageDef). i.relation) (sym (same_Some _ _ (sym h.defined ∙ defined))) ∙ h.of)

    -- nothing is said anew
    kept : ((t : Tid) → has later t ≡ has tables t) → (HoldsKey tables relation change.old name key → ⊥) → (HoldsKey tables relation change.new name key → ⊥)
        → owner_of_key later image None key ≡ unwrap_or (after.owners name key) (owner_of_key saved image None key)
    kept same none_old none_new =
        owner_same tables.definitions later.contents tables.contents image None key same (one_owner later next.keys name image defined unique key)
        ∙ looks.owners name image key defined unique
        ∙ ap (λ (o : Option (Option Tid)). unwrap_or o (owner_of_key saved image None key)) (sym (goes.keeps name key none_old none_new))

    module _ (of : image.relation ≡ relation) where
      now : has later tid ≡ keyed its key change.new
      now = ap (keyed its key) (ap (λ (n : Name). content later.contents (Tuple n tid)) of ∙ put_here tables.contents (Tuple relation tid) (Tuple relation tid) change.new refl)

      was : has tables tid ≡ keyed its key change.old
      was = ap (keyed its key) (ap (λ (n : Name). content tables.contents (Tuple n tid)) of ∙ held)

      besides : (t : Tid) → (t ≡ tid → ⊥) → has later t ≡ has tables t
      besides t off = ap (keyed its key) (elsewhere image.relation t (λ e. off (same_parts _ _ _ _ e).1))

      gained : keyed its key change.new ≡ true → owner_of_key later image None key ≡ unwrap_or (after.owners name key) (owner_of_key saved image None key)
      gained is =
          owner_is later next.keys name image defined unique key tid (now ∙ is) _ refl
          ∙ ap (λ (o : Option (Option Tid)). unwrap_or o (owner_of_key saved image None key)) (sym (goes.gains name key (key_had of change.new is)))

      nobody : keyed its key change.new ≡ false → keyed its key change.old ≡ true → (o : Option Tid) → owner_of_key later image None key ≡ o → o ≡ None
      nobody off on None found = refl
      nobody off on (Some t) found =
          let owns = (owner_has later image None key t found).0 in
          absurd (by_tid t tid
          (λ e. false_true (subst (λ (u : Tid). has later u ≡ true) e owns) (now ∙ off))
          (λ e. e (one_owner tables fit.keys name image defined unique key t tid (sym (besides t e) ∙ owns) (was ∙ on))))

      lost : keyed its key change.new ≡ false → keyed its key change.old ≡ true → owner_of_key later image None key ≡ unwrap_or (after.owners name key) (owner_of_key saved image None key)
      lost off on =
          nobody off on _ refl
          ∙ ap (λ (o : Option (Option Tid)). unwrap_or o (owner_of_key saved image None key)) (sym (goes.loses name key (key_had of change.old on) (λ h. false_true (had_key change.new h) off)))

      unmoved : keyed its key change.new ≡ false → keyed its key change.old ≡ false → owner_of_key later image None key ≡ unwrap_or (after.owners name key) (owner_of_key saved image None key)
      unmoved new old = kept
          (λ t. by_tid t tid
          (λ e. ap (λ (u : Tid). has later u) e ∙ now ∙ new ∙ sym (ap (λ (u : Tid). has tables u) e ∙ was ∙ old))
          (λ e. besides t e))
          (λ h. false_true (had_key change.old h) old) (λ h. false_true (had_key change.new h) new)

    owners_after : owner_of_key later image None key ≡ unwrap_or (after.owners name key) (owner_of_key saved image None key)
    owners_after = by_test (is_name image.relation relation)
        (λ e. let of = same_names image.relation relation e in
        by_test (keyed its key change.new) (gained of) (λ new. by_test (keyed its key change.old) (lost of new) (unmoved of new)))
        (λ e. let off : image.relation ≡ relation → ⊥ = λ of. false_true (subst (λ (n : Name). is_name n relation ≡ true) (sym of) (tied name_total name_apart relation)) e in
        kept (λ t. ap (keyed its key) (elsewhere image.relation t (λ same. off (same_parts _ _ _ _ same).0))) (of_relation off change.old) (of_relation off change.new))

  pub changed : LooksUp after saved (record tables { contents = put tables.contents (Tuple relation tid) change.new })
  changed = record {
    standings = λ link child.
        chain_same later.contents tables.contents link child
        (λ p. ap (λ (o : Option Content). stands_in child (tuples_in o)) (put_other tables.contents (Tuple relation tid) (Chain link p) change.new (λ e. cc (e))))
        (λ p q first second. next.links.alone link p q child first second)
        ∙ looks.standings link child
        ∙ (λ i. unwrap_or (option_map (chain_at link) (sym goes.standings i link child)) (chain_with saved.contents link child));
    owners = λ name image key defined unique. owners_after name image key defined unique;
    counts = λ other. by_test (is_name other relation)
        (λ e. let same = same_names other relation e in
        subst (λ (n : Name). tuple_count later.contents n ≡ unwrap_or (after.counts n) (tuple_count saved.contents n)) (sym same)
        (ap (λ (o : Option ℕ). unwrap_or o (tuple_count saved.contents relation)) (sym count)))
        (λ e. counts_same tables.contents (Tuple relation tid) change.new other e ∙ looks.counts other
        ∙ ap (λ (o : Option ℕ). unwrap_or o (tuple_count saved.contents other)) (sym (goes.counts other (λ same. false_true (subst (λ (n : Name). is_name n relation ≡ true) (sym same) (tied name_total name_apart relation)) e))));
  }

pub changes_follow : ChangesFollow
changes_follow slots old new saved tables change relation tid looks can at goes =
    subst (λ (i : Item). LooksUp new saved (record tables { contents = put tables.contents i change.new })) (sym at)
    (changed change relation tid looks (ap (content tables.contents) (sym at) ∙ can.holds) can.fit
    (subst (λ (i : Item). FitWith slots tables (put tables.contents i change.new)) at can.next) goes
    (goes.count ∙ ap (λ (i : Item). Some (tuple_count (put tables.contents i change.new) relation)) at))
