-- Listings of the same definitions: what a record tells by one of them, it tells by the other.
use Rattle.std.proofs.Common.{◌≡◌, ℕ, zero, suc, List, [], ◌∷◌, get_or, refl, sym, ◌∙◌, ap, subst}
use Rattle.std.specs.Prelude.{map, Option, Some, None, is_some, option_map, unwrap_or}
use Rattle.std.proofs.lemmas.Option.{none-some, same_Some}
use Rattle.rss_base.specs.TupleTypes.{kinds, Spells}
use Rattle.rss_base.specs.Listings.{Listing, numbered, names_of, relation_at, image_at, link_at, with_count}
use Rattle.rss_base.specs.declared.name.Name.{Name}
use Rattle.rss_base.specs.declared.tid.Tid.{Tid}
use Rattle.rss_base.specs.declared.item.Item.TheVariants.{Tuple as TupleItem, Chain as ChainItem}
use Rattle.rss_base.specs.declared.field.FieldDef.{FieldDef}
use Rattle.rss_base.specs.declared.image.ImageEntry.{ImageEntry}
use Rattle.rss_base.specs.declared.link.LinkEntry.{LinkEntry}
use Rattle.rss_base.specs.declared.relation.RelationEntry.{RelationEntry}
use Rattle.rss_base.specs.declared.refusal.Kind.TheVariants.{Relation as RelationKind, Image as ImageKind, Link as LinkKind}
use Rattle.rss_base.specs.declared.change.Change as told
use Rattle.rss_base.specs.declared.change.Change.TheVariants.{Insert, Delete, Update, Connect, Disconnect}
use Rattle.rss_model.specs.Items.{Content}
use Rattle.rss_model.specs.Changes.{Change}
use Rattle.rss_model.specs.Meanings.{endless, rootless, SameDefinitions, nameless, item_told, TellsValues, TellsPlace, Means}
use Rattle.rss_stored.specs.LogLaws.{IsToldBy}
use Rattle.rss_stored.proofs.Listed.{at_place}

-- ---- lists of what has a number

at_mapped : {A B : Type 0} (f : A → B) (items : List (Option A)) (number : ℕ) → numbered (map (option_map f) items) number ≡ option_map f (numbered items number)
at_mapped f items zero = refl
at_mapped {A = A} {B = B} f items (suc k) = at_place (map (option_map f) items) k ∙ got items k ∙ ap (option_map f) (sym (at_place items k))
  where
    got : (items : List (Option A)) (k : ℕ) → get_or (map (option_map f) items) k None ≡ option_map f (get_or items k None)
    got [] k = refl
    got (item ∷ items) zero = refl
    got (item ∷ items) (suc k) = got items k

-- what has a number has it still, as far as a part of it goes
at_still : {A B : Type 0} (f : A → B) (one other : List (Option A)) → map (option_map f) other ≡ map (option_map f) one → (number : ℕ) (a : A) → numbered one number ≡ Some a → (b : A) × ((numbered other number ≡ Some b) × (f b ≡ f a))
at_still {A = A} {B = B} f one other same number a at = by (numbered other number) refl
  where
    there : option_map f (numbered other number) ≡ Some (f a)
    there = sym (at_mapped f other number) ∙ ap (λ (items : List (Option B)). numbered items number) same ∙ at_mapped f one number ∙ ap (option_map f) at

    by : (found : Option A) → numbered other number ≡ found → (b : A) × ((numbered other number ≡ Some b) × (f b ≡ f a))
    by None is = absurd (none-some (f a) (sym (ap (option_map f) is) ∙ there))
    by (Some b) is = (b, (is, same_Some _ _ (sym (ap (option_map f) is) ∙ there)))

-- a part of a part
mapped_twice : {A B C : Type 0} (f : A → B) (g : B → C) (items : List (Option A)) → map (option_map (λ a. g (f a))) items ≡ map (option_map g) (map (option_map f) items)
mapped_twice f g [] = refl
mapped_twice {C = C} f g (None ∷ items) = ap (λ (l : List (Option C)). None ∷ l) (mapped_twice f g items)
mapped_twice {C = C} f g (Some a ∷ items) = ap (λ (l : List (Option C)). Some (g (f a)) ∷ l) (mapped_twice f g items)

parts_same : {A B C : Type 0} (f : A → B) (g : B → C) (one other : List (Option A)) → map (option_map f) other ≡ map (option_map f) one → map (option_map (λ a. g (f a))) other ≡ map (option_map (λ a. g (f a))) one
parts_same f g one other same = mapped_twice f g other ∙ ap (map (option_map g)) same ∙ sym (mapped_twice f g one)

-- ---- the same definitions

pub same_again : (listing : Listing) → SameDefinitions listing listing
same_again listing = record { segments = refl; relations = refl; images = refl; links = refl }

pub same_then : {one mid other : Listing} → SameDefinitions one mid → SameDefinitions mid other → SameDefinitions one other
same_then first second = record {
  segments = second.segments ∙ first.segments;
  relations = second.relations ∙ first.relations;
  images = second.images ∙ first.images;
  links = second.links ∙ first.links;
}

pub same_back : {one other : Listing} → SameDefinitions one other → SameDefinitions other one
same_back same = record {
  segments = sym same.segments;
  relations = sym same.relations;
  images = sym same.images;
  links = sym same.links;
}

-- ---- what a record tells by them

module _ {one other : Listing} (same : SameDefinitions one other) where
  pub relation_still : (number : ℕ) (entry : RelationEntry) → relation_at one number ≡ Some entry → (still : RelationEntry) × ((relation_at other number ≡ Some still) × (with_count 0 still ≡ with_count 0 entry))
  relation_still number entry at = at_still (with_count 0) one.relations other.relations same.relations number entry at

  pub image_still : (number : ℕ) (entry : ImageEntry) → image_at one number ≡ Some entry → (still : ImageEntry) × ((image_at other number ≡ Some still) × (rootless still ≡ rootless entry))
  image_still number entry at = at_still rootless one.images other.images same.images number entry at

  link_still : (number : ℕ) (entry : LinkEntry) → link_at one number ≡ Some entry → (still : LinkEntry) × ((link_at other number ≡ Some still) × (endless still ≡ endless entry))
  link_still number entry at = at_still endless one.links other.links same.links number entry at

  relation_names : names_of RelationKind other ≡ names_of RelationKind one
  relation_names = parts_same (with_count 0) (λ (r : RelationEntry). r.name) one.relations other.relations same.relations

  pub image_names : names_of ImageKind other ≡ names_of ImageKind one
  image_names = parts_same rootless (λ (i : ImageEntry). i.name) one.images other.images same.images

  link_names : names_of LinkKind other ≡ names_of LinkKind one
  link_names = parts_same endless (λ (l : LinkEntry). l.name) one.links other.links same.links

  tuple_same : (number : ℕ) (tid : Tid) → TupleItem (unwrap_or (numbered (names_of RelationKind other) number) (nameless number)) tid ≡ TupleItem (unwrap_or (numbered (names_of RelationKind one) number) (nameless number)) tid
  tuple_same number tid = ap (λ (names : List (Option Name)). TupleItem (unwrap_or (numbered names number) (nameless number)) tid) relation_names

  chain_same : (number : ℕ) (parent : Option Tid) → ChainItem (unwrap_or (numbered (names_of LinkKind other) number) (nameless number)) parent ≡ ChainItem (unwrap_or (numbered (names_of LinkKind one) number) (nameless number)) parent
  chain_same number parent = ap (λ (names : List (Option Name)). ChainItem (unwrap_or (numbered names number) (nameless number)) parent) link_names

  item_same : (told_change : told.Change) → item_told other told_change ≡ item_told one told_change
  item_same (Insert number tid values) = tuple_same number tid
  item_same (Delete number tid values) = tuple_same number tid
  item_same (Update number tid from to) = tuple_same number tid
  item_same (Connect link parent child left) = chain_same link parent
  item_same (Disconnect link parent child left) = chain_same link parent

  values_same : (number : ℕ) (bytes : List ℕ) (held : Option Content) → TellsValues one number bytes held → TellsValues other number bytes held
  values_same number bytes held tells =
      let still = relation_still number tells.relation tells.at in
      record {
        relation = still.0;
        values = tells.values;
        at = still.1.0;
        spells = subst (λ (fields : List FieldDef). Spells (kinds fields) bytes tells.values) (sym (ap (λ (r : RelationEntry). r.fields) still.1.1)) tells.spells;
        is = tells.is;
      }

  place_same : (number : ℕ) (parent : Option Tid) (child : Tid) (left : Option Tid) (off on : Option Content) → TellsPlace one number parent child left off on → TellsPlace other number parent child left off on
  place_same number parent child left off on tells =
      let still = link_still number tells.link tells.at in
      record {
        link = still.0;
        tids = tells.tids;
        at = still.1.0;
        form = ap (λ (l : LinkEntry). is_some l.parent) still.1.1 ∙ tells.form;
        apart = tells.apart;
        behind = tells.behind;
        without = tells.without;
        with = tells.with;
      }

  means_same : (told_change : told.Change) (change : Change) → Means one told_change change → Means other told_change change
  means_same (Insert number tid values) change means = (means.0, values_same number values change.new means.1)
  means_same (Delete number tid values) change means = (values_same number values change.old means.0, means.1)
  means_same (Update number tid from to) change means = (values_same number from change.old means.0, values_same number to change.new means.1)
  means_same (Connect link parent child left) change means = place_same link parent child left change.old change.new means
  means_same (Disconnect link parent child left) change means = place_same link parent child left change.new change.old means

  pub told_same : {told_change : told.Change} {change : Change} → IsToldBy one told_change change → IsToldBy other told_change change
  told_same {told_change = told_change} {change = change} tells = record {
    tells = record { maker = tells.tells.maker; item = tells.tells.item ∙ sym (item_same told_change) };
    means = means_same told_change change tells.means;
    spellable = tells.spellable;
  }
