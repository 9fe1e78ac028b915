-- Tables fit once something is defined or a definition is taken away.
use Rattle.std.proofs.Common.{◌≡◌, ◌≢◌, ◌⊎◌, inl, inr, ⊎_elim, ℕ, ◌+◌, ◌≤◌, ◌<◌, Bool, true, false, List, [], ◌∷◌, length, refl, sym, ◌∙◌, ap, subst, arith}
use Rattle.std.specs.Prelude.{Option, Some, None, IfSome, All, is_some, option_map, slice_get, unwrap_or, ⊤, count_by, ◌||◌, nat_le, map as list_map}
use Rattle.std.specs.List.{list_any, list_all}
use Rattle.std.specs.Ordering.{eq_by_cmp}
use Rattle.std.specs.Cmp.{Equal-is}
use Rattle.std.specs.FinMap as map
use Rattle.std.specs.FinMap.{FinMap, get-entries, entries-insert, put as put_entry, same_map, len-entries, empty_of_len}
use Rattle.std.specs.FinMap.Entries.{find}
use Rattle.std.specs.declared.cmp.Ordering.{Ordering}
use Rattle.std.specs.declared.cmp.Ordering.TheVariants.{Less, Equal, Greater}
use Rattle.std.proofs.lemmas.Bool.{true≢false, leb-true, leb-false}
use Rattle.std.proofs.lemmas.Option.{same_Some}
use Rattle.std.proofs.lemmas.List.Sums.{sum_by-cons}
use Rattle.rss_base.specs.Sizes.{segments, relations_most, images_most, links_most, roles_most}
use Rattle.rss_base.specs.Names.{IsName, AreApart}
use Rattle.rss_base.specs.TupleTypes.{AreFields, kinds, width, most_width, key_width, most_key_width, are_kinds, field_names}
use Rattle.rss_base.specs.declared.name.Name.{Name}
use Rattle.rss_base.specs.declared.tid.Tid.{Tid}
use Rattle.rss_base.specs.declared.value.Value.{Value}
use Rattle.rss_base.specs.declared.value.FieldForm.{FieldForm}
use Rattle.rss_base.specs.declared.field.FieldDef.{FieldDef}
use Rattle.rss_base.specs.declared.refusal.Refusal.TheVariants.{TransactionsOpen, Duplicate}
use Rattle.rss_base.specs.declared.item.Item.TheVariants.{Tuple, Chain}
use Rattle.rss_base.specs.declared.call.Call.{Call}
use Rattle.rss_base.specs.declared.call.Call.TheVariants.{MakeSegment, MakeRelation, MakeImage, MakeLink, DropSegment, DropRelation, DropImage, DropLink}
use Rattle.rss_model.specs.Items.{Content, name_cmp}
use Rattle.rss_model.specs.Tables.{RelationDef, ImageDef, LinkDef, Definitions, Tables, content, fields_in, segment_of, tuple_count}
use Rattle.rss_model.specs.Chains.{is_there as live_in, is_this, has_part, is_parent_relation, parts_of, IsChainOf}
use Rattle.rss_model.specs.Images.{image_list, repeated, is_key, key_of, key_kinds, HasKey}
use Rattle.rss_model.specs.Fits.{RelationFits, ImageFits, LinkFits, PathsFit, DefinitionsFit, IsLive, Fits, is_field_of}
use Rattle.rss_model.specs.Meter.{is_in_segment, relations_in}
use Rattle.rss_model.specs.Machine.{State}
use Rattle.rss_model.specs.Defining.{defined, with_definitions, with_image, originals, relation_def, image_def, link_def, DefinesNames, if_any_open, is_segment, is_relation, is_image, is_link, has_twice, has_image, is_image_of, has_link, holds_tuples, is_in_most_links, relations_of_link, if_repeated, if_link_holds_tuples, fields_now}
use Rattle.rss_model.specs.Refusals.{tests, refusal}
use Rattle.rss_model.proofs.Codes.{name_total, name_apart}
use Rattle.rss_model.proofs.Contents.{tied}
use Rattle.rss_model.proofs.Counts.{one_if, none_counted}
use Rattle.rss_model.proofs.ImageLists.{image_once}
use Rattle.rss_model.proofs.LogLists.{by_test, false_true, none_some, some_of}
use Rattle.rss_model.proofs.Locking.{in_entries, in_keys}
use Rattle.rss_model.proofs.Mixing.{In, each_of, all_of}
use Rattle.rss_model.proofs.Named.{apart_once, cases_name, made, made_here, made_other, made_still, made_len, gone, gone_here, gone_other, gone_len}
use Rattle.rss_model.proofs.Standing.{or_none}
use Rattle.rss_model.proofs.Testing.{all_none, holds, holds_not, passes_filter}
use Rattle.rss_model.proofs.Viewing.{same_key}

is_there : {A : Type 0} (o : Option A) (a : A) → o ≡ Some a → is_some o ≡ true
is_there o a e = ap is_some e

-- ---- counting in maps by names

module _ {V : Type 0} (p : V → Bool) where
  abbrev counted : List (Name × V) → ℕ
  counted es = count_by p (list_map (λ e. e.1) es)

  abbrev Puts : Name → V → List (Name × V) → Type 0
  Puts k v es = (counted (put_entry name_cmp k v es) ≤ one_if (p v) + counted es) × (find name_cmp k es ≡ None → counted (put_entry name_cmp k v es) ≡ one_if (p v) + counted es)

  cons : (x : V) (xs : List V) → count_by p (x ∷ xs) ≡ one_if (p x) + count_by p xs
  cons x xs = sum_by-cons (λ y. one_if (p y)) x xs

  put_step : (k : Name) (v : V) (e : Name × V) (es : List (Name × V)) → Puts k v es → (o : Ordering) → name_cmp k e.0 ≡ o → Puts k v (e ∷ es)
  put_step k v e es rest Less is = rw is (omega (arith, cons v (list_map (λ d. d.1) (e ∷ es))), λ none. omega (arith, cons v (list_map (λ d. d.1) (e ∷ es))))
  put_step k v e es rest Equal is = rw is (omega (arith, cons v (list_map (λ d. d.1) es), cons e.1 (list_map (λ d. d.1) es)), λ none. absurd (none_some (sym none)))
  put_step k v e es rest Greater is = rw is (omega (arith, rest.0, cons e.1 (list_map (λ d. d.1) es), cons e.1 (list_map (λ d. d.1) (put_entry name_cmp k v es))), λ none. let more = rest.1 none in omega (arith, more, cons e.1 (list_map (λ d. d.1) es), cons e.1 (list_map (λ d. d.1) (put_entry name_cmp k v es))))

  put_count : (k : Name) (v : V) (es : List (Name × V)) → (counted (put_entry name_cmp k v es) ≤ one_if (p v) + counted es) × (find name_cmp k es ≡ None → counted (put_entry name_cmp k v es) ≡ one_if (p v) + counted es)
  put_count k v [] = (omega (arith, sum_by-cons (λ x. one_if (p x)) v []), λ none. omega (arith, sum_by-cons (λ x. one_if (p x)) v []))
  put_count k v (e ∷ es) = put_step k v e es (put_count k v es) (name_cmp k e.0) refl

  pub insert_count : (m : FinMap name_cmp V) (k : Name) (v : V) → count_by p (map.values (map.insert m k v)) ≤ one_if (p v) + count_by p (map.values m)
  insert_count m k v = omega (arith, ap counted (entries-insert name_total m k v), (put_count k v (map.entries m)).0)

  pub remove_count : (m : FinMap name_cmp V) (k : Name) → count_by p (map.values (map.remove m k)) ≤ count_by p (map.values m)
  remove_count m k = by (map.get m k) refl
    where
      by : (o : Option V) → map.get m k ≡ o → count_by p (map.values (map.remove m k)) ≤ count_by p (map.values m)
      by None is = omega (arith, ap (λ (n : FinMap name_cmp V). count_by p (map.values n)) same)
        where
          same : map.remove m k ≡ m
          same = same_map name_total name_apart (map.remove m k) m (λ q. ⊎_elim (λ e. ap (map.get (map.remove m k)) e ∙ gone_here m k ∙ sym (ap (map.get m) e ∙ is)) (λ e. gone_other m k q (λ f. false_true (subst (λ (n : Name). eq_by_cmp name_cmp q n ≡ true) f (tied name_total name_apart q)) e)) (cases_name q k))
      by (Some v) is =
          let back : map.insert (map.remove m k) k v ≡ m = same_map name_total name_apart (map.insert (map.remove m k) k v) m (λ q. ⊎_elim
          (λ e. ap (map.get (map.insert (map.remove m k) k v)) e ∙ made_here (map.remove m k) k v ∙ sym (ap (map.get m) e ∙ is))
          (λ e. let off : q ≢ k = λ f. false_true (subst (λ (n : Name). eq_by_cmp name_cmp q n ≡ true) f (tied name_total name_apart q)) e in made_other (map.remove m k) k v q off ∙ gone_other m k q off) (cases_name q k)) in
          let more = (put_count k v (map.entries (map.remove m k))).1 (sym (get-entries (map.remove m k) k) ∙ gone_here m k) in
          omega (arith, more, ap counted (entries-insert name_total (map.remove m k) k v), ap (λ (n : FinMap name_cmp V). count_by p (map.values n)) back)

-- ---- what is not among some

module _ {A : Type 0} (p : A → Bool) where
  pub none_any : (xs : List A) → list_any p xs ≡ false → (a : A) → In a xs → p a ≡ false
  none_any [] none a is = absurd is
  none_any (x ∷ xs) none a is = let parts = or_none (p x) (list_any p xs) none in ⊎_elim (λ e. ap p (sym e) ∙ parts.0) (λ i. none_any xs parts.1 a i) is

  all_any : (xs : List A) → list_all p xs ≡ true → (a : A) → In a xs → p a ≡ true
  all_any [] all a is = absurd is
  all_any (x ∷ xs) all a is = by_test (p x)
      (λ e. ⊎_elim (λ f. ap p (sym f) ∙ e) (λ i. all_any xs (rw e at all) a i) is)
      (λ e. absurd (true≢false (sym (rw e at all))))

  pub none_count : (xs : List A) → count_by p xs < 1 → (a : A) → In a xs → p a ≡ false
  none_count [] few a is = absurd is
  none_count (x ∷ xs) few a is =
      let more = sum_by-cons (λ y. one_if (p y)) x xs in
      by_test (p x)
      (λ e. absurd (omega (arith, few, more, ap one_if e)))
      (λ e. ⊎_elim (λ f. ap p (sym f) ∙ e) (λ i. none_count xs (omega (arith, few, more)) a i) is)

pub in_values : {V : Type 0} (m : FinMap name_cmp V) (k : Name) (v : V) → map.get m k ≡ Some v → In v (map.values m)
in_values {V = V} m k v is = go (map.entries m) (in_entries name_apart m k v is)
  where
    go : (es : List (Name × V)) → In (k, v) es → In v (list_map (λ e. e.1) es)
    go [] i = absurd i
    go (e ∷ es) (inl f) = inl (ap (λ (q : Name × V). q.1) f)
    go (e ∷ es) (inr i) = inr (go es i)

-- ---- definitions that are kept

relation_to : (a b : Definitions) (relation : RelationDef) → (is_some (map.get a.segments relation.segment) ≡ true → is_some (map.get b.segments relation.segment) ≡ true) → RelationFits a relation → RelationFits b relation
relation_to a b relation more fit = record { segment = more fit.segment; fields = fit.fields }

pub same_fields : (a b : Definitions) (relation : Name) → map.get b.relations relation ≡ map.get a.relations relation → fields_in b relation ≡ fields_in a relation
same_fields a b relation same = ap (λ (o : Option RelationDef). unwrap_or (option_map (λ (r : RelationDef). r.fields) o) []) same

image_to : (a b : Definitions) (image : ImageDef) → map.get b.relations image.relation ≡ map.get a.relations image.relation → ImageFits a image → ImageFits b image
image_to a b image same fit =
    let fields = sym (same_fields a b image.relation same) in record {
      relation = ap is_some same ∙ fit.relation;
      some = fit.some;
      fields = subst (λ (f : List FieldDef). All (λ name. is_field_of f name ≡ true) image.fields) fields fit.fields;
      apart = fit.apart;
      narrow = subst (λ (f : List FieldDef). key_width (key_kinds f image.fields) ≤ most_key_width) fields fit.narrow;
    }

some_to : {P Q : Name → Type 0} (o : Option Name) → ((n : Name) → o ≡ Some n → P n → Q n) → IfSome o P → IfSome o Q
some_to None to is = is
some_to (Some n) to is = to n refl is

link_to : (a b : Definitions) (link : LinkDef) → map.get b.relations link.child ≡ map.get a.relations link.child → ((n : Name) → link.parent ≡ Some n → map.get b.relations n ≡ map.get a.relations n) → LinkFits a link → LinkFits b link
link_to a b link child parent fit = record {
  child = ap is_some child ∙ fit.child;
  parent = some_to link.parent (λ n at was. ap is_some (parent n at) ∙ was) fit.parent;
  two = fit.two;
}

-- where images and links are as they were
module _ {a : Definitions} (fit : PathsFit a) (more_segments : FinMap name_cmp ⊤) (more_relations : FinMap name_cmp RelationDef)
    (image_stays : (name : Name) (image : ImageDef) → map.get a.images name ≡ Some image → map.get more_relations image.relation ≡ map.get a.relations image.relation)
    (link_stays : (name : Name) (link : LinkDef) → map.get a.links name ≡ Some link → (map.get more_relations link.child ≡ map.get a.relations link.child) × ((n : Name) → link.parent ≡ Some n → map.get more_relations n ≡ map.get a.relations n)) where
  abbrev b : Definitions
  b = record a { segments = more_segments; relations = more_relations }

  paths_to : PathsFit (record a { segments = more_segments; relations = more_relations })
  paths_to = record {
    image_names = fit.image_names;
    few_images = fit.few_images;
    images = λ name image is. image_to a b image (image_stays name image is) (fit.images name image is);
    link_names = fit.link_names;
    few_links = fit.few_links;
    links = λ name link is. let stays = link_stays name link is in link_to a b link stays.0 stays.1 (fit.links name link is);
    few_parts = fit.few_parts;
  }

module _ {a : Definitions} (fit : DefinitionsFit a) (name : Name) where
  segment_made : IsName name → is_some (map.get a.segments name) ≡ false → map.len a.segments < segments → DefinitionsFit (record a { segments = map.insert a.segments name tt })
  segment_made is fresh room = record {
    segment_names = λ q there. ⊎_elim (λ same. subst IsName (sym same) is) (λ was. fit.segment_names q (ap is_some (sym was) ∙ there)) (made a.segments name tt q);
    few_segments = omega (arith, made_len a.segments name tt fresh, room);
    relation_names = fit.relation_names;
    few_relations = fit.few_relations;
    relations = λ q relation found. relation_to a (record a { segments = map.insert a.segments name tt }) relation (λ was. made_still a.segments name tt relation.segment was) (fit.relations q relation found);
    paths = paths_to fit.paths (map.insert a.segments name tt) a.relations (λ q image at. refl) (λ q link at. (refl, λ n at'. refl));
  }

  segment_gone : ((q : Name) (relation : RelationDef) → map.get a.relations q ≡ Some relation → relation.segment ≢ name) → DefinitionsFit (record a { segments = map.remove a.segments name })
  segment_gone none = record {
    segment_names = λ q there. fit.segment_names q (ap is_some (sym (gone a.segments name q there).1) ∙ there);
    few_segments = omega (arith, gone_len a.segments name, fit.few_segments);
    relation_names = fit.relation_names;
    few_relations = fit.few_relations;
    relations = λ q relation found. relation_to a (record a { segments = map.remove a.segments name }) relation (λ was. ap is_some (gone_other a.segments name relation.segment (none q relation found)) ∙ was) (fit.relations q relation found);
    paths = paths_to fit.paths (map.remove a.segments name) a.relations (λ q image at. refl) (λ q link at. (refl, λ n at'. refl));
  }

  used : (q : Name) → is_some (map.get a.relations q) ≡ true → is_some (map.get a.relations name) ≡ false → q ≢ name
  used q there fresh same = true≢false (sym there ∙ ap (λ (n : Name). is_some (map.get a.relations n)) same ∙ fresh)

  relation_made : (new : RelationDef) → IsName name → RelationFits a new → is_some (map.get a.relations name) ≡ false → map.len a.relations < relations_most → DefinitionsFit (record a { relations = map.insert a.relations name new })
  relation_made new is fits fresh room = record {
    segment_names = fit.segment_names;
    few_segments = fit.few_segments;
    relation_names = λ q there. ⊎_elim (λ same. subst IsName (sym same) is) (λ was. fit.relation_names q (ap is_some (sym was) ∙ there)) (made a.relations name new q);
    few_relations = omega (arith, made_len a.relations name new fresh, room);
    relations = λ q relation found. relation_to a (record a { relations = map.insert a.relations name new }) relation (λ was. was) (⊎_elim
        (λ same. subst (RelationFits a) (same_Some _ _ (sym (made_here a.relations name new) ∙ ap (map.get (map.insert a.relations name new)) (sym same) ∙ found)) fits)
        (λ was. fit.relations q relation (sym was ∙ found)) (made a.relations name new q));
    paths = paths_to fit.paths a.segments (map.insert a.relations name new)
        (λ q image at. made_other a.relations name new image.relation (used image.relation (fit.paths.images q image at).relation fresh))
        (λ q link at. let of = fit.paths.links q link at in (made_other a.relations name new link.child (used link.child of.child fresh), λ n above. made_other a.relations name new n (used n (if_some (λ m. is_some (map.get a.relations m) ≡ true) link.parent n above of.parent) fresh)));
  }
    where
      if_some : (P : Name → Type 0) (o : Option Name) (n : Name) → o ≡ Some n → IfSome o P → P n
      if_some P None n at is = none_some at
      if_some P (Some m) n at is = subst P (same_Some _ _ at) is

  relation_gone : ((q : Name) (image : ImageDef) → map.get a.images q ≡ Some image → image.relation ≢ name) → ((q : Name) (link : LinkDef) → map.get a.links q ≡ Some link → (link.child ≢ name) × ((n : Name) → link.parent ≡ Some n → n ≢ name))
      → DefinitionsFit (record a { relations = map.remove a.relations name })
  relation_gone no_image no_link = record {
    segment_names = fit.segment_names;
    few_segments = fit.few_segments;
    relation_names = λ q there. fit.relation_names q (ap is_some (sym (gone a.relations name q there).1) ∙ there);
    few_relations = omega (arith, gone_len a.relations name, fit.few_relations);
    relations = λ q relation found. relation_to a (record a { relations = map.remove a.relations name }) relation (λ was. was) (fit.relations q relation (sym (gone a.relations name q (ap is_some found)).1 ∙ found));
    paths = paths_to fit.paths a.segments (map.remove a.relations name)
        (λ q image at. gone_other a.relations name image.relation (no_image q image at))
        (λ q link at. let none = no_link q link at in (gone_other a.relations name link.child none.0, λ n above. gone_other a.relations name n (none.1 n above)));
  }

  image_made : (new : ImageDef) → IsName name → ImageFits a new → is_some (map.get a.images name) ≡ false → map.len a.images < images_most → DefinitionsFit (record a { images = map.insert a.images name new })
  image_made new is fits fresh room = record {
    segment_names = fit.segment_names;
    few_segments = fit.few_segments;
    relation_names = fit.relation_names;
    few_relations = fit.few_relations;
    relations = λ q relation found. relation_to a (record a { images = map.insert a.images name new }) relation (λ was. was) (fit.relations q relation found);
    paths = record {
      image_names = λ q there. ⊎_elim (λ same. subst IsName (sym same) is) (λ was. fit.paths.image_names q (ap is_some (sym was) ∙ there)) (made a.images name new q);
      few_images = omega (arith, made_len a.images name new fresh, room);
      images = λ q image found. image_to a (record a { images = map.insert a.images name new }) image refl (⊎_elim
          (λ same. subst (ImageFits a) (same_Some _ _ (sym (made_here a.images name new) ∙ ap (map.get (map.insert a.images name new)) (sym same) ∙ found)) fits)
          (λ was. fit.paths.images q image (sym was ∙ found)) (made a.images name new q));
      link_names = fit.paths.link_names;
      few_links = fit.paths.few_links;
      links = λ q link found. link_to a (record a { images = map.insert a.images name new }) link refl (λ n at. refl) (fit.paths.links q link found);
      few_parts = fit.paths.few_parts;
    };
  }

  image_gone : DefinitionsFit (record a { images = map.remove a.images name })
  image_gone = record {
    segment_names = fit.segment_names;
    few_segments = fit.few_segments;
    relation_names = fit.relation_names;
    few_relations = fit.few_relations;
    relations = λ q relation found. relation_to a (record a { images = map.remove a.images name }) relation (λ was. was) (fit.relations q relation found);
    paths = record {
      image_names = λ q there. fit.paths.image_names q (ap is_some (sym (gone a.images name q there).1) ∙ there);
      few_images = omega (arith, gone_len a.images name, fit.paths.few_images);
      images = λ q image found. image_to a (record a { images = map.remove a.images name }) image refl (fit.paths.images q image (sym (gone a.images name q (ap is_some found)).1 ∙ found));
      link_names = fit.paths.link_names;
      few_links = fit.paths.few_links;
      links = λ q link found. link_to a (record a { images = map.remove a.images name }) link refl (λ n at. refl) (fit.paths.links q link found);
      few_parts = fit.paths.few_parts;
    };
  }

  link_made : (new : LinkDef) → IsName name → LinkFits a new → is_some (map.get a.links name) ≡ false → map.len a.links < links_most → ((relation : Name) → has_part relation new ≡ true → parts_of a relation < roles_most) → DefinitionsFit (record a { links = map.insert a.links name new })
  link_made new is fits fresh room few = record {
    segment_names = fit.segment_names;
    few_segments = fit.few_segments;
    relation_names = fit.relation_names;
    few_relations = fit.few_relations;
    relations = λ q relation found. relation_to a (record a { links = map.insert a.links name new }) relation (λ was. was) (fit.relations q relation found);
    paths = record {
      image_names = fit.paths.image_names;
      few_images = fit.paths.few_images;
      images = λ q image found. image_to a (record a { links = map.insert a.links name new }) image refl (fit.paths.images q image found);
      link_names = λ q there. ⊎_elim (λ same. subst IsName (sym same) is) (λ was. fit.paths.link_names q (ap is_some (sym was) ∙ there)) (made a.links name new q);
      few_links = omega (arith, made_len a.links name new fresh, room);
      links = λ q link found. link_to a (record a { links = map.insert a.links name new }) link refl (λ n at. refl) (⊎_elim
          (λ same. subst (LinkFits a) (same_Some _ _ (sym (made_here a.links name new) ∙ ap (map.get (map.insert a.links name new)) (sym same) ∙ found)) fits)
          (λ was. fit.paths.links q link (sym was ∙ found)) (made a.links name new q));
      few_parts = λ relation.
          let more = insert_count (has_part relation) a.links name new in
          by_test (has_part relation new)
          (λ e. let less = few relation e in omega (arith, more, ap one_if e, less))
          (λ e. omega (arith, more, ap one_if e, fit.paths.few_parts relation));
    };
  }

  link_gone : DefinitionsFit (record a { links = map.remove a.links name })
  link_gone = record {
    segment_names = fit.segment_names;
    few_segments = fit.few_segments;
    relation_names = fit.relation_names;
    few_relations = fit.few_relations;
    relations = λ q relation found. relation_to a (record a { links = map.remove a.links name }) relation (λ was. was) (fit.relations q relation found);
    paths = record {
      image_names = fit.paths.image_names;
      few_images = fit.paths.few_images;
      images = λ q image found. image_to a (record a { links = map.remove a.links name }) image refl (fit.paths.images q image found);
      link_names = λ q there. fit.paths.link_names q (ap is_some (sym (gone a.links name q there).1) ∙ there);
      few_links = omega (arith, gone_len a.links name, fit.paths.few_links);
      links = λ q link found. link_to a (record a { links = map.remove a.links name }) link refl (λ n at. refl) (fit.paths.links q link (sym (gone a.links name q (ap is_some found)).1 ∙ found));
      few_parts = λ relation. omega (arith, remove_count (has_part relation) a.links name, fit.paths.few_parts relation);
    };
  }

-- ---- tables whose definitions change

-- a relation with a tuple is defined
pub live_defined : {slots : ℕ} {tables : Tables} → Fits slots tables → (relation : Name) (tid : Tid) → IsLive tables relation tid → is_some (map.get tables.definitions.relations relation) ≡ true
live_defined {tables = tables} fit relation tid lives =
    let held = some_of _ lives in
    let of = fit.tuples relation tid held.0 held.1 in
    by (map.get tables.definitions.relations relation) of.defined
  where
    by : {fields : List FieldForm} (found : Option RelationDef) → option_map (λ (r : RelationDef). kinds r.fields) found ≡ Some fields → is_some found ≡ true
    by None is = none_some is
    by (Some relation) is = refl

module _ {slots : ℕ} {tables : Tables} (fit : Fits slots tables) (definitions : Definitions) (definitions_fit : DefinitionsFit definitions)
    (leaves : (relation : Name) (tid : Tid) → IsLive tables relation tid → map.get definitions.relations relation ≡ map.get tables.definitions.relations relation)
    (chains : (link : Name) (parent : Option Tid) (held : Content) → content tables.contents (Chain link parent) ≡ Some held → map.get definitions.links link ≡ map.get tables.definitions.links link)
    (images : (name : Name) (image : ImageDef) → map.get definitions.images name ≡ Some image → image.is_unique ≡ true → (map.get tables.definitions.images name ≡ Some image) ⊎ (repeated (image_list tables image) ≡ None)) where
  same_segment : (relation : Name) (tid : Tid) → IsLive tables relation tid → segment_of (with_definitions definitions tables) relation ≡ segment_of tables relation
  same_segment relation tid lives = ap (option_map (λ (r : RelationDef). r.segment)) (leaves relation tid lives)

  was_key : (image : ImageDef) (tid : Tid) (key : List Value) → HasKey (with_definitions definitions tables) image tid key → HasKey tables image tid key
  was_key image tid key has = record {
    values = has.values;
    there = has.there;
    is = subst (λ (f : List FieldDef). is_key (key_of f image.fields has.values) key ≡ true) (same_fields tables.definitions definitions image.relation (leaves image.relation tid (ap is_some has.there))) has.is;
  }

  refits : Fits slots (with_definitions definitions tables)
  refits = record {
    definitions = definitions_fit;
    tuples = λ relation tid held is.
        let of = fit.tuples relation tid held is in
        record { fields = of.fields; values = of.values; defined = ap (option_map (λ (r : RelationDef). kinds r.fields)) (leaves relation tid (ap is_some is)) ∙ of.defined; tuple = of.tuple; fit = of.fit };
    tids = fit.tids;
    alone = λ one other tid first second same. fit.alone one other tid first second (sym (same_segment one tid first) ∙ same ∙ same_segment other tid second);
    few = fit.few;
    keys = λ name image one other key is unique first second.
        let a = was_key image one key first in
        let b = was_key image other key second in
        ⊎_elim (λ was. fit.keys name image one other key was unique a b)
        (λ none. image_once tables image none one other a.values b.values a.there b.there (same_key _ key a.is ∙ sym (same_key _ key b.is)))
        (images name image is unique);
    links = record {
      chains = λ link parent held is.
          let of = fit.links.chains link parent held is in
          record { definition = of.definition; tids = of.tids; defined = chains link parent held is ∙ of.defined; is = of.is; some = of.some; members = of.members; once = of.once; under = of.under };
      alone = fit.links.alone;
    };
    only = fit.only;
  }

-- ---- fields as they are made

-- they have their names
original_names : (fields : List FieldDef) → field_names (originals fields) ≡ field_names fields
original_names [] = refl
original_names (field ∷ fields) = ap (λ (names : List Name). field.name ∷ names) (original_names fields)

original_fields : (fields : List FieldDef) (field : FieldDef) → In field (originals fields) → field.added ≡ false
original_fields [] field is = absurd is
original_fields (first ∷ fields) field (inl same) = sym (ap (λ (f : FieldDef). f.added) same)
original_fields (first ∷ fields) field (inr is) = original_fields fields field is

-- a relation may have them by their kinds, their width and their names
pub originals_fit : (fields : List FieldDef) → are_kinds (kinds (originals fields)) ≡ true → width (kinds (originals fields)) ≤ most_width → All IsName (field_names fields) → has_twice (field_names fields) ≡ false → AreFields (originals fields)
originals_fit fields formed narrow named once = record {
  formed = formed;
  narrow = narrow;
  names = subst (All IsName) (sym (original_names fields)) named;
  apart = subst AreApart (sym (original_names fields)) (apart_once (field_names fields) once);
  original = all_of (λ field. field.added ≡ false) (originals fields) (original_fields fields);
}

-- ---- what the tests say

closed_of : (state : State) → if_any_open state ≡ None → state.marks ≡ map.empty
closed_of state none = empty_of_len state.marks (len-entries state.marks ∙ by (map.entries state.marks) none)
  where
    by : (es : List (ℕ × List ℕ)) → option_map TransactionsOpen (slice_get (list_map (λ e. e.0) es) 0) ≡ None → length es ≡ 0
    by [] is = refl
    by (e ∷ es) is = absurd (cc (is))

-- nothing is open where a call defines
pub none_open : (state : State) (call : Call) (next : Tables) → refusal state call ≡ None → defined call state.base ≡ Some next → state.marks ≡ map.empty
none_open state (MakeSegment name) next is so = closed_of state (all_none (tests state (MakeSegment name)) is 0 None (omega arith))
none_open state (MakeRelation name segment fields) next is so = closed_of state (all_none (tests state (MakeRelation name segment fields)) is 0 None (omega arith))
none_open state (MakeImage name relation unique fields) next is so = closed_of state (all_none (tests state (MakeImage name relation unique fields)) is 0 None (omega arith))
none_open state (MakeLink name parent child) next is so = closed_of state (all_none (tests state (MakeLink name parent child)) is 0 None (omega arith))
none_open state (DropSegment name) next is so = closed_of state (all_none (tests state (DropSegment name)) is 0 None (omega arith))
none_open state (DropRelation name) next is so = closed_of state (all_none (tests state (DropRelation name)) is 0 None (omega arith))
none_open state (DropImage name) next is so = closed_of state (all_none (tests state (DropImage name)) is 0 None (omega arith))
none_open state (DropLink name) next is so = closed_of state (all_none (tests state (DropLink name)) is 0 None (omega arith))
none_open state call next is so = none_some so

module _ (state : State) (fit : Fits state.size.slots state.base) where
  abbrev tables : Tables
  tables = state.base

  abbrev Refits : Definitions → Type 0
  Refits definitions = Fits state.size.slots (with_definitions definitions state.base)

  empty_relation : (relation : Name) → holds_tuples state relation ≡ false → (tid : Tid) → content tables.contents (Tuple relation tid) ≡ None
  empty_relation relation none tid = none_counted tables.contents relation (let few = leb-false 1 (tuple_count tables.contents relation) none in omega (arith, few)) tid

  make_segment : (name : Name) → refusal state (MakeSegment name) ≡ None → IsName name → Refits (record tables.definitions { segments = map.insert tables.definitions.segments name tt })
  make_segment name is named =
      let passed = all_none (tests state (MakeSegment name)) is in
      refits fit _ (segment_made fit.definitions name named (holds_not (is_segment state name) _ (passed 1 None (omega arith))) (leb-false segments _ (holds_not (nat_le segments (map.len tables.definitions.segments)) _ (passed 2 None (omega arith)))))
      (λ relation tid lives. refl) (λ link parent held at. refl) (λ q image at unique. inl at)

  drop_segment : (name : Name) → refusal state (DropSegment name) ≡ None → Refits (record tables.definitions { segments = map.remove tables.definitions.segments name })
  drop_segment name is =
      let passed = all_none (tests state (DropSegment name)) is in
      let few = leb-false 1 _ (holds_not (nat_le 1 (length (relations_in tables name))) _ (passed 2 None (omega arith))) in
      refits fit _ (segment_gone fit.definitions name (λ q relation at same. none_in (relations_in tables name) few q (passes_filter (is_in_segment tables name) (map.keys tables.definitions.relations) q (in_keys (map.entries tables.definitions.relations) q relation (in_entries name_apart tables.definitions.relations q relation at)) (stands q relation at same))))
      (λ relation tid lives. refl) (λ link parent held at. refl) (λ q image at unique. inl at)
    where
      none_in : (names : List Name) → length names < 1 → (q : Name) → In q names → ⊥
      none_in [] few q i = i
      none_in (n ∷ names) few q i = absurd (omega (arith, few))

      stands : (q : Name) (relation : RelationDef) → map.get tables.definitions.relations q ≡ Some relation → relation.segment ≡ name → is_in_segment tables name q ≡ true
      stands q relation at same = ap (λ (o : Option RelationDef). unwrap_or (option_map (eq_by_cmp name_cmp name) (option_map (λ (r : RelationDef). r.segment) o)) false) at ∙ ap (eq_by_cmp name_cmp name) same ∙ tied name_total name_apart name

  make_relation : (name segment : Name) (fields : List FieldDef) → refusal state (MakeRelation name segment fields) ≡ None → IsName name × All IsName (field_names fields) → Refits (record tables.definitions { relations = map.insert tables.definitions.relations name (relation_def segment fields) })
  make_relation name segment fields is named =
      let passed = all_none (tests state (MakeRelation name segment fields)) is in
      let new = or_none (is_relation state name) (has_twice (field_names fields)) (holds_not (is_relation state name || has_twice (field_names fields)) _ (passed 2 None (omega arith))) in
      refits fit _ (relation_made fit.definitions name (relation_def segment fields) named.0
      (record {
        segment = holds (is_segment state segment) _ (passed 1 None (omega arith));
        fields = originals_fit fields
            (holds (are_kinds (kinds (originals fields))) _ (passed 4 None (omega arith)))
            (leb-true (width (kinds (originals fields))) most_width (holds (nat_le (width (kinds (originals fields))) most_width) _ (passed 5 None (omega arith))))
            named.1 new.1;
      })
      new.0 (leb-false relations_most _ (holds_not (nat_le relations_most (map.len tables.definitions.relations)) _ (passed 3 None (omega arith)))))
      (λ relation tid lives. made_other tables.definitions.relations name (relation_def segment fields) relation (λ same. true≢false (sym (live_defined fit relation tid lives) ∙ ap (λ (n : Name). is_some (map.get tables.definitions.relations n)) same ∙ new.0)))
      (λ link parent held at. refl) (λ q image at unique. inl at)

  drop_relation : (name : Name) → refusal state (DropRelation name) ≡ None → Refits (record tables.definitions { relations = map.remove tables.definitions.relations name })
  drop_relation name is =
      let passed = all_none (tests state (DropRelation name)) is in
      let last = or_none (holds_tuples state name || has_image state name) (has_link state name) (holds_not ((holds_tuples state name || has_image state name) || has_link state name) _ (passed 2 None (omega arith))) in
      let first = or_none (holds_tuples state name) (has_image state name) last.0 in
      refits fit _ (relation_gone fit.definitions name
      (λ q image at same. false_true (subst (λ (n : Name). eq_by_cmp name_cmp name n ≡ true) (sym same) (tied name_total name_apart name)) (none_any (is_image_of name) (map.values tables.definitions.images) first.1 image (in_values tables.definitions.images q image at)))
      (λ q link at. let none = or_none _ _ (none_count (has_part name) (map.values tables.definitions.links) (leb-false 1 _ last.1) link (in_values tables.definitions.links q link at)) in (
        (λ same. false_true (subst (λ (n : Name). eq_by_cmp name_cmp name n ≡ true) (sym same) (tied name_total name_apart name)) none.0),
        (λ n above same. false_true (ap (λ (o : Option Name). is_this o name) above ∙ subst (λ (m : Name). eq_by_cmp name_cmp m name ≡ true) (sym same) (tied name_total name_apart name)) none.1),
      )))
      (λ relation tid lives. gone_other tables.definitions.relations name relation (λ same. true≢false (sym lives ∙ ap (λ (n : Name). is_some (content tables.contents (Tuple n tid))) same ∙ ap is_some (empty_relation name first.0 tid))))
      (λ link parent held at. refl) (λ q image at unique. inl at)

  make_image : (name relation : Name) (unique : Bool) (fields : List Name) → refusal state (MakeImage name relation unique fields) ≡ None → IsName name → Refits (with_image tables.definitions name (image_def relation unique fields))
  make_image name relation unique fields is named =
      let passed = all_none (tests state (MakeImage name relation unique fields)) is in
      let new = or_none (is_image state name) (has_twice fields) (holds_not (is_image state name || has_twice fields) _ (passed 3 None (omega arith))) in
      refits fit _ (image_made fit.definitions name (image_def relation unique fields) named
      (record {
        relation = holds (is_relation state relation) _ (passed 1 None (omega arith));
        some = leb-true 1 (length fields) (holds (nat_le 1 (length fields)) _ (passed 5 None (omega arith)));
        fields = all_of (λ n. is_field_of (fields_in tables.definitions relation) n ≡ true) fields (all_any (is_field_of (fields_now state relation)) fields (holds (list_all (is_field_of (fields_now state relation)) fields) _ (passed 2 None (omega arith))));
        apart = apart_once fields new.1;
        narrow = leb-true _ most_key_width (holds (nat_le (key_width (key_kinds (fields_now state relation) fields)) most_key_width) _ (passed 6 None (omega arith)));
      })
      new.0 (leb-false images_most _ (holds_not (nat_le images_most (map.len tables.definitions.images)) _ (passed 4 None (omega arith)))))
      (λ other tid lives. refl) (λ link parent held at. refl)
      (λ q image at its. ⊎_elim
      (λ same. let new_one : image_def relation unique fields ≡ image = same_Some _ _ (sym (made_here tables.definitions.images name (image_def relation unique fields)) ∙ ap (map.get (map.insert tables.definitions.images name (image_def relation unique fields))) (sym same) ∙ at) in
      inr (subst (λ (i : ImageDef). repeated (image_list tables i) ≡ None) new_one (not_repeated unique (passed 7 None (omega arith)) (ap (λ (i : ImageDef). i.is_unique) new_one ∙ its))))
      (λ was. inl (sym was ∙ at)) (made tables.definitions.images name (image_def relation unique fields) q))
    where
      unmapped : (o : Option Tid) → option_map (Duplicate name) o ≡ None → o ≡ None
      unmapped None e = refl
      unmapped (Some a) e = absurd (cc (e))

      not_repeated : (u : Bool) → if_repeated state name u (image_def relation unique fields) ≡ None → u ≡ true → repeated (image_list tables (image_def relation unique fields)) ≡ None
      not_repeated true none e = unmapped _ none
      not_repeated false none e = absurd (true≢false (sym e))

  drop_image : (name : Name) → refusal state (DropImage name) ≡ None → Refits (record tables.definitions { images = map.remove tables.definitions.images name })
  drop_image name is = refits fit _ (image_gone fit.definitions name) (λ relation tid lives. refl) (λ link parent held at. refl)
      (λ q image at unique. inl (sym (gone tables.definitions.images name q (ap is_some at)).1 ∙ at))

  make_link : (name : Name) (parent : Option Name) (child : Name) → refusal state (MakeLink name parent child) ≡ None → IsName name → Refits (record tables.definitions { links = map.insert tables.definitions.links name (link_def parent child) })
  make_link name parent child is named =
      let passed = all_none (tests state (MakeLink name parent child)) is in
      let new = or_none (is_link state name) (has_twice (relations_of_link parent child)) (holds_not (is_link state name || has_twice (relations_of_link parent child)) _ (passed 2 None (omega arith))) in
      let there = all_any (is_relation state) (relations_of_link parent child) (holds (list_all (is_relation state) (relations_of_link parent child)) _ (passed 1 None (omega arith))) in
      let roles = none_any (is_in_most_links state) (relations_of_link parent child) (holds_not (list_any (is_in_most_links state) (relations_of_link parent child)) _ (passed 4 None (omega arith))) in
      refits fit _ (link_made fit.definitions name (link_def parent child) named (link_fits parent there new.1) new.0
      (leb-false links_most _ (holds_not (nat_le links_most (map.len tables.definitions.links)) _ (passed 3 None (omega arith))))
      (λ relation has. leb-false roles_most _ (roles relation (is_part parent relation has))))
      (λ relation tid lives. refl)
      (λ link above held at. made_other tables.definitions.links name (link_def parent child) link (λ same. true≢false (sym (ap is_some (fit.links.chains link above held at).defined) ∙ ap (λ (n : Name). is_some (map.get tables.definitions.links n)) same ∙ new.0)))
      (λ q image at unique. inl at)
    where
      link_fits : (parent : Option Name) → ((n : Name) → In n (relations_of_link parent child) → is_relation state n ≡ true) → has_twice (relations_of_link parent child) ≡ false → LinkFits tables.definitions (link_def parent child)
      link_fits None there once = record { child = there child (inl refl); parent = tt; two = tt }
      link_fits (Some above) there once = record {
        child = there child (inr (inl refl));
        parent = there above (inl refl);
        two = λ same. let off = or_none _ _ (or_none _ _ once).0 in false_true (subst (λ (n : Name). eq_by_cmp name_cmp above n ≡ true) same (tied name_total name_apart above)) off.0;
      }

      is_part : (parent : Option Name) (relation : Name) → has_part relation (link_def parent child) ≡ true → In relation (relations_of_link parent child)
      is_part parent relation has = by_test (eq_by_cmp name_cmp relation child)
          (λ e. last parent (sym (name_apart relation child ((Equal-is (name_cmp relation child)).0 e))))
          (λ e. above parent (rw e at has))
        where
          last : (parent : Option Name) → child ≡ relation → In relation (relations_of_link parent child)
          last None e = inl e
          last (Some p) e = inr (inl e)

          above : (parent : Option Name) → is_parent_relation (link_def parent child) relation ≡ true → In relation (relations_of_link parent child)
          above None e = absurd (cc (e))
          above (Some p) e = inl (name_apart p relation ((Equal-is (name_cmp p relation)).0 e))

  drop_link : (name : Name) → refusal state (DropLink name) ≡ None → Refits (record tables.definitions { links = map.remove tables.definitions.links name })
  drop_link name is =
      let passed = all_none (tests state (DropLink name)) is in
      refits fit _ (link_gone fit.definitions name) (λ relation tid lives. refl)
      (λ link above held at. gone_other tables.definitions.links name link (λ same. no_chain link above held at (fit.links.chains link above held at) (subst (λ (n : Name). if_link_holds_tuples state (map.get tables.definitions.links n) ≡ None) (sym same) (passed 2 None (omega arith)))))
      (λ q image at unique. inl at)
    where
      child_in : (link : LinkDef) → In link.child (relations_of_link link.parent link.child)
      child_in link = by link.parent
        where
          by : (o : Option Name) → In link.child (relations_of_link o link.child)
          by None = inl refl
          by (Some p) = inr (inl refl)

      first : (tids : List Tid) → 1 ≤ length tids → (t : Tid) × In t tids
      first [] some = absurd (omega (arith, some))
      first (t ∷ tids) some = (t, inl refl)

      no_chain : (link : Name) (above : Option Tid) (held : Content) → content tables.contents (Chain link above) ≡ Some held → IsChainOf tables link above held → if_link_holds_tuples state (map.get tables.definitions.links link) ≡ None → ⊥
      no_chain link above held at of none =
          let empty = holds_not (list_any (holds_tuples state) (relations_of_link of.definition.parent of.definition.child)) _ (subst (λ (o : Option LinkDef). if_link_holds_tuples state o ≡ None) of.defined none) in
          let child = none_any (holds_tuples state) (relations_of_link of.definition.parent of.definition.child) empty of.definition.child (child_in of.definition) in
          let one = first of.tids of.some in
          true≢false (sym (each_of (λ t. live_in tables.contents of.definition.child t ≡ true) of.tids of.members one.0 one.1) ∙ ap is_some (empty_relation of.definition.child child one.0))

  -- a call that defines leaves tables that fit
  pub defined_fits : (call : Call) (next : Tables) → refusal state call ≡ None → DefinesNames call → defined call state.base ≡ Some next → Fits state.size.slots next
  defined_fits (MakeSegment name) next is names so = subst (Fits state.size.slots) (same_Some _ _ so) (make_segment name is names)
  defined_fits (MakeRelation name segment fields) next is names so = subst (Fits state.size.slots) (same_Some _ _ so) (make_relation name segment fields is names)
  defined_fits (MakeImage name relation unique fields) next is names so = subst (Fits state.size.slots) (same_Some _ _ so) (make_image name relation unique fields is names)
  defined_fits (MakeLink name parent child) next is names so = subst (Fits state.size.slots) (same_Some _ _ so) (make_link name parent child is names)
  defined_fits (DropSegment name) next is names so = subst (Fits state.size.slots) (same_Some _ _ so) (drop_segment name is)
  defined_fits (DropRelation name) next is names so = subst (Fits state.size.slots) (same_Some _ _ so) (drop_relation name is)
  defined_fits (DropImage name) next is names so = subst (Fits state.size.slots) (same_Some _ _ so) (drop_image name is)
  defined_fits (DropLink name) next is names so = subst (Fits state.size.slots) (same_Some _ _ so) (drop_link name is)
  defined_fits call next is names so = none_some so
