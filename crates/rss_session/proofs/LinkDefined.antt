-- What a link that is made or dropped is refused for in the states in which a session may be, by the numbers of its relations.
use Rattle.std.proofs.Common.{◌≡◌, ◌≢◌, ℕ, Bool, true, false, refl, sym, ◌∙◌, ap, arith}
use Rattle.std.specs.Prelude.{Option, Some, None, IfSome, is_some, option_map, option_and_then, nat_le, ◌==◌, ◌||◌, ◌&&◌}
use Rattle.std.specs.List.{list_any, list_all}
use Rattle.std.specs.FinMap as map
use Rattle.std.specs.FinMap.{empty}
use Rattle.std.proofs.lemmas.Bool.{leb-false, eqb-true, eqb-false}
use Rattle.std.proofs.lemmas.Option.{same_Some}
use Rattle.rss_base.specs.Names.{IsName}
use Rattle.rss_base.specs.Sizes.{roles_most}
use Rattle.rss_base.specs.Listings.{Listing, LinkFits, IsNumberOf, IsUnlisted, AreAllUsed, relation_at, link_at, is_parent_in, roles_of}
use Rattle.rss_base.specs.declared.call.Call.TheVariants.{MakeLink, DropLink}
use Rattle.rss_base.specs.declared.link.LinkEntry.{LinkEntry}
use Rattle.rss_base.specs.declared.name.Name.{Name}
use Rattle.rss_base.specs.declared.refusal.Kind.TheVariants.{Relation as RelationKind, Link as LinkKind}
use Rattle.rss_base.specs.declared.refusal.LimitKind.TheVariants.{Links as LinkLimit, Roles as RoleLimit}
use Rattle.rss_base.specs.declared.refusal.Refusal.TheVariants.{NoSuch, NameTaken, Limit, NotEmpty}
use Rattle.rss_base.specs.declared.relation.RelationEntry.{RelationEntry}
use Rattle.rss_catalog.specs.Catalogs.{HasRoleLeft}
use Rattle.rss_model.specs.Defining.{is_relation, is_link, has_twice, holds_tuples, is_in_most_links, relations_of_link, if_link_holds_tuples}
use Rattle.rss_model.specs.Machine.{State, now}
use Rattle.rss_model.specs.Steps.{refusal}
use Rattle.rss_stored.specs.Store.{SpellsTables, IsListedLink, link_definition, relation_name}
use Rattle.rss_stored.proofs.ByNumber.{relation_named, relation_unnamed}
use Rattle.rss_model.proofs.LogLists.{by_test, some_of}
use Rattle.rss_stored.proofs.Prefixes.{parts_are, tied_by}
use Rattle.rss_stored.proofs.Relisted.{number_of}
use Rattle.rss_stored.proofs.Spelled.{listed_link, name_numbered}
use Rattle.rss_model.proofs.Standing.{or_none}
use Rattle.rss_model.proofs.Tests.{goes_on, passes_if, passes_unless, refuses_at, refuses_if, refuses_unless}
use Rattle.rss_access.proofs.Numbered.{entry_at}
use Rattle.rss_session.specs.Definitions.{IsParentNumber, HasUnlisted, AreEmpty, any_of_link, is_in_most, is_filled, link_entry}
use Rattle.rss_session.specs.Sessions.{SessionView}
use Rattle.rss_session.specs.Shown.{Shows}
use Rattle.rss_session.proofs.Defined.{none_is_open, base_live}
use Rattle.rss_session.proofs.Linked.{link_named, link_unnamed, links_full, links_left}
use Rattle.rss_session.proofs.Traffic.{live_is}

-- ---- the relations of a link

-- These are their numbers and their names.
pub record AreNamed (listing : Listing) (parent_name : Option Name) (child_name : Name) (parent : Option ℕ) (child : ℕ) : Type 0 where
  pub relation : RelationEntry
  pub at : relation_at listing child ≡ Some relation
  pub named : relation.name ≡ child_name
  pub upper : IfSome parent (λ number. is_some (relation_at listing number) ≡ true)
  pub above : option_and_then (relation_name listing) parent ≡ parent_name

pub named_by : (listing : Listing) (parent_name : Option Name) (child_name : Name) (parent : Option ℕ) (child : ℕ) → IsParentNumber listing parent_name parent → IsNumberOf RelationKind listing child_name child → AreNamed listing parent_name child_name parent child
named_by listing parent_name child_name parent child upper lower =
    let has = entry_at listing child_name child lower in record {
      relation = has.entry;
      at = has.at;
      named = has.named;
      upper = there parent_name parent upper;
      above = spelled parent_name parent upper;
    }
  where
    there : (parent_name : Option Name) (parent : Option ℕ) → IsParentNumber listing parent_name parent → IfSome parent (λ number. is_some (relation_at listing number) ≡ true)
    there None None is = tt
    there None (Some number) is = absurd is
    there (Some name) None is = absurd is
    there (Some name) (Some number) is = ap is_some (entry_at listing name number is).at

    spelled : (parent_name : Option Name) (parent : Option ℕ) → IsParentNumber listing parent_name parent → option_and_then (relation_name listing) parent ≡ parent_name
    spelled None None is = refl
    spelled None (Some number) is = absurd is
    spelled (Some name) None is = absurd is
    spelled (Some name) (Some number) is =
        let has = entry_at listing name number is in
        ap (option_map (λ (r : RelationEntry). r.name)) has.at ∙ ap Some has.named

-- of a link that is listed
pub named_listed : {listing : Listing} {number : ℕ} {link : LinkEntry} {child : RelationEntry} → IsListedLink listing number link child → LinkFits listing link → AreNamed listing (option_and_then (relation_name listing) link.parent) child.name link.parent link.child
named_listed {listing = listing} {link = link} {child = child} its fits = record {
  relation = child;
  at = its.within;
  named = refl;
  upper = there link.parent fits.parent;
  above = refl;
}
  where
    there : (parent : Option ℕ) → IfSome parent (λ number. (is_some (relation_at listing number) ≡ true) × (number ≢ link.child)) → IfSome parent (λ number. is_some (relation_at listing number) ≡ true)
    there None fits = tt
    there (Some number) fits = fits.0

or_false : (b : Bool) → (b || false) ≡ b
or_false true = refl
or_false false = refl

both_true : {a b : Bool} → a ≡ true → b ≡ true → (a && (b && true)) ≡ true
both_true one other = rw (one, other) refl

second_false : (a : Bool) {b : Bool} → b ≡ false → (a && (b && true)) ≡ false
second_false true off = rw off refl
second_false false off = refl

-- ---- where no transaction is open

module _ {view : SessionView} {state : State} (shows : Shows view state) (closed : view.opened.transactions ≡ empty) where
  abbrev listing : Listing
  listing = view.store.catalog.listing

  spells : SpellsTables view.store.pages.held listing (now state)
  spells = shows.store.spells

  is_there : (number : ℕ) (relation : RelationEntry) → relation_at listing number ≡ Some relation → is_relation state relation.name ≡ true
  is_there number relation at = relation_named spells.listed spells.defines relation.name number (number_of listing number relation at)

  -- ---- a relation that is not there

  pub parent_lacks : (name child : Name) (parent : Option Name) → HasUnlisted listing parent → refusal state (MakeLink name parent child) ≡ Some (NoSuch RelationKind)
  parent_lacks name child None none = absurd none
  parent_lacks name child (Some parent) none =
      goes_on _ (none_is_open shows closed)
      ∙ refuses_at _ (refuses_unless (NoSuch RelationKind) (ap (λ (b : Bool). b && (is_relation state child && true)) (relation_unnamed spells.listed spells.defines parent none)))

  pub child_lacks : (name child : Name) (parent : Option Name) → IsUnlisted RelationKind listing child → refusal state (MakeLink name parent child) ≡ Some (NoSuch RelationKind)
  child_lacks name child parent none = goes_on _ (none_is_open shows closed) ∙ refuses_at _ (refuses_unless (NoSuch RelationKind) (by parent))
    where
      absent : is_relation state child ≡ false
      absent = relation_unnamed spells.listed spells.defines child none

      by : (parent : Option Name) → list_all (is_relation state) (relations_of_link parent child) ≡ false
      by None = ap (λ (b : Bool). b && true) absent
      by (Some upper) = second_false (is_relation state upper) absent

  -- ---- where they are

  module _ {parent_name : Option Name} {child_name : Name} {parent : Option ℕ} {child : ℕ} (are : AreNamed listing parent_name child_name parent child) where
    -- what is said of each by its name and by its number
    any_named : (of_name : Name → Bool) (of_number : ℕ → Bool) → ((number : ℕ) (relation : RelationEntry) → relation_at listing number ≡ Some relation → of_name relation.name ≡ of_number number)
        → list_any of_name (relations_of_link parent_name child_name) ≡ any_of_link of_number parent child
    any_named of_name of_number each =
        (λ i. list_any of_name (relations_of_link (sym are.above i) (sym are.named i))) ∙ by parent are.upper
      where
        lower : of_name are.relation.name ≡ of_number child
        lower = each child are.relation are.at

        by : (parent : Option ℕ) → IfSome parent (λ number. is_some (relation_at listing number) ≡ true) → list_any of_name (relations_of_link (option_and_then (relation_name listing) parent) are.relation.name) ≡ any_of_link of_number parent child
        by None upper = or_false (of_name are.relation.name) ∙ lower
        by (Some number) upper =
            let above = some_of (relation_at listing number) upper in
            ap (λ (o : Option Name). list_any of_name (relations_of_link o are.relation.name)) (ap (option_map (λ (r : RelationEntry). r.name)) above.1)
            ∙ (λ i. each number above.0 above.1 i || or_false (of_name are.relation.name) i)
            ∙ ap (λ (b : Bool). of_number number || b) lower

    -- they are relations
    all_there : list_all (is_relation state) (relations_of_link parent_name child_name) ≡ true
    all_there = (λ i. list_all (is_relation state) (relations_of_link (sym are.above i) (sym are.named i))) ∙ by parent are.upper
      where
        by : (parent : Option ℕ) → IfSome parent (λ number. is_some (relation_at listing number) ≡ true) → list_all (is_relation state) (relations_of_link (option_and_then (relation_name listing) parent) are.relation.name) ≡ true
        by None upper = ap (λ (b : Bool). b && true) (is_there child are.relation are.at)
        by (Some number) upper =
            let above = some_of (relation_at listing number) upper in
            ap (λ (o : Option Name). list_all (is_relation state) (relations_of_link o are.relation.name)) (ap (option_map (λ (r : RelationEntry). r.name)) above.1)
            ∙ both_true (is_there number above.0 above.1) (is_there child are.relation are.at)

    -- they are one where their numbers are
    twice_named : has_twice (relations_of_link parent_name child_name) ≡ is_parent_in parent child
    twice_named = (λ i. has_twice (relations_of_link (sym are.above i) (sym are.named i))) ∙ by parent are.upper
      where
        by : (parent : Option ℕ) → IfSome parent (λ number. is_some (relation_at listing number) ≡ true) → has_twice (relations_of_link (option_and_then (relation_name listing) parent) are.relation.name) ≡ is_parent_in parent child
        by None upper = refl
        by (Some number) upper =
            let above = some_of (relation_at listing number) upper in
            ap (λ (o : Option Name). has_twice (relations_of_link o are.relation.name)) (ap (option_map (λ (r : RelationEntry). r.name)) above.1)
            ∙ ap (λ (b : Bool). (b || false) || false) (tied_by spells.listed spells.defines number child above.0 are.relation above.1 are.at)
            ∙ or_false ((number == child) || false) ∙ or_false (number == child)

    roles_named : list_any (is_in_most_links state) (relations_of_link parent_name child_name) ≡ any_of_link (is_in_most listing) parent child
    roles_named = any_named (is_in_most_links state) (is_in_most listing) (λ number relation at. ap (nat_le roles_most) (parts_are spells.listed spells.defines number relation at))

    filled_named : list_any (holds_tuples state) (relations_of_link parent_name child_name) ≡ any_of_link (is_filled listing) parent child
    filled_named = any_named (holds_tuples state) (is_filled listing) (λ number relation at. ap (nat_le 1) (base_live shows closed number relation at ∙ sym (live_is listing number relation at)))

    -- ---- a link that is made

    module _ (name : Name) where
      taken : (is_link state name || has_twice (relations_of_link parent_name child_name)) ≡ true → refusal state (MakeLink name parent_name child_name) ≡ Some NameTaken
      taken is =
          goes_on _ (none_is_open shows closed) ∙ goes_on _ (passes_unless (NoSuch RelationKind) all_there)
          ∙ refuses_at _ (refuses_if NameTaken is)

      pub link_known : (number : ℕ) → IsNumberOf LinkKind listing name number → refusal state (MakeLink name parent_name child_name) ≡ Some NameTaken
      link_known number is = taken (ap (λ (b : Bool). b || has_twice (relations_of_link parent_name child_name)) (link_named spells.listed spells.defines name number is))

      module _ (fresh : IsUnlisted LinkKind listing name) where
        unnamed : is_link state name ≡ false
        unnamed = link_unnamed spells.listed spells.defines name fresh

        pub link_twice : is_parent_in parent child ≡ true → refusal state (MakeLink name parent_name child_name) ≡ Some NameTaken
        link_twice same = taken (ap (λ (b : Bool). b || has_twice (relations_of_link parent_name child_name)) unnamed ∙ twice_named ∙ same)

        module _ (two : is_parent_in parent child ≡ false) where
          untaken : (is_link state name || has_twice (relations_of_link parent_name child_name)) ≡ false
          untaken = ap (λ (b : Bool). b || has_twice (relations_of_link parent_name child_name)) unnamed ∙ twice_named ∙ two

          pub link_many : AreAllUsed LinkKind listing → refusal state (MakeLink name parent_name child_name) ≡ Some (Limit LinkLimit)
          link_many full =
              goes_on _ (none_is_open shows closed) ∙ goes_on _ (passes_unless (NoSuch RelationKind) all_there) ∙ goes_on _ (passes_if NameTaken untaken)
              ∙ refuses_at _ (refuses_if (Limit LinkLimit) (links_full spells.listed spells.defines full))

          module _ (room : AreAllUsed LinkKind listing → ⊥) where
            pub link_roles : any_of_link (is_in_most listing) parent child ≡ true → refusal state (MakeLink name parent_name child_name) ≡ Some (Limit RoleLimit)
            link_roles most =
                goes_on _ (none_is_open shows closed) ∙ goes_on _ (passes_unless (NoSuch RelationKind) all_there) ∙ goes_on _ (passes_if NameTaken untaken)
                ∙ goes_on _ (passes_if (Limit LinkLimit) (links_left spells.listed spells.defines room))
                ∙ refuses_at _ (refuses_if (Limit RoleLimit) (roles_named ∙ most))

            module _ (left : any_of_link (is_in_most listing) parent child ≡ false) where
              pub link_filled : any_of_link (is_filled listing) parent child ≡ true → refusal state (MakeLink name parent_name child_name) ≡ Some NotEmpty
              link_filled filled =
                  goes_on _ (none_is_open shows closed) ∙ goes_on _ (passes_unless (NoSuch RelationKind) all_there) ∙ goes_on _ (passes_if NameTaken untaken)
                  ∙ goes_on _ (passes_if (Limit LinkLimit) (links_left spells.listed spells.defines room))
                  ∙ goes_on _ (passes_if (Limit RoleLimit) (roles_named ∙ left))
                  ∙ refuses_at _ (refuses_if NotEmpty (filled_named ∙ filled))

              pub link_may : any_of_link (is_filled listing) parent child ≡ false → refusal state (MakeLink name parent_name child_name) ≡ None
              link_may filled =
                  goes_on _ (none_is_open shows closed) ∙ goes_on _ (passes_unless (NoSuch RelationKind) all_there) ∙ goes_on _ (passes_if NameTaken untaken)
                  ∙ goes_on _ (passes_if (Limit LinkLimit) (links_left spells.listed spells.defines room))
                  ∙ goes_on _ (passes_if (Limit RoleLimit) (roles_named ∙ left))
                  ∙ goes_on _ (passes_if NotEmpty (filled_named ∙ filled))

  -- ---- a link that is dropped

  pub link_lacks : (name : Name) → IsUnlisted LinkKind listing name → refusal state (DropLink name) ≡ Some (NoSuch LinkKind)
  link_lacks name fresh = goes_on _ (none_is_open shows closed) ∙ refuses_at _ (refuses_unless (NoSuch LinkKind) (link_unnamed spells.listed spells.defines name fresh))

  module _ (number : ℕ) {link : LinkEntry} (at : link_at listing number ≡ Some link) where
    its : (relation : RelationEntry) × IsListedLink listing number link relation
    its = listed_link spells.listed number link at

    defined_so : map.get state.base.definitions.links link.name ≡ Some (link_definition listing link its.0)
    defined_so = spells.defines.paths.links number link its.0 its.1

    are_its : AreNamed listing (option_and_then (relation_name listing) link.parent) its.0.name link.parent link.child
    are_its = named_listed its.1 (spells.listed.paths.links number link at)

    pub drop_filled : any_of_link (is_filled listing) link.parent link.child ≡ true → refusal state (DropLink link.name) ≡ Some NotEmpty
    drop_filled filled =
        goes_on _ (none_is_open shows closed) ∙ goes_on _ (passes_unless (NoSuch LinkKind) (ap is_some defined_so))
        ∙ refuses_at _ (ap (if_link_holds_tuples state) defined_so ∙ refuses_if NotEmpty (filled_named are_its ∙ filled))

    pub drop_passes : any_of_link (is_filled listing) link.parent link.child ≡ false → refusal state (DropLink link.name) ≡ None
    drop_passes filled =
        goes_on _ (none_is_open shows closed) ∙ goes_on _ (passes_unless (NoSuch LinkKind) (ap is_some defined_so))
        ∙ goes_on _ (ap (if_link_holds_tuples state) defined_so ∙ passes_if NotEmpty (filled_named are_its ∙ filled))

-- ---- what a listing has then

-- the link of a number has the name that the number has
pub link_named_so : (listing : Listing) (name : Name) (number : ℕ) {link : LinkEntry} → IsNumberOf LinkKind listing name number → link_at listing number ≡ Some link → link.name ≡ name
link_named_so listing name number {link = link} is at = same_Some _ _ (sym (name_numbered (λ (l : LinkEntry). l.name) listing.links number link at) ∙ is)

module _ (listing : Listing) where
  -- none of the relations has tuples
  pub are_empty : (link : LinkEntry) → any_of_link (is_filled listing) link.parent link.child ≡ false → AreEmpty listing link
  are_empty link filled number relation role at = by link.parent filled role
    where
      none_at : is_filled listing number ≡ false → relation.live ≡ 0
      none_at off = omega (arith, leb-false 1 _ off, live_is listing number relation at)

      lower : is_filled listing link.child ≡ false → (link.child == number) ≡ true → relation.live ≡ 0
      lower off same = none_at (ap (is_filled listing) (sym (eqb-true link.child number same)) ∙ off)

      by : (parent : Option ℕ) → any_of_link (is_filled listing) parent link.child ≡ false → ((link.child == number) || is_parent_in parent number) ≡ true → relation.live ≡ 0
      by None off role = lower off (sym (or_false (link.child == number)) ∙ role)
      by (Some parent) off role =
          let parts = or_none (is_filled listing parent) (is_filled listing link.child) off in
          by_test (link.child == number)
          (λ same. lower parts.1 same)
          (λ other. none_at (ap (is_filled listing) (sym (eqb-true parent number (rw other at role))) ∙ parts.0))

  -- each may have a part in one link more
  pub role_left : (name : Name) (parent : Option ℕ) (child : ℕ) → any_of_link (is_in_most listing) parent child ≡ false → HasRoleLeft listing (link_entry name parent child)
  role_left name None child off = record { child = omega (arith, leb-false roles_most (roles_of listing child) off); parent = tt }
  role_left name (Some parent) child off =
      let parts = or_none (is_in_most listing parent) (is_in_most listing child) off in record {
        child = omega (arith, leb-false roles_most (roles_of listing child) parts.1);
        parent = omega (arith, leb-false roles_most (roles_of listing parent) parts.0);
      }

  -- the link may be listed
  pub link_fits : {parent_name : Option Name} {child_name : Name} {parent : Option ℕ} {child : ℕ} (name : Name) → IsName name → AreNamed listing parent_name child_name parent child → is_parent_in parent child ≡ false → LinkFits listing (link_entry name parent child)
  link_fits {parent = parent} {child = child} name is are two = record {
    name = is;
    child = ap is_some are.at;
    parent = by parent are.upper two;
    first = tt;
    last = tt;
    early = refl;
  }
    where
      by : (parent : Option ℕ) → IfSome parent (λ number. is_some (relation_at listing number) ≡ true) → is_parent_in parent child ≡ false → IfSome parent (λ number. (is_some (relation_at listing number) ≡ true) × (number ≢ child))
      by None upper two = tt
      by (Some number) upper two = (upper, eqb-false number child two)
