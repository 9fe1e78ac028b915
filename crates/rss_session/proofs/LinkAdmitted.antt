-- What a call on a link is refused for first, in the states in which a session may be.
use mathlib.Core.Bool.{beq}
use Rattle.std.proofs.Common.{◌≡◌, ◌≢◌, ℕ, Bool, true, false, refl, sym, ◌∙◌, ap}
use Rattle.std.specs.Prelude.{Option, Some, None, IfSome, is_some, not, option_map, option_and_then}
use Rattle.std.specs.FinMap as map
use Rattle.std.proofs.lemmas.Option.{none-some, same_Some}
use Rattle.rss_base.specs.Listings.{Listing, IsNumberOf, IsUnlisted, relation_at, link_at}
use Rattle.rss_base.specs.declared.link.LinkEntry.{LinkEntry}
use Rattle.rss_base.specs.declared.name.Name.{Name}
use Rattle.rss_base.specs.declared.refusal.Kind.TheVariants.{Link as LinkKind}
use Rattle.rss_base.specs.declared.refusal.Refusal.TheVariants.{NoSuch}
use Rattle.rss_base.specs.declared.relation.RelationEntry.{RelationEntry}
use Rattle.rss_catalog.proofs.Numbered.{numbered_map}
use Rattle.rss_model.specs.Machine.{State, now}
use Rattle.rss_model.specs.Refusals.{link_of, is_same, has_form}
use Rattle.rss_model.specs.Steps.{unless_open}
use Rattle.rss_stored.specs.Store.{SpellsTables, link_definition, relation_name}
use Rattle.rss_model.specs.Tables.{LinkDef}
use Rattle.rss_model.proofs.LogLists.{some_of}
use Rattle.rss_stored.proofs.Spelled.{listed_link}
use Rattle.rss_model.proofs.Tests.{goes_on, refuses_at, refuses_unless, passes_unless}
use Rattle.rss_session.specs.Admissions.{unless_link, link_admission}
use Rattle.rss_session.specs.Sessions.{SessionView}
use Rattle.rss_session.specs.Shown.{Shows}
use Rattle.rss_session.proofs.Linked.{link_unnamed}

-- the link of a number whose name is known
pub link_listed : (listing : Listing) (name : Name) (number : ℕ) → IsNumberOf LinkKind listing name number → (link : LinkEntry) × ((link_at listing number ≡ Some link) × (link.name ≡ name))
link_listed listing name number is = by (link_at listing number) refl (sym (numbered_map (λ (l : LinkEntry). l.name) listing.links number) ∙ is)
  where
    by : (o : Option LinkEntry) → link_at listing number ≡ o → option_map (λ (l : LinkEntry). l.name) o ≡ Some name → (link : LinkEntry) × ((link_at listing number ≡ Some link) × (link.name ≡ name))
    by None at named = absurd (none-some name named)
    by (Some link) at named = (link, (at, same_Some _ _ named))

same_is : (a b : Bool) → is_same a b ≡ beq a b
same_is true true = refl
same_is true false = refl
same_is false true = refl
same_is false false = refl

not_true : (b : Bool) → not b ≡ true → b ≡ false
not_true true is = absurd (cc (is))
not_true false is = refl

not_false : (b : Bool) → not b ≡ false → b ≡ true
not_false true is = refl
not_false false is = absurd (cc (is))

module _ {view : SessionView} {state : State} (shows : Shows view state) (t : ℕ) (name : Name) (opened : unless_open state t ≡ None) where
  abbrev listing : Listing
  listing = view.store.catalog.listing

  spells : SpellsTables view.store.pages.held listing (now state)
  spells = shows.store.spells

  -- there is no such link
  pub refuses_absent : IsUnlisted LinkKind listing name → (given : Option Bool) → link_admission state t name given ≡ Some (NoSuch LinkKind)
  refuses_absent fresh given = goes_on _ opened ∙ refuses_at _ (by given)
    where
      absent : is_some (link_of state name) ≡ false
      absent = link_unnamed spells.listed spells.defines name fresh

      formless : (o : Option LinkDef) → is_some o ≡ false → (given : Bool) → has_form o given ≡ false
      formless None is given = refl
      formless (Some link) is given = absurd (cc (is))

      by : (given : Option Bool) → unless_link state name given ≡ Some (NoSuch LinkKind)
      by None = refuses_unless (NoSuch LinkKind) absent
      by (Some given) = refuses_unless (NoSuch LinkKind) (formless (link_of state name) absent given)

  module _ (number : ℕ) (is : IsNumberOf LinkKind listing name number) where
    -- it is defined as it is listed
    defined_as : (link : LinkEntry) → link_at listing number ≡ Some link → (child : RelationEntry) × (link_of state name ≡ Some (link_definition listing link child))
    defined_as link at =
        let has = link_listed listing name number is in
        let so = listed_link spells.listed number link at in
        let named : link.name ≡ name = ap (λ (l : LinkEntry). l.name) (same_Some _ _ (sym at ∙ has.1.0)) ∙ has.1.1 in
        (so.0, ap (map.get state.base.definitions.links) (sym named) ∙ spells.defines.paths.links number link so.0 so.1)

    -- whatever form it has
    pub admits_any : (given : Option Bool) → given ≡ None → link_admission state t name given ≡ None
    admits_any given none =
        let has = link_listed listing name number is in
        let so = defined_as has.0 has.1.0 in
        ap (link_admission state t name) none ∙ goes_on _ opened ∙ goes_on _ (passes_unless (NoSuch LinkKind) (ap is_some so.1))

    module _ (link : LinkEntry) (at : link_at listing number ≡ Some link) (given : Option Bool) (given_now : Bool) (some : given ≡ Some given_now) (has : Bool) (has_is : has ≡ is_some link.parent) where
      -- its parents' relation is listed
      upper : is_some (option_and_then (relation_name listing) link.parent) ≡ is_some link.parent
      upper = by link.parent (spells.listed.paths.links number link at).parent
        where
          by : (parent : Option ℕ) → IfSome parent (λ k. (is_some (relation_at listing k) ≡ true) × (k ≢ link.child)) → is_some (option_and_then (relation_name listing) parent) ≡ is_some parent
          by None fits = refl
          by (Some k) fits = let its = some_of (relation_at listing k) fits.0 in ap (λ (o : Option RelationEntry). is_some (option_map (λ (r : RelationEntry). r.name) o)) its.1

      form_is : has_form (link_of state name) given_now ≡ beq has given_now
      form_is =
          let so = defined_as link at in
          ap (λ (o : Option LinkDef). has_form o given_now) so.1 ∙ ap (λ (b : Bool). is_same b given_now) (upper ∙ sym has_is) ∙ same_is has given_now

      -- it has the form that is told, or another one
      pub admits_formed : not (beq has given_now) ≡ false → link_admission state t name given ≡ None
      admits_formed same =
          ap (link_admission state t name) some ∙ goes_on _ opened ∙ goes_on _ (passes_unless (NoSuch LinkKind) (form_is ∙ not_false (beq has given_now) same))

      pub refuses_misformed : not (beq has given_now) ≡ true → link_admission state t name given ≡ Some (NoSuch LinkKind)
      refuses_misformed other =
          ap (link_admission state t name) some ∙ goes_on _ opened ∙ refuses_at _ (refuses_unless (NoSuch LinkKind) (form_is ∙ not_true (beq has given_now) other))
