-- The chain of a parent now: as the draft says, or else on the pages.
use Rattle.std.proofs.Common.{◌≡◌, ℕ, ◌^◌, ◌<◌, true, List, refl, sym, ◌∙◌, ap, subst}
use Rattle.std.specs.Prelude.{Option, Some, None, option_map, unwrap_or, is_some}
use Rattle.std.proofs.lemmas.Option.{same_Some}
use Rattle.rss_base.specs.Listings.{Listing, link_at}
use Rattle.rss_base.specs.declared.name.Name.{Name}
use Rattle.rss_base.specs.declared.tid.Tid.{Tid}
use Rattle.rss_base.specs.declared.item.Item.TheVariants.{Chain}
use Rattle.rss_base.specs.declared.link.LinkEntry.{LinkEntry}
use Rattle.rss_tuple.specs.Directory.{Bodies}
use Rattle.rss_model.specs.Tables.{Tables, content}
use Rattle.rss_model.specs.Chains.{tuples_in, chain_content, chain, StandOnce}
use Rattle.rss_model.proofs.ChainKeeping.{chain_back}
use Rattle.rss_model.proofs.Standing.{tuples_of}
use Rattle.rss_stored.specs.Store.{link_definition}
use Rattle.rss_members.specs.Members.{SpellsMembers}
use Rattle.rss_members.specs.Calls.{AnswersChain, HasForm, MayAskChain}
use Rattle.rss_members.proofs.Chained.{once}
use Rattle.rss_members.proofs.Defined.{child_listed}
use Rattle.rss_access.specs.Changes.{AccessView, CanAlter, members}
use Rattle.rss_access.proofs.ChainMade.{may_relink}
use Rattle.rss_access.proofs.ChainTables.{members_of}
use Rattle.rss_draft.specs.Views.{DraftView}
use Rattle.rss_draft.specs.Looks.{StandsOver, SoOfChain, IsSavedChain, HasLinkOfForm}

module _ {at : AccessView} {draft : DraftView} {saved tables : Tables} (over : StandsOver at draft saved tables) (name : Name) (parent : Option Tid) where
  -- what its item holds, by what the draft says
  holds : (said : Option (List Tid)) → draft.chains name parent ≡ said → content tables.contents (Chain name parent) ≡ unwrap_or (option_map chain_content said) (content saved.contents (Chain name parent))
  holds said is = over.is.chains name parent ∙ ap (λ (o : Option (List Tid)). unwrap_or (option_map chain_content o) (content saved.contents (Chain name parent))) is

  pub chain_said : (tids : List Tid) → draft.chains name parent ≡ Some tids → chain tables.contents name parent ≡ tids
  chain_said tids is = ap tuples_in (holds (Some tids) is) ∙ tuples_of tids

  pub chain_unsaid : draft.chains name parent ≡ None → chain tables.contents name parent ≡ chain saved.contents name parent
  chain_unsaid is = ap tuples_in (holds None is)

  -- it holds the tuples of the chain, and nothing where there are none
  pub chain_holds : content tables.contents (Chain name parent) ≡ chain_content (chain tables.contents name parent)
  chain_holds = by (draft.chains name parent) refl
    where
      by : (o : Option (List Tid)) → draft.chains name parent ≡ o → content tables.contents (Chain name parent) ≡ chain_content (chain tables.contents name parent)
      by None is = holds None is ∙ sym (chain_back over.fit name parent) ∙ ap chain_content (sym (chain_unsaid is))
      by (Some tids) is = holds (Some tids) is ∙ ap chain_content (sym (chain_said tids is))

-- ---- what is answered

module _ (at : AccessView) (draft : DraftView) (number : ℕ) (link : LinkEntry) (listed : link_at at.catalog.listing number ≡ Some link) (parent : Option Tid) (so : List Tid → Type 0) where
  pub chain_said_so : (tids : List Tid) → draft.chains link.name parent ≡ Some tids → so tids → SoOfChain at draft number parent so
  chain_said_so tids is its saved tables over entry at_entry =
      subst (λ (l : LinkEntry). so (chain tables.contents l.name parent)) (same_Some _ _ (sym listed ∙ at_entry)) (subst so (sym (chain_said over link.name parent tids is)) its)

  pub chain_saved_so : at.pages.slots < 2 ^ 32 → draft.chains link.name parent ≡ None → AnswersChain (members at) number parent so → SoOfChain at draft number parent so
  chain_saved_so small is answers saved tables over entry at_entry =
      let same : link ≡ entry = same_Some _ _ (sym listed ∙ at_entry) in
      subst so (sym (chain_unsaid over entry.name parent (ap (λ (l : LinkEntry). draft.chains l.name parent) (sym same) ∙ is)))
      (answers over.told saved entry (members_of at small over.spells over.fit.tuples over.fit.links over.fit.tids) at_entry)

-- that was read from the pages
module _ (at : AccessView) (draft : DraftView) (number : ℕ) (link : LinkEntry) (listed : link_at at.catalog.listing number ≡ Some link) (parent : Option Tid) (tids : List Tid) where
  pub chain_read_so : draft.chains link.name parent ≡ None → IsSavedChain at number parent tids → SoOfChain at draft number parent (λ list. list ≡ tids)
  chain_read_so is are saved tables over entry at_entry =
      let same : link ≡ entry = same_Some _ _ (sym listed ∙ at_entry) in
      chain_unsaid over entry.name parent (ap (λ (l : LinkEntry). draft.chains l.name parent) (sym same) ∙ is) ∙ are over.told saved entry over.spells over.fit at_entry

-- ---- of any tables that are spelled

-- no tuple stands twice in a chain
pub spelled_once : {listing : Listing} {bodies : Bodies} {tables : Tables} → SpellsMembers listing bodies tables → (number : ℕ) (link : LinkEntry) → link_at listing number ≡ Some link → (parent : Option Tid) → StandOnce (chain tables.contents link.name parent)
spelled_once {listing = listing} spells number link at parent =
    let child = child_listed spells number link at in
    once spells.links link.name (link_definition listing link child.0) (spells.defines.paths.links number link child.0 child.1) parent

-- ---- the form of a link

pub form_is : {listing : Listing} {number : ℕ} {parent : Option Tid} → HasLinkOfForm listing number parent → HasForm listing number parent
form_is {parent = parent} has link at = subst (λ (l : LinkEntry). is_some l.parent ≡ is_some parent) (same_Some _ _ (sym has.at ∙ at)) has.form

-- ---- what may be asked

pub may_chain : (at : AccessView) → at.pages.slots < 2 ^ 32 → CanAlter at → (number : ℕ) (parent : Option Tid) → is_some (link_at at.catalog.listing number) ≡ true → HasForm at.catalog.listing number parent → MayAskChain (members at) number parent
may_chain at small can number parent listed form = let may = may_relink at small can in record { listed = listed; form = form; heaps = may.heaps; knows = may.knows }
