-- A chain that is read from its first tuple on.
use Rattle.std.proofs.Common.{◌≡◌, inl, inr, ℕ, ◌^◌, ◌<◌, ◌≤◌, Bool, true, List, [], ◌∷◌, ◌++◌, length, refl, sym, ◌∙◌, ap, subst, arith, append_assoc, length-append}
use Rattle.std.specs.Prelude.{if◌then◌else◌, Option, Some, None, map as list_map}
use Rattle.std.proofs.lemmas.List.{length-map, append-nil}
use Rattle.std.proofs.lemmas.Option.{same_Some}
use Rattle.rss_base.specs.Prefixes.{is_tid, first_of, last_of}
use Rattle.rss_base.specs.Listings.{relation_at, link_at}
use Rattle.rss_base.specs.declared.tid.Tid.{Tid}
use Rattle.rss_base.specs.declared.link.LinkEntry.{LinkEntry}
use Rattle.rss_base.specs.declared.relation.RelationEntry.{RelationEntry}
use Rattle.rss_model.specs.Items.{Content}
use Rattle.rss_model.specs.Tables.{Tables}
use Rattle.rss_model.specs.Images.{Entry, relation_list}
use Rattle.rss_model.specs.Chains.{chain, stands_in, next_of, StandOnce}
use Rattle.rss_model.specs.Fits.{Fits}
use Rattle.rss_model.proofs.ImageCounts.{entries_few}
use Rattle.rss_model.proofs.ImageLists.{listed}
use Rattle.rss_model.proofs.LogLists.{none_some, some_of}
use Rattle.rss_model.proofs.Mixing.{In}
use Rattle.rss_model.proofs.Standing.{tid_itself, or_first, or_second}
use Rattle.rss_stored.specs.Store.{SpellsTables}
use Rattle.rss_link.proofs.Lists.{last_is, last_behind}
use Rattle.rss_link.proofs.Once.{few}
use Rattle.rss_members.specs.Calls.{next_behind}
use Rattle.rss_members.proofs.Found.{there_in}
use Rattle.rss_members.proofs.Standing.{stands_between, next_is}
use Rattle.rss_access.specs.Changes.{AccessView}
use Rattle.rss_access.proofs.ChainTables.{members_of}
use Rattle.rss_draft.proofs.InLists.{first_is}

-- ---- the front of a chain

-- These tuples were read of a chain, and this is the last of them.
pub record IsRead (tids : List Tid) (last : Option Tid) (chain : List Tid) : Type 0 where
  pub rest : List Tid
  pub is : chain ≡ tids ++ rest
  pub ends : last ≡ last_of tids

pub none_read : {tids : List Tid} → tids ≡ [] → (chain : List Tid) → IsRead tids None chain
none_read none chain = record { rest = chain; is = ap (λ (l : List Tid). l ++ chain) (sym none); ends = ap last_of (sym none) }

no_first : (tids : List Tid) → first_of tids ≡ None → tids ≡ []
no_first [] none = refl
no_first (tid ∷ tids) none = none_some (sym none)

no_last : (tids : List Tid) → last_of tids ≡ None → tids ≡ []
no_last [] none = refl
no_last (tid ∷ []) none = none_some (sym none)
no_last (tid ∷ other ∷ tids) none = absurd (cc (no_last (other ∷ tids) none))

-- what comes next is the first of the others
next_rest : (tids : List Tid) (last : Option Tid) (chain : List Tid) → StandOnce chain → (read : IsRead tids last chain) → next_behind last chain ≡ Some (first_of read.rest)
next_rest tids None chain once read =
    let none : tids ≡ [] = no_last tids (sym read.ends) in
    ap (λ (l : List Tid). Some (first_of l)) (read.is ∙ ap (λ (l : List Tid). l ++ read.rest) none)
next_rest tids (Some last) chain once read =
    let front = last_is tids last (sym read.ends) in
    let whole : chain ≡ front.0 ++ last ∷ read.rest = read.is ∙ ap (λ (l : List Tid). l ++ read.rest) front.1 ∙ append_assoc front.0 (last ∷ []) read.rest in
    let on : stands_in last chain ≡ true = ap (stands_in last) whole ∙ stands_between last front.0 read.rest in
    ap (λ (b : Bool). if b then Some (next_of last chain) else None) on
    ∙ ap (λ (o : Option Tid). Some o) (ap (next_of last) whole ∙ next_is last front.0 read.rest (subst StandOnce whole once))

-- one tuple more
pub read_more : (tids : List Tid) (last : Option Tid) (chain : List Tid) (tid : Tid) → StandOnce chain → IsRead tids last chain → next_behind last chain ≡ Some (Some tid) → {now : List Tid} → now ≡ tids ++ tid ∷ [] → IsRead now (Some tid) chain
read_more tids last chain tid once read next now_is =
    let first = first_is read.rest tid (same_Some (first_of read.rest) (Some tid) (sym (next_rest tids last chain once read) ∙ next)) in
    record {
      rest = first.0;
      is = read.is ∙ ap (λ (l : List Tid). tids ++ l) first.1 ∙ sym (append_assoc tids (tid ∷ []) first.0) ∙ ap (λ (l : List Tid). l ++ first.0) (sym now_is);
      ends = sym (ap last_of now_is ∙ last_behind tids [] tid);
    }

-- no more
pub read_all : (tids : List Tid) (last : Option Tid) (chain : List Tid) (found : Option (Option Tid)) → StandOnce chain → IsRead tids last chain → found ≡ next_behind last chain → ((tid : Tid) → found ≡ Some (Some tid) → ⊥) → chain ≡ tids
read_all tids last chain found once read is none =
    let rest : read.rest ≡ [] = no_first read.rest (by (first_of read.rest) (is ∙ next_rest tids last chain once read)) in
    read.is ∙ ap (λ (l : List Tid). tids ++ l) rest ∙ append-nil tids
  where
    by : (o : Option Tid) → found ≡ Some o → o ≡ None
    by None same = refl
    by (Some tid) same = absurd (none tid same)

-- as many as there can be
pub read_most : (tids : List Tid) (last : Option Tid) (chain : List Tid) → IsRead tids last chain → length chain ≤ length tids → chain ≡ tids
read_most tids last chain read most =
    let rest : read.rest ≡ [] = empty read.rest (omega (arith, most, ap (λ (l : List Tid). length l) read.is, length-append tids read.rest)) in
    read.is ∙ ap (λ (l : List Tid). tids ++ l) rest ∙ append-nil tids
  where
    empty : (l : List Tid) → length l ≤ 0 → l ≡ []
    empty [] low = refl
    empty (x ∷ l) low = absurd (omega (arith, low))

-- ---- no chain has more tuples than the relation of its children

mapped_in : (entries : List Entry) (e : Entry) → In e entries → stands_in e.tid (list_map (λ (x : Entry). x.tid) entries) ≡ true
mapped_in [] e is = absurd is
mapped_in (x ∷ entries) e (inl same) = or_first (is_tid e.tid x.tid) _ (subst (λ (y : Entry). is_tid e.tid y.tid ≡ true) (sym same) (tid_itself e.tid))
mapped_in (x ∷ entries) e (inr is) = or_second (is_tid e.tid x.tid) _ (mapped_in entries e is)

module _ (at : AccessView) (small : at.pages.slots < 2 ^ 32) {tables : Tables} (spells : SpellsTables at.pages.held at.catalog.listing tables) (fit : Fits at.pages.slots tables) (number : ℕ) (link : LinkEntry) (at_link : link_at at.catalog.listing number ≡ Some link)
    (child : RelationEntry) (at_child : relation_at at.catalog.listing link.child ≡ Some child) (parent : Option Tid) where
  abbrev tids : List Tid
  tids = list_map (λ (e : Entry). e.tid) (relation_list tables child.name)

  each : (t : Tid) → stands_in t (chain tables.contents link.name parent) ≡ true → stands_in t tids ≡ true
  each t on =
      let there = there_in (members_of at small spells fit.tuples fit.links fit.tids) number link child (record { at = at_link; within = at_child }) parent t on in
      let held = some_of _ there in
      let of = fit.tuples child.name t held.0 held.1 in
      mapped_in (relation_list tables child.name) _ (listed tables child.name [] t of.values (held.1 ∙ ap (λ (c : Content). Some c) of.tuple))

  pub chain_few : StandOnce (chain tables.contents link.name parent) → length (chain tables.contents link.name parent) ≤ child.live
  chain_few once = omega (
    arith,
    few (chain tables.contents link.name parent) tids once each,
    length-map (relation_list tables child.name) (λ (e : Entry). e.tid),
    entries_few tables child.name [],
    spells.counts link.child child at_child,
  )
