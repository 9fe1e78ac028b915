-- The chains of tables that fit, as the lists of a link, and what the blocks of its tuples say of them.
use Rattle.std.proofs.Common.{◌≡◌, ℕ, suc, Bool, true, false, List, [], ◌∷◌, Option, Some, None, refl, sym, ◌∙◌, ap, subst, arith}
use Rattle.std.specs.Prelude.{All, not, is_some, option_map}
use Rattle.std.specs.FinMap as map
use Rattle.std.proofs.lemmas.Option.{same_Some}
use Rattle.rss_base.specs.Prefixes.{Neighbours, is_tid, first_of, neighbours_from, lower_part, child_block}
use Rattle.rss_base.specs.declared.name.Name.{Name}
use Rattle.rss_base.specs.declared.tid.Tid.{Tid}
use Rattle.rss_base.specs.declared.item.Item.{Item}
use Rattle.rss_base.specs.declared.item.Item.TheVariants.{Chain as ChainItem}
use Rattle.rss_model.specs.Items.{Content}
use Rattle.rss_model.specs.Tables.{LinkDef, Contents, Tables, content}
use Rattle.rss_model.specs.Chains.{tuples_in, chain, chain_with, stands_in, is_there, HasParent, StandOnce, LinksFit}
use Rattle.rss_stored.specs.Store.{place_of, block_of}
use Rattle.rss_model.proofs.ChainKeeping.{chain_found}
use Rattle.rss_model.proofs.ChangeKeeping.{in_no_chain}
use Rattle.rss_model.proofs.LogLists.{by_test, false_true}
use Rattle.rss_model.proofs.Standing.{tid_same, by_tid, tid_itself, tid_apart}
use Rattle.rss_link.specs.Chains.{IsParent}
use Rattle.rss_link.specs.Prefixed.{IsChildBlock, within, outside, IsLowerBlock, AreLists}
use Rattle.rss_link.proofs.Operations.{chain_has}
use Rattle.rss_members.specs.Members.{is_parent, linkage_of}

-- ---- lists of tuples

pub each_stands : (P : Tid → Type 0) (tids : List Tid) → All P tids → (x : Tid) → stands_in x tids ≡ true → P x
each_stands P [] all x is = absurd (cc (is))
each_stands P (y ∷ tids) all x is = by_test (is_tid x y)
    (λ e. subst P (sym (tid_same x y e)) (all 0 y (omega arith)))
    (λ e. each_stands P tids (λ k d lt. all (suc k) d (omega (arith, lt))) x (rw e at is))

pub some_neighbours : (x : Tid) (before : Option Tid) (tids : List Tid) → stands_in x tids ≡ true → (n : Neighbours) × (neighbours_from before tids x ≡ Some n)
some_neighbours x before [] is = absurd (cc (is))
some_neighbours x before (y ∷ tids) is = by_tid y x
    (λ e. let here : is_tid y x ≡ true = subst (λ (t : Tid). is_tid y t ≡ true) e (tid_itself y) in (record { previous = before; next = first_of tids }, rw here refl))
    (λ off.
    let here : is_tid y x ≡ false = tid_apart y x off in
    let there : is_tid x y ≡ false = tid_apart x y (λ e. off (sym e)) in
    let rest = some_neighbours x (Some y) tids (rw there at is) in
    (rest.0, rw here rest.1))

some_held : (o : Option Content) (x : Tid) → stands_in x (tuples_in o) ≡ true → (held : Content) × (o ≡ Some held)
some_held None x is = absurd (cc (is))
some_held (Some held) x is = (held, refl)

pub as_parent : (contents : Contents) (above : Option Name) (parent : Option Tid) → HasParent contents above parent → IsParent (not (is_some above)) (is_parent contents above) parent
as_parent contents None None has = tt
as_parent contents None (Some parent) has = has
as_parent contents (Some relation) None has = has
as_parent contents (Some relation) (Some parent) has = has

-- ---- the chains of a link

module _ {tables : Tables} (links : LinksFit tables) (name : Name) (link : LinkDef) (defined : map.get tables.definitions.links name ≡ Some link) where
  -- a chain that has some tuple
  pub record IsFull (parent : Option Tid) : Type 0 where
    pub members : (x : Tid) → stands_in x (chain tables.contents name parent) ≡ true → is_there tables.contents link.child x ≡ true
    pub under : HasParent tables.contents link.parent parent

  pub full : (parent : Option Tid) (x : Tid) → stands_in x (chain tables.contents name parent) ≡ true → IsFull parent
  full parent x is =
      let held = some_held (content tables.contents (ChainItem name parent)) x is in
      let of = links.chains name parent held.0 held.1 in
      let same : of.definition ≡ link = same_Some _ _ (sym of.defined ∙ defined) in
      let list : chain tables.contents name parent ≡ of.tids = ap tuples_in held.1 ∙ ap (λ (c : Content). tuples_in (Some c)) of.is in
      record {
        members = λ y there. subst (λ (d : LinkDef). is_there tables.contents d.child y ≡ true) same (each_stands (λ z. is_there tables.contents of.definition.child z ≡ true) of.tids of.members y (subst (λ (l : List Tid). stands_in y l ≡ true) list there));
        under = subst (λ (d : LinkDef). HasParent tables.contents d.parent parent) same of.under;
      }

  pub once : (parent : Option Tid) → StandOnce (chain tables.contents name parent)
  once parent = by (content tables.contents (ChainItem name parent)) refl
    where
      by : (o : Option Content) → content tables.contents (ChainItem name parent) ≡ o → StandOnce (chain tables.contents name parent)
      by None is = subst StandOnce (sym (ap tuples_in is)) tt
      by (Some held) is =
          let of = links.chains name parent held is in
          subst StandOnce (sym (ap tuples_in is ∙ ap (λ (c : Content). tuples_in (Some c)) of.is)) of.once

  pub its_lists : (unary : Bool) → unary ≡ not (is_some link.parent) → AreLists unary (linkage_of tables.contents name link)
  its_lists unary kind = record {
    children = λ parent child there. (full parent child there).members child there;
    parents = λ parent child there. subst (λ (u : Bool). IsParent u (is_parent tables.contents link.parent) parent) (sym kind) (as_parent tables.contents link.parent parent (full parent child there).under);
    alone = λ one other child. links.alone name one other child;
    once = once;
  }

  -- where the link has parents, so has each chain with a tuple
  pub has_parent : is_some link.parent ≡ true → (parent : Option Tid) (x : Tid) → stands_in x (chain tables.contents name parent) ≡ true → (above : Tid) × (parent ≡ Some above)
  has_parent kind parent x is = by link.parent parent kind (full parent x is).under
    where
      by : (above : Option Name) (parent : Option Tid) → is_some above ≡ true → HasParent tables.contents above parent → (tid : Tid) × (parent ≡ Some tid)
      by None parent kind has = absurd (cc (kind))
      by (Some relation) None kind has = absurd has
      by (Some relation) (Some tid) kind has = (tid, refl)

  child_block_is : is_some link.parent ≡ true → (tid : Tid) → IsChildBlock (chain tables.contents name) tid (child_block (place_of tables.contents tid (chain_with tables.contents name tid)))
  child_block_is kind tid = by (chain_with tables.contents name tid) refl
    where
      below : (item : Item) (parent : Tid) → item ≡ ChainItem name (Some parent) → stands_in tid (chain tables.contents name (Some parent)) ≡ true → IsChildBlock (chain tables.contents name) tid (child_block (place_of tables.contents tid (Some item)))
      below item parent is there =
          let found = some_neighbours tid None (chain tables.contents name (Some parent)) there in
          within parent found.0 found.1
          (ap (λ (i : Item). child_block (place_of tables.contents tid (Some i))) is
          ∙ ap (λ (o : Option Neighbours). child_block (option_map (λ neighbours. record { parent = parent; neighbours = neighbours }) o)) found.1)

      by : (o : Option Item) → chain_with tables.contents name tid ≡ o → IsChildBlock (chain tables.contents name) tid (child_block (place_of tables.contents tid o))
      by None is = outside (λ stands. false_true (chain_has (chain tables.contents name) stands.parent tid (record { before = stands.before; after = stands.after; is = stands.is })) (in_no_chain tables.contents name tid is stands.parent)) refl
      by (Some item) is =
          let found = chain_found tables.contents name tid item is in
          let above = has_parent kind found.0 tid found.2 in
          below item above.0 (found.1 ∙ ap (ChainItem name) above.1) (subst (λ (p : Option Tid). stands_in tid (chain tables.contents name p) ≡ true) above.1 found.2)

  pub lower_block : (parent : Option ℕ) → is_some parent ≡ is_some link.parent → (tid : Tid) → IsLowerBlock (not (is_some parent)) (chain tables.contents name) tid (block_of tables.contents name tid (lower_part parent))
  lower_block None kind tid = refl
  lower_block (Some parent) kind tid = child_block_is (sym kind) tid
