-- Tables in which a chain has another list.
use Rattle.std.proofs.Common.{◌≡◌, ◌⊎◌, inl, inr, ℕ, ◌≤◌, Bool, true, false, List, [], ◌∷◌, length, Option, Some, None, refl, sym, ◌∙◌, ap, subst, arith}
use Rattle.std.specs.Prelude.{not, is_some, option_map}
use Rattle.std.specs.Ordering.{eq_by_cmp}
use Rattle.std.specs.FinMap as map
use Rattle.std.proofs.lemmas.Option.{same_Some}
use Rattle.rss_base.specs.Prefixes.{Neighbours, Part, Outside, Member, Child, Parent, is_tid, ends_of, neighbours_from, neighbours_in, member_block, child_block, parent_block}
use Rattle.rss_base.specs.declared.name.Name.{Name}
use Rattle.rss_base.specs.declared.tid.Tid.{Tid}
use Rattle.rss_base.specs.declared.item.Item.{Item}
use Rattle.rss_base.specs.declared.item.Item.TheVariants.{Tuple as TupleItem, Chain as ChainItem}
use Rattle.rss_model.specs.Items.{Content, name_cmp}
use Rattle.rss_model.specs.Tables.{LinkDef, Tables, content}
use Rattle.rss_model.specs.Chains.{tuples_in, chain, chain_content, chain_with, stands_in, is_there, HasParent, StandOnce, IsChainOf, LinksFit}
use Rattle.rss_stored.specs.Store.{place_of, block_of}
use Rattle.rss_model.proofs.ChainKeeping.{chain_found}
use Rattle.rss_model.proofs.Codes.{name_total, name_apart}
use Rattle.rss_model.proofs.Contents.{tied}
use Rattle.rss_model.proofs.LogChanging.{by_item, put_here, put_other}
use Rattle.rss_model.proofs.LogLists.{false_true, none_some}
use Rattle.rss_model.proofs.Mixing.{each_of, all_of}
use Rattle.rss_model.proofs.Named.{cases_name}
use Rattle.rss_model.proofs.Refitting.{chain_parts}
use Rattle.rss_model.proofs.SeenAlike.{chain_same}
use Rattle.rss_model.proofs.Standing.{by_tid, tid_apart, or_second, stands_of, tuples_of, content_of}
use Rattle.rss_model.proofs.Viewing.{stands}
use Rattle.rss_link.specs.Chains.{Lists, IsParent, with_list, relinked}
use Rattle.rss_link.specs.Prefixed.{IsChildBlock, within, outside, IsLowerBlock, AreLists}
use Rattle.rss_link.proofs.Lists.{place_cases, list_here, list_off}
use Rattle.rss_link.proofs.Operations.{in_chain, stands_under}
use Rattle.rss_members.specs.Members.{is_parent, linkage_of, with_chain}

pub name_cases : (a b : Name) → (a ≡ b) ⊎ (a ≡ b → ⊥)
name_cases a b = elim (cases_name a b) [
  | inl same ↦ inl same
  | inr differ ↦ inr (λ e. false_true (ap (λ (n : Name). eq_by_cmp name_cmp n b) e ∙ tied name_total name_apart b) differ)
]

-- ---- a list says one block of a child

stands_where : (x : Tid) (before : Option Tid) (tids : List Tid) (n : Neighbours) → neighbours_from before tids x ≡ Some n → stands_in x tids ≡ true
stands_where x before [] n is = none_some is
stands_where x before (y ∷ tids) n is = by_tid y x
    (λ e. stands_of (y ∷ tids) x (inl e))
    (λ off. let here : is_tid y x ≡ false = tid_apart y x off in or_second (is_tid x y) (stands_in x tids) (stands_where x (Some y) tids n (rw here at is)))

module _ (lists : Lists) (x : Tid) (alone : (p q : Option Tid) → stands_in x (lists p) ≡ true → stands_in x (lists q) ≡ true → p ≡ q) where
  one_child_block : (a b : List ℕ) → IsChildBlock lists x a → IsChildBlock lists x b → a ≡ b
  one_child_block a b (outside off is) (outside off_too is_too) = is ∙ sym is_too
  one_child_block a b (outside off is) (within q m some is_too) = absurd (off (stands_under (in_chain lists (Some q) x (stands_where x None (lists (Some q)) m some))))
  one_child_block a b (within p n some is) (outside off is_too) = absurd (off (stands_under (in_chain lists (Some p) x (stands_where x None (lists (Some p)) n some))))
  one_child_block a b (within p n some is) (within q m some_too is_too) =
      let same : Some p ≡ Some q = alone (Some p) (Some q) (stands_where x None (lists (Some p)) n some) (stands_where x None (lists (Some q)) m some_too) in
      let above : p ≡ q = same_Some _ _ same in
      let beside : n ≡ m = same_Some _ _ (sym some ∙ ap (λ (o : Option Tid). neighbours_in (lists o) x) same ∙ some_too) in
      is ∙ (λ i. child_block (Some (record { parent = above i; neighbours = beside i }))) ∙ sym is_too

  pub one_lower_block : (unary : Bool) (a b : List ℕ) → IsLowerBlock unary lists x a → IsLowerBlock unary lists x b → a ≡ b
  one_lower_block true a b is is_too = is ∙ sym is_too
  one_lower_block false a b is is_too = one_child_block a b is is_too

-- ---- what the items hold

module _ (tables : Tables) (name : Name) (parent : Option Tid) (list : List Tid) where
  abbrev pub now : Tables
  now = with_chain tables name parent list

  pub elsewhere : (item : Item) → (item ≡ ChainItem name parent → ⊥) → content now.contents item ≡ content tables.contents item
  elsewhere item off = put_other tables.contents (ChainItem name parent) item (chain_content list) off

  pub tuple_stays : (relation : Name) (tid : Tid) → content now.contents (TupleItem relation tid) ≡ content tables.contents (TupleItem relation tid)
  tuple_stays relation tid = elsewhere (TupleItem relation tid) (λ e. cc (e))

  pub there_still : (relation : Name) (tid : Tid) → is_there now.contents relation tid ≡ is_there tables.contents relation tid
  there_still relation tid = ap is_some (tuple_stays relation tid)

  pub other_chain : (l : Name) (p : Option Tid) → (l ≡ name → ⊥) → content now.contents (ChainItem l p) ≡ content tables.contents (ChainItem l p)
  other_chain l p off = elsewhere (ChainItem l p) (λ e. off (chain_parts e).0)

  pub chain_now : (p : Option Tid) → chain now.contents name p ≡ with_list (chain tables.contents name) parent list p
  chain_now p = elim (place_cases p parent) [
    | inl same ↦ ap tuples_in (put_here tables.contents (ChainItem name parent) (ChainItem name p) (chain_content list) (ap (ChainItem name) same)) ∙ tuples_of list ∙ sym (list_here (chain tables.contents name) parent p list same)
    | inr off ↦ ap tuples_in (elsewhere (ChainItem name p) (λ e. off (chain_parts e).1)) ∙ sym (list_off (chain tables.contents name) parent p list off)
  ]

  -- ---- other links

  module _ (links : LinksFit tables) (l : Name) (off : l ≡ name → ⊥) (tid : Tid) where
    stood : (p : Option Tid) → stands_in tid (chain now.contents l p) ≡ true → stands_in tid (chain tables.contents l p) ≡ true
    stood p is = subst (λ (o : Option Content). stands tid o ≡ true) (other_chain l p off) is

    same_place : place_of now.contents tid (chain_with now.contents l tid) ≡ place_of tables.contents tid (chain_with tables.contents l tid)
    same_place =
        ap (place_of now.contents tid) (chain_same now.contents tables.contents l tid (λ p. ap (stands tid) (other_chain l p off)) (λ p q first second. links.alone l p q tid (stood p first) (stood q second)))
        ∙ by (chain_with tables.contents l tid) refl
      where
        below : (p : Option Tid) → place_of now.contents tid (Some (ChainItem l p)) ≡ place_of tables.contents tid (Some (ChainItem l p))
        below None = refl
        below (Some p) = ap (λ (o : Option Content). option_map (λ neighbours. record { parent = p; neighbours = neighbours }) (neighbours_in (tuples_in o) tid)) (other_chain l (Some p) off)

        by : (o : Option Item) → chain_with tables.contents l tid ≡ o → place_of now.contents tid o ≡ place_of tables.contents tid o
        by None is = refl
        by (Some item) is = let found = chain_found tables.contents l tid item is in subst (λ (i : Item). place_of now.contents tid (Some i) ≡ place_of tables.contents tid (Some i)) (sym found.1) (below found.0)

    pub same_block : (part : Part) → block_of now.contents l tid part ≡ block_of tables.contents l tid part
    same_block Outside = refl
    same_block Member = ap (λ (o : Option Content). member_block (neighbours_in (tuples_in o) tid)) (other_chain l None off)
    same_block Child = ap child_block same_place
    same_block Parent = ap (λ (o : Option Content). parent_block (ends_of (tuples_in o))) (other_chain l (Some tid) off)

  -- ---- the links fit

  module _ (links : LinksFit tables) (link : LinkDef) (defined : map.get tables.definitions.links name ≡ Some link)
      (unary : Bool) (kind : unary ≡ not (is_some link.parent)) (lists : AreLists unary (relinked (linkage_of tables.contents name link) parent list)) where
    here : (x : Tid) → stands_in x list ≡ true → stands_in x (with_list (chain tables.contents name) parent list parent) ≡ true
    here x is = subst (λ (l : List Tid). stands_in x l ≡ true) (sym (list_here (chain tables.contents name) parent parent list refl)) is

    from_parent : (above : Option Name) (p : Option Tid) → IsParent (not (is_some above)) (is_parent tables.contents above) p → HasParent now.contents above p
    from_parent None None is = tt
    from_parent None (Some p) is = is
    from_parent (Some relation) None is = is
    from_parent (Some relation) (Some p) is = there_still relation p ∙ is

    parent_still : (above : Option Name) (p : Option Tid) → HasParent tables.contents above p → HasParent now.contents above p
    parent_still None None is = is
    parent_still None (Some p) is = is
    parent_still (Some relation) None is = is
    parent_still (Some relation) (Some p) is = there_still relation p ∙ is

    under : (tids : List Tid) → list ≡ tids → 1 ≤ length tids → HasParent now.contents link.parent parent
    under [] is some = absurd (omega (arith, some))
    under (x ∷ tids) is some = from_parent link.parent parent
        (subst (λ (u : Bool). IsParent u (is_parent tables.contents link.parent) parent) kind
        (lists.parents parent x (here x (subst (λ (l : List Tid). stands_in x l ≡ true) (sym is) (stands_of (x ∷ tids) x (inl refl))))))

    is_of : (l : Name) (p : Option Tid) (held : Content) → content now.contents (ChainItem l p) ≡ Some held → IsChainOf now l p held
    is_of l p held is = by_item (ChainItem l p) (ChainItem name parent)
        (λ e.
        let parts = chain_parts e in
        let what = content_of list held (sym (put_here tables.contents (ChainItem name parent) (ChainItem l p) (chain_content list) e) ∙ is) in record {
          definition = link;
          tids = list;
          defined = ap (map.get tables.definitions.links) parts.0 ∙ defined;
          is = what.0;
          some = what.1;
          members = all_of (λ x. is_there now.contents link.child x ≡ true) list (λ x is_in. there_still link.child x ∙ lists.children parent x (here x (stands_of list x is_in)));
          once = subst StandOnce (list_here (chain tables.contents name) parent parent list refl) (lists.once parent);
          under = subst (HasParent now.contents link.parent) (sym parts.1) (under list refl what.1);
        })
        (λ e. let of = links.chains l p held (sym (elsewhere (ChainItem l p) e) ∙ is) in record {
          definition = of.definition;
          tids = of.tids;
          defined = of.defined;
          is = of.is;
          some = of.some;
          members = all_of (λ x. is_there now.contents of.definition.child x ≡ true) of.tids (λ x is_in. there_still of.definition.child x ∙ each_of (λ y. is_there tables.contents of.definition.child y ≡ true) of.tids of.members x is_in);
          once = of.once;
          under = parent_still of.definition.parent p of.under;
        })

    stands_now : (l : Name) (p : Option Tid) (x : Tid) → l ≡ name → stands_in x (chain now.contents l p) ≡ true → stands_in x (with_list (chain tables.contents name) parent list p) ≡ true
    stands_now l p x same is = subst (λ (tids : List Tid). stands_in x tids ≡ true) (ap (λ (n : Name). chain now.contents n p) same ∙ chain_now p) is

    alone_now : (l : Name) (one other : Option Tid) (x : Tid) → stands_in x (chain now.contents l one) ≡ true → stands_in x (chain now.contents l other) ≡ true → one ≡ other
    alone_now l one other x first second = elim (name_cases l name) [
      | inl same ↦ lists.alone one other x (stands_now l one x same first) (stands_now l other x same second)
      | inr off ↦ links.alone l one other x (stood links l off x one first) (stood links l off x other second)
    ]

    pub links_now : LinksFit now
    links_now = record { chains = is_of; alone = alone_now }
