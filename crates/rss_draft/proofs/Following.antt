-- What a draft stands for, as one thing more is said.
use Rattle.std.proofs.Common.{◌≡◌, Bool, true, false, List, refl, sym, ◌∙◌, ap, subst}
use Rattle.std.specs.Prelude.{ℕ, ◌&&◌, if◌then◌else◌, Option, Some, None, option_map, unwrap_or}
use Rattle.std.specs.FinMap as finite
use Rattle.std.proofs.lemmas.Bool.{and_parts}
use Rattle.std.proofs.lemmas.Option.{same_Some}
use Rattle.rss_base.specs.declared.name.Name.{Name}
use Rattle.rss_base.specs.declared.tid.Tid.{Tid}
use Rattle.rss_base.specs.declared.item.Item.{Item}
use Rattle.rss_base.specs.declared.value.Value.{Value}
use Rattle.rss_base.specs.declared.value.FieldForm.{FieldForm}
use Rattle.rss_base.specs.declared.item.Item.TheVariants.{Segment, Relation, Tuple, Chain, Key}
use Rattle.rss_base.specs.TupleTypes.{kinds, Spells}
use Rattle.rss_base.proofs.Equal.{name_decides, tid_decides, item_decides}
use Rattle.rss_value.proofs.Spelling.{spells_once}
use Rattle.rss_model.specs.Items.{Content, Values}
use Rattle.rss_model.specs.Tables.{RelationDef, Definitions, content, put, fields_of}
use Rattle.rss_model.specs.Chains.{chain_content}
use Rattle.rss_model.specs.Fits.{HasContent}
use Rattle.rss_model.proofs.LogLists.{by_test, false_true}
use Rattle.rss_model.proofs.LogChanging.{same_contents, put_here, put_other}
use Rattle.rss_model.proofs.Putting.{same_parts}
use Rattle.rss_draft.specs.Views.{same_name, same_tid, same_parent}
use Rattle.rss_draft.specs.Drafts.{ShowsTuple, SaysTuple, DraftsBegin, TuplesFollow, ChainsFollow, DraftsTellTables}

pub both : (a b : Bool) → a ≡ true → b ≡ true → (a && b) ≡ true
both a b first second = ap (λ (c : Bool). c && b) first ∙ second

pub drafts_begin : DraftsBegin
drafts_begin tables = record {
  definitions = refl;
  tuples = λ relation tid. refl;
  chains = λ link parent. refl;
  others = λ item none. refl;
}

pub tuples_follow : TuplesFollow
tuples_follow draft saved tables relation tid values held is shows = record {
  definitions = is.definitions;
  tuples = λ r t. by_test (same_name relation r && same_tid tid t)
      (λ e. let parts = and_parts (same_name relation r) (same_tid tid t) e in
      let name = (name_decides relation r).0 parts.0 in
      let at = (tid_decides tid t).0 parts.1 in
      goes r t (sym e) (subst (ShowsTuple (fields_of tables r) values) (sym (put_here tables.contents (Tuple relation tid) (Tuple r t) held (λ i. Tuple (sym name i) (sym at i))))
      (subst (λ (n : Name). ShowsTuple (fields_of tables n) values held) name shows)))
      (λ e. goes r t (sym e) (subst (SaysTuple (fields_of tables r) (draft.tuples r t) (content saved.contents (Tuple r t))) (sym (put_other tables.contents (Tuple relation tid) (Tuple r t) held (apart r t e))) (is.tuples r t)));
  chains = λ link parent. put_other tables.contents (Tuple relation tid) (Chain link parent) held (λ e. cc (e)) ∙ is.chains link parent;
  others = λ item none. put_other tables.contents (Tuple relation tid) item held (λ e. none (subst HasContent (sym e) (tt {0}))) ∙ is.others item none;
}
  where
    goes : (r : Name) (t : Tid) {a b : Bool} → a ≡ b
        → SaysTuple (fields_of tables r) (if a then Some values else draft.tuples r t) (content saved.contents (Tuple r t)) (content (put tables.contents (Tuple relation tid) held) (Tuple r t))
        → SaysTuple (fields_of tables r) (if b then Some values else draft.tuples r t) (content saved.contents (Tuple r t)) (content (put tables.contents (Tuple relation tid) held) (Tuple r t))
    goes r t same said = subst (λ (c : Bool). SaysTuple (fields_of tables r) (if c then Some values else draft.tuples r t) (content saved.contents (Tuple r t)) (content (put tables.contents (Tuple relation tid) held) (Tuple r t))) same said

    apart : (r : Name) (t : Tid) → (same_name relation r && same_tid tid t) ≡ false → Tuple r t ≡ Tuple relation tid → ⊥
    apart r t off e =
        let parts = same_parts r relation t tid e in
        false_true (both (same_name relation r) (same_tid tid t) ((name_decides relation r).1 (sym parts.0)) ((tid_decides tid t).1 (sym parts.1))) off

pub chains_follow : ChainsFollow
chains_follow draft saved tables link parent tids is = record {
  definitions = is.definitions;
  tuples = λ r t. subst (SaysTuple (fields_of tables r) (draft.tuples r t) (content saved.contents (Tuple r t))) (sym (put_other tables.contents (Chain link parent) (Tuple r t) (chain_content tids) (λ e. cc (e)))) (is.tuples r t);
  chains = λ l p. by_test (same_name link l && same_parent parent p)
      (λ e. put_here tables.contents (Chain link parent) (Chain l p) (chain_content tids) (sym ((item_decides (Chain link parent) (Chain l p)).0 e)) ∙ ap (λ (b : Bool). unwrap_or (option_map chain_content (if b then Some tids else draft.chains l p)) (content saved.contents (Chain l p))) (sym e))
      (λ e. put_other tables.contents (Chain link parent) (Chain l p) (chain_content tids) (λ same. false_true ((item_decides (Chain link parent) (Chain l p)).1 (sym same)) e) ∙ is.chains l p
      ∙ ap (λ (b : Bool). unwrap_or (option_map chain_content (if b then Some tids else draft.chains l p)) (content saved.contents (Chain l p))) (sym e));
  others = λ item none. put_other tables.contents (Chain link parent) item (chain_content tids) (λ e. none (subst HasContent (sym e) (tt {0}))) ∙ is.others item none;
}

-- ---- no other tables

same_tuple : (f g : Option (List FieldForm)) → f ≡ g → (said : Option (Option (List ℕ))) (was a b : Option Content) → SaysTuple f said was a → SaysTuple g said was b → a ≡ b
same_tuple f g e None was a b x y = x ∙ sym y
same_tuple f g e (Some None) was a b x y = x ∙ sym y
same_tuple f g e (Some (Some bytes)) was a b x y =
    let forms : x.forms ≡ y.forms = same_Some _ _ (sym x.defined ∙ e ∙ y.defined) in
    let values = spells_once y.forms bytes x.values y.values (subst (λ (fs : List FieldForm). Spells fs bytes x.values) forms x.spells) y.spells in
    x.is ∙ ap (λ (v : List Value). Some (Values v)) values ∙ sym y.is

pub drafts_tell_tables : DraftsTellTables
drafts_tell_tables draft saved one other first second = λ i. record {
  definitions = defined i;
  contents = same_contents one.contents other.contents held i;
}
  where
    defined : one.definitions ≡ other.definitions
    defined = first.definitions ∙ sym second.definitions

    fields : (relation : Name) → fields_of one relation ≡ fields_of other relation
    fields relation = ap (λ (d : Definitions). option_map (λ (r : RelationDef). kinds r.fields) (finite.get d.relations relation)) defined

    held : (item : Item) → content one.contents item ≡ content other.contents item
    held (Segment name) = first.others (Segment name) (λ none. none) ∙ sym (second.others (Segment name) (λ none. none))
    held (Relation name) = first.others (Relation name) (λ none. none) ∙ sym (second.others (Relation name) (λ none. none))
    held (Tuple relation tid) = same_tuple (fields_of one relation) (fields_of other relation) (fields relation) (draft.tuples relation tid) (content saved.contents (Tuple relation tid)) _ _ (first.tuples relation tid) (second.tuples relation tid)
    held (Chain link parent) = first.chains link parent ∙ sym (second.chains link parent)
    held (Key image values) = first.others (Key image values) (λ none. none) ∙ sym (second.others (Key image values) (λ none. none))
