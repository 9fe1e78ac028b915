-- What is looked up after a change of a chain.
use Rattle.std.proofs.Common.{◌≡◌, ℕ, Bool, true, false, List, refl, sym, ◌∙◌, ap, subst}
use Rattle.std.specs.Prelude.{◌&&◌, ◌||◌, not, if◌then◌else◌, Option, Some, None, option_map, unwrap_or}
use Rattle.std.specs.FinMap as finite
use Rattle.std.proofs.lemmas.Bool.{and_parts}
use Rattle.rss_base.specs.declared.name.Name.{Name}
use Rattle.rss_base.specs.declared.tid.Tid.{Tid}
use Rattle.rss_base.specs.declared.value.Value.{Value}
use Rattle.rss_base.specs.declared.item.Item.{Item}
use Rattle.rss_base.specs.declared.item.Item.TheVariants.{Tuple, Chain}
use Rattle.rss_base.specs.Prefixes.{is_tid}
use Rattle.rss_base.proofs.Equal.{name_decides, tid_decides}
use Rattle.rss_model.specs.Items.{Content}
use Rattle.rss_model.specs.Tables.{ImageDef, Contents, Tables, content, put}
use Rattle.rss_model.specs.Images.{key_in, KeysFit}
use Rattle.rss_model.specs.Chains.{tuples_in, chain_content, chain, chain_with, stands_in, with_behind, without}
use Rattle.rss_model.specs.Fits.{Fits}
use Rattle.rss_model.specs.Restart.{FitWith}
use Rattle.rss_model.proofs.LogLists.{by_test, false_true}
use Rattle.rss_model.proofs.LogChanging.{by_item, put_here, put_other}
use Rattle.rss_model.proofs.Counts.{counts_same}
use Rattle.rss_model.proofs.Refitting.{chain_parts}
use Rattle.rss_model.proofs.Standing.{tid_itself, tid_apart, or_first, stands_behind, stands_without, tuples_of}
use Rattle.rss_model.proofs.Viewing.{keyed, keyed_of}
use Rattle.rss_model.proofs.ChangeKeeping.{in_no_chain}
use Rattle.rss_model.proofs.ChainKeeping.{chain_found}
use Rattle.rss_model.proofs.SeenAlike.{chain_same, owner_same}
use Rattle.rss_draft.specs.declared.draft.Standing.{Standing}
use Rattle.rss_draft.specs.declared.draft.Standing.TheVariants.{Off, In}
use Rattle.rss_draft.specs.Views.{DraftView, same_name, same_tid, with_standing}
use Rattle.rss_draft.specs.Lookups.{chain_at, LooksUp, LookupsBegin, ConnectsFollow, DisconnectsFollow}
use Rattle.rss_draft.proofs.Following.{both}

-- ---- tables whose keys fit

-- a key has one owner
pub one_owner : (tables : Tables) → KeysFit tables → (name : Name) (image : ImageDef) → finite.get tables.definitions.images name ≡ Some image → image.is_unique ≡ true → (key : List Value) (one other : Tid)
    → keyed (key_in tables.definitions image) key (content tables.contents (Tuple image.relation one)) ≡ true → keyed (key_in tables.definitions image) key (content tables.contents (Tuple image.relation other)) ≡ true → one ≡ other
one_owner tables fit name image defined unique key one other first second =
    let a = keyed_of (key_in tables.definitions image) key (content tables.contents (Tuple image.relation one)) first in
    let b = keyed_of (key_in tables.definitions image) key (content tables.contents (Tuple image.relation other)) second in
    fit name image one other key defined unique (record { values = a.0; there = a.1; is = a.2 }) (record { values = b.0; there = b.1; is = b.2 })

-- the chain in which a tuple stands is the one that is found
stands_there : (contents : Contents) (link : Name) (child : Tid) (parent : Option Tid) → ((p : Option Tid) → stands_in child (chain contents link p) ≡ true → p ≡ parent) → stands_in child (chain contents link parent) ≡ true
    → (o : Option Item) → chain_with contents link child ≡ o → o ≡ Some (Chain link parent)
stands_there contents link child parent alone on None found = false_true on (in_no_chain contents link child found parent)
stands_there contents link child parent alone on (Some item) found =
    let at = chain_found contents link child item found in
    ap (λ (i : Item). Some i) (at.1 ∙ ap (λ (p : Option Tid). Chain link p) (alone at.0 at.2))

-- ---- a chain is put

module _ {slots : ℕ} {draft : DraftView} {saved tables : Tables} (looks : LooksUp draft saved tables) (link : Name) (parent : Option Tid) (child : Tid) (old new : Option Content) (held : content tables.contents (Chain link parent) ≡ old) (fit : Fits slots tables)
    (next : FitWith slots tables (put tables.contents (Chain link parent) new)) (moves : (x : Tid) → (x ≡ child → ⊥) → stands_in x (tuples_in new) ≡ stands_in x (tuples_in old)) where
  abbrev later : Tables
  later = record tables { contents = put tables.contents (Chain link parent) new }

  apart : (l : Name) (x : Tid) → (same_name link l && same_tid child x) ≡ false → link ≡ l → child ≡ x → ⊥
  apart l x off name at = false_true (both (same_name link l) (same_tid child x) ((name_decides link l).1 name) ((tid_decides child x).1 at)) off

  -- each other tuple stands where it did
  stay : (l : Name) (x : Tid) → (same_name link l && same_tid child x) ≡ false → chain_with later.contents l x ≡ chain_with tables.contents l x
  stay l x off = chain_same later.contents tables.contents l x
      (λ p. by_item (Chain l p) (Chain link parent)
      (λ e. ap (λ (o : Option Content). stands_in x (tuples_in o)) (put_here tables.contents (Chain link parent) (Chain l p) new e)
      ∙ moves x (λ at. apart l x off (sym (chain_parts e).0) (sym at))
      ∙ ap (λ (o : Option Content). stands_in x (tuples_in o)) (sym held ∙ ap (content tables.contents) (sym e)))
      (λ e. ap (λ (o : Option Content). stands_in x (tuples_in o)) (put_other tables.contents (Chain link parent) (Chain l p) new e)))
      (λ p q first second. next.links.alone l p q x first second)

  looks_after : (standing : Standing) → chain_with later.contents link child ≡ chain_at link standing → LooksUp (with_standing link child standing draft) saved later
  looks_after standing is = record {
    standings = λ l x. by_test (same_name link l && same_tid child x)
        (λ e. let parts = and_parts (same_name link l) (same_tid child x) e in
        let name = (name_decides link l).0 parts.0 in
        let at = (tid_decides child x).0 parts.1 in
        (λ i. chain_with later.contents (sym name i) (sym at i)) ∙ is ∙ ap (λ (n : Name). chain_at n standing) name
        ∙ ap (λ (b : Bool). unwrap_or (option_map (chain_at l) (if b then Some standing else draft.standings l x)) (chain_with saved.contents l x)) (sym e))
        (λ e. stay l x e ∙ looks.standings l x
        ∙ ap (λ (b : Bool). unwrap_or (option_map (chain_at l) (if b then Some standing else draft.standings l x)) (chain_with saved.contents l x)) (sym e));
    owners = λ name image key defined unique.
        owner_same tables.definitions later.contents tables.contents image None key
        (λ t. ap (keyed (key_in tables.definitions image) key) (put_other tables.contents (Chain link parent) (Tuple image.relation t) new (λ e. cc (e))))
        (one_owner later next.keys name image defined unique key)
        ∙ looks.owners name image key defined unique;
    counts = λ relation. counts_same tables.contents (Chain link parent) new relation refl ∙ looks.counts relation;
  }

  here : chain later.contents link parent ≡ tuples_in new
  here = ap tuples_in (put_here tables.contents (Chain link parent) (Chain link parent) new refl)

  pub comes_in : stands_in child (tuples_in new) ≡ true → LooksUp (with_standing link child (In parent) draft) saved (record tables { contents = put tables.contents (Chain link parent) new })
  comes_in on =
      let now : stands_in child (chain later.contents link parent) ≡ true = ap (stands_in child) here ∙ on in
      looks_after (In parent) (stands_there later.contents link child parent (λ p at. next.links.alone link p parent child at now) now _ refl)

  pub goes_out : stands_in child (tuples_in old) ≡ true → stands_in child (tuples_in new) ≡ false → LooksUp (with_standing link child Off draft) saved (record tables { contents = put tables.contents (Chain link parent) new })
  goes_out was off = looks_after Off (nowhere _ refl)
    where
      nowhere : (o : Option Item) → chain_with later.contents link child ≡ o → o ≡ None
      nowhere None found = refl
      nowhere (Some item) found =
          let at = chain_found later.contents link child item found in
          absurd (by_item (Chain link at.0) (Chain link parent)
          (λ e. false_true at.2 (ap (λ (i : Item). stands_in child (tuples_in (content later.contents i))) e ∙ ap (stands_in child) here ∙ off))
          (λ e. e (ap (λ (p : Option Tid). Chain link p) (fit.links.alone link at.0 parent child
          (ap (λ (o : Option Content). stands_in child (tuples_in o)) (sym (put_other tables.contents (Chain link parent) (Chain link at.0) new e)) ∙ at.2)
          (ap (λ (o : Option Content). stands_in child (tuples_in o)) held ∙ was)))))

-- ---- the laws

pub lookups_begin : LookupsBegin
lookups_begin tables = record {
  standings = λ link child. refl;
  owners = λ name image key defined unique. refl;
  counts = λ relation. refl;
}

-- what stands in a chain with one tuple more, or less
stands_more : (left : Option Tid) (child : Tid) (old new : Option Content) → new ≡ chain_content (with_behind left child (tuples_in old)) → (x : Tid) → stands_in x (tuples_in new) ≡ (is_tid x child || stands_in x (tuples_in old))
stands_more left child old new is x = ap (λ (o : Option Content). stands_in x (tuples_in o)) is ∙ ap (stands_in x) (tuples_of (with_behind left child (tuples_in old))) ∙ stands_behind left child (tuples_in old) x

stands_less : (child : Tid) (old new : Option Content) → new ≡ chain_content (without child (tuples_in old)) → (x : Tid) → stands_in x (tuples_in new) ≡ (stands_in x (tuples_in old) && not (is_tid x child))
stands_less child old new is x = ap (λ (o : Option Content). stands_in x (tuples_in o)) is ∙ ap (stands_in x) (tuples_of (without child (tuples_in old))) ∙ stands_without child (tuples_in old) x

and_true : (b : Bool) → (b && true) ≡ b
and_true true = refl
and_true false = refl

and_false : (b : Bool) → (b && false) ≡ false
and_false true = refl
and_false false = refl

pub connects_follow : ConnectsFollow
connects_follow slots draft saved tables change link parent looks can at how =
    subst (λ (i : Item). LooksUp (with_standing link how.child (In parent) draft) saved (record tables { contents = put tables.contents i change.new })) (sym at)
    (comes_in looks link parent how.child change.old change.new (ap (content tables.contents) (sym at) ∙ can.holds) can.fit
    (subst (λ (i : Item). FitWith slots tables (put tables.contents i change.new)) at can.next)
    (λ x e. stands_more how.left how.child change.old change.new how.new x ∙ ap (λ (b : Bool). b || stands_in x (tuples_in change.old)) (tid_apart x how.child e))
    (stands_more how.left how.child change.old change.new how.new how.child ∙ or_first _ (stands_in how.child (tuples_in change.old)) (tid_itself how.child)))

pub disconnects_follow : DisconnectsFollow
disconnects_follow slots draft saved tables change link parent looks can at how =
    subst (λ (i : Item). LooksUp (with_standing link how.child Off draft) saved (record tables { contents = put tables.contents i change.new })) (sym at)
    (goes_out looks link parent how.child change.old change.new (ap (content tables.contents) (sym at) ∙ can.holds) can.fit
    (subst (λ (i : Item). FitWith slots tables (put tables.contents i change.new)) at can.next)
    (λ x e. stands_less how.child change.old change.new how.new x ∙ ap (λ (b : Bool). stands_in x (tuples_in change.old) && not b) (tid_apart x how.child e) ∙ and_true (stands_in x (tuples_in change.old)))
    how.on
    (stands_less how.child change.old change.new how.new how.child ∙ ap (λ (b : Bool). stands_in how.child (tuples_in change.old) && not b) (tid_itself how.child) ∙ and_false (stands_in how.child (tuples_in change.old))))
