-- Tables fit after a change of a chain exactly if what comes into it may.
use Rattle.std.proofs.Common.{◌≡◌, inl, inr, ℕ, Bool, true, false, List, refl, sym, ◌∙◌, ap, subst}
use Rattle.std.specs.Prelude.{Option, Some, None, is_some, ◌||◌}
use Rattle.std.specs.FinMap as finite
use Rattle.std.proofs.lemmas.Bool.{and_parts}
use Rattle.rss_base.specs.declared.name.Name.{Name}
use Rattle.rss_base.specs.declared.tid.Tid.{Tid}
use Rattle.rss_base.specs.declared.item.Item.{Item}
use Rattle.rss_base.specs.declared.item.Item.TheVariants.{Tuple, Chain}
use Rattle.rss_model.specs.Items.{Content}
use Rattle.rss_model.specs.Tables.{LinkDef, Tables, content, put}
use Rattle.rss_model.specs.Chains.{tuples_in, chain_content, chain, chain_with, stands_in, with_behind, without, is_there, HasParent}
use Rattle.rss_model.specs.Fits.{Fits}
use Rattle.rss_model.specs.Restart.{FitWith}
use Rattle.rss_model.proofs.LogLists.{false_true}
use Rattle.rss_model.proofs.LogChanging.{by_item, put_here, put_other}
use Rattle.rss_model.proofs.Refitting.{fits_chain}
use Rattle.rss_model.proofs.Standing.{by_tid, tid_apart, tid_itself, or_first, stands_of, stands_behind, in_behind, once_behind, some_behind, in_without, stands_without, once_without, tuples_of}
use Rattle.rss_model.proofs.ChangeKeeping.{in_no_chain}
use Rattle.rss_model.proofs.ChainKeeping.{chain_once, in_chain, chain_found}
use Rattle.rss_draft.specs.Fitting.{MayCome, ChainFits}
use Rattle.rss_draft.proofs.Among.{in_of, some_content, some_held}

-- ---- what comes may: so the tables fit

module _ {slots : ℕ} {tables : Tables} (fit : Fits slots tables) (link : Name) (parent : Option Tid) (child : Tid) (old new : Option Content) (held : content tables.contents (Chain link parent) ≡ old) (of : ChainFits tables link parent old new) where
  abbrev tids : List Tid
  tids = chain tables.contents link parent

  its : tids ≡ tuples_in old
  its = ap tuples_in held

  there : (x : Tid) → stands_in x tids ≡ true → is_there tables.contents of.definition.child x ≡ true
  there x on = (in_chain fit link parent x of.definition of.defined on).0 x (in_of tids x on)

  pub connect_fits : (left : Option Tid) → stands_in child (tuples_in old) ≡ false → new ≡ chain_content (with_behind left child (tuples_in old)) → FitWith slots tables (put tables.contents (Chain link parent) new)
  connect_fits left off is =
      let apart : stands_in child tids ≡ false = ap (stands_in child) its ∙ off in
      let now : new ≡ chain_content (with_behind left child tids) = is ∙ ap (λ (l : List Tid). chain_content (with_behind left child l)) (sym its) in
      let on : stands_in child (tuples_in new) ≡ true =
      ap (λ (o : Option Content). stands_in child (tuples_in o)) now ∙ ap (stands_in child) (tuples_of (with_behind left child tids))
      ∙ stands_behind left child tids child ∙ or_first _ (stands_in child tids) (tid_itself child) in
      let may = of.comes child on off in
      subst (λ (o : Option Content). FitWith slots tables (put tables.contents (Chain link parent) o)) (sym now)
      (fits_chain fit link parent of.definition (with_behind left child tids) of.defined
      (λ x among. elim (in_behind left child tids x among) [
        | inl e ↦ subst (λ (y : Tid). is_there tables.contents of.definition.child y ≡ true) e may.there
        | inr i ↦ there x (stands_of tids x i)
      ])
      (once_behind left child tids apart (chain_once fit link parent))
      (λ some. of.under)
      (λ x other among in_other. by_tid x child
      (λ e. false_true (subst (λ (y : Tid). stands_in y (chain tables.contents link other) ≡ true) e in_other) (in_no_chain tables.contents link child may.off other))
      (λ e. fit.links.alone link other parent x in_other (ap (λ (b : Bool). b || stands_in x tids) (sym (tid_apart x child e)) ∙ sym (stands_behind left child tids x) ∙ among))))

  pub disconnect_fits : new ≡ chain_content (without child (tuples_in old)) → FitWith slots tables (put tables.contents (Chain link parent) new)
  disconnect_fits is =
      let now : new ≡ chain_content (without child tids) = is ∙ ap (λ (l : List Tid). chain_content (without child l)) (sym its) in
      subst (λ (o : Option Content). FitWith slots tables (put tables.contents (Chain link parent) o)) (sym now)
      (fits_chain fit link parent of.definition (without child tids) of.defined
      (λ x among. there x (stands_of tids x (in_without child tids x among).0))
      (once_without child tids (chain_once fit link parent))
      (λ some. of.under)
      (λ x other among in_other. fit.links.alone link other parent x in_other (and_parts _ _ (sym (stands_without child tids x) ∙ among)).0))

-- ---- what fits afterwards could come

module _ (slots : ℕ) (tables : Tables) (link : Name) (parent : Option Tid) (old new : Option Content) (held : content tables.contents (Chain link parent) ≡ old) (fit : FitWith slots tables (put tables.contents (Chain link parent) new)) where
  abbrev later : Tables
  later = record tables { contents = put tables.contents (Chain link parent) new }

  here : content later.contents (Chain link parent) ≡ new
  here = put_here tables.contents (Chain link parent) (Chain link parent) new refl

  tuples_stay : (other : Name) (t : Tid) → content later.contents (Tuple other t) ≡ content tables.contents (Tuple other t)
  tuples_stay other t = put_other tables.contents (Chain link parent) (Tuple other t) new (λ e. cc (e))

  there_before : (other : Name) (t : Tid) → is_there later.contents other t ≡ true → is_there tables.contents other t ≡ true
  there_before other t is = ap is_some (sym (tuples_stay other t)) ∙ is

  under_before : (above : Option Name) (p : Option Tid) → HasParent later.contents above p → HasParent tables.contents above p
  under_before None None has = has
  under_before None (Some p) has = has
  under_before (Some above) None has = has
  under_before (Some above) (Some p) has = there_before above p has

  module _ (x : Tid) (on : stands_in x (tuples_in new) ≡ true) (off : stands_in x (tuples_in old) ≡ false) where
    now : stands_in x (chain later.contents link parent) ≡ true
    now = ap (λ (o : Option Content). stands_in x (tuples_in o)) here ∙ on

    -- it stood in no chain
    nowhere : (o : Option Item) → chain_with tables.contents link x ≡ o → o ≡ None
    nowhere None found = refl
    nowhere (Some item) found =
        let at = chain_found tables.contents link x item found in
        absurd (by_item (Chain link at.0) (Chain link parent)
        (λ e. false_true at.2 (ap (λ (i : Item). stands_in x (tuples_in (content tables.contents i))) e ∙ ap (λ (o : Option Content). stands_in x (tuples_in o)) held ∙ off))
        (λ e. e (ap (λ (p : Option Tid). Chain link p) (fit.links.alone link at.0 parent x
        (ap (λ (o : Option Content). stands_in x (tuples_in o)) (put_other tables.contents (Chain link parent) (Chain link at.0) new e) ∙ at.2) now))))

    may_come : (definition : LinkDef) → finite.get tables.definitions.links link ≡ Some definition → MayCome tables link definition x
    may_come definition defined = record {
      there = there_before definition.child x ((in_chain fit link parent x definition defined now).0 x (in_of (chain later.contents link parent) x now));
      off = nowhere _ refl;
    }

  chain_fitted : (definition : LinkDef) → finite.get tables.definitions.links link ≡ Some definition → HasParent tables.contents definition.parent parent → ChainFits tables link parent old new
  chain_fitted definition defined under = record {
    definition = definition;
    defined = defined;
    under = under;
    comes = λ x on off. may_come x on off definition defined;
  }

  pub connect_fitted : (left : Option Tid) (child : Tid) → new ≡ chain_content (with_behind left child (tuples_in old)) → ChainFits tables link parent old new
  connect_fitted left child is =
      let its = fit.links.chains link parent _ (here ∙ is ∙ some_content (with_behind left child (tuples_in old)) (some_behind left child (tuples_in old))) in
      chain_fitted its.definition its.defined (under_before its.definition.parent parent its.under)

  pub disconnect_fitted : Fits slots tables → (child : Tid) → stands_in child (tuples_in old) ≡ true → ChainFits tables link parent old new
  disconnect_fitted before child on =
      let what = some_held old child on in
      let its = before.links.chains link parent what.0 (held ∙ what.1) in
      chain_fitted its.definition its.defined its.under
