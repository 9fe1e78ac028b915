-- Tables that fit still do after a change exactly if it fits.
use Rattle.std.proofs.Common.{◌≡◌, ℕ, List, sym, ◌∙◌, ap, subst}
use Rattle.std.specs.Prelude.{◌↔◌, Option, Some, None, is_some, option_map}
use Rattle.rss_base.specs.declared.name.Name.{Name}
use Rattle.rss_base.specs.declared.tid.Tid.{Tid}
use Rattle.rss_base.specs.declared.value.Value.{Value}
use Rattle.rss_base.specs.declared.item.Item.{Item}
use Rattle.rss_base.specs.declared.item.Item.TheVariants.{Tuple, Chain}
use Rattle.rss_model.specs.Items.{Content, Values}
use Rattle.rss_model.specs.Tables.{Tables, content, put}
use Rattle.rss_model.specs.Changes.{Change, IsTupleChange, IsConnect, IsDisconnect}
use Rattle.rss_model.specs.Changes.IsTupleChange.{insert, delete, update}
use Rattle.rss_model.specs.Changes.IsChange.{of_tuple, connect, disconnect}
use Rattle.rss_model.specs.Fits.{Fits, IsLive}
use Rattle.rss_model.specs.Restart.{FitWith}
use Rattle.rss_model.proofs.LogLists.{none_some}
use Rattle.rss_draft.specs.Fitting.{TupleFits, ChainFits, ItemFits, FittingIsTested}
use Rattle.rss_draft.proofs.TupleFitting.{tuple_fits, tuple_fitted}
use Rattle.rss_draft.proofs.ChainFitting.{connect_fits, disconnect_fits, connect_fitted, disconnect_fitted}

module _ {slots : ℕ} {tables : Tables} (fit : Fits slots tables) where
  of_next : (relation : Name) (tid : Tid) (old new : Option Content) (next : Option (List Value)) → new ≡ option_map Values next → (next ≡ None → IsLive tables relation tid)
      → TupleFits slots tables relation tid new ↔ FitWith slots tables (put tables.contents (Tuple relation tid) new)
  of_next relation tid old new next is lives =
      subst (λ (o : Option Content). TupleFits slots tables relation tid o ↔ FitWith slots tables (put tables.contents (Tuple relation tid) o)) (sym is)
      (λ of. tuple_fits fit relation tid next lives of, λ after. tuple_fitted slots tables relation tid next after)

  tuple_tested : (change : Change) (relation : Name) (tid : Tid) → content tables.contents (Tuple relation tid) ≡ change.old → IsTupleChange change
      → TupleFits slots tables relation tid change.new ↔ FitWith slots tables (put tables.contents (Tuple relation tid) change.new)
  tuple_tested change relation tid held (insert {values = values} old new) = of_next relation tid change.old change.new (Some values) new (λ none. none_some (sym none))
  tuple_tested change relation tid held (delete {values = values} old new) = of_next relation tid change.old change.new None new (λ none. ap is_some (held ∙ old))
  tuple_tested change relation tid held (update {values = values} {next = next} old new) = of_next relation tid change.old change.new (Some next) new (λ none. none_some (sym none))

  connect_tested : (change : Change) (link : Name) (parent : Option Tid) → content tables.contents (Chain link parent) ≡ change.old → IsConnect change
      → ChainFits tables link parent change.old change.new ↔ FitWith slots tables (put tables.contents (Chain link parent) change.new)
  connect_tested change link parent held how = (
    λ of. connect_fits fit link parent how.child change.old change.new held of how.left how.off how.new,
    λ after. connect_fitted slots tables link parent change.old change.new held after how.left how.child how.new,
  )

  disconnect_tested : (change : Change) (link : Name) (parent : Option Tid) → content tables.contents (Chain link parent) ≡ change.old → IsDisconnect change
      → ChainFits tables link parent change.old change.new ↔ FitWith slots tables (put tables.contents (Chain link parent) change.new)
  disconnect_tested change link parent held how = (
    λ of. disconnect_fits fit link parent how.child change.old change.new held of how.new,
    λ after. disconnect_fitted slots tables link parent change.old change.new held after fit how.child how.on,
  )

pub fitting_is_tested : FittingIsTested
fitting_is_tested slots tables change fit (of_tuple {relation = relation} {tid = tid} at how) held =
    subst (λ (i : Item). ItemFits slots tables i change.old change.new ↔ FitWith slots tables (put tables.contents i change.new)) (sym at)
    (tuple_tested fit change relation tid (ap (content tables.contents) (sym at) ∙ held) how)
fitting_is_tested slots tables change fit (connect {link = link} {parent = parent} at how) held =
    subst (λ (i : Item). ItemFits slots tables i change.old change.new ↔ FitWith slots tables (put tables.contents i change.new)) (sym at)
    (connect_tested fit change link parent (ap (content tables.contents) (sym at) ∙ held) how)
fitting_is_tested slots tables change fit (disconnect {link = link} {parent = parent} at how) held =
    subst (λ (i : Item). ItemFits slots tables i change.old change.new ↔ FitWith slots tables (put tables.contents i change.new)) (sym at)
    (disconnect_tested fit change link parent (ap (content tables.contents) (sym at) ∙ held) how)
