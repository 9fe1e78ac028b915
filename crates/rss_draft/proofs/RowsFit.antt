-- When a tuple may come, come to have other values, or go.
use Rattle.std.proofs.Common.{◌≡◌, ℕ, ◌+◌, ◌<◌, ◌≤◌, true, false, List, sym, ap, subst, arith}
use Rattle.std.specs.Prelude.{Some, None, is_some}
use Rattle.std.proofs.lemmas.Option.{same_Some}
use Rattle.rss_base.specs.TupleTypes.{kinds, Spells}
use Rattle.rss_base.specs.Listings.{relation_at}
use Rattle.rss_base.specs.declared.tid.Tid.{Tid}
use Rattle.rss_base.specs.declared.value.Value.{Value}
use Rattle.rss_base.specs.declared.relation.RelationEntry.{RelationEntry}
use Rattle.rss_base.specs.declared.item.Item.TheVariants.{Tuple}
use Rattle.rss_model.specs.Items.{Values}
use Rattle.rss_model.specs.Tables.{Tables, content, put, tuple_count, is_tuple_of}
use Rattle.rss_model.specs.Chains.{connected, is_there}
use Rattle.rss_model.specs.Fits.{Fits, IsIdentifier, tuple_limit}
use Rattle.rss_model.proofs.Codes.{name_total, name_apart}
use Rattle.rss_model.proofs.Contents.{tied}
use Rattle.rss_model.proofs.Counts.{one_if, counts_put}
use Rattle.rss_model.proofs.LogLists.{none_some}
use Rattle.rss_stored.proofs.Spelled.{same_values}
use Rattle.rss_access.specs.Changes.{AccessView}
use Rattle.rss_draft.specs.Views.{DraftView}
use Rattle.rss_draft.specs.Fitting.{IsLone, AreKeysFree, TupleFits}
use Rattle.rss_draft.specs.Looks.{StandsOver}
use Rattle.rss_draft.proofs.TuplesNow.{fields_now}

-- ---- numbers

one_more : (after there before most : ℕ) → after + there ≡ before + 1 → there ≡ 0 → before < most → after ≤ most
one_more after there before most is none few = omega (arith, is, none, few)

less_before : (after there before most : ℕ) → after + there ≡ before + 1 → there ≡ 0 → after ≤ most → before < most
less_before after there before most is none few = omega (arith, is, none, few)

as_many : (after there before most : ℕ) → after + there ≡ before + 1 → there ≡ 1 → before ≤ most → after ≤ most
as_many after there before most is one few = omega (arith, is, one, few)

no_more : (after there before most : ℕ) → after + there ≡ before + 0 → before ≤ most → after ≤ most
no_more after there before most is few = omega (arith, is, few)

-- ---- a tuple

module _ {at : AccessView} {draft : DraftView} {saved tables : Tables} (over : StandsOver at draft saved tables) (fit : Fits at.pages.slots tables) (number : ℕ) (relation : RelationEntry) (at_number : relation_at at.catalog.listing number ≡ Some relation) (tid : Tid) where
  its : is_tuple_of relation.name (Tuple relation.name tid) ≡ true
  its = tied name_total name_apart relation.name

  abbrev there : ℕ
  there = one_if (is_some (content tables.contents (Tuple relation.name tid)))

  abbrev before : ℕ
  before = tuple_count tables.contents relation.name

  module _ {bytes : List ℕ} (values : List Value) (spells : Spells (kinds relation.fields) bytes values) where
    abbrev after : ℕ
    after = tuple_count (put tables.contents (Tuple relation.name tid) (Some (Values values))) relation.name

    counts : after + there ≡ before + 1
    counts = counts_put tables.contents (Tuple relation.name tid) (Some (Values values)) relation.name its

    row_fits : IsIdentifier at.pages.slots tid → IsLone tables relation.name tid → after ≤ tuple_limit → AreKeysFree tables relation.name tid values → TupleFits at.pages.slots tables relation.name tid (Some (Values values))
    row_fits within lone few free = record {
      tuple = λ held is. record { fields = kinds relation.fields; values = values; defined = fields_now over number relation at_number tid; tuple = sym (same_Some _ _ is); fit = spells.fit };
      within = λ some. within;
      lone = λ some. lone;
      few = few;
      keys = λ vs is. subst (AreKeysFree tables relation.name tid) (same_values values vs (same_Some _ _ is)) free;
      unlinked = λ none. none_some (sym none);
    }

    pub new_fits : is_there tables.contents relation.name tid ≡ false → IsIdentifier at.pages.slots tid → before < tuple_limit → IsLone tables relation.name tid → AreKeysFree tables relation.name tid values → TupleFits at.pages.slots tables relation.name tid (Some (Values values))
    new_fits absent within few lone free = row_fits within lone (one_more after there before tuple_limit counts (ap one_if absent) few) free

    pub new_few : is_there tables.contents relation.name tid ≡ false → TupleFits at.pages.slots tables relation.name tid (Some (Values values)) → before < tuple_limit
    new_few absent of = less_before after there before tuple_limit counts (ap one_if absent) of.few

    pub other_fits : is_there tables.contents relation.name tid ≡ true → AreKeysFree tables relation.name tid values → TupleFits at.pages.slots tables relation.name tid (Some (Values values))
    other_fits live free = row_fits (fit.tids relation.name tid live) (λ other segment one. fit.alone other relation.name tid one live segment)
        (as_many after there before tuple_limit counts (ap one_if live) (fit.few relation.name)) free

  pub gone_fits : connected tables relation.name tid ≡ None → TupleFits at.pages.slots tables relation.name tid None
  gone_fits none = record {
    tuple = λ held is. none_some is;
    within = λ some. absurd (cc (some));
    lone = λ some. absurd (cc (some));
    few = no_more (tuple_count (put tables.contents (Tuple relation.name tid) None) relation.name) there before tuple_limit (counts_put tables.contents (Tuple relation.name tid) None relation.name its) (fit.few relation.name);
    keys = λ vs is. none_some is;
    unlinked = λ gone. none;
  }
