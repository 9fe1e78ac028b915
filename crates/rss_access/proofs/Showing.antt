-- Tables that the pages spell, and the change of their tuple that a record tells: it can be made, and leaves tables of such a kind.
use Rattle.std.proofs.Common.{◌≡◌, inl, inr, ℕ, ◌^◌, ◌≤◌, List, refl, sym, ◌∙◌, ap, subst, arith, ◌<◌}
use Rattle.std.specs.Prelude.{Option, Some, None, option_map, All, IfSome}
use Rattle.std.proofs.lemmas.Option.{none-some, same_Some}
use Rattle.rss_base.specs.TupleTypes.{kinds, misfit, tuple_bytes, IsStorable}
use Rattle.rss_base.specs.Listings.{relation_at}
use Rattle.rss_base.specs.declared.name.Name.{Name}
use Rattle.rss_base.specs.declared.tid.Tid.{Tid}
use Rattle.rss_base.specs.declared.field.FieldDef.{FieldDef}
use Rattle.rss_base.specs.declared.item.Item.TheVariants.{Tuple as TupleItem}
use Rattle.rss_base.specs.declared.value.Value.{Value}
use Rattle.rss_base.specs.declared.relation.RelationEntry.{RelationEntry}
use Rattle.rss_base.specs.declared.change.Change as told
use Rattle.rss_base.specs.declared.change.Change.TheVariants.{Insert, Delete, Update, Connect, Disconnect}
use Rattle.rss_tuple.specs.Directory.{bodies_of}
use Rattle.rss_entries.specs.Images.{AreTuples, TupleMove, CanMove, after_move}
use Rattle.rss_model.specs.Items.{Values}
use Rattle.rss_model.specs.Tables.{content}
use Rattle.rss_model.specs.Fits.{IsTupleOf}
use Rattle.rss_model.specs.Chains.{LinksFit}
use Rattle.rss_model.proofs.Contents.{content_here, content_elsewhere}
use Rattle.rss_model.proofs.Putting.{same_parts}
use Rattle.rss_members.specs.Members.{SpellsMembers}
use Rattle.rss_access.specs.Told.{number_told, tid_told, values_before, values_after, body_before, IsPrefix, count_after, AreValuesOf, MayBecome, MayCount}
use Rattle.rss_access.specs.Changes.{AccessView, HasTables}
use Rattle.rss_access.specs.Tuples.{body_at}
use Rattle.rss_access.proofs.Numbered.{fields_listed}
use Rattle.rss_access.proofs.Prefixed.{members_by, spelled_with, bodies_told, links_told}
use Rattle.rss_access.proofs.Recounting.{same_or_other}
use Rattle.rss_access.proofs.Spelling.{none_listed, tuple_found, all_storable}

-- ---- the values that are told

-- values of a tuple with these fields
abbrev AreOf : List FieldDef → Option (List Value) → Type 0
AreOf fields values = IfSome values (λ list. (misfit (kinds fields) list ≡ None) × All IsStorable list)

-- What the tuple is before the change, and after it, by the bytes that the record tells.
pub record HasMove (fields : List FieldDef) (told_change : told.Change) : Type 0 where
  pub was : Option (List Value)
  pub next : Option (List Value)
  pub before : values_before told_change ≡ option_map (tuple_bytes (kinds fields)) was
  pub after : values_after told_change ≡ option_map (tuple_bytes (kinds fields)) next
  pub old : AreOf fields was
  pub new : AreOf fields next

pub has_move : (fields : List FieldDef) (told_change : told.Change) → AreValuesOf fields told_change → HasMove fields told_change
has_move fields (Insert number tid bytes) (values, spells) = record {
  was = None;
  next = Some values;
  before = refl;
  after = ap Some spells.same;
  old = tt;
  new = (spells.fit, spells.storable);
}
has_move fields (Delete number tid bytes) (values, spells) = record {
  was = Some values;
  next = None;
  before = ap Some spells.same;
  after = refl;
  old = (spells.fit, spells.storable);
  new = tt;
}
has_move fields (Update number tid from to) ((old, spells_old), (new, spells_new)) = record {
  was = Some old;
  next = Some new;
  before = ap Some spells_old.same;
  after = ap Some spells_new.same;
  old = (spells_old.fit, spells_old.storable);
  new = (spells_new.fit, spells_new.storable);
}
has_move fields (Connect link parent child left) values = record { was = None; next = None; before = refl; after = refl; old = tt; new = tt }
has_move fields (Disconnect link parent child left) values = record { was = None; next = None; before = refl; after = refl; old = tt; new = tt }

fit_of : (fields : List FieldDef) (values : Option (List Value)) → AreOf fields values → IfSome values (λ list. misfit (kinds fields) list ≡ None)
fit_of fields None are = tt
fit_of fields (Some values) are = are.0

storable_of : (fields : List FieldDef) (values : Option (List Value)) → AreOf fields values → IfSome values (All IsStorable)
storable_of fields None are = tt
storable_of fields (Some values) are = are.1

-- so many tuples are not too many
pub few_after : (told_change : told.Change) (live : ℕ) → MayCount told_change live → live ≤ 2 ^ 20 → count_after told_change live ≤ 2 ^ 20
few_after (Insert number tid values) live may few = omega (arith, may)
few_after (Delete number tid values) live may few = omega (arith, few)
few_after (Update number tid from to) live may few = few
few_after (Connect link parent child left) live may few = few
few_after (Disconnect link parent child left) live may few = few

-- ---- the tables

module _ {at : AccessView} (told_change : told.Change) (relation : RelationEntry) (listed : relation_at at.catalog.listing (number_told told_change) ≡ Some relation) {prefix : List ℕ} (fitting : IsPrefix at.catalog.listing told_change prefix) (found : body_at at.pages relation.segment (tid_told told_change) ≡ body_before prefix told_change) (may : MayBecome at.pages.slots at.catalog.listing relation.fields told_change) (small : at.pages.slots < 2 ^ 32) (has : HasTables at) where
  abbrev number : ℕ
  number = number_told told_change

  abbrev tid : Tid
  tid = tid_told told_change

  pub told_move : HasMove relation.fields told_change
  told_move = has_move relation.fields told_change may.values

  -- the tuple holds the old values in the tables
  holds : content has.tables.contents (TupleItem relation.name tid) ≡ option_map Values told_move.was
  holds = by told_move.was (found ∙ bodies_told (kinds relation.fields) number prefix (values_before told_change) told_move.was told_move.before) told_move.old
    where
      by : (was : Option (List Value)) → body_at at.pages relation.segment tid ≡ option_map (spelled_with (kinds relation.fields) number prefix) was → AreOf relation.fields was → content has.tables.contents (TupleItem relation.name tid) ≡ option_map Values was
      by None absent are = none_listed has.spells has.tuples number relation listed tid absent
      by (Some list) stands are = tuple_found at.pages has.spells has.tuples number relation listed tid (spelled_with (kinds relation.fields) number prefix list) stands list (record { bytes = tuple_bytes (kinds relation.fields) list; holds = record { prefix = prefix; long = fitting.long; is = refl }; spelled = record { fit = are.0; storable = are.1; same = refl } })

  abbrev pub move : TupleMove
  move = record { number = number; relation = relation; tid = tid; was = told_move.was; next = told_move.next }

  -- the change can be made in them
  pub can_move : CanMove at.catalog.listing move has.tables
  can_move = record {
    listed = listed;
    fits = has.spells.listed;
    defines = has.spells.defines;
    counts = has.spells.counts;
    tuples = has.tuples;
    storable = all_storable has.spells;
    tids = λ name t there. let id = has.tids name t there in record { page = omega (arith, id.page, small); slot = omega (arith, id.slot) };
    holds = holds;
    tid = record { page = omega (arith, may.named.page, small); slot = omega (arith, may.named.slot) };
    fit = fit_of relation.fields told_move.next told_move.new;
    next_storable = storable_of relation.fields told_move.next told_move.new;
    few = λ k entry there. omega (arith, has.few entry.name, has.spells.counts k entry there);
  }

  -- the tables, as far as tuples and chains go
  members_are : SpellsMembers at.catalog.listing (bodies_of at.pages.held) has.tables
  members_are = members_by small has.spells has.tuples has.links has.tids

  -- links fit still
  pub links_after : LinksFit (after_move move has.tables)
  links_after = links_told members_are told_change relation listed told_move.was holds told_move.before fitting found told_move.next told_move.after

  -- and leaves tuples of their relations
  pub tuples_after : AreTuples (after_move move has.tables)
  tuples_after name t held is = elim (same_or_other (TupleItem name t) (TupleItem relation.name tid)) [
    | inl same ↦
        let now : option_map Values told_move.next ≡ Some held = sym (content_here has.tables.contents (TupleItem relation.name tid) (option_map Values told_move.next)) ∙ ap (content (after_move move has.tables).contents) (sym same) ∙ is in
        subst (λ (n : Name). IsTupleOf (after_move move has.tables) n held) (sym (same_parts name relation.name t tid same).0) (by told_move.next now told_move.new)
    | inr other ↦
        let of = has.tuples name t held (sym (content_elsewhere has.tables.contents (TupleItem relation.name tid) (option_map Values told_move.next) (TupleItem name t) other) ∙ is) in
        record { fields = of.fields; values = of.values; defined = of.defined; tuple = of.tuple; fit = of.fit }
  ]
    where
      by : (next : Option (List Value)) → option_map Values next ≡ Some held → AreOf relation.fields next → IsTupleOf (after_move move has.tables) relation.name held
      by None now are = absurd (none-some held now)
      by (Some list) now are = record { fields = kinds relation.fields; values = list; defined = fields_listed has.tables has.spells.listed has.spells.defines number relation listed; tuple = sym (same_Some _ _ now); fit = are.0 }
