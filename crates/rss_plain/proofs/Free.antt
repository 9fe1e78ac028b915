-- How many tuples a relation has, and which identifiers are free, over the entries of maps.
use Rattle.std.proofs.Common.{◌≡◌, ℕ, true, [], refl, sym, ◌∙◌, ap}
use Rattle.std.specs.Prelude.{Option, Some, None, option_map, unwrap_or, filter, count_by}
use Rattle.std.specs.List.{list_all}
use Rattle.std.specs.FinMap as finite
use Rattle.std.proofs.lemmas.List.Sums.{length-filter}
use Rattle.rss_base.specs.declared.name.Name.{Name}
use Rattle.rss_base.specs.declared.tid.Tid.{Tid}
use Rattle.rss_base.specs.declared.item.Item.{Item}
use Rattle.rss_model.specs.Items.{Content, is_tuple_of}
use Rattle.rss_model.specs.Tables.{RelationDef, Contents, tuple_count}
use Rattle.rss_model.specs.Meter.{is_in_segment, relations_in}
use Rattle.rss_model.specs.Machine.{State}
use Rattle.rss_model.specs.Refusals.{is_clear, is_free}
use Rattle.rss_model.proofs.ImageCounts.{tuples_counted}
use Rattle.std.proofs.lemmas.List.Folds.{list_all-map}
use Rattle.rss_plain.proofs.Lists.{filter_map}

pub counted : (contents : Contents) (relation : Name)
    → count_by (λ (held : Item × Content). is_tuple_of relation held.0) (finite.entries contents)
    ≡ tuple_count contents relation
counted contents relation =
    sym (tuples_counted contents relation ∙ length-filter (λ (held : Item × Content). is_tuple_of relation held.0)
    (finite.entries contents))

module _ (state : State) (t : ℕ) (relation : Name) (tid : Tid) where
  pub free_undefined : finite.get state.base.definitions.relations relation ≡ None → is_free state t relation tid ≡ true
  free_undefined none = rw none refl

  pub free_defined : (definition : RelationDef) → finite.get state.base.definitions.relations relation ≡ Some definition
      → is_free state t relation tid
      ≡ list_all (λ (e : Name × RelationDef). is_clear state t tid e.0)
      (filter (λ (e : Name × RelationDef). is_in_segment state.base definition.segment e.0)
      (finite.entries state.base.definitions.relations))
  free_defined definition some =
      ap (λ (o : Option RelationDef). list_all (is_clear state t tid)
      (unwrap_or (option_map (relations_in state.base) (option_map (λ r. r.segment) o)) [])) some
      ∙ ap (list_all (is_clear state t tid))
      (filter_map (λ (e : Name × RelationDef). e.0) (is_in_segment state.base definition.segment)
      (finite.entries state.base.definitions.relations))
      ∙ list_all-map (is_clear state t tid) (λ (e : Name × RelationDef). e.0)
      (filter (λ (e : Name × RelationDef). is_in_segment state.base definition.segment e.0)
      (finite.entries state.base.definitions.relations))
