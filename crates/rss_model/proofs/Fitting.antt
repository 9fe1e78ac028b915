-- Tables in which nothing is defined fit.
use Rattle.std.proofs.Common.{◌≡◌, ℕ, refl, sym, ◌∙◌, ap, arith}
use Rattle.std.specs.Prelude.{None, is_some}
use Rattle.std.specs.FinMap.{get-empty, len-empty}
use Rattle.std.proofs.lemmas.Bool.{true≢false}
use Rattle.std.proofs.lemmas.Option.{none-some}
use Rattle.rss_base.specs.declared.name.Name.{Name}
use Rattle.rss_base.specs.declared.tid.Tid.{Tid}
use Rattle.rss_base.specs.declared.item.Item.TheVariants.{Tuple, Chain}
use Rattle.rss_model.specs.Items.{item_cmp, name_cmp}
use Rattle.rss_model.specs.Tables.{RelationDef, content, no_tables}
use Rattle.rss_model.specs.Fits.{DefinitionsFit, IsLive, Fits}
use Rattle.rss_model.proofs.Plain.{plain_paths, plain_keys, plain_links}
use Rattle.rss_model.proofs.Counts.{counts_none}

pub no_definitions_fit : DefinitionsFit no_tables.definitions
no_definitions_fit = record {
  segment_names = λ name is. absurd (true≢false (sym is ∙ ap is_some (get-empty name_cmp name)));
  few_segments = omega (arith, len-empty name_cmp (Unit {0}));
  relation_names = λ name is. absurd (true≢false (sym is ∙ ap is_some (get-empty name_cmp name)));
  few_relations = omega (arith, len-empty name_cmp RelationDef);
  relations = λ name relation is. absurd (none-some relation (sym (get-empty name_cmp name) ∙ is));
  paths = plain_paths no_tables.definitions refl refl;
}

-- ---- no tuples

pub none_there : (relation : Name) (tid : Tid) → content no_tables.contents (Tuple relation tid) ≡ None
none_there relation tid = get-empty item_cmp (Tuple relation tid)

pub none_live : (relation : Name) (tid : Tid) → IsLive no_tables relation tid → ⊥
none_live relation tid lives = true≢false (sym lives ∙ ap is_some (none_there relation tid))

pub no_tables_fit : (slots : ℕ) → Fits slots no_tables
no_tables_fit slots = record {
  definitions = no_definitions_fit;
  tuples = λ relation tid held is. absurd (none-some held (sym (none_there relation tid) ∙ is));
  tids = λ relation tid lives. absurd (none_live relation tid lives);
  alone = λ one other tid first second segment. absurd (none_live one tid first);
  few = λ relation. omega (arith, counts_none relation);
  keys = plain_keys no_tables refl;
  links = plain_links no_tables (λ link parent. get-empty item_cmp (Chain link parent));
  only = λ item is. absurd (true≢false (sym is ∙ ap is_some (get-empty item_cmp item)));
}
