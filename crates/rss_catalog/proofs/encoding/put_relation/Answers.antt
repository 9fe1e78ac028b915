use Rattle.std.proofs.Common.{◌∙◌, ◌-◌, ℕ, ap, sym, ◌++◌, Option}
use Rattle.rss_base.specs.Listings.{relation_spelled}
use Rattle.rss_base.specs.declared.relation.RelationEntry.{RelationEntry}
use Rattle.rss_catalog.proofs.Spelled.{put_padded}
use Rattle.rss_catalog.proofs.encoding.put_relation.Goals as goal

pub returns-in-Some-clause-put : goal.returns-in-Some-clause-put
returns-in-Some-clause-put c =
    put_padded c.args.bytes.now _ _ _ (512 - c.definition_bytes-long.result) _ c.put_definition.ensures.put c.extend_from_slice.ensures c.put_definition.ensures.long (ap (λ (n : ℕ). 512 - n) c.definition_bytes-long.ensures)
    ∙ ap (λ (r : Option RelationEntry). c.args.bytes.now ++ relation_spelled r) (sym c.in-Some.is)

pub returns-in-None-clause-put : goal.returns-in-None-clause-put
returns-in-None-clause-put c = c.extend_from_slice-in-None.ensures ∙ ap (λ (r : Option RelationEntry). c.args.bytes.now ++ relation_spelled r) (sym c.in-None.is)
