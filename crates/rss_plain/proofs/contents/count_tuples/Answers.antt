use Rattle.std.proofs.Common.{List, ◌∙◌, ap}
use Rattle.std.specs.Prelude.{count_by}
use Rattle.rss_base.specs.declared.item.Item.{Item}
use Rattle.rss_model.specs.Items.{Content, is_tuple_of, item_cmp}
use Rattle.rss_plain.specs.Maps.{mapped}
use Rattle.rss_plain.proofs.Free.{counted}
use Rattle.rss_plain.proofs.contents.count_tuples.Goals as goal

pub returns : goal.returns
returns c =
    c.count_in.ensures
    ∙ ap (λ (l : List (Item × Content)). count_by
    (λ (one : Item × Content). is_tuple_of c.args.relation.now one.0) l) c.entries.ensures
    ∙ counted (mapped item_cmp c.args.contents.now) c.args.relation.now
