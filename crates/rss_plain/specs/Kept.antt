-- What the items hold, as it is kept.
use Rattle.std.specs.Prelude.{List}
use Rattle.rss_base.specs.declared.item.Item.{Item}
use Rattle.rss_model.specs.Items.{Content, item_cmp}
use Rattle.rss_model.specs.Tables.{Contents}
use Rattle.rss_model.specs.Changes.{Change, after}
use Rattle.rss_plain.specs.Maps.{mapped}

-- what they hold in the committed tables, and the changes of open transactions, the newest first
pub record Kept : Type 0 where
  pub base : List (Item × Content)
  pub changes : List Change

-- what they hold with the changes
abbrev pub changed : Kept → Contents
changed kept = after (mapped item_cmp kept.base) kept.changes
