-- Items: what transactions lock.
use Rattle.std.specs.Prelude.{Bool}
use Rattle.rss_base.specs.declared.item.Item.{Item}
use Rattle.rss_base.specs.contracts.item.ItemPartialEq.TheImpl as item_eq

-- whether two items are the same, as `==` answers
abbrev pub same_item : Item → Item → Bool
same_item = (item_eq.ghosts).eq
