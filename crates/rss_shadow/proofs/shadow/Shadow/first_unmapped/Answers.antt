use Rattle.rss_shadow.proofs.Found.{first_unmapped_told, none_unmapped_told}
use Rattle.rss_shadow.proofs.shadow.Shadow.first_unmapped.Goals as goal

pub returns : goal.returns
returns c = rw (← c.self.view_is) (record {
  some = first_unmapped_told c.self.invariant c.requires.low c.requires.high c.requires.space c.args.from _ c.first_unmapped.ensures.some;
  none = none_unmapped_told c.self.invariant c.requires.low c.requires.high c.requires.space c.args.from _ c.first_unmapped.ensures.none;
})
