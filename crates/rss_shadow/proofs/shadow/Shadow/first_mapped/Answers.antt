use Rattle.rss_shadow.proofs.Found.{first_mapped_told, none_mapped_told}
use Rattle.rss_shadow.proofs.shadow.Shadow.first_mapped.Goals as goal

pub returns : goal.returns
returns c = rw (← c.self.view_is) (record {
  some = first_mapped_told c.self.invariant c.requires.low c.requires.high c.requires.space c.args.from _ c.first_mapped.ensures.some;
  none = none_mapped_told c.self.invariant c.requires.low c.requires.high c.requires.space c.args.from _ c.first_mapped.ensures.none;
})
