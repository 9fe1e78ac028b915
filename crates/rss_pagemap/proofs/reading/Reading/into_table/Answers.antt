use Rattle.std.proofs.Common.{ℕ, sym, subst, arith}
use Rattle.rss_base.specs.PageMap.{IsKey}
use Rattle.rss_pagemap.proofs.reading.Reading.into_table.Goals as goal

pub of-requires : goal.of-requires
of-requires c = record {
  least = omega arith;
  most = omega arith;
  allowed = λ s key is. subst (λ (n : ℕ). IsKey n key) (sym c.requires.all) (c.requires.reading.allowed s key is);
  distinct = c.requires.reading.distinct;
}
