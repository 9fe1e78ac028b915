use Rattle.std.proofs.Common.{refl}
use Rattle.rss_catalog.specs.Reading.{fields_of}
use Rattle.rss_value_rows.proofs.catalogs.two_added.Goals as goal

pub returns-clause-read : goal.returns-clause-read
unfolding fields_of
returns-clause-read c = refl
