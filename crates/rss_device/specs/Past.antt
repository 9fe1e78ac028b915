-- How the logic stores what is known of a device's past.
use Rattle.std.specs.Prelude.{List}
use base.Stored.{Coded}
use Rattle.std.specs.Coded.{coded_list, coded_ℕ}
use Rattle.rss_base.specs.DiskRule.{Pages}
use Rattle.rss_device.specs.contracts.step.Step.{the_row}

abbrev pub pages_coded : Coded Pages
pages_coded = coded_list (coded_list coded_ℕ)

abbrev pub steps_coded : Coded (List the_row.Denot)
steps_coded = coded_list the_row.coded
