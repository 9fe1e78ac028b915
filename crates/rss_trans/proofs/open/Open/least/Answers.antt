use Rattle.std.proofs.Common.{sym, ◌∙◌, ap}
use Rattle.std.specs.Prelude.{option_map, slice_get}
use Rattle.std.specs.FinMap as finite
use Rattle.rss_trans.specs.Tables.{Table, table, told, shown}
use Rattle.rss_trans.proofs.Showing.{first-shown, none-shown}
use Rattle.rss_trans.proofs.Mapping.{keys_made}
use Rattle.rss_trans.proofs.Stepping.{in_order}
use Rattle.rss_trans.proofs.open.Open.least.Goals as goal

pub returns-in-Some : goal.returns-in-Some
returns-in-Some c =
    let old : Table = table c.self.inside.keys.entries c.self.inside.records.slots c.self.inside.since c.self.inside.since_of in
    sym (first-shown c.self.inside.keys.entries c.self.inside.records.slots ∙ ap (option_map (λ e. e.0)) c.in-Some.ensures.first)
    ∙ ap (λ ks. slice_get ks 0) (sym (keys_made (shown c.self.inside.keys.entries c.self.inside.records.slots) (in_order old c.self.invariant)))
    ∙ ap (λ (t : Table). slice_get (finite.keys (told t).transactions) 0) c.self.view_is

pub returns-in-None : goal.returns-in-None
returns-in-None c =
    let old : Table = table c.self.inside.keys.entries c.self.inside.records.slots c.self.inside.since c.self.inside.since_of in
    none-shown c.self.inside.keys.entries c.self.inside.records.slots (λ some. c.in-None.ensures.variant.1 some)
    ∙ ap (λ ks. slice_get ks 0) (sym (keys_made (shown c.self.inside.keys.entries c.self.inside.records.slots) (in_order old c.self.invariant)))
    ∙ ap (λ (t : Table). slice_get (finite.keys (told t).transactions) 0) c.self.view_is
