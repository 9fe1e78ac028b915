use Rattle.std.proofs.Common.{List, ◌∙◌, ap}
use Rattle.std.specs.Prelude.{find, option_map}
use Rattle.rss_base.specs.declared.name.Name.{Name}
use Rattle.rss_model.specs.Tables.{LinkDef}
use Rattle.rss_model.specs.Chains.{is_connected}
use Rattle.rss_model.specs.Machine.{now}
use Rattle.rss_plain.specs.View.{machine}
use Rattle.rss_plain.proofs.plain.Plain.connected.Goals as goal

pub returns : goal.returns
returns c =
    c.connected_among.ensures
    ∙ ap (λ (l : List (Name × LinkDef)). option_map (λ (link : Name × LinkDef). link.0)
    (find (is_connected (now (machine c.args.self.now)).contents c.args.relation.now c.args.tid) l))
    c.entries.ensures
