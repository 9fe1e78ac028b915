use Rattle.std.proofs.Common.{List, ◌∙◌, ap}
use Rattle.std.specs.Prelude.{find, option_map}
use Rattle.rss_base.specs.declared.item.Item.{Item}
use Rattle.rss_model.specs.Items.{Content, parent_of}
use Rattle.rss_model.specs.Machine.{now}
use Rattle.rss_plain.specs.Tests.{is_chain_with}
use Rattle.rss_plain.specs.View.{machine}
use Rattle.rss_plain.proofs.Chains.{found_parent}
use Rattle.rss_plain.proofs.plain.Plain.parent_in.Goals as goal

pub returns : goal.returns
returns c =
    found_parent (now (machine c.args.self.now)).contents c.args.link.now c.args.child c.parent_among.result
    (c.parent_among.ensures
    ∙ ap (λ (l : List (Item × Content)). option_map (λ (one : Item × Content). parent_of one.0)
    (find (is_chain_with c.args.link.now c.args.child) l)) c.entries.ensures)
