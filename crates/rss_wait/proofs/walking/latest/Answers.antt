use Rattle.std.proofs.Common.{◌∙◌, rules, tests}
use Rattle.std.proofs.lemmas.Iterator.Search.{find_from_yields_List}
use Rattle.std.proofs.lemmas.Iterator.Adapters.{YieldsList-from_rev_slice}
use Rattle.rss_wait.specs.Waits.{is_in}
use Rattle.rss_wait.proofs.walking.latest.Goals as goal

pub returns : goal.returns
returns c = c.copied.ensures ∙ find_from_yields_List (λ t. is_in c.args.members.now t) _ _ _ c.find.ensures.ran (YieldsList-from_rev_slice c.args.opened.now cc) (λ x b q k. search (rules, tests))
