use Rattle.rss_image.proofs.Numbered.{numbered}
use Rattle.rss_image.proofs.laws.pages_are_numbered.Goals as goal

pub returns : goal.returns
returns g c = λ of told. numbered (g.P.Pages.view c.args.pages.now) (g.met.P.Pages.few_slots c.args.pages.now) (g.met.P.Pages.holds c.args.pages.now told) (g.met.P.Pages.allowed c.args.pages.now) of
