use Rattle.std.proofs.Common.{refl}
use Rattle.rss_page.proofs.Blanks.{blank_survey}
use Rattle.rss_page.proofs.surveying.Survey.of_blank.Goals as goal

pub returns : goal.returns
returns c = λ page is. blank_survey page _ refl refl refl refl is
