use Rattle.rss_page.proofs.Walks.{IsSurveyOf}
use Rattle.rss_page.proofs.surveying.Survey.of.Given as goal

abbrev pub invariant-loop-slot : goal.invariant-loop-slot
invariant-loop-slot l = IsSurveyOf l.page l.slot l.found
