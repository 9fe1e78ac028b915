use Rattle.rss_page.proofs.Ordered.{IsOrderedSurveyOf}
use Rattle.rss_page.proofs.surveying.Survey.of_ordered.Given as goal

abbrev pub invariant-loop-slot : goal.invariant-loop-slot
invariant-loop-slot l = IsOrderedSurveyOf l.page l.slot l.found
