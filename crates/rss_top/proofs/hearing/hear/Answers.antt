use Rattle.std.proofs.Common.{◌∙◌, ap, Ok, Err, List}
use Rattle.rss_model.specs.Variables.{Variable}
use Rattle.rss_model.specs.Plays.{bound}
use Rattle.rss_line.proofs.Defining.{spelled_defines_names, spelled_granule}
use Rattle.rss_top.proofs.HeardLines.{hears_nothing, hears_blank, hears_words, hears_answer, hears_status}
use Rattle.rss_top.proofs.hearing.hear.Goals as goal

pub returns-in-Ok-Blank : goal.returns-in-Ok-Blank
returns-in-Ok-Blank g c = hears_blank (g.E.Engine.view c.args.engine.now) c.requires.up c.args.names.now.variables (c.read_line.ensures.blank (c.in-Ok-Blank.is ∙ ap Ok c.in-Ok-Blank.field-0-is))

pub ask-requires-clause-names : goal.ask-requires-clause-names
ask-requires-clause-names g c = spelled_defines_names (c.read_line.ensures.call _ _ (c.in-Ok-Call.is ∙ ap Ok c.in-Ok-Call.field-0-is))

pub ask-requires-clause-granule : goal.ask-requires-clause-granule
ask-requires-clause-granule g c = spelled_granule (c.read_line.ensures.call _ _ (c.in-Ok-Call.is ∙ ap Ok c.in-Ok-Call.field-0-is))

pub returns-in_default : goal.returns-in_default
returns-in_default g c = hears_nothing _ _ _ _

pub returns-in_err-answer-in-Ok-Call : goal.returns-in_err-answer-in-Ok-Call
returns-in_err-answer-in-Ok-Call g c =
    let spells = c.read_line.ensures.call _ _ (c.in-Ok-Call.is ∙ ap Ok c.in-Ok-Call.field-0-is) in
    hears_status _ _ _ spells _ _ c.from_residual.ensures.1 c.in_err-answer-in-Ok-Call.ensures

pub returns-in_ok-answer-in-Ok-Call : goal.returns-in_ok-answer-in-Ok-Call
returns-in_ok-answer-in-Ok-Call g c =
    let spells = c.read_line.ensures.call _ _ (c.in-Ok-Call.is ∙ ap Ok c.in-Ok-Call.field-0-is) in
    let answer = c.in_ok-answer-in-Ok-Call.answer in
    let same = ap (λ (l : List Variable). bound l c.in-Ok-Call.bind answer) c.make_place.ensures.same in
    hears_answer _ _ _ spells (c.bind_answer.ensures ∙ same) c.in_ok-answer-in-Ok-Call.ensures

pub returns-in-Err-Words : goal.returns-in-Err-Words
returns-in-Err-Words g c = hears_words (g.E.Engine.view c.args.engine.now) c.requires.up c.args.names.now.variables (c.read_line.ensures.words (c.in-Err-Words.is ∙ ap Err c.in-Err-Words.field-0-is))

pub returns-in-Err-NoMemory : goal.returns-in-Err-NoMemory
returns-in-Err-NoMemory g c = hears_nothing _ _ _ _
