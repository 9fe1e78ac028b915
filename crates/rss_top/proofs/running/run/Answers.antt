use Rattle.std.proofs.Common.{map, refl, ◌∙◌, ap, subst, Some, string_bytes}
use Rattle.rss_words.specs.Words.{Reads}
use Rattle.rss_top.specs.Programs.IsProgram.{formats, generates, tries}
use Rattle.rss_top.proofs.Commands.{untouched, all_written, unread_ends}
use Rattle.rss_top.proofs.running.run.Goals as goal

pub returns-in-Ok-Some-Format-clause-program : goal.returns-in-Ok-Some-Format-clause-program
returns-in-Ok-Some-Format-clause-program g c =
    formats (subst (Reads (map string_bytes c.args.words.now)) (c.in-Ok-Some-Format.field-0-is ∙ ap Some c.in-Ok-Some-Format.field-0-0-is) c.in-Ok-Some-Format.ensures.read) c.make_store-status.ensures.format

pub returns-in-Ok-Some-Generate-clause-program : goal.returns-in-Ok-Some-Generate-clause-program
returns-in-Ok-Some-Generate-clause-program g c =
    generates (subst (Reads (map string_bytes c.args.words.now)) (c.in-Ok-Some-Generate.field-0-is ∙ ap Some c.in-Ok-Some-Generate.field-0-0-is) c.in-Ok-Some-Generate.ensures.read)
    (record { writes = c.write_script.ensures; device = untouched (g.D.Device.view c.args.device) (g.K.Sink.view c.args.sink.now) (g.K.Sink.view c.write_script.new.sink); unread = refl; complete = all_written c.write_script.result c.write_script.ensures })

pub returns-in-Ok-Some-Trial-clause-program : goal.returns-in-Ok-Some-Trial-clause-program
returns-in-Ok-Some-Trial-clause-program g c =
    tries (subst (Reads (map string_bytes c.args.words.now)) (c.in-Ok-Some-Trial.field-0-is ∙ ap Some c.in-Ok-Some-Trial.field-0-0-is) c.in-Ok-Some-Trial.ensures.read) c.run_trial.ensures refl

pub returns-in-Err-clause-program : goal.returns-in-Err-clause-program
returns-in-Err-clause-program g c =
    unread_ends (map string_bytes c.args.words.now) (g.D.Device.view c.args.device) (g.K.Sink.view c.args.sink.now) (g.O.Source.view c.args.source.now) c.unread.result c.in-Err.ensures.memory c.unread.ensures
