use Rattle.std.proofs.Common.{◌∙◌}
use Rattle.rss_top.proofs.HeardLines.{hears_nothing, line_stopped, line_told}
use Rattle.rss_top.proofs.line.tell_line.Goals as goal

pub returns-in_default : goal.returns-in_default
returns-in_default g c =
    let engine = g.E.Engine.view c.args.engine.now in
    let names = c.args.names.now.variables in
    line_stopped g.T.Teller.telling names names (g.T.Teller.memory c.args.teller.now) engine engine _ _ _ _
    (hears_nothing engine names names c.args.line.now)

pub returns-in-Ok-got : goal.returns-in-Ok-got
returns-in-Ok-got g c =
    let memory = g.T.Teller.memory c.args.teller.now in
    line_told g.T.Teller.telling c.args.names.now.variables c.hear-got.new.names.variables memory _ _ _ _ _ _ _
    (rw c.in-Ok-got.is at c.hear-got.ensures) (g.met.E.Engine.opens c.hear-got.new.engine)
    (c.as_slice.ensures.value ∙ (rw c.prepare.ensures.same at c.tell.ensures.told))
    (rw c.prepare.ensures.same at c.tell.ensures.after) c.write_text.result c.write_text.ensures

pub returns : goal.returns
returns g c =
    let memory = g.T.Teller.memory c.args.teller.now in
    line_stopped g.T.Teller.telling c.args.names.now.variables c.hear-got.new.names.variables memory _ _ _ _ _ _
    (rw c.in-Err.is at c.hear-got.ensures)
