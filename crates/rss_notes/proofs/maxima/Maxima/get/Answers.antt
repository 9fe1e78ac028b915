use Rattle.std.proofs.Common.{◌+◌, ◌∙◌, sym, arith}
use Rattle.std.proofs.lemmas.List.{get_or_read}
use Rattle.rss_notes.proofs.Trees.{numbers_long, number_at}
use Rattle.rss_notes.proofs.maxima.Maxima.get.Goals as goal

pub overflow_add-place : goal.overflow_add-place
overflow_add-place c = omega (arith, c.self.invariant.most, numbers_long _ _ c.self.invariant.least c.self.view_is)

pub index-requires : goal.index-requires
index-requires c = omega (arith, c.self.inside.tree.ok, numbers_long _ _ c.self.invariant.least c.self.view_is)

pub returns : goal.returns
returns c =
    let long = numbers_long _ _ c.self.invariant.least c.self.view_is in
    get_or_read c.self.inside.tree.items (4368 + c.args.place) c.index.result.now (omega arith) c.index.ensures 0 ∙ sym (number_at _ _ c.args.place c.self.view_is)
