use Rattle.std.proofs.Common.{◌∙◌, ap, sym, subst, drop}
use Rattle.std.specs.List.{prefix_len}
use Rattle.rss_line.specs.Reads.{Skips, is_space}
use Rattle.rss_line.proofs.Cuts.{skips_counted}
use Rattle.rss_line.proofs.Lines.{over_empty, empty_over}
use Rattle.rss_line.proofs.reader.Reader.is_empty.Goals as goal

pub returns : goal.returns
returns c =
    let bytes = c.self.inside.rest.now in
    let skips = subst (Skips c.args.self.now) (sym (c.split_at.ensures.back ∙ ap (λ n. drop n bytes) c.count_spaces.ensures.count))
    (subst (λ l. Skips l (drop (prefix_len is_space bytes) bytes)) c.self.view_is (skips_counted bytes)) in
    (λ is. over_empty _ skips (c.is_over.ensures.0 is), λ empty. c.is_over.ensures.1 (empty_over _ skips empty))
