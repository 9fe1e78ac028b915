use Rattle.std.proofs.Common.{◌≡◌, ◌≢◌, true, sym, ◌∙◌, ap, arith}
use Rattle.std.proofs.lemmas.Bool.{true≢false}
use Rattle.rss_base.specs.Notes.{is_noted_space}
use Rattle.rss_base.specs.declared.key.Space.{Space}
use Rattle.rss_base.specs.declared.key.Space.TheVariants.{System}
use Rattle.rss_device.proofs.Numbered.{number_below}
use Rattle.rss_device.proofs.mem_pages.MemPagesPages.first_noted.Goals as goal

-- the system space is none that is noted
noted_apart : (space : Space) → is_noted_space space ≡ true → space ≢ System
noted_apart space noted is = true≢false (sym noted ∙ ap is_noted_space is)

pub returns-clause-none : goal.returns-clause-none
returns-clause-none c = λ k later may.
    let below = number_below c.args.segment c.args.space c.args.self.now.placed (noted_apart c.args.space c.requires.noted) k may.mapped in
    c.loop-number.invariant.none k later (omega arith) may
