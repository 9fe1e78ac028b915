use Rattle.std.proofs.Common.{arith}
use Rattle.rss_base.proofs.Steps.{rests}
use Rattle.rss_tuple.proofs.Sets.{edits_fails, ill_formed, damage_told, holds_at}
use Rattle.rss_tuple.proofs.entries.clear_body.Goals as goal
use Rattle.rss_tuple.proofs.entries.clear_body.Goals.{Start}

pub returns-in_err-entry_in-clause-edits : goal.returns-in_err-entry_in-clause-edits
returns-in_err-entry_in-clause-edits g c = edits_fails {asks = 0} {outs = 0} _ c.from_residual.ensures.1 (λ key none. absurd none) (omega arith) (omega arith) (ill_formed _ _ _ (rests (g.P.Pages.view c.args.pages.now)) c.requires.heap c.requires.formed c.requires.copied.held c.in_err-entry_in.ensures.ill c.in_err-entry_in.ensures.damaged)

pub returns-in_err-entry_in-clause-ill : goal.returns-in_err-entry_in-clause-ill
returns-in_err-entry_in-clause-ill g c = λ ill. damage_told _ c.from_residual.ensures.1 c.in_err-entry_in.ensures.damaged (λ i. c.args.key)

pub clear_in-requires : goal.clear_in-requires
clear_in-requires g c = record {
  header = c.in_ok-entry_in.ensures.header;
  copied = c.requires.copied;
  low = c.requires.low;
  formed = c.requires.formed;
}

pub returns-in-Here-clause-ill : goal.returns-in-Here-clause-ill
returns-in-Here-clause-ill g c = λ ill. absurd (ill (holds_at (λ i. c.args.key) c.in_ok-entry_in.ensures.header (rw c.in-Here.is at c.in_ok-entry_in.ensures.holds) (λ is. absurd (cc))))
