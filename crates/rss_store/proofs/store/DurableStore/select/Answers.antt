use Rattle.std.proofs.Common.{inl}
use Rattle.rss_base.proofs.Moments.{widened, writes_then, writes_among}
use Rattle.rss_buffer.proofs.SavingSteps.{saving_then}
use Rattle.rss_store.proofs.Selected.{pieces_moments, select_moments, select_leaves, end_piece, end_switch}
use Rattle.rss_store.proofs.store.DurableStore.select.Goals as goal

-- ---- the pieces could not be written

pub returns-in_err-write_pieces-clause-moments : goal.returns-in_err-write_pieces-clause-moments
returns-in_err-write_pieces-clause-moments g c = λ told stored after held is.
    widened (pieces_moments c.requires is is.left c.write_pieces.ensures.only told) (λ image was. inl was)

pub returns-in_err-write_pieces-clause-only : goal.returns-in_err-write_pieces-clause-only
returns-in_err-write_pieces-clause-only g c = writes_among end_piece c.write_pieces.ensures.only

-- ---- the root could not be switched

pub returns-in_err-self-clause-moments : goal.returns-in_err-self-clause-moments
returns-in_err-self-clause-moments g c = λ told stored after held is.
    let write = c.in_ok-write_pieces.ensures in
    let told_mid = write.only.told.0 told in
    select_moments c.requires is is.left write.only told told_mid (g.met.S.Pages.reads_as_image c.write_pieces.new.pages) write.written is.saves (c.in_err-self.ensures.phases told_mid.pages told_mid.is)

pub returns-in_err-self-clause-only : goal.returns-in_err-self-clause-only
returns-in_err-self-clause-only g c = writes_then (writes_among end_piece c.in_ok-write_pieces.ensures.only) (writes_among end_switch c.in_err-self.ensures.only)

-- ---- it is switched

pub returns-clause-moments : goal.returns-clause-moments
returns-clause-moments g c = λ told stored after held is.
    let write = c.in_ok-write_pieces.ensures in
    let told_mid = write.only.told.0 told in
    select_moments c.requires is is.left write.only told told_mid (g.met.S.Pages.reads_as_image c.write_pieces.new.pages) write.written is.saves (c.in_ok-self.ensures.phases told_mid.pages told_mid.is)

pub returns-clause-leaves : goal.returns-clause-leaves
returns-clause-leaves g c = λ told stored after held is.
    let write = c.in_ok-write_pieces.ensures in
    let told_mid = write.only.told.0 told in
    select_leaves c.requires is is.left write.only told told_mid (g.met.S.Pages.reads_as_image c.write_pieces.new.pages) write.written is.saves (c.in_ok-self.ensures.switched told_mid.pages told_mid.is)

pub returns-clause-only : goal.returns-clause-only
returns-clause-only g c = writes_then (writes_among end_piece c.in_ok-write_pieces.ensures.only) (writes_among end_switch c.in_ok-self.ensures.only)

pub returns-clause-did : goal.returns-clause-did
returns-clause-did g c = record {
  step = saving_then c.in_ok-write_pieces.ensures.did.step c.in_ok-self.ensures.did.step;
  fault = tt;
  cause = λ is. absurd (cc);
}
