use Rattle.std.proofs.Common.{◌∙◌, sym, ap, arith}
use Rattle.rss_base.specs.Paged.{Held}
use Rattle.rss_base.proofs.Looking.{looks_then, looks_more}
use Rattle.rss_tuple.proofs.Looks.{looks_done, looks_damaged, looks_fails, looks_wider, noted_one}
use Rattle.rss_tuple.proofs.Wrong.{names_one}
use Rattle.rss_tuple.proofs.checking.look_at.Goals as goal

pub returns-in_err-bring-clause-did : goal.returns-in_err-bring-clause-did
returns-in_err-bring-clause-did g c = looks_fails _ c.from_residual.ensures.1 (looks_wider (λ key none. absurd none) (omega arith) (λ told place none. absurd none) c.in_err-bring.ensures.did)

pub returns-in_default-clause-did : goal.returns-in_default-clause-did
returns-in_default-clause-did g c =
    let looks = c.in_ok-bring.ensures.did.looks in
    looks_damaged c.damaged.result c.args.key c.damaged.ensures (looks_more looks) (λ told.
    let there = ap (λ (h : Held). h c.args.key) (sym (looks.held told)) ∙ c.loaded.ensures (looks.step.passes.leaves.told.0 told) in
    names_one (g.P.Pages.view c.args.pages.now).held c.args.key _ there (rw c.in_default.is at c.room_in.ensures.none))

pub returns-clause-did : goal.returns-clause-did
returns-clause-did g c = looks_done _ (looks_then (looks_more c.in_ok-bring.ensures.did.looks) (noted_one c.note.ensures.noted c.note.ensures.idle c.note.ensures.did))
