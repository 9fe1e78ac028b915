use Rattle.std.proofs.Common.{arith, refl, subst, sym, ◌∙◌}
use Rattle.std.proofs.lemmas.List.{get_or_read}
use Rattle.rss_frames.specs.Lists.{Has}
use Rattle.rss_frames.proofs.Lists.{Has-without}
use Rattle.rss_frames.specs.Recency.{Recency}
use Rattle.rss_frames.proofs.Ring.{first_stays}
use Rattle.rss_frames.proofs.recency.Order.to_front.Goals as goal

pub push_front-requires-clause-absent : goal.push_front-requires-clause-absent
push_front-requires-clause-absent c = λ h. (Has-without c.args.frame c.args.frame c.args.self.now.frames (subst (λ (r : Recency). Has c.args.frame r.frames) c.unlink.ensures.frames h)).1 refl

pub returns-else-first-frame : goal.returns-else-first-frame
returns-else-first-frame c =
    let o = c.self.inside in
    let read = get_or_read o.next.items o.room c.index-first.result.now (omega (arith, c.self.invariant.0.nexts)) c.index-first.ensures 0 in
    let has = subst (λ (r : Recency). Has c.args.frame r.frames) (sym c.self.view_is) c.requires in
    let stays = first_stays o.next.items o.prev.items o.room c.args.frame _ c.self.invariant.0 (sym read ∙ c.if-first-frame.false) has in
    rw (← c.self.view_is) (rw stays refl)
