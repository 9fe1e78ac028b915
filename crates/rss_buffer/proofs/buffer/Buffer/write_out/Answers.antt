use Rattle.std.proofs.Common.{is_some, refl, ap}
use Rattle.rss_shadow.proofs.Owned.{HasPage-mapped}
use Rattle.rss_buffer.proofs.Turns.{mapped_there, WritesPages-none}
use Rattle.rss_buffer.proofs.buffer.Buffer.write_out.Goals as goal

pub returns-then-not-changed-clause-did : goal.returns-then-not-changed-clause-did
returns-then-not-changed-clause-did g c = WritesPages-none tt refl

pub unreachable-requires : goal.unreachable-requires
unreachable-requires g c =
    let self = c.args.self.now in
    let has = HasPage-mapped self.shadow.current c.args.key (mapped_there self.holds c.args.key (ap (λ o. is_some o) c.requires.there)) in
    c.in_default.ensures.none has.slot has.owned
