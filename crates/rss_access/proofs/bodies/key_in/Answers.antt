-- The key is that of the values whose bytes stand in the body.
use Rattle.std.proofs.Common.{refl}
use Rattle.rss_entries.proofs.Entries.{length-key}
use Rattle.rss_access.proofs.bodies.key_in.Goals as goal

pub returns-clause-some : goal.returns-clause-some
returns-clause-some c =
    let stands = c.in_ok-bytes.ensures.some in
    let spelled = stands.spelled in
    record {
      bytes = c.in_ok-bytes.bytes.now;
      stands = stands;
      is = λ values spells. (c.key.ensures values spells).same;
      long = length-key _ _ c.key.new.into (c.key.ensures spelled.0 spelled.1);
    }

pub returns-in_err-bytes-clause-none : goal.returns-in_err-bytes-clause-none
returns-in_err-bytes-clause-none c = λ none bytes stands. c.in_err-bytes.ensures.none refl bytes stands
