use Rattle.std.proofs.Common.{arith}
use Rattle.rss_base.specs.TupleTypes.{kinds}
use Rattle.rss_value.proofs.Choosing.{key_more, key_room, key_made}
use Rattle.rss_value.proofs.keys.key.Goals as goal

pub put_part-requires-clause-room : goal.put_part-requires-clause-room
put_part-requires-clause-room c =
    let room =
    key_room (kinds c.args.fields.now) c.args.values.now c.args.which.now c.loop-number.number-index c.loop-number.into c.requires.spelled.0 c.loop-number-test.true c.requires.spelled.1
    (c.loop-number.invariant c.requires.spelled.0 c.requires.spelled.1) in
    omega (arith, room, c.requires.narrow)

pub loop-number-preserved : goal.loop-number-preserved
loop-number-preserved c tuple spelled =
    key_more (kinds c.args.fields.now) c.args.values.now c.args.which.now c.loop-number.number-index c.loop-number.into c.put_part.new.into tuple c.loop-number-test.true spelled (c.loop-number.invariant tuple spelled)
    (c.put_part.ensures tuple spelled)

pub returns : goal.returns
returns c tuple spelled =
    key_made (kinds c.args.fields.now) c.args.values.now c.args.which.now c.loop-number.number-index c.loop-number.into tuple c.loop-number-test.false spelled (c.loop-number.invariant tuple spelled)
