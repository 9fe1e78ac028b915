use Rattle.std.proofs.Common.{List, ℕ, length, ap, arith, length-append}
use Rattle.rss_base.specs.TupleTypes.{kinds, tuple_bytes}
use Rattle.rss_value.proofs.Spelling.{length-tuple_bytes}
use Rattle.rss_rsi.proofs.values.values_of.Goals as goal

pub returns-clause-short : goal.returns-clause-short
returns-clause-short c =
    let short = length-tuple_bytes (kinds c.args.fields.now) c.args.tuple.now c.requires.fit in
    omega (arith, short, c.requires.narrow, ap (λ (bytes : List ℕ). length bytes) c.encode.ensures.appended, ap (λ (bytes : List ℕ). length bytes) c.new-values.ensures, length-append c.new-values.result (tuple_bytes (kinds c.args.fields.now) c.args.tuple.now))
