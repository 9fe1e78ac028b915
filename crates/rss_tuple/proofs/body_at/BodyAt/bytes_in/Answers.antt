use Rattle.std.proofs.Common.{◌∙◌, length, drop, ap, arith, length-take-le}
use Rattle.std.proofs.lemmas.List.{length-drop}
use Rattle.rss_tuple.proofs.body_at.BodyAt.bytes_in.Goals as goal

pub returns-clause-many : goal.returns-clause-many
returns-clause-many c =
    let page = c.args.page.now in
    ap length c.bytes_at.ensures ∙ length-take-le c.args.self.length (drop c.args.self.place page) (omega (arith, length-drop c.args.self.place page, c.requires.high))
