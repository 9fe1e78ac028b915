use Rattle.std.proofs.Common.{rules, ◌≡◌, ◌∷◌}
use Rattle.rss_value.proofs.Reading.{read_one}
use Rattle.rss_value.proofs.cursor.Cursor.read_marked.Goals as goal

pub returns-in-1 : goal.returns-in-1
returns-in-1 c =
    let one : c.args.self.now ≡ 1 ∷ c.in-Some.rest.now = search rules in
    read_one c.args.kind c.args.self.now c.in-Some.rest.now c.read_kind.result c.read_kind.new.self one c.read_kind.ensures
