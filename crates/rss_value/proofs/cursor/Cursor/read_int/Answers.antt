use Rattle.std.proofs.Common.{rules, ◌≡◌, take, drop}
use Rattle.rss_value.proofs.Reading.{int_read}
use Rattle.rss_value.proofs.cursor.Cursor.read_int.Goals as goal

pub returns : goal.returns
returns c =
    let front : c.in_ok-bytes.bytes.now ≡ take 8 c.args.self.now = search rules in
    let behind : c.in_ok-bytes.rest.now ≡ drop 8 c.args.self.now = search rules in
    int_read c.args.self.now c.in_ok-bytes.bytes.now c.in_ok-bytes.rest.now c.to_number.result front behind c.to_number.ensures
