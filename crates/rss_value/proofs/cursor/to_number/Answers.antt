use Rattle.std.proofs.Common.{rules}
use Rattle.rss_value.proofs.Bytes.{number_of}
use Rattle.rss_value.proofs.cursor.to_number.Goals as goal

pub returns : goal.returns
returns c = number_of c.args.bytes c.from_be_bytes.result (search rules) (search rules) (search rules) c.from_be_bytes.ensures
