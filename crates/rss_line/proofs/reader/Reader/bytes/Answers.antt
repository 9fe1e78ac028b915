use Rattle.rss_line.proofs.Cuts.{plain_next, unskipped, at_once}
use Rattle.rss_line.proofs.reader.Reader.bytes.Goals as goal

pub returns : goal.returns
returns c = record {
  ok = unskipped c.skip_spaces.ensures (at_once c.front.ensures.parts c.front.ensures.apart);
  all = λ word rest begins plain. plain_next c.skip_spaces.ensures c.front.ensures begins plain;
}
