use Rattle.std.proofs.Common.{◌≡◌, ◌∙◌, ◌++◌, ap, rules}
use Rattle.std.specs.Prelude.{codes, decimal}
use Rattle.rss_model.specs.ReplyText.{item_text}
use Rattle.rss_line.proofs.Pieces.{three_pieces}
use Rattle.rss_line.proofs.saying.say_busy.Goals as goal

pub returns : goal.returns
returns c = record {
  ok = let same : c.from.result ≡ c.args.holder = search rules in
      three_pieces c.args.into.now.items c.append.new.into.items c.say_item.new.into.items c.append-2.new.into.items (codes "refused 14 busy ") (item_text c.args.item.now) (codes " by ") (decimal c.args.holder)
      c.in_ok-append.ensures.ok c.in_ok-say_item.ensures.ok (c.in_ok-append-2.ensures.ok ∙ ap (λ n. c.say_item.new.into.items ++ (codes " by " ++ decimal n)) same);
  full = search rules;
  capacity = search rules;
}
