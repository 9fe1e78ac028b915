use Rattle.std.proofs.Common.{rules, ◌∙◌, [], ◌∷◌, ◌++◌, ap, append_assoc}
use Rattle.rss_model.specs.ReplyText.{place_text}
use Rattle.rss_line.proofs.saying.say_with_place.Goals as goal

pub returns : goal.returns
returns c = record {
  ok = c.in_ok-append-2.ensures.ok ∙ (ap (λ l. l ++ 10 ∷ []) (c.in_ok-say_place.ensures.ok ∙ ap (λ l. l ++ place_text c.args.place) c.in_ok-append.ensures.ok) ∙ simp append_assoc);
  full = search rules;
  capacity = search rules;
}
