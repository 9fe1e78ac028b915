use Rattle.std.proofs.Common.{◌≡◌, ◌≤◌, ℕ, List, length, subst, sym, ◌∙◌, arith}
use Rattle.rss_base.proofs.Steps.{fails}
use Rattle.rss_page.specs.Content.{Empty, Here}
use Rattle.rss_page.proofs.Blanks.{blank_empty}
use Rattle.rss_tuple.proofs.Sets.{entry_set, entry_kept, set_short, set_some, blank_room}
use Rattle.rss_tuple.proofs.entries.fill.Goals as goal

pub put_found-requires-clause-may : goal.put_found-requires-clause-may
put_found-requires-clause-may g c = record {
  slotted = c.blank-page.ensures.formed.slotted;
  slot_low = c.requires.low;
  some = c.requires.length.some;
  room = blank_room c.blank-page.result c.args.slot (length c.args.body.now) c.blank-page.ensures.empty c.requires.low c.requires.length.most;
}

pub returns-clause-fills : goal.returns-clause-fills
returns-clause-fills g c =
    let page = c.blank-page.result in
    let now = c.put_found.new.page in
    let sets = c.put_found.ensures.becomes in
    let empty = blank_empty page c.blank-page.ensures.empty in
    let here = entry_set page now c.args.slot (Here c.args.body.now) c.requires.low sets.holds in
    record {
      bytes = now;
      written = c.in_ok-write.ensures.written;
      heap = record {
        formed = sets.formed c.args.key c.blank-page.ensures.formed;
        some = set_some now c.args.slot (Here c.args.body.now) (λ is. absurd (cc)) here;
        short = set_short page now c.args.slot (Here c.args.body.now) c.requires.low sets.holds
            (λ other body is. let never : Empty ≡ Here body = sym (empty other) ∙ is in absurd (cc))
            (λ body is. let same : c.args.body.now ≡ body = cc in subst (λ (b : List ℕ). length b ≤ 2400) same c.requires.length.most);
        noted = tt;
      };
      here = here;
      others = λ other off. entry_kept page now c.args.slot other (Here c.args.body.now) off sets.holds ∙ empty other;
    }

pub returns-in_err-write-clause-did : goal.returns-in_err-write-clause-did
returns-in_err-write-clause-did g c = fails _ c.from_residual.ensures.1 (λ key none. absurd none) (omega arith) (omega arith) c.in_err-write.ensures.did
