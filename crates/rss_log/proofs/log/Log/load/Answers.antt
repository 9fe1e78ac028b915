use Rattle.std.proofs.Common.{List, ℕ, ◌-◌, ◌%◌, length, ◌∙◌, ap}
use Rattle.rss_base.specs.Sizes.{piece_bytes}
use Rattle.rss_base.specs.LogPages.{kept_from}
use Rattle.rss_log.specs.Rings.{ring_bytes}
use Rattle.rss_log.specs.Logs.{piece_start}
use Rattle.rss_log.proofs.LogViews.{ring_kept, tail_of_ring, is_log_of}
use Rattle.rss_log.proofs.log.Log.load.Goals as goal

pub returns-clause-kept : goal.returns-clause-kept
returns-clause-kept g c = λ pages told.
    ap (λ (ring : List ℕ). ring_bytes ring (piece_start c.args.head) (c.args.end - piece_start c.args.head)) (ring_kept c.in_ok-ring.ring c.read_log.new.ring (c.read_log.ensures.long ∙ ap length c.deref_mut.ensures.value))
    ∙ c.in_ok-read_log.ensures.kept pages told
    ∙ ap (kept_from pages c.args.first_page c.args.log_pages c.args.head c.args.end) c.as_slice-tail.ensures.bytes

pub returns-clause-tail : goal.returns-clause-tail
returns-clause-tail g c =
    tail_of_ring c.args.log_pages c.args.head c.args.end _ c.requires.ring.order
    ∙ ap (λ (ring : List ℕ). ring_bytes ring (c.args.end - c.args.end % piece_bytes) (c.args.end % piece_bytes)) (ring_kept c.in_ok-ring.ring c.read_log.new.ring (c.read_log.ensures.long ∙ ap length c.deref_mut.ensures.value))
    ∙ c.in_ok-read_log.ensures.tail
    ∙ c.as_slice-tail.ensures.bytes

pub returns-clause-log : goal.returns-clause-log
returns-clause-log g c = is_log_of c.args.log_pages c.args.head c.args.end _ c.requires.ring
