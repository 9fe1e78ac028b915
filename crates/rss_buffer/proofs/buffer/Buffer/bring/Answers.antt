use Rattle.std.proofs.Common.{List, is_some, option_map, sym, ap, ◌∙◌}
use Rattle.std.proofs.lemmas.Bool.{true≢false}
use Rattle.rss_base.proofs.Moments.{same_device}
use Rattle.rss_frames.specs.Entries.{Held, entries, newest as newest_of}
use Rattle.rss_frames.proofs.Looked.{none_fronted, none_entry}
use Rattle.rss_frames.specs.Frames.{FrameOf}
use Rattle.rss_buffer.proofs.Lookups.{none_from, used_shown, newest_there, newest_used}
use Rattle.rss_buffer.proofs.Turns.{IsBuffer-same, KeepsPages-same, puts_none, MovesPages-keeps, MovesPages-same}
use Rattle.rss_buffer.proofs.buffer.Buffer.bring.Goals as goal

pub invariant_of-self : goal.invariant_of-self
invariant_of-self g c = record { saved_area = c.args.self.now.saved_area; holds = rw c.touch.ensures.used.room_is (IsBuffer-same c.args.self.now.holds (used_shown _ _ c.touch.ensures.used)) }

-- ---- it is there

pub returns-then-touch-clause-newest : goal.returns-then-touch-clause-newest
returns-then-touch-clause-newest g c = newest_used _ _ c.touch.ensures.used (sym c.touch.ensures.there ∙ c.if-touch.true)

pub returns-then-touch-clause-stays : goal.returns-then-touch-clause-stays
returns-then-touch-clause-stays g c = λ other newest. ap (λ (f : FrameOf). is_some (f other)) (used_shown _ _ c.touch.ensures.used) ∙ newest_there _ other newest

pub returns-then-touch-clause-did : goal.returns-then-touch-clause-did
returns-then-touch-clause-did g c = rw c.touch.ensures.used.room_is (MovesPages-keeps _ (KeepsPages-same (used_shown _ _ c.touch.ensures.used)) puts_none)

pub returns-then-touch-clause-idle : goal.returns-then-touch-clause-idle
returns-then-touch-clause-idle g c = λ there. record { device = same_device _; in_memory = λ i key. is_some ((used_shown _ _ c.touch.ensures.used) i key) }

-- ---- it isn't, and nor was it used

pub read_in-requires-clause-absent : goal.read_in-requires-clause-absent
read_in-requires-clause-absent g c = ap (λ (f : FrameOf). f c.args.key) (used_shown _ _ c.touch.ensures.used) ∙ none_from _ (sym c.touch.ensures.there ∙ c.if-touch.false)

pub returns-clause-stays : goal.returns-clause-stays
returns-clause-stays g c = λ other newest.
    c.read_in.ensures.stays other (ap (λ (es : List Held). option_map (λ e. e.key) (newest_of es)) (c.touch.ensures.used.are ∙ none_fronted c.args.key (entries c.args.self.now.frames) (none_entry _ (none_from _ (sym c.touch.ensures.there ∙ c.if-touch.false)))) ∙ newest)

pub returns-clause-idle : goal.returns-clause-idle
returns-clause-idle g c = λ there. absurd (true≢false (sym there ∙ sym c.touch.ensures.there ∙ c.if-touch.false))

pub returns-clause-did : goal.returns-clause-did
returns-clause-did g c = MovesPages-same (used_shown _ _ c.touch.ensures.used) c.touch.ensures.used.room_is c.read_in.ensures.did
