use Rattle.std.proofs.Common.{refl, Some, None}
use Rattle.rss_model.specs.Forms.{spots}
use Rattle.rss_line.proofs.Combining.{none_some, no_word, not_word, is_first, is_second, reads_found, then_word, stops_rest, then_rest}
use Rattle.rss_line.proofs.Choosing.{not_row, with_first}
use Rattle.rss_line.proofs.Plain.{tid_in_plain, tid_in_low}
use Rattle.rss_line.proofs.Lines.{needs_place}
use Rattle.rss_line.proofs.reader.Reader.place.Goals as goal

pub returns-in_err-word-clause-reads : goal.returns-in_err-word-clause-reads
returns-in_err-word-clause-reads c = no_word (needs_place c.args.names.now.variables) _ c.in_err-word.ensures.reads c.from_residual.ensures.1

pub returns-in_err-spot-clause-reads : goal.returns-in_err-spot-clause-reads
returns-in_err-spot-clause-reads c = is_second _ (λ words x has (spot, form, made). not_row (spots c.args.names.now.variables) refl c.in_ok-word.ensures.reads (tid_in_low c.args.names.now.variables _ c.in-Some.parent c.in-Some.ensures.some) words spot has form)
    (then_word _ (reads_found (tid_in_plain c.args.names.now.variables) (Some c.in-Some.parent) c.in-Some.parent refl c.in_ok-word.ensures.reads c.in-Some.ensures)
    (stops_rest (λ spot. (Some c.in-Some.parent, spot)) _ c.in_err-spot.ensures.reads c.from_residual-in_err-spot.ensures.1))

pub returns-in-Some-clause-reads : goal.returns-in-Some-clause-reads
returns-in-Some-clause-reads c = is_second _ (λ words x has (spot, form, made). not_row (spots c.args.names.now.variables) refl c.in_ok-word.ensures.reads (tid_in_low c.args.names.now.variables _ c.in-Some.parent c.in-Some.ensures.some) words spot has form)
    (then_word _ (reads_found (tid_in_plain c.args.names.now.variables) (Some c.in-Some.parent) c.in-Some.parent refl c.in_ok-word.ensures.reads c.in-Some.ensures)
    (then_rest (λ spot. (Some c.in-Some.parent, spot)) c.in_ok-spot.ensures.reads))

pub returns-in_err-spot-2-clause-reads : goal.returns-in_err-spot-2-clause-reads
returns-in_err-spot-2-clause-reads c = is_first _ (not_word _ (tid_in_plain c.args.names.now.variables) c.in_ok-word.ensures.reads (λ y is. none_some (c.in_default.ensures.all y is)))
    (stops_rest (λ spot. (None, spot)) _ (with_first (spots c.args.names.now.variables) refl _ c.in_ok-word.ensures.reads c.in_err-spot-2.ensures.reads) c.from_residual-in_err-spot-2.ensures.1)

pub returns-clause-reads : goal.returns-clause-reads
returns-clause-reads c = is_first _ (not_word _ (tid_in_plain c.args.names.now.variables) c.in_ok-word.ensures.reads (λ y is. none_some (c.in_default.ensures.all y is)))
    (then_rest (λ spot. (None, spot)) (with_first (spots c.args.names.now.variables) refl _ c.in_ok-word.ensures.reads c.in_ok-spot-2.ensures.reads))
