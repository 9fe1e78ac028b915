use Rattle.std.proofs.Common.{refl, Some, None, Ok, Err}
use Rattle.rss_model.specs.Forms.{calls}
use Rattle.rss_line.proofs.Combining.{none_some, no_word, not_word, is_first, is_second, reads_found, then_word, stops_fixed, then_fixed, stops_rest, then_rest}
use Rattle.rss_line.proofs.Choosing.{not_row, no_first, with_first}
use Rattle.rss_line.proofs.Plain.{variable_plain, variable_low}
use Rattle.rss_line.proofs.Lines.{calls_written, needs_front}
use Rattle.rss_line.proofs.reader.Reader.statement.Goals as goal

pub returns-in_err-first : goal.returns-in_err-first
returns-in_err-first c = no_word (needs_front c.args.names.now.variables) _ c.in_err-first.ensures.reads c.from_residual.ensures.1

pub returns-in_err-fixed : goal.returns-in_err-fixed
returns-in_err-fixed c = is_second _ (λ words x has (call, form, made). not_row (calls c.args.names.now.variables) (calls_written c.args.names.now.variables) c.in_ok-first.ensures.reads (variable_low _ c.in-Some.variable c.in-Some.ensures.some) words call has form)
    (then_word _ (reads_found variable_plain (Some c.in-Some.variable) c.in-Some.variable refl c.in_ok-first.ensures.reads c.in-Some.ensures)
    (stops_fixed _ c.in_err-fixed.ensures.reads c.from_residual-in_err-fixed.ensures.1))

pub returns-in_err-verb : goal.returns-in_err-verb
returns-in_err-verb c = is_second _ (λ words x has (call, form, made). not_row (calls c.args.names.now.variables) (calls_written c.args.names.now.variables) c.in_ok-first.ensures.reads (variable_low _ c.in-Some.variable c.in-Some.ensures.some) words call has form)
    (then_word _ (reads_found variable_plain (Some c.in-Some.variable) c.in-Some.variable refl c.in_ok-first.ensures.reads c.in-Some.ensures)
    (then_fixed _ c.in_ok-fixed.ensures.reads
    (stops_rest (λ call. (Some c.in-Some.variable, call)) _ (no_first (calls c.args.names.now.variables) (calls_written c.args.names.now.variables) (Err _) c.in_err-verb.ensures.reads refl) c.from_residual-in_err-verb.ensures.1)))

pub returns-in_err-call : goal.returns-in_err-call
returns-in_err-call c = is_second _ (λ words x has (call, form, made). not_row (calls c.args.names.now.variables) (calls_written c.args.names.now.variables) c.in_ok-first.ensures.reads (variable_low _ c.in-Some.variable c.in-Some.ensures.some) words call has form)
    (then_word _ (reads_found variable_plain (Some c.in-Some.variable) c.in-Some.variable refl c.in_ok-first.ensures.reads c.in-Some.ensures)
    (then_fixed _ c.in_ok-fixed.ensures.reads
    (stops_rest (λ call. (Some c.in-Some.variable, call)) _ (with_first (calls c.args.names.now.variables) (calls_written c.args.names.now.variables) (Err _) c.in_ok-verb.ensures.reads c.in_err-call.ensures) c.from_residual-in_err-call.ensures.1)))

pub returns-in-Some : goal.returns-in-Some
returns-in-Some c = is_second _ (λ words x has (call, form, made). not_row (calls c.args.names.now.variables) (calls_written c.args.names.now.variables) c.in_ok-first.ensures.reads (variable_low _ c.in-Some.variable c.in-Some.ensures.some) words call has form)
    (then_word _ (reads_found variable_plain (Some c.in-Some.variable) c.in-Some.variable refl c.in_ok-first.ensures.reads c.in-Some.ensures)
    (then_fixed _ c.in_ok-fixed.ensures.reads
    (then_rest (λ call. (Some c.in-Some.variable, call)) (with_first (calls c.args.names.now.variables) (calls_written c.args.names.now.variables) (Ok _) c.in_ok-verb.ensures.reads c.in_ok-call.ensures))))

pub returns-in_err-call-2 : goal.returns-in_err-call-2
returns-in_err-call-2 c = is_first _ (not_word _ variable_plain c.in_ok-first.ensures.reads (λ y is. none_some (c.in_default.ensures.all y is)))
    (stops_rest (λ call. (None, call)) _ (with_first (calls c.args.names.now.variables) (calls_written c.args.names.now.variables) (Err _) c.in_ok-first.ensures.reads c.in_err-call-2.ensures) c.from_residual-in_err-call-2.ensures.1)

pub returns : goal.returns
returns c = is_first _ (not_word _ variable_plain c.in_ok-first.ensures.reads (λ y is. none_some (c.in_default.ensures.all y is)))
    (then_rest (λ call. (None, call)) (with_first (calls c.args.names.now.variables) (calls_written c.args.names.now.variables) (Ok _) c.in_ok-first.ensures.reads c.in_ok-call-2.ensures))
