use Rattle.std.proofs.Common.{Ok, refl, ap, ap₂, arith}
use Rattle.rss_top.specs.Lines.{seen}
use Rattle.rss_top.proofs.Scripts.{reads_none, reads_still, script_unread, in_budget, goes_on, stops_again, line_in_budget, less_in_all, line_read, stops_in_line, script_whole, stops_over, script_cut_off}
use Rattle.rss_top.proofs.driving.drive.Goals as goal

pub returns-in_default : goal.returns-in_default
returns-in_default g c =
    script_unread g.met.D.Driver.sound g.D.Driver.rate (g.D.Driver.view c.args.driver.now) (g.K.Sink.view c.args.sink.now) _
    (g.met.D.Driver.opens c.args.driver.now) c.requires.up

pub loop-status-init : goal.loop-status-init
loop-status-init g c =
    reads_none g.D.Driver.rate (g.D.Driver.view c.args.driver.now) (g.K.Sink.view c.args.sink.now) _
    (g.met.D.Driver.opens c.args.driver.now) c.requires.up c.keeps.ensures.enough c.in-Ok.ensures

-- ---- a move that takes no line

pub go_on-requires-clause-few : goal.go_on-requires-clause-few
go_on-requires-clause-few g c = omega (arith, in_budget c.loop-status.invariant, c.requires.few)

pub returns-in-Err : goal.returns-in-Err
returns-in-Err g c = stops_again c.loop-status.invariant c.in-Err.status c.in-Err.ensures.moves c.in-Err.ensures.calls

pub loop-status-preserved-in-Ok-true : goal.loop-status-preserved-in-Ok-true
loop-status-preserved-in-Ok-true g c =
    let moved = rw c.in-Ok-true.field-0-test at c.in-Ok-true.ensures in
    goes_on c.loop-status.invariant moved.moves (moved.less refl)

-- ---- a line

pub take-requires-clause-few : goal.take-requires-clause-few
take-requires-clause-few g c =
    let still = rw c.in-Ok-false.field-0-test at c.in-Ok-false.ensures in
    let reading = reads_still g.D.Driver.view g.K.Sink.view (still.same refl) (still.silent refl) c.loop-status.invariant in
    let looked = rw c.in-Ok-true-advance.field-0-test at c.in-Ok-true-advance.ensures in
    rw c.line-bytes.ensures (omega (arith, line_in_budget reading looked, c.requires.few))

pub returns-in-Err-take : goal.returns-in-Err-take
returns-in-Err-take g c =
    let still = rw c.in-Ok-false.field-0-test at c.in-Ok-false.ensures in
    let reading = reads_still g.D.Driver.view g.K.Sink.view (still.same refl) (still.silent refl) c.loop-status.invariant in
    let looked = rw c.in-Ok-true-advance.field-0-test at c.in-Ok-true-advance.ensures in
    stops_in_line reading looked g.met.D.Driver.sound c.in-Err-take.status
    (rw c.line-bytes.ensures at c.in-Err-take.ensures.calls) (rw c.line-bytes.ensures at c.in-Err-take.ensures.moves)

pub loop-status-smaller : goal.loop-status-smaller
loop-status-smaller g c =
    let still = rw c.in-Ok-false.field-0-test at c.in-Ok-false.ensures in
    let reading = reads_still g.D.Driver.view g.K.Sink.view (still.same refl) (still.silent refl) c.loop-status.invariant in
    let looked = rw c.in-Ok-true-advance.field-0-test at c.in-Ok-true-advance.ensures in
    let next = line_read reading looked (rw c.line-bytes.ensures at c.in_default-take.ensures.owes)
    (rw c.line-bytes.ensures at c.in_default-take.ensures.moves) in
    less_in_all reading looked _ _ (omega (arith, in_budget next))

pub loop-status-preserved : goal.loop-status-preserved
loop-status-preserved g c =
    let still = rw c.in-Ok-false.field-0-test at c.in-Ok-false.ensures in
    let reading = reads_still g.D.Driver.view g.K.Sink.view (still.same refl) (still.silent refl) c.loop-status.invariant in
    let looked = rw c.in-Ok-true-advance.field-0-test at c.in-Ok-true-advance.ensures in
    line_read reading looked (rw c.line-bytes.ensures at c.in_default-take.ensures.owes)
    (rw c.line-bytes.ensures at c.in_default-take.ensures.moves)

-- ---- the script is over, or is read no further

pub returns-in-Err-finish : goal.returns-in-Err-finish
returns-in-Err-finish g c =
    let still = rw c.in-Ok-false.field-0-test at c.in-Ok-false.ensures in
    let reading = reads_still g.D.Driver.view g.K.Sink.view (still.same refl) (still.silent refl) c.loop-status.invariant in
    let looked = rw c.in-Ok-false-advance.field-0-test at c.in-Ok-false-advance.ensures in
    stops_over reading g.met.D.Driver.sound looked _ c.in-Err-finish.ensures.calls c.in-Err-finish.status
    c.in-Err-finish.ensures.moves

pub returns-in-Ok-false-advance : goal.returns-in-Ok-false-advance
returns-in-Ok-false-advance g c =
    let still = rw c.in-Ok-false.field-0-test at c.in-Ok-false.ensures in
    let reading = reads_still g.D.Driver.view g.K.Sink.view (still.same refl) (still.silent refl) c.loop-status.invariant in
    let looked = rw c.in-Ok-false-advance.field-0-test at c.in-Ok-false-advance.ensures in
    let ends = c.in_default-finish.ensures in
    script_whole reading g.met.D.Driver.sound looked _ ends.calls c.in_default-finish.field-0 ends.moves
    (λ none. ap₂ (λ driver sink. seen (g.D.Driver.view driver) (g.K.Sink.view sink)) (ends.same (ap Ok none)) (ends.silent (ap Ok none)))

pub returns-in-Err-advance : goal.returns-in-Err-advance
returns-in-Err-advance g c =
    let still = rw c.in-Ok-false.field-0-test at c.in-Ok-false.ensures in
    let reading = reads_still g.D.Driver.view g.K.Sink.view (still.same refl) (still.silent refl) c.loop-status.invariant in
    rw c.from.ensures
    (script_cut_off reading g.met.D.Driver.sound c.in-Err-advance.why c.in-Err-advance.ensures)
