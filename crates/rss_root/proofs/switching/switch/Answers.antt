use Rattle.std.proofs.Common.{◌-◌, inl, inr, arith, refl, rules}
use Rattle.rss_base.specs.Layout.{root_page}
use Rattle.rss_base.proofs.Moments.{writes_one, wrote_as, wrote_among, wrote_then}
use Rattle.rss_root.proofs.Switches.{either_selected, settled, in_phases}
use Rattle.rss_root.proofs.switching.switch.Goals as goal

pub returns-in_err-put-clause-did : goal.returns-in_err-put-clause-did
returns-in_err-put-clause-did g c = record {
  only = writes_one (inr c.from.ensures) c.put.ensures.did.only;
  size = c.put.ensures.did.size;
  writes = omega (arith, c.put.ensures.did.writes);
  cause = search rules;
}

pub returns-in_err-put-2-clause-did : goal.returns-in_err-put-2-clause-did
returns-in_err-put-2-clause-did g c = wrote_as (λ is. search rules) (wrote_then
    (wrote_among (λ q is. inr (omega (arith, is, c.from.ensures))) c.put.ensures.did)
    (wrote_among (λ q is. inl is) c.put-2.ensures.did))

pub returns-in_err-put-2-clause-phases : goal.returns-in_err-put-2-clause-phases
returns-in_err-put-2-clause-phases g c = λ pages told.
    let first = rw c.from.ensures at (c.put.ensures.did.only.moments (record { pages = pages; is = told })) in
    let only = rw (c.from.ensures, c.encode.ensures) at (c.in_ok-put.ensures.durable pages told) in
    in_phases pages (3 - c.args.valid) (root_page c.args.root.now) first only (c.put-2.ensures.did.only.moments (record { pages = _; is = c.in_ok-put.ensures.written pages told }))

pub returns-in_err-put-2-clause-either : goal.returns-in_err-put-2-clause-either
returns-in_err-put-2-clause-either g c = λ told before selects.
    let room = g.met.D.Device.sized c.args.device.now told.pages told.is in
    let first = rw c.from.ensures at (c.put.ensures.did.only.moments told) in
    let only = rw (c.from.ensures, c.encode.ensures) at (c.in_ok-put.ensures.durable told.pages told.is) in
    either_selected told.pages c.args.valid (3 - c.args.valid) before (root_page c.args.root.now) c.requires.low c.requires.high refl (omega (arith, room))
    (g.met.D.Device.reads_as_image c.args.device.now told.pages told.is) selects first only
    (c.put-2.ensures.did.only.moments (record { pages = _; is = c.in_ok-put.ensures.written told.pages told.is }))

pub returns-clause-did : goal.returns-clause-did
returns-clause-did g c = wrote_as (λ is. search rules) (wrote_then
    (wrote_among (λ q is. inr (omega (arith, is, c.from.ensures))) c.put.ensures.did)
    (wrote_among (λ q is. inl is) c.put-2.ensures.did))

pub returns-clause-phases : goal.returns-clause-phases
returns-clause-phases g c = λ pages told.
    let first = rw c.from.ensures at (c.put.ensures.did.only.moments (record { pages = pages; is = told })) in
    let only = rw (c.from.ensures, c.encode.ensures) at (c.in_ok-put.ensures.durable pages told) in
    in_phases pages (3 - c.args.valid) (root_page c.args.root.now) first only (c.put-2.ensures.did.only.moments (record { pages = _; is = c.in_ok-put.ensures.written pages told }))

pub returns-clause-switched : goal.returns-clause-switched
returns-clause-switched g c = λ pages told.
    let written = rw (c.from.ensures, c.encode.ensures) at (c.in_ok-put.ensures.written pages told) in
    record { selector = c.selector_of.result; names_it = c.selector_of.ensures; told = c.in_ok-put-2.ensures.written _ written; only = c.in_ok-put-2.ensures.durable _ written }

pub returns-clause-either : goal.returns-clause-either
returns-clause-either g c = λ told before selects.
    let room = g.met.D.Device.sized c.args.device.now told.pages told.is in
    let first = rw c.from.ensures at (c.put.ensures.did.only.moments told) in
    let only = rw (c.from.ensures, c.encode.ensures) at (c.in_ok-put.ensures.durable told.pages told.is) in
    either_selected told.pages c.args.valid (3 - c.args.valid) before (root_page c.args.root.now) c.requires.low c.requires.high refl (omega (arith, room))
    (g.met.D.Device.reads_as_image c.args.device.now told.pages told.is) selects first only
    (c.put-2.ensures.did.only.moments (record { pages = _; is = c.in_ok-put.ensures.written told.pages told.is }))

pub returns-clause-selects : goal.returns-clause-selects
returns-clause-selects g c = λ told before selects.
    let room = g.met.D.Device.sized c.args.device.now told.pages told.is in
    let written = rw (c.from.ensures, c.encode.ensures) at (c.in_ok-put.ensures.written told.pages told.is) in
    settled told.pages (3 - c.args.valid) (root_page c.args.root.now) c.selector_of.result (omega arith) (omega (arith, room)) c.selector_of.ensures (c.in_ok-put-2.ensures.durable _ written)
