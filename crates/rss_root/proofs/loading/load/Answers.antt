use Rattle.std.proofs.Common.{◌≡◌, ◌≢◌, inl, length, ◌∙◌, sym, arith, rules}
use Rattle.rss_base.specs.Layout.{device_pages, few}
use Rattle.rss_base.proofs.Moments.{reads_then, only_read, rises_since}
use Rattle.rss_root.proofs.Openings.{read_last}
use Rattle.rss_root.proofs.Faults.{root_fault, size_fault, root_found, fault_from_named, named_from_fault, root_no_fault}
use Rattle.rss_root.proofs.loading.load.Goals as goal

pub returns-then-size-lt-HEAD_PAGES-clause-fault : goal.returns-then-size-lt-HEAD_PAGES-clause-fault
returns-then-size-lt-HEAD_PAGES-clause-fault g c = λ place is pages told.
    let sized = g.met.D.Device.sized c.size.new.self pages (c.size.ensures.reads.contents ∙ (c.sync.ensures.did.reads.contents ∙ told)) in
    fault_from_named (few (omega (arith, sized, c.in_ok-size.ensures.size))) place is

pub returns-in_default-clause-fault : goal.returns-in_default-clause-fault
returns-in_default-clause-fault g c = λ place is pages told.
    let at_size = c.size.ensures.reads.contents ∙ (c.sync.ensures.did.reads.contents ∙ told) in
    let sized = g.met.D.Device.sized c.size.new.self pages at_size in
    fault_from_named (root_fault pages _ _ _ (omega (arith, sized, c.in_ok-size.ensures.size)) (c.in_ok-read.ensures.page pages at_size) (c.in_ok-read-2.ensures.page pages (c.read.ensures.did.reads.contents ∙ at_size)) c.from.ensures c.in_default.ensures.none) place is

pub returns-in_default-clause-broken : goal.returns-in_default-clause-broken
returns-in_default-clause-broken g c = λ place pages told there.
    let at_size = c.size.ensures.reads.contents ∙ (c.sync.ensures.did.reads.contents ∙ told) in
    let sized = g.met.D.Device.sized c.size.new.self pages at_size in
    inl (named_from_fault (root_fault pages _ _ _ (omega (arith, sized, c.in_ok-size.ensures.size)) (c.in_ok-read.ensures.page pages at_size) (c.in_ok-read-2.ensures.page pages (c.read.ensures.did.reads.contents ∙ at_size)) c.from.ensures c.in_default.ensures.none) place there)

pub returns-then-size-device_pages-clause-fault : goal.returns-then-size-device_pages-clause-fault
returns-then-size-device_pages-clause-fault g c = λ place is pages told.
    let at_size = c.size.ensures.reads.contents ∙ (c.sync.ensures.did.reads.contents ∙ told) in
    let sized = g.met.D.Device.sized c.size.new.self pages at_size in
    let apart : length pages ≢ device_pages c.in-Some.root = λ same. c.if-size-device_pages.true (c.in_ok-size.ensures.size ∙ (sym sized ∙ (same ∙ sym c.device_pages.ensures))) in
    fault_from_named (size_fault pages _ _ _ c.in-Some.root (omega (arith, sized, c.in_ok-size.ensures.size)) (c.in_ok-read.ensures.page pages at_size) (c.in_ok-read-2.ensures.page pages (c.read.ensures.did.reads.contents ∙ at_size)) c.from.ensures c.in-Some.ensures.some apart) place is

pub returns-then-size-device_pages-clause-broken : goal.returns-then-size-device_pages-clause-broken
returns-then-size-device_pages-clause-broken g c = λ place pages told there.
    let at_size = c.size.ensures.reads.contents ∙ (c.sync.ensures.did.reads.contents ∙ told) in
    let sized = g.met.D.Device.sized c.size.new.self pages at_size in
    let apart : length pages ≢ device_pages c.in-Some.root = λ same. c.if-size-device_pages.true (c.in_ok-size.ensures.size ∙ (sym sized ∙ (same ∙ sym c.device_pages.ensures))) in
    inl (named_from_fault (size_fault pages _ _ _ c.in-Some.root (omega (arith, sized, c.in_ok-size.ensures.size)) (c.in_ok-read.ensures.page pages at_size) (c.in_ok-read-2.ensures.page pages (c.read.ensures.did.reads.contents ∙ at_size)) c.from.ensures c.in-Some.ensures.some apart) place there)

pub returns-clause-broken : goal.returns-clause-broken
returns-clause-broken g c = λ place pages told there.
    let at_size = c.size.ensures.reads.contents ∙ (c.sync.ensures.did.reads.contents ∙ told) in
    let sized = g.met.D.Device.sized c.size.new.self pages at_size in
    let size : length pages ≡ device_pages c.in-Some.root = sized ∙ (sym c.in_ok-size.ensures.size ∙ (c.if-size-device_pages.false ∙ c.device_pages.ensures)) in
    absurd (root_no_fault pages _ c.in-Some.root place (root_found pages _ _ _ c.in-Some.root (c.in_ok-read.ensures.page pages at_size) (c.in_ok-read-2.ensures.page pages (c.read.ensures.did.reads.contents ∙ at_size)) c.from.ensures c.in-Some.ensures.some size) there)

pub returns-clause-synced : goal.returns-clause-synced
returns-clause-synced g c = λ pages told. only_read pages (c.sync.ensures.did.reads.contents ∙ told) (c.in_ok-sync.ensures.synced pages told) (reads_then c.size.ensures.reads (reads_then c.read.ensures.did.reads c.read-2.ensures.did.reads))

pub returns-in_err-size-clause-did : goal.returns-in_err-size-clause-did
returns-in_err-size-clause-did g c = record {
  reads = reads_then c.sync.ensures.did.reads c.size.ensures.reads;
  failed = λ is. rises_since c.sync.ensures.did.reads.later (c.size.ensures.cause.failed (search rules));
}

pub returns-then-size-lt-HEAD_PAGES-clause-did : goal.returns-then-size-lt-HEAD_PAGES-clause-did
returns-then-size-lt-HEAD_PAGES-clause-did g c = record { reads = reads_then c.sync.ensures.did.reads c.size.ensures.reads; failed = λ is. absurd (cc (is)) }

pub returns-in_err-read-clause-did : goal.returns-in_err-read-clause-did
returns-in_err-read-clause-did g c = read_last (reads_then c.sync.ensures.did.reads c.size.ensures.reads) c.read.ensures.did (λ is. search rules)

pub returns-in_err-read-2-clause-did : goal.returns-in_err-read-2-clause-did
returns-in_err-read-2-clause-did g c = read_last (reads_then (reads_then c.sync.ensures.did.reads c.size.ensures.reads) c.read.ensures.did.reads) c.read-2.ensures.did (λ is. search rules)

pub returns-in_default-clause-did : goal.returns-in_default-clause-did
returns-in_default-clause-did g c = read_last (reads_then (reads_then c.sync.ensures.did.reads c.size.ensures.reads) c.read.ensures.did.reads) c.read-2.ensures.did (λ is. absurd (cc (is)))

pub returns-then-size-device_pages-clause-did : goal.returns-then-size-device_pages-clause-did
returns-then-size-device_pages-clause-did g c = read_last (reads_then (reads_then c.sync.ensures.did.reads c.size.ensures.reads) c.read.ensures.did.reads) c.read-2.ensures.did (λ is. absurd (cc (is)))

pub returns-clause-did : goal.returns-clause-did
returns-clause-did g c = read_last (reads_then (reads_then c.sync.ensures.did.reads c.size.ensures.reads) c.read.ensures.did.reads) c.read-2.ensures.did (λ is. absurd (cc (is)))
