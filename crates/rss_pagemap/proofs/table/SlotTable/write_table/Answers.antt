use Rattle.std.proofs.Common.{ℕ, ◌≡◌, length, subst, rules, arith, length-take-le}
use Rattle.rss_base.specs.DiskRule.{IsTold}
use Rattle.rss_base.specs.Layout.{map_pages, map_at}
use Rattle.rss_base.proofs.Moments.{wrote_as, wrote_among, wrote_then}
use Rattle.rss_pagemap.proofs.Written.{IsWrittenTo, more_written, all_written, wrote_within}
use Rattle.rss_pagemap.proofs.table.SlotTable.write_table.Goals as goal

pub returns-in_err-write_run-clause-did : goal.returns-in_err-write_run-clause-did
returns-in_err-write_run-clause-did g c =
    let long : length c.fill_run.new.run ≡ c.min-count.result = search (rules, length-take-le) in
    wrote_within (omega arith) (wrote_as (λ is. search rules) (wrote_then c.loop-done.invariant.did (wrote_among (λ q is. (omega (arith, is), omega (arith, is))) c.write_run.ensures.did)))

pub loop-done-preserved : goal.loop-done-preserved
loop-done-preserved g c =
    let long : length c.fill_run.new.run ≡ c.min-count.result = search (rules, length-take-le) in
    record {
      first = search rules;
      within = omega arith;
      written = λ pages told.
          let so_far = c.loop-done.invariant.written pages told in
          let now : IsTold (g.D.Device.view c.loop-done.device).disk = record { pages = so_far.after; is = so_far.told } in
          let kept = c.write_run.ensures.did.only.kept so_far.after so_far.told in
          more_written c.fill_run.new.run _ (omega arith) (omega arith) (omega arith) (search rules) so_far kept (c.in_ok-write_run.ensures.written now kept.after kept.told);
      did = wrote_within (omega arith) (wrote_as (λ is. absurd (cc (is))) (wrote_then c.loop-done.invariant.did (wrote_among (λ q is. (omega (arith, is), omega (arith, is))) c.write_run.ensures.did)));
    }

pub returns-clause-written : goal.returns-clause-written
returns-clause-written g c = λ pages told.
    let all : c.loop-done.done ≡ map_pages (length c.args.self.now) = omega arith in
    all_written pages _ c.args.self.now _ c.slots-slots.ensures.table (subst (λ (n : ℕ). IsWrittenTo pages (map_at (length c.args.self.now) c.args.area) c.args.self.now n (g.D.Device.view c.loop-done.device).disk.contents) all (c.loop-done.invariant.written pages told))
