use Rattle.std.proofs.Common.{rules, ◌≡◌}
use Rattle.rss_device.proofs.Events.{fresh_only}
use Rattle.rss_device.proofs.memory.MemDevice.new.Goals as goal

pub returns : goal.returns
returns c =
    let same : c.in_ok-from_slice.field-0.items ≡ c.args.pages.items = search rules in
    record {
      contents = search rules;
      only = fresh_only c.in_ok-from_slice.field-0.items c.args.pages.items c.new.result.items c.new.ensures.items same;
      faults = search rules;
      writes = search rules;
      failing = search rules;
      next = search rules;
    }
