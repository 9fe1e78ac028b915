-- What an opening passes on.
use Rattle.std.specs.Prelude.{Result, IsErr, IsErrOf}
use Rattle.rss_base.specs.Devices.{DeviceView, OnlyReads, ReadsPages, ReadsStore}
use Rattle.rss_base.specs.declared.fault.Failed.{Failed}
use Rattle.rss_base.specs.declared.fault.OpenFault.{OpenFault}
use Rattle.rss_base.specs.declared.fault.OpenFault.TheVariants.{Device as DeviceFailed}
use Rattle.rss_base.proofs.Moments.{reads_then, rises_since}

-- after other calls it read pages last, and that is all that may have failed
pub read_last : {T U : Type 0} {old mid new : DeviceView} {read : Result U Failed} {result : Result T OpenFault} → OnlyReads old mid → ReadsPages mid new read → (IsErrOf result DeviceFailed → IsErr read) → ReadsStore old new result
read_last before read is = record {
  reads = reads_then before read.reads;
  failed = λ failed. rises_since before.later (read.failed (is failed));
}
