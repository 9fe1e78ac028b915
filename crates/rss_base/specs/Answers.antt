-- The answers that meet a fault of the pages.
use Rattle.rss_base.specs.declared.answer.CallError.{CallError}
use Rattle.rss_base.specs.declared.answer.CallError.TheVariants.{Device, Damaged, NoMemory}
use Rattle.rss_base.specs.declared.fault.OpenFault.{OpenFault}
use Rattle.rss_base.specs.declared.fault.OpenFault.TheVariants.{Device as OpenDevice, Damaged as OpenDamaged, NoMemory as OpenNoMemory}
use Rattle.rss_base.specs.declared.fault.PageFault.{PageFault}
use Rattle.rss_base.specs.declared.fault.PageFault.TheVariants.{Device as PageDevice, Damaged as PageDamaged, NoMemory as PageNoMemory}

-- of a call
abbrev pub page_error : PageFault → CallError
page_error PageDevice = Device
page_error (PageDamaged place) = Damaged place
page_error PageNoMemory = NoMemory

-- of an opening
abbrev pub open_error : PageFault → OpenFault
open_error PageDevice = OpenDevice
open_error (PageDamaged place) = OpenDamaged place
open_error PageNoMemory = OpenNoMemory
