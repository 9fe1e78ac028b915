use Rattle.std.proofs.Common.{◌∙◌, ap}
use Rattle.rss_device.specs.MemPages.{images_in}
use Rattle.rss_device.proofs.Numbered.{images_counted}
use Rattle.rss_device.proofs.mem_pages.MemPagesPages.image_pages.Goals as goal

pub returns : goal.returns
returns c = c.image_places.ensures ∙ ap images_in c.as_slice.ensures.value ∙ images_counted c.args.self.now.placed
