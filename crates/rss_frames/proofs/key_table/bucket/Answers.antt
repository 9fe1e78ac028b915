use Rattle.std.proofs.Common.{◌≡◌, refl, sym, ◌∙◌, ap}
use Rattle.rss_base.specs.PageMap.{space_code}
use Rattle.rss_frames.specs.Table.{bucket_of}
use Rattle.rss_frames.proofs.key_table.bucket.Goals as goal
use Rattle.rss_frames.proofs.key_table.bucket.Goals.{in-Home, in-Overflow, in-Image, in-System}

pub returns-clause-value : goal.returns-clause-value
unfolding bucket_of
returns-clause-value c =
    let code : c.match-key.space ≡ space_code c.args.key.space = elim c.match-key.branch [
      | in-Home w ↦ w.space-is ∙ sym (ap space_code w.in-Home.is)
      | in-Overflow w ↦ w.space-is ∙ sym (ap space_code w.in-Overflow.is)
      | in-Image w ↦ w.space-is ∙ sym (ap space_code w.in-Image.is)
      | in-System w ↦ w.space-is ∙ sym (ap space_code w.in-System.is)
    ] in
    rw (code, c.from.ensures, c.from-2.ensures, c.from-3.ensures) refl
