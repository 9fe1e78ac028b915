use Rattle.std.proofs.Common.{◌≡◌, length, ap, List, ℕ}
use Rattle.rss_page.proofs.Cleared.{new_zeros, new_formed, empty_entries}
use Rattle.rss_page.proofs.form.blank.Goals as goal

pub returns-clause-formed : goal.returns-clause-formed
returns-clause-formed c =
    let long : length c.header.result ≡ 16 = ap (λ (l : List ℕ). length l) c.header.ensures in
    new_formed c.args.key c.put_bytes.new.page c.header.result c.requires c.put_bytes.ensures c.header.ensures long

pub returns-clause-empty : goal.returns-clause-empty
returns-clause-empty c =
    let long : length c.header.result ≡ 16 = ap (λ (l : List ℕ). length l) c.header.ensures in
    empty_entries c.put_bytes.new.page (new_zeros c.put_bytes.new.page c.header.result c.put_bytes.ensures long)
