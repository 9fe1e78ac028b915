use Rattle.std.proofs.Common.{◌≡◌, ℕ, ◌++◌, take, drop, subst, arith}
use Rattle.std.specs.Int.{w16, w32, to_be_bytes}
use Rattle.rss_link.proofs.Pointers.{six_bytes}
use Rattle.rss_link.proofs.blocks.pointer_at.Goals as goal

pub returns-then-slot-clause-spelled : goal.returns-then-slot-clause-spelled
returns-then-slot-clause-spelled c =
    let is = six_bytes c.args.bytes.now c.copy_from_slice.new.self c.copy_from_slice-2.new.self c.args.at c.from_be_bytes-page.result c.from_be_bytes-slot.result _ _ (λ i. omega (arith, c.type_inv.bytes i)) c.requires (omega arith) (omega arith) c.copy_from_slice.ensures.after c.copy_from_slice-2.ensures.after c.from_be_bytes-page.ensures c.from_be_bytes-slot.ensures in
    subst (λ (slot : ℕ). to_be_bytes w32 4294967295 ++ to_be_bytes w16 slot ≡ take 6 (drop c.args.at c.args.bytes.now)) c.if-slot.true
    (subst (λ (page : ℕ). to_be_bytes w32 page ++ to_be_bytes w16 c.from_be_bytes-slot.result ≡ take 6 (drop c.args.at c.args.bytes.now)) c.if-page.true is)

pub returns-else-page-clause-spelled : goal.returns-else-page-clause-spelled
returns-else-page-clause-spelled c = six_bytes c.args.bytes.now c.copy_from_slice.new.self c.copy_from_slice-2.new.self c.args.at c.from_be_bytes-page.result c.from_be_bytes-slot.result _ _ (λ i. omega (arith, c.type_inv.bytes i)) c.requires (omega arith) (omega arith) c.copy_from_slice.ensures.after c.copy_from_slice-2.ensures.after c.from_be_bytes-page.ensures c.from_be_bytes-slot.ensures
