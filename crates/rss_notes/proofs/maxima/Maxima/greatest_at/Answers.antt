use Rattle.std.proofs.Common.{◌≡◌, ◌+◌, ◌/◌, ◌^◌, ◌<◌, ◌≤◌, ℕ, get_or, length, ◌∙◌, sym, ap, subst, arith}
use Rattle.std.proofs.lemmas.List.{get_or_read}
use Rattle.rss_notes.proofs.Trees.{level_within, level_bound, level_number, numbers_long, number_at}
use Rattle.rss_notes.proofs.maxima.Maxima.greatest_at.Goals as goal

pub overflow_add-start_of : goal.overflow_add-start_of
overflow_add-start_of c =
    let long = numbers_long _ _ c.self.invariant.least c.self.view_is in
    let most = c.self.invariant.most in
    omega (arith, level_within c.args.bits c.start_of.result c.args.at (length c.args.self.now) c.start_of.ensures c.requires.within (omega arith))

pub index-requires : goal.index-requires
index-requires c =
    let long = numbers_long _ _ c.self.invariant.least c.self.view_is in
    let most = c.self.invariant.most in
    omega (arith, c.self.inside.tree.ok, level_within c.args.bits c.start_of.result c.args.at (length c.args.self.now) c.start_of.ensures c.requires.within (omega arith))

pub returns-clause-bounds : goal.returns-clause-bounds
returns-clause-bounds c = λ k within shares.
    let long = numbers_long _ _ c.self.invariant.least c.self.view_is in
    let most = c.self.invariant.most in
    let tree = c.self.inside.tree.items in
    let node : ℕ = c.start_of.result + c.args.at / 2 ^ c.args.bits in
    let fits : node < length tree = omega (arith, level_within c.args.bits c.start_of.result c.args.at (length c.args.self.now) c.start_of.ensures c.requires.within (omega arith)) in
    let read : c.index.result.now ≡ get_or tree node 0 = get_or_read tree node c.index.result.now fits c.index.ensures 0 in
    let bound : get_or tree (4368 + k) 0 ≤ get_or tree (c.start_of.result + k / 2 ^ c.args.bits) 0 = level_bound tree c.args.bits c.start_of.result k c.self.invariant c.start_of.ensures (omega arith) in
    omega (arith, number_at tree _ k c.self.view_is, subst (λ (n : ℕ). get_or tree (4368 + k) 0 ≤ get_or tree (c.start_of.result + n) 0) shares bound)

pub returns-clause-number : goal.returns-clause-number
returns-clause-number c = λ low.
    let long = numbers_long _ _ c.self.invariant.least c.self.view_is in
    let most = c.self.invariant.most in
    let tree = c.self.inside.tree.items in
    let node : ℕ = c.start_of.result + c.args.at / 2 ^ c.args.bits in
    let fits : node < length tree = omega (arith, level_within c.args.bits c.start_of.result c.args.at (length c.args.self.now) c.start_of.ensures c.requires.within (omega arith)) in
    get_or_read tree node c.index.result.now fits c.index.ensures 0 ∙ ap (λ (n : ℕ). get_or tree n 0) (level_number c.args.bits c.start_of.result c.args.at c.start_of.ensures low) ∙ sym (number_at tree _ c.args.at c.self.view_is)
