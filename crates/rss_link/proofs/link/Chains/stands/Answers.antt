use Rattle.std.proofs.Math.Logic.{∥∥₁_map}
use Rattle.std.proofs.Common.{refl}
use Rattle.rss_link.proofs.Meaning.{says_some, stands_by}
use Rattle.rss_link.proofs.link.Chains.stands.Goals as goal

pub standing-requires : goal.standing-requires
standing-requires g c = record { heaps = c.requires.heaps; some = λ told. ∥∥₁_map (c.requires.knows told) (λ knows. says_some knows.spells c.args.child knows.is_child) }

pub returns-in-Within-clause-stands : goal.returns-in-Within-clause-stands
returns-in-Within-clause-stands g c = λ told ends linkage spells is_child.
    let is = stands_by spells c.args.child _ _ c.in-Within.is is_child (c.in_ok-standing.ensures.says told) in
    ((λ yes. record { parent = c.in-Within.parent; before = is.before; after = is.after; is = is.is }), (λ there. refl))

pub returns-in-Outside-clause-stands : goal.returns-in-Outside-clause-stands
returns-in-Outside-clause-stands g c = λ told ends linkage spells is_child.
    let outside = stands_by spells c.args.child _ _ c.in-Outside.is is_child (c.in_ok-standing.ensures.says told) in
    ((λ yes. absurd (cc)), (λ there. absurd (outside there)))
