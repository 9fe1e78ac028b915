use Rattle.std.proofs.Math.Logic.{∥∥₁_map}
use Rattle.rss_link.proofs.Meaning.{says_some, stands_by, parent_within, parent_outside}
use Rattle.rss_link.proofs.link.Chains.parent.Goals as goal

pub standing-requires : goal.standing-requires
standing-requires g c = record { heaps = c.requires.heaps; some = λ told. ∥∥₁_map (c.requires.knows told) (λ knows. says_some knows.spells c.args.child knows.is_child) }

pub returns-in-Within-clause-parent : goal.returns-in-Within-clause-parent
returns-in-Within-clause-parent g c = λ told ends linkage spells is_child.
    parent_within spells.chains c.args.child c.in-Within.parent c.in-Within.previous c.in-Within.next (stands_by spells c.args.child _ _ c.in-Within.is is_child (c.in_ok-parent.ensures.says told))

pub returns-in-Outside-clause-parent : goal.returns-in-Outside-clause-parent
returns-in-Outside-clause-parent g c = λ told ends linkage spells is_child.
    parent_outside linkage.lists c.args.child (stands_by spells c.args.child _ _ c.in-Outside.is is_child (c.in_ok-parent.ensures.says told))
