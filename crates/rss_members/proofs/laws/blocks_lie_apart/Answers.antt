use Rattle.rss_members.proofs.Apart.{apart_blocks}
use Rattle.rss_members.proofs.laws.blocks_lie_apart.Goals as goal

pub returns : goal.returns
returns c = λ listing bodies tables one other link link_too child child_too spells is is_too off.
    apart_blocks spells one other link link_too child child_too is.at is_too.at is.within is_too.within off
