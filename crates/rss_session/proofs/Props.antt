-- Facts of a session of which any two proofs are equal.
use Rattle.std.proofs.Common.{ℕ, ◌+◌, List, [], ◌∷◌}
use Rattle.std.proofs.Props.{props}
use Rattle.rss_trans.specs.declared.noted.Noted.{Noted}
use Rattle.rss_session.specs.Sessions.{AreRising}

pub AreRising-prop : (low high : ℕ) (notes : List Noted) → IsProp (AreRising low high notes)
AreRising-prop low high [] = hlevel props
AreRising-prop low high (note ∷ notes) =
    let rest = AreRising-prop (note.position + 1) high notes in
    hlevel (props, rest)
