-- How many entries the images of a session may have.
use Rattle.std.specs.Prelude.{ℕ, Bool, true, false, Option}
use Rattle.rss_session.specs.Sessions.{SessionView, most_in}
use Rattle.rss_session.specs.Weighing.{most_with, saved_most}

-- as it is, or behind a checkpoint
abbrev pub most_at : SessionView → Bool → ℕ → ℕ
most_at view false number = most_in view number
most_at view true number = saved_most view number

-- with a change more where it is one of a tuple: of the relation of this number
abbrev pub most_by : SessionView → Bool → Option ℕ → ℕ → ℕ
most_by view saved number other = most_with number (most_at view saved) other
