-- Computed cases of reading: the last line, its values. Assumes nothing.
use Rattle.std.specs.Prelude.{◌≡◌, refl, [], ◌∷◌}
use Rattle.std.proofs.Math.Option.{none, some}
use Rattle.roster.specs.RosterText.{last_feed, values_of}

-- none; the whole line; behind the second of two
no_feed : last_feed (65 ∷ 66 ∷ []) ≡ 0
unfolding last_feed
no_feed = refl

two_feeds : last_feed (10 ∷ 65 ∷ 10 ∷ 66 ∷ []) ≡ 3
unfolding last_feed
two_feeds = refl

no_key : values_of none ≡ none
unfolding values_of
no_key = refl

no_values : values_of (some []) ≡ some []
unfolding values_of
no_values = refl
