-- The answer's words in front of the records, by the work slice: fixed values, maps, two counts. They are the definition's where the maps are (`front_is`).
use Rattle.std.specs.Prelude.{List, [], ◌∷◌, ◌++◌, ℕ, zero, suc, ℤ, pos, get_or}
use Rattle.laws.specs.Lists.{from}
use Rattle.memory.specs.Places.{bool_map, int_map}
use Rattle.memory.specs.Number.{nat}
use Rattle.walk.specs.declared.Counters.{Counters}

-- n words from a place on, 0 for a negative one
unfoldable pub naturals : List ℤ → ℕ → ℕ → List ℤ
naturals w from zero = []
naturals w from (suc n) = pos (nat (get_or w from (pos 0))) ∷ naturals w (suc from) n

-- n words from a place on, as they are
unfoldable pub copied : List ℤ → ℕ → ℕ → List ℤ
copied w from zero = []
copied w from (suc n) = get_or w from (pos 0) ∷ copied w (suc from) n

-- the fixed values and the two maps
abbrev pub maps_words : List ℤ → ℕ → ℕ → List ℤ
maps_words w bools ints = copied w 0 bools ++ (copied w bool_map bools ++ naturals w int_map ints)

-- c: how many numbers are emitted
abbrev pub front_words : List ℤ → ℕ → ℕ → Counters → List ℤ
front_words w bools ints c = maps_words w bools ints ++ (pos c.bools ∷ pos c.ints ∷ [])

-- ---- they are the definition's
