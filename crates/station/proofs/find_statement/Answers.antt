use native.Mathlib.Omega.{arith}
use Rattle.station.proofs.JoinNumbers.{small_fits, place_small, returns_place}
use Rattle.station.proofs.find_statement.Goals as goal

pub overflow_sub-words : goal.overflow_sub-words
overflow_sub-words c = (place_small _ _ c.args.place.now _ _ _ _ c.find_place-p.ensures).0

pub store_number-requires : goal.store_number-requires
store_number-requires c = let q = place_small _ _ c.args.place.now _ _ _ _ c.find_place-p.ensures in omega (arith, q.2)

pub store_number-requires-2 : goal.store_number-requires-2
store_number-requires-2 c = let q = place_small _ _ c.args.place.now _ _ _ _ c.find_place-p.ensures in omega (arith, q.0, q.1)

pub store_number-requires-3 : goal.store_number-requires-3
store_number-requires-3 c = let q = place_small _ _ c.args.place.now _ _ _ _ c.find_place-p.ensures in omega (arith, q.0, q.1)

pub overflow_cast-result : goal.overflow_cast-result
overflow_cast-result c = let q = place_small _ _ c.args.place.now _ _ _ _ c.find_place-p.ensures in small_fits _ (omega (arith, q.2))

pub returns : goal.returns
returns c = returns_place c.args.first.now c.args.second.now c.args.place.now c.args.work.now _ c.args.number _ c.find_place-p.ensures _ _ _ _ c.clear.ensures c.store_number.ensures.0 c.store_number-2.ensures.0 c.store_number-3.ensures.0
