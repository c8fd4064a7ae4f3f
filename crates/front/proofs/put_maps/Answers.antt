use Rattle.laws.specs.Writes.{wrote_to}
use native.Mathlib.Omega.{arith}
use Rattle.memory.specs.Places.{bool_map}
use Rattle.front.proofs.Words.{maps_done, copied_is, copied_part}
use Rattle.front.proofs.put_maps.Goals as goal

pub returns : goal.returns
returns c = maps_done _ _ _ c.requires.3 (wrote_to (copied_is c.args.work.now 0 _ (omega (arith, c.requires))) c.put_all-a.ensures) (copied_part _ bool_map c.args.bools (omega (arith, c.requires)) c.put_all-b.ensures) c.put_words.ensures
