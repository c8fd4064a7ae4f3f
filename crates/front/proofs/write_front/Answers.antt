use Rattle.front.proofs.Words.{count_fits, front_done}
use Rattle.front.proofs.write_front.Goals as goal

pub put_maps-a-requires : goal.put_maps-a-requires
put_maps-a-requires c = c.requires.0

pub overflow_cast-x : goal.overflow_cast-x
overflow_cast-x c = count_fits _ c.requires.1.0

pub overflow_cast-y : goal.overflow_cast-y
overflow_cast-y c = count_fits _ c.requires.1.1

pub returns : goal.returns
returns c =
    let s = c.requires in
    front_done _ _ _ _ s.0.3 s.1 c.put_maps-a.ensures c.put-b.ensures c.put.ensures
