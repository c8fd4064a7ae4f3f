use Rattle.fold.proofs.TableLaws.{packed_right}
use Rattle.folding.proofs.packed_action.Goals as goal

pub returns : goal.returns
returns c = λ o x y p q r. rw (p, q, r) (packed_right o x y)
