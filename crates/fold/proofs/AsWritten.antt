-- What folding leaves as it is: a comparison stays a comparison, whatever its sides; a sum of two or more terms stays
-- a sum of as many, its constants not added up. What requiring leaves as it is: an Or required true, an And required false. Assumes nothing.
use Rattle.std.specs.Prelude.{◌≡◌, refl, true, false, List, ℤ}
use Rattle.syntax.specs.Syntax.{Domain, CmpOp, IntExpr, Linear, Terms, tmore, And, Or, Cmp, Members}
use Rattle.fold.specs.Fold.{Fixed, constant_folding_int as fold-int, constant_folding_terms as fold-terms, constant_folding_bool as fold}
use Rattle.fold.specs.Optimize.{updated, constant_prop_bool as prop}

pub comparison_stays : (ds : List Domain) (f : Fixed) (o : CmpOp) (a b : IntExpr) → fold ds f (Cmp o a b) ≡ Cmp o (fold-int ds f a) (fold-int ds f b)
unfolding fold
comparison_stays ds f o a b = refl

pub sum_stays : (ds : List Domain) (f : Fixed) (k l : ℤ) (d e : IntExpr) (ts : Terms) → fold-int ds f (Linear (tmore k d (tmore l e ts))) ≡ Linear (fold-terms ds f (tmore k d (tmore l e ts)))
unfolding fold-int
sum_stays ds f k l d e ts = refl

pub or_fixes_none : (ms : Members) (f : Fixed) → prop (Or ms) true f ≡ updated false f
unfolding prop
or_fixes_none ms f = refl

pub and_fixes_none : (ms : Members) (f : Fixed) → prop (And ms) false f ≡ updated false f
unfolding prop
and_fixes_none ms f = refl
