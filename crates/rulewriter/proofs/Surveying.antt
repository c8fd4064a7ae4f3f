-- What a survey finds of an expression, by the words in which the walks give it.
use mathlib.Core.Path.{◌≡◌, ◌∙◌}
use mathlib.Core.Bool.{Bool, true, false}
use mathlib.Core.List.{List}
use Prim.Native.Nat.{ℕ, ◌-◌, ◌≤◌}
use lib.IntN.{ℤ}
use lib.ListN.{length}
use Rattle.memory.specs.Places.{folded_end}
use Rattle.walk.specs.Decode.{word, read_part, surveyed, closed_disj}
use Rattle.walk.specs.declared.Counters.{Counters}
use Rattle.walk.specs.declared.Node.{Node}
use Rattle.walk.specs.declared.Node.TheVariants.{Var, Cmp, Join}
use Rattle.walk.specs.declared.Surveyed.{Surveyed}
use Rattle.walks.specs.Tree.{Splitting, inner}
use Rattle.walks.specs.Item.{meets_bool}
use Rattle.walks.specs.Decode.{node_of}
use Rattle.scan.specs.IfLaws.{Low}
use Rattle.scan.specs.Skip.{split_by, Skips}
use Rattle.scan.specs.SurveyLaws.{scanned, single_of, joined_of, Surveys, SurveysAll, IntSurveys, survey_none as none-law, survey_var as var-law, survey_cmp as cmp-law, survey_join as join-law}
use Rattle.scan.specs.declared.Behind.{Behind}
use Rattle.scan.specs.declared.Scanned.{Scanned}

module _ (w : List ℤ) (size : folded_end ≤ length w) (l : ℕ) (m : Splitting) (g : Bool) (at base : ℕ) (n : Counters) (inside : at ≤ folded_end) (low : Low n) where
  pub survey_none : (r : Scanned) → l ≡ 0 → Skips (read_part w) l m at base at base → r ≡ scanned (surveyed at base n.bools 0 0 0 0 1) n.ints → Surveys w l m g at base n r
  unfolding single_of
  survey_none r e s f = none-law w size l m g at base n inside low r e s f

  module _ (u : ℕ) (z : l ≡ 0 → ⊥) (hu : u ≡ l - 1) where
    abbrev Asks : Node → Type 0
    Asks N = N ≡ node_of (read_part w) g at (word (read_part w) at)

    pub survey_var : (r : Scanned) (v q : ℕ) (k : Counters) → Asks (Var v q) → Skips (read_part w) l m at base q base → k ≡ meets_bool w v n → r ≡ scanned (surveyed q base k.bools 0 1 0 0 1) k.ints → Surveys w l m g at base n r
    unfolding single_of
    survey_var r v q k e s f i = var-law w size l m g at base n inside low u z hu r v q k e s f i

    pub survey_cmp : (r : Scanned) (o e j : ℕ) (x y : Behind) → Asks (Cmp o e) → split_by j ≡ inner m → IntSurveys w u (split_by j) e base n x → IntSurveys w u (split_by j) x.at x.base x.n y → Skips (read_part w) l m at base y.at y.base
        → r ≡ scanned (surveyed y.at y.base y.n.bools 0 0 1 0 1) y.n.ints → Surveys w l m g at base n r
    unfolding single_of
    survey_cmp r o e j x y i hj f h s k = cmp-law w size l m g at base n inside low u z hu r o e j x y i hj f h s k

    pub survey_conj : (r s : Scanned) (k : ℕ) (a b : Bool) (q : ℕ) → Asks (Join false k a b q) → SurveysAll w u m k a b q base n s → Skips (read_part w) l m at base s.part.at s.part.base
        → r ≡ scanned (surveyed s.part.at s.part.base s.part.n 1 0 0 s.part.all s.part.all) s.ints → Surveys w l m g at base n r
    unfolding joined_of
    survey_conj r s k a b q e x v i = join-law w size l m g at base n inside low u z hu r s false k a b q e x v i

    pub survey_disj : (r s : Scanned) (p : Surveyed) (k : ℕ) (a b : Bool) (q : ℕ) → Asks (Join true k a b q) → SurveysAll w u m k a b q base n s → Skips (read_part w) l m at base s.part.at s.part.base → p ≡ closed_disj s.part → r ≡ scanned p s.ints
        → Surveys w l m g at base n r
    unfolding joined_of
    survey_disj r s p k a b q e x v i j = join-law w size l m g at base n inside low u z hu r s true k a b q e x v (j ∙ rw i)
