-- Expressions without Ifs: splitting takes no number of them, and they have no extras. Assumes nothing.
use Rattle.std.specs.Prelude.{◌≡◌, refl, List, ◌∷◌, ◌++◌, ℕ, ◌+◌, ◌-◌, ◌≤◌, ℤ, pos, length}
use Rattle.std.proofs.Common.{arith, length-append}
use Rattle.laws.specs.Slices.{Has, has_front, has_back, has_rest}
use Rattle.memory.specs.Places.{folded}
use Rattle.syntax.specs.Lengths.{int_long}
use Rattle.syntax.specs.Syntax.{IntExpr, IConst, IVar, Linear, If, Terms, tnil, tmore, count_terms, encode_int, encode_terms}
use Rattle.walks.specs.Tree.{Splitting, nil, splits_int, splits_terms, ties_int, ties_terms}
use Rattle.walks.specs.Legal.{LegalInt, LegalTerms}
use Rattle.stages.specs.LegalKeys.{legal_int_more}
use Rattle.stages.specs.StatementsParts.{NoIfs}

unfoldable mutual
  pub NoIf : IntExpr → Type 0
  NoIf (IConst c) = Unit {0}
  NoIf (IVar v) = Unit {0}
  NoIf (Linear ts) = NoIfTerms ts
  NoIf (If i c t f) = ⊥

  pub NoIfTerms : Terms → Type 0
  NoIfTerms tnil = Unit {0}
  NoIfTerms (tmore k e ts) = NoIf e × NoIfTerms ts

-- where none stands before b, of what is legal within k levels
module _ (F : List ℤ) (b : ℕ) (none : NoIfs F b) where
  mutual
    unfolding NoIf LegalInt encode_int encode_terms

    pub none_int : (e : IntExpr) (k p : ℕ) → k ≤ 64 → LegalInt e k → Has F p (encode_int e) → folded ≤ p → p + length (encode_int e) ≤ b → NoIf e
    none_int (IConst c) k p i g h l m = tt
    none_int (IVar v) k p i g h l m = tt
    none_int (Linear ts) k p i g h l m =
        let d = has_rest F (p + 1) (pos (count_terms ts)) (encode_terms ts) (has_rest F p (pos 22) (pos (count_terms ts) ∷ encode_terms ts) h) in
        none_terms ts (k - 1) (p + 1 + 1) (omega arith) g.1 d (omega arith) (omega arith)
    none_int (If r c t f) k p i g h l m = none p (If r c t f) (tt, legal_int_more (If r c t f) k 64 i g) h l (omega (arith, int_long (If r c t f)))

    none_terms : (ts : Terms) (k p : ℕ) → k ≤ 64 → LegalTerms ts k → Has F p (encode_terms ts) → folded ≤ p → p + length (encode_terms ts) ≤ b → NoIfTerms ts
    none_terms tnil k p i g h l m = tt
    none_terms (tmore c e ts) k p i g h l m =
        let d = has_rest F p c (encode_int e ++ encode_terms ts) h in
        let j = length-append (encode_int e) (encode_terms ts) in
        (none_int e k (p + 1) i g.0 (has_front F (p + 1) (encode_int e) (encode_terms ts) d) (omega arith) (omega (arith, j)), none_terms ts k (p + 1 + length (encode_int e)) i g.1 (has_back F (p + 1) (encode_int e) (encode_terms ts) d) (omega arith) (omega (arith, j)))

mutual
  unfolding NoIf splits_int

  pub no_splits : (e : IntExpr) (m : Splitting) → NoIf e → splits_int e m ≡ 0
  no_splits (IConst c) m h = refl
  no_splits (IVar v) m h = refl
  no_splits (Linear ts) m h = no_splits_terms ts m h
  no_splits (If i c t f) m h = absurd h

  no_splits_terms : (ts : Terms) (m : Splitting) → NoIfTerms ts → splits_terms ts m ≡ 0
  no_splits_terms tnil m h = refl
  no_splits_terms (tmore k e ts) m h = omega (arith, no_splits e m h.0, no_splits_terms ts m h.1)

mutual
  unfolding NoIf ties_int

  pub no_ties : (e : IntExpr) (m : Splitting) (p n : ℕ) → NoIf e → ties_int e m p n ≡ nil
  no_ties (IConst c) m p n h = refl
  no_ties (IVar v) m p n h = refl
  no_ties (Linear ts) m p n h = no_ties_terms ts m (p + 2) n h
  no_ties (If i c t f) m p n h = absurd h

  no_ties_terms : (ts : Terms) (m : Splitting) (p n : ℕ) → NoIfTerms ts → ties_terms ts m p n ≡ nil
  no_ties_terms tnil m p n h = refl
  no_ties_terms (tmore k e ts) m p n h = rw (no_ties e m (p + 1) n h.0, no_ties_terms ts m (p + 1 + length (encode_int e)) (n + splits_int e m) h.1) refl
