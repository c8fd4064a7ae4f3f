-- A rule that ties two variables which have literals takes no number in the first walk with Ifs: the state stays (`known_stays`), so that it need not be
-- walked where merging was chosen. F: the folded words.
use Rattle.std.specs.Prelude.{◌≡◌, refl, ◌⊎◌, true, false, List, [], ◌∷◌, ◌++◌, ℕ, ◌+◌, ◌≤◌, ◌<◌, ℤ}
use Rattle.std.proofs.Common.{sym, ap, ◌∙◌, inl, inr, arith}
use Rattle.std.proofs.lemmas.Bool.{false≢true}
use Rattle.std.proofs.Math.IntN.{pos}
use Rattle.laws.specs.Ints.{is_zero}
use Rattle.laws.specs.Slices.{Has, has_front, has_back, has_rest}
use Rattle.memory.specs.Places.{limit}
use Rattle.syntax.specs.Syntax.{Domain, BoolExpr, Const, Var, NVar, And, Or, Not, Xor, Iff, Imp, Cmp, encode_bool, Rule, encode_stmt}
use Rattle.walk.specs.Item.{bool_at}
use Rattle.walk.specs.Decode.{word}
use Rattle.walks.specs.Tree.{splits, resolve, ties}
use Rattle.walks.specs.Form.{forms}
use Rattle.walks.specs.Item.{tallies, form_items, var_item}
use Rattle.walks.specs.Meet.{State, more_bools, meet_bool, form_meet}
use Rattle.walks.specs.Legal.{Legal, LegalRule, legal_rule}
use Rattle.walks.specs.Rules.{none_more}
use Rattle.statements.specs.Ties.{word_is}
use Rattle.statements.specs.KnownTies.{KnownSides}
use Rattle.stages.specs.StatementsRules.{rule_stage}
use Rattle.stages.specs.StartTies.{side}

met_known : (v : ℕ) (st : State) → is_zero (bool_at st.work v) ≡ false → meet_bool v st ≡ st
unfolding meet_bool
met_known v st h = rw h refl

-- ds: the declared domains, rec: where the records begin, cap: the longest answer; p: where the rule stands
module _ (ds : List Domain) (rec cap p : ℕ) (st : State) (low : st.bools ≤ limit) where
  module _ (x y : ℕ) (h : is_zero (bool_at st.work x) ≡ false) (k : is_zero (bool_at st.work y) ≡ false) where
    abbrev none : State → State
    none = more_bools 0

    -- each side twice, and no new number
    sides_stay : none (none (meet_bool y (meet_bool x (meet_bool y (meet_bool x (none st)))))) ≡ st
    sides_stay =
        let a : meet_bool x st ≡ st = met_known x st h in
        let b : meet_bool y st ≡ st = met_known y st k in
        let c : none st ≡ st = none_more st low in
        ap (λ (s : State). none (none (meet_bool y (meet_bool x (meet_bool y (meet_bool x s)))))) c
        ∙ ap (λ (s : State). none (none (meet_bool y (meet_bool x (meet_bool y s))))) a
        ∙ ap (λ (s : State). none (none (meet_bool y (meet_bool x s)))) b
        ∙ ap (λ (s : State). none (none (meet_bool y s))) a
        ∙ ap (λ (s : State). none (none s)) b
        ∙ ap none c
        ∙ c

    xor_stays : (rule_stage ds rec cap (Xor (Var x) (Var y)) p).part.meet st ≡ st
    unfolding splits resolve ties forms form_meet form_items tallies var_item
    xor_stays = sides_stay

    iff_stays : (rule_stage ds rec cap (Iff (Var x) (Var y)) p).part.meet st ≡ st
    unfolding splits resolve ties forms form_meet form_items tallies var_item
    iff_stays = sides_stay

-- ---- the rule at a place

module _ (ds : List Domain) (rec cap : ℕ) (F : List ℤ) (at : ℕ) (st : State) (low : st.bools ≤ limit) where
  -- both sides are the variables whose words stand there
  both_known : {X : Type 0} (p : ℕ) (a b : BoolExpr) (l : ℕ) → Has F p (encode_bool a ++ encode_bool b) → Legal a l → Legal b l → KnownSides F st.work p
      → ((x y : ℕ) → a ≡ Var x → b ≡ Var y → is_zero (bool_at st.work x) ≡ false → is_zero (bool_at st.work y) ≡ false → X) → X
  unfolding encode_bool
  both_known {X} p a b l k la lb s go =
      side F a l p la (has_front F p (encode_bool a) (encode_bool b) k)
      (λ x u hx. left x u (rw u at k))
      (λ u f. absurd (false≢true (sym f ∙ rw s.first refl)))
    where
      left : (x : ℕ) → a ≡ Var x → Has F p (pos 11 ∷ pos x ∷ encode_bool b) → X
      left x u j =
          let w1 = word_is F (p + 1) x _ (has_back F p (pos 11 ∷ []) _ j) in
          side F b l (p + 2) lb (has_back F p (pos 11 ∷ pos x ∷ []) _ j)
          (λ y v hy.
          let i : Has F p (pos 11 ∷ pos x ∷ pos 11 ∷ pos y ∷ []) = rw v at j in
          let w3 = word_is F (p + 3) y _ (has_back F p (pos 11 ∷ pos x ∷ pos 11 ∷ []) _ i) in
          go x y u v (rw w1 at s.left) (rw w3 at s.right))
          (λ v f. absurd (false≢true (sym f ∙ rw s.second refl)))

  -- a rule of another code
  other : {X : Type 0} (n : ℕ) (us : List ℤ) → Has F at (pos 1 ∷ pos n ∷ us) → n < 15 ⊎ 16 < n → word F (at + 1) ≡ 15 ⊎ word F (at + 1) ≡ 16 → X
  other n us h (inl l) (inl c) = absurd (omega (arith, word_is F (at + 1) n us (has_rest F at (pos 1) _ h)))
  other n us h (inl l) (inr c) = absurd (omega (arith, word_is F (at + 1) n us (has_rest F at (pos 1) _ h)))
  other n us h (inr l) (inl c) = absurd (omega (arith, word_is F (at + 1) n us (has_rest F at (pos 1) _ h)))
  other n us h (inr l) (inr c) = absurd (omega (arith, word_is F (at + 1) n us (has_rest F at (pos 1) _ h)))

  pub known_stays : (e : BoolExpr) → LegalRule e 64 → Has F at (encode_stmt (Rule e)) → word F (at + 1) ≡ 15 ⊎ word F (at + 1) ≡ 16 → KnownSides F st.work (at + 2) → (rule_stage ds rec cap e (at + 1)).part.meet st ≡ st
  unfolding encode_stmt encode_bool Legal
  known_stays (Const b) x h c s = other 10 _ h (inl (omega arith)) c
  known_stays (Var v) x h c s = other 11 _ h (inl (omega arith)) c
  known_stays (NVar n) (legal_rule x) h c s = absurd x
  known_stays (And ms) x h c s = other 12 _ h (inl (omega arith)) c
  known_stays (Or ms) x h c s = other 13 _ h (inl (omega arith)) c
  known_stays (Not e) x h c s = other 14 _ h (inl (omega arith)) c
  known_stays (Xor a b) (legal_rule x) h c s = both_known (at + 2) a b 63 (has_back F at (pos 1 ∷ pos 15 ∷ []) _ h) x.1 x.2 s (λ v w p q i j. rw (p, q) (xor_stays ds rec cap (at + 1) st low v w i j))
  known_stays (Iff a b) (legal_rule x) h c s = both_known (at + 2) a b 63 (has_back F at (pos 1 ∷ pos 16 ∷ []) _ h) x.1 x.2 s (λ v w p q i j. rw (p, q) (iff_stays ds rec cap (at + 1) st low v w i j))
  known_stays (Imp a b) x h c s = other 17 _ h (inr (omega arith)) c
  known_stays (Cmp o a b) x h c s = other 18 _ h (inr (omega arith)) c
