-- The consequences of demand 3, from the claim and the meaning of statements alone: joined lists, Not, Or.
use Rattle.std.specs.Prelude.{◌≡◌, ◌↔◌, ◌⊎◌, Bool, false, not, ◌&&◌, ◌||◌, List, [], ◌∷◌, ◌++◌, ◌<◌, length}
use Rattle.std.proofs.Math.Path.{refl, sym}
use Rattle.std.proofs.Common.{◌∙◌, arith}
use Rattle.std.proofs.Math.Logic.{inl, inr}
use Rattle.std.proofs.Math.Bool.{true}
use Rattle.std.proofs.lemmas.Bool.{false≢true}
use Rattle.laws.specs.Bools.{and_l, and_r, and_i, or_l, or_r, or_pick}
use Rattle.laws.specs.Lists.{all, all_below, below_all, all_append}
use Rattle.syntax.specs.Syntax.{domain_of, in_domain, BoolExpr, Not, Or, Members, Stmt, Rule, Problem}
use Rattle.syntax.specs.Satisfies.{Val, IVal, holds, holds_any, stmt_holds, in_domains, satisfies}
use Rattle.call.specs.Claim.{within, satisfied, Exact, SameVariables, Called, PassedBy, CalledEach, no_call, one_more, PassedBySome, Consequences}

-- an assignment in the domains of p is in those of a set with the same variables
same_domains : (p q : Problem) (ε : IVal) → SameVariables p q → in_domains p ε ≡ true → in_domains q ε ≡ true
unfolding in_domains
same_domains p q ε s h =
    below_all (λ v. in_domain (ε v) (domain_of q.domains v)) (length q.domains)
    (λ v k. let l : v < length p.domains = omega (arith, s.ints) in s.values v (ε v) l ∙ all_below (λ v. in_domain (ε v) (domain_of p.domains v)) (length p.domains) v h l)

module _ (exact : Exact) (p : Problem) (δ : Val) (ε : IVal) (h : in_domains p ε ≡ true) where
  abbrev all_hold : List Stmt → Bool
  all_hold = all (stmt_holds δ ε (λ n. false))

  -- a call is passed exactly if its statements hold
  passed_holds : (ss : List Stmt) (c : Called p ss) → (all_hold ss ≡ true) ↔ PassedBy δ ε c
  unfolding within satisfied satisfies
  passed_holds ss c =
      let w : within c.set ε ≡ true = rw c.read (same_domains p c.says ε c.same h) in
      let e : satisfied c.set δ ε ≡ all_hold ss = rw (c.read, c.states) refl in
      let x = exact c.choices c.set c.out_length c.work_length c.answered δ ε w in
      (λ k. x.0 (e ∙ k), λ k. sym e ∙ x.1 k)

  both_pass : (ss ts : List Stmt) (a : Called p ss) (b : Called p ts) (c : Called p (ss ++ ts)) → PassedBy δ ε c ↔ (PassedBy δ ε a × PassedBy δ ε b)
  both_pass ss ts a b c =
      let e : all_hold (ss ++ ts) ≡ all_hold ss && all_hold ts = all_append (stmt_holds δ ε (λ n. false)) ss ts in (
        λ k. let j = sym e ∙ (passed_holds (ss ++ ts) c).1 k in ((passed_holds ss a).0 (and_l (all_hold ss) (all_hold ts) j), (passed_holds ts b).0 (and_r (all_hold ss) (all_hold ts) j)),
        λ k. (passed_holds (ss ++ ts) c).0 (e ∙ and_i (all_hold ss) (all_hold ts) ((passed_holds ss a).1 k.0) ((passed_holds ts b).1 k.1)),
      )

  -- a set of one rule
  abbrev truth : BoolExpr → Bool
  truth = holds δ ε (λ n. false)

  and-true : (a : Bool) → a && true ≡ a
  and-true true = refl
  and-true false = refl

  rule_holds : (e : BoolExpr) → all_hold (Rule e ∷ []) ≡ truth e
  unfolding stmt_holds
  rule_holds e = and-true (truth e)

  passed_rule : (e : BoolExpr) (c : Called p (Rule e ∷ [])) → (truth e ≡ true) ↔ PassedBy δ ε c
  passed_rule e c = (λ k. (passed_holds (Rule e ∷ []) c).0 (rule_holds e ∙ k), λ k. sym (rule_holds e) ∙ (passed_holds (Rule e ∷ []) c).1 k)

  not-true : {X : Type 0} (a : Bool) → not a ≡ true → a ≡ true → X
  not-true true h k = absurd (false≢true h)
  not-true false h k = absurd (false≢true k)

  is_not : (a : Bool) → (a ≡ true → ⊥) → not a ≡ true
  is_not true h = absurd (h refl)
  is_not false h = refl

  not_passes : (e : BoolExpr) (a : Called p (Rule e ∷ [])) (c : Called p (Rule (Not e) ∷ [])) → PassedBy δ ε c ↔ (PassedBy δ ε a → ⊥)
  unfolding holds
  not_passes e a c = (
    λ k l. not-true (truth e) ((passed_rule (Not e) c).1 k) ((passed_rule e a).1 l),
    λ k. (passed_rule (Not e) c).0 (is_not (truth e) (λ l. k ((passed_rule e a).0 l))),
  )

  any_passes : {ms : Members} (cs : CalledEach p ms) → (holds_any δ ε (λ n. false) ms ≡ true) ↔ PassedBySome δ ε cs
  unfolding holds
  any_passes no_call = (λ k. absurd (false≢true k), λ k. absurd k)
  any_passes (one_more {e} {ms} c cs) = (
    λ k. or_pick (truth e) (holds_any δ ε (λ n. false) ms) k (λ j. inl ((passed_rule e c).0 j)) (λ j. inr ((any_passes cs).0 j)),
    λ k. some_passes e ms (PassedBy δ ε c) (PassedBySome δ ε cs) (passed_rule e c).1 (any_passes cs).1 k,
  )
    where
      some_passes : (e : BoolExpr) (ms : Members) (X Y : Type 0) → (X → truth e ≡ true) → (Y → holds_any δ ε (λ n. false) ms ≡ true) → X ⊎ Y → truth e || holds_any δ ε (λ n. false) ms ≡ true
      some_passes e ms X Y f g (inl x) = or_l (truth e) (holds_any δ ε (λ n. false) ms) (f x)
      some_passes e ms X Y f g (inr y) = or_r (truth e) (holds_any δ ε (λ n. false) ms) (g y)

  or_passes : (ms : Members) (cs : CalledEach p ms) (c : Called p (Rule (Or ms) ∷ [])) → PassedBy δ ε c ↔ PassedBySome δ ε cs
  unfolding holds
  or_passes ms cs c = (λ k. (any_passes cs).0 ((passed_rule (Or ms) c).1 k), λ k. (passed_rule (Or ms) c).0 ((any_passes cs).1 k))

pub consequences : Exact → Consequences
consequences exact = record {
  joined = λ p ss ts a b c δ ε h. both_pass exact p δ ε h ss ts a b c;
  negated = λ p e a c δ ε h. not_passes exact p δ ε h e a c;
  either = λ p ms cs c δ ε h. or_passes exact p δ ε h ms cs c;
}
