-- What a work slice w says of the Ifs of a tree whose run starts at a log: that there are Ifs, each one's number by its place, whether it was known before or
-- is made by the run; what stands inside a known one is not visited. Given this and the maps, the second walk finds every number again (`Implements`).
use Rattle.std.specs.Prelude.{◌≡◌, Bool, true, false, ◌&&◌, List, ◌∷◌, ℕ, ◌+◌, ◌<◌, ℤ}
use Rattle.std.proofs.Math.Option.{Option, none, some}
use Rattle.syntax.specs.Syntax.{IfIsRead, Domain, lower_bound, upper_bound, IntExpr}
use Rattle.sums.specs.LinearSum.{LinearSum, is_constant}
use Rattle.clauses.specs.Log.{side, chosen, bool, int, Log, next_int, get_if}
use Rattle.clauses.proofs.Emitted.{domain_at}
use Rattle.clauses.specs.Normalize.{hull, domain_of_sum}
use Rattle.walks.specs.Tree.{own_var, Place, Tree, var, num, cmp, conj, disj, cross, tied, Trees, nil, cons, IntTree, const, ivar, sum, choice, TermTrees, none as no_terms, term, condition_of, run, runs, run_int}
use Rattle.walks.specs.Item.{has_ifs, cell, Seen, unseen, both_constant, numbered, seen}

abbrev pub HasNumber : Seen → ℕ → Type 0
HasNumber unseen v = ⊥
HasNumber both_constant v = ⊥
HasNumber (numbered u b) v = u ≡ v

module _ (w : List ℤ) where
  -- the number and the bounds at an If's place
  pub record Numbered (p : Place) (v : ℕ) (d : Domain) : Type 0 where
    pub number : HasNumber (seen w p) v
    pub low : cell w (p.at + 2) ≡ lower_bound d
    pub high : cell w (p.at + 3) ≡ upper_bound d

  -- a condition that is a declared variable is not visited
  abbrev pub Visited : Option ℕ → Type 0 → Type 0
  Visited (some v) A = Unit {0}
  Visited none A = A

  abbrev pub Either : Bool → Type 0 → Type 0 → Type 0
  Either true A B = A
  Either false A B = B

  module _ (ds : List Domain) where
    -- known before, or made: then A
    abbrev pub Known : Option ℕ → Place → Log → Type 0 → Type 0
    Known (some v) p s A = (v < next_int s) × Numbered p v (domain_at ds s v)
    Known none p s A = A

    -- the log behind the new integer of an If with branches l and m
    abbrev pub opened : IfIsRead → IntExpr → LinearSum → LinearSum → Log → Log
    opened i e l m s = int (chosen i e l m (hull (domain_of_sum ds s l) (domain_of_sum ds s m))) ∷ s

    abbrev pub either_domain : LinearSum → LinearSum → Log → Domain
    either_domain l m s = hull (domain_of_sum ds s l) (domain_of_sum ds s m)

    unfoldable mutual
      pub Placed : Tree → Log → Type 0
      Placed (var v g) = λ s. Unit {0}
      Placed (num n g) = λ s. Unit {0}
      Placed (cmp o a b g) = λ s. PlacedInt a s × PlacedInt b (run_int ds a s).1
      Placed (conj ts) = PlacedAll ts
      Placed (disj ts) = PlacedAll ts
      Placed (cross ts us) = λ s. PlacedAll ts s × PlacedAll us (runs ds ts s).1
      Placed (tied v t u) = λ s. Placed t s × Placed u (run ds t s).1

      pub PlacedAll : Trees → Log → Type 0
      PlacedAll nil = λ s. Unit {0}
      PlacedAll (cons t ts) = λ s. Placed t s × PlacedAll ts (run ds t s).1

      pub PlacedInt : IntTree → Log → Type 0
      PlacedInt (const c) = λ s. Unit {0}
      PlacedInt (ivar v) = λ s. Unit {0}
      PlacedInt (sum ts) = PlacedTerms ts
      PlacedInt (choice i p e c d t f) = λ s.
          let a = run_int ds t s in
          let b = run_int ds f a.1 in
          let x = bool (side (condition_of e)) ∷ b.1 in
          let y = opened i e a.0 b.0 b.1 in
          (has_ifs w ≡ true) × Known (get_if e s) p s (
          PlacedInt t s × PlacedInt f a.1 ×
          Either (is_constant a.0 && is_constant b.0)
          ((seen w p ≡ both_constant) × Visited (own_var (condition_of e)) (Placed d x × Placed c (run ds d x).1))
          (Numbered p (next_int b.1) (either_domain a.0 b.0 b.1) × Placed c y × Placed d (run ds c y).1)
          )

      pub PlacedTerms : TermTrees → Log → Type 0
      PlacedTerms no_terms = λ s. Unit {0}
      PlacedTerms (term k e ts) = λ s. PlacedInt e s × PlacedTerms ts (run_int ds e s).1
