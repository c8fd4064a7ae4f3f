-- The first walk over trees whose clauses are added one after another: it leaves the state of the log behind them (`registers_visit`). The second walk
-- is in Written, both over a whole rule in Rule.
use Rattle.std.specs.Prelude.{◌≡◌, refl, Bool, List, ◌∷◌, ℕ, ◌+◌, ◌≤◌, ◌<◌, ℤ}
use Rattle.std.proofs.Common.{ap, subst, arith}
use Rattle.std.proofs.Math.Option.{Option}
use Rattle.memory.specs.Places.{limit}
use Rattle.syntax.specs.Syntax.{Domain, IntExpr}
use Rattle.clauses.specs.Clause.{Clause}
use Rattle.clauses.specs.Log.{added, Log, get_bool_var, get_int_var, get_if, made_ints}
use Rattle.clauses.proofs.Since.{here, over}
use Rattle.clauses.specs.Normalize.{register}
use Rattle.walk.specs.Item.{bump}
use Rattle.walk.proofs.Grow.{grow_added}
use Rattle.walks.specs.Tree.{Trees, nil, cons, run, registers}
use Rattle.walks.specs.Form.{form}
use Rattle.walks.specs.Placed.{Placed}
use Rattle.walks.specs.Meet.{form_meet, State, more_bools, meet, meets}
use Rattle.walks.specs.Grow.{registers_grow}
use Rattle.walks.specs.Implements.{Proper, Propers}
use Rattle.walks.specs.Written.{PlacedRegisters}
use Rattle.walks.specs.Plain.{PlainInt}
use Rattle.walks.specs.Constant.{Named}
use Rattle.walks.specs.Cells.{Places}
use Rattle.walks.specs.Good.{Quiet, Good, good_quiet}
use Rattle.walks.specs.Leaves.{Leafy, Leafies, weights, words_of, grows_words}
use Rattle.walks.specs.Visit.{meets_spends, same_later, Outcome, full, good, outcome_then}
use Rattle.walks.specs.Walked.{fixed, Facts, FactsAll, visit}

-- the log of added clauses
added_quiet : (ds : List Domain) (cs : List Clause) (s : Log) → Quiet (Named ds) s (added cs ∷ s) 0
unfolding get_bool_var get_int_var get_if made_ints
added_quiet ds cs s = record { bools = omega arith; ints = refl; keep = λ v. refl; keep_int = λ v. refl; ifs = λ e. refl; made = refl; top = over (added cs) here; named = λ n. (tt, n) }

pub none_more : (st : State) → st.bools ≤ limit → more_bools 0 st ≡ st
none_more st h = go (bump st.bools 0) (omega arith)
  where
    go : (b : ℕ) → b ≡ st.bools → record { work = st.work; out = st.out; bools = b; ints = st.ints; used = st.used } ≡ st
    go b e = ap (λ x. record { work = st.work; out = st.out; bools = x; ints = st.ints; used = st.used }) e

module _ (ds : List Domain) (F : List ℤ) (parted : ℕ → Bool) (K : ℕ → Option IntExpr) (rec cap : ℕ) (with_ifs : Bool) (before : List ℤ) (P : Places ds F PlainInt parted K (fixed ds)) (low : cap < limit) where
  abbrev GoodAt : ℕ → State → Log → Type 0
  GoodAt = Good ds F PlainInt parted K (fixed ds) rec cap with_ifs before (Named ds)

  abbrev OutcomeAt : ℕ → ℕ → (List ℤ → Type 0) → State → State → Log → Type 0
  OutcomeAt = Outcome ds F PlainInt parted K (fixed ds) rec cap with_ifs before (Named ds)

  pub good_added : (cs : List Clause) (n : ℕ) (st : State) (s : Log) → GoodAt n st s → GoodAt n st (added cs ∷ s)
  good_added cs n st s g = subst (λ (x : State). GoodAt n x (added cs ∷ s)) (none_more st (omega (arith, g.room))) (good_quiet ds F PlainInt parted K (fixed ds) rec cap with_ifs before (Named ds) P 0 n st s (added cs ∷ s) (added_quiet ds cs s) (subst (λ m. GoodAt m st s) (omega arith) g))

  added_outcome : (cs : List Clause) (k n : ℕ) (A : List ℤ → Type 0) (st st' : State) (s : Log) → OutcomeAt k n A st st' s → OutcomeAt k n A st st' (added cs ∷ s)
  added_outcome cs k n A st st' s (full x y) = full x (omega (arith, y, grows_words (grow_added cs s)))
  added_outcome cs k n A st st' s (good g u r p) = good (good_added cs n st' s g) (omega (arith, u, grows_words (grow_added cs s))) r p

  pub registers_visit : (ts : Trees) → Propers ts → Leafies ts → FactsAll ds F parted K rec cap with_ifs before P low ts → (k n : ℕ) (st : State) (s : Log) → GoodAt (weights ds ts + n) st s → st.used ≤ words_of s + k
      → OutcomeAt k n (λ w. PlacedRegisters w ds ts s) st (meets ds rec cap ts st) (registers ds ts s)
  unfolding Proper Leafy Facts form_meet form registers register PlacedRegisters weights
  registers_visit nil p l f k n st s g u = good (subst (λ m. GoodAt m st s) (omega arith) g) u (same_later ds F PlainInt parted K (fixed ds) st.work) (λ w l. tt)
  registers_visit (cons t ts) p l f k n st s g u =
      let x = visit ds F parted K rec cap with_ifs before P low t p.0 l.0 f.0 k (weights ds ts + n) st s (subst (λ m. GoodAt m st s) (omega arith) g) u in
      let y = added_outcome (run ds t s).0 k (weights ds ts + n) (λ w. Placed w ds t s) st (meet ds rec cap t st) (run ds t s).1 x in
      outcome_then ds F PlainInt parted K (fixed ds) rec cap with_ifs before (Named ds) k (weights ds ts + n) n (λ w. Placed w ds t s) (λ w. PlacedRegisters w ds ts (register (run ds t s))) st (meet ds rec cap t st) (meets ds rec cap ts (meet ds rec cap t st)) (register (run ds t s)) (registers ds ts (register (run ds t s)))
      (λ h. meets_spends ds rec cap ts (meet ds rec cap t st) h) (grows_words (registers_grow ds ts (register (run ds t s)))) y (λ g' u'. registers_visit ts p.1 l.1 f.1 k n (meet ds rec cap t st) (register (run ds t s)) g' u')
