-- The values' clauses where some are used up, and the statement's: its pairs', then its values'. Assumes nothing.
use mathlib.Core.Path.{sym, ap}
use mathlib.Core.List.{List, map, ◌++◌}
use Rattle.std.specs.Prelude.{None}
use Prim.Native.Nat.{ℕ}
use native.Mathlib.Omega.{arith}
use lib.IntN.{ℤ}
use lib.ListN.{length-map}
use Rattle.different.specs.Different.{values_used_up}
use Rattle.walk.specs.declared.Counters.{Counters}
use Rattle.rows.specs.Emit.{clauses_words, Behind}
use Rattle.rows.proofs.Looping.{clauses_none, clauses_to}
use Rattle.statements.specs.Different.{value_clause}
use Rattle.differing.specs.Rows.{pairs_words, pair_count, PutPairs}
use Rattle.differing.specs.Values.{Used, UsedAt, PutEach, PutValues}
use Rattle.differing.specs.Different.{different_words, different_lines, PutDifferent}
use Rattle.differing.proofs.Loops.{puts_then, puts_to, puts_clauses}

module _ {set w : List ℤ} {at count : ℕ} where
  pub values_none : Used set w at count None → {out : List ℤ} {o k : ℕ} → Behind out o k → PutValues set w at count out o k out o k
  values_none h b = record { clauses = λ ds es v. clauses_to (ap (map (value_clause w es)) (sym (h ds es v))) (clauses_none b); behind = b }

  pub values_each : {d : ℕ} → UsedAt set w at count d → {out out' : List ℤ} {o k o' k' : ℕ} → PutEach set w at count d out o k out' o' k' → PutValues set w at count out o k out' o' k'
  values_each u p = record {
    clauses = λ ds es v.
        let l = u.values ds es v in
        clauses_to (ap (map (value_clause w es)) (sym l.is)) (p.clauses es l.domain v.standing l.sized);
    behind = p.behind;
  }

  pub different_wrote : {n : Counters} {out a out' : List ℤ} {o k p c o' k' : ℕ} → Behind out o k → PutPairs w n at count out o k a p c → PutValues set w at count a p c out' o' k' → PutDifferent set w n at count out o k out' o' k'
  unfolding different_words different_lines
  different_wrote {n} {o = o} b x y = record {
    puts = λ ds es v.
        let r = puts_then b.room.room (x.puts ds) (puts_clauses (y.clauses ds es v)) in
        puts_to (ap (λ i. pairs_words w n ds at i ++ clauses_words (map (value_clause w es) (values_used_up ds es))) v.standing.counted) (omega (arith, ap pair_count v.standing.counted, length-map (values_used_up ds es) (value_clause w es))) r;
    behind = y.behind;
  }
