-- A declared integer that was met has a number in the log behind it.
use Rattle.std.specs.Prelude.{◌≡◌, refl, ℕ}
use Rattle.std.proofs.Math.Option.{Option, none, some}
use Rattle.clauses.specs.Log.{Log, get_int_var, int_var_at, convert_int_var}
use Rattle.walk.proofs.Grow.{int_here}

pub var_found : (v : ℕ) (s : Log) → get_int_var v (convert_int_var v s).1 ≡ some (convert_int_var v s).0
unfolding convert_int_var
var_found v s = go (get_int_var v s) refl
  where
    go : (o : Option ℕ) → get_int_var v s ≡ o → get_int_var v (int_var_at o v s).1 ≡ some (int_var_at o v s).0
    go (some n) e = e
    go none e = int_here v s
