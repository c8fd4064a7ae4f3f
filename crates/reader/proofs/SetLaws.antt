-- The counts, domains and statements of a whole set, one after another. Assumes nothing.
use mathlib.Core.Path.{◌≡◌, refl, sym, ap}
use mathlib.Core.List.{List, [], ◌∷◌, map}
use Prim.Native.Nat.{ℕ, ◌+◌, ◌-◌, ◌≤◌}
use native.Mathlib.Omega.{arith}
use lib.IntN.{ℤ}
use lib.ListN.{length, length-append}
use mathlib.Core.Bool.{true, false}
use Rattle.std.specs.Prelude.{Ok, Err}
use Rattle.std.specs.Bool.{◌==◌}
use borrow.Author.Tests.{eqb-true}
use Rattle.laws.specs.Lists.{flat}
use Rattle.laws.specs.Ints.{apart}
use Rattle.syntax.specs.Words.{max_bools, max_ints}
use Rattle.syntax.specs.Syntax.{encode_domain, encode_stmt, Domain}
use Rattle.words.specs.Parse.{Parsed, ok, refuse, times, up_to, count}
use Rattle.words.specs.Exact.{up_to_exact, times_exact}
use Rattle.read.specs.Read.{read_domain, read_stmt, read_set}
use Rattle.read.specs.WellFormed.{WellDomain, WellStmt}
use Rattle.read.proofs.Exact.{domain_exact, stmt_exact}
use Rattle.reader.specs.Position.{passed, set_at}

passed_ok : {A X : Type 0} (x : Parsed A) (r : List ℤ) → ok tt r ≡ passed x → ((a : A) → x ≡ ok a r → X) → X
passed_ok (ok a s) r h go = let e : s ≡ r = cc in go a (ap (ok a) e)
passed_ok (refuse k) r h go = apart (cc)

passed_refused : {A : Type 0} (x : Parsed A) (k : ℕ) → refuse k ≡ passed x → x ≡ refuse k
passed_refused (ok a s) k h = apart (cc)
passed_refused (refuse j) k h = cc

module _ (ws : List ℤ) where
  pub set_no_bools : (k : ℕ) → refuse k ≡ up_to max_bools 4 ws → Err k ≡ set_at (read_set ws)
  unfolding read_set set_at
  set_no_bools k h = rw (← h) refl

  module _ (b : ℕ) (r1 : List ℤ) (hb : ok b r1 ≡ up_to max_bools 4 ws) where
    pub set_no_ints : (k : ℕ) → refuse k ≡ up_to max_ints 4 r1 → Err k ≡ set_at (read_set ws)
    unfolding read_set set_at
    set_no_ints k h = rw (← hb, ← h) refl

    module _ (i : ℕ) (r2 : List ℤ) (hi : ok i r2 ≡ up_to max_ints 4 r1) where
      pub set_no_domains : (k : ℕ) → refuse k ≡ passed (times i read_domain r2) → Err k ≡ set_at (read_set ws)
      unfolding read_set set_at
      set_no_domains k h = rw (← hb, ← hi, passed_refused _ k h) refl

      module _ (r3 : List ℤ) (hd : ok tt r3 ≡ passed (times i read_domain r2)) where
        pub set_no_count : (k : ℕ) → refuse k ≡ up_to 4096 4 r3 → Err k ≡ set_at (read_set ws)
        unfolding read_set set_at count
        set_no_count k h = passed_ok _ r3 hd λ ds e. rw (← hb, ← hi, e, ← h) refl

        module _ (n : ℕ) (r4 : List ℤ) (hn : ok n r4 ≡ up_to 4096 4 r3) where
          -- where the statements start
          starts : (ds : List Domain) → times i read_domain r2 ≡ ok ds r3 → (length ws ≡ 3 + length (flat (map encode_domain ds)) + length r4) × (length ds ≡ i)
          starts ds e =
              let x = (times_exact encode_domain WellDomain read_domain domain_exact i).sound r2 ds r3 e in
              let a = ap length ((up_to_exact max_bools 4).sound ws b r1 (sym hb)).0 in
              let c = ap length ((up_to_exact max_ints 4).sound r1 i r2 (sym hi)).0 in
              let d = ap length ((up_to_exact 4096 4).sound r3 n r4 (sym hn)).0 in
              (omega (arith, a, c, d, ap length x.0, length-append (flat (map encode_domain ds)) r3), x.1.0)

          pub set_fits : length r4 ≤ length ws
          set_fits = passed_ok (times i read_domain r2) r3 hd λ (ds : List Domain) (e : times i read_domain r2 ≡ ok ds r3). omega (arith, (starts ds e).0)

          pub set_no_stmts : (k : ℕ) → refuse k ≡ passed (times n (read_stmt b i) r4) → Err k ≡ set_at (read_set ws)
          unfolding read_set set_at count
          set_no_stmts k h = passed_ok _ r3 hd λ ds e. rw (← hb, ← hi, e, ← hn, passed_refused _ k h) refl

          pub set_more : (xs : List ℤ) → false ≡ (length xs == 0) → ok tt xs ≡ passed (times n (read_stmt b i) r4) → Err 3 ≡ set_at (read_set ws)
          unfolding read_set set_at count
          set_more [] z h = apart (cc)
          set_more (w ∷ r) z h = passed_ok _ r3 hd λ ds e. passed_ok _ (w ∷ r) h λ ss g. rw (← hb, ← hi, e, ← hn, g) refl

          pub set_ok : (xs : List ℤ) → true ≡ (length xs == 0) → ok tt xs ≡ passed (times n (read_stmt b i) r4)
              → Ok (record { bools = b; ints = i; stmts = n; at = length ws - length r4 }) ≡ set_at (read_set ws)
          unfolding read_set set_at count
          set_ok (w ∷ r) z h = let e = eqb-true (length (w ∷ r)) 0 (sym z) in absurd (omega arith)
          set_ok [] z h =
              passed_ok _ r3 hd λ ds e. passed_ok _ [] h λ ss g.
              let x = starts ds e in
              let l : length ss ≡ n = ((times_exact encode_stmt (WellStmt b i) (read_stmt b i) (stmt_exact b i) n).sound r4 ss [] g).1.0 in
              let a : length ws - length r4 ≡ 3 + length (flat (map encode_domain ds)) = omega (arith, x.0) in
              rw (← hb, ← hi, e, ← hn, g, x.1, l, ← a) refl

-- ---- for the check of `read_set`

pub ruleset parts = (set_no_bools, set_no_ints, set_no_domains, set_no_count, set_fits, set_no_stmts, set_more, set_ok)
