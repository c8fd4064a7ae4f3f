-- The lowest value of every emitted integer is not above its highest (`log_order`): of a well made log (clauses' Entries), where it is so of the declared domains.
use Rattle.std.specs.Prelude.{◌≡◌, Bool, true, false, not, cond, ℕ, zero, suc, ℤ, pos, ◌+ℤ◌, ◌*ℤ◌, get_or}
use Rattle.std.proofs.Math.Path.{refl}
use Rattle.std.proofs.Common.{sym, ◌∙◌}
use mathlib.Core.List.{List, [], ◌∷◌, ◌++◌, map-append}
use Rattle.std.specs.Int.Signed.{le_z, lt_z}
use Rattle.laws.specs.Ints.{times_low, times_high}
use Rattle.laws.specs.Order.{leZ_not, leZ_refl, leZ_trans, leZ_lt, leZ_add, times_low_le, times_high_le}
use Rattle.syntax.specs.Syntax.{Domain, Range, lower_bound, upper_bound, domain_of}
use Rattle.sums.specs.LinearSum.{Term, term, LinearSum, linear_sum, lowest, highest, get_domain_linear_sum}
use Rattle.clauses.specs.Log.{MadeInt, declared_int, column, chosen, binary, bool, merged, int, added, defined, known, Log, made_ints, domain_made, emitted_domains}
use Rattle.clauses.specs.Normalize.{hull, domain_of_sum}
use Rattle.clauses.proofs.Emitted.{domain_at}
use Rattle.clauses.proofs.Entries.{MadeWell, WellMade}

abbrev pub InOrder : Domain → Type 0
InOrder d = le_z (lower_bound d) (upper_bound d) ≡ true

-- ---- a sum

module _ (domain : ℕ → Domain) (order : (v : ℕ) → InOrder (domain v)) where
  times_order : (k : ℤ) (v : ℕ) → le_z (times_low k (lower_bound (domain v)) (upper_bound (domain v))) (times_high k (lower_bound (domain v)) (upper_bound (domain v))) ≡ true
  times_order k v =
      let a = lower_bound (domain v) in
      let b = upper_bound (domain v) in
      leZ_trans (times_low k a b) (k *ℤ a) (times_high k a b) (times_low_le k a b a (leZ_refl a) (order v)) (times_high_le k a b a (leZ_refl a) (order v))

  terms_order : (c d : ℤ) (ts : List Term) → le_z c d ≡ true → le_z (lowest domain c ts) (highest domain d ts) ≡ true
  unfolding lowest highest
  terms_order c d [] h = h
  terms_order c d (term v k ∷ ts) h =
      let a = lower_bound (domain v) in
      let b = upper_bound (domain v) in
      terms_order (c +ℤ times_low k a b) (d +ℤ times_high k a b) ts (leZ_add c d (times_low k a b) (times_high k a b) h (times_order k v))

  pub sum_order : (l : LinearSum) → InOrder (get_domain_linear_sum domain l)
  unfolding get_domain_linear_sum
  sum_order (linear_sum c ts) = terms_order c c ts (leZ_refl c)

-- ---- either of two

other_way : (x y : ℤ) → le_z x y ≡ false → le_z y x ≡ true
other_way x y h = leZ_lt y x (go (lt_z y x) (sym (leZ_not x y) ∙ h))
  where
    go : (t : Bool) → not t ≡ false → t ≡ true
    go true e = refl
    go false e = sym e

hull_order : (a b : Domain) → InOrder a → InOrder b → InOrder (hull a b)
hull_order a b h k = go (le_z p x) (le_z q y) refl refl
  where
    p : ℤ
    p = lower_bound a

    q : ℤ
    q = upper_bound a

    x : ℤ
    x = lower_bound b

    y : ℤ
    y = upper_bound b

    go : (t u : Bool) → le_z p x ≡ t → le_z q y ≡ u → le_z (cond t p x) (cond u y q) ≡ true
    go true true e f = leZ_trans p x y e k
    go true false e f = h
    go false true e f = k
    go false false e f = leZ_trans x y q k (other_way q y f)

-- ---- every entry

-- one more, d being past the end
read_more : (P : Domain → Type 0) (xs : List Domain) (x d : Domain) → ((n : ℕ) → P (get_or xs n d)) → P x → P d → (n : ℕ) → P (get_or (xs ++ (x ∷ [])) n d)
read_more P [] x d h k l zero = k
read_more P [] x d h k l (suc n) = l
read_more P (y ∷ ys) x d h k l zero = h 0
read_more P (y ∷ ys) x d h k l (suc n) = read_more P ys x d (λ i. h (suc i)) k l n

module _ (ds : List Domain) (P Q : ℕ → Type 0) (declared : (v : ℕ) → InOrder (domain_of ds v)) where
  made_order : (m : MadeInt) (s : Log) → MadeWell ds P Q (int m) s → ((n : ℕ) → InOrder (domain_at ds s n)) → InOrder (domain_made ds m)
  unfolding domain_of_sum
  made_order (declared_int v) s w h = declared v
  made_order (column l d) s w h = rw w (sum_order (domain_at ds s) h l)
  made_order (chosen i e p q d) s w h = rw w (hull_order (domain_of_sum ds s p) (domain_of_sum ds s q) (sum_order (domain_at ds s) h p) (sum_order (domain_at ds s) h q))
  made_order (binary i l x y) s w h = leZ_lt x y w

  pub log_order : (s : Log) → WellMade ds P Q s → (n : ℕ) → InOrder (domain_at ds s n)
  unfolding emitted_domains made_ints
  log_order [] w n = refl
  log_order (bool m ∷ s) w n = log_order s w.1 n
  log_order (merged v u g ∷ s) w n = log_order s w.1 n
  log_order (int m ∷ s) w n = rw (map-append (domain_made ds) (made_ints s) (m ∷ [])) (read_more InOrder (emitted_domains ds s) (domain_made ds m) (Range (pos 0) (pos 0)) (log_order s w.1) (made_order m s w.0 (log_order s w.1)) refl n)
  log_order (added cs ∷ s) w n = log_order s w.1 n
  log_order (defined cs ∷ s) w n = log_order s w.1 n
  log_order (known e v ∷ s) w n = log_order s w.1 n
