-- The clauses of a table without stars: values within the domains make all of them true exactly when they are some row's.
-- Every row is taken to have a cell for each column, as reading has it.
use Rattle.std.specs.Prelude.{◌≡◌, Bool, true, false, ◌&&◌, ◌||◌, ◌⊎◌, ℤ, pos, neg_ℤ, ◌+ℤ◌, ◌-ℤ◌, ◌*ℤ◌, get_or, take, drop}
use Rattle.std.proofs.Math.Path.{refl, sym, ap}
use Rattle.std.proofs.Common.{◌∙◌, inl, inr}
use Rattle.std.proofs.Math.Bool.{not}
use mathlib.Core.List.{List, [], ◌∷◌, ◌++◌, map}
use Prim.Native.Nat.{ℕ, zero, suc, ◌+◌, ◌≤◌, ◌<◌}
use native.Mathlib.Omega.{arith}
use Rattle.std.proofs.Math.IntN.{+ℤ_idl, +ℤ_idr, +ℤ_comm, +ℤ_invl, -ℤ-+ℤ_cancel, zero-*ℤ, suc_ℤ-*ℤ}
use Rattle.std.proofs.Math.ListN.{length, length-map}
use Rattle.laws.specs.Bools.{never, and_l, and_r, and_i, or_l, or_r, or_no_l, or_no_r, or_left_no, or_right_no, or_assoc, both_ways, eq1, eq2, imp3}
use Rattle.laws.specs.Ints.{eqZ, is_zero_true}
use Rattle.laws.specs.Order.{eqZ_is, eqZ_refl, eqZ_sym}
use Rattle.laws.specs.Lists.{any, all, keep_if, select, flat, any_cong, any_split, any_append, all_append, any_mono, all_mono, none_of, all_take, all_select}
use Rattle.syntax.specs.Syntax.{Domain, enumerate, in_domain, domain_of, Cell}
use Rattle.syntax.specs.Satisfies.{Val, IVal}
use Rattle.clauses.specs.Clause.{linear_true, Clause, clause_true}
use Rattle.tables.specs.Tables.{linear_eq, linear_ne, is_star, Row, cell_value, cell_at, row_le, sort_rows, within, agree, run_length, groups, takes, variable, differs, column_clause, column_clauses, prefixes, plain_clauses, plain_table}
use Rattle.tables.specs.Domains.{has, in_enumerate}
use Rattle.tables.proofs.Agree.{wide, wide_is, agree_same, agree_sym, agree_snoc, agree_less, agree_all, within_at, row_permits, permits_agree}
use Rattle.tables.proofs.Sorted.{any_sort, all_sort, Sorted, more, sorted_sort, sorted_select, run_agrees, run_after}

-- ---- a comparison of a variable with a constant

one_term : (x c : ℤ) → eqZ (neg_ℤ c +ℤ (pos 1 *ℤ x +ℤ pos 0)) (pos 0) ≡ eqZ x c
one_term x c = rw (+ℤ_idr (pos 1 *ℤ x), one, +ℤ_comm (neg_ℤ c) x) (go (eqZ x c) refl)
  where
    one : pos 1 *ℤ x ≡ x
    one = suc_ℤ-*ℤ (pos 0) x ∙ rw (zero-*ℤ x, +ℤ_idl x) refl

    back : (t : Bool) → eqZ (x -ℤ c) (pos 0) ≡ t → eqZ x c ≡ false → t ≡ false
    back true h e = never (sym e ∙ (let z : x ≡ c = sym (-ℤ-+ℤ_cancel x c) ∙ ap (λ (y : ℤ). y +ℤ c) (is_zero_true (x -ℤ c) h) ∙ +ℤ_idl c in rw z (eqZ_refl c)))
    back false h e = refl

    go : (t : Bool) → eqZ x c ≡ t → eqZ (x -ℤ c) (pos 0) ≡ t
    go true h = rw (eqZ_is x c h, +ℤ_comm c (neg_ℤ c), +ℤ_invl c)
    go false h = back (eqZ (x -ℤ c) (pos 0)) refl h

pub linear_eq_true : (ι : IVal) (v : ℕ) (c : ℤ) → linear_true ι (linear_eq v c) ≡ eqZ (ι v) c
linear_eq_true ι v c = one_term (ι v) c

linear_ne_true : (ι : IVal) (v : ℕ) (c : ℤ) → linear_true ι (linear_ne v c) ≡ not (eqZ (ι v) c)
linear_ne_true ι v c = ap not (one_term (ι v) c)

-- ---- lists

has_select : (x : ℤ) (f : ℤ → Bool) (d : List ℤ) → has x (select f d) ≡ f x && has x d
has_select x f [] = sym (and_no (f x))
  where
    and_no : (b : Bool) → b && false ≡ false
    and_no = eq1 _ _ refl
has_select x f (y ∷ d) = go (eqZ x y) (f y) refl refl (has_select x f d)
  where
    go : (e t : Bool) → eqZ x y ≡ e → f y ≡ t → has x (select f d) ≡ f x && has x d → has x (keep_if t y (select f d)) ≡ f x && (e || has x d)
    go true true h k q = rw (h, eqZ_is x y h, k)
    go true false h k q = let z : f x ≡ false = ap f (eqZ_is x y h) ∙ k in q ∙ rw z
    go false true h k q = rw h q
    go false false h k q = q

all_has : (x : ℤ) (f : ℤ → Bool) (d : List ℤ) → all f d ≡ true → has x d ≡ true → f x ≡ true
all_has x f [] h k = never k
all_has x f (y ∷ d) h k = go (eqZ x y) refl k (all_has x f d (and_r (f y) (all f d) h))
  where
    go : (e : Bool) → eqZ x y ≡ e → e || has x d ≡ true → (has x d ≡ true → f x ≡ true) → f x ≡ true
    go true e k q = ap f (eqZ_is x y e) ∙ and_l (f y) (all f d) h
    go false e k q = q k

all_both : {A : Type 0} (f g : A → Bool) (xs : List A) → all f xs ≡ true → all g xs ≡ true → all (λ x. f x && g x) xs ≡ true
all_both f g [] h k = refl
all_both f g (x ∷ xs) h k = and_i (f x && g x) _ (and_i (f x) (g x) (and_l (f x) (all f xs) h) (and_l (g x) (all g xs) k)) (all_both f g xs (and_r (f x) (all f xs) h) (and_r (g x) (all g xs) k))

get_d_map : (ι : IVal) (vs : List ℕ) (i : ℕ) → i < length vs → get_or (map ι vs) i (pos 0) ≡ ι (get_or vs i 0)
get_d_map ι [] i l = absurd (omega arith)
get_d_map ι (v ∷ vs) zero l = refl
get_d_map ι (v ∷ vs) (suc i) l = get_d_map ι vs i (omega arith)

module _ (vs : List ℕ) (ds : List Domain) (ρ : Val) (ι : IVal) where
  abbrev true_all : List Clause → Bool
  true_all cs = all (clause_true ρ ι) cs

  -- the values of the columns
  abbrev pub tuple : Row
  tuple = map ι vs

  abbrev with_tuple : ℕ → Row → Bool
  with_tuple p r = agree p r tuple

  Inside : Type 0
  Inside = (i : ℕ) → i < length vs → in_domain (cell_at tuple i) (domain_of ds i) ≡ true

  -- ---- one clause

  differs_true : (p : ℕ) (r : Row) → p ≤ length vs → length r ≡ length vs → any (linear_true ι) (differs vs ds p r) ≡ not (with_tuple p r)
  unfolding differs
  differs_true zero r l k = unfold agree in refl
  differs_true (suc p) r l k =
      any_append (linear_true ι) (differs vs ds p r) (linear_ne (variable vs ds p) (cell_at r p) ∷ [])
      ∙ rw (differs_true p r (omega arith) k, linear_ne_true ι (variable vs ds p) (cell_at r p)) (step (with_tuple p r) (eqZ (ι (variable vs ds p)) (cell_at r p)))
      ∙ sym (ap not (agree_snoc p r tuple (omega arith) (omega (arith, length-map vs ι)) ∙ ap (λ (b : Bool). with_tuple p r && b) (eqZ_sym (cell_at r p) (cell_at tuple p) ∙ ap (λ (x : ℤ). eqZ x (cell_at r p)) (get_d_map ι vs p (omega arith)))))
    where
      step : (a b : Bool) → not a || (not b || false) ≡ not (a && b)
      step = eq2 _ _ refl

  equals_true : (v : ℕ) (xs : List ℤ) → any (linear_true ι) (map (linear_eq v) xs) ≡ has (ι v) xs
  equals_true v [] = refl
  equals_true v (x ∷ xs) = rw (linear_eq_true ι v x, equals_true v xs)

  column_true : (p i : ℕ) (r : Row) (g : List Row) → Inside → p ≤ length vs → i < length vs → length r ≡ length vs
      → clause_true ρ ι (column_clause vs ds p i (r, g)) ≡ not (with_tuple p r) || takes i g (cell_at tuple i)
  unfolding column_clause Inside
  column_true p i r g inside l k w =
      any_append (linear_true ι) (differs vs ds p r) _
      ∙ rw (differs_true p r l w, equals_true (variable vs ds i) (select (takes i g) (enumerate (domain_of ds i))), ← (get_d_map ι vs i k), has_select (cell_at tuple i) (takes i g) (enumerate (domain_of ds i)), in_enumerate (cell_at tuple i) (domain_of ds i) (inside i k))
      (tidy (not (with_tuple p r)) (takes i g (cell_at tuple i)))
    where
      tidy : (a b : Bool) → a || (b && true) ≡ a || b
      tidy = eq2 _ _ refl

  -- a column's clause, left out where the group has the whole domain
  columns_true : (p i m : ℕ) (r : Row) (g : List Row) → Inside → p ≤ length vs → i < length vs → length r ≡ length vs
      → true_all (column_clauses vs ds p i (suc m) (r, g)) ≡ (not (with_tuple p r) || takes i g (cell_at tuple i)) && true_all (column_clauses vs ds p (suc i) m (r, g))
  unfolding column_clauses
  columns_true p i m r g inside l k w = go (all (takes i g) (enumerate (domain_of ds i))) refl
    where
      rest : List Clause
      rest = column_clauses vs ds p (suc i) m (r, g)

      whole : all (takes i g) (enumerate (domain_of ds i)) ≡ true → takes i g (cell_at tuple i) ≡ true
      whole e = all_has (cell_at tuple i) (takes i g) (enumerate (domain_of ds i)) e (in_enumerate (cell_at tuple i) (domain_of ds i) (unfold Inside in inside i k))

      go : (t : Bool) → all (takes i g) (enumerate (domain_of ds i)) ≡ t → true_all (keep_if (not t) (column_clause vs ds p i (r, g)) rest) ≡ (not (with_tuple p r) || takes i g (cell_at tuple i)) && true_all rest
      go true e = rw (or_r (not (with_tuple p r)) (takes i g (cell_at tuple i)) (whole e))
      go false e = rw (column_true p i r g inside l k w)

  -- ---- clauses true: some row has the values

  abbrev group_clauses : ℕ → ℕ → ℕ → List Row → List Clause
  group_clauses p m k rows = flat (map (column_clauses vs ds p p m) (groups p k rows))

  grows : (p : ℕ) (g : List Row) → p < length vs → all (wide (length vs)) g ≡ true → all (with_tuple p) g ≡ true → takes p g (cell_at tuple p) ≡ true → any (with_tuple (suc p)) g ≡ true
  grows p [] l w h k = never k
  grows p (r ∷ g) l w h k = go (eqZ (cell_at r p) (cell_at tuple p)) refl k (grows p g l (and_r (wide (length vs) r) (all (wide (length vs)) g) w) (and_r (with_tuple p r) (all (with_tuple p) g) h))
    where
      n_cells : length r ≡ length vs
      n_cells = wide_is (length vs) r (and_l (wide (length vs) r) (all (wide (length vs)) g) w)

      go : (t : Bool) → eqZ (cell_at r p) (cell_at tuple p) ≡ t → t || takes p g (cell_at tuple p) ≡ true → (takes p g (cell_at tuple p) ≡ true → any (with_tuple (suc p)) g ≡ true) → with_tuple (suc p) r || any (with_tuple (suc p)) g ≡ true
      go true e k q = or_l (with_tuple (suc p) r) _ (agree_snoc p r tuple (omega (arith, n_cells)) (omega (arith, length-map vs ι)) ∙ and_i (with_tuple p r) _ (and_l (with_tuple p r) (all (with_tuple p) g) h) e)
      go false e k q = or_r (with_tuple (suc p) r) _ (q k)

  -- the rows at the front that agree with r: r's agreement with the tuple is theirs
  module _ (p : ℕ) (r : Row) (rs : List Row) (l : p ≤ length vs) (w : length r ≡ length vs) (ws : all (wide (length vs)) rs ≡ true) where
    abbrev run : List Row
    run = take (run_length p r rs) rs

    in_run : all (λ s. agree p r s && wide (length vs) s) run ≡ true
    in_run = all_both (agree p r) (wide (length vs)) (take (run_length p r rs) rs) (run_agrees p r rs) (all_take (wide (length vs)) (run_length p r rs) rs ws)

    same : (s : Row) → agree p r s && wide (length vs) s ≡ true → with_tuple p s ≡ with_tuple p r
    same s h = agree_same p r s tuple (omega arith) (omega (arith, wide_is (length vs) s (and_r (agree p r s) (wide (length vs) s) h))) (and_l (agree p r s) (wide (length vs) s) h)

    run_with : with_tuple p r ≡ true → all (with_tuple p) run ≡ true
    run_with e = all_mono _ (with_tuple p) run (λ s h. same s h ∙ e) in_run

    run_without : with_tuple p r ≡ false → any (with_tuple p) run ≡ false
    run_without e = none_of _ (with_tuple p) run (λ s h. same s h ∙ e) in_run

  lift : (p m k : ℕ) (rows : List Row) → Inside → p < length vs → all (wide (length vs)) rows ≡ true → any (with_tuple p) (drop k rows) ≡ true
      → true_all (group_clauses p (suc m) k rows) ≡ true → any (with_tuple (suc p)) (drop k rows) ≡ true
  unfolding groups
  lift p m zero [] inside l ws h k = never h
  lift p m (suc j) [] inside l ws h k = never h
  lift p m (suc j) (r ∷ rs) inside l ws h k = lift p m j rs inside l (and_r (wide (length vs) r) (all (wide (length vs)) rs) ws) h k
  lift p m zero (r ∷ rs) inside l ws h k = go (with_tuple p r) refl h (lift p m (run_length p r rs) rs inside l w)
    where
      here : length r ≡ length vs
      here = wide_is (length vs) r (and_l (wide (length vs) r) (all (wide (length vs)) rs) ws)

      w : all (wide (length vs)) rs ≡ true
      w = and_r (wide (length vs) r) (all (wide (length vs)) rs) ws

      g : List Row
      g = r ∷ take (run_length p r rs) rs

      rest : List Clause
      rest = group_clauses p (suc m) (run_length p r rs) rs

      parts : true_all (column_clauses vs ds p p (suc m) (r, g)) && true_all rest ≡ true
      parts = sym (all_append (clause_true ρ ι) (column_clauses vs ds p p (suc m) (r, g)) rest) ∙ k

      go : (t : Bool) → with_tuple p r ≡ t → t || any (with_tuple p) rs ≡ true
          → (any (with_tuple p) (drop (run_length p r rs) rs) ≡ true → true_all rest ≡ true → any (with_tuple (suc p)) (drop (run_length p r rs) rs) ≡ true)
          → any (with_tuple (suc p)) (r ∷ rs) ≡ true
      go true e h q =
          let c = sym (columns_true p p m r g inside (omega arith) l here) ∙ and_l _ (true_all rest) parts in
          let c = and_l (not (with_tuple p r) || takes p g (cell_at tuple p)) _ c in
          let same : all (with_tuple p) g ≡ true = and_i (with_tuple p r) _ e (run_with p r rs (omega arith) here w e) in
          let wides : all (wide (length vs)) g ≡ true = and_i (wide (length vs) r) _ (and_l (wide (length vs) r) (all (wide (length vs)) rs) ws) (all_take (wide (length vs)) (run_length p r rs) rs w) in
          let got = grows p g l wides same (or_left_no (not (with_tuple p r)) (takes p g (cell_at tuple p)) (ap not e) c) in
          rw (any_split (with_tuple (suc p)) (run_length p r rs) rs) (front (with_tuple (suc p) r) (any (with_tuple (suc p)) (take (run_length p r rs) rs)) (any (with_tuple (suc p)) (drop (run_length p r rs) rs)) got)
        where
          front : (a b c : Bool) → a || b ≡ true → a || (b || c) ≡ true
          front = imp3 (λ a b c. a || b) _ refl
      go false e h q =
          let off : any (with_tuple p) (take (run_length p r rs) rs) ≡ false = run_without p r rs (omega arith) here w e in
          let past = or_left_no (any (with_tuple p) (take (run_length p r rs) rs)) (any (with_tuple p) (drop (run_length p r rs) rs)) off (sym (any_split (with_tuple p) (run_length p r rs) rs) ∙ h) in
          let got = q past (and_r (true_all (column_clauses vs ds p p (suc m) (r, g))) _ parts) in
          or_r (with_tuple (suc p) r) (any (with_tuple (suc p)) rs) (any_split (with_tuple (suc p)) (run_length p r rs) rs ∙ or_r (any (with_tuple (suc p)) (take (run_length p r rs) rs)) _ got)

  sound : (p m : ℕ) (rows : List Row) → Inside → p + m ≡ length vs → all (wide (length vs)) rows ≡ true → any (with_tuple p) rows ≡ true
      → true_all (prefixes vs ds p m rows) ≡ true → any (with_tuple (length vs)) rows ≡ true
  unfolding prefixes
  sound p zero rows inside e w h k = let z : p ≡ length vs = omega arith in rw z at h
  sound p (suc m) rows inside e w h k =
      let parts = sym (all_append (clause_true ρ ι) (group_clauses p (suc m) zero rows) (prefixes vs ds (suc p) m rows)) ∙ k in
      sound (suc p) m rows inside (omega arith) w
      (lift p m zero rows inside (omega arith) w h (and_l _ (true_all (prefixes vs ds (suc p) m rows)) parts))
      (and_r (true_all (group_clauses p (suc m) zero rows)) _ parts)

  -- ---- some row has the values: clauses true

  -- the group's prefix is another
  columns_other : (p i m : ℕ) (r : Row) (g : List Row) → Inside → p ≤ length vs → i + m ≤ length vs → length r ≡ length vs → with_tuple p r ≡ false
      → true_all (column_clauses vs ds p i m (r, g)) ≡ true
  columns_other p i zero r g inside l k w h = unfold column_clauses in refl
  columns_other p i (suc m) r g inside l k w h = columns_true p i m r g inside l (omega arith) w ∙ rw (h, columns_other p (suc i) m r g inside l (omega arith) w h)

  has_cell : (i : ℕ) (g : List Row) → i < length vs → all (wide (length vs)) g ≡ true → any (with_tuple (length vs)) g ≡ true → takes i g (cell_at tuple i) ≡ true
  has_cell i [] l w h = never h
  has_cell i (r ∷ g) l w h = go (with_tuple (length vs) r) refl h (has_cell i g l (and_r (wide (length vs) r) (all (wide (length vs)) g) w))
    where
      equal : with_tuple (length vs) r ≡ true → r ≡ tuple
      equal e = agree_all (length vs) r tuple (wide_is (length vs) r (and_l (wide (length vs) r) (all (wide (length vs)) g) w)) (length-map vs ι) e

      go : (t : Bool) → with_tuple (length vs) r ≡ t → t || any (with_tuple (length vs)) g ≡ true → (any (with_tuple (length vs)) g ≡ true → takes i g (cell_at tuple i) ≡ true) → takes i (r ∷ g) (cell_at tuple i) ≡ true
      go true e h q = or_l (eqZ (cell_at r i) (cell_at tuple i)) _ (ap (λ (s : Row). eqZ (cell_at s i) (cell_at tuple i)) (equal e) ∙ eqZ_refl (cell_at tuple i))
      go false e h q = or_r (eqZ (cell_at r i) (cell_at tuple i)) _ (q h)

  -- a row of the group has the values
  columns_has : (p i m : ℕ) (r : Row) (g : List Row) → Inside → p ≤ length vs → i + m ≤ length vs → length r ≡ length vs → all (wide (length vs)) g ≡ true → any (with_tuple (length vs)) g ≡ true
      → true_all (column_clauses vs ds p i m (r, g)) ≡ true
  columns_has p i zero r g inside l k w ws h = unfold column_clauses in refl
  columns_has p i (suc m) r g inside l k w ws h =
      columns_true p i m r g inside l (omega arith) w
      ∙ and_i (not (with_tuple p r) || takes i g (cell_at tuple i)) _
      (or_r (not (with_tuple p r)) (takes i g (cell_at tuple i)) (has_cell i g (omega arith) ws h))
      (columns_has p (suc i) m r g inside l (omega arith) w ws h)

  -- past k rows: the row is still there, or no row agrees in the prefix
  abbrev Left : ℕ → List Row → Type 0
  Left p rows = (any (with_tuple (length vs)) rows ≡ true) ⊎ (any (with_tuple p) rows ≡ false)

  none_whole : (p : ℕ) (rows : List Row) → p ≤ length vs → any (with_tuple p) rows ≡ false → any (with_tuple (length vs)) rows ≡ false
  none_whole p rows l h = go (any (with_tuple (length vs)) rows) refl
    where
      go : (t : Bool) → any (with_tuple (length vs)) rows ≡ t → t ≡ false
      go true e = never (sym h ∙ any_mono (with_tuple (length vs)) (with_tuple p) rows (λ r a. agree_less p (length vs) r tuple l a) e)
      go false e = refl

  -- in order, no row past the run of r has the tuple's prefix, if r has
  past_without : (p : ℕ) (r : Row) (rs : List Row) → p ≤ length vs → length r ≡ length vs → all (row_le r) rs ≡ true → Sorted rs
      → with_tuple p r ≡ true → any (with_tuple p) (drop (run_length p r rs) rs) ≡ false
  past_without p r rs l w a s e =
      any_cong (with_tuple p) (agree p r) (drop (run_length p r rs) rs) (λ q. agree_sym p q tuple ∙ agree_same p r tuple q (omega arith) (omega (arith, length-map vs ι)) e)
      ∙ run_after p r a s

  fill : (p m k : ℕ) (rows : List Row) → Inside → p + m ≤ length vs → all (wide (length vs)) rows ≡ true → Sorted rows → Left p (drop k rows)
      → true_all (group_clauses p m k rows) ≡ true
  unfolding groups
  fill p m k [] inside l ws s h = refl
  fill p m (suc k) (r ∷ rs) inside l ws (more a s) h = fill p m k rs inside l (and_r (wide (length vs) r) (all (wide (length vs)) rs) ws) s h
  fill p m zero (r ∷ rs) inside l ws (more a s) h = go (with_tuple p r) refl h (fill p m (run_length p r rs) rs inside l w s)
    where
      here : length r ≡ length vs
      here = wide_is (length vs) r (and_l (wide (length vs) r) (all (wide (length vs)) rs) ws)

      w : all (wide (length vs)) rs ≡ true
      w = and_r (wide (length vs) r) (all (wide (length vs)) rs) ws

      run : List Row
      run = take (run_length p r rs) rs

      past : List Row
      past = drop (run_length p r rs) rs

      wides : all (wide (length vs)) (r ∷ run) ≡ true
      wides = and_i (wide (length vs) r) _ (and_l (wide (length vs) r) (all (wide (length vs)) rs) ws) (all_take (wide (length vs)) (run_length p r rs) rs w)

      rest : List Clause
      rest = group_clauses p m (run_length p r rs) rs

      join : true_all (column_clauses vs ds p p m (r, r ∷ run)) ≡ true → true_all rest ≡ true → true_all (column_clauses vs ds p p m (r, r ∷ run) ++ rest) ≡ true
      join x y = all_append (clause_true ρ ι) (column_clauses vs ds p p m (r, r ∷ run)) rest ∙ and_i _ _ x y

      -- a row with the values stands in the group or past it
      parted : any (with_tuple (length vs)) (r ∷ rs) ≡ true → any (with_tuple (length vs)) (r ∷ run) || any (with_tuple (length vs)) past ≡ true
      parted h = or_assoc (with_tuple (length vs) r) (any (with_tuple (length vs)) run) (any (with_tuple (length vs)) past) ∙ ap (λ (b : Bool). with_tuple (length vs) r || b) (sym (any_split (with_tuple (length vs)) (run_length p r rs) rs)) ∙ h

      go : (t : Bool) → with_tuple p r ≡ t → Left p (r ∷ rs) → (Left p past → true_all rest ≡ true) → true_all (column_clauses vs ds p p m (r, r ∷ run) ++ rest) ≡ true
      go false e (inr h) q =
          join (columns_other p p m r (r ∷ run) inside (omega arith) l here e)
          (q (inr (or_no_r (any (with_tuple p) run) (any (with_tuple p) past) (sym (any_split (with_tuple p) (run_length p r rs) rs) ∙ or_no_r (with_tuple p r) (any (with_tuple p) rs) h))))
      go false e (inl h) q =
          let off : any (with_tuple p) (r ∷ run) ≡ false = rw e (run_without p r rs (omega arith) here w e) in
          join (columns_other p p m r (r ∷ run) inside (omega arith) l here e)
          (q (inl (or_left_no (any (with_tuple (length vs)) (r ∷ run)) (any (with_tuple (length vs)) past) (none_whole p (r ∷ run) (omega arith) off) (parted h))))
      go true e (inr h) q = never (sym (or_no_l (with_tuple p r) (any (with_tuple p) rs) h) ∙ e)
      go true e (inl h) q =
          let away = past_without p r rs (omega arith) here a s e in
          let has = or_right_no (any (with_tuple (length vs)) (r ∷ run)) (any (with_tuple (length vs)) past) (none_whole p past (omega arith) away) (parted h) in
          join (columns_has p p m r (r ∷ run) inside (omega arith) l here wides has) (q (inr away))

  complete : (p m : ℕ) (rows : List Row) → Inside → p + m ≡ length vs → all (wide (length vs)) rows ≡ true → Sorted rows → any (with_tuple (length vs)) rows ≡ true
      → true_all (prefixes vs ds p m rows) ≡ true
  unfolding prefixes
  complete p zero rows inside e w s h = refl
  complete p (suc m) rows inside e w s h =
      all_append (clause_true ρ ι) (group_clauses p (suc m) zero rows) (prefixes vs ds (suc p) m rows)
      ∙ and_i _ _ (fill p (suc m) zero rows inside (omega arith) w s (inl h)) (complete (suc p) m rows inside (omega arith) w s h)

  -- ---- the table

  clauses_mean : (rows : List Row) → Inside → all (wide (length vs)) rows ≡ true → Sorted rows → true_all (plain_clauses vs ds rows) ≡ any (with_tuple (length vs)) rows
  unfolding plain_clauses
  clauses_mean [] inside w s = refl
  clauses_mean (r ∷ rs) inside w s =
      both_ways _ _ (λ h. sound 0 (length vs) (r ∷ rs) inside (omega arith) w (unfold agree in refl) h)
      (λ h. complete 0 (length vs) (r ∷ rs) inside (omega arith) w s h)

  any_within : (rows : List Row) → within ds tuple ≡ true → all (wide (length vs)) rows ≡ true → any (with_tuple (length vs)) (select (within ds) rows) ≡ any (with_tuple (length vs)) rows
  any_within [] d w = refl
  any_within (r ∷ rows) d w = go (within ds r) refl (any_within rows d (and_r (wide (length vs) r) (all (wide (length vs)) rows) w))
    where
      rest : List Row
      rest = select (within ds) rows

      here : with_tuple (length vs) r ≡ true → within ds r ≡ true
      here k = ap (within ds) (agree_all (length vs) r tuple (wide_is (length vs) r (and_l (wide (length vs) r) (all (wide (length vs)) rows) w)) (length-map vs ι) k) ∙ d

      outside : (t : Bool) → within ds r ≡ false → with_tuple (length vs) r ≡ t → any (with_tuple (length vs)) rows ≡ t || any (with_tuple (length vs)) rows
      outside true e k = never (sym e ∙ here k)
      outside false e k = refl

      go : (t : Bool) → within ds r ≡ t → any (with_tuple (length vs)) rest ≡ any (with_tuple (length vs)) rows → any (with_tuple (length vs)) (keep_if t r rest) ≡ with_tuple (length vs) r || any (with_tuple (length vs)) rows
      go true e q = ap (λ (b : Bool). with_tuple (length vs) r || b) q
      go false e q = q ∙ outside (with_tuple (length vs) r) e refl

  rows_mean : (rows : List Row) → length ds ≡ length vs → within ds tuple ≡ true → all (wide (length vs)) rows ≡ true
      → true_all (plain_clauses vs ds (select (within ds) (sort_rows rows))) ≡ any (with_tuple (length vs)) rows
  rows_mean rows e d w =
      clauses_mean (select (within ds) (sort_rows rows)) inside (all_select (wide (length vs)) (within ds) (sort_rows rows) sorted_wide) (sorted_select (within ds) (sorted_sort rows))
      ∙ any_within (sort_rows rows) d sorted_wide ∙ any_sort (with_tuple (length vs)) rows
    where
      sorted_wide : all (wide (length vs)) (sort_rows rows) ≡ true
      sorted_wide = all_sort (wide (length vs)) rows ∙ w

      inside : Inside
      inside = unfold Inside in λ i l. within_at i ds tuple (omega arith) (omega (arith, length-map vs ι)) d

  wide_values : (rows : List (List Cell)) → all (wide (length vs)) rows ≡ true → all (wide (length vs)) (map (map cell_value) rows) ≡ true
  wide_values [] h = refl
  wide_values (cs ∷ rows) h = and_i (wide (length vs) (map cell_value cs)) _ (rw (length-map cs cell_value) (and_l (wide (length vs) cs) (all (wide (length vs)) rows) h)) (wide_values rows (and_r (wide (length vs) cs) (all (wide (length vs)) rows) h))

  values_permit : (rows : List (List Cell)) → all (wide (length vs)) rows ≡ true → any (any is_star) rows ≡ false → any (with_tuple (length vs)) (map (map cell_value) rows) ≡ any (λ cs. row_permits cs tuple) rows
  values_permit [] w h = refl
  values_permit (cs ∷ rows) w h =
      let l : length cs ≡ length vs = wide_is (length vs) cs (and_l (wide (length vs) cs) (all (wide (length vs)) rows) w) in
      rw (permits_agree (length vs) cs tuple (omega arith) (or_no_l (any is_star cs) (any (any is_star) rows) h), values_permit rows (and_r (wide (length vs) cs) (all (wide (length vs)) rows) w) (or_no_r (any is_star cs) (any (any is_star) rows) h))

  -- values within the domains make all clauses true exactly when some row's cells permit them
  pub plain_table_means : (rows : List (List Cell)) → length ds ≡ length vs → within ds tuple ≡ true → all (wide (length vs)) rows ≡ true → any (any is_star) rows ≡ false
      → all (clause_true ρ ι) (plain_table vs ds rows) ≡ any (λ cs. row_permits cs tuple) rows
  unfolding plain_table
  plain_table_means rows e d w h = rows_mean (map (map cell_value) rows) e d (wide_values rows w) ∙ values_permit rows w h
