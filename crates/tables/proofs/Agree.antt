-- Rows that agree in a prefix, and cells that permit a row of values. Rows are taken to have at least as many cells as the prefix.
use Rattle.std.specs.Prelude.{◌≡◌, refl, Bool, true, false, ◌&&◌, List, [], ◌∷◌, map, ℕ, zero, suc, ◌≤◌, ◌<◌, length, eqb}
use Rattle.std.proofs.Common.{sym, ap, ◌∙◌, arith, eqb-true}
use Rattle.laws.specs.Bools.{never, and_l, and_r, and_i, and_assoc, eq1}
use Rattle.laws.specs.Ints.{eqZ}
use Rattle.laws.specs.Order.{eqZ_is, eqZ_sym}
use Rattle.laws.specs.Lists.{any}
use Rattle.syntax.specs.Syntax.{Domain, in_domain, domain_of, IntExpr, Cell, star, value}
use Rattle.syntax.specs.Satisfies.{Val, IVal, permits, int_value, row_holds}
use Rattle.tables.specs.Tables.{Row, cell_at, cell_value, is_star, within, agree}

-- a row of n cells
abbrev pub wide : {A : Type 0} → ℕ → List A → Bool
wide n r = eqb (length r) n

pub wide_is : {A : Type 0} (n : ℕ) (r : List A) → wide n r ≡ true → length r ≡ n
wide_is n r h = eqb-true (length r) n h

-- ---- agreement

-- rows that agree with each other agree with the same
pub agree_same : (p : ℕ) (r s t : Row) → p ≤ length r → p ≤ length s → agree p r s ≡ true → agree p s t ≡ agree p r t
unfolding agree
agree_same zero r s t l k h = refl
agree_same (suc p) [] s t l k h = absurd (omega arith)
agree_same (suc p) (x ∷ r) [] t l k h = absurd (omega arith)
agree_same (suc p) (x ∷ r) (y ∷ s) [] l k h = refl
agree_same (suc p) (x ∷ r) (y ∷ s) (z ∷ t) l k h = rw (eqZ_is x y (and_l (eqZ x y) (agree p r s) h), agree_same p r s t (omega arith) (omega arith) (and_r (eqZ x y) (agree p r s) h))

pub agree_sym : (p : ℕ) (r s : Row) → agree p r s ≡ agree p s r
unfolding agree
agree_sym zero r s = refl
agree_sym (suc p) [] [] = refl
agree_sym (suc p) [] (y ∷ s) = refl
agree_sym (suc p) (x ∷ r) [] = refl
agree_sym (suc p) (x ∷ r) (y ∷ s) = rw (eqZ_sym x y, agree_sym p r s)

-- one column more
pub agree_snoc : (p : ℕ) (r t : Row) → p < length r → p < length t → agree (suc p) r t ≡ agree p r t && eqZ (cell_at r p) (cell_at t p)
unfolding agree
agree_snoc p [] t l k = absurd (omega arith)
agree_snoc p (x ∷ r) [] l k = absurd (omega arith)
agree_snoc zero (x ∷ r) (y ∷ t) l k = and-true (eqZ x y)
  where
    and-true : (b : Bool) → b && true ≡ b
    and-true = eq1 _ _ refl
agree_snoc (suc p) (x ∷ r) (y ∷ t) l k = ap (λ (b : Bool). eqZ x y && b) (agree_snoc p r t (omega arith) (omega arith)) ∙ sym (and_assoc (eqZ x y) (agree p r t) (eqZ (cell_at r p) (cell_at t p)))

-- fewer columns
pub agree_less : (p n : ℕ) (r t : Row) → p ≤ n → agree n r t ≡ true → agree p r t ≡ true
unfolding agree
agree_less zero n r t l h = refl
agree_less (suc p) zero r t l h = absurd (omega arith)
agree_less (suc p) (suc n) [] t l h = refl
agree_less (suc p) (suc n) (x ∷ r) [] l h = refl
agree_less (suc p) (suc n) (x ∷ r) (y ∷ t) l h = and_i (eqZ x y) (agree p r t) (and_l (eqZ x y) (agree n r t) h) (agree_less p n r t (omega arith) (and_r (eqZ x y) (agree n r t) h))

-- in all columns: the same row
pub agree_all : (n : ℕ) (r t : Row) → length r ≡ n → length t ≡ n → agree n r t ≡ true → r ≡ t
unfolding agree
agree_all zero [] [] l k h = refl
agree_all zero [] (y ∷ t) l k h = absurd (omega arith)
agree_all zero (x ∷ r) t l k h = absurd (omega arith)
agree_all (suc n) [] t l k h = absurd (omega arith)
agree_all (suc n) (x ∷ r) [] l k h = absurd (omega arith)
agree_all (suc n) (x ∷ r) (y ∷ t) l k h =
    let e = eqZ_is x y (and_l (eqZ x y) (agree n r t) h) in
    let q = agree_all n r t (omega arith) (omega arith) (and_r (eqZ x y) (agree n r t) h) in
    cc

-- the cell of a column is in the column's domain
pub within_at : (i : ℕ) (ds : List Domain) (t : Row) → i < length ds → i < length t → within ds t ≡ true → in_domain (cell_at t i) (domain_of ds i) ≡ true
unfolding within
within_at i [] t l k h = absurd (omega arith)
within_at i (d ∷ ds) [] l k h = absurd (omega arith)
within_at zero (d ∷ ds) (x ∷ t) l k h = and_l (in_domain x d) (within ds t) h
within_at (suc i) (d ∷ ds) (x ∷ t) l k h = within_at i ds t (omega arith) (omega arith) (and_r (in_domain x d) (within ds t) h)

-- ---- cells that permit values

unfoldable pub row_permits : List Cell → Row → Bool
row_permits [] xs = true
row_permits (c ∷ cs) [] = true
row_permits (c ∷ cs) (x ∷ xs) = permits c x && row_permits cs xs

-- a row holds when its cells permit the columns' values
pub row_holds_permits : (δ : Val) (ε : IVal) (ρ : Val) (es : List IntExpr) (cs : List Cell) → row_holds δ ε ρ es cs ≡ row_permits cs (map (int_value δ ε ρ) es)
unfolding row_permits
row_holds_permits δ ε ρ [] [] = refl
row_holds_permits δ ε ρ [] (c ∷ cs) = refl
row_holds_permits δ ε ρ (e ∷ es) [] = refl
row_holds_permits δ ε ρ (e ∷ es) (c ∷ cs) = ap (λ (b : Bool). permits c (int_value δ ε ρ e) && b) (row_holds_permits δ ε ρ es cs)

-- without a star that is agreement
pub permits_agree : (n : ℕ) (cs : List Cell) (t : Row) → length cs ≤ n → any is_star cs ≡ false → row_permits cs t ≡ agree n (map cell_value cs) t
unfolding row_permits agree
permits_agree zero [] t l h = refl
permits_agree zero (c ∷ cs) t l h = absurd (omega arith)
permits_agree (suc n) [] t l h = refl
permits_agree (suc n) (c ∷ cs) [] l h = refl
permits_agree (suc n) (star ∷ cs) (x ∷ t) l h = never (sym h)
permits_agree (suc n) (value c ∷ cs) (x ∷ t) l h = ap (λ (b : Bool). eqZ c x && b) (permits_agree n cs t (omega arith) h)
