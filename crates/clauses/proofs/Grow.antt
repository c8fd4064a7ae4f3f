-- How a log grows: the numbers given stay, new ones are above them, and what values owe to a log they owe to what it grew from.
use Rattle.std.proofs.Math.Path.{◌≡◌, refl, sym}
use Rattle.std.proofs.Common.{ap, ◌∙◌, arith, eqb-true, eq-eqb}
use Rattle.std.specs.Prelude.{Bool, not, ℕ, suc, ◌≤◌, ◌<◌, eqb, ℤ}
use Rattle.std.proofs.Math.Bool.{true, false, cond, not-not}
use Rattle.std.proofs.Math.Option.{Option, none, some}
use mathlib.Core.List.{[], ◌∷◌}
use Rattle.laws.specs.Bools.{never, and_l, and_r, and_i}
use Rattle.laws.specs.Lists.{all, all_append}
use Rattle.laws.specs.Same.{same_words, same_is}
use Rattle.syntax.specs.Syntax.{in_domain, IntExpr, encode_int}
use Rattle.syntax.specs.Unique.{int_unique_words}
use Rattle.sums.specs.LinearSum.{sum_value}
use Rattle.syntax.specs.Satisfies.{Val, IVal, int_value}
use Rattle.clauses.specs.Clause.{negate_if, BoolLit, lit, lit_true, clause_true}
use Rattle.clauses.specs.Log.{MadeBool, declared, aux, side, declared_int, column, chosen, binary, Made, bool, merged, int, added, defined, known, Log, next_bool, next_int, is_declared, is_declared_int, get_bool_var, get_int_var, number_of, negate_found, get_if, clauses_of}
use Rattle.clauses.proofs.Bounds.{clauses_bound, clauses_bound_append, ints_bound, ints_bound_append, expr_bound, int_bound, sum_bound}
use Rattle.clauses.specs.Valuation.{AgreesMade, Agrees, Fits, AddedMade, Added}

-- x is one of both
pub record OneOf (x a b : ℤ) : Type 0 where
  pub which : Bool
  pub is : x ≡ cond which a b

-- stated: whether clauses of statements may be added
module _ (stated : Bool) (δ : Val) (ε : IVal) where
  -- what may be made after s; a known If has its value wherever values agree with the log
  abbrev pub Legal : Made → Log → Type 0
  Legal (bool (declared v)) s = get_bool_var v s ≡ none
  Legal (bool (aux cs)) s = (clauses_bound cs ≤ next_bool s) × (ints_bound cs ≤ next_int s)
  Legal (bool (side e)) s = expr_bound e ≤ next_bool s
  -- no tie is made once clauses are
  Legal (merged v w g) s = ⊥
  Legal (int (declared_int v)) s = get_int_var v s ≡ none
  Legal (int (column l d)) s = (sum_bound l ≤ next_int s) × ((ρ : Val) (ι : IVal) → Fits δ ε ρ ι s → in_domain (sum_value ι l) d ≡ true)
  -- its value is one of the two sums'
  Legal (int (chosen i e p q d)) s =
      (int_bound e ≤ next_bool s) × (sum_bound p ≤ next_int s) × (sum_bound q ≤ next_int s) × ((ρ : Val) (ι : IVal) → Agrees δ ε ρ ι s → OneOf (int_value δ ε ρ e) (sum_value ι p) (sum_value ι q))
  Legal (int (binary i l a b)) s = number_of l < next_bool s
  Legal (added cs) s = (stated ≡ true) × (clauses_bound cs ≤ next_bool s) × (ints_bound cs ≤ next_int s)
  -- clauses that hold wherever the numbers have the values they were made for
  Legal (defined cs) s = (clauses_bound cs ≤ next_bool s) × (ints_bound cs ≤ next_int s) × ((ρ : Val) (ι : IVal) → Fits δ ε ρ ι s → all (clause_true ρ ι) cs ≡ true)
  Legal (known e v) s = (v < next_int s) × ((ρ : Val) (ι : IVal) → Agrees δ ε ρ ι s → ι v ≡ int_value δ ε ρ e)

  pub data GrowsBy (s : Log) : Log → Type 0 where
    same : GrowsBy s s
    grow : {t : Log} (m : Made) → Legal m t → GrowsBy s t → GrowsBy s (m ∷ t)

-- within a statement; over statements
abbrev pub Grows : Val → IVal → Log → Log → Type 0
Grows δ ε s t = GrowsBy false δ ε s t

abbrev pub Extends : Val → IVal → Log → Log → Type 0
Extends δ ε s t = GrowsBy true δ ε s t

-- s grew from a log without integers and Ifs
pub record Lawful (δ : Val) (ε : IVal) (s : Log) : Type 0 where
  pub start : Log
  pub empty : next_int start ≡ 0
  pub fresh : (e : IntExpr) → get_if e start ≡ none
  pub grows : Extends δ ε start s

-- ---- numbers

get_below : (k n : ℕ) (o : Option ℕ) (b : Bool) → (o ≡ some n → n < k) → cond b (some k) o ≡ some n → n < suc k
get_below k n o true f h = let q : k ≡ n = cc in omega arith
get_below k n o false f h = let q : n < k = f h in omega arith

abbrev LitBelow : ℕ → Option BoolLit → Type 0
LitBelow k none = Unit {0}
LitBelow k (some l) = number_of l < k

below_more : (k m : ℕ) (o : Option BoolLit) → k ≤ m → LitBelow k o → LitBelow m o
below_more k m none h b = tt
below_more k m (some l) h b = omega (arith, b)

below_negated : (k : ℕ) (g : Bool) (o : Option BoolLit) → LitBelow k o → LitBelow k (negate_found g o)
below_negated k g none b = tt
below_negated k g (some (lit n h)) b = b

below_cond : (k : ℕ) (t : Bool) (o p : Option BoolLit) → LitBelow k o → LitBelow k p → LitBelow k (cond t o p)
below_cond k true o p a b = a
below_cond k false o p a b = b

below_made : (k v : ℕ) (m : MadeBool) (o : Option BoolLit) → LitBelow k o → LitBelow (suc k) (cond (is_declared v m) (some (lit k false)) o)
below_made k v m o b = below_cond (suc k) (is_declared v m) (some (lit k false)) o (omega arith) (below_more k (suc k) o (omega arith) b)

lits_below : (s : Log) (v : ℕ) → LitBelow (next_bool s) (get_bool_var v s)
unfolding get_bool_var
lits_below [] v = tt
lits_below (bool m ∷ s) v = below_made (next_bool s) v m (get_bool_var v s) (lits_below s v)
lits_below (merged w u g ∷ s) v = below_cond (next_bool s) (eqb v w) _ (get_bool_var v s) (below_negated (next_bool s) g (get_bool_var u s) (lits_below s u)) (lits_below s v)
lits_below (int m ∷ s) v = lits_below s v
lits_below (added cs ∷ s) v = lits_below s v
lits_below (defined cs ∷ s) v = lits_below s v
lits_below (known e n ∷ s) v = lits_below s v

pub get_bool_below : (s : Log) (v : ℕ) (l : BoolLit) → get_bool_var v s ≡ some l → number_of l < next_bool s
get_bool_below s v l h = rw h at (lits_below s v)

pub get_int_below : (s : Log) (v n : ℕ) → get_int_var v s ≡ some n → n < next_int s
unfolding get_int_var
get_int_below [] v n h = let z : ◌≡◌ {A = ℕ} 0 1 = cc in omega arith
get_int_below (bool m ∷ s) v n h = get_int_below s v n h
get_int_below (merged w u g ∷ s) v n h = get_int_below s v n h
get_int_below (int m ∷ s) v n h = get_below (next_int s) n (get_int_var v s) (is_declared_int v m) (get_int_below s v n) h
get_int_below (added cs ∷ s) v n h = get_int_below s v n h
get_int_below (defined cs ∷ s) v n h = get_int_below s v n h
get_int_below (known e w ∷ s) v n h = get_int_below s v n h

module _ {stated : Bool} {δ : Val} {ε : IVal} where
  unfoldable pub grows_trans : {s t u : Log} → GrowsBy stated δ ε s t → GrowsBy stated δ ε t u → GrowsBy stated δ ε s u
  grows_trans g same = g
  grows_trans g (grow m l h) = grow m l (grows_trans g h)

  pub grows_bool : {s t : Log} → GrowsBy stated δ ε s t → next_bool s ≤ next_bool t
  grows_bool same = omega arith
  grows_bool (grow (bool m) l g) = omega (arith, grows_bool g)
  grows_bool (grow (merged v w h) l g) = absurd l
  grows_bool (grow (int m) l g) = grows_bool g
  grows_bool (grow (added cs) l g) = grows_bool g
  grows_bool (grow (defined cs) l g) = grows_bool g
  grows_bool (grow (known e v) l g) = grows_bool g

  pub grows_int : {s t : Log} → GrowsBy stated δ ε s t → next_int s ≤ next_int t
  grows_int same = omega arith
  grows_int (grow (bool m) l g) = grows_int g
  grows_int (grow (merged v w h) l g) = absurd l
  grows_int (grow (int m) l g) = omega (arith, grows_int g)
  grows_int (grow (added cs) l g) = grows_int g
  grows_int (grow (defined cs) l g) = grows_int g
  grows_int (grow (known e v) l g) = grows_int g

  pub agrees_back : (ρ : Val) (ι : IVal) {s t : Log} → GrowsBy stated δ ε s t → Agrees δ ε ρ ι t → Agrees δ ε ρ ι s
  agrees_back ρ ι same a = a
  agrees_back ρ ι (grow m l g) a = agrees_back ρ ι g a.1

  pub fits_back : (ρ : Val) (ι : IVal) {s t : Log} → GrowsBy stated δ ε s t → Fits δ ε ρ ι t → Fits δ ε ρ ι s
  fits_back ρ ι same f = f
  fits_back ρ ι (grow m l g) f = fits_back ρ ι g f.1

-- ---- the clauses of statements among what a log grew by

module _ {stated : Bool} {δ : Val} {ε : IVal} (ρ : Val) (ι : IVal) where
  abbrev pub AddedBy : {s t : Log} → GrowsBy stated δ ε s t → Type 0
  AddedBy same = Unit {0}
  AddedBy (grow m l g) = AddedMade ρ ι m × AddedBy g

  pub added_then : {s t u : Log} (g : GrowsBy stated δ ε s t) (h : GrowsBy stated δ ε t u) → AddedBy g → AddedBy h → AddedBy (grows_trans g h)
  unfolding grows_trans
  added_then g same a b = a
  added_then g (grow m l h) a b = (b.0, added_then g h a b.1)

  pub added_first : {s t u : Log} (g : GrowsBy stated δ ε s t) (h : GrowsBy stated δ ε t u) → AddedBy (grows_trans g h) → AddedBy g
  unfolding grows_trans
  added_first g same a = a
  added_first g (grow m l h) a = added_first g h a.1

  pub added_second : {s t u : Log} (g : GrowsBy stated δ ε s t) (h : GrowsBy stated δ ε t u) → AddedBy (grows_trans g h) → AddedBy h
  unfolding grows_trans
  added_second g same a = tt
  added_second g (grow m l h) a = (a.0, added_second g h a.1)

  pub added_of : {s t : Log} (g : GrowsBy stated δ ε s t) → Added ρ ι t → AddedBy g
  added_of same a = tt
  added_of (grow m l g) a = (a.0, added_of g a.1)

  pub added_on : {s t : Log} (g : GrowsBy stated δ ε s t) → Added ρ ι s → AddedBy g → Added ρ ι t
  added_on same a b = a
  added_on (grow m l g) a b = (b.0, added_on g a b.1)

-- what grows within a statement grows
legal_stated : (δ : Val) (ε : IVal) (m : Made) (s : Log) → Legal false δ ε m s → Legal true δ ε m s
legal_stated δ ε (bool (declared v)) s l = l
legal_stated δ ε (bool (aux cs)) s l = l
legal_stated δ ε (bool (side e)) s l = l
legal_stated δ ε (merged v w h) s l = l
legal_stated δ ε (int (declared_int v)) s l = l
legal_stated δ ε (int (column x d)) s l = l
legal_stated δ ε (int (chosen i e p q d)) s l = l
legal_stated δ ε (int (binary i x a b)) s l = l
legal_stated δ ε (added cs) s l = (refl, l.1, l.2)
legal_stated δ ε (defined cs) s l = l
legal_stated δ ε (known e v) s l = l

pub extends : {δ : Val} {ε : IVal} {s t : Log} → Grows δ ε s t → Extends δ ε s t
extends same = same
extends {δ} {ε} (grow {t} m l g) = grow m (legal_stated δ ε m t l) (extends g)

-- and has no clauses of statements
pub added_none : {δ : Val} {ε : IVal} (ρ : Val) (ι : IVal) {s t : Log} (g : Grows δ ε s t) → AddedBy ρ ι (extends g)
unfolding extends
added_none ρ ι same = tt
added_none ρ ι (grow (bool m) l g) = (tt, added_none ρ ι g)
added_none ρ ι (grow (merged v w h) l g) = absurd l
added_none ρ ι (grow (int m) l g) = (tt, added_none ρ ι g)
added_none ρ ι (grow (added cs) l g) = never l.0
added_none ρ ι (grow (defined cs) l g) = (tt, added_none ρ ι g)
added_none ρ ι (grow (known e v) l g) = (tt, added_none ρ ι g)

-- ---- the clauses name numbers given

module _ {stated : Bool} {δ : Val} {ε : IVal} where
  pub clauses_named : {s0 s : Log} → GrowsBy stated δ ε s0 s → clauses_of s0 ≡ [] → clauses_bound (clauses_of s) ≤ next_bool s
  unfolding clauses_of
  clauses_named same z = rw z (omega arith)
  clauses_named (grow (bool m) l g) z = omega (arith, clauses_named g z)
  clauses_named (grow (merged v w h) l g) z = absurd l
  clauses_named (grow (int m) l g) z = clauses_named g z
  clauses_named (grow {t} (added cs) l g) z = omega (arith, clauses_bound_append (clauses_of t) cs, clauses_named g z, l.1)
  clauses_named (grow {t} (defined cs) l g) z = omega (arith, clauses_bound_append (clauses_of t) cs, clauses_named g z, l.0)
  clauses_named (grow (known e v) l g) z = clauses_named g z

  pub clauses_numbered : {s0 s : Log} → GrowsBy stated δ ε s0 s → clauses_of s0 ≡ [] → ints_bound (clauses_of s) ≤ next_int s
  unfolding clauses_of
  clauses_numbered same z = rw z (omega arith)
  clauses_numbered (grow (bool m) l g) z = clauses_numbered g z
  clauses_numbered (grow (merged v w h) l g) z = absurd l
  clauses_numbered (grow (int m) l g) z = omega (arith, clauses_numbered g z)
  clauses_numbered (grow {t} (added cs) l g) z = omega (arith, ints_bound_append (clauses_of t) cs, clauses_numbered g z, l.2)
  clauses_numbered (grow {t} (defined cs) l g) z = omega (arith, ints_bound_append (clauses_of t) cs, clauses_numbered g z, l.1)
  clauses_numbered (grow (known e v) l g) z = clauses_numbered g z

-- ---- numbers stay

get_stays : {A : Type 0} (k n : A) (v w : ℕ) (o p : Option A) → (v ≡ w → o ≡ p) → p ≡ none → o ≡ some n → (b : Bool) → eqb v w ≡ b → cond b (some k) o ≡ some n
get_stays k n v w o p f l h false e = h
get_stays k n v w o p f l h true e = let q : o ≡ p = f (eqb-true v w e) in cc

module _ (stated : Bool) (δ : Val) (ε : IVal) where
  bool_stays : (m : Made) (t : Log) (v : ℕ) (l : BoolLit) → Legal stated δ ε m t → get_bool_var v t ≡ some l → get_bool_var v (m ∷ t) ≡ some l
  unfolding get_bool_var
  bool_stays (bool (declared w)) t v n l h = get_stays (lit (next_bool t) false) n v w (get_bool_var v t) (get_bool_var w t) (λ q. rw q refl) l h (eqb v w) refl
  bool_stays (bool (aux cs)) t v n l h = h
  bool_stays (bool (side e)) t v n l h = h
  bool_stays (merged w u g) t v n l h = absurd l
  bool_stays (int m) t v n l h = h
  bool_stays (added cs) t v n l h = h
  bool_stays (defined cs) t v n l h = h
  bool_stays (known e k) t v n l h = h

  int_stays : (m : Made) (t : Log) (v n : ℕ) → Legal stated δ ε m t → get_int_var v t ≡ some n → get_int_var v (m ∷ t) ≡ some n
  unfolding get_int_var
  int_stays (bool m) t v n l h = h
  int_stays (merged w u g) t v n l h = absurd l
  int_stays (int (declared_int w)) t v n l h = get_stays (next_int t) n v w (get_int_var v t) (get_int_var w t) (λ q. rw q refl) l h (eqb v w) refl
  int_stays (int (column x d)) t v n l h = h
  int_stays (int (chosen i e p q d)) t v n l h = h
  int_stays (int (binary i x a b)) t v n l h = h
  int_stays (added cs) t v n l h = h
  int_stays (defined cs) t v n l h = h
  int_stays (known e k) t v n l h = h

module _ {stated : Bool} {δ : Val} {ε : IVal} where
  pub grows_get_bool : {s t : Log} → GrowsBy stated δ ε s t → (v : ℕ) (l : BoolLit) → get_bool_var v s ≡ some l → get_bool_var v t ≡ some l
  grows_get_bool same v n h = h
  grows_get_bool (grow {t} m l g) v n h = bool_stays stated δ ε m t v n l (grows_get_bool g v n h)

  pub grows_get_int : {s t : Log} → GrowsBy stated δ ε s t → (v n : ℕ) → get_int_var v s ≡ some n → get_int_var v t ≡ some n
  grows_get_int same v n h = h
  grows_get_int (grow {t} m l g) v n h = int_stays stated δ ε m t v n l (grows_get_int g v n h)

-- ---- values

agrees_at : {A : Type 0} (ρ δ : ℕ → A) (k v n w : ℕ) (o : Option ℕ) → ρ k ≡ δ w → (o ≡ some n → ρ n ≡ δ v) → (b : Bool) → eqb v w ≡ b → cond b (some k) o ≡ some n → ρ n ≡ δ v
agrees_at ρ δ k v n w o new old false e h = old h
agrees_at ρ δ k v n w o new old true e h = let q : v ≡ w = eqb-true v w e in cc

abbrev LitAgrees : Val → Bool → Option BoolLit → Type 0
LitAgrees ρ x none = Unit {0}
LitAgrees ρ x (some l) = lit_true ρ l ≡ x

lit_negated : (ρ : Val) (x y g : Bool) (o : Option BoolLit) → LitAgrees ρ y o → x ≡ negate_if g y → LitAgrees ρ x (negate_found g o)
lit_negated ρ x y g none a e = tt
lit_negated ρ x y true (some (lit n true)) a e = sym (not-not (ρ n)) ∙ ap not a ∙ sym e
lit_negated ρ x y true (some (lit n false)) a e = rw e (ap not a)
lit_negated ρ x y false (some (lit n h)) a e = a ∙ sym e

lit_at : (ρ δ : Val) (v w : ℕ) (o p : Option BoolLit) → LitAgrees ρ (δ w) o → LitAgrees ρ (δ v) p → (t : Bool) → eqb v w ≡ t → LitAgrees ρ (δ v) (cond t o p)
lit_at ρ δ v w o p a b true e = let q : v ≡ w = eqb-true v w e in rw q a
lit_at ρ δ v w o p a b false e = b

module _ (δ : Val) (ε : IVal) (ρ : Val) (ι : IVal) where
  -- a variable that has a literal has its value there
  lits_agree : (s : Log) → Agrees δ ε ρ ι s → (v : ℕ) → LitAgrees ρ (δ v) (get_bool_var v s)
  unfolding get_bool_var
  lits_agree [] a v = tt
  lits_agree (bool (declared w) ∷ s) a v = lit_at ρ δ v w (some (lit (next_bool s) false)) (get_bool_var v s) a.0 (lits_agree s a.1 v) (eqb v w) refl
  lits_agree (bool (aux cs) ∷ s) a v = lits_agree s a.1 v
  lits_agree (bool (side e) ∷ s) a v = lits_agree s a.1 v
  lits_agree (merged w u g ∷ s) a v = lit_at ρ δ v w (negate_found g (get_bool_var u s)) (get_bool_var v s) (lit_negated ρ (δ w) (δ u) g (get_bool_var u s) (lits_agree s a.1 u) a.0) (lits_agree s a.1 v) (eqb v w) refl
  lits_agree (int m ∷ s) a v = lits_agree s a.1 v
  lits_agree (added cs ∷ s) a v = lits_agree s a.1 v
  lits_agree (defined cs ∷ s) a v = lits_agree s a.1 v
  lits_agree (known e n ∷ s) a v = lits_agree s a.1 v

  pub agrees_bool : (s : Log) → Agrees δ ε ρ ι s → (v : ℕ) (l : BoolLit) → get_bool_var v s ≡ some l → lit_true ρ l ≡ δ v
  agrees_bool s a v l h = rw h at (lits_agree s a v)

  pub agrees_int : (s : Log) → Agrees δ ε ρ ι s → (v n : ℕ) → get_int_var v s ≡ some n → ι n ≡ ε v
  unfolding get_int_var
  agrees_int [] a v n h = let z : ◌≡◌ {A = ℕ} 0 1 = cc in absurd (omega arith)
  agrees_int (bool m ∷ s) a v n h = agrees_int s a.1 v n h
  agrees_int (merged w u g ∷ s) a v n h = agrees_int s a.1 v n h
  agrees_int (int (declared_int w) ∷ s) a v n h = agrees_at ι ε (next_int s) v n w (get_int_var v s) a.0 (agrees_int s a.1 v n) (eqb v w) refl h
  agrees_int (int (column l d) ∷ s) a v n h = agrees_int s a.1 v n h
  agrees_int (int (chosen i e p q d) ∷ s) a v n h = agrees_int s a.1 v n h
  agrees_int (int (binary i l x y) ∷ s) a v n h = agrees_int s a.1 v n h
  agrees_int (added cs ∷ s) a v n h = agrees_int s a.1 v n h
  agrees_int (defined cs ∷ s) a v n h = agrees_int s a.1 v n h
  agrees_int (known e w ∷ s) a v n h = agrees_int s a.1 v n h

-- ---- conversely: what the maps say of each variable, and what else passing tells of each entry, is what values owe to the log

module _ (ρ : Val) (ι : IVal) where
  abbrev pub HeldMade : Made → Log → Type 0
  HeldMade (bool m) s = Unit {0}
  HeldMade (merged v w g) s = Unit {0}
  HeldMade (int (declared_int v)) s = Unit {0}
  HeldMade (int (column l d)) s = in_domain (ι (next_int s)) d ≡ true
  HeldMade (int (chosen i e p q d)) s = Unit {0}
  HeldMade (int (binary i l a b)) s = ι (next_int s) ≡ cond (lit_true ρ l) b a
  HeldMade (added cs) s = Unit {0}
  HeldMade (defined cs) s = all (clause_true ρ ι) cs ≡ true
  HeldMade (known e v) s = Unit {0}

  abbrev pub Held : Log → Type 0
  Held [] = Unit {0}
  Held (m ∷ s) = HeldMade m s × Held s

module _ (δ : Val) (ε : IVal) (ρ : Val) (ι : IVal) where
  abbrev pub BoolsMapped : Log → Type 0
  BoolsMapped s = (v : ℕ) (l : BoolLit) → get_bool_var v s ≡ some l → lit_true ρ l ≡ δ v

  abbrev pub IntsMapped : Log → Type 0
  IntsMapped s = (v n : ℕ) → get_int_var v s ≡ some n → ι n ≡ ε v

  held_agrees : (stated : Bool) (m : Made) (t : Log) → Legal stated δ ε m t → BoolsMapped (m ∷ t) → IntsMapped (m ∷ t) → HeldMade ρ ι m t → AgreesMade δ ε ρ ι m t
  unfolding get_bool_var get_int_var
  held_agrees stated (bool (declared w)) t l f g h = f w (lit (next_bool t) false) (rw (eq-eqb w w refl) refl)
  held_agrees stated (bool (aux cs)) t l f g h = tt
  held_agrees stated (bool (side e)) t l f g h = tt
  held_agrees stated (merged w u k) t l f g h = absurd l
  held_agrees stated (int (declared_int w)) t l f g h = g w (next_int t) (rw (eq-eqb w w refl) refl)
  held_agrees stated (int (column x d)) t l f g h = h
  held_agrees stated (int (chosen i e p q d)) t l f g h = tt
  held_agrees stated (int (binary i x a b)) t l f g h = h
  held_agrees stated (added cs) t l f g h = tt
  held_agrees stated (defined cs) t l f g h = h
  held_agrees stated (known e v) t l f g h = tt

  -- s grew from s0
  pub agrees_of : {stated : Bool} {s0 s : Log} → GrowsBy stated δ ε s0 s → (BoolsMapped s0 → Agrees δ ε ρ ι s0) → BoolsMapped s → IntsMapped s → Held ρ ι s → Agrees δ ε ρ ι s
  agrees_of same base f g h = base f
  agrees_of {stated} (grow {t} m l k) base f g h =
      (held_agrees stated m t l f g h.0, agrees_of k base (λ v n e. f v n (bool_stays stated δ ε m t v n l e)) (λ v n e. g v n (int_stays stated δ ε m t v n l e)) h.1)

-- ---- the clauses of the log: of statements and of Ifs

module _ (ρ : Val) (ι : IVal) where
  pub clauses_added : (s : Log) → all (clause_true ρ ι) (clauses_of s) ≡ true → Added ρ ι s
  unfolding clauses_of
  clauses_added [] h = tt
  clauses_added (bool m ∷ s) h = (tt, clauses_added s h)
  clauses_added (merged v w g ∷ s) h = (tt, clauses_added s h)
  clauses_added (int m ∷ s) h = (tt, clauses_added s h)
  clauses_added (added cs ∷ s) h = let k = sym (all_append (clause_true ρ ι) (clauses_of s) cs) ∙ h in (and_r (all (clause_true ρ ι) (clauses_of s)) _ k, clauses_added s (and_l (all (clause_true ρ ι) (clauses_of s)) _ k))
  clauses_added (defined cs ∷ s) h = let k = sym (all_append (clause_true ρ ι) (clauses_of s) cs) ∙ h in (tt, clauses_added s (and_l (all (clause_true ρ ι) (clauses_of s)) _ k))
  clauses_added (known e v ∷ s) h = (tt, clauses_added s h)

  pub added_clauses : (δ : Val) (ε : IVal) (s : Log) → Agrees δ ε ρ ι s → Added ρ ι s → all (clause_true ρ ι) (clauses_of s) ≡ true
  unfolding clauses_of
  added_clauses δ ε [] a d = refl
  added_clauses δ ε (bool m ∷ s) a d = added_clauses δ ε s a.1 d.1
  added_clauses δ ε (merged v w g ∷ s) a d = added_clauses δ ε s a.1 d.1
  added_clauses δ ε (int m ∷ s) a d = added_clauses δ ε s a.1 d.1
  added_clauses δ ε (added cs ∷ s) a d = all_append (clause_true ρ ι) (clauses_of s) cs ∙ and_i _ _ (added_clauses δ ε s a.1 d.1) d.0
  added_clauses δ ε (defined cs ∷ s) a d = all_append (clause_true ρ ι) (clauses_of s) cs ∙ and_i _ _ (added_clauses δ ε s a.1 d.1) a.0
  added_clauses δ ε (known e v ∷ s) a d = added_clauses δ ε s a.1 d.1

-- ---- an If found again

module _ (δ : Val) (ε : IVal) where
  pub record KnownIf (e : IntExpr) (v : ℕ) (s : Log) : Type 0 where
    pub below : v < next_int s
    pub value : (ρ : Val) (ι : IVal) → Agrees δ ε ρ ι s → ι v ≡ int_value δ ε ρ e

  known_later : (e : IntExpr) (v : ℕ) (m : Made) (s : Log) → next_int s ≤ next_int (m ∷ s) → KnownIf e v s → KnownIf e v (m ∷ s)
  known_later e v m s l k = record { below = omega (arith, k.below); value = λ ρ ι a. k.value ρ ι a.1 }

  known_from : {s0 s : Log} → ((e : IntExpr) → get_if e s0 ≡ none) → Extends δ ε s0 s → (e : IntExpr) (v : ℕ) → get_if e s ≡ some v → KnownIf e v s
  unfolding get_if
  known_from fresh same e v h = let n = fresh e in let z : ◌≡◌ {A = ℕ} 0 1 = cc in absurd (omega arith)
  known_from fresh (grow {t} (bool m) l g) e v h = known_later e v (bool m) t (omega arith) (known_from fresh g e v h)
  known_from fresh (grow (merged u w x) l g) e v h = absurd l
  known_from fresh (grow {t} (int m) l g) e v h = known_later e v (int m) t (omega arith) (known_from fresh g e v h)
  known_from fresh (grow {t} (added cs) l g) e v h = known_later e v (added cs) t (omega arith) (known_from fresh g e v h)
  known_from fresh (grow {t} (defined cs) l g) e v h = known_later e v (defined cs) t (omega arith) (known_from fresh g e v h)
  known_from fresh (grow {t} (known f n) l g) e v h = go (same_words (encode_int e) (encode_int f)) refl h (known_from fresh g e v)
    where
      go : (b : Bool) → same_words (encode_int e) (encode_int f) ≡ b → cond b (some n) (get_if e t) ≡ some v → (get_if e t ≡ some v → KnownIf e v t) → KnownIf e v (known f n ∷ t)
      go true q k i =
          let w : n ≡ v = cc in
          let x : e ≡ f = int_unique_words e f (same_is (encode_int e) (encode_int f) q) in
          rw (x, ← w) (record { below = l.0; value = λ ρ ι a. l.1 ρ ι a.1 })
      go false q k i = known_later e v (known f n) t (omega arith) (i k)

  pub known_again : {s : Log} → Lawful δ ε s → (e : IntExpr) (v : ℕ) → get_if e s ≡ some v → KnownIf e v s
  known_again l e v h = known_from l.fresh l.grows e v h

pub lawful_over : {δ : Val} {ε : IVal} {s t : Log} → Lawful δ ε s → Extends δ ε s t → Lawful δ ε t
lawful_over l g = record { start = l.start; empty = l.empty; fresh = l.fresh; grows = grows_trans l.grows g }

pub lawful_then : {δ : Val} {ε : IVal} {s t : Log} → Lawful δ ε s → Grows δ ε s t → Lawful δ ε t
lawful_then l g = lawful_over l (extends g)
