-- Clauses written one after the other by loops that stop where the answer is too long. Assumes nothing.
use mathlib.Core.Path.{◌≡◌, refl, sym, ap, ◌∙◌, subst}
use mathlib.Core.Bool.{Bool, true, false, not}
use mathlib.Core.List.{List, [], ◌∷◌, ◌++◌, append-nil, map}
use Prim.Native.Nat.{ℕ, suc, ◌+◌, ◌-◌, ◌<◌, ◌≤◌}
use native.Mathlib.Omega.{arith}
use native.Mathlib.Numerals.{add-one}
use lib.IntN.{ℤ}
use lib.ListN.{length, length-append}
use Rattle.laws.specs.Lists.{all, keep_if, select, flat, flat_append}
use Rattle.laws.specs.Writes.{cap, Wrote, wrote_none, wrote_then, wrote_to, sets_out}
use Rattle.syntax.specs.Syntax.{Domain, enumerate, domain_of}
use Rattle.clauses.specs.Clause.{Clause}
use Rattle.answer.specs.Answer.{clause_words}
use Rattle.tables.specs.Tables.{Row, takes, column_clause, column_clauses}
use Rattle.tables.proofs.ValuesLaws.{whole_yes, whole_no}
use Rattle.rows.specs.Emit.{clauses_words, Clauses, Emits, Behind}

map-append : (as₁ bs : List Clause) → map clause_words (as₁ ++ bs) ≡ map clause_words as₁ ++ map clause_words bs
map-append [] bs = refl
map-append (a ∷ as₁) bs = ap (λ (l : List (List ℤ)). clause_words a ∷ l) (map-append as₁ bs)

clauses_append : (as₁ bs : List Clause) → clauses_words (as₁ ++ bs) ≡ clauses_words as₁ ++ clauses_words bs
clauses_append as₁ bs = ap flat (map-append as₁ bs) ∙ flat_append (map clause_words as₁) (map clause_words bs)

-- ---- clauses after clauses

pub clauses_none : {out : List ℤ} {o c : ℕ} → Behind out o c → Clauses out o c [] out o c
clauses_none {out} {o} b = record { words = wrote_none out o b.room.low; count = λ h. omega arith; low = b.low }

pub clauses_one : {out out' : List ℤ} {o o' c : ℕ} (d : Clause) → c ≤ o → o < o' → Wrote out o (clause_words d) out' o' → Clauses out o c (d ∷ []) out' o' (c + 1)
clauses_one d h l w = record { words = wrote_to (sym (append-nil (clause_words d))) w; count = λ k. refl; low = omega arith }

pub clauses_then : {out a b : List ℤ} {o p q c d e : ℕ} {xs ys : List Clause} → length out ≤ cap → Clauses out o c xs a p d → Clauses a p d ys b q e → Clauses out o c (xs ++ ys) b q e
clauses_then {p = p} {d = d} {xs = xs} {ys = ys} l x y = record {
  words = wrote_to (sym (clauses_append xs ys)) (wrote_then l x.words y.words);
  count = λ h.
      let before : p < cap = omega (arith, y.words.at) in
      omega (arith, x.count before, y.count h, length-append xs ys);
  low = y.low;
}

pub clauses_to : {out out' : List ℤ} {o o' c c' : ℕ} {xs ys : List Clause} → xs ≡ ys → Clauses out o c xs out' o' c' → Clauses out o c ys out' o' c'
clauses_to {out} {out'} {o} {o'} {c} {c'} e w = subst (λ (zs : List Clause). Clauses out o c zs out' o' c') e w

-- too long: nothing more is written
pub clauses_stop : {out : List ℤ} {o c : ℕ} → Behind out o c → o ≡ cap → (xs : List Clause) → Clauses out o c xs out o c
clauses_stop {out} {o} b e xs = record {
  words = record { words = sym (sets_out out o (clauses_words xs) (omega (arith, b.room.room))); at = omega arith };
  count = λ h. absurd (omega arith);
  low = b.low;
}

-- ---- a loop: whatever writes the rest writes the whole

pub record Loop (out₀ : List ℤ) (o k : ℕ) (whole rest : List Domain → List Clause) (Fit : List Domain → Type 0) (out : List ℤ) (q c : ℕ) : Type 0 where
  pub behind : Behind out q c
  pub same : length out ≡ length out₀
  pub to : (ds : List Domain) → Fit ds → (out' : List ℤ) (q' c' : ℕ) → Clauses out q c (rest ds) out' q' c' → Clauses out₀ o k (whole ds) out' q' c'

pub loop_start : (out : List ℤ) (o k : ℕ) (whole rest : List Domain → List Clause) (Fit : List Domain → Type 0) → Behind out o k → ((ds : List Domain) → rest ds ≡ whole ds) → Loop out o k whole rest Fit out o k
loop_start out o k whole rest Fit b e = record { behind = b; same = refl; to = λ ds f out' q' c' w. clauses_to (e ds) w }

module _ (out₀ : List ℤ) (o k : ℕ) (whole rest : List Domain → List Clause) (Fit : List Domain → Type 0) (out : List ℤ) (q c : ℕ) (v : Loop out₀ o k whole rest Fit out q c) where
  pub loop_next : (here later : List Domain → List Clause) (Fit' : List Domain → Type 0) (out' : List ℤ) (q' c' : ℕ) → ((ds : List Domain) → rest ds ≡ here ds ++ later ds) → ((ds : List Domain) → Fit ds → Fit' ds)
      → length out' ≡ length out → Emits out q c here Fit' out' q' c' → Loop out₀ o k whole later Fit out' q' c'
  loop_next here later Fit' out' q' c' e g l w = record {
    behind = record { room = record { low = w.place; room = omega (arith, v.behind.room.room) }; low = w.low };
    same = l ∙ v.same;
    to = λ ds f out'' q'' c'' u. v.to ds f out'' q'' c'' (clauses_to (sym (e ds)) (clauses_then v.behind.room.room (w.clauses ds (g ds f)) u));
  }

  pub loop_end : ((ds : List Domain) → rest ds ≡ []) → Emits out₀ o k whole Fit out q c
  loop_end e = record {
    place = v.behind.room.low;
    low = v.behind.low;
    clauses = λ ds f. v.to ds f out q c (clauses_to (sym (e ds)) (clauses_none v.behind));
  }

  pub loop_stop : q ≡ cap → Emits out₀ o k whole Fit out q c
  loop_stop e = record {
    place = v.behind.room.low;
    low = v.behind.low;
    clauses = λ ds f. v.to ds f out q c (clauses_stop v.behind e (rest ds));
  }

-- ---- one column

module _ (vs : List ℕ) (p i : ℕ) (g : Row × List Row) (Fit : List Domain → Type 0) where
  column_whole : (ds : List Domain) → length (select (takes i g.1) (enumerate (domain_of ds i))) ≡ length (enumerate (domain_of ds i)) → column_clauses vs ds p i 1 g ≡ []
  unfolding column_clauses
  column_whole ds e = let z : all (takes i g.1) (enumerate (domain_of ds i)) ≡ true = whole_yes (takes i g.1) (enumerate (domain_of ds i)) e in rw z refl

  column_one : (ds : List Domain) → (length (select (takes i g.1) (enumerate (domain_of ds i))) ≡ length (enumerate (domain_of ds i)) → ⊥) → column_clauses vs ds p i 1 g ≡ column_clause vs ds p i g ∷ []
  unfolding column_clauses
  column_one ds e = let z : all (takes i g.1) (enumerate (domain_of ds i)) ≡ false = whole_no (takes i g.1) (enumerate (domain_of ds i)) e in rw z refl

  -- c: the values of the group; size: of the domain
  pub column_none : (out : List ℤ) (o k c size : ℕ) → Behind out o k → c ≡ size
      → ((ds : List Domain) → Fit ds → (c ≡ length (select (takes i g.1) (enumerate (domain_of ds i)))) × (length (enumerate (domain_of ds i)) ≡ size))
      → Emits out o k (λ ds. column_clauses vs ds p i 1 g) Fit out o k
  column_none out o k c size b e f = record {
    place = b.room.low;
    low = b.low;
    clauses = λ ds a. clauses_to (sym (column_whole ds (sym (f ds a).0 ∙ e ∙ sym (f ds a).1))) (clauses_none b);
  }

  pub column_some : (out out' : List ℤ) (o k c size q : ℕ) → Behind out o k → (c ≡ size → ⊥) → o < q → q ≤ cap
      → ((ds : List Domain) → Fit ds → (c ≡ length (select (takes i g.1) (enumerate (domain_of ds i)))) × (length (enumerate (domain_of ds i)) ≡ size))
      → ((ds : List Domain) → Fit ds → Wrote out o (clause_words (column_clause vs ds p i g)) out' q)
      → Emits out o k (λ ds. column_clauses vs ds p i 1 g) Fit out' q (k + 1)
  column_some out out' o k c size q b n l h f w = record {
    place = h;
    low = omega (arith, b.low);
    clauses = λ ds a. clauses_to (sym (column_one ds (λ z. n ((f ds a).0 ∙ z ∙ (f ds a).1)))) (clauses_one (column_clause vs ds p i g) b.low l (w ds a));
  }

-- ---- the columns of a group

columns_more : (vs : List ℕ) (ds : List Domain) (p i m : ℕ) (g : Row × List Row) → column_clauses vs ds p i (suc m) g ≡ column_clauses vs ds p i 1 g ++ column_clauses vs ds p (i + 1) m g
unfolding column_clauses
columns_more vs ds p i m g = rw (add-one i) (go (not (all (takes i g.1) (enumerate (domain_of ds i)))))
  where
    go : (t : Bool) → keep_if t (column_clause vs ds p i g) (column_clauses vs ds p (suc i) m g) ≡ keep_if t (column_clause vs ds p i g) [] ++ column_clauses vs ds p (suc i) m g
    go true = refl
    go false = refl

module _ (vs : List ℕ) (n p : ℕ) (g : Row × List Row) where
  pub columns_step : (i : ℕ) → i < n → (ds : List Domain) → column_clauses vs ds p i (n - i) g ≡ column_clauses vs ds p i 1 g ++ column_clauses vs ds p (i + 1) (n - (i + 1)) g
  columns_step i h ds =
      let e : n - i ≡ suc (n - (i + 1)) = omega arith in
      ap (λ (k : ℕ). column_clauses vs ds p i k g) e ∙ columns_more vs ds p i (n - (i + 1)) g

  pub columns_none : (i : ℕ) → n ≤ i → (ds : List Domain) → column_clauses vs ds p i (n - i) g ≡ []
  unfolding column_clauses
  columns_none i h ds = let e : n - i ≡ 0 = omega arith in rw e
