-- A log with further entries on top of another: the clauses that it has more, and the domains that its numbers keep.
use Rattle.std.specs.Prelude.{◌≡◌, refl, Bool, true, ◌&&◌, List, [], ◌∷◌, ◌++◌, ℕ, ◌≤◌, ◌<◌, length, drop}
use Rattle.std.proofs.Common.{sym, ap, ◌∙◌, append_assoc, append-nil, arith}
use Rattle.std.proofs.Math.Seq.{drop-append_seam}
use Rattle.laws.specs.Bools.{and_l, and_r, and_i}
use Rattle.laws.specs.Lists.{all, all_append}
use Rattle.syntax.specs.Syntax.{Domain}
use Rattle.syntax.specs.Satisfies.{Val, IVal}
use Rattle.clauses.specs.Clause.{Clause, clause_true}
use Rattle.clauses.specs.Log.{Made, bool, merged, int, added, defined, known, Log, next_int, clauses_of}
use Rattle.clauses.specs.Valuation.{AddedMade, AgreesMade, Agrees}
use Rattle.clauses.proofs.Grow.{GrowsBy, same, grow, AddedBy}
use Rattle.clauses.proofs.Emitted.{domain_at, domain_step}

-- ---- the clauses that t has more than s

unfoldable pub clauses_since : Log → Log → List Clause
clauses_since s t = drop (length (clauses_of s)) (clauses_of t)

abbrev pub Adds : Log → Log → List Clause → Type 0
Adds s t cs = clauses_of t ≡ clauses_of s ++ cs

pub since_is : (s t : Log) (cs : List Clause) → Adds s t cs → clauses_since s t ≡ cs
unfolding clauses_since
since_is s t cs a = ap (drop (length (clauses_of s))) a ∙ drop-append_seam (clauses_of s) cs

pub adds_same : (s t : Log) → clauses_of t ≡ clauses_of s → Adds s t []
adds_same s t e = e ∙ sym (append-nil (clauses_of s))

pub adds_then : (s t u : Log) (cs es : List Clause) → Adds s t cs → Adds t u es → Adds s u (cs ++ es)
adds_then s t u cs es a b = b ∙ ap (λ (l : List Clause). l ++ es) a ∙ append_assoc (clauses_of s) cs es

adds_since : (s t : Log) (cs : List Clause) → Adds s t cs → Adds s t (clauses_since s t)
adds_since s t cs a = a ∙ ap (λ (l : List Clause). clauses_of s ++ l) (sym (since_is s t cs a))

-- ---- entries on top

pub data OnTop (s : Log) : Log → Type 0 where
  here : OnTop s s
  over : {t : Log} (m : Made) → OnTop s t → OnTop s (m ∷ t)

pub top_then : {s t u : Log} → OnTop s t → OnTop t u → OnTop s u
top_then a here = a
top_then a (over m b) = over m (top_then a b)

grown_top : {stated : Bool} {δ : Val} {ε : IVal} {s t : Log} → GrowsBy stated δ ε s t → OnTop s t
grown_top same = here
grown_top (grow m l g) = over m (grown_top g)

-- an entry's clauses
abbrev clauses_made : Made → List Clause
clauses_made (bool m) = []
clauses_made (merged v w g) = []
clauses_made (int m) = []
clauses_made (added cs) = cs
clauses_made (defined cs) = cs
clauses_made (known e n) = []

made_adds : (m : Made) (s : Log) → Adds s (m ∷ s) (clauses_made m)
unfolding clauses_of
made_adds (bool m) s = adds_same s (bool m ∷ s) refl
made_adds (merged v w g) s = adds_same s (merged v w g ∷ s) refl
made_adds (int m) s = adds_same s (int m ∷ s) refl
made_adds (added cs) s = refl
made_adds (defined cs) s = refl
made_adds (known e n) s = adds_same s (known e n ∷ s) refl

-- the clauses of s stand first
pub top_adds : {s t : Log} → OnTop s t → Adds s t (clauses_since s t)
top_adds {s} here = adds_since s s [] (adds_same s s refl)
top_adds {s} (over {t} m a) = adds_since s (m ∷ t) _ (adds_then s t (m ∷ t) _ _ (top_adds a) (made_adds m t))

since_more : {s t : Log} (m : Made) → OnTop s t → clauses_since s (m ∷ t) ≡ clauses_since s t ++ clauses_made m
since_more {s} {t} m a = since_is s (m ∷ t) _ (adds_then s t (m ∷ t) _ _ (top_adds a) (made_adds m t))

since_same : (s : Log) → clauses_since s s ≡ []
since_same s = since_is s s [] (adds_same s s refl)

-- ---- among the clauses that a log has more, all of statements and of Ifs, are those of statements

module _ (ρ : Val) (ι : IVal) where
  made_added : (m : Made) → all (clause_true ρ ι) (clauses_made m) ≡ true → AddedMade ρ ι m
  made_added (bool m) h = tt
  made_added (merged v w g) h = tt
  made_added (int m) h = tt
  made_added (added cs) h = h
  made_added (defined cs) h = tt
  made_added (known e n) h = tt

  added_made : (δ : Val) (ε : IVal) (m : Made) (s : Log) → AgreesMade δ ε ρ ι m s → AddedMade ρ ι m → all (clause_true ρ ι) (clauses_made m) ≡ true
  added_made δ ε (bool m) s a d = refl
  added_made δ ε (merged v w g) s a d = refl
  added_made δ ε (int m) s a d = refl
  added_made δ ε (added cs) s a d = d
  added_made δ ε (defined cs) s a d = a
  added_made δ ε (known e n) s a d = refl

  module _ {stated : Bool} {δ : Val} {ε : IVal} where
    all_since : {s t : Log} (m : Made) → GrowsBy stated δ ε s t → all (clause_true ρ ι) (clauses_since s (m ∷ t)) ≡ all (clause_true ρ ι) (clauses_since s t) && all (clause_true ρ ι) (clauses_made m)
    all_since {s} {t} m g = ap (all (clause_true ρ ι)) (since_more m (grown_top g)) ∙ all_append (clause_true ρ ι) (clauses_since s t) (clauses_made m)

    pub since_added : {s t : Log} (g : GrowsBy stated δ ε s t) → all (clause_true ρ ι) (clauses_since s t) ≡ true → AddedBy ρ ι g
    since_added same h = tt
    since_added {s} (grow {t} m l g) h =
        let k = sym (all_since m g) ∙ h in
        (made_added m (and_r (all (clause_true ρ ι) (clauses_since s t)) _ k), since_added g (and_l (all (clause_true ρ ι) (clauses_since s t)) _ k))

    pub added_since : {s t : Log} (g : GrowsBy stated δ ε s t) → Agrees δ ε ρ ι t → AddedBy ρ ι g → all (clause_true ρ ι) (clauses_since s t) ≡ true
    added_since {s} same a d = rw (since_same s) refl
    added_since {s} (grow {t} m l g) a d = all_since m g ∙ and_i (all (clause_true ρ ι) (clauses_since s t)) _ (added_since g a.1 d.1) (added_made δ ε m t a.0 d.0)

-- ---- a number keeps its domain

more_ints : (m : Made) (s : Log) → next_int s ≤ next_int (m ∷ s)
more_ints (bool m) s = omega arith
more_ints (merged v w g) s = omega arith
more_ints (int m) s = omega arith
more_ints (added cs) s = omega arith
more_ints (defined cs) s = omega arith
more_ints (known e n) s = omega arith

top_ints : {s t : Log} → OnTop s t → next_int s ≤ next_int t
top_ints here = omega arith
top_ints (over {t} m a) = omega (arith, top_ints a, more_ints m t)

pub top_domain : (ds : List Domain) {s t : Log} → OnTop s t → (n : ℕ) → n < next_int s → domain_at ds t n ≡ domain_at ds s n
top_domain ds here n l = refl
top_domain ds (over {t} m a) n l = domain_step ds m t n (omega (arith, top_ints a)) ∙ top_domain ds a n l
