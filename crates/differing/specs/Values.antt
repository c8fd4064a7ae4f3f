-- The clauses of the values of an AllDifferent: what finding the values and writing a clause for each ask and give.
use Rattle.std.specs.Prelude.{Option, None, Some, ◌≡◌, Bool, true, List, [], map, ℕ, ◌≤◌, ◌<◌, ℤ, pos, length, get_or}
use Rattle.std.specs.Int.Signed.{lt_z}
use Rattle.laws.specs.Same.{same_words}
use Rattle.laws.specs.Lists.{all}
use Rattle.laws.specs.Slices.{Has}
use Rattle.laws.specs.Writes.{Wrote}
use Rattle.syntax.specs.Words.{max_count, star_word}
use Rattle.syntax.specs.Syntax.{Domain, enumerate, num_candidates, encode_domain, IntExpr, IVar}
use Rattle.syntax.specs.Written.{EveryInt, EveryColumn}
use Rattle.read.specs.WellFormed.{WellDomain}
use Rattle.answer.specs.Answer.{clause_words}
use Rattle.different.specs.Different.{is_like, values_used_up}
use Rattle.rows.specs.Emit.{linears_words, Clauses, Behind}
use Rattle.statements.specs.Different.{value_literal, value_clause}
use Rattle.declared.specs.InSet.{Declared}
use Rattle.differing.specs.Standing.{At, Standing}

-- ---- a domain's values

-- the domain dm, which has n values, stands at d
pub record Sized (set : List ℤ) (d n : ℕ) (dm : Domain) : Type 0 where
  pub words : Has set d (encode_domain dm)
  pub many : num_candidates dm ≡ pos n
  pub well : WellDomain dm

pub record SomeSized (set : List ℤ) (d n : ℕ) : Type 0 where
  pub domain : Domain
  pub it : Sized set d n domain
  pub few : n ≤ max_count

-- it has a value k
pub record HasValue (set : List ℤ) (d k : ℕ) : Type 0 where
  pub count : ℕ
  pub some : SomeSized set d count
  pub below : k < count

-- x is no star's word
abbrev pub PlainValue : ℤ → Type 0
PlainValue x = lt_z star_word x ≡ true

pub record ValueOf (set : List ℤ) (d k : ℕ) (r : ℤ) : Type 0 where
  pub is : (n : ℕ) (dm : Domain) → Sized set d n dm → k < n → r ≡ get_or (enumerate dm) k (pos 0)
  pub plain : PlainValue r

abbrev pub SameOf : List ℤ → ℕ → ℕ → ℕ → Bool → Type 0
SameOf set d b n r = (dm em : Domain) → Sized set d n dm → Sized set b n em → r ≡ same_words (enumerate dm) (enumerate em)

-- ---- one expression like the first, which has the domain at b

pub record One (set w : List ℤ) (p : ℕ) (ds : List Domain) (e : IntExpr) : Type 0 where
  pub stands : At w p e
  pub declared : Declared set ds
  pub below : EveryInt (λ v. v < length ds) e

pub record SomeOne (set w : List ℤ) (p : ℕ) : Type 0 where
  pub domains : List Domain
  pub expr : IntExpr
  pub it : One set w p domains expr

abbrev pub Like : List ℤ → List ℤ → ℕ → ℕ → ℕ → Bool → Type 0
Like set w p b n r = (ds : List Domain) (e : IntExpr) (dm : Domain) → One set w p ds e → Sized set b n dm → r ≡ is_like ds n dm e

-- ---- all of them

-- the expressions es over the declared domains ds
pub record Over (set w : List ℤ) (at count : ℕ) (ds : List Domain) (es : List IntExpr) : Type 0 where
  pub standing : Standing w at count es
  pub declared : Declared set ds
  pub below : EveryColumn (λ v. v < length ds) es
  pub few : count ≤ max_count

pub record SomeOver (set w : List ℤ) (at count : ℕ) : Type 0 where
  pub domains : List Domain
  pub exprs : List IntExpr
  pub it : Over set w at count domains exprs

abbrev pub AllLike : List ℤ → List ℤ → ℕ → ℕ → ℕ → Bool → Type 0
AllLike set w at count b r = (ds : List Domain) (es : List IntExpr) (dm : Domain) → Over set w at count ds es → Sized set b count dm → r ≡ all (is_like ds count dm) es

-- ---- the values that are used up

-- some variables stand from `at` on
pub record Variables (w : List ℤ) (at count : ℕ) : Type 0 where
  pub vars : List ℕ
  pub standing : Standing w at count (map IVar vars)
  pub few : count ≤ max_count

-- xs are the values of the domain at d
pub record Lists (set : List ℤ) (d count : ℕ) (xs : List ℤ) : Type 0 where
  pub domain : Domain
  pub sized : Sized set d count domain
  pub is : xs ≡ enumerate domain

-- variables that use up the values of the domain at d
pub record UsedAt (set w : List ℤ) (at count d : ℕ) : Type 0 where
  pub variables : Variables w at count
  pub sized : SomeSized set d count
  pub values : (ds : List Domain) (es : List IntExpr) → Over set w at count ds es → Lists set d count (values_used_up ds es)

-- the place of that domain, or none where no values are used up
abbrev pub Used : List ℤ → List ℤ → ℕ → ℕ → Option ℕ → Type 0
Used set w at count None = (ds : List Domain) (es : List IntExpr) → Over set w at count ds es → values_used_up ds es ≡ []
Used set w at count (Some d) = UsedAt set w at count d

-- ---- the clauses

pub record PutLiterals (w : List ℤ) (at count : ℕ) (x : ℤ) (out : List ℤ) (o : ℕ) (out' : List ℤ) (o' : ℕ) : Type 0 where
  pub wrote : (es : List IntExpr) → Standing w at count es → Wrote out o (linears_words (map (value_literal w x) es)) out' o'

pub record PutValue (w : List ℤ) (at count : ℕ) (x : ℤ) (out : List ℤ) (o : ℕ) (out' : List ℤ) (o' : ℕ) : Type 0 where
  pub wrote : (es : List IntExpr) → Standing w at count es → Wrote out o (clause_words (value_clause w es x)) out' o'

-- one for each value of the domain at d
pub record PutEach (set w : List ℤ) (at count d : ℕ) (out : List ℤ) (o k : ℕ) (out' : List ℤ) (o' k' : ℕ) : Type 0 where
  pub clauses : (es : List IntExpr) (dm : Domain) → Standing w at count es → Sized set d count dm → Clauses out o k (map (value_clause w es) (enumerate dm)) out' o' k'
  pub behind : Behind out' o' k'

-- where the values are used up
pub record PutValues (set w : List ℤ) (at count : ℕ) (out : List ℤ) (o k : ℕ) (out' : List ℤ) (o' k' : ℕ) : Type 0 where
  pub clauses : (ds : List Domain) (es : List IntExpr) → Over set w at count ds es → Clauses out o k (map (value_clause w es) (values_used_up ds es)) out' o' k'
  pub behind : Behind out' o' k'
