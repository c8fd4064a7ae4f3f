-- The linear sums of the forms: their sizes and their terms, by what refusals 9 and 10 count of a form, and what each addition on the way asks.
-- Nothing is assumed of the work slice and the counters; only the numbers of a sum's terms are words where the entries that are read are (and, where there
-- are no Ifs, the counter is within the limit).
use Rattle.std.specs.Prelude.{◌≡◌, refl, Bool, true, false, not, ◌||◌, cond, List, [], ◌∷◌, ◌++◌, map, ℕ, zero, suc, ◌+◌, ◌*◌, ◌≤◌, ◌<◌, ◌^◌, max, ℤ, pos, negsuc, nat_abs, length, eqb}
use Rattle.std.proofs.Math.Option.{Option, none, some}
use Rattle.std.proofs.Common.{zero-le, mul-le-mul_left, le_trans, arith, length-append, eq-eqb}
use Rattle.std.specs.Int.Signed.{le_z}
use Rattle.laws.specs.Bools.{or_l}
use Rattle.laws.specs.Ints.{lower, higher}
use Rattle.laws.specs.Lists.{any, different}
use Rattle.memory.specs.Places.{limit}
use Rattle.syntax.specs.Words.{max_weight}
use Rattle.syntax.specs.Syntax.{Domain, lower_bound, upper_bound, domain_of}
use Rattle.limits.specs.Limits.{domain_weight}
use Rattle.sums.specs.LinearSum.{LinearSum, linear_sum, constant, singleton, add_sum, mul_sum, get_domain_linear_sum}
use Rattle.sums.specs.Rising.{terms_of, constant_of, Proper, Each, Among}
use Rattle.sums.proofs.RisingLaws.{constant_proper, singleton_proper, add_sum_proper, constant_each, singleton_each, add_sum_each, mul_sum_each, among_left, among_right, among_map, few_terms, different_cons, different_map}
use Rattle.sums.proofs.NormLaws.{constant_load, singleton_load, add_sum_load, mul_sum_load}
use Rattle.sums.specs.Norm.{load}
use Rattle.sums.specs.Bounds.{size, reach, Room}
use Rattle.sums.proofs.BoundsLaws.{domain_weight_one, lowest_size, highest_size, room_among}
use Rattle.clauses.specs.Normalize.{hull}
use Rattle.walk.specs.Item.{int_number, int_entry}
use Rattle.walk.specs.declared.Counters.{Counters}
use Rattle.walks.specs.Tree.{Place}
use Rattle.walks.specs.Form.{IntForm, const, ivar, sum, choice, TermForms, none as no_terms, term}
use Rattle.walks.specs.Item.{has_ifs, more_ints, Item, IntItem, const_item, ivar_item, sum_item, choice_item, no_terms_item, term_item, Making, constant_making, if_making, passed, if_behind, if_number, seen_in, known_in, constant_in, number_in, cell, seen, form_item, form_int_item, form_terms_item}
use Rattle.walks.specs.Off.{int_form_off}

-- ---- what is counted of a form

-- 10: variables written, and Ifs; conditions do not count
unfoldable mutual
  pub vars : IntForm → List ℕ
  vars (const c) = []
  vars (ivar v) = v ∷ []
  vars (sum ts) = term_vars ts
  vars (choice p o c d t f) = vars t ++ vars f

  pub term_vars : TermForms → List ℕ
  term_vars no_terms = []
  term_vars (term k e ts) = vars e ++ term_vars ts

unfoldable mutual
  pub choices : IntForm → ℕ
  choices (const c) = 0
  choices (ivar v) = 0
  choices (sum ts) = term_choices ts
  choices (choice p o c d t f) = suc (choices t + choices f)

  pub term_choices : TermForms → ℕ
  term_choices no_terms = 0
  term_choices (term k e ts) = choices e + term_choices ts

-- 9: weights, and no part weighs too much
module _ (ds : List Domain) where
  unfoldable mutual
    pub weight_of : IntForm → ℕ
    weight_of (const c) = nat_abs c
    weight_of (ivar v) = domain_weight (domain_of ds v)
    weight_of (sum ts) = term_weights ts
    weight_of (choice p o c d t f) = max 1 (max (weight_of t) (weight_of f))

    pub term_weights : TermForms → ℕ
    term_weights no_terms = 0
    term_weights (term k e ts) = nat_abs k * weight_of e + term_weights ts

  unfoldable mutual
    pub Light : IntForm → Type 0
    Light (const c) = weight_of (const c) ≤ max_weight
    Light (ivar v) = weight_of (ivar v) ≤ max_weight
    Light (sum ts) = (weight_of (sum ts) ≤ max_weight) × LightTerms ts
    Light (choice p o c d t f) = (weight_of (choice p o c d t f) ≤ max_weight) × Light t × Light f

    pub LightTerms : TermForms → Type 0
    LightTerms no_terms = Unit {0}
    LightTerms (term k e ts) = Light e × LightTerms ts

  pub light_weight : (e : IntForm) → Light e → weight_of e ≤ max_weight
  unfolding Light
  light_weight (const c) h = h
  light_weight (ivar v) h = h
  light_weight (sum ts) h = h.0
  light_weight (choice p o c d t f) h = h.0

-- ---- different numbers

different_beside : (us cs : List ℕ) → different (us ++ cs) ≤ different us + length cs
different_beside [] [] = zero-le
different_beside [] (c ∷ cs) = omega (arith, different_cons c cs, different_beside [] cs)
different_beside (u ∷ us) cs = go (any (eqb u) us) refl (different_beside us cs)
  where
    go : (t : Bool) → any (eqb u) us ≡ t → different (us ++ cs) ≤ different us + length cs → different (u ∷ us ++ cs) ≤ cond t (different us) (suc (different us)) + length cs
    go true q h = rw (among_left u us cs q) h
    go false q h = omega (arith, different_cons u (us ++ cs))

-- ---- sizes of sums and domains

pub constant_size : (u : ℕ → ℕ) (l : LinearSum) → nat_abs (constant_of l) ≤ load u l
unfolding load
constant_size u (linear_sum c ts) = omega arith

pub sum_reach : (domain : ℕ → Domain) (l : LinearSum) → reach (get_domain_linear_sum domain l) ≤ load (λ v. reach (domain v)) l
unfolding get_domain_linear_sum load
sum_reach domain (linear_sum c ts) = omega (arith, lowest_size domain c ts, highest_size domain c ts)

lower_size : (x y : ℤ) (a b : ℕ) → nat_abs x ≤ a → nat_abs y ≤ b → nat_abs (lower x y) ≤ max a b
lower_size x y a b h k = go (le_z x y)
  where
    go : (t : Bool) → nat_abs (cond t x y) ≤ max a b
    go true = omega arith
    go false = omega arith

higher_size : (x y : ℤ) (a b : ℕ) → nat_abs x ≤ a → nat_abs y ≤ b → nat_abs (higher x y) ≤ max a b
higher_size x y a b h k = go (le_z x y)
  where
    go : (t : Bool) → nat_abs (cond t y x) ≤ max a b
    go true = omega arith
    go false = omega arith

pub hull_reach : (d e : Domain) (a b : ℕ) → reach d ≤ a → reach e ≤ b → reach (hull d e) ≤ max 1 (max a b)
hull_reach d e a b h k =
    let x = lower_size (lower_bound d) (lower_bound e) a b (omega arith) (omega arith) in
    let y = higher_size (upper_bound d) (upper_bound e) a b (omega arith) (omega arith) in
    omega arith

-- ---- the sums; w: the work slice

-- a number of i32
abbrev pub Word : ℕ → Type 0
Word v = v < 2147483648

-- what the code asks where it computes l + k m
pub record Adds (l : LinearSum) (k : ℤ) (m : LinearSum) : Type 0 where
  pub left : length (terms_of l) ≤ 64
  pub right : length (terms_of m) ≤ 64
  pub light : size l + nat_abs k * size m < 2 ^ 31
  pub room : Room (terms_of l) (terms_of (mul_sum k m))

module _ (ds : List Domain) (w : List ℤ) where
  abbrev pub total_of : IntForm → Counters → LinearSum
  total_of e n = (form_int_item ds e).total w n

  abbrev pub behind_of : IntForm → Counters → Counters
  behind_of e n = (form_int_item ds e).behind w n

  abbrev pub terms_total : TermForms → Counters → LinearSum → LinearSum
  terms_total ts n l = (form_terms_item ds ts).total w n l

  -- the numbers of the Ifs that are terms
  unfoldable mutual
    pub chosen : IntForm → Counters → List ℕ
    chosen (const c) n = []
    chosen (ivar v) n = []
    chosen (sum ts) n = terms_chosen ts n
    chosen (choice p o c d t f) n = if_number o p (form_item ds c) (form_item ds d) (form_int_item ds t) (form_int_item ds f) w n ∷ []

    pub terms_chosen : TermForms → Counters → List ℕ
    terms_chosen no_terms n = []
    terms_chosen (term k e ts) n = chosen e n ++ terms_chosen ts (behind_of e n)

  mutual
    unfolding chosen choices

    chosen_few : (e : IntForm) (n : Counters) → length (chosen e n) ≤ choices e
    chosen_few (const c) n = zero-le
    chosen_few (ivar v) n = zero-le
    chosen_few (sum ts) n = terms_chosen_few ts n
    chosen_few (choice p o c d t f) n = omega arith

    terms_chosen_few : (ts : TermForms) (n : Counters) → length (terms_chosen ts n) ≤ term_choices ts
    terms_chosen_few no_terms n = zero-le
    terms_chosen_few (term k e ts) n = omega (arith, length-append (chosen e n) (terms_chosen ts (behind_of e n)), chosen_few e n, terms_chosen_few ts (behind_of e n))

  -- ---- rising terms

  mutual
    unfolding form_int_item const_item ivar_item sum_item choice_item no_terms_item term_item

    pub total_proper : (e : IntForm) (n : Counters) → Proper (total_of e n)
    total_proper (const c) n = constant_proper c
    total_proper (ivar v) n = singleton_proper (int_number w v)
    total_proper (sum ts) n = terms_total_proper ts n (constant (pos 0)) (constant_proper (pos 0))
    total_proper (choice p o c d t f) n = singleton_proper (if_number o p (form_item ds c) (form_item ds d) (form_int_item ds t) (form_int_item ds f) w n)

    terms_total_proper : (ts : TermForms) (n : Counters) (l : LinearSum) → Proper l → Proper (terms_total ts n l)
    terms_total_proper no_terms n l h = h
    terms_total_proper (term k e ts) n l h = terms_total_proper ts (behind_of e n) (add_sum l (mul_sum k (total_of e n))) (add_sum_proper l (mul_sum k (total_of e n)) h)

  -- ---- numbers with a property

  module _ (P : ℕ → Type 0) where
    mutual
      unfolding form_int_item const_item ivar_item sum_item choice_item no_terms_item term_item vars chosen

      pub total_each : (e : IntForm) (n : Counters) → ((v : ℕ) → Among (vars e) v → P (int_number w v)) → ((v : ℕ) → Among (chosen e n) v → P v) → Each P (terms_of (total_of e n))
      total_each (const c) n f g = constant_each P c
      total_each (ivar v) n f g = singleton_each P (int_number w v) (f v (or_l (eqb v v) _ (eq-eqb v v refl)))
      total_each (sum ts) n f g = terms_total_each ts n (constant (pos 0)) (constant_each P (pos 0)) f g
      total_each (choice p o c d t e) n f g =
          let v = if_number o p (form_item ds c) (form_item ds d) (form_int_item ds t) (form_int_item ds e) w n in
          singleton_each P v (g v (or_l (eqb v v) _ (eq-eqb v v refl)))

      terms_total_each : (ts : TermForms) (n : Counters) (l : LinearSum) → Each P (terms_of l) → ((v : ℕ) → Among (term_vars ts) v → P (int_number w v)) → ((v : ℕ) → Among (terms_chosen ts n) v → P v)
          → Each P (terms_of (terms_total ts n l))
      terms_total_each no_terms n l h f g = h
      terms_total_each (term k e ts) n l h f g =
          let k' = behind_of e n in
          terms_total_each ts k' (add_sum l (mul_sum k (total_of e n)))
          (add_sum_each P l (mul_sum k (total_of e n)) h
          (mul_sum_each P k (total_of e n) (total_each e n (λ v m. f v (among_left v (vars e) (term_vars ts) m)) (λ v m. g v (among_left v (chosen e n) (terms_chosen ts k') m)))))
          (λ v m. f v (among_right v (vars e) (term_vars ts) m))
          (λ v m. g v (among_right v (chosen e n) (terms_chosen ts k') m))

  -- no more terms than different variables and Ifs: the numbers are among these
  abbrev emitted : IntForm → Counters → List ℕ
  emitted e n = map (int_number w) (vars e) ++ chosen e n

  emitted_few : (e : IntForm) (n : Counters) → different (emitted e n) ≤ different (vars e) + choices e
  emitted_few e n = omega (arith, different_beside (map (int_number w) (vars e)) (chosen e n), different_map (int_number w) (vars e), chosen_few e n)

  emitted_var : (e : IntForm) (n : Counters) (v : ℕ) → Among (vars e) v → Among (emitted e n) (int_number w v)
  emitted_var e n v m = among_left (int_number w v) (map (int_number w) (vars e)) (chosen e n) (among_map (int_number w) v (vars e) m)

  emitted_if : (e : IntForm) (n : Counters) (v : ℕ) → Among (chosen e n) v → Among (emitted e n) v
  emitted_if e n v m = among_right v (map (int_number w) (vars e)) (chosen e n) m

  pub total_few : (e : IntForm) (n : Counters) → length (terms_of (total_of e n)) ≤ different (vars e) + choices e
  total_few e n = le_trans (few_terms (emitted e n) 0 (terms_of (total_of e n)) (total_proper e n) (total_each (Among (emitted e n)) e n (emitted_var e n) (emitted_if e n))) (emitted_few e n)

  -- ---- sizes; u: a weight of each emitted number, no more than its variable's or its If's

  module _ (u : ℕ → ℕ) where
    unfoldable mutual
      pub Carries : IntForm → Counters → Type 0
      Carries (const c) n = Unit {0}
      Carries (ivar v) n = u (int_number w v) ≤ domain_weight (domain_of ds v)
      Carries (sum ts) n = CarriesTerms ts n
      Carries (choice p o c d t f) n = u (if_number o p (form_item ds c) (form_item ds d) (form_int_item ds t) (form_int_item ds f) w n) ≤ max 1 (max (weight_of ds t) (weight_of ds f))

      pub CarriesTerms : TermForms → Counters → Type 0
      CarriesTerms no_terms n = Unit {0}
      CarriesTerms (term k e ts) n = Carries e n × CarriesTerms ts (behind_of e n)

    mutual
      unfolding form_int_item const_item ivar_item sum_item choice_item no_terms_item term_item weight_of Carries

      pub total_load : (e : IntForm) (n : Counters) → Carries e n → load u (total_of e n) ≤ weight_of ds e
      total_load (const c) n h = omega (arith, constant_load u c)
      total_load (ivar v) n h = omega (arith, singleton_load u (int_number w v))
      total_load (sum ts) n h = omega (arith, terms_total_load ts n (constant (pos 0)) h, constant_load u (pos 0))
      total_load (choice p o c d t f) n h = le_trans (le_same (singleton_load u (if_number o p (form_item ds c) (form_item ds d) (form_int_item ds t) (form_int_item ds f) w n))) h
        where
          le_same : {a b : ℕ} → a ≡ b → a ≤ b
          le_same e = omega arith

      terms_total_load : (ts : TermForms) (n : Counters) (l : LinearSum) → CarriesTerms ts n → load u (terms_total ts n l) ≤ load u l + term_weights ds ts
      terms_total_load no_terms n l h = omega arith
      terms_total_load (term k e ts) n l h =
          let a = total_load e n h.0 in
          let b = terms_total_load ts (behind_of e n) (add_sum l (mul_sum k (total_of e n))) h.1 in
          omega (arith, add_sum_load u l (mul_sum k (total_of e n)), mul_sum_load u k (total_of e n), mul-le-mul_left (nat_abs k) a)

  mutual
    unfolding Carries

    one_each : (e : IntForm) (n : Counters) → Carries (λ v. 1) e n
    one_each (const c) n = tt
    one_each (ivar v) n = domain_weight_one (domain_of ds v)
    one_each (sum ts) n = terms_one_each ts n
    one_each (choice p o c d t f) n = omega arith

    terms_one_each : (ts : TermForms) (n : Counters) → CarriesTerms (λ v. 1) ts n
    terms_one_each no_terms n = tt
    terms_one_each (term k e ts) n = (one_each e n, terms_one_each ts (behind_of e n))

  pub total_size : (e : IntForm) (n : Counters) → size (total_of e n) ≤ weight_of ds e
  total_size e n = total_load (λ v. 1) e n (one_each e n)

  -- ---- every addition on the way; an If's own sums are its branches', asked where it is made

  unfoldable mutual
    pub Steps : IntForm → Counters → Type 0
    Steps (const c) n = Unit {0}
    Steps (ivar v) n = Unit {0}
    Steps (sum ts) n = TermSteps ts n (constant (pos 0))
    Steps (choice p o c d t f) n = Unit {0}

    -- behind the sum so far
    pub TermSteps : TermForms → Counters → LinearSum → Type 0
    TermSteps no_terms n l = Unit {0}
    TermSteps (term k e ts) n l = Steps e n × Adds l k (total_of e n) × TermSteps ts (behind_of e n) (add_sum l (mul_sum k (total_of e n)))

  -- ws: numbers that hold those of all terms
  module _ (ws : List ℕ) (few : different ws ≤ 64) where
    abbrev Declared : List ℕ → Type 0
    Declared vs = (v : ℕ) → Among vs v → Among ws (int_number w v)

    abbrev Has : List ℕ → Type 0
    Has cs = (v : ℕ) → Among cs v → Among ws v

    adds : (l : LinearSum) (k : ℤ) (m : LinearSum) → Proper l → Proper m → Each (Among ws) (terms_of l) → Each (Among ws) (terms_of m) → size l + nat_abs k * size m < 2 ^ 31 → Adds l k m
    adds l k m p q g h s = record {
      left = omega (arith, few_terms ws 0 (terms_of l) p g);
      right = omega (arith, few_terms ws 0 (terms_of m) q h);
      light = s;
      room = room_among ws few (terms_of l) (terms_of (mul_sum k m)) p g (mul_sum_each (Among ws) k m h);
    }

    mutual
      unfolding Steps Light weight_of vars chosen

      steps : (e : IntForm) (n : Counters) → Light ds e → Declared (vars e) → Has (chosen e n) → Steps e n
      steps (const c) n h f g = tt
      steps (ivar v) n h f g = tt
      steps (sum ts) n h f g = term_steps ts n (constant (pos 0)) h.1 (omega (arith, constant_load (λ v. 1) (pos 0), h.0)) (constant_proper (pos 0)) (constant_each (Among ws) (pos 0)) f g
      steps (choice p o c d t e) n h f g = tt

      term_steps : (ts : TermForms) (n : Counters) (l : LinearSum) → LightTerms ds ts → size l + term_weights ds ts ≤ max_weight → Proper l → Each (Among ws) (terms_of l) → Declared (term_vars ts) → Has (terms_chosen ts n)
          → TermSteps ts n l
      term_steps no_terms n l h s p a f g = tt
      term_steps (term k e ts) n l h s p a f g =
          let b = behind_of e n in
          let t = total_of e n in
          let f' : Declared (vars e) = λ v m. f v (among_left v (vars e) (term_vars ts) m) in
          let g' : Has (chosen e n) = λ v m. g v (among_left v (chosen e n) (terms_chosen ts b) m) in
          let a' = total_each (Among ws) e n f' g' in
          let z = mul-le-mul_left (nat_abs k) (total_size e n) in (
            steps e n h.0 f' g',
            adds l k t p (total_proper e n) a a' (omega arith),
            term_steps ts b (add_sum l (mul_sum k t)) h.1 (omega (arith, add_sum_load (λ v. 1) l (mul_sum k t), mul_sum_load (λ v. 1) k t)) (add_sum_proper l (mul_sum k t) p)
                (add_sum_each (Among ws) l (mul_sum k t) a (mul_sum_each (Among ws) k t a')) (λ v m. f v (among_right v (vars e) (term_vars ts) m)) (λ v m. g v (among_right v (chosen e n) (terms_chosen ts b) m)),
          )

  -- ---- the uses

  -- a comparison: both sides, and their difference
  pub record ComparisonFits (a b : IntForm) (n : Counters) : Type 0 where
    pub left : Steps a n
    pub right : Steps b (behind_of a n)
    pub minus : Adds (total_of a n) (negsuc 0) (total_of b (behind_of a n))

  -- a column less its new variable v, or a branch of an If less the If's number v
  pub record EquationFits (e : IntForm) (n : Counters) (v : ℕ) : Type 0 where
    pub steps : Steps e n
    pub few : length (terms_of (total_of e n)) ≤ 63
    pub light : size (total_of e n) ≤ max_weight
    pub minus : Adds (total_of e n) (negsuc 0) (singleton v)

  pub comparison_fits : (a b : IntForm) (n : Counters) → Light ds a → Light ds b → weight_of ds a + weight_of ds b ≤ max_weight → different (vars a ++ vars b) + (choices a + choices b) ≤ 64 → ComparisonFits a b n
  comparison_fits a b n h k s d =
      let n' = behind_of a n in
      let vs = vars a ++ vars b in
      let cs = chosen a n ++ chosen b n' in
      let us = map (int_number w) vs in
      let ws = us ++ cs in
      let few : different ws ≤ 64 = omega (arith, different_beside us cs, different_map (int_number w) vs, length-append (chosen a n) (chosen b n'), chosen_few a n, chosen_few b n', d) in
      let f : (v : ℕ) → Among (vars a) v → Among ws (int_number w v) = λ v m. among_left (int_number w v) us cs (among_map (int_number w) v vs (among_left v (vars a) (vars b) m)) in
      let g : (v : ℕ) → Among (vars b) v → Among ws (int_number w v) = λ v m. among_left (int_number w v) us cs (among_map (int_number w) v vs (among_right v (vars a) (vars b) m)) in
      let p : (v : ℕ) → Among (chosen a n) v → Among ws v = λ v m. among_right v us cs (among_left v (chosen a n) (chosen b n') m) in
      let q : (v : ℕ) → Among (chosen b n') v → Among ws v = λ v m. among_right v us cs (among_right v (chosen a n) (chosen b n') m) in
      record {
        left = steps ws few a n h f p;
        right = steps ws few b n' k g q;
        minus = adds ws few (total_of a n) (negsuc 0) (total_of b n') (total_proper a n) (total_proper b n') (total_each (Among ws) a n f p) (total_each (Among ws) b n' g q) (omega (arith, total_size a n, total_size b n', s));
      }

  pub equation_fits : (e : IntForm) (n : Counters) (v : ℕ) → Light ds e → different (vars e) + choices e ≤ 63 → EquationFits e n v
  equation_fits e n x h d =
      let zs = emitted e n in
      let ws = x ∷ zs in
      let few : different ws ≤ 64 = omega (arith, different_cons x zs, emitted_few e n, d) in
      let f : (v : ℕ) → Among (vars e) v → Among ws (int_number w v) = λ v m. among_right (int_number w v) (x ∷ []) zs (emitted_var e n v m) in
      let g : (v : ℕ) → Among (chosen e n) v → Among ws v = λ v m. among_right v (x ∷ []) zs (emitted_if e n v m) in
      let s = total_size e n in
      let y = light_weight ds e h in
      record {
        steps = steps ws few e n h f g;
        few = le_trans (total_few e n) d;
        light = le_trans s y;
        minus =
            adds ws few (total_of e n) (negsuc 0) (singleton x) (total_proper e n) (singleton_proper x) (total_each (Among ws) e n f g) (singleton_each (Among ws) x (or_l (eqb x x) _ (eq-eqb x x refl)))
            (omega (arith, s, y, singleton_load (λ v. 1) x));
      }

  -- ---- the numbers of the terms are words where what is read of them is: declared entries, and the Ifs' cells

  unfoldable mutual
    pub Reads : IntForm → Type 0
    Reads (const c) = Unit {0}
    Reads (ivar v) = int_entry w v ≤ 2147483648
    Reads (sum ts) = ReadsTerms ts
    Reads (choice p o c d t f) = nat_abs (cell w (p.at + 1)) ≤ 2147483648

    pub ReadsTerms : TermForms → Type 0
    ReadsTerms no_terms = Unit {0}
    ReadsTerms (term k e ts) = Reads e × ReadsTerms ts

  -- where no integer's counter is kept, it is any number within the limit
  abbrev pub Low : Counters → Type 0
  Low n = has_ifs w ≡ false → n.ints ≤ limit

  -- by an If's cell: made by each visit, its number is below the counter behind it
  low_number : (c : Bool) (z : ℤ) (n : Counters) (a b : Making) → nat_abs z ≤ 2147483648 → (c ≡ false → n.ints ≤ limit) → (c ≡ true → a.end.ints ≤ limit)
      → number_in (seen_in z) (cond (not c || known_in (seen_in z) n.ints) n (cond (constant_in (seen_in z)) a b).end).ints < 2147483648
  low_number c (pos zero) n a b h i l = omega arith
  low_number c (pos (suc v)) n a b h i l = omega arith
  low_number true (negsuc zero) n a b h i l = omega (arith, l refl)
  low_number false (negsuc zero) n a b h i l = omega (arith, i refl)
  low_number c (negsuc (suc v)) n a b h i l = omega arith

  more_low : (n : Counters) → has_ifs w ≡ true → (more_ints w 1 n).ints ≤ limit
  more_low n h = rw h (omega arith)

  constant_low : (c d : Item) (o : Option ℕ) (n : Counters) → has_ifs w ≡ true → (constant_making w c d o n).end.ints ≤ limit
  constant_low c d (some v) n h = more_low _ h
  constant_low c d none n h = more_low _ h

  if_low : (o : Option ℕ) (p : Place) (c d : Item) (t f : IntItem) (n : Counters) → nat_abs (cell w (p.at + 1)) ≤ 2147483648 → Low n → if_number o p c d t f w n < 2147483648
  unfolding if_number if_behind if_making passed seen
  if_low o p c d t f n h i = low_number (has_ifs w) (cell w (p.at + 1)) n _ _ h i (constant_low c d o (f.behind w (t.behind w n)))

  behind_low : (e : IntForm) (n : Counters) → Low n → Low (behind_of e n)
  behind_low e n h off = rw ((int_form_off w off ds e).behind n) (h off)

  declared_low : (v : ℕ) → int_entry w v ≤ 2147483648 → int_number w v < 2147483648
  declared_low v h = omega arith

  mutual
    unfolding form_int_item const_item ivar_item sum_item choice_item no_terms_item term_item Reads

    pub total_words : (e : IntForm) (n : Counters) → Low n → Reads e → Each Word (terms_of (total_of e n))
    total_words (const c) n i h = constant_each Word c
    total_words (ivar v) n i h = singleton_each Word (int_number w v) (declared_low v h)
    total_words (sum ts) n i h = terms_total_words ts n i (constant (pos 0)) (constant_each Word (pos 0)) h
    total_words (choice p o c d t f) n i h =
        singleton_each Word (if_number o p (form_item ds c) (form_item ds d) (form_int_item ds t) (form_int_item ds f) w n) (if_low o p (form_item ds c) (form_item ds d) (form_int_item ds t) (form_int_item ds f) n h i)

    pub terms_total_words : (ts : TermForms) (n : Counters) → Low n → (l : LinearSum) → Each Word (terms_of l) → ReadsTerms ts → Each Word (terms_of (terms_total ts n l))
    terms_total_words no_terms n i l g h = g
    terms_total_words (term k e ts) n i l g h =
        terms_total_words ts (behind_of e n) (behind_low e n i) (add_sum l (mul_sum k (total_of e n))) (add_sum_each Word l (mul_sum k (total_of e n)) g (mul_sum_each Word k (total_of e n) (total_words e n i h.0))) h.1

  -- ---- the bounds of a sum's domain; domain: of each emitted number, no larger than its variable or its If weighs

  module _ (domain : ℕ → Domain) where
    pub total_reach : (e : IntForm) (n : Counters) → Carries (λ v. reach (domain v)) e n → reach (get_domain_linear_sum domain (total_of e n)) ≤ weight_of ds e
    total_reach e n c = le_trans (sum_reach domain (total_of e n)) (total_load (λ v. reach (domain v)) e n c)
