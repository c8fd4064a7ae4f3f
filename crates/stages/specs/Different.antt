-- AllDifferent in both walks with Ifs: its pairs (Pairs), then a clause for each value where the values are used up. Then all its expressions are variables,
-- which have numbers behind the pairs, so that these clauses make none (`different_walk`, `different_steps`, `different_known`).
use Rattle.std.specs.Prelude.{◌≡◌, Bool, cond, ◌⊎◌, ℕ, suc, ◌+◌, ◌-◌, ◌*◌, ◌≤◌, ◌<◌, ℤ}
use Rattle.std.proofs.Math.Path.{refl, sym, ap, subst}
use Rattle.std.proofs.Common.{◌∙◌, arith}
use Rattle.std.proofs.Math.Bool.{true, false}
use mathlib.Core.List.{List, [], ◌∷◌, ◌++◌, map, append-nil}
use Rattle.std.proofs.Math.Logic.{inl, inr}
use Rattle.std.proofs.Math.ListN.{length}
use Rattle.laws.specs.Bools.{never, and_r}
use Rattle.laws.specs.Lists.{all}
use Rattle.memory.specs.Places.{folded_end, limit}
use Rattle.syntax.specs.Syntax.{Domain, enumerate, domain_of, Ne, IntExpr, IConst, IVar, Linear, If, BoolExpr, Or, Cmp, Members}
use Rattle.words.specs.Exact.{Each}
use Rattle.sums.specs.Linear.{linear_of}
use Rattle.clauses.specs.Clause.{LinearLit, Clause, clause}
use Rattle.clauses.specs.Log.{added, Log, get_if, convert_int_var, clauses_of}
use Rattle.clauses.specs.Disjunction.{Out, Outs, Sorted, pool, sorted, each_longer, finish_disjunction, finish_sorted, normalize_disjunction}
use Rattle.clauses.specs.Normalize.{register, normalize_int_expr, normalize_int_var, no_run, run_then, disjunction_of, normalize_comparison, normalize_bool_expr, normalize_members}
use Rattle.clauses.specs.Split.{Split, unsplit, split_one, split_two, tseitin_transformation_bool, tseitin_transformation_members, register_each, normalize_and_register_expr}
use Rattle.answer.specs.Answer.{clause_words}
use Rattle.different.specs.Different.{pair_rules, each_equals, value_rule, is_like, values_of_first, values_used_up, different_rules, normalize_rules}
use Rattle.walk.proofs.Texts.{layout_words}
use Rattle.walk.proofs.Grow.{Grows, same, then, grow_added, Fit, back}
use Rattle.walk.proofs.Ints.{var_found}
use Rattle.walks.specs.Grow.{int_var_grows}
use Rattle.walks.specs.Meet.{State}
use Rattle.walks.specs.Implements.{Registers}
use Rattle.walks.specs.Constant.{Named}
use Rattle.walks.specs.Plain.{PlainInt}
use Rattle.walks.specs.Leaves.{grows_words}
use Rattle.walks.specs.Visit.{good_ready}
use Rattle.walks.specs.Walked.{fixed, names}
use Rattle.walks.specs.Reach.{LightIfs, rule_light}
use Rattle.walks.specs.Rules.{good_added}
use Rattle.statements.specs.Different.{value_literal, value_clause, Found}
use Rattle.stages.specs.StatementsParts.{Stage, steps, rooms, AllKnown, Chains, chains_less, chains_more, UpTo, Standing, good as passed-good, Walks, AllWalk, standing_less}
use Rattle.stages.specs.StatementsTrees.{rule_grows}
use Rattle.stages.specs.Pairs.{rules_append, pairs_stages, pairs_steps, pairs_known, sides_words, pairs_chains, pairs_up_to, pairs_rooms, SidesStand, pairs_walk}

-- ---- where the values are used up all are variables

pub record Variables (es : List IntExpr) : Type 0 where
  pub vs : List ℕ
  pub are : es ≡ map IVar vs

abbrev pub variables : List IntExpr → List ℕ
variables [] = []
variables (IConst c ∷ es) = variables es
variables (IVar v ∷ es) = v ∷ variables es
variables (Linear ts ∷ es) = variables es
variables (If i c t f ∷ es) = variables es

variables_are : (vs : List ℕ) → variables (map IVar vs) ≡ vs
variables_are [] = refl
variables_are (v ∷ vs) = ap (λ (us : List ℕ). v ∷ us) (variables_are vs)

module _ (ds : List Domain) where
  like_variables : (n : ℕ) (d : Domain) (es : List IntExpr) → all (is_like ds n d) es ≡ true → Variables es
  like_variables n d [] h = record { vs = []; are = refl }
  like_variables n d (IConst c ∷ es) h = never h
  like_variables n d (IVar v ∷ es) h =
      let r = like_variables n d es (and_r (is_like ds n d (IVar v)) (all (is_like ds n d) es) h) in
      record { vs = v ∷ r.vs; are = ap (λ (us : List IntExpr). IVar v ∷ us) r.are }
  like_variables n d (Linear ts ∷ es) h = never h
  like_variables n d (If i c t f ∷ es) h = never h

  first_variables : (n : ℕ) (es : List IntExpr) → (values_of_first ds n es ≡ []) ⊎ Variables es
  unfolding values_of_first
  first_variables n [] = inl refl
  first_variables n (IConst c ∷ es) = inl refl
  first_variables n (IVar v ∷ es) = go (all (is_like ds n (domain_of ds v)) (IVar v ∷ es)) refl
    where
      go : (b : Bool) → all (is_like ds n (domain_of ds v)) (IVar v ∷ es) ≡ b → (cond b (enumerate (domain_of ds v)) [] ≡ []) ⊎ Variables (IVar v ∷ es)
      go true h = inr (like_variables n (domain_of ds v) (IVar v ∷ es) h)
      go false h = inl refl
  first_variables n (Linear ts ∷ es) = inl refl
  first_variables n (If i c t f ∷ es) = inl refl

-- ---- a value's rule over variables that have numbers

abbrev singles : List LinearLit → List (List Clause)
singles ks = map (λ k. clause [] (k ∷ []) ∷ []) ks

singles_sorted : (ks : List LinearLit) → sorted (singles ks) ≡ pool [] ks []
unfolding sorted
singles_sorted [] = refl
singles_sorted (k ∷ ks) = rw (singles_sorted ks) refl

singles_finish : (ks : List LinearLit) (s : Log) → normalize_disjunction (singles ks) s ≡ (clause [] ks ∷ [], s)
unfolding normalize_disjunction finish_sorted finish_disjunction each_longer
singles_finish [] s = refl
singles_finish (k ∷ []) s = refl
singles_finish (k ∷ l ∷ ks) s = ap (λ (x : Sorted). finish_sorted x s) (singles_sorted (k ∷ l ∷ ks))

equals_split : (x : ℤ) (vs : List ℕ) (s : Log) → tseitin_transformation_members (each_equals x (map IVar vs)) false s ≡ unsplit (each_equals x (map IVar vs)) s
unfolding tseitin_transformation_members unsplit split_two
equals_split x [] s = refl
equals_split x (v ∷ vs) s = rw (equals_split x vs s) refl

rule_split : (x : ℤ) (vs : List ℕ) (s : Log) → tseitin_transformation_bool (value_rule (map IVar vs) x) false s ≡ unsplit (value_rule (map IVar vs) x) s
unfolding tseitin_transformation_bool split_one unsplit
rule_split x vs s = ap (λ (c : Split Members). record { result = Or c.result; extra = c.extra; log = c.log }) (equals_split x vs s)

less_one : (k n : ℕ) → k ≡ suc n → k - 1 ≡ n
less_one k n h = omega arith

module _ (ds : List Domain) (w : List ℤ) (x : ℤ) where
  abbrev literals : List ℕ → List LinearLit
  literals vs = map (value_literal w x) (map IVar vs)

  equals_members : (vs : List ℕ) (s : Log) → Each (Found s) vs → Fit w s → normalize_members ds (each_equals x (map IVar vs)) false s ≡ (singles (literals vs), s)
  unfolding normalize_members normalize_bool_expr normalize_comparison no_run run_then normalize_int_expr normalize_int_var convert_int_var value_literal linear_of
  equals_members [] s h f = refl
  equals_members (v ∷ vs) s h f = rw (h.0.is, equals_members vs s h.1 f, less_one _ _ (f.agree_int v h.0.number h.0.is)) refl

  abbrev rule : List ℕ → BoolExpr
  rule vs = value_rule (map IVar vs) x

  value_disjunction : (vs : List ℕ) (s : Log) → Each (Found s) vs → Fit w s → normalize_bool_expr ds (rule vs) false s ≡ (clause [] (literals vs) ∷ [], s)
  unfolding normalize_bool_expr disjunction_of
  value_disjunction vs s h f = ap (λ (o : Outs). normalize_disjunction o.0 o.1) (equals_members vs s h f) ∙ singles_finish (literals vs) s

  value_registered : (vs : List ℕ) (s : Log) → Each (Found s) vs → Fit w s → register_each ds (rule vs ∷ []) s ≡ added (value_clause w (map IVar vs) x ∷ []) ∷ s
  unfolding register_each register value_clause
  value_registered vs s h f = ap (λ (o : Out). register o) (value_disjunction vs s h f)

  value_out : (vs : List ℕ) (s : Log) → Each (Found s) vs → Fit w s → normalize_and_register_expr ds (rule vs) s ≡ added (value_clause w (map IVar vs) x ∷ []) ∷ s
  unfolding normalize_and_register_expr unsplit
  value_out vs s h f = ap (λ (c : Split BoolExpr). register_each ds (c.extra ++ (c.result ∷ [])) c.log) (rule_split x vs s) ∙ value_registered vs s h f

-- ---- a value as a part: its clause, and no number

-- behind the pairs of an AllDifferent that ends at stop
abbrev pub value_stage : List Domain → List IntExpr → ℕ → ℤ → Stage
value_stage ds es stop x = record {
  part = record { meet = λ st. st; text = λ w n. clause_words (value_clause w es x); lines = λ w n. 1; behind = λ w n. n };
  step = normalize_and_register_expr ds (value_rule es x);
  owns = λ s. [];
  knows = variables es;
  room = 0;
  start = stop;
  past = stop;
  from = stop;
  to = stop;
}

module _ (ds : List Domain) (F : List ℤ) (parted : ℕ → Bool) (rec cap : ℕ) (with_ifs : Bool) (before : List ℤ) (low : cap < limit) (stop : ℕ) (x : ℤ) where
  module _ (vs : List ℕ) where
    abbrev es : List IntExpr
    es = map IVar vs

    abbrev stage : Stage
    stage = value_stage ds es stop x

    known : (s : Log) → Each (Found s) (variables es) → Each (Found s) vs
    known s h = subst (λ (us : List ℕ). Each (Found s) us) (variables_are vs) h

    value_adds : (w : List ℤ) (s : Log) → Each (Found s) (variables es) → Fit w s → Registers (clause_words (value_clause w es x)) 1 s (stage.step s)
    unfolding clauses_of
    value_adds w s h f = rw (value_out ds w x vs s (known s h) f) (record {
      cs = value_clause w es x ∷ [];
      eq = refl;
      words = sym (layout_words (value_clause w es x ∷ []) ∙ append-nil (clause_words (value_clause w es x)));
      lines = refl;
    })

    -- the state stays that of the log
    value_stands : (n : ℕ) (st : State) (s : Log) → Each (Found s) (variables es) → Fit st.work s → Standing ds F parted rec cap with_ifs before low stop n st s → Standing ds F parted rec cap with_ifs before low stop n st (stage.step s)
    unfolding get_if
    value_stands n st s k f h = subst (λ (t : Log). Standing ds F parted rec cap with_ifs before low stop n st t) (sym (value_out ds st.work x vs s (known s k) f)) (record {
      key = h.key;
      places = h.places;
      state = good_added ds F parted h.key rec cap with_ifs before h.places low (value_clause st.work es x ∷ []) n st s h.state;
      ifs = λ e v g. h.ifs e v g;
      light = subst (λ (t : Log). LightIfs ds t) (value_out ds st.work x vs s (known s k) f) (rule_light ds (value_rule es x) s h.light);
      ahead = h.ahead;
    })

    variables_walk : Walks ds F parted rec cap with_ifs before low stage
    variables_walk = record {
      ordered = omega arith;
      grows = rule_grows ds (value_rule es x);
      owned_in = λ s. tt;
      spends = λ st f. refl;
      first = λ n st s k h u.
          let f = (good_ready ds F PlainInt parted h.key (fixed ds) rec cap with_ifs before (Named ds) (names ds) h.places low (0 + n) st s h.state).fit in
          passed-good (value_stands n st s k f (standing_less ds F parted rec cap with_ifs before low stop stop (0 + n) n st s (omega arith) (omega arith) h)) (omega (arith, u, grows_words (rule_grows ds (value_rule es x) s)))
          (record { adds = value_adds st.work s k f; owned = tt; stays = λ q l m. refl });
      second = λ i w s k r o.
          let g = rule_grows ds (value_rule es x) s in
          let f = back g r.fit in
          record { adds = value_adds w s k f; behind = rw (value_out ds w x vs s (known s k) f) refl };
    }

  pub value_walks : (es : List IntExpr) → Variables es → Walks ds F parted rec cap with_ifs before low (value_stage ds es stop x)
  value_walks es v = subst (λ (us : List IntExpr). Walks ds F parted rec cap with_ifs before low (value_stage ds us stop x)) (sym v.are) (variables_walk v.vs)

-- ---- variables have numbers behind the pairs

module _ (ds : List Domain) where
  rules_grow : (es : List BoolExpr) (s : Log) → Grows s (normalize_rules ds es s)
  unfolding normalize_rules
  rules_grow [] s = same
  rules_grow (e ∷ es) s = then (rule_grows ds e s) (rules_grow es (normalize_and_register_expr ds e s))

  found_later : {s t : Log} → Grows s t → (v : ℕ) → Found s v → Found t v
  found_later g v h = record { number = h.number; is = g.keep_int v h.number h.is }

  all_later : {s t : Log} → Grows s t → (vs : List ℕ) → Each (Found s) vs → Each (Found t) vs
  all_later g [] h = tt
  all_later g (v ∷ vs) h = (found_later g v h.0, all_later g vs h.1)

  converted : (v : ℕ) (s : Log) → Found (convert_int_var v s).1 v
  converted v s = record { number = (convert_int_var v s).0; is = var_found v s }

  -- both sides of a pair
  pair_found : (a b : ℕ) (s : Log) → let t = normalize_and_register_expr ds (Cmp Ne (IVar a) (IVar b)) s in Found t a × Found t b
  unfolding normalize_and_register_expr tseitin_transformation_bool unsplit split_two register_each register normalize_bool_expr normalize_comparison normalize_int_expr normalize_int_var
  pair_found a b s =
      let z : Log = (convert_int_var a s).1 in
      let g = grow_added _ (convert_int_var b z).1 in
      (found_later (then (int_var_grows b z) g) a (converted a s), found_later g b (converted b z))

  row_found : (a : ℕ) (vs : List ℕ) (s : Log) → Each (Found (normalize_rules ds (map (Cmp Ne (IVar a)) (map IVar vs)) s)) vs
  unfolding normalize_rules
  row_found a [] s = tt
  row_found a (v ∷ vs) s =
      let t = normalize_and_register_expr ds (Cmp Ne (IVar a) (IVar v)) s in
      (found_later (rules_grow (map (Cmp Ne (IVar a)) (map IVar vs)) t) v (pair_found a v s).1, row_found a vs t)

  -- two of them, and those behind
  pairs_found : (a b : ℕ) (vs : List ℕ) (s : Log) → Each (Found (normalize_rules ds (pair_rules (map IVar (a ∷ b ∷ vs))) s)) (a ∷ b ∷ vs)
  unfolding pair_rules
  pairs_found a b vs s =
      let row = map (Cmp Ne (IVar a)) (map IVar (b ∷ vs)) in
      let t = normalize_rules ds row s in
      let g = rules_grow (pair_rules (map IVar (b ∷ vs))) t in
      let f : Found t a = unfold normalize_rules in found_later (rules_grow (map (Cmp Ne (IVar a)) (map IVar vs)) (normalize_and_register_expr ds (Cmp Ne (IVar a) (IVar b)) s)) a (pair_found a b s).0 in
      subst (λ (u : Log). Each (Found u) (a ∷ b ∷ vs)) (sym (rules_append ds row (pair_rules (map IVar (b ∷ vs))) s)) (found_later g a f, all_later g (b ∷ vs) (row_found a (b ∷ vs) s))

-- ---- all values, in front of the stages ys

record TwoVariables (es : List IntExpr) : Type 0 where
  pub a : ℕ
  pub b : ℕ
  pub vs : List ℕ
  pub are : es ≡ map IVar (a ∷ b ∷ vs)

two_of : (e f : IntExpr) (es : List IntExpr) (vs : List ℕ) → e ∷ f ∷ es ≡ map IVar vs → TwoVariables (e ∷ f ∷ es)
two_of e f es [] h = absurd (omega (arith, ap length h))
two_of e f es (v ∷ []) h = absurd (omega (arith, ap length h))
two_of e f es (a ∷ b ∷ vs) h = record { a = a; b = b; vs = vs; are = h }

module _ (ds : List Domain) where
  used_up : (es : List IntExpr) → (values_used_up ds es ≡ []) ⊎ TwoVariables es
  unfolding values_used_up
  used_up [] = inl refl
  used_up (e ∷ []) = inl refl
  used_up (e ∷ f ∷ es) = go (first_variables ds (length (e ∷ f ∷ es)) (e ∷ f ∷ es))
    where
      go : (values_of_first ds (length (e ∷ f ∷ es)) (e ∷ f ∷ es) ≡ []) ⊎ Variables (e ∷ f ∷ es) → (values_of_first ds (length (e ∷ f ∷ es)) (e ∷ f ∷ es) ≡ []) ⊎ TwoVariables (e ∷ f ∷ es)
      go (inl h) = inl h
      go (inr v) = inr (two_of e f es v.vs v.are)

  module _ (es : List IntExpr) (stop : ℕ) (ys : List Stage) where
    unfoldable pub values_stages : List ℤ → List Stage
    values_stages [] = ys
    values_stages (x ∷ xs) = value_stage ds es stop x ∷ values_stages xs

    values_steps : (xs : List ℤ) (s : Log) → steps (values_stages xs) s ≡ steps ys (normalize_rules ds (map (value_rule es) xs) s)
    unfolding values_stages steps normalize_rules
    values_steps [] s = refl
    values_steps (x ∷ xs) s = values_steps xs (normalize_and_register_expr ds (value_rule es x) s)

    values_known : (xs : List ℤ) (s : Log) → Each (Found s) (variables es) → AllKnown ys (normalize_rules ds (map (value_rule es) xs) s) → AllKnown (values_stages xs) s
    unfolding values_stages AllKnown normalize_rules
    values_known [] s k h = h
    values_known (x ∷ xs) s k h = (k, values_known xs (normalize_and_register_expr ds (value_rule es x) s) (all_later ds (rule_grows ds (value_rule es x) s) (variables es) k) h)

    values_chains : (xs : List ℤ) → Chains stop stop ys → Chains stop stop (values_stages xs)
    unfolding values_stages
    values_chains [] h = h
    values_chains (x ∷ xs) h = chains_more (value_stage ds es stop x) (values_stages xs) (values_chains xs h)

    values_up_to : (b : ℕ) → stop ≤ b → UpTo b ys → (xs : List ℤ) → UpTo b (values_stages xs)
    unfolding values_stages
    values_up_to b l h [] = h
    values_up_to b l h (x ∷ xs) = (l, values_up_to b l h xs)

    values_rooms : (xs : List ℤ) → rooms (values_stages xs) ≡ rooms ys
    unfolding values_stages rooms
    values_rooms [] = refl
    values_rooms (x ∷ xs) = omega (arith, values_rooms xs)

    values_walk : (F : List ℤ) (parted : ℕ → Bool) (rec cap : ℕ) (with_ifs : Bool) (before : List ℤ) (low : cap < limit) → Variables es → AllWalk ds F parted rec cap with_ifs before low ys → (xs : List ℤ) → AllWalk ds F parted rec cap with_ifs before low (values_stages xs)
    unfolding values_stages
    values_walk F parted rec cap with_ifs before low v h [] = h
    values_walk F parted rec cap with_ifs before low v h (x ∷ xs) = (value_walks ds F parted rec cap with_ifs before low stop x es v, values_walk F parted rec cap with_ifs before low v h xs)

  -- ---- the statement: its expressions stand from p to stop

  module _ (rec cap : ℕ) (es : List IntExpr) (p stop : ℕ) (ys : List Stage) where
    abbrev values : List Stage
    values = values_stages es stop ys (values_used_up ds es)

    unfoldable pub different_stages : List Stage
    different_stages = pairs_stages ds rec cap stop es p (values_stages es stop ys (values_used_up ds es))

    pub different_steps : (s : Log) → steps different_stages s ≡ steps ys (normalize_rules ds (different_rules ds es) s)
    unfolding different_stages different_rules
    different_steps s =
        let t = normalize_rules ds (pair_rules es) s in
        pairs_steps ds rec cap stop es p values s ∙ values_steps es stop ys (values_used_up ds es) t ∙ ap (steps ys) (sym (rules_append ds (pair_rules es) (map (value_rule es) (values_used_up ds es)) s))

    pub different_known : (s : Log) → AllKnown ys (normalize_rules ds (different_rules ds es) s) → AllKnown different_stages s
    unfolding different_stages different_rules
    different_known s h =
        let t = normalize_rules ds (pair_rules es) s in
        let k : AllKnown ys (normalize_rules ds (map (value_rule es) (values_used_up ds es)) t) = subst (AllKnown ys) (rules_append ds (pair_rules es) (map (value_rule es) (values_used_up ds es)) s) h in
        pairs_known ds rec cap stop es p values s (go t refl k (used_up es))
      where
        go : (t : Log) → t ≡ normalize_rules ds (pair_rules es) s → AllKnown ys (normalize_rules ds (map (value_rule es) (values_used_up ds es)) t) → (values_used_up ds es ≡ []) ⊎ TwoVariables es → AllKnown (values_stages es stop ys (values_used_up ds es)) t
        go t i k (inl e) =
            let j : AllKnown ys t = unfold normalize_rules in subst (λ (xs : List ℤ). AllKnown ys (normalize_rules ds (map (value_rule es) xs) t)) e k in
            subst (λ (xs : List ℤ). AllKnown (values_stages es stop ys xs) t) (sym e) (unfold values_stages in j)
        go t i k (inr v) =
            let us = v.a ∷ v.b ∷ v.vs in
            let f : Each (Found (normalize_rules ds (pair_rules es) s)) (variables es) =
            subst (λ (ws : List IntExpr). Each (Found (normalize_rules ds (pair_rules ws) s)) (variables ws)) (sym v.are)
            (subst (λ (ns : List ℕ). Each (Found (normalize_rules ds (pair_rules (map IVar us)) s)) ns) (sym (variables_are us)) (pairs_found ds v.a v.b v.vs s)) in
            values_known es stop ys (values_used_up ds es) t (subst (λ (u : Log). Each (Found u) (variables es)) (sym i) f) k

    pub different_chains : p + length (sides_words es) ≤ stop → Chains stop stop ys → Chains p stop different_stages
    unfolding different_stages
    different_chains l h = pairs_chains ds rec cap stop es p values (chains_less stop stop (p + length (sides_words es)) stop values l (omega arith) (values_chains es stop ys (values_used_up ds es) h))

    pub different_up_to : (b : ℕ) → stop ≤ b → UpTo b ys → UpTo b different_stages
    unfolding different_stages
    different_up_to b l h = pairs_up_to ds rec cap stop b l es p values (values_up_to es stop ys b l h (values_used_up ds es))

    pub different_rooms : rooms different_stages ≤ 12 * (length es * length (sides_words es)) + rooms ys
    unfolding different_stages
    different_rooms = omega (arith, pairs_rooms ds rec cap stop es p values, values_rooms es stop ys (values_used_up ds es))

    pub different_walk : (F : List ℤ) (parted : ℕ → Bool) (with_ifs : Bool) (before : List ℤ) (low : cap < limit) → stop ≤ folded_end → SidesStand F parted with_ifs stop es p → AllWalk ds F parted rec cap with_ifs before low ys → AllWalk ds F parted rec cap with_ifs before low different_stages
    unfolding different_stages
    different_walk F parted with_ifs before low l h w = pairs_walk F parted with_ifs stop ds rec cap before low l es p values h (go (used_up es))
      where
        go : (values_used_up ds es ≡ []) ⊎ TwoVariables es → AllWalk ds F parted rec cap with_ifs before low (values_stages es stop ys (values_used_up ds es))
        go (inl e) = subst (λ (xs : List ℤ). AllWalk ds F parted rec cap with_ifs before low (values_stages es stop ys xs)) (sym e) (unfold values_stages in w)
        go (inr v) = values_walk es stop ys F parted rec cap with_ifs before low (record { vs = v.a ∷ v.b ∷ v.vs; are = v.are }) w (values_used_up ds es)
