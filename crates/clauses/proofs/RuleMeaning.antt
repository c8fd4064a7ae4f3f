-- A whole rule, split first: what is added to the log means the rule; in the form that composes over statements, from log to log.
use Rattle.std.specs.Prelude.{◌≡◌, refl, Bool, true, ◌&&◌, ◌≤◌}
use Rattle.std.proofs.Common.{sym, ◌∙◌, arith}
use Rattle.std.proofs.Math.Bool.{false}
use mathlib.Core.List.{List, [], ◌∷◌, ◌++◌}
use Rattle.laws.specs.Bools.{and_l, and_r, and_i}
use Rattle.laws.specs.Lists.{all, all_append}
use Rattle.syntax.specs.Syntax.{Domain, BoolExpr}
use Rattle.syntax.specs.Satisfies.{Val, IVal, holds}
use Rattle.clauses.specs.Log.{added, Log, next_bool}
use Rattle.clauses.specs.Disjunction.{Out}
use Rattle.clauses.specs.Normalize.{register, normalize_bool_expr}
use Rattle.clauses.specs.Split.{Split, tseitin_transformation_bool, register_each, normalize_and_register_expr}
use Rattle.clauses.proofs.Bounds.{expr_bound, exprs_bound, exprs_bound_le, holds_same}
use Rattle.clauses.specs.Valuation.{Agrees, Fits}
use Rattle.clauses.proofs.Grow.{Extends, extends, AddedBy, added_then, added_first, added_second, added_none, lawful_over, same, grow, Lawful, grows_trans, grows_bool, agrees_back, fits_back, lawful_then}
use Rattle.clauses.proofs.Means.{Truth, Means}
use Rattle.clauses.proofs.NormalizeMeaning.{bool_expr_means}
use Rattle.clauses.proofs.SplitMeaning.{SplitMeans, of_bool, split_means}

module _ (δ : Val) (ε : IVal) where
  -- what is added from s to t says x
  pub record Says (s t : Log) (x : Truth) : Type 0 where
    pub grows : Extends δ ε s t
    pub sound : (ρ : Val) (ι : IVal) → Agrees δ ε ρ ι t → AddedBy ρ ι grows → x ρ ι ≡ true
    pub complete : (ρ : Val) (ι : IVal) → Fits δ ε ρ ι t → x ρ ι ≡ true → AddedBy ρ ι grows

  pub says_none : (s : Log) → Says s s (λ ρ ι. true)
  says_none s = record { grows = same; sound = λ ρ ι a d. refl; complete = λ ρ ι f h. tt }

  pub says_then : (s t u : Log) (x y : Truth) → Says s t x → Says t u y → Says s u (λ ρ ι. x ρ ι && y ρ ι)
  says_then s t u x y p q = record {
    grows = grows_trans p.grows q.grows;
    sound = λ ρ ι a d. and_i (x ρ ι) (y ρ ι) (p.sound ρ ι (agrees_back ρ ι q.grows a) (added_first ρ ι p.grows q.grows d)) (q.sound ρ ι a (added_second ρ ι p.grows q.grows d));
    complete = λ ρ ι f h. added_then ρ ι p.grows q.grows (p.complete ρ ι (fits_back ρ ι q.grows f) (and_l (x ρ ι) (y ρ ι) h)) (q.complete ρ ι f (and_r (x ρ ι) (y ρ ι) h));
  }

  -- the same truth by another name
  pub says_to : (s t : Log) (x y : Truth) → ((ρ : Val) (ι : IVal) → x ρ ι ≡ y ρ ι) → Says s t x → Says s t y
  says_to s t x y e p = record { grows = p.grows; sound = λ ρ ι a d. rw (← (e ρ ι)) (p.sound ρ ι a d); complete = λ ρ ι f h. p.complete ρ ι f (rw (e ρ ι) h) }

  -- clauses that mean x, added
  pub says_added : (s : Log) (o : Out) (x : Truth) → Means δ ε s o x → Says s (register o) x
  unfolding register
  says_added s o x p = record {
    grows = grow (added o.0) (refl, p.bounded, p.numbered) (extends p.grows);
    sound = λ ρ ι a d. p.sound ρ ι a.1 d.0;
    complete = λ ρ ι f h. (p.complete ρ ι f.1 h, added_none ρ ι p.grows);
  }

  module _ (ds : List Domain) where
    each_says : (es : List BoolExpr) (s : Log) → exprs_bound es ≤ next_bool s → Lawful δ ε s → Says s (register_each ds es s) (λ ρ ι. all (holds δ ε ρ) es)
    unfolding register_each
    each_says [] s h l = says_none s
    each_says (e ∷ es) s h l =
        let p = says_added s (normalize_bool_expr ds e false s) _ (bool_expr_means δ ε ds e false s (omega arith) l) in
        says_then s _ _ (λ ρ ι. holds δ ε ρ e) (λ ρ ι. all (holds δ ε ρ) es) p (each_says es _ (omega (arith, grows_bool p.grows)) (lawful_over l p.grows))

    split_rule_says : (s t : Log) (c : Split BoolExpr) (x : Val → Bool) → SplitMeans δ ε (of_bool δ ε) s c x → Says c.log t (λ ρ ι. all (holds δ ε ρ) (c.extra ++ (c.result ∷ []))) → Says s t (λ ρ ι. x ρ)
    split_rule_says s t c x p q = record {
      grows = grows_trans (extends p.grows) q.grows;
      sound = λ ρ ι a d.
          let k = rw (all_append (holds δ ε ρ) c.extra (c.result ∷ [])) at (q.sound ρ ι a (added_second ρ ι (extends p.grows) q.grows d)) in
          sym (p.sound ρ (and_l (all (holds δ ε ρ) c.extra) _ k)) ∙ and_l (holds δ ε ρ c.result) true (and_r (all (holds δ ε ρ) c.extra) _ k);
      complete = λ ρ ι f h.
          let fc = fits_back ρ ι q.grows f in
          let extras = p.complete ρ ι fc in
          added_then ρ ι (extends p.grows) q.grows (added_none ρ ι p.grows) (q.complete ρ ι f (rw (all_append (holds δ ε ρ) c.extra (c.result ∷ []), extras, p.sound ρ extras, h) refl));
    }

    pub rule_means : (e : BoolExpr) (s : Log) → expr_bound e ≤ next_bool s → Lawful δ ε s → Says s (normalize_and_register_expr ds e s) (λ ρ ι. holds δ ε ρ e)
    unfolding normalize_and_register_expr
    rule_means e s h l =
        let p = split_means δ ε e false s h in
        let c : Split BoolExpr = tseitin_transformation_bool e false s in
        split_rule_says s _ c (λ ρ. holds δ ε ρ e) p
        (each_says (c.extra ++ (c.result ∷ [])) c.log (exprs_bound_le (next_bool c.log) c.extra (c.result ∷ []) p.extra_bounded (omega (arith, p.bounded))) (lawful_then l p.grows))

    -- a rule as it is read names no emitted number: what it says does not depend on their values
    pub read_rule_means : (e : BoolExpr) (s : Log) (ρ' : Val) → expr_bound e ≤ 0 → Lawful δ ε s → Says s (normalize_and_register_expr ds e s) (λ ρ ι. holds δ ε ρ' e)
    read_rule_means e s ρ' h l = says_to s _ _ _ (λ ρ ι. holds_same 0 ρ ρ' (λ m k. absurd (omega arith)) δ ε e h) (rule_means e s (omega arith) l)
