-- What the check says of a whole set, over variables. Assumes nothing.
use Prim.Native.Nat.{ℕ, zero, suc, ◌+◌, ◌≤◌}
use mathlib.Core.Path.{◌≡◌, refl, sym, ap, ◌∙◌, subst}
use mathlib.Core.Bool.{Bool, true, false, ◌&&◌}
use mathlib.Core.List.{List, [], ◌∷◌}
use native.Mathlib.Omega.{arith}
use lib.IntN.{ℤ, pos, nat_abs}
use lib.ListN.{length, get_or}
use borrow.Author.Tests.{ltb-false, eq-eqb, ne_eqb}
use Rattle.laws.specs.Lists.{all, from, below}
use Rattle.syntax.specs.Words.{min_work_words, max_set_words, max_bools, max_ints}
use Rattle.syntax.specs.Syntax.{Domain, domain_of, in_domain, Problem}
use Rattle.syntax.specs.Satisfies.{in_domains}
use Rattle.syntax.specs.Written.{in_domains_within}
use Rattle.words.specs.Exact.{Each}
use Rattle.read.specs.WellFormed.{WellStmt}
use Rattle.limits.specs.Limits.{domain_weight}
use Rattle.limits.proofs.Light.{value_light, unrefused_light}
use Rattle.limits.specs.Admitted.{admitted, limited}
use Rattle.reader.specs.declared.Declared.{Declared}
use Rattle.std.specs.Prelude.{Ok, Err}
use Rattle.accept.specs.Accepted.{accepted}
use Rattle.accept.specs.Taken.{Taken, accepted_ok, accepted_refused, taken_set, declared_is, taken_domains, taken_stmts}
use Rattle.verdict.specs.Roster.{int_of, is_bit, right_count, all_inside, truth, first_broken, judged, rostered, when_admitted, check_roster}
use Rattle.verdict.proofs.RosterLaws.{stops_same}
use Rattle.evaluate.specs.Contract.{Roster, each_inside, ReadyDomains, InsidePost, StmtsAt, ReadyStmts, checked_of, BrokenPost}
use Rattle.evaluate.specs.declared.Checked.{Checked}
use Rattle.evaluate.specs.declared.Checked.TheVariants.{Refused}

-- ---- the domains one after another

all_later : (f : ℕ → Bool) (i n : ℕ) → all f (from (suc i) n) ≡ all (λ v. f (suc v)) (from i n)
all_later f i zero = refl
all_later f i (suc n) = ap (λ b. f (suc i) && b) (all_later f (suc i) n)

same_tests : (f g : ℕ → Bool) (xs : List ℕ) → ((x : ℕ) → f x ≡ g x) → all f xs ≡ all g xs
same_tests f g [] h = refl
same_tests f g (x ∷ xs) h = rw (h x, same_tests f g xs h)

each_is : (values : List ℤ) (p : ℕ) (ds : List Domain) → each_inside values p ds ≡ all (λ v. in_domain (get_or values (p + v) (pos 0)) (domain_of ds v)) (below (length ds))
each_is values p [] = refl
each_is values p (d ∷ ds) =
    let z : p + 0 ≡ p = omega arith in
    let a = all_later (λ v. in_domain (get_or values (p + v) (pos 0)) (domain_of (d ∷ ds) v)) 0 (length ds) in
    let b = same_tests (λ v. in_domain (get_or values (p + 1 + v) (pos 0)) (domain_of ds v)) (λ v. in_domain (get_or values (p + suc v) (pos 0)) (domain_of ds v)) (below (length ds)) (λ v. ap (λ i. in_domain (get_or values i (pos 0)) (domain_of ds v)) (omega arith)) in
    rw z (ap (λ c. in_domain (get_or values p (pos 0)) d && c) (each_is values (p + 1) ds ∙ b ∙ sym a))

-- ---- `judge`

module _ (ws values : List ℤ) (n : ℕ) where
  abbrev Judged : Checked → Type 0
  Judged r = r ≡ checked_of (check_roster ws values n)

  pub judge_refused : (k : ℕ) → accepted n ws ≡ Err k → Judged (Refused k)
  unfolding check_roster when_admitted checked_of admitted limited
  judge_refused k h =
      accepted_refused n ws k h
      (λ a e. rw (a, e) refl)
      (λ a b e. rw (a, b, e) refl)
      (λ a b e. rw (a, b, e) refl)
      (λ p r m a b e c q. rw (a, b, e, c, q) refl)

  module _ (d : Declared) (h : accepted n ws ≡ Ok d) where
    abbrev t : Taken n ws d
    t = accepted_ok n ws d h

    abbrev p : Problem
    p = t.it

    past : check_roster ws values n ≡ rostered p values
    unfolding check_roster when_admitted admitted limited
    past = rw (t.enough, t.short, t.says, t.unrefused) refl

    bools_are : d.bools ≡ p.bools
    bools_are = ap (λ (x : Declared). x.bools) (declared_is n ws d t)

    ints_are : d.ints ≡ length p.domains
    ints_are = ap (λ (x : Declared). x.ints) (declared_is n ws d t)

    stmts_are : d.stmts ≡ length p.stmts
    stmts_are = ap (λ (x : Declared). x.stmts) (declared_is n ws d t)

    pub few_declared : (d.bools ≤ max_bools) × (d.ints ≤ max_ints)
    few_declared = let w = (taken_set n ws d t).well in (omega (arith, bools_are, w.few_bools), omega (arith, ints_are, w.few_ints))

    pub judge_count : (length values ≡ d.bools + d.ints → ⊥) → Judged (Refused 14)
    unfolding rostered right_count checked_of
    judge_count ne = rw (past, ne_eqb (length values) (p.bools + length p.domains) (λ e. ne (omega (arith, e, bools_are, ints_are)))) refl

    module _ (size : length values ≡ d.bools + d.ints) where
      counted : right_count p values ≡ true
      unfolding right_count
      counted = eq-eqb (length values) (p.bools + length p.domains) (omega (arith, size, bools_are, ints_are))

      outside : all_inside p values ≡ false → Judged (Refused 15)
      unfolding rostered checked_of
      outside e = rw (past, counted, e) refl

      module _ (bs : Bool) (hb : bs ≡ all (λ v. is_bit (get_or values v (pos 0))) (below d.bools)) where
        bits : bs ≡ all (λ v. is_bit (get_or values v (pos 0))) (below p.bools)
        bits = rw bools_are at hb

        pub judge_bools : bs ≡ false → Judged (Refused 15)
        unfolding all_inside
        judge_bools f = outside (let e : all (λ v. is_bit (get_or values v (pos 0))) (below p.bools) ≡ false = sym bits ∙ f in rw e refl)

        pub domains_start : ReadyDomains ws 2 d.ints values d.bools
        domains_start = record { ds = p.domains; domains = taken_domains n ws d t; size = ints_are; room = omega (arith, size) }

        module _ (bt : bs ≡ true) (is : Bool) (hi : InsidePost ws 2 d.ints values d.bools is) where
          ints : is ≡ in_domains p (int_of p.bools values)
          unfolding in_domains
          ints = hi p.domains (taken_domains n ws d t) ints_are ∙ each_is values d.bools p.domains ∙ ap (λ b. all (λ v. in_domain (int_of b values v) (domain_of p.domains v)) (below (length p.domains))) bools_are

          inside_is : all_inside p values ≡ is
          unfolding all_inside
          inside_is = let e : all (λ v. is_bit (get_or values v (pos 0))) (below p.bools) ≡ true = sym bits ∙ bt in rw e (sym ints)

          pub judge_ints : is ≡ false → Judged (Refused 15)
          judge_ints f = outside (inside_is ∙ f)

          module _ (it : is ≡ true) where
            fits : Roster d.bools p.domains values
            fits = record {
              size = omega (arith, size, ints_are);
              light = λ v l. subst (λ b. nat_abs (int_of b values v) ≤ domain_weight (domain_of p.domains v)) (sym bools_are) (value_light (int_of p.bools values v) (domain_of p.domains v) (in_domains_within p (int_of p.bools values) (sym ints ∙ it) v l));
            }

            stand : StmtsAt d.bools p.domains ws d.at d.stmts p.stmts
            stand = record { words = (taken_stmts n ws d t).words; well = subst (λ b. Each (WellStmt b (length p.domains)) p.stmts) (sym bools_are) (taken_set n ws d t).well.stmts_well; light = unrefused_light p t.unrefused; size = stmts_are }

            pub stmts_start : (work : List ℤ) → length work ≡ n → ReadyStmts ws values d.bools d.at d.stmts work
            stmts_start work e = record {
              ds = p.domains;
              roster = fits;
              them = p.stmts;
              reads = stand;
              room = omega (arith, e, ltb-false n min_work_words t.enough, ltb-false max_set_words (length ws) t.short);
            }

            pub judge_ends : (r : Checked) → BrokenPost ws values d.bools d.at d.stmts 1 r → Judged r
            unfolding rostered judged
            judge_ends r b =
                let e : r ≡ checked_of (first_broken (truth d.bools values) 1 p.stmts) = b p.domains p.stmts fits stand in
                e ∙ ap (λ b. checked_of (first_broken (truth b values) 1 p.stmts)) bools_are ∙ rw (past, counted, inside_is ∙ it) (ap checked_of (stops_same (truth p.bools values) 1 p.stmts))
