-- Which values an AllDifferent's expressions use up, by the first one's domain. Assumes nothing.
use mathlib.Core.Path.{◌≡◌, refl, sym, ap, ◌∙◌, subst}
use mathlib.Core.Bool.{Bool, true, false, ◌&&◌, cond}
use mathlib.Core.List.{List, [], ◌∷◌, map}
use Rattle.std.specs.Prelude.{None, Some}
use Prim.Native.Nat.{ℕ, ◌+◌, ◌≤◌, ◌<◌}
use native.Mathlib.Omega.{arith}
use lib.IntN.{ℤ, pos}
use lib.ListN.{length}
use Rattle.laws.specs.Bools.{and_r, never}
use Rattle.laws.specs.Ints.{eqZ}
use Rattle.laws.specs.Order.{not_eqZ}
use Rattle.laws.specs.Lists.{all}
use Rattle.laws.specs.Slices.{Has}
use Rattle.syntax.specs.Syntax.{Domain, enumerate, num_candidates, domain_of, encode_domain, IntExpr, IConst, IVar, Linear, If}
use Rattle.different.specs.Different.{is_like, values_of_first, values_used_up}
use Rattle.domains.specs.Declared.{DomainPost}
use Rattle.walk.specs.Decode.{word, read_part}
use Rattle.differing.specs.Standing.{Standing}
use Rattle.differing.proofs.Places.{code_is}
use Rattle.differing.specs.Values.{SomeOne, Over, SomeOver, AllLike, Variables, Lists, Used}
use Rattle.differing.proofs.Likes.{variable_of, sized_of, one_sized, first_one, some_one}

module _ (set w : List ℤ) (at count : ℕ) where
  -- ---- fewer than two

  few : count < 2 → (ds : List Domain) (es : List IntExpr) → Over set w at count ds es → values_used_up ds es ≡ []
  unfolding values_used_up
  few l ds [] v = refl
  few l ds (e ∷ []) v = refl
  few l ds (e ∷ f ∷ es) v = absurd (omega (arith, v.standing.counted))

  pub used_few : count < 2 → Used set w at count None
  used_few l = few l

  module _ (two : 2 ≤ count) where
    of_first : (ds : List Domain) (es : List IntExpr) → Over set w at count ds es → values_used_up ds es ≡ values_of_first ds count es
    unfolding values_used_up
    of_first ds [] v = absurd (omega (arith, v.standing.counted))
    of_first ds (e ∷ []) v = absurd (omega (arith, v.standing.counted))
    of_first ds (e ∷ f ∷ es) v = ap (λ (n : ℕ). values_of_first ds n (e ∷ f ∷ es)) (sym v.standing.counted)

    some_first : count ≡ 0 → ⊥
    some_first z = omega arith

    pub used_one : SomeOver set w at count → SomeOne set w at
    used_one o = some_one set w at count some_first o

    module _ {m : ℕ} (code : m ≡ word (read_part w) at) where
      -- ---- the first is no variable

      other : (m ≡ 21 → ⊥) → (ds : List Domain) (es : List IntExpr) → Over set w at count ds es → values_of_first ds count es ≡ []
      unfolding values_of_first
      other k ds [] v = refl
      other k ds (IConst c ∷ es) v = refl
      other k ds (IVar x ∷ es) v = absurd (k (code ∙ code_is w at (IVar x) (first_one set w at count v).stands))
      other k ds (Linear ts ∷ es) v = refl
      other k ds (If i c t f ∷ es) v = refl

      pub used_other : (m ≡ 21 → ⊥) → Used set w at count None
      used_other k = λ ds es v. of_first ds es v ∙ other k ds es v

      -- ---- the variable x, whose domain is at d

      module _ (k : m ≡ 21) {x : ℕ} (index : x ≡ word (read_part w) (at + 1)) (d : ℕ) (post : DomainPost set 2 x d) {c : ℤ} (many_is : (dm : Domain) → Has set d (encode_domain dm) → c ≡ num_candidates dm) where
        first_values : (ds : List Domain) (e : IntExpr) (es : List IntExpr) → e ≡ IVar x → values_of_first ds count (e ∷ es) ≡ cond (all (is_like ds count (domain_of ds x)) (e ∷ es)) (enumerate (domain_of ds x)) []
        unfolding values_of_first
        first_values ds e es i = rw i refl

        module _ (differs : c ≡ pos count → ⊥) where
          counted_not : (ds : List Domain) (es : List IntExpr) → Over set w at count ds es → values_of_first ds count es ≡ []
          counted_not ds [] v = absurd (some_first v.standing.counted)
          counted_not ds (e ∷ es) v = variable_of set w at code k index ds e (first_one set w at count v) λ i l.
              let q : eqZ (num_candidates (domain_of ds x)) (pos count) ≡ false = not_eqZ _ _ (λ h. differs (many_is (domain_of ds x) (post ds (record { words = v.declared.words }) l) ∙ h)) in
              let t : is_like ds count (domain_of ds x) e ≡ false = rw (i, q) refl in
              first_values ds e es i ∙ ap (λ (b : Bool). cond (b && all (is_like ds count (domain_of ds x)) es) (enumerate (domain_of ds x)) []) t

          pub used_count : Used set w at count None
          used_count = λ ds es v. of_first ds es v ∙ counted_not ds es v

        module _ (same : c ≡ pos count) {r : Bool} (likes : AllLike set w at count d r) where
          all_is : (ds : List Domain) (e : IntExpr) (es : List IntExpr) → Over set w at count ds (e ∷ es) → x < length ds → r ≡ all (is_like ds count (domain_of ds x)) (e ∷ es)
          all_is ds e es v l = likes ds (e ∷ es) (domain_of ds x) v (sized_of set w at code k index d post many_is count same ds e (first_one set w at count v) l)

          chosen : (ds : List Domain) (e : IntExpr) (es : List IntExpr) → Over set w at count ds (e ∷ es) → e ≡ IVar x → x < length ds → values_used_up ds (e ∷ es) ≡ cond r (enumerate (domain_of ds x)) []
          chosen ds e es v i l = of_first ds (e ∷ es) v ∙ first_values ds e es i ∙ ap (λ (b : Bool). cond b (enumerate (domain_of ds x)) []) (sym (all_is ds e es v l))

          unlike : r ≡ false → (ds : List Domain) (es : List IntExpr) → Over set w at count ds es → values_used_up ds es ≡ []
          unlike h ds [] v = absurd (some_first v.standing.counted)
          unlike h ds (e ∷ es) v = variable_of set w at code k index ds e (first_one set w at count v) λ i l. chosen ds e es v i l ∙ ap (λ (b : Bool). cond b (enumerate (domain_of ds x)) []) h

          pub used_unlike : r ≡ false → Used set w at count None
          used_unlike h = unlike h

          -- ---- all are like it

          module _ (h : r ≡ true) where
            lists : (ds : List Domain) (es : List IntExpr) → Over set w at count ds es → Lists set d count (values_used_up ds es)
            lists ds [] v = absurd (some_first v.standing.counted)
            lists ds (e ∷ es) v = variable_of set w at code k index ds e (first_one set w at count v) λ i l. record {
              domain = domain_of ds x;
              sized = sized_of set w at code k index d post many_is count same ds e (first_one set w at count v) l;
              is = chosen ds e es v i l ∙ ap (λ (b : Bool). cond b (enumerate (domain_of ds x)) []) h;
            }

            -- the variables of variables
            names : List IntExpr → List ℕ
            names [] = []
            names (IConst c ∷ es) = 0 ∷ names es
            names (IVar v ∷ es) = v ∷ names es
            names (Linear ts ∷ es) = 0 ∷ names es
            names (If i c t f ∷ es) = 0 ∷ names es

            names_are : (ds : List Domain) (dm : Domain) (es : List IntExpr) → all (is_like ds count dm) es ≡ true → es ≡ map IVar (names es)
            unfolding names
            names_are ds dm [] a = refl
            names_are ds dm (IConst c ∷ es) a = never a
            names_are ds dm (IVar v ∷ es) a = ap (λ (fs : List IntExpr). IVar v ∷ fs) (names_are ds dm es (and_r (is_like ds count dm (IVar v)) _ a))
            names_are ds dm (Linear ts ∷ es) a = never a
            names_are ds dm (If i c t f ∷ es) a = never a

            variables : (ds : List Domain) (es : List IntExpr) → Over set w at count ds es → Variables w at count
            variables ds [] v = absurd (some_first v.standing.counted)
            variables ds (e ∷ es) v = variable_of set w at code k index ds e (first_one set w at count v) λ i l. record {
              vars = names (e ∷ es);
              standing = subst (Standing w at count) (names_are ds (domain_of ds x) (e ∷ es) (sym (all_is ds e es v l) ∙ h)) v.standing;
              few = v.few;
            }

            pub used_like : SomeOver set w at count → Used set w at count (Some d)
            used_like o = record {
              variables = variables o.domains o.exprs o.it;
              sized = one_sized set w at code k index d post many_is count same (used_one o) o.it.few;
              values = lists;
            }
