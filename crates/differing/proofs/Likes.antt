-- Variables like the first: one expression, and one after the other. Assumes nothing.
use mathlib.Core.Path.{◌≡◌, refl, sym, ap, ◌∙◌, subst}
use mathlib.Core.Bool.{Bool, true, false, ◌&&◌}
use mathlib.Core.List.{List, [], ◌∷◌}
use Prim.Native.Nat.{ℕ, ◌+◌, ◌-◌, ◌≤◌, ◌<◌}
use native.Mathlib.Omega.{arith}
use lib.IntN.{ℤ, pos}
use lib.ListN.{length}
use Rattle.laws.specs.Same.{same_words}
use Rattle.laws.specs.Bools.{never}
use Rattle.laws.specs.Ints.{eqZ}
use Rattle.laws.specs.Order.{is_eqZ, not_eqZ}
use Rattle.laws.specs.Lists.{all}
use Rattle.laws.specs.Slices.{Has}
use Rattle.memory.specs.Places.{folded_end}
use Rattle.syntax.specs.Words.{max_count}
use Rattle.syntax.specs.Syntax.{Domain, enumerate, num_candidates, domain_of, encode_domain, IntExpr, IConst, IVar, Linear, If, encode_int}
use Rattle.syntax.specs.Written.{EveryInt, EveryIntOf, EveryColumnOf}
use Rattle.different.specs.Different.{is_like}
use Rattle.domains.specs.Declared.{DomainPost}
use Rattle.walk.specs.Decode.{word, read_part}
use Rattle.declared.specs.InSet.{SomeDeclared}
use Rattle.differing.specs.Standing.{Standing}
use Rattle.differing.proofs.Places.{first_at, rest_stands, place_inside, code_is, variable_inv, well_at}
use Rattle.differing.specs.Values.{Sized, SomeSized, SameOf, One, SomeOne, Like, Over, SomeOver, AllLike}

-- ---- one expression

module _ (set w : List ℤ) (p : ℕ) {m : ℕ} (code : m ≡ word (read_part w) p) where
  -- a variable, whose index is x
  module _ (k : m ≡ 21) {x : ℕ} (index : x ≡ word (read_part w) (p + 1)) where
    pub variable_of : {X : Type 0} (ds : List Domain) (e : IntExpr) → One set w p ds e → (e ≡ IVar x → x < length ds → X) → X
    unfolding EveryIntOf
    variable_of ds e o go = variable_inv w p e o.stands (sym code ∙ k) λ v i h j.
        let y : x ≡ v = index ∙ j in
        let f : e ≡ IVar x = i ∙ ap IVar (sym y) in
        go f (subst (EveryInt (λ u. u < length ds)) f o.below)

    pub one_declared : SomeOne set w p → SomeDeclared set x
    one_declared s = variable_of s.domains s.expr s.it λ i l. record { domains = s.domains; it = s.it.declared; below = l }

    module _ (d : ℕ) (post : DomainPost set 2 x d) {c : ℤ} (many_is : (dm : Domain) → Has set d (encode_domain dm) → c ≡ num_candidates dm) (n : ℕ) where
      words_of : (ds : List Domain) (e : IntExpr) → One set w p ds e → x < length ds → Has set d (encode_domain (domain_of ds x))
      words_of ds e o l = post ds (record { words = o.declared.words }) l

      module _ (same : c ≡ pos n) where
        pub sized_of : (ds : List Domain) (e : IntExpr) → One set w p ds e → x < length ds → Sized set d n (domain_of ds x)
        sized_of ds e o l = record {
          words = words_of ds e o l;
          many = sym (many_is (domain_of ds x) (words_of ds e o l)) ∙ same;
          well = well_at ds o.declared.well x l;
        }

        pub one_sized : SomeOne set w p → n ≤ max_count → SomeSized set d n
        one_sized s t = variable_of s.domains s.expr s.it λ i l. record { domain = domain_of s.domains x; it = sized_of s.domains s.expr s.it l; few = t }

        pub like_same : {b : ℕ} {r : Bool} → SameOf set d b n r → Like set w p b n r
        like_same {b} {r} h ds e dm o s = variable_of ds e o λ i l.
            let t = sized_of ds e o l in
            let a : eqZ (num_candidates (domain_of ds x)) (pos n) ≡ true = is_eqZ _ _ t.many in
            h (domain_of ds x) dm t s ∙ sym (ap (is_like ds n dm) i ∙ ap (λ (q : Bool). q && same_words (enumerate (domain_of ds x)) (enumerate dm)) a)

      pub like_not : (c ≡ pos n → ⊥) → {b : ℕ} → Like set w p b n false
      like_not differs ds e dm o s = variable_of ds e o λ i l.
          let a : eqZ (num_candidates (domain_of ds x)) (pos n) ≡ false = not_eqZ _ _ (λ q. differs (many_is (domain_of ds x) (words_of ds e o l) ∙ q)) in
          sym (ap (is_like ds n dm) i ∙ ap (λ (q : Bool). q && same_words (enumerate (domain_of ds x)) (enumerate dm)) a)

  pub other_not : (m ≡ 21 → ⊥) → {b n : ℕ} → Like set w p b n false
  other_not k ds (IConst c) dm o s = refl
  other_not k ds (IVar v) dm o s = absurd (k (code ∙ code_is w p (IVar v) o.stands))
  other_not k ds (If i c t f) dm o s = refl
  other_not k ds (Linear ts) dm o s = refl

-- ---- one after the other

-- the expressions left from p on tell what all of them tell
pub record Left (set w : List ℤ) (count p rest : ℕ) (ds : List Domain) (es : List IntExpr) (dm : Domain) : Type 0 where
  pub exprs : List IntExpr
  pub over : Over set w p rest ds exprs
  pub same : all (is_like ds count dm) exprs ≡ all (is_like ds count dm) es

pub record Liking (set w : List ℤ) (at count b p rest : ℕ) : Type 0 where
  pub left : SomeOver set w p rest
  pub to : (ds : List Domain) (es : List IntExpr) (dm : Domain) → Over set w at count ds es → Sized set b count dm → Left set w count p rest ds es dm

pub liking_start : {set w : List ℤ} {at count b : ℕ} → SomeOver set w at count → Liking set w at count b at count
liking_start o = record { left = o; to = λ ds es dm v s. record { exprs = es; over = v; same = refl } }

module _ (set w : List ℤ) (p rest : ℕ) where
  pub first_one : {ds : List Domain} {e : IntExpr} {es : List IntExpr} → Over set w p rest ds (e ∷ es) → One set w p ds e
  unfolding EveryColumnOf
  first_one {ds} {e} {es} v = record { stands = first_at w p rest e es v.standing; declared = v.declared; below = v.below.0 }

  pub some_one : (rest ≡ 0 → ⊥) → SomeOver set w p rest → SomeOne set w p
  some_one z o = go o.exprs o.it
    where
      go : (es : List IntExpr) → Over set w p rest o.domains es → SomeOne set w p
      go [] v = absurd (z v.standing.counted)
      go (e ∷ es) v = record { domains = o.domains; expr = e; it = first_one v }

  pub place_small : (rest ≡ 0 → ⊥) → SomeOver set w p rest → p + 2 ≤ folded_end
  place_small z o = place_inside w p (some_one z o).it.stands

  -- a variable has two words
  two_words : (ds : List Domain) (n : ℕ) (dm : Domain) (e : IntExpr) → is_like ds n dm e ≡ true → length (encode_int e) ≡ 2
  unfolding encode_int
  two_words ds n dm (IConst c) h = refl
  two_words ds n dm (IVar v) h = refl
  two_words ds n dm (If i c t f) h = never h
  two_words ds n dm (Linear ts) h = never h

  rest_over : {ds : List Domain} {e : IntExpr} {es : List IntExpr} → length (encode_int e) ≡ 2 → Over set w p rest ds (e ∷ es) → Over set w (p + 2) (rest - 1) ds es
  unfolding EveryColumnOf
  rest_over {ds} {e} {es} h v = record {
    standing = subst (λ (k : ℕ). Standing w (p + k) (rest - 1) es) h (rest_stands w p rest e es v.standing);
    declared = v.declared;
    below = v.below.1;
    few = omega (arith, v.few);
  }

module _ {set w : List ℤ} {at count b p rest : ℕ} (g : Liking set w at count b p rest) (z : rest ≡ 0 → ⊥) {r : Bool} (like : Like set w p b count r) where
  module _ (is : r ≡ true) where
    next_left : {ds : List Domain} {es : List IntExpr} {dm : Domain} → Sized set b count dm → Left set w count p rest ds es dm → Left set w count (p + 2) (rest - 1) ds es dm
    next_left {ds} {es} {dm} s l = go l.exprs l.over l.same
      where
        go : (fs : List IntExpr) → Over set w p rest ds fs → all (is_like ds count dm) fs ≡ all (is_like ds count dm) es → Left set w count (p + 2) (rest - 1) ds es dm
        go [] v q = absurd (z v.standing.counted)
        go (f ∷ fs) v q =
            let t : is_like ds count dm f ≡ true = sym (like ds f dm (first_one set w p rest v) s) ∙ is in
            record { exprs = fs; over = rest_over set w p rest (two_words set w p rest ds count dm f t) v; same = sym (ap (λ (x : Bool). x && all (is_like ds count dm) fs) t) ∙ q }

    pub liking_next : SomeSized set b count → Liking set w at count b (p + 2) (rest - 1)
    liking_next s =
        let o = g.left in
        let l : Left set w count (p + 2) (rest - 1) o.domains o.exprs s.domain = next_left s.it (record { exprs = o.exprs; over = o.it; same = refl }) in
        record {
          left = record { domains = o.domains; exprs = l.exprs; it = l.over };
          to = λ ds es dm v t. next_left t (g.to ds es dm v t);
        }

  pub liking_not : r ≡ false → AllLike set w at count b false
  liking_not not ds es dm v s = go (g.to ds es dm v s).exprs (g.to ds es dm v s).over (g.to ds es dm v s).same
    where
      go : (fs : List IntExpr) → Over set w p rest ds fs → all (is_like ds count dm) fs ≡ all (is_like ds count dm) es → false ≡ all (is_like ds count dm) es
      go [] u q = absurd (z u.standing.counted)
      go (f ∷ fs) u q =
          let t : is_like ds count dm f ≡ false = sym (like ds f dm (first_one set w p rest u) s) ∙ not in
          sym (ap (λ (x : Bool). x && all (is_like ds count dm) fs) t) ∙ q

pub liking_end : {set w : List ℤ} {at count b p rest : ℕ} → Liking set w at count b p rest → rest ≡ 0 → AllLike set w at count b true
liking_end {set} {w} {count = count} {p = p} {rest = rest} g z ds es dm v s = go (g.to ds es dm v s).exprs (g.to ds es dm v s).over (g.to ds es dm v s).same
  where
    go : (fs : List IntExpr) → Over set w p rest ds fs → all (is_like ds count dm) fs ≡ all (is_like ds count dm) es → true ≡ all (is_like ds count dm) es
    go [] u q = q
    go (f ∷ fs) u q = absurd (omega (arith, u.standing.counted))
