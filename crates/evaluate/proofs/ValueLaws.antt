-- What the tests of the values ask and give at each step, over variables. Assumes nothing.
use Prim.Native.Nat.{ℕ, suc, ◌+◌, ◌-◌, ◌≤◌, ◌<◌}
use mathlib.Core.Path.{◌≡◌, refl, sym, ap, ◌∙◌}
use mathlib.Core.Bool.{Bool, true, false}
use mathlib.Core.List.{List, [], ◌∷◌}
use native.Mathlib.Omega.{arith}
use native.Mathlib.Numerals.{add-one}
use lib.IntN.{ℤ, pos}
use lib.ListN.{length, take, drop, get_or}
use Rattle.std.specs.List.{list_any}
use Rattle.std.specs.Ordering.{int_eq}
use Rattle.std.specs.Cmp.{signed_Decides}
use Rattle.laws.specs.Bools.{never}
use Rattle.laws.specs.Order.{is_eqZ, not_eqZ}
use Rattle.laws.specs.Ints.{eqZ}
use Rattle.laws.specs.Lists.{any, all, from, below}
use Rattle.laws.specs.Slices.{Has, has_front, has_back, has_word, has_rest}
use Rattle.syntax.specs.Syntax.{Domain, in_domain, encode_domain}
use Rattle.syntax.specs.Satisfies.{distinct}
use Rattle.domains.specs.Declared.{DomainAt, Domains}
use Rattle.evaluate.specs.Contract.{WordsAt, ListedPost, DifferPost, DomainPost, ReadyDomains, InsidePost}

-- ---- `bools_inside`

module _ (f : ℕ → Bool) (n v : ℕ) where
  next_from : v < n → from v (n - v) ≡ v ∷ from (v + 1) (n - (v + 1))
  next_from l = let m : n - v ≡ suc (n - (v + 1)) = omega arith in rw (m, add-one v) refl

  pub bools_none : n ≤ v → true ≡ all f (from v (n - v))
  bools_none l = let m : n - v ≡ 0 = omega arith in rw m refl

  pub bools_stop : v < n → f v ≡ false → false ≡ all f (from v (n - v))
  bools_stop l h = rw (next_from l, h) refl

  pub bools_more : v < n → f v ≡ true → (r : Bool) → r ≡ all f (from (v + 1) (n - (v + 1))) → r ≡ all f (from v (n - v))
  bools_more l h r e = rw (next_from l, h) e

pub bools_start : (f : ℕ → Bool) (n : ℕ) (r : Bool) → r ≡ all f (from 0 (n - 0)) → r ≡ all f (below n)
bools_start f n r e = let m : n - 0 ≡ n = omega arith in rw m at e

-- ---- `contains`

equals_is : (x y : ℤ) → int_eq y x ≡ eqZ x y
equals_is x y = go (int_eq y x) refl
  where
    go : (b : Bool) → int_eq y x ≡ b → b ≡ eqZ x y
    go true e = sym (is_eqZ x y (sym ((signed_Decides y x).0 e)))
    go false e = sym (not_eqZ x y (λ q. let t : int_eq y x ≡ true = (signed_Decides y x).1 (sym q) in never (sym e ∙ t)))

listed_is : (x : ℤ) (xs : List ℤ) → list_any (λ y. int_eq y x) xs ≡ any (eqZ x) xs
listed_is x [] = refl
listed_is x (y ∷ ys) = rw (equals_is x y, listed_is x ys) refl

pub listed : (ws : List ℤ) (at m n : ℕ) (x : ℤ) (r : Bool) → m ≡ n → r ≡ list_any (λ y. int_eq y x) (take m (drop at ws)) → ListedPost ws at n x r
listed ws at m n x r e h xs w s =
    let l : m ≡ length xs = e ∙ s in
    let g : r ≡ list_any (λ y. int_eq y x) xs = h ∙ ap (λ k. list_any (λ y. int_eq y x) (take k (drop at ws))) l ∙ ap (list_any (λ y. int_eq y x)) w in
    g ∙ listed_is x xs

module _ (ws : List ℤ) (at n : ℕ) (z : n ≡ 0 → ⊥) where
  the_word : {X : Type 0} (xs : List ℤ) → Has ws at xs → n ≡ length xs → ((y : ℤ) (ys : List ℤ) → xs ≡ y ∷ ys → get_or ws at (pos 0) ≡ y → Has ws (at + 1) ys → n - 1 ≡ length ys → X) → X
  the_word [] h s go = absurd (z s)
  the_word (y ∷ ys) h s go = go y ys refl (has_word ws at _ _ (pos 0) h) (has_rest ws at _ _ h) (omega arith)

  pub words_rest : WordsAt ws at n → WordsAt ws (at + 1) (n - 1)
  words_rest w = the_word w.them w.words w.size λ y ys q g h s. record { them = ys; words = h; size = s }

-- ---- `differ`

module _ (ws : List ℤ) (at n : ℕ) where
  pub differ_none : n ≡ 0 → DifferPost ws at n true
  unfolding distinct
  differ_none z [] h s = refl
  differ_none z (y ∷ ys) h s = absurd (omega arith)

  -- whether the first is among the later ones
  module _ (z : n ≡ 0 → ⊥) (t : Bool) (p : ListedPost ws (at + 1) (n - 1) (get_or ws at (pos 0)) t) where
    pub differ_stop : t ≡ true → DifferPost ws at n false
    unfolding distinct
    differ_stop f xs h s =
        the_word ws at n z xs h s λ y ys q g k l.
        let e : t ≡ any (eqZ y) ys = rw g at (p ys k l) in
        let m : any (eqZ y) ys ≡ true = sym e ∙ f in
        rw (q, m) refl

    pub differ_more : t ≡ false → (r : Bool) → DifferPost ws (at + 1) (n - 1) r → DifferPost ws at n r
    unfolding distinct
    differ_more f r o xs h s =
        the_word ws at n z xs h s λ y ys q g k l.
        let e : t ≡ any (eqZ y) ys = rw g at (p ys k l) in
        let m : any (eqZ y) ys ≡ false = sym e ∙ f in
        rw (q, m) (o ys k l)

-- ---- `ints_inside`

pub domain_same : (ws : List ℤ) (at : ℕ) (x y : ℤ) (r : Bool) → x ≡ y → DomainPost ws at x r → DomainPost ws at y r
domain_same ws at x y r e p d h = p d h ∙ ap (λ z. in_domain z d) e

module _ (ws : List ℤ) (at n : ℕ) (values : List ℤ) (p : ℕ) where
  pub inside_none : n ≡ 0 → InsidePost ws at n values p true
  inside_none z [] d s = refl
  inside_none z (e ∷ es) d s = absurd (omega arith)

  module _ (z : n ≡ 0 → ⊥) where
    the_domain : {X : Type 0} (ds : List Domain) → Domains ws at ds → n ≡ length ds
        → ((d : Domain) (es : List Domain) → ds ≡ d ∷ es → Has ws at (encode_domain d) → Domains ws (at + length (encode_domain d)) es → n - 1 ≡ length es → X) → X
    the_domain [] h s go = absurd (z s)
    the_domain (d ∷ es) h s go = go d es refl (has_front ws at (encode_domain d) _ h.words) (record { words = has_back ws at (encode_domain d) _ h.words }) (omega arith)

    pub next_domain : ReadyDomains ws at n values p → DomainAt ws at
    next_domain r = the_domain r.ds r.domains r.size λ d es q h g s. record { it = d; words = h }

    pub next_value : ReadyDomains ws at n values p → p < length values
    next_value r = omega (arith, r.room)

    module _ (t : Bool) (ht : DomainPost ws at (get_or values p (pos 0)) t) where
      pub inside_stop : t ≡ false → InsidePost ws at n values p false
      inside_stop f ds h s = the_domain ds h s λ d es q g k l. let e : in_domain (get_or values p (pos 0)) d ≡ false = sym (ht d g) ∙ f in rw (q, e) refl

      module _ (next : ℕ) (hn : (d : Domain) → Has ws at (encode_domain d) → next ≡ at + length (encode_domain d)) where
        pub rest_domains : ReadyDomains ws at n values p → ReadyDomains ws next (n - 1) values (p + 1)
        rest_domains r =
            the_domain r.ds r.domains r.size λ d es q g k l.
            let e = hn d g in
            record { ds = es; domains = rw e k; size = l; room = omega (arith, r.room) }

        pub inside_more : t ≡ true → (b : Bool) → InsidePost ws next (n - 1) values (p + 1) b → InsidePost ws at n values p b
        inside_more f b o ds h s =
            the_domain ds h s λ d es q g k l.
            let e : in_domain (get_or values p (pos 0)) d ≡ true = sym (ht d g) ∙ f in
            let m = hn d g in
            rw (q, e) (o es (rw m k) l)
