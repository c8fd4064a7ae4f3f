-- What a step of the walks reads: the parts of a form, their sums, and what is left of a member list.
use mathlib.Core.Path.{◌≡◌, refl, sym, ap, ◌∙◌, subst}
use mathlib.Core.Bool.{Bool, true, false, not}
use mathlib.Core.List.{List, [], ◌∷◌}
use Prim.Native.Nat.{ℕ, zero, suc, ◌-◌, ◌≤◌, ◌<◌}
use native.Mathlib.Omega.{arith}
use native.Mathlib.Numerals.{sub-one}
use lib.IntN.{ℤ}
use lib.ListN.{length}
use Rattle.laws.specs.Writes.{Wrote, wrote_none, wrote_length, Open}
use Rattle.syntax.specs.Syntax.{Domain}
use Rattle.walk.specs.Decode.{word, read_part}
use Rattle.walk.specs.declared.Counters.{Counters}
use Rattle.walk.specs.declared.Node.{Node}
use Rattle.walk.specs.declared.Node.TheVariants.{Cmp, Not, Join, Cross}
use Rattle.walk.proofs.NumberingSteps.{part_length}
use Rattle.walks.specs.Tree.{Splitting, never, below, here, inner}
use Rattle.walks.specs.Form.{Form, cross, Forms, cons, joined}
use Rattle.walks.specs.Item.{form_item, form_items}
use Rattle.walks.specs.Decode.{node_of, Read, Reader, many, cross_step, step, decode, decode_int}
use Rattle.walks.specs.SumsFit.{FormFits, FormsFit}
use Rattle.scan.specs.Nodes.{okay_at, level, Okay}
use Rattle.scan.specs.IfLaws.{Low}
use Rattle.scan.specs.Skip.{split_by, Skips}
use Rattle.output.proofs.Laws.{open_next}
use Rattle.rulewriter.specs.Places.{Placed, item_at, items_at, left_at, right_at, Fit, AllFit, IntFit, SidesFit}

pub okay : {w : List ℤ} {at base : ℕ} {n : Counters} (g : Bool) (N : Node) → Placed w at base n → N ≡ node_of (read_part w) g at (word (read_part w) at) → Okay (read_part w) at N
okay {w} {at} g N h e = okay_at w g at N h.size h.inside e

-- a place further on, within the words that are read
pub placed_at : {w : List ℤ} {at base : ℕ} {n : Counters} (q : ℕ) → Placed w at base n → q ≤ length (read_part w) → Placed w q base n
placed_at {w} q h i = record { size = h.size; inside = omega (arith, i, part_length w h.size); low_base = h.low_base; low = h.low }

pub placed_with : {w : List ℤ} {at base : ℕ} {n : Counters} (k : Counters) → Placed w at base n → Low k → Placed w at base k
placed_with k h i = record { size = h.size; inside = h.inside; low_base = h.low_base; low = i }

-- behind what was skipped
pub placed_skipped : {w : List ℤ} {at base : ℕ} {n : Counters} {l : ℕ} {t : Splitting} {q c b p : ℕ} (k : Counters) → Placed w at base n → Skips (read_part w) l t q c p b → Low k → Placed w p b k
placed_skipped k h s i = record { size = h.size; inside = s.inside; low_base = s.low; low = i }

-- ---- splittings as codes

pub is_here : (m : ℕ) → 1 < m → split_by m ≡ here
unfolding split_by
is_here zero h = absurd (omega arith)
is_here (suc zero) h = absurd (omega arith)
is_here (suc (suc m)) h = refl

pub not_here : (m : ℕ) → m ≤ 1 → split_by m ≡ here → ⊥
unfolding split_by
not_here zero h e = absurd (let z : ◌≡◌ {A = ℕ} 0 1 = cc in omega arith)
not_here (suc zero) h e = absurd (let z : ◌≡◌ {A = ℕ} 0 1 = cc in omega arith)
not_here (suc (suc m)) h e = absurd (omega arith)

-- an Xor or Iff that is not split
pub cross_whole : (p : Splitting → Reader) (m : Splitting) (h : Bool) (e n : ℕ) → (m ≡ here → ⊥) → (cross_step p m h e n).tree ≡ cross (many (p (inner m)) 2 false h e n).trees (many (p (inner m)) 2 true (not h) e n).trees
unfolding cross_step
cross_whole p never h e n z = refl
cross_whole p below h e n z = refl
cross_whole p here h e n z = absurd (z refl)

-- ---- the node at a place

joined_fit : (ds : List Domain) (d : Bool) (ts : Forms) → FormFits ds (joined d ts) → FormsFit ds ts
unfolding FormFits
joined_fit ds false ts h = h
joined_fit ds true ts h = h

module _ (w : List ℤ) (l u : ℕ) (t : Splitting) (g : Bool) (at base : ℕ) (z : l ≡ 0 → ⊥) (hu : u ≡ l - 1) where
  abbrev F : List ℤ
  F = read_part w

  abbrev pub Is : Node → Type 0
  Is N = N ≡ node_of F g at (word F at)

  abbrev pub Step : Node → Read
  Step N = step (decode F u) (decode_int F u) t g base N

  pub down : (P : Read → Type 0) (N : Node) → Is N → P (decode F l t g at base) → P (Step N)
  down P N e = subst P (level F l u t g at base N z hu e)

  pub up : (P : Read → Type 0) (N : Node) → Is N → P (Step N) → P (decode F l t g at base)
  up P N e = subst P (sym (level F l u t g at base N z hu e))

  abbrev FitHere : Type 0
  FitHere = Fit (decode F l t g at base).tree

  here_fits : (N : Node) → Is N → FitHere → Fit (Step N).tree
  here_fits N e h = record { domains = h.domains; fits = down (λ (r : Read). FormFits h.domains r.tree) N e h.fits }

  module _ (j : Splitting) (hj : j ≡ inner t) where
    pub fit_cmp : (o q : ℕ) → Is (Cmp o q) → FitHere → SidesFit (left_at w u j q base) (right_at w u j q base)
    unfolding step FormFits
    fit_cmp o q e h = let x = here_fits (Cmp o q) e h in rw hj (record { domains = x.domains; fits = x.fits.0 })

    pub fit_left : (o q : ℕ) → Is (Cmp o q) → FitHere → IntFit (left_at w u j q base)
    unfolding step FormFits
    fit_left o q e h = let x = here_fits (Cmp o q) e h in rw hj (record { domains = x.domains; fits = x.fits.1 })

    pub fit_right : (o q : ℕ) → Is (Cmp o q) → FitHere → IntFit (right_at w u j q base)
    unfolding step FormFits
    fit_right o q e h = let x = here_fits (Cmp o q) e h in rw hj (record { domains = x.domains; fits = x.fits.2 })

    cross_fits : (h : Bool) (q : ℕ) → (t ≡ here → ⊥) → Is (Cross h q) → FitHere → Fit (cross (many (decode F u j) 2 false h q base).trees (many (decode F u j) 2 true (not h) q base).trees)
    unfolding step
    cross_fits h q ht e x = subst (λ (f : Form). Fit f) (cross_whole (decode F u) t h q base ht ∙ rw hj refl) (here_fits (Cross h q) e x)

    pub fit_cross : (h : Bool) (q : ℕ) → (t ≡ here → ⊥) → Is (Cross h q) → FitHere → AllFit (many (decode F u j) 2 false h q base).trees × AllFit (many (decode F u j) 2 true (not h) q base).trees
    unfolding FormFits
    fit_cross h q ht e x = let y = cross_fits h q ht e x in (record { domains = y.domains; fits = y.fits.0 }, record { domains = y.domains; fits = y.fits.1 })

  pub fit_not : (q : ℕ) → Is (Not q) → FitHere → Fit (decode F u t (not g) q base).tree
  unfolding step
  fit_not q e h = here_fits (Not q) e h

  pub fit_join : (d : Bool) (k : ℕ) (a b : Bool) (q : ℕ) → Is (Join d k a b q) → FitHere → AllFit (many (decode F u t) k a b q base).trees
  unfolding step
  fit_join d k a b q e h = let x = here_fits (Join d k a b q) e h in record { domains = x.domains; fits = joined_fit x.domains d (many (decode F u t) k a b q base).trees x.fits }

-- ---- members

many_more : (p : Reader) (k : ℕ) (g h : Bool) (at n : ℕ) → (k ≡ 0 → ⊥) → (many p k g h at n).trees ≡ cons (p g at n).tree (many p (k - 1) h h (p g at n).end (p g at n).next).trees
unfolding many
many_more p zero g h at n z = absurd (z refl)
many_more p (suc k) g h at n z = rw sub-one refl

module _ (w : List ℤ) (l : ℕ) (t : Splitting) (k : ℕ) (g h : Bool) (at base : ℕ) (z : k ≡ 0 → ⊥) where
  abbrev R : Reader
  R = decode (read_part w) l t

  pub items_first : items_at w l t k g h at base ≡ item_at w l t g at base ∷ form_items [] (many R (k - 1) h h (R g at base).end (R g at base).next).trees
  unfolding form_item
  items_first = ap (form_items []) (many_more R k g h at base z)

  pub all_fit_head : AllFit (many R k g h at base).trees → Fit (R g at base).tree
  unfolding FormFits
  all_fit_head x = record { domains = x.domains; fits = (subst (λ (ts : Forms). FormsFit x.domains ts) (many_more R k g h at base z) x.fits).0 }

  module _ (q c : ℕ) (s : Skips (read_part w) l t at base q c) where
    trees_is : (many R k g h at base).trees ≡ cons (R g at base).tree (many R (k - 1) h h q c).trees
    trees_is =
        many_more R k g h at base z
        ∙ ap (λ (x : ℕ). cons (R g at base).tree (many R (k - 1) h h x (R g at base).next).trees) (sym (s.end g))
        ∙ ap (λ (y : ℕ). cons (R g at base).tree (many R (k - 1) h h q y).trees) (sym (s.next g))

    pub items_is : items_at w l t k g h at base ≡ item_at w l t g at base ∷ items_at w l t (k - 1) h h q c
    unfolding form_item
    items_is = ap (form_items []) trees_is

    pub all_fit_rest : AllFit (many R k g h at base).trees → AllFit (many R (k - 1) h h q c).trees
    unfolding FormFits
    all_fit_rest x = record { domains = x.domains; fits = (subst (λ (ts : Forms). FormsFit x.domains ts) trees_is x.fits).1 }

-- in a loop over members: the member at q is next, and `rest` are left
pub record Sofar (w out₀ : List ℤ) (l : ℕ) (t : Splitting) (h : Bool) (q rest : ℕ) (f : Bool) (c : ℕ) (e : Counters) (p : ℕ) (out : List ℤ) : Type 0 where
  pub placed : Placed w q c e
  pub opened : Open out p
  pub same : length out ≡ length out₀
  pub fit : AllFit (many (decode (read_part w) l t) rest f h q c).trees

pub sofar_none : {w out : List ℤ} {l : ℕ} {t : Splitting} {g h : Bool} {at k base : ℕ} {n : Counters} {o : ℕ} → Placed w at base n → Open out o → AllFit (many (decode (read_part w) l t) k g h at base).trees → Sofar w out l t h at k g base n o out
sofar_none a b c = record { placed = a; opened = b; same = refl; fit = c }

module _ {w out₀ out : List ℤ} {l : ℕ} {t : Splitting} {h : Bool} {q rest : ℕ} {f : Bool} {c : ℕ} {e : Counters} {p : ℕ} (x : Sofar w out₀ l t h q rest f c e p out) (z : rest ≡ 0 → ⊥) where
  pub sofar_head : Fit (decode (read_part w) l t f q c).tree
  sofar_head = all_fit_head w l t rest f h q c z x.fit

  -- a member passed over, of which something was written
  pub sofar_more : {q' c' : ℕ} {e' : Counters} {out' us : List ℤ} {p' : ℕ} → Skips (read_part w) l t q c q' c' → Low e' → Wrote out p us out' p' → Sofar w out₀ l t h q' (rest - 1) h c' e' p' out'
  sofar_more {q'} {c'} {e'} s i m = record {
    placed = placed_skipped e' x.placed s i;
    opened = open_next x.opened m;
    same = wrote_length m ∙ x.same;
    fit = all_fit_rest w l t rest f h q c z q' c' s x.fit;
  }

  -- of which nothing is written
  pub sofar_skip : {q' c' : ℕ} {e' : Counters} → Skips (read_part w) l t q c q' c' → Low e' → Sofar w out₀ l t h q' (rest - 1) h c' e' p out
  sofar_skip s i = sofar_more s i (wrote_none out p x.opened.low)
