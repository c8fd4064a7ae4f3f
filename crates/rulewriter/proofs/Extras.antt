-- The extras of an expression: the blocks of lists of forms one after another, and what stands at a place.
use mathlib.Core.Path.{◌≡◌, refl, sym, ap, ◌∙◌, subst}
use mathlib.Core.Bool.{Bool, true, false, cond}
use mathlib.Core.List.{List, [], ◌∷◌, ◌++◌, append_assoc}
use Prim.Native.Nat.{ℕ, zero, suc, ◌+◌, ◌-◌, ◌≤◌}
use native.Mathlib.Omega.{arith}
use native.Mathlib.Numerals.{sub-one}
use lib.IntN.{ℤ}
use lib.ListN.{length}
use lib.Dec.{eqb}
use borrow.Author.Tests.{ne_eqb}
use Rattle.laws.specs.Writes.{Wrote, wrote_none, wrote_then, wrote_length, Open}
use Rattle.memory.specs.Places.{folded_end, limit}
use Rattle.syntax.specs.Syntax.{Domain}
use Rattle.walk.specs.Item.{bump}
use Rattle.walk.specs.Decode.{word, past, read_part}
use Rattle.walk.specs.declared.Counters.{Counters}
use Rattle.walk.specs.declared.Node.{Node}
use Rattle.walk.specs.declared.Node.TheVariants.{Var, Cmp, Not, Join, Cross}
use Rattle.walk.proofs.NumberingSteps.{part_length}
use Rattle.walks.specs.Tree.{Splitting, never, below, here, inner}
use Rattle.walks.specs.Form.{Forms, nil, cons, append}
use Rattle.walks.specs.Item.{Item, counts, block_words, form_item, form_items}
use Rattle.walks.specs.Decode.{node_of, decode, decode_int, many_ties, tie_at, cross_ties, ties_step, terms_ties, if_ties, int_ties_step, ties_at, ties_int_at}
use Rattle.walks.specs.SumsFit.{FormFits, FormsFit}
use Rattle.walks.specs.Written.{written, written_lines}
use Rattle.scan.specs.IfLaws.{Low}
use Rattle.scan.specs.Skip.{split_by, Skips, SkipsAll, IntSkips, LeafTerm, int_leaf, skipping_first, skipping_next, skipping_last}
use Rattle.output.proofs.Laws.{open_next}
use Rattle.rulewriter.specs.Places.{Fit, AllFit}
use Rattle.rulewriter.specs.Making.{tied_at, Listed}
use Rattle.rulewriter.specs.Ties.{Blocks, no_extras, two_extras}
use Rattle.rulewriter.specs.declared.Tied.{Tied}

-- ---- one list after another

items_append : (ts us : Forms) → form_items [] (append ts us) ≡ form_items [] ts ++ form_items [] us
unfolding form_item
items_append nil us = refl
items_append (cons t ts) us = ap (λ (is : List Item). form_item [] t ∷ is) (items_append ts us)

append_then : (ts us vs : Forms) → append (append ts us) vs ≡ append ts (append us vs)
append_then nil us vs = refl
append_then (cons t ts) us vs = ap (cons t) (append_then ts us vs)

append_none : (ts : Forms) → append ts nil ≡ ts
append_none nil = refl
append_none (cons t ts) = ap (cons t) (append_none ts)

counts_append : (is js : List Item) (w : List ℤ) (n : Counters) → counts (is ++ js) w n ≡ counts js w (counts is w n)
unfolding counts
counts_append [] js w n = refl
counts_append (i ∷ is) js w n = counts_append is js w (i.count w n)

written_append : (is js : List Item) (w : List ℤ) (n : Counters) → written (is ++ js) w n ≡ written is w n ++ written js w (counts is w n)
unfolding written counts
written_append [] js w n = refl
written_append (i ∷ is) js w n = rw (written_append is js w (i.count w n)) (sym (append_assoc (block_words i w n) (written is w (i.count w n)) (written js w (counts is w (i.count w n)))))

lines_low : (is : List Item) (w : List ℤ) (n : Counters) → written_lines is w n ≤ limit
unfolding written_lines
lines_low [] w n = omega arith
lines_low (i ∷ is) w n = omega arith

lines_first : (a : ℕ) → a ≤ limit → a ≡ bump 0 a
lines_first a h = omega arith

lines_then : (a b c : ℕ) → bump a (bump b c) ≡ bump (bump a b) c
lines_then a b c = omega arith

lines_append : (is js : List Item) (w : List ℤ) (n : Counters) → written_lines (is ++ js) w n ≡ bump (written_lines is w n) (written_lines js w (counts is w n))
unfolding written_lines counts
lines_append [] js w n = lines_first _ (lines_low js w n)
lines_append (i ∷ is) js w n = ap (bump _) (lines_append is js w (i.count w n)) ∙ lines_then _ _ _

listed_none : {w out : List ℤ} {n : Counters} {o : ℕ} → Open out o → Low n → Listed w [] n out o out n 0 o
unfolding written counts written_lines
listed_none {w} {out} {n} {o} h l = record { wrote = wrote_none out o h.low; count = refl; lines = refl; low = l }

listed_then : {w out a b : List ℤ} {is js : List Item} {n m m' : Counters} {o k p k' q : ℕ} → Open out o → Listed w is n out o a m k p → Listed w js m a p b m' k' q → Listed w (is ++ js) n out o b m' (bump k k') q
listed_then {w} {out} {a} {b} {is} {js} {n} {m} {m'} {o} {k} {p} {k'} {q} h x y =
    let i : written is w n ++ written js w m ≡ written (is ++ js) w n = ap (λ (e : Counters). written is w n ++ written js w e) x.count ∙ sym (written_append is js w n) in
    record {
      wrote = subst (λ (v : List ℤ). Wrote out o v b q) i (wrote_then h.room x.wrote y.wrote);
      count = y.count ∙ ap (counts js w) x.count ∙ sym (counts_append is js w n);
      lines = ap (λ (e : ℕ). bump e k') x.lines ∙ ap (bump (written_lines is w n)) (y.lines ∙ ap (written_lines js w) x.count) ∙ sym (lines_append is js w n);
      low = y.low;
    }

-- of forms, as the code gives them
pub extra_none : {w out : List ℤ} {ts : Forms} {n : Counters} {o : ℕ} (at base : ℕ) → ts ≡ nil → Open out o → Low n → Blocks w ts n out o out (no_extras at base n o)
unfolding form_item
extra_none at base e h l = rw e (record { listed = listed_none h l })

pub extra_same : {w out a : List ℤ} {n : Counters} {o : ℕ} {r : Tied} (ts us : Forms) → ts ≡ us → Blocks w us n out o a r → Blocks w ts n out o a r
extra_same {w} {out} {a} {n} {o} {r} ts us e = subst (λ (vs : Forms). Blocks w vs n out o a r) (sym e)

pub extra_then : {w out a b : List ℤ} {n : Counters} {o : ℕ} {x y : Tied} (ts us : Forms) → Open out o → Blocks w ts n out o a x → Blocks w us x.n a x.o b y → Blocks w (append ts us) n out o b (two_extras x y)
extra_then {w} {out} {a} {b} {n} {o} {x} {y} ts us h f g = record { listed = subst (λ (is : List Item). Listed w is n out o b y.n (bump x.lines y.lines) y.o) (sym (items_append ts us)) (listed_then h f.listed g.listed) }

pub extra_open : {w out a : List ℤ} {ts : Forms} {n : Counters} {o : ℕ} {x : Tied} → Open out o → Blocks w ts n out o a x → Open a x.o
extra_open h f = open_next h f.listed.wrote

pub extra_length : {w out a : List ℤ} {ts : Forms} {n : Counters} {o : ℕ} {x : Tied} → Blocks w ts n out o a x → length a ≡ length out
extra_length f = wrote_length f.listed.wrote

-- ---- their sums

fits_left : (ds : List Domain) (ts us : Forms) → FormsFit ds (append ts us) → FormsFit ds ts
unfolding FormFits
fits_left ds nil us h = tt
fits_left ds (cons t ts) us h = (h.0, fits_left ds ts us h.1)

fits_right : (ds : List Domain) (ts us : Forms) → FormsFit ds (append ts us) → FormsFit ds us
unfolding FormFits
fits_right ds nil us h = h
fits_right ds (cons t ts) us h = fits_right ds ts us h.1

pub all_fit_left : (ts us : Forms) → AllFit (append ts us) → AllFit ts
all_fit_left ts us h = record { domains = h.domains; fits = fits_left h.domains ts us h.fits }

pub all_fit_right : (ts us : Forms) → AllFit (append ts us) → AllFit us
all_fit_right ts us h = record { domains = h.domains; fits = fits_right h.domains ts us h.fits }

-- ---- a list whose first part is written: us are left

pub record Going (w : List ℤ) (ts : Forms) (n : Counters) (out₀ : List ℤ) (o : ℕ) (us : Forms) (out : List ℤ) (x : Tied) : Type 0 where
  pub done : Forms
  pub parts : append done us ≡ ts
  pub listed : Blocks w done n out₀ o out x
  pub first : Open out₀ o
  pub fit : AllFit us

pub going_none : {w out : List ℤ} {n : Counters} {o : ℕ} (ts : Forms) (at base : ℕ) → Open out o → Low n → AllFit ts → Going w ts n out o ts out (no_extras at base n o)
going_none ts at base h l f = record { done = nil; parts = refl; listed = extra_none at base refl h l; first = h; fit = f }

module _ {w out₀ out : List ℤ} {ts us : Forms} {n : Counters} {o : ℕ} {x : Tied} (g : Going w ts n out₀ o us out x) where
  pub going_open : Open out x.o
  going_open = extra_open g.first g.listed

  pub going_length : length out ≡ length out₀
  going_length = extra_length g.listed

  pub going_last : us ≡ nil → Blocks w ts n out₀ o out x
  going_last h = subst (λ (vs : Forms). Blocks w vs n out₀ o out x) (sym (append_none g.done) ∙ ap (append g.done) (sym h) ∙ g.parts) g.listed

  module _ (vs rest : Forms) (h : us ≡ append vs rest) where
    pub going_fit : AllFit vs
    going_fit = all_fit_left vs rest (subst (λ (f : Forms). AllFit f) h g.fit)

    pub going_more : {out' : List ℤ} {y : Tied} → Blocks w vs x.n out x.o out' y → Going w ts n out₀ o rest out' (two_extras x y)
    going_more y = record {
      done = append g.done vs;
      parts = append_then g.done vs rest ∙ ap (append g.done) (sym h) ∙ g.parts;
      listed = extra_then g.done vs g.first g.listed y;
      first = g.first;
      fit = all_fit_right vs rest (subst (λ (f : Forms). AllFit f) h g.fit);
    }

-- ---- the extras at a place, by levels

ties_level : (ws : List ℤ) (l u : ℕ) (m : Splitting) (at n : ℕ) (N : Node) → (l ≡ 0 → ⊥) → u ≡ l - 1 → N ≡ node_of ws false at (word ws at) → ties_at ws l m at n ≡ ties_step (decode ws u) (decode_int ws u) (ties_at ws u) (ties_int_at ws u) m n N
unfolding ties_at
ties_level ws zero u m at n N z hu e = absurd (z refl)
ties_level ws (suc l) u m at n N z hu e = let i : u ≡ l = omega arith in rw (e, i)

int_ties_level : (ws : List ℤ) (l u : ℕ) (m : Splitting) (at n k : ℕ) → (l ≡ 0 → ⊥) → u ≡ l - 1 → k ≡ word ws at → ties_int_at ws l m at n ≡ int_ties_step ws (decode ws u) (decode_int ws u) (ties_at ws u) (ties_int_at ws u) m at n k
unfolding ties_at
int_ties_level ws zero u m at n k z hu e = absurd (z refl)
int_ties_level ws (suc l) u m at n k z hu e = let i : u ≡ l = omega arith in rw (e, i)

pub ties_zero : (ws : List ℤ) (l : ℕ) (m : Splitting) (at n : ℕ) → l ≡ 0 → ties_at ws l m at n ≡ nil
unfolding ties_at
ties_zero ws l m at n e = rw e refl

pub int_ties_zero : (ws : List ℤ) (l : ℕ) (m : Splitting) (at n : ℕ) → l ≡ 0 → ties_int_at ws l m at n ≡ nil
unfolding ties_at
int_ties_zero ws l m at n e = rw e refl

module _ (ws : List ℤ) (l u : ℕ) (m : Splitting) (at n : ℕ) (z : l ≡ 0 → ⊥) (hu : u ≡ l - 1) where
  abbrev At : Node → Type 0
  At N = N ≡ node_of ws false at (word ws at)

  pub ties_var : (v q : ℕ) → At (Var v q) → ties_at ws l m at n ≡ nil
  unfolding ties_step
  ties_var v q e = ties_level ws l u m at n (Var v q) z hu e

  pub ties_not : (q : ℕ) → At (Not q) → ties_at ws l m at n ≡ ties_at ws u m q n
  unfolding ties_step
  ties_not q e = ties_level ws l u m at n (Not q) z hu e

  pub ties_join : (d : Bool) (k : ℕ) (a b : Bool) (q : ℕ) → At (Join d k a b q) → ties_at ws l m at n ≡ many_ties (decode ws u m) (ties_at ws u m) k q n
  unfolding ties_step
  ties_join d k a b q e = ties_level ws l u m at n (Join d k a b q) z hu e

  cross_is : (h : Bool) (q : ℕ) → At (Cross h q) → ties_at ws l m at n ≡ cross_ties (decode ws u) (ties_at ws u) m q n
  unfolding ties_step
  cross_is h q e = ties_level ws l u m at n (Cross h q) z hu e

  pub ties_split : (j : Splitting) (h : Bool) (q : ℕ) → At (Cross h q) → m ≡ j → ties_at ws l m at n ≡ cross_ties (decode ws u) (ties_at ws u) j q n
  ties_split j h q e i = cross_is h q e ∙ ap (λ (x : Splitting). cross_ties (decode ws u) (ties_at ws u) x q n) i

  whole_cross : (x : Splitting) (q : ℕ) → (x ≡ here → ⊥) → cross_ties (decode ws u) (ties_at ws u) x q n ≡ many_ties (decode ws u (inner x)) (ties_at ws u (inner x)) 2 q n
  unfolding cross_ties
  whole_cross never q i = refl
  whole_cross below q i = refl
  whole_cross here q i = absurd (i refl)

  -- j: the splitting inside
  pub ties_cross : (j : Splitting) (h : Bool) (q : ℕ) → At (Cross h q) → j ≡ inner m → (m ≡ here → ⊥) → ties_at ws l m at n ≡ many_ties (decode ws u j) (ties_at ws u j) 2 q n
  ties_cross j h q e hj i = cross_is h q e ∙ whole_cross m q i ∙ ap (λ (x : Splitting). many_ties (decode ws u x) (ties_at ws u x) 2 q n) (sym hj)

  module _ (j : Splitting) (c q : ℕ) (e : At (Cmp c q)) (hj : j ≡ inner m) where
    cmp_is : (p b : ℕ) → p ≡ (decode_int ws u j q n).end → b ≡ (decode_int ws u j q n).next → ties_at ws l m at n ≡ append (ties_int_at ws u j q n) (ties_int_at ws u j p b)
    unfolding ties_step
    cmp_is p b hp hb = ties_level ws l u m at n (Cmp c q) z hu e ∙ rw (hp, hb, hj) refl

    pub cmp_first : AllFit (ties_at ws l m at n) → AllFit (ties_int_at ws u j q n)
    cmp_first f = all_fit_left (ties_int_at ws u j q n) _ (subst (λ (ts : Forms). AllFit ts) (cmp_is _ _ refl refl) f)

    module _ (p b : ℕ) (s : IntSkips ws u j q n p b) where
      pub cmp_second : AllFit (ties_at ws l m at n) → AllFit (ties_int_at ws u j p b)
      cmp_second f = all_fit_right (ties_int_at ws u j q n) (ties_int_at ws u j p b) (subst (λ (ts : Forms). AllFit ts) (cmp_is p b s.end s.next) f)

      pub cmp_extras : {w out a d : List ℤ} {k : Counters} {o : ℕ} {x y : Tied} → Open out o → Blocks w (ties_int_at ws u j q n) k out o a x → Blocks w (ties_int_at ws u j p b) x.n a x.o d y → Blocks w (ties_at ws l m at n) k out o d (two_extras x y)
      cmp_extras {x = x} {y = y} h f g = extra_same {r = two_extras x y} (ties_at ws l m at n) _ (cmp_is p b s.end s.next) (extra_then (ties_int_at ws u j q n) (ties_int_at ws u j p b) h f g)

  -- ---- of an integer expression; k: its code

  module _ (k : ℕ) (hk : k ≡ word ws at) where
    same_either : (b : Bool) → cond {A = Forms} b nil nil ≡ nil
    same_either true = refl
    same_either false = refl

    pub int_ties_leaf : (k ≡ 22 → ⊥) → (k ≡ 23 → ⊥) → ties_int_at ws l m at n ≡ nil
    unfolding int_ties_step
    int_ties_leaf x y = int_ties_level ws l u m at n k z hu hk ∙ rw (ne_eqb k 22 x, ne_eqb k 23 y) (same_either (eqb k 21))

    pub int_ties_sum : (c two : ℕ) → k ≡ 22 → c ≡ word ws (at + 1) → past ws (at + 2) ≡ two → ties_int_at ws l m at n ≡ terms_ties ws (decode_int ws u m) (ties_int_at ws u m) c two n
    unfolding int_ties_step
    int_ties_sum c two e hc h = int_ties_level ws l u m at n k z hu hk ∙ rw (e, ← hc, h) refl

    module _ (one : ℕ) (hc : k ≡ 23) (h : past ws (at + 1) ≡ one) where
      if_is : (p b q c : ℕ) → p ≡ (decode ws u m false one n).end → b ≡ (decode ws u m false one n).next → q ≡ (decode_int ws u m p b).end → c ≡ (decode_int ws u m p b).next → ties_int_at ws l m at n ≡ append (ties_at ws u m one n) (append (ties_int_at ws u m p b) (ties_int_at ws u m q c))
      unfolding int_ties_step if_ties
      if_is p b q c hp hb hq hr = int_ties_level ws l u m at n k z hu hk ∙ rw (hc, h, hq, hr, hp, hb) refl

      pub if_first : AllFit (ties_int_at ws l m at n) → AllFit (ties_at ws u m one n)
      if_first f = all_fit_left (ties_at ws u m one n) _ (subst (λ (ts : Forms). AllFit ts) (if_is _ _ _ _ refl refl refl refl) f)

      module _ (p b : ℕ) (s : Skips ws u m one n p b) where
        pub if_second : AllFit (ties_int_at ws l m at n) → AllFit (ties_int_at ws u m p b)
        if_second f = all_fit_left (ties_int_at ws u m p b) _ (all_fit_right (ties_at ws u m one n) _ (subst (λ (ts : Forms). AllFit ts) (if_is p b _ _ (s.end false) (s.next false) refl refl) f))

        module _ (q c : ℕ) (t : IntSkips ws u m p b q c) where
          whole : ties_int_at ws l m at n ≡ append (ties_at ws u m one n) (append (ties_int_at ws u m p b) (ties_int_at ws u m q c))
          whole = if_is p b q c (s.end false) (s.next false) t.end t.next

          pub if_third : AllFit (ties_int_at ws l m at n) → AllFit (ties_int_at ws u m q c)
          if_third f = all_fit_right (ties_int_at ws u m p b) (ties_int_at ws u m q c) (all_fit_right (ties_at ws u m one n) (append (ties_int_at ws u m p b) (ties_int_at ws u m q c)) (subst (λ (ts : Forms). AllFit ts) whole f))

          pub if_extras : {w out a d f : List ℤ} {i : Counters} {o : ℕ} {x y v : Tied} → Open out o → Blocks w (ties_at ws u m one n) i out o a x → Blocks w (ties_int_at ws u m p b) x.n a x.o d y → Blocks w (ties_int_at ws u m q c) y.n d y.o f v
              → Blocks w (ties_int_at ws l m at n) i out o f (two_extras x (two_extras y v))
          if_extras {x = x} {y = y} {v = v} g e₁ e₂ e₃ = extra_same {r = two_extras x (two_extras y v)} (ties_int_at ws l m at n) _ whole
              (extra_then {y = two_extras y v} (ties_at ws u m one n) (append (ties_int_at ws u m p b) (ties_int_at ws u m q c)) g e₁ (extra_then (ties_int_at ws u m p b) (ties_int_at ws u m q c) (extra_open g e₁) e₂ e₃))

-- ---- members, terms

module _ (w : List ℤ) (l : ℕ) (m : Splitting) where
  abbrev M : ℕ → ℕ → ℕ → Forms
  M k q b = many_ties (decode (read_part w) l m) (ties_at (read_part w) l m) k q b

  many_first : (k at n q b : ℕ) → (k ≡ 0 → ⊥) → q ≡ (decode (read_part w) l m false at n).end → b ≡ (decode (read_part w) l m false at n).next → M k at n ≡ append (ties_at (read_part w) l m at n) (M (k - 1) q b)
  unfolding many_ties
  many_first zero at n q b z e f = absurd (z refl)
  many_first (suc k) at n q b z e f = rw (sub-one, e, f) refl

  many_none : (k at n : ℕ) → k ≡ 0 → M k at n ≡ nil
  unfolding many_ties
  many_none k at n e = rw e refl

  abbrev N : ℕ → ℕ → ℕ → Forms
  N k q b = terms_ties (read_part w) (decode_int (read_part w) l m) (ties_int_at (read_part w) l m) k q b

  terms_first : (k at n p q b : ℕ) → (k ≡ 0 → ⊥) → past (read_part w) (at + 1) ≡ p → q ≡ (decode_int (read_part w) l m p n).end → b ≡ (decode_int (read_part w) l m p n).next → N k at n ≡ append (ties_int_at (read_part w) l m p n) (N (k - 1) q b)
  unfolding terms_ties
  terms_first zero at n p q b z h e f = absurd (z refl)
  terms_first (suc k) at n p q b z h e f = rw (sub-one, e, f, h) refl

  terms_none : (k at n : ℕ) → k ≡ 0 → N k at n ≡ nil
  unfolding terms_ties
  terms_none k at n e = rw e refl

  module _ {ts : Forms} {n : Counters} {out₀ out : List ℤ} {o : ℕ} (k : ℕ) (x : Tied) where
    pub members_last : Going w ts n out₀ o (M k x.at x.base) out x → k ≡ 0 → Blocks w ts n out₀ o out x
    members_last g e = going_last g (many_none k x.at x.base e)

    pub terms_last : Going w ts n out₀ o (N k x.at x.base) out x → k ≡ 0 → Blocks w ts n out₀ o out x
    terms_last g e = going_last g (terms_none k x.at x.base e)

    module _ (z : k ≡ 0 → ⊥) where
      pub members_fit : Going w ts n out₀ o (M k x.at x.base) out x → AllFit (ties_at (read_part w) l m x.at x.base)
      members_fit g = going_fit g (ties_at (read_part w) l m x.at x.base) _ (many_first k x.at x.base _ _ z refl refl)

      pub members_more : {out' : List ℤ} (y : Tied) → Going w ts n out₀ o (M k x.at x.base) out x → Skips (read_part w) l m x.at x.base y.at y.base → Blocks w (ties_at (read_part w) l m x.at x.base) x.n out x.o out' y
          → Going w ts n out₀ o (M (k - 1) y.at y.base) out' (two_extras x y)
      members_more y g s f = going_more g (ties_at (read_part w) l m x.at x.base) (M (k - 1) y.at y.base) (many_first k x.at x.base y.at y.base z (s.end false) (s.next false)) f

      module _ (p : ℕ) (h : past (read_part w) (x.at + 1) ≡ p) where
        pub term_fits : Going w ts n out₀ o (N k x.at x.base) out x → AllFit (ties_int_at (read_part w) l m p x.base)
        term_fits g = going_fit g (ties_int_at (read_part w) l m p x.base) _ (terms_first k x.at x.base p _ _ z h refl refl)

        pub terms_more : {out' : List ℤ} (y : Tied) → Going w ts n out₀ o (N k x.at x.base) out x → IntSkips (read_part w) l m p x.base y.at y.base → Blocks w (ties_int_at (read_part w) l m p x.base) x.n out x.o out' y
            → Going w ts n out₀ o (N (k - 1) y.at y.base) out' (two_extras x y)
        terms_more y g s f = going_more g (ties_int_at (read_part w) l m p x.base) (N (k - 1) y.at y.base) (terms_first k x.at x.base p y.at y.base z h s.end s.next) f

      -- a constant or a variable
      pub terms_leaf : Going w ts n out₀ o (N k x.at x.base) out x → folded_end ≤ length w → x.base ≤ limit → Low x.n → LeafTerm w l x.at → Going w ts n out₀ o (N (k - 1) (x.at + 3) x.base) out (two_extras x (no_extras (x.at + 3) x.base x.n x.o))
      terms_leaf g size i low h =
          let p = x.at + 1 in
          let e : past (read_part w) (x.at + 1) ≡ p = omega (arith, part_length w size, h.1) in
          let s = int_leaf w size l m p x.base (omega (arith, h.1)) i (l - 1) h.0 refl (word (read_part w) p) (x.at + 3) refl h.2 h.3 (omega (arith, h.1)) in
          terms_more p e (no_extras (x.at + 3) x.base x.n x.o) g s (extra_none (x.at + 3) x.base (int_ties_leaf (read_part w) l (l - 1) m p x.base h.0 refl (word (read_part w) p) refl h.2 h.3) (going_open g) low)

pub both_skipped : (ws : List ℤ) (l : ℕ) (m : Splitting) (at n p b q c : ℕ) → at ≤ folded_end → n ≤ limit → Skips ws l m at n p b → Skips ws l m p b q c → SkipsAll ws l m 2 at n q c
both_skipped ws l m at n p b q c h i s t = skipping_last ws l m 2 at n 0 q c (skipping_next ws l m 2 at n 1 p b q c (skipping_next ws l m 2 at n 2 at n p b (skipping_first ws l m 2 at n h i) (λ z. omega (arith, z)) s) (λ z. omega (arith, z)) t) refl

-- ---- the sides of a split Xor or Iff; c: the splitting's number behind the two

module _ (w : List ℤ) (l at n c : ℕ) (hc : c ≡ bump n 2) where
  abbrev S : ℕ → ℕ → Forms
  S p b = ties_at (read_part w) l (split_by 2) p b

  abbrev T : ℕ → ℕ → ℕ → Forms
  T v p b = cons (tie_at (decode (read_part w) l (split_by 2)) v p b) nil

  abbrev Both : Forms
  Both = cross_ties (decode (read_part w) l) (ties_at (read_part w) l) (split_by 2) at n

  split_is : (q b : ℕ) → q ≡ (decode (read_part w) l (split_by 2) false at c).end → b ≡ (decode (read_part w) l (split_by 2) false at c).next → Both ≡ append (S at c) (append (T n at c) (append (S q b) (T (n + 1) q b)))
  unfolding cross_ties split_by
  split_is q b hq hb = rw (hq, hb, hc) (append_then (ties_at (read_part w) l here at (bump n 2)) _ _)

  pub split_first : AllFit Both → AllFit (S at c)
  split_first f = all_fit_left (S at c) _ (subst (λ (ts : Forms). AllFit ts) (split_is _ _ refl refl) f)

  one_tie : (v p b : ℕ) → AllFit (T v p b) → Fit (decode (read_part w) l (split_by 2) false p b).tree × Fit (decode (read_part w) l (split_by 2) true p b).tree
  unfolding FormFits tie_at
  one_tie v p b f = (record { domains = f.domains; fits = f.fits.0.0 }, record { domains = f.domains; fits = f.fits.0.1 })

  pub split_tie : AllFit Both → Fit (decode (read_part w) l (split_by 2) false at c).tree × Fit (decode (read_part w) l (split_by 2) true at c).tree
  split_tie f = one_tie n at c (all_fit_left (T n at c) _ (all_fit_right (S at c) _ (subst (λ (ts : Forms). AllFit ts) (split_is _ _ refl refl) f)))

  -- the block of a tie
  pub tie_blocks : (v p b : ℕ) {k : Counters} {out a : List ℤ} {o : ℕ} (r : Tied) → Listed w (tied_at w l (split_by 2) v p b ∷ []) k out o a r.n r.lines r.o → Blocks w (T v p b) k out o a r
  unfolding form_item tie_at
  tie_blocks v p b r x = record { listed = x }

  module _ (q b : ℕ) (s : Skips (read_part w) l (split_by 2) at c q b) where
    rest_fit : AllFit Both → AllFit (append (S q b) (T (n + 1) q b))
    rest_fit f = all_fit_right (T n at c) (append (S q b) (T (n + 1) q b)) (all_fit_right (S at c) (append (T n at c) (append (S q b) (T (n + 1) q b))) (subst (λ (ts : Forms). AllFit ts) (split_is q b (s.end false) (s.next false)) f))

    pub split_second : AllFit Both → AllFit (S q b)
    split_second f = all_fit_left (S q b) (T (n + 1) q b) (rest_fit f)

    pub split_other : AllFit Both → Fit (decode (read_part w) l (split_by 2) false q b).tree × Fit (decode (read_part w) l (split_by 2) true q b).tree
    split_other f = one_tie (n + 1) q b (all_fit_right (S q b) (T (n + 1) q b) (rest_fit f))

    pub split_extras : {k : Counters} {out a₁ a₂ a₃ a₄ : List ℤ} {o : ℕ} {x y u v : Tied} → Open out o → Blocks w (S at c) k out o a₁ x → Blocks w (T n at c) x.n a₁ x.o a₂ y → Blocks w (S q b) y.n a₂ y.o a₃ u → Blocks w (T (n + 1) q b) u.n a₃ u.o a₄ v
        → Blocks w Both k out o a₄ (two_extras x (two_extras y (two_extras u v)))
    split_extras h e₁ e₂ e₃ e₄ =
        let h₁ = extra_open h e₁ in
        extra_same Both _ (split_is q b (s.end false) (s.next false)) (extra_then (S at c) (append (T n at c) (append (S q b) (T (n + 1) q b))) h e₁
        (extra_then (T n at c) (append (S q b) (T (n + 1) q b)) h₁ e₂ (extra_then (S q b) (T (n + 1) q b) (extra_open h₁ e₂) e₃ e₄)))
