-- The walk over the extras of an expression: what its parts ask and do, and what it does. Laws for the code.
use Rattle.std.specs.Prelude.{◌≡◌, Bool, List, ℤ, length, eqb}
use Rattle.std.proofs.Math.Path.{refl, sym, ap, subst}
use Rattle.std.proofs.Common.{◌∙◌}
use Rattle.std.proofs.Math.Bool.{true, false, cond}
use Prim.Native.Nat.{ℕ, zero, suc, ◌+◌, ◌-◌, ◌≤◌, min}
use native.Mathlib.Omega.{arith}
use borrow.Author.Tests.{ne_eqb}
use Rattle.memory.specs.Places.{folded_end, limit}
use Rattle.syntax.specs.Syntax.{Domain}
use Rattle.walk.specs.Item.{bump}
use Rattle.walk.specs.Decode.{word, past, read_part}
use Rattle.walk.specs.declared.Node.{Node}
use Rattle.walk.specs.declared.Node.TheVariants.{Var, Cmp, Not, Join, Cross}
use Rattle.walk.proofs.NumberingSteps.{part_length}
use Rattle.walks.specs.Tree.{Splitting, never, below, here, inner}
use Rattle.walks.specs.Form.{Form, Forms, nil, cons, append}
use Rattle.walks.specs.Decode.{node_of, decode, decode_int, many_ties, tie_at, cross_ties, ties_step, terms_ties, if_ties, int_ties_step, ties_at, ties_int_at}
use Rattle.walks.specs.Meet.{State, form_meet, form_meets}
use Rattle.scan.specs.Nodes.{okay_at}
use Rattle.scan.specs.Skip.{split_by, Skips, IntSkips}
use Rattle.numbering.specs.Task.{Task, then, Low, kept_same, Done, Left, left_all, left_done, left_next, left_last_at, ready_next, ready_last, Starts, starts_same, starts_later}
use Rattle.numbering.specs.Fits.{form_fits, forms_fit, forms_task, form_task}
use Rattle.numbering.specs.Steps.{form_at}

module _ (rec cap : ℕ) where
  abbrev pub ties_of : List ℤ → ℕ → Splitting → ℕ → ℕ → Task
  ties_of ws l m at base = forms_task rec cap (ties_at ws l m at base)

  abbrev pub int_ties_of : List ℤ → ℕ → Splitting → ℕ → ℕ → Task
  int_ties_of ws l m at base = forms_task rec cap (ties_int_at ws l m at base)

  -- of so many members, of so many terms
  abbrev pub each_ties_of : List ℤ → ℕ → Splitting → ℕ → ℕ → ℕ → Task
  each_ties_of ws l m k at base = forms_task rec cap (many_ties (decode ws l m) (ties_at ws l m) k at base)

  abbrev pub terms_ties_of : List ℤ → ℕ → Splitting → ℕ → ℕ → ℕ → Task
  terms_ties_of ws l m k at base = forms_task rec cap (terms_ties ws (decode_int ws l m) (ties_int_at ws l m) k at base)

  -- of the sides of a split Xor or Iff, of an If
  abbrev pub sides_of : List ℤ → ℕ → ℕ → ℕ → Task
  sides_of ws l at base = forms_task rec cap (cross_ties (decode ws l) (ties_at ws l) here at base)

  abbrev pub if_ties_of : List ℤ → ℕ → Splitting → ℕ → ℕ → Task
  if_ties_of ws u m c base = forms_task rec cap (if_ties (decode ws u) (decode_int ws u) (ties_at ws u) (ties_int_at ws u) m c base)

  -- a side, plain and then negated
  abbrev pub tie_of : List ℤ → ℕ → Splitting → ℕ → ℕ → Task
  tie_of ws l m at base = then (form_at rec cap ws l m false at base) (form_at rec cap ws l m true at base)

  meets_append : (ds : List Domain) (ts us : Forms) (st : State) → form_meets ds rec cap (append ts us) st ≡ form_meets ds rec cap us (form_meets ds rec cap ts st)
  unfolding form_meet
  meets_append ds nil us st = refl
  meets_append ds (cons t ts) us st = meets_append ds ts us (form_meet ds rec cap t st)

  fits_append : (ds : List Domain) (ts us : Forms) (st : State) → forms_fit ds rec cap (append ts us) st → forms_fit ds rec cap ts st × forms_fit ds rec cap us (form_meets ds rec cap ts st)
  unfolding form_meet form_fits
  fits_append ds nil us st f = (tt, f)
  fits_append ds (cons t ts) us st f = let g = fits_append ds ts us (form_meet ds rec cap t st) f.1 in ((f.0, g.0), g.1)

  -- one list behind another
  pub left_append : {t : Task} {st st' : State} (ts us : Forms) → Left t st (forms_task rec cap (append ts us)) st' → Left t st (then (forms_task rec cap ts) (forms_task rec cap us)) st'
  left_append {t} {st} {st'} ts us x = record { fits = λ ds d f. fits_append ds ts us st' (x.fits ds d f); state = λ ds d f. sym (meets_append ds ts us st') ∙ x.state ds d f; kept = x.kept; low = x.low }

-- ---- a side

module _ (rec cap : ℕ) (st : State) (l : ℕ) (m : Splitting) (at base : ℕ) (s : Starts (tie_of rec cap (read_part st.work) l m at base) st rec at base) where
  abbrev plain : Bool → List ℤ → Task
  plain g ws = form_at rec cap ws l m g at base

  tie_parts : Left (tie_of rec cap (read_part st.work) l m at base) st (tie_of rec cap (read_part st.work) l m at base) st
  tie_parts = left_all (tie_of rec cap (read_part st.work) l m at base) st s.low

  pub tie_first : Starts (plain false (read_part st.work)) st rec at base
  tie_first = starts_same s s.inside s.low_base (ready_next (plain false) (plain true (read_part st.work)) s.ready tie_parts)

  module _ (st' : State) (x : Done (plain false (read_part st.work)) st st') where
    tie_rest : Left (tie_of rec cap (read_part st.work) l m at base) st (plain true (read_part st.work)) st'
    tie_rest = left_next (plain false) tie_parts x

    pub tie_second : Starts (plain true (read_part st'.work)) st' rec at base
    tie_second = starts_later s x.kept x.low s.inside s.low_base (ready_last (plain true) s.ready tie_rest)

    pub tie_done : (st'' : State) → Done (plain true (read_part st'.work)) st' st'' → Done (tie_of rec cap (read_part st.work) l m at base) st st''
    tie_done st'' y = left_last_at (plain true) tie_rest y

-- ---- an expression

pub done_nil : (rec cap : ℕ) (st : State) → Low st → Done (forms_task rec cap nil) st st
unfolding form_meet form_fits
done_nil rec cap st h = record { state = λ ds d f. refl; kept = kept_same st; low = h }

ties_level : (ws : List ℤ) (l u : ℕ) (m : Splitting) (at n : ℕ) (N : Node) → (l ≡ 0 → ⊥) → u ≡ l - 1 → N ≡ node_of ws false at (word ws at) → ties_at ws l m at n ≡ ties_step (decode ws u) (decode_int ws u) (ties_at ws u) (ties_int_at ws u) m n N
unfolding ties_at
ties_level ws zero u m at n N z hu e = absurd (z refl)
ties_level ws (suc l) u m at n N z hu e = let i : u ≡ l = omega arith in rw (e, i)

int_ties_level : (ws : List ℤ) (l u : ℕ) (m : Splitting) (at n k : ℕ) → (l ≡ 0 → ⊥) → u ≡ l - 1 → k ≡ word ws at → ties_int_at ws l m at n ≡ int_ties_step ws (decode ws u) (decode_int ws u) (ties_at ws u) (ties_int_at ws u) m at n k
unfolding ties_at
int_ties_level ws zero u m at n k z hu e = absurd (z refl)
int_ties_level ws (suc l) u m at n k z hu e = let i : u ≡ l = omega arith in rw (e, i)

module _ (rec cap : ℕ) (st : State) (l : ℕ) (m : Splitting) (at base : ℕ) (s : Starts (ties_of rec cap (read_part st.work) l m at base) st rec at base) where
  abbrev Here : State → Type 0
  Here st' = Done (ties_of rec cap (read_part st.work) l m at base) st st'

  pub ties_zero : l ≡ 0 → Here st
  unfolding ties_at
  ties_zero e = rw e (done_nil rec cap st s.low)

  module _ (u : ℕ) (z : l ≡ 0 → ⊥) (hu : u ≡ l - 1) where
    abbrev At : Node → Type 0
    At N = N ≡ node_of (read_part st.work) false at (word (read_part st.work) at)

    abbrev node_ties : Node → Forms
    node_ties N = ties_step (decode (read_part st.work) u) (decode_int (read_part st.work) u) (ties_at (read_part st.work) u) (ties_int_at (read_part st.work) u) m base N

    carry : (N : Node) {st' : State} → At N → Done (forms_task rec cap (node_ties N)) st st' → Here st'
    carry N {st'} e = subst (λ (ts : Forms). Done (forms_task rec cap ts) st st') (sym (ties_level (read_part st.work) l u m at base N z hu e))

    starts_at : (N : Node) (q b : ℕ) → At N → q ≤ folded_end → b ≤ limit → Starts (forms_task rec cap (node_ties N)) st rec q b
    starts_at N q b e i o = subst (λ (ts : Forms). Starts (forms_task rec cap ts) st rec q b) (ties_level (read_part st.work) l u m at base N z hu e) (starts_same s i o s.ready)

    part_size : length (read_part st.work) ≡ folded_end
    part_size = part_length st.work s.size

    pub ties_var : (v q : ℕ) → At (Var v q) → Here st
    unfolding ties_step
    ties_var v q e = carry (Var v q) e (done_nil rec cap st s.low)

    pub ties_not_starts : (q : ℕ) → At (Not q) → Starts (ties_of rec cap (read_part st.work) u m q base) st rec q base
    unfolding ties_step
    ties_not_starts q e = let k = okay_at st.work false at (Not q) s.size s.inside e in starts_at (Not q) q base e (omega (arith, k.1, part_size)) s.low_base

    pub ties_not : (q : ℕ) (st' : State) → At (Not q) → Done (ties_of rec cap (read_part st.work) u m q base) st st' → Here st'
    unfolding ties_step
    ties_not q st' e x = carry (Not q) e x

    pub ties_join_starts : (d : Bool) (k : ℕ) (a b : Bool) (q : ℕ) → At (Join d k a b q) → Starts (each_ties_of rec cap (read_part st.work) u m k q base) st rec q base
    unfolding ties_step
    ties_join_starts d k a b q e = let o = okay_at st.work false at (Join d k a b q) s.size s.inside e in starts_at (Join d k a b q) q base e (omega (arith, o.1, part_size)) s.low_base

    pub ties_join : (d : Bool) (k : ℕ) (a b : Bool) (q : ℕ) (st' : State) → At (Join d k a b q) → Done (each_ties_of rec cap (read_part st.work) u m k q base) st st' → Here st'
    unfolding ties_step
    ties_join d k a b q st' e x = carry (Join d k a b q) e x

    -- ---- an Xor or Iff

    module _ (h : Bool) (q : ℕ) (e : At (Cross h q)) where
      place : q ≤ folded_end
      place = let o = okay_at st.work false at (Cross h q) s.size s.inside e in omega (arith, o.1, part_size)

      module _ (j : ℕ) (ne : m ≡ here → ⊥) (hj : split_by j ≡ inner m) where
        plain_sides : (k : Splitting) → m ≡ k → cross_ties (decode (read_part st.work) u) (ties_at (read_part st.work) u) k q base ≡ many_ties (decode (read_part st.work) u (inner k)) (ties_at (read_part st.work) u (inner k)) 2 q base
        unfolding cross_ties
        plain_sides never i = refl
        plain_sides below i = refl
        plain_sides here i = absurd (ne i)

        sides_are : node_ties (Cross h q) ≡ many_ties (decode (read_part st.work) u (split_by j)) (ties_at (read_part st.work) u (split_by j)) 2 q base
        unfolding ties_step
        sides_are = plain_sides m refl ∙ ap (λ (k : Splitting). many_ties (decode (read_part st.work) u k) (ties_at (read_part st.work) u k) 2 q base) (sym hj)

        pub ties_cross_starts : Starts (each_ties_of rec cap (read_part st.work) u (split_by j) 2 q base) st rec q base
        ties_cross_starts = subst (λ (ts : Forms). Starts (forms_task rec cap ts) st rec q base) sides_are (starts_at (Cross h q) q base e place s.low_base)

        pub ties_cross : (st' : State) → Done (each_ties_of rec cap (read_part st.work) u (split_by j) 2 q base) st st' → Here st'
        ties_cross st' x = carry (Cross h q) e (subst (λ (ts : Forms). Done (forms_task rec cap ts) st st') (sym sides_are) x)

      module _ (hm : m ≡ here) where
        split_are : node_ties (Cross h q) ≡ cross_ties (decode (read_part st.work) u) (ties_at (read_part st.work) u) here q base
        unfolding ties_step
        split_are = ap (λ (k : Splitting). cross_ties (decode (read_part st.work) u) (ties_at (read_part st.work) u) k q base) hm

        pub ties_split_starts : Starts (sides_of rec cap (read_part st.work) u q base) st rec q base
        ties_split_starts = subst (λ (ts : Forms). Starts (forms_task rec cap ts) st rec q base) split_are (starts_at (Cross h q) q base e place s.low_base)

        pub ties_split : (st' : State) → Done (sides_of rec cap (read_part st.work) u q base) st st' → Here st'
        ties_split st' x = carry (Cross h q) e (subst (λ (ts : Forms). Done (forms_task rec cap ts) st st') (sym split_are) x)

    -- ---- a comparison; j: the splitting's code inside

    module _ (o q j : ℕ) (e : At (Cmp o q)) (hj : split_by j ≡ inner m) where
      abbrev side : ℕ → ℕ → List ℤ → Task
      side p b ws = int_ties_of rec cap ws u (split_by j) p b

      abbrev Cut : (p b : ℕ) → Type 0
      Cut p b = Left (ties_of rec cap (read_part st.work) l m at base) st (then (side q base (read_part st.work)) (side p b (read_part st.work))) st

      cmp_ties : Cut (decode_int (read_part st.work) u (split_by j) q base).end (decode_int (read_part st.work) u (split_by j) q base).next
      unfolding ties_step
      cmp_ties = subst (λ (k : Splitting). Left (ties_of rec cap (read_part st.work) l m at base) st (then (int_ties_of rec cap (read_part st.work) u k q base) (let d = decode_int (read_part st.work) u k q base in int_ties_of rec cap (read_part st.work) u k d.end d.next)) st) (sym hj)
          (left_append rec cap _ _ (subst (λ (ts : Forms). Left (forms_task rec cap ts) st (forms_task rec cap (node_ties (Cmp o q))) st) (sym (ties_level (read_part st.work) l u m at base (Cmp o q) z hu e)) (left_all (forms_task rec cap (node_ties (Cmp o q))) st s.low)))

      pub ties_cmp_first : Starts (side q base (read_part st.work)) st rec q base
      ties_cmp_first = let k = okay_at st.work false at (Cmp o q) s.size s.inside e in starts_same s (omega (arith, k.1, part_size)) s.low_base (ready_next (side q base) (let d = decode_int (read_part st.work) u (split_by j) q base in side d.end d.next (read_part st.work)) s.ready cmp_ties)

      module _ (q' b' : ℕ) (st' : State) (i : IntSkips (read_part st.work) u (split_by j) q base q' b') (x : Done (side q base (read_part st.work)) st st') where
        cmp_rest : Left (ties_of rec cap (read_part st.work) l m at base) st (side q' b' (read_part st.work)) st'
        cmp_rest = left_next (side q base) (subst (λ (n : ℕ). Cut q' n) (sym i.next) (subst (λ (p : ℕ). Cut p (decode_int (read_part st.work) u (split_by j) q base).next) (sym i.end) cmp_ties)) x

        pub ties_cmp_second : Starts (side q' b' (read_part st'.work)) st' rec q' b'
        ties_cmp_second = starts_later s x.kept x.low i.inside i.low (ready_last (side q' b') s.ready cmp_rest)

        pub ties_cmp : (st'' : State) → Done (side q' b' (read_part st'.work)) st' st'' → Here st''
        ties_cmp st'' y = left_last_at (side q' b') cmp_rest y

-- ---- members, one after another

module _ (rec cap l : ℕ) (m : Splitting) (k at base : ℕ) (st : State) where
  abbrev pub EachTies : ℕ → ℕ → ℕ → State → Type 0
  EachTies rest q b st' = Left (each_ties_of rec cap (read_part st.work) l m k at base) st (each_ties_of rec cap (read_part st.work) l m rest q b) st'

  abbrev Next : ℕ → ℕ → ℕ → State → Type 0
  Next rest q b st' = let ws = read_part st.work in let d = decode ws l m false q b in Left (each_ties_of rec cap ws l m k at base) st (then (ties_of rec cap ws l m q b) (each_ties_of rec cap ws l m rest d.end d.next)) st'

  each_more : (rest q b : ℕ) (st' : State) → (rest ≡ 0 → ⊥) → EachTies rest q b st' → Next (rest - 1) q b st'
  unfolding many_ties
  each_more zero q b st' z x = absurd (z refl)
  each_more (suc rest) q b st' z x = let e : rest ≡ suc rest - 1 = omega arith in subst (λ (n : ℕ). Next n q b st') e (left_append rec cap _ _ x)

  module _ (rest q b : ℕ) (st' : State) (z : rest ≡ 0 → ⊥) (s : Starts (each_ties_of rec cap (read_part st.work) l m k at base) st rec at base) (x : EachTies rest q b st') where
    pub each_starts : q ≤ folded_end → b ≤ limit → Starts (ties_of rec cap (read_part st'.work) l m q b) st' rec q b
    each_starts i o = starts_later s x.kept x.low i o (ready_next (λ ws. ties_of rec cap ws l m q b) (let d = decode (read_part st.work) l m false q b in each_ties_of rec cap (read_part st.work) l m (rest - 1) d.end d.next) s.ready (each_more rest q b st' z x))

    pub each_next : (st'' : State) (q' b' : ℕ) → Done (ties_of rec cap (read_part st'.work) l m q b) st' st'' → Skips (read_part st.work) l m q b q' b' → EachTies (rest - 1) q' b' st''
    each_next st'' q' b' y j =
        subst (λ (n : ℕ). EachTies (rest - 1) q' n st'') (sym (j.next false)) (subst (λ (n : ℕ). EachTies (rest - 1) n (decode (read_part st.work) l m false q b).next st'') (sym (j.end false))
        (left_next (λ ws. ties_of rec cap ws l m q b) (each_more rest q b st' z x) y))

  pub each_last : (rest q b : ℕ) (st' : State) → EachTies rest q b st' → rest ≡ 0 → Done (each_ties_of rec cap (read_part st.work) l m k at base) st st'
  unfolding many_ties form_meet form_fits
  each_last zero q b st' x e = left_done (record { fits = x.fits; state = x.state; kept = x.kept; low = x.low })
  each_last (suc rest) q b st' x e = absurd (omega arith)

-- ---- terms, one after another

module _ (rec cap l : ℕ) (m : Splitting) (k at base : ℕ) (st : State) where
  abbrev pub TermTies : ℕ → ℕ → ℕ → State → Type 0
  TermTies rest q b st' = Left (terms_ties_of rec cap (read_part st.work) l m k at base) st (terms_ties_of rec cap (read_part st.work) l m rest q b) st'

  abbrev Following : ℕ → ℕ → ℕ → State → Type 0
  Following rest p b st' = let ws = read_part st.work in let d = decode_int ws l m p b in Left (terms_ties_of rec cap ws l m k at base) st (then (int_ties_of rec cap ws l m p b) (terms_ties_of rec cap ws l m rest d.end d.next)) st'

  term_more : (rest q b p : ℕ) (st' : State) → (rest ≡ 0 → ⊥) → folded_end ≤ length st.work → p ≡ min (q + 1) folded_end → TermTies rest q b st' → Following (rest - 1) p b st'
  unfolding terms_ties
  term_more zero q b p st' z h i x = absurd (z refl)
  term_more (suc rest) q b p st' z h i x =
      let e : rest ≡ suc rest - 1 = omega arith in
      let f : past (read_part st.work) (q + 1) ≡ p = omega (arith, part_length st.work h) in
      subst (λ (n : ℕ). Following n p b st') e (subst (λ (n : ℕ). Following rest n b st') f (left_append rec cap _ _ x))

  module _ (rest q b p : ℕ) (st' : State) (z : rest ≡ 0 → ⊥) (s : Starts (terms_ties_of rec cap (read_part st.work) l m k at base) st rec at base) (i : p ≡ min (q + 1) folded_end) (x : TermTies rest q b st') where
    pub term_ties_starts : b ≤ limit → Starts (int_ties_of rec cap (read_part st'.work) l m p b) st' rec p b
    term_ties_starts o = starts_later s x.kept x.low (omega arith) o
        (ready_next (λ ws. int_ties_of rec cap ws l m p b) (let d = decode_int (read_part st.work) l m p b in terms_ties_of rec cap (read_part st.work) l m (rest - 1) d.end d.next) s.ready (term_more rest q b p st' z s.size i x))

    pub term_ties_next : (st'' : State) (q' b' : ℕ) → Done (int_ties_of rec cap (read_part st'.work) l m p b) st' st'' → IntSkips (read_part st.work) l m p b q' b' → TermTies (rest - 1) q' b' st''
    term_ties_next st'' q' b' y j =
        subst (λ (n : ℕ). TermTies (rest - 1) q' n st'') (sym j.next) (subst (λ (n : ℕ). TermTies (rest - 1) n (decode_int (read_part st.work) l m p b).next st'') (sym j.end)
        (left_next (λ ws. int_ties_of rec cap ws l m p b) (term_more rest q b p st' z s.size i x) y))

  pub term_ties_last : (rest q b : ℕ) (st' : State) → TermTies rest q b st' → rest ≡ 0 → Done (terms_ties_of rec cap (read_part st.work) l m k at base) st st'
  unfolding terms_ties form_meet form_fits
  term_ties_last zero q b st' x e = left_done (record { fits = x.fits; state = x.state; kept = x.kept; low = x.low })
  term_ties_last (suc rest) q b st' x e = absurd (omega arith)

-- ---- an integer expression

module _ (rec cap : ℕ) (st : State) (l : ℕ) (m : Splitting) (at base : ℕ) (s : Starts (int_ties_of rec cap (read_part st.work) l m at base) st rec at base) where
  abbrev HereInt : State → Type 0
  HereInt st' = Done (int_ties_of rec cap (read_part st.work) l m at base) st st'

  pub int_ties_zero : l ≡ 0 → HereInt st
  unfolding ties_at
  int_ties_zero e = rw e (done_nil rec cap st s.low)

  module _ (u : ℕ) (z : l ≡ 0 → ⊥) (hu : u ≡ l - 1) (k : ℕ) (hk : k ≡ word (read_part st.work) at) where
    abbrev code_ties : Forms
    code_ties = int_ties_step (read_part st.work) (decode (read_part st.work) u) (decode_int (read_part st.work) u) (ties_at (read_part st.work) u) (ties_int_at (read_part st.work) u) m at base k

    code_carry : (ts : Forms) {st' : State} → code_ties ≡ ts → Done (forms_task rec cap ts) st st' → HereInt st'
    code_carry ts {st'} e = subst (λ (f : Forms). Done (forms_task rec cap f) st st') (sym (int_ties_level (read_part st.work) l u m at base k z hu hk ∙ e))

    code_starts : (ts : Forms) (q b : ℕ) → code_ties ≡ ts → q ≤ folded_end → b ≤ limit → Starts (forms_task rec cap ts) st rec q b
    code_starts ts q b e i o = subst (λ (f : Forms). Starts (forms_task rec cap f) st rec q b) (int_ties_level (read_part st.work) l u m at base k z hu hk ∙ e) (starts_same s i o s.ready)

    past_is : (p q : ℕ) → q ≡ min p folded_end → past (read_part st.work) p ≡ q
    past_is p q e = omega (arith, part_length st.work s.size)

    pub int_ties_leaf : (k ≡ 22 → ⊥) → (k ≡ 23 → ⊥) → HereInt st
    unfolding int_ties_step
    int_ties_leaf x y = code_carry nil (rw (ne_eqb k 22 x, ne_eqb k 23 y) (go (eqb k 21))) (done_nil rec cap st s.low)
      where
        go : (b : Bool) → cond {A = Forms} b nil nil ≡ nil
        go true = refl
        go false = refl

    module _ (n two : ℕ) (hn : n ≡ word (read_part st.work) (at + 1)) (h : two ≡ min (at + 2) folded_end) (e : k ≡ 22) where
      sum_code : code_ties ≡ terms_ties (read_part st.work) (decode_int (read_part st.work) u m) (ties_int_at (read_part st.work) u m) n two base
      unfolding int_ties_step
      sum_code = rw (e, ← hn, past_is (at + 2) two h) refl

      pub int_ties_sum_starts : Starts (terms_ties_of rec cap (read_part st.work) u m n two base) st rec two base
      int_ties_sum_starts = code_starts _ two base sum_code (omega arith) s.low_base

      pub int_ties_sum : (st' : State) → Done (terms_ties_of rec cap (read_part st.work) u m n two base) st st' → HereInt st'
      int_ties_sum st' x = code_carry _ sum_code x

    module _ (one : ℕ) (h : one ≡ min (at + 1) folded_end) (e : k ≡ 23) where
      if_code : code_ties ≡ if_ties (decode (read_part st.work) u) (decode_int (read_part st.work) u) (ties_at (read_part st.work) u) (ties_int_at (read_part st.work) u) m one base
      unfolding int_ties_step
      if_code = rw (e, past_is (at + 1) one h) refl

      pub int_ties_if_starts : Starts (if_ties_of rec cap (read_part st.work) u m one base) st rec one base
      int_ties_if_starts = code_starts _ one base if_code (omega arith) s.low_base

      pub int_ties_if : (st' : State) → Done (if_ties_of rec cap (read_part st.work) u m one base) st st' → HereInt st'
      int_ties_if st' x = code_carry _ if_code x

-- ---- the sides of a split Xor or Iff: of each its extras and its tie. n: the number behind the two

module _ (rec cap : ℕ) where
  four_parts : {r : Task} {st st' : State} (ts us : Forms) (a b : Form) → Left r st (forms_task rec cap (append (append ts (cons a nil)) (append us (cons b nil)))) st'
      → Left r st (then (forms_task rec cap ts) (then (form_task rec cap a) (then (forms_task rec cap us) (form_task rec cap b)))) st'
  unfolding form_meet form_fits
  four_parts {r} {st} {st'} ts us a b x = record {
    fits = λ ds d f.
        let g = fits_append rec cap ds (append ts (cons a nil)) (append us (cons b nil)) st' (x.fits ds d f) in
        let h = fits_append rec cap ds ts (cons a nil) st' g.0 in
        let i = fits_append rec cap ds us (cons b nil) (form_meets ds rec cap (append ts (cons a nil)) st') g.1 in
        let e = meets_append rec cap ds ts (cons a nil) st' in
        (h.0, (h.1.0, (rw e at i.0, rw e at i.1.0)));
    state = λ ds d f.
        sym (meets_append rec cap ds (append ts (cons a nil)) (append us (cons b nil)) st' ∙ meets_append rec cap ds us (cons b nil) (form_meets ds rec cap (append ts (cons a nil)) st')
        ∙ ap (λ (y : State). form_meet ds rec cap b (form_meets ds rec cap us y)) (meets_append rec cap ds ts (cons a nil) st')) ∙ x.state ds d f;
    kept = x.kept;
    low = x.low;
  }

module _ (rec cap : ℕ) (st : State) (l at base n : ℕ) (s : Starts (sides_of rec cap (read_part st.work) l at base) st rec at base) (hn : n ≡ bump base 2) where
  abbrev ties : ℕ → ℕ → List ℤ → Task
  ties p b ws = ties_of rec cap ws l here p b

  abbrev tie : ℕ → ℕ → List ℤ → Task
  tie p b ws = tie_of rec cap ws l here p b

  abbrev Sides : Task → State → Type 0
  Sides r st' = Left (sides_of rec cap (read_part st.work) l at base) st r st'

  abbrev behind : ℕ → ℕ → Task
  behind q b = then (ties q b (read_part st.work)) (tie q b (read_part st.work))

  sides_parts : (k : ℕ) → k ≡ bump base 2 → Sides (then (ties at k (read_part st.work)) (then (tie at k (read_part st.work)) (let d = decode (read_part st.work) l here false at k in behind d.end d.next))) st
  unfolding cross_ties tie_at form_meet form_fits
  sides_parts k e = subst (λ (k : ℕ). Sides (then (ties at k (read_part st.work)) (then (tie at k (read_part st.work)) (let d = decode (read_part st.work) l here false at k in behind d.end d.next))) st) (sym e)
      (let d = decode (read_part st.work) l here false at (bump base 2) in
      let x = four_parts rec cap (ties_at (read_part st.work) l here at (bump base 2)) (ties_at (read_part st.work) l here d.end d.next) (tie_at (decode (read_part st.work) l here) base at (bump base 2)) (tie_at (decode (read_part st.work) l here) (base + 1) d.end d.next)
      (left_all (sides_of rec cap (read_part st.work) l at base) st s.low) in
      record { fits = x.fits; state = x.state; kept = x.kept; low = x.low })

  pub sides_first : Starts (ties at n (read_part st.work)) st rec at n
  sides_first = starts_same s s.inside (omega (arith, hn)) (ready_next (ties at n) (then (tie at n (read_part st.work)) (let d = decode (read_part st.work) l here false at n in behind d.end d.next)) s.ready (sides_parts n hn))

  module _ (q b : ℕ) (st₁ : State) (i : Skips (read_part st.work) l here at n q b) (x : Done (ties at n (read_part st.work)) st st₁) where
    rest₁ : Sides (then (tie at n (read_part st.work)) (behind q b)) st₁
    rest₁ =
        subst (λ (k : ℕ). Sides (then (tie at n (read_part st.work)) (behind q k)) st₁) (sym (i.next false))
        (subst (λ (p : ℕ). Sides (then (tie at n (read_part st.work)) (behind p (decode (read_part st.work) l here false at n).next)) st₁) (sym (i.end false)) (left_next (ties at n) (sides_parts n hn) x))

    pub sides_second : Starts (tie at n (read_part st₁.work)) st₁ rec at n
    sides_second = starts_later s x.kept x.low s.inside (omega (arith, hn)) (ready_next (tie at n) (behind q b) s.ready rest₁)

    module _ (st₂ : State) (y : Done (tie at n (read_part st₁.work)) st₁ st₂) where
      rest₂ : Sides (behind q b) st₂
      rest₂ = left_next (tie at n) rest₁ y

      pub sides_third : Starts (ties q b (read_part st₂.work)) st₂ rec q b
      sides_third = starts_later s rest₂.kept rest₂.low i.inside i.low (ready_next (ties q b) (tie q b (read_part st.work)) s.ready rest₂)

      module _ (st₃ : State) (v : Done (ties q b (read_part st₂.work)) st₂ st₃) where
        rest₃ : Sides (tie q b (read_part st.work)) st₃
        rest₃ = left_next (ties q b) rest₂ v

        pub sides_fourth : Starts (tie q b (read_part st₃.work)) st₃ rec q b
        sides_fourth = starts_later s rest₃.kept rest₃.low i.inside i.low (ready_last (tie q b) s.ready rest₃)

        pub sides_done : (st₄ : State) → Done (tie q b (read_part st₃.work)) st₃ st₄ → Done (sides_of rec cap (read_part st.work) l at base) st st₄
        sides_done st₄ w = left_last_at (tie q b) rest₃ w

-- ---- an If; its condition stands at c

module _ (rec cap : ℕ) (st : State) (u : ℕ) (m : Splitting) (c base : ℕ) (s : Starts (if_ties_of rec cap (read_part st.work) u m c base) st rec c base) where
  abbrev Parts : Task → State → Type 0
  Parts r st' = Left (if_ties_of rec cap (read_part st.work) u m c base) st r st'

  abbrev own : List ℤ → Task
  own ws = ties_of rec cap ws u m c base

  abbrev branch : ℕ → ℕ → List ℤ → Task
  branch q b ws = int_ties_of rec cap ws u m q b

  abbrev branches : ℕ → ℕ → Task
  branches q b = let d = decode_int (read_part st.work) u m q b in forms_task rec cap (append (ties_int_at (read_part st.work) u m q b) (ties_int_at (read_part st.work) u m d.end d.next))

  if_parts : Parts (then (own (read_part st.work)) (let d = decode (read_part st.work) u m false c base in branches d.end d.next)) st
  unfolding if_ties
  if_parts = left_append rec cap _ _ (left_all (if_ties_of rec cap (read_part st.work) u m c base) st s.low)

  pub if_ties_first : Starts (own (read_part st.work)) st rec c base
  if_ties_first = starts_same s s.inside s.low_base (ready_next own (let d = decode (read_part st.work) u m false c base in branches d.end d.next) s.ready if_parts)

  module _ (q b : ℕ) (st₁ : State) (i : Skips (read_part st.work) u m c base q b) (x : Done (own (read_part st.work)) st st₁) where
    behind_own : Parts (branches q b) st₁
    behind_own = subst (λ (k : ℕ). Parts (branches q k) st₁) (sym (i.next false)) (subst (λ (p : ℕ). Parts (branches p (decode (read_part st.work) u m false c base).next) st₁) (sym (i.end false)) (left_next own if_parts x))

    both_branches : Parts (then (branch q b (read_part st.work)) (let d = decode_int (read_part st.work) u m q b in branch d.end d.next (read_part st.work))) st₁
    both_branches = left_append rec cap _ _ behind_own

    pub if_ties_second : Starts (branch q b (read_part st₁.work)) st₁ rec q b
    if_ties_second = starts_later s x.kept x.low i.inside i.low (ready_next (branch q b) (let d = decode_int (read_part st.work) u m q b in branch d.end d.next (read_part st.work)) s.ready both_branches)

    module _ (q' b' : ℕ) (st₂ : State) (j : IntSkips (read_part st.work) u m q b q' b') (y : Done (branch q b (read_part st₁.work)) st₁ st₂) where
      last_branch : Parts (branch q' b' (read_part st.work)) st₂
      last_branch = subst (λ (k : ℕ). Parts (branch q' k (read_part st.work)) st₂) (sym j.next) (subst (λ (p : ℕ). Parts (branch p (decode_int (read_part st.work) u m q b).next (read_part st.work)) st₂) (sym j.end) (left_next (branch q b) both_branches y))

      pub if_ties_third : Starts (branch q' b' (read_part st₂.work)) st₂ rec q' b'
      if_ties_third = starts_later s last_branch.kept last_branch.low j.inside j.low (ready_last (branch q' b') s.ready last_branch)

      pub if_ties_done : (st₃ : State) → Done (branch q' b' (read_part st₂.work)) st₂ st₃ → Done (if_ties_of rec cap (read_part st.work) u m c base) st st₃
      if_ties_done st₃ z = left_last_at (branch q' b') last_branch z
