-- One step of the first walk over the words of an integer expression: what its parts ask and do, and what it does. Laws for the code.
use Rattle.std.specs.Prelude.{◌≡◌, Bool, List, ℤ, pos, length, get_or, eqb}
use Rattle.std.proofs.Math.Path.{refl, subst}
use Rattle.std.proofs.Common.{sym}
use Rattle.std.proofs.Math.Bool.{true, false, cond}
use Prim.Native.Nat.{ℕ, zero, suc, ◌+◌, ◌-◌, ◌≤◌, min}
use native.Mathlib.Omega.{arith}
use borrow.Author.Tests.{ne_eqb}
use Rattle.syntax.specs.Words.{max_ints}
use Rattle.memory.specs.Places.{folded_end, limit}
use Rattle.walk.specs.Decode.{word, past, below, read_part}
use Rattle.walk.proofs.NumberingSteps.{part_length}
use Rattle.walks.specs.Tree.{Splitting}
use Rattle.walks.specs.Form.{IntForm, const, ivar}
use Rattle.walks.specs.Decode.{IntRead, own_at, many_terms, if_step, int_step, decode, decode_int}
use Rattle.walks.specs.Meet.{State, form_meet}
use Rattle.scan.specs.Nodes.{int_level}
use Rattle.scan.specs.Skip.{IntSkips}
use Rattle.numbering.specs.Task.{Task, then, Ready, kept_same, Done, Left, left_done, left_next, ready_next, Starts, starts_same, starts_later}
use Rattle.numbering.specs.Fits.{form_fits, int_task, terms_task}
use Rattle.numbering.specs.Leaf.{int_var_task}
use Rattle.numbering.specs.Steps.{int_at}

-- ---- a variable or a constant, by its code

abbrev pub leaf_form : List ℤ → ℕ → ℕ → IntForm
leaf_form ws at k = cond (eqb k 21) (ivar (below max_ints (word ws (at + 1)))) (const (get_or ws (at + 1) (pos 0)))

module _ (rec cap : ℕ) where
  abbrev pub leaf_at : List ℤ → ℕ → ℕ → Task
  leaf_at ws at k = int_task rec cap (leaf_form ws at k)

  abbrev pub terms_at : List ℤ → ℕ → Splitting → ℕ → ℕ → ℕ → Task
  terms_at ws l m k at base = terms_task rec cap (many_terms ws (decode_int ws l m) k at base).trees

  -- the If at a place; its condition stands at c
  abbrev pub if_at : List ℤ → ℕ → Splitting → ℕ → ℕ → ℕ → Task
  if_at ws u m at c base = int_task rec cap (if_step (own_at ws c) (decode ws u) (decode_int ws u) m at c base).tree

module _ (rec cap : ℕ) (st : State) (at k : ℕ) (s : Starts (leaf_at rec cap (read_part st.work) at k) st rec at 0) where
  module _ (e : k ≡ 21) (x v : ℕ) (hx : x ≡ word (read_part st.work) (at + 1)) (hv : v ≡ below max_ints x) where
    pub leaf_ready : Ready (int_var_task rec cap v) st
    leaf_ready = record { domains = s.ready.domains; declares = s.ready.declares; fits = tt }

    same_form : ivar v ≡ leaf_form (read_part st.work) at k
    same_form = rw (e, hv, hx) refl

    pub leaf_declared : (st' : State) → Done (int_var_task rec cap v) st st' → Done (leaf_at rec cap (read_part st.work) at k) st st'
    unfolding form_meet form_fits
    leaf_declared st' x = subst (λ (f : IntForm). Done (int_task rec cap f) st st') same_form (record { state = λ ds d f. x.state ds d tt; kept = x.kept; low = x.low })

  pub leaf_constant : (k ≡ 21 → ⊥) → Done (leaf_at rec cap (read_part st.work) at k) st st
  unfolding form_meet form_fits
  leaf_constant ne = rw (ne_eqb k 21 ne) (record { state = λ ds d f. refl; kept = kept_same st; low = s.low })

-- ---- an expression

module _ (rec cap : ℕ) (st : State) (l : ℕ) (m : Splitting) (at base : ℕ) (s : Starts (int_at rec cap (read_part st.work) l m at base) st rec at base) where
  abbrev Here : State → Type 0
  Here st' = Done (int_at rec cap (read_part st.work) l m at base) st st'

  pub int_done_zero : l ≡ 0 → Here st
  unfolding decode form_meet form_fits
  int_done_zero e = rw e (record { state = λ ds d f. refl; kept = kept_same st; low = s.low })

  module _ (u : ℕ) (z : l ≡ 0 → ⊥) (hu : u ≡ l - 1) (k : ℕ) (hk : k ≡ word (read_part st.work) at) where
    abbrev code_task : ℕ → Task
    code_task k = int_task rec cap (int_step (read_part st.work) (decode (read_part st.work) u) (decode_int (read_part st.work) u) m at base k).tree

    carry : {st' : State} → Done (code_task k) st st' → Here st'
    carry {st'} = subst (λ (r : IntRead). Done (int_task rec cap r.tree) st st') (sym (int_level (read_part st.work) l u m at base k z hu hk))

    ready_at : Ready (code_task k) st
    ready_at = subst (λ (r : IntRead). Ready (int_task rec cap r.tree) st) (int_level (read_part st.work) l u m at base k z hu hk) s.ready

    past_is : (p q : ℕ) → q ≡ min p folded_end → past (read_part st.work) p ≡ q
    past_is p q e = omega (arith, part_length st.work s.size)

    leaf_code : (ws : List ℤ) (k : ℕ) → (k ≡ 22 → ⊥) → (k ≡ 23 → ⊥) → (int_step ws (decode ws u) (decode_int ws u) m at base k).tree ≡ leaf_form ws at k
    unfolding int_step
    leaf_code ws k x y = rw (ne_eqb k 22 x, ne_eqb k 23 y) (go (eqb k 21))
      where
        go : (b : Bool) → (cond {A = IntRead} b (record { tree = ivar (below max_ints (word ws (at + 1))); end = past ws (at + 2); next = base }) (record { tree = const (get_or ws (at + 1) (pos 0)); end = past ws (at + 2); next = base })).tree
            ≡ cond b (ivar (below max_ints (word ws (at + 1)))) (const (get_or ws (at + 1) (pos 0)))
        go true = refl
        go false = refl

    pub leaf_starts : (k ≡ 22 → ⊥) → (k ≡ 23 → ⊥) → Starts (leaf_at rec cap (read_part st.work) at k) st rec at 0
    leaf_starts x y = starts_same s s.inside (omega arith) (subst (λ (f : IntForm). Ready (int_task rec cap f) st) (leaf_code (read_part st.work) k x y) ready_at)

    pub leaf_done : (st' : State) → (k ≡ 22 → ⊥) → (k ≡ 23 → ⊥) → Done (leaf_at rec cap (read_part st.work) at k) st st' → Here st'
    leaf_done st' x y d = carry (subst (λ (f : IntForm). Done (int_task rec cap f) st st') (sym (leaf_code (read_part st.work) k x y)) d)

    -- a sum of n terms
    module _ (n two : ℕ) (hn : n ≡ word (read_part st.work) (at + 1)) (h : two ≡ min (at + 2) folded_end) (e : k ≡ 22) where
      sum_ready : Ready (code_task k) st → Ready (terms_at rec cap (read_part st.work) u m n two base) st
      unfolding int_step form_fits
      sum_ready r = let t = rw (e, ← hn, past_is (at + 2) two h) at r in record { domains = t.domains; declares = t.declares; fits = t.fits }

      pub sum_starts : Starts (terms_at rec cap (read_part st.work) u m n two base) st rec two base
      sum_starts = starts_same s (omega arith) s.low_base (sum_ready ready_at)

      sum_code : {st' : State} → Done (terms_at rec cap (read_part st.work) u m n two base) st st' → Done (code_task k) st st'
      unfolding int_step form_meet form_fits
      sum_code x = rw (e, ← hn, past_is (at + 2) two h) (record { state = x.state; kept = x.kept; low = x.low })

      pub sum_done : (st' : State) → Done (terms_at rec cap (read_part st.work) u m n two base) st st' → Here st'
      sum_done st' x = carry (sum_code x)

    module _ (one : ℕ) (h : one ≡ min (at + 1) folded_end) (e : k ≡ 23) where
      pub if_code : int_step (read_part st.work) (decode (read_part st.work) u) (decode_int (read_part st.work) u) m at base k ≡ if_step (own_at (read_part st.work) one) (decode (read_part st.work) u) (decode_int (read_part st.work) u) m at one base
      unfolding int_step
      if_code = rw (e, past_is (at + 1) one h) refl

      pub if_starts : Starts (if_at rec cap (read_part st.work) u m at one base) st rec at base
      if_starts = starts_same s s.inside s.low_base (subst (λ (r : IntRead). Ready (int_task rec cap r.tree) st) if_code ready_at)

      pub if_done : (st' : State) → Done (if_at rec cap (read_part st.work) u m at one base) st st' → Here st'
      if_done st' x = carry (subst (λ (r : IntRead). Done (int_task rec cap r.tree) st st') (sym if_code) x)

-- ---- terms, one after another

module _ (rec cap l : ℕ) (m : Splitting) (k at base : ℕ) (st : State) where
  abbrev pub Terms : ℕ → ℕ → ℕ → State → Type 0
  Terms rest q b st' = Left (terms_at rec cap (read_part st.work) l m k at base) st (terms_at rec cap (read_part st.work) l m rest q b) st'

  -- the first term's expression stands at p
  abbrev Parts : ℕ → ℕ → ℕ → State → Type 0
  Parts rest p b st' = let ws = read_part st.work in let d = decode_int ws l m p b in Left (terms_at rec cap ws l m k at base) st (then (int_at rec cap ws l m p b) (terms_at rec cap ws l m rest d.end d.next)) st'

  terms_more : (rest q b p : ℕ) (st' : State) → (rest ≡ 0 → ⊥) → folded_end ≤ length st.work → p ≡ min (q + 1) folded_end → Terms rest q b st' → Parts (rest - 1) p b st'
  unfolding many_terms form_meet form_fits
  terms_more zero q b p st' z h i x = absurd (z refl)
  terms_more (suc rest) q b p st' z h i x =
      let e : rest ≡ suc rest - 1 = omega arith in
      let f : past (read_part st.work) (q + 1) ≡ p = omega (arith, part_length st.work h) in
      subst (λ (n : ℕ). Parts n p b st') e (subst (λ (n : ℕ). Parts rest n b st') f (record { fits = x.fits; state = x.state; kept = x.kept; low = x.low }))

  module _ (rest q b p : ℕ) (st' : State) (z : rest ≡ 0 → ⊥) (s : Starts (terms_at rec cap (read_part st.work) l m k at base) st rec at base) (i : p ≡ min (q + 1) folded_end) (x : Terms rest q b st') where
    pub term_starts : b ≤ limit → Starts (int_at rec cap (read_part st'.work) l m p b) st' rec p b
    term_starts o = starts_later s x.kept x.low (omega arith) o
        (ready_next (λ ws. int_at rec cap ws l m p b) (let d = decode_int (read_part st.work) l m p b in terms_at rec cap (read_part st.work) l m (rest - 1) d.end d.next) s.ready (terms_more rest q b p st' z s.size i x))

    pub terms_next : (st'' : State) (q' b' : ℕ) → Done (int_at rec cap (read_part st'.work) l m p b) st' st'' → IntSkips (read_part st.work) l m p b q' b' → Terms (rest - 1) q' b' st''
    terms_next st'' q' b' y j =
        subst (λ (n : ℕ). Terms (rest - 1) q' n st'') (sym j.next) (subst (λ (n : ℕ). Terms (rest - 1) n (decode_int (read_part st.work) l m p b).next st'') (sym j.end)
        (left_next (λ ws. int_at rec cap ws l m p b) (terms_more rest q b p st' z s.size i x) y))

  pub terms_last : (rest q b : ℕ) (st' : State) → Terms rest q b st' → rest ≡ 0 → Done (terms_at rec cap (read_part st.work) l m k at base) st st'
  unfolding many_terms form_meet form_fits
  terms_last zero q b st' x e = left_done (record { fits = x.fits; state = x.state; kept = x.kept; low = x.low })
  terms_last (suc rest) q b st' x e = absurd (omega arith)
