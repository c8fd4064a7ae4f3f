-- One step of the first walk over the words of a Boolean expression: what its parts ask and do, and what it does. Laws for the code.
use Rattle.std.specs.Prelude.{◌≡◌, Bool, not, List, ℤ, length}
use Rattle.std.proofs.Math.Path.{refl, subst}
use Rattle.std.proofs.Common.{sym, ap}
use Rattle.std.proofs.Math.Bool.{true, false}
use Prim.Native.Nat.{ℕ, zero, suc, ◌-◌, ◌≤◌}
use native.Mathlib.Omega.{arith}
use Rattle.memory.specs.Places.{folded_end, limit}
use Rattle.syntax.specs.Syntax.{Domain}
use Rattle.walk.specs.Item.{bump, fresh}
use Rattle.walk.specs.Decode.{word, read_part}
use Rattle.walk.specs.declared.Node.{Node}
use Rattle.walk.specs.declared.Node.TheVariants.{Var, Cmp, Not, Join, Cross}
use Rattle.walk.proofs.NumberingSteps.{part_length}
use Rattle.walks.specs.Tree.{Splitting, never, below, here, inner}
use Rattle.walks.specs.Item.{tallies, num_item, form_items, form_item}
use Rattle.walks.specs.Decode.{node_of, Read, many, cross_step, step, decode, decode_int}
use Rattle.walks.specs.Meet.{State, more_bools, form_meet}
use Rattle.scan.specs.Nodes.{okay_at, level}
use Rattle.scan.specs.Skip.{split_by, IntSkips}
use Rattle.numbering.specs.Task.{Task, then, with_bools, Ready, kept_same, Done, done_bools, Left, left_all, left_done, left_next, left_last_at, ready_next, ready_last, Starts, starts_same, starts_later}
use Rattle.numbering.specs.Fits.{form_fits, form_task, forms_task, int_task}
use Rattle.numbering.specs.Leaf.{bool_task}

-- ---- the tasks of the words at a place

module _ (rec cap : ℕ) where
  abbrev pub form_at : List ℤ → ℕ → Splitting → Bool → ℕ → ℕ → Task
  form_at ws l m g at base = form_task rec cap (decode ws l m g at base).tree

  abbrev pub members_at : List ℤ → ℕ → Splitting → ℕ → Bool → Bool → ℕ → ℕ → Task
  members_at ws l m k g h at base = forms_task rec cap (many (decode ws l m) k g h at base).trees

  abbrev pub int_at : List ℤ → ℕ → Splitting → ℕ → ℕ → Task
  int_at ws l m at base = int_task rec cap (decode_int ws l m at base).tree

-- the new numbers of so many members
abbrev pub new_of : List ℤ → ℕ → Splitting → ℕ → Bool → Bool → ℕ → ℕ → List Domain → ℕ
new_of ws l m k g h at base ds = fresh (tallies (form_items ds (many (decode ws l m) k g h at base).trees))

same_bools : (st : State) (b : ℕ) → st.bools ≡ b → st ≡ record { work = st.work; out = st.out; bools = b; ints = st.ints; used = st.used }
same_bools st b e = ap (λ (n : ℕ). record { work = st.work; out = st.out; bools = n; ints = st.ints; used = st.used }) e

module _ (rec cap : ℕ) (st : State) (l : ℕ) (m : Splitting) (g : Bool) (at base : ℕ) (s : Starts (form_at rec cap (read_part st.work) l m g at base) st rec at base) where
  abbrev Here : State → Type 0
  Here st' = Done (form_at rec cap (read_part st.work) l m g at base) st st'

  pub done_zero : l ≡ 0 → Here st
  unfolding decode form_meet form_fits tallies form_item
  done_zero e = rw e (record { state = λ ds d f. same_bools st (bump st.bools 0) (omega (arith, s.low.bools)); kept = kept_same st; low = s.low })

  module _ (u : ℕ) (z : l ≡ 0 → ⊥) (hu : u ≡ l - 1) where
    abbrev At : Node → Type 0
    At N = N ≡ node_of (read_part st.work) g at (word (read_part st.work) at)

    abbrev node_task : Node → Task
    node_task N = form_task rec cap (step (decode (read_part st.work) u) (decode_int (read_part st.work) u) m g base N).tree

    carry : (N : Node) {st' : State} → At N → Done (node_task N) st st' → Here st'
    carry N {st'} e = subst (λ (r : Read). Done (form_task rec cap r.tree) st st') (sym (level (read_part st.work) l u m g at base N z hu e))

    ready_at : (N : Node) → At N → Ready (node_task N) st
    ready_at N e = subst (λ (r : Read). Ready (form_task rec cap r.tree) st) (level (read_part st.work) l u m g at base N z hu e) s.ready

    part_size : length (read_part st.work) ≡ folded_end
    part_size = part_length st.work s.size

    pub var_done : (v q : ℕ) {st' : State} → At (Var v q) → Done (bool_task v) st st' → Here st'
    unfolding step form_meet form_fits
    var_done v q e x = carry (Var v q) e x

    -- what is left at the start
    left_at : (N : Node) (r : Task) → At N → Left (node_task N) st r st → Left (form_at rec cap (read_part st.work) l m g at base) st r st
    left_at N r e = subst (λ (d : Read). Left (form_task rec cap d.tree) st r st) (sym (level (read_part st.work) l u m g at base N z hu e))

    -- ---- a comparison; j: the splitting's code inside

    module _ (o q j : ℕ) (e : At (Cmp o q)) (hj : split_by j ≡ inner m) where
      abbrev side : ℕ → ℕ → List ℤ → Task
      side p b ws = int_at rec cap ws u (split_by j) p b

      cmp_parts : Left (form_at rec cap (read_part st.work) l m g at base) st (then (side q base (read_part st.work)) (let d = decode_int (read_part st.work) u (split_by j) q base in side d.end d.next (read_part st.work))) st
      unfolding step form_meet form_fits
      cmp_parts = subst (λ (k : Splitting). Left (form_at rec cap (read_part st.work) l m g at base) st (then (int_at rec cap (read_part st.work) u k q base) (let d = decode_int (read_part st.work) u k q base in int_at rec cap (read_part st.work) u k d.end d.next)) st) (sym hj)
          (left_at (Cmp o q) _ e (left_all (node_task (Cmp o q)) st s.low))

      pub cmp_first : Starts (side q base (read_part st.work)) st rec q base
      cmp_first = let k = okay_at st.work g at (Cmp o q) s.size s.inside e in starts_same s (omega (arith, k.1, part_size)) s.low_base (ready_next (side q base) (let d = decode_int (read_part st.work) u (split_by j) q base in side d.end d.next (read_part st.work)) s.ready cmp_parts)

      module _ (q' b' : ℕ) (st' : State) (i : IntSkips (read_part st.work) u (split_by j) q base q' b') (x : Done (side q base (read_part st.work)) st st') where
        cmp_rest : Left (form_at rec cap (read_part st.work) l m g at base) st (side q' b' (read_part st.work)) st'
        cmp_rest =
            subst (λ (n : ℕ). Left (form_at rec cap (read_part st.work) l m g at base) st (side q' n (read_part st.work)) st') (sym i.next)
            (subst (λ (p : ℕ). Left (form_at rec cap (read_part st.work) l m g at base) st (side p (decode_int (read_part st.work) u (split_by j) q base).next (read_part st.work)) st') (sym i.end) (left_next (side q base) cmp_parts x))

        pub cmp_second : Starts (side q' b' (read_part st'.work)) st' rec q' b'
        cmp_second = starts_later s x.kept x.low i.inside i.low (ready_last (side q' b') s.ready cmp_rest)

        pub cmp_done : (st'' : State) → Done (side q' b' (read_part st'.work)) st' st'' → Here st''
        cmp_done st'' y = left_last_at (side q' b') cmp_rest y

    -- ---- Not

    pub not_starts : (q : ℕ) → At (Not q) → Starts (form_at rec cap (read_part st.work) u m (not g) q base) st rec q base
    unfolding step
    not_starts q e = let k = okay_at st.work g at (Not q) s.size s.inside e in starts_same s (omega (arith, k.1, part_size)) s.low_base (ready_at (Not q) e)

    pub not_done : (q : ℕ) (st' : State) → At (Not q) → Done (form_at rec cap (read_part st.work) u m (not g) q base) st st' → Here st'
    unfolding step
    not_done q st' e x = carry (Not q) e x

    -- ---- members

    module _ (k : ℕ) (a b : Bool) (q : ℕ) where
      joined_ready : (d : Bool) → At (Join d k a b q) → Ready (members_at rec cap (read_part st.work) u m k a b q base) st
      unfolding step form_fits
      joined_ready true e = let r = ready_at (Join true k a b q) e in record { domains = r.domains; declares = r.declares; fits = r.fits }
      joined_ready false e = let r = ready_at (Join false k a b q) e in record { domains = r.domains; declares = r.declares; fits = r.fits }

      pub join_starts : (d : Bool) → At (Join d k a b q) → Starts (members_at rec cap (read_part st.work) u m k a b q base) st rec q base
      join_starts d e = let o = okay_at st.work g at (Join d k a b q) s.size s.inside e in starts_same s (omega (arith, o.1, part_size)) s.low_base (joined_ready d e)

      pub conj_done : (st' : State) → At (Join false k a b q) → Done (members_at rec cap (read_part st.work) u m k a b q base) st st' → Here st'
      unfolding step form_meet form_fits
      conj_done st' e x = carry (Join false k a b q) e (record { state = x.state; kept = x.kept; low = x.low })

      pub disj_done : (st' : State) (n : ℕ) → At (Join true k a b q) → Done (members_at rec cap (read_part st.work) u m k a b q base) st st' → ((ds : List Domain) → n ≡ new_of (read_part st.work) u m k a b q base ds) → Here (more_bools n st')
      unfolding step form_meet form_fits
      disj_done st' n e x f = let y = done_bools (new_of (read_part st.work) u m k a b q base) n f x in carry (Join true k a b q) e (record { state = y.state; kept = y.kept; low = y.low })

    -- ---- an Xor or Iff

    split_task : (h : Bool) (q : ℕ) → m ≡ here → (st : State) → st.bools ≤ limit → (ds : List Domain) → st ≡ form_meet ds rec cap (cross_step (decode (read_part st.work) u) here h q base).tree st
    unfolding cross_step form_meet tallies form_item num_item
    split_task h q hm st low ds = same_bools st (bump (bump st.bools 0) 0) (omega arith)

    -- split: only its sides' numbers stand here
    pub split_done : (h : Bool) (q : ℕ) → m ≡ here → At (Cross h q) → Here st
    unfolding step
    split_done h q hm e = carry (Cross h q) e (subst (λ (k : Splitting). Done (form_task rec cap (cross_step (decode (read_part st.work) u) k h q base).tree) st st) (sym hm)
        (record { state = λ ds d f. split_task h q hm st s.low.bools ds; kept = kept_same st; low = s.low }))

    module _ (h : Bool) (q j : ℕ) (e : At (Cross h q)) (ne : m ≡ here → ⊥) (hj : split_by j ≡ inner m) where
      -- the sides, the second negated if y
      abbrev sides : Bool → Bool → List ℤ → Task
      sides x y ws = members_at rec cap ws u (split_by j) 2 x y q base

      abbrev news : Bool → Bool → List Domain → ℕ
      news x y = new_of (read_part st.work) u (split_by j) 2 x y q base

      abbrev both : Splitting → Task
      both k = let ws = read_part st.work in then (members_at rec cap ws u k 2 false h q base) (members_at rec cap ws u k 2 true (not h) q base)

      abbrev both_news : Splitting → Task
      both_news k = let ws = read_part st.work in with_bools (new_of ws u k 2 true (not h) q base) (with_bools (new_of ws u k 2 false h q base) (both k))

      cross_ready_at : (k : Splitting) → m ≡ k → Ready (form_task rec cap (cross_step (decode (read_part st.work) u) k h q base).tree) st → Ready (both (inner k)) st
      unfolding cross_step form_fits
      cross_ready_at never i r = record { domains = r.domains; declares = r.declares; fits = r.fits }
      cross_ready_at below i r = record { domains = r.domains; declares = r.declares; fits = r.fits }
      cross_ready_at here i r = absurd (ne i)

      cross_ready : Ready (both (split_by j)) st
      unfolding step
      cross_ready = subst (λ (k : Splitting). Ready (both k) st) (sym hj) (cross_ready_at m refl (ready_at (Cross h q) e))

      cross_done_at : (k : Splitting) (st' : State) → m ≡ k → Done (both_news (inner k)) st st' → Done (form_task rec cap (cross_step (decode (read_part st.work) u) k h q base).tree) st st'
      unfolding cross_step form_meet form_fits
      cross_done_at never st' i x = record { state = x.state; kept = x.kept; low = x.low }
      cross_done_at below st' i x = record { state = x.state; kept = x.kept; low = x.low }
      cross_done_at here st' i x = absurd (ne i)

      cross_carry : (st' : State) → Done (both_news (split_by j)) st st' → Here st'
      unfolding step
      cross_carry st' x = carry (Cross h q) e (cross_done_at m st' refl (subst (λ (k : Splitting). Done (both_news k) st st') hj x))

      place : q ≤ folded_end
      place = let o = okay_at st.work g at (Cross h q) s.size s.inside e in omega (arith, o.1, part_size)

      cross_parts : Left (both (split_by j)) st (both (split_by j)) st
      cross_parts = left_all (both (split_by j)) st s.low

      pub cross_first : Starts (sides false h (read_part st.work)) st rec q base
      cross_first = starts_same s place s.low_base (ready_next (sides false h) (sides true (not h) (read_part st.work)) cross_ready cross_parts)

      module _ (st' : State) (x : Done (sides false h (read_part st.work)) st st') where
        cross_rest : Left (both (split_by j)) st (sides true (not h) (read_part st.work)) st'
        cross_rest = left_next (sides false h) cross_parts x

        pub cross_second : Starts (sides true (not h) (read_part st'.work)) st' rec q base
        cross_second = starts_later s x.kept x.low place s.low_base (ready_last (sides true (not h)) cross_ready cross_rest)

        pub cross_done : (st'' : State) (n n' : ℕ) → Done (sides true (not h) (read_part st'.work)) st' st'' → ((ds : List Domain) → n ≡ news false h ds) → ((ds : List Domain) → n' ≡ news true (not h) ds) → Here (more_bools n' (more_bools n st''))
        cross_done st'' n n' y f f' = cross_carry _ (done_bools (news true (not h)) n' f' (done_bools (news false h) n f (left_last_at (sides true (not h)) cross_rest y)))

-- ---- members, one after another

module _ (rec cap l : ℕ) (m : Splitting) (h : Bool) (k : ℕ) (g : Bool) (at base : ℕ) (st : State) where
  abbrev pub Members : ℕ → Bool → ℕ → ℕ → State → Type 0
  Members rest f q b st' = Left (members_at rec cap (read_part st.work) l m k g h at base) st (members_at rec cap (read_part st.work) l m rest f h q b) st'

  members_more : (rest : ℕ) (f : Bool) (q b : ℕ) (st' : State) → (rest ≡ 0 → ⊥) → Members rest f q b st'
      → Left (members_at rec cap (read_part st.work) l m k g h at base) st (then (form_at rec cap (read_part st.work) l m f q b) (let d = decode (read_part st.work) l m f q b in members_at rec cap (read_part st.work) l m (rest - 1) h h d.end d.next)) st'
  unfolding many form_meet form_fits
  members_more zero f q b st' z x = absurd (z refl)
  members_more (suc rest) f q b st' z x =
      let d = decode (read_part st.work) l m f q b in
      let e : rest ≡ suc rest - 1 = omega arith in
      subst (λ (n : ℕ). Left (members_at rec cap (read_part st.work) l m k g h at base) st (then (form_at rec cap (read_part st.work) l m f q b) (members_at rec cap (read_part st.work) l m n h h d.end d.next)) st') e
      (record { fits = x.fits; state = x.state; kept = x.kept; low = x.low })

  module _ (rest : ℕ) (f : Bool) (q b : ℕ) (st' : State) (z : rest ≡ 0 → ⊥) (x : Members rest f q b st') where
    pub member_starts : Starts (members_at rec cap (read_part st.work) l m k g h at base) st rec at base → q ≤ folded_end → b ≤ limit → Starts (form_at rec cap (read_part st'.work) l m f q b) st' rec q b
    member_starts s i o = starts_later s x.kept x.low i o (ready_next (λ ws. form_at rec cap ws l m f q b) (let d = decode (read_part st.work) l m f q b in members_at rec cap (read_part st.work) l m (rest - 1) h h d.end d.next) s.ready (members_more rest f q b st' z x))

    pub members_next : (st'' : State) (q' b' : ℕ) → Done (form_at rec cap (read_part st'.work) l m f q b) st' st'' → q' ≡ (decode (read_part st.work) l m f q b).end → b' ≡ (decode (read_part st.work) l m f q b).next → Members (rest - 1) h q' b' st''
    members_next st'' q' b' y i j =
        subst (λ (n : ℕ). Members (rest - 1) h q' n st'') (sym j) (subst (λ (p : ℕ). Members (rest - 1) h p (decode (read_part st.work) l m f q b).next st'') (sym i)
        (left_next (λ ws. form_at rec cap ws l m f q b) (members_more rest f q b st' z x) y))

  pub members_last : (rest : ℕ) (f : Bool) (q b : ℕ) (st' : State) → Members rest f q b st' → rest ≡ 0 → Done (members_at rec cap (read_part st.work) l m k g h at base) st st'
  unfolding many form_meet form_fits
  members_last zero f q b st' x e = left_done (record { fits = x.fits; state = x.state; kept = x.kept; low = x.low })
  members_last (suc rest) f q b st' x e = absurd (omega arith)
