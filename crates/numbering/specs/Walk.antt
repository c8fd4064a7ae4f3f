-- What each return of the walk's functions says: the task is done, the tally and the end are found.
use Rattle.std.specs.Prelude.{◌≡◌, refl, Bool, true, false, not, List, ℕ, zero, suc, ◌+◌, ◌-◌, ◌≤◌, ◌<◌, min, ℤ, leb}
use Rattle.std.proofs.Common.{sym, ap, ◌∙◌, subst, arith}
use Rattle.memory.specs.Places.{folded_end}
use Rattle.walk.specs.Item.{bump}
use Rattle.walk.specs.Decode.{word, read_part}
use Rattle.walk.specs.declared.Node.{Node}
use Rattle.walk.specs.declared.Node.TheVariants.{Var, Cmp, Not, Join, Cross}
use Rattle.walks.specs.Tree.{Splitting, here, inner}
use Rattle.walks.specs.Decode.{node_of, IntRead}
use Rattle.walks.specs.Meet.{State, find_equal}
use Rattle.scan.specs.Nodes.{int_level}
use Rattle.scan.specs.Skip.{split_by, SkipsAll, IntSkips, TermSkips, TermSkipping, terms_first, terms_next as terms_skip, terms_last as terms_end}
use Rattle.numbering.specs.Task.{state_of, Task, Done, left_all, Starts}
use Rattle.numbering.specs.Leaf.{bool_task}
use Rattle.numbering.specs.Steps.{form_at, members_at, int_at, done_zero, var_done, cmp_done, not_done, conj_done, disj_done, split_done, cross_done, Members, member_starts, members_last, members_next}
use Rattle.numbering.specs.IntSteps.{terms_at, if_at, if_code, if_done, Terms, term_starts, terms_next, terms_last}
use Rattle.std.proofs.Math.Option.{Option}
use Rattle.numbering.specs.If.{PartsAt, place_at, choice_at, parts_done, parts_skips, whole_is}
use Rattle.numbering.specs.Sized.{SizedAt, SizedAll, sized_new, sized_none, sized_var, sized_cmp, sized_not, sized_conj, sized_split, sized_cross, Sofar, sofar_none, sofar_more, sofar_done}
use Rattle.numbering.specs.Members.{numbered, standing, renewed, Closes, sized_disj, IfSkips}
use Rattle.numbering.specs.declared.IfParts.{IfParts}
use Rattle.numbering.specs.declared.Progress.{Progress}
use Rattle.numbering.specs.declared.Numbered.{Numbered}
use Rattle.numbering.specs.declared.NumberedInt.{NumberedInt}

module _ (rec cap : ℕ) (st : State) (l : ℕ) (m : Splitting) (g : Bool) (at base : ℕ) where
  -- what the walk over an expression leaves
  abbrev pub Walked : List ℤ → List ℤ → Numbered → Type 0
  Walked w out r = Done (form_at rec cap (read_part st.work) l m g at base) st (state_of w out r.progress) × SizedAt (read_part st.work) l m g at base r.at r.base r.longs r.lits r.cmps

  to : (w out : List ℤ) (r n : Numbered) → r ≡ n → Walked w out n → Walked w out r
  to w out r n e = subst (Walked w out) (sym e)

  module _ (s : Starts (form_at rec cap (read_part st.work) l m g at base) st rec at base) where
    pub walked_zero : (w out : List ℤ) (c : Progress) (r : Numbered) → st ≡ state_of w out c → l ≡ 0 → r ≡ numbered c at base 0 0 0 → Walked w out r
    walked_zero w out c r e z i = to w out r _ i (subst (λ (x : State). Done (form_at rec cap (read_part st.work) l m g at base) st x) e (done_zero rec cap st l m g at base s z), sized_none st.work l m g at base s.size s.inside s.low_base z)

    module _ (u : ℕ) (z : l ≡ 0 → ⊥) (hu : u ≡ l - 1) where
      abbrev At : Node → Type 0
      At N = N ≡ node_of (read_part st.work) g at (word (read_part st.work) at)

      pub walked_var : (v q : ℕ) (w out : List ℤ) (c : Progress) (r : Numbered) → At (Var v q) → Done (bool_task v) st (state_of w out c) → r ≡ numbered c q base 0 1 0 → Walked w out r
      walked_var v q w out c r e x i = to w out r _ i (var_done rec cap st l m g at base s u z hu v q e x, sized_var st.work l m g at base s.size s.inside s.low_base u z hu v q e)

      pub walked_cmp : (o q j : ℕ) → At (Cmp o q) → split_by j ≡ inner m → (a b : NumberedInt) (w w' out out' : List ℤ) (r : Numbered)
          → Done (int_at rec cap (read_part st.work) u (split_by j) q base) st (state_of w out a.progress) × IntSkips (read_part st.work) u (split_by j) q base a.at a.base
          → Done (int_at rec cap (read_part w) u (split_by j) a.at a.base) (state_of w out a.progress) (state_of w' out' b.progress) × IntSkips (read_part w) u (split_by j) a.at a.base b.at b.base
          → r ≡ numbered b.progress b.at b.base 0 0 1 → Walked w' out' r
      walked_cmp o q j e hj a b w w' out out' r x y i =
          let k = subst (λ (ws : List ℤ). IntSkips ws u (split_by j) a.at a.base b.at b.base) x.0.kept.part y.1 in
          to w' out' r _ i (cmp_done rec cap st l m g at base s u z hu o q j e hj _ _ _ x.1 x.0 _ y.0, sized_cmp st.work l m g at base s.size s.inside s.low_base u z hu o q j _ _ _ _ e hj x.1 k)

      pub walked_not : (q : ℕ) (w out : List ℤ) (r : Numbered) → At (Not q) → Done (form_at rec cap (read_part st.work) u m (not g) q base) st (state_of w out r.progress) × SizedAt (read_part st.work) u m (not g) q base r.at r.base r.longs r.lits r.cmps → Walked w out r
      walked_not q w out r e x = (not_done rec cap st l m g at base s u z hu q _ e x.0, sized_not st.work l m g at base s.size s.inside s.low_base u z hu q _ _ _ _ _ e x.1)

      -- what the walk over members leaves
      abbrev All : Splitting → ℕ → Bool → Bool → ℕ → State → List ℤ → List ℤ → Numbered → Type 0
      All k n a b q st w out r = Done (members_at rec cap (read_part st.work) u k n a b q base) st (state_of w out r.progress) × SizedAll (read_part st.work) u k n a b q base r.at r.base r.longs r.lits r.cmps

      module _ (k : ℕ) (a b : Bool) (q : ℕ) (w out : List ℤ) (t r : Numbered) (x : All m k a b q st w out t) where
        pub walked_conj : At (Join false k a b q) → r ≡ numbered t.progress t.at t.base 1 0 0 → Walked w out r
        walked_conj e i = to w out r _ i (conj_done rec cap st l m g at base s u z hu k a b q _ e x.0, sized_conj st.work l m g at base s.size s.inside s.low_base u z hu k a b q _ _ _ _ _ x.1 e)

        pub walked_disj : At (Join true k a b q) → Closes t r → Walked w out r
        walked_disj e i = (
          subst (λ (c : Progress). Done (form_at rec cap (read_part st.work) l m g at base) st (state_of w out c)) (sym i.progress) (disj_done rec cap st l m g at base s u z hu k a b q _ _ e x.0 (sized_new (read_part st.work) u m k a b q base _ _ _ _ _ _ x.1 refl)),
          sized_disj st.work l m g at base s.size s.inside s.low_base u z hu k a b q t r x.1 e i,
        )

      module _ (h : Bool) (q : ℕ) (e : At (Cross h q)) where
        pub walked_split : (c p b : ℕ) (w out : List ℤ) (d : Progress) (r : Numbered) → st ≡ state_of w out d → m ≡ here → c ≡ bump base 2 → SkipsAll (read_part st.work) u m 2 q c p b → r ≡ numbered d p b 1 0 0 → Walked w out r
        walked_split c p b w out d r hs hm hc x i =
            let x' : SkipsAll (read_part st.work) u here 2 q c p b = subst (λ (k : Splitting). SkipsAll (read_part st.work) u k 2 q c p b) hm x in
            to w out r _ i (subst (λ (y : State). Done (form_at rec cap (read_part st.work) l m g at base) st y) hs (split_done rec cap st l m g at base s u z hu h q hm e), sized_split st.work l m g at base s.size s.inside s.low_base u z hu h q c p b hm e hc x')

        pub walked_cross : (j : ℕ) (t t' r : Numbered) (w w' out out' : List ℤ) → (m ≡ here → ⊥) → split_by j ≡ inner m → All (split_by j) 2 false h q st w out t → All (split_by j) 2 true (not h) q (state_of w out t.progress) w' out' t'
            → r ≡ numbered (renewed (renewed t'.progress t) t') t'.at t'.base 1 0 0 → Walked w' out' r
        walked_cross j t t' r w w' out out' ne hj x y i =
            let y' : SizedAll (read_part st.work) u (split_by j) 2 true (not h) q base t'.at t'.base t'.longs t'.lits t'.cmps = subst (λ (ws : List ℤ). SizedAll ws u (split_by j) 2 true (not h) q base t'.at t'.base t'.longs t'.lits t'.cmps) x.0.kept.part y.1 in
            to w' out' r _ i (
              cross_done rec cap st l m g at base s u z hu h q j e ne hj _ x.0 _ _ _ y.0 (sized_new (read_part st.work) u (split_by j) 2 false h q base _ _ _ _ _ _ x.1 refl) (sized_new (read_part st.work) u (split_by j) 2 true (not h) q base _ _ _ _ _ _ y' refl),
              sized_cross st.work l m g at base s.size s.inside s.low_base u z hu h q j _ _ _ _ _ ne e hj y',
            )

-- ---- the loops. w₀, out₀, c₀: where they began

pub starts_as : (t : Task) (w out : List ℤ) (c d : Progress) (rec at base : ℕ) → d ≡ c → Starts t (state_of w out c) rec at base → Starts t (state_of w out d) rec at base
starts_as t w out c d rec at base e = subst (λ (x : Progress). Starts t (state_of w out x) rec at base) (sym e)

module _ (rec cap l : ℕ) (m : Splitting) (h : Bool) (k : ℕ) (g : Bool) (at base : ℕ) (w₀ out₀ : List ℤ) where
  abbrev all : Task
  all = members_at rec cap (read_part w₀) l m k g h at base

  -- the members before r's place are met; so many are left, the next negated if f
  pub record NumbersSofar (c₀ : Progress) (w out : List ℤ) (r : Numbered) (rest : ℕ) (f : Bool) : Type 0 where
    pub left : Members rec cap l m h k g at base (state_of w₀ out₀ c₀) rest f r.at r.base (state_of w out r.progress)
    pub sized : Sofar (read_part w₀) l m h k g at base rest f r.at r.base r.longs r.lits r.cmps

  pub numbers_start : (c : Progress) (r : Numbered) → r ≡ numbered c at base 0 0 0 → Starts all (state_of w₀ out₀ c) rec at base → NumbersSofar r.progress w₀ out₀ r k g
  numbers_start c r e s = subst (λ (x : Numbered). NumbersSofar x.progress w₀ out₀ x k g) (sym e) (record { left = left_all all (state_of w₀ out₀ c) s.low; sized = sofar_none (read_part w₀) l m h k g at base s.inside s.low_base })

  module _ (c c₀ : Progress) (e : c₀ ≡ c) (s : Starts all (state_of w₀ out₀ c) rec at base) (w out : List ℤ) (r : Numbered) (rest : ℕ) (f : Bool) (x : NumbersSofar c₀ w out r rest f) where
    s₀ : Starts all (state_of w₀ out₀ c₀) rec at base
    s₀ = starts_as all w₀ out₀ c c₀ rec at base e s

    module _ (z : rest ≡ 0 → ⊥) where
      pub numbers_member : Starts (form_at rec cap (read_part w) l m f r.at r.base) (state_of w out r.progress) rec r.at r.base
      numbers_member = member_starts rec cap l m h k g at base (state_of w₀ out₀ c₀) rest f _ _ _ z x.left s₀ x.sized.inside x.sized.low

      module _ (w' out' : List ℤ) (t : Numbered) (y : Walked rec cap (state_of w out r.progress) l m f r.at r.base w' out' t) where
        member : SizedAt (read_part w₀) l m f r.at r.base t.at t.base t.longs t.lits t.cmps
        member = subst (λ (ws : List ℤ). SizedAt ws l m f r.at r.base t.at t.base t.longs t.lits t.cmps) x.left.kept.part y.1

        pub numbers_room : (r.longs + r.lits + r.cmps ≤ folded_end) × (t.longs + t.lits + t.cmps ≤ folded_end)
        numbers_room = (omega (arith, x.sized.room, x.sized.inside), omega (arith, member.room, member.inside))

        pub numbers_again : (v : Numbered) → v ≡ numbered t.progress t.at t.base (r.longs + t.longs) (r.lits + t.lits) (r.cmps + t.cmps) → NumbersSofar c₀ w' out' v (rest - 1) h
        numbers_again v i = subst (λ (n : Numbered). NumbersSofar c₀ w' out' n (rest - 1) h) (sym i) (record {
          left = members_next rec cap l m h k g at base (state_of w₀ out₀ c₀) rest f _ _ _ z x.left _ _ _ y.0 member.end member.next;
          sized = sofar_more (read_part w₀) l m h k g at base rest f _ _ _ _ _ _ _ _ _ _ x.sized z member;
        })

    pub numbers_done : rest ≡ 0 → Done all (state_of w₀ out₀ c) (state_of w out r.progress) × SizedAll (read_part w₀) l m k g h at base r.at r.base r.longs r.lits r.cmps
    numbers_done z = (
      subst (λ (d : Progress). Done all (state_of w₀ out₀ d) (state_of w out r.progress)) e (members_last rec cap l m h k g at base (state_of w₀ out₀ c₀) rest f _ _ _ x.left z),
      sofar_done (read_part w₀) l m h k g at base rest f _ _ _ _ _ x.sized z,
    )

-- ---- integer expressions

module _ (rec cap : ℕ) (st : State) (l : ℕ) (m : Splitting) (at base : ℕ) where
  abbrev pub WalkedInt : List ℤ → List ℤ → NumberedInt → Type 0
  WalkedInt w out r = Done (int_at rec cap (read_part st.work) l m at base) st (state_of w out r.progress) × IntSkips (read_part st.work) l m at base r.at r.base

  pub walked_int : (w out : List ℤ) (c : Progress) (q b : ℕ) (r : NumberedInt) → r ≡ standing c q b → Done (int_at rec cap (read_part st.work) l m at base) st (state_of w out c) → IntSkips (read_part st.work) l m at base q b → WalkedInt w out r
  walked_int w out c q b r e x y = subst (WalkedInt w out) (sym e) (x, y)

-- ---- terms

module _ (rec cap l : ℕ) (m : Splitting) (k at base : ℕ) (w₀ out₀ : List ℤ) where
  abbrev every : Task
  every = terms_at rec cap (read_part w₀) l m k at base

  -- the terms before r's place are met; so many are left
  pub record TermsSofar (c₀ : Progress) (w out : List ℤ) (r : NumberedInt) (rest : ℕ) : Type 0 where
    pub left : Terms rec cap l m k at base (state_of w₀ out₀ c₀) rest r.at r.base (state_of w out r.progress)
    pub skips : TermSkipping (read_part w₀) l m k at base rest r.at r.base

  pub terms_start : (c : Progress) (r : NumberedInt) → r ≡ standing c at base → Starts every (state_of w₀ out₀ c) rec at base → TermsSofar r.progress w₀ out₀ r k
  terms_start c r e s = subst (λ (x : NumberedInt). TermsSofar x.progress w₀ out₀ x k) (sym e) (record { left = left_all every (state_of w₀ out₀ c) s.low; skips = terms_first w₀ l m k at base s.inside s.low_base })

  module _ (c c₀ : Progress) (e : c₀ ≡ c) (s : Starts every (state_of w₀ out₀ c) rec at base) (w out : List ℤ) (r : NumberedInt) (rest : ℕ) (x : TermsSofar c₀ w out r rest) where
    begun : Starts every (state_of w₀ out₀ c₀) rec at base
    begun = starts_as every w₀ out₀ c c₀ rec at base e s

    module _ (z : rest ≡ 0 → ⊥) (p : ℕ) (i : p ≡ min (r.at + 1) folded_end) where
      pub terms_term : Starts (int_at rec cap (read_part w) l m p r.base) (state_of w out r.progress) rec p r.base
      terms_term = term_starts rec cap l m k at base (state_of w₀ out₀ c₀) rest _ _ p _ z begun i x.left x.skips.low

      pub terms_again : (w' out' : List ℤ) (t : NumberedInt) → WalkedInt rec cap (state_of w out r.progress) l m p r.base w' out' t → TermsSofar c₀ w' out' t (rest - 1)
      terms_again w' out' t y =
          let j : IntSkips (read_part w₀) l m p r.base t.at t.base = subst (λ (ws : List ℤ). IntSkips ws l m p r.base t.at t.base) x.left.kept.part y.1 in
          record {
            left = terms_next rec cap l m k at base (state_of w₀ out₀ c₀) rest _ _ p _ z begun i x.left _ _ _ y.0 j;
            skips = terms_skip w₀ l m k at base begun.size rest _ _ p _ _ x.skips z i j;
          }

    pub terms_done : rest ≡ 0 → Done every (state_of w₀ out₀ c) (state_of w out r.progress) × TermSkips (read_part w₀) l m k at base r.at r.base
    terms_done z = (subst (λ (d : Progress). Done every (state_of w₀ out₀ d) (state_of w out r.progress)) e (terms_last rec cap l m k at base (state_of w₀ out₀ c₀) rest _ _ _ x.left z), terms_end w₀ l m k at base rest _ _ x.skips z)

-- ---- tests of the code

pub joined_as : {x y : Bool} {k : ℕ} {a b : Bool} {q : ℕ} {N : Node} → Join x k a b q ≡ N → x ≡ y → Join y k a b q ≡ N
joined_as {x} {y} {k} {a} {b} {q} {N} e i = ap (λ (d : Bool). Join d k a b q) (sym i) ∙ e

pub split_below : (m : ℕ) → m ≤ 1 → split_by m ≡ here → ⊥
unfolding split_by
split_below zero h e = absurd (let z : ◌≡◌ {A = ℕ} 0 1 = cc in omega arith)
split_below (suc zero) h e = absurd (let z : ◌≡◌ {A = ℕ} 0 1 = cc in omega arith)
split_below (suc (suc m)) h e = omega arith

pub split_here : (m : ℕ) → 1 < m → split_by m ≡ here
unfolding split_by
split_here zero h = absurd (omega arith)
split_here (suc zero) h = absurd (omega arith)
split_here (suc (suc m)) h = refl

-- ---- Ifs

pub parts_own : (ws : List ℤ) (u : ℕ) (m : Splitting) (c base : ℕ) (p : IfParts) → PartsAt ws u m c base p → PartsAt ws u m p.cond base p
parts_own ws u m c base p x = subst (λ (k : ℕ). PartsAt ws u m k base p) (sym x.place) x

module _ (rec cap : ℕ) (st : State) (l : ℕ) (m : Splitting) (at base : ℕ) (s : Starts (int_at rec cap (read_part st.work) l m at base) st rec at base) (u : ℕ) (z : l ≡ 0 → ⊥) (hu : u ≡ l - 1) (k : ℕ) (hk : k ≡ word (read_part st.work) at)
    (one : ℕ) (h : one ≡ min (at + 1) folded_end) (e : k ≡ 23) (w out : List ℤ) (r : NumberedInt) where
  pub walked_if : Done (if_at rec cap (read_part st.work) u m at one base) st (state_of w out r.progress) × IfSkips (read_part st.work) u m at one base r.at r.base → WalkedInt rec cap st l m at base w out r
  walked_if x =
      let i = int_level (read_part st.work) l u m at base k z hu hk ∙ if_code rec cap st l m at base s u z hu k hk one h e in (
        if_done rec cap st l m at base s u z hu k hk one h e _ x.0,
        record { end = x.1.end ∙ ap (λ (d : IntRead). d.end) (sym i); next = x.1.next ∙ ap (λ (d : IntRead). d.next) (sym i); start = x.1.start; inside = x.1.inside; low = x.1.low },
      )

pub walked_choice : (rec cap : ℕ) (st : State) (u : ℕ) (m : Splitting) (at c base : ℕ) (p : IfParts) → PartsAt (read_part st.work) u m c base p → at ≤ c → (w out : List ℤ) (d : Progress) (r : NumberedInt) → r ≡ standing d p.at p.base
    → Done (choice_at rec cap u m at base p (read_part st.work)) st (state_of w out d) → Done (if_at rec cap (read_part st.work) u m at c base) st (state_of w out r.progress) × IfSkips (read_part st.work) u m at c base r.at r.base
walked_choice rec cap st u m at c base p x h w out d r e y =
    subst (λ (n : NumberedInt). Done (if_at rec cap (read_part st.work) u m at c base) st (state_of w out n.progress) × IfSkips (read_part st.work) u m at c base n.at n.base) (sym e)
    (parts_done rec cap (read_part st.work) u m at c base p x st (state_of w out d) y, parts_skips rec cap (read_part st.work) u m at c base p x h)

-- the code's test in the place that is looked for
pub found_as : (rec cap u : ℕ) (m : Splitting) (at base : ℕ) (p : IfParts) (w : List ℤ) (o : Option ℕ) → o ≡ find_equal w (record { at = at; size = p.at - at; whole = leb p.base base }) → o ≡ find_equal w (place_at rec cap u m at base p)
found_as rec cap u m at base p w o e = e ∙ ap (λ (b : Bool). find_equal w (record { at = at; size = p.at - at; whole = b })) (whole_is p.base base)
