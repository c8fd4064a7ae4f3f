-- What each return of the walk over the extras says: the task is done, and where the expression ends.
use Rattle.std.specs.Prelude.{◌≡◌, refl, List, ℕ, ◌+◌, ◌-◌, ◌≤◌, min, ℤ}
use Rattle.std.proofs.Common.{sym, subst, arith}
use Rattle.memory.specs.Places.{folded_end, limit}
use Rattle.walk.specs.Decode.{word, read_part}
use Rattle.walks.specs.Tree.{Splitting}
use Rattle.walks.specs.Meet.{State}
use Rattle.scan.specs.Skip.{Skips, SkipsAll, IntSkips, TermSkips, Skipping, skipping_first, skipping_next, skipping_last, TermSkipping, terms_first, terms_next, terms_last, LeafTerm, int_leaf}
use Rattle.numbering.specs.Task.{state_of, Task, Done, left_all, Starts}
use Rattle.numbering.specs.Ties.{ties_of, int_ties_of, each_ties_of, terms_ties_of, EachTies, each_starts, each_next, each_last, TermTies, term_ties_starts, term_ties_next, term_ties_last, int_ties_leaf}
use Rattle.numbering.specs.Members.{standing}
use Rattle.numbering.specs.Walk.{starts_as}
use Rattle.numbering.specs.declared.Progress.{Progress}
use Rattle.numbering.specs.declared.NumberedInt.{NumberedInt}

-- the same words
pub int_skips_as : {ws ws' : List ℤ} {l : ℕ} {m : Splitting} {at base q b : ℕ} → ws' ≡ ws → IntSkips ws' l m at base q b → IntSkips ws l m at base q b
int_skips_as {ws} {ws'} {l} {m} {at} {base} {q} {b} e = subst (λ (us : List ℤ). IntSkips us l m at base q b) e

pub skips_as : {ws ws' : List ℤ} {l : ℕ} {m : Splitting} {at base q b : ℕ} → ws' ≡ ws → Skips ws' l m at base q b → Skips ws l m at base q b
skips_as {ws} {ws'} {l} {m} {at} {base} {q} {b} e = subst (λ (us : List ℤ). Skips us l m at base q b) e

-- a task, and an end e
pub walked_to : (t : Task) (e : ℕ → ℕ → Type 0) (st : State) (w out : List ℤ) (c : Progress) (q b : ℕ) (r : NumberedInt) → r ≡ standing c q b → Done t st (state_of w out c) → e q b → Done t st (state_of w out r.progress) × e r.at r.base
walked_to t e st w out c q b r i x y = subst (λ (n : NumberedInt). Done t st (state_of w out n.progress) × e n.at n.base) (sym i) (x, y)

-- two members
pub both_skip : (ws : List ℤ) (l : ℕ) (m : Splitting) (at base q b q' b' : ℕ) → at ≤ folded_end → base ≤ limit → Skips ws l m at base q b → Skips ws l m q b q' b' → SkipsAll ws l m 2 at base q' b'
both_skip ws l m at base q b q' b' i o x y =
    skipping_last ws l m 2 at base 0 q' b' (skipping_next ws l m 2 at base 1 q b q' b' (skipping_next ws l m 2 at base 2 at base q b (skipping_first ws l m 2 at base i o) (λ e. omega arith) x) (λ e. omega arith) y) refl

-- ---- the loops. w₀, out₀, c₀: where they began

module _ (rec cap l : ℕ) (m : Splitting) (k at base : ℕ) (w₀ out₀ : List ℤ) where
  abbrev all : Task
  all = each_ties_of rec cap (read_part w₀) l m k at base

  -- the extras of the members before r's place are met; so many are left
  pub record EachSofar (c₀ : Progress) (w out : List ℤ) (r : NumberedInt) (rest : ℕ) : Type 0 where
    pub left : EachTies rec cap l m k at base (state_of w₀ out₀ c₀) rest r.at r.base (state_of w out r.progress)
    pub skips : Skipping (read_part w₀) l m k at base rest r.at r.base

  pub each_start : (c : Progress) (r : NumberedInt) → r ≡ standing c at base → Starts all (state_of w₀ out₀ c) rec at base → EachSofar r.progress w₀ out₀ r k
  each_start c r e s = subst (λ (x : NumberedInt). EachSofar x.progress w₀ out₀ x k) (sym e) (record { left = left_all all (state_of w₀ out₀ c) s.low; skips = skipping_first (read_part w₀) l m k at base s.inside s.low_base })

  module _ (c c₀ : Progress) (e : c₀ ≡ c) (s : Starts all (state_of w₀ out₀ c) rec at base) (w out : List ℤ) (r : NumberedInt) (rest : ℕ) (x : EachSofar c₀ w out r rest) where
    begun : Starts all (state_of w₀ out₀ c₀) rec at base
    begun = starts_as all w₀ out₀ c c₀ rec at base e s

    module _ (z : rest ≡ 0 → ⊥) where
      pub each_member : Starts (ties_of rec cap (read_part w) l m r.at r.base) (state_of w out r.progress) rec r.at r.base
      each_member = each_starts rec cap l m k at base (state_of w₀ out₀ c₀) rest _ _ _ z begun x.left x.skips.inside x.skips.low

      pub each_again : (w' out' : List ℤ) (t : NumberedInt) → Done (ties_of rec cap (read_part w) l m r.at r.base) (state_of w out r.progress) (state_of w' out' t.progress) × Skips (read_part w) l m r.at r.base t.at t.base → EachSofar c₀ w' out' t (rest - 1)
      each_again w' out' t y =
          let j : Skips (read_part w₀) l m r.at r.base t.at t.base = skips_as x.left.kept.part y.1 in
          record {
            left = each_next rec cap l m k at base (state_of w₀ out₀ c₀) rest _ _ _ z begun x.left _ _ _ y.0 j;
            skips = skipping_next (read_part w₀) l m k at base rest _ _ _ _ x.skips z j;
          }

    pub each_done : rest ≡ 0 → Done all (state_of w₀ out₀ c) (state_of w out r.progress) × SkipsAll (read_part w₀) l m k at base r.at r.base
    each_done z = (subst (λ (d : Progress). Done all (state_of w₀ out₀ d) (state_of w out r.progress)) e (each_last rec cap l m k at base (state_of w₀ out₀ c₀) rest _ _ _ x.left z), skipping_last (read_part w₀) l m k at base rest _ _ x.skips z)

module _ (rec cap l : ℕ) (m : Splitting) (k at base : ℕ) (w₀ out₀ : List ℤ) where
  abbrev every : Task
  every = terms_ties_of rec cap (read_part w₀) l m k at base

  -- those of the terms
  pub record TermTiesSofar (c₀ : Progress) (w out : List ℤ) (r : NumberedInt) (rest : ℕ) : Type 0 where
    pub left : TermTies rec cap l m k at base (state_of w₀ out₀ c₀) rest r.at r.base (state_of w out r.progress)
    pub skips : TermSkipping (read_part w₀) l m k at base rest r.at r.base

  pub term_ties_start : (c : Progress) (r : NumberedInt) → r ≡ standing c at base → Starts every (state_of w₀ out₀ c) rec at base → TermTiesSofar r.progress w₀ out₀ r k
  term_ties_start c r e s = subst (λ (x : NumberedInt). TermTiesSofar x.progress w₀ out₀ x k) (sym e) (record { left = left_all every (state_of w₀ out₀ c) s.low; skips = terms_first w₀ l m k at base s.inside s.low_base })

  module _ (c c₀ : Progress) (e : c₀ ≡ c) (s : Starts every (state_of w₀ out₀ c) rec at base) (w out : List ℤ) (r : NumberedInt) (rest : ℕ) (x : TermTiesSofar c₀ w out r rest) where
    begun_terms : Starts every (state_of w₀ out₀ c₀) rec at base
    begun_terms = starts_as every w₀ out₀ c c₀ rec at base e s

    module _ (z : rest ≡ 0 → ⊥) (p : ℕ) (i : p ≡ min (r.at + 1) folded_end) where
      pub term_ties_term : Starts (int_ties_of rec cap (read_part w) l m p r.base) (state_of w out r.progress) rec p r.base
      term_ties_term = term_ties_starts rec cap l m k at base (state_of w₀ out₀ c₀) rest _ _ p _ z begun_terms i x.left x.skips.low

      pub term_ties_again : (w' out' : List ℤ) (t : NumberedInt) → Done (int_ties_of rec cap (read_part w) l m p r.base) (state_of w out r.progress) (state_of w' out' t.progress) × IntSkips (read_part w) l m p r.base t.at t.base → TermTiesSofar c₀ w' out' t (rest - 1)
      term_ties_again w' out' t y =
          let j : IntSkips (read_part w₀) l m p r.base t.at t.base = int_skips_as x.left.kept.part y.1 in
          record {
            left = term_ties_next rec cap l m k at base (state_of w₀ out₀ c₀) rest _ _ p _ z begun_terms i x.left _ _ _ y.0 j;
            skips = terms_next w₀ l m k at base begun_terms.size rest _ _ p _ _ x.skips z i j;
          }

    -- a constant or a variable
    pub term_ties_leaf : (rest ≡ 0 → ⊥) → LeafTerm w l r.at → (t : NumberedInt) → t ≡ standing r.progress (r.at + 3) r.base → TermTiesSofar c₀ w out t (rest - 1)
    term_ties_leaf z h t j =
        let p : ℕ = r.at + 1 in
        let i : p ≡ min (r.at + 1) folded_end = omega (arith, h.1) in
        let b : Starts (int_ties_of rec cap (read_part w) l m p r.base) (state_of w out r.progress) rec p r.base = term_ties_term z p i in
        subst (λ (n : NumberedInt). TermTiesSofar c₀ w out n (rest - 1)) (sym j)
        (term_ties_again z p i w out (standing r.progress (r.at + 3) r.base) (
          int_ties_leaf rec cap (state_of w out r.progress) l m p r.base b (l - 1) h.0 refl (word (read_part w) p) refl h.2 h.3,
          int_leaf w b.size l m p r.base b.inside b.low_base (l - 1) h.0 refl (word (read_part w) p) (r.at + 3) refl h.2 h.3 (omega (arith, h.1)),
        ))

    pub term_ties_done : rest ≡ 0 → Done every (state_of w₀ out₀ c) (state_of w out r.progress) × TermSkips (read_part w₀) l m k at base r.at r.base
    term_ties_done z = (subst (λ (d : Progress). Done every (state_of w₀ out₀ d) (state_of w out r.progress)) e (term_ties_last rec cap l m k at base (state_of w₀ out₀ c₀) rest _ _ _ x.left z), terms_last w₀ l m k at base rest _ _ x.skips z)
