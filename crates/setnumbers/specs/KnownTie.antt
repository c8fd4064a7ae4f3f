-- A rule that ties two variables which have literals takes no number and changes nothing (`known_stays`), so that it need not be walked; and where it ends (`known_end`).
use Rattle.std.specs.Prelude.{◌≡◌, Bool, not, List, ◌⊎◌, ℕ, suc, ◌+◌, ◌-◌, ◌≤◌, ℤ}
use Rattle.std.proofs.Math.Path.{refl}
use Rattle.std.proofs.Common.{ap, ◌∙◌, inl, inr, arith}
use Rattle.std.proofs.Math.Bool.{true, false}
use Rattle.laws.specs.Ints.{is_zero}
use Rattle.memory.specs.Places.{limit}
use Rattle.syntax.specs.Syntax.{Domain}
use Rattle.syntax.specs.Words.{max_bools}
use Rattle.walk.specs.Item.{bump, bool_at}
use Rattle.walk.specs.Decode.{word, past, below as index, read_part}
use Rattle.walk.specs.declared.Node.TheVariants.{Cross}
use Rattle.walks.specs.Tree.{Splitting, below, here}
use Rattle.walks.specs.Form.{var, cross, Forms, nil, cons}
use Rattle.walks.specs.Item.{tallies, form_item, var_item}
use Rattle.walks.specs.Decode.{node_of, Read, many, cross_step, step, decode, many_ties, cross_ties, ties_step, ties_at}
use Rattle.walks.specs.DecodeExact.{rule_at}
use Rattle.walks.specs.Meet.{State, more_bools, meet_bool, form_meet, form_meets}
use Rattle.numbering.specs.Rules.{rule_task}

-- the two sides from a place on are variables that have literals; w: the work slice
pub record KnownSides (w : List ℤ) (p : ℕ) : Type 0 where
  pub first : word (read_part w) p ≡ 11
  pub second : word (read_part w) (past (read_part w) (p + 2)) ≡ 11
  pub left : is_zero (bool_at w (index max_bools (word (read_part w) (p + 1)))) ≡ false
  pub right : is_zero (bool_at w (index max_bools (word (read_part w) (past (read_part w) (p + 2) + 1)))) ≡ false

-- the rule at a place is an Xor or Iff of such sides
pub record KnownTie (w : List ℤ) (at : ℕ) : Type 0 where
  pub code : word (read_part w) at ≡ 15 ⊎ word (read_part w) at ≡ 16
  pub sides : KnownSides w (past (read_part w) (at + 1))

-- ---- forms

module _ (ws : List ℤ) where
  -- a variable at a place
  var_read : (l : ℕ) (m : Splitting) (g : Bool) (p n : ℕ) → word ws p ≡ 11 → decode ws (suc l) m g p n ≡ record { tree = var (index max_bools (word ws (p + 1))) g; end = past ws (p + 2); next = n }
  unfolding decode step node_of
  var_read l m g p n e = rw e refl

  var_ties : (l : ℕ) (m : Splitting) (p n : ℕ) → word ws p ≡ 11 → ties_at ws (suc l) m p n ≡ nil
  unfolding ties_at ties_step node_of
  var_ties l m p n e = rw e refl

  module _ (l p q n : ℕ) (hq : past ws (p + 2) ≡ q) (first : word ws p ≡ 11) (second : word ws q ≡ 11) where
    abbrev two_vars : Bool → Bool → Forms
    two_vars g h = cons (var (index max_bools (word ws (p + 1))) g) (cons (var (index max_bools (word ws (q + 1))) h) nil)

    sides_read : (g h : Bool) → many (decode ws (suc l) here) 2 g h p n ≡ record { trees = two_vars g h; end = past ws (q + 2); next = n }
    unfolding many
    sides_read g h = rw (var_read l here g p n first, hq, var_read l here h q n second) refl

    sides_ties : many_ties (decode ws (suc l) here) (ties_at ws (suc l) here) 2 p n ≡ nil
    unfolding many_ties
    sides_ties = rw (var_read l here false p n first, var_ties l here p n first, hq, var_ties l here q n second) refl

    -- h: whether the second side is negated
    cross_read : (h : Bool) → cross_step (decode ws (suc l)) below h p n ≡ record { tree = cross (two_vars false h) (two_vars true (not h)); end = past ws (q + 2); next = n }
    unfolding cross_step
    cross_read h = rw (sides_read false h, sides_read true (not h)) refl

    -- at a place before them
    module _ (at : ℕ) (h : Bool) (asks : node_of ws false at (word ws at) ≡ Cross h p) where
      tie_read : decode ws (suc (suc l)) below false at n ≡ record { tree = cross (two_vars false h) (two_vars true (not h)); end = past ws (q + 2); next = n }
      unfolding decode step
      tie_read = rw asks (cross_read h)

      tie_ties : ties_at ws (suc (suc l)) below at n ≡ nil
      unfolding ties_at ties_step cross_ties
      tie_ties = rw asks sides_ties

-- ---- the walk

module _ (ds : List Domain) (rec cap : ℕ) (x y : ℕ) (st : State) (hx : is_zero (bool_at st.work x) ≡ false) (hy : is_zero (bool_at st.work y) ≡ false) (low : st.bools ≤ limit) where
  met_known : (v : ℕ) → is_zero (bool_at st.work v) ≡ false → meet_bool v st ≡ st
  unfolding meet_bool
  met_known v h = rw h refl

  no_more : more_bools 0 st ≡ st
  no_more = let e : bump st.bools 0 ≡ st.bools = omega (arith, low) in ap (λ (n : ℕ). record { work = st.work; out = st.out; bools = n; ints = st.ints; used = st.used }) e

  -- each side twice, and no new number
  tie_stays : (a b c d : Bool) → form_meet ds rec cap (cross (cons (var x a) (cons (var y b) nil)) (cons (var x c) (cons (var y d) nil))) st ≡ st
  unfolding form_meet form_item tallies var_item
  tie_stays a b c d = rw (met_known x hx, met_known y hy, met_known x hx, met_known y hy) (ap (more_bools 0) no_more ∙ no_more)

pub known_stays : (ds : List Domain) (rec cap at : ℕ) (st : State) → st.bools ≤ limit → KnownTie st.work at → (rule_task rec cap (read_part st.work) at).meet ds st ≡ st
unfolding rule_task
known_stays ds rec cap at st low k = go k.code
  where
    ws : List ℤ
    ws = read_part st.work

    p : ℕ
    p = past ws (at + 1)

    q : ℕ
    q = past ws (p + 2)

    n : ℕ
    n = st.bools

    stays : (h : Bool) → node_of ws false at (word ws at) ≡ Cross h p → form_meets ds rec cap (rule_at ws 64 at n) (more_bools ((decode ws 64 below false at n).next - n) st) ≡ st
    stays h e =
        let a = tie_read ws 62 p q n refl k.sides.first k.sides.second at h e in
        let b = tie_ties ws 62 p q n refl k.sides.first k.sides.second at h e in
        let z : n - n ≡ 0 = omega arith in
        rw (a, b, z, no_more ds rec cap (index max_bools (word ws (p + 1))) (index max_bools (word ws (q + 1))) st k.sides.left k.sides.right low)
        (unfold form_meet in tie_stays ds rec cap (index max_bools (word ws (p + 1))) (index max_bools (word ws (q + 1))) st k.sides.left k.sides.right low false h true (not h))

    go : word ws at ≡ 15 ⊎ word ws at ≡ 16 → form_meets ds rec cap (rule_at ws 64 at n) (more_bools ((decode ws 64 below false at n).next - n) st) ≡ st
    go (inl e) = stays false (unfold node_of in rw e refl)
    go (inr e) = stays true (unfold node_of in rw e refl)

-- where it ends
pub known_end : (w : List ℤ) (at n : ℕ) → KnownTie w at → (let ws = read_part w in (decode ws 64 below false at n).end ≡ past ws (past ws (past ws (at + 1) + 2) + 2))
known_end w at n k = go k.code
  where
    ws : List ℤ
    ws = read_part w

    p : ℕ
    p = past ws (at + 1)

    q : ℕ
    q = past ws (p + 2)

    ends : (h : Bool) → node_of ws false at (word ws at) ≡ Cross h p → (decode ws 64 below false at n).end ≡ past ws (q + 2)
    ends h e = ap (λ (r : Read). r.end) (tie_read ws 62 p q n refl k.sides.first k.sides.second at h e)

    go : word ws at ≡ 15 ⊎ word ws at ≡ 16 → (decode ws 64 below false at n).end ≡ past ws (q + 2)
    go (inl e) = ends false (unfold node_of in rw e refl)
    go (inr e) = ends true (unfold node_of in rw e refl)
