-- What the search for a number's domain does at each of its returns and turns. Assumes nothing.
use mathlib.Core.Path.{◌≡◌, refl, sym, ap, ◌∙◌, subst}
use mathlib.Core.Bool.{true, false}
use mathlib.Core.Option.{Option, none, some}
use mathlib.Core.List.{List}
use Prim.Native.Nat.{ℕ, zero, suc, ◌+◌, ◌-◌, ◌*◌, ◌≤◌, ◌<◌, min}
use native.Mathlib.Omega.{arith}
use native.Mathlib.Numerals.{sub-one}
use lib.IntN.{ℤ, pos}
use lib.ListN.{length, get_or}
use borrow.Author.Tests.{eq-eqb, ne_eqb}
use Rattle.laws.specs.Bools.{never}
use Rattle.laws.specs.Ints.{lower, higher}
use Rattle.syntax.specs.Words.{max_ints}
use Rattle.memory.specs.Places.{folded_end, declared_domains, limit}
use Rattle.syntax.specs.Syntax.{Domain}
use Rattle.sums.specs.Rising.{constant_of}
use Rattle.walk.specs.Item.{is_none, int_number}
use Rattle.walk.specs.Decode.{word, past, below as index, read_part}
use Rattle.walk.specs.declared.Counters.{Counters}
use Rattle.walk.proofs.NumberingSteps.{part_length}
use Rattle.walks.specs.Tree.{Place, Splitting}
use Rattle.walks.specs.Form.{Form, IntForm, const, ivar, choice}
use Rattle.walks.specs.Item.{cell, Seen, unseen, both_constant, numbered, seen, constant_in, number_in, or_else, const_item, ivar_item, no_terms_item, term_item, sum_item, if_number, if_domain, choice_item, form_int_item, form_terms_item}
use Rattle.walks.specs.Decode.{IntRead, own_at, if_step, int_step, many_terms, decode, decode_int}
use Rattle.walks.specs.Totals.{total_of, behind_of}
use Rattle.declared.specs.DomainTable.{word_at, Declares}
use Rattle.scan.specs.declared.Behind.{Behind}
use Rattle.scan.specs.Nodes.{int_level}
use Rattle.scan.specs.Skip.{Skips}
use Rattle.scan.specs.IfLaws.{seen_code, seen_at, Low}
use Rattle.scan.specs.SurveyLaws.{behind_at, IntSurveys, terms_none, terms_more}
use Rattle.totals.specs.declared.Nested.{Nested}
use Rattle.totals.specs.Lone.{is_sum}
use Rattle.totals.specs.Linear.{int_at, terms_at, Stepping, Linear}
use Rattle.totals.specs.Ranges.{Found, hit, miss, is_hit, Told, BranchSteps, TermBranches, first_branch, second_branch, Branching, IfBounds, Branched, Finds, Looking}
use Rattle.totals.proofs.Numbers.{sum_code}
use Rattle.totals.proofs.Steps.{tree_is}

-- ---- what is found first

or_first : (o p : Option Domain) (r : Found) → Told o r → is_hit r ≡ true → Told (or_else o p) r
or_first (some d) p r h e = h
or_first none p r h e = never (sym h.is ∙ e)

or_second : (o p : Option Domain) (r : Found) → Told o r → is_hit r ≡ false → or_else o p ≡ p
or_second (some d) p r h e = never (sym e ∙ h.is)
or_second none p r h e = refl

told_none : (r : Found) → r ≡ miss → Told none r
told_none r e = rw e (record { is = refl; low = refl; high = refl })

-- ---- two values, and the table's words

pub table_words : (w : List ℤ) (v : ℕ) (r : Found) (x y : ℤ) → x ≡ get_or w (declared_domains + 3 * v) (pos 0) → y ≡ get_or w (declared_domains + 3 * v + 1) (pos 0) → r ≡ hit x y → r ≡ hit (word_at w v 0) (word_at w v 1)
unfolding word_at
table_words w v r x y a b e =
    let i : declared_domains + 3 * v + 0 ≡ declared_domains + 3 * v = omega arith in
    rw (i, ← a, ← b) e

-- ---- an If's own domain

no_constant : (s : Seen) → (seen_code s ≡ 1 → ⊥) → constant_in s ≡ false
no_constant unseen z = refl
no_constant both_constant z = absurd (z refl)
no_constant (numbered v b) z = refl

one_constant : (s : Seen) → seen_code s ≡ 1 → constant_in s ≡ true
one_constant unseen e = absurd (omega arith)
one_constant both_constant e = refl
one_constant (numbered v b) e = absurd (omega arith)

module _ (w : List ℤ) (l : ℕ) (m : Splitting) (at c base : ℕ) (n : Counters) (k : ℕ) (hk : k ≡ seen_code (seen_at w at)) where
  pub if_open : (k ≡ 1 → ⊥) → (r : Found) → r ≡ hit (cell w (at + 2)) (cell w (at + 3)) → IfBounds w l m at c base n r
  unfolding if_domain seen
  if_open z r i ds p h = rw (h, no_constant (seen_at w at) (λ q. z (hk ∙ q)), i) (record { is = refl; low = refl; high = refl })

  -- the first branch at q
  module _ (q b : ℕ) (s : Skips (read_part w) l m c base q b) (h : Branching w l m c base n) where
    pub branch_first : Stepping w l m q b n
    branch_first = record { domains = h.domains; steps = rw (s.end false, s.next false) h.first }

    module _ (x : Nested) (o : Linear w l m q b n x) where
      pub branch_second : Stepping w l m x.behind.at x.behind.base x.behind.n
      branch_second = record { domains = h.domains; steps = rw (o.behind.skips.end, o.behind.skips.next, o.behind.behind h.domains, s.end false, s.next false) h.second }

      pub if_constants : (y : Nested) → Linear w l m x.behind.at x.behind.base x.behind.n y → k ≡ 1 → (r : Found) → r ≡ hit (lower x.sum.constant y.sum.constant) (higher x.sum.constant y.sum.constant) → IfBounds w l m at c base n r
      unfolding if_domain seen
      if_constants y f e r i ds p g =
          let a : x.sum.constant ≡ constant_of (total_of ds w (first_branch w l m c base) n) = rw (← s.end false, ← s.next false) (o.sum ds).const in
          let d : y.sum.constant ≡ constant_of (total_of ds w (second_branch w l m c base) (behind_of ds w (first_branch w l m c base) n))
          = rw (← s.end false, ← s.next false, ← o.behind.skips.end, ← o.behind.skips.next, ← o.behind.behind ds) (f.sum ds).const in
          rw (g, one_constant (seen_at w at) (sym hk ∙ e), i, a, d) (record { is = refl; low = refl; high = refl })

-- ---- an expression that is no sum

choice_hit : (ds : List Domain) (w : List ℤ) (n : Counters) (p : Place) (o : Option ℕ) (c d : Form) (t f : IntForm) (x y k : ℕ) (r : Found) → k ≡ (behind_of ds w (choice p o c d t f) n).ints → y ≡ number_in (seen w p) k → y ≡ x
    → Told (some (if_domain p (form_int_item ds t) (form_int_item ds f) w n)) r → Told ((form_int_item ds (choice p o c d t f)).range w n x) r
unfolding form_int_item choice_item if_number
choice_hit ds w n p o c d t f x y k r e h i g = rw (eq-eqb x _ (sym i ∙ h ∙ ap (number_in (seen w p)) e)) g

choice_miss : (ds : List Domain) (w : List ℤ) (n : Counters) (p : Place) (o : Option ℕ) (c d : Form) (t f : IntForm) (x y k : ℕ) (r : Found) → k ≡ (behind_of ds w (choice p o c d t f) n).ints → y ≡ number_in (seen w p) k → (y ≡ x → ⊥)
    → r ≡ miss → Told ((form_int_item ds (choice p o c d t f)).range w n x) r
unfolding form_int_item choice_item if_number
choice_miss ds w n p o c d t f x y k r e h i g = rw (ne_eqb x _ (λ q. i (h ∙ ap (number_in (seen w p)) e ∙ sym q))) (told_none r g)

pub find_none : (w : List ℤ) (l : ℕ) (m : Splitting) (at base : ℕ) (n : Counters) (x : ℕ) (r : Found) → l ≡ 0 → r ≡ miss → Finds w l m at base n x r
unfolding decode form_int_item const_item
find_none w l m at base n x r e i ds d = rw e (told_none r i)

module _ (w : List ℤ) (long : folded_end ≤ length w) (l : ℕ) (m : Splitting) (at base : ℕ) (n : Counters) (z : l ≡ 0 → ⊥) (k : ℕ) (hk : k ≡ word (read_part w) at) (x : ℕ) where
  read_tree : int_at w l m at base ≡ (int_step (read_part w) (decode (read_part w) (l - 1)) (decode_int (read_part w) (l - 1)) m at base k).tree
  read_tree = ap (λ (t : IntRead). t.tree) (int_level (read_part w) l (l - 1) m at base k z refl hk)

  to : (t : IntForm) (r : Found) → int_at w l m at base ≡ t → ((ds : List Domain) → Declares ds w → Told ((form_int_item ds t).range w n x) r) → Finds w l m at base n x r
  to t r e h ds d = subst (λ (y : IntForm). Told ((form_int_item ds y).range w n x) r) (sym e) (h ds d)

  -- a variable
  module _ (c v y : ℕ) (e : k ≡ 21) (hc : c ≡ word (read_part w) (at + 1)) (hv : v ≡ index max_ints c) (hy : y ≡ int_number w v) where
    variable_tree : int_at w l m at base ≡ ivar v
    unfolding int_step
    variable_tree = read_tree ∙ rw (e, ← hc, ← hv) refl

    pub variable_hit : v < max_ints → y ≡ x → (r : Found) → r ≡ hit (word_at w v 0) (word_at w v 1) → Finds w l m at base n x r
    unfolding form_int_item ivar_item
    variable_hit i h r g = to (ivar v) r variable_tree (λ ds d. let t = d v i in rw (eq-eqb x (int_number w v) (sym h ∙ hy), g) (record { is = refl; low = t.lowest; high = t.highest }))

    pub variable_miss : (y ≡ x → ⊥) → (r : Found) → r ≡ miss → Finds w l m at base n x r
    unfolding form_int_item ivar_item
    variable_miss h r g = to (ivar v) r variable_tree (λ ds d. rw (ne_eqb x (int_number w v) (λ q. h (hy ∙ sym q))) (told_none r g))

  pub other_miss : is_sum w l at ≡ false → (k ≡ 21 → ⊥) → (k ≡ 23 → ⊥) → (r : Found) → r ≡ miss → Finds w l m at base n x r
  unfolding int_step form_int_item const_item
  other_miss s a b r g = to (const (get_or (read_part w) (at + 1) (pos 0))) r (read_tree ∙ rw (ne_eqb k 21 a, sum_code w l at k z hk ∙ s, ne_eqb k 23 b) refl) (λ ds d. told_none r g)

  -- an If; its condition stands at c
  module _ (c : ℕ) (e : k ≡ 23) (hc : c ≡ min (at + 1) folded_end) where
    abbrev If_place : Place
    If_place =
        let a = decode (read_part w) (l - 1) m false c base in
        let t = decode_int (read_part w) (l - 1) m a.end a.next in
        let f = decode_int (read_part w) (l - 1) m t.end t.next in
        record { at = at; size = f.end - at; whole = is_none (f.next - base) }

    abbrev If_tree : IntForm
    If_tree = choice If_place (own_at (read_part w) c) (decode (read_part w) (l - 1) m false c base).tree (decode (read_part w) (l - 1) m true c base).tree (first_branch w (l - 1) m c base) (second_branch w (l - 1) m c base)

    if_tree : int_at w l m at base ≡ If_tree
    unfolding int_step if_step
    if_tree = let i : c ≡ past (read_part w) (at + 1) = omega (arith, part_length w long) in read_tree ∙ rw (e, i) refl

    pub if_branching : Branched w l m at base n → Branching w (l - 1) m c base n
    unfolding BranchSteps
    if_branching h = let b = rw if_tree at h.branches in record { domains = h.domains; first = b.0; second = b.1 }

    module _ (q : Behind) (s : IntSurveys w l m at base n q) (y : ℕ) (hy : y ≡ number_in (seen_at w at) q.n.ints) where
      ints_is : (ds : List Domain) → q.n.ints ≡ (behind_of ds w If_tree n).ints
      ints_is ds = ap (λ (a : Counters). a.ints) (s.behind ds) ∙ ap (λ (t : IntForm). (behind_of ds w t n).ints) if_tree

      pub if_hit : y ≡ x → (r : Found) → IfBounds w (l - 1) m at c base n r → Finds w l m at base n x r
      unfolding seen
      if_hit h r g = to If_tree r if_tree (λ ds d. choice_hit ds w n If_place _ _ _ _ _ x y q.n.ints r (ints_is ds) hy h (g ds If_place refl))

      pub if_miss : (y ≡ x → ⊥) → (r : Found) → r ≡ miss → Finds w l m at base n x r
      unfolding seen
      if_miss h r g = to If_tree r if_tree (λ ds d. choice_miss ds w n If_place _ _ _ _ _ x y q.n.ints r (ints_is ds) hy h g)

-- ---- the terms of a sum

module _ (w : List ℤ) (long : folded_end ≤ length w) (l u : ℕ) (m : Splitting) (at base : ℕ) (n : Counters) (e : is_sum w l at ≡ true) (hu : u ≡ l - 1) (k two : ℕ) (hk : k ≡ word (read_part w) (at + 1)) (h2 : two ≡ min (at + 2) folded_end) (x : ℕ) where
  pub look_start : base ≤ limit → Low n → Branched w l m at base n → Looking w u m k two base n x k (behind_at two base n)
  unfolding BranchSteps
  look_start b low h = record {
    sofar = terms_none w u m k two base n (omega arith) b low;
    same = λ ds d. refl;
    domains = h.domains;
    branches = rw (tree_is w long l u m at base n e hu k two hk h2) at h.branches;
  }

  told_all : (r : Found) → ((ds : List Domain) → Declares ds w → Told ((form_terms_item ds (terms_at w u m two base k)).range w n x) r) → Finds w l m at base n x r
  unfolding form_int_item sum_item
  told_all r h ds d = subst (λ (t : IntForm). Told ((form_int_item ds t).range w n x) r) (sym (tree_is w long l u m at base n e hu k two hk h2)) (h ds d)

  pub look_end : (rest : ℕ) (q : Behind) (r : Found) → Looking w u m k two base n x rest q → rest ≡ 0 → r ≡ miss → Finds w l m at base n x r
  unfolding form_int_item no_terms_item many_terms
  look_end zero q r g z i = told_all r (λ ds d. subst (λ (o : Option Domain). Told o r) (g.same ds d) (told_none r i))
  look_end (suc rest) q r g z i = absurd (omega arith)

  -- a turn: the term at p, where o is found
  module _ (rest : ℕ) (r : Behind) (g : Looking w u m k two base n x rest r) (z : rest ≡ 0 → ⊥) (p : ℕ) (hp : p ≡ min (r.at + 1) folded_end) where
    branched_of : (rest : ℕ) → (rest ≡ 0 → ⊥) → TermBranches g.domains w (terms_at w u m r.at r.base rest) r.n → BranchSteps g.domains w (int_at w u m p r.base) r.n
    unfolding many_terms BranchSteps
    branched_of zero z h = absurd (z refl)
    branched_of (suc rest) z h = let i : p ≡ past (read_part w) (r.at + 1) = omega (arith, part_length w long) in rw i h.0

    pub look_branched : Branched w u m p r.base r.n
    look_branched = record { domains = g.domains; branches = branched_of rest z g.branches }

    module _ (o : Found) (f : Finds w u m p r.base r.n x o) where
      found_of : (rest : ℕ) → (rest ≡ 0 → ⊥) → is_hit o ≡ true → (ds : List Domain) → Declares ds w → Told ((form_terms_item ds (terms_at w u m r.at r.base rest)).range w r.n x) o
      unfolding many_terms form_int_item term_item
      found_of zero z h ds d = absurd (z refl)
      found_of (suc rest) z h ds d = let i : p ≡ past (read_part w) (r.at + 1) = omega (arith, part_length w long) in rw (← i) (or_first _ _ o (f ds d) h)

      pub look_found : is_hit o ≡ true → Finds w l m at base n x o
      look_found h = told_all o (λ ds d. subst (λ (y : Option Domain). Told y o) (g.same ds d) (found_of rest z h ds d))

      module _ (h : is_hit o ≡ false) (q : Behind) (s : IntSurveys w u m p r.base r.n q) where
        same_of : (rest : ℕ) → (rest ≡ 0 → ⊥) → (ds : List Domain) → Declares ds w → (form_terms_item ds (terms_at w u m q.at q.base (rest - 1))).range w q.n x ≡ (form_terms_item ds (terms_at w u m r.at r.base rest)).range w r.n x
        unfolding many_terms form_int_item term_item
        same_of zero z ds d = absurd (z refl)
        same_of (suc rest) z ds d =
            let i : p ≡ past (read_part w) (r.at + 1) = omega (arith, part_length w long) in
            rw (sub-one, s.skips.end, s.skips.next, s.behind ds, ← i) (sym (or_second _ _ o (f ds d) h))

        branches_of : (rest : ℕ) → (rest ≡ 0 → ⊥) → TermBranches g.domains w (terms_at w u m r.at r.base rest) r.n → TermBranches g.domains w (terms_at w u m q.at q.base (rest - 1)) q.n
        unfolding many_terms BranchSteps
        branches_of zero z b = absurd (z refl)
        branches_of (suc rest) z b =
            let i : p ≡ past (read_part w) (r.at + 1) = omega (arith, part_length w long) in
            rw (sub-one, s.skips.end, s.skips.next, s.behind g.domains, i) b.1

        pub look_next : Looking w u m k two base n x (rest - 1) q
        look_next = record {
          sofar = terms_more w u m k two base n long rest p r q g.sofar z hp s;
          same = λ ds d. same_of rest z ds d ∙ g.same ds d;
          domains = g.domains;
          branches = branches_of rest z g.branches;
        }
