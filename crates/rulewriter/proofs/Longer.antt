-- A probe: what is found of a single expression is what a survey finds, and of a longer one that it is longer.
use mathlib.Core.Path.{◌≡◌, refl, sym, ap, ◌∙◌}
use mathlib.Core.Bool.{Bool, true, false, not}
use mathlib.Core.List.{List, []}
use Prim.Native.Nat.{ℕ, zero, suc, ◌-◌}
use native.Mathlib.Omega.{arith}
use lib.IntN.{ℤ}
use Rattle.walk.specs.Item.{Tally, closed}
use Rattle.walk.specs.Decode.{read_part, surveyed, closed_disj}
use Rattle.walk.specs.declared.Counters.{Counters}
use Rattle.walk.specs.declared.Node.{Node}
use Rattle.walk.specs.declared.Node.TheVariants.{Not, Join, Cross}
use Rattle.walk.specs.declared.Surveyed.{Surveyed}
use Rattle.walks.specs.Tree.{Splitting, never, below, here}
use Rattle.walks.specs.Item.{has_ifs, tallies, form_item, conj_item, disj_item, cross_item}
use Rattle.walks.specs.Off.{form_off, forms_off}
use Rattle.walks.specs.Decode.{Read, step, cross_step, decode}
use Rattle.scan.specs.IfLaws.{Low}
use Rattle.scan.specs.Skip.{Skips, skips_not, skips_join}
use Rattle.scan.specs.SurveyLaws.{scanned, counters_of, Surveys, survey_not, Sofar, sofar_done}
use Rattle.scan.specs.declared.Behind.{Behind}
use Rattle.scan.specs.declared.Scanned.{Scanned}
use Rattle.rulewriter.specs.Places.{Placed, item_at, items_at, Probed, ProbedAll, PassedBy}
use Rattle.rulewriter.proofs.Steps.{Is, Step, down, items_first}
use Rattle.rulewriter.proofs.Surveying.{survey_disj}

pub probed_found : {w : List ℤ} {l : ℕ} {t : Splitting} {g : Bool} {at base : ℕ} {n : Counters} {r : Scanned} → Surveys w l t g at base n r → Probed w l t g at base n r
probed_found s = record { single = λ e. s; longer = λ z e. z (ap (λ (t : Tally). t.longs) (s.found.unit []) ∙ e) }

-- a survey says the same of a longer one
pub long_seen : {w : List ℤ} {l : ℕ} {t : Splitting} {g : Bool} {at base : ℕ} {n : Counters} {r s : Scanned} → Probed w l t g at base n r → (r.part.longs ≡ 0 → ⊥) → Surveys w l t g at base n s → s.part.longs ≡ 0 → ⊥
long_seen p z x e = p.longer z (sym (ap (λ (t : Tally). t.longs) (x.found.unit [])) ∙ e)

no_one : (r : Scanned) (s : Surveyed) (k : ℕ) → r ≡ scanned s k → s.longs ≡ 1 → r.part.longs ≡ 0 → ⊥
no_one r s k e i h = let z : ◌≡◌ {A = ℕ} 1 0 = sym i ∙ sym (ap (λ (r : Scanned). r.part.longs) e) ∙ h in omega arith

closed_zero : (s : Surveyed) → (closed_disj s).longs ≡ 0 → s.longs ≡ 0
unfolding closed_disj
closed_zero s h = go s.longs refl
  where
    go : (x : ℕ) → s.longs ≡ x → x ≡ 0
    go zero e = refl
    go (suc x) e = absurd (let z : ◌≡◌ {A = ℕ} 1 0 = rw e at h in omega arith)

zero_closed : (s : Surveyed) → s.longs ≡ 0 → (closed_disj s).longs ≡ 0
unfolding closed_disj
zero_closed s h = rw h

open_zero : (t : Tally) → (closed t).longs ≡ 0 → t.longs ≡ 0
unfolding closed
open_zero t h = go t.longs refl
  where
    go : (x : ℕ) → t.longs ≡ x → x ≡ 0
    go zero e = refl
    go (suc x) e = absurd (let z : ◌≡◌ {A = ℕ} 1 0 = rw e at h in omega arith)

module _ (w : List ℤ) (l u : ℕ) (t : Splitting) (g : Bool) (at base : ℕ) (n : Counters) (p : Placed w at base n) (z : l ≡ 0 → ⊥) (hu : u ≡ l - 1) (r : Scanned) where
  abbrev None : Read → Type 0
  None d = (form_item [] d.tree).unit.longs ≡ 0

  long_node : (N : Node) → Is w l u t g at base z hu N → (s : Surveyed) (k : ℕ) → r ≡ scanned s k → s.longs ≡ 1 → (None (Step w l u t g at base z hu N) → ⊥) → Probed w l t g at base n r
  long_node N e s k i j h = record { single = λ f. absurd (no_one r s k i j f); longer = λ y f. h (down w l u t g at base z hu None N e f) }

  none_not : (q : ℕ) → Is w l u t g at base z hu (Not q) → (item_at w l t g at base).unit.longs ≡ 0 → (item_at w u t (not g) q base).unit.longs ≡ 0
  unfolding step
  none_not q e = down w l u t g at base z hu None (Not q) e

  pub probed_not : (q : ℕ) → Is w l u t g at base z hu (Not q) → Probed w u t (not g) q base n r → Probed w l t g at base n r
  probed_not q e x = record {
    single = λ f. let y = x.single f in survey_not w p.size l t g at base n p.inside p.low u z hu r q e y (skips_not w p.size l t at base p.inside p.low_base u z hu g q r.part.at r.part.base e y.skips);
    longer = λ y f. x.longer y (none_not q e f);
  }

  pub probed_conj : (k : ℕ) (a b : Bool) (q : ℕ) → Is w l u t g at base z hu (Join false k a b q) → (s : Surveyed) (j : ℕ) → r ≡ scanned s j → s ≡ surveyed at base n.bools 1 0 0 0 0 → Probed w l t g at base n r
  unfolding step form_item conj_item
  probed_conj k a b q e s j i h = long_node (Join false k a b q) e s j i (ap (λ (s : Surveyed). s.longs) h) (λ f. let x : ◌≡◌ {A = ℕ} 1 0 = f in omega arith)

  cross_long : (t : Splitting) (h : Bool) (q : ℕ) → None (cross_step (decode (read_part w) u) t h q base) → ⊥
  unfolding cross_step form_item cross_item
  cross_long never h q f = let x : ◌≡◌ {A = ℕ} 1 0 = f in omega arith
  cross_long below h q f = let x : ◌≡◌ {A = ℕ} 1 0 = f in omega arith
  cross_long here h q f = let x : ◌≡◌ {A = ℕ} 1 0 = f in omega arith

  pub probed_cross : (h : Bool) (q : ℕ) → Is w l u t g at base z hu (Cross h q) → (s : Surveyed) (j : ℕ) → r ≡ scanned s j → s ≡ surveyed at base n.bools 1 0 0 0 0 → Probed w l t g at base n r
  unfolding step
  probed_cross h q e s j i k = long_node (Cross h q) e s j i (ap (λ (s : Surveyed). s.longs) k) (cross_long t h q)

  disj_open : (k : ℕ) (a b : Bool) (q : ℕ) → Is w l u t g at base z hu (Join true k a b q) → (item_at w l t g at base).unit.longs ≡ 0 → (tallies (items_at w u t k a b q base)).longs ≡ 0
  unfolding step form_item disj_item
  disj_open k a b q e f = open_zero (tallies (items_at w u t k a b q base)) (down w l u t g at base z hu None (Join true k a b q) e f)

  pub probed_disj : (s : Scanned) (c : Surveyed) (k : ℕ) (a b : Bool) (q : ℕ) → Is w l u t g at base z hu (Join true k a b q) → ProbedAll w u t k a b q base n s → c ≡ closed_disj s.part → r ≡ scanned c s.ints → Probed w l t g at base n r
  probed_disj s c k a b q e x i v =
      let j : r.part.longs ≡ (closed_disj s.part).longs = ap (λ (r : Scanned). r.part.longs) v ∙ ap (λ (c : Surveyed). c.longs) i in
      record {
        single = λ f.
            let y = x.single (closed_zero s.part (sym j ∙ f)) in
            survey_disj w p.size l t g at base n p.inside p.low u z hu r s c k a b q e y (skips_join w p.size l t at base p.inside p.low_base u z hu g true k a b q s.part.at s.part.base e y.skips) i v;
        longer = λ y f. x.longer (λ m. y (j ∙ zero_closed s.part m)) (disj_open k a b q e f);
      }

-- ---- members

module _ (w : List ℤ) (l : ℕ) (t : Splitting) (h : Bool) (k : ℕ) (g : Bool) (at base : ℕ) (n : Counters) (r : Scanned) (rest : ℕ) (f : Bool) (x : Sofar w l t h k g at base n r rest f) where
  -- the first longer member ends the probe
  pub probed_stop : (s : Scanned) → (rest ≡ 0 → ⊥) → Probed w l t f r.part.at r.part.base (counters_of r) s → (s.part.longs ≡ 0 → ⊥) → ProbedAll w l t k g h at base n s
  unfolding tallies
  probed_stop s z m y = record {
    single = λ e. absurd (y e);
    longer = λ v e. m.longer y (let i = ap (λ (t : Tally). t.longs) (rw (items_first w l t rest f h r.part.at r.part.base z) at (x.unit [])) in omega arith);
  }

  pub probed_end : rest ≡ 0 → r.part.longs ≡ 0 → ProbedAll w l t k g h at base n r
  probed_end z e = record { single = λ i. sofar_done w l t h k g at base n r rest f x z; longer = λ v. absurd (v e) }

-- ---- a member passed by

pub passed_found : {w : List ℤ} {l : ℕ} {t : Splitting} {g : Bool} {at base : ℕ} {n : Counters} {r : Behind} (s : Scanned) → Surveys w l t g at base n s → r.at ≡ s.part.at → r.base ≡ s.part.base → r.n ≡ counters_of s → PassedBy w l t g at base n r
passed_found s x i j k = record {
  skips = rw (i, j) x.skips;
  low = rw k x.found.low;
  same = λ b ts. rw (k, x.found.count []) refl;
}

-- without Ifs
pub passed_off : {w : List ℤ} {l : ℕ} {t : Splitting} {g : Bool} {at base : ℕ} {n : Counters} {r : Behind} → has_ifs w ≡ false → Skips (read_part w) l t at base r.at r.base → r.n ≡ n → Low n → PassedBy w l t g at base n r
passed_off {w} {l} {t} {g} {at} {base} {n} off s k i = record {
  skips = s;
  low = rw k i;
  same = λ b ts. rw k ((forms_off w off [] ts).pool b n ((item_at w l t g at base).count w n) (sym ((form_off w off [] (decode (read_part w) l t g at base).tree).count n)));
}
