-- Where the compile is not refused, the check says yes exactly to the rosters that pass its answer; a contradiction's set is broken by every roster.
-- Over the words of both calls; from demand 3 (`demand_3`). Assumes nothing.
use Rattle.std.specs.Prelude.{◌≡◌, ◌↔◌, Bool, not, ◌&&◌, ℤ, pos, length, get_or}
use Rattle.std.proofs.Math.Path.{refl}
use Rattle.std.proofs.Common.{sym, ◌∙◌}
use Rattle.std.proofs.Math.Bool.{true, false, cond}
use mathlib.Core.List.{List}
use Prim.Native.Nat.{ℕ, zero, suc}
use Rattle.std.proofs.Math.Dec.{ltb}
use Rattle.laws.specs.Bools.{and_l, and_r}
use Rattle.laws.specs.Ints.{apart}
use Rattle.laws.specs.Lists.{all, below}
use Rattle.syntax.specs.Words.{min_work_words, max_set_words}
use Rattle.syntax.specs.Syntax.{Problem}
use Rattle.syntax.specs.Satisfies.{in_domains, satisfies}
use Rattle.words.specs.Parse.{Parsed, ok, refuse}
use Rattle.read.specs.Read.{read_set}
use Rattle.limits.specs.Limits.{check}
use Rattle.limits.specs.Admitted.{admitted, limited}
use Rattle.call.specs.Call.{Result, contradiction, refused, checked, when_read, call_with}
use Rattle.call.specs.declared.Choices.{Choices}
use Rattle.call.specs.Claim.{of_set, within, satisfied as meets, Passed, NotRefused}
use Rattle.call.proofs.Demand.{demand_3}
use Rattle.verdict.specs.Roster.{bool_of, int_of, is_bit, right_count, all_inside, satisfied, refused as refuses, judged, rostered, when_admitted, check_roster, Breaks}
use Rattle.verdict.proofs.RosterLaws.{judged_satisfied, satisfied_judged, judged_breaks}

-- how many Booleans the set declares, and the integers' values behind theirs
abbrev pub declared_bools : List ℤ → ℕ
declared_bools set = of_set 0 (λ p. p.bools) (read_set set)

-- a roster of the set: a value for every variable, each in its domain
unfoldable pub is_roster : List ℤ → List ℤ → Bool
is_roster set values = of_set false (λ p. right_count p values && all_inside p values) (read_set set)

-- ---- a call that is not refused

passed_by : {X : Type 0} (t : Bool) (k : ℕ) (x : Result) → NotRefused (cond t (refused k) x) → (t ≡ false → NotRefused x → X) → X
passed_by true k x n go = absurd (n k refl)
passed_by false k x n go = go refl n

-- what 2 to 11 let through
module _ (c : Choices) (set : List ℤ) (out_length work_length : ℕ) (n : NotRefused (call_with c set out_length work_length)) where
  unrefused : {X : Type 0} → ((p : Problem) (r : List ℤ) → ltb max_set_words (length set) ≡ false → read_set set ≡ ok p r → check p ≡ 0 → X) → X
  unfolding call_with when_read checked
  unrefused {X} go =
      passed_by (ltb work_length min_work_words) 1 _ n λ a n1.
      passed_by (ltb max_set_words (length set)) 2 _ n1 λ b n2.
      reads (read_set set) refl b n2
    where
      limits : (p : Problem) (r : List ℤ) → ltb max_set_words (length set) ≡ false → read_set set ≡ ok p r → (k : ℕ) → check p ≡ k → NotRefused (checked c out_length p k) → X
      limits p r b e zero l n3 = go p r b e l
      limits p r b e (suc k) l n3 = absurd (n3 (suc k) refl)

      reads : (q : Parsed Problem) → read_set set ≡ q → ltb max_set_words (length set) ≡ false → NotRefused (when_read c out_length q) → X
      reads (refuse k) e b n3 = absurd (n3 k refl)
      reads (ok p r) e b n3 = limits p r b e (check p) refl n3

-- ---- the check of such a set, with a work slice of its own

module _ (set values : List ℤ) (w : ℕ) (enough : ltb w min_work_words ≡ false) (p : Problem) (r : List ℤ) (short : ltb max_set_words (length set) ≡ false) (read : read_set set ≡ ok p r) (c : check p ≡ 0) where
  check_is : check_roster set values w ≡ rostered p values
  unfolding check_roster when_admitted admitted limited
  check_is = rw (enough, short, read, c) refl

  roster_is : is_roster set values ≡ (right_count p values && all_inside p values)
  unfolding is_roster
  roster_is = rw read refl

  -- yes is given to rosters only
  yes_roster : check_roster set values w ≡ satisfied → is_roster set values ≡ true
  unfolding rostered
  yes_roster h = roster_is ∙ go (right_count p values) (all_inside p values) (sym check_is ∙ h)
    where
      go : (a b : Bool) → cond (not a) (refuses 14) (cond (not b) (refuses 15) (judged p values)) ≡ satisfied → (a && b) ≡ true
      go true true e = refl
      go true false e = apart (cc)
      go false b e = apart (cc)

  module _ (h : is_roster set values ≡ true) where
    counted : right_count p values ≡ true
    counted = and_l (right_count p values) (all_inside p values) (sym roster_is ∙ h)

    inside : all_inside p values ≡ true
    inside = and_r (right_count p values) (all_inside p values) (sym roster_is ∙ h)

    judges : check_roster set values w ≡ judged p values
    unfolding rostered
    judges = check_is ∙ rw (counted, inside) refl

    -- within the domains
    stays : within set (int_of (declared_bools set) values) ≡ true
    unfolding within all_inside
    stays = rw read (and_r (all (λ v. is_bit (get_or values v (pos 0))) (below p.bools)) (in_domains p (int_of p.bools values)) inside)

    meets_is : meets set (bool_of values) (int_of (declared_bools set) values) ≡ satisfies p (bool_of values) (int_of p.bools values)
    unfolding meets
    meets_is = rw read refl

-- ---- the theorems

-- yes: exactly to the rosters that pass the answer
pub yes_passes : (a : Choices) (set values : List ℤ) (out_length work_length w : ℕ) → ltb w min_work_words ≡ false → NotRefused (call_with a set out_length work_length)
    → (check_roster set values w ≡ satisfied) ↔ ((is_roster set values ≡ true) × Passed set (call_with a set out_length work_length) (bool_of values) (int_of (declared_bools set) values))
yes_passes a set values o v w e n =
    unrefused a set o v n λ p r short read c. (
      λ y.
          let h = yes_roster set values w e p r short read c y in
          let s : satisfies p (bool_of values) (int_of p.bools values) ≡ true = satisfied_judged p values (sym (judges set values w e p r short read c h) ∙ y) in
          (h, (demand_3 a set o v n (bool_of values) (int_of (declared_bools set) values) (stays set values w e p r short read c h)).0 (meets_is set values w e p r short read c h ∙ s)),
      λ y.
          let h = y.0 in
          let s = (demand_3 a set o v n (bool_of values) (int_of (declared_bools set) values) (stays set values w e p r short read c h)).1 y.1 in
          judges set values w e p r short read c h ∙ judged_satisfied p values (sym (meets_is set values w e p r short read c h) ∙ s),
    )

-- a contradiction: every roster breaks a statement
pub contradiction_breaks : (a : Choices) (set values : List ℤ) (out_length work_length w : ℕ) → ltb w min_work_words ≡ false → call_with a set out_length work_length ≡ contradiction → is_roster set values ≡ true → Breaks (check_roster set values w)
unfolding Passed
contradiction_breaks a set values o v w e k h =
    let n : NotRefused (call_with a set o v) = λ m q. apart (let z = sym k ∙ q in cc) in
    unrefused a set o v n λ p r short read c.
    let f : satisfies p (bool_of values) (int_of p.bools values) ≡ true → ⊥ = λ s. rw k at ((demand_3 a set o v n (bool_of values) (int_of (declared_bools set) values) (stays set values w e p r short read c h)).0 (meets_is set values w e p r short read c h ∙ s)) in
    rw (judges set values w e p r short read c h) (judged_breaks p values (go (satisfies p (bool_of values) (int_of p.bools values)) refl f))
  where
    go : (b : Bool) {c : Bool} → c ≡ b → (c ≡ true → ⊥) → c ≡ false
    go true e f = absurd (f e)
    go false e f = e
