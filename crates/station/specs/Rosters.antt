-- The contract of `check_roster`: the number returned and every word of the work slice are the definition's, for all words and lengths;
-- and what 0 says of the answer of a compile (passing/Passing). The numbers tell the verdicts apart. Assumes nothing.
use Rattle.std.specs.Prelude.{◌≡◌, refl, ◌↔◌, Bool, true, false, not, cond, List, [], ◌∷◌, map, ℕ, zero, suc, ◌+◌, ◌≤◌, ◌<◌, ℤ, pos, neg_ℤ, ltb, length}
use Rattle.std.proofs.Common.{arith}
use Rattle.std.proofs.lemmas.List.{length-map}
use Rattle.laws.specs.Ints.{apart}
use Rattle.laws.specs.Slices.{zeros}
use Rattle.syntax.specs.Words.{min_work_words, max_set_words}
use Rattle.syntax.specs.Syntax.{Problem}
use Rattle.words.specs.Parse.{Parsed, ok, refuse, parse_then}
use Rattle.read.specs.Read.{read_set}
use Rattle.read.specs.WellFormed.{WellFormed}
use Rattle.read.proofs.Exact.{set_sound}
use Rattle.limits.specs.Limits.{check}
use Rattle.limits.specs.Admitted.{admitted, limited}
use Rattle.call.specs.Call.{call_with}
use Rattle.call.specs.declared.Choices.{Choices}
use Rattle.call.specs.Claim.{Passed, NotRefused}
use Rattle.verdict.specs.Roster.{bool_of, int_of, Verdict, satisfied, broken, refused, right_count, all_inside, first_false, truth, judged, rostered, when_admitted, check_roster}
use Rattle.passing.specs.Passing.{declared_bools, is_roster}
use Rattle.station.specs.Small.{Low, set_low, Checked, check_small}

-- 0 for yes, the first broken statement's number, or the refusal's number negated
unfoldable pub verdict_number : Verdict → ℤ
verdict_number satisfied = pos 0
verdict_number (broken k) = pos k
verdict_number (refused k) = neg_ℤ (pos k)

pub record Judges (set values work work' : List ℤ) (r : ℤ) : Type 0 where
  pub number : r ≡ verdict_number (check_roster set values (length work))
  pub zeroed : work' ≡ zeros (length work)
  -- 0: exactly for the rosters that pass the answer of a compile that is not refused
  pub passes : (c : Choices) (out_length work_length : ℕ) → ltb (length work) min_work_words ≡ false → NotRefused (call_with c set out_length work_length)
      → (r ≡ pos 0) ↔ ((is_roster set values ≡ true) × Passed set (call_with c set out_length work_length) (bool_of values) (int_of (declared_bools set) values))

-- ---- statements are numbered from 1, at most 4096 of them; refusals from 1 to 15

abbrev pub Numbered : Verdict → Type 0
Numbered satisfied = Unit {0}
Numbered (broken zero) = ⊥
Numbered (broken (suc k)) = k < 4096
Numbered (refused zero) = ⊥
Numbered (refused (suc k)) = k < 15

first_numbered : (k : ℕ) (bs : List Bool) → k + length bs ≤ 4096 → Numbered (first_false (suc k) bs)
unfolding first_false
first_numbered k [] h = tt
first_numbered k (true ∷ bs) h = first_numbered (suc k) bs (omega (arith, h))
first_numbered k (false ∷ bs) h = omega (arith, h)

cond_numbered : (t : Bool) (x y : Verdict) → Numbered x → Numbered y → Numbered (cond t x y)
cond_numbered true x y h k = h
cond_numbered false x y h k = k

rostered_numbered : (p : Problem) (values : List ℤ) → WellFormed p → Numbered (rostered p values)
unfolding rostered judged
rostered_numbered p values w =
    cond_numbered (not (right_count p values)) (refused 14) _ (omega arith)
    (cond_numbered (not (all_inside p values)) (refused 15) _ (omega arith)
    (first_numbered 0 (map (truth p.bools values) p.stmts) (omega (arith, w.few_stmts, length-map p.stmts (truth p.bools values)))))

-- a refusal of an admission is 1 to 11, as those of reading
pub check_numbered : (set values : List ℤ) (n : ℕ) → Numbered (check_roster set values n)
unfolding check_roster when_admitted admitted limited
check_numbered set values n = go (ltb n min_work_words) (ltb max_set_words (length set)) (read_set set) refl (set_low set)
  where
    last : (p : Problem) (r : List ℤ) → read_set set ≡ ok p r → (k : ℕ) → Checked k → Numbered (when_admitted (limited k p r) values)
    last p r e zero h = rostered_numbered p values (set_sound set p r e).1
    last p r e (suc k) h = omega (arith, h)

    go : (s t : Bool) (q : Parsed Problem) → read_set set ≡ q → Low q → Numbered (when_admitted (cond s (refuse 1) (cond t (refuse 2) (parse_then q (λ p. limited (check p) p)))) values)
    go true t q e l = omega arith
    go false true q e l = omega arith
    go false false (refuse zero) e l = l
    go false false (refuse (suc k)) e l = omega (arith, l)
    go false false (ok p r) e l = last p r e (check p) (check_small p)

-- 0 is yes alone
pub zero_satisfied : (v : Verdict) → Numbered v → verdict_number v ≡ pos 0 → v ≡ satisfied
unfolding verdict_number
zero_satisfied satisfied h e = refl
zero_satisfied (broken zero) h e = absurd h
zero_satisfied (broken (suc k)) h e = apart (let z : suc k ≡ 0 = cc in absurd (omega arith))
zero_satisfied (refused zero) h e = absurd h
zero_satisfied (refused (suc k)) h e = apart (cc)
