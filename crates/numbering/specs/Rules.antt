-- A rule, or a pair of an AllDifferent: the numbers of its splitting, then its extras, then itself. Laws for a rule's code.
use Rattle.std.specs.Prelude.{◌≡◌, refl, List, ℕ, ◌-◌, ℤ}
use Rattle.std.proofs.Common.{subst, arith}
use Rattle.std.proofs.Math.Bool.{false}
use Rattle.walk.specs.Decode.{read_part}
use Rattle.walks.specs.Tree.{below, here}
use Rattle.walks.specs.Form.{Forms, nil, cons}
use Rattle.walks.specs.Decode.{decode, decode_int, ties_at}
use Rattle.walks.specs.DecodeExact.{rule_at, pair_at}
use Rattle.walks.specs.Meet.{State, more_bools, form_meet, form_meets}
use Rattle.numbering.specs.Task.{state_of, Task, then, Low, Kept, Done, Left, left_next, left_last_at, ready_next, ready_last, Starts, starts_later}
use Rattle.numbering.specs.Fits.{form_fits, forms_fit, forms_task}
use Rattle.numbering.specs.Steps.{form_at}
use Rattle.numbering.specs.Ties.{ties_of, left_append}
use Rattle.numbering.specs.declared.Progress.{Progress}

module _ (rec cap : ℕ) (ws : List ℤ) where
  -- forms behind the numbers of their splitting, by the splitting's first number
  abbrev pub split_task : (ℕ → Forms) → (ℕ → ℕ) → Task
  split_task f k = record {
    fits = λ ds st. forms_fit ds rec cap (f st.bools) (more_bools (k st.bools) st);
    meet = λ ds st. form_meets ds rec cap (f st.bools) (more_bools (k st.bools) st);
  }

  unfoldable pub rule_task : ℕ → Task
  rule_task p = split_task (rule_at ws 64 p) (λ n. (decode ws 64 below false p n).next - n)

  -- the sides at p and q
  unfoldable pub pair_task : ℕ → ℕ → Task
  pair_task p q = split_task (pair_at ws 64 p q) (λ n. (decode_int ws 64 here q (decode_int ws 64 here p n).next).next - n)

-- begun from the same counters
pub done_as : (t : Task) (w out : List ℤ) (c d : Progress) (st' : State) → d ≡ c → Done t (state_of w out d) st' → Done t (state_of w out c) st'
done_as t w out c d st' e = subst (λ (p : Progress). Done t (state_of w out p) st') e

module _ (rec cap : ℕ) (st : State) (at : ℕ) (s : Starts (rule_task rec cap (read_part st.work) at) st rec at 0) (k : ℕ) (hk : k ≡ (decode (read_part st.work) 64 below false at st.bools).next - st.bools) where
  abbrev own : List ℤ → Task
  own ws = form_at rec cap ws 64 below false at st.bools

  abbrev extras : List ℤ → Task
  extras ws = ties_of rec cap ws 64 below at st.bools

  abbrev behind : State
  behind = more_bools k st

  behind_kept : Kept st behind
  behind_kept = record { part = refl; behind = refl; size = refl; room = refl }

  behind_low : Low behind
  behind_low = record { bools = omega arith; ints = s.low.ints; used = s.low.used }

  begun : Left (rule_task rec cap (read_part st.work) at) st (forms_task rec cap (rule_at (read_part st.work) 64 at st.bools)) behind
  unfolding rule_task
  begun = record { fits = λ ds d f. rw hk f; state = λ ds d f. rw hk refl; kept = behind_kept; low = behind_low }

  parts : Left (rule_task rec cap (read_part st.work) at) st (then (extras (read_part st.work)) (own (read_part st.work))) behind
  unfolding form_meet form_fits
  parts =
      let x = left_append rec cap (ties_at (read_part st.work) 64 below at st.bools) (cons (decode (read_part st.work) 64 below false at st.bools).tree nil) begun in
      record { fits = λ ds d f. ((x.fits ds d f).0, (x.fits ds d f).1.0); state = λ ds d f. x.state ds d f; kept = x.kept; low = x.low }

  pub rule_first : Starts (extras (read_part st.work)) behind rec at st.bools
  rule_first = starts_later s behind_kept behind_low s.inside s.low.bools (ready_next extras (own (read_part st.work)) s.ready parts)

  module _ (st' : State) (x : Done (extras (read_part st.work)) behind st') where
    rest : Left (rule_task rec cap (read_part st.work) at) st (own (read_part st.work)) st'
    rest = left_next extras parts x

    pub rule_second : Starts (own (read_part st'.work)) st' rec at st.bools
    rule_second = starts_later s rest.kept rest.low s.inside s.low.bools (ready_last own s.ready rest)

    pub rule_done : (st'' : State) → Done (own (read_part st'.work)) st' st'' → Done (rule_task rec cap (read_part st.work) at) st st''
    rule_done st'' y = left_last_at own rest y
