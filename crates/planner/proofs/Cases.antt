-- The call by the cases of `settle`: what it answers, the definition's result is.
use mathlib.Core.Path.{◌≡◌, refl, sym, ap, ◌∙◌, subst}
use mathlib.Core.Bool.{Bool, true, false, cond}
use mathlib.Core.List.{List, []}
use Prim.Native.Nat.{ℕ, zero, suc, ◌+◌}
use lib.IntN.{ℤ, pos}
use lib.Dec.{ltb}
use lib.ListN.{length, length-replicate}
use Rattle.laws.specs.Slices.{zeros}
use Rattle.syntax.specs.Words.{max_set_words, min_work_words}
use Rattle.syntax.specs.Syntax.{Stmt, Problem, encode}
use Rattle.words.specs.Parse.{Parsed, ok, refuse}
use Rattle.read.specs.Read.{read_set}
use Rattle.read.proofs.Exact.{set_sound}
use Rattle.limits.specs.Limits.{check}
use Rattle.fold.specs.Fold.{Fixed}
use Rattle.fold.specs.Optimize.{Outcome, inconsistent, settled, optimize}
use Rattle.answer.specs.Answer.{layout, normalize}
use Rattle.call.specs.Call.{contradiction, refused, measured, answered, checked, when_read, call_with, output_after}
use Rattle.call.specs.declared.Choices.{Choices}
use Rattle.statements.specs.Stages.{stmts_words}
use Rattle.settle.specs.declared.Places.{Places}
use Rattle.settle.specs.declared.Settling.{Settling}
use Rattle.settle.specs.declared.Settling.TheVariants.{Refused, Contradiction, Folded}
use Rattle.settle.specs.Settle.{settling_of, settling_checked, settling_read, settling, Holds, Left, SettlePost}
use Rattle.planner.specs.declared.Answer.{Answer}
use Rattle.planner.specs.declared.Answer.TheVariants as answer
use Rattle.planner.specs.Contract.{answer_of}
use Rattle.planner.specs.Steps.{Gives, Emits, SomeEmits, EmitPost}
use Rattle.planner.proofs.Measured.{gives_to}

-- a set that settles, and what its call gives
pub record SettledCall (c : Choices) (n : ℕ) (ws : List ℤ) (q : Places) : Type 0 where
  pub it : Problem
  pub fixed : Fixed
  pub stmts : List Stmt
  pub words : ws ≡ encode it
  pub says : read_set ws ≡ ok it []
  pub ends : optimize it ≡ settled fixed stmts
  pub end : q.end ≡ 512 + length (stmts_words stmts)
  pub bools : q.bools ≡ it.bools
  pub ints : q.ints ≡ length it.domains
  pub result : (o : ℕ) → call_with c ws o n ≡ measured o (layout (normalize c.merge it fixed stmts))

abbrev Case : Choices → ℕ → List ℤ → Settling → Type 0
Case c n ws (Refused k) = (o : ℕ) → call_with c ws o n ≡ refused k
Case c n ws Contradiction = (o : ℕ) → call_with c ws o n ≡ contradiction
Case c n ws (Folded q) = SettledCall c n ws q

module _ (c : Choices) (n : ℕ) (ws : List ℤ) (enough : ltb n min_work_words ≡ false) (short : ltb max_set_words (length ws) ≡ false) (p : Problem) (r : List ℤ) (says : read_set ws ≡ ok p r) where
  outcome_case : check p ≡ 0 → (x : Outcome) → optimize p ≡ x → Case c n ws (settling_of p x)
  unfolding settling_of call_with when_read checked answered
  outcome_case k inconsistent e = λ o. rw (enough, short, says, k, e) refl
  outcome_case k (settled f ss) e =
      let s = set_sound ws p r says in
      record {
        it = p;
        fixed = f;
        stmts = ss;
        words = s.0;
        says = says ∙ ap (ok p) (sym s.2);
        ends = e;
        end = refl;
        bools = refl;
        ints = refl;
        result = λ o. rw (enough, short, says, k, e) refl;
      }

  checked_case : (m : ℕ) → check p ≡ m → Case c n ws (settling_checked p m)
  unfolding settling_checked call_with when_read checked
  checked_case zero e = outcome_case e (optimize p) refl
  checked_case (suc k) e = λ o. rw (enough, short, says, e) refl

read_case : (c : Choices) (n : ℕ) (ws : List ℤ) → ltb n min_work_words ≡ false → ltb max_set_words (length ws) ≡ false → (q : Parsed Problem) → read_set ws ≡ q → Case c n ws (settling_read q)
unfolding settling_read call_with when_read
read_case c n ws a b (refuse k) e = λ o. rw (a, b, e) refl
read_case c n ws a b (ok p r) e = checked_case c n ws a b p r e (check p) refl

settling_case : (c : Choices) (n : ℕ) (ws : List ℤ) → Case c n ws (settling n ws)
unfolding settling call_with
settling_case c n ws = go (ltb n min_work_words) refl (ltb max_set_words (length ws)) refl
  where
    go : (s : Bool) → ltb n min_work_words ≡ s → (t : Bool) → ltb max_set_words (length ws) ≡ t → Case c n ws (cond s (Refused 1) (cond t (Refused 2) (settling_read (read_set ws))))
    go true a t b = λ o. rw a refl
    go false a true b = λ o. rw (a, b) refl
    go false a false b = read_case c n ws a b (read_set ws) refl

-- ---- of what `settle` answered, over an output that was cleared

module _ (c : Choices) (set work work' : List ℤ) (r : Settling) (s : SettlePost set work work' r) (out cleared : List ℤ) (zeroed : cleared ≡ zeros (length out)) where
  case : Case c (length work) set r
  case = subst (Case c (length work) set) (sym s.answer) (settling_case c (length work) set)

  pub gives_refused : (k : ℕ) → r ≡ Refused k → Gives (call_with c set (length out) (length work)) (length out) cleared (answer.Refused k)
  unfolding answer_of output_after
  gives_refused k e = gives_to (subst (Case c (length work) set) e case (length out)) (record { answer = refl; output = zeroed })

  pub gives_contradiction : r ≡ Contradiction → Gives (call_with c set (length out) (length work)) (length out) cleared answer.Contradiction
  unfolding answer_of output_after
  gives_contradiction e = gives_to (subst (Case c (length work) set) e case (length out)) (record { answer = refl; output = zeroed })

  pub left_zeros : ((k : ℕ) → r ≡ Refused k → work' ≡ zeros (length work)) × (r ≡ Contradiction → work' ≡ zeros (length work))
  left_zeros = (
    λ k e. subst (λ (x : Settling). Left x set work work') e s.left,
    λ e. subst (λ (x : Settling). Left x set work work') e s.left,
  )

  module _ (q : Places) (e : r ≡ Folded q) where
    settled_call : SettledCall c (length work) set q
    settled_call = subst (Case c (length work) set) e case

    emits : Emits settled_call.it settled_call.fixed settled_call.stmts set work' q.bools q.ints q.end cleared
    emits =
        let h : Holds set work work' = subst (λ (x : Settling). Left x set work work') e s.left in
        let t = settled_call in
        let k = h.folded t.it t.fixed t.stmts t.says t.ends in
        record {
          held = record {
            words = t.words;
            ints = t.ints;
            settles = record { set = k.set; values = k.values; stands = k.stands; ends = t.end; size = k.empty.size };
          };
          bools = t.bools;
          zeroed = zeroed ∙ ap zeros (sym (ap length zeroed ∙ length-replicate (length out) (pos 0)));
        }

    pub some_emits : SomeEmits set work' q.bools q.ints q.end cleared
    some_emits = record { it = settled_call.it; fixed = settled_call.fixed; stmts = settled_call.stmts; emits = emits }

    pub gives_emitted : (out' : List ℤ) (a : Answer) → EmitPost c.merge set work' q.bools q.ints q.end cleared out' a → Gives (call_with c set (length out) (length work)) (length out) out' a
    gives_emitted out' a h =
        let l : length cleared ≡ length out = ap length zeroed ∙ length-replicate (length out) (pos 0) in
        gives_to (settled_call.result (length out)) (subst (λ (n : ℕ). Gives (measured n (layout (normalize c.merge settled_call.it settled_call.fixed settled_call.stmts))) n out' a) l (h settled_call.it settled_call.fixed settled_call.stmts emits))
