-- Request 2.8's claim: the rosters that pass the joined set's answer are those that pass both sets' answers. Assumes nothing.
use Rattle.std.specs.Prelude.{◌≡◌, refl, ◌↔◌, true, List, [], ℕ, ℤ, length}
use Rattle.std.proofs.Common.{sym, ap}
use Rattle.syntax.specs.Syntax.{Problem}
use Rattle.syntax.specs.Satisfies.{Val, IVal}
use Rattle.words.specs.Parse.{ok}
use Rattle.read.specs.Read.{read_set}
use Rattle.call.specs.Call.{call_with}
use Rattle.call.specs.declared.Choices.{Choices}
use Rattle.call.specs.Claim.{within, Passed, NotRefused, Called}
use Rattle.call.proofs.Demand.{demand_3_consequences}
use Rattle.join.specs.Join.{both, joined, join}
use Rattle.join.specs.Joined.{admitted_is, join_is}

-- a set that reads as q, and a call of it; q declares what p declares
abbrev called : (c : Choices) (p q : Problem) (set : List ℤ) (out_length work_length : ℕ) → read_set set ≡ ok q [] → q.bools ≡ p.bools → q.domains ≡ p.domains → NotRefused (call_with c set out_length work_length) → Called p q.stmts
called c p q set o w r b d n = record {
  choices = c;
  set = set;
  out_length = o;
  work_length = w;
  says = q;
  read = r;
  same = record { bools = b; ints = ap length d; values = λ v x l. rw d refl };
  states = refl;
  answered = n;
}

-- each of the three calls with slices and choices of its own
pub rosters_of_both : (first second : List ℤ) (buffer-length work_length : ℕ) (ws : List ℤ) → join first second buffer-length work_length ≡ joined ws
    → (c₁ c₂ c₃ : Choices) (o₁ w₁ o₂ w₂ o₃ w₃ : ℕ) → NotRefused (call_with c₁ first o₁ w₁) → NotRefused (call_with c₂ second o₂ w₂) → NotRefused (call_with c₃ ws o₃ w₃)
    → (δ : Val) (ε : IVal) → within first ε ≡ true
    → Passed ws (call_with c₃ ws o₃ w₃) δ ε ↔ (Passed first (call_with c₁ first o₁ w₁) δ ε × Passed second (call_with c₂ second o₂ w₂) δ ε)
unfolding within
rosters_of_both first second b k ws h c₁ c₂ c₃ o₁ w₁ o₂ w₂ o₃ w₃ n₁ n₂ n₃ δ ε i =
    let j = join_is first second b k ws h in
    let p = j.left in
    let q = j.right in
    let a = j.agrees in
    let s = (admitted_is k ws (both p q) [] j.accepted).says in
    let x = called c₁ p p first o₁ w₁ a.left.says refl refl n₁ in
    let y = called c₂ p q second o₂ w₂ a.right.says (ap (λ (z : Problem). z.bools) (sym a.same)) (ap (λ (z : Problem). z.domains) (sym a.same)) n₂ in
    let z = called c₃ p (both p q) ws o₃ w₃ s refl refl n₃ in
    demand_3_consequences.joined p p.stmts q.stmts x y z δ ε (rw a.left.says at i)
