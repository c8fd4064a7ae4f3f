-- The entry's cases: refused, over the buffer, joined. Assumes nothing.
use mathlib.Core.Path.{◌≡◌, refl, sym, ap, ◌∙◌}
use mathlib.Core.List.{List}
use Prim.Native.Nat.{ℕ, ◌≤◌, ◌<◌}
use native.Mathlib.Omega.{arith}
use lib.IntN.{ℤ, pos}
use lib.ListN.{length, length-replicate}
use lib.Seq.{sets}
use borrow.Author.Tests.{lt-ltb, le-ltb}
use Rattle.laws.specs.Slices.{zeros}
use Rattle.syntax.specs.Syntax.{Problem, encode}
use Rattle.join.specs.Join.{both, agreed, refusal, agreement, Joining, joined, refused, sized, join, buffer_after}
use Rattle.join.specs.Steps.{pair_of, AgreePost, ReadyWrite, WritePost}
use Rattle.join.specs.Contract.{answer_of, Joins}
use Rattle.join.specs.declared.Pair.{Pair}
use Rattle.std.specs.Prelude.{Result, Ok, Err}
use Rattle.join.specs.declared.Joined as declared-joined
use Rattle.join.specs.declared.Joined.TheVariants as joined_as
use Rattle.join.proofs.WordLaws.{sets_zeros}
use Rattle.join.proofs.AgreeLaws.{refused_is, agreed_is}

module _ (first second buffer work work₁ : List ℤ) (r : Result Pair ℕ) (h : AgreePost first second work work₁ r) where
  -- the definition's case, and both slices
  joins : (j : Joining) → join first second (length buffer) (length work) ≡ j → (buffer' work' : List ℤ) (x : declared-joined.Joined) → x ≡ answer_of j → buffer' ≡ buffer_after j (length buffer) → work' ≡ zeros (length work)
      → Joins first second buffer work buffer' work' x
  joins j e buffer' work' x a b z = record { answer = a ∙ sym (ap answer_of e); written = b ∙ sym (ap (λ (k : Joining). buffer_after k (length buffer)) e); zeroed = z }

  pub join_refused : (k : ℕ) (buffer' work' : List ℤ) → r ≡ Err k → buffer' ≡ zeros (length buffer) → work' ≡ zeros (length work) → Joins first second buffer work buffer' work' (joined_as.Refused k)
  unfolding join sized answer_of buffer_after
  join_refused k buffer' work' e b z =
      let a : agreement first second (length work) ≡ refusal k = refused_is (agreement first second (length work)) k (sym h.answer ∙ e) in
      joins (refused k) (rw a refl) buffer' work' (joined_as.Refused k) refl b z

  module _ (d : Pair) (e : r ≡ Ok d) (buffer₁ : List ℤ) (b : buffer₁ ≡ zeros (length buffer)) where
    abbrev found : {X : Type 0} → ((p q : Problem) → agreement first second (length work) ≡ agreed p q → d ≡ pair_of p q → X) → X
    found go = agreed_is (agreement first second (length work)) d (sym h.answer ∙ e) go

    room : length buffer₁ ≡ length buffer
    room = ap length b ∙ length-replicate (length buffer) (pos 0)

    pub join_over : (work' : List ℤ) → length buffer₁ < d.words → work' ≡ zeros (length work) → Joins first second buffer work buffer₁ work' (joined_as.Refused 17)
    unfolding join sized answer_of buffer_after
    join_over work' l z =
        found λ p q a g.
        let m : d.words ≡ length (encode (both p q)) = ap (λ (x : Pair). x.words) g in
        joins (refused 17) (rw (a, lt-ltb (length buffer) (length (encode (both p q))) (omega (arith, room, l, m))) refl) buffer₁ work' (joined_as.Refused 17) refl b z

    module _ (l : d.words ≤ length buffer₁) where
      pub join_ready : ReadyWrite first second d buffer₁
      join_ready = found λ p q a g. record { size = length work; left = p; right = q; agrees = a; pair_is = g; room = let m : d.words ≡ length (encode (both p q)) = ap (λ (x : Pair). x.words) g in omega (arith, l, m) }

      pub join_done : (buffer' work' : List ℤ) → WritePost first second buffer₁ buffer' → work' ≡ zeros (length work) → Joins first second buffer work buffer' work' (joined_as.Words d.words)
      unfolding join sized answer_of buffer_after
      join_done buffer' work' w z =
          found λ p q a g.
          let m : d.words ≡ length (encode (both p q)) = ap (λ (x : Pair). x.words) g in
          let k : length (encode (both p q)) ≤ length buffer = omega (arith, room, l, m) in
          joins (joined (encode (both p q))) (rw (a, le-ltb (length buffer) (length (encode (both p q))) k) refl) buffer' work' (joined_as.Words d.words) (ap joined_as.Words m)
          (w (length work) p q a ∙ ap (λ (x : List ℤ). sets x 0 (encode (both p q))) b ∙ sets_zeros (length buffer) (encode (both p q)) k) z
