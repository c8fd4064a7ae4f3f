-- The clauses of the values: a comparison for each variable, a clause for each value. Assumes nothing.
use mathlib.Core.Path.{◌≡◌, refl, sym, ap, ◌∙◌, subst}
use mathlib.Core.List.{List, [], ◌∷◌, map}
use Prim.Native.Nat.{ℕ, ◌+◌, ◌-◌, ◌≤◌, ◌<◌}
use native.Mathlib.Omega.{arith}
use native.Mathlib.Numerals.{add-one}
use lib.IntN.{ℤ, pos, negsuc, *ℤ_comm, +ℤ_idl}
use lib.ListN.{length, drop, drop_of_length-le, length-map}
use lib.Seq.{drop-cons}
use Rattle.laws.specs.Ints.{*ℤ_minus_one}
use Rattle.laws.specs.Writes.{cap, Wrote, wrote_none, wrote_length, wrote_low, wrote_then, wrote_to, Open}
use Rattle.syntax.specs.Words.{max_ints}
use Rattle.memory.specs.Places.{folded_end}
use Rattle.syntax.specs.Syntax.{Domain, enumerate, IntExpr, IVar, encode_int}
use Rattle.sums.specs.LinearSum.{add_terms, add_sum, mul_terms, mul_sum, sub_sum}
use Rattle.sums.specs.Linear.{linear_of}
use Rattle.answer.specs.Answer.{linear_words}
use Rattle.walk.specs.Item.{int_number}
use Rattle.walk.specs.Decode.{word, read_part}
use Rattle.rows.specs.Emit.{comparison, linears_words, Clauses, Behind}
use Rattle.rows.proofs.Looping.{clauses_none, clauses_one, clauses_then, clauses_to, clauses_stop}
use Rattle.statements.specs.Different.{value_literal, value_clause}
use Rattle.differing.specs.Standing.{At, Standing}
use Rattle.differing.proofs.Places.{first_at, rest_stands, same_exprs, place_inside, code_is, variable_inv}
use Rattle.differing.specs.Values.{Sized, ValueOf, Variables, PutLiterals, PutValue, PutEach}
use Rattle.differing.proofs.Candidates.{candidates_length}

-- ---- one comparison

literal_words : (w : List ℤ) (x : ℤ) (v : ℕ) → linear_words (value_literal w x (IVar v)) ≡ comparison (pos 0) (int_number w v) x
unfolding value_literal linear_of sub_sum add_sum mul_sum add_terms mul_terms
literal_words w x v = ap (λ (z : ℤ). pos 0 ∷ z ∷ pos 1 ∷ pos (int_number w v) ∷ pos 1 ∷ []) (+ℤ_idl _ ∙ *ℤ_comm x (negsuc 0) ∙ *ℤ_minus_one x)

index_is : (w : List ℤ) (p v : ℕ) → At w p (IVar v) → (word (read_part w) (p + 1) ≡ v) × (v < max_ints)
index_is w p v a = variable_inv w p (IVar v) a (code_is w p (IVar v) a) λ u i h j.
    let e : u ≡ v = cc in
    (j ∙ e, omega arith)

-- ---- one after the other: whatever writes the comparisons left writes all

pub record Writing (w : List ℤ) (at count : ℕ) (x : ℤ) (out₀ : List ℤ) (o : ℕ) (out : List ℤ) (p q rest : ℕ) : Type 0 where
  pub whole : Variables w at count
  pub left : Variables w p rest
  pub room : Open out q
  pub same : length out ≡ length out₀
  pub to : (out' : List ℤ) (q' : ℕ) → Wrote out q (linears_words (map (value_literal w x) (map IVar left.vars))) out' q' → Wrote out₀ o (linears_words (map (value_literal w x) (map IVar whole.vars))) out' q'

module _ (w : List ℤ) (at count : ℕ) (x : ℤ) (out₀ : List ℤ) (o : ℕ) where
  pub writing_start : Variables w at count → Open out₀ o → Writing w at count x out₀ o out₀ at o count
  writing_start v r = record { whole = v; left = v; room = r; same = refl; to = λ out' q' u. u }

  module _ {out : List ℤ} {p q rest : ℕ} (g : Writing w at count x out₀ o out p q rest) where
    module _ (z : rest ≡ 0 → ⊥) where
      pub writing_inside : p + 2 ≤ folded_end
      writing_inside = go g.left.vars g.left.standing
        where
          go : (vs : List ℕ) → Standing w p rest (map IVar vs) → p + 2 ≤ folded_end
          go [] s = absurd (z s.counted)
          go (v ∷ vs) s = place_inside w p (first_at w p rest (IVar v) (map IVar vs) s)

      module _ {u : ℕ} (index : u ≡ word (read_part w) (p + 1)) where
        pub writing_index : u < max_ints
        writing_index = go g.left.vars g.left.standing
          where
            go : (vs : List ℕ) → Standing w p rest (map IVar vs) → u < max_ints
            go [] s = absurd (z s.counted)
            go (v ∷ vs) s = omega (arith, index, (index_is w p v (first_at w p rest (IVar v) (map IVar vs) s)).0, (index_is w p v (first_at w p rest (IVar v) (map IVar vs) s)).1)

        module _ {n : ℕ} (number : n ≡ int_number w u) {y : ℤ} (same_value : y ≡ x) {out' : List ℤ} {q' : ℕ} (wrote : Wrote out q (comparison (pos 0) n y) out' q') where
          next_of : (vs : List ℕ) → g.left.vars ≡ vs → Writing w at count x out₀ o out' (p + 2) q' (rest - 1)
          unfolding encode_int
          next_of [] e = absurd (z (g.left.standing.counted ∙ ap (λ (l : List ℕ). length (map IVar l)) e))
          next_of (v ∷ vs) e =
              let s : Standing w p rest (map IVar (v ∷ vs)) = subst (λ (l : List ℕ). Standing w p rest (map IVar l)) e g.left.standing in
              let i : u ≡ v = index ∙ (index_is w p v (first_at w p rest (IVar v) (map IVar vs) s)).0 in
              let m : n ≡ int_number w v = number ∙ ap (int_number w) i in
              let c : comparison (pos 0) n y ≡ linear_words (value_literal w x (IVar v)) = rw (m, same_value) (sym (literal_words w x v)) in
              record {
                whole = g.whole;
                left = record { vars = vs; standing = rest_stands w p rest (IVar v) (map IVar vs) s; few = omega (arith, g.left.few) };
                room = record { low = wrote_low wrote; room = omega (arith, wrote_length wrote, g.room.room) };
                same = wrote_length wrote ∙ g.same;
                to = λ out'' q'' t. g.to out'' q'' (wrote_to (ap (λ (l : List ℕ). linears_words (map (value_literal w x) (map IVar l))) (sym e)) (wrote_then g.room.room (wrote_to c wrote) t));
              }

          pub writing_next : Writing w at count x out₀ o out' (p + 2) q' (rest - 1)
          writing_next = next_of g.left.vars refl

    none_left : (vs : List ℕ) → rest ≡ length (map IVar vs) → rest ≡ 0 → linears_words (map (value_literal w x) (map IVar vs)) ≡ []
    none_left [] s z = refl
    none_left (v ∷ vs) s z = absurd (omega (arith, s, z))

    pub writing_end : rest ≡ 0 → {y : ℤ} → x ≡ y → PutLiterals w at count y out₀ o out q
    writing_end z h = record {
      wrote = λ es s.
          let e = same_exprs w at count (map IVar g.whole.vars) es g.whole.standing s in
          let t = g.to out q (wrote_to (sym (none_left g.left.vars g.left.standing.counted z)) (wrote_none out q g.room.low)) in
          wrote_to (ap (λ (l : List IntExpr). linears_words (map (value_literal w x) l)) e ∙ ap (λ (y : ℤ). linears_words (map (value_literal w y) es)) h) t;
    }

-- ---- the clause of a value

pub value_wrote : {w out a b out' : List ℤ} {at count o p q o' : ℕ} {x : ℤ} → length out ≤ cap → Wrote out o (pos 0 ∷ []) a p → Wrote a p (pos count ∷ []) b q → {y : ℤ} → PutLiterals w at count y b q out' o' → y ≡ x → PutValue w at count x out o out' o'
unfolding value_clause
value_wrote {w} {out} {out' = out'} {count = count} {o = o} {o' = o'} {x = x} l u v t e = record {
  wrote = λ es s.
      let n : count ≡ length (map (value_literal w x) es) = s.counted ∙ sym (length-map es (value_literal w x)) in
      let h = wrote_to (ap (λ (y : ℤ). linears_words (map (value_literal w y) es)) e) (t.wrote es s) in
      let r = wrote_then l u (wrote_then (omega (arith, wrote_length u)) v h) in
      subst (λ (k : ℕ). Wrote out o (pos 0 ∷ pos k ∷ linears_words (map (value_literal w x) es)) out' o') n r;
}

-- ---- the clauses of the values

pub record Valuing (set w : List ℤ) (at count d : ℕ) (out₀ : List ℤ) (o k : ℕ) (out : List ℤ) (i q c : ℕ) : Type 0 where
  pub few : i ≤ count
  pub behind : Behind out q c
  pub same : length out ≡ length out₀
  pub to : (es : List IntExpr) (dm : Domain) → Standing w at count es → Sized set d count dm → (out' : List ℤ) (q' c' : ℕ) → Clauses out q c (map (value_clause w es) (drop i (enumerate dm))) out' q' c' → Clauses out₀ o k (map (value_clause w es) (enumerate dm)) out' q' c'

module _ (set w : List ℤ) (at count d : ℕ) (out₀ : List ℤ) (o k : ℕ) where
  pub valuing_start : Behind out₀ o k → Valuing set w at count d out₀ o k out₀ 0 o k
  valuing_start v = record { few = omega arith; behind = v; same = refl; to = λ es dm s t out' q' c' u. u }

  module _ {out : List ℤ} {i q c : ℕ} (g : Valuing set w at count d out₀ o k out i q c) where
    pub valuing_next : {x y : ℤ} {out' : List ℤ} {q' : ℕ} → Variables w at count → i < count → (q ≡ cap → ⊥) → ValueOf set d i x → y ≡ x → PutValue w at count y out q out' q' → Valuing set w at count d out₀ o k out' (i + 1) q' (c + 1)
    unfolding value_clause
    valuing_next {x} {y} {out'} {q'} vs l n hx e p =
        let u = p.wrote (map IVar vs.vars) vs.standing in
        record {
          few = omega arith;
          behind = record { room = record { low = omega (arith, u.at); room = omega (arith, wrote_length u, g.behind.room.room) }; low = omega (arith, g.behind.low, g.behind.room.low, u.at) };
          same = wrote_length u ∙ g.same;
          to = λ es dm s t out'' q'' c'' r.
              let h : drop i (enumerate dm) ≡ y ∷ drop (i + 1) (enumerate dm) = rw (e, hx.is count dm t l, add-one i) (drop-cons (enumerate dm) i (pos 0) (omega (arith, candidates_length t))) in
              let j = p.wrote es s in
              let m : q < q' = omega (arith, j.at, g.behind.room.low) in
              g.to es dm s t out'' q'' c'' (clauses_to (ap (map (value_clause w es)) (sym h)) (clauses_then g.behind.room.room (clauses_one (value_clause w es y) g.behind.low m j) r));
        }

    pub valuing_end : count ≤ i → PutEach set w at count d out₀ o k out q c
    valuing_end l = record {
      clauses = λ es dm s t.
          let h : length (enumerate dm) ≤ i = omega (arith, candidates_length t) in
          g.to es dm s t out q c (clauses_to (ap (map (value_clause w es)) (sym (drop_of_length-le (enumerate dm) h))) (clauses_none g.behind));
      behind = g.behind;
    }

    pub valuing_stop : q ≡ cap → PutEach set w at count d out₀ o k out q c
    valuing_stop e = record {
      clauses = λ es dm s t. g.to es dm s t out q c (clauses_stop g.behind e _);
      behind = g.behind;
    }
