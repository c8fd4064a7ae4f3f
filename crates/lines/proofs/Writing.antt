-- A law for each answer of the functions that print domains, comparisons and clauses, over variables. Assumes nothing.
use mathlib.Core.Path.{◌≡◌, refl, sym, ap, ◌∙◌, subst}
use mathlib.Core.List.{List, [], ◌∷◌, ◌++◌}
use Prim.Native.Nat.{ℕ, zero, suc, ◌+◌, ◌-◌, ◌≤◌, ◌<◌}
use native.Mathlib.Omega.{arith}
use lib.IntN.{ℤ, pos}
use lib.ListN.{length, take, drop, get_or, length-take, length-drop, drop_of_length-le}
use Rattle.decimal.specs.Bytes.{semicolon, colon, line_feed, domain_key, clause_key}
use Rattle.decimal.specs.Puts.{puts, Puts, puts_left, puts_then, puts_as}
use Rattle.lines.specs.Lines.{Shown, count_word, times, print_domain, print_comparison, literals, after_literals, print_comparisons, print_clause, summed, comparisons_in, members}
use Rattle.lines.specs.Output.{Printed, Stops, part_of, line_of, cons_word}

-- ---- n pieces of one kind: `left` of them are still to come

module _ (f : List ℤ → Shown) (ws : List ℤ) (i m next : ℕ) (q : drop next ws ≡ (f (drop i ws)).rest) (l : i < length ws) where
  times_text : (times f (suc m) (drop i ws)).text ≡ (f (drop i ws)).text ++ (times f m (drop next ws)).text
  unfolding times
  times_text = rw q (go (drop i ws) (cons_word ws i l))
    where
      go : (xs : List ℤ) → xs ≡ get_or ws i (pos 0) ∷ drop (i + 1) ws → (times f (suc m) xs).text ≡ (f xs).text ++ (times f m (f xs).rest).text
      go [] e = absurd (let z : ◌≡◌ {A = ℕ} 0 1 = cc in omega arith)
      go (x ∷ xs) e = refl

  times_rest : (times f (suc m) (drop i ws)).rest ≡ (times f m (drop next ws)).rest
  unfolding times
  times_rest = rw q (go (drop i ws) (cons_word ws i l))
    where
      go : (xs : List ℤ) → xs ≡ get_or ws i (pos 0) ∷ drop (i + 1) ws → (times f (suc m) xs).rest ≡ (times f m (f xs).rest).rest
      go [] e = absurd (let z : ◌≡◌ {A = ℕ} 0 1 = cc in omega arith)
      go (x ∷ xs) e = refl

pub record Showing (f : List ℤ → Shown) (n : ℕ) (ws : List ℤ) (from : ℕ) (out₀ : List ℕ) (at : ℕ) (out : List ℕ) (o i left : ℕ) : Type 0 where
  pub low : from ≤ i
  pub high : i ≤ length ws
  pub size : length out ≡ length out₀
  pub text : puts out o (times f left (drop i ws)).text ≡ puts out₀ at (times f n (drop from ws)).text
  pub rest : (times f left (drop i ws)).rest ≡ (times f n (drop from ws)).rest

module _ (f : List ℤ → Shown) (n : ℕ) (ws : List ℤ) (from : ℕ) (out₀ : List ℕ) (at : ℕ) where
  pub showing_start : from ≤ length ws → Showing f n ws from out₀ at out₀ at from n
  showing_start h = record { low = omega arith; high = h; size = refl; text = refl; rest = refl }

  module _ (out : List ℕ) (o i left : ℕ) (s : Showing f n ws from out₀ at out o i left) where
    pub showing_done : left ≤ 0 → Printed (times f n (drop from ws)) ws from out₀ at out o i
    unfolding times puts
    showing_done h =
        let z : left ≡ 0 = omega arith in
        let t : puts out o (times f 0 (drop i ws)).text ≡ puts out₀ at (times f n (drop from ws)).text = subst (λ (k : ℕ). puts out o (times f k (drop i ws)).text ≡ puts out₀ at (times f n (drop from ws)).text) z s.text in
        let u : (times f 0 (drop i ws)).rest ≡ (times f n (drop from ws)).rest = subst (λ (k : ℕ). (times f k (drop i ws)).rest ≡ (times f n (drop from ws)).rest) z s.rest in
        record { text = record { size = s.size; bytes = sym t }; rest = u; low = s.low; high = s.high }

    none_left : (m : ℕ) → ((times f m []).text ≡ []) × ((times f m []).rest ≡ [])
    unfolding times
    none_left zero = (refl, refl)
    none_left (suc m) = (refl, refl)

    pub showing_out : i ≡ length ws → Printed (times f n (drop from ws)) ws from out₀ at out o i
    unfolding puts
    showing_out h =
        let z : drop i ws ≡ [] = drop_of_length-le ws (let l : length ws ≤ i = omega arith in l) in
        let t : puts out o (times f left []).text ≡ puts out₀ at (times f n (drop from ws)).text = rw (← z) s.text in
        let u : (times f left []).rest ≡ (times f n (drop from ws)).rest = rw (← z) s.rest in
        record { text = record { size = s.size; bytes = sym t ∙ rw (none_left left).0 refl }; rest = z ∙ sym (none_left left).1 ∙ u; low = s.low; high = s.high }

    pub showing_next : (out' : List ℕ) (r next : ℕ) → 0 < left → i < length ws → Printed (f (drop i ws)) ws i out o out' r next → Showing f n ws from out₀ at out' r next (left - 1)
    showing_next out' r next h l p =
        let z : left ≡ suc (left - 1) = omega arith in
        let e : times f left (drop i ws) ≡ times f (suc (left - 1)) (drop i ws) = ap (λ k. times f k (drop i ws)) z in
        let t : (times f (suc (left - 1)) (drop i ws)).text ≡ (f (drop i ws)).text ++ (times f (left - 1) (drop next ws)).text = times_text f ws i (left - 1) next p.rest l in
        let u : (times f (suc (left - 1)) (drop i ws)).rest ≡ (times f (left - 1) (drop next ws)).rest = times_rest f ws i (left - 1) next p.rest l in
        record {
          low = let a = s.low in let b = p.low in omega arith;
          high = p.high;
          size = p.text.size ∙ s.size;
          text = sym (puts_left (times f (left - 1) (drop next ws)).text p.text) ∙ ap (puts out o) (sym (ap (λ (x : Shown). x.text) e ∙ t)) ∙ s.text;
          rest = sym (ap (λ (x : Shown). x.rest) e ∙ u) ∙ s.rest;
        }

-- ---- a comparison, a clause

pub comparison_shown : (ws : List ℤ) (from : ℕ) (out : List ℕ) (at : ℕ) (o₁ : List ℕ) (i₁ : ℕ) (o₂ : List ℕ) (i₂ a : ℕ) (o₃ : List ℕ) (i₃ : ℕ) (o₄ : List ℕ) (i₄ b : ℕ) (o₅ : List ℕ) (i₅ n c : ℕ) (out' : List ℕ) (r d : ℕ)
    → Puts out at (semicolon ∷ []) o₁ i₁ → Printed (part_of 1 (drop from ws)) ws from o₁ i₁ o₂ i₂ a
    → Puts o₂ i₂ (colon ∷ []) o₃ i₃ → Printed (part_of 1 (drop a ws)) ws a o₃ i₃ o₄ i₄ b
    → Puts o₄ i₄ (colon ∷ []) o₅ i₅ → n ≡ count_word (drop b ws) → Stops ws b 1 c
    → Printed (part_of (n + n) (drop c ws)) ws c o₅ i₅ out' r d
    → Printed (print_comparison (drop from ws)) ws from out at out' r d
unfolding part_of print_comparison
comparison_shown ws from out at o₁ i₁ o₂ i₂ a o₃ i₃ o₄ i₄ b o₅ i₅ n c out' r d x p y q z m s u =
    let e : drop a ws ≡ drop 1 (drop from ws) = p.rest in
    let f : drop b ws ≡ drop 1 (drop 1 (drop from ws)) = q.rest ∙ ap (drop 1) e in
    let g : drop c ws ≡ drop 1 (drop 1 (drop 1 (drop from ws))) = s.rest ∙ ap (drop 1) f in
    let k : n ≡ count_word (drop 1 (drop 1 (drop from ws))) = m ∙ ap count_word f in
    record {
      text = puts_as _ (rw (e, g, k) refl) (puts_then x (puts_then p.text (puts_then y (puts_then q.text (puts_then z u.text)))));
      rest = u.rest ∙ rw (g, k) refl;
      low = let h = p.low in let i = q.low in let j = s.low in let l = u.low in omega arith;
      high = u.high;
    }

pub comparisons_shown : (ws : List ℤ) (from n a : ℕ) (out : List ℕ) (at : ℕ) (out' : List ℕ) (r next : ℕ) → n ≡ count_word (drop from ws) → Stops ws from 1 a → Printed (times print_comparison n (drop a ws)) ws a out at out' r next
    → Printed (print_comparisons (drop from ws)) ws from out at out' r next
unfolding print_comparisons
comparisons_shown ws from n a out at out' r next m s p =
    let e : times print_comparison n (drop a ws) ≡ times print_comparison (count_word (drop from ws)) (drop 1 (drop from ws)) = rw (m, s.rest) refl in
    record {
      text = puts_as _ (ap (λ (x : Shown). x.text) e) p.text;
      rest = p.rest ∙ ap (λ (x : Shown). x.rest) e;
      low = let h = s.low in let l = p.low in omega arith;
      high = p.high;
    }

-- as many as were printed; each takes a word
pub counted_shown : (ws : List ℤ) (from n a i sum : ℕ) → n ≡ count_word (drop from ws) → Stops ws from 1 a → sum ≡ comparisons_in n (drop a ws) → sum + a ≤ i
    → (sum ≡ comparisons_in (count_word (drop from ws)) (drop 1 (drop from ws))) × (from + sum ≤ i)
counted_shown ws from n a i sum m s e l =
    let z : comparisons_in n (drop a ws) ≡ comparisons_in (count_word (drop from ws)) (drop 1 (drop from ws)) = rw (m, s.rest) refl in
    let h = s.low in
    (e ∙ z, omega arith)

-- a comparison takes a word
pub comparison_less : (ws : List ℤ) (i next : ℕ) → i < length ws → next ≤ length ws → drop next ws ≡ (print_comparison (drop i ws)).rest → i < next
unfolding print_comparison
comparison_less ws i next l h q =
    let n = count_word (drop 1 (drop 1 (drop i ws))) + count_word (drop 1 (drop 1 (drop i ws))) in
    omega (arith, ap length q, length-drop next ws, length-drop n (drop 1 (drop 1 (drop 1 (drop i ws)))), length-drop 1 (drop 1 (drop 1 (drop i ws))), length-drop 1 (drop 1 (drop i ws)), length-drop 1 (drop i ws), length-drop i ws)

module _ (ws : List ℤ) (from n a : ℕ) (m : n ≡ count_word (drop from ws)) (s : Stops ws from 1 a) (b : ℕ) (o₁ : List ℕ) (i₁ : ℕ) (o₂ : List ℕ) (i₂ : ℕ) (p : Printed (part_of n (drop a ws)) ws a o₁ i₁ o₂ i₂ b)
    (o₃ : List ℕ) (i₃ c : ℕ) (q : Printed (print_comparisons (drop b ws)) ws b o₂ i₂ o₃ i₃ c) where
  lits : take n (drop a ws) ≡ literals (drop from ws)
  lits = rw (m, s.rest) refl

  after_lits : drop b ws ≡ after_literals (drop from ws)
  unfolding part_of
  after_lits = p.rest ∙ rw (m, s.rest) refl

  pub clause_shown : (out : List ℕ) (at : ℕ) (out' : List ℕ) (r : ℕ) → Puts out at clause_key o₁ i₁ → Puts o₃ i₃ (line_feed ∷ []) out' r → Printed (print_clause (drop from ws)) ws from out at out' r c
  unfolding part_of print_clause
  clause_shown out at out' r x y = record {
    text = puts_as _ (rw (lits, after_lits) refl) (puts_then x (puts_then p.text (puts_then q.text y)));
    rest = q.rest ∙ rw after_lits refl;
    low = let h = s.low in let i = p.low in let j = q.low in omega arith;
    high = q.high;
  }

  -- k: how many comparisons were printed
  pub clause_members : (k : ℕ) → k ≡ comparisons_in (count_word (drop b ws)) (drop 1 (drop b ws)) → b + k ≤ c → (b - a + k ≡ members (drop from ws)) × (from + (b - a + k) ≤ c)
  unfolding part_of members
  clause_members k e l =
      let h = s.low in
      let g = s.high in
      let i = p.low in
      let j = p.high in
      let d : length (drop b ws) ≡ length (drop n (drop a ws)) = ap length p.rest in
      let m : b - a ≡ length (literals (drop from ws)) = rw (← lits) (omega (arith, length-drop b ws, length-drop n (drop a ws), length-drop a ws, length-take n (drop a ws))) in
      let q : k ≡ comparisons_in (count_word (after_literals (drop from ws))) (drop 1 (after_literals (drop from ws))) = rw (← after_lits) e in
      (omega (arith, m, q), omega arith)

-- ---- what is counted of n pieces: `left` of them are still to come

module _ (f : List ℤ → Shown) (g : List ℤ → ℕ) where
  sum_none : (m : ℕ) → summed f g m [] ≡ 0
  unfolding summed
  sum_none zero = refl
  sum_none (suc m) = refl

  sum_suc : (ws : List ℤ) (i m next : ℕ) (xs : List ℤ) → xs ≡ get_or ws i (pos 0) ∷ drop (i + 1) ws → drop next ws ≡ (f xs).rest → summed f g (suc m) xs ≡ g xs + summed f g m (drop next ws)
  unfolding summed
  sum_suc ws i m next [] e q = absurd (let z : ◌≡◌ {A = ℕ} 0 1 = cc in omega arith)
  sum_suc ws i m next (x ∷ xs) e q = rw q refl

  module _ (ws : List ℤ) (whole i left sum : ℕ) (inv : sum + summed f g left (drop i ws) ≡ whole) where
    pub sum_done : left ≤ 0 → sum ≡ whole
    unfolding summed
    sum_done h =
        let z : left ≡ 0 = omega arith in
        let t : sum + summed f g 0 (drop i ws) ≡ whole = subst (λ (k : ℕ). sum + summed f g k (drop i ws) ≡ whole) z inv in
        omega (arith, t)

    pub sum_out : i ≡ length ws → sum ≡ whole
    sum_out h =
        let z : drop i ws ≡ [] = drop_of_length-le ws (let l : length ws ≤ i = omega arith in l) in
        let t : sum + summed f g left [] ≡ whole = subst (λ (l : List ℤ). sum + summed f g left l ≡ whole) z inv in
        omega (arith, t, sum_none left)

    pub sum_next : (k next : ℕ) → 0 < left → i < length ws → k ≡ g (drop i ws) → drop next ws ≡ (f (drop i ws)).rest → sum + k + summed f g (left - 1) (drop next ws) ≡ whole
    sum_next k next h l e q =
        let z : left ≡ suc (left - 1) = omega arith in
        let t : summed f g left (drop i ws) ≡ g (drop i ws) + summed f g (left - 1) (drop next ws) = ap (λ n. summed f g n (drop i ws)) z ∙ sum_suc ws i (left - 1) next (drop i ws) (cons_word ws i l) q in
        omega (arith, t, inv)

-- ---- a domain

pub domain_shown : (ws : List ℤ) (from : ℕ) (out : List ℕ) (at : ℕ) (out' : List ℕ) (r e : ℕ) → Printed (line_of domain_key 4 (drop from ws)) ws from out at out' r e → Printed (print_domain (drop from ws)) ws from out at out' r e
unfolding line_of print_domain
domain_shown ws from out at out' r e p = p
