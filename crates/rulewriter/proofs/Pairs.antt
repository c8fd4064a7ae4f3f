-- A pair of an AllDifferent: its extras, what its Ifs add, the clause of its comparison.
use mathlib.Core.Path.{◌≡◌, refl, sym, ap, ◌∙◌, subst}
use mathlib.Core.List.{List, [], ◌∷◌}
use Prim.Native.Nat.{ℕ, ◌≤◌, ◌<◌}
use native.Mathlib.Omega.{arith}
use lib.IntN.{ℤ, pos, negsuc}
use lib.ListN.{length}
use Rattle.laws.specs.Writes.{cap, Wrote, wrote_then, wrote_to, wrote_length, Open}
use Rattle.memory.specs.Places.{limit}
use Rattle.syntax.specs.Syntax.{Domain, Ne}
use Rattle.sums.specs.LinearSum.{LinearSum, sub_sum}
use Rattle.sums.specs.Rising.{Each}
use Rattle.sums.specs.Struct.{terms, sum_of}
use Rattle.sums.proofs.Laws.{stands_sum}
use Rattle.clauses.specs.Clause.{linear}
use Rattle.answer.specs.Answer.{linear_words}
use Rattle.walk.specs.Item.{bump, lines_of, clause_text}
use Rattle.walk.specs.Decode.{read_part}
use Rattle.walk.specs.declared.Counters.{Counters}
use Rattle.walks.specs.Tree.{here}
use Rattle.walks.specs.Form.{nil, cons}
use Rattle.walks.specs.Item.{counters, more_bools, comparison, cmp_item, form_item, form_int_item}
use Rattle.walks.specs.Decode.{IntRead, decode_int, ties_int_at}
use Rattle.walks.specs.DecodeExact.{pair_at}
use Rattle.walks.specs.NoTies.{Between, decode_int_grows, no_int_ties}
use Rattle.walks.specs.SumsFit.{FormFits}
use Rattle.walks.specs.Totals.{Word, Adds, total_of, behind_of, ComparisonFits}
use Rattle.scan.specs.IfLaws.{Low}
use Rattle.scan.specs.Skip.{split_by, IntSkips}
use Rattle.scan.specs.SurveyLaws.{IntSurveys}
use Rattle.scan.specs.declared.Behind.{Behind}
use Rattle.totals.specs.declared.Nested.{Nested}
use Rattle.totals.specs.Linear.{Stepping, Linear, second, Subtracts, Less}
use Rattle.rulewriter.specs.Places.{int_at, Fit, AllFit, IntFit}
use Rattle.rulewriter.specs.Making.{Puts}
use Rattle.rulewriter.specs.Ties.{Blocks, two_extras}
use Rattle.rulewriter.specs.Pair.{pair_next, pair_numbers, pair_extras, unequal, unequal_at}
use Rattle.rulewriter.specs.declared.Added.{Added}
use Rattle.rulewriter.specs.declared.Tied.{Tied}
use Rattle.rulewriter.proofs.Registered.{puts_both}
use Rattle.rulewriter.proofs.Blocks.{block_listed}
use Rattle.rulewriter.proofs.Extras.{extra_then, all_fit_left, all_fit_right}

module _ (w : List ℤ) (p q base : ℕ) where
  abbrev L : IntRead
  L = decode_int (read_part w) 64 here p base

  abbrev R : IntRead
  R = decode_int (read_part w) 64 here q L.next

  -- the splitting's next number only grows
  first_grows : base ≤ limit → Between base L.next
  first_grows l = decode_int_grows (read_part w) 64 here p base l

  second_grows : base ≤ limit → Between L.next R.next
  second_grows l = decode_int_grows (read_part w) 64 here q L.next (first_grows l).1

  pub next_both : (a b c d : ℕ) → IntSkips (read_part w) 64 (split_by 2) p base a b → IntSkips (read_part w) 64 (split_by 2) q b c d → d ≡ pair_next (read_part w) p q base
  unfolding split_by
  next_both a b c d s t = t.next ∙ ap (λ (j : ℕ). (decode_int (read_part w) 64 here q j).next) s.next

  -- ---- the extras

  pub extras_none : (next : ℕ) → base ≤ limit → next ≡ pair_next (read_part w) p q base → next ≡ base → next < limit → pair_extras (read_part w) p q base ≡ nil
  extras_none next i e f l =
      let x = first_grows i in
      let y = second_grows i in
      let j : L.next ≡ base = omega (arith, x.0, y.0) in
      let k : L.next < limit = omega (arith, j) in
      let m : R.next ≡ L.next = omega (arith, j) in
      rw (no_int_ties (read_part w) 64 here p base (omega arith) j, no_int_ties (read_part w) 64 here q L.next k m) refl

  pub extras_first : AllFit (pair_extras (read_part w) p q base) → AllFit (ties_int_at (read_part w) 64 (split_by 2) p base)
  unfolding split_by
  extras_first h = all_fit_left (ties_int_at (read_part w) 64 here p base) (ties_int_at (read_part w) 64 here q L.next) h

  module _ (a b : ℕ) (s : IntSkips (read_part w) 64 (split_by 2) p base a b) where
    pub extras_second : AllFit (pair_extras (read_part w) p q base) → AllFit (ties_int_at (read_part w) 64 (split_by 2) q b)
    unfolding split_by
    extras_second h = subst (λ (j : ℕ). AllFit (ties_int_at (read_part w) 64 here q j)) (sym s.next) (all_fit_right (ties_int_at (read_part w) 64 here p base) (ties_int_at (read_part w) 64 here q L.next) h)

    pub extras_written : {n : Counters} {out c d : List ℤ} {o : ℕ} {x y : Tied} → Open out o → Blocks w (ties_int_at (read_part w) 64 (split_by 2) p base) n out o c x → Blocks w (ties_int_at (read_part w) 64 (split_by 2) q b) x.n c x.o d y
        → Blocks w (pair_extras (read_part w) p q base) n out o d (two_extras x y)
    unfolding split_by
    extras_written {n} {out} {c} {d} {o} {x} {y} h f g = extra_then (ties_int_at (read_part w) 64 here p base) (ties_int_at (read_part w) 64 here q L.next) h f (subst (λ (j : ℕ). Blocks w (ties_int_at (read_part w) 64 here q j) x.n c x.o d y) s.next g)

  -- ---- what its Ifs add

  pub first_fit : Fit (unequal (read_part w) p q base) → IntFit (decode_int (read_part w) 64 (split_by 2) p base).tree
  unfolding split_by FormFits
  first_fit h = record { domains = h.domains; fits = h.fits.1 }

  module _ (n : Counters) (x : Behind) (s : IntSurveys w 64 (split_by 2) p base n x) where
    next_is : x.base ≡ L.next
    unfolding split_by
    next_is = s.skips.next

    behind_is : (ds : List Domain) → x.n ≡ behind_of ds w L.tree n
    unfolding split_by
    behind_is ds = s.behind ds

    pub second_fit : Fit (unequal (read_part w) p q base) → IntFit (decode_int (read_part w) 64 (split_by 2) q x.base).tree
    unfolding split_by FormFits
    second_fit h = subst (λ (j : ℕ). IntFit (decode_int (read_part w) 64 here q j).tree) (sym next_is) (record { domains = h.domains; fits = h.fits.2 })

    pub pair_adds : {out a b : List ℤ} {o : ℕ} (f g r : Added) → Open out o → Puts ((int_at w 64 (split_by 2) p base).adds w n) ((int_at w 64 (split_by 2) p base).added w n) out o a f
        → Puts ((int_at w 64 (split_by 2) q x.base).adds w x.n) ((int_at w 64 (split_by 2) q x.base).added w x.n) a f.o b g → (r.lines ≡ bump f.lines g.lines) × (r.o ≡ g.o)
        → Puts ((unequal_at w p q base).reg w n) ((unequal_at w p q base).lines w n) out o b r
    unfolding split_by form_item cmp_item
    pair_adds {out} {a} {b} {o} f g r h u v e =
        let i = subst (λ (j : ℕ). Puts ((form_int_item [] (decode_int (read_part w) 64 here q j).tree).adds w x.n) ((form_int_item [] (decode_int (read_part w) 64 here q j).tree).added w x.n) a f.o b g) next_is v in
        puts_both f g r h u (subst (λ (k : Counters). Puts ((form_int_item [] R.tree).adds w k) ((form_int_item [] R.tree).added w k) a f.o b g) (behind_is []) i) e

  -- ---- the clause of its comparison

  module _ (n : Counters) (h : Fit (unequal (read_part w) p q base)) where
    fits : ComparisonFits h.domains w L.tree R.tree n
    unfolding FormFits
    fits = h.fits.0 w n

    pub linear_first : Stepping w 64 (split_by 2) p base n
    unfolding split_by
    linear_first = record { domains = h.domains; steps = fits.left }

    module _ (x : Nested) (o : Linear w 64 (split_by 2) p base n x) where
      right_is : (ds : List Domain) → total_of ds w (second w 64 here q x) x.behind.n ≡ total_of ds w R.tree (behind_of ds w L.tree n)
      right_is ds = rw (next_is n x.behind o.behind, behind_is n x.behind o.behind ds) refl

      pub linear_second : Subtracts w 64 (split_by 2) q x
      unfolding split_by
      linear_second =
          let d = h.domains in
          record {
            room = (o.sum d).room;
            low = o.behind.skips.low;
            low_counters = o.behind.low;
            domains = d;
            steps = rw (next_is n x.behind o.behind, behind_is n x.behind o.behind d) fits.right;
            minus = rw (right_is d) (subst (λ (l : LinearSum). Adds l (negsuc 0) (total_of d w R.tree (behind_of d w L.tree n))) (sym (stands_sum x.sum _ (o.sum d))) fits.minus);
            words = o.words;
          }

      module _ (y : Nested) (f : Less w 64 (split_by 2) q x y) where
        pub words_fit : (y.sum.count ≤ 64) × Each Word (terms y.sum)
        words_fit = ((f.sum h.domains).room, f.words)

        sum_is : sum_of y.sum ≡ sub_sum (total_of [] w L.tree n) (total_of [] w R.tree (behind_of [] w L.tree n))
        unfolding split_by
        sum_is = stands_sum y.sum _ (f.sum []) ∙ ap (λ (l : LinearSum). sub_sum l (total_of [] w (second w 64 here q x) x.behind.n)) (stands_sum x.sum _ (o.sum [])) ∙ ap (sub_sum (total_of [] w L.tree n)) (right_is [])

        pub unequal_text : {out a b c : List ℤ} {i j k l : ℕ} → length out ≤ cap → Wrote out i (pos 0 ∷ []) a j → Wrote a j (pos 1 ∷ []) b k → Wrote b k (linear_words (linear Ne (sum_of y.sum))) c l → Wrote out i ((unequal_at w p q base).text w n []) c l
        unfolding form_item cmp_item comparison clause_text
        unequal_text m u v z = wrote_then m u (wrote_then (omega (arith, wrote_length u)) v (wrote_to (ap (λ (s : LinearSum). linear_words (linear Ne s)) sum_is) z))

        pub unequal_count : y.behind.n ≡ (unequal_at w p q base).count w n
        unfolding split_by form_item cmp_item
        unequal_count = f.behind.behind [] ∙ rw (next_is n x.behind o.behind, behind_is n x.behind o.behind []) refl

  pub unequal_block : (n : Counters) {out a b : List ℤ} {o : ℕ} (x : Added) (r : Tied) → Open out o → Puts ((unequal_at w p q base).reg w n) ((unequal_at w p q base).lines w n) out o a x → Wrote a x.o ((unequal_at w p q base).text w n []) b r.o
      → r.n ≡ (unequal_at w p q base).count w n → Low r.n → r.lines ≡ bump x.lines 1 → Blocks w (cons (unequal (read_part w) p q base) nil) n out o b r
  unfolding form_item cmp_item lines_of
  unequal_block n x r h f g c l k = record { listed = block_listed w (unequal_at w p q base) n r.n r.lines 1 x h f g c l refl k }

  -- ---- the whole pair

  pub extras_fit : AllFit (pair_at (read_part w) 64 p q base) → AllFit (pair_extras (read_part w) p q base)
  extras_fit h = all_fit_left (pair_extras (read_part w) p q base) (cons (unequal (read_part w) p q base) nil) h

  pub unequal_fit : AllFit (pair_at (read_part w) 64 p q base) → Fit (unequal (read_part w) p q base)
  unfolding FormFits
  unequal_fit h = let i = all_fit_right (pair_extras (read_part w) p q base) (cons (unequal (read_part w) p q base) nil) h in record { domains = i.domains; fits = i.fits.0 }

  -- k: the counters behind the splitting's numbers
  module _ (n : Counters) (same : base ≡ n.bools) (low : base ≤ limit) (k : Counters) (next : k.bools ≡ pair_next (read_part w) p q base) (ints : k.ints ≡ n.ints) where
    counted : k.bools ≡ bump n.bools (pair_numbers (read_part w) p q base)
    counted = let x = first_grows low in let y = second_grows low in omega (arith, x.0, x.1, y.0, y.1)

    behind_numbers : k ≡ more_bools (pair_numbers (read_part w) p q base) n
    behind_numbers = ap (λ (j : ℕ). counters j k.ints) counted ∙ ap (counters (bump n.bools (pair_numbers (read_part w) p q base))) ints

    pub pair_blocks : {out a b : List ℤ} {o : ℕ} {t z : Tied} → Open out o → Blocks w (pair_extras (read_part w) p q base) k out o a t → Blocks w (cons (unequal (read_part w) p q base) nil) t.n a t.o b z
        → Blocks w (pair_at (read_part w) 64 p q base) (more_bools (pair_numbers (read_part w) p q base) n) out o b (two_extras t z)
    pair_blocks {out} {a} {b} {o} {t} {z} h f g =
        subst (λ (m : Counters). Blocks w (pair_at (read_part w) 64 p q base) m out o b (two_extras t z)) behind_numbers (extra_then (pair_extras (read_part w) p q base) (cons (unequal (read_part w) p q base) nil) h f g)
