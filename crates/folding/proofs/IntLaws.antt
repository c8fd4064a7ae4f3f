-- What folding of integer expressions asks and gives at each step, over variables. Assumes nothing.
use Prim.Native.Nat.{ℕ, suc, ◌+◌, ◌-◌, ◌≤◌, ◌<◌}
use mathlib.Core.Path.{◌≡◌, refl, sym, ap, ◌∙◌, subst}
use mathlib.Core.Bool.{Bool, true, false, cond}
use mathlib.Core.Option.{Option, none, some}
use mathlib.Core.List.{List, [], ◌∷◌, ◌++◌}
use native.Mathlib.Omega.{arith}
use lib.Dec.{eqb}
use borrow.Author.Tests.{eq-eqb, eqb-true}
use lib.IntN.{ℤ, pos}
use lib.ListN.{length, drop, get_or, set, length-append, length-set}
use lib.Seq.{slice_empty}
use Rattle.laws.specs.Ints.{eqZ, pos_eq}
use Rattle.laws.specs.Slices.{has_fits, has_front, has_back, has_word, has_rest, Pushed, pushed_below, pushed_then, pushed_none, Stored, stored_two, heads_one, drop_up}
use Rattle.syntax.specs.Words.{max_bools}
use Rattle.syntax.specs.Syntax.{Domain, as_constant, domain_of, IfIsRead, IntExpr, IConst, IVar, Linear, If, Terms, tnil, tmore, BoolExpr, count_terms, encode_int, encode_terms}
use Rattle.syntax.specs.Lengths.{int_tag, int_tag_word, int_long, int_fits}
use Rattle.syntax.specs.Written.{EveryIntOf}
use Rattle.fold.specs.Fold.{fold_int_var, fold_sum, constant_folding_int, constant_folding_terms}
use Rattle.fold.proofs.Kept.{fold_int_size}
use Rattle.domains.specs.Declared.{Plain, DomainBelow}
use Rattle.folding.specs.Steps.{fixed_in, same_fixed, single_of, IntVarPost, ReadsInt, TermsRead, ReadyInt, ReadyTerms, FoldsInt, IntPost, TermsPost}

-- ---- the form, from the first word

-- one word
pub stored_one : (out : List ℤ) (o : ℕ) (c : ℤ) → o < length out → Stored out o (c ∷ []) (set out o c) (o + 1)
stored_one out o c l = rw (slice_empty (o + 1) out) at (heads_one out o c (o + 1) (omega arith) (omega arith))

module _ {X : Type 0} where
  const_inv : (e : IntExpr) → int_tag e ≡ 20 → ((c : ℤ) → e ≡ IConst c → X) → X
  const_inv (IConst c) h go = go c refl
  const_inv (IVar v) h go = absurd (omega arith)
  const_inv (If i c t f) h go = absurd (omega arith)
  const_inv (Linear ts) h go = absurd (omega arith)

  var_inv : (e : IntExpr) → int_tag e ≡ 21 → ((v : ℕ) → e ≡ IVar v → X) → X
  var_inv (IConst c) h go = absurd (omega arith)
  var_inv (IVar v) h go = go v refl
  var_inv (If i c t f) h go = absurd (omega arith)
  var_inv (Linear ts) h go = absurd (omega arith)

  sum_inv : (e : IntExpr) → (int_tag e ≡ 20 → ⊥) → (int_tag e ≡ 21 → ⊥) → (int_tag e ≡ 23 → ⊥) → ((ts : Terms) → e ≡ Linear ts → X) → X
  sum_inv (IConst c) h k l go = absurd (h refl)
  sum_inv (IVar v) h k l go = absurd (k refl)
  sum_inv (If i c t f) h k l go = absurd (l refl)
  sum_inv (Linear ts) h k l go = go ts refl

  pub if_inv : (e : IntExpr) → int_tag e ≡ 23 → ((i : IfIsRead) (c : BoolExpr) (t f : IntExpr) → e ≡ If i c t f → X) → X
  if_inv (IConst c) h go = absurd (omega arith)
  if_inv (IVar v) h go = absurd (omega arith)
  if_inv (If i c t f) h go = go i c t f refl
  if_inv (Linear ts) h go = absurd (omega arith)

module _ (ni : ℕ) (ws : List ℤ) (at : ℕ) where
  inside : (e : IntExpr) → ReadsInt ni ws at e → at + length (encode_int e) ≤ length ws
  inside e r = int_fits ws at e r.words

  sum_words : (ts : Terms) → ReadsInt ni ws at (Linear ts) → TermsRead ni ws (at + 2) (count_terms ts) ts
  unfolding encode_int EveryIntOf
  sum_words ts r = record { words = has_back ws at (pos 22 ∷ pos (count_terms ts) ∷ []) (encode_terms ts) r.words; vars = r.vars; size = refl }

  term_first : (n : ℕ) (c : ℤ) (e : IntExpr) (ts : Terms) → TermsRead ni ws at n (tmore c e ts) → ReadsInt ni ws (at + 1) e
  unfolding encode_terms EveryIntOf
  term_first n c e ts r = record { words = has_front ws (at + 1) (encode_int e) (encode_terms ts) (has_rest ws at _ _ r.words); vars = r.vars.0 }

  term_rest : (n : ℕ) (c : ℤ) (e : IntExpr) (ts : Terms) → TermsRead ni ws at n (tmore c e ts) → TermsRead ni ws (at + 1 + length (encode_int e)) (n - 1) ts
  unfolding encode_terms EveryIntOf
  term_rest n c e ts r = record { words = has_back ws (at + 1) (encode_int e) (encode_terms ts) (has_rest ws at _ _ r.words); vars = r.vars.1; size = let z : n ≡ suc (count_terms ts) = r.size in omega arith }

  term_coefficient : (n : ℕ) (c : ℤ) (e : IntExpr) (ts : Terms) → TermsRead ni ws at n (tmore c e ts) → get_or ws at (pos 0) ≡ c
  unfolding encode_terms
  term_coefficient n c e ts r = has_word ws at _ _ (pos 0) r.words

module _ (ws : List ℤ) (d at : ℕ) (out : List ℤ) (o : ℕ) where
  pub int_inside : ReadyInt ws d at out o → (at + 2 ≤ length ws) × (o + 2 ≤ length out)
  int_inside r = (omega (arith, inside (length r.ds) ws at r.it r.reads, int_long r.it), omega (arith, r.room, int_long r.it))

  pub int_first : ReadyInt ws d at out o → Plain ws at
  int_first r = record { inside = omega (arith, (int_inside r).0); value = int_tag r.it; is = int_tag_word ws at r.it r.reads.words }

  -- two words written at o
  two_above : (out' : List ℤ) (end : ℕ) (us : List ℤ) → length us ≡ 2 → Stored out o us out' end → drop (o + 2) out' ≡ drop (o + 2) out
  two_above out' end us l s = let e : end ≡ o + length us = s.pushed.end in let f : o + 2 ≡ end = omega arith in ap (λ n. drop n out') f ∙ s.above ∙ ap (λ n. drop n out) (sym f)

  module _ (w : ℕ) (hw : get_or ws at (pos 0) ≡ pos w) where
    pub code_is : (ni : ℕ) (e : IntExpr) → ReadsInt ni ws at e → int_tag e ≡ w
    code_is ni e r = pos_eq _ _ _ (int_tag_word ws at e r.words) hw

    pub int_second : ReadyInt ws d at out o → (w ≡ 20 → ⊥) → (w ≡ 23 → ⊥) → Plain ws (at + 1)
    unfolding encode_int
    int_second r h k = go r.it r.reads
      where
        go : (e : IntExpr) → ReadsInt (length r.ds) ws at e → Plain ws (at + 1)
        go (IConst c) g = absurd (h (sym (code_is _ (IConst c) g)))
        go (IVar v) g = record { inside = omega (arith, (int_inside r).0); value = v; is = has_word ws (at + 1) _ _ (pos 0) (has_rest ws at _ _ g.words) }
        go (If i c t f) g = absurd (k (sym (code_is _ (If i c t f) g)))
        go (Linear ts) g = record { inside = omega (arith, (int_inside r).0); value = count_terms ts; is = has_word ws (at + 1) _ _ (pos 0) (has_rest ws at _ _ g.words) }

    pub const_folds : (out' : List ℤ) → w ≡ 20 → o + 2 ≤ length out → out' ≡ set (set out o (pos 20)) (o + 1) (get_or ws (at + 1) (pos 0)) → IntPost ws d at out o out' (at + 2) (o + 2)
    unfolding encode_int constant_folding_int
    const_folds out' h l ho ds e hd r =
        const_inv e (code_is _ e r ∙ h) λ c q.
        let g = rw q at r in
        let z : get_or ws (at + 1) (pos 0) ≡ c = has_word ws (at + 1) _ _ (pos 0) (has_rest ws at _ _ g.words) in
        let s : Stored out o (pos 20 ∷ c ∷ []) out' (o + 2) = rw (ho, z) (stored_two out o (pos 20) c l) in
        rw q (record { nexts = refl; pushed = s.pushed; above = s.above })

    module _ (v : ℕ) (hv : get_or ws (at + 1) (pos 0) ≡ pos v) where
      pub var_below : ReadyInt ws d at out o → w ≡ 21 → DomainBelow ws d v
      unfolding encode_int EveryIntOf
      var_below r h =
          var_inv r.it (code_is _ r.it r.reads ∙ h) λ i q.
          let g = rw q at r.reads in
          let z : i ≡ v = pos_eq _ _ _ (has_word ws (at + 1) _ _ (pos 0) (has_rest ws at _ _ g.words)) hv in
          let t : i < length r.ds = g.vars in
          record { ds = r.ds; domains = r.domains; below = omega arith }

      int_var_length : (ds : List Domain) → length (encode_int (fold_int_var (as_constant (domain_of ds v)) v)) ≡ 2
      unfolding encode_int
      int_var_length ds = go (as_constant (domain_of ds v))
        where
          go : (k : Option ℤ) → length (encode_int (fold_int_var k v)) ≡ 2
          go none = refl
          go (some c) = refl

      pub var_folds : (out' : List ℤ) (end : ℕ) → w ≡ 21 → IntVarPost ws d out o v out' end → IntPost ws d at out o out' (at + 2) end
      unfolding encode_int constant_folding_int EveryIntOf
      var_folds out' end h p ds e hd r =
          var_inv e (code_is _ e r ∙ h) λ i q.
          let g = rw q at r in
          let z : i ≡ v = pos_eq _ _ _ (has_word ws (at + 1) _ _ (pos 0) (has_rest ws at _ _ g.words)) hv in
          let t : i < length ds = g.vars in
          let s = p ds hd (omega arith) in
          rw (q, z) (record { nexts = refl; pushed = s.pushed; above = two_above out' end _ (int_var_length ds) s })

      size_is : (ni : ℕ) (ts : Terms) → ReadsInt ni ws at (Linear ts) → count_terms ts ≡ v
      unfolding encode_int
      size_is ni ts g = pos_eq _ _ _ (has_word ws (at + 1) _ _ (pos 0) (has_rest ws at _ _ g.words)) hv

      module _ (n20 : w ≡ 20 → ⊥) (n21 : w ≡ 21 → ⊥) (n23 : w ≡ 23 → ⊥) where
        the_sum : {X : Type 0} (ni : ℕ) (e : IntExpr) → ReadsInt ni ws at e → ((ts : Terms) → e ≡ Linear ts → ReadsInt ni ws at (Linear ts) → count_terms ts ≡ v → X) → X
        the_sum ni e r go = sum_inv e (λ h. n20 (sym (code_is ni e r) ∙ h)) (λ h. n21 (sym (code_is ni e r) ∙ h)) (λ h. n23 (sym (code_is ni e r) ∙ h)) λ ts q. let g = rw q at r in go ts q g (size_is ni ts g)

        pub empty_folds : (out' : List ℤ) (end : ℕ) → v ≡ 0 → Stored out o (pos 20 ∷ pos 0 ∷ []) out' end → IntPost ws d at out o out' (at + 2) end
        unfolding encode_int constant_folding_int
        empty_folds out' end h s ds e hd r = the_sum _ e r λ ts q g z. rw q (go ts (z ∙ h))
          where
            go : (ts : Terms) → count_terms ts ≡ 0 → FoldsInt ds out at o (Linear ts) out' (at + 2) end
            go tnil z = record { nexts = refl; pushed = s.pushed; above = two_above out' end _ refl s }
            go (tmore c x ts) z = absurd (omega arith)

        pub single_inside : ReadyInt ws d at out o → v ≡ 1 → at + 2 < length ws
        unfolding encode_int
        single_inside r h = the_sum _ r.it r.reads λ ts q g z. go ts (z ∙ h) g
          where
            go : (ts : Terms) → count_terms ts ≡ 1 → ReadsInt (length r.ds) ws at (Linear ts) → at + 2 < length ws
            go tnil z g = absurd (omega arith)
            go (tmore c x ts) z g = omega (arith, inside _ ws at (Linear (tmore c x ts)) g)

        single_count : single_of v (get_or ws (at + 2) (pos 0)) ≡ true → v ≡ 1
        unfolding single_of
        single_count t = eqb-true v 1 (first (eqb v 1) (eqZ (get_or ws (at + 2) (pos 0)) (pos 1)) t)
          where
            first : (p q : Bool) → cond p q false ≡ true → p ≡ true
            first true q h = refl
            first false q h = h

        -- a sum of one term, by the test
        one_term : {X : Type 0} (ni : ℕ) (ts : Terms) → ReadsInt ni ws at (Linear ts) → count_terms ts ≡ v → single_of v (get_or ws (at + 2) (pos 0)) ≡ true
            → ((c : ℤ) (x : IntExpr) → ts ≡ tmore c x tnil → eqZ c (pos 1) ≡ true → ReadsInt ni ws (at + 3) x → X) → X
        unfolding single_of
        one_term ni tnil g z t go = absurd (let b = single_count t in omega arith)
        one_term ni (tmore c x (tmore c' x' ts)) g z t go = absurd (let b = single_count t in omega arith)
        one_term ni (tmore c x tnil) g z t go =
            let s = sum_words ni ws at (tmore c x tnil) g in
            let k : get_or ws (at + 2) (pos 0) ≡ c = term_coefficient ni ws (at + 2) 1 c x tnil s in
            let o1 : eqZ (get_or ws (at + 2) (pos 0)) (pos 1) ≡ true = rw (eq-eqb v 1 (sym z)) at t in
            let f = term_first ni ws (at + 2) 1 c x tnil s in
            let m3 : at + 3 ≡ at + 2 + 1 = omega arith in
            go c x refl (rw k at o1) (record { words = rw m3 f.words; vars = f.vars })

        pub single_ready : ReadyInt ws d at out o → single_of v (get_or ws (at + 2) (pos 0)) ≡ true → ReadyInt ws d (at + 3) out o
        unfolding encode_int
        single_ready r t =
            the_sum _ r.it r.reads λ ts q g z.
            one_term _ ts g z t λ c x p k f.
            let m : o + length (encode_int (Linear (tmore c x tnil))) ≤ length out = rw p at (rw q at r.room) in
            record { ds = r.ds; domains = r.domains; it = x; reads = f; low = r.low; room = omega (arith, length-append (encode_int x) []) }

        pub single_folds : (out' : List ℤ) (next end : ℕ) → single_of v (get_or ws (at + 2) (pos 0)) ≡ true → IntPost ws d (at + 3) out o out' next end → IntPost ws d at out o out' next end
        unfolding encode_int constant_folding_int
        single_folds out' next end t p ds e hd r =
            the_sum _ e r λ ts q g z.
            one_term _ ts g z t λ c x pt k f.
            let y = p ds x hd f in
            let n : next ≡ at + 3 + length (encode_int x) = y.nexts in
            rw (q, pt) (record { nexts = omega (arith, length-append (encode_int x) []); pushed = rw k y.pushed; above = drop_up (o + length (encode_int x)) (o + length (encode_int (Linear (tmore c x tnil)))) out' out y.above (omega (arith, length-append (encode_int x) [])) })

        pub many_ready : (mid : List ℤ) (m : ℕ) → ReadyInt ws d at out o → length mid ≡ length out → Pushed out o (pos 22 ∷ pos v ∷ []) mid m → ReadyTerms ws d (at + 2) v mid m
        unfolding encode_int
        many_ready mid m r l wr =
            the_sum _ r.it r.reads λ ts q g z.
            let s = sum_words _ ws at ts g in
            let k : o + length (encode_int (Linear ts)) ≤ length out = rw q at r.room in
            let e : m ≡ o + 2 = wr.end in
            let lo : max_bools ≤ o = r.low in
            record { ds = r.ds; domains = r.domains; them = ts; reads = record { words = s.words; vars = s.vars; size = sym z }; low = omega arith; room = omega arith }

        pub many_folds : (mid : List ℤ) (m : ℕ) (out' : List ℤ) (next end : ℕ) → ReadyInt ws d at out o → (v ≡ 0 → ⊥) → single_of v (get_or ws (at + 2) (pos 0)) ≡ false
            → Stored out o (pos 22 ∷ pos v ∷ []) mid m → TermsPost ws d (at + 2) v mid m out' next end → IntPost ws d at out o out' next end
        unfolding encode_int constant_folding_int single_of
        many_folds mid m out' next end rd nz t wr p ds e hd r =
            the_sum _ e r λ ts q g z.
            let s = sum_words _ ws at ts g in
            let y = p ds ts hd (record { words = s.words; vars = s.vars; size = sym z }) in
            let lo : max_bools ≤ o = rd.low in
            let ro : o ≤ length out = omega (arith, rd.room) in
            let fx : fixed_in mid ≡ fixed_in out = same_fixed out mid (pushed_below out o _ mid m max_bools wr.pushed lo ro) in
            let n : next ≡ at + 2 + length (encode_terms ts) = y.nexts in
            let j : fold_sum (constant_folding_terms ds (fixed_in out) ts) ≡ Linear (constant_folding_terms ds (fixed_in out) ts) = keeps ts z s in
            let c : count_terms (constant_folding_terms ds (fixed_in out) ts) ≡ v = counts ts ∙ z in
            let x : Pushed out o (encode_int (Linear (constant_folding_terms ds (fixed_in out) ts))) out' end = rw c (pushed_then out o (pos 22 ∷ pos v ∷ []) mid m (encode_terms (constant_folding_terms ds (fixed_in out) ts)) out' end wr.pushed (rw fx at y.pushed)) in
            let me : m ≡ o + 2 = wr.pushed.end in
            rw q (record {
              nexts = omega arith;
              pushed = subst (λ y. Pushed out o (encode_int y) out' end) (sym j) x;
              above = drop_up (m + length (encode_terms ts)) (o + length (encode_int (Linear ts))) out' mid y.above (omega arith) ∙ drop_up m (o + length (encode_int (Linear ts))) mid out wr.above (omega arith);
            })
          where
            counts : (ts : Terms) → count_terms (constant_folding_terms ds (fixed_in out) ts) ≡ count_terms ts
            counts tnil = refl
            counts (tmore c x ts) = ap suc (counts ts)

            keeps : (ts : Terms) → count_terms ts ≡ v → TermsRead (length ds) ws (at + 2) (count_terms ts) ts → fold_sum (constant_folding_terms ds (fixed_in out) ts) ≡ Linear (constant_folding_terms ds (fixed_in out) ts)
            keeps tnil z s = absurd (nz (sym z))
            keeps (tmore c x (tmore c' x' ts)) z s = refl
            keeps (tmore c x tnil) z s =
                let k : get_or ws (at + 2) (pos 0) ≡ c = term_coefficient _ ws (at + 2) 1 c x tnil s in
                let o1 : eqZ (get_or ws (at + 2) (pos 0)) (pos 1) ≡ false = rw (eq-eqb v 1 (sym z)) at t in
                let o0 : eqZ c (pos 1) ≡ false = rw k at o1 in
                rw o0 refl

-- ---- terms

pub terms_none : (ws : List ℤ) (d at n : ℕ) (out : List ℤ) (o : ℕ) → n ≡ 0 → TermsPost ws d at n out o out at o
unfolding encode_terms constant_folding_terms
terms_none ws d at n out o h ds tnil hd r = record { nexts = omega arith; pushed = pushed_none out o; above = refl }
terms_none ws d at n out o h ds (tmore c e ts) hd r = absurd (let s : n ≡ suc (count_terms ts) = r.size in omega arith)

module _ (ws : List ℤ) (d at n : ℕ) (out : List ℤ) (o : ℕ) (z : n ≡ 0 → ⊥) where
  more_inv : {X : Type 0} (ts : Terms) → n ≡ count_terms ts → ((c : ℤ) (e : IntExpr) (us : Terms) → ts ≡ tmore c e us → X) → X
  more_inv tnil h go = absurd (z h)
  more_inv (tmore c e us) h go = go c e us refl

  pub term_inside : ReadyTerms ws d at n out o → (at + 1 < length ws) × (o + 1 < length out)
  unfolding encode_terms
  term_inside r =
      more_inv r.them r.reads.size λ c e us q.
      let g = rw q at r.reads in
      let w : o + suc (length (encode_int e ++ encode_terms us)) ≤ length out = rw q at r.room in
      (omega (arith, has_fits ws at (encode_terms (tmore c e us)) g.words (omega arith), length-append (encode_int e) (encode_terms us), int_long e), omega (arith, length-append (encode_int e) (encode_terms us), int_long e))

  pub term_ready : (mid : List ℤ) (x : ℤ) → ReadyTerms ws d at n out o → mid ≡ set out o x → ReadyInt ws d (at + 1) mid (o + 1)
  unfolding encode_terms
  term_ready mid x r hm =
      more_inv r.them r.reads.size λ c e us q.
      let w : o + suc (length (encode_int e ++ encode_terms us)) ≤ length out = rw q at r.room in
      let l : length mid ≡ length out = ap length hm ∙ length-set out o x in
      let lo : max_bools ≤ o = r.low in
      record { ds = r.ds; domains = r.domains; it = e; reads = term_first _ ws at n c e us (rw q at r.reads); low = omega arith; room = omega (arith, length-append (encode_int e) (encode_terms us)) }

  module _ (mid : List ℤ) (hm : mid ≡ set out o (get_or ws at (pos 0))) (mid' : List ℤ) (next end : ℕ) (p : IntPost ws d (at + 1) mid (o + 1) mid' next end) where
    pub rest_ready : ReadyTerms ws d at n out o → length mid' ≡ length mid → ReadyTerms ws d next (n - 1) mid' end × (at + 1 < next)
    unfolding encode_terms
    rest_ready r l =
        more_inv r.them r.reads.size λ c e us q.
        let w : o + suc (length (encode_int e ++ encode_terms us)) ≤ length out = rw q at r.room in
        let g = rw q at r.reads in
        let lm : length mid ≡ length out = ap length hm ∙ length-set out o _ in
        let y = p r.ds e r.domains (term_first _ ws at n c e us g) in
        let nx : next ≡ at + 1 + length (encode_int e) = y.nexts in
        let ef : end ≡ o + 1 + length (encode_int (constant_folding_int r.ds (fixed_in mid) e)) = y.pushed.end in
        let lo : max_bools ≤ o = r.low in
        (record { ds = r.ds; domains = r.domains; them = us; reads = rw nx (term_rest _ ws at n c e us g); low = omega arith; room = omega (arith, length-append (encode_int e) (encode_terms us), fold_int_size r.ds (fixed_in mid) e) }, omega (arith, int_long e))

    pub terms_more : (out' : List ℤ) (next' end' : ℕ) → ReadyTerms ws d at n out o → TermsPost ws d next (n - 1) mid' end out' next' end' → TermsPost ws d at n out o out' next' end'
    unfolding encode_terms constant_folding_terms
    terms_more out' next' end' rd p' ds ts hd r =
        more_inv ts r.size λ c e us q.
        let g = rw q at r in
        let k : get_or ws at (pos 0) ≡ c = term_coefficient _ ws at n c e us g in
        let lo : o < length out = omega (arith, (term_inside rd).1) in
        let low : max_bools ≤ o = rd.low in
        let y = p ds e hd (term_first _ ws at n c e us g) in
        let nx : next ≡ at + 1 + length (encode_int e) = y.nexts in
        let w0 : Stored out o (c ∷ []) mid (o + 1) = rw (hm, k) (stored_one out o c lo) in
        let y' = p' ds us hd (rw nx (term_rest _ ws at n c e us g)) in
        let nx' : next' ≡ next + length (encode_terms us) = y'.nexts in
        let f1 : fixed_in mid ≡ fixed_in out = same_fixed out mid (pushed_below out o (c ∷ []) mid (o + 1) max_bools w0.pushed low (omega arith)) in
        let E = constant_folding_int ds (fixed_in out) e in
        let pe : Pushed mid (o + 1) (encode_int E) mid' end = rw f1 at y.pushed in
        let lm : length mid ≡ length out = ap length hm ∙ length-set out o _ in
        let f2 : fixed_in mid' ≡ fixed_in out = same_fixed mid mid' (pushed_below mid (o + 1) (encode_int E) mid' end max_bools pe (omega arith) (omega arith)) ∙ f1 in
        let pr : Pushed mid' end (encode_terms (constant_folding_terms ds (fixed_in out) us)) out' end' = rw f2 at y'.pushed in
        let ef : end ≡ o + 1 + length (encode_int E) = pe.end in
        rw q (record {
          nexts = omega (arith, length-append (encode_int e) (encode_terms us));
          pushed = pushed_then out o (c ∷ []) mid (o + 1) _ out' end' w0.pushed (pushed_then mid (o + 1) (encode_int E) mid' end _ out' end' pe pr);
          above = drop_up (end + length (encode_terms us)) (o + length (encode_terms (tmore c e us))) out' mid' y'.above (omega (arith, length-append (encode_int e) (encode_terms us), fold_int_size ds (fixed_in out) e))
              ∙ drop_up (o + 1 + length (encode_int e)) (o + length (encode_terms (tmore c e us))) mid' mid y.above (omega (arith, length-append (encode_int e) (encode_terms us)))
              ∙ drop_up (o + 1) (o + length (encode_terms (tmore c e us))) mid out w0.above (omega arith);
        })
