-- What the walk that marks written variables asks and gives at each step: the terms that are pending stand one after another. Assumes nothing.
use Prim.Native.Nat.{ℕ, zero, suc, ◌+◌, ◌-◌, ◌≤◌, ◌<◌}
use mathlib.Core.Path.{◌≡◌, refl, sym, ap, ◌∙◌, subst}
use mathlib.Core.Bool.{Bool, true, false, ◌||◌, cond, or-false}
use mathlib.Core.List.{List, [], ◌∷◌, ◌++◌, append_assoc, append-nil}
use native.Mathlib.Omega.{arith}
use native.Mathlib.Numerals.{add-one}
use lib.IntN.{ℤ, pos}
use lib.ListN.{length, get_or, set, take, drop, replicate, length-set, length-append, get_or-replicate}
use lib.Seq.{drop-cons, get_or-set_same, get_or-set_other}
use lib.Dec.{eqb, ltb}
use borrow.Author.Tests.{eqb-true, eqb-false, ne_eqb}
use Rattle.laws.specs.Bools.{or_assoc, eq4}
use Rattle.laws.specs.Lists.{any_append}
use Rattle.laws.specs.Slices.{Has, has_fits, has_front, has_back, has_rest}
use Rattle.syntax.specs.Words.{max_ints}
use Rattle.syntax.specs.Syntax.{IfIsRead, IntExpr, IConst, IVar, Linear, If, Terms, tnil, tmore, count_terms, encode_int, encode_terms, BoolExpr, encode_bool}
use Rattle.syntax.specs.Written.{EveryIntOf, Any, None, ints_of}
use Rattle.syntax.specs.Lengths.{int_long, int_fits, terms_long}
use Rattle.domains.specs.Declared.{Plain}
use Rattle.passes.specs.Skip.{SomeMembers, SkipMembersPost, own_int, body}
use Rattle.limits.specs.Limits.{written, written_terms, ifs, ifs_terms}
use Rattle.limits.proofs.Count.{among, either, marked, marked_cong, ifs_few, many_comparison_marked, many_column_marked}
use Rattle.accept.specs.Walk.{UsableInt, UsableTerms, IntAt, TermsAt, BoolAt, Behind, own_written, own_ifs, has_mark, Marks, HeadPost, WrittenPost, ManyOnePost, ManyPost}
use Rattle.accept.proofs.Laws.{int_plain, const_inv, if_inv, second_plain, var_inv, sum_inv, if_parts, if_length}
use Rattle.accept.proofs.SkipLaws.{some_condition, condition_skipped}

-- ---- terms in front of terms

abbrev join_terms : Terms → Terms → Terms
join_terms tnil us = us
join_terms (tmore k e ts) us = tmore k e (join_terms ts us)

encode_join : (ts us : Terms) → encode_terms (join_terms ts us) ≡ encode_terms ts ++ encode_terms us
unfolding encode_terms
encode_join tnil us = refl
encode_join (tmore k e ts) us = ap (λ l. k ∷ (encode_int e ++ l)) (encode_join ts us) ∙ ap (λ l. k ∷ l) (sym (append_assoc (encode_int e) (encode_terms ts) (encode_terms us)))

count_join : (ts us : Terms) → count_terms (join_terms ts us) ≡ count_terms ts + count_terms us
count_join tnil us = omega arith
count_join (tmore k e ts) us = omega (arith, count_join ts us)

among_join : (v : ℕ) (ts us : Terms) → among (written_terms (join_terms ts us)) v ≡ among (written_terms ts) v || among (written_terms us) v
unfolding written
among_join v tnil us = refl
among_join v (tmore k e ts) us =
    any_append (eqb v) (written e) (written_terms (join_terms ts us)) ∙ ap (λ b. among (written e) v || b) (among_join v ts us)
    ∙ sym (or_assoc (among (written e) v) (among (written_terms ts) v) (among (written_terms us) v)) ∙ ap (λ b. b || among (written_terms us) v) (sym (any_append (eqb v) (written e) (written_terms ts)))

ifs_join : (ts us : Terms) → ifs_terms (join_terms ts us) ≡ ifs_terms ts + ifs_terms us
unfolding ifs
ifs_join tnil us = omega arith
ifs_join (tmore k e ts) us = omega (arith, ifs_join ts us)

usable_join : (n : ℕ) (ts us : Terms) → UsableTerms n ts → UsableTerms n us → UsableTerms n (join_terms ts us)
unfolding EveryIntOf
usable_join n tnil us h k = k
usable_join n (tmore c e ts) us h k = (h.0, usable_join n ts us h.1 k)

-- what an expression's own words write, and its terms
among_own : (v : ℕ) (e : IntExpr) → among (written e) v ≡ among (own_written e) v || among (written_terms (body e)) v
unfolding written
among_own v (IConst c) = refl
among_own v (IVar u) = sym (or-false (eqb v u || false))
among_own v (Linear ts) = refl
among_own v (If i c t f) = sym (or-false (among (written t ++ written f) v))

ifs_own : (e : IntExpr) → ifs e ≡ own_ifs e + ifs_terms (body e)
unfolding ifs
ifs_own (IConst c) = refl
ifs_own (IVar u) = refl
ifs_own (Linear ts) = omega arith
ifs_own (If i c t f) = omega arith

usable_body : (n : ℕ) (e : IntExpr) → UsableInt n e → UsableTerms n (body e)
unfolding EveryIntOf
usable_body n (IConst c) h = tt
usable_body n (IVar u) h = tt
usable_body n (Linear ts) h = h
usable_body n (If i c t f) h = tt

own_size : (e : IntExpr) → length (encode_int e) ≡ own_int e + length (encode_terms (body e))
unfolding encode_int
own_size (IConst c) = refl
own_size (IVar u) = refl
own_size (Linear ts) = omega arith
own_size (If i c t f) = omega arith

-- as many Ifs as words at most
own_few : (e : IntExpr) → own_ifs e + 1 ≤ own_int e
unfolding ifs
own_few (IConst c) = omega arith
own_few (IVar u) = omega arith
own_few (Linear ts) = omega arith
own_few (If i c t f) = omega (arith, ifs_few (If i c t f))

-- every expression's own words stand in front of its terms
int_split : (ws : List ℤ) (p : ℕ) (e : IntExpr) (vs : List ℤ) → Has ws p (encode_int e ++ vs) → Has ws (p + own_int e) (encode_terms (body e) ++ vs)
unfolding encode_int
int_split ws p e vs h = go e h
  where
    m : p + 2 ≡ p + 1 + 1
    m = omega arith

    go : (e : IntExpr) → Has ws p (encode_int e ++ vs) → Has ws (p + own_int e) (encode_terms (body e) ++ vs)
    go (IConst c) h = rw m (has_rest ws (p + 1) _ _ (has_rest ws p _ _ h))
    go (IVar u) h = rw m (has_rest ws (p + 1) _ _ (has_rest ws p _ _ h))
    go (Linear ts) h = rw m (has_rest ws (p + 1) _ _ (has_rest ws p _ _ h))
    go (If i c t f) h = has_back ws p (encode_int (If i c t f)) vs h

or-true : (a : Bool) → a || true ≡ true
or-true true = refl
or-true false = refl

regroup : (a b c d : Bool) → (a || b) || (c || d) ≡ a || ((b || c) || d)
regroup = eq4 _ _ refl

-- ---- `mark`

marked_few : (f : ℕ → Bool) (n : ℕ) → marked f n ≤ n
unfolding marked
marked_few f zero = omega arith
marked_few f (suc n) = go (f n) (marked_few f n)
  where
    go : (t : Bool) → marked f n ≤ n → cond t (suc (marked f n)) (marked f n) ≤ suc n
    go true h = omega arith
    go false h = omega arith

-- one number more
marked_more : (f g : ℕ → Bool) (x n : ℕ) → x < n → f x ≡ false → g x ≡ true → ((v : ℕ) → (v ≡ x → ⊥) → g v ≡ f v) → marked g n ≡ suc (marked f n)
unfolding marked
marked_more f g x zero l p q h = absurd (omega arith)
marked_more f g x (suc n) l p q h = go (eqb n x) refl (marked_more f g x n)
  where
    go : (t : Bool) → eqb n x ≡ t → (x < n → f x ≡ false → g x ≡ true → ((v : ℕ) → (v ≡ x → ⊥) → g v ≡ f v) → marked g n ≡ suc (marked f n))
        → cond (g n) (suc (marked g n)) (marked g n) ≡ suc (cond (f n) (suc (marked f n)) (marked f n))
    go true c r =
        let e : n ≡ x = eqb-true n x c in
        let a : f n ≡ false = rw e p in
        let b : g n ≡ true = rw e q in
        rw (a, b) (ap suc (marked_cong g f n (λ v k. h v (λ d. omega arith))))
    go false c r =
        let ne : n ≡ x → ⊥ = eqb-false n x c in
        rw (h n ne, r (omega arith) p q h) (pick (f n))
      where
        pick : (t : Bool) → cond t (suc (suc (marked f n))) (suc (marked f n)) ≡ suc (cond t (suc (marked f n)) (marked f n))
        pick true = refl
        pick false = refl

module _ (marks : List Bool) (v n : ℕ) (l : length marks ≡ max_ints) where
  -- nothing new
  kept : ((u : ℕ) → u < n → has_mark marks u ≡ (has_mark marks u || eqb u v)) → Marks marks (λ u. eqb u v) 0 n marks 0
  kept h = record { size = l; each = h; gained = omega arith }

  pub mark_above : n ≤ v → Marks marks (λ u. eqb u v) 0 n marks 0
  mark_above h = kept (λ u k. rw (ne_eqb u v (λ e. omega arith)) (sym (or-false (has_mark marks u))))

  pub mark_there : has_mark marks v ≡ true → Marks marks (λ u. eqb u v) 0 n marks 0
  mark_there h = kept (λ u k. go u (eqb u v) refl)
    where
      go : (u : ℕ) (t : Bool) → eqb u v ≡ t → has_mark marks u ≡ (has_mark marks u || t)
      go u true q = let x : has_mark marks u ≡ true = ap (has_mark marks) (eqb-true u v q) ∙ h in rw x refl
      go u false q = sym (or-false (has_mark marks u))

  pub mark_new : v < n → n ≤ max_ints → has_mark marks v ≡ false → Marks marks (λ u. eqb u v) 0 n (set marks v true) 1
  mark_new h k z =
      let same : has_mark (set marks v true) v ≡ true = get_or-set_same marks v true false (omega arith) in
      let other : (u : ℕ) → (u ≡ v → ⊥) → has_mark (set marks v true) u ≡ has_mark marks u = λ u ne. get_or-set_other marks v u true false ne in
      record {
        size = length-set marks v true ∙ l;
        each = λ u b. go u same other (eqb u v) refl;
        gained = omega (arith, marked_more (has_mark marks) (has_mark (set marks v true)) v n h z same other);
      }
    where
      go : (u : ℕ) → has_mark (set marks v true) v ≡ true → ((u : ℕ) → (u ≡ v → ⊥) → has_mark (set marks v true) u ≡ has_mark marks u)
          → (t : Bool) → eqb u v ≡ t → has_mark (set marks v true) u ≡ (has_mark marks u || t)
      go u s o true q = let e : u ≡ v = eqb-true u v q in ap (has_mark (set marks v true)) e ∙ s ∙ sym (or-true (has_mark marks u))
      go u s o false q = o u (eqb-false u v q) ∙ sym (or-false (has_mark marks u))

-- ---- `mark_head`

module _ (ws : List ℤ) (at n : ℕ) (b : Behind ws at n) where
  pub head_plain : Plain ws at
  head_plain = int_plain ws at b.it b.reads.words

  pub head_inside : at + 2 ≤ length ws
  head_inside = omega (arith, int_fits ws at b.it b.reads.words, int_long b.it)

-- no mark more
same_marks : (marks : List Bool) (n : ℕ) → length marks ≡ max_ints → Marks marks (λ v. false) 0 n marks 0
same_marks marks n l = record { size = l; each = λ v k. sym (or-false (has_mark marks v)); gained = refl }

module _ (ws : List ℤ) (at n : ℕ) (marks : List Bool) (w : ℕ) (hw : get_or ws at (pos 0) ≡ pos w) where
  pub head_const : length marks ≡ max_ints → w ≡ 20 → HeadPost ws at n marks marks (at + 2) 0 0
  head_const l z e r = const_inv ws at w hw e r.words z λ c q g. rw q (refl, refl, same_marks marks n l)

  pub head_second : Behind ws at n → (w ≡ 20 → ⊥) → (w ≡ 23 → ⊥) → Plain ws (at + 1)
  head_second b z y = second_plain ws at w hw b.it b.reads.words z y

  module _ (v : ℕ) (hv : get_or ws (at + 1) (pos 0) ≡ pos v) where
    pub head_var : w ≡ 21 → (marks' : List Bool) (r : ℕ) → Marks marks (λ u. eqb u v) 0 n marks' r → HeadPost ws at n marks marks' (at + 2) 0 r
    head_var z marks' r m e h =
        var_inv ws at w hw v hv e h.words z λ q.
        rw q (refl, refl, record { size = m.size; each = λ u k. m.each u k ∙ ap (λ x. has_mark marks u || x) (sym (or-false (eqb u v))); gained = m.gained })

    pub head_sum : length marks ≡ max_ints → (w ≡ 20 → ⊥) → (w ≡ 21 → ⊥) → (w ≡ 23 → ⊥) → HeadPost ws at n marks marks (at + 2) v 0
    head_sum l a b d e h = sum_inv ws at w hw v hv e h.words a b d λ ts q k g. rw q (refl, k, same_marks marks n l)

  module _ (z : w ≡ 23) where
    the_if : {X : Type 0} (e : IntExpr) → IntAt n ws at e
        → ((i : IfIsRead) (c : BoolExpr) (t f : IntExpr) → e ≡ If i c t f → BoolAt n ws (at + 1) c → IntAt n ws (at + 1 + length (encode_bool c)) t → IntAt n ws (at + 1 + length (encode_bool c) + length (encode_int t)) f → X) → X
    the_if e r go =
        if_inv ws at w hw e r.words z λ i c t f q.
        let p = if_parts n ws at i c t f (subst (λ u. IntAt n ws at u) q r) in
        go i c t f q p.0 p.1 p.2

    pub head_condition : Behind ws at n → SomeMembers ws (at + 1) 1
    head_condition b = the_if b.it b.reads λ i c t f q hc ht hf. some_condition n ws (at + 1) c hc

    module _ (p : ℕ) (sp : SkipMembersPost ws (at + 1) 1 p) where
      pub head_left : Behind ws at n → Behind ws p n × (at < p)
      head_left b =
          the_if b.it b.reads λ i c t f q hc ht hf.
          let x = condition_skipped n ws (at + 1) p sp c hc in
          (record { it = t; reads = rw x ht; behind = omega arith }, omega arith)

      module _ (mid : List Bool) (p' r : ℕ) (wp : WrittenPost ws p n marks mid p' r) where
        left_done : {X : Type 0} (e : IntExpr) → IntAt n ws at e
            → ((i : IfIsRead) (c : BoolExpr) (t f : IntExpr) → e ≡ If i c t f → p ≡ at + 1 + length (encode_bool c) → p' ≡ p + length (encode_int t) → Marks marks (among (written t)) (ifs t) n mid r → IntAt n ws p' f → X) → X
        left_done e h go =
            the_if e h λ i c t f q hc ht hf.
            let x = condition_skipped n ws (at + 1) p sp c hc in
            let y = wp t (rw x ht) in
            let l : p' ≡ at + 1 + length (encode_bool c) + length (encode_int t) = omega (arith, x, y.0) in
            go i c t f q x y.0 y.1 (rw l hf)

        pub head_right : Behind ws at n → Behind ws p' n × (at < p') × (length mid ≡ max_ints)
        head_right b = left_done b.it b.reads λ i c t f q x y m hf. (record { it = f; reads = hf; behind = omega arith }, omega arith, m.size)

        module _ (marks' : List Bool) (p'' s : ℕ) (wp' : WrittenPost ws p' n mid marks' p'' s) where
          pub head_room : Behind ws at n → (r ≤ n + length ws) × (s ≤ n + length ws)
          head_room b =
              left_done b.it b.reads λ i c t f q x y m hf.
              let k = (wp' f hf).1 in
              let g = int_fits ws at b.it b.reads.words in
              let j = if_length n ws at i c t f in
              (omega (arith, m.gained, marked_few (has_mark mid) n, ifs_few t, g, ap (λ u. length (encode_int u)) q, j), omega (arith, k.gained, marked_few (has_mark marks') n, ifs_few f, g, ap (λ u. length (encode_int u)) q, j))

          pub head_if : HeadPost ws at n marks marks' p'' 0 (r + s + 1)
          head_if e h =
              left_done e h λ i c t f q x y m hf.
              let k = wp' f hf in
              let o = k.1 in
              rw q (
                omega (arith, k.0, if_length n ws at i c t f),
                refl,
                record {
                  size = o.size;
                  each = λ v l. o.each v l ∙ rw (m.each v l, any_append (eqb v) (written t) (written f)) (or_assoc (has_mark marks v) (among (written t) v) (among (written f) v));
                  gained = omega (arith, m.gained, o.gained);
                },
              )

-- ---- `mark_written`

pub record Pending (ws : List ℤ) (q rest n : ℕ) : Type 0 where
  pub them : Terms
  pub reads : TermsAt n ws q rest them

abbrev pub PendingPost : List ℤ → ℕ → ℕ → ℕ → List Bool → List Bool → ℕ → ℕ → Type 0
PendingPost ws q rest n marks marks' next r = (ts : Terms) → TermsAt n ws q rest ts → (next ≡ q + length (encode_terms ts)) × Marks marks (among (written_terms ts)) (ifs_terms ts) n marks' r

-- a word with what stands behind it
has_before : (ws : List ℤ) (i : ℕ) (us : List ℤ) → i < length ws → Has ws (i + 1) us → Has ws i (get_or ws i (pos 0) ∷ us)
has_before ws i us l h = ap (take (suc (length us))) (drop-cons ws i (pos 0) l) ∙ ap (λ x. get_or ws i (pos 0) ∷ x) (ap (λ n. take (length us) (drop n ws)) (sym (add-one i)) ∙ h)

module _ (ws : List ℤ) (at n : ℕ) (b : Behind ws at n) where
  one_pending : (e : IntExpr) → IntAt n ws at e → TermsAt n ws (at - 1) 1 (tmore (get_or ws (at - 1) (pos 0)) e tnil)
  unfolding encode_terms EveryIntOf
  one_pending e r =
      let z : 0 < at = b.behind in
      let m : at - 1 + 1 ≡ at = omega arith in
      let k : Has ws (at - 1 + 1) (encode_int e ++ []) = rw (m, append-nil (encode_int e)) r.words in
      record { words = has_before ws (at - 1) (encode_int e ++ []) (omega (arith, int_fits ws at e r.words, int_long e)) k; vars = (r.vars, tt); size = refl }

  pub start_pending : Pending ws (at - 1) 1 n
  start_pending = record { them = tmore (get_or ws (at - 1) (pos 0)) b.it tnil; reads = one_pending b.it b.reads }

  pub start_post : (marks marks' : List Bool) (next r : ℕ) → PendingPost ws (at - 1) 1 n marks marks' next r → WrittenPost ws at n marks marks' next r
  unfolding written ifs encode_terms
  start_post marks marks' next r p e h =
      let z : 0 < at = b.behind in
      let y = p (tmore (get_or ws (at - 1) (pos 0)) e tnil) (one_pending e h) in
      let l : next ≡ at - 1 + suc (length (encode_int e ++ [])) = y.0 in
      let k : ifs e + 0 ≡ ifs e = omega arith in
      (omega (arith, length-append (encode_int e) []), subst (λ j. Marks marks (among (written e)) j n marks' r) k (subst (λ us. Marks marks (among us) (ifs e + 0) n marks' r) (append-nil (written e)) y.1))

module _ (ws : List ℤ) (q rest n : ℕ) where
  pub none_pending : (marks : List Bool) → length marks ≡ max_ints → rest ≡ 0 → PendingPost ws q rest n marks marks q 0
  unfolding written ifs encode_terms
  none_pending marks l z tnil r = (omega arith, same_marks marks n l)
  none_pending marks l z (tmore k e ts) r = absurd (let s : rest ≡ suc (count_terms ts) = r.size in omega arith)

  module _ (z : rest ≡ 0 → ⊥) where
    pending_inv : {X : Type 0} (ts : Terms) → TermsAt n ws q rest ts
        → ((k : ℤ) (e : IntExpr) (us : Terms) → ts ≡ tmore k e us → rest ≡ suc (count_terms us) → IntAt n ws (q + 1) e → Has ws (q + 1 + own_int e) (encode_terms (join_terms (body e) us)) → UsableTerms n (join_terms (body e) us) → X) → X
    unfolding encode_terms EveryIntOf
    pending_inv tnil r go = absurd (z r.size)
    pending_inv (tmore k e us) r go =
        let g : Has ws (q + 1) (encode_int e ++ encode_terms us) = has_rest ws q k _ r.words in
        go k e us refl r.size (record { words = has_front ws (q + 1) (encode_int e) (encode_terms us) g; vars = r.vars.0 })
        (rw (encode_join (body e) us) (int_split ws (q + 1) e (encode_terms us) g)) (usable_join n (body e) us (usable_body n e r.vars.0) r.vars.1)

    pub pending_behind : Pending ws q rest n → Behind ws (q + 1) n
    pending_behind p = pending_inv p.them p.reads λ k e us t s h g u. record { it = e; reads = h; behind = omega arith }

    pub pending_inside : Pending ws q rest n → q + 3 ≤ length ws
    pending_inside p = pending_inv p.them p.reads λ k e us t s h g u. omega (arith, int_fits ws (q + 1) e h.words, int_long e)

    module _ (marks mid : List Bool) (next k c : ℕ) (hp : HeadPost ws (q + 1) n marks mid next k c) where
      joined_at : (ts : Terms) → TermsAt n ws q rest ts → (e : IntExpr) (us : Terms) → rest ≡ suc (count_terms us) → IntAt n ws (q + 1) e → Has ws (q + 1 + own_int e) (encode_terms (join_terms (body e) us)) → UsableTerms n (join_terms (body e) us)
          → TermsAt n ws next (rest - 1 + k) (join_terms (body e) us)
      joined_at ts r e us s h g u =
          let y = hp e h in
          let l : next ≡ q + 1 + own_int e = y.0 in
          record { words = rw l g; vars = u; size = omega (arith, count_join (body e) us, y.1) }

      pub pending_next : Pending ws q rest n → Pending ws next (rest - 1 + k) n × (q < next)
      pending_next p =
          pending_inv p.them p.reads λ w e us t s h g u.
          (record { them = join_terms (body e) us; reads = joined_at p.them p.reads e us s h g u }, omega (arith, (hp e h).0))

      -- what the head writes, then what is pending then
      pub pending_rest : (marks' : List Bool) (next' r : ℕ) → PendingPost ws next (rest - 1 + k) n mid marks' next' r → PendingPost ws q rest n marks marks' next' (c + r)
      unfolding written ifs encode_terms
      pending_rest marks' next' r p ts h =
          pending_inv ts h λ w e us t s g j u.
          let y = hp e g in
          let m = y.2 in
          let x = p (join_terms (body e) us) (joined_at ts h e us s g j u) in
          let o = x.1 in
          rw t (
            omega (arith, x.0, y.0, ap length (encode_join (body e) us), length-append (encode_terms (body e)) (encode_terms us), own_size e, length-append (encode_int e) (encode_terms us)),
            record { size = o.size; each = each e us m o; gained = omega (arith, m.gained, o.gained, ifs_join (body e) us, ifs_own e) },
          )
        where
          each : (e : IntExpr) (us : Terms) → Marks marks (among (own_written e)) (own_ifs e) n mid c → Marks mid (among (written_terms (join_terms (body e) us))) (ifs_terms (join_terms (body e) us)) n marks' r
              → (v : ℕ) → v < n → has_mark marks' v ≡ (has_mark marks v || among (written e ++ written_terms us) v)
          each e us m o v l =
              o.each v l
              ∙ rw (m.each v l, among_join v (body e) us, any_append (eqb v) (written e) (written_terms us), among_own v e)
              (regroup (has_mark marks v) (among (own_written e) v) (among (written_terms (body e)) v) (among (written_terms us) v))

pub pending_room : (ws : List ℤ) (q rest n : ℕ) → Pending ws q rest n → rest ≤ length ws
unfolding encode_terms
pending_room ws q rest n p = go p.them p.reads
  where
    go : (ts : Terms) → TermsAt n ws q rest ts → rest ≤ length ws
    go tnil r = let s : rest ≡ 0 = r.size in omega arith
    go (tmore k e ts) r = omega (arith, r.size, terms_long (tmore k e ts), has_fits ws q (encode_terms (tmore k e ts)) r.words (omega arith))

-- what was counted so far: k Ifs, no more than the words passed over
pub record Counted (start marks : List Bool) (n count at q : ℕ) : Type 0 where
  pub k : ℕ
  pub gained : marked (has_mark start) n + count ≡ marked (has_mark marks) n + k
  pub few : k + at ≤ q + 1

pub none_counted : (start : List Bool) (n at : ℕ) → 0 < at → Counted start start n 0 at (at - 1)
none_counted start n at z = record { k = 0; gained = refl; few = omega arith }

pub counted_next : (ws : List ℤ) (start marks mid : List Bool) (n count at q rest next k c : ℕ) → (rest ≡ 0 → ⊥) → Counted start marks n count at q → Pending ws q rest n → HeadPost ws (q + 1) n marks mid next k c
    → Counted start mid n (count + c) at next × (length mid ≡ max_ints) × (next ≤ length ws)
counted_next ws start marks mid n count at q rest next k c z h p hp =
    let y = pending_behind ws q rest n z p in
    let m = hp y.it y.reads in
    let g = h.gained in
    let f = h.few in
    (record { k = h.k + own_ifs y.it; gained = omega (arith, m.2.gained); few = omega (arith, m.0, own_few y.it) }, m.2.size, omega (arith, m.0, own_size y.it, int_fits ws (q + 1) y.it y.reads.words))

pub counted_room : (start marks : List Bool) (n count at q : ℕ) → Counted start marks n count at q → count ≤ n + (q + 1)
counted_room start marks n count at q h = omega (arith, h.gained, h.few, marked_few (has_mark marks) n)

-- ---- `many_comparison`, `many_column`

-- marks that no variable has
pub record Blank (marks : List Bool) (n : ℕ) : Type 0 where
  pub none : (v : ℕ) → v < n → has_mark marks v ≡ false

blank_marked : (f : ℕ → Bool) (n : ℕ) → ((v : ℕ) → v < n → f v ≡ false) → marked f n ≡ 0
unfolding marked
blank_marked f zero h = refl
blank_marked f (suc n) h = rw (h n (omega arith)) (blank_marked f n (λ v l. h v (omega arith)))

pub blank_of : (n : ℕ) → n ≤ max_ints → Blank (replicate max_ints false) n
blank_of n h = record { none = λ v l. get_or-replicate max_ints v false false (omega arith) }

module _ (ws : List ℤ) (a n : ℕ) (marks : List Bool) (z : Blank marks n) (mid : List Bool) (p x : ℕ) (wp : WrittenPost ws a n marks mid p x) where
  pub first_size : Behind ws a n → (length mid ≡ max_ints) × (x ≤ n + length ws)
  first_size h = let m = (wp h.it h.reads).1 in (m.size, omega (arith, m.gained, marked_few (has_mark mid) n, ifs_few h.it, int_fits ws a h.it h.reads.words))

  pub one_of : (words : ℕ) → ManyOnePost ws a words n (ltb 63 x)
  one_of words e i l =
      let m = (wp e i).1 in
      let s : x ≡ marked (has_mark mid) n + ifs e = omega (arith, m.gained, blank_marked (has_mark marks) n z.none) in
      let c : marked (has_mark mid) n ≡ marked (among (written e)) n = marked_cong (has_mark mid) (among (written e)) n (λ v k. m.each v k ∙ rw (z.none v k) refl) in
      rw (s, c) (sym (many_column_marked n e (ints_of None Any (λ v. v < n) e i.vars)))

  module _ (b : ℕ) (marks' : List Bool) (p' y : ℕ) (wp' : WrittenPost ws b n mid marks' p' y) where
    pub second_size : Behind ws b n → y ≤ n + length ws
    second_size h = let m = (wp' h.it h.reads).1 in omega (arith, m.gained, marked_few (has_mark marks') n, ifs_few h.it, int_fits ws b h.it h.reads.words)

    pub many_of : (words : ℕ) → ManyPost ws a b words n (ltb 64 (x + y))
    many_of words e f i j l =
        let m = (wp e i).1 in
        let o = (wp' f j).1 in
        let s : x + y ≡ marked (has_mark marks') n + (ifs e + ifs f) = omega (arith, m.gained, o.gained, blank_marked (has_mark marks) n z.none) in
        let c : marked (has_mark marks') n ≡ marked (either e f) n = marked_cong (has_mark marks') (either e f) n (λ v k. o.each v k ∙ rw (m.each v k, z.none v k) refl) in
        rw (s, c) (sym (many_comparison_marked n e f (ints_of None Any (λ v. v < n) e i.vars) (ints_of None Any (λ v. v < n) f j.vars)))
