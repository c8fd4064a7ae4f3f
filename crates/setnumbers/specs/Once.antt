-- An AllDifferent without Ifs: its pairs one after another leave the state that meeting each expression once leaves (`once_meets`), and meeting them asks
-- nothing of the state (`once_fits`).
use Rattle.std.specs.Prelude.{◌≡◌, false, ℕ, zero, suc, ◌+◌, ◌-◌, ◌≤◌, ◌<◌, ℤ, ltb}
use Rattle.std.proofs.Math.Path.{refl, sym, ap}
use Rattle.std.proofs.Common.{◌∙◌, subst, arith, le-ltb}
use mathlib.Core.List.{List, [], ◌∷◌, ◌++◌}
use Rattle.std.proofs.Math.ListN.{length}
use Rattle.laws.specs.Slices.{Has, has_front, has_back}
use Rattle.syntax.specs.Words.{max_ints}
use Rattle.memory.specs.Places.{limit}
use Rattle.syntax.specs.Syntax.{Domain, Ne, IntExpr, IConst, IVar, Linear, If, Terms, tnil, tmore, encode_int}
use Rattle.words.specs.Exact.{Each}
use Rattle.walk.specs.Item.{bump}
use Rattle.walks.specs.Tree.{here, splits_int, resolve_int, resolve_terms}
use Rattle.walks.specs.Form.{Forms, nil, cons, cmp, form, forms, int_form, term_forms}
use Rattle.walks.specs.Decode.{decode_int}
use Rattle.walks.specs.DecodeExact.{decode_int_is, column_stands, pair_stands}
use Rattle.walks.specs.Resolve.{pair_trees}
use Rattle.walks.specs.Legal.{LegalInt, LegalTerms}
use Rattle.walks.specs.Clear.{clear_places}
use Rattle.walks.specs.Meet.{State, more_bools, with_work, form_meet, form_meets, form_meet_int, form_meet_terms}
use Rattle.stages.specs.Pairs.{sides_words}
use Rattle.numbering.specs.Task.{Task, skip, then}
use Rattle.numbering.specs.Fits.{form_fits, int_fits, terms_fit}
use Rattle.numbering.specs.Steps.{int_at}
use Rattle.numbering.specs.Rules.{pair_task}
use Rattle.stmtwords.specs.Cleared.{pair_ifs}
use Rattle.stmtwords.specs.NoIf.{NoIf, NoIfTerms, no_splits, no_ties}
use Rattle.numbering.specs.Tasks.{clear_task, cleared_task, row_task, pairs_task}
use Rattle.setnumbers.specs.MeetVars.{HasNumber, Unmarked, meet_vars, vars_append, vars_stay, vars_kept, vars_met, vars_unmarked}

-- so many expressions from p on, each met once; ws: the words that are read
module _ (rec cap : ℕ) (ws : List ℤ) where
  unfoldable pub each_task : ℕ → ℕ → Task
  each_task zero p = skip
  each_task (suc k) p = then (int_at rec cap ws 64 here p 0) (each_task k (decode_int ws 64 here p 0).end)

-- legal expressions without Ifs stand from p on
pub record Sides (F : List ℤ) (p : ℕ) (es : List IntExpr) : Type 0 where
  pub words : Has F p (sides_words es)
  pub legal : Each (λ e. LegalInt e 64) es
  pub plain : Each NoIf es

-- so many of them
pub record PlainSides (F : List ℤ) (n p : ℕ) : Type 0 where
  pub exprs : List IntExpr
  pub count : length exprs ≡ n
  pub sides : Sides F p exprs

-- ---- the declared variables, in order

unfoldable mutual
  vars : IntExpr → List ℕ
  vars (IConst c) = []
  vars (IVar v) = v ∷ []
  vars (Linear ts) = term_vars ts
  vars (If i c t f) = []

  term_vars : Terms → List ℕ
  term_vars tnil = []
  term_vars (tmore k e ts) = vars e ++ term_vars ts

unfoldable all_vars : List IntExpr → List ℕ
all_vars [] = []
all_vars (e ∷ es) = vars e ++ all_vars es

each_join : (P : ℕ → Type 0) (us vs : List ℕ) → Each P us → Each P vs → Each P (us ++ vs)
each_join P [] vs h k = k
each_join P (u ∷ us) vs h k = (h.0, each_join P us vs h.1 k)

each_front : (P : ℕ → Type 0) (us vs : List ℕ) → Each P (us ++ vs) → Each P us
each_front P [] vs h = tt
each_front P (u ∷ us) vs h = (h.0, each_front P us vs h.1)

each_back : (P : ℕ → Type 0) (us vs : List ℕ) → Each P (us ++ vs) → Each P vs
each_back P [] vs h = h
each_back P (u ∷ us) vs h = each_back P us vs h.1

abbrev Declared : ℕ → Type 0
Declared v = v < max_ints

mutual
  unfolding LegalInt vars

  vars_low : (e : IntExpr) (l : ℕ) → LegalInt e l → Each Declared (vars e)
  vars_low (IConst c) l h = tt
  vars_low (IVar v) l h = (h.1, tt)
  vars_low (Linear ts) l h = term_vars_low ts (l - 1) h.1
  vars_low (If i c t f) l h = tt

  term_vars_low : (ts : Terms) (l : ℕ) → LegalTerms ts l → Each Declared (term_vars ts)
  term_vars_low tnil l h = tt
  term_vars_low (tmore k e ts) l h = each_join Declared (vars e) (term_vars ts) (vars_low e l h.0) (term_vars_low ts l h.1)

all_low : (es : List IntExpr) → Each (λ e. LegalInt e 64) es → Each Declared (all_vars es)
unfolding all_vars
all_low [] h = tt
all_low (e ∷ es) h = each_join Declared (vars e) (all_vars es) (vars_low e 64 h.0) (all_low es h.1)

module _ (ds : List Domain) (rec cap : ℕ) where
  -- ---- one expression

  mutual
    unfolding NoIf resolve_int form form_meet vars meet_vars

    int_meets : (e : IntExpr) (p n : ℕ) → NoIf e → (st : State) → form_meet_int ds rec cap (int_form (resolve_int e here p n)) st ≡ meet_vars ds rec cap (vars e) st
    int_meets (IConst c) p n h st = refl
    int_meets (IVar v) p n h st = refl
    int_meets (Linear ts) p n h st = terms_meet ts (p + 2) n h st
    int_meets (If i c t f) p n h st = absurd h

    terms_meet : (ts : Terms) (p n : ℕ) → NoIfTerms ts → (st : State) → form_meet_terms ds rec cap (term_forms (resolve_terms ts here p n)) st ≡ meet_vars ds rec cap (term_vars ts) st
    terms_meet tnil p n h st = refl
    terms_meet (tmore k e ts) p n h st =
        terms_meet ts (p + 1 + length (encode_int e)) (n + splits_int e here) h.1 (form_meet_int ds rec cap (int_form (resolve_int e here (p + 1) n)) st)
        ∙ ap (meet_vars ds rec cap (term_vars ts)) (int_meets e (p + 1) n h.0 st)
        ∙ sym (vars_append ds rec cap (vars e) (term_vars ts) st)

  mutual
    unfolding NoIf resolve_int form form_fits

    int_fitting : (e : IntExpr) (p n : ℕ) → NoIf e → (st : State) → int_fits ds rec cap (int_form (resolve_int e here p n)) st
    int_fitting (IConst c) p n h st = tt
    int_fitting (IVar v) p n h st = tt
    int_fitting (Linear ts) p n h st = terms_fitting ts (p + 2) n h st
    int_fitting (If i c t f) p n h st = absurd h

    terms_fitting : (ts : Terms) (p n : ℕ) → NoIfTerms ts → (st : State) → terms_fit ds rec cap (term_forms (resolve_terms ts here p n)) st
    terms_fitting tnil p n h st = tt
    terms_fitting (tmore k e ts) p n h st = (int_fitting e (p + 1) n h.0 st, terms_fitting ts (p + 1 + length (encode_int e)) (n + splits_int e here) h.1 _)

  module _ (F : List ℤ) where
    side_read : (e : IntExpr) (p n : ℕ) → LegalInt e 64 → Has F p (encode_int e) → NoIf e → n ≤ limit → decode_int F 64 here p n ≡ record { tree = int_form (resolve_int e here p n); end = p + length (encode_int e); next = n + splits_int e here }
    side_read e p n h d k l = decode_int_is e 64 here F p n h d (omega (arith, no_splits e here k, l))

    first_words : (e : IntExpr) (es : List IntExpr) (p : ℕ) → Sides F p (e ∷ es) → Has F p (encode_int e)
    first_words e es p h = has_front F p (encode_int e) (sides_words es) h.words

    sides_rest : (e : IntExpr) (es : List IntExpr) (p : ℕ) → Sides F p (e ∷ es) → Sides F (p + length (encode_int e)) es
    sides_rest e es p h = record { words = has_back F p (encode_int e) (sides_words es) h.words; legal = h.legal.1; plain = h.plain.1 }

    -- ---- each once

    each_meets : (es : List IntExpr) (p : ℕ) → Sides F p es → (st : State) → (each_task rec cap F (length es) p).meet ds st ≡ meet_vars ds rec cap (all_vars es) st
    unfolding each_task all_vars meet_vars
    each_meets [] p h st = refl
    each_meets (e ∷ es) p h st =
        rw (side_read e p 0 h.legal.0 (first_words e es p h) h.plain.0 (omega arith))
        (ap (λ (s : State). (each_task rec cap F (length es) (p + length (encode_int e))).meet ds s) (int_meets e p 0 h.plain.0 st)
        ∙ each_meets es (p + length (encode_int e)) (sides_rest e es p h) (meet_vars ds rec cap (vars e) st)
        ∙ sym (vars_append ds rec cap (vars e) (all_vars es) st))

    each_fits : (es : List IntExpr) (p : ℕ) → Sides F p es → (st : State) → (each_task rec cap F (length es) p).fits ds st
    unfolding each_task
    each_fits [] p h st = tt
    each_fits (e ∷ es) p h st = rw (side_read e p 0 h.legal.0 (first_words e es p h) h.plain.0 (omega arith)) (int_fitting e p 0 h.plain.0 st, each_fits es (p + length (encode_int e)) (sides_rest e es p h) _)

    -- ---- a pair

    -- the expressions a and b at p and q
    module _ (a b : IntExpr) (p q : ℕ) (first : LegalInt a 64) (second : LegalInt b 64) (words : Has F p (encode_int a)) (others : Has F q (encode_int b)) (plain : NoIf a) (plain₂ : NoIf b) (st : State) (h : Unmarked cap st) where
      abbrev compared : Forms
      compared = cons (cmp Ne (int_form (resolve_int a here p st.bools)) (int_form (resolve_int b here q (st.bools + splits_int a here))) false) nil

      still : with_work (clear_places (pair_ifs st.work p q) st.work) st ≡ st
      unfolding pair_ifs clear_places
      still = rw h.word refl

      no_more : (k : ℕ) → k ≡ 0 → more_bools k st ≡ st
      no_more k e = let z : bump st.bools k ≡ st.bools = omega (arith, e, h.bools) in ap (λ (n : ℕ). record { work = st.work; out = st.out; bools = n; ints = st.ints; used = st.used }) z

      forms_are : forms (pair_trees a b p q st.bools) ≡ compared
      unfolding form
      forms_are = rw (no_ties a here p st.bools plain, no_ties b here q (st.bools + splits_int a here) plain₂) refl

      both : form_meets ds rec cap compared st ≡ meet_vars ds rec cap (vars b) (meet_vars ds rec cap (vars a) st)
      unfolding form_meet
      both = int_meets b q (st.bools + splits_int a here) plain₂ _ ∙ ap (meet_vars ds rec cap (vars b)) (int_meets a p st.bools plain st)

      pair_meets : (cleared_task rec cap F p q).meet ds st ≡ meet_vars ds rec cap (vars b) (meet_vars ds rec cap (vars a) st)
      unfolding clear_task pair_task
      pair_meets =
          let n = st.bools in
          let i = no_splits a here plain in
          let j = no_splits b here plain₂ in
          let r = pair_stands a b F 64 p q n first second words others (omega (arith, i, j, h.bools)) in
          let next : (decode_int F 64 here q (decode_int F 64 here p n).next).next ≡ n + splits_int a here + splits_int b here = ap (λ (x : ℕ). (decode_int F 64 here q x).next) r.middle ∙ r.next in
          let none : (decode_int F 64 here q (decode_int F 64 here p n).next).next - n ≡ 0 = omega (arith, next, i, j) in
          ap (λ (s : State). (pair_task rec cap F p q).meet ds s) still
          ∙ ap (λ (fs : Forms). form_meets ds rec cap fs (more_bools ((decode_int F 64 here q (decode_int F 64 here p n).next).next - n) st)) (r.trees ∙ forms_are)
          ∙ ap (form_meets ds rec cap compared) (no_more _ none)
          ∙ both

    -- ---- a row

    goes_on : (st : State) → Unmarked cap st → ltb cap st.used ≡ false
    goes_on st h = le-ltb cap st.used h.used

    module _ (a : IntExpr) (p : ℕ) (legal : LegalInt a 64) (words : Has F p (encode_int a)) (plain : NoIf a) (x : Task) where
      -- its expression is met
      row_meets : (bs : List IntExpr) (q : ℕ) → Sides F q bs → (st : State) → Unmarked cap st → Each (HasNumber st) (vars a) → (row_task rec cap F p (length bs) q x).meet ds st ≡ x.meet ds (meet_vars ds rec cap (all_vars bs) st)
      unfolding row_task all_vars meet_vars
      row_meets [] q s st h m = refl
      row_meets (b ∷ bs) q s st h m =
          let d = first_words b bs q s in
          let st' = meet_vars ds rec cap (vars b) st in
          let e = pair_meets a b p q legal s.legal.0 words d plain s.plain.0 st h ∙ ap (meet_vars ds rec cap (vars b)) (vars_stay ds rec cap (vars a) st m) in
          rw (goes_on st h, (column_stands b F 64 q 0 s.legal.0 d (omega arith)).end)
          (ap (λ (y : State). (row_task rec cap F p (length bs) (q + length (encode_int b)) x).meet ds y) e
          ∙ row_meets bs (q + length (encode_int b)) (sides_rest b bs q s) st' (vars_unmarked ds rec cap (vars b) st (vars_low b 64 s.legal.0) h) (vars_kept ds rec cap (vars b) (vars a) st m)
          ∙ ap (x.meet ds) (sym (vars_append ds rec cap (vars b) (all_vars bs) st)))

      -- it need not be
      row_first : (b : IntExpr) (bs : List IntExpr) (q : ℕ) → Sides F q (b ∷ bs) → (st : State) → Unmarked cap st → (row_task rec cap F p (length (b ∷ bs)) q x).meet ds st ≡ x.meet ds (meet_vars ds rec cap (all_vars (b ∷ bs)) (meet_vars ds rec cap (vars a) st))
      unfolding row_task all_vars
      row_first b bs q s st h =
          let d = first_words b bs q s in
          let u = meet_vars ds rec cap (vars a) st in
          let l = vars_unmarked ds rec cap (vars a) st (vars_low a 64 legal) h in
          let m = vars_met ds rec cap (vars a) st (vars_low a 64 legal) h in
          rw (goes_on st h, (column_stands b F 64 q 0 s.legal.0 d (omega arith)).end)
          (ap (λ (y : State). (row_task rec cap F p (length bs) (q + length (encode_int b)) x).meet ds y) (pair_meets a b p q legal s.legal.0 words d plain s.plain.0 st h)
          ∙ row_meets bs (q + length (encode_int b)) (sides_rest b bs q s) (meet_vars ds rec cap (vars b) u) (vars_unmarked ds rec cap (vars b) u (vars_low b 64 s.legal.0) l) (vars_kept ds rec cap (vars b) (vars a) u m)
          ∙ ap (x.meet ds) (sym (vars_append ds rec cap (vars b) (all_vars bs) u)))

    -- ---- all pairs

    pairs_step : (e : IntExpr) (es : List IntExpr) (p : ℕ) (x : Task) (st : State) → Sides F p (e ∷ es)
        → (let q = p + length (encode_int e) in (pairs_task rec cap F (length (e ∷ es)) p x).meet ds st ≡ (row_task rec cap F p (length es) q (pairs_task rec cap F (length es) q x)).meet ds st)
    pairs_step e es p x st s = subst (λ (q : ℕ). (pairs_task rec cap F (length (e ∷ es)) p x).meet ds st ≡ (row_task rec cap F p (length es) q (pairs_task rec cap F (length es) q x)).meet ds st) (column_stands e F 64 p 0 s.legal.0 (first_words e es p s) (omega arith)).end (unfold pairs_task in refl)

    -- where all are met
    pairs_stay : (es : List IntExpr) (p : ℕ) (x : Task) → Sides F p es → (st : State) → Unmarked cap st → Each (HasNumber st) (all_vars es) → (pairs_task rec cap F (length es) p x).meet ds st ≡ x.meet ds st
    unfolding all_vars
    pairs_stay [] p x s st h m = unfold pairs_task in refl
    pairs_stay (e ∷ es) p x s st h m =
        let q = p + length (encode_int e) in
        let rest = pairs_task rec cap F (length es) q x in
        let k = each_back (HasNumber st) (vars e) (all_vars es) m in
        pairs_step e es p x st s
        ∙ row_meets e p s.legal.0 (first_words e es p s) s.plain.0 rest es q (sides_rest e es p s) st h (each_front (HasNumber st) (vars e) (all_vars es) m)
        ∙ ap (rest.meet ds) (vars_stay ds rec cap (all_vars es) st k)
        ∙ pairs_stay es q x (sides_rest e es p s) st h k

    pairs_meet : (a b : IntExpr) (es : List IntExpr) (p : ℕ) → Sides F p (a ∷ b ∷ es) → (st : State) → Unmarked cap st → (pairs_task rec cap F (length (a ∷ b ∷ es)) p skip).meet ds st ≡ meet_vars ds rec cap (all_vars (a ∷ b ∷ es)) st
    pairs_meet a b es p s st h =
        let q = p + length (encode_int a) in
        let k = sides_rest a (b ∷ es) p s in
        let u = meet_vars ds rec cap (vars a) st in
        let l = vars_unmarked ds rec cap (vars a) st (vars_low a 64 s.legal.0) h in
        let i = all_low (b ∷ es) k.legal in
        pairs_step a (b ∷ es) p skip st s
        ∙ row_first a p s.legal.0 (first_words a (b ∷ es) p s) s.plain.0 (pairs_task rec cap F (length (b ∷ es)) q skip) b es q k st h
        ∙ pairs_stay (b ∷ es) q skip k (meet_vars ds rec cap (all_vars (b ∷ es)) u) (vars_unmarked ds rec cap (all_vars (b ∷ es)) u i l) (vars_met ds rec cap (all_vars (b ∷ es)) u i l)
        ∙ sym (unfold all_vars in vars_append ds rec cap (vars a) (vars b ++ all_vars es) st)

    pub once_meets : (n p : ℕ) → PlainSides F n p → 2 ≤ n → (st : State) → Unmarked cap st → (pairs_task rec cap F n p skip).meet ds st ≡ (each_task rec cap F n p).meet ds st
    once_meets n p s l st h = go s.exprs s.count s.sides
      where
        go : (es : List IntExpr) → length es ≡ n → Sides F p es → (pairs_task rec cap F n p skip).meet ds st ≡ (each_task rec cap F n p).meet ds st
        go [] e k = absurd (omega arith)
        go (a ∷ []) e k = absurd (omega arith)
        go (a ∷ b ∷ es) e k = subst (λ (j : ℕ). (pairs_task rec cap F j p skip).meet ds st ≡ (each_task rec cap F j p).meet ds st) e (pairs_meet a b es p k st h ∙ sym (each_meets (a ∷ b ∷ es) p k st))

    pub once_fits : (n p : ℕ) → PlainSides F n p → (st : State) → (each_task rec cap F n p).fits ds st
    once_fits n p s st = subst (λ (j : ℕ). (each_task rec cap F j p).fits ds st) s.count (each_fits s.exprs p s.sides st)
