-- Reading is exact: `read_set xs` is `ok p []` exactly when p is well-formed and xs is `encode p`, and there is one such p.
-- Its parts (domains, cells, rows, statements) likewise, with the rest of the words. Assumes nothing.
use Rattle.std.specs.Prelude.{◌≡◌, Bool, true, false, not, cond, ℕ, zero, suc, ◌≤◌, ◌<◌, ℤ, negsuc, nat_abs, length, leb}
use Rattle.std.proofs.Math.Path.{refl, sym, ap}
use Rattle.std.proofs.Common.{◌∙◌, arith, leb-true, le-leb, lt-ltb}
use mathlib.Core.List.{List, [], ◌∷◌, ◌++◌, map, append_assoc, append-nil}
use Rattle.std.proofs.Math.IntN.{pos}
use Rattle.std.specs.Int.Signed.{lt_z}
use Rattle.laws.specs.Ints.{eqZ}
use Rattle.laws.specs.Order.{eqZ_is, not_eqZ, leZ_not}
use Rattle.laws.specs.Lists.{flat, counted}
use Rattle.syntax.specs.Words.{star_word, max_bools, max_ints, max_count, max_value, max_depth}
use Rattle.syntax.specs.Syntax.{encode_domain, encode_int, encode_cell, encode_stmt, encode, Domain, Range, Enumerative, IntExpr, Cell, star, value, Stmt, Rule, Table, AllDifferent, Problem}
use Rattle.words.specs.Parse.{Parsed, ok, refuse, parse_then, times, word, up_to, count, in_value_range, number}
use Rattle.words.specs.Exact.{Exact, refuse_ok, parse_then_ok, cond_ok, word_ok, number_words, Value, up_to_exact, count_exact, number_exact, Each, times_exact}
use Rattle.read.specs.Read.{read_range, size_at, size_of, read_rising, read_enumerative, read_domain, read_cell, read_int, read_bool, read_table, read_different, read_stmt, at_end, read_problem, read_set}
use Rattle.read.specs.WellFormed.{RisingFrom, Rising, WellDomain, WellInt, WellCell, WellRow, WellStmt, WellFormed}
use Rattle.read.proofs.ExactExpr.{int_exact, bool_exact}

-- ---- tests

-- a refusal that did not come
past : {A X : Type 0} (t : Bool) (q : Parsed A) (k : ℕ) (a : A) (r : List ℤ) → cond t (refuse k) q ≡ ok a r → (t ≡ false → q ≡ ok a r → X) → X
past true q k a r h go = refuse_ok k a r h
past false q k a r h go = go refl h

-- ---- domains

range_sound : (xs : List ℤ) (d : Domain) (r : List ℤ) → read_range xs ≡ ok d r → (pos 0 ∷ xs ≡ encode_domain d ++ r) × WellDomain d
unfolding read_range
range_sound xs d r h =
    parse_then_ok (number xs) _ d r h λ low s hl h1.
    parse_then_ok (number s) _ d r h1 λ high t hh h2.
    past (lt_z high low) (ok (Range low high) t) 7 d r h2 λ le h3.
    let m : Range low high ≡ d = cc in
    let q : t ≡ r = cc in
    let i = number_exact.sound xs low s hl in
    let j = number_exact.sound s high t hh in
    rw (← m, ← q) (ap (λ v. pos 0 ∷ v) (i.0 ∙ ap (λ v. low ∷ v) j.0), (i.1, j.1, leZ_not low high ∙ ap not le))

range_complete : (low high : ℤ) (r : List ℤ) → WellDomain (Range low high) → read_range (low ∷ high ∷ r) ≡ ok (Range low high) r
unfolding read_range
range_complete low high r h =
    rw (number_exact.complete low (high ∷ r) h.0, number_exact.complete high r h.1, below (lt_z high low) (sym (leZ_not low high) ∙ h.2)) refl
  where
    below : (t : Bool) → not t ≡ true → t ≡ false
    below true e = sym e
    below false e = refl

pub size_exact : Exact number_words (λ n. (0 < n) × (n ≤ max_count)) size_of
size_exact = record {
  sound = λ xs n r h. parse_then_ok (word xs) size_at n r h λ w s hw hs. rw (word_ok xs w s hw) (at w s n r hs);
  complete = back;
}
  where
    at : (w : ℤ) (s : List ℤ) (n : ℕ) (r : List ℤ) → size_at w s ≡ ok n r → (w ∷ s ≡ pos n ∷ r) × ((0 < n) × (n ≤ max_count))
    at (pos zero) s n r e = refuse_ok 7 n r e
    at (pos (suc m)) s n r e = cond_ok (leb (suc m) max_count) (ok (suc m) s) 4 n r e λ t q. let i : suc m ≡ n = cc in (cc, (rw (← i) (omega arith), rw (← i) (leb-true (suc m) max_count t)))
    at (negsuc m) s n r e = refuse_ok 7 n r e

    back : (n : ℕ) (r : List ℤ) → (0 < n) × (n ≤ max_count) → size_at (pos n) r ≡ ok n r
    back zero r h = absurd (omega (arith, h.0))
    back (suc n) r h = rw (le-leb (suc n) max_count h.1) refl

rising_sound : (n : ℕ) (before : ℤ) (xs l r : List ℤ) → read_rising n before xs ≡ ok l r → (xs ≡ l ++ r) × ((length l ≡ n) × (Each Value l × RisingFrom before l))
unfolding read_rising
rising_sound zero before xs l r h =
    let m : [] ≡ l = cc in
    let e : xs ≡ r = cc in
    rw (e, ← m) (refl, (refl, (tt, tt)))
rising_sound (suc n) before xs l r h =
    parse_then_ok (number xs) _ l r h λ x s hx h1.
    cond_ok (lt_z before x) _ 7 l r h1 λ lt h2.
    parse_then_ok (read_rising n x s) _ l r h2 λ ys t hy h3.
    let m : x ∷ ys ≡ l = cc in
    let e : t ≡ r = cc in
    let i = number_exact.sound xs x s hx in
    let j = rising_sound n x s ys t hy in
    rw (← m, ← e) (i.0 ∙ ap (λ v. x ∷ v) j.0, (ap suc j.1.0, ((i.1, j.1.1.0), (lt, j.1.1.1))))

rising_complete : (before : ℤ) (l r : List ℤ) → Each Value l → RisingFrom before l → read_rising (length l) before (l ++ r) ≡ ok l r
unfolding read_rising
rising_complete before [] r h k = refl
rising_complete before (x ∷ l) r h k = rw (number_exact.complete x (l ++ r) h.0, k.0, rising_complete x l r h.1 k.1) refl

-- every value is above the star
above_star : (z : ℤ) → Value z → lt_z star_word z ≡ true
above_star (pos n) h = refl
above_star (negsuc n) h = lt-ltb n 2147483647 (omega arith)

rising_any : (before : ℤ) (l : List ℤ) → RisingFrom before l → Rising l
rising_any before [] h = tt
rising_any before (x ∷ l) h = h.1

rising_star : (l : List ℤ) → Each Value l → Rising l → RisingFrom star_word l
rising_star [] h k = tt
rising_star (x ∷ l) h k = (above_star x h.0, k)

enumerative_sound : (xs : List ℤ) (d : Domain) (r : List ℤ) → read_enumerative xs ≡ ok d r → (pos 1 ∷ xs ≡ encode_domain d ++ r) × WellDomain d
unfolding read_enumerative
enumerative_sound xs d r h =
    parse_then_ok (size_of xs) _ d r h λ n s hn h1.
    parse_then_ok (read_rising n star_word s) _ d r h1 λ l t hl h2.
    let m : Enumerative l ≡ d = cc in
    let q : t ≡ r = cc in
    let i = size_exact.sound xs n s hn in
    let j = rising_sound n star_word s l t hl in
    rw (← m, ← q, j.1.0) (ap (λ v. pos 1 ∷ v) (i.0 ∙ ap (λ v. pos n ∷ v) j.0), (i.1.0, i.1.1, j.1.1.0, rising_any star_word l j.1.1.1))

enumerative_complete : (l r : List ℤ) → WellDomain (Enumerative l) → read_enumerative (pos (length l) ∷ l ++ r) ≡ ok (Enumerative l) r
unfolding read_enumerative
enumerative_complete l r h =
    rw (size_exact.complete (length l) (l ++ r) (h.0, h.1), rising_complete star_word l r h.2 (rising_star l h.2 h.3)) refl

pub domain_exact : Exact encode_domain WellDomain read_domain
unfolding read_domain
domain_exact = record {
  sound = λ xs d r h. parse_then_ok (word xs) _ d r h λ w s hw hs. rw (word_ok xs w s hw) (zero_or w s d r (eqZ w (pos 0)) refl hs);
  complete = back;
}
  where
    one : (w : ℤ) (s : List ℤ) (d : Domain) (r : List ℤ) (t : Bool) → eqZ w (pos 1) ≡ t → cond t (read_enumerative s) (refuse 5) ≡ ok d r → (w ∷ s ≡ encode_domain d ++ r) × WellDomain d
    one w s d r true e h = rw (eqZ_is w (pos 1) e) (enumerative_sound s d r h)
    one w s d r false e h = refuse_ok 5 d r h

    zero_or : (w : ℤ) (s : List ℤ) (d : Domain) (r : List ℤ) (t : Bool) → eqZ w (pos 0) ≡ t → cond t (read_range s) (cond (eqZ w (pos 1)) (read_enumerative s) (refuse 5)) ≡ ok d r → (w ∷ s ≡ encode_domain d ++ r) × WellDomain d
    zero_or w s d r true e h = rw (eqZ_is w (pos 0) e) (range_sound s d r h)
    zero_or w s d r false e h = one w s d r (eqZ w (pos 1)) refl h

    back : (d : Domain) (r : List ℤ) → WellDomain d → read_domain (encode_domain d ++ r) ≡ ok d r
    back (Range low high) r h = range_complete low high r h
    back (Enumerative l) r h = enumerative_complete l r h

-- ---- cells and rows

abbrev pub cell_words : Cell → List ℤ
cell_words c = encode_cell c ∷ []

-- the star is no value
value_not_star : (z : ℤ) → Value z → eqZ z star_word ≡ false
value_not_star z h = not_eqZ z star_word λ e. absurd (omega (arith, rw e at h))

pub cell_exact : Exact cell_words WellCell read_cell
unfolding read_cell
cell_exact = record {
  sound = λ xs c r h. parse_then_ok (word xs) _ c r h λ w s hw hs. rw (word_ok xs w s hw) (star_or w s c r (eqZ w star_word) refl hs);
  complete = back;
}
  where
    star_or : (w : ℤ) (s : List ℤ) (c : Cell) (r : List ℤ) (t : Bool) → eqZ w star_word ≡ t → cond t (ok star s) (cond (in_value_range w) (ok (value w) s) (refuse 4)) ≡ ok c r → (w ∷ s ≡ encode_cell c ∷ r) × WellCell c
    star_or w s c r true e h =
        let m : star ≡ c = cc in
        let q : s ≡ r = cc in
        rw (← m, ← q, eqZ_is w star_word e) (refl, tt)
    star_or w s c r false e h =
        cond_ok (in_value_range w) (ok (value w) s) 4 c r h λ t g.
        let m : value w ≡ c = cc in
        let q : s ≡ r = cc in
        rw (← m, ← q) (refl, leb-true (nat_abs w) max_value t)

    back : (c : Cell) (r : List ℤ) → WellCell c → read_cell (encode_cell c ∷ r) ≡ ok c r
    back star r h = refl
    back (value z) r h = rw (value_not_star z h, le-leb (nat_abs z) max_value h) refl

singles : (cs : List Cell) → flat (map cell_words cs) ≡ map encode_cell cs
singles [] = refl
singles (c ∷ cs) = ap (λ l. encode_cell c ∷ l) (singles cs)

pub row_exact : (n : ℕ) → Exact (map encode_cell) (WellRow n) (times n read_cell)
row_exact n =
    let x = times_exact cell_words WellCell read_cell cell_exact n in
    record {
      sound = λ xs cs r h. let i = x.sound xs cs r h in (i.0 ∙ ap (λ l. l ++ r) (singles cs), i.1);
      complete = λ cs r h. ap (λ l. times n read_cell (l ++ r)) (sym (singles cs)) ∙ x.complete cs r h;
    }

-- ---- statements

pub columns_exact : (nb ni n : ℕ) → Exact (λ es. flat (map encode_int es)) (λ es. (length es ≡ n) × Each (WellInt nb ni max_depth) es) (times n (read_int nb ni max_depth))
columns_exact nb ni = times_exact encode_int (WellInt nb ni max_depth) (read_int nb ni max_depth) (int_exact nb ni max_depth)

pub rows_exact : (n k : ℕ) → Exact (λ rs. flat (map (map encode_cell) rs)) (λ rs. (length rs ≡ k) × Each (WellRow n) rs) (times k (times n read_cell))
rows_exact n = times_exact (map encode_cell) (WellRow n) (times n read_cell) (row_exact n)

module _ (nb ni : ℕ) where
  table_sound : (xs : List ℤ) (c : Stmt) (r : List ℤ) → read_table nb ni xs ≡ ok c r → (pos 2 ∷ xs ≡ encode_stmt c ++ r) × WellStmt nb ni c
  unfolding read_table encode_stmt
  table_sound xs c r h =
      parse_then_ok (count xs) _ c r h λ n s hn h1.
      parse_then_ok (count s) _ c r h1 λ k t hk h2.
      parse_then_ok (times n (read_int nb ni max_depth) t) _ c r h2 λ es u he h3.
      parse_then_ok (times k (times n read_cell) u) _ c r h3 λ rs v hr h4.
      let m : Table es rs ≡ c = cc in
      let q : v ≡ r = cc in
      let i = count_exact.sound xs n s hn in
      let j = count_exact.sound s k t hk in
      let l = (columns_exact nb ni n).sound t es u he in
      let o = (rows_exact n k).sound u rs v hr in
      let all : xs ≡ pos n ∷ pos k ∷ (flat (map encode_int es) ++ flat (map (map encode_cell) rs)) ++ v =
      i.0 ∙ ap (λ z. pos n ∷ z) (j.0 ∙ ap (λ z. pos k ∷ z) (l.0 ∙ ap (λ z. flat (map encode_int es) ++ z) o.0 ∙ sym (append_assoc (flat (map encode_int es)) (flat (map (map encode_cell) rs)) v))) in
      rw (← m, ← q, l.1.0, o.1.0) (ap (λ z. pos 2 ∷ z) all, (i.1, j.1, l.1.1, o.1.1))

  table_complete : (es : List IntExpr) (rs : List (List Cell)) (r : List ℤ) → WellStmt nb ni (Table es rs)
      → read_table nb ni (pos (length es) ∷ pos (length rs) ∷ (flat (map encode_int es) ++ flat (map (map encode_cell) rs)) ++ r) ≡ ok (Table es rs) r
  unfolding read_table
  table_complete es rs r h =
      rw (append_assoc (flat (map encode_int es)) (flat (map (map encode_cell) rs)) r, count_exact.complete (length es) (pos (length rs) ∷ flat (map encode_int es) ++ (flat (map (map encode_cell) rs) ++ r)) h.0, count_exact.complete (length rs) (flat (map encode_int es) ++ (flat (map (map encode_cell) rs) ++ r)) h.1, (columns_exact nb ni (length es)).complete es (flat (map (map encode_cell) rs) ++ r) (refl, h.2), (rows_exact (length es) (length rs)).complete rs r (refl, h.3)) refl

  different_sound : (xs : List ℤ) (c : Stmt) (r : List ℤ) → read_different nb ni xs ≡ ok c r → (pos 3 ∷ xs ≡ encode_stmt c ++ r) × WellStmt nb ni c
  unfolding read_different encode_stmt
  different_sound xs c r h =
      parse_then_ok (count xs) _ c r h λ n s hn h1.
      parse_then_ok (times n (read_int nb ni max_depth) s) _ c r h1 λ es t he h2.
      let m : AllDifferent es ≡ c = cc in
      let q : t ≡ r = cc in
      let i = count_exact.sound xs n s hn in
      let l = (columns_exact nb ni n).sound s es t he in
      rw (← m, ← q, l.1.0) (ap (λ z. pos 3 ∷ z) (i.0 ∙ ap (λ z. pos n ∷ z) l.0), (i.1, l.1.1))

  different_complete : (es : List IntExpr) (r : List ℤ) → WellStmt nb ni (AllDifferent es) → read_different nb ni (pos (length es) ∷ flat (map encode_int es) ++ r) ≡ ok (AllDifferent es) r
  unfolding read_different
  different_complete es r h = rw (count_exact.complete (length es) (flat (map encode_int es) ++ r) h.0, (columns_exact nb ni (length es)).complete es r (refl, h.1)) refl

  pub stmt_exact : Exact encode_stmt (WellStmt nb ni) (read_stmt nb ni)
  unfolding read_stmt encode_stmt
  stmt_exact = record {
    sound = λ xs c r h. parse_then_ok (word xs) _ c r h λ w s hw hs. rw (word_ok xs w s hw) (rule_or w s c r (eqZ w (pos 1)) refl hs);
    complete = back;
  }
    where
      rule : (s : List ℤ) (c : Stmt) (r : List ℤ) → parse_then (read_bool nb ni max_depth s) (λ e t. ok (Rule e) t) ≡ ok c r → (pos 1 ∷ s ≡ encode_stmt c ++ r) × WellStmt nb ni c
      rule s c r h =
          parse_then_ok (read_bool nb ni max_depth s) _ c r h λ e t he h1.
          let m : Rule e ≡ c = cc in
          let q : t ≡ r = cc in
          let i = (bool_exact nb ni max_depth).sound s e t he in
          rw (← m, ← q) (ap (λ z. pos 1 ∷ z) i.0, i.1)

      different_or : (w : ℤ) (s : List ℤ) (c : Stmt) (r : List ℤ) (t : Bool) → eqZ w (pos 3) ≡ t → cond t (read_different nb ni s) (refuse 5) ≡ ok c r → (w ∷ s ≡ encode_stmt c ++ r) × WellStmt nb ni c
      different_or w s c r true e h = rw (eqZ_is w (pos 3) e) (different_sound s c r h)
      different_or w s c r false e h = refuse_ok 5 c r h

      table_or : (w : ℤ) (s : List ℤ) (c : Stmt) (r : List ℤ) (t : Bool) → eqZ w (pos 2) ≡ t → cond t (read_table nb ni s) (cond (eqZ w (pos 3)) (read_different nb ni s) (refuse 5)) ≡ ok c r → (w ∷ s ≡ encode_stmt c ++ r) × WellStmt nb ni c
      table_or w s c r true e h = rw (eqZ_is w (pos 2) e) (table_sound s c r h)
      table_or w s c r false e h = different_or w s c r (eqZ w (pos 3)) refl h

      rule_or : (w : ℤ) (s : List ℤ) (c : Stmt) (r : List ℤ) (t : Bool) → eqZ w (pos 1) ≡ t
          → cond t (parse_then (read_bool nb ni max_depth s) (λ e t. ok (Rule e) t)) (cond (eqZ w (pos 2)) (read_table nb ni s) (cond (eqZ w (pos 3)) (read_different nb ni s) (refuse 5))) ≡ ok c r → (w ∷ s ≡ encode_stmt c ++ r) × WellStmt nb ni c
      rule_or w s c r true e h = rw (eqZ_is w (pos 1) e) (rule s c r h)
      rule_or w s c r false e h = table_or w s c r (eqZ w (pos 2)) refl h

      back : (c : Stmt) (r : List ℤ) → WellStmt nb ni c → read_stmt nb ni (encode_stmt c ++ r) ≡ ok c r
      back (Rule e) r h = rw ((bool_exact nb ni max_depth).complete e r h) refl
      back (Table es rs) r h = table_complete es rs r h
      back (AllDifferent es) r h = different_complete es r h

-- ---- the set

end_ok : {X : Type 0} (q : Parsed Problem) (p : Problem) (r : List ℤ) → at_end q ≡ ok p r → (q ≡ ok p [] → [] ≡ r → X) → X
end_ok (ok a []) p r h go = let m : a ≡ p = cc in go (rw m refl) (cc)
end_ok (ok a (w ∷ s)) p r h go = refuse_ok 3 p r h
end_ok (refuse k) p r h go = refuse_ok k p r h

pub set_sound : (xs : List ℤ) (p : Problem) (r : List ℤ) → read_set xs ≡ ok p r → (xs ≡ encode p) × WellFormed p × ([] ≡ r)
unfolding read_set encode
set_sound xs p r h =
    end_ok (read_problem xs) p r h λ h0 end.
    parse_then_ok (up_to max_bools 4 xs) _ p [] h0 λ b s hb h1.
    parse_then_ok (up_to max_ints 4 s) _ p [] h1 λ i t hi h2.
    parse_then_ok (times i read_domain t) _ p [] h2 λ ds u hd h3.
    parse_then_ok (count u) _ p [] h3 λ n v hn h4.
    parse_then_ok (times n (read_stmt b i) v) _ p [] h4 λ ss x hs h5.
    let m : record { bools = b; domains = ds; stmts = ss } ≡ p = cc in
    let q : x ≡ [] = cc in
    let eb = (up_to_exact max_bools 4).sound xs b s hb in
    let ei = (up_to_exact max_ints 4).sound s i t hi in
    let ed = (times_exact encode_domain WellDomain read_domain domain_exact i).sound t ds u hd in
    let en = count_exact.sound u n v hn in
    let es = (times_exact encode_stmt (WellStmt b i) (read_stmt b i) (stmt_exact b i) n).sound v ss x hs in
    let stmts_end : v ≡ flat (map encode_stmt ss) = es.0 ∙ rw (q, append-nil (flat (map encode_stmt ss))) refl in
    let all : xs ≡ pos b ∷ (pos i ∷ flat (map encode_domain ds)) ++ (pos n ∷ flat (map encode_stmt ss)) =
    eb.0 ∙ ap (λ z. pos b ∷ z) (ei.0 ∙ ap (λ z. pos i ∷ z) (ed.0 ∙ ap (λ z. flat (map encode_domain ds) ++ z) (en.0 ∙ ap (λ z. pos n ∷ z) stmts_end))) in
    rw (← m, ed.1.0, es.1.0) (all, well b i n ds ss ed.1.0 es.1.0 eb.1 ei.1 en.1 ed.1.1 es.1.1, end)
  where
    well : (b i n : ℕ) (ds : List Domain) (ss : List Stmt) → length ds ≡ i → length ss ≡ n → b ≤ max_bools → i ≤ max_ints → n ≤ max_count
        → Each WellDomain ds → Each (WellStmt b i) ss → WellFormed (record { bools = b; domains = ds; stmts = ss })
    well b i n ds ss e f hb hi hn hd hs = record {
      few_bools = hb;
      few_ints = rw e hi;
      few_stmts = rw f hn;
      domains_well = hd;
      stmts_well = rw e hs;
    }

pub set_complete : (p : Problem) → WellFormed p → read_set (encode p) ≡ ok p []
unfolding read_set encode
set_complete p h =
    let b = p.bools in
    let ds = p.domains in
    let ss = p.stmts in
    let tail : List ℤ = counted encode_stmt ss in
    let e0 = (up_to_exact max_bools 4).complete b (pos (length ds) ∷ flat (map encode_domain ds) ++ tail) h.few_bools in
    let e1 = (up_to_exact max_ints 4).complete (length ds) (flat (map encode_domain ds) ++ tail) h.few_ints in
    let e2 = (times_exact encode_domain WellDomain read_domain domain_exact (length ds)).complete ds tail (refl, h.domains_well) in
    let e3 = count_exact.complete (length ss) (flat (map encode_stmt ss)) h.few_stmts in
    let e4 : times (length ss) (read_stmt b (length ds)) (flat (map encode_stmt ss)) ≡ ok ss [] =
    rw (append-nil (flat (map encode_stmt ss))) at ((times_exact encode_stmt (WellStmt b (length ds)) (read_stmt b (length ds)) (stmt_exact b (length ds)) (length ss)).complete ss [] (refl, h.stmts_well)) in
    rw (e0, e1, e2, e3, e4) refl

pub set_unique : (p q : Problem) → WellFormed p → WellFormed q → encode p ≡ encode q → p ≡ q
set_unique p q hp hq e =
    let h : ok p [] ≡ ok q [] = sym (set_complete p hp) ∙ ap read_set e ∙ set_complete q hq in
    cc
