-- What the walk over a form writes.
use mathlib.Core.Path.{◌≡◌, refl, sym, ap, ◌∙◌, subst}
use mathlib.Core.Bool.{Bool, true, false, not, cond}
use mathlib.Core.List.{List, [], ◌∷◌, ◌++◌, append-nil}
use Prim.Native.Nat.{ℕ, zero, suc, ◌+◌, ◌-◌, ◌≤◌}
use native.Mathlib.Omega.{arith}
use lib.IntN.{ℤ, pos}
use lib.ListN.{length, get_or}
use lib.Dec.{eqb}
use Rattle.laws.specs.Writes.{cap, Wrote, wrote_none, wrote_then, Open}
use Rattle.syntax.specs.Syntax.{op_at}
use Rattle.walk.specs.Item.{bump, is_none, bool_at, signed, Tally, tally, mode_in, fresh_in, word_of, clause_text, block, extra, pool_text}
use Rattle.walk.specs.Decode.{read_part}
use Rattle.walk.specs.declared.Counters.{Counters}
use Rattle.walk.specs.declared.Mode.{Mode}
use Rattle.walk.specs.declared.Mode.TheVariants.{Pool, One, Two, Each}
use Rattle.walk.specs.declared.Node.TheVariants.{Var, Cmp, Not, Join, Cross}
use Rattle.walk.specs.declared.Surveyed.{Surveyed}
use Rattle.walks.specs.Tree.{Splitting, here, inner}
use Rattle.walks.specs.Form.{Form}
use Rattle.walks.specs.Item.{Item, is_single, tallies, counts, pools, texts, long_texts, disj_text, form_item, var_item, num_item, cmp_item, conj_item, disj_item, cross_item}
use Rattle.walks.specs.Decode.{Read, many, step, cross_step, decode}
use Rattle.scan.specs.SurveyLaws.{counters_of, Surveys, SurveysAll}
use Rattle.scan.specs.declared.Scanned.{Scanned}
use Rattle.rulewriter.specs.Places.{item_at, items_at, compared, Tallied}
use Rattle.rulewriter.proofs.Steps.{cross_whole, Is, up, items_is}

-- ---- an expression

pub write_none : (w : List ℤ) (l : ℕ) (t : Splitting) (g : Bool) (at base : ℕ) (n : Counters) (suf : List ℤ) {out a : List ℤ} {o p : ℕ} → l ≡ 0 → Wrote out o (clause_text [] suf 0 []) a p → Wrote out o ((item_at w l t g at base).text w n suf) a p
unfolding decode form_item disj_item disj_text tallies pools long_texts counts
write_none w l t g at base n suf e x = rw e x

pub var_text : (w : List ℤ) (v : ℕ) (z : ℤ) (g : Bool) (n : Counters) (suf : List ℤ) {out a : List ℤ} {o p : ℕ} → z ≡ signed (bool_at w v) g → Wrote out o (clause_text (z ∷ []) suf 0 []) a p → Wrote out o ((var_item v g).text w n suf) a p
unfolding var_item
var_text w v z g n suf {out} {a} {o} {p} f y = subst (λ (m : ℤ). Wrote out o (clause_text (m ∷ []) suf 0 []) a p) f y

-- a split Xor or Iff: two clauses of two numbers
split_text : (w : List ℤ) (u : ℕ) (h : Bool) (q base : ℕ) (n : Counters) (suf : List ℤ) {out a : List ℤ} {o p : ℕ}
    → Wrote out o (clause_text (word_of (base + 1) false ∷ word_of (base + 1 + 1) h ∷ []) suf 0 [] ++ clause_text (word_of (base + 1) true ∷ word_of (base + 1 + 1) (not h) ∷ []) suf 0 []) a p
    → Wrote out o ((form_item [] (cross_step (decode (read_part w) u) here h q base).tree).text w n suf) a p
unfolding cross_step form_item cross_item num_item disj_text tallies pools long_texts counts
split_text w u h q base n suf x = x

-- both disjunctions of one that is not split
pub cross_text : (w : List ℤ) (u : ℕ) (t : Splitting) (h : Bool) (q base : ℕ) (n : Counters) (suf : List ℤ) (x v : Scanned) → SurveysAll w u t 2 false h q base n x → SurveysAll w u t 2 true (not h) q base (counters_of x) v
    → (y b : ℕ) → y ≡ fresh_in (mode_in x.part.longs x.part.lits x.part.cmps) x.part.longs → b ≡ bump v.part.n y
    → {out c a : List ℤ} {o r p : ℕ} → length out ≤ cap
    → Wrote out o (disj_text (items_at w u t 2 false h q base) w n v.part.n suf) c r → Wrote c r (disj_text (items_at w u t 2 true (not h) q base) w (counters_of x) b suf) a p
    → Wrote out o ((cross_item (items_at w u t 2 false h q base) (items_at w u t 2 true (not h) q base)).text w n suf) a p
unfolding cross_item
cross_text w u t h q base n suf x v f f' y b hy hb m i j =
    rw (← f.found.unit [], ← f.found.count [], ← f'.found.count [], ← hy, ← hb) (wrote_then m i j)

module _ (w : List ℤ) (l u : ℕ) (t : Splitting) (g : Bool) (at base : ℕ) (z : l ≡ 0 → ⊥) (hu : u ≡ l - 1) (n : Counters) (suf out : List ℤ) (o : ℕ) (a : List ℤ) (p : ℕ) where
  abbrev Goal : Type 0
  Goal = Wrote out o ((item_at w l t g at base).text w n suf) a p

  abbrev Of : Read → Type 0
  Of r = Wrote out o ((form_item [] r.tree).text w n suf) a p

  pub write_var : (v q : ℕ) → Is w l u t g at base z hu (Var v q) → Wrote out o ((var_item v g).text w n suf) a p → Goal
  unfolding step form_item
  write_var v q e y = up w l u t g at base z hu Of (Var v q) e y

  pub write_cmp : (k q : ℕ) (j : Splitting) → j ≡ inner t → Is w l u t g at base z hu (Cmp k q) → Wrote out o (clause_text [] suf 1 (compared w u j q base n (op_at k) g)) a p → Goal
  unfolding step form_item cmp_item
  write_cmp k q j hj e x = up w l u t g at base z hu Of (Cmp k q) e (rw (← hj) x)

  pub write_not : (q : ℕ) → Is w l u t g at base z hu (Not q) → Wrote out o ((item_at w u t (not g) q base).text w n suf) a p → Goal
  unfolding step
  write_not q e x = up w l u t g at base z hu Of (Not q) e x

  pub write_conj : (k : ℕ) (c d : Bool) (q : ℕ) → Is w l u t g at base z hu (Join false k c d q) → Wrote out o (texts (items_at w u t k c d q base) w n suf) a p → Goal
  unfolding step form_item conj_item
  write_conj k c d q e x = up w l u t g at base z hu Of (Join false k c d q) e x

  pub write_disjoint : (k : ℕ) (c d : Bool) (q : ℕ) → Is w l u t g at base z hu (Join true k c d q) → (x : Scanned) → SurveysAll w u t k c d q base n x
      → Wrote out o (disj_text (items_at w u t k c d q base) w n x.part.n suf) a p → Goal
  unfolding step form_item disj_item
  write_disjoint k c d q e x f y = up w l u t g at base z hu Of (Join true k c d q) e (subst (λ (m : Counters). Wrote out o (disj_text (items_at w u t k c d q base) w n m.bools suf) a p) (f.found.count []) y)

  pub write_split : (h : Bool) (q : ℕ) → t ≡ here → Is w l u t g at base z hu (Cross h q)
      → Wrote out o (clause_text (word_of (base + 1) false ∷ word_of (base + 1 + 1) h ∷ []) suf 0 [] ++ clause_text (word_of (base + 1) true ∷ word_of (base + 1 + 1) (not h) ∷ []) suf 0 []) a p → Goal
  unfolding step
  write_split h q ht e x = up w l u t g at base z hu Of (Cross h q) e (subst (λ (t : Splitting). Wrote out o ((form_item [] (cross_step (decode (read_part w) u) t h q base).tree).text w n suf) a p) (sym ht) (split_text w u h q base n suf x))

  pub write_cross : (h : Bool) (q : ℕ) (j : Splitting) → j ≡ inner t → (t ≡ here → ⊥) → Is w l u t g at base z hu (Cross h q)
      → Wrote out o ((cross_item (items_at w u j 2 false h q base) (items_at w u j 2 true (not h) q base)).text w n suf) a p → Goal
  unfolding step form_item
  write_cross h q j hj ht e x = up w l u t g at base z hu Of (Cross h q) e (subst (λ (f : Form). Wrote out o ((form_item [] f).text w n suf) a p) (sym (cross_whole (decode (read_part w) u) t h q base ht)) (rw (← hj) x))

-- ---- members

pub texts_none : (w : List ℤ) (l : ℕ) (t : Splitting) (k : ℕ) (g h : Bool) (at base : ℕ) (n : Counters) (suf : List ℤ) {out : List ℤ} {o : ℕ} → k ≡ 0 → Open out o → Wrote out o (texts (items_at w l t k g h at base) w n suf) out o
unfolding many form_item texts
texts_none w l t k g h at base n suf {out} {o} e i = rw e (wrote_none out o i.low)

pub longs_none : (w : List ℤ) (l : ℕ) (t : Splitting) (k : ℕ) (g h : Bool) (at base : ℕ) (n : Counters) (suf : List ℤ) (d : Mode) (b : ℕ) (ls : List ℤ) (j : ℕ) {out : List ℤ} {o : ℕ} → k ≡ 0 → Open out o
    → Wrote out o (long_texts d b ls (items_at w l t k g h at base) w n j suf) out o
unfolding many form_item long_texts
longs_none w l t k g h at base n suf d b ls j {out} {o} e i = rw e (wrote_none out o i.low)

not_none : (x : ℕ) → (x ≡ 0 → ⊥) → is_none x ≡ false
not_none zero h = absurd (h refl)
not_none (suc x) h = refl

module _ (w : List ℤ) (l : ℕ) (t : Splitting) (k : ℕ) (g h : Bool) (at base : ℕ) (n : Counters) (suf : List ℤ) (z : k ≡ 0 → ⊥) (s : Scanned) (hs : Surveys w l t g at base n s) where
  abbrev this : Item
  this = item_at w l t g at base

  abbrev rest : List Item
  rest = items_at w l t (k - 1) h h s.part.at s.part.base

  pub texts_more : {out a b : List ℤ} {o p q : ℕ} → Open out o → Wrote out o (this.text w n suf) a p → Wrote a p (texts rest w (counters_of s) suf) b q
      → Wrote out o (texts (items_at w l t k g h at base) w n suf) b q
  unfolding texts
  texts_more c x y = rw (items_is w l t k g h at base z s.part.at s.part.base hs.skips, ← hs.found.count []) (wrote_then c.room x y)

  module _ (d : Mode) (b : ℕ) (ls : List ℤ) (j : ℕ) where
    pub longs_skip : {out c : List ℤ} {o q : ℕ} → s.part.longs ≡ 0 → Wrote out o (long_texts d b ls rest w (counters_of s) j suf) c q → Wrote out o (long_texts d b ls (items_at w l t k g h at base) w n j suf) c q
    unfolding long_texts
    longs_skip c y =
        let e : is_single this ≡ true = ap (λ (t : Tally). is_none t.longs) (sym (hs.found.unit [])) ∙ ap is_none c in
        rw (items_is w l t k g h at base z s.part.at s.part.base hs.skips, e, ← hs.found.count []) y

    pub longs_more : {out a c : List ℤ} {o p q : ℕ} → (s.part.longs ≡ 0 → ⊥) → Open out o → (suf' : List ℤ) → suf' ≡ extra d b ls j ++ suf
        → Wrote out o (this.text w n suf') a p → Wrote a p (long_texts d b ls rest w (counters_of s) (j + 1) suf) c q
        → Wrote out o (long_texts d b ls (items_at w l t k g h at base) w n j suf) c q
    unfolding long_texts
    longs_more f i suf' hf x y =
        let e : is_single this ≡ false = ap (λ (t : Tally). is_none t.longs) (sym (hs.found.unit [])) ∙ not_none s.part.longs f in
        rw (items_is w l t k g h at base z s.part.at s.part.base hs.skips, e, ← hs.found.count []) (wrote_then i.room (rw hf at x) y)

-- ---- a disjunction

longs_empty : (is : List Item) (d : Mode) (b : ℕ) (ls w : List ℤ) (n : Counters) (k : ℕ) (suf : List ℤ) → (tallies is).longs ≡ 0 → long_texts d b ls is w n k suf ≡ []
unfolding long_texts tallies
longs_empty [] d b ls w n k suf h = refl
longs_empty (i ∷ is) d b ls w n k suf h =
    let e : i.unit.longs ≡ 0 = omega arith in
    rw e (longs_empty is d b ls w (i.count w n) k suf (omega arith))

longs_same : (is : List Item) (d : Mode) (b : ℕ) (ls ls' w : List ℤ) (n : Counters) (k : ℕ) (suf : List ℤ) → ((j : ℕ) → extra d b ls j ≡ extra d b ls' j)
    → long_texts d b ls is w n k suf ≡ long_texts d b ls' is w n k suf
unfolding long_texts
longs_same [] d b ls ls' w n k suf h = refl
longs_same (i ∷ is) d b ls ls' w n k suf h = rw (h k, longs_same is d b ls ls' w (i.count w n) k suf h, longs_same is d b ls ls' w (i.count w n) (k + 1) suf h) refl

pool_longs : (x l k : ℕ) → mode_in x l k ≡ Pool → x ≡ 0
pool_longs zero l k e = refl
pool_longs (suc zero) zero zero e = absurd (let z : ◌≡◌ {A = ℕ} 0 1 = cc in omega arith)
pool_longs (suc zero) (suc zero) zero e = absurd (let z : ◌≡◌ {A = ℕ} 0 1 = cc in omega arith)
pool_longs (suc zero) (suc (suc l)) zero e = absurd (let z : ◌≡◌ {A = ℕ} 0 1 = cc in omega arith)
pool_longs (suc zero) l (suc k) e = absurd (let z : ◌≡◌ {A = ℕ} 0 1 = cc in omega arith)
pool_longs (suc (suc zero)) zero zero e = absurd (let z : ◌≡◌ {A = ℕ} 0 1 = cc in omega arith)
pool_longs (suc (suc zero)) zero (suc k) e = absurd (let z : ◌≡◌ {A = ℕ} 0 1 = cc in omega arith)
pool_longs (suc (suc zero)) (suc l) k e = absurd (let z : ◌≡◌ {A = ℕ} 0 1 = cc in omega arith)
pool_longs (suc (suc (suc x))) l k e = absurd (let z : ◌≡◌ {A = ℕ} 0 1 = cc in omega arith)

one_lits : (x l k : ℕ) → mode_in x l k ≡ One → l ≤ 1
one_lits x zero k e = omega arith
one_lits x (suc zero) k e = omega arith
one_lits zero (suc (suc l)) k e = absurd (let z : ◌≡◌ {A = ℕ} 0 1 = cc in omega arith)
one_lits (suc zero) (suc (suc l)) zero e = absurd (let z : ◌≡◌ {A = ℕ} 0 1 = cc in omega arith)
one_lits (suc zero) (suc (suc l)) (suc k) e = absurd (let z : ◌≡◌ {A = ℕ} 0 1 = cc in omega arith)
one_lits (suc (suc zero)) (suc (suc l)) k e = absurd (let z : ◌≡◌ {A = ℕ} 0 1 = cc in omega arith)
one_lits (suc (suc (suc x))) (suc (suc l)) k e = absurd (let z : ◌≡◌ {A = ℕ} 0 1 = cc in omega arith)

pub one_lit : (ls one : List ℤ) (r x y k : ℕ) → length ls ≡ y → mode_in x y k ≡ One → Wrote (pos 0 ∷ []) 0 ls one r → cond (eqb y 1) (get_or one 0 (pos 0) ∷ []) [] ≡ ls
one_lit [] one r x y k e f w = rw (← e)
one_lit (a ∷ []) one r x y k e f w = rw (← e, w.words)
one_lit (a ∷ b ∷ ls) one r x y k e f w = absurd (omega (arith, one_lits x y k f))

module _ (is : List Item) (w : List ℤ) (n : Counters) (b : ℕ) (suf : List ℤ) (x : Surveyed) (hx : tally x.longs x.lits x.cmps x.lines ≡ tallies is) where
  disj_is : (M : Mode) → mode_in x.longs x.lits x.cmps ≡ M
      → disj_text is w n b suf ≡ long_texts M b (pools is true w n) is w n 0 suf ++ pool_text M b x.longs (pools is true w n) x.cmps (pools is false w n) suf
  unfolding disj_text
  disj_is M e = rw (← hx, e)

  module _ {out a : List ℤ} {o p : ℕ} where
    pub disj_pool : mode_in x.longs x.lits x.cmps ≡ Pool → Wrote out o (clause_text (pools is true w n) (block b x.longs ++ suf) x.cmps (pools is false w n)) a p → Wrote out o (disj_text is w n b suf) a p
    disj_pool e y =
        let z : (tallies is).longs ≡ 0 = ap (λ (t : Tally). t.longs) (sym hx) ∙ pool_longs x.longs x.lits x.cmps e in
        subst (λ (v : List ℤ). Wrote out o v a p)
        (sym (disj_is Pool e ∙ ap (λ (v : List ℤ). v ++ clause_text (pools is true w n) (block b x.longs ++ suf) x.cmps (pools is false w n)) (longs_empty is Pool b (pools is true w n) w n 0 suf z))) y

    pub disj_pass : (ls : List ℤ) → mode_in x.longs x.lits x.cmps ≡ One → ls ≡ pools is true w n → Wrote out o (long_texts One b ls is w n 0 suf) a p → Wrote out o (disj_text is w n b suf) a p
    disj_pass ls e f y = subst (λ (v : List ℤ). Wrote out o v a p) (sym (disj_is One e ∙ append-nil _)) (rw f at y)

    pub disj_two : (ls : List ℤ) → mode_in x.longs x.lits x.cmps ≡ Two → Wrote out o (long_texts Two b ls is w n 0 suf) a p → Wrote out o (disj_text is w n b suf) a p
    disj_two ls e y = subst (λ (v : List ℤ). Wrote out o v a p) (longs_same is Two b ls (pools is true w n) w n 0 suf (λ j. refl) ∙ sym (disj_is Two e ∙ append-nil _)) y

    pub disj_each : (ls : List ℤ) → mode_in x.longs x.lits x.cmps ≡ Each → Open out o → {c : List ℤ} {q : ℕ} → Wrote out o (long_texts Each b ls is w n 0 suf) c q
        → Wrote c q (clause_text (pools is true w n) (block b x.longs ++ suf) x.cmps (pools is false w n)) a p → Wrote out o (disj_text is w n b suf) a p
    disj_each ls e l {c} {q} y v =
        subst (λ (v : List ℤ). Wrote out o v a p) (sym (disj_is Each e))
        (wrote_then l.room (subst (λ (v : List ℤ). Wrote out o v c q) (longs_same is Each b ls (pools is true w n) w n 0 suf (λ j. refl)) y) v)

-- the tally of a survey
pub tallied : {w : List ℤ} {l : ℕ} {t : Splitting} {k : ℕ} {g h : Bool} {at base : ℕ} {n : Counters} {x : Scanned} → SurveysAll w l t k g h at base n x → Tallied w l t k g h at base x.part
tallied f = record { unit = f.found.unit []; room = omega (arith, f.found.room, f.skips.inside) }
