-- What the walk over single members writes.
use mathlib.Core.Path.{◌≡◌, refl, sym, ap, ◌∙◌, subst}
use mathlib.Core.Bool.{Bool, true, false, not, cond}
use mathlib.Core.List.{List, [], ◌∷◌, ◌++◌, append_assoc}
use Prim.Native.Nat.{ℕ, zero, suc, ◌+◌, ◌-◌, ◌≤◌}
use native.Mathlib.Omega.{arith}
use lib.IntN.{ℤ, pos}
use lib.ListN.{length, length-append}
use Rattle.laws.specs.Writes.{Wrote, wrote_none, wrote_then, Open}
use Rattle.memory.specs.Places.{folded_end}
use Rattle.syntax.specs.Syntax.{op_at}
use Rattle.walk.specs.Item.{bool_at, signed, is_none, Tally, closed, long, disj_lines, lines_of, word_of, clause_text, block}
use Rattle.walk.specs.Decode.{read_part}
use Rattle.walk.specs.declared.Counters.{Counters}
use Rattle.walk.specs.declared.Node.TheVariants.{Var, Cmp, Not, Join, Cross}
use Rattle.walks.specs.Tree.{Splitting, never, below, here, inner}
use Rattle.walks.specs.Form.{Form, var, num, cmp, conj, disj, cross, tied, Forms, nil, cons}
use Rattle.walks.specs.Item.{Item, tallies, pools, form_item, form_items, var_item, num_item, cmp_item, conj_item, disj_item, cross_item, tied_item}
use Rattle.walks.specs.Decode.{Read, many, step, cross_step, decode}
use Rattle.scan.specs.Skip.{Skips}
use Rattle.scan.specs.SurveyLaws.{Surveys, counters_of}
use Rattle.scan.specs.declared.Scanned.{Scanned}
use Rattle.output.specs.declared.Suffix.{Suffix}
use Rattle.output.specs.Suffix.{Stacked, suffix}
use Rattle.output.proofs.Laws.{word_pos, then_low, suffix_length, block_length}
use Rattle.rulewriter.specs.Places.{item_at, items_at, compared, share}
use Rattle.rulewriter.proofs.Steps.{Is, down, up, items_is}

abbrev item : Form → Item
item t = form_item [] t

abbrev items : Forms → List Item
items ts = form_items [] ts

-- ---- counts and lists

long_is : (t : Tally) → ((closed t).longs ≡ 0 → ⊥) → is_none t.longs ≡ false
unfolding closed
long_is t h = go t.longs refl
  where
    go : (x : ℕ) → t.longs ≡ x → is_none x ≡ false
    go zero e = absurd (h (rw e))
    go (suc x) e = refl

none_is : (t : Tally) → (closed t).longs ≡ 0 → is_none t.longs ≡ true
unfolding closed
none_is t h = go t.longs refl
  where
    go : (x : ℕ) → t.longs ≡ x → is_none x ≡ true
    go zero e = refl
    go (suc x) e = absurd (let z : ◌≡◌ {A = ℕ} 1 0 = rw e at h in omega arith)

pub long_pool : (t : Form) (b : Bool) (w : List ℤ) (n : Counters) → ((item t).unit.longs ≡ 0 → ⊥) → (item t).pool b w n ≡ []
unfolding form_item var_item num_item cmp_item conj_item disj_item cross_item tied_item
long_pool (var v g) b w n h = absurd (h refl)
long_pool (num k g) b w n h = absurd (h refl)
long_pool (cmp o x y g) b w n h = absurd (h refl)
long_pool (conj ts) b w n h = refl
long_pool (disj ts) b w n h = rw (long_is (tallies (items ts)) h)
long_pool (cross ts us) b w n h = refl
long_pool (tied v t u) b w n h = refl

disj_lits : (is : List Item) (w : List ℤ) (n : Counters) → length (pools is true w n) ≡ (tallies is).lits → (b : Bool) → length (cond b (pools is true w n) []) ≡ (cond b (tallies is) (long (disj_lines (tallies is)))).lits
disj_lits is w n p true = p
disj_lits is w n p false = refl

-- as many literals as the tally says
mutual
  unfolding form_item var_item num_item cmp_item conj_item disj_item cross_item tied_item closed tallies pools

  pub item_lits : (t : Form) (w : List ℤ) (n : Counters) → length ((item t).pool true w n) ≡ (item t).unit.lits
  item_lits (var v g) w n = refl
  item_lits (num k g) w n = refl
  item_lits (cmp o x y g) w n = refl
  item_lits (conj ts) w n = refl
  item_lits (disj ts) w n = disj_lits (items ts) w n (items_lits ts w n) (is_none (tallies (items ts)).longs)
  item_lits (cross ts us) w n = refl
  item_lits (tied v t u) w n = refl

  pub items_lits : (ts : Forms) (w : List ℤ) (n : Counters) → length (pools (items ts) true w n) ≡ (tallies (items ts)).lits
  items_lits nil w n = refl
  items_lits (cons t ts) w n = length-append ((item t).pool true w n) (pools (items ts) true w ((item t).count w n)) ∙ rw (item_lits t w n, items_lits ts w ((item t).count w n)) refl

empty_list : (ws : List ℤ) → length ws ≡ 0 → ws ≡ []
empty_list [] h = refl
empty_list (w ∷ ws) h = absurd (omega arith)

disj_none : (is : List Item) (w : List ℤ) (n : Counters) (b : Bool) → ((tallies is).cmps ≡ 0 → pools is false w n ≡ []) → (cond b (tallies is) (long (disj_lines (tallies is)))).cmps ≡ 0 → cond b (pools is false w n) [] ≡ []
disj_none is w n true p h = p h
disj_none is w n false p h = refl

-- no comparison where the tally says none
mutual
  unfolding form_item var_item num_item cmp_item conj_item disj_item cross_item tied_item closed tallies pools

  item_cmps : (t : Form) (w : List ℤ) (n : Counters) → (item t).unit.cmps ≡ 0 → (item t).pool false w n ≡ []
  item_cmps (var v g) w n h = refl
  item_cmps (num k g) w n h = refl
  item_cmps (cmp o x y g) w n h = absurd (omega arith)
  item_cmps (conj ts) w n h = refl
  item_cmps (disj ts) w n h = disj_none (items ts) w n (is_none (tallies (items ts)).longs) (λ e. items_cmps ts w n e) h
  item_cmps (cross ts us) w n h = refl
  item_cmps (tied v t u) w n h = refl

  items_cmps : (ts : Forms) (w : List ℤ) (n : Counters) → (tallies (items ts)).cmps ≡ 0 → pools (items ts) false w n ≡ []
  items_cmps nil w n h = refl
  items_cmps (cons t ts) w n h = rw (item_cmps t w n (omega arith), items_cmps ts w ((item t).count w n) (omega arith)) refl

items_none : (ts : Forms) (w : List ℤ) (n : Counters) (b : Bool) → share b (tallies (items ts)) ≡ 0 → pools (items ts) b w n ≡ []
items_none ts w n true e = empty_list _ (items_lits ts w n ∙ e)
items_none ts w n false e = items_cmps ts w n e

either_zero : (b : Bool) → ◌≡◌ {A = ℕ} (cond b 0 0) 0
either_zero true = refl
either_zero false = refl

long_share : (t : Form) (b : Bool) → ((item t).unit.longs ≡ 0 → ⊥) → share b (item t).unit ≡ 0
unfolding form_item var_item num_item cmp_item conj_item disj_item cross_item tied_item closed
long_share (var v g) b h = absurd (h refl)
long_share (num k g) b h = absurd (h refl)
long_share (cmp o x y g) b h = absurd (h refl)
long_share (conj ts) b h = either_zero b
long_share (disj ts) b h = rw (long_is (tallies (items ts)) h) (either_zero b)
long_share (cross ts us) b h = either_zero b
long_share (tied v t u) b h = either_zero b

pub unit_long : (t : Form) → ((item t).unit.longs ≡ 0 → ⊥) → (item t).unit ≡ long (item t).unit.lines
unfolding form_item var_item num_item cmp_item conj_item disj_item cross_item tied_item closed
unit_long (var v g) h = absurd (h refl)
unit_long (num k g) h = absurd (h refl)
unit_long (cmp o x y g) h = absurd (h refl)
unit_long (conj ts) h = refl
unit_long (disj ts) h = rw (long_is (tallies (items ts)) h) refl
unit_long (cross ts us) h = refl
unit_long (tied v t u) h = refl

pub long_lines : (t : Form) → ((item t).unit.longs ≡ 0 → ⊥) → lines_of (item t).unit ≡ (item t).unit.lines
unfolding lines_of
long_lines t h = ap lines_of (unit_long t h)

-- ---- leaves

module _ (w : List ℤ) (g b : Bool) (n : Counters) {out a : List ℤ} {o p : ℕ} where
  pub pool_lit : (v : ℕ) (z : ℤ) → b ≡ true → z ≡ signed (bool_at w v) g → Wrote out o (z ∷ []) a p → Wrote out o ((var_item v g).pool b w n) a p
  unfolding var_item
  pool_lit v z e f y = rw e (subst (λ (m : ℤ). Wrote out o (m ∷ []) a p) f y)

pub pool_lit_none : (w : List ℤ) (g b : Bool) (n : Counters) {out : List ℤ} {o : ℕ} → Open out o → (v : ℕ) → b ≡ false → Wrote out o ((var_item v g).pool b w n) out o
unfolding var_item
pool_lit_none w g b n {out} {o} i v e = rw e (wrote_none out o i.low)

-- of a comparison, where b asks for literals, and where not
pub cmp_none : (b : Bool) (ks : List ℤ) {out : List ℤ} {o : ℕ} → b ≡ true → Open out o → Wrote out o (cond b [] ks) out o
cmp_none b ks {out} {o} e i = rw e (wrote_none out o i.low)

pub cmp_some : (b : Bool) (ks : List ℤ) {out a : List ℤ} {o p : ℕ} → b ≡ false → Wrote out o ks a p → Wrote out o (cond b [] ks) a p
cmp_some b ks e x = rw e x

-- ---- an expression

pub pool_none : (w : List ℤ) (l : ℕ) (t : Splitting) (g : Bool) (at base : ℕ) (b : Bool) (n : Counters) {out : List ℤ} {o : ℕ} → l ≡ 0 → Open out o → Wrote out o ((item_at w l t g at base).pool b w n) out o
unfolding decode form_item disj_item tallies pools
pool_none w l t g at base b n {out} {o} e h = rw e (wrote_none out o h.low)

module _ (w : List ℤ) (l u : ℕ) (t : Splitting) (g : Bool) (at base : ℕ) (z : l ≡ 0 → ⊥) (hu : u ≡ l - 1) where
  abbrev Single : Type 0
  Single = (item_at w l t g at base).unit.longs ≡ 0

  pub single_not : (q : ℕ) → Is w l u t g at base z hu (Not q) → Single → (item_at w u t (not g) q base).unit.longs ≡ 0
  unfolding step
  single_not q e = down w l u t g at base z hu (λ (r : Read). (item r.tree).unit.longs ≡ 0) (Not q) e

  pub share_not : (b : Bool) (j q : ℕ) → Is w l u t g at base z hu (Not q) → j ≡ share b (item_at w l t g at base).unit → j ≡ share b (item_at w u t (not g) q base).unit
  unfolding step
  share_not b j q e = down w l u t g at base z hu (λ (r : Read). j ≡ share b (item r.tree).unit) (Not q) e

  disj_single : (k : ℕ) (c d : Bool) (q : ℕ) → Is w l u t g at base z hu (Join true k c d q) → Single → is_none (tallies (items_at w u t k c d q base)).longs ≡ true
  unfolding step form_item disj_item
  disj_single k c d q e s = none_is (tallies (items_at w u t k c d q base)) (down w l u t g at base z hu (λ (r : Read). (item r.tree).unit.longs ≡ 0) (Join true k c d q) e s)

  pub share_disj : (b : Bool) (j k : ℕ) (c d : Bool) (q : ℕ) → Is w l u t g at base z hu (Join true k c d q) → Single → j ≡ share b (item_at w l t g at base).unit → j ≡ share b (tallies (items_at w u t k c d q base))
  unfolding step form_item disj_item closed
  share_disj b j k c d q e s x = rw (disj_single k c d q e s) at (down w l u t g at base z hu (λ (r : Read). j ≡ share b (item r.tree).unit) (Join true k c d q) e x)

  module _ (b : Bool) (n : Counters) (out : List ℤ) (o : ℕ) (a : List ℤ) (p : ℕ) where
    abbrev Goal : Type 0
    Goal = Wrote out o ((item_at w l t g at base).pool b w n) a p

    abbrev Of : Read → Type 0
    Of r = Wrote out o ((item r.tree).pool b w n) a p

    pub pool_var : (v q : ℕ) → Is w l u t g at base z hu (Var v q) → Wrote out o ((var_item v g).pool b w n) a p → Goal
    unfolding step form_item
    pool_var v q e x = up w l u t g at base z hu Of (Var v q) e x

    pub pool_cmp : (k q : ℕ) (j : Splitting) → j ≡ inner t → Is w l u t g at base z hu (Cmp k q) → Wrote out o (cond b [] (compared w u j q base n (op_at k) g)) a p → Goal
    unfolding step form_item cmp_item
    pool_cmp k q j hj e x = up w l u t g at base z hu Of (Cmp k q) e (rw (← hj) x)

    pub pool_not : (q : ℕ) → Is w l u t g at base z hu (Not q) → Wrote out o ((item_at w u t (not g) q base).pool b w n) a p → Goal
    unfolding step
    pool_not q e x = up w l u t g at base z hu Of (Not q) e x

    pub pool_disj : (k : ℕ) (c d : Bool) (q : ℕ) → Is w l u t g at base z hu (Join true k c d q) → Single → Wrote out o (pools (items_at w u t k c d q base) b w n) a p → Goal
    unfolding step form_item disj_item
    pool_disj k c d q e s x = up w l u t g at base z hu Of (Join true k c d q) e (rw (disj_single k c d q e s) x)

  module _ (b : Bool) (n : Counters) {out : List ℤ} {o : ℕ} (h : Open out o) where
    pub pool_conj : (k : ℕ) (c d : Bool) (q : ℕ) → Is w l u t g at base z hu (Join false k c d q) → Wrote out o ((item_at w l t g at base).pool b w n) out o
    unfolding step form_item conj_item
    pool_conj k c d q e = up w l u t g at base z hu (λ (r : Read). Wrote out o ((item r.tree).pool b w n) out o) (Join false k c d q) e (wrote_none out o h.low)

    split_none : (f : Bool) (q : ℕ) (t : Splitting) → Wrote out o ((item (cross_step (decode (read_part w) u) t f q base).tree).pool b w n) out o
    unfolding cross_step form_item cross_item
    split_none f q never = wrote_none out o h.low
    split_none f q below = wrote_none out o h.low
    split_none f q here = wrote_none out o h.low

    pub pool_cross : (f : Bool) (q : ℕ) → Is w l u t g at base z hu (Cross f q) → Wrote out o ((item_at w l t g at base).pool b w n) out o
    unfolding step
    pool_cross f q e = up w l u t g at base z hu (λ (r : Read). Wrote out o ((item r.tree).pool b w n) out o) (Cross f q) e (split_none f q t)

-- ---- members

module _ (w : List ℤ) (l : ℕ) (t : Splitting) (k : ℕ) (g h : Bool) (at base : ℕ) (b : Bool) (j : ℕ) (hm : j ≡ share b (tallies (items_at w l t k g h at base))) where
  -- where some are left, so is a member
  pub some_left : (j ≡ 0 → ⊥) → k ≡ 0 → ⊥
  unfolding many form_item tallies
  some_left z e = z (hm ∙ rw e (either_zero b))

  pub pools_none : j ≡ 0 → (n : Counters) {out : List ℤ} {o : ℕ} → Open out o → Wrote out o (pools (items_at w l t k g h at base) b w n) out o
  pools_none e n {out} {o} i = subst (λ (v : List ℤ). Wrote out o v out o) (sym (items_none (many (decode (read_part w) l t) k g h at base).trees w n b (sym hm ∙ e))) (wrote_none out o i.low)

  module _ (z : k ≡ 0 → ⊥) (q c : ℕ) (s : Skips (read_part w) l t at base q c) where
    split_share : (b : Bool) → share b (tallies (items_at w l t k g h at base)) ≡ share b (item_at w l t g at base).unit + share b (tallies (items_at w l t (k - 1) h h q c))
    unfolding tallies
    split_share true = rw (items_is w l t k g h at base z q c s) refl
    split_share false = rw (items_is w l t k g h at base z q c s) refl

    pub share_rest : (i : ℕ) → i ≡ share b (item_at w l t g at base).unit → (i ≤ j) × (j - i ≡ share b (tallies (items_at w l t (k - 1) h h q c)))
    share_rest i e = let x = split_share b in (omega (arith, hm), omega (arith, hm))

    pub share_long : ((item_at w l t g at base).unit.longs ≡ 0 → ⊥) → j ≡ share b (tallies (items_at w l t (k - 1) h h q c))
    share_long f = let x = split_share b in let e = long_share (decode (read_part w) l t g at base).tree b f in omega (arith, hm)

pub share_found : {w : List ℤ} {l : ℕ} {t : Splitting} {g : Bool} {at base : ℕ} {n : Counters} (b : Bool) (j : ℕ) (s : Scanned) → Surveys w l t g at base n s → j ≡ cond b s.part.lits s.part.cmps → j ≡ share b (item_at w l t g at base).unit
share_found b j s hs e = e ∙ ap (λ (t : Tally). share b t) (hs.found.unit [])

pub single_found : {w : List ℤ} {l : ℕ} {t : Splitting} {g : Bool} {at base : ℕ} {n : Counters} (s : Scanned) → Surveys w l t g at base n s → s.part.longs ≡ 0 → (item_at w l t g at base).unit.longs ≡ 0
single_found s hs e = sym (ap (λ (t : Tally). t.longs) (hs.found.unit [])) ∙ e

-- e: counters that the pools of the others do not tell from those behind the member
pub pools_more : (w : List ℤ) (l : ℕ) (t : Splitting) (k : ℕ) (g h : Bool) (at base : ℕ) (b : Bool) (n : Counters) (z : k ≡ 0 → ⊥) (q c : ℕ) → Skips (read_part w) l t at base q c
    → (e : Counters) → pools (items_at w l t (k - 1) h h q c) b w e ≡ pools (items_at w l t (k - 1) h h q c) b w ((item_at w l t g at base).count w n)
    → {out a d : List ℤ} {o p r : ℕ} → Open out o → Wrote out o ((item_at w l t g at base).pool b w n) a p → Wrote a p (pools (items_at w l t (k - 1) h h q c) b w e) d r
    → Wrote out o (pools (items_at w l t k g h at base) b w n) d r
unfolding pools
pools_more w l t k g h at base b n z q c s e he {out} {a} {d} {o} {p} {r} i x y =
    subst (λ (is : List Item). Wrote out o (pools is b w n) d r) (sym (items_is w l t k g h at base z q c s)) (wrote_then i.room x (subst (λ (v : List ℤ). Wrote a p v d r) he y))

-- behind a member that was surveyed
pub pools_next : (w : List ℤ) (l : ℕ) (t : Splitting) (k : ℕ) (g h : Bool) (at base : ℕ) (b : Bool) (n : Counters) (z : k ≡ 0 → ⊥) (s : Scanned) → Surveys w l t g at base n s → (e : Counters) → e ≡ counters_of s
    → {out a d : List ℤ} {o p r : ℕ} → Open out o → Wrote out o ((item_at w l t g at base).pool b w n) a p → Wrote a p (pools (items_at w l t (k - 1) h h s.part.at s.part.base) b w e) d r
    → Wrote out o (pools (items_at w l t k g h at base) b w n) d r
pools_next w l t k g h at base b n z s x e he i u v =
    pools_more w l t k g h at base b n z s.part.at s.part.base x.skips e (ap (λ (c : Counters). pools (items_at w l t (k - 1) h h s.part.at s.part.base) b w c) (he ∙ x.found.count [])) i u v

-- a longer member has nothing in the pool
pub pool_skip : (w : List ℤ) (l : ℕ) (t : Splitting) (g : Bool) (at base : ℕ) (b : Bool) (n : Counters) → ((item_at w l t g at base).unit.longs ≡ 0 → ⊥) → {out : List ℤ} {o : ℕ} → Open out o → Wrote out o ((item_at w l t g at base).pool b w n) out o
pool_skip w l t g at base b n c {out} {o} h = subst (λ (v : List ℤ). Wrote out o v out o) (sym (long_pool (decode (read_part w) l t g at base).tree b w n c)) (wrote_none out o h.low)

-- ---- the pool's clause

pub pool_clause : {out a b c d e f : List ℤ} {o p q r t u v : ℕ} (s : Suffix) (x k j z : ℕ) (ls ks : List ℤ) → Open out o → Stacked s 0 → length ls ≤ folded_end + 1 → k ≤ folded_end
    → x ≡ length ls + k + (64 - s.from) → j ≤ folded_end
    → Wrote out o (word_of x false ∷ []) a p → Wrote a p ls b q → Wrote b q (block z k) c r → Wrote c r (suffix s) d t → Wrote d t (word_of j false ∷ []) e u → Wrote e u ks f v
    → Wrote out o (clause_text ls (block z k ++ suffix s) j ks) f v
unfolding clause_text
pool_clause {out} {a} {b} {c} {d} {e} {f} {o} {p} {q} {r} {t} {u} {v} s x k j z ls ks l h hl hk hx hj w₁ w₂ w₃ w₄ w₅ w₆ =
    let n : word_of x false ≡ pos (length ls + length (block z k ++ suffix s)) =
    word_pos x (omega (arith, h.inside)) ∙ ap pos (omega (arith, suffix_length s h, block_length z k, length-append (block z k) (suffix s))) in
    let m : word_of j false ≡ pos j = word_pos j (omega arith) in
    let l₁ = then_low l.room w₁ in
    let l₂ = then_low l₁ w₂ in
    let l₃ = then_low l₂ w₃ in
    let l₄ = then_low l₃ w₄ in
    let g : Wrote out o (word_of x false ∷ (ls ++ (block z k ++ (suffix s ++ (word_of j false ∷ ks))))) f v =
    wrote_then l.room w₁ (wrote_then l₁ w₂ (wrote_then l₂ w₃ (wrote_then l₃ w₄ (wrote_then l₄ w₅ w₆)))) in
    rw (append_assoc (block z k) (suffix s) (pos j ∷ ks)) (rw (n, m) at g)
