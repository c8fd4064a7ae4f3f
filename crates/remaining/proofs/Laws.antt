-- Two runs of words copied one behind the other; and what a folded set leaves, copied in two such runs.
use mathlib.Core.Path.{◌≡◌, refl, sym, ap, ◌∙◌, subst}
use mathlib.Core.Bool.{Bool, true, false, cond}
use mathlib.Core.List.{List, [], ◌++◌, map}
use Prim.Native.Nat.{ℕ, zero, suc, ◌+◌, ◌-◌, ◌≤◌, ◌<◌}
use native.Mathlib.Omega.{arith}
use lib.IntN.{ℤ, pos}
use lib.ListN.{length, get_or, take, drop, take-append-drop, length-append, length-drop}
use lib.Seq.{drop-cons, length-take-le}
use lib.Dec.{ltb}
use borrow.Author.Tests.{lt-ltb, le-ltb}
use Rattle.laws.specs.Ints.{apart}
use Rattle.laws.specs.Lists.{from, below}
use Rattle.laws.specs.Slices.{Pushed, pushed_then, Stored, drop_up, zeros}
use Rattle.memory.specs.Places.{folded, folded_end}
use Rattle.syntax.specs.Words.{max_set_words, min_work_words, max_bools}
use Rattle.syntax.specs.Syntax.{Stmt, Problem}
use Rattle.words.specs.Parse.{Parsed, ok, refuse}
use Rattle.read.specs.Read.{read_set}
use Rattle.read.proofs.Exact.{set_sound}
use Rattle.limits.specs.Limits.{check}
use Rattle.fold.specs.Fold.{Fixed}
use Rattle.fold.specs.Optimize.{Outcome, inconsistent, settled, optimize}
use Rattle.answer.specs.Answer.{fixed_word}
use Rattle.statements.specs.Stages.{stmts_words, Folded, settled_short}
use Rattle.walk.proofs.DecodeExact.{has_part}
use Rattle.settle.specs.Settle.{settling_of, settling_checked, settling_read, settling, Holds, Left, SettlePost}
use Rattle.settle.specs.declared.Places.{Places}
use Rattle.settle.specs.declared.Settling.{Settling}
use Rattle.settle.specs.declared.Settling.TheVariants as settling
use Rattle.remaining.specs.Remaining.{remaining_words, remaining_number, placed, Output, Remains, Copied}

-- ---- two runs, of words that stand in the work slice

module _ (work : List ℤ) (bools end : ℕ) (few : bools ≤ max_bools) (past : folded ≤ end) (inside : end ≤ length work) where
  first : length (take bools work) ≡ bools
  first = length-take-le bools work (omega arith)

  second : length (take (end - folded) (drop folded work)) ≡ end - folded
  second = length-take-le (end - folded) (drop folded work) (omega (arith, length-drop folded work))

  abbrev both : List ℤ
  both = take bools work ++ take (end - folded) (drop folded work)

  both_long : length both ≡ bools + (end - folded)
  both_long = omega (arith, length-append (take bools work) (take (end - folded) (drop folded work)), first, second)

  pub copied_short : (out : List ℤ) → length out < bools + (end - folded) → Copied work bools end out out (bools + (end - folded))
  unfolding placed
  copied_short out h = record { count = refl; output = rw (lt-ltb (length out) (length both) (omega (arith, both_long))) refl }

  -- where the second run begins, and where it ends if there is room
  pub copied_next : (out mid : List ℤ) (m : ℕ) → Stored out 0 (take bools work) mid m → m ≡ bools
  copied_next out mid m a = omega (arith, a.pushed.end, first)

  pub copied_two : (out mid : List ℤ) (m : ℕ) (out' : List ℤ) (r : ℕ) → Stored out 0 (take bools work) mid m → Stored mid m (take (end - folded) (drop folded work)) out' r → bools + (end - folded) ≤ length out → Copied work bools end out out' r
  unfolding placed
  copied_two out mid m out' r a b h =
      let p : Pushed out 0 both out' r = pushed_then out 0 (take bools work) mid m (take (end - folded) (drop folded work)) out' r a.pushed b.pushed in
      let k : r ≡ length both = omega (arith, p.end) in
      let t : drop r out' ≡ drop r out = b.above ∙ drop_up m r mid out a.above (omega (arith, b.pushed.end)) in
      let e : out' ≡ both ++ drop r out = sym (take-append-drop r out') ∙ ap (λ (l : List ℤ). l ++ drop r out') p.words ∙ ap (λ (l : List ℤ). both ++ l) t in
      record {
        count = k ∙ both_long;
        output = rw (le-ltb (length out) (length both) (omega (arith, both_long))) (e ∙ ap (λ (n : ℕ). both ++ drop n out) k);
      }

-- ---- a settled set: the words that stand in the work slice

cells : (w : List ℤ) (f : Fixed) (i k : ℕ) → i + k ≤ length w → ((v : ℕ) → v < i + k → get_or w v (pos 0) ≡ fixed_word (f v)) → take k (drop i w) ≡ map fixed_word (map f (from i k))
cells w f i zero h e = refl
cells w f i (suc k) h e =
    ap (take (suc k)) (drop-cons w i (pos 0) (omega arith))
    ∙ rw (e i (omega arith), cells w f (suc i) k (omega arith) (λ v l. e v (omega arith))) refl

standing : (p : Problem) (f : Fixed) (ss : List Stmt) (w : List ℤ) → Folded p f ss w → (b m : ℕ) → b ≡ p.bools → m ≡ length (stmts_words ss) → take b w ++ take m (drop folded w) ≡ remaining_words p f ss
unfolding remaining_words
standing p f ss w h b m e n =
    let few = h.set.well.few_bools in
    let a : take b w ≡ map fixed_word (map f (below p.bools)) = ap (λ (k : ℕ). take k w) e ∙ cells w f 0 p.bools (omega (arith, h.empty.size, few)) (λ v l. h.values v (omega (arith, few))) in
    let c : take m (drop folded w) ≡ stmts_words ss = ap (λ (k : ℕ). take k (drop folded w)) n ∙ has_part w folded (stmts_words ss) h.stands in
    ap (λ (l : List ℤ). l ++ take m (drop folded w)) a ∙ ap (λ (l : List ℤ). map fixed_word (map f (below p.bools)) ++ l) c

-- ---- what a folded answer says of the set

record FoldedSet (ws : List ℤ) (q : Places) : Type 0 where
  it : Problem
  fixed : Fixed
  stmts : List Stmt
  says : read_set ws ≡ ok it []
  ends : optimize it ≡ settled fixed stmts
  end : q.end ≡ folded + length (stmts_words stmts)
  bools : q.bools ≡ it.bools

folded_set : (n : ℕ) (ws : List ℤ) (q : Places) → settling n ws ≡ settling.Folded q → FoldedSet ws q
unfolding settling settling_read settling_checked settling_of
folded_set n ws q = go (ltb n min_work_words) (ltb max_set_words (length ws)) (read_set ws) refl
  where
    last : (p : Problem) (o : Outcome) → read_set ws ≡ ok p [] → optimize p ≡ o → settling_of p o ≡ settling.Folded q → FoldedSet ws q
    last p inconsistent e i h = apart (cc)
    last p (settled f ss) e i h =
        let z : record { end = folded + length (stmts_words ss); bools = p.bools; ints = length p.domains } ≡ q = cc in
        record { it = p; fixed = f; stmts = ss; says = e; ends = i; end = sym (ap (λ (x : Places). x.end) z); bools = sym (ap (λ (x : Places). x.bools) z) }

    free : (p : Problem) (r : List ℤ) (m : ℕ) → read_set ws ≡ ok p r → settling_checked p m ≡ settling.Folded q → FoldedSet ws q
    free p r (suc m) e h = apart (cc)
    free p r zero e h =
        let s : [] ≡ r = (set_sound ws p r e).2 in
        last p (optimize p) (e ∙ ap (ok p) (sym s)) refl h

    go : (s t : Bool) (x : Parsed Problem) → read_set ws ≡ x → cond s (settling.Refused 1) (cond t (settling.Refused 2) (settling_read x)) ≡ settling.Folded q → FoldedSet ws q
    go true t x e h = apart (cc)
    go false true x e h = apart (cc)
    go false false (refuse k) e h = apart (cc)
    go false false (ok p r) e h = free p r (check p) e h

-- ---- the answers of `settle`, over an output that was cleared

module _ (set work work' : List ℤ) (r : Settling) (s : SettlePost set work work' r) (out cleared : List ℤ) (zeroed : cleared ≡ zeros (length out)) where
  pub remains_refused : (k : ℕ) → r ≡ settling.Refused k → Remains set out work cleared work' k
  unfolding remaining_number
  remains_refused k e =
      let a : settling.Refused k ≡ settling (length work) set = sym e ∙ s.answer in
      record {
        number = ap remaining_number a;
        output = subst (λ (x : Settling). Output x set (length out) cleared) a zeroed;
        zeroed = subst (λ (x : Settling). Left x set work work') e s.left;
      }

  pub remains_contradiction : r ≡ settling.Contradiction → Remains set out work cleared work' 100
  unfolding remaining_number
  remains_contradiction e =
      let a : settling.Contradiction ≡ settling (length work) set = sym e ∙ s.answer in
      record {
        number = ap remaining_number a;
        output = subst (λ (x : Settling). Output x set (length out) cleared) a zeroed;
        zeroed = subst (λ (x : Settling). Left x set work work') e s.left;
      }

  module _ (q : Places) (e : r ≡ settling.Folded q) where
    some_set : FoldedSet set q
    some_set = folded_set (length work) set q (sym s.answer ∙ e)

    holds : Holds set work work'
    holds = subst (λ (x : Settling). Left x set work work') e s.left

    pub copy_ready : (q.bools ≤ max_bools) × (folded ≤ q.end) × (q.end ≤ folded_end) × (q.end ≤ length work')
    copy_ready =
        let t = some_set in
        let h : Folded t.it t.fixed t.stmts work' = holds.folded t.it t.fixed t.stmts t.says t.ends in
        let k = settled_short t.it t.fixed t.stmts h.set in
        (omega (arith, t.bools, h.set.well.few_bools), omega (arith, t.end), omega (arith, t.end, k), omega (arith, t.end, k, h.empty.size))

    same : (p : Problem) (f : Fixed) (ss : List Stmt) → read_set set ≡ ok p [] → optimize p ≡ settled f ss → (q.bools ≡ p.bools) × (q.end ≡ folded + length (stmts_words ss))
    same p f ss x y =
        let t = some_set in
        let m : t.it ≡ p = (let z : ok t.it [] ≡ ok p [] = sym t.says ∙ x in cc) in
        let n : t.stmts ≡ ss = (let z : settled t.fixed t.stmts ≡ settled f ss = sym t.ends ∙ ap optimize m ∙ y in cc) in
        (t.bools ∙ ap (λ (z : Problem). z.bools) m, t.end ∙ ap (λ (l : List Stmt). folded + length (stmts_words l)) n)

    pub remains_folded : (out' : List ℤ) (m : ℕ) (last : List ℤ) → Copied work' q.bools q.end cleared out' m → last ≡ zeros (length work') → length work' ≡ length work → Remains set out work out' last (1000 + m)
    unfolding remaining_number
    remains_folded out' m last c z l =
        let a : settling.Folded q ≡ settling (length work) set = sym e ∙ s.answer in
        record {
          number = ap (λ (k : ℕ). 1000 + k) c.count ∙ ap remaining_number a;
          output = subst (λ (x : Settling). Output x set (length out) out') a (λ p f ss x y.
              let b = same p f ss x y in
              c.output
              ∙ ap (placed cleared) (standing p f ss work' (holds.folded p f ss x y) q.bools (q.end - folded) b.0 (omega (arith, b.1)))
              ∙ ap (λ (l : List ℤ). placed l (remaining_words p f ss)) zeroed);
          zeroed = z ∙ ap zeros l;
        }
