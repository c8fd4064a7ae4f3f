-- Of any words: a form ends where its expression ends, whatever is split or negated.
use Rattle.std.specs.Prelude.{◌≡◌, Bool, true, not, cond, List, ℕ, zero, suc, ◌+◌, ℤ, eqb}
use Rattle.std.proofs.Math.Path.{refl, ap}
use Rattle.std.proofs.Common.{◌∙◌}
use Rattle.std.proofs.Math.Bool.{false}
use Rattle.std.proofs.Math.Option.{Option}
use Rattle.walk.specs.Item.{bump}
use Rattle.walk.specs.Decode.{word, past}
use Rattle.walk.specs.declared.Node.{Node}
use Rattle.walks.specs.Tree.{Splitting, never, below, here, inner}
use Rattle.walks.specs.Decode.{own_at, node_of, IntRead, Reader, IntReader, many, cross_step, step, many_terms, if_step, int_step, decode, decode_int}

-- ---- where expressions end

-- so many members, so many terms; q, p: the ends one level down
unfoldable pub members_end : (ℕ → ℕ) → ℕ → ℕ → ℕ
members_end q zero at = at
members_end q (suc k) at = members_end q k (q at)

unfoldable pub terms_end : List ℤ → (ℕ → ℕ) → ℕ → ℕ → ℕ
terms_end ws p zero at = at
terms_end ws p (suc k) at = terms_end ws p k (p (past ws (at + 1)))

unfoldable pub int_end_step : List ℤ → (ℕ → ℕ) → (ℕ → ℕ) → ℕ → ℕ → ℕ
int_end_step ws p q at k =
    cond (eqb k 21) (past ws (at + 2))
    (cond (eqb k 22) (terms_end ws p (word ws (at + 1)) (past ws (at + 2)))
    (cond (eqb k 23) (p (p (q (past ws (at + 1))))) (past ws (at + 2))))

unfoldable pub bool_end_step : List ℤ → (ℕ → ℕ) → (ℕ → ℕ) → ℕ → ℕ → ℕ
bool_end_step ws p q at k =
    cond (eqb k 10) (past ws (at + 2))
    (cond (eqb k 11) (past ws (at + 2))
    (cond (eqb k 12) (members_end q (word ws (at + 1)) (past ws (at + 2)))
    (cond (eqb k 13) (members_end q (word ws (at + 1)) (past ws (at + 2)))
    (cond (eqb k 14) (q (past ws (at + 1)))
    (cond (eqb k 15) (q (q (past ws (at + 1))))
    (cond (eqb k 16) (q (q (past ws (at + 1))))
    (cond (eqb k 17) (q (q (past ws (at + 1))))
    (cond (eqb k 18) (p (p (past ws (at + 2)))) (past ws (at + 1))))))))))

-- with no level left, nothing
unfoldable mutual
  pub int_end : List ℤ → ℕ → ℕ → ℕ
  int_end ws zero at = at
  int_end ws (suc l) at = int_end_step ws (λ p. int_end ws l p) (λ p. bool_end ws l p) at (word ws at)

  pub bool_end : List ℤ → ℕ → ℕ → ℕ
  bool_end ws zero at = at
  bool_end ws (suc l) at = bool_end_step ws (λ p. int_end ws l p) (λ p. bool_end ws l p) at (word ws at)

-- ---- forms end there

-- p's trees end where q's expressions do
abbrev EndsAs : Reader → (ℕ → ℕ) → Type 0
EndsAs p q = (g : Bool) (at n : ℕ) → (p g at n).end ≡ q at

abbrev IntEndsAs : IntReader → (ℕ → ℕ) → Type 0
IntEndsAs p q = (at n : ℕ) → (p at n).end ≡ q at

many_end : (p : Reader) (q : ℕ → ℕ) → EndsAs p q → (k : ℕ) (g h : Bool) (at n : ℕ) → (many p k g h at n).end ≡ members_end q k at
unfolding many members_end
many_end p q f zero g h at n = refl
many_end p q f (suc k) g h at n = many_end p q f k h h (p g at n).end (p g at n).next ∙ ap (λ (x : ℕ). members_end q k x) (f g at n)

-- two sides
two_end : (p : Reader) (q : ℕ → ℕ) → EndsAs p q → (g h : Bool) (at n : ℕ) → (many p 2 g h at n).end ≡ q (q at)
unfolding members_end
two_end p q f g h at n = many_end p q f 2 g h at n

cross_end : (p : Splitting → Reader) (q : ℕ → ℕ) → ((m : Splitting) → EndsAs (p m) q) → (m : Splitting) (h : Bool) (at n : ℕ) → (cross_step p m h at n).end ≡ q (q at)
unfolding cross_step
cross_end p q f never h at n = two_end (p never) q (f never) true (not h) at n
cross_end p q f below h at n = two_end (p here) q (f here) true (not h) at n
cross_end p q f here h at n = two_end (p here) q (f here) false false at (bump n 2)

many_terms_end : (ws : List ℤ) (p : IntReader) (q : ℕ → ℕ) → IntEndsAs p q → (k at n : ℕ) → (many_terms ws p k at n).end ≡ terms_end ws q k at
unfolding many_terms terms_end
many_terms_end ws p q f zero at n = refl
many_terms_end ws p q f (suc k) at n = let x = p (past ws (at + 1)) n in many_terms_end ws p q f k x.end x.next ∙ ap (λ (u : ℕ). terms_end ws q k u) (f (past ws (at + 1)) n)

module _ (ws : List ℤ) (l : ℕ) (p : Splitting → Reader) (r : Splitting → IntReader) (f : (m : Splitting) → EndsAs (p m) (bool_end ws l)) (f' : (m : Splitting) → IntEndsAs (r m) (int_end ws l)) where
  step_cond : (m : Splitting) (g : Bool) (n : ℕ) (c : Bool) (N M : Node) (x y : ℕ) → (step p r m g n N).end ≡ x → (step p r m g n M).end ≡ y → (step p r m g n (cond c N M)).end ≡ cond c x y
  step_cond m g n true N M x y i j = i
  step_cond m g n false N M x y i j = j

  -- a comparison's two
  sides_end : (m : Splitting) (a n : ℕ) → (let x = r m a n in (r m x.end x.next).end) ≡ int_end ws l (int_end ws l a)
  sides_end m a n = let x = r m a n in f' m x.end x.next ∙ ap (int_end ws l) (f' m a n)

  step_end : (m : Splitting) (g : Bool) (at n k : ℕ) → (step p r m g n (node_of ws g at k)).end ≡ bool_end_step ws (int_end ws l) (bool_end ws l) at k
  unfolding node_of bool_end_step step many
  step_end m g at n k =
      step_cond m g n (eqb k 10) _ _ _ _ refl
      (step_cond m g n (eqb k 11) _ _ _ _ refl
      (step_cond m g n (eqb k 12) _ _ _ _ (many_end (p m) (bool_end ws l) (f m) (word ws (at + 1)) g g (past ws (at + 2)) n)
      (step_cond m g n (eqb k 13) _ _ _ _ (many_end (p m) (bool_end ws l) (f m) (word ws (at + 1)) g g (past ws (at + 2)) n)
      (step_cond m g n (eqb k 14) _ _ _ _ (f m (not g) (past ws (at + 1)) n)
      (step_cond m g n (eqb k 15) _ _ _ _ (cross_end p (bool_end ws l) f m g (past ws (at + 1)) n)
      (step_cond m g n (eqb k 16) _ _ _ _ (cross_end p (bool_end ws l) f m (not g) (past ws (at + 1)) n)
      (step_cond m g n (eqb k 17) _ _ _ _ (two_end (p m) (bool_end ws l) (f m) (not g) g (past ws (at + 1)) n)
      (step_cond m g n (eqb k 18) _ _ _ _ (sides_end (inner m) (past ws (at + 2)) n) refl))))))))

  if_end : (o : Option ℕ) (m : Splitting) (at c n : ℕ) → (if_step o p r m at c n).end ≡ int_end ws l (int_end ws l (bool_end ws l c))
  unfolding if_step
  if_end o m at c n =
      let x = p m false c n in
      let t = r m x.end x.next in
      f' m t.end t.next ∙ ap (int_end ws l) (f' m x.end x.next ∙ ap (int_end ws l) (f m false c n))

  int_cond : (c : Bool) (x y : IntRead) (u v : ℕ) → x.end ≡ u → y.end ≡ v → (cond c x y).end ≡ cond c u v
  int_cond true x y u v i j = i
  int_cond false x y u v i j = j

  int_step_end : (m : Splitting) (at n k : ℕ) → (int_step ws p r m at n k).end ≡ int_end_step ws (int_end ws l) (bool_end ws l) at k
  unfolding int_step int_end_step
  int_step_end m at n k =
      int_cond (eqb k 21) _ _ _ _ refl
      (int_cond (eqb k 22) _ _ _ _ (many_terms_end ws (r m) (int_end ws l) (f' m) (word ws (at + 1)) (past ws (at + 2)) n)
      (int_cond (eqb k 23) _ _ _ _ (if_end (own_at ws (past ws (at + 1))) m at (past ws (at + 1)) n) refl))

mutual
  unfolding decode int_end

  pub decode_end : (ws : List ℤ) (l : ℕ) (m : Splitting) (g : Bool) (at n : ℕ) → (decode ws l m g at n).end ≡ bool_end ws l at
  decode_end ws zero m g at n = refl
  decode_end ws (suc l) m g at n = step_end ws l (decode ws l) (decode_int ws l) (λ x h u v. decode_end ws l x h u v) (λ x u v. decode_int_end ws l x u v) m g at n (word ws at)

  pub decode_int_end : (ws : List ℤ) (l : ℕ) (m : Splitting) (at n : ℕ) → (decode_int ws l m at n).end ≡ int_end ws l at
  decode_int_end ws zero m at n = refl
  decode_int_end ws (suc l) m at n = int_step_end ws l (decode ws l) (decode_int ws l) (λ x h u v. decode_end ws l x h u v) (λ x u v. decode_int_end ws l x u v) m at n (word ws at)
