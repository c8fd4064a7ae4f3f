-- Constants, variables and Ifs as terms of a sum: one number or one constant each. Assumes nothing.
use Rattle.std.specs.Prelude.{◌≡◌, Bool, true, cond, List, ℤ, pos, get_or}
use Rattle.std.proofs.Math.Path.{refl, ap}
use Rattle.std.proofs.Math.Bool.{false}
use Prim.Native.Nat.{ℕ, zero, suc, ◌+◌}
use Rattle.std.proofs.Math.Dec.{eqb}
use Rattle.syntax.specs.Words.{max_ints}
use Rattle.syntax.specs.Syntax.{Domain}
use Rattle.sums.specs.LinearSum.{LinearSum, constant, singleton}
use Rattle.sums.specs.Rising.{terms_of, Each}
use Rattle.sums.proofs.RisingLaws.{constant_each, singleton_each}
use Rattle.walk.specs.Item.{int_number}
use Rattle.walk.specs.Decode.{word, below as index, read_part}
use Rattle.walk.specs.declared.Counters.{Counters}
use Rattle.walks.specs.Tree.{Splitting}
use Rattle.walks.specs.Item.{number_in, const_item, ivar_item, if_number, choice_item, form_int_item, seen}
use Rattle.walks.specs.Decode.{IntRead, if_step, int_step, decode_int}
use Rattle.walks.specs.Totals.{Word, total_of, behind_of}
use Rattle.scan.specs.IfLaws.{seen_at}
use Rattle.totals.specs.declared.Lone.{Lone}
use Rattle.totals.specs.declared.Lone.TheVariants.{Constant, Number}

-- l levels are left; with none, what stands at a place is the constant 0
unfoldable pub is_sum : List ℤ → ℕ → ℕ → Bool
is_sum w zero at = false
is_sum w (suc l) at = eqb (word (read_part w) at) 22

-- of what is no sum; a visit of it ends with k integers
unfoldable pub lone_of : List ℤ → ℕ → ℕ → ℕ → Lone
lone_of w zero at k = Constant (pos 0)
lone_of w (suc l) at k =
    let code = word (read_part w) at in
    cond (eqb code 21) (Number (int_number w (index max_ints (word (read_part w) (at + 1)))))
    (cond (eqb code 23) (Number (number_in (seen_at w at) k))
    (Constant (get_or (read_part w) (at + 1) (pos 0))))

abbrev pub sum_in : Lone → LinearSum
sum_in (Constant c) = constant c
sum_in (Number v) = singleton v

abbrev pub WordIn : Lone → Type 0
WordIn (Constant c) = Unit {0}
WordIn (Number v) = Word v

pub lone_words : (x : Lone) → WordIn x → Each Word (terms_of (sum_in x))
lone_words (Constant c) h = constant_each Word c
lone_words (Number v) h = singleton_each Word v h

-- the sum of an expression that is no sum
module _ (ds : List Domain) (w : List ℤ) (m : Splitting) (at base : ℕ) (n : Counters) where
  abbrev Total : IntRead → LinearSum
  Total r = total_of ds w r.tree n

  abbrev Ints : IntRead → ℕ
  Ints r = (behind_of ds w r.tree n).ints

  pick : (a b : Bool) (x y z : Lone) (p q r : IntRead) (k : ℕ) → k ≡ Ints (cond a p (cond b q r)) → sum_in x ≡ Total p → (k ≡ Ints q → sum_in y ≡ Total q) → sum_in z ≡ Total r → sum_in (cond a x (cond b y z)) ≡ Total (cond a p (cond b q r))
  pick true b x y z p q r k e f g h = f
  pick false true x y z p q r k e f g h = g e
  pick false false x y z p q r k e f g h = h

  pub lone_total : (l k : ℕ) → is_sum w l at ≡ false → k ≡ Ints (decode_int (read_part w) l m at base) → sum_in (lone_of w l at k) ≡ Total (decode_int (read_part w) l m at base)
  unfolding is_sum lone_of decode_int int_step if_step form_int_item const_item ivar_item choice_item if_number seen
  lone_total zero k z e = refl
  lone_total (suc l) k z e =
      let o : eqb (word (read_part w) at) 22 ≡ false = z in
      rw o (pick (eqb (word (read_part w) at) 21) (eqb (word (read_part w) at) 23) _ _ _ _ _ _ k (rw o at e) refl (λ i. ap (λ j. singleton (number_in (seen_at w at) j)) i) refl)
