-- What holds of the definitions of specs/Table.
use Rattle.std.specs.Prelude.{ℕ, ◌+◌, ◌*◌, ◌<◌, ◌/◌, ◌%◌, ◌^◌, ◌≡◌, refl, Bool, true, false, ◌&&◌, List, [], ◌∷◌, eqb, get_or}
use Rattle.std.proofs.Common.{◌∙◌, arith, eqb-true}
use Rattle.std.proofs.Math.Option.{Option, none, some}
use Rattle.laws.specs.Bools.{and_l, and_r}
use Rattle.fold.specs.Fold.{Op, op_xor, op_iff, op_imp, Action, be_false, be_true, left, not_left, right, not_right, keep, action}
use Rattle.fold.specs.Table.{action_num, actions, bit, entry_listed, entry_right, op_num, packed, state_num, unpacked, ∀op, ∀pair, ∀side}

pub op_small : (o : Op) → op_num o < 3
op_small op_xor = omega arith
op_small op_iff = omega arith
op_small op_imp = omega arith

pub bit_small : (b : Bool) → bit b < 2
bit_small false = omega arith
bit_small true = omega arith

pub state_small : (k : Option Bool) → state_num k < 3
state_small none = omega arith
state_small (some false) = omega arith
state_small (some true) = omega arith

at_op : (f : Op → Bool) → ∀op f ≡ true → (o : Op) → f o ≡ true
at_op f h op_xor = and_l _ _ h
at_op f h op_iff = and_l _ _ (and_r (f op_xor) _ h)
at_op f h op_imp = and_r (f op_iff) _ (and_r (f op_xor) _ h)

at_side : (f : Option Bool → Bool) → ∀side f ≡ true → (k : Option Bool) → f k ≡ true
at_side f h none = and_l _ _ h
at_side f h (some false) = and_l _ _ (and_r (f none) _ h)
at_side f h (some true) = and_r (f (some false)) _ (and_r (f none) _ h)

at_pair : (f : Op → Option Bool → Option Bool → Bool) → ∀pair f ≡ true → (o : Op) (x y : Option Bool) → f o x y ≡ true
at_pair f h o x y = at_side (f o x) (at_side (λ x. ∀side (f o x)) (at_op (λ o. ∀side (λ x. ∀side (f o x))) h o) x) y

-- the rule of the listed form, over its 27 entries at once
pub table_right : (o : Op) (x y : Option Bool) → get_or actions (op_num o * 9 + state_num x * 3 + state_num y) 0 ≡ action_num (action o x y)
table_right o x y = eqb-true _ _ (at_pair entry_right refl o x y)

-- the packed and the listed form are equal, over all 27 pairs at once
pub packed_listed : (o : Op) (x y : Option Bool) → unpacked (op_num o) (state_num x) (state_num y) ≡ get_or actions (op_num o * 9 + state_num x * 3 + state_num y) 0
packed_listed o x y = eqb-true _ _ (at_pair entry_listed refl o x y)

pub packed_right : (o : Op) (x y : Option Bool) → unpacked (op_num o) (state_num x) (state_num y) ≡ action_num (action o x y)
packed_right o x y = packed_listed o x y ∙ table_right o x y
