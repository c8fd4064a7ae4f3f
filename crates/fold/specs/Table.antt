-- The numbers of operators, sides and actions in code, and the table of actions, listed (27 entries) and packed (three numbers).
-- The rule of the listed form is one computed test against `action`; another one shows the packed form equal to it.
use Rattle.std.specs.Prelude.{ℕ, ◌+◌, ◌*◌, ◌<◌, ◌/◌, ◌%◌, ◌^◌, ◌≡◌, refl, Bool, true, false, ◌&&◌, List, [], ◌∷◌, eqb, get_or}
use Rattle.std.proofs.Common.{◌∙◌, arith, eqb-true}
use Rattle.std.proofs.Math.Option.{Option, none, some}
use Rattle.laws.specs.Bools.{and_l, and_r}
use Rattle.fold.specs.Fold.{Op, op_xor, op_iff, op_imp, Action, be_false, be_true, left, not_left, right, not_right, keep, action}

abbrev pub op_num : Op → ℕ
op_num op_xor = 0
op_num op_iff = 1
op_num op_imp = 2

abbrev pub action_num : Action → ℕ
action_num be_false = 0
action_num be_true = 1
action_num left = 2
action_num not_left = 3
action_num right = 4
action_num not_right = 5
action_num keep = 6

abbrev pub bit : Bool → ℕ
bit false = 0
bit true = 1

-- a side or a variable: false, true, unknown
abbrev pub state_num : Option Bool → ℕ
state_num (some false) = 0
state_num (some true) = 1
state_num none = 2

-- Xor, Iff, Imp; left false, true, unknown; right false, true, unknown
abbrev pub actions : List ℕ
actions =
    0 ∷ 1 ∷ 4 ∷ 1 ∷ 0 ∷ 5 ∷ 2 ∷ 3 ∷ 6
    ∷ 1 ∷ 0 ∷ 5 ∷ 0 ∷ 1 ∷ 4 ∷ 3 ∷ 2 ∷ 6
    ∷ 1 ∷ 1 ∷ 1 ∷ 0 ∷ 1 ∷ 4 ∷ 3 ∷ 1 ∷ 6
    ∷ []

-- One number for each operator, to the base 8 632501410, 623410501, 613410111: digit 3 * left + right, counted from the last, is the action.
abbrev pub packed : List ℕ
packed = 107643656 ∷ 105779521 ∷ 103682121 ∷ []

-- three bits of the operator's number, from 9 * left + 3 * right on
abbrev pub unpacked : ℕ → ℕ → ℕ → ℕ
unpacked o x y = get_or packed o 0 / 2 ^ (9 * x + 3 * y) % 8

-- a test at every operator and at every state of a side
abbrev pub ∀op : (Op → Bool) → Bool
∀op f = f op_xor && (f op_iff && f op_imp)

abbrev pub ∀side : (Option Bool → Bool) → Bool
∀side f = f none && (f (some false) && f (some true))

-- a test at all 27 pairs of an operator and its sides' states
abbrev pub ∀pair : (Op → Option Bool → Option Bool → Bool) → Bool
∀pair f = ∀op (λ o. ∀side (λ x. ∀side (f o x)))

abbrev pub entry_right : Op → Option Bool → Option Bool → Bool
entry_right o x y = eqb (get_or actions (op_num o * 9 + state_num x * 3 + state_num y) 0) (action_num (action o x y))

abbrev pub entry_listed : Op → Option Bool → Option Bool → Bool
entry_listed o x y = eqb (unpacked (op_num o) (state_num x) (state_num y)) (get_or actions (op_num o * 9 + state_num x * 3 + state_num y) 0)
