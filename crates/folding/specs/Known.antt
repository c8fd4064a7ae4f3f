-- The code's constants, operators and actions in the definition's words.
use Rattle.std.specs.Prelude.{Bool, true, false, None, Some}
use Rattle.std.specs.declared.option.Option.{Option as Maybe}
use Rattle.std.proofs.Math.Option.{Option, none, some}
use Rattle.fold.specs.Fold.{Op, op_xor, op_iff, op_imp, Action, be_false, be_true, left, not_left, right, not_right, keep}
use Rattle.folding.specs.declared.Op as code-op
use Rattle.folding.specs.declared.Op.TheVariants.{Xor, Iff, Imp}
use Rattle.folding.specs.declared.Becomes as code-becomes
use Rattle.folding.specs.declared.Becomes.TheVariants.{Constant, Left, NotLeft, Right, NotRight, Keep}

-- the constant that an expression is, or none
abbrev pub known : Maybe Bool → Option Bool
known None = none
known (Some b) = some b

abbrev pub is_open : Option Bool → Bool
is_open none = true
is_open (some b) = false

abbrev pub op_of : code-op.Op → Op
op_of Xor = op_xor
op_of Iff = op_iff
op_of Imp = op_imp

abbrev pub action_of : code-becomes.Becomes → Action
action_of (Constant false) = be_false
action_of (Constant true) = be_true
action_of Left = left
action_of NotLeft = not_left
action_of Right = right
action_of NotRight = not_right
action_of Keep = keep
