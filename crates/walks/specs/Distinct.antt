-- Constructors that are not equal: of options, and of what is known of an If.
use Rattle.std.specs.Prelude.{◌≡◌, Bool, ℕ}
use Rattle.std.proofs.Math.Option.{none, some}
use Rattle.std.proofs.Common.{arith}
use Rattle.walks.specs.Item.{unseen, both_constant, numbered}

pub none_some : {A X : Type 0} {x : A} → none ≡ some x → X
none_some e = absurd (let z : ◌≡◌ {A = ℕ} 0 1 = cc in omega arith)

pub some_is : {A : Type 0} {x y : A} → some x ≡ some y → x ≡ y
some_is e = cc

pub unseen_numbered : {X : Type 0} {v : ℕ} {b : Bool} → unseen ≡ numbered v b → X
unseen_numbered e = absurd (let z : ◌≡◌ {A = ℕ} 0 1 = cc in omega arith)

pub unseen_constant : {X : Type 0} → unseen ≡ both_constant → X
unseen_constant e = absurd (let z : ◌≡◌ {A = ℕ} 0 1 = cc in omega arith)

pub constant_numbered : {X : Type 0} {v : ℕ} {b : Bool} → both_constant ≡ numbered v b → X
constant_numbered e = absurd (let z : ◌≡◌ {A = ℕ} 0 1 = cc in omega arith)
