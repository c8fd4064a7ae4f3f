-- The numbers of the refusals, as document 01 has them. Assumes nothing.
use Rattle.std.specs.Prelude.{◌≡◌, refl, List, [], ◌∷◌, ℕ, ◌-◌, Result, Ok, Err}
use Rattle.std.proofs.Common.{ap, ◌∙◌, get_or, arith}
use Rattle.words.specs.declared.refusal.Refusal.{Refusal}
use Rattle.words.specs.declared.refusal.Refusal.TheVariants as refusal

abbrev pub number_of : Refusal → ℕ
number_of refusal.ShortWork = 1
number_of refusal.LongSet = 2
number_of refusal.WrongLength = 3
number_of refusal.OutOfRange = 4
number_of refusal.UnknownCode = 5
number_of refusal.Undeclared = 6
number_of refusal.BadDomain = 7
number_of refusal.TooDeep = 8
number_of refusal.HeavyWeight = 9
number_of refusal.ManyVariables = 10
number_of refusal.WideColumn = 11
number_of refusal.LongAnswer = 12
number_of refusal.ShortSheet = 13
number_of refusal.CountOfValues = 14
number_of refusal.OutsideDomain = 15
number_of refusal.DeclaredOtherwise = 16
number_of refusal.LongJoin = 17

-- an answer whose refusal is a number
abbrev pub by_number : {A : Type 0} → Result A Refusal → Result A ℕ
by_number (Ok a) = Ok a
by_number (Err r) = Err (number_of r)

-- the refusal's number, or 0 where there is none
abbrev pub refusal_or_0 : {A : Type 0} → Result A Refusal → ℕ
refusal_or_0 (Ok a) = 0
refusal_or_0 (Err r) = number_of r

-- ---- no two refusals have one number, and none has 0

abbrev in_order : List Refusal
in_order =
    refusal.ShortWork ∷ refusal.LongSet ∷ refusal.WrongLength ∷ refusal.OutOfRange ∷ refusal.UnknownCode ∷ refusal.Undeclared ∷ refusal.BadDomain ∷ refusal.TooDeep ∷ refusal.HeavyWeight ∷ refusal.ManyVariables ∷ refusal.WideColumn ∷ refusal.LongAnswer ∷ refusal.ShortSheet ∷ refusal.CountOfValues ∷ refusal.OutsideDomain ∷ refusal.DeclaredOtherwise ∷ refusal.LongJoin ∷ []

back : (d r : Refusal) → get_or in_order (number_of r - 1) d ≡ r
back d refusal.ShortWork = refl
back d refusal.LongSet = refl
back d refusal.WrongLength = refl
back d refusal.OutOfRange = refl
back d refusal.UnknownCode = refl
back d refusal.Undeclared = refl
back d refusal.BadDomain = refl
back d refusal.TooDeep = refl
back d refusal.HeavyWeight = refl
back d refusal.ManyVariables = refl
back d refusal.WideColumn = refl
back d refusal.LongAnswer = refl
back d refusal.ShortSheet = refl
back d refusal.CountOfValues = refl
back d refusal.OutsideDomain = refl
back d refusal.DeclaredOtherwise = refl
back d refusal.LongJoin = refl

pub number_injective : (r s : Refusal) → number_of r ≡ number_of s → r ≡ s
number_injective r s e = rw (← back r r) (ap (λ k. get_or in_order (k - 1) r) e ∙ back r s)

pub number_not_0 : (r : Refusal) → number_of r ≡ 0 → ⊥
number_not_0 refusal.ShortWork e = omega arith
number_not_0 refusal.LongSet e = omega arith
number_not_0 refusal.WrongLength e = omega arith
number_not_0 refusal.OutOfRange e = omega arith
number_not_0 refusal.UnknownCode e = omega arith
number_not_0 refusal.Undeclared e = omega arith
number_not_0 refusal.BadDomain e = omega arith
number_not_0 refusal.TooDeep e = omega arith
number_not_0 refusal.HeavyWeight e = omega arith
number_not_0 refusal.ManyVariables e = omega arith
number_not_0 refusal.WideColumn e = omega arith
number_not_0 refusal.LongAnswer e = omega arith
number_not_0 refusal.ShortSheet e = omega arith
number_not_0 refusal.CountOfValues e = omega arith
number_not_0 refusal.OutsideDomain e = omega arith
number_not_0 refusal.DeclaredOtherwise e = omega arith
number_not_0 refusal.LongJoin e = omega arith
