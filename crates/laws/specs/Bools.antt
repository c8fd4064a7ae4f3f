-- Propositional facts by computation. A fact over truth values that are the lemma's own variables is one line:
--   name : (a b c : Bool) → .. ≡ ..                  name = eq3 _ _ refl
--   name : (a b c : Bool) → .. ≡ true → .. ≡ true    name = imp3 _ _ refl      (several hypotheses: one &&)
use Rattle.std.specs.Prelude.{◌≡◌, refl, Bool, true, false, not, ◌&&◌, ◌||◌}
use Rattle.std.proofs.Common.{sym, ◌∙◌}
use Rattle.std.specs.Bool.{beq}
use Rattle.std.proofs.lemmas.Bool.{false≢true}

pub and_l : (a b : Bool) → a && b ≡ true → a ≡ true
and_l true b h = refl
and_l false b h = h

pub and_r : (a b : Bool) → a && b ≡ true → b ≡ true
and_r true b h = h
and_r false b h = absurd (false≢true h)

pub and_i : (a b : Bool) → a ≡ true → b ≡ true → a && b ≡ true
and_i a b h k = cc

mp : (p q : Bool) → not p || q ≡ true → p ≡ true → q ≡ true
mp true q h k = h
mp false q h k = absurd (false≢true k)

pub beq_eq : (p q : Bool) → beq p q ≡ true → p ≡ q
beq_eq true true h = refl
beq_eq true false h = sym h
beq_eq false true h = h
beq_eq false false h = refl

abbrev pub ∀1 : (Bool → Bool) → Bool
∀1 f = f true && f false

at1 : (f : Bool → Bool) → ∀1 f ≡ true → (a : Bool) → f a ≡ true
at1 f h true = and_l (f true) (f false) h
at1 f h false = and_r (f true) (f false) h

abbrev pub ∀2 : (Bool → Bool → Bool) → Bool
∀2 f = ∀1 (λ a. ∀1 (f a))

pub at2 : (f : Bool → Bool → Bool) → ∀2 f ≡ true → (a b : Bool) → f a b ≡ true
at2 f h a = at1 (f a) (at1 (λ a. ∀1 (f a)) h a)

abbrev pub ∀3 : (Bool → Bool → Bool → Bool) → Bool
∀3 f = ∀1 (λ a. ∀2 (f a))

at3 : (f : Bool → Bool → Bool → Bool) → ∀3 f ≡ true → (a b c : Bool) → f a b c ≡ true
at3 f h a = at2 (f a) (at1 (λ a. ∀2 (f a)) h a)

abbrev pub ∀4 : (Bool → Bool → Bool → Bool → Bool) → Bool
∀4 f = ∀1 (λ a. ∀3 (f a))

at4 : (f : Bool → Bool → Bool → Bool → Bool) → ∀4 f ≡ true → (a b c d : Bool) → f a b c d ≡ true
at4 f h a = at3 (f a) (at1 (λ a. ∀3 (f a)) h a)

abbrev pub ∀5 : (Bool → Bool → Bool → Bool → Bool → Bool) → Bool
∀5 f = ∀1 (λ a. ∀4 (f a))

at5 : (f : Bool → Bool → Bool → Bool → Bool → Bool) → ∀5 f ≡ true → (a b c d e : Bool) → f a b c d e ≡ true
at5 f h a = at4 (f a) (at1 (λ a. ∀4 (f a)) h a)

pub eq1 : (p q : Bool → Bool) → ∀1 (λ a. beq (p a) (q a)) ≡ true → (a : Bool) → p a ≡ q a
eq1 p q h a = beq_eq (p a) (q a) (at1 (λ a. beq (p a) (q a)) h a)

pub imp2 : (p q : Bool → Bool → Bool) → ∀2 (λ a b. not (p a b) || q a b) ≡ true → (a b : Bool) → p a b ≡ true → q a b ≡ true
imp2 p q h a b = mp (p a b) (q a b) (at2 (λ a b. not (p a b) || q a b) h a b)

pub eq2 : (p q : Bool → Bool → Bool) → ∀2 (λ a b. beq (p a b) (q a b)) ≡ true → (a b : Bool) → p a b ≡ q a b
eq2 p q h a b = beq_eq (p a b) (q a b) (at2 (λ a b. beq (p a b) (q a b)) h a b)

pub imp3 : (p q : Bool → Bool → Bool → Bool) → ∀3 (λ a b c. not (p a b c) || q a b c) ≡ true → (a b c : Bool) → p a b c ≡ true → q a b c ≡ true
imp3 p q h a b c = mp (p a b c) (q a b c) (at3 (λ a b c. not (p a b c) || q a b c) h a b c)

pub eq3 : (p q : Bool → Bool → Bool → Bool) → ∀3 (λ a b c. beq (p a b c) (q a b c)) ≡ true → (a b c : Bool) → p a b c ≡ q a b c
eq3 p q h a b c = beq_eq (p a b c) (q a b c) (at3 (λ a b c. beq (p a b c) (q a b c)) h a b c)

pub imp4 : (p q : Bool → Bool → Bool → Bool → Bool) → ∀4 (λ a b c d. not (p a b c d) || q a b c d) ≡ true → (a b c d : Bool) → p a b c d ≡ true → q a b c d ≡ true
imp4 p q h a b c d = mp (p a b c d) (q a b c d) (at4 (λ a b c d. not (p a b c d) || q a b c d) h a b c d)

pub eq4 : (p q : Bool → Bool → Bool → Bool → Bool) → ∀4 (λ a b c d. beq (p a b c d) (q a b c d)) ≡ true → (a b c d : Bool) → p a b c d ≡ q a b c d
eq4 p q h a b c d = beq_eq (p a b c d) (q a b c d) (at4 (λ a b c d. beq (p a b c d) (q a b c d)) h a b c d)

pub imp5 : (p q : Bool → Bool → Bool → Bool → Bool → Bool) → ∀5 (λ a b c d e. not (p a b c d e) || q a b c d e) ≡ true → (a b c d e : Bool) → p a b c d e ≡ true → q a b c d e ≡ true
imp5 p q h a b c d e = mp (p a b c d e) (q a b c d e) (at5 (λ a b c d e. not (p a b c d e) || q a b c d e) h a b c d e)

pub eq5 : (p q : Bool → Bool → Bool → Bool → Bool → Bool) → ∀5 (λ a b c d e. beq (p a b c d e) (q a b c d e)) ≡ true → (a b c d e : Bool) → p a b c d e ≡ q a b c d e
eq5 p q h a b c d e = beq_eq (p a b c d e) (q a b c d e) (at5 (λ a b c d e. beq (p a b c d e) (q a b c d e)) h a b c d e)

pub or_assoc : (a b c : Bool) → (a || b) || c ≡ a || (b || c)
or_assoc = eq3 _ _ refl

pub and_assoc : (a b c : Bool) → (a && b) && c ≡ a && (b && c)
and_assoc = eq3 _ _ refl

pub or_swap : (a b c : Bool) → a || (b || c) ≡ b || (a || c)
or_swap = eq3 _ _ refl

pub and_swap : (a b c : Bool) → a && (b && c) ≡ b && (a && c)
and_swap = eq3 _ _ refl

-- ---- one side known

pub never : {X : Type 0} → ◌≡◌ {A = Bool} false true → X
never e = absurd (false≢true e)

pub beq_same : (x : Bool) → beq x x ≡ true
beq_same = eq1 _ _ refl

pub or_l : (a b : Bool) → a ≡ true → a || b ≡ true
or_l a b h = rw h refl

pub or_r : (a b : Bool) → b ≡ true → a || b ≡ true
or_r true b h = refl
or_r false b h = h

pub or_no_l : (a b : Bool) → a || b ≡ false → a ≡ false
or_no_l true b h = h
or_no_l false b h = refl

pub or_no_r : (a b : Bool) → a || b ≡ false → b ≡ false
or_no_r true b h = never (sym h)
or_no_r false b h = h

pub or_left_no : (a b : Bool) → a ≡ false → a || b ≡ true → b ≡ true
or_left_no a b h k = rw h at k

pub or_right_no : (a b : Bool) → b ≡ false → a || b ≡ true → a ≡ true
or_right_no true b h k = refl
or_right_no false b h k = never (sym h ∙ k)

-- two truth values that imply each other
pub both_ways : (a b : Bool) → (a ≡ true → b ≡ true) → (b ≡ true → a ≡ true) → a ≡ b
both_ways true b f g = sym (f refl)
both_ways false true f g = g refl
both_ways false false f g = refl

-- ---- tests that follow from tests

pub or_mono : (a b c d : Bool) → (a ≡ true → c ≡ true) → (b ≡ true → d ≡ true) → a || b ≡ true → c || d ≡ true
or_mono a b true d f g h = refl
or_mono true b false d f g h = never (f refl)
or_mono false b false d f g h = g h

pub and_mono : (a b c d : Bool) → (a ≡ true → c ≡ true) → (b ≡ true → d ≡ true) → a && b ≡ true → c && d ≡ true
and_mono true b c d f g h = and_i c d (f refl) (g h)
and_mono false b c d f g h = never h

-- whichever side holds
pub or_pick : {X : Type 0} (a b : Bool) → a || b ≡ true → (a ≡ true → X) → (b ≡ true → X) → X
or_pick true b h f g = f refl
or_pick false b h f g = g h
