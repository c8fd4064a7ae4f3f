-- What the walk's functions leave, as records, and the closing of a disjunction.
use Rattle.std.specs.Prelude.{◌≡◌, refl, Bool, true, List, ℕ, zero, suc, ◌-◌, ◌+◌, ◌≤◌, ℤ, length}
use Rattle.std.proofs.Common.{sym, ap, ◌∙◌, subst, arith}
use Rattle.memory.specs.Places.{folded_end, limit}
use Rattle.walk.specs.Item.{bump, mode_in, fresh_in}
use Rattle.walk.specs.Decode.{word, read_part}
use Rattle.walk.specs.declared.Node.TheVariants.{Join}
use Rattle.walks.specs.Tree.{Splitting}
use Rattle.walks.specs.Decode.{node_of, if_step, own_at, decode, decode_int}
use Rattle.numbering.specs.Sized.{SizedAt, SizedAll, sized_pool, sized_long}
use Rattle.numbering.specs.declared.Progress.{Progress}
use Rattle.numbering.specs.declared.Numbered.{Numbered}
use Rattle.numbering.specs.declared.NumberedInt.{NumberedInt}

abbrev pub numbered : Progress → ℕ → ℕ → ℕ → ℕ → ℕ → Numbered
numbered c at base longs lits cmps = record { progress = c; at = at; base = base; longs = longs; lits = lits; cmps = cmps }

abbrev pub standing : Progress → ℕ → ℕ → NumberedInt
standing c at base = record { progress = c; at = at; base = base }

abbrev pub new_in : Numbered → ℕ
new_in s = fresh_in (mode_in s.longs s.lits s.cmps) s.longs

-- with a literal more
abbrev pub beside : Numbered → ℕ
beside s = fresh_in (mode_in s.longs (s.lits + 1) s.cmps) s.longs

abbrev pub renewed : Progress → Numbered → Progress
renewed c s = record { bools = bump c.bools (new_in s); ints = c.ints; used = c.used }

-- a disjunction of the members s
pub record Closes (s r : Numbered) : Type 0 where
  pub progress : r.progress ≡ renewed s.progress s
  pub pool : s.longs ≡ 0 → r ≡ numbered (renewed s.progress s) s.at s.base 0 s.lits s.cmps
  pub long : (s.longs ≡ 0 → ⊥) → r ≡ numbered (renewed s.progress s) s.at s.base 1 0 0

pub closes_pool : (s r : Numbered) (c : Progress) → s.longs ≡ 0 → c ≡ renewed s.progress s → r ≡ numbered c s.at s.base 0 s.lits s.cmps → Closes s r
closes_pool s r c h i e = let f : r ≡ numbered (renewed s.progress s) s.at s.base 0 s.lits s.cmps = e ∙ rw i refl in record { progress = ap (λ (t : Numbered). t.progress) f; pool = λ _. f; long = λ n. absurd (n h) }

pub closes_long : (s r : Numbered) (c : Progress) → (s.longs ≡ 0 → ⊥) → c ≡ renewed s.progress s → r ≡ numbered c s.at s.base 1 0 0 → Closes s r
closes_long s r c h i e = let f : r ≡ numbered (renewed s.progress s) s.at s.base 1 0 0 = e ∙ rw i refl in record { progress = ap (λ (t : Numbered). t.progress) f; pool = λ n. absurd (h n); long = λ _. f }

-- of a disjunction at a place
pub sized_disj : (w : List ℤ) (l : ℕ) (m : Splitting) (g : Bool) (at base : ℕ) → folded_end ≤ length w → at ≤ folded_end → base ≤ limit → (u : ℕ) → (l ≡ 0 → ⊥) → u ≡ l - 1 → (k : ℕ) (c d : Bool) (q : ℕ) (s r : Numbered)
    → SizedAll (read_part w) u m k c d q base s.at s.base s.longs s.lits s.cmps → Join true k c d q ≡ node_of (read_part w) g at (word (read_part w) at) → Closes s r
    → SizedAt (read_part w) l m g at base r.at r.base r.longs r.lits r.cmps
sized_disj w l m g at base size inside low u z hu k c d q s r x e y = go s.longs refl
  where
    to : (t : Numbered) → r ≡ t → SizedAt (read_part w) l m g at base t.at t.base t.longs t.lits t.cmps → SizedAt (read_part w) l m g at base r.at r.base r.longs r.lits r.cmps
    to t i = subst (λ (t : Numbered). SizedAt (read_part w) l m g at base t.at t.base t.longs t.lits t.cmps) (sym i)

    go : (n : ℕ) → s.longs ≡ n → SizedAt (read_part w) l m g at base r.at r.base r.longs r.lits r.cmps
    go zero i = to _ (y.pool i) (sized_pool w l m g at base size inside low u z hu k c d q _ _ _ _ _ x e i)
    go (suc n) i = let ne : s.longs ≡ 0 → ⊥ = λ j. absurd (let f : ◌≡◌ {A = ℕ} 0 (suc n) = sym j ∙ i in omega arith) in to _ (y.long ne) (sized_long w l m g at base size inside low u z hu k c d q _ _ _ _ _ x e ne)

-- where an If ends, and the splitting's next number behind it
pub record IfSkips (ws : List ℤ) (u : ℕ) (m : Splitting) (at c base q b : ℕ) : Type 0 where
  pub end : q ≡ (if_step (own_at ws c) (decode ws u) (decode_int ws u) m at c base).end
  pub next : b ≡ (if_step (own_at ws c) (decode ws u) (decode_int ws u) m at c base).next
  pub start : at ≤ q
  pub inside : q ≤ folded_end
  pub low : b ≤ limit
