-- The Ifs of columns have no split parts: they agree with any `parted` that is false where the columns stand (`columns_agree`).
use Rattle.std.specs.Prelude.{◌≡◌, Bool, true, false, not, ℕ, ◌+◌, ◌≤◌, ◌<◌, ℤ}
use Rattle.std.proofs.Common.{sym, ap, ◌∙◌, arith}
use mathlib.Core.List.{List, [], ◌∷◌}
use Rattle.std.proofs.Math.ListN.{length, length-append}
use Rattle.laws.specs.Slices.{Has, has_front, has_back}
use Rattle.memory.specs.Places.{folded}
use Rattle.syntax.specs.Syntax.{IntExpr, encode_int}
use Rattle.words.specs.Exact.{Each}
use Rattle.walk.specs.Item.{is_none}
use Rattle.walks.specs.Tree.{never, splits_int}
use Rattle.walks.specs.Resolve.{never_int}
use Rattle.walks.specs.Legal.{LegalInt, legal_int_bound}
use Rattle.walks.specs.Keys.{keys_int, Every, every_none, every_map, every_append, keys_int_within, keys_int_written}
use Rattle.walks.specs.KeyPlaces.{AgreesWith, every_both}
use Rattle.stages.specs.LegalKeys.{LegalIf, keys_int_legal}
use Rattle.stages.specs.Columns.{columns_keys, columns_words}

-- with-ifs: true where a legal If stands in the folded words F before b
module _ (F : List ℤ) (parted : ℕ → Bool) (with_ifs : Bool) (b : ℕ) (marked : (q : ℕ) (e : IntExpr) → LegalIf e → Has F q (encode_int e) → folded ≤ q → q < b → with_ifs ≡ true) where
  none_counted : (first count splits : ℕ) → first + count ≤ 0 + splits → splits ≡ 0 → is_none count ≡ true
  none_counted first count splits h z = let c : count ≡ 0 = omega arith in ap is_none c

  column_agree : (e : IntExpr) (p : ℕ) → LegalInt e 64 → Has F p (encode_int e) → folded ≤ p → p + length (encode_int e) ≤ b → ((q : ℕ) → p ≤ q → q < p + length (encode_int e) → parted q ≡ false) → Every (AgreesWith parted with_ifs) (keys_int e never p 0)
  column_agree e p l h from to none =
      let x = every_both (keys_int_within e never p 0 (legal_int_bound e 64 l)) (every_both (keys_int_written F e never p 0 h) (keys_int_legal e never p 0 l)) in
      every_map (λ k y.
      let w = y.0.flag ∙ none_counted k.first k.count (splits_int e never) y.0.high (never_int e) in
      (none k.place.at y.0.from y.0.to ∙ sym (ap not w), marked k.place.at k.written y.1.1 y.1.0.stands (omega (arith, y.0.from)) (omega (arith, y.0.to)))) x

  pub columns_agree : (es : List IntExpr) (p : ℕ) → Each (λ e. LegalInt e 64) es → Has F p (columns_words es) → folded ≤ p → p + length (columns_words es) ≤ b
      → ((q : ℕ) → p ≤ q → q < p + length (columns_words es) → parted q ≡ false) → Every (AgreesWith parted with_ifs) (columns_keys es p)
  unfolding columns_keys
  columns_agree [] p l h from to none = every_none
  columns_agree (e ∷ es) p l h from to none =
      let n = length-append (encode_int e) (columns_words es) in
      let q = p + length (encode_int e) in
      every_append (column_agree e p l.0 (has_front F p (encode_int e) (columns_words es) h) from (omega (arith, n)) (λ r i j. none r i (omega (arith, n))))
      (columns_agree es q l.1 (has_back F p (encode_int e) (columns_words es) h) (omega arith) (omega (arith, n)) (λ r i j. none r (omega arith) (omega (arith, n))))
