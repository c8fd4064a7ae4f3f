-- A pair of an AllDifferent whose sides stand at p and q, the splitting's next number n: its extras, then the comparison. What is written of forms holds for
-- all declared domains (`blocks_over`).
use Rattle.std.proofs.Common.{subst}
use Rattle.std.specs.Prelude.{false, List, [], ℕ, ◌-◌, ℤ}
use Rattle.syntax.specs.Syntax.{Domain, Ne}
use Rattle.walk.specs.Decode.{read_part}
use Rattle.walk.specs.declared.Counters.{Counters}
use Rattle.walks.specs.Tree.{here}
use Rattle.walks.specs.Form.{Form, cmp, Forms, append}
use Rattle.walks.specs.Item.{Item, form_item, form_items}
use Rattle.walks.specs.Decode.{IntRead, decode_int, ties_int_at}
use Rattle.rulewriter.specs.Domains.{same_items}
use Rattle.rulewriter.specs.Making.{Listed}
use Rattle.rulewriter.specs.Ties.{Blocks}
use Rattle.rulewriter.specs.declared.Tied.{Tied}

module _ (ws : List ℤ) (p q n : ℕ) where
  abbrev first_side : IntRead
  first_side = decode_int ws 64 here p n

  abbrev second_side : IntRead
  second_side = decode_int ws 64 here q first_side.next

  -- the splitting's next number behind both
  abbrev pub pair_next : ℕ
  pair_next = second_side.next

  -- how many numbers it takes
  abbrev pub pair_numbers : ℕ
  pair_numbers = pair_next - n

  abbrev pub pair_extras : Forms
  pair_extras = append (ties_int_at ws 64 here p n) (ties_int_at ws 64 here q first_side.next)

  abbrev pub unequal : Form
  unequal = cmp Ne first_side.tree second_side.tree false

abbrev pub unequal_at : List ℤ → ℕ → ℕ → ℕ → Item
unequal_at w p q base = form_item [] (unequal (read_part w) p q base)

pub blocks_over : {w out out' : List ℤ} {n : Counters} {o : ℕ} {r : Tied} (ds : List Domain) (ts : Forms) → Blocks w ts n out o out' r → Listed w (form_items ds ts) n out o out' r.n r.lines r.o
blocks_over {w} {out} {out'} {n} {o} {r} ds ts h = subst (λ (is : List Item). Listed w is n out o out' r.n r.lines r.o) (same_items [] ds ts) h.listed
