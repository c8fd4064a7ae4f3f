-- What an If adds to the clauses, as the code writes it.
use Rattle.std.specs.Prelude.{◌≡◌, Bool, true, false, not, cond, List, [], ◌∷◌, ◌++◌, ℕ, ◌+◌, ℤ}
use Rattle.laws.specs.Writes.{Wrote}
use Rattle.walk.specs.Item.{bump, disj_lines}
use Rattle.walk.specs.Decode.{past, read_part}
use Rattle.walk.specs.declared.Counters.{Counters}
use Rattle.walks.specs.Tree.{Splitting}
use Rattle.walks.specs.Form.{IntForm}
use Rattle.walks.specs.Item.{constant_in, number_in, Item, tallies, disj_text, num_item, cross_item, tied_item, counts, open_item, Making, constant_making, open_making, form_int_item}
use Rattle.walks.specs.Decode.{own_at, if_step, decode, decode_int}
use Rattle.walks.specs.Written.{written, written_lines}
use Rattle.scan.specs.IfLaws.{Low, seen_at}
use Rattle.scan.specs.Skip.{Skips}
use Rattle.scan.specs.declared.Behind.{Behind}
use Rattle.rulewriter.specs.Places.{Placed, item_at, items_at, left_at, right_at}
use Rattle.rulewriter.specs.declared.Added.{Added}

-- the clauses of an open If of number v: its condition stands at a place, its first branch at t, the second behind it
abbrev pub opened : List ℤ → ℕ → Splitting → ℕ → ℕ → Behind → ℕ → Item
opened w l m at base t v =
    let a = form_int_item [] (left_at w l m t.at t.base) in
    let b = form_int_item [] (right_at w l m t.at t.base) in
    open_item (item_at w l m false at base) (item_at w l m true at base) (a.total w t.n) (b.total w (a.behind w t.n)) v

-- ---- an If at a place, l levels left below it

module _ (w : List ℤ) (l : ℕ) (m : Splitting) (at base : ℕ) where
  abbrev pub if_at : IntForm
  if_at = let c = past (read_part w) (at + 1) in (if_step (own_at (read_part w) c) (decode (read_part w) l) (decode_int (read_part w) l) m at c base).tree

  -- t: where its first branch stands, whatever the counters
  pub record Branches (t : Behind) : Type 0 where
    pub placed : Placed w t.at t.base t.n
    pub first : Skips (read_part w) l m (past (read_part w) (at + 1)) base t.at t.base

  -- what making it adds behind its branches' part; t: the first branch's place with the counters there, n: the counters behind both
  abbrev pub made : Behind → Counters → Making
  made t n =
      let c = past (read_part w) (at + 1) in
      let x = item_at w l m false c base in
      let y = item_at w l m true c base in
      let a = form_int_item [] (left_at w l m t.at t.base) in
      let b = form_int_item [] (right_at w l m t.at t.base) in
      cond (constant_in (seen_at w at)) (constant_making w x y (own_at (read_part w) c) n) (open_making w x y (a.total w t.n) (b.total w (a.behind w t.n)) (number_in (seen_at w at) 0) n)

-- what the Ifs of two sides add
module _ (w : List ℤ) (l : ℕ) (m : Splitting) (at base : ℕ) (n : Counters) where
  abbrev pub sides_adds : List ℤ
  sides_adds = let a = form_int_item [] (left_at w l m at base) in a.adds w n ++ (form_int_item [] (right_at w l m at base)).adds w (a.behind w n)

  abbrev pub sides_added : ℕ
  sides_added = let a = form_int_item [] (left_at w l m at base) in bump (a.added w n) ((form_int_item [] (right_at w l m at base)).added w (a.behind w n))

-- an Xor or Iff that is not split, its sides at a place
abbrev pub crossed : List ℤ → ℕ → Splitting → Bool → ℕ → ℕ → Item
crossed w l m h at base = cross_item (items_at w l m 2 false h at base) (items_at w l m 2 true (not h) at base)

-- the side at a place, tied to the number v
abbrev pub tied_at : List ℤ → ℕ → Splitting → ℕ → ℕ → ℕ → Item
tied_at w l m v at base = tied_item v (item_at w l m false at base) (item_at w l m true at base)

-- the blocks of the items one after another: the counters behind them, how many clauses they have, the position behind their words
pub record Listed (w : List ℤ) (is : List Item) (n : Counters) (out : List ℤ) (o : ℕ) (out' : List ℤ) (m : Counters) (k p : ℕ) : Type 0 where
  pub wrote : Wrote out o (written is w n) out' p
  pub count : m ≡ counts is w n
  pub lines : k ≡ written_lines is w n
  pub low : Low m

-- k clauses with these words are written
pub record Puts (ws : List ℤ) (k : ℕ) (out : List ℤ) (o : ℕ) (out' : List ℤ) (r : Added) : Type 0 where
  pub wrote : Wrote out o ws out' r.o
  pub lines : r.lines ≡ k

-- the disjunction of a new number's literal and an item; it takes no number
pub record PutsNamed (v : ℕ) (h : Bool) (i : Item) (w : List ℤ) (n : Counters) (out : List ℤ) (o : ℕ) (out' : List ℤ) (r : Added) : Type 0 where
  pub wrote : (b : ℕ) → Wrote out o (disj_text (num_item v h ∷ i ∷ []) w n b []) out' r.o
  pub lines : r.lines ≡ disj_lines (tallies (num_item v h ∷ i ∷ []))
