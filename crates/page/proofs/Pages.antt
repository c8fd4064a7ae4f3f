-- A law for each answer of the functions that fill lines, over variables. Assumes nothing.
use mathlib.Core.Path.{◌≡◌, refl, sym, ap, ◌∙◌, subst}
use mathlib.Core.Bool.{Bool, true, false, cond}
use mathlib.Core.List.{List, [], ◌∷◌, ◌++◌, map, append_assoc, append-nil}
use Prim.Native.Nat.{ℕ, ◌+◌, ◌-◌, ◌≤◌, ◌<◌, min}
use native.Mathlib.Omega.{arith}
use lib.IntN.{ℤ, pos}
use lib.Dec.{leb, ltb}
use lib.ListN.{length, take, drop, get_or, length-append, length-take, length-drop, length-replicate, drop_of_length-le}
use lib.Seq.{sets}
use borrow.Author.Tests.{le-leb, lt-leb, lt-ltb, le-ltb, ltb-true, ltb-false}
use Rattle.laws.specs.Lists.{flat, flat_append}
use Rattle.decimal.specs.Decimal.{print_number}
use Rattle.decimal.specs.Bytes.{comma}
use Rattle.lines.specs.Lines.{print_numbers}
use Rattle.lines.specs.Output.{cons_word, Stops}
use Rattle.page.specs.Sheet.{spaces, space, width, Item, literal_item, Page, full, put, turn, place_part, place_parts, place_item, place_items, pair_parts}
use Rattle.page.specs.Writes.{Wrote, Line, page_text, On, Moves, begun, Begins, with_room, Rooms, pair_text}
use Rattle.page.specs.Placing.{begun_here, begun_space, begun_turn, part_fits, place_begun}
use Rattle.page.specs.declared.Place.{Place}
use Rattle.page.proofs.Bytes.{sets_append, wrote_then, wrote_to, wrote_length}

abbrev pub place : ℕ → ℕ → Bool → Place
place l a b = record { line = l; at = a; bare = b }

-- ---- one page after another

pub moves_none : {out : List ℕ} {p : Place} → Line p → Moves (λ x. x) 0 out p out p
moves_none l = record { line = l; few = omega arith; size = refl; page = λ out₀ base x o. o }

pub moves_then : {f g : Page → Page} {m n : ℕ} {a b c : List ℕ} {p q r : Place} → Moves f m a p b q → Moves g n b q c r → Moves (λ x. g (f x)) (m + n) a p c r
moves_then {f} x y = record {
  line = y.line;
  few = let h = x.few in let k = y.few in omega arith;
  size = y.size ∙ x.size;
  page = λ out₀ base P o. y.page out₀ base (f P) (x.page out₀ base P o);
}

-- the same change, said another way, and more lines
pub moves_as : {f g : Page → Page} {m n : ℕ} {a b : List ℕ} {p r : Place} → ((x : Page) → f x ≡ g x) → m ≤ n → Moves f m a p b r → Moves g n a p b r
moves_as {f} {g} {m} {n} {a} {b} {p} {r} e h x = record {
  line = x.line;
  few = let k = x.few in omega arith;
  size = x.size;
  page = λ out₀ base P o. subst (λ (Q : Page). On out₀ base Q b r) (e P) (x.page out₀ base P o);
}

-- bytes that make a page another
on_more : {out₀ out out' : List ℕ} {base : ℕ} {p r : Place} (P Q : Page) (bs : List ℕ) → On out₀ base P out p → Wrote out p.at bs out' r.at → page_text Q ≡ page_text P ++ bs → r.at ≡ r.line + length Q.line → Q.bare ≡ r.bare → On out₀ base Q out' r
on_more {out₀} {out} {out'} {base} {p} {r} P Q bs o w e c b = record {
  bytes = w.bytes ∙ ap (λ (l : List ℕ). sets l p.at bs) o.bytes ∙ ap (λ n. sets (sets out₀ base (page_text P)) n bs) o.after ∙ sym (sets_append out₀ base (page_text P) bs) ∙ ap (sets out₀ base) (sym e);
  after = let f = w.after in let g = o.after in rw (e, length-append (page_text P) bs) (omega arith);
  column = c;
  bare = b;
}

put_text : (t : List ℕ) (P : Page) → page_text (put t P) ≡ page_text P ++ t
unfolding page_text put
put_text t P = sym (append_assoc (flat (map full P.lines)) P.line t)

pub map-append : (xs ys : List (List ℕ)) → map full (xs ++ ys) ≡ map full xs ++ map full ys
map-append [] ys = refl
map-append (x ∷ xs) ys = ap (λ l. full x ∷ l) (map-append xs ys)

turn_text : (P : Page) → page_text (turn P) ≡ page_text P ++ ((spaces (80 - length P.line) ++ (10 ∷ [])) ++ spaces 10)
unfolding page_text turn full
turn_text P =
    let ls : List ℕ = flat (map full P.lines) in
    let end : List ℕ = spaces (80 - length P.line) ++ (10 ∷ []) in
    let e : flat (map full (P.lines ++ (P.line ∷ []))) ≡ ls ++ (P.line ++ end) = ap flat (map-append P.lines (P.line ∷ [])) ∙ flat_append (map full P.lines) (map full (P.line ∷ [])) ∙ ap (λ (l : List ℕ). ls ++ l) (append-nil (P.line ++ end)) in
    ap (λ (l : List ℕ). l ++ spaces 10) e ∙ ap (λ (l : List ℕ). l ++ spaces 10) (sym (append_assoc ls P.line end)) ∙ append_assoc (ls ++ P.line) end (spaces 10)

-- ---- lines

pub end_written : {out mid out' : List ℕ} {at k o : ℕ} (line : ℕ) → line + 10 ≤ at → at ≤ line + 80 → k ≡ line + 80 - at → Wrote out at (spaces k) mid o → o ≡ at + k → out' ≡ sets mid o (10 ∷ []) → (Wrote out at (spaces (80 - (at - line)) ++ (10 ∷ [])) out' (o + 1)) × (o + 1 ≡ line + 81)
end_written {out} {mid} {out'} {at} {k} {o} line l h e w a b =
    let f : k ≡ 80 - (at - line) = omega arith in
    let x : Wrote out at (spaces (80 - (at - line))) mid o = wrote_to (ap spaces f) w in
    let y : Wrote mid o (10 ∷ []) out' (o + 1) = record { bytes = b; after = refl } in
    (wrote_then x y, omega arith)

pub turn_moves : {out mid out' : List ℕ} {p : Place} {e o : ℕ} → Line p → Wrote out p.at (spaces (80 - (p.at - p.line)) ++ (10 ∷ [])) mid e → e ≡ p.line + 81 → Wrote mid e (spaces 10) out' o → o ≡ e + 10
    → (Moves turn 1 out p out' (place e o true)) × (o ≡ e + 10)
turn_moves {out} {mid} {out'} {p} {e} {o} l x a y b = (
  record {
    line = record { low = omega arith; high = omega arith; start = λ t. b };
    few = omega arith;
    size = wrote_length y ∙ wrote_length x;
    page = λ out₀ base P n.
        let c : 80 - (p.at - p.line) ≡ 80 - length P.line = let d = n.column in omega arith in
        on_more P (turn P) _ n (wrote_then x y) (turn_text P ∙ rw c refl) (unfold turn in (rw (length-replicate {A = ℕ} 10 32) b)) (unfold turn in refl);
  },
  b,
)

-- ---- an item's beginning

pub on_as : {out₀ out : List ℕ} {base : ℕ} {r : Place} {P Q : Page} → P ≡ Q → On out₀ base P out r → On out₀ base Q out r
on_as {out₀} {out} {base} {r} {P} {Q} e o = subst (λ (X : Page). On out₀ base X out r) e o

pub begin_bare : {out : List ℕ} {p : Place} (w : ℕ) → Line p → p.bare ≡ true → Begins w out p out p
begin_bare w l b = record {
  moves = record { line = l; few = omega arith; size = refl; page = λ out₀ base P o. on_as (sym (begun_here w P (o.bare ∙ b))) o };
  fits = λ h. let e = l.start b in omega arith;
  start = λ h. l.start b;
}

pub begin_space : {out out' : List ℕ} {p : Place} (w : ℕ) → Line p → p.bare ≡ false → p.at + 1 + w ≤ p.line + 80 → out' ≡ sets out p.at (32 ∷ []) → length out' ≡ length out → Begins w out p out' (place p.line (p.at + 1) false)
begin_space {out} {out'} {p} w l b h x z = record {
  moves = record {
    line = record { low = let a = l.low in omega arith; high = omega arith; start = λ e. absurd (let q : ◌≡◌ {A = ℕ} 0 1 = cc in omega arith) };
    few = omega arith;
    size = z;
    page = λ out₀ base P o.
        let c = o.column in
        let w1 : Wrote out p.at (space ∷ []) out' (p.at + 1) = record { bytes = x; after = refl } in
        on_as (sym (begun_space w P (o.bare ∙ b) (omega arith))) (on_more {r = place p.line (p.at + 1) false} P (put (space ∷ []) P) (space ∷ []) o w1 (put_text (space ∷ []) P) (unfold put in (omega (arith, length-append P.line (space ∷ [])))) (unfold put in refl));
  };
  fits = λ k. omega arith;
  start = λ k. absurd (let a = l.low in omega arith);
}

pub begin_turn : {out out' : List ℕ} {p r : Place} (w : ℕ) → Line p → p.bare ≡ false → p.line + 80 < p.at + 1 + w → Moves turn 1 out p out' r → r.at ≡ r.line + 10 → Begins w out p out' r
begin_turn {out} {out'} {p} {r} w l b h x z = record {
  moves = record {
    line = x.line;
    few = x.few;
    size = x.size;
    page = λ out₀ base P o. let c = o.column in on_as (sym (begun_turn w P (o.bare ∙ b) (omega arith))) (x.page out₀ base P o);
  };
  fits = λ k. omega arith;
  start = λ k. z;
}

-- ---- an item by its parts

-- an item of which the beginning and then the parts are written
pub item_moves : {out mid out' : List ℕ} {p q r : Place} {n w : ℕ} (t : List ℕ) (ts : Item) → Line p → w ≡ length (flat (t ∷ ts)) → Begins w out p mid q → Moves (place_parts (t ∷ ts)) n mid q out' r → Moves (place_item (t ∷ ts)) (1 + n) out p out' r
item_moves {out} {mid} {out'} {p} {q} {r} {n} {w} t ts l e b m =
    let x : Moves (λ P. place_parts (t ∷ ts) (begun w P)) (1 + n) out p out' r = moves_then b.moves m in
    record {
      line = x.line;
      few = x.few;
      size = x.size;
      page = λ out₀ base P o. on_as (ap (λ (k : ℕ). place_parts (t ∷ ts) (begun k P)) e ∙ sym (place_begun t ts P (λ h. let a = l.start (sym o.bare ∙ h) in let c = o.column in omega arith))) (x.page out₀ base P o);
    }

-- a part that fits
pub part_moves : {out out' : List ℕ} {p : Place} {a : ℕ} (t : List ℕ) → Line p → p.at + length t ≤ p.line + 80 → Wrote out p.at t out' a → Moves (place_part t) 0 out p out' (place p.line a false)
part_moves {out} {out'} {p} {a} t l h w = record {
  line = record { low = let c = l.low in let d = w.after in omega arith; high = let d = w.after in omega arith; start = λ e. absurd (let q : ◌≡◌ {A = ℕ} 0 1 = cc in omega arith) };
  few = omega arith;
  size = wrote_length w;
  page = λ out₀ base P o.
      let c = o.column in
      let d = w.after in
      on_as (sym (part_fits t P (omega arith))) (on_more {r = place p.line a false} P (put t P) t o w (put_text t P) (unfold put in (omega (arith, length-append P.line t))) (unfold put in refl));
}

-- ---- literals: i of them are placed

pub literal_moves : {out mid out' : List ℕ} {p q : Place} {w : ℕ} (z : ℤ) → Line p → w ≡ length (print_number z) → w ≤ 11 → Begins w out p mid q → out' ≡ sets mid q.at (print_number z) → Moves (place_item (literal_item z)) 1 out p out' (place q.line (q.at + w) false)
unfolding place_parts
literal_moves {out} {mid} {out'} {p} {q} {w} z l e h b x =
    let k = b.fits (omega arith) in
    let y : Wrote mid q.at (print_number z) out' (q.at + w) = record { bytes = x; after = rw e refl } in
    let f : w ≡ length (flat (literal_item z)) = omega (arith, length-append (print_number z) []) in
    item_moves (print_number z) [] l f b (part_moves (print_number z) b.moves.line (omega arith) y)

-- whatever places the rest has placed all
pub record Literals (part : List ℤ) (out₀ : List ℕ) (p₀ : Place) (i : ℕ) (out : List ℕ) (p : Place) : Type 0 where
  pub whole : (out' : List ℕ) (r : Place) → Moves (place_items (map literal_item (drop i part))) (length part - i) out p out' r → Moves (place_items (map literal_item part)) (length part) out₀ p₀ out' r

module _ {part : List ℤ} {out₀ : List ℕ} {p₀ : Place} where
  pub literals_start : Literals part out₀ p₀ 0 out₀ p₀
  literals_start = record { whole = λ out' r m. moves_as (λ x. refl) (omega arith) m }

  pub literals_next : {i : ℕ} {out : List ℕ} {p : Place} {out' : List ℕ} {r : Place} (z : ℤ) → Literals part out₀ p₀ i out p → i < length part → z ≡ get_or part i (pos 0) → Moves (place_item (literal_item z)) 1 out p out' r → Literals part out₀ p₀ (i + 1) out' r
  unfolding place_items
  literals_next {i} {out} {p} {out'} {r} z inv h e m = record {
    whole = λ out'' r' n.
        let c : place_items (map literal_item (drop i part)) ≡ place_items (literal_item z ∷ map literal_item (drop (i + 1) part)) = ap (λ (l : List ℤ). place_items (map literal_item l)) (cons_word part i h ∙ ap (λ (k : ℤ). k ∷ drop (i + 1) part) (sym e)) in
        inv.whole out'' r' (moves_as (λ x. ap (λ (f : Page → Page). f x) (sym c)) (omega arith) (moves_then m n));
  }

  pub literals_end : {i : ℕ} {out : List ℕ} {p : Place} → Literals part out₀ p₀ i out p → Line p → length part ≤ i → Moves (place_items (map literal_item part)) (length part) out₀ p₀ out p
  unfolding place_items
  literals_end {i} {out} {p} inv l h =
      let c : [] ≡ drop i part = sym (drop_of_length-le part h) in
      inv.whole out p (moves_as (λ x. ap (λ (l : List ℤ). place_items (map literal_item l) x) c) (omega arith) (moves_none l))

-- ---- a pair

pub pair_plain : (zs : List ℤ) (more : Bool) → more ≡ false → print_numbers zs ≡ pair_text zs more
unfolding pair_text
pair_plain zs more h = rw h (sym (append-nil (print_numbers zs)))

pair_comma : (zs : List ℤ) (more : Bool) → more ≡ true → print_numbers zs ++ (comma ∷ []) ≡ pair_text zs more
unfolding pair_text
pair_comma zs more h = rw h refl

module _ (zs : List ℤ) (more : Bool) (w : ℕ) (e : w ≡ length (print_numbers zs)) where
  pub width_plain : more ≡ false → w ≡ length (pair_text zs more)
  width_plain h = e ∙ ap length (pair_plain zs more h)

  pub width_comma : more ≡ true → w + 1 ≡ length (pair_text zs more)
  width_comma h = omega (arith, ap length (pair_comma zs more h), length-append (print_numbers zs) (comma ∷ []))

pub put_comma : {out mid out' : List ℕ} {at o : ℕ} (zs : List ℤ) (more : Bool) → more ≡ true → Wrote out at (print_numbers zs) mid o → out' ≡ sets mid o (comma ∷ []) → Wrote out at (pair_text zs more) out' (o + 1)
put_comma {out} {mid} {out'} {at} {o} zs more h w x = let y : Wrote mid o (comma ∷ []) out' (o + 1) = record { bytes = x; after = refl } in wrote_to (pair_comma zs more h) (wrote_then w y)

room_here : (w : ℕ) (P : Page) → length P.line + w ≤ 80 → with_room w P ≡ P
unfolding with_room
room_here w P h = ap (λ (t : Bool). cond t P (turn P)) (le-leb (length P.line + w) 80 h)

room_turn : (w : ℕ) (P : Page) → 80 < length P.line + w → with_room w P ≡ turn P
unfolding with_room
room_turn w P h = ap (λ (t : Bool). cond t P (turn P)) (lt-leb (length P.line + w) 80 h)

pub rooms_here : {out : List ℕ} {p : Place} (w : ℕ) → Line p → p.at + w ≤ p.line + 80 → Rooms w out p out p
rooms_here w l h = record {
  moves = record { line = l; few = omega arith; size = refl; page = λ out₀ base P o. let c = o.column in on_as (sym (room_here w P (omega arith))) o };
  fits = λ k. h;
}

pub rooms_turn : {out out' : List ℕ} {p r : Place} (w : ℕ) → p.line + 80 < p.at + w → Moves turn 1 out p out' r → r.at ≡ r.line + 10 → Rooms w out p out' r
rooms_turn w h m z = record {
  moves = record { line = m.line; few = m.few; size = m.size; page = λ out₀ base P o. let c = o.column in on_as (sym (room_turn w P (omega arith))) (m.page out₀ base P o) };
  fits = λ k. omega arith;
}

part_room : (t : List ℕ) (P : Page) → place_part t P ≡ put t (with_room (length t) P)
unfolding place_part with_room
part_room t P = go (leb (length P.line + length t) width)
  where
    go : (x : Bool) → cond x (put t P) (put t (turn P)) ≡ put t (cond x P (turn P))
    go true = refl
    go false = refl

-- a part written where there is room for it
pub pair_moves : {out mid out' : List ℕ} {p q : Place} {w a : ℕ} (t : List ℕ) → w ≡ length t → w ≤ 25 → Rooms w out p mid q → Wrote mid q.at t out' a → Moves (place_part t) 1 out p out' (place q.line a false)
pair_moves {out} {mid} {out'} {p} {q} {w} {a} t e h r x =
    let f = r.fits (omega arith) in
    let y : Moves (λ P. place_part t (with_room w P)) (1 + 0) out p out' (place q.line a false) = moves_then r.moves (part_moves t r.moves.line (omega arith) x) in
    record {
      line = y.line;
      few = y.few;
      size = y.size;
      page = λ out₀ base P o.
          let c = (r.moves.page out₀ base P o).column in
          let u : place_part t (with_room w P) ≡ put t (with_room w P) = part_fits t (with_room w P) (omega arith) in
          let v : put t (with_room w P) ≡ put t (with_room (length t) P) = ap (λ (k : ℕ). put t (with_room k P)) e in
          on_as (u ∙ v ∙ sym (part_room t P)) (y.page out₀ base P o);
    }

-- ---- pairs: those below i are placed

pairs_first : (zs : List ℤ) → 0 < length zs → pair_parts zs ≡ pair_text (take 2 zs) (ltb 2 (length zs)) ∷ pair_parts (drop 2 zs)
unfolding pair_parts pair_text
pairs_first [] h = absurd (omega arith)
pairs_first (v ∷ []) h = ap (λ (l : List ℕ). l ∷ []) (sym (append-nil (print_numbers (v ∷ []))))
pairs_first (v ∷ a ∷ []) h = ap (λ (l : List ℕ). l ∷ []) (sym (append-nil (print_numbers (v ∷ a ∷ []))))
pairs_first (v ∷ a ∷ w ∷ ws) h =
    let e : ltb 2 (length (v ∷ a ∷ w ∷ ws)) ≡ true = lt-ltb 2 (length (v ∷ a ∷ w ∷ ws)) (omega arith) in
    ap (λ (t : Bool). (print_numbers (v ∷ a ∷ []) ++ cond t (comma ∷ []) []) ∷ pair_parts (w ∷ ws)) (sym e)

-- both tests have the same answer
same_test : (a b c d : ℕ) → (a < b → c < d) → (b ≤ a → d ≤ c) → ltb a b ≡ ltb c d
same_test a b c d f g = go (ltb a b) refl
  where
    go : (t : Bool) → ltb a b ≡ t → t ≡ ltb c d
    go true e = sym (lt-ltb c d (f (ltb-true a b e)))
    go false e = sym (le-ltb c d (g (ltb-false a b e)))

pub stop_two : (part : List ℤ) (i j : ℕ) → i < length part → Stops part i 2 j → (i < j) × (j ≤ length part) × (length (take (j - i) (drop i part)) ≤ 2)
stop_two part i j h s =
    let n : length (drop i part) ≡ length part - i = length-drop i part in
    let t : length (take 2 (drop i part)) ≡ min 2 (length (drop i part)) = length-take 2 (drop i part) in
    let k = s.size in
    let e : length (take (j - i) (drop i part)) ≡ length (take 2 (drop i part)) = ap length s.part in
    (omega arith, s.high, omega arith)

pub record Pairs (part : List ℤ) (out₀ : List ℕ) (p₀ : Place) (i : ℕ) (out : List ℕ) (p : Place) : Type 0 where
  pub whole : (out' : List ℕ) (r : Place) → Moves (place_parts (pair_parts (drop i part))) (length part - i) out p out' r → Moves (place_parts (pair_parts part)) (length part) out₀ p₀ out' r

module _ {part : List ℤ} {out₀ : List ℕ} {p₀ : Place} where
  pub pairs_start : Pairs part out₀ p₀ 0 out₀ p₀
  pairs_start = record { whole = λ out' r m. moves_as (λ x. refl) (omega arith) m }

  pub pairs_next : {i j : ℕ} {out : List ℕ} {p : Place} {out' : List ℕ} {r : Place} (more : Bool) → Pairs part out₀ p₀ i out p → i < length part → Stops part i 2 j → more ≡ ltb j (length part) → Moves (place_part (pair_text (take (j - i) (drop i part)) more)) 1 out p out' r → Pairs part out₀ p₀ j out' r
  unfolding place_parts
  pairs_next {i} {j} {out} {p} {out'} {r} more inv h s b m =
      let n : length (drop i part) ≡ length part - i = length-drop i part in
      let k : j ≡ i + length (take 2 (drop i part)) = s.size in
      let t : length (take 2 (drop i part)) ≡ min 2 (length (drop i part)) = length-take 2 (drop i part) in
      let c : more ≡ ltb 2 (length (drop i part)) = b ∙ same_test j (length part) 2 (length (drop i part)) (λ x. omega arith) (λ x. omega arith) in
      let e : pair_parts (drop i part) ≡ pair_text (take (j - i) (drop i part)) more ∷ pair_parts (drop j part) = pairs_first (drop i part) (omega arith) ∙ rw (s.part, c, s.rest) refl in
      record { whole = λ out'' r' q. inv.whole out'' r' (moves_as (λ x. ap (λ (l : Item). place_parts l x) (sym e)) (omega arith) (moves_then m q)) }

  pub pairs_end : {i : ℕ} {out : List ℕ} {p : Place} → Pairs part out₀ p₀ i out p → Line p → length part ≤ i → Moves (place_parts (pair_parts part)) (length part) out₀ p₀ out p
  unfolding place_parts pair_parts
  pairs_end {i} {out} {p} inv l h =
      let c : [] ≡ drop i part = sym (drop_of_length-le part h) in
      inv.whole out p (moves_as (λ x. ap (λ (l : List ℤ). place_parts (pair_parts l) x) c) (omega arith) (moves_none l))
