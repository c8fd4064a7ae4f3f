-- The places of the Ifs that stand in words which are split everywhere, read as walks' Decode reads forms: total. Where the words of a legal expression
-- stand, they are the places of its keys (`ifs_int_are`).
use Rattle.std.specs.Prelude.{◌≡◌, refl, false, cond, List, [], ◌∷◌, ◌++◌, ℕ, zero, suc, ◌+◌, ◌-◌, ◌≤◌, ◌<◌, ℤ, pos, length, get_or, eqb}
use Rattle.std.proofs.Common.{ap, subst, append-nil, arith, sub-one}
use Rattle.laws.specs.Slices.{Has, has_fits, has_front, has_back, has_word, has_rest}
use Rattle.memory.specs.Places.{limit}
use Rattle.memory.specs.Number.{nat}
use Rattle.syntax.specs.Syntax.{IntExpr, IConst, IVar, Linear, If, Terms, tnil, tmore, count_terms, encode_int, encode_terms, BoolExpr, Const, Var, NVar, And, Or, Not, Xor, Iff, Imp, Cmp, Members, mnil, more, count_members, encode_op, encode_bool, encode_members}
use Rattle.walk.specs.Item.{bump, is_none}
use Rattle.walk.specs.Decode.{word, past}
use Rattle.walk.specs.declared.Node.{Node}
use Rattle.walk.specs.declared.Node.TheVariants.{Var as VarAt, Cmp as CmpAt, Not as NotAt, Join, Cross}
use Rattle.walks.specs.Tree.{Place, here, splits, splits_members, splits_int, splits_terms}
use Rattle.walks.specs.Decode.{node_of, Read, Reader, IntReader, decode, decode_int}
use Rattle.walks.specs.DecodeExact.{decode_is, decode_int_is}
use Rattle.walks.specs.Thirds.{room_first, room_second, room_third, taken_three, size_three}
use Rattle.walks.specs.Legal.{LegalInt, LegalTerms, Legal, LegalMembers}
use Rattle.walks.specs.Keys.{Key, keys, keys_members, keys_int, keys_terms}
use Rattle.walks.specs.KeyAt.{places}

-- of what stands at a place, with the splitting's next number
abbrev pub Ifs : Type 0
Ifs = ℕ → ℕ → List Place

-- of so many members
unfoldable pub many_ifs : Reader → Ifs → ℕ → Ifs
many_ifs p q zero at n = []
many_ifs p q (suc k) at n = let a = p false at n in q at n ++ many_ifs p q k a.end a.next

-- p, r: the readers one level down; q, s: their Ifs
unfoldable pub node_ifs : Reader → IntReader → Ifs → Ifs → ℕ → Node → List Place
node_ifs p r q s n (VarAt v e) = []
node_ifs p r q s n (CmpAt o a) = let x = r a n in s a n ++ s x.end x.next
node_ifs p r q s n (NotAt e) = q e n
node_ifs p r q s n (Join d k a b e) = many_ifs p q k e n
node_ifs p r q s n (Cross h e) = many_ifs p q 2 e (bump n 2)

-- of so many terms
unfoldable pub terms_ifs : List ℤ → IntReader → Ifs → ℕ → Ifs
terms_ifs ws r s zero at n = []
terms_ifs ws r s (suc k) at n =
    let p = past ws (at + 1) in
    let a = r p n in
    s p n ++ terms_ifs ws r s k a.end a.next

-- an If that ends at `end`, with the splitting's next number before and behind it
abbrev pub place_at : ℕ → ℕ → ℕ → ℕ → Place
place_at at end n next = record { at = at; size = end - at; whole = is_none (next - n) }

-- its condition stands at c
unfoldable pub if_ifs : Reader → IntReader → Ifs → Ifs → ℕ → ℕ → ℕ → List Place
if_ifs p r q s at c n =
    let x = p false c n in
    let t = r x.end x.next in
    let f = r t.end t.next in
    place_at at f.end n f.next ∷ q c n ++ (s x.end x.next ++ s t.end t.next)

-- k: its code
unfoldable pub int_node_ifs : List ℤ → Reader → IntReader → Ifs → Ifs → ℕ → ℕ → ℕ → List Place
int_node_ifs ws p r q s at n k =
    cond (eqb k 22) (terms_ifs ws r s (word ws (at + 1)) (past ws (at + 2)) n)
    (cond (eqb k 23) (if_ifs p r q s at (past ws (at + 1)) n) [])

unfoldable mutual
  pub ifs_at : List ℤ → ℕ → Ifs
  ifs_at ws zero at n = []
  ifs_at ws (suc l) at n = node_ifs (decode ws l here) (decode_int ws l here) (λ p k. ifs_at ws l p k) (λ p k. ifs_int_at ws l p k) n (node_of ws false at (word ws at))

  pub ifs_int_at : List ℤ → ℕ → Ifs
  ifs_int_at ws zero at n = []
  ifs_int_at ws (suc l) at n = int_node_ifs ws (decode ws l here) (decode_int ws l here) (λ p k. ifs_at ws l p k) (λ p k. ifs_int_at ws l p k) at n (word ws at)

-- ---- one level

pub ifs_level : (ws : List ℤ) (l at n : ℕ) → 0 < l → ifs_at ws l at n ≡ node_ifs (decode ws (l - 1) here) (decode_int ws (l - 1) here) (ifs_at ws (l - 1)) (ifs_int_at ws (l - 1)) n (node_of ws false at (word ws at))
unfolding ifs_at
ifs_level ws zero at n h = absurd (omega arith)
ifs_level ws (suc l) at n h = rw sub-one

pub int_ifs_level : (ws : List ℤ) (l at n : ℕ) → 0 < l → ifs_int_at ws l at n ≡ int_node_ifs ws (decode ws (l - 1) here) (decode_int ws (l - 1) here) (ifs_at ws (l - 1)) (ifs_int_at ws (l - 1)) at n (word ws at)
unfolding ifs_at
int_ifs_level ws zero at n h = absurd (omega arith)
int_ifs_level ws (suc l) at n h = rw sub-one

-- ---- words at a place

record One (ws : List ℤ) (at : ℕ) (u : ℤ) (us : List ℤ) : Type 0 where
  pub first : get_or ws at (pos 0) ≡ u
  pub rest : Has ws (at + 1) us
  pub stop : past ws (at + 1) ≡ at + 1

one : (ws : List ℤ) (at : ℕ) (u : ℤ) (us : List ℤ) → Has ws at (u ∷ us) → One ws at u us
one ws at u us h = record { first = has_word ws at u us (pos 0) h; rest = has_rest ws at u us h; stop = omega (arith, has_fits ws at (u ∷ us) h (omega arith)) }

record Two (ws : List ℤ) (at : ℕ) (u v : ℤ) (us : List ℤ) : Type 0 where
  pub first : get_or ws at (pos 0) ≡ u
  pub second : get_or ws (at + 1) (pos 0) ≡ v
  pub rest : Has ws (at + 2) us
  pub stop : past ws (at + 2) ≡ at + 2

two : (ws : List ℤ) (at : ℕ) (u v : ℤ) (us : List ℤ) → Has ws at (u ∷ v ∷ us) → Two ws at u v us
two ws at u v us h =
    let k = one ws at u (v ∷ us) h in
    let j = one ws (at + 1) v us k.rest in
    let z : at + 1 + 1 ≡ at + 2 = omega arith in
    record { first = k.first; second = j.first; rest = subst (λ (n : ℕ). Has ws n us) z j.rest; stop = omega (arith, has_fits ws at (u ∷ v ∷ us) h (omega arith)) }

-- ---- keys

pub places_append : (xs ys : List Key) → places (xs ++ ys) ≡ places xs ++ places ys
places_append [] ys = refl
places_append (x ∷ xs) ys = ap (λ (ps : List Place). x.place ∷ ps) (places_append xs ys)

-- two members
two_ifs : (p : Reader) (q : Ifs) (at n : ℕ) (r : Read) (xs ys : List Key) → p false at n ≡ r → q at n ≡ places xs → q r.end r.next ≡ places ys → many_ifs p q 2 at n ≡ places (xs ++ ys)
unfolding many_ifs
two_ifs p q at n r xs ys a b c = rw (a, b, c, append-nil (places ys), places_append xs ys)

place_to : (at s t j k : ℕ) → s ≡ t → j ≡ k → ◌≡◌ {A = Place} (record { at = at; size = s; whole = is_none j }) (record { at = at; size = t; whole = is_none k })
place_to at s t j k x y = cc

-- two sides; f, g: what is known of their Ifs
sides_ifs : (a b : BoolExpr) (l : ℕ) (ws : List ℤ) (at n : ℕ) → Legal a l → Has ws at (encode_bool a ++ encode_bool b) → n + splits a here + splits b here ≤ limit
    → (Has ws at (encode_bool a) → ifs_at ws l at n ≡ places (keys a here at n))
    → (let p = at + length (encode_bool a) in let k = n + splits a here in Has ws p (encode_bool b) → ifs_at ws l p k ≡ places (keys b here p k))
    → many_ifs (decode ws l here) (ifs_at ws l) 2 at n ≡ places (keys a here at n ++ keys b here (at + length (encode_bool a)) (n + splits a here))
sides_ifs a b l ws at n h d k f g =
    let da = has_front ws at (encode_bool a) (encode_bool b) d in
    let db = has_back ws at (encode_bool a) (encode_bool b) d in
    two_ifs (decode ws l here) (ifs_at ws l) at n _ (keys a here at n) _ (decode_is a l here false ws at n h da (omega (arith, k))) (f da) (g db)

mutual
  unfolding Legal encode_bool node_of node_ifs keys splits word nat many_ifs terms_ifs if_ifs int_node_ifs

  ifs_are : (e : BoolExpr) (l : ℕ) (ws : List ℤ) (at n : ℕ) → Legal e l → Has ws at (encode_bool e) → n + splits e here ≤ limit → ifs_at ws l at n ≡ places (keys e here at n)
  ifs_are (Const b) l ws at n h d k = absurd h
  ifs_are (Var v) l ws at n h d k =
      let p = two ws at (pos 11) (pos v) [] d in
      rw (ifs_level ws l at n h.0, p.first)
  ifs_are (NVar j) l ws at n h d k = absurd h
  ifs_are (And ms) l ws at n h d k =
      let p = two ws at (pos 12) (pos (count_members ms)) (encode_members ms) d in
      rw (ifs_level ws l at n h.0, p.first, p.second, p.stop, members_ifs ms (l - 1) ws (at + 2) n h.2 p.rest k)
  ifs_are (Or ms) l ws at n h d k =
      let p = two ws at (pos 13) (pos (count_members ms)) (encode_members ms) d in
      rw (ifs_level ws l at n h.0, p.first, p.second, p.stop, members_ifs ms (l - 1) ws (at + 2) n h.2 p.rest k)
  ifs_are (Not e) l ws at n h d k =
      let p = one ws at (pos 14) (encode_bool e) d in
      rw (ifs_level ws l at n h.0, p.first, p.stop, ifs_are e (l - 1) ws (at + 1) n h.1 p.rest k)
  ifs_are (Xor a b) l ws at n h d k =
      let p = one ws at (pos 15) (encode_bool a ++ encode_bool b) d in
      let i : bump n 2 ≡ 2 + n = omega (arith, k) in
      rw (ifs_level ws l at n h.0, p.first, p.stop, i) (sides_ifs a b (l - 1) ws (at + 1) (2 + n) h.1 p.rest (omega (arith, k)) (λ x. ifs_are a (l - 1) ws (at + 1) (2 + n) h.1 x (omega (arith, k))) (λ x. ifs_are b (l - 1) ws (at + 1 + length (encode_bool a)) ((2 + n) + splits a here) h.2 x (omega (arith, k))))
  ifs_are (Iff a b) l ws at n h d k =
      let p = one ws at (pos 16) (encode_bool a ++ encode_bool b) d in
      let i : bump n 2 ≡ 2 + n = omega (arith, k) in
      rw (ifs_level ws l at n h.0, p.first, p.stop, i) (sides_ifs a b (l - 1) ws (at + 1) (2 + n) h.1 p.rest (omega (arith, k)) (λ x. ifs_are a (l - 1) ws (at + 1) (2 + n) h.1 x (omega (arith, k))) (λ x. ifs_are b (l - 1) ws (at + 1 + length (encode_bool a)) ((2 + n) + splits a here) h.2 x (omega (arith, k))))
  ifs_are (Imp a b) l ws at n h d k =
      let p = one ws at (pos 17) (encode_bool a ++ encode_bool b) d in
      rw (ifs_level ws l at n h.0, p.first, p.stop) (sides_ifs a b (l - 1) ws (at + 1) n h.1 p.rest (omega (arith, k)) (λ x. ifs_are a (l - 1) ws (at + 1) n h.1 x (omega (arith, k))) (λ x. ifs_are b (l - 1) ws (at + 1 + length (encode_bool a)) (n + splits a here) h.2 x (omega (arith, k))))
  ifs_are (Cmp o a b) l ws at n h d k =
      let p = two ws at (pos 18) (encode_op o) (encode_int a ++ encode_int b) d in
      let da = has_front ws (at + 2) (encode_int a) (encode_int b) p.rest in
      let db = has_back ws (at + 2) (encode_int a) (encode_int b) p.rest in
      let q = at + 2 + length (encode_int a) in
      rw (
        ifs_level ws l at n h.0,
        p.first,
        p.stop,
        decode_int_is a (l - 1) here ws (at + 2) n h.1 da (omega arith),
        ifs_int_are a (l - 1) ws (at + 2) n h.1 da (omega arith),
        ifs_int_are b (l - 1) ws q (n + splits_int a here) h.2 db (omega arith),
        places_append,
      )

  members_ifs : (ms : Members) (l : ℕ) (ws : List ℤ) (at n : ℕ) → LegalMembers ms l → Has ws at (encode_members ms) → n + splits_members ms here ≤ limit → many_ifs (decode ws l here) (ifs_at ws l) (count_members ms) at n ≡ places (keys_members ms here at n)
  members_ifs mnil l ws at n h d k = refl
  members_ifs (more e ms) l ws at n h d k =
      let de = has_front ws at (encode_bool e) (encode_members ms) d in
      let dm = has_back ws at (encode_bool e) (encode_members ms) d in
      rw (decode_is e l here false ws at n h.0 de (omega arith), ifs_are e l ws at n h.0 de (omega arith), members_ifs ms l ws (at + length (encode_bool e)) (n + splits e here) h.1 dm (omega arith), places_append)

  pub ifs_int_are : (e : IntExpr) (l : ℕ) (ws : List ℤ) (at n : ℕ) → LegalInt e l → Has ws at (encode_int e) → n + splits_int e here ≤ limit → ifs_int_at ws l at n ≡ places (keys_int e here at n)
  ifs_int_are (IConst c) l ws at n h d k =
      let p = two ws at (pos 20) c [] d in
      rw (int_ifs_level ws l at n h, p.first)
  ifs_int_are (IVar v) l ws at n h d k =
      let p = two ws at (pos 21) (pos v) [] d in
      rw (int_ifs_level ws l at n h.0, p.first)
  ifs_int_are (Linear ts) l ws at n h d k =
      let p = two ws at (pos 22) (pos (count_terms ts)) (encode_terms ts) d in
      rw (int_ifs_level ws l at n h.0, p.first, p.second, p.stop, terms_ifs_are ts (l - 1) ws (at + 2) n h.1 p.rest k)
  ifs_int_are (If i c t f) l ws at n h d k =
      let p = one ws at (pos 23) (encode_bool c ++ (encode_int t ++ encode_int f)) d in
      let dc = has_front ws (at + 1) (encode_bool c) (encode_int t ++ encode_int f) p.rest in
      let db = has_back ws (at + 1) (encode_bool c) (encode_int t ++ encode_int f) p.rest in
      let u = at + 1 + length (encode_bool c) in let v = u + length (encode_int t) in
      let dt = has_front ws u (encode_int t) (encode_int f) db in
      let df = has_back ws u (encode_int t) (encode_int f) db in
      let j = n + splits c here in let j₂ = j + splits_int t here in
      let x = splits c here in let y = splits_int t here in let z = splits_int f here in
      rw (
        int_ifs_level ws l at n h.0,
        p.first,
        p.stop,
        decode_is c (l - 1) here false ws (at + 1) n h.1 dc (room_first x y z limit n k),
        decode_int_is t (l - 1) here ws u j h.2 dt (room_second x y z limit n k),
        decode_int_is f (l - 1) here ws v j₂ h.3 df (room_third x y z limit n k),
        ifs_are c (l - 1) ws (at + 1) n h.1 dc (room_first x y z limit n k),
        ifs_int_are t (l - 1) ws u j h.2 dt (room_second x y z limit n k),
        ifs_int_are f (l - 1) ws v j₂ h.3 df (room_third x y z limit n k),
        places_append (keys c here (at + 1) n),
        places_append (keys_int t here u j),
      )
      (ap (λ (o : Place). o ∷ (places (keys c here (at + 1) n) ++ (places (keys_int t here u j) ++ places (keys_int f here v j₂))))
      (place_to at (v + length (encode_int f) - at) (1 + length (encode_bool c) + length (encode_int t) + length (encode_int f)) (j₂ + z - n) (x + (y + z)) (size_three (length (encode_bool c)) (length (encode_int t)) (length (encode_int f)) at) (taken_three x y z n)))

  terms_ifs_are : (ts : Terms) (l : ℕ) (ws : List ℤ) (at n : ℕ) → LegalTerms ts l → Has ws at (encode_terms ts) → n + splits_terms ts here ≤ limit → terms_ifs ws (decode_int ws l here) (ifs_int_at ws l) (count_terms ts) at n ≡ places (keys_terms ts here at n)
  terms_ifs_are tnil l ws at n h d k = refl
  terms_ifs_are (tmore c e ts) l ws at n h d k =
      let p = one ws at c (encode_int e ++ encode_terms ts) d in
      let de = has_front ws (at + 1) (encode_int e) (encode_terms ts) p.rest in
      let dt = has_back ws (at + 1) (encode_int e) (encode_terms ts) p.rest in
      rw (p.stop, decode_int_is e l here ws (at + 1) n h.0 de (omega arith), ifs_int_are e l ws (at + 1) n h.0 de (omega arith), terms_ifs_are ts l ws (at + 1 + length (encode_int e)) (n + splits_int e here) h.1 dt (omega arith), places_append)
