-- What the items placed on a page are when its lines are read: the items. Assumes nothing.
use Rattle.std.specs.Prelude.{◌≡◌, Bool, ◌&&◌, not, cond, ℕ, ◌+◌, ◌≤◌, eqb, leb, drop}
use Rattle.std.proofs.Math.Path.{refl, sym, ap}
use Rattle.std.proofs.Common.{◌∙◌, subst, arith, length-drop, leb-true, leb-false, le-leb}
use Rattle.std.proofs.Math.Bool.{true, false}
use Rattle.std.proofs.lemmas.Bool.{false≢true}
use mathlib.Core.List.{List, [], ◌∷◌, ◌++◌, map, append_assoc, append-nil}
use Rattle.std.proofs.Math.ListN.{length, length-append}
use Rattle.std.proofs.lemmas.List.{take-append-le, drop-append-le}
use Rattle.laws.specs.Bools.{and_l, and_r, and_i}
use Rattle.laws.specs.Lists.{all, all_append, flat, flat_append}
use Rattle.decimal.specs.Bytes.{line_feed}
use Rattle.decimal.specs.Decimal.{is_empty}
use Rattle.readback.proofs.Split.{avoids, avoids_append}
use Rattle.page.specs.Sheet.{space, spaces, width, Item, Page, put, turn, place_part, place_parts, place_item, place_items}
use Rattle.page.specs.Writes.{begun}
use Rattle.page.specs.Placing.{begun_here, begun_space, begun_turn, place_begun}
use Rattle.sheetback.specs.ReadSheet.{tokens, ends_open, glued, goes_on, line_tokens}
use Rattle.sheetback.proofs.Tokens.{tokens_between, tokens_none, tokens_one, open_append, glued_open, glued_closed}

abbrev pub toks : List (List ℕ) → List (List ℕ)
toks ls = flat (map line_tokens ls)

map-append : {A B : Type 0} (f : A → B) (xs ys : List A) → map f (xs ++ ys) ≡ map f xs ++ map f ys
map-append f [] ys = refl
map-append f (x ∷ xs) ys = ap (λ l. f x ∷ l) (map-append f xs ys)

pub toks_snoc : (ls : List (List ℕ)) (l : List ℕ) → toks (ls ++ (l ∷ [])) ≡ toks ls ++ line_tokens l
toks_snoc ls l = ap flat (map-append line_tokens ls (l ∷ [])) ∙ flat_append (map line_tokens ls) (line_tokens l ∷ []) ∙ ap (λ x. toks ls ++ x) (append-nil (line_tokens l))

-- ---- lines: the first has a clause's number, the others go on

abbrev pub led : List (List ℕ) → Bool
led [] = false
led (l ∷ ls) = not (goes_on l) && all goes_on ls

-- a margin at least, and no line feed
abbrev pub sound : List ℕ → Bool
sound l = leb 10 (length l) && avoids line_feed l

on_append : (l t : List ℕ) → 10 ≤ length l → goes_on (l ++ t) ≡ goes_on l
unfolding goes_on
on_append l t h = ap (all (λ b. eqb b space)) (take-append-le 10 l t h)

led_append : (ls : List (List ℕ)) (l t : List ℕ) → 10 ≤ length l → led (ls ++ (l ∷ [])) ≡ true → led (ls ++ ((l ++ t) ∷ [])) ≡ true
led_append [] l t h k = ap (λ (x : Bool). not x && true) (on_append l t h) ∙ k
led_append (m ∷ ls) l t h k =
    let e : all goes_on (ls ++ (l ∷ [])) ≡ all goes_on (ls ++ ((l ++ t) ∷ [])) = all_append goes_on ls (l ∷ []) ∙ ap (λ (x : Bool). all goes_on ls && (x && true)) (sym (on_append l t h)) ∙ sym (all_append goes_on ls ((l ++ t) ∷ [])) in
    ap (λ (x : Bool). not (goes_on m) && x) (sym e) ∙ k

led_turn : (ls : List (List ℕ)) → led ls ≡ true → led (ls ++ (spaces 10 ∷ [])) ≡ true
unfolding goes_on
led_turn [] k = absurd (false≢true k)
led_turn (m ∷ ls) k = and_i (not (goes_on m)) _ (and_l (not (goes_on m)) (all goes_on ls) k) (all_append goes_on ls (spaces 10 ∷ []) ∙ rw (and_r (not (goes_on m)) (all goes_on ls) k) refl)

sound_append : (ls : List (List ℕ)) (l t : List ℕ) → avoids line_feed t ≡ true → all sound (ls ++ (l ∷ [])) ≡ true → all sound (ls ++ ((l ++ t) ∷ [])) ≡ true
sound_append ls l t h k =
    let e : all sound ls && (sound l && true) ≡ true = sym (all_append sound ls (l ∷ [])) ∙ k in
    let s : sound l && true ≡ true = and_r (all sound ls) (sound l && true) e in
    let u : sound l ≡ true = and_l (sound l) true s in
    let n = leb-true 10 (length l) (and_l (leb 10 (length l)) (avoids line_feed l) u) in
    let x : sound (l ++ t) ≡ true = and_i (leb 10 (length (l ++ t))) (avoids line_feed (l ++ t)) (le-leb 10 (length (l ++ t)) (omega (arith, length-append l t))) (avoids_append line_feed l t (and_r (leb 10 (length l)) (avoids line_feed l) u) h) in
    all_append sound ls ((l ++ t) ∷ []) ∙ and_i (all sound ls) (sound (l ++ t) && true) (and_l (all sound ls) (sound l && true) e) (and_i (sound (l ++ t)) true x refl)

sound_turn : (ls : List (List ℕ)) → all sound ls ≡ true → all sound (ls ++ (spaces 10 ∷ [])) ≡ true
sound_turn ls k = all_append sound ls (spaces 10 ∷ []) ∙ and_i (all sound ls) true k refl

-- ---- a page while an item is placed: the tokens before, and the piece of the item on the last line

record State (Q : Page) (T : List (List ℕ)) (c : List ℕ) : Type 0 where
  pub tok : (t : List ℕ) → toks Q.lines ++ tokens (drop 10 Q.line ++ t) ≡ T ++ tokens (c ++ t)
  pub long : 10 ≤ length Q.line
  pub leads : led (Q.lines ++ (Q.line ∷ [])) ≡ true
  pub sounds : all sound (Q.lines ++ (Q.line ∷ [])) ≡ true

-- a page whose items are done
pub record Read (P : Page) (done : List (List ℕ)) : Type 0 where
  pub glue : (U : List (List ℕ)) → glued ((toks P.lines ++ line_tokens P.line) ++ U) ≡ done ++ glued U
  pub start : P.bare ≡ true → drop 10 P.line ≡ []
  pub long : 10 ≤ length P.line
  pub leads : led (P.lines ++ (P.line ∷ [])) ≡ true
  pub sounds : all sound (P.lines ++ (P.line ∷ [])) ≡ true

-- whatever token comes next is glued behind pre
record Glues (T : List (List ℕ)) (pre : List ℕ) (done : List (List ℕ)) : Type 0 where
  pub next : (us ws : List (List ℕ)) (y : List ℕ) → glued us ≡ y ∷ ws → glued (T ++ us) ≡ done ++ ((pre ++ y) ∷ ws)

pub record Plain (t : List ℕ) : Type 0 where
  pub filled : is_empty t ≡ false
  pub clear : avoids space t ≡ true
  pub line : avoids line_feed t ≡ true

-- parts of an item: all but the last go on
pub data Good : Item → Type 0 where
  last : {t : List ℕ} → Plain t → ends_open t ≡ false → Good (t ∷ [])
  more : {t : List ℕ} {ts : Item} → Plain t → ends_open t ≡ true → Good ts → Good (t ∷ ts)

-- a piece that goes on, or none
data Piece : List ℕ → Type 0 where
  piece_nil : Piece []
  some : {c : List ℕ} → is_empty c ≡ false → avoids space c ≡ true → ends_open c ≡ true → Piece c

state_put : {Q : Page} {T : List (List ℕ)} {c : List ℕ} (t : List ℕ) → avoids line_feed t ≡ true → State Q T c → State (put t Q) T (c ++ t)
unfolding put
state_put {Q} {T} {c} t h s = record {
  tok = λ u. ap (λ (x : List ℕ). toks Q.lines ++ tokens (x ++ u)) (drop-append-le 10 Q.line t s.long) ∙ ap (λ (x : List ℕ). toks Q.lines ++ tokens x) (append_assoc (drop 10 Q.line) t u) ∙ s.tok (t ++ u) ∙ ap (λ (x : List ℕ). T ++ tokens x) (sym (append_assoc c t u));
  long = let l = s.long in omega (arith, length-append Q.line t);
  leads = led_append Q.lines Q.line t s.long s.leads;
  sounds = sound_append Q.lines Q.line t h s.sounds;
}

state_tokens : {Q : Page} {T : List (List ℕ)} {c : List ℕ} → State Q T c → toks Q.lines ++ line_tokens Q.line ≡ T ++ tokens c
unfolding line_tokens
state_tokens {Q} {T} {c} s = ap (λ (x : List ℕ). toks Q.lines ++ tokens x) (sym (append-nil (drop 10 Q.line))) ∙ s.tok [] ∙ ap (λ (x : List ℕ). T ++ tokens x) (append-nil c)

state_turn : {Q : Page} {T : List (List ℕ)} {c : List ℕ} → State Q T c → State (turn Q) (T ++ tokens c) []
unfolding turn
state_turn {Q} {T} {c} s = record {
  tok = λ u. ap (λ (x : List (List ℕ)). x ++ tokens u) (toks_snoc Q.lines Q.line ∙ state_tokens s);
  long = omega arith;
  leads = led_turn (Q.lines ++ (Q.line ∷ [])) s.leads;
  sounds = sound_turn (Q.lines ++ (Q.line ∷ [])) s.sounds;
}

glues_piece : {T : List (List ℕ)} {pre c : List ℕ} {done : List (List ℕ)} → Glues T pre done → Piece c → Glues (T ++ tokens c) (pre ++ c) done
glues_piece {T} {pre} {done = done} g piece_nil = record { next = λ us ws y e. ap (λ (x : List (List ℕ)). glued (x ++ us)) (ap (λ x. T ++ x) tokens_none ∙ append-nil T) ∙ g.next us ws y e ∙ ap (λ (x : List ℕ). done ++ ((x ++ y) ∷ ws)) (sym (append-nil pre)) }
glues_piece {T} {pre} {c} {done} g (some h k o) = record {
  next = λ us ws y e.
      ap (λ (x : List (List ℕ)). glued ((T ++ x) ++ us)) (tokens_one c h k) ∙ ap glued (append_assoc T (c ∷ []) us) ∙ g.next (c ∷ us) ws (c ++ y) (glued_open c us ws y o e) ∙ ap (λ (x : List ℕ). done ++ (x ∷ ws)) (sym (append_assoc pre c y));
}

-- the last piece
state_done : {Q : Page} {T : List (List ℕ)} {pre c : List ℕ} {done : List (List ℕ)} → State Q T c → Glues T pre done → is_empty c ≡ false → avoids space c ≡ true → ends_open c ≡ false → Q.bare ≡ false → Read Q (done ++ ((pre ++ c) ∷ []))
state_done {Q} {T} {pre} {c} {done} s g h k o b = record {
  glue = λ U. ap (λ (x : List (List ℕ)). glued (x ++ U)) (state_tokens s ∙ ap (λ (x : List (List ℕ)). T ++ x) (tokens_one c h k)) ∙ ap glued (append_assoc T (c ∷ []) U) ∙ g.next (c ∷ U) (glued U) c (glued_closed c U o) ∙ sym (append_assoc done ((pre ++ c) ∷ []) (glued U));
  start = λ e. absurd (false≢true (sym b ∙ e));
  long = s.long;
  leads = s.leads;
  sounds = s.sounds;
}

read_as : {P : Page} {xs ys : List (List ℕ)} → xs ≡ ys → Read P xs → Read P ys
read_as {P} e r = subst (λ (x : List (List ℕ)). Read P x) e r

-- ---- the parts of an item

pub filled_append : (xs ys : List ℕ) → is_empty ys ≡ false → is_empty (xs ++ ys) ≡ false
filled_append [] ys h = h
filled_append (x ∷ xs) ys h = refl

put_bare : (t : List ℕ) (Q : Page) → (put t Q).bare ≡ false
unfolding put
put_bare t Q = refl

piece_clear : {c : List ℕ} → Piece c → avoids space c ≡ true
piece_clear piece_nil = refl
piece_clear (some h k o) = k

module _ {done : List (List ℕ)} where
  parts_read : {ts : Item} → Good ts → {Q : Page} {T : List (List ℕ)} {pre c : List ℕ} → State Q T c → Glues T pre done → Piece c → Read (place_parts ts Q) (done ++ ((pre ++ (c ++ flat ts)) ∷ []))
  unfolding place_parts place_part
  parts_read (last {t} p o) {Q} {T} {pre} {c} s g k = go (leb (length Q.line + length t) width)
    where
      go : (x : Bool) → Read (cond x (put t Q) (put t (turn Q))) (done ++ ((pre ++ (c ++ (t ++ []))) ∷ []))
      go true = read_as (ap (λ (x : List ℕ). done ++ ((pre ++ (c ++ x)) ∷ [])) (sym (append-nil t))) (state_done (state_put t p.line s) g (filled_append c t p.filled) (avoids_append space c t (piece_clear k) p.clear) (open_append c t p.filled ∙ o) (put_bare t Q))
      go false = read_as (ap (λ (x : List ℕ). done ++ (x ∷ [])) (append_assoc pre c t ∙ ap (λ (x : List ℕ). pre ++ (c ++ x)) (sym (append-nil t)))) (state_done (state_put t p.line (state_turn s)) (glues_piece g k) p.filled p.clear o (put_bare t (turn Q)))
  parts_read (more {t} {ts} p o r) {Q} {T} {pre} {c} s g k =
      go (leb (length Q.line + length t) width)
      (parts_read r (state_put t p.line s) g (some (filled_append c t p.filled) (avoids_append space c t (piece_clear k) p.clear) (open_append c t p.filled ∙ o)))
      (parts_read r (state_put t p.line (state_turn s)) (glues_piece g k) (some p.filled p.clear o))
    where
      go : (x : Bool) → Read (place_parts ts (put t Q)) (done ++ ((pre ++ ((c ++ t) ++ flat ts)) ∷ [])) → Read (place_parts ts (put t (turn Q))) (done ++ (((pre ++ c) ++ (t ++ flat ts)) ∷ [])) → Read (place_parts ts (cond x (put t Q) (put t (turn Q)))) (done ++ ((pre ++ (c ++ (t ++ flat ts))) ∷ []))
      go true a b = read_as (ap (λ (x : List ℕ). done ++ ((pre ++ x) ∷ [])) (append_assoc c t (flat ts))) a
      go false a b = read_as (ap (λ (x : List ℕ). done ++ (x ∷ [])) (append_assoc pre c (t ++ flat ts))) b

-- ---- an item, items

module _ {P : Page} {done : List (List ℕ)} (r : Read P done) where
  abbrev before : List (List ℕ)
  before = toks P.lines ++ line_tokens P.line

  as_state : {Q : Page} → P ≡ Q → State P before [] → State Q before []
  as_state e s = subst (λ (X : Page). State X before []) e s

  bare_state : P.bare ≡ true → State P before []
  unfolding line_tokens
  bare_state b = record {
    tok = λ t. rw (r.start b, tokens_none, append-nil (toks P.lines)) refl;
    long = r.long;
    leads = r.leads;
    sounds = r.sounds;
  }

  space_state : State (put (space ∷ []) P) before []
  unfolding put line_tokens
  space_state = record {
    tok = λ t. ap (λ (x : List ℕ). toks P.lines ++ tokens (x ++ t)) (drop-append-le 10 P.line (space ∷ []) r.long) ∙ ap (λ (x : List ℕ). toks P.lines ++ tokens x) (append_assoc (drop 10 P.line) (space ∷ []) t)
        ∙ ap (λ (x : List (List ℕ)). toks P.lines ++ x) (tokens_between (drop 10 P.line) t) ∙ sym (append_assoc (toks P.lines) (tokens (drop 10 P.line)) (tokens t));
    long = let l = r.long in omega (arith, length-append P.line (space ∷ []));
    leads = led_append P.lines P.line (space ∷ []) r.long r.leads;
    sounds = sound_append P.lines P.line (space ∷ []) refl r.sounds;
  }

  turn_state : State (turn P) before []
  unfolding turn
  turn_state = record {
    tok = λ t. ap (λ (x : List (List ℕ)). x ++ tokens t) (toks_snoc P.lines P.line);
    long = omega arith;
    leads = led_turn (P.lines ++ (P.line ∷ [])) r.leads;
    sounds = sound_turn (P.lines ++ (P.line ∷ [])) r.sounds;
  }

  begun_state : (w : ℕ) → State (begun w P) before []
  begun_state w = go P.bare refl (leb (length P.line + (1 + w)) 80) refl
    where
      to : {Q : Page} → begun w P ≡ Q → State Q before [] → State (begun w P) before []
      to e s = subst (λ (X : Page). State X before []) (sym e) s

      go : (b : Bool) → P.bare ≡ b → (x : Bool) → leb (length P.line + (1 + w)) 80 ≡ x → State (begun w P) before []
      go true b x e = to (begun_here w P b) (bare_state b)
      go false b true e = to (begun_space w P b (leb-true (length P.line + (1 + w)) 80 e)) space_state
      go false b false e = to (begun_turn w P b (leb-false (length P.line + (1 + w)) 80 e)) turn_state

  before_glues : Glues before [] done
  before_glues = record { next = λ us ws y e. r.glue us ∙ ap (λ (x : List (List ℕ)). done ++ x) e }

  bare_ten : P.bare ≡ true → length P.line ≡ 10
  bare_ten b = let l = r.long in omega (arith, length-drop 10 P.line, ap length (r.start b))

  item_read : {i : Item} → Good i → Read (place_item i P) (done ++ (flat i ∷ []))
  item_read (last {t} p o) = subst (λ (X : Page). Read X (done ++ (flat (t ∷ []) ∷ []))) (sym (place_begun t [] P bare_ten)) (parts_read (last p o) (begun_state _) before_glues piece_nil)
  item_read (more {t} {ts} p o g) = subst (λ (X : Page). Read X (done ++ (flat (t ∷ ts) ∷ []))) (sym (place_begun t ts P bare_ten)) (parts_read (more p o g) (begun_state _) before_glues piece_nil)

pub data AllGood : List Item → Type 0 where
  good_nil : AllGood []
  more : {i : Item} {is : List Item} → Good i → AllGood is → AllGood (i ∷ is)

pub items_read : {is : List Item} → AllGood is → {P : Page} {done : List (List ℕ)} → Read P done → Read (place_items is P) (done ++ map flat is)
unfolding place_items
items_read good_nil {P} {done} r = read_as (sym (append-nil done)) r
items_read (more {i} {is} g a) {P} {done} r = read_as (append_assoc done (flat i ∷ []) (map flat is)) (items_read a (item_read r g))
