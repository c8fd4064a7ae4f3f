-- An AllDifferent numbered again and written, against the log: its pairs, then unless the walk is full the clauses of its values. Assumes nothing.
use mathlib.Core.Path.{◌≡◌, refl, sym, ap, ◌∙◌, subst}
use mathlib.Core.Bool.{Bool, true, false, cond}
use mathlib.Core.List.{List, [], ◌∷◌, ◌++◌, map, append-nil}
use Prim.Native.Nat.{ℕ, ◌+◌, ◌*◌, ◌≤◌, ◌<◌, min}
use native.Mathlib.Omega.{arith}
use lib.IntN.{ℤ, pos}
use lib.ListN.{length, length-map}
use lib.Dec.{ltb}
use Rattle.laws.specs.Slices.{Has, has_back}
use Rattle.laws.specs.Writes.{cap as last-place, wrote_length, wrote_then, wrote_to}
use Rattle.memory.specs.Places.{folded_end, limit}
use Rattle.syntax.specs.Syntax.{Domain, IntExpr, encode_int, encode_stmt}
use Rattle.clauses.specs.Log.{Log}
use Rattle.clauses.proofs.Since.{clauses_since, since_is}
use Rattle.different.specs.Different.{values_used_up}
use Rattle.walk.specs.Item.{bump}
use Rattle.walk.proofs.Texts.{layout_words}
use Rattle.walk.specs.Decode.{word, read_part}
use Rattle.walks.specs.Meet.{State}
use Rattle.walks.specs.Implements.{Registers}
use Rattle.walks.specs.Leaves.{words_of}
use Rattle.statements.specs.Different.{value_clause}
use Rattle.stages.specs.StatementsParts.{Part, meet_parts, again_text, again_lines, Stage, parts, steps, rooms, Chained, AllKnown, UpTo, last_to, Standing, full, good, AllWalk, standing_less}
use Rattle.stages.specs.StatementsPlaces.{sides_agree}
use Rattle.stages.specs.StatementsEach.{last_up_to}
use Rattle.stages.specs.Pairs.{sides_words, row_stages, pairs_stages, pairs_known, pairs_chains, SidesStand, pairs_walk}
use Rattle.stages.specs.Different.{values_stages, different_stages}
use Rattle.stages.specs.Statements.{stmt_stages, stmt_steps, stmt_known, stmt_chains, stmt_up_to, stmt_rooms, stmt_walk}
use Rattle.stages.specs.Whole.{clauses_many}
use Rattle.numbering.specs.declared.Progress.{Progress}
use Rattle.numbering.specs.declared.Room.{Room}
use Rattle.numbering.specs.Declares.{declares_kept}
use Rattle.numbering.specs.Task.{skip, Low, state_of}
use Rattle.numbering.specs.Tasks.{stmt_task}
use Rattle.stmtwords.proofs.Words.{different_words}
use Rattle.rows.specs.Emit.{clauses_words, Clauses, Behind}
use Rattle.rows.proofs.Looping.{clauses_to}
use Rattle.differing.specs.Values.{Over, SomeOver, PutValues}
use Rattle.differing.specs.Again.{again_append, lines_append, meet_until, until_append, until_all, Asked, Ahead, Redone, pairs_parts, PairsAsk, pairs_redo}
use Rattle.differing.specs.PairsFollow.{PassedHere, Do, none as do-none, one as do-one, does_same, Writes, do_pass, pairs_do, pairs_ask}
use Rattle.differing.specs.Walked.{Place, stmt, after, Walked, SomeWalked, Rewrote, DidAgain, Rewrites}

-- ---- how many clauses, as counted up to the limit: t, u: how many words; j: the pairs' clauses, i: the values', l: all, as the definition has them

place_is : (o t o₁ u o' : ℕ) → o₁ ≡ min (o + t) last-place → o' ≡ min (o₁ + u) last-place → o' < last-place → (o₁ ≡ o + t) × (o₁ < last-place)
place_is o t o₁ u o' a b c = (omega arith, omega arith)

pairs_counted : (k o t o₁ k₁ j m : ℕ) → k ≤ o → j ≤ t → (o₁ ≡ o + t) × (o₁ < last-place) → k₁ ≡ bump k j → m ≡ min k₁ o₁ → m ≡ k + j
pairs_counted k o t o₁ k₁ j m a b c d e = omega (arith, c.0, c.1)

all_counted : (k j m i l k' o' : ℕ) → m ≡ k + j → k' ≡ m + i → k' ≤ o' → o' < last-place → bump j (min i limit) ≡ min l limit → k' ≡ k + l
all_counted k j m i l k' o' a b c d e = omega arith

counted : (k o t o₁ k₁ j m u i l k' o' : ℕ) → k ≤ o → j ≤ t → o₁ ≡ min (o + t) last-place → k₁ ≡ bump k j → m ≡ min k₁ o₁ → o' ≡ min (o₁ + u) last-place → o' < last-place → k' ≡ m + i → k' ≤ o' → bump j (min i limit) ≡ min l limit → k' ≡ k + l
counted k o t o₁ k₁ j m u i l k' o' a b c d e f g h p q = all_counted k j m i l k' o' (pairs_counted k o t o₁ k₁ j m a b (place_is o t o₁ u o' c f g) d e) h p g q

-- ---- parts that write the values

same_do : (ds : List Domain) (F : List ℤ) (parted : ℕ → Bool) (rec cap : ℕ) (with_ifs : Bool) (before : List ℤ) (low : cap < limit) (xs : List Stage) → Do ds F parted rec cap with_ifs before low xs (parts xs)
same_do ds F parted rec cap with_ifs before low [] = do-none
same_do ds F parted rec cap with_ifs before low (x ∷ xs) = do-one (does_same ds F parted rec cap with_ifs before low x) (same_do ds F parted rec cap with_ifs before low xs)

module _ (ds : List Domain) (es : List IntExpr) (stop : ℕ) where
  abbrev values : List ℤ → List Stage
  values xs = values_stages ds es stop [] xs

  values_until : (cap : ℕ) (xs : List ℤ) (y : State) → meet_until cap (parts (values xs)) y ≡ y
  unfolding values_stages meet_until
  values_until cap [] y = refl
  values_until cap (x ∷ xs) y = go (ltb cap y.used) _ (values_until cap xs y)
    where
      go : (b : Bool) (z : State) → z ≡ y → cond b y z ≡ y
      go true z e = refl
      go false z e = e

  values_text : (xs : List ℤ) (y : State) → again_text (parts (values xs)) y ≡ clauses_words (map (value_clause y.work es) xs)
  unfolding values_stages again_text
  values_text [] y = refl
  values_text (x ∷ xs) y = rw (values_text xs y) refl

  values_lines : (xs : List ℤ) (y : State) → again_lines (parts (values xs)) y ≡ min (length xs) limit
  unfolding values_stages again_lines
  values_lines [] y = refl
  values_lines (x ∷ xs) y = omega (arith, values_lines xs y)

-- ---- the room of the pairs alone

module _ (ds : List Domain) (rec cap stop : ℕ) (xs : List Stage) where
  row_less : (a : IntExpr) (p : ℕ) (bs : List IntExpr) (q : ℕ) (us vs : List Stage) → rooms us ≤ rooms vs → rooms (row_stages ds rec cap stop a p bs q us) ≤ rooms (row_stages ds rec cap stop a p bs q vs)
  unfolding row_stages rooms
  row_less a p [] q us vs l = l
  row_less a p (b ∷ bs) q us vs l = omega (arith, row_less a p bs (q + length (encode_int b)) us vs l)

  pairs_less : (es : List IntExpr) (p : ℕ) → rooms (pairs_stages ds rec cap stop es p []) ≤ rooms (pairs_stages ds rec cap stop es p xs)
  unfolding pairs_stages
  pairs_less [] p = unfold rooms in omega arith
  pairs_less (e ∷ es) p = let q = p + length (encode_int e) in row_less e p es q (pairs_stages ds rec cap stop es q []) (pairs_stages ds rec cap stop es q xs) (pairs_less es q)

-- ---- the statement

module _ {x : Place} {set w none : List ℤ} {q : ℕ} {room : Room} {c : Progress} {n : ℕ} (h : Walked x set w none q room c n) where
  abbrev ds : List Domain
  ds = x.domains

  abbrev es : List IntExpr
  es = x.exprs

  abbrev F : List ℤ
  F = read_part w

  abbrev rec : ℕ
  rec = room.records

  abbrev cap : ℕ
  cap = room.cap

  abbrev st : State
  st = state_of w none c

  abbrev stop : ℕ
  stop = q + length (encode_stmt (stmt x))

  abbrev zs : List ℤ
  zs = values_used_up ds es

  abbrev pairs : List Part
  pairs = pairs_parts rec cap F ds (length es) (q + 2)

  abbrev all : List Part
  all = pairs ++ parts (values ds es stop zs)

  abbrev own : List Stage
  own = pairs_stages ds rec cap stop es (q + 2) (values ds es stop zs)

  abbrev StandingHere : ℕ → ℕ → State → Log → Type 0
  StandingHere = Standing ds F x.parted rec cap true none h.low

  own_is : stmt_stages ds rec cap F q (stmt x) [] ≡ own
  unfolding stmt_stages different_stages
  own_is = refl

  long : length (encode_stmt (stmt x)) ≡ 2 + length (sides_words es)
  unfolding encode_stmt
  long = omega arith

  sides : SidesStand F x.parted true stop es (q + 2)
  sides =
      let d : Has F (q + 2) (sides_words es) = unfold encode_stmt in has_back F q (pos 3 ∷ pos (length es) ∷ []) (sides_words es) h.words in
      record {
        legal = h.legal.0;
        words = d;
        from = omega (arith, h.from);
        to = omega (arith, long);
        agree = sides_agree F x.end true h.marked x.parted q x.later es h.legal h.split d h.from (omega (arith, long, h.to));
      }

  end : stop ≤ folded_end
  end = omega (arith, h.to, h.inside)

  own_room : rooms own ≤ 49152 * length (encode_stmt (stmt x))
  unfolding rooms
  own_room = omega (arith, ap rooms own_is, stmt_rooms ds rec cap F q (stmt x) [] (omega (arith, h.from, end)))

  standing : StandingHere q (rooms own + n) st x.before
  standing = standing_less ds F x.parted rec cap true none h.low q q (49152 * length (encode_stmt (stmt x)) + n) (rooms own + n) st x.before (omega arith) (omega (arith, own_room)) h.standing

  pairs_standing : (a : ℕ) → q ≤ a → StandingHere a (rooms (pairs_stages ds rec cap stop es (q + 2) []) + n) st x.before
  pairs_standing a l = standing_less ds F x.parted rec cap true none h.low q a (rooms own + n) (rooms (pairs_stages ds rec cap stop es (q + 2) []) + n) st x.before l (omega (arith, pairs_less ds rec cap stop (values ds es stop zs) es (q + 2))) standing

  -- ---- what is asked

  asks : PairsAsk rec cap F ds (length es) (q + 2) st
  asks = pairs_ask ds F x.parted rec cap true none h.low stop end es (q + 2) [] skip n st x.before sides h.within (unfold stmt_task in h.fits) (pairs_standing stop (omega arith)) h.used

  low_state : Low st
  low_state = let r = h.standing.state in record { bools = omega (arith, r.room); ints = omega (arith, r.room); used = omega (arith, r.used, h.low) }

  walked_asks : (k : ℕ) → k ≡ length es → Asked (pairs_redo rec cap F k (q + 2)) st rec
  walked_asks k e = record { long = h.standing.state.size; records = h.records; low = low_state; word = h.standing.state.word; domains = ds; declares = h.declares; asks = rw e asks }

  -- ---- both walks, up to where the first is full

  pass : PassedHere ds F x.parted rec cap true none h.low stop n (Registers (again_text all st) (again_lines all st) x.before (after x)) (meet_until cap all st) (after x)
  pass = go (do_pass ds F x.parted rec cap true none h.low (pairs_do ds F x.parted rec cap true none h.low stop end es (q + 2) (values ds es stop zs) (parts (values ds es stop zs)) sides (same_do ds F x.parted rec cap true none h.low (values ds es stop zs))) walk q q chain n st x.before known standing h.used)
    where
      walk : AllWalk ds F x.parted rec cap true none h.low own
      walk = subst (λ (us : List Stage). AllWalk ds F x.parted rec cap true none h.low us) own_is (stmt_walk ds F x.parted rec cap true none h.low x.end h.inside h.marked q (stmt x) x.later h.legal h.split h.words h.from h.to [] tt)

      chain : Chained q q own
      chain = subst (Chained q q) own_is (stmt_chains ds rec cap F q (stmt x) [] (λ i j l m. tt) q q (omega arith) (omega arith))

      known : AllKnown own x.before
      known = subst (λ (us : List Stage). AllKnown us x.before) own_is (stmt_known ds rec cap F q (stmt x) [] x.before (unfold AllKnown in tt))

      log_is : steps own x.before ≡ after x
      log_is = ap (λ (us : List Stage). steps us x.before) (sym own_is) ∙ stmt_steps ds rec cap F q (stmt x) [] x.before ∙ (unfold steps in refl)

      last : last_to q own ≤ stop
      last = last_up_to q stop own (omega arith) (subst (UpTo stop) own_is (stmt_up_to ds rec cap F stop q (stmt x) [] (omega arith) tt))

      go : PassedHere ds F x.parted rec cap true none h.low (last_to q own) n (Writes ds F x.parted rec cap true none h.low own all st x.before) (meet_until cap all st) (steps own x.before)
          → PassedHere ds F x.parted rec cap true none h.low stop n (Registers (again_text all st) (again_lines all st) x.before (after x)) (meet_until cap all st) (after x)
      go (full l m) = full l (omega (arith, m, ap words_of log_is))
      go (good g v r) = good (subst (StandingHere stop n (meet_until cap all st)) log_is (standing_less ds F x.parted rec cap true none h.low (last_to q own) stop n n (meet_until cap all st) (steps own x.before) last (omega arith) g)) (omega (arith, v, ap words_of log_is)) (subst (λ (z : Log). Registers (again_text all st) (again_lines all st) x.before z) log_is r)

  -- the pairs have no more clauses than words
  short : (meet_until cap pairs st).used ≤ cap → again_lines pairs st ≤ length (again_text pairs st)
  short u = go (do_pass ds F x.parted rec cap true none h.low (pairs_do ds F x.parted rec cap true none h.low stop end es (q + 2) [] [] sides do-none) (pairs_walk F x.parted true stop ds rec cap none h.low end es (q + 2) [] sides tt) q q (pairs_chains ds rec cap stop es (q + 2) [] (λ i j l m. tt) q q (omega arith) (omega arith)) n st x.before (pairs_known ds rec cap stop es (q + 2) [] x.before (unfold AllKnown in tt)) (pairs_standing q (omega arith)) h.used)
    where
      e : pairs ++ [] ≡ pairs
      e = append-nil pairs

      go : {to : ℕ} {s' : Log} → PassedHere ds F x.parted rec cap true none h.low to n (Registers (again_text (pairs ++ []) st) (again_lines (pairs ++ []) st) x.before s') (meet_until cap (pairs ++ []) st) s' → again_lines pairs st ≤ length (again_text pairs st)
      go (full l m) = absurd (omega (arith, u, l, ap (λ (ps : List Part). (meet_until cap ps st).used) e))
      go (good g v r) = omega (arith, r.lines, clauses_many r.cs, ap length (r.words ∙ layout_words r.cs), ap (λ (ps : List Part). again_lines ps st) e, ap (λ (ps : List Part). length (again_text ps st)) e)

  -- ---- behind the pairs

  module _ {w' none' : List ℤ} {c' : Progress} {out out₁ : List ℤ} {o k o₁ k₁ i : ℕ} (e : i ≡ length es) (r : Redone cap (pairs_redo rec cap F i (q + 2)) st (state_of w' none' c') out o k out₁ o₁ k₁) where
    abbrev st' : State
    st' = state_of w' none' c'

    done : Redone cap (pairs_redo rec cap F (length es) (q + 2)) st st' out o k out₁ o₁ k₁
    done = subst (λ (j : ℕ). Redone cap (pairs_redo rec cap F j (q + 2)) st st' out o k out₁ o₁ k₁) e r

    until : st' ≡ meet_until cap pairs st
    until = done.state ds h.declares asks

    state_is : meet_until cap all st ≡ st'
    state_is = until_append cap pairs (parts (values ds es stop zs)) st ∙ values_until ds es stop cap zs (meet_until cap pairs st) ∙ sym until

    walked_used : c'.used ≤ words_of (after x)
    walked_used = go pass
      where
        u : (meet_until cap all st).used ≡ c'.used
        u = ap (λ (z : State). z.used) state_is

        go : {A : Type 0} → PassedHere ds F x.parted rec cap true none h.low stop n A (meet_until cap all st) (after x) → c'.used ≤ words_of (after x)
        go (full l m) = omega (arith, m, u)
        go (good g v a) = omega (arith, v, u)

    -- the expressions stand there as before
    walked_over : Over set w' (q + 2) i ds es
    walked_over =
        let v = h.over in
        record {
          standing = record { words = rw r.kept.part v.standing.words; counted = e; legal = v.standing.legal; size = omega (arith, v.standing.size, r.kept.size) };
          declared = v.declared;
          below = v.below;
          few = omega (arith, v.few, e);
        }

    walked_full : cap < c'.used → DidAgain x w none q room h.low n out o k w' none' out₁ c' o₁ k₁
    walked_full l = record { used = walked_used; rewrote = λ u. absurd (omega arith) }

    -- then the values
    module _ (b : Behind out o k) (more : c'.used ≤ cap) {m : ℕ} (f : m ≡ min k₁ o₁) {out' : List ℤ} {o' k' : ℕ} (p : PutValues set w' (q + 2) i out₁ o₁ m out' o' k') where
      met : meet_parts pairs st ≡ st'
      met = sym (until ∙ until_all cap pairs st (subst (λ (z : State). z.used ≤ cap) until more))

      wrote : (s' : Log) → Registers (again_text all st) (again_lines all st) x.before s' → Clauses out o k (clauses_since x.before s') out' o' k'
      wrote s' g =
          let a = done.text more ds h.declares asks in
          let v = p.clauses ds es walked_over in
          let ts = again_text pairs st in
          let us = clauses_words (map (value_clause w' es) zs) in
          let y : again_text all st ≡ ts ++ us = again_append pairs (parts (values ds es stop zs)) st ∙ ap (λ (z : State). ts ++ again_text (parts (values ds es stop zs)) z) met ∙ ap (λ (ws : List ℤ). ts ++ ws) (values_text ds es stop zs st') in
          let z : again_lines all st ≡ bump (again_lines pairs st) (min (length zs) limit) = lines_append pairs (parts (values ds es stop zs)) st ∙ ap (λ (z : State). bump (again_lines pairs st) (again_lines (parts (values ds es stop zs)) z)) met ∙ ap (λ (j : ℕ). bump (again_lines pairs st) j) (values_lines ds es stop zs st') in
          let s = short (subst (λ (z : State). z.used ≤ cap) until more) in
          clauses_to (sym (since_is x.before s' g.cs g.eq)) (record {
            words = wrote_to (sym y ∙ g.words ∙ layout_words g.cs) (wrote_then b.room.room a.words v.words);
            count = λ l. counted k o (length ts) o₁ k₁ (again_lines pairs st) m (length us) (length zs) (length g.cs) k' o' b.low s a.words.at a.count f v.words.at l (v.count l ∙ ap (λ (j : ℕ). m + j) (length-map zs (value_clause w' es))) v.low (sym z ∙ g.lines);
            low = v.low;
          })

      walked_did : DidAgain x w none q room h.low n out o k w' none' out' c' o' k'
      walked_did = record { used = walked_used; rewrote = λ u. go pass }
        where
          go : PassedHere ds F x.parted rec cap true none h.low stop n (Registers (again_text all st) (again_lines all st) x.before (after x)) (meet_until cap all st) (after x) → Rewrote x w none q room h.low n out o k w' none' out' c' o' k'
          go (full l m) = absurd (omega (arith, more, l, ap (λ (z : State). z.used) state_is))
          go (good g v a) = record { standing = subst (λ (z : State). StandingHere stop n z (after x)) state_is g; clauses = wrote (after x) a }

-- ---- what the code asks and gives

pub behind_ahead : {out : List ℤ} {o k : ℕ} → Behind out o k → Ahead out o k
behind_ahead b = record { room = b.room; few = omega (arith, b.low, b.room.low) }

pub ahead_behind : {out : List ℤ} {o k m : ℕ} → Ahead out o k → m ≡ min k o → Behind out o m
ahead_behind a f = record { room = a.room; low = omega arith }

-- i: the count that it reads
module _ {set w none : List ℤ} {q : ℕ} {room : Room} {c : Progress} {i : ℕ} (e : i ≡ word (read_part w) (q + 1)) where
  count_is : {x : Place} {n : ℕ} → Walked x set w none q room c n → i ≡ length x.exprs
  count_is {x} h = e ∙ (different_words w q x.exprs (record { words = h.words; legal = h.legal.0; rows = tt })).count

  module _ (s : SomeWalked set w none q room c) where
    pub some_place : q + 2 ≤ folded_end
    some_place = omega (arith, long s.it, end s.it)

    pub some_asks : Asked (pairs_redo room.records room.cap (read_part w) i (q + 2)) (state_of w none c) room.records
    some_asks = walked_asks s.it i (count_is s.it)

  module _ {w' none' : List ℤ} {c' : Progress} {out out₁ : List ℤ} {o k o₁ k₁ : ℕ} (r : Redone room.cap (pairs_redo room.records room.cap (read_part w) i (q + 2)) (state_of w none c) (state_of w' none' c') out o k out₁ o₁ k₁) where
    pub rewrites_full : room.cap < c'.used → Rewrites set w none q room c out o k w' none' out₁ c' o₁ k₁
    rewrites_full l = record { did = λ x n h. walked_full h (count_is h) r l; domains = λ ds d. declares_kept ds w w' r.kept.behind d; size = r.kept.size; none_size = r.kept.room; out_size = r.length_same }

    pub some_over : SomeWalked set w none q room c → SomeOver set w' (q + 2) i
    some_over s = record { domains = s.place.domains; exprs = s.place.exprs; it = walked_over s.it (count_is s.it) r }

    module _ {m : ℕ} (f : m ≡ min k₁ o₁) (s : SomeWalked set w none q room c) (b : Behind out o k) (more : c'.used ≤ room.cap) {out' : List ℤ} {o' k' : ℕ} (p : PutValues set w' (q + 2) i out₁ o₁ m out' o' k') where
      values_size : length out' ≡ length out₁
      values_size = let v = some_over s in wrote_length (p.clauses v.domains v.exprs v.it).words

      pub rewrites : Rewrites set w none q room c out o k w' none' out' c' o' k'
      rewrites = record { did = λ x n h. walked_did h (count_is h) r b more f p; domains = λ ds d. declares_kept ds w w' r.kept.behind d; size = r.kept.size; none_size = r.kept.room; out_size = values_size ∙ r.length_same }
