-- The pairs of an AllDifferent as parts of the walks: before each pair the cells of its Ifs with split parts are cleared, since each pair is split anew
-- (`pair_stage`, `pair_stage_walks`; all pairs of expressions that stand one behind another: `pairs_walk`). F: the folded words.
use Rattle.std.specs.Prelude.{◌≡◌, Bool, true, false, not, cond, ◌⊎◌, ℕ, ◌+◌, ◌*◌, ◌≤◌, ◌<◌, ℤ, pos}
use Rattle.std.proofs.Math.Path.{refl, ap}
use Rattle.std.proofs.Common.{sym, ◌∙◌, subst, zero-mul, mul-add}
use Rattle.std.proofs.Math.Option.{Option}
use mathlib.Core.List.{List, [], ◌∷◌, ◌++◌, map}
use Rattle.std.proofs.Math.Logic.{inl, inr}
use native.Mathlib.Omega.{arith}
use Rattle.std.proofs.Math.Nat.{suc-mul}
use Rattle.std.proofs.Math.ListN.{length, length-append}
use Rattle.std.proofs.Math.Seq.{get_or-set_other}
use Rattle.laws.specs.Lists.{flat}
use Rattle.laws.specs.Slices.{Has, has_front, has_back}
use Rattle.memory.specs.Places.{folded, folded_end, cells, limit}
use Rattle.syntax.specs.Syntax.{Domain, Ne, IntExpr, BoolExpr, Cmp, encode_int}
use Rattle.words.specs.Exact.{Each}
use Rattle.clauses.specs.Log.{Log, next_bool}
use Rattle.clauses.specs.Split.{normalize_and_register_expr}
use Rattle.different.specs.Different.{pair_rules, normalize_rules}
use Rattle.walks.specs.Tree.{Place, below, here, splits, splits_int, split_int}
use Rattle.walks.specs.Form.{forms}
use Rattle.walks.specs.Resolve.{pair_trees}
use Rattle.walks.specs.Item.{cell}
use Rattle.walks.specs.Meet.{State, with_work, more_bools, set_cell}
use Rattle.walks.specs.Plain.{PlainInt}
use Rattle.walks.specs.Constant.{Named}
use Rattle.walks.specs.Cells.{Places}
use Rattle.walks.specs.Good.{good_less}
use Rattle.walks.specs.Legal.{LegalInt, legal_int_bound, legal_int_plain}
use Rattle.walks.specs.Leaves.{words_of, weights}
use Rattle.walks.specs.Walked.{fixed}
use Rattle.walks.specs.Keys.{Key, keys_int, Every, every_none, every_more, every_map, every_append, every_left, every_right, Within, Written, keys_int_written}
use Rattle.walks.specs.KeyAt.{looked_up_parted, places, SamePlaces, same_none, same_more, same_places_int, pair_keys, pair_choices, pair_within}
use Rattle.walks.specs.KeyPlaces.{AgreesWith, PlainIf, every_both, keys_int_plain, parted_agrees, pair_places}
use Rattle.walks.specs.LowIfs.{pair_low}
use Rattle.walks.specs.Near.{InPlace, Outside, KeyIn, forms_near, keys_int_in, pair_inside}
use Rattle.walks.specs.Next.{ahead_same}
use Rattle.walks.specs.Clear.{clear_place, clear_places, Each as EachPlace, none, one, Lies, clear_reset, clear_maps, clear_unseen}
use Rattle.walks.specs.Rule.{pair_key, pair_written, pair_walks}
use Rattle.stages.specs.Room.{splits_int_low, pair_room, pair_weight}
use Rattle.stages.specs.StatementsParts.{Stage, steps, rooms, AllKnown, Chains, chains_less, chains_more, UpTo, Standing, Walks, AllWalk}
use Rattle.stages.specs.LegalKeys.{keys_int_legal}
use Rattle.stages.specs.StatementsTrees.{Never, no_keys, meet_trees, trees_stage, Visited, Facts, trees_walk}

-- ---- rules one after another

pub rules_append : (ds : List Domain) (xs ys : List BoolExpr) (s : Log) → normalize_rules ds (xs ++ ys) s ≡ normalize_rules ds ys (normalize_rules ds xs s)
unfolding normalize_rules
rules_append ds [] ys s = refl
rules_append ds (x ∷ xs) ys s = rules_append ds xs ys (normalize_and_register_expr ds x s)

-- ---- the walk

-- the cells of the Ifs with split parts of a pair at p and q, the splitting's next number n
unfoldable pub clear_pair : IntExpr → IntExpr → ℕ → ℕ → ℕ → State → State
clear_pair a b p q n st = with_work (clear_places (places (pair_keys a b p q n)) st.work) st

-- a at p and b at q, in an AllDifferent that ends at stop
abbrev pub pair_stage : List Domain → ℕ → ℕ → IntExpr → IntExpr → ℕ → ℕ → ℕ → Stage
pair_stage ds rec cap a b p q stop = trees_stage ds rec cap (Cmp Ne a b) (pair_trees a b p q) (clear_pair a b p q) (pair_room a b) p p stop stop

-- ---- clearing changes nothing elsewhere

clear_off : {a b : ℕ} {ps : List Place} → EachPlace (InPlace a b) ps → (w : List ℤ) (q : ℕ) → Outside a b q → cell (clear_places ps w) q ≡ cell w q
unfolding clear_places
clear_off none w q o = refl
clear_off {a} {b} (one {p} {ps} l ls) w q o = clear_off ls (clear_place p w) q o ∙ (unfold clear_place in go p.whole)
  where
    apart : (q ≤ a ⊎ b ≤ q + 2) → cells + q ≡ cells + (p.at + 1) → ⊥
    apart (inl h) e = omega (arith, l.0)
    apart (inr h) e = omega (arith, l.1)

    go : (c : Bool) → cell (cond c w (set_cell (p.at + 1) (pos 0) w)) q ≡ cell w q
    go true = refl
    go false = unfold cell in get_or-set_other w (cells + (p.at + 1)) (cells + q) (pos 0) (pos 0) (apart o.1)

each_place : {P : Place → Type 0} {xs : List Key} → Every (λ x. P x.place) xs → EachPlace P (places xs)
each_place every_none = none
each_place (every_more h hs) = one h (each_place hs)

in_wider : {a b c d : ℕ} {xs : List Key} → Every (KeyIn a b) xs → c ≤ a → b ≤ d → Every (KeyIn c d) xs
in_wider {a} {b} {c} {d} h i j = every_map (λ x k. (omega (arith, k.0), omega (arith, k.1))) h

-- ---- a pair

module _ (ds : List Domain) (F : List ℤ) (parted : ℕ → Bool) (rec cap : ℕ) (with_ifs : Bool) (before : List ℤ) (low : cap < limit) where
  module _ (a b : IntExpr) (p q stop : ℕ) (first : LegalInt a 64) (second : LegalInt b 64) (words : Has F p (encode_int a)) (others : Has F q (encode_int b))
      (from : folded ≤ p) (then : p + length (encode_int a) ≤ q) (to : q + length (encode_int b) ≤ stop) (end : stop ≤ folded_end) (agree : (n : ℕ) → Every (AgreesWith parted with_ifs) (pair_keys a b p q n)) where
    abbrev last : ℕ
    last = q + length (encode_int b)

    inside : last ≤ folded_end
    inside = omega arith

    within : (n : ℕ) → Every (Within p last n (n + splits_int a here + splits_int b here) (length (encode_int (split_int a here n)) + length (encode_int (split_int b here (n + splits_int a here))))) (pair_keys a b p q n)
    within n = pair_within a b p q n (legal_int_bound a 64 first) (legal_int_bound b 64 second) then

    stand : (n : ℕ) → Every (Written F) (pair_keys a b p q n)
    stand n = every_append (keys_int_written F a here p n words) (keys_int_written F b here q (n + splits_int a here) others)

    plain : (n : ℕ) → Every PlainIf (pair_keys a b p q n)
    plain n = every_append (keys_int_plain a here p n (legal_int_plain a 64 first)) (keys_int_plain b here q (n + splits_int a here) (legal_int_plain b 64 second))

    key_in : (n : ℕ) → Every (KeyIn p last) (pair_keys a b p q n)
    key_in n = every_append (in_wider (keys_int_in a here p n) (omega arith) (omega arith)) (in_wider (keys_int_in b here q (n + splits_int a here)) (omega arith) (omega arith))

    -- an If stands at each of its places
    pub lie : (K L : ℕ → Option IntExpr) (P : Places ds F PlainInt parted K (fixed ds)) (n : ℕ) → EachPlace (Lies ds F PlainInt parted K L (fixed ds) P) (places (pair_keys a b p q n))
    lie K L P n = each_place (every_map (λ x y. record {
      expr = x.written;
      stands = record { is_if = y.1.1.1.0; plain = y.1.1.1.1; words = y.1.1.0.stands; low = omega (arith, y.0.from); high = omega (arith, y.0.to) };
      agrees = y.1.0.0;
    }) (every_both (within n) (every_both (agree n) (every_both (stand n) (plain n)))))

    pair_near : (m : ℕ) → m + (splits_int a here + splits_int b here) ≤ limit → (st : State) (o : ℕ) → Outside p last o → cell (meet_trees ds rec cap (Cmp Ne a b) (pair_trees a b p q) (clear_pair a b p q) m st).work o ≡ cell st.work o
    unfolding clear_pair
    pair_near m i st o out =
        forms_near ds rec cap p last o out (forms (pair_trees a b p q m)) (pair_inside a b 64 p q m first second then i) (more_bools (splits (Cmp Ne a b) below) (clear_pair a b p q m st)) ∙ clear_off (each_place (key_in m)) st.work o out

    visits : (n : ℕ) (st : State) (s : Log) → Standing ds F parted rec cap with_ifs before low stop (pair_room a b + n) st s → st.used ≤ words_of s → Visited ds rec cap (Cmp Ne a b) (pair_trees a b p q) (clear_pair a b p q) F parted with_ifs before low n p stop st s
    unfolding splits clear_pair
    visits n st s h u =
        let m = next_bool s in
        let k = splits_int a here + splits_int b here in
        let i : m + k ≤ limit = omega (arith, h.state.room, h.state.bools, splits_int_low a here, splits_int_low b here) in
        let x = pair_weight ds a b 64 p q m first second i in
        let g = good_less ds F PlainInt parted h.key (fixed ds) rec cap with_ifs before (Named ds) (pair_room a b + n) (k + (weights ds (pair_trees a b p q m) + n)) st s (omega (arith, x)) h.state in
        let L = pair_key ds F parted rec cap with_ifs before low a b 64 p q first second words others from then inside s (agree m) in
        let ps = lie h.key L h.places m in
        let w = clear_places (places (pair_keys a b p q m)) st.work in
        record {
          key = L;
          places = pair_places ds F parted (fixed ds) a b p q m (legal_int_plain a 64 first) (legal_int_plain b 64 second) words others from then inside (parted_agrees parted with_ifs (agree m));
          outcome = pair_walks ds F parted rec cap with_ifs before low a b 64 p q first second words others from then inside s (agree m) h.key 0 n st w
              (clear_maps ds F PlainInt parted h.key L (fixed ds) h.places ps st.work) (clear_reset ds F PlainInt parted h.key L (fixed ds) h.places ps st.work h.state.size)
              (λ o e y. clear_unseen ds F PlainInt parted h.key L (fixed ds) h.places ps st.work h.state.size o (looked_up_parted (pair_keys a b p q m) o e y)) h.ifs g (omega (arith, u));
          ahead = ahead_same F stop st.work _ (λ o l y. pair_near m i st o (l, inr (omega arith))) h.ahead;
          stays = λ o l y. pair_near m i st o (l, inl y);
        }

    pair_facts : Facts ds rec cap (Cmp Ne a b) (pair_trees a b p q) (clear_pair a b p q) F parted with_ifs before low (pair_room a b) p stop stop
    unfolding clear_pair
    pair_facts = record {
      ifs = λ s h. pair_low ds a b s (legal_int_bound a 64 first) (legal_int_bound b 64 second) h;
      clears = λ n st. refl;
      without = λ none n. pair_choices Never (λ x. ⊥) (λ i c t f m at k h. h) a b p q n (no_keys F stop none (within n) (stand n) (every_append (keys_int_legal a here p n first) (keys_int_legal b here q (n + splits_int a here) second)) from to);
      writes = λ w s i r h. pair_written ds F parted rec cap with_ifs before low a b 64 p q first second words others from then inside s (agree (next_bool s)) w i r h;
      visits = visits;
    }

    pub pair_stage_walks : Walks ds F parted rec cap with_ifs before low (pair_stage ds rec cap a b p q stop)
    pair_stage_walks = trees_walk ds rec cap (Cmp Ne a b) (pair_trees a b p q) (clear_pair a b p q) F parted with_ifs before low (pair_room a b) p p stop stop pair_facts (omega arith)

-- ---- all pairs: the first with each later one, then the second, and so on

abbrev pub sides_words : List IntExpr → List ℤ
sides_words es = flat (map encode_int es)

-- in front of the stages xs
module _ (ds : List Domain) (rec cap stop : ℕ) where
  -- a at p with each of those from q on
  unfoldable pub row_stages : IntExpr → ℕ → List IntExpr → ℕ → List Stage → List Stage
  row_stages a p [] q xs = xs
  row_stages a p (b ∷ bs) q xs = pair_stage ds rec cap a b p q stop ∷ row_stages a p bs (q + length (encode_int b)) xs

  unfoldable pub pairs_stages : List IntExpr → ℕ → List Stage → List Stage
  pairs_stages [] p xs = xs
  pairs_stages (e ∷ es) p xs = let q = p + length (encode_int e) in row_stages e p es q (pairs_stages es q xs)

  -- ---- their log

  row_steps : (a : IntExpr) (p : ℕ) (bs : List IntExpr) (q : ℕ) (xs : List Stage) (s : Log) → steps (row_stages a p bs q xs) s ≡ steps xs (normalize_rules ds (map (Cmp Ne a) bs) s)
  unfolding row_stages steps normalize_rules
  row_steps a p [] q xs s = refl
  row_steps a p (b ∷ bs) q xs s = row_steps a p bs (q + length (encode_int b)) xs (normalize_and_register_expr ds (Cmp Ne a b) s)

  pub pairs_steps : (es : List IntExpr) (p : ℕ) (xs : List Stage) (s : Log) → steps (pairs_stages es p xs) s ≡ steps xs (normalize_rules ds (pair_rules es) s)
  unfolding pairs_stages normalize_rules pair_rules
  pairs_steps [] p xs s = refl
  pairs_steps (e ∷ es) p xs s =
      let q = p + length (encode_int e) in
      row_steps e p es q (pairs_stages es q xs) s ∙ pairs_steps es q xs (normalize_rules ds (map (Cmp Ne e) es) s) ∙ ap (steps xs) (sym (rules_append ds (map (Cmp Ne e) es) (pair_rules es) s))

  row_known : (a : IntExpr) (p : ℕ) (bs : List IntExpr) (q : ℕ) (xs : List Stage) (s : Log) → AllKnown xs (normalize_rules ds (map (Cmp Ne a) bs) s) → AllKnown (row_stages a p bs q xs) s
  unfolding row_stages AllKnown normalize_rules
  row_known a p [] q xs s h = h
  row_known a p (b ∷ bs) q xs s h = (tt, row_known a p bs (q + length (encode_int b)) xs (normalize_and_register_expr ds (Cmp Ne a b) s) h)

  pub pairs_known : (es : List IntExpr) (p : ℕ) (xs : List Stage) (s : Log) → AllKnown xs (normalize_rules ds (pair_rules es) s) → AllKnown (pairs_stages es p xs) s
  unfolding pairs_stages normalize_rules pair_rules
  pairs_known [] p xs s h = h
  pairs_known (e ∷ es) p xs s h =
      let q = p + length (encode_int e) in
      row_known e p es q (pairs_stages es q xs) s (pairs_known es q xs (normalize_rules ds (map (Cmp Ne e) es) s) (subst (AllKnown xs) (rules_append ds (map (Cmp Ne e) es) (pair_rules es) s) h))

  -- ---- their places and room

  row_chains : (a : IntExpr) (p : ℕ) (bs : List IntExpr) (q : ℕ) (xs : List Stage) → Chains p stop xs → Chains p stop (row_stages a p bs q xs)
  unfolding row_stages
  row_chains a p [] q xs h = h
  row_chains a p (b ∷ bs) q xs h = chains_more (pair_stage ds rec cap a b p q stop) (row_stages a p bs (q + length (encode_int b)) xs) (row_chains a p bs (q + length (encode_int b)) xs h)

  pub pairs_chains : (es : List IntExpr) (p : ℕ) (xs : List Stage) → Chains (p + length (sides_words es)) stop xs → Chains p stop (pairs_stages es p xs)
  unfolding pairs_stages
  pairs_chains [] p xs h = chains_less (p + 0) stop p stop xs (omega arith) (omega arith) h
  pairs_chains (e ∷ es) p xs h =
      let q = p + length (encode_int e) in
      let l = length-append (encode_int e) (sides_words es) in
      row_chains e p es q (pairs_stages es q xs) (chains_less q stop p stop (pairs_stages es q xs) (omega arith) (omega arith) (pairs_chains es q xs (chains_less (p + length (sides_words (e ∷ es))) stop (q + length (sides_words es)) stop xs (omega (arith, l)) (omega arith) h)))

  row_up_to : (b : ℕ) → stop ≤ b → (a : IntExpr) (p : ℕ) (bs : List IntExpr) (q : ℕ) (xs : List Stage) → UpTo b xs → UpTo b (row_stages a p bs q xs)
  unfolding row_stages
  row_up_to b l a p [] q xs h = h
  row_up_to b l a p (c ∷ bs) q xs h = (l, row_up_to b l a p bs (q + length (encode_int c)) xs h)

  pub pairs_up_to : (b : ℕ) → stop ≤ b → (es : List IntExpr) (p : ℕ) (xs : List Stage) → UpTo b xs → UpTo b (pairs_stages es p xs)
  unfolding pairs_stages
  pairs_up_to b l [] p xs h = h
  pairs_up_to b l (e ∷ es) p xs h = let q = p + length (encode_int e) in row_up_to b l e p es q (pairs_stages es q xs) (pairs_up_to b l es q xs h)

  row_rooms : (a : IntExpr) (p : ℕ) (bs : List IntExpr) (q : ℕ) (xs : List Stage) → rooms (row_stages a p bs q xs) ≡ 12 * (length bs * length (encode_int a) + length (sides_words bs)) + rooms xs
  unfolding row_stages rooms
  row_rooms a p [] q xs = rw (zero-mul (length (encode_int a))) (omega arith)
  row_rooms a p (b ∷ bs) q xs =
      omega (arith, row_rooms a p bs (q + length (encode_int b)) xs, suc-mul (length bs) (length (encode_int a)), length-append (encode_int b) (sides_words bs))

  -- at most twelve for each word and each expression
  pub pairs_rooms : (es : List IntExpr) (p : ℕ) (xs : List Stage) → rooms (pairs_stages es p xs) ≤ 12 * (length es * length (sides_words es)) + rooms xs
  unfolding pairs_stages
  pairs_rooms [] p xs = omega arith
  pairs_rooms (e ∷ es) p xs =
      let q = p + length (encode_int e) in
      let n = length es in
      let l = length (sides_words es) in
      omega (arith, row_rooms e p es q (pairs_stages es q xs), pairs_rooms es q xs, length-append (encode_int e) (sides_words es), suc-mul n (length (sides_words (e ∷ es))), more n (length (sides_words (e ∷ es))) (length (encode_int e)) l (length-append (encode_int e) (sides_words es)))
    where
      more : (n k a b : ℕ) → k ≡ a + b → n * k ≡ n * a + n * b
      more n k a b h = rw h (mul-add n a b)

-- ---- expressions that stand one behind another from p on, up to stop

unfoldable pub sides_keys : List IntExpr → ℕ → List Key
sides_keys [] p = []
sides_keys (e ∷ es) p = keys_int e here p 0 ++ sides_keys es (p + length (encode_int e))

pub agrees_same : (parted : ℕ → Bool) (with_ifs : Bool) {xs ys : List Key} → SamePlaces xs ys → Every (AgreesWith parted with_ifs) xs → Every (AgreesWith parted with_ifs) ys
agrees_same parted with_ifs same_none h = every_none
agrees_same parted with_ifs (same_more {x} {y} e h) (every_more a k) = every_more (subst (λ (p : Place). (parted p.at ≡ not p.whole) × (with_ifs ≡ true)) e a) (agrees_same parted with_ifs h k)

module _ (F : List ℤ) (parted : ℕ → Bool) (with_ifs : Bool) (stop : ℕ) where
  pub record SidesStand (es : List IntExpr) (p : ℕ) : Type 0 where
    pub legal : Each (λ e. LegalInt e 64) es
    pub words : Has F p (sides_words es)
    pub from : folded ≤ p
    pub to : p + length (sides_words es) ≤ stop
    pub agree : Every (AgreesWith parted with_ifs) (sides_keys es p)

  pub sides_rest : (e : IntExpr) (es : List IntExpr) (p : ℕ) → SidesStand (e ∷ es) p → SidesStand es (p + length (encode_int e))
  unfolding sides_keys
  sides_rest e es p h = record {
    legal = h.legal.1;
    words = has_back F p (encode_int e) (sides_words es) h.words;
    from = omega (arith, h.from);
    to = omega (arith, h.to, length-append (encode_int e) (sides_words es));
    agree = every_right (keys_int e here p 0) (sides_keys es (p + length (encode_int e))) h.agree;
  }

  -- of the first
  record SideStands (e : IntExpr) (p : ℕ) : Type 0 where
    pub legal : LegalInt e 64
    pub words : Has F p (encode_int e)
    pub from : folded ≤ p
    pub to : p + length (encode_int e) ≤ stop
    pub agree : (n : ℕ) → Every (AgreesWith parted with_ifs) (keys_int e here p n)

  side_first : (e : IntExpr) (es : List IntExpr) (p : ℕ) → SidesStand (e ∷ es) p → SideStands e p
  unfolding sides_keys
  side_first e es p h = record {
    legal = h.legal.0;
    words = has_front F p (encode_int e) (sides_words es) h.words;
    from = h.from;
    to = omega (arith, h.to, length-append (encode_int e) (sides_words es));
    agree = λ n. agrees_same parted with_ifs (same_places_int e here p 0 n) (every_left (keys_int e here p 0) (sides_keys es (p + length (encode_int e))) h.agree);
  }

  module _ (ds : List Domain) (rec cap : ℕ) (before : List ℤ) (low : cap < limit) (end : stop ≤ folded_end) where
    row_walk : (a : IntExpr) (p : ℕ) (bs : List IntExpr) (q : ℕ) (xs : List Stage) → SideStands a p → SidesStand bs q → p + length (encode_int a) ≤ q → AllWalk ds F parted rec cap with_ifs before low xs → AllWalk ds F parted rec cap with_ifs before low (row_stages ds rec cap stop a p bs q xs)
    unfolding row_stages
    row_walk a p [] q xs h k l w = w
    row_walk a p (b ∷ bs) q xs h k l w =
        let j = side_first b bs q k in (
          pair_stage_walks ds F parted rec cap with_ifs before low a b p q stop h.legal j.legal h.words j.words h.from l j.to end (λ n. every_append (h.agree n) (j.agree (n + splits_int a here))),
          row_walk a p bs (q + length (encode_int b)) xs h (sides_rest b bs q k) (omega arith) w,
        )

    pub pairs_walk : (es : List IntExpr) (p : ℕ) (xs : List Stage) → SidesStand es p → AllWalk ds F parted rec cap with_ifs before low xs → AllWalk ds F parted rec cap with_ifs before low (pairs_stages ds rec cap stop es p xs)
    unfolding pairs_stages
    pairs_walk [] p xs h w = w
    pairs_walk (e ∷ es) p xs h w =
        let q = p + length (encode_int e) in
        let k = sides_rest e es p h in
        row_walk e p es q (pairs_stages ds rec cap stop es q xs) (side_first e es p h) k (omega arith) (pairs_walk es q xs k w)
