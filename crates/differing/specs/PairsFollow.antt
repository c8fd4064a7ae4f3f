-- The pairs of an AllDifferent by the words, from a state of the log: they do what stages' pairs do, up to where the walk is full (`do_pass`, `pairs_do`), and what they
-- ask holds (`pairs_ask`). As in stages: F, the folded words; parted, the places of Ifs with split parts; with-ifs, whether the word for Ifs is set.
use Rattle.std.specs.Prelude.{◌≡◌, refl, Bool, false, ℤ, ltb}
use Rattle.std.proofs.Common.{sym, ap, ◌∙◌, arith, length-append, lt-ltb, le-ltb}
use Rattle.std.proofs.Math.Path.{subst}
use mathlib.Core.List.{List, [], ◌∷◌, ◌++◌, append_assoc}
use Prim.Native.Nat.{ℕ, zero, suc, ◌+◌, ◌≤◌, ◌<◌}
use Rattle.std.proofs.Math.ListN.{length}
use Rattle.laws.specs.Slices.{Has}
use Rattle.memory.specs.Places.{folded_end, limit}
use Rattle.syntax.specs.Syntax.{Domain, Ne, IntExpr, Cmp, encode_int}
use Rattle.clauses.specs.Log.{Log}
use Rattle.walk.specs.Item.{bump}
use Rattle.walks.specs.Tree.{below, here, splits, splits_int}
use Rattle.walks.specs.Legal.{LegalInt}
use Rattle.walks.specs.Meet.{State, counters_of}
use Rattle.walks.specs.Implements.{Registers, registers_same, registers_to, registers_then}
use Rattle.walks.specs.Leaves.{words_of, grows_words}
use Rattle.walks.specs.Keys.{Every, every_append}
use Rattle.walks.specs.KeyAt.{pair_keys}
use Rattle.walks.specs.KeyPlaces.{AgreesWith}
use Rattle.walks.specs.SumsFit.{WithinLater, WithinPairs}
use Rattle.stages.specs.Room.{splits_int_low}
use Rattle.stages.specs.Columns.{column_at}
use Rattle.stages.specs.StatementsParts.{Part, again_text, again_lines, Stage, steps, rooms, Chained, AllKnown, last_to, Standing, Passed, full, good, passed_to, Again, AllWalk, standing_less, steps_grow}
use Rattle.stages.specs.Pairs.{pair_stage, pair_stage_walks, sides_words, row_stages, pairs_stages, SidesStand, sides_rest}
use Rattle.numbering.specs.Task.{Task}
use Rattle.numbering.specs.Fits.{Unless}
use Rattle.numbering.specs.Tasks.{cleared_task, row_task, pairs_task}
use Rattle.numbering.specs.FollowStatements.{pair_follows, side_words, side_end, side_agrees}
use Rattle.differing.specs.Again.{meet_until, until_full, until_more, pair_part, row_parts, pairs_parts, PairAsks, RowAsks, PairsAsk, pair_part_fits, pair_part_text, pair_part_lines}

module _ (ds : List Domain) (F : List ℤ) (parted : ℕ → Bool) (rec cap : ℕ) (with_ifs : Bool) (before : List ℤ) (low : cap < limit) where
  abbrev StandingHere : ℕ → ℕ → State → Log → Type 0
  StandingHere = Standing ds F parted rec cap with_ifs before low

  abbrev AllWalkHere : List Stage → Type 0
  AllWalkHere = AllWalk ds F parted rec cap with_ifs before low

  abbrev pub PassedHere : ℕ → ℕ → Type 0 → State → Log → Type 0
  PassedHere = Passed ds F parted rec cap with_ifs before low

  -- ---- a part does what a stage's part does, from a state of the log

  pub record Does (x : Stage) (y : Part) : Type 0 where
    pub meet : (n : ℕ) (st : State) (s : Log) → StandingHere x.from (x.room + n) st s → y.meet st ≡ x.part.meet st
    pub text : (n : ℕ) (st : State) (s : Log) → StandingHere x.from (x.room + n) st s → (w : List ℤ) → y.text w (counters_of st) ≡ x.part.text w (counters_of st)
    pub lines : (n : ℕ) (st : State) (s : Log) → StandingHere x.from (x.room + n) st s → (w : List ℤ) → y.lines w (counters_of st) ≡ x.part.lines w (counters_of st)

  pub does_same : (x : Stage) → Does x x.part
  does_same x = record { meet = λ n st s h. refl; text = λ n st s h w. refl; lines = λ n st s h w. refl }

  pub data Do : List Stage → List Part → Type 0 where
    none : Do [] []
    one : {x : Stage} {y : Part} {xs : List Stage} {ys : List Part} → Does x y → Do xs ys → Do (x ∷ xs) (y ∷ ys)

  -- numbered again and written, up to where the walk is full
  abbrev pub Writes : List Stage → List Part → State → Log → Type 0
  Writes xs ys st s = Registers (again_text ys st) (again_lines ys st) s (steps xs s)

  pub do_pass : {xs : List Stage} {ys : List Part} → Do xs ys → AllWalkHere xs → (a b : ℕ) → Chained a b xs → (n : ℕ) (st : State) (s : Log) → AllKnown xs s → StandingHere b (rooms xs + n) st s → st.used ≤ words_of s
      → PassedHere (last_to b xs) n (Writes xs ys st s) (meet_until cap ys st) (steps xs s)
  unfolding meet_until again_text again_lines steps rooms AllKnown
  do_pass none k a b c n st s i h u = good (standing_less ds F parted rec cap with_ifs before low b b (0 + n) n st s (omega arith) (omega arith) h) u (registers_same s s refl)
  do_pass (one {x} {y} {xs} {ys} d ds') k a b c n st s i h u = subst (λ (z : State). PassedHere (last_to x.to xs) n (Writes (x ∷ xs) (y ∷ ys) st s) z (steps xs (x.step s))) (sym until) (go (k.0.first (rooms xs + n) st s i.0 h' u) (λ g v. do_pass ds' k.1 x.past x.to c.2 n (x.part.meet st) (x.step s) i.1 g v))
    where
      st' : State
      st' = x.part.meet st

      t : Log
      t = x.step s

      h' : StandingHere x.from (x.room + (rooms xs + n)) st s
      h' = unfold rooms in standing_less ds F parted rec cap with_ifs before low b x.from (x.room + rooms xs + n) (x.room + (rooms xs + n)) st s c.1 (omega arith) h

      met : y.meet st ≡ st'
      met = d.meet (rooms xs + n) st s h'

      until : meet_until cap (y ∷ ys) st ≡ meet_until cap ys st'
      until = until_more cap y ys st h.state.used ∙ ap (meet_until cap ys) met

      behind : Again ds F parted rec cap with_ifs before low x st s → Writes xs ys st' t → Writes (x ∷ xs) (y ∷ ys) st s
      behind v z =
          let w : (y.meet st).work ≡ st'.work = ap (λ (b : State). b.work) met in
          let e = ap (λ (u : List ℤ). y.text u (counters_of st)) w ∙ d.text (rooms xs + n) st s h' st'.work in
          let f = ap (λ (u : List ℤ). y.lines u (counters_of st)) w ∙ d.lines (rooms xs + n) st s h' st'.work in
          let e' = ap (λ (u : List ℤ). u ++ again_text ys (y.meet st)) e ∙ ap (λ (b : State). x.part.text st'.work (counters_of st) ++ again_text ys b) met in
          let f' = ap (λ (u : ℕ). bump u (again_lines ys (y.meet st))) f ∙ ap (λ (b : State). bump (x.part.lines st'.work (counters_of st)) (again_lines ys b)) met in
          unfold again_text in unfold again_lines in unfold steps in registers_to e' f' (registers_then v.adds z)

      go : PassedHere x.to (rooms xs + n) (Again ds F parted rec cap with_ifs before low x st s) st' t → (StandingHere x.to (rooms xs + n) st' t → st'.used ≤ words_of t → PassedHere (last_to x.to xs) n (Writes xs ys st' t) (meet_until cap ys st') (steps xs t))
          → PassedHere (last_to x.to xs) n (Writes (x ∷ xs) (y ∷ ys) st s) (meet_until cap ys st') (steps xs t)
      go (full l m) f =
          let e = ap (λ (z : State). z.used) (until_full cap ys st' l) in
          full (omega (arith, e)) (omega (arith, e, grows_words (steps_grow ds F parted rec cap with_ifs before low xs k.1 t)))
      go (good g v z) f = passed_to ds F parted rec cap with_ifs before low (behind z) (f g v)

  -- ---- the pairs

  module _ (stop : ℕ) (end : stop ≤ folded_end) where
    abbrev SidesHere : List IntExpr → ℕ → Type 0
    SidesHere = SidesStand F parted with_ifs stop

    -- two expressions at p and q
    record TwoStand (a b : IntExpr) (p q : ℕ) : Type 0 where
      pub first : LegalInt a 64
      pub second : LegalInt b 64
      pub words : Has F p (encode_int a)
      pub others : Has F q (encode_int b)
      pub agree : (n : ℕ) → Every (AgreesWith parted with_ifs) (pair_keys a b p q n)

    two_stand : (a b : IntExpr) (cs bs : List IntExpr) (p q : ℕ) → SidesHere (a ∷ cs) p → SidesHere (b ∷ bs) q → TwoStand a b p q
    two_stand a b cs bs p q h k = record {
      first = h.legal.0;
      second = k.legal.0;
      words = side_words ds F parted rec cap with_ifs before low stop end a cs p h;
      others = side_words ds F parted rec cap with_ifs before low stop end b bs q k;
      agree = λ n. every_append (side_agrees ds F parted rec cap with_ifs before low stop end a cs p h n) (side_agrees ds F parted rec cap with_ifs before low stop end b bs q k (n + splits_int a here));
    }

    end_is : (e : IntExpr) (es : List IntExpr) (p : ℕ) → SidesHere (e ∷ es) p → (column_at F p).end ≡ p + length (encode_int e)
    end_is e es p h = side_end ds F parted rec cap with_ifs before low stop end e es p h

    module _ (a b : IntExpr) (p q : ℕ) (h : TwoStand a b p q) where
      abbrev stage : Stage
      stage = pair_stage ds rec cap a b p q stop

      -- the numbers of the splitting stay within the limit
      room : (n : ℕ) (st : State) (s : Log) → StandingHere stop (stage.room + n) st s → st.bools + splits (Cmp Ne a b) below ≤ limit
      unfolding splits
      room n st s k = omega (arith, k.state.room, splits_int_low a here, splits_int_low b here)

      pair_does : Does stage (pair_part rec cap F ds p q)
      pair_does = record {
        meet = λ n st s k. unfold pair_part in pair_follows ds F parted rec cap with_ifs before low a b p q stop h.first h.second h.words h.others h.agree n st s k;
        text = λ n st s k w. pair_part_text rec cap F ds a b p q h.first h.second h.words h.others st.bools (room n st s k) stop (counters_of st).ints w;
        lines = λ n st s k w. pair_part_lines rec cap F ds a b p q h.first h.second h.words h.others st.bools (room n st s k) stop (counters_of st).ints w;
      }

    row_do : (a : IntExpr) (cs : List IntExpr) (p : ℕ) (bs : List IntExpr) (q : ℕ) (xs : List Stage) (ys : List Part) → SidesHere (a ∷ cs) p → SidesHere bs q → Do xs ys → Do (row_stages ds rec cap stop a p bs q xs) (row_parts rec cap F ds p (length bs) q ++ ys)
    unfolding row_stages row_parts
    row_do a cs p [] q xs ys h k d = d
    row_do a cs p (b ∷ bs) q xs ys h k d =
        let r = q + length (encode_int b) in
        let g = row_do a cs p bs r xs ys h (sides_rest F parted with_ifs stop b bs q k) d in
        one (pair_does a b p q (two_stand a b cs bs p q h k)) (subst (λ (i : ℕ). Do (row_stages ds rec cap stop a p bs r xs) (row_parts rec cap F ds p (length bs) i ++ ys)) (sym (end_is b bs q k)) g)

    pub pairs_do : (es : List IntExpr) (p : ℕ) (xs : List Stage) (ys : List Part) → SidesHere es p → Do xs ys → Do (pairs_stages ds rec cap stop es p xs) (pairs_parts rec cap F ds (length es) p ++ ys)
    unfolding pairs_stages pairs_parts
    pairs_do [] p xs ys h d = d
    pairs_do (e ∷ es) p xs ys h d =
        let q = p + length (encode_int e) in
        let k = sides_rest F parted with_ifs stop e es p h in
        let ps = pairs_parts rec cap F ds (length es) q in
        let g = row_do e es p es q (pairs_stages ds rec cap stop es q xs) (ps ++ ys) h k (pairs_do es q xs ys k d) in
        let g' = subst (λ (zs : List Part). Do (row_stages ds rec cap stop e p es q (pairs_stages ds rec cap stop es q xs)) zs) (sym (append_assoc (row_parts rec cap F ds p (length es) q) ps ys)) g in
        subst (λ (i : ℕ). Do (row_stages ds rec cap stop e p es q (pairs_stages ds rec cap stop es q xs)) ((row_parts rec cap F ds p (length es) i ++ pairs_parts rec cap F ds (length es) i) ++ ys)) (sym (end_is e es p h)) g'

    -- ---- what they ask; u: the task behind them, xs: its stages

    row_ask_full : (p k q : ℕ) (st : State) → cap < st.used → RowAsks rec cap F ds p k q st
    unfolding RowAsks
    row_ask_full p zero q st l = tt
    row_ask_full p (suc k) q st l = rw (lt-ltb cap st.used l) tt

    pairs_ask_full : (k p : ℕ) (st : State) → cap < st.used → PairsAsk rec cap F ds k p st
    unfolding PairsAsk
    pairs_ask_full zero p st l = tt
    pairs_ask_full (suc k) p st l = rw (lt-ltb cap st.used l) tt

    data Reaches (xs : List Stage) (u : Task) (n : ℕ) (st : State) : Type 0 where
      reaches_full : cap < st.used → Reaches xs u n st
      reaches : (s : Log) → StandingHere stop (rooms xs + n) st s → st.used ≤ words_of s → u.fits ds st → Reaches xs u n st

    row_ask : (a : IntExpr) (cs : List IntExpr) (p : ℕ) (bs : List IntExpr) (q : ℕ) (xs : List Stage) (u : Task) (n : ℕ) (st : State) (s : Log)
        → SidesHere (a ∷ cs) p → SidesHere bs q → p + length (encode_int a) ≤ q → WithinLater ds a bs → (row_task rec cap F p (length bs) q u).fits ds st
        → StandingHere stop (rooms (row_stages ds rec cap stop a p bs q xs) + n) st s → st.used ≤ words_of s
        → RowAsks rec cap F ds p (length bs) q st × Reaches xs u n (meet_until cap (row_parts rec cap F ds p (length bs) q) st)
    unfolding row_stages row_task RowAsks row_parts meet_until WithinLater
    row_ask a cs p [] q xs u n st s h k l i f g v = (tt, reaches s g v f)
    row_ask a cs p (b ∷ bs) q xs u n st s h k l i f g v =
        go (λ st' s' f' g' v'. row_ask a cs p bs (q + length (encode_int b)) xs u n st' s' h (sides_rest F parted with_ifs stop b bs q k) (omega arith) i.1 f' g' v')
      where
        both : TwoStand a b p q
        both = two_stand a b cs bs p q h k

        st' : State
        st' = (pair_part rec cap F ds p q).meet st

        rest : ℕ
        rest = (column_at F q).end

        others : List Stage
        others = row_stages ds rec cap stop a p bs (q + length (encode_int b)) xs

        not_full : ltb cap st.used ≡ false
        not_full = le-ltb cap st.used g.state.used

        asked : (cleared_task rec cap F p q).fits ds st × (row_task rec cap F p (length bs) rest u).fits ds ((cleared_task rec cap F p q).meet ds st)
        asked = unfold row_task in subst (λ (t : Bool). Unless t ((cleared_task rec cap F p q).fits ds st × (row_task rec cap F p (length bs) rest u).fits ds ((cleared_task rec cap F p q).meet ds st))) not_full f

        g' : StandingHere stop ((pair_stage ds rec cap a b p q stop).room + (rooms others + n)) st s
        g' = unfold rooms in standing_less ds F parted rec cap with_ifs before low stop stop _ ((pair_stage ds rec cap a b p q stop).room + (rooms others + n)) st s (omega arith) (omega arith) g

        passed : PassedHere stop (rooms others + n) (Again ds F parted rec cap with_ifs before low (pair_stage ds rec cap a b p q stop) st s) st' ((pair_stage ds rec cap a b p q stop).step s)
        passed =
            subst (λ (z : State). PassedHere stop (rooms others + n) (Again ds F parted rec cap with_ifs before low (pair_stage ds rec cap a b p q stop) st s) z ((pair_stage ds rec cap a b p q stop).step s)) (sym ((pair_does a b p q both).meet (rooms others + n) st s g'))
            ((pair_stage_walks ds F parted rec cap with_ifs before low a b p q stop both.first both.second both.words both.others h.from l (omega (arith, k.to, length-append (encode_int b) (sides_words bs))) end both.agree).first (rooms others + n) st s tt g' v)

        first : PairAsks rec cap F ds p q st
        first = record { first = asked.0; second = pair_part_fits rec cap F ds a b p q both.first both.second both.words both.others st.bools (room a b p q both (rooms others + n) st s g') i.0 }

        together : RowAsks rec cap F ds p (length bs) rest st' × Reaches xs u n (meet_until cap (row_parts rec cap F ds p (length bs) rest) st')
            → RowAsks rec cap F ds p (length (b ∷ bs)) q st × Reaches xs u n (meet_until cap (row_parts rec cap F ds p (length (b ∷ bs)) q) st)
        together z = (
          unfold RowAsks in rw not_full (first, z.0),
          unfold row_parts in subst (Reaches xs u n) (sym (until_more cap (pair_part rec cap F ds p q) (row_parts rec cap F ds p (length bs) rest) st g.state.used)) z.1,
        )

        go : ((y : State) (t : Log) → (row_task rec cap F p (length bs) (q + length (encode_int b)) u).fits ds y → StandingHere stop (rooms others + n) y t → y.used ≤ words_of t
            → RowAsks rec cap F ds p (length bs) (q + length (encode_int b)) y × Reaches xs u n (meet_until cap (row_parts rec cap F ds p (length bs) (q + length (encode_int b))) y))
            → RowAsks rec cap F ds p (length (b ∷ bs)) q st × Reaches xs u n (meet_until cap (row_parts rec cap F ds p (length (b ∷ bs)) q) st)
        go r = together (on passed)
          where
            on : PassedHere stop (rooms others + n) (Again ds F parted rec cap with_ifs before low (pair_stage ds rec cap a b p q stop) st s) st' ((pair_stage ds rec cap a b p q stop).step s)
                → RowAsks rec cap F ds p (length bs) rest st' × Reaches xs u n (meet_until cap (row_parts rec cap F ds p (length bs) rest) st')
            on (full x y) = (row_ask_full p (length bs) rest st' x, subst (Reaches xs u n) (sym (until_full cap (row_parts rec cap F ds p (length bs) rest) st' x)) (reaches_full x))
            on (good x y z) =
                let e : (column_at F q).end ≡ q + length (encode_int b) = end_is b bs q k in
                let f' : (row_task rec cap F p (length bs) rest u).fits ds st' = unfold pair_part in asked.1 in
                subst (λ (j : ℕ). RowAsks rec cap F ds p (length bs) j st' × Reaches xs u n (meet_until cap (row_parts rec cap F ds p (length bs) j) st')) (sym e)
                (r st' ((pair_stage ds rec cap a b p q stop).step s) (subst (λ (j : ℕ). (row_task rec cap F p (length bs) j u).fits ds st') e f') x y)

    pub pairs_ask : (es : List IntExpr) (p : ℕ) (xs : List Stage) (u : Task) (n : ℕ) (st : State) (s : Log) → SidesHere es p → WithinPairs ds es → (pairs_task rec cap F (length es) p u).fits ds st
        → StandingHere stop (rooms (pairs_stages ds rec cap stop es p xs) + n) st s → st.used ≤ words_of s → PairsAsk rec cap F ds (length es) p st
    unfolding pairs_stages pairs_task PairsAsk WithinPairs
    pairs_ask [] p xs u n st s h i f g v = tt
    pairs_ask (e ∷ es) p xs u n st s h i f g v =
        let q = p + length (encode_int e) in
        let k = sides_rest F parted with_ifs stop e es p h in
        let j = end_is e es p h in
        let f' : (row_task rec cap F p (length es) q (pairs_task rec cap F (length es) q u)).fits ds st = subst (λ (o : ℕ). (row_task rec cap F p (length es) o (pairs_task rec cap F (length es) o u)).fits ds st) j f in
        let r = row_ask e es p es q (pairs_stages ds rec cap stop es q xs) (pairs_task rec cap F (length es) q u) n st s h k (omega arith) i.0 f' g v in
        rw (le-ltb cap st.used g.state.used) (subst (λ (o : ℕ). RowAsks rec cap F ds p (length es) o st × PairsAsk rec cap F ds (length es) o (meet_until cap (row_parts rec cap F ds p (length es) o) st)) (sym j)
        (r.0, on r.1 (λ y t f'' g' v'. pairs_ask es q xs u n y t k i.1 f'' g' v')))
      where
        on : {y : State} → let q = p + length (encode_int e) in Reaches (pairs_stages ds rec cap stop es q xs) (pairs_task rec cap F (length es) q u) n y
            → ((y : State) (t : Log) → (pairs_task rec cap F (length es) q u).fits ds y → StandingHere stop (rooms (pairs_stages ds rec cap stop es q xs) + n) y t → y.used ≤ words_of t → PairsAsk rec cap F ds (length es) q y) → PairsAsk rec cap F ds (length es) q y
        on {y} (reaches_full x) r = pairs_ask_full (length es) (p + length (encode_int e)) y x
        on {y} (reaches t g' v' f') r = r y t f' g' v'
