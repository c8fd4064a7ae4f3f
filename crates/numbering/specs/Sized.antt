-- The tally of an expression as a member of a disjunction, found from the words alone, and where the expression ends. Laws for the code.
use Rattle.std.specs.Prelude.{◌≡◌, Bool, not, ℤ, length}
use Rattle.std.proofs.Math.Path.{refl, sym, ap}
use Rattle.std.proofs.Common.{◌∙◌, subst}
use Rattle.std.proofs.Math.Bool.{true, false}
use mathlib.Core.List.{List}
use Prim.Native.Nat.{ℕ, zero, suc, ◌+◌, ◌-◌, ◌≤◌}
use native.Mathlib.Omega.{arith}
use Rattle.memory.specs.Places.{folded_end, limit}
use Rattle.syntax.specs.Syntax.{Domain}
use Rattle.walk.specs.Item.{bump, Tally, mode_in, fresh_in, closed}
use Rattle.walk.specs.Decode.{word, read_part}
use Rattle.walk.specs.declared.Node.{Node}
use Rattle.walk.specs.declared.Node.TheVariants.{Var, Cmp, Not, Join, Cross}
use Rattle.walk.proofs.NumberingSteps.{part_length}
use Rattle.walks.specs.Tree.{Splitting, never, below, here, inner}
use Rattle.walks.specs.Item.{tallies, var_item, cmp_item, conj_item, disj_item, cross_item, form_item, form_items}
use Rattle.walks.specs.Decode.{node_of, Read, many, cross_step, step, decode, decode_int}
use Rattle.scan.specs.Nodes.{okay_at, level}
use Rattle.scan.specs.Skip.{split_by, SkipsAll, IntSkips}
use Rattle.numbering.specs.Steps.{new_of}

-- q: the end, b: the splitting's next number, x, y, z: the tally's longer members, literals and comparisons
pub record Sized (u : List Domain → Tally) (at stop last q b x y z : ℕ) : Type 0 where
  pub end : q ≡ stop
  pub next : b ≡ last
  pub longs : (ds : List Domain) → x ≡ (u ds).longs
  pub lits : (ds : List Domain) → y ≡ (u ds).lits
  pub cmps : (ds : List Domain) → z ≡ (u ds).cmps
  pub room : x + y + z + at ≤ q
  pub inside : q ≤ folded_end
  pub low : b ≤ limit

abbrev pub SizedAt : List ℤ → ℕ → Splitting → Bool → ℕ → ℕ → ℕ → ℕ → ℕ → ℕ → ℕ → Type 0
SizedAt ws l m g at base q b x y z = let d = decode ws l m g at base in Sized (λ ds. (form_item ds d.tree).unit) at d.end d.next q b x y z

-- of so many members
abbrev pub SizedAll : List ℤ → ℕ → Splitting → ℕ → Bool → Bool → ℕ → ℕ → ℕ → ℕ → ℕ → ℕ → ℕ → Type 0
SizedAll ws l m k g h at base q b x y z = let d = many (decode ws l m) k g h at base in Sized (λ ds. tallies (form_items ds d.trees)) at d.end d.next q b x y z

pub sized_new : (ws : List ℤ) (l : ℕ) (m : Splitting) (k : ℕ) (g h : Bool) (at base q b x y z n : ℕ) → SizedAll ws l m k g h at base q b x y z → n ≡ fresh_in (mode_in x y z) x → (ds : List Domain) → n ≡ new_of ws l m k g h at base ds
sized_new ws l m k g h at base q b x y z n s e ds = e ∙ rw (s.longs ds, s.lits ds, s.cmps ds) refl

closed_none : (t : Tally) → t.longs ≡ 0 → closed t ≡ t
unfolding closed
closed_none t h = rw h

closed_some : (t : Tally) (n : ℕ) → t.longs ≡ suc n → ((closed t).longs ≡ 1) × ((closed t).lits ≡ 0) × ((closed t).cmps ≡ 0)
unfolding closed
closed_some t n h = rw h (refl, refl, refl)

module _ (w : List ℤ) (l : ℕ) (m : Splitting) (g : Bool) (at base : ℕ) (size : folded_end ≤ length w) (inside : at ≤ folded_end) (low : base ≤ limit) where
  abbrev Found : ℕ → ℕ → ℕ → ℕ → ℕ → Type 0
  Found q b x y z = SizedAt (read_part w) l m g at base q b x y z

  pub sized_none : l ≡ 0 → Found at base 0 0 0
  unfolding decode form_item disj_item closed tallies
  sized_none e = rw e (record { end = refl; next = refl; longs = λ ds. refl; lits = λ ds. refl; cmps = λ ds. refl; room = omega arith; inside = inside; low = low })

  module _ (u : ℕ) (z : l ≡ 0 → ⊥) (hu : u ≡ l - 1) where
    abbrev At : Node → Type 0
    At N = N ≡ node_of (read_part w) g at (word (read_part w) at)

    abbrev In : Node → ℕ → ℕ → ℕ → ℕ → ℕ → Type 0
    In N q b x y v = let d = step (decode (read_part w) u) (decode_int (read_part w) u) m g base N in Sized (λ ds. (form_item ds d.tree).unit) at d.end d.next q b x y v

    carry : (N : Node) (q b x y v : ℕ) → At N → In N q b x y v → Found q b x y v
    carry N q b x y v e = subst (λ (d : Read). Sized (λ ds. (form_item ds d.tree).unit) at d.end d.next q b x y v) (sym (level (read_part w) l u m g at base N z hu e))

    part_size : length (read_part w) ≡ folded_end
    part_size = part_length w size

    pub sized_var : (v q : ℕ) → At (Var v q) → Found q base 0 1 0
    unfolding step form_item var_item
    sized_var v q e =
        let o = okay_at w g at (Var v q) size inside e in
        carry (Var v q) q base 0 1 0 e (record { end = refl; next = refl; longs = λ ds. refl; lits = λ ds. refl; cmps = λ ds. refl; room = omega (arith, o.0); inside = omega (arith, o.1, part_size); low = low })

    -- j: the splitting's code inside
    pub sized_cmp : (o q j q' b' q'' b'' : ℕ) → At (Cmp o q) → split_by j ≡ inner m → IntSkips (read_part w) u (split_by j) q base q' b' → IntSkips (read_part w) u (split_by j) q' b' q'' b'' → Found q'' b'' 0 0 1
    unfolding step form_item cmp_item
    sized_cmp o q j q' b' q'' b'' e hj x y =
        let k = okay_at w g at (Cmp o q) size inside e in
        carry (Cmp o q) q'' b'' 0 0 1 e (record {
          end = y.end ∙ rw (x.end, x.next, hj) refl;
          next = y.next ∙ rw (x.end, x.next, hj) refl;
          longs = λ ds. refl;
          lits = λ ds. refl;
          cmps = λ ds. refl;
          room = omega (arith, k.0, x.start, y.start);
          inside = y.inside;
          low = y.low;
        })

    pub sized_not : (q p b x y v : ℕ) → At (Not q) → SizedAt (read_part w) u m (not g) q base p b x y v → Found p b x y v
    unfolding step
    sized_not q p b x y v e s =
        let o = okay_at w g at (Not q) size inside e in
        carry (Not q) p b x y v e (record { end = s.end; next = s.next; longs = s.longs; lits = s.lits; cmps = s.cmps; room = omega (arith, o.0, s.room); inside = s.inside; low = s.low })

    module _ (k : ℕ) (c d : Bool) (q p b x y v : ℕ) (s : SizedAll (read_part w) u m k c d q base p b x y v) where
      pub sized_conj : At (Join false k c d q) → Found p b 1 0 0
      unfolding step form_item conj_item
      sized_conj e =
          let o = okay_at w g at (Join false k c d q) size inside e in
          carry (Join false k c d q) p b 1 0 0 e (record { end = s.end; next = s.next; longs = λ ds. refl; lits = λ ds. refl; cmps = λ ds. refl; room = omega (arith, o.3 refl, s.room); inside = s.inside; low = s.low })

      -- without longer members it is their pool
      pub sized_pool : At (Join true k c d q) → x ≡ 0 → Found p b 0 y v
      unfolding step form_item disj_item
      sized_pool e i =
          let o = okay_at w g at (Join true k c d q) size inside e in
          let t : (ds : List Domain) → Tally = λ ds. tallies (form_items ds (many (decode (read_part w) u m) k c d q base).trees) in
          let f : (ds : List Domain) → closed (t ds) ≡ t ds = λ ds. closed_none (t ds) (sym (s.longs ds) ∙ i) in
          carry (Join true k c d q) p b 0 y v e (record {
            end = s.end;
            next = s.next;
            longs = λ ds. sym i ∙ s.longs ds ∙ ap (λ (t : Tally). t.longs) (sym (f ds));
            lits = λ ds. s.lits ds ∙ ap (λ (t : Tally). t.lits) (sym (f ds));
            cmps = λ ds. s.cmps ds ∙ ap (λ (t : Tally). t.cmps) (sym (f ds));
            room = omega (arith, o.0, s.room);
            inside = s.inside;
            low = s.low;
          })

      some_of : (n : ℕ) → (n ≡ 0 → ⊥) → n ≡ suc (n - 1)
      some_of zero h = absurd (h refl)
      some_of (suc n) h = omega arith

      pub sized_long : At (Join true k c d q) → (x ≡ 0 → ⊥) → Found p b 1 0 0
      unfolding step form_item disj_item
      sized_long e i =
          let o = okay_at w g at (Join true k c d q) size inside e in
          let t : (ds : List Domain) → Tally = λ ds. tallies (form_items ds (many (decode (read_part w) u m) k c d q base).trees) in
          let f : (ds : List Domain) → ((closed (t ds)).longs ≡ 1) × ((closed (t ds)).lits ≡ 0) × ((closed (t ds)).cmps ≡ 0) = λ ds. closed_some (t ds) (x - 1) (sym (s.longs ds) ∙ some_of x i) in
          let one : 1 ≤ x = omega (arith, some_of x i) in
          carry (Join true k c d q) p b 1 0 0 e (record {
            end = s.end;
            next = s.next;
            longs = λ ds. sym (f ds).0;
            lits = λ ds. sym (f ds).1;
            cmps = λ ds. sym (f ds).2;
            room = omega (arith, o.0, s.room, one);
            inside = s.inside;
            low = s.low;
          })

    -- split: its end, and one longer member
    pub sized_split : (h : Bool) (q c p b : ℕ) → m ≡ here → At (Cross h q) → c ≡ bump base 2 → SkipsAll (read_part w) u here 2 q c p b → Found p b 1 0 0
    unfolding step form_item cross_item cross_step
    sized_split h q c p b hm e hc s =
        let o = okay_at w g at (Cross h q) size inside e in
        let f : In (Cross h q) p b 1 0 0 = rw hm (record {
          end = s.end false false ∙ rw hc refl;
          next = s.next false false ∙ rw hc refl;
          longs = λ ds. refl;
          lits = λ ds. refl;
          cmps = λ ds. refl;
          room = omega (arith, o.0, s.start);
          inside = s.inside;
          low = s.low;
        }) in
        carry (Cross h q) p b 1 0 0 e f

    cross_in : (k : Splitting) (h : Bool) (q p b x y v : ℕ) → (k ≡ here → ⊥) → q + 0 ≤ folded_end → at + 1 ≤ q → SizedAll (read_part w) u (inner k) 2 true (not h) q base p b x y v
        → (let d = cross_step (decode (read_part w) u) k h q base in Sized (λ ds. (form_item ds d.tree).unit) at d.end d.next p b 1 0 0)
    unfolding form_item cross_item cross_step
    cross_in never h q p b x y v ne i j s = record { end = s.end; next = s.next; longs = λ ds. refl; lits = λ ds. refl; cmps = λ ds. refl; room = omega (arith, j, s.room); inside = s.inside; low = s.low }
    cross_in below h q p b x y v ne i j s = record { end = s.end; next = s.next; longs = λ ds. refl; lits = λ ds. refl; cmps = λ ds. refl; room = omega (arith, j, s.room); inside = s.inside; low = s.low }
    cross_in here h q p b x y v ne i j s = absurd (ne refl)

    pub sized_cross : (h : Bool) (q j p b x y v : ℕ) → (m ≡ here → ⊥) → At (Cross h q) → split_by j ≡ inner m → SizedAll (read_part w) u (split_by j) 2 true (not h) q base p b x y v → Found p b 1 0 0
    unfolding step
    sized_cross h q j p b x y v ne e hj s =
        let o = okay_at w g at (Cross h q) size inside e in
        carry (Cross h q) p b 1 0 0 e (cross_in m h q p b x y v ne (omega (arith, o.1, part_size)) (omega (arith, o.0)) (subst (λ (k : Splitting). SizedAll (read_part w) u k 2 true (not h) q base p b x y v) hj s))

-- ---- members, one after another

-- x, y, z are the tally of the members before q; so many are left, the next negated if f
pub record Sofar (ws : List ℤ) (l : ℕ) (m : Splitting) (h : Bool) (k : ℕ) (g : Bool) (at base rest : ℕ) (f : Bool) (q b x y z : ℕ) : Type 0 where
  pub end : (many (decode ws l m) rest f h q b).end ≡ (many (decode ws l m) k g h at base).end
  pub next : (many (decode ws l m) rest f h q b).next ≡ (many (decode ws l m) k g h at base).next
  pub longs : (ds : List Domain) → x + (tallies (form_items ds (many (decode ws l m) rest f h q b).trees)).longs ≡ (tallies (form_items ds (many (decode ws l m) k g h at base).trees)).longs
  pub lits : (ds : List Domain) → y + (tallies (form_items ds (many (decode ws l m) rest f h q b).trees)).lits ≡ (tallies (form_items ds (many (decode ws l m) k g h at base).trees)).lits
  pub cmps : (ds : List Domain) → z + (tallies (form_items ds (many (decode ws l m) rest f h q b).trees)).cmps ≡ (tallies (form_items ds (many (decode ws l m) k g h at base).trees)).cmps
  pub room : x + y + z + at ≤ q
  pub inside : q ≤ folded_end
  pub low : b ≤ limit
  pub fewer : rest ≤ k

module _ (ws : List ℤ) (l : ℕ) (m : Splitting) (h : Bool) (k : ℕ) (g : Bool) (at base : ℕ) where
  pub sofar_none : at ≤ folded_end → base ≤ limit → Sofar ws l m h k g at base k g at base 0 0 0
  sofar_none i o = record { end = refl; next = refl; longs = λ ds. omega arith; lits = λ ds. omega arith; cmps = λ ds. omega arith; room = omega arith; inside = i; low = o; fewer = omega arith }

  pub sofar_more : (rest : ℕ) (f : Bool) (q b x y z q' b' x' y' z' : ℕ) → Sofar ws l m h k g at base rest f q b x y z → (rest ≡ 0 → ⊥) → SizedAt ws l m f q b q' b' x' y' z' → Sofar ws l m h k g at base (rest - 1) h q' b' (x + x') (y + y') (z + z')
  unfolding many form_item tallies
  sofar_more zero f q b x y z q' b' x' y' z' s n t = absurd (n refl)
  sofar_more (suc rest) f q b x y z q' b' x' y' z' s n t =
      let r : suc rest - 1 ≡ rest = omega arith in
      record {
        end = rw (r, t.end, t.next) s.end;
        next = rw (r, t.end, t.next) s.next;
        longs = λ ds. rw (r, t.end, t.next) (omega (arith, s.longs ds, t.longs ds));
        lits = λ ds. rw (r, t.end, t.next) (omega (arith, s.lits ds, t.lits ds));
        cmps = λ ds. rw (r, t.end, t.next) (omega (arith, s.cmps ds, t.cmps ds));
        room = omega (arith, s.room, t.room);
        inside = t.inside;
        low = t.low;
        fewer = omega (arith, s.fewer);
      }

  pub sofar_done : (rest : ℕ) (f : Bool) (q b x y z : ℕ) → Sofar ws l m h k g at base rest f q b x y z → rest ≡ 0 → SizedAll ws l m k g h at base q b x y z
  unfolding many form_item tallies
  sofar_done zero f q b x y z s e = record { end = s.end; next = s.next; longs = λ ds. omega (arith, s.longs ds); lits = λ ds. omega (arith, s.lits ds); cmps = λ ds. omega (arith, s.cmps ds); room = s.room; inside = s.inside; low = s.low }
  sofar_done (suc rest) f q b x y z s e = absurd (omega arith)
