-- The words of a column stored behind those of the columns before it. Assumes nothing.
use mathlib.Core.Path.{◌≡◌, refl, sym, ap, ◌∙◌, subst}
use mathlib.Core.List.{List, [], ◌∷◌, ◌++◌, map, append-nil}
use Prim.Native.Nat.{ℕ, zero, suc, ◌+◌, ◌-◌, ◌*◌, ◌≤◌}
use native.Mathlib.Omega.{arith}
use native.Mathlib.Numerals.{add-one, sub-one}
use lib.IntN.{ℤ, pos}
use lib.ListN.{length, take, drop, length-append}
use lib.ListN.{set as store}
use lib.Seq.{sets, length-sets, take-take}
use Rattle.laws.specs.Writes.{sets_append}
use Rattle.memory.specs.Places.{table as table-place}
use Rattle.syntax.specs.Syntax.{Domain}
use Rattle.words.specs.Exact.{Each}
use Rattle.walk.specs.Decode.{read_part}
use Rattle.walk.specs.declared.Counters.{Counters}
use Rattle.walks.specs.Form.{IntForm}
use Rattle.walks.specs.ColumnText.{column_end}
use Rattle.declared.specs.DomainTable.{Declares}
use Rattle.declared.specs.InSet.{Declared}
use Rattle.stages.specs.Columns.{column_at}
use Rattle.stages.specs.ColumnsText.{column_var, columns_vars, column_domain, columns_domains}
use Rattle.tablewriter.specs.declared.Passed.{Passed}
use Rattle.tablewriter.specs.Columns.{Placed, form_at}
use Rattle.tablewriter.specs.Describing.{Describes, ColumnTold, Told, SomeTold, PassedColumn, Storable, StoredColumn, AllTold, Near, AllNear, SomeDescribable, Described}
use Rattle.tablewriter.proofs.Triples.{Triple, triple_words, triples_words, Lies, domain_by, words_length, words_more, each_more, map_more, numbers_read, domains_read, columns_read}
use Rattle.tablewriter.proofs.Copying.{kept_below, new_words}
use Rattle.tablewriter.proofs.Elsewhere.{same_part, same_declares, same_end, same_domain, same_told, same_var}

-- ---- one column

module _ {set w : List ℤ} {p to : ℕ} {n : Counters} (s : Storable set w p to n) where
  pub some_told : SomeTold set w p n
  some_told = record { domains = s.domains; it = s.told }

  pub stored_column : {k : ℕ} → k ≡ column_var w p (form_at w p) → {c x : ℤ} → ((ds : List Domain) → Told set w p n ds → Describes set (column_domain ds (form_at w p) w n) c x)
      → {r : Passed} → PassedColumn w p n r → StoredColumn set w p to n (store (store (store w to (pos k)) (to + 1) c) (to + 2) x) r
  stored_column {k} i {c} {x} d b =
      let two : to + 2 ≡ suc (suc to) = omega arith in
      record {
        number = k;
        count = c;
        from = x;
        words = rw (add-one to, two) refl;
        is = i;
        domain = λ ds t. (d ds t).is;
        lies = (d s.domains s.told).placed;
        passed = b;
      }

-- ---- one column after the other: v, p, e, q, rest: the work slice, the next column, the counters, where its words go, how many are left

pub record Storing (set w : List ℤ) (at count to : ℕ) (n : Counters) (v : List ℤ) (p : ℕ) (e : Counters) (q rest : ℕ) : Type 0 where
  pub domains : List Domain
  pub declared : Declared set domains
  pub table : Declares domains w
  pub left : AllTold domains (read_part w) rest p w e
  pub near : AllNear (read_part w) rest p
  pub placed : Placed w p e
  pub above : table-place ≤ to
  pub room : to + 3 * count ≤ length w
  pub done : List Triple
  pub stored : v ≡ sets w to (triples_words done)
  pub place : q ≡ to + 3 * length done
  pub counted : length done + rest ≡ count
  pub numbers : map (λ t. t.number) done ++ columns_vars (read_part w) rest p w ≡ columns_vars (read_part w) count at w
  pub told : (ds : List Domain) → Declared set ds → Declares ds w → AllTold ds (read_part w) count at w n
      → AllTold ds (read_part w) rest p w e × (map (domain_by set) done ++ columns_domains ds (read_part w) rest p w e ≡ columns_domains ds (read_part w) count at w n)
  pub lies : Each (Lies set) done

module _ (set w : List ℤ) (at count to : ℕ) (n : Counters) where
  pub storing_start : SomeDescribable set w at count to n → Storing set w at count to n w at n to count
  storing_start s = record {
    domains = s.domains;
    declared = s.it.declared;
    table = s.it.table;
    left = s.it.told;
    near = s.it.near;
    placed = s.it.placed;
    above = s.it.above;
    room = s.it.room;
    done = [];
    stored = refl;
    place = omega arith;
    counted = omega arith;
    numbers = refl;
    told = λ ds d t a. (a, refl);
    lies = tt;
  }

  module _ (v : List ℤ) (p : ℕ) (e : Counters) (q : ℕ) where
    module _ {rest : ℕ} (s : Storing set w at count to n v p e q rest) where
      used : to + length (triples_words s.done) ≤ length w
      used = omega (arith, words_length s.done, s.counted, s.room)

      below_to : take to v ≡ take to w
      below_to = ap (take to) s.stored ∙ kept_below w (triples_words s.done) to used

      below : take table-place v ≡ take table-place w
      below = sym (take-take table-place to v s.above) ∙ ap (take table-place) below_to ∙ take-take table-place to w s.above

      pub storing_size : length v ≡ length w
      storing_size = ap length s.stored ∙ length-sets w to (triples_words s.done)

      form_is : form_at v p ≡ form_at w p
      form_is = ap (λ (ws : List ℤ). (column_at ws p).tree) (same_part w v below)

      told_there : (ds : List Domain) → Declared set ds → Declares ds w → Near (form_at w p) → ColumnTold ds w e (form_at w p) → Told set v p e ds
      told_there ds d t h c = record { declared = d; table = same_declares w v below ds t; column = subst (ColumnTold ds v e) (sym form_is) (same_told w v below ds (form_at w p) h e c) }

      placed_there : Placed v p e
      placed_there = record { size = omega (arith, storing_size, s.placed.size); inside = s.placed.inside; low = s.placed.low }

    pub storing_column : (rest : ℕ) → Storing set w at count to n v p e q rest → (rest ≡ 0 → ⊥) → Storable set v p q e
    unfolding AllTold AllNear
    storing_column zero s z = absurd (z refl)
    storing_column (suc rest) s z = record {
      domains = s.domains;
      told = told_there s s.domains s.declared s.table s.near.0 s.left.0;
      placed = placed_there s;
      room = omega (arith, storing_size s, s.room, s.place, s.counted);
    }

    module _ (u : List ℤ) (r : Passed) (x : StoredColumn set v p q e u r) where
      abbrev last : Triple
      last = record { number = x.number; count = x.count; from = x.from }

      more : {rest : ℕ} (s : Storing set w at count to n v p e q rest) → u ≡ sets w to (triples_words (s.done ++ (last ∷ [])))
      more s =
          let us : List ℤ = triples_words s.done in
          let i : q ≡ to + length us = omega (arith, s.place, words_length s.done) in
          x.words ∙ ap (λ (k : ℕ). sets v k (triple_words last)) i ∙ ap (λ (l : List ℤ). sets l (to + length us) (triple_words last)) s.stored
          ∙ sym (sets_append w to us (triple_words last)) ∙ ap (sets w to) (sym (words_more s.done last))

      -- said of w
      next_is : {rest : ℕ} → Storing set w at count to n v p e q rest → r.next ≡ (column_at (read_part w) p).end
      next_is s = x.passed.next ∙ ap (λ (ws : List ℤ). (column_at ws p).end) (same_part w v (below s))

      behind_is : {rest : ℕ} → Storing set w at count to n v p e q rest → Near (form_at w p) → (ds : List Domain) → r.n ≡ column_end ds p (form_at w p) w e
      behind_is s h ds = x.passed.behind ds ∙ ap (λ (i : IntForm). column_end ds p i v e) (form_is s) ∙ same_end w v (below s) ds (form_at w p) h p e

      number_is : {rest : ℕ} → Storing set w at count to n v p e q rest → Near (form_at w p) → x.number ≡ column_var w p (form_at w p)
      number_is s h = x.is ∙ ap (column_var v p) (form_is s) ∙ same_var w v (below s) (form_at w p) h p s.placed.inside

      domain_is : {rest : ℕ} (s : Storing set w at count to n v p e q rest) → Near (form_at w p) → (ds : List Domain) → Told set v p e ds → domain_by set last ≡ column_domain ds (form_at w p) w e
      domain_is s h ds t = x.domain ds t ∙ ap (λ (i : IntForm). column_domain ds i v e) (form_is s) ∙ same_domain w v (below s) ds (form_at w p) h e

      pub storing_next : (rest : ℕ) → Storing set w at count to n v p e q rest → (rest ≡ 0 → ⊥) → Storing set w at count to n u r.next r.n (q + 3) (rest - 1)
      unfolding AllTold AllNear columns_vars columns_domains
      storing_next zero s z = absurd (z refl)
      storing_next (suc rest) s z =
          let h = s.near.0 in
          let j = next_is s in
          let l : length (s.done ++ (last ∷ [])) ≡ length s.done + 1 = length-append s.done (last ∷ []) in
          rw sub-one (record {
            domains = s.domains;
            declared = s.declared;
            table = s.table;
            left = rw (j, behind_is s h s.domains) s.left.1;
            near = rw j s.near.1;
            placed = record { size = s.placed.size; inside = x.passed.inside; low = x.passed.low };
            above = s.above;
            room = s.room;
            done = s.done ++ (last ∷ []);
            stored = more s;
            place = omega (arith, l, s.place);
            counted = omega (arith, l, s.counted);
            numbers =
                map_more (λ t. t.number) s.done last (columns_vars (read_part w) rest r.next w)
                ∙ ap (λ (k : ℕ). map (λ t. t.number) s.done ++ (k ∷ columns_vars (read_part w) rest r.next w)) (number_is s h)
                ∙ ap (λ (k : ℕ). map (λ t. t.number) s.done ++ (column_var w p (form_at w p) ∷ columns_vars (read_part w) rest k w)) j
                ∙ s.numbers;
            told = λ ds d t a.
                let y = s.told ds d t a in
                let b = behind_is s h ds in
                let i = domain_is s h ds (told_there s ds d t h y.0.0) in (
                  rw (j, b) y.0.1,
                  map_more (domain_by set) s.done last (columns_domains ds (read_part w) rest r.next w r.n)
                      ∙ ap (λ (c : Domain). map (domain_by set) s.done ++ (c ∷ columns_domains ds (read_part w) rest r.next w r.n)) i
                      ∙ ap (λ (k : ℕ). map (domain_by set) s.done ++ (column_domain ds (form_at w p) w e ∷ columns_domains ds (read_part w) rest k w r.n)) j
                      ∙ ap (λ (k : Counters). map (domain_by set) s.done ++ (column_domain ds (form_at w p) w e ∷ columns_domains ds (read_part w) rest (column_at (read_part w) p).end w k)) b
                      ∙ y.1,
                );
            lies = each_more (Lies set) s.done last s.lies x.lies;
          })

    pub storing_end : (rest : ℕ) → Storing set w at count to n v p e q rest → rest ≡ 0 → Described set w at count to n v
    unfolding columns_vars columns_domains
    storing_end (suc rest) s z = absurd (omega arith)
    storing_end zero s z =
        let all_done : length s.done ≡ count = omega (arith, s.counted) in
        let behind = drop (to + length (triples_words s.done)) w in
        let words_are : drop to v ≡ triples_words s.done ++ behind = ap (drop to) s.stored ∙ new_words w (triples_words s.done) to (used s) in
        record {
          numbers = rw (words_are, ← all_done) (numbers_read set behind s.done) ∙ sym (append-nil (map (λ t. t.number) s.done)) ∙ s.numbers;
          domains = λ ds d. rw (words_are, ← all_done) (domains_read set behind s.done) ∙ sym (append-nil (map (domain_by set) s.done)) ∙ (s.told ds d.declared d.table d.told).1;
          columns = rw (words_are, ← all_done) (columns_read set behind s.done s.lies);
          below = below_to s;
          size = storing_size s;
        }
