-- The work slice with the table of declared domains and the word for Ifs (`prepares`), and what later steps keep of it (`prepared_stays`).
use mathlib.Core.Path.{◌≡◌, refl, sym, ap, ◌∙◌, subst}
use mathlib.Core.Bool.{Bool, not}
use mathlib.Core.List.{List, [], ◌∷◌}
use Prim.Native.Nat.{ℕ, suc, ◌+◌, ◌-◌, ◌*◌, ◌≤◌, ◌<◌}
use native.Mathlib.Omega.{arith}
use lib.IntN.{ℤ, pos}
use lib.ListN.{length, get_or, take, set, length-set, length-replicate}
use lib.Seq.{sets, length-sets, take-set-le, get_or-drop, get_or-set_other}
use Rattle.laws.specs.Ints.{is_zero}
use Rattle.laws.specs.Slices.{Has, zeros, has_sets}
use Rattle.memory.specs.Places.{folded, folded_end, ifs_word, declared_domains, table}
use Rattle.memory.specs.Cleared.{cleared}
use Rattle.syntax.specs.Syntax.{Domain, Stmt, Problem}
use Rattle.syntax.specs.Words.{min_work_words, max_ints}
use Rattle.fold.specs.Fold.{Fixed}
use Rattle.accept.specs.Accepted.{domains_stand}
use Rattle.answer.specs.Answer.{start_log}
use Rattle.walk.specs.Decode.{read_part}
use Rattle.walk.proofs.NumberingSteps.{part_word}
use Rattle.walks.specs.Item.{has_ifs}
use Rattle.walks.specs.Meet.{State}
use Rattle.declared.specs.DomainTable.{domain_table, TableRoom, TablePost, word_at, Declares, declares, sizes_fit}
use Rattle.marking.specs.Mark.{marked, mark_own}
use Rattle.statements.specs.Stages.{settled_short}
use Rattle.stages.specs.StatementsPlaces.{stmts_words}
use Rattle.stages.specs.Start.{Begun}
use Rattle.numbering.specs.Declares.{upper}
use Rattle.numbering.specs.Task.{Kept}
use Rattle.setwriter.specs.Statements.{Lent}
use Rattle.setwriter.specs.Begin.{Settles, Begins}
use Rattle.setwriter.specs.Marks.{lent}
use Rattle.planner.specs.Steps.{Held, SomeHeld, Prepared, Prepares}

take_below : (k : ℕ) (l : List ℤ) (o : ℕ) (us : List ℤ) → k ≤ o → take k (sets l o us) ≡ take k l
take_below k l o [] h = refl
take_below k l o (u ∷ us) h = take_below k (set l o u) (suc o) us (omega arith) ∙ take-set-le k l o u h

-- words of the slice by its first words
settles_low : {p : Problem} {f : Fixed} {ss : List Stmt} {w w' : List ℤ} {end : ℕ} → read_part w' ≡ read_part w → length w' ≡ length w → Settles p f ss w end → Settles p f ss w' end
settles_low {p} {f} {ss} {w} {w'} e l h = record {
  set = h.set;
  values = λ v k. part_word w w' e v (omega arith) ∙ h.values v k;
  stands = subst (λ (F : List ℤ). Has F folded (stmts_words ss)) (sym e) h.stands;
  ends = h.ends;
  size = omega (arith, h.size, l);
}

-- ---- `prepare`

abbrev blanked : List ℤ → List ℤ
blanked w = sets w declared_domains (zeros (table - declared_domains))

is_blanked : (w : List ℤ) → cleared w declared_domains table ≡ blanked w
unfolding cleared
is_blanked w = refl

module _ (p : Problem) (f : Fixed) (ss : List Stmt) (set' w : List ℤ) (i end : ℕ) (h : Held p f ss set' w i end) where
  abbrev ds : List Domain
  ds = p.domains

  long : min_work_words ≤ length w
  long = h.settles.size

  ends_low : end ≤ folded_end
  ends_low = omega (arith, h.settles.ends, settled_short p f ss h.settles.set)

  few : length ds ≤ max_ints
  few = h.settles.set.well.few_ints

  table_room : TableRoom set' 2 i (blanked w) declared_domains
  table_room = record {
    ds = ds;
    domains = domains_stand set' p (record { words = h.words; well = h.settles.set.well });
    size = h.ints;
    fits = sizes_fit ds h.settles.set.well.domains_well;
    room = omega (arith, length-sets w declared_domains (zeros (table - declared_domains)), long, few, h.ints);
  }

  abbrev tabled : List ℤ
  tabled = sets (blanked w) declared_domains (domain_table ds)

  tabled_size : length tabled ≡ length w
  tabled_size = length-sets (blanked w) declared_domains (domain_table ds) ∙ length-sets w declared_domains (zeros (table - declared_domains))

  last_size : length (marked tabled end) ≡ length w
  last_size = length-set tabled ifs_word _ ∙ tabled_size

  part : read_part (marked tabled end) ≡ read_part w
  unfolding read_part
  part = take-set-le folded_end tabled ifs_word _ (omega arith) ∙ take_below folded_end (blanked w) declared_domains (domain_table ds) (omega arith) ∙ take_below folded_end w declared_domains (zeros (table - declared_domains)) (omega arith)

  blank : Has (blanked w) declared_domains (zeros (table - declared_domains))
  blank = has_sets w declared_domains (zeros (table - declared_domains)) (omega (arith, long, length-replicate (table - declared_domains) (pos 0)))

  told : (v k : ℕ) → word_at (marked tabled end) v k ≡ word_at tabled v k
  unfolding word_at
  told v k = get_or-set_other tabled ifs_word (declared_domains + 3 * v + k) _ (pos 0) (λ e. omega arith)

  declared : Declares ds (marked tabled end)
  declared v l = rw (told v 0, told v 1, told v 2) (declares (blanked w) blank ds few (sizes_fit ds h.settles.set.well.domains_well) v l)

  prepared : Prepared p f ss set' (marked tabled end) end
  prepared =
      let s = settles_low part last_size h.settles in
      record {
        lent = lent p f ss set' (marked tabled end) end s h.words (mark_own tabled end (omega (arith, tabled_size, long)));
        values = s.values;
        domains = declared;
        size = s.size;
      }

pub table_asks : (set' w : List ℤ) (i end : ℕ) → SomeHeld set' w i end → {x : List ℤ} → x ≡ cleared w declared_domains table → TableRoom set' 2 i x declared_domains
table_asks set' w i end s e = subst (λ (l : List ℤ). TableRoom set' 2 i l declared_domains) (sym (e ∙ is_blanked w)) (table_room s.it s.fixed s.stmts set' w i end s.held)

pub mark_asks : (set' w : List ℤ) (i end : ℕ) → SomeHeld set' w i end → {k : ℕ} → k ≡ length w → (ifs_word < k) × (end ≤ folded_end)
mark_asks set' w i end s e =
    let h = s.held in
    (omega (arith, h.settles.size), ends_low s.it s.fixed s.stmts set' w i end h)

pub prepares : (set' w : List ℤ) (i end : ℕ) {x y z : List ℤ} → x ≡ cleared w declared_domains table → TablePost set' 2 i x declared_domains y → z ≡ marked y end → Prepares set' w i end z
prepares set' w i end {x} {y} {z} a b c p f ss h =
    let d : y ≡ sets x declared_domains (domain_table p.domains) = b p.domains (domains_stand set' p (record { words = h.words; well = h.settles.set.well })) h.ints in
    let e : y ≡ tabled p f ss set' w i end h = d ∙ ap (λ (l : List ℤ). sets l declared_domains (domain_table p.domains)) (a ∙ is_blanked w) in
    subst (λ (l : List ℤ). Prepared p f ss set' l end) (sym (c ∙ ap (λ (l : List ℤ). marked l end) e)) (prepared p f ss set' w i end h)

-- ---- what later steps keep

pub record Stays (w w' : List ℤ) : Type 0 where
  pub part : read_part w' ≡ read_part w
  pub behind : (k : ℕ) → ifs_word ≤ k → get_or w' k (pos 0) ≡ get_or w k (pos 0)
  pub size : length w' ≡ length w

pub begins_stays : {merge : Bool} {w w' : List ℤ} {end n : ℕ} → Begins merge w end w' n → Stays w w'
begins_stays b = record { part = b.part; behind = b.behind; size = b.size }

pub kept_stays : {st st' : State} → Kept st st' → Stays st.work st'.work
kept_stays {st} {st'} k = record {
  part = k.part;
  behind = λ j l.
      let e : j ≡ upper + (j - upper) = omega arith in
      rw e (sym (get_or-drop upper st'.work (j - upper) (pos 0)) ∙ ap (λ (x : List ℤ). get_or x (j - upper) (pos 0)) k.behind ∙ get_or-drop upper st.work (j - upper) (pos 0));
  size = k.size;
}

pub ifs_stay : {w w' : List ℤ} → Stays w w' → has_ifs w' ≡ has_ifs w
unfolding has_ifs
ifs_stay s = ap (λ (z : ℤ). not (is_zero z)) (s.behind ifs_word (omega arith))

module _ {p : Problem} {f : Fixed} {ss : List Stmt} {set' w : List ℤ} {end : ℕ} (h : Prepared p f ss set' w end) where
  pub settles : Settles p f ss w end
  settles = record { set = h.lent.settled; values = h.values; stands = h.lent.stands; ends = h.lent.ends; size = h.size }

  pub prepared_stays : {w' : List ℤ} → Stays w w' → Prepared p f ss set' w' end
  prepared_stays {w'} s =
      let told : (v k : ℕ) → word_at w' v k ≡ word_at w v k = λ v k. unfold word_at in s.behind (declared_domains + 3 * v + k) (omega arith) in
      let l : Lent p f ss set' (read_part w') end (has_ifs w) = subst (λ (F : List ℤ). Lent p f ss set' F end (has_ifs w)) (sym s.part) h.lent in
      record {
        lent = subst (λ (b : Bool). Lent p f ss set' (read_part w') end b) (sym (ifs_stay s)) l;
        values = (settles_low s.part s.size settles).values;
        domains = λ v l. rw (told v 0, told v 1, told v 2) (h.domains v l);
        size = omega (arith, h.size, s.size);
      }

  -- a walk begins at w', by that slice's own words
  pub begun : {merge : Bool} {w' : List ℤ} {n : ℕ} → Begins merge w end w' n → Begun (read_part w') (has_ifs w') w' n (start_log merge ss)
  begun {merge} {w'} {n} b =
      let x = b.begun p f ss settles in
      let y : Begun (read_part w') (has_ifs w) w' n (start_log merge ss) = subst (λ (F : List ℤ). Begun F (has_ifs w) w' n (start_log merge ss)) (sym x.words) x in
      subst (λ (t : Bool). Begun (read_part w') t w' n (start_log merge ss)) (sym x.word) y
