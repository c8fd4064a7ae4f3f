-- From the state behind the first walk, not full, to the answer: the statements' clauses can be written by its maps where no If stands (`by_maps`), and its
-- maps, its counters, the records that stand already and the clauses are the answer's words (`answer_is`), in whatever order they are stored (`assembled`).
use Rattle.std.specs.Prelude.{◌≡◌, refl, Bool, false, ℕ, suc, ◌+◌, ◌≤◌, ◌<◌, min, ℤ, pos, length, get_or, set}
use Rattle.std.proofs.Common.{sym, ap, ◌∙◌, arith}
use Rattle.std.proofs.Math.Path.{subst}
use mathlib.Core.List.{List, [], ◌∷◌, ◌++◌}
use Rattle.std.proofs.lemmas.List.Edits.{sets}
use Rattle.std.proofs.lemmas.List.{set_comm}
use Rattle.laws.specs.Writes.{sets_append}
use Rattle.memory.specs.Places.{folded, limit}
use Rattle.syntax.specs.Syntax.{Domain, Stmt, Problem, encode}
use Rattle.syntax.specs.Words.{max_bools}
use Rattle.fold.specs.Fold.{Fixed}
use Rattle.clauses.specs.Clause.{Clause}
use Rattle.clauses.specs.Log.{Log, clauses_of}
use Rattle.answer.specs.Answer.{fixed_word, start_log, layout, normalize}
use Rattle.walk.specs.Decode.{read_part}
use Rattle.walk.proofs.Texts.{layout as clauses-layout, layout_words}
use Rattle.walks.specs.Item.{counters}
use Rattle.walks.specs.Implements.{Registers}
use Rattle.walks.specs.Plain.{PlainInt}
use Rattle.walks.specs.Constant.{Named}
use Rattle.walks.specs.Good.{records_of}
use Rattle.walks.specs.Visit.{good_ready}
use Rattle.walks.specs.Walked.{fixed, names}
use Rattle.declared.specs.DomainTable.{Declares}
use Rattle.statements.specs.Whole.{start_none}
use Rattle.statements.specs.Stages.{Settled, log_of}
use Rattle.stages.specs.StatementsParts.{AllOwn}
use Rattle.stages.specs.StatementsPlaces.{stmts_words, parted_of, Marked}
use Rattle.stages.specs.Statements.{stmts_stages}
use Rattle.stages.specs.Start.{start, Begun}
use Rattle.stages.specs.Whole.{records_from, set_stages, behind, Walkable, cap_low, ended, answer_words}
use Rattle.front.specs.Front.{front_words}
use Rattle.front.proofs.FrontLaws.{front_is}
use Rattle.rows.specs.Emit.{clauses_words, Behind}
use Rattle.setwriter.specs.Statements.{Lent}
use Rattle.setwriter.specs.Step.{AllMapped}

-- ---- stores one after another

set_below : (l : List ℤ) (i : ℕ) (x : ℤ) (o : ℕ) (vs : List ℤ) → i < o → set (sets l o vs) i x ≡ sets (set l i x) o vs
set_below l i x o [] h = refl
set_below l i x o (v ∷ vs) h = set_below (set l o v) i x (suc o) vs (omega arith) ∙ ap (λ m. sets m (suc o) vs) (set_comm l o i v x (λ e. omega arith))

sets_below : (l : List ℤ) (i : ℕ) (us : List ℤ) (o : ℕ) (vs : List ℤ) → i + length us ≤ o → sets (sets l o vs) i us ≡ sets (sets l i us) o vs
sets_below l i [] o vs h = refl
sets_below l i (u ∷ us) o vs h = ap (λ (m : List ℤ). sets m (suc i) us) (set_below l i u o vs (omega arith)) ∙ sets_below (set l i u) (suc i) us o vs (omega arith)

-- first the words b at their place, those before them, those behind a place left out, then that place's word
pub assembled : (out a b : List ℤ) (x : ℤ) (c : List ℤ) (n : ℕ) → n ≡ length a + length b → set (sets (sets (sets out (length a) b) 0 a) (n + 1) c) n x ≡ sets out 0 (a ++ (b ++ (x ∷ c)))
assembled out a b x c n e =
    let i : 0 + length a ≡ length a = omega arith in
    let j : suc n ≡ n + 1 = omega arith in
    let k : length a + length b ≡ n = sym e in
    ap (λ (l : List ℤ). set (sets l (n + 1) c) n x) (sets_below out 0 a (length a) b (omega arith))
    ∙ set_below (sets (sets out 0 a) (length a) b) n x (n + 1) c (omega arith)
    ∙ ap (λ (m : ℕ). sets (set (sets (sets out 0 a) (length a) b) n x) m c) (sym j)
    ∙ ap (λ (m : ℕ). sets (sets (sets out 0 a) (length a) b) m (x ∷ c)) (sym k)
    ∙ sym (sets_append (sets out 0 a) (length a) b (x ∷ c))
    ∙ ap (λ (m : ℕ). sets (sets out 0 a) m (b ++ (x ∷ c))) (sym i)
    ∙ sym (sets_append out 0 a (b ++ (x ∷ c)))

-- ---- behind the first walk, from the slice w on; n: how many numbers merging gave, before: the output

module _ (m : Bool) (p : Problem) (f : Fixed) (ss : List Stmt) (F : List ℤ) (with_ifs : Bool) (cap : ℕ) (walkable : Walkable p ss F with_ifs cap) (w : List ℤ) (n : ℕ) (begun : Begun F with_ifs w n (start_log m ss)) (before : List ℤ) where
  abbrev ds : List Domain
  ds = p.domains

  abbrev L : Log
  L = log_of m p ss

  -- all clauses
  registers : Registers (clauses-layout [] (clauses_of L)) (min (length (clauses_of L)) limit) (start_log m ss) L
  registers = record { cs = clauses_of L; eq = ap (λ (cs : List Clause). cs ++ clauses_of L) (sym (start_none m ss)); words = refl; lines = refl }

  pub answer_is : let st = behind p ss F cap (start w before n) in st.used ≤ cap → ((v : ℕ) → v < max_bools → get_or st.work v (pos 0) ≡ fixed_word (f v))
      → layout (normalize m p f ss) ≡ front_words st.work p.bools (length p.domains) (counters st.bools st.ints) ++ (records_of p.domains (log_of m p ss) ++ (pos (length (clauses_of (log_of m p ss))) ∷ clauses_words (clauses_of (log_of m p ss))))
  answer_is u v =
      let st = behind p ss F cap (start w before n) in
      let a = answer_words m p f ss F with_ifs cap walkable w n begun before (clauses-layout [] (clauses_of L)) (min (length (clauses_of L)) limit) u registers in
      let e : clauses-layout [] (clauses_of L) ≡ clauses_words (clauses_of L) = layout_words (clauses_of L) in
      let i = front_is f st.work p.bools (length ds) (counters st.bools st.ints) (records_of ds L ++ (pos (length (clauses_of L)) ∷ clauses-layout [] (clauses_of L))) walkable.few_bools v in
      a.words ∙ sym i ∙ ap (λ (us : List ℤ). front_words st.work p.bools (length ds) (counters st.bools st.ints) ++ (records_of ds L ++ (pos (length (clauses_of L)) ∷ us))) e

  pub by_maps : with_ifs ≡ false → (behind p ss F cap (start w before n)).used ≤ cap → Settled p f ss → (set' : List ℤ) → set' ≡ encode p → (end : ℕ) → end ≡ folded + length (stmts_words ss)
      → Declares p.domains (behind p ss F cap (start w before n)).work → (out : List ℤ) (o : ℕ) → Behind out o 0 → AllMapped m p f ss set' (behind p ss F cap (start w before n)).work end n out o
  by_maps off u settled set' words end ends domains out o room =
      let st = behind p ss F cap (start w before n) in
      let e = ended m p f ss F with_ifs cap walkable w n begun before u in
      let g = e.standing in
      let low = cap_low m p f ss F with_ifs cap walkable in
      let i : F ≡ read_part st.work = sym g.state.words in
      let k : Marked F end false = subst (λ (b : Bool). Marked F end b) off (subst (λ (j : ℕ). Marked F j with_ifs) (sym ends) walkable.marked) in
      let l : Lent p f ss set' F end false = record { words = words; settled = settled; stands = walkable.stands; marked = k; ends = ends } in
      let own : AllOwn st.work (stmts_stages ds (records_from p) cap F folded ss) (start_log m ss) = unfold behind set_stages in e.again.owned in
      record {
        lent = subst (λ (G : List ℤ). Lent p f ss set' G end false) i l;
        domains = domains;
        word = g.state.word ∙ off;
        size = g.state.size;
        rec = records_from p;
        cap = cap;
        low = low;
        ready = good_ready ds F PlainInt (parted_of folded ss) g.key (fixed ds) (records_from p) cap with_ifs before (Named ds) (names ds) g.places low 0 st L g.state;
        declared = record { bools = g.state.low; ints = g.state.low_int };
        owned = subst (λ (G : List ℤ). AllOwn st.work (stmts_stages ds (records_from p) cap G folded ss) (start_log m ss)) i own;
        first = begun.bools;
        room = room;
      }
