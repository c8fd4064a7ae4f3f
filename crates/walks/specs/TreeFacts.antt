-- What the first walk has to know of every If of the trees of a rule, a pair or a column (`Facts`): from the list of their keys.
use Rattle.std.specs.Prelude.{◌≡◌, refl, Bool, not, List, ℕ, ◌+◌, ◌-◌, ◌≤◌, ◌<◌, ℤ}
use Rattle.std.proofs.Math.Path.{sym}
use Rattle.std.proofs.Common.{ap, ◌∙◌, subst, arith}
use Rattle.std.proofs.Math.Bool.{true, false}
use Rattle.std.proofs.Math.Option.{Option, some}
use Rattle.std.proofs.Math.ListN.{length}
use Rattle.laws.specs.Bools.{never as no_bool}
use Rattle.laws.specs.Slices.{Has}
use Rattle.memory.specs.Places.{folded, folded_end, limit}
use Rattle.syntax.specs.Syntax.{Domain, IntExpr, IConst, IVar, Linear, If, Terms, tnil, tmore, BoolExpr, Const, Var, NVar, And, Or, Not, Xor, Iff, Imp, Cmp, Members, mnil, more, encode_bool, encode_int}
use Rattle.syntax.specs.Words.{max_bools}
use Rattle.clauses.proofs.Bounds.{int_bound}
use Rattle.clauses.specs.Log.{Log, get_if}
use Rattle.clauses.specs.Normalize.{Run, IntRun, normalize_bool_expr, normalize_int_expr}
use Rattle.clauses.proofs.Once.{int_stays, bool_stays}
use Rattle.walk.specs.Item.{is_none}
use Rattle.walks.specs.Tree.{own_var, Place, Tree, var, num, cmp, conj, disj, cross, tied, Trees, nil, cons, IntTree, const, ivar, sum, choice, TermTrees, none as no_terms, term, Splitting, never, below, here, inner, own_splits, splits, splits_int, split_of, split_int, condition_of, resolve, resolve_int, run, run_int}
use Rattle.walks.specs.Distinct.{none_some}
use Rattle.walks.specs.Thirds.{fewer_first, fewer_second, fewer_third}
use Rattle.walks.specs.Resolve.{bool_runs, int_runs, rule_trees, pair_trees, never_int}
use Rattle.walks.specs.Plain.{PlainInt}
use Rattle.walks.specs.Cells.{IsIf, Key as KeyAt, whole, own, Places}
use Rattle.walks.specs.Legal.{LegalInt, LegalTerms, Legal, LegalMembers, legal_bound, legal_int_bound, legal_plain, legal_int_plain}
use Rattle.walks.specs.KeyPlaces.{PlainIf, AgreesWith, list_keyed, keys_plain, keys_int_plain, every_both, at_least, at_most}
use Rattle.walks.specs.KeyAt.{looked_up, pair_keys, rule_choices, pair_choices, pair_within, pair_distinct}
use Rattle.walks.specs.Constant.{Named, branches_are}
use Rattle.walks.specs.Lookup.{Node}
use Rattle.walks.specs.Keys.{Key, keys, keys_members, keys_int, keys_terms, Every, every_none, every_more, every_map, every_append, Within, Written, keys_within, keys_int_within, keys_written, keys_int_written, keys_distinct, int_choices, Choices, ChoicesAll, ChoicesInt, ChoicesTerms, Makes}
use Rattle.walks.specs.Walked.{fixed, Choice, Facts, FactsAll, FactsInt, FactsTerms}

uncount : (n m f c : ℕ) → n ≤ f → f + c ≤ m → m ≡ n → c ≡ 0
uncount n m f c i j e = omega arith

none_behind : (n k : ℕ) → k ≡ 0 → n + k ≡ n
none_behind n k e = omega arith

-- ---- conditions

-- of an If as written: where its condition is a declared variable, that is within the limit
abbrev pub LowVar : IntExpr → Type 0
LowVar e = (v : ℕ) → own_var (condition_of e) ≡ some v → v < max_bools

low_condition : (c : BoolExpr) (l v : ℕ) → Legal c l → own_var c ≡ some v → v < max_bools
unfolding Legal
low_condition (Const b) l v h e = absurd h
low_condition (Var u) l v h e = let z : u ≡ v = cc in omega (arith, h.1, z)
low_condition (NVar k) l v h e = absurd h
low_condition (And ms) l v h e = none_some e
low_condition (Or ms) l v h e = none_some e
low_condition (Not c) l v h e = none_some e
low_condition (Xor a b) l v h e = none_some e
low_condition (Iff a b) l v h e = none_some e
low_condition (Imp a b) l v h e = none_some e
low_condition (Cmp o a b) l v h e = none_some e

mutual
  unfolding Legal keys

  pub keys_low : (e : BoolExpr) (l : ℕ) (m : Splitting) (at n : ℕ) → Legal e l → Every (λ x. LowVar x.written) (keys e m at n)
  keys_low (Const b) l m at n h = every_none
  keys_low (Var v) l m at n h = every_none
  keys_low (NVar k) l m at n h = every_none
  keys_low (And ms) l m at n h = keys_members_low ms (l - 1) m (at + 2) n h.2
  keys_low (Or ms) l m at n h = keys_members_low ms (l - 1) m (at + 2) n h.2
  keys_low (Not e) l m at n h = keys_low e (l - 1) m (at + 1) n h.1
  keys_low (Xor a b) l m at n h = every_append (keys_low a (l - 1) (inner m) (at + 1) (own_splits m + n) h.1) (keys_low b (l - 1) (inner m) (at + 1 + length (encode_bool a)) (own_splits m + n + splits a (inner m)) h.2)
  keys_low (Iff a b) l m at n h = every_append (keys_low a (l - 1) (inner m) (at + 1) (own_splits m + n) h.1) (keys_low b (l - 1) (inner m) (at + 1 + length (encode_bool a)) (own_splits m + n + splits a (inner m)) h.2)
  keys_low (Imp a b) l m at n h = every_append (keys_low a (l - 1) m (at + 1) n h.1) (keys_low b (l - 1) m (at + 1 + length (encode_bool a)) (n + splits a m) h.2)
  keys_low (Cmp o a b) l m at n h = every_append (keys_int_low a (l - 1) (inner m) (at + 2) n h.1) (keys_int_low b (l - 1) (inner m) (at + 2 + length (encode_int a)) (n + splits_int a (inner m)) h.2)

  keys_members_low : (ms : Members) (l : ℕ) (m : Splitting) (at n : ℕ) → LegalMembers ms l → Every (λ x. LowVar x.written) (keys_members ms m at n)
  keys_members_low mnil l m at n h = every_none
  keys_members_low (more e ms) l m at n h = every_append (keys_low e l m at n h.0) (keys_members_low ms l m (at + length (encode_bool e)) (n + splits e m) h.1)

  pub keys_int_low : (e : IntExpr) (l : ℕ) (m : Splitting) (at n : ℕ) → LegalInt e l → Every (λ x. LowVar x.written) (keys_int e m at n)
  keys_int_low (IConst c) l m at n h = every_none
  keys_int_low (IVar v) l m at n h = every_none
  keys_int_low (Linear ts) l m at n h = keys_terms_low ts (l - 1) m (at + 2) n h.1
  keys_int_low (If i c t f) l m at n h =
      let p = at + 1 + length (encode_bool c) in
      every_more (λ v e. low_condition c (l - 1) v h.1 e)
      (every_append (keys_low c (l - 1) m (at + 1) n h.1) (every_append (keys_int_low t (l - 1) m p (n + splits c m) h.2) (keys_int_low f (l - 1) m (p + length (encode_int t)) (n + splits c m + splits_int t m) h.3)))

  keys_terms_low : (ts : Terms) (l : ℕ) (m : Splitting) (at n : ℕ) → LegalTerms ts l → Every (λ x. LowVar x.written) (keys_terms ts m at n)
  keys_terms_low tnil l m at n h = every_none
  keys_terms_low (tmore c e ts) l m at n h = every_append (keys_int_low e l m (at + 1) n h.0) (keys_terms_low ts l m (at + 1 + length (encode_int e)) (n + splits_int e m) h.1)

-- a condition that is a declared variable is so as written
pub own_split : (c : BoolExpr) (m : Splitting) (n v : ℕ) → own_var (split_of c m n) ≡ some v → own_var c ≡ some v
unfolding split_of
own_split (Const b) m n v h = h
own_split (Var u) m n v h = h
own_split (NVar k) m n v h = h
own_split (And ms) m n v h = h
own_split (Or ms) m n v h = h
own_split (Not e) m n v h = h
own_split (Xor a b) never n v h = h
own_split (Xor a b) below n v h = h
own_split (Xor a b) here n v h = h
own_split (Iff a b) never n v h = h
own_split (Iff a b) below n v h = h
own_split (Iff a b) here n v h = h
own_split (Imp a b) m n v h = h
own_split (Cmp o a b) m n v h = h

run_stays : (e : IntExpr) (r r' : Run) → r ≡ r' → ((s : Log) → get_if e (r s).1 ≡ get_if e s) → (s : Log) → get_if e (r' s).1 ≡ get_if e s
run_stays e r r' i h s = subst (λ (x : Run). get_if e (x s).1 ≡ get_if e s) i (h s)

int_run_stays : (e : IntExpr) (r r' : IntRun) → r ≡ r' → ((s : Log) → get_if e (r s).1 ≡ get_if e s) → (s : Log) → get_if e (r' s).1 ≡ get_if e s
int_run_stays e r r' i h s = subst (λ (x : IntRun). get_if e (x s).1 ≡ get_if e s) i (h s)

-- as in Walked
module _ (ds : List Domain) (F : List ℤ) (parted : ℕ → Bool) (K : ℕ → Option IntExpr) (rec cap : ℕ) (with_ifs : Bool) (before : List ℤ) (P : Places ds F PlainInt parted K (fixed ds)) (low : cap < limit) where
  abbrev NodeAt : Place → IntExpr → Type 0
  NodeAt = Node ds F PlainInt parted K (fixed ds) rec cap with_ifs before (Named ds)

  abbrev ChoiceAt : Place → IntExpr → Tree → Tree → IntTree → IntTree → Type 0
  ChoiceAt = Choice ds F parted K rec cap with_ifs before P low

  -- of a key: what is known of its place; a condition that is a declared variable is one within the limit; there are Ifs
  pub record Known (x : Key) : Type 0 where
    pub node : NodeAt x.place x.key
    pub low_var : LowVar x.written
    pub some_ifs : with_ifs ≡ true

  make_choice : Makes ChoiceAt Known
  unfolding encode_int split_int
  make_choice i c t f m at n q =
      let p = at + 1 + length (encode_bool c) in let r = p + length (encode_int t) in
      let k = n + splits c m in let l = k + splits_int t m in
      let c' = split_of c m n in let t' = split_int t m k in let f' = split_int f m l in
      let e = split_int (If i c t f) m n in
      let x = encode_bool c' in let y = encode_int t' in let z = encode_int f' in
      record {
        node = q.node;
        decided = λ s h. rw (sym (int_runs ds t m p k), sym (int_runs ds f m r l)) (branches_are ds t' f' s h);
        opens = λ h. h;
        stays_plain = run_stays e (normalize_bool_expr ds c' false) (run ds (resolve c m (at + 1) n false)) (bool_runs ds c m (at + 1) n false) (bool_stays ds e c' false (fewer_first x y z));
        stays_negated = run_stays e (normalize_bool_expr ds c' true) (run ds (resolve c m (at + 1) n true)) (bool_runs ds c m (at + 1) n true) (bool_stays ds e c' true (fewer_first x y z));
        stays_first = int_run_stays e (normalize_int_expr ds t') (run_int ds (resolve_int t m p k)) (int_runs ds t m p k) (int_stays ds e t' (fewer_second x y z));
        stays_second = int_run_stays e (normalize_int_expr ds f') (run_int ds (resolve_int f m r l)) (int_runs ds f m r l) (int_stays ds e f' (fewer_third x y z));
        low_var = λ v h. q.low_var v (own_split c m n v h);
        some_ifs = q.some_ifs;
      }

  mutual
    unfolding Choices Facts

    facts_of : (t : Tree) → Choices ChoiceAt t → Facts ds F parted K rec cap with_ifs before P low t
    facts_of (var v g) h = tt
    facts_of (num n g) h = tt
    facts_of (cmp o a b g) h = (int_facts_of a h.0, int_facts_of b h.1)
    facts_of (conj ts) h = all_facts_of ts h
    facts_of (disj ts) h = all_facts_of ts h
    facts_of (cross ts us) h = (all_facts_of ts h.0, all_facts_of us h.1)
    facts_of (tied v t u) h = (facts_of t h.0, facts_of u h.1)

    all_facts_of : (ts : Trees) → ChoicesAll ChoiceAt ts → FactsAll ds F parted K rec cap with_ifs before P low ts
    all_facts_of nil h = tt
    all_facts_of (cons t ts) h = (facts_of t h.0, all_facts_of ts h.1)

    int_facts_of : (e : IntTree) → ChoicesInt ChoiceAt e → FactsInt ds F parted K rec cap with_ifs before P low e
    int_facts_of (const c) h = tt
    int_facts_of (ivar v) h = tt
    int_facts_of (sum ts) h = term_facts_of ts h
    int_facts_of (choice i p e c d t f) h = (h.0, facts_of c h.1, facts_of d h.2, int_facts_of t h.3, int_facts_of f h.4)

    term_facts_of : (ts : TermTrees) → ChoicesTerms ChoiceAt ts → FactsTerms ds F parted K rec cap with_ifs before P low ts
    term_facts_of no_terms h = tt
    term_facts_of (term k e ts) h = (int_facts_of e h.0, term_facts_of ts h.1)

  -- ---- from a list

  module _ {xs : List Key} {at stop n next size : ℕ} (within : Every (Within at stop n next size) xs) (written : Every (Written F) xs) (plain : Every PlainIf xs) (vars : Every (λ x. LowVar x.written) xs)
      (from : folded ≤ at) (to : stop ≤ folded_end) (agree : Every (AgreesWith parted with_ifs) xs) (keyed : Every (λ x. x.place.whole ≡ false → K x.place.at ≡ some x.key) xs) where
    known_one : (x : Key) → Within at stop n next size x → Written F x → PlainIf x → LowVar x.written → AgreesWith parted with_ifs x → (x.place.whole ≡ false → K x.place.at ≡ some x.key) → Known x
    known_one x w r p v a k = record {
      node = record {
        key = key_by x.place.whole refl;
        kind = a.0;
        size = λ h. r.size ∙ ap (λ (e : IntExpr). length (encode_int e)) (sym (r.as_written h));
      };
      low_var = v;
      some_ifs = a.1;
    }
      where
        key_by : (b : Bool) → x.place.whole ≡ b → KeyAt ds F PlainInt parted K (fixed ds) x.place.at x.key
        key_by true h =
            let e : x.key ≡ x.written = r.as_written h in
            whole (record {
              is_if = subst IsIf (sym e) p.0;
              plain = subst (λ (z : IntExpr). PlainInt z) (sym e) p.1;
              words = subst (λ (z : IntExpr). Has F x.place.at (encode_int z)) (sym e) r.stands;
              low = at_least at x.place.at x.place.at refl from w.from;
              high = at_most stop x.place.at x.place.at refl to w.to;
            }) (a.0 ∙ ap not h)
        key_by false h = own (k h)

    pub list_known : Every Known xs
    list_known = every_map (λ x h. known_one x h.0 h.1.0 h.1.1.0 h.1.1.1.0 h.1.1.1.1.0 h.1.1.1.1.1) (every_both within (every_both written (every_both plain (every_both vars (every_both agree keyed)))))

-- ---- a rule, a pair, a column

module _ (ds : List Domain) (F : List ℤ) (parted : ℕ → Bool) (rec cap : ℕ) (with_ifs : Bool) (before : List ℤ) (low : cap < limit) where
  abbrev PlacesOf : List Key → Type 0
  PlacesOf xs = Places ds F PlainInt parted (looked_up xs) (fixed ds)

  pub rule_facts : (e : BoolExpr) (l at n : ℕ) → Legal e l → Has F at (encode_bool e) → folded ≤ at → at + length (encode_bool e) ≤ folded_end → Every (AgreesWith parted with_ifs) (keys e below at n)
      → (P : PlacesOf (keys e below at n)) → FactsAll ds F parted (looked_up (keys e below at n)) rec cap with_ifs before P low (rule_trees e at n)
  rule_facts e l at n h d i j a P =
      let xs = keys e below at n in
      let b = legal_bound e l h in
      let k = list_known ds F parted (looked_up xs) rec cap with_ifs before P low (keys_within e below at n b) (keys_written F e below at n d) (keys_plain e below at n (legal_plain e l h)) (keys_low e l below at n h) i j a (list_keyed xs (keys_distinct e below at n b)) in
      all_facts_of ds F parted (looked_up xs) rec cap with_ifs before P low (rule_trees e at n) (rule_choices (ChoiceAt ds F parted (looked_up xs) rec cap with_ifs before P low) (Known ds F parted (looked_up xs) rec cap with_ifs before P low) (make_choice ds F parted (looked_up xs) rec cap with_ifs before P low) e at n k)

  -- p and q: where its sides stand
  pub pair_facts : (a b : IntExpr) (l p q n : ℕ) → LegalInt a l → LegalInt b l → Has F p (encode_int a) → Has F q (encode_int b) → folded ≤ p → p + length (encode_int a) ≤ q → q + length (encode_int b) ≤ folded_end → Every (AgreesWith parted with_ifs) (pair_keys a b p q n)
      → (P : PlacesOf (pair_keys a b p q n)) → FactsAll ds F parted (looked_up (pair_keys a b p q n)) rec cap with_ifs before P low (pair_trees a b p q n)
  pair_facts a b l p q n h g d c i o j w P =
      let xs = pair_keys a b p q n in
      let u = legal_int_bound a l h in let v = legal_int_bound b l g in
      let m = n + splits_int a here in
      let k = list_known ds F parted (looked_up xs) rec cap with_ifs before P low (pair_within a b p q n u v o) (every_append (keys_int_written F a here p n d) (keys_int_written F b here q m c))
      (every_append (keys_int_plain a here p n (legal_int_plain a l h)) (keys_int_plain b here q m (legal_int_plain b l g))) (every_append (keys_int_low a l here p n h) (keys_int_low b l here q m g)) i j w (list_keyed xs (pair_distinct a b p q n u v o)) in
      all_facts_of ds F parted (looked_up xs) rec cap with_ifs before P low (pair_trees a b p q n) (pair_choices (ChoiceAt ds F parted (looked_up xs) rec cap with_ifs before P low) (Known ds F parted (looked_up xs) rec cap with_ifs before P low) (make_choice ds F parted (looked_up xs) rec cap with_ifs before P low) a b p q n k)

  -- nothing of a column is split: each If is looked up as written, whatever else is
  none_split : (e : IntExpr) (at n : ℕ) → int_bound e ≤ 0 → Every (λ x. x.place.whole ≡ true) (keys_int e never at n)
  none_split e at n b = every_map (λ x w. w.flag ∙ ap is_none (uncount n (n + splits_int e never) x.first x.count w.low w.high (none_behind n (splits_int e never) (never_int e)))) (keys_int_within e never at n b)

  pub column_facts : (K : ℕ → Option IntExpr) (e : IntExpr) (l at n : ℕ) → LegalInt e l → Has F at (encode_int e) → folded ≤ at → at + length (encode_int e) ≤ folded_end → Every (AgreesWith parted with_ifs) (keys_int e never at n)
      → (P : Places ds F PlainInt parted K (fixed ds)) → FactsInt ds F parted K rec cap with_ifs before P low (resolve_int e never at n)
  column_facts K e l at n h d i j a P =
      let b = legal_int_bound e l h in
      let k = list_known ds F parted K rec cap with_ifs before P low (keys_int_within e never at n b) (keys_int_written F e never at n d) (keys_int_plain e never at n (legal_int_plain e l h)) (keys_int_low e l never at n h) i j a
      (every_map (λ x w z. no_bool (sym z ∙ w)) (none_split e at n b)) in
      int_facts_of ds F parted K rec cap with_ifs before P low (resolve_int e never at n) (int_choices (ChoiceAt ds F parted K rec cap with_ifs before P low) (Known ds F parted K rec cap with_ifs before P low) (make_choice ds F parted K rec cap with_ifs before P low) e never at n k)
