-- What is written of a form does not depend on the declared domains: only the bounds of a sum's numbers do.
use Rattle.std.specs.Prelude.{◌≡◌, refl, List}
use Rattle.std.proofs.Common.{ap}
use Rattle.syntax.specs.Syntax.{Domain}
use Rattle.walks.specs.Form.{Form, var, num, cmp, conj, disj, cross, tied, Forms, nil, cons, IntForm, const, ivar, sum, choice, TermForms, none as no_terms, term}
use Rattle.walks.specs.Item.{IntItem, TermsItem, ivar_item, comparison, cmp_item, conj_item, disj_item, no_terms_item, term_item, sum_item, if_making, if_behind, if_number, choice_item, form_item, form_items, form_int_item, form_terms_item}

-- all but the bounds
pub record Alike (a b : IntItem) : Type 0 where
  pub behind : a.behind ≡ b.behind
  pub total : a.total ≡ b.total
  pub adds : a.adds ≡ b.adds
  pub added : a.added ≡ b.added

record AlikeTerms (a b : TermsItem) : Type 0 where
  pub behind : a.behind ≡ b.behind
  pub total : a.total ≡ b.total
  pub adds : a.adds ≡ b.adds
  pub added : a.added ≡ b.added

module _ (ds es : List Domain) where
  mutual
    unfolding form_item comparison cmp_item ivar_item no_terms_item term_item sum_item if_making if_behind if_number choice_item

    pub same_item : (t : Form) → form_item ds t ≡ form_item es t
    same_item (var v g) = refl
    same_item (num k g) = refl
    same_item (cmp o a b g) =
        let x = alike a in
        let y = alike b in
        rw (x.behind, x.total, x.adds, x.added, y.behind, y.total, y.adds, y.added) refl
    same_item (conj ts) = ap conj_item (same_items ts)
    same_item (disj ts) = ap disj_item (same_items ts)
    same_item (cross ts us) = rw (same_items ts, same_items us) refl
    same_item (tied v t u) = rw (same_item t, same_item u) refl

    pub same_items : (ts : Forms) → form_items ds ts ≡ form_items es ts
    same_items nil = refl
    same_items (cons t ts) = rw (same_item t, same_items ts) refl

    pub alike : (e : IntForm) → Alike (form_int_item ds e) (form_int_item es e)
    alike (const c) = record { behind = refl; total = refl; adds = refl; added = refl }
    alike (ivar v) = record { behind = refl; total = refl; adds = refl; added = refl }
    alike (sum ts) =
        let x = alike_terms ts in
        record { behind = x.behind; total = rw x.total refl; adds = x.adds; added = x.added }
    alike (choice p o c d t f) =
        let x = alike t in
        let y = alike f in
        record {
          behind = rw (same_item c, same_item d, x.behind, x.total, y.behind, y.total) refl;
          total = rw (same_item c, same_item d, x.behind, x.total, y.behind, y.total) refl;
          adds = rw (same_item c, same_item d, x.behind, x.total, x.adds, y.behind, y.total, y.adds) refl;
          added = rw (same_item c, same_item d, x.behind, x.total, x.added, y.behind, y.total, y.added) refl;
        }

    alike_terms : (ts : TermForms) → AlikeTerms (form_terms_item ds ts) (form_terms_item es ts)
    alike_terms no_terms = record { behind = refl; total = refl; adds = refl; added = refl }
    alike_terms (term k e ts) =
        let x = alike e in
        let y = alike_terms ts in
        record {
          behind = rw (x.behind, y.behind) refl;
          total = rw (x.behind, x.total, y.total) refl;
          adds = rw (x.behind, x.adds, y.adds) refl;
          added = rw (x.behind, x.added, y.added) refl;
        }
