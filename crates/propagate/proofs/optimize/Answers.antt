use native.Mathlib.Omega.{arith}
use Rattle.propagate.proofs.PassLaws.{ints_word, some_domains, count_word, at_fits, passes_ready, optimized}
use Rattle.propagate.proofs.optimize.Goals as goal

pub number-ni-requires : goal.number-ni-requires
number-ni-requires c = ints_word _ c.requires.it c.requires.is c.requires.well

pub domains_end-at-requires : goal.domains_end-at-requires
domains_end-at-requires c = some_domains _ c.requires.it c.requires.is c.requires.well _ c.number-ni.ensures.0

pub number-count-requires : goal.number-count-requires
number-count-requires c = count_word _ c.requires.it c.requires.is c.requires.well _ c.number-ni.ensures.0 _ c.domains_end-at.ensures

pub overflow_add-at : goal.overflow_add-at
overflow_add-at c = let q = at_fits _ c.requires.it c.requires.is c.requires.well _ c.number-ni.ensures.0 _ c.domains_end-at.ensures in omega (arith, c.well_formed.0.0)

pub run_passes-requires : goal.run_passes-requires
run_passes-requires c = passes_ready _ c.requires.it c.requires.is c.requires.well _ c.number-ni.ensures.0 _ c.domains_end-at.ensures _ c.number-count.ensures.0 _ _ c.requires.short c.requires.room c.fill_open.auto.work c.fill_open.ensures

pub returns : goal.returns
returns c = λ p is well. optimized _ p is well _ c.number-ni.ensures.0 _ c.domains_end-at.ensures _ c.number-count.ensures.0 _ _ _ _ _ c.requires.short c.requires.room c.fill_open.auto.work c.fill_open.ensures c.run_passes.ensures
