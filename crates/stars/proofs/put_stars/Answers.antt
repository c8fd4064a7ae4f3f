use mathlib.Core.Path.{◌≡◌}
use mathlib.Core.Logic.{⊎_elim}
use native.Mathlib.Omega.{arith}
use lib.ListN.{drop}
use Rattle.walk.specs.declared.Mode.TheVariants.{Pool, One, Two, Each}
use Rattle.rows.specs.Stars.{is_single, is_longer}
use Rattle.stars.proofs.Laws.{lines_none, behind_after}
use Rattle.stars.proofs.Whole.{count_few, rows_at, table_done}
use Rattle.stars.proofs.put_stars.Goals as goal

pub put_pool-requires : goal.put_pool-requires
put_pool-requires c =
    let s = c.count_stars-s.ensures in
    let x = count_few is_longer c.args.n c.args.k (drop c.args.at c.args.work.now) in
    let y = count_few is_single c.args.n c.args.k (drop c.args.at c.args.work.now) in (
      rows_at c.args.work.now c.args.at c.args.n c.args.k c.args.cols c.args.m c.requires.0,
      c.requires.0.next,
      omega (arith, x, s.1.1, c.requires.0.few),
      omega (arith, y, s.1.0, c.requires.0.few),
      behind_after c.requires.1 c.put_long_rows-w.ensures,
    )

pub returns-in-Pool : goal.returns-in-Pool
returns-in-Pool c =
    let s = c.count_stars-s.ensures in
    ⊎_elim
    (λ (e : c.mode_of-mode.result ≡ Pool). table_done c.args.work.now c.args.at c.args.n c.args.k c.args.cols c.args.m c.requires.0 c.args.out.now c.args.o c.args.c _ _ _ _ _ _ c.mode_of-mode.result Pool c.count_stars-s.result.longer c.count_stars-s.result.single c.requires.1.room.room c.mode_of-mode.ensures s.1.1 s.1.0 e c.put_long_rows-w.ensures c.put_pool.ensures)
    (λ (e : c.mode_of-mode.result ≡ Each). table_done c.args.work.now c.args.at c.args.n c.args.k c.args.cols c.args.m c.requires.0 c.args.out.now c.args.o c.args.c _ _ _ _ _ _ c.mode_of-mode.result Each c.count_stars-s.result.longer c.count_stars-s.result.single c.requires.1.room.room c.mode_of-mode.ensures s.1.1 s.1.0 e c.put_long_rows-w.ensures c.put_pool.ensures)
    c.in-Pool.is

pub returns-in-One : goal.returns-in-One
returns-in-One c =
    let s = c.count_stars-s.ensures in
    ⊎_elim
    (λ (e : c.mode_of-mode.result ≡ One). table_done c.args.work.now c.args.at c.args.n c.args.k c.args.cols c.args.m c.requires.0 c.args.out.now c.args.o c.args.c _ _ _ _ _ _ c.mode_of-mode.result One c.count_stars-s.result.longer c.count_stars-s.result.single c.requires.1.room.room c.mode_of-mode.ensures s.1.1 s.1.0 e c.put_long_rows-w.ensures (lines_none (behind_after c.requires.1 c.put_long_rows-w.ensures)))
    (λ (e : c.mode_of-mode.result ≡ Two). table_done c.args.work.now c.args.at c.args.n c.args.k c.args.cols c.args.m c.requires.0 c.args.out.now c.args.o c.args.c _ _ _ _ _ _ c.mode_of-mode.result Two c.count_stars-s.result.longer c.count_stars-s.result.single c.requires.1.room.room c.mode_of-mode.ensures s.1.1 s.1.0 e c.put_long_rows-w.ensures (lines_none (behind_after c.requires.1 c.put_long_rows-w.ensures)))
    c.in-One.is
